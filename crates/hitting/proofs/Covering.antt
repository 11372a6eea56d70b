-- The set b of a symbol, by the tests of the code: whether the backward set lies in X, and the reason why it is blocked. Assumes nothing.
use Prim.Native.Nat.{ℕ, zero, suc, ◌+◌, ◌^◌, ◌<◌, min}
use mathlib.Core.Path.{◌≡◌, sym, ap, ◌∙◌}
use mathlib.Core.Bool.{Bool, true, false}
use mathlib.Core.List.{List, ◌∷◌}
use native.Mathlib.Nat.{zero-add}
use native.Mathlib.Omega.{arith}
use lib.Bits.{or_zero_l}
use lib.ListN.{length, length-append, get_or}
use Rattle.lists.specs.Tests.{choose}
use Rattle.std.specs.Prelude.{Option, Some, None}
use Rattle.automata.specs.Image.{states_of, initial_of}
use Rattle.automata.specs.Answers.{ReadAs}
use Rattle.automata.specs.declared.image.Head.{Head}
use Rattle.automata.proofs.Reading.{head_states, head_initial}
use Rattle.masks.specs.Sets.{subset, union, without, single, full}
use Rattle.masks.specs.declared.State.{State}
use Rattle.masks.proofs.Laws.{below_within, within_members}
use Rattle.machine.specs.Lent.{BlockerRoom, unstamped_room, blockers_from, blockers_in, column, mask_of}
use Rattle.machine.specs.Why.{why}
use Rattle.machine.specs.Hitting.{cover_by, cover}
use Rattle.machine.proofs.LentTables.{blockers_length}
use Rattle.machine.proofs.Reasons.{why_tells}
use Rattle.blockers.specs.Answers.{reason_of}
use Rattle.blockers.specs.declared.Level.{Level}
use Rattle.blockers.specs.declared.reasons.Reason.{Reason}
use Rattle.blockers.specs.declared.reasons.Reason.TheVariants.{ByBlocker, ByStart}

-- the masks of blockers are those of their room
masks_from : (room : BlockerRoom) (count at i : ℕ) → i < count → get_or (column mask_of (blockers_from room count at)) i 0 ≡ get_or room.masks (at + i) 0
unfolding column blockers_from
masks_from room zero at i l = absurd (omega arith)
masks_from room (suc count) at zero l = let e : at + 0 ≡ at = omega arith in rw e
masks_from room (suc count) at (suc i) l =
    let e : at + suc i ≡ suc at + i = omega arith in masks_from room count (suc at) i (omega arith) ∙ rw e

column_masks : (room : BlockerRoom) (count i : ℕ) → i < count → get_or (column mask_of (blockers_from room count 0)) i 0 ≡ get_or room.masks i 0
column_masks room count i l = masks_from room count 0 i l ∙ ap (λ (k : ℕ). get_or room.masks k 0) (zero-add i)

-- the reason why the backward set P is blocked: the blocker at a place, or the lowest initial state absent
module _ (initial : ℕ) (masks levels : List ℕ) (below P : ℕ) (answer : Option Reason) (told : reason_of answer ≡ why initial (blockers_in masks levels) below P)
    (reason : Reason) (some : answer ≡ Some reason) where
  place_in : (place : ℕ) (level : Level) → reason ≡ ByBlocker place level → place < min (length masks) (length levels)
  unfolding reason_of
  place_in place level is =
      let first = ((why_tells initial (blockers_in masks levels) below P).by_blocker place level.0
      (sym told ∙ ap reason_of (some ∙ ap Some is))).1 in
      omega (
        arith,
        first.counted,
        blockers_length (unstamped_room masks levels) (min (length masks) (length levels)) 0,
        ap length first.first.stands,
        length-append first.first.before (first.blocker ∷ first.first.after),
      )

  pub cover_place : (place : ℕ) (level : Level) → reason ≡ ByBlocker place level → place < length masks
  cover_place place level is = omega (arith, place_in place level is)

  pub cover_state : (q : State) → reason ≡ ByStart q → initial < 2 ^ 64 → q.0 < 64
  unfolding reason_of
  cover_state q is narrow =
      let start = ((why_tells initial (blockers_in masks levels) below P).by_start q.0 (sym told ∙ ap reason_of (some ∙ ap Some is))).1 in
      within_members 64 initial (below_within 64 initial narrow) q.0 start.initially

module _ {image : List ℕ} {head : Head} (read : ReadAs image head) (masks levels : List ℕ) (below X P : ℕ) (inside : Bool) (test : inside ≡ subset P X) where
  abbrev covered : ℕ
  covered = cover (states_of image) (initial_of image) (blockers_in masks levels) below X P

  pub cover_inside : inside ≡ true → X ≡ covered
  unfolding cover choose
  cover_inside t = sym (rw (← test, t))

  module _ (f : inside ≡ false) (answer : Option Reason) (told : reason_of answer ≡ why head.initial (blockers_in masks levels) below P) where
    by_reason : cover_by head.states (blockers_in masks levels) X (reason_of answer) ≡ covered
    unfolding cover choose
    by_reason = sym (rw (← test, f, ← head_states read, ← head_initial read, ← told))

    pub cover_nothing : answer ≡ None → X ≡ covered
    unfolding reason_of cover_by
    cover_nothing is = sym (ap (cover_by head.states (blockers_in masks levels) X) (ap reason_of is)) ∙ by_reason

    module _ (reason : Reason) (some : answer ≡ Some reason) where
      pub cover_blocker : (place : ℕ) (level : Level) → reason ≡ ByBlocker place level → get_or masks place 0 ≡ covered
      unfolding reason_of cover_by
      cover_blocker place level is =
          let here = place_in head.initial masks levels below P answer told reason some place level is in
          sym (column_masks (unstamped_room masks levels) (min (length masks) (length levels)) place here)
          ∙ sym (ap (cover_by head.states (blockers_in masks levels) X) (ap reason_of (some ∙ ap Some is)))
          ∙ by_reason

      pub cover_start : (q : State) → reason ≡ ByStart q → (all one r : ℕ) → all ≡ full head.states → one ≡ union 0 (single q.0) → r ≡ without all one
          → r ≡ covered
      unfolding reason_of cover_by union
      cover_start q is all one r a o e =
          e
          ∙ rw (a, o, or_zero_l (single q.0))
          (sym (ap (cover_by head.states (blockers_in masks levels) X) (ap reason_of (some ∙ ap Some is))) ∙ by_reason)
