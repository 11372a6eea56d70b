-- What afa_why tells, by the answer, and that no blocker covers a case at a level above what a table of levels can hold. Assumes nothing.
use Prim.Native.Nat.{ℕ, zero, suc, ◌<◌}
use mathlib.Core.Path.{◌≡◌, refl, sym, ap, subst, ◌∙◌}
use mathlib.Core.Bool.{false}
use mathlib.Core.List.{List, [], ◌∷◌}
use native.Mathlib.Omega.{arith}
use borrow.Author.Tests.{lt-leb}
use mir.Syntax.{w32}
use mir.Val.{Fits}
use lib.ListN.{get_or}
use Rattle.std.specs.Prelude.{Option, Some, None}
use Rattle.lists.specs.Tests.{◌and◌}
use Rattle.masks.specs.declared.State.{State}
use Rattle.machine.specs.Machine.{Blocker, covers}
use Rattle.machine.specs.Lent.{BlockerRoom, blocker_at, blockers_from, blockers_in}
use Rattle.machine.specs.Why.{first_covering, why, nothing}
use Rattle.machine.proofs.Reasons.{first_misses}
use Rattle.blockers.specs.Answers.{reason_of}
use Rattle.blockers.specs.declared.Level.{Level}
use Rattle.blockers.specs.declared.reasons.Reason.{Reason}
use Rattle.blockers.specs.declared.reasons.Reason.TheVariants.{ByBlocker, ByStart}
use Rattle.exports.specs.Interface.{reason_number, reason_values, Told}

-- a blocker of a lower level does not cover the case
low_misses : (level case : ℕ) (blocker : Blocker) → blocker.level < level → covers level case blocker ≡ false
unfolding covers ◌and◌
low_misses level case blocker l = rw (lt-leb level blocker.level l)

-- a level above each blocker's
none_so_high : (room : BlockerRoom) (level case count at : ℕ) → ((i : ℕ) → get_or room.levels i 0 < level)
    → first_covering level case at (blockers_from room count at) ≡ nothing
unfolding first_covering blockers_from
none_so_high room level case zero at low = refl
none_so_high room level case (suc count) at low =
    first_misses level case at (blocker_at room at) (blockers_from room count (suc at)) misses ∙ none_so_high room level case count (suc at) low
  where
    misses : covers level case (blocker_at room at) ≡ false
    misses = low_misses level case (blocker_at room at) (low at)

module _ (initial : ℕ) (masks levels : List ℕ) (level case : ℕ) where
  -- no level of 32 bits
  pub told_above : ((i : ℕ) → Fits w32 (get_or levels i 0)) → (level < 4294967296 → ⊥) → Told 0 (0 ∷ 0 ∷ []) (why initial (blockers_in masks levels) level case)
  unfolding why reason_number reason_values
  told_above fits high =
      let e = none level (omega (arith, high)) in
      record { numbered = sym (ap reason_number e); valued = sym (ap reason_values e) }
    where
      none : (i : ℕ) → 4294967295 < i → why initial (blockers_in masks levels) i case ≡ nothing
      none zero h = absurd (omega arith)
      none (suc i) h = none_so_high _ (suc i) case _ 0 (λ k. omega (arith, (fits k).fits, h))

  -- by the answer, of a level that is one
  module _ {number : ℕ} (same : number ≡ level) (answer : Option Reason) (e : reason_of answer ≡ why initial (blockers_in masks levels) number case) where
    told : {tells : ℕ} {values : List ℕ} → Told tells values (reason_of answer) → Told tells values (why initial (blockers_in masks levels) level case)
    told {tells} {values} =
        subst (Told tells values) (e ∙ ap (λ (i : ℕ). why initial (blockers_in masks levels) i case) same)

    pub told_blocker : (place : ℕ) (its : Level) {value : ℕ} → answer ≡ Some (ByBlocker place its) → value ≡ its.0
        → Told 1 (place ∷ value ∷ []) (why initial (blockers_in masks levels) level case)
    unfolding reason_of reason_number reason_values
    told_blocker place its r v = told (rw (r, v) (record { numbered = refl; valued = refl }))

    pub told_start : (q : State) {value : ℕ} → answer ≡ Some (ByStart q) → value ≡ q.0
        → Told 2 (value ∷ 0 ∷ []) (why initial (blockers_in masks levels) level case)
    unfolding reason_of reason_number reason_values
    told_start q r v = told (rw (r, v) (record { numbered = refl; valued = refl }))

    pub told_nothing : answer ≡ None → Told 0 (0 ∷ 0 ∷ []) (why initial (blockers_in masks levels) level case)
    unfolding reason_of reason_number reason_values
    told_nothing r = told (rw r (record { numbered = refl; valued = refl }))
