-- The search for the first symbol that qualifies, with its walk over the blockers. Assumes nothing.
use Rattle.std.specs.Prelude.{Option, Some, None}
use Rattle.std.specs.Option.{is_some}
use Prim.Native.Nat.{ℕ, zero, suc, ◌+◌, ◌-◌, ◌≤◌, ◌<◌, min}
use mathlib.Core.Path.{◌≡◌, refl, sym, ap, ◌∙◌}
use mathlib.Core.Bool.{Bool, true, false}
use mathlib.Core.List.{List, [], ◌∷◌}
use native.Mathlib.Decide.{ℕ_discrete}
use native.Mathlib.Omega.{arith}
use borrow.Author.Tests.{eqb-true, eqb-false}
use lib.Dec.{eqb}
use lib.ListN.{length}
use Rattle.lists.specs.Tests.{◌or◌, neg}
use Rattle.lists.specs.Lists.{any, first_from}
use Rattle.lists.proofs.Lists.{first_from_here, first_from_later, first_from_nowhere}
use Rattle.lists.proofs.Tests.{or_first, or_second, or_rest}
use Rattle.masks.specs.Sets.{subset, lowest_absent}
use Rattle.automata.specs.Image.{symbols_of, initial_of, rows_of}
use Rattle.automata.specs.Automaton.{backward}
use Rattle.automata.specs.declared.image.Symbol.{Symbol}
use Rattle.automata.specs.declared.image.Head.{Head}
use Rattle.automata.specs.Answers.{ReadAs}
use Rattle.automata.proofs.Reading.{head_initial}
use Rattle.machine.specs.Machine.{Blocker, covers, blocked, settled, qualifies}
use Rattle.machine.specs.Lent.{BlockerRoom, blocker_at, blockers_from, unstamped_room, blockers_in}
use Rattle.machine.specs.Why.{first_covering, absent_reason, why, is_reason}
use Rattle.machine.specs.Runs.{system_of}
use Rattle.machine.proofs.Reasons.{blocked_by_reason}
use Rattle.blockers.specs.Answers.{reason_of, Skips}
use Rattle.blockers.specs.declared.reasons.Reason.{Reason}
use Rattle.blockers.proofs.Walks.{reason_there, one_told}
use Rattle.choices.specs.Found.{found_of}

-- one of some blockers passes a test, or none does
one_passes : (test : Blocker → Bool) (room : BlockerRoom) (count at i : ℕ) → at ≤ i → i < at + count → test (blocker_at room i) ≡ true
    → any test (blockers_from room count at) ≡ true
unfolding any blockers_from
one_passes test room zero at i l h e = absurd (omega arith)
one_passes test room (suc count) at i l h e =
    elim (ℕ_discrete i at) [ yes s ↦ or_first _ _ (rw s at e) | no n ↦ or_second _ _ (one_passes test room count (suc at) i (omega arith) (omega arith) e) ]

none_passes : (test : Blocker → Bool) (room : BlockerRoom) (count at : ℕ) → ((i : ℕ) → at ≤ i → i < at + count → test (blocker_at room i) ≡ false)
    → any test (blockers_from room count at) ≡ false
unfolding any blockers_from
none_passes test room zero at none = refl
none_passes test room (suc count) at none =
    or_rest _ _ _ (none at (omega arith) (omega arith)) (none_passes test room count (suc at) (λ i l h. none i (omega arith) (omega arith)))

-- whether there is a reason, and whether the case is blocked
module _ (initial : ℕ) (table : List Blocker) (below P : ℕ) where
  bottom_blocked : eqb below 0 ≡ true → (r : Option Reason) → reason_of r ≡ absent_reason (lowest_absent initial P) → is_some r ≡ blocked initial table below P
  unfolding why
  bottom_blocked b r e =
      reason_there r ∙ ap is_reason (e ∙ sym (rw (eqb-true below 0 b))) ∙ blocked_by_reason initial table below P

  above_blocked : eqb below 0 ≡ false → any (covers below P) table ≡ blocked initial table below P
  unfolding blocked
  above_blocked b = at below (eqb-false below 0 b)
    where
      at : (i : ℕ) → (i ≡ 0 → ⊥) → any (covers i P) table ≡ blocked initial table i P
      at zero n = absurd (n refl)
      at (suc i) n = refl

-- what the search is to find
abbrev pub first_found : List ℕ → List Blocker → ℕ → ℕ → Option (Symbol × ℕ)
first_found image table below X = found_of (system_of image) X (first_from (qualifies (system_of image) table below X) (symbols_of image) 0)

-- before symbol s none was found, and the symbols from s on are left
pub record SymbolsTried (image : List ℕ) (table : List Blocker) (below X symbols s : ℕ) : Type 0 where
  pub left : first_from (qualifies (system_of image) table below X) (symbols - s) s
      ≡ first_from (qualifies (system_of image) table below X) (symbols_of image) 0

module _ {image : List ℕ} {table : List Blocker} {below X symbols s : ℕ} (tried : SymbolsTried image table below X symbols s) where
  pub tried_all : symbols ≤ s → None ≡ first_found image table below X
  unfolding found_of
  tried_all l = sym (rw (← tried.left, first_from_nowhere (qualifies (system_of image) table below X) symbols s l))

  module _ (P : ℕ) (l : s < symbols) (back : P ≡ backward (rows_of image s) X) where
    goes : subset P X or blocked (initial_of image) table below P ≡ true → SymbolsTried image table below X symbols (s + 1)
    unfolding neg qualifies settled
    goes e = record { left = sym (first_from_later (qualifies (system_of image) table below X) symbols s l (rw (← back, e))) ∙ tried.left }

    finds : subset P X or blocked (initial_of image) table below P ≡ false → Some (record { 0 = s }, P) ≡ first_found image table below X
    unfolding found_of neg qualifies settled
    finds e = sym (rw (← tried.left, first_from_here (qualifies (system_of image) table below X) symbols s l (rw (← back, e)), back))

    module _ (inside : Bool) (test : inside ≡ subset P X) where
      pub try_inside : inside ≡ true → SymbolsTried image table below X symbols (s + 1)
      try_inside t = goes (or_first _ _ (sym test ∙ t))

      module _ (outside : inside ≡ false) {head : Head} (read : ReadAs image head) (bottom : Bool) (at_bottom : bottom ≡ eqb below 0) where
        module _ (low : bottom ≡ true) (r : Option Reason) (start : reason_of r ≡ absent_reason (lowest_absent head.initial P)) (told : Bool)
            (tells : told ≡ is_some r) where
          by_initial : blocked (initial_of image) table below P ≡ told
          by_initial =
              rw (← head_initial read) (sym (tells ∙ bottom_blocked head.initial table below P (sym at_bottom ∙ low) r start))

          pub try_lacking : told ≡ true → SymbolsTried image table below X symbols (s + 1)
          try_lacking t = goes (or_second _ _ (by_initial ∙ t))

          pub find_bottom : told ≡ false → Some (record { 0 = s }, P) ≡ first_found image table below X
          find_bottom f = finds (or_rest _ _ _ (sym test ∙ outside) (by_initial ∙ f))

-- the walk over the blockers for one symbol, before place i: none before it covers the backward set
pub skips_on : {masks levels : List ℕ} {below P i : ℕ} (b : Bool) (here : Option Reason) → Skips masks levels below P 0 i → i < length masks
    → length masks ≡ length levels → reason_of here ≡ first_covering below P i (blocker_at (unstamped_room masks levels) i ∷ []) → b ≡ is_some here
    → b ≡ false → Skips masks levels below P 0 (i + 1)
skips_on {masks} {levels} {below} {P} {i} b here skips l paired r e f =
    record { begins = omega arith; few = omega arith; missed = λ k a h. by k h (ℕ_discrete k i) }
  where
    by : (k : ℕ) → k < i + 1 → Dec (k ≡ i) → covers below P (blocker_at (unstamped_room masks levels) k) ≡ false
    by k h (yes s) = rw s (one_told below P i _ here b r e ∙ f)
    by k h (no n) = skips.missed k (omega arith) (omega arith)

module _ {image : List ℕ} (masks levels : List ℕ) {below X symbols s : ℕ} (tried : SymbolsTried image (blockers_in masks levels) below X symbols s) (P : ℕ)
    (l : s < symbols) (back : P ≡ backward (rows_of image s) X) (inside : Bool) (test : inside ≡ subset P X) (outside : inside ≡ false) (bottom : Bool)
    (at_bottom : bottom ≡ eqb below 0) (high : bottom ≡ false) (paired : length masks ≡ length levels) (i : ℕ) where
  pub try_covered : (b : Bool) (here : Option Reason) → i < length masks
      → reason_of here ≡ first_covering below P i (blocker_at (unstamped_room masks levels) i ∷ []) → b ≡ is_some here → b ≡ true
      → SymbolsTried image (blockers_in masks levels) below X symbols (s + 1)
  try_covered b here h r e t =
      goes tried P l back
      (or_second _ _
      (sym (above_blocked (initial_of image) (blockers_in masks levels) below P (sym at_bottom ∙ high))
      ∙ one_passes (covers below P) (unstamped_room masks levels) (min (length masks) (length levels)) 0 i (omega arith) (omega arith) (one_told below P i _ here b r e ∙ t)))

  pub find_open : Skips masks levels below P 0 i → length masks ≤ i
      → Some (record { 0 = s }, P) ≡ first_found image (blockers_in masks levels) below X
  find_open skips h =
      finds tried P l back
      (or_rest _ _ _ (sym test ∙ outside)
      (sym (above_blocked (initial_of image) (blockers_in masks levels) below P (sym at_bottom ∙ high))
      ∙ none_passes (covers below P) (unstamped_room masks levels) (min (length masks) (length levels)) 0 (λ k a b. skips.missed k a (omega arith))))
