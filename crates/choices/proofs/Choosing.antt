-- Whether a hint is taken: by its place among the hints, and by whether it passes. Assumes nothing.
use Prim.Native.Nat.{ℕ, zero, suc, ◌≤◌, ◌<◌}
use mathlib.Core.Path.{◌≡◌, refl, sym, ◌∙◌}
use mathlib.Core.Bool.{Bool, true, false}
use mathlib.Core.List.{List, [], ◌∷◌}
use mathlib.Core.Option.{none, some}
use native.Mathlib.Omega.{arith}
use lib.ListN.{length, get_or}
use Rattle.lists.specs.Tests.{choose}
use Rattle.automata.specs.WordTest.{one_if}
use Rattle.machine.specs.System.{System}
use Rattle.machine.specs.Machine.{Blocker, passes, Growth, by_states, hint_at, chosen_from}
use Rattle.machine.specs.Hitting.{RowSource, by_hitting_set, growth_of}
use Rattle.choices.specs.Found.{choice_of}

-- what a case grows to by the way
module _ (S : System) (rows : RowSource) (table : List Blocker) (below X grown : ℕ) where
  pub way_first : (way : ℕ) → way ≡ 0 → grown ≡ by_states S table below X → grown ≡ growth_of way S rows table below X
  unfolding growth_of
  way_first way z e = e ∙ sym (rw z)

  pub way_second : (way : ℕ) → (way ≡ 0 → ⊥) → grown ≡ by_hitting_set S rows table below X → grown ≡ growth_of way S rows table below X
  unfolding growth_of
  way_second zero n e = absurd (n refl)
  way_second (suc way) n e = e

-- the hint of a number, by the length of their list
hint_there : (hints : List ℕ) (t : ℕ) → t < length hints → hint_at hints t ≡ some (get_or hints t 0)
unfolding hint_at
hint_there [] t l = absurd (omega arith)
hint_there (hint ∷ hints) zero l = refl
hint_there (hint ∷ hints) (suc t) l = hint_there hints t (omega arith)

hint_lacks : (hints : List ℕ) (t : ℕ) → length hints ≤ t → hint_at hints t ≡ none
unfolding hint_at
hint_lacks [] t l = refl
hint_lacks (hint ∷ hints) zero l = absurd (omega arith)
hint_lacks (hint ∷ hints) (suc t) l = hint_lacks hints t (omega arith)

module _ (S : System) (grow : Growth) (table : List Blocker) (below X : ℕ) (hints : List ℕ) (blocks mask : ℕ) where
  pub chosen_without : length hints ≤ blocks → mask ≡ grow table below X
      → choice_of (record { mask = mask; hinted = false }) ≡ chosen_from S grow table below X (hint_at hints blocks)
  unfolding chosen_from one_if
  chosen_without l e = sym (rw (hint_lacks hints blocks l, e))

  module _ (hint : ℕ) (l : blocks < length hints) (is : hint ≡ get_or hints blocks 0) (passing : Bool) (test : passing ≡ passes S table below X hint) where
    pub chosen_hint : passing ≡ true
        → choice_of (record { mask = hint; hinted = true }) ≡ chosen_from S grow table below X (hint_at hints blocks)
    unfolding chosen_from choose one_if
    chosen_hint t = sym (rw (hint_there hints blocks l, ← is, ← test, t))

    pub chosen_grown : passing ≡ false → mask ≡ grow table below X
        → choice_of (record { mask = mask; hinted = false }) ≡ chosen_from S grow table below X (hint_at hints blocks)
    unfolding chosen_from choose one_if
    chosen_grown f e = sym (rw (hint_there hints blocks l, ← is, ← test, f, e))
