-- Blockers that leave sink to level 0 and stay where they are: the walk that sinks them, and the rise of a blocker in its place. Assumes nothing.
use Prim.Native.Nat.{ℕ, ◌+◌, ◌≤◌, ◌<◌}
use mathlib.Core.Path.{◌≡◌, refl, sym, ap, ◌∙◌}
use mathlib.Core.Bool.{Bool, true, false}
use mathlib.Core.List.{List}
use native.Mathlib.Decide.{dec_le, ℕ_discrete}
use native.Mathlib.Omega.{arith}
use lib.Dec.{leb}
use lib.ListN.{length, get_or, set, drop, length-set}
use lib.Seq.{get_or-set_same, get_or-set_other, drop-set-lt}
use Rattle.lists.specs.Tests.{◌and◌, choose}
use Rattle.masks.specs.Sets.{subset}
use Rattle.indexing.specs.Index.{Passed, First, sunk_level, Sunk}

-- the level of a subset that sinks, and of what stays
sinks_inside : (mask level other old : ℕ) → subset other mask ≡ true → sunk_level mask level other old ≡ choose (leb old level) 0 old
unfolding sunk_level ◌and◌ choose
sinks_inside mask level other old e = at (leb old level) refl
  where
    at : (b : Bool) → leb old level ≡ b → choose (leb old level and subset other mask) 0 old ≡ choose (leb old level) 0 old
    at true q = rw (q, e)
    at false q = rw q

stays_outside : (mask level other old : ℕ) → subset other mask ≡ false → sunk_level mask level other old ≡ old
unfolding sunk_level ◌and◌ choose
stays_outside mask level other old e = at (leb old level) refl
  where
    at : (b : Bool) → leb old level ≡ b → choose (leb old level and subset other mask) 0 old ≡ old
    at true q = rw (q, e)
    at false q = rw q

-- The walk over the subsets of the mask, before place i: those before it have sunk, and the others are as before.
pub record Leaving (mask level held : ℕ) (masks levels₀ : List ℕ) (i : ℕ) (levels : List ℕ) : Type 0 where
  pub within : i ≤ held
  pub long : length levels ≡ length levels₀
  pub behind : drop held levels ≡ drop held levels₀
  pub done : (k : ℕ) → k < i → get_or levels k 0 ≡ sunk_level mask level (get_or masks k 0) (get_or levels₀ k 0)
  pub ahead : (k : ℕ) → i ≤ k → get_or levels k 0 ≡ get_or levels₀ k 0

module _ {mask level held : ℕ} {masks levels₀ : List ℕ} {i : ℕ} {levels : List ℕ} (so_far : Leaving mask level held masks levels₀ i levels) where
  -- past those that are no subsets
  passed : {r : ℕ} → Passed (λ other. subset other mask) masks i held r
      → (k : ℕ) → k < r → get_or levels k 0 ≡ sunk_level mask level (get_or masks k 0) (get_or levels₀ k 0)
  passed before k l = by (dec_le i k)
    where
      by : Dec (i ≤ k) → get_or levels k 0 ≡ sunk_level mask level (get_or masks k 0) (get_or levels₀ k 0)
      by (yes m) = so_far.ahead k m ∙ sym (stays_outside mask level (get_or masks k 0) (get_or levels₀ k 0) (before.passed k m l))
      by (no m) = so_far.done k (omega arith)

  pub leave_goes : {x r : ℕ} → First (λ other. subset other mask) masks i held r → x ≡ choose (leb (get_or levels r 0) level) 0 (get_or levels r 0)
      → held ≤ length levels₀ → Leaving mask level held masks levels₀ (r + 1) (set levels r x)
  leave_goes {x} {r} first e fits = record {
    within = omega (arith, first.below);
    long = length-set levels r x ∙ so_far.long;
    behind = drop-set-lt held levels r x first.below ∙ so_far.behind;
    done = λ k h. by k h (ℕ_discrete k r);
    ahead = λ k h. get_or-set_other levels r k x 0 (λ same. omega arith) ∙ so_far.ahead k (omega (arith, first.before.begins));
  }
    where
      own : get_or levels r 0 ≡ get_or levels₀ r 0
      own = so_far.ahead r first.before.begins

      by : (k : ℕ) → k < r + 1 → Dec (k ≡ r) → get_or (set levels r x) k 0 ≡ sunk_level mask level (get_or masks k 0) (get_or levels₀ k 0)
      by k h (yes same) =
          rw same (get_or-set_same levels r x 0 (omega (arith, so_far.long, first.below)) ∙ e
          ∙ ap (λ (old : ℕ). choose (leb old level) 0 old) own
          ∙ sym (sinks_inside mask level (get_or masks r 0) (get_or levels₀ r 0) first.passes))
      by k h (no other) = get_or-set_other levels r k x 0 other ∙ passed first.before k (omega arith)

  pub leave_ends : Passed (λ other. subset other mask) masks i held held → Sunk mask level held masks levels₀ levels
  leave_ends before = record { behind = so_far.behind; each = passed before }
