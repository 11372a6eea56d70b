-- The copy of the first sets of one table into another. Assumes nothing.
use Prim.Native.Nat.{ℕ, ◌+◌, ◌*◌, ◌/◌, ◌≤◌, ◌<◌}
use mathlib.Core.Path.{◌≡◌, ◌∙◌}
use mathlib.Core.List.{List}
use native.Mathlib.Decide.{ℕ_discrete}
use native.Mathlib.Omega.{arith}
use lib.ListN.{length, get_or, set, length-set}
use lib.Seq.{get_or-set_same, get_or-set_other}
use Rattle.growing.specs.Kept.{Copied}

-- before place i so many are the same
pub copy_starts : (from to : List ℕ) → length to ≡ 64 → Copied 0 from to
copy_starts from to long = record { same = λ j l. absurd (omega arith); long = long }

module _ {from to : List ℕ} {i : ℕ} (so_far : Copied i from to) where
  pub copy_goes : i < 64 → Copied (i + 1) from (set to i (get_or from i 0))
  copy_goes l =
      record {
        same = λ j k. at j k (ℕ_discrete j i);
        long = length-set to i (get_or from i 0) ∙ so_far.long;
      }
    where
      at : (j : ℕ) → j < i + 1 → Dec (j ≡ i) → get_or (set to i (get_or from i 0)) j 0 ≡ get_or from j 0
      at j k (yes e) = rw e (get_or-set_same to i (get_or from i 0) 0 (omega (arith, so_far.long)))
      at j k (no n) = get_or-set_other to i j (get_or from i 0) 0 n ∙ so_far.same j (omega arith)

  copy_ends : {count : ℕ} → count ≤ i → Copied count from to
  copy_ends l = record { same = λ j k. so_far.same j (omega arith); long = so_far.long }

-- two of them, and what is copied at the end
pub copy_two : {from to : List ℕ} (i : ℕ) → Copied (2 * i) from to → 2 * i + 1 < 64
    → Copied (2 * (i + 1)) from (set (set to (2 * i) (get_or from (2 * i) 0)) (2 * i + 1) (get_or from (2 * i + 1) 0))
copy_two i so_far l = copy_ends (copy_goes (copy_goes so_far (omega (arith, l))) l) (omega arith)

pub copied_all : {from to : List ℕ} (count i : ℕ) → Copied (2 * i) from to → (count + 1) / 2 ≤ i → Copied count from to
copied_all count i so_far l = copy_ends so_far (omega (arith, l))
