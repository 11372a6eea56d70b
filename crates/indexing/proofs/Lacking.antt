-- What masks lack: a subset lacks whatever the set lacks, so the notes of it find every subset. Assumes nothing.
use Prim.Native.Nat.{ℕ, ◌+◌, ◌≤◌, ◌<◌, min}
use mathlib.Core.Path.{◌≡◌, sym, ◌∙◌}
use mathlib.Core.Bool.{Bool, true, false}
use mathlib.Core.List.{List}
use native.Mathlib.Decide.{dec_le, ℕ_discrete}
use native.Mathlib.Omega.{arith}
use lib.Dec.{T}
use lib.ListN.{length, get_or}
use Rattle.std.specs.Prelude.{Option, Some, None}
use Rattle.lists.proofs.Tests.{holds, fails, is_false}
use Rattle.masks.specs.Sets.{Member, subset, without}
use Rattle.masks.proofs.Laws.{subset_members, members_subset, without_members}
use Rattle.indexing.specs.Index.{Passed, Finds, lack_of, Noted}
use Rattle.indexing.proofs.Listing.{low_inside}

lack_inside : (other mask : ℕ) → T (subset other mask) → subset (lack_of mask) (lack_of other) ≡ true
lack_inside other mask t =
    low_inside (without 4294967295 mask) (without 4294967295 other) (members_subset _ _ (λ q m. by q ((without_members 4294967295 mask q).0 m)))
  where
    by : (q : ℕ) → Member q 4294967295 × (Member q mask → ⊥) → Member q (without 4294967295 other)
    by q m = (without_members 4294967295 other q).1 (m.0, λ h. m.1 (subset_members other mask t q h))

-- what does not lack enough is no subset
module _ {masks lacks : List ℕ} (noted : Noted (length masks) masks lacks) where
  pub lack_passes : (mask : ℕ) {lack from to r : ℕ} → lack ≡ lack_of mask → to ≡ min (length masks) (length lacks)
      → Passed (λ other. subset lack other) lacks from to r → Passed (λ other. subset other mask) masks from (length masks) r
  lack_passes mask {lack} {from} {to} {r} e long before = record {
    begins = before.begins;
    within = omega (arith, before.within);
    passed = λ k lo hi.
        is_false _ (λ t. fails (rw (e, noted.each k (omega (arith, before.within)) (omega (arith, before.within))) at (before.passed k lo hi))
        (holds (lack_inside (get_or masks k 0) mask t)));
  }

-- a search that goes on where another has passed to
module _ {test : ℕ → Bool} {table : List ℕ} {from to at : ℕ} (passed : Passed test table from to at) where
  pub passes_on : {r : ℕ} → Passed test table at to r → Passed test table from to r
  passes_on {r} later = record { begins = omega (arith, passed.begins, later.begins); within = later.within; passed = λ k lo hi. by k lo hi (dec_le at k) }
    where
      by : (k : ℕ) → from ≤ k → k < r → Dec (at ≤ k) → test (get_or table k 0) ≡ false
      by k lo hi (yes m) = later.passed k m hi
      by k lo hi (no m) = passed.passed k lo (omega arith)

  pub finds_on : (answer : Option ℕ) → Finds test table at to answer → Finds test table from to answer
  finds_on None later = passes_on later
  finds_on (Some i) first = record { before = passes_on first.before; below = first.below; passes = first.passes }

  pub passes_one : at < to → {here : Bool} → here ≡ test (get_or table at 0) → here ≡ false → Passed test table from to (at + 1)
  passes_one l {here} e f = record { begins = omega (arith, passed.begins); within = omega arith; passed = λ k lo hi. by k lo hi (ℕ_discrete k at) }
    where
      by : (k : ℕ) → from ≤ k → k < at + 1 → Dec (k ≡ at) → test (get_or table k 0) ≡ false
      by k lo hi (yes same) = rw same (sym e ∙ f)
      by k lo hi (no other) = passed.passed k lo (omega arith)
