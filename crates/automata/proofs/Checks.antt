-- The checks of an image: what the loop over the pairs has found, the tests by what was read and called, and the numbers that they answer. Assumes nothing.
use Prim.Native.Nat.{ℕ, zero, suc, ◌+◌, ◌-◌, ◌*◌, ◌%◌, ◌≤◌, ◌<◌}
use mathlib.Core.Path.{◌≡◌, refl, sym, ap, ◌∙◌}
use mathlib.Core.Bool.{Bool, true, false, ◌&&◌}
use mathlib.Core.List.{List}
use mathlib.Core.Logic.{◌⊎◌, inl, inr}
use native.Mathlib.Nat.{sub-zero}
use native.Mathlib.Numerals.{add-one}
use native.Mathlib.Omega.{arith}
use borrow.Author.Rules.{rules}
use borrow.Author.Tests.{eq-eqb, ne_eqb, lt-ltb, le-ltb}
use lib.Dec.{eqb, ltb}
use lib.ListN.{length}
use Rattle.std.specs.List.{list_all, range_with_len}
use Rattle.lists.specs.Tests.{◌and◌, neg}
use Rattle.lists.specs.Lists.{each_from}
use Rattle.lists.proofs.Lists.{each_from_fails, each_from_holds, each_from_ends}
use Rattle.masks.specs.Sets.{within}
use Rattle.automata.specs.Image.{states_of, symbols_of, offset_of, size_of, row_at}
use Rattle.automata.specs.Image.{span_start, pair_holds, pairs_hold, row_holds, outside, check, check_image}
use Rattle.automata.proofs.Chained.{checks}

-- the loop over the pairs, before that of symbol s: where its span is to start, and what is still to be tested
pub record PairsLeft (image : List ℕ) (start s : ℕ) : Type 0 where
  pub bound : s ≤ symbols_of image
  pub begins : start ≡ span_start image s
  pub rest : each_from (pair_holds image) (symbols_of image - s) s ≡ each_from (pair_holds image) (symbols_of image) 0

pub pairs_none : {image : List ℕ} {symbols : ℕ} → symbols ≡ symbols_of image → PairsLeft image (20 + 8 * symbols) 0
unfolding span_start
pairs_none {image} e = record {
  bound = omega arith;
  begins = ap (λ (k : ℕ). 20 + 8 * k) e;
  rest = ap (λ (k : ℕ). each_from (pair_holds image) k 0) (sub-zero (symbols_of image));
}

module _ {image : List ℕ} {start s : ℕ} (left : PairsLeft image start s) where
  pairs_fail : s < symbols_of image → pair_holds image s ≡ false → false ≡ pairs_hold image
  unfolding pairs_hold ◌and◌
  pairs_fail l e = rw (← left.rest, each_from_fails (pair_holds image) (symbols_of image) s l e)

  module _ (offset : ℕ) (l : s < symbols_of image) (e : offset ≡ offset_of image s) where
    pub pair_offset : (offset ≡ start → ⊥) → false ≡ pairs_hold image
    unfolding pair_holds ◌and◌
    pair_offset n = pairs_fail l (rw (← e, ← left.begins, ne_eqb offset start n))

    module _ (size : ℕ) (q : offset ≡ start) (z : size ≡ size_of image s) where
      pair_is : pair_holds image s ≡ eqb (size % 9) 0
      unfolding pair_holds ◌and◌
      pair_is = rw (← e, ← left.begins, eq-eqb offset start q, ← z)

      pub pair_size : (size % 9 ≡ 0 → ⊥) → false ≡ pairs_hold image
      pair_size n = pairs_fail l (pair_is ∙ ne_eqb (size % 9) 0 n)

      pub pair_next : size % 9 ≡ 0 → PairsLeft image (offset + size) (s + 1)
      unfolding span_start
      pair_next n =
          record {
            bound = omega arith;
            begins = rw (add-one, e, z);
            rest = sym (each_from_holds (pair_holds image) (symbols_of image) s l (pair_is ∙ eq-eqb (size % 9) 0 n)) ∙ left.rest;
          }

  pub pairs_end : symbols_of image ≤ s → eqb start (length image) ≡ pairs_hold image
  unfolding pairs_hold ◌and◌
  pairs_end l =
      let e : s ≡ symbols_of image = omega (arith, left.bound) in
      rw (← left.rest, each_from_ends (pair_holds image) (symbols_of image) s l, ← e, ← left.begins)

-- one row, by the tests of its state and its case
module _ (image : List ℕ) (i at symbols : ℕ) (k : symbols ≡ symbols_of image) (e : at ≡ 20 + 8 * symbols + 9 * i) where
  pub row_state : states_of image ≤ (row_at image at).state → false ≡ row_holds image i
  unfolding row_holds ◌and◌
  row_state l = rw (← k, ← e, le-ltb _ _ l)

  pub row_case : (case : ℕ) (r : Bool) → (row_at image at).state < states_of image → case ≡ (row_at image at).case → r ≡ within (states_of image) case
      → r ≡ row_holds image i
  unfolding row_holds ◌and◌
  row_case case r l q w = rw (← k, ← e, lt-ltb _ _ l, ← q, w)

-- std's test of each number of a range
pub each_listed : (test : ℕ → Bool) (count start : ℕ) → list_all test (range_with_len start count) ≡ each_from test count start
unfolding each_from ◌and◌
each_listed test zero start = refl
each_listed test (suc count) start = rw (add-one start) (at (test start) (each_listed test count (suc start)))
  where
    at : (b : Bool) → list_all test (range_with_len (suc start) count) ≡ each_from test count (suc start)
        → (b && list_all test (range_with_len (suc start) count)) ≡ (b and each_from test count (suc start))
    at true e = e
    at false e = refl

-- the tests of the checks, where r is a number that was read or what a call answered
pub read_above : (a b r : ℕ) (value : Bool) → r ≡ b → ltb a r ≡ value → ltb a b ≡ value
read_above a b r value e q = rw (← e) q

pub read_whole : (size a b c k m r s t : ℕ) (value : Bool) → r ≡ k → s ≡ t → t ≡ m → eqb size (a + b * r + c * s) ≡ value → eqb size (a + b * k + c * m) ≡ value
read_whole size a b c k m r s t value e q u p = rw (← e, ← u, ← q) p

pub read_within : (n case r : ℕ) (value : Bool) → r ≡ case → neg (within n r) ≡ value → neg (within n case) ≡ value
read_within n case r value e q = rw (← e) q

pub called_outside : (number : ℕ) (r value : Bool) → r ≡ outside number → r ≡ value → outside number ≡ value
called_outside number r value e q = sym e ∙ q

pub ruleset image_checks = (checks, read_above, read_whole, read_within, called_outside)

-- the checks answer 0 or a number from 20 to 27
abbrev pub CheckNumber : ℕ → Type 0
CheckNumber number = (number ≡ 0) ⊎ ((20 ≤ number) × (number ≤ 27))

check_answer : (b : Bool) (number later : ℕ) → 20 ≤ number → number ≤ 27 → CheckNumber later → CheckNumber (check b number later)
unfolding check
check_answer true number later l h n = inr (l, h)
check_answer false number later l h n = n

pub check_number : (image : List ℕ) → CheckNumber (check_image image)
unfolding check_image
check_number image = search (check_answer, inl, rules) depth 14
