-- The rows of an image by their numbers: each row of a symbol has one, and a number is of one symbol. Assumes nothing.
use Prim.Native.Nat.{ℕ, zero, suc, ◌+◌, ◌-◌, ◌*◌, ◌/◌, ◌≤◌, ◌<◌}
use mathlib.Core.Path.{◌≡◌, refl, sym, ap, subst, ◌∙◌}
use mathlib.Core.List.{List, []}
use mathlib.Core.Logic.{◌⊎◌, inl, inr}
use native.Mathlib.Decide.{dec_le}
use native.Mathlib.Omega.{arith}
use lib.Dec.{eqb→eq}
use lib.ListN.{length}
use Rattle.lists.specs.Lists.{◌∈◌, here, there}
use Rattle.lists.proofs.Tests.{and_right}
use Rattle.lists.proofs.Lists.{in_none, in_cases}
use Rattle.automata.specs.Image.{Row, Valid, symbols_of, row_count_of, offset_of, size_of, rows_start, span_start, pairs_hold, row_at, rows_from, rows_of}
use Rattle.automata.specs.Walk.{RowsStand}
use Rattle.automata.proofs.ValidImage.{valid_kept, span_begins, span_nines, span_in, spans_nine, rows_of_symbol, valid_rows}
use Rattle.firing.specs.Linked.{place_of, rows_to, Belongs}

span_after : (image : List ℕ) (s : ℕ) → span_start image (suc s) ≡ offset_of image s + size_of image s
unfolding span_start
span_after image s = refl

-- a place among rows from a place on
record AtPlace (image : List ℕ) (row : Row) (count at : ℕ) : Type 0 where
  number : ℕ
  few : number < count
  is : row_at image (at + 9 * number) ≡ row

places : (image : List ℕ) (row : Row) (count at : ℕ) → row ∈ rows_from image count at → AtPlace image row count at
unfolding rows_from
places image row zero at m = absurd (in_none m)
places image row (suc count) at m = from (λ k. places image row count (at + 9) k) (in_cases m)
  where
    from : (row ∈ rows_from image count (at + 9) → AtPlace image row count (at + 9)) → (row ≡ row_at image at) ⊎ row ∈ rows_from image count (at + 9)
        → AtPlace image row (suc count) at
    from rec (inl e) = let z : at + 9 * 0 ≡ at = omega arith in record { number = 0; few = omega arith; is = rw z (sym e) }
    from rec (inr k) =
        let r = rec k in
        let z : at + 9 * suc r.number ≡ at + 9 + 9 * r.number = omega arith in
        record { number = suc r.number; few = omega (arith, r.few); is = rw z r.is }

row_listed : (image : List ℕ) (number count at : ℕ) → number < count → row_at image (at + 9 * number) ∈ rows_from image count at
unfolding rows_from
row_listed image number zero at l = absurd (omega arith)
row_listed image zero (suc count) at l = let z : at + 9 * 0 ≡ at = omega arith in here (ap (row_at image) z)
row_listed image (suc number) (suc count) at l =
    let z : at + 9 * suc number ≡ at + 9 + 9 * number = omega arith in
    there (subst (λ (p : ℕ). row_at image p ∈ rows_from image count (at + 9)) (sym z) (row_listed image number count (at + 9) (omega arith)))

-- the last span ends at the image's end
pub spans_end : (image : List ℕ) → Valid image → span_start image (symbols_of image) ≡ length image
unfolding pairs_hold
spans_end image valid = eqb→eq _ _ (and_right _ _ (valid_kept image valid).pairs)

-- a row of a symbol by its number
pub record Numbered (image : List ℕ) (s : ℕ) (row : Row) : Type 0 where
  pub number : ℕ
  pub few : number < row_count_of image
  pub belongs : Belongs image s number
  pub is : row_at image (place_of image number) ≡ row

module _ (image : List ℕ) (valid : Valid image) where
  -- the rows before those of a symbol
  pub rows_stand_before : (s : ℕ) → s ≤ symbols_of image → place_of image (rows_to image (span_start image s)) ≡ span_start image s
  rows_stand_before s l = let nine = spans_nine image valid s l in omega (arith, nine.0, nine.1)

  pub span_begins_late : (s : ℕ) → s ≤ symbols_of image → place_of image 0 ≤ span_start image s
  span_begins_late s l = omega (arith, (spans_nine image valid s l).0)

  pub numbered : (s : ℕ) → s < symbols_of image → (row : Row) → row ∈ rows_of image s → Numbered image s row
  numbered s l row m =
      let place = places image row (size_of image s / 9) (offset_of image s) (rw (rows_of_symbol image s l) at m) in
      let nine = spans_nine image valid s (omega arith) in
      let begins = span_begins image valid s l in
      let before : ℕ = (span_start image s - rows_start image) / 9 in
      let e : place_of image (before + place.number) ≡ offset_of image s + 9 * place.number = omega (arith, nine.0, nine.1, begins) in
      record {
        number = before + place.number;
        few = omega (arith, e, place.few, span_nines image valid s l, span_in image valid s l, (valid_kept image valid).whole);
        belongs = record {
          known = l;
          from = omega (arith, e, begins);
          to = omega (arith, e, place.few, span_after image s, span_nines image valid s l);
        };
        is = ap (row_at image) e ∙ place.is;
      }

  module _ (s r : ℕ) (belongs : Belongs image s r) where
    pub belongs_in : row_at image (place_of image r) ∈ rows_of image s
    belongs_in =
        let nine = spans_nine image valid s (omega (arith, belongs.known)) in
        let begins = span_begins image valid s belongs.known in
        let number : ℕ = (place_of image r - offset_of image s) / 9 in
        let e : offset_of image s + 9 * number ≡ place_of image r = omega (arith, nine.0, nine.1, begins, belongs.from) in
        let few : number < size_of image s / 9 = omega (arith, e, belongs.to, span_after image s, span_nines image valid s belongs.known) in
        rw (rows_of_symbol image s belongs.known) (subst (λ (at : ℕ). row_at image at ∈ rows_from image (size_of image s / 9) (offset_of image s)) e
        (row_listed image number (size_of image s / 9) (offset_of image s) few))

    pub belongs_few : r < row_count_of image
    belongs_few =
        omega (arith, belongs.to, span_after image s, span_in image valid s belongs.known, (valid_kept image valid).whole)

    pub belongs_stands : (at : ℕ) → at ≡ place_of image r → RowsStand image 1 at
    unfolding rows_from
    belongs_stands at e =
        record {
          inside = omega (arith, e, belongs_few, (valid_kept image valid).whole);
          states = λ row m. state row (in_cases m);
        }
      where
        state : (row : Row) → (row ≡ row_at image at) ⊎ row ∈ [] → row.state < 64
        state row (inl q) =
            let kept = valid_rows image valid s belongs.known _ belongs_in in
            rw (q, e) (omega (arith, kept.state_below, (valid_kept image valid).states_fit))
        state row (inr q) = absurd (in_none q)

  -- the spans follow one another
  climbs : (count s : ℕ) → s + count ≤ symbols_of image → span_start image s ≤ span_start image (s + count)
  climbs zero s l = let e : s + 0 ≡ s = omega arith in rw e (omega arith)
  climbs (suc count) s l =
      let e : s + suc count ≡ suc (s + count) = omega arith in
      rw e (omega (arith, climbs count s (omega arith), span_after image (s + count), span_begins image valid (s + count) (omega arith)))

  before : (s t r : ℕ) → Belongs image s r → Belongs image t r → s < t → ⊥
  before s t r bs bt l =
      let e : suc s + (t - suc s) ≡ t = omega arith in
      let up = climbs (t - suc s) (suc s) (omega (arith, e, bt.known)) in
      let q : span_start image (suc s + (t - suc s)) ≡ span_start image t = ap (span_start image) e in
      omega (arith, up, q, bs.to, bt.from)

  pub one_symbol : (s t r : ℕ) → Belongs image s r → Belongs image t r → s ≡ t
  one_symbol s t r bs bt = at (dec_le s t) (dec_le t s)
    where
      at : Dec (s ≤ t) → Dec (t ≤ s) → s ≡ t
      at (yes h) (yes k) = omega arith
      at (no h) k = absurd (before t s r bt bs (omega arith))
      at (yes h) (no k) = absurd (before s t r bs bt (omega arith))
