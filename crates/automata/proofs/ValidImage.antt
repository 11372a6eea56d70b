-- What an image that no check refuses keeps: its sizes, its spans, its rows, and the automaton that it holds. Assumes nothing.
use Prim.Native.Nat.{ℕ, zero, suc, ◌+◌, ◌-◌, ◌*◌, ◌/◌, ◌%◌, ◌^◌, ◌≤◌, ◌<◌}
use mathlib.Core.Path.{◌≡◌, refl, subst}
use mathlib.Core.Bool.{false}
use mathlib.Core.List.{List}
use native.Mathlib.Nat.{le_of_eq, lt_of_lt_of_le}
use native.Mathlib.Omega.{arith}
use lib.Dec.{T, eqb, eqb→eq, ltb→lt}
use borrow.Author.Tests.{eqb-false, lt-ltb}
use lib.ListN.{length}
use lib.Pow.{pow_mono}
use Rattle.lists.specs.Lists.{◌∈◌, Each}
use Rattle.lists.proofs.Tests.{and_left, and_right, choose_true}
use Rattle.lists.proofs.Lists.{in_none, each_more, each_from_at}
use Rattle.masks.specs.Sets.{within}
use Rattle.masks.proofs.Laws.{within_below}
use Rattle.automata.specs.Image.{Row, Valid, states_of, symbols_of, row_count_of, initial_of, final_of, offset_of, size_of}
use Rattle.automata.specs.Image.{rows_start, span_start, pair_holds, pairs_hold, row_at, rows_from, rows_of, row_holds, rows_hold, outside, check_image}
use Rattle.automata.specs.Automaton.{Automaton, automaton_of}
use Rattle.automata.proofs.Chained.{passed}

-- what the checks leave of an image that they do not refuse
pub record Kept (image : List ℕ) : Type 0 where
  pub some_state : 1 ≤ states_of image
  pub states_fit : states_of image ≤ 64
  pub some_symbol : 1 ≤ symbols_of image
  pub symbols_fit : symbols_of image ≤ 64
  pub few_rows : row_count_of image ≤ 4096
  pub whole : length image ≡ 20 + 8 * symbols_of image + 9 * row_count_of image
  pub initial_within : T (within (states_of image) (initial_of image))
  pub final_within : T (within (states_of image) (final_of image))
  pub pairs : T (pairs_hold image)
  pub rows : T (rows_hold image)

-- what they leave of a row
pub record RowKept (states : ℕ) (row : Row) : Type 0 where
  pub state_below : row.state < states
  pub case_within : T (within states row.case)

not_zero : (number : ℕ) → eqb number 0 ≡ false → 1 ≤ number
not_zero number e = let n : number ≡ 0 → ⊥ = eqb-false number 0 e in omega arith

pub valid_kept : (image : List ℕ) → Valid image → Kept image
unfolding check_image outside
valid_kept image valid = search (passed, not_zero) depth 14

-- the rows of a symbol are those of its span
pub rows_of_symbol : (image : List ℕ) (s : ℕ) → s < symbols_of image → rows_of image s ≡ rows_from image (size_of image s / 9) (offset_of image s)
unfolding rows_of
rows_of_symbol image s l = choose_true _ _ (lt-ltb _ _ l)

module _ (image : List ℕ) (valid : Valid image) where
  kept : Kept image
  kept = valid_kept image valid

  pair_at : (s : ℕ) → s < symbols_of image → T (pair_holds image s)
  unfolding pairs_hold
  pair_at s l =
      each_from_at (pair_holds image) (symbols_of image) 0 (and_left _ _ kept.pairs) s (omega arith) (omega arith)

  pub span_begins : (s : ℕ) → s < symbols_of image → offset_of image s ≡ span_start image s
  unfolding pair_holds
  span_begins s l = eqb→eq _ _ (and_left _ _ (pair_at s l))

  pub span_nines : (s : ℕ) → s < symbols_of image → size_of image s % 9 ≡ 0
  unfolding pair_holds
  span_nines s l = eqb→eq _ _ (and_right _ _ (pair_at s l))

  spans_end : span_start image (symbols_of image) ≡ length image
  unfolding pairs_hold
  spans_end = eqb→eq _ _ (and_right _ _ kept.pairs)

  span_next : (s : ℕ) → span_start image (suc s) ≡ offset_of image s + size_of image s
  unfolding span_start
  span_next s = refl

  -- the spans climb: from symbol s on, by the `count` symbols that are left, none begins behind the image's end
  spans_climb : (count s : ℕ) → s + count ≡ symbols_of image → span_start image s ≤ length image
  spans_climb zero s e = let q : s ≡ symbols_of image = omega arith in rw q (le_of_eq spans_end)
  spans_climb (suc count) s e =
      omega (arith, span_begins s (omega arith), span_next s, spans_climb count (suc s) (omega arith))

  -- a whole number of rows stands before each span
  pub spans_nine : (s : ℕ) → s ≤ symbols_of image → (rows_start image ≤ span_start image s) × ((span_start image s - rows_start image) % 9 ≡ 0)
  unfolding span_start
  spans_nine zero l = omega arith
  spans_nine (suc s) l = let h = spans_nine s (omega arith) in omega (arith, span_begins s (omega arith), span_nines s (omega arith))

  module _ (s : ℕ) (symbol : s < symbols_of image) where
    pub span_in : offset_of image s + size_of image s ≤ length image
    span_in = omega (arith, span_next s, spans_climb (symbols_of image - suc s) (suc s) (omega arith))

    pub pair_in : 28 + 8 * s ≤ length image
    pair_in = omega (arith, kept.whole)

    -- the row at a place of a span is one of the m rows
    row_holds_lem : (at : ℕ) → rows_start image ≤ at → (at - rows_start image) % 9 ≡ 0 → at + 9 ≤ length image → T (row_holds image ((at - rows_start image) / 9))
    unfolding rows_hold
    row_holds_lem at l n h =
        each_from_at (row_holds image) (row_count_of image) 0 kept.rows ((at - rows_start image) / 9) (omega arith)
        (omega (arith, kept.whole))

    row_at_kept : (at : ℕ) → rows_start image ≤ at → (at - rows_start image) % 9 ≡ 0 → at + 9 ≤ length image → RowKept (states_of image) (row_at image at)
    unfolding row_holds
    row_at_kept at l n h =
        let e : rows_start image + 9 * ((at - rows_start image) / 9) ≡ at = omega arith in
        let t = row_holds_lem at l n h in
        subst (λ (x : ℕ). RowKept (states_of image) (row_at image x)) e
        (record { state_below = ltb→lt _ _ (and_left _ _ t); case_within = and_right _ _ t })

    rows_kept : (count at : ℕ) → rows_start image ≤ at → (at - rows_start image) % 9 ≡ 0 → at + 9 * count ≤ length image
        → Each (RowKept (states_of image)) (rows_from image count at)
    unfolding rows_from
    rows_kept zero at l n h = λ row m. absurd (in_none m)
    rows_kept (suc count) at l n h =
        each_more (row_at_kept at l n (omega arith)) (rows_kept count (at + 9) (omega arith) (omega arith) (omega arith))

    -- each row of a symbol has a state below n, and no bit of its case at n or above
    pub valid_rows : Each (RowKept (states_of image)) (rows_of image s)
    valid_rows =
        let h = spans_nine s (omega arith) in
        let e = span_begins s symbol in
        rw (rows_of_symbol image s symbol)
        (rows_kept (size_of image s / 9) (offset_of image s) (omega arith) (omega arith) (omega (arith, span_in)))

-- a case of its states is a number of 64 bits
pub case_narrow : (image : List ℕ) → Valid image → (case : ℕ) → T (within (states_of image) case) → case < 2 ^ 64
case_narrow image valid case t =
    lt_of_lt_of_le (within_below (states_of image) case t) (pow_mono {i = states_of image} {j = 64} (valid_kept image valid).states_fit)

-- what the checks leave of the automaton that an image holds
pub record Proper (A : Automaton) : Type 0 where
  pub initial_within : T (within A.states A.initial)
  pub final_within : T (within A.states A.final)
  pub row_state : (s : ℕ) → s < A.symbols → (row : Row) → row ∈ A.rows s → row.state < A.states
  pub row_case : (s : ℕ) → s < A.symbols → (row : Row) → row ∈ A.rows s → T (within A.states row.case)

pub valid_proper : (image : List ℕ) → Valid image → Proper (automaton_of image)
valid_proper image valid =
    record {
      initial_within = (valid_kept image valid).initial_within;
      final_within = (valid_kept image valid).final_within;
      row_state = λ s l row m. (valid_rows image valid s l row m).state_below;
      row_case = λ s l row m. (valid_rows image valid s l row m).case_within;
    }
