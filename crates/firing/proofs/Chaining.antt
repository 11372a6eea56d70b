-- Rows in chains: the state at which a row can fire, one number more in a chain, the rows of a symbol and of all. Assumes nothing.
use Prim.Native.Nat.{ℕ, suc, ◌+◌, ◌*◌, ◌^◌, ◌≤◌, ◌<◌}
use mathlib.Core.Path.{◌≡◌, refl, ap, subst, ◌∙◌}
use mathlib.Core.List.{List}
use native.Mathlib.Decide.{ℕ_discrete}
use native.Mathlib.Omega.{arith}
use lib.ListN.{length, get_or, set, length-set, replicate, length-replicate}
use lib.Seq.{get_or-set_same, get_or-set_other}
use Rattle.std.proofs.Common.{add-one, Option}
use Rattle.chains.proofs.Chains.{none_chained, one_more}
use Rattle.masks.specs.declared.State.{State}
use Rattle.automata.specs.Image.{Row, symbols_of, row_count_of, span_start, row_at}
use Rattle.automata.specs.Walk.{row_of, RowsStand, Span}
use Rattle.automata.specs.declared.rows.Row as Read
use Rattle.automata.specs.declared.image.Head.{Head}
use Rattle.automata.specs.Answers.{ReadAs}
use Rattle.automata.proofs.ValidImage.{valid_kept}
use Rattle.automata.proofs.Reading.{head_symbols}
use Rattle.firing.specs.Linked.{place_of, rows_to, Belongs, firing, chain_of, fires_at, RowRoom, Linked}
use Rattle.firing.proofs.Rows.{rows_stand_before, span_begins_late, belongs_few, belongs_stands, spans_end}

-- where a row stands, by what the head says
pub place_is : (image : List ℕ) {head : Head} (k row : ℕ) → ReadAs image head → k ≡ head.symbols → 20 + 8 * k + 9 * row ≡ place_of image row
place_is image k row read e = omega (arith, head_symbols read)

firing_low : (case X : ℕ) → firing case X ≤ 64
unfolding firing
firing_low case X = omega arith

-- no rows, and tables that are all 0
pub none_linked : (image : List ℕ) (X : ℕ) {head : Head} (size : ℕ) (lasts links symbols : List ℕ) → ReadAs image head → lasts ≡ replicate size 0
    → RowRoom image lasts links symbols → Linked image X 0 lasts links symbols
none_linked image X size lasts links symbols read none room =
    record { valid = read.valid; room = room; chained = none_chained size lasts links none; belongs = λ r l. absurd (omega arith) }

pub cleared_linked : {image : List ℕ} {X size : ℕ} {head : Head} → ReadAs image head → row_count_of image ≤ size
    → Linked image X 0 (replicate 65 0) (replicate size 0) (replicate size 0)
cleared_linked {image} {X} {size} read fits =
    none_linked image X 65 (replicate 65 0) (replicate size 0) (replicate size 0) read refl
    (record {
      lasts_fit = omega (arith, length-replicate {A = ℕ} 65 0);
      links_fit = omega (arith, length-replicate {A = ℕ} size 0);
      symbols_fit = omega (arith, length-replicate {A = ℕ} size 0);
    })

-- one row more
module _ {image : List ℕ} {X row : ℕ} {lasts links symbols : List ℕ} (linked : Linked image X row lasts links symbols) {s : ℕ} (belongs : Belongs image s row) where
  few : row < row_count_of image
  few = belongs_few image linked.valid s row belongs

  pub row_low : row < 4096
  row_low = omega (arith, few, (valid_kept image linked.valid).few_rows)

  pub row_stands : {at : ℕ} → at ≡ place_of image row → RowsStand image 1 at
  row_stands {at} e = belongs_stands image linked.valid s row belongs at e

  pub link_place : row < length links
  link_place = omega (arith, few, linked.room.links_fit)

  pub symbol_place : row < length symbols
  symbol_place = omega (arith, few, linked.room.symbols_fit)

  pub number_fits : row + 1 < 2 ^ 16
  number_fits = omega (arith, row_low)

  pub chain_place : (case set chain : ℕ) (fires : Option State) → chain ≡ chain_of fires → chain_of fires ≡ firing case set → chain < length lasts
  chain_place case set chain fires is e = omega (arith, linked.room.lasts_fit, firing_low case set)

  pub row_linked : (at : ℕ) (read : Read.Row) (fires : Option State) (chain : ℕ) (lasts' links' : List ℕ) → at ≡ place_of image row
      → row_of read ≡ row_at image at → chain_of fires ≡ firing read.case X → chain ≡ chain_of fires
      → (lasts' ≡ set lasts chain (row + 1)) × (links' ≡ set links row (get_or lasts chain 0))
      → Linked image X (row + 1) lasts' links' (set symbols row s)
  row_linked at read fires chain lasts' links' e r f is put =
      record {
        valid = linked.valid;
        room = record {
          lasts_fit = omega (arith, ap length put.0, length-set lasts chain (row + 1), linked.room.lasts_fit);
          links_fit = omega (arith, ap length put.1, length-set links row (get_or lasts chain 0), linked.room.links_fit);
          symbols_fit = omega (arith, length-set symbols row s, linked.room.symbols_fit);
        };
        chained = rw (put.0, put.1) (one_more linked.chained chain own (chain_place read.case X chain fires is f) link_place);
        belongs = λ r l. told r (ℕ_discrete r row) l;
      }
    where
      own : chain ≡ fires_at image X row
      own = is ∙ f ∙ ap (λ (x : Row). firing x.case X) r ∙ ap (λ (p : ℕ). firing (row_at image p).case X) e

      told : (p : ℕ) → Dec (p ≡ row) → p < row + 1 → Belongs image (get_or (set symbols row s) p 0) p
      told p (yes q) l = rw (q, get_or-set_same symbols row s 0 symbol_place) belongs
      told p (no n) l = rw (get_or-set_other symbols row p s 0 n) (linked.belongs p (omega arith))

-- the rows of a symbol
module _ {image : List ℕ} {X row s : ℕ} {lasts links symbols : List ℕ} (linked : Linked image X row lasts links symbols) (known : s < symbols_of image) where
  pub span_first : {start : ℕ} → start ≡ span_start image s → place_of image 0 ≤ start
  span_first e = omega (arith, span_begins_late image linked.valid s (omega arith))

  pub span_last : {end : ℕ} → end ≡ span_start image (suc s) → place_of image 0 ≤ end
  span_last e = omega (arith, span_begins_late image linked.valid (suc s) (omega arith))

  pub row_belongs : (first last : ℕ) {start end : ℕ} → start ≡ span_start image s → end ≡ span_start image (suc s) → first ≡ rows_to image start
      → last ≡ rows_to image end → first ≤ row → row < last → Belongs image s row
  row_belongs first last es ee ef el low high =
      let from = rows_stand_before image linked.valid s (omega arith) in
      let to = rows_stand_before image linked.valid (suc s) (omega arith) in
      record { known = known; from = omega (arith, from); to = omega (arith, to) }

pub symbol_linked : {image : List ℕ} {X row : ℕ} {lasts links symbols : List ℕ} → Linked image X row lasts links symbols → (s first last : ℕ) {start end : ℕ}
    → Span image start end → end ≡ span_start image (suc s) → first ≡ rows_to image start → last ≡ rows_to image end → (first ≤ last → row ≤ last) → last ≤ row
    → Linked image X (rows_to image (span_start image (suc s))) lasts links symbols
symbol_linked {image = image} {X = X} {row = row} {lasts = lasts} {links = links} {symbols = symbols} linked s first last span ee ef el low high =
    let ordered : first ≤ last = omega (arith, span.ordered) in
    let e : row ≡ rows_to image (span_start image (suc s)) = omega (arith, low ordered, ap (rows_to image) ee) in
    subst (λ (c : ℕ). Linked image X c lasts links symbols) e linked

-- the walk over all symbols, before symbol s
pub record RowsLinking (image : List ℕ) (X bound s : ℕ) (lasts links symbols : List ℕ) : Type 0 where
  pub linked : Linked image X (rows_to image (span_start image s)) lasts links symbols
  pub all : bound ≡ symbols_of image

pub rows_start : {image : List ℕ} {X : ℕ} {head : Head} {lasts links symbols : List ℕ} → ReadAs image head → Linked image X 0 lasts links symbols
    → RowsLinking image X head.symbols 0 lasts links symbols
unfolding span_start
rows_start {image} read linked = record { linked = rw none linked; all = head_symbols read }
  where
    none : rows_to image (span_start image 0) ≡ 0
    none = omega arith

module _ {image : List ℕ} {X bound s : ℕ} {lasts links symbols : List ℕ} (so_far : RowsLinking image X bound s lasts links symbols) where
  pub rows_go : (lasts' links' symbols' : List ℕ) → Linked image X (rows_to image (span_start image (suc s))) lasts' links' symbols'
      → RowsLinking image X bound (s + 1) lasts' links' symbols'
  rows_go lasts' links' symbols' linked = record { linked = rw add-one linked; all = so_far.all }

  pub rows_all : s ≤ bound → bound ≤ s → Linked image X (row_count_of image) lasts links symbols
  rows_all low high =
      let valid = so_far.linked.valid in
      let last : s ≡ symbols_of image = omega (arith, so_far.all) in
      let every : rows_to image (span_start image s) ≡ row_count_of image =
      omega (arith, ap (span_start image) last, spans_end image valid, (valid_kept image valid).whole) in
      subst (λ (c : ℕ). Linked image X c lasts links symbols) every so_far.linked
