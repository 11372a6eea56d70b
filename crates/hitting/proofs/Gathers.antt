-- The sets as they gather: one set, the rows of a symbol, and all symbols. Assumes nothing.
use Prim.Native.Nat.{ℕ, suc, ◌+◌, ◌-◌, ◌≤◌, ◌<◌}
use mathlib.Core.Path.{◌≡◌, refl, sym, ap, subst, ◌∙◌}
use mathlib.Core.Bool.{Bool, true, false}
use mathlib.Core.List.{List, [], ◌∷◌, ◌++◌}
use native.Mathlib.Nat.{sub-zero}
use native.Mathlib.Numerals.{add-one}
use native.Mathlib.Omega.{arith}
use borrow.Author.Tests.{eq-eqb, ne_eqb}
use lib.Dec.{eqb}
use lib.ListN.{length, length-append, get_or, take, set, length-set}
use lib.Seq.{length-take-le, take-suc-set}
use Rattle.lists.specs.Tests.{◌or◌, neg, choose}
use Rattle.lists.specs.Lists.{any, keep}
use Rattle.lists.proofs.Tests.{or_first, or_second}
use Rattle.masks.specs.Sets.{member, without}
use Rattle.automata.specs.Image.{Row, symbols_of, row_at, rows_of}
use Rattle.automata.specs.Answers.{ReadAs}
use Rattle.automata.specs.Walk.{row_of, AtRow, RowsStand, rows_between}
use Rattle.automata.specs.declared.image.Head.{Head}
use Rattle.automata.specs.declared.rows.Row as Read
use Rattle.automata.proofs.Reading.{head_symbols, head_initial}
use Rattle.automata.proofs.RowWalks.{one_stands, one_further, rows_ahead, none_ahead}
use Rattle.machine.specs.Machine.{Blocker}
use Rattle.machine.specs.Lent.{column}
use Rattle.machine.specs.Runs.{system_of}
use Rattle.machine.specs.Hitting.{cases_outside, cases_from, forbidden, with_set, with_cases, to_meet}
use Rattle.machine.proofs.Counted.{with_cases_joined, with_cases_longer}
use Rattle.hitting.specs.Slots.{slot_of}
use Rattle.hitting.specs.Sets.{Filled, HasRoom, held, with_row_cases, with_symbol}
use Rattle.hitting.specs.declared.gathering.Gathering.{Gathering}
use Rattle.hitting.proofs.Linking.{one_slotted}

module _ {SETS SLOTS : ℕ} where
  -- one set: it is empty, it is there, or it enters and is linked
  module _ (gathering : Gathering SETS SLOTS) (one : ℕ) (room : HasRoom gathering (with_set (held gathering) one)) where
    stays : eqb one 0 or any (eqb one) (held gathering) ≡ true → Filled (with_set (held gathering) one) gathering
    unfolding with_set choose
    stays e =
        let same : with_set (held gathering) one ≡ held gathering = rw e in
        subst (λ (sets : List ℕ). Filled sets gathering) (sym same) room.used

    pub set_empty : one ≡ 0 → Filled (with_set (held gathering) one) gathering
    set_empty e = stays (or_first _ _ (eq-eqb one 0 e))

    pub set_among : (b : Bool) → b ≡ any (eqb one) (held gathering) → b ≡ true → Filled (with_set (held gathering) one) gathering
    set_among b e t = stays (or_second _ _ (sym e ∙ t))

    module _ (b : Bool) (some : one ≡ 0 → ⊥) (e : b ≡ any (eqb one) (held gathering)) (f : b ≡ false) where
      new : with_set (held gathering) one ≡ held gathering ++ one ∷ []
      unfolding with_set choose ◌or◌
      new = rw (ne_eqb one 0 some, ← e, f)

      long : length (held gathering) ≡ gathering.count
      long = length-take-le gathering.count gathering.sets room.used.gathered.fits

      pub set_place : gathering.count < SETS
      set_place = omega (arith, room.room, ap length new, length-append (held gathering) (one ∷ []), long)

      pub place_linked : gathering.count < length gathering.links
      place_linked = omega (arith, set_place, room.used.links)

      pub place_fits : gathering.count + 1 < 65536
      place_fits = omega (arith, set_place, room.used.narrow)

      pub set_enters : (slots links : List ℕ) → slots ≡ set gathering.slots (slot_of (length gathering.slots) one) (gathering.count + 1)
          → links ≡ set gathering.links gathering.count (get_or gathering.slots (slot_of (length gathering.slots) one) 0)
          → Filled {SETS = SETS} {SLOTS = SLOTS} (with_set (held gathering) one)
          (record { sets = set gathering.sets gathering.count one; slots = slots; links = links; count = gathering.count + 1 })
      set_enters slots links put linked =
          let inside : gathering.count < length gathering.sets = omega (arith, set_place, room.used.places) in
          let more = one_slotted room.used.slotted one (omega (arith, long, place_linked)) in
          record {
            gathered = record {
              stands = ap (λ (k : ℕ). take k (set gathering.sets gathering.count one)) (add-one gathering.count)
                  ∙ take-suc-set gathering.sets gathering.count one inside ∙ sym new;
              fits = omega (arith, inside, length-set gathering.sets gathering.count one);
            };
            slotted = rw (put, linked, new) (rw long at more);
            places = length-set gathering.sets gathering.count one ∙ room.used.places;
            links = ap length linked ∙ length-set gathering.links gathering.count _ ∙ room.used.links;
            narrow = room.used.narrow;
          }

  -- one row: its state is in b, or what is left of its case enters
  module _ (image : List ℕ) (at : ℕ) (row : Read.Row) (is : row_of row ≡ row_at image at) (b X : ℕ) (inside : Bool) (test : inside ≡ member row.state.0 b)
      (gathering : Gathering SETS SLOTS) (room : HasRoom gathering (with_row_cases X b (held gathering) (row_at image at ∷ []))) where
    of_row : with_row_cases X b (held gathering) (row_of row ∷ []) ≡ with_row_cases X b (held gathering) (row_at image at ∷ [])
    of_row = ap (λ (r : Row). with_row_cases X b (held gathering) (r ∷ [])) is

    pub row_inside : inside ≡ true → Filled (with_row_cases X b (held gathering) (row_at image at ∷ [])) gathering
    unfolding cases_outside keep choose neg column with_cases
    row_inside t =
        let same : with_row_cases X b (held gathering) (row_at image at ∷ []) ≡ held gathering = sym of_row ∙ rw (← test, t) in
        subst (λ (sets : List ℕ). Filled sets gathering) (sym same) room.used

    module _ (left : ℕ) (is_left : left ≡ without row.case X) (f : inside ≡ false) where
      row_new : with_set (held gathering) left ≡ with_row_cases X b (held gathering) (row_at image at ∷ [])
      unfolding cases_outside keep choose neg column with_cases
      row_new = sym (rw (← test, f, is_left)) ∙ of_row

      pub row_room : HasRoom gathering (with_set (held gathering) left)
      row_room = rw row_new room

      pub row_outside : (after : Gathering SETS SLOTS) → Filled (with_set (held gathering) left) after
          → Filled (with_row_cases X b (held gathering) (row_at image at ∷ [])) after
      row_outside after filled = rw (← row_new) filled

-- what is filled with sets holds them
first_filled : {SETS SLOTS : ℕ} {sets : List ℕ} {gathering : Gathering SETS SLOTS} → Filled sets gathering → Filled (held gathering) gathering
first_filled {gathering = gathering} filled = subst (λ (sets : List ℕ). Filled sets gathering) (sym filled.gathered.stands) filled

-- rows joined
outside_first : (b : ℕ) (row : Row) (rows : List Row) → cases_outside b (row ∷ rows) ≡ cases_outside b (row ∷ []) ++ cases_outside b rows
unfolding cases_outside keep column choose
outside_first b row rows = at (neg (member row.state b))
  where
    at : (outside : Bool) → column (λ (r : Row). r.case) (choose outside (row ∷ keep (λ r. neg (member r.state b)) rows) (keep (λ r. neg (member r.state b)) rows))
        ≡ column (λ (r : Row). r.case) (choose outside (row ∷ []) []) ++ column (λ (r : Row). r.case) (keep (λ r. neg (member r.state b)) rows)
    at true = refl
    at false = refl

first_then : (X b : ℕ) (sets : List ℕ) (row : Row) (rows : List Row)
    → with_row_cases X b sets (row ∷ rows) ≡ with_row_cases X b (with_row_cases X b sets (row ∷ [])) rows
first_then X b sets row rows = ap (with_cases X sets) (outside_first b row rows) ∙ with_cases_joined X sets (cases_outside b (row ∷ [])) (cases_outside b rows)

-- the rows from start to end, before the row at `at`: those ahead give what all give
pub record RowsGathered {SETS SLOTS : ℕ} (image : List ℕ) (start end b X : ℕ) (before : Gathering SETS SLOTS) (at : ℕ) (gathering : Gathering SETS SLOTS) : Type 0 where
  pub at_row : AtRow image start end at
  pub used : Filled (held gathering) gathering
  pub left : with_row_cases X b (held gathering) (rows_between image at end) ≡ with_row_cases X b (held before) (rows_between image start end)

module _ {SETS SLOTS : ℕ} {image : List ℕ} {start end b X : ℕ} (before : Gathering SETS SLOTS)
    (room : HasRoom before (with_row_cases X b (held before) (rows_between image start end))) where
  module _ {at : ℕ} (gathering : Gathering SETS SLOTS) (so_far : RowsGathered image start end b X before at gathering) where
    pub rows_end : end ≤ at → Filled (with_row_cases X b (held before) (rows_between image start end)) gathering
    unfolding cases_outside keep column with_cases
    rows_end l =
        let all : held gathering ≡ with_row_cases X b (held before) (rows_between image start end) =
        ap (with_row_cases X b (held gathering)) (sym (none_ahead so_far.at_row l)) ∙ so_far.left in
        subst (λ (sets : List ℕ). Filled sets gathering) all so_far.used

    module _ (l : at < end) where
      pub row_stands : RowsStand image 1 at
      row_stands = one_stands so_far.at_row l

      split : with_row_cases X b (with_row_cases X b (held gathering) (row_at image at ∷ [])) (rows_between image (at + 9) end)
          ≡ with_row_cases X b (held before) (rows_between image start end)
      split =
          sym (first_then X b (held gathering) (row_at image at) (rows_between image (at + 9) end))
          ∙ ap (with_row_cases X b (held gathering)) (sym (rows_ahead so_far.at_row l))
          ∙ so_far.left

      pub next_room : HasRoom gathering (with_row_cases X b (held gathering) (row_at image at ∷ []))
      next_room =
          record {
            used = so_far.used;
            room =
                omega (
                  arith,
                  with_cases_longer X (with_row_cases X b (held gathering) (row_at image at ∷ [])) (cases_outside b (rows_between image (at + 9) end)),
                  ap length split,
                  room.room,
                );
          }

      module _ (after : Gathering SETS SLOTS) (filled : Filled (with_row_cases X b (held gathering) (row_at image at ∷ [])) after) where
        pub rows_go : RowsGathered image start end b X before (at + 9) after
        rows_go =
            record {
              at_row = one_further so_far.at_row l;
              used = first_filled filled;
              left = ap (λ (sets : List ℕ). with_row_cases X b sets (rows_between image (at + 9) end)) filled.gathered.stands ∙ split;
            }

  -- behind the last row the walk does not ask again
  pub rows_over : {at : ℕ} (gathering after : Gathering SETS SLOTS) → RowsGathered image start end b X before at gathering → at < end
      → Filled (with_row_cases X b (held gathering) (row_at image at ∷ [])) after → end - at ≤ 9
      → Filled (with_row_cases X b (held before) (rows_between image start end)) after
  rows_over gathering after so_far l filled last = rows_end after (rows_go gathering so_far l after filled) (omega arith)

pub symbol_known : {image : List ℕ} {head : Head} {s : ℕ} → ReadAs image head → s < head.symbols → s < symbols_of image
symbol_known read l = rw (← head_symbols read) l

-- all symbols, before symbol s: those ahead give what all give
pub record SymbolsGathered {SETS SLOTS : ℕ} (image : List ℕ) (table : List Blocker) (below X symbols s : ℕ) (gathering : Gathering SETS SLOTS) : Type 0 where
  pub used : Filled (held gathering) gathering
  pub left : with_cases X (held gathering) (cases_from (system_of image) (rows_of image) table below X (symbols - s) s)
      ≡ to_meet (system_of image) (rows_of image) table below X

module _ {SETS SLOTS : ℕ} {image : List ℕ} (table : List Blocker) (below X : ℕ) (room : length (to_meet (system_of image) (rows_of image) table below X) ≤ SETS) where
  -- the first set is that of I
  module _ {head : Head} (read : ReadAs image head) (before : Gathering SETS SLOTS) (none : Filled [] before) (left : ℕ) (is_left : left ≡ without head.initial X) where
    first_set : with_cases X (with_set (held before) left) (cases_from (system_of image) (rows_of image) table below X head.symbols 0)
        ≡ to_meet (system_of image) (rows_of image) table below X
    unfolding to_meet forbidden with_cases
    first_set = rw (none.gathered.stands, is_left, head_initial read, head_symbols read)

    pub first_room : HasRoom before (with_set (held before) left)
    first_room =
        record {
          used = first_filled none;
          room =
              omega (
                arith,
                with_cases_longer X (with_set (held before) left) (cases_from (system_of image) (rows_of image) table below X head.symbols 0),
                ap length first_set,
                room,
              );
        }

    pub symbols_start : (after : Gathering SETS SLOTS) → Filled (with_set (held before) left) after → SymbolsGathered image table below X head.symbols 0 after
    symbols_start after filled =
        record {
          used = first_filled filled;
          left =
              ap (λ (sets : List ℕ). with_cases X sets (cases_from (system_of image) (rows_of image) table below X (head.symbols - 0) 0)) filled.gathered.stands
              ∙ rw sub-zero first_set;
        }

  module _ {symbols s : ℕ} (gathering : Gathering SETS SLOTS) (so_far : SymbolsGathered image table below X symbols s gathering) where
    pub symbols_end : symbols ≤ s → Filled (to_meet (system_of image) (rows_of image) table below X) gathering
    unfolding cases_from with_cases
    symbols_end l =
        let none : symbols - s ≡ 0 = omega arith in
        let all : held gathering ≡ to_meet (system_of image) (rows_of image) table below X = rw none at so_far.left in
        subst (λ (sets : List ℕ). Filled sets gathering) all so_far.used

    module _ (l : s < symbols) where
      split_symbols : with_cases X (with_symbol (system_of image) (rows_of image) table below X (held gathering) s)
          (cases_from (system_of image) (rows_of image) table below X (symbols - (s + 1)) (s + 1))
          ≡ to_meet (system_of image) (rows_of image) table below X
      unfolding cases_from
      split_symbols =
          let c : symbols - s ≡ suc (symbols - suc s) = omega arith in
          sym (with_cases_joined X (held gathering) _ _) ∙ rw add-one (rw c at so_far.left)

      pub symbols_room : HasRoom gathering (with_symbol (system_of image) (rows_of image) table below X (held gathering) s)
      symbols_room =
          record {
            used = so_far.used;
            room =
                omega (
                  arith,
                  with_cases_longer X (with_symbol (system_of image) (rows_of image) table below X (held gathering) s)
                      (cases_from (system_of image) (rows_of image) table below X (symbols - (s + 1)) (s + 1)),
                  ap length split_symbols,
                  room,
                );
          }

      pub symbols_go : (after : Gathering SETS SLOTS)
          → Filled (with_symbol (system_of image) (rows_of image) table below X (held gathering) s) after → SymbolsGathered image table below X symbols (s + 1) after
      symbols_go after filled =
          record {
            used = first_filled filled;
            left =
                ap (λ (sets : List ℕ). with_cases X sets (cases_from (system_of image) (rows_of image) table below X (symbols - (s + 1)) (s + 1)))
                filled.gathered.stands
                ∙ split_symbols;
          }
