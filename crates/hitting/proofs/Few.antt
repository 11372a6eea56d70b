-- The sets that are to be met are few: one for each row of the image and one for I. Assumes nothing.
use Prim.Native.Nat.{ℕ, zero, suc, ◌+◌, ◌≤◌}
use mathlib.Core.Path.{refl}
use mathlib.Core.List.{List, ◌∷◌}
use native.Mathlib.Omega.{arith}
use lib.ListN.{length}
use Rattle.lists.specs.Tests.{neg}
use Rattle.lists.specs.Lists.{◌∈◌, here, there, Each}
use Rattle.lists.proofs.Lists.{in_none, each_more, each_joined, keep_in}
use Rattle.masks.specs.Sets.{member}
use Rattle.automata.specs.Image.{Row, Valid, symbols_of, row_count_of, initial_of, rows_start, rows_from, rows_of}
use Rattle.automata.proofs.RowWalks.{rows_count, symbol_among}
use Rattle.machine.specs.Machine.{Blocker}
use Rattle.machine.specs.Lent.{column}
use Rattle.machine.specs.Runs.{system_of}
use Rattle.machine.specs.Hitting.{cases_outside, cases_from, forbidden, to_meet}
use Rattle.machine.proofs.LentTables.{column_length, in_column, column_each}
use Rattle.machine.proofs.Counted.{all_few}

module _ (image : List ℕ) (valid : Valid image) where
  -- the cases of all rows
  abbrev every_case : List ℕ
  every_case = column (λ (row : Row). row.case) (rows_from image (row_count_of image) (rows_start image))

  -- the cases outside b are among them
  outside_among : (b s : ℕ) → suc s ≤ symbols_of image → Each (λ case. case ∈ every_case) (cases_outside b (rows_of image s))
  unfolding cases_outside
  outside_among b s l =
      column_each (λ (row : Row). row.case) (λ case. case ∈ every_case) _
      (λ row m. in_column (λ (r : Row). r.case) (symbol_among image s (valid, l) (keep_in (λ r. neg (member r.state b)) (rows_of image s) m).0))

  module _ (table : List Blocker) (below X : ℕ) where
    from_among : (count s : ℕ) → s + count ≤ symbols_of image
        → Each (λ case. case ∈ every_case) (cases_from (system_of image) (rows_of image) table below X count s)
    unfolding cases_from
    from_among zero s l = λ case m. absurd (in_none m)
    from_among (suc count) s l = each_joined _ (outside_among _ s (omega arith)) (from_among count (suc s) (omega arith))

    pub few_sets : length (to_meet (system_of image) (rows_of image) table below X) ≤ suc (row_count_of image)
    unfolding to_meet forbidden
    few_sets =
        omega (
          arith,
          all_few X (initial_of image ∷ every_case) (forbidden (system_of image) (rows_of image) table below X)
              (each_more (here refl) (λ case m. there (from_among (symbols_of image) 0 (omega arith) case m))),
          column_length (λ (row : Row). row.case) (rows_from image (row_count_of image) (rows_start image)),
          rows_count image (row_count_of image) (rows_start image),
        )
