-- The whole growth: the table has room for the sets, they are few enough to count, and what is not picked is the set that X grows to. Assumes nothing.
use Prim.Native.Nat.{ℕ, ◌≤◌, ◌<◌}
use mathlib.Core.Path.{◌≡◌, ap, ◌∙◌}
use mathlib.Core.List.{List}
use native.Mathlib.Omega.{arith}
use lib.ListN.{length}
use Rattle.masks.specs.Sets.{without, full}
use Rattle.automata.specs.Image.{row_count_of, rows_of}
use Rattle.automata.specs.Answers.{ReadAs}
use Rattle.automata.specs.declared.image.Head.{Head}
use Rattle.automata.proofs.ValidImage.{valid_kept}
use Rattle.automata.proofs.Reading.{head_states}
use Rattle.machine.specs.Machine.{Blocker}
use Rattle.machine.specs.Runs.{system_of}
use Rattle.machine.specs.Hitting.{to_meet, picked, by_hitting_set}
use Rattle.hitting.specs.Sets.{Filled, held}
use Rattle.hitting.specs.declared.gathering.Gathering.{Gathering}
use Rattle.hitting.proofs.Few.{few_sets}

module _ {image : List ℕ} {head : Head} (read : ReadAs image head) where
  -- there are at most 4,096 rows
  pub all_rows : row_count_of image < 4097
  all_rows = omega (arith, (valid_kept image read.valid).few_rows)

  module _ (table : List Blocker) (below X : ℕ) where
    pub room_enough : {SETS : ℕ} → row_count_of image < SETS → length (to_meet (system_of image) (rows_of image) table below X) ≤ SETS
    room_enough l = omega (arith, few_sets image read.valid table below X)

    module _ {SETS SLOTS : ℕ} (gathering : Gathering SETS SLOTS) (filled : Filled (to_meet (system_of image) (rows_of image) table below X) gathering) where
      pub few_enough : length (held gathering) < 8192
      few_enough = omega (arith, ap length filled.gathered.stands, few_sets image read.valid table below X, all_rows)

      pub grown : (all picks result : ℕ) → all ≡ full head.states → picks ≡ picked head.states (held gathering) → result ≡ without all picks
          → result ≡ by_hitting_set (system_of image) (rows_of image) table below X
      unfolding by_hitting_set
      grown all picks result a p r = r ∙ rw (a, p, filled.gathered.stands, head_states read)
