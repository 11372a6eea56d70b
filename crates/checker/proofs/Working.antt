-- The ways through the work on a pending case: a word is found, one more case becomes pending, or no symbol qualifies. Assumes nothing.
use Prim.Native.Nat.{ℕ, zero, suc, ◌+◌, ◌-◌, ◌≤◌, ◌<◌}
use mathlib.Core.Path.{◌≡◌, refl, sym, ap, subst, ◌∙◌}
use mathlib.Core.Bool.{Bool, true, false}
use mathlib.Core.List.{List, [], ◌∷◌}
use mathlib.Core.Option as Math
use mathlib.Core.Option.{none, some}
use native.Mathlib.Numerals.{add-one}
use native.Mathlib.Omega.{arith}
use lib.Dec.{T}
use lib.ListN.{length, take, get_or}
use Rattle.std.specs.Prelude.{Option, Some, None}
use Rattle.lists.specs.Lists.{first_from}
use Rattle.lists.proofs.Tests.{fails, or_right, neg_fails, fails_neg}
use Rattle.lists.proofs.Lists.{first_from_some}
use Rattle.masks.specs.Sets.{subset}
use Rattle.automata.specs.Image.{symbols_of, initial_of}
use Rattle.automata.specs.declared.image.Symbol.{Symbol}
use Rattle.machine.specs.System.{System}
use Rattle.machine.specs.Machine.{Blocker, Pending, Configuration, Given, one_more, blocked, settled, qualifies, word_of, extend_step, work_on, work_step, step_on, step}
use Rattle.machine.specs.Machine.{Step, nonempty, goes_on, ends, judge}
use Rattle.machine.specs.Lent.{BlockerRoom, WordRoom, blockers_in, pending_first, with_pending, with_word}
use Rattle.machine.specs.Runs.{Terms, RunRecord, Stage, system_of, given_of, rooms_of, end_number, number_of, record_of, word_in, word_left}
use Rattle.machine.specs.Records.{configuration_of, after}
use Rattle.machine.proofs.LentTables.{blockers_length, pending_length}
use Rattle.machine.proofs.Unstamped.{same_qualifies}
use Rattle.blockers.specs.Room.{table_of}
use Rattle.blockers.proofs.Parts.{part_alike}
use Rattle.choices.specs.Found.{found_of}
use Rattle.wordroom.specs.Room.{Holds as HoldsWord}
use Rattle.checker.specs.Stage.{stage, made_by, block_of, Ready, counted_of, Leaves, Extended}
use Rattle.checker.proofs.Stages.{ready_holds, word_changes}

-- what the search for a symbol says of the first symbol that qualifies
symbol_in : Option (Symbol × ℕ) → ℕ
symbol_in None = 0
symbol_in (Some found) = found.0.0

case_in : Option (Symbol × ℕ) → ℕ
case_in None = 0
case_in (Some found) = found.1

found_some : (S : System) (X : ℕ) (o : Math.Option ℕ) (symbol : Symbol) (case : ℕ) → found_of S X o ≡ Some (symbol, case)
    → (o ≡ some symbol.0) × (case ≡ S.backward symbol.0 X)
unfolding found_of symbol_in case_in
found_some S X none symbol case e = let z : ◌≡◌ {A = ℕ} 0 1 = cc in absurd (omega arith)
found_some S X (some s) symbol case e =
    let number : s ≡ symbol.0 = ap symbol_in e in
    (ap (λ (k : ℕ). some k) number, sym (ap case_in e) ∙ ap (λ (k : ℕ). S.backward k X) number)

found_none : (S : System) (X : ℕ) (o : Math.Option ℕ) → found_of S X o ≡ None → o ≡ none
unfolding found_of
found_none S X none e = refl
found_none S X (some s) e = let z : ◌≡◌ {A = ℕ} 0 1 = cc in absurd (omega arith)

module _ (image : List ℕ) {room : BlockerRoom} {word : WordRoom} {run : RunRecord}
    (ready : Ready (stage room word run)) (one : 1 ≤ run.pending) where
  S : System
  S = system_of image

  here : Stage
  here = stage room word run

  c : Configuration
  c = configuration_of (stage room word run)

  -- the lowest pending case, its level but one, and the cases above it
  X : ℕ
  X = get_or word.cases (run.pending - 1) 0

  below : ℕ
  below = run.level - run.pending

  rest : List Pending
  rest = pending_first word (run.pending - 1)

  lowest : Pending
  lowest = record { case = get_or word.cases (run.pending - 1) 0; symbol = get_or word.symbols (run.pending - 1) 0 }

  table : List Blocker
  table = table_of run.held room

  all_pending : pending_first word run.pending ≡ lowest ∷ rest
  unfolding pending_first lowest rest
  all_pending = let e : run.pending ≡ suc (run.pending - 1) = omega arith in ap (pending_first word) e

  below_is : run.level - suc (length rest) ≡ below
  unfolding rest below
  below_is = omega (arith, pending_length word (run.pending - 1))

  pub below_small : run.level - run.pending < 65536
  below_small = omega (arith, ready.bounds.level, ready.room_fits)

  -- the step, by the first symbol that qualifies
  first : Math.Option ℕ
  first = first_from (qualifies S table below X) (symbols_of image) 0

  worked : (given : Given) (o : Math.Option ℕ) → first ≡ o → step S given c ≡ work_on S given c lowest rest below o
  unfolding step step_on work_step S c first X below table lowest rest
  worked given o e = rw (all_pending, below_is, e)

  module _ (terms : Terms) {found : Option (Symbol × ℕ)} {part : List Blocker}
      (held : part ≡ blockers_in (take run.held room.masks) (take run.held room.levels))
      (search_is : found ≡ found_of (system_of image) (get_or word.cases (run.pending - 1) 0)
      (first_from (qualifies (system_of image) part (run.level - run.pending) (get_or word.cases (run.pending - 1) 0)) (symbols_of image) 0)) where
    found_is : found ≡ found_of S X first
    unfolding S X first below table
    found_is =
        search_is
        ∙ ap (λ (test : ℕ → Bool). found_of (system_of image) (get_or word.cases (run.pending - 1) 0) (first_from test (symbols_of image) 0))
        (ap (λ (t : List Blocker). qualifies (system_of image) t (run.level - run.pending) (get_or word.cases (run.pending - 1) 0)) held
        ∙ same_qualifies (system_of image) (part_alike (ready_holds ready) (initial_of image)) (run.level - run.pending) (get_or word.cases (run.pending - 1) 0))

    pub work_blocks : {later : Stage} → found ≡ None
        → later ≡ made_by (block_of image terms (pending_first word (run.pending - 1)) (run.level - run.pending) (get_or word.cases (run.pending - 1) 0))
        (stage room word run)
        → later ≡ made_by (step (system_of image) (given_of image terms)) (stage room word run)
    unfolding made_by block_of work_on S c lowest rest below X
    work_blocks nothing made =
        made ∙ ap (λ (st : Step). after (stage room word run) (judge (rooms_of (stage room word run).tables) (configuration_of (stage room word run)) st))
        (sym (worked (given_of image terms) none (found_none _ _ _ (sym found_is ∙ nothing))))

    module _ (symbol : Symbol) (case : ℕ) (is : found ≡ Some (symbol, case)) where
      some_found : first ≡ some symbol.0
      some_found = (found_some S X first symbol case (sym found_is ∙ is)).0

      case_is : case ≡ S.backward symbol.0 X
      case_is = (found_some S X first symbol case (sym found_is ∙ is)).1

      test_is : subset (initial_of image) case ≡ subset (initial_of image) (S.backward symbol.0 X)
      test_is = ap (subset (initial_of image)) case_is

      -- the step extends
      extends_by : (b : Bool) → subset (initial_of image) case ≡ b
          → step S (given_of image terms) c ≡ extend_step S c lowest rest symbol.0 b
      unfolding work_on S X c lowest
      extends_by b e = worked (given_of image terms) (some symbol.0) some_found ∙ ap (extend_step S c lowest rest symbol.0) (sym test_is ∙ e)

      -- at level 0 a backward set that qualifies contains I, so one that does not is pending above level 0
      pub pend_room : subset (initial_of image) case ≡ false → HoldsWord (run.pending + 1) word
      unfolding qualifies settled blocked S X first below
      pend_room not_inside = at (run.level - run.pending) refl
        where
          at : (under : ℕ) → run.level - run.pending ≡ under → HoldsWord (run.pending + 1) word
          at zero e =
              let chose = (first_from_some (qualifies S table below X) (symbols_of image) 0 some_found).2 in
              let free : T (subset (initial_of image) (S.backward symbol.0 X)) → ⊥ = fails (sym test_is ∙ not_inside) in
              let bottom : T (qualifies S table 0 X symbol.0) = subst (λ (k : ℕ). T (qualifies S table k X symbol.0)) e chose in
              absurd (neg_fails _ bottom (or_right _ _ (fails_neg _ free)))
          at (suc under) e =
              record {
                in_cases = omega (arith, ready.bounds.level);
                in_symbols = omega (arith, ready.bounds.level, ready.word_room);
              }

      module _ {word' : WordRoom} {r : RunRecord} where
        finds : subset (initial_of image) case ≡ true
            → Leaves (counted_of run 1 0) (with_word run.pending (symbol.0 ∷ word_of (pending_first word run.pending)) word) r word'
            → stage room word' r ≡ made_by (step (system_of image) (given_of image terms)) (stage room word run)
        unfolding made_by judge extend_step word_left word_in record_of number_of end_number S c table here
        finds inside leaves =
            word_changes ready (ends (nonempty (symbol.0 ∷ word_of (lowest ∷ rest))) (one_more c table run.level run.is_open [])) refl
            (leaves.word_is ∙ rw all_pending)
            (rw (leaves.record_is, add-one run.steps, blockers_length room run.held 0))
            ∙ sym (ap (λ (st : Step). after here (judge (rooms_of here.tables) c st)) (extends_by true inside))

        pends : subset (initial_of image) case ≡ false
            → Leaves (counted_of run 6 (run.pending + 1))
            (with_pending run.pending (record { case = case; symbol = symbol.0 } ∷ pending_first word run.pending) word) r word'
            → stage room word' r ≡ made_by (step (system_of image) (given_of image terms)) (stage room word run)
        unfolding made_by judge extend_step word_left record_of number_of S c table here X lowest rest
        pends outside leaves =
            let now_pending : List Pending = record { case = S.backward symbol.0 X; symbol = symbol.0 } ∷ lowest ∷ rest in
            let counted : length now_pending ≡ run.pending + 1 = omega (arith, ap length all_pending, pending_length word run.pending) in
            let e : record { case = case; symbol = symbol.0 } ∷ pending_first word run.pending ≡ now_pending = rw (case_is, all_pending) in
            word_changes ready (goes_on (one_more c table run.level run.is_open now_pending)) refl
            (leaves.word_is ∙ rw e)
            (rw (leaves.record_is, add-one run.steps, blockers_length room run.held 0, counted))
            ∙ sym (ap (λ (st : Step). after here (judge (rooms_of here.tables) c st)) (extends_by false outside))

        pub work_extends : Extended (subset (initial_of image) case) run (record { case = case; symbol = symbol.0 }) (pending_first word run.pending) word r word'
            → stage room word' r ≡ made_by (step (system_of image) (given_of image terms)) (stage room word run)
        work_extends = at (subset (initial_of image) case) refl
          where
            at : (b : Bool) → subset (initial_of image) case ≡ b
                → Extended b run (record { case = case; symbol = symbol.0 }) (pending_first word run.pending) word r word'
                → stage room word' r ≡ made_by (step (system_of image) (given_of image terms)) (stage room word run)
            at true e leaves = finds e leaves
            at false e leaves = pends e leaves

-- what an extend leaves, by the test
module _ (initial case : ℕ) (b : Bool) (test : b ≡ subset initial case) (run : RunRecord) (symbol : ℕ) (pending : List Pending) (word : WordRoom) {r : RunRecord} {word' : WordRoom} where
  pub extend_finds : b ≡ true → Leaves (counted_of run 1 0) (with_word run.pending (symbol ∷ word_of pending) word) r word'
      → Extended (subset initial case) run (record { case = case; symbol = symbol }) pending word r word'
  extend_finds e leaves =
      subst (λ (x : Bool). Extended x run (record { case = case; symbol = symbol }) pending word r word') (sym e ∙ test) leaves

  pub extend_pends : b ≡ false
      → Leaves (counted_of run 6 (run.pending + 1)) (with_pending run.pending (record { case = case; symbol = symbol } ∷ pending) word) r word'
      → Extended (subset initial case) run (record { case = case; symbol = symbol }) pending word r word'
  extend_pends e leaves =
      subst (λ (x : Bool). Extended x run (record { case = case; symbol = symbol }) pending word r word') (sym e ∙ test) leaves
