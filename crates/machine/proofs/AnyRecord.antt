-- A step on any record and tables, made by a begin or not. What it leaves of a record that passes the checks passes them again, in tables of the same
-- lengths: this needs no law of the system. Assumes nothing.
use Prim.Native.Nat.{ℕ, zero, suc, ◌≤◌}
use mathlib.Core.Path.{◌≡◌, refl, sym, ap, subst, ◌∙◌}
use mathlib.Core.Bool.{Bool, true, false}
use mathlib.Core.List.{List, [], ◌∷◌}
use native.Mathlib.Omega.{arith}
use borrow.Author.Tests.{eqb-true, eqb-false}
use lib.Dec.{eqb}
use lib.ListN.{length}
use Rattle.lists.specs.Tests.{choose}
use Rattle.lists.proofs.Tests.{tests, facts}
use Rattle.automata.specs.Image.{check, check_image}
use Rattle.automata.proofs.Chained.{test_failed}
use Rattle.machine.specs.System.{System}
use Rattle.machine.specs.Machine.{Blocker, Pending, Configuration, Given, Rooms, Step, Next, goes_on, ends, comes_to, advance}
use Rattle.machine.specs.Machine.{open_step, extend_step, block_step, close_with}
use Rattle.machine.specs.Lent.{WordRoom, Lent, EvenRooms, column, column_back, mask_of, level_of, entered_of, case_of, symbol_of, placed, with_table, with_pending, with_word}
use Rattle.machine.specs.Runs.{Terms, RunRecord, Stage, system_of, given_of, rooms_of, end_number, number_of, record_of, word_in, word_left, tables_after}
use Rattle.machine.specs.Runs.{odd_rooms, oversize, check_terms, check_run}
use Rattle.machine.specs.Records.{configuration_of, after, working_step, Called, answering}
use Rattle.machine.specs.Records.{broken, check_record, check_step, step_with, step_of, steps_from}
use Rattle.machine.specs.Promises.{Unbroken, Changed, RoomChanged, Changes}
use Rattle.machine.proofs.Passing.{qualified_above}
use Rattle.machine.proofs.Steps.{under, Taken, opening, finding, extending, blocking, closing, emptying, step_taken}
use Rattle.machine.proofs.Steps.{Judged, room_to_open, extended, room_to_block, closed, found, emptied, no_room_to_open, no_room_to_block}
use Rattle.machine.proofs.Steps.{Advanced, tried, spent, advanced}
use Rattle.machine.proofs.Invariant.{word_length, finals_few, after_few}
use Rattle.machine.proofs.Standing.{Counted, Halts, advanced_counted, advanced_halts}
use Rattle.machine.proofs.LentTables.{column_length, column_back_length, placed_changed, blockers_length, pending_length}
use Rattle.machine.proofs.Judging.{number_low, wordless}
use Rattle.machine.proofs.RunsKept.{checked}

-- the word that was found
abbrev found_in : Next → List ℕ
found_in (goes_on c) = []
found_in (ends outcome c) = word_in outcome

-- where the machine has come to from a configuration in which so many cases were pending: no more are pending than there are levels, and a word that
-- was found has a symbol for each that was
record FewPending (before : ℕ) (n : Next) : Type 0 where
  few : length (comes_to n).pending ≤ (comes_to n).level
  word : number_of n ≡ 1 → length (found_in n) ≡ before

taken_few : {S : System} {given : Given} {rooms : Rooms} {c : Configuration} {pending : List Pending} {is_open : Bool} {st : Step} {n : Next}
    → Taken S given c pending is_open st → Judged rooms c st n → length pending ≤ c.level → FewPending (length pending) n
unfolding open_step extend_step block_step close_with number_of end_number word_in
taken_few {S} {c = c} opening (room_to_open k) l =
    record { few = omega (arith, finals_few S c.table (suc c.level)); word = λ e. absurd (omega arith) }
taken_few opening (no_room_to_open k) l = record { few = omega arith; word = λ e. absurd (omega arith) }
taken_few (finding {p = p} {rest = rest} s i t u) found l = record { few = omega arith; word = λ e. ap suc (word_length p rest) }
taken_few {S} {c = c} (extending {p = p} {rest = rest} s i t u) extended l =
    record { few = omega (arith, qualified_above S c.table (under c rest) p.case s t u); word = λ e. absurd (omega arith) }
taken_few {S} {c = c} (blocking {rest = rest} f) (room_to_block {d = d} k) l =
    record { few = after_few S d.table c.level rest (omega arith); word = λ e. absurd (omega arith) }
taken_few (blocking f) (no_room_to_block k) l = record { few = omega arith; word = λ e. absurd (omega arith) }
taken_few (closing e) closed l = record { few = omega arith; word = λ e. absurd (omega arith) }
taken_few (emptying j i h t) emptied l = record { few = omega arith; word = λ e. absurd (omega arith) }

advanced_few : {S : System} {rooms : Rooms} {given : Given} {c : Configuration} {n : Next} → Advanced S rooms given c n
    → length c.pending ≤ c.level → FewPending (length c.pending) n
unfolding number_of end_number word_in
advanced_few {given = given} {c = c} (tried k j) l = taken_few (step_taken {given = given} c) j l
advanced_few (spent k) l = record { few = omega arith; word = λ e. absurd (omega arith) }

-- 33's test as the proposition, and the proposition as the test
pub unbroken_means : (rooms : Rooms) (run : RunRecord) → broken rooms run ≡ false → Unbroken rooms run
unfolding broken
unbroken_means rooms run e = search facts depth 9

means_unbroken : (rooms : Rooms) (run : RunRecord) → Unbroken rooms run → broken rooms run ≡ false
unfolding broken
means_unbroken rooms run u = search tests depth 9

-- tables as long as those that were lent
pub record SameLengths (lent tables : Lent) : Type 0 where
  pub masks : length tables.room.masks ≡ length lent.room.masks
  pub levels : length tables.room.levels ≡ length lent.room.levels
  pub entered : length tables.room.entered ≡ length lent.room.entered
  pub cases : length tables.word.cases ≡ length lent.word.cases
  pub symbols : length tables.word.symbols ≡ length lent.word.symbols

pub lengths_same : (lent : Lent) → SameLengths lent lent
lengths_same lent = record { masks = refl; levels = refl; entered = refl; cases = refl; symbols = refl }

-- a run's checks look at their lengths alone
lengths_checked : (image : List ℕ) (lent tables : Lent) (terms : Terms) → SameLengths lent tables → check_run image tables terms ≡ check_run image lent terms
unfolding check_run check_terms odd_rooms oversize
lengths_checked image lent tables terms same = at (check_image image)
  where
    at : (number : ℕ) → check_terms tables terms.hints terms.edition terms.way number
        ≡ check_terms lent terms.hints terms.edition terms.way number
    at zero = rw (same.masks, same.levels, same.entered, same.cases, same.symbols)
    at (suc number) = refl

-- what a step takes unless a run's checks refuse it: tables as long as those that were lent, and a record that is not broken
pub record Takes (lent : Lent) (at : Stage) : Type 0 where
  pub same : SameLengths lent at.tables
  pub unbroken : Unbroken (rooms_of lent) at.run

-- "gives 33 .., after 37"
pub run_first : (at : Stage) (number : ℕ) → (number ≡ 0 → ⊥) → check_record at number ≡ number
unfolding check_record
run_first at zero f = absurd (f refl)
run_first at (suc number) f = refl

-- so a run's checks are all that refuses it
pub takes_checked : (image : List ℕ) (terms : Terms) {lent : Lent} {at : Stage} → Takes lent at → check_step image terms at ≡ check_run image lent terms
unfolding check_step check_record check
takes_checked image terms {lent} {at} takes =
    ap (check_record at) (lengths_checked image lent at.tables terms takes.same) ∙ passed (check_run image lent terms)
  where
    whole : broken (rooms_of at.tables) at.run ≡ false
    whole = means_unbroken _ _ (rw (takes.same.masks, takes.same.cases) takes.unbroken)

    passed : (number : ℕ) → check_record at number ≡ number
    passed zero = rw whole
    passed (suc number) = run_first at (suc number) (λ e. omega arith)

-- what the checks of a step leave where none applies
pub record Passed (image : List ℕ) (terms : Terms) (at : Stage) : Type 0 where
  pub none : check_run image at.tables terms ≡ 0
  pub takes : Takes at.tables at

pub checked_passed : (image : List ℕ) (terms : Terms) (at : Stage) → check_step image terms at ≡ 0 → Passed image terms at
unfolding check_step check_record
checked_passed image terms at = from (check_run image at.tables terms) refl
  where
    from : (number : ℕ) → check_run image at.tables terms ≡ number → check_record at number ≡ 0 → Passed image terms at
    from zero none e = record {
      none = none;
      takes = record {
        same = lengths_same at.tables;
        unbroken = unbroken_means _ _ (test_failed _ 33 _ e);
      };
    }
    from (suc number) none e = absurd (omega arith)

-- it takes the same where other tables of these lengths were lent
takes_further : {lent tables : Lent} {at : Stage} → SameLengths lent tables → Takes tables at → Takes lent at
takes_further same takes = record { same = omega arith; unbroken = omega arith }

-- what comes of a step: it is refused, finds the record finished, or works on it
pub data Stepped (image : List ℕ) (terms : Terms) (at : Stage) : Called → Type 0 where
  refused : (check_step image terms at ≡ 0 → ⊥) → Stepped image terms at (record { number = check_step image terms at; left = at })
  finished : check_step image terms at ≡ 0 → (at.run.answer ≡ 6 → ⊥) → Stepped image terms at (answering at)
  worked : check_step image terms at ≡ 0 → at.run.answer ≡ 6 → Stepped image terms at (answering (working_step image (given_of image terms) at))

pub stepped : (image : List ℕ) (terms : Terms) (at : Stage) → Stepped image terms at (step_of image terms at)
unfolding step_of step_with choose
stepped image terms at = from (check_step image terms at) refl
  where
    by : check_step image terms at ≡ 0 → (b : Bool) → eqb at.run.answer 6 ≡ b
        → Stepped image terms at (answering (choose b (working_step image (given_of image terms) at) at))
    by none true e = worked none (eqb-true _ _ e)
    by none false e = finished none (eqb-false _ _ e)

    from : (number : ℕ) → check_step image terms at ≡ number → Stepped image terms at (step_with image (given_of image terms) at number)
    from zero e = by e (eqb at.run.answer 6) refl
    from (suc number) e =
        subst (λ (x : ℕ). Stepped image terms at (record { number = x; left = at })) e (refused (λ z. omega (arith, e, z)))

module _ {image : List ℕ} {terms : Terms} {at : Stage} where
  -- "a refused step changes nothing either, the record included"
  pub stepped_refused : {called : Called} → Stepped image terms at called → (check_step image terms at ≡ 0 → ⊥)
      → called ≡ record { number = check_step image terms at; left = at }
  stepped_refused (refused f) n = refl
  stepped_refused (finished none f) n = absurd (n none)
  stepped_refused (worked none six) n = absurd (n none)

  -- "a finished record (0 to 5) gives its answer again and nothing changes"
  pub stepped_finished : {called : Called} → Stepped image terms at called → check_step image terms at ≡ 0 → at.run.answer ≤ 5 → called ≡ answering at
  stepped_finished (refused f) none l = absurd (f none)
  stepped_finished (finished e f) none l = refl
  stepped_finished (worked e six) none l = absurd (omega arith)

  -- "does the machine's step for the places in use as they stand"
  pub stepped_works : {called : Called} → Stepped image terms at called → check_step image terms at ≡ 0 → at.run.answer ≡ 6
      → called ≡ answering (after at (advance (system_of image) (rooms_of at.tables) (given_of image terms) (goes_on (configuration_of at))))
  unfolding working_step
  stepped_works (refused f) none six = absurd (f none)
  stepped_works (finished e f) none six = absurd (f six)
  stepped_works (worked e w) none six = refl

answer_low : (n : Next) → number_of n ≤ 6
unfolding number_of
answer_low (goes_on c) = omega arith
answer_low (ends o c) = omega (arith, number_low o)

-- the tables where the machine has come to n, of which so many places were in use before
module _ (lent : Lent) (even : EvenRooms lent) (held waiting : ℕ) (n : Next) where
  abbrev afterwards : Lent
  afterwards = tables_after held waiting lent n

  table_changed : (field : Blocker → ℕ) (before : List ℕ) → length lent.room.masks ≡ length before → held ≤ length lent.room.masks
      → length (comes_to n).table ≤ length lent.room.masks
      → Changed held (length (comes_to n).table) before (placed held (column field (comes_to n).table) before)
  table_changed field before e l h =
      placed_changed held (column field (comes_to n).table) before (column_length field (comes_to n).table) (omega arith) (omega arith)

  pub room_changed : held ≤ length lent.room.masks → length (comes_to n).table ≤ length lent.room.masks
      → RoomChanged held (length (comes_to n).table) lent.room afterwards.room
  unfolding tables_after with_table
  room_changed l h = record {
    masks = table_changed mask_of lent.room.masks refl l h;
    levels = table_changed level_of lent.room.levels even.blockers.levels l h;
    entered = table_changed entered_of lent.room.entered even.blockers.entered l h;
  }

-- a case and a symbol for each case that is pending, if no word was found
module _ (room : WordRoom) (even : length room.cases ≡ length room.symbols) (waiting : ℕ) (few : waiting ≤ length room.cases) where
  pub cases_changed : (n : Next) → Halts n → length (comes_to n).pending ≤ length room.cases
      → Changed waiting (length (comes_to n).pending) room.cases (word_left waiting n room).cases
  unfolding word_left with_pending with_word
  cases_changed (goes_on c) halts l = placed_changed waiting (column_back case_of c.pending) room.cases (column_back_length case_of c.pending) few l
  cases_changed (ends o c) halts l = placed_changed waiting [] room.cases (sym (ap length halts.none_pending)) few l

  symbols_changed : (n : Next) → Halts n → (number_of n ≡ 1 → ⊥) → length (comes_to n).pending ≤ length room.cases
      → Changed waiting (length (comes_to n).pending) room.symbols (word_left waiting n room).symbols
  unfolding word_left with_pending with_word number_of
  symbols_changed (goes_on c) halts f l =
      placed_changed waiting (column_back symbol_of c.pending) room.symbols (column_back_length symbol_of c.pending) (omega arith) (omega arith)
  symbols_changed (ends o c) halts f l =
      placed_changed waiting (word_in o) room.symbols (ap length (wordless o f) ∙ sym (ap length halts.none_pending)) (omega arith) (omega arith)

  -- the word has as many symbols as cases were pending
  word_changed : (n : Next) → number_of n ≡ 1 → length (found_in n) ≡ waiting → Changed waiting waiting room.symbols (word_left waiting n room).symbols
  unfolding word_left with_word number_of
  word_changed (goes_on c) one e = absurd (omega arith)
  word_changed (ends o c) one e = placed_changed waiting (word_in o) room.symbols e (omega arith) (omega arith)

-- a table that stays
unchanged : (used : ℕ) (table : List ℕ) → Changed used used table table
unchanged used table = record { long = refl; freed = λ i l h. absurd (omega arith); rest = λ i l h. refl }

nothing_changes : (at : Stage) (number : ℕ) → Changes at (record { number = number; left = at })
nothing_changes at number = record {
  room = record { masks = unchanged _ _; levels = unchanged _ _; entered = unchanged _ _ };
  cases = unchanged _ _;
  symbols = λ f. unchanged _ _;
  word = λ e. unchanged _ _;
}

-- so the tables keep their lengths
changes_lengths : {at : Stage} {called : Called} → Changes at called → SameLengths at.tables called.left.tables
changes_lengths {at} {called} c = record {
  masks = c.room.masks.long;
  levels = c.room.levels.long;
  entered = c.room.entered.long;
  cases = c.cases.long;
  symbols = by (eqb called.number 1) refl;
}
  where
    by : (b : Bool) → eqb called.number 1 ≡ b → length called.left.tables.word.symbols ≡ length at.tables.word.symbols
    by true e = (c.word (eqb-true _ _ e)).long
    by false e = (c.symbols (eqb-false _ _ e)).long

-- a step of a record that works, of which only 33's bounds are known
module _ (image : List ℕ) (given : Given) (at : Stage) (even : EvenRooms at.tables) (bounds : Unbroken (rooms_of at.tables) at.run) where
  made : Next
  made = advance (system_of image) (rooms_of at.tables) given (goes_on (configuration_of at))

  how : Advanced (system_of image) (rooms_of at.tables) given (configuration_of at) made
  unfolding made
  how = advanced (system_of image) (rooms_of at.tables) given (configuration_of at)

  counted : Counted (rooms_of at.tables) (comes_to made)
  counted = advanced_counted how (omega (arith, bounds, blockers_length at.tables.room at.run.held 0))

  waiting : FewPending at.run.pending made
  waiting =
      let long : length (configuration_of at).pending ≡ at.run.pending = pending_length at.tables.word at.run.pending in
      subst (λ (before : ℕ). FewPending before made) long (advanced_few how (omega (arith, long, bounds.pending)))

  work_changes : Changes at (answering (working_step image given at))
  unfolding working_step after record_of tables_after made
  work_changes =
      let word = at.tables.word in
      let few : at.run.pending ≤ length at.tables.word.cases = omega (arith, bounds) in
      let fewer : length (comes_to made).pending ≤ length at.tables.word.cases = omega (arith, waiting.few, counted.word_fits) in
      record {
        room = room_changed at.tables even at.run.held at.run.pending made bounds.held counted.table_fits;
        cases = cases_changed word even.symbols at.run.pending few made (advanced_halts how) fewer;
        symbols = λ f. symbols_changed word even.symbols at.run.pending few made (advanced_halts how) f fewer;
        word = λ e. word_changed word even.symbols at.run.pending few made e (waiting.word e);
      }

  -- what it leaves, the next step takes
  pub work_takes : Takes at.tables (working_step image given at)
  unfolding working_step after record_of made
  work_takes = record { same = changes_lengths work_changes; unbroken = omega (arith, answer_low made, counted, waiting.few) }

-- "the rest stay": of every step
pub stepped_changes : {image : List ℕ} {terms : Terms} {at : Stage} {called : Called} → Stepped image terms at called → Changes at called
stepped_changes {at = at} (refused f) = nothing_changes at _
stepped_changes {at = at} (finished none f) = nothing_changes at _
stepped_changes {image} {terms} {at} (worked none e) =
    let passed = checked_passed image terms at none in
    work_changes image (given_of image terms) at (checked image at.tables terms passed.none).even passed.takes.unbroken

-- what a step leaves, the next one takes
pub stepped_takes : {image : List ℕ} {terms : Terms} {at : Stage} {called : Called} {lent : Lent} → Stepped image terms at called → Takes lent at
    → Takes lent called.left
stepped_takes (refused f) takes = takes
stepped_takes (finished none f) takes = takes
stepped_takes {image} {terms} {at} (worked none e) takes =
    let passed = checked_passed image terms at none in
    takes_further takes.same
    (work_takes image (given_of image terms) at (checked image at.tables terms passed.none).even passed.takes.unbroken)

module _ (image : List ℕ) where
  -- a record that does not work stays as it is, whether the step is refused or not: a finished one, and that of a refused begin
  pub unworked_left : (terms : Terms) (at : Stage) → (at.run.answer ≡ 6 → ⊥) → (step_of image terms at).left ≡ at
  unworked_left terms at f = by (stepped image terms at)
    where
      by : {called : Called} → Stepped image terms at called → called.left ≡ at
      by (refused none) = refl
      by (finished none g) = refl
      by (worked none six) = absurd (f six)

  pub unworked_stays : (at : Stage) → (at.run.answer ≡ 6 → ⊥) → (steps : List Terms) → steps_from image at steps ≡ at
  unfolding steps_from
  unworked_stays at f [] = refl
  unworked_stays at f (terms ∷ later) = ap (λ (x : Stage). steps_from image x later) (unworked_left terms at f) ∙ unworked_stays at f later
