-- A run on an image, for every input: its checks, its record, and what each lent place then holds. Assumes nothing: these are definitions.
use Rattle.std.specs.Prelude.{ℕ, zero, suc, Bool, false, List, [], ◌∷◌, eqb, ltb, length}
use Rattle.lists.specs.Tests.{◌or◌, neg}
use Rattle.automata.specs.Image.{states_of, symbols_of, initial_of, final_of, rows_of, check, check_image}
use Rattle.automata.specs.Automaton.{backward}
use Rattle.machine.specs.System.{System}
use Rattle.machine.specs.Machine.{Given, Rooms, Next, goes_on, ends, comes_to, machine}
use Rattle.machine.specs.Machine.{Outcome, nonempty, empty, steps_lack, blockers_lack, word_lacks, starts_final}
use Rattle.machine.specs.Lent.{WordRoom, Lent, with_table, with_pending, with_word}
use Rattle.machine.specs.Hitting.{growth_of}

-- the backward system of an image: F is its one final case
abbrev pub system_of : List ℕ → System
system_of image = record {
  states = states_of image;
  symbols = symbols_of image;
  initial = initial_of image;
  finals = final_of image ∷ [];
  backward = λ s X. backward (rows_of image s) X;
}

-- what a run is given beside the image and the rooms: "hints (read only) and an allowance"; 02, 6: "A run gets an edition"; and 02, 7, a way to grow
pub record Terms : Type 0 where
  pub hints : List ℕ
  pub allowance : ℕ
  pub edition : ℕ
  pub way : ℕ

-- what a step on the image is given, and what a run's terms give each of its steps: the edition is the start's alone
abbrev pub step_given : List ℕ → List ℕ → ℕ → ℕ → Given
step_given image hints allowance way = record { grow = growth_of way (system_of image) (rows_of image); hints = hints; allowance = allowance }

abbrev pub given_of : List ℕ → Terms → Given
given_of image terms = step_given image terms.hints terms.allowance terms.way

-- 02, 8: "The run's record (answer, steps, level, whether the level is open, blockers held, pending, blocks made, hints accepted)". Of the blocker room the
-- first `held` places are in use, of the word room the first `pending`.
pub record RunRecord : Type 0 where
  pub answer : ℕ
  pub steps : ℕ
  pub level : ℕ
  pub is_open : Bool
  pub held : ℕ
  pub pending : ℕ
  pub blocks : ℕ
  pub accepted : ℕ

-- the tables and the record, as they stand between two calls and after a run
pub record Stage : Type 0 where
  pub tables : Lent
  pub run : RunRecord

-- 01: "It returns five numbers: the number, steps made, level, blockers held, hints accepted"
unfoldable pub five_numbers : RunRecord → List ℕ
five_numbers run = run.answer ∷ run.steps ∷ run.level ∷ run.held ∷ run.accepted ∷ []

-- 01's number for each way in which a run ends, and 02's for a start that is final already
unfoldable pub end_number : Outcome → ℕ
end_number empty = 0
end_number (nonempty word) = 1
end_number steps_lack = 2
end_number blockers_lack = 3
end_number word_lacks = 4
end_number starts_final = 5

-- 02, 8: "The answer is 6 (working) until the run ends"
unfoldable pub number_of : Next → ℕ
number_of (goes_on c) = 6
number_of (ends outcome c) = end_number outcome

-- the record where the machine has come to n
unfoldable pub record_of : Next → RunRecord
record_of n = record {
  answer = number_of n;
  steps = (comes_to n).steps;
  level = (comes_to n).level;
  is_open = (comes_to n).is_open;
  held = length (comes_to n).table;
  pending = length (comes_to n).pending;
  blocks = (comes_to n).blocks;
  accepted = (comes_to n).accepted;
}

-- the word that was found
unfoldable pub word_in : Outcome → List ℕ
word_in (nonempty word) = word
word_in empty = []
word_in steps_lack = []
word_in blockers_lack = []
word_in word_lacks = []
word_in starts_final = []

-- the word room, of which `waiting` places were in use before: the pending cases and their symbols while a run works; then no case, and the word if one was
-- found
unfoldable pub word_left : ℕ → Next → WordRoom → WordRoom
word_left waiting (goes_on c) before = with_pending waiting c.pending before
word_left waiting (ends outcome c) before = with_word waiting (word_in outcome) before

-- The lent tables where the machine has come to n, of which `held` and `waiting` places were in use before. "Below 20, pending cases are all 0; the
-- symbol table holds the word from its first place on "hit" .. and 0 elsewhere; the blocker room holds the entries in table order, with 0 after them."
unfoldable pub tables_after : ℕ → ℕ → Lent → Next → Lent
tables_after held waiting lent n = record { room = with_table held (comes_to n).table lent.room; word = word_left waiting n lent.word }

-- what stands in tables and record where a run has come to n: every place was written
abbrev pub shown : Lent → Next → Stage
shown lent n = record { tables = tables_after (length lent.room.masks) (length lent.word.cases) lent n; run = record_of n }

-- a number alone: the record has 0 in its other fields, and the tables hold this
abbrev pub alone_record : ℕ → RunRecord
alone_record number = record { answer = number; steps = 0; level = 0; is_open = false; held = 0; pending = 0; blocks = 0; accepted = 0 }

abbrev pub alone : Lent → ℕ → Stage
alone tables number = record { tables = tables; run = alone_record number }

-- 30: the tables of one room differ in length; 02, 10: "30 now compares three lengths for blocker room"
unfoldable pub odd_rooms : Lent → Bool
odd_rooms lent =
    neg (eqb (length lent.room.masks) (length lent.room.levels)) or neg (eqb (length lent.room.masks) (length lent.room.entered))
    or neg (eqb (length lent.word.cases) (length lent.word.symbols))

-- 31: a room or the hint table has over 65,536 places
unfoldable pub oversize : Lent → List ℕ → Bool
oversize lent hints = ltb 65536 (length lent.room.masks) or ltb 65536 (length lent.word.cases) or ltb 65536 (length hints)

-- 36: "an edition other than 1 or 2"
unfoldable pub unknown_edition : ℕ → Bool
unknown_edition edition = neg (eqb edition 1 or eqb edition 2)

-- 37: "a way other than 0 or 1"
unfoldable pub unknown_way : ℕ → Bool
unknown_way way = neg (eqb way 0 or eqb way 1)

-- the image's checks, then 30, 31, 36 and 37; 0 where none applies
unfoldable pub check_terms : Lent → List ℕ → ℕ → ℕ → ℕ → ℕ
check_terms lent hints edition way zero =
    check (odd_rooms lent) 30 (check (oversize lent hints) 31 (check (unknown_edition edition) 36 (check (unknown_way way) 37 0)))
check_terms lent hints edition way (suc number) = suc number

unfoldable pub check_run : List ℕ → Lent → Terms → ℕ
check_run image lent terms = check_terms lent terms.hints terms.edition terms.way (check_image image)

-- the places that are lent
abbrev pub rooms_of : Lent → Rooms
rooms_of lent = record { blockers = length lent.room.masks; word = length lent.word.cases }

-- "From 20 up the other four are 0 and no lent place changes."
unfoldable pub run_with : List ℕ → Lent → Terms → ℕ → Stage
run_with image lent terms zero = shown lent (machine (system_of image) (rooms_of lent) terms.edition (given_of image terms))
run_with image lent terms (suc number) = alone lent (suc number)

-- a run: refused under the number of the first check that applies, else what 01's machine makes of it in the lent rooms
unfoldable pub run_of : List ℕ → Lent → Terms → Stage
run_of image lent terms = run_with image lent terms (check_run image lent terms)
