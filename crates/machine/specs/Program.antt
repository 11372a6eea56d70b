-- The program, as 01 has it: the two lines of a run, and what its own run is lent and given. Assumes nothing: these are definitions.
use Rattle.std.specs.Prelude.{ℕ, zero, suc, List, [], ◌∷◌, take, replicate}
use Rattle.writing.specs.Lines.{text_of}
use Rattle.machine.specs.Lent.{Lent, room_of, word_room_of}
use Rattle.machine.specs.Runs.{Terms, RunRecord, Stage, five_numbers, run_of}

-- "Line 2: on 0 the frame's masks in table order, on 1 the word's symbols ..; else empty"
unfoldable pub second_line : ℕ → List ℕ → List ℕ → List ℕ
second_line zero frame word = frame
second_line (suc zero) frame word = word
second_line (suc (suc number)) frame word = []

-- "Line 1: the five numbers", and line 2: the frame is the blockers held, the word is as long as the level says. A table that is shorter is taken as it is.
unfoldable pub two_lines : RunRecord → List ℕ → List ℕ → List (List ℕ)
two_lines run masks symbols = five_numbers run ∷ second_line run.answer (take run.held masks) (take run.level symbols) ∷ []

-- the bytes of both, of what a run leaves
unfoldable pub lines_of : Stage → List ℕ
lines_of at = text_of (two_lines at.run at.tables.room.masks at.tables.word.symbols)

-- "with no hints, 256 places in each room and an allowance of 100,000"; 02, 7: "Programs keep edition 1 and way 0"
unfoldable pub program_rooms : Lent
program_rooms =
    let places : List ℕ = replicate 256 0 in
    record { room = room_of places places places; word = word_room_of places places }

unfoldable pub program_terms : Terms
program_terms = record { hints = []; allowance = 100000; edition = 1; way = 0 }

-- what it prints of an image, "for a refused image its number and four zeros"
unfoldable pub program_prints : List ℕ → List ℕ
program_prints image = lines_of (run_of image program_rooms program_terms)
