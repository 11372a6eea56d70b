-- The laws of the two lines of a run: the second by the run's number, and that they keep their promises. Assumes nothing.
use Prim.Native.Nat.{ℕ, zero, suc, ◌<◌}
use mathlib.Core.Path.{◌≡◌, refl}
use mathlib.Core.List.{List, [], ◌∷◌}
use native.Mathlib.Omega.{arith}
use lib.ListN.{take}
use Rattle.writing.proofs.ReadingBack.{read_text, text_is}
use Rattle.machine.specs.Runs.{Stage, five_numbers}
use Rattle.machine.specs.Program.{second_line, two_lines, lines_of}
use Rattle.machine.specs.Promises.{LinesPromises}

-- "on 0 the frame's masks .., on 1 the word's symbols ..; else empty"
pub second_frame : (number : ℕ) (frame word : List ℕ) → number ≡ 0 → second_line number frame word ≡ frame
unfolding second_line
second_frame zero frame word e = refl
second_frame (suc number) frame word e = absurd (omega arith)

pub second_word : (number : ℕ) (frame word : List ℕ) → number ≡ 1 → second_line number frame word ≡ word
unfolding second_line
second_word zero frame word e = absurd (omega arith)
second_word (suc zero) frame word e = refl
second_word (suc (suc number)) frame word e = absurd (omega arith)

pub second_none : (number : ℕ) (frame word : List ℕ) → 1 < number → second_line number frame word ≡ []
unfolding second_line
second_none zero frame word l = absurd (omega arith)
second_none (suc zero) frame word l = absurd (omega arith)
second_none (suc (suc number)) frame word l = refl

pub lines_kept : (at : Stage) → LinesPromises at (lines_of at)
unfolding lines_of two_lines
lines_kept at =
    let frame = take at.run.held at.tables.room.masks in
    let word = take at.run.level at.tables.word.symbols in
    let second = second_line at.run.answer frame word in
    record {
      second = second;
      plain = text_is (five_numbers at.run ∷ second ∷ []);
      reads_back = read_text (five_numbers at.run ∷ second ∷ []);
      frame = second_frame at.run.answer frame word;
      word = second_word at.run.answer frame word;
      else_empty = second_none at.run.answer frame word;
    }
