-- What the program prints of an image, refused or run, and that it has room for it. Assumes nothing.
use Prim.Native.Nat.{ℕ, ◌≤◌}
use mathlib.Core.Path.{◌≡◌, refl, sym, ap, ◌∙◌}
use mathlib.Core.List.{List, []}
use native.Mathlib.Omega.{arith}
use lib.ListN.{length, take, replicate, length-take}
use Rattle.std.specs.Prelude.{Result, Ok, Err}
use Rattle.automata.specs.Refusals.{number_of}
use Rattle.automata.specs.Answers.{read_image, image_number}
use Rattle.automata.specs.declared.refusal.Refusal.{Refusal}
use Rattle.writing.specs.Lines.{text_of}
use Rattle.writing.specs.Rooms.{Answer, fitted_bytes}
use Rattle.writing.proofs.Placing.{written_fits}
use Rattle.machine.specs.Lent.{Lent, room_of, word_room_of, lent_of}
use Rattle.machine.specs.Runs.{RunRecord, Stage, alone_record, run_of}
use Rattle.machine.specs.Program.{two_lines, lines_of, program_rooms, program_terms, program_prints}
use Rattle.checker.specs.Stage.{terms_of}
use Rattle.checker.proofs.Calling.{image_refuses, run_refuses}
use Rattle.reporting.specs.Answers.{lines_answer}

-- the program's tables as it lends them
abbrev places : List ℕ
places = replicate 256 0

abbrev rooms : Lent
rooms = lent_of (room_of places places places) (word_room_of places places)

module _ (image room : List ℕ) (answer : Answer) (run : RunRecord) where
  -- the lines of what the run leaves
  pub report_run : (left : RunRecord) (masks levels entered cases symbols : List ℕ) → run ≡ left
      → record { tables = lent_of (room_of masks levels entered) (word_room_of cases symbols); run = left } ≡ run_of image rooms (terms_of [] 100000 1 0)
      → answer ≡ fitted_bytes 0 (text_of (two_lines run masks symbols)) room → answer ≡ fitted_bytes 0 (program_prints image) room
  unfolding lines_of program_rooms program_terms program_prints
  report_run left masks levels entered cases symbols same is lines =
      lines ∙ ap (λ (r : RunRecord). fitted_bytes 0 (text_of (two_lines r masks symbols)) room) same ∙ ap (λ (at : Stage). fitted_bytes 0 (lines_of at) room) is

  -- of a refused image its number and four zeros
  pub report_refused : (read : Result (List ℕ) Refusal) (refusal : Refusal) (number : ℕ) → read ≡ Err refusal → read ≡ read_image image
      → number ≡ image_number read → run ≡ alone_record number → answer ≡ fitted_bytes 0 (text_of (two_lines run places places)) room
      → answer ≡ fitted_bytes 0 (program_prints image) room
  unfolding image_number
  report_refused read refusal number told is from same lines =
      report_run (alone_record (number_of refusal)) places places places places places
      (same ∙ ap alone_record (from ∙ ap image_number told))
      (run_refuses image rooms (terms_of [] 100000 1 0) refusal (image_refuses image rooms (terms_of [] 100000 1 0) (sym told ∙ is)) refl)
      lines

-- what was written is a part of the room
module _ (size : ℕ) (bytes room after : List ℕ) (is : lines_answer (Ok size) after ≡ fitted_bytes 0 bytes room) (kept : length after ≡ length room) where
  pub written_within : size ≤ length after
  unfolding lines_answer
  written_within = omega (arith, ap (λ (answer : Answer). answer.written) is, written_fits 0 bytes room, kept)

  pub written_long : size ≡ length (take size after)
  written_long = omega (arith, length-take size after, written_within)
