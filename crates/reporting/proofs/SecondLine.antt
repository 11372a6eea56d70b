-- The second line by the run's number, both lines one behind the other, and the answer of each way through them. Assumes nothing.
use Prim.Native.Nat.{ℕ, ◌≤◌, ◌<◌}
use mathlib.Core.Path.{◌≡◌, sym, subst, ◌∙◌}
use mathlib.Core.List.{List, [], ◌++◌, append-nil, map}
use native.Mathlib.Omega.{arith}
use lib.ListN.{length, take}
use Rattle.std.specs.Prelude.{Ok, Err}
use Rattle.automata.specs.declared.refusal.Refusal.TheVariants.{ShortRoom}
use Rattle.writing.specs.Lines.{numbers_line, text_of}
use Rattle.writing.specs.Rooms.{fitted_bytes}
use Rattle.writing.specs.Putting.{Puts}
use Rattle.writing.proofs.LinesPut.{puts_joined, own_line, counted_short, counted_fits}
use Rattle.machine.specs.Runs.{RunRecord, five_numbers}
use Rattle.machine.specs.Program.{second_line, two_lines}
use Rattle.machine.proofs.ProgramLines.{second_frame, second_word, second_none}
use Rattle.reporting.specs.Answers.{lines_answer}

-- the second line, by the run's number
module _ {start limit end : ℕ} {before after : List ℕ} where
  put_as : (numbers others : List ℕ) → numbers ≡ others → Puts (numbers_line numbers) start limit end before after
      → Puts (numbers_line others) start limit end before after
  put_as numbers others e p = subst (λ (l : List ℕ). Puts (numbers_line l) start limit end before after) e p

  pub frame_put : (answer : ℕ) (held : ℕ) (masks some word : List ℕ) → Puts (numbers_line (map (λ (number : ℕ). number) some)) start limit end before after
      → some ≡ take held masks → answer ≡ 0 → Puts (numbers_line (second_line answer (take held masks) word)) start limit end before after
  frame_put answer held masks some word p is e = put_as _ _ (is ∙ sym (second_frame answer (take held masks) word e)) (own_line some p)

  pub word_put : (answer level : ℕ) (frame symbols some : List ℕ) → Puts (numbers_line (map (λ (number : ℕ). number) some)) start limit end before after
      → some ≡ take level symbols → answer ≡ 1 → Puts (numbers_line (second_line answer frame (take level symbols))) start limit end before after
  word_put answer level frame symbols some p is e = put_as _ _ (is ∙ sym (second_word answer frame (take level symbols) e)) (own_line some p)

  pub none_put : (answer : ℕ) (frame word : List ℕ) → Puts (numbers_line []) start limit end before after → (answer ≡ 0 → ⊥) → (answer ≡ 1 → ⊥)
      → Puts (numbers_line (second_line answer frame word)) start limit end before after
  none_put answer frame word p f g = put_as _ _ (sym (second_none answer frame word (omega arith))) p

-- line 2 behind line 1
pub both_put : (run : RunRecord) (masks symbols : List ℕ) {limit middle end : ℕ} {before between after : List ℕ}
    → Puts (numbers_line (five_numbers run)) 0 limit middle before between
    → Puts (numbers_line (second_line run.answer (take run.held masks) (take run.level symbols))) middle limit end between after
    → Puts (text_of (two_lines run masks symbols)) 0 limit end before after
unfolding text_of two_lines
both_put run masks symbols {limit} {end = end} {before = before} {after = after} first second =
    let line = numbers_line (second_line run.answer (take run.held masks) (take run.level symbols)) in
    subst (λ (bytes : List ℕ). Puts (numbers_line (five_numbers run) ++ bytes) 0 limit end before after) (sym (append-nil line)) (puts_joined first second)

-- bytes that were counted in a room without places, and then written if they fit
module _ (bytes room : List ℕ) (size : ℕ) (before after : List ℕ) (counted : Puts bytes 0 (length room) size before after) where
  pub lines_short : length room < size → lines_answer (Err ShortRoom) room ≡ fitted_bytes 0 bytes room
  unfolding lines_answer
  lines_short = counted_short 0 bytes room size before after counted

  pub lines_fit : (again : ℕ) (room' : List ℕ) → size ≤ length room → Puts bytes 0 (length room) again room room'
      → lines_answer (Ok size) room' ≡ fitted_bytes 0 bytes room
  unfolding lines_answer
  lines_fit = counted_fits 0 bytes room size before after counted
