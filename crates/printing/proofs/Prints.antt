-- The whole print, and the answer of each way through it. Assumes nothing.
use Prim.Native.Nat.{ℕ, ◌≤◌, ◌<◌}
use mathlib.Core.Path.{◌≡◌, sym, ap, subst, ◌∙◌}
use mathlib.Core.Bool.{Bool, true, false, not}
use mathlib.Core.List.{List, [], ◌∷◌, ◌++◌}
use native.Mathlib.Omega.{arith}
use borrow.Author.Tests.{not-true, not-false}
use lib.ListN.{length}
use Rattle.std.specs.Prelude.{Some, None, Ok, Err}
use Rattle.automata.specs.Automaton.{automaton_of}
use Rattle.automata.specs.WordTest.{one_if, accepts, known, WordOf, word_test}
use Rattle.automata.specs.Picks.{events_over, events_of}
use Rattle.automata.specs.Refusals.{number_of}
use Rattle.automata.specs.Answers.{ReadAs, read_image}
use Rattle.automata.specs.declared.refusal.Refusal.{Refusal}
use Rattle.automata.specs.declared.refusal.Refusal.TheVariants.{UnknownSymbol, ShortRoom}
use Rattle.automata.specs.declared.image.Head.{Head}
use Rattle.automata.proofs.Reading.{read_same, refused_high}
use Rattle.automata.proofs.WordTests.{word_of_tested, test_refused, test_unknown}
use Rattle.writing.specs.Rooms.{Answer, no_bytes, fitted_bytes}
use Rattle.writing.specs.Lines.{numbers_line, text_of}
use Rattle.writing.specs.Putting.{Puts}
use Rattle.writing.proofs.LinesPut.{puts_joined, counted_short, counted_fits}
use Rattle.machine.specs.Print.{run_lines, print_of, print_run}
use Rattle.machine.proofs.Printing.{not_printed, is_printed}
use Rattle.printing.specs.Answers.{print_answer}
use Rattle.printing.specs.Steps.{cases_of, Ready}
use Rattle.printing.specs.Putting.{events_in, event_lines, PutsEvents}
use Rattle.printing.proofs.Lines.{table_put}

-- the whole print: the first line, and the events' lines behind it, by a table that is ready or without one
module _ (image word : List ℕ) (head : Head) (read : ReadAs image head) (limit start : ℕ) (before between after : List ℕ)
    (first : Puts (numbers_line (head.initial ∷ [])) 0 limit start before between) where
  lines_put : (end : ℕ) → Puts (event_lines (events_over (automaton_of image) head.finals head.initial word)) start limit end between after
      → Puts (print_of (automaton_of image) word) 0 limit end before after
  unfolding print_of run_lines text_of event_lines events_of
  lines_put end p =
      subst (λ (h : Head).
      Puts (numbers_line (h.initial ∷ []) ++ event_lines (events_over (automaton_of image) h.finals h.initial word)) 0 limit end before after) read.read
      (puts_joined {a = numbers_line (head.initial ∷ [])} first p)

  pub run_put : (end case : ℕ) → PutsEvents (events_over (automaton_of image) head.finals head.initial word) head.initial start limit end case between after
      → Puts (print_of (automaton_of image) word) 0 limit end before after
  run_put end case p = lines_put end p.lines

  pub ready_put : (end : ℕ) (table : List ℕ) → Ready image word table → length word ≤ length table
      → Puts (event_lines (events_in word table)) start limit end between after → Puts (print_of (automaton_of image) word) 0 limit end before after
  unfolding events_of
  ready_put end table ready l p =
      lines_put end
      (table_put image word ready.rest table head.finals head.initial start limit end between after
      (ready.holds l ∙ ap (λ (h : Head). cases_of (events_over (automaton_of image) h.finals h.initial word) ++ ready.rest) (sym read.read)) p)

-- bytes that were counted in a room without places, and then written if they fit
module _ (bytes room : List ℕ) (size : ℕ) (before after : List ℕ) (counted : Puts bytes 0 (length room) size before after) where
  pub print_short : length room < size → print_answer (Err ShortRoom) room ≡ fitted_bytes 1 bytes room
  unfolding print_answer
  print_short = counted_short 1 bytes room size before after counted

  pub print_fits : (again : ℕ) (room' : List ℕ) → size ≤ length room → Puts bytes 0 (length room) again room room'
      → print_answer (Ok (Some size)) room' ≡ fitted_bytes 1 bytes room
  unfolding print_answer
  print_fits = counted_fits 1 bytes room size before after counted

-- the word test's number where that is not 1
nothing_printed : (image word room : List ℕ) (number : ℕ) → number ≡ word_test image word → (number ≡ 1 → ⊥)
    → record { number = number; written = 0; room = room } ≡ print_run image word room
unfolding no_bytes
nothing_printed image word room number e f = ap (λ (n : ℕ). no_bytes n room) e ∙ sym (not_printed image word room (λ one. f (e ∙ one)))

-- a word of the automaton's symbols: by whether it is accepted
module _ (image word room : List ℕ) (known : WordOf image word) (accepted : Bool) (is_accepted : accepted ≡ accepts (automaton_of image) word) where
  tested : word_test image word ≡ one_if accepted
  tested = word_of_tested known ∙ ap one_if (sym is_accepted)

  pub print_rejected : not accepted ≡ true → print_answer (Ok None) room ≡ print_run image word room
  unfolding one_if print_answer
  print_rejected t = nothing_printed image word room 0 (sym (tested ∙ ap one_if (not-true accepted t))) (λ e. omega (arith, e))

  pub print_accepted : (answer : Answer) → not accepted ≡ false → answer ≡ fitted_bytes 1 (print_of (automaton_of image) word) room → answer ≡ print_run image word room
  unfolding one_if
  print_accepted answer t e = e ∙ sym (is_printed image word room (tested ∙ ap one_if (not-false accepted t)))

-- an image that is refused, and one that is read: its bytes are those that were lent
module _ (bytes word room : List ℕ) where
  pub print_refused : (refusal : Refusal) → Err refusal ≡ read_image bytes → print_answer (Err refusal) room ≡ print_run bytes word room
  unfolding print_answer
  print_refused refusal read =
      nothing_printed bytes word room (number_of refusal) (test_refused bytes word read) (λ one. omega (arith, refused_high bytes read, one))

  module _ (image : List ℕ) (read : Ok image ≡ read_image bytes) where
    pub print_read : (answer : Answer) → answer ≡ print_run image word room → answer ≡ print_run bytes word room
    print_read answer p = p ∙ ap (λ (l : List ℕ). print_run l word room) (read_same bytes read)

    pub print_unknown : (head : Head) → ReadAs image head → (below : Bool) → below ≡ known head.symbols word → not below ≡ true
        → print_answer (Err UnknownSymbol) room ≡ print_run bytes word room
    unfolding print_answer
    print_unknown head told below all t = print_read _ (nothing_printed image word room 32 (test_unknown word told below all t) (λ one. omega (arith, one)))
