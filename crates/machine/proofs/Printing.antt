-- The promises of the print of a word's run. Assumes nothing.
use Prim.Native.Nat.{ℕ, suc, ◌+◌, ◌*◌, ◌^◌, ◌≤◌, ◌<◌}
use mathlib.Core.Path.{◌≡◌, refl, sym, ap, subst, ◌∙◌}
use mathlib.Core.List.{List, [], ◌∷◌, ◌++◌, map}
use native.Mathlib.Omega.{arith}
use lib.Dec.{T, eqb, eqb→eq}
use lib.ListN.{length, take, length-append}
use Rattle.lists.specs.Lists.{here, there, Each}
use Rattle.lists.proofs.Tests.{is_false, choose_true, choose_false, choose_either}
use Rattle.masks.specs.Sets.{subset}
use Rattle.automata.specs.Image.{Valid, symbols_of, initial_of, final_of}
use Rattle.automata.specs.Automaton.{Automaton, automaton_of, taken_back}
use Rattle.automata.specs.Acceptance.{Accepted}
use Rattle.automata.specs.WordTest.{accepts, word_test}
use Rattle.automata.specs.Picks.{reached, Event, events_over, events_of, FormRun, AllPick}
use Rattle.automata.proofs.ValidImage.{valid_kept, case_narrow, valid_proper}
use Rattle.automata.proofs.PickedRuns.{picked_run, all_picked, events_known}
use Rattle.automata.proofs.AcceptedWords.{accepted_means}
use Rattle.writing.specs.Decimal.{digits}
use Rattle.writing.specs.Lines.{behind_number, numbers_line, text_of, IsText, read_lines}
use Rattle.writing.specs.Rooms.{Answer, no_bytes, all_bytes, PastStays, fitted_bytes}
use Rattle.writing.proofs.Decimals.{few_digits, twenty_digits}
use Rattle.writing.proofs.ReadingBack.{read_text, text_is, written_text}
use Rattle.writing.proofs.Placing.{bytes_whole, bytes_short, fitted_past, none_past}
use Rattle.machine.specs.Print.{event_numbers, run_lines, print_of, print_run}
use Rattle.machine.specs.Promises.{PrintPromises}
use Rattle.machine.proofs.WordTests.{says_yes}

-- the word test's number where that is not 1, else the bytes
module _ (image word room : List ℕ) where
  pub not_printed : (word_test image word ≡ 1 → ⊥) → print_run image word room ≡ no_bytes (word_test image word) room
  unfolding print_run
  not_printed f = choose_false (fitted_bytes 1 (print_of (automaton_of image) word) room) (no_bytes (word_test image word) room) (is_false _ (λ t. f (eqb→eq _ _ t)))

  pub is_printed : word_test image word ≡ 1 → print_run image word room ≡ fitted_bytes 1 (print_of (automaton_of image) word) room
  unfolding print_run
  is_printed e = choose_true (fitted_bytes 1 (print_of (automaton_of image) word) room) (no_bytes (word_test image word) room) (ap (λ (n : ℕ). eqb n 1) e)

-- how long lines are: of a symbol below 100 and a case of 64 states at most 24 bytes, and the first at most 21
start_short : (initial : ℕ) → initial < 2 ^ 64 → length (numbers_line (initial ∷ [])) ≤ 21
unfolding numbers_line behind_number
start_short initial l = omega (arith, length-append (digits initial) (10 ∷ []), twenty_digits initial l)

line_short : (event : Event) → event.symbol < 100 → event.case < 2 ^ 64 → length (numbers_line (event_numbers event)) ≤ 24
unfolding event_numbers numbers_line behind_number
line_short event s c =
    omega (
      arith,
      length-append (digits event.symbol) (32 ∷ (digits event.case ++ (10 ∷ []))),
      length-append (digits event.case) (10 ∷ []),
      few_digits 1 event.symbol s,
      twenty_digits event.case c,
    )

lines_short : (events : List Event) → Each (λ event. (event.symbol < 100) × (event.case < 2 ^ 64)) events
    → length (text_of (map event_numbers events)) ≤ 24 * length events
unfolding text_of
lines_short [] f = omega arith
lines_short (event ∷ events) f =
    omega (
      arith,
      length-append (numbers_line (event_numbers event)) (text_of (map event_numbers events)),
      line_short event (f event (here refl)).0 (f event (here refl)).1,
      lines_short events (λ e m. f e (there m)),
    )

-- a word has as many events as symbols
events_many : (A : Automaton) (Z X : ℕ) (word : List ℕ) → length (events_over A Z X word) ≡ length word
unfolding events_over
events_many A Z X [] = refl
events_many A Z X (s ∷ word) = ap suc (events_many A Z (reached A.states (A.rows s) (taken_back A word Z) X) word)

-- an accepted word's run, as it is picked
module _ (image word : List ℕ) (valid : Valid image) (accepted : Accepted (automaton_of image) word) where
  means : Each (λ s. s < symbols_of image) word × T (subset (initial_of image) (taken_back (automaton_of image) word (final_of image)))
  unfolding accepts
  means = (accepted_means (automaton_of image) (valid_proper image valid) word).0 accepted

  run_formed : FormRun (automaton_of image) (final_of image) (initial_of image) word (events_of (automaton_of image) word)
  unfolding events_of
  run_formed =
      let proper = valid_proper image valid in
      picked_run (automaton_of image) proper (final_of image) word means.0 (initial_of image) proper.initial_within means.1

  rows_picked : AllPick (automaton_of image) (final_of image) (initial_of image) word
  rows_picked =
      let proper = valid_proper image valid in
      all_picked (automaton_of image) proper (final_of image) word means.0 (initial_of image) proper.initial_within means.1

  print_length : length (print_of (automaton_of image) word) ≤ 21 + 24 * length word
  unfolding print_of run_lines text_of events_of
  print_length =
      let proper = valid_proper image valid in
      let known = events_known (automaton_of image) proper (final_of image) word means.0 (initial_of image) proper.initial_within means.1 in
      let events = events_over (automaton_of image) (final_of image) (initial_of image) word in
      omega (
        arith,
        length-append (numbers_line (initial_of image ∷ [])) (text_of (map event_numbers events)),
        start_short (initial_of image) (case_narrow image valid (initial_of image) proper.initial_within),
        lines_short events
            (λ event m. (omega (arith, (known event m).0, (valid_kept image valid).symbols_fit), case_narrow image valid event.case (known event m).1)),
        events_many (automaton_of image) (final_of image) (initial_of image) word,
      )

-- what was written is the print, and behind it the room is as it was
module _ (image word room : List ℕ) where
  print_written : word_test image word ≡ 1 → length (print_of (automaton_of image) word) ≤ length room
      → text_of (run_lines (automaton_of image) word) ≡ take (print_run image word room).written (print_run image word room).room
  unfolding print_of
  print_written e l =
      sym (ap (λ (answer : Answer). take answer.written answer.room) (is_printed image word room e)
      ∙ written_text 1 (run_lines (automaton_of image) word) room l)

  print_past : PastStays room (print_run image word room)
  unfolding print_run
  print_past =
      choose_either (PastStays room) (eqb (word_test image word) 1)
      (λ e. fitted_past 1 (print_of (automaton_of image) word) room) (λ e. none_past (word_test image word) room)

pub prints_kept : (image word room : List ℕ) → PrintPromises image word room (print_run image word room)
unfolding all_bytes run_lines event_numbers
prints_kept image word room =
    record {
      word_test_first = not_printed image word room;
      too_short = λ e l. is_printed image word room e ∙ bytes_short 1 _ room l;
      success = λ e l. is_printed image word room e ∙ bytes_whole 1 _ room l;
      reads_back = λ e l. ap read_lines (sym (print_written image word room e l)) ∙ read_text (run_lines (automaton_of image) word);
      plain = λ e l. subst (IsText (run_lines (automaton_of image) word)) (print_written image word room e l) (text_is (run_lines (automaton_of image) word));
      past_stays = print_past image word room;
      room_enough = λ e l.
          let yes = (says_yes image word).0 e in
          ap (λ (answer : Answer). answer.number) (is_printed image word room e ∙ bytes_whole 1 _ room (omega (arith, print_length image word yes.0 yes.1)));
      form_run = run_formed image word;
      all_pick = rows_picked image word;
    }
