-- The loop over the events, and the lines of a word's parts. Assumes nothing.
use Prim.Native.Nat.{ℕ, ◌+◌, ◌≤◌, ◌<◌}
use mathlib.Core.Path.{◌≡◌, refl, sym, ap, subst, ◌∙◌}
use mathlib.Core.List.{List, [], ◌∷◌, ◌++◌, append_assoc, append-nil}
use native.Mathlib.Omega.{arith}
use lib.ListN.{length, get_or, drop, drop_of_length-le}
use Rattle.lists.proofs.Lists.{drop_first}
use Rattle.automata.specs.Automaton.{Automaton, automaton_of, taken_back}
use Rattle.automata.specs.Picks.{reached, Event, events_over}
use Rattle.writing.specs.Lines.{numbers_line, text_of}
use Rattle.writing.specs.Putting.{Puts}
use Rattle.writing.proofs.LinesPut.{puts_joined}
use Rattle.machine.specs.Print.{event_numbers}
use Rattle.printing.specs.Steps.{sets_behind, events_by, cases_of, case_after}
use Rattle.printing.specs.Putting.{events_in, event_lines, PutsEvents}
use Rattle.printing.proofs.SetsBehind.{events_joined}
use Rattle.printing.proofs.Stepping.{filled_events}

-- the loop over the events, before event i: of all lines some were put, and those to come are the others
pub record Printing (word table : List ℕ) (start limit : ℕ) (before room : List ℕ) (end i : ℕ) : Type 0 where
  pub bound : i ≤ length word
  pub lines : List ℕ
  pub put : Puts lines start limit end before room
  pub rest : lines ++ event_lines (events_in (drop i word) (drop i table)) ≡ event_lines (events_in word table)

module _ {word table : List ℕ} {start limit : ℕ} {before room : List ℕ} {end i : ℕ} (p : Printing word table start limit before room end i) where
  -- the lines to come: this event's, and those behind it
  lines_more : i < length word → length word ≤ length table → event_lines (events_in (drop i word) (drop i table))
      ≡ numbers_line (get_or word i 0 ∷ get_or table i 0 ∷ []) ++ event_lines (events_in (drop (i + 1) word) (drop (i + 1) table))
  unfolding events_in event_lines text_of event_numbers
  lines_more l places =
      ap (λ (w : List ℕ). event_lines (events_in w (drop i table))) (drop_first word i l)
      ∙ ap (λ (t : List ℕ). event_lines (events_in (get_or word i 0 ∷ drop (i + 1) word) t)) (drop_first table i (omega (arith, places)))

  pub printing_next : (after : List ℕ) (next symbol : ℕ) → i < length word → length word ≤ length table → symbol ≡ get_or word i 0
      → Puts (numbers_line (symbol ∷ get_or table i 0 ∷ [])) end limit next room after → Printing word table start limit before after next (i + 1)
  printing_next after next symbol l places is line =
      let to_come = event_lines (events_in (drop (i + 1) word) (drop (i + 1) table)) in
      record {
        bound = omega (arith, l);
        lines = p.lines ++ numbers_line (symbol ∷ get_or table i 0 ∷ []);
        put = puts_joined p.put line;
        rest =
            append_assoc p.lines (numbers_line (symbol ∷ get_or table i 0 ∷ [])) to_come
            ∙ ap (λ (s : ℕ). p.lines ++ (numbers_line (s ∷ get_or table i 0 ∷ []) ++ to_come)) is
            ∙ ap (λ (l : List ℕ). p.lines ++ l) (sym (lines_more l places))
            ∙ p.rest;
      }

  none_left : length word ≤ i → event_lines (events_in (drop i word) (drop i table)) ≡ []
  unfolding events_in event_lines text_of event_numbers
  none_left h = ap (λ (w : List ℕ). event_lines (events_in w (drop i table))) (drop_of_length-le word h)

  pub printing_ends : length word ≤ i → Puts (event_lines (events_in word table)) start limit end before room
  printing_ends h =
      let all : p.lines ≡ event_lines (events_in word table)
      = sym (append-nil p.lines) ∙ ap (λ (l : List ℕ). p.lines ++ l) (sym (none_left h)) ∙ p.rest in
      subst (λ (l : List ℕ). Puts l start limit end before room) all p.put

-- a table that begins with the cases of a word's events gives these events
events_in_lem : (A : Automaton) (Z X : ℕ) (word rest : List ℕ) → events_in word (cases_of (events_over A Z X word) ++ rest) ≡ events_over A Z X word
unfolding events_in cases_of events_over
events_in_lem A Z X [] rest = refl
events_in_lem A Z X (s ∷ word) rest =
    let Y = reached A.states (A.rows s) (taken_back A word Z) X in
    ap (λ (events : List Event). record { symbol = s; case = Y } ∷ events) (events_in_lem A Z Y word rest)

pub table_put : (image word rest table : List ℕ) (z x start limit end : ℕ) (before after : List ℕ)
    → table ≡ cases_of (events_over (automaton_of image) z x word) ++ rest → Puts (event_lines (events_in word table)) start limit end before after
    → Puts (event_lines (events_over (automaton_of image) z x word)) start limit end before after
table_put image word rest table z x start limit end before after e p =
    subst (λ (events : List Event). Puts (event_lines events) start limit end before after)
    (ap (events_in word) e ∙ events_in_lem (automaton_of image) z x word rest) p

-- the events of a word that the table is long enough for: the sets, the cases, and the lines
pub word_put : (image word : List ℕ) (z x start limit end case : ℕ) (places filled table before after : List ℕ)
    → filled ≡ sets_behind (automaton_of image) z word ++ drop (length word) places → case ≡ case_after x (events_by (automaton_of image) x word filled)
    → table ≡ cases_of (events_by (automaton_of image) x word filled) ++ drop (length word) filled
    → Puts (event_lines (events_in word table)) start limit end before after
    → PutsEvents (events_over (automaton_of image) z x word) x start limit end case before after
word_put image word z x start limit end case places filled table before after ef ec et p =
    let events = filled_events image word (drop (length word) places) filled z x ef in
    record {
      lines = table_put image word (drop (length word) filled) table z x start limit end before after
          (et ∙ ap (λ (e : List Event). cases_of e ++ drop (length word) filled) events) p;
      last = ec ∙ ap (case_after x) events;
    }

-- two parts, one after the other
lines_joined : (a b : List Event) → event_lines (a ++ b) ≡ event_lines a ++ event_lines b
unfolding event_lines text_of
lines_joined [] b = refl
lines_joined (event ∷ a) b =
    let line = numbers_line (event_numbers event) in
    ap (λ (lines : List ℕ). line ++ lines) (lines_joined a b) ∙ sym (append_assoc line (event_lines a) (event_lines b))

after_joined : (X : ℕ) (a b : List Event) → case_after X (a ++ b) ≡ case_after (case_after X a) b
unfolding case_after
after_joined X [] b = refl
after_joined X (event ∷ a) b = after_joined event.case a b

-- the events of a word's two parts
module _ (image word front back : List ℕ) (z x start limit : ℕ) (before between after : List ℕ) (middle : ℕ) (end case end' case' : ℕ) where
  abbrev first : List Event
  first = events_over (automaton_of image) middle x front

  abbrev others : ℕ → List Event
  others Y = events_over (automaton_of image) z Y back

  pub parts_put : word ≡ front ++ back → middle ≡ taken_back (automaton_of image) back z → PutsEvents first x start limit end case before between
      → PutsEvents (others case) case end limit end' case' between after → PutsEvents (events_over (automaton_of image) z x word) x start limit end' case' before after
  parts_put parts em f s =
      record {
        lines = subst (λ (bytes : List ℕ). Puts bytes start limit end' before after)
            (sym (ap event_lines whole ∙ lines_joined first (others (case_after x first)))) (puts_joined f.lines rest.lines);
        last = rest.last ∙ sym (ap (case_after x) whole ∙ after_joined x first (others (case_after x first)));
      }
    where
      whole : events_over (automaton_of image) z x word ≡ first ++ others (case_after x first)
      whole =
          ap (events_over (automaton_of image) z x) parts
          ∙ events_joined (automaton_of image) z x front back
          ∙ ap (λ (set : ℕ). events_over (automaton_of image) set x front ++ others (case_after x (events_over (automaton_of image) set x front))) (sym em)

      rest : PutsEvents (others (case_after x first)) (case_after x first) end limit end' case' between after
      rest = subst (λ (Y : ℕ). PutsEvents (others Y) Y end limit end' case' between after) f.last s
