-- The cases of a word's run in a table: the loop that puts each in the place of its set, and when the table has them. Assumes nothing.
use Prim.Native.Nat.{ℕ, suc, ◌+◌, ◌≤◌, ◌<◌}
use mathlib.Core.Path.{◌≡◌, sym, ap, ◌∙◌}
use mathlib.Core.Bool.{Bool}
use mathlib.Core.List.{List, [], ◌∷◌, ◌++◌, append-nil}
use native.Mathlib.Numerals.{add-one}
use native.Mathlib.Omega.{arith}
use lib.ListN.{length, get_or, take, drop, set, take-append-drop, drop_of_length-le}
use lib.Seq.{append_snoc, drop-set-lt, take-suc-set}
use Rattle.lists.proofs.Lists.{drop_first}
use Rattle.masks.specs.Sets.{subset}
use Rattle.automata.specs.Image.{states_of, rows_of}
use Rattle.automata.specs.Automaton.{automaton_of, taken_back}
use Rattle.automata.specs.WordTest.{accepts}
use Rattle.automata.specs.Picks.{reached, Event, events_over, events_of}
use Rattle.automata.specs.Answers.{ReadAs}
use Rattle.automata.specs.declared.image.Head.{Head}
use Rattle.printing.specs.Steps.{sets_behind, events_by, cases_of, case_after, Filled, Ready}
use Rattle.printing.proofs.SetsBehind.{events_by_lem}

-- the loop over the word's symbols, before symbol i: the table has the cases so far, and from there on the sets that it had
pub record Stepping (image word : List ℕ) (x : ℕ) (before table : List ℕ) (case i : ℕ) : Type 0 where
  pub bound : i ≤ length word
  pub places : length word ≤ length before
  pub long : length table ≡ length before
  pub sets_stay : drop i table ≡ drop i before
  pub cases : take i table ++ cases_of (events_by (automaton_of image) case (drop i word) (drop i before)) ≡ cases_of (events_by (automaton_of image) x word before)
  pub lasts : case_after case (events_by (automaton_of image) case (drop i word) (drop i before)) ≡ case_after x (events_by (automaton_of image) x word before)

module _ {image word : List ℕ} {x : ℕ} {before table : List ℕ} {case i : ℕ} (stepping : Stepping image word x before table case i) where
  pub stepping_place : i < length word → i < length table
  stepping_place l = omega (arith, stepping.places, stepping.long)

  -- the place of symbol i still has its set, and so have those behind it
  still_set : i < length word → get_or table i 0 ∷ drop (i + 1) table ≡ get_or before i 0 ∷ drop (i + 1) before
  still_set l = sym (drop_first table i (stepping_place l)) ∙ stepping.sets_stay ∙ drop_first before i (omega (arith, stepping.places))

  its_set : i < length word → get_or table i 0 ≡ get_or before i 0
  its_set l = let e = still_set l in cc

  sets_behind_lem : i < length word → drop (i + 1) table ≡ drop (i + 1) before
  sets_behind_lem l = let e = still_set l in cc

  module _ (after : List ℕ) (y : ℕ) (l : i < length word) (is_case : y ≡ reached (states_of image) (rows_of image (get_or word i 0)) (get_or table i 0) case)
      (stored : after ≡ set table i y) (kept : length after ≡ length table) where
    events_more : events_by (automaton_of image) case (drop i word) (drop i before)
        ≡ record { symbol = get_or word i 0; case = y } ∷ events_by (automaton_of image) y (drop (i + 1) word) (drop (i + 1) before)
    unfolding events_by
    events_more =
        ap (λ (w : List ℕ). events_by (automaton_of image) case w (drop i before)) (drop_first word i l)
        ∙ ap (events_by (automaton_of image) case (get_or word i 0 ∷ drop (i + 1) word)) (drop_first before i (omega (arith, stepping.places)))
        ∙ ap (λ (z : ℕ). record { symbol = get_or word i 0; case = z } ∷ events_by (automaton_of image) z (drop (i + 1) word) (drop (i + 1) before))
        (sym (is_case ∙ ap (λ (z : ℕ). reached (states_of image) (rows_of image (get_or word i 0)) z case) (its_set l)))

    pub stepping_next : Stepping image word x before after y (i + 1)
    unfolding cases_of case_after
    stepping_next =
        let rest = cases_of (events_by (automaton_of image) y (drop (i + 1) word) (drop (i + 1) before)) in
        record {
          bound = omega arith;
          places = stepping.places;
          long = kept ∙ stepping.long;
          sets_stay = ap (drop (i + 1)) stored ∙ drop-set-lt (i + 1) table i y (omega arith) ∙ sets_behind_lem l;
          cases =
              ap (λ (some : List ℕ). some ++ rest) (ap (λ (k : ℕ). take k after) (add-one i) ∙ ap (take (suc i)) stored ∙ take-suc-set table i y (stepping_place l))
              ∙ append_snoc (take i table) y rest
              ∙ ap (λ (events : List Event). take i table ++ cases_of events) (sym events_more)
              ∙ stepping.cases;
          lasts = ap (case_after case) (sym events_more) ∙ stepping.lasts;
        }

  none_left : length word ≤ i → events_by (automaton_of image) case (drop i word) (drop i before) ≡ []
  unfolding events_by
  none_left h = ap (λ (w : List ℕ). events_by (automaton_of image) case w (drop i before)) (drop_of_length-le word h)

  pub stepped_last : length word ≤ i → case ≡ case_after x (events_by (automaton_of image) x word before)
  unfolding case_after
  stepped_last h = sym (ap (case_after case) (none_left h)) ∙ stepping.lasts

  pub stepped_table : length word ≤ i → table ≡ cases_of (events_by (automaton_of image) x word before) ++ drop (length word) before
  unfolding cases_of
  stepped_table h =
      let all : i ≡ length word = omega (arith, stepping.bound) in
      sym (take-append-drop i table)
      ∙ ap (λ (rest : List ℕ). take i table ++ rest) (stepping.sets_stay ∙ ap (λ (k : ℕ). drop k before) all)
      ∙ ap (λ (some : List ℕ). some ++ drop (length word) before) (first ∙ stepping.cases)
    where
      first : take i table ≡ take i table ++ cases_of (events_by (automaton_of image) case (drop i word) (drop i before))
      first = sym (ap (λ (events : List Event). take i table ++ cases_of events) (none_left h) ∙ append-nil (take i table))

-- a table that was filled with the sets behind the word's symbols gives the word's events
pub filled_events : (image word rest table : List ℕ) (z x : ℕ) → table ≡ sets_behind (automaton_of image) z word ++ rest
    → events_by (automaton_of image) x word table ≡ events_over (automaton_of image) z x word
filled_events image word rest table z x e = ap (events_by (automaton_of image) x word) e ∙ events_by_lem (automaton_of image) z x word rest

-- whether the word is accepted
pub accept_tested : (image word : List ℕ) (head : Head) → ReadAs image head → (back : ℕ) → back ≡ taken_back (automaton_of image) word head.finals
    → (inside : Bool) → inside ≡ subset head.initial back → inside ≡ accepts (automaton_of image) word
unfolding accepts
accept_tested image word head read back eb inside test =
    test ∙ ap (subset head.initial) eb ∙ ap (λ (h : Head). subset h.initial (taken_back (automaton_of image) word h.finals)) read.read

-- the table then, if it is long enough
pub filled_long : (image word : List ℕ) (head : Head) (before table : List ℕ) → ReadAs image head
    → table ≡ sets_behind (automaton_of image) head.finals word ++ drop (length word) before → Filled image word table
filled_long image word head before table read e =
    record {
      rest = drop (length word) before;
      holds = λ l. e ∙ ap (λ (h : Head). sets_behind (automaton_of image) h.finals word ++ drop (length word) before) read.read;
    }

-- and after the steps
pub ready_long : (image word : List ℕ) (head : Head) (filled table : List ℕ) → ReadAs image head → Filled image word filled → length word ≤ length filled
    → table ≡ cases_of (events_by (automaton_of image) head.initial word filled) ++ drop (length word) filled → Ready image word table
unfolding events_of
ready_long image word head filled table read sets long e =
    let A = automaton_of image in
    record {
      rest = drop (length word) filled;
      holds = λ l.
          e
          ∙ ap (λ (events : List Event). cases_of events ++ drop (length word) filled)
          (ap (λ (h : Head). events_by A h.initial word filled) read.read ∙ filled_events image word sets.rest filled A.final A.initial (sets.holds long));
    }
