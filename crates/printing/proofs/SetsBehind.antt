-- The sets behind a word's symbols: the loop that fills a table with them, the events by such a table, and a word in two parts. Assumes nothing.
use Prim.Native.Nat.{ℕ, suc, ◌+◌, ◌-◌, ◌/◌, ◌≤◌, ◌<◌}
use mathlib.Core.Path.{◌≡◌, refl, sym, ap, subst, ◌∙◌}
use mathlib.Core.List.{List, [], ◌∷◌, ◌++◌}
use native.Mathlib.Omega.{arith}
use lib.ListN.{length, get_or, take, drop, set}
use lib.Seq.{drop-length, drop-cons, drop_at, length-take-le, set_split}
use Rattle.lists.specs.Lists.{◌∈◌}
use Rattle.lists.proofs.Lists.{in_left, in_right}
use Rattle.automata.specs.Image.{symbols_of, rows_of}
use Rattle.automata.specs.Automaton.{Automaton, automaton_of, backward, taken_back}
use Rattle.automata.specs.WordTest.{WordOf}
use Rattle.automata.specs.Picks.{reached, Event, events_over}
use Rattle.automata.proofs.WordTests.{symbol_known}
use Rattle.printing.specs.Steps.{sets_behind, events_by, case_after}

-- the loop that fills the table, with the first i symbols still to go
pub record Filling (image word : List ℕ) (z : ℕ) (before table : List ℕ) (case i : ℕ) : Type 0 where
  pub bound : i ≤ length word
  pub places : length word ≤ length before
  pub long : length table ≡ length before
  pub taken : case ≡ taken_back (automaton_of image) (drop i word) z
  pub stored : drop i table ≡ sets_behind (automaton_of image) z (drop i word) ++ drop (length word) before

pub filling_starts : {image word : List ℕ} {z : ℕ} {table : List ℕ} → length word ≤ length table → Filling image word z table table z (length word)
unfolding sets_behind taken_back
filling_starts {image} {word} {z} {table} h =
    record {
      bound = omega arith;
      places = h;
      long = refl;
      taken = ap (λ (w : List ℕ). taken_back (automaton_of image) w z) (sym (drop-length word));
      stored = ap (λ (w : List ℕ). sets_behind (automaton_of image) z w ++ drop (length word) table) (sym (drop-length word));
    }

module _ {image word : List ℕ} {z : ℕ} {before table : List ℕ} {case i : ℕ} (filling : Filling image word z before table case i) where
  pub filling_place : 0 < i → i - 1 < length table
  filling_place l = omega (arith, filling.bound, filling.places, filling.long)

  pub filling_known : WordOf image word → 0 < i → get_or word (i - 1) 0 < symbols_of image
  filling_known known l = symbol_known known (omega (arith, l, filling.bound))

  pub filling_next : (after : List ℕ) (more : ℕ) → 0 < i → after ≡ set table (i - 1) case → length after ≡ length table
      → more ≡ backward (rows_of image (get_or word (i - 1) 0)) case → Filling image word z before after more (i - 1)
  unfolding sets_behind taken_back
  filling_next after more l e k b =
      record {
        bound = omega (arith, filling.bound);
        places = filling.places;
        long = k ∙ filling.long;
        taken =
            b
            ∙ ap (backward (rows_of image (get_or word (i - 1) 0))) filling.taken
            ∙ ap (λ (w : List ℕ). taken_back (automaton_of image) w z) (sym parts);
        stored =
            ap (drop (i - 1)) (e ∙ set_split table (i - 1) case (filling_place l))
            ∙ drop_at (take (i - 1) table) _ (i - 1) (length-take-le (i - 1) table (omega (arith, filling_place l)))
            ∙ ap (λ (j : ℕ). case ∷ drop j table) again
            ∙ ap (λ (rest : List ℕ). case ∷ rest) filling.stored
            ∙ ap (λ (x : ℕ). x ∷ sets_behind (automaton_of image) z (drop i word) ++ drop (length word) before) filling.taken
            ∙ ap (λ (w : List ℕ). sets_behind (automaton_of image) z w ++ drop (length word) before) (sym parts);
      }
    where
      again : suc (i - 1) ≡ i
      again = omega arith

      parts : drop (i - 1) word ≡ get_or word (i - 1) 0 ∷ drop i word
      parts = drop-cons word (i - 1) 0 (omega (arith, filling.bound)) ∙ ap (λ (j : ℕ). get_or word (i - 1) 0 ∷ drop j word) again

module _ (A : Automaton) (Z : ℕ) where
  -- the events by a table that begins with the word's sets are the word's
  pub events_by_lem : (X : ℕ) (word rest : List ℕ) → events_by A X word (sets_behind A Z word ++ rest) ≡ events_over A Z X word
  unfolding events_by sets_behind events_over
  events_by_lem X [] rest = refl
  events_by_lem X (s ∷ word) rest =
      let Y = reached A.states (A.rows s) (taken_back A word Z) X in
      ap (λ (events : List Event). record { symbol = s; case = Y } ∷ events) (events_by_lem Y word rest)

  -- a word in two parts
  taken_back_joined : (a b : List ℕ) → taken_back A (a ++ b) Z ≡ taken_back A a (taken_back A b Z)
  unfolding taken_back
  taken_back_joined [] b = refl
  taken_back_joined (s ∷ a) b = ap (backward (A.rows s)) (taken_back_joined a b)

  pub events_joined : (X : ℕ) (a b : List ℕ)
      → events_over A Z X (a ++ b)
      ≡ events_over A (taken_back A b Z) X a ++ events_over A Z (case_after X (events_over A (taken_back A b Z) X a)) b
  unfolding events_over case_after
  events_joined X [] b = refl
  events_joined X (s ∷ a) b =
      let Y = reached A.states (A.rows s) (taken_back A a (taken_back A b Z)) X in
      ap (λ (set : ℕ). let Y = reached A.states (A.rows s) set X in record { symbol = s; case = Y } ∷ events_over A Z Y (a ++ b)) (taken_back_joined a b)
      ∙ ap (λ (events : List Event). record { symbol = s; case = Y } ∷ events) (events_joined Y a b)

-- each of the parts is a word of the automaton's symbols
pub first_part : (image word front back : List ℕ) → WordOf image word → word ≡ front ++ back → WordOf image front
first_part image word front back known parts =
    record { valid = known.valid; symbols = λ s m. known.symbols s (subst (λ (w : List ℕ). s ∈ w) (sym parts) (in_left back m)) }

pub last_part : (image word front back : List ℕ) → WordOf image word → word ≡ front ++ back → WordOf image back
last_part image word front back known parts =
    record { valid = known.valid; symbols = λ s m. known.symbols s (subst (λ (w : List ℕ). s ∈ w) (sym parts) (in_right front m)) }

-- and the halves of a word that is longer than a table with a place are shorter than it
module _ (word table part : List ℕ) (t : ℕ) (some_place : 0 < length table) (long : length table < length word) (is : length word ≡ t) where
  pub first_shorter : length part ≡ length word / 2 → length part < t
  first_shorter e = omega (arith, e)

  pub last_shorter : length part + length word / 2 ≡ length word → length part < t
  last_shorter e = omega (arith, e)
