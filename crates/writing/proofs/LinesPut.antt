-- Bytes put one after the other up to a limit, a line as it is written number by number. Assumes nothing.
use Prim.Native.Nat.{ℕ, zero, suc, ◌+◌, ◌*◌, ◌≤◌, ◌<◌}
use mathlib.Core.Path.{◌≡◌, refl, sym, ap, subst, ◌∙◌}
use mathlib.Core.List.{List, [], ◌∷◌, ◌++◌, map}
use native.Mathlib.Numerals.{add-one}
use native.Mathlib.Omega.{arith}
use lib.ListN.{length, get_or, drop, length-append, drop_of_length-le}
use Rattle.std.proofs.lemmas.List.{get_or-map, length-map, map-id}
use lib.Seq.{sets}
use Rattle.lists.proofs.Lists.{drop_first}
use Rattle.writing.specs.Decimal.{digits}
use Rattle.writing.specs.Lines.{newline, behind_number, numbers_line}
use Rattle.writing.specs.Rooms.{no_bytes, fitted_bytes}
use Rattle.writing.specs.Putting.{next_number, Puts}
use Rattle.writing.proofs.Placing.{written_behind, bytes_short, bytes_fit}

-- bytes put behind others
pub puts_joined : {a b : List ℕ} {start limit middle end : ℕ} {before between after : List ℕ} → Puts a start limit middle before between
    → Puts b middle limit end between after → Puts (a ++ b) start limit end before after
puts_joined {a} {b} {start} {limit} {middle} {end} {before} {between} {after} first second =
    let long : length (a ++ b) ≡ length a + length b = length-append a b in
    record {
      counted = omega (arith, first.counted, second.counted, long);
      written = λ h.
          let near : middle ≤ limit = omega (arith, second.counted, h) in
          written_behind before between after a b start middle (first.written near) (omega (arith, first.counted, near)) (second.written h);
    }

-- the number of a place: the first, or one behind a space
module _ (at number : ℕ) where
  pub first_place : (place end : ℕ) → place ≡ 0 → end ≡ at + length (digits number) → end ≡ at + length (next_number place number)
  unfolding next_number
  first_place zero end z e = e
  first_place (suc place) end z e = absurd (omega arith)

  pub first_bytes : (place : ℕ) (l m : List ℕ) → place ≡ 0 → m ≡ sets l at (digits number) → m ≡ sets l at (next_number place number)
  unfolding next_number
  first_bytes zero l m z e = e
  first_bytes (suc place) l m z e = absurd (omega arith)

  pub later_place : (place end : ℕ) → (place ≡ 0 → ⊥) → end ≡ at + 1 + length (digits number) → end ≡ at + length (next_number place number)
  unfolding next_number
  later_place zero end z e = absurd (z refl)
  later_place (suc place) end z e = omega (arith, e)

  pub later_bytes : (place : ℕ) (l m r : List ℕ) → (place ≡ 0 → ⊥) → m ≡ sets l at (32 ∷ []) → r ≡ sets m (at + 1) (digits number)
      → r ≡ sets l at (next_number place number)
  unfolding next_number
  later_bytes zero l m r z em er = absurd (z refl)
  later_bytes (suc place) l m r z em er = written_behind l m r (32 ∷ []) (digits number) at (at + 1) em refl er

-- what is to come of a line at a place, before the numbers from there on
unfoldable pub line_from : ℕ → List ℕ → List ℕ
line_from zero numbers = numbers_line numbers
line_from (suc place) numbers = behind_number numbers

line_more : (place number : ℕ) (rest : List ℕ) → line_from place (number ∷ rest) ≡ next_number place number ++ line_from (suc place) rest
unfolding line_from next_number numbers_line behind_number
line_more zero number rest = refl
line_more (suc place) number rest = refl

line_none : (place : ℕ) → line_from place [] ≡ newline ∷ []
unfolding line_from numbers_line behind_number
line_none zero = refl
line_none (suc place) = refl

-- the loop over a table, each of which has a number, before place i: what is to come of their line brings place and bytes to where the line brings them
pub record Lining {A : Type 0} (value : A → ℕ) (table : List A) (start : ℕ) (before room : List ℕ) (end i : ℕ) : Type 0 where
  pub bound : i ≤ length table
  pub near : end ≤ start + 21 * i
  pub long : length room ≡ length before
  pub counts : end + length (line_from i (drop i (map value table))) ≡ start + length (numbers_line (map value table))
  pub writes : sets room end (line_from i (drop i (map value table))) ≡ sets before start (numbers_line (map value table))

pub lining_starts : {A : Type 0} {value : A → ℕ} {table : List A} {start : ℕ} {room : List ℕ} → Lining value table start room room start 0
unfolding line_from
lining_starts = record { bound = omega arith; near = omega arith; long = refl; counts = refl; writes = refl }

module _ {A : Type 0} {value : A → ℕ} {table : List A} {start : ℕ} {before room : List ℕ} {end i : ℕ} (p : Lining value table start before room end i) where
  -- what is to come: this number, and what is behind it
  comes_more : (number : ℕ) (item : A) → i < length table → item ≡ get_or table i item → number ≡ value item
      → line_from i (drop i (map value table)) ≡ next_number i number ++ line_from (i + 1) (drop (i + 1) (map value table))
  comes_more number item l is told =
      let here : get_or (map value table) i 0 ≡ number = get_or-map value table i item 0 l ∙ ap value (sym is) ∙ sym told in
      ap (line_from i) (drop_first (map value table) i (omega (arith, length-map table value)))
      ∙ ap (λ (n : ℕ). line_from i (n ∷ drop (i + 1) (map value table))) here
      ∙ line_more i number (drop (i + 1) (map value table))
      ∙ ap (λ (k : ℕ). next_number i number ++ line_from k (drop (i + 1) (map value table))) (sym (add-one i))

  pub lining_next : (after : List ℕ) (next number : ℕ) (item : A) → i < length table → item ≡ get_or table i item → number ≡ value item
      → next ≡ end + length (next_number i number) → next ≤ end + 21 → after ≡ sets room end (next_number i number) → length after ≡ length room
      → Lining value table start before after next (i + 1)
  lining_next after next number item l is told place close bytes kept =
      let rest = line_from (i + 1) (drop (i + 1) (map value table)) in
      let more = comes_more number item l is told in
      let split : length (line_from i (drop i (map value table))) ≡ length (next_number i number) + length rest
      = ap length more ∙ length-append (next_number i number) rest in
      record {
        bound = omega arith;
        near = omega (arith, p.near);
        long = kept ∙ p.long;
        counts = omega (arith, p.counts, split, place);
        writes = written_behind room after _ (next_number i number) rest end next bytes place refl ∙ ap (sets room end) (sym more) ∙ p.writes;
      }

  none_comes : length table ≤ i → line_from i (drop i (map value table)) ≡ newline ∷ []
  none_comes h = ap (line_from i) (drop_of_length-le (map value table) (omega (arith, length-map table value))) ∙ line_none i

  pub lining_ends : {limit last : ℕ} {after : List ℕ} → length table ≤ i → Puts (newline ∷ []) end limit last room after
      → Puts (numbers_line (map value table)) start limit last before after
  lining_ends h q =
      let one : length (line_from i (drop i (map value table))) ≡ 1 = ap length (none_comes h) in
      record {
        counted = omega (arith, p.counts, q.counted, one);
        written = λ u. q.written u ∙ sym (ap (sets room end) (none_comes h)) ∙ p.writes;
      }

-- the line of numbers that are their own values
pub own_line : (numbers : List ℕ) {start limit end : ℕ} {before after : List ℕ}
    → Puts (numbers_line (map (λ (number : ℕ). number) numbers)) start limit end before after → Puts (numbers_line numbers) start limit end before after
own_line numbers {start} {limit} {end} {before} {after} p = subst (λ (l : List ℕ). Puts (numbers_line l) start limit end before after) (map-id numbers) p

-- bytes that were counted in a room without places, and then written if they fit
module _ (success : ℕ) (bytes room : List ℕ) (size : ℕ) (before after : List ℕ) (counted : Puts bytes 0 (length room) size before after) where
  pub counted_short : length room < size → record { number = 35; written = 0; room = room } ≡ fitted_bytes success bytes room
  unfolding no_bytes
  counted_short h = sym (bytes_short success bytes room (omega (arith, counted.counted)))

  pub counted_fits : (again : ℕ) (room' : List ℕ) → size ≤ length room → Puts bytes 0 (length room) again room room'
      → record { number = success; written = size; room = room' } ≡ fitted_bytes success bytes room
  counted_fits again room' h p =
      ap (λ (n : ℕ). record { number = success; written = n; room = room' }) long
      ∙ bytes_fit success bytes room room' (omega (arith, long)) (p.written (omega (arith, p.counted, long)))
    where
      long : size ≡ length bytes
      long = omega (arith, counted.counted)
