-- The laws of bytes in a room: in two parts, a number's digits; and the answer that bytes make which fit, or do not. Assumes nothing.
use Prim.Native.Nat.{ℕ, suc, ◌+◌, ◌/◌, ◌%◌, ◌^◌, ◌≤◌, ◌<◌}
use mathlib.Core.Path.{◌≡◌, refl, sym, ap, ◌∙◌}
use mathlib.Core.List.{List, [], ◌∷◌, ◌++◌}
use native.Mathlib.Nat.{zero-add, add-zero, add-suc, suc-add}
use native.Mathlib.Decide.{dec_le}
use native.Mathlib.Omega.{arith}
use borrow.Author.Tests.{le-leb, lt-leb, leb-true}
use lib.ListN.{length, drop, set, length-append, length-drop}
use lib.Seq.{sets, sets-eq, drop-append_seam}
use Rattle.lists.proofs.Tests.{choose_true, choose_false, choose_either}
use Rattle.writing.specs.Decimal.{digits}
use Rattle.writing.specs.Rooms.{no_bytes, all_bytes, PastStays, fitted_bytes}
use Rattle.writing.proofs.Decimals.{digits_one, digits_more, length_digits_one, length_digits_more, twenty_digits}

-- of bytes in two parts the second stands from the place behind the first
sets_append : (l : List ℕ) (i : ℕ) (a b : List ℕ) → sets l i (a ++ b) ≡ sets (sets l i a) (i + length a) b
sets_append l i [] b = rw add-zero
sets_append l i (x ∷ a) b = rw (add-suc, ← suc-add) (sets_append (set l i x) (suc i) a b)

-- so bytes written behind others are written with them
pub written_behind : (l m r a b : List ℕ) (at end : ℕ) → m ≡ sets l at a → end ≡ at + length a → r ≡ sets m end b → r ≡ sets l at (a ++ b)
written_behind l m r a b at end em ee er =
    er ∙ ap (λ (k : ℕ). sets m k b) ee ∙ ap (λ (x : List ℕ). sets x (at + length a) b) em ∙ sym (sets_append l at a b)

-- a number's digits from a place on: the only one, or the last behind those of the number divided by ten
module _ (at number : ℕ) where
  pub one_digit_place : number < 10 → at + 1 ≡ at + length (digits number)
  one_digit_place one = omega (arith, length_digits_one number one)

  pub one_digit_bytes : (room after : List ℕ) → number < 10 → after ≡ sets room at ((48 + number) ∷ []) → after ≡ sets room at (digits number)
  one_digit_bytes room after one e = e ∙ sym (ap (sets room at) (digits_one number one))

  module _ (next : ℕ) (ten : 10 ≤ number) (place : next ≡ at + length (digits (number / 10))) where
    pub last_digit_place : next + 1 ≡ at + length (digits number)
    last_digit_place = omega (arith, length_digits_more number ten)

    pub last_digit_near : number < 2 ^ 64 → next + 1 ≤ at + 20
    last_digit_near h = omega (arith, last_digit_place, twenty_digits number h)

    pub last_digit_fits : number < 2 ^ 64 → at + 20 < 2 ^ 64 → next + 1 < 2 ^ 64
    last_digit_fits h l = omega (arith, last_digit_near h)

    pub last_digit_bytes : (room between after : List ℕ) → between ≡ sets room at (digits (number / 10))
        → after ≡ sets between next ((48 + number % 10) ∷ []) → after ≡ sets room at (digits number)
    last_digit_bytes room between after before last =
        written_behind room between after (digits (number / 10)) ((48 + number % 10) ∷ []) at next before place last
        ∙ sym (ap (sets room at) (digits_more number ten))

-- a room too short stays as it is
pub bytes_short : (success : ℕ) (bytes room : List ℕ) → length room < length bytes → fitted_bytes success bytes room ≡ no_bytes 35 room
unfolding fitted_bytes
bytes_short success bytes room h = choose_false _ _ (lt-leb _ _ h)

-- bytes that fit are written as a whole: they stand at the room's start, and their length is answered
pub bytes_whole : (success : ℕ) (bytes room : List ℕ) → length bytes ≤ length room → fitted_bytes success bytes room ≡ all_bytes success bytes room
unfolding fitted_bytes
bytes_whole success bytes room h = choose_true _ _ (le-leb _ _ h)

pub bytes_fit : (success : ℕ) (bytes room after : List ℕ) → length bytes ≤ length room → after ≡ sets room 0 bytes
    → record { number = success; written = length bytes; room = after } ≡ fitted_bytes success bytes room
unfolding all_bytes
bytes_fit success bytes room after h e =
    ap (λ (l : List ℕ). record { number = success; written = length bytes; room = l })
    (e ∙ sets-eq bytes room 0 (omega arith) ∙ ap (λ (k : ℕ). bytes ++ drop k room) (zero-add (length bytes)))
    ∙ sym (bytes_whole success bytes room h)

-- behind what was written the room is as it was
pub none_past : (number : ℕ) (room : List ℕ) → PastStays room (no_bytes number room)
unfolding no_bytes
none_past number room = record { stays = refl; as_long = refl }

pub fitted_past : (success : ℕ) (bytes room : List ℕ) → PastStays room (fitted_bytes success bytes room)
unfolding fitted_bytes all_bytes
fitted_past success bytes room = choose_either (PastStays room) _ (λ e. whole (leb-true _ _ e)) (λ e. none_past 35 room)
  where
    whole : length bytes ≤ length room → PastStays room (all_bytes success bytes room)
    whole h = record {
      stays = drop-append_seam bytes (drop (length bytes) room);
      as_long = omega (arith, length-append bytes (drop (length bytes) room), length-drop (length bytes) room);
    }

-- no more is written than there is room for
pub written_fits : (success : ℕ) (bytes room : List ℕ) → (fitted_bytes success bytes room).written ≤ length room
unfolding all_bytes no_bytes
written_fits success bytes room = at (dec_le (length bytes) (length room))
  where
    at : Dec (length bytes ≤ length room) → (fitted_bytes success bytes room).written ≤ length room
    at (yes l) = rw (bytes_whole success bytes room l) l
    at (no l) = rw (bytes_short success bytes room (omega arith)) (omega arith)
