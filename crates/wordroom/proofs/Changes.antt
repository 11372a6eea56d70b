-- What the word room holds after each change: one place written, the places cleared, the word turned round. Assumes nothing.
use Prim.Native.Nat.{ℕ, zero, suc, ◌+◌, ◌-◌, ◌≤◌, max}
use mathlib.Core.Path.{◌≡◌, refl, sym, ap, ◌∙◌}
use mathlib.Core.List.{List, [], ◌∷◌, ◌++◌, append-nil, reverse, reverse-append}
use native.Mathlib.Omega.{arith}
use lib.ListN.{length, get_or, take, drop, set, replicate, length-append, length-reverse}
use borrow.Rule.Slice.PartMut.{put_mid}
use lib.Seq.{take-suc, append_snoc, set_split, length-take-le}
use Rattle.machine.specs.Machine.{word_of}
use Rattle.machine.specs.Lent.{word_room_of, pending_first, column_back, placed, with_pending, with_word}
use Rattle.machine.proofs.LentTables.{cases_front, symbols_front, placed_exact}
use Rattle.wordroom.specs.Room.{Holds}

-- a value behind the first `count` entries
one_more : (table : List ℕ) (count value : ℕ) → count + 1 ≤ length table → set table count value ≡ placed count (take count table ++ value ∷ []) table
unfolding placed
one_more table count value h =
    let low : count ≤ length table = omega arith in
    let new : length (take count table ++ value ∷ []) ≡ suc count =
    length-append (take count table) (value ∷ []) ∙ omega (arith, length-take-le count table low) in
    let free : count - suc count ≡ 0 = omega arith in
    let most : max count (suc count) ≡ suc count = omega arith in
    set_split table count value (omega arith) ∙ rw (new, free, most, append-nil) (sym (append_snoc (take count table) value (drop (suc count) table)))

-- 0 in place of the last of the first `count` entries
one_less : (table : List ℕ) (count : ℕ) → count ≤ length table → 1 ≤ count → set table (count - 1) 0 ≡ placed count (take (count - 1) table) table
unfolding placed
one_less table count h p =
    let low : count - 1 ≤ length table = omega arith in
    let new : length (take (count - 1) table) ≡ count - 1 = length-take-le (count - 1) table low in
    let free : count - (count - 1) ≡ 1 = omega arith in
    let most : max count (count - 1) ≡ count = omega arith in
    let next : suc (count - 1) ≡ count = omega arith in
    set_split table (count - 1) 0 (omega arith) ∙ rw (next, new, free, most) (sym (append_snoc (take (count - 1) table) 0 (drop count table)))

-- the room after a push, and after a pop
module _ (cases symbols : List ℕ) (count : ℕ) where
  pub pushed : (case symbol : ℕ) → Holds (count + 1) (word_room_of cases symbols)
      → word_room_of (set cases count case) (set symbols count symbol)
      ≡ with_pending count (record { case = case; symbol = symbol } ∷ pending_first (word_room_of cases symbols) count) (word_room_of cases symbols)
  unfolding with_pending column_back
  pushed case symbol holds =
      rw (
        cases_front (word_room_of cases symbols) count (omega (arith, holds.in_cases)),
        symbols_front (word_room_of cases symbols) count (omega (arith, holds.in_symbols)),
        one_more cases count case holds.in_cases,
        one_more symbols count symbol holds.in_symbols,
      )

  pub popped : Holds count (word_room_of cases symbols) → 1 ≤ count
      → word_room_of (set cases (count - 1) 0) (set symbols (count - 1) 0)
      ≡ with_pending count (pending_first (word_room_of cases symbols) (count - 1)) (word_room_of cases symbols)
  unfolding with_pending
  popped holds some =
      rw (
        cases_front (word_room_of cases symbols) (count - 1) (omega (arith, holds.in_cases)),
        symbols_front (word_room_of cases symbols) (count - 1) (omega (arith, holds.in_symbols)),
        one_less cases count holds.in_cases some,
        one_less symbols count holds.in_symbols some,
      )

-- no entry in place of the first `count`: 0 in each of their places
pub none_placed : (table zeros : List ℕ) (count : ℕ) → count ≤ length table → zeros ≡ replicate (length (take (count - 0) table)) 0
    → put_mid 0 (count - 0) table zeros ≡ placed count [] table
unfolding placed
none_placed table zeros count h z =
    let all : count - 0 ≡ count = omega arith in
    let most : max count 0 ≡ count = omega arith in
    rw (z, all, most, length-take-le count table h)

-- the room where nothing is pending any more
pub word_cleared : (cases symbols cases' symbols' : List ℕ) (count : ℕ) → cases' ≡ placed count [] cases → symbols' ≡ placed count [] symbols
    → word_room_of cases' symbols' ≡ with_word count [] (word_room_of cases symbols)
unfolding with_word
word_cleared cases symbols cases' symbols' count c s = rw (c, s)

-- the symbols that led to the pending cases are those behind the first place, from the last to the first
word_behind : (cases rest : List ℕ) (first count : ℕ) → count ≤ length rest
    → word_of (pending_first (word_room_of cases (first ∷ rest)) (suc count)) ≡ reverse (take count rest)
unfolding word_of pending_first
word_behind cases rest first zero h = refl
word_behind cases rest first (suc count) h =
    ap (λ (word : List ℕ). get_or rest count 0 ∷ word) (word_behind cases rest first count (omega arith))
    ∙ sym (ap reverse (take-suc rest count 0 h) ∙ reverse-append (take count rest) (get_or rest count 0 ∷ []))

-- the table with its places from 1 up to `to` in the other direction
abbrev turned : ℕ → List ℕ → List ℕ
turned to table = take 1 table ++ (reverse (take (to - 1) (drop 1 table)) ++ drop (to - 1) (drop 1 table))

-- with the given symbol in the first place they make up the word
symbols_turned : (cases symbols : List ℕ) (count symbol : ℕ) → count ≤ length symbols → 1 ≤ count
    → turned count (set symbols 0 symbol) ≡ placed count (symbol ∷ word_of (pending_first (word_room_of cases symbols) count)) symbols
symbols_turned cases symbols zero symbol room some = absurd (omega arith)
symbols_turned cases [] (suc count) symbol room some = absurd (omega arith)
symbols_turned cases (first ∷ rest) (suc count) symbol room some =
    let low : count ≤ length rest = omega arith in
    let less : suc count - 1 ≡ count = omega arith in
    let size : length (symbol ∷ reverse (take count rest)) ≡ suc count = ap suc (length-reverse (take count rest) ∙ length-take-le count rest low) in
    rw (less, word_behind cases rest first count low) (sym (placed_exact (symbol ∷ reverse (take count rest)) (first ∷ rest) (suc count) size))

-- the room after the word is written: the part behind the first place comes back turned round
pub word_written : (cases symbols cases' middle : List ℕ) (count symbol : ℕ) → Holds count (word_room_of cases symbols) → 1 ≤ count
    → cases' ≡ placed count [] cases → middle ≡ reverse (take (count - 1) (drop 1 (set symbols 0 symbol)))
    → word_room_of cases' (put_mid 1 (count - 1) (set symbols 0 symbol) middle)
    ≡ with_word count (symbol ∷ word_of (pending_first (word_room_of cases symbols) count)) (word_room_of cases symbols)
unfolding with_word
word_written cases symbols cases' middle count symbol holds some c m = rw (c, m, symbols_turned cases symbols count symbol holds.in_symbols some)
