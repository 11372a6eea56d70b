-- The laws of the reader of lines: the numbers of a line, and of lines one after the other, read back. Assumes nothing.
use Prim.Native.Nat.{ℕ, ◌≤◌}
use mathlib.Core.Path.{◌≡◌, refl, sym, ap, ◌∙◌}
use mathlib.Core.List.{List, [], ◌∷◌, ◌++◌, append-nil, append_assoc}
use native.Mathlib.Omega.{arith}
use borrow.Author.Tests.{ne_eqb}
use lib.ListN.{length, take, drop}
use lib.Seq.{append_snoc, take-append_seam}
use Rattle.lists.specs.Lists.{here, there, Each}
use Rattle.lists.proofs.Tests.{choose_true, choose_false}
use Rattle.writing.specs.Decimal.{digits, read_from}
use Rattle.writing.specs.Lines.{space, newline, behind_number, numbers_line, text_of, with_number, read_on, read_lines}
use Rattle.writing.specs.Lines.{IsLine, no_number, last_number, one_before, IsText, no_line, line_before}
use Rattle.writing.specs.Rooms.{Answer, all_bytes, fitted_bytes}
use Rattle.writing.proofs.Decimals.{digits_decimal}
use Rattle.writing.proofs.Placing.{bytes_whole}

-- one byte: a newline, a space, or a character of a number, which digits are
module _ (numbers characters bytes : List ℕ) where
  read_newline : read_on numbers characters (newline ∷ bytes) ≡ with_number numbers characters ∷ read_lines bytes
  unfolding read_on read_lines
  read_newline = choose_true _ _ refl

  read_space : read_on numbers characters (space ∷ bytes) ≡ read_on (with_number numbers characters) [] bytes
  unfolding read_on
  read_space = choose_false _ _ refl ∙ choose_true _ _ refl

  read_character : (byte : ℕ) → 48 ≤ byte → read_on numbers characters (byte ∷ bytes) ≡ read_on numbers (characters ++ (byte ∷ [])) bytes
  unfolding read_on
  read_character byte h = choose_false _ _ (ne_eqb byte newline (λ e. omega (arith, e))) ∙ choose_false _ _ (ne_eqb byte space (λ e. omega (arith, e)))

read_characters : (numbers before characters bytes : List ℕ) → Each (λ c. (48 ≤ c) × (c ≤ 57)) characters
    → read_on numbers before (characters ++ bytes) ≡ read_on numbers (before ++ characters) bytes
read_characters numbers before [] bytes f = ap (λ (l : List ℕ). read_on numbers l bytes) (sym (append-nil before))
read_characters numbers before (c ∷ rest) bytes f =
    read_character numbers before (rest ++ bytes) c (f c (here refl)).0
    ∙ read_characters numbers (before ++ (c ∷ [])) rest bytes (λ x m. f x (there m))
    ∙ ap (λ (l : List ℕ). read_on numbers l bytes) (append_snoc before c rest)

-- a number's digits, ended
characters_say : (numbers characters : List ℕ) (number : ℕ) → (characters ≡ [] → ⊥) → read_from 0 characters ≡ number
    → with_number numbers characters ≡ numbers ++ (number ∷ [])
unfolding with_number
characters_say numbers [] number some e = absurd (some refl)
characters_say numbers (c ∷ rest) number some e = ap (λ (n : ℕ). numbers ++ (n ∷ [])) e

digits_say : (numbers : List ℕ) (number : ℕ) → with_number numbers (digits number) ≡ numbers ++ (number ∷ [])
digits_say numbers number = characters_say numbers (digits number) number (digits_decimal number).some_digit (digits_decimal number).reads_back

read_digits : (numbers : List ℕ) (number : ℕ) (behind bytes : List ℕ)
    → read_on numbers [] (digits number ++ behind ++ bytes) ≡ read_on numbers (digits number) (behind ++ bytes)
read_digits numbers number behind bytes =
    ap (read_on numbers []) (append_assoc (digits number) behind bytes)
    ∙ read_characters numbers [] (digits number) (behind ++ bytes) (digits_decimal number).all_digits

-- the rest of a line, behind a number's digits
read_behind : (numbers : List ℕ) (number : ℕ) (more bytes : List ℕ)
    → read_on numbers (digits number) (behind_number more ++ bytes) ≡ (numbers ++ (number ∷ more)) ∷ read_lines bytes
unfolding behind_number
read_behind numbers number [] bytes =
    read_newline numbers (digits number) bytes ∙ ap (λ (l : List ℕ). l ∷ read_lines bytes) (digits_say numbers number)
read_behind numbers number (next ∷ more) bytes =
    read_space numbers (digits number) (digits next ++ behind_number more ++ bytes)
    ∙ ap (λ (l : List ℕ). read_on l [] (digits next ++ behind_number more ++ bytes)) (digits_say numbers number)
    ∙ read_digits (numbers ++ (number ∷ [])) next (behind_number more) bytes
    ∙ read_behind (numbers ++ (number ∷ [])) next more bytes
    ∙ ap (λ (l : List ℕ). l ∷ read_lines bytes) (append_snoc numbers number (next ∷ more))

-- a line, and lines
pub read_line : (numbers bytes : List ℕ) → read_lines (numbers_line numbers ++ bytes) ≡ numbers ∷ read_lines bytes
unfolding numbers_line read_lines with_number
read_line [] bytes = read_newline [] [] bytes
read_line (number ∷ more) bytes = read_digits [] number (behind_number more) bytes ∙ read_behind [] number more bytes

pub read_text : (lines : List (List ℕ)) → read_lines (text_of lines) ≡ lines
unfolding text_of read_lines read_on
read_text [] = refl
read_text (numbers ∷ lines) = read_line numbers (text_of lines) ∙ ap (λ (rest : List (List ℕ)). numbers ∷ rest) (read_text lines)

-- what is made of lines is plain text
line_is : (numbers : List ℕ) → IsLine numbers (numbers_line numbers)
unfolding numbers_line behind_number
line_is [] = no_number
line_is (number ∷ []) = last_number (digits_decimal number)
line_is (number ∷ next ∷ numbers) = one_before (digits_decimal number) (line_is (next ∷ numbers))

pub text_is : (lines : List (List ℕ)) → IsText lines (text_of lines)
unfolding text_of
text_is [] = no_line
text_is (numbers ∷ lines) = line_before (line_is numbers) (text_is lines)

-- and so is what was written of them into a room that is long enough
module _ (success : ℕ) (lines : List (List ℕ)) (room : List ℕ) (enough : length (text_of lines) ≤ length room) where
  pub written_text : take (fitted_bytes success (text_of lines) room).written (fitted_bytes success (text_of lines) room).room ≡ text_of lines
  unfolding all_bytes
  written_text =
      ap (λ (answer : Answer). take answer.written answer.room) (bytes_whole success (text_of lines) room enough)
      ∙ take-append_seam (text_of lines) (drop (length (text_of lines)) room)
