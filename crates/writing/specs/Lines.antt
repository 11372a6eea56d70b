-- Lines of numbers: 01's "numbers are decimal with one space between, and each line ends in a newline"; and a reader that gives the numbers of each line.
-- Assumes nothing: these are definitions.
use Rattle.std.specs.Prelude.{ℕ, List, [], ◌∷◌, ◌++◌, eqb}
use Rattle.lists.specs.Tests.{choose}
use Rattle.writing.specs.Decimal.{digits, read_from, IsDecimal}

abbrev pub space : ℕ
space = 32

abbrev pub newline : ℕ
newline = 10

-- what stands behind a number: "one space between" it and the next, or the newline in which its line ends
unfoldable pub behind_number : List ℕ → List ℕ
behind_number [] = newline ∷ []
behind_number (number ∷ numbers) = space ∷ (digits number ++ behind_number numbers)

-- a line of numbers; without any it is the newline alone
unfoldable pub numbers_line : List ℕ → List ℕ
numbers_line [] = newline ∷ []
numbers_line (number ∷ numbers) = digits number ++ behind_number numbers

-- lines, one after the other
unfoldable pub text_of : List (List ℕ) → List ℕ
text_of [] = []
text_of (numbers ∷ lines) = numbers_line numbers ++ text_of lines

-- The same said of bytes: a line is the decimals of its numbers with one space between, and ends in a newline.
pub data IsLine : List ℕ → List ℕ → Type 0 where
  no_number : IsLine [] (newline ∷ [])
  last_number : {number : ℕ} {characters : List ℕ} → IsDecimal number characters → IsLine (number ∷ []) (characters ++ (newline ∷ []))
  one_before : {number next : ℕ} {numbers characters bytes : List ℕ} → IsDecimal number characters → IsLine (next ∷ numbers) bytes
      → IsLine (number ∷ next ∷ numbers) (characters ++ (space ∷ bytes))

pub data IsText : List (List ℕ) → List ℕ → Type 0 where
  no_line : IsText [] []
  line_before : {numbers bytes more : List ℕ} {lines : List (List ℕ)} → IsLine numbers bytes → IsText lines more → IsText (numbers ∷ lines) (bytes ++ more)

-- the numbers that were read, and the one that the characters behind them say; no characters say none
unfoldable pub with_number : List ℕ → List ℕ → List ℕ
with_number numbers [] = numbers
with_number numbers (first ∷ rest) = numbers ++ (read_from 0 (first ∷ rest) ∷ [])

-- The reader, behind the numbers that it has read of a line and the characters of the next: a newline ends number and line, a space the number, and any
-- other byte is one more character.
unfoldable pub read_on : List ℕ → List ℕ → List ℕ → List (List ℕ)
read_on numbers characters [] = []
read_on numbers characters (byte ∷ bytes) =
    let line = with_number numbers characters ∷ read_on [] [] bytes in
    let number = read_on (with_number numbers characters) [] bytes in
    let character = read_on numbers (characters ++ (byte ∷ [])) bytes in
    let other = choose (eqb byte space) number character in
    choose (eqb byte newline) line other

-- the numbers of each line
unfoldable pub read_lines : List ℕ → List (List ℕ)
read_lines bytes = read_on [] [] bytes
