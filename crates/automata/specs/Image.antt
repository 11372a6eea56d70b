-- The image of an automaton, as 01's section "The image" and its table of numbers have it: the head, the pairs, the rows, and checks 20 to 27.
-- Assumes nothing: these are definitions.
use Rattle.std.specs.Prelude.{ℕ, zero, suc, ◌+◌, ◌*◌, ◌/◌, ◌%◌, ◌≡◌, Bool, true, false, List, [], ◌∷◌, eqb, ltb, length}
use Rattle.lists.specs.Tests.{◌and◌, ◌or◌, neg, choose}
use Rattle.lists.specs.Lists.{each_from}
use Rattle.masks.specs.Sets.{within}
use Rattle.automata.specs.Bytes.{byte_at, little2, little4, little8}

-- "Byte 0: n (1 to 64)."
abbrev pub states_of : List ℕ → ℕ
states_of image = byte_at image 0

-- "Byte 1: k (1 to 64)."
abbrev pub symbols_of : List ℕ → ℕ
symbols_of image = byte_at image 1

-- "Bytes 2–3: m, the rows (0 to 4,096)."
abbrev pub row_count_of : List ℕ → ℕ
row_count_of image = little2 image 2

-- "Bytes 4–11: I. Bytes 12–19: F."
abbrev pub initial_of : List ℕ → ℕ
initial_of image = little8 image 4

abbrev pub final_of : List ℕ → ℕ
final_of image = little8 image 12

-- "Then k pairs, one for each symbol in order: offset and length in bytes of that symbol's rows, 4 bytes each"
abbrev pub offset_of : List ℕ → ℕ → ℕ
offset_of image s = little4 image (20 + 8 * s)

abbrev pub size_of : List ℕ → ℕ → ℕ
size_of image s = little4 image (24 + 8 * s)

-- where the rows begin: behind the head and the pairs
abbrev pub rows_start : List ℕ → ℕ
rows_start image = 20 + 8 * symbols_of image

-- "The first offset is 20 + 8k, each later one is where the span before it ends"
unfoldable pub span_start : List ℕ → ℕ → ℕ
span_start image zero = rows_start image
span_start image (suc s) = offset_of image s + size_of image s

-- the pair of symbol s keeps the rule: its offset, and "each length is a multiple of 9"
unfoldable pub pair_holds : List ℕ → ℕ → Bool
pair_holds image s = eqb (offset_of image s) (span_start image s) and eqb (size_of image s % 9) 0

-- each pair does, "and the last span ends at the image's end"
unfoldable pub pairs_hold : List ℕ → Bool
pairs_hold image = each_from (pair_holds image) (symbols_of image) 0 and eqb (span_start image (symbols_of image)) (length image)

-- "A row is a state, a symbol and a case"; the symbol is the one whose span it stands in
pub record Row : Type 0 where
  pub state : ℕ
  pub case : ℕ

-- "rows of 9 bytes: state (1), case (8)"
abbrev pub row_at : List ℕ → ℕ → Row
row_at image at = record { state = byte_at image at; case = little8 image (at + 1) }

-- the `count` rows from a place on
unfoldable pub rows_from : List ℕ → ℕ → ℕ → List Row
rows_from image zero at = []
rows_from image (suc count) at = row_at image at ∷ rows_from image count (at + 9)

-- the rows of symbol s: those of its span. A number of k or above is no symbol and has none, whatever bytes stand where its pair would be: so equal
-- automata are equal records.
unfoldable pub rows_of : List ℕ → ℕ → List Row
rows_of image s = choose (ltb s (symbols_of image)) (rows_from image (size_of image s / 9) (offset_of image s)) []

-- row i of the m has a state below n and no bit of its case at n or above
unfoldable pub row_holds : List ℕ → ℕ → Bool
row_holds image i =
    ltb (row_at image (rows_start image + 9 * i)).state (states_of image)
    and within (states_of image) (row_at image (rows_start image + 9 * i)).case

unfoldable pub rows_hold : List ℕ → Bool
rows_hold image = each_from (row_holds image) (row_count_of image) 0

-- the number is 0 or above 64
unfoldable pub outside : ℕ → Bool
outside number = eqb number 0 or ltb 64 number

-- the number, where its check applies; else what the later checks answer
unfoldable pub check : Bool → ℕ → ℕ → ℕ
check true number later = number
check false number later = later

-- "Checks run in the table's order from 20 down; the first that applies is the answer." None that applies is 0.
unfoldable pub check_image : List ℕ → ℕ
check_image image =
    -- 20: image under 20 bytes
    check (ltb (length image) 20) 20
    -- 21: n is 0 or above 64
    (check (outside (states_of image)) 21
    -- 22: k is 0 or above 64
    (check (outside (symbols_of image)) 22
    -- 23: m above 4,096
    (check (ltb 4096 (row_count_of image)) 23
    -- 24: image length differs from 20 + 8k + 9m
    (check (neg (eqb (length image) (20 + 8 * symbols_of image + 9 * row_count_of image))) 24
    -- 25: I or F has a bit at n or above
    (check (neg (within (states_of image) (initial_of image)) or neg (within (states_of image) (final_of image))) 25
    -- 26: a pair breaks the span rule
    (check (neg (pairs_hold image)) 26
    -- 27: a row's state or a bit of its case is n or above
    (check (neg (rows_hold image)) 27
    0)))))))

-- "An automaton is valid if it has an image that no check of an image (here 20 to 27) refuses"
abbrev pub Valid : List ℕ → Type 0
Valid image = check_image image ≡ 0
