-- What reading an image answers, and 01's number and values for each of its cases. Assumes nothing: these are definitions.
use Rattle.std.specs.Prelude.{ℕ, zero, suc, ◌≡◌, Bool, List, [], ◌∷◌, eqb}
use Rattle.std.specs.Prelude.{Result, Ok, Err}
use Rattle.lists.specs.Tests.{choose}
use Rattle.automata.specs.WordTest.{one_if}
use Rattle.automata.specs.Image.{states_of, symbols_of, row_count_of, initial_of, final_of, check_image}
use Rattle.automata.specs.declared.image.Head.{Head}
use Rattle.automata.specs.declared.refusal.Refusal.{Refusal}
use Rattle.automata.specs.declared.refusal.Refusal.TheVariants as Refused
use Rattle.automata.specs.Refusals.{number_of}

-- the head that the image's first 20 bytes say
abbrev pub head_of : List ℕ → Head
head_of image = record {
  states = states_of image;
  symbols = symbols_of image;
  rows = row_count_of image;
  initial = initial_of image;
  finals = final_of image;
}

-- an image that no check refuses, with its head
pub record ReadAs (image : List ℕ) (head : Head) : Type 0 where
  pub valid : check_image image ≡ 0
  pub read : head ≡ head_of image

-- what the number of an image's check stands for
unfoldable pub refused_under : ℕ → Refusal
refused_under number =
    choose (eqb number 20) Refused.ShortImage (choose (eqb number 21) Refused.StateCount (choose (eqb number 22) Refused.SymbolCount
    (choose (eqb number 23) Refused.RowCount (choose (eqb number 24) Refused.ImageLength (choose (eqb number 25) Refused.StateSet
    (choose (eqb number 26) Refused.Pair Refused.Row))))))

-- the image itself where no check applies, else the refusal
unfoldable pub read_with : List ℕ → ℕ → Result (List ℕ) Refusal
read_with image zero = Ok image
read_with image (suc number) = Err (refused_under (suc number))

unfoldable pub read_image : List ℕ → Result (List ℕ) Refusal
read_image image = read_with image (check_image image)

-- the head alone of what was read
unfoldable pub head_read_from : Result (List ℕ) Refusal → Result Head Refusal
head_read_from (Ok image) = Ok (head_of image)
head_read_from (Err refusal) = Err refusal

-- the number that the checks answer: 0 where none refuses
abbrev pub checked_number : Result Unit Refusal → ℕ
checked_number (Ok nothing) = 0
checked_number (Err refusal) = number_of refusal

-- "When an answer is an enum, a definition gives this paper's number and values for each of its cases." Here the number: 0 for an image that no check
-- refuses, else the refusing number.
unfoldable pub image_number : Result (List ℕ) Refusal → ℕ
image_number (Ok image) = 0
image_number (Err refusal) = number_of refusal

-- The values, in the five places that are lent for them: n, k, m, I and F of a valid image; what stood there before, for a refused one.
unfoldable pub head_after : List ℕ → Result (List ℕ) Refusal → List ℕ
head_after before (Ok image) = states_of image ∷ symbols_of image ∷ row_count_of image ∷ initial_of image ∷ final_of image ∷ []
head_after before (Err refusal) = before

-- and of the word test: 1 for a word that is accepted and 0 for one that is not, else the refusing number
unfoldable pub word_number : Result Bool Refusal → ℕ
word_number (Ok accepted) = one_if accepted
word_number (Err refusal) = number_of refusal
