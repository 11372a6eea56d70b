-- Numbers in decimal: 02's "Decimals are written digit by digit, most significant first". Assumes nothing: these are definitions.
use Rattle.std.specs.Prelude.{ℕ, zero, suc, ◌+◌, ◌-◌, ◌*◌, ◌/◌, ◌%◌, ◌≤◌, ◌≡◌, List, [], ◌∷◌, ◌++◌, ltb}
use Rattle.lists.specs.Tests.{choose}
use Rattle.lists.specs.Lists.{Each}

-- the digits as characters, 48 for 0 to 57 for 9: those of the number divided by ten, then the last; at most so many
unfoldable pub digits_within : ℕ → ℕ → List ℕ
digits_within zero number = []
digits_within (suc most) number =
    let more = digits_within most (number / 10) ++ ((48 + number % 10) ∷ []) in
    choose (ltb number 10) ((48 + number) ∷ []) more

-- the digits of the number, which are no more than the number and one
unfoldable pub digits : ℕ → List ℕ
digits number = digits_within (suc number) number

-- the number that characters say, behind what was read already
unfoldable pub read_from : ℕ → List ℕ → ℕ
read_from before [] = before
read_from before (character ∷ rest) = read_from (10 * before + (character - 48)) rest

-- characters are the number in decimal: digits that read back give it, the first no 0 that others follow
pub record IsDecimal (number : ℕ) (characters : List ℕ) : Type 0 where
  pub all_digits : Each (λ c. (48 ≤ c) × (c ≤ 57)) characters
  pub reads_back : read_from 0 characters ≡ number
  pub some_digit : characters ≡ [] → ⊥
  pub no_leading_zero : (next : ℕ) (rest : List ℕ) → characters ≡ 48 ∷ next ∷ rest → ⊥
