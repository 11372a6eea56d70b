-- The word test of 01. Assumes nothing: these are definitions.
use Rattle.std.specs.Prelude.{ℕ, zero, suc, ◌<◌, Bool, true, false, List, ltb}
use Rattle.lists.specs.Tests.{neg}
use Rattle.lists.specs.Lists.{Each, all}
use Rattle.masks.specs.Sets.{subset}
use Rattle.automata.specs.Image.{symbols_of, check, check_image, Valid}
use Rattle.automata.specs.Automaton.{Automaton, automaton_of, taken_back}

-- 1 for yes, 0 for no
unfoldable pub one_if : Bool → ℕ
one_if true = 1
one_if false = 0

-- "a word is accepted when F, taken back by its symbols from last to first, gives a set that contains I"
unfoldable pub accepts : Automaton → List ℕ → Bool
accepts A word = subset A.initial (taken_back A word A.final)

-- each symbol of the word is below k
unfoldable pub known : ℕ → List ℕ → Bool
known symbols word = all (λ s. ltb s symbols) word

-- what the checks leave: a valid image, and a word of its symbols
pub record WordOf (image word : List ℕ) : Type 0 where
  pub valid : Valid image
  pub symbols : Each (λ s. s < symbols_of image) word

-- after the image's checks, 32: a symbol is k or above
unfoldable pub test_word : List ℕ → List ℕ → ℕ → ℕ
test_word image word zero = check (neg (known (symbols_of image) word)) 32 (one_if (accepts (automaton_of image) word))
test_word image word (suc refused) = suc refused

-- the word test's number: that of the first check that applies, else 1 for a word that is accepted and 0 for one that is not
unfoldable pub word_test : List ℕ → List ℕ → ℕ
word_test image word = test_word image word (check_image image)
