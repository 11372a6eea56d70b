-- A test of the backward set of a case by each symbol, in a loop over the symbols. Assumes nothing.
use Prim.Native.Nat.{ℕ, ◌+◌, ◌-◌, ◌≤◌, ◌<◌}
use mathlib.Core.Path.{◌≡◌, sym, ap, ◌∙◌}
use mathlib.Core.Bool.{Bool, true, false, not}
use mathlib.Core.List.{List}
use native.Mathlib.Nat.{sub-zero}
use borrow.Author.Tests.{not-true, not-false}
use Rattle.lists.specs.Lists.{each_from}
use Rattle.lists.proofs.Lists.{each_from_fails, each_from_holds, each_from_ends}
use Rattle.automata.specs.Image.{symbols_of, rows_of}
use Rattle.automata.specs.Automaton.{backward}
use Rattle.automata.specs.declared.image.Head.{Head}
use Rattle.automata.specs.Answers.{ReadAs}
use Rattle.automata.proofs.Reading.{head_symbols}

-- the test of the backward set of Y by each symbol, before symbol s: it held so far, and the symbols from s on are left
pub record EachTried (image : List ℕ) (test : ℕ → Bool) (Y symbols s : ℕ) : Type 0 where
  pub count : symbols ≡ symbols_of image
  pub left : each_from (λ t. test (backward (rows_of image t) Y)) (symbols - s) s ≡ each_from (λ t. test (backward (rows_of image t) Y)) (symbols_of image) 0

pub each_starts : {image : List ℕ} {head : Head} {test : ℕ → Bool} {Y : ℕ} → ReadAs image head → EachTried image test Y head.symbols 0
each_starts {image} {head} {test} {Y} read = record {
  count = head_symbols read;
  left = ap (λ (count : ℕ). each_from (λ t. test (backward (rows_of image t) Y)) count 0) (sub-zero head.symbols ∙ head_symbols read);
}

module _ {image : List ℕ} {test : ℕ → Bool} {Y symbols s : ℕ} (tried : EachTried image test Y symbols s) where
  pub each_known : s < symbols → s < symbols_of image
  each_known l = rw tried.count at l

  module _ (P : ℕ) (b : Bool) (l : s < symbols) (back : P ≡ backward (rows_of image s) Y) (e : b ≡ test P) where
    at : test (backward (rows_of image s) Y) ≡ b
    at = rw (← back) (sym e)

    pub each_goes : not b ≡ false → EachTried image test Y symbols (s + 1)
    each_goes n = record {
      count = tried.count;
      left = sym (each_from_holds (λ t. test (backward (rows_of image t) Y)) symbols s l (at ∙ not-false b n)) ∙ tried.left;
    }

    pub each_fails : not b ≡ true → each_from (λ t. test (backward (rows_of image t) Y)) (symbols_of image) 0 ≡ false
    each_fails n = sym tried.left ∙ each_from_fails (λ t. test (backward (rows_of image t) Y)) symbols s l (at ∙ not-true b n)

  pub each_ends : symbols ≤ s → each_from (λ t. test (backward (rows_of image t) Y)) (symbols_of image) 0 ≡ true
  each_ends l = sym tried.left ∙ each_from_ends (λ t. test (backward (rows_of image t) Y)) symbols s l
