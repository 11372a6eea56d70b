-- Numbers in chains. Each number below `count` has a key, which others may share; a table tells for each key the last number that has it, and a link beside
-- each number the one before it. Numbers are told with 1 added, and 0 ends a chain. Assumes nothing: these are definitions.
use Rattle.std.specs.Prelude.{ℕ, zero, suc, ◌<◌, ◌≡◌, List, get_or, Option, Some, None}

-- the number that stands with 1 added, if one does
unfoldable pub told_number : ℕ → Option ℕ
told_number zero = None
told_number (suc number) = Some number

pub record Chained (key : ℕ → ℕ) (count : ℕ) (lasts links : List ℕ) : Type 0 where
  -- a key tells the last number that has it
  pub tells : (k p : ℕ) → get_or lasts k 0 ≡ suc p → (p < count) × (key p ≡ k)
  pub last : (p : ℕ) → p < count → p < get_or lasts (key p) 0
  -- a link tells the one before it
  pub links_to : (p o : ℕ) → p < count → get_or links p 0 ≡ suc o → (o < p) × (key o ≡ key p)
  pub nearest : (p o : ℕ) → p < count → o < p → key o ≡ key p → o < get_or links p 0
