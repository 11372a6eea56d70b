-- Whether a close goes by an index, and the marks of levels. Assumes nothing: these are definitions.
use Rattle.std.specs.Prelude.{ℕ, ◌<◌, ◌≡◌, Bool, true, false, List, eqb, length, get_or}
use Rattle.lists.specs.Tests.{neg}
use Rattle.lists.specs.Lists.{any}

-- where the answer is yes, none of the levels is 0
pub record NoneLeft (levels : List ℕ) (answer : Bool) : Type 0 where
  pub none : answer ≡ true → neg (any (λ other. eqb other 0) levels) ≡ true

-- a level that has a place is marked where it is one of these
pub record Marked (levels : List ℕ) (marks : List Bool) : Type 0 where
  pub told : (level : ℕ) → level < length marks → get_or marks level false ≡ any (λ other. eqb other level) levels
