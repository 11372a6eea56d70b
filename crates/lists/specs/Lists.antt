-- Membership, tests over a list and over the numbers below a bound, and what a list keeps. Assumes nothing.
use Rattle.std.specs.Prelude.{ℕ, zero, suc, ◌≡◌, Bool, true, false, List, [], ◌∷◌, ◌++◌, T}
use Rattle.std.proofs.Math.Option.{Option, none, some}
use Rattle.lists.specs.Tests.{◌and◌, ◌or◌, choose}

infix 40 ◌∈◌
-- x stands in the list
pub data ◌∈◌ {A : Type 0} (x : A) : List A → Type 0 where
  here : {y : A} {l : List A} → x ≡ y → x ∈ (y ∷ l)
  there : {y : A} {l : List A} → x ∈ l → x ∈ (y ∷ l)

-- the property holds of each element
abbrev pub Each : {A : Type 0} → (A → Type 0) → List A → Type 0
Each {A} P l = (x : A) → x ∈ l → P x

-- the test holds of some element
unfoldable pub any : {A : Type 0} → (A → Bool) → List A → Bool
any test [] = false
any test (x ∷ l) = test x or any test l

-- the test holds of each element
unfoldable pub all : {A : Type 0} → (A → Bool) → List A → Bool
all test [] = true
all test (x ∷ l) = test x and all test l

-- the elements for which the test holds, in their order
unfoldable pub keep : {A : Type 0} → (A → Bool) → List A → List A
keep test [] = []
keep test (x ∷ l) = choose (test x) (x ∷ keep test l) (keep test l)

-- the first element for which the test holds
unfoldable pub first_of : {A : Type 0} → (A → Bool) → List A → Option A
first_of test [] = none
first_of test (x ∷ l) = let later = first_of test l in choose (test x) (some x) later

-- x is that one: the test holds of it, and of none before it
pub record IsFirst {A : Type 0} (test : A → Bool) (l : List A) (x : A) : Type 0 where
  pub before : List A
  pub after : List A
  pub stands : l ≡ before ++ (x ∷ after)
  pub passes : T (test x)
  pub none_before : Each (λ y. T (test y) → ⊥) before

-- of the `count` numbers from `start` on, the first for which the test holds
unfoldable pub first_from : (ℕ → Bool) → ℕ → ℕ → Option ℕ
first_from test zero start = none
first_from test (suc count) start = let later = first_from test count (suc start) in choose (test start) (some start) later

-- the number that was found, or the other where there is none
unfoldable pub or_else : Option ℕ → ℕ → ℕ
or_else none other = other
or_else (some found) other = found

-- the test holds of each of the `count` numbers from `start` on
unfoldable pub each_from : (ℕ → Bool) → ℕ → ℕ → Bool
each_from test zero start = true
each_from test (suc count) start = let later = each_from test count (suc start) in test start and later
