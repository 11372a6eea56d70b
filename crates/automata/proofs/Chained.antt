-- Checks one after the other, the first that applies answering its number: what they answer by their tests, and what the tests were if none applies. Assumes
-- nothing.
use Prim.Native.Nat.{ℕ, zero, suc}
use mathlib.Core.Path.{◌≡◌, refl}
use mathlib.Core.Bool.{Bool, true, false}
use native.Mathlib.Omega.{arith}
use Rattle.lists.proofs.Tests.{tests, facts}
use Rattle.automata.specs.Image.{check}

-- a check that applies answers its number; past one that does not, the later ones answer
pub applies : (b : Bool) (number later : ℕ) → b ≡ true → number ≡ check b number later
unfolding check
applies b number later e = rw e

pub passes : (b : Bool) (number later answer : ℕ) → b ≡ false → answer ≡ later → answer ≡ check b number later
unfolding check
passes b number later answer e q = rw e q

-- what they answer, from the facts that the tests on the way left
pub ruleset checks = (applies, passes, tests)

-- P, of a number other than 0
abbrev pub Numbered : ℕ → Type 0 → Type 0
Numbered zero P = Unit
Numbered (suc number) P = P

-- where the answer is 0, a check with a number did not apply, and no later one did
pub test_failed : (b : Bool) (number later : ℕ) → check b number later ≡ 0 → Numbered number (b ≡ false)
unfolding check
test_failed b zero later e = tt
test_failed true (suc number) later e = absurd (omega arith)
test_failed false (suc number) later e = refl

pub later_none : (b : Bool) (number later : ℕ) → check b number later ≡ 0 → Numbered number (later ≡ 0)
unfolding check
later_none b zero later e = tt
later_none true (suc number) later e = absurd (omega arith)
later_none false (suc number) later e = e

-- those facts, from the answer 0
pub ruleset passed = (test_failed, later_none, facts)
