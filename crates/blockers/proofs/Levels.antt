-- Levels compared, and the test whether a blocker covers a case. Assumes nothing.
use Rattle.std.proofs.Common.{Less, Equal, Greater, is_le, nat_cmp}
use Rattle.std.specs.Cmp.{nat_cmp_is}
use Prim.Native.Nat.{ℕ, ◌≤◌}
use mathlib.Core.Path.{◌≡◌, refl, sym, ap, ◌∙◌}
use mathlib.Core.Bool.{Bool, true, false, ◌&&◌}
use native.Mathlib.Decide.{ℕ_discrete, dec_le}
use native.Mathlib.Omega.{arith}
use borrow.Author.Tests.{le-leb, lt-leb}
use lib.Dec.{leb}
use Rattle.lists.specs.Tests.{◌and◌}
use Rattle.masks.specs.Sets.{subset}
use Rattle.machine.specs.Machine.{covers}
use Rattle.machine.specs.Lent.{blocker_of}

-- a level is another or below it, by the order of the two
pub at_most : (a b : ℕ) → is_le (nat_cmp a b) ≡ leb a b
at_most a b = by (dec_le a b) (ℕ_discrete a b)
  where
    by : Dec (a ≤ b) → Dec (a ≡ b) → is_le (nat_cmp a b) ≡ leb a b
    by (yes l) (yes e) = ap is_le (sym (nat_cmp_is a b Equal e)) ∙ sym (le-leb a b l)
    by (yes l) (no n) = ap is_le (sym (nat_cmp_is a b Less (omega arith))) ∙ sym (le-leb a b l)
    by (no l) (yes e) = absurd (omega arith)
    by (no l) (no n) = ap is_le (sym (nat_cmp_is a b Greater (omega arith))) ∙ sym (lt-leb a b (omega arith))

-- a blocker covers a case if its level is the least or more and the case is inside
pub covering : (mask level least case : ℕ) (high inside : Bool) → high ≡ is_le (nat_cmp least level) → inside ≡ subset case mask
    → high && inside ≡ covers least case (blocker_of mask level)
unfolding covers ◌and◌
covering mask level least case high inside h i = rw (h, at_most least level, i) (joined (leb least level) (subset case mask))
  where
    joined : (a b : Bool) → a && b ≡ a and b
    joined true b = refl
    joined false b = refl
