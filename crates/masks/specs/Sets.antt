-- Sets of states as numbers: 01's "A case is a set of states, written as a mask: bit q stands for state q".
-- Tests that compute; what each means of the states is promised (`MasksMean`). Nothing here has a width: the laws hold for every n.
-- Assumes nothing.
use Rattle.std.specs.Prelude.{ℕ, ◌-◌, ◌/◌, ◌%◌, ◌^◌, ◌≡◌, Bool, eqb, ltb}
use Rattle.std.proofs.Math.Option.{Option}
use Rattle.std.specs.Int.Bits.{bit_and, bit_or, bit_xor}
use Rattle.lists.specs.Tests.{◌and◌, neg}
use Rattle.lists.specs.Lists.{first_from}

-- binary digit q of a number
abbrev pub digit : ℕ → ℕ → ℕ
digit set q = set / 2 ^ q % 2

-- state q is in the set: bit q is 1
abbrev pub Member : ℕ → ℕ → Type 0
Member q set = digit set q ≡ 1

-- the test whether state q is in the set
unfoldable pub member : ℕ → ℕ → Bool
member q set = eqb (digit set q) 1

-- the test whether each state of the first set is in the second
unfoldable pub subset : ℕ → ℕ → Bool
subset a b = eqb (bit_and a b) a

-- the states of either set
unfoldable pub union : ℕ → ℕ → ℕ
union a b = bit_or a b

-- the states of the first set that are not in the second
unfoldable pub without : ℕ → ℕ → ℕ
without a b = bit_xor (bit_and a b) a

-- the set of state q alone
unfoldable pub single : ℕ → ℕ
single q = 2 ^ q

-- the set of all n states
unfoldable pub full : ℕ → ℕ
full n = 2 ^ n - 1

-- the test whether the set has no bit at n or above
unfoldable pub within : ℕ → ℕ → Bool
within n set = ltb set (2 ^ n)

-- the test whether state q is in the first set and absent from the second
unfoldable pub absent : ℕ → ℕ → ℕ → Bool
absent a b q = member q a and neg (member q b)

-- the lowest state that is in the first set and absent from the second; a state's number is lower than that of a set which has it
unfoldable pub lowest_absent : ℕ → ℕ → Option ℕ
lowest_absent a b = first_from (absent a b) a 0
