-- What the searches of a close answer, what its index lists, and what a rise leaves of the levels while nothing closes up. Assumes nothing: these are
-- definitions.
use Rattle.std.specs.Prelude.{ℕ, suc, ◌+◌, ◌%◌, ◌≤◌, ◌<◌, ◌≡◌, Bool, true, false, List, leb, length, get_or, drop, Option, MatchOption}
use Rattle.lists.specs.Tests.{◌and◌, choose}
use Rattle.masks.specs.Sets.{subset, without}
use Rattle.indexing.specs.declared.index.Index as Struct

-- where the answer is no, none of the `count` entries from `at` on passes the test
pub record NoneOf (test : ℕ → Bool) (table : List ℕ) (at count : ℕ) (answer : Bool) : Type 0 where
  pub none : answer ≡ false → (i : ℕ) → at ≤ i → i < at + count → test (get_or table i 0) ≡ false

-- none of the entries from `from` up to r passes the test
pub record Passed (test : ℕ → Bool) (table : List ℕ) (from to r : ℕ) : Type 0 where
  pub begins : from ≤ r
  pub within : r ≤ to
  pub passed : (i : ℕ) → from ≤ i → i < r → test (get_or table i 0) ≡ false

-- r is the first place from `from` on and before `to` whose entry passes the test
pub record First (test : ℕ → Bool) (table : List ℕ) (from to r : ℕ) : Type 0 where
  pub before : Passed test table from to r
  pub below : r < to
  pub passes : test (get_or table r 0) ≡ true

-- the answer is that place, or nothing where no entry from `from` on and before `to` passes the test
abbrev pub Finds : (ℕ → Bool) → List ℕ → ℕ → ℕ → Option ℕ → Type 0
Finds test table from to answer = MatchOption answer (Passed test table from to to) (First test table from to)

-- the place p is among the first `end` that are listed
pub record Listed (places : List ℕ) (end p : ℕ) : Type 0 where
  pub at : ℕ
  pub below : at < end
  pub there : get_or places at 0 ≡ p

-- The first `end` entries list places of blockers held, each with the low half of its mask, and every place before `upto` of this level or more is among them.
pub record Index (level held upto end : ℕ) (masks levels low places : List ℕ) : Type 0 where
  pub in_masks : held ≤ length masks
  pub in_levels : held ≤ length levels
  pub in_low : end ≤ length low
  pub in_places : end ≤ length places
  pub within : upto ≤ held
  pub held_places : (i : ℕ) → i < end → get_or places i 0 < held
  pub halves : (i : ℕ) → i < end → get_or low i 0 ≡ get_or masks (get_or places i 0) 0 % 4294967296
  pub every : (p : ℕ) → p < upto → level ≤ get_or levels p 0 → Listed places end p

-- the same of an index as the code has it, where as many blockers are held as there are masks
abbrev pub Lists : {N : ℕ} → ℕ → List ℕ → List ℕ → Struct.Index N → Type 0
Lists level masks levels index = Index level (length masks) index.upto index.end masks levels index.low index.places

-- the states below 32 that a mask lacks
abbrev pub lack_of : ℕ → ℕ
lack_of mask = without 4294967295 mask % 4294967296

-- a table has for each of the first `held` masks, as far as it reaches, what the mask lacks
pub record Noted (held : ℕ) (masks lacks : List ℕ) : Type 0 where
  pub each : (i : ℕ) → i < held → i < length lacks → get_or lacks i 0 ≡ lack_of (get_or masks i 0)

-- the level of a blocker once Y, of this mask and level, has risen: 0 where it leaves for Y
unfoldable pub sunk_level : ℕ → ℕ → ℕ → ℕ → ℕ
sunk_level Ymask Ylevel mask level = choose (leb level Ylevel and subset mask Ymask) 0 level

-- the first `held` levels once those that leave for a blocker of this mask and level have sunk to 0; all else is as before
pub record Sunk (mask level held : ℕ) (masks levels levels' : List ℕ) : Type 0 where
  pub behind : drop held levels' ≡ drop held levels
  pub each : (i : ℕ) → i < held → get_or levels' i 0 ≡ sunk_level mask level (get_or masks i 0) (get_or levels i 0)

-- the first `held` levels once the blocker at `place` has risen and the others that leave for it have sunk to 0; all else is as before
pub record RisenIn (place held : ℕ) (masks levels levels' : List ℕ) : Type 0 where
  pub behind : drop held levels' ≡ drop held levels
  pub risen : get_or levels' place 0 ≡ suc (get_or levels place 0)
  pub others : (i : ℕ) → i < held → (i ≡ place → ⊥)
      → get_or levels' i 0 ≡ sunk_level (get_or masks place 0) (suc (get_or levels place 0)) (get_or masks i 0) (get_or levels i 0)
