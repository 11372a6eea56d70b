-- Why a case is blocked at a level (02, 2): the answer for every table, and what it means. Assumes nothing: these are definitions.
use Rattle.std.specs.Prelude.{ℕ, zero, suc, ◌<◌, ◌≡◌, Bool, true, false, List, [], ◌∷◌, length}
use Rattle.std.proofs.Math.Option.{Option, none, some}
use Rattle.lists.specs.Tests.{choose}
use Rattle.lists.specs.Lists.{IsFirst}
use Rattle.masks.specs.Sets.{Member, lowest_absent}
use Rattle.machine.specs.Machine.{Blocker, covers}

-- the place of a blocker and its level; an initial state; or nothing, where the case is not blocked
pub data Reason : Type 0 where
  by_blocker : ℕ → ℕ → Reason
  by_start : ℕ → Reason
  nothing : Reason

-- there is a reason
unfoldable pub is_reason : Reason → Bool
is_reason (by_blocker place level) = true
is_reason (by_start q) = true
is_reason nothing = false

-- "the place, from 0, of the first covering blocker in table order and its level": of a table whose first blocker stands at `place`
unfoldable pub first_covering : ℕ → ℕ → ℕ → List Blocker → Reason
first_covering i X place [] = nothing
first_covering i X place (blocker ∷ table) =
    let later = first_covering i X (suc place) table in choose (covers i X blocker) (by_blocker place blocker.level) later

-- "at level 0, the lowest initial state absent"
unfoldable pub absent_reason : Option ℕ → Reason
absent_reason none = nothing
absent_reason (some q) = by_start q

-- "why a case is blocked at a level"
unfoldable pub why : ℕ → List Blocker → ℕ → ℕ → Reason
why initial table zero X = absent_reason (lowest_absent initial X)
why initial table (suc i) X = first_covering (suc i) X 0 table

-- "the first covering blocker in table order": the blocker at the place covers the case, none before it does, and the level is its own
pub record FirstCovering (table : List Blocker) (i X place level : ℕ) : Type 0 where
  pub blocker : Blocker
  pub first : IsFirst (covers i X) table blocker
  pub counted : place ≡ length first.before
  pub its_level : level ≡ blocker.level

-- "the lowest initial state absent": it is initial and not in the case, and no lower one is so
pub record LowestAbsent (initial X q : ℕ) : Type 0 where
  pub initially : Member q initial
  pub lacking : Member q X → ⊥
  pub lowest : (p : ℕ) → p < q → Member p initial → Member p X
