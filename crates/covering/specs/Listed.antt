-- The blockers that cover a set, listed by their masks: what covers a larger set is among them. Lists stand one behind the other in one table, and a place in it
-- may be none: that a list found no room. Assumes nothing: these are definitions.
use Rattle.std.specs.Prelude.{ℕ, suc, ◌≤◌, ◌<◌, ◌≡◌, Bool, List, T, leb, length, get_or, slice_range, Option, Some, None}
use Rattle.lists.specs.Tests.{◌and◌, ◌or◌, choose}
use Rattle.lists.specs.Lists.{any}
use Rattle.masks.specs.Sets.{subset}
use Rattle.machine.specs.Machine.{Blocker, covers, blocked}

-- one of the masks contains the case
unfoldable pub one_holds : List ℕ → ℕ → Bool
one_holds list case = any (subset case) list

-- the list between two places of the table, where both are there
unfoldable pub part : List ℕ → Option ℕ → Option ℕ → Option (List ℕ)
part near None to = None
part near (Some from) None = None
part near (Some from) (Some to) = choose (leb from to and leb to (length near)) (Some (slice_range near from to)) None

-- A place is not behind another: each is before none.
pub data UpTo : Option ℕ → Option ℕ → Type 0 where
  in_order : {from to : ℕ} → from ≤ to → UpTo (Some from) (Some to)
  nowhere : {from : Option ℕ} → UpTo from None

-- The mask of a blocker joins the list that ends at `end`, if it covers P: one of the list then contains a larger case exactly if one did or the blocker
-- covers it. No end says that it found no room.
pub record ListedOne (below P : ℕ) (blocker : Blocker) (before near : List ℕ) (end : ℕ) (end' : Option ℕ) : Type 0 where
  pub low : (to : ℕ) → end' ≡ Some to → end ≤ to
  pub kept : (j : ℕ) → j < end → get_or near j 0 ≡ get_or before j 0
  pub holds : (to : ℕ) → end' ≡ Some to → (from : ℕ) → from ≤ end → (case : ℕ) → T (subset P case)
      → one_holds (slice_range near from to) case ≡ one_holds (slice_range before from end) case or covers below case blocker

-- The masks of what covers P stand from `from` to `to`, and those before them as they were: one of them contains a larger case exactly if a blocker covers it.
pub record Listed (table : List Blocker) (below P : ℕ) (before near : List ℕ) (from to : Option ℕ) : Type 0 where
  pub low : UpTo from to
  pub kept : (j : ℕ) → UpTo (Some (suc j)) from → get_or near j 0 ≡ get_or before j 0
  pub holds : (list : List ℕ) → part near from to ≡ Some list → (case : ℕ) → T (subset P case) → one_holds list case ≡ any (covers below case) table

-- whether a case is blocked is told by the list, where there is one
abbrev pub Tells : ℕ → List Blocker → ℕ → Option (List ℕ) → ℕ → Type 0
Tells initial table below listed case = (list : List ℕ) → listed ≡ Some list → one_holds list case ≡ blocked initial table below case
