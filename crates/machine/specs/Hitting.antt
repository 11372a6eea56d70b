-- The second way to grow a blocker: through a hitting set, over the rows of each symbol. The order is that of 02, 7, and each definition carries its
-- sentence. Assumes nothing: these are definitions.
use Rattle.std.specs.Prelude.{ℕ, zero, suc, List, [], ◌∷◌, ◌++◌, eqb, ltb, length, get_or}
use Rattle.lists.specs.Tests.{◌or◌, neg, choose}
use Rattle.lists.specs.Lists.{any, keep}
use Rattle.masks.specs.Sets.{subset, union, without, single, member, full}
use Rattle.automata.specs.Image.{Row}
use Rattle.machine.specs.System.{System}
use Rattle.machine.specs.Machine.{Blocker, Growth, by_states}
use Rattle.machine.specs.Why.{Reason, by_blocker, by_start, nothing, why}
use Rattle.machine.specs.Lent.{column, mask_of}

-- a row source: the rows of each symbol
abbrev pub RowSource : Type 0
RowSource = ℕ → List Row

-- those of the n states that are not in the set
abbrev pub others : ℕ → ℕ → ℕ
others n set = without (full n) set

-- "the first covering blocker (at level 0, all states but the lowest absent initial one)", by the reason why the backward set is blocked. Where it is not
-- blocked there is no block; X stands there, so that each input has its answer.
unfoldable pub cover_by : ℕ → List Blocker → ℕ → Reason → ℕ
cover_by n table X (by_blocker place level) = get_or (column mask_of table) place 0
cover_by n table X (by_start q) = others n (single q)
cover_by n table X nothing = X

-- "for each symbol let b be X if the backward set lies in X, else the first covering blocker": b, for the backward set P, where below is i−1
unfoldable pub cover : ℕ → ℕ → List Blocker → ℕ → ℕ → ℕ → ℕ
cover n initial table below X P = let covering = cover_by n table X (why initial table below P) in choose (subset P X) X covering

-- "the case of each row of that symbol whose state is outside b"
unfoldable pub cases_outside : ℕ → List Row → List ℕ
cases_outside b rows = column (λ row. row.case) (keep (λ row. neg (member row.state b)) rows)

-- of the `count` symbols from s on
unfoldable pub cases_from : System → RowSource → List Blocker → ℕ → ℕ → ℕ → ℕ → List ℕ
cases_from S rows table below X zero s = []
cases_from S rows table below X (suc count) s =
    cases_outside (cover S.states S.initial table below X (S.backward s X)) (rows s) ++ cases_from S rows table below X count (suc s)

-- "Forbidden are I and the case of each row of that symbol whose state is outside b."
unfoldable pub forbidden : System → RowSource → List Blocker → ℕ → ℕ → List ℕ
forbidden S rows table below X = S.initial ∷ cases_from S rows table below X S.symbols 0

-- "equal ones count once, empty ones not at all": the sets, and at their end this one if it is neither empty nor among them
unfoldable pub with_set : List ℕ → ℕ → List ℕ
with_set sets set = choose (eqb set 0 or any (eqb set) sets) sets (sets ++ set ∷ [])

-- "From each, X's states are taken away": the sets, and what is left of each case
unfoldable pub with_cases : ℕ → List ℕ → List ℕ → List ℕ
with_cases X sets [] = sets
with_cases X sets (case ∷ cases) = with_cases X (with_set sets (without case X)) cases

-- what is to be met: the distinct sets that are left of the forbidden cases
unfoldable pub to_meet : System → RowSource → List Blocker → ℕ → ℕ → List ℕ
to_meet S rows table below X = with_cases X [] (forbidden S rows table below X)

-- how many of the sets the state meets
unfoldable pub meets : List ℕ → ℕ → ℕ
meets sets q = length (keep (member q) sets)

-- the better of `best` and each of the `count` states from q on: a later one has to meet more
unfoldable pub best_from : List ℕ → ℕ → ℕ → ℕ → ℕ
best_from sets zero q best = best
best_from sets (suc count) q best = best_from sets count (suc q) (choose (ltb (meets sets best) (meets sets q)) q best)

-- "the state that meets most of those not yet met, lowest number on ties"
unfoldable pub best : ℕ → List ℕ → ℕ
best n sets = best_from sets n 0 0

-- the sets that the state does not meet
unfoldable pub unmet : ℕ → List ℕ → List ℕ
unmet q sets = keep (λ set. neg (member q set)) sets

-- "Pick the state that meets most of those not yet met .. until all are met": the picked states. Each meets one of the sets, so as many turns are enough as
-- there are sets.
unfoldable pub picked_from : ℕ → ℕ → List ℕ → ℕ → ℕ
picked_from n zero sets picked = picked
picked_from n (suc turns) [] picked = picked
picked_from n (suc turns) (set ∷ sets) picked =
    let q : ℕ = best n (set ∷ sets) in picked_from n turns (unmet q (set ∷ sets)) (union picked (single q))

unfoldable pub picked : ℕ → List ℕ → ℕ
picked n sets = picked_from n (length sets) sets 0

-- "the blocker is the states not picked"
unfoldable pub by_hitting_set : System → RowSource → Growth
by_hitting_set S rows table below X = others S.states (picked S.states (to_meet S rows table below X))

-- "The caller chooses, 0 for 01's way, 1 for this": the growth of a way; every other number is refused before a run begins
unfoldable pub growth_of : ℕ → System → RowSource → Growth
growth_of zero S rows = by_states S
growth_of (suc way) S rows = by_hitting_set S rows
