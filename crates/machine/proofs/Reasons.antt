-- What the reason means why a case is blocked: there is one exactly if the case is blocked, the blocker is the first that covers the case, and the state is
-- the lowest initial one absent. Assumes nothing.
use Prim.Native.Nat.{ℕ, zero, suc, ◌+◌, ◌≤◌}
use mathlib.Core.Path.{◌≡◌, refl, sym, ap, subst, ◌∙◌}
use mathlib.Core.Bool.{Bool, true, false}
use mathlib.Core.List.{List, [], ◌∷◌, ◌++◌}
use mathlib.Core.Logic.{◌↔◌}
use mathlib.Core.Option.{Option, none, some}
use native.Mathlib.Nat.{add-zero}
use native.Mathlib.Omega.{arith}
use lib.Dec.{T}
use lib.ListN.{length}
use Rattle.lists.specs.Tests.{◌or◌, neg, choose}
use Rattle.lists.specs.Lists.{any}
use Rattle.lists.proofs.Tests.{holds, fails, is_true, is_false, or_neither, choose_true, choose_false}
use Rattle.lists.proofs.Lists.{in_none, each_more}
use Rattle.masks.specs.Sets.{subset, lowest_absent}
use Rattle.masks.proofs.Laws.{absent_means, not_absent, one_absent, lowest_found, none_found}
use Rattle.machine.specs.Machine.{Blocker, covers, blocked}
use Rattle.machine.specs.Why.{Reason, by_blocker, by_start, nothing, first_covering, absent_reason, why, is_reason, FirstCovering, LowestAbsent}
use Rattle.machine.specs.Promises.{WhyPromises}

-- the first blocker of a table covers the case, or the search goes on behind it
pub first_covers : (i X place : ℕ) (blocker : Blocker) (table : List Blocker) → covers i X blocker ≡ true
    → first_covering i X place (blocker ∷ table) ≡ by_blocker place blocker.level
unfolding first_covering
first_covers i X place blocker table e = choose_true _ _ e

pub first_misses : (i X place : ℕ) (blocker : Blocker) (table : List Blocker) → covers i X blocker ≡ false
    → first_covering i X place (blocker ∷ table) ≡ first_covering i X (suc place) table
unfolding first_covering
first_misses i X place blocker table e = choose_false _ _ e

-- where none of the first blockers covers the case, it goes on behind them
pub first_behind : (i X place : ℕ) (first rest : List Blocker) → any (covers i X) first ≡ false
    → first_covering i X place (first ++ rest) ≡ first_covering i X (place + length first) rest
unfolding any
first_behind i X place [] rest f = ap (λ (k : ℕ). first_covering i X k rest) (sym (add-zero place))
first_behind i X place (blocker ∷ first) rest f =
    let misses = or_neither (covers i X blocker) (any (covers i X) first) f in
    first_misses i X place blocker (first ++ rest) misses.0 ∙ first_behind i X (suc place) first rest misses.1
    ∙ ap (λ (k : ℕ). first_covering i X k rest) (behind (length first))
  where
    behind : (count : ℕ) → suc place + count ≡ place + suc count
    behind count = omega arith

-- it finds one exactly if there is one
pub covering_any : (i X place : ℕ) (table : List Blocker) → is_reason (first_covering i X place table) ≡ any (covers i X) table
unfolding is_reason first_covering any ◌or◌ choose
covering_any i X place [] = refl
covering_any i X place (blocker ∷ table) = at (covering_any i X (suc place) table) (covers i X blocker)
  where
    at : is_reason (first_covering i X (suc place) table) ≡ any (covers i X) table → (b : Bool)
        → is_reason (choose b (by_blocker place blocker.level) (first_covering i X (suc place) table)) ≡ b or any (covers i X) table
    at rec true = refl
    at rec false = rec

-- an initial state is absent exactly if the case does not contain I
absent_any : (initial X : ℕ) → is_reason (absent_reason (lowest_absent initial X)) ≡ neg (subset initial X)
unfolding is_reason absent_reason neg
absent_any initial X = at (lowest_absent initial X) refl
  where
    at : (found : Option ℕ) → lowest_absent initial X ≡ found → is_reason (absent_reason found) ≡ neg (subset initial X)
    at none e = sym (ap neg {x = subset initial X} (is_true (subset initial X) (none_found initial X e)))
    at (some q) e = sym (ap neg {x = subset initial X} (is_false (subset initial X) (one_absent initial X q (lowest_found initial X q e).0)))

-- the one law: a case is blocked exactly if there is a reason
pub blocked_by_reason : (initial : ℕ) (table : List Blocker) (i X : ℕ) → is_reason (why initial table i X) ≡ blocked initial table i X
unfolding why blocked
blocked_by_reason initial table zero X = absent_any initial X
blocked_by_reason initial table (suc i) X = covering_any (suc i) X 0 table

-- the blocker that is found, its place counted from `from`
record Found (table : List Blocker) (i X from place level : ℕ) : Type 0 where
  at : ℕ
  counted : place ≡ from + at
  first : FirstCovering table i X at level

-- among one blocker more, which does not cover the case
one_before : {table : List Blocker} {i X at level : ℕ} (blocker : Blocker) → covers i X blocker ≡ false → FirstCovering table i X at level
    → FirstCovering (blocker ∷ table) i X (suc at) level
one_before blocker misses r = record {
  blocker = r.blocker;
  first = record {
    before = blocker ∷ r.first.before;
    after = r.first.after;
    stands = ap (λ (rest : List Blocker). blocker ∷ rest) r.first.stands;
    passes = r.first.passes;
    none_before = each_more (fails misses) r.first.none_before;
  };
  counted = ap suc r.counted;
  its_level = r.its_level;
}

covering_first : (i X from : ℕ) (table : List Blocker) (place level : ℕ) → first_covering i X from table ≡ by_blocker place level
    → Found table i X from place level
unfolding first_covering
covering_first i X from [] place level e = let z : ◌≡◌ {A = ℕ} 0 1 = cc in absurd (omega arith)
covering_first i X from (blocker ∷ table) place level e = step (covering_first i X (suc from) table place level) (covers i X blocker) refl
  where
    step : (first_covering i X (suc from) table ≡ by_blocker place level → Found table i X (suc from) place level)
        → (b : Bool) → covers i X blocker ≡ b → Found (blocker ∷ table) i X from place level
    step rec true q =
        let same : by_blocker from blocker.level ≡ by_blocker place level = sym (choose_true _ _ q) ∙ e in
        let here : from ≡ place = cc in
        let its : blocker.level ≡ level = cc in
        record {
          at = 0;
          counted = omega arith;
          first = record {
            blocker = blocker;
            first = record { before = []; after = table; stands = refl; passes = holds q; none_before = λ earlier m. absurd (in_none m) };
            counted = refl;
            its_level = sym its;
          };
        }
    step rec false q =
        let r = rec (sym (choose_false _ _ q) ∙ e) in
        record { at = suc r.at; counted = omega (arith, r.counted); first = one_before blocker q r.first }

-- a walk over blockers finds no state, and the search for a state no blocker
covering_no_state : (i X from : ℕ) (table : List Blocker) (q : ℕ) → first_covering i X from table ≡ by_start q → ⊥
unfolding first_covering
covering_no_state i X from [] q e = let z : ◌≡◌ {A = ℕ} 0 1 = cc in omega arith
covering_no_state i X from (blocker ∷ table) q e = step (covering_no_state i X (suc from) table q) (covers i X blocker) refl
  where
    step : (first_covering i X (suc from) table ≡ by_start q → ⊥) → (b : Bool) → covers i X blocker ≡ b → ⊥
    step rec true r =
        let same : by_blocker from blocker.level ≡ by_start q = sym (choose_true _ _ r) ∙ e in
        let z : ◌≡◌ {A = ℕ} 0 1 = cc in
        omega arith
    step rec false r = rec (sym (choose_false _ _ r) ∙ e)

absent_no_blocker : (found : Option ℕ) (place level : ℕ) → absent_reason found ≡ by_blocker place level → ⊥
unfolding absent_reason
absent_no_blocker none place level e = let z : ◌≡◌ {A = ℕ} 0 1 = cc in omega arith
absent_no_blocker (some q) place level e = let z : ◌≡◌ {A = ℕ} 0 1 = cc in omega arith

-- the state that is found
lowest_is : (initial X q : ℕ) (found : Option ℕ) → lowest_absent initial X ≡ found → absent_reason found ≡ by_start q → LowestAbsent initial X q
unfolding absent_reason
lowest_is initial X q none e r = let z : ◌≡◌ {A = ℕ} 0 1 = cc in absurd (omega arith)
lowest_is initial X q (some s) e r =
    let same : s ≡ q = cc in
    let found = lowest_found initial X q (e ∙ ap (λ (x : ℕ). some x) same) in
    let lacking = (absent_means initial X q).0 found.0 in
    record {
      initially = lacking.0;
      lacking = lacking.1;
      lowest = λ p l m. not_absent initial X p m (found.1 p l);
    }

by_blocker_lem : (initial : ℕ) (table : List Blocker) (i X place level : ℕ) → why initial table i X ≡ by_blocker place level
    → (1 ≤ i) × FirstCovering table i X place level
unfolding why
by_blocker_lem initial table zero X place level e = absurd (absent_no_blocker (lowest_absent initial X) place level e)
by_blocker_lem initial table (suc i) X place level e =
    let found = covering_first (suc i) X 0 table place level e in
    let counted : found.at ≡ place = omega (arith, found.counted) in
    (omega arith, subst (λ (k : ℕ). FirstCovering table (suc i) X k level) counted found.first)

by_start_lem : (initial : ℕ) (table : List Blocker) (i X q : ℕ) → why initial table i X ≡ by_start q → (i ≡ 0) × LowestAbsent initial X q
unfolding why
by_start_lem initial table zero X q e = (refl, lowest_is initial X q (lowest_absent initial X) refl e)
by_start_lem initial table (suc i) X q e = absurd (covering_no_state (suc i) X 0 table q e)

-- there is no reason exactly if the answer is nothing
reason_nothing : (reason : Reason) → (reason ≡ nothing) ↔ (T (is_reason reason) → ⊥)
unfolding is_reason
reason_nothing (by_blocker place level) = (λ e. let z : ◌≡◌ {A = ℕ} 0 1 = cc in absurd (omega arith), λ f. absurd (f tt))
reason_nothing (by_start q) = (λ e. let z : ◌≡◌ {A = ℕ} 0 1 = cc in absurd (omega arith), λ f. absurd (f tt))
reason_nothing nothing = (λ e t. t, λ f. refl)

pub why_tells : (initial : ℕ) (table : List Blocker) (i X : ℕ) → WhyPromises initial table i X (why initial table i X)
why_tells initial table i X =
    let same = blocked_by_reason initial table i X in
    let none = reason_nothing (why initial table i X) in
    record {
      by_blocker = by_blocker_lem initial table i X;
      by_start = by_start_lem initial table i X;
      none_exactly = (λ e. rw same at (none.0 e), λ f. none.1 (rw same f));
    }
