-- What is left of cases once X's states are taken away: equal sets count once, empty ones not at all. Assumes nothing.
use Prim.Native.Nat.{ℕ, ◌≤◌}
use mathlib.Core.Path.{◌≡◌, refl, sym, subst}
use mathlib.Core.List.{List, [], ◌∷◌, ◌++◌}
use mathlib.Core.Logic.{◌⊎◌, inl, inr}
use native.Mathlib.Omega.{arith}
use lib.Dec.{T, eqb, eqb→eq, eqb_refl}
use lib.ListN.{length, length-append}
use Rattle.lists.specs.Lists.{◌∈◌, here, there, Each, any}
use Rattle.lists.proofs.Tests.{holds, fails, or_cases, or_left, or_right, choose_either}
use Rattle.lists.proofs.Lists.{in_none, in_left, in_right, each_more, each_joined, any_some, some_any}
use Rattle.lists.proofs.Pairs.{nil}
use Rattle.lists.proofs.Counting.{Distinct, distinct_more, distinct_once, distinct_few}
use Rattle.masks.specs.Sets.{without}
use Rattle.machine.specs.Lent.{column}
use Rattle.machine.specs.Hitting.{with_set, with_cases}
use Rattle.machine.specs.Promises.{CountedOnce}
use Rattle.machine.proofs.LentTables.{column_length, in_column}

-- withSet: the sets stay, and the set stands behind them if it is neither empty nor one of them
module _ (sets : List ℕ) (set : ℕ) where
  -- so they stay distinct
  with_set_distinct : Distinct sets → Distinct (with_set sets set)
  unfolding with_set
  with_set_distinct h =
      choose_either Distinct _ (λ t. h) (λ f. distinct_more h (λ m. fails f (or_right _ _ (some_any _ sets set m (eqb_refl set)))))

  -- what holds of each of them and of the set, if it is not empty, holds of each
  with_set_each : {P : ℕ → Type 0} → Each P sets → ((set ≡ 0 → ⊥) → P set) → Each P (with_set sets set)
  unfolding with_set
  with_set_each {P} h new =
      choose_either (Each P) _ (λ t. h)
      (λ f. each_joined sets h (each_more (new (λ e. fails f (or_left _ _ (subst (λ (x : ℕ). T (eqb x 0)) (sym e) tt)))) (λ x m. absurd (in_none m))))

  -- who was there stays
  with_set_old : {x : ℕ} → x ∈ sets → x ∈ with_set sets set
  unfolding with_set
  with_set_old {x} m = choose_either (λ (l : List ℕ). x ∈ l) _ (λ t. m) (λ f. in_left (set ∷ []) m)

  -- and the set is there, if it is not empty
  with_set_new : (set ≡ 0 → ⊥) → set ∈ with_set sets set
  unfolding with_set
  with_set_new some_state = choose_either (λ (l : List ℕ). set ∈ l) _ (λ t. among (or_cases _ _ (holds t))) (λ f. in_right sets (here refl))
    where
      among : T (eqb set 0) ⊎ T (any (eqb set) sets) → set ∈ sets
      among (inl t) = absurd (some_state (eqb→eq set 0 t))
      among (inr t) =
          let r = any_some (eqb set) sets t in
          subst (λ (x : ℕ). x ∈ sets) (sym (eqb→eq set r.element r.passes)) r.listed

  -- none leaves
  with_set_longer : length sets ≤ length (with_set sets set)
  unfolding with_set
  with_set_longer =
      choose_either (λ (l : List ℕ). length sets ≤ length l) _ (λ t. omega arith) (λ f. omega (arith, length-append sets (set ∷ [])))

-- with_cases: the same of one case after the other
module _ (X : ℕ) where
  with_cases_distinct : (sets cases : List ℕ) → Distinct sets → Distinct (with_cases X sets cases)
  unfolding with_cases
  with_cases_distinct sets [] h = h
  with_cases_distinct sets (case ∷ cases) h =
      with_cases_distinct (with_set sets (without case X)) cases (with_set_distinct sets (without case X) h)

  pub with_cases_each : {P : ℕ → Type 0} (sets cases : List ℕ) → Each P sets → Each (λ case. (without case X ≡ 0 → ⊥) → P (without case X)) cases
      → Each P (with_cases X sets cases)
  unfolding with_cases
  with_cases_each sets [] h new = h
  with_cases_each sets (case ∷ cases) h new =
      with_cases_each (with_set sets (without case X)) cases (with_set_each sets (without case X) h (new case (here refl)))
      (λ later m. new later (there m))

  with_cases_old : (sets cases : List ℕ) {x : ℕ} → x ∈ sets → x ∈ with_cases X sets cases
  unfolding with_cases
  with_cases_old sets [] m = m
  with_cases_old sets (case ∷ cases) m = with_cases_old (with_set sets (without case X)) cases (with_set_old sets (without case X) m)

  pub with_cases_new : (sets cases : List ℕ) {case : ℕ} → case ∈ cases → (without case X ≡ 0 → ⊥) → without case X ∈ with_cases X sets cases
  unfolding with_cases
  with_cases_new sets [] m f = absurd (in_none m)
  with_cases_new sets (first ∷ cases) {case} (here e) f =
      with_cases_old (with_set sets (without first X)) cases
      (subst (λ (c : ℕ). without case X ∈ with_set sets (without c X)) e (with_set_new sets (without case X) f))
  with_cases_new sets (first ∷ cases) (there m) f = with_cases_new (with_set sets (without first X)) cases m f

  -- the cases in two parts
  pub with_cases_joined : (sets a b : List ℕ) → with_cases X sets (a ++ b) ≡ with_cases X (with_cases X sets a) b
  unfolding with_cases
  with_cases_joined sets [] b = refl
  with_cases_joined sets (case ∷ a) b = with_cases_joined (with_set sets (without case X)) a b

  -- none leaves
  pub with_cases_longer : (sets cases : List ℕ) → length sets ≤ length (with_cases X sets cases)
  unfolding with_cases
  with_cases_longer sets [] = omega arith
  with_cases_longer sets (case ∷ cases) =
      omega (arith, with_set_longer sets (without case X), with_cases_longer (with_set sets (without case X)) cases)

  -- each of a list's cases leaves one set at most, however often it is met
  pub all_few : (all cases : List ℕ) → Each (λ case. case ∈ all) cases → length (with_cases X [] cases) ≤ length all
  all_few all cases from =
      omega (
        arith,
        column_length (λ case. without case X) all,
        distinct_few (column (λ case. without case X) all) (with_cases_distinct [] cases nil)
            (with_cases_each [] cases (λ x m. absurd (in_none m)) (λ case m f. in_column (λ case. without case X) (from case m))),
      )

  -- "equal ones count once, empty ones not at all"
  pub counts_once : (cases : List ℕ) → CountedOnce X cases (with_cases X [] cases)
  counts_once cases = record {
    left_of_case = with_cases_each [] cases (λ x m. absurd (in_none m)) (λ case m f. some_any _ cases case m (eqb_refl (without case X)));
    none_empty = λ m. with_cases_each {P = λ x. x ≡ 0 → ⊥} [] cases (λ x m. absurd (in_none m)) (λ case m f. f) 0 m refl;
    once = λ case m f. distinct_once (without case X) (with_cases_distinct [] cases nil) (with_cases_new [] cases m f);
  }
