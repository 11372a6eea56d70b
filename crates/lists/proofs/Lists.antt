-- The laws of membership, of tests over lists and numbers, and of keeping. Assumes nothing.
use Prim.Native.Nat.{ℕ, zero, suc, ◌+◌, ◌-◌, ◌≤◌, ◌<◌}
use mathlib.Core.Path.{◌≡◌, refl, sym, ap, subst, ◌∙◌}
use mathlib.Core.Bool.{Bool, true, false}
use mathlib.Core.List.{List, [], ◌∷◌, ◌++◌}
use mathlib.Core.Logic.{◌⊎◌, inl, inr}
use mathlib.Core.Option.{Option, none, some}
use native.Mathlib.Decide.{ℕ_discrete}
use native.Mathlib.Numerals.{add-one}
use native.Mathlib.Omega.{arith}
use lib.Dec.{T}
use lib.ListN.{length, get_or, take, drop, take-append-drop, drop_of_length-le}
use lib.Seq.{drop-cons}
use Rattle.lists.specs.Tests.{◌and◌, ◌or◌, choose}
use Rattle.lists.specs.Lists.{◌∈◌, here, there, Each, any, all, keep, first_of, IsFirst, first_from, or_else, each_from}
use Rattle.lists.proofs.Tests.{holds, fails, and_left, and_right, and_both, or_cases, or_left, or_right, or_joined, decide}

module _ {A : Type 0} where
  pub in_none : {x : A} → x ∈ [] → ⊥
  in_none m = elim m [ ]

  pub in_cases : {x y : A} {l : List A} → x ∈ (y ∷ l) → (x ≡ y) ⊎ x ∈ l
  in_cases (here e) = inl e
  in_cases (there m) = inr m

  pub in_length : {x : A} {l : List A} → x ∈ l → 1 ≤ length l
  in_length (here e) = omega arith
  in_length (there m) = omega arith

  -- ++
  pub in_left : {x : A} {a : List A} (b : List A) → x ∈ a → x ∈ (a ++ b)
  in_left b (here e) = here e
  in_left b (there m) = there (in_left b m)

  pub in_right : {x : A} (a : List A) {b : List A} → x ∈ b → x ∈ (a ++ b)
  in_right [] m = m
  in_right (y ∷ a) m = there (in_right a m)

  pub in_either : {x : A} (a b : List A) → x ∈ (a ++ b) → x ∈ a ⊎ x ∈ b
  in_either [] b m = inr m
  in_either {x} (y ∷ a) b m = at (λ h. in_either a b h) (in_cases m)
    where
      at : (x ∈ (a ++ b) → x ∈ a ⊎ x ∈ b) → (x ≡ y) ⊎ x ∈ (a ++ b) → x ∈ (y ∷ a) ⊎ x ∈ b
      at rec (inl e) = inl (here e)
      at rec (inr h) = up (rec h)
        where
          up : x ∈ a ⊎ x ∈ b → x ∈ (y ∷ a) ⊎ x ∈ b
          up (inl k) = inl (there k)
          up (inr k) = inr k

  -- the elements beside one are elements, and an element is that one or beside it
  module _ {x : A} (y : A) where
    pub beside_in : (a b : List A) → x ∈ (a ++ b) → x ∈ (a ++ y ∷ b)
    beside_in [] b m = there m
    beside_in (z ∷ a) b (here e) = here e
    beside_in (z ∷ a) b (there m) = there (beside_in a b m)

    pub in_beside : (a b : List A) → x ∈ (a ++ y ∷ b) → (x ≡ y) ⊎ x ∈ (a ++ b)
    in_beside [] b m = in_cases m
    in_beside (z ∷ a) b (here e) = inr (here e)
    in_beside (z ∷ a) b (there m) = at (in_beside a b m)
      where
        at : (x ≡ y) ⊎ x ∈ (a ++ b) → (x ≡ y) ⊎ x ∈ (z ∷ a ++ b)
        at (inl e) = inl e
        at (inr k) = inr (there k)

  -- the first elements of a list: they are of it, and more of them have no fewer
  pub in_taken : {x : A} (i : ℕ) (l : List A) → x ∈ take i l → x ∈ l
  in_taken {x} i l m = subst (λ (whole : List A). x ∈ whole) (take-append-drop i l) (in_left (drop i l) m)

  pub in_more_taken : {x : A} (i j : ℕ) (l : List A) → i ≤ j → x ∈ take i l → x ∈ take j l
  in_more_taken zero j l le m = absurd (in_none m)
  in_more_taken (suc i) j [] le m = absurd (in_none m)
  in_more_taken (suc i) zero (y ∷ l) le m = absurd (omega arith)
  in_more_taken (suc i) (suc j) (y ∷ l) le (here e) = here e
  in_more_taken (suc i) (suc j) (y ∷ l) le (there m) = there (in_more_taken i j l (omega arith) m)

  -- Each: of one element more
  pub each_more : {P : A → Type 0} {x : A} {l : List A} → P x → Each P l → Each P (x ∷ l)
  each_more p f y (here e) = rw e p
  each_more p f y (there m) = f y m

  -- of two lists joined
  pub each_joined : {P : A → Type 0} (a : List A) {b : List A} → Each P a → Each P b → Each P (a ++ b)
  each_joined [] f g = g
  each_joined (x ∷ a) f g = each_more (f x (here refl)) (each_joined a (λ y m. f y (there m)) g)

  -- any: the test holds of an element of the list
  pub record Some (test : A → Bool) (l : List A) : Type 0 where
    pub element : A
    pub listed : element ∈ l
    pub passes : T (test element)

  pub any_some : (test : A → Bool) (l : List A) → T (any test l) → Some test l
  unfolding any
  any_some test [] t = absurd t
  any_some test (x ∷ l) t = at (λ u. any_some test l u) (or_cases _ _ t)
    where
      at : (T (any test l) → Some test l) → T (test x) ⊎ T (any test l) → Some test (x ∷ l)
      at rec (inl u) = record { element = x; listed = here refl; passes = u }
      at rec (inr u) = let r = rec u in record { element = r.element; listed = there r.listed; passes = r.passes }

  pub some_any : (test : A → Bool) (l : List A) (x : A) → x ∈ l → T (test x) → T (any test l)
  unfolding any
  some_any test [] x m t = absurd (in_none m)
  some_any test (y ∷ l) x m t = at (λ h. some_any test l x h t) (in_cases m)
    where
      at : (x ∈ l → T (any test l)) → (x ≡ y) ⊎ x ∈ l → T (test y or any test l)
      at rec (inl e) = or_left _ _ (rw e at t)
      at rec (inr h) = or_right _ _ (rec h)

  pub all_each : (test : A → Bool) (l : List A) → T (all test l) → Each (λ x. T (test x)) l
  unfolding all
  all_each test [] t = λ x m. absurd (in_none m)
  all_each test (y ∷ l) t = each_more (and_left _ _ t) (all_each test l (and_right _ _ t))

  pub each_all : (test : A → Bool) (l : List A) → Each (λ x. T (test x)) l → T (all test l)
  unfolding all
  each_all test [] f = tt
  each_all test (y ∷ l) f = and_both _ _ (f y (here refl)) (each_all test l (λ x m. f x (there m)))

  -- an element that fails the test, where not all pass it
  pub record Fails (test : A → Bool) (l : List A) : Type 0 where
    pub element : A
    pub listed : element ∈ l
    pub fails : T (test element) → ⊥

  pub all_or_one : (test : A → Bool) (l : List A) → T (all test l) ⊎ Fails test l
  unfolding all
  all_or_one test [] = inl tt
  all_or_one test (y ∷ l) = at (decide (test y)) (all_or_one test l)
    where
      at : T (test y) ⊎ (T (test y) → ⊥) → T (all test l) ⊎ Fails test l → T (test y and all test l) ⊎ Fails test (y ∷ l)
      at (inl t) (inl r) = inl (and_both _ _ t r)
      at (inl t) (inr r) = inr (record { element = r.element; listed = there r.listed; fails = r.fails })
      at (inr f) r = inr (record { element = y; listed = here refl; fails = f })

  -- any: of two lists joined
  pub any_append : (test : A → Bool) (a b : List A) → any test (a ++ b) ≡ any test a or any test b
  unfolding any ◌or◌
  any_append test [] b = refl
  any_append test (x ∷ a) b =
      ap (λ (later : Bool). test x or later) (any_append test a b) ∙ or_joined (test x) (any test a) (any test b)

  -- keep: exactly the elements for which the test holds
  pub keep_in : (test : A → Bool) (l : List A) {x : A} → x ∈ keep test l → x ∈ l × T (test x)
  unfolding keep choose
  keep_in test [] m = absurd (in_none m)
  keep_in test (y ∷ l) {x} m = at (λ h. keep_in test l h) (test y) refl m
    where
      at : (x ∈ keep test l → x ∈ l × T (test x)) → (b : Bool) → test y ≡ b → x ∈ choose b (y ∷ keep test l) (keep test l) → x ∈ (y ∷ l) × T (test x)
      at rec true e h = pick (in_cases h)
        where
          pick : (x ≡ y) ⊎ x ∈ keep test l → x ∈ (y ∷ l) × T (test x)
          pick (inl q) = (here q, rw q (holds e))
          pick (inr k) = let r = rec k in (there r.0, r.1)
      at rec false e h = let r = rec h in (there r.0, r.1)

  pub in_keep : (test : A → Bool) (l : List A) {x : A} → x ∈ l → T (test x) → x ∈ keep test l
  unfolding keep choose
  in_keep test [] m t = absurd (in_none m)
  in_keep test (y ∷ l) {x} m t = at (λ h. in_keep test l h t) (test y) refl (in_cases m)
    where
      at : (x ∈ l → x ∈ keep test l) → (b : Bool) → test y ≡ b → (x ≡ y) ⊎ x ∈ l → x ∈ choose b (y ∷ keep test l) (keep test l)
      at rec true e (inl q) = here q
      at rec true e (inr h) = there (rec h)
      at rec false e (inl q) = absurd (fails e (rw q at t))
      at rec false e (inr h) = rec h

  pub keep_length : (test : A → Bool) (l : List A) → length (keep test l) ≤ length l
  unfolding keep choose
  keep_length test [] = omega arith
  keep_length test (y ∷ l) = at (test y) (keep_length test l)
    where
      at : (b : Bool) → length (keep test l) ≤ length l → length (choose b (y ∷ keep test l) (keep test l)) ≤ length (y ∷ l)
      at true h = omega arith
      at false h = omega arith

  pub keep_append : (test : A → Bool) (a b : List A) → keep test (a ++ b) ≡ keep test a ++ keep test b
  unfolding keep choose
  keep_append test [] b = refl
  keep_append test (x ∷ a) b = at (test x) (keep_append test a b)
    where
      at : (t : Bool) → keep test (a ++ b) ≡ keep test a ++ keep test b
          → choose t (x ∷ keep test (a ++ b)) (keep test (a ++ b)) ≡ choose t (x ∷ keep test a) (keep test a) ++ keep test b
      at true e = ap (λ (l : List A). x ∷ l) e
      at false e = e

  -- first_of: the answer is the first that has the test, or none has it
  pub first_of_some : (test : A → Bool) (l : List A) {x : A} → first_of test l ≡ some x → IsFirst test l x
  unfolding first_of choose
  first_of_some test [] e = let z : ◌≡◌ {A = ℕ} 0 1 = cc in absurd (omega arith)
  first_of_some test (y ∷ l) {x} e = at (λ q. first_of_some test l q) (test y) refl e
    where
      at : (first_of test l ≡ some x → IsFirst test l x) → (b : Bool) → test y ≡ b → choose b (some y) (first_of test l) ≡ some x → IsFirst test (y ∷ l) x
      at rec true q e' =
          let p : y ≡ x = cc in
          record { before = []; after = l; stands = ap (λ (z : A). z ∷ l) p; passes = rw (← p) (holds q); none_before = λ z m. absurd (in_none m) }
      at rec false q e' =
          let r = rec e' in
          record {
            before = y ∷ r.before;
            after = r.after;
            stands = ap (λ (rest : List A). y ∷ rest) r.stands;
            passes = r.passes;
            none_before = each_more (fails q) r.none_before;
          }

  pub first_of_none : (test : A → Bool) (l : List A) → first_of test l ≡ none → Each (λ x. T (test x) → ⊥) l
  unfolding first_of choose
  first_of_none test [] e x m t = in_none m
  first_of_none test (y ∷ l) e x m t = at (λ q h. first_of_none test l q x h t) (test y) refl e (in_cases m)
    where
      at : (first_of test l ≡ none → x ∈ l → ⊥) → (b : Bool) → test y ≡ b → choose b (some y) (first_of test l) ≡ none → (x ≡ y) ⊎ x ∈ l → ⊥
      at rec true q e' c = let z : ◌≡◌ {A = ℕ} 0 1 = cc in omega arith
      at rec false q e' (inl p) = fails q (rw p at t)
      at rec false q e' (inr h) = rec e' h

  pub first_in : {test : A → Bool} {l : List A} {x : A} → IsFirst test l x → x ∈ l
  first_in {test} {l} {x} first = subst (λ (whole : List A). x ∈ whole) (sym first.stands) (in_right first.before (here refl))

-- firstFrom: none of the numbers has the test, or the answer is one that has it
pub first_from_none : (test : ℕ → Bool) (count start : ℕ) → first_from test count start ≡ none → (s : ℕ) → start ≤ s → s < start + count → T (test s) → ⊥
unfolding first_from choose
first_from_none test zero start e s l h t = omega arith
first_from_none test (suc count) start e s l h t = at (λ q k. first_from_none test count (suc start) q s k (omega arith) t) (test start) refl e
  where
    at : (first_from test count (suc start) ≡ none → suc start ≤ s → ⊥) → (b : Bool) → test start ≡ b → choose b (some start) (first_from test count (suc start)) ≡ none → ⊥
    at rec true q e' = let z : ◌≡◌ {A = ℕ} 0 1 = cc in omega arith
    at rec false q e' = near (ℕ_discrete start s)
      where
        near : Dec (start ≡ s) → ⊥
        near (yes p) = fails q (rw p t)
        near (no p) = rec e' (omega arith)

pub first_from_some : (test : ℕ → Bool) (count start : ℕ) {s : ℕ} → first_from test count start ≡ some s → (start ≤ s) × (s < start + count) × T (test s)
unfolding first_from choose
first_from_some test zero start e = let z : ◌≡◌ {A = ℕ} 0 1 = cc in absurd (omega arith)
first_from_some test (suc count) start {s} e = at (λ q. first_from_some test count (suc start) q) (test start) refl e
  where
    at : (first_from test count (suc start) ≡ some s → (suc start ≤ s) × (s < suc start + count) × T (test s)) → (b : Bool) → test start ≡ b
        → choose b (some start) (first_from test count (suc start)) ≡ some s → (start ≤ s) × (s < start + suc count) × T (test s)
    at rec true q e' = let p : start ≡ s = cc in (omega arith, omega arith, rw (← p) (holds q))
    at rec false q e' = let r = rec e' in (omega arith, omega arith, r.2)

-- the answer is the first that has it
pub first_from_before : (test : ℕ → Bool) (count start : ℕ) {s : ℕ} → first_from test count start ≡ some s → (p : ℕ) → start ≤ p → p < s → T (test p) → ⊥
unfolding first_from choose
first_from_before test zero start e p l h t = let z : ◌≡◌ {A = ℕ} 0 1 = cc in omega arith
first_from_before test (suc count) start {s} e p l h t = at (λ q k. first_from_before test count (suc start) q p k h t) (test start) refl e
  where
    at : (first_from test count (suc start) ≡ some s → suc start ≤ p → ⊥) → (b : Bool) → test start ≡ b
        → choose b (some start) (first_from test count (suc start)) ≡ some s → ⊥
    at rec true q e' = let r : start ≡ s = cc in omega arith
    at rec false q e' = near (ℕ_discrete start p)
      where
        near : Dec (start ≡ p) → ⊥
        near (yes r) = fails q (rw r t)
        near (no r) = rec e' (omega arith)

-- and the first that has it is the answer
pub first_from_least : (test : ℕ → Bool) (count start s : ℕ) → start ≤ s → s < start + count → T (test s)
    → ((p : ℕ) → start ≤ p → p < s → T (test p) → ⊥) → first_from test count start ≡ some s
unfolding first_from choose
first_from_least test zero start s l h t f = absurd (omega arith)
first_from_least test (suc count) start s l h t f =
    at (λ k. first_from_least test count (suc start) s k (omega arith) t (λ p m. f p (omega arith))) (test start) refl
  where
    at : (suc start ≤ s → first_from test count (suc start) ≡ some s) → (b : Bool) → test start ≡ b
        → choose b (some start) (first_from test count (suc start)) ≡ some s
    at rec true q = near (ℕ_discrete start s)
      where
        near : Dec (start ≡ s) → some start ≡ some s
        near (yes e) = ap (λ (x : ℕ). some x) e
        near (no n) = absurd (f start (omega arith) (omega arith) (holds q))
    at rec false q = near (ℕ_discrete start s)
      where
        near : Dec (start ≡ s) → first_from test count (suc start) ≡ some s
        near (yes e) = absurd (fails q (rw e t))
        near (no n) = rec (omega arith)

-- s is the least number for which the test holds, or `bound` where it holds of none below
pub record LeastOr (test : ℕ → Bool) (bound s : ℕ) : Type 0 where
  pub within : s ≤ bound
  pub not_before : (p : ℕ) → p < s → T (test p) → ⊥
  pub holds_or : T (test s) ⊎ (s ≡ bound)

pub or_else_least : (test : ℕ → Bool) (bound : ℕ) → LeastOr test bound (or_else (first_from test bound 0) bound)
unfolding or_else
or_else_least test bound = at (first_from test bound 0) refl
  where
    at : (found : Option ℕ) → first_from test bound 0 ≡ found → LeastOr test bound (or_else found bound)
    at none e =
        record { within = omega arith; not_before = λ p l. first_from_none test bound 0 e p (omega arith) (omega arith); holds_or = inr refl }
    at (some s) e =
        let there = first_from_some test bound 0 e in
        record { within = omega (arith, there.1); not_before = λ p l. first_from_before test bound 0 e p (omega arith) l; holds_or = inl there.2 }

-- there is one such number
pub least_one : (test : ℕ → Bool) (bound s other : ℕ) → LeastOr test bound s → LeastOr test bound other → s ≡ other
least_one test bound s other a b = omega (arith, not_less a b, not_less b a)
  where
    not_less : {x y : ℕ} → LeastOr test bound x → LeastOr test bound y → x < y → ⊥
    not_less {x} {y} a b l = near a.holds_or
      where
        near : T (test x) ⊎ (x ≡ bound) → ⊥
        near (inl t) = b.not_before x l t
        near (inr e) = omega (arith, b.within)

-- eachFrom: the test holds of each of the numbers
pub each_from_at : (test : ℕ → Bool) (count start : ℕ) → T (each_from test count start) → (s : ℕ) → start ≤ s → s < start + count → T (test s)
unfolding each_from
each_from_at test zero start t s l h = absurd (omega arith)
each_from_at test (suc count) start t s l h = near (λ k. each_from_at test count (suc start) (and_right _ _ t) s k (omega arith)) (ℕ_discrete start s)
  where
    near : (suc start ≤ s → T (test s)) → Dec (start ≡ s) → T (test s)
    near rec (yes p) = rw (← p) (and_left _ _ t)
    near rec (no p) = rec (omega arith)

pub at_each_from : (test : ℕ → Bool) (count start : ℕ) → ((s : ℕ) → start ≤ s → s < start + count → T (test s)) → T (each_from test count start)
unfolding each_from
at_each_from test zero start f = tt
at_each_from test (suc count) start f =
    and_both _ _ (f start (omega arith) (omega arith)) (at_each_from test count (suc start) (λ s l h. f s (omega arith) (omega arith)))

-- a loop over the numbers below a bound, by what remains of it at number s: the test fails there, it holds there, or nothing remains
module _ (test : ℕ → Bool) (bound s : ℕ) where
  pub each_from_fails : s < bound → test s ≡ false → each_from test (bound - s) s ≡ false
  unfolding each_from ◌and◌
  each_from_fails l e = let c : bound - s ≡ suc (bound - (s + 1)) = omega arith in rw (c, e)

  pub each_from_holds : s < bound → test s ≡ true → each_from test (bound - s) s ≡ each_from test (bound - (s + 1)) (s + 1)
  unfolding each_from ◌and◌
  each_from_holds l e = let c : bound - s ≡ suc (bound - (s + 1)) = omega arith in rw (c, e, add-one)

  pub each_from_ends : bound ≤ s → each_from test (bound - s) s ≡ true
  unfolding each_from
  each_from_ends l = let c : bound - s ≡ 0 = omega arith in rw c

-- a search among the numbers below a bound, by what remains of it at number s: the test holds there, it fails there, or nothing remains
module _ (test : ℕ → Bool) (bound s : ℕ) where
  pub first_from_here : s < bound → test s ≡ true → first_from test (bound - s) s ≡ some s
  unfolding first_from choose
  first_from_here l e = let c : bound - s ≡ suc (bound - (s + 1)) = omega arith in rw (c, e)

  pub first_from_later : s < bound → test s ≡ false → first_from test (bound - s) s ≡ first_from test (bound - (s + 1)) (s + 1)
  unfolding first_from choose
  first_from_later l e = let c : bound - s ≡ suc (bound - (s + 1)) = omega arith in rw (c, e, add-one)

  pub first_from_nowhere : bound ≤ s → first_from test (bound - s) s ≡ none
  unfolding first_from
  first_from_nowhere l = let c : bound - s ≡ 0 = omega arith in rw c

-- an element by its place
pub at_in : (l : List ℕ) (i : ℕ) → i < length l → get_or l i 0 ∈ l
at_in [] i h = absurd (omega arith)
at_in (x ∷ l) zero h = here refl
at_in (x ∷ l) (suc i) h = there (at_in l i (omega arith))

-- what remains of a list from a place on
pub drop_first : (l : List ℕ) (i : ℕ) → i < length l → drop i l ≡ get_or l i 0 ∷ drop (i + 1) l
drop_first l i h = drop-cons l i 0 h ∙ ap (λ (k : ℕ). get_or l i 0 ∷ drop k l) (sym (add-one i))

-- a loop over a list, by what remains of it at place i: the test fails there, it holds there, or nothing remains
module _ (test : ℕ → Bool) (l : List ℕ) (i : ℕ) where
  pub all_fails : i < length l → test (get_or l i 0) ≡ false → all test (drop i l) ≡ false
  unfolding all ◌and◌
  all_fails h e = rw (drop_first l i h, e)

  pub all_holds : i < length l → test (get_or l i 0) ≡ true → all test (drop i l) ≡ all test (drop (i + 1) l)
  unfolding all ◌and◌
  all_holds h e = rw (drop_first l i h, e)

  pub all_ends : length l ≤ i → all test (drop i l) ≡ true
  unfolding all
  all_ends h = rw (drop_of_length-le l h)
