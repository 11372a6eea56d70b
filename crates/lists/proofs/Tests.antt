-- What is known of a joined test, as facts: `T b` is the fact that the test b holds. Assumes nothing.
use mathlib.Core.Path.{◌≡◌, refl, sym, ◌∙◌}
use mathlib.Core.Bool.{Bool, true, false, not}
use mathlib.Core.Logic.{◌⊎◌, inl, inr}
use borrow.Author.Tests.{eq-eqb, ne_eqb, lt-ltb, le-ltb, eqb-true, ltb-false}
use lib.Dec.{T}
use Rattle.lists.specs.Tests.{◌and◌, ◌or◌, neg, choose}

-- a test's value as a fact, and back
pub holds : {b : Bool} → b ≡ true → T b
holds e = rw e tt

pub fails : {b : Bool} → b ≡ false → T b → ⊥
fails e t = rw e at t

pub is_true : (b : Bool) → T b → b ≡ true
is_true true t = refl
is_true false t = absurd t

pub is_false : (b : Bool) → (T b → ⊥) → b ≡ false
is_false true f = absurd (f tt)
is_false false f = refl

-- two tests that hold of the same are the same
pub same_test : (a b : Bool) → (T a → T b) → (T b → T a) → a ≡ b
same_test true b f g = sym (is_true b (f (holds refl)))
same_test false b f g = sym (is_false b g)

pub decide : (b : Bool) → T b ⊎ (T b → ⊥)
decide true = inl tt
decide false = inr (λ t. t)

pub and_left : (a b : Bool) → T (a and b) → T a
unfolding ◌and◌
and_left true b t = tt
and_left false b t = t

pub and_right : (a b : Bool) → T (a and b) → T b
unfolding ◌and◌
and_right true b t = t
and_right false b t = absurd t

pub and_both : (a b : Bool) → T a → T b → T (a and b)
unfolding ◌and◌
and_both true b s t = t
and_both false b s t = s

pub and_fails : (a b : Bool) → b ≡ false → (a and b) ≡ false
unfolding ◌and◌
and_fails true b e = e
and_fails false b e = refl

pub or_cases : (a b : Bool) → T (a or b) → T a ⊎ T b
unfolding ◌or◌
or_cases true b t = inl tt
or_cases false b t = inr t

pub or_left : (a b : Bool) → T a → T (a or b)
unfolding ◌or◌
or_left true b t = tt
or_left false b t = absurd t

pub or_right : (a b : Bool) → T b → T (a or b)
unfolding ◌or◌
or_right true b t = tt
or_right false b t = t

pub or_joined : (a b c : Bool) → a or b or c ≡ (a or b) or c
unfolding ◌or◌
or_joined true b c = refl
or_joined false b c = refl

pub or_neither : (a b : Bool) → a or b ≡ false → (a ≡ false) × (b ≡ false)
unfolding ◌or◌
or_neither true b e = absurd (fails e tt)
or_neither false b e = (refl, e)

pub or_none : (b : Bool) → b or false ≡ b
unfolding ◌or◌
or_none true = refl
or_none false = refl

pub neg_fails : (b : Bool) → T (neg b) → T b → ⊥
unfolding neg
neg_fails true s t = s
neg_fails false s t = t

pub fails_neg : (b : Bool) → (T b → ⊥) → T (neg b)
unfolding neg
fails_neg true f = f tt
fails_neg false f = tt

pub neg_neg : (b : Bool) → (T (neg b) → ⊥) → T b
unfolding neg
neg_neg true f = tt
neg_neg false f = f tt

pub neg_is_not : (b : Bool) → not b ≡ neg b
unfolding neg
neg_is_not true = refl
neg_is_not false = refl

-- a joined test's value, by those of its parts; r is what a call answered
pub or_first : (a b : Bool) → a ≡ true → a or b ≡ true
unfolding ◌or◌
or_first a b e = rw e

pub or_second : (a b : Bool) → b ≡ true → a or b ≡ true
unfolding ◌or◌
or_second true b e = refl
or_second false b e = e

pub or_rest : (a b value : Bool) → a ≡ false → b ≡ value → a or b ≡ value
unfolding ◌or◌
or_rest a b value e q = rw e q

pub neg_true : (b : Bool) → b ≡ false → neg b ≡ true
unfolding neg
neg_true b e = rw e

pub neg_false : (b : Bool) → b ≡ true → neg b ≡ false
unfolding neg
neg_false b e = rw e

pub neg_called : (b r value : Bool) → r ≡ b → not r ≡ value → neg b ≡ value
neg_called b r value e q = rw (← e) (sym (neg_is_not r) ∙ q)

-- a test of numbers, joined so, from the facts
pub ruleset tests = (or_first, or_second, or_rest, neg_called, neg_true, neg_false, eq-eqb, ne_eqb, lt-ltb, le-ltb)

-- the parts of a joined test that came out false
pub or_left_failed : (a b : Bool) → a or b ≡ false → a ≡ false
or_left_failed a b e = (or_neither a b e).0

pub or_right_failed : (a b : Bool) → a or b ≡ false → b ≡ false
or_right_failed a b e = (or_neither a b e).1

pub neg_failed : (b : Bool) → neg b ≡ false → b ≡ true
unfolding neg
neg_failed true e = refl
neg_failed false e = sym e

-- the facts, from a test of numbers that is joined so and came out false
pub ruleset facts = (or_left_failed, or_right_failed, neg_failed, holds, eqb-true, ltb-false)

-- a choice, by its test
pub choose_true : {A : Type 0} {b : Bool} (x y : A) → b ≡ true → choose b x y ≡ x
unfolding choose
choose_true x y e = rw e

pub choose_false : {A : Type 0} {b : Bool} (x y : A) → b ≡ false → choose b x y ≡ y
unfolding choose
choose_false x y e = rw e

-- what holds of each of the two where it is chosen holds of the choice
pub choose_either : {A : Type 0} (P : A → Type 0) (b : Bool) {x y : A} → (b ≡ true → P x) → (b ≡ false → P y) → P (choose b x y)
unfolding choose
choose_either P true f g = f refl
choose_either P false f g = g refl
