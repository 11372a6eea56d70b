-- A relation that holds of each two places of a list, and how it fares where lists are kept in part and joined. Assumes nothing.
use mathlib.Core.Path.{refl}
use mathlib.Core.Bool.{Bool, true, false}
use mathlib.Core.List.{List, [], ◌∷◌, ◌++◌}
use mathlib.Core.Logic.{◌⊎◌, inl, inr}
use Rattle.lists.specs.Tests.{choose}
use Rattle.lists.specs.Lists.{◌∈◌, here, there, Each, keep}
use Rattle.lists.proofs.Lists.{in_none, in_left, in_right, in_either, each_more, keep_in}

-- the relation holds of each two places of the list, the earlier one first
pub data Pairwise {A : Type 0} (R : A → A → Type 0) : List A → Type 0 where
  nil : Pairwise R []
  cons : {x : A} {l : List A} → Each (R x) l → Pairwise R l → Pairwise R (x ∷ l)

module _ {A : Type 0} {R : A → A → Type 0} where
  -- of the first place and each later one
  pub pairs_first : {x : A} {l : List A} → Pairwise R (x ∷ l) → Each (R x) l
  pairs_first (cons f h) = f

  -- of the places after the first
  pub pairs_later : {x : A} {l : List A} → Pairwise R (x ∷ l) → Pairwise R l
  pairs_later (cons f h) = h

  -- of the places that are kept
  pub pairs_keep : (test : A → Bool) {l : List A} → Pairwise R l → Pairwise R (keep test l)
  unfolding keep choose
  pairs_keep test nil = nil
  pairs_keep test (cons {x = x} {l = l} f h) = at (test x) (pairs_keep test h)
    where
      at : (b : Bool) → Pairwise R (keep test l) → Pairwise R (choose b (x ∷ keep test l) (keep test l))
      at true r = cons (λ y m. f y (keep_in test l m).0) r
      at false r = r

  -- ++
  pub pairs_joined : {a b : List A} → Pairwise R a → Pairwise R b → ((x y : A) → x ∈ a → y ∈ b → R x y) → Pairwise R (a ++ b)
  pairs_joined nil g across = g
  pairs_joined {b = b} (cons {x = x} {l = l} f h) g across =
      cons (λ y m. at y (in_either l b m)) (pairs_joined h g (λ u v m k. across u v (there m) k))
    where
      at : (y : A) → y ∈ l ⊎ y ∈ b → R x y
      at y (inl m) = f y m
      at y (inr m) = across x y (here refl) m

  -- of the places of the first list
  pub pairs_left : (a b : List A) → Pairwise R (a ++ b) → Pairwise R a
  pairs_left [] b h = nil
  pairs_left (x ∷ a) b h = cons (λ y m. pairs_first h y (in_left b m)) (pairs_left a b (pairs_later h))

  -- of the places of the second list
  pub pairs_right : (a b : List A) → Pairwise R (a ++ b) → Pairwise R b
  pairs_right [] b h = h
  pairs_right (x ∷ a) b h = pairs_right a b (pairs_later h)

  -- of a place of the first list and one of the second
  pub pairs_across : (a b : List A) → Pairwise R (a ++ b) → (x y : A) → x ∈ a → y ∈ b → R x y
  pairs_across [] b h x y m k = absurd (in_none m)
  pairs_across (z ∷ a) b h x y m k =
      each_more {P = λ v. R v y} (pairs_first h y (in_right a k)) (λ v n. pairs_across a b (pairs_later h) v y n k) x m

-- what follows from the relation holds of each two places too
pub pairs_weaken : {A : Type 0} {R Q : A → A → Type 0} → ((x y : A) → R x y → Q x y) → {l : List A} → Pairwise R l → Pairwise Q l
pairs_weaken imp nil = nil
pairs_weaken imp (cons {x = x} f h) = cons (λ y m. imp x y (f y m)) (pairs_weaken imp h)
