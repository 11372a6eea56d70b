-- The picks of a hitting set: which state is picked, that in the end every set which can be met is, and that only states of the sets are picked.
-- Assumes nothing.
use Prim.Native.Nat.{ℕ, zero, suc, ◌+◌, ◌≤◌, ◌<◌}
use mathlib.Core.Path.{◌≡◌, refl, sym, subst}
use mathlib.Core.List.{List, [], ◌∷◌}
use mathlib.Core.Logic.{◌⊎◌, inl, inr}
use native.Mathlib.Decide.{ℕ_discrete, dec_le}
use native.Mathlib.Omega.{arith}
use borrow.Author.Tests.{ltb-true, ltb-false}
use lib.Dec.{T}
use lib.ListN.{length}
use Rattle.lists.specs.Tests.{neg}
use Rattle.lists.specs.Lists.{◌∈◌, here, Each}
use Rattle.lists.proofs.Tests.{decide, neg_fails, fails_neg, choose_either}
use Rattle.lists.proofs.Lists.{in_none, in_length, Some, keep_in, in_keep}
use Rattle.lists.proofs.Counting.{keep_shorter, kept_some, some_kept}
use Rattle.masks.specs.Sets.{Member, member, union, single, within}
use Rattle.masks.proofs.Laws.{member_means, empty_members, no_members, union_members, single_members, within_members}
use Rattle.machine.specs.Hitting.{meets, best_from, best, unmet, picked_from, picked}
use Rattle.machine.specs.Promises.{MeetsMost, Met}

-- the better of the best state before q and q is the best of both
better : (sets : List ℕ) (q ahead : ℕ) → MeetsMost q sets ahead → MeetsMost (suc q) sets (best_from sets 1 q ahead)
unfolding best_from
better sets q ahead h =
    choose_either (MeetsMost (suc q) sets) _
    (λ t. record {
      is_state = omega arith;
      most = below (meets sets q) (omega (arith, ltb-true)) (omega arith);
      lowest = λ p l. omega (arith, h.most p l, ltb-true);
    })
    (λ f. record {
      is_state = omega (arith, h.is_state);
      most = below (meets sets ahead) (omega arith) (omega (arith, ltb-false));
      lowest = h.lowest;
    })
  where
    below : (most : ℕ) → meets sets ahead ≤ most → meets sets q ≤ most → (p : ℕ) → p < suc q → meets sets p ≤ most
    below most a b p l = at (ℕ_discrete p q)
      where
        at : Dec (p ≡ q) → meets sets p ≤ most
        at (yes e) = rw e b
        at (no n) = omega (arith, h.most p (omega arith))

-- and so for each state in turn
best_from_lem : (sets : List ℕ) (count q ahead : ℕ) → MeetsMost q sets ahead → MeetsMost (q + count) sets (best_from sets count q ahead)
unfolding best_from
best_from_lem sets zero q ahead h = let e : q ≡ q + 0 = omega arith in subst (λ (n : ℕ). MeetsMost n sets ahead) e h
best_from_lem sets (suc count) q ahead h =
    let e : suc q + count ≡ q + suc count = omega arith in
    subst (λ (n : ℕ). MeetsMost n sets (best_from sets (suc count) q ahead)) e
    (best_from_lem sets count (suc q) (best_from sets 1 q ahead) (better sets q ahead h))

-- "the state that meets most of those not yet met, lowest number on ties"
pub picks_most : (n : ℕ) (sets : List ℕ) → 1 ≤ n → MeetsMost n sets (best n sets)
unfolding best best_from
picks_most zero sets l = absurd (omega arith)
picks_most (suc n) sets l =
    let e : 1 + n ≡ suc n = omega arith in
    subst (λ (m : ℕ). MeetsMost m sets (best (suc n) sets)) e
    (best_from_lem sets n 1 (best_from sets 1 0 0) (choose_either (MeetsMost 1 sets) _ (λ t. first) (λ f. first)))
  where
    first : MeetsMost 1 sets 0
    first = record {
      is_state = omega arith;
      most = λ p k. let e : p ≡ 0 = omega arith in rw e (omega arith);
      lowest = λ p k. absurd (omega arith);
    }

-- there is one such state
pub best_one : (n q : ℕ) (sets : List ℕ) → MeetsMost n sets q → q ≡ best n sets
best_one n q sets a =
    let b = picks_most n sets (omega (arith, a.is_state)) in omega (arith, not_less a b, not_less b a)
  where
    not_less : {x y : ℕ} → MeetsMost n sets x → MeetsMost n sets y → x < y → ⊥
    not_less {x} {y} a b l = omega (arith, b.lowest x l, a.most y b.is_state)

-- a set that one of the n states meets
pub record Fit (n set : ℕ) : Type 0 where
  pub not_empty : set ≡ 0 → ⊥
  pub inside : T (within n set)

module _ (n : ℕ) where
  -- where one of the sets can be met, the best state meets one
  best_meets : (sets : List ℕ) {set : ℕ} → set ∈ sets → Fit n set → Some (member (best n sets)) sets
  unfolding meets
  best_meets sets {set} m fit = kept_some (member (best n sets)) sets (at (dec_le 1 (meets sets (best n sets))))
    where
      at : Dec (1 ≤ meets sets (best n sets)) → 1 ≤ meets sets (best n sets)
      at (yes l) = l
      at (no l) =
          absurd (fit.not_empty (no_members set (λ q i.
          let below = within_members n set fit.inside q i in
          omega (arith, l, (picks_most n sets (omega (arith, below))).most q below, some_kept (member q) sets m ((member_means q set).1 i)))))

  -- so fewer are left
  fewer_unmet : (sets : List ℕ) {set : ℕ} → set ∈ sets → Fit n set → length (unmet (best n sets) sets) < length sets
  unfolding unmet
  fewer_unmet sets m fit =
      let met = best_meets sets m fit in
      keep_shorter (λ set. neg (member (best n sets) set)) sets met.element met.listed (λ t. neg_fails _ t met.passes)

  unmet_in : (q : ℕ) (sets : List ℕ) {set : ℕ} → set ∈ unmet q sets → set ∈ sets
  unfolding unmet
  unmet_in q sets m = (keep_in (λ set. neg (member q set)) sets m).0

  in_unmet : (q : ℕ) (sets : List ℕ) {set : ℕ} → set ∈ sets → (T (member q set) → ⊥) → set ∈ unmet q sets
  unfolding unmet
  in_unmet q sets m f = in_keep (λ set. neg (member q set)) sets m (fails_neg _ f)

  -- what is picked stays picked
  picked_stays : (turns : ℕ) (sets : List ℕ) (picks q : ℕ) → Member q picks → Member q (picked_from n turns sets picks)
  unfolding picked_from
  picked_stays zero sets picks q i = i
  picked_stays (suc turns) [] picks q i = i
  picked_stays (suc turns) (set ∷ sets) picks q i =
      let state : ℕ = best n (set ∷ sets) in
      picked_stays turns (unmet state (set ∷ sets)) (union picks (single state)) q ((union_members picks (single state) q).1 (inl i))

  -- with as many turns as sets, each that can be met is
  picked_meets : (turns : ℕ) (sets : List ℕ) (picks : ℕ) {set : ℕ} → length sets ≤ turns → set ∈ sets → Fit n set
      → Met (picked_from n turns sets picks) set
  unfolding picked_from
  picked_meets zero sets picks l m fit = absurd (omega (arith, in_length m))
  picked_meets (suc turns) [] picks l m fit = absurd (in_none m)
  picked_meets (suc turns) (first ∷ sets) picks {set} l m fit =
      at (λ k. picked_meets turns (unmet state (first ∷ sets)) (union picks (single state))
      (omega (arith, fewer_unmet (first ∷ sets) m fit)) k fit) (decide (member state set))
    where
      state : ℕ
      state = best n (first ∷ sets)

      all : ℕ
      all = picked_from n turns (unmet state (first ∷ sets)) (union picks (single state))

      at : (set ∈ unmet state (first ∷ sets) → Met all set) → T (member state set) ⊎ (T (member state set) → ⊥) → Met all set
      at rec (inl t) = record {
        state = state;
        inside = (member_means state set).0 t;
        chosen = picked_stays turns (unmet state (first ∷ sets)) (union picks (single state)) state
            ((union_members picks (single state) state).1 (inr ((single_members state state).1 refl)));
      }
      at rec (inr f) = rec (in_unmet state (first ∷ sets) m f)

  -- only states of the sets are picked
  picked_from_lem : (turns : ℕ) (sets : List ℕ) (picks q : ℕ) → Each (Fit n) sets → Member q (picked_from n turns sets picks)
      → Member q picks ⊎ Some (member q) sets
  unfolding picked_from
  picked_from_lem zero sets picks q fit i = inl i
  picked_from_lem (suc turns) [] picks q fit i = inl i
  picked_from_lem (suc turns) (first ∷ sets) picks q fit i =
      at (picked_from_lem turns (unmet state (first ∷ sets)) (union picks (single state)) q (λ set m. fit set (unmet_in state (first ∷ sets) m)) i)
    where
      state : ℕ
      state = best n (first ∷ sets)

      new : Member q picks ⊎ Member q (single state) → Member q picks ⊎ Some (member q) (first ∷ sets)
      new (inl h) = inl h
      new (inr h) =
          inr (subst (λ (p : ℕ). Some (member p) (first ∷ sets)) (sym ((single_members state q).0 h))
          (best_meets (first ∷ sets) (here refl) (fit first (here refl))))

      at : Member q (union picks (single state)) ⊎ Some (member q) (unmet state (first ∷ sets)) → Member q picks ⊎ Some (member q) (first ∷ sets)
      at (inl h) = new ((union_members picks (single state) q).0 h)
      at (inr s) = inr (record { element = s.element; listed = unmet_in state (first ∷ sets) s.listed; passes = s.passes })

  -- "until all are met"
  pub all_met : (sets : List ℕ) {set : ℕ} → set ∈ sets → Fit n set → Met (picked n sets) set
  unfolding picked
  all_met sets = picked_meets (length sets) sets 0 (omega arith)

  pub picked_in_some : (sets : List ℕ) (q : ℕ) → Each (Fit n) sets → Member q (picked n sets) → Some (member q) sets
  unfolding picked
  picked_in_some sets q fit i = at (picked_from_lem (length sets) sets 0 q fit i)
    where
      at : Member q 0 ⊎ Some (member q) sets → Some (member q) sets
      at (inl h) = absurd (empty_members q h)
      at (inr s) = s
