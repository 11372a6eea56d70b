-- Chains of sets: the slot of a set, one set more, and the search along a chain. Assumes nothing.
use Prim.Native.Nat.{ℕ, zero, suc, ◌+◌, ◌-◌, ◌≤◌, ◌<◌}
use mathlib.Core.Path.{◌≡◌, refl, sym, ap, subst, ◌∙◌}
use mathlib.Core.Bool.{true, false}
use mathlib.Core.List.{List, [], ◌∷◌, ◌++◌}
use mathlib.Core.Logic.{◌⊎◌, inl, inr}
use native.Mathlib.Omega.{arith}
use lib.Bits.{bit_and, and_le_r}
use lib.Dec.{T, eqb, eqb→eq, eqb_refl}
use lib.ListN.{length, length-append, get_or, set, length-set}
use Rattle.lists.specs.Lists.{◌∈◌, here, there, any}
use Rattle.lists.proofs.Tests.{is_true, is_false}
use Rattle.lists.proofs.Lists.{any_some, some_any, at_in}
use Rattle.std.specs.Prelude.{Option, Some, None}
use Rattle.chains.specs.Chained.{told_number}
use Rattle.chains.proofs.Chains.{behind, behind_some, behind_none, same_keys, one_more, first_told, none_behind, next_nearer, next_told, none_between}
use Rattle.hitting.specs.Slots.{mixed, slot_of, slot_at, Slotted}

-- its slot is one of the table
pub slot_made : (one number : ℕ) → number ≡ mixed one → (slots : ℕ) → 1 ≤ slots
    → (bit_and number (slots - 1) ≡ slot_of slots one) × (bit_and number (slots - 1) < slots)
unfolding slot_of
slot_made one number is slots l = (ap (λ (x : ℕ). bit_and x (slots - 1)) is, omega (arith, and_le_r number (slots - 1)))

slot_below : (slots one : ℕ) → 1 ≤ slots → slot_of slots one < slots
slot_below slots one l = let slot = slot_made one (mixed one) refl slots l in subst (λ (x : ℕ). x < slots) slot.0 slot.1

-- the sets with one more behind them
older : (sets : List ℕ) (one p : ℕ) → p < length sets → get_or (sets ++ one ∷ []) p 0 ≡ get_or sets p 0
older [] one p l = absurd (omega arith)
older (x ∷ sets) one zero l = refl
older (x ∷ sets) one (suc p) l = older sets one p (omega arith)

newest : (sets : List ℕ) (one : ℕ) → get_or (sets ++ one ∷ []) (length sets) 0 ≡ one
newest [] one = refl
newest (x ∷ sets) one = newest sets one

pub one_slotted : {sets slots links : List ℕ} → Slotted sets slots links → (one : ℕ) → length sets < length links
    → Slotted (sets ++ one ∷ []) (set slots (slot_of (length slots) one) (length sets + 1)) (set links (length sets) (get_or slots (slot_of (length slots) one) 0))
one_slotted {sets} {slots} {links} slotted one room =
    let own : ℕ = slot_of (length slots) one in
    let longer : length (sets ++ one ∷ []) ≡ length sets + 1 = length-append sets (one ∷ []) in
    let same = length-set slots own (length sets + 1) in
    let old = same_keys (λ p l. ap (slot_of (length slots)) (older sets one p l)) slotted.chained in
    record {
      some_slot = omega (arith, same, slotted.some_slot);
      linked = omega (arith, longer, length-set links (length sets) (get_or slots own 0));
      chained = rw (same, longer) (one_more old own (ap (slot_of (length slots)) (sym (newest sets one))) (slot_below (length slots) one slotted.some_slot) room);
    }

-- a set of a list stands at a place of it
record Stands (sets : List ℕ) (one : ℕ) : Type 0 where
  place : ℕ
  below : place < length sets
  is : get_or sets place 0 ≡ one

stands : {one : ℕ} {sets : List ℕ} → one ∈ sets → Stands sets one
stands (here e) = record { place = 0; below = omega arith; is = sym e }
stands (there m) = let s = stands m in record { place = suc s.place; below = omega (arith, s.below); is = s.is }

-- the search along a chain, before the set at the place that is told, if one is: it has the slot, and none behind it is the set that is looked for
pub record Looking (sets slots links : List ℕ) (one : ℕ) (told : Option ℕ) : Type 0 where
  pub at_set : (p : ℕ) → told ≡ Some p → (p < length sets) × (slot_at (length slots) sets p ≡ slot_of (length slots) one)
  pub not_behind : (p : ℕ) → p < length sets → behind told ≤ p → get_or sets p 0 ≡ one → ⊥

module _ {sets slots links : List ℕ} (slotted : Slotted sets slots links) (one : ℕ) where
  pub looking_starts : (told : Option ℕ) → told ≡ told_number (get_or slots (slot_of (length slots) one) 0) → Looking sets slots links one told
  looking_starts told is =
      record {
        at_set = first_told slotted.chained (slot_of (length slots) one) told is;
        not_behind = λ p l k e. none_behind slotted.chained (slot_of (length slots) one) told is p l (ap (slot_of (length slots)) e) k;
      }

  module _ {told : Option ℕ} (looking : Looking sets slots links one told) where
    pub looking_ends : told ≡ None → false ≡ any (eqb one) sets
    looking_ends none =
        sym (is_false _ (λ t.
        let r = any_some (eqb one) sets t in
        let s = stands r.listed in
        looking.not_behind s.place s.below (omega (arith, ap behind none, behind_none)) (s.is ∙ sym (eqb→eq one r.element r.passes))))

    module _ (place : ℕ) (some : told ≡ Some place) where
      pub told_below : place < length sets
      told_below = (looking.at_set place some).0

      pub told_linked : place < length links
      told_linked = omega (arith, told_below, slotted.linked)

      pub looking_found : get_or sets place 0 ≡ one → true ≡ any (eqb one) sets
      looking_found e =
          sym (is_true _ (some_any (eqb one) sets _ (at_in sets place told_below) (subst (λ (x : ℕ). T (eqb one x)) (sym e) (eqb_refl one))))

      module _ (next : Option ℕ) (is : next ≡ told_number (get_or links place 0)) where
        pub looking_nearer : behind next < behind told
        looking_nearer = omega (arith, next_nearer slotted.chained (looking.at_set place some) next is, ap behind some, behind_some place)

        pub looking_goes : (get_or sets place 0 ≡ one → ⊥) → Looking sets slots links one next
        looking_goes other =
            record {
              at_set = next_told slotted.chained (looking.at_set place some) next is;
              not_behind = λ p l k e. by p l e (none_between slotted.chained (looking.at_set place some) next is p l (ap (slot_of (length slots)) e) k);
            }
          where
            by : (p : ℕ) → p < length sets → get_or sets p 0 ≡ one → (p ≡ place) ⊎ (suc place ≤ p) → ⊥
            by p l e (inl s) = other (ap (λ (x : ℕ). get_or sets x 0) (sym s) ∙ e)
            by p l e (inr h) = looking.not_behind p l (omega (arith, ap behind some, behind_some place)) e
