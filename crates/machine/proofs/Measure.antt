-- Counting a table: its masks differ, so it has fewer than 2^n blockers; and the pairs of a case and a level that it blocks, which can
-- only become more. Assumes nothing.
use Prim.Native.Nat.{ℕ, suc, ◌*◌, ◌^◌, ◌≤◌, ◌<◌}
use mathlib.Core.Path.{◌≡◌, subst}
use mathlib.Core.List.{List, ◌∷◌}
use mathlib.Core.Logic.{◌≢◌}
use mathlib.Core.Option.{none}
use native.Mathlib.Omega.{arith}
use lib.Dec.{T, eqb}
use lib.ListN.{length}
use Rattle.lists.specs.Lists.{Each, first_from}
use Rattle.lists.proofs.Tests.{neg_neg}
use Rattle.lists.proofs.Lists.{each_more, any_some, first_from_none}
use Rattle.lists.proofs.Pairs.{Pairwise, cons, pairs_weaken}
use Rattle.lists.proofs.Counting.{bit, bit_most, bit_none, bit_monotone, bit_more, sum, sum_most, sum_most_but_last, sum_monotone, sum_more}
use Rattle.lists.proofs.Counting.{pigeonhole, covering}
use Rattle.masks.specs.Sets.{subset, full}
use Rattle.masks.proofs.Laws.{subset_reflexive, subset_transitive, within_below, full_within, suc_full, within_full}
use Rattle.machine.specs.System.{System}
use Rattle.machine.specs.Machine.{Blocker, blocked, none_at}
use Rattle.machine.specs.Lent.{blocker_of}
use Rattle.machine.proofs.Language.{Lawful}
use Rattle.machine.proofs.Tables.{Blocked, blocked_covered, blocked_means, means_blocked, blocked_stays_blocked, Grows}
use Rattle.machine.proofs.Rising.{Apart, Kept}

-- blockers that are apart have different masks
masks_differ : {table : List Blocker} → Pairwise Apart table → Pairwise (λ a b. a.mask ≢ b.mask) table
masks_differ h = pairs_weaken (λ a b apart e. same a b apart e) h
  where
    same : (a b : Blocker) → Apart a b → a.mask ≡ b.mask → ⊥
    same a b apart e =
        let forth : T (subset a.mask b.mask) = rw e (subset_reflexive b.mask) in
        let back : T (subset b.mask a.mask) = rw e (subset_reflexive b.mask) in
        omega (arith, apart.forth forth, apart.back back)

-- where each level from 1 to N holds a blocker, there are at least N blockers
pub levels_held : (table : List Blocker) (N : ℕ) → first_from (none_at table) N 1 ≡ none → N ≤ length table
unfolding none_at
levels_held table N e =
    covering (λ b. b.level) N table
    (λ j l h. any_some (λ b. eqb b.level j) table (neg_neg _ (first_from_none (none_at table) N 1 e j l (omega arith))))

-- the pairs of a case within n and a level from 1 to 2^n at which the table blocks it
unfoldable pub blocked_pairs : System → List Blocker → ℕ
blocked_pairs S table = sum (2 ^ S.states) (λ X. sum (2 ^ S.states) (λ i. bit (blocked S.initial table (suc i) X)))

module _ (S : System) {old new : List Blocker} (grows : Grows old new) where
  -- a pair that is counted goes on being counted
  blocked_bit : (i X : ℕ) → bit (blocked S.initial old i X) ≤ bit (blocked S.initial new i X)
  blocked_bit i X = bit_monotone _ _ (λ t. means_blocked (blocked_stays_blocked grows (blocked_means S old i X t)))

  -- and so for all levels of a case
  blocked_levels : (X : ℕ) → sum (2 ^ S.states) (λ i. bit (blocked S.initial old (suc i) X)) ≤ sum (2 ^ S.states) (λ i. bit (blocked S.initial new (suc i) X))
  blocked_levels X = sum_monotone (2 ^ S.states) _ _ (λ i l. blocked_bit (suc i) X)

  -- a table that grows blocks no fewer pairs
  pub pairs_monotone : blocked_pairs S old ≤ blocked_pairs S new
  unfolding blocked_pairs
  pairs_monotone = sum_monotone (2 ^ S.states) _ _ (λ X l. blocked_levels X)

  -- and more, where one is new
  pub pairs_more : (i X : ℕ) → i < 2 ^ S.states → X < 2 ^ S.states → (Blocked S old (suc i) X → ⊥) → Blocked S new (suc i) X
      → blocked_pairs S old < blocked_pairs S new
  unfolding blocked_pairs
  pairs_more i X li l_x free b =
      sum_more (2 ^ S.states) _ _ (λ Z l. blocked_levels Z) X l_x
      (sum_more (2 ^ S.states) _ _ (λ j l. blocked_bit (suc j) X) i li
      (bit_more _ _ (λ t. free (blocked_means S old (suc i) X t)) (means_blocked b)))

module _ {S : System} (lawful : Lawful S) {top : ℕ} {table : List Blocker} (kept : Kept S top table) where
  -- the set of all n states contains I
  full_initial : T (subset S.initial (full S.states))
  full_initial = within_full S.states S.initial lawful.initial_within

  -- the blockers' masks differ and none is the full set, so there are fewer than 2^n
  pub few_blockers : length table < 2 ^ S.states
  few_blockers = pigeonhole (λ b. b.mask) (2 ^ S.states) (all ∷ table) (cons differ (masks_differ kept.apart)) low
    where
      all : Blocker
      all = blocker_of (full S.states) 0

      differ : Each (λ b. full S.states ≢ b.mask) table
      differ b m e = (kept.stands b m).clear (rw (← e) full_initial)

      low : Each (λ b. b.mask < 2 ^ S.states) (all ∷ table)
      low =
          each_more
          (within_below S.states (full S.states) (full_within S.states))
          (λ b m. within_below S.states b.mask (kept.stands b m).inside)

  -- the full set is blocked at no level
  full_unblocked : (i : ℕ) → Blocked S table (suc i) (full S.states) → ⊥
  full_unblocked i b =
      let c = blocked_covered b in
      (kept.stands c.blocker c.listed).clear (subset_transitive _ _ _ full_initial c.inside)

  -- so at most 2^n (2^n − 1) pairs are blocked
  pub pairs_most : blocked_pairs S table ≤ full S.states * 2 ^ S.states
  unfolding blocked_pairs
  pairs_most =
      subst (λ (m : ℕ). sum m row ≤ full S.states * 2 ^ S.states) all
      (sum_most_but_last (full S.states) (2 ^ S.states) row (λ X l. row_most X) row_full)
    where
      row : ℕ → ℕ
      row X = sum (2 ^ S.states) (λ i. bit (blocked S.initial table (suc i) X))

      all : suc (full S.states) ≡ 2 ^ S.states
      all = suc_full S.states

      row_most : (X : ℕ) → row X ≤ 2 ^ S.states
      row_most X = omega (arith, sum_most (2 ^ S.states) 1 (λ i. bit (blocked S.initial table (suc i) X)) (λ i l. bit_most (blocked S.initial table (suc i) X)))

      none_full : (i : ℕ) → bit (blocked S.initial table (suc i) (full S.states)) ≤ 0
      none_full i = omega (arith, bit_none (blocked S.initial table (suc i) (full S.states)) (λ t. full_unblocked i (blocked_means S table (suc i) _ t)))

      row_full : row (full S.states) ≡ 0
      row_full = omega (arith, sum_most (2 ^ S.states) 0 (λ i. bit (blocked S.initial table (suc i) (full S.states))) (λ i l. none_full i))
