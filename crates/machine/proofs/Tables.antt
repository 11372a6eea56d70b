-- What a table blocks: the tests as propositions, what holds of each table of a run, that what is blocked stays blocked, and that a case which is
-- blocked at i is taken back by no word of at most i symbols to a case that contains I. Assumes nothing.
use Prim.Native.Nat.{ℕ, zero, suc, ◌+◌, ◌≤◌, ◌<◌}
use mathlib.Core.Path.{◌≡◌, refl, subst}
use mathlib.Core.List.{List, [], ◌∷◌}
use native.Mathlib.Decide.{dec_le}
use native.Mathlib.Omega.{arith}
use lib.Dec.{T, leb→le, le→leb}
use lib.ListN.{length}
use Rattle.lists.specs.Lists.{◌∈◌, here, there, Each}
use Rattle.lists.proofs.Tests.{and_left, and_right, and_both, neg_fails, fails_neg}
use Rattle.lists.proofs.Lists.{any_some, some_any}
use Rattle.masks.specs.Sets.{subset, within}
use Rattle.masks.proofs.Laws.{subset_reflexive, subset_transitive}
use Rattle.machine.specs.System.{System}
use Rattle.machine.specs.Machine.{Blocker, covers, blocked}
use Rattle.machine.proofs.Language.{taken_back, Word, accepts, Lawful, NoneShorter}

-- the case is a subset of a blocker of level i or more
pub record Covered (table : List Blocker) (i X : ℕ) : Type 0 where
  pub blocker : Blocker
  pub listed : blocker ∈ table
  pub high : i ≤ blocker.level
  pub inside : T (subset X blocker.mask)

-- "A case is blocked at level i ≥ 1 if it is a subset of a blocker of level i or more; at level 0 if it does not contain I."
pub data Blocked (S : System) (table : List Blocker) : ℕ → ℕ → Type 0 where
  by_initial : {X : ℕ} → (T (subset S.initial X) → ⊥) → Blocked S table zero X
  by_blocker : {i X : ℕ} → Covered table (suc i) X → Blocked S table (suc i) X

-- the test as the proposition
pub blocked_means : (S : System) (table : List Blocker) (i X : ℕ) → T (blocked S.initial table i X) → Blocked S table i X
unfolding blocked covers
blocked_means S table zero X t = by_initial (neg_fails _ t)
blocked_means S table (suc i) X t =
    let r = any_some (covers (suc i) X) table t in
    by_blocker (record { blocker = r.element; listed = r.listed; high = leb→le _ _ (and_left _ _ r.passes); inside = and_right _ _ r.passes })

-- the proposition as the test
pub means_blocked : {S : System} {table : List Blocker} {i X : ℕ} → Blocked S table i X → T (blocked S.initial table i X)
unfolding blocked covers
means_blocked (by_initial f) = fails_neg _ f
means_blocked {table = table} (by_blocker {i = i} {X = X} c) =
    some_any (covers (suc i) X) table c.blocker c.listed (and_both _ _ (le→leb _ _ c.high) c.inside)

-- a subset of what is covered is covered, at each lower level too
pub covered_lower : {table : List Blocker} {i j X Y : ℕ} → j ≤ i → T (subset X Y) → Covered table i Y → Covered table j X
covered_lower {X = X} {Y = Y} l h c = record {
  blocker = c.blocker;
  listed = c.listed;
  high = omega (arith, c.high);
  inside = subset_transitive X Y c.blocker.mask h c.inside;
}

module _ {S : System} {table : List Blocker} where
  -- what is blocked at level 0 does not contain I
  pub blocked_initial : {X : ℕ} → Blocked S table zero X → T (subset S.initial X) → ⊥
  blocked_initial (by_initial f) = f

  -- what is blocked at a higher level is a subset of a blocker
  pub blocked_covered : {i X : ℕ} → Blocked S table (suc i) X → Covered table (suc i) X
  blocked_covered (by_blocker c) = c

  -- a subset of what is blocked is blocked
  pub blocked_subset : {i X Y : ℕ} → T (subset X Y) → Blocked S table i Y → Blocked S table i X
  blocked_subset {X = X} {Y = Y} h (by_initial f) = by_initial (λ t. f (subset_transitive S.initial X Y t h))
  blocked_subset h (by_blocker {i = i} c) = by_blocker {i = i} (covered_lower (omega arith) h c)

-- What holds of each blocker of a run's table: its level is from 1 to `top`, it does not contain I, it has no bit at n or above, and each of its
-- backward sets is blocked at each level below its own.
pub record Stands (S : System) (top : ℕ) (table : List Blocker) (blocker : Blocker) : Type 0 where
  pub positive : 1 ≤ blocker.level
  pub low : blocker.level ≤ top
  pub clear : T (subset S.initial blocker.mask) → ⊥
  pub inside : T (within S.states blocker.mask)
  pub backward : (s : ℕ) → s < S.symbols → (j : ℕ) → j < blocker.level → Blocked S table j (S.backward s blocker.mask)

-- each blocker of the old table is a subset of one of the new table of its level or higher
abbrev pub Grows : List Blocker → List Blocker → Type 0
Grows old new = Each (λ blocker. Covered new blocker.level blocker.mask) old

module _ {S : System} {top : ℕ} {table : List Blocker} (stands : Each (Stands S top table) table) where
  -- a blocker blocks its subsets at its level and at each lower one
  pub covered_blocked : (i : ℕ) {X : ℕ} → Covered table i X → Blocked S table i X
  covered_blocked zero {X} c =
      by_initial (λ t. (stands c.blocker c.listed).clear (subset_transitive S.initial X c.blocker.mask t c.inside))
  covered_blocked (suc i) c = by_blocker c

  -- what is blocked is blocked at each lower level
  pub blocked_lower : {i X : ℕ} (j : ℕ) → j ≤ i → Blocked S table i X → Blocked S table j X
  blocked_lower zero h (by_initial f) = by_initial f
  blocked_lower (suc j) h (by_initial f) = absurd (omega arith)
  blocked_lower {X = X} j h (by_blocker c) = covered_blocked j (covered_lower h (subset_reflexive X) c)

-- a table that grows covers what it did
pub covered_stays_covered : {old new : List Blocker} {i X : ℕ} → Grows old new → Covered old i X → Covered new i X
covered_stays_covered grows c = covered_lower c.high c.inside (grows c.blocker c.listed)

-- a table that grows blocks what it did
pub blocked_stays_blocked : {S : System} {old new : List Blocker} {i X : ℕ} → Grows old new → Blocked S old i X → Blocked S new i X
blocked_stays_blocked grows (by_initial f) = by_initial f
blocked_stays_blocked grows (by_blocker c) = by_blocker (covered_stays_covered grows c)

-- a blocker goes on standing in a table that grows
pub stays_standing : {S : System} {top : ℕ} {old new : List Blocker} {blocker : Blocker} → Grows old new → Stands S top old blocker
    → Stands S top new blocker
stays_standing grows h = record {
  positive = h.positive;
  low = h.low;
  clear = h.clear;
  inside = h.inside;
  backward = λ s l j k. blocked_stays_blocked grows (h.backward s l j k);
}

-- a table that stays as it is grows
pub grows_same : (table : List Blocker) → Grows table table
grows_same table b m = record { blocker = b; listed = m; high = omega arith; inside = subset_reflexive b.mask }

-- growing twice is growing
pub grows_twice : {first second third : List Blocker} → Grows first second → Grows second third → Grows first third
grows_twice f g b m = covered_stays_covered g (f b m)

module _ {S : System} (lawful : Lawful S) {top : ℕ} {table : List Blocker} (stands : Each (Stands S top table) table) where
  -- what is blocked at i + |word| is, taken back by the word, blocked at i
  pub blocked_taken_back : (word : List ℕ) → Word S word → (i : ℕ) {X : ℕ} → Blocked S table (i + length word) X
      → Blocked S table i (taken_back S word X)
  unfolding taken_back
  blocked_taken_back [] w i {X} b = let e : i + 0 ≡ i = omega arith in subst (λ (j : ℕ). Blocked S table j X) e b
  blocked_taken_back (s ∷ word) w i {X} b =
      let e : i + suc (length word) ≡ suc i + length word = omega arith in
      let c = blocked_covered (blocked_taken_back word (λ t m. w t (there m)) (suc i) (subst (λ (j : ℕ). Blocked S table j X) e b)) in
      blocked_subset
      (lawful.backward_monotone s (taken_back S word X) c.blocker.mask c.inside)
      ((stands c.blocker c.listed).backward s (w s (here refl)) i c.high)

  -- a case that is blocked at i is taken back by no word of at most i symbols to a case that contains I
  pub blocked_takes_none : {i X : ℕ} → Blocked S table i X → (word : List ℕ) → Word S word → length word ≤ i
      → T (subset S.initial (taken_back S word X)) → ⊥
  blocked_takes_none b word w l =
      blocked_initial (blocked_taken_back word w 0 (blocked_lower stands (0 + length word) (omega arith) b))

  -- where each final case is blocked at i, no word of at most i symbols is accepted
  pub blocked_accepts_none : {i : ℕ} → Each (λ F. Blocked S table i F) S.finals → NoneShorter S (suc i)
  unfolding accepts
  blocked_accepts_none {i} finals word w t = at (dec_le (suc i) (length word))
    where
      at : Dec (suc i ≤ length word) → suc i ≤ length word
      at (yes l) = l
      at (no l) =
          let r = any_some (λ F. subset S.initial (taken_back S word F)) S.finals t in
          absurd (blocked_takes_none (finals r.element r.listed) word w (omega arith) r.passes)
