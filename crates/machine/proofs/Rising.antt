-- What entering and rising do to a table: it goes on blocking what it blocked, its blockers go on standing, and a blocker that is a subset of
-- another keeps the higher level. Assumes nothing.
use Prim.Native.Nat.{ℕ, zero, suc, ◌+◌, ◌≤◌, ◌<◌}
use mathlib.Core.Path.{◌≡◌, refl}
use mathlib.Core.Bool.{Bool, true, false}
use mathlib.Core.List.{List, [], ◌∷◌, ◌++◌, append-nil}
use mathlib.Core.Logic.{◌⊎◌, inl, inr}
use native.Mathlib.Decide.{dec_le}
use native.Mathlib.Omega.{arith}
use lib.Dec.{T, leb→le, le→leb, eqb→eq}
use lib.ListN.{length, length-append}
use lib.Seq.{append_snoc}
use Rattle.lists.specs.Tests.{neg}
use Rattle.lists.specs.Lists.{◌∈◌, here, there, Each}
use Rattle.lists.proofs.Tests.{holds, and_left, and_right, and_both, neg_fails, fails_neg, decide}
use Rattle.lists.proofs.Lists.{in_cases, in_left, in_right, in_either, beside_in, in_beside, keep_in, in_keep, keep_append, each_from_at, keep_length}
use Rattle.lists.proofs.Pairs.{Pairwise, cons, pairs_first, pairs_later, pairs_keep, pairs_joined, pairs_left, pairs_right, pairs_across}
use Rattle.masks.specs.Sets.{subset, within}
use Rattle.masks.proofs.Laws.{subset_reflexive, subset_transitive}
use Rattle.machine.specs.System.{System}
use Rattle.machine.specs.Machine.{Blocker, covers, leaves, staying, rises, risen, rise_along, rise_levels}
use Rattle.machine.proofs.Tables.{Covered, Blocked, by_initial, by_blocker, blocked_means, blocked_lower, blocked_stays_blocked}
use Rattle.machine.proofs.Tables.{Stands, Grows, stays_standing, grows_same, grows_twice}

-- one of two blockers that is a subset of the other has the higher level
pub record Apart (a b : Blocker) : Type 0 where
  pub forth : T (subset a.mask b.mask) → b.level < a.level
  pub back : T (subset b.mask a.mask) → a.level < b.level

-- it says the same of the two the other way round
apart_turned : {a b : Blocker} → Apart a b → Apart b a
apart_turned h = record { forth = h.back; back = h.forth }

-- what holds of each table of a run
pub record Kept (S : System) (top : ℕ) (table : List Blocker) : Type 0 where
  pub stands : Each (Stands S top table) table
  pub apart : Pairwise Apart table

-- what a step makes of a table: the same holds of the new one, and it blocks what the old one blocked
pub record Grown (S : System) (top : ℕ) (old new : List Blocker) : Type 0 where
  pub kept : Kept S top new
  pub grows : Grows old new

-- growing twice is growing
grown_twice : {S : System} {top : ℕ} {first second third : List Blocker} → Grown S top first second → Grown S top second third
    → Grown S top first third
grown_twice f g = record { kept = g.kept; grows = grows_twice f.grows g.grows }

-- what a blocker that leaves covered, Y covers
left_covered : (Y blocker : Blocker) {table : List Blocker} → Y ∈ table → T (leaves Y blocker) → Covered table blocker.level blocker.mask
unfolding leaves
left_covered Y blocker m t = record { blocker = Y; listed = m; high = leb→le _ _ (and_left _ _ t); inside = and_right _ _ t }

-- who is of Y's level or lower and a subset of Y leaves
means_leaves : (Y blocker : Blocker) → blocker.level ≤ Y.level → T (subset blocker.mask Y.mask) → T (leaves Y blocker)
unfolding leaves
means_leaves Y blocker l t = and_both _ _ (le→leb _ _ l) t

-- a subset of Y that stays is of a higher level
stayed_higher : (Y blocker : Blocker) → T (neg (leaves Y blocker)) → T (subset blocker.mask Y.mask) → Y.level < blocker.level
stayed_higher Y blocker h t = at (dec_le blocker.level Y.level)
  where
    at : Dec (blocker.level ≤ Y.level) → Y.level < blocker.level
    at (yes l) = absurd (neg_fails _ h (means_leaves Y blocker l t))
    at (no l) = omega arith

-- who stays was in the table and does not leave
staying_in : (Y : Blocker) (table : List Blocker) {blocker : Blocker} → blocker ∈ staying Y table → blocker ∈ table × T (neg (leaves Y blocker))
unfolding staying
staying_in Y table m = keep_in (λ blocker. neg (leaves Y blocker)) table m

-- who was in the table and does not leave stays
in_staying : (Y : Blocker) (table : List Blocker) {blocker : Blocker} → blocker ∈ table → T (neg (leaves Y blocker)) → blocker ∈ staying Y table
unfolding staying
in_staying Y table m t = in_keep (λ blocker. neg (leaves Y blocker)) table m t

-- blockers that stay are apart as before
staying_apart : (Y : Blocker) {table : List Blocker} → Pairwise Apart table → Pairwise Apart (staying Y table)
unfolding staying
staying_apart Y h = pairs_keep (λ blocker. neg (leaves Y blocker)) h

-- no more stay than there were
staying_length : (Y : Blocker) (table : List Blocker) → length (staying Y table) ≤ length table
unfolding staying
staying_length Y table = keep_length (λ blocker. neg (leaves Y blocker)) table

-- Y in its place, with what stays for it before and after
unfoldable pub put_among : List Blocker → Blocker → List Blocker → List Blocker
put_among before Y after = staying Y before ++ Y ∷ staying Y after

module _ (before : List Blocker) (Y : Blocker) (after : List Blocker) where
  -- Y is in the table
  pub put_put_among_new : Y ∈ put_among before Y after
  unfolding put_among
  put_put_among_new = in_right (staying Y before) (here refl)

  -- as the walk along a table writes it
  put_put_among_joined : (staying Y before ++ Y ∷ []) ++ staying Y after ≡ put_among before Y after
  unfolding put_among
  put_put_among_joined = append_snoc (staying Y before) Y (staying Y after)

  -- what stays before and after is what stays of both
  staying_joined : staying Y (before ++ after) ≡ staying Y before ++ staying Y after
  unfolding staying
  staying_joined = keep_append (λ blocker. neg (leaves Y blocker)) before after

  -- whoever is in the table is Y or has stayed
  pub put_put_among_from : {b : Blocker} → b ∈ put_among before Y after → (b ≡ Y) ⊎ (b ∈ (before ++ after) × T (neg (leaves Y b)))
  unfolding put_among
  put_put_among_from {b} m = at (in_beside Y (staying Y before) (staying Y after) m)
    where
      at : (b ≡ Y) ⊎ b ∈ (staying Y before ++ staying Y after) → (b ≡ Y) ⊎ (b ∈ (before ++ after) × T (neg (leaves Y b)))
      at (inl e) = inl e
      at (inr k) = inr (staying_in Y (before ++ after) (rw staying_joined k))

  -- who does not leave is in the table
  put_put_among_stays : {b : Blocker} → b ∈ (before ++ after) → T (neg (leaves Y b)) → b ∈ put_among before Y after
  unfolding put_among
  put_put_among_stays {b} m t = beside_in Y (staying Y before) (staying Y after) (rw staying_joined at (in_staying Y (before ++ after) m t))

-- a blocker that takes another's place makes no table longer
put_put_among_shorter : (before : List Blocker) (blocker : Blocker) (after : List Blocker)
    → length (put_among before (risen blocker) after) ≤ length (before ++ blocker ∷ after)
unfolding put_among
put_put_among_shorter before blocker after =
    simp length-append (omega (arith, staying_length (risen blocker) before, staying_length (risen blocker) after))

-- Y may take its place between `before` and `after`: these hold blockers of the old table, the others leave for Y; Y stands as each blocker does;
-- and what contains Y is of a lower level.
pub record Enters (S : System) (top : ℕ) (old before : List Blocker) (Y : Blocker) (after : List Blocker) : Type 0 where
  pub rest : Each (λ b. b ∈ old) (before ++ after)
  pub others : Each (λ b. b ∈ (before ++ after) ⊎ T (leaves Y b)) old
  pub positive : 1 ≤ Y.level
  pub low : Y.level ≤ top
  pub clear : T (subset S.initial Y.mask) → ⊥
  pub inside : T (within S.states Y.mask)
  pub backward : (s : ℕ) → s < S.symbols → (j : ℕ) → j < Y.level
      → Blocked S old j (S.backward s Y.mask) ⊎ T (subset (S.backward s Y.mask) Y.mask)
  pub apart : Pairwise Apart (before ++ after)
  pub higher : Each (λ b. T (subset Y.mask b.mask) → b.level < Y.level) (before ++ after)

module _ {S : System} {top : ℕ} {old before : List Blocker} {Y : Blocker} {after : List Blocker} (kept : Kept S top old)
    (enters : Enters S top old before Y after) where
  -- the table with Y in it covers what it did: what leaves for Y is a subset of Y
  entered_grows : Grows old (put_among before Y after)
  entered_grows b m = at (enters.others b m)
    where
      was_there : b ∈ (before ++ after) → T (leaves Y b) ⊎ (T (leaves Y b) → ⊥) → Covered (put_among before Y after) b.level b.mask
      was_there k (inl t) = left_covered Y b (put_put_among_new before Y after) t
      was_there k (inr f) = record {
        blocker = b;
        listed = put_put_among_stays before Y after k (fails_neg _ f);
        high = omega arith;
        inside = subset_reflexive b.mask;
      }

      at : b ∈ (before ++ after) ⊎ T (leaves Y b) → Covered (put_among before Y after) b.level b.mask
      at (inl k) = was_there k (decide (leaves Y b))
      at (inr t) = left_covered Y b (put_put_among_new before Y after) t

  -- Y stands in the new table, where it blocks those of its backward sets that are its subsets
  new_stands : Stands S top (put_among before Y after) Y
  new_stands = record {
    positive = enters.positive;
    low = enters.low;
    clear = enters.clear;
    inside = enters.inside;
    backward = λ s l j k. own s j k (enters.backward s l j k);
  }
    where
      own : (s j : ℕ) → j < Y.level → Blocked S old j (S.backward s Y.mask) ⊎ T (subset (S.backward s Y.mask) Y.mask)
          → Blocked S (put_among before Y after) j (S.backward s Y.mask)
      own s j k (inl b) = blocked_stays_blocked entered_grows b
      own s zero k (inr t) = by_initial (λ u. enters.clear (subset_transitive S.initial (S.backward s Y.mask) Y.mask u t))
      own s (suc j) k (inr t) =
          let high : suc j ≤ Y.level = omega arith in
          by_blocker (record { blocker = Y; listed = put_put_among_new before Y after; high = high; inside = t })

  -- each blocker stands in the new table
  entered_stands : Each (Stands S top (put_among before Y after)) (put_among before Y after)
  entered_stands b m = at (put_put_among_from before Y after m)
    where
      at : (b ≡ Y) ⊎ (b ∈ (before ++ after) × T (neg (leaves Y b))) → Stands S top (put_among before Y after) b
      at (inl e) = rw e new_stands
      at (inr r) = stays_standing entered_grows (kept.stands b (enters.rest b r.0))

  -- who stays is apart from Y
  apart_from_new : (b : Blocker) → b ∈ (before ++ after) → T (neg (leaves Y b)) → Apart b Y
  apart_from_new b m t = record { forth = stayed_higher Y b t; back = enters.higher b m }

  -- the blockers of the new table are apart
  entered_apart : Pairwise Apart (put_among before Y after)
  unfolding put_among
  entered_apart =
      pairs_joined
      (staying_apart Y (pairs_left before after enters.apart))
      (cons (λ b m. right b (staying_in Y after m)) (staying_apart Y (pairs_right before after enters.apart)))
      (λ a b m k. across a b (staying_in Y before m) (in_cases k))
    where
      right : (b : Blocker) → b ∈ after × T (neg (leaves Y b)) → Apart Y b
      right b r = apart_turned (apart_from_new b (in_right before r.0) r.1)

      across : (a b : Blocker) → a ∈ before × T (neg (leaves Y a)) → (b ≡ Y) ⊎ b ∈ staying Y after → Apart a b
      across a b r (inl e) = rw e (apart_from_new a (in_left after r.0) r.1)
      across a b r (inr k) = pairs_across before after enters.apart a b r.0 (staying_in Y after k).0

  -- a blocker enters
  pub entered_grown : Grown S top old (put_among before Y after)
  entered_grown = record { kept = record { stands = entered_stands; apart = entered_apart }; grows = entered_grows }

module _ {S : System} {top : ℕ} (before : List Blocker) (blocker : Blocker) (after : List Blocker)
    (kept : Kept S top (before ++ blocker ∷ after)) where
  -- the blockers beside one are apart from it
  beside_apart : (b : Blocker) → b ∈ (before ++ after) → Apart b blocker
  beside_apart b m = at (in_either before after m)
    where
      at : b ∈ before ⊎ b ∈ after → Apart b blocker
      at (inl k) = pairs_across before (blocker ∷ after) kept.apart b blocker k (here refl)
      at (inr k) = apart_turned (pairs_first (pairs_right before (blocker ∷ after) kept.apart) b k)

  -- so none of them covers it at its level
  pub none_covered : Each (λ other. T (covers blocker.level blocker.mask other) → ⊥) (before ++ after)
  unfolding covers
  none_covered other m t =
      let high = leb→le blocker.level other.level (and_left _ _ t) in
      omega (arith, high, (beside_apart other m).back (and_right _ _ t))

  -- "a blocker of level exactly j all of whose backward sets are blocked at j rises to j+1"
  module _ (j : ℕ) (room : suc j ≤ top) (rising : T (rises S (before ++ blocker ∷ after) j blocker)) where
    -- the risen blocker may take its place
    rise_enters : Enters S top (before ++ blocker ∷ after) before (risen blocker) after
    unfolding rises risen
    rise_enters = record {
      rest = λ b m. beside_in blocker before after m;
      others = λ b m. at b (in_beside blocker before after m);
      positive = omega arith;
      low = omega (arith, exactly);
      clear = own.clear;
      inside = own.inside;
      backward = λ s l i k. inl (blocked_lower kept.stands i (omega (arith, exactly))
          (blocked_means S _ _ _ (each_from_at _ S.symbols 0 (and_right _ _ rising) s (omega arith) (omega arith))));
      apart = pairs_joined
          (pairs_left before (blocker ∷ after) kept.apart)
          (pairs_later (pairs_right before (blocker ∷ after) kept.apart))
          (λ a b m k. pairs_across before (blocker ∷ after) kept.apart a b m (there k));
      higher = λ b m t. omega (arith, (beside_apart b m).back t);
    }
      where
        exactly : blocker.level ≡ j
        exactly = eqb→eq _ _ (and_left _ _ rising)

        own : Stands S top (before ++ blocker ∷ after) blocker
        own = kept.stands blocker (in_right before (here refl))

        at : (b : Blocker) → (b ≡ blocker) ⊎ b ∈ (before ++ after) → b ∈ (before ++ after) ⊎ T (leaves (risen blocker) b)
        at b (inl e) = inr (rw e (means_leaves (risen blocker) blocker (omega arith) (subset_reflexive blocker.mask)))
        at b (inr k) = inl k

    -- what a rise makes of the table
    rise_grown : Grown S top (before ++ blocker ∷ after) (put_among before (risen blocker) after)
    rise_grown = entered_grown kept rise_enters

-- What holds of a table goes on holding of it while blockers rise, if it does for each blocker that rises at level j.
abbrev RiseKeeps : System → (List Blocker → Type 0) → ℕ → Type 0
RiseKeeps S P j = (before : List Blocker) (blocker : Blocker) (after : List Blocker) → T (rises S (before ++ blocker ∷ after) j blocker)
    → P (before ++ blocker ∷ after) → P (put_among before (risen blocker) after)

module _ (S : System) (P : List Blocker → Type 0) where
  -- along the table at level j
  along_keeps : (turns j : ℕ) → RiseKeeps S P j → (passed ahead : List Blocker) → P (passed ++ ahead) → P (rise_along S turns j passed ahead)
  unfolding rise_along
  along_keeps zero j keeps passed ahead h = h
  along_keeps (suc turns) j keeps passed [] h = rw append-nil at h
  along_keeps (suc turns) j keeps passed (b ∷ ahead) h =
      at (λ u v k. along_keeps turns j keeps u v k) (rises S (passed ++ b ∷ ahead) j b) refl
    where
      at : ((u v : List Blocker) → P (u ++ v) → P (rise_along S turns j u v)) → (t : Bool) → rises S (passed ++ b ∷ ahead) j b ≡ t
          → P (rise_along S (suc turns) j passed (b ∷ ahead))
      at rec true q =
          let seam = put_put_among_joined passed (risen b) ahead in
          rw (q, rise_along) (rec (staying (risen b) passed ++ risen b ∷ []) (staying (risen b) ahead) (rw seam (keeps passed b ahead (holds q) h)))
      at rec false q = rw (q, rise_along) (rec (passed ++ b ∷ []) ahead (rw append_snoc h))

  -- at the `count` levels from j on
  levels_keep : (count j : ℕ) → ((i : ℕ) → i < count + j → RiseKeeps S P i) → (table : List Blocker) → P table → P (rise_levels S count j table)
  unfolding rise_levels
  levels_keep zero j keeps table h = h
  levels_keep (suc count) j keeps table h =
      levels_keep count (suc j) (λ i l. keeps i (omega arith)) (rise_along S (length table) j [] table)
      (along_keeps (length table) j (keeps j (omega arith)) [] table h)

-- rising makes no table longer
pub levels_shorter : (S : System) (count j : ℕ) (table : List Blocker) → length (rise_levels S count j table) ≤ length table
levels_shorter S count j table =
    levels_keep S (λ t. length t ≤ length table) count j (λ i l before b after t h. omega (arith, put_put_among_shorter before b after)) table (omega arith)

-- what rising at the `count` levels from j on makes of a table
pub levels_grown : {S : System} {top : ℕ} (count j : ℕ) → count + j ≤ top → {table : List Blocker} → Kept S top table
    → Grown S top table (rise_levels S count j table)
levels_grown {S} {top} count j room {table} kept =
    levels_keep S (λ t. Grown S top table t) count j
    (λ i l before b after t g. grown_twice g (rise_grown before b after g.kept i (omega arith) t))
    table (record { kept = kept; grows = grows_same table })
