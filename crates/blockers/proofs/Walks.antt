-- Walks over blockers: what remains of one at a place, four tests joined, and the search for the first blocker that covers a case; and the search of a list.
-- Assumes nothing.
use Rattle.std.specs.Prelude.{Option, Some, None, is_some}
use Rattle.std.specs.List.{list_any}
use Prim.Native.Nat.{ℕ, zero, suc, ◌+◌, ◌-◌, ◌≤◌, ◌<◌, min}
use mathlib.Core.Path.{◌≡◌, refl, sym, ap, subst, ◌∙◌}
use mathlib.Core.Bool.{Bool, true, false, not, ◌||◌}
use mathlib.Core.List.{List, [], ◌∷◌}
use native.Mathlib.Nat.{sub-zero}
use native.Mathlib.Numerals.{add-one}
use native.Mathlib.Decide.{ℕ_discrete, dec_le}
use native.Mathlib.Omega.{arith}
use lib.ListN.{length}
use Rattle.lists.specs.Tests.{◌or◌, neg}
use Rattle.lists.specs.Lists.{any}
use Rattle.lists.proofs.Tests.{or_neither, or_none}
use Rattle.machine.specs.Machine.{Blocker, covers}
use Rattle.machine.specs.Lent.{BlockerRoom, blocker_at, blockers_from, unstamped_room, blockers_in}
use Rattle.machine.specs.Why as Why
use Rattle.machine.specs.Why.{first_covering, is_reason}
use Rattle.machine.proofs.Reasons.{first_covers, first_misses, covering_any}
use Rattle.blockers.specs.Answers.{reason_of, Skips}
use Rattle.blockers.specs.declared.Level.{Level}
use Rattle.blockers.specs.declared.reasons.Reason.{Reason}
use Rattle.blockers.specs.declared.reasons.Reason.TheVariants.{ByBlocker, ByStart}

-- the first of the blockers that are left, and the others
pub next_blocker : (room : BlockerRoom) (held i : ℕ) → i < held
    → blockers_from room (held - i) i ≡ blocker_at room i ∷ blockers_from room (held - (i + 1)) (i + 1)
unfolding blockers_from
next_blocker room held i l = let e : held - i ≡ suc (held - (i + 1)) = omega arith in rw (e, add-one)

pub no_blocker : (room : BlockerRoom) (held i : ℕ) → held ≤ i → blockers_from room (held - i) i ≡ []
unfolding blockers_from
no_blocker room held i l = let e : held - i ≡ 0 = omega arith in rw e

-- four tests joined two by two are the four joined in order
pub four_joined : (a b c d : Bool) → (a || b) || (c || d) ≡ a or b or c or d
unfolding ◌or◌
four_joined true b c d = refl
four_joined false true c d = refl
four_joined false false true d = refl
four_joined false false false d = refl

-- whether a test holds of one of four, by each
any_of_four : {A : Type 0} (test : A → Bool) (w x y z : A) (a b c d r : Bool) → a ≡ test w → b ≡ test x → c ≡ test y → d ≡ test z → r ≡ a or b or c or d
    → r ≡ any test (w ∷ x ∷ y ∷ z ∷ [])
unfolding any
any_of_four test w x y z a b c d r ea eb ec ed e = e ∙ sym (ap (λ (last : Bool). a or b or c or last) (or_none d)) ∙ rw (ea, eb, ec, ed)

-- of four blockers
pub four_cover : (masks levels : List ℕ) (at level case : ℕ) (a b c d r : Bool)
    → a ≡ covers level case (blocker_at (unstamped_room masks levels) at)
    → b ≡ covers level case (blocker_at (unstamped_room masks levels) (at + 1))
    → c ≡ covers level case (blocker_at (unstamped_room masks levels) (at + 2))
    → d ≡ covers level case (blocker_at (unstamped_room masks levels) (at + 3))
    → r ≡ a or b or c or d
    → r ≡ any (covers level case) (blockers_from (unstamped_room masks levels) 4 at)
unfolding blockers_from
four_cover masks levels at level case a b c d r ea eb ec ed e =
    let two : at + 2 ≡ suc (suc at) = omega arith in
    let three : at + 3 ≡ suc (suc (suc at)) = omega arith in
    any_of_four (covers level case) _ _ _ _ a b c d r ea eb ec ed e ∙ rw (add-one, two, three)

-- none of some blockers passes a test
none_passes : (test : Blocker → Bool) (room : BlockerRoom) (count at : ℕ) → any test (blockers_from room count at) ≡ false
    → (i : ℕ) → at ≤ i → i < at + count → test (blocker_at room i) ≡ false
unfolding any blockers_from
none_passes test room zero at none i l h = absurd (omega arith)
none_passes test room (suc count) at none i l h =
    let two = or_neither (test (blocker_at room at)) (any test (blockers_from room count (suc at))) none in
    by two.0 (λ a b. none_passes test room count (suc at) two.1 i a b) (ℕ_discrete i at)
  where
    by : test (blocker_at room at) ≡ false → (suc at ≤ i → i < suc at + count → test (blocker_at room i) ≡ false) → Dec (i ≡ at) → test (blocker_at room i) ≡ false
    by here later (yes e) = rw e here
    by here later (no n) = later (omega arith) (omega arith)

-- the search by fours from a place on, before place i
pub record Skipping (masks levels : List ℕ) (level case count from i : ℕ) : Type 0 where
  pub all : count ≡ min (length masks) (length levels)
  pub so_far : Skips masks levels level case from i

skip_four : {masks levels : List ℕ} {level case from i : ℕ} → Skips masks levels level case from i → i + 4 ≤ min (length masks) (length levels)
    → any (covers level case) (blockers_from (unstamped_room masks levels) 4 i) ≡ false → Skips masks levels level case from (i + 4)
skip_four {masks} {levels} {level} {case} {from} {i} so_far l none =
    record { begins = omega (arith, so_far.begins); few = l; missed = λ k a b. by k a b (dec_le i k) }
  where
    by : (k : ℕ) → from ≤ k → k < i + 4 → Dec (i ≤ k) → covers level case (blocker_at (unstamped_room masks levels) k) ≡ false
    by k a b (yes h) = none_passes (covers level case) (unstamped_room masks levels) 4 i none k h b
    by k a b (no h) = so_far.missed k a (omega arith)

module _ {masks levels : List ℕ} {level case count from i : ℕ} (skipping : Skipping masks levels level case count from i) where
  module _ (eight : 8 ≤ count - i) {a : Bool} (ea : a ≡ any (covers level case) (blockers_from (unstamped_room masks levels) 4 i)) (fa : a ≡ false) where
    pub skip_next : Skips masks levels level case from (i + 4)
    skip_next = skip_four skipping.so_far (omega (arith, skipping.all)) (sym ea ∙ fa)

    pub skip_goes : {b : Bool} → b ≡ any (covers level case) (blockers_from (unstamped_room masks levels) 4 (i + 4)) → b ≡ false
        → Skipping masks levels level case count from (i + 8)
    skip_goes eb fb =
        let both : i + 4 + 4 ≡ i + 8 = omega arith in
        record {
          all = skipping.all;
          so_far = subst (λ (k : ℕ). Skips masks levels level case from k) both (skip_four skip_next (omega (arith, skipping.all)) (sym eb ∙ fb));
        }

-- The walk over the blockers for the first that covers the case, before place i: what is left of it decides.
pub record Walked (masks levels : List ℕ) (count level case i : ℕ) : Type 0 where
  pub all : count ≡ min (length masks) (length levels)
  pub left : first_covering level case i (blockers_from (unstamped_room masks levels) (count - i) i) ≡ first_covering level case 0 (blockers_in masks levels)

walk_starts : {masks levels : List ℕ} {count level case : ℕ} → count ≡ min (length masks) (length levels) → Walked masks levels count level case 0
walk_starts {masks} {levels} {count} {level} {case} all =
    record {
      all = all;
      left = ap (λ (n : ℕ). first_covering level case 0 (blockers_from (unstamped_room masks levels) n 0)) (sub-zero count ∙ all);
    }

-- past blockers that do not cover the case
walk_skips : {masks levels : List ℕ} {count level case i r : ℕ} → Walked masks levels count level case i
    → Skips masks levels level case i r → Walked masks levels count level case r
walk_skips {masks} {levels} {count} {level} {case} {i} {r} so_far skips =
    let whole : i + (r - i) ≡ r = omega (arith, skips.begins) in
    subst (λ (k : ℕ). Walked masks levels count level case k) whole (far (r - i) (omega arith))
  where
    far : (n : ℕ) → n ≤ r - i → Walked masks levels count level case (i + n)
    far zero l = let e : i ≡ i + zero = omega arith in subst (λ (k : ℕ). Walked masks levels count level case k) e so_far
    far (suc n) l =
        let e : i + suc n ≡ suc (i + n) = omega arith in
        let one : i + n + 1 ≡ suc (i + n) = omega arith in
        let before = far n (omega arith) in
        let there : i + n < count = omega (arith, before.all, skips.few) in
        record {
          all = before.all;
          left =
              rw e
              (sym (first_misses level case (i + n) (blocker_at (unstamped_room masks levels) (i + n)) _ (skips.missed (i + n) (omega arith) (omega arith)))
              ∙ ap (first_covering level case (i + n)) (sym (rw one at (next_blocker (unstamped_room masks levels) count (i + n) there))) ∙ before.left);
        }

pub walk_begins : {masks levels : List ℕ} {count level case r : ℕ} → count ≡ min (length masks) (length levels)
    → Skips masks levels level case 0 r → Walked masks levels count level case r
walk_begins all skips = walk_skips (walk_starts all) skips

-- there is a reason where one is answered
pub reason_there : (r : Option Reason) → is_some r ≡ is_reason (reason_of r)
unfolding is_reason reason_of
reason_there (Some (ByBlocker place level)) = refl
reason_there (Some (ByStart q)) = refl
reason_there None = refl

-- one blocker as the reason, by its test
module _ (level case place : ℕ) (blocker : Blocker) (b : Bool) (test : b ≡ covers level case blocker) where
  pub reason_here : (l : Level) → l.0 ≡ blocker.level → b ≡ true → reason_of (Some (ByBlocker place l)) ≡ first_covering level case place (blocker ∷ [])
  unfolding reason_of
  reason_here l e t = ap (Why.by_blocker place) e ∙ sym (first_covers level case place blocker [] (sym test ∙ t))

  pub reason_none : b ≡ false → reason_of None ≡ first_covering level case place (blocker ∷ [])
  unfolding reason_of first_covering
  reason_none f = sym (first_misses level case place blocker [] (sym test ∙ f))

-- whether one blocker is a reason tells whether it covers the case
pub one_told : (level case place : ℕ) (blocker : Blocker) (here : Option Reason) (told : Bool) → reason_of here ≡ first_covering level case place (blocker ∷ [])
    → told ≡ is_some here → covers level case blocker ≡ told
unfolding any
one_told level case place blocker here told e t =
    sym (t ∙ reason_there here ∙ ap is_reason e ∙ covering_any level case place (blocker ∷ []) ∙ or_none (covers level case blocker))

module _ {masks levels : List ℕ} {count level case i : ℕ} (so_far : Walked masks levels count level case i) where
  module _ (here : Option Reason) (told : Bool) (there : i < count)
      (one : reason_of here ≡ first_covering level case i (blocker_at (unstamped_room masks levels) i ∷ [])) (tells : told ≡ is_some here) where
    next : first_covering level case i (blocker_at (unstamped_room masks levels) i ∷ blockers_from (unstamped_room masks levels) (count - (i + 1)) (i + 1))
        ≡ first_covering level case 0 (blockers_in masks levels)
    next = ap (first_covering level case i) (sym (next_blocker (unstamped_room masks levels) count i there)) ∙ so_far.left

    pub walk_finds : told ≡ true → reason_of here ≡ first_covering level case 0 (blockers_in masks levels)
    walk_finds t =
        let covering = one_told level case i _ here told one tells ∙ t in
        one ∙ first_covers level case i _ [] covering ∙ sym (first_covers level case i _ _ covering) ∙ next

    pub walk_goes : told ≡ false → Walked masks levels count level case (i + 1)
    walk_goes f = record {
      all = so_far.all;
      left =
          ap (λ (k : ℕ). first_covering level case k (blockers_from (unstamped_room masks levels) (count - (i + 1)) (i + 1))) (add-one i)
          ∙ sym (first_misses level case i _ _ (one_told level case i _ here told one tells ∙ f)) ∙ next;
    }

  pub walk_ends : count ≤ i → reason_of None ≡ first_covering level case 0 (blockers_in masks levels)
  unfolding reason_of first_covering
  walk_ends l = ap (first_covering level case i) (sym (no_blocker (unstamped_room masks levels) count i l)) ∙ so_far.left

-- the search of a list with a test
searched : {A : Type 0} (test : A → Bool) (list : List A) → list_any test list ≡ any test list
unfolding any ◌or◌
searched test [] = refl
searched test (x ∷ list) = ap (λ (later : Bool). test x || later) (searched test list) ∙ joined (test x) (any test list)
  where
    joined : (a b : Bool) → a || b ≡ a or b
    joined true b = refl
    joined false b = refl

pub none_found : (test : ℕ → Bool) (list : List ℕ) (found : Bool) → found ≡ list_any test list → not found ≡ neg (any test list)
unfolding neg
none_found test list found e = at found ∙ ap neg (e ∙ searched test list)
  where
    at : (b : Bool) → not b ≡ neg b
    at true = refl
    at false = refl
