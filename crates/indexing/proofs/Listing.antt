-- The index: how it is gathered, and that what it lists decides whether a case is covered. Assumes nothing.
use Prim.Native.Nat.{ℕ, zero, suc, ◌+◌, ◌-◌, ◌%◌, ◌≤◌, ◌<◌}
use mathlib.Core.Path.{◌≡◌, sym, ap, subst, ◌∙◌}
use mathlib.Core.Bool.{Bool, true, false}
use mathlib.Core.List.{List, ◌∷◌}
use native.Mathlib.Decide.{dec_le, ℕ_discrete}
use native.Mathlib.Omega.{arith}
use borrow.Author.Tests.{eqb-true, eq-eqb}
use lib.Bits.{bit_and, and_mod}
use lib.Dec.{T, leb, leb→le}
use lib.ListN.{length, get_or, set, length-set}
use lib.Seq.{get_or-set_same, get_or-set_other}
use Rattle.lists.specs.Tests.{◌or◌}
use Rattle.lists.specs.Lists.{◌∈◌, here, there, any}
use Rattle.lists.proofs.Tests.{holds, fails, is_true, is_false, same_test, and_left, and_right}
use Rattle.lists.proofs.Lists.{Some, in_none, any_some, some_any}
use Rattle.masks.specs.Sets.{subset}
use Rattle.machine.specs.Machine.{Blocker, covers}
use Rattle.machine.specs.Lent.{BlockerRoom, blocker_at, blockers_from, unstamped_room}
use Rattle.blockers.proofs.Walks.{next_blocker, no_blocker}
use Rattle.indexing.specs.Index.{Passed, First, Listed, Index}

-- a place that is listed stays so when another entry is written behind
listed_more : {places : List ℕ} {end p : ℕ} (x : ℕ) → Listed places end p → Listed (set places end x) (suc end) p
listed_more {places} {end} x l = record {
  at = l.at;
  below = omega (arith, l.below);
  there = get_or-set_other places end l.at x 0 (λ e. omega (arith, l.below)) ∙ l.there;
}

-- one place more is listed
pub gather_lists : {level place end : ℕ} {masks levels low places : List ℕ} {half : ℕ} → Index level place place end masks levels low places
    → half ≡ get_or masks place 0 % 4294967296 → place < length masks → place < length levels → end < length low → end < length places
    → Index level (place + 1) (place + 1) (end + 1) masks levels (set low end half) (set places end place)
gather_lists {level} {place} {end} {masks} {levels} {low} {places} {half} so_far e in_masks in_levels in_low in_places = record {
  in_masks = omega arith;
  in_levels = omega arith;
  in_low = omega (arith, length-set low end half);
  in_places = omega (arith, length-set places end place);
  within = omega arith;
  held_places = λ i h. listed_by i h (ℕ_discrete i end);
  halves = λ i h. halves_by i h (ℕ_discrete i end);
  every = λ p h high. by p h high (ℕ_discrete p place);
}
  where
    old_place : (i : ℕ) → (i ≡ end → ⊥) → get_or (set places end place) i 0 ≡ get_or places i 0
    old_place i n = get_or-set_other places end i place 0 n

    new_place : get_or (set places end place) end 0 ≡ place
    new_place = get_or-set_same places end place 0 in_places

    listed_by : (i : ℕ) → i < end + 1 → Dec (i ≡ end) → get_or (set places end place) i 0 < place + 1
    listed_by i h (yes same) = rw same (rw new_place (omega arith))
    listed_by i h (no other) = rw (old_place i other) (omega (arith, so_far.held_places i (omega arith)))

    halves_by : (i : ℕ) → i < end + 1 → Dec (i ≡ end)
        → get_or (set low end half) i 0 ≡ get_or masks (get_or (set places end place) i 0) 0 % 4294967296
    halves_by i h (yes same) = rw same (rw (new_place, get_or-set_same low end half 0 in_low) e)
    halves_by i h (no other) = rw (old_place i other, get_or-set_other low end i half 0 other) (so_far.halves i (omega arith))

    by : (p : ℕ) → p < place + 1 → level ≤ get_or levels p 0 → Dec (p ≡ place) → Listed (set places end place) (end + 1) p
    by p h high (yes same) = record { at = end; below = omega arith; there = new_place ∙ sym same }
    by p h high (no other) =
        let one : suc end ≡ end + 1 = omega arith in
        subst (λ (n : ℕ). Listed (set places end place) n p) one (listed_more place (so_far.every p (omega arith) high))

-- a set's low half is inside the low half of a set that contains it
pub low_inside : (a b : ℕ) → T (subset a b) → subset (a % 4294967296) (b % 4294967296) ≡ true
unfolding subset
low_inside a b t =
    let e : bit_and a b ≡ a = eqb-true (bit_and a b) a (is_true _ t) in
    eq-eqb _ _ (sym (and_mod a b 32) ∙ ap (λ (x : ℕ). x % 4294967296) e)

-- a blocker of the table by its place
record Placing (room : BlockerRoom) (count at : ℕ) (blocker : Blocker) : Type 0 where
  place : ℕ
  above : at ≤ place
  below : place < at + count
  is : blocker ≡ blocker_at room place

placing : (room : BlockerRoom) (count at : ℕ) {blocker : Blocker} → blocker ∈ blockers_from room count at → Placing room count at blocker
unfolding blockers_from
placing room zero at m = absurd (in_none m)
placing room (suc count) at (here e) = record { place = at; above = omega arith; below = omega arith; is = e }
placing room (suc count) at (there m) =
    let p = placing room count (suc at) m in
    record { place = p.place; above = omega (arith, p.above); below = omega (arith, p.below); is = p.is }

placed_in : (room : BlockerRoom) (count at place : ℕ) → at ≤ place → place < at + count → blocker_at room place ∈ blockers_from room count at
unfolding blockers_from
placed_in room zero at place l h = absurd (omega arith)
placed_in room (suc count) at place l h = by (ℕ_discrete place at) (λ m. placed_in room count (suc at) place m (omega arith))
  where
    by : Dec (place ≡ at) → (suc at ≤ place → blocker_at room place ∈ blockers_from room count (suc at))
        → blocker_at room place ∈ (blocker_at room at ∷ blockers_from room count (suc at))
    by (yes e) rec = here (ap (blocker_at room) e)
    by (no n) rec = there (rec (omega arith))

-- The search of the index for a blocker that covers the case, before entry i: none listed before it does.
pub record Sought (level held upto end : ℕ) (masks levels low places : List ℕ) (case i : ℕ) : Type 0 where
  pub index : Index level held upto end masks levels low places
  pub within : i ≤ end
  pub missed : (k : ℕ) → k < i → covers level case (blocker_at (unstamped_room masks levels) (get_or places k 0)) ≡ false

module _ {level held upto end : ℕ} {masks levels low places : List ℕ} {case i : ℕ} (so_far : Sought level held upto end masks levels low places case i)
    {half : ℕ} (e : half ≡ case % 4294967296) where
  not_half : (k : ℕ) → k < end → subset half (get_or low k 0) ≡ false → covers level case (blocker_at (unstamped_room masks levels) (get_or places k 0)) ≡ false
  unfolding covers
  not_half k l f =
      is_false _ (λ t. fails (rw (e, so_far.index.halves k l) at f)
      (holds (low_inside case (get_or masks (get_or places k 0) 0) (and_right (leb level (get_or levels (get_or places k 0) 0)) _ t))))

  -- past those whose low half does not contain the case's
  missing : {r : ℕ} → Passed (λ other. subset half other) low i end r
      → (k : ℕ) → k < r → covers level case (blocker_at (unstamped_room masks levels) (get_or places k 0)) ≡ false
  missing before k l = by (dec_le i k)
    where
      by : Dec (i ≤ k) → covers level case (blocker_at (unstamped_room masks levels) (get_or places k 0)) ≡ false
      by (yes m) = not_half k (omega (arith, before.within)) (before.passed k m l)
      by (no m) = so_far.missed k (omega arith)

  module _ {r : ℕ} (first : First (λ other. subset half other) low i end r) {b : Bool} {place : ℕ} (same_place : place ≡ get_or places r 0)
      (there : b ≡ covers level case (blocker_at (unstamped_room masks levels) place)) where
    test : b ≡ covers level case (blocker_at (unstamped_room masks levels) (get_or places r 0))
    test = there ∙ ap (λ (p : ℕ). covers level case (blocker_at (unstamped_room masks levels) p)) same_place

    pub seek_finds : b ≡ true → true ≡ any (covers level case) (blockers_from (unstamped_room masks levels) held 0)
    seek_finds t =
        let below : get_or places r 0 < 0 + held = omega (arith, so_far.index.held_places r first.below) in
        sym (is_true _ (some_any (covers level case) _ _ (placed_in (unstamped_room masks levels) held 0 (get_or places r 0) (omega arith) below)
        (holds (sym test ∙ t))))

    pub seek_goes : b ≡ false → Sought level held upto end masks levels low places case (r + 1)
    seek_goes f = record { index = so_far.index; within = omega (arith, first.below); missed = λ k h. by k h (ℕ_discrete k r) }
      where
        by : (k : ℕ) → k < r + 1 → Dec (k ≡ r) → covers level case (blocker_at (unstamped_room masks levels) (get_or places k 0)) ≡ false
        by k h (yes same) = rw same (sym test ∙ f)
        by k h (no other) = missing first.before k (omega arith)

  pub seek_ends : Passed (λ other. subset half other) low i end end → {r : Bool} → r ≡ any (covers level case) (blockers_from (unstamped_room masks levels) (held - upto) upto)
      → r ≡ any (covers level case) (blockers_from (unstamped_room masks levels) held 0)
  unfolding covers
  seek_ends before {r} told = told ∙ same_test _ _ (λ t. all t) (λ t. rest t)
    where
      all : T (any (covers level case) (blockers_from (unstamped_room masks levels) (held - upto) upto))
          → T (any (covers level case) (blockers_from (unstamped_room masks levels) held 0))
      all t =
          let some = any_some (covers level case) _ t in
          let p = placing (unstamped_room masks levels) (held - upto) upto some.listed in
          some_any (covers level case) _ _ (placed_in (unstamped_room masks levels) held 0 p.place (omega arith) (omega (arith, p.below, so_far.index.within)))
          (rw p.is at some.passes)

      rest : T (any (covers level case) (blockers_from (unstamped_room masks levels) held 0))
          → T (any (covers level case) (blockers_from (unstamped_room masks levels) (held - upto) upto))
      rest t = by (dec_le upto p.place)
        where
          some : Some (covers level case) (blockers_from (unstamped_room masks levels) held 0)
          some = any_some (covers level case) _ t

          p : Placing (unstamped_room masks levels) held 0 some.element
          p = placing (unstamped_room masks levels) held 0 some.listed

          passes : T (covers level case (blocker_at (unstamped_room masks levels) p.place))
          passes = rw p.is at some.passes

          by : Dec (upto ≤ p.place) → T (any (covers level case) (blockers_from (unstamped_room masks levels) (held - upto) upto))
          by (yes h) =
              some_any (covers level case) _ _
              (placed_in (unstamped_room masks levels) (held - upto) upto p.place h (omega (arith, p.below, so_far.index.within))) passes
          by (no h) =
              let high : level ≤ get_or levels p.place 0 = leb→le level (get_or levels p.place 0) (and_left _ _ passes) in
              let listed = so_far.index.every p.place (omega arith) high in
              absurd (fails (rw listed.there at (missing before listed.at listed.below)) passes)

-- The walk over blockers that are not listed, before place i: what is left of it decides.
pub record Rest (masks levels : List ℕ) (from to level case i : ℕ) : Type 0 where
  pub left : any (covers level case) (blockers_from (unstamped_room masks levels) (to - i) i)
      ≡ any (covers level case) (blockers_from (unstamped_room masks levels) (to - from) from)

module _ {masks levels : List ℕ} {from to level case i : ℕ} (so_far : Rest masks levels from to level case i) where
  module _ {b : Bool} (l : i < to) (test : b ≡ covers level case (blocker_at (unstamped_room masks levels) i)) where
    pub rest_finds : b ≡ true → true ≡ any (covers level case) (blockers_from (unstamped_room masks levels) (to - from) from)
    unfolding any ◌or◌
    rest_finds t = sym (sym so_far.left ∙ rw (next_blocker (unstamped_room masks levels) to i l, sym test ∙ t))

    pub rest_goes : b ≡ false → Rest masks levels from to level case (i + 1)
    unfolding any ◌or◌
    rest_goes f = record { left = sym (rw (next_blocker (unstamped_room masks levels) to i l, sym test ∙ f)) ∙ so_far.left }

  pub rest_ends : to ≤ i → false ≡ any (covers level case) (blockers_from (unstamped_room masks levels) (to - from) from)
  unfolding any
  rest_ends l = sym (sym so_far.left ∙ rw (no_blocker (unstamped_room masks levels) to i l))
