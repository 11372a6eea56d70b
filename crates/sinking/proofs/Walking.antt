-- The walk along the table at one level where blockers sink: from one of this level to the next. Assumes nothing.
use Prim.Native.Nat.{ℕ, zero, suc, ◌+◌, ◌-◌, ◌≤◌, ◌<◌}
use mathlib.Core.Path.{◌≡◌, refl, sym, ap, ap₂, subst, fun_ext, ◌∙◌}
use mathlib.Core.Bool.{Bool, true, false}
use mathlib.Core.List.{List, [], ◌∷◌, ◌++◌}
use native.Mathlib.Nat.{sub-zero}
use native.Mathlib.Decide.{ℕ_discrete}
use native.Mathlib.Omega.{arith}
use borrow.Author.Tests.{lt-leb, lt-ltb, ltb-false, eqb-true}
use lib.Dec.{leb, ltb, eqb}
use lib.ListN.{length, get_or, drop}
use Rattle.lists.specs.Tests.{◌and◌, ◌or◌, choose}
use Rattle.lists.specs.Lists.{any, keep, each_from}
use Rattle.masks.specs.Sets.{subset}
use Rattle.machine.specs.System.{System}
use Rattle.machine.specs.Machine.{Blocker, covers, blocked, rises, risen, frame}
use Rattle.machine.specs.Lent.{room_of, blocker_at, blockers_from, unstamped_room}
use Rattle.machine.proofs.Unstamped.{unstamped_blocks}
use Rattle.blockers.specs.Room.{table_of}
use Rattle.blockers.proofs.Walks.{next_blocker, no_blocker}
use Rattle.rising.specs.Risen.{risen_at}
use Rattle.indexing.specs.Index.{Passed, First, Index, sunk_level, RisenIn}
use Rattle.sinking.specs.Sunk.{each_covered, TriedIn, LevelRisen}
use Rattle.rising.proofs.Along.{along, along_ends, table_apart, one_more}
use Rattle.sinking.proofs.Sinking.{sunken, pass_one, rise_one, frame_last}

-- blockers of level 0 cover nothing at level 1 or above
frame_covers : (i P : ℕ) (table : List Blocker) → any (covers (suc i) P) (frame 0 table) ≡ any (covers (suc i) P) table
unfolding any frame keep covers choose ◌or◌ ◌and◌
frame_covers i P [] = refl
frame_covers i P (b ∷ table) = at (ltb 0 b.level) refl (frame_covers i P table)
  where
    at : (u : Bool) → ltb 0 b.level ≡ u → any (covers (suc i) P) (frame 0 table) ≡ any (covers (suc i) P) table
        → any (covers (suc i) P) (frame 0 (b ∷ table)) ≡ any (covers (suc i) P) (b ∷ table)
    at true u rec = rw (u, rec)
    at false u rec = rw (u, lt-leb (suc i) b.level (omega (arith, ltb-false 0 b.level u))) rec

-- so whether a blocker rises is told by all masks and levels, those of level 0 too
rises_told : (S : System) (j : ℕ) → 1 ≤ j → (masks levels entered : List ℕ) (held : ℕ) (b : Blocker)
    → rises S (frame 0 (table_of held (room_of masks levels entered))) j b
    ≡ eqb b.level j and each_covered S (blockers_from (unstamped_room masks levels) held 0) j b.mask
unfolding rises blocked
rises_told S zero p masks levels entered held b = absurd (omega arith)
rises_told S (suc i) p masks levels entered held b =
    ap (λ (test : ℕ → Bool). eqb b.level (suc i) and each_from (λ s. test (S.backward s b.mask)) S.symbols 0)
    (fun_ext (λ P. frame_covers i P (table_of held (room_of masks levels entered))
    ∙ sym (ap (λ (test : ℕ → ℕ → Bool). test (suc i) P) (unstamped_blocks S.initial (room_of masks levels entered) held 0).alike)))

-- a blocker that has not sunk to 0 is of its old level
sunk_was : (mask level other old j : ℕ) → 1 ≤ j → j ≤ sunk_level mask level other old → j ≤ old
unfolding sunk_level choose
sunk_was mask level other old j p = at (leb old level and subset other mask)
  where
    at : (b : Bool) → j ≤ choose b 0 old → j ≤ old
    at true l = absurd (omega arith)
    at false l = l

-- the table once a blocker has risen in its place
module _ (masks levels levels' entered : List ℕ) {place held : ℕ} (change : RisenIn place held masks levels levels') where
  sunken_part : (count at : ℕ) → at + count ≤ held → ((i : ℕ) → at ≤ i → i < at + count → i ≡ place → ⊥)
      → blockers_from (room_of masks levels' entered) count at
      ≡ sunken (risen (blocker_at (room_of masks levels entered) place)) (blockers_from (room_of masks levels entered) count at)
  unfolding blockers_from sunken risen
  sunken_part zero at l n = refl
  sunken_part (suc count) at l n =
      ap₂ (λ (level : ℕ) (rest : List Blocker). record { mask = get_or masks at 0; level = level; entered = get_or entered at 0 } ∷ rest)
      (change.others at (omega arith) (n at (omega arith) (omega arith)))
      (sunken_part count (suc at) (omega arith) (λ i a b. n i (omega arith) (omega arith)))

  risen_there : blocker_at (room_of masks levels' entered) place ≡ risen (blocker_at (room_of masks levels entered) place)
  unfolding risen
  risen_there = ap (λ (level : ℕ). record { mask = get_or masks place 0; level = level; entered = get_or entered place 0 }) change.risen

risen_up : (b : Blocker) → ltb 0 (risen b).level ≡ true
unfolding risen
risen_up b = lt-ltb 0 (suc b.level) (omega arith)

-- The walk at level j before a place: what it makes of the table as it stands is what it makes of the first, the index still lists what it must, and
-- levels behind the table are as before.
pub record Walk (S : System) (j held upto end : ℕ) (masks low places levels₀ : List ℕ) (place : ℕ) (levels : List ℕ) : Type 0 where
  pub within : place ≤ held
  pub positive : 1 ≤ j
  pub index : Index j held upto end masks levels low places
  pub long : length levels ≡ length levels₀
  pub behind : drop held levels ≡ drop held levels₀
  pub was : (i : ℕ) → i < held → j ≤ get_or levels i 0 → j ≤ get_or levels₀ i 0
  pub left : (entered : List ℕ)
      → along S j (frame 0 (blockers_from (room_of masks levels entered) place 0)) (frame 0 (blockers_from (room_of masks levels entered) (held - place) place))
      ≡ risen_at S j (frame 0 (table_of held (room_of masks levels₀ entered)))

pub walk_starts : {S : System} {j held upto end : ℕ} {masks low places levels : List ℕ} → 1 ≤ j → Index j held upto end masks levels low places
    → Walk S j held upto end masks low places levels 0 levels
unfolding along frame keep blockers_from
walk_starts {S} {j} {held} {upto} {end} {masks} {low} {places} {levels} p index = record {
  within = omega arith;
  positive = p;
  index = index;
  long = refl;
  behind = refl;
  was = λ i l h. h;
  left = λ entered. ap (λ (count : ℕ). along S j [] (frame 0 (table_of count (room_of masks levels entered)))) (sub-zero held);
}

module _ {S : System} {j held upto end : ℕ} {masks low places levels₀ : List ℕ} where
  module _ {place : ℕ} {levels : List ℕ} (walk : Walk S j held upto end masks low places levels₀ place levels) (l : place < held) where
    abbrev front : List ℕ → List Blocker
    front entered = blockers_from (room_of masks levels entered) place 0

    abbrev rest : List ℕ → List Blocker
    rest entered = blockers_from (room_of masks levels entered) (held - (place + 1)) (place + 1)

    abbrev one : List ℕ → Blocker
    one entered = blocker_at (room_of masks levels entered) place

    next : (entered : List ℕ) → along S j (frame 0 (front entered)) (frame 0 (one entered ∷ rest entered))
        ≡ risen_at S j (frame 0 (table_of held (room_of masks levels₀ entered)))
    next entered =
        ap (λ (ahead : List Blocker). along S j (frame 0 (front entered)) (frame 0 ahead)) (sym (next_blocker (room_of masks levels entered) held place l))
        ∙ walk.left entered

    tested : (entered : List ℕ) {b : Bool}
        → eqb (get_or levels place 0) j and each_covered S (blockers_from (unstamped_room masks levels) held 0) j (get_or masks place 0) ≡ b
        → rises S (frame 0 (front entered ++ one entered ∷ rest entered)) j (one entered) ≡ b
    tested entered e =
        ap (λ (table : List Blocker). rises S (frame 0 table) j (one entered)) (table_apart (room_of masks levels entered) held place l)
        ∙ rises_told S j walk.positive masks levels entered held (one entered)
        ∙ e

    pass : eqb (get_or levels place 0) j and each_covered S (blockers_from (unstamped_room masks levels) held 0) j (get_or masks place 0) ≡ false
        → Walk S j held upto end masks low places levels₀ (place + 1) levels
    pass f = record {
      within = omega arith;
      positive = walk.positive;
      index = walk.index;
      long = walk.long;
      behind = walk.behind;
      was = walk.was;
      left = λ entered.
          ap (λ (passed : List Blocker). along S j (frame 0 passed) (frame 0 (rest entered))) (sym (one_more (room_of masks levels entered) place))
          ∙ sym (pass_one S j (front entered) (one entered) (rest entered) (tested entered f))
          ∙ next entered;
    }

    rise : eqb (get_or levels place 0) j ≡ true → each_covered S (blockers_from (unstamped_room masks levels) held 0) j (get_or masks place 0) ≡ true
        → {levels' : List ℕ} → RisenIn place held masks levels levels' → length levels' ≡ length levels
        → Walk S j held upto end masks low places levels₀ (place + 1) levels'
    unfolding ◌and◌
    rise e t {levels'} change long = record {
      within = omega arith;
      positive = walk.positive;
      index = record {
        in_masks = walk.index.in_masks;
        in_levels = omega (arith, walk.index.in_levels);
        in_low = walk.index.in_low;
        in_places = walk.index.in_places;
        within = walk.index.within;
        held_places = walk.index.held_places;
        halves = walk.index.halves;
        every = λ p h high. walk.index.every p h (was_now p (omega (arith, walk.index.within)) high);
      };
      long = long ∙ walk.long;
      behind = change.behind ∙ walk.behind;
      was = λ i h high. walk.was i h (was_now i h high);
      left = λ entered. moved entered ∙ next entered;
    }
      where
        was_now : (i : ℕ) → i < held → j ≤ get_or levels' i 0 → j ≤ get_or levels i 0
        was_now i h high = by (ℕ_discrete i place)
          where
            by : Dec (i ≡ place) → j ≤ get_or levels i 0
            by (yes same) = rw same (omega (arith, eqb-true (get_or levels place 0) j e))
            by (no other) = sunk_was _ _ _ _ j walk.positive (rw (change.others i h other) at high)

        positive_level : ltb 0 (get_or levels place 0) ≡ true
        positive_level = lt-ltb 0 (get_or levels place 0) (omega (arith, eqb-true (get_or levels place 0) j e, walk.positive))

        moved : (entered : List ℕ)
            → along S j (frame 0 (blockers_from (room_of masks levels' entered) (place + 1) 0))
            (frame 0 (blockers_from (room_of masks levels' entered) (held - (place + 1)) (place + 1)))
            ≡ along S j (frame 0 (front entered)) (frame 0 (one entered ∷ rest entered))
        moved entered =
            let Y : Blocker = risen (one entered) in
            let passed : blockers_from (room_of masks levels' entered) (place + 1) 0 ≡ sunken Y (front entered) ++ Y ∷ [] =
            sym (one_more (room_of masks levels' entered) place)
            ∙ ap₂ (λ (table : List Blocker) (b : Blocker). table ++ b ∷ [])
            (sunken_part masks levels levels' entered change place 0 (omega arith) (λ i a b. omega arith))
            (risen_there masks levels levels' entered change) in
            let ahead : blockers_from (room_of masks levels' entered) (held - (place + 1)) (place + 1) ≡ sunken Y (rest entered) =
            sunken_part masks levels levels' entered change (held - (place + 1)) (place + 1) (omega arith) (λ i a b. omega arith) in
            ap₂ (λ (first later : List Blocker). along S j (frame 0 first) (frame 0 later)) passed ahead
            ∙ ap (λ (first : List Blocker). along S j first (frame 0 (sunken Y (rest entered)))) (frame_last S j (sunken Y (front entered)) Y [] (risen_up (one entered)))
            ∙ sym (rise_one S j (front entered) (one entered) (rest entered) positive_level (tested entered (rw e t)))

  -- to the next place of this level, past others
  skip : {from : ℕ} {levels : List ℕ} → Walk S j held upto end masks low places levels₀ from levels → {r : ℕ}
      → Passed (λ other. eqb other j) levels from held r → Walk S j held upto end masks low places levels₀ r levels
  unfolding ◌and◌
  skip {from} {levels} walk {r} before = subst (λ (k : ℕ). Walk S j held upto end masks low places levels₀ k levels) whole (far (r - from) (omega (arith, before.begins)))
    where
      whole : from + (r - from) ≡ r
      whole = omega (arith, before.begins)

      far : (n : ℕ) → from + n ≤ r → Walk S j held upto end masks low places levels₀ (from + n) levels
      far zero h = let e : from ≡ from + zero = omega arith in subst (λ (k : ℕ). Walk S j held upto end masks low places levels₀ k levels) e walk
      far (suc n) h =
          let e : from + n + 1 ≡ from + suc n = omega arith in
          subst (λ (k : ℕ). Walk S j held upto end masks low places levels₀ k levels) e
          (pass (far n (omega arith)) (omega (arith, before.within)) (rw (before.passed (from + n) (omega arith) (omega arith))))

-- the walk at its end
finished : {S : System} {j held upto end : ℕ} {masks low places levels₀ : List ℕ} {place : ℕ} {levels : List ℕ}
    → Walk S j held upto end masks low places levels₀ place levels → held ≤ place → LevelRisen S j held masks levels₀ levels
unfolding frame keep
finished {S} {j} {held} {upto} {end} {masks} {low} {places} {levels₀} {place} {levels} walk l =
    let same : held ≡ place = omega (arith, walk.within) in
    record {
      behind = walk.behind;
      was = walk.was;
      table = λ entered.
          ap (λ (count : ℕ). frame 0 (table_of count (room_of masks levels entered))) same
          ∙ sym (along_ends S j (frame 0 (table_of place (room_of masks levels entered))))
          ∙ ap (λ (rest : List Blocker). along S j (frame 0 (table_of place (room_of masks levels entered))) (frame 0 rest))
          (sym (no_blocker (room_of masks levels entered) held place l))
          ∙ walk.left entered;
    }

module _ {S : System} {j held upto end : ℕ} {masks low places levels₀ : List ℕ} {from : ℕ} {levels : List ℕ}
    (walk : Walk S j held upto end masks low places levels₀ from levels) where
  pub walk_goes : {place : ℕ} → First (λ other. eqb other j) levels from held place → {levels' : List ℕ}
      → TriedIn (each_covered S (blockers_from (unstamped_room masks levels) held 0) j (get_or masks place 0)) place held masks levels levels'
      → length levels' ≡ length levels → Walk S j held upto end masks low places levels₀ (place + 1) levels'
  unfolding ◌and◌
  walk_goes {place} first {levels'} tried long = at (each_covered S (blockers_from (unstamped_room masks levels) held 0) j (get_or masks place 0)) refl
    where
      at : (b : Bool) → each_covered S (blockers_from (unstamped_room masks levels) held 0) j (get_or masks place 0) ≡ b
          → Walk S j held upto end masks low places levels₀ (place + 1) levels'
      at true e = rise (skip walk first.before) first.below first.passes e (tried.rises e) long
      at false e =
          subst (λ (new : List ℕ). Walk S j held upto end masks low places levels₀ (place + 1) new) (sym (tried.stays e))
          (pass (skip walk first.before) first.below (rw (first.passes, e)))

  pub walk_ends : Passed (λ other. eqb other j) levels from held held → LevelRisen S j held masks levels₀ levels
  walk_ends before = finished (skip walk before) (omega arith)
