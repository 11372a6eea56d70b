-- The walk along the table at one level: what it has passed and what is ahead of it are parts of the table as it stands. Assumes nothing.
use Prim.Native.Nat.{ℕ, zero, suc, ◌+◌, ◌-◌, ◌≤◌, ◌<◌}
use mathlib.Core.Path.{◌≡◌, refl, sym, ap, ap₂, ◌∙◌}
use mathlib.Core.Bool.{Bool, true, false}
use mathlib.Core.List.{List, [], ◌∷◌, ◌++◌, append-nil}
use native.Mathlib.Nat.{sub-zero}
use native.Mathlib.Omega.{arith}
use lib.Dec.{eqb→eq}
use lib.ListN.{length, take, get_or}
use Rattle.lists.specs.Tests.{neg}
use Rattle.lists.proofs.Tests.{holds, and_left}
use Rattle.lists.proofs.Lists.{keep_length}
use Rattle.machine.specs.System.{System}
use Rattle.machine.specs.Machine.{Blocker, leaves, staying, rises, risen, rise_along}
use Rattle.machine.specs.Lent.{BlockerRoom, room_of, blocker_at, blockers_from, unstamped_room, blockers_in}
use Rattle.blockers.specs.Room.{HoldsRoom, table_of, RisesAt}
use Rattle.blockers.proofs.Walks.{next_blocker, no_blocker}
use Rattle.blockers.proofs.Changes.{risen_passed, risen_ahead}
use Rattle.blockers.proofs.Parts.{part_rises_lem}
use Rattle.rising.specs.Risen.{risen_at, Becomes}
use Rattle.rising.proofs.Composing.{becomes_same, Changed, unchanged, changed_further}

-- some blockers, and those behind them
blockers_split : (room : BlockerRoom) (first second at : ℕ)
    → blockers_from room first at ++ blockers_from room second (at + first) ≡ blockers_from room (first + second) at
unfolding blockers_from
blockers_split room zero second at =
    let e : second ≡ zero + second = omega arith in
    let s : at + zero ≡ at = omega arith in
    ap (λ (k : ℕ). blockers_from room second k) s ∙ ap (λ (k : ℕ). blockers_from room k at) e
blockers_split room (suc first) second at =
    let e : at + suc first ≡ suc at + first = omega arith in
    let s : suc first + second ≡ suc (first + second) = omega arith in
    rw (e, s) (ap (λ (rest : List Blocker). blocker_at room at ∷ rest) (blockers_split room first second (suc at)))

-- one turn, by whether the blocker rises
module _ (S : System) (turns j : ℕ) (passed : List Blocker) (blocker : Blocker) (ahead : List Blocker) where
  turn_rises : rises S (passed ++ blocker ∷ ahead) j blocker ≡ true
      → rise_along S (suc turns) j passed (blocker ∷ ahead)
      ≡ rise_along S turns j (staying (risen blocker) passed ++ risen blocker ∷ []) (staying (risen blocker) ahead)
  unfolding rise_along
  turn_rises e = rw (e, rise_along)

  turn_stays : rises S (passed ++ blocker ∷ ahead) j blocker ≡ false
      → rise_along S (suc turns) j passed (blocker ∷ ahead) ≡ rise_along S turns j (passed ++ blocker ∷ []) ahead
  unfolding rise_along
  turn_stays e = rw (e, rise_along)

-- nothing is ahead
turns_end : (S : System) (turns j : ℕ) (passed : List Blocker) → rise_along S turns j passed [] ≡ passed
unfolding rise_along
turns_end S zero j passed = append-nil passed
turns_end S (suc turns) j passed = refl

-- no more blockers are ahead than were
staying_length : (Y : Blocker) (table : List Blocker) → length (staying Y table) ≤ length table
unfolding staying
staying_length Y table = keep_length (λ blocker. neg (leaves Y blocker)) table

-- a turn for each blocker ahead is enough
turns_enough : (S : System) (turns more j : ℕ) (passed ahead : List Blocker) → length ahead ≤ turns → length ahead ≤ more
    → rise_along S turns j passed ahead ≡ rise_along S more j passed ahead
turns_enough S zero more j passed [] l h = turns_end S 0 j passed ∙ sym (turns_end S more j passed)
turns_enough S zero more j passed (blocker ∷ ahead) l h = absurd (omega arith)
turns_enough S (suc turns) more j passed [] l h = turns_end S (suc turns) j passed ∙ sym (turns_end S more j passed)
turns_enough S (suc turns) zero j passed (blocker ∷ ahead) l h = absurd (omega arith)
turns_enough S (suc turns) (suc more) j passed (blocker ∷ ahead) l h =
    at (λ u v s t. turns_enough S turns more j u v s t) (rises S (passed ++ blocker ∷ ahead) j blocker) refl
  where
    at : ((u v : List Blocker) → length v ≤ turns → length v ≤ more → rise_along S turns j u v ≡ rise_along S more j u v)
        → (b : Bool) → rises S (passed ++ blocker ∷ ahead) j blocker ≡ b
        → rise_along S (suc turns) j passed (blocker ∷ ahead) ≡ rise_along S (suc more) j passed (blocker ∷ ahead)
    at rec true e =
        let short : length (staying (risen blocker) ahead) ≤ length ahead = staying_length (risen blocker) ahead in
        turn_rises S turns j passed blocker ahead e
        ∙ rec (staying (risen blocker) passed ++ risen blocker ∷ []) (staying (risen blocker) ahead) (omega arith) (omega arith)
        ∙ sym (turn_rises S more j passed blocker ahead e)
    at rec false e =
        turn_stays S turns j passed blocker ahead e
        ∙ rec (passed ++ blocker ∷ []) ahead (omega arith) (omega arith)
        ∙ sym (turn_stays S more j passed blocker ahead e)

-- the walk with a turn for each blocker ahead
unfoldable pub along : System → ℕ → List Blocker → List Blocker → List Blocker
along S j passed ahead = rise_along S (length ahead) j passed ahead

module _ (S : System) (j : ℕ) (passed : List Blocker) where
  pub along_ends : along S j passed [] ≡ passed
  unfolding along
  along_ends = turns_end S 0 j passed

  module _ (blocker : Blocker) (ahead : List Blocker) where
    pub along_rises : rises S (passed ++ blocker ∷ ahead) j blocker ≡ true
        → along S j passed (blocker ∷ ahead) ≡ along S j (staying (risen blocker) passed ++ risen blocker ∷ []) (staying (risen blocker) ahead)
    unfolding along
    along_rises e =
        let short : length (staying (risen blocker) ahead) ≤ length ahead = staying_length (risen blocker) ahead in
        turn_rises S (length ahead) j passed blocker ahead e
        ∙ turns_enough S (length ahead) (length (staying (risen blocker) ahead)) j (staying (risen blocker) passed ++ risen blocker ∷ [])
        (staying (risen blocker) ahead) short (omega arith)

    pub along_stays : rises S (passed ++ blocker ∷ ahead) j blocker ≡ false
        → along S j passed (blocker ∷ ahead) ≡ along S j (passed ++ blocker ∷ []) ahead
    unfolding along
    along_stays e = turn_stays S (length ahead) j passed blocker ahead e

-- the table as it stands, apart at a place
pub table_apart : (room : BlockerRoom) (held place : ℕ) → place < held
    → blockers_from room place 0 ++ blocker_at room place ∷ blockers_from room (held - (place + 1)) (place + 1) ≡ table_of held room
table_apart room held place l =
    let e : place + (held - place) ≡ held = omega arith in
    let s : place ≡ 0 + place = omega arith in
    ap (λ (rest : List Blocker). blockers_from room place 0 ++ rest) (sym (next_blocker room held place l))
    ∙ ap (λ (at : ℕ). blockers_from room place 0 ++ blockers_from room (held - place) at) s
    ∙ blockers_split room place (held - place) 0
    ∙ ap (λ (count : ℕ). table_of count room) e

pub one_more : (room : BlockerRoom) (place : ℕ) → blockers_from room place 0 ++ blocker_at room place ∷ [] ≡ blockers_from room (place + 1) 0
unfolding blockers_from
one_more room place =
    let s : place ≡ 0 + place = omega arith in
    ap (λ (at : ℕ). blockers_from room place 0 ++ blockers_from room 1 at) s ∙ blockers_split room place 1 0

-- The walk at level j before a place: the table as it stands took the first one's place, and what the walk makes of it is what it makes of the first.
pub record Walked (S : System) (first : BlockerRoom) (held j count place : ℕ) (room : BlockerRoom) : Type 0 where
  pub within : place ≤ count
  pub changed : Changed first held count room
  pub left : along S j (blockers_from room place 0) (blockers_from room (count - place) place) ≡ risen_at S j (table_of held first)

pub walk_starts : {S : System} {room : BlockerRoom} {held j : ℕ} → HoldsRoom held room → Walked S room held j held 0 room
unfolding along blockers_from
walk_starts {S} {room} {held} {j} holds = record {
  within = omega arith;
  changed = unchanged holds;
  left = ap (λ (count : ℕ). along S j [] (table_of count room)) (sub-zero held);
}

module _ {S : System} {first : BlockerRoom} {held j count place : ℕ} {room : BlockerRoom} (walked : Walked S first held j count place room) where
  pub walk_ends : count ≤ place → Becomes held (risen_at S j (table_of held first)) first count room
  walk_ends l =
      let all : place ≡ count = omega (arith, walked.within) in
      becomes_same walked.changed.becomes
      (ap (λ (k : ℕ). table_of k room) (sym all)
      ∙ sym (along_ends S j (blockers_from room place 0))
      ∙ ap (λ (rest : List Blocker). along S j (blockers_from room place 0) rest) (sym (no_blocker room count place l))
      ∙ walked.left)

  module _ (l : place < count) where
    abbrev ahead : List Blocker
    ahead = blockers_from room (count - (place + 1)) (place + 1)

    next : along S j (blockers_from room place 0) (blocker_at room place ∷ ahead) ≡ risen_at S j (table_of held first)
    next = ap (λ (rest : List Blocker). along S j (blockers_from room place 0) rest) (sym (next_blocker room count place l)) ∙ walked.left

    -- whether the blocker rises, by the blockers that are held; and so by the table that the walk has come to
    module _ {masks levels : List ℕ} (of_masks : masks ≡ take count room.masks) (of_levels : levels ≡ take count room.levels) {b : Bool}
        (test : b ≡ rises S (blockers_in masks levels) j (blocker_at (unstamped_room masks levels) place)) where
      tested : rises S (blockers_from room place 0 ++ blocker_at room place ∷ ahead) j (blocker_at room place) ≡ b
      tested =
          ap (λ (table : List Blocker). rises S table j (blocker_at room place)) (table_apart room count place l)
          ∙ sym (part_rises_lem walked.changed.holds S j l)
          ∙ sym (rw (of_masks, of_levels) at test)

      exactly : b ≡ true → get_or room.levels place 0 ≡ j
      unfolding rises
      exactly t = eqb→eq (get_or room.levels place 0) j (and_left _ _ (holds (tested ∙ t)))

      pub walk_passes : b ≡ false → Walked S first held j count (place + 1) room
      walk_passes f = record {
        within = omega arith;
        changed = walked.changed;
        left =
            ap (λ (passed : List Blocker). along S j passed ahead) (sym (one_more room place))
            ∙ sym (along_stays S j (blockers_from room place 0) (blocker_at room place) ahead (tested ∙ f))
            ∙ next;
      }

      pub walk_rises : {count' place' : ℕ} {room' : BlockerRoom} → RisesAt count place room count' place' room' → b ≡ true
          → Walked S first held j count' (place' + 1) room'
      walk_rises rise t = record {
        within = omega (arith, rise.below);
        changed = changed_further walked.changed (record { count = rise.count; tables = rise.tables; few = rise.few });
        left =
            ap₂ (λ (passed rest : List Blocker). along S j passed rest) (risen_passed rise) (risen_ahead rise)
            ∙ sym (along_rises S j (blockers_from room place 0) (blocker_at room place) ahead (tested ∙ t))
            ∙ next;
      }

-- one that rises is of the walk's level
pub rises_exactly : {S : System} {first : BlockerRoom} {held j count place : ℕ} {masks levels entered part_masks part_levels : List ℕ} {top : ℕ}
    → Walked S first held j count place (room_of masks levels entered) → place < count → j < top
    → part_masks ≡ take count masks → part_levels ≡ take count levels → {b : Bool} → b ≡ true
    → b ≡ rises S (blockers_in part_masks part_levels) j (blocker_at (unstamped_room part_masks part_levels) place) → get_or levels place 0 < top
rises_exactly walked l h of_masks of_levels t test = rw (exactly walked l of_masks of_levels test t) h
