-- What is asked of blockers is their mask and level alone: a table in which nobody said when they entered blocks the same cases for the same reasons, and
-- what does so gives the same answers. Assumes nothing.
use Prim.Native.Nat.{ℕ, zero, suc}
use mathlib.Core.Path.{◌≡◌, refl, ap, ap₂, fun_ext, ◌∙◌}
use mathlib.Core.Bool.{Bool}
use mathlib.Core.List.{List, [], ◌∷◌, ◌++◌}
use mathlib.Core.Option.{Option, none, some}
use lib.Dec.{eqb}
use lib.ListN.{get_or}
use Rattle.lists.specs.Tests.{◌and◌, ◌or◌, neg, choose}
use Rattle.lists.specs.Lists.{any, each_from}
use Rattle.masks.specs.Sets.{subset, union, single, member, within}
use Rattle.machine.specs.System.{System}
use Rattle.machine.specs.Machine.{Blocker, Pending, covers, blocked, final_pending, pending_after, settled, qualifies, passes, rises}
use Rattle.machine.specs.Machine.{with_state, with_states, by_states, chosen_from}
use Rattle.machine.specs.Why.{Reason, by_blocker, by_start, nothing, first_covering, why}
use Rattle.machine.specs.Lent.{BlockerRoom, blocker_at, blockers_from, unstamped_room, column, mask_of}
use Rattle.machine.specs.Hitting.{RowSource, cover_by, cover, cases_outside, cases_from, forbidden, with_cases, to_meet, others, picked, by_hitting_set, growth_of}

-- a case that is covered is so by masks and levels
any_unstamped : (room : BlockerRoom) (i X count at : ℕ)
    → any (covers i X) (blockers_from (unstamped_room room.masks room.levels) count at) ≡ any (covers i X) (blockers_from room count at)
unfolding any covers blockers_from
any_unstamped room i X zero at = refl
any_unstamped room i X (suc count) at =
    ap (λ (later : Bool). covers i X (blocker_at room at) or later) (any_unstamped room i X count (suc at))

first_unstamped : (room : BlockerRoom) (i X place count at : ℕ)
    → first_covering i X place (blockers_from (unstamped_room room.masks room.levels) count at) ≡ first_covering i X place (blockers_from room count at)
unfolding first_covering covers blockers_from
first_unstamped room i X place zero at = refl
first_unstamped room i X place (suc count) at =
    ap (λ (later : Reason). choose (covers i X (blocker_at room at)) (by_blocker place (blocker_at room at).level) later)
    (first_unstamped room i X (suc place) count (suc at))

masks_unstamped : (room : BlockerRoom) (count at : ℕ)
    → column mask_of (blockers_from (unstamped_room room.masks room.levels) count at) ≡ column mask_of (blockers_from room count at)
unfolding column blockers_from
masks_unstamped room zero at = refl
masks_unstamped room (suc count) at = ap (λ (later : List ℕ). (blocker_at room at).mask ∷ later) (masks_unstamped room count (suc at))

-- two tables block the same cases, for the same reasons, and have the same masks
pub record BlockAlike (initial : ℕ) (table other : List Blocker) : Type 0 where
  pub alike : blocked initial table ≡ blocked initial other
  pub reasons : why initial table ≡ why initial other
  pub masks : column mask_of table ≡ column mask_of other

-- the law: masks and levels alone do so
pub unstamped_blocks : (initial : ℕ) (room : BlockerRoom) (count at : ℕ)
    → BlockAlike initial (blockers_from (unstamped_room room.masks room.levels) count at) (blockers_from room count at)
unfolding blocked why
unstamped_blocks initial room count at =
    record {
      alike = fun_ext (λ i. fun_ext (λ X. test i X));
      reasons = fun_ext (λ i. fun_ext (λ X. reason i X));
      masks = masks_unstamped room count at;
    }
  where
    test : (i X : ℕ)
        → blocked initial (blockers_from (unstamped_room room.masks room.levels) count at) i X
        ≡ blocked initial (blockers_from room count at) i X
    test zero X = refl
    test (suc i) X = any_unstamped room (suc i) X count at

    reason : (i X : ℕ)
        → why initial (blockers_from (unstamped_room room.masks room.levels) count at) i X ≡ why initial (blockers_from room count at) i X
    reason zero X = refl
    reason (suc i) X = first_unstamped room (suc i) X 0 count at

module _ {initial : ℕ} {table other : List Blocker} (both : BlockAlike initial table other) where
  pub same_finals : (finals : List ℕ) (N : ℕ) → final_pending initial finals table N ≡ final_pending initial finals other N
  unfolding final_pending
  same_finals [] N = refl
  same_finals (F ∷ finals) N =
      ap₂ (λ (b : Bool) (later : List Pending). choose b later (record { case = F; symbol = 0 } ∷ []))
      (ap (λ (test : ℕ → ℕ → Bool). test N F) both.alike) (same_finals finals N)

  pub same_after : (finals : List ℕ) (N : ℕ) (rest : List Pending)
      → pending_after initial finals table N rest ≡ pending_after initial finals other N rest
  unfolding pending_after
  same_after finals N [] = same_finals finals N
  same_after finals N (p ∷ rest) = refl

module _ (S : System) {table other : List Blocker} (both : BlockAlike S.initial table other) where
  pub same_qualifies : (below X : ℕ) → qualifies S table below X ≡ qualifies S other below X
  unfolding qualifies settled
  same_qualifies below X =
      ap (λ (test : ℕ → ℕ → Bool). λ (s : ℕ). neg (subset (S.backward s X) X or test below (S.backward s X))) both.alike

  same_passes : passes S table ≡ passes S other
  unfolding passes settled
  same_passes =
      ap (λ (test : ℕ → ℕ → Bool). λ (below X Y : ℕ).
      subset X Y and neg (subset S.initial Y) and within S.states Y
      and each_from (λ s. subset (S.backward s Y) Y or test below (S.backward s Y)) S.symbols 0)
      both.alike

  same_states : (below X count q Y : ℕ) → with_states S table below X count q Y ≡ with_states S other below X count q Y
  unfolding with_states with_state
  same_states below X zero q Y = refl
  same_states below X (suc count) q Y =
      ap (λ (test : ℕ → ℕ → ℕ → Bool). with_states S table below X count (suc q)
      (choose (neg (member q X) and test below X (union Y (single q))) (union Y (single q)) Y)) same_passes
      ∙ same_states below X count (suc q) _

  same_cover_by : (X : ℕ) (reason : Reason) → cover_by S.states table X reason ≡ cover_by S.states other X reason
  unfolding cover_by
  same_cover_by X (by_blocker place level) = ap (λ (masks : List ℕ). get_or masks place 0) both.masks
  same_cover_by X (by_start q) = refl
  same_cover_by X nothing = refl

  same_cover : (below X P : ℕ) → cover S.states S.initial table below X P ≡ cover S.states S.initial other below X P
  unfolding cover
  same_cover below X P =
      ap (λ (reasons : ℕ → ℕ → Reason). choose (subset P X) X (cover_by S.states table X (reasons below P))) both.reasons
      ∙ ap (choose (subset P X) X) (same_cover_by X (why S.initial other below P))

  module _ (rows : RowSource) (below X : ℕ) where
    same_cases : (count s : ℕ) → cases_from S rows table below X count s ≡ cases_from S rows other below X count s
    unfolding cases_from
    same_cases zero s = refl
    same_cases (suc count) s =
        ap₂ (λ (b : ℕ) (later : List ℕ). cases_outside b (rows s) ++ later) (same_cover below X (S.backward s X)) (same_cases count (suc s))

    same_grown : (way : ℕ) → growth_of way S rows table below X ≡ growth_of way S rows other below X
    unfolding growth_of by_states by_hitting_set to_meet forbidden
    same_grown zero = same_states below X S.states 0 X
    same_grown (suc way) =
        ap (λ (cases : List ℕ). others S.states (picked S.states (with_cases X [] (S.initial ∷ cases)))) (same_cases S.symbols 0)

  pub same_chosen : (rows : RowSource) (way below X : ℕ) (hint : Option ℕ)
      → chosen_from S (growth_of way S rows) table below X hint ≡ chosen_from S (growth_of way S rows) other below X hint
  unfolding chosen_from
  same_chosen rows way below X none = ap (λ (mask : ℕ). record { mask = mask; hinted = 0 }) (same_grown rows below X way)
  same_chosen rows way below X (some hint) =
      ap₂ (λ (test : ℕ → ℕ → ℕ → Bool) (mask : ℕ).
      choose (test below X hint) (record { mask = hint; hinted = 1 }) (record { mask = mask; hinted = 0 }))
      same_passes (same_grown rows below X way)

  pub same_rises : (j : ℕ) (blocker : Blocker) → rises S table j blocker ≡ rises S other j blocker
  unfolding rises
  same_rises j blocker =
      ap (λ (test : ℕ → ℕ → Bool). eqb blocker.level j and each_from (λ s. test j (S.backward s blocker.mask)) S.symbols 0) both.alike
