-- The levels from 1 on, where the rises go by an index and blockers sink. Assumes nothing.
use Prim.Native.Nat.{ℕ, suc, ◌+◌, ◌-◌, ◌<◌}
use mathlib.Core.Path.{◌≡◌, sym, ap, ap₂, subst, ◌∙◌}
use mathlib.Core.List.{List}
use native.Mathlib.Numerals.{add-one}
use native.Mathlib.Omega.{arith}
use lib.ListN.{length, drop}
use Rattle.machine.specs.System.{System}
use Rattle.machine.specs.Machine.{Blocker, rise_levels, frame}
use Rattle.machine.specs.Lent.{room_of}
use Rattle.blockers.specs.Room.{table_of}
use Rattle.rising.specs.Risen.{risen_by}
use Rattle.indexing.specs.Index.{Index}
use Rattle.sinking.specs.Sunk.{LevelRisen, AllRisen}

-- The rises before level j: what the levels from j on make of the table as it stands is what all make of the first, and from level 2 on the index is one
-- for level j.
pub record Indexed (S : System) (top held : ℕ) (masks levels₀ : List ℕ) (j upto end : ℕ) (low places levels : List ℕ) : Type 0 where
  pub index : 1 < j → Index j held upto end masks levels low places
  pub long : length levels ≡ length levels₀
  pub behind : drop held levels ≡ drop held levels₀
  pub left : (entered : List ℕ) → rise_levels S ((top + 1) - j) j (frame 0 (table_of held (room_of masks levels entered)))
      ≡ risen_by S top (frame 0 (table_of held (room_of masks levels₀ entered)))

module _ {S : System} {top held : ℕ} {masks levels₀ : List ℕ} {j upto end : ℕ} {low places levels : List ℕ}
    (so_far : Indexed S top held masks levels₀ j upto end low places levels) where
  pub indexed_goes : j < top + 1 → {upto' end' : ℕ} {low' places' : List ℕ} → Index j held upto' end' masks levels low' places'
      → {levels' : List ℕ} → LevelRisen S j held masks levels levels' → length levels' ≡ length levels
      → Indexed S top held masks levels₀ (j + 1) upto' end' low' places' levels'
  unfolding rise_levels
  indexed_goes l index {levels'} risen long =
      let e : (top + 1) - j ≡ suc ((top + 1) - (j + 1)) = omega arith in
      record {
        index = λ h. record {
          in_masks = index.in_masks;
          in_levels = omega (arith, index.in_levels);
          in_low = index.in_low;
          in_places = index.in_places;
          within = index.within;
          held_places = index.held_places;
          halves = index.halves;
          every = λ p h high. index.every p h (risen.was p (omega (arith, index.within)) (omega arith));
        };
        long = long ∙ so_far.long;
        behind = risen.behind ∙ so_far.behind;
        left = λ entered.
            ap₂ (λ (at : ℕ) (table : List Blocker). rise_levels S ((top + 1) - (j + 1)) at table) (add-one j) (risen.table entered)
            ∙ ap (λ (turns : ℕ). rise_levels S turns j (frame 0 (table_of held (room_of masks levels entered)))) (sym e)
            ∙ so_far.left entered;
      }

-- after the last level; the masks are those that were lent
pub indexed_ends : {S : System} {top : ℕ} {masks masks' levels₀ : List ℕ} {j upto end : ℕ} {low places levels : List ℕ}
    → Indexed S top (length masks) masks levels₀ j upto end low places levels → top < j → masks ≡ masks'
    → AllRisen S top (length masks') masks' levels₀ levels
unfolding rise_levels
indexed_ends {S} {top} {masks} {masks'} {levels₀} {j} {levels = levels} so_far l same =
    let e : 0 ≡ (top + 1) - j = omega arith in
    subst (λ (m : List ℕ). AllRisen S top (length m) m levels₀ levels) same (record {
      behind = so_far.behind;
      table = λ entered.
          ap (λ (turns : ℕ). rise_levels S turns j (frame 0 (table_of (length masks) (room_of masks levels entered)))) e ∙ so_far.left entered;
    })
