-- The search for the lowest level that holds no blocker, and the close by what it finds. Assumes nothing.
use Prim.Native.Nat.{ℕ, ◌+◌, ◌≤◌, ◌<◌}
use mathlib.Core.Path.{◌≡◌, refl, sym, ap, fun_ext, ◌∙◌}
use mathlib.Core.Bool.{Bool, true, false}
use mathlib.Core.List.{List}
use mathlib.Core.Option.{Option, none, some}
use Rattle.std.specs.Prelude as Std
use Rattle.std.specs.Prelude.{MatchOption}
use Rattle.std.specs.Option.{IsSomeAnd}
use native.Mathlib.Omega.{arith}
use lib.Dec.{eqb}
use lib.ListN.{length, take}
use Rattle.lists.specs.Tests.{neg}
use Rattle.lists.specs.Lists.{any, first_from}
use Rattle.lists.proofs.Tests.{holds, fails}
use Rattle.lists.proofs.Lists.{first_from_some, first_from_least}
use Rattle.machine.specs.System.{System}
use Rattle.machine.specs.Machine.{Blocker, frame}
use Rattle.machine.specs.Lent.{BlockerRoom}
use Rattle.blockers.specs.Room.{HoldsRoom, table_of, Frames}
use Rattle.blockers.specs.declared.Level.{Level}
use Rattle.blockers.proofs.Parts.{part_none_at}
use Rattle.rising.specs.Risen.{risen_by, Becomes}
use Rattle.closing.specs.Close.{lowest_none, level_of, kept_by, is_empty, empty_level, closed_by, Closes}
use Rattle.rising.proofs.Composing.{becomes_table, becomes_holds, becomes_further, becomes_same}

-- what a search among the numbers from 1 to `top` has found, made a level, is what the machine's has
module _ (test : ℕ → Bool) (top : ℕ) where
  first_none : ((k : ℕ) → 1 ≤ k → k < top + 1 → test k ≡ false) → first_from test top 1 ≡ none
  first_none f = at (first_from test top 1) refl
    where
      at : (o : Option ℕ) → first_from test top 1 ≡ o → first_from test top 1 ≡ none
      at none e = e
      at (some j) e =
          let there = first_from_some test top 1 e in
          absurd (fails (f j there.0 (omega (arith, there.1))) there.2)

  pub found_first : (found : Std.Option ℕ) (Made : ℕ → Level → Type 0) (level : Std.Option Level)
      → MatchOption found ((k : ℕ) → 1 ≤ k → k < top + 1 → test k ≡ false)
      (λ j. (1 ≤ j) × (j < top + 1) × (test j ≡ true) × ((k : ℕ) → 1 ≤ k → k < j → test k ≡ false))
      → MatchOption found (level ≡ Std.None) (λ j. IsSomeAnd level (Made j))
      → ((j : ℕ) (l : Level) → Made j l → l.0 ≡ j)
      → level_of level ≡ first_from test top 1
  unfolding level_of
  found_first Std.None Made level f e is = ap level_of e ∙ sym (first_none f)
  found_first (Std.Some j) Made Std.None f e is = absurd e
  found_first (Std.Some j) Made (Std.Some l) f e is =
      ap (λ (k : ℕ). some k) (is j l e)
      ∙ sym (first_from_least test top 1 j f.0 (omega (arith, f.1)) (holds f.2) (λ k m h t. fails (f.3 k m h) t))

-- the close, by whether a level holds no blocker after the rises
module _ (S : System) (top : ℕ) {held count : ℕ} {room room' : BlockerRoom} (holds : HoldsRoom held room)
    (risen : Becomes held (risen_by S top (table_of held room)) room count room') (lowest : Std.Option Level) {used : List ℕ}
    (part : used ≡ take count room'.levels) (found : level_of lowest ≡ first_from (λ level. neg (any (λ other. eqb other level) used)) top 1) where
  same_level : empty_level S top (table_of held room) ≡ level_of lowest
  unfolding lowest_none
  same_level =
      let levels_hold : count ≤ length room'.levels = (becomes_holds risen holds).read.in_levels in
      ap (λ (table : List Blocker). lowest_none table top) (sym (becomes_table risen))
      ∙ ap (λ (test : ℕ → Bool). first_from test top 1) (fun_ext (λ level. part_none_at count room' level levels_hold))
      ∙ ap (λ (l : List ℕ). first_from (λ level. neg (any (λ other. eqb other level) l)) top 1) (sym part)
      ∙ sym found

  pub closes_full : lowest ≡ Std.None → Closes S top held room (record { held = count; empty = false }) room'
  unfolding kept_by is_empty level_of
  closes_full n =
      let o : empty_level S top (table_of held room) ≡ none = same_level ∙ ap level_of n in
      let all : Becomes held (closed_by S top (table_of held room)) room count room' =
      becomes_same risen (ap (λ (l : Option ℕ). kept_by (risen_by S top (table_of held room)) l) (sym o)) in
      record { count = all.count; tables = all.tables; few = all.few; answers = ap is_empty (sym o) }

  pub closes_empty : (level : Level) {count' : ℕ} {room'' : BlockerRoom} → lowest ≡ Std.Some level
      → Frames count level.0 room' count' room''
      → Closes S top held room (record { held = count'; empty = true }) room''
  unfolding kept_by is_empty level_of
  closes_empty level {count'} {room''} e frames =
      let o : empty_level S top (table_of held room) ≡ some level.0 = same_level ∙ ap level_of e in
      let change : Becomes count (frame level.0 (table_of count room')) room' count' room'' =
      record { count = frames.count; tables = frames.tables; few = frames.few } in
      let all : Becomes held (closed_by S top (table_of held room)) room count' room'' =
      becomes_same (becomes_further risen change)
      (ap (λ (table : List Blocker). frame level.0 table) (becomes_table risen)
      ∙ ap (λ (l : Option ℕ). kept_by (risen_by S top (table_of held room)) l) (sym o)) in
      record { count = all.count; tables = all.tables; few = all.few; answers = ap is_empty (sym o) }
