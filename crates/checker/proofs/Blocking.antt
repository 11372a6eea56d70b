-- The ways through a block: the set finds no place, or it enters and the pending case leaves. Assumes nothing.
use Prim.Native.Nat.{ℕ, zero, suc, ◌+◌, ◌-◌, ◌≤◌}
use mathlib.Core.Path.{◌≡◌, refl, sym, ap, ap₂, subst, ◌∙◌}
use mathlib.Core.Bool.{Bool}
use mathlib.Core.List.{List, [], ◌∷◌}
use native.Mathlib.Numerals.{add-one}
use native.Mathlib.Omega.{arith}
use lib.ListN.{length, take}
use Rattle.std.specs.Prelude.{Option, Some, None}
use Rattle.lists.specs.Tests.{choose}
use Rattle.automata.specs.Image.{initial_of, final_of, rows_of}
use Rattle.machine.specs.Machine.{Blocker, Pending, Configuration, hint_at, chosen_from, chosen, final_pending, pending_after, block_step, blockers_lack, judge}
use Rattle.machine.specs.Lent.{BlockerRoom, case_of, symbol_of, column_back, WordRoom, unstamped_room, blockers_from, blockers_in, pending_first, with_pending, with_word}
use Rattle.machine.specs.Runs.{Terms, RunRecord, Stage, system_of, given_of, end_number, number_of, record_of, word_in, word_left, tables_after}
use Rattle.machine.specs.Hitting.{growth_of}
use Rattle.machine.specs.Records.{configuration_of, after}
use Rattle.machine.proofs.LentTables.{pending_length, placed_length, column_back_length, read_back_placed, pending_again, own_pending}
use Rattle.blockers.specs.Room.{HoldsRoom, table_of, entering, Enters}
use Rattle.blockers.specs.declared.Level.{Level}
use Rattle.blockers.proofs.Parts.{part_alike}
use Rattle.machine.proofs.Unstamped.{unstamped_blocks, same_after, same_chosen}
use Rattle.blockers.proofs.Closing.{long_holds}
use Rattle.blockers.proofs.Placing.{even_holds, placed_table, placed_long}
use Rattle.blockers.proofs.Changes.{held_room, held_count, held_fits, held_placed, full_room, full_room_stays}
use Rattle.choices.specs.Found.{choice_of}
use Rattle.choices.specs.declared.Choice.{Choice}
use Rattle.wordroom.specs.Room.{Holds as HoldsWord}
use Rattle.checker.specs.Stage.{stage, made_by, block_of, Ready, left_of, blocked_of, Leaves, Unpends, Pends}
use Rattle.checker.proofs.Stages.{ready_holds, stopped_is}

-- what stays pending, or F where nothing does
pub after_none : (initial finals : ℕ) (word word' : WordRoom) (table : List Blocker) (level rest count : ℕ) → rest ≡ 0
    → Pends 0 (final_pending initial (finals ∷ []) table level) count word word'
    → Pends rest (pending_after initial (finals ∷ []) table level (pending_first word rest)) count word word'
unfolding pending_after pending_first
after_none initial finals word word' table level rest count e p = rw e p

pub after_some : (initial finals : ℕ) (word : WordRoom) (table : List Blocker) (level rest : ℕ) → (rest ≡ 0 → ⊥) → HoldsWord (rest + 1) word
    → Pends rest (pending_after initial (finals ∷ []) table level (pending_first word rest)) rest word word
after_some initial finals word table level zero n holds = absurd (n refl)
after_some initial finals word table level (suc rest) n holds =
    subst (λ (pending : List Pending). Pends (suc rest) pending (suc rest) word word) (sym stays)
    (record {
      counted = sym (pending_length word (suc rest));
      word_is = sym (own_pending word (suc rest) (omega (arith, holds.in_cases)) (omega (arith, holds.in_symbols)));
    })
  where
    stays : pending_after initial (finals ∷ []) table level (pending_first word (suc rest)) ≡ pending_first word (suc rest)
    stays = unfold pending_after pending_first in refl

-- the lowest pending case leaves, and its place stays
pub popped_room : {count : ℕ} {word word' : WordRoom} → HoldsWord count word → 1 ≤ count
    → word' ≡ with_pending count (pending_first word (count - 1)) word → HoldsWord (count - 1 + 1) word'
unfolding with_pending
popped_room {count} {word} holds one popped =
    let few : length (pending_first word (count - 1)) ≤ count = omega (arith, pending_length word (count - 1)) in
    record {
      in_cases = omega (
        arith,
        ap (λ (x : WordRoom). length x.cases) popped,
        placed_length count (column_back case_of (pending_first word (count - 1))) word.cases holds.in_cases
            (omega (arith, holds.in_cases, column_back_length case_of (pending_first word (count - 1)))),
        holds.in_cases,
      );
      in_symbols = omega (
        arith,
        ap (λ (x : WordRoom). length x.symbols) popped,
        placed_length count (column_back symbol_of (pending_first word (count - 1))) word.symbols holds.in_symbols
            (omega (arith, holds.in_symbols, column_back_length symbol_of (pending_first word (count - 1)))),
        holds.in_symbols,
      );
    }

-- then the cases above it or F stand in the tables
module _ (initial finals : ℕ) (masks levels : List ℕ) {table : List Blocker} (level held count : ℕ) (hinted : Bool) (run : RunRecord)
    (word word₁ word' : WordRoom) (held_table : table ≡ blockers_from (unstamped_room masks levels) held 0)
    (popped : word₁ ≡ with_pending run.pending (pending_first word (run.pending - 1)) word)
    (pends : Pends (run.pending - 1) (pending_after initial (finals ∷ []) table level (pending_first word₁ (run.pending - 1)))
    count word₁ word') where
  rest : List Pending
  rest = pending_first word (run.pending - 1)

  same_rest : pending_first word₁ (run.pending - 1) ≡ pending_first word (run.pending - 1)
  unfolding rest
  same_rest =
      ap₂ pending_first popped (sym (pending_length word (run.pending - 1))) ∙ read_back_placed rest run.pending word

  pub unpend_is : (r : RunRecord) → r ≡ blocked_of run held count hinted
      → Unpends run held hinted (pending_after initial (finals ∷ []) (blockers_from (unstamped_room masks levels) held 0) level (pending_first word (run.pending - 1)))
      word r word'
  unfolding rest
  unpend_is r e =
      let pends' = rw (same_rest, held_table) at pends in
      record {
        record_is = e ∙ ap (λ (k : ℕ). blocked_of run held k hinted) pends'.counted;
        word_is = pends'.word_is ∙ ap (with_pending (run.pending - 1) _) popped
            ∙ pending_again run.pending (run.pending - 1) rest _ [] word (pending_length word (run.pending - 1)) (omega arith);
      }

-- where it has entered, as many places are in use as are held then
module _ {room : BlockerRoom} {word : WordRoom} {run : RunRecord} (ready : Ready (stage room word run)) {Y : Blocker} {answer : Option ℕ} {room' : BlockerRoom}
    (enters : Enters run.held Y room answer room') {held : ℕ} (e : answer ≡ Some held) where
  pub entered_holds : HoldsRoom held room'
  entered_holds =
      let new : List Blocker = entering Y (table_of run.held room) in
      let fits : length new ≤ length room.masks = omega (arith, held_fits enters e, held_count enters e) in
      long_holds (placed_long run.held room new (held_placed enters e) (ready_holds ready) (even_holds ready.blocker_room fits))
      (even_holds ready.blocker_room (held_fits enters e))

-- the chosen set enters or finds no place
module _ (initial finals : ℕ) {room : BlockerRoom} {word : WordRoom} {run : RunRecord} (ready : Ready (stage room word run)) (below : ℕ) (choice : Choice)
    {above : Level} (up : above.0 ≡ below + 1) {answer : Option ℕ} {room' : BlockerRoom}
    (enters : Enters run.held (record { mask = choice.mask; level = above.0; entered = run.steps + 1 }) room answer room') where
  Y : Blocker
  Y = record { mask = choice.mask; level = suc below; entered = suc run.steps }

  enters' : Enters run.held Y room answer room'
  unfolding Y
  enters' = rw (up, add-one below, add-one run.steps) at enters

  pub block_full : {word' : WordRoom} {r : RunRecord} → answer ≡ None → Leaves (left_of run 3 0) (with_word run.pending [] word) r word'
      → stage room' word' r
      ≡ made_by (λ (c : Configuration). block_step initial (finals ∷ []) c (pending_first word (run.pending - 1)) below (choice_of choice))
      (stage room word run)
  unfolding made_by judge choose block_step entering end_number word_in Y
  block_full e leaves =
      rw (full_room_stays enters' e (ready_holds ready))
      (stopped_is ready blockers_lack refl leaves ∙ sym (rw (full_room enters' e)))

  module _ {held : ℕ} (e : answer ≡ Some held) where
    new : List Blocker
    new = entering Y (table_of run.held room)

    table_is : table_of held room' ≡ new
    unfolding new
    table_is = ap (λ (k : ℕ). table_of k room') (held_count enters' e) ∙ placed_table run.held room new (held_placed enters' e)

    pub block_held : {word' : WordRoom} {r : RunRecord}
        → Unpends run held choice.hinted (pending_after initial (finals ∷ []) (blockers_from (unstamped_room room'.masks room'.levels) held 0) run.level (pending_first word (run.pending - 1)))
        word r word'
        → stage room' word' r
        ≡ made_by (λ (c : Configuration). block_step initial (finals ∷ []) c (pending_first word (run.pending - 1)) below (choice_of choice))
        (stage room word run)
    unfolding made_by judge choose block_step entering after tables_after word_left record_of number_of new Y
    block_held leaves =
        let leaves' = rw (same_after (unstamped_blocks initial room' held 0) (finals ∷ []) run.level (pending_first word (run.pending - 1)), table_is) at leaves in
        rw (held_placed enters' e, leaves'.word_is, leaves'.record_is, held_count enters' e, add-one run.steps, add-one run.blocks)
        (sym (rw (held_room enters' e)))

-- the choice is the machine's
module _ (image : List ℕ) {room : BlockerRoom} {word : WordRoom} {run : RunRecord} (ready : Ready (stage room word run)) (terms : Terms) (below X : ℕ)
    (choice : Choice) {table : List Blocker} (part : table ≡ blockers_in (take run.held room.masks) (take run.held room.levels))
    (chose : choice_of choice ≡ chosen_from (system_of image) (growth_of terms.way (system_of image) (rows_of image)) table below X (hint_at terms.hints run.blocks)) where
  chosen_here : chosen (system_of image) (given_of image terms) (configuration_of (stage room word run)) below X ≡ choice_of choice
  unfolding chosen
  chosen_here =
      sym (chose
      ∙ ap (λ (t : List Blocker). chosen_from (system_of image) (growth_of terms.way (system_of image) (rows_of image)) t below X (hint_at terms.hints run.blocks)) part
      ∙ same_chosen (system_of image) (part_alike (ready_holds ready) (initial_of image)) (rows_of image) terms.way below X (hint_at terms.hints run.blocks))

  pub block_is : {later : Stage}
      → later ≡ made_by (λ (c : Configuration). block_step (initial_of image) (final_of image ∷ []) c (pending_first word (run.pending - 1)) below (choice_of choice))
      (stage room word run)
      → later ≡ made_by (block_of image terms (pending_first word (run.pending - 1)) below X) (stage room word run)
  unfolding made_by block_of
  block_is made = made ∙ rw chosen_here
