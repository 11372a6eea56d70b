-- The ways through an open: the level equals the word room, or the level grows and F may become pending. Assumes nothing.
use Prim.Native.Nat.{ℕ, suc, ◌+◌, ◌≤◌, ◌<◌}
use mathlib.Core.Path.{◌≡◌, refl, sym, ap, subst, ◌∙◌}
use mathlib.Core.Bool.{Bool, true, false}
use mathlib.Core.List.{List, [], ◌∷◌}
use native.Mathlib.Numerals.{add-one}
use borrow.Author.Tests.{lt-ltb, le-ltb}
use lib.Dec.{ltb}
use lib.ListN.{length}
use Rattle.lists.specs.Tests.{choose}
use Rattle.machine.specs.Machine.{Blocker, Pending, final_pending, open_step, one_more, goes_on, word_lacks, judge}
use Rattle.machine.specs.Lent.{BlockerRoom, WordRoom, word_room_of, unstamped_room, blockers_from, with_word}
use Rattle.machine.specs.Runs.{RunRecord, end_number, number_of, record_of, word_in, word_left}
use Rattle.machine.specs.Records.{configuration_of}
use Rattle.machine.proofs.LentTables.{blockers_length}
use Rattle.machine.proofs.Unstamped.{unstamped_blocks, same_finals}
use Rattle.blockers.specs.Room.{table_of}
use Rattle.checker.specs.Stage.{stage, made_by, Ready, left_of, counted_of, Leaves, Opened, Pends}
use Rattle.checker.proofs.Stages.{word_changes, stopped_is}

-- what an open leaves, by the test of the word room
module _ (run : RunRecord) (cases symbols : List ℕ) {word' : WordRoom} where
  pub open_lacks : (pending : List Pending) {r : RunRecord} → length cases ≤ run.level
      → Leaves (left_of run 4 0) (with_word run.pending [] (word_room_of cases symbols)) r word'
      → Opened (ltb run.level (length cases)) run pending (word_room_of cases symbols) r word'
  open_lacks pending {r} l leaves = subst (λ (b : Bool). Opened b run pending (word_room_of cases symbols) r word') (sym (le-ltb _ _ l)) leaves

  pub open_goes : (initial finals : ℕ) (masks levels : List ℕ) {table : List Blocker} (count next : ℕ) (counted : RunRecord)
      → table ≡ blockers_from (unstamped_room masks levels) run.held 0 → run.level < length cases → run.pending ≡ 0 → next ≡ run.level + 1
      → Pends 0 (final_pending initial (finals ∷ []) table next) count (word_room_of cases symbols) word'
      → counted ≡ counted_of run 6 count
      → Opened (ltb run.level (length cases)) run
      (final_pending initial (finals ∷ []) (blockers_from (unstamped_room masks levels) run.held 0) (run.level + 1)) (word_room_of cases symbols)
      (record { answer = counted.answer; steps = counted.steps; level = next; is_open = true; held = counted.held; pending = counted.pending; blocks = counted.blocks; accepted = counted.accepted })
      word'
  open_goes initial finals masks levels count next counted held room nothing above pends e =
      let pends' = rw (held, above) at pends in
      subst (λ (b : Bool). Opened b run
      (final_pending initial (finals ∷ []) (blockers_from (unstamped_room masks levels) run.held 0) (run.level + 1)) (word_room_of cases symbols)
      (record { answer = counted.answer; steps = counted.steps; level = next; is_open = true; held = counted.held; pending = counted.pending; blocks = counted.blocks; accepted = counted.accepted })
      word') (sym (lt-ltb _ _ room))
      (record {
        record_is = rw (e, above, pends'.counted);
        word_is = pends'.word_is ∙ rw nothing;
      })

-- it is the machine's open
module _ (initial finals : ℕ) {room : BlockerRoom} {word : WordRoom} {run : RunRecord} (ready : Ready (stage room word run)) where
  -- the final case that becomes pending, by the table
  opened : List Pending
  opened = final_pending initial (finals ∷ []) (table_of run.held room) (suc run.level)

  opened_is : final_pending initial (finals ∷ []) (blockers_from (unstamped_room room.masks room.levels) run.held 0) (run.level + 1) ≡ opened
  unfolding opened
  opened_is =
      same_finals (unstamped_blocks initial room run.held 0) (finals ∷ []) (run.level + 1)
      ∙ ap (final_pending initial (finals ∷ []) (table_of run.held room)) (add-one run.level)

  pub open_is : {r : RunRecord} {word' : WordRoom}
      → Opened (ltb run.level (length word.cases)) run
      (final_pending initial (finals ∷ []) (blockers_from (unstamped_room room.masks room.levels) run.held 0) (run.level + 1)) word r word'
      → stage room word' r ≡ made_by (open_step initial (finals ∷ [])) (stage room word run)
  unfolding made_by judge choose open_step word_left word_in record_of number_of end_number opened
  open_is {r} {word'} = at (ltb run.level (length word.cases)) refl
    where
      at : (b : Bool) → ltb run.level (length word.cases) ≡ b
          → Opened b run
          (final_pending initial (finals ∷ []) (blockers_from (unstamped_room room.masks room.levels) run.held 0) (run.level + 1)) word r word'
          → stage room word' r ≡ made_by (open_step initial (finals ∷ [])) (stage room word run)
      at true e leaves =
          let leaves' = rw opened_is at leaves in
          word_changes ready (goes_on (one_more (configuration_of (stage room word run)) (table_of run.held room) (suc run.level) true opened))
          refl
          leaves'.word_is
          (rw (leaves'.record_is, add-one run.steps, add-one run.level, blockers_length room run.held 0))
          ∙ sym (rw e)
      at false e leaves = stopped_is ready word_lacks refl leaves ∙ sym (rw e)
