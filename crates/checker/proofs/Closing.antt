-- A close as a step of the run: it works on, or ends with the frame. Assumes nothing.
use Prim.Native.Nat.{ℕ}
use mathlib.Core.Path.{◌≡◌, refl, sym, ◌∙◌}
use mathlib.Core.Bool.{false}
use mathlib.Core.List.{[]}
use mathlib.Core.Option.{Option, none, some}
use native.Mathlib.Numerals.{add-one}
use Rattle.lists.specs.Tests.{choose}
use Rattle.machine.specs.System.{System}
use Rattle.machine.specs.Machine.{one_more, frame, close_with, close_step, empty, Next, goes_on, ends, comes_to, judge}
use Rattle.machine.specs.Lent.{BlockerRoom, WordRoom}
use Rattle.machine.specs.Runs.{RunRecord, end_number, number_of, record_of, word_in, word_left, tables_after}
use Rattle.machine.specs.Records.{configuration_of, after}
use Rattle.blockers.specs.Room.{table_of}
use Rattle.rising.specs.Risen.{risen_by}
use Rattle.closing.specs.Close.{lowest_none, kept_by, is_empty, empty_level, closed_by, Closes}
use Rattle.closing.specs.declared.Closed.{Closed}
use Rattle.checker.specs.Stage.{stage, made_by, counted_of, ClosesLevel}
use Rattle.checker.proofs.Stages.{none_pending, no_word}

-- what the close of a level leaves, from what the close of the blockers left
pub close_leaves : {S : System} {run counted : RunRecord} {closed : Closed} {answer : ℕ} {room room' : BlockerRoom}
    → Closes S run.level run.held room closed room' → answer ≡ choose closed.empty 0 6 → counted ≡ counted_of run answer 0
    → ClosesLevel S run
    (record { answer = counted.answer; steps = counted.steps; level = counted.level; is_open = false; held = closed.held; pending = counted.pending; blocks = counted.blocks; accepted = counted.accepted })
    room room'
close_leaves closes answers e = record { record_is = rw (e, answers, closes.answers, closes.count); tables = closes.tables }

-- with nothing pending it is the machine's close
module _ {S : System} {room : BlockerRoom} {word : WordRoom} {run r : RunRecord} (nothing : run.pending ≡ 0) {room' : BlockerRoom}
    (closes : ClosesLevel S run r room room') where
  -- the stage that shows a close with these blockers
  shown : (n : Next) → choose (is_empty (empty_level S run.level (table_of run.held room))) 0 6 ≡ number_of n
      → word_left 0 n word ≡ word
      → comes_to n ≡ one_more (configuration_of (stage room word run)) (closed_by S run.level (table_of run.held room)) run.level false []
      → stage room' word r ≡ after (stage room word run) n
  unfolding after tables_after record_of
  shown n number stays e = rw (closes.tables, closes.record_is, add-one run.steps, number, nothing, stays, e)

  at : (o : Option ℕ) → empty_level S run.level (table_of run.held room) ≡ o
      → stage room' word r ≡ made_by (close_step S) (stage room word run)
  unfolding made_by close_step close_with judge lowest_none kept_by is_empty choose number_of end_number word_in word_left
  at none e =
      shown (goes_on (one_more (configuration_of (stage room word run)) (risen_by S run.level (table_of run.held room)) run.level false []))
      (rw e) (none_pending word) (rw e) ∙ sym (rw e)
  at (some j) e =
      shown (ends empty (one_more (configuration_of (stage room word run)) (frame j (risen_by S run.level (table_of run.held room))) run.level false []))
      (rw e) (no_word word) (rw e) ∙ sym (rw e)

  pub close_is : stage room' word r ≡ made_by (close_step S) (stage room word run)
  close_is = at (empty_level S run.level (table_of run.held room)) refl
