-- What a step leaves where it touches only one of the rooms, and what the record's bounds give. Assumes nothing.
use Prim.Native.Nat.{ℕ}
use mathlib.Core.Path.{◌≡◌, refl, sym, ap, ap₂, ◌∙◌}
use mathlib.Core.Bool.{Bool, true, false}
use mathlib.Core.List.{List, [], ◌∷◌}
use native.Mathlib.Omega.{arith}
use lib.ListN.{take}
use Rattle.lists.specs.Tests.{choose}
use Rattle.automata.specs.Image.{initial_of, final_of}
use Rattle.automata.specs.Answers.{ReadAs}
use Rattle.automata.specs.declared.image.Head.{Head}
use Rattle.machine.specs.Machine.{Blocker, blocked, final_pending, Outcome, Next, ends, comes_to, halted}
use Rattle.machine.specs.Lent.{BlockerRoom, WordRoom, unstamped_room, blockers_from, blockers_in, pending_first, column_back, placed, with_pending, with_word}
use Rattle.machine.specs.Runs.{RunRecord, end_number, number_of, record_of, word_in, word_left, tables_after}
use Rattle.machine.specs.Records.{configuration_of, after}
use Rattle.machine.proofs.LentTables.{blockers_length}
use Rattle.blockers.specs.Room.{Holds, HoldsRoom, table_of}
use Rattle.blockers.proofs.Parts.{part_unstamped}
use Rattle.blockers.proofs.Placing.{own_room, even_holds}
use Rattle.wordroom.specs.Room.{Holds as HoldsWord}
use Rattle.checker.specs.Stage.{stage, Ready, left_of, Leaves, Pends}

module _ {room : BlockerRoom} {word : WordRoom} {run : RunRecord} (ready : Ready (stage room word run)) where
  pub ready_holds : HoldsRoom run.held room
  ready_holds = even_holds ready.blocker_room ready.bounds.held

  pub ready_word : HoldsWord run.pending word
  ready_word =
      record {
        in_cases = omega (arith, ready.bounds.pending, ready.bounds.level);
        in_symbols = omega (arith, ready.bounds.pending, ready.bounds.level, ready.word_room);
      }

  -- the blockers stay: only the word room and the record change
  pub word_changes : (n : Next) {r : RunRecord} {word' : WordRoom} → (comes_to n).table ≡ table_of run.held room
      → word' ≡ word_left run.pending n word → r ≡ record_of n → stage room word' r ≡ after (stage room word run) n
  unfolding after tables_after
  word_changes n table word_is record_is = rw (word_is, record_is, table, own_room ready_holds)

  -- a stop: the word room is cleared, and nothing else of the record changes
  pub stopped_is : (o : Outcome) {r : RunRecord} {word' : WordRoom} → word_in o ≡ []
      → Leaves (left_of run (end_number o) 0) (with_word run.pending [] word) r word'
      → stage room word' r ≡ after (stage room word run) (ends o (halted (configuration_of (stage room word run))))
  unfolding word_left record_of number_of
  stopped_is o none leaves =
      word_changes (ends o (halted (configuration_of (stage room word run)))) refl
      (leaves.word_is ∙ ap (λ (found : List ℕ). with_word run.pending found word) (sym none))
      (leaves.record_is ∙ sym (rw (blockers_length room run.held 0)))

-- the blockers that are held, as masks and levels say them
pub held_is : {held : ℕ} {masks levels masks' levels' : List ℕ} → Holds held masks levels → masks' ≡ take held masks → levels' ≡ take held levels
    → blockers_in masks' levels' ≡ blockers_from (unstamped_room masks levels) held 0
held_is holds m l = ap₂ blockers_in m l ∙ part_unstamped holds

-- nothing in place of nothing
pub none_pending : (word : WordRoom) → with_pending 0 [] word ≡ word
unfolding with_pending column_back placed
none_pending word = refl

pub no_word : (word : WordRoom) → with_word 0 [] word ≡ word
unfolding with_word placed
no_word word = refl

-- F alone: it becomes pending exactly if it is not blocked at the level
module _ {image : List ℕ} {head : Head} (read : ReadAs image head) (table : List Blocker) (level : ℕ) (told : Bool)
    (tells : told ≡ blocked head.initial table level head.finals) where
  test : told ≡ blocked (initial_of image) table level (final_of image)
  test = tells ∙ ap (λ (h : Head). blocked h.initial table level h.finals) read.read

  pub final_blocked : (word : WordRoom) → told ≡ true → Pends 0 (final_pending (initial_of image) (final_of image ∷ []) table level) 0 word word
  unfolding final_pending choose
  final_blocked word t = rw (sym test ∙ t) (record { counted = refl; word_is = sym (none_pending word) })

  pub final_free : (word word' : WordRoom) → told ≡ false
      → word' ≡ with_pending 0 (record { case = head.finals; symbol = 0 } ∷ pending_first word 0) word
      → Pends 0 (final_pending (initial_of image) (final_of image ∷ []) table level) 1 word word'
  unfolding final_pending choose pending_first
  final_free word word' t put =
      rw (sym test ∙ t)
      (record {
        counted = refl;
        word_is = put ∙ ap (λ (h : Head). with_pending 0 (record { case = h.finals; symbol = 0 } ∷ []) word) read.read;
      })
