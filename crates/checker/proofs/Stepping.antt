-- Which step is made: the allowance is used up, a case is pending, the level is open, or it is not. Assumes nothing.
use Prim.Native.Nat.{ℕ, ◌+◌, ◌≤◌, ◌<◌}
use mathlib.Core.Path.{◌≡◌, refl, sym, ap, ap₂, ◌∙◌}
use mathlib.Core.Bool.{Bool, true, false}
use mathlib.Core.List.{List, [], ◌∷◌}
use native.Mathlib.Omega.{arith}
use borrow.Author.Tests.{lt-ltb, le-ltb}
use lib.Dec.{ltb}
use lib.ListN.{length}
use Rattle.lists.specs.Tests.{choose}
use Rattle.automata.specs.Image.{initial_of, final_of}
use Rattle.machine.specs.Machine.{Pending, Configuration, Given, final_pending, step_on, step, Step, steps_lack, judge, advance}
use Rattle.machine.specs.Lent.{BlockerRoom, WordRoom, unstamped_room, blockers_from, pending_first, with_word}
use Rattle.machine.specs.Runs.{RunRecord, Stage, system_of, rooms_of, end_number, word_in}
use Rattle.machine.specs.Records.{configuration_of, after, working_step}
use Rattle.checker.specs.Stage.{stage, made_by, Ready, left_of, Leaves, Opened, ClosesLevel}
use Rattle.checker.proofs.Stages.{stopped_is}
use Rattle.checker.proofs.Opening.{open_is}
use Rattle.checker.proofs.Closing.{close_is}

module _ (image : List ℕ) {room : BlockerRoom} {word : WordRoom} {run : RunRecord} (ready : Ready (stage room word run)) (given : Given) where
  pub step_stops : {word' : WordRoom} {r : RunRecord} → given.allowance ≤ run.steps → Leaves (left_of run 2 0) (with_word run.pending [] word) r word'
      → stage room word' r ≡ working_step image given (stage room word run)
  unfolding working_step advance choose end_number word_in
  step_stops l leaves =
      stopped_is ready steps_lack refl leaves ∙ sym (rw (le-ltb run.steps given.allowance l))

  module _ (allowed : run.steps < given.allowance) where
    -- within the allowance a step is the machine's step
    pub step_works : {later : Stage} → later ≡ made_by (step (system_of image) given) (stage room word run)
        → later ≡ working_step image given (stage room word run)
    unfolding made_by working_step advance choose
    step_works made = made ∙ sym (rw (lt-ltb run.steps given.allowance allowed))

    module _ (nothing : run.pending ≤ 0) where
      -- with nothing pending, by whether the level is open
      on : (is_open : Bool) → run.is_open ≡ is_open
          → step (system_of image) given (configuration_of (stage room word run))
          ≡ step_on (system_of image) given (configuration_of (stage room word run)) [] is_open
      unfolding step pending_first
      on is_open e =
          let none : run.pending ≡ 0 = omega arith in
          ap₂ (λ (pending : List Pending) (opened : Bool). step_on (system_of image) given (configuration_of (stage room word run)) pending opened)
          (ap (pending_first word) none) e

      made_on : (is_open : Bool) → run.is_open ≡ is_open
          → made_by (λ (c : Configuration). step_on (system_of image) given c [] is_open) (stage room word run)
          ≡ working_step image given (stage room word run)
      unfolding made_by
      made_on is_open e =
          step_works (ap (λ (st : Step). after (stage room word run) (judge (rooms_of (stage room word run).tables) (configuration_of (stage room word run)) st))
          (sym (on is_open e)))

      pub step_closes : {room' : BlockerRoom} {r : RunRecord} → run.is_open ≡ true → ClosesLevel (system_of image) run r room room'
          → stage room' word r ≡ working_step image given (stage room word run)
      unfolding step_on made_by
      step_closes e closes = let none : run.pending ≡ 0 = omega arith in close_is none closes ∙ made_on true e

      pub step_opens : {word' : WordRoom} {r : RunRecord} → run.is_open ≡ false
          → Opened (ltb run.level (length word.cases)) run
          (final_pending (initial_of image) (final_of image ∷ []) (blockers_from (unstamped_room room.masks room.levels) run.held 0) (run.level + 1))
          word r word'
          → stage room word' r ≡ working_step image given (stage room word run)
      unfolding step_on made_by
      step_opens e leaves = open_is (initial_of image) (final_of image) ready leaves ∙ made_on false e
