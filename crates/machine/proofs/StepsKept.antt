-- The promises of runs by steps: of a begin, of a step on whatever stands in record and tables, and of what begins and steps make, which is what 01's
-- machine shows by as many calls. A run at once is the steps that are all given the same. Assumes nothing.
use Prim.Native.Nat.{ℕ, zero, suc, ◌^◌, ◌≤◌}
use mathlib.Core.Path.{◌≡◌, refl, sym, ap, subst, ◌∙◌}
use mathlib.Core.Bool.{Bool, true, false}
use mathlib.Core.List.{List, [], ◌∷◌, ◌++◌, map}
use mathlib.Core.Logic.{◌⊎◌, inl, inr}
use native.Mathlib.Omega.{arith}
use lib.ListN.{length, replicate, length-map}
use Rattle.lists.specs.Lists.{Each, keep}
use Rattle.lists.proofs.Tests.{choose_true}
use Rattle.automata.specs.Image.{Valid, check, states_of}
use Rattle.automata.specs.Automaton.{automaton_of, HoldOne}
use Rattle.automata.specs.Acceptance.{Accepted}
use Rattle.machine.specs.Machine.{Configuration, Given, Outcome, Next, goes_on, ends, comes_to, chain, begin}
use Rattle.machine.specs.Lent.{Lent}
use Rattle.machine.specs.Runs.{Terms, Stage, system_of, given_of, rooms_of, end_number, number_of, record_of, shown, alone, check_run, run_of}
use Rattle.machine.specs.Records.{configuration_of, after, Called, answering, begin_with, begin_of}
use Rattle.machine.specs.Records.{broken, check_record, check_step, step_of, steps_from, reached_by, unrefused, given_by}
use Rattle.machine.specs.Promises.{Unbroken, Rules, RunEnded, Verdict, Decides, Agreed, OthersZero, BeginPromises, StepPromises, StepsPromises, RunBy, at_once, by_steps}
use Rattle.machine.proofs.Language.{Lawful}
use Rattle.machine.proofs.Steps.{Advanced, tried, spent as used_up, advanced}
use Rattle.machine.proofs.Verdicts.{none_shorter}
use Rattle.machine.proofs.Chains.{Done, AllSound, Works, Ended, chain_working, working_calls}
use Rattle.machine.proofs.Images.{image_lawful, none_shorter_by_runs}
use Rattle.machine.proofs.Judging.{number_low, results_agree, ended_done, ended_rules, ended_how, ended_decides}
use Rattle.machine.proofs.RunsKept.{given_each, given_sound, checked, run_number, refused_run, machine_run}
use Rattle.machine.proofs.AnyRecord.{unbroken_means, lengths_same, run_first, takes_checked, checked_passed, stepped}
use Rattle.machine.proofs.AnyRecord.{stepped_refused, stepped_finished, stepped_works, stepped_changes, stepped_takes, unworked_stays}
use Rattle.machine.proofs.RecordSteps.{begin_shown, begin_takes, steps_shown}

module _ (image : List ℕ) (lent : Lent) (terms : Terms) where
  begin_refuses : (check_run image lent terms ≡ 0 → ⊥)
      → begin_of image lent terms ≡ answering (alone lent (check_run image lent terms))
  unfolding begin_of begin_with
  begin_refuses = at (check_run image lent terms)
    where
      at : (number : ℕ) → (number ≡ 0 → ⊥) → begin_with image lent terms.edition number ≡ answering (alone lent number)
      at zero f = absurd (f refl)
      at (suc number) f = refl

  refused_stays : (check_run image lent terms ≡ 0 → ⊥) → (steps : List Terms)
      → reached_by image lent terms steps ≡ alone lent (check_run image lent terms)
  refused_stays f steps =
      ap (λ (called : Called). steps_from image called.left steps) (begin_refuses f) ∙ unworked_stays image _ not_six steps
    where
      not_six : check_run image lent terms ≡ 6 → ⊥
      not_six six = at (run_number image lent terms)
        where
          at : (check_run image lent terms ≡ 0) ⊎ (20 ≤ check_run image lent terms) → ⊥
          at (inl e) = f e
          at (inr l) = omega arith

  begin_begins : check_run image lent terms ≡ 0 → begin_of image lent terms ≡ answering (shown lent (begin (system_of image) terms.edition))
  unfolding begin_of begin_with
  begin_begins none =
      ap (begin_with image lent terms.edition) none
      ∙ ap (λ (tables : Lent). answering (record { tables = tables; run = record_of (begin (system_of image) terms.edition) }))
      (begin_shown (system_of image) lent (checked image lent terms none).even terms.edition)

  refused_zero : (check_run image lent terms ≡ 0 → ⊥) → OthersZero (begin_of image lent terms).left.run
  refused_zero f =
      subst (λ (called : Called). OthersZero called.left.run) (sym (begin_refuses f))
      (record { steps = refl; level = refl; is_open = refl; held = refl; pending = refl; blocks = refl; accepted = refl })

  pub begin_promises : BeginPromises image lent terms (begin_of image lent terms)
  begin_promises = record {
    refuses = begin_refuses;
    refused_zero = refused_zero;
    refused_stays = λ f steps. refused_stays f steps ∙ sym (ap (λ (called : Called). called.left) (begin_refuses f));
    begins = begin_begins;
  }

module _ (image : List ℕ) (terms : Terms) (at : Stage) where
  run_before : (check_run image at.tables terms ≡ 0 → ⊥) → check_step image terms at ≡ check_run image at.tables terms
  unfolding check_step
  run_before = run_first at (check_run image at.tables terms)

  takes_unbroken : check_run image at.tables terms ≡ 0 → Unbroken (rooms_of at.tables) at.run → check_step image terms at ≡ 0
  takes_unbroken none unbroken = takes_checked image terms (record { same = lengths_same at.tables; unbroken = unbroken }) ∙ none

  refuses_broken : check_run image at.tables terms ≡ 0 → (Unbroken (rooms_of at.tables) at.run → ⊥) → check_step image terms at ≡ 33
  unfolding check_step check_record check
  refuses_broken none f = ap (check_record at) none ∙ by (broken (rooms_of at.tables) at.run) refl
    where
      by : (b : Bool) → broken (rooms_of at.tables) at.run ≡ b → check b 33 0 ≡ 33
      by true e = refl
      by false e = absurd (f (unbroken_means _ _ e))

  -- a call whose allowance is used up makes no step
  spent_number : {n : Next} → Advanced (system_of image) (rooms_of at.tables) (given_of image terms) (configuration_of at) n → terms.allowance ≤ at.run.steps
      → number_of n ≡ 2
  unfolding number_of end_number
  spent_number (tried l j) h = absurd (omega arith)
  spent_number (used_up l) h = refl

  spent : check_step image terms at ≡ 0 → at.run.answer ≡ 6 → terms.allowance ≤ at.run.steps → (step_of image terms at).number ≡ 2
  unfolding after record_of
  spent none six l =
      ap (λ (called : Called). called.number) (stepped_works (stepped image terms at) none six)
      ∙ spent_number (advanced (system_of image) (rooms_of at.tables) (given_of image terms) (configuration_of at)) l

  taken_again : check_step image terms at ≡ 0 → (later : Terms) → check_run image at.tables later ≡ 0 → check_step image later (step_of image terms at).left ≡ 0
  taken_again e later none = takes_checked image later (stepped_takes (stepped image terms at) (checked_passed image terms at e).takes) ∙ none

  pub step_promises : StepPromises image terms at (step_of image terms at)
  step_promises =
      let s = stepped image terms at in
      record {
        run_first = run_before;
        takes_unbroken = takes_unbroken;
        refuses_broken = refuses_broken;
        refuses = stepped_refused s;
        finished = stepped_finished s;
        works = stepped_works s;
        spent = spent;
        changes = stepped_changes s;
        taken_again = taken_again;
      }

module _ (image : List ℕ) (lent : Lent) (begun : Terms) (steps : List Terms) (none : check_run image lent begun ≡ 0) where
  abbrev stands : Next
  stands = chain (system_of image) (rooms_of lent) (begin (system_of image) begun.edition) (given_by image lent steps)

  made_shows : reached_by image lent begun steps ≡ shown lent stands
  made_shows =
      let even = (checked image lent begun none).even in
      ap (λ (called : Called). steps_from image called.left steps) (begin_begins image lent begun none)
      ∙ steps_shown image lent even _ (begin (system_of image) begun.edition) refl (begin_takes (system_of image) lent even begun.edition) steps

  made_answer : (reached_by image lent begun steps).run.answer ≡ number_of stands
  unfolding record_of
  made_answer = ap (λ (at : Stage). at.run.answer) made_shows

  made_level : (reached_by image lent begun steps).run.level ≡ (comes_to stands).level
  unfolding record_of
  made_level = ap (λ (at : Stage). at.run.level) made_shows

  sound : AllSound (system_of image) (given_by image lent steps)
  sound = given_sound image (checked image lent begun none).valid (unrefused image lent steps)

  lawful : Lawful (system_of image)
  lawful = image_lawful image (checked image lent begun none).valid

  -- where the answer is 6 the machine works
  module _ (six : (reached_by image lent begun steps).run.answer ≡ 6) where
    works : Works stands
    unfolding number_of
    works = at stands refl
      where
        at : (n : Next) → stands ≡ n → Works stands
        at (goes_on c) e = record { at = c; is = e }
        at (ends o c) e = absurd (omega (arith, sym six ∙ made_answer ∙ ap number_of e, number_low o))

    works_no_more : 4 ^ suc (states_of image) ≤ length (unrefused image lent steps) → ⊥
    works_no_more many =
        omega (
          arith,
          length-map (unrefused image lent steps) (given_of image),
          working_calls (system_of image) lawful (rooms_of lent) begun.edition _ sound works.is,
        )

    -- and no accepted word is shorter than its level
    working_shows : (word : List ℕ) → Accepted (automaton_of image) word → (reached_by image lent begun steps).run.level ≤ length word
    working_shows word a =
        let w = chain_working (system_of image) lawful (rooms_of lent) begun.edition _ sound works.is in
        omega (
          arith,
          made_level ∙ ap (λ (n : Next). (comes_to n).level) works.is,
          none_shorter_by_runs image (checked image lent begun none).valid (none_shorter lawful w.holds) word a,
        )

  -- where the answer is not 6 the machine has ended
  module _ (f : (reached_by image lent begun steps).run.answer ≡ 6 → ⊥) where
    ended : Ended stands
    unfolding number_of
    ended = at stands refl
      where
        at : (n : Next) → stands ≡ n → Ended stands
        at (goes_on c) e = absurd (f (made_answer ∙ ap number_of e))
        at (ends o c) e = record { outcome = o; left = c; is = e }

    ended_shows : reached_by image lent begun steps ≡ shown lent (ends ended.outcome ended.left)
    ended_shows = made_shows ∙ ap (shown lent) ended.is

    ruled : Rules image lent begun.edition (reached_by image lent begun steps)
    ruled = let c = checked image lent begun none in ended_rules image lent begun.edition c.valid c.even sound ended.is ended_shows

    how_ended : RunEnded image lent begun.edition (given_by image lent steps) (reached_by image lent begun steps)
    how_ended = let c = checked image lent begun none in ended_how image lent begun.edition c.valid c.even sound ended.is ended_shows

    -- with room and allowances enough it has a verdict
    decided : 2 ^ states_of image ≤ length lent.room.masks → 2 ^ states_of image ≤ length lent.word.cases
        → Each (λ terms. 4 ^ suc (states_of image) ≤ terms.allowance) (unrefused image lent steps)
        → Decides image lent begun.edition (given_by image lent steps) (4 ^ suc (states_of image)) (reached_by image lent begun steps)
    decided places levels enough =
        let c = checked image lent begun none in
        ended_decides image lent begun.edition c.valid c.even sound ended.is ended_shows places levels
        (given_each image (λ given. 4 ^ suc (states_of image) ≤ given.allowance) (unrefused image lent steps) enough)

-- what has ended by some steps is left by those that follow
ended_early : (image : List ℕ) (lent : Lent) (begun : Terms) (upto later : List Terms) → ((reached_by image lent begun upto).run.answer ≡ 6 → ⊥)
    → reached_by image lent begun (upto ++ later) ≡ reached_by image lent begun upto
unfolding steps_from
ended_early image lent begun upto later f = joined (begin_of image lent begun).left upto ∙ unworked_stays image (reached_by image lent begun upto) f later
  where
    joined : (at : Stage) (first : List Terms) → steps_from image at (first ++ later) ≡ steps_from image (steps_from image at first) later
    joined at [] = refl
    joined at (terms ∷ first) = joined (step_of image terms at).left first

module _ (image : List ℕ) (lent : Lent) (begun : Terms) (steps : List Terms) (none : check_run image lent begun ≡ 0) where
  pub steps_promises : StepsPromises image lent begun steps (reached_by image lent begun steps)
  steps_promises =
      record {
        shows = made_shows image lent begun steps none;
        judged = ruled image lent begun steps none;
        ended = how_ended image lent begun steps none;
        stays = λ f. unworked_stays image (reached_by image lent begun steps) f;
        decides = λ upto later split f few places levels enough.
            subst (Decides image lent begun.edition (given_by image lent upto) (4 ^ suc (states_of image)))
            (sym (ap (reached_by image lent begun) split ∙ ended_early image lent begun upto later f))
            (decided image lent begun upto none f places levels enough);
        works_no_more = λ many six. works_no_more image lent begun steps none six many;
        working_shows = working_shows image lent begun steps none;
      }

-- of steps that are all given the same either each is refused or none
same_given : (image : List ℕ) (lent : Lent) (terms : Terms) → check_run image lent terms ≡ 0 → (count : ℕ)
    → given_by image lent (replicate count terms) ≡ replicate count (given_of image terms)
unfolding unrefused keep
same_given image lent terms none zero = refl
same_given image lent terms none (suc count) =
    ap (map (given_of image)) (choose_true _ _ (rw none)) ∙ ap (λ (later : List Given). given_of image terms ∷ later) (same_given image lent terms none count)

-- "The former run must equal begin, then steps."
pub run_is_steps : (image : List ℕ) (lent : Lent) (terms : Terms)
    → run_of image lent terms ≡ reached_by image lent terms (replicate (suc terms.allowance) terms)
run_is_steps image lent terms = at (run_number image lent terms)
  where
    equal : List Terms
    equal = replicate (suc terms.allowance) terms

    at : (check_run image lent terms ≡ 0) ⊎ (20 ≤ check_run image lent terms) → run_of image lent terms ≡ reached_by image lent terms equal
    at (inl none) =
        machine_run image lent terms none
        ∙ sym (made_shows image lent terms equal none
        ∙ ap (λ (calls : List Given). shown lent (chain (system_of image) (rooms_of lent) (begin (system_of image) terms.edition) calls))
        (same_given image lent terms none (suc terms.allowance)))
    at (inr l) = refused_run image lent terms (check_run image lent terms) refl l ∙ sym (refused_stays image lent terms (λ e. omega arith) equal)

-- a run that reached a verdict, at once or step by step: its image was taken, and its outcome is right
record Reached (image : List ℕ) (lent : Lent) (edition : ℕ) (r : Stage) : Type 0 where
  valid : Valid image
  outcome : Outcome
  left : Configuration
  done : Done (system_of image) (rooms_of lent) edition outcome left
  shows : r ≡ shown lent (ends outcome left)

verdict_low : {edition number : ℕ} → Verdict edition number → number ≤ 5
verdict_low (inl l) = omega arith
verdict_low (inr e) = omega (arith, e.1)

steps_reached : (image : List ℕ) (lent : Lent) (begun : Terms) (steps : List Terms) → (reached_by image lent begun steps).run.answer ≤ 5
    → Reached image lent begun.edition (reached_by image lent begun steps)
steps_reached image lent begun steps low = at (run_number image lent begun)
  where
    not_six : (reached_by image lent begun steps).run.answer ≡ 6 → ⊥
    not_six six = omega arith

    at : (check_run image lent begun ≡ 0) ⊎ (20 ≤ check_run image lent begun) → Reached image lent begun.edition (reached_by image lent begun steps)
    at (inl none) =
        let c = checked image lent begun none in
        let end = ended image lent begun steps none not_six in
        let shows = ended_shows image lent begun steps none not_six in
        record {
          valid = c.valid;
          outcome = end.outcome;
          left = end.left;
          done = ended_done image lent begun.edition c.valid c.even (sound image lent begun steps none) end.is shows;
          shows = shows;
        }
    at (inr l) = absurd (omega (arith, low, l, ap (λ (r : Stage). r.run.answer) (refused_stays image lent begun (λ e. omega arith) steps)))

reached : {image : List ℕ} {lent : Lent} {edition : ℕ} {r : Stage} → RunBy image lent edition r → Verdict edition r.run.answer → Reached image lent edition r
reached {image} {lent} (by_steps begun steps) v = steps_reached image lent begun steps (verdict_low v)
reached {image} {lent} (at_once terms) v =
    let same = run_is_steps image lent terms in
    subst (Reached image lent terms.edition) (sym same)
    (steps_reached image lent terms (replicate (suc terms.allowance) terms)
    (verdict_low (subst (λ (r : Stage). Verdict terms.edition r.run.answer) same v)))

-- two runs that reach a verdict agree, within one edition
pub runs_agree : (image other : List ℕ) (lent lent' : Lent) (edition : ℕ) (r s : Stage) → HoldOne image other → RunBy image lent edition r
    → RunBy other lent' edition s → Verdict edition r.run.answer → Verdict edition s.run.answer → Agreed r s
runs_agree image other lent lent' edition r s same run run' v v' =
    let one = reached run v in
    let two = reached run' v' in
    rw (one.shows, two.shows)
    (results_agree image other lent lent' edition one.valid two.valid same one.done two.done
    (subst (λ (x : Stage). Verdict edition x.run.answer) one.shows v)
    (subst (λ (x : Stage). Verdict edition x.run.answer) two.shows v'))
