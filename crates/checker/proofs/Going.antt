-- Steps one after the other: what a loop that makes them has come to, and that a run is a begin and then steps. Assumes nothing.
use Prim.Native.Nat.{ℕ, zero, suc, ◌-◌, ◌≤◌, ◌<◌}
use mathlib.Core.Path.{◌≡◌, refl, sym, ap, subst, ◌∙◌}
use mathlib.Core.Bool.{Bool, true, false}
use mathlib.Core.List.{List}
use mathlib.Core.Logic.{◌⊎◌, inl, inr}
use native.Mathlib.Omega.{arith}
use borrow.Author.Tests.{eq-eqb, ne_eqb, eqb-true, eqb-false}
use lib.Dec.{eqb}
use lib.ListN.{length, replicate}
use Rattle.lists.specs.Tests.{choose}
use Rattle.machine.specs.Machine.{Given, Next, goes_on, ends}
use Rattle.machine.specs.Lent.{Lent, EvenRooms}
use Rattle.machine.specs.Runs.{Terms, RunRecord, Stage, system_of, given_of, rooms_of, number_of, record_of, check_run, run_of}
use Rattle.machine.specs.Records.{Called, answering, configuration_of, after, working_step, begin_of, step_with, step_of, steps_from, reached_by}
use Rattle.machine.specs.Promises.{BeginPromises}
use Rattle.machine.proofs.Judging.{number_low}
use Rattle.machine.proofs.Steps.{Advanced, tried, advanced, advanced_counts}
use Rattle.machine.proofs.RunsKept.{checked, run_number}
use Rattle.machine.proofs.AnyRecord.{Takes, takes_checked, work_takes, stepped, stepped_takes, unworked_stays}
use Rattle.machine.proofs.RecordSteps.{begin_takes}
use Rattle.machine.proofs.StepsKept.{begin_promises, run_is_steps}
use Rattle.checker.specs.Stage.{Ready}

-- what a step needs, of tables as long as those that passed
takes_ready : {lent : Lent} {at : Stage} → EvenRooms lent → length lent.word.cases ≤ 65536 → Takes lent at → Ready at
takes_ready {lent} {at} even few takes =
    let same = takes.same in
    record {
      blocker_room = record {
        levels = same.masks ∙ even.blockers.levels ∙ sym same.levels;
        entered = same.masks ∙ even.blockers.entered ∙ sym same.entered;
      };
      word_room = same.cases ∙ even.symbols ∙ sym same.symbols;
      room_fits = omega (arith, same.cases);
      bounds = rw (same.masks, same.cases) takes.unbroken;
    }

-- so many calls one after the other, of which none is refused: each makes a step if the record works
unfoldable pub went_on : List ℕ → Given → ℕ → Stage → Stage
went_on image given zero at = at
went_on image given (suc calls) at = went_on image given calls (choose (eqb at.run.answer 6) (working_step image given at) at)

module _ (image : List ℕ) (given : Given) where
  -- a record that works goes on by its step; one that does not stays as it is
  went_further : (calls : ℕ) (at : Stage) → at.run.answer ≡ 6 → went_on image given (suc calls) at ≡ went_on image given calls (working_step image given at)
  unfolding went_on choose
  went_further calls at six = rw (eq-eqb _ _ six)

  pub went_nowhere : (calls : ℕ) (at : Stage) → (at.run.answer ≡ 6 → ⊥) → went_on image given calls at ≡ at
  unfolding went_on choose
  went_nowhere zero at not = refl
  went_nowhere (suc calls) at not =
      ap (λ (x : Stage). went_on image given calls x) (rw (ne_eqb _ _ not)) ∙ went_nowhere calls at not

-- what a step of a record that works leaves, the next one takes
work_leaves : (image : List ℕ) (given : Given) {at : Stage} → Ready at → Takes at.tables (working_step image given at)
work_leaves image given {at} ready =
    work_takes image given at (record { blockers = ready.blocker_room; symbols = ready.word_room }) ready.bounds

-- a step that leaves a record which works was within the allowance, and it counts
module _ (image : List ℕ) (given : Given) (at : Stage) where
  -- where it works, the machine goes on
  working_goes : (n : Next) → number_of n ≡ 6 → Advanced (system_of image) (rooms_of at.tables) given (configuration_of at) n
      → (at.run.steps < given.allowance) × ((record_of n).steps ≡ suc at.run.steps)
  unfolding number_of record_of
  working_goes (goes_on d) six how = (within how, advanced_counts (system_of image) (rooms_of at.tables) how)
    where
      within : Advanced (system_of image) (rooms_of at.tables) given (configuration_of at) (goes_on d) → at.run.steps < given.allowance
      within (tried l j) = l
  working_goes (ends o d) six how = absurd (omega (arith, six, number_low o))

  pub step_counts : (working_step image given at).run.answer ≡ 6
      → (at.run.steps < given.allowance) × ((working_step image given at).run.steps ≡ suc at.run.steps)
  unfolding working_step after record_of
  step_counts six = working_goes _ six (advanced (system_of image) (rooms_of at.tables) given (configuration_of at))

-- The loop: as many steps are left as the allowance has above those that were made, and one that finds it used up.
pub record GoesOn (image : List ℕ) (lent : Lent) (terms : Terms) (at : Stage) : Type 0 where
  pub ready : at.run.answer ≡ 6 → Ready at
  pub same : went_on image (given_of image terms) (suc (terms.allowance - at.run.steps)) at ≡ run_of image lent terms

-- how far it is from its end
pub distance : ℕ → RunRecord → ℕ
distance allowance run = choose (eqb run.answer 6) (suc (allowance - run.steps)) 0

module _ {image : List ℕ} {lent : Lent} {terms : Terms} {at : Stage} (goes : GoesOn image lent terms at) where
  pub goes_ready : at.run.answer ≡ 6 → Ready at
  goes_ready = goes.ready

  pub goes_ends : (at.run.answer ≡ 6 → ⊥) → at ≡ run_of image lent terms
  goes_ends not = sym (went_nowhere image (given_of image terms) (suc (terms.allowance - at.run.steps)) at not) ∙ goes.same

  module _ (six : at.run.answer ≡ 6) {later : Stage} (made : later ≡ working_step image (given_of image terms) at) where
    later_counts : later.run.answer ≡ 6 → (at.run.steps < terms.allowance) × (later.run.steps ≡ suc at.run.steps)
    later_counts works =
        let counts = step_counts image (given_of image terms) at (sym (ap (λ (x : Stage). x.run.answer) made) ∙ works) in
        (counts.0, ap (λ (x : Stage). x.run.steps) made ∙ counts.1)

    later_same : went_on image (given_of image terms) (suc (terms.allowance - later.run.steps)) later ≡ run_of image lent terms
    later_same = from (eqb later.run.answer 6) refl
      where
        before : went_on image (given_of image terms) (terms.allowance - at.run.steps) later ≡ run_of image lent terms
        before =
            ap (λ (x : Stage). went_on image (given_of image terms) (terms.allowance - at.run.steps) x) made
            ∙ sym (went_further image (given_of image terms) (terms.allowance - at.run.steps) at six)
            ∙ goes.same

        from : (b : Bool) → eqb later.run.answer 6 ≡ b
            → went_on image (given_of image terms) (suc (terms.allowance - later.run.steps)) later ≡ run_of image lent terms
        from true e =
            let counts = later_counts (eqb-true _ _ e) in
            let fewer : suc (terms.allowance - later.run.steps) ≡ terms.allowance - at.run.steps = omega (arith, counts.0, counts.1) in
            ap (λ (calls : ℕ). went_on image (given_of image terms) calls later) fewer ∙ before
        from false e =
            went_nowhere image (given_of image terms) (suc (terms.allowance - later.run.steps)) later (eqb-false _ _ e)
            ∙ sym (went_nowhere image (given_of image terms) (terms.allowance - at.run.steps) later (eqb-false _ _ e))
            ∙ before

    pub goes_again : GoesOn image lent terms later
    goes_again =
        let r = goes.ready six in
        record {
          ready = λ _. takes_ready (record { blockers = r.blocker_room; symbols = r.word_room }) r.room_fits
              (subst (Takes at.tables) (sym made) (work_leaves image (given_of image terms) r));
          same = later_same;
        }

    pub goes_nearer : distance terms.allowance later.run < distance terms.allowance at.run
    unfolding distance choose
    goes_nearer = from (eqb later.run.answer 6) refl
      where
        from : (b : Bool) → eqb later.run.answer 6 ≡ b
            → choose (eqb later.run.answer 6) (suc (terms.allowance - later.run.steps)) 0 < choose (eqb at.run.answer 6) (suc (terms.allowance - at.run.steps)) 0
        from true e = let counts = later_counts (eqb-true _ _ e) in rw (e, eq-eqb _ _ six) (omega (arith, counts.0, counts.1))
        from false e = rw (e, eq-eqb _ _ six) (omega arith)

-- equal calls that are not refused are steps one after the other
module _ (image : List ℕ) (lent : Lent) (terms : Terms) (none : check_run image lent terms ≡ 0) where
  one_step : (at : Stage) → Takes lent at → (step_of image terms at).left ≡ went_on image (given_of image terms) 1 at
  unfolding step_of step_with went_on
  one_step at takes = ap (λ (number : ℕ). (step_with image (given_of image terms) at number).left) (takes_checked image terms takes ∙ none)

  went_steps : (calls : ℕ) (at : Stage) → Takes lent at → went_on image (given_of image terms) calls at ≡ steps_from image at (replicate calls terms)
  unfolding went_on steps_from
  went_steps zero at takes = refl
  went_steps (suc calls) at takes =
      ap (λ (x : Stage). went_on image (given_of image terms) calls x) (sym (one_step at takes))
      ∙ went_steps calls (step_of image terms at).left (stepped_takes (stepped image terms at) takes)

-- a run: what a begin made goes on, by the steps that are allowed and one more
module _ (image : List ℕ) (lent : Lent) (terms : Terms) where
  data BeginLeft : Type 0 where
    taken : check_run image lent terms ≡ 0 → Takes lent (begin_of image lent terms).left → BeginLeft
    refused : ((begin_of image lent terms).left.run.answer ≡ 6 → ⊥) → BeginLeft

  begun : BeginLeft
  begun = at (run_number image lent terms)
    where
      promises : BeginPromises image lent terms (begin_of image lent terms)
      promises = begin_promises image lent terms

      at : (check_run image lent terms ≡ 0) ⊎ (20 ≤ check_run image lent terms) → BeginLeft
      at (inl none) =
          taken none (subst (λ (called : Called). Takes lent called.left) (sym (promises.begins none))
          (begin_takes (system_of image) lent (checked image lent terms none).even terms.edition))
      at (inr l) = refused (λ six. omega (arith, six, ap (λ (called : Called). called.left.run.answer) (promises.refuses (λ e. omega arith))))

  pub begun_ready : (begin_of image lent terms).left.run.answer ≡ 6 → Ready (begin_of image lent terms).left
  begun_ready six = at begun
    where
      at : BeginLeft → Ready (begin_of image lent terms).left
      at (taken none takes) = let c = checked image lent terms none in takes_ready c.even c.few_places takes
      at (refused not) = absurd (not six)

  run_went : went_on image (given_of image terms) (suc terms.allowance) (begin_of image lent terms).left ≡ run_of image lent terms
  run_went = at begun ∙ sym (run_is_steps image lent terms)
    where
      at : BeginLeft → went_on image (given_of image terms) (suc terms.allowance) (begin_of image lent terms).left
          ≡ reached_by image lent terms (replicate (suc terms.allowance) terms)
      at (taken none takes) = went_steps image lent terms none (suc terms.allowance) (begin_of image lent terms).left takes
      at (refused not) =
          went_nowhere image (given_of image terms) (suc terms.allowance) (begin_of image lent terms).left not
          ∙ sym (unworked_stays image (begin_of image lent terms).left not (replicate (suc terms.allowance) terms))

-- the loop begins with what a begin leaves
pub goes_starts : (image : List ℕ) (lent : Lent) (terms : Terms) {at : Stage} → answering at ≡ begin_of image lent terms → at.run.steps ≡ 0
    → GoesOn image lent terms at
goes_starts image lent terms {at} begins none =
    let same : at ≡ (begin_of image lent terms).left = ap (λ (called : Called). called.left) begins in
    record {
      ready = λ six. subst Ready (sym same) (begun_ready image lent terms (sym (ap (λ (x : Stage). x.run.answer) same) ∙ six));
      same = ap (λ (calls : ℕ). went_on image (given_of image terms) (suc calls) at) (let e : terms.allowance - at.run.steps ≡ terms.allowance = omega (arith, none) in e)
          ∙ ap (λ (x : Stage). went_on image (given_of image terms) (suc terms.allowance) x) same
          ∙ run_went image lent terms;
    }
