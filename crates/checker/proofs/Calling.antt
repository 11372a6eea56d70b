-- Begin, step and run for every input: which check refuses, what a refusal leaves, and what the start and a step make. Assumes nothing.
use Prim.Native.Nat.{ℕ, zero, suc, ◌≤◌}
use mathlib.Core.Path.{◌≡◌, refl, sym, ap, ap₂, ◌∙◌}
use mathlib.Core.List.{List, [], ◌∷◌}
use native.Mathlib.Omega.{arith}
use Rattle.std.specs.Prelude.{Result, Ok, Err}
use Rattle.automata.specs.Image.{initial_of, final_of, check}
use Rattle.automata.specs.Refusals.{number_of}
use Rattle.automata.specs.declared.refusal.Refusal.{Refusal}
use Rattle.automata.specs.Answers.{read_image}
use Rattle.automata.proofs.Chained.{test_failed}
use Rattle.automata.proofs.Reading.{read_valid, refused_number}
use Rattle.machine.specs.Machine.{start}
use Rattle.machine.specs.Lent.{Lent, zeroed}
use Rattle.machine.specs.Runs.{Terms, RunRecord, Stage, given_of, rooms_of, record_of, alone, check_terms, check_run, run_with, run_of}
use Rattle.machine.specs.Records.{Called, answering, broken, working_step, begin_with, begin_of, check_record, check_step, step_of}
use Rattle.machine.proofs.AnyRecord.{run_first, unbroken_means, stepped, stepped_refused, stepped_finished, stepped_works}
use Rattle.machine.proofs.RunsKept.{checked}
use Rattle.machine.proofs.StepsKept.{begin_promises}
use Rattle.checker.specs.declared.record.Record.{Record}
use Rattle.checker.specs.declared.record.Run.{Run}
use Rattle.checker.specs.Stage.{record_left, Ready}
use Rattle.checker.specs.Calls.{record_as, record_stepped, number_stepped}
use Rattle.checker.proofs.Checking.{some_number}

-- the image's number is the first
image_first : (lent : Lent) (terms : Terms) (number : ℕ) → (number ≡ 0 → ⊥) → check_terms lent terms.hints terms.edition terms.way number ≡ number
unfolding check_terms
image_first lent terms zero n = absurd (n refl)
image_first lent terms (suc number) n = refl

refused_run : (bytes : List ℕ) (lent : Lent) (terms : Terms) (number : ℕ) → (number ≡ 0 → ⊥) → alone lent number ≡ run_with bytes lent terms number
unfolding run_with
refused_run bytes lent terms zero n = absurd (n refl)
refused_run bytes lent terms (suc number) n = refl

-- what a run's checks answer, by the reader and the checks after it
module _ (bytes : List ℕ) (lent : Lent) (terms : Terms) where
  pub image_refuses : {refusal : Refusal} → Err refusal ≡ read_image bytes → check_run bytes lent terms ≡ number_of refusal
  unfolding check_run
  image_refuses {refusal} read =
      ap (check_terms lent terms.hints terms.edition terms.way) (sym (refused_number bytes read)) ∙ image_first lent terms (number_of refusal) (some_number refusal)

  pub image_passed : {image : List ℕ} {number : ℕ} → Ok image ≡ read_image bytes → number ≡ check_terms lent terms.hints terms.edition terms.way 0
      → check_run bytes lent terms ≡ number
  unfolding check_run
  image_passed read number = ap (check_terms lent terms.hints terms.edition terms.way) (read_valid bytes read) ∙ sym number

  -- a refusal leaves the tables, and its number alone
  module _ (refusal : Refusal) (number : check_run bytes lent terms ≡ number_of refusal) {answer : Result Run Refusal} (is : answer ≡ Err refusal) where
    pub begin_refuses : answering (record { tables = lent; run = record_left answer }) ≡ begin_of bytes lent terms
    begin_refuses =
        ap (λ (a : Result Run Refusal). answering (record { tables = lent; run = record_left a })) is
        ∙ ap (λ (number : ℕ). answering (alone lent number)) (sym number)
        ∙ sym ((begin_promises bytes lent terms).refuses (λ none. some_number refusal (sym number ∙ none)))

    pub run_refuses : record { tables = lent; run = record_left answer } ≡ run_of bytes lent terms
    unfolding run_of
    run_refuses =
        ap (λ (a : Result Run Refusal). record { tables = lent; run = record_left a }) is
        ∙ refused_run bytes lent terms (number_of refusal) (some_number refusal)
        ∙ ap (run_with bytes lent terms) (sym number)

  -- the start, in tables that hold 0
  pub begin_goes : check_run bytes lent terms ≡ 0 → {tables : Lent} → tables ≡ zeroed lent → (run : RunRecord)
      → run ≡ record_of (start (initial_of bytes) (final_of bytes ∷ []) terms.edition)
      → answering (record { tables = tables; run = run }) ≡ begin_of bytes lent terms
  unfolding begin_of begin_with
  begin_goes none cleared run starts = rw (none, cleared, starts)

-- what a step's checks answer
module _ (bytes : List ℕ) (terms : Terms) (at : Stage) where
  pub run_refuses_step : (refusal : Refusal) → check_run bytes at.tables terms ≡ number_of refusal → check_step bytes terms at ≡ number_of refusal
  unfolding check_step
  run_refuses_step refusal number = ap (check_record at) number ∙ run_first at (number_of refusal) (some_number refusal)

  pub record_checked : check_run bytes at.tables terms ≡ 0 → {number : ℕ} → number ≡ check (broken (rooms_of at.tables) at.run) 33 0
      → check_step bytes terms at ≡ number
  unfolding check_step check_record
  record_checked none number = ap (check_record at) none ∙ sym number

  pub step_refuses : (refusal : Refusal) → check_step bytes terms at ≡ number_of refusal → (before : Record) → at.run ≡ record_as before
      → {answer : Result Run Refusal} → answer ≡ Err refusal
      → record { number = number_stepped answer; left = record { tables = at.tables; run = record_stepped before answer } } ≡ step_of bytes terms at
  step_refuses refusal number before same is =
      ap (λ (a : Result Run Refusal). record { number = number_stepped a; left = record { tables = at.tables; run = record_stepped before a } }) is
      ∙ ap (λ (run : RunRecord). record { number = number_of refusal; left = record { tables = at.tables; run = run } }) (sym same)
      ∙ ap (λ (n : ℕ). record { number = n; left = at }) (sym number)
      ∙ sym (stepped_refused (stepped bytes terms at) (λ none. some_number refusal (sym number ∙ none)))

  module _ (none : check_step bytes terms at ≡ 0) where
    pub step_goes : {later : Stage} → at.run.answer ≡ 6 → later ≡ working_step bytes (given_of bytes terms) at → answering later ≡ step_of bytes terms at
    unfolding working_step
    step_goes six made = ap answering made ∙ sym (stepped_works (stepped bytes terms at) none six)

    pub step_stays : at.run.answer ≤ 6 → (at.run.answer ≡ 6 → ⊥) → answering at ≡ step_of bytes terms at
    step_stays low not = sym (stepped_finished (stepped bytes terms at) none (omega (arith, low, not)))

-- what a step needs, where none of its checks applies
pub step_ready : (bytes : List ℕ) {lent : Lent} (terms : Terms) {run : RunRecord} → check_run bytes lent terms ≡ 0
    → 0 ≡ check (broken (rooms_of lent) run) 33 0 → Ready (record { tables = lent; run = run })
step_ready bytes {lent} terms {run} none whole =
    let rooms = checked bytes lent terms none in
    record {
      blocker_room = rooms.even.blockers;
      word_room = rooms.even.symbols;
      room_fits = rooms.few_places;
      bounds = unbroken_means (rooms_of lent) run (test_failed (broken (rooms_of lent) run) 33 0 (sym whole));
    }

-- what a step of the image that was read makes, by the terms that passed, is what it makes of the bytes by the caller's
pub made_alike : {image bytes : List ℕ} {given terms : Terms} (at : Stage) {later : Stage} → image ≡ bytes → given ≡ terms
    → later ≡ working_step image (given_of image given) at → later ≡ working_step bytes (given_of bytes terms) at
made_alike at same given made = made ∙ ap₂ (λ (x : List ℕ) (t : Terms). working_step x (given_of x t) at) same given

-- the caller's record, which is made of the run that the step left
pub step_kept : {tables : Lent} {number : ℕ} {kept left : RunRecord} {called : Called} → kept ≡ left
    → record { number = number; left = record { tables = tables; run = left } } ≡ called
    → record { number = number; left = record { tables = tables; run = kept } } ≡ called
step_kept {tables} {number} same made =
    ap (λ (run : RunRecord). record { number = number; left = record { tables = tables; run = run } }) same ∙ made
