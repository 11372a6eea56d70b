-- What afa_step gives back: the eight numbers as they were, or those of the record that the step left. Assumes nothing.
use Prim.Native.Nat.{ℕ, ◌≤◌, ◌<◌}
use mathlib.Core.Path.{◌≡◌, refl, sym, ap, ◌∙◌}
use mathlib.Core.Bool.{Bool, true, false}
use mathlib.Core.List.{List}
use native.Mathlib.Omega.{arith}
use borrow.Author.Tests.{eq-eqb, ne_eqb, lt-ltb, le-ltb}
use mir.Val.{bool_byte}
use lib.Dec.{eqb}
use lib.ListN.{get_or}
use Rattle.automata.specs.WordTest.{one_if}
use Rattle.lists.specs.Tests.{◌and◌, choose}
use Rattle.machine.specs.Lent.{Lent}
use Rattle.machine.specs.Runs.{Terms, RunRecord}
use Rattle.machine.specs.Records.{Called, step_of}
use Rattle.exports.specs.Interface.{numbers_of, numbers_after, StepGave}

-- 1 for a level that is open
pub open_number : (b : Bool) → bool_byte b ≡ choose b 1 0
unfolding choose
open_number true = refl
open_number false = refl

pub accepted_number : (b : Bool) → bool_byte b ≡ one_if b
unfolding one_if
accepted_number true = refl
accepted_number false = refl

module _ (before : List ℕ) (number : ℕ) (run : RunRecord) where
  pub finished_stays : (get_or before 0 0 ≡ 6 → ⊥) → before ≡ numbers_after before number run
  unfolding numbers_after ◌and◌ choose
  finished_stays n = sym (rw (ne_eqb _ _ n))

  pub refused_stays : 20 ≤ number → before ≡ numbers_after before number run
  unfolding numbers_after ◌and◌ choose
  refused_stays l = sym (rw (le-ltb _ _ l) (at (eqb (get_or before 0 0) 6)))
    where
      at : (b : Bool) → choose (b and false) (numbers_of run) before ≡ before
      at true = refl
      at false = refl

  pub step_carries : get_or before 0 0 ≡ 6 → number < 20 → (numbers : List ℕ) → numbers ≡ numbers_of run → numbers ≡ numbers_after before number run
  unfolding numbers_after ◌and◌ choose
  step_carries e l numbers q = q ∙ sym (rw (eq-eqb _ _ e, lt-ltb _ _ l))

-- a step of the record that was read from eight numbers
pub step_read : (image : List ℕ) (terms : Terms) (tables : Lent) (run read : RunRecord) {called : Called} → run ≡ read
    → called ≡ step_of image terms (record { tables = tables; run = run }) → called ≡ step_of image terms (record { tables = tables; run = read })
step_read image terms tables run read same e = e ∙ ap (λ (r : RunRecord). step_of image terms (record { tables = tables; run = r })) same

module _ (before : List ℕ) {called made : Called} (e : made ≡ called) where
  -- a refused step: record and tables as they were
  pub refused_gave : {number : ℕ} {tables : Lent} → number ≡ made.number → 20 ≤ number → tables ≡ made.left.tables → StepGave before number before tables called
  refused_gave {number} same high holds =
      record {
        numbered = same ∙ ap (λ (x : Called). x.number) e;
        recorded = refused_stays before called.number called.left.run (omega (arith, high, same, ap (λ (x : Called). x.number) e));
        holds = holds ∙ ap (λ (x : Called). x.left.tables) e;
      }

  -- a step of a record that works
  pub made_gave : {number : ℕ} {numbers : List ℕ} {tables : Lent} → number ≡ made.number → number < 20 → get_or before 0 0 ≡ 6
      → numbers ≡ numbers_of made.left.run → tables ≡ made.left.tables → StepGave before number numbers tables called
  made_gave {number} {numbers} same low works made_numbers holds =
      record {
        numbered = same ∙ ap (λ (x : Called). x.number) e;
        recorded = step_carries before called.number called.left.run works (omega (arith, low, same, ap (λ (x : Called). x.number) e)) numbers
            (made_numbers ∙ ap (λ (x : Called). numbers_of x.left.run) e);
        holds = holds ∙ ap (λ (x : Called). x.left.tables) e;
      }

  -- of a finished one: the numbers stay, whatever number stood for open
  pub finished_gave : {number : ℕ} {numbers : List ℕ} {tables : Lent} → number ≡ made.number → (get_or before 0 0 ≡ 6 → ⊥) → numbers ≡ before
      → tables ≡ made.left.tables → StepGave before number numbers tables called
  finished_gave same finished stays holds =
      record {
        numbered = same ∙ ap (λ (x : Called). x.number) e;
        recorded = stays ∙ finished_stays before called.number called.left.run finished;
        holds = holds ∙ ap (λ (x : Called). x.left.tables) e;
      }
