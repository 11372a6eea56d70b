-- The record of a caller as a run: what its answer is, and what 33's test leaves. Assumes nothing.
use Prim.Native.Nat.{ℕ, zero, suc, ◌+◌, ◌≤◌}
use mathlib.Core.Path.{◌≡◌, refl}
use mathlib.Core.Bool.{Bool, true, false}
use native.Mathlib.Omega.{arith}
use borrow.Author.Tests.{lt-ltb}
use lib.Dec.{ltb}
use denote.Enum.Bare.{sameb}
use mir.Val.{bool_byte}
use Rattle.std.specs.Prelude.{Ok, Err}
use Rattle.automata.specs.WordTest.{one_if}
use Rattle.automata.specs.Refusals.{number_of}
use Rattle.automata.specs.declared.refusal.Refusal.{Refusal}
use Rattle.machine.specs.Runs.{RunRecord}
use Rattle.checker.specs.declared.record.Answer.{Answer}
use Rattle.checker.specs.declared.record.Answer.TheVariants.{Empty, Word, StepsUsedUp, BlockerRoomFull, WordRoomFull, StartsFinal, Working}
use Rattle.checker.specs.contracts.record.Answer.{the_type}
use Rattle.checker.specs.Stage.{number_of_answer, counted_of, blocked_of}
use Rattle.checker.specs.Calls.{answer_of}

pub answer_known : (answer : Answer) (number : ℕ) → answer_of number ≡ Ok answer → ltb 6 number ≡ false
answer_known answer zero e = refl
answer_known answer (suc zero) e = refl
answer_known answer (suc (suc zero)) e = refl
answer_known answer (suc (suc (suc zero))) e = refl
answer_known answer (suc (suc (suc (suc zero)))) e = refl
answer_known answer (suc (suc (suc (suc (suc zero))))) e = refl
answer_known answer (suc (suc (suc (suc (suc (suc zero)))))) e = refl
answer_known answer (suc (suc (suc (suc (suc (suc (suc number))))))) e = let z : ◌≡◌ {A = ℕ} 0 1 = cc in absurd (omega arith)

module _ (refusal : Refusal) where
  pub answer_unknown : (number : ℕ) → answer_of number ≡ Err refusal → ltb 6 number ≡ true
  answer_unknown zero e = let z : ◌≡◌ {A = ℕ} 0 1 = cc in absurd (omega arith)
  answer_unknown (suc zero) e = let z : ◌≡◌ {A = ℕ} 0 1 = cc in absurd (omega arith)
  answer_unknown (suc (suc zero)) e = let z : ◌≡◌ {A = ℕ} 0 1 = cc in absurd (omega arith)
  answer_unknown (suc (suc (suc zero))) e = let z : ◌≡◌ {A = ℕ} 0 1 = cc in absurd (omega arith)
  answer_unknown (suc (suc (suc (suc zero)))) e = let z : ◌≡◌ {A = ℕ} 0 1 = cc in absurd (omega arith)
  answer_unknown (suc (suc (suc (suc (suc zero))))) e = let z : ◌≡◌ {A = ℕ} 0 1 = cc in absurd (omega arith)
  answer_unknown (suc (suc (suc (suc (suc (suc zero)))))) e = let z : ◌≡◌ {A = ℕ} 0 1 = cc in absurd (omega arith)
  answer_unknown (suc (suc (suc (suc (suc (suc (suc number))))))) e = lt-ltb _ _ (omega arith)

  pub answer_refused : (number : ℕ) → answer_of number ≡ Err refusal → number_of refusal ≡ 33
  answer_refused zero e = let z : ◌≡◌ {A = ℕ} 0 1 = cc in absurd (omega arith)
  answer_refused (suc zero) e = let z : ◌≡◌ {A = ℕ} 0 1 = cc in absurd (omega arith)
  answer_refused (suc (suc zero)) e = let z : ◌≡◌ {A = ℕ} 0 1 = cc in absurd (omega arith)
  answer_refused (suc (suc (suc zero))) e = let z : ◌≡◌ {A = ℕ} 0 1 = cc in absurd (omega arith)
  answer_refused (suc (suc (suc (suc zero)))) e = let z : ◌≡◌ {A = ℕ} 0 1 = cc in absurd (omega arith)
  answer_refused (suc (suc (suc (suc (suc zero))))) e = let z : ◌≡◌ {A = ℕ} 0 1 = cc in absurd (omega arith)
  answer_refused (suc (suc (suc (suc (suc (suc zero)))))) e = let z : ◌≡◌ {A = ℕ} 0 1 = cc in absurd (omega arith)
  answer_refused (suc (suc (suc (suc (suc (suc (suc number))))))) e = cc

-- the record after a block, from the one that counts a step
pub blocked_is : (run counted : RunRecord) (held pending : ℕ) (hinted : Bool) → counted ≡ counted_of run 6 pending
    → record {
      answer = counted.answer;
      steps = counted.steps;
      level = counted.level;
      is_open = counted.is_open;
      held = held;
      pending = counted.pending;
      blocks = run.blocks + 1;
      accepted = run.accepted + bool_byte hinted;
    }
    ≡ blocked_of run held pending hinted
unfolding one_if
blocked_is run counted held pending true e = rw e
blocked_is run counted held pending false e = rw e

-- 6 is the answer of a run that works, and the highest
pub answer_low : (answer : Answer) → number_of_answer answer ≤ 6
answer_low Empty = omega arith
answer_low Word = omega arith
answer_low StepsUsedUp = omega arith
answer_low BlockerRoomFull = omega arith
answer_low WordRoomFull = omega arith
answer_low StartsFinal = omega arith
answer_low Working = omega arith

pub answer_works : (answer : Answer) → true ≡ sameb the_type answer Working → number_of_answer answer ≡ 6
answer_works Empty e = let z : ◌≡◌ {A = ℕ} 0 1 = cc in absurd (omega arith)
answer_works Word e = let z : ◌≡◌ {A = ℕ} 0 1 = cc in absurd (omega arith)
answer_works StepsUsedUp e = let z : ◌≡◌ {A = ℕ} 0 1 = cc in absurd (omega arith)
answer_works BlockerRoomFull e = let z : ◌≡◌ {A = ℕ} 0 1 = cc in absurd (omega arith)
answer_works WordRoomFull e = let z : ◌≡◌ {A = ℕ} 0 1 = cc in absurd (omega arith)
answer_works StartsFinal e = let z : ◌≡◌ {A = ℕ} 0 1 = cc in absurd (omega arith)
answer_works Working e = refl

pub answer_ended : (answer : Answer) → false ≡ sameb the_type answer Working → number_of_answer answer ≡ 6 → ⊥
answer_ended Empty not e = omega (arith, e)
answer_ended Word not e = omega (arith, e)
answer_ended StepsUsedUp not e = omega (arith, e)
answer_ended BlockerRoomFull not e = omega (arith, e)
answer_ended WordRoomFull not e = omega (arith, e)
answer_ended StartsFinal not e = omega (arith, e)
answer_ended Working not e = let z : ◌≡◌ {A = ℕ} 0 1 = cc in omega arith
