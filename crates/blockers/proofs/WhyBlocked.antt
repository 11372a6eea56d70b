-- Why a case is blocked, by the level: at 0 it is a question of I, above it one of the blockers. And whether it is, by the reason. Assumes nothing.
use Rattle.std.specs.Prelude.{Option, Some, None, is_some}
use Prim.Native.Nat.{ℕ, zero, suc}
use mathlib.Core.Path.{◌≡◌, refl, sym, ap, ◌∙◌}
use mathlib.Core.Bool.{Bool, true, false}
use mathlib.Core.List.{List}
use mathlib.Core.Option.{some}
use borrow.Author.Tests.{eqb-true, eqb-false}
use lib.Dec.{eqb}
use Rattle.masks.specs.Sets.{subset, lowest_absent}
use Rattle.masks.specs.declared.State.{State}
use Rattle.masks.proofs.Laws.{lowest_none}
use Rattle.machine.specs.Machine.{Blocker, blocked}
use Rattle.machine.specs.Why.{first_covering, absent_reason, why, is_reason}
use Rattle.machine.proofs.Reasons.{blocked_by_reason}
use Rattle.blockers.specs.Answers.{reason_of}
use Rattle.blockers.proofs.Walks.{reason_there}
use Rattle.blockers.specs.declared.reasons.Reason.{Reason}
use Rattle.blockers.specs.declared.reasons.Reason.TheVariants.{ByStart}

-- the lowest initial state that the case lacks, by the test whether the case contains I
module _ (initial case : ℕ) (contains : Bool) (test : contains ≡ subset initial case) where
  pub start_inside : contains ≡ true → reason_of None ≡ absent_reason (lowest_absent initial case)
  unfolding reason_of absent_reason
  start_inside t = sym (ap absent_reason (lowest_none initial case (sym test ∙ t)))

pub start_absent : (initial case : ℕ) (q : State) → lowest_absent initial case ≡ some q.0
    → reason_of (Some (ByStart q)) ≡ absent_reason (lowest_absent initial case)
unfolding reason_of absent_reason
start_absent initial case q e = sym (ap absent_reason e)

module _ (initial : ℕ) (table : List Blocker) (level case : ℕ) (bottom : Bool) (at_bottom : bottom ≡ eqb level 0) (r : Option Reason) where
  pub why_bottom : bottom ≡ true → reason_of r ≡ absent_reason (lowest_absent initial case) → reason_of r ≡ why initial table level case
  unfolding why
  why_bottom t e = e ∙ sym (rw (eqb-true level 0 (sym at_bottom ∙ t)))

  pub why_above : bottom ≡ false → reason_of r ≡ first_covering level case 0 table → reason_of r ≡ why initial table level case
  unfolding why
  why_above f e = e ∙ above level (eqb-false level 0 (sym at_bottom ∙ f))
    where
      above : (i : ℕ) → (i ≡ 0 → ⊥) → first_covering i case 0 table ≡ why initial table i case
      above zero n = absurd (n refl)
      above (suc i) n = refl

-- so a case is blocked exactly if one is
pub blocked_told : (initial : ℕ) (table : List Blocker) (level case : ℕ) (r : Option Reason) (told : Bool)
    → reason_of r ≡ why initial table level case → told ≡ is_some r → told ≡ blocked initial table level case
blocked_told initial table level case r told e t = t ∙ reason_there r ∙ ap is_reason e ∙ blocked_by_reason initial table level case
