-- What is answered of the blockers in the first places of masks and levels. Assumes nothing: these are definitions.
use Rattle.std.specs.Prelude.{ℕ, ◌≤◌, ◌<◌, min, ◌≡◌, false, List, length, Option, Some, None}
use Rattle.machine.specs.Machine.{covers}
use Rattle.machine.specs.Lent.{unstamped_room, blocker_at}
use Rattle.machine.specs.Why as Why
use Rattle.blockers.specs.declared.reasons.Reason.{Reason}
use Rattle.blockers.specs.declared.reasons.Reason.TheVariants.{ByBlocker, ByStart}

-- the answer as the machine's reason
unfoldable pub reason_of : Option Reason → Why.Reason
reason_of (Some (ByBlocker place level)) = Why.by_blocker place level.0
reason_of (Some (ByStart q)) = Why.by_start q.0
reason_of None = Why.nothing

-- No blocker from `from` on and before `next` covers the case. How far this goes is left free: each place is looked at before it counts.
pub record Skips (masks levels : List ℕ) (level case from next : ℕ) : Type 0 where
  pub begins : from ≤ next
  pub few : next ≤ min (length masks) (length levels)
  pub missed : (i : ℕ) → from ≤ i → i < next → covers level case (blocker_at (unstamped_room masks levels) i) ≡ false
