-- What holds of the counts of each configuration that a run reaches or ends in, and that its table and level fit the rooms. Assumes nothing.
use Prim.Native.Nat.{◌≤◌}
use mathlib.Core.Path.{◌≡◌, refl}
use mathlib.Core.Bool.{Bool, false}
use mathlib.Core.List.{List, []}
use native.Mathlib.Omega.{arith}
use lib.Dec.{ltb}
use lib.ListN.{length}
use Rattle.lists.proofs.Lists.{keep_length}
use Rattle.machine.specs.System.{System}
use Rattle.machine.specs.Machine.{Pending, Configuration, Given, Rooms, beginning}
use Rattle.machine.specs.Machine.{Step, open_step, extend_step, block_step, frame, close_with, Next, goes_on, ends, comes_to}
use Rattle.machine.specs.Machine.{Outcome, nonempty, empty, steps_lack, blockers_lack, word_lacks, starts_final}
use Rattle.machine.proofs.Rising.{levels_shorter}
use Rattle.machine.proofs.Passing.{chosen_is, chosen_hinted}
use Rattle.machine.proofs.Steps.{under, closed_table, Taken, opening, finding, extending, blocking, closing, emptying, step_taken}
use Rattle.machine.proofs.Steps.{Judged, room_to_open, extended, room_to_block, closed, found, emptied, no_room_to_open, no_room_to_block}
use Rattle.machine.proofs.Steps.{Advanced, tried, spent}

-- the counts of a configuration, and what fits the rooms
pub record Counted (rooms : Rooms) (c : Configuration) : Type 0 where
  pub blocks_made : c.blocks ≤ c.steps
  pub hints_accepted : c.accepted ≤ c.steps
  pub table_fits : length c.table ≤ rooms.blockers
  pub word_fits : c.level ≤ rooms.word

-- a step keeps the counts, whether it is made, answers or finds no room
pub judged_counted : {S : System} {given : Given} {rooms : Rooms} {c : Configuration} {pending : List Pending} {is_open : Bool}
    {st : Step} {n : Next} → Taken S given c pending is_open st → Judged rooms c st n → Counted rooms c → Counted rooms (comes_to n)
unfolding open_step extend_step block_step close_with frame
judged_counted opening (room_to_open l) k = omega arith
judged_counted opening (no_room_to_open l) k = omega arith
judged_counted (finding s l t u) found k = omega arith
judged_counted (extending s l t u) extended k = omega arith
judged_counted {S} {given} {c = c} (blocking {p = p} {rest = rest} f) (room_to_block l) k =
    omega (arith, chosen_hinted (chosen_is S given c (under c rest) p.case))
judged_counted (blocking f) (no_room_to_block l) k = omega arith
judged_counted {S} {c = c} (closing e) closed k = omega (arith, levels_shorter S c.level 1 c.table)
judged_counted {S} {c = c} (emptying j l h t) emptied k =
    omega (arith, keep_length (λ b. ltb j b.level) (closed_table S c), levels_shorter S c.level 1 c.table)

-- a call keeps them, whatever it is given
pub advanced_counted : {S : System} {rooms : Rooms} {given : Given} {c : Configuration} {n : Next} → Advanced S rooms given c n → Counted rooms c
    → Counted rooms (comes_to n)
advanced_counted {given = given} {c = c} (tried l j) k = judged_counted (step_taken {given = given} c) j k
advanced_counted (spent l) k = omega arith

-- where a run has ended nothing is pending, and after an answer of no word no level is open: whatever step, and whatever call, ended it
abbrev Shut : Outcome → Configuration → Type 0
Shut empty c = c.is_open ≡ false
Shut (nonempty word) c = Unit {0}
Shut steps_lack c = Unit {0}
Shut blockers_lack c = Unit {0}
Shut word_lacks c = Unit {0}
Shut starts_final c = Unit {0}

pub record Halted (outcome : Outcome) (c : Configuration) : Type 0 where
  pub none_pending : c.pending ≡ []
  pub shut : Shut outcome c

abbrev pub Halts : Next → Type 0
Halts (goes_on c) = Unit {0}
Halts (ends outcome c) = Halted outcome c

judged_halts : {S : System} {given : Given} {rooms : Rooms} {c : Configuration} {pending : List Pending} {is_open : Bool} {st : Step} {n : Next}
    → Taken S given c pending is_open st → Judged rooms c st n → Halts n
unfolding open_step extend_step block_step close_with
judged_halts opening (room_to_open l) = tt
judged_halts opening (no_room_to_open l) = record { none_pending = refl; shut = tt }
judged_halts (finding s l t u) found = record { none_pending = refl; shut = tt }
judged_halts (extending s l t u) extended = tt
judged_halts (blocking f) (room_to_block l) = tt
judged_halts (blocking f) (no_room_to_block l) = record { none_pending = refl; shut = tt }
judged_halts (closing e) closed = tt
judged_halts (emptying j l h t) emptied = record { none_pending = refl; shut = refl }

pub advanced_halts : {S : System} {rooms : Rooms} {given : Given} {c : Configuration} {n : Next} → Advanced S rooms given c n → Halts n
advanced_halts {given = given} {c = c} (tried l j) = judged_halts (step_taken {given = given} c) j
advanced_halts (spent l) = record { none_pending = refl; shut = tt }

-- they are so at the beginning
pub beginning_counted : (rooms : Rooms) → Counted rooms beginning
unfolding beginning
beginning_counted rooms = omega arith
