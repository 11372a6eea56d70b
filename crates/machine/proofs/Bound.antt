-- How soon a verdict comes: with 2^n places in either room, within 4^(n+1) steps. Each step that is made raises a measure that stays below that.
-- Assumes nothing.
use Prim.Native.Nat.{ℕ, zero, suc, ◌+◌, ◌*◌, ◌-◌, ◌^◌, ◌≤◌, ◌<◌}
use mathlib.Core.Path.{◌≡◌, refl, sym, ap, subst, ◌∙◌}
use mathlib.Core.Bool.{Bool}
use mathlib.Core.List.{List, [], ◌∷◌}
use native.Mathlib.Nat.{mul-suc, suc-mul, pow-suc}
use native.Mathlib.Omega.{arith}
use lib.ListN.{length}
use lib.Pow.{pow_pos}
use Rattle.lists.specs.Tests.{neg}
use Rattle.lists.specs.Lists.{keep}
use Rattle.lists.proofs.Counting.{bit, bit_most}
use Rattle.masks.specs.Sets.{full}
use Rattle.masks.proofs.Laws.{within_below, suc_full}
use Rattle.machine.specs.System.{System}
use Rattle.machine.specs.Machine.{Blocker, Pending, Configuration, Given, Rooms, beginning, staying, pending_after, chosen}
use Rattle.machine.specs.Machine.{Step, blocks, open_step, extend_step, block_step, close_with, goes_on, ends, Outcome}
use Rattle.machine.proofs.Language.{Lawful, Sound, Decided}
use Rattle.machine.proofs.Tables.{by_blocker, blocked_covered}
use Rattle.machine.proofs.Rising.{put_among, levels_grown}
use Rattle.machine.proofs.Passing.{Passes, chosen_is, chosen_passes}
use Rattle.machine.proofs.Steps.{under, closed_table, made_by, step_counts}
use Rattle.machine.proofs.Steps.{Taken, opening, finding, extending, blocking, closing, emptying, step_taken}
use Rattle.machine.proofs.Steps.{Judged, room_to_open, extended, room_to_block, closed, found, emptied, no_room_to_open, no_room_to_block}
use Rattle.machine.proofs.Steps.{Advanced, tried, spent}
use Rattle.machine.proofs.Invariant.{Invariant, FinalsClear, chain_lowest, chain_length, entering, block_grown, block_covers}
use Rattle.machine.proofs.Verdicts.{Holds, Right, unqualified_passes, step_right}
use Rattle.machine.proofs.Measure.{blocked_pairs, pairs_monotone, pairs_more, pairs_most, few_blockers, levels_held}

-- 1 while N is not open
abbrev pub shut : Bool → ℕ
shut is_open = bit (neg is_open)

-- what each step that is made raises: twice the blocked pairs, the pending cases, twice the level, and 1 while it is not open
unfoldable pub measure : System → List Blocker → ℕ → List Pending → Bool → ℕ
measure S table N pending is_open = 2 * blocked_pairs S table + length pending + 2 * N + shut is_open

-- the bound in terms of 2^n
four_power : (n : ℕ) → 4 ^ suc n ≡ 4 * (2 ^ n * 2 ^ n)
four_power zero = refl
four_power (suc n) = simp pow-suc (omega (arith, simp pow-suc at (four_power n)))

-- it stays within the bound: the pending cases are at most N, and N at most 2^n
measure_most : {S : System} → Lawful S → {table : List Blocker} {N : ℕ} {pending : List Pending} (is_open : Bool) → Invariant S table N pending
    → N + shut is_open ≤ 2 ^ S.states → measure S table N pending is_open ≤ 4 ^ suc S.states
unfolding measure
measure_most {S} lawful {table} {N} is_open inv l =
    let m : ℕ = full S.states in
    let all : suc m ≡ 2 ^ S.states = suc_full S.states in
    let pairs : blocked_pairs S table ≤ m * suc m = subst (λ (K : ℕ). blocked_pairs S table ≤ m * K) (sym all) (pairs_most lawful inv.kept) in
    let power : 4 ^ suc S.states ≡ 4 * (suc m * suc m) = four_power S.states ∙ ap (λ (K : ℕ). 4 * (K * K)) (sym all) in
    omega (arith, pairs, power, mul-suc m m, suc-mul m (suc m), chain_length inv.chain, bit_most (neg is_open))

-- where nothing is left pending a final case may come, and what is pending stays
after_length : (S : System) (table : List Blocker) (N : ℕ) (rest : List Pending) → length rest ≤ length (pending_after S.initial S.finals table N rest)
unfolding pending_after
after_length S table N [] = omega arith
after_length S table N (p ∷ rest) = omega arith

-- a block blocks a pair that was not blocked
block_more : {S : System} {table : List Blocker} {N : ℕ} {p : Pending} {rest : List Pending} (inv : Invariant S table N (p ∷ rest)) {mask : ℕ} (entered : ℕ)
    → Passes S table (N - suc (length rest)) p.case mask → N ≤ 2 ^ S.states
    → blocked_pairs S table < blocked_pairs S (put_among table (entering N rest mask entered) [])
block_more {S} {table} {N} {p} {rest} inv entered passing l =
    let own = chain_lowest inv.chain in
    pairs_more S (block_grown inv entered passing).grows (N - suc (length rest)) p.case
    (omega (arith, own.high))
    (within_below S.states p.case own.inside)
    (λ b. own.free (suc (N - suc (length rest))) (omega (arith, own.high)) (blocked_covered b))
    (by_blocker (block_covers inv entered passing))

-- how far a run has come: its level has room, and its steps are fewer than the measure
pub record Bounded (S : System) (c : Configuration) : Type 0 where
  pub level_low : c.level + shut c.is_open ≤ 2 ^ S.states
  pub steps_fewer : c.steps < measure S c.table c.level c.pending c.is_open

-- a block that goes on goes on as it made the configuration
blocked_goes : {rooms : Rooms} {c made d : Configuration} → Judged rooms c (blocks made) (goes_on d) → made ≡ d
blocked_goes (room_to_block k) = refl

module _ {S : System} (lawful : Lawful S) where
  -- a step that is made raises the measure, and a close without a verdict leaves a level to open
  bounded_goes : {given : Given} → Sound S given.grow → {rooms : Rooms} {c d : Configuration} {pending : List Pending} {is_open : Bool} {st : Step}
      → Taken S given c pending is_open st → Judged rooms c st (goes_on d) → Invariant S c.table c.level pending → c.is_open ≡ is_open
      → c.level + shut is_open ≤ 2 ^ S.states → c.steps < measure S c.table c.level pending is_open → Bounded S d
  unfolding open_step extend_step block_step close_with measure put_among staying keep bit neg
  bounded_goes sound opening (room_to_open k) h e l m = omega arith
  bounded_goes sound (finding s k t u) j h e l m = elim j [ ]
  bounded_goes sound (extending s k t u) extended h e l m = omega (arith, ap shut e)
  bounded_goes {given} sound {c = c} (blocking {p = p} {rest = rest} f) j h e l m =
      let passing = chosen_passes sound (unqualified_passes h f) (chosen_is S given c (under c rest) p.case) in
      let new : List Blocker = (made_by (block_step S.initial S.finals c rest (under c rest) (chosen S given c (under c rest) p.case))).table in
      let more : blocked_pairs S c.table < blocked_pairs S new = block_more h _ passing (omega arith) in
      subst (Bounded S) (blocked_goes j) (omega (arith, ap shut e, more, after_length S new c.level rest))
  bounded_goes sound {c = c} (closing q) closed h e l m =
      let grown = levels_grown c.level 1 (omega arith) h.kept in
      omega (arith, levels_held (closed_table S c) c.level q, few_blockers lawful grown.kept, pairs_monotone S grown.grows)
  bounded_goes sound (emptying i k t u) j h e l m = elim j [ ]

  -- so does each call that goes on, whatever it is given, as long as it grows soundly
  pub advanced_bounded : {rooms : Rooms} {given : Given} {c d : Configuration} → Sound S given.grow → Holds S c → Bounded S c
      → Advanced S rooms given c (goes_on d) → Bounded S d
  advanced_bounded {given = given} {c = c} sound h b (tried l j) =
      bounded_goes sound (step_taken {given = given} c) j h refl b.level_low b.steps_fewer

  -- a run that works has made fewer than 4^(n+1) steps
  pub working_few : {c : Configuration} → Holds S c → Bounded S c → c.steps < 4 ^ suc S.states
  working_few {c} h b = omega (arith, b.steps_fewer, measure_most lawful c.is_open h b.level_low)

  module _ (rooms : Rooms) (blockers_suffice : 2 ^ S.states ≤ rooms.blockers) (word_suffices : 2 ^ S.states ≤ rooms.word) where
    -- a step that ends the run answers: there was room for it
    ends_decided : {given : Given} {c : Configuration} {pending : List Pending} {is_open : Bool} {st : Step} {outcome : Outcome} {left : Configuration}
        → Taken S given c pending is_open st → Judged rooms c st (ends outcome left) → Right S st → c.level + shut is_open ≤ 2 ^ S.states
        → (made_by st).steps ≤ 4 ^ suc S.states → Decided (4 ^ suc S.states) outcome left
    unfolding open_step extend_step block_step close_with bit neg
    ends_decided opening (no_room_to_open k) r l steps = absurd (omega arith)
    ends_decided (finding s i t u) found r l steps = record { verdict = tt; in_time = steps }
    ends_decided (extending s i t u) j r l steps = elim j [ ]
    ends_decided (blocking f) (no_room_to_block k) r l steps = absurd (omega (arith, few_blockers lawful r.kept))
    ends_decided (closing q) j r l steps = elim j [ ]
    ends_decided (emptying j i h t) emptied r l steps = record { verdict = tt; in_time = steps }

    -- a call that ends a run gives a verdict: its allowance is not used up, and there is room
    pub advanced_decided : FinalsClear S → {given : Given} {c left : Configuration} {outcome : Outcome} → Sound S given.grow
        → 4 ^ suc S.states ≤ given.allowance → Holds S c → Bounded S c → Advanced S rooms given c (ends outcome left)
        → Decided (4 ^ suc S.states) outcome left
    advanced_decided clear {given} {c} sound enough h b (tried l j) =
        ends_decided (step_taken {given = given} c) j
        (step_right S lawful clear given sound c h) b.level_low
        (omega (arith, step_counts S given c, working_few h b))
    advanced_decided clear sound enough h b (spent l) = absurd (omega (arith, working_few h b))

-- it is so at the beginning
pub beginning_bounded : (S : System) → Bounded S beginning
unfolding beginning measure bit neg
beginning_bounded S = omega (arith, pow_pos S.states)
