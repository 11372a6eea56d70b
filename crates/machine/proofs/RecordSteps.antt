-- What stands in record and tables where a run has come to a configuration: it is read back, and a step on it shows what the machine comes to by one call
-- more. So do steps one after the other, from a begin on. Assumes nothing.
use Prim.Native.Nat.{ℕ, ◌≤◌}
use mathlib.Core.Path.{◌≡◌, refl, sym, ap, ap₂, subst, ◌∙◌}
use mathlib.Core.Bool.{Bool, true, false}
use mathlib.Core.List.{List, [], ◌∷◌, map}
use native.Mathlib.Omega.{arith}
use borrow.Author.Tests.{eqb-true, eqb-false}
use lib.Dec.{eqb}
use lib.ListN.{length, length-replicate}
use Rattle.lists.specs.Tests.{choose}
use Rattle.lists.specs.Lists.{keep}
use Rattle.machine.specs.System.{System}
use Rattle.machine.specs.Machine.{Blocker, Configuration, Given, Rooms, beginning, Next, goes_on, ends, comes_to, advance, chain, begin}
use Rattle.machine.specs.Machine.{nonempty, starts_final}
use Rattle.machine.specs.Lent.{Lent, EvenRooms, zeroed, column, placed, with_table}
use Rattle.machine.specs.Runs.{Terms, Stage, system_of, given_of, rooms_of, end_number, number_of, record_of, word_in, word_left, tables_after, shown, check_run}
use Rattle.machine.specs.Records.{configuration_of, after, working_step, Called, step_of, steps_from, unrefused, given_by}
use Rattle.machine.specs.Promises.{Unbroken}
use Rattle.machine.proofs.Chains.{Begun, answered, final_at_once, started, begin_begun}
use Rattle.machine.proofs.LentTables.{column_length, placed_again, pending_again, word_again, tables_same, read_back_table, read_back_placed}
use Rattle.machine.proofs.Judging.{number_low, ends_zero, works_zero}
use Rattle.machine.proofs.AnyRecord.{SameLengths, Takes, takes_checked, room_changed, cases_changed}
use Rattle.machine.proofs.AnyRecord.{Stepped, refused, finished, worked, stepped, stepped_refused, stepped_takes, unworked_left}

-- a configuration has its place in the lent tables
record Fitting (lent : Lent) (c : Configuration) : Type 0 where
  table : length c.table ≤ length lent.room.masks
  pending : length c.pending ≤ length lent.word.cases

-- "begin .. makes the start": all places 0 are what it shows, since it has no blocker, nothing pending and no symbol of a word
pub begin_shown : (S : System) (lent : Lent) → EvenRooms lent → (edition : ℕ) → zeroed lent ≡ (shown lent (begin S edition)).tables
unfolding word_in beginning
begin_shown S lent even edition = at (begin_begun S edition)
  where
    at : {n : Next} → Begun S edition n → zeroed lent ≡ (shown lent n).tables
    at (answered e f) = sym (ends_zero lent even (nonempty []) beginning refl refl)
    at (final_at_once e f) = sym (ends_zero lent even starts_final beginning refl refl)
    at (started e) = sym (works_zero lent even beginning refl refl)

module _ (lent : Lent) (even : EvenRooms lent) (c : Configuration) (fit : Fitting lent c) where
  -- the rooms are as large as those that were lent
  rooms_shown : rooms_of (shown lent (goes_on c)).tables ≡ rooms_of lent
  unfolding tables_after
  rooms_shown =
      let held = length lent.room.masks in
      let waiting = length lent.word.cases in
      rw (
        (room_changed lent even held waiting (goes_on c) (omega arith) fit.table).masks.long,
        (cases_changed lent.word even.symbols waiting (omega arith) (goes_on c) tt fit.pending).long,
      )

  -- what stands there is read back
  read_shown : configuration_of (shown lent (goes_on c)) ≡ c
  unfolding record_of tables_after word_left
  read_shown =
      rw (
        read_back_table c.table (length lent.room.masks) lent.room,
        read_back_placed c.pending (length lent.word.cases) lent.word,
      )

  -- a change in the places in use of tables that were written before
  again : (size old : ℕ) (first second before : List ℕ) → length first ≡ size → size ≤ old
      → placed size second (placed old first before) ≡ placed old second before
  again size old first second before e l =
      ap (λ (k : ℕ). placed k second (placed old first before)) (sym e) ∙ placed_again old first second before (omega arith)

  room_again : (table : List Blocker)
      → with_table (length c.table) table (with_table (length lent.room.masks) c.table lent.room)
      ≡ with_table (length lent.room.masks) table lent.room
  unfolding with_table
  room_again table =
      tables_same _ _ lent.room (λ field before.
      again (length c.table) (length lent.room.masks) (column field c.table) (column field table) before
      (column_length field c.table) fit.table)

  -- what the next configuration puts in the places in use is all that it shows
  word_again_left : (n : Next) → word_left (length c.pending) n (word_left (length lent.word.cases) (goes_on c) lent.word)
      ≡ word_left (length lent.word.cases) n lent.word
  unfolding word_left
  word_again_left (goes_on d) = pending_again _ _ c.pending d.pending [] lent.word refl fit.pending
  word_again_left (ends o d) = word_again _ _ c.pending [] (word_in o) lent.word refl fit.pending

  after_shown : (n : Next) → after (shown lent (goes_on c)) n ≡ shown lent n
  unfolding after record_of tables_after
  after_shown n = rw (room_again (comes_to n).table, word_again_left n)

  -- a step from there shows the machine's next configuration
  step_shown : (image : List ℕ) (given : Given)
      → working_step image given (shown lent (goes_on c)) ≡ shown lent (advance (system_of image) (rooms_of lent) given (goes_on c))
  unfolding working_step
  step_shown image given =
      ap₂ (λ (rooms : Rooms) (d : Configuration). after (shown lent (goes_on c)) (advance (system_of image) rooms given (goes_on d)))
      rooms_shown read_shown
      ∙ after_shown (advance (system_of image) (rooms_of lent) given (goes_on c))

-- what a begin shows, the first step takes
pub begin_takes : (S : System) (lent : Lent) → EvenRooms lent → (edition : ℕ) → Takes lent (shown lent (begin S edition))
unfolding record_of beginning number_of end_number
begin_takes S lent even edition =
    record {
      same = subst (SameLengths lent) (begin_shown S lent even edition) zeros;
      unbroken = at (begin_begun S edition);
    }
  where
    zeros : SameLengths lent (zeroed lent)
    zeros = record {
      masks = length-replicate _ _;
      levels = length-replicate _ _;
      entered = length-replicate _ _;
      cases = length-replicate _ _;
      symbols = length-replicate _ _;
    }

    at : {n : Next} → Begun S edition n → Unbroken (rooms_of lent) (record_of n)
    at (answered e f) = omega arith
    at (final_at_once e f) = omega arith
    at (started e) = omega arith

module _ (image : List ℕ) (lent : Lent) (even : EvenRooms lent) where
  -- a step that is not refused shows what the machine comes to by one call more
  call_shown : (terms : Terms) → check_run image lent terms ≡ 0 → (n : Next) → Takes lent (shown lent n)
      → (step_of image terms (shown lent n)).left ≡ shown lent (advance (system_of image) (rooms_of lent) (given_of image terms) n)
  unfolding record_of number_of advance
  call_shown terms none (goes_on c) takes = by (stepped image terms (shown lent (goes_on c)))
    where
      fit : Fitting lent c
      fit = omega (arith, takes.unbroken)

      by : {called : Called} → Stepped image terms (shown lent (goes_on c)) called
          → called.left ≡ shown lent (advance (system_of image) (rooms_of lent) (given_of image terms) (goes_on c))
      by (refused f) = absurd (f (takes_checked image terms takes ∙ none))
      by (finished e f) = absurd (f refl)
      by (worked e six) = step_shown lent even c fit image (given_of image terms)
  call_shown terms none (ends o c) takes = unworked_left image terms (shown lent (ends o c)) (λ six. omega (arith, six, number_low o))

  -- a refused one changes nothing
  refused_leaves : (terms : Terms) → (check_run image lent terms ≡ 0 → ⊥) → (at : Stage) → Takes lent at → (step_of image terms at).left ≡ at
  refused_leaves terms f at takes =
      ap (λ (called : Called). called.left) (stepped_refused (stepped image terms at) (λ e. f (sym (takes_checked image terms takes) ∙ e)))

  -- "Between calls of a working run the rooms stand as 01's machine has them."
  pub steps_shown : (at : Stage) (n : Next) → at ≡ shown lent n → Takes lent at → (steps : List Terms)
      → steps_from image at steps ≡ shown lent (chain (system_of image) (rooms_of lent) n (given_by image lent steps))
  unfolding steps_from chain unrefused keep choose
  steps_shown at n shows takes [] = shows
  steps_shown at n shows takes (terms ∷ later) =
      by (λ m left. steps_shown (step_of image terms at).left m left (stepped_takes (stepped image terms at) takes) later)
      (eqb (check_run image lent terms) 0) refl
    where
      by : ((m : Next) → (step_of image terms at).left ≡ shown lent m
          → steps_from image (step_of image terms at).left later ≡ shown lent (chain (system_of image) (rooms_of lent) m (given_by image lent later)))
          → (b : Bool) → eqb (check_run image lent terms) 0 ≡ b
          → steps_from image (step_of image terms at).left later
          ≡ shown lent (chain (system_of image) (rooms_of lent) n
          (map (given_of image) (choose b (terms ∷ unrefused image lent later) (unrefused image lent later))))
      by rec true e =
          rec (advance (system_of image) (rooms_of lent) (given_of image terms) n)
          (ap (λ (x : Stage). (step_of image terms x).left) shows ∙ call_shown terms (eqb-true _ _ e) n (subst (Takes lent) shows takes))
      by rec false e = rec n (refused_leaves terms (eqb-false _ _ e) at takes ∙ shows)
