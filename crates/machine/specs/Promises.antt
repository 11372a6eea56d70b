-- The promises: each sentence of the demands as one statement, over the definitions that the contracts cite. That all of them are kept is
-- `Rattle.machine.proofs.Kept.kept`. Assumes nothing: these are statements.
use Rattle.std.specs.Prelude.{ℕ, suc, ◌+◌, ◌-◌, ◌*◌, ◌^◌, ◌≤◌, ◌<◌, min, ◌≡◌, false, List, [], ◌∷◌, ◌++◌, map, ◌↔◌, ◌⊎◌, T, eqb, length, get_or, take, replicate}
use Rattle.lists.specs.Lists.{◌∈◌, Each, any, keep}
use Rattle.masks.specs.Sets.{Member, member, subset, union, without, single, full, within}
use Rattle.automata.specs.Image.{Row, Valid, check_image, states_of, symbols_of, row_count_of, initial_of, final_of, rows_of}
use Rattle.automata.specs.Automaton.{Automaton, automaton_of, backward, HasRow, taken_back, bring_all_in, rows_walked, HoldOne}
use Rattle.automata.specs.Acceptance.{Steps, Accepted}
use Rattle.automata.specs.WordTest.{word_test}
use Rattle.automata.specs.Picks.{events_of, FormRun, AllPick}
use Rattle.automata.specs.Answers.{read_image, image_number, head_after}
use Rattle.writing.specs.Decimal.{digits, IsDecimal}
use Rattle.writing.specs.Lines.{IsText, read_lines}
use Rattle.writing.specs.Rooms.{Answer, no_bytes, all_bytes, PastStays}
use Rattle.machine.specs.Machine.{Blocker, Pending, Configuration, Given, Rooms, Outcome, goes_on, ends}
use Rattle.machine.specs.Machine.{begin, advance, chain, calls_of, blocks, step, covers, blocked, passes}
use Rattle.machine.specs.Meaning.{Closed, EnteredInOrder, WorksIn, EndedBy, makes_block, takes_hint, steps_made, Raised}
use Rattle.machine.specs.Why.{Reason, by_blocker, by_start, nothing, why, FirstCovering, LowestAbsent}
use Rattle.machine.specs.Hitting.{cover, forbidden, with_cases, to_meet, meets, best, picked, growth_of}
use Rattle.machine.specs.Print.{print_of, print_run}
use Rattle.machine.specs.Lent.{BlockerRoom, Lent, EvenRooms, zeroed, blockers_in, column, each_table}
use Rattle.machine.specs.Runs.{Terms, RunRecord, Stage, five_numbers, system_of, rooms_of, given_of, shown, alone, check_run, run_of}
use Rattle.machine.specs.Program.{lines_of}
use Rattle.machine.specs.Records.{configuration_of, after, Called, answering, begin_of, check_step, step_of, steps_from, reached_by, unrefused, given_by}

-- a symbol of the word is k or above
pub record HasUnknown (image word : List ℕ) : Type 0 where
  pub symbol : ℕ
  pub listed : symbol ∈ word
  pub above : symbols_of image ≤ symbol

-- the blockers that are held, as they stand in the tables
abbrev pub held_by : Stage → List Blocker
held_by at = (configuration_of at).table

-- "nonempty": the symbol table begins with an accepted word, as long as the level says, and has 0 after it; no accepted word has fewer symbols. In
-- edition 2 it is not the empty word.
pub record WordFound (image : List ℕ) (lent : Lent) (edition : ℕ) (r : Stage) : Type 0 where
  pub word : List ℕ
  pub fits : length word ≤ length lent.word.symbols
  pub stands : r.tables.word.symbols ≡ word ++ replicate (length lent.word.symbols - length word) 0
  pub accepted : Accepted (automaton_of image) word
  pub long : length word ≡ r.run.level
  pub shortest : (other : List ℕ) → Accepted (automaton_of image) other → length word ≤ length other
  pub some_symbol : edition ≡ 2 → 1 ≤ length word

-- no room and no hint table has over 65,536 places
pub record FewPlaces (lent : Lent) (hints : List ℕ) : Type 0 where
  pub blockers : length lent.room.masks ≤ 65536
  pub word : length lent.word.cases ≤ 65536
  pub hints_few : length hints ≤ 65536

-- the rules by which a run that was not refused is judged, under its edition
pub record Rules (image : List ℕ) (lent : Lent) (edition : ℕ) (r : Stage) : Type 0 where
  -- ""Nonempty" only with a word accepted by the definition of Chandra, Kozen and Stockmeyer"; "their words are shortest"
  pub nonempty : r.run.answer ≡ 1 → WordFound image lent edition r
  -- ""empty" only if no word is accepted, and then with blockers closed under backward steps"
  pub empty : r.run.answer ≡ 0 → (word : List ℕ) → Accepted (automaton_of image) word → ⊥
  pub empty_frame : r.run.answer ≡ 0 → Closed (system_of image) (held_by r)
  -- 02, 6: "a start already final .. 2 answers such a start by 5": exactly if the empty word is accepted; ".. no steps, the rooms all 0"
  pub starts_final : (r.run.answer ≡ 5) ↔ ((edition ≡ 2) × Accepted (automaton_of image) [])
  pub starts_final_leaves : r.run.answer ≡ 5 → r ≡ alone (zeroed lent) 5
  -- 01: "if I is a subset of F, answer 1 with the empty word and 0 steps"; the rooms are all 0 then
  pub starts_nonempty : edition ≡ 1 → Accepted (automaton_of image) [] → r ≡ alone (zeroed lent) 1
  -- 02, 9: "a run that stops at level N, for want of steps or blocker room, has shown that no word shorter than N is accepted"
  pub stop_shows : (r.run.answer ≡ 2) ⊎ (r.run.answer ≡ 3) → (word : List ℕ) → Accepted (automaton_of image) word → r.run.level ≤ length word
  -- "one that stops at end of tape, none up to the word room's length, that length included"
  pub word_stop_shows : r.run.answer ≡ 4 → (word : List ℕ) → Accepted (automaton_of image) word → length lent.word.cases < length word
  -- "Below 20, pending cases are all 0; the symbol table holds .. 0 elsewhere; the blocker room holds the entries in table order, with 0 after them."
  pub other : r.run.answer ≤ 5
  pub held_fits : r.run.held ≤ length lent.room.masks
  pub leaves_cases : r.tables.word.cases ≡ (zeroed lent).word.cases
  pub leaves_symbols : (r.run.answer ≡ 1 → ⊥) → r.tables.word.symbols ≡ (zeroed lent).word.symbols
  pub leaves_blockers : r.tables.room
      ≡ each_table (λ field before. column field (held_by r) ++ replicate (length before - r.run.held) 0) lent.room
  -- 02, 8: "until the run ends, with nothing pending then"
  pub none_pending : r.run.pending ≡ 0
  -- "N is then no longer open. If some level .. answer 0"
  pub empty_shut : r.run.answer ≡ 0 → r.run.is_open ≡ false
  -- 02, 10: the steps with which its blockers entered rise in table order, from 1 on and up to the steps made
  pub entered_in_order : EnteredInOrder 0 r.run.steps (held_by r)

-- how a run ended that was called so: at its start, or by the call at which 01's machine answers or lacks steps or room
pub record RunEnded (image : List ℕ) (lent : Lent) (edition : ℕ) (calls : List Given) (r : Stage) : Type 0 where
  pub outcome : Outcome
  pub left : Configuration
  pub shows : r ≡ shown lent (ends outcome left)
  pub how : (begin (system_of image) edition ≡ ends outcome left) ⊎ EndedBy (system_of image) (rooms_of lent) edition calls outcome left

-- the same terms in another edition
abbrev pub in_edition : ℕ → Terms → Terms
in_edition edition terms = record { hints = terms.hints; allowance = terms.allowance; edition = edition; way = terms.way }

-- the same terms by another way
abbrev pub by_way : ℕ → Terms → Terms
by_way way terms = record { hints = terms.hints; allowance = terms.allowance; edition = terms.edition; way = way }

-- "A run's verdict is its number where that is 0 ("empty") or 1 ("nonempty")"; 02, 6: "5 being a verdict of edition 2"
abbrev pub Verdict : ℕ → ℕ → Type 0
Verdict edition number = (number ≤ 1) ⊎ ((edition ≡ 2) × (number ≡ 5))

-- a run that was called so has a verdict, after at most `most` steps, and any larger rooms and allowances leave the same
pub record Decides (image : List ℕ) (lent : Lent) (edition : ℕ) (calls : List Given) (most : ℕ) (r : Stage) : Type 0 where
  pub verdict : Verdict edition r.run.answer
  pub in_time : r.run.steps ≤ most
  pub unbounded : (rooms : Rooms) (raised : List Given) → length lent.room.masks ≤ rooms.blockers → length lent.word.cases ≤ rooms.word
      → Raised calls raised → r ≡ shown lent (chain (system_of image) rooms (begin (system_of image) edition) raised)

-- the promises of one run
pub record RunPromises (image : List ℕ) (lent : Lent) (terms : Terms) (r : Stage) : Type 0 where
  -- "Every malformed input is refused under its number in document 01, all lent tables untouched."
  pub refuses : (check_run image lent terms ≡ 0 → ⊥) → r ≡ alone lent (check_run image lent terms)
  pub refuses_image : (Valid image → ⊥) → r ≡ alone lent (check_image image)
  pub refuses_only : 20 ≤ r.run.answer → check_run image lent terms ≡ 0 → ⊥
  -- 02, 6: "an edition other than 1 or 2 gives 36 (unknown edition), after 31": whatever refuses the run in edition 1 and by way 0 comes first
  pub refuses_edition : (terms.edition ≡ 1 → ⊥) → (terms.edition ≡ 2 → ⊥) → check_run image lent (in_edition 1 (by_way 0 terms)) ≡ 0 → r ≡ alone lent 36
  pub edition_after : (check_run image lent (in_edition 1 (by_way 0 terms)) ≡ 0 → ⊥) → r ≡ alone lent (check_run image lent (in_edition 1 (by_way 0 terms)))
  -- 02, 7: "a way other than 0 or 1 gives 37 (unknown way), after 36": whatever refuses the run by way 0 comes first
  pub refuses_way : (terms.way ≡ 0 → ⊥) → (terms.way ≡ 1 → ⊥) → check_run image lent (by_way 0 terms) ≡ 0 → r ≡ alone lent 37
  pub way_after : (check_run image lent (by_way 0 terms) ≡ 0 → ⊥) → r ≡ alone lent (check_run image lent (by_way 0 terms))
  pub judged : check_run image lent terms ≡ 0 → Rules image lent terms.edition r
  -- "Any other run stops at the very step where 01's machine lacks steps or room."
  pub ended : check_run image lent terms ≡ 0 → RunEnded image lent terms.edition (calls_of (given_of image terms)) r
  -- no run makes more steps than it is allowed
  pub in_allowance : r.run.steps ≤ terms.allowance
  -- "with n ≤ 16, 2^n places and 4^(n+1) steps every run that is not refused reaches the verdict, with the machine's own count of steps, at most
  -- 4^(n+1)"; n ≤ 16 is what lets 2^n places pass check 31
  pub decides : check_run image lent terms ≡ 0 → states_of image ≤ 16 → 2 ^ states_of image ≤ length lent.room.masks
      → 2 ^ states_of image ≤ length lent.word.cases → 4 ^ suc (states_of image) ≤ terms.allowance
      → Decides image lent terms.edition (calls_of (given_of image terms)) (4 ^ suc (states_of image)) r

-- all fields of a record but its answer are 0
pub record OthersZero (run : RunRecord) : Type 0 where
  pub steps : run.steps ≡ 0
  pub level : run.level ≡ 0
  pub is_open : run.is_open ≡ false
  pub held : run.held ≡ 0
  pub pending : run.pending ≡ 0
  pub blocks : run.blocks ≡ 0
  pub accepted : run.accepted ≡ 0

-- 02, 8: the promises of a begin
pub record BeginPromises (image : List ℕ) (lent : Lent) (terms : Terms) (called : Called) : Type 0 where
  -- "a refused begin gives 0 in the other fields", and no step changes such a record: "a record with an answer above 6 .. gives 33"
  pub refuses : (check_run image lent terms ≡ 0 → ⊥) → called ≡ answering (alone lent (check_run image lent terms))
  pub refused_zero : (check_run image lent terms ≡ 0 → ⊥) → OthersZero called.left.run
  pub refused_stays : (check_run image lent terms ≡ 0 → ⊥) → (steps : List Terms) → steps_from image called.left steps ≡ called.left
  -- "begin checks the input and makes the start"
  pub begins : check_run image lent terms ≡ 0 → called ≡ answering (shown lent (begin (system_of image) terms.edition))

-- none of 33's bounds is passed
pub record Unbroken (rooms : Rooms) (run : RunRecord) : Type 0 where
  pub answer : run.answer ≤ 6
  pub held : run.held ≤ rooms.blockers
  pub level : run.level ≤ rooms.word
  pub pending : run.pending ≤ run.level
  pub blocks : run.blocks ≤ run.steps
  pub accepted : run.accepted ≤ run.steps

-- a table of which `old` places were in use, and then `new`: places that became free hold 0, "the rest stay"
pub record Changed (old new : ℕ) (before after : List ℕ) : Type 0 where
  pub long : length after ≡ length before
  pub freed : (i : ℕ) → new ≤ i → i < old → get_or after i 0 ≡ 0
  pub rest : (i : ℕ) → old ≤ i → new ≤ i → get_or after i 0 ≡ get_or before i 0

-- the same of each table of the blocker room
pub record RoomChanged (old new : ℕ) (before after : BlockerRoom) : Type 0 where
  pub masks : Changed old new before.masks after.masks
  pub levels : Changed old new before.levels after.levels
  pub entered : Changed old new before.entered after.entered

-- what a call changes in the tables; a word that is found stands in places of pending cases
pub record Changes (at : Stage) (called : Called) : Type 0 where
  pub room : RoomChanged at.run.held called.left.run.held at.tables.room called.left.tables.room
  pub cases : Changed at.run.pending called.left.run.pending at.tables.word.cases called.left.tables.word.cases
  pub symbols : (called.number ≡ 1 → ⊥) → Changed at.run.pending called.left.run.pending at.tables.word.symbols called.left.tables.word.symbols
  pub word : called.number ≡ 1 → Changed at.run.pending at.run.pending at.tables.word.symbols called.left.tables.word.symbols

-- 02, 8: the promises of one step on whatever stands in record and tables, made by a begin or not
pub record StepPromises (image : List ℕ) (terms : Terms) (at : Stage) (called : Called) : Type 0 where
  -- "gives 33 (broken ticket), after 37": a run's checks come first, and 33 exactly where one of its bounds is passed
  pub run_first : (check_run image at.tables terms ≡ 0 → ⊥) → check_step image terms at ≡ check_run image at.tables terms
  pub takes_unbroken : check_run image at.tables terms ≡ 0 → Unbroken (rooms_of at.tables) at.run → check_step image terms at ≡ 0
  pub refuses_broken : check_run image at.tables terms ≡ 0 → (Unbroken (rooms_of at.tables) at.run → ⊥) → check_step image terms at ≡ 33
  -- "a refused step changes nothing either, the record included"
  pub refuses : (check_step image terms at ≡ 0 → ⊥) → called ≡ record { number = check_step image terms at; left = at }
  -- "a finished record (0 to 5) gives its answer again and nothing changes"
  pub finished : check_step image terms at ≡ 0 → at.run.answer ≤ 5 → called ≡ answering at
  -- "does the machine's step for the places in use as they stand"
  pub works : check_step image terms at ≡ 0 → at.run.answer ≡ 6
      → called ≡ answering (after at (advance (system_of image) (rooms_of at.tables) (given_of image terms) (goes_on (configuration_of at))))
  -- "A working record whose steps have reached or passed the step's allowance gets 2."
  pub spent : check_step image terms at ≡ 0 → at.run.answer ≡ 6 → terms.allowance ≤ at.run.steps → called.number ≡ 2
  -- "the rest stay"
  pub changes : Changes at called
  -- what a step leaves that was not refused, no later one refuses as broken
  pub taken_again : check_step image terms at ≡ 0 → (later : Terms) → check_run image at.tables later ≡ 0 → check_step image later called.left ≡ 0

-- 02, 8: the promises of what a begin that was not refused and steps have made, each with hints, a way and an allowance of its own
pub record StepsPromises (image : List ℕ) (lent : Lent) (begun : Terms) (steps : List Terms) (at : Stage) : Type 0 where
  -- "Between calls of a working run the rooms stand as 01's machine has them."
  pub shows : at ≡ shown lent (chain (system_of image) (rooms_of lent) (begin (system_of image) begun.edition) (given_by image lent steps))
  -- "The rules judge such a run once its answer is no longer 6, under its begin's edition"; no later step changes what has ended
  pub judged : (at.run.answer ≡ 6 → ⊥) → Rules image lent begun.edition at
  pub ended : (at.run.answer ≡ 6 → ⊥) → RunEnded image lent begun.edition (given_by image lent steps) at
  pub stays : (at.run.answer ≡ 6 → ⊥) → (later : List Terms) → steps_from image at later ≡ at
  -- "for the bound, its allowance is the least that a step up to then was given": up to a step after which it worked no more
  pub decides : (upto later : List Terms) → steps ≡ upto ++ later → ((reached_by image lent begun upto).run.answer ≡ 6 → ⊥) → states_of image ≤ 16
      → 2 ^ states_of image ≤ length lent.room.masks → 2 ^ states_of image ≤ length lent.word.cases
      → Each (λ terms. 4 ^ suc (states_of image) ≤ terms.allowance) (unrefused image lent upto)
      → Decides image lent begun.edition (given_by image lent upto) (4 ^ suc (states_of image)) at
  -- it works no more after 4^(n+1) steps that are not refused, whatever its rooms and allowances
  pub works_no_more : 4 ^ suc (states_of image) ≤ length (unrefused image lent steps) → at.run.answer ≡ 6 → ⊥
  -- (what a caller wants to know) while it works it has shown as much as if it were stopped there
  pub working_shows : at.run.answer ≡ 6 → (word : List ℕ) → Accepted (automaton_of image) word → at.run.level ≤ length word

-- a run that was begun in this edition, at once or step by step, and what it leaves
pub data RunBy (image : List ℕ) (lent : Lent) : ℕ → Stage → Type 0 where
  at_once : (terms : Terms) → RunBy image lent terms.edition (run_of image lent terms)
  by_steps : (begun : Terms) (steps : List Terms) → RunBy image lent begun.edition (reached_by image lent begun steps)

-- 02, 2: the promises of the answer why a case X is blocked at level i
pub record WhyPromises (initial : ℕ) (table : List Blocker) (i X : ℕ) (answer : Reason) : Type 0 where
  -- "the place, from 0, of the first covering blocker in table order and its level"
  pub by_blocker : (place level : ℕ) → answer ≡ by_blocker place level → (1 ≤ i) × FirstCovering table i X place level
  -- "at level 0, the lowest initial state absent"
  pub by_start : (q : ℕ) → answer ≡ by_start q → (i ≡ 0) × LowestAbsent initial X q
  -- "none exactly if the case isn't blocked there"
  pub none_exactly : (answer ≡ nothing) ↔ (T (blocked initial table i X) → ⊥)

-- 02, 3: the promises of the number of a symbol's rows that are walked for the backward set of X
pub record WalkPromises (n : ℕ) (rows : List Row) (X walked : ℕ) : Type 0 where
  -- "the least number of first rows that brings all n in, or all rows if they never are"
  pub brings_or_all : T (bring_all_in n rows X walked) ⊎ (walked ≡ length rows)
  pub least : (fewer : ℕ) → fewer < walked → T (bring_all_in n rows X fewer) → ⊥
  -- "The set stays the same."
  pub same_set : backward (take walked rows) X ≡ backward rows X

-- 02, 7: the promises of the sets that are left of some cases once X's states are taken away
pub record CountedOnce (X : ℕ) (cases sets : List ℕ) : Type 0 where
  pub left_of_case : Each (λ set. T (any (λ case. eqb (without case X) set) cases)) sets
  -- "equal ones count once, empty ones not at all"
  pub none_empty : 0 ∈ sets → ⊥
  pub once : Each (λ case. (without case X ≡ 0 → ⊥) → length (keep (eqb (without case X)) sets) ≡ 1) cases

-- 02, 7: "the state that meets most of those not yet met, lowest number on ties": of n states
pub record MeetsMost (n : ℕ) (sets : List ℕ) (q : ℕ) : Type 0 where
  pub is_state : q < n
  pub most : (p : ℕ) → p < n → meets sets p ≤ meets sets q
  pub lowest : (p : ℕ) → p < q → meets sets p < meets sets q

-- a state of the set is one of those picked
pub record Met (picks set : ℕ) : Type 0 where
  pub state : ℕ
  pub inside : Member state set
  pub chosen : Member state picks

-- the case is that of a row, by some symbol, whose state is outside the symbol's b
pub record RowOutside (image : List ℕ) (b : ℕ → ℕ) (case : ℕ) : Type 0 where
  pub symbol : ℕ
  pub known : symbol < symbols_of image
  pub row : Row
  pub listed : row ∈ rows_of image symbol
  pub outside : Member row.state (b symbol) → ⊥
  pub its_case : case ≡ row.case

-- b is the mask of the first blocker that covers P; and all of the n states but the lowest initial one that P lacks
pub record FirstMask (table : List Blocker) (i P b : ℕ) : Type 0 where
  pub place : ℕ
  pub level : ℕ
  pub first : FirstCovering table i P place level
  pub its_mask : b ≡ first.blocker.mask

pub record AllButLowest (n initial P b : ℕ) : Type 0 where
  pub state : ℕ
  pub lowest : LowestAbsent initial P state
  pub all_but : (q : ℕ) → Member q b ↔ ((q < n) × (q ≡ state → ⊥))

-- 02, 7: "let b be X if the backward set lies in X, else the first covering blocker (at level 0, all states but the lowest absent initial one)": for the
-- backward set P, which is blocked one level below where it does not lie in X
pub record CoverPromises (n initial : ℕ) (table : List Blocker) (below X P b : ℕ) : Type 0 where
  pub itself : T (subset P X) → b ≡ X
  pub by_blocker : (T (subset P X) → ⊥) → 1 ≤ below → T (blocked initial table below P) → FirstMask table below P b
  pub by_start : (T (subset P X) → ⊥) → below ≡ 0 → T (blocked initial table below P) → AllButLowest n initial P b

-- 02, 7: the promises of a growth through a hitting set, with b for each symbol and the states that are picked
pub record HittingPromises (image : List ℕ) (table : List Blocker) (below X : ℕ) (b : ℕ → ℕ) (picks grown : ℕ) : Type 0 where
  pub covers : (s : ℕ) → CoverPromises (states_of image) (initial_of image) table below X (backward (rows_of image s) X) (b s)
  -- "Forbidden are I and the case of each row of that symbol whose state is outside b."
  pub forbids : (case : ℕ) → case ∈ forbidden (system_of image) (rows_of image) table below X ↔ ((case ≡ initial_of image) ⊎ RowOutside image b case)
  -- "until all are met"
  pub all_met : Each (Met picks) (to_meet (system_of image) (rows_of image) table below X)
  -- "the blocker is the states not picked"
  pub not_picked : (q : ℕ) → Member q grown ↔ ((q < states_of image) × (Member q picks → ⊥))

-- 01: the promises of a block of X, above which `rest` is pending, where c becomes d; below is i−1
pub record BlockPromises (image : List ℕ) (given : Given) (below : ℕ) (X : Pending) (c d : Configuration) : Type 0 where
  -- "Y enters at the end with level i", with this step
  pub mask : ℕ
  pub others : List Blocker
  pub enters : d.table ≡ others ++ record { mask = mask; level = suc below; entered = suc c.steps } ∷ []
  -- "If t blocks came before and hint t exists and passes, it is taken", and counted; "Otherwise" Y is grown, and none is
  pub hinted : c.blocks < length given.hints → T (passes (system_of image) c.table below X.case (get_or given.hints c.blocks 0))
      → (mask ≡ get_or given.hints c.blocks 0) × (d.accepted ≡ suc c.accepted)
  pub grown : (c.blocks < length given.hints → T (passes (system_of image) c.table below X.case (get_or given.hints c.blocks 0)) → ⊥)
      → (mask ≡ given.grow c.table below X.case) × (d.accepted ≡ c.accepted)

-- the promises of a configuration in which a run works that was begun and called so
pub record WorkingPromises (image : List ℕ) (rooms : Rooms) (edition : ℕ) (calls : List Given) (c : Configuration) : Type 0 where
  -- "blocks made, hints accepted": the block steps made so far, and those of them that took a hint
  pub blocks : c.blocks ≡ steps_made makes_block (system_of image) rooms (begin (system_of image) edition) calls
  pub accepted : c.accepted ≡ steps_made takes_hint (system_of image) rooms (begin (system_of image) edition) calls
  -- "0 for the first one's symbol": it stands behind those of lower levels
  pub first_symbol : (lower : List Pending) (p : Pending) → c.pending ≡ lower ++ p ∷ [] → p.symbol ≡ 0
  -- who leaves on entering and on rising: no blocker covers another at its level
  pub none_covered : (before after : List Blocker) (blocker : Blocker) → c.table ≡ before ++ blocker ∷ after
      → Each (λ other. T (covers blocker.level blocker.mask other) → ⊥) (before ++ after)
  -- 02, 10: in table order they entered
  pub entered_in_order : EnteredInOrder 0 c.steps c.table
  -- the same calls, each with no smaller allowance, come to the same in larger rooms: so a run that stopped goes on there
  pub in_larger_rooms : (larger : Rooms) (raised : List Given) → rooms.blockers ≤ larger.blockers → rooms.word ≤ larger.word → Raised calls raised
      → length raised ≡ length calls → WorksIn (system_of image) larger edition raised c

-- 02, 1: the promises of the print of a word's run into a room
pub record PrintPromises (image word room : List ℕ) (answer : Answer) : Type 0 where
  -- "Checks: the word test's come first; a word not accepted gives 0"
  pub word_test_first : (word_test image word ≡ 1 → ⊥) → answer ≡ no_bytes (word_test image word) room
  -- ".. a room too short 35"
  pub too_short : word_test image word ≡ 1 → length room < length (print_of (automaton_of image) word) → answer ≡ no_bytes 35 room
  -- 01: "on success .. (for the print of a word's run, 1) with that length, the bytes past it staying"
  pub success : word_test image word ≡ 1 → length (print_of (automaton_of image) word) ≤ length room
      → answer ≡ all_bytes 1 (print_of (automaton_of image) word) room
  -- a reader of what was written gives back I, and the symbol and the case of each event; nothing but their decimals, one space between, and a newline
  -- behind each line stands there
  pub reads_back : word_test image word ≡ 1 → length (print_of (automaton_of image) word) ≤ length room
      → read_lines (take answer.written answer.room)
      ≡ (initial_of image ∷ []) ∷ map (λ event. event.symbol ∷ event.case ∷ []) (events_of (automaton_of image) word)
  pub plain : word_test image word ≡ 1 → length (print_of (automaton_of image) word) ≤ length room
      → IsText ((initial_of image ∷ []) ∷ map (λ event. event.symbol ∷ event.case ∷ []) (events_of (automaton_of image) word))
      (take answer.written answer.room)
  -- "the bytes past it staying", whatever the number
  pub past_stays : PastStays room answer
  -- (what a caller wants to know) the first line has at most 21 bytes and each other at most 24, so a room of so many is long enough
  pub room_enough : word_test image word ≡ 1 → 21 + 24 * length word ≤ length room → answer.number ≡ 1
  -- "Show that the lines form a run by the definition and end in a final case": from I, into F
  pub form_run : Valid image → Accepted (automaton_of image) word
      → FormRun (automaton_of image) (final_of image) (initial_of image) word (events_of (automaton_of image) word)
  -- "each state picks the first row in image order whose case lies inside the backward set of what remains of the word": there is one
  pub all_pick : Valid image → Accepted (automaton_of image) word → AllPick (automaton_of image) (final_of image) (initial_of image) word

-- 01: the promises of the program's two lines, of whatever stands in record and tables
pub record LinesPromises (at : Stage) (bytes : List ℕ) : Type 0 where
  pub second : List ℕ
  -- "numbers are decimal with one space between, and each line ends in a newline": line 1 has the five numbers
  pub plain : IsText (five_numbers at.run ∷ second ∷ []) bytes
  pub reads_back : read_lines bytes ≡ five_numbers at.run ∷ second ∷ []
  -- "Line 2: on 0 the frame's masks in table order, on 1 the word's symbols ..; else empty"
  pub frame : at.run.answer ≡ 0 → second ≡ take at.run.held at.tables.room.masks
  pub word : at.run.answer ≡ 1 → second ≡ take at.run.level at.tables.word.symbols
  pub else_empty : 1 < at.run.answer → second ≡ []

-- two runs that reached a verdict: the same one, and words of the same length
pub record Agreed (r s : Stage) : Type 0 where
  pub verdict : r.run.answer ≡ s.run.answer
  pub words : r.run.answer ≡ 1 → r.run.level ≡ s.run.level

-- 01: "A case is a set of states, written as a mask: bit q stands for state q": what the tests and sets mean that all definitions are made of, for every number
pub record MasksMean : Type 0 where
  pub member_means : (q set : ℕ) → T (member q set) ↔ Member q set
  pub subset_means : (a b : ℕ) → T (subset a b) ↔ ((q : ℕ) → Member q a → Member q b)
  pub within_means : (n set : ℕ) → T (within n set) ↔ ((q : ℕ) → Member q set → q < n)
  pub union_means : (a b q : ℕ) → Member q (union a b) ↔ (Member q a ⊎ Member q b)
  pub without_means : (a b q : ℕ) → Member q (without a b) ↔ (Member q a × (Member q b → ⊥))
  pub single_means : (q p : ℕ) → Member p (single q) ↔ (p ≡ q)
  pub full_means : (n q : ℕ) → Member q (full n) ↔ (q < n)

pub record Promises : Type 0 where
  pub masks : MasksMean
  -- "The backward set of a case X by symbol s is the set of states with a row by s whose case is a subset of X."
  pub backward_means : (rows : List Row) (X q : ℕ) → Member q (backward rows X) ↔ HasRow rows q X
  -- "The empty case steps to itself by every symbol."
  pub empty_steps : (A : Automaton) (s : ℕ) → s < A.symbols → Steps A s 0 0
  -- "So a word is accepted when F, taken back by its symbols from last to first, gives a set that contains I. That this equals the definition by runs is to
  -- be proved."
  pub accepted_means : (image word : List ℕ) → Valid image → Accepted (automaton_of image) word
      ↔ (Each (λ s. s < symbols_of image) word × T (subset (initial_of image) (taken_back (automaton_of image) word (final_of image))))
  -- "Every malformed input is refused under its number": the image reader, which then leaves what it was lent for the head
  pub reader_refuses : (image : List ℕ) → (Valid image → ⊥) → image_number (read_image image) ≡ check_image image
  pub reader_leaves : (image before : List ℕ) → (Valid image → ⊥) → head_after before (read_image image) ≡ before
  -- and else reads n, k, m, I and F as the bytes say
  pub reader_accepts : (image : List ℕ) → Valid image → image_number (read_image image) ≡ 0
  pub reader_reads : (image before : List ℕ) → Valid image
      → head_after before (read_image image) ≡ states_of image ∷ symbols_of image ∷ row_count_of image ∷ initial_of image ∷ final_of image ∷ []
  -- "Every malformed input is refused under its number": the word test under the image's number, and then under 32
  pub word_test_refuses_image : (image word : List ℕ) → (Valid image → ⊥) → word_test image word ≡ check_image image
  pub word_test_refuses_symbol : (image word : List ℕ) → (word_test image word ≡ 32) ↔ (Valid image × HasUnknown image word)
  -- "The word test says yes to the accepted words and no others."
  pub word_test_yes : (image word : List ℕ) → (word_test image word ≡ 1) ↔ (Valid image × Accepted (automaton_of image) word)
  pub word_test_no : (image word : List ℕ)
      → (word_test image word ≡ 0) ↔ (Valid image × Each (λ s. s < symbols_of image) word × (Accepted (automaton_of image) word → ⊥))
  -- images that hold one automaton give one answer
  pub word_test_same : (image other word : List ℕ) → Valid image → Valid other → HoldOne image other → word_test image word ≡ word_test other word
  -- 30: the tables of one room differ in length; 31: they do not, and a room or the hint table has over 65,536 places; of a valid image, and neither otherwise
  pub odd_rooms : (image : List ℕ) (lent : Lent) (terms : Terms) → (check_run image lent terms ≡ 30) ↔ (Valid image × (EvenRooms lent → ⊥))
  pub oversize : (image : List ℕ) (lent : Lent) (terms : Terms)
      → (check_run image lent terms ≡ 31) ↔ (Valid image × EvenRooms lent × (FewPlaces lent terms.hints → ⊥))
  -- every run keeps its promises, whatever it is lent
  pub runs : (image : List ℕ) (lent : Lent) (terms : Terms) → RunPromises image lent terms (run_of image lent terms)
  -- 02, 8: every begin, every step, and what a begin and steps make
  pub begins : (image : List ℕ) (lent : Lent) (terms : Terms) → BeginPromises image lent terms (begin_of image lent terms)
  pub steps : (image : List ℕ) (terms : Terms) (at : Stage) → StepPromises image terms at (step_of image terms at)
  pub by_steps : (image : List ℕ) (lent : Lent) (begun : Terms) (steps : List Terms) → check_run image lent begun ≡ 0
      → StepsPromises image lent begun steps (reached_by image lent begun steps)
  -- "The former run must equal begin, then steps."
  pub run_is_steps : (image : List ℕ) (lent : Lent) (terms : Terms)
      → run_of image lent terms ≡ reached_by image lent terms (replicate (suc terms.allowance) terms)
  -- "Whatever hints, rooms and allowances, two runs on one valid automaton that reach a verdict agree", within one edition; 02, 7: "The two-run rule ..
  -- both ways, mixed too"; 02, 8: at once or step by step
  pub runs_agree : (image other : List ℕ) (lent lent' : Lent) (edition : ℕ) (r s : Stage) → HoldOne image other → RunBy image lent edition r
      → RunBy other lent' edition s → Verdict edition r.run.answer → Verdict edition s.run.answer → Agreed r s
  -- 02, 6: "1 answers as now, 2 answers such a start by 5": on any other start the two editions are one
  pub editions_agree : (image : List ℕ) (lent : Lent) (terms : Terms) → (Accepted (automaton_of image) [] → ⊥)
      → run_of image lent (in_edition 1 terms) ≡ run_of image lent (in_edition 2 terms)
  -- "X is no longer pending": a block leaves the cases pending that waited above X, and no other; wherever a run works, at once or step by step
  pub block_unpends : (image : List ℕ) (rooms : Rooms) (edition : ℕ) (steps : List Terms) (terms : Terms) (X : Pending) (rest : List Pending)
      (c d : Configuration) → Valid image → WorksIn (system_of image) rooms edition (map (given_of image) steps) c → c.pending ≡ X ∷ rest
      → step (system_of image) (given_of image terms) c ≡ blocks d
      → d.pending ≡ rest
  -- 02, 7: "Show that it passes the block test whenever X does": for either way, every table, level and X
  pub grows_passing : (image : List ℕ) (way : ℕ) (table : List Blocker) (below X : ℕ) → Valid image → T (passes (system_of image) table below X X)
      → T (passes (system_of image) table below X (growth_of way (system_of image) (rows_of image) table below X))
  -- "as every X that a run from its begin grows does": whatever case a step blocks, by the table at that time
  pub blocked_passes : (image : List ℕ) (rooms : Rooms) (edition : ℕ) (steps : List Terms) (terms : Terms) (X : Pending) (rest : List Pending)
      (c d : Configuration) → Valid image → WorksIn (system_of image) rooms edition (map (given_of image) steps) c → c.pending ≡ X ∷ rest
      → step (system_of image) (given_of image terms) c ≡ blocks d
      → T (passes (system_of image) c.table (c.level - suc (length rest)) X.case X.case)
  -- 01: what a block makes, of every configuration
  pub block_makes : (image : List ℕ) (given : Given) (X : Pending) (rest : List Pending) (c d : Configuration) → c.pending ≡ X ∷ rest
      → step (system_of image) given c ≡ blocks d → BlockPromises image given (c.level - suc (length rest)) X c d
  -- what holds wherever a run works, at once or step by step
  pub working : (image : List ℕ) (rooms : Rooms) (edition : ℕ) (steps : List Terms) (c : Configuration) → Valid image
      → WorksIn (system_of image) rooms edition (map (given_of image) steps) c → WorkingPromises image rooms edition (map (given_of image) steps) c
  -- 02, 7: a growth through a hitting set; what is counted, and which state is picked
  pub hits : (image : List ℕ) (table : List Blocker) (below X : ℕ) → Valid image
      → HittingPromises image table below X (λ s. cover (states_of image) (initial_of image) table below X (backward (rows_of image s) X))
      (picked (states_of image) (to_meet (system_of image) (rows_of image) table below X)) (growth_of 1 (system_of image) (rows_of image) table below X)
  pub counts_once : (X : ℕ) (cases : List ℕ) → CountedOnce X cases (with_cases X [] cases)
  pub picks_most : (n : ℕ) (sets : List ℕ) → 1 ≤ n → MeetsMost n sets (best n sets)
  -- 02, 2: why a case is blocked at a level, for every table
  pub why_tells : (initial : ℕ) (table : List Blocker) (i X : ℕ) → WhyPromises initial table i X (why initial table i X)
  -- "Of masks and levels of unlike length, the shorter table says how many blockers there are."
  pub shorter_counts : (masks levels : List ℕ) → length (blockers_in masks levels) ≡ min (length masks) (length levels)
  -- 02, 3: "let it tell how many of the symbol's rows it walked"
  pub walk_tells : (image : List ℕ) (s X : ℕ) → Valid image → s < symbols_of image
      → WalkPromises (states_of image) (rows_of image s) X (rows_walked (states_of image) (rows_of image s) X)
  -- 02, 1: the print of a word's run, for every input
  pub prints : (image word room : List ℕ) → PrintPromises image word room (print_run image word room)
  -- 01: the program's two lines
  pub prints_lines : (at : Stage) → LinesPromises at (lines_of at)
  -- "Decimals are written digit by digit, most significant first": read back they are the number, and no 0 stands in front; 0 is one digit
  pub decimals : (number : ℕ) → IsDecimal number (digits number)
  pub decimal_zero : digits 0 ≡ 48 ∷ []
