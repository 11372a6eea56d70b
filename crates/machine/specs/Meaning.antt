-- What the promises say of runs: a closed frame, when its blockers entered, where a run ended and what it lacked there, its blocks and those that took a
-- hint, and what it was given.
-- Assumes nothing: these are definitions.
use Rattle.std.specs.Prelude.{ℕ, suc, ◌+◌, ◌-◌, ◌≤◌, ◌<◌, ◌≡◌, Bool, true, false, List, [], ◌∷◌, ◌++◌, T, ltb, length, get_or}
use Rattle.lists.specs.Tests.{◌and◌}
use Rattle.lists.specs.Lists.{◌∈◌, Each}
use Rattle.masks.specs.Sets.{subset}
use Rattle.automata.specs.WordTest.{one_if}
use Rattle.machine.specs.System.{System}
use Rattle.machine.specs.Machine.{Blocker, Pending, Configuration, Given, Rooms, passes, step, Next, goes_on, ends, halted, advance, chain, begin}
use Rattle.machine.specs.Machine.{Step, opens, extends, blocks, closes, answers_nonempty, answers_empty}
use Rattle.machine.specs.Machine.{Outcome, nonempty, empty, steps_lack, blockers_lack, word_lacks, starts_final}

-- the case is a subset of one of the blockers
pub record Inside (table : List Blocker) (X : ℕ) : Type 0 where
  pub blocker : Blocker
  pub listed : blocker ∈ table
  pub covers : T (subset X blocker.mask)

-- "The frame is closed: F is a subset of one of its blockers, I of none, and each backward set of a blocker is a subset of a blocker."
pub record Closed (S : System) (frame : List Blocker) : Type 0 where
  pub final : Each (λ F. Inside frame F) S.finals
  pub initial : Each (λ blocker. T (subset S.initial blocker.mask) → ⊥) frame
  pub backward : Each (λ blocker. (s : ℕ) → s < S.symbols → Inside frame (S.backward s blocker.mask)) frame

-- in table order each blocker entered with a later step than the one before it: the first after step `before`, the last by step `by`
unfoldable pub EnteredInOrder : ℕ → ℕ → List Blocker → Type 0
EnteredInOrder before by [] = Unit {0}
EnteredInOrder before by (blocker ∷ table) =
    (before < blocker.entered) × (blocker.entered ≤ by) × EnteredInOrder blocker.entered by table

-- the next step is allowed, and is one of this sort that lacks room
pub record NoRoom (S : System) (given : Given) (c : Configuration) (Sort : Configuration → Step) (Full : Configuration → Type 0) : Type 0 where
  pub allowed : c.steps < given.allowance
  pub after : Configuration
  pub following : step S given c ≡ Sort after
  pub full : Full after

-- What is lacking in c where a run ends there without a verdict: "the allowance is used up"; "the next step is a block and finds no place", since it
-- would leave more blockers than there are places; "the next step is an open and the level equals the word room". Then c is left as it is, but that nothing
-- is pending. No step finds the start final.
abbrev pub Lacks : System → Rooms → Given → Configuration → Outcome → Configuration → Type 0
Lacks S rooms given c (nonempty word) left = Unit {0}
Lacks S rooms given c empty left = Unit {0}
Lacks S rooms given c steps_lack left = (left ≡ halted c) × (given.allowance ≤ c.steps)
Lacks S rooms given c blockers_lack left = (left ≡ halted c) × NoRoom S given c blocks (λ after. rooms.blockers < length after.table)
Lacks S rooms given c word_lacks left = (left ≡ halted c) × NoRoom S given c opens (λ after. c.level ≡ rooms.word)
Lacks S rooms given c starts_final left = ⊥

-- 01's machine, begun in this edition and called so, comes to c and works on; the calls of a run are all given the same
abbrev pub WorksIn : System → Rooms → ℕ → List Given → Configuration → Type 0
WorksIn S rooms edition calls c = chain S rooms (begin S edition) calls ≡ goes_on c

-- The call that ended a chain of calls: those before it left the machine working in `at`, and it ended there; those after it changed nothing.
pub record EndingCall (S : System) (rooms : Rooms) (start : Next) (calls : List Given) (outcome : Outcome) (left : Configuration) : Type 0 where
  pub before : List Given
  pub last : Given
  pub later : List Given
  pub at : Configuration
  pub split : calls ≡ before ++ last ∷ later
  pub reached : chain S rooms start before ≡ goes_on at
  pub ended : advance S rooms last (goes_on at) ≡ ends outcome left

-- the call that ended a run: each of those before it made a step, and without a verdict this is what it lacked
pub record EndedBy (S : System) (rooms : Rooms) (edition : ℕ) (calls : List Given) (outcome : Outcome) (left : Configuration) : Type 0 where
  pub call : EndingCall S rooms (begin S edition) calls outcome left
  pub counted : call.at.steps ≡ length call.before
  pub lacks : Lacks S rooms call.last call.at outcome left

-- the step is a block
unfoldable pub is_block : Step → Bool
is_block (blocks d) = true
is_block (opens d) = false
is_block (extends d) = false
is_block (closes d) = false
is_block (answers_nonempty word d) = false
is_block (answers_empty d) = false

-- "hint t exists and passes" for the lowest pending case, where t blocks came before
unfoldable pub hint_passes : System → Given → Configuration → List Pending → Bool
hint_passes S given c [] = false
hint_passes S given c (X ∷ rest) =
    ltb c.blocks (length given.hints) and passes S c.table (c.level - suc (length rest)) X.case (get_or given.hints c.blocks 0)

-- the step that a call makes is a block; and it is one that takes a hint
unfoldable pub makes_block : System → Given → Configuration → Bool
makes_block S given c = is_block (step S given c)

unfoldable pub takes_hint : System → Given → Configuration → Bool
takes_hint S given c = makes_block S given c and hint_passes S given c c.pending

-- how many calls of a chain made such a step
unfoldable pub steps_made : (System → Given → Configuration → Bool) → System → Rooms → Next → List Given → ℕ
steps_made such S rooms (goes_on c) [] = 0
steps_made such S rooms (ends outcome c) [] = 0
steps_made such S rooms (goes_on c) (given ∷ later) = one_if (such S given c) + steps_made such S rooms (advance S rooms given (goes_on c)) later
steps_made such S rooms (ends outcome c) (given ∷ later) = 0

-- the same with another allowance
abbrev pub raise : ℕ → Given → Given
raise allowance given = record { grow = given.grow; hints = given.hints; allowance = allowance }

-- calls that are given the same, each with no smaller allowance, and perhaps more calls after them
pub data Raised : List Given → List Given → Type 0 where
  raised_none : {more : List Given} → Raised [] more
  raised_one : {given : Given} {allowance : ℕ} {later later' : List Given} → given.allowance ≤ allowance → Raised later later'
      → Raised (given ∷ later) (raise allowance given ∷ later')
