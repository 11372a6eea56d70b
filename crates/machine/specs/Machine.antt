-- The machine of 01, over a backward system: its terms, its four steps, and the run. The order is 01's, and each definition carries its sentence.
-- Assumes nothing: these are definitions.
use Rattle.std.specs.Prelude.{ℕ, zero, suc, ◌+◌, ◌-◌, Bool, true, false, List, [], ◌∷◌, ◌++◌, leb, ltb, eqb, length, replicate}
use Rattle.std.proofs.Math.Option.{Option, none, some}
use Rattle.lists.specs.Tests.{◌and◌, ◌or◌, neg, choose}
use Rattle.lists.specs.Lists.{any, keep, first_from, each_from}
use Rattle.masks.specs.Sets.{subset, union, single, member, within}
use Rattle.machine.specs.System.{System}

-- "A blocker is a mask with a level of 1 or more." 02, 10: "an entry gets a third number, the count of steps including the block that made it"
pub record Blocker : Type 0 where
  pub mask : ℕ
  pub level : ℕ
  pub entered : ℕ

-- a pending case, "with the symbol that led to it, and 0 for the first one's symbol"
pub record Pending : Type 0 where
  pub case : ℕ
  pub symbol : ℕ

-- Where the machine stands. The table has the blockers in table order. The pending cases stand lowest level first, one for each level from the
-- lowest up to N, so the case before `rest` is at level N − length rest. `blocks` counts the blocks made, `accepted` those that took a hint.
pub record Configuration : Type 0 where
  pub table : List Blocker
  pub level : ℕ
  pub is_open : Bool
  pub pending : List Pending
  pub steps : ℕ
  pub blocks : ℕ
  pub accepted : ℕ

-- "The level N begins at 0, with no blockers and nothing pending."
unfoldable pub beginning : Configuration
beginning = record { table = []; level = 0; is_open = false; pending = []; steps = 0; blocks = 0; accepted = 0 }

-- one step of the machine, before anyone asks whether there is room for it: what it made of the configuration, or the answer that it gave
pub data Step : Type 0 where
  opens extends blocks closes : Configuration → Step
  answers_nonempty : List ℕ → Configuration → Step
  answers_empty : Configuration → Step

-- the blocker is of level i or more, and the case is a subset of it
unfoldable pub covers : ℕ → ℕ → Blocker → Bool
covers i X blocker = leb i blocker.level and subset X blocker.mask

-- "A case is blocked at level i ≥ 1 if it is a subset of a blocker of level i or more; at level 0 if it does not contain I."
unfoldable pub blocked : ℕ → List Blocker → ℕ → ℕ → Bool
blocked initial table zero X = neg (subset initial X)
blocked initial table (suc i) X = any (covers (suc i) X) table

-- "Each of these counts one step": c with one step more, and with this table, N, whether that is open, and these cases pending
abbrev pub one_more : Configuration → List Blocker → ℕ → Bool → List Pending → Configuration
one_more c table level is_open pending = record {
  table = table;
  level = level;
  is_open = is_open;
  pending = pending;
  steps = suc c.steps;
  blocks = c.blocks;
  accepted = c.accepted;
}

-- "If F is not blocked at N, F becomes pending at N": the first final case that is not blocked, as the only pending case
unfoldable pub final_pending : ℕ → List ℕ → List Blocker → ℕ → List Pending
final_pending initial [] table N = []
final_pending initial (F ∷ finals) table N =
    let later = final_pending initial finals table N in choose (blocked initial table N F) later (record { case = F; symbol = 0 } ∷ [])

-- "Open: N grows by 1 and is open. If F is not blocked at N, F becomes pending at N."
unfoldable pub open_step : ℕ → List ℕ → Configuration → Step
open_step initial finals c =
    let N = suc c.level in
    opens (one_more c c.table N true (final_pending initial finals c.table N))

-- the backward set P of Y "is a subset of Y or blocked at i−1", where below is i−1
unfoldable pub settled : ℕ → List Blocker → ℕ → ℕ → ℕ → Bool
settled initial table below Y P = subset P Y or blocked initial table below P

-- the symbol's backward set P of X "is neither a subset of X nor blocked at i−1"
unfoldable pub qualifies : System → List Blocker → ℕ → ℕ → ℕ → Bool
qualifies S table below X s = neg (settled S.initial table below X (S.backward s X))

-- "the symbols that led to the pending cases from the lowest level up": all but the first place's 0
unfoldable pub word_of : List Pending → List ℕ
word_of [] = []
word_of (p ∷ []) = []
word_of (p ∷ q ∷ rest) = p.symbol ∷ word_of (q ∷ rest)

-- "Extend. .. If P contains I: answer 1; the word is that symbol, then the symbols that led to the pending cases from the lowest level up.
-- Otherwise P becomes pending at i−1." The last argument is whether P contains I.
unfoldable pub extend_step : System → Configuration → Pending → List Pending → ℕ → Bool → Step
extend_step S c p rest s true = answers_nonempty (s ∷ word_of (p ∷ rest)) (one_more c c.table c.level c.is_open [])
extend_step S c p rest s false =
    extends (one_more c c.table c.level c.is_open (record { case = S.backward s p.case; symbol = s } ∷ p ∷ rest))

-- "A case Y passes if it contains X, does not contain I, has no bit at n or above, and its backward set by each symbol is a subset of Y or
-- blocked at i−1."
unfoldable pub passes : System → List Blocker → ℕ → ℕ → ℕ → Bool
passes S table below X Y =
    subset X Y and neg (subset S.initial Y) and within S.states Y
    and each_from (λ s. settled S.initial table below Y (S.backward s Y)) S.symbols 0

-- A way to grow: from the table, i−1 and X, the set Y that is to block X at i.
abbrev pub Growth : Type 0
Growth = List Blocker → ℕ → ℕ → ℕ

-- "states 0 to n−1 not in X are tried in order, each kept if the set with it still passes": one state
unfoldable pub with_state : System → List Blocker → ℕ → ℕ → ℕ → ℕ → ℕ
with_state S table below X q Y =
    let more = union Y (single q) in
    choose (neg (member q X) and passes S table below X more) more Y

-- the `count` states from q on
unfoldable pub with_states : System → List Blocker → ℕ → ℕ → ℕ → ℕ → ℕ → ℕ
with_states S table below X zero q Y = Y
with_states S table below X (suc count) q Y = with_states S table below X count (suc q) (with_state S table below X q Y)

-- "Otherwise Y starts as X; states 0 to n−1 not in X are tried in order"
unfoldable pub by_states : System → Growth
by_states S table below X = with_states S table below X S.states 0 X

-- hint t, if it exists
unfoldable pub hint_at : List ℕ → ℕ → Option ℕ
hint_at [] t = none
hint_at (hint ∷ hints) zero = some hint
hint_at (hint ∷ hints) (suc t) = hint_at hints t

-- the set that is to enter, and 1 if it is a hint, else 0
pub record Choice : Type 0 where
  pub mask : ℕ
  pub hinted : ℕ

unfoldable pub chosen_from : System → Growth → List Blocker → ℕ → ℕ → Option ℕ → Choice
chosen_from S grow table below X none = record { mask = grow table below X; hinted = 0 }
chosen_from S grow table below X (some hint) =
    let grown : Choice = record { mask = grow table below X; hinted = 0 } in
    choose (passes S table below X hint) (record { mask = hint; hinted = 1 }) grown

-- what a step is given: a way to grow, the hints, and the allowance against which the run's steps are tested
pub record Given : Type 0 where
  pub grow : Growth
  pub hints : List ℕ
  pub allowance : ℕ

-- "If t blocks came before and hint t exists and passes, it is taken. Otherwise" Y is grown.
unfoldable pub chosen : System → Given → Configuration → ℕ → ℕ → Choice
chosen S given c below X = chosen_from S given.grow c.table below X (hint_at given.hints c.blocks)

-- a blocker leaves for Y: it is of Y's level or lower and a subset of Y
unfoldable pub leaves : Blocker → Blocker → Bool
leaves Y blocker = leb blocker.level Y.level and subset blocker.mask Y.mask

-- "Blockers of level ≤ i that are subsets of Y leave and the rest close up"
unfoldable pub staying : Blocker → List Blocker → List Blocker
staying Y table = keep (λ blocker. neg (leaves Y blocker)) table

-- "X is no longer pending." Where nothing is left pending, the first final case that is not blocked at N takes its place: F alone has just been
-- blocked there.
unfoldable pub pending_after : ℕ → List ℕ → List Blocker → ℕ → List Pending → List Pending
pending_after initial finals table N [] = final_pending initial finals table N
pending_after initial finals table N (p ∷ rest) = p ∷ rest

-- "Y enters at the end with level i; X is no longer pending." It entered with this step.
unfoldable pub block_step : ℕ → List ℕ → Configuration → List Pending → ℕ → Choice → Step
block_step initial finals c rest below choice =
    let Y : Blocker = record { mask = choice.mask; level = suc below; entered = suc c.steps } in
    let table : List Blocker = staying Y c.table ++ Y ∷ [] in
    blocks (record {
      table = table;
      level = c.level;
      is_open = c.is_open;
      pending = pending_after initial finals table c.level rest;
      steps = suc c.steps;
      blocks = suc c.blocks;
      accepted = c.accepted + choice.hinted;
    })

-- "Extend. For the pending case X of lowest level i, the symbols are tried from 0 upward, and the first whose backward set P is neither a subset
-- of X nor blocked at i−1 is taken." "Block, if no symbol qualifies."
unfoldable pub work_on : System → Given → Configuration → Pending → List Pending → ℕ → Option ℕ → Step
work_on S given c p rest below (some s) = extend_step S c p rest s (subset S.initial (S.backward s p.case))
work_on S given c p rest below none = block_step S.initial S.finals c rest below (chosen S given c below p.case)

unfoldable pub work_step : System → Given → Configuration → Pending → List Pending → Step
work_step S given c p rest =
    let below : ℕ = c.level - suc (length rest) in
    work_on S given c p rest below (first_from (qualifies S c.table below p.case) S.symbols 0)

-- "a blocker of level exactly j all of whose backward sets are blocked at j rises to j+1"
unfoldable pub rises : System → List Blocker → ℕ → Blocker → Bool
rises S table j blocker =
    eqb blocker.level j and each_from (λ s. blocked S.initial table j (S.backward s blocker.mask)) S.symbols 0

-- "rising doesn't alter" when it entered
unfoldable pub risen : Blocker → Blocker
risen blocker = record { mask = blocker.mask; level = suc blocker.level; entered = blocker.entered }

-- "in table order, .. rises to j+1 in place; other subsets of it of level ≤ j+1 leave and the rest close up". The walk has passed the first list
-- and goes on with the second; `turns` is at least the second's length.
unfoldable pub rise_along : System → ℕ → ℕ → List Blocker → List Blocker → List Blocker
rise_along S zero j passed ahead = passed ++ ahead
rise_along S (suc turns) j passed [] = passed
rise_along S (suc turns) j passed (blocker ∷ ahead) = elim (rises S (passed ++ blocker ∷ ahead) j blocker) [
  | true ↦ rise_along S turns j (staying (risen blocker) passed ++ risen blocker ∷ []) (staying (risen blocker) ahead)
  | false ↦ rise_along S turns j (passed ++ blocker ∷ []) ahead
]

-- "For j from 1 to N": the `count` levels from j on
unfoldable pub rise_levels : System → ℕ → ℕ → List Blocker → List Blocker
rise_levels S zero j table = table
rise_levels S (suc count) j table = rise_levels S count (suc j) (rise_along S (length table) j [] table)

-- "some level .. holds no blocker"
unfoldable pub none_at : List Blocker → ℕ → Bool
none_at table j = neg (any (λ blocker. eqb blocker.level j) table)

-- "the frame is the blockers above j"
unfoldable pub frame : ℕ → List Blocker → List Blocker
frame j table = keep (λ blocker. ltb j blocker.level) table

-- "N is then no longer open. If some level from 1 to N then holds no blocker, take the lowest such j: answer 0; the frame is the blockers above j."
unfoldable pub close_with : Configuration → List Blocker → Option ℕ → Step
close_with c table none = closes (one_more c table c.level false [])
close_with c table (some j) = answers_empty (one_more c (frame j table) c.level false [])

unfoldable pub close_step : System → Configuration → Step
close_step S c =
    let table : List Blocker = rise_levels S c.level 1 c.table in
    close_with c table (first_from (none_at table) c.level 1)

-- "A pending case is worked on first; with none, an open N is closed; else a level is opened."
unfoldable pub step_on : System → Given → Configuration → List Pending → Bool → Step
step_on S given c (p ∷ rest) is_open = work_step S given c p rest
step_on S given c [] true = close_step S c
step_on S given c [] false = open_step S.initial S.finals c

unfoldable pub step : System → Given → Configuration → Step
step S given c = step_on S given c c.pending c.is_open

-- the places that a run is lent: for blockers, and for pending cases
pub record Rooms : Type 0 where
  pub blockers : ℕ
  pub word : ℕ

-- How a run ends: a word was found; the frame is the table; or the machine stands still for want of steps, of a place for a blocker, or of a place for a
-- pending case. Edition 2 has one end more: the start is final already, and nothing was done.
pub data Outcome : Type 0 where
  nonempty : List ℕ → Outcome
  empty steps_lack blockers_lack word_lacks starts_final : Outcome

-- what comes of a step where it was made or not: the run goes on, or how it ends, beside the configuration, "with nothing pending then"
pub data Next : Type 0 where
  goes_on : Configuration → Next
  ends : Outcome → Configuration → Next

abbrev pub comes_to : Next → Configuration
comes_to (goes_on c) = c
comes_to (ends outcome c) = c

-- c with nothing pending: what a run leaves that stops there
abbrev pub halted : Configuration → Configuration
halted c = record {
  table = c.table;
  level = c.level;
  is_open = c.is_open;
  pending = [];
  steps = c.steps;
  blocks = c.blocks;
  accepted = c.accepted;
}

-- "then the room that the step needs (3 or 4)": an open lacks room where "the level equals the word room"; a block that "finds no place" would
-- leave more blockers than there are places ("Room is judged after the leaving"). A step without room is not made.
unfoldable pub judge : Rooms → Configuration → Step → Next
judge rooms c (opens d) = choose (ltb c.level rooms.word) (goes_on d) (ends word_lacks (halted c))
judge rooms c (extends d) = goes_on d
judge rooms c (blocks d) = choose (leb (length d.table) rooms.blockers) (goes_on d) (ends blockers_lack (halted c))
judge rooms c (closes d) = goes_on d
judge rooms c (answers_nonempty word d) = ends (nonempty word) d
judge rooms c (answers_empty d) = ends empty d

-- One call that makes one step: "Before each step the allowance is tested (2), then the room that the step needs (3 or 4)." What has ended stays so.
unfoldable pub advance : System → Rooms → Given → Next → Next
advance S rooms given (goes_on c) =
    let made = judge rooms c (step S given c) in choose (ltb c.steps given.allowance) made (ends steps_lack (halted c))
advance S rooms given (ends outcome c) = ends outcome c

-- a chain of such calls, each given what is its own
unfoldable pub chain : System → Rooms → Next → List Given → Next
chain S rooms n [] = n
chain S rooms n (given ∷ later) = chain S rooms (advance S rooms given n) later

-- "answer 1 with the empty word and 0 steps"; 02, 6: "1 answers as now, 2 answers such a start by 5"
unfoldable pub start_answer : ℕ → Outcome
start_answer edition = choose (eqb edition 2) starts_final (nonempty [])

-- "Start: if I is a subset of F, answer .. Otherwise steps follow": one of the final cases contains I
unfoldable pub start : ℕ → List ℕ → ℕ → Next
start initial finals edition = choose (any (subset initial) finals) (ends (start_answer edition) beginning) (goes_on beginning)

abbrev pub begin : System → ℕ → Next
begin S edition = start S.initial S.finals edition

-- a run: begin, then calls that are all given the same: as many as its allowance has steps, and one that finds it used up
abbrev pub calls_of : Given → List Given
calls_of given = replicate (suc given.allowance) given

unfoldable pub machine : System → Rooms → ℕ → Given → Next
machine S rooms edition given = chain S rooms (begin S edition) (calls_of given)
