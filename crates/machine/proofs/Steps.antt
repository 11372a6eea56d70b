-- Which step is made and what comes of a call, as data: a step with what was tested before it, and a call as the rooms and the allowance judge it. What
-- one call keeps, a chain keeps. Assumes nothing.
use Prim.Native.Nat.{ℕ, suc, ◌-◌, ◌≤◌, ◌<◌}
use mathlib.Core.Path.{◌≡◌, refl, sym, ap, subst, ◌∙◌}
use mathlib.Core.Bool.{Bool, true, false}
use mathlib.Core.List.{List, [], ◌∷◌}
use mathlib.Core.Logic.{◌⊎◌, inl, inr}
use mathlib.Core.Option.{Option, none, some}
use native.Mathlib.Omega.{arith}
use borrow.Author.Tests.{ltb-true, ltb-false, leb-true, leb-false, lt-ltb}
use lib.Dec.{T, ltb}
use lib.ListN.{length}
use Rattle.lists.specs.Tests.{choose}
use Rattle.lists.specs.Lists.{here, there, Each, first_from}
use Rattle.lists.proofs.Tests.{holds, fails, choose_either}
use Rattle.lists.proofs.Lists.{first_from_none, first_from_some}
use Rattle.masks.specs.Sets.{subset}
use Rattle.machine.specs.System.{System}
use Rattle.machine.specs.Machine.{Blocker, Pending, Configuration, Given, Rooms}
use Rattle.machine.specs.Machine.{Step, opens, extends, blocks, closes, answers_nonempty, answers_empty}
use Rattle.machine.specs.Machine.{qualifies, chosen, rise_levels, none_at, open_step, extend_step, block_step, close_with, close_step}
use Rattle.machine.specs.Machine.{work_on, work_step, step_on, step, Next, goes_on, ends, halted, judge, advance, chain}
use Rattle.machine.specs.Machine.{Outcome, nonempty, empty, steps_lack, blockers_lack, word_lacks}
use Rattle.machine.specs.Meaning.{EndingCall, raise}

-- one below the level of the case that waits before `rest`
abbrev pub under : Configuration → List Pending → ℕ
under c rest = c.level - suc (length rest)

-- the table that a close makes
abbrev pub closed_table : System → Configuration → List Blocker
closed_table S c = rise_levels S c.level 1 c.table

-- the step from c with these cases pending, open or not, and what was tested before it
pub data Taken (S : System) (given : Given) (c : Configuration) : List Pending → Bool → Step → Type 0 where
  opening : Taken S given c [] false (open_step S.initial S.finals c)
  finding : {p : Pending} {rest : List Pending} {is_open : Bool} (s : ℕ) → s < S.symbols
      → T (qualifies S c.table (under c rest) p.case s) → T (subset S.initial (S.backward s p.case))
      → Taken S given c (p ∷ rest) is_open (extend_step S c p rest s true)
  extending : {p : Pending} {rest : List Pending} {is_open : Bool} (s : ℕ) → s < S.symbols
      → T (qualifies S c.table (under c rest) p.case s) → (T (subset S.initial (S.backward s p.case)) → ⊥)
      → Taken S given c (p ∷ rest) is_open (extend_step S c p rest s false)
  blocking : {p : Pending} {rest : List Pending} {is_open : Bool}
      → ((s : ℕ) → s < S.symbols → T (qualifies S c.table (under c rest) p.case s) → ⊥)
      → Taken S given c (p ∷ rest) is_open (block_step S.initial S.finals c rest (under c rest) (chosen S given c (under c rest) p.case))
  closing : first_from (none_at (closed_table S c)) c.level 1 ≡ none → Taken S given c [] true (close_with c (closed_table S c) none)
  emptying : (j : ℕ) → 1 ≤ j → j ≤ c.level → T (none_at (closed_table S c) j)
      → Taken S given c [] true (close_with c (closed_table S c) (some j))

module _ {S : System} {given : Given} where
  -- with a symbol that qualifies: by whether its backward set contains I
  extend_taken : (c : Configuration) {p : Pending} {rest : List Pending} {is_open : Bool} (s : ℕ) → s < S.symbols
      → T (qualifies S c.table (under c rest) p.case s) → (b : Bool) → subset S.initial (S.backward s p.case) ≡ b
      → Taken S given c (p ∷ rest) is_open (extend_step S c p rest s b)
  extend_taken c s l t true e = finding s l t (holds e)
  extend_taken c s l t false e = extending s l t (fails e)

  -- with a pending case: by the first symbol that qualifies
  work_taken : (c : Configuration) (p : Pending) (rest : List Pending) {is_open : Bool} (o : Option ℕ)
      → first_from (qualifies S c.table (under c rest) p.case) S.symbols 0 ≡ o
      → Taken S given c (p ∷ rest) is_open (work_on S given c p rest (under c rest) o)
  unfolding work_on
  work_taken c p rest none e =
      blocking (λ s l. first_from_none (qualifies S c.table (under c rest) p.case) S.symbols 0 e s (omega arith) (omega arith))
  work_taken c p rest (some s) e =
      let r = first_from_some (qualifies S c.table (under c rest) p.case) S.symbols 0 e in
      extend_taken c s (omega arith) r.2 (subset S.initial (S.backward s p.case)) refl

  -- with nothing pending at an open level: by the lowest level that holds no blocker
  close_taken : (c : Configuration) (o : Option ℕ) → first_from (none_at (closed_table S c)) c.level 1 ≡ o
      → Taken S given c [] true (close_with c (closed_table S c) o)
  close_taken c none e = closing e
  close_taken c (some j) e =
      let r = first_from_some (none_at (closed_table S c)) c.level 1 e in
      emptying j r.0 (omega arith) r.2

  -- by what is pending, and whether N is open
  on_taken : (c : Configuration) (pending : List Pending) (is_open : Bool) → Taken S given c pending is_open (step_on S given c pending is_open)
  unfolding step_on work_step close_step
  on_taken c (p ∷ rest) is_open = work_taken c p rest (first_from (qualifies S c.table (under c rest) p.case) S.symbols 0) refl
  on_taken c [] true = close_taken c (first_from (none_at (closed_table S c)) c.level 1) refl
  on_taken c [] false = opening

  -- the step from c
  pub step_taken : (c : Configuration) → Taken S given c c.pending c.is_open (step S given c)
  unfolding step
  step_taken c = on_taken c c.pending c.is_open

-- the configuration that a step would come to
abbrev pub made_by : Step → Configuration
made_by (opens d) = d
made_by (extends d) = d
made_by (blocks d) = d
made_by (closes d) = d
made_by (answers_nonempty word d) = d
made_by (answers_empty d) = d

-- each step counts one
pub step_counts : (S : System) (given : Given) (c : Configuration) → (made_by (step S given c)).steps ≡ suc c.steps
unfolding open_step extend_step block_step close_with
step_counts S given c = at (step_taken c)
  where
    at : {pending : List Pending} {is_open : Bool} {st : Step} → Taken S given c pending is_open st → (made_by st).steps ≡ suc c.steps
    at opening = refl
    at (finding s l t u) = refl
    at (extending s l t u) = refl
    at (blocking f) = refl
    at (closing e) = refl
    at (emptying j l h t) = refl

-- what comes of a step: it is made, having the room that it needs, or it answers, or there is no room for it
pub data Judged (rooms : Rooms) (c : Configuration) : Step → Next → Type 0 where
  room_to_open : {d : Configuration} → c.level < rooms.word → Judged rooms c (opens d) (goes_on d)
  extended : {d : Configuration} → Judged rooms c (extends d) (goes_on d)
  room_to_block : {d : Configuration} → length d.table ≤ rooms.blockers → Judged rooms c (blocks d) (goes_on d)
  closed : {d : Configuration} → Judged rooms c (closes d) (goes_on d)
  found : {word : List ℕ} {d : Configuration} → Judged rooms c (answers_nonempty word d) (ends (nonempty word) d)
  emptied : {d : Configuration} → Judged rooms c (answers_empty d) (ends empty d)
  no_room_to_open : {d : Configuration} → rooms.word ≤ c.level → Judged rooms c (opens d) (ends word_lacks (halted c))
  no_room_to_block : {d : Configuration} → rooms.blockers < length d.table → Judged rooms c (blocks d) (ends blockers_lack (halted c))

-- each step is judged so
judge_judged : {rooms : Rooms} {c : Configuration} (st : Step) → Judged rooms c st (judge rooms c st)
unfolding judge
judge_judged {rooms} {c} (opens d) =
    choose_either (Judged rooms c (opens d)) _ (λ e. room_to_open (ltb-true _ _ e)) (λ e. no_room_to_open (ltb-false _ _ e))
judge_judged (extends d) = extended
judge_judged {rooms} {c} (blocks d) =
    choose_either (Judged rooms c (blocks d)) _ (λ e. room_to_block (leb-true _ _ e)) (λ e. no_room_to_block (leb-false _ _ e))
judge_judged (closes d) = closed
judge_judged (answers_nonempty word d) = found
judge_judged (answers_empty d) = emptied

-- the same, by the value of `judge`
pub judged : {rooms : Rooms} {c : Configuration} (st : Step) {n : Next} → judge rooms c st ≡ n → Judged rooms c st n
judged {rooms} {c} st e = subst (λ (n : Next). Judged rooms c st n) e (judge_judged st)

-- a step that is made comes to what the run goes on with
pub judged_made : {rooms : Rooms} {c d : Configuration} {st : Step} → Judged rooms c st (goes_on d) → made_by st ≡ d
judged_made (room_to_open l) = refl
judged_made extended = refl
judged_made (room_to_block l) = refl
judged_made closed = refl

-- a run works or has ended, not both
abbrev is_ended : Next → ℕ
is_ended (goes_on c) = 0
is_ended (ends outcome c) = 1

pub works_or_ended : {c left : Configuration} {outcome : Outcome} → goes_on c ≡ ends outcome left → ⊥
works_or_ended e = let z : ◌≡◌ {A = ℕ} 0 1 = ap is_ended e in omega arith

-- it works in one configuration, or has one outcome
abbrev works_in : Configuration → Next → Configuration
works_in other (goes_on c) = c
works_in other (ends outcome c) = other

pub works_once : {c d : Configuration} → goes_on c ≡ goes_on d → c ≡ d
works_once {c} e = ap (works_in c) e

abbrev outcome_in : Outcome → Next → Outcome
outcome_in other (goes_on c) = other
outcome_in other (ends outcome c) = outcome

pub ends_once : {o u : Outcome} {c d : Configuration} → ends o c ≡ ends u d → o ≡ u
ends_once {o} e = ap (outcome_in o) e

-- what comes of a call: the step is made, answers or finds no room; or its allowance is used up
pub data Advanced (S : System) (rooms : Rooms) (given : Given) (c : Configuration) : Next → Type 0 where
  tried : {n : Next} → c.steps < given.allowance → Judged rooms c (step S given c) n → Advanced S rooms given c n
  spent : given.allowance ≤ c.steps → Advanced S rooms given c (ends steps_lack (halted c))

module _ (S : System) (rooms : Rooms) where
  -- each call of a working run comes out so
  pub advanced : (given : Given) (c : Configuration) → Advanced S rooms given c (advance S rooms given (goes_on c))
  unfolding advance choose
  advanced given c = at (ltb c.steps given.allowance) refl
    where
      at : (b : Bool) → ltb c.steps given.allowance ≡ b → Advanced S rooms given c (choose b (judge rooms c (step S given c)) (ends steps_lack (halted c)))
      at true e = tried (ltb-true _ _ e) (judge_judged (step S given c))
      at false e = spent (ltb-false _ _ e)

  -- a call that goes on counts one
  pub advanced_counts : {given : Given} {c d : Configuration} → Advanced S rooms given c (goes_on d) → d.steps ≡ suc c.steps
  advanced_counts {given} {c} (tried l j) =
      ap (λ (x : Configuration). x.steps) (sym (judged_made j)) ∙ step_counts S given c

  -- within the allowance a call makes the step
  pub advance_made : (given : Given) (c : Configuration) → c.steps < given.allowance
      → advance S rooms given (goes_on c) ≡ judge rooms c (step S given c)
  unfolding advance choose
  advance_made given c l = rw (lt-ltb c.steps given.allowance l)

  -- What holds of a run's beginning, and goes on holding with each call, holds of a chain: whatever the calls are given, as long as each is good.
  pub chain_keeps : (P : Next → Type 0) (Good : Given → Type 0) → ((given : Given) (n : Next) → Good given → P n → P (advance S rooms given n))
      → (n : Next) (given : List Given) → Each Good given → P n → P (chain S rooms n given)
  unfolding chain
  chain_keeps P Good keeps n [] good p = p
  chain_keeps P Good keeps n (given ∷ later) good p =
      chain_keeps P Good keeps (advance S rooms given n) later (λ g m. good g (there m)) (keeps given n (good given (here refl)) p)

  -- a chain that has ended stays as it is
  pub ended_stays : (outcome : Outcome) (left : Configuration) (given : List Given) → chain S rooms (ends outcome left) given ≡ ends outcome left
  unfolding chain advance
  ended_stays outcome left [] = refl
  ended_stays outcome left (given ∷ later) = ended_stays outcome left later

  -- a call before a chain that had ended, or was ended by one of its calls
  ended_before : {outcome : Outcome} {left : Configuration} (given : Given) (later : List Given) (n : Next)
      → (advance S rooms given n ≡ ends outcome left) ⊎ EndingCall S rooms (advance S rooms given n) later outcome left
      → (n ≡ ends outcome left) ⊎ EndingCall S rooms n (given ∷ later) outcome left
  unfolding advance chain
  ended_before given later (goes_on c) (inl e) =
      inr (record { before = []; last = given; later = later; at = c; split = refl; reached = refl; ended = e })
  ended_before given later (ends o c) (inl e) = inl e
  ended_before given later (goes_on c) (inr r) =
      inr (record {
        before = given ∷ r.before;
        last = r.last;
        later = r.later;
        at = r.at;
        split = ap (λ (l : List Given). given ∷ l) r.split;
        reached = r.reached;
        ended = r.ended;
      })
  ended_before given later (ends o c) (inr r) = absurd (works_or_ended (sym (sym (ended_stays o c r.before) ∙ r.reached)))

  -- a chain that has ended had ended at first, or was ended by one of its calls
  pub chain_ended_by : {outcome : Outcome} {left : Configuration} (n : Next) (given : List Given) → chain S rooms n given ≡ ends outcome left
      → (n ≡ ends outcome left) ⊎ EndingCall S rooms n given outcome left
  unfolding chain
  chain_ended_by n [] e = inl e
  chain_ended_by n (given ∷ later) e = ended_before given later n (chain_ended_by (advance S rooms given n) later e)

-- the allowance does not change a step
work_raised : (S : System) (more : ℕ) (given : Given) (c : Configuration) (p : Pending) (rest : List Pending) (below : ℕ) (o : Option ℕ)
    → work_on S (raise more given) c p rest below o ≡ work_on S given c p rest below o
unfolding work_on chosen
work_raised S more given c p rest below none = refl
work_raised S more given c p rest below (some s) = refl

pub step_raised : (S : System) (more : ℕ) (given : Given) (c : Configuration) → step S (raise more given) c ≡ step S given c
unfolding step step_on work_step
step_raised S more given c = at c.pending c.is_open
  where
    at : (pending : List Pending) (is_open : Bool) → step_on S (raise more given) c pending is_open ≡ step_on S given c pending is_open
    at (p ∷ rest) is_open =
        let below : ℕ = c.level - suc (length rest) in
        work_raised S more given c p rest below (first_from (qualifies S c.table below p.case) S.symbols 0)
    at [] true = refl
    at [] false = refl
