-- What holds of chains of calls, each given what is its own: the invariants are kept by one call, so by a chain. A run is the chain whose calls are all
-- given the same. Assumes nothing.
use Prim.Native.Nat.{ℕ, zero, suc, ◌+◌, ◌^◌, ◌≤◌, ◌<◌}
use mathlib.Core.Path.{◌≡◌, refl, sym, ap, subst, ◌∙◌}
use mathlib.Core.Bool.{Bool, true, false}
use mathlib.Core.List.{List, [], ◌∷◌, ◌++◌}
use mathlib.Core.Logic.{◌⊎◌, inl, inr}
use native.Mathlib.Omega.{arith}
use borrow.Author.Tests.{lt-ltb, le-leb, eqb-true, eqb-false}
use lib.Dec.{T, eqb}
use lib.ListN.{length, replicate, length-replicate}
use Rattle.lists.specs.Tests.{choose}
use Rattle.lists.specs.Lists.{◌∈◌, here, Each, any}
use Rattle.lists.proofs.Tests.{holds, is_false}
use Rattle.lists.proofs.Lists.{in_none, in_cases, in_left, in_right}
use Rattle.masks.specs.Sets.{subset}
use Rattle.machine.specs.System.{System}
use Rattle.machine.specs.Machine.{Configuration, Given, Rooms, beginning, Step, step}
use Rattle.machine.specs.Machine.{Next, goes_on, ends, comes_to, judge, advance, chain, start_answer, start, begin, Outcome, nonempty, starts_final}
use Rattle.machine.specs.Meaning.{Lacks, EndingCall, EndedBy, raise, Raised, raised_none, raised_one}
use Rattle.machine.proofs.Language.{accepts, Lawful, Sound, Decided, IsVerdict, AnswersStart}
use Rattle.machine.proofs.Steps.{Judged, room_to_open, extended, room_to_block, closed, found, emptied, no_room_to_open, no_room_to_block}
use Rattle.machine.proofs.Steps.{Advanced, tried, spent, advanced, advanced_counts, advance_made, step_raised}
use Rattle.machine.proofs.Steps.{chain_keeps, ended_stays, chain_ended_by, works_or_ended, works_once, ends_once, made_by, step_counts}
use Rattle.machine.proofs.Invariant.{FinalsClear, beginning_holds}
use Rattle.machine.proofs.Verdicts.{Holds, RightAnswer, clear_finals, start_accepts, starts_final_lem, starts_nonempty, clear_start, start_found}
use Rattle.machine.proofs.Verdicts.{advanced_right}
use Rattle.machine.proofs.Standing.{Counted, Halted, advanced_counted, advanced_halts, beginning_counted}
use Rattle.machine.proofs.Entering.{Stamped, advanced_stamped, beginning_stamped}
use Rattle.machine.proofs.Bound.{Bounded, advanced_bounded, working_few, advanced_decided, beginning_bounded}

-- what holds of a run that works
pub record Working (S : System) (rooms : Rooms) (c : Configuration) : Type 0 where
  pub clear : FinalsClear S
  pub holds : Holds S c
  pub counted : Counted rooms c
  pub stamped : Stamped c
  pub bounded : Bounded S c

-- what holds of a run that was begun in this edition and has ended
pub record Done (S : System) (rooms : Rooms) (edition : ℕ) (outcome : Outcome) (left : Configuration) : Type 0 where
  pub right : RightAnswer S rooms edition outcome left
  pub start : AnswersStart S edition outcome left
  pub counted : Counted rooms left
  pub stamped : Stamped left
  pub halts : Halted outcome left

abbrev pub Sure : System → Rooms → ℕ → Next → Type 0
Sure S rooms edition (goes_on c) = Working S rooms c
Sure S rooms edition (ends outcome left) = Done S rooms edition outcome left

-- each call grows soundly
abbrev pub AllSound : System → List Given → Type 0
AllSound S given = Each (λ g. Sound S g.grow) given

-- the run works
pub record Works (n : Next) : Type 0 where
  pub at : Configuration
  pub is : n ≡ goes_on at

-- the run works no more
pub record Ended (n : Next) : Type 0 where
  pub outcome : Outcome
  pub left : Configuration
  pub is : n ≡ ends outcome left

-- what holds of one holds of it so many times
pub each_same : (P : Given → Type 0) (given : Given) → P given → (count : ℕ) → Each P (replicate count given)
each_same P given p zero g m = absurd (in_none m)
each_same P given p (suc count) g m = at (λ k. each_same P given p count g k) (in_cases m)
  where
    at : (g ∈ replicate count given → P g) → (g ≡ given) ⊎ g ∈ replicate count given → P g
    at rec (inl e) = rw e p
    at rec (inr k) = rec k

-- no more steps were made than so many
abbrev Within : ℕ → Next → Type 0
Within most n = (comes_to n).steps ≤ most

-- "Start: if I is a subset of F, answer 1 with the empty word and 0 steps. Otherwise steps follow." 02, 6: "2 answers such a start by 5"
pub data Begun (S : System) (edition : ℕ) : Next → Type 0 where
  answered : any (subset S.initial) S.finals ≡ true → (edition ≡ 2 → ⊥) → Begun S edition (ends (nonempty []) beginning)
  final_at_once : any (subset S.initial) S.finals ≡ true → edition ≡ 2 → Begun S edition (ends starts_final beginning)
  started : any (subset S.initial) S.finals ≡ false → Begun S edition (goes_on beginning)

pub begin_begun : (S : System) (edition : ℕ) → Begun S edition (begin S edition)
unfolding start start_answer choose
begin_begun S edition = at (any (subset S.initial) S.finals) refl (eqb edition 2) refl
  where
    at : (b : Bool) → any (subset S.initial) S.finals ≡ b → (second : Bool) → eqb edition 2 ≡ second
        → Begun S edition (choose b (ends (choose second starts_final (nonempty [])) beginning) (goes_on beginning))
    at true e true f = final_at_once e (eqb-true edition 2 f)
    at true e false f = answered e (eqb-false edition 2 f)
    at false e second f = started e

-- nothing was done at a begin
pub begin_beginning : (S : System) (edition : ℕ) → comes_to (begin S edition) ≡ beginning
begin_beginning S edition = at (begin_begun S edition)
  where
    at : {n : Next} → Begun S edition n → comes_to n ≡ beginning
    at (answered e f) = refl
    at (final_at_once e f) = refl
    at (started e) = refl

-- a start that is not final is the same in each edition
pub begin_alike : (S : System) → (T (accepts S []) → ⊥) → (edition other : ℕ) → begin S edition ≡ begin S other
unfolding start choose
begin_alike S not_final edition other = rw (sym (start_accepts S) ∙ is_false _ not_final)

module _ (S : System) (rooms : Rooms) where
  -- a call that ends without a verdict lacks steps or room
  lacked : (last : Given) {c left : Configuration} {st : Step} {outcome : Outcome} → step S last c ≡ st → c.steps < last.allowance
      → Counted rooms c → Judged rooms c st (ends outcome left) → Lacks S rooms last c outcome left
  lacked last e l k found = tt
  lacked last e l k emptied = tt
  lacked last e l k (no_room_to_open {d = d} h) = (refl, record { allowed = l; after = d; following = e; full = omega (arith, k.word_fits) })
  lacked last e l k (no_room_to_block {d = d} h) = (refl, record { allowed = l; after = d; following = e; full = h })

  pub advanced_lacks : {last : Given} {c left : Configuration} {outcome : Outcome} → Counted rooms c → Advanced S rooms last c (ends outcome left)
      → Lacks S rooms last c outcome left
  advanced_lacks {last} k (tried l j) = lacked last refl l k j
  advanced_lacks k (spent l) = (refl, l)

  -- what the call that ended a chain found, and that it is one of the chain's
  pub ended_advanced : {n : Next} {given : List Given} {outcome : Outcome} {left : Configuration} (by : EndingCall S rooms n given outcome left)
      → Advanced S rooms by.last by.at (ends outcome left)
  ended_advanced by = subst (λ (n : Next). Advanced S rooms by.last by.at n) by.ended (advanced S rooms by.last by.at)

  pub ended_each : {n : Next} {given : List Given} {outcome : Outcome} {left : Configuration} (P : Given → Type 0) → Each P given
      → (by : EndingCall S rooms n given outcome left) → Each P (by.before ++ by.last ∷ by.later)
  ended_each P all by = subst (λ (l : List Given). Each P l) by.split all

  pub ended_last : {n : Next} {given : List Given} {outcome : Outcome} {left : Configuration} (P : Given → Type 0) → Each P given
      → (by : EndingCall S rooms n given outcome left) → P by.last
  ended_last P all by = ended_each P all by by.last (in_right by.before (here refl))

  -- a chain that works counts its calls
  steps_counted : (c : Configuration) (given : List Given) {d : Configuration} → chain S rooms (goes_on c) given ≡ goes_on d
      → d.steps ≡ c.steps + length given
  unfolding chain
  steps_counted c [] e = omega (arith, ap (λ (x : Configuration). x.steps) (works_once e))
  steps_counted c (given ∷ later) {d} e = at (λ x f. steps_counted x later f) (advance S rooms given (goes_on c)) (advanced S rooms given c) e
    where
      at : ((x : Configuration) → chain S rooms (goes_on x) later ≡ goes_on d → d.steps ≡ x.steps + length later)
          → (n : Next) → Advanced S rooms given c n → chain S rooms n later ≡ goes_on d → d.steps ≡ c.steps + suc (length later)
      at rec (goes_on x) a f = omega (arith, rec x f, advanced_counts S rooms a)
      at rec (ends o left) a f = absurd (works_or_ended (sym (sym (ended_stays S rooms o left later) ∙ f)))

  pub working_steps : (edition : ℕ) {c : Configuration} (given : List Given) → chain S rooms (begin S edition) given ≡ goes_on c → c.steps ≡ length given
  unfolding beginning
  working_steps edition {c} given = at (begin_begun S edition)
    where
      over : (o : Outcome) → chain S rooms (ends o beginning) given ≡ goes_on c → ⊥
      over o e = works_or_ended (sym (sym (ended_stays S rooms o beginning given) ∙ e))

      at : {n : Next} → Begun S edition n → chain S rooms n given ≡ goes_on c → c.steps ≡ length given
      at (answered b f) e = absurd (over (nonempty []) e)
      at (final_at_once b f) e = absurd (over starts_final e)
      at (started b) e = omega (arith, steps_counted beginning given e)

  -- no more steps are made than the largest allowance
  judged_within : {most : ℕ} {c : Configuration} {st : Step} {n : Next} → (made_by st).steps ≡ suc c.steps → c.steps < most → Judged rooms c st n
      → Within most n
  judged_within e k (room_to_open h) = omega arith
  judged_within e k extended = omega arith
  judged_within e k (room_to_block h) = omega arith
  judged_within e k closed = omega arith
  judged_within e k found = omega arith
  judged_within e k emptied = omega arith
  judged_within e k (no_room_to_open h) = omega arith
  judged_within e k (no_room_to_block h) = omega arith

  advanced_within : {most : ℕ} {given : Given} {c : Configuration} {n : Next} → given.allowance ≤ most → c.steps ≤ most
      → Advanced S rooms given c n → Within most n
  advanced_within {given = given} {c = c} l w (tried k j) = judged_within (step_counts S given c) (omega arith) j
  advanced_within l w (spent k) = w

  call_within : (most : ℕ) (given : Given) (n : Next) → given.allowance ≤ most → Within most n → Within most (advance S rooms given n)
  unfolding advance
  call_within most given (goes_on c) l w = advanced_within l w (advanced S rooms given c)
  call_within most given (ends outcome left) l w = w

  begin_within : (most edition : ℕ) → Within most (begin S edition)
  unfolding beginning
  begin_within most edition = at (begin_begun S edition)
    where
      at : {n : Next} → Begun S edition n → Within most n
      at (answered b f) = omega arith
      at (final_at_once b f) = omega arith
      at (started b) = omega arith

  pub chain_within : (most edition : ℕ) (given : List Given) → Each (λ g. g.allowance ≤ most) given
      → Within most (chain S rooms (begin S edition) given)
  chain_within most edition given low =
      chain_keeps S rooms (Within most) (λ g. g.allowance ≤ most) (call_within most) (begin S edition) given low (begin_within most edition)

  -- calls that are all given the same end a chain at the latest when they are more than their allowance
  pub chain_ends : (edition : ℕ) (given : Given) → Ended (chain S rooms (begin S edition) (replicate (suc given.allowance) given))
  chain_ends edition given = at (chain S rooms (begin S edition) (replicate (suc given.allowance) given)) refl
      (chain_within given.allowance edition _ (each_same (λ g. g.allowance ≤ given.allowance) given (omega arith) (suc given.allowance)))
    where
      at : (n : Next) → chain S rooms (begin S edition) (replicate (suc given.allowance) given) ≡ n → Within given.allowance n → Ended n
      at (goes_on c) e w = absurd (omega (arith, working_steps edition _ e, length-replicate (suc given.allowance) given))
      at (ends outcome left) e w = record { outcome = outcome; left = left; is = refl }

  -- a verdict at the start comes at once
  begin_decided : (most edition : ℕ) {outcome : Outcome} {left : Configuration} → begin S edition ≡ ends outcome left → Decided most outcome left
  unfolding beginning
  begin_decided most edition {outcome} {left} = at (begin_begun S edition)
    where
      at_once : {o : Outcome} → IsVerdict o → ends o beginning ≡ ends outcome left → Decided most outcome left
      at_once v e = record { verdict = subst IsVerdict (ends_once e) v; in_time = omega (arith, ap (λ (n : Next). (comes_to n).steps) e) }

      at : {n : Next} → Begun S edition n → n ≡ ends outcome left → Decided most outcome left
      at (answered b f) e = at_once tt e
      at (final_at_once b f) e = at_once tt e
      at (started b) e = absurd (works_or_ended e)

module _ (S : System) (lawful : Lawful S) (rooms : Rooms) (edition : ℕ) where
  -- at the beginning
  pub begin_sure : Sure S rooms edition (begin S edition)
  unfolding beginning
  begin_sure = at (begin_begun S edition)
    where
      at : {n : Next} → Begun S edition n → Sure S rooms edition n
      at (answered e f) = record {
        right = start_found S e;
        start = λ t. ap (λ (outcome : Outcome). ends outcome beginning) (sym (starts_nonempty f));
        counted = beginning_counted rooms;
        stamped = beginning_stamped;
        halts = record { none_pending = refl; shut = tt };
      }
      at (final_at_once e second) = record {
        right = (second, holds (start_accepts S ∙ e));
        start = λ t. ap (λ (outcome : Outcome). ends outcome beginning) (sym (starts_final_lem second));
        counted = beginning_counted rooms;
        stamped = beginning_stamped;
        halts = record { none_pending = refl; shut = tt };
      }
      at (started e) = let clear = clear_finals S e in record {
        clear = clear;
        holds = beginning_holds lawful clear;
        counted = beginning_counted rooms;
        stamped = beginning_stamped;
        bounded = beginning_bounded S;
      }

  -- after one more call
  pub call_sure : (given : Given) (n : Next) → Sound S given.grow → Sure S rooms edition n → Sure S rooms edition (advance S rooms given n)
  unfolding advance
  call_sure given (goes_on c) sound w = at (advance S rooms given (goes_on c)) (advanced S rooms given c)
    where
      at : (n : Next) → Advanced S rooms given c n → Sure S rooms edition n
      at (goes_on d) a = record {
        clear = w.clear;
        holds = advanced_right S lawful w.clear edition sound w.holds a;
        counted = advanced_counted a w.counted;
        stamped = advanced_stamped a w.stamped;
        bounded = advanced_bounded lawful sound w.holds w.bounded a;
      }
      at (ends outcome left) a = record {
        right = advanced_right S lawful w.clear edition sound w.holds a;
        start = λ t. absurd (clear_start S w.clear t);
        counted = advanced_counted a w.counted;
        stamped = advanced_stamped a w.stamped;
        halts = advanced_halts a;
      }
  call_sure given (ends outcome left) sound d = d

  -- after a chain of calls
  chain_sure : (given : List Given) → AllSound S given → Sure S rooms edition (chain S rooms (begin S edition) given)
  chain_sure given sound = chain_keeps S rooms (Sure S rooms edition) (λ g. Sound S g.grow) call_sure (begin S edition) given sound begin_sure

  pub chain_working : {c : Configuration} (given : List Given) → AllSound S given → chain S rooms (begin S edition) given ≡ goes_on c → Working S rooms c
  chain_working given sound e = subst (Sure S rooms edition) e (chain_sure given sound)

  -- it works no more once 4^(n+1) calls were made, whatever the rooms and the allowances
  pub working_calls : {c : Configuration} (given : List Given) → AllSound S given → chain S rooms (begin S edition) given ≡ goes_on c
      → length given < 4 ^ suc S.states
  working_calls given sound e =
      let w = chain_working given sound e in
      omega (arith, working_steps S rooms edition given e, working_few lawful w.holds w.bounded)

  pub chain_done : {outcome : Outcome} {left : Configuration} (given : List Given) → AllSound S given
      → chain S rooms (begin S edition) given ≡ ends outcome left → Done S rooms edition outcome left
  chain_done given sound e = subst (Sure S rooms edition) e (chain_sure given sound)

  -- where a call ended a chain, it worked before
  pub ended_working : {given : List Given} {outcome : Outcome} {left : Configuration} → AllSound S given
      → (by : EndingCall S rooms (begin S edition) given outcome left)
      → Working S rooms by.at
  ended_working sound by =
      chain_working by.before
      (λ g m. ended_each S rooms (λ x. Sound S x.grow) sound by g (in_left (by.last ∷ by.later) m))
      by.reached

  -- a chain that works no more ended at its start, or by the call that found the machine so: without a verdict, lacking something
  pub chain_ended : {outcome : Outcome} {left : Configuration} (given : List Given) → AllSound S given
      → chain S rooms (begin S edition) given ≡ ends outcome left
      → (begin S edition ≡ ends outcome left) ⊎ EndedBy S rooms edition given outcome left
  chain_ended {outcome} {left} given sound e = at (chain_ended_by S rooms (begin S edition) given e)
    where
      at : (begin S edition ≡ ends outcome left) ⊎ EndingCall S rooms (begin S edition) given outcome left
          → (begin S edition ≡ ends outcome left) ⊎ EndedBy S rooms edition given outcome left
      at (inl q) = inl q
      at (inr by) = inr (record {
        call = by;
        counted = working_steps S rooms edition by.before by.reached;
        lacks = advanced_lacks S rooms (ended_working sound by).counted (ended_advanced S rooms by);
      })

  -- with 2^n places in either room and no allowance under 4^(n+1), a chain that works no more has a verdict, after at most 4^(n+1) steps
  pub chain_decided : 2 ^ S.states ≤ rooms.blockers → 2 ^ S.states ≤ rooms.word → {outcome : Outcome} {left : Configuration} (given : List Given)
      → AllSound S given → Each (λ g. 4 ^ suc S.states ≤ g.allowance) given → chain S rooms (begin S edition) given ≡ ends outcome left
      → Decided (4 ^ suc S.states) outcome left
  chain_decided places levels {outcome} {left} given sound enough e = at (chain_ended_by S rooms (begin S edition) given e)
    where
      at : (begin S edition ≡ ends outcome left) ⊎ EndingCall S rooms (begin S edition) given outcome left
          → Decided (4 ^ suc S.states) outcome left
      at (inl q) = begin_decided S rooms (4 ^ suc S.states) edition q
      at (inr by) =
          let w = ended_working sound by in
          advanced_decided lawful rooms places levels w.clear (ended_last S rooms (λ g. Sound S g.grow) sound by)
          (ended_last S rooms (λ g. 4 ^ suc S.states ≤ g.allowance) enough by) w.holds w.bounded (ended_advanced S rooms by)

-- what came in smaller rooms with smaller allowances comes in larger ones, unless the smaller ones lack steps or a place
abbrev Stays : Next → Next → Type 0
Stays (goes_on d) larger = larger ≡ goes_on d
Stays (ends outcome left) larger = IsVerdict outcome → larger ≡ ends outcome left

module _ (S : System) (rooms rooms' : Rooms) (more_blockers : rooms.blockers ≤ rooms'.blockers) (more_word : rooms.word ≤ rooms'.word) where
  -- larger rooms lack no place that smaller ones have
  judged_stays : {c : Configuration} {st : Step} {n : Next} → Judged rooms c st n → Stays n (judge rooms' c st)
  unfolding judge choose
  judged_stays {c} (room_to_open l) = rw (lt-ltb c.level rooms'.word (omega arith))
  judged_stays extended = refl
  judged_stays (room_to_block {d = d} l) = rw (le-leb (length d.table) rooms'.blockers (omega arith))
  judged_stays closed = refl
  judged_stays found = λ v. refl
  judged_stays emptied = λ v. refl
  judged_stays (no_room_to_open l) = λ v. absurd v
  judged_stays (no_room_to_block l) = λ v. absurd v

  -- nor does a call with a larger allowance lack steps
  advanced_stays : (given : Given) (more : ℕ) → given.allowance ≤ more → (c : Configuration) {n : Next} → Advanced S rooms given c n
      → Stays n (advance S rooms' (raise more given) (goes_on c))
  advanced_stays given more l c {n} (tried k j) =
      subst (λ (m : Next). Stays n m)
      (sym (advance_made S rooms' (raise more given) c (omega arith) ∙ ap (judge rooms' c) (step_raised S more given c))) (judged_stays j)
  advanced_stays given more l c (spent k) = λ v. absurd v

  call_stays : (given : Given) (more : ℕ) → given.allowance ≤ more → (n larger : Next) → Stays n larger
      → Stays (advance S rooms given n) (advance S rooms' (raise more given) larger)
  unfolding advance
  call_stays given more l (goes_on c) larger st =
      subst (λ (m : Next). Stays (advance S rooms given (goes_on c)) (advance S rooms' (raise more given) m)) (sym st)
      (advanced_stays given more l c (advanced S rooms given c))
  call_stays given more l (ends outcome left) larger st = λ v. ap (advance S rooms' (raise more given)) (st v)

  chain_stays : {given given' : List Given} {outcome : Outcome} {left : Configuration} → Raised given given' → IsVerdict outcome → (n larger : Next)
      → Stays n larger → chain S rooms n given ≡ ends outcome left → chain S rooms' larger given' ≡ ends outcome left
  unfolding chain
  chain_stays (raised_none {more = more}) v n larger st e =
      ap (λ (m : Next). chain S rooms' m more) (subst (λ (m : Next). Stays m larger) e st v) ∙ ended_stays S rooms' _ _ more
  chain_stays (raised_one {given = given} {allowance = more} l raised) v n larger st e =
      chain_stays raised v (advance S rooms given n) (advance S rooms' (raise more given) larger) (call_stays given more l n larger st) e

  -- as many calls come to the same configuration
  chain_works : {given given' : List Given} {d : Configuration} → Raised given given' → length given' ≡ length given → (n larger : Next)
      → Stays n larger → chain S rooms n given ≡ goes_on d → chain S rooms' larger given' ≡ goes_on d
  unfolding chain
  chain_works (raised_none {more = []}) same n larger st e = subst (λ (m : Next). Stays m larger) e st
  chain_works (raised_none {more = given ∷ more}) same n larger st e = absurd (omega arith)
  chain_works (raised_one {given = given} {allowance = more} l raised) same n larger st e =
      chain_works raised (omega arith) (advance S rooms given n) (advance S rooms' (raise more given) larger) (call_stays given more l n larger st) e

  stays_same : (n : Next) → Stays n n
  stays_same (goes_on c) = refl
  stays_same (ends outcome left) = λ v. refl

  -- so a run that works in smaller rooms works in larger ones, in the same configuration
  pub chain_works_stays : (edition : ℕ) {given given' : List Given} {d : Configuration} → Raised given given' → length given' ≡ length given
      → chain S rooms (begin S edition) given ≡ goes_on d → chain S rooms' (begin S edition) given' ≡ goes_on d
  chain_works_stays edition raised same e = chain_works raised same (begin S edition) (begin S edition) (stays_same (begin S edition)) e

  -- larger rooms and larger allowances do not change a verdict
  pub chain_verdict_stays : (edition : ℕ) {given given' : List Given} {outcome : Outcome} {left : Configuration} → Raised given given' → IsVerdict outcome
      → chain S rooms (begin S edition) given ≡ ends outcome left → chain S rooms' (begin S edition) given' ≡ ends outcome left
  chain_verdict_stays edition raised v e = chain_stays raised v (begin S edition) (begin S edition) (stays_same (begin S edition)) e
