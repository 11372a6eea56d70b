-- The blocks of a run: what one makes of its hint or of what grows, and that the counts of a configuration are those of the block steps made. Assumes nothing.
use Prim.Native.Nat.{ℕ, zero, suc, ◌+◌, ◌≤◌, ◌<◌}
use mathlib.Core.Path.{◌≡◌, refl, sym, ap, ◌∙◌}
use mathlib.Core.Bool.{Bool, true, false}
use mathlib.Core.List.{List, [], ◌∷◌, ◌++◌}
use mathlib.Core.Option.{Option, none, some}
use native.Mathlib.Omega.{arith}
use borrow.Author.Tests.{ltb-true, lt-ltb}
use lib.Dec.{T, ltb}
use lib.ListN.{length, get_or}
use Rattle.lists.specs.Tests.{◌and◌, choose}
use Rattle.lists.proofs.Tests.{holds, fails, is_true}
use Rattle.automata.specs.WordTest.{one_if}
use Rattle.machine.specs.System.{System}
use Rattle.machine.specs.Machine.{Blocker, Pending, Configuration, Given, Rooms, passes, hint_at, Choice, chosen_from, chosen}
use Rattle.machine.specs.Machine.{Step, blocks, open_step, extend_step, block_step, staying, close_with, step}
use Rattle.machine.specs.Machine.{Next, goes_on, ends, comes_to, advance, chain}
use Rattle.machine.specs.Meaning.{is_block, hint_passes, makes_block, takes_hint, steps_made}
use Rattle.machine.specs.Runs.{system_of}
use Rattle.machine.specs.Promises.{BlockPromises}
use Rattle.machine.proofs.Steps.{under, made_by, Taken, opening, finding, extending, blocking, closing, emptying, step_taken}
use Rattle.machine.proofs.Steps.{Advanced, tried, advanced, judged_made, works_or_ended, works_once, ended_stays}
use Rattle.machine.proofs.Unpending.{made_for}

-- hint t by its place: it exists, or there are no more than t
data HintAt (hints : List ℕ) (t : ℕ) : Option ℕ → Type 0 where
  stands : t < length hints → HintAt hints t (some (get_or hints t 0))
  lacking : length hints ≤ t → HintAt hints t none

hint_at_lem : (hints : List ℕ) (t : ℕ) → HintAt hints t (hint_at hints t)
unfolding hint_at
hint_at_lem [] t = lacking (omega arith)
hint_at_lem (hint ∷ hints) zero = stands (omega arith)
hint_at_lem (hint ∷ hints) (suc t) = one_more (hint_at_lem hints t)
  where
    one_more : {found : Option ℕ} → HintAt hints t found → HintAt (hint ∷ hints) (suc t) found
    one_more (stands l) = stands (omega arith)
    one_more (lacking l) = lacking (omega arith)

module _ (S : System) (given : Given) (c : Configuration) (below X : ℕ) where
  -- "hint t exists and passes"
  abbrev hint : ℕ
  hint = get_or given.hints c.blocks 0

  -- what a block takes: the hint, exactly if there is one that passes; else what grows
  pub data Takes : Choice → Type 0 where
    the_hint : c.blocks < length given.hints → T (passes S c.table below X hint) → Takes (record { mask = hint; hinted = 1 })
    the_grown : (c.blocks < length given.hints → T (passes S c.table below X hint) → ⊥)
        → Takes (record { mask = given.grow c.table below X; hinted = 0 })

  pub block_takes : Takes (chosen S given c below X)
  unfolding chosen chosen_from choose
  block_takes = from (hint_at_lem given.hints c.blocks)
    where
      other : Choice
      other = record { mask = given.grow c.table below X; hinted = 0 }

      at : c.blocks < length given.hints → (b : Bool) → passes S c.table below X hint ≡ b
          → Takes (choose b (record { mask = hint; hinted = 1 }) other)
      at l true e = the_hint l (holds e)
      at l false e = the_grown (λ h. fails e)

      from : {found : Option ℕ} → HintAt given.hints c.blocks found → Takes (chosen_from S given.grow c.table below X found)
      from (stands l) = at l (passes S c.table below X hint) refl
      from (lacking l) = the_grown (λ h t. omega arith)

-- "Y enters at the end with level i", and the hint is taken exactly if it exists and passes
pub block_makes : (image : List ℕ) (given : Given) (X : Pending) (rest : List Pending) (c d : Configuration) → c.pending ≡ X ∷ rest
    → step (system_of image) given c ≡ blocks d → BlockPromises image given (under c rest) X c d
unfolding block_step
block_makes image given X rest c d waits made =
    let is_block = ap made_by (made_for {given = given} waits made).is_block in
    let choice : Choice = chosen (system_of image) given c (under c rest) X.case in
    at choice (block_takes (system_of image) given c (under c rest) X.case)
    (ap (λ (e : Configuration). e.table) is_block) (ap (λ (e : Configuration). e.accepted) is_block)
  where
    entry : Choice → Blocker
    entry choice = record { mask = choice.mask; level = suc (under c rest); entered = suc c.steps }

    at : (choice : Choice) → Takes (system_of image) given c (under c rest) X.case choice
        → staying (entry choice) c.table ++ entry choice ∷ [] ≡ d.table → c.accepted + choice.hinted ≡ d.accepted
        → BlockPromises image given (under c rest) X c d
    at choice (the_hint l t) table accepted = record {
      mask = choice.mask;
      others = staying (entry choice) c.table;
      enters = sym table;
      hinted = λ h u. (refl, omega arith);
      grown = λ f. absurd (f l t);
    }
    at choice (the_grown f) table accepted = record {
      mask = choice.mask;
      others = staying (entry choice) c.table;
      enters = sym table;
      hinted = λ h u. absurd (f h u);
      grown = λ g. (refl, omega arith);
    }

module _ (S : System) (given : Given) (c : Configuration) where
  -- a step counts a block exactly if it is one
  blocks_counted : {pending : List Pending} {is_open : Bool} {st : Step} → Taken S given c pending is_open st
      → (made_by st).blocks ≡ one_if (is_block st) + c.blocks
  unfolding open_step extend_step block_step close_with is_block one_if
  blocks_counted opening = omega arith
  blocks_counted (finding s l t u) = omega arith
  blocks_counted (extending s l t u) = omega arith
  blocks_counted (blocking f) = omega arith
  blocks_counted (closing e) = omega arith
  blocks_counted (emptying j l h t) = omega arith

  -- and a hint exactly if it is one that takes it
  hint_counted : {below X : ℕ} {choice : Choice} → Takes S given c below X choice
      → choice.hinted ≡ one_if (ltb c.blocks (length given.hints) and passes S c.table below X (get_or given.hints c.blocks 0))
  unfolding one_if ◌and◌
  hint_counted {below} {X} (the_hint l t) =
      rw (lt-ltb c.blocks (length given.hints) l, is_true (passes S c.table below X (get_or given.hints c.blocks 0)) t)
  hint_counted {below} {X} (the_grown f) =
      at (ltb c.blocks (length given.hints)) refl (passes S c.table below X (get_or given.hints c.blocks 0)) refl
    where
      at : (b : Bool) → ltb c.blocks (length given.hints) ≡ b → (test : Bool) → passes S c.table below X (get_or given.hints c.blocks 0) ≡ test
          → 0 ≡ one_if (b and test)
      at true e true q = absurd (f (ltb-true _ _ e) (holds q))
      at true e false q = refl
      at false e test q = refl

  hints_counted : {pending : List Pending} {is_open : Bool} {st : Step} → Taken S given c pending is_open st
      → (made_by st).accepted ≡ one_if (is_block st and hint_passes S given c pending) + c.accepted
  unfolding open_step extend_step block_step close_with is_block hint_passes one_if ◌and◌
  hints_counted opening = omega arith
  hints_counted (finding s l t u) = omega arith
  hints_counted (extending s l t u) = omega arith
  hints_counted (blocking {p = p} {rest = rest} f) = omega (arith, hint_counted (block_takes S given c (under c rest) p.case))
  hints_counted (closing e) = omega arith
  hints_counted (emptying j l h t) = omega arith

-- what each step counts, a chain counts
module _ (S : System) (rooms : Rooms) (such : System → Given → Configuration → Bool) (count : Configuration → ℕ)
    (counts : (given : Given) (c : Configuration) → count (made_by (step S given c)) ≡ one_if (such S given c) + count c) where
  chain_counts : (n : Next) (calls : List Given) {d : Configuration} → chain S rooms n calls ≡ goes_on d
      → count d ≡ steps_made such S rooms n calls + count (comes_to n)
  unfolding chain steps_made
  chain_counts (goes_on c) [] e = omega (arith, ap count (works_once e))
  chain_counts (ends outcome c) [] e = absurd (works_or_ended (sym e))
  chain_counts (goes_on c) (given ∷ later) {d} e = at (λ n. chain_counts n later) (advance S rooms given (goes_on c)) (advanced S rooms given c) e
    where
      at : ((n : Next) → chain S rooms n later ≡ goes_on d → count d ≡ steps_made such S rooms n later + count (comes_to n))
          → (n : Next) → Advanced S rooms given c n → chain S rooms n later ≡ goes_on d
          → count d ≡ (one_if (such S given c) + steps_made such S rooms n later) + count c
      at rec (goes_on x) (tried l j) f = omega (arith, rec (goes_on x) f, ap count (judged_made j), counts given c)
      at rec (ends outcome left) a f = absurd (works_or_ended (sym (sym (ended_stays S rooms outcome left later) ∙ f)))
  chain_counts (ends outcome c) (given ∷ later) e = absurd (works_or_ended (sym (sym (ended_stays S rooms outcome c (given ∷ later)) ∙ e)))

-- so the blocks of a configuration are the block steps made, and the hints accepted those that took one
pub blocks_made : (S : System) (rooms : Rooms) (n : Next) (calls : List Given) {d : Configuration} → chain S rooms n calls ≡ goes_on d
    → d.blocks ≡ steps_made makes_block S rooms n calls + (comes_to n).blocks
unfolding makes_block
blocks_made S rooms n calls = chain_counts S rooms makes_block (λ c. c.blocks) (λ given c. blocks_counted S given c (step_taken c)) n calls

pub hints_taken : (S : System) (rooms : Rooms) (n : Next) (calls : List Given) {d : Configuration} → chain S rooms n calls ≡ goes_on d
    → d.accepted ≡ steps_made takes_hint S rooms n calls + (comes_to n).accepted
unfolding makes_block takes_hint
hints_taken S rooms n calls = chain_counts S rooms takes_hint (λ c. c.accepted) (λ given c. hints_counted S given c (step_taken c)) n calls
