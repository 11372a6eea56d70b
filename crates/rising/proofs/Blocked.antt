-- Whether a blocker rises, by whether each of its backward sets is blocked. Assumes nothing.
use Prim.Native.Nat.{ℕ, ◌+◌, ◌≤◌, ◌<◌}
use mathlib.Core.Path.{◌≡◌, sym, ◌∙◌}
use mathlib.Core.Bool.{Bool, true, false, not}
use mathlib.Core.List.{List}
use borrow.Author.Tests.{not-true, not-false}
use lib.Dec.{eqb}
use Rattle.lists.specs.Tests.{◌and◌}
use Rattle.lists.proofs.Tests.{and_fails}
use Rattle.automata.specs.Image.{rows_of}
use Rattle.automata.specs.Automaton.{backward}
use Rattle.automata.specs.declared.image.Head.{Head}
use Rattle.automata.specs.Answers.{ReadAs}
use Rattle.automata.proofs.Reading.{head_initial}
use Rattle.automata.proofs.EachSymbol.{EachTried, each_goes, each_fails, each_ends}
use Rattle.machine.specs.System.{System}
use Rattle.machine.specs.Machine.{Blocker, blocked, rises}
use Rattle.machine.specs.Runs.{system_of}

-- a blocker of another level does not rise
pub rise_other : (S : System) (table : List Blocker) (level : ℕ) (blocker : Blocker) (other : Bool) → other ≡ not (eqb blocker.level level)
    → other ≡ true → false ≡ rises S table level blocker
unfolding rises ◌and◌
rise_other S table level blocker other e n = sym (rw (not-true _ (sym e ∙ n)))

-- the test of the blocker's backward sets goes on behind one that is blocked
module _ (image : List ℕ) (table : List Blocker) (level mask : ℕ) {head : Head} (read : ReadAs image head) (symbols s : ℕ)
    (tried : EachTried image (blocked head.initial table level) mask symbols s) (P : ℕ) (told : Bool) (l : s < symbols)
    (back : P ≡ backward (rows_of image s) mask) (is_blocked : told ≡ blocked head.initial table level P) where
  pub rise_goes : not told ≡ false → EachTried image (blocked head.initial table level) mask symbols (s + 1)
  rise_goes n = each_goes tried P told l back is_blocked n

-- the walk over the symbols that asks whether all backward sets are blocked
module _ (image : List ℕ) (table : List Blocker) (level : ℕ) (blocker : Blocker) {head : Head} (read : ReadAs image head) (symbols s : ℕ)
    (tried : EachTried image (blocked head.initial table level) blocker.mask symbols s) where
  pub rise_unblocked : (P : ℕ) (b : Bool) → s < symbols → P ≡ backward (rows_of image s) blocker.mask → b ≡ blocked head.initial table level P
      → not b ≡ true → false ≡ rises (system_of image) table level blocker
  unfolding rises
  rise_unblocked P b l back e n = sym (and_fails _ _ (rw (head_initial read) at (each_fails tried P b l back e n)))

  pub rise_blocked : (other : Bool) → other ≡ not (eqb blocker.level level) → other ≡ false → symbols ≤ s
      → true ≡ rises (system_of image) table level blocker
  unfolding rises ◌and◌
  rise_blocked other e f l = sym (rw (not-false _ (sym e ∙ f)) (rw (head_initial read) at (each_ends tried l)))
