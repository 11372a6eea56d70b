-- Whether a set passes, by the tests of the code. Assumes nothing.
use Prim.Native.Nat.{ℕ, ◌≤◌, ◌<◌}
use mathlib.Core.Path.{◌≡◌, refl, sym, ap, ◌∙◌}
use mathlib.Core.Bool.{Bool, true, false, not}
use mathlib.Core.List.{List}
use lib.Dec.{T}
use Rattle.lists.specs.Tests.{◌and◌, neg}
use Rattle.lists.proofs.Tests.{is_true, and_fails, neg_is_not}
use Rattle.masks.specs.Sets.{subset, within}
use Rattle.automata.specs.Image.{states_of, initial_of, rows_of}
use Rattle.automata.specs.Automaton.{backward}
use Rattle.automata.specs.declared.image.Head.{Head}
use Rattle.automata.specs.Answers.{ReadAs}
use Rattle.automata.proofs.Reading.{head_states, head_initial}
use Rattle.automata.proofs.EachSymbol.{EachTried, each_fails, each_ends}
use Rattle.machine.specs.System.{System}
use Rattle.machine.specs.Machine.{Blocker, settled, passes}
use Rattle.machine.specs.Runs.{system_of}
use Rattle.passing.specs.Grown.{all_settled, Grown}

-- the walk over the symbols that asks whether all backward sets are settled
module _ {image : List ℕ} {head : Head} (table : List Blocker) (below : ℕ) {Y s : ℕ} (read : ReadAs image head)
    (tried : EachTried image (settled head.initial table below Y) Y head.symbols s) where
  pub all_fails : (P : ℕ) (b : Bool) → s < head.symbols → P ≡ backward (rows_of image s) Y → b ≡ settled head.initial table below Y P → not b ≡ true
      → false ≡ all_settled image table below Y
  unfolding all_settled
  all_fails P b l back e n = sym (rw (head_initial read) at (each_fails tried P b l back e n))

  pub all_ends : head.symbols ≤ s → true ≡ all_settled image table below Y
  unfolding all_settled
  all_ends l = sym (rw (head_initial read) at (each_ends tried l))

-- the second and the third of joined tests fails
second_fails : (a b c : Bool) → b ≡ false → (a and b and c) ≡ false
unfolding ◌and◌
second_fails a b c e = and_fails a (b and c) (rw e)

third_fails : (a b c d : Bool) → c ≡ false → (a and b and c and d) ≡ false
third_fails a b c d e = and_fails a (b and c and d) (second_fails b c d e)

pub pass_beyond_states : (S : System) (table : List Blocker) (below X Y : ℕ) → within S.states Y ≡ false → passes S table below X Y ≡ false
unfolding passes
pass_beyond_states S table below X Y e = third_fails _ _ _ _ e

-- Joined tests as the code asks them: the second only where the first holds.
module _ {first joined : Bool} (a b : Bool) (is : first ≡ a) where
  pub second_asked : {second : Bool} → first ≡ true → joined ≡ second → second ≡ b → joined ≡ (a and b)
  unfolding ◌and◌
  second_asked t j e = j ∙ e ∙ sym (rw (← is, t))

  pub second_unasked : first ≡ false → joined ≡ first → joined ≡ (a and b)
  unfolding ◌and◌
  second_unasked f j = j ∙ f ∙ sym (rw (← is, f))

pub not_means : (b : Bool) {r : Bool} → r ≡ b → not r ≡ neg b
unfolding neg
not_means b e = ap not e ∙ neg_is_not b

-- the tests before the backward sets, joined
abbrev pub tests_before : Head → ℕ → ℕ → Bool
tests_before head X Y = (subset X Y and neg (subset head.initial Y)) and within head.states Y

and_joined : (a b c d : Bool) → (a and b and c and d) ≡ (((a and b) and c) and d)
unfolding ◌and◌
and_joined true b c d = joined b c d
  where
    joined : (b c d : Bool) → (b and c and d) ≡ ((b and c) and d)
    joined true c d = refl
    joined false c d = refl
and_joined false b c d = refl

module _ (image : List ℕ) (table : List Blocker) (below X Y : ℕ) {head : Head} (read : ReadAs image head) where
  -- what the two tests with the head say
  initial_test : {b : Bool} → b ≡ subset head.initial Y → subset (initial_of image) Y ≡ b
  initial_test e = ap (λ (I : ℕ). subset I Y) (sym (head_initial read)) ∙ sym e

  within_test : {b : Bool} → b ≡ within head.states Y → within (states_of image) Y ≡ b
  within_test e = ap (λ (n : ℕ). within n Y) (sym (head_states read)) ∙ sym e

  pub pass_initial : (b : Bool) → b ≡ subset head.initial Y → b ≡ true → false ≡ passes (system_of image) table below X Y
  unfolding passes neg
  pass_initial b e t = sym (second_fails _ _ _ (ap neg (initial_test e ∙ t)))

  -- the rest of the test
  pass_rest : T (subset X Y) → subset (initial_of image) Y ≡ false → T (within (states_of image) Y)
      → passes (system_of image) table below X Y ≡ all_settled image table below Y
  unfolding passes all_settled ◌and◌ neg
  pass_rest inside lacks fits = rw (is_true (subset X Y) inside, lacks, is_true (within (states_of image) Y) fits)

  pass_by : passes (system_of image) table below X Y ≡ (tests_before head X Y and all_settled image table below Y)
  unfolding passes all_settled
  pass_by = rw (head_initial read, head_states read) (and_joined _ _ _ _)

  module _ (before : Bool) (are : before ≡ tests_before head X Y) where
    pub pass_settled : before ≡ true → (r : Bool) → r ≡ all_settled image table below Y → r ≡ passes (system_of image) table below X Y
    unfolding ◌and◌
    pass_settled t r e = e ∙ sym (pass_by ∙ rw (← are, t))

    pub pass_untested : before ≡ false → before ≡ passes (system_of image) table below X Y
    unfolding ◌and◌
    pass_untested f = f ∙ sym (pass_by ∙ rw (← are, f))

  pub pass_grown : Grown image X Y → (without r : Bool) → without ≡ subset head.initial Y → without ≡ false
      → r ≡ all_settled image table below Y → r ≡ passes (system_of image) table below X Y
  pass_grown grown without r w wf e = e ∙ sym (pass_rest grown.inside (initial_test w ∙ wf) grown.fits)
