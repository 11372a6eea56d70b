-- The walk over the states that tries each by the whole test. Assumes nothing.
use Prim.Native.Nat.{ℕ, zero, suc, ◌+◌, ◌-◌, ◌≤◌, ◌<◌}
use mathlib.Core.Path.{◌≡◌, refl, sym, ap, subst, ◌∙◌}
use mathlib.Core.Bool.{Bool, true, false, not}
use mathlib.Core.List.{List}
use mathlib.Core.Logic.{◌⊎◌, inl, inr}
use native.Mathlib.Nat.{sub-zero}
use native.Mathlib.Numerals.{add-one}
use native.Mathlib.Omega.{arith}
use borrow.Author.Tests.{not-true}
use lib.Dec.{T}
use Rattle.lists.specs.Tests.{◌and◌, neg, choose}
use Rattle.lists.proofs.Tests.{fails, is_false, and_fails, choose_false, choose_either}
use Rattle.masks.specs.Sets.{Member, member, union, single, within}
use Rattle.masks.proofs.Laws.{subset_members, members_subset, subset_reflexive, union_members, single_members, within_members, members_within}
use Rattle.automata.specs.Image.{states_of}
use Rattle.automata.specs.declared.image.Head.{Head}
use Rattle.automata.specs.Answers.{ReadAs}
use Rattle.automata.proofs.Reading.{head_states, states_fit}
use Rattle.machine.specs.System.{System}
use Rattle.machine.specs.Machine.{Blocker, passes, with_state, with_states, by_states}
use Rattle.machine.specs.Runs.{system_of}
use Rattle.passing.specs.Grown.{Grown}
use Rattle.passing.proofs.Passing.{pass_beyond_states}

pub state_few : {image : List ℕ} {head : Head} → ReadAs image head → {q : ℕ} → q < states_of image → q < 64
state_few read l = omega (arith, states_fit read, head_states read)

-- one state
module _ (S : System) (table : List Blocker) (below X q Y : ℕ) (there : Bool) (test : there ≡ member q X) where
  pub state_there : there ≡ true → Y ≡ with_state S table below X q Y
  unfolding with_state choose ◌and◌ neg
  state_there t = sym (rw (← test, t))

  module _ (more : ℕ) (passing : Bool) (put : more ≡ union Y (single q)) (passes_test : passing ≡ passes S table below X more) (new : there ≡ false) where
    by_passing : choose passing more Y ≡ with_state S table below X q Y
    unfolding with_state ◌and◌ neg
    by_passing = sym (rw (← test, new, ← put, ← passes_test))

    pub state_kept : passing ≡ true → more ≡ with_state S table below X q Y
    unfolding choose
    state_kept t = sym (rw t) ∙ by_passing

    pub state_left : passing ≡ false → Y ≡ with_state S table below X q Y
    unfolding choose
    state_left f = sym (rw f) ∙ by_passing

  pub state_fails : (more : ℕ) → more ≡ union Y (single q) → false ≡ passes S table below X more → there ≡ false → Y ≡ with_state S table below X q Y
  state_fails more put e new = state_left more false put e new refl

-- a set grows by a state
pub grown_more : {image : List ℕ} {X Y q more : ℕ} → Grown image X Y → q < states_of image → more ≡ union Y (single q) → Grown image X more
grown_more {image} {X} {Y} {q} grown known put =
    subst (Grown image X) (sym put) record {
      inside = members_subset X (union Y (single q)) (λ p m. (union_members Y (single q) p).1 (inl (subset_members X Y grown.inside p m)));
      fits = members_within (states_of image) (union Y (single q)) (λ p m. from p ((union_members Y (single q) p).0 m));
    }
  where
    from : (p : ℕ) → Member p Y ⊎ Member p (single q) → p < states_of image
    from p (inl m) = within_members (states_of image) Y grown.fits p m
    from p (inr m) = omega (arith, (single_members q p).0 m)

-- the walk over the states, before state q: the set so far, and what the states from q on make of it
pub record StatesTried (image : List ℕ) (table : List Blocker) (below X states q Y : ℕ) : Type 0 where
  pub all : states ≡ states_of image
  pub grown : Grown image X Y
  pub left : with_states (system_of image) table below X (states - q) q Y ≡ by_states (system_of image) table below X

pub states_start : {image : List ℕ} {head : Head} {table : List Blocker} {below X : ℕ} → ReadAs image head → T (within (states_of image) X)
    → StatesTried image table below X head.states 0 X
unfolding by_states
states_start {image} {head} {table} {below} {X} read fits = record {
  all = head_states read;
  grown = record { inside = subset_reflexive X; fits = fits };
  left = ap (λ (count : ℕ). with_states (system_of image) table below X count 0 X) (sub-zero head.states ∙ head_states read);
}

module _ {image : List ℕ} {table : List Blocker} {below X states q Y : ℕ} (tried : StatesTried image table below X states q Y) where
  pub state_known : q < states → q < states_of image
  state_known l = rw tried.all at l

  pub states_go : (more : ℕ) → q < states → more ≡ with_state (system_of image) table below X q Y → StatesTried image table below X states (q + 1) more
  unfolding with_states with_state
  states_go more l e =
      let c : states - q ≡ suc (states - suc q) = omega arith in
      record {
        all = tried.all;
        grown = rw e (choose_either (Grown image X) _ (λ t. grown_more tried.grown (state_known l) refl) (λ f. tried.grown));
        left = rw (add-one, e) (rw c at tried.left);
      }

  pub states_end : states ≤ q → Y ≡ by_states (system_of image) table below X
  unfolding with_states
  states_end l = let c : states - q ≡ 0 = omega arith in rw c at tried.left

-- a case with a bit at n or above grows to itself
module _ (S : System) (table : List Blocker) (below X : ℕ) (beyond : within S.states X ≡ false) where
  more_beyond : (q : ℕ) → within S.states (union X (single q)) ≡ false
  more_beyond q =
      is_false _ (λ t. fails beyond
      (members_within S.states X (λ p m. within_members S.states (union X (single q)) t p ((union_members X (single q) p).1 (inl m)))))

  state_beyond : (q : ℕ) → with_state S table below X q X ≡ X
  unfolding with_state
  state_beyond q = choose_false _ _ (and_fails _ _ (pass_beyond_states S table below X (union X (single q)) (more_beyond q)))

  states_beyond : (count q : ℕ) → with_states S table below X count q X ≡ X
  unfolding with_states
  states_beyond zero q = refl
  states_beyond (suc count) q = ap (with_states S table below X count (suc q)) (state_beyond q) ∙ states_beyond count (suc q)

pub grows_beyond : {image : List ℕ} {head : Head} (table : List Blocker) (below : ℕ) {X : ℕ} → ReadAs image head
    → (b : Bool) → b ≡ within head.states X → not b ≡ true → X ≡ by_states (system_of image) table below X
unfolding by_states
grows_beyond {image} table below {X} read b e n =
    sym (states_beyond (system_of image) table below X (ap (λ (n : ℕ). within n X) (sym (head_states read)) ∙ sym e ∙ not-true b n) (states_of image) 0)
