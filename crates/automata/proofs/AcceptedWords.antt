-- Acceptance by runs and by backward sets are one: a case that steps into a subset of X is inside the backward set of X, and so, symbol by symbol, a run from
-- a case to a final one begins inside F taken back; from there the picked run leads into F. Assumes nothing.
use Prim.Native.Nat.{ℕ, ◌<◌}
use mathlib.Core.Path.{◌≡◌}
use mathlib.Core.List.{List}
use mathlib.Core.Logic.{◌⊎◌, inl, inr, ◌↔◌}
use lib.Dec.{T}
use Rattle.lists.specs.Lists.{◌∈◌, Each}
use Rattle.lists.proofs.Lists.{in_none, in_cases}
use Rattle.masks.specs.Sets.{subset}
use Rattle.masks.proofs.Laws.{subset_members, members_subset, subset_reflexive, subset_transitive, empty_members}
use Rattle.automata.specs.Automaton.{Automaton, backward, taken_back}
use Rattle.automata.specs.Acceptance.{Steps, Run, stays, steps, Accepted}
use Rattle.automata.specs.WordTest.{accepts}
use Rattle.automata.proofs.BackwardSets.{backward_members}
use Rattle.automata.proofs.ValidImage.{Proper}
use Rattle.automata.proofs.PickedRuns.{picked_run}

module _ (A : Automaton) where
  -- a case that steps into a subset of Z is inside the backward set of Z
  steps_inside : (s X Y Z : ℕ) → Steps A s X Y → T (subset Y Z) → T (subset X (backward (A.rows s) Z))
  steps_inside s X Y Z step h =
      members_subset X (backward (A.rows s) Z)
      (λ q i. (backward_members (A.rows s) Z q).1 (record {
        row = step.picked q i;
        listed = step.of_symbol q i;
        leads = record {
          state = step.of_state q i;
          inside = members_subset (step.picked q i).case Z
              (λ p j. subset_members Y Z h p ((step.union p).1 (record { from = q; inside = i; to = j })));
        };
      }))

  -- a run into a final case begins inside F taken back, and its symbols are the automaton's
  run_inside : {word : List ℕ} {X Z : ℕ} → Run A word X Z → T (subset Z A.final) → T (subset X (taken_back A word A.final))
  unfolding taken_back
  run_inside stays h = h
  run_inside (steps {s} {word} {X} {Y} step run) h = steps_inside s X Y (taken_back A word A.final) step (run_inside run h)

  run_symbols : {word : List ℕ} {X Z : ℕ} → Run A word X Z → Each (λ s. s < A.symbols) word
  run_symbols stays t m = absurd (in_none m)
  run_symbols (steps {s} {word} step run) t m = at (run_symbols run t) (in_cases m)
    where
      at : (t ∈ word → t < A.symbols) → (t ≡ s) ⊎ t ∈ word → t < A.symbols
      at later (inl e) = rw e step.symbol
      at later (inr k) = later k

  module _ (proper : Proper A) where
    -- a word is accepted by runs exactly if its symbols are the automaton's and F, taken back by them, contains I
    pub accepted_means : (word : List ℕ) → Accepted A word ↔ (Each (λ s. s < A.symbols) word × T (accepts A word))
    unfolding accepts
    accepted_means word = (
      λ a. (
        run_symbols a.run,
        subset_transitive A.initial a.start (taken_back A word A.final) a.contains_initial (run_inside a.run a.final),
      ),
      λ h.
          let r = picked_run A proper A.final word h.0 A.initial proper.initial_within h.1 in
          record {
            start = A.initial;
            is_case = proper.initial_within;
            contains_initial = subset_reflexive A.initial;
            end = r.end;
            run = r.run;
            final = r.inside;
          },
    )

-- the empty case steps to itself by every symbol
pub empty_steps : (A : Automaton) (s : ℕ) → s < A.symbols → Steps A s 0 0
empty_steps A s symbol =
    record {
      symbol = symbol;
      picked = λ q i. record { state = 0; case = 0 };
      of_symbol = λ q i. absurd (empty_members q i);
      of_state = λ q i. absurd (empty_members q i);
      union = λ p. (λ i. absurd (empty_members p i), λ r. absurd (empty_members r.from r.inside));
    }
