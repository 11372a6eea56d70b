-- The backward system of a valid image: it is lawful, it accepts the words that runs accept, and one automaton gives one language; and the rows that are
-- walked for a backward set. Assumes nothing.
use Prim.Native.Nat.{ℕ, ◌≤◌, ◌<◌}
use mathlib.Core.Path.{◌≡◌, refl, sym, ap, subst, ◌∙◌}
use mathlib.Core.List.{List, [], ◌∷◌}
use mathlib.Core.Logic.{◌⊎◌, inl, inr, ◌↔◌}
use lib.Dec.{T}
use lib.ListN.{length}
use Rattle.lists.proofs.Tests.{or_none}
use Rattle.lists.specs.Lists.{◌∈◌, Each, any}
use Rattle.lists.proofs.Lists.{in_none, in_cases}
use Rattle.masks.specs.Sets.{subset, within}
use Rattle.automata.specs.Image.{Valid, states_of, symbols_of, initial_of, final_of, rows_of}
use Rattle.automata.specs.Automaton.{automaton_of, backward, rows_walked, HoldOne}
use Rattle.automata.specs.Automaton.{taken_back as taken_back_by}
use Rattle.automata.specs.Acceptance.{Accepted}
use Rattle.automata.specs.WordTest.{accepts as accepts_back}
use Rattle.automata.proofs.BackwardSets.{backward_monotone, backward_within, walked_least, walked_same}
use Rattle.automata.proofs.ValidImage.{valid_proper}
use Rattle.automata.proofs.AcceptedWords.{accepted_means}
use Rattle.machine.specs.Runs.{system_of}
use Rattle.machine.specs.Promises.{WalkPromises}
use Rattle.machine.proofs.Language.{taken_back, Word, accepts, Lawful, NoneShorter, SameLanguage}
use Rattle.machine.proofs.WordTests.{same_accepts}

-- the laws that the promises ask of a system hold of every valid image
pub image_lawful : (image : List ℕ) → Valid image → Lawful (system_of image)
image_lawful image valid =
    let proper = valid_proper image valid in
    record {
      initial_within = proper.initial_within;
      finals_within = λ F m. only F (in_cases m);
      backward_within = λ s X l. backward_within (states_of image) (rows_of image s) X (proper.row_state s l);
      backward_monotone = λ s X Y. backward_monotone (rows_of image s) X Y;
    }
  where
    only : (F : ℕ) → (F ≡ final_of image) ⊎ F ∈ [] → T (within (states_of image) F)
    only F (inl e) = rw e (valid_proper image valid).final_within
    only F (inr m) = absurd (in_none m)

-- the walk over the rows of a symbol keeps its promises
pub walk_tells : (image : List ℕ) (s X : ℕ) → Valid image → s < symbols_of image
    → WalkPromises (states_of image) (rows_of image s) X (rows_walked (states_of image) (rows_of image s) X)
walk_tells image s X valid known =
    let least = walked_least (states_of image) (rows_of image s) X in
    record {
      brings_or_all = least.holds_or;
      least = least.not_before;
      same_set = walked_same (states_of image) (rows_of image s) X ((valid_proper image valid).row_state s known);
    }

-- taking back is the same in both
taken_same : (image word : List ℕ) (X : ℕ) → taken_back (system_of image) word X ≡ taken_back_by (automaton_of image) word X
unfolding taken_back taken_back_by
taken_same image [] X = refl
taken_same image (s ∷ word) X = ap (backward (rows_of image s)) (taken_same image word X)

pub system_accepts : (image word : List ℕ) → accepts (system_of image) word ≡ accepts_back (automaton_of image) word
unfolding accepts accepts_back any
system_accepts image word =
    or_none (subset (initial_of image) (taken_back (system_of image) word (final_of image)))
    ∙ ap (subset (initial_of image)) (taken_same image word (final_of image))

-- a word is accepted by runs exactly if its symbols are the image's and F, taken back by them, contains I
pub accepted_exactly : (image word : List ℕ) → Valid image → Accepted (automaton_of image) word
    ↔ (Each (λ s. s < symbols_of image) word × T (subset (initial_of image) (taken_back_by (automaton_of image) word (final_of image))))
unfolding accepts_back
accepted_exactly image word valid = accepted_means (automaton_of image) (valid_proper image valid) word

-- a word is accepted by runs exactly if it is a word of the system that the system accepts
pub accepted_by_runs : (image : List ℕ) → Valid image → (word : List ℕ)
    → Accepted (automaton_of image) word ↔ (Word (system_of image) word × T (accepts (system_of image) word))
accepted_by_runs image valid word =
    let means = accepted_means (automaton_of image) (valid_proper image valid) word in (
      λ a. ((means.0 a).0, subst T (sym (system_accepts image word)) (means.0 a).1),
      λ h. means.1 (h.0, subst T (system_accepts image word) h.1),
    )

-- if no word that the system accepts has fewer symbols, none that runs accept has
pub none_shorter_by_runs : (image : List ℕ) → Valid image → {N : ℕ} → NoneShorter (system_of image) N → (word : List ℕ)
    → Accepted (automaton_of image) word → N ≤ length word
none_shorter_by_runs image valid shown word a = let h = (accepted_by_runs image valid word).0 a in shown word h.0 h.1

-- images that hold one automaton have one language
pub same_language : (image other : List ℕ) → HoldOne image other → SameLanguage (system_of image) (system_of other)
same_language image other same =
    record {
      words = λ word. (λ h s m. subst (λ (k : ℕ). s < k) same.symbols (h s m), λ h s m. subst (λ (k : ℕ). s < k) (sym same.symbols) (h s m));
      accepted = λ word known.
          system_accepts image word
          ∙ same_accepts (automaton_of image) (automaton_of other) same word known
          ∙ sym (system_accepts other word);
    }
