-- What a run begins with: the start's record. Assumes nothing.
use Prim.Native.Nat.{ℕ}
use mathlib.Core.Path.{◌≡◌, refl, sym, ap, ap₂, ◌∙◌}
use mathlib.Core.Bool.{Bool, true, false}
use mathlib.Core.List.{List, [], ◌∷◌}
use Rattle.lists.specs.Tests.{choose, ◌or◌}
use Rattle.lists.specs.Lists.{any}
use Rattle.masks.specs.Sets.{subset}
use Rattle.automata.specs.Image.{initial_of, final_of}
use Rattle.automata.specs.Answers.{ReadAs}
use Rattle.automata.specs.declared.image.Head.{Head}
use Rattle.machine.specs.Machine.{ends, goes_on, comes_to, beginning, start_answer, start}
use Rattle.machine.specs.Runs.{Terms, RunRecord, end_number, number_of, record_of, alone_record}
use Rattle.checker.specs.declared.terms.Edition.{Edition}
use Rattle.checker.specs.declared.terms.Edition.TheVariants.{First, Second}
use Rattle.checker.specs.Stage.{number_of_edition}

-- the start's record, by the test and the edition
module _ (image : List ℕ) {head : Head} (read : ReadAs image head) (edition : Edition) (b : Bool) (e : b ≡ subset head.initial head.finals) (run : RunRecord) where
  test : subset (initial_of image) (final_of image) ≡ b
  test = sym (e ∙ ap (λ (h : Head). subset h.initial h.finals) read.read)

  pub start_works : b ≡ false → run ≡ alone_record 6
      → run ≡ record_of (start (initial_of image) (final_of image ∷ []) (number_of_edition edition))
  unfolding start any ◌or◌ choose record_of number_of end_number beginning
  start_works f is = is ∙ rw (test ∙ f)

  module _ (final : b ≡ true) where
    pub start_final : edition ≡ First → run ≡ alone_record 1
        → run ≡ record_of (start (initial_of image) (final_of image ∷ []) (number_of_edition edition))
    unfolding start start_answer any ◌or◌ choose record_of number_of end_number beginning
    start_final first is = is ∙ rw (test ∙ final, first)

    pub start_final_second : edition ≡ Second → run ≡ alone_record 5
        → run ≡ record_of (start (initial_of image) (final_of image ∷ []) (number_of_edition edition))
    unfolding start start_answer any ◌or◌ choose record_of number_of end_number beginning
    start_final_second second is = is ∙ rw (test ∙ final, second)

-- no step was made
pub start_steps : (initial : ℕ) (finals : List ℕ) (edition : ℕ) → (record_of (start initial finals edition)).steps ≡ 0
unfolding start choose record_of beginning
start_steps initial finals edition = at (any (subset initial) finals)
  where
    at : (b : Bool) → (comes_to (choose b (ends (start_answer edition) beginning) (goes_on beginning))).steps ≡ 0
    at true = refl
    at false = refl

-- as the terms say the edition
pub starts_alike : {image bytes : List ℕ} {given terms : Terms} {run : RunRecord} → image ≡ bytes → given ≡ terms
    → run ≡ record_of (start (initial_of image) (final_of image ∷ []) given.edition)
    → run ≡ record_of (start (initial_of bytes) (final_of bytes ∷ []) terms.edition)
starts_alike same given starts =
    starts ∙ ap₂ (λ (x : List ℕ) (t : Terms). record_of (start (initial_of x) (final_of x ∷ []) t.edition)) same given
