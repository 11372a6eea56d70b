-- The walk's number and its two places, by the reader's answer and the symbol. Assumes nothing.
use Prim.Native.Nat.{ℕ, ◌≤◌, ◌<◌}
use mathlib.Core.Path.{◌≡◌, sym, ◌∙◌}
use mathlib.Core.List.{List, [], ◌∷◌}
use borrow.Author.Tests.{le-ltb, lt-ltb}
use Rattle.std.specs.Prelude.{Ok, Err}
use Rattle.lists.proofs.Tests.{choose_true, choose_false}
use Rattle.automata.specs.Image.{states_of, symbols_of, rows_of}
use Rattle.automata.specs.Automaton.{backward, rows_walked}
use Rattle.automata.specs.Refusals.{number_of}
use Rattle.automata.specs.Answers.{ReadAs, read_image}
use Rattle.automata.specs.declared.image.Head.{Head}
use Rattle.automata.specs.declared.refusal.Refusal.{Refusal}
use Rattle.automata.proofs.Reading.{head_symbols}
use Rattle.probes.specs.Walks.{walk_number, walked_after}

module _ (before bytes : List ℕ) (s X : ℕ) where
  module _ (refusal : Refusal) (read : Err refusal ≡ read_image bytes) where
    pub number_refused : number_of refusal ≡ walk_number s (read_image bytes)
    unfolding walk_number
    number_refused = rw (← read)

    pub places_refused : before ≡ walked_after before s X (read_image bytes)
    unfolding walked_after
    places_refused = rw (← read)

  module _ (image : List ℕ) (head : Head) (k : ℕ) (read : Ok image ≡ read_image bytes) (says : ReadAs image head) (e : k ≡ head.symbols) where
    symbols_are : k ≡ symbols_of image
    symbols_are = e ∙ head_symbols says

    pub symbol_known : s < k → s < symbols_of image
    symbol_known l = rw symbols_are at l

    pub number_unknown : k ≤ s → 32 ≡ walk_number s (read_image bytes)
    unfolding walk_number
    number_unknown l = rw (← read) (sym (choose_false _ _ (le-ltb _ _ (rw symbols_are at l))))

    pub places_unknown : k ≤ s → before ≡ walked_after before s X (read_image bytes)
    unfolding walked_after
    places_unknown l = rw (← read) (sym (choose_false _ _ (le-ltb _ _ (rw symbols_are at l))))

    pub number_known : s < k → 0 ≡ walk_number s (read_image bytes)
    unfolding walk_number
    number_known l = rw (← read) (sym (choose_true _ _ (lt-ltb _ _ (symbol_known l))))

    pub places_known : (set rows : ℕ) → s < k → set ≡ backward (rows_of image s) X → rows ≡ rows_walked (states_of image) (rows_of image s) X
        → set ∷ rows ∷ [] ≡ walked_after before s X (read_image bytes)
    unfolding walked_after
    places_known set rows l es er = rw (es, er, ← read) (sym (choose_true _ _ (lt-ltb _ _ (symbol_known l))))
