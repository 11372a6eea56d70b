-- The promises of the word test. Assumes nothing.
use Prim.Native.Nat.{ℕ, zero, suc, ◌≤◌, ◌<◌}
use mathlib.Core.Path.{◌≡◌, refl, sym, ap, ◌∙◌}
use mathlib.Core.Bool.{false}
use mathlib.Core.List.{List}
use mathlib.Core.Logic.{◌⊎◌, inl, inr, ◌↔◌}
use native.Mathlib.Omega.{arith}
use borrow.Author.Tests.{ltb-false}
use lib.Dec.{T, ltb, ltb→lt}
use Rattle.lists.specs.Tests.{neg}
use Rattle.lists.specs.Lists.{Each, all}
use Rattle.lists.proofs.Tests.{is_true, is_false, decide}
use Rattle.lists.proofs.Lists.{all_each, Fails, all_or_one}
use Rattle.automata.specs.Image.{Valid, check, check_image, symbols_of}
use Rattle.automata.specs.Automaton.{Automaton, automaton_of, SameAutomaton, HoldOne}
use Rattle.automata.specs.Acceptance.{Accepted}
use Rattle.automata.specs.WordTest.{one_if, accepts, known, test_word, word_test}
use Rattle.automata.proofs.Checks.{check_number}
use Rattle.automata.proofs.BackwardSets.{taken_back_same}
use Rattle.automata.proofs.ValidImage.{valid_proper}
use Rattle.automata.proofs.WordTests.{valid_tested, word_of_tested}
use Rattle.automata.proofs.AcceptedWords.{accepted_means}
use Rattle.machine.specs.Promises.{HasUnknown}

-- what the test's number says, in one of four ways
data Tested (image word : List ℕ) (number : ℕ) : Type 0 where
  refused : number ≡ check_image image → (Valid image → ⊥) → 20 ≤ number → number ≤ 27 → Tested image word number
  unknown : number ≡ 32 → Valid image → HasUnknown image word → Tested image word number
  yes_word : number ≡ 1 → Valid image → Accepted (automaton_of image) word → Tested image word number
  no_word : number ≡ 0 → Valid image → Each (λ s. s < symbols_of image) word → (Accepted (automaton_of image) word → ⊥) → Tested image word number

-- an accepted word has no unknown symbol
accepted_known : (image word : List ℕ) → Valid image → Accepted (automaton_of image) word → HasUnknown image word → ⊥
accepted_known image word valid a u =
    let l = ((accepted_means (automaton_of image) (valid_proper image valid) word).0 a).0 u.symbol u.listed in
    omega (arith, u.above)

module _ (image word : List ℕ) where
  test_refused : (number : ℕ) → check_image image ≡ number → 20 ≤ number → number ≤ 27 → Tested image word (word_test image word)
  unfolding word_test test_word
  test_refused zero e l h = absurd (omega arith)
  test_refused (suc number) e l h =
      let w : test_word image word (check_image image) ≡ suc number = ap (test_word image word) e in
      refused (w ∙ sym e) (λ v. let z : suc number ≡ 0 = sym e ∙ v in omega arith) (omega arith) (omega arith)

  module _ (valid : Valid image) where
    means : Accepted (automaton_of image) word ↔ (Each (λ s. s < symbols_of image) word × T (accepts (automaton_of image) word))
    means = accepted_means (automaton_of image) (valid_proper image valid) word

    test_valid : Tested image word (word_test image word)
    unfolding known check neg one_if
    test_valid = at (all_or_one (λ s. ltb s (symbols_of image)) word) (decide (accepts (automaton_of image) word))
      where
        at : T (all (λ s. ltb s (symbols_of image)) word) ⊎ Fails (λ s. ltb s (symbols_of image)) word
            → T (accepts (automaton_of image) word) ⊎ (T (accepts (automaton_of image) word) → ⊥) → Tested image word (word_test image word)
        at (inr u) d =
            let above : symbols_of image ≤ u.element = ltb-false _ _ (is_false _ u.fails) in
            let none : all (λ s. ltb s (symbols_of image)) word ≡ false
            = is_false _ (λ t. u.fails (all_each (λ s. ltb s (symbols_of image)) word t u.element u.listed)) in
            unknown (valid_tested image word valid ∙ rw none) valid (record { symbol = u.element; listed = u.listed; above = above })
        at (inl t) d = answer d
          where
            symbols : Each (λ s. s < symbols_of image) word
            symbols s m = ltb→lt _ _ (all_each (λ s. ltb s (symbols_of image)) word t s m)

            told : word_test image word ≡ one_if (accepts (automaton_of image) word)
            told = word_of_tested (record { valid = valid; symbols = symbols })

            answer : T (accepts (automaton_of image) word) ⊎ (T (accepts (automaton_of image) word) → ⊥) → Tested image word (word_test image word)
            answer (inl a) = yes_word (told ∙ ap one_if (is_true (accepts (automaton_of image) word) a)) valid (means.1 (symbols, a))
            answer (inr n) = no_word (told ∙ ap one_if (is_false (accepts (automaton_of image) word) n)) valid symbols (λ a. n (means.0 a).1)

  test_means : Tested image word (word_test image word)
  test_means = at (check_number image)
    where
      at : (check_image image ≡ 0) ⊎ ((20 ≤ check_image image) × (check_image image ≤ 27)) → Tested image word (word_test image word)
      at (inl v) = test_valid v
      at (inr r) = test_refused (check_image image) refl r.0 r.1

  pub refuses_image : (Valid image → ⊥) → word_test image word ≡ check_image image
  refuses_image n = at test_means
    where
      at : Tested image word (word_test image word) → word_test image word ≡ check_image image
      at (refused e f l h) = e
      at (unknown e v u) = absurd (n v)
      at (yes_word e v a) = absurd (n v)
      at (no_word e v s f) = absurd (n v)

  pub refuses_symbol : (word_test image word ≡ 32) ↔ (Valid image × HasUnknown image word)
  refuses_symbol = (λ e. to e test_means, λ h. from h.0 h.1 test_means)
    where
      to : word_test image word ≡ 32 → Tested image word (word_test image word) → Valid image × HasUnknown image word
      to q (refused e f l h) = absurd (omega arith)
      to q (unknown e v u) = (v, u)
      to q (yes_word e v a) = absurd (omega arith)
      to q (no_word e v s f) = absurd (omega arith)

      from : Valid image → HasUnknown image word → Tested image word (word_test image word) → word_test image word ≡ 32
      from v u (refused e f l h) = absurd (f v)
      from v u (unknown e w t) = e
      from v u (yes_word e w a) = absurd (accepted_known image word v a u)
      from v u (no_word e w s f) = absurd (omega (arith, s u.symbol u.listed, u.above))

  pub says_yes : (word_test image word ≡ 1) ↔ (Valid image × Accepted (automaton_of image) word)
  says_yes = (λ e. to e test_means, λ h. from h.0 h.1 test_means)
    where
      to : word_test image word ≡ 1 → Tested image word (word_test image word) → Valid image × Accepted (automaton_of image) word
      to q (refused e f l h) = absurd (omega arith)
      to q (unknown e v u) = absurd (omega arith)
      to q (yes_word e v a) = (v, a)
      to q (no_word e v s f) = absurd (omega arith)

      from : Valid image → Accepted (automaton_of image) word → Tested image word (word_test image word) → word_test image word ≡ 1
      from v a (refused e f l h) = absurd (f v)
      from v a (unknown e w u) = absurd (accepted_known image word v a u)
      from v a (yes_word e w b) = e
      from v a (no_word e w s f) = absurd (f a)

  pub says_no : (word_test image word ≡ 0) ↔ (Valid image × Each (λ s. s < symbols_of image) word × (Accepted (automaton_of image) word → ⊥))
  says_no = (λ e. to e test_means, λ h. from h.0 h.1 h.2 test_means)
    where
      to : word_test image word ≡ 0 → Tested image word (word_test image word)
          → Valid image × Each (λ s. s < symbols_of image) word × (Accepted (automaton_of image) word → ⊥)
      to q (refused e f l h) = absurd (omega arith)
      to q (unknown e v u) = absurd (omega arith)
      to q (yes_word e v a) = absurd (omega arith)
      to q (no_word e v s f) = (v, s, f)

      from : Valid image → Each (λ s. s < symbols_of image) word → (Accepted (automaton_of image) word → ⊥) → Tested image word (word_test image word)
          → word_test image word ≡ 0
      from v s f (refused e g l h) = absurd (g v)
      from v s f (unknown e w u) = absurd (omega (arith, s u.symbol u.listed, u.above))
      from v s f (yes_word e w a) = absurd (f a)
      from v s f (no_word e w t g) = e

-- one automaton: the same known symbols, and the same words taken back into I
pub same_accepts : (A B : Automaton) → SameAutomaton A B → (word : List ℕ) → Each (λ s. s < A.symbols) word → accepts A word ≡ accepts B word
unfolding accepts
same_accepts A B same word symbols = rw (taken_back_same A B same word symbols A.final, same.initial, same.final)

pub same_answer : (image other word : List ℕ) → Valid image → Valid other → HoldOne image other → word_test image word ≡ word_test other word
unfolding known check neg
same_answer image other word valid valid' same =
    valid_tested image word valid ∙ at (decide (all (λ s. ltb s (symbols_of image)) word)) ∙ sym (valid_tested other word valid')
  where
    at : T (all (λ s. ltb s (symbols_of image)) word) ⊎ (T (all (λ s. ltb s (symbols_of image)) word) → ⊥)
        → check (neg (known (symbols_of image) word)) 32 (one_if (accepts (automaton_of image) word))
        ≡ check (neg (known (symbols_of other) word)) 32 (one_if (accepts (automaton_of other) word))
    at (inl t) =
        let symbols : Each (λ s. s < symbols_of image) word = λ s m. ltb→lt _ _ (all_each (λ s. ltb s (symbols_of image)) word t s m) in
        rw (same_accepts (automaton_of image) (automaton_of other) same word symbols, same.symbols)
    at (inr n) = let e : all (λ s. ltb s (symbols_of image)) word ≡ false = is_false _ n in
        let e' = rw same.symbols at e in rw (e, e')
