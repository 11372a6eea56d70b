-- The word test: what its two loops have found, and the number that each way through it answers. Assumes nothing.
use Prim.Native.Nat.{ℕ, zero, suc, ◌+◌, ◌-◌, ◌≤◌, ◌<◌}
use mathlib.Core.Path.{◌≡◌, refl, sym, ap, ◌∙◌}
use mathlib.Core.Bool.{Bool, true, false, not, ◌&&◌}
use mathlib.Core.List.{List, [], ◌∷◌, ◌++◌, append-nil, append_assoc}
use native.Mathlib.Omega.{arith}
use borrow.Author.Tests.{not-true, not-false}
use lib.Dec.{T, ltb, ltb→lt, lt→ltb}
use lib.ListN.{length, get_or, drop}
use lib.Seq.{drop-length}
use Rattle.std.specs.Prelude.{Ok, Err}
use Rattle.std.specs.List.{list_all}
use Rattle.lists.specs.Tests.{◌and◌, neg}
use Rattle.lists.specs.Lists.{here, Each, all}
use Rattle.lists.proofs.Tests.{holds, is_true}
use Rattle.lists.proofs.Lists.{in_right, at_in, drop_first, all_each, each_all}
use Rattle.masks.specs.Sets.{subset}
use Rattle.automata.specs.Image.{Valid, symbols_of, rows_of, check, check_image}
use Rattle.automata.specs.Automaton.{automaton_of, backward, taken_back}
use Rattle.automata.specs.WordTest.{one_if, accepts, known, WordOf, test_word, word_test}
use Rattle.automata.specs.Refusals.{number_of}
use Rattle.automata.specs.Answers.{ReadAs, read_image}
use Rattle.automata.specs.declared.refusal.Refusal.{Refusal}
use Rattle.automata.specs.declared.image.Head.{Head}
use Rattle.automata.proofs.Reading.{read_same, refused_number, refused_high, head_symbols, head_initial, head_finals}

-- std's test of each item of a list
pub all_listed : (test : ℕ → Bool) (l : List ℕ) → list_all test l ≡ all test l
unfolding all ◌and◌
all_listed test [] = refl
all_listed test (x ∷ l) = at (test x) (all_listed test l)
  where
    at : (b : Bool) → list_all test l ≡ all test l → (b && list_all test l) ≡ (b and all test l)
    at true e = e
    at false e = refl

-- a symbol of the word is the automaton's
pub symbol_known : {image word : List ℕ} {i : ℕ} → WordOf image word → i < length word → get_or word i 0 < symbols_of image
symbol_known {image} {word} {i} known l = known.symbols (get_or word i 0) (at_in word i l)

-- the loop that takes a case back, with the first i symbols still to go
pub record TakenFrom (image word : List ℕ) (X i case : ℕ) : Type 0 where
  pub bound : i ≤ length word
  pub taken : case ≡ taken_back (automaton_of image) (drop i word) X

pub taken_none : {image word : List ℕ} {X : ℕ} → TakenFrom image word X (length word) X
unfolding taken_back
taken_none {image} {word} {X} = record { bound = omega arith; taken = ap (λ (w : List ℕ). taken_back (automaton_of image) w X) (sym (drop-length word)) }

module _ {image word : List ℕ} {X i case : ℕ} (from : TakenFrom image word X i case) where
  pub last_known : WordOf image word → 0 < i → get_or word (i - 1) 0 < symbols_of image
  last_known known h = symbol_known known (omega (arith, from.bound))

  pub taken_more : (set : ℕ) → 0 < i → set ≡ backward (rows_of image (get_or word (i - 1) 0)) case → TakenFrom image word X (i - 1) set
  unfolding taken_back
  taken_more set h e =
      let next : i - 1 + 1 ≡ i = omega arith in
      record {
        bound = omega (arith, from.bound);
        taken = e ∙ rw (drop_first word (i - 1) (omega (arith, from.bound)), next, from.taken);
      }

  pub taken_end : i ≤ 0 → case ≡ taken_back (automaton_of image) word X
  taken_end h = let e : i ≡ 0 = omega arith in from.taken ∙ ap (λ (k : ℕ). taken_back (automaton_of image) (drop k word) X) e

-- the walk over the word's symbols from the last on, with those of `front` still to go: the case is taken back by the others
pub record TakenBack (image word : List ℕ) (X : ℕ) (front : List ℕ) (case : ℕ) : Type 0 where
  pub behind : List ℕ
  pub parts : word ≡ front ++ behind
  pub taken : case ≡ taken_back (automaton_of image) behind X

pub back_starts : {image : List ℕ} (word : List ℕ) {X : ℕ} → TakenBack image word X word X
unfolding taken_back
back_starts word = record { behind = []; parts = sym (append-nil word); taken = refl }

module _ {image word : List ℕ} {X : ℕ} {front : List ℕ} {case : ℕ} (back : TakenBack image word X front case) where
  module _ (rest : List ℕ) (s : ℕ) (last : front ≡ rest ++ s ∷ []) where
    split : word ≡ rest ++ (s ∷ back.behind)
    split = back.parts ∙ rw last (append_assoc rest (s ∷ []) back.behind)

    pub back_known : WordOf image word → s < symbols_of image
    back_known known = known.symbols s (rw split (in_right rest (here refl)))

    pub back_goes : (set : ℕ) → set ≡ backward (rows_of image s) case → TakenBack image word X rest set
    unfolding taken_back
    back_goes set e = record { behind = s ∷ back.behind; parts = split; taken = e ∙ ap (backward (rows_of image s)) back.taken }

  pub back_ends : length front ≡ 0 → case ≡ taken_back (automaton_of image) word X
  back_ends e = back.taken ∙ ap (λ (w : List ℕ). taken_back (automaton_of image) w X) (sym (back.parts ∙ none front e))
    where
      none : (l : List ℕ) → length l ≡ 0 → l ++ back.behind ≡ back.behind
      none [] z = refl
      none (x ∷ l) z = absurd (omega arith)

-- the word test on a valid image, and of a word of its symbols: whether F, taken back by them, contains I
pub valid_tested : (image word : List ℕ) → Valid image
    → word_test image word ≡ check (neg (known (symbols_of image) word)) 32 (one_if (accepts (automaton_of image) word))
unfolding word_test test_word
valid_tested image word valid = rw valid

pub word_of_tested : {image word : List ℕ} → WordOf image word → word_test image word ≡ one_if (accepts (automaton_of image) word)
unfolding known check neg
word_of_tested {image} {word} known =
    let below : all (λ s. ltb s (symbols_of image)) word ≡ true
    = is_true _ (each_all (λ s. ltb s (symbols_of image)) word (λ s m. lt→ltb s (symbols_of image) (known.symbols s m))) in
    valid_tested image word known.valid ∙ rw below

-- the answers of the word test: a refused image has the number of its refusal
pub test_refused : (bytes word : List ℕ) {refusal : Refusal} → Err refusal ≡ read_image bytes → number_of refusal ≡ word_test bytes word
unfolding word_test test_word
test_refused bytes word {refusal} read = at (check_image bytes) (refused_number bytes read)
  where
    at : (checked : ℕ) → number_of refusal ≡ checked → number_of refusal ≡ test_word bytes word checked
    at zero e = absurd (omega (arith, refused_high bytes read))
    at (suc checked) e = e

-- .. and else its head tells
module _ {image : List ℕ} (word : List ℕ) {head : Head} (read : ReadAs image head) (below : Bool) (all_below : below ≡ known head.symbols word) where
  tested : word_test image word ≡ check (neg below) 32 (one_if (accepts (automaton_of image) word))
  tested = valid_tested image word read.valid ∙ rw (all_below, head_symbols read)

  pub test_unknown : not below ≡ true → 32 ≡ word_test image word
  unfolding check neg
  test_unknown t = sym (tested ∙ rw (not-true below t))

  module _ (known : not below ≡ false) where
    word_symbols : Each (λ s. s < symbols_of image) word
    unfolding known
    word_symbols s m =
        let t : T (all (λ s. ltb s head.symbols) word) = holds (sym all_below ∙ not-false below known) in
        rw (← head_symbols read) (ltb→lt s head.symbols (all_each (λ s. ltb s head.symbols) word t s m))

    pub word_of : WordOf image word
    word_of = record { valid = read.valid; symbols = word_symbols }

    pub test_accepts : (back : ℕ) (inside : Bool) → back ≡ taken_back (automaton_of image) word head.finals → inside ≡ subset head.initial back
        → one_if inside ≡ word_test image word
    unfolding accepts
    test_accepts back inside taken test =
        sym (word_of_tested word_of ∙ ap one_if (sym (rw (taken, head_initial read, head_finals read) at test)))

-- .. of the bytes that were read
pub test_read : (bytes : List ℕ) {image : List ℕ} (word : List ℕ) (number : ℕ) → Ok image ≡ read_image bytes → number ≡ word_test image word → number ≡ word_test bytes word
test_read bytes word number read e = rw (read_same bytes read) at e
