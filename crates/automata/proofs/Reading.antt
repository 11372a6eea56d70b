-- What reading an image answers: by what the checks found, and in 01's number and values, for every image; and what a head says of its image. Assumes
-- nothing.
use Prim.Native.Nat.{ℕ, zero, suc, ◌≤◌, ◌<◌}
use mathlib.Core.Path.{◌≡◌, refl, sym, ap, ◌∙◌}
use mathlib.Core.List.{List, [], ◌∷◌}
use native.Mathlib.Omega.{arith}
use mathlib.Core.Bool.{Bool, true, false}
use mathlib.Core.Logic.{inl, inr}
use borrow.Author.Tests.{eqb-true, eqb-false}
use lib.Dec.{eqb}
use lib.ListN.{length}
use Rattle.std.specs.Prelude.{Ok, Err}
use Rattle.lists.specs.Tests.{choose}
use Rattle.automata.specs.Image.{Valid, states_of, symbols_of, row_count_of, initial_of, final_of, check_image}
use Rattle.automata.specs.Refusals.{number_of}
use Rattle.automata.specs.Answers.{ReadAs, refused_under, read_with, read_image, head_read_from, image_number, head_after}
use Rattle.automata.specs.declared.refusal.Refusal.{Refusal}
use Rattle.automata.specs.declared.refusal.Refusal.TheVariants.{ShortImage, StateCount, SymbolCount, RowCount, ImageLength, StateSet, Pair, Row, UnevenRoom, LargeTable, UnknownSymbol, BrokenRecord, ShortRoom, UnknownEdition, UnknownWay}
use Rattle.automata.specs.declared.image.Head.{Head}
use Rattle.automata.proofs.Checks.{CheckNumber, check_number}
use Rattle.automata.proofs.ValidImage.{valid_kept}

-- the refusal that a number stands for has that number
is_numbered : (refusal later : Refusal) (under number : ℕ) → number_of refusal ≡ under → (eqb number under ≡ false → number_of later ≡ number)
    → number_of (choose (eqb number under) refusal later) ≡ number
unfolding choose
is_numbered refusal later under number e rest = at (eqb number under) refl
  where
    at : (b : Bool) → eqb number under ≡ b → number_of (choose b refusal later) ≡ number
    at true t = e ∙ sym (eqb-true number under t)
    at false f = rest f

pub number_under : (number : ℕ) → CheckNumber number → (number ≡ 0 → ⊥) → number_of (refused_under number) ≡ number
unfolding refused_under
number_under number (inl none) n = absurd (n none)
number_under number (inr some) n =
    is_numbered _ _ 20 number refl (λ n20. is_numbered _ _ 21 number refl (λ n21. is_numbered _ _ 22 number refl (λ n22.
    is_numbered _ _ 23 number refl (λ n23. is_numbered _ _ 24 number refl (λ n24. is_numbered _ _ 25 number refl (λ n25.
    is_numbered _ _ 26 number refl (λ n26. omega (
      arith,
      some.0,
      some.1,
      eqb-false number 20 n20,
      eqb-false number 21 n21,
      eqb-false number 22 n22,
      eqb-false number 23 n23,
      eqb-false number 24 n24,
      eqb-false number 25 n25,
      eqb-false number 26 n26,
    ))))))))

not_checked : {number : ℕ} → CheckNumber number → 28 ≤ number → ⊥
not_checked (inl z) h = omega arith
not_checked (inr c) h = omega (arith, c.1)

-- what the reader answers, by what the checks answer
pub none_refused : (bytes : List ℕ) → 0 ≡ check_image bytes → Ok bytes ≡ read_image bytes
unfolding read_image read_with
none_refused bytes e = rw (← e)

pub refused : (bytes : List ℕ) (refusal : Refusal) → number_of refusal ≡ check_image bytes → Err refusal ≡ read_image bytes
unfolding read_image read_with refused_under choose
refused bytes ShortImage e = rw (← e)
refused bytes StateCount e = rw (← e)
refused bytes SymbolCount e = rw (← e)
refused bytes RowCount e = rw (← e)
refused bytes ImageLength e = rw (← e)
refused bytes StateSet e = rw (← e)
refused bytes Pair e = rw (← e)
refused bytes Row e = rw (← e)
refused bytes UnevenRoom e = absurd (not_checked (check_number bytes) (omega (arith, e)))
refused bytes LargeTable e = absurd (not_checked (check_number bytes) (omega (arith, e)))
refused bytes UnknownSymbol e = absurd (not_checked (check_number bytes) (omega (arith, e)))
refused bytes BrokenRecord e = absurd (not_checked (check_number bytes) (omega (arith, e)))
refused bytes ShortRoom e = absurd (not_checked (check_number bytes) (omega (arith, e)))
refused bytes UnknownEdition e = absurd (not_checked (check_number bytes) (omega (arith, e)))
refused bytes UnknownWay e = absurd (not_checked (check_number bytes) (omega (arith, e)))

-- an image that no check refuses has its first 20 bytes
pub head_in : (bytes : List ℕ) → 0 ≡ check_image bytes → 20 ≤ length bytes
head_in bytes e = omega (arith, (valid_kept bytes (sym e)).whole)

-- its head, by what was read
pub head_read : (bytes : List ℕ) (rows initial finals : ℕ) → 0 ≡ check_image bytes → rows ≡ row_count_of bytes → initial ≡ initial_of bytes
    → finals ≡ final_of bytes
    → ReadAs bytes (record { states = states_of bytes; symbols = symbols_of bytes; rows = rows; initial = initial; finals = finals })
head_read bytes rows initial finals e er ei ef = record { valid = sym e; read = rw (er, ei, ef) refl }

-- the head alone, and the refusal beside it
pub head_alone : (bytes : List ℕ) {image : List ℕ} {head : Head} → Ok image ≡ read_image bytes → ReadAs image head → Ok head ≡ head_read_from (read_image bytes)
unfolding head_read_from
head_alone bytes read is = rw (← read, is.read)

pub refusal_alone : (bytes : List ℕ) {refusal : Refusal} → Err refusal ≡ read_image bytes → Err refusal ≡ head_read_from (read_image bytes)
unfolding head_read_from
refusal_alone bytes read = rw (← read)

-- what the reader's answer says of the bytes: it is they, and no check refuses them
read_of : (bytes : List ℕ) {image : List ℕ} (number : ℕ) → Ok image ≡ read_with bytes number → (number ≡ 0) × (image ≡ bytes)
unfolding read_with
read_of bytes zero e = (refl, cc)
read_of bytes (suc number) e = let z : ◌≡◌ {A = ℕ} 0 1 = cc in absurd (omega arith)

module _ (bytes : List ℕ) {image : List ℕ} (read : Ok image ≡ read_image bytes) where
  pub read_valid : Valid bytes
  unfolding read_image
  read_valid = (read_of bytes (check_image bytes) read).0

  pub read_same : image ≡ bytes
  unfolding read_image
  read_same = (read_of bytes (check_image bytes) read).1

-- .. or the refusal's number is that of the first check that applies
refused_of : (bytes : List ℕ) {refusal : Refusal} (number : ℕ) → CheckNumber number → Err refusal ≡ read_with bytes number
    → (number_of refusal ≡ number) × (20 ≤ number)
unfolding read_with
refused_of bytes zero c e = let z : ◌≡◌ {A = ℕ} 0 1 = cc in absurd (omega arith)
refused_of bytes {refusal = refusal} (suc number) c e =
    let same : refusal ≡ refused_under (suc number) = cc in
    (ap (λ (r : Refusal). number_of r) same ∙ number_under (suc number) c (λ z. omega arith), high c)
  where
    high : CheckNumber (suc number) → 20 ≤ suc number
    high (inl z) = absurd (omega arith)
    high (inr h) = h.0

module _ (bytes : List ℕ) {refusal : Refusal} (read : Err refusal ≡ read_image bytes) where
  pub refused_number : number_of refusal ≡ check_image bytes
  unfolding read_image
  refused_number = (refused_of bytes (check_image bytes) (check_number bytes) read).0

  pub refused_high : 20 ≤ number_of refusal
  unfolding read_image
  refused_high = let h = refused_of bytes (check_image bytes) (check_number bytes) read in omega (arith, h.0, h.1)

-- "When an answer is an enum, a definition gives this paper's number and values for each of its cases": a refused image gives its number, and nothing is
-- written
module _ (image : List ℕ) (refused : Valid image → ⊥) where
  pub reading_refused : image_number (read_image image) ≡ check_image image
  unfolding read_image read_with image_number
  reading_refused = at (check_image image) (check_number image) refused
    where
      at : (number : ℕ) → CheckNumber number → (number ≡ 0 → ⊥) → image_number (read_with image number) ≡ number
      at zero c n = absurd (n refl)
      at (suc number) c n = number_under (suc number) c n

  pub reading_refused_values : (before : List ℕ) → head_after before (read_image image) ≡ before
  unfolding read_image read_with head_after
  reading_refused_values before = at (check_image image) refused
    where
      at : (number : ℕ) → (number ≡ 0 → ⊥) → head_after before (read_with image number) ≡ before
      at zero n = absurd (n refl)
      at (suc number) n = refl

-- .. and a valid one gives 0, with n, k, m, I and F
module _ (image : List ℕ) (valid : Valid image) where
  pub reading_valid : image_number (read_image image) ≡ 0
  unfolding image_number read_image read_with
  reading_valid = rw valid

  pub reading_valid_values : (before : List ℕ)
      → head_after before (read_image image) ≡ states_of image ∷ symbols_of image ∷ row_count_of image ∷ initial_of image ∷ final_of image ∷ []
  unfolding head_after read_image read_with
  reading_valid_values before = rw valid

-- what a head says of its image
module _ {image : List ℕ} {head : Head} (read : ReadAs image head) where
  pub head_states : head.states ≡ states_of image
  head_states = ap (λ (h : Head). h.states) read.read

  pub head_symbols : head.symbols ≡ symbols_of image
  head_symbols = ap (λ (h : Head). h.symbols) read.read

  pub head_initial : head.initial ≡ initial_of image
  head_initial = ap (λ (h : Head). h.initial) read.read

  pub head_finals : head.finals ≡ final_of image
  head_finals = ap (λ (h : Head). h.finals) read.read

  pub head_rows : head.rows ≡ row_count_of image
  head_rows = ap (λ (h : Head). h.rows) read.read

  pub rows_below : (bound : ℕ) → head.rows < bound → row_count_of image < bound
  rows_below bound l = rw (← head_rows) l

  pub some_state : 1 ≤ head.states
  some_state = rw head_states (valid_kept image read.valid).some_state

  pub states_fit : head.states ≤ 64
  states_fit = rw head_states (valid_kept image read.valid).states_fit
