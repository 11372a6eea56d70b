-- Marks of levels, and the lowest level that has none. Assumes nothing.
use Prim.Native.Nat.{ℕ, zero, suc, ◌+◌, ◌≤◌, ◌<◌}
use mathlib.Core.Path.{◌≡◌, refl, sym, ap, ap₂, ◌∙◌}
use mathlib.Core.Bool.{Bool, true, false, not}
use mathlib.Core.List.{List, [], ◌∷◌}
use mathlib.Core.Option.{Option, some}
use native.Mathlib.Decide.{ℕ_discrete}
use native.Mathlib.Numerals.{add-one}
use native.Mathlib.Omega.{arith}
use borrow.Author.Tests.{eq-eqb, ne_eqb}
use lib.Dec.{eqb}
use lib.ListN.{length, get_or, set, take, replicate, length-set}
use lib.Seq.{get_or-set_same, get_or-set_other, take-suc}
use Rattle.std.proofs.lemmas.List.{get_or-replicate}
use Rattle.std.proofs.Math.ListN.{length-replicate}
use Rattle.lists.specs.Tests.{neg, ◌or◌, choose}
use Rattle.lists.specs.Lists.{any, first_from}
use Rattle.lists.proofs.Tests.{or_none}
use Rattle.lists.proofs.Lists.{any_append}
use Rattle.closing.specs.ByIndex.{Marked}

-- one level more
any_more : (levels : List ℕ) (i level : ℕ) → i < length levels
    → any (λ other. eqb other level) (take (i + 1) levels) ≡ any (λ other. eqb other level) (take i levels) or eqb (get_or levels i 0) level
unfolding any
any_more levels i level l =
    ap (λ (k : ℕ). any (λ other. eqb other level) (take k levels)) (add-one i)
    ∙ ap (any (λ other. eqb other level)) (take-suc levels i 0 l)
    ∙ any_append (λ other. eqb other level) (take i levels) (get_or levels i 0 ∷ [])
    ∙ ap (λ (b : Bool). any (λ other. eqb other level) (take i levels) or b) (or_none _)

or_true : (b : Bool) → b or true ≡ true
unfolding ◌or◌
or_true true = refl
or_true false = refl

-- the marking before level i
pub record Marking (levels : List ℕ) (i : ℕ) (marks : List Bool) : Type 0 where
  pub long : length marks ≡ 2048
  pub marked : Marked (take i levels) marks

pub marking_starts : (levels : List ℕ) → Marking levels 0 (replicate 2048 false)
unfolding any
marking_starts levels = record {
  long = length-replicate 2048 false;
  marked = record { told = λ level l. get_or-replicate 2048 level false false (omega (arith, length-replicate 2048 false)) };
}

module _ {levels : List ℕ} {i : ℕ} {marks : List Bool} (so_far : Marking levels i marks) (l : i < length levels) where
  other_level : (level : ℕ) → (get_or levels i 0 ≡ level → ⊥)
      → any (λ other. eqb other level) (take (i + 1) levels) ≡ any (λ other. eqb other level) (take i levels)
  other_level level n =
      any_more levels i level l ∙ ap (λ (b : Bool). any (λ other. eqb other level) (take i levels) or b) (ne_eqb (get_or levels i 0) level n) ∙ or_none _

  pub marking_passes : 2048 ≤ get_or levels i 0 → Marking levels (i + 1) marks
  marking_passes far = record {
    long = so_far.long;
    marked = record { told = λ level h. so_far.marked.told level h ∙ sym (other_level level (λ e. omega (arith, so_far.long))) };
  }

  pub marking_marks : get_or levels i 0 < 2048 → Marking levels (i + 1) (set marks (get_or levels i 0) true)
  marking_marks near = record {
    long = length-set marks (get_or levels i 0) true ∙ so_far.long;
    marked = record { told = λ level h. by level (omega (arith, length-set marks (get_or levels i 0) true)) (ℕ_discrete level (get_or levels i 0)) };
  }
    where
      by : (level : ℕ) → level < length marks → Dec (level ≡ get_or levels i 0)
          → get_or (set marks (get_or levels i 0) true) level false ≡ any (λ other. eqb other level) (take (i + 1) levels)
      by level h (yes e) =
          ap (λ (k : ℕ). get_or (set marks (get_or levels i 0) true) k false) e ∙ get_or-set_same marks (get_or levels i 0) true false (omega (arith, so_far.long))
          ∙ sym (any_more levels i level l
          ∙ ap (λ (b : Bool). any (λ other. eqb other level) (take i levels) or b) (eq-eqb (get_or levels i 0) level (sym e)) ∙ or_true _)
      by level h (no other) =
          get_or-set_other marks (get_or levels i 0) level true false other ∙ so_far.marked.told level h ∙ sym (other_level level (λ e. other (sym e)))

-- tests that agree on the numbers of a search find the same
first_same : (f g : ℕ → Bool) (count start : ℕ) → ((s : ℕ) → start ≤ s → s < start + count → f s ≡ g s) → first_from f count start ≡ first_from g count start
unfolding first_from
first_same f g zero start e = refl
first_same f g (suc count) start e =
    ap₂ (λ (b : Bool) (later : Option ℕ). choose b (some start) later) (e start (omega arith) (omega arith))
    (first_same f g count (suc start) (λ s l h. e s (omega arith) (omega arith)))

-- the lowest level that has no mark is the lowest that is none of these
pub lowest_marked : {levels : List ℕ} {marks : List Bool} → Marked levels marks → (top : ℕ) → top < length marks
    → first_from (λ level. not (get_or marks level false)) top 1 ≡ first_from (λ level. neg (any (λ other. eqb other level) levels)) top 1
unfolding neg
lowest_marked {levels} {marks} marked top l =
    first_same _ _ top 1 (λ s lo hi. not_neg (get_or marks s false) ∙ ap neg (marked.told s (omega arith)))
  where
    not_neg : (b : Bool) → not b ≡ neg b
    not_neg true = refl
    not_neg false = refl
