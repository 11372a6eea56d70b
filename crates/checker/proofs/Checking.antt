-- The checks after the image's: what an edition and a way of the caller's are, and what the checks leave of the rooms. Assumes nothing.
use Prim.Native.Nat.{ℕ, zero, suc, ◌≤◌}
use mathlib.Core.Path.{◌≡◌, refl, sym, ◌∙◌}
use mathlib.Core.Bool.{true, false}
use mathlib.Core.List.{List}
use native.Mathlib.Omega.{arith}
use borrow.Author.Tests.{ne_eqb}
use lib.ListN.{length}
use Rattle.std.specs.Prelude.{Ok, Err}
use Rattle.lists.specs.Tests.{◌or◌, neg}
use Rattle.automata.specs.Refusals.{number_of}
use Rattle.automata.specs.declared.refusal.Refusal.{Refusal}
use Rattle.automata.specs.declared.refusal.Refusal.TheVariants.{ShortImage, StateCount, SymbolCount, RowCount, ImageLength, StateSet, Pair, Row, UnevenRoom, LargeTable, UnknownSymbol, BrokenRecord, ShortRoom, UnknownEdition, UnknownWay}
use Rattle.machine.specs.Lent.{BlockerRoom, WordRoom, EvenRoom, lent_of}
use Rattle.machine.specs.Runs.{unknown_edition, unknown_way, check_terms}
use Rattle.machine.proofs.RunsKept.{rooms_passed}
use Rattle.checker.specs.declared.terms.Way.{Way}
use Rattle.checker.specs.declared.terms.Edition.{Edition}
use Rattle.checker.specs.Calls.{edition_of, way_of}

pub edition_known : {edition : Edition} (number : ℕ) → edition_of number ≡ Ok edition → unknown_edition number ≡ false
unfolding unknown_edition ◌or◌ neg
edition_known zero e = let z : ◌≡◌ {A = ℕ} 0 1 = cc in absurd (omega arith)
edition_known (suc zero) e = refl
edition_known (suc (suc zero)) e = refl
edition_known (suc (suc (suc number))) e = let z : ◌≡◌ {A = ℕ} 0 1 = cc in absurd (omega arith)

pub way_known : {way : Way} (number : ℕ) → way_of number ≡ Ok way → unknown_way number ≡ false
unfolding unknown_way ◌or◌ neg
way_known zero e = refl
way_known (suc zero) e = refl
way_known (suc (suc number)) e = let z : ◌≡◌ {A = ℕ} 0 1 = cc in absurd (omega arith)

module _ {refusal : Refusal} where
  pub edition_unknown : (number : ℕ) → edition_of number ≡ Err refusal → unknown_edition number ≡ true
  unfolding unknown_edition ◌or◌ neg
  edition_unknown zero e = refl
  edition_unknown (suc zero) e = let z : ◌≡◌ {A = ℕ} 0 1 = cc in absurd (omega arith)
  edition_unknown (suc (suc zero)) e = let z : ◌≡◌ {A = ℕ} 0 1 = cc in absurd (omega arith)
  edition_unknown (suc (suc (suc number))) e =
      rw (ne_eqb (suc (suc (suc number))) 1 (λ z. omega (arith, z)), ne_eqb (suc (suc (suc number))) 2 (λ z. omega (arith, z)))

  pub edition_refused : (number : ℕ) → edition_of number ≡ Err refusal → number_of refusal ≡ 36
  edition_refused zero e = cc
  edition_refused (suc zero) e = let z : ◌≡◌ {A = ℕ} 0 1 = cc in absurd (omega arith)
  edition_refused (suc (suc zero)) e = let z : ◌≡◌ {A = ℕ} 0 1 = cc in absurd (omega arith)
  edition_refused (suc (suc (suc number))) e = cc

  pub way_unknown : (number : ℕ) → way_of number ≡ Err refusal → unknown_way number ≡ true
  unfolding unknown_way ◌or◌ neg
  way_unknown zero e = let z : ◌≡◌ {A = ℕ} 0 1 = cc in absurd (omega arith)
  way_unknown (suc zero) e = let z : ◌≡◌ {A = ℕ} 0 1 = cc in absurd (omega arith)
  way_unknown (suc (suc number)) e =
      rw (ne_eqb (suc (suc number)) 0 (λ z. omega (arith, z)), ne_eqb (suc (suc number)) 1 (λ z. omega (arith, z)))

  pub way_refused : (number : ℕ) → way_of number ≡ Err refusal → number_of refusal ≡ 37
  way_refused zero e = let z : ◌≡◌ {A = ℕ} 0 1 = cc in absurd (omega arith)
  way_refused (suc zero) e = let z : ◌≡◌ {A = ℕ} 0 1 = cc in absurd (omega arith)
  way_refused (suc (suc number)) e = cc

-- a refusal's number is none of an answer's
pub refused_from_20 : (refusal : Refusal) → 20 ≤ number_of refusal
refused_from_20 ShortImage = omega arith
refused_from_20 StateCount = omega arith
refused_from_20 SymbolCount = omega arith
refused_from_20 RowCount = omega arith
refused_from_20 ImageLength = omega arith
refused_from_20 StateSet = omega arith
refused_from_20 Pair = omega arith
refused_from_20 Row = omega arith
refused_from_20 UnevenRoom = omega arith
refused_from_20 LargeTable = omega arith
refused_from_20 UnknownSymbol = omega arith
refused_from_20 BrokenRecord = omega arith
refused_from_20 ShortRoom = omega arith
refused_from_20 UnknownEdition = omega arith
refused_from_20 UnknownWay = omega arith

pub some_number : (refusal : Refusal) → number_of refusal ≡ 0 → ⊥
some_number refusal e = omega (arith, e, refused_from_20 refusal)

-- the rooms have passed their checks
pub record Checked (room : BlockerRoom) (word : WordRoom) : Type 0 where
  pub blocker_room : EvenRoom room
  pub word_room : length word.cases ≡ length word.symbols
  pub few_places : length word.cases ≤ 65536

-- none of those of the rooms applies
pub rooms_checked : (room : BlockerRoom) (word : WordRoom) (hints : List ℕ) (edition way number : ℕ)
    → number ≡ check_terms (lent_of room word) hints edition way 0 → number ≡ 0 → Checked room word
rooms_checked room word hints edition way number passed none =
    let c = rooms_passed (lent_of room word) hints edition way (sym passed ∙ none) in
    record { blocker_room = c.even.blockers; word_room = c.even.symbols; few_places = c.few_places }
