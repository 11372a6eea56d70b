-- Two runs agree: where two systems have the same language and each run's verdict is right, the verdicts are the same, and the words found are
-- equally long. Assumes nothing.
use Prim.Native.Nat.{ℕ, ◌≤◌}
use mathlib.Core.Path.{◌≡◌, sym, subst, ◌∙◌}
use mathlib.Core.List.{List, []}
use native.Mathlib.Omega.{arith}
use lib.Dec.{T}
use lib.ListN.{length}
use Rattle.lists.proofs.Lists.{in_none}
use Rattle.machine.specs.System.{System}
use Rattle.machine.specs.Machine.{Configuration, Rooms, Outcome, nonempty, empty, steps_lack, blockers_lack, word_lacks, starts_final}
use Rattle.machine.proofs.Language.{IsVerdict, AnswersStart, Word, accepts, Lawful, NoneAccepted, Shortest, SameLanguage}
use Rattle.machine.proofs.Language.{Agree, both_nonempty, both_empty, both_at_start}
use Rattle.machine.proofs.Steps.{ends_once}
use Rattle.machine.proofs.Verdicts.{closed_none, RightAnswer, starts_final_lem}

-- either of the two may be named first
pub same_language_symmetric : {S S' : System} → SameLanguage S S' → SameLanguage S' S
same_language_symmetric same = record {
  words = λ word. ((same.words word).1, (same.words word).0);
  accepted = λ word w. sym (same.accepted word ((same.words word).1 w));
}

-- what one accepts, the other does
accepted_too : {S S' : System} {word : List ℕ} → SameLanguage S S' → Shortest S word → Word S' word × T (accepts S' word)
accepted_too {word = word} same h = ((same.words word).0 h.symbols, subst T (same.accepted word h.symbols) h.accepted)

-- a shortest word is no longer than one of the same language, so they are equally long
shortest_least : {S S' : System} {word word' : List ℕ} → SameLanguage S S' → Shortest S word → Shortest S' word' → length word ≤ length word'
shortest_least {word' = word'} same h h' = let other = accepted_too (same_language_symmetric same) h' in h.least word' other.0 other.1

shortest_equal : {S S' : System} {word word' : List ℕ} → SameLanguage S S' → Shortest S word → Shortest S' word' → length word ≡ length word'
shortest_equal same h h' = omega (arith, shortest_least same h h', shortest_least (same_language_symmetric same) h' h)

-- where no word is accepted there is no shortest one
none_shortest : {S S' : System} {word : List ℕ} → SameLanguage S S' → Shortest S word → NoneAccepted S' → ⊥
none_shortest {word = word} same h none = let other = accepted_too same h in none word other.0 other.1

-- a run beside one that found the start final found it so too
at_start_too : {S S' : System} {edition : ℕ} {outcome : Outcome} {left : Configuration} → SameLanguage S S' → edition ≡ 2 → T (accepts S' [])
    → AnswersStart S edition outcome left → Agree outcome starts_final
at_start_too same second start a =
    let accepted = subst T (sym (same.accepted [] (λ s m. absurd (in_none m)))) start in
    subst (λ (o : Outcome). Agree o starts_final) (sym (ends_once (a accepted) ∙ starts_final_lem second)) both_at_start

agree_symmetric : {outcome outcome' : Outcome} → Agree outcome outcome' → Agree outcome' outcome
agree_symmetric (both_nonempty e) = both_nonempty (sym e)
agree_symmetric both_empty = both_empty
agree_symmetric both_at_start = both_at_start

module _ {S S' : System} (lawful : Lawful S) (lawful' : Lawful S') (same : SameLanguage S S') (rooms rooms' : Rooms) (edition : ℕ) where
  -- two right verdicts about one language agree, within one edition
  pub right_verdicts_agree : (outcome outcome' : Outcome) (left left' : Configuration) → IsVerdict outcome → IsVerdict outcome' → RightAnswer S rooms edition outcome left
      → RightAnswer S' rooms' edition outcome' left' → AnswersStart S edition outcome left → AnswersStart S' edition outcome' left' → Agree outcome outcome'
  right_verdicts_agree (nonempty word) (nonempty word') left left' v v' r r' a a' = both_nonempty (shortest_equal same r.shortest r'.shortest)
  right_verdicts_agree (nonempty word) empty left left' v v' r r' a a' =
      absurd (none_shortest same r.shortest (closed_none S' lawful' left'.table r'))
  right_verdicts_agree (nonempty word) steps_lack left left' v v' r r' a a' = absurd v'
  right_verdicts_agree (nonempty word) blockers_lack left left' v v' r r' a a' = absurd v'
  right_verdicts_agree (nonempty word) word_lacks left left' v v' r r' a a' = absurd v'
  right_verdicts_agree (nonempty word) starts_final left left' v v' r r' a a' = at_start_too same r'.0 r'.1 a
  right_verdicts_agree empty (nonempty word') left left' v v' r r' a a' =
      absurd (none_shortest (same_language_symmetric same) r'.shortest (closed_none S lawful left.table r))
  right_verdicts_agree empty empty left left' v v' r r' a a' = both_empty
  right_verdicts_agree empty steps_lack left left' v v' r r' a a' = absurd v'
  right_verdicts_agree empty blockers_lack left left' v v' r r' a a' = absurd v'
  right_verdicts_agree empty word_lacks left left' v v' r r' a a' = absurd v'
  right_verdicts_agree empty starts_final left left' v v' r r' a a' = at_start_too same r'.0 r'.1 a
  right_verdicts_agree steps_lack outcome' left left' v v' r r' a a' = absurd v
  right_verdicts_agree blockers_lack outcome' left left' v v' r r' a a' = absurd v
  right_verdicts_agree word_lacks outcome' left left' v v' r r' a a' = absurd v
  right_verdicts_agree starts_final outcome' left left' v v' r r' a a' = agree_symmetric (at_start_too (same_language_symmetric same) r.0 r.1 a')
