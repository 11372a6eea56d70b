-- What the laws of runs speak of: the words that a system accepts, a lawful system, sound growth, right and timely answers, and two runs that agree.
-- Assumes nothing: these are definitions.
use Prim.Native.Nat.{ℕ, ◌≤◌, ◌<◌}
use mathlib.Core.Path.{◌≡◌}
use mathlib.Core.Bool.{Bool}
use mathlib.Core.List.{List, [], ◌∷◌}
use mathlib.Core.Logic.{◌↔◌}
use lib.Dec.{T}
use lib.ListN.{length}
use Rattle.lists.specs.Lists.{Each, any}
use Rattle.masks.specs.Sets.{subset, within}
use Rattle.machine.specs.System.{System}
use Rattle.machine.specs.Machine.{Blocker, Configuration, Growth, passes, beginning, start_answer, ends}
use Rattle.machine.specs.Machine.{Outcome, nonempty, empty, steps_lack, blockers_lack, word_lacks, starts_final}

-- the case taken back by the word's symbols from last to first
unfoldable pub taken_back : System → List ℕ → ℕ → ℕ
taken_back S [] X = X
taken_back S (s ∷ word) X = S.backward s (taken_back S word X)

-- every symbol of the word is one of the k
abbrev pub Word : System → List ℕ → Type 0
Word S word = Each (λ s. s < S.symbols) word

-- some final case, taken back by the word, contains I
unfoldable pub accepts : System → List ℕ → Bool
accepts S word = any (λ F. subset S.initial (taken_back S word F)) S.finals

-- what the laws ask of a system
pub record Lawful (S : System) : Type 0 where
  pub initial_within : T (within S.states S.initial)
  pub finals_within : Each (λ F. T (within S.states F)) S.finals
  pub backward_within : (s X : ℕ) → s < S.symbols → T (within S.states (S.backward s X))
  pub backward_monotone : (s X Y : ℕ) → T (subset X Y) → T (subset (S.backward s X) (S.backward s Y))

-- a way to grow is sound if what it makes of a case that passes the block test passes it too
abbrev pub Sound : System → Growth → Type 0
Sound S grow =
    (table : List Blocker) (below X : ℕ) → T (passes S table below X X) → T (passes S table below X (grow table below X))

-- no word is accepted
abbrev pub NoneAccepted : System → Type 0
NoneAccepted S = (word : List ℕ) → Word S word → T (accepts S word) → ⊥

-- no accepted word has fewer symbols
abbrev pub NoneShorter : System → ℕ → Type 0
NoneShorter S N = (word : List ℕ) → Word S word → T (accepts S word) → N ≤ length word

-- the word is accepted, and no accepted word has fewer symbols
pub record Shortest (S : System) (word : List ℕ) : Type 0 where
  pub symbols : Word S word
  pub accepted : T (accepts S word)
  pub least : NoneShorter S (length word)

-- the outcome is a verdict
abbrev pub IsVerdict : Outcome → Type 0
IsVerdict (nonempty word) = Unit {0}
IsVerdict empty = Unit {0}
IsVerdict steps_lack = ⊥
IsVerdict blockers_lack = ⊥
IsVerdict word_lacks = ⊥
IsVerdict starts_final = Unit {0}

-- the run ended with a verdict, after at most `most` steps
pub record Decided (most : ℕ) (outcome : Outcome) (left : Configuration) : Type 0 where
  pub verdict : IsVerdict outcome
  pub in_time : left.steps ≤ most

-- a start that is final was answered as such, in its edition, and nothing was done
abbrev pub AnswersStart : System → ℕ → Outcome → Configuration → Type 0
AnswersStart S edition outcome left = T (accepts S []) → ends outcome left ≡ ends (start_answer edition) beginning

-- the same words, of which the same are accepted
pub record SameLanguage (S S' : System) : Type 0 where
  pub words : (word : List ℕ) → Word S word ↔ Word S' word
  pub accepted : (word : List ℕ) → Word S word → accepts S word ≡ accepts S' word

-- both found words, equally long, or both found that there is none, or that the start is final
pub data Agree : Outcome → Outcome → Type 0 where
  both_nonempty : {word word' : List ℕ} → length word ≡ length word' → Agree (nonempty word) (nonempty word')
  both_empty : Agree empty empty
  both_at_start : Agree starts_final starts_final
