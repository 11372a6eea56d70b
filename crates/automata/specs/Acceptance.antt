-- Acceptance by runs: the definition of Chandra, Kozen and Stockmeyer, as 01's section "The automaton" says it. Assumes nothing.
use Rattle.std.specs.Prelude.{ℕ, ◌<◌, ◌≡◌, List, [], ◌∷◌, ◌↔◌, T}
use Rattle.lists.specs.Lists.{◌∈◌}
use Rattle.masks.specs.Sets.{Member, subset, within}
use Rattle.automata.specs.Image.{Row}
use Rattle.automata.specs.Automaton.{Automaton}

-- a state of X whose picked row has state p in its case
pub record Reaches (X : ℕ) (picked : (q : ℕ) → Member q X → Row) (p : ℕ) : Type 0 where
  pub from : ℕ
  pub inside : Member from X
  pub to : Member p (picked from inside).case

-- "A case steps by a symbol to another if each of its states picks one row of that state and symbol and the union of the picked cases is the second
-- case." (So "the empty case steps to itself by every symbol".)
pub record Steps (A : Automaton) (s X Y : ℕ) : Type 0 where
  pub symbol : s < A.symbols
  pub picked : (q : ℕ) → Member q X → Row
  pub of_symbol : (q : ℕ) (inside : Member q X) → picked q inside ∈ A.rows s
  pub of_state : (q : ℕ) (inside : Member q X) → (picked q inside).state ≡ q
  pub union : (p : ℕ) → Member p Y ↔ Reaches X picked p

-- a run over a word from one case to another
pub data Run (A : Automaton) : List ℕ → ℕ → ℕ → Type 0 where
  stays : {X : ℕ} → Run A [] X X
  steps : {s : ℕ} {word : List ℕ} {X Y Z : ℕ} → Steps A s X Y → Run A word Y Z → Run A (s ∷ word) X Z

-- "A word is accepted if some run over it starts in a case that contains I and ends in a final case"; "a case is final if it is a subset of F"
pub record Accepted (A : Automaton) (word : List ℕ) : Type 0 where
  pub start : ℕ
  pub is_case : T (within A.states start)
  pub contains_initial : T (subset A.initial start)
  pub end : ℕ
  pub run : Run A word start end
  pub final : T (subset end A.final)
