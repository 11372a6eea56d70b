-- The run of a word as 02's request 1 has it: the row that each state picks, the case that the picked rows reach, and the word's events with the cases
-- reached; and what makes it a run by the definition. Assumes nothing: these are definitions.
use Rattle.std.specs.Prelude.{ℕ, zero, suc, ◌≡◌, Bool, List, [], ◌∷◌, T, eqb}
use Rattle.std.proofs.Math.Option.{Option, none, some}
use Rattle.lists.specs.Tests.{◌and◌, choose}
use Rattle.lists.specs.Lists.{first_of, IsFirst}
use Rattle.masks.specs.Sets.{Member, member, subset, union}
use Rattle.automata.specs.Image.{Row}
use Rattle.automata.specs.Automaton.{Automaton, taken_back}
use Rattle.automata.specs.Acceptance.{Run, stays, steps}

-- the row is one of state q, and its case lies inside the set
unfoldable pub fits : ℕ → ℕ → Row → Bool
fits set q row = eqb row.state q and subset row.case set

-- "each state picks the first row in image order whose case lies inside the backward set of what remains of the word": of a symbol's rows, inside a set
unfoldable pub picks : List Row → ℕ → ℕ → Option Row
picks rows set q = first_of (fits set q) rows

-- the case of the row that was picked; no row has no states
unfoldable pub picked_case : Option Row → ℕ
picked_case none = 0
picked_case (some row) = row.case

-- what state q adds to the case that X reaches
unfoldable pub adds : List Row → ℕ → ℕ → ℕ → ℕ
adds rows set X q = choose (member q X) (picked_case (picks rows set q)) 0

-- the union of the sets that f gives to the numbers below n
unfoldable pub union_below : ℕ → (ℕ → ℕ) → ℕ
union_below zero f = 0
union_below (suc n) f = union (union_below n f) (f n)

-- the case that X reaches, of n states: "the union of the picked cases"
unfoldable pub reached : ℕ → List Row → ℕ → ℕ → ℕ
reached n rows set X = union_below n (adds rows set X)

-- an event of a run: "the symbol and the case reached"
pub record Event : Type 0 where
  pub symbol : ℕ
  pub case : ℕ

-- the events of a word from X on, into Z: "the backward set of what remains of the word" behind a symbol is Z taken back by it
unfoldable pub events_over : Automaton → ℕ → ℕ → List ℕ → List Event
events_over A Z X [] = []
events_over A Z X (s ∷ word) =
    let Y = reached A.states (A.rows s) (taken_back A word Z) X in
    record { symbol = s; case = Y } ∷ events_over A Z Y word

-- "one accepting run: from I", into F
unfoldable pub events_of : Automaton → List ℕ → List Event
events_of A word = events_over A A.final A.initial word

-- the events of a run by the definition of acceptance
unfoldable pub events_along : {A : Automaton} {word : List ℕ} {X Y : ℕ} → Run A word X Y → List Event
events_along stays = []
events_along (steps {s} {word} {X} {Y} step run) = record { symbol = s; case = Y } ∷ events_along run

-- "Show that the lines form a run by the definition and end in a final case": the events are those of a run from X that ends inside Z
pub record FormRun (A : Automaton) (Z X : ℕ) (word : List ℕ) (events : List Event) : Type 0 where
  pub end : ℕ
  pub run : Run A word X end
  pub shows : events_along run ≡ events
  pub inside : T (subset end Z)

-- state q has a row to pick, the first that fits
pub record HasPick (rows : List Row) (set q : ℕ) : Type 0 where
  pub row : Row
  pub picked : picks rows set q ≡ some row
  pub first : IsFirst (fits set q) rows row

-- and so has each state of each case of the run
unfoldable pub AllPick : Automaton → ℕ → ℕ → List ℕ → Type 0
AllPick A Z X [] = Unit {0}
AllPick A Z X (s ∷ word) =
    ((q : ℕ) → Member q X → HasPick (A.rows s) (taken_back A word Z) q)
    × AllPick A Z (reached A.states (A.rows s) (taken_back A word Z) X) word
