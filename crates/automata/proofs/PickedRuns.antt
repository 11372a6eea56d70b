-- The picked run: a state of the backward set of Z has a row to pick, what a case so reaches lies inside Z, and the events of a word so picked are those of
-- a run by the definition, with symbols and cases of the automaton. Assumes nothing.
use Prim.Native.Nat.{ℕ, zero, suc, ◌<◌}
use mathlib.Core.Path.{◌≡◌, refl, sym, ap, subst, ◌∙◌}
use mathlib.Core.Bool.{Bool, true, false}
use mathlib.Core.List.{List, [], ◌∷◌}
use mathlib.Core.Logic.{◌⊎◌, inl, inr, ◌↔◌}
use mathlib.Core.Option.{Option, none, some}
use native.Mathlib.Decide.{ℕ_discrete}
use native.Mathlib.Omega.{arith}
use lib.Dec.{T, eqb, eqb→eq, eqb_refl}
use Rattle.lists.specs.Tests.{choose}
use Rattle.lists.specs.Lists.{◌∈◌, here, there, Each, first_of}
use Rattle.lists.proofs.Tests.{is_true, and_left, and_right, and_both, choose_true}
use Rattle.lists.proofs.Lists.{in_none, each_more, first_of_none, first_of_some, first_in}
use Rattle.masks.specs.Sets.{Member, member, subset, within}
use Rattle.masks.proofs.Laws.{member_means, subset_members, members_subset, empty_members, union_members, within_members, members_within}
use Rattle.automata.specs.Image.{Row}
use Rattle.automata.specs.Automaton.{Automaton, backward, Leads, HasRow, taken_back}
use Rattle.automata.specs.Acceptance.{Reaches, Steps, stays, steps}
use Rattle.automata.specs.Picks.{
  fits,
  picks,
  picked_case,
  adds,
  union_below,
  reached,
  Event,
  events_over,
  events_along,
  FormRun,
  HasPick,
  AllPick,
}
use Rattle.automata.proofs.BackwardSets.{backward_members}
use Rattle.automata.proofs.ValidImage.{Proper}

-- the row fits exactly if it is one of q's and its case lies inside the set
pub fits_means : (set q : ℕ) (row : Row) → T (fits set q row) ↔ Leads row q set
unfolding fits
fits_means set q row = (
  λ t. record { state = eqb→eq _ _ (and_left _ _ t); inside = and_right _ _ t },
  λ l. and_both _ _ (subst (λ (x : ℕ). T (eqb x q)) (sym l.state) (eqb_refl q)) l.inside,
)

-- a state that has such a row picks one, and the picked row is such a row
picks_one : (rows : List Row) (set q : ℕ) → HasRow rows q set → HasPick rows set q
unfolding picks
picks_one rows set q h = at (first_of (fits set q) rows) refl
  where
    at : (found : Option Row) → first_of (fits set q) rows ≡ found → HasPick rows set q
    at none e = absurd (first_of_none (fits set q) rows e h.row h.listed ((fits_means set q h.row).1 h.leads))
    at (some row) e = record { row = row; picked = e; first = first_of_some (fits set q) rows e }

pub picked_row : (rows : List Row) (set q : ℕ) (row : Row) → picks rows set q ≡ some row → (row ∈ rows) × Leads row q set
unfolding picks
picked_row rows set q row e =
    let first = first_of_some (fits set q) rows e in
    (first_in first, (fits_means set q row).0 first.passes)

pub same_row : {found : Option Row} {row other : Row} → found ≡ some row → found ≡ some other → row ≡ other
same_row {found} {row} {other} a b = let e : some row ≡ some other = sym a ∙ b in cc

-- the states of a union of sets
record InOne (n : ℕ) (f : ℕ → ℕ) (p : ℕ) : Type 0 where
  from : ℕ
  below : from < n
  inside : Member p (f from)

union_below_members : (n : ℕ) (f : ℕ → ℕ) (p : ℕ) → Member p (union_below n f) ↔ InOne n f p
unfolding union_below
union_below_members zero f p = (λ h. absurd (empty_members p h), λ h. absurd (omega (arith, h.below)))
union_below_members (suc n) f p = (
  λ h. to (union_below_members n f p) ((union_members (union_below n f) (f n) p).0 h),
  λ h. (union_members (union_below n f) (f n) p).1 (from (union_below_members n f p) h (ℕ_discrete h.from n)),
)
  where
    to : (Member p (union_below n f) ↔ InOne n f p) → Member p (union_below n f) ⊎ Member p (f n) → InOne (suc n) f p
    to lower (inl h) = let r = lower.0 h in record { from = r.from; below = omega (arith, r.below); inside = r.inside }
    to lower (inr h) = record { from = n; below = omega arith; inside = h }

    from : (Member p (union_below n f) ↔ InOne n f p) → (h : InOne (suc n) f p) → Dec (h.from ≡ n)
        → Member p (union_below n f) ⊎ Member p (f n)
    from lower h (yes e) = inr (subst (λ (q : ℕ). Member p (f q)) e h.inside)
    from lower h (no e) = inl (lower.1 (record { from = h.from; below = omega (arith, h.below); inside = h.inside }))

-- state q picks a row with p in its case
pub record PicksTo (rows : List Row) (set p q : ℕ) : Type 0 where
  pub row : Row
  pub picked : picks rows set q ≡ some row
  pub to : Member p row.case

-- where other rows give q the same pick, so does it there
pub picks_same : {rows others : List Row} {set p q : ℕ} → picks others set q ≡ picks rows set q → PicksTo rows set p q → PicksTo others set p q
picks_same e r = record { row = r.row; picked = e ∙ r.picked; to = r.to }

adds_members : (rows : List Row) (set X q p : ℕ) → Member p (adds rows set X q) ↔ (Member q X × PicksTo rows set p q)
unfolding adds picked_case choose
adds_members rows set X q p = (
  λ h. at (member q X) (λ t. (member_means q X).0 t) (picks rows set q) refl h,
  λ h. subst (Member p) (sym (choose_true (picked_case (picks rows set q)) 0 (is_true (member q X) ((member_means q X).1 h.0)) ∙ ap picked_case h.1.picked)) h.1.to,
)
  where
    at : (b : Bool) → (T b → Member q X) → (found : Option Row) → picks rows set q ≡ found → Member p (choose b (picked_case found) 0)
        → Member q X × PicksTo rows set p q
    at true f none e k = absurd (empty_members p k)
    at true f (some row) e k = (f tt, record { row = row; picked = e; to = k })
    at false f found e k = absurd (empty_members p k)

-- a state of X below n picks a row with p in its case: so p is in the case reached
pub record ReachedFrom (n : ℕ) (rows : List Row) (set X p : ℕ) : Type 0 where
  pub from : ℕ
  pub below : from < n
  pub inside : Member from X
  pub picks : PicksTo rows set p from

pub reached_members : (n : ℕ) (rows : List Row) (set X p : ℕ) → Member p (reached n rows set X) ↔ ReachedFrom n rows set X p
unfolding reached
reached_members n rows set X p = (
  λ h.
      let r = (union_below_members n (adds rows set X) p).0 h in
      let a = (adds_members rows set X r.from p).0 r.inside in
      record { from = r.from; below = r.below; inside = a.0; picks = a.1 },
  λ h.
      (union_below_members n (adds rows set X) p).1
      (record { from = h.from; below = h.below; inside = (adds_members rows set X h.from p).1 (h.inside, h.picks) }),
)

module _ (A : Automaton) (proper : Proper A) where
  -- a step from a case that is inside the backward set of Z, into a subset of Z
  module _ (s X Z : ℕ) (symbol : s < A.symbols) (small : T (within A.states X)) (inside : T (subset X (backward (A.rows s) Z))) where
    abbrev next : ℕ
    next = reached A.states (A.rows s) Z X

    all_pick : (q : ℕ) → Member q X → HasPick (A.rows s) Z q
    all_pick q i = picks_one (A.rows s) Z q ((backward_members (A.rows s) Z q).0 (subset_members X (backward (A.rows s) Z) inside q i))

    leading : (q : ℕ) (i : Member q X) → ((all_pick q i).row ∈ A.rows s) × Leads (all_pick q i).row q Z
    leading q i = picked_row (A.rows s) Z q (all_pick q i).row (all_pick q i).picked

    next_members : (p : ℕ) → Member p next ↔ Reaches X (λ q i. (all_pick q i).row) p
    next_members p = (
      λ h.
          let r = (reached_members A.states (A.rows s) Z X p).0 h in
          let same : r.picks.row ≡ (all_pick r.from r.inside).row = same_row r.picks.picked (all_pick r.from r.inside).picked in
          record { from = r.from; inside = r.inside; to = subst (λ (row : Row). Member p row.case) same r.picks.to },
      λ h.
          let pick = all_pick h.from h.inside in
          (reached_members A.states (A.rows s) Z X p).1
          (record {
            from = h.from;
            below = within_members A.states X small h.from h.inside;
            inside = h.inside;
            picks = record { row = pick.row; picked = pick.picked; to = h.to };
          }),
    )

    step_to : Steps A s X next
    step_to =
        record {
          symbol = symbol;
          picked = λ q i. (all_pick q i).row;
          of_symbol = λ q i. (leading q i).0;
          of_state = λ q i. (leading q i).1.state;
          union = next_members;
        }

    next_inside : T (subset next Z)
    next_inside =
        members_subset next Z
        (λ p h.
        let r = (next_members p).0 h in
        subset_members (all_pick r.from r.inside).row.case Z (leading r.from r.inside).1.inside p r.to)

    next_within : T (within A.states next)
    next_within =
        members_within A.states next
        (λ p h.
        let r = (next_members p).0 h in
        within_members A.states (all_pick r.from r.inside).row.case
        (proper.row_case s symbol (all_pick r.from r.inside).row (leading r.from r.inside).0) p r.to)

  -- from a case that is inside Z taken back by the word, the events form a run that ends inside Z, and each state has a row to pick
  module _ (Z : ℕ) where
    pub picked_run : (word : List ℕ) → Each (λ s. s < A.symbols) word → (X : ℕ) → T (within A.states X) → T (subset X (taken_back A word Z))
        → FormRun A Z X word (events_over A Z X word)
    unfolding taken_back events_over events_along
    picked_run [] symbols X small inside = record { end = X; run = stays; shows = refl; inside = inside }
    picked_run (s ∷ word) symbols X small inside =
        let B = taken_back A word Z in
        let known : s < A.symbols = symbols s (here refl) in
        let rest = picked_run word (λ t m. symbols t (there m)) (next s X B known small inside) (next_within s X B known small inside) (next_inside s X B known small inside) in
        record {
          end = rest.end;
          run = steps (step_to s X B known small inside) rest.run;
          shows = ap (λ (events : List Event). record { symbol = s; case = reached A.states (A.rows s) B X } ∷ events) rest.shows;
          inside = rest.inside;
        }

    pub all_picked : (word : List ℕ) → Each (λ s. s < A.symbols) word → (X : ℕ) → T (within A.states X) → T (subset X (taken_back A word Z))
        → AllPick A Z X word
    unfolding taken_back AllPick
    all_picked [] symbols X small inside = tt
    all_picked (s ∷ word) symbols X small inside =
        let B = taken_back A word Z in
        let known : s < A.symbols = symbols s (here refl) in (
          all_pick s X B known small inside,
          all_picked word (λ t m. symbols t (there m)) (next s X B known small inside) (next_within s X B known small inside) (next_inside s X B known small inside),
        )

    -- each event has a symbol of the automaton and a case of its states
    pub events_known : (word : List ℕ) → Each (λ s. s < A.symbols) word → (X : ℕ) → T (within A.states X) → T (subset X (taken_back A word Z))
        → Each (λ event. (event.symbol < A.symbols) × T (within A.states event.case)) (events_over A Z X word)
    unfolding taken_back events_over
    events_known [] symbols X small inside = λ event m. absurd (in_none m)
    events_known (s ∷ word) symbols X small inside =
        let B = taken_back A word Z in
        let known : s < A.symbols = symbols s (here refl) in
        each_more (known, next_within s X B known small inside)
        (events_known word (λ t m. symbols t (there m)) (next s X B known small inside) (next_within s X B known small inside) (next_inside s X B known small inside))
