-- The laws of backward sets: which states are in one, that it grows with the case and the rows, that only the set of a symbol's rows matters, and what the
-- first rows that bring all states in say of all rows. Assumes nothing.
use Prim.Native.Nat.{ℕ, ◌≤◌, ◌<◌}
use mathlib.Core.Path.{◌≡◌, refl, sym, ap, subst, ◌∙◌}
use mathlib.Core.Bool.{Bool, true, false}
use mathlib.Core.List.{List, [], ◌∷◌}
use mathlib.Core.Logic.{◌⊎◌, inl, inr, ◌↔◌}
use lib.Dec.{T}
use lib.ListN.{length, take}
use lib.Seq.{take-length}
use Rattle.lists.specs.Lists.{◌∈◌, here, there, Each}
use Rattle.lists.proofs.Tests.{holds, fails, choose_true, choose_false}
use Rattle.lists.proofs.Lists.{in_none, in_cases, in_taken, in_more_taken, LeastOr, least_one, or_else_least}
use Rattle.masks.specs.Sets.{Member, subset, union, single, full, within}
use Rattle.masks.proofs.Laws.{
  subset_reflexive,
  subset_transitive,
  subset_antisymmetric,
  members_subset,
  empty_members,
  union_members,
  single_members,
  members_within,
  within_full,
}
use Rattle.automata.specs.Image.{Row}
use Rattle.automata.specs.Automaton.{Automaton, with_row, with_rows, backward, Leads, HasRow, bring_all_in, rows_walked, taken_back, SameAutomaton}

with_row_yes : (X set : ℕ) (row : Row) → subset row.case X ≡ true → with_row X set row ≡ union set (single row.state)
unfolding with_row
with_row_yes X set row e = choose_true _ _ e

with_row_no : (X set : ℕ) (row : Row) → subset row.case X ≡ false → with_row X set row ≡ set
unfolding with_row
with_row_no X set row e = choose_false _ _ e

with_row_members : (X set : ℕ) (row : Row) (q : ℕ) → Member q (with_row X set row) ↔ (Member q set ⊎ Leads row q X)
with_row_members X set row q = at (subset row.case X) refl
  where
    at : (b : Bool) → subset row.case X ≡ b → Member q (with_row X set row) ↔ (Member q set ⊎ Leads row q X)
    at true e = (
      λ h. pick ((union_members set (single row.state) q).0 (subst (Member q) (with_row_yes X set row e) h)),
      λ h. subst (Member q) (sym (with_row_yes X set row e)) ((union_members set (single row.state) q).1 (forget h)),
    )
      where
        pick : Member q set ⊎ Member q (single row.state) → Member q set ⊎ Leads row q X
        pick (inl i) = inl i
        pick (inr i) = inr (record { state = sym ((single_members row.state q).0 i); inside = holds e })

        forget : Member q set ⊎ Leads row q X → Member q set ⊎ Member q (single row.state)
        forget (inl i) = inl i
        forget (inr l) = inr ((single_members row.state q).1 (sym l.state))
    at false e = (λ h. inl (subst (Member q) (with_row_no X set row e) h), λ h. subst (Member q) (sym (with_row_no X set row e)) (old h))
      where
        old : Member q set ⊎ Leads row q X → Member q set
        old (inl i) = i
        old (inr l) = absurd (fails e l.inside)

with_rows_members : (X set : ℕ) (rows : List Row) (q : ℕ) → Member q (with_rows X set rows) ↔ (Member q set ⊎ HasRow rows q X)
unfolding with_rows
with_rows_members X set [] q = (λ h. inl h, from)
  where
    from : Member q set ⊎ HasRow [] q X → Member q set
    from (inl i) = i
    from (inr h) = absurd (in_none h.listed)
with_rows_members X set (row ∷ rows) q = (
  λ h. to ((with_rows_members X (with_row X set row) rows q).0 h),
  λ h. (with_rows_members X (with_row X set row) rows q).1 (from h),
)
  where
    first : Member q set ⊎ Leads row q X → Member q set ⊎ HasRow (row ∷ rows) q X
    first (inl i) = inl i
    first (inr l) = inr (record { row = row; listed = here refl; leads = l })

    to : Member q (with_row X set row) ⊎ HasRow rows q X → Member q set ⊎ HasRow (row ∷ rows) q X
    to (inl i) = first ((with_row_members X set row q).0 i)
    to (inr h) = inr (record { row = h.row; listed = there h.listed; leads = h.leads })

    place : (r : Row) → Leads r q X → (r ≡ row) ⊎ r ∈ rows → Member q (with_row X set row) ⊎ HasRow rows q X
    place r l (inl e) = inl ((with_row_members X set row q).1 (inr (subst (λ (x : Row). Leads x q X) e l)))
    place r l (inr m) = inr (record { row = r; listed = m; leads = l })

    from : Member q set ⊎ HasRow (row ∷ rows) q X → Member q (with_row X set row) ⊎ HasRow rows q X
    from (inl i) = inl ((with_row_members X set row q).1 (inl i))
    from (inr h) = place h.row h.leads (in_cases h.listed)

-- a state is in the backward set exactly if some row of that state has a case inside X
pub backward_members : (rows : List Row) (X q : ℕ) → Member q (backward rows X) ↔ HasRow rows q X
unfolding backward
backward_members rows X q = (λ h. to ((with_rows_members X 0 rows q).0 h), λ h. (with_rows_members X 0 rows q).1 (inr h))
  where
    to : Member q 0 ⊎ HasRow rows q X → HasRow rows q X
    to (inl i) = absurd (empty_members q i)
    to (inr h) = h

-- more rows and a larger case: a larger backward set
backward_grows : (rows others : List Row) (X Y : ℕ) → Each (λ row. row ∈ others) rows → T (subset X Y) → T (subset (backward rows X) (backward others Y))
backward_grows rows others X Y f h =
    members_subset (backward rows X) (backward others Y) (λ q i. (backward_members others Y q).1 (more q ((backward_members rows X q).0 i)))
  where
    more : (q : ℕ) → HasRow rows q X → HasRow others q Y
    more q r =
        record {
          row = r.row;
          listed = f r.row r.listed;
          leads = record { state = r.leads.state; inside = subset_transitive r.row.case X Y r.leads.inside h };
        }

pub backward_monotone : (rows : List Row) (X Y : ℕ) → T (subset X Y) → T (subset (backward rows X) (backward rows Y))
backward_monotone rows X Y h = backward_grows rows rows X Y (λ row m. m) h

-- the same rows, in any order and however often each stands: the same backward set
pub backward_same : (rows others : List Row) (X : ℕ) → ((row : Row) → row ∈ rows ↔ row ∈ others) → backward rows X ≡ backward others X
backward_same rows others X f =
    subset_antisymmetric (backward rows X) (backward others X) (backward_grows rows others X X (λ row. (f row).0) (subset_reflexive X))
    (backward_grows others rows X X (λ row. (f row).1) (subset_reflexive X))

-- more first rows, a larger backward set
first_rows_grow : (rows : List Row) (X i j : ℕ) → i ≤ j → T (subset (backward (take i rows) X) (backward (take j rows) X))
first_rows_grow rows X i j l = backward_grows (take i rows) (take j rows) X X (λ row. in_more_taken i j rows l) (subset_reflexive X)

-- a backward set has only states of rows
pub backward_within : (n : ℕ) (rows : List Row) (X : ℕ) → Each (λ row. row.state < n) rows → T (within n (backward rows X))
backward_within n rows X f = members_within n (backward rows X) (λ q i. below q ((backward_members rows X q).0 i))
  where
    below : (q : ℕ) → HasRow rows q X → q < n
    below q r = subst (λ (x : ℕ). x < n) r.leads.state (f r.row r.listed)

-- one automaton, one result of taking back
pub taken_back_same : (A B : Automaton) → SameAutomaton A B → (word : List ℕ) → Each (λ s. s < A.symbols) word → (X : ℕ)
    → taken_back A word X ≡ taken_back B word X
unfolding taken_back
taken_back_same A B same [] symbols X = refl
taken_back_same A B same (s ∷ word) symbols X =
    backward_same (A.rows s) (B.rows s) (taken_back A word X) (same.rows s (symbols s (here refl)))
    ∙ ap (backward (B.rows s)) (taken_back_same A B same word (λ t m. symbols t (there m)) X)

module _ (n : ℕ) (rows : List Row) (X : ℕ) where
  -- fewer first rows do not bring all states in where more do not
  pub not_in_before : {i j : ℕ} → i ≤ j → (T (bring_all_in n rows X j) → ⊥) → T (bring_all_in n rows X i) → ⊥
  unfolding bring_all_in
  not_in_before {i} {j} l f t = f (subset_transitive (full n) (backward (take i rows) X) (backward (take j rows) X) t (first_rows_grow rows X i j l))

  -- the number walked is the least that brings all states in, or that of all rows, and no other is
  pub walked_least : LeastOr (bring_all_in n rows X) (length rows) (rows_walked n rows X)
  unfolding rows_walked
  walked_least = or_else_least (bring_all_in n rows X) (length rows)

  pub walked_is : (count : ℕ) → LeastOr (bring_all_in n rows X) (length rows) count → count ≡ rows_walked n rows X
  walked_is count least = least_one (bring_all_in n rows X) (length rows) count _ least walked_least

  module _ (states : Each (λ row. row.state < n) rows) where
    first_within : (count : ℕ) → T (subset (backward (take count rows) X) (full n))
    first_within count = within_full n _ (backward_within n (take count rows) X (λ row m. states row (in_taken count rows m)))

    -- first rows bring all states in exactly if their backward set is the set of all states
    pub all_in_full : (count : ℕ) → T (bring_all_in n rows X count) ↔ (backward (take count rows) X ≡ full n)
    unfolding bring_all_in
    all_in_full count = (
      λ t. subset_antisymmetric (backward (take count rows) X) (full n) (first_within count) t,
      λ e. rw e (subset_reflexive (full n)),
    )

    -- and then all rows have the same backward set
    pub all_in_stays : (count : ℕ) → T (bring_all_in n rows X count) → backward (take count rows) X ≡ backward rows X
    unfolding bring_all_in
    all_in_stays count t =
        subset_antisymmetric (backward (take count rows) X) (backward rows X)
        (backward_grows (take count rows) rows X X (λ row. in_taken count rows) (subset_reflexive X))
        (subset_transitive (backward rows X) (full n) (backward (take count rows) X) (within_full n _ (backward_within n rows X states)) t)

    -- the rows walked have the backward set of all rows
    pub walked_same : backward (take (rows_walked n rows X) rows) X ≡ backward rows X
    walked_same = at walked_least.holds_or
      where
        at : T (bring_all_in n rows X (rows_walked n rows X)) ⊎ (rows_walked n rows X ≡ length rows)
            → backward (take (rows_walked n rows X) rows) X ≡ backward rows X
        at (inl t) = all_in_stays (rows_walked n rows X) t
        at (inr e) = ap (λ (some : List Row). backward some X) (ap (λ (count : ℕ). take count rows) e ∙ take-length rows)
