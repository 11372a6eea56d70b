-- The backward sets of a set with one state more: the state at which a row fires, the walk along the rows that fire at the state, and that no others count.
-- Assumes nothing.
use Prim.Native.Nat.{ℕ, suc, ◌-◌, ◌^◌, ◌≤◌, ◌<◌}
use mathlib.Core.Path.{◌≡◌, refl, sym, ap, subst, ◌∙◌}
use mathlib.Core.Bool.{Bool, true, false}
use mathlib.Core.List.{List}
use mathlib.Core.Logic.{◌⊎◌, inl, inr}
use native.Mathlib.Decide.{ℕ_discrete, dec_le}
use native.Mathlib.Nat.{pow-suc}
use native.Mathlib.Omega.{arith}
use lib.Count.{count_leading_zeros, leading_unique}
use lib.Dec.{T}
use lib.ListN.{length, get_or, set, length-set}
use lib.Seq.{get_or-set_same, get_or-set_other}
use Rattle.lists.specs.Tests.{choose}
use Rattle.lists.specs.Lists.{◌∈◌}
use Rattle.lists.proofs.Tests.{holds, is_true, decide, choose_true, choose_false}
use Rattle.std.proofs.Common.{Option, Some, None}
use Rattle.chains.specs.Chained.{told_number, Chained}
use Rattle.chains.proofs.Chains.{behind, behind_some, behind_none, first_told, none_behind, next_nearer, next_told, none_between}
use Rattle.masks.specs.declared.State.{State}
use Rattle.masks.specs.Sets.{Member, member, subset, union, without, single}
use Rattle.masks.proofs.Laws.{
  member_means,
  subset_members,
  members_subset,
  subset_antisymmetric,
  union_members,
  single_members,
  without_members,
  members_within,
  within_members,
  within_below,
  below_within,
}
use Rattle.automata.specs.Image.{Row, Valid, symbols_of, row_count_of, row_at, rows_of}
use Rattle.automata.specs.Automaton.{with_row, backward, HasRow}
use Rattle.automata.specs.Walk.{row_of, RowsStand}
use Rattle.automata.specs.declared.rows.Row as Read
use Rattle.automata.proofs.BackwardSets.{backward_members, backward_monotone}
use Rattle.automata.proofs.ValidImage.{valid_kept}
use Rattle.firing.specs.Linked.{place_of, Belongs, firing, chain_of, fires_at}
use Rattle.firing.specs.Sets.{SetsOf, Trying}
use Rattle.firing.proofs.Rows.{Numbered, numbered, belongs_in, belongs_stands, one_symbol}

-- the set with state q
pub in_more : (Y q p : ℕ) → Member p (union Y (single q)) → Member p Y ⊎ (p ≡ q)
in_more Y q p m = from ((union_members Y (single q) p).0 m)
  where
    from : Member p Y ⊎ Member p (single q) → Member p Y ⊎ (p ≡ q)
    from (inl i) = inl i
    from (inr i) = inr ((single_members q p).0 i)

pub more_holds : (Y q : ℕ) → T (subset Y (union Y (single q)))
more_holds Y q = members_subset Y (union Y (single q)) (λ p m. (union_members Y (single q) p).1 (inl m))

-- a case that comes to be inside the set by state q fires there
module _ {image : List ℕ} {q Y : ℕ} {lasts links symbols : List ℕ} (trying : Trying image q Y lasts links symbols) where
  abbrev X : ℕ
  X = trying.X

  abbrev more : ℕ
  more = union Y (single q)

  pub fire_known : q < 64
  fire_known = omega (arith, trying.known, (valid_kept image trying.linked.valid).states_fit)

  module _ (case : ℕ) (inside : T (subset case more)) (not_before : T (subset case Y) → ⊥) where
    has : Member q case
    has = at (decide (member q case))
      where
        old : (T (member q case) → ⊥) → (p : ℕ) → Member p case → Member p Y
        old lacks p m = from (in_more Y q p (subset_members case more inside p m))
          where
            from : Member p Y ⊎ (p ≡ q) → Member p Y
            from (inl i) = i
            from (inr e) = absurd (lacks ((member_means q case).1 (subst (λ (x : ℕ). Member x case) e m)))

        at : T (member q case) ⊎ (T (member q case) → ⊥) → Member q case
        at (inl t) = (member_means q case).0 t
        at (inr lacks) = absurd (not_before (members_subset case Y (old lacks)))

    lacking : ℕ
    lacking = without case X

    lacks_q : Member q lacking
    unfolding lacking
    lacks_q = (without_members case X q).1 (has, trying.new)

    lacks_none_above : (p : ℕ) → Member p lacking → p < suc q
    unfolding lacking
    lacks_none_above p m = from (in_more Y q p (subset_members case more inside p two.0))
      where
        two : Member p case × (Member p X → ⊥)
        two = (without_members case X p).0 m

        low : Member p Y → Dec (q ≤ p) → p < suc q
        low i (yes h) = absurd (two.1 (trying.below.above p h i))
        low i (no h) = omega arith

        from : Member p Y ⊎ (p ≡ q) → p < suc q
        from (inl i) = low i (dec_le q p)
        from (inr e) = omega arith

    low_bound : 2 ^ q ≤ lacking
    low_bound = at (dec_le (2 ^ q) lacking)
      where
        at : Dec (2 ^ q ≤ lacking) → 2 ^ q ≤ lacking
        at (yes h) = h
        at (no h) = absurd (omega (arith, within_members q lacking (below_within q lacking (omega arith)) q lacks_q))

    fires_there : firing case X ≡ suc q
    unfolding firing lacking
    fires_there =
        let few : q < 64 = fire_known in
        let zeros : 64 - suc q ≡ count_leading_zeros 64 (without case X) =
        leading_unique 64 (without case X) (64 - suc q) (suc q) (omega arith)
        (within_below (suc q) (without case X) (members_within (suc q) (without case X) lacks_none_above)) (omega (arith, pow-suc 2 q, low_bound)) in
        omega (arith, zeros)

-- a set with the row's state, if the row's case is inside Y
row_old : (Y one : ℕ) (row : Row) (p : ℕ) → Member p one → Member p (with_row Y one row)
unfolding with_row
row_old Y one row p m = at (subset row.case Y) refl
  where
    at : (b : Bool) → subset row.case Y ≡ b → Member p (with_row Y one row)
    at true e = rw (choose_true (union one (single row.state)) one e) ((union_members one (single row.state) p).1 (inl m))
    at false e = rw (choose_false (union one (single row.state)) one e) m

row_new : (Y one : ℕ) (row : Row) → T (subset row.case Y) → Member row.state (with_row Y one row)
unfolding with_row
row_new Y one row t =
    rw (choose_true (union one (single row.state)) one (is_true _ t)) ((union_members one (single row.state) row.state).1 (inr ((single_members row.state row.state).1 refl)))

row_either : (Y one : ℕ) (row : Row) (p : ℕ) → Member p (with_row Y one row) → Member p one ⊎ (T (subset row.case Y) × (row.state ≡ p))
unfolding with_row
row_either Y one row p m = at (subset row.case Y) refl
  where
    at : (b : Bool) → subset row.case Y ≡ b → Member p one ⊎ (T (subset row.case Y) × (row.state ≡ p))
    at true e = from ((union_members one (single row.state) p).0 (rw (choose_true (union one (single row.state)) one e) at m))
      where
        from : Member p one ⊎ Member p (single row.state) → Member p one ⊎ (T (subset row.case Y) × (row.state ≡ p))
        from (inl i) = inl i
        from (inr i) = inr (holds e, sym ((single_members row.state p).0 i))
    at false e = inl (rw (choose_false (union one (single row.state)) one e) at m)

-- The walk along the rows that fire at q, before the row that is told: the sets have what they had, nothing but states of the larger set's backward sets, and
-- the state of each row behind that fires and whose case is inside the larger set.
pub record Firing (image : List ℕ) (q Y more : ℕ) (lasts links symbols before sets : List ℕ) (told : Option ℕ) : Type 0 where
  pub trying : Trying image q Y lasts links symbols
  pub were : SetsOf image Y before
  pub larger : more ≡ union Y (single q)
  pub long : length sets ≡ length before
  pub at_row : (r : ℕ) → told ≡ Some r → (r < row_count_of image) × (fires_at image trying.X r ≡ suc q)
  pub kept : (s p : ℕ) → Member p (get_or before s 0) → Member p (get_or sets s 0)
  pub sound : (s p : ℕ) → s < symbols_of image → Member p (get_or sets s 0) → Member p (backward (rows_of image s) more)
  pub fired : (r s : ℕ) → behind told ≤ r → r < row_count_of image → fires_at image trying.X r ≡ suc q → Belongs image s r
      → T (subset (row_at image (place_of image r)).case more) → Member (row_at image (place_of image r)).state (get_or sets s 0)

chain_is : (q : State) (chain : ℕ) → chain ≡ chain_of (Some q) → chain ≡ suc q.0
unfolding chain_of
chain_is q chain e = e

module _ {image : List ℕ} {q : State} {Y : ℕ} {lasts links symbols : List ℕ} (trying : Trying image q.0 Y lasts links symbols) (chain : ℕ)
    (is : chain ≡ chain_of (Some q)) where
  pub fire_first : chain < length lasts
  fire_first = omega (arith, chain_is q chain is, fire_known trying, trying.linked.room.lasts_fit)

  pub fire_starts : {sets : List ℕ} → SetsOf image Y sets → (more : ℕ) (told : Option ℕ) → more ≡ union Y (single q.0)
      → told ≡ told_number (get_or lasts chain 0) → Firing image q.0 Y more lasts links symbols sets sets told
  fire_starts are more told put e =
      let first : told ≡ told_number (get_or lasts (suc q.0) 0) = e ∙ ap (λ (k : ℕ). told_number (get_or lasts k 0)) (chain_is q chain is) in
      record {
        trying = trying;
        were = are;
        larger = put;
        long = refl;
        at_row = first_told trying.linked.chained (suc q.0) told first;
        kept = λ s p m. m;
        sound = λ s p l m.
            subset_members _ _ (backward_monotone (rows_of image s) Y more (subst (λ (x : ℕ). T (subset Y x)) (sym put) (more_holds Y q.0))) p
            (subst (Member p) (are.are s l) m);
        fired = λ r s n l f b t. absurd (none_behind trying.linked.chained (suc q.0) told first r l f n);
      }

module _ {image : List ℕ} {q Y more : ℕ} {lasts links symbols before sets : List ℕ} {told : Option ℕ}
    (so_far : Firing image q Y more lasts links symbols before sets told) where
  abbrev set_of : ℕ
  set_of = so_far.trying.X

  chained : Chained (fires_at image set_of) (row_count_of image) lasts links
  chained = so_far.trying.linked.chained

  valid : Valid image
  valid = so_far.trying.linked.valid

  module _ (row : ℕ) (at_row : told ≡ Some row) where
    here : (row < row_count_of image) × (fires_at image set_of row ≡ suc q)
    here = so_far.at_row row at_row

    belongs : Belongs image (get_or symbols row 0) row
    belongs = so_far.trying.linked.belongs row here.0

    pub fire_symbol : row < length symbols
    fire_symbol = omega (arith, here.0, so_far.trying.linked.room.symbols_fit)

    pub fire_link : row < length links
    fire_link = omega (arith, here.0, so_far.trying.linked.room.links_fit)

    pub fire_low : row < 4096
    fire_low = omega (arith, here.0, (valid_kept image valid).few_rows)

    pub fire_stands : (at : ℕ) → at ≡ place_of image row → RowsStand image 1 at
    fire_stands at e = belongs_stands image valid (get_or symbols row 0) row belongs at e

    pub fire_place : (symbol : ℕ) → symbol ≡ get_or symbols row 0 → symbol < length sets
    fire_place symbol e = omega (arith, e, belongs.known, so_far.were.room, so_far.long)

    module _ (next : Option ℕ) (is : next ≡ told_number (get_or links row 0)) where
      pub fire_nearer : behind next < behind told
      fire_nearer = rw (at_row, behind_some) (next_nearer chained here next is)

      pub fire_goes : (symbol one stands : ℕ) → symbol ≡ get_or symbols row 0 → stands ≡ place_of image row
          → one ≡ with_row more (get_or sets symbol 0) (row_at image stands) → Firing image q Y more lasts links symbols before (set sets symbol one) next
      fire_goes symbol one stands es place made =
          record {
            trying = so_far.trying;
            were = so_far.were;
            larger = so_far.larger;
            long = length-set sets symbol one ∙ so_far.long;
            at_row = next_told chained here next is;
            kept = λ s p m. stays s p (so_far.kept s p m);
            sound = sound;
            fired = fired;
          }
        where
          sets' : List ℕ
          sets' = set sets symbol one

          at_symbol : get_or sets' symbol 0 ≡ with_row more (get_or sets symbol 0) (row_at image (place_of image row))
          at_symbol =
              get_or-set_same sets symbol one 0 (fire_place symbol es)
              ∙ made
              ∙ ap (λ (at : ℕ). with_row more (get_or sets symbol 0) (row_at image at)) place

          elsewhere : (s : ℕ) → (s ≡ symbol → ⊥) → get_or sets' s 0 ≡ get_or sets s 0
          elsewhere s n = get_or-set_other sets symbol s one 0 n

          stays : (s p : ℕ) → Member p (get_or sets s 0) → Member p (get_or sets' s 0)
          stays s p m = at (ℕ_discrete s symbol)
            where
              at : Dec (s ≡ symbol) → Member p (get_or sets' s 0)
              at (yes e) =
                  subst (λ (x : ℕ). Member p (get_or sets' x 0)) (sym e)
                  (subst (Member p) (sym at_symbol)
                  (row_old more (get_or sets symbol 0) (row_at image (place_of image row)) p (subst (λ (x : ℕ). Member p (get_or sets x 0)) e m)))
              at (no n) = subst (Member p) (sym (elsewhere s n)) m

          sound : (s p : ℕ) → s < symbols_of image → Member p (get_or sets' s 0) → Member p (backward (rows_of image s) more)
          sound s p l m = at (ℕ_discrete s symbol)
            where
              from : s ≡ symbol → Member p (get_or sets symbol 0) ⊎ (T (subset (row_at image (place_of image row)).case more) × ((row_at image (place_of image row)).state ≡ p))
                  → Member p (backward (rows_of image s) more)
              from e (inl i) = so_far.sound s p l (subst (λ (x : ℕ). Member p (get_or sets x 0)) (sym e) i)
              from e (inr t) =
                  (backward_members (rows_of image s) more p).1
                  (record {
                    row = row_at image (place_of image row);
                    listed = subst (λ (x : ℕ). row_at image (place_of image row) ∈ rows_of image x) (sym (e ∙ es))
                        (belongs_in image valid (get_or symbols row 0) row belongs);
                    leads = record { state = t.1; inside = t.0 };
                  })

              at : Dec (s ≡ symbol) → Member p (backward (rows_of image s) more)
              at (yes e) =
                  from e (row_either more (get_or sets symbol 0) (row_at image (place_of image row)) p
                  (subst (Member p) at_symbol (subst (λ (x : ℕ). Member p (get_or sets' x 0)) e m)))
              at (no n) = so_far.sound s p l (subst (Member p) (elsewhere s n) m)

          fired : (r s : ℕ) → behind next ≤ r → r < row_count_of image → fires_at image set_of r ≡ suc q → Belongs image s r
              → T (subset (row_at image (place_of image r)).case more) → Member (row_at image (place_of image r)).state (get_or sets' s 0)
          fired r s n l f b t = at (none_between chained here next is r l f n)
            where
              at : (r ≡ row) ⊎ (suc row ≤ r) → Member (row_at image (place_of image r)).state (get_or sets' s 0)
              at (inl e) =
                  let same : s ≡ symbol =
                  one_symbol image valid s (get_or symbols row 0) row (subst (λ (x : ℕ). Belongs image s x) e b) belongs ∙ sym es in
                  subst (λ (x : ℕ). Member (row_at image (place_of image x)).state (get_or sets' s 0)) (sym e)
                  (subst (λ (x : ℕ). Member (row_at image (place_of image row)).state (get_or sets' x 0)) (sym same)
                  (subst (Member (row_at image (place_of image row)).state) (sym at_symbol)
                  (row_new more (get_or sets symbol 0) (row_at image (place_of image row)) (subst (λ (x : ℕ). T (subset (row_at image (place_of image x)).case more)) e t))))
              at (inr h) = stays s _ (so_far.fired r s (rw (at_row, behind_some) h) l f b t)

  -- at the end the sets are those of the larger set
  pub fire_ends : told ≡ None → SetsOf image (union Y (single q)) sets
  fire_ends none = rw (← so_far.larger) ends
    where
      all : (s : ℕ) → s < symbols_of image → (p : ℕ) → HasRow (rows_of image s) p more → Member p (get_or sets s 0)
      all s l p has = at (decide (subset has.row.case Y))
        where
          one : Numbered image s has.row
          one = numbered image valid s l has.row has.listed

          at : T (subset has.row.case Y) ⊎ (T (subset has.row.case Y) → ⊥) → Member p (get_or sets s 0)
          at (inl t) =
              so_far.kept s p (subst (Member p) (sym (so_far.were.are s l)) ((backward_members (rows_of image s) Y p).1
              (record { row = has.row; listed = has.listed; leads = record { state = has.leads.state; inside = t } })))
          at (inr n) =
              let inside : T (subset has.row.case (union Y (single q))) = subst (λ (x : ℕ). T (subset has.row.case x)) so_far.larger has.leads.inside in
              subst (λ (x : ℕ). Member x (get_or sets s 0)) (ap (λ (r : Row). r.state) one.is ∙ has.leads.state)
              (so_far.fired one.number s (omega (arith, ap behind none, behind_none)) one.few
              (ap (λ (r : Row). firing r.case set_of) one.is ∙ fires_there so_far.trying has.row.case inside n) one.belongs
              (subst (λ (r : Row). T (subset r.case more)) (sym one.is) has.leads.inside))

      ends : SetsOf image more sets
      ends =
          record {
            room = omega (arith, so_far.were.room, so_far.long);
            are = λ s l.
                subset_antisymmetric (get_or sets s 0) (backward (rows_of image s) more) (members_subset _ _ (λ p m. so_far.sound s p l m))
                (members_subset _ _ (λ p m. all s l p ((backward_members (rows_of image s) more p).0 m)));
          }

-- the code's step
pub row_put : (image : List ℕ) (at Y one : ℕ) (row : Read.Row) (b : Bool) (result : ℕ) → row_of row ≡ row_at image at → b ≡ subset row.case Y
    → result ≡ choose b (union one (single row.state.0)) one → result ≡ with_row Y one (row_at image at)
unfolding with_row
row_put image at Y one row b result is test e =
    e ∙ ap (λ (x : Bool). choose x (union one (single row.state.0)) one) test ∙ ap (with_row Y one) is
