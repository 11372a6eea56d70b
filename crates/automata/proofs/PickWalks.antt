-- One walk over the rows picks for all states: a row by the tests of the code, the walk on its way, and that it ends with the case reached. Assumes nothing.
use Prim.Native.Nat.{ℕ, ◌+◌, ◌-◌, ◌≤◌, ◌<◌}
use mathlib.Core.Path.{◌≡◌, refl, sym, ap, subst, ◌∙◌}
use mathlib.Core.Bool.{Bool, true, false, not}
use mathlib.Core.List.{List, [], ◌∷◌, ◌++◌, append_assoc}
use mathlib.Core.Logic.{◌⊎◌, inl, inr, ◌↔◌}
use mathlib.Core.Option.{some}
use native.Mathlib.Decide.{ℕ_discrete}
use native.Mathlib.Omega.{arith}
use borrow.Author.Tests.{not-true, not-false}
use lib.Dec.{T}
use lib.ListN.{length, take, drop}
use Rattle.std.proofs.Math.ListN.{get_or-append}
use Rattle.std.proofs.lemmas.List.{get_or-append-add, take-append-drop, length-append, length-take, length-drop}
use Rattle.lists.proofs.Lists.{each_more, in_none}
use Rattle.lists.specs.Tests.{◌and◌}
use Rattle.lists.specs.Lists.{Each, first_of}
use Rattle.lists.proofs.Tests.{holds, fails, is_true, is_false, and_left, and_right, and_both, choose_true, choose_false}
use Rattle.masks.specs.Sets.{Member, subset, union, single, absent}
use Rattle.masks.proofs.Laws.{members_subset, subset_antisymmetric, empty_members, union_members, single_members, absent_means}
use Rattle.automata.specs.Bytes.{byte_at, little2, little4, little8}
use Rattle.automata.specs.Image.{Row, states_of, row_at, rows_from}
use Rattle.automata.specs.declared.rows.Row as Read
use Rattle.automata.specs.Walk.{row_of, RowsStand, rows_between, Span, AtRow, pick_row}
use Rattle.automata.specs.Picks.{fits, picks, reached}
use Rattle.automata.specs.declared.picks.Picked.{Picked}
use Rattle.automata.proofs.RowWalks.{state_fits, one_stands, first_row, one_further, rows_ahead, none_ahead}
use Rattle.automata.proofs.PickedRuns.{fits_means, picked_row, same_row, PicksTo, picks_same, reached_members}

-- what all rows give
unfoldable pub pick_rows : ℕ → ℕ → Picked → List Row → Picked
pick_rows set X so_far [] = so_far
pick_rows set X so_far (row ∷ rows) = pick_rows set X (pick_row set X so_far row) rows

-- what is picked from one row more: that row where it fits, else what the rows behind it give
module _ (set q : ℕ) (row : Row) (rows : List Row) where
  picks_here : T (fits set q row) → picks (row ∷ rows) set q ≡ some row
  unfolding picks first_of
  picks_here t = choose_true _ _ (is_true _ t)

  picks_later : (T (fits set q row) → ⊥) → picks (row ∷ rows) set q ≡ picks rows set q
  unfolding picks first_of
  picks_later f = choose_false _ _ (is_false _ f)

picks_nowhere : (set q : ℕ) {row : Row} → picks [] set q ≡ some row → ⊥
unfolding picks first_of
picks_nowhere set q e = let z : ◌≡◌ {A = ℕ} 0 1 = cc in omega arith

-- a state of X that has not picked picks a row with p in its case
record PicksYet (rows : List Row) (set X states p : ℕ) : Type 0 where
  from : ℕ
  yet : T (absent X states from)
  picks_to : PicksTo rows set p from

module _ (set X : ℕ) where
  -- the row is picked
  taking : Picked → Row → Bool
  taking so_far row = absent X so_far.states row.state and subset row.case set

  abbrev after : Picked → Row → Picked
  after so_far row = record { states = union so_far.states (single row.state); case = union so_far.case row.case }

  take_yes : (so_far : Picked) (row : Row) → taking so_far row ≡ true → pick_row set X so_far row ≡ after so_far row
  unfolding pick_row taking
  take_yes so_far row e = choose_true _ _ e

  take_no : (so_far : Picked) (row : Row) → taking so_far row ≡ false → pick_row set X so_far row ≡ so_far
  unfolding pick_row taking
  take_no so_far row e = choose_false _ _ e

  -- where no state is left to pick, no row is picked
  none_yet : (rows : List Row) (so_far : Picked) → ((q : ℕ) → T (absent X so_far.states q) → ⊥) → pick_rows set X so_far rows ≡ so_far
  unfolding pick_rows taking
  none_yet [] so_far f = refl
  none_yet (row ∷ rows) so_far f =
      ap (λ (more : Picked). pick_rows set X more rows) (take_no so_far row (is_false _ (λ t. f row.state (and_left _ _ t)))) ∙ none_yet rows so_far f

  module _ (so_far : Picked) (row : Row) (rows : List Row) (p : ℕ) where
    -- p is in a case that was picked, or in one that a state has yet to pick
    ComesIn : List Row → Picked → Type 0
    ComesIn ahead picked = Member p picked.case ⊎ PicksYet ahead set X picked.states p

    -- a row that is picked: its state has picked then, and no other picks it
    module _ (t : T (taking so_far row)) where
      yet : T (absent X so_far.states row.state)
      unfolding taking
      yet = and_left _ _ t

      its_own : T (fits set row.state row)
      unfolding taking
      its_own = (fits_means set row.state row).1 (record { state = refl; inside = and_right _ _ t })

      others : (q : ℕ) → (q ≡ row.state → ⊥) → picks (row ∷ rows) set q ≡ picks rows set q
      others q other = picks_later set q row rows (λ f. other (sym ((fits_means set q row).0 f).state))

      still : (q : ℕ) → T (absent X (union so_far.states (single row.state)) q) → T (absent X so_far.states q) × (q ≡ row.state → ⊥)
      still q a =
          let h = (absent_means X _ q).0 a in (
            (absent_means X so_far.states q).1 (h.0, λ m. h.1 ((union_members so_far.states (single row.state) q).1 (inl m))),
            λ e. h.1 ((union_members so_far.states (single row.state) q).1 (inr ((single_members row.state q).1 e))),
          )

      still_yet : (q : ℕ) → T (absent X so_far.states q) → (q ≡ row.state → ⊥) → T (absent X (union so_far.states (single row.state)) q)
      still_yet q a other =
          let h = (absent_means X so_far.states q).0 a in
          (absent_means X _ q).1 (h.0, λ m. in_neither ((union_members so_far.states (single row.state) q).0 m) h.1)
        where
          in_neither : Member q so_far.states ⊎ Member q (single row.state) → (Member q so_far.states → ⊥) → ⊥
          in_neither (inl m) f = f m
          in_neither (inr m) f = other ((single_members row.state q).0 m)

      to_taken : ComesIn rows (after so_far row) → ComesIn (row ∷ rows) so_far
      unfolding ComesIn
      to_taken (inl m) = at ((union_members so_far.case row.case p).0 m)
        where
          at : Member p so_far.case ⊎ Member p row.case → ComesIn (row ∷ rows) so_far
          at (inl k) = inl k
          at (inr k) = inr (record { from = row.state; yet = yet; picks_to = record { row = row; picked = picks_here set row.state row rows its_own; to = k } })
      to_taken (inr r) =
          let s = still r.from r.yet in
          inr (record { from = r.from; yet = s.0; picks_to = picks_same (others r.from s.1) r.picks_to })

      from_taken : ComesIn (row ∷ rows) so_far → ComesIn rows (after so_far row)
      unfolding ComesIn
      from_taken (inl m) = inl ((union_members so_far.case row.case p).1 (inl m))
      from_taken (inr r) = at (ℕ_discrete r.from row.state)
        where
          at : Dec (r.from ≡ row.state) → ComesIn rows (after so_far row)
          at (yes e) =
              let mine : picks (row ∷ rows) set r.from ≡ some row = picks_here set r.from row rows (subst (λ (q : ℕ). T (fits set q row)) (sym e) its_own) in
              let same : r.picks_to.row ≡ row = same_row r.picks_to.picked mine in
              inl ((union_members so_far.case row.case p).1 (inr (subst (λ (x : Row). Member p x.case) same r.picks_to.to)))
          at (no other) =
              inr (record { from = r.from; yet = still_yet r.from r.yet other; picks_to = picks_same (sym (others r.from other)) r.picks_to })

    -- a row that is not picked fits no state that has not picked
    module _ (f : T (taking so_far row) → ⊥) where
      passed_by : (q : ℕ) → T (absent X so_far.states q) → picks (row ∷ rows) set q ≡ picks rows set q
      unfolding taking
      passed_by q a =
          picks_later set q row rows
          (λ t. let l = (fits_means set q row).0 t in f (and_both _ _ (subst (λ (x : ℕ). T (absent X so_far.states x)) (sym l.state) a) l.inside))

      to_passed : ComesIn rows so_far → ComesIn (row ∷ rows) so_far
      unfolding ComesIn
      to_passed (inl m) = inl m
      to_passed (inr r) = inr (record { from = r.from; yet = r.yet; picks_to = picks_same (passed_by r.from r.yet) r.picks_to })

      from_passed : ComesIn (row ∷ rows) so_far → ComesIn rows so_far
      unfolding ComesIn
      from_passed (inl m) = inl m
      from_passed (inr r) = inr (record { from = r.from; yet = r.yet; picks_to = picks_same (sym (passed_by r.from r.yet)) r.picks_to })

  -- the walk ends with what was picked before and what the states that have not picked pick among the rows
  walk_members : (rows : List Row) (so_far : Picked) (p : ℕ)
      → Member p (pick_rows set X so_far rows).case ↔ (Member p so_far.case ⊎ PicksYet rows set X so_far.states p)
  unfolding pick_rows ComesIn
  walk_members [] so_far p = (λ m. inl m, from)
    where
      from : Member p so_far.case ⊎ PicksYet [] set X so_far.states p → Member p so_far.case
      from (inl m) = m
      from (inr r) = absurd (picks_nowhere set r.from r.picks_to.picked)
  walk_members (row ∷ rows) so_far p = at (taking so_far row) refl (λ more. walk_members rows more p)
    where
      through : (next : Picked) → pick_row set X so_far row ≡ next
          → (Member p (pick_rows set X next rows).case ↔ (Member p next.case ⊎ PicksYet rows set X next.states p))
          → ((Member p next.case ⊎ PicksYet rows set X next.states p) ↔ (Member p so_far.case ⊎ PicksYet (row ∷ rows) set X so_far.states p))
          → Member p (pick_rows set X (pick_row set X so_far row) rows).case ↔ (Member p so_far.case ⊎ PicksYet (row ∷ rows) set X so_far.states p)
      through next e rest same = (
        λ m. same.0 (rest.0 (subst (λ (w : Picked). Member p (pick_rows set X w rows).case) e m)),
        λ k. subst (λ (w : Picked). Member p (pick_rows set X w rows).case) (sym e) (rest.1 (same.1 k)),
      )

      at : (b : Bool) → taking so_far row ≡ b
          → ((more : Picked) → Member p (pick_rows set X more rows).case ↔ (Member p more.case ⊎ PicksYet rows set X more.states p))
          → Member p (pick_rows set X (pick_row set X so_far row) rows).case ↔ (Member p so_far.case ⊎ PicksYet (row ∷ rows) set X so_far.states p)
      at true e rec = through (after so_far row) (take_yes so_far row e) (rec (after so_far row)) (to_taken so_far row rows p (holds e), from_taken so_far row rows p (holds e))
      at false e rec = through so_far (take_no so_far row e) (rec so_far) (to_passed so_far row rows p (fails e), from_passed so_far row rows p (fails e))

  -- so from the first row on it ends with the case that X reaches, where the rows' states are below n
  walk_reaches : (n : ℕ) (rows : List Row) → Each (λ row. row.state < n) rows
      → (pick_rows set X (record { states = 0; case = 0 }) rows).case ≡ reached n rows set X
  walk_reaches n rows below =
      subset_antisymmetric _ _ (members_subset _ _ (λ p m. to p ((walk_members rows (record { states = 0; case = 0 }) p).0 m)))
      (members_subset _ _ (λ p m. (walk_members rows (record { states = 0; case = 0 }) p).1 (from p m)))
    where
      to : (p : ℕ) → Member p 0 ⊎ PicksYet rows set X 0 p → Member p (reached n rows set X)
      to p (inl m) = absurd (empty_members p m)
      to p (inr r) =
          let own = picked_row rows set r.from r.picks_to.row r.picks_to.picked in
          (reached_members n rows set X p).1
          (record {
            from = r.from;
            below = subst (λ (q : ℕ). q < n) own.1.state (below r.picks_to.row own.0);
            inside = ((absent_means X 0 r.from).0 r.yet).0;
            picks = r.picks_to;
          })

      from : (p : ℕ) → Member p (reached n rows set X) → Member p 0 ⊎ PicksYet rows set X 0 p
      from p m =
          let r = (reached_members n rows set X p).0 m in
          inr (record { from = r.from; yet = (absent_means X 0 r.from).1 (r.inside, empty_members r.from); picks_to = r.picks })

-- one row, by the tests of the code: whether its state has yet to pick, and whether its case lies inside the set
module _ (image : List ℕ) (at set X : ℕ) (so_far : Picked) (row : Read.Row) (is : row_of row ≡ row_at image at) where
  module _ (yet : Bool) (is_yet : yet ≡ absent X so_far.states row.state.0) where
    pub row_late : not yet ≡ true → so_far ≡ pick_row set X so_far (row_at image at)
    unfolding taking
    row_late t =
        sym (take_no set X so_far (row_of row) (is_false _ (λ u. fails (sym is_yet ∙ not-true yet t) (and_left _ _ u)))) ∙ ap (pick_row set X so_far) is

    module _ (inside : Bool) (is_inside : inside ≡ subset row.case set) where
      pub row_outside : not inside ≡ true → so_far ≡ pick_row set X so_far (row_at image at)
      unfolding taking
      row_outside t =
          sym (take_no set X so_far (row_of row) (is_false _ (λ u. fails (sym is_inside ∙ not-true inside t) (and_right _ _ u))))
          ∙ ap (pick_row set X so_far) is

      pub row_picked : (states : ℕ) → not yet ≡ false → not inside ≡ false → states ≡ union so_far.states (single row.state.0)
          → record { states = states; case = union so_far.case row.case } ≡ pick_row set X so_far (row_at image at)
      unfolding taking
      row_picked states u v e =
          ap (λ (x : ℕ). record { states = x; case = union so_far.case row.case }) e
          ∙ sym (take_yes set X so_far (row_of row)
          (is_true _ (and_both _ _ (holds (sym is_yet ∙ not-false yet u)) (holds (sym is_inside ∙ not-false inside v)))))
          ∙ ap (pick_row set X so_far) is

-- the walk over the rows from start to end has come to the row at `at`: the rows from there on give what all give
pub record Picking (image : List ℕ) (start end set X : ℕ) (so_far : Picked) (at : ℕ) : Type 0 where
  pub at_row : AtRow image start end at
  pub rest : pick_rows set X so_far (rows_between image at end) ≡ pick_rows set X (record { states = 0; case = 0 }) (rows_between image start end)

pub picking_starts : {image : List ℕ} {start end set X : ℕ} → Span image start end → Picking image start end set X (record { states = 0; case = 0 }) start
picking_starts span = record { at_row = first_row span; rest = refl }

module _ {image : List ℕ} {start end set X at : ℕ} {so_far : Picked} (picking : Picking image start end set X so_far at) where
  pub picking_next : (more : Picked) → at < end → more ≡ pick_row set X so_far (row_at image at) → Picking image start end set X more (at + 9)
  unfolding pick_rows
  picking_next more l e =
      record {
        at_row = one_further picking.at_row l;
        rest =
            ap (λ (w : Picked). pick_rows set X w (rows_between image (at + 9) end)) e
            ∙ sym (ap (pick_rows set X so_far) (rows_ahead picking.at_row l))
            ∙ picking.rest;
      }

  answers : pick_rows set X so_far (rows_between image at end) ≡ so_far → so_far.case ≡ reached (states_of image) (rows_between image start end) set X
  answers e = ap (λ (w : Picked). w.case) (sym e ∙ picking.rest) ∙ walk_reaches set X (states_of image) _ picking.at_row.span.states

  -- each state has picked, or there is no row more
  pub all_have_picked : so_far.states ≡ X → so_far.case ≡ reached (states_of image) (rows_between image start end) set X
  all_have_picked e = answers (none_yet set X _ so_far (λ q t. let h = (absent_means X so_far.states q).0 t in h.1 (rw e h.0)))

  pub picking_ends : end ≤ at → so_far.case ≡ reached (states_of image) (rows_between image start end) set X
  unfolding pick_rows
  picking_ends l = answers (ap (pick_rows set X so_far) (none_ahead picking.at_row l))

-- the nine bytes of a row, cut out of the image, say what it says
module _ (before cut after : List ℕ) (nine : length cut ≡ 9) where
  byte_in : (i at : ℕ) → i < 9 → at ≡ length before + i → byte_at (before ++ (cut ++ after)) at ≡ byte_at cut i
  byte_in i at l e =
      ap (λ (place : ℕ). byte_at (before ++ (cut ++ after)) place) e
      ∙ get_or-append-add before (cut ++ after) i 0
      ∙ get_or-append cut after 0 i (omega (arith, nine))

  row_in : (at : ℕ) → at ≡ length before → row_at (before ++ (cut ++ after)) at ≡ row_at cut 0
  unfolding little8 little4 little2
  row_in at e =
      rw (
        byte_in 0 at (omega arith) (omega (arith, e)),
        byte_in 1 (at + 1) (omega arith) (omega (arith, e)),
        byte_in 2 (at + 1 + 1) (omega arith) (omega (arith, e)),
        byte_in 3 (at + 1 + 2) (omega arith) (omega (arith, e)),
        byte_in 4 (at + 1 + 2 + 1) (omega arith) (omega (arith, e)),
        byte_in 5 (at + 1 + 4) (omega arith) (omega (arith, e)),
        byte_in 6 (at + 1 + 4 + 1) (omega arith) (omega (arith, e)),
        byte_in 7 (at + 1 + 4 + 2) (omega arith) (omega (arith, e)),
        byte_in 8 (at + 1 + 4 + 2 + 1) (omega arith) (omega (arith, e)),
      ) refl

-- the walk over cuts of nine bytes, with the bytes of the rows from `at` on still to be cut
pub record PickingCuts (image : List ℕ) (start end set X : ℕ) (so_far : Picked) (rest : List ℕ) : Type 0 where
  pub at : ℕ
  pub picking : Picking image start end set X so_far at
  pub before : List ℕ
  pub after : List ℕ
  pub whole : image ≡ before ++ (rest ++ after)
  pub place : at ≡ length before
  pub left : length rest ≡ end - at

pub cuts_start : {image : List ℕ} {start end set X : ℕ} → Span image start end
    → PickingCuts image start end set X (record { states = 0; case = 0 }) (take (end - start) (drop start image))
cuts_start {image} {start} {end} {set} {X} span =
    record {
      at = start;
      picking = picking_starts span;
      before = take start image;
      after = drop (end - start) (drop start image);
      whole =
          sym (take-append-drop start image)
          ∙ ap (λ (l : List ℕ). take start image ++ l) (sym (take-append-drop (end - start) (drop start image)));
      place = omega (arith, length-take start image, span.ordered, span.inside);
      left = omega (arith, length-take (end - start) (drop start image), length-drop start image, span.ordered, span.inside);
    }

module _ {image : List ℕ} {start end set X : ℕ} {so_far : Picked} {rest : List ℕ} (cuts : PickingCuts image start end set X so_far rest) where
  pub cuts_all : so_far.states ≡ X → so_far.case ≡ reached (states_of image) (rows_between image start end) set X
  cuts_all = all_have_picked cuts.picking

  pub cuts_end : length rest < 9 → so_far.case ≡ reached (states_of image) (rows_between image start end) set X
  cuts_end l = picking_ends cuts.picking (omega (arith, cuts.left, cuts.picking.at_row.place, cuts.picking.at_row.span.nines))

  module _ (cut more : List ℕ) (e : rest ≡ cut ++ more) (nine : length cut ≡ 9) where
    split : image ≡ cuts.before ++ (cut ++ (more ++ cuts.after))
    split = cuts.whole ∙ ap (λ (l : List ℕ). cuts.before ++ l) (ap (λ (l : List ℕ). l ++ cuts.after) e ∙ append_assoc cut more cuts.after)

    longer : length rest ≡ 9 + length more
    longer = rw (e, length-append cut more, nine) refl

    ahead : cuts.at < end
    ahead = omega (arith, longer, cuts.left)

    read_so : row_at image cuts.at ≡ row_at cut 0
    read_so = rw split (row_in cuts.before cut (more ++ cuts.after) nine cuts.at cuts.place)

    pub cut_stands : RowsStand cut 1 0
    unfolding rows_from
    cut_stands =
        record {
          inside = omega (arith, nine);
          states =
              each_more (subst (λ (row : Row). row.state < 64) read_so (state_fits (one_stands cuts.picking.at_row ahead))) (λ row m. absurd (in_none m));
        }

    pub cuts_go : (picked : Picked) → picked ≡ pick_row set X so_far (row_at cut 0) → PickingCuts image start end set X picked more
    cuts_go picked p =
        record {
          at = cuts.at + 9;
          picking = picking_next cuts.picking picked ahead (p ∙ ap (pick_row set X so_far) (sym read_so));
          before = cuts.before ++ cut;
          after = cuts.after;
          whole = split ∙ sym (append_assoc cuts.before cut (more ++ cuts.after));
          place = rw (length-append cuts.before cut, nine, cuts.place) refl;
          left = omega (arith, longer, cuts.left);
        }
