-- Growing through a hitting set is sound: for every system whose backward sets come from rows, every table and every level. So both ways to grow are.
-- Assumes nothing.
use Prim.Native.Nat.{ℕ, zero, suc, ◌+◌, ◌≤◌, ◌<◌}
use mathlib.Core.Path.{◌≡◌, refl, sym, ap, subst, ◌∙◌}
use mathlib.Core.List.{List, [], ◌∷◌, ◌++◌}
use mathlib.Core.Logic.{◌⊎◌, inl, inr}
use native.Mathlib.Decide.{ℕ_discrete}
use native.Mathlib.Omega.{arith}
use lib.Dec.{T, leb→le}
use lib.ListN.{get_or}
use Rattle.lists.specs.Tests.{neg}
use Rattle.lists.specs.Lists.{◌∈◌, here, there, Each}
use Rattle.lists.proofs.Tests.{decide, is_true, is_false, and_left, and_right, neg_fails, fails_neg, choose_true, choose_false}
use Rattle.lists.proofs.Lists.{in_none, in_left, in_right, each_more, each_joined, Some, keep_in, in_keep}
use Rattle.masks.specs.Sets.{Member, member, subset, without, single, within}
use Rattle.masks.proofs.Laws.{member_means, subset_members, members_subset, subset_transitive, single_members}
use Rattle.masks.proofs.Laws.{within_members, members_within, without_members, nothing_left, others_members, others_within}
use Rattle.automata.specs.Image.{Row, Valid, states_of, symbols_of, initial_of, rows_of}
use Rattle.automata.specs.Automaton.{backward, HasRow}
use Rattle.automata.proofs.BackwardSets.{backward_members}
use Rattle.automata.proofs.ValidImage.{valid_proper}
use Rattle.machine.specs.System.{System}
use Rattle.machine.specs.Machine.{Blocker, covers, blocked}
use Rattle.machine.specs.Why.{Reason, by_blocker, by_start, nothing, why, FirstCovering}
use Rattle.machine.specs.Lent.{column, mask_of}
use Rattle.machine.specs.Runs.{system_of}
use Rattle.machine.specs.Promises.{WhyPromises, Met, RowOutside, FirstMask, AllButLowest, CoverPromises, HittingPromises}
use Rattle.machine.specs.Hitting.{RowSource, others, cover_by, cover, cases_outside, cases_from, forbidden, to_meet, picked, by_hitting_set, growth_of}
use Rattle.machine.proofs.Language.{Sound}
use Rattle.machine.proofs.Tables.{Blocked, by_initial, by_blocker as in_blocker, means_blocked}
use Rattle.machine.proofs.Passing.{passes_means, means_passes, by_states_sound}
use Rattle.machine.proofs.LentTables.{in_column, column_at, column_each}
use Rattle.machine.proofs.Reasons.{why_tells}
use Rattle.machine.proofs.Greedy.{Fit, all_met, picked_in_some}
use Rattle.machine.proofs.Counted.{with_cases_each, with_cases_new}

-- what is asked of a system and its rows
pub record FromRows (S : System) (rows : RowSource) : Type 0 where
  pub initial_within : T (within S.states S.initial)
  pub case_within : (s : ℕ) → s < S.symbols → Each (λ row. T (within S.states row.case)) (rows s)
  pub backward_of : (s X : ℕ) → s < S.symbols → S.backward s X ≡ backward (rows s) X

-- the states of Z that are outside b are in P
abbrev Outside : ℕ → ℕ → ℕ → Type 0
Outside b P Z = (q : ℕ) → (Member q b → ⊥) → Member q Z → Member q P

-- so if b contains P, it contains Z
outside_subset : (b P Z : ℕ) → Outside b P Z → T (subset P b) → T (subset Z b)
outside_subset b P Z out inside = members_subset Z b (λ q i. at q i (decide (member q b)))
  where
    at : (q : ℕ) → Member q Z → T (member q b) ⊎ (T (member q b) → ⊥) → Member q b
    at q i (inl t) = (member_means q b).0 t
    at q i (inr f) = subset_members P b inside q (out q (λ m. f ((member_means q b).1 m)) i)

-- the mask that stands at the place of the first covering blocker is that blocker's
first_mask : {table : List Blocker} {i P place level : ℕ} (first : FirstCovering table i P place level)
    → get_or (column mask_of table) place 0 ≡ first.blocker.mask
first_mask {place = place} first =
    ap (λ (blockers : List Blocker). get_or (column mask_of blockers) place 0) first.first.stands
    ∙ ap (λ (at : ℕ). get_or (column mask_of (first.first.before ++ first.blocker ∷ first.first.after)) at 0) first.counted
    ∙ column_at mask_of first.first.before first.blocker first.first.after

-- b is as 02 says it
cover_kept : (n initial : ℕ) (table : List Blocker) (below X P : ℕ) → CoverPromises n initial table below X P (cover n initial table below X P)
unfolding cover cover_by
cover_kept n initial table below X P = record {
  itself = λ t. choose_true _ _ (is_true _ t);
  by_blocker = λ f l b. subst (FirstMask table below P) (sym (covered f)) (by_blocker_lem l b (why initial table below P) (why_tells initial table below P));
  by_start = λ f z b. subst (AllButLowest n initial P) (sym (covered f)) (by_start_lem z b (why initial table below P) (why_tells initial table below P));
}
  where
    covered : (T (subset P X) → ⊥) → cover n initial table below X P ≡ cover_by n table X (why initial table below P)
    covered f = choose_false _ _ (is_false _ f)

    by_blocker_lem : 1 ≤ below → T (blocked initial table below P) → (reason : Reason) → WhyPromises initial table below P reason
        → FirstMask table below P (cover_by n table X reason)
    by_blocker_lem l b (by_blocker place level) told = let first = (told.by_blocker place level refl).1 in record {
      place = place;
      level = level;
      first = first;
      its_mask = first_mask first;
    }
    by_blocker_lem l b (by_start q) told = absurd (omega (arith, (told.by_start q refl).0))
    by_blocker_lem l b nothing told = absurd (told.none_exactly.0 refl b)

    by_start_lem : below ≡ 0 → T (blocked initial table below P) → (reason : Reason) → WhyPromises initial table below P reason
        → AllButLowest n initial P (cover_by n table X reason)
    by_start_lem z b (by_blocker place level) told = absurd (omega (arith, (told.by_blocker place level refl).0))
    by_start_lem z b (by_start q) told = record {
      state = q;
      lowest = (told.by_start q refl).1;
      all_but = λ p. (
        λ i. let other = (others_members n (single q) p).0 i in (other.0, λ e. other.1 ((single_members q p).1 e)),
        λ h. (others_members n (single q) p).1 (h.0, λ i. h.1 ((single_members q p).0 i)),
      );
    }
    by_start_lem z b nothing told = absurd (told.none_exactly.0 refl b)

module _ (S : System) (table : List Blocker) (X P Z b : ℕ) (out : Outside b P Z) where
  -- a blocker that covers P covers Z
  covers_too : {i : ℕ} → FirstMask table (suc i) P b → Blocked S table (suc i) Z
  unfolding covers
  covers_too mask =
      let first = mask.first in
      in_blocker (record {
        blocker = first.blocker;
        listed = subst (λ (blockers : List Blocker). first.blocker ∈ blockers) (sym first.first.stands) (in_right first.first.before (here refl));
        high = leb→le _ _ (and_left _ _ first.first.passes);
        inside = outside_subset _ P Z (subst (λ (x : ℕ). Outside x P Z) mask.its_mask out) (and_right _ _ first.first.passes);
      })

  -- an initial state that P lacks, Z lacks
  lacks_too : {n : ℕ} → AllButLowest n S.initial P b → Blocked S table 0 Z
  lacks_too all =
      by_initial (λ t. all.lowest.lacking
      (out all.state (λ m. ((all.all_but all.state).0 m).1 refl) (subset_members S.initial Z t all.state all.lowest.initially)))

  -- so where P lies in X or is blocked, Z lies in X or is blocked
  cover_held : (below : ℕ) {n : ℕ} → CoverPromises n S.initial table below X P b → T (subset P X) ⊎ Blocked S table below P
      → T (subset Z X) ⊎ Blocked S table below Z
  cover_held below told held = at below (decide (subset P X)) told held
    where
      at : (i : ℕ) {n : ℕ} → T (subset P X) ⊎ (T (subset P X) → ⊥) → CoverPromises n S.initial table i X P b → T (subset P X) ⊎ Blocked S table i P
          → T (subset Z X) ⊎ Blocked S table i Z
      at zero (inl t) told held = inl (outside_subset X P Z (subst (λ (x : ℕ). Outside x P Z) (told.itself t) out) t)
      at (suc i) (inl t) told held = inl (outside_subset X P Z (subst (λ (x : ℕ). Outside x P Z) (told.itself t) out) t)
      at zero (inr f) told (inl t) = absurd (f t)
      at (suc i) (inr f) told (inl t) = absurd (f t)
      at zero (inr f) told (inr held) = inr (lacks_too (told.by_start f refl (means_blocked held)))
      at (suc i) (inr f) told (inr held) = inr (covers_too (told.by_blocker f (omega arith) (means_blocked held)))

module _ {S : System} {rows : RowSource} (asked : FromRows S rows) (table : List Blocker) (below X : ℕ) where
  -- b of a symbol
  abbrev b_of : ℕ → ℕ
  b_of s = cover S.states S.initial table below X (S.backward s X)

  -- "Forbidden are I ..
  initial_forbidden : S.initial ∈ forbidden S rows table below X
  unfolding forbidden
  initial_forbidden = here refl

  -- .. and the case of each row of that symbol whose state is outside b."
  outside_in : {row : Row} (b : ℕ) (l : List Row) → row ∈ l → (Member row.state b → ⊥) → row.case ∈ cases_outside b l
  unfolding cases_outside
  outside_in {row} b l m out =
      in_column (λ row. row.case) (in_keep (λ row. neg (member row.state b)) l m (fails_neg _ (λ t. out ((member_means row.state b).0 t))))

  -- of one of the symbols
  cases_in : (count first : ℕ) {s : ℕ} {row : Row} → first ≤ s → s < first + count → row ∈ rows s → (Member row.state (b_of s) → ⊥)
      → row.case ∈ cases_from S rows table below X count first
  unfolding cases_from
  cases_in zero first l h m out = absurd (omega arith)
  cases_in (suc count) first {s} {row} l h m out = at (λ k. cases_in count (suc first) k (omega arith) m out) (ℕ_discrete s first)
    where
      at : (suc first ≤ s → row.case ∈ cases_from S rows table below X count (suc first)) → Dec (s ≡ first)
          → row.case ∈ (cases_outside (b_of first) (rows first) ++ cases_from S rows table below X count (suc first))
      at rec (yes e) =
          in_left _ (subst (λ (t : ℕ). row.case ∈ cases_outside (b_of t) (rows t)) e (outside_in (b_of s) (rows s) m out))
      at rec (no n) = in_right (cases_outside (b_of first) (rows first)) (rec (omega arith))

  -- of each symbol
  row_forbidden : {s : ℕ} {row : Row} → s < S.symbols → row ∈ rows s → (Member row.state (b_of s) → ⊥) → row.case ∈ forbidden S rows table below X
  unfolding forbidden
  row_forbidden l m out = there (cases_in S.symbols 0 (omega arith) (omega arith) m out)

  -- each of them is of the n states
  cases_within : (count first : ℕ) → first + count ≤ S.symbols
      → Each (λ case. T (within S.states case)) (cases_from S rows table below X count first)
  unfolding cases_from cases_outside
  cases_within zero first l = λ case m. absurd (in_none m)
  cases_within (suc count) first l =
      each_joined (cases_outside (b_of first) (rows first))
      (column_each (λ row. row.case) (λ case. T (within S.states case)) _
      (λ row m. asked.case_within first (omega arith) row (keep_in _ (rows first) m).0))
      (cases_within count (suc first) (omega arith))

  forbidden_within : Each (λ case. T (within S.states case)) (forbidden S rows table below X)
  unfolding forbidden
  forbidden_within = each_more asked.initial_within (cases_within S.symbols 0 (omega arith))

  -- what is left of them can be met, by states outside X alone
  record Left (set : ℕ) : Type 0 where
    fit : Fit S.states set
    outside : (q : ℕ) → Member q set → Member q X → ⊥

  sets_left : Each Left (to_meet S rows table below X)
  unfolding to_meet
  sets_left =
      with_cases_each X [] (forbidden S rows table below X) (λ set m. absurd (in_none m))
      (λ case m f. record {
        fit = record {
          not_empty = f;
          inside = members_within S.states (without case X)
              (λ q i. within_members S.states case (forbidden_within case m) q ((without_members case X q).0 i).0);
        };
        outside = λ q i. ((without_members case X q).0 i).1;
      })

  -- the states that are picked
  abbrev picks : ℕ
  picks = picked S.states (to_meet S rows table below X)

  -- "the blocker is the states not picked"
  abbrev Y : ℕ
  Y = others S.states picks

  -- no state of X is picked
  keeps_X : T (within S.states X) → T (subset X Y)
  keeps_X inside =
      members_subset X Y (λ q i. (others_members S.states picks q).1
      (within_members S.states X inside q i, λ p. free q i (picked_in_some S.states _ q (λ set m. (sets_left set m).fit) p)))
    where
      free : (q : ℕ) → Member q X → Some (member q) (to_meet S rows table below X) → ⊥
      free q i s = (sets_left s.element s.listed).outside q ((member_means q s.element).0 s.passes) i

  -- a forbidden case lies in the blocker only if it lies in X: else a state of what is left of it is picked
  avoids : {case : ℕ} → case ∈ forbidden S rows table below X → T (subset case Y) → T (subset case X)
  unfolding to_meet
  avoids {case} m inside = at (ℕ_discrete (without case X) 0)
    where
      clash : Met picks (without case X) → ⊥
      clash met =
          ((others_members S.states picks met.state).0
          (subset_members case Y inside met.state ((without_members case X met.state).0 met.inside).0)).1 met.chosen

      at : Dec (without case X ≡ 0) → T (subset case X)
      at (yes e) = nothing_left case X e
      at (no n) =
          let listed = with_cases_new X [] (forbidden S rows table below X) m n in
          absurd (clash (all_met S.states _ listed (sets_left _ listed).fit))

  -- so a state of the blocker's backward set that is outside b is in X's
  taken_back : (s : ℕ) → s < S.symbols → Outside (b_of s) (S.backward s X) (S.backward s Y)
  taken_back s l q out i =
      let has : HasRow (rows s) q Y = (backward_members (rows s) Y q).0 (subst (Member q) (asked.backward_of s Y l) i) in
      let free = subst (λ (p : ℕ). Member p (b_of s) → ⊥) (sym has.leads.state) out in
      subst (Member q) (sym (asked.backward_of s X l))
      ((backward_members (rows s) X q).1
      (record {
        row = has.row;
        listed = has.listed;
        leads = record { state = has.leads.state; inside = avoids (row_forbidden l has.listed free) has.leads.inside };
      }))

-- "Show that it passes the block test whenever X does"
pub by_hitting_set_sound : (S : System) (rows : RowSource) → FromRows S rows → Sound S (by_hitting_set S rows)
unfolding by_hitting_set
by_hitting_set_sound S rows asked table below X t =
    let own = passes_means S table below X X t in
    let inside = keeps_X asked table below X own.inside in
    let grown = Y asked table below X in
    means_passes S table below X grown
    (record {
      contains = inside;
      clear = λ i. own.clear (avoids asked table below X (initial_forbidden asked table below X) i);
      inside = others_within S.states _;
      backward = λ s l. larger _ _ inside
          (cover_held S table X (S.backward s X) _ _ (taken_back asked table below X s l) below
          (cover_kept S.states _ table below X _) (own.backward s l));
    })
  where
    larger : (Z grown : ℕ) → T (subset X grown) → T (subset Z X) ⊎ Blocked S table below Z → T (subset Z grown) ⊎ Blocked S table below Z
    larger Z grown k (inl i) = inl (subset_transitive Z X grown i k)
    larger Z grown k (inr b) = inr b

-- a valid image is such a system with its rows
pub image_rows : (image : List ℕ) → Valid image → FromRows (system_of image) (rows_of image)
image_rows image valid =
    let proper = valid_proper image valid in
    record {
      initial_within = proper.initial_within;
      case_within = proper.row_case;
      backward_of = λ s X l. refl;
    }

-- so each way to grow is sound on it
pub growth_sound : (image : List ℕ) → Valid image → (way : ℕ) → Sound (system_of image) (growth_of way (system_of image) (rows_of image))
unfolding growth_of
growth_sound image valid zero = by_states_sound (system_of image)
growth_sound image valid (suc way) = by_hitting_set_sound (system_of image) (rows_of image) (image_rows image valid)

-- the cases of rows outside b, and no others, are forbidden beside I
module _ (image : List ℕ) (table : List Blocker) (below X : ℕ) where
  abbrev cover_of : ℕ → ℕ
  cover_of s = cover (states_of image) (initial_of image) table below X (backward (rows_of image s) X)

  outside_each : (count first : ℕ) → first + count ≤ symbols_of image
      → Each (RowOutside image cover_of) (cases_from (system_of image) (rows_of image) table below X count first)
  unfolding cases_from cases_outside
  outside_each zero first l = λ case m. absurd (in_none m)
  outside_each (suc count) first l =
      each_joined (cases_outside (cover_of first) (rows_of image first))
      (column_each (λ row. row.case) (RowOutside image cover_of) _
      (λ row m. let kept = keep_in (λ row. neg (member row.state (cover_of first))) (rows_of image first) m in record {
        symbol = first;
        known = omega arith;
        row = row;
        listed = kept.0;
        outside = λ i. neg_fails _ kept.1 ((member_means row.state (cover_of first)).1 i);
        its_case = refl;
      }))
      (outside_each count (suc first) (omega arith))

  forbidden_each : Each (λ case. (case ≡ initial_of image) ⊎ RowOutside image cover_of case) (forbidden (system_of image) (rows_of image) table below X)
  unfolding forbidden
  forbidden_each = each_more (inl refl) (λ case m. inr (outside_each (symbols_of image) 0 (omega arith) case m))

  pub hits : Valid image → HittingPromises image table below X cover_of
      (picked (states_of image) (to_meet (system_of image) (rows_of image) table below X)) (growth_of 1 (system_of image) (rows_of image) table below X)
  unfolding growth_of by_hitting_set
  hits valid =
      let asked = image_rows image valid in
      record {
        covers = λ s. cover_kept (states_of image) (initial_of image) table below X (backward (rows_of image s) X);
        forbids = λ case. (forbidden_each case, by asked case);
        all_met = λ set m. all_met (states_of image) _ m (sets_left asked table below X set m).fit;
        not_picked = λ q. others_members (states_of image) _ q;
      }
    where
      by : FromRows (system_of image) (rows_of image) → (case : ℕ) → (case ≡ initial_of image) ⊎ RowOutside image cover_of case
          → case ∈ forbidden (system_of image) (rows_of image) table below X
      by asked case (inl e) = rw e (initial_forbidden asked table below X)
      by asked case (inr r) = rw r.its_case (row_forbidden asked table below X r.known r.listed r.outside)
