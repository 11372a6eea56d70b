-- The picks: the sets that are left when a state was picked, and the states picked. Assumes nothing.
use Prim.Native.Nat.{ℕ, zero, suc, ◌+◌, ◌-◌, ◌≤◌, ◌<◌}
use mathlib.Core.Path.{◌≡◌, refl, sym, ap, ◌∙◌}
use mathlib.Core.Bool.{Bool, true, false}
use mathlib.Core.List.{List, [], ◌∷◌, ◌++◌, append-nil}
use native.Mathlib.Nat.{sub-zero}
use native.Mathlib.Numerals.{add-one}
use native.Mathlib.Omega.{arith}
use lib.ListN.{length, length-append, get_or, take, drop, set, drop_of_length-le}
use lib.Seq.{length-take-le, take_all, take-suc-set, append_snoc, get_or-set_other}
use Rattle.std.proofs.lemmas.List.{take-append-le}
use Rattle.lists.specs.Tests.{neg, choose}
use Rattle.lists.specs.Lists.{keep}
use Rattle.lists.proofs.Lists.{drop_first}
use Rattle.masks.specs.Sets.{member, union, single}
use Rattle.machine.specs.Hitting.{best, unmet, picked_from, picked}
use Rattle.hitting.specs.Sets.{Gathered, Best}

-- The sets without the state as they close up, before place i: those of the places before i stand first, and the places from i on are as they were.
pub record ClosingUp (before : List ℕ) (q kept i : ℕ) (table : List ℕ) : Type 0 where
  pub order : kept ≤ i
  pub ahead : (j : ℕ) → i ≤ j → get_or table j 0 ≡ get_or before j 0
  pub rest : take kept table ++ unmet q (drop i before) ≡ unmet q before

module _ {before : List ℕ} {q kept i : ℕ} {table : List ℕ} (so_far : ClosingUp before q kept i table) where
  -- the set at i is the one that stood there
  as_before : {test : Bool} → (b : Bool) → test ≡ member q (get_or table i 0) → test ≡ b → member q (get_or before i 0) ≡ b
  as_before b e t = sym (ap (member q) (so_far.ahead i (omega arith))) ∙ sym e ∙ t

  -- the state meets the set at i, which is given up
  pub unmet_leaves : (test : Bool) → i < length before → test ≡ member q (get_or table i 0) → test ≡ true → ClosingUp before q kept (i + 1) table
  unfolding unmet keep choose neg
  unmet_leaves test l e t =
      let met = as_before true e t in
      let step : unmet q (drop i before) ≡ unmet q (drop (i + 1) before) = rw (drop_first before i l, met) in
      record {
        order = omega (arith, so_far.order);
        ahead = λ j h. so_far.ahead j (omega arith);
        rest = ap (λ (rest : List ℕ). take kept table ++ rest) (sym step) ∙ so_far.rest;
      }

  -- it does not, and the set stands behind those kept
  pub unmet_stays : (test : Bool) → i < length before → length table ≡ length before → test ≡ member q (get_or table i 0) → test ≡ false
      → ClosingUp before q (kept + 1) (i + 1) (set table kept (get_or table i 0))
  unfolding unmet keep choose neg
  unmet_stays test l same e f =
      let free = as_before false e f in
      let step : unmet q (drop i before) ≡ get_or before i 0 ∷ unmet q (drop (i + 1) before) = rw (drop_first before i l, free) in
      let front : take (kept + 1) (set table kept (get_or table i 0)) ≡ take kept table ++ (get_or before i 0 ∷ []) =
      ap (λ (k : ℕ). take k (set table kept (get_or table i 0))) (add-one kept)
      ∙ take-suc-set table kept (get_or table i 0) (omega (arith, so_far.order))
      ∙ ap (λ (one : ℕ). take kept table ++ (one ∷ [])) (so_far.ahead i (omega arith)) in
      record {
        order = omega (arith, so_far.order);
        ahead = λ j h. get_or-set_other table kept j (get_or table i 0) 0 (omega (arith, so_far.order)) ∙ so_far.ahead j (omega arith);
        rest =
            ap (λ (first : List ℕ). first ++ unmet q (drop (i + 1) before)) front
            ∙ append_snoc (take kept table) (get_or before i 0) (unmet q (drop (i + 1) before))
            ∙ ap (λ (rest : List ℕ). take kept table ++ rest) (sym step)
            ∙ so_far.rest;
      }

  -- there is no further set
  pub unmet_ends : length before ≤ i → i ≤ length before → length table ≡ length before → Gathered (unmet q before) kept table
  unfolding unmet keep
  unmet_ends l inside same =
      let none : unmet q (drop i before) ≡ [] = rw (drop_of_length-le before l) in
      record {
        stands = sym (append-nil (take kept table)) ∙ ap (λ (rest : List ℕ). take kept table ++ rest) (sym none) ∙ so_far.rest;
        fits = omega (arith, so_far.order);
      }

-- the picks, before a turn: of the first `left` sets the other turns pick what is still to be picked of all
pub record Picking (n : ℕ) (before : List ℕ) (left so_far turn : ℕ) (table : List ℕ) : Type 0 where
  pub fits : left ≤ length table
  pub rest : picked_from n (length before - turn) (take left table) so_far ≡ picked n before

-- none is picked, before the first turn
pub picks_start : {n : ℕ} {table : List ℕ} → Picking n table (length table) 0 0 table
unfolding picked
picks_start {n} {table} =
    record {
      fits = omega arith;
      rest =
          ap (λ (sets : List ℕ). picked_from n (length table - 0) sets 0) (take_all (length table) table (omega arith))
          ∙ ap (λ (turns : ℕ). picked_from n turns table 0) (sub-zero (length table));
    }

-- one turn, where a set is left
one_pick : (n turns : ℕ) (sets : List ℕ) (so_far : ℕ) → (length sets ≡ 0 → ⊥)
    → picked_from n (suc turns) sets so_far ≡ picked_from n turns (unmet (best n sets) sets) (union so_far (single (best n sets)))
unfolding picked_from
one_pick n turns [] so_far f = absurd (f refl)
one_pick n turns (one ∷ sets) so_far f = refl

-- the other turns, where none is
no_pick : (n turns : ℕ) (sets : List ℕ) (so_far : ℕ) → length sets ≡ 0 → picked_from n turns sets so_far ≡ so_far
unfolding picked_from
no_pick n zero sets so_far e = refl
no_pick n (suc turns) [] so_far e = refl
no_pick n (suc turns) (one ∷ sets) so_far e = absurd (omega arith)

module _ {n : ℕ} {before : List ℕ} {left so_far turn : ℕ} {table : List ℕ} (picking : Picking n before left so_far turn table) where
  -- the part that is left
  part_left : left ≡ length (take left table)
  part_left = sym (length-take-le left table picking.fits)

  -- all are met
  pub picks_done : left ≡ 0 → so_far ≡ picked n before
  picks_done z = sym (no_pick n (length before - turn) (take left table) so_far (sym part_left ∙ z)) ∙ picking.rest

  -- one pick more
  pub picks_go : (q fewer more : ℕ) (part : List ℕ) → turn < length before → (left ≡ 0 → ⊥) → Best n (take left table) q
      → Gathered (unmet q (take left table)) fewer part → more ≡ union so_far (single q)
      → Picking n before fewer more (turn + 1) (part ++ drop left table)
  unfolding unmet
  picks_go q fewer more part l some pick gathered e =
      let turns : length before - turn ≡ suc (length before - (turn + 1)) = omega arith in
      let step : picked_from n (length before - turn) (take left table) so_far
      ≡ picked_from n (length before - (turn + 1)) (unmet q (take left table)) (union so_far (single q)) =
      ap (λ (k : ℕ). picked_from n k (take left table) so_far) turns
      ∙ one_pick n (length before - (turn + 1)) (take left table) so_far (λ z. some (part_left ∙ z))
      ∙ ap (λ (p : ℕ). picked_from n (length before - (turn + 1)) (unmet p (take left table)) (union so_far (single p))) (sym pick.is_best) in
      record {
        fits = omega (arith, gathered.fits, length-append part (drop left table));
        rest =
            ap (λ (sets : List ℕ). picked_from n (length before - (turn + 1)) sets more)
            (take-append-le fewer part (drop left table) gathered.fits ∙ gathered.stands)
            ∙ ap (picked_from n (length before - (turn + 1)) (unmet q (take left table))) e
            ∙ sym step
            ∙ picking.rest;
      }

  -- there is no further turn
  pub picks_end : length before ≤ turn → so_far ≡ picked n before
  unfolding picked_from
  picks_end l = let none : length before - turn ≡ 0 = omega arith in rw none at picking.rest
