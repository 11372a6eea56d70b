-- Counts of all states at once, as planes: what one more set makes of them, that they are the numbers of sets met, and which states narrowing leaves.
-- Assumes nothing.
use Prim.Native.Nat.{ℕ, zero, suc, ◌+◌, ◌*◌, ◌^◌, ◌≤◌, ◌<◌, min}
use mathlib.Core.Path.{◌≡◌, refl, sym, ap, subst, ◌∙◌}
use mathlib.Core.Bool.{false}
use mathlib.Core.List.{List, [], ◌∷◌, ◌++◌, append-nil}
use mathlib.Core.Option.{some}
use native.Mathlib.Decide.{ℕ_discrete, dec_le}
use native.Mathlib.Nat.{pow-suc}
use native.Mathlib.Numerals.{add-one}
use native.Mathlib.Omega.{arith}
use borrow.Author.Tests.{eq-eqb, ne_eqb}
use lib.Bits.{bit_and, bit_xor, differ, and_zero_r, xor_zero_r}
use lib.Dec.{T}
use lib.ListN.{length, get_or, take, drop, set, replicate, take-append-drop, drop_of_length-le}
use lib.Seq.{take_all, take-suc-set, drop-cons, drop-set-lt, append_snoc}
use Rattle.lists.specs.Tests.{choose}
use Rattle.lists.specs.Lists.{keep}
use Rattle.lists.proofs.Tests.{is_true, is_false, choose_true, choose_false}
use Rattle.lists.proofs.Lists.{keep_length, drop_first}
use Rattle.masks.specs.Sets.{digit, Member, member, subset, full, absent, lowest_absent}
use Rattle.masks.proofs.Digits.{digit_and, digit_xor, digit_zero, digit_above}
use Rattle.masks.proofs.Laws.{member_means, subset_members, empty_members, no_members, full_members, absent_means, lowest_found}
use Rattle.machine.specs.Hitting.{meets}
use Rattle.machine.proofs.Greedy.{best_one}
use Rattle.std.specs.List.{fold}
use Rattle.std.specs.Prelude.{reverse}
use Rattle.std.proofs.lemmas.List.{set-get_or, reverse-append}
use Rattle.std.proofs.lemmas.List.Sums.{fold-append}
use Rattle.hitting.specs.Sets.{with_carry, count_all, narrowed, highest, Best}

-- no carry changes no plane
carry_nothing : (planes : List ℕ) → with_carry 0 planes ≡ planes
unfolding with_carry
carry_nothing [] = refl
carry_nothing (plane ∷ planes) = rw (xor_zero_r plane, and_zero_r plane, carry_nothing planes)

-- the carry on its way, at plane j: the planes before it have the set counted, and it is to be added to the others
pub record Carrying (before : List ℕ) (one carry j : ℕ) (planes : List ℕ) : Type 0 where
  pub whole : take j planes ++ with_carry carry (drop j planes) ≡ with_carry one before

module _ {before : List ℕ} {one carry j : ℕ} {planes : List ℕ} (so_far : Carrying before one carry j planes) where
  -- nothing is carried on: the set is counted
  pub carry_stops : carry ≡ 0 → set planes j (get_or planes j 0) ≡ with_carry one before
  carry_stops z =
      set-get_or planes j 0
      ∙ sym (take-append-drop j planes)
      ∙ ap (λ (rest : List ℕ). take j planes ++ rest) (sym (carry_nothing (drop j planes)))
      ∙ ap (λ (c : ℕ). take j planes ++ with_carry c (drop j planes)) (sym z)
      ∙ so_far.whole

  -- it goes on to the next plane
  pub carry_goes : j < length planes
      → Carrying before one (bit_and (get_or planes j 0) carry) (j + 1) (set planes j (bit_xor (get_or planes j 0) carry))
  unfolding with_carry
  carry_goes l =
      record {
        whole =
            ap (λ (k : ℕ). take k after ++ with_carry both (drop k after)) (add-one j)
            ∙ ap (λ (rest : List ℕ). take (suc j) after ++ with_carry both rest) (drop-set-lt (suc j) planes j sum (omega arith))
            ∙ ap (λ (front : List ℕ). front ++ with_carry both (drop (suc j) planes)) (take-suc-set planes j sum l)
            ∙ append_snoc (take j planes) sum (with_carry both (drop (suc j) planes))
            ∙ ap (λ (rest : List ℕ). take j planes ++ with_carry carry rest) (sym (drop-cons planes j 0 l))
            ∙ so_far.whole;
      }
    where
      sum : ℕ
      sum = bit_xor (get_or planes j 0) carry

      both : ℕ
      both = bit_and (get_or planes j 0) carry

      after : List ℕ
      after = set planes j sum

  -- there is no further plane
  pub carry_ends : length planes ≤ j → planes ≡ with_carry one before
  unfolding with_carry
  carry_ends l =
      sym (append-nil planes)
      ∙ ap (λ (front : List ℕ). front ++ []) (sym (take_all j planes l))
      ∙ ap (λ (rest : List ℕ). take j planes ++ with_carry carry rest) (sym (drop_of_length-le planes l))
      ∙ so_far.whole

-- the sets counted on the way, at place i: those from there on are still to be
pub record CountingSets (before sets : List ℕ) (i : ℕ) (planes : List ℕ) : Type 0 where
  pub rest : count_all planes (drop i sets) ≡ count_all before sets

module _ {before sets : List ℕ} {i : ℕ} {planes : List ℕ} (so_far : CountingSets before sets i planes) where
  -- one set more
  pub counts_go : (after : List ℕ) → i < length sets → after ≡ with_carry (get_or sets i 0) planes → CountingSets before sets (i + 1) after
  unfolding count_all
  counts_go after l e = record {
    rest =
        ap (λ (now : List ℕ). count_all now (drop (i + 1) sets)) e
        ∙ ap (count_all planes) (sym (drop_first sets i l))
        ∙ so_far.rest;
  }

  -- there is no further set
  pub counts_end : length sets ≤ i → planes ≡ count_all before sets
  unfolding count_all
  counts_end l = ap (count_all planes) (sym (drop_of_length-le sets l)) ∙ so_far.rest

-- narrowing where none of the states is in the plane, and where some are
pub narrows_none : (states plane : ℕ) → bit_and states plane ≡ 0 → states ≡ narrowed states plane
unfolding narrowed
narrows_none states plane e = sym (choose_true states (bit_and states plane) (eq-eqb (bit_and states plane) 0 e))

pub narrows_some : (states plane : ℕ) → (bit_and states plane ≡ 0 → ⊥) → bit_and states plane ≡ narrowed states plane
unfolding narrowed
narrows_some states plane f = sym (choose_false states (bit_and states plane) (ne_eqb (bit_and states plane) 0 f))

-- narrowing by plane after plane, from the last to the first
pub highest_folded : (states : ℕ) (planes : List ℕ) → fold narrowed states (reverse planes) ≡ highest states planes
unfolding highest
highest_folded states [] = refl
highest_folded states (plane ∷ planes) =
    ap (fold narrowed states) (reverse-append (plane ∷ []) planes) ∙ fold-append narrowed states (reverse planes) (plane ∷ []) ∙ ap (λ (left : ℕ). narrowed left plane) (highest_folded states planes)

-- the count of a state that the planes hold
unfoldable tally : ℕ → List ℕ → ℕ
tally q [] = 0
tally q (plane ∷ planes) = digit plane q + 2 * tally q planes

-- a sum of two digits is their difference and a carry
two_digits : (x y : ℕ) → x < 2 → y < 2 → differ x y + 2 * min x y ≡ x + y
two_digits zero y k l = omega arith
two_digits (suc zero) zero k l = omega arith
two_digits (suc zero) (suc zero) k l = omega arith
two_digits (suc zero) (suc (suc y)) k l = absurd (omega arith)
two_digits (suc (suc x)) y k l = absurd (omega arith)

-- there are as many planes as before
carry_length : (carry : ℕ) (planes : List ℕ) → length (with_carry carry planes) ≡ length planes
unfolding with_carry
carry_length carry [] = refl
carry_length carry (plane ∷ planes) = ap suc (carry_length (bit_and plane carry) planes)

-- a carry adds one to the count of each of its states, where the planes are enough for it
tally_carry : (q carry : ℕ) (planes : List ℕ) → tally q planes + digit carry q < 2 ^ length planes
    → tally q (with_carry carry planes) ≡ tally q planes + digit carry q
unfolding tally with_carry
tally_carry q carry [] l = omega arith
tally_carry q carry (plane ∷ planes) l =
    let sum = two_digits (digit plane q) (digit carry q) (omega arith) (omega arith) in
    let room : tally q planes + digit (bit_and plane carry) q < 2 ^ length planes =
    omega (arith, pow-suc 2 (length planes), digit_and plane carry q) in
    omega (arith, tally_carry q (bit_and plane carry) planes room, digit_and plane carry q, digit_xor plane carry q, sum)

-- one set more is one more met by each of its states
meets_first : (q one : ℕ) (sets : List ℕ) → meets (one ∷ sets) q ≡ digit one q + meets sets q
unfolding meets keep
meets_first q one sets = at (digit one q) refl (omega arith)
  where
    at : (d : ℕ) → digit one q ≡ d → d < 2
        → length (choose (member q one) (one ∷ keep (member q) sets) (keep (member q) sets)) ≡ d + length (keep (member q) sets)
    at zero e l = ap length (choose_false _ _ (is_false (member q one) (λ t. let i = (member_means q one).0 t in omega arith))) ∙ omega arith
    at (suc d) e l = ap length (choose_true _ _ (is_true (member q one) ((member_means q one).1 (omega arith)))) ∙ omega arith

-- of no sets none is met
meets_none : (q : ℕ) → meets [] q ≡ 0
unfolding meets keep
meets_none q = refl

-- so the planes count the sets that each state meets, where they are enough for all
tally_all : (q : ℕ) (planes sets : List ℕ) → tally q planes + meets sets q < 2 ^ length planes
    → tally q (count_all planes sets) ≡ tally q planes + meets sets q
unfolding count_all
tally_all q planes [] l = sym (omega (arith, meets_none q))
tally_all q planes (one ∷ sets) l =
    let first = meets_first q one sets in
    let added = tally_carry q one planes (omega arith) in
    let room : tally q (with_carry one planes) + meets sets q < 2 ^ length (with_carry one planes) =
    rw (carry_length one planes) (omega arith) in
    omega (arith, tally_all q (with_carry one planes) sets room)

-- planes that are all 0 hold no counts
tally_nothing : (q k : ℕ) → tally q (replicate k 0) ≡ 0
unfolding tally
tally_nothing q zero = refl
tally_nothing q (suc k) = omega (arith, digit_zero q, tally_nothing q k)

-- thirteen planes are enough for fewer than 8,192 sets
tally_meets : (q : ℕ) (sets : List ℕ) → length sets < 8192 → tally q (count_all (replicate 13 0) sets) ≡ meets sets q
unfolding meets
tally_meets q sets l =
    let none = tally_nothing q 13 in
    omega (arith, tally_all q (replicate 13 0) sets (omega (arith, keep_length (member q) sets)))

-- the states left are those of the states whose count is the highest
record Highest (states : ℕ) (planes : List ℕ) (left : ℕ) : Type 0 where
  inside : (q : ℕ) → Member q left → Member q states
  most : (q p : ℕ) → Member q left → Member p states → tally p planes ≤ tally q planes
  ties : (q p : ℕ) → Member q left → Member p states → tally q planes ≤ tally p planes → Member p left
  nonempty : (states ≡ 0 → ⊥) → left ≡ 0 → ⊥

-- one plane more, below the others: none of the states left is in it, or some are
module _ {states : ℕ} {planes : List ℕ} {left : ℕ} (so_far : Highest states planes left) (plane : ℕ) where
  highest_none : bit_and left plane ≡ 0 → Highest states (plane ∷ planes) left
  unfolding tally
  highest_none e =
      record {
        inside = so_far.inside;
        most = λ q p i s. at q p i s (dec_le (tally q planes) (tally p planes));
        ties = λ q p i s h. so_far.ties q p i s (omega (arith, outside q i));
        nonempty = so_far.nonempty;
      }
    where
      outside : (q : ℕ) → Member q left → digit plane q ≡ 0
      outside q i = omega (arith, ap (λ (both : ℕ). digit both q) e, digit_zero q, digit_and left plane q)

      at : (q p : ℕ) → Member q left → Member p states → Dec (tally q planes ≤ tally p planes)
          → digit plane p + 2 * tally p planes ≤ digit plane q + 2 * tally q planes
      at q p i s (yes h) = omega (arith, outside p (so_far.ties q p i s h), so_far.most q p i s)
      at q p i s (no h) = omega arith

  highest_some : (bit_and left plane ≡ 0 → ⊥) → Highest states (plane ∷ planes) (bit_and left plane)
  unfolding tally
  highest_some f =
      record {
        inside = λ q i. so_far.inside q (first q i);
        most = λ q p i s. omega (arith, second q i, so_far.most q p (first q i) s);
        ties = λ q p i s h.
            let more = so_far.most q p (first q i) s in
            let tie = so_far.ties q p (first q i) s (omega (arith, second q i)) in
            omega (arith, digit_and left plane p, second q i);
        nonempty = λ g. f;
      }
    where
      first : (q : ℕ) → Member q (bit_and left plane) → Member q left
      first q i = omega (arith, digit_and left plane q)

      second : (q : ℕ) → Member q (bit_and left plane) → Member q plane
      second q i = omega (arith, digit_and left plane q)

-- so narrowing by each plane, from the last to the first, leaves them
highest_left : (states : ℕ) (planes : List ℕ) → Highest states planes (highest states planes)
unfolding highest tally
highest_left states [] =
    record { inside = λ q i. i; most = λ q p i s. omega arith; ties = λ q p i s h. s; nonempty = λ f. f }
highest_left states (plane ∷ planes) = at (highest_left states planes) (ℕ_discrete (bit_and (highest states planes) plane) 0)
  where
    at : Highest states planes (highest states planes) → Dec (bit_and (highest states planes) plane ≡ 0)
        → Highest states (plane ∷ planes) (narrowed (highest states planes) plane)
    at rec (yes e) = subst (Highest states (plane ∷ planes)) (narrows_none _ plane e) (highest_none rec plane e)
    at rec (no f) = subst (Highest states (plane ∷ planes)) (narrows_some _ plane f) (highest_some rec plane f)

-- what is left of n states: there is one
module _ (n : ℕ) (planes : List ℕ) (states left : ℕ) (all : states ≡ full n) (narrow : left ≡ highest states planes) where
  pub some_highest : 1 ≤ n → subset left 0 ≡ false
  some_highest l = is_false (subset left 0) (λ t. (highest_left states planes).nonempty filled (sym narrow ∙ empty t))
    where
      filled : states ≡ 0 → ⊥
      filled z = empty_members 0 (subst (Member 0) (sym all ∙ z) ((full_members n 0).1 l))

      empty : T (subset left 0) → left ≡ 0
      empty t = no_members left (λ q i. empty_members q (subset_members left 0 t q i))

  -- and with all sets counted the lowest is the one to pick
  pub lowest_highest : (sets : List ℕ) (state : ℕ) → left < 2 ^ 64 → length sets < 8192 → planes ≡ count_all (replicate 13 0) sets
      → lowest_absent left 0 ≡ some state → Best n sets state
  lowest_highest sets state narrow_left few counted e =
      record {
        is_best = best_one n state sets (record {
          is_state = state_of state chosen;
          most = λ q l. omega (arith, counts q, counts state, left_highest.most state q chosen (of_state q l));
          lowest = λ q l. at q l (dec_le (meets sets state) (meets sets q));
        });
        fits = digit_above 64 left narrow_left state chosen;
      }
    where
      left_highest : Highest states planes left
      left_highest = subst (Highest states planes) (sym narrow) (highest_left states planes)

      counts : (q : ℕ) → tally q planes ≡ meets sets q
      counts q = ap (tally q) counted ∙ tally_meets q sets few

      found : T (absent left 0 state) × ((p : ℕ) → p < state → T (absent left 0 p) → ⊥)
      found = lowest_found left 0 state e

      chosen : Member state left
      chosen = ((absent_means left 0 state).0 found.0).0

      of_state : (q : ℕ) → q < n → Member q states
      of_state q l = subst (Member q) (sym all) ((full_members n q).1 l)

      state_of : (q : ℕ) → Member q left → q < n
      state_of q i = (full_members n q).0 (subst (Member q) all (left_highest.inside q i))

      at : (q : ℕ) → q < state → Dec (meets sets state ≤ meets sets q)
          → meets sets q < meets sets state
      at q l (no k) = omega arith
      at q l (yes k) =
          let tie = left_highest.ties state q chosen (of_state q (omega (arith, state_of state chosen))) (omega (arith, counts q, counts state)) in
          absurd (found.1 q l ((absent_means left 0 q).1 (tie, empty_members q)))
