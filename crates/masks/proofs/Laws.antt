-- The laws of sets of states, for every number of states at once. Each says a set by its members or a test by what it means. Assumes nothing.
use Prim.Native.Nat.{ℕ, zero, suc, ◌+◌, ◌-◌, ◌*◌, ◌/◌, ◌%◌, ◌^◌, ◌≤◌, ◌<◌, min, max}
use mathlib.Core.Path.{◌≡◌, refl, sym, ap, subst, ◌∙◌}
use mathlib.Core.Bool.{Bool, true, false}
use mathlib.Core.Logic.{◌⊎◌, inl, inr, ◌↔◌}
use mathlib.Core.Option.{Option, none, some}
use native.Mathlib.Nat.{zero-mul, zero-mod, one-mul, mod-eq_of_lt, lt_of_lt_of_le, pow-suc}
use native.Mathlib.Decide.{ℕ_discrete, dec_le}
use native.Mathlib.Omega.{arith}
use borrow.Author.Tests.{lt-ltb}
use lib.Bits.{bit_and, bit_or, bit_xor, differ, and_comm, and_mask, or_zero_r}
use lib.Count.{count_trailing_zeros, trailing_le}
use lib.Dec.{T, eqb, leb, ltb, eqb→eq, eqb_refl, ltb→lt, lt→ltb, leb-suc-suc}
use lib.Pow.{pow-lt, pow_mono, suc_ones, ones_split, ones_lt, high}
use mir.Val.{bool_byte}
use Rattle.lists.specs.Tests.{choose}
use Rattle.lists.proofs.Tests.{holds, fails, same_test, decide, and_left, and_right, and_both, neg_fails, fails_neg}
use Rattle.lists.proofs.Lists.{first_from_none, first_from_some, first_from_before, first_from_least}
use Rattle.masks.specs.Sets.{digit, Member, member, subset, union, without, single, full, within, absent, lowest_absent}
use Rattle.masks.proofs.Digits.{digit_and, digit_or, digit_xor, digit_zero, same_digits, digit_power_self, digit_power_other, digit_above}
use Rattle.masks.proofs.Digits.{below_power, trailing_set, trailing_zero}

equal_test : (a b : ℕ) → a ≡ b → T (eqb a b)
equal_test a b e = subst (λ (x : ℕ). T (eqb a x)) e (eqb_refl a)

-- member: the test says whether the state is in the set
pub member_means : (q set : ℕ) → T (member q set) ↔ Member q set
unfolding member
member_means q set = (eqb→eq (digit set q) 1, equal_test (digit set q) 1)

-- subset: the test says whether each state of a is in b
pub subset_members : (a b : ℕ) → T (subset a b) → (q : ℕ) → Member q a → Member q b
unfolding subset
subset_members a b h q i = omega (arith, digit_and a b q, ap (λ (x : ℕ). digit x q) (eqb→eq (bit_and a b) a h))

least : (x y : ℕ) → x < 2 → y < 2 → (x ≡ 1 → y ≡ 1) → min x y ≡ x
least zero y hx hy f = omega arith
least (suc x) y hx hy f = omega (arith, f (omega arith))

pub members_subset : (a b : ℕ) → ((q : ℕ) → Member q a → Member q b) → T (subset a b)
unfolding subset
members_subset a b f =
    equal_test (bit_and a b) a
    (same_digits (bit_and a b) a (λ q. digit_and a b q ∙ least (digit a q) (digit b q) (omega arith) (omega arith) (f q)))

pub subset_means : (a b : ℕ) → T (subset a b) ↔ ((q : ℕ) → Member q a → Member q b)
subset_means a b = (subset_members a b, members_subset a b)

pub subset_reflexive : (a : ℕ) → T (subset a a)
subset_reflexive a = members_subset a a (λ q i. i)

pub subset_transitive : (a b c : ℕ) → T (subset a b) → T (subset b c) → T (subset a c)
subset_transitive a b c h k = members_subset a c (λ q i. subset_members b c k q (subset_members a b h q i))

pub subset_antisymmetric : (a b : ℕ) → T (subset a b) → T (subset b a) → a ≡ b
unfolding subset
subset_antisymmetric a b h k = sym (eqb→eq (bit_and a b) a h) ∙ and_comm a b ∙ eqb→eq (bit_and b a) b k

-- no state is in the empty set, and in no other
pub empty_members : (q : ℕ) → Member q 0 → ⊥
empty_members q i = omega (arith, digit_zero q)

pub no_members : (set : ℕ) → ((q : ℕ) → Member q set → ⊥) → set ≡ 0
no_members set f =
    subset_antisymmetric set 0 (members_subset set 0 (λ q i. absurd (f q i))) (members_subset 0 set (λ q i. absurd (empty_members q i)))

-- union: a state is in it exactly if it is in either set
pub union_members : (a b q : ℕ) → Member q (union a b) ↔ (Member q a ⊎ Member q b)
unfolding union
union_members a b q = (to, from)
  where
    pick : (x y : ℕ) → x < 2 → y < 2 → max x y ≡ 1 → (x ≡ 1) ⊎ (y ≡ 1)
    pick zero y hx hy e = inr (omega arith)
    pick (suc x) y hx hy e = inl (omega arith)

    to : Member q (bit_or a b) → Member q a ⊎ Member q b
    to h = pick (digit a q) (digit b q) (omega arith) (omega arith) (sym (digit_or a b q) ∙ h)

    from : Member q a ⊎ Member q b → Member q (bit_or a b)
    from (inl h) = digit_or a b q ∙ omega arith
    from (inr h) = digit_or a b q ∙ omega arith

-- without: a state is in it exactly if it is in the first set and not in the second
pub without_members : (a b q : ℕ) → Member q (without a b) ↔ (Member q a × (Member q b → ⊥))
unfolding without
without_members a b q = (
  λ m. to (digit a q) (digit b q) (digit (bit_and a b) q) (digit_and a b q) (omega arith) (sym digits ∙ m),
  λ h. digits ∙ from (digit a q) (digit b q) (digit (bit_and a b) q) (digit_and a b q) (omega arith) h.0 h.1,
)
  where
    digits : digit (bit_xor (bit_and a b) a) q ≡ differ (digit (bit_and a b) q) (digit a q)
    digits = digit_xor (bit_and a b) a q

    to : (x y both : ℕ) → both ≡ min x y → x < 2 → differ both x ≡ 1 → (x ≡ 1) × (y ≡ 1 → ⊥)
    to zero y zero m l e = absurd (omega arith)
    to (suc x) y zero m l e = (e, λ h. omega arith)
    to zero y (suc both) m l e = absurd (omega arith)
    to (suc zero) y (suc zero) m l e = absurd (omega arith)
    to (suc zero) y (suc (suc both)) m l e = absurd (omega arith)
    to (suc (suc x)) y (suc both) m l e = absurd (omega arith)

    from : (x y both : ℕ) → both ≡ min x y → y < 2 → x ≡ 1 → (y ≡ 1 → ⊥) → differ both x ≡ 1
    from x zero zero m l e f = e
    from x zero (suc both) m l e f = absurd (omega arith)
    from x (suc zero) both m l e f = absurd (f refl)
    from x (suc (suc y)) both m l e f = absurd (omega arith)

-- single: its one state
pub single_members : (q p : ℕ) → Member p (single q) ↔ (p ≡ q)
unfolding single
single_members q p = (to (ℕ_discrete p q), λ e. ap (λ (x : ℕ). digit (2 ^ q) x) e ∙ digit_power_self q)
  where
    to : Dec (p ≡ q) → Member p (2 ^ q) → p ≡ q
    to (yes e) h = e
    to (no n) h = absurd (omega (arith, digit_power_other q p n))

-- within: the test says whether each state of the set is below n
pub within_members : (n set : ℕ) → T (within n set) → (q : ℕ) → Member q set → q < n
unfolding within
within_members n set h = digit_above n set (ltb→lt set (2 ^ n) h)

pub members_within : (n set : ℕ) → ((q : ℕ) → Member q set → q < n) → T (within n set)
unfolding within
members_within n set f = lt→ltb set (2 ^ n) (below_power n set f)

pub within_means : (n set : ℕ) → T (within n set) ↔ ((q : ℕ) → Member q set → q < n)
within_means n set = (within_members n set, members_within n set)

-- as a number: such a set is below 2 ^ n
pub within_below : (n set : ℕ) → T (within n set) → set < 2 ^ n
unfolding within
within_below n set h = ltb→lt set (2 ^ n) h

pub below_within : (n set : ℕ) → set < 2 ^ n → T (within n set)
unfolding within
below_within n set h = lt→ltb set (2 ^ n) h

pub single_within : (n q : ℕ) → q < n → T (within n (single q))
single_within n q h = members_within n (single q) (λ p i. subst (λ (x : ℕ). x < n) (sym ((single_members q p).0 i)) h)

-- full: exactly the states below n, so the sets within n are its subsets
pub full_within : (n : ℕ) → T (within n (full n))
unfolding full
full_within n = below_within n (2 ^ n - 1) (ones_lt n)

pub within_full : (n set : ℕ) → T (within n set) → T (subset set (full n))
unfolding full subset
within_full n set h =
    equal_test (bit_and set (2 ^ n - 1)) set (and_mask set n ∙ mod-eq_of_lt (within_below n set h))

pub suc_full : (n : ℕ) → suc (full n) ≡ 2 ^ n
unfolding full
suc_full n = suc_ones n

pub full_members : (n q : ℕ) → Member q (full n) ↔ (q < n)
full_members n q = (
  within_members n (full n) (full_within n) q,
  λ l. subset_members (single q) (full n) (within_full n (single q) (single_within n q l)) q ((single_members q q).1 refl),
)

-- of the n states those that are not in a set
pub others_members : (n set q : ℕ) → Member q (without (full n) set) ↔ ((q < n) × (Member q set → ⊥))
others_members n set q =
    let each = without_members (full n) set q in (
      λ m. let h = each.0 m in ((full_members n q).0 h.0, h.1),
      λ h. each.1 ((full_members n q).1 h.0, h.1),
    )

pub others_within : (n set : ℕ) → T (within n (without (full n) set))
others_within n set = members_within n (without (full n) set) (λ q m. ((others_members n set q).0 m).0)

-- what the machine's shifts compute
pub shifted_one : (width q : ℕ) → q < width → (1 * 2 ^ q) % 2 ^ width ≡ single q
unfolding single
shifted_one width q h = ap (λ (x : ℕ). x % 2 ^ width) (one-mul (2 ^ q)) ∙ mod-eq_of_lt (pow-lt h)

pub shifted_test : (width : ℕ) (test : Bool) (q set : ℕ) → q < width
    → bit_or set ((bool_byte test * 2 ^ q) % 2 ^ width) ≡ choose test (union set (single q)) set
unfolding union choose
shifted_test width true q set h = ap (bit_or set) (shifted_one width q h)
shifted_test width false q set h = ap (λ (x : ℕ). bit_or set (x % 2 ^ width)) (zero-mul (2 ^ q)) ∙ ap (bit_or set) (zero-mod (2 ^ width)) ∙ or_zero_r set

pub shifted_ones : (width n : ℕ) → n ≤ width → (2 ^ width - 1) / 2 ^ (width - n) ≡ full n
unfolding full
shifted_ones width n h =
    let rest : ℕ = width - n in
    let whole : n + rest ≡ width = omega arith in
    ap (λ (x : ℕ). (2 ^ x - 1) / 2 ^ rest) (sym whole)
    ∙ ap (λ (x : ℕ). x / 2 ^ rest) (ones_split n rest)
    ∙ high (2 ^ n - 1) rest (ones_lt rest)

-- a's states add none to b exactly if a is a subset of b
pub adds_none : (a b : ℕ) → eqb (bit_or a b) b ≡ subset a b
unfolding union
adds_none a b =
    same_test (eqb (bit_or a b) b) (subset a b)
    (λ t. members_subset a b (λ q i. subst (Member q) (eqb→eq (union a b) b t) ((union_members a b q).1 (inl i))))
    (λ t. equal_test (union a b) b
    (subset_antisymmetric (union a b) b (members_subset (union a b) b (λ q i. inside t q ((union_members a b q).0 i)))
    (members_subset b (union a b) (λ q i. (union_members a b q).1 (inr i)))))
  where
    inside : T (subset a b) → (q : ℕ) → Member q a ⊎ Member q b → Member q b
    inside t q (inl i) = subset_members a b t q i
    inside t q (inr i) = i

-- a mask has no bit at n or above, by the ways in which n is tested: it is empty, it is any, or it is at most the full set, as a number
module _ (n set : ℕ) where
  pub within_none : n ≡ 0 → eqb set 0 ≡ within n set
  unfolding within
  within_none e =
      same_test (eqb set 0) (ltb set (2 ^ n)) (λ t. lt→ltb set (2 ^ n) (rw e (omega (arith, eqb→eq set 0 t))))
      (λ t. equal_test set 0 (omega (arith, below t)))
    where
      below : T (ltb set (2 ^ n)) → set < 1
      below t = subst (λ (m : ℕ). set < 2 ^ m) e (ltb→lt set (2 ^ n) t)

  pub within_any : set < 2 ^ 64 → 64 < n → true ≡ within n set
  unfolding within
  within_any h l = sym (lt-ltb set (2 ^ n) (lt_of_lt_of_le h (pow_mono {i = 64} {j = n} (omega arith))))

  pub within_test : (top : ℕ) → top ≡ full n → leb set top ≡ within n set
  unfolding full within
  within_test top e = let t : suc top ≡ 2 ^ n = ap suc e ∙ suc_ones n in sym (leb-suc-suc set top) ∙ ap (leb (suc set)) t

-- absent: the test says whether the state is in a and not in b
pub absent_means : (a b q : ℕ) → T (absent a b q) ↔ (Member q a × (Member q b → ⊥))
unfolding absent
absent_means a b q = (
  λ t. ((member_means q a).0 (and_left _ _ t), λ m. neg_fails _ (and_right _ _ t) ((member_means q b).1 m)),
  λ h. and_both _ _ ((member_means q a).1 h.0) (fails_neg _ (λ t. h.1 ((member_means q b).0 t))),
)

-- a state of a that is not absent from b is in it
pub not_absent : (a b q : ℕ) → Member q a → (T (absent a b q) → ⊥) → Member q b
not_absent a b q i f = at (decide (member q b))
  where
    at : T (member q b) ⊎ (T (member q b) → ⊥) → Member q b
    at (inl t) = (member_means q b).0 t
    at (inr n) = absurd (f ((absent_means a b q).1 (i, λ m. n ((member_means q b).1 m))))

-- so a is a subset of b exactly if no state of it is absent from b
pub none_absent : (a b : ℕ) → ((q : ℕ) → T (absent a b q) → ⊥) → T (subset a b)
none_absent a b f = members_subset a b (λ q i. not_absent a b q i (f q))

pub one_absent : (a b q : ℕ) → T (absent a b q) → T (subset a b) → ⊥
one_absent a b q t s = let lacking = (absent_means a b q).0 t in lacking.1 (subset_members a b s q lacking.0)

-- the states of a without b are those that the test finds absent
without_absent : (a b q : ℕ) → Member q (without a b) ↔ T (absent a b q)
without_absent a b q = (λ m. (absent_means a b q).1 ((without_members a b q).0 m), λ t. (without_members a b q).1 ((absent_means a b q).0 t))

-- where none is left, a is a subset of b
pub nothing_left : (a b : ℕ) → without a b ≡ 0 → T (subset a b)
nothing_left a b e = none_absent a b (λ q t. empty_members q (subst (Member q) e ((without_absent a b q).1 t)))

-- a state is one of them by the test of the code
pub without_tested : (a b q missing : ℕ) (test : Bool) → missing ≡ without a b → test ≡ member q missing → test ≡ absent a b q
without_tested a b q missing test m e =
    e
    ∙ ap (member q) m
    ∙ same_test (member q (without a b)) (absent a b q) (λ t. (without_absent a b q).0 ((member_means q _).0 t))
    (λ t. (member_means q _).1 ((without_absent a b q).1 t))

-- a state's number is lower than that of a set which has it
below_power_of : (a : ℕ) → a < 2 ^ a
below_power_of zero = omega arith
below_power_of (suc a) = omega (arith, below_power_of a, pow-suc 2 a)

pub member_below : (a q : ℕ) → Member q a → q < a
member_below a q i = digit_above a a (below_power_of a) q i

-- so there is none exactly if a is a subset of b, and else the lowest is found: no lower one is absent
none_lower : (a b q : ℕ) → lowest_absent a b ≡ some q → (p : ℕ) → p < q → T (absent a b p) → ⊥
unfolding lowest_absent
none_lower a b q e p l = first_from_before _ _ _ e p (omega arith) l

pub lowest_found : (a b q : ℕ) → lowest_absent a b ≡ some q → T (absent a b q) × ((p : ℕ) → p < q → T (absent a b p) → ⊥)
unfolding lowest_absent
lowest_found a b q e = ((first_from_some _ _ _ e).2, none_lower a b q e)

pub none_found : (a b : ℕ) → lowest_absent a b ≡ none → T (subset a b)
unfolding lowest_absent
none_found a b e =
    none_absent a b (λ q t. first_from_none (absent a b) _ _ e q (omega arith) (omega (arith, member_below a q ((absent_means a b q).0 t).0)) t)

-- the lowest of them stands above the zeros at the end, of which there are few
pub trailing_fits : (a : ℕ) → count_trailing_zeros 64 a < 2 ^ 8
trailing_fits a = omega (arith, trailing_le 64 a)

pub lowest_trailing : (a b missing : ℕ) → a < 2 ^ 64 → subset a b ≡ false → missing ≡ without a b → lowest_absent a b ≡ some (count_trailing_zeros 64 missing)
unfolding lowest_absent
lowest_trailing a b missing l f e =
    first_from_least (absent a b) a 0 lowest (omega arith) (omega (arith, member_below a lowest ((absent_means a b lowest).0 found).0)) found
    (λ p m k t. let d = trailing_zero 64 missing p k in let one = (is_absent p).1 t in omega arith)
  where
    is_absent : (q : ℕ) → Member q missing ↔ T (absent a b q)
    is_absent q = rw e (without_absent a b q)

    lowest : ℕ
    lowest = count_trailing_zeros 64 missing

    there : lowest < 64
    there = at (dec_le 64 lowest)
      where
        at : Dec (64 ≤ lowest) → lowest < 64
        at (no n) = omega arith
        at (yes h) =
            absurd (fails f (none_absent a b (λ q t.
            let one = (is_absent q).1 t in
            let below = digit_above 64 a l q ((absent_means a b q).0 t).0 in
            let d = trailing_zero 64 missing q (omega (arith, h)) in
            omega arith)))

    found : T (absent a b lowest)
    found = (is_absent lowest).0 (trailing_set 64 missing there)

-- there is none where a is a subset of b
pub lowest_none : (a b : ℕ) → subset a b ≡ true → lowest_absent a b ≡ none
lowest_none a b e = at (lowest_absent a b) refl
  where
    at : (found : Option ℕ) → lowest_absent a b ≡ found → found ≡ none
    at none r = refl
    at (some q) r = absurd (one_absent a b q (lowest_found a b q r).0 (holds e))
