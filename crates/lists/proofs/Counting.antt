-- Counting: sums of a function below a bound, lengths after keeping, two counts of a list by a number of each element, and lists of different numbers.
-- Assumes nothing.
use Prim.Native.Nat.{ℕ, zero, suc, ◌+◌, ◌*◌, ◌≤◌, ◌<◌}
use mathlib.Core.Path.{◌≡◌, refl, sym, ap, subst, ◌∙◌}
use mathlib.Core.Bool.{Bool, true, false}
use mathlib.Core.List.{List, [], ◌∷◌, ◌++◌}
use mathlib.Core.Logic.{◌⊎◌, inl, inr, ◌≢◌}
use native.Mathlib.Decide.{ℕ_discrete}
use native.Mathlib.Omega.{arith}
use lib.Dec.{T, eqb, eqb→eq, eqb_refl}
use lib.ListN.{length}
use Rattle.lists.specs.Tests.{neg, choose}
use Rattle.lists.specs.Lists.{◌∈◌, here, there, Each, keep}
use Rattle.lists.proofs.Tests.{holds, fails, neg_fails, fails_neg, neg_neg, choose_either}
use Rattle.lists.proofs.Lists.{in_none, in_cases, in_length, Some, keep_in, in_keep, keep_length}
use Rattle.lists.proofs.Pairs.{Pairwise, nil, cons, pairs_first, pairs_later, pairs_keep, pairs_joined}

-- a test as a number
unfoldable pub bit : Bool → ℕ
bit true = 1
bit false = 0

-- it is 1 at most
pub bit_most : (a : Bool) → bit a ≤ 1
unfolding bit
bit_most true = omega arith
bit_most false = omega arith

-- it is 0 where the test fails
pub bit_none : (a : Bool) → (T a → ⊥) → bit a ≡ 0
unfolding bit
bit_none true h = absurd (h tt)
bit_none false h = refl

-- it grows where one test gives the other
pub bit_monotone : (a b : Bool) → (T a → T b) → bit a ≤ bit b
unfolding bit
bit_monotone true true h = omega arith
bit_monotone true false h = absurd (h tt)
bit_monotone false b h = omega arith

-- it grows strictly where one fails and the other holds
pub bit_more : (a b : Bool) → (T a → ⊥) → T b → bit a < bit b
unfolding bit
bit_more true b h t = absurd (h tt)
bit_more false true h t = omega arith
bit_more false false h t = absurd t

-- f 0 + .. + f (m − 1)
unfoldable pub sum : ℕ → (ℕ → ℕ) → ℕ
sum zero f = 0
sum (suc m) f = sum m f + f m

-- a sum of summands of at most c
pub sum_most : (m c : ℕ) (f : ℕ → ℕ) → ((i : ℕ) → i < m → f i ≤ c) → sum m f ≤ m * c
unfolding sum
sum_most zero c f h = omega arith
sum_most (suc m) c f h = omega (arith, h m (omega arith), sum_most m c f (λ i l. h i (omega arith)))

-- where the last summand is 0, it need not be counted
pub sum_most_but_last : (m c : ℕ) (f : ℕ → ℕ) → ((i : ℕ) → i < m → f i ≤ c) → f m ≡ 0 → sum (suc m) f ≤ m * c
unfolding sum
sum_most_but_last m c f h e = omega (arith, sum_most m c f h)

-- greater summands give a greater sum
pub sum_monotone : (m : ℕ) (f g : ℕ → ℕ) → ((i : ℕ) → i < m → f i ≤ g i) → sum m f ≤ sum m g
unfolding sum
sum_monotone zero f g h = omega arith
sum_monotone (suc m) f g h = omega (arith, h m (omega arith), sum_monotone m f g (λ i l. h i (omega arith)))

-- and strictly so, where one is strictly greater
pub sum_more : (m : ℕ) (f g : ℕ → ℕ) → ((i : ℕ) → i < m → f i ≤ g i) → (x : ℕ) → x < m → f x < g x → sum m f < sum m g
unfolding sum
sum_more zero f g h x l t = omega arith
sum_more (suc m) f g h x l t = at (ℕ_discrete x m) (λ q. sum_more m f g (λ i u. h i (omega arith)) x q t)
  where
    at : Dec (x ≡ m) → (x < m → sum m f < sum m g) → sum m f + f m < sum m g + g m
    at (yes e) rec = let last : f m < g m = rw e at t in omega (arith, sum_monotone m f g (λ i q. h i (omega arith)))
    at (no e) rec = omega (arith, rec (omega arith), h m (omega arith))

module _ {A : Type 0} where
  -- less is kept where one fails the test
  pub keep_shorter : (test : A → Bool) (l : List A) (x : A) → x ∈ l → (T (test x) → ⊥) → length (keep test l) < length l
  unfolding keep choose
  keep_shorter test [] x m h = absurd (in_none m)
  keep_shorter test (y ∷ l) x m h = at (λ k. keep_shorter test l x k h) (test y) refl (in_cases m)
    where
      at : (x ∈ l → length (keep test l) < length l) → (b : Bool) → test y ≡ b → (x ≡ y) ⊎ x ∈ l
          → length (choose b (y ∷ keep test l) (keep test l)) < suc (length l)
      at rec true q (inl e) = absurd (h (rw e (holds q)))
      at rec true q (inr k) = omega (arith, rec k)
      at rec false q c = omega (arith, keep_length test l)

  -- something is kept exactly if some element has the test
  pub kept_some : (test : A → Bool) (l : List A) → 1 ≤ length (keep test l) → Some test l
  kept_some test l h = at (keep test l) refl h
    where
      at : (kept : List A) → keep test l ≡ kept → 1 ≤ length kept → Some test l
      at [] e k = absurd (omega arith)
      at (x ∷ kept) e k =
          let r = keep_in test l (subst (λ (found : List A). x ∈ found) (sym e) (here refl)) in
          record { element = x; listed = r.0; passes = r.1 }

  pub some_kept : (test : A → Bool) (l : List A) {x : A} → x ∈ l → T (test x) → 1 ≤ length (keep test l)
  some_kept test l m t = in_length (in_keep test l m t)

  -- all is kept where each has the test
  pub keep_all : (test : A → Bool) (l : List A) → Each (λ x. T (test x)) l → keep test l ≡ l
  unfolding keep choose
  keep_all test [] h = refl
  keep_all test (x ∷ l) h = at (test x) (h x (here refl)) (keep_all test l (λ y m. h y (there m)))
    where
      at : (b : Bool) → T b → keep test l ≡ l → choose b (x ∷ keep test l) (keep test l) ≡ x ∷ l
      at true t r = ap (λ (rest : List A). x ∷ rest) r
      at false t r = absurd t

  module _ (number : A → ℕ) where
    -- the element's number is not m
    abbrev other : ℕ → A → Bool
    other m x = neg (eqb (number x) m)

    -- the test as the proposition
    other_means : (m : ℕ) (x : A) → T (other m x) → number x ≢ m
    other_means m x t e = neg_fails _ t (rw e (eqb_refl m))

    -- the proposition as the test
    means_other : (m : ℕ) (x : A) → number x ≢ m → T (other m x)
    means_other m x f = fails_neg _ (λ t. f (eqb→eq (number x) m t))

    -- of elements with different numbers at most one has the number m
    all_but_one : (m : ℕ) (l : List A) → Pairwise (λ a b. number a ≢ number b) l → length l ≤ suc (length (keep (other m) l))
    unfolding keep choose
    all_but_one m [] h = omega arith
    all_but_one m (x ∷ l) h = at (other m x) refl (all_but_one m l (pairs_later h))
      where
        at : (b : Bool) → other m x ≡ b → length l ≤ suc (length (keep (other m) l))
            → suc (length l) ≤ suc (length (choose b (x ∷ keep (other m) l) (keep (other m) l)))
        at true q r = omega arith
        at false q r =
            let same : number x ≡ m = eqb→eq (number x) m (neg_neg _ (fails q)) in
            let rest : keep (other m) l ≡ l = keep_all (other m) l (λ y k. means_other m y (λ p. pairs_first h y k (same ∙ sym p))) in
            omega (arith, ap length rest)

    -- of elements with different numbers below m there are at most m
    pub pigeonhole : (m : ℕ) (l : List A) → Pairwise (λ a b. number a ≢ number b) l → Each (λ x. number x < m) l → length l ≤ m
    pigeonhole zero [] h small = omega arith
    pigeonhole zero (x ∷ l) h small = absurd (let u = small x (here refl) in omega arith)
    pigeonhole (suc m) l h small = omega (arith, all_but_one m l h, pigeonhole m (keep (other m) l) (pairs_keep (other m) h) low)
      where
        low : Each (λ x. number x < m) (keep (other m) l)
        low x k =
            let r = keep_in (other m) l k in
            let differs : number x ≢ m = other_means m x r.1 in
            omega (arith, small x r.0)

    -- where each of the numbers 1 to N is an element's, there are at least N elements
    pub covering : (N : ℕ) (l : List A) → ((j : ℕ) → 1 ≤ j → j ≤ N → Some (λ x. eqb (number x) j) l) → N ≤ length l
    covering zero l h = omega arith
    covering (suc N) l h = omega (arith, fewer, covering N (keep (other (suc N)) l) low)
      where
        last : Some (λ x. eqb (number x) (suc N)) l
        last = h (suc N) (omega arith) (omega arith)

        fewer : length (keep (other (suc N)) l) < length l
        fewer = keep_shorter (other (suc N)) l last.element last.listed (λ t. neg_fails _ t last.passes)

        low : (j : ℕ) → 1 ≤ j → j ≤ N → Some (λ x. eqb (number x) j) (keep (other (suc N)) l)
        low j a b =
            let r = h j a (omega arith) in
            let differs : number r.element ≢ suc N = omega (arith, eqb→eq (number r.element) j r.passes) in
            record { element = r.element; listed = in_keep (other (suc N)) l r.listed (means_other (suc N) r.element differs); passes = r.passes }

-- each two numbers of the list differ
abbrev pub Distinct : List ℕ → Type 0
Distinct = Pairwise (λ a b. a ≢ b)

-- a number more at the end
pub distinct_more : {l : List ℕ} {x : ℕ} → Distinct l → (x ∈ l → ⊥) → Distinct (l ++ x ∷ [])
distinct_more {l} {x} h new = pairs_joined h (cons (λ y m. absurd (in_none m)) nil) (λ y z m k. at m (in_cases k))
  where
    at : {y z : ℕ} → y ∈ l → (z ≡ x) ⊎ z ∈ [] → y ≢ z
    at m (inl e) same = new (subst (λ (y : ℕ). y ∈ l) (same ∙ e) m)
    at m (inr k) same = in_none k

-- a number of such a list stands in it once
pub distinct_once : (x : ℕ) {l : List ℕ} → Distinct l → x ∈ l → length (keep (eqb x) l) ≡ 1
unfolding keep
distinct_once x nil m = absurd (in_none m)
distinct_once x (cons {x = y} {l = l} f h) m =
    choose_either (λ (kept : List ℕ). length kept ≡ 1) (eqb x y) (λ t. omega (arith, nowhere (eqb→eq x y (holds t))))
    (λ n. later (λ k. distinct_once x h k) (fails n) (in_cases m))
  where
    nowhere : x ≡ y → 1 ≤ length (keep (eqb x) l) → ⊥
    nowhere e k = let r = kept_some (eqb x) l k in f r.element r.listed (sym e ∙ eqb→eq x r.element r.passes)

    later : (x ∈ l → length (keep (eqb x) l) ≡ 1) → (T (eqb x y) → ⊥) → (x ≡ y) ⊎ x ∈ l → length (keep (eqb x) l) ≡ 1
    later rec n (inl e) = absurd (n (subst (λ (z : ℕ). T (eqb x z)) e (eqb_refl x)))
    later rec n (inr k) = rec k

-- such a list has no more numbers than any that has them all
pub distinct_few : {l : List ℕ} (all : List ℕ) → Distinct l → Each (λ x. x ∈ all) l → length l ≤ length all
distinct_few all nil f = omega arith
distinct_few all (cons {x = x} {l = l} g h) f =
    omega (
      arith,
      distinct_few (keep others all) h (λ y m. in_keep others all (f y (there m)) (fails_neg _ (λ t. g y m (eqb→eq x y t)))),
      keep_shorter others all x (f x (here refl)) (λ t. neg_fails _ t (eqb_refl x)),
    )
  where
    others : ℕ → Bool
    others y = neg (eqb x y)
