-- The laws of decimal digits: those of a number of one digit, one digit more, how many there are; and that they are the number in decimal. Assumes nothing.
use Prim.Native.Nat.{ℕ, zero, suc, ◌+◌, ◌-◌, ◌*◌, ◌/◌, ◌%◌, ◌^◌, ◌≤◌, ◌<◌}
use mathlib.Core.Path.{◌≡◌, refl, sym, ap, ◌∙◌}
use mathlib.Core.List.{List, [], ◌∷◌, ◌++◌}
use mathlib.Core.Logic.{◌⊎◌, inl, inr}
use native.Mathlib.Decide.{dec_lt}
use native.Mathlib.Omega.{arith}
use borrow.Author.Tests.{lt-ltb, le-ltb}
use lib.ListN.{length, get_or, length-append, get_or-append}
use Rattle.lists.specs.Lists.{◌∈◌, Each}
use Rattle.lists.proofs.Tests.{choose_true, choose_false}
use Rattle.lists.proofs.Lists.{in_none, in_either, each_more}
use Rattle.writing.specs.Decimal.{digits_within, digits, read_from, IsDecimal}

-- the digits within a bound: of a number below ten the one, of others the last behind those of the number divided by ten
within_one : (most number : ℕ) → number < 10 → digits_within (suc most) number ≡ (48 + number) ∷ []
unfolding digits_within
within_one most number one = choose_true _ _ (lt-ltb _ _ one)

within_more : (most number : ℕ) → 10 ≤ number → digits_within (suc most) number ≡ digits_within most (number / 10) ++ ((48 + number % 10) ∷ [])
unfolding digits_within
within_more most number ten = choose_false _ _ (le-ltb _ _ ten)

-- all bounds above the number give the same
enough_digits : (most other number : ℕ) → number < most → number < other → digits_within most number ≡ digits_within other number
enough_digits zero other number l h = absurd (omega arith)
enough_digits (suc most) zero number l h = absurd (omega arith)
enough_digits (suc most) (suc other) number l h = at (dec_lt number 10) (λ ten. enough_digits most other (number / 10) (omega arith) (omega arith))
  where
    at : Dec (number < 10) → (10 ≤ number → digits_within most (number / 10) ≡ digits_within other (number / 10))
        → digits_within (suc most) number ≡ digits_within (suc other) number
    at (yes one) rec = within_one most number one ∙ sym (within_one other number one)
    at (no more) rec =
        let ten : 10 ≤ number = omega arith in
        within_more most number ten ∙ ap (λ (l : List ℕ). l ++ ((48 + number % 10) ∷ [])) (rec ten) ∙ sym (within_more other number ten)

-- so with those of the number
pub digits_one : (number : ℕ) → number < 10 → digits number ≡ (48 + number) ∷ []
unfolding digits
digits_one number one = within_one number number one

pub digits_more : (number : ℕ) → 10 ≤ number → digits number ≡ digits (number / 10) ++ ((48 + number % 10) ∷ [])
unfolding digits
digits_more number ten =
    within_more number number ten
    ∙ ap (λ (l : List ℕ). l ++ ((48 + number % 10) ∷ [])) (enough_digits number (suc (number / 10)) (number / 10) (omega arith) (omega arith))

-- a statement of every number, from the numbers of one digit and from the number divided by ten
by_digits : (P : ℕ → Type 0) → ((n : ℕ) → n < 10 → P n) → ((n : ℕ) → 10 ≤ n → P (n / 10) → P n) → (number : ℕ) → P number
by_digits P one more number = below (suc number) number (omega arith)
  where
    below : (bound n : ℕ) → n < bound → P n
    below zero n h = absurd (omega arith)
    below (suc bound) n h = at (dec_lt n 10) (λ l. below bound (n / 10) l)
      where
        at : Dec (n < 10) → (n / 10 < bound → P (n / 10)) → P n
        at (yes l) rec = one n l
        at (no l) rec = let ten : 10 ≤ n = omega arith in more n ten (rec (omega arith))

-- how many there are
pub length_digits_one : (number : ℕ) → number < 10 → length (digits number) ≡ 1
length_digits_one number one = ap length (digits_one number one)

pub length_digits_more : (number : ℕ) → 10 ≤ number → length (digits number) ≡ length (digits (number / 10)) + 1
length_digits_more number ten = ap length (digits_more number ten) ∙ length-append (digits (number / 10)) ((48 + number % 10) ∷ [])

some_digits : (number : ℕ) → 0 < length (digits number)
some_digits = by_digits (λ n. 0 < length (digits n)) (λ n one. omega (arith, length_digits_one n one)) (λ n ten some. omega (arith, length_digits_more n ten))

pub few_digits : (k number : ℕ) → number < 10 ^ suc k → length (digits number) ≤ suc k
few_digits zero number h = omega (arith, length_digits_one number (omega arith))
few_digits (suc k) number h = at (dec_lt number 10) (λ l. few_digits k (number / 10) l)
  where
    at : Dec (number < 10) → (number / 10 < 10 ^ suc k → length (digits (number / 10)) ≤ suc k) → length (digits number) ≤ suc (suc k)
    at (yes one) rec = omega (arith, length_digits_one number one)
    at (no more) rec =
        let ten : 10 ≤ number = omega arith in
        let less : number / 10 < 10 ^ suc k = omega (arith, h) in
        omega (arith, length_digits_more number ten, rec less)

-- a number of 64 bits has at most 20
pub twenty_digits : (number : ℕ) → number < 2 ^ 64 → length (digits number) ≤ 20
twenty_digits number h = few_digits 19 number (omega arith)

-- all are digits
abbrev AllDigits : List ℕ → Type 0
AllDigits = Each (λ c. (48 ≤ c) × (c ≤ 57))

one_digit : (digit : ℕ) → digit < 10 → AllDigits ((48 + digit) ∷ [])
one_digit digit l = each_more (omega arith, omega arith) (λ c m. absurd (in_none m))

all_digits : (number : ℕ) → AllDigits (digits number)
all_digits = by_digits (λ n. AllDigits (digits n)) one more
  where
    one : (n : ℕ) → n < 10 → AllDigits (digits n)
    one n l = rw (digits_one n l) (one_digit n l)

    more : (n : ℕ) → 10 ≤ n → AllDigits (digits (n / 10)) → AllDigits (digits n)
    more n ten before c m = at (in_either (digits (n / 10)) ((48 + n % 10) ∷ []) (rw (digits_more n ten) at m))
      where
        at : c ∈ digits (n / 10) ⊎ c ∈ ((48 + n % 10) ∷ []) → (48 ≤ c) × (c ≤ 57)
        at (inl k) = before c k
        at (inr k) = one_digit (n % 10) (omega arith) c k

-- they read back as the number
read_more : (before : ℕ) (characters : List ℕ) (last : ℕ) → read_from before (characters ++ (last ∷ [])) ≡ 10 * read_from before characters + (last - 48)
unfolding read_from
read_more before [] last = refl
read_more before (c ∷ rest) last = read_more (10 * before + (c - 48)) rest last

reads_back : (number : ℕ) → read_from 0 (digits number) ≡ number
unfolding read_from
reads_back = by_digits (λ n. read_from 0 (digits n) ≡ n) one more
  where
    one : (n : ℕ) → n < 10 → read_from 0 (digits n) ≡ n
    one n l = ap (read_from 0) (digits_one n l) ∙ omega arith

    more : (n : ℕ) → 10 ≤ n → read_from 0 (digits (n / 10)) ≡ n / 10 → read_from 0 (digits n) ≡ n
    more n ten e =
        let last : read_from 0 (digits n) ≡ 10 * read_from 0 (digits (n / 10)) + (48 + n % 10 - 48) =
        ap (read_from 0) (digits_more n ten) ∙ read_more 0 (digits (n / 10)) (48 + n % 10) in
        omega (arith, last, e)

-- the first of a number that is not 0 is no 0
first_digit : (number : ℕ) → 0 < number → 48 < get_or (digits number) 0 0
first_digit = by_digits (λ n. 0 < n → 48 < get_or (digits n) 0 0) one more
  where
    one : (n : ℕ) → n < 10 → 0 < n → 48 < get_or (digits n) 0 0
    one n l some = rw (digits_one n l) (omega arith)

    more : (n : ℕ) → 10 ≤ n → (0 < n / 10 → 48 < get_or (digits (n / 10)) 0 0) → 0 < n → 48 < get_or (digits n) 0 0
    more n ten before some =
        let same : get_or (digits n) 0 0 ≡ get_or (digits (n / 10)) 0 0 =
        ap (λ (l : List ℕ). get_or l 0 0) (digits_more n ten) ∙ get_or-append (digits (n / 10)) ((48 + n % 10) ∷ []) 0 0 (some_digits (n / 10)) in
        omega (arith, same, before (omega arith))

-- so they are the number in decimal
pub digits_decimal : (number : ℕ) → IsDecimal number (digits number)
digits_decimal number =
    record {
      all_digits = all_digits number;
      reads_back = reads_back number;
      some_digit = λ e. omega (arith, some_digits number, ap length e);
      no_leading_zero = λ next rest e. at next rest e (dec_lt number 10);
    }
  where
    at : (next : ℕ) (rest : List ℕ) → digits number ≡ 48 ∷ next ∷ rest → Dec (number < 10) → ⊥
    at next rest e (yes one) = let long : length (digits number) ≡ suc (suc (length rest)) = ap length e in omega (arith, length_digits_one number one, long)
    at next rest e (no more) =
        let first : get_or (digits number) 0 0 ≡ 48 = ap (λ (l : List ℕ). get_or l 0 0) e in
        omega (arith, first_digit number (omega arith), first)
