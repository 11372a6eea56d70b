-- Binary digits of a number: what `bit_and`, `bit_or` and `bit_xor` do to each, the digits of a power of two, that they determine the number, and the lowest
-- that is set. Assumes nothing.
use Prim.Native.Nat.{ℕ, zero, suc, ◌/◌, ◌%◌, ◌^◌, ◌<◌, min, max}
use mathlib.Core.Path.{◌≡◌, refl, sym, ap, ◌∙◌}
use native.Mathlib.Nat.{pow-suc, zero-div}
use native.Mathlib.Numerals.{one-add}
use native.Mathlib.Omega.{arith}
use lib.Arith.{bin_ind, digits_mod}
use lib.Bits.{bit_and, bit_or, bit_xor, differ, and_step, or_step, xor_step, and_shr, or_shr, xor_shr}
use lib.Count.{count_trailing_zeros, under}
use lib.Pow.{shr-shr}
use Rattle.masks.specs.Sets.{digit}

pub digit_and : (a b q : ℕ) → digit (bit_and a b) q ≡ min (digit a q) (digit b q)
digit_and a b q =
    ap (λ (x : ℕ). x % 2) (and_shr a b q ∙ and_step (a / 2 ^ q) (b / 2 ^ q))
    ∙ digits_mod (bit_and (a / 2 ^ q / 2) (b / 2 ^ q / 2)) (omega arith)

pub digit_or : (a b q : ℕ) → digit (bit_or a b) q ≡ max (digit a q) (digit b q)
digit_or a b q =
    ap (λ (x : ℕ). x % 2) (or_shr a b q ∙ or_step (a / 2 ^ q) (b / 2 ^ q))
    ∙ digits_mod (bit_or (a / 2 ^ q / 2) (b / 2 ^ q / 2)) (omega arith)

differ_digit : (x y : ℕ) → x < 2 → y < 2 → differ x y < 2
differ_digit zero y hx hy = hy
differ_digit (suc zero) zero hx hy = omega arith
differ_digit (suc zero) (suc y) hx hy = omega arith
differ_digit (suc (suc x)) y hx hy = absurd (omega arith)

pub digit_xor : (a b q : ℕ) → digit (bit_xor a b) q ≡ differ (digit a q) (digit b q)
digit_xor a b q =
    ap (λ (x : ℕ). x % 2) (xor_shr a b q ∙ xor_step (a / 2 ^ q) (b / 2 ^ q))
    ∙ digits_mod (bit_xor (a / 2 ^ q / 2) (b / 2 ^ q / 2)) (differ_digit (digit a q) (digit b q) (omega arith) (omega arith))

pub digit_suc : (a q : ℕ) → digit a (suc q) ≡ digit (a / 2) q
digit_suc a q = ap (λ (x : ℕ). x % 2) (ap (λ (k : ℕ). a / 2 ^ k) (sym (one-add q)) ∙ sym (shr-shr a 1 q))

pub digit_zero : (q : ℕ) → digit 0 q ≡ 0
digit_zero q = ap (λ (x : ℕ). x % 2) (zero-div (2 ^ q))

none_set : (b : ℕ) → ((q : ℕ) → digit b q ≡ 0) → b ≡ 0
none_set =
    bin_ind (λ (b : ℕ). ((q : ℕ) → digit b q ≡ 0) → b ≡ 0) (λ h. refl)
    (λ n ih h. omega (arith, ih (λ q. sym (digit_suc n q) ∙ h (suc q)), h 0))

-- two numbers with the same digits are equal
pub same_digits : (a b : ℕ) → ((q : ℕ) → digit a q ≡ digit b q) → a ≡ b
same_digits =
    bin_ind (λ (a : ℕ). (b : ℕ) → ((q : ℕ) → digit a q ≡ digit b q) → a ≡ b)
    (λ b h. sym (none_set b (λ q. sym (h q) ∙ digit_zero q)))
    (λ n ih b h. omega (arith, ih (b / 2) (λ q. sym (digit_suc n q) ∙ h (suc q) ∙ digit_suc b q), h 0))

half_power : (k : ℕ) → 2 ^ suc k / 2 ≡ 2 ^ k
half_power k = omega (arith, pow-suc 2 k)

pub digit_power_self : (q : ℕ) → digit (2 ^ q) q ≡ 1
digit_power_self zero = refl
digit_power_self (suc q) = digit_suc (2 ^ suc q) q ∙ ap (λ (x : ℕ). digit x q) (half_power q) ∙ digit_power_self q

pub digit_power_other : (q p : ℕ) → (p ≡ q → ⊥) → digit (2 ^ q) p ≡ 0
digit_power_other zero zero h = absurd (h refl)
digit_power_other zero (suc p) h = digit_suc 1 p ∙ digit_zero p
digit_power_other (suc q) zero h = omega (arith, pow-suc 2 q)
digit_power_other (suc q) (suc p) h =
    digit_suc (2 ^ suc q) p ∙ ap (λ (x : ℕ). digit x p) (half_power q) ∙ digit_power_other q p (λ e. h (ap suc e))

-- a number below 2 ^ n has no digit at n or above, and conversely
pub digit_above : (n a : ℕ) → a < 2 ^ n → (q : ℕ) → digit a q ≡ 1 → q < n
digit_above zero a h q d =
    let z : a ≡ 0 = omega arith in
    let e : digit a q ≡ 0 = ap (λ (x : ℕ). digit x q) z ∙ digit_zero q in
    absurd (omega arith)
digit_above (suc n) a h zero d = omega arith
digit_above (suc n) a h (suc q) d =
    let l : a / 2 < 2 ^ n = omega (arith, pow-suc 2 n) in
    omega (arith, digit_above n (a / 2) l q (sym (digit_suc a q) ∙ d))

pub below_power : (n a : ℕ) → ((q : ℕ) → digit a q ≡ 1 → q < n) → a < 2 ^ n
below_power zero a f = omega (arith, none_set a (λ q. clear (digit a q) (omega arith) (f q)))
  where
    clear : {q : ℕ} (d : ℕ) → d < 2 → (d ≡ 1 → q < 0) → d ≡ 0
    clear zero l g = refl
    clear (suc d) l g = absurd (omega (arith, g (omega arith)))
below_power (suc n) a f =
    omega (arith, pow-suc 2 n, below_power n (a / 2) (λ q d. omega (arith, f (suc q) (digit_suc a q ∙ d))))

-- of the k lowest digits, the lowest that is set stands above the zeros at the end, and each of these is 0
pub trailing_set : (k a : ℕ) → count_trailing_zeros k a < k → digit a (count_trailing_zeros k a) ≡ 1
unfolding count_trailing_zeros
trailing_set zero a l = absurd (omega arith)
trailing_set (suc k) a l = at (trailing_set k (a / 2)) (a % 2) refl l
  where
    at : (count_trailing_zeros k (a / 2) < k → digit (a / 2) (count_trailing_zeros k (a / 2)) ≡ 1) → (d : ℕ) → a % 2 ≡ d
        → under d (count_trailing_zeros k (a / 2)) < suc k → digit a (under d (count_trailing_zeros k (a / 2))) ≡ 1
    at rec zero e h = digit_suc a (count_trailing_zeros k (a / 2)) ∙ rec (omega arith)
    at rec (suc d) e h = omega arith

pub trailing_zero : (k a p : ℕ) → p < count_trailing_zeros k a → digit a p ≡ 0
unfolding count_trailing_zeros
trailing_zero zero a p l = absurd (omega arith)
trailing_zero (suc k) a p l = at (trailing_zero k (a / 2)) (a % 2) refl p l
  where
    at : ((q : ℕ) → q < count_trailing_zeros k (a / 2) → digit (a / 2) q ≡ 0) → (d : ℕ) → a % 2 ≡ d → (q : ℕ)
        → q < under d (count_trailing_zeros k (a / 2)) → digit a q ≡ 0
    at rec zero e zero h = omega arith
    at rec zero e (suc q) h = digit_suc a q ∙ rec q (omega arith)
    at rec (suc d) e q h = absurd (omega arith)
