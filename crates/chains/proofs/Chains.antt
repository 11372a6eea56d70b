-- Chains: none, one number more, and the walk along one. Assumes nothing.
use Prim.Native.Nat.{ℕ, zero, suc, ◌+◌, ◌-◌, ◌≤◌, ◌<◌}
use mathlib.Core.Path.{◌≡◌, refl, sym, ap, ◌∙◌}
use mathlib.Core.List.{List}
use mathlib.Core.Logic.{◌⊎◌, inl, inr}
use native.Mathlib.Decide.{ℕ_discrete, dec_le}
use native.Mathlib.Omega.{arith}
use lib.ListN.{length, get_or, set, replicate}
use lib.Seq.{get_or-set_same, get_or-set_other}
use Rattle.std.proofs.Common.{Option, Some, None, SomeIff}
use Rattle.chains.specs.Chained.{told_number, Chained}

-- the number that stands with 1 added
pub told_one_less : (result : Option ℕ) (stands number : ℕ) → SomeIff result (1 ≤ stands) (stands - 1) → stands ≡ number → result ≡ told_number number
unfolding told_number
told_one_less result zero number some e = rw (sym e) (grind arith)
told_one_less result (suc stands) number some e = rw (sym e) (grind arith)

-- no numbers, and keys that tell none
zero_at : (size key : ℕ) → get_or (replicate {A = ℕ} size 0) key 0 ≡ 0
zero_at zero key = refl
zero_at (suc size) zero = refl
zero_at (suc size) (suc key) = zero_at size key

pub none_chained : {key : ℕ → ℕ} (size : ℕ) (lasts links : List ℕ) → lasts ≡ replicate size 0 → Chained key 0 lasts links
none_chained size lasts links none =
    record {
      tells = λ k p e. absurd (omega (arith, e, ap (λ (table : List ℕ). get_or table k 0) none, zero_at size k));
      last = λ p l. absurd (omega arith);
      links_to = λ p o l e. absurd (omega arith);
      nearest = λ p o l k e. absurd (omega arith);
    }

-- keys that are the same below `count` have the same chains
pub same_keys : {key other : ℕ → ℕ} {count : ℕ} {lasts links : List ℕ} → ((p : ℕ) → p < count → other p ≡ key p) → Chained key count lasts links
    → Chained other count lasts links
same_keys {lasts = lasts} same chained =
    record {
      tells = λ k p e. let old = chained.tells k p e in (old.0, same p old.0 ∙ old.1);
      last = λ p l. omega (arith, chained.last p l, ap (λ (k : ℕ). get_or lasts k 0) (same p l));
      links_to = λ p o l e.
          let old = chained.links_to p o l e in (old.0, same o (omega (arith, old.0)) ∙ old.1 ∙ sym (same p l));
      nearest = λ p o l h e. chained.nearest p o l h (sym (same o (omega arith)) ∙ e ∙ same p l);
    }

-- one number more
module _ {key : ℕ → ℕ} {count : ℕ} {lasts links : List ℕ} (chained : Chained key count lasts links) (own : ℕ) (is : own ≡ key count)
    (slot : own < length lasts) (room : count < length links) where
  abbrev lasts' : List ℕ
  lasts' = set lasts own (count + 1)

  abbrev links' : List ℕ
  links' = set links count (get_or lasts own 0)

  own_last : get_or lasts' own 0 ≡ count + 1
  own_last = get_or-set_same lasts own (count + 1) 0 slot

  other_last : (k : ℕ) → (k ≡ own → ⊥) → get_or lasts' k 0 ≡ get_or lasts k 0
  other_last k n = get_or-set_other lasts own k (count + 1) 0 n

  own_link : get_or links' count 0 ≡ get_or lasts own 0
  own_link = get_or-set_same links count (get_or lasts own 0) 0 room

  other_link : (p : ℕ) → p < count → get_or links' p 0 ≡ get_or links p 0
  other_link p l = get_or-set_other links count p (get_or lasts own 0) 0 (λ e. omega arith)

  tells' : (k p : ℕ) → get_or lasts' k 0 ≡ suc p → (p < count + 1) × (key p ≡ k)
  tells' k p e = at (ℕ_discrete k own)
    where
      at : Dec (k ≡ own) → (p < count + 1) × (key p ≡ k)
      at (yes s) =
          let same : p ≡ count = omega (arith, e, ap (λ (x : ℕ). get_or lasts' x 0) s, own_last) in
          (omega arith, ap key same ∙ sym (s ∙ is))
      at (no n) = let old = chained.tells k p (sym (other_last k n) ∙ e) in (omega (arith, old.0), old.1)

  last' : (p : ℕ) → p < count + 1 → p < get_or lasts' (key p) 0
  last' p l = at (ℕ_discrete (key p) own)
    where
      at : Dec (key p ≡ own) → p < get_or lasts' (key p) 0
      at (yes s) = omega (arith, ap (λ (x : ℕ). get_or lasts' x 0) s, own_last)
      at (no n) = older (ℕ_discrete p count)
        where
          older : Dec (p ≡ count) → p < get_or lasts' (key p) 0
          older (yes e) = absurd (n (ap key e ∙ sym is))
          older (no k) = omega (arith, other_last (key p) n, chained.last p (omega arith))

  links_to' : (p o : ℕ) → p < count + 1 → get_or links' p 0 ≡ suc o → (o < p) × (key o ≡ key p)
  links_to' p o l e = at (ℕ_discrete p count)
    where
      at : Dec (p ≡ count) → (o < p) × (key o ≡ key p)
      at (yes s) =
          let old = chained.tells own o (sym own_link ∙ ap (λ (x : ℕ). get_or links' x 0) (sym s) ∙ e) in
          (omega (arith, old.0), old.1 ∙ is ∙ ap key (sym s))
      at (no n) = let below : p < count = omega arith in chained.links_to p o below (sym (other_link p below) ∙ e)

  nearest' : (p o : ℕ) → p < count + 1 → o < p → key o ≡ key p → o < get_or links' p 0
  nearest' p o l k e = at (ℕ_discrete p count)
    where
      at : Dec (p ≡ count) → o < get_or links' p 0
      at (yes s) =
          let same : key o ≡ own = e ∙ ap key s ∙ sym is in
          omega (arith, chained.last o (omega arith), ap (λ (x : ℕ). get_or lasts x 0) same, own_link, ap (λ (x : ℕ). get_or links' x 0) s)
      at (no n) = let below : p < count = omega arith in omega (arith, other_link p below, chained.nearest p o below k e)

  pub one_more : Chained key (count + 1) lasts' links'
  one_more = record { tells = tells'; last = last'; links_to = links_to'; nearest = nearest' }

-- A walk along the chain of a key, before the number that is told, if one is: all numbers from `behind` on that have the key were met.
unfoldable pub behind : Option ℕ → ℕ
behind None = 0
behind (Some number) = suc number

pub behind_some : (number : ℕ) → behind (Some number) ≡ suc number
unfolding behind
behind_some number = refl

pub behind_none : behind None ≡ 0
unfolding behind
behind_none = refl

behind_told : (stands : ℕ) → behind (told_number stands) ≡ stands
unfolding behind told_number
behind_told zero = refl
behind_told (suc number) = refl

behind_at : (told : Option ℕ) (stands : ℕ) → told ≡ told_number stands → behind told ≡ stands
behind_at told stands is = ap behind is ∙ behind_told stands

some_stands : (stands : ℕ) (told : Option ℕ) → told ≡ told_number stands → (p : ℕ) → told ≡ Some p → stands ≡ suc p
some_stands stands told is p e = sym (behind_at told stands is) ∙ ap behind e ∙ behind_some p

module _ {key : ℕ → ℕ} {count : ℕ} {lasts links : List ℕ} (chained : Chained key count lasts links) where
  module _ (k : ℕ) (told : Option ℕ) (is : told ≡ told_number (get_or lasts k 0)) where
    pub first_told : (p : ℕ) → told ≡ Some p → (p < count) × (key p ≡ k)
    first_told p e = chained.tells k p (some_stands (get_or lasts k 0) told is p e)

    pub none_behind : (p : ℕ) → p < count → key p ≡ k → behind told ≤ p → ⊥
    none_behind p l e h =
        omega (arith, chained.last p l, ap (λ (x : ℕ). get_or lasts x 0) e, behind_at told (get_or lasts k 0) is)

  module _ {k number : ℕ} (met : (number < count) × (key number ≡ k)) (told : Option ℕ) (is : told ≡ told_number (get_or links number 0)) where
    stands : behind told ≡ get_or links number 0
    stands = behind_at told (get_or links number 0) is

    earlier : (p : ℕ) → told ≡ Some p → (p < number) × (key p ≡ key number)
    earlier p e = chained.links_to number p met.0 (some_stands (get_or links number 0) told is p e)

    pub next_told : (p : ℕ) → told ≡ Some p → (p < count) × (key p ≡ k)
    next_told p e = let link = earlier p e in (omega (arith, link.0, met.0), link.1 ∙ met.1)

    pub next_nearer : behind told < suc number
    unfolding behind
    next_nearer = at told refl
      where
        at : (next : Option ℕ) → told ≡ next → behind told < suc number
        at None e = rw e (omega arith)
        at (Some p) e = rw e (omega (arith, (earlier p e).0))

    -- what is behind the next one and has the key is this one, or behind it
    pub none_between : (p : ℕ) → p < count → key p ≡ k → behind told ≤ p → (p ≡ number) ⊎ (suc number ≤ p)
    none_between p l e h = at (ℕ_discrete p number) (dec_le (suc number) p)
      where
        at : Dec (p ≡ number) → Dec (suc number ≤ p) → (p ≡ number) ⊎ (suc number ≤ p)
        at (yes s) q = inl s
        at (no n) (yes q) = inr q
        at (no n) (no q) =
            let nearest = chained.nearest number p met.0 (omega arith) (e ∙ sym met.1) in absurd (omega (arith, stands))
