-- A table whose first places were written over. Assumes nothing.
use Prim.Native.Nat.{ℕ, zero, suc, ◌+◌, ◌-◌, ◌≤◌, ◌<◌}
use mathlib.Core.Path.{◌≡◌, refl, sym, ap, subst, ◌∙◌}
use mathlib.Core.List.{List, [], ◌∷◌, ◌++◌, append_assoc, append-nil}
use native.Mathlib.Numerals.{add-one}
use native.Mathlib.Omega.{arith}
use lib.ListN.{length, take, drop, get_or, set, length-append}
use lib.Seq.{drop-cons, take-append_seam, drop-append-add, drop-drop, get_or-append-add, get_or-drop, set-append_seam, append_snoc}
use Rattle.blockers.specs.Room.{over}

-- behind the front all is as before
pub over_behind : (front before : List ℕ) (i : ℕ) → length front ≤ i → get_or (over front before) i 0 ≡ get_or before i 0
unfolding over
over_behind front before i l =
    let e : length front + (i - length front) ≡ i = omega arith in
    subst (λ (k : ℕ). get_or (over front before) k 0 ≡ get_or before k 0) e
    (get_or-append-add front (drop (length front) before) (i - length front) 0 ∙ get_or-drop (length front) before (i - length front) 0)

pub over_drop : (front before : List ℕ) (i : ℕ) → length front ≤ i → drop i (over front before) ≡ drop i before
unfolding over
over_drop front before i l =
    let e : length front + (i - length front) ≡ i = omega arith in
    subst (λ (k : ℕ). drop k (over front before) ≡ drop k before) e
    (drop-append-add front (drop (length front) before) (i - length front) ∙ drop-drop (i - length front) (length front) before)

-- a store right behind the front makes it longer by one
over_store : (front before : List ℕ) (at x : ℕ) → at ≡ length front → at < length before → set (over front before) at x ≡ over (front ++ x ∷ []) before
unfolding over
over_store front before at x e l =
    let h : length front < length before = omega arith in
    ap (λ (k : ℕ). set (front ++ drop (length front) before) k x) e
    ∙ ap (λ (rest : List ℕ). set (front ++ rest) (length front) x) (drop-cons before (length front) 0 h)
    ∙ set-append_seam front (get_or before (length front) 0) (drop (suc (length front)) before) x
    ∙ sym (append_snoc front x (drop (suc (length front)) before))
    ∙ ap (λ (k : ℕ). (front ++ x ∷ []) ++ drop k before) (sym (length-append front (x ∷ []) ∙ add-one (length front)))

pub over_store_last : (first last before : List ℕ) (at x : ℕ) → at ≡ length (first ++ last) → at < length before
    → set (over (first ++ last) before) at x ≡ over (first ++ (last ++ x ∷ [])) before
over_store_last first last before at x e l =
    over_store (first ++ last) before at x e l ∙ ap (λ (front : List ℕ). over front before) (append_assoc first last (x ∷ []))

-- what is written right behind the front makes it longer
pub over_over : (front more before : List ℕ) (at : ℕ) → at ≡ length front
    → over (take at (over front before) ++ more) (over front before) ≡ over (front ++ more) before
unfolding over
over_over front more before at e =
    ap (λ (k : ℕ). over (take k (over front before) ++ more) (over front before)) e
    ∙ ap (λ (first : List ℕ). (first ++ more) ++ drop (length (first ++ more)) (over front before)) (take-append_seam front (drop (length front) before))
    ∙ ap (λ (rest : List ℕ). (front ++ more) ++ rest) (over_drop front before (length (front ++ more)) (omega (arith, length-append front more)))

-- a table is its own front
over_own : (at : ℕ) (before : List ℕ) → over (take at before) before ≡ before
unfolding over
over_own zero before = refl
over_own (suc at) [] = refl
over_own (suc at) (x ∷ before) = ap (λ (rest : List ℕ). x ∷ rest) (over_own at before)

pub over_nothing : (at : ℕ) (before : List ℕ) → before ≡ over (take at before ++ []) before
over_nothing at before = sym (ap (λ (front : List ℕ). over front before) (append-nil (take at before)) ∙ over_own at before)
