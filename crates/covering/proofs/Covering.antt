-- The covers of a backward set, listed: a list with one mask more, the walk over the blockers that lists them, and the search of the list. Assumes nothing.
use Rattle.std.specs.List.{list_any}
use Rattle.std.specs.Slice.{IsGetRangeResult}
use denote.Ref.{Bor}
use Rattle.std.specs.Prelude.{slice_range, option_copied, unwrap_or, ⊤, ◌||◌, Option, Some, None, is_some}
use Prim.Native.Nat.{ℕ, zero, suc, ◌+◌, ◌-◌, ◌≤◌, ◌<◌, min}
use mathlib.Core.Path.{◌≡◌, refl, sym, ap, ap₂, subst, ◌∙◌}
use mathlib.Core.Bool.{Bool, true, false, not}
use mathlib.Core.List.{List, [], ◌∷◌, ◌++◌}
use mathlib.Core.Logic.{◌⊎◌, inl, inr}
use native.Mathlib.Nat.{sub-zero}
use native.Mathlib.Omega.{arith}
use borrow.Author.Tests.{leb-true, le-leb}
use lib.Dec.{T, leb}
use lib.ListN.{length, get_or, set, take, drop, length-drop, length-take}
use lib.Seq.{get_or-set_other, take-suc-set}
use Rattle.std.proofs.lemmas.List.{ext_get_or, get_or-take, get_or-drop, drop-set-add, take-set-le}
use Rattle.lists.specs.Tests.{◌and◌, ◌or◌, choose}
use Rattle.lists.specs.Lists.{any}
use Rattle.lists.proofs.Tests.{holds, fails, is_true, is_false, and_left, and_right, and_both, or_joined, or_none, choose_true, choose_false}
use Rattle.lists.proofs.Lists.{any_append}
use Rattle.masks.specs.Sets.{subset}
use Rattle.masks.proofs.Laws.{subset_transitive}
use Rattle.machine.specs.Machine.{Blocker, covers, blocked, settled}
use Rattle.machine.specs.Lent.{BlockerRoom, blocker_at, unstamped_room, blockers_from, blockers_in}
use Rattle.machine.specs.Why.{first_covering}
use Rattle.blockers.specs.Answers.{reason_of, Skips}
use Rattle.blockers.specs.declared.reasons.Reason.{Reason}
use Rattle.blockers.proofs.Walks.{next_blocker, no_blocker, one_told}
use Rattle.covering.specs.Listed.{one_holds, part, UpTo, in_order, nowhere, ListedOne, Listed}

-- what does not cover a case does not cover a larger one; and what covers it covers a larger one if that is a subset of its mask
module _ (below P case : ℕ) (larger : T (subset P case)) (blocker : Blocker) where
  still_misses : covers below P blocker ≡ false → covers below case blocker ≡ false
  unfolding covers
  still_misses f =
      is_false _ (λ t. fails f (and_both _ _ (and_left _ _ t) (subset_transitive P case blocker.mask larger (and_right _ _ t))))

  by_mask : covers below P blocker ≡ true → covers below case blocker ≡ subset case blocker.mask
  unfolding covers ◌and◌
  by_mask t = let e : leb below blocker.level ≡ true = is_true _ (and_left (leb below blocker.level) (subset P blocker.mask) (holds t)) in rw e refl

-- what a place says
Placeless : {A : Type 0} → Option A → Type 0
Placeless None = ⊤
Placeless (Some at) = ⊥

no_place : {A : Type 0} {place : Option A} {at : A} → place ≡ None → place ≡ Some at → ⊥
unfolding Placeless
no_place n s = subst Placeless (sym n ∙ s) tt

place_is : {A : Type 0} {x y : A} → Some x ≡ Some y → x ≡ y
place_is {A} {x} {y} e = ap (λ (place : Option A). unwrap_or place x) e

up_to : {j from : ℕ} → UpTo (Some (suc j)) (Some from) → j < from
up_to (in_order l) = l

-- a list that stands between two places
part_is : (near : List ℕ) (from to : ℕ) {list : List ℕ} → part near (Some from) (Some to) ≡ Some list → list ≡ slice_range near from to
unfolding part choose
part_is near from to {list} e = at (leb from to and leb to (length near)) e
  where
    at : (b : Bool) → choose b (Some (slice_range near from to)) None ≡ Some list → list ≡ slice_range near from to
    at true e = sym (place_is e)
    at false e = absurd (no_place refl e)

part_endless : (near : List ℕ) (from : Option ℕ) {list : List ℕ} → part near from None ≡ Some list → ⊥
unfolding part
part_endless near None e = no_place refl e
part_endless near (Some from) e = no_place refl e

part_unbegun : (near : List ℕ) (to : Option ℕ) → part near None to ≡ None
unfolding part
part_unbegun near to = refl

part_unended : (near : List ℕ) (from : Option ℕ) → part near from None ≡ None
unfolding part
part_unended near None = refl
part_unended near (Some from) = refl

-- whether it stands there, by the two tests
module _ (near : List ℕ) (from to : ℕ) where
  stands : from ≤ to → to ≤ length near → part near (Some from) (Some to) ≡ Some (slice_range near from to)
  unfolding part
  stands l h = choose_true _ _ (is_true _ (and_both _ _ (holds (le-leb from to l)) (holds (le-leb to (length near) h))))

  stands_nowhere : ((from ≤ to) → (to ≤ length near) → ⊥) → part near (Some from) (Some to) ≡ None
  unfolding part
  stands_nowhere n =
      choose_false _ _
      (is_false _ (λ t. n (leb-true from to (is_true _ (and_left _ _ t))) (leb-true to (length near) (is_true _ (and_right (leb from to) _ t)))))

  -- and by what std says of it
  found : (r : Option (Bor (List ℕ))) → IsGetRangeResult near from to r → option_copied r ≡ part near (Some from) (Some to)
  found None is = sym (stands_nowhere (λ l h. by l h is.0))
    where
      by : from ≤ to → to ≤ length near → (to < from) ⊎ (length near < to) → ⊥
      by l h (inl a) = omega arith
      by l h (inr a) = omega arith
  found (Some list) is = ap Some is.0.2 ∙ sym (stands is.0.0 is.0.1)

module _ (near : List ℕ) (from to : Option ℕ) (r : Option (Bor (List ℕ))) where
  pub listed_unbegun : from ≡ None → r ≡ None → option_copied r ≡ part near from to
  listed_unbegun f e = rw (e, f) (sym (part_unbegun near to))

  pub listed_unended : to ≡ None → r ≡ None → option_copied r ≡ part near from to
  listed_unended t e = rw (e, t) (sym (part_unended near from))

  pub listed_found : {start end : ℕ} → from ≡ Some start → to ≡ Some end → IsGetRangeResult near start end r → option_copied r ≡ part near from to
  listed_found {start} {end} f t is = rw (f, t) (found near start end r is)

-- a part of the table ends before the place that is written, or with it
range_before : (near : List ℕ) (from end mask : ℕ) → from ≤ end → slice_range (set near end mask) from end ≡ slice_range near from end
range_before near from end mask l =
    let e : end ≡ from + (end - from) = omega arith in
    subst (λ (at : ℕ). take (end - from) (drop from (set near at mask)) ≡ slice_range near from end) (sym e)
    (ap (λ (l : List ℕ). take (end - from) l) (drop-set-add from near (end - from) mask) ∙ take-set-le (end - from) (drop from near) (end - from) mask (omega arith))

range_more : (near : List ℕ) (from end mask : ℕ) → from ≤ end → end < length near
    → slice_range (set near end mask) from (end + 1) ≡ slice_range near from end ++ mask ∷ []
range_more near from end mask l few =
    let e : end ≡ from + (end - from) = omega arith in
    let one : end + 1 - from ≡ suc (end - from) = omega arith in
    let long : length (drop from near) ≡ length near - from = length-drop from near in
    rw one
    (subst (λ (at : ℕ). take (suc (end - from)) (drop from (set near at mask)) ≡ slice_range near from end ++ mask ∷ []) (sym e)
    (ap (λ (l : List ℕ). take (suc (end - from)) l) (drop-set-add from near (end - from) mask)
    ∙ take-suc-set (drop from near) (end - from) mask (omega arith)))

-- a part is the same where the table is, up to its end
range_same : (near near' : List ℕ) (from to : ℕ) → length near' ≡ length near → ((j : ℕ) → j < to → get_or near' j 0 ≡ get_or near j 0)
    → slice_range near' from to ≡ slice_range near from to
range_same near near' from to long same =
    ext_get_or 0 _ _ (omega (arith, length-range near', length-range near))
    (λ i l. at near' i (omega (arith, length-range near')) ∙ same (from + i) (omega (arith, length-range near')) ∙ sym (at near i (omega (arith, length-range near'))))
  where
    length-range : (near : List ℕ) → length (slice_range near from to) ≡ min (to - from) (length near - from)
    length-range near = length-take (to - from) (drop from near) ∙ ap (λ (n : ℕ). min (to - from) n) (length-drop from near)

    at : (near : List ℕ) (i : ℕ) → i < to - from → get_or (slice_range near from to) i 0 ≡ get_or near (from + i) 0
    at near i l = get_or-take (to - from) (drop from near) i 0 l ∙ get_or-drop from near i 0

-- A list stays where only places behind it are written, and what is behind one place is behind those before it.
pub part_kept : (near near' : List ℕ) (from to : Option ℕ) → length near' ≡ length near
    → ((j : ℕ) → UpTo (Some (suc j)) to → get_or near' j 0 ≡ get_or near j 0) → part near' from to ≡ part near from to
unfolding part
part_kept near near' None to long same = part_unbegun near' to ∙ sym (part_unbegun near to)
part_kept near near' (Some from) None long same = part_unended near' (Some from) ∙ sym (part_unended near (Some from))
part_kept near near' (Some from) (Some to) long same =
    ap₂ (λ (size : ℕ) (list : List ℕ). choose (leb from to and leb to size) (Some list) None) long (range_same near near' from to long (λ j l. same j (in_order l)))

pub up_to_further : {from at to : Option ℕ} → UpTo from at → UpTo at to → UpTo from to
up_to_further u nowhere = nowhere
up_to_further (in_order a) (in_order b) = in_order (omega arith)

-- one more blocker
module _ (below P : ℕ) (blocker : Blocker) (near : List ℕ) (end : ℕ) where
  pub one_full : {end' : Option ℕ} → end' ≡ None → ListedOne below P blocker near near end end'
  one_full e = record { low = λ to i. absurd (no_place e i); kept = λ j h. refl; holds = λ to i. absurd (no_place e i) }

  before : (j : ℕ) → j < end → get_or (set near end blocker.mask) j 0 ≡ get_or near j 0
  before j h = get_or-set_other near end j blocker.mask 0 (λ e. omega arith)

  module _ (place : ℕ) (here : Option Reason) (told : reason_of here ≡ first_covering below P place (blocker ∷ [])) (none : Bool)
      (is : is_some here ≡ not none) (l : end < length near) where
    covering : covers below P blocker ≡ not none
    covering = one_told below P place blocker here (is_some here) told refl ∙ is

    pub one_misses : none ≡ true → ListedOne below P blocker near (set near end blocker.mask) end (Some end)
    one_misses n = record {
      low = λ to i. omega (arith, place_is i);
      kept = before;
      holds = λ to i from h case larger.
          rw (← place_is i)
          (ap (λ (list : List ℕ). one_holds list case) (range_before near from end blocker.mask h)
          ∙ sym (ap (λ (b : Bool). one_holds (slice_range near from end) case or b) (still_misses below P case larger blocker (covering ∙ ap not n)) ∙ or_none _));
    }

    pub one_joins : none ≡ false → ListedOne below P blocker near (set near end blocker.mask) end (Some (end + 1))
    unfolding one_holds any
    one_joins n = record {
      low = λ to i. omega (arith, place_is i);
      kept = before;
      holds = λ to i from h case larger.
          rw (← place_is i)
          (ap (λ (list : List ℕ). any (subset case) list) (range_more near from end blocker.mask h l)
          ∙ any_append (subset case) (slice_range near from end) (blocker.mask ∷ [])
          ∙ ap (λ (b : Bool). any (subset case) (slice_range near from end) or b)
          (or_none _ ∙ sym (by_mask below P case larger blocker (covering ∙ ap not n))));
    }

-- the search of a list by std's `any`
pub one_of : (list : List ℕ) (case : ℕ) → list_any (subset case) list ≡ one_holds list case
unfolding one_holds any ◌or◌
one_of [] case = refl
one_of (mask ∷ list) case = at (subset case mask) (one_of list case)
  where
    at : (b : Bool) → list_any (subset case) list ≡ any (subset case) list → b || list_any (subset case) list ≡ b or any (subset case) list
    at true e = refl
    at false e = e

-- past blockers that do not pass a test
any_past : (test : Blocker → Bool) (room : BlockerRoom) (held i count : ℕ) → i + count ≤ held → ((k : ℕ) → i ≤ k → k < i + count → test (blocker_at room k) ≡ false)
    → any test (blockers_from room (held - i) i) ≡ any test (blockers_from room (held - (i + count)) (i + count))
unfolding any ◌or◌
any_past test room held i zero l none = let e : i + zero ≡ i = omega arith in rw e refl
any_past test room held i (suc count) l none =
    let e : i + suc count ≡ i + 1 + count = omega arith in
    rw (next_blocker room held i (omega arith), none i (omega arith) (omega arith), e)
    (any_past test room held (i + 1) count (omega arith) (λ k low high. none k (omega arith) (omega arith)))

-- The walk over the blockers that lists those that cover P, before place i: the masks from `from` to `end` stand for what covers it before i.
pub record Listing (masks levels : List ℕ) (below P : ℕ) (before near : List ℕ) (from count i end : ℕ) : Type 0 where
  pub all : count ≡ min (length masks) (length levels)
  pub low : from ≤ end
  pub kept : (j : ℕ) → j < from → get_or near j 0 ≡ get_or before j 0
  pub left : (case : ℕ) → T (subset P case)
      → one_holds (slice_range near from end) case or any (covers below case) (blockers_from (unstamped_room masks levels) (count - i) i)
      ≡ any (covers below case) (blockers_in masks levels)

skips_on : {masks levels : List ℕ} {below P : ℕ} {before near : List ℕ} {from count i end r : ℕ} → Listing masks levels below P before near from count i end
    → Skips masks levels below P i r → Listing masks levels below P before near from count r end
skips_on {masks} {levels} {below} {P} {before} {near} {from} {count} {i} {end} {r} so_far skips =
    record {
      all = so_far.all;
      low = so_far.low;
      kept = so_far.kept;
      left = λ case larger.
          let whole : i + (r - i) ≡ r = omega (arith, skips.begins) in
          ap (λ (b : Bool). one_holds (slice_range near from end) case or b)
          (sym (rw whole at (any_past (covers below case) (unstamped_room masks levels) count i (r - i) (omega (arith, so_far.all, skips.begins, skips.few))
          (λ k l h. still_misses below P case larger _ (skips.missed k l (omega (arith, whole)))))))
          ∙ so_far.left case larger;
    }

pub listing_starts : {masks levels : List ℕ} {below P count : ℕ} {near : List ℕ} {from r : ℕ} → count ≡ min (length masks) (length levels)
    → Skips masks levels below P 0 r → Listing masks levels below P near near from count r from
unfolding one_holds any ◌or◌
listing_starts {masks} {levels} {below} {P} {count} {near} {from} all skips = skips_on none skips
  where
    none : Listing masks levels below P near near from count 0 from
    none =
        let zeroth : from - from ≡ 0 = omega arith in
        record {
          all = all;
          low = omega arith;
          kept = λ j k. refl;
          left = λ case larger. rw (zeroth, sub-zero count, all) refl;
        }

module _ {masks levels : List ℕ} {below P : ℕ} {before near : List ℕ} {from count i end : ℕ} (so_far : Listing masks levels below P before near from count i end) where
  module _ {near' : List ℕ} {end' : Option ℕ} (one : ListedOne below P (blocker_at (unstamped_room masks levels) i) near near' end end') where
    kept_on : (j : ℕ) → j < from → get_or near' j 0 ≡ get_or before j 0
    kept_on j h = one.kept j (omega (arith, so_far.low)) ∙ so_far.kept j h

    pub listing_goes : {next r : ℕ} → i < count → end' ≡ Some next → Skips masks levels below P (i + 1) r
        → Listing masks levels below P before near' from count r next
    unfolding any
    listing_goes {next} l is skips = skips_on one_more skips
      where
        one_more : Listing masks levels below P before near' from count (i + 1) next
        one_more =
            record {
              all = so_far.all;
              low = omega (arith, so_far.low, one.low next is);
              kept = kept_on;
              left = λ case larger.
                  ap (λ (b : Bool). b or any (covers below case) (blockers_from (unstamped_room masks levels) (count - (i + 1)) (i + 1)))
                  (one.holds next is from so_far.low case larger)
                  ∙ sym (or_joined _ _ _)
                  ∙ ap (λ (table : List Blocker). one_holds (slice_range near from end) case or any (covers below case) table)
                  (sym (next_blocker (unstamped_room masks levels) count i l))
                  ∙ so_far.left case larger;
            }

    pub listing_full : {start r : Option ℕ} → start ≡ Some from → r ≡ None → Listed (blockers_in masks levels) below P before near' start r
    listing_full {start} {r} begun none = by_start begun (by_end none)
      where
        by_end : r ≡ None → Listed (blockers_in masks levels) below P before near' (Some from) r
        by_end e = subst (λ (r : Option ℕ). Listed (blockers_in masks levels) below P before near' (Some from) r) (sym e)
            record { low = nowhere; kept = λ j u. kept_on j (up_to u); holds = λ list i. absurd (part_endless near' (Some from) i) }

        by_start : start ≡ Some from → Listed (blockers_in masks levels) below P before near' (Some from) r
            → Listed (blockers_in masks levels) below P before near' start r
        by_start e listed = subst (λ (start : Option ℕ). Listed (blockers_in masks levels) below P before near' start r) (sym e) listed

  pub listing_ends : {start : Option ℕ} → start ≡ Some from → count ≤ i → Listed (blockers_in masks levels) below P before near start (Some end)
  unfolding any
  listing_ends {start} begun l =
      subst (λ (start : Option ℕ). Listed (blockers_in masks levels) below P before near start (Some end)) (sym begun)
      record {
        low = in_order so_far.low;
        kept = λ j u. so_far.kept j (up_to u);
        holds = λ list is case larger.
            ap (λ (list : List ℕ). one_holds list case) (part_is near from end is)
            ∙ sym (or_none _)
            ∙ ap (λ (table : List Blocker). one_holds (slice_range near from end) case or any (covers below case) table)
            (sym (no_blocker (unstamped_room masks levels) count i l))
            ∙ so_far.left case larger;
      }

-- where there is no place to start
pub list_nowhere : (table : List Blocker) (below P : ℕ) (near : List ℕ) (start r : Option ℕ) → start ≡ None → r ≡ None → Listed table below P near near start r
list_nowhere table below P near start r s e =
    subst (λ (r : Option ℕ). Listed table below P near near start r) (sym e)
    record { low = nowhere; kept = λ j u. refl; holds = λ list is. absurd (part_endless near start is) }

-- whether a case is settled, by the list of what can cover it
module _ (initial : ℕ) (table : List Blocker) (below Y case : ℕ) (inside : Bool) (test : inside ≡ subset case Y) (outside : inside ≡ false) where
  pub settled_listed : (list : List ℕ) (r : Bool) → r ≡ one_holds list case → one_holds list case ≡ blocked initial table below case
      → r ≡ settled initial table below Y case
  unfolding settled ◌or◌
  settled_listed list r e tells = e ∙ tells ∙ sym (rw (← test, outside))
