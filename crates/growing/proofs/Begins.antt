-- The backward sets of X and the lists of what covers them, that a growth begins with. Assumes nothing.
use Prim.Native.Nat.{ℕ, zero, suc, ◌+◌, ◌≤◌, ◌<◌}
use mathlib.Core.Path.{◌≡◌, refl, sym, ap, subst, ◌∙◌}
use mathlib.Core.Bool.{Bool, true, false, not}
use mathlib.Core.List.{List}
use native.Mathlib.Decide.{ℕ_discrete}
use native.Mathlib.Omega.{arith}
use borrow.Author.Tests.{not-false, eqb-true, eqb-false}
use lib.Dec.{T, eqb}
use lib.ListN.{length, get_or, set, length-set}
use lib.Seq.{get_or-set_same, get_or-set_other}
use Rattle.std.proofs.Common.{Option, Some, None}
use Rattle.lists.specs.Lists.{any}
use Rattle.lists.proofs.Tests.{holds}
use Rattle.masks.specs.Sets.{Member, subset, within}
use Rattle.masks.proofs.Laws.{subset_reflexive}
use Rattle.automata.specs.Image.{states_of, symbols_of, row_count_of, initial_of, rows_of}
use Rattle.automata.specs.Automaton.{backward}
use Rattle.automata.specs.declared.image.Head.{Head}
use Rattle.automata.specs.Answers.{ReadAs}
use Rattle.automata.proofs.ValidImage.{valid_kept}
use Rattle.automata.proofs.Reading.{head_symbols, head_initial}
use Rattle.machine.specs.Machine.{Blocker, covers, blocked}
use Rattle.machine.specs.Machine as Machine
use Rattle.blockers.specs.Tables.{held_in}
use Rattle.passing.specs.declared.Pending.{Pending}
use Rattle.covering.specs.Listed.{one_holds, part, UpTo, in_order, nowhere, Listed, Tells}
use Rattle.covering.proofs.Covering.{part_kept, up_to_further}
use Rattle.growing.specs.declared.trying.Grown.{Grown}
use Rattle.growing.specs.declared.trying.Lists.{Lists}
use Rattle.growing.specs.Near.{list_of, first_place}
use Rattle.growing.specs.Kept.{SymbolRoom, Growing}

-- what the tables have places for
module _ {image : List ℕ} {head : Head} (read : ReadAs image head) where
  pub symbol_within : {s place : ℕ} → s < head.symbols → place ≡ s → place < 65
  symbol_within l e = omega (arith, head_symbols read, (valid_kept image read.valid).symbols_fit)

  pub rows_most : row_count_of image ≤ 4096
  rows_most = (valid_kept image read.valid).few_rows

-- above level 0 a case is blocked exactly if a blocker covers it
blocked_above : (initial : ℕ) (table : List Blocker) (below case : ℕ) → (below ≡ 0 → ⊥) → any (covers below case) table ≡ blocked initial table below case
unfolding blocked
blocked_above initial table zero case n = absurd (n refl)
blocked_above initial table (suc below) case n = refl

-- behind no place there is none, and no list
none_further : {from to : Option ℕ} → from ≡ None → UpTo from to → to ≡ None
none_further e nowhere = refl
none_further e (in_order l) = cc

no_list : (near : List ℕ) (from to : Option ℕ) (list : List ℕ) → from ≡ None → part near from to ≡ Some list → ⊥
unfolding part
no_list near None to list e is = cc
no_list near (Some from) to list e is = cc

up_to_same : (place : Option ℕ) → UpTo place place
up_to_same None = nowhere
up_to_same (Some place) = in_order (omega arith)

-- where the first list begins, by the test of the level
pub place_bottom : (below : ℕ) (bottom : Bool) → bottom ≡ eqb below 0 → bottom ≡ true → None ≡ first_place below
unfolding first_place
place_bottom below bottom e t = sym (rw (eqb-true below 0 (sym e ∙ t)))

pub place_above : (below : ℕ) (bottom : Bool) → bottom ≡ eqb below 0 → bottom ≡ false → Some 0 ≡ first_place below
unfolding first_place
place_above zero bottom e f = absurd (eqb-false 0 0 (sym e ∙ f) refl)
place_above (suc below) bottom e f = refl

-- at level 0 it begins nowhere
pub first_bottom : (below : ℕ) {first : Option ℕ} → first ≡ first_place below → below ≡ 0 → first ≡ None
unfolding first_place
first_bottom below e z = e ∙ ap first_place z

-- the first sets and lists, before symbol s
pub record FirstSets (pending : Pending) (bound s : ℕ) (grown : Grown) (lists : Lists) : Type 0 where
  pub all : bound ≡ symbols_of pending.image.now
  pub room : SymbolRoom pending.image.now grown lists
  pub begun : grown.set ≡ pending.x
  pub bottom : pending.below.0 ≡ 0 → get_or lists.ends s None ≡ None
  pub ahead : (t : ℕ) → t ≤ s → UpTo (get_or lists.ends t None) (get_or lists.ends s None)
  pub are : (t : ℕ) → t < s → get_or grown.sets t 0 ≡ backward (rows_of pending.image.now t) pending.x
  pub tells : (t : ℕ) → t < s → (case : ℕ) → T (subset (backward (rows_of pending.image.now t) pending.x) case)
      → Tells (initial_of pending.image.now) (held_in pending.blockers.now) pending.below.0 (list_of lists.near lists.ends t) case
  pub settled : (t : ℕ) → t < s
      → T (Machine.settled (initial_of pending.image.now) (held_in pending.blockers.now) pending.below.0 pending.x (backward (rows_of pending.image.now t) pending.x))

pub first_starts : {pending : Pending} {head : Head} {grown : Grown} {near : List ℕ} (ends : List (Option ℕ)) → ReadAs pending.image.now head
    → grown.set ≡ pending.x → length grown.sets ≡ 64 → length grown.next ≡ 64 → length ends ≡ 65 → (first : Option ℕ) → (pending.below.0 ≡ 0 → first ≡ None)
    → FirstSets pending head.symbols 0 grown (record { near = near; ends = set ends 0 first })
first_starts {pending} ends read begun sets_long next_long ends_long first bottom =
    let few = (valid_kept pending.image.now read.valid).symbols_fit in
    let zeroth : get_or (set ends 0 first) 0 None ≡ first = get_or-set_same ends 0 first None (omega arith) in
    record {
      all = head_symbols read;
      room = record {
        sets_fit = omega (arith, few);
        next_fits = omega (arith, few);
        ends_fit = omega (arith, few, length-set ends 0 first);
      };
      begun = begun;
      bottom = λ z. zeroth ∙ bottom z;
      ahead = λ t l. let e : t ≡ 0 = omega arith in rw e (up_to_same _);
      are = λ t l. absurd (omega arith);
      tells = λ t l. absurd (omega arith);
      settled = λ t l. absurd (omega arith);
    }

module _ {pending : Pending} {bound s : ℕ} {grown : Grown} {lists : Lists} (so_far : FirstSets pending bound s grown lists) where
  abbrev image : List ℕ
  image = pending.image.now

  abbrev table : List Blocker
  table = held_in pending.blockers.now

  pub first_ends : bound ≤ s → T (within (states_of image) pending.x) → Growing pending 0 grown lists
  first_ends l fits =
      record {
        states = record {
          inside = rw so_far.begun (subset_reflexive pending.x);
          above = λ p k m. subst (Member p) so_far.begun m;
        };
        fits = rw so_far.begun fits;
        room = so_far.room;
        are = record {
          room = so_far.room.sets_fit;
          are = λ t k. so_far.are t (omega (arith, so_far.all)) ∙ ap (backward (rows_of image t)) (sym so_far.begun);
        };
        near = record { tells = λ t k. so_far.tells t (omega (arith, so_far.all)) };
        settled = record { each = λ t k. rw so_far.begun (so_far.settled t (omega (arith, so_far.all))) };
      }

  -- one symbol more
  module _ (P place : ℕ) (is_place : place ≡ s) (near' : List ℕ) (end' : Option ℕ) (back : P ≡ backward (rows_of image s) pending.x)
      (listed : Listed table pending.below.0 P lists.near near' (get_or lists.ends place None) end') (long : length near' ≡ length lists.near) where
    ends' : List (Option ℕ)
    ends' = set lists.ends (place + 1) end'

    listed_here : Listed table pending.below.0 P lists.near near' (get_or lists.ends s None) end'
    listed_here = subst (λ (x : ℕ). Listed table pending.below.0 P lists.near near' (get_or lists.ends x None) end') is_place listed

    own_end : s < bound → (k : ℕ) → k ≡ s + 1 → get_or ends' k None ≡ end'
    unfolding ends'
    own_end l k q =
        let e : k ≡ place + 1 = omega arith in
        rw e (get_or-set_same lists.ends (place + 1) end' None (omega (arith, so_far.all, so_far.room.ends_fit)))

    other_end : (k : ℕ) → k ≤ s → get_or ends' k None ≡ get_or lists.ends k None
    unfolding ends'
    other_end k q = get_or-set_other lists.ends (place + 1) k end' None (λ z. omega arith)

    own_list : s < bound → (near : List ℕ) (t : ℕ) → t ≡ s → list_of near ends' t ≡ part near (get_or lists.ends s None) end'
    own_list l near t q = rw (q, other_end s (omega arith), own_end l (suc s) (omega arith)) refl

    here_tells : (case : ℕ) → T (subset P case) → (list : List ℕ) → part near' (get_or lists.ends s None) end' ≡ Some list
        → one_holds list case ≡ blocked (initial_of image) table pending.below.0 case
    here_tells case larger list is =
        listed_here.holds list is case larger
        ∙ blocked_above (initial_of image) table pending.below.0 case (λ z. no_list near' _ end' list (so_far.bottom z) is)

    pub first_told : {head : Head} → ReadAs image head → s < bound → (listed : Option (List ℕ)) → listed ≡ list_of near' (set lists.ends (place + 1) end') place
        → (list : List ℕ) → listed ≡ Some list → one_holds list P ≡ blocked head.initial table pending.below.0 P
    unfolding ends'
    first_told read l listed is list one =
        rw (head_initial read) (here_tells P (subset_reflexive P) list (sym (own_list l near' place is_place) ∙ sym is ∙ one))

    pub first_goes : {head : Head} (b : Bool) → ReadAs image head → s < bound → b ≡ Machine.settled head.initial table pending.below.0 pending.x P → not b ≡ false
        → FirstSets pending bound (s + 1) (record { set = grown.set; sets = set grown.sets place P; next = grown.next })
        (record { near = near'; ends = set lists.ends (place + 1) end' })
    unfolding ends'
    first_goes {head} b read l test n =
        record {
          all = so_far.all;
          room = record {
            sets_fit = omega (arith, length-set grown.sets place P, so_far.room.sets_fit);
            next_fits = so_far.room.next_fits;
            ends_fit = omega (arith, length-set lists.ends (place + 1) end', so_far.room.ends_fit);
          };
          begun = so_far.begun;
          bottom = λ z. own_end l (s + 1) refl ∙ none_further (so_far.bottom z) listed_here.low;
          ahead = λ t k. ahead t k (ℕ_discrete t (s + 1));
          are = λ t k. are t k (ℕ_discrete t s);
          tells = λ t k. tells t k (ℕ_discrete t s);
          settled = λ t k. is_settled t k (ℕ_discrete t s);
        }
      where
        before : (t : ℕ) → t ≤ s → UpTo (get_or ends' t None) (get_or lists.ends s None)
        before t k = rw (other_end t k) (so_far.ahead t k)

        ahead : (t : ℕ) → t ≤ s + 1 → Dec (t ≡ s + 1) → UpTo (get_or ends' t None) (get_or ends' (s + 1) None)
        ahead t k (yes q) = rw q (up_to_same _)
        ahead t k (no q) = rw (own_end l (s + 1) refl) (up_to_further (before t (omega arith)) listed_here.low)

        are : (t : ℕ) → t < s + 1 → Dec (t ≡ s) → get_or (set grown.sets place P) t 0 ≡ backward (rows_of image t) pending.x
        are t k (yes q) =
            let e : t ≡ place = omega arith in
            rw e (get_or-set_same grown.sets place P 0 (omega (arith, so_far.all, so_far.room.sets_fit)))
            ∙ back
            ∙ ap (λ (x : ℕ). backward (rows_of image x) pending.x) (sym q)
        are t k (no q) = get_or-set_other grown.sets place t P 0 (λ z. q (z ∙ is_place)) ∙ so_far.are t (omega arith)

        is_settled : (t : ℕ) → t < s + 1 → Dec (t ≡ s)
            → T (Machine.settled (initial_of image) table pending.below.0 pending.x (backward (rows_of image t) pending.x))
        is_settled t k (yes q) =
            subst (λ (x : ℕ). T (Machine.settled (initial_of image) table pending.below.0 pending.x (backward (rows_of image x) pending.x))) (sym q)
            (subst (λ (x : ℕ). T (Machine.settled (initial_of image) table pending.below.0 pending.x x)) back
            (subst (λ (I : ℕ). T (Machine.settled I table pending.below.0 pending.x P)) (head_initial read) (holds (sym test ∙ not-false b n))))
        is_settled t k (no q) = so_far.settled t (omega arith)

        tells : (t : ℕ) → t < s + 1 → Dec (t ≡ s) → (case : ℕ) → T (subset (backward (rows_of image t) pending.x) case)
            → Tells (initial_of image) table pending.below.0 (list_of near' ends' t) case
        tells t k (yes q) case larger list is =
            here_tells case (subst (λ (x : ℕ). T (subset x case)) (ap (λ (x : ℕ). backward (rows_of image x) pending.x) q ∙ sym back) larger) list
            (sym (own_list l near' t q) ∙ is)
        tells t k (no q) case larger list is =
            so_far.tells t (omega arith) case larger list
            (sym (part_kept lists.near near' _ _ long (λ j u. listed_here.kept j (up_to_further u (so_far.ahead (suc t) (omega arith)))))
            ∙ sym (rw (other_end t (omega arith), other_end (suc t) (omega arith)) refl)
            ∙ is)
