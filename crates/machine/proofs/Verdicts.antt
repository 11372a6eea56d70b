-- The verdicts are right: a word that a run finds is a shortest accepted one and as long as the level, a frame that it answers is closed, a closed
-- frame shows that no word is accepted, and a run at level N has shown that no shorter word is. Assumes nothing.
use Prim.Native.Nat.{ℕ, zero, suc, ◌-◌, ◌≤◌, ◌<◌}
use mathlib.Core.Path.{◌≡◌, refl, sym, subst, ◌∙◌}
use mathlib.Core.Bool.{Bool, true, false}
use mathlib.Core.List.{List, [], ◌∷◌}
use mathlib.Core.Logic.{◌≢◌}
use native.Mathlib.Omega.{arith}
use borrow.Author.Tests.{eq-eqb, ne_eqb}
use lib.Dec.{T, eqb, eqb_refl, lt→ltb, ltb→lt, ltb}
use lib.ListN.{length}
use Rattle.lists.specs.Lists.{◌∈◌, here, there, any, keep}
use Rattle.lists.proofs.Tests.{holds, fails, neg_fails, choose_true, choose_false}
use Rattle.lists.proofs.Lists.{in_none, each_more, any_some, some_any, keep_in, in_keep}
use Rattle.masks.specs.Sets.{subset}
use Rattle.masks.proofs.Laws.{subset_reflexive, subset_transitive}
use Rattle.machine.specs.System.{System}
use Rattle.machine.specs.Machine.{Blocker, Pending, Configuration, Given, Rooms, beginning, staying, word_of, none_at, frame}
use Rattle.machine.specs.Machine.{Step, opens, extends, blocks, closes, answers_nonempty, answers_empty}
use Rattle.machine.specs.Machine.{open_step, extend_step, block_step, close_with, qualifies, step, Next, goes_on, ends, start_answer}
use Rattle.machine.specs.Machine.{Outcome, nonempty, empty, steps_lack, blockers_lack, word_lacks, starts_final}
use Rattle.machine.specs.Meaning.{Inside, Closed}
use Rattle.machine.proofs.Language.{taken_back, Word, accepts, Lawful, Sound, NoneAccepted, NoneShorter, Shortest}
use Rattle.machine.proofs.Tables.{Covered, Blocked, blocked_covered, blocked_lower, blocked_accepts_none}
use Rattle.machine.proofs.Rising.{put_among}
use Rattle.machine.proofs.Passing.{Passes, unqualified_held, chosen_is, chosen_passes}
use Rattle.machine.proofs.Steps.{under, Taken, opening, finding, extending, blocking, closing, emptying, step_taken}
use Rattle.machine.proofs.Steps.{Judged, room_to_open, extended, room_to_block, closed, found, emptied, no_room_to_open, no_room_to_block}
use Rattle.machine.proofs.Steps.{Advanced, tried, spent}
use Rattle.machine.proofs.Invariant.{Invariant, FinalsClear, chain_lowest, chain_origin, word_length}
use Rattle.machine.proofs.Invariant.{open_holds, extend_holds, block_holds, close_holds}

module _ (S : System) (lawful : Lawful S) where
  -- a closed frame contains whatever a word takes a final case back to
  closed_taken_back : (frame : List Blocker) → Closed S frame → {F : ℕ} → F ∈ S.finals → (word : List ℕ) → Word S word
      → Inside frame (taken_back S word F)
  unfolding taken_back
  closed_taken_back frame h {F} m [] w = h.final F m
  closed_taken_back frame h {F} m (s ∷ word) w =
      let case = closed_taken_back frame h m word (λ t k. w t (there k)) in
      let back = h.backward case.blocker case.listed s (w s (here refl)) in
      let smaller = lawful.backward_monotone s (taken_back S word F) case.blocker.mask case.covers in
      record { blocker = back.blocker; listed = back.listed; covers = subset_transitive _ _ _ smaller back.covers }

  -- a closed frame shows that no word is accepted
  pub closed_none : (frame : List Blocker) → Closed S frame → NoneAccepted S
  unfolding accepts
  closed_none frame h word w t =
      let r = any_some (λ F. subset S.initial (taken_back S word F)) S.finals t in
      let case = closed_taken_back frame h r.listed word w in
      h.initial case.blocker case.listed (subset_transitive _ _ _ r.passes case.covers)

-- at a level that holds no blocker, what is blocked is a subset of a blocker above it
frame_inside : (S : System) (table : List Blocker) (j X : ℕ) → 1 ≤ j → T (none_at table j) → Blocked S table j X → Inside (frame j table) X
unfolding none_at frame
frame_inside S table zero X l t b = absurd (omega arith)
frame_inside S table (suc j) X l t b = record {
  blocker = c.blocker;
  listed = in_keep (λ b. ltb (suc j) b.level) table c.listed (lt→ltb _ _ above);
  covers = c.inside;
}
  where
    c : Covered table (suc j) X
    c = blocked_covered b

    differs : c.blocker.level ≢ suc j
    differs e = neg_fails _ t (some_any (λ b. eqb b.level (suc j)) table c.blocker c.listed (rw e (eqb_refl (suc j))))

    above : suc j < c.blocker.level
    above = omega (arith, c.high, differs)

-- the blockers above the lowest level that holds none are a closed frame
frame_closed : {S : System} {table : List Blocker} {N : ℕ} → Invariant S table N [] → (j : ℕ) → 1 ≤ j → j ≤ N → T (none_at table j)
    → Closed S (frame j table)
unfolding frame
frame_closed {S} {table} {N} inv j l h t = record {
  final = λ F m. frame_inside S table j F l t (blocked_lower inv.kept.stands j h (inv.done refl F m));
  initial = λ b m. (inv.kept.stands b (kept_of b m).0).clear;
  backward = λ b m s k.
      frame_inside S table j (S.backward s b.mask) l t
      ((inv.kept.stands b (kept_of b m).0).backward s k j (ltb→lt _ _ (kept_of b m).1));
}
  where
    kept_of : (b : Blocker) → b ∈ keep (λ a. ltb j a.level) table → b ∈ table × T (ltb j b.level)
    kept_of b m = keep_in (λ a. ltb j a.level) table m

-- no accepted word is shorter than the level
pub none_shorter : {S : System} → Lawful S → {table : List Blocker} {N : ℕ} {pending : List Pending} → Invariant S table N pending → NoneShorter S N
none_shorter lawful {N = zero} inv = λ word w t. omega arith
none_shorter lawful {N = suc N} inv = blocked_accepts_none lawful inv.kept.stands (inv.before N (omega arith))

-- where nothing is pending, none is as long as the level either
none_as_long : {S : System} → Lawful S → {table : List Blocker} {N : ℕ} → Invariant S table N [] → NoneShorter S (suc N)
none_as_long lawful inv = blocked_accepts_none lawful inv.kept.stands (inv.done refl)

-- the word that an extend finds is accepted, and no shorter one is
found_shortest : {S : System} → Lawful S → {table : List Blocker} {N : ℕ} {p : Pending} {rest : List Pending} → Invariant S table N (p ∷ rest)
    → (s : ℕ) → s < S.symbols → T (subset S.initial (S.backward s p.case))
    → Shortest S (s ∷ word_of (p ∷ rest)) × (length (s ∷ word_of (p ∷ rest)) ≡ N)
unfolding accepts taken_back
found_shortest {S} lawful {table} {N} {p} {rest} inv s l t =
    (record { symbols = symbols; accepted = accepted; least = λ other w u. omega (arith, long, none_shorter lawful inv other w u) }, long)
  where
    word : List ℕ
    word = s ∷ word_of (p ∷ rest)

    symbols : Word S word
    symbols = each_more l (chain_origin p rest inv.chain).symbols

    accepted : T (accepts S word)
    accepted =
        let o = chain_origin p rest inv.chain in
        some_any (λ F. subset S.initial (taken_back S word F)) S.finals o.final o.listed
        (subst (λ (X : ℕ). T (subset S.initial (S.backward s X))) (sym o.taken) t)

    long : length word ≡ N
    long = omega (arith, none_shorter lawful inv word symbols accepted, word_length p rest, (chain_lowest inv.chain).high)

-- what holds of a configuration
abbrev pub Holds : System → Configuration → Type 0
Holds S c = Invariant S c.table c.level c.pending

-- the word that a run finds: a shortest one, as long as the level
pub record FoundWord (S : System) (word : List ℕ) (c : Configuration) : Type 0 where
  pub shortest : Shortest S word
  pub long : length word ≡ c.level

-- a step that goes on keeps the invariant, and one that answers answers rightly
abbrev pub Right : System → Step → Type 0
Right S (opens d) = Holds S d
Right S (extends d) = Holds S d
Right S (blocks d) = Holds S d
Right S (closes d) = Holds S d
Right S (answers_nonempty word d) = FoundWord S word d
Right S (answers_empty d) = Closed S d.table

-- a verdict is right, in its edition, and a stop has shown that no accepted word is shorter than its level, or as long as the word room or shorter
abbrev pub RightAnswer : System → Rooms → ℕ → Outcome → Configuration → Type 0
RightAnswer S rooms edition (nonempty word) left = FoundWord S word left
RightAnswer S rooms edition empty left = Closed S left.table
RightAnswer S rooms edition steps_lack left = NoneShorter S left.level
RightAnswer S rooms edition blockers_lack left = NoneShorter S left.level
RightAnswer S rooms edition word_lacks left = NoneShorter S (suc rooms.word)
RightAnswer S rooms edition starts_final left = (edition ≡ 2) × T (accepts S [])

-- "if I is a subset of F" was answered no
pub clear_finals : (S : System) → any (subset S.initial) S.finals ≡ false → FinalsClear S
clear_finals S e F m t = fails e (some_any (subset S.initial) S.finals F m t)

-- a pending case for which no symbol qualifies passes the block test itself
pub unqualified_passes : {S : System} {table : List Blocker} {N : ℕ} {p : Pending} {rest : List Pending} → Invariant S table N (p ∷ rest)
    → ((s : ℕ) → s < S.symbols → T (qualifies S table (N - suc (length rest)) p.case s) → ⊥)
    → Passes S table (N - suc (length rest)) p.case p.case
unqualified_passes {p = p} inv f = record {
  contains = subset_reflexive p.case;
  clear = (chain_lowest inv.chain).clear;
  inside = (chain_lowest inv.chain).inside;
  backward = λ s l. unqualified_held p.case s (f s l);
}

-- "if I is a subset of F" is whether the empty word is accepted
pub start_accepts : (S : System) → accepts S [] ≡ any (subset S.initial) S.finals
unfolding accepts taken_back
start_accepts S = refl

-- what is answered of a start that is final: 5 in edition 2, else 1 with the empty word
pub starts_final_lem : {edition : ℕ} → edition ≡ 2 → start_answer edition ≡ starts_final
unfolding start_answer
starts_final_lem e = choose_true starts_final (nonempty []) (eq-eqb _ 2 e)

pub starts_nonempty : {edition : ℕ} → (edition ≡ 2 → ⊥) → start_answer edition ≡ nonempty []
unfolding start_answer
starts_nonempty f = choose_false starts_final (nonempty []) (ne_eqb _ 2 f)

-- where no final case contains I the empty word is not accepted
pub clear_start : (S : System) → FinalsClear S → T (accepts S []) → ⊥
unfolding accepts taken_back
clear_start S clear t = let r = any_some (subset S.initial) S.finals t in clear _ r.listed r.passes

module _ (S : System) (lawful : Lawful S) (clear : FinalsClear S) where
  -- each step from a configuration of which the invariant holds is right
  pub step_right : (given : Given) → Sound S given.grow → (c : Configuration) → Holds S c → Right S (step S given c)
  unfolding open_step extend_step block_step close_with put_among staying keep
  step_right given sound c inv = at (step_taken c) inv
    where
      at : {pending : List Pending} {is_open : Bool} {st : Step} → Taken S given c pending is_open st → Invariant S c.table c.level pending
          → Right S st
      at opening h = open_holds lawful clear h
      at (finding s l t u) h = let r = found_shortest lawful h s l u in record { shortest = r.0; long = r.1 }
      at (extending s l t u) h = extend_holds lawful clear h s l t u
      at (blocking {p = p} {rest = rest} f) h =
          block_holds lawful clear h _ (chosen_passes sound (unqualified_passes h f) (chosen_is S given c (under c rest) p.case))
      at (closing e) h = close_holds h
      at (emptying j l k t) h = frame_closed (close_holds h) j l k t

  -- what holds of a run that works, and of one that has ended
  abbrev Stage : Rooms → ℕ → Next → Type 0
  Stage rooms edition (goes_on c) = Holds S c
  Stage rooms edition (ends outcome left) = RightAnswer S rooms edition outcome left

  -- a step as the rooms judge it: one that finds no room leaves what was shown before it
  judged_right : (edition : ℕ) {rooms : Rooms} {given : Given} {c : Configuration} {pending : List Pending} {is_open : Bool} {st : Step} {n : Next}
      → Taken S given c pending is_open st → Invariant S c.table c.level pending → Right S st → Judged rooms c st n → Stage rooms edition n
  unfolding open_step extend_step block_step close_with
  judged_right edition opening h r (room_to_open l) = r
  judged_right edition opening h r (no_room_to_open l) = λ word w t. omega (arith, l, none_as_long lawful h word w t)
  judged_right edition (finding s l t u) h r found = r
  judged_right edition (extending s l t u) h r extended = r
  judged_right edition (blocking f) h r (room_to_block l) = r
  judged_right edition (blocking f) h r (no_room_to_block l) = none_shorter lawful h
  judged_right edition (closing e) h r closed = r
  judged_right edition (emptying j l k t) h r emptied = r

  -- so does each call, whatever it is given, as long as it grows soundly
  pub advanced_right : (edition : ℕ) {rooms : Rooms} {given : Given} {c : Configuration} {n : Next} → Sound S given.grow → Holds S c
      → Advanced S rooms given c n → Stage rooms edition n
  advanced_right edition {given = given} {c = c} sound h (tried l j) =
      judged_right edition (step_taken {given = given} c) h (step_right given sound c h) j
  advanced_right edition sound h (spent l) = none_shorter lawful h

-- the empty word is found at the start
pub start_found : (S : System) → any (subset S.initial) S.finals ≡ true → FoundWord S [] beginning
unfolding beginning
start_found S e = record {
  shortest = record { symbols = λ s m. absurd (in_none m); accepted = holds (start_accepts S ∙ e); least = λ other w u. omega arith };
  long = refl;
}
