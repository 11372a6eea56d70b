-- When blockers entered: a step lets a new one in at the table's end or lets some leave, and those that stay keep their order and their number. So
-- in every table of a run the numbers rise. Assumes nothing.
use Prim.Native.Nat.{ℕ, zero, suc, ◌≤◌, ◌<◌}
use mathlib.Core.Path.{◌≡◌, refl, sym, ◌∙◌, subst}
use mathlib.Core.Bool.{Bool, true, false}
use mathlib.Core.List.{List, [], ◌∷◌, ◌++◌, append-nil}
use native.Mathlib.Omega.{arith}
use lib.Dec.{ltb}
use lib.ListN.{length}
use lib.Seq.{append_snoc}
use Rattle.lists.specs.Tests.{neg, choose}
use Rattle.lists.specs.Lists.{keep}
use Rattle.machine.specs.System.{System}
use Rattle.machine.specs.Machine.{Blocker, Pending, Configuration, Given, Rooms, beginning}
use Rattle.machine.specs.Machine.{leaves, staying, rises, risen, rise_along, rise_levels, frame}
use Rattle.machine.specs.Machine.{Step, open_step, extend_step, block_step, close_with, Next, comes_to}
use Rattle.machine.specs.Meaning.{EnteredInOrder}
use Rattle.machine.proofs.Steps.{closed_table, Taken, opening, finding, extending, blocking, closing, emptying, step_taken}
use Rattle.machine.proofs.Steps.{Judged, room_to_open, extended, room_to_block, closed, found, emptied, no_room_to_open, no_room_to_block}
use Rattle.machine.proofs.Steps.{Advanced, tried, spent}

-- some blockers of a table have left, and each of the others stays in its order, with the step with which it entered
pub data Left : List Blocker → List Blocker → Type 0 where
  nobody : Left [] []
  leaving : {blocker : Blocker} {old new : List Blocker} → Left old new → Left (blocker ∷ old) new
  stays : {before after : Blocker} {old new : List Blocker} → before.entered ≡ after.entered → Left old new → Left (before ∷ old) (after ∷ new)

all_stay : (table : List Blocker) → Left table table
all_stay [] = nobody
all_stay (blocker ∷ table) = stays refl (all_stay table)

leave_twice : {first second third : List Blocker} → Left first second → Left second third → Left first third
leave_twice nobody l = l
leave_twice (leaving k) l = leaving (leave_twice k l)
leave_twice (stays e k) (leaving l) = leaving (leave_twice k l)
leave_twice (stays e k) (stays f l) = stays (e ∙ f) (leave_twice k l)

leave_both : {a b c d : List Blocker} → Left a b → Left c d → Left (a ++ c) (b ++ d)
leave_both nobody l = l
leave_both (leaving k) l = leaving (leave_both k l)
leave_both (stays e k) l = stays e (leave_both k l)

leave_kept : (test : Blocker → Bool) (table : List Blocker) → Left table (keep test table)
unfolding keep choose
leave_kept test [] = nobody
leave_kept test (blocker ∷ table) = at (test blocker) (leave_kept test table)
  where
    at : (b : Bool) → Left table (keep test table) → Left (blocker ∷ table) (choose b (blocker ∷ keep test table) (keep test table))
    at true l = stays refl l
    at false l = leaving l

leave_staying : (Y : Blocker) (table : List Blocker) → Left table (staying Y table)
unfolding staying
leave_staying Y table = leave_kept (λ blocker. neg (leaves Y blocker)) table

-- the walk of a close at one level
left_along : (S : System) (turns j : ℕ) (passed ahead : List Blocker) → Left (passed ++ ahead) (rise_along S turns j passed ahead)
unfolding rise_along risen
left_along S zero j passed ahead = all_stay (passed ++ ahead)
left_along S (suc turns) j passed [] = subst (λ (old : List Blocker). Left old passed) (sym (append-nil passed)) (all_stay passed)
left_along S (suc turns) j passed (blocker ∷ ahead) =
    at (λ u v. left_along S turns j u v) (rises S (passed ++ blocker ∷ ahead) j blocker)
  where
    at : ((u v : List Blocker) → Left (u ++ v) (rise_along S turns j u v)) → (b : Bool)
        → Left (passed ++ blocker ∷ ahead) (elim b [
          | true ↦ rise_along S turns j (staying (risen blocker) passed ++ risen blocker ∷ []) (staying (risen blocker) ahead)
          | false ↦ rise_along S turns j (passed ++ blocker ∷ []) ahead
        ])
    at rec true =
        let first : List Blocker = staying (risen blocker) passed in
        let rest : List Blocker = staying (risen blocker) ahead in
        leave_twice
        (subst (λ (new : List Blocker). Left (passed ++ blocker ∷ ahead) new) (sym (append_snoc first (risen blocker) rest))
        (leave_both (leave_staying (risen blocker) passed) (stays refl (leave_staying (risen blocker) ahead))))
        (rec (first ++ risen blocker ∷ []) rest)
    at rec false =
        subst (λ (old : List Blocker). Left old (rise_along S turns j (passed ++ blocker ∷ []) ahead)) (append_snoc passed blocker ahead)
        (rec (passed ++ blocker ∷ []) ahead)

-- at each level
left_levels : (S : System) (count j : ℕ) (table : List Blocker) → Left table (rise_levels S count j table)
unfolding rise_levels
left_levels S zero j table = all_stay table
left_levels S (suc count) j table =
    leave_twice (left_along S (length table) j [] table) (left_levels S count (suc j) (rise_along S (length table) j [] table))

-- the order may begin sooner and end later
order_wider : {before before' by by' : ℕ} → before' ≤ before → by ≤ by' → (table : List Blocker) → EnteredInOrder before by table
    → EnteredInOrder before' by' table
unfolding EnteredInOrder
order_wider l h [] o = tt
order_wider l h (blocker ∷ table) o = (omega (arith, o.0), omega (arith, o.1), order_wider (omega arith) h table o.2)

-- it stays where blockers leave
order_left : (before by : ℕ) {old new : List Blocker} → Left old new → EnteredInOrder before by old → EnteredInOrder before by new
unfolding EnteredInOrder
order_left before by nobody o = tt
order_left before by (leaving {old = old} k) o = order_left before by k (order_wider (omega (arith, o.0)) (omega arith) old o.2)
order_left before by (stays {after = after} {old = old} e k) o =
    (omega (arith, o.0), omega (arith, o.1), order_left after.entered by k (subst (λ (x : ℕ). EnteredInOrder x by old) e o.2))

-- and where one enters later than all
order_last : {before by by' : ℕ} (table : List Blocker) (Y : Blocker) → before < Y.entered → by < Y.entered → Y.entered ≤ by'
    → EnteredInOrder before by table → EnteredInOrder before by' (table ++ Y ∷ [])
unfolding EnteredInOrder
order_last [] Y l h k o = (l, k, tt)
order_last (blocker ∷ table) Y l h k o = (o.0, omega (arith, o.1), order_last table Y (omega (arith, o.1)) h k o.2)

-- in a configuration all of them entered by its last step
abbrev pub Stamped : Configuration → Type 0
Stamped c = EnteredInOrder 0 c.steps c.table

-- a step that changes nothing of the table, or lets some leave
stamped_left : (c : Configuration) {new : List Blocker} → Left c.table new → Stamped c → EnteredInOrder 0 (suc c.steps) new
stamped_left c l o = order_left 0 (suc c.steps) l (order_wider (omega arith) (omega arith) c.table o)

-- a step keeps the order, whether it is made, answers or finds no room
judged_stamped : {S : System} {given : Given} {rooms : Rooms} {c : Configuration} {pending : List Pending} {is_open : Bool}
    {st : Step} {n : Next} → Taken S given c pending is_open st → Judged rooms c st n → Stamped c → Stamped (comes_to n)
unfolding open_step extend_step block_step close_with frame
judged_stamped {c = c} opening (room_to_open l) o = stamped_left c (all_stay c.table) o
judged_stamped opening (no_room_to_open l) o = o
judged_stamped {c = c} (finding s l t u) found o = stamped_left c (all_stay c.table) o
judged_stamped {c = c} (extending s l t u) extended o = stamped_left c (all_stay c.table) o
judged_stamped {c = c} (blocking f) (room_to_block l) o =
    order_last (staying _ c.table) _ (omega arith) (omega arith) (omega arith) (order_left 0 c.steps (leave_staying _ c.table) o)
judged_stamped (blocking f) (no_room_to_block l) o = o
judged_stamped {S} {c = c} (closing e) closed o = stamped_left c (left_levels S c.level 1 c.table) o
judged_stamped {S} {c = c} (emptying j l h t) emptied o =
    stamped_left c (leave_twice (left_levels S c.level 1 c.table) (leave_kept (λ b. ltb j b.level) (closed_table S c))) o

-- a call keeps it, whatever it is given
pub advanced_stamped : {S : System} {rooms : Rooms} {given : Given} {c : Configuration} {n : Next} → Advanced S rooms given c n → Stamped c
    → Stamped (comes_to n)
advanced_stamped {given = given} {c = c} (tried l j) o = judged_stamped (step_taken {given = given} c) j o
advanced_stamped (spent l) o = o

-- it is so at the beginning
pub beginning_stamped : Stamped beginning
unfolding beginning EnteredInOrder
beginning_stamped = tt
