-- One state is tried after the other: without the state, with it, and the walk over all. Assumes nothing.
use Prim.Native.Nat.{ℕ, ◌+◌, ◌≤◌, ◌<◌}
use mathlib.Core.Path.{◌≡◌, refl, sym, ap, subst, ◌∙◌}
use mathlib.Core.Bool.{Bool, true, false}
use mathlib.Core.List.{List}
use mathlib.Core.Logic.{◌⊎◌, inl, inr}
use native.Mathlib.Omega.{arith}
use lib.Dec.{T}
use lib.ListN.{length}
use Rattle.lists.proofs.Lists.{each_from_at}
use Rattle.lists.proofs.Tests.{holds, fails, and_right}
use Rattle.masks.specs.Sets.{Member, member, subset, union, single, within}
use Rattle.masks.proofs.Laws.{member_means, members_subset, subset_antisymmetric}
use Rattle.automata.specs.Image.{states_of, symbols_of, row_count_of, initial_of, rows_of}
use Rattle.automata.specs.Automaton.{backward}
use Rattle.automata.specs.declared.image.Head.{Head}
use Rattle.automata.specs.Answers.{ReadAs}
use Rattle.automata.proofs.ValidImage.{valid_kept}
use Rattle.automata.proofs.Reading.{head_symbols}
use Rattle.machine.specs.Machine.{Blocker, passes, with_state, by_states}
use Rattle.machine.specs.Machine as Machine
use Rattle.machine.specs.Runs.{system_of}
use Rattle.blockers.specs.Tables.{held_in}
use Rattle.passing.specs.declared.Pending.{Pending}
use Rattle.passing.specs.Grown as Passing
use Rattle.passing.specs.Grown.{all_settled}
use Rattle.passing.proofs.Passing.{pass_initial, pass_grown}
use Rattle.passing.proofs.States.{grown_more, state_kept, state_left, StatesTried, states_start, states_go, states_end}
use Rattle.firing.specs.Linked.{Linked}
use Rattle.firing.specs.Sets.{SetsOf, Trying}
use Rattle.firing.proofs.Fires.{in_more, more_holds}
use Rattle.growing.specs.declared.trying.Grown.{Grown}
use Rattle.growing.specs.declared.trying.Lists.{Lists}
use Rattle.growing.specs.Kept.{AllSettled, Growing, Copied, Same, Settling}

pub state_few : {image : List ℕ} {X q count : ℕ} {lasts links symbols : List ℕ} → Linked image X count lasts links symbols → q < states_of image → q < 64
state_few {image} linked l = omega (arith, (valid_kept image linked.valid).states_fit)

module _ {pending : Pending} {q : ℕ} {grown : Grown} {lists : Lists} (growing : Growing pending q grown lists) where
  abbrev image : List ℕ
  image = pending.image.now

  abbrev table : List Blocker
  table = held_in pending.blockers.now

  abbrev more : ℕ
  more = union grown.set (single q)

  pub state_tried : {lasts links symbols : List ℕ} → Linked image pending.x (row_count_of image) lasts links symbols → q < states_of image
      → (there : Bool) → there ≡ member q pending.x → there ≡ false → Trying image q grown.set lasts links symbols
  state_tried linked l there test new =
      record {
        X = pending.x;
        linked = linked;
        below = growing.states;
        known = l;
        new = λ m. fails (sym test ∙ new) ((member_means q pending.x).1 m);
      }

  larger : q < states_of image → Passing.Grown image pending.x more
  larger l = grown_more (record { inside = growing.states.inside; fits = growing.fits }) l refl

  -- whether the set with the state passes
  module _ {head : Head} (read : ReadAs image head) (more' : ℕ) (put : more' ≡ more) (lacks : Bool) (test : lacks ≡ subset head.initial more') where
    pub keeps_initial : lacks ≡ true → false ≡ passes (system_of image) table pending.below.0 pending.x more
    keeps_initial t = pass_initial image table pending.below.0 pending.x more read lacks (test ∙ ap (subset head.initial) put) t

    pub keeps_rest : {lasts links symbols : List ℕ} → Trying image q grown.set lasts links symbols → lacks ≡ false → (r : Bool)
        → r ≡ all_settled image table pending.below.0 more' → r ≡ passes (system_of image) table pending.below.0 pending.x more
    keeps_rest trying f r e =
        pass_grown image table pending.below.0 pending.x more read (larger trying.known) lacks r (test ∙ ap (subset head.initial) put) f
        (e ∙ ap (all_settled image table pending.below.0) put)

  pub settling : (next' : List ℕ) (more' : ℕ) → more' ≡ more → SetsOf image more next'
      → Settling pending (record { set = grown.set; sets = grown.sets; next = next' }) more' lists
  settling next' more' put are =
      record {
        inside = growing.states.inside;
        larger = rw put (more_holds grown.set q);
        room = record { sets_fit = growing.room.sets_fit; next_fits = are.room; ends_fit = growing.room.ends_fit };
        were = growing.are;
        are = rw put are;
        near = growing.near;
        settled = growing.settled;
      }

  -- what comes of the set
  module _ {grown' : Grown} (same : Same grown grown') (there : Bool) (test : there ≡ member q pending.x) (new : there ≡ false) (r : Bool)
      (passed : r ≡ passes (system_of image) table pending.below.0 pending.x more) where
    pub set_left : r ≡ false → grown'.set ≡ with_state (system_of image) table pending.below.0 pending.x q grown.set
    set_left f = same.set ∙ state_left (system_of image) table pending.below.0 pending.x q grown.set there test more r refl passed new f

    module _ (kept : r ≡ true) (more' : ℕ) (put : more' ≡ union grown'.set (single q)) where
      is_more : more' ≡ more
      is_more = put ∙ ap (λ (Y : ℕ). union Y (single q)) same.set

      pub set_kept : more' ≡ with_state (system_of image) table pending.below.0 pending.x q grown.set
      set_kept = is_more ∙ state_kept (system_of image) table pending.below.0 pending.x q grown.set there test more r refl passed new kept

      all_pass : AllSettled image table pending.below.0 more
      unfolding passes
      all_pass =
          record {
            each = λ s l.
                each_from_at (λ s. Machine.settled (initial_of image) table pending.below.0 more (backward (rows_of image s) more)) (symbols_of image) 0
                (and_right _ _ (and_right _ _ (and_right _ _ (holds (sym passed ∙ kept))))) s (omega arith) (omega arith);
          }

      pub grows : {head : Head} → ReadAs image head → q < states_of image → (count : ℕ) (sets' : List ℕ) → count ≡ head.symbols
          → (r ≡ true → SetsOf image more grown'.next) → Copied count grown'.next sets'
          → Growing pending (q + 1) (record { set = more'; sets = sets'; next = grown'.next }) lists
      grows {head} read l count sets' all made copied =
          record {
            states = record { inside = rw is_more (larger l).inside; above = λ p l m. above p l (in_more grown.set q p (subst (Member p) is_more m)) };
            fits = rw is_more (larger l).fits;
            room = record { sets_fit = sets_fit; next_fits = (made kept).room; ends_fit = growing.room.ends_fit };
            are = rw is_more (record { room = sets_fit; are = λ s l. copied.same s (omega (arith, all, head_symbols read)) ∙ (made kept).are s l });
            near = growing.near;
            settled = rw is_more all_pass;
          }
        where
          sets_fit : symbols_of image ≤ length sets'
          sets_fit = omega (arith, copied.long, (valid_kept image read.valid).symbols_fit)

          above : (p : ℕ) → q + 1 ≤ p → Member p grown.set ⊎ (p ≡ q) → Member p pending.x
          above p l (inl i) = growing.states.above p (omega arith) i
          above p l (inr e) = absurd (omega arith)

-- the walk over the states, before state q
pub record StatesTrying (pending : Pending) (states q : ℕ) (grown : Grown) (lists : Lists) : Type 0 where
  pub tried : StatesTried pending.image.now (held_in pending.blockers.now) pending.below.0 pending.x states q grown.set
  pub growing : Growing pending q grown lists

pub tries_start : {pending : Pending} {head : Head} {grown : Grown} {lists : Lists} → ReadAs pending.image.now head → Growing pending 0 grown lists
    → StatesTrying pending head.states 0 grown lists
tries_start {pending} {head} {grown} read growing =
    record {
      tried = subst (λ (Y : ℕ). StatesTried pending.image.now (held_in pending.blockers.now) pending.below.0 pending.x head.states 0 Y) same
          (states_start read (subst (λ (Y : ℕ). T (within (states_of pending.image.now) Y)) (sym same) growing.fits));
      growing = growing;
    }
  where
    same : pending.x ≡ grown.set
    same =
        subset_antisymmetric pending.x grown.set growing.states.inside
        (members_subset grown.set pending.x (λ p m. growing.states.above p (omega arith) m))

module _ {pending : Pending} {states q : ℕ} {grown : Grown} {lists : Lists} (so_far : StatesTrying pending states q grown lists) where
  pub tries_go : (grown' : Grown) → q < states
      → grown'.set ≡ with_state (system_of pending.image.now) (held_in pending.blockers.now) pending.below.0 pending.x q grown.set
      → Growing pending (q + 1) grown' lists → StatesTrying pending states (q + 1) grown' lists
  tries_go grown' l e growing = record { tried = states_go so_far.tried grown'.set l e; growing = growing }

  pub tries_end : states ≤ q → grown.set ≡ by_states (system_of pending.image.now) (held_in pending.blockers.now) pending.below.0 pending.x
  tries_end l = states_end so_far.tried l
