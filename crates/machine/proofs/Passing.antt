-- The tests before an extend and a block as propositions, that the set which a block takes passes, and that growing by states is sound.
-- Assumes nothing.
use Prim.Native.Nat.{ℕ, zero, suc, ◌≤◌, ◌<◌}
use mathlib.Core.Path.{◌≡◌, refl}
use mathlib.Core.Bool.{Bool, true, false}
use mathlib.Core.List.{List}
use mathlib.Core.Logic.{◌⊎◌, inl, inr}
use mathlib.Core.Option.{Option, none, some}
use native.Mathlib.Omega.{arith}
use lib.Dec.{T}
use Rattle.lists.specs.Tests.{◌and◌, neg, choose}
use Rattle.lists.proofs.Tests.{holds, and_left, and_right, and_both, or_cases, or_left, or_right, neg_fails, fails_neg, neg_neg}
use Rattle.lists.proofs.Lists.{each_from_at, at_each_from}
use Rattle.masks.specs.Sets.{subset, union, single, member, within}
use Rattle.machine.specs.System.{System}
use Rattle.machine.specs.Machine.{Blocker, Configuration, Growth, Given, blocked, settled, qualifies, passes}
use Rattle.machine.specs.Machine.{with_state, with_states, by_states, hint_at, Choice, chosen_from, chosen}
use Rattle.machine.proofs.Language.{Sound}
use Rattle.machine.proofs.Tables.{Blocked, by_initial, blocked_means, means_blocked}

-- a symbol that qualifies has a backward set that is not blocked
pub qualified_free : (S : System) (table : List Blocker) (below X s : ℕ) → T (qualifies S table below X s)
    → Blocked S table below (S.backward s X) → ⊥
unfolding qualifies settled
qualified_free S table below X s t b = neg_fails _ t (or_right _ _ (means_blocked b))

-- and, where that does not contain I, it does so above level 0, at which such a set is blocked
pub qualified_above : (S : System) (table : List Blocker) (below X s : ℕ) → T (qualifies S table below X s)
    → (T (subset S.initial (S.backward s X)) → ⊥) → 1 ≤ below
qualified_above S table zero X s t clear = absurd (qualified_free S table zero X s t (by_initial clear))
qualified_above S table (suc below) X s t clear = omega arith

-- the backward set of Y by s is a subset of Y or blocked
abbrev pub Held : System → List Blocker → ℕ → ℕ → ℕ → Type 0
Held S table below Y s = T (subset (S.backward s Y) Y) ⊎ Blocked S table below (S.backward s Y)

module _ {S : System} {table : List Blocker} {below : ℕ} (Y s : ℕ) where
  -- the test as the proposition
  held_means : T (settled S.initial table below Y (S.backward s Y)) → Held S table below Y s
  unfolding settled
  held_means t = at (or_cases _ _ t)
    where
      at : T (subset (S.backward s Y) Y) ⊎ T (blocked S.initial table below (S.backward s Y)) → Held S table below Y s
      at (inl u) = inl u
      at (inr u) = inr (blocked_means S table below (S.backward s Y) u)

  -- the proposition as the test
  means_held : Held S table below Y s → T (settled S.initial table below Y (S.backward s Y))
  unfolding settled
  means_held (inl u) = or_left _ _ u
  means_held (inr b) = or_right _ _ (means_blocked b)

  -- a symbol that does not qualify
  pub unqualified_held : (T (qualifies S table below Y s) → ⊥) → Held S table below Y s
  unfolding qualifies
  unqualified_held f = held_means (neg_neg _ f)

-- "A case Y passes if it contains X, does not contain I, has no bit at n or above, and its backward set by each symbol is a subset of Y or blocked."
pub record Passes (S : System) (table : List Blocker) (below X Y : ℕ) : Type 0 where
  pub contains : T (subset X Y)
  pub clear : T (subset S.initial Y) → ⊥
  pub inside : T (within S.states Y)
  pub backward : (s : ℕ) → s < S.symbols → Held S table below Y s

-- the test as the proposition
pub passes_means : (S : System) (table : List Blocker) (below X Y : ℕ) → T (passes S table below X Y) → Passes S table below X Y
unfolding passes
passes_means S table below X Y t =
    let later = and_right _ _ t in
    let last = and_right _ _ later in
    record {
      contains = and_left _ _ t;
      clear = neg_fails _ (and_left _ _ later);
      inside = and_left _ _ last;
      backward = λ s l. held_means Y s (each_from_at _ S.symbols 0 (and_right _ _ last) s (omega arith) (omega arith));
    }

-- the proposition as the test
pub means_passes : (S : System) (table : List Blocker) (below X Y : ℕ) → Passes S table below X Y → T (passes S table below X Y)
unfolding passes
means_passes S table below X Y p =
    and_both _ _ p.contains
    (and_both _ _ (fails_neg _ p.clear)
    (and_both _ _ p.inside (at_each_from _ S.symbols 0 (λ s l h. means_held Y s (p.backward s (omega arith))))))

-- what a block takes: a hint that passes, or what grows
pub data Chosen (S : System) (grow : Growth) (table : List Blocker) (below X : ℕ) : Choice → Type 0 where
  hinted : (hint : ℕ) → T (passes S table below X hint) → Chosen S grow table below X (record { mask = hint; hinted = 1 })
  grown : Chosen S grow table below X (record { mask = grow table below X; hinted = 0 })

-- each block takes one of these
pub chosen_is : (S : System) (given : Given) (c : Configuration) (below X : ℕ)
    → Chosen S given.grow c.table below X (chosen S given c below X)
unfolding chosen chosen_from choose
chosen_is S given c below X = from (hint_at given.hints c.blocks)
  where
    other : Choice
    other = record { mask = given.grow c.table below X; hinted = 0 }

    at : (hint : ℕ) (b : Bool) → passes S c.table below X hint ≡ b
        → Chosen S given.grow c.table below X (choose b (record { mask = hint; hinted = 1 }) other)
    at hint true e = hinted hint (holds e)
    at hint false e = grown

    from : (o : Option ℕ) → Chosen S given.grow c.table below X (chosen_from S given.grow c.table below X o)
    from none = grown
    from (some hint) = at hint (passes S c.table below X hint) refl

module _ {S : System} {grow : Growth} {table : List Blocker} {below X : ℕ} where
  -- it counts as one accepted hint at most
  pub chosen_hinted : {choice : Choice} → Chosen S grow table below X choice → choice.hinted ≤ 1
  chosen_hinted (hinted hint t) = omega arith
  chosen_hinted grown = omega arith

  -- it passes, if the pending case does
  pub chosen_passes : {choice : Choice} → Sound S grow → Passes S table below X X → Chosen S grow table below X choice
      → Passes S table below X choice.mask
  chosen_passes sound own (hinted hint t) = passes_means S table below X hint t
  chosen_passes sound own grown = passes_means S table below X _ (sound table below X (means_passes S table below X X own))

-- a state is kept only if the set with it passes
state_passes : (S : System) (table : List Blocker) (below X q Y : ℕ) → T (passes S table below X Y)
    → T (passes S table below X (with_state S table below X q Y))
unfolding with_state choose
state_passes S table below X q Y t = at (neg (member q X) and passes S table below X (union Y (single q))) refl
  where
    at : (b : Bool) → neg (member q X) and passes S table below X (union Y (single q)) ≡ b
        → T (passes S table below X (choose b (union Y (single q)) Y))
    at true e = and_right _ _ (holds e)
    at false e = t

-- and so for each state in turn
states_pass : (S : System) (table : List Blocker) (below X count q Y : ℕ) → T (passes S table below X Y)
    → T (passes S table below X (with_states S table below X count q Y))
unfolding with_states
states_pass S table below X zero q Y t = t
states_pass S table below X (suc count) q Y t =
    states_pass S table below X count (suc q) (with_state S table below X q Y) (state_passes S table below X q Y t)

-- growing state by state is sound
pub by_states_sound : (S : System) → Sound S (by_states S)
unfolding by_states
by_states_sound S table below X t = states_pass S table below X S.states 0 X t
