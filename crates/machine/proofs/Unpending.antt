-- The case X for which a block is made: it passes the block test itself, and "X is no longer pending": in a system with one final case, a block that
-- leaves nothing pending has blocked that case, so none becomes pending. Assumes nothing.
use Prim.Native.Nat.{ℕ, suc, ◌-◌, ◌<◌}
use mathlib.Core.Path.{◌≡◌, refl, sym, ap, subst, ◌∙◌}
use mathlib.Core.Bool.{Bool, true, false}
use mathlib.Core.List.{List, [], ◌∷◌}
use mathlib.Core.Logic.{◌⊎◌, inl, inr}
use native.Mathlib.Omega.{arith}
use lib.Dec.{T}
use lib.ListN.{length}
use Rattle.lists.specs.Tests.{choose}
use Rattle.lists.specs.Lists.{◌∈◌, keep}
use Rattle.lists.proofs.Tests.{is_true, fails}
use Rattle.lists.proofs.Lists.{in_none, in_cases}
use Rattle.machine.specs.System.{System}
use Rattle.machine.specs.Machine.{Blocker, Pending, Configuration, Given, blocked, qualifies, passes, chosen}
use Rattle.machine.specs.Machine.{staying, final_pending, pending_after}
use Rattle.machine.specs.Machine.{Step, blocks, extend_step, block_step, step}
use Rattle.machine.specs.Meaning.{is_block}
use Rattle.machine.proofs.Language.{Sound}
use Rattle.machine.proofs.Tables.{means_blocked, by_blocker}
use Rattle.machine.proofs.Rising.{put_among}
use Rattle.machine.proofs.Passing.{Passes, means_passes, chosen_is, chosen_passes}
use Rattle.machine.proofs.Steps.{under, made_by, Taken, finding, extending, blocking, step_taken}
use Rattle.machine.proofs.Invariant.{Invariant, Comes, final, chain_lowest, entering, block_covers}
use Rattle.machine.proofs.Verdicts.{Holds, unqualified_passes}

-- a final case that is blocked does not become pending
blocked_waits_not : (initial F : ℕ) (table : List Blocker) (N : ℕ) → blocked initial table N F ≡ true → final_pending initial (F ∷ []) table N ≡ []
unfolding final_pending choose
blocked_waits_not initial F table N e = rw e

-- no other step is a block
blocks_only : {st : Step} {d : Configuration} → st ≡ blocks d → is_block st ≡ false → ⊥
unfolding is_block
blocks_only e f = fails f (subst T (sym (ap is_block e)) tt)

-- a block is made for the lowest pending case where no symbol qualifies
pub record MadeFor (S : System) (given : Given) (c : Configuration) (X : Pending) (rest : List Pending) (d : Configuration) : Type 0 where
  pub unqualified : (s : ℕ) → s < S.symbols → T (qualifies S c.table (under c rest) X.case s) → ⊥
  pub is_block : block_step S.initial S.finals c rest (under c rest) (chosen S given c (under c rest) X.case) ≡ blocks d

pub made_for : {S : System} {given : Given} {c d : Configuration} {X : Pending} {rest : List Pending} → c.pending ≡ X ∷ rest → step S given c ≡ blocks d
    → MadeFor S given c X rest d
unfolding extend_step is_block
made_for {S} {given} {c} {d} {X} {rest} waits =
    at (subst (λ (pending : List Pending). Taken S given c pending c.is_open (step S given c)) waits (step_taken {given = given} c))
  where
    at : {is_open : Bool} {st : Step} → Taken S given c (X ∷ rest) is_open st → st ≡ blocks d → MadeFor S given c X rest d
    at (finding s l t u) e = absurd (blocks_only e refl)
    at (extending s l t u) e = absurd (blocks_only e refl)
    at (blocking f) e = record { unqualified = f; is_block = e }

-- "it passes the block test whenever X does, as every X that a run from its begin grows does": X does
pub grown_passes : (S : System) (given : Given) (c : Configuration) → Holds S c → {X : Pending} {rest : List Pending} {d : Configuration}
    → c.pending ≡ X ∷ rest → step S given c ≡ blocks d → T (passes S c.table (c.level - suc (length rest)) X.case X.case)
grown_passes S given c inv waits made =
    means_passes S c.table _ _ _
    (unqualified_passes (subst (Invariant S c.table c.level) waits inv) (made_for {given = given} waits made).unqualified)

module _ (S : System) {F : ℕ} (one : S.finals ≡ F ∷ []) where
  -- a pending case above which none waits is the final case
  only_final : {p : Pending} → Comes S p [] → p.case ≡ F
  only_final {p} (final m zeroed) = at (in_cases (subst (λ (l : List ℕ). p.case ∈ l) one m))
    where
      at : (p.case ≡ F) ⊎ p.case ∈ [] → p.case ≡ F
      at (inl e) = e
      at (inr k) = absurd (in_none k)

  -- after a block the cases above are pending, and no other
  after_block : {table : List Blocker} {N : ℕ} {p : Pending} (rest : List Pending) (inv : Invariant S table N (p ∷ rest)) {mask : ℕ} (entered : ℕ)
      → Passes S table (N - suc (length rest)) p.case mask
      → pending_after S.initial S.finals (put_among table (entering N rest mask entered) []) N rest ≡ rest
  unfolding pending_after
  after_block {table} {N} {p} [] inv {mask} entered passing =
      let own = chain_lowest inv.chain in
      let level : suc (N - 1) ≡ N = omega (arith, own.high) in
      let test = is_true _ (means_blocked {S = S} (by_blocker (block_covers inv entered passing))) in
      let new : List Blocker = put_among table (entering N [] mask entered) [] in
      ap (λ (finals : List ℕ). final_pending S.initial finals new N) one
      ∙ blocked_waits_not S.initial F new N
      (subst (λ (i : ℕ). blocked S.initial new i F ≡ true) level
      (subst (λ (X : ℕ). blocked S.initial new (suc (N - 1)) X ≡ true) (only_final own.comes) test))
  after_block (q ∷ rest) inv entered passing = refl

  pub block_leaves : (given : Given) → Sound S given.grow → (c : Configuration) → Holds S c → {X : Pending} {rest : List Pending} {d : Configuration}
      → c.pending ≡ X ∷ rest → step S given c ≡ blocks d → d.pending ≡ rest
  unfolding block_step put_among staying keep
  block_leaves given sound c inv {X} {rest} waits made =
      let h = subst (Invariant S c.table c.level) waits inv in
      let block = made_for {given = given} waits made in
      let passing = chosen_passes sound (unqualified_passes h block.unqualified) (chosen_is S given c (under c rest) X.case) in
      ap (λ (st : Step). (made_by st).pending) (sym block.is_block) ∙ after_block rest h _ passing
