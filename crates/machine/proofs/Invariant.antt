-- What holds of each configuration of a run: its table, that its pending cases form a chain from a final case down, none of them blocked at its
-- level, and that every final case is blocked below N, and at N where nothing is pending. Each step keeps it. Assumes nothing.
use Prim.Native.Nat.{ℕ, suc, ◌+◌, ◌-◌, ◌≤◌, ◌<◌}
use mathlib.Core.Path.{◌≡◌, refl, sym, ap, ◌∙◌}
use mathlib.Core.Bool.{Bool, true, false}
use mathlib.Core.List.{List, [], ◌∷◌, ◌++◌, append-nil, cons≢nil}
use mathlib.Core.Logic.{◌⊎◌, inl, inr}
use native.Mathlib.Decide.{dec_le}
use native.Mathlib.Omega.{arith}
use lib.Dec.{T}
use lib.ListN.{length}
use Rattle.lists.specs.Tests.{neg, choose}
use Rattle.lists.specs.Lists.{◌∈◌, here, there, Each}
use Rattle.lists.proofs.Tests.{holds, fails}
use Rattle.lists.proofs.Lists.{in_none, in_left, each_more}
use Rattle.lists.proofs.Pairs.{nil}
use Rattle.masks.specs.Sets.{subset, within}
use Rattle.masks.proofs.Laws.{subset_reflexive, subset_transitive}
use Rattle.machine.specs.System.{System}
use Rattle.machine.specs.Machine.{Blocker, Pending, blocked, leaves, rise_levels, word_of, final_pending, pending_after, qualifies}
use Rattle.machine.proofs.Language.{taken_back, Word, Lawful}
use Rattle.machine.proofs.Tables.{Covered, Blocked, by_initial, blocked_means, means_blocked, covered_lower, covered_blocked, blocked_lower}
use Rattle.machine.proofs.Tables.{Stands, blocked_stays_blocked}
use Rattle.machine.proofs.Rising.{Kept, Grown, Enters, put_among, put_put_among_new, put_put_among_from, entered_grown, levels_grown}
use Rattle.machine.proofs.Passing.{Passes, Held, qualified_free, qualified_above}

-- where the case before `rest` comes from: it is a final case, "and 0 for the first one's symbol", or the backward set by its symbol of the first case of `rest`
pub data Comes (S : System) (p : Pending) : List Pending → Type 0 where
  final : p.case ∈ S.finals → p.symbol ≡ 0 → Comes S p []
  backward : {q : Pending} {rest : List Pending} → p.symbol < S.symbols → p.case ≡ S.backward p.symbol q.case → Comes S p (q ∷ rest)

-- The case p waits before `rest`, at the level N − length rest: that is 1 or more, the case is not blocked there, does not contain I and has no bit
-- at n or above.
pub record Waits (S : System) (table : List Blocker) (N : ℕ) (p : Pending) (rest : List Pending) : Type 0 where
  pub comes : Comes S p rest
  pub high : length rest < N
  pub free : (i : ℕ) → N ≤ i + length rest → Covered table i p.case → ⊥
  pub clear : T (subset S.initial p.case) → ⊥
  pub inside : T (within S.states p.case)

-- each pending case waits before those of higher levels
pub data Chain (S : System) (table : List Blocker) (N : ℕ) : List Pending → Type 0 where
  nothing : Chain S table N []
  lowest : {p : Pending} {rest : List Pending} → Waits S table N p rest → Chain S table N rest → Chain S table N (p ∷ rest)

-- each final case is blocked at i
abbrev pub FinalsBlocked : System → List Blocker → ℕ → Type 0
FinalsBlocked S table i = Each (λ F. Blocked S table i F) S.finals

-- no final case contains I: what is tested at the start
abbrev pub FinalsClear : System → Type 0
FinalsClear S = Each (λ F. T (subset S.initial F) → ⊥) S.finals

-- the table is as each table of a run, the pending cases form a chain, and the final cases are blocked as far as the run has come
pub record Invariant (S : System) (table : List Blocker) (N : ℕ) (pending : List Pending) : Type 0 where
  pub kept : Kept S (suc N) table
  pub chain : Chain S table N pending
  pub done : pending ≡ [] → FinalsBlocked S table N
  pub before : (j : ℕ) → j < N → FinalsBlocked S table j

module _ {S : System} {table : List Blocker} {N : ℕ} where
  -- the lowest pending case waits
  pub chain_lowest : {p : Pending} {rest : List Pending} → Chain S table N (p ∷ rest) → Waits S table N p rest
  chain_lowest (lowest w c) = w

  -- the pending cases above the lowest form a chain
  pub chain_rest : {p : Pending} {rest : List Pending} → Chain S table N (p ∷ rest) → Chain S table N rest
  chain_rest (lowest w c) = c

  -- no more cases are pending than there are levels
  pub chain_length : {pending : List Pending} → Chain S table N pending → length pending ≤ N
  chain_length nothing = omega arith
  chain_length (lowest w c) = w.high

-- the first pending case, which stands behind those of lower levels, has the symbol 0
pub first_symbol : {S : System} {table : List Blocker} {N : ℕ} (lower : List Pending) (p : Pending) → Chain S table N (lower ++ p ∷ []) → p.symbol ≡ 0
first_symbol {S} [] p c = at (chain_lowest c).comes
  where
    at : Comes S p [] → p.symbol ≡ 0
    at (final m zeroed) = zeroed
first_symbol (q ∷ lower) p c = first_symbol lower p (chain_rest c)

-- the word of the pending cases takes a final case back to the lowest of them
pub record Origin (S : System) (p : Pending) (rest : List Pending) : Type 0 where
  pub final : ℕ
  pub listed : final ∈ S.finals
  pub taken : taken_back S (word_of (p ∷ rest)) final ≡ p.case
  pub symbols : Word S (word_of (p ∷ rest))

-- a chain has an origin
pub chain_origin : {S : System} {table : List Blocker} {N : ℕ} (p : Pending) (rest : List Pending) → Chain S table N (p ∷ rest) → Origin S p rest
unfolding word_of taken_back
chain_origin {S} p [] c = at (chain_lowest c).comes
  where
    at : Comes S p [] → Origin S p []
    at (final m zeroed) = record { final = p.case; listed = m; taken = refl; symbols = λ s k. absurd (in_none k) }
chain_origin {S} p (q ∷ rest) c = at (chain_lowest c).comes (chain_origin q rest (chain_rest c))
  where
    at : Comes S p (q ∷ rest) → Origin S q rest → Origin S p (q ∷ rest)
    at (backward l e) o = record {
      final = o.final;
      listed = o.listed;
      taken = ap (S.backward p.symbol) o.taken ∙ sym e;
      symbols = each_more l o.symbols;
    }

-- its word has a symbol for each pending case but the first
pub word_length : (p : Pending) (rest : List Pending) → length (word_of (p ∷ rest)) ≡ length rest
unfolding word_of
word_length p [] = refl
word_length p (q ∷ rest) = ap suc (word_length q rest)

-- cases that wait above level i go on waiting where only blockers of level i or lower have come in
chain_stays : {S : System} {old new : List Blocker} {N i : ℕ} {rest : List Pending} → Each (λ b. b ∈ old ⊎ (b.level ≤ i)) new
    → i + length rest ≤ N → Chain S old N rest → Chain S new N rest
chain_stays from l nothing = nothing
chain_stays {S} {old} {new} {N} {i} from l (lowest {p = p} {rest = rest} w c) =
    lowest
    (record { comes = w.comes; high = w.high; free = free; clear = w.clear; inside = w.inside })
    (chain_stays from (omega arith) c)
  where
    free : (j : ℕ) → N ≤ j + length rest → Covered new j p.case → ⊥
    free j h k = at (from k.blocker k.listed)
      where
        at : k.blocker ∈ old ⊎ (k.blocker.level ≤ i) → ⊥
        at (inl m) = w.free j h (record { blocker = k.blocker; listed = m; high = k.high; inside = k.inside })
        at (inr low) = omega (arith, k.high)

-- a table's blockers may be of higher levels yet
kept_higher : {S : System} {low high : ℕ} {table : List Blocker} → low ≤ high → Kept S low table → Kept S high table
kept_higher {S} {low} {high} {table} l k = record { stands = λ b m. raise (k.stands b m); apart = k.apart }
  where
    raise : {b : Blocker} → Stands S low table b → Stands S high table b
    raise h = record { positive = h.positive; low = omega (arith, h.low); clear = h.clear; inside = h.inside; backward = h.backward }

-- what becomes pending of some final cases: nothing, where all are blocked, or the first that is not
pub data Waiting (S : System) (table : List Blocker) (N : ℕ) (finals : List ℕ) : List Pending → Type 0 where
  none_waits : Each (λ F. Blocked S table N F) finals → Waiting S table N finals []
  one_waits : (F : ℕ) → F ∈ finals → (Blocked S table N F → ⊥) → Waiting S table N finals (record { case = F; symbol = 0 } ∷ [])

finals_wait : (S : System) (table : List Blocker) (N : ℕ) (finals : List ℕ) → Waiting S table N finals (final_pending S.initial finals table N)
unfolding final_pending choose
finals_wait S table N [] = none_waits (λ F m. absurd (in_none m))
finals_wait S table N (F ∷ finals) = at (blocked S.initial table N F) refl (finals_wait S table N finals)
  where
    later : {pending : List Pending} → Blocked S table N F → Waiting S table N finals pending → Waiting S table N (F ∷ finals) pending
    later b (none_waits all) = none_waits (each_more b all)
    later b (one_waits G m f) = one_waits G (there m) f

    at : (b : Bool) → blocked S.initial table N F ≡ b → Waiting S table N finals (final_pending S.initial finals table N)
        → Waiting S table N (F ∷ finals) (choose b (final_pending S.initial finals table N) (record { case = F; symbol = 0 } ∷ []))
    at true e w = later (blocked_means S table N F (holds e)) w
    at false e w = one_waits F (here refl) (λ b. fails e (means_blocked b))

-- so at most one becomes pending
pub finals_few : (S : System) (table : List Blocker) (N : ℕ) → length (final_pending S.initial S.finals table N) ≤ 1
finals_few S table N = at (finals_wait S table N S.finals)
  where
    at : {pending : List Pending} → Waiting S table N S.finals pending → length pending ≤ 1
    at (none_waits all) = omega arith
    at (one_waits F m f) = omega arith

-- and what is pending after a block is no more than there are levels, as it was before
pub after_few : (S : System) (table : List Blocker) (N : ℕ) (rest : List Pending) → length rest < N
    → length (pending_after S.initial S.finals table N rest) ≤ N
unfolding pending_after
after_few S table N [] l = omega (arith, finals_few S table N)
after_few S table N (p ∷ rest) l = omega arith

-- where no final case becomes pending, all are blocked
finals_done : {S : System} (table : List Blocker) (N : ℕ) → final_pending S.initial S.finals table N ≡ [] → FinalsBlocked S table N
finals_done {S} table N = at (finals_wait S table N S.finals)
  where
    at : {pending : List Pending} → Waiting S table N S.finals pending → pending ≡ [] → FinalsBlocked S table N
    at (none_waits all) e = all
    at (one_waits F m f) e = absurd (cons≢nil e)

-- where nothing is pending after a block, all are blocked
after_done : {S : System} (table : List Blocker) (N : ℕ) (rest : List Pending) → pending_after S.initial S.finals table N rest ≡ [] → FinalsBlocked S table N
unfolding pending_after
after_done table N [] e = finals_done table N e
after_done table N (p ∷ rest) e = absurd (cons≢nil e)

-- the blocker that enters for the case before `rest`, at that case's level
abbrev pub entering : ℕ → List Pending → ℕ → ℕ → Blocker
entering N rest mask entered = record { mask = mask; level = suc (N - suc (length rest)); entered = entered }

module _ {S : System} {table : List Blocker} {N : ℕ} {p : Pending} {rest : List Pending} (inv : Invariant S table N (p ∷ rest))
    {mask : ℕ} (entered : ℕ) (passing : Passes S table (N - suc (length rest)) p.case mask) where
  -- a set that passes may enter: nothing that contains it is of the pending case's level, for that case is not blocked there
  block_enters : Enters S (suc N) table table (entering N rest mask entered) []
  block_enters = record {
    rest = λ b m. rw append-nil at m;
    others = λ b m. inl (in_left [] m);
    positive = omega arith;
    low = omega arith;
    clear = passing.clear;
    inside = passing.inside;
    backward = λ s l j h. at s j (omega arith) (passing.backward s l);
    apart = rw append-nil inv.kept.apart;
    higher = λ b m t. higher b (rw append-nil at m) t (dec_le (suc (N - suc (length rest))) b.level);
  }
    where
      own : Waits S table N p rest
      own = chain_lowest inv.chain

      at : (s j : ℕ) → j ≤ N - suc (length rest) → Held S table (N - suc (length rest)) mask s
          → Blocked S table j (S.backward s mask) ⊎ T (subset (S.backward s mask) mask)
      at s j h (inl t) = inr t
      at s j h (inr b) = inl (blocked_lower inv.kept.stands j h b)

      higher : (b : Blocker) → b ∈ table → T (subset mask b.mask) → Dec (suc (N - suc (length rest)) ≤ b.level)
          → b.level < suc (N - suc (length rest))
      higher b m t (yes h) =
          let inside = subset_transitive p.case mask b.mask passing.contains t in
          absurd (own.free b.level (omega (arith, own.high)) (record { blocker = b; listed = m; high = omega arith; inside = inside }))
      higher b m t (no h) = omega arith

  -- the table with it has grown
  pub block_grown : Grown S (suc N) table (put_among table (entering N rest mask entered) [])
  block_grown = entered_grown inv.kept block_enters

  -- what was pending is blocked now
  pub block_covers : Covered (put_among table (entering N rest mask entered) []) (suc (N - suc (length rest))) p.case
  block_covers = record {
    blocker = entering N rest mask entered;
    listed = put_put_among_new table (entering N rest mask entered) [];
    high = omega arith;
    inside = passing.contains;
  }

  -- the cases above it go on waiting
  block_chain : Chain S (put_among table (entering N rest mask entered) []) N rest
  block_chain = chain_stays from (omega (arith, (chain_lowest inv.chain).high)) (chain_rest inv.chain)
    where
      from : Each (λ b. b ∈ table ⊎ (b.level ≤ suc (N - suc (length rest)))) (put_among table (entering N rest mask entered) [])
      from b m = at (put_put_among_from table (entering N rest mask entered) [] m)
        where
          at : (b ≡ entering N rest mask entered) ⊎ (b ∈ (table ++ []) × T (neg (leaves (entering N rest mask entered) b)))
              → b ∈ table ⊎ (b.level ≤ suc (N - suc (length rest)))
          at (inl e) = inr (rw e (omega arith))
          at (inr r) = inl (rw append-nil at r.0)

-- the invariant holds after a close
pub close_holds : {S : System} {table : List Blocker} {N : ℕ} → Invariant S table N [] → Invariant S (rise_levels S N 1 table) N []
close_holds {S} {table} {N} inv = record {
  kept = grown.kept;
  chain = nothing;
  done = λ e F m. blocked_stays_blocked grown.grows (inv.done refl F m);
  before = λ j l F m. blocked_stays_blocked grown.grows (inv.before j l F m);
}
  where
    grown : Grown S (suc N) table (rise_levels S N 1 table)
    grown = levels_grown N 1 (omega arith) inv.kept

module _ {S : System} (lawful : Lawful S) (finals_clear : FinalsClear S) where
  -- a final case that becomes pending waits
  finals_chain : {table : List Blocker} {N : ℕ} → 1 ≤ N → Each (Stands S (suc N) table) table
      → Chain S table N (final_pending S.initial S.finals table N)
  finals_chain {table} {N} positive stands = at (finals_wait S table N S.finals)
    where
      at : {pending : List Pending} → Waiting S table N S.finals pending → Chain S table N pending
      at (none_waits all) = nothing
      at (one_waits F m f) =
          lowest
          (record {
            comes = final m refl;
            high = positive;
            free = λ i l c. f (covered_blocked stands N (covered_lower (omega arith) (subset_reflexive F) c));
            clear = finals_clear F m;
            inside = lawful.finals_within F m;
          })
          nothing

  -- what is pending after a block forms a chain
  after_chain : {table : List Blocker} {N : ℕ} (rest : List Pending) → 1 ≤ N → Each (Stands S (suc N) table) table → Chain S table N rest
      → Chain S table N (pending_after S.initial S.finals table N rest)
  unfolding pending_after
  after_chain [] positive stands c = finals_chain positive stands
  after_chain (p ∷ rest) positive stands c = c

  -- the invariant holds at the beginning
  pub beginning_holds : Invariant S [] 0 []
  beginning_holds = record {
    kept = record { stands = λ b m. absurd (in_none m); apart = nil };
    chain = nothing;
    done = λ e F m. by_initial (finals_clear F m);
    before = λ j l. absurd (omega arith);
  }

  -- after an open
  pub open_holds : {table : List Blocker} {N : ℕ} → Invariant S table N [] → Invariant S table (suc N) (final_pending S.initial S.finals table (suc N))
  open_holds {table} {N} inv = record {
    kept = kept;
    chain = finals_chain (omega arith) kept.stands;
    done = finals_done table (suc N);
    before = λ j l F m. blocked_lower inv.kept.stands j (omega arith) (inv.done refl F m);
  }
    where
      kept : Kept S (suc (suc N)) table
      kept = kept_higher (omega arith) inv.kept

  module _ {table : List Blocker} {N : ℕ} {p : Pending} {rest : List Pending} (inv : Invariant S table N (p ∷ rest)) where
    -- after an extend that does not answer
    pub extend_holds : (s : ℕ) → s < S.symbols → T (qualifies S table (N - suc (length rest)) p.case s)
        → (T (subset S.initial (S.backward s p.case)) → ⊥)
        → Invariant S table N (record { case = S.backward s p.case; symbol = s } ∷ p ∷ rest)
    extend_holds s l t clear = record {
      kept = inv.kept;
      chain = lowest waits inv.chain;
      done = λ e. absurd (cons≢nil e);
      before = inv.before;
    }
      where
        below : ℕ
        below = N - suc (length rest)

        unblocked : Blocked S table below (S.backward s p.case) → ⊥
        unblocked = qualified_free S table below p.case s t

        waits : Waits S table N (record { case = S.backward s p.case; symbol = s }) (p ∷ rest)
        waits = record {
          comes = backward l refl;
          high = omega (arith, qualified_above S table below p.case s t clear, (chain_lowest inv.chain).high);
          free = λ i h c. unblocked (covered_blocked inv.kept.stands below (covered_lower (omega arith) (subset_reflexive _) c));
          clear = clear;
          inside = lawful.backward_within s p.case l;
        }

    -- after a block
    pub block_holds : {mask : ℕ} (entered : ℕ) → Passes S table (N - suc (length rest)) p.case mask
        → Invariant S (put_among table (entering N rest mask entered) []) N (pending_after S.initial S.finals (put_among table (entering N rest mask entered) []) N rest)
    block_holds {mask} entered passing =
        let grown = block_grown inv entered passing in
        record {
          kept = grown.kept;
          chain = after_chain rest (omega (arith, (chain_lowest inv.chain).high)) grown.kept.stands (block_chain inv entered passing);
          done = after_done (put_among table (entering N rest mask entered) []) N rest;
          before = λ j l F m. blocked_stays_blocked grown.grows (inv.before j l F m);
        }
