-- Whether each backward set of a larger set is settled: those that are the same as before are. Assumes nothing.
use Prim.Native.Nat.{ℕ, ◌+◌, ◌<◌}
use mathlib.Core.Path.{◌≡◌, sym, ap, ◌∙◌}
use mathlib.Core.Bool.{Bool, true, false, not}
use mathlib.Core.List.{List}
use mathlib.Core.Logic.{◌⊎◌, inl, inr}
use native.Mathlib.Omega.{arith}
use lib.Dec.{T}
use lib.ListN.{get_or}
use Rattle.std.proofs.Common.{Option, Some}
use Rattle.lists.specs.Tests.{◌or◌}
use Rattle.lists.proofs.Tests.{is_true, or_cases, or_left, or_right}
use Rattle.masks.specs.Sets.{subset}
use Rattle.masks.proofs.Laws.{subset_transitive}
use Rattle.automata.specs.Image.{symbols_of, initial_of, rows_of}
use Rattle.automata.specs.Automaton.{backward}
use Rattle.automata.specs.declared.image.Head.{Head}
use Rattle.automata.specs.Answers.{ReadAs}
use Rattle.automata.proofs.BackwardSets.{backward_monotone}
use Rattle.automata.proofs.Reading.{head_symbols, head_initial}
use Rattle.automata.proofs.EachSymbol.{EachTried, each_goes}
use Rattle.machine.specs.Machine.{Blocker, blocked}
use Rattle.machine.specs.Machine as Machine
use Rattle.blockers.specs.Tables.{held_in}
use Rattle.passing.specs.declared.Pending.{Pending}
use Rattle.passing.specs.Grown.{all_settled}
use Rattle.passing.proofs.Passing.{all_fails}
use Rattle.covering.specs.Listed.{one_holds}
use Rattle.growing.specs.declared.trying.Grown.{Grown}
use Rattle.growing.specs.declared.trying.Lists.{Lists}
use Rattle.growing.specs.Near.{list_of}
use Rattle.growing.specs.Kept.{Settling}

-- what is settled in a set is so in a larger one
settled_larger : (initial : ℕ) (table : List Blocker) (below Y more P : ℕ) → T (subset Y more) → T (Machine.settled initial table below Y P)
    → T (Machine.settled initial table below more P)
unfolding Machine.settled
settled_larger initial table below Y more P larger t = from (or_cases (subset P Y) (blocked initial table below P) t)
  where
    from : T (subset P Y) ⊎ T (blocked initial table below P) → T (subset P more or blocked initial table below P)
    from (inl i) = or_left (subset P more) (blocked initial table below P) (subset_transitive P Y more i larger)
    from (inr b) = or_right (subset P more) (blocked initial table below P) b

module _ {pending : Pending} {grown : Grown} {more : ℕ} {lists : Lists} {head : Head} (read : ReadAs pending.image.now head)
    (settling : Settling pending grown more lists) {s : ℕ} (l : s < head.symbols) (place : ℕ) (e : place ≡ s) where
  abbrev image : List ℕ
  image = pending.image.now

  abbrev table : List Blocker
  table = held_in pending.blockers.now

  known : place < symbols_of image
  known = omega (arith, head_symbols read)

  settle_back : get_or grown.next place 0 ≡ backward (rows_of image s) more
  settle_back = settling.are.are place known ∙ ap (λ (x : ℕ). backward (rows_of image x) more) e

  pub settle_told : (listed : Option (List ℕ)) → listed ≡ list_of lists.near lists.ends place → (list : List ℕ) → listed ≡ Some list
      → one_holds list (get_or grown.next place 0) ≡ blocked head.initial table pending.below.0 (get_or grown.next place 0)
  settle_told listed is list one =
      rw (settling.are.are place known, head_initial read)
      (settling.near.tells place known (backward (rows_of image place) more)
      (backward_monotone (rows_of image place) pending.x more (subset_transitive pending.x grown.set more settling.inside settling.larger)) list (sym is ∙ one))

  pub settle_same : get_or grown.next place 0 ≡ get_or grown.sets place 0
      → true ≡ Machine.settled head.initial table pending.below.0 more (get_or grown.next place 0)
  settle_same same =
      let was : get_or grown.next place 0 ≡ backward (rows_of image place) grown.set = same ∙ settling.were.are place known in
      rw (was, head_initial read)
      (sym (is_true _ (settled_larger (initial_of image) table pending.below.0 grown.set more (backward (rows_of image place) grown.set) settling.larger
      (settling.settled.each place known))))

  module _ (tried : EachTried image (Machine.settled head.initial table pending.below.0 more) more head.symbols s) (b : Bool)
      (test : b ≡ Machine.settled head.initial table pending.below.0 more (get_or grown.next place 0)) where
    pub settle_goes : not b ≡ false → EachTried image (Machine.settled head.initial table pending.below.0 more) more head.symbols (s + 1)
    settle_goes n = each_goes tried (get_or grown.next place 0) b l settle_back test n

    pub settle_fails : not b ≡ true → false ≡ all_settled image table pending.below.0 more
    settle_fails n = all_fails table pending.below.0 read tried (get_or grown.next place 0) b l settle_back test n
