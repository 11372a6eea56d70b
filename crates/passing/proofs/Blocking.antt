-- Whether a backward set is settled, by the two tests that say so. Assumes nothing.
use Prim.Native.Nat.{ℕ}
use mathlib.Core.Path.{◌≡◌, sym, ◌∙◌}
use mathlib.Core.Bool.{Bool, true, false}
use mathlib.Core.List.{List}
use Rattle.lists.specs.Tests.{◌or◌}
use Rattle.masks.specs.Sets.{subset}
use Rattle.machine.specs.Machine.{Blocker, blocked, settled}

module _ (initial : ℕ) (table : List Blocker) (below Y P : ℕ) (inside : Bool) (test : inside ≡ subset P Y) where
  pub settled_inside : inside ≡ true → inside ≡ settled initial table below Y P
  unfolding settled ◌or◌
  settled_inside t = t ∙ sym (rw (← test, t))

  pub settled_told : (told : Bool) → told ≡ blocked initial table below P → inside ≡ false → told ≡ settled initial table below Y P
  unfolding settled ◌or◌
  settled_told told e f = e ∙ sym (rw (← test, f))
