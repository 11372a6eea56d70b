-- What the choices answer. Assumes nothing: these are definitions.
use Rattle.std.specs.Prelude.{ℕ, Option, Some, None}
use Rattle.std.proofs.Math.Option as Math
use Rattle.automata.specs.WordTest.{one_if}
use Rattle.automata.specs.declared.image.Symbol.{Symbol}
use Rattle.machine.specs.System.{System}
use Rattle.machine.specs.Machine as Machine
use Rattle.choices.specs.declared.Choice.{Choice}

-- the symbol with its backward set, or that there is none
unfoldable pub found_of : System → ℕ → Math.Option ℕ → Option (Symbol × ℕ)
found_of S X Math.none = None
found_of S X (Math.some s) = Some (record { 0 = s }, S.backward s X)

-- the answer as the machine's choice
abbrev pub choice_of : Choice → Machine.Choice
choice_of choice = record { mask = choice.mask; hinted = one_if choice.hinted }
