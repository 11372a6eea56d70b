-- Tests joined: both, either, not. They stay shut, so that what is known of a joined test can be taken apart by name (`Rattle.lists.proofs.Tests`).
-- Assumes nothing.
use Rattle.std.specs.Prelude.{Bool, true, false}

infixr 35 ◌and◌
infixr 30 ◌or◌
unfoldable pub ◌and◌ : Bool → Bool → Bool
true and b = b
false and b = false

unfoldable pub ◌or◌ : Bool → Bool → Bool
true or b = true
false or b = b

unfoldable pub neg : Bool → Bool
neg true = false
neg false = true

-- one of two values, by a test
unfoldable pub choose {ℓ} : {A : Type ℓ} → Bool → A → A → A
choose true a b = a
choose false a b = b
