-- What has been put into a room up to a limit. Assumes nothing: these are definitions.
use Rattle.std.specs.Prelude.{ℕ, zero, suc, ◌+◌, ◌≤◌, min, ◌≡◌, List, ◌∷◌, length}
use Rattle.std.proofs.lemmas.List.Edits.{sets}
use Rattle.writing.specs.Decimal.{digits}
use Rattle.writing.specs.Lines.{space}

-- the number of a place in its line: a space stands before each but the first
unfoldable pub next_number : ℕ → ℕ → List ℕ
next_number zero number = digits number
next_number (suc place) number = space ∷ digits number

-- Bytes were put into a room from `start` on. Where `end` is at most the limit, it is the place behind them and the room holds them; where it is above, so
-- is that place.
pub record Puts (bytes : List ℕ) (start limit end : ℕ) (before after : List ℕ) : Type 0 where
  pub counted : min end (suc limit) ≡ min (start + length bytes) (suc limit)
  pub written : end ≤ limit → after ≡ sets before start bytes
