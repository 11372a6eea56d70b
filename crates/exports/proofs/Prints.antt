-- What afa_print_run gives back is the print's answer. Assumes nothing.
use Prim.Native.Nat.{ℕ}
use mathlib.Core.Path.{◌≡◌, ap}
use mathlib.Core.List.{List, [], ◌∷◌}
use Rattle.writing.specs.Rooms.{Answer, answer_of}
use Rattle.exports.specs.Interface.{Wrote}

pub wrote_is : {number length : ℕ} {room : List ℕ} {answer : Answer} → answer_of number length room ≡ answer → Wrote number (length ∷ []) room answer
wrote_is e =
    record {
      numbered = ap (λ (x : Answer). x.number) e;
      counted = ap (λ (x : Answer). x.written ∷ []) e;
      holds = ap (λ (x : Answer). x.room) e;
    }
