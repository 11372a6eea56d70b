-- Answers with bytes: 01's "Where a later paper asks for bytes in a lent room, the answer is a number and the length written". Assumes nothing: these are
-- definitions.
use Rattle.std.specs.Prelude.{ℕ, ◌≡◌, List, ◌++◌, leb, length, drop}
use Rattle.lists.specs.Tests.{choose}

-- the number, the length written, and what the room then holds
pub record Answer : Type 0 where
  pub number : ℕ
  pub written : ℕ
  pub room : List ℕ

-- what a function answers and leaves
abbrev pub answer_of : ℕ → ℕ → List ℕ → Answer
answer_of number length room = record { number = number; written = length; room = room }

-- "on every other number nothing is written and the length is 0"
unfoldable pub no_bytes : ℕ → List ℕ → Answer
no_bytes number room = record { number = number; written = 0; room = room }

-- "on success .. with that length, the bytes past it staying"
unfoldable pub all_bytes : ℕ → List ℕ → List ℕ → Answer
all_bytes success bytes room = record { number = success; written = length bytes; room = bytes ++ drop (length bytes) room }

-- "the bytes past it staying", whatever the number: nothing behind the length written has changed, and the room is as long as it was
pub record PastStays (room : List ℕ) (answer : Answer) : Type 0 where
  pub stays : drop answer.written answer.room ≡ drop answer.written room
  pub as_long : length answer.room ≡ length room

-- 02: "a room too short 35 (no space)"
unfoldable pub fitted_bytes : ℕ → List ℕ → List ℕ → Answer
fitted_bytes success bytes room = choose (leb (length bytes) (length room)) (all_bytes success bytes room) (no_bytes 35 room)
