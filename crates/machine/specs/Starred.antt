-- The lines of 01's "Models and what they give" that are marked *, as one list, with 02's third number of a blocker: "2 for A, 2 for C", D in
-- edition 2, C by way 1, and what the program prints on C. Assumes nothing: these are definitions.
use Rattle.std.specs.Prelude.{ℕ, ◌≡◌, List, [], ◌∷◌}
use Rattle.automata.specs.WordTest.{word_test}
use Rattle.machine.specs.Lent.{BlockerRoom, room_of, word_room_of, Lent}
use Rattle.machine.specs.Runs.{Terms, Stage, five_numbers, run_of}
use Rattle.machine.specs.Program.{program_prints}

-- the bytes of small numbers in front of more bytes: 8 bytes, a pair, a row
abbrev eight : ℕ → List ℕ → List ℕ
eight number rest = number ∷ 0 ∷ 0 ∷ 0 ∷ 0 ∷ 0 ∷ 0 ∷ 0 ∷ rest

abbrev pair : ℕ → ℕ → List ℕ → List ℕ
pair offset size rest = offset ∷ 0 ∷ 0 ∷ 0 ∷ size ∷ 0 ∷ 0 ∷ 0 ∷ rest

abbrev row : ℕ → ℕ → List ℕ → List ℕ
row state case rest = state ∷ eight case rest

-- "A ..: n 3, k 2, I 1, F 4; symbol 0: (0, 2), (0, 6); symbol 1: (2, 1). Pairs (36, 18), (54, 9); 63 bytes."
abbrev A : List ℕ
A = 3 ∷ 2 ∷ 3 ∷ 0 ∷ eight 1 (eight 4 (pair 36 18 (pair 54 9 (row 0 2 (row 0 6 (row 2 1 []))))))

-- "B: n 2, k 1, I 1, F 2; symbol 0: (0, 2)."
abbrev B : List ℕ
B = 2 ∷ 1 ∷ 1 ∷ 0 ∷ eight 1 (eight 2 (pair 28 9 (row 0 2 [])))

-- "C: n 3, k 2, I 1, F 0; symbol 0: (0, 6); symbol 1: (1, 0), (2, 0)."
abbrev C : List ℕ
C = 3 ∷ 2 ∷ 3 ∷ 0 ∷ eight 1 (eight 0 (pair 36 9 (pair 45 18 (row 0 6 (row 1 0 (row 2 0 []))))))

-- "D: n 1, k 1, no rows, I 0, F 0."
abbrev D : List ℕ
D = 1 ∷ 1 ∷ 0 ∷ 0 ∷ eight 0 (eight 0 (pair 28 0 []))

-- what a run gives: the five numbers, and the lent tables
pub record Gives : Type 0 where
  pub numbers : List ℕ
  pub tables : Lent

abbrev pub given_back : Stage → Gives
given_back left = record { numbers = five_numbers left.run; tables = left.tables }

-- a run with what it is lent and what it gives, a word test with its number, or the program's output
pub data Line : Type 0 where
  run : (image : List ℕ) (lent : Lent) (terms : Terms) → Gives → Line
  test : (image word : List ℕ) → ℕ → Line
  output : (image bytes : List ℕ) → Line

-- tables that are lent, with other numbers in them
abbrev lent : List ℕ → List ℕ → Lent
lent blockers word = record { room = room_of blockers blockers blockers; word = word_room_of word word }

-- hints and an allowance, 256 where the line names none, 4^(n+1) for n 3; edition 1 and way 0, which are as 01 has it
abbrev terms : List ℕ → ℕ → Terms
terms hints allowance = record { hints = hints; allowance = allowance; edition = 1; way = 0 }

abbrev three : List ℕ
three = 9 ∷ 9 ∷ 9 ∷ []

abbrev none : List ℕ
none = 0 ∷ 0 ∷ 0 ∷ []

-- a room with one blocker, one with none, and one without places
abbrev one : ℕ → ℕ → ℕ → BlockerRoom
one mask level entered = room_of (mask ∷ 0 ∷ 0 ∷ []) (level ∷ 0 ∷ 0 ∷ []) (entered ∷ 0 ∷ 0 ∷ [])

abbrev no_blockers : BlockerRoom
no_blockers = room_of none none none

abbrev no_places : BlockerRoom
no_places = room_of [] [] []

abbrev gives : ℕ → ℕ → ℕ → ℕ → ℕ → BlockerRoom → List ℕ → List ℕ → Gives
gives number steps level blockers accepted room cases symbols = record {
  numbers = number ∷ steps ∷ level ∷ blockers ∷ accepted ∷ [];
  tables = record { room = room; word = word_room_of cases symbols };
}

unfoldable pub starred : List Line
starred =
    -- "A: 0 3 1 1 0, frame 4 at level 2."
    run A (lent three three) (terms [] 256) (gives 0 3 1 1 0 (one 4 2 2) none none)
    -- "A, allowance 2: 2 2 1 1 0, blocker 4 at level 1."
    ∷ run A (lent three three) (terms [] 2) (gives 2 2 1 1 0 (one 4 1 2) none none)
    -- "A, blocker room 0: 3 1 1 0 0. With allowance 1 as well: 2 1 1 0 0."
    ∷ run A (lent [] three) (terms [] 256) (gives 3 1 1 0 0 no_places none none)
    ∷ run A (lent [] three) (terms [] 1) (gives 2 1 1 0 0 no_places none none)
    -- "A, word room 0: 4 0 0 0 0."
    ∷ run A (lent three []) (terms [] 256) (gives 4 0 0 0 0 no_blockers [] [])
    -- "B: 1 2 1 0 0, word 0."
    ∷ run B (lent three three) (terms [] 256) (gives 1 2 1 0 0 no_blockers none none)
    -- "C: 1 6 2 1 0, word 0 1, blocker 2 at level 1."
    ∷ run C (lent three three) (terms [] 256) (gives 1 6 2 1 0 (one 2 1 2) none (0 ∷ 1 ∷ 0 ∷ []))
    -- "C, hint 6: as without, hint not accepted. Hint 4: 1 6 2 1 1, blocker 4."
    ∷ run C (lent three three) (terms (6 ∷ []) 256) (gives 1 6 2 1 0 (one 2 1 2) none (0 ∷ 1 ∷ 0 ∷ []))
    ∷ run C (lent three three) (terms (4 ∷ []) 256) (gives 1 6 2 1 1 (one 4 1 2) none (0 ∷ 1 ∷ 0 ∷ []))
    -- "D, allowance 0: 1 0 0 0 0."
    ∷ run D (lent three three) (terms [] 0) (gives 1 0 0 0 0 no_blockers none none)
    -- 02, 6: "2 answers such a start by 5 (crossed at open), no steps, the rooms all 0"
    ∷ run D (lent three three) (record { hints = []; allowance = 0; edition = 2; way = 0 }) (gives 5 0 0 0 0 no_blockers none none)
    -- 02, 7: X is 0, what is forbidden is state 0 by I and the states 1 and 2 by the row (0, 6); 0 and then 1 are picked, and the blocker is 4
    ∷ run C (lent three three) (record { hints = []; allowance = 256; edition = 1; way = 1 }) (gives 1 6 2 1 0 (one 4 1 2) none (0 ∷ 1 ∷ 0 ∷ []))
    -- "Word test on C: 0 1 yes; 1 0 no; the empty word no; symbol 2 gives 32."
    ∷ test C (0 ∷ 1 ∷ []) 1
    ∷ test C (1 ∷ 0 ∷ []) 0
    ∷ test C [] 0
    ∷ test C (2 ∷ []) 32
    -- "For image C below the whole output is": 1 6 2 1 0, and on the next line 0 1
    ∷ output C (49 ∷ 32 ∷ 54 ∷ 32 ∷ 50 ∷ 32 ∷ 49 ∷ 32 ∷ 48 ∷ 10 ∷ 48 ∷ 32 ∷ 49 ∷ 10 ∷ [])
    ∷ []

-- the line says what the definitions give
unfoldable pub Right : Line → Type 0
Right (run image tables given result) = given_back (run_of image tables given) ≡ result
Right (test image word number) = word_test image word ≡ number
Right (output image bytes) = program_prints image ≡ bytes

-- every line does
unfoldable pub AllRight : List Line → Type 0
AllRight [] = Unit {0}
AllRight (line ∷ lines) = Right line × AllRight lines
