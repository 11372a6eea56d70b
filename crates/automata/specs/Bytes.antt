-- Numbers in a list of bytes: 01's "Numbers are little-endian." Assumes nothing.
use Rattle.std.specs.Prelude.{ℕ, ◌+◌, ◌*◌, List, get_or}

-- the byte at a place
abbrev pub byte_at : List ℕ → ℕ → ℕ
byte_at bytes at = get_or bytes at 0

-- the number in the 2, 4 or 8 bytes from a place on, lowest byte first
unfoldable pub little2 : List ℕ → ℕ → ℕ
little2 bytes at = byte_at bytes at + 256 * byte_at bytes (at + 1)

unfoldable pub little4 : List ℕ → ℕ → ℕ
little4 bytes at = little2 bytes at + 65536 * little2 bytes (at + 2)

unfoldable pub little8 : List ℕ → ℕ → ℕ
little8 bytes at = little4 bytes at + 4294967296 * little4 bytes (at + 4)
