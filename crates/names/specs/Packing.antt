-- How a name is packed into two 64-bit numbers: the first byte most significant, zeros behind the last.
use Rattle.std.specs.Prelude.{ℕ, Bool, not, ◌&&◌, List, [], ◌∷◌, ◌++◌, length, take, drop, Result, ◌==◌, nat_lt}
use Rattle.values.specs.Answers.{unless_refused}
use Rattle.values.specs.Bytes.{place_of}
use Rattle.names.specs.NameRule.{is_name, max_name_length}
-- Definitions that stand below names, and are named from here too.
pub use Rattle.values.specs.BigEndian.{big_endian, bytes_of}
pub use Rattle.values.specs.Bytes.{over_front}

-- The two numbers that a name packs to.
abbrev pub high_of : List ℕ → ℕ
high_of bs = big_endian 8 bs

abbrev pub low_of : List ℕ → ℕ
low_of bs = big_endian 8 (drop 8 bs)

-- The sixteen bytes of two numbers.
unfoldable pub pair_bytes : (high low : ℕ) → List ℕ
pair_bytes high low = bytes_of 8 high ++ bytes_of 8 low

-- The bytes before the first zero.
abbrev pub before_zero : List ℕ → List ℕ
before_zero bs = take (place_of 0 bs) bs

-- The bytes of the name that two numbers pack.
unfoldable pub spelled : (high low : ℕ) → List ℕ
spelled high low = before_zero (pair_bytes high low)

-- Whether two numbers are what a name packs to.
unfoldable pub is_packed : (high low : ℕ) → Bool
is_packed high low =
    is_name (spelled high low) && (high_of (spelled high low) == high && low_of (spelled high low) == low)

-- Bytes as a packed name.
abbrev pub packing : List ℕ → Result (ℕ × ℕ) ℕ
packing bs = unless_refused ((not (is_name bs), 1) ∷ []) (high_of bs, low_of bs)

-- Two numbers as a packed name.
abbrev pub repacking : (high low : ℕ) → Result (ℕ × ℕ) ℕ
repacking high low = unless_refused ((not (is_packed high low), 1) ∷ []) (high, low)

-- The length of a name that is unpacked into a buffer.
abbrev pub unpacking : (name buffer : List ℕ) → Result ℕ ℕ
unpacking name buffer = unless_refused ((nat_lt (length buffer) max_name_length, 4) ∷ []) (length name)
