-- Bytes as one number, the first byte most significant.
use Rattle.std.specs.Prelude.{ℕ, zero, suc, ◌+◌, ◌*◌, ◌/◌, ◌%◌, ◌^◌, List, [], ◌∷◌}

-- The first `width` bytes as one number, with zeros for missing ones.
abbrev pub big_endian : (width : ℕ) → List ℕ → ℕ
big_endian zero bs = 0
big_endian (suc width) [] = 0
big_endian (suc width) (b ∷ bs) = b * 256 ^ width + big_endian width bs

-- The `width` low bytes of a number.
abbrev pub bytes_of : (width n : ℕ) → List ℕ
bytes_of zero n = []
bytes_of (suc width) n = (n / 256 ^ width % 256) ∷ bytes_of width n
