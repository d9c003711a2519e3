-- The rule of names, as a test of a name's bytes.
use Rattle.std.specs.Prelude.{ℕ, Bool, not, ◌&&◌, List, length, ◌==◌, nat_le}
use Rattle.std.specs.List.{list_all}

-- The most bytes that a name has.
abbrev pub max_name_length : ℕ
max_name_length = 16

-- A byte that may stand in a name: a visible ASCII character other than the slash.
abbrev pub is_name_byte : ℕ → Bool
is_name_byte b = nat_le 0x21 b && (nat_le b 0x7E && not (b == 0x2F))

abbrev pub is_name : List ℕ → Bool
is_name bs = nat_le 1 (length bs) && (nat_le (length bs) max_name_length && list_all is_name_byte bs)
