-- How an entry stands in bytes.
use Rattle.std.specs.Prelude.{ℕ, ◌+◌, ◌-◌, ◌/◌, min, Bool, if◌then◌else◌, ◌&&◌, List, [], ◌∷◌, ◌++◌, length, take, drop, replicate, Some, None, Option, nat_le, slice_index}
use Rattle.std.specs.Option.{option_map}
use Rattle.values.specs.BigEndian.{big_endian, bytes_of}
use Rattle.values.specs.Blocks.{max_block_length}
use Rattle.values.specs.Bytes.{over}
use Rattle.stores.specs.Contents.{Entry, entry}

-- How many entries of 69 bytes fit into so many bytes, at most 4,096.
abbrev pub capacity_of : (length : ℕ) → ℕ
capacity_of length = min (length / 69) 4096

-- The five header bytes: the number in four, most significant first, and the length in one.
abbrev pub header : (number length : ℕ) → List ℕ
header number length = bytes_of 4 number ++ length ∷ []

-- An entry's bytes: its header, and its block directly behind.
abbrev pub entry_bytes : Entry → List ℕ
entry_bytes e = header e.number (length e.block) ++ e.block

-- Whether bytes begin with a header and a block of the length that it says, of 1 to 64 bytes.
abbrev pub begins_entry : List ℕ → Bool
begins_entry bs = nat_le 1 (slice_index bs 4) && (nat_le (slice_index bs 4) max_block_length && nat_le (5 + slice_index bs 4) (length bs))

-- The entry that bytes begin with.
abbrev pub entry_in : List ℕ → Option Entry
entry_in bs = if begins_entry bs then Some (entry (big_endian 4 bs) (take (slice_index bs 4) (drop 5 bs))) else None

-- The block of the entry that begins at a place, if there is such a place.
abbrev pub block_at : (at : Option ℕ) → List ℕ → Option (List ℕ)
block_at None bytes = None
block_at (Some at) bytes = option_map (λ e. e.block) (entry_in (drop at bytes))

-- Bytes with an entry written over them from a place on, where it fits.
abbrev pub with_entry : (at : ℕ) → Entry → List ℕ → List ℕ
with_entry at e bytes =
    if nat_le (length e.block) max_block_length && nat_le (at + 5 + length e.block) (length bytes)
    then over at (entry_bytes e) bytes
    else bytes

-- Bytes with zeros from one place to another, where there are such places.
abbrev pub zeroed : (from to : ℕ) → List ℕ → List ℕ
zeroed from to bytes =
    if nat_le from to && nat_le to (length bytes) then over from (replicate (to - from) 0) bytes else bytes
