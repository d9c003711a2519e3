-- Entries that stand end to end in bytes.
use Rattle.std.specs.Prelude.{ℕ, zero, suc, ◌+◌, ◌-◌, ◌*◌, if◌then◌else◌, ◌&&◌, List, [], ◌∷◌, ◌++◌, length, take, drop, replicate, Some, None, Option, ◌==◌, nat_le}
use Rattle.std.specs.List.{find, flat_map}
use Rattle.stores.specs.Contents.{Entry}
use Rattle.entry_layout.specs.Layout.{capacity_of, entry_bytes, entry_in}

-- How many bytes of the lent ones the log may use: those of its capacity.
abbrev pub room : (bytes : List ℕ) → ℕ
room bytes = capacity_of (length bytes) * 69

-- How many bytes entries take.
abbrev pub packed_length : List Entry → ℕ
packed_length es = length (flat_map entry_bytes es)

-- Entries end to end, zeros behind the last up to the room, and then a tail that is not the log's.
abbrev pub packed : (room : ℕ) → List Entry → (tail : List ℕ) → List ℕ
packed room es tail = flat_map entry_bytes es ++ (replicate (room - packed_length es) 0 ++ tail)

-- An entry, if there is one, and those behind it.
abbrev pub followed : Option Entry → (Entry → List Entry) → List Entry
followed None behind = []
followed (Some e) behind = e ∷ behind e

-- The first entries that stand end to end in bytes, `count` at most.
abbrev pub entries_in : (count : ℕ) (bytes : List ℕ) → List Entry
entries_in zero bytes = []
entries_in (suc count) bytes = followed (entry_in bytes) (λ e. entries_in count (drop (5 + length e.block) bytes))

-- Entries that stand end to end from the place `at` on, each with the place where it begins.
abbrev pub placed_from : (at : ℕ) → List Entry → List (ℕ × Entry)
placed_from at [] = []
placed_from at (e ∷ es) = (at, e) ∷ placed_from (at + (5 + length e.block)) es

-- The entry with this number, with the place where it begins.
abbrev pub found_from : (number at : ℕ) → List Entry → Option (ℕ × Entry)
found_from number at es = find (λ p. p.1.number == number) (placed_from at es)

-- Bytes with `size` of them taken out at a place: those behind, up to `end`, move down, and zeros follow.
abbrev pub taken_out : (at size end : ℕ) → List ℕ → List ℕ
taken_out at size end bytes =
    if nat_le end (length bytes) && nat_le (at + size) end
    then take at bytes ++ (drop (at + size) (take end bytes) ++ (replicate size 0 ++ drop end bytes))
    else bytes
