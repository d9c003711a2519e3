-- Slots of 69 bytes, each free or with an entry.
use Rattle.std.specs.Prelude.{ℕ, zero, suc, ◌-◌, ◌*◌, List, [], ◌∷◌, ◌++◌, length, drop, replicate, Some, None, Option}
use Rattle.std.specs.List.{flat_map}
use Rattle.stores.specs.Contents.{Entry}
use Rattle.entry_layout.specs.Layout.{capacity_of, entry_bytes, entry_in}

-- The bytes of a slot: what no entry covers is zero.
abbrev pub slot_bytes : Option Entry → List ℕ
slot_bytes None = replicate 69 0
slot_bytes (Some e) = entry_bytes e ++ replicate (64 - length e.block) 0

-- Slots one behind another, and then a tail that is not the store's.
abbrev pub slotted : List (Option Entry) → (tail : List ℕ) → List ℕ
slotted slots tail = flat_map slot_bytes slots ++ tail

-- The first `count` slots in bytes.
abbrev pub slots_in : (count : ℕ) (bytes : List ℕ) → List (Option Entry)
slots_in zero bytes = []
slots_in (suc count) bytes = entry_in bytes ∷ slots_in count (drop 69 bytes)

-- The slots that lent bytes have room for.
abbrev pub slots_of : (bytes : List ℕ) → List (Option Entry)
slots_of bytes = slots_in (capacity_of (length bytes)) bytes

-- The bytes behind the slots.
abbrev pub tail_of : (bytes : List ℕ) → List ℕ
tail_of bytes = drop (capacity_of (length bytes) * 69) bytes

-- Bytes whose slots are all zero.
abbrev pub zeroed_slots : (bytes : List ℕ) → List ℕ
zeroed_slots bytes = replicate (capacity_of (length bytes) * 69) 0 ++ tail_of bytes
