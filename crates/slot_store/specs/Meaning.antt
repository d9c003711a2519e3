-- What a slot store means, what it keeps true of itself, and which bytes it holds after each call.
use Rattle.std.specs.Borrow.{MutBor}
use Rattle.std.specs.Prelude.{◌≡◌, ℕ, suc, true, List, length, Some, None, slice_index_or, slice_set}
use Rattle.stores.specs.Contents.{Entry, Contents}
use Rattle.stores.specs.Laws.{Lawful}
use Rattle.entry_layout.specs.Layout.{capacity_of}
use Rattle.slot_store.specs.Ranked.{ranked}
use Rattle.slot_store.specs.Search.{going_round, holds}
use Rattle.slot_store.specs.Slots.{slotted, slots_of, tail_of, zeroed_slots}

-- The lent bytes, with the reference by which they are lent, how many entries are held, the last number accepted, and the
-- slot above the one filled last.
pub record SlotState : Type 0 where
  pub bytes : MutBor (List ℕ)
  pub held : ℕ
  pub last : ℕ
  pub next : ℕ

abbrev pub contents_of : SlotState → Contents
contents_of s = record { held = ranked (slots_of s.bytes.now); last = s.last; capacity = capacity_of (length s.bytes.now) }

pub record Sound (s : SlotState) : Type 0 where
  pub laid : s.bytes.now ≡ slotted (slots_of s.bytes.now) (tail_of s.bytes.now)
  pub counted : s.held ≡ length (contents_of s).held
  pub lawful : Lawful (contents_of s)

-- After an append: the next free slot above the one filled last, going round, holds the entry; no other slot and no byte
-- behind the slots has changed, and this slot is now the one filled last.
pub record Filled (e : Entry) (before after : SlotState) : Type 0 where
  pub slot : ℕ
  pub free : going_round (holds None) before.next (slots_of before.bytes.now) ≡ Some slot
  pub bytes : after.bytes.now ≡ slotted (slice_set (slots_of before.bytes.now) slot (Some e)) (tail_of before.bytes.now)
  pub next : after.next ≡ suc slot

-- After a drop: the slot that held the number is all zero; no other slot and no byte behind the slots has changed.
pub record Freed (number : ℕ) (before after : SlotState) : Type 0 where
  pub slot : ℕ
  pub held : holds (Some number) (slice_index_or (slots_of before.bytes.now) slot None) ≡ true
  pub bytes : after.bytes.now ≡ slotted (slice_set (slots_of before.bytes.now) slot None) (tail_of before.bytes.now)
  pub next : after.next ≡ before.next

-- After clearing: all slots are zero, and no byte behind them has changed. The next entry goes to the first slot.
pub record Zeroed (before after : SlotState) : Type 0 where
  pub bytes : after.bytes.now ≡ zeroed_slots before.bytes.now
  pub next : after.next ≡ 0
