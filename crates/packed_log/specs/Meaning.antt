-- What a packed log means, what it keeps true of itself, and which bytes it holds.
use Rattle.std.specs.Borrow.{MutBor}
use Rattle.std.specs.Prelude.{◌≡◌, ℕ, List, length, drop}
use Rattle.stores.specs.Contents.{Contents}
use Rattle.stores.specs.Laws.{Lawful}
use Rattle.entry_layout.specs.Layout.{capacity_of}
use Rattle.packed_log.specs.Log.{room, packed, packed_length, entries_in}

-- The lent bytes, with the reference by which they are lent, how many entries are held, the last number accepted, and how
-- many bytes the entries take.
pub record LogState : Type 0 where
  pub bytes : MutBor (List ℕ)
  pub held : ℕ
  pub last : ℕ
  pub used : ℕ

abbrev pub contents_of : LogState → Contents
contents_of s = record { held = entries_in s.held s.bytes.now; last = s.last; capacity = capacity_of (length s.bytes.now) }

-- The bytes of the second log are its entries, packed, and behind the room the tail of the first.
abbrev pub Laid : (before after : LogState) → Type 0
Laid before after =
    after.bytes.now ≡ packed (room before.bytes.now) (contents_of after).held (drop (room before.bytes.now) before.bytes.now)

pub record Sound (s : LogState) : Type 0 where
  pub laid : Laid s s
  pub used : s.used ≡ packed_length (contents_of s).held
  pub counted : s.held ≡ length (contents_of s).held
  pub lawful : Lawful (contents_of s)
