-- What a walk over entries shows, and what it has ahead.
use Rattle.std.specs.Prelude.{ℕ, List, drop}
use Rattle.stores.specs.Contents.{Entry}
use Rattle.entry_layout.specs.Views.{viewed}
use Rattle.entry_layout.specs.declared.entry.EntryRef.{EntryRef}
use Rattle.packed_log.specs.Log.{entries_in, placed_from}
use Rattle.packed_log.specs.declared.walk.Entries.{Entries}

abbrev pub placed : ℕ × EntryRef → ℕ × Entry
placed p = (p.0, viewed p.1)

abbrev pub ahead : Entries → List (ℕ × Entry)
ahead s = placed_from s.at (entries_in s.left (drop s.at s.bytes.now))
