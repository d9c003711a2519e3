-- What an entry in bytes shows.
use Rattle.stores.specs.Contents.{Entry, entry}
use Rattle.entry_layout.specs.declared.entry.EntryRef.{EntryRef}

abbrev pub viewed : EntryRef → Entry
viewed e = entry e.number e.block.now
