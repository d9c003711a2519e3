-- What contracts see of a slot store: its fields.
use Rattle.slot_store.specs.Meaning.{SlotState}
use Rattle.slot_store.specs.declared.slots.SlotStore.TheInside.{Inside}

abbrev pub state_of : Inside → SlotState
state_of s = record { bytes = s.bytes; held = s.held; last = s.last; next = s.next }
