-- What a caller sees of a packed log.
use Rattle.packed_log.specs.Meaning.{LogState}
use Rattle.packed_log.specs.declared.log.PackedLog.TheInside.{Inside}

abbrev pub state_of : Inside → LogState
state_of s = record { bytes = s.bytes; held = s.held; last = s.last; used = s.used }
