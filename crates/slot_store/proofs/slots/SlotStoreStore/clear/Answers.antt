use Rattle.std.proofs.Common.{refl}
use Rattle.slot_store.proofs.Steps.{clear_step}
use Rattle.slot_store.proofs.slots.SlotStoreStore.clear.Goals as goal

pub invariant_of-self : goal.invariant_of-self
invariant_of-self c =
    let k = clear_step c.self.inside.bytes.now (rw (c.capacity-end.ensures.room, ← c.self.view_is) at c.fill_zero.ensures) in
    record { laid = k.laid; counted = k.counted; lawful = k.lawful }

pub returns : goal.returns
returns c =
    let k = clear_step c.self.inside.bytes.now (rw (c.capacity-end.ensures.room, ← c.self.view_is) at c.fill_zero.ensures) in
    rw (← c.self.view_is) (record { cleared = k.contents; sound = record { laid = k.laid; counted = k.counted; lawful = k.lawful }; lawful = k.lawful; zeroed = record { bytes = k.zeroed; next = refl } })
