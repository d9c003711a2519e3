use Rattle.std.proofs.Common.{refl}
use Rattle.slot_store.proofs.Steps.{clear_step}
use Rattle.slot_store.proofs.slots.SlotStore.new.Goals as goal

pub invariant_of-result : goal.invariant_of-result
invariant_of-result c =
    let k = clear_step c.args.bytes.now (rw c.capacity_of-end.ensures at c.fill_zero.ensures) in
    record { laid = k.laid; counted = k.counted; lawful = k.lawful }

pub returns : goal.returns
returns c =
    let k = clear_step c.args.bytes.now (rw c.capacity_of-end.ensures at c.fill_zero.ensures) in
    record { contents = k.contents; sound = record { laid = k.laid; counted = k.counted; lawful = k.lawful }; lawful = k.lawful; bytes = k.zeroed; next = refl }
