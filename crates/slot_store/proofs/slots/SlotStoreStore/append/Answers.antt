use Rattle.std.proofs.Common.{◌≡◌, ℕ, ◌*◌, List, sym, ◌∙◌, add-one}
use Rattle.stores.specs.Contents.{entry}
use Rattle.entry_layout.specs.Layout.{with_entry}
use Rattle.slot_store.specs.State.{state_of}
use Rattle.slot_store.proofs.Steps.{Appended, append_step, admission_has_a_slot}
use Rattle.slot_store.proofs.slots.SlotStoreStore.append.Goals as goal
use Rattle.slot_store.proofs.slots.SlotStoreStore.append.Goals.{In_ok-slot}

-- What writing the entry to the free slot makes of the store.
filled : (c : In_ok-slot) (after : List ℕ) → after ≡ with_entry (c.in_ok-slot.slot * 69) (entry c.args.number c.args.block.now) c.self.inside.bytes.now
    → Appended (state_of c.self.inside) after c.in_ok-slot.slot (entry c.args.number c.args.block.now)
filled c after writing =
    let admits = rw (c.standing.ensures, ← c.self.view_is) at c.in_ok-admit.ensures in
    let free = rw (← c.self.view_is) at (sym c.free_slot.ensures.place ∙ c.in_ok-slot.ensures.ok_part) in
    append_step (state_of c.self.inside) after c.in_ok-slot.slot (entry c.args.number c.args.block.now) c.self.invariant admits c.ranges.number.fits free writing

pub returns-in_err-slot-clause-appends : goal.returns-in_err-slot-clause-appends
returns-in_err-slot-clause-appends c =
    let admits = rw c.standing.ensures at c.in_ok-admit.ensures in
    absurd (admission_has_a_slot c.args.self.now c.args.number c.args.block.now admits (sym c.free_slot.ensures.place ∙ c.in_err-slot.ensures.ok_part))

pub invariant_of-self : goal.invariant_of-self
invariant_of-self c =
    let a = filled (goal.at.invariant_of-self c).In_ok-slot _ c.write.ensures in
    record { laid = a.laid; counted = a.counted; lawful = a.lawful }

pub returns : goal.returns
returns c =
    let a = filled (goal.at.returns c).In_ok-slot _ c.write.ensures in
    rw (← c.self.view_is) (record {
      appends = record { answered = a.accepted; unaltered = tt };
      sound = record { laid = a.laid; counted = a.counted; lawful = a.lawful };
      lawful = a.lawful;
      filled = record { slot = c.in_ok-slot.slot; free = a.free; bytes = a.filled; next = add-one c.in_ok-slot.slot };
      same = tt;
    })
