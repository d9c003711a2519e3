use Rattle.std.proofs.Common.{◌≡◌, ℕ, ◌+◌, ◌*◌, List, refl, arith}
use Rattle.std.proofs.lemmas.Result.{err_from_is_err_and}
use Rattle.values.specs.declared.refusal.Refusal.TheVariants.{NoSuchEntry}
use Rattle.entry_layout.specs.Layout.{zeroed}
use Rattle.slot_store.specs.State.{state_of}
use Rattle.slot_store.proofs.Steps.{Dropped, drop_step, no_block_found}
use Rattle.slot_store.proofs.slots.SlotStoreStore.drop_entry.Goals as goal
use Rattle.slot_store.proofs.slots.SlotStoreStore.drop_entry.Goals.{In_ok-slot}

-- What zeroing the slot that was found makes of the store.
freed : (c : In_ok-slot) (after : List ℕ) → after ≡ zeroed (c.in_ok-slot.slot * 69) (c.in_ok-slot.slot * 69 + 69) c.self.inside.bytes.now
    → Dropped (state_of c.self.inside) after c.in_ok-slot.slot c.args.number
freed c after zeroing =
    let found = rw (c.in_ok-slot.ensures.ok_part, ← c.self.view_is) at c.slot_of.ensures.finds in
    drop_step (state_of c.self.inside) after c.in_ok-slot.slot c.args.number c.self.invariant found.0 found.1 zeroing

pub overflow_sub-self : goal.overflow_sub-self
overflow_sub-self c = let d = freed (goal.at.overflow_sub-self c).In_ok-slot _ c.fill_zero.ensures in omega arith

pub invariant_of-self : goal.invariant_of-self
invariant_of-self c =
    let d = freed (goal.at.invariant_of-self c).In_ok-slot _ c.fill_zero.ensures in
    record { laid = d.laid; counted = omega arith; lawful = d.lawful }

pub returns-in_err-slot-clause-drops : goal.returns-in_err-slot-clause-drops
returns-in_err-slot-clause-drops c =
    let lost = rw c.in_err-slot.ensures.ok_part at c.slot_of.ensures.finds in
    let none = no_block_found c.args.self.now.bytes.now c.args.number lost in
    let why = rw c.in_err-slot.ensures.ok_part at c.in_err-slot.ensures.value in
    let e : c.in_err-slot.field-0.0 ≡ NoSuchEntry = cc in
    let p = err_from_is_err_and c.from_residual.result c.from_residual.ensures.1 in
    rw (p.1, p.2, e) (record { answered = simp none; unaltered = refl })

pub returns : goal.returns
returns c =
    let d = freed (goal.at.returns c).In_ok-slot _ c.fill_zero.ensures in
    rw (← c.self.view_is) (record {
      drops = record { answered = d.accepted; unaltered = tt };
      sound = record { laid = d.laid; counted = omega arith; lawful = d.lawful };
      lawful = d.lawful;
      freed = record { slot = c.in_ok-slot.slot; held = d.held; bytes = d.freed; next = refl };
      same = tt;
    })
