use Rattle.std.proofs.Common.{◌≡◌, ℕ, ◌*◌, List, Option, ap, ◌∙◌, rules}
use Rattle.std.specs.Option.{option_map}
use Rattle.stores.specs.Calls.{copying}
use Rattle.stores.specs.Contents.{block_of}
use Rattle.entry_layout.specs.Layout.{block_at}
use Rattle.slot_store.specs.Ranked.{ranked}
use Rattle.slot_store.specs.Slots.{slots_of}
use Rattle.slot_store.proofs.Steps.{block_where_found}
use Rattle.slot_store.proofs.slots.SlotStoreStore.read.Goals as goal

pub returns : goal.returns
returns c =
    let bytes = c.self.inside.bytes.now in
    let place : c.map-place.result ≡ option_map (λ slot. slot * 69) c.slot_of.result = search rules in
    let e : block_at c.map-place.result bytes ≡ block_of c.args.number (ranked (slots_of bytes)) =
    ap (λ (o : Option ℕ). block_at o bytes) place
    ∙ block_where_found bytes c.self.inside.last c.args.number c.slot_of.result c.self.invariant.lawful (rw (← c.self.view_is) at c.slot_of.ensures.finds) in
    rw (← c.self.view_is) (record {
      answered = c.read_entry.ensures.answered ∙ ap (λ (o : Option (List ℕ)). copying o c.args.buffer.now) e;
      unaltered = c.read_entry.ensures.unaltered;
    })
