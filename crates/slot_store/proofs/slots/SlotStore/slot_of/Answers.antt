use Rattle.slot_store.proofs.Searches.{round_finds}
use Rattle.slot_store.proofs.slots.SlotStore.slot_of.Goals as goal

pub returns-clause-finds : goal.returns-clause-finds
returns-clause-finds c = rw (← c.self.view_is) (round_finds _ _ _ _ c.slot_from.ensures.place)
