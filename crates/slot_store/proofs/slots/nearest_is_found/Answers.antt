use Rattle.slot_store.proofs.Searches.{nearest_is_found}
use Rattle.slot_store.proofs.slots.nearest_is_found.Goals as goal

pub returns : goal.returns
returns c = nearest_is_found
