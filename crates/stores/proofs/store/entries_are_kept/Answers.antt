use Rattle.stores.proofs.Kept.{entries_are_kept}
use Rattle.stores.proofs.store.entries_are_kept.Goals as goal

pub returns : goal.returns
returns c = entries_are_kept
