use Rattle.std.proofs.Common.{sym}
use Rattle.names.proofs.ByteOrders.{packed_order_lem}
use Rattle.names.proofs.name.names_compare_by_bytes.Goals as goal

pub returns : goal.returns
returns c x y = sym (packed_order_lem _ _ _ _ x.packs y.packs)
