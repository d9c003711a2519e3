use Rattle.std.proofs.Common.{sym, ap}
use Rattle.std.specs.Ordering.{ordering_then}
use Rattle.std.specs.Ordering.{nat_cmp}
use Rattle.names.proofs.ByteOrders.{packed_order_lem}
use Rattle.keys.proofs.name_key.names_stand_in_byte_order.Goals as goal

pub returns : goal.returns
returns c x y p q = ap (ordering_then (nat_cmp x.directory y.directory)) (sym (packed_order_lem _ _ _ _ p q))
