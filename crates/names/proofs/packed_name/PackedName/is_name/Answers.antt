use Rattle.std.proofs.Common.{◌∙◌, rules}
use Rattle.names.proofs.Names.{spelled_front, unpacked_if_no_name, packed_if_repacked}
use Rattle.names.proofs.packed_name.PackedName.is_name.Goals as goal

pub returns-then-is_name : goal.returns-then-is_name
returns-then-is_name c =
    packed_if_repacked _ _ _ _ (spelled_front _ _ _ _ c.bytes-bytes.ensures c.place_of.ensures.place)
    c.if-is_name.ensures (let e = c.eq.ensures in let p = c.pack.ensures in search rules)

pub returns-else-is_name : goal.returns-else-is_name
returns-else-is_name c =
    c.if-is_name.false ∙ unpacked_if_no_name _ _ _ (spelled_front _ _ _ _ c.bytes-bytes.ensures c.place_of.ensures.place)
    c.if-is_name.ensures
