-- The order of offsets.
use Rattle.std.specs.declared.cmp.Ordering.{Ordering}
use Rattle.std.specs.Ordering.{nat_cmp, on, then_cmp}
use Rattle.keys.specs.declared.offset.Offset.{Offset}

-- By file, and within a file by block.
abbrev pub offset_order : Offset → Offset → Ordering
offset_order = then_cmp (on (λ x. x.file) nat_cmp) (on (λ x. x.block) nat_cmp)
