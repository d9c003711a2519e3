-- The order of name keys.
use Rattle.std.specs.Prelude.{◌≡◌, true}
use Rattle.std.specs.declared.cmp.Ordering.{Ordering}
use Rattle.std.specs.Ordering.{nat_cmp, on, ordering_then, then_cmp}
use Rattle.names.specs.ByteOrder.{byte_order}
use Rattle.names.specs.Packing.{is_packed, spelled}
use Rattle.names.specs.declared.packed_name.PackedName.{PackedName}
use Rattle.keys.specs.declared.name_key.NameKey.{NameKey}

-- The order of packed names, by their two numbers.
abbrev pub packed_order : PackedName → PackedName → Ordering
packed_order = then_cmp (on (λ n. n.high) nat_cmp) (on (λ n. n.low) nat_cmp)

-- By directory, and within a directory by packed name.
abbrev pub name_key_order : NameKey → NameKey → Ordering
name_key_order = then_cmp (on (λ x. x.directory) nat_cmp) (on (λ x. x.name) packed_order)

-- Where two keys hold names, their order is by directory and then by the names' bytes.
abbrev pub NamesInByteOrder : Type 0
NamesInByteOrder =
    (x y : NameKey) → is_packed x.name.high x.name.low ≡ true → is_packed y.name.high y.name.low ≡ true
    → name_key_order x y
    ≡ ordering_then (nat_cmp x.directory y.directory) (byte_order (spelled x.name.high x.name.low) (spelled y.name.high y.name.low))
