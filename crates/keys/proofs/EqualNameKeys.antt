-- Name keys with equal parts are equal: of these parts their order is made.
use Rattle.std.proofs.Common.{◌≡◌, ℕ, ap, ◌∙◌}
use Rattle.names.specs.declared.packed_name.PackedName.{PackedName}
use Rattle.keys.specs.declared.name_key.NameKey.{NameKey}

abbrev pub key : ℕ → PackedName → NameKey
key directory name = record { directory = directory; name = name }

pub same_key : (x y : NameKey) → x.directory ≡ y.directory → x.name ≡ y.name → x ≡ y
same_key x y e f = ap (λ d. key d x.name) e ∙ ap (key y.directory) f

abbrev packed : (high low : ℕ) → PackedName
packed high low = record { high = high; low = low }

pub same_pair : (x y : PackedName) → x.high ≡ y.high → x.low ≡ y.low → x ≡ y
same_pair x y e f = ap (λ a. packed a x.low) e ∙ ap (packed y.high) f
