-- What the rule of names says of each byte. Packing needs only `name_is_short` and `name_is_nonzero` of the rule.
use Rattle.std.proofs.Common.{◌≡◌, ℕ, ◌<◌, ◌≤◌, true, leb, List, [], ◌∷◌, length, arith}
use Rattle.std.proofs.lemmas.Bool.{and_parts, leb-true}
use Rattle.std.proofs.lemmas.Bool.Decides.{nat_tests}
use Rattle.std.specs.List.{list_all}
use Rattle.names.specs.NameRule.{is_name_byte, is_name}

-- Each byte is a byte, and none is 0.
abbrev pub Nonzero : List ℕ → Type 0
Nonzero [] = Unit {0}
Nonzero (b ∷ bs) = (0 < b) × (b < 256) × Nonzero bs

name_byte_is_nonzero : (b : ℕ) → is_name_byte b ≡ true → (0 < b) × (b < 256)
name_byte_is_nonzero b e = grind (arith, nat_tests)

name_bytes_are_nonzero : (bs : List ℕ) → list_all is_name_byte bs ≡ true → Nonzero bs
name_bytes_are_nonzero [] e = tt
name_bytes_are_nonzero (b ∷ bs) e =
    let p = and_parts (is_name_byte b) (list_all is_name_byte bs) e in
    let n = name_byte_is_nonzero b p.0 in
    (n.0, n.1, name_bytes_are_nonzero bs p.1)

pub name_is_short : (bs : List ℕ) → is_name bs ≡ true → length bs ≤ 16
name_is_short bs e =
    let p = and_parts (leb 1 (length bs)) _ e in
    leb-true (length bs) 16 (and_parts (leb (length bs) 16) (list_all is_name_byte bs) p.1).0

pub name_is_nonzero : (bs : List ℕ) → is_name bs ≡ true → Nonzero bs
name_is_nonzero bs e =
    let p = and_parts (leb 1 (length bs)) _ e in
    name_bytes_are_nonzero bs (and_parts (leb (length bs) 16) (list_all is_name_byte bs) p.1).1
