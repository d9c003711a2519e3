-- The byte order of names is the order of their packed pairs.
use Rattle.std.proofs.Common.{◌≡◌, ℕ, zero, suc, ◌+◌, ◌*◌, ◌^◌, ◌<◌, ◌≤◌, true, List, [], ◌∷◌, length, drop, Ordering, sym, refl, ap, ◌∙◌, ap₂, inl, inr, mul-le-mul_right, add-mul, arith}
use Rattle.std.proofs.lemmas.Bool.{cases_order}
use Rattle.std.proofs.lemmas.Bool.Decides.{nat_tests}
use Rattle.std.specs.Ordering.{ordering_then, nat_cmp}
use Rattle.names.specs.ByteOrder.{byte_order}
use Rattle.names.specs.NameRule.{is_name}
use Rattle.values.specs.BigEndian.{big_endian}
use Rattle.names.specs.Packing.{high_of, low_of, spelled, is_packed}
use Rattle.values.proofs.BigEndian.{Bytes-drop, power_is_positive, big_endian_bound, big_endian_split}
use Rattle.names.proofs.NameBytes.{Nonzero, name_is_short, name_is_nonzero}
use Rattle.names.proofs.Names.{nonzero_bytes, packed_parts}

-- A leading digit decides, and where it is the same, the rest.
leading_digit : (P x y p q : ℕ) → p < P → q < P → nat_cmp (x * P + p) (y * P + q) ≡ ordering_then (nat_cmp x y) (nat_cmp p q)
leading_digit P x y p q hp hq = elim (cases_order x y) [
  | inl s ↦ let z : x * P ≡ y * P = ap (λ (v : ℕ). v * P) s in grind (arith, nat_tests)
  | inr d ↦ elim d [
    | inl l ↦ let z : (x + 1) * P ≤ y * P = mul-le-mul_right P (omega arith) in
        let a : (x + 1) * P ≡ x * P + 1 * P = add-mul x 1 P in grind (arith, nat_tests)
    | inr g ↦ let z : (y + 1) * P ≤ x * P = mul-le-mul_right P (omega arith) in
        let a : (y + 1) * P ≡ y * P + 1 * P = add-mul y 1 P in grind (arith, nat_tests)
  ]
]

order_of_big_endian : (k : ℕ) (xs ys : List ℕ) → length xs ≤ k → length ys ≤ k → Nonzero xs → Nonzero ys → byte_order xs ys ≡ nat_cmp (big_endian k xs) (big_endian k ys)
order_of_big_endian zero [] [] h i m n = refl
order_of_big_endian zero (x ∷ xs) ys h i m n = absurd (omega arith)
order_of_big_endian zero [] (y ∷ ys) h i m n = absurd (omega arith)
order_of_big_endian (suc k) [] [] h i m n = refl
order_of_big_endian (suc k) (x ∷ xs) [] h i m n =
    let z : 1 * 256 ^ k ≤ x * 256 ^ k = mul-le-mul_right (256 ^ k) (omega (arith, m.0)) in
    let w = power_is_positive k in grind (arith, nat_tests)
order_of_big_endian (suc k) [] (y ∷ ys) h i m n =
    let z : 1 * 256 ^ k ≤ y * 256 ^ k = mul-le-mul_right (256 ^ k) (omega (arith, n.0)) in
    let w = power_is_positive k in grind (arith, nat_tests)
order_of_big_endian (suc k) (x ∷ xs) (y ∷ ys) h i m n =
    ap (λ (o : Ordering). ordering_then (nat_cmp x y) o) (order_of_big_endian k xs ys (omega arith) (omega arith) m.2 n.2)
    ∙ sym (leading_digit (256 ^ k) x y (big_endian k xs) (big_endian k ys)
    (big_endian_bound k xs (nonzero_bytes xs m.2)) (big_endian_bound k ys (nonzero_bytes ys n.2)))

abbrev pub pair_order : (high low high' low' : ℕ) → Ordering
pair_order high low high' low' = ordering_then (nat_cmp high high') (nat_cmp low low')

name_order : (xs ys : List ℕ) → is_name xs ≡ true → is_name ys ≡ true → byte_order xs ys ≡ pair_order (high_of xs) (low_of xs) (high_of ys) (low_of ys)
name_order xs ys r s =
    let m = name_is_nonzero xs r in
    let n = name_is_nonzero ys s in
    let p = big_endian_bound 8 (drop 8 xs) (Bytes-drop 8 xs (nonzero_bytes xs m)) in
    let q = big_endian_bound 8 (drop 8 ys) (Bytes-drop 8 ys (nonzero_bytes ys n)) in
    order_of_big_endian 16 xs ys (name_is_short xs r) (name_is_short ys s) m n
    ∙ ap₂ nat_cmp (big_endian_split 8 8 xs) (big_endian_split 8 8 ys)
    ∙ leading_digit (256 ^ 8) (high_of xs) (high_of ys) (low_of xs) (low_of ys) p q

pub packed_order_lem : (h l h' l' : ℕ) → is_packed h l ≡ true → is_packed h' l' ≡ true → byte_order (spelled h l) (spelled h' l') ≡ pair_order h l h' l'
packed_order_lem h l h' l' a b =
    let p = packed_parts h l a in
    let q = packed_parts h' l' b in
    name_order (spelled h l) (spelled h' l') p.0 q.0
    ∙ ap₂ (λ (x y : ℕ). pair_order x (low_of (spelled h l)) y (low_of (spelled h' l'))) p.1 q.1
    ∙ ap₂ (λ (x y : ℕ). pair_order h x h' y) p.2 q.2
