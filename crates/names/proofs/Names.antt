-- A packed name spells its bytes again.
use Rattle.std.proofs.Common.{◌≡◌, ℕ, zero, suc, ◌+◌, ◌≤◌, Bool, true, false, not, cond, ◌&&◌, eqb, List, [], ◌∷◌, ◌++◌, length, take, drop, sym, refl, ap, ◌∙◌, ap₂, arith}
use Rattle.std.proofs.lemmas.List.{length-take-le}
use Rattle.std.proofs.lemmas.Bool.{and_parts, and_from, and_left, eqb-true, eq-eqb, ne_eqb}
use Rattle.values.specs.Bytes.{place_of}
use Rattle.names.specs.NameRule.{is_name}
use Rattle.names.specs.Packing.{high_of, low_of, before_zero, pair_bytes, spelled, is_packed}
use Rattle.values.proofs.BigEndian.{Bytes, Bytes-drop, padded, padded_split, bytes_of_big_endian}
use Rattle.names.proofs.NameBytes.{Nonzero, name_is_short, name_is_nonzero}

pub nonzero_bytes : (bs : List ℕ) → Nonzero bs → Bytes bs
nonzero_bytes [] h = tt
nonzero_bytes (b ∷ bs) h = (h.1, nonzero_bytes bs h.2)

before_zero_none : (k : ℕ) → before_zero (padded k []) ≡ []
before_zero_none zero = refl
before_zero_none (suc k) = refl

before_zero_behind : (b : ℕ) (bs : List ℕ) → eqb b 0 ≡ false → before_zero (b ∷ bs) ≡ b ∷ before_zero bs
before_zero_behind b bs e =
    let s : 1 + place_of 0 bs ≡ suc (place_of 0 bs) = omega arith in
    ap (λ (zero : Bool). take (cond (not zero) (1 + place_of 0 bs) 0) (b ∷ bs)) e ∙ ap (λ (n : ℕ). take n (b ∷ bs)) s

-- Zeros behind bytes that are not zero are cut off again.
before_zero_padded : (k : ℕ) (bs : List ℕ) → length bs ≤ k → Nonzero bs → before_zero (padded k bs) ≡ bs
before_zero_padded k [] h m = before_zero_none k
before_zero_padded zero (b ∷ bs) h m = absurd (omega arith)
before_zero_padded (suc k) (b ∷ bs) h m =
    let nonzero : eqb b 0 ≡ false = ne_eqb b 0 (λ e. omega (arith, m.0)) in
    let rest = before_zero_padded k bs (omega arith) m.2 in
    before_zero_behind b (padded k bs) nonzero ∙ ap (λ (xs : List ℕ). b ∷ xs) rest

pub spelled_of_name : (bs : List ℕ) → is_name bs ≡ true → spelled (high_of bs) (low_of bs) ≡ bs
unfolding spelled pair_bytes
spelled_of_name bs e =
    let n = name_is_nonzero bs e in
    let b = nonzero_bytes bs n in
    ap₂ (λ (xs ys : List ℕ). before_zero (xs ++ ys)) (bytes_of_big_endian 8 bs b) (bytes_of_big_endian 8 (drop 8 bs) (Bytes-drop 8 bs b))
    ∙ ap before_zero (padded_split 8 8 bs) ∙ before_zero_padded 16 bs (name_is_short bs e) n

-- Two numbers that are the packing of a name spell it, and are a packed name.
pub packed_name : (bs : List ℕ) (high low : ℕ) → is_name bs ≡ true → high ≡ high_of bs → low ≡ low_of bs
    → (spelled high low ≡ bs) × (is_packed high low ≡ true)
unfolding is_packed
packed_name bs high low e h l =
    let s : spelled high low ≡ bs = rw (h, l) (spelled_of_name bs e) in (
      s,
      and_from (is_name (spelled high low)) _ (rw s e)
          (and_from (eqb (high_of (spelled high low)) high) _
          (eq-eqb (high_of (spelled high low)) high (rw s (sym h)))
          (eq-eqb (low_of (spelled high low)) low (rw s (sym l)))),
    )

-- What a packed pair is.
pub packed_parts : (high low : ℕ) → is_packed high low ≡ true
    → (is_name (spelled high low) ≡ true) × (high_of (spelled high low) ≡ high) × (low_of (spelled high low) ≡ low)
unfolding is_packed
packed_parts high low e =
    let p = and_parts (is_name (spelled high low)) _ e in
    let q = and_parts (eqb (high_of (spelled high low)) high) (eqb (low_of (spelled high low)) low) p.1 in
    (p.0, eqb-true _ _ q.0, eqb-true _ _ q.1)

-- The front of the sixteen bytes, up to the first zero, is the name.
pub spelled_front : (n high low : ℕ) (bs : List ℕ) → bs ≡ pair_bytes high low → n ≡ place_of 0 bs → take n bs ≡ spelled high low
unfolding spelled
spelled_front n high low bs e f = ap (λ (k : ℕ). take k bs) f ∙ ap before_zero e

pub spelled_length : (n high low : ℕ) (bs : List ℕ) → bs ≡ pair_bytes high low → n ≡ place_of 0 bs → n ≤ length bs → n ≡ length (spelled high low)
spelled_length n high low bs e f h = sym (length-take-le n bs h) ∙ ap length (spelled_front n high low bs e f)

-- The test of a pair, made on the bytes that it spells: they are no name, or they are and the test goes on.
pub unpacked_if_no_name : (bs : List ℕ) (high low : ℕ) → bs ≡ spelled high low → false ≡ is_name bs → false ≡ is_packed high low
unfolding is_packed
unpacked_if_no_name bs high low e f = sym (and_left (is_name (spelled high low)) _ (sym (f ∙ ap is_name e)))

pub packed_if_repacked : (bs : List ℕ) (high low : ℕ) (r : Bool) → bs ≡ spelled high low → true ≡ is_name bs
    → r ≡ (eqb (high_of bs) high && eqb (low_of bs) low) → r ≡ is_packed high low
unfolding is_packed
packed_if_repacked bs high low r e t f =
    f ∙ ap (λ (b : Bool). b && (eqb (high_of bs) high && eqb (low_of bs) low)) t
    ∙ ap (λ (xs : List ℕ). is_name xs && (eqb (high_of xs) high && eqb (low_of xs) low)) e
