-- Bytes as one number, the first most significant, and back.
use Rattle.std.proofs.Common.{◌≡◌, ℕ, zero, suc, ◌+◌, ◌*◌, ◌/◌, ◌%◌, ◌^◌, ◌<◌, ◌≤◌, List, [], ◌∷◌, ◌++◌, drop, sym, refl, ap, ◌∙◌, ap₂, mul-le-mul_right, mul_assoc, mul_comm, add-mul, suc-add, pow-suc, zero-add, div-one, arith, lit<, pow-add}
use native.Mathlib.Nat.{one-le-pow, mul-add-div_right, mul-add-mod_self_right, zero-div, div-eq_of_lt}
use Rattle.values.specs.BigEndian.{big_endian, bytes_of}

-- Every element is a byte.
abbrev pub Bytes : List ℕ → Type 0
Bytes [] = Unit {0}
Bytes (b ∷ bs) = (b < 256) × Bytes bs

pub Bytes-drop : (k : ℕ) (bs : List ℕ) → Bytes bs → Bytes (drop k bs)
Bytes-drop zero bs h = h
Bytes-drop (suc k) [] h = tt
Bytes-drop (suc k) (b ∷ bs) h = Bytes-drop k bs h.1

pub power_is_positive : (k : ℕ) → 1 ≤ 256 ^ k
power_is_positive k = one-le-pow k 256 (lit< tt)

pub big_endian_bound : (k : ℕ) (bs : List ℕ) → Bytes bs → big_endian k bs < 256 ^ k
big_endian_bound zero bs h = lit< tt
big_endian_bound (suc k) [] h = omega (arith, power_is_positive (suc k))
big_endian_bound (suc k) (b ∷ bs) h =
    let e : 256 ^ suc k ≡ 256 ^ k * 256 = pow-suc 256 k in
    let m : (b + 1) * 256 ^ k ≤ 256 * 256 ^ k = mul-le-mul_right (256 ^ k) (omega (arith, h.0)) in
    let a : (b + 1) * 256 ^ k ≡ b * 256 ^ k + 1 * 256 ^ k = add-mul b 1 (256 ^ k) in
    omega (arith, e, m, a, big_endian_bound k bs h.1)

big_endian_none : (k : ℕ) → big_endian k [] ≡ 0
big_endian_none zero = refl
big_endian_none (suc k) = refl

-- A number in two parts.
pub big_endian_split : (j k : ℕ) (bs : List ℕ) → big_endian (j + k) bs ≡ big_endian j bs * 256 ^ k + big_endian k (drop j bs)
big_endian_split zero k bs = let e : big_endian (0 + k) bs ≡ big_endian k bs = ap (λ (n : ℕ). big_endian n bs) (zero-add k) in omega arith
big_endian_split (suc j) k [] = big_endian_none (suc j + k) ∙ omega (arith, big_endian_none k)
big_endian_split (suc j) k (b ∷ bs) =
    let e : b * 256 ^ (j + k) ≡ b * 256 ^ j * 256 ^ k = ap (λ (x : ℕ). b * x) (pow-add 256 j k) ∙ sym (mul_assoc b (256 ^ j) (256 ^ k)) in
    let a : (b * 256 ^ j + big_endian j bs) * 256 ^ k ≡ b * 256 ^ j * 256 ^ k + big_endian j bs * 256 ^ k = add-mul (b * 256 ^ j) (big_endian j bs) (256 ^ k) in
    rw suc-add (omega (arith, e, a, big_endian_split j k bs))

-- The low bytes of a number do not depend on what stands above them.
bytes_below : (j a p : ℕ) → bytes_of j (a * 256 ^ j + p) ≡ bytes_of j p
bytes_below zero a p = refl
bytes_below (suc j) a p =
    let e : a * 256 ^ suc j ≡ (a * 256) * 256 ^ j =
    ap (λ (x : ℕ). a * x) (pow-suc 256 j ∙ mul_comm (256 ^ j) 256) ∙ sym (mul_assoc a 256 (256 ^ j)) in
    let top : ((a * 256) * 256 ^ j + p) / 256 ^ j % 256 ≡ p / 256 ^ j % 256 =
    ap (λ (x : ℕ). x % 256) (mul-add-div_right (power_is_positive j) (a * 256) p) ∙ mul-add-mod_self_right a 256 (p / 256 ^ j) in
    rw e (ap₂ (λ (x : ℕ) (xs : List ℕ). x ∷ xs) top (bytes_below j (a * 256) p))

-- The first k bytes, with zeros for missing ones.
abbrev pub padded : ℕ → List ℕ → List ℕ
padded zero bs = []
padded (suc k) [] = 0 ∷ padded k []
padded (suc k) (b ∷ bs) = b ∷ padded k bs

bytes_of_zero : (k : ℕ) → bytes_of k 0 ≡ padded k []
bytes_of_zero zero = refl
bytes_of_zero (suc k) = ap₂ (λ (x : ℕ) (xs : List ℕ). x ∷ xs) (ap (λ (x : ℕ). x % 256) (zero-div (256 ^ k))) (bytes_of_zero k)

-- A packed number gives its bytes back.
pub bytes_of_big_endian : (k : ℕ) (bs : List ℕ) → Bytes bs → bytes_of k (big_endian k bs) ≡ padded k bs
bytes_of_big_endian zero bs h = refl
bytes_of_big_endian (suc k) [] h = bytes_of_zero (suc k)
bytes_of_big_endian (suc k) (b ∷ bs) h =
    let lt : big_endian k bs < 256 ^ k = big_endian_bound k bs h.1 in
    let top : (b * 256 ^ k + big_endian k bs) / 256 ^ k % 256 ≡ b =
    ap (λ (x : ℕ). x % 256) (mul-add-div_right (power_is_positive k) b (big_endian k bs) ∙ ap (λ (x : ℕ). b + x) (div-eq_of_lt lt)) ∙ omega (arith, h.0) in
    ap₂ (λ (x : ℕ) (xs : List ℕ). x ∷ xs) top (bytes_below k b (big_endian k bs) ∙ bytes_of_big_endian k bs h.1)

padded_none_split : (j k : ℕ) → padded j [] ++ padded k [] ≡ padded (j + k) []
padded_none_split zero k = ap (λ (n : ℕ). padded n []) (omega arith)
padded_none_split (suc j) k = rw suc-add (ap (λ (xs : List ℕ). 0 ∷ xs) (padded_none_split j k))

pub padded_split : (j k : ℕ) (bs : List ℕ) → padded j bs ++ padded k (drop j bs) ≡ padded (j + k) bs
padded_split zero k bs = ap (λ (n : ℕ). padded n bs) (omega arith)
padded_split (suc j) k [] = padded_none_split (suc j) k
padded_split (suc j) k (b ∷ bs) = rw suc-add (ap (λ (xs : List ℕ). b ∷ xs) (padded_split j k bs))

-- What `to_be_bytes` gives of a 64-bit number.
pub eight_bytes : (n : ℕ) → bytes_of 8 n ≡ (n / 72057594037927936 % 256) ∷ (n / 281474976710656 % 256) ∷ (n / 1099511627776 % 256) ∷ (n / 4294967296 % 256) ∷ (n / 16777216 % 256) ∷ (n / 65536 % 256) ∷ (n / 256 % 256) ∷ (n % 256) ∷ []
eight_bytes n = rw (div-one n)

-- What `to_be_bytes` gives of a 32-bit number.
pub four_bytes : (n : ℕ) → bytes_of 4 n ≡ (n / 16777216 % 256) ∷ (n / 65536 % 256) ∷ (n / 256 % 256) ∷ (n % 256) ∷ []
four_bytes n = rw (div-one n)
