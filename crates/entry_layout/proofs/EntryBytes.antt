-- Entries read from bytes, and bytes written of entries.
use Rattle.std.proofs.Common.{◌≡◌, ℕ, ◌+◌, ◌*◌, ◌/◌, ◌%◌, ◌^◌, ◌<◌, ◌≤◌, List, [], ◌∷◌, ◌++◌, length, get_or, take, drop, set, Some, sym, refl, ap, ◌∙◌, ap₂, arith, length-append}
use native.Mathlib.Nat.{div-div-eq-div-mul}
use borrow.Rule.Slice.PartMut.{put_mid}
use Rattle.std.proofs.lemmas.List.{take_at}
use Rattle.std.proofs.lemmas.Bool.{cond-true, and_from, le-leb}
use Rattle.values.specs.BigEndian.{big_endian, bytes_of}
use Rattle.values.specs.Bytes.{over}
use Rattle.values.proofs.BigEndian.{four_bytes}
use Rattle.values.proofs.Over.{part_written, place_written, length-over, over_next}
use Rattle.stores.specs.Contents.{Entry, entry}
use Rattle.stores.specs.Laws.{BlockSized}
use Rattle.entry_layout.specs.Layout.{entry_bytes, entry_in}

-- Reading.

pub entry_read : (bs : List ℕ) → 0 < get_or bs 4 0 → get_or bs 4 0 ≤ 64 → 5 + get_or bs 4 0 ≤ length bs
    → entry_in bs ≡ Some (entry (big_endian 4 bs) (take (get_or bs 4 0) (drop 5 bs)))
entry_read bs h i j = cond-true _ _ _ (and_from _ _ (le-leb 1 (get_or bs 4 0) h) (and_from _ _ (le-leb _ _ i) (le-leb _ _ j)))

-- Four bytes as a number, as `from_be_bytes` gives it.
pub four_byte_number : (bs : List ℕ) → big_endian 4 bs ≡ get_or bs 0 0 * 16777216 + get_or bs 1 0 * 65536 + get_or bs 2 0 * 256 + get_or bs 3 0
four_byte_number [] = refl
four_byte_number (a ∷ []) = omega arith
four_byte_number (a ∷ b ∷ []) = omega arith
four_byte_number (a ∷ b ∷ c ∷ []) = omega arith
four_byte_number (a ∷ b ∷ c ∷ d ∷ bs) = omega arith

-- Writing.

pub length-entry : (e : Entry) → length (entry_bytes e) ≡ 5 + length e.block
length-entry e = omega arith

-- Four bytes, one and a block, each written directly behind the one before.
pub entry_written : (at size four long : ℕ) (number_bytes block_bytes xs : List ℕ) (e : Entry)
    → number_bytes ≡ (e.number / 16777216 % 256) ∷ (e.number / 65536 % 256) ∷ (e.number / 256 % 256) ∷ (e.number % 256) ∷ [] → four ≡ 4
    → size ≡ length e.block → block_bytes ≡ e.block → long ≡ size → at + 5 + size ≤ length xs
    → put_mid (at + 5) long (set (put_mid at four xs number_bytes) (at + 4) size) block_bytes ≡ over at (entry_bytes e) xs
entry_written at size four long number_bytes block_bytes xs e n f s b l h =
    let hs : List ℕ = bytes_of 4 e.number in
    let first : put_mid at four xs number_bytes ≡ over at hs xs =
    part_written at four xs number_bytes hs (n ∙ sym (four_bytes e.number)) (sym f) in
    let lo : length (over at hs xs) ≡ length xs = length-over at hs xs (omega arith) in
    let second : set (put_mid at four xs number_bytes) (at + 4) size ≡ over at (hs ++ size ∷ []) xs =
    ap (λ (w : List ℕ). set w (at + 4) size) first
    ∙ place_written (over at hs xs) (at + 4) size (omega arith)
    ∙ over_next at (at + 4) hs (size ∷ []) xs refl (omega arith) in
    part_written (at + 5) long (set (put_mid at four xs number_bytes) (at + 4) size) block_bytes e.block b (sym s ∙ sym l)
    ∙ ap (over (at + 5) e.block) second
    ∙ over_next at (at + 5) (hs ++ size ∷ []) e.block xs refl (omega arith)
    ∙ ap (λ (k : ℕ). over at (hs ++ k ∷ [] ++ e.block) xs) s

-- Reading back what was written.

digits : (n p q r a b c d : ℕ) → n ≡ p * 256 + a → p ≡ q * 256 + b → q ≡ r * 256 + c → r ≡ d → d * 16777216 + c * 65536 + b * 256 + a ≡ n
digits n p q r a b c d h i j k = omega arith

pub number_read_back : (n : ℕ) (rest : List ℕ) → n < 2 ^ 32 → big_endian 4 (bytes_of 4 n ++ rest) ≡ n
number_read_back n rest h =
    let a : n / 256 / 256 ≡ n / 65536 = div-div-eq-div-mul n 256 256 in
    let b : n / 65536 / 256 ≡ n / 16777216 = div-div-eq-div-mul n 65536 256 in
    ap (λ (hs : List ℕ). big_endian 4 (hs ++ rest)) (four_bytes n)
    ∙ four_byte_number ((n / 16777216 % 256) ∷ (n / 65536 % 256) ∷ (n / 256 % 256) ∷ (n % 256) ∷ rest)
    ∙ digits n (n / 256) (n / 65536) (n / 16777216) (n % 256) (n / 256 % 256) (n / 65536 % 256) (n / 16777216 % 256)
    (omega arith) (omega arith) (omega arith) (omega arith)

pub entry_read_back : (e : Entry) (rest : List ℕ) → e.number < 2 ^ 32 → BlockSized e.block → entry_in (entry_bytes e ++ rest) ≡ Some e
entry_read_back e rest n s =
    let i = s.0 in
    let j = s.1 in
    let l : length (e.block ++ rest) ≡ length e.block + length rest = length-append e.block rest in
    let t : take (length e.block) (e.block ++ rest) ≡ e.block = take_at e.block rest _ refl in
    entry_read (entry_bytes e ++ rest) i j (omega arith)
    ∙ ap₂ (λ (x : ℕ) (y : List ℕ). Some (entry x y)) (number_read_back e.number (length e.block ∷ (e.block ++ rest)) n) t
