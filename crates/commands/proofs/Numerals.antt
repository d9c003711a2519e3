-- Words of decimal digits, and the numbers that they write, read digit by digit.
use Rattle.std.proofs.Common.{bit_and, ◌%◌, ◌≡◌, ℕ, ◌+◌, ◌-◌, ◌*◌, ◌<◌, ◌≤◌, min, true, leb, List, [], ◌∷◌, length, Ok, Err, Result, arith}
use Rattle.std.specs.Char.{digit_value, is_ascii_digit}
use Rattle.std.specs.List.{fold, list_all}
use Rattle.std.specs.Result.{OkIff, result_or}
use Rattle.std.specs.Str.Parse.{digits_value_after}
use Rattle.std.proofs.lemmas.Bool.{and_parts}
use Rattle.std.proofs.lemmas.Nat.{and_mask}
use Rattle.std.proofs.lemmas.Bool.Decides.{nat_tests}
use Rattle.commands.specs.Numbers.{number_in}
use Rattle.commands.specs.Words.{is_numeral}
use Rattle.commands.specs.declared.fault.Fault.TheVariants.{NumberTooLarge}

-- A number, cut where 32 bits do not hold it, with one more digit.
abbrev pub next_value : (value digit : ℕ) → ℕ
next_value value digit = min value 4294967296 * 10 + bit_and digit 15

digit_bounds : (b : ℕ) → is_ascii_digit b ≡ true → (48 ≤ b) × (b ≤ 57)
digit_bounds b e = grind (arith, nat_tests)

digit_value_is : (b : ℕ) → 48 ≤ b → b ≤ 57 → digit_value b ≡ b - 48
digit_value_is b l h = grind (arith, nat_tests)

value_after : (word : List ℕ) (n v : ℕ) → list_all is_ascii_digit word ≡ true → min v 4294967296 ≡ min n 4294967296
    → min (fold next_value v word) 4294967296 ≡ min (digits_value_after 10 n word) 4294967296
value_after [] n v h e = e
value_after (d ∷ word) n v h e =
    let both = and_parts (is_ascii_digit d) _ h in
    let b = digit_bounds d both.0 in
    let g : digit_value d ≡ d - 48 = digit_value_is d b.0 b.1 in
    let m : bit_and d 15 ≡ d % 16 = and_mask d 4 in
    value_after word (n * 10 + digit_value d) (next_value v d) both.1 (omega arith)

-- So a word of digits is read as its number, or as one that 32 bits do not hold either.
pub value_of_numeral : {E : Type 0} (word : List ℕ) (v : ℕ) (r : Result ℕ E) → is_numeral word ≡ true → v ≡ fold next_value 0 word → OkIff r (v < 4294967296) v
    → result_or r (Err NumberTooLarge) ≡ number_in word
unfolding number_in
value_of_numeral {E = E} word v (Ok n) h e p =
    let read = value_after word 0 0 (and_parts (leb 1 (length word)) _ h).1 (omega arith) in
    rw h (grind (arith, nat_tests))
value_of_numeral {E = E} word v (Err x) h e p =
    let read = value_after word 0 0 (and_parts (leb 1 (length word)) _ h).1 (omega arith) in
    rw h (grind (arith, nat_tests))
