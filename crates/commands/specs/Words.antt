-- The words of a line: they are separated by one or more spaces.
use Rattle.std.specs.Prelude.{ℕ, zero, suc, Bool, ◌&&◌, List, length, take, drop, ◌==◌, nat_le}
use Rattle.std.specs.Char.{is_ascii_digit}
use Rattle.std.specs.List.{list_all, prefix_len}
use Rattle.values.specs.Bytes.{place_of}

-- How many spaces the bytes begin with.
abbrev pub spaces_before : List ℕ → ℕ
spaces_before = prefix_len (λ b. b == 32)

abbrev pub after_spaces : List ℕ → List ℕ
after_spaces line = drop (spaces_before line) line

-- The first word of a line, empty where there is none.
unfoldable pub first_word : List ℕ → List ℕ
first_word line = take (place_of 32 (after_spaces line)) (after_spaces line)

-- What follows the first word.
unfoldable pub after_word : List ℕ → List ℕ
after_word line = drop (place_of 32 (after_spaces line)) (after_spaces line)

-- The word with this number, counted from 0, empty where the line has no more than so many.
abbrev pub word_at : ℕ → (line : List ℕ) → List ℕ
word_at zero line = first_word line
word_at (suc n) line = word_at n (after_word line)

-- What stands before the first such byte, and what stands behind it.
unfoldable pub before_byte : (byte : ℕ) → List ℕ → List ℕ
before_byte byte text = take (place_of byte text) text

unfoldable pub behind_byte : (byte : ℕ) → List ℕ → List ℕ
behind_byte byte text = drop (suc (place_of byte text)) text

abbrev pub is_empty : List ℕ → Bool
is_empty bs = length bs == 0

-- One or more decimal digits.
abbrev pub is_numeral : List ℕ → Bool
is_numeral word = nat_le 1 (length word) && list_all is_ascii_digit word
