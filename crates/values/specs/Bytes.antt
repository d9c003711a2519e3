-- Lists of bytes: the place of one, and writes over a part.
use Rattle.std.specs.Prelude.{ℕ, ◌+◌, List, ◌++◌, length, take, drop, ◌==◌}
use Rattle.std.specs.List.{position_or_len}

-- The place of the first such byte, or the length where there is none.
abbrev pub place_of : (byte : ℕ) → List ℕ → ℕ
place_of byte = position_or_len (λ b. b == byte)

-- A buffer with bytes written over its front.
abbrev pub over_front : (bytes buffer : List ℕ) → List ℕ
over_front bytes buffer = bytes ++ drop (length bytes) buffer

-- A list with bytes written over a part of it, from the place `at` on.
abbrev pub over : (at : ℕ) (bytes list : List ℕ) → List ℕ
over at bytes list = take at list ++ (bytes ++ drop (at + length bytes) list)
