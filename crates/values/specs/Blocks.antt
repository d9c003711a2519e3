-- Blocks and their numbers.
use Rattle.std.specs.Prelude.{ℕ, [], ◌∷◌, Result, nat_lt}
use Rattle.values.specs.Answers.{unless_refused}

-- The largest block number.
abbrev pub max_block_number : ℕ
max_block_number = 63

-- The most bytes that a block has.
abbrev pub max_block_length : ℕ
max_block_length = 64

-- A number as a block number.
abbrev pub block_number_at : ℕ → Result ℕ ℕ
block_number_at n = unless_refused ((nat_lt max_block_number n, 2) ∷ []) n
