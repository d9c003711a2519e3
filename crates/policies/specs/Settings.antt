-- The settings that policies take.
use Rattle.std.specs.Prelude.{ℕ, [], ◌∷◌, Result, nat_lt}
use Rattle.values.specs.Answers.{unless_refused}

abbrev pub window_setting : ℕ → Result ℕ ℕ
window_setting length = unless_refused ((nat_lt 1048575 length, 24) ∷ []) length

abbrev pub halving_setting : ℕ → Result ℕ ℕ
halving_setting reach = unless_refused ((nat_lt 1024 reach, 24) ∷ []) reach
