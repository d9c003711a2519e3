-- Moments by their numbers.
use Rattle.std.specs.Prelude.{ℕ, suc, [], ◌∷◌, Some, None, Option, Result, ◌==◌, nat_lt, if◌then◌else◌}
use Rattle.values.specs.Answers.{unless_refused}

-- The number of the last moment.
abbrev pub last_moment : ℕ
last_moment = 1048575

-- A number as a moment.
abbrev pub moment_at : ℕ → Result ℕ ℕ
moment_at n = unless_refused ((nat_lt last_moment n, 24) ∷ []) n

-- The moment one later, if there is one.
abbrev pub moment_after : ℕ → Option ℕ
moment_after n = if n == last_moment then None else Some (suc n)
