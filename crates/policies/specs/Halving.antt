-- How long halving keeps a moment, and the search for the first moment that it keeps: one candidate for each power of two.
use Rattle.std.specs.Prelude.{ℕ, ◌-◌, ◌*◌, ◌^◌, max, Some, None, Option, ◌==◌, if◌then◌else◌}
use Rattle.std.specs.Int.{next_multiple_of}
use Rattle.std.specs.Int.Count.{count_trailing_zeros}

-- How old the moment `t` may be and still be kept, or none for moment 0, which is always kept.
abbrev pub limit_of : (reach t : ℕ) → Option ℕ
limit_of reach t = if t == 0 then None else Some (reach * 2 ^ count_trailing_zeros 32 t)

-- The least multiple of 2 ^ zeros that is not below `from` and at most reach * 2 ^ zeros old.
abbrev pub candidate : (reach zeros from m : ℕ) → ℕ
candidate reach zeros from m = next_multiple_of (max from (m - reach * 2 ^ zeros)) (2 ^ zeros)
