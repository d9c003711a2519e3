-- Which moments each policy keeps: whether `t` is kept when the present moment is `m`.
use Rattle.std.specs.Prelude.{◌≡◌, ℕ, ◌-◌, ◌*◌, ◌^◌, ◌≤◌, Bool, false, ◌&&◌, ◌||◌, ◌==◌, nat_le}
use Rattle.std.specs.Int.Count.{count_trailing_zeros}

-- Everything up to the present.
abbrev pub kept_by_all : (t m : ℕ) → Bool
kept_by_all t m = nat_le t m

-- What is at most `length` moments old.
abbrev pub kept_by_window : (length t m : ℕ) → Bool
kept_by_window length t m = nat_le t m && nat_le (m - t) length

-- Moment 0, and any other whose age is at most `reach` doubled once for each zero bit at the low end of `t`.
abbrev pub kept_by_halving : (reach t m : ℕ) → Bool
kept_by_halving reach t m = nat_le t m && (t == 0 || nat_le (m - t) (reach * 2 ^ count_trailing_zeros 32 t))

-- What a policy does not keep at `m` it does not keep at any later `n`.
abbrev pub GivenUpForGood : (kept : (t m : ℕ) → Bool) → Type 0
GivenUpForGood kept = (t m n : ℕ) → t ≤ m → m ≤ n → kept t m ≡ false → kept t n ≡ false
