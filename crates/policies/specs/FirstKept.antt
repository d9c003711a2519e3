-- The least kept moment of a stretch.
use Rattle.std.specs.Prelude.{◌≡◌, ℕ, suc, ◌-◌, ◌<◌, ◌≤◌, Bool, true, false, Some, None, Option, find}
use Rattle.std.specs.List.{range_with_len}

-- The first kept moment from `t` to `m`.
unfoldable pub first_kept : (kept : ℕ → Bool) (t m : ℕ) → Option ℕ
first_kept kept t m = find kept (range_with_len t (suc m - t))

-- That an answer is the least kept moment from `t` to `m`, or none where none of them is kept.
abbrev pub LeastKept : (kept : ℕ → Bool) (t m : ℕ) → Option ℕ → Type 0
LeastKept kept t m None = (j : ℕ) → t ≤ j → j ≤ m → kept j ≡ false
LeastKept kept t m (Some k) = (t ≤ k) × (k ≤ m) × (kept k ≡ true) × ((j : ℕ) → t ≤ j → j < k → kept j ≡ false)

abbrev pub FirstKeptIsLeast : Type 0
FirstKeptIsLeast = (kept : ℕ → Bool) (t m : ℕ) → LeastKept kept t m (first_kept kept t m)
