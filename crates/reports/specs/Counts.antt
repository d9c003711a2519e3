-- How many moments are kept.
use Rattle.std.specs.Prelude.{ℕ, ◌+◌, ◌-◌, Bool, count_by}
use Rattle.std.specs.List.{range_with_len}

-- How many moments from `first` to `last` are kept.
unfoldable pub count_kept : (kept : ℕ → Bool) (first last : ℕ) → ℕ
count_kept kept first last = count_by kept (range_with_len first (last + 1 - first))
