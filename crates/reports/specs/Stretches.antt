-- The parts of a stretch of moments, each by its first and last.
use Rattle.std.specs.Prelude.{◌≡◌, ℕ, zero, suc, ◌+◌, ◌-◌, ◌*◌, ◌^◌, ◌<◌, ◌≤◌, min, max, Bool, false, ◌&&◌, Some, None, Option, ◌==◌, nat_le, nat_lt, if◌then◌else◌}
use Rattle.std.specs.Int.{div_ceil}
use Rattle.values.specs.Moments.{last_moment}

-- The moments from the number `first` to the number `last`, or none where these give no stretch.
abbrev pub stretch_between : (first last : ℕ) → Option (ℕ × ℕ)
stretch_between first last = if nat_le first last && nat_le last last_moment then Some (first, last) else None

-- How many moments each of at most `columns` columns of a stretch has: so few that the columns hold all.
abbrev pub column_width : (columns first last : ℕ) → ℕ
column_width columns first last = div_ceil (last + 1 - first) (max columns 1)

-- The column that begins at `start`, within a stretch up to `last`.
abbrev pub column_from : (start width last : ℕ) → Option (ℕ × ℕ)
column_from start width last = if nat_lt last start then None else Some (start, min last (start + width - 1))

-- The column with this number, counted from 0.
abbrev pub column_of : (index columns first last : ℕ) → Option (ℕ × ℕ)
column_of index columns first last = column_from (first + index * column_width columns first last) (column_width columns first last) last

-- The moments whose ages at `m` go from `youngest` to below twice that.
abbrev pub aged_from : (youngest m : ℕ) → Option (ℕ × ℕ)
aged_from youngest m = if nat_lt m youngest then None else Some (m - (2 * youngest - 1), m - youngest)

-- The moments in one row of a table of ages: age 0 in row 0, and in each later row ages from 2 ^ (row - 1) to 2 ^ row - 1.
abbrev pub ages_of : (row m : ℕ) → Option (ℕ × ℕ)
ages_of zero m = Some (m, m)
ages_of (suc row) m = aged_from (2 ^ row) m

-- Whether a part holds the moment `t`.
abbrev pub holds : Option (ℕ × ℕ) → (t : ℕ) → Bool
holds None t = false
holds (Some part) t = nat_le part.0 t && nat_le t part.1

-- Every moment of a stretch stands in one of its columns, and in no other.
abbrev pub ColumnsHoldEachOnce : Type 0
ColumnsHoldEachOnce =
    (columns first last t : ℕ) → 0 < columns → first ≤ t → t ≤ last
    → (i : ℕ) × (i < columns) × ((j : ℕ) → holds (column_of j columns first last) t ≡ (j == i))

-- Every moment up to the present stands in one of the 21 rows of a table of ages, and in no other.
abbrev pub RowsHoldEachOnce : Type 0
RowsHoldEachOnce = (m t : ℕ) → m ≤ 1048575 → t ≤ m → (i : ℕ) × (i < 21) × ((j : ℕ) → holds (ages_of j m) t ≡ (j == i))
