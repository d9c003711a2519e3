-- How a stretch of moments is marked in a picture.
use Rattle.std.specs.Prelude.{ℕ, ◌+◌, ◌-◌, Bool, ◌==◌, if◌then◌else◌}
use Rattle.reports.specs.Counts.{count_kept}
use Rattle.reports.specs.declared.mark.Mark.{Mark}
use Rattle.reports.specs.declared.mark.Mark.TheVariants.{AllKept, SomeKept, NoneKept}

-- By how many of a number of moments are kept.
abbrev pub mark_of : (kept moments : ℕ) → Mark
mark_of kept moments = if kept == 0 then NoneKept else (if kept == moments then AllKept else SomeKept)

-- The mark of the moments from `first` to `last`.
abbrev pub stretch_mark : (kept : ℕ → Bool) (first last : ℕ) → Mark
stretch_mark kept first last = mark_of (count_kept kept first last) (last + 1 - first)
