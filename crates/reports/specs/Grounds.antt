-- Why a policy keeps a moment or gives it up.
use Rattle.std.specs.Prelude.{ℕ, ◌-◌, ◌*◌, ◌^◌, Bool, true, false, ◌==◌, nat_le, nat_lt, if◌then◌else◌}
use Rattle.std.specs.Int.Count.{count_trailing_zeros}
use Rattle.policies.specs.declared.retention.Retention.{Retention}
use Rattle.policies.specs.declared.retention.Retention.TheVariants as retention
use Rattle.reports.specs.declared.reason.Grounds.{Grounds}
use Rattle.reports.specs.declared.reason.Grounds.TheVariants.{AfterNow, KeepsAll, KeepsZero, WithinWindow, WithinReach}

-- The grounds of halving on a moment that is not above the present.
abbrev pub reach_grounds : (reach t m : ℕ) → Grounds
reach_grounds reach t m =
    if t == 0 then KeepsZero
    else WithinReach (m - t) reach (count_trailing_zeros 32 t) (reach * 2 ^ count_trailing_zeros 32 t)

-- The grounds of a policy's verdict on the moment `t` at `m`.
abbrev pub grounds_of : Retention → (t m : ℕ) → Grounds
grounds_of retention.All t m = if nat_lt m t then AfterNow else KeepsAll
grounds_of (retention.Window w) t m = if nat_lt m t then AfterNow else WithinWindow (m - t) w.length
grounds_of (retention.Halving h) t m = if nat_lt m t then AfterNow else reach_grounds h.reach t m

-- The verdict on these grounds.
abbrev pub kept_on : Grounds → Bool
kept_on AfterNow = false
kept_on KeepsAll = true
kept_on KeepsZero = true
kept_on (WithinWindow age length) = nat_le age length
kept_on (WithinReach age reach zeros limit) = nat_le age limit
