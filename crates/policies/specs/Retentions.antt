-- What a policy chosen while the program runs keeps: what the chosen one keeps.
use Rattle.std.specs.Prelude.{ℕ, Bool}
use Rattle.policies.specs.Kept.{kept_by_all, kept_by_window, kept_by_halving}
use Rattle.policies.specs.declared.retention.Retention.{Retention}
use Rattle.policies.specs.declared.retention.Retention.TheVariants.{All, Window, Halving}

abbrev pub kept_by : Retention → (t m : ℕ) → Bool
kept_by All = kept_by_all
kept_by (Window w) = kept_by_window w.length
kept_by (Halving h) = kept_by_halving h.reach
