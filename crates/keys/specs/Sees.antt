-- Which moments see a version.
use Rattle.std.specs.Prelude.{ℕ, Bool, true, ◌&&◌, Some, None, Option, nat_le, nat_lt}

-- Whether a version has yet to end after the moment u. One without an end is open.
abbrev pub ends_after : Option ℕ → (u : ℕ) → Bool
ends_after None u = true
ends_after (Some end) u = nat_lt u end

-- Whether the moment u sees a version with this first moment and end.
abbrev pub sees : (first : ℕ) (end : Option ℕ) (u : ℕ) → Bool
sees first end u = nat_le first u && ends_after end u
