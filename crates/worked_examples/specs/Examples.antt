-- Worked examples of the rules.
use Rattle.std.specs.Prelude.{◌≡◌, ℕ, zero, suc, Bool, true, false, List, [], ◌∷◌, Some, None, Ok, codes, if◌then◌else◌}
use Rattle.std.specs.declared.cmp.Ordering.TheVariants.{Less}
use Rattle.names.specs.ByteOrder.{byte_order}
use Rattle.names.specs.NameRule.{is_name}
use Rattle.names.specs.Packing.{packing}
use Rattle.entry_layout.specs.Layout.{capacity_of, header}
use Rattle.keys.specs.Sees.{sees}
use Rattle.policies.specs.FirstKept.{first_kept}
use Rattle.policies.specs.Kept.{kept_by_window, kept_by_halving}

-- The kept moments among `count` moments from `t` on.
abbrev pub kept_from : (kept : ℕ → Bool) (count t : ℕ) → List ℕ
kept_from kept zero t = []
kept_from kept (suc count) t = if kept t then t ∷ kept_from kept count (suc t) else kept_from kept count (suc t)

-- The kept moments from 0 to `m`, by whether a moment is kept at `m`.
abbrev pub kept_moments : (kept : ℕ → ℕ → Bool) (m : ℕ) → List ℕ
kept_moments kept m = kept_from (λ t. kept t m) (suc m) 0

pub record Examples : Type 0 where
  -- a name has 1 to 16 bytes, and no slash
  pub sixteen_bytes : is_name (codes "sixteen-byte-one") ≡ true
  pub seventeen_bytes : is_name (codes "seventeen-letters") ≡ false
  pub no_bytes : is_name [] ≡ false
  pub slash : is_name (codes "a/b") ≡ false
  -- names stand in byte order
  pub a_before_a_srt : byte_order (codes "a") (codes "a.srt") ≡ Less
  pub a_srt_before_b : byte_order (codes "a.srt") (codes "b") ≡ Less
  pub a_srt_packed : packing (codes "a.srt") ≡ Ok (0x612E737274000000, 0)
  -- what policies keep
  pub window_three : kept_moments (kept_by_window 3) 5 ≡ 2 ∷ 3 ∷ 4 ∷ 5 ∷ []
  pub halving_two : kept_moments (kept_by_halving 2) 10 ≡ 0 ∷ 4 ∷ 6 ∷ 8 ∷ 9 ∷ 10 ∷ []
  pub first_from_five : first_kept (λ t. kept_by_halving 2 t 10) 5 10 ≡ Some 6
  pub first_from_eleven : first_kept (λ t. kept_by_halving 2 t 10) 11 10 ≡ None
  -- a version is seen from its first moment to before its end
  pub seen_at_first : sees 2 (Some 3) 2 ≡ true
  pub unseen_at_end : sees 2 (Some 3) 3 ≡ false
  -- entries in bytes
  pub header_of_three_bytes : header 1 3 ≡ 0x00 ∷ 0x00 ∷ 0x00 ∷ 0x01 ∷ 0x03 ∷ []
  pub one_entry_fits : capacity_of 137 ≡ 1
  pub two_entries_fit : capacity_of 138 ≡ 2
