-- The laws of `first_kept`: it is the least kept moment of its stretch, and no other answer is.
use Rattle.std.proofs.Common.{◌≡◌, ℕ, zero, suc, ◌+◌, ◌-◌, ◌<◌, ◌≤◌, Bool, true, false, cond, Some, None, Option, sym, refl, ap, inl, inr, arith}
use Rattle.std.specs.Prelude.{find}
use Rattle.std.specs.List.{range_with_len}
use Rattle.std.proofs.lemmas.Bool.{both_ways, cases_eq, cases_order}
use Rattle.policies.specs.FirstKept.{first_kept, LeastKept, FirstKeptIsLeast}

-- The least kept moment after `t` is also the least from `t` on, where `t` is not kept.
least_from_before : (kept : ℕ → Bool) (t m : ℕ) (o : Option ℕ) → kept t ≡ false → LeastKept kept (t + 1) m o → LeastKept kept t m o
least_from_before kept t m None e none = λ j from to. elim (cases_eq t j) [
  | inl s ↦ rw (sym s) e
  | inr d ↦ none j (omega arith) to
]
least_from_before kept t m (Some k) e l = (
  omega arith,
  l.1,
  l.2,
  λ j from below. elim (cases_eq t j) [
    | inl s ↦ rw (sym s) e
    | inr d ↦ l.3 j (omega arith) below
  ],
)

-- One step of the search: the least is `t` where that is kept, and else the least after it.
least_of_first : (kept : ℕ → Bool) (t m : ℕ) (b : Bool) (o : Option ℕ) → t ≤ m → kept t ≡ b → LeastKept kept (t + 1) m o → LeastKept kept t m (cond b (Some t) o)
least_of_first kept t m true o to e l = (omega arith, to, e, λ j from below. absurd (omega arith))
least_of_first kept t m false o to e l = least_from_before kept t m o e l

-- The first kept of `count` moments from `t` on is the least of them.
find_is_least : (kept : ℕ → Bool) (count t m : ℕ) → count ≡ suc m - t → LeastKept kept t m (find kept (range_with_len t count))
find_is_least kept zero t m e = λ j from to. absurd (omega arith)
find_is_least kept (suc count) t m e =
    least_of_first kept t m (kept t) (find kept (range_with_len (t + 1) count)) (omega arith) refl
    (find_is_least kept count (t + 1) m (omega arith))

-- The answer of `first_kept` is the least kept moment, and none only where no moment is kept.
pub first_kept_is_least : FirstKeptIsLeast
unfolding first_kept
first_kept_is_least kept t m = find_is_least kept (suc m - t) t m refl

-- There is only one least kept moment.
least_is_one : (kept : ℕ → Bool) (t m : ℕ) (o p : Option ℕ) → LeastKept kept t m o → LeastKept kept t m p → o ≡ p
least_is_one kept t m None None h l = refl
least_is_one kept t m None (Some k) h l = absurd (both_ways (kept k) (h k l.0 l.1) l.2)
least_is_one kept t m (Some i) None h l = absurd (both_ways (kept i) (l i h.0 h.1) h.2)
least_is_one kept t m (Some i) (Some k) h l = elim (cases_order i k) [
  | inl e ↦ ap Some e
  | inr d ↦ elim d [
    | inl below ↦ absurd (both_ways (kept i) (l.3 i h.0 below) h.2)
    | inr above ↦ absurd (both_ways (kept k) (h.3 k l.0 above) l.2)
  ]
]

-- The least kept moment from `t` to `m` is the first.
pub least_is_first : (kept : ℕ → Bool) (t m k : ℕ) → t ≤ k → k ≤ m → kept k ≡ true → ((j : ℕ) → t ≤ j → j < k → kept j ≡ false) → first_kept kept t m ≡ Some k
least_is_first kept t m k from to e none = least_is_one kept t m (first_kept kept t m) (Some k) (first_kept_is_least kept t m) (from, to, e, none)

-- A kept moment is the first from itself on.
pub kept_is_first : (kept : ℕ → Bool) (t m : ℕ) → t ≤ m → kept t ≡ true → first_kept kept t m ≡ Some t
kept_is_first kept t m to e = least_is_first kept t m t (omega arith) to e (λ j from below. absurd (omega arith))

-- Where none from `t` to `m` is kept, there is no first.
pub none_is_first : (kept : ℕ → Bool) (t m : ℕ) → ((j : ℕ) → t ≤ j → j ≤ m → kept j ≡ false) → first_kept kept t m ≡ None
none_is_first kept t m none = least_is_one kept t m (first_kept kept t m) None (first_kept_is_least kept t m) none

-- No moment stands from `t` to an `m` below it.
pub none_above : (kept : ℕ → Bool) (t m : ℕ) → m < t → first_kept kept t m ≡ None
none_above kept t m above = none_is_first kept t m (λ j from to. absurd (omega arith))
