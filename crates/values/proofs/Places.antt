-- The place that a search answers, or the end.
use Rattle.std.proofs.Common.{◌≡◌, ℕ, Bool, cond, ltb, List, length, Some, None, Option, not, arith}
use Rattle.std.proofs.lemmas.Grind.{common_steps}
use Rattle.std.proofs.lemmas.List.Sums.{prefix_len-le-length}
use Rattle.std.specs.List.{position_or_len}
use Rattle.std.specs.Option.{unwrap_or}

pub place_or_end : {X : Type 0} (test : X → Bool) (xs : List X) (r : Option ℕ)
    → r ≡ cond (ltb (position_or_len test xs) (length xs)) (Some (position_or_len test xs)) None
    → unwrap_or r (length xs) ≡ position_or_len test xs
place_or_end test xs r e =
    let h = prefix_len-le-length (λ x. not (test x)) xs in
    grind (arith, common_steps)
