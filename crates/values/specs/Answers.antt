-- What a call answers, with a refusal as its number.
use Rattle.std.specs.Prelude.{◌≡◌, ℕ, Bool, List, [], ◌∷◌, IfErr, Ok, Err, Result, if◌then◌else◌}
use Rattle.values.specs.Refusals.{number_of}
use Rattle.values.specs.declared.refusal.Refusal.{Refusal}

-- The answer of a call: what `read` reads off the accepted value, or the refusal's number.
abbrev pub answer : {A B : Type 0} → (A → B) → Result A Refusal → Result B ℕ
answer read (Ok x) = Ok (read x)
answer read (Err e) = Err (number_of e)

-- Tests in checking order, each with the refusal's number where it applies: the first that does, or the answer.
abbrev pub unless_refused : {B : Type 0} → List (Bool × ℕ) → B → Result B ℕ
unless_refused [] x = Ok x
unless_refused (t ∷ ts) x = if t.0 then Err t.1 else unless_refused ts x

-- A call that may alter a state. Accepted, it shows what `expected` gives, `shown` being what is read off its value and
-- off the state afterwards. Refused, it answers the number that `expected` gives, and the state is as it was before.
pub record Settles {A B S : Type 0} (r : Result A Refusal) (shown : A → B) (expected : Result B ℕ) (before after : S) : Type 0 where
  pub answered : answer shown r ≡ expected
  pub unaltered : IfErr r (λ _. after ≡ before)
