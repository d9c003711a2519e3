-- What an order is: three answers and their laws.
use Rattle.std.specs.Prelude.{◌≡◌}
use Rattle.std.specs.declared.cmp.Ordering.TheVariants.{Less, Equal}
use Rattle.std.specs.declared.cmp.Ordering.{Ordering}
use Rattle.std.specs.Ordering.{ordering_reverse}

pub record OrderLaws {X : Type 0} (order : X → X → Ordering) : Type 0 where
  pub same : (x y : X) → order x y ≡ Equal → x ≡ y
  pub self : (x : X) → order x x ≡ Equal
  pub turned : (x y : X) → order y x ≡ ordering_reverse (order x y)
  pub transitive : (x y z : X) → order x y ≡ Less → order y z ≡ Less → order x z ≡ Less
