-- An order by a first part and then a second is lawful where both parts' orders are.
use Rattle.std.specs.Prelude.{◌≡◌, ℕ, refl}
use Rattle.std.specs.declared.cmp.Ordering.TheVariants.{Less, Equal, Greater}
use Rattle.std.specs.declared.cmp.Ordering.{Ordering}
use Rattle.std.proofs.Common.{arith, rules}
use Rattle.std.specs.Ordering.{ordering_then, ordering_reverse, nat_cmp, on, then_cmp}
use Rattle.keys.specs.Order.{OrderLaws}

pub number_order_lawful : OrderLaws nat_cmp
number_order_lawful = search rules

then_equal : (a b : Ordering) → ordering_then a b ≡ Equal → (a ≡ Equal) × (b ≡ Equal)
then_equal Less b e = absurd (let z : ◌≡◌ {A = ℕ} 0 1 = cc in omega arith)
then_equal Equal b e = (refl, e)
then_equal Greater b e = absurd (let z : ◌≡◌ {A = ℕ} 0 1 = cc in omega arith)

then_reversed : (a b : Ordering) → ordering_then (ordering_reverse a) (ordering_reverse b) ≡ ordering_reverse (ordering_then a b)
then_reversed Less b = refl
then_reversed Equal b = refl
then_reversed Greater b = refl

-- Two values with equal parts are taken to be equal.
module _ {X A B : Type 0} (first : X → A) (second : X → B) (by_first : A → A → Ordering) (by_second : B → B → Ordering)
    (whole : (x y : X) → first x ≡ first y → second x ≡ second y → x ≡ y) (f : OrderLaws by_first) (s : OrderLaws by_second) where
  abbrev order : X → X → Ordering
  order = then_cmp (on first by_first) (on second by_second)

  parts_same : (x y : X) → order x y ≡ Equal → x ≡ y
  parts_same x y e =
      let t = then_equal (by_first (first x) (first y)) (by_second (second x) (second y)) e in
      whole x y (f.same (first x) (first y) t.0) (s.same (second x) (second y) t.1)

  parts_self : (x : X) → order x x ≡ Equal
  parts_self x = rw (f.self (first x)) (s.self (second x))

  parts_turned : (x y : X) → order y x ≡ ordering_reverse (order x y)
  parts_turned x y =
      rw (f.turned (first x) (first y), s.turned (second x) (second y)) (then_reversed (by_first (first x) (first y)) (by_second (second x) (second y)))

  -- by what the first parts of x and y, and of y and z, answer
  transitive_by : (x y z : X) (a b : Ordering) → by_first (first x) (first y) ≡ a → by_first (first y) (first z) ≡ b
      → ordering_then a (by_second (second x) (second y)) ≡ Less → ordering_then b (by_second (second y) (second z)) ≡ Less → order x z ≡ Less
  transitive_by x y z Less Less ea eb u v = rw (f.transitive (first x) (first y) (first z) ea eb) refl
  transitive_by x y z Less Equal ea eb u v = let e = f.same (first y) (first z) eb in rw (← e, ea) refl
  transitive_by x y z Equal Less ea eb u v = let e = f.same (first x) (first y) ea in rw (e, eb) refl
  transitive_by x y z Equal Equal ea eb u v = let e = f.same (first x) (first y) ea in rw (e, eb) (s.transitive (second x) (second y) (second z) u v)
  transitive_by x y z Greater b ea eb u v = absurd (let z : ◌≡◌ {A = ℕ} 0 1 = cc in omega arith)
  transitive_by x y z Less Greater ea eb u v = absurd (let z : ◌≡◌ {A = ℕ} 0 1 = cc in omega arith)
  transitive_by x y z Equal Greater ea eb u v = absurd (let z : ◌≡◌ {A = ℕ} 0 1 = cc in omega arith)

  pub parts_order_lawful : OrderLaws order
  parts_order_lawful = record {
    same = parts_same;
    self = parts_self;
    turned = parts_turned;
    transitive = λ x y z. transitive_by x y z (by_first (first x) (first y)) (by_first (first y) (first z)) refl refl;
  }
