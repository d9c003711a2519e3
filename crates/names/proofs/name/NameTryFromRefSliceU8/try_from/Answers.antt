use Rattle.std.proofs.Common.{sym, ap}
use Rattle.values.proofs.Answers.{accepted}
use Rattle.names.proofs.Names.{packed_name}
use Rattle.names.proofs.name.NameTryFromRefSliceU8.try_from.Goals as goal

pub invariant_of-result : goal.invariant_of-result
invariant_of-result c =
    record { packs = (packed_name c.args.bytes.now _ _ (sym c.if-not-is_name.ensures) (ap (λ p. p.high) c.pack.ensures) (ap (λ p. p.low) c.pack.ensures)).1 }

pub returns : goal.returns
returns c = (
  accepted _ 1 _ _ (sym c.if-not-is_name.ensures) (ap (λ p. (p.high, p.low)) c.pack.ensures),
  (packed_name c.args.bytes.now _ _ (sym c.if-not-is_name.ensures) (ap (λ p. p.high) c.pack.ensures) (ap (λ p. p.low) c.pack.ensures)).0,
)
