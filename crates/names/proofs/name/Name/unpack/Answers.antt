use Rattle.std.proofs.Common.{ℕ, List, ◌++◌, drop, ◌∙◌, ap₂, arith}
use Rattle.std.proofs.lemmas.Bool.Decides.{nat_tests}
use Rattle.names.proofs.Names.{spelled_front, spelled_length}
use Rattle.names.proofs.name.Name.unpack.Goals as goal

pub returns-clause-answers : goal.returns-clause-answers
returns-clause-answers c =
    let n = spelled_length _ _ _ _ c.bytes-bytes.ensures c.place_of-length.ensures.place c.place_of-length.ensures.within in
    grind (arith, nat_tests)

pub returns-clause-writes : goal.returns-clause-writes
returns-clause-writes c =
    ap₂ (λ (xs : List ℕ) (k : ℕ). xs ++ drop k c.args.buffer.now)
    (c.copy_from_slice.ensures.after ∙ spelled_front _ _ _ _ c.bytes-bytes.ensures c.place_of-length.ensures.place)
    (spelled_length _ _ _ _ c.bytes-bytes.ensures c.place_of-length.ensures.place c.place_of-length.ensures.within)
