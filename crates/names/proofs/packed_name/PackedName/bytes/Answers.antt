use Rattle.std.proofs.Common.{◌≡◌, ℕ, List, ◌++◌, replicate, sym, ◌∙◌, ap₂}
use borrow.Rule.Slice.PartMut.{put_mid}
use Rattle.values.specs.BigEndian.{bytes_of}
use Rattle.names.specs.Packing.{pair_bytes}
use Rattle.values.proofs.BigEndian.{eight_bytes}
use Rattle.names.proofs.packed_name.PackedName.bytes.Goals as goal

pub returns : goal.returns
unfolding pair_bytes
returns c =
    let front : c.copy_from_slice.new.self ≡ bytes_of 8 c.args.self.high =
    c.copy_from_slice.ensures.after ∙ c.to_be_bytes.ensures ∙ sym (eight_bytes c.args.self.high) in
    let back : c.copy_from_slice-2.new.self ≡ bytes_of 8 c.args.self.low =
    c.copy_from_slice-2.ensures.after ∙ c.to_be_bytes-2.ensures ∙ sym (eight_bytes c.args.self.low) in
    ap₂ (λ (xs ys : List ℕ). put_mid 8 8 (xs ++ replicate 8 0) ys) front back
