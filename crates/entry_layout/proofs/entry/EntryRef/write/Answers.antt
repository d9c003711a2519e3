use Rattle.std.proofs.Common.{length, sym, refl, ◌∙◌, arith}
use Rattle.std.proofs.lemmas.Bool.{cond-true, and_from, le-leb}
use Rattle.entry_layout.specs.Views.{viewed}
use Rattle.entry_layout.proofs.EntryBytes.{entry_written}
use Rattle.entry_layout.proofs.entry.EntryRef.write.Goals as goal

pub returns : goal.returns
returns c =
    entry_written c.args.at (length c.args.self.now.block.now) _ _ c.copy_from_slice.new.self c.copy_from_slice-2.new.self c.args.bytes.now
    (viewed c.args.self.now)
    (c.copy_from_slice.ensures.after ∙ c.to_be_bytes.ensures) (omega arith) refl c.copy_from_slice-2.ensures.after (omega arith) (omega arith)
    ∙ sym (cond-true _ _ _ (and_from _ _ (le-leb _ _ c.if-length-gt-MAX_BLOCK_LENGTH.false) (le-leb _ _ (omega arith))))
