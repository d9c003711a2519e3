use Rattle.std.proofs.Common.{◌≡◌, ℕ, List, Option, ap, ◌∙◌, rules}
use Rattle.std.specs.Option.{option_map}
use Rattle.stores.specs.Calls.{copying}
use Rattle.entry_layout.specs.Layout.{block_at}
use Rattle.packed_log.specs.Walk.{placed}
use Rattle.packed_log.proofs.Steps.{block_at_found}
use Rattle.packed_log.proofs.log.PackedLogStore.read.Goals as goal

pub returns : goal.returns
returns c =
    let found = option_map placed c.find.result in
    let place : c.map-at.result ≡ option_map (λ p. p.0) found = search rules in
    let block = block_at_found c.args.number found c.self.invariant (rw (← c.self.view_is) at c.find.ensures) in
    rw (← c.self.view_is) (record {
      answered =
          c.read_entry.ensures.answered
          ∙ ap (λ (at : Option ℕ). copying (block_at at c.self.inside.bytes.now) c.args.buffer.now) place
          ∙ ap (λ (block : Option (List ℕ)). copying block c.args.buffer.now) block;
      unaltered = c.read_entry.ensures.unaltered;
    })
