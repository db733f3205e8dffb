use Rattle.command_table.proofs.Tables.{adds_after, reads_itself}
use Rattle.command_table.proofs.parser.with_workers.Goals as goal

pub returns : goal.returns
returns c =
    let workers = adds_after c.args.parser _ _ _ _ _ c.with_arg-parser.ensures c.number-workers.ensures (reads_itself c.args.parser) in
    let shards = adds_after c.args.parser _ _ _ _ _ c.with_arg-parser-2.ensures c.number-shards.ensures workers in
    adds_after c.args.parser _ _ _ _ _ c.with_arg.ensures c.choice.ensures shards
