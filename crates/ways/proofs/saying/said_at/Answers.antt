use Rattle.module_table.specs.Entries.{table_of}
use Rattle.service_load.specs.Trees.{stacks_of_trees}
use Rattle.ways.proofs.TableOutputFacts.{tells_by_table, tells_without}
use Rattle.ways.proofs.saying.said_at.Goals as goal

pub returns-in-Ok : goal.returns-in-Ok
returns-in-Ok c =
    tells_by_table c.listed.result c.in-Ok.entries c.items.result.now (table_of c.args.table.now) c.args.service.now (stacks_of_trees c.args.trees.now)
    c.args.sources.now c.in-Ok.ensures c.items.ensures c.listed.ensures.status c.listed.ensures.shows

pub returns-in-Err : goal.returns-in-Err
returns-in-Err c =
    tells_without c.without_table.result c.in-Err.fault (table_of c.args.table.now) c.args.service.now (stacks_of_trees c.args.trees.now) c.args.sources.now
    c.in-Err.ensures c.without_table.ensures
