use Rattle.cmd_run.proofs.items.find_item.Goals as goal

pub returns-clause-bytes : goal.returns-clause-bytes
returns-clause-bytes g c = rw c.bytes.ensures at c.are_bytes.ensures
