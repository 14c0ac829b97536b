use Rattle.service_print.specs.Printed.{stacks_in}
use Rattle.service_print.proofs.LoadCallFacts.{load_gives, gives_load}
use Rattle.service_print.proofs.Loadable.{loadable}
use Rattle.service_print.proofs.Reloaded.{reload}
use Rattle.service_print.proofs.laws.printed_is_loaded.Goals as goal

pub returns-clause-stacks : goal.returns-clause-stacks
returns-clause-stacks c = λ stack origin origin_root once loads vault root service name holds short.
    let is = loadable c.one_reading.ensures.reading origin origin_root once stack loads in
    reload c.one_reading.ensures.only stack vault root service is.printable is.few name holds short

pub returns-clause-calls : goal.returns-clause-calls
returns-clause-calls c = λ trees origin was_read origin_root once loads again vault after root service name holds short loads_again.
    let is = loadable c.one_reading.ensures.reading origin origin_root once (stacks_in trees) (load_gives trees origin was_read origin_root once loads) in
    gives_load again vault after root service (stacks_in trees) (reload c.one_reading.ensures.only (stacks_in trees) vault root service is.printable is.few name holds short) loads_again
