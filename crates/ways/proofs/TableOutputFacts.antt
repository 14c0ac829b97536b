-- What is written by a table, or because there is none.
use Rattle.std.proofs.Common.{◌≡◌, ℕ, List, [], Result, Ok, Err, refl, sym, ◌∙◌, ap, subst, string_bytes}
use Rattle.std.specs.Prelude.{IfOk}
use Rattle.service_load.specs.Stacks.{Stacks}
use Rattle.explain_lines.specs.Origins.{Sources}
use Rattle.module_table.specs.declared.entry.Entry.{Entry}
use Rattle.module_table.specs.declared.table.TableFault.{TableFault}
use Rattle.module_table.specs.declared.table.TableFault.TheVariants.{NoMemory, Malformed}
use Rattle.module_table.specs.Tables.{Reads}
use Rattle.ways_lines.specs.Service.{ShowsService}
use Rattle.ways.specs.declared.saying.Output.{Output}
use Rattle.ways.specs.Said.{IsWithoutTable, IsWritten, One, TellsBy, malformed_written, written}

pub tells_by_table : {E : Type 0} (r : Result Output E) (entries table : List Entry) (meant : Result (List Entry) (List ℕ)) (service : List ℕ) (stacks : Stacks)
    (sources : Sources) → meant ≡ Ok entries → table ≡ entries → IfOk r (λ e. e.status ≡ 0)
    → IfOk r (λ e. ShowsService service stacks sources table [] (string_bytes e.text))
    → IfOk r (λ e. One (λ w. IsWritten e w) (TellsBy meant service stacks sources))
tells_by_table (Ok e) entries table meant service stacks sources is same status shows =
    let by : meant ≡ Ok table = is ∙ ap (λ (t : List Entry). Ok t) (sym same) in
    record {
      one = written 0 (string_bytes e.text);
      may = subst (λ (m : Result (List Entry) (List ℕ)). TellsBy m service stacks sources (written 0 (string_bytes e.text))) (sym by) (refl, shows);
      holds = record { status = status; text = refl };
    }
tells_by_table (Err x) entries table meant service stacks sources is same status shows = tt

pub tells_without : {E : Type 0} (r : Result Output E) (fault : TableFault) (meant : Result (List Entry) (List ℕ)) (service : List ℕ) (stacks : Stacks)
    (sources : Sources) → Reads (Err fault) meant → IfOk r (λ e. IsWithoutTable e fault)
    → IfOk r (λ e. One (λ w. IsWritten e w) (TellsBy meant service stacks sources))
tells_without (Ok e) (Malformed line) meant service stacks sources is shows =
    record {
      one = malformed_written line.now;
      may = subst (λ (m : Result (List Entry) (List ℕ)). TellsBy m service stacks sources (malformed_written line.now)) (sym is) refl;
      holds = shows;
    }
tells_without (Ok e) NoMemory meant service stacks sources is shows = absurd shows
tells_without (Err x) fault meant service stacks sources is shows = tt
