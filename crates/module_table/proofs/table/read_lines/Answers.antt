use Rattle.std.proofs.Common.{rules, ◌≡◌, ◌++◌, ◌∷◌, [], false, None, Some, Option}
use Rattle.module_table.specs.declared.entry.Entry.{Entry}
use Rattle.module_table.specs.Entries.{entries_in, entry_in, is_note}
use Rattle.module_table.proofs.TableLineFacts.{at_bad, ended, gone_on}
use Rattle.module_table.proofs.table.read_lines.Goals as goal

pub loop-line-preserved-in-Continue-branch-3 : goal.loop-line-preserved-in-Continue-branch-3
loop-line-preserved-in-Continue-branch-3 c =
    let note : is_note c.in-Some.line.now ≡ false = search rules in
    let found : entry_in c.in-Some.line.now ≡ Some c.in-Some-2.entry = search rules in
    let added : c.push.new.self ≡ c.loop-line.table ++ c.in-Some-2.entry ∷ [] = search rules in
    gone_on c.loop-line.lines c.loop-line.table _ c.loop-line.invariant c.next_line.new.self c.in-Some.line.now c.in-Some.ensures.line c.in-Some.ensures.left
    note c.in-Some-2.entry _ found added

pub returns-in-None : goal.returns-in-None
returns-in-None c =
    let note : is_note c.in-Some.line.now ≡ false = search rules in
    let none : ◌≡◌ {A = Option Entry} (entry_in c.in-Some.line.now) None = search rules in
    at_bad c.loop-line.lines c.loop-line.table _ c.loop-line.invariant c.next_line.new.self c.in-Some.line.now c.in-Some.ensures.line c.in-Some.ensures.left
    note none

pub returns : goal.returns
returns c = ended _ _ _ c.loop-line.invariant c.in_default.ensures.line
