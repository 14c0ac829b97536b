use Rattle.std.proofs.Common.{◌≡◌, length}
use Rattle.std.specs.List.{filter_map, find}
use Rattle.std.specs.Str.{bytes_eq}
use Rattle.pam_base.specs.Lines.{lines_of}
use Rattle.account_db.specs.Entries.{entry_in}
use Rattle.account_db.proofs.entry.entry_named.Given as goal

abbrev pub invariant-loop-line : goal.invariant-loop-line
invariant-loop-line g l =
    find (λ e. bytes_eq (g.E.AccountEntry.name e) l.name) (filter_map (entry_in g.E.AccountEntry.form) (lines_of l.text))
    ≡ find (λ e. bytes_eq (g.E.AccountEntry.name e) l.name) (filter_map (entry_in g.E.AccountEntry.form) l.lines)

abbrev pub decreases-loop-line : goal.decreases-loop-line
decreases-loop-line g l = length l.lines
