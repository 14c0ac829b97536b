use Rattle.std.proofs.Common.{◌≡◌, cond, ◌++◌, length}
use Rattle.pam_base.specs.Parts.{parts_of}
use Rattle.account_db.specs.Replace.{changed_lines}
use Rattle.account_db.proofs.replace.with_hash.Given as goal

abbrev pub invariant-loop-line : goal.invariant-loop-line
invariant-loop-line l = l.lines ++ cond l.changed l.parts (changed_lines l.user l.hash l.day l.parts) ≡ changed_lines l.user l.hash l.day (parts_of 10 l.text)

abbrev pub decreases-loop-line : goal.decreases-loop-line
decreases-loop-line l = length l.parts
