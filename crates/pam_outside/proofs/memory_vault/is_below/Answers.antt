use Rattle.std.proofs.Common.{◌∙◌, sym}
use Rattle.std.proofs.lemmas.Bool.Decides.{Decides-eqb}
use Rattle.std.proofs.lemmas.Slice.Eq.{strip_prefix_is}
use Rattle.pam_outside.proofs.Below.{below_rest, below_none}
use Rattle.pam_outside.proofs.memory_vault.is_below.Goals as goal

pub returns-in-Some : goal.returns-in-Some
returns-in-Some c =
    let front = rw c.in-Some.is at (strip_prefix_is Decides-eqb c.args.path.now c.args.folder.now c.strip_prefix.result c.strip_prefix.ensures.cases) in
    c.starts_with.ensures.value ∙ below_rest c.args.folder.now c.args.path.now c.in-Some.rest.now front

pub returns-in-None : goal.returns-in-None
returns-in-None c =
    let none = rw c.in-None.is at (strip_prefix_is Decides-eqb c.args.path.now c.args.folder.now c.strip_prefix.result c.strip_prefix.ensures.cases) in
    sym (below_none c.args.folder.now c.args.path.now none)
