use Rattle.std.proofs.Common.{◌∙◌, rules, nat_cmp}
use Rattle.std.specs.Cmp.Lexicographic.{slice_cmp}
use Rattle.std.proofs.lemmas.Fn.{always_returns_same}
use Rattle.mod_lists.proofs.Ordered.{found}
use Rattle.mod_lists.proofs.pam_listfile.has_text.Goals as goal

pub returns : goal.returns
returns c =
    let answers = always_returns_same _ _ _ (λ a r g called. search rules) in
    c.is_ok.ensures.value ∙ found c.args.texts.now c.args.text.now c.binary_search_by.result c.requires c.binary_search_by.ensures.bound
    (c.binary_search_by.ensures.position (λ v. slice_cmp nat_cmp v c.args.text.now) answers)
