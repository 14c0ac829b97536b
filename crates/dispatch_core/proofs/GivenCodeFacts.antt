-- The return codes that a pass was given.
use Rattle.std.proofs.Common.{◌≡◌, ℕ, List, [], ◌++◌, take, drop, sym, ◌∙◌, ap, append-nil}
use Rattle.std.proofs.lemmas.List.{take-append-drop}
use Rattle.pam_base.specs.declared.code.Code.{Code}
use Rattle.dispatch_core.specs.AnswersSoFar.{AnswersView}

abbrev view_of : List Code → ℕ → ℕ → AnswersView
view_of answers used room = record { taken = take used answers; past = drop used answers; room = room }

-- if no earlier code is left, all of them were taken
pub all_taken : (answers : List Code) (used room : ℕ) (given : AnswersView) → view_of answers used room ≡ given → given.past ≡ [] → answers ≡ given.taken
all_taken answers used room given is none =
    let past : drop used answers ≡ [] = ap (λ (g : AnswersView). g.past) is ∙ none in
    sym (take-append-drop used answers) ∙ ap (λ (xs : List Code). take used answers ++ xs) past ∙ append-nil (take used answers) ∙ ap (λ (g : AnswersView). g.taken) is
