use Rattle.std.proofs.Common.{rules, arith, ◌≡◌, length, option_map, vec_len, sym, ◌∙◌}
use Rattle.std.proofs.lemmas.Grind.{common_steps}
use Rattle.front_conv.proofs.RepliesOnlyFacts.{added_one, kept_on, never, none_in, nothing, still, told_ended, told_never, told_ok}
use Rattle.front_conv.proofs.conv.FrontConv.converse.Goals as goal

pub invariant_of-self-in-Ok-1 : goal.invariant_of-self-in-Ok-1
invariant_of-self-in-Ok-1 g c = kept_on g.F.FrontEnd.front_tells g.F.FrontEnd.incoming _ c.self.inside.front _ (option_map (λ s. s.value) c.self.inside.lost)
    (still g.F.FrontEnd.front_tells g.F.FrontEnd.incoming _ _ _ _ c.exchange.ensures.tells c.in-Ok.ensures.taken) c.self.invariant

pub returns-in-Ok-clause-told : goal.returns-in-Ok-clause-told
returns-in-Ok-clause-told g c =
    let none = nothing (λ s. s.value) c.self.inside.lost c.is_some.result c.is_some.ensures c.if-is_some.false in
    let added = added_one (λ s. s.value) c.self.inside.handed.items _ _ c.of.result c.items.result.now (rw c.unwrap.ensures at c.push.ensures.items) c.reserve.ensures.items (c.of.ensures ∙ sym c.items.ensures) in
    rw (sym c.self.view_is, sym c.items.ensures) (told_ok g.F.FrontEnd.front_tells g.F.FrontEnd.incoming _ _ _ _ _ _ _ _ _ none c.self.invariant c.in-Ok.ensures.replies c.in-Ok.ensures.taken added)

pub invariant_of-self-then-not-loses_replies : goal.invariant_of-self-then-not-loses_replies
invariant_of-self-then-not-loses_replies g c = kept_on g.F.FrontEnd.front_tells g.F.FrontEnd.incoming _ c.self.inside.front _ (option_map (λ s. s.value) c.self.inside.lost)
    (λ m. absurd (never g.F.FrontEnd.front_tells g.F.FrontEnd.incoming c.in-Err.cause _ _ _ (sym c.loses_replies.ensures ∙ c.if-not-loses_replies.true) c.in-Err.ensures.steady c.in-Err.ensures.taken m))
    c.self.invariant

pub returns-then-not-loses_replies-clause-told : goal.returns-then-not-loses_replies-clause-told
returns-then-not-loses_replies-clause-told g c =
    let none = nothing (λ s. s.value) c.self.inside.lost c.is_some.result c.is_some.ensures c.if-is_some.false in
    rw (sym c.self.view_is) (told_never g.F.FrontEnd.front_tells g.F.FrontEnd.incoming _ c.in-Err.cause _ _ _ _ _ none c.self.invariant
    (sym c.loses_replies.ensures ∙ c.if-not-loses_replies.true) c.in-Err.ensures.steady c.in-Err.ensures.taken)

pub returns-in-Ended-clause-told : goal.returns-in-Ended-clause-told
returns-in-Ended-clause-told g c =
    let none = nothing (λ s. s.value) c.self.inside.lost c.is_some.result c.is_some.ensures c.if-is_some.false in
    let many : vec_len c.self.inside.offered ≡ length c.self.inside.offered.items = first_of (search rules, omega (arith, c.self.inside.offered.ok), grind (arith, common_steps)) in
    let empty = none_in (λ s. s.value) c.self.inside.offered.items _ c.is_empty.result c.is_empty.ensures c.if-is_empty.true many in
    let added = added_one (λ s. s.value) c.self.inside.handed.items _ _ c.of-in-Ended.result c.items.result.now (rw c.unwrap-in-Ended.ensures at c.push-in-Ended.ensures.items) c.reserve.ensures.items (c.of-in-Ended.ensures ∙ sym c.items.ensures) in
    rw (sym c.self.view_is, c.of-before.ensures, sym c.items.ensures) (told_ended g.F.FrontEnd.front_tells g.F.FrontEnd.incoming _ _ _ _ _ _ _ _ none c.self.invariant empty (rw c.in-Ended.is at c.in-Err.ensures.taken) added)
