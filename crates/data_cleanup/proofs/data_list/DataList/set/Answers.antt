use Rattle.std.proofs.Common.{None, Some, ap, ◌∙◌}
use Rattle.data_cleanup.proofs.Named.{held_after, named_after, none_more}
use Rattle.data_cleanup.proofs.data_list.DataList.set.Goals as goal

pub invariant_of-self-in-Some : goal.invariant_of-self-in-Some
invariant_of-self-in-Some c =
    let set = rw c.in-Some.ensures at c.insert.ensures.entries in
    named_after c.self.inside.live.entries c.reserve.new.self.entries c.insert.new.self.entries c.in_ok-key.key c.in_ok-datum.datum c.args.name.now
    c.self.invariant c.in_ok-reserve.ensures.entries c.in_ok-key.ensures.items (ap (λ d. d.name) c.in_ok-datum.ensures.datum) set c.insert.ensures.unique

pub invariant_of-self-in_default : goal.invariant_of-self-in_default
invariant_of-self-in_default c =
    let set = rw c.in_default.ensures at c.insert.ensures.entries in
    named_after c.self.inside.live.entries c.reserve.new.self.entries c.insert.new.self.entries c.in_ok-key.key c.in_ok-datum.datum c.args.name.now
    c.self.invariant c.in_ok-reserve.ensures.entries c.in_ok-key.ensures.items (ap (λ d. d.name) c.in_ok-datum.ensures.datum) set c.insert.ensures.unique

pub returns-in-Some-clause-held : goal.returns-in-Some-clause-held
returns-in-Some-clause-held c =
    let set = rw c.in-Some.ensures at c.insert.ensures.entries in
    let old = rw c.in-Some.ensures at c.insert.ensures.old in
    let pushed = rw (c.unwrap-in-Some.ensures, c.in_ok-reserve-2.ensures.items) at c.push_back.ensures.items in
    rw (← c.self.view_is, ← c.in_ok-datum.ensures.datum) (held_after c.self.inside.handle c.self.inside.live.entries c.reserve.new.self.entries c.insert.new.self.entries c.in_ok-key.key c.in_ok-datum.datum c.args.name.now
    c.self.inside.gone.items c.push_back.new.self.items (Some c.in-Some.old)
    c.self.invariant c.in_ok-reserve.ensures.entries c.in_ok-key.ensures.items (ap (λ d. d.name) c.in_ok-datum.ensures.datum) set old pushed)

pub returns-in_default-clause-held : goal.returns-in_default-clause-held
returns-in_default-clause-held c =
    let set = rw c.in_default.ensures at c.insert.ensures.entries in
    let old = rw c.in_default.ensures at c.insert.ensures.old in
    rw (← c.self.view_is, ← c.in_ok-datum.ensures.datum) (held_after c.self.inside.handle c.self.inside.live.entries c.reserve.new.self.entries c.insert.new.self.entries c.in_ok-key.key c.in_ok-datum.datum c.args.name.now
    c.self.inside.gone.items c.reserve-2.new.self.items None
    c.self.invariant c.in_ok-reserve.ensures.entries c.in_ok-key.ensures.items (ap (λ d. d.name) c.in_ok-datum.ensures.datum) set old
    (c.in_ok-reserve-2.ensures.items ∙ none_more c.self.inside.gone.items))
