use Rattle.std.proofs.Common.{◌≡◌, ◌-◌, ◌<◌, ◌≤◌, length, get_or, subst, arith}
use Rattle.pam_library.proofs.SlotContentFacts.{open_found, none_found}
use Rattle.pam_library.proofs.library.Library.is_open.Goals as goal

pub returns-in-Some : goal.returns-in-Some
returns-in-Some g c =
    open_found _ c.args.self.now.slots.items _ c.in-Some.slot.now _ (omega (arith, c.if-number-eq0.false))
    (subst (λ t. c.args.number - 1 < length t) c.deref.ensures.value c.in-Some.ensures.lookup.3.0)
    (subst (λ t. c.in-Some.slot.now ≡ get_or t (c.args.number - 1) c.in-Some.slot.now) c.deref.ensures.value c.in-Some.ensures.lookup.1)
    c.is_open.ensures

pub returns-in-None : goal.returns-in-None
returns-in-None g c =
    none_found _ c.args.self.now.slots.items _ (omega (arith, c.if-number-eq0.false))
    (subst (λ t. length t ≤ c.args.number - 1) c.deref.ensures.value (omega (arith, c.in-None.ensures.lookup)))
