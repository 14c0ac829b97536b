use Rattle.std.proofs.Common.{◌≡◌, ◌∙◌, length, ap, arith, rules, length-drop}
use Rattle.pam_wire.specs.declared.next.Next.TheVariants as next
use Rattle.pam_wire.specs.Stream.{FramesState, next_of}
use Rattle.pam_wire.proofs.FrameBytesFacts.{frame-fits}
use Rattle.pam_wire.proofs.IncompleteFrameFacts.{bad-no_frame, bad-not_open}
use Rattle.pam_wire.proofs.FedBytesFacts.{gave_next, gave_open}
use Rattle.pam_wire.proofs.frames.Frames.next.Goals as goal

pub returns-in-Open-clause-gave : goal.returns-in-Open-clause-gave
returns-in-Open-clause-gave c =
    let h : next_of c.args.self.now.rest ≡ next.Open = search rules in
    λ fed steps all g. (g, gave_open fed steps c.args.self.now all g h)

pub returns-in-Bad-clause-gave : goal.returns-in-Bad-clause-gave
returns-in-Bad-clause-gave c =
    let h : next_of c.args.self.now.rest ≡ next.Bad = search rules in
    let p : c.self.inside.place ≡ c.args.self.now.place = search rules in
    λ fed steps all g. (g, bad-no_frame c.args.self.now.rest h, bad-not_open c.args.self.now.rest h, p ∙ g.place)

pub returns-in-Frame-clause-fed : goal.returns-in-Frame-clause-fed
returns-in-Frame-clause-fed c =
    let h : next_of c.args.self.now.rest ≡ next.Frame c.in-Frame.step c.in-Frame.size = search rules in
    let fits = frame-fits c.args.self.now.rest c.in-Frame.step c.in-Frame.size h in
    let place = ap (λ (s : FramesState). s.place) c.skip.ensures in
    let rest = ap (λ (s : FramesState). length s.rest) c.skip.ensures in
    omega (arith, place, rest, length-drop c.in-Frame.size c.args.self.now.rest, fits)

pub returns-in-Frame-clause-gave : goal.returns-in-Frame-clause-gave
returns-in-Frame-clause-gave c =
    let h : next_of c.args.self.now.rest ≡ next.Frame c.in-Frame.step c.in-Frame.size = search rules in
    λ fed steps all g. rw c.skip.ensures (gave_next fed steps c.args.self.now c.in-Frame.step c.in-Frame.size all g h)
