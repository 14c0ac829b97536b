use Rattle.std.proofs.Common.{refl, ap, ◌∙◌, true, arith}
use Rattle.std.specs.declared.io.Stdin.{Stdin}
use Rattle.std.specs.declared.io.traits.Read.{remaining-default}
use denote.Param.Object.{read_made}
use Rattle.pam_room.specs.conv_port.specs.Conv.{ConvState}
use Rattle.cmd_check.specs.pam_library.specs.Slots.{closed}
use Rattle.front_conv.specs.Spelled.{held}
use Rattle.frame_service.proofs.FrontSlotFacts.{first, more, over, whole}
use Rattle.frame_service.proofs.streams.serve_streams.OwnLists.{own-5, at-5-1, at-5-2}
use Rattle.frame_service.proofs.streams.serve_streams.Goals as goal

pub loop-init : goal.loop-init
loop-init g c = first _ _ _ _ _ _ c.new-convs.ensures.items c.in_ok-push.ensures.items
    (ap closed (read_made own-5 _ at-5-2 refl ConvState (λ j w. j.1.conv_holds w) _ _ _ c.into_dyn_box-in_ok-new-2.ensures.1
    ∙ ap (held (λ s. remaining-default Stdin s.reader)) (c.in_ok-new-2.ensures.ok ∙ c.new-3.ensures)))

pub loop-preserved : goal.loop-preserved
loop-preserved g c = more _ _ _ _ _ _ _ c.in_ok-push-2.ensures.items
    (ap closed (read_made own-5 _ at-5-1 refl ConvState (λ j w. j.1.conv_holds w) _ _ _ c.into_dyn_box-in_ok-new-3.ensures.1
    ∙ ap (λ v. record { offers = v.offers; waits = true; handed = v.handed }) (c.in_ok-new-3.ensures.ok ∙ c.new-in-loop.ensures)))
    c.loop.invariant

pub serve_frames-requires-clause-sixteen : goal.serve_frames-requires-clause-sixteen
serve_frames-requires-clause-sixteen g c = c.loop.invariant.number ∙ grind arith

pub returns-clause-served : goal.returns-clause-served
returns-clause-served g c = over _ _ _ _ _ _ _ _ _ c.new-script.result _ c.new-out.result _ c.in_ok-status.ensures.served
    (whole _ _ _ _ 15 _ c.loop.invariant (grind arith)) c.new-script.ensures c.new-out.ensures
