use Rattle.std.proofs.Common.{refl, sym, ap, ◌∙◌, true, false}
use denote.Param.Object.{read_made}
use Rattle.pam_room.specs.conv_port.specs.Conv.{ConvState}
use Rattle.cmd_login.specs.cmd_run.specs.pam_library.specs.Slots.{closed}
use Rattle.pam_session_cli.specs.Objects.{slot_with}
use Rattle.pam_session_cli.proofs.SlotFacts.{more}
use Rattle.pam_session_cli.proofs.run_over_files.OwnLists.{own-5, at-5-1, at-5-2, at-5-3}
use Rattle.pam_session_cli.proofs.run_over_files.Goals.{in-Awaited+in_ok-new-in-Awaited, in-Queued+in_ok-new-in-Queued}
use Rattle.pam_session_cli.proofs.run_over_files.Goals as goal

pub loop-preserved : goal.loop-preserved
loop-preserved g c = more _ _ _ _ _ _ _ _ c.in_ok-push.ensures.items
    (elim c.match-replies.branch [
      | in-Awaited+in_ok-new-in-Awaited w ↦ ap (λ b. closed ((own-5.entry b.vtable).1.conv_holds b.value)) w.conv-is
          ∙ ap closed (read_made own-5 _ at-5-2 refl ConvState (λ j v. j.1.conv_holds v) _ _ _ w.into_dyn_box-in_ok-new-in-Awaited.ensures.1
          ∙ ap (λ v. record { offers = v.offers; waits = true; handed = v.handed }) (w.in_ok-new-in-Awaited.ensures.ok ∙ w.new-in-Awaited.ensures))
          ∙ ap slot_with (sym w.in-Awaited.is ∙ ap (λ o. o.replies) c.objects_of-replies.ensures)
      | in-Queued+in_ok-new-in-Queued w ↦ ap (λ b. closed ((own-5.entry b.vtable).1.conv_holds b.value)) w.conv-is
          ∙ ap closed (read_made own-5 _ at-5-3 refl ConvState (λ j v. j.1.conv_holds v) _ _ _ w.into_dyn_box-in_ok-new-in-Queued.ensures.1
          ∙ ap (λ v. record { offers = v.offers; waits = false; handed = v.handed }) (w.in_ok-new-in-Queued.ensures.ok ∙ w.new-in-Queued.ensures))
          ∙ ap slot_with (sym w.in-Queued.is ∙ ap (λ o. o.replies) c.objects_of-replies.ensures)
    ])
    c.loop.invariant
