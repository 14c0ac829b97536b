use Rattle.std.proofs.Common.{refl}
use denote.Param.Object.{read_made}
use Rattle.pam_room.specs.Module.{Player}
use Rattle.shipped_modules.proofs.Boxes.{cons}
use Rattle.pam_session_cli.proofs.run_talks.OwnLists.{own-6, at-6-1, at-6-2, at-6-3, at-6-4, at-6-5, at-6-6, at-6-7, at-6-8, at-6-9}
use Rattle.pam_session_cli.proofs.run_talks.OwnLists.{at-6-10, at-6-11, at-6-12, at-6-13, at-6-14, at-6-15}
use Rattle.pam_session_cli.proofs.run_talks.Goals as goal

pub run_desk-requires-clause-players : goal.run_desk-requires-clause-players
run_desk-requires-clause-players g c =
    rw (
      c.in_Continue-shipped_modules-shipped_modules-30.ensures.items,
      c.in_Continue-shipped_modules-shipped_modules-28.ensures.items,
      c.in_Continue-shipped_modules-shipped_modules-26.ensures.items,
      c.in_Continue-shipped_modules-shipped_modules-24.ensures.items,
      c.in_Continue-shipped_modules-shipped_modules-22.ensures.items,
      c.in_Continue-shipped_modules-shipped_modules-20.ensures.items,
      c.in_Continue-shipped_modules-shipped_modules-18.ensures.items,
      c.in_Continue-shipped_modules-shipped_modules-16.ensures.items,
      c.in_Continue-shipped_modules-shipped_modules-14.ensures.items,
      c.in_Continue-shipped_modules-shipped_modules-12.ensures.items,
      c.in_Continue-shipped_modules-shipped_modules-10.ensures.items,
      c.in_Continue-shipped_modules-shipped_modules-8.ensures.items,
      c.in_Continue-shipped_modules-shipped_modules-6.ensures.items,
      c.in_Continue-shipped_modules-shipped_modules-4.ensures.items,
      c.in_Continue-shipped_modules-shipped_modules-2.ensures.items,
      c.shipped_modules-new.ensures.items,
    )
    (cons _ _ _ _ (read_made own-6 _ at-6-1 refl Player (λ j w. record { name = j.1.label w; plays = j.1.plays w; note = j.1.note w; breaks = j.1.breaks w })
    _ _ _ c.shipped_modules-into_dyn_box.ensures.1)
    (cons _ _ _ _ (read_made own-6 _ at-6-2 refl Player (λ j w. record { name = j.1.label w; plays = j.1.plays w; note = j.1.note w; breaks = j.1.breaks w })
    _ _ _ c.shipped_modules-into_dyn_box-2.ensures.1)
    (cons _ _ _ _ (read_made own-6 _ at-6-3 refl Player (λ j w. record { name = j.1.label w; plays = j.1.plays w; note = j.1.note w; breaks = j.1.breaks w })
    _ _ _ c.shipped_modules-into_dyn_box-3.ensures.1)
    (cons _ _ _ _ (read_made own-6 _ at-6-4 refl Player (λ j w. record { name = j.1.label w; plays = j.1.plays w; note = j.1.note w; breaks = j.1.breaks w })
    _ _ _ c.shipped_modules-into_dyn_box-4.ensures.1)
    (cons _ _ _ _ (read_made own-6 _ at-6-5 refl Player (λ j w. record { name = j.1.label w; plays = j.1.plays w; note = j.1.note w; breaks = j.1.breaks w })
    _ _ _ c.shipped_modules-into_dyn_box-5.ensures.1)
    (cons _ _ _ _ (read_made own-6 _ at-6-6 refl Player (λ j w. record { name = j.1.label w; plays = j.1.plays w; note = j.1.note w; breaks = j.1.breaks w })
    _ _ _ c.shipped_modules-into_dyn_box-6.ensures.1)
    (cons _ _ _ _ (read_made own-6 _ at-6-7 refl Player (λ j w. record { name = j.1.label w; plays = j.1.plays w; note = j.1.note w; breaks = j.1.breaks w })
    _ _ _ c.shipped_modules-into_dyn_box-7.ensures.1)
    (cons _ _ _ _ (read_made own-6 _ at-6-8 refl Player (λ j w. record { name = j.1.label w; plays = j.1.plays w; note = j.1.note w; breaks = j.1.breaks w })
    _ _ _ c.shipped_modules-into_dyn_box-8.ensures.1)
    (cons _ _ _ _ (read_made own-6 _ at-6-9 refl Player (λ j w. record { name = j.1.label w; plays = j.1.plays w; note = j.1.note w; breaks = j.1.breaks w })
    _ _ _ c.shipped_modules-into_dyn_box-9.ensures.1)
    (cons _ _ _ _ (read_made own-6 _ at-6-10 refl Player (λ j w. record { name = j.1.label w; plays = j.1.plays w; note = j.1.note w; breaks = j.1.breaks w })
    _ _ _ c.shipped_modules-into_dyn_box-10.ensures.1)
    (cons _ _ _ _ (read_made own-6 _ at-6-11 refl Player (λ j w. record { name = j.1.label w; plays = j.1.plays w; note = j.1.note w; breaks = j.1.breaks w })
    _ _ _ c.shipped_modules-into_dyn_box-11.ensures.1)
    (cons _ _ _ _ (read_made own-6 _ at-6-12 refl Player (λ j w. record { name = j.1.label w; plays = j.1.plays w; note = j.1.note w; breaks = j.1.breaks w })
    _ _ _ c.shipped_modules-into_dyn_box-12.ensures.1)
    (cons _ _ _ _ (read_made own-6 _ at-6-13 refl Player (λ j w. record { name = j.1.label w; plays = j.1.plays w; note = j.1.note w; breaks = j.1.breaks w })
    _ _ _ c.shipped_modules-into_dyn_box-13.ensures.1)
    (cons _ _ _ _ (read_made own-6 _ at-6-14 refl Player (λ j w. record { name = j.1.label w; plays = j.1.plays w; note = j.1.note w; breaks = j.1.breaks w })
    _ _ _ c.shipped_modules-into_dyn_box-14.ensures.1)
    (cons _ _ _ _ (read_made own-6 _ at-6-15 refl Player (λ j w. record { name = j.1.label w; plays = j.1.plays w; note = j.1.note w; breaks = j.1.breaks w })
    _ _ _ c.shipped_modules-into_dyn_box-15.ensures.1) refl)))))))))))))))
