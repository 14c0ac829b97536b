use Rattle.std.proofs.Common.{◌≡◌, refl, sym, ap, ◌∙◌, Bool, not}
use denote.Param.Object.{read_made}
use Rattle.pam_session_cli.specs.Objects.{IsTime, is_fixed}
use Rattle.pam_session_cli.specs.declared.objects.Time.{Time}
use Rattle.pam_session_cli.specs.declared.objects.Time.TheVariants.{Real}
use Rattle.pam_session_cli.proofs.run_words.OwnLists.{own-1, at-1-1, own-2, at-2-1}
use Rattle.pam_session_cli.proofs.run_words.Goals as goal

-- the system's time, of which nothing is known
real_time : (kind : Time) (clock nap : Bool) → Real ≡ kind → clock ≡ is_fixed Real → nap ≡ is_fixed Real
    → IsTime kind clock nap (not (is_fixed Real))
real_time kind clock nap is fixed summed = record {
  fixed = fixed ∙ ap is_fixed is;
  summed = summed ∙ ap is_fixed is;
  told = ap (λ k. not (is_fixed k)) is;
}

pub run_in_time-requires : goal.run_in_time-requires
run_in_time-requires c = record {
  time = real_time _ _ _ (sym c.in-Real.is ∙ ap (λ o. o.time) c.objects_of.ensures)
      (read_made own-1 _ at-1-1 refl Bool (λ j w. j.1.clock_tells w) _ _ _ c.into_dyn_box.ensures.1)
      (read_made own-2 _ at-2-1 refl Bool (λ j w. j.1.nap_tells w) _ _ _ c.into_dyn_box-in_ok-new-in-Real-2.ensures.1);
}
