use Rattle.std.proofs.Common.{◌∙◌, inl, inr, [], Err, refl, sym, append-nil}
use Rattle.record_reader.specs.declared.ending.Stop.TheVariants.{NoMemory}
use Rattle.cmd_all.proofs.Alone.{nothing_written}
use Rattle.cmd_all.proofs.CleanupRecordFacts.{cleaned_at, nothing_since}
use Rattle.cmd_all.proofs.RunStatusFacts.{begun, both_left, both_right, both_true, reports_as}
use Rattle.cmd_all.proofs.stream.run_under.Goals as goal

pub returns-in-Err-clause-under : goal.returns-in-Err-clause-under
returns-in-Err-clause-under g c = record {
  told = λ number given source sink both. inr (refl, record { world = c.in-Err.ensures.stays; source = refl; sink = refl });
  complete = λ source. c.ends.ensures.complete.stopped NoMemory _ _ _ _ _ refl;
  reads = λ source. inr (refl, refl);
  writes = λ sink. nothing_written _;
  source_faults = tt;
  sink_faults = refl;
  source_tells = refl;
  sink_tells = refl;
  world_tells = c.library_under.ensures.tells;
  cleaned_up = nothing_since _ _ _ _ c.in-Err.ensures.stays c.requires.no_births c.requires.no_receipts;
}

pub returns-in-Ok-clause-under : goal.returns-in-Ok-clause-under
returns-in-Ok-clause-under g c = record {
  told = λ number given source sink both. inl
      (begun _ _ _ _ _ _ _ _ _ _ _ _ _ number refl refl c.in-Ok.ensures.opened (c.reset_clock.ensures.told (c.library_under.ensures.tells ∙ both_left _ _ both))
      (c.run_stream-result.ensures.ran.told (both_left _ _ (both_right _ _ both)) number (c.in-Ok.ensures.opened.gives number given)
      (both_true _ _ (c.in-Ok.ensures.opened.tells (both_right _ _ (both_right _ _ both)))
      (c.reset_clock.ensures.tells ∙ c.library_under.ensures.tells ∙ both_left _ _ both)) source sink));
  complete = c.run_stream-result.ensures.ran.complete;
  reads = λ source. inl (c.run_stream-result.ensures.ran.reads source);
  writes = c.run_stream-result.ensures.ran.writes;
  source_faults = c.run_stream-result.ensures.ran.source_faults;
  sink_faults = c.run_stream-result.ensures.ran.sink_faults;
  source_tells = c.run_stream-result.ensures.ran.source_tells;
  sink_tells = c.run_stream-result.ensures.ran.sink_tells;
  world_tells = c.run_stream-result.ensures.ran.went.world_tells ∙ c.reset_clock.ensures.tells ∙ c.library_under.ensures.tells;
  cleaned_up = cleaned_at _ _ (λ number status is. is) _ _ _ _ _ _ (c.proceeding_adds_events.ensures _) c.in-Ok.ensures.opened refl refl
      c.reset_clock.ensures.process c.run_stream-result.ensures.ran.went c.run_stream-result.ensures.ran.none_open;
}

pub returns-in-Err-clause-reports : goal.returns-in-Err-clause-reports
returns-in-Err-clause-reports g c = λ sink. record {
  served = Err NoMemory;
  middle = [];
  between = _;
  calls = record { made = []; middle = _; are_made = refl; part = []; written = sym (append-nil _); to = inl refl };
  goes_on = (refl, refl);
}

pub returns-in-Ok-clause-reports : goal.returns-in-Ok-clause-reports
returns-in-Ok-clause-reports g c = λ sink.
    reports_as _ _ _ _ _ _ _ c.in-Ok.ensures.opened.players _ _ c.in-Ok.ensures.opened.slots (c.run_stream-result.ensures.reports sink)
