use Rattle.std.proofs.Common.{List, subst, sym}
use Rattle.pam_outside.specs.Files.{File}
use Rattle.record_reader.specs.LineRun.{run_lines}
use Rattle.cmd_run.specs.Step.{line_step}
use Rattle.laws_audit.specs.Tallied.{Tallies}
use Rattle.laws_audit.proofs.FaillockLineFacts.{tallies}
use Rattle.laws_audit.proofs.tally_laws.runs_keep_recorded_failures.Goals as goal

pub returns-clause-script : goal.returns-clause-script
returns-clause-script c = λ path setting n s script alone.
    let run = c.runs_change_files_by_plays.ensures.script setting n s script in (
      run.0,
      run.1,
      tallies path setting.players alone c.recorded_failures_are_kept.ensures.one c.written_tallies_are_read.ensures.new c.recorded_failures_are_kept.ensures.all
          s.world.vault.files run.0 (run_lines (line_step setting) n s script).last.world.vault.files run.2,
    )

pub returns-clause-closings : goal.returns-clause-closings
returns-clause-closings c = λ path setting n s script status alone.
    let last = (run_lines (line_step setting) n s script).last in
    let run = c.runs_change_files_by_plays.ensures.script setting n s script in (
      run.0,
      run.1,
      subst (λ (files : List File). Tallies path setting.players s.world.vault.files run.0 files)
          (sym (c.runs_change_files_by_plays.ensures.closings setting.players status last))
          (tallies path setting.players alone c.recorded_failures_are_kept.ensures.one c.written_tallies_are_read.ensures.new c.recorded_failures_are_kept.ensures.all
          s.world.vault.files run.0 last.world.vault.files run.2),
    )
