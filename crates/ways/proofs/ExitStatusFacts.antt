-- What an exit status says about the arguments and about failures.
use Rattle.std.proofs.Common.{◌≡◌, ◌≢◌, ◌⊎◌, ℕ, List, [], Option, Some, None, Result, Ok, Err, inl, inr, refl, sym, ap, ◌∙◌, subst, arith}
use Rattle.std.specs.Prelude.{IfOk}
use Rattle.pam_outside.specs.Counts.{Rose, RisesIf}
use Rattle.service_load.specs.Stacks.{Stacks}
use Rattle.explain_lines.specs.Origins.{Sources}
use Rattle.module_table.specs.declared.entry.Entry.{Entry}
use Rattle.module_table.specs.Entries.{table_of}
use Rattle.ways.specs.declared.saying.Output.{Output}
use Rattle.cmd_audit.specs.declared.transcript.Transcript.{Transcript}
use Rattle.cmd_audit.specs.declared.transcript.Transcript.TheVariants.{Whole, TooLong, Unread}
use Rattle.ways.specs.Said.{IsOutputBy, IsOutputOf, IsWritten, One, Tells, TellsBy, Written}
use Rattle.cmd_audit.specs.Transcript.{is_unread}
use Rattle.ways.specs.Program.{PlainTarget, Causes, Leaves, IsOutputOfInput, IsOutputOfRead, usage_written}

module _ (input_before input_now before now : ℕ) where
  -- ---- of an output

  other_status : (place : PlainTarget) (k status : ℕ) → status ≡ k → k ≢ 2 → k ≢ 4 → k ≢ 5 → k ≢ 6 → Causes status (Some place) input_before input_now before now
  other_status place k status is not2 not4 not5 not6 = record {
    usage = λ none. absurd cc;
    no_usage = λ two. absurd (not2 (sym is ∙ two));
    unread = λ five. absurd (not5 (sym is ∙ five));
    memory = λ four. not4 (sym is ∙ four);
    unwritten = λ six. not6 (sym is ∙ six);
  }

  unread_status : (place : PlainTarget) (status : ℕ) → status ≡ 5 → Rose input_before input_now ⊎ Rose before now
      → Causes status (Some place) input_before input_now before now
  unread_status place status is cause = record {
    usage = λ none. absurd cc;
    no_usage = λ two. absurd (omega (arith, is, two));
    unread = λ five. cause;
    memory = λ four. omega (arith, is, four);
    unwritten = λ six. omega (arith, is, six);
  }

  usage_status : (status : ℕ) → status ≡ 2 → Causes status None input_before input_now before now
  usage_status status is = record {
    usage = λ none. is;
    no_usage = λ two. refl;
    unread = λ five. absurd (omega (arith, is, five));
    memory = λ four. omega (arith, is, four);
    unwritten = λ six. omega (arith, is, six);
  }

  said_status : (place : PlainTarget) (e : Output) (w : Written) (table : Result (List Entry) (List ℕ)) (service : List ℕ) (stacks : Stacks) (sources : Sources)
      → e.status ≡ w.status → TellsBy table service stacks sources w → Causes e.status (Some place) input_before input_now before now
  said_status place e w (Ok table) service stacks sources is told =
      other_status place 0 e.status (is ∙ told.0) (λ x. omega (arith, x)) (λ x. omega (arith, x)) (λ x. omega (arith, x)) (λ x. omega (arith, x))
  said_status place e w (Err line) service stacks sources is told =
      other_status place 13 e.status (is ∙ ap (λ (v : Written). v.status) told) (λ x. omega (arith, x)) (λ x. omega (arith, x)) (λ x. omega (arith, x))
      (λ x. omega (arith, x))

  stacks_status : (place : PlainTarget) (e : Output) (service text : List ℕ) (stacks : Stacks) → IsOutputBy e service stacks text before now
      → Causes e.status (Some place) input_before input_now before now
  stacks_status place e service text stacks (inl by) =
      said_status place e by.said.one (table_of text) service stacks by.sources by.said.holds.status by.said.may
  stacks_status place e service text stacks (inr failure) = unread_status place e.status failure.nothing.status (inr failure.failed)

  shown_status : (place : PlainTarget) (e : Output) (service text : List ℕ) → IsOutputOf e service text before now
      → Causes e.status (Some place) input_before input_now before now
  shown_status place e service text (inl by) = stacks_status place e service text by.0 by.1
  shown_status place e service text (inr fault) =
      other_status place 3 e.status fault.refused.status (λ e. omega (arith, e)) (λ e. omega (arith, e)) (λ e. omega (arith, e)) (λ e. omega (arith, e))

  read_status : (place : PlainTarget) (e : Output) (service : List ℕ) (report : Transcript) → RisesIf (is_unread report) input_before input_now
      → IsOutputOfRead e service report before now
      → Causes e.status (Some place) input_before input_now before now
  read_status place e service (Whole text) rises shown = shown_status place e service text shown
  read_status place e service TooLong rises shown =
      other_status place 12 e.status shown.0.status (λ e. omega (arith, e)) (λ e. omega (arith, e)) (λ e. omega (arith, e)) (λ e. omega (arith, e))
  read_status place e service Unread rises shown = unread_status place e.status shown.0.status (inl rises)

  pub asked_causes : {E : Type 0} (r : Result Output E) (words : Option PlainTarget) (service : List ℕ) (place : PlainTarget) → Some place ≡ words
      → IfOk r (λ e. IsOutputOfInput e service input_before input_now before now) → IfOk r (λ e. Causes e.status words input_before input_now before now)
  asked_causes (Ok e) words service place is shows =
      subst (λ (o : Option PlainTarget). Causes e.status o input_before input_now before now) is (read_status place e service shows.table shows.read shows.shown)
  asked_causes (Err x) words service place is shows = tt

  pub usage_causes : {E : Type 0} (r : Result Output E) (words : Option PlainTarget) → None ≡ words → IfOk r (λ e. IsWritten e usage_written)
      → IfOk r (λ e. Causes e.status words input_before input_now before now)
  usage_causes (Ok e) words none is =
      subst (λ (o : Option PlainTarget). Causes e.status o input_before input_now before now) none (usage_status e.status is.status)
  usage_causes (Err x) words none is = tt

  -- ---- of the program, whose output has this status

  module _ (result given : ℕ) (words : Option PlainTarget) (out_before out_now : ℕ) where
    pub by_usage : Leaves result given out_before out_now → Causes given words input_before input_now before now → words ≡ None
        → (result ≡ 2) ⊎ ((result ≡ 4) ⊎ (result ≡ 6))
    by_usage (inl same) causes none = inl (same.0 ∙ causes.usage none)
    by_usage (inr failed) causes none = inr (inr failed.0)

    pub by_no_usage : Leaves result given out_before out_now → Causes given words input_before input_now before now → result ≡ 2 → words ≡ None
    by_no_usage (inl same) causes two = causes.no_usage (sym same.0 ∙ two)
    by_no_usage (inr failed) causes two = absurd (omega (arith, failed.0, two))

    pub by_unread : Leaves result given out_before out_now → Causes given words input_before input_now before now → result ≡ 5
        → Rose input_before input_now ⊎ Rose before now
    by_unread (inl same) causes five = causes.unread (sym same.0 ∙ five)
    by_unread (inr failed) causes five = absurd (omega (arith, failed.0, five))

    pub by_write_fault : Leaves result given out_before out_now → Causes given words input_before input_now before now → result ≡ 6 → Rose out_before out_now
    by_write_fault (inl same) causes six = absurd (causes.unwritten (sym same.0 ∙ six))
    by_write_fault (inr failed) causes six = failed.1

pub by_no_write_fault : (result given out_before out_now : ℕ) → Leaves result given out_before out_now → result ≢ 6 → out_now ≡ out_before
by_no_write_fault result given out_before out_now (inl same) not6 = same.1
by_no_write_fault result given out_before out_now (inr failed) not6 = absurd (not6 failed.0)
