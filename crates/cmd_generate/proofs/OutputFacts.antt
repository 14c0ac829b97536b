-- What is found and written.
use Rattle.std.proofs.Common.{◌≡◌, ℕ, List, [], Result, Ok, Err, IfOk, refl, sym, ap, ◌∙◌, append-nil, inl, inr, arith}
use Rattle.pam_base.specs.declared.fault.Failed.{Failed}
use Rattle.pam_base.specs.declared.fault.NoMemory as faults
use Rattle.pam_base.specs.declared.fault.Refuse.{Refuse}
use Rattle.pam_base.specs.declared.fault.Refuse.TheVariants as refusals
use Rattle.pam_base.specs.Code.{number_of}
use Rattle.pam_outside.specs.Streams.{SinkState, WritesWhole}
use Rattle.cmd_run.specs.record_reader.specs.declared.ending.Stop.TheVariants.{NoMemory, WriteFault}
use Rattle.service_load.specs.declared.load_fault.LoadFault.{LoadFault}
use Rattle.cmd_run.specs.Reading.{WritesScript}
use Rattle.cmd_run.specs.State.{RunState, Setting}
use Rattle.cmd_generate.specs.declared.generating.Finding.{Finding}
use Rattle.cmd_generate.specs.declared.login.Login.{Login}
use Rattle.cmd_generate.specs.Generated.{AttemptStops, Finds, FindsOrStops, Generates, Generation, IsEndOfFinding, IsFound, attempted}
use Rattle.cmd_generate.specs.Generated.{found_by, generation, text_of}
use Rattle.cmd_generate.specs.Login.{ComesTo, IsEndWith, end_status}

-- ---- what is written

pub generates_none : (g : Generation) (state : RunState) (p : SinkState) → g.stops state → Generates (Err NoMemory) g state p p
generates_none g state p stops = record {
  front = [];
  back = g.text;
  parts = refl;
  written = sym (append-nil p.written);
  all = tt;
  none = λ e. refl;
  generated = tt;
  state_is = λ other. absurd (other refl);
  stopped = λ e. stops;
  writes = omega arith;
}

pub generates_all : (finding : Finding) (g : Generation) (state : RunState) (text : List ℕ) (done : Unit {0}) (p q : SinkState) → Finds finding g state
    → text ≡ finding.text
    → WritesWhole {T = Unit {0}} (Ok done) text p q → Generates (Ok finding.generated) g state p q
generates_all finding g state text done p q f is w = record {
  front = w.front;
  back = w.back;
  parts = sym f.text ∙ sym is ∙ w.parts;
  written = w.written;
  all = w.all ∙ is ∙ f.text;
  none = λ e. absurd cc;
  generated = f.generated;
  state_is = λ other. f.state_is;
  stopped = λ e. absurd cc;
  writes = w.calls;
}

pub generates_cut : (finding : Finding) (g : Generation) (state : RunState) (text : List ℕ) (failed : Failed) (p q : SinkState) → Finds finding g state
    → text ≡ finding.text
    → WritesWhole {T = Unit {0}} (Err failed) text p q → Generates (Err WriteFault) g state p q
generates_cut finding g state text failed p q f is w = record {
  front = w.front;
  back = w.back;
  parts = sym f.text ∙ sym is ∙ w.parts;
  written = w.written;
  all = tt;
  none = λ e. absurd cc;
  generated = tt;
  state_is = λ other. f.state_is;
  stopped = λ e. absurd cc;
  writes = w.calls;
}

-- how often the sink is called, whatever was found
pub writes_none : (p : SinkState) → WritesScript p p
writes_none p = record { text = []; written = sym (append-nil p.written); calls = omega arith }

pub writes_front : {T : Type 0} (result : Result T Failed) (text : List ℕ) (p q : SinkState) → WritesWhole result text p q → WritesScript p q
writes_front result text p q w = record { text = w.front; written = w.written; calls = w.calls }

-- ---- what is found

pub finds : (setting : Setting) (seed lines : ℕ) (s state : RunState) (login : Result Login (Refuse LoadFault)) (result : Result Finding faults.NoMemory)
    → IfOk result (λ (f : Finding). IsFound f lines login) → ComesTo login (attempted setting seed lines s) (AttemptStops setting seed lines s) state
    → FindsOrStops result (generation setting seed lines s) state
unfolding generation
finds setting seed lines s state (Ok login) (Ok f) is comes = record {
  generated = is.0 ∙ sym (ap found_by comes.0);
  text = is.1 ∙ sym (ap (text_of lines) comes.0);
  state_is = comes.1;
}
finds setting seed lines s state (Err (refusals.Named fault)) (Ok f) is comes = record {
  generated = is.0 ∙ sym (ap found_by comes.0);
  text = is.1 ∙ sym (ap (text_of lines) comes.0);
  state_is = comes.1;
}
finds setting seed lines s state (Err refusals.NoMemory) (Ok f) is comes = absurd is
finds setting seed lines s state (Ok login) (Err none) is comes = inr comes.1
finds setting seed lines s state (Err (refusals.Named fault)) (Err none) is comes = inr comes.1
finds setting seed lines s state (Err refusals.NoMemory) (Err none) is comes = inl comes

-- the ends, depending on what is found
pub ends_by : (lines : ℕ) (login : Result Login (Refuse LoadFault)) (result : Result Finding faults.NoMemory)
    → IfOk result (λ (f : Finding). IsFound f lines login)
    → (number status : ℕ) → IsEndWith (number_of (end_status login)) number status → IsEndOfFinding result number status
ends_by lines (Ok login) (Ok f) is number status e = e
ends_by lines (Err (refusals.Named fault)) (Ok f) is number status e = e
ends_by lines (Err refusals.NoMemory) (Ok f) is number status e = absurd is
ends_by lines (Ok login) (Err none) is number status e = (e.0, inl e.1)
ends_by lines (Err (refusals.Named fault)) (Err none) is number status e = (e.0, inl e.1)
ends_by lines (Err refusals.NoMemory) (Err none) is number status e = (e.0, inr e.1)
