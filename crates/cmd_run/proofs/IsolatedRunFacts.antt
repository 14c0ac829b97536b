-- A run of a script, and the run of the script of one number alone.
use Rattle.std.proofs.Common.{◌≡◌, ℕ, ◌+◌, Bool, true, false, not, nat_eq, if◌then◌else◌, List, [], ◌∷◌, ◌++◌, map, drop, length, slice_get}
use Rattle.std.proofs.Common.{Option, Some, None, Result, Ok, Err, refl, sym, ap, ◌∙◌, subst, arith}
use Rattle.std.proofs.Math.Path.{fun_ext}
use Rattle.std.proofs.lemmas.Bool.{ltb-true}
use Rattle.std.proofs.lemmas.Bool.Decides.{nat_tests}
use Rattle.report_step.specs.report_lines.specs.Line.{number_words}
use Rattle.std.specs.List.{flat_map}
use Rattle.std.specs.Prelude.{nat_le, nat_lt}
use Rattle.pam_base.specs.declared.code.Code.{Code}
use Rattle.pam_base.specs.declared.call.Step.{Step}
use Rattle.pam_base.specs.declared.fault.ScriptKind.{ScriptKind}
use Rattle.pam_base.specs.declared.fault.ScriptKind.TheVariants.{LineTooLong, TooManyLines}
use Rattle.data_cleanup.specs.declared.datum.Birth.{Birth}
use Rattle.data_cleanup.specs.declared.receipt.Filed.{Filed}
use Rattle.data_cleanup.specs.declared.receipt.Receipt.{Receipt}
use Rattle.report_step.specs.dispatch_core.specs.Lines.{names_of}
use Rattle.pam_outside.specs.Time.{ClockState, Time, time_of}
use Rattle.report_step.specs.pam_room.specs.Module.{Player}
use Rattle.report_step.specs.pam_room.specs.State.{PlainWorld}
use Rattle.report_step.specs.pam_library.specs.Alike.{AreAlike, Cleaned, ComeToSame, Shown, cleaned_as, cleaned_after, cleaned_by, shown_to, told_in}
use Rattle.report_step.specs.pam_library.specs.Outcome.{PlainOutcome}
use Rattle.report_step.specs.pam_library.specs.Slots.{PlainSlot}
use Rattle.report_step.specs.pam_library.specs.Step.{Stepped, stepped}
use Rattle.script_lang.specs.Command.{word_of_call}
use Rattle.script_lang.specs.declared.line.Line.{Line}
use Rattle.script_lang.specs.declared.line.Line.TheVariants as lines
use Rattle.script_lang.specs.Line.{parsed}
use Rattle.record_reader.specs.Run.{after, run_items, with_text}
use Rattle.record_reader.specs.LineRun.{Run, run_lines, step_at}
use Rattle.report_step.specs.Answered.{answer_text}
use Rattle.report_step.specs.Cleaned.{receipt_text}
use Rattle.report_step.specs.Missing.{all_missing_text}
use Rattle.report_step.specs.Said.{messages_text}
use Rattle.report_step.specs.Visited.{visits_text}
use Rattle.report_step.specs.Waited.{waited_text}
use Rattle.cmd_run.specs.Isolation.{MadeStep, FilesStay, IsQuietStart, LeaveFiles, alone, steps_among, steps_then, made_steps, made_step}
use Rattle.cmd_run.specs.Isolation.{filed_text_with, is_on, is_on_another, line_alone, receipt_text_with, step_in, step_text_with, text_of}
use Rattle.cmd_run.specs.Isolation.{text_without_ids, texts_among}
use Rattle.cmd_run.specs.State.{RunState, Setting, kept_at, state_of}
use Rattle.cmd_run.specs.Time.{kept_moment}
use Rattle.cmd_run.specs.Step.{applied, applied_or_refused, line_step}
use Rattle.cmd_run.proofs.ItemEffectFacts.{long_line}

-- ---- the law on calls that is cited

abbrev pub OwnCalls : Type 0
OwnCalls = (players : List Player) (number_of : Code → ℕ → ℕ) (step : Step) (slots others : List PlainSlot) (w v : PlainWorld) →
    AreAlike step.number slots w others v →
    ComeToSame step.number (stepped players number_of slots w step) (stepped players number_of others v step)

abbrev pub OtherCalls : Type 0
OtherCalls = (players : List Player) (number_of : Code → ℕ → ℕ) (number : ℕ) (step : Step) (slots others : List PlainSlot) (w v : PlainWorld) →
    nat_eq step.number number ≡ false → AreAlike number slots w others v →
    (stepped players number_of slots w step).world.vault.files ≡ w.vault.files →
    AreAlike number (stepped players number_of slots w step).slots (stepped players number_of slots w step).world others v

-- ---- lines

-- what a line does, depending on whether it is one too many
abbrev counted : {A : Type 0} → Bool → Result A ScriptKind → Result A ScriptKind
counted many r = if many then Err TooManyLines else r

alone_as : ℕ → Result Line ScriptKind → Result Line ScriptKind
alone_as number p = if is_on_another number (step_in p) then Ok lines.Blank else p

parsed_alone : (number : ℕ) (l : List ℕ) → parsed (line_alone number l) ≡ alone_as number (parsed l)
unfolding alone_as
parsed_alone number l = elim (is_on_another number (step_in (parsed l))) as
    (λ (b : Bool). parsed (if b then [] else l) ≡ (if b then Ok lines.Blank else parsed l)) [
      | true ↦ refl
      | false ↦ refl
    ]

-- what the results of both runs have in common
pub record Seen : Type 0 where
  pub step : Step
  pub told : PlainOutcome
  pub cleaned : List Cleaned

abbrev pub seen : MadeStep → Seen
seen c = record { step = c.step; told = told_in c.outcome; cleaned = cleaned_after c.outcome.filed_from c.ledger }

module _ (setting : Setting) where
  by_length : (b : Bool) (n : ℕ) (s : RunState) (line : List ℕ) → nat_lt 513 (length line) ≡ b
      → (if b then Err LineTooLong else line_step setting n s line) ≡ applied_or_refused setting (kept_at setting n s) (parsed line)
  unfolding line_step
  by_length true n s line e = sym (ap (applied_or_refused setting (kept_at setting n s)) (long_line line (ltb-true 513 (length line) e)))
  by_length false n s line e = refl

  step_is : (n : ℕ) (s : RunState) (line : List ℕ)
      → step_at (line_step setting) n s line ≡ counted (nat_le 65536 n) (applied_or_refused setting (kept_at setting n s) (parsed line))
  unfolding step_at
  step_is n s line = ap (λ (r : Result (RunState × List ℕ) ScriptKind). counted (nat_le 65536 n) r) (by_length (nat_lt 513 (length line)) n s line refl)

  module _ (number : ℕ) where
    abbrev pub Alike : RunState → RunState → Type 0
    Alike s t = AreAlike number s.slots s.world t.slots t.world

    pub record GoAlike (cs ds : List MadeStep) (r q : Run RunState) : Type 0 where
      pub came : map seen cs ≡ map seen ds
      pub last : Alike r.last q.last
      pub lines : r.items ≡ q.items
      pub refused : r.refused ≡ q.refused

    -- ---- one line, and what follows it

    abbrev line_came : Bool → RunState → Result Line ScriptKind → (RunState → List MadeStep) → List MadeStep
    line_came many s p next = steps_then (counted many (applied_or_refused setting s p)) (λ text. made_steps setting number s (step_in p)) next

    abbrev line_run : Bool → ℕ → RunState → RunState → Result Line ScriptKind → (RunState → Run RunState) → Run RunState
    line_run many n before s p next = after n before (counted many (applied_or_refused setting s p)) next

    abbrev LineStays : Bool → RunState → Result Line ScriptKind → (RunState → Type 0) → Type 0
    LineStays many s p Next = FilesStay (counted many (applied_or_refused setting s p)) (is_on_another number (step_in p)) s Next

    set_twins : (clock : ClockState → ClockState) (time : Time → Time) → ((c : ClockState) → time_of (clock c) ≡ time (time_of c)) → (caller : ℕ → ℕ)
        (s t : RunState) → Alike s t →
        Alike (state_of s.slots (record s.world { clock = clock s.world.clock; process = record s.world.process { caller = caller s.world.process.caller } }))
        (state_of t.slots (record t.world { clock = clock t.world.clock; process = record t.world.process { caller = caller t.world.process.caller } }))
    set_twins clock time agrees caller s t h = record {
      place = h.place;
      shown =
          ap (λ (x : Time). record (shown_to number s.world) { clock = x; caller = caller s.world.process.caller }) (agrees s.world.clock)
          ∙ ap (λ (x : Shown). record x { clock = time x.clock; caller = caller x.caller }) h.shown
          ∙ sym (ap (λ (x : Time). record (shown_to number t.world) { clock = x; caller = caller t.world.process.caller }) (agrees t.world.clock));
      first_order = h.first_order;
      second_order = h.second_order;
      first_quiet = h.first_quiet;
      second_quiet = h.second_quiet;
    }

    -- the clock is set before a line, in both
    kept_alike : (n : ℕ) (s t : RunState) → Alike s t → Alike (kept_at setting n s) (kept_at setting n t)
    kept_alike n s t h =
        let now : ℕ → ℕ = kept_moment (setting.moments n) in
        set_twins (λ (c : ClockState). record c { moment = now c.moment }) (λ (x : Time). record x { moment = now x.moment }) (λ c. refl) (λ (c : ℕ). c) s t h

    stays_kept : (r : Result (RunState × List ℕ) ScriptKind) (another : Bool) (n : ℕ) (s : RunState) (Next : RunState → Type 0) → FilesStay r another s Next
        → FilesStay r another (kept_at setting n s) Next
    stays_kept (Ok x) another n s Next h = h
    stays_kept (Err kind) another n s Next h = h

    module _ (own : OwnCalls) (other : OtherCalls) (n : ℕ) (f g : RunState → List MadeStep) (u v : RunState → Run RunState) (Next : RunState → Type 0)
        (more : (x y : RunState) → Alike x y → Next x → GoAlike (f x) (g y) (u x) (v y)) where
      -- a line that reports nothing about the number
      silent : (x y : RunState) (text words : List ℕ) → Alike x y → Next x → GoAlike (f x) (g y) (with_text text (u x)) (with_text words (v y))
      silent x y text words alike stays = let m : GoAlike (f x) (g y) (u x) (v y) = more x y alike stays in
          record { came = m.came; last = m.last; lines = m.lines; refused = m.refused }

      -- a step
      step_goes : (s t0 t : RunState) (step : Step) (b : Bool) → nat_eq step.number number ≡ b → Alike s t → LineStays false s (Ok (lines.Step step)) Next →
          GoAlike
          ((if b then made_step setting s step ∷ [] else []) ++ f (applied setting s (lines.Step step)).0)
          (line_came false t (if not b then Ok lines.Blank else Ok (lines.Step step)) g)
          (with_text (applied setting s (lines.Step step)).1 (u (applied setting s (lines.Step step)).0))
          (line_run false n t0 t (if not b then Ok lines.Blank else Ok (lines.Step step)) v)
      step_goes s t0 t step true is h stays =
          let x : Stepped = stepped setting.players setting.delay s.slots s.world step in
          let y : Stepped = stepped setting.players setting.delay t.slots t.world step in
          let same : number ≡ step.number = grind (arith, nat_tests) in
          let c : ComeToSame step.number x y = own setting.players setting.delay step s.slots t.slots s.world t.world
          (subst (λ (m : ℕ). AreAlike m s.slots s.world t.slots t.world) same h) in
          let alike : AreAlike number x.slots x.world y.slots y.world = subst (λ (m : ℕ). AreAlike m x.slots x.world y.slots y.world) (sym same) c.alike in
          let m : GoAlike (f (state_of x.slots x.world)) (g (state_of y.slots y.world)) (u (state_of x.slots x.world)) (v (state_of y.slots y.world)) =
          more (state_of x.slots x.world) (state_of y.slots y.world) alike stays.1 in
          let here : seen (made_step setting s step) ≡ seen (made_step setting t step) = λ i. record { step = step; told = c.told i; cleaned = c.cleaned i } in
          let own_here : made_steps setting number t (Some step) ≡ made_step setting t step ∷ [] =
          ap (λ (b : Bool). if b then made_step setting t step ∷ [] else []) is in
          subst (λ (cs : List MadeStep). GoAlike (made_step setting s step ∷ f (state_of x.slots x.world)) (cs ++ g (state_of y.slots y.world))
          (with_text (applied setting s (lines.Step step)).1 (u (state_of x.slots x.world)))
          (with_text (applied setting t (lines.Step step)).1 (v (state_of y.slots y.world)))) (sym own_here)
          (record {
            came = λ i. here i ∷ m.came i;
            last = m.last;
            lines = m.lines;
            refused = m.refused;
          })
      step_goes s t0 t step false is h stays =
          let x : Stepped = stepped setting.players setting.delay s.slots s.world step in
          let files : x.world.vault.files ≡ s.world.vault.files = stays.0 (ap not is) in
          silent (state_of x.slots x.world) t (applied setting s (lines.Step step)).1 []
          (other setting.players setting.delay number step s.slots t.slots s.world t.world is h files) stays.1

      line_goes : (many : Bool) (s0 t0 s t : RunState) (p : Result Line ScriptKind) → Alike s0 t0 → Alike s t → LineStays many s p Next →
          GoAlike (line_came many s p f) (line_came many t (alone_as number p) g) (line_run many n s0 s p u) (line_run many n t0 t (alone_as number p) v)
      unfolding alone_as
      line_goes true s0 t0 s t p h0 h stays = record { came = refl; last = h0; lines = refl; refused = refl }
      line_goes false s0 t0 s t (Err kind) h0 h stays = record { came = refl; last = h0; lines = refl; refused = refl }
      line_goes false s0 t0 s t (Ok lines.Blank) h0 h stays = silent s t [] [] h stays.1
      line_goes false s0 t0 s t (Ok (lines.Step step)) h0 h stays = step_goes s t0 t step (nat_eq step.number number) refl h stays
      line_goes false s0 t0 s t (Ok (lines.At moment)) h0 h stays =
          silent (applied setting s (lines.At moment)).0 (applied setting t (lines.At moment)).0 [] []
          (set_twins (λ (c : ClockState). record c { moment = moment }) (λ (x : Time). record x { moment = moment }) (λ c. refl) (λ (c : ℕ). c) s
          t h) stays.1
      line_goes false s0 t0 s t (Ok (lines.Random word)) h0 h stays =
          silent (applied setting s (lines.Random word)).0 (applied setting t (lines.Random word)).0 [] []
          (set_twins (λ (c : ClockState). record c { word = word }) (λ (x : Time). record x { word = word }) (λ c. refl) (λ (c : ℕ). c) s t h) stays.1
      line_goes false s0 t0 s t (Ok (lines.Caller caller)) h0 h stays =
          silent (applied setting s (lines.Caller caller)).0 (applied setting t (lines.Caller caller)).0 [] []
          (set_twins (λ (c : ClockState). c) (λ (x : Time). x) (λ c. refl) (λ (c : ℕ). caller) s t h) stays.1

    -- ---- all lines

    module _ (own : OwnCalls) (other : OtherCalls) where
      runs_alike : (n : ℕ) (s t : RunState) (script : List (List ℕ)) → Alike s t → LeaveFiles setting number n s script →
          GoAlike (steps_among setting number n s script) (steps_among setting number n t (alone number script)) (run_lines (line_step setting) n s script)
          (run_lines (line_step setting) n t (alone number script))
      unfolding run_items
      runs_alike n s t [] h stays = record { came = refl; last = h; lines = refl; refused = refl }
      runs_alike n s t (l ∷ ls) h stays =
          let many : Bool = nat_le 65536 n in
          let p : Result Line ScriptKind = parsed l in
          let f : RunState → List MadeStep = λ x. steps_among setting number (n + 1) x ls in
          let g : RunState → List MadeStep = λ y. steps_among setting number (n + 1) y (alone number ls) in
          let u : RunState → Run RunState = λ x. run_lines (line_step setting) (n + 1) x ls in
          let v : RunState → Run RunState = λ y. run_lines (line_step setting) (n + 1) y (alone number ls) in
          let now : RunState = kept_at setting n s in
          let other_now : RunState = kept_at setting n t in
          let first : step_at (line_step setting) n s l ≡ counted many (applied_or_refused setting now p) = step_is n s l in
          let q : parsed (line_alone number l) ≡ alone_as number p = parsed_alone number l in
          let second : step_at (line_step setting) n t (line_alone number l) ≡ counted many (applied_or_refused setting other_now (alone_as number p)) =
          step_is n t (line_alone number l) ∙ ap (λ (r : Result Line ScriptKind). counted many (applied_or_refused setting other_now r)) q in
          let stays' : LineStays many now p (λ x. LeaveFiles setting number (n + 1) x ls) =
          subst (λ (r : Result (RunState × List ℕ) ScriptKind). FilesStay r (is_on_another number (step_in p)) now (λ x. LeaveFiles setting number (n + 1) x ls))
          first (stays_kept _ _ n s _ stays) in
          let main : GoAlike (line_came many now p f) (line_came many other_now (alone_as number p) g) (line_run many n s now p u) (line_run many n t other_now (alone_as number p) v) =
          line_goes own other n f g u v (λ x. LeaveFiles setting number (n + 1) x ls) (λ x y alike next. runs_alike (n + 1) x y ls alike next) many s t
          now other_now p h (kept_alike n s t h) stays' in
          let back : (a : Result (RunState × List ℕ) ScriptKind) (b : Result (RunState × List ℕ) ScriptKind) (r : Result Line ScriptKind) → Type 0 =
          λ a b r. GoAlike (steps_then a (λ text. made_steps setting number now (step_in p)) f) (steps_then b (λ text. made_steps setting number other_now (step_in r)) g)
          (after n s a u) (after n t b v) in
          subst (λ (a : Result (RunState × List ℕ) ScriptKind). back a (step_at (line_step setting) n t (line_alone number l))
          (parsed (line_alone number l))) (sym first)
          (subst (λ (r : Result Line ScriptKind). back (counted many (applied_or_refused setting now p))
          (step_at (line_step setting) n t (line_alone number l)) r) (sym q)
          (subst (λ (b : Result (RunState × List ℕ) ScriptKind). back (counted many (applied_or_refused setting now p)) b (alone_as number p)) (sym second) main))

      pub from_start : (n : ℕ) (s : RunState) (script : List (List ℕ)) → IsQuietStart s → LeaveFiles setting number n s script →
          GoAlike (steps_among setting number n s script) (steps_among setting number n s (alone number script)) (run_lines (line_step setting) n s script)
          (run_lines (line_step setting) n s (alone number script))
      from_start n s script start stays =
          runs_alike n s s script (record {
            place = refl;
            shown = refl;
            first_order = start.order;
            second_order = start.order;
            first_quiet = start.quiet;
            second_quiet = start.quiet;
          }) stays

-- ---- what follows for the runs

pub outcomes_seen : (cs ds : List MadeStep) → map seen cs ≡ map seen ds
    → map (λ (c : MadeStep). told_in c.outcome) cs ≡ map (λ (c : MadeStep). told_in c.outcome) ds
outcomes_seen cs ds same = by cs ∙ ap (map (λ (x : Seen). x.told)) same ∙ sym (by ds)
  where
    by : (cs : List MadeStep) → map (λ (c : MadeStep). told_in c.outcome) cs ≡ map (λ (x : Seen). x.told) (map seen cs)
    by [] = refl
    by (c ∷ cs) = ap (λ (os : List PlainOutcome). told_in c.outcome ∷ os) (by cs)

-- a cleanup's line, with its id left out
abbrev pub cleaned_text : ℕ → List (List ℕ) → Cleaned → List ℕ
cleaned_text handle names c = receipt_text_with (λ (id : ℕ). []) handle names (record { id = 0; status = c.status; note = c.note }) (Some c.birth)

pub cleanups_seen : (handle : ℕ) (names : List (List ℕ)) (births : List Birth) (fs : List Filed) →
    flat_map (filed_text_with (λ (id : ℕ). []) handle names births) fs ≡ flat_map (cleaned_text handle names) (flat_map (cleaned_as births) fs)
cleanups_seen handle names births [] = refl
cleanups_seen handle names births (f ∷ fs) = by (slice_get births f.receipt.id) (cleanups_seen handle names births fs)
  where
    rest : List Cleaned
    rest = flat_map (cleaned_as births) fs

    by : (found : Option Birth)
        → flat_map (filed_text_with (λ (id : ℕ). []) handle names births) fs ≡ flat_map (cleaned_text handle names) (flat_map (cleaned_as births) fs) →
        receipt_text_with (λ (id : ℕ). []) handle names f.receipt found ++ flat_map (filed_text_with (λ (id : ℕ). []) handle names births) fs
        ≡ flat_map (cleaned_text handle names) (cleaned_by found f.receipt ++ flat_map (cleaned_as births) fs)
    by None same = same
    by (Some b) same = ap (λ (text : List ℕ). receipt_text_with (λ (id : ℕ). []) handle names f.receipt (Some b) ++ text) same

abbrev seen_text : List (List ℕ) → Seen → List ℕ
seen_text names x =
    messages_text x.step.number x.told.said
    ++ (visits_text x.step.number x.told.trail
    ++ (flat_map (cleaned_text x.step.number names) x.cleaned
    ++ (waited_text x.step.number x.told.wait
    ++ (all_missing_text x.step.number x.told.missing
    ++ answer_text x.step.number (word_of_call x.step.call) x.told.answer))))

text_seen : (names : List (List ℕ)) (c : MadeStep) → text_without_ids names c ≡ seen_text names (seen c)
text_seen names c =
    ap (λ (text : List ℕ).
    messages_text c.step.number c.outcome.said
    ++ (visits_text c.step.number c.outcome.trail
    ++ (text
    ++ (waited_text c.step.number c.outcome.wait
    ++ (all_missing_text c.step.number c.outcome.missing
    ++ answer_text c.step.number (word_of_call c.step.call) c.outcome.answer)))))
    (cleanups_seen c.step.number names c.ledger.births (drop c.outcome.filed_from c.ledger.filed))

pub report_seen : (names : List (List ℕ)) (cs ds : List MadeStep) → map seen cs ≡ map seen ds
    → map (text_without_ids names) cs ≡ map (text_without_ids names) ds
report_seen names cs ds same = by cs ∙ ap (map (seen_text names)) same ∙ sym (by ds)
  where
    by : (cs : List MadeStep) → map (text_without_ids names) cs ≡ map (seen_text names) (map seen cs)
    by [] = refl
    by (c ∷ cs) =
        let here : text_without_ids names c ≡ seen_text names (seen c) = text_seen names c in
        let rest : map (text_without_ids names) cs ≡ map (seen_text names) (map seen cs) = by cs in
        λ i. here i ∷ rest i

-- ---- the report itself

pub words_are : (names : List (List ℕ)) (c : MadeStep) → step_text_with number_words names c ≡ text_of names c
words_are names c =
    ap (λ (g : Filed → List ℕ).
    messages_text c.step.number c.outcome.said
    ++ (visits_text c.step.number c.outcome.trail
    ++ (flat_map g (drop c.outcome.filed_from c.ledger.filed)
    ++ (waited_text c.step.number c.outcome.wait
    ++ (all_missing_text c.step.number c.outcome.missing
    ++ answer_text c.step.number (word_of_call c.step.call) c.outcome.answer)))))
    (fun_ext (λ (f : Filed). by f.receipt (slice_get c.ledger.births f.receipt.id)))
  where
    by : (r : Receipt) (found : Option Birth) → receipt_text_with number_words c.step.number names r found ≡ receipt_text c.step.number names r found
    by r None = refl
    by r (Some b) = refl

module _ (setting : Setting) (number : ℕ) where
  abbrev names : List (List ℕ)
  names = names_of setting.players

  text_line : (many : Bool) (s : RunState) (p : Result Line ScriptKind) (f : RunState → List (List ℕ)) (g : RunState → List MadeStep)
      → ((t : RunState) → f t ≡ map (text_of names) (g t)) →
      steps_then (counted many (applied_or_refused setting s p)) (λ text. if is_on number (step_in p) then text ∷ [] else []) f
      ≡ map (text_of names) (steps_then (counted many (applied_or_refused setting s p)) (λ text. made_steps setting number s (step_in p)) g)
  text_line true s p f g more = refl
  text_line false s (Err kind) f g more = refl
  text_line false s (Ok (lines.Step step)) f g more =
      let t : RunState = (applied setting s (lines.Step step)).0 in
      let text : List ℕ = (applied setting s (lines.Step step)).1 in
      elim (nat_eq step.number number) as (λ (b : Bool). (if b then text ∷ [] else []) ++ f t
      ≡ map (text_of names) ((if b then made_step setting s step ∷ [] else []) ++ g t)) [
        | true ↦ ap (λ (ts : List (List ℕ)). text ∷ ts) (more t)
        | false ↦ more t
      ]
  text_line false s (Ok lines.Blank) f g more = more s
  text_line false s (Ok (lines.At moment)) f g more = more (applied setting s (lines.At moment)).0
  text_line false s (Ok (lines.Random word)) f g more = more (applied setting s (lines.Random word)).0
  text_line false s (Ok (lines.Caller caller)) f g more = more (applied setting s (lines.Caller caller)).0

  pub texts_are : (n : ℕ) (s : RunState) (script : List (List ℕ))
      → texts_among setting number n s script ≡ map (text_of (names_of setting.players)) (steps_among setting number n s script)
  texts_are n s [] = refl
  texts_are n s (l ∷ ls) =
      let f : RunState → List (List ℕ) = λ t. texts_among setting number (n + 1) t ls in
      let g : RunState → List MadeStep = λ t. steps_among setting number (n + 1) t ls in
      subst (λ (r : Result (RunState × List ℕ) ScriptKind).
      steps_then r (λ text. if is_on number (step_in (parsed l)) then text ∷ [] else []) f
      ≡ map (text_of names) (steps_then r (λ text. made_steps setting number (kept_at setting n s) (step_in (parsed l))) g))
      (sym (step_is setting n s l)) (text_line (nat_le 65536 n) (kept_at setting n s) (parsed l) f g (λ t. texts_are (n + 1) t ls))
