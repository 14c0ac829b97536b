-- Calls over files that look the same to the user.
use Rattle.std.proofs.Common.{◌≡◌, ◌≢◌, ℕ, ◌==◌, Bool, true, false, if◌then◌else◌, List, [], Option, Some, None, codes, refl, sym, ap, ◌∙◌, subst}
use Rattle.pam_base.specs.declared.call.Func.{Func}
use Rattle.pam_base.specs.declared.call.Func.TheVariants.{Authenticate, ChAuthTok}
use Rattle.pam_base.specs.declared.code.Code.{Code}
use Rattle.pam_base.specs.declared.code.Code.TheVariants as returns
use Rattle.pam_outside.specs.Files.{File}
use Rattle.pam_outside.specs.Paths.{path_of}
use Rattle.pam_outside.specs.Time.{random_taken, rested}
use Rattle.fail_delay.specs.Delay.{asked_delay}
use Rattle.fail_delay.specs.Wait.{wait_of}
use Rattle.pam_room.specs.item_store.specs.Items.{ItemTexts}
use Rattle.handler_chain.specs.declared.pass_kind.PassKind.{PassKind}
use Rattle.handler_chain.specs.Pass.{PassState, pass_after}
use Rattle.handler_chain.specs.Route.{KeptAnswers}
use Rattle.handler_chain.specs.Walk.{Walked}
use Rattle.pam_room.specs.Module.{Player}
use Rattle.pam_room.specs.State.{PlainWorld, State, state_of}
use Rattle.dispatch_core.specs.service_load.specs.Stacks.{Stacks}
use Rattle.dispatch_core.specs.Calls.{Held, Went, answers_held, first_stack, held, passed_by, went}
use Rattle.dispatch_core.specs.Lines.{answers_by}
use Rattle.dispatch_core.specs.Pending.{Pending, is_other_pending}
use Rattle.pam_handle.specs.Call.{Called, called, clears_tokens, items_begun, random_taken_for, request_forgotten, rested_by, tokens_cleared}
use Rattle.pam_handle.specs.Handle.{PlainHandle}
use Rattle.pam_handle.specs.StackCalls.{asking_by, ended, finished, flags_seen, held_in, is_refused_for_flags, passes_of, past_passes, room_begun}
use Rattle.pam_handle.proofs.EachPassFacts.{GoAlike, PassedAlike, WentAlike, passes_go_alike}
use Rattle.mod_tally.specs.Faillock.{tally_name}
use Rattle.laws_denial.specs.Kept_out.{EachLine}
use Rattle.laws_user.specs.Calls.{EndAlike, IsOwnLine, OthersDontMatterToCalls, with_files}
use Rattle.laws_user.specs.Users.{IsTimely, LookSameTo}
use Rattle.laws_user.proofs.AlikeLineFacts.{Alike, each_alike, in_files}
use Rattle.laws_user.proofs.AlikeWalkFacts.{PassAlike, WalkedAlike, pass_alike}

-- ---- the wait after an authentication leaves files

random_taken_with : (longest : ℕ) (files : List File) (w : PlainWorld) → random_taken_for longest (with_files files w) ≡ with_files files (random_taken_for longest w)
random_taken_with longest files w =
    elim (longest == 0) as (λ (x : Bool). (if x then with_files files w else record (with_files files w) { clock = random_taken w.clock })
    ≡ with_files files (if x then w else record w { clock = random_taken w.clock })) [ true ↦ refl | false ↦ refl ]

rested_with : (wait : Option ℕ) (files : List File) (w : PlainWorld) → rested_by wait (with_files files w) ≡ with_files files (rested_by wait w)
rested_with None files w = refl
rested_with (Some n) files w =
    elim (n == 0) as (λ (x : Bool). (if x then with_files files w else record (with_files files w) { nap = rested w.nap n })
    ≡ with_files files (if x then w else record w { nap = rested w.nap n })) [ true ↦ refl | false ↦ refl ]

-- a world in which only time was taken
record Rests (v w : PlainWorld) : Type 0 where
  files : w.vault.files ≡ v.vault.files
  root : w.process.root ≡ v.process.root

random_taken_rests : (longest : ℕ) (w : PlainWorld) → Rests w (random_taken_for longest w)
random_taken_rests longest w =
    elim (longest == 0) as (λ (x : Bool). Rests w (if x then w else record w { clock = random_taken w.clock })) [
      | true ↦ record { files = refl; root = refl }
      | false ↦ record { files = refl; root = refl }
    ]

rested_rests : (wait : Option ℕ) (w : PlainWorld) → Rests w (rested_by wait w)
rested_rests None w = record { files = refl; root = refl }
rested_rests (Some n) w =
    elim (n == 0) as (λ (x : Bool). Rests w (if x then w else record w { nap = rested w.nap n })) [
      | true ↦ record { files = refl; root = refl }
      | false ↦ record { files = refl; root = refl }
    ]

-- ---- what follows the passes

module _ (func : Func) (folder user : List ℕ) where
  called_ends : (code : Code) (g : PlainHandle) (v : PlainWorld) (files : List File) → LookSameTo func folder user v.process.root v.vault.files files
      → EndAlike func folder user (called code g v) (called code g (with_files files v))
  called_ends code g v files look = record { code = refl; handle = refl; world = refl; look = look }

  either_ends : (refused other : Bool) (a b c d e f : Called) → EndAlike func folder user a b → EndAlike func folder user c d → EndAlike func folder user e f
      → EndAlike func folder user (if refused then a else if other then c else e) (if refused then b else if other then d else f)
  either_ends true other a b c d e f at_once aborted runs = at_once
  either_ends false true a b c d e f at_once aborted runs = aborted
  either_ends false false a b c d e f at_once aborted runs = runs

  waited_ends : (number_of : Code → ℕ → ℕ) (code : Code) (g : PlainHandle) (v : PlainWorld) (files : List File)
      → LookSameTo func folder user v.process.root v.vault.files files
      → EndAlike func folder user (ended number_of Authenticate code g v) (ended number_of Authenticate code g (with_files files v))
  waited_ends number_of code g v files look =
      let longest : ℕ = g.room.transaction.delay in
      let asked : ℕ = asked_delay longest v.clock.word in
      let wait : Option ℕ = wait_of g.delay_on number_of code asked in
      let drew : PlainWorld = random_taken_for longest v in
      let world : rested_by wait (random_taken_for longest (with_files files v)) ≡ with_files files (rested_by wait drew) =
      ap (rested_by wait) (random_taken_with longest files v) ∙ rested_with wait files drew in
      let a = random_taken_rests longest v in
      let b = rested_rests wait drew in
      let is_files : (rested_by wait drew).vault.files ≡ v.vault.files = b.files ∙ a.files in
      let is_root : (rested_by wait drew).process.root ≡ v.process.root = b.root ∙ a.root in
      let left : (rested_by wait (random_taken_for longest (with_files files v))).vault.files ≡ files = ap (λ (w : PlainWorld). w.vault.files) world in
      record {
        code = refl;
        handle = refl;
        world = world ∙ ap (λ (fs : List File). with_files fs (rested_by wait drew)) (sym left);
        look = subst (λ (fs : List File). LookSameTo func folder user (rested_by wait drew).process.root (rested_by wait drew).vault.files fs) (sym left)
            (subst (λ (fs : List File). LookSameTo func folder user (rested_by wait drew).process.root fs files) (sym is_files)
            (subst (λ (r : List ℕ). LookSameTo func folder user r v.vault.files files) (sym is_root) look));
      }

finished_ends : (func : Func) (folder user : List ℕ) (number_of : Code → ℕ → ℕ) (code : Code) (authenticated opened : Option KeptAnswers) (pending : Option Pending)
    (s : State) (h : PlainHandle) (files : List File) → LookSameTo func folder user s.world.process.root s.world.vault.files files
    → EndAlike func folder user (finished number_of func (went code (held authenticated opened pending) s) h)
    (finished number_of func (went code (held authenticated opened pending) (in_files files s)) h)
finished_ends Authenticate folder user number_of code a o None s h files look =
    waited_ends Authenticate folder user number_of code (past_passes (went code (held a o None) s) h) s.world files look
finished_ends Authenticate folder user number_of code a o (Some p) s h files look =
    called_ends Authenticate folder user code (past_passes (went code (held a o (Some p)) s) h) s.world files look
finished_ends ChAuthTok folder user number_of code a o None s h files look =
    called_ends ChAuthTok folder user code (request_forgotten (tokens_cleared (past_passes (went code (held a o None) s) h))) s.world files look
finished_ends ChAuthTok folder user number_of code a o (Some p) s h files look =
    called_ends ChAuthTok folder user code (past_passes (went code (held a o (Some p)) s) h) s.world files look
finished_ends func folder user number_of code a o None s h files look =
    called_ends func folder user code (request_forgotten (past_passes (went code (held a o None) s) h)) s.world files look
finished_ends func folder user number_of code a o (Some p) s h files look =
    called_ends func folder user code (past_passes (went code (held a o (Some p)) s) h) s.world files look

-- ---- the passes

-- the tokens may be cleared before them, but not the user
pub user_begun : (clears : Bool) (pending : Option Pending) (items : ItemTexts) → (if clears then items_begun pending items else items).user ≡ items.user
user_begun true None items = refl
user_begun true (Some p) items = refl
user_begun false pending items = refl

module _ (func : Func) (folder user root : List ℕ) (moment : ℕ) (distinct : path_of root (tally_name folder user) ≢ path_of root (codes "/etc/shadow"))
    (timely : IsTimely func moment) (players : List Player) where
  abbrev Both : State → State → Type 0
  Both s t = Alike func folder user root moment distinct s t

  passed_alike : (kind : PassKind) (kept : Option KeptAnswers) (v w : Walked (PassState State)) → WalkedAlike (PassAlike Both) v w
      → PassedAlike Both (passed_by kind kept v) (passed_by kind kept w)
  passed_alike kind kept v w alike =
      let is : record v { state = record v.state { state = w.state.state } } ≡ w = ap (λ (s : PassState State). record v { state = s }) alike.state.rest ∙ alike.rest in
      subst (λ (x : Walked (PassState State)). PassedAlike Both (passed_by kind kept v) (passed_by kind kept x)) is
      (record { code = refl; kept = refl; paused = refl; state = alike.state.state })

  each_pass : (flags : ℕ) (stacks : Stacks) → EachLine (IsOwnLine players func folder) 1 (first_stack func stacks) → GoAlike Both (asking_by players flags) stacks func
  each_pass flags stacks each second kind kept past s t both =
      let stack = first_stack func stacks in
      let answering = answers_by players func (flags_seen func second flags) in
      passed_alike kind kept (pass_after kind (answers_held kept) answering stack past s) (pass_after kind (answers_held kept) answering stack past t)
      (pass_alike Both kind (answers_held kept) answering stack past s t
      (each_alike func folder user root moment distinct timely players (flags_seen func second flags) 1 stack each) both)

  went_ends : (number_of : Code → ℕ → ℕ) (r u : Went State) (h : PlainHandle) → WentAlike Both r u
      → EndAlike func folder user (finished number_of func r h) (finished number_of func u h)
  went_ends number_of r u h both =
      let files : List File = u.state.world.vault.files in
      let is : went r.code r.held (in_files files r.state) ≡ u =
      ap (λ (c : Code). went c r.held (in_files files r.state)) both.code ∙ ap (λ (k : Held). went u.code k (in_files files r.state)) both.held
      ∙ ap (λ (s : State). went u.code u.held s) both.state.rest in
      subst (λ (x : Went State). EndAlike func folder user (finished number_of func r h) (finished number_of func x h)) is
      (finished_ends func folder user number_of r.code r.held.authenticated r.held.opened r.held.pending r.state h files
      (subst (λ (top : List ℕ). LookSameTo func folder user top r.state.world.vault.files files) (sym both.state.root_is) both.state.look))

-- ---- the call

pub calls_alike : OthersDontMatterToCalls
calls_alike players number_of func flags folder user h w others each is time distinct look =
    let v : PlainWorld = with_files others w in
    let begun : Alike func folder user w.process.root w.clock.moment distinct (state_of (room_begun func h) w) (state_of (room_begun func h) v) = record {
      rest = refl;
      user_is = user_begun (clears_tokens func) h.pending h.room.transaction.items ∙ is;
      root_is = refl;
      moment_is = refl;
      look = look;
    } in
    either_ends func folder user (is_refused_for_flags func flags) (is_other_pending h.pending func) (called returns.SystemErr h w) (called returns.SystemErr h v)
    (called returns.Abort h w) (called returns.Abort h v) (finished number_of func (passes_of players func flags h w) h)
    (finished number_of func (passes_of players func flags h v) h)
    (called_ends func folder user returns.SystemErr h w others look) (called_ends func folder user returns.Abort h w others look)
    (went_ends func folder user w.process.root w.clock.moment distinct time players number_of (passes_of players func flags h w) (passes_of players func flags h v) h
    (passes_go_alike (Alike func folder user w.process.root w.clock.moment distinct) (asking_by players flags) h.stacks func
    (each_pass func folder user w.process.root w.clock.moment distinct time players flags h.stacks each) (held_in h)
    (state_of (room_begun func h) w) (state_of (room_begun func h) v) begun))
