-- A pass over a chain with an array of cached codes is a pass over a stack with a function from rule numbers to codes.
use Rattle.std.proofs.Common.{◌≡◌, ℕ, zero, suc, List, [], ◌∷◌, ◌++◌, Option, Some, None, Result, Ok, Err, IfOk, OnErr, ◌⊎◌, inl, inr, Bool, true, false, is_some, IsTrue, length, map, refl, sym, ◌∙◌, ap, subst}
use Rattle.std.proofs.Math.Path.{fun_ext}
use Rattle.std.proofs.lemmas.List.{length-map}
use Rattle.pam_base.specs.declared.code.Code.{Code}
use Rattle.pam_base.specs.declared.code.Code.TheVariants.{Incomplete}
use Rattle.pam_base.specs.declared.call.Func.{Func}
use Rattle.pam_base.specs.declared.fault.NoMemory.{NoMemory}
use Rattle.dispatch_core.specs.control_words.specs.Stack.{Stack}
use Rattle.frozen_chain.specs.Kept.{Answers}
use Rattle.dispatch_core.specs.handler_chain.specs.declared.pass_kind.PassKind.{PassKind}
use Rattle.dispatch_core.specs.handler_chain.specs.declared.pass_kind.PassKind.TheVariants.{Keep, Follow, Loose}
use Rattle.dispatch_core.specs.handler_chain.specs.Pass.{PassState, Visit, kept_in, pass_after}
use Rattle.dispatch_core.specs.handler_chain.specs.Walk.{Walked, code_of}
use Rattle.dispatch_core.specs.handler_chain.specs.Route.{KeptAnswers}
use Rattle.dispatch_core.specs.AnyWorld.{GoesSoundly}
use Rattle.dispatch_core.specs.Failing.{StopsAt}
use Rattle.dispatch_core.specs.Lines.{answers_by, names_of}
use Rattle.dispatch_core.specs.Passes.{by_place, kept_failed, paused_after, KeepsAfter, KeepsAll, LeavesAs}
use Rattle.dispatch_core.specs.declared.request.PassRequest.{PassRequest}
use Rattle.dispatch_core.specs.pam_room.specs.State.{PlainProcess, PlainTransaction, State}
use Rattle.dispatch_core.specs.pam_room.specs.Module.{Breaks, Player, Plays, Note, notes_of, player_of}
use Rattle.dispatch_core.specs.pam_room.specs.Stays.{IsReady}
use Rattle.dispatch_core.specs.Calls.{answers_held, cached_after, passed_by}
use Rattle.dispatch_core.specs.Trail.{ByTrail, seen_in}
use Rattle.dispatch_core.specs.pam_room.specs.declared.visits.Visit.{Visit as Visited}
use Rattle.dispatch_core.specs.handler_chain.specs.Retell.{replaying, telling}
use Rattle.pam_handle.specs.Pass.{PassesTo, kept_answers, passed}
use Rattle.pam_handle.specs.Around.{Around, all_tell, state_in}
use Rattle.pam_handle.specs.Passes.{PassGives, stack_for}
use Rattle.pam_handle.specs.Stopping.{PassedNothing, passing}

none_by_place : (place : ℕ) → by_place None place ≡ None
none_by_place zero = refl
none_by_place (suc i) = refl

-- the cached codes in an array, even if there are none
held_by_place : (cells : Answers) → by_place cells ≡ answers_held (kept_answers cells)
held_by_place None = fun_ext (λ place. none_by_place place)
held_by_place (Some cells) = refl

none_held : false ≡ true → ⊥
none_held e = (cc)

kept_all : (cells : Answers) (visits : List Visit) → KeepsAll cells visits → kept_answers cells ≡ Some (kept_in visits)
kept_all None visits k = absurd (none_held k.0)
kept_all (Some cells) visits k = ap Some (fun_ext k.1)

kept_after : (kind : PassKind) (visits : List Visit) (old new : Answers) → KeepsAfter kind visits old new
    → kept_answers new ≡ cached_after kind visits (kept_answers old)
kept_after Keep visits old new k = kept_all new visits k
kept_after Follow visits old new k = ap kept_answers k
kept_after Loose visits old new k = ap kept_answers k

same_pass : (players : List Player) (func : Func) (flags : ℕ) (kind : PassKind) (cells : Answers) (stack : Stack) (past : List Code) (s : State)
    → pass_after kind (by_place cells) (answers_by players func flags) stack past s ≡ pass_after kind (answers_held (kept_answers cells)) (answers_by players func flags) stack past s
same_pass players func flags kind cells stack past s =
    ap (λ (kept : KeptAnswers). pass_after kind kept (answers_by players func flags) stack past s) (held_by_place cells)

passes_to : (players : List Player) (func : Func) (flags : ℕ) (kind : PassKind) (old new : Answers) (stack : Stack) (past : List Code) (s : State)
    (code : Code) (paused : Option (List Code)) (state : State)
    → LeavesAs kind (pass_after kind (by_place old) (answers_by players func flags) stack past s) old code new paused state
    → PassesTo (passed players func flags kind (kept_answers old) stack past s) code (kept_answers new) paused state
passes_to players func flags kind old new stack past s code paused state l = record {
  code_is = l.code_is ∙ ap code_of (same_pass players func flags kind old stack past s);
  kept_is = kept_after kind _ old new l.kept_is ∙ ap (λ (w : Walked (PassState State)). cached_after kind w.state.visits (kept_answers old)) (same_pass players func flags kind old stack past s);
  paused_is = l.paused_is ∙ ap (λ (w : Walked (PassState State)). paused_after w) (same_pass players func flags kind old stack past s);
  state_is = l.state_is ∙ ap (λ (w : Walked (PassState State)). w.state.state) (same_pass players func flags kind old stack past s);
}

leaves_to : {T : Type 0} (kind : PassKind) (old new : Answers) (w : Walked (PassState T)) (code : Code) (paused : Option (List Code)) (t : T) → LeavesAs kind w old code new paused t
    → PassesTo (passed_by kind (kept_answers old) w) code (kept_answers new) paused t
leaves_to kind old new w code paused t l = record { code_is = l.code_is; kept_is = kept_after kind _ old new l.kept_is; paused_is = l.paused_is; state_is = l.state_is }

-- the same for a pass by the lines that it added to the trace
pub pass_by_trail : (result : Result Code NoMemory) (kind : PassKind) (old new : Answers) (stack : Stack) (past : List Code) (before after : List Visited) (paused : Option (List Code))
    → IfOk result (λ code. ByTrail kind (by_place old) stack past before after (λ w told. LeavesAs kind w old code new paused told))
    → IfOk result (λ code. ByTrail kind (answers_held (kept_answers old)) stack past before after (λ w told. PassesTo (passed_by kind (kept_answers old) w) code (kept_answers new) paused told))
pass_by_trail (Err none) kind old new stack past before after paused b = tt
pass_by_trail (Ok code) kind old new stack past before after paused b = record {
  more = b.more;
  trail = b.trail;
  goes = λ rest. leaves_to kind old new _ code paused (telling rest)
      (subst (λ (kept : KeptAnswers). LeavesAs kind (pass_after kind kept replaying stack past (telling (seen_in b.more ++ rest))) old code new paused (telling rest)) (held_by_place old) (b.goes rest));
}

-- the names of the modules and their meanings
pub names_of_players : {M : Type 0} (label : M → List ℕ) (plays : M → Plays) (note : M → Note) (breaks : M → Breaks) (mods : List M)
    → names_of (map (player_of label plays note breaks) mods) ≡ map label mods
names_of_players label plays note breaks [] = refl
names_of_players label plays note breaks (m ∷ mods) = ap (λ (names : List (List ℕ)). label m ∷ names) (names_of_players label plays note breaks mods)

-- what a pass keeps, stated for the modules, holds for their definitions
module _ {M : Type 0} (label : M → List ℕ) (plays : M → Plays) (note : M → Note) (breaks : M → Breaks) (found mods : List M) (same : found ≡ mods) where
  pub pass_sound : (x y : PlainTransaction) (a b : PlainProcess) → GoesSoundly (notes_of (map (player_of label plays note breaks) found)) (length found) x y a b
      → GoesSoundly (notes_of (map (player_of label plays note breaks) mods)) (length (map (player_of label plays note breaks) mods)) x y a b
  pass_sound x y a b sound =
      subst (λ (n : ℕ). GoesSoundly (notes_of (map (player_of label plays note breaks) mods)) n x y a b) (sym (length-map mods (player_of label plays note breaks)))
      (subst (λ (ms : List M). GoesSoundly (notes_of (map (player_of label plays note breaks) ms)) (length ms) x y a b) same sound)

  pub pass_ready : (t : PlainTransaction) (p : PlainProcess) → IsReady (length found) t p → IsReady (length (map (player_of label plays note breaks) mods)) t p
  pass_ready t p ready =
      subst (λ (n : ℕ). IsReady n t p) (sym (length-map mods (player_of label plays note breaks)))
      (subst (λ (ms : List M). IsReady (length ms) t p) same ready)

pub pass_told : (result : Result Code NoMemory) (found players : List Player) (func : Func) (flags : ℕ) (kind : PassKind) (old new : Answers) (stack : Stack) (past : List Code) (s : State)
    (paused : Option (List Code)) (state : State) → found ≡ players
    → IfOk result (λ code. LeavesAs kind (pass_after kind (by_place old) (answers_by found func flags) stack past s) old code new paused state)
    → IfOk result (λ code. PassesTo (passed players func flags kind (kept_answers old) stack past s) code (kept_answers new) paused state)
pass_told (Ok code) found players func flags kind old new stack past s paused state e l =
    passes_to players func flags kind old new stack past s code paused state
    (subst (λ (ps : List Player). LeavesAs kind (pass_after kind (by_place old) (answers_by ps func flags) stack past s) old code new paused state) e l)
pass_told (Err none) found players func flags kind old new stack past s paused state e l = tt

-- the line at which a pass stopped, or nothing happened
pub pass_stopped : (result : Result Code NoMemory) (found players : List Player) (func : Func) (flags : ℕ) (kind : PassKind) (old : Answers) (stack : Stack) (past : List Code) (tells : Bool) (s t : State) (U V : Type 0) → found ≡ players → (U → V)
    → OnErr result (U ⊎ StopsAt found func flags stack kind (by_place old) past tells s t) → OnErr result (V ⊎ StopsAt players func flags stack kind (answers_held (kept_answers old)) past tells s t)
pass_stopped (Ok code) found players func flags kind old stack past tells s t U V e f stops = tt
pass_stopped (Err none) found players func flags kind old stack past tells s t U V e f (inl u) = inl (f u)
pass_stopped (Err none) found players func flags kind old stack past tells s t U V e f (inr at) =
    inr (subst (λ (ps : List Player). StopsAt ps func flags stack kind (answers_held (kept_answers old)) past tells s t) e
    (subst (λ (kept : KeptAnswers). StopsAt found func flags stack kind kept past tells s t) (held_by_place old) at))

pub names_given : {M : Type 0} (result : Result (List (List ℕ)) NoMemory) (label : M → List ℕ) (plays : M → Plays) (note : M → Note) (breaks : M → Breaks) (found mods : List M)
    → found ≡ mods
    → IfOk result (λ names. names ≡ map label found) → IfOk result (λ names. names ≡ names_of (map (player_of label plays note breaks) mods))
names_given (Ok names) label plays note breaks found mods e n = n ∙ ap (map label) e ∙ sym (names_of_players label plays note breaks mods)
names_given (Err none) label plays note breaks found mods e n = tt

-- what a pass over a stack gives, which is the stack of its call
pub pass_gives : (request : PassRequest) (cached later : Answers) (past : List Code) (pausing : Option (List Code)) (result : Result Code NoMemory) (a : Around) (stack : Stack) → stack_for request a ≡ stack
    → (IsTrue (all_tell a.old) → IfOk result (λ code. PassesTo (passed a.old.players request.func request.flags request.kind (kept_answers cached) stack past (state_in a.old)) code (kept_answers later) pausing (state_in a.new)))
    → IfOk result (λ code. ByTrail request.kind (answers_held (kept_answers cached)) stack past a.old.handle.room.transaction.trail a.new.handle.room.transaction.trail (λ w told. PassesTo (passed_by request.kind (kept_answers cached) w) code (kept_answers later) pausing told))
    → IfOk result (λ code. IsTrue (is_some pausing) → code ≡ Incomplete) → OnErr result (later ≡ kept_failed request.kind cached) → OnErr result (pausing ≡ None)
    → OnErr result (PassedNothing (passing a) ⊎ StopsAt a.old.players request.func request.flags stack request.kind (answers_held (kept_answers cached)) past (all_tell a.old) (state_in a.old) (state_in a.new))
    → PassGives request cached later past pausing result a
pass_gives request cached later past pausing result a stack is told trail put_off kept paused stopped = record {
  told = λ all. subst (λ (k : Stack). IfOk result (λ code. PassesTo (passed a.old.players request.func request.flags request.kind (kept_answers cached) k past (state_in a.old)) code (kept_answers later) pausing (state_in a.new))) (sym is) (told all);
  by_trail = subst (λ (k : Stack). IfOk result (λ code. ByTrail request.kind (answers_held (kept_answers cached)) k past a.old.handle.room.transaction.trail a.new.handle.room.transaction.trail (λ w seen. PassesTo (passed_by request.kind (kept_answers cached) w) code (kept_answers later) pausing seen))) (sym is) trail;
  put_off = put_off;
  kept = kept;
  paused = paused;
  stopped = subst (λ (k : Stack). OnErr result (PassedNothing (passing a) ⊎ StopsAt a.old.players request.func request.flags k request.kind (answers_held (kept_answers cached)) past (all_tell a.old) (state_in a.old) (state_in a.new))) (sym is) stopped;
}
