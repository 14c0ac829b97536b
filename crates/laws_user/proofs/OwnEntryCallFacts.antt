-- A call changes only the user's own entries.
use Rattle.std.proofs.Common.{◌≡◌, ◌≢◌, ℕ, ◌+◌, Bool, true, false, if◌then◌else◌, List, [], Option, Some, None, codes, slice_get, refl, sym, ap, ◌∙◌, subst}
use Rattle.pam_base.specs.declared.call.Func.{Func}
use Rattle.pam_base.specs.declared.call.Func.TheVariants.{ChAuthTok}
use Rattle.pam_base.specs.declared.code.Code.{Code}
use Rattle.pam_base.specs.declared.code.Code.TheVariants as returns
use Rattle.pam_outside.specs.Files.{File, VaultState}
use Rattle.control_words.specs.declared.nodes.Rule.{Rule}
use Rattle.control_words.specs.Stack.{Stack, none, line, sub, lines_in}
use Rattle.handler_chain.specs.declared.pass_kind.PassKind.{PassKind}
use Rattle.handler_chain.specs.declared.pass_kind.PassKind.TheVariants as kinds
use Rattle.handler_chain.specs.FlatLines.{module_of}
use Rattle.handler_chain.specs.Pass.{Answering, pass_after}
use Rattle.handler_chain.specs.Route.{KeptAnswers}
use Rattle.pam_room.specs.Module.{Player, named_data, played_in, seen_of, sight_of}
use Rattle.pam_room.specs.Serve.{at_work, served, served_by}
use Rattle.pam_room.specs.State.{PlainWorld, State, scene_in, state_of}
use Rattle.dispatch_core.specs.service_load.specs.Stacks.{Stacks}
use Rattle.dispatch_core.specs.Calls.{answers_held, first_stack}
use Rattle.dispatch_core.specs.Lines.{answers_by, call_of, names_of}
use Rattle.dispatch_core.specs.Pending.{is_other_pending}
use Rattle.pam_handle.specs.AfterPasses.{EndsLeaveIt}
use Rattle.pam_handle.specs.Call.{Called, called, clears_tokens}
use Rattle.pam_handle.specs.StackCalls.{asking_by, finished, flags_seen, held_in, is_refused_for_flags, passes_of, room_begun}
use Rattle.pam_handle.proofs.EachPassFacts.{Keeps, passes_keep}
use Rattle.laws_denial.specs.Kept_out.{EachLine}
use Rattle.laws_user.specs.Calls.{CallsWriteOwn, IsOwnLine, KeepsOthers, KeepsToOwn}
use Rattle.laws_user.specs.Users.{IsTimely}
use Rattle.laws_user.proofs.AlikeCallFacts.{user_begun}
use Rattle.laws_user.proofs.AlikeLineFacts.{draws_moment}
use Rattle.laws_user.proofs.OwnEntryModuleFacts.{none_replaced}
use Rattle.laws_user.proofs.AlikeWalkFacts.{AsksAlike, pass_alike}

one_then : (func : Func) (folder user root : List ℕ) (before middle after : List File) → KeepsOthers func folder user root before middle
    → KeepsOthers func folder user root middle after → KeepsOthers func folder user root before after
one_then func folder user root before middle after a b = record {
  files = λ path other not. b.files path other not ∙ a.files path other not;
  entries = λ differs es s.
      let m = a.entries differs es s in
      let e = b.entries differs m.changed m.shadow_is in
      record { changed = e.changed; shadow_is = e.shadow_is; stay = λ other apart. e.stay other apart ∙ m.stay other apart };
}

module _ (func : Func) (folder user root : List ℕ) (moment : ℕ) (timely : IsTimely func moment) (before : List File) where
  -- what stays along a pass; both states are the same one
  record Same (s t : State) : Type 0 where
    same : s ≡ t
    user_is : s.room.transaction.items.user ≡ Some user
    root_is : s.world.process.root ≡ root
    moment_is : s.world.clock.moment ≡ moment
    others : KeepsOthers func folder user root before s.world.vault.files

  module _ (players : List Player) (flags : ℕ) where
    abbrev answering : Answering State
    answering = answers_by players func flags

    itself : (s t : State) → Same s t → Same s s
    itself s t both = record { same = refl; user_is = both.user_is; root_is = both.root_is; moment_is = both.moment_is; others = both.others }

    by_player : (player : Player) (number : ℕ) (rule : Rule) (s : State) → KeepsToOwn func folder rule.args player.plays → Same s s
        → let t = (served_by players (Some player) number (call_of func flags rule) s).state in Same t t
    by_player player number rule s keeps same =
        let now : State = at_work number s in
        let p = played_in player.plays (call_of func flags rule) (scene_in now) in
        let spared = keeps.writes flags (seen_of now.room) (named_data now.room.transaction.datums.live) (sight_of (scene_in now)) user same.user_is
        (subst (λ (m : ℕ). IsTimely func m) (sym same.moment_is) timely) in
        record {
          same = refl;
          user_is = spared.user_is;
          root_is = same.root_is;
          moment_is = draws_moment p.draws s.world.clock ∙ same.moment_is;
          others = one_then func folder user root before s.world.vault.files p.files same.others
              (subst (λ (r : List ℕ). KeepsOthers func folder user r s.world.vault.files p.files) same.root_is spared.others);
        }

    by_number : (number : Option ℕ) (rule : Rule) (s : State)
        → ((n : ℕ) (player : Player) → number ≡ Some n → slice_get players n ≡ Some player → KeepsToOwn func folder rule.args player.plays) → Same s s
        → let t = (served players number (call_of func flags rule) s).state in Same t t
    by_number None rule s own same = same
    by_number (Some n) rule s own same = by_found (slice_get players n) refl
      where
        by_found : (found : Option Player) → slice_get players n ≡ found
            → let t = (served_by players found n (call_of func flags rule) s).state in Same t t
        by_found None there = same
        by_found (Some player) there = by_player player n rule s (own n player refl there) same

    line_keeps : (place : ℕ) (rule : Rule) → IsOwnLine players func folder place rule → AsksAlike Same answering place rule
    line_keeps place rule own s t both =
        let t' = by_number (module_of (names_of players) rule) rule s own (itself s t both) in
        let u = (answering rule place s).state in
        subst (λ (x : State). ((answering rule place s).answer ≡ (answering rule place x).answer) × Same u (answering rule place x).state) both.same
        (refl, record { same = refl; user_is = t'.user_is; root_is = t'.root_is; moment_is = t'.moment_is; others = t'.others })

    each_keeps : (at : ℕ) (stack : Stack) → EachLine (IsOwnLine players func folder) at stack → EachLine (AsksAlike Same answering) at stack
    each_keeps at none each = each
    each_keeps at (line rule rest) each = (line_keeps at rule each.0, each_keeps (at + 1) rest each.1)
    each_keeps at (sub inner rest) each = (each_keeps at inner each.0, each_keeps (at + lines_in inner) rest each.1)

  -- each pass of a call
  each_pass : (players : List Player) (flags : ℕ) (stacks : Stacks) → EachLine (IsOwnLine players func folder) 1 (first_stack func stacks)
      → Keeps (λ s. Same s s) (asking_by players flags) stacks func
  each_pass players flags stacks each second kind kept past s same =
      let seen = flags_seen func second flags in
      let end = pass_alike Same kind (answers_held kept) (answers_by players func seen) (first_stack func stacks) past s s
      (each_keeps players seen 1 (first_stack func stacks) each) same in
      end.state.state

either_leaves : (Leaves : List File → Type 0) (refused other : Bool) (a b c : Called) → Leaves a.world.vault.files → Leaves b.world.vault.files
    → Leaves c.world.vault.files → Leaves (if refused then a else if other then b else c).world.vault.files
either_leaves Leaves true other a b c at_once aborted runs = at_once
either_leaves Leaves false true a b c at_once aborted runs = aborted
either_leaves Leaves false false a b c at_once aborted runs = runs

pub writes_own : EndsLeaveIt → CallsWriteOwn
writes_own ends players number_of func flags folder user h w each is time =
    let root = w.process.root in
    let files = w.vault.files in
    let none_yet : KeepsOthers func folder user root files files = none_replaced func folder user root files files refl in
    let begun : State = state_of (room_begun func h) w in
    let at_first : Same func folder user root w.clock.moment time files begun begun = record {
      same = refl;
      user_is = user_begun (clears_tokens func) h.pending h.room.transaction.items ∙ is;
      root_is = refl;
      moment_is = refl;
      others = none_yet;
    } in
    let r = passes_of players func flags h w in
    let at_end = passes_keep (λ s. Same func folder user root w.clock.moment time files s s) (asking_by players flags) h.stacks func
    (each_pass func folder user root w.clock.moment time files players flags h.stacks each) (held_in h) begun at_first in
    either_leaves (KeepsOthers func folder user root files) (is_refused_for_flags func flags) (is_other_pending h.pending func) (called returns.SystemErr h w)
    (called returns.Abort h w) (finished number_of func r h) none_yet none_yet
    (subst (KeepsOthers func folder user root files) (sym (ap (λ (v : VaultState). v.files) (ends number_of func r h).vault)) at_end.others)
