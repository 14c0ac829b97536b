-- How far a pass has got, whatever codes come after it; and where it stops if it runs out of memory.
use Rattle.std.proofs.Common.{◌≡◌, ℕ, ◌+◌, ◌-◌, ◌<◌, ◌⊎◌, inl, inr, Bool, false, ◌&&◌, IsTrue, List, [], ◌∷◌, ◌++◌, length, append_assoc, append-nil, Option, Some, None, refl, sym, ◌∙◌, ap, subst, arith}
use Rattle.pam_base.specs.declared.code.Code.{Code}
use Rattle.pam_base.specs.declared.code.Code.TheVariants as codes
use Rattle.pam_base.specs.declared.call.Func.{Func}
use Rattle.control_words.specs.Stack.{Stack, lines_in}
use Rattle.handler_chain.specs.FlatLines.{FlatLine, rule_at}
use Rattle.pam_room.specs.declared.visits.Visit.{Visit as Visited}
use Rattle.pam_room.specs.Module.{Player, notes_of}
use Rattle.pam_room.specs.State.{PlainRoom, PlainWorld, State, state_of}
use Rattle.handler_chain.specs.declared.pass_kind.PassKind.{PassKind}
use Rattle.handler_chain.specs.Opinion.{opening}
use Rattle.handler_chain.specs.Pass.{AnswersAs, Visit, answers_of, decides, pass_after, pass_state, serving, visit}
use Rattle.handler_chain.specs.Retell.{replaying, telling}
use Rattle.handler_chain.specs.Route.{KeptAnswers}
use Rattle.dispatch_core.specs.declared.walker.Walker.{Walker}
use Rattle.dispatch_core.specs.AnyWorld.{GoesSoundly}
use Rattle.dispatch_core.specs.EntryStates.{entry_at}
use Rattle.dispatch_core.specs.Failing.{BreaksAt, GoesBy, IsAsked, IsAtWork, PlayOn, StopsAt, Takes, unasked, visited_at, visits_in}
use Rattle.dispatch_core.specs.Index.{GoesOn, IsLineAt, walk_on}
use Rattle.dispatch_core.specs.Lines.{answers_by}
use Rattle.dispatch_core.specs.Trail.{seen_of}
use Rattle.dispatch_core.proofs.LineTurnFacts.{put_off, taken}
use Rattle.dispatch_core.proofs.PassTraceFacts.{served_told}
use Rattle.dispatch_core.proofs.IndexTurnFacts.{begun}

-- a walker that acts on an answer follows it
pub goes_by : (kind : PassKind) (kept : KeptAnswers) (stack : Stack) (code : Code) (old new : Walker) → old.at < lines_in stack
    → ((l : FlatLine) → IsLineAt stack old.at l → GoesOn kind l code (decides kind kept (old.at + 1) code) old new) → GoesBy kind kept stack code old new
goes_by kind kept stack code old new within goes = record {
  given = λ rest visits.
      taken kind (serving kind kept unasked) stack old (pass_state (code ∷ rest) visits None) rest visits None (Some code) code (decides kind kept (old.at + 1) code) new within
      (record { answer_is = refl; deciding_is = refl; stopped_is = refl; state_is = refl }) refl goes;
  again = λ rest visits left.
      taken kind (serving kind kept replaying) stack old (pass_state (code ∷ rest) visits (telling left)) rest visits (telling left) (Some code) code (decides kind kept (old.at + 1) code) new within
      (record { answer_is = refl; deciding_is = refl; stopped_is = refl; state_is = refl }) refl goes;
  told = λ on visits left.
      taken kind (serving kind kept replaying) stack old (pass_state [] visits (telling (seen_of (visited_at stack old.at code) ∷ left))) [] visits (telling left) (Some code) code (decides kind kept (old.at + 1) code) new within
      (served_told kind kept stack old.at code visits left on) refl goes;
}

visits_more : (vs ws : List Visited) → visits_in (vs ++ ws) ≡ visits_in vs ++ visits_in ws
visits_more [] ws = refl
visits_more (v ∷ vs) ws = ap (λ (xs : List Visit). visit v.place v.answer ∷ xs) (visits_more vs ws)

answers_more : (vs ws : List Visit) → answers_of (vs ++ ws) ≡ answers_of vs ++ answers_of ws
answers_more [] ws = refl
answers_more (v ∷ vs) ws = ap (λ (cs : List Code). v.answer ∷ cs) (answers_more vs ws)

module _ (players : List Player) (func : Func) (flags : ℕ) (stack : Stack) where
  plays_more : (vs : List Visited) (i : ℕ) (code : Code) (s t u : State) → PlayOn players func flags stack vs s t
      → AnswersAs (answers_by players func flags (rule_at stack i) (i + 1) t) code u → PlayOn players func flags stack (vs ++ visited_at stack i code ∷ []) s u
  plays_more [] i code s t u same asked =
      let e : i ≡ i + 1 - 1 = omega arith in (
        u,
        subst (λ n. AnswersAs (answers_by players func flags (rule_at stack n) (i + 1) s) code u) e (subst (λ (x : State). AnswersAs (answers_by players func flags (rule_at stack i) (i + 1) x) code u) same asked),
        refl,
      )
  plays_more (v ∷ vs) i code s t u on asked = (on.0, on.1, plays_more vs i code on.0 t u on.2 asked)

  module _ (kind : PassKind) (kept : KeptAnswers) (given : List Code) (tells : Bool) (start : State) where
    -- The lines that were run since the start, and the earlier codes that were taken. Whatever codes come after those
    -- that are left, the walk from here on goes where the whole walk goes with all of them.
    pub record Far (walker : Walker) (past : List Code) (now : State) : Type 0 where
      pub more : List Visited
      pub early : List Visit
      pub trail : now.room.transaction.trail ≡ start.room.transaction.trail ++ more
      pub taken : given ≡ answers_of early ++ past
      pub once : (past ≡ []) ⊎ (more ≡ [])
      pub leads : (rest : List Code)
          → walk_on kind (serving kind kept unasked) stack walker (pass_state (past ++ rest) (early ++ visits_in more) None) ≡ pass_after kind kept unasked stack (given ++ (answers_of (visits_in more) ++ rest)) None
      pub played : IsTrue tells → PlayOn players func flags stack more start now

    pub far_first : (walker : Walker) → walker.at ≡ 0 → walker.opinion ≡ opening → ((k : ℕ) → entry_at walker.entries k ≡ opening) → Far walker given start
    far_first walker at opinion entries = record {
      more = [];
      early = [];
      trail = sym (append-nil start.room.transaction.trail);
      taken = refl;
      once = inr refl;
      leads = λ rest. begun kind (serving kind kept unasked) stack walker (pass_state (given ++ rest) [] None) at opinion entries;
      played = λ told. refl;
    }

    takes_told : (still : Bool) (i : ℕ) (code : Code) (past left : List Code) (now later : State) → (IsTrue tells → IsTrue still) → Takes players func flags stack still i (Some code) past left now later
        → Takes players func flags stack tells i (Some code) past left now later
    takes_told still i code past left now later tell (inl p) = inl p
    takes_told still i code past left now later tell (inr asked) =
        inr (record { none_before = asked.none_before; none_left = asked.none_left; trail = asked.trail; goes_on = asked.goes_on; told = λ told. asked.told (tell told) })

    module _ (walker new : Walker) (past left : List Code) (code : Code) (now later : State) (far : Far walker past now) (goes : GoesBy kind kept stack code walker new) where
      by_past : past ≡ code ∷ left → later ≡ now → far.more ≡ [] → Far new left later
      by_past is same first = record {
        more = [];
        early = far.early ++ visit (walker.at + 1) code ∷ [];
        trail = ap (λ (s : State). s.room.transaction.trail) same ∙ far.trail ∙ ap (λ (m : List Visited). start.room.transaction.trail ++ m) first;
        taken = far.taken ∙ ap (λ (cs : List Code). answers_of far.early ++ cs) is ∙ sym (append_assoc (answers_of far.early) (code ∷ []) left)
            ∙ ap (λ (cs : List Code). cs ++ left) (sym (answers_more far.early (visit (walker.at + 1) code ∷ [])));
        once = inr refl;
        leads = λ rest.
            let base = subst (λ (m : List Visited). walk_on kind (serving kind kept unasked) stack walker (pass_state ((code ∷ left) ++ rest) (far.early ++ visits_in m) None) ≡ pass_after kind kept unasked stack (given ++ (answers_of (visits_in m) ++ rest)) None) first
            (subst (λ (cs : List Code). walk_on kind (serving kind kept unasked) stack walker (pass_state (cs ++ rest) (far.early ++ visits_in far.more) None) ≡ pass_after kind kept unasked stack (given ++ (answers_of (visits_in far.more) ++ rest)) None) is (far.leads rest)) in
            ap (λ (vs : List Visit). walk_on kind (serving kind kept unasked) stack new (pass_state (left ++ rest) vs None))
            (append-nil (far.early ++ visit (walker.at + 1) code ∷ []) ∙ ap (λ (vs : List Visit). vs ++ visit (walker.at + 1) code ∷ []) (sym (append-nil far.early)))
            ∙ sym (goes.given (left ++ rest) (far.early ++ [])) ∙ base;
        played = λ told. same ∙ subst (λ (m : List Visited). PlayOn players func flags stack m start now) first (far.played told);
      }

      by_asking : IsAsked players func flags stack tells walker.at code false past left now later → Far new left later
      by_asking asked =
          let w : Visited = visited_at stack walker.at code in
          let v : Visit = visit (walker.at + 1) code in
          let seen : visits_in (far.more ++ w ∷ []) ≡ visits_in far.more ++ v ∷ [] = visits_more far.more (w ∷ []) in
          record {
            more = far.more ++ w ∷ [];
            early = far.early;
            trail = asked.trail ∙ ap (λ (xs : List Visited). xs ++ w ∷ []) far.trail ∙ append_assoc start.room.transaction.trail far.more (w ∷ []);
            taken = far.taken ∙ ap (λ (cs : List Code). answers_of far.early ++ cs) (asked.none_before ∙ sym asked.none_left);
            once = inl asked.none_left;
            leads = λ rest.
                let base = subst (λ (cs : List Code). walk_on kind (serving kind kept unasked) stack walker (pass_state (cs ++ code ∷ rest) (far.early ++ visits_in far.more) None) ≡ pass_after kind kept unasked stack (given ++ (answers_of (visits_in far.more) ++ code ∷ rest)) None) asked.none_before (far.leads (code ∷ rest)) in
                ap (λ (cs : List Code). walk_on kind (serving kind kept unasked) stack new (pass_state (cs ++ rest) (far.early ++ visits_in (far.more ++ w ∷ [])) None)) asked.none_left
                ∙ ap (λ (vs : List Visit). walk_on kind (serving kind kept unasked) stack new (pass_state rest vs None)) (ap (λ (vs : List Visit). far.early ++ vs) seen ∙ sym (append_assoc far.early (visits_in far.more) (v ∷ [])))
                ∙ sym (goes.given rest (far.early ++ visits_in far.more)) ∙ base
                ∙ ap (λ (cs : List Code). pass_after kind kept unasked stack (given ++ cs) None)
                (sym (append_assoc (answers_of (visits_in far.more)) (code ∷ []) rest) ∙ ap (λ (cs : List Code). cs ++ rest) (sym (ap answers_of seen ∙ answers_more (visits_in far.more) (v ∷ []))));
            played = λ told. plays_more far.more walker.at code start now later (far.played told) (asked.told told);
          }

      pub far_more : Takes players func flags stack tells walker.at (Some code) past left now later → Far new left later
      far_more (inl p) =
          elim far.once [
            | inl none ↦ let e : code ∷ left ≡ [] = sym p.0 ∙ none in absurd cc
            | inr first ↦ by_past p.0 p.1 first
          ]
      far_more (inr asked) = by_asking asked

    pub far_stops : (walker : Walker) (past : List Code) (now end : State) → Far walker past now → past ≡ [] → walker.at < lines_in stack
        → IsAtWork players (rule_at stack walker.at) now.room.transaction end.room.transaction
        → GoesSoundly (notes_of players) (length players) now.room.transaction end.room.transaction now.world.process end.world.process → end.world.nap ≡ now.world.nap
        → (IsTrue tells → BreaksAt players func flags stack walker.at now end)
        → StopsAt players func flags stack kind kept given tells start end
    far_stops walker past now end far none within work sound nap left = record {
      more = far.more;
      trail = work.1 ∙ far.trail;
      early = far.early;
      resumed = sym (far.taken ∙ ap (λ (cs : List Code). answers_of far.early ++ cs) none ∙ append-nil (answers_of far.early));
      index = walker.at;
      opinion = walker.opinion;
      leads =
          ap (λ (cs : List Code). pass_after kind kept unasked stack (given ++ cs) None) (sym (append-nil (answers_of (visits_in far.more))))
          ∙ sym (subst (λ (cs : List Code). walk_on kind (serving kind kept unasked) stack walker (pass_state (cs ++ []) (far.early ++ visits_in far.more) None) ≡ pass_after kind kept unasked stack (given ++ (answers_of (visits_in far.more) ++ [])) None) none (far.leads []))
          ∙ put_off kind (serving kind kept unasked) stack walker (pass_state [] (far.early ++ visits_in far.more) None) [] (far.early ++ visits_in far.more) (Some (walker.at + 1)) None (decides kind kept (walker.at + 1) codes.Incomplete) within
          (record { answer_is = refl; deciding_is = refl; stopped_is = refl; state_is = refl }) refl;
      at_work = work.0;
      played = λ told. (now, far.played told, record { left = left told; sound = sound; trail = work.1; nap = nap });
    }

    -- the same for a chain whose stack has not changed, given the result of the turn
    pub far_later : (nodes : Stack) (walker new : Walker) (past left : List Code) (code : Code) (now later : State) (answer : Option Code) → nodes ≡ stack → (still : Bool) → (IsTrue tells → IsTrue still)
        → Far walker past now → GoesBy kind kept nodes code walker new → Takes players func flags nodes still walker.at answer past left now later → answer ≡ Some code
        → Far new left later
    far_later nodes walker new past left code now later answer same still tell far goes takes is =
        far_more walker new past left code now later far
        (subst (λ (t : Stack). GoesBy kind kept t code walker new) same goes)
        (takes_told still walker.at code past left now later tell
        (subst (λ (t : Stack). Takes players func flags t still walker.at (Some code) past left now later) same (subst (λ (o : Option Code). Takes players func flags nodes still walker.at o past left now later) is takes)))

    pub stops_later : (nodes : Stack) (walker : Walker) (past : List Code) (now end : State) (modules : ℕ) → nodes ≡ stack → (still : Bool) → (IsTrue tells → IsTrue still) → Far walker past now → past ≡ [] → walker.at < lines_in nodes
        → IsAtWork players (rule_at nodes walker.at) now.room.transaction end.room.transaction → length players ≡ modules
        → GoesSoundly (notes_of players) modules now.room.transaction end.room.transaction now.world.process end.world.process → end.world.nap ≡ now.world.nap
        → (IsTrue still → BreaksAt players func flags nodes walker.at now end)
        → StopsAt players func flags stack kind kept given tells start end
    stops_later nodes walker past now end modules same still tell far none within work count sound nap left =
        far_stops walker past now end far none (omega (arith, within, ap lines_in same))
        (subst (λ (t : Stack). IsAtWork players (rule_at t walker.at) now.room.transaction end.room.transaction) same work)
        (subst (λ n. GoesSoundly (notes_of players) n now.room.transaction end.room.transaction now.world.process end.world.process) (sym count) sound) nap
        (λ told. subst (λ (t : Stack). BreaksAt players func flags t walker.at now end) same (left (tell told)))

-- allocating the memory of a pass changes nothing that is seen, so it doesn't matter for where the
-- pass stopped
pub stopped_as : (players : List Player) (func : Func) (flags : ℕ) (stack : Stack) (kind : PassKind) (kept : KeptAnswers) (given past : List Code) (now first world : Bool) (new old : PlainRoom) (w : PlainWorld) (end : State) (U : Type 0)
    → given ≡ past → now ≡ first → new ≡ old → StopsAt players func flags stack kind kept given (now && world) (state_of new w) end
    → U ⊎ StopsAt players func flags stack kind kept past (first && world) (state_of old w) end
stopped_as players func flags stack kind kept given past now first world new old w end U all tell same stops =
    inr (subst (λ (cs : List Code). StopsAt players func flags stack kind kept cs (first && world) (state_of old w) end) all
    (subst (λ (b : Bool). StopsAt players func flags stack kind kept given (b && world) (state_of old w) end) tell
    (subst (λ (r : PlainRoom). StopsAt players func flags stack kind kept given (now && world) (state_of r w) end) same stops)))
