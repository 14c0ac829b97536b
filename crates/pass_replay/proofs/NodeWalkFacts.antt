-- A walk over a list, node by node.
use Rattle.std.proofs.Common.{◌≡◌, ℕ, suc, ◌+◌, ◌-◌, ◌<◌, ◌≤◌, Bool, true, false, if◌then◌else◌, None, refl, sym, ◌∙◌, ap, arith, add-one, add-zero}
use Rattle.pam_base.specs.declared.code.Code.{Code}
use Rattle.control_words.specs.declared.control.Action.{Action}
use Rattle.control_words.specs.declared.nodes.Node.{Node, Line, Sub'}
use Rattle.control_words.specs.declared.nodes.Rule.{Rule}
use Rattle.control_words.specs.Control.{action_at}
use Rattle.control_words.specs.Stack.{Stack, none, line, sub, count, lines_in, depth, node_on, row_stack}
use Rattle.handler_chain.specs.declared.opinion.Opinion.{Opinion}
use Rattle.handler_chain.specs.declared.pass_kind.PassKind.{PassKind}
use Rattle.handler_chain.specs.Opinion.{acted}
use Rattle.handler_chain.specs.Walk.{Next, after, stop, Serving, Served, ServedAs, Walked, walk, walked, halted, next_of, new_or_overrun}
use Rattle.handler_chain.specs.Walk.{onward as onto}
use Rattle.pass_replay.specs.declared.next_node.NextNode.{NextNode}
use Rattle.pass_replay.specs.Walk.{skip_of, WalkEnds}
use Rattle.pass_replay.proofs.RestOfStackFacts.{count_node, lines_node, depth_node}

module _ {State : Type 0} (kind : PassKind) (serve : Serving State) where
  -- a list all of whose nodes are skipped
  skip_all : (rest : Stack) (at : ℕ) (entry opinion : Opinion) (state : State) → walk kind serve (count rest) rest at entry opinion state ≡ walked opinion state
  skip_all none at entry opinion state = refl
  skip_all (line rule rest) at entry opinion state = rw add-one (skip_all rest (at + 1) entry opinion state)
  skip_all (sub inner rest) at entry opinion state = rw add-one (skip_all rest (at + lines_in inner) entry opinion state)

  goes_on : (next : Next) (rest : Stack) (at : ℕ) (entry opinion : Opinion) (state : State)
      → onto next (λ n. walk kind serve n rest at entry opinion state) (walked opinion state)
      ≡ walk kind serve (skip_of next (count rest)) rest at entry opinion state
  goes_on (after n) rest at entry opinion state = refl
  goes_on stop rest at entry opinion state = sym (skip_all rest at entry opinion state)

  -- ---- a line that was served

  line_serves : (rule : Rule) (rest : Stack) (at : ℕ) (entry opinion : Opinion) (old : State) → (serve rule at old).stopped ≡ false
      → let served : Served State = serve rule at old in
      let action : Action = action_at rule.control served.deciding in
      let new : Opinion = acted kind action served.answer served.deciding entry opinion in
      walk kind serve 0 (line rule rest) at entry opinion old
      ≡ walk kind serve (skip_of (next_of action (count rest) new) (count rest)) rest (at + 1) entry (new_or_overrun action (count rest) new) served.state
  line_serves rule rest at entry opinion old is =
      let served : Served State = serve rule at old in
      let action : Action = action_at rule.control served.deciding in
      let new : Opinion = acted kind action served.answer served.deciding entry opinion in
      rw is (goes_on (next_of action (count rest) new) rest (at + 1) entry (new_or_overrun action (count rest) new) served.state)

  pub line_goes : (rule : Rule) (rest : Stack) (at : ℕ) (entry opinion : Opinion) (old new : State) (answer deciding : Code)
      (action : Action) (left : ℕ) (acts : Opinion) (on : NextNode)
      → ServedAs (serve rule at old) answer deciding false new → action ≡ action_at rule.control deciding
      → acts ≡ acted kind action answer deciding entry opinion → count rest ≡ left
      → on.opinion ≡ new_or_overrun action left acts → on.skip ≡ skip_of (next_of action left acts) left
      → walk kind serve 0 (line rule rest) at entry opinion old ≡ walk kind serve on.skip rest (at + 1) entry on.opinion new
  line_goes rule rest at entry opinion old new answer deciding action left acts on served action_is acts_is counted opinion_is skip_is =
      let left_is : left ≡ count rest = sym counted in
      rw (skip_is, opinion_is, left_is, acts_is, action_is, served.answer_is, served.deciding_is, served.state_is)
      (line_serves rule rest at entry opinion old (sym served.stopped_is))

  -- ---- all nodes

  -- a walk over the whole list, of which `here` is left
  pub record IsWalking (all : Stack) (first : ℕ) (entry : Opinion) (start : State) (here : Stack) (skip at left : ℕ) (opinion : Opinion) (state : State) :
      Type 0 where
    pub goes : walk kind serve skip here (at + 1) entry opinion state ≡ walk kind serve 0 all (first + 1) entry entry start
    pub placed : at + lines_in here ≡ first + lines_in all
    pub counted : left ≡ count here
    pub shallow : depth here ≤ depth all

  skipped : (node : Node) (rest : Stack) (skip at : ℕ) (entry opinion : Opinion) (state : State)
      → walk kind serve (suc skip) (node_on node rest) at entry opinion state
      ≡ walk kind serve skip rest (at + lines_in (node_on node none)) entry opinion state
  skipped (Line rule) rest skip at entry opinion state = refl
  skipped (Sub' shape all) rest skip at entry opinion state =
      ap (λ n. walk kind serve skip rest (at + n) entry opinion state) (sym (add-zero (lines_in (row_stack all))))

  pub walking_skip : (all : Stack) (first : ℕ) (entry : Opinion) (start : State) (here rest : Stack) (node : Node) (skip at left skip' at' left' : ℕ)
      (opinion : Opinion) (state : State)
      → IsWalking all first entry start here skip at left opinion state → here ≡ node_on node rest → 0 < skip → skip' ≡ skip - 1
      → at' ≡ at + lines_in (node_on node none) → left' ≡ left - 1
      → IsWalking all first entry start rest skip' at' left' opinion state
  walking_skip all first entry start here rest node skip at left skip' at' left' opinion state was is some less further fewer =
      let whole : skip ≡ suc skip' = omega (arith, some, less) in
      let place : at' + 1 ≡ at + 1 + lines_in (node_on node none) = omega (arith, further) in
      record {
        goes = ap (λ n. walk kind serve skip' rest n entry opinion state) place ∙ sym (skipped node rest skip' (at + 1) entry opinion state)
            ∙ ap (λ (s : Stack). walk kind serve (suc skip') s (at + 1) entry opinion state) (sym is)
            ∙ ap (λ n. walk kind serve n here (at + 1) entry opinion state) (sym whole) ∙ was.goes;
        placed = omega (arith, was.placed, ap lines_in is, lines_node node rest, further);
        counted = omega (arith, was.counted, ap count is, count_node node rest, fewer);
        shallow = omega (arith, was.shallow, ap depth is, depth_node node rest);
      }

  pub walking_line : (all : Stack) (first : ℕ) (entry : Opinion) (start : State) (here rest : Stack) (rule : Rule) (skip at left at' left' : ℕ)
      (opinion : Opinion) (state new : State) (on : NextNode)
      → IsWalking all first entry start here skip at left opinion state → here ≡ line rule rest → skip ≡ 0 → at' ≡ at + 1 → left' ≡ left - 1
      → (count rest ≡ left' → walk kind serve 0 (line rule rest) (at + 1) entry opinion state ≡ walk kind serve on.skip rest (at + 1 + 1) entry on.opinion new)
      → IsWalking all first entry start rest on.skip at' left' on.opinion new
  walking_line all first entry start here rest rule skip at left at' left' opinion state new on was is none_over further fewer goes =
      let counted : count rest ≡ left' = omega (arith, was.counted, ap count is, fewer) in
      record {
        goes = ap (λ n. walk kind serve on.skip rest (n + 1) entry on.opinion new) further ∙ sym (goes counted)
            ∙ ap (λ (s : Stack). walk kind serve 0 s (at + 1) entry opinion state) (sym is)
            ∙ ap (λ n. walk kind serve n here (at + 1) entry opinion state) (sym none_over) ∙ was.goes;
        placed = omega (arith, was.placed, ap lines_in is, further);
        counted = sym counted;
        shallow = omega (arith, was.shallow, ap depth is);
      }

  -- a substack that was walked
  sub_goes : (inner rest : Stack) (at : ℕ) (entry opinion inside : Opinion) (state new : State)
      → walk kind serve 0 inner at opinion opinion state ≡ walked inside new
      → walk kind serve 0 (sub inner rest) at entry opinion state ≡ walk kind serve 0 rest (at + lines_in inner) entry inside new
  sub_goes inner rest at entry opinion inside state new is = rw is refl

  pub walking_sub : (all : Stack) (first : ℕ) (entry : Opinion) (start : State) (here inner rest : Stack) (skip at left at' left' : ℕ)
      (opinion inside : Opinion) (state new : State)
      → IsWalking all first entry start here skip at left opinion state → here ≡ sub inner rest → skip ≡ 0 → at' ≡ at + lines_in inner → left' ≡ left - 1
      → walk kind serve 0 inner (at + 1) opinion opinion state ≡ walked inside new
      → IsWalking all first entry start rest 0 at' left' inside new
  walking_sub all first entry start here inner rest skip at left at' left' opinion inside state new was is none_over further fewer goes =
      let place : at' + 1 ≡ at + 1 + lines_in inner = omega (arith, further) in
      record {
        goes = ap (λ n. walk kind serve 0 rest n entry inside new) place ∙ sym (sub_goes inner rest (at + 1) entry opinion inside state new goes)
            ∙ ap (λ (s : Stack). walk kind serve 0 s (at + 1) entry opinion state) (sym is)
            ∙ ap (λ n. walk kind serve n here (at + 1) entry opinion state) (sym none_over) ∙ was.goes;
        placed = omega (arith, was.placed, ap lines_in is, further);
        counted = omega (arith, was.counted, ap count is, fewer);
        shallow = omega (arith, was.shallow, ap depth is);
      }

  -- ---- if the walk is incomplete

  put_off : (w : Walked State) (opinion : Opinion) (state : State) → w ≡ halted opinion state → w ≡ halted w.opinion state
  put_off w opinion state is = is ∙ ap (λ (o : Opinion). halted o state) (sym (ap (λ (v : Walked State). v.opinion) is))

  on_halt : (inside other : Walked State) → inside.stopped ≡ true → (if inside.stopped then inside else other) ≡ inside
  on_halt inside other is = ap (λ (b : Bool). if b then inside else other) is

  sub_halts : (inner rest : Stack) (at : ℕ) (entry opinion : Opinion) (state new : State) → WalkEnds (walk kind serve 0 inner at opinion opinion state) None new
      → walk kind serve 0 (sub inner rest) at entry opinion state ≡ halted (walk kind serve 0 inner at opinion opinion state).opinion new
  sub_halts inner rest at entry opinion state new is =
      let inside : Walked State = walk kind serve 0 inner at opinion opinion state in
      on_halt inside (walk kind serve 0 rest (at + lines_in inner) entry inside.opinion inside.state) (ap (λ (v : Walked State). v.stopped) is) ∙ is

  pub sub_put_off : (all : Stack) (first : ℕ) (entry : Opinion) (start : State) (here inner rest : Stack) (skip at left : ℕ) (opinion : Opinion)
      (state new : State)
      → IsWalking all first entry start here skip at left opinion state → here ≡ sub inner rest → skip ≡ 0
      → WalkEnds (walk kind serve 0 inner (at + 1) opinion opinion state) None new
      → WalkEnds (walk kind serve 0 all (first + 1) entry entry start) None new
  sub_put_off all first entry start here inner rest skip at left opinion state new was is none_over goes =
      put_off _ _ new
      (sym was.goes ∙ ap (λ n. walk kind serve n here (at + 1) entry opinion state) none_over
      ∙ ap (λ (s : Stack). walk kind serve 0 s (at + 1) entry opinion state) is
      ∙ sub_halts inner rest (at + 1) entry opinion state new goes)
