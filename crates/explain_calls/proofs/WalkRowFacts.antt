-- The rows of a walk over a list, node by node.
use Rattle.std.proofs.Common.{◌≡◌, ℕ, zero, suc, ◌+◌, ◌-◌, ◌<◌, Bool, true, false, if◌then◌else◌, ◌≤◌, List, [], ◌∷◌, ◌++◌, length, drop}
use Rattle.std.proofs.Common.{length-drop, None, refl, sym, ◌∙◌, ap, arith, add-zero, append_assoc, append-nil}
use Rattle.pam_base.specs.declared.code.Code.{Code}
use Rattle.control_words.specs.declared.control.Action.{Action}
use Rattle.control_words.specs.declared.nodes.Node.{Node, Line, Sub, Sub'}
use Rattle.control_words.specs.declared.nodes.Nodes.{Nodes}
use Rattle.control_words.specs.declared.nodes.Rule.{Rule}
use Rattle.control_words.specs.Control.{action_at}
use Rattle.control_words.specs.Stack.{Stack, none, line, sub, count, lines_in, node_on, row_stack, stack_of}
use Rattle.handler_chain.specs.declared.opinion.Opinion.{Opinion}
use Rattle.handler_chain.specs.declared.pass_kind.PassKind.{PassKind}
use Rattle.handler_chain.specs.Opinion.{acted}
use Rattle.handler_chain.specs.Walk.{Serving, Served, ServedAs, Walked, walk, walked, next_of, new_or_overrun}
use Rattle.pass_replay.specs.Walk.{skip_of, WalkEnds}
use Rattle.explain_lines.specs.declared.row.Fate.{Fate}
use Rattle.explain_lines.specs.declared.row.Fate.TheVariants.{Ran, Waits, Unreached}
use Rattle.explain_lines.specs.declared.row.Row.{Row}
use Rattle.explain_lines.specs.Rows.{row_of}
use Rattle.pass_replay.proofs.RestOfStackFacts.{count_node, node_on-Sub}
use Rattle.explain_calls.specs.declared.turn.Turn.{Turn}
use Rattle.explain_calls.specs.Rows.{last_of, rows, rows_over, why_by}

-- ---- the last nodes of a list

count_length : (nodes : List Node) → count (stack_of nodes) ≡ length nodes
count_length [] = refl
count_length (node ∷ nodes) = omega (arith, count_node node (stack_of nodes), count_length nodes)

-- those after a node
pub last_are : (nodes : List Node) (i left : ℕ) → i < length nodes → left ≡ count (stack_of (drop (i + 1) nodes))
    → last_of left nodes ≡ drop (i + 1) nodes
last_are nodes i left within counted =
    let place : length nodes - left ≡ i + 1 = omega (arith, within, counted, count_length (drop (i + 1) nodes), length-drop (i + 1) nodes) in
    ap (λ n. drop n nodes) place

pub few_left : (nodes : List Node) (i left : ℕ) → i < length nodes → left ≡ count (stack_of (drop (i + 1) nodes)) → left ≤ length nodes
few_left nodes i left within counted = omega (arith, counted, count_length (drop (i + 1) nodes), length-drop (i + 1) nodes)

-- ---- lines that are skipped

-- those of a substack, as a node
pub over_node_sub : (why : Fate) (at : ℕ) (node : Node) (inner : Nodes) → node ≡ Sub inner
    → rows_over why at (node_on node none) ≡ rows_over why at (stack_of inner.vec.items)
over_node_sub why at node inner is =
    ap (λ (n : Node). rows_over why at (node_on n none)) is ∙ ap (rows_over why at) (node_on-Sub inner none)
    ∙ append-nil (rows_over why at (stack_of inner.vec.items))

-- after some rows, that of a line
pub over_line : (why : Fate) (first at : ℕ) (all here rest : Stack) (rule : Rule) (row : Row) (before shown new : List Row)
    → shown ++ rows_over why (at + 1) here ≡ before ++ rows_over why (first + 1) all → here ≡ line rule rest
    → row ≡ row_of (at + 1) rule why → new ≡ shown ++ row ∷ []
    → new ++ rows_over why (at + 1 + 1) rest ≡ before ++ rows_over why (first + 1) all
over_line why first at all here rest rule row before shown new was is made adds =
    ap (λ (xs : List Row). xs ++ rows_over why (at + 1 + 1) rest) (adds ∙ ap (λ (r : Row). shown ++ r ∷ []) made)
    ∙ append_assoc shown (row_of (at + 1) rule why ∷ []) (rows_over why (at + 1 + 1) rest)
    ∙ ap (λ (s : Stack). shown ++ rows_over why (at + 1) s) (sym is) ∙ was

-- and those of a substack
pub over_sub : (why : Fate) (first at : ℕ) (all here inner rest : Stack) (before shown new : List Row)
    → shown ++ rows_over why (at + 1) here ≡ before ++ rows_over why (first + 1) all → here ≡ sub inner rest
    → new ≡ shown ++ rows_over why (at + 1) inner
    → new ++ rows_over why (at + lines_in inner + 1) rest ≡ before ++ rows_over why (first + 1) all
over_sub why first at all here inner rest before shown new was is adds =
    let place : at + lines_in inner + 1 ≡ at + 1 + lines_in inner = omega arith in
    ap (λ n. new ++ rows_over why n rest) place
    ∙ ap (λ (xs : List Row). xs ++ rows_over why (at + 1 + lines_in inner) rest) adds
    ∙ append_assoc shown (rows_over why (at + 1) inner) (rows_over why (at + 1 + lines_in inner) rest)
    ∙ ap (λ (s : Stack). shown ++ rows_over why (at + 1) s) (sym is) ∙ was

module _ {State : Type 0} (kind : PassKind) (serve : Serving State) where
  -- a walk over the whole list of which `here` is left, and whose rows so far are these
  pub record IsShowing (all : Stack) (first : ℕ) (entry : Opinion) (start : State) (reason : Fate) (before : List Row) (here : Stack) (skip at : ℕ)
      (opinion : Opinion) (state : State) (why : Fate) (shown : List Row) : Type 0 where
    pub shows : shown ++ rows kind serve skip why here (at + 1) entry opinion state ≡ before ++ rows kind serve 0 reason all (first + 1) entry entry start

  skipped : (node : Node) (rest : Stack) (skip at : ℕ) (entry opinion : Opinion) (state : State) (why : Fate)
      → rows kind serve (suc skip) why (node_on node rest) at entry opinion state
      ≡ rows_over why at (node_on node none) ++ rows kind serve skip why rest (at + lines_in (node_on node none)) entry opinion state
  skipped (Line rule) rest skip at entry opinion state why = refl
  skipped (Sub' shape all) rest skip at entry opinion state why =
      let inner : Stack = row_stack all in
      ap (λ n. rows_over why at inner ++ rows kind serve skip why rest (at + n) entry opinion state) (sym (add-zero (lines_in inner)))
      ∙ ap (λ (xs : List Row). xs ++ rows kind serve skip why rest (at + (lines_in inner + 0)) entry opinion state) (sym (append-nil (rows_over why at inner)))

  pub showing_skip : (all : Stack) (first : ℕ) (entry : Opinion) (start : State) (reason : Fate) (before : List Row) (here rest : Stack) (node : Node)
      (skip at skip' at' : ℕ) (opinion : Opinion) (state : State) (why : Fate) (shown new : List Row)
      → IsShowing all first entry start reason before here skip at opinion state why shown → here ≡ node_on node rest → 0 < skip → skip' ≡ skip - 1
      → at' ≡ at + lines_in (node_on node none) → new ≡ shown ++ rows_over why (at + 1) (node_on node none)
      → IsShowing all first entry start reason before rest skip' at' opinion state why new
  showing_skip all first entry start reason before here rest node skip at skip' at' opinion state why shown new was is some less further adds =
      let whole : skip ≡ suc skip' = omega (arith, some, less) in
      let place : at' + 1 ≡ at + 1 + lines_in (node_on node none) = omega (arith, further) in
      let own : List Row = rows_over why (at + 1) (node_on node none) in
      record {
        shows = ap (λ n. new ++ rows kind serve skip' why rest n entry opinion state) place
            ∙ ap (λ (xs : List Row). xs ++ rows kind serve skip' why rest (at + 1 + lines_in (node_on node none)) entry opinion state) adds
            ∙ append_assoc shown own (rows kind serve skip' why rest (at + 1 + lines_in (node_on node none)) entry opinion state)
            ∙ ap (λ (xs : List Row). shown ++ xs) (sym (skipped node rest skip' (at + 1) entry opinion state why))
            ∙ ap (λ (s : Stack). shown ++ rows kind serve (suc skip') why s (at + 1) entry opinion state) (sym is)
            ∙ ap (λ n. shown ++ rows kind serve n why here (at + 1) entry opinion state) (sym whole) ∙ was.shows;
      }

  -- ---- a line

  line_waits : (rule : Rule) (rest : Stack) (at : ℕ) (entry opinion : Opinion) (old : State) (why : Fate) → (serve rule at old).stopped ≡ true
      → rows kind serve 0 why (line rule rest) at entry opinion old ≡ row_of at rule Waits ∷ rows_over Unreached (at + 1) rest
  line_waits rule rest at entry opinion old why is = rw is refl

  pub waits : (rule : Rule) (rest : Stack) (at : ℕ) (entry opinion : Opinion) (old : State) (why : Fate) (row : Row) (shown new : List Row)
      → (serve rule at old).stopped ≡ true → row ≡ row_of at rule Waits → new ≡ shown ++ row ∷ []
      → shown ++ rows kind serve 0 why (line rule rest) at entry opinion old ≡ new ++ rows_over Unreached (at + 1) rest
  waits rule rest at entry opinion old why row shown new is made adds =
      ap (λ (xs : List Row). shown ++ xs) (line_waits rule rest at entry opinion old why is)
      ∙ sym (append_assoc shown (row_of at rule Waits ∷ []) (rows_over Unreached (at + 1) rest))
      ∙ ap (λ (r : Row). (shown ++ r ∷ []) ++ rows_over Unreached (at + 1) rest) (sym made)
      ∙ ap (λ (xs : List Row). xs ++ rows_over Unreached (at + 1) rest) (sym adds)

  line_runs : (rule : Rule) (rest : Stack) (at : ℕ) (entry opinion : Opinion) (old : State) (why : Fate) → (serve rule at old).stopped ≡ false
      → let served : Served State = serve rule at old in
      let action : Action = action_at rule.control served.deciding in
      let new : Opinion = acted kind action served.answer served.deciding entry opinion in
      rows kind serve 0 why (line rule rest) at entry opinion old
      ≡ row_of at rule (Ran served.answer served.deciding action (new_or_overrun action (count rest) new))
      ∷ rows kind serve (skip_of (next_of action (count rest) new) (count rest)) (why_by (next_of action (count rest) new) at) rest (at + 1) entry
      (new_or_overrun action (count rest) new) served.state
  line_runs rule rest at entry opinion old why is = rw is refl

  line_is : (rule : Rule) (rest : Stack) (at : ℕ) (entry opinion : Opinion) (old new : State) (why : Fate) (answer deciding : Code)
      (action : Action) (left : ℕ) (acts : Opinion) (turn : Turn)
      → ServedAs (serve rule at old) answer deciding false new → action ≡ action_at rule.control deciding
      → acts ≡ acted kind action answer deciding entry opinion → count rest ≡ left
      → turn.opinion ≡ new_or_overrun action left acts → turn.skip ≡ skip_of (next_of action left acts) left → turn.why ≡ why_by (next_of action left acts) at
      → rows kind serve 0 why (line rule rest) at entry opinion old
      ≡ row_of at rule (Ran answer deciding action turn.opinion) ∷ rows kind serve turn.skip turn.why rest (at + 1) entry turn.opinion new
  line_is rule rest at entry opinion old new why answer deciding action left acts turn served action_is acts_is counted opinion_is skip_is why_is =
      let left_is : left ≡ count rest = sym counted in
      rw (skip_is, why_is, opinion_is, left_is, acts_is, action_is, served.answer_is, served.deciding_is, served.state_is)
      (line_runs rule rest at entry opinion old why (sym served.stopped_is))

  pub runs : (rule : Rule) (rest : Stack) (at : ℕ) (entry opinion : Opinion) (old new : State) (why : Fate) (answer deciding : Code)
      (action : Action) (left : ℕ) (acts : Opinion) (turn : Turn) (row : Row) (shown after : List Row)
      → ServedAs (serve rule at old) answer deciding false new → action ≡ action_at rule.control deciding
      → acts ≡ acted kind action answer deciding entry opinion → count rest ≡ left
      → turn.opinion ≡ new_or_overrun action left acts → turn.skip ≡ skip_of (next_of action left acts) left → turn.why ≡ why_by (next_of action left acts) at
      → row ≡ row_of at rule (Ran answer deciding action turn.opinion) → after ≡ shown ++ row ∷ []
      → shown ++ rows kind serve 0 why (line rule rest) at entry opinion old
      ≡ after ++ rows kind serve turn.skip turn.why rest (at + 1) entry turn.opinion new
  runs rule rest at entry opinion old new why answer deciding action left acts turn row shown after served action_is acts_is counted opinion_is skip_is
      why_is made adds =
      ap (λ (xs : List Row). shown ++ xs) (line_is rule rest at entry opinion old new why answer deciding action left acts turn served action_is acts_is counted
      opinion_is skip_is why_is)
      ∙ sym (append_assoc shown (row_of at rule (Ran answer deciding action turn.opinion) ∷ [])
      (rows kind serve turn.skip turn.why rest (at + 1) entry turn.opinion new))
      ∙ ap (λ (r : Row). (shown ++ r ∷ []) ++ rows kind serve turn.skip turn.why rest (at + 1) entry turn.opinion new) (sym made)
      ∙ ap (λ (xs : List Row). xs ++ rows kind serve turn.skip turn.why rest (at + 1) entry turn.opinion new) (sym adds)

  pub showing_line : (all : Stack) (first : ℕ) (entry : Opinion) (start : State) (reason : Fate) (before : List Row) (here rest : Stack) (rule : Rule)
      (skip at at' left' : ℕ) (opinion : Opinion) (state new : State) (why : Fate) (turn : Turn) (shown after : List Row)
      → IsShowing all first entry start reason before here skip at opinion state why shown → here ≡ line rule rest → skip ≡ 0 → at' ≡ at + 1
      → count rest ≡ left'
      → (count rest ≡ left' → shown ++ rows kind serve 0 why (line rule rest) (at + 1) entry opinion state
      ≡ after ++ rows kind serve turn.skip turn.why rest (at + 1 + 1) entry turn.opinion new)
      → IsShowing all first entry start reason before rest turn.skip at' turn.opinion new turn.why after
  showing_line all first entry start reason before here rest rule skip at at' left' opinion state new why turn shown after was is none_over further counted
      goes = record {
        shows = ap (λ n. after ++ rows kind serve turn.skip turn.why rest (n + 1) entry turn.opinion new) further ∙ sym (goes counted)
            ∙ ap (λ (s : Stack). shown ++ rows kind serve 0 why s (at + 1) entry opinion state) (sym is)
            ∙ ap (λ n. shown ++ rows kind serve n why here (at + 1) entry opinion state) (sym none_over) ∙ was.shows;
      }

  -- a line at which the walk waits, and the lines that weren't reached
  pub showing_waits : (all : Stack) (first : ℕ) (entry : Opinion) (start : State) (reason : Fate) (before : List Row) (here rest left : Stack) (rule : Rule)
      (skip at at' left' : ℕ) (opinion : Opinion) (state : State) (why : Fate) (shown after final : List Row)
      → IsShowing all first entry start reason before here skip at opinion state why shown → here ≡ line rule rest → skip ≡ 0 → count rest ≡ left'
      → at' ≡ at + 1 → left ≡ rest
      → (count rest ≡ left' → shown ++ rows kind serve 0 why (line rule rest) (at + 1) entry opinion state ≡ after ++ rows_over Unreached (at + 1 + 1) rest)
      → final ≡ after ++ rows_over Unreached (at' + 1) left
      → final ≡ before ++ rows kind serve 0 reason all (first + 1) entry entry start
  showing_waits all first entry start reason before here rest left rule skip at at' left' opinion state why shown after final was is none_over counted further
      left_is goes adds =
      adds ∙ ap (λ n. after ++ rows_over Unreached (n + 1) left) further
      ∙ ap (λ (s : Stack). after ++ rows_over Unreached (at + 1 + 1) s) left_is ∙ sym (goes counted)
      ∙ ap (λ (s : Stack). shown ++ rows kind serve 0 why s (at + 1) entry opinion state) (sym is)
      ∙ ap (λ n. shown ++ rows kind serve n why here (at + 1) entry opinion state) (sym none_over) ∙ was.shows

  -- ---- a substack

  sub_goes : (inner rest : Stack) (at : ℕ) (entry opinion inside : Opinion) (state new : State) (why : Fate)
      → walk kind serve 0 inner at opinion opinion state ≡ walked inside new
      → rows kind serve 0 why (sub inner rest) at entry opinion state
      ≡ rows kind serve 0 why inner at opinion opinion state ++ rows kind serve 0 why rest (at + lines_in inner) entry inside new
  sub_goes inner rest at entry opinion inside state new why is = rw is refl

  pub showing_sub : (all : Stack) (first : ℕ) (entry : Opinion) (start : State) (reason : Fate) (before : List Row) (here inner rest : Stack) (skip at at' : ℕ)
      (opinion inside : Opinion) (state new : State) (why : Fate) (shown after : List Row)
      → IsShowing all first entry start reason before here skip at opinion state why shown → here ≡ sub inner rest → skip ≡ 0 → at' ≡ at + lines_in inner
      → walk kind serve 0 inner (at + 1) opinion opinion state ≡ walked inside new
      → after ≡ shown ++ rows kind serve 0 why inner (at + 1) opinion opinion state
      → IsShowing all first entry start reason before rest 0 at' inside new why after
  showing_sub all first entry start reason before here inner rest skip at at' opinion inside state new why shown after was is none_over further goes adds =
      let place : at' + 1 ≡ at + 1 + lines_in inner = omega (arith, further) in
      let own : List Row = rows kind serve 0 why inner (at + 1) opinion opinion state in
      record {
        shows = ap (λ n. after ++ rows kind serve 0 why rest n entry inside new) place
            ∙ ap (λ (xs : List Row). xs ++ rows kind serve 0 why rest (at + 1 + lines_in inner) entry inside new) adds
            ∙ append_assoc shown own (rows kind serve 0 why rest (at + 1 + lines_in inner) entry inside new)
            ∙ ap (λ (xs : List Row). shown ++ xs) (sym (sub_goes inner rest (at + 1) entry opinion inside state new why goes))
            ∙ ap (λ (s : Stack). shown ++ rows kind serve 0 why s (at + 1) entry opinion state) (sym is)
            ∙ ap (λ n. shown ++ rows kind serve n why here (at + 1) entry opinion state) (sym none_over) ∙ was.shows;
      }

  on_halt : (inside : Walked State) (own over past_end : List Row) → inside.stopped ≡ true → own ++ (if inside.stopped then over else past_end) ≡ own ++ over
  on_halt inside own over past_end is = ap (λ (b : Bool). own ++ (if b then over else past_end)) is

  pub sub_waits : (all : Stack) (first : ℕ) (entry : Opinion) (start : State) (reason : Fate) (before : List Row) (here inner rest left : Stack)
      (skip at at' : ℕ) (opinion : Opinion) (state new : State) (why : Fate) (shown after final : List Row)
      → IsShowing all first entry start reason before here skip at opinion state why shown → here ≡ sub inner rest → skip ≡ 0 → at' ≡ at + lines_in inner
      → left ≡ rest
      → WalkEnds (walk kind serve 0 inner (at + 1) opinion opinion state) None new
      → after ≡ shown ++ rows kind serve 0 why inner (at + 1) opinion opinion state
      → final ≡ after ++ rows_over Unreached (at' + 1) left
      → final ≡ before ++ rows kind serve 0 reason all (first + 1) entry entry start
  sub_waits all first entry start reason before here inner rest left skip at at' opinion state new why shown after final was is none_over further left_is comes
      adds all_added =
      let place : at' + 1 ≡ at + 1 + lines_in inner = omega (arith, further) in
      let inside : Walked State = walk kind serve 0 inner (at + 1) opinion opinion state in
      let own : List Row = rows kind serve 0 why inner (at + 1) opinion opinion state in
      let over : List Row = rows_over Unreached (at + 1 + lines_in inner) rest in
      all_added ∙ ap (λ n. after ++ rows_over Unreached n left) place
      ∙ ap (λ (s : Stack). after ++ rows_over Unreached (at + 1 + lines_in inner) s) left_is
      ∙ ap (λ (xs : List Row). xs ++ over) adds ∙ append_assoc shown own over
      ∙ ap (λ (xs : List Row). shown ++ xs) (sym (on_halt inside own over
      (rows kind serve 0 why rest (at + 1 + lines_in inner) entry inside.opinion inside.state) (ap (λ (v : Walked State). v.stopped) comes)))
      ∙ ap (λ (s : Stack). shown ++ rows kind serve 0 why s (at + 1) entry opinion state) (sym is)
      ∙ ap (λ n. shown ++ rows kind serve n why here (at + 1) entry opinion state) (sym none_over) ∙ was.shows

  -- ---- at the end

  rows_none : (skip : ℕ) (why : Fate) (at : ℕ) (entry opinion : Opinion) (state : State) → rows kind serve skip why none at entry opinion state ≡ []
  rows_none zero why at entry opinion state = refl
  rows_none (suc skip) why at entry opinion state = refl

  pub showing_all : (all : Stack) (first : ℕ) (entry : Opinion) (start : State) (reason : Fate) (before : List Row) (here : Stack) (skip at : ℕ)
      (opinion : Opinion) (state : State) (why : Fate) (shown : List Row)
      → IsShowing all first entry start reason before here skip at opinion state why shown → here ≡ none
      → shown ≡ before ++ rows kind serve 0 reason all (first + 1) entry entry start
  showing_all all first entry start reason before here skip at opinion state why shown was is =
      sym (append-nil shown) ∙ ap (λ (xs : List Row). shown ++ xs) (sym (rows_none skip why (at + 1) entry opinion state))
      ∙ ap (λ (s : Stack). shown ++ rows kind serve skip why s (at + 1) entry opinion state) (sym is) ∙ was.shows
