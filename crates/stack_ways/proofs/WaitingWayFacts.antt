-- The ways that wait before a node, as a list is passed.
use Rattle.std.proofs.Common.{◌≡◌, ℕ, zero, suc, ◌+◌, ◌≤◌, inl, inr, List, [], ◌∷◌, ◌++◌, get_or, refl, sym, ◌∙◌, ap, subst, append_assoc, append-nil, add-one}
use Rattle.std.proofs.Common.{add-zero, arith, ◌-◌}
use Rattle.std.specs.List.{All, Contains}
use Rattle.std.proofs.lemmas.List.Elements.{Contains-append_left, Contains-append_right, Contains-append_cases, Contains-push, Contains-push_cases}
use Rattle.std.proofs.lemmas.List.Elements.{Contains-get_or}
use Rattle.pam_base.specs.declared.code.Code.{Code}
use Rattle.control_words.specs.declared.nodes.Rule.{Rule}
use Rattle.control_words.specs.declared.nodes.Node.{Node, Line, Sub'}
use Rattle.control_words.specs.Stack.{Stack, none, line, sub, count, lines_in, depth, node_on, row_stack}
use Rattle.handler_chain.specs.declared.opinion.Opinion.{Opinion}
use Rattle.handler_chain.specs.Pass.{Visit, visit}
use Rattle.stack_ways.specs.declared.way.Way.{Way}
use Rattle.stack_ways.specs.MayEnd.{CodesOf, MayEnd, mark_of, marks_of}
use Rattle.stack_ways.specs.Ways.{Within, Covered, Gained, Each, IsWay, IsListed, WaysOf}
use Rattle.stack_ways.specs.Steps.{Skips, line_at, way_by, LineStep, SubStep, StackStep, AfterSub}
use Rattle.stack_ways.proofs.WayListFacts.{none_in}
use Rattle.stack_ways.proofs.Coded.{each_code}
use Rattle.stack_ways.proofs.RestOfStackFacts.{count_node, lines_node, depth_node}

pub within_more : (few many more : List ℕ) → Within few many → Within (few ++ more) (many ++ more)
within_more few many more within place here =
    elim (Contains-append_cases few more place here) [
      | inl one ↦ Contains-append_left many more place (within place one)
      | inr two ↦ Contains-append_right many more place two
    ]

module _ (possible counts : CodesOf) where
  pub marks-append : (before more : List Visit) → marks_of counts (before ++ more) ≡ marks_of counts before ++ marks_of counts more
  marks-append [] more = refl
  marks-append (v ∷ before) more =
      ap (λ (xs : List ℕ). mark_of counts v.place v.answer ++ xs) (marks-append before more)
      ∙ sym (append_assoc (mark_of counts v.place v.answer) (marks_of counts before) (marks_of counts more))

  -- ---- over one node

  -- what a way after a node ends in, the one before it does
  pub record Stepped (here : Stack) (at : ℕ) (rest : Stack) (further : ℕ) (entry : Opinion) (way new : Way) : Type 0 where
    pub ran : List Visit
    pub marks_are : new.marks ≡ way.marks ++ marks_of counts ran
    pub back : (more : List Visit) (end : Opinion) → MayEnd possible new.skip rest further entry new.opinion more end
        → MayEnd possible way.skip here at entry way.opinion (ran ++ more) end

  -- what a way before a node ends in, one after it does
  pub record Goes (Step : Way → Way → Type 0) (rest : Stack) (further : ℕ) (entry : Opinion) (way : Way) (ran : List Visit) (end : Opinion) : Type 0 where
    pub new : Way
    pub step : Step way new
    pub first : List Visit
    pub more : List Visit
    pub ran_is : ran ≡ first ++ more
    pub marks_are : new.marks ≡ way.marks ++ marks_of counts first
    pub goes : MayEnd possible new.skip rest further entry new.opinion more end

  pub record StepsOver (Step : Way → Way → Type 0) (here : Stack) (at : ℕ) (rest : Stack) (further : ℕ) (entry : Opinion) : Type 0 where
    pub sound : (way new : Way) → Step way new → Stepped here at rest further entry way new
    pub complete : (way : Way) (ran : List Visit) (end : Opinion) → MayEnd possible way.skip here at entry way.opinion ran end
        → Goes Step rest further entry way ran end

  over_skipped : (here : Stack) (at : ℕ) (rest : Stack) (further : ℕ) (entry : Opinion) (way new : Way) → Skips way new
      → ((skip : ℕ) (opinion : Opinion) (more : List Visit) (end : Opinion) → MayEnd possible skip rest further entry opinion more end
      → MayEnd possible (suc skip) here at entry opinion more end)
      → Stepped here at rest further entry way new
  over_skipped here at rest further entry way new skips passes = record {
    ran = [];
    marks_are = skips.marks ∙ sym (append-nil way.marks);
    back = λ more end may.
        subst (λ n. MayEnd possible n here at entry way.opinion more end) (sym (skips.skip ∙ add-one new.skip))
        (passes new.skip way.opinion more end (subst (λ (o : Opinion). MayEnd possible new.skip rest further entry o more end) skips.opinion may));
  }

  -- ---- over a line

  module _ (rule : Rule) (rest : Stack) (at : ℕ) (entry : Opinion) where
    line_stepped : (way new : Way) → LineStep possible counts (line_at rule at (count rest) entry) way new → Stepped (line rule rest) at rest (at + 1) entry way new
    line_stepped way new step = elim step [
      | inl skips ↦ over_skipped (line rule rest) at rest (at + 1) entry way new skips (λ skip opinion more end may. may)
      | inr by ↦
          let code : Code = by.1.one in
          record {
            ran = visit at code ∷ [];
            marks_are = ap (λ (v : Way). v.marks) by.1.leads.is ∙ ap (λ (xs : List ℕ). way.marks ++ xs) (sym (append-nil (mark_of counts at code)));
            back = λ more end may.
                subst (λ n. MayEnd possible n (line rule rest) at entry way.opinion (visit at code ∷ more) end) (sym by.0)
                (record {
                  answer = code;
                  may = by.1.leads.may;
                  more = more;
                  ran_is = refl;
                  goes = subst (λ (v : Way). MayEnd possible v.skip rest (at + 1) entry v.opinion more end) by.1.leads.is may;
                });
          }
    ]

    line_goes : (skip : ℕ) (way : Way) (ran : List Visit) (end : Opinion) → way.skip ≡ skip → MayEnd possible skip (line rule rest) at entry way.opinion ran end
        → Goes (LineStep possible counts (line_at rule at (count rest) entry)) rest (at + 1) entry way ran end
    line_goes zero way ran end is may = record {
      new = way_by counts (line_at rule at (count rest) entry) way may.answer;
      step = inr (is, record { one = may.answer; among = each_code may.answer; leads = record { may = may.may; is = refl } });
      first = visit at may.answer ∷ [];
      more = may.more;
      ran_is = may.ran_is;
      marks_are = ap (λ (xs : List ℕ). way.marks ++ xs) (sym (append-nil (mark_of counts at may.answer)));
      goes = may.goes;
    }
    line_goes (suc skip) way ran end is may = record {
      new = record { opinion = way.opinion; skip = skip; marks = way.marks };
      step = inl (record { skip = is ∙ sym (add-one skip); opinion = refl; marks = refl });
      first = [];
      more = ran;
      ran_is = refl;
      marks_are = sym (append-nil way.marks);
      goes = may;
    }

    pub over_line : StepsOver (LineStep possible counts (line_at rule at (count rest) entry)) (line rule rest) at rest (at + 1) entry
    over_line = record { sound = line_stepped; complete = λ way ran end may. line_goes way.skip way ran end refl may }

  -- ---- over a substack

  module _ (inner rest : Stack) (at : ℕ) (entry : Opinion) where
    sub_stepped : (way new : Way) → SubStep possible counts inner at way new → Stepped (sub inner rest) at rest (at + lines_in inner) entry way new
    sub_stepped way new step = elim step [
      | inl skips ↦ over_skipped (sub inner rest) at rest (at + lines_in inner) entry way new skips (λ skip opinion more end may. may)
      | inr by ↦ record {
        ran = by.1.ran;
        marks_are = by.1.marks;
        back = λ more end may.
            subst (λ n. MayEnd possible n (sub inner rest) at entry way.opinion (by.1.ran ++ more) end) (sym by.0)
            (record {
              between = new.opinion;
              before = by.1.ran;
              more = more;
              ran_is = refl;
              ends = by.1.ends;
              goes = subst (λ n. MayEnd possible n rest (at + lines_in inner) entry new.opinion more end) by.1.skip may;
            });
      }
    ]

    sub_goes : (skip : ℕ) (way : Way) (ran : List Visit) (end : Opinion) → way.skip ≡ skip → MayEnd possible skip (sub inner rest) at entry way.opinion ran end
        → Goes (SubStep possible counts inner at) rest (at + lines_in inner) entry way ran end
    sub_goes zero way ran end is may = record {
      new = record { opinion = may.between; skip = 0; marks = way.marks ++ marks_of counts may.before };
      step = inr (is, record { ran = may.before; ends = may.ends; skip = refl; marks = refl });
      first = may.before;
      more = may.more;
      ran_is = may.ran_is;
      marks_are = refl;
      goes = may.goes;
    }
    sub_goes (suc skip) way ran end is may = record {
      new = record { opinion = way.opinion; skip = skip; marks = way.marks };
      step = inl (record { skip = is ∙ sym (add-one skip); opinion = refl; marks = refl });
      first = [];
      more = ran;
      ran_is = refl;
      marks_are = sym (append-nil way.marks);
      goes = may;
    }

    pub over_sub : StepsOver (SubStep possible counts inner at) (sub inner rest) at rest (at + lines_in inner) entry
    over_sub = record { sound = sub_stepped; complete = λ way ran end may. sub_goes way.skip way ran end refl may }

  -- ---- over a list

  pub record Reached (all : Stack) (first : ℕ) (entry : Opinion) (here : Stack) (at : ℕ) (way : Way) : Type 0 where
    pub before : List Visit
    pub marks_are : way.marks ≡ marks_of counts before
    pub goes : (ran : List Visit) (end : Opinion) → MayEnd possible way.skip here at entry way.opinion ran end
        → MayEnd possible 0 all first entry entry (before ++ ran) end

  pub record Waits (here : Stack) (at : ℕ) (entry : Opinion) (ways : List Way) (ran : List Visit) (end : Opinion) : Type 0 where
    pub way : Way
    pub among : Contains ways way
    pub before : List Visit
    pub more : List Visit
    pub ran_is : ran ≡ before ++ more
    pub marks : Within way.marks (marks_of counts before)
    pub goes : MayEnd possible way.skip here at entry way.opinion more end

  -- the ways that wait before `here` are those of the whole list
  pub record Waiting (all : Stack) (first : ℕ) (entry : Opinion) (here : Stack) (at left : ℕ) (ways : List Way) : Type 0 where
    pub sound : (way : Way) → Contains ways way → Reached all first entry here at way
    pub complete : (ran : List Visit) (end : Opinion) → MayEnd possible 0 all first entry entry ran end → Waits here at entry ways ran end
    pub placed : at + lines_in here ≡ first + lines_in all
    pub counted : left ≡ count here
    pub shallow : depth here ≤ depth all

  pub waiting_first : (all : Stack) (first : ℕ) (entry : Opinion) (ways : List Way) → ways ≡ record { opinion = entry; skip = 0; marks = [] } ∷ []
      → Waiting all first entry all first (count all) ways
  waiting_first all first entry ways is =
      let start : Way = record { opinion = entry; skip = 0; marks = [] } in
      record {
        sound = λ way here. elim (Contains-push_cases [] start way (subst (λ (ws : List Way). Contains ws way) is here)) [
          | inl never ↦ absurd (none_in way never)
          | inr same ↦ subst (Reached all first entry all first) same (record { before = []; marks_are = refl; goes = λ ran end may. may })
        ];
        complete = λ ran end may. record {
          way = start;
          among = subst (λ (ws : List Way). Contains ws start) (sym is) (Contains-push [] start);
          before = [];
          more = ran;
          ran_is = refl;
          marks = λ place here. here;
          goes = may;
        };
        placed = refl;
        counted = refl;
        shallow = omega arith;
      }

  pub waiting_start : (all here : Stack) (first left : ℕ) (entry : Opinion) (ways : List Way) → here ≡ all → left ≡ count all
      → ways ≡ record { opinion = entry; skip = 0; marks = [] } ∷ [] → Waiting all first entry here first left ways
  waiting_start all here first left entry ways is counted start =
      subst (λ (s : Stack). Waiting all first entry s first left ways) (sym is)
      (subst (λ n. Waiting all first entry all first n ways) (sym counted) (waiting_first all first entry ways start))

  pub waiting_next : (Step : Way → Way → Type 0) (all : Stack) (first : ℕ) (entry : Opinion) (here rest : Stack) (at left further fewer : ℕ)
      (ways next : List Way)
      → Waiting all first entry here at left ways → StepsOver Step here at rest further entry → Gained (Each Step ways) [] next
      → further + lines_in rest ≡ first + lines_in all → fewer ≡ count rest → depth rest ≤ depth all
      → Waiting all first entry rest further fewer next
  waiting_next Step all first entry here rest at left further fewer ways next was steps gained placed counted shallow = record {
    sound = λ new there. elim (gained.sound new there) [
      | inl never ↦ absurd (none_in new never)
      | inr each ↦
          let reached : Reached all first entry here at each.one = was.sound each.one each.among in
          let stepped : Stepped here at rest further entry each.one new = steps.sound each.one new each.leads in
          record {
            before = reached.before ++ stepped.ran;
            marks_are = stepped.marks_are ∙ ap (λ (xs : List ℕ). xs ++ marks_of counts stepped.ran) reached.marks_are
                ∙ sym (marks-append reached.before stepped.ran);
            goes = λ ran end may.
                subst (λ (r : List Visit). MayEnd possible 0 all first entry entry r end) (sym (append_assoc reached.before stepped.ran ran))
                (reached.goes (stepped.ran ++ ran) end (stepped.back ran end may));
          }
    ];
    complete = λ ran end may.
        let waits : Waits here at entry ways ran end = was.complete ran end may in
        let goes : Goes Step rest further entry waits.way waits.more end = steps.complete waits.way waits.more end waits.goes in
        let covered : Covered goes.new next = gained.complete goes.new (record { one = waits.way; among = waits.among; leads = goes.step }) in
        let more : Within (waits.way.marks ++ marks_of counts goes.first) (marks_of counts waits.before ++ marks_of counts goes.first) =
        within_more waits.way.marks (marks_of counts waits.before) (marks_of counts goes.first) waits.marks in
        let more2 : Within goes.new.marks (marks_of counts (waits.before ++ goes.first)) =
        subst (λ (few : List ℕ). Within few (marks_of counts (waits.before ++ goes.first))) (sym goes.marks_are)
        (subst (Within (waits.way.marks ++ marks_of counts goes.first)) (sym (marks-append waits.before goes.first)) more) in
        record {
          way = covered.by;
          among = covered.among;
          before = waits.before ++ goes.first;
          more = goes.more;
          ran_is = waits.ran_is ∙ ap (λ (r : List Visit). waits.before ++ r) goes.ran_is ∙ sym (append_assoc waits.before goes.first goes.more);
          marks = λ place here. more2 place (covered.covers.marks place here);
          goes = subst (λ n. MayEnd possible n rest further entry covered.by.opinion goes.more end) (sym covered.covers.skip)
              (subst (λ (o : Opinion). MayEnd possible goes.new.skip rest further entry o goes.more end) (sym covered.covers.opinion) goes.goes);
        };
    placed = placed;
    counted = counted;
    shallow = shallow;
  }

  over_node : (node : Node) (rest : Stack) (at left : ℕ) (entry : Opinion) → count rest ≡ left
      → StepsOver (StackStep possible counts (node_on node none) at left entry) (node_on node rest) at rest (at + lines_in (node_on node none)) entry
  over_node (Line rule) rest at left entry counted =
      subst (λ n. StepsOver (LineStep possible counts (line_at rule at n entry)) (line rule rest) at rest (at + 1) entry) counted (over_line rule rest at entry)
  over_node (Sub' shape all) rest at left entry counted =
      subst (λ n. StepsOver (SubStep possible counts (row_stack all) at) (sub (row_stack all) rest) at rest (at + n) entry)
      (sym (add-zero (lines_in (row_stack all)))) (over_sub (row_stack all) rest at entry)

  pub waiting_node : (all : Stack) (first : ℕ) (entry : Opinion) (here rest : Stack) (node : Node) (at left further fewer : ℕ) (ways next : List Way)
      → Waiting all first entry here at left ways → here ≡ node_on node rest → fewer ≡ left - 1 → further ≡ at + lines_in (node_on node none)
      → Gained (Each (StackStep possible counts (node_on node none) at fewer entry) ways) [] next
      → Waiting all first entry rest further fewer next
  waiting_node all first entry here rest node at left further fewer ways next was is less place gained =
      let counted : count rest ≡ fewer = omega (arith, was.counted, ap count is, count_node node rest, less) in
      let steps : StepsOver (StackStep possible counts (node_on node none) at fewer entry) here at rest further entry =
      subst (λ n. StepsOver (StackStep possible counts (node_on node none) at fewer entry) here at rest n entry) (sym place)
      (subst (λ (s : Stack). StepsOver (StackStep possible counts (node_on node none) at fewer entry) s at rest (at + lines_in (node_on node none)) entry)
      (sym is) (over_node node rest at fewer entry counted)) in
      waiting_next (StackStep possible counts (node_on node none) at fewer entry) all first entry here rest at left further fewer ways next was steps gained
      (omega (arith, was.placed, ap lines_in is, lines_node node rest, place)) (sym counted)
      (omega (arith, was.shallow, ap depth is, depth_node node rest))

  at_none : (skip at : ℕ) (entry opinion : Opinion) → MayEnd possible skip none at entry opinion [] opinion
  at_none zero at entry opinion = (refl, refl)
  at_none (suc skip) at entry opinion = (refl, refl)

  none_left : (skip at : ℕ) (entry opinion : Opinion) (ran : List Visit) (end : Opinion) → MayEnd possible skip none at entry opinion ran end
      → (ran ≡ []) × (end ≡ opinion)
  none_left zero at entry opinion ran end may = may
  none_left (suc skip) at entry opinion ran end may = may

  pub waiting_last : (all : Stack) (first : ℕ) (entry : Opinion) (here : Stack) (at left : ℕ) (ways : List Way) → Waiting all first entry here at left ways
      → here ≡ none
      → WaysOf possible counts all first entry ways
  waiting_last all first entry here at left ways was is = record {
    sound = λ way there.
        let reached : Reached all first entry here at way = was.sound way there in
        let ends : MayEnd possible way.skip here at entry way.opinion [] way.opinion =
        subst (λ (s : Stack). MayEnd possible way.skip s at entry way.opinion [] way.opinion) (sym is) (at_none way.skip at entry way.opinion) in
        record {
          ran = reached.before;
          ends = subst (λ (r : List Visit). MayEnd possible 0 all first entry entry r way.opinion) (append-nil reached.before)
              (reached.goes [] way.opinion ends);
          marks_are = reached.marks_are;
        };
    complete = λ ran end may.
        let waits : Waits here at entry ways ran end = was.complete ran end may in
        let ended : (waits.more ≡ []) × (end ≡ waits.way.opinion) =
        none_left waits.way.skip at entry waits.way.opinion waits.more end
        (subst (λ (s : Stack). MayEnd possible waits.way.skip s at entry waits.way.opinion waits.more end) is waits.goes) in
        let whole : ran ≡ waits.before = waits.ran_is ∙ ap (λ (r : List Visit). waits.before ++ r) ended.0 ∙ append-nil waits.before in
        record {
          way = waits.way;
          among = waits.among;
          opinion = sym ended.1;
          marks = subst (λ (r : List Visit). Within waits.way.marks (marks_of counts r)) (sym whole) waits.marks;
        };
  }

  -- ---- at the end of a stack

  pub all_ended : (stack : Stack) (at : ℕ) (entry : Opinion) (first : Way) (all ways : List Way) → first.marks ≡ []
      → WaysOf possible counts stack at entry all → Gained (Each (AfterSub first) all) [] ways → WaysOf possible counts stack at entry ways
  all_ended stack at entry first all ways start of gained = record {
    sound = λ way here. elim (gained.sound way here) [
      | inl never ↦ absurd (none_in way never)
      | inr each ↦
          let is : IsWay possible counts stack at entry each.one = of.sound each.one each.among in
          record {
            ran = is.ran;
            ends = subst (λ (o : Opinion). MayEnd possible 0 stack at entry entry is.ran o) (sym each.leads.opinion) is.ends;
            marks_are = each.leads.marks ∙ ap (λ (xs : List ℕ). xs ++ each.one.marks) start ∙ is.marks_are;
          }
    ];
    complete = λ ran end may.
        let listed : IsListed counts all ran end = of.complete ran end may in
        let new : Way = record { opinion = listed.way.opinion; skip = 0; marks = first.marks ++ listed.way.marks } in
        let covered : Covered new ways = gained.complete new
        (record { one = listed.way; among = listed.among; leads = record { opinion = refl; skip = refl; marks = refl } }) in
        let same : first.marks ++ listed.way.marks ≡ listed.way.marks = ap (λ (xs : List ℕ). xs ++ listed.way.marks) start in
        let within : Within covered.by.marks listed.way.marks = subst (Within covered.by.marks) same covered.covers.marks in
        record {
          way = covered.by;
          among = covered.among;
          opinion = covered.covers.opinion ∙ listed.opinion;
          marks = λ place here. listed.marks place (within place here);
        };
  }

pub none_skips : (first : Way) (all ways : List Way) → Gained (Each (AfterSub first) all) [] ways → All (λ (way : Way). way.skip ≡ 0) ways
none_skips first all ways gained k d within =
    elim (gained.sound (get_or ways k d) (Contains-get_or ways k d within)) [
      | inl never ↦ absurd (none_in (get_or ways k d) never)
      | inr each ↦ each.leads.skip
    ]
