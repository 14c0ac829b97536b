-- What is gained by one way.
use Rattle.std.proofs.Common.{◌≡◌, ℕ, true, false, true≢false, inl, inr, List, ◌++◌, refl, sym, ◌∙◌, ap, subst, arith, ◌<◌}
use Rattle.pam_base.specs.declared.code.Code.{Code}
use Rattle.pam_base.specs.Code.{all_codes}
use Rattle.control_words.specs.declared.nodes.Rule.{Rule}
use Rattle.handler_chain.specs.declared.opinion.Opinion.{Opinion}
use Rattle.stack_ways.specs.declared.way.Way.{Way}
use Rattle.stack_ways.specs.MayEnd.{CodesOf, MayEnd}
use Rattle.stack_ways.specs.Ways.{Gained, Each}
use Rattle.stack_ways.specs.Steps.{PlainLine, Skips, ByCode, way_by, AfterSub, LineStep}
use Rattle.std.proofs.lemmas.List.Elements.{Contains-append_left, Contains-append_right, Contains-append_cases}
use Rattle.control_words.specs.Stack.{Stack}
use Rattle.stack_ways.specs.MayEnd.{marks_of}
use Rattle.stack_ways.specs.Ways.{Within, Covered, IsWay, IsListed, WaysOf}
use Rattle.stack_ways.specs.Steps.{SubStep}
use Rattle.stack_ways.proofs.WayListFacts.{gained_same, gained_none, covered_by}

same_way : (one other : Way) → one.opinion ≡ other.opinion → one.skip ≡ other.skip → one.marks ≡ other.marks → one ≡ other
same_way one other opinion skip marks = λ i. record { opinion = opinion i; skip = skip i; marks = marks i }

pub gained_skip : (way new : Way) (old next : List Way) → Skips way new → Gained (λ v. v ≡ new) old next → Gained (Skips way) old next
gained_skip way new old next skips gained =
    gained_same (λ v. v ≡ new) (Skips way) old next
    (λ v is. subst (Skips way) (sym is) skips)
    (λ v other. same_way v new (other.opinion ∙ sym skips.opinion) (omega (arith, other.skip, skips.skip)) (other.marks ∙ sym skips.marks))
    gained

pub gained_code : (possible counts : CodesOf) (at : PlainLine) (way : Way) (code : Code) (new : Way) (old next : List Way)
    → possible at.place code ≡ true → new ≡ way_by counts at way code → Gained (λ v. v ≡ new) old next
    → Gained (ByCode possible counts at way code) old next
gained_code possible counts at way code new old next may is gained =
    gained_same (λ v. v ≡ new) (ByCode possible counts at way code) old next
    (λ v same. record { may = may; is = same ∙ is }) (λ v by. by.is ∙ sym is) gained

pub gained_no_code : (possible counts : CodesOf) (at : PlainLine) (way : Way) (code : Code) (ways : List Way)
    → possible at.place code ≡ false → Gained (ByCode possible counts at way code) ways ways
gained_no_code possible counts at way code ways not =
    gained_none (ByCode possible counts at way code) ways (λ v by. true≢false (sym by.may ∙ not))

pub gained_end : (way end new : Way) (old next : List Way) → AfterSub way end new → Gained (λ v. v ≡ new) old next → Gained (AfterSub way end) old next
gained_end way end new old next after gained =
    gained_same (λ v. v ≡ new) (AfterSub way end) old next
    (λ v is. subst (AfterSub way end) (sym is) after)
    (λ v other. same_way v new (other.opinion ∙ sym after.opinion) (other.skip ∙ sym after.skip) (other.marks ∙ sym after.marks))
    gained

pub gained_line_skip : (possible counts : CodesOf) (at : PlainLine) (way : Way) (old next : List Way)
    → 0 < way.skip → Gained (Skips way) old next → Gained (LineStep possible counts at way) old next
gained_line_skip possible counts at way old next some gained =
    gained_same (Skips way) (LineStep possible counts at way) old next
    (λ v skips. inl skips)
    (λ v step. elim step [ inl skips ↦ skips | inr none ↦ absurd (omega (arith, none.0, some)) ])
    gained

pub gained_line : (possible counts : CodesOf) (at : PlainLine) (way : Way) (old next : List Way)
    → way.skip ≡ 0 → Gained (Each (ByCode possible counts at way) all_codes) old next
    → Gained (LineStep possible counts at way) old next
gained_line possible counts at way old next none gained =
    gained_same (Each (ByCode possible counts at way) all_codes) (LineStep possible counts at way) old next
    (λ v each. inr (none, each))
    (λ v step. elim step [ inl skips ↦ absurd (omega (arith, none, skips.skip)) | inr each ↦ each.1 ])
    gained

pub gained_sub_skip : (possible counts : CodesOf) (inner : Stack) (place : ℕ) (way : Way) (old next : List Way)
    → 0 < way.skip → Gained (Skips way) old next → Gained (SubStep possible counts inner place way) old next
gained_sub_skip possible counts inner place way old next some gained =
    gained_same (Skips way) (SubStep possible counts inner place way) old next
    (λ v skips. inl skips)
    (λ v step. elim step [ inl skips ↦ skips | inr none ↦ absurd (omega (arith, none.0, some)) ])
    gained

within_after : (first few many : List ℕ) → Within few many → Within (first ++ few) (first ++ many)
within_after first few many within place here =
    elim (Contains-append_cases first few place here) [
      | inl one ↦ Contains-append_left first many place one
      | inr two ↦ Contains-append_right first many place (within place two)
    ]

pub gained_sub : (possible counts : CodesOf) (inner : Stack) (place : ℕ) (way : Way) (ends old next : List Way)
    → way.skip ≡ 0 → WaysOf possible counts inner place way.opinion ends → Gained (Each (AfterSub way) ends) old next
    → Gained (SubStep possible counts inner place way) old next
gained_sub possible counts inner place way ends old next none all gained = record {
  sound = λ v here. elim (gained.sound v here) [
    | inl was ↦ inl was
    | inr each ↦
        let is : IsWay possible counts inner place way.opinion each.one = all.sound each.one each.among in
        inr (inr (
          none,
          record {
            ran = is.ran;
            ends = subst (λ (o : Opinion). MayEnd possible 0 inner place way.opinion way.opinion is.ran o) (sym each.leads.opinion) is.ends;
            skip = each.leads.skip;
            marks = each.leads.marks ∙ ap (λ (xs : List ℕ). way.marks ++ xs) is.marks_are;
          },
        ))
  ];
  kept = gained.kept;
  complete = λ v step. elim step [
    | inl skips ↦ absurd (omega (arith, none, skips.skip))
    | inr by ↦
        let listed : IsListed counts ends by.1.ran v.opinion = all.complete by.1.ran v.opinion by.1.ends in
        let new : Way = record { opinion = listed.way.opinion; skip = 0; marks = way.marks ++ listed.way.marks } in
        let there : Covered new next = gained.complete new
        (record { one = listed.way; among = listed.among; leads = record { opinion = refl; skip = refl; marks = refl } }) in
        covered_by new v next (record {
          opinion = listed.opinion;
          skip = sym by.1.skip;
          marks = subst (Within (way.marks ++ listed.way.marks)) (sym by.1.marks)
              (within_after way.marks listed.way.marks (marks_of counts by.1.ran) listed.marks);
        }) there
  ];
}
