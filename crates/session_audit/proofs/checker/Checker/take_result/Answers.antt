use Rattle.std.proofs.Common.{◌≡◌, ◌≤◌, List, Option, length, arith, sym, ap, subst}
use Rattle.session_audit.specs.declared.checker.Begun.{Begun}
use Rattle.session_audit.specs.Checked.{begun_within}
use Rattle.session_audit.proofs.CheckedBlockFacts.{named_within}
use Rattle.session_audit.proofs.checker.Checker.take_result.Goals as goal

pub overflow_cast-result-in-Some : goal.overflow_cast-result-in-Some
overflow_cast-result-in-Some c =
    let placed = rw c.in-Some.is at c.in_ok-judged.ensures in
    let line : c.in-Some.line ≤ length c.deref.result.now = named_within _ c.in-Some.line c.deref.result.now placed.1 in
    let told : length c.deref.result.now ≡ length c.begun_at-begun.result.told.items = ap (λ (x : List _). length x) c.deref.ensures.value in
    let all : length c.begun_at-begun.result.told.items ≤ c.args.self.now.lines =
    c.begun_at-begun.ensures.within c.args.self.now.lines (subst (λ (b : Option Begun). begun_within b c.args.self.now.lines) (sym c.take.ensures.value)
    c.requires.is_after.begun) in
    omega (arith, line, told, all, c.requires.room)

pub overflow_add-result-in-Some-2 : goal.overflow_add-result-in-Some-2
overflow_add-result-in-Some-2 c =
    let placed = rw c.in-Some.is at c.in_ok-judged.ensures in
    let line : c.in-Some.line ≤ length c.deref.result.now = named_within _ c.in-Some.line c.deref.result.now placed.1 in
    let told : length c.deref.result.now ≡ length c.begun_at-begun.result.told.items = ap (λ (x : List _). length x) c.deref.ensures.value in
    let all : length c.begun_at-begun.result.told.items ≤ c.args.self.now.lines =
    c.begun_at-begun.ensures.within c.args.self.now.lines (subst (λ (b : Option Begun). begun_within b c.args.self.now.lines) (sym c.take.ensures.value)
    c.requires.is_after.begun) in
    omega (arith, line, told, all, c.requires.room, c.len.ensures, c.begun_at-begun.result.told.ok.0)
