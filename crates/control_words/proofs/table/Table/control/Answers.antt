use Rattle.std.proofs.Common.{◌≡◌, ◌<◌, length, length-set, arith, ◌∙◌}
use Rattle.std.specs.Option.{option_or, unwrap_or}
use Rattle.control_words.specs.declared.control.Action.TheVariants.{Bad}
use Rattle.control_words.proofs.ControlTableFacts.{put_next, put_all}
use Rattle.control_words.proofs.table.Table.control.Goals as goal

pub returns : goal.returns
returns c =
    let long : length c.args.self.now.named ≡ 32 = omega arith in
    c.of_each.ensures ∙ put_all (λ action. unwrap_or (option_or action c.args.self.now.default) Bad) c.loop-place.actions c.args.self.now.named c.loop-place.place 32 (omega arith) c.loop-place.invariant.long long c.loop-place.invariant.so_far

pub loop-place-preserved : goal.loop-place-preserved
loop-place-preserved c =
    let room : c.loop-place.place < length c.loop-place.actions = omega arith in
    let there : c.loop-place.place < length c.args.self.now.named = omega arith in
    record {
      long = length-set _ _ _ ∙ c.loop-place.invariant.long;
      so_far = put_next (λ action. unwrap_or (option_or action c.args.self.now.default) Bad) c.loop-place.actions c.args.self.now.named c.loop-place.place c.unwrap_or.result room there c.loop-place.invariant.so_far (cc);
    }
