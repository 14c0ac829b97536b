use Rattle.std.proofs.Common.{◌≡◌, ◌<◌, ◌/◌, length, arith, ◌++◌, refl, ap, ◌∙◌, List, ℕ}
use Rattle.std.specs.List.{repeat}
use Rattle.sha_crypt.proofs.RepeatedTextFacts.{beginning_fits, cut_copies, one_more_fits, repeat_more}
use Rattle.sha_crypt.proofs.mixing.repeat_to.Goals as goal

pub put-requires : goal.put-requires
put-requires c =
    let more : c.loop-i.i < c.args.len / length c.args.text.now = omega arith in
    let so_far : length c.loop-i.filling.items ≡ length (repeat c.loop-i.i c.args.text.now) = rw c.loop-i.invariant refl in
    omega (arith, so_far, one_more_fits c.args.text.now c.loop-i.i c.args.len more, c.requires.room)

pub put-requires-2 : goal.put-requires-2
put-requires-2 c =
    let done : c.loop-i.i ≡ c.args.len / length c.args.text.now = omega arith in
    let whole : length c.loop-i.filling.items ≡ length (repeat (c.args.len / length c.args.text.now) c.args.text.now) = rw (c.loop-i.invariant, done) refl in
    omega (arith, whole, beginning_fits c.args.text.now c.args.len c.requires.some, c.requires.room)

pub loop-i-preserved : goal.loop-i-preserved
loop-i-preserved c =
    c.put.ensures ∙ ap (λ (x : List ℕ). x ++ c.args.text.now) c.loop-i.invariant ∙ repeat_more c.loop-i.i c.args.text.now

pub returns : goal.returns
returns c =
    let done : c.loop-i.i ≡ c.args.len / length c.args.text.now = omega arith in
    c.put-2.ensures
    ∙ rw (c.loop-i.invariant, done) (cut_copies c.args.text.now c.args.len c.requires.some)
