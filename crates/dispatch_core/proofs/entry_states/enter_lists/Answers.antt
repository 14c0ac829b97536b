use Rattle.std.proofs.Common.{◌≡◌, ◌≢◌, ◌+◌, ◌<◌, ◌&&◌, inl, inr, true, false, nat_le, nat_lt, length, ◌∙◌, arith}
use Rattle.std.proofs.lemmas.Bool.{cases_lt}
use Rattle.std.proofs.lemmas.Bool.Decides.{nat_tests}
use Rattle.dispatch_core.proofs.EntryStateFacts.{entry_at-set_same, entry_at-set_other}
use Rattle.dispatch_core.proofs.entry_states.enter_lists.Goals as goal

pub loop-k-preserved : goal.loop-k-preserved
loop-k-preserved c = record {
  set = λ n within before.
      elim (cases_lt n c.loop-k.k) [
        | inl earlier ↦ let other : n ≢ c.loop-k.k = omega arith in entry_at-set_other c.loop-k.opinions c.loop-k.k n c.args.opinion other ∙ c.loop-k.invariant.set n within earlier
        | inr later ↦
            let same : n ≡ c.loop-k.k = omega arith in
            let room : c.loop-k.k < length c.loop-k.opinions = omega (arith, c.requires.level, c.loop-k-test.true, c.loop-k.auto.opinions) in
            entry_at-set_same c.loop-k.opinions c.loop-k.k n c.args.opinion same room
      ];
  below = λ n out. let other : n ≢ c.loop-k.k = omega (arith, c.loop-k.auto.k, c.requires.opens) in entry_at-set_other c.loop-k.opinions c.loop-k.k n c.args.opinion other ∙ c.loop-k.invariant.below n out;
  above = λ n out. let other : n ≢ c.loop-k.k = omega arith in entry_at-set_other c.loop-k.opinions c.loop-k.k n c.args.opinion other ∙ c.loop-k.invariant.above n (omega arith);
}

pub returns : goal.returns
returns c = λ k.
    elim (cases_lt c.args.level k) [
      | inl out ↦
          let test : (nat_le k c.args.level && nat_lt c.args.level (k + c.args.opens)) ≡ false = grind (arith, nat_tests) in
          rw test (c.loop-k.invariant.above k (omega (arith, c.loop-k.auto.k-end, c.loop-k-test.false)))
      | inr within ↦
          elim (cases_lt c.args.level (k + c.args.opens)) [
            | inl new ↦
                let test : (nat_le k c.args.level && nat_lt c.args.level (k + c.args.opens)) ≡ true = grind (arith, nat_tests) in
                rw test (c.loop-k.invariant.set k new (omega (arith, c.loop-k-test.false)))
            | inr old ↦
                let test : (nat_le k c.args.level && nat_lt c.args.level (k + c.args.opens)) ≡ false = grind (arith, nat_tests) in
                rw test (c.loop-k.invariant.below k old)
          ]
    ]
