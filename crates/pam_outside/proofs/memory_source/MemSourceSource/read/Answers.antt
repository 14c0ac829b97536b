use Rattle.std.proofs.Common.{rules, ap, sym, ◌≡◌, ◌≤◌, length, drop, arith}
use Rattle.std.proofs.lemmas.List.{drop-drop}
use Rattle.pam_outside.specs.Memory.{SourceMemory}
use Rattle.pam_outside.proofs.TakenBytesFacts.{taken, at_end, ok_number, rest_is}
use Rattle.pam_outside.proofs.memory_source.MemSourceSource.read.Goals as goal

pub returns-clause-told : goal.returns-clause-told
returns-clause-told c =
    let amount = rw (c.bytes.ensures, rest_is) at c.min-n.ensures in
    let copied = rw (c.bytes.ensures, rest_is) at c.copy_from_slice.ensures.after in
    let within : c.min-n.result ≤ length (drop c.self.inside.at c.self.inside.bytes) = omega (arith, amount) in
    let left : c.args.self.now.left ≡ drop c.self.inside.at c.self.inside.bytes = sym (ap (λ (v : SourceMemory). v.left) c.self.view_is) in
    record {
      calls = search rules;
      at_end = rw left (search rules);
      taken = rw (left, ← drop-drop) (taken (drop c.self.inside.at c.self.inside.bytes) c.args.into.now _ c.min-n.result within copied);
      end = λ z. rw (← drop-drop) (at_end (drop c.self.inside.at c.self.inside.bytes) c.min-n.result (length c.args.into.now) amount c.requires (ok_number _ _ z));
      none = tt;
    }
