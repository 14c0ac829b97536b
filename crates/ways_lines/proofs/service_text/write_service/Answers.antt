use Rattle.std.proofs.Common.{string_bytes}
use Rattle.ways_lines.proofs.service_text.write_service.Goals as goal

pub returns : goal.returns
returns c = record {
  with_head = string_bytes c.write_head.new.text;
  with_auth = string_bytes c.write_stack.new.text;
  with_account = string_bytes c.write_stack-2.new.text;
  with_password = string_bytes c.write_stack-3.new.text;
  head = c.in_ok-write_head.ensures {u = tt};
  auth = c.in_ok-write_stack.ensures {u = tt};
  account = c.in_ok-write_stack-2.ensures {u = tt};
  password = c.in_ok-write_stack-3.ensures {u = tt};
  session = c.in_ok-write_stack-4.ensures {u = tt};
}
