use Rattle.std.proofs.Common.{sym, ◌∙◌}
use Rattle.mod_unix.proofs.Faultless.{no_fault}
use Rattle.mod_unix.proofs.new_hash.hashed_token.Goals as goal

pub unreachable-requires : goal.unreachable-requires
unreachable-requires c =
    no_fault c.plain_settings_have_no_fault.ensures.sha256 c.plain_settings_have_no_fault.ensures.sha512 c.args.call.now.args.now c.args.word c.args.token.now c.in-Err.field-0
    (rw (c.bytes.ensures, c.in_ok-setting.ensures) at (sym c.crypt.ensures ∙ c.in-Err.is))
