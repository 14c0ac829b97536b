use Rattle.mod_unix.proofs.NewTokenFacts.{taken}
use Rattle.mod_unix.proofs.laws.changed_token_is_taken.Goals as goal

pub returns : goal.returns
returns c =
    taken c.new_hash_is_read.ensures.read c.new_hash_is_read.ensures.users c.new_hash_is_read.ensures.others c.hash_is_a_setting.ensures c.hash_fits_a_field.ensures c.plain_settings_have_no_fault.ensures.sha256
    c.plain_settings_have_no_fault.ensures.sha512
