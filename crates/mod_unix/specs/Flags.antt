-- Flags of calls that pam_unix(8) looks at.
use Rattle.std.specs.Prelude.{ℕ}

-- flags of pam_authenticate(3) and pam_chauthtok(3)
abbrev pub disallow_null_authtok : ℕ
disallow_null_authtok = 0x1

abbrev pub change_expired_authtok : ℕ
change_expired_authtok = 0x20
