-- Test cases, computed on the definitions.
use Rattle.std.proofs.Common.{◌≡◌, ℕ, List, [], ◌∷◌, codes, refl}
use Rattle.std.specs.Fmt.{digits}
use Rattle.random_config.specs.declared.files.RandomFile.{RandomFile}
use Rattle.random_config.specs.Files.{random_files}

abbrev file : List ℕ → List ℕ → RandomFile
file name text = record { name = name; text = text }

-- one line of two seeds
one_of_one : random_files 1 1 ≡ file (codes "gen.1") (codes "auth [success=2 new_authtok_reqd=ok default=die] pam_debug.so auth=success\n")
    ∷ file (codes "gen") (codes "auth substack gen.1\n") ∷ []
unfolding digits
one_of_one = refl

one_of_none : random_files 0 1 ≡ file (codes "gen.1") (codes "auth [success=ok new_authtok_reqd=ok default=ignore] pam_debug.so auth=success\n")
    ∷ file (codes "gen") (codes "auth substack gen.1\n") ∷ []
unfolding digits
one_of_none = refl
