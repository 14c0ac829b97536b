-- Each list of files has the same files as itself.
use Rattle.std.proofs.Common.{◌≡◌, true, List, [], ◌∷◌, refl}
use Rattle.std.proofs.lemmas.Cmp.{nat_list_eq_equiv}
use Rattle.pam_outside.specs.Files.{File}
use Rattle.pam_room.specs.Module.{same_files}

pub files_same : (files : List File) → same_files files files ≡ true
files_same [] = refl
files_same (f ∷ fs) = rw (nat_list_eq_equiv.refl f.path, nat_list_eq_equiv.refl f.bytes, files_same fs) refl
