-- Files of which shadow was replaced.
use Rattle.std.proofs.Common.{◌≡◌, ◌≢◌, ℕ, Bool, true, true≢false, cond, List, Option, Some, codes, refl, sym, ap, ◌∙◌}
use Rattle.std.specs.Str.{bytes_eq}
use Rattle.std.proofs.lemmas.List.{append_cancel_left}
use Rattle.std.proofs.lemmas.Slice.Eq.{bytes_eq-Decides}
use Rattle.pam_outside.specs.Files.{File, file_at, file_put}
use Rattle.pam_outside.specs.Paths.{path_of, root_before}
use Rattle.laws_module.proofs.FaillockFileFacts.{not_there, put_at}

pub put_there : (path bytes : List ℕ) (files : List File) → file_at path (file_put path bytes files) ≡ Some bytes
put_there path bytes files =
    put_at path bytes path files ∙ ap (λ (b : Bool). cond b (Some bytes) (file_at path files)) ((bytes_eq-Decides path path).1 refl)

pub elsewhere_put : (path bytes at : List ℕ) (files : List File) → path ≢ at → file_at at (file_put path bytes files) ≡ file_at at files
elsewhere_put path bytes at files other =
    put_at path bytes at files ∙ ap (λ (b : Bool). cond b (Some bytes) (file_at at files)) (not_there path at other (bytes_eq path at) refl)

pub not_passwd : (root : List ℕ) → path_of root (codes "/etc/shadow") ≢ path_of root (codes "/etc/passwd")
unfolding path_of
not_passwd root same =
    let names : codes "/etc/shadow" ≡ codes "/etc/passwd" = append_cancel_left (root_before root) (codes "/etc/shadow") (codes "/etc/passwd") same in
    true≢false (sym ((bytes_eq-Decides (codes "/etc/shadow") (codes "/etc/passwd")).1 names))
