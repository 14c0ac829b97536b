-- The new hash, and the file that it is put in.
use Rattle.std.proofs.Common.{◌≡◌, ◌≢◌, ℕ, Bool, true, false, ◌||◌, cond, List, [], ◌∷◌, Some, Result, Ok, Err, is_ok, refl, sym, ap, ◌∙◌, subst, eqb}
use Rattle.std.specs.List.{list_any}
use Rattle.std.specs.Str.{bytes_eq}
use Rattle.std.proofs.lemmas.Bool.{eqb-true}
use Rattle.std.proofs.lemmas.Slice.Eq.{bytes_eq-Decides}
use Rattle.pam_base.specs.Bytes.{has_byte}
use Rattle.pam_outside.specs.Files.{File, file_at, file_put}
use Rattle.sha_crypt.specs.declared.setting.SettingFault.{SettingFault}
use Rattle.sha_crypt.specs.Hash.{crypted}
use Rattle.sha_crypt.specs.Setting.{is_forbidden}
use Rattle.mod_unix.specs.NewHash.{made_hash}
use Rattle.mod_unix.specs.Verify.{is_locked}

-- ---- files

files_step : (b c : Bool) (path other bytes : List ℕ) (f : File) (fs : List File) → other ≢ path → bytes_eq f.path path ≡ b → bytes_eq f.path other ≡ c
    → file_at other (file_put path bytes fs) ≡ file_at other fs
    → file_at other (cond b (record { path = path; bytes = bytes } ∷ fs) (f ∷ file_put path bytes fs)) ≡ cond c (Some f.bytes) (file_at other fs)
files_step true true path other bytes f fs distinct is at rest = absurd (distinct (sym ((bytes_eq-Decides f.path other).0 at) ∙ (bytes_eq-Decides f.path path).0 is))
files_step true false path other bytes f fs distinct is at rest =
    let none : bytes_eq path other ≡ false = ap (λ (p : List ℕ). bytes_eq p other) (sym ((bytes_eq-Decides f.path path).0 is)) ∙ at in
    rw none refl
files_step false c path other bytes f fs distinct is at rest = rw (at, rest) refl

apart : (b : Bool) (path other : List ℕ) → bytes_eq path other ≡ b → other ≢ path → b ≡ false
apart true path other e distinct = absurd (distinct (sym ((bytes_eq-Decides path other).0 e)))
apart false path other e distinct = refl

pub others_stay : (path other bytes : List ℕ) (fs : List File) → other ≢ path → file_at other (file_put path bytes fs) ≡ file_at other fs
others_stay path other bytes [] distinct = let none = apart (bytes_eq path other) path other refl distinct in rw none refl
others_stay path other bytes (f ∷ fs) distinct = files_step (bytes_eq f.path path) (bytes_eq f.path other) path other bytes f fs distinct refl refl (others_stay path other bytes fs distinct)

pub same_text : (xs : List ℕ) → bytes_eq xs xs ≡ true
same_text xs = (bytes_eq-Decides xs xs).1 refl

put_step : (b : Bool) (path bytes : List ℕ) (f : File) (fs : List File) → bytes_eq f.path path ≡ b → file_at path (file_put path bytes fs) ≡ Some bytes
    → file_at path (cond b (record { path = path; bytes = bytes } ∷ fs) (f ∷ file_put path bytes fs)) ≡ Some bytes
put_step true path bytes f fs is rest = rw same_text refl
put_step false path bytes f fs is rest = rw is rest

pub put_there : (path bytes : List ℕ) (fs : List File) → file_at path (file_put path bytes fs) ≡ Some bytes
put_there path bytes [] = rw same_text refl
put_there path bytes (f ∷ fs) = put_step (bytes_eq f.path path) path bytes f fs refl (put_there path bytes fs)

-- ---- the new hash

begins_otherwise : (b other : ℕ) (bs key hash : List ℕ) → b ≡ other → crypted (b ∷ bs) key ≡ Ok hash → crypted (other ∷ bs) key ≡ Ok hash
begins_otherwise b other bs key hash is e = subst (λ x. crypted (x ∷ bs) key ≡ Ok hash) is e

by_mark : (exclaims stars : Bool) (b : ℕ) (bs key hash : List ℕ) → eqb b 33 ≡ exclaims → eqb b 42 ≡ stars → crypted (b ∷ bs) key ≡ Ok hash → (exclaims || stars) ≡ false
by_mark true stars b bs key hash x y e = let none = begins_otherwise b 33 bs key hash (eqb-true b 33 x) e in absurd cc
by_mark false true b bs key hash x y e = let none = begins_otherwise b 42 bs key hash (eqb-true b 42 y) e in absurd cc
by_mark false false b bs key hash x y e = refl

-- a hash that is a setting isn't locked
pub no_lock : (setting key hash : List ℕ) → crypted setting key ≡ Ok hash → is_locked setting ≡ false
no_lock [] key hash e = absurd cc
no_lock (b ∷ bs) key hash e = by_mark (eqb b 33) (eqb b 42) b bs key hash refl refl e

pub made_ok : (r : Result (List ℕ) SettingFault) → is_ok r ≡ true → r ≡ Ok (made_hash r)
made_ok (Ok hash) e = refl
made_ok (Err fault) e = absurd cc

part_false : (a b : Bool) → (a || b) ≡ false → (a ≡ false) × (b ≡ false)
part_false true b e = absurd cc
part_false false b e = (refl, e)

pub fits_so : (hash : List ℕ) → list_any is_forbidden hash ≡ false → (has_byte 58 hash ≡ false) × (has_byte 10 hash ≡ false)
fits_so [] e = (refl, refl)
fits_so (b ∷ bs) e =
    let parts = part_false (is_forbidden b) (list_any is_forbidden bs) e in
    let colon = part_false (eqb b 0 || eqb b 10) (eqb b 58) parts.0 in
    let newline = part_false (eqb b 0) (eqb b 10) colon.0 in
    let rest = fits_so bs parts.1 in
    (rw (colon.1) rest.0, rw (newline.1) rest.1)
