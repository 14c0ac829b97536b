-- The name of a user with an account, and the user's hash, can be in a line of the history.
use Rattle.std.proofs.Common.{◌≡◌, ℕ, zero, suc, Bool, true, false, ◌&&◌, ◌==◌, nat_lt, cond, List, [], ◌∷◌, length, slice_index_or, Option, Some, None, Result, Ok, Err, codes, position, refl, sym, subst}
use Rattle.std.specs.List.{AllByRecursion, cons_option, filter_map, find}
use Rattle.std.specs.Str.{bytes_eq}
use Rattle.std.proofs.lemmas.Bool.{and_parts}
use Rattle.std.proofs.lemmas.Slice.Eq.{bytes_eq-Decides}
use Rattle.pam_base.specs.Bytes.{has_byte}
use Rattle.pam_base.specs.Lines.{lines_of}
use Rattle.pam_base.specs.Number.{number_of_word}
use Rattle.pam_outside.specs.Files.{File}
use Rattle.account_db.specs.declared.fault.DbFault.{DbFault}
use Rattle.account_db.specs.declared.passwd.Passwd.{Passwd}
use Rattle.account_db.specs.declared.shadow.Shadow.{Shadow}
use Rattle.account_db.specs.Entries.{entries_of, entry_in, is_faulty, is_passed_over, unless_faulty}
use Rattle.account_db.specs.Parts.{field, fields_of}
use Rattle.account_db.specs.Passwd.{entry_of, passwd_in, passwds_of, with_ids}
use Rattle.account_db.specs.Shadow.{are_days, shadow_in as shadow_entry_in, shadow_of, shadows_of}
use Rattle.std.specs.Result.{result_ok}
use Rattle.module_acts.specs.declared.content.Content.{Content}
use Rattle.module_acts.specs.declared.content.Content.TheVariants as content
use Rattle.module_acts.specs.Accounts.{passwds_in}
use Rattle.mod_unix.specs.Look.{is_x, shadow_among, shadow_in, shadowed}
use Rattle.mod_history.specs.History.{IsPart, part_in}
use Rattle.mod_history.specs.Standing.{account_text, entry_hash, hash_by, hash_in, passwd_hash, present_hash}
use Rattle.mod_history.proofs.Wellformed.{Lack, lines_lack, other_lack, own_lack, some_same}

-- a text without colons and newlines
pub record Lacks (text : List ℕ) : Type 0 where
  pub colons : has_byte 58 text ≡ false
  pub newlines : has_byte 10 text ≡ false

-- ---- fields

nth_lack : (byte n : ℕ) (ls : List (List ℕ)) → Lack byte ls → has_byte byte (slice_index_or ls n []) ≡ false
nth_lack byte n [] h = refl
nth_lack byte zero (l ∷ ls) h = h.0
nth_lack byte (suc n) (l ∷ ls) h = nth_lack byte n ls h.1

field_lacks : (n : ℕ) (line : List ℕ) → has_byte 10 line ≡ false → Lacks (field n line)
field_lacks n line lack = record { colons = nth_lack 58 n (fields_of line) (own_lack 58 line); newlines = nth_lack 10 n (fields_of line) (other_lack 10 58 line lack) }

filled_by : (text : List ℕ) → nat_lt 0 (length text) ≡ true → part_in text ≡ Some text
filled_by [] e = absurd cc
filled_by (b ∷ bs) e = refl

-- ---- the entries of a file

module _ {E : Type 0} (form : List ℕ → Option E) (P : E → Type 0) (each : (line : List ℕ) (e : E) → has_byte 10 line ≡ false → form line ≡ Some e → P e) where
  entry_by : (passed : Bool) (line : List ℕ) (e : E) → has_byte 10 line ≡ false → cond passed None (form line) ≡ Some e → P e
  entry_by true line e lack is = absurd cc
  entry_by false line e lack is = each line e lack is

  front : (o : Option E) (es : List E) → ((e : E) → o ≡ Some e → P e) → AllByRecursion P es → AllByRecursion P (cons_option o es)
  front None es first rest = rest
  front (Some e) es first rest = (first e refl, rest)

  all_fit : (lines : List (List ℕ)) → Lack 10 lines → AllByRecursion P (filter_map (entry_in form) lines)
  all_fit [] lack = tt
  all_fit (l ∷ ls) lack = front (entry_in form l) (filter_map (entry_in form) ls) (λ e is. entry_by (is_passed_over l) l e lack.0 is) (all_fit ls lack.1)

  by_fault : (o : Option ℕ) (lines : List (List ℕ)) (es : List E) → Lack 10 lines → unless_faulty form o lines ≡ Ok es → AllByRecursion P es
  by_fault (Some n) lines es lack is = absurd cc
  by_fault None lines es lack is = let same : filter_map (entry_in form) lines ≡ es = cc in subst (AllByRecursion P) same (all_fit lines lack)

  file_fits : (text : List ℕ) (es : List E) → entries_of form text ≡ Ok es → AllByRecursion P es
  unfolding entries_of
  file_fits text es is = by_fault (position (is_faulty form) (lines_of text)) (lines_of text) es (lines_lack text) is

module _ {E : Type 0} (P : E → Type 0) (q : E → Bool) where
  -- an entry that was found
  record Found (e : E) : Type 0 where
    fits : P e
    asked : q e ≡ true

  found_by : (b : Bool) (e : E) (es : List E) (found : E) → q e ≡ b → P e → (find q es ≡ Some found → Found found) → cond b (Some e) (find q es) ≡ Some found → Found found
  found_by true e es found t fits rest is = subst Found (some_same e found is) (record { fits = fits; asked = t })
  found_by false e es found t fits rest is = rest is

  found_fits : (es : List E) (found : E) → AllByRecursion P es → find q es ≡ Some found → Found found
  found_fits [] found all is = absurd cc
  found_fits (e ∷ es) found all is = found_by (q e) e es found refl all.0 (found_fits es found all.1) is

-- ---- passwd

record IsAccount (entry : Passwd) : Type 0 where
  name : IsPart entry.name
  password : Lacks entry.password

ids_fit : (line : List ℕ) (uid gid : Option ℕ) (entry : Passwd) → part_in (field 0 line) ≡ Some (field 0 line) → has_byte 10 line ≡ false → with_ids line uid gid ≡ Some entry → IsAccount entry
ids_fit line None gid entry filled lack is = absurd cc
ids_fit line (Some uid) None entry filled lack is = absurd cc
ids_fit line (Some uid) (Some gid) entry filled lack is =
    let name = field_lacks 0 line lack in
    subst IsAccount (some_same _ entry is) (record { name = record { filled = filled; colons = name.colons; newlines = name.newlines }; password = field_lacks 1 line lack })

line_by : (b : Bool) (line : List ℕ) (entry : Passwd) → (length (fields_of line) == 7 && nat_lt 0 (length (field 0 line))) ≡ b → has_byte 10 line ≡ false
    → cond b (with_ids line (number_of_word (field 2 line)) (number_of_word (field 3 line))) None ≡ Some entry → IsAccount entry
line_by false line entry t lack is = absurd cc
line_by true line entry t lack is =
    ids_fit line (number_of_word (field 2 line)) (number_of_word (field 3 line)) entry (filled_by (field 0 line) (and_parts (length (fields_of line) == 7) (nat_lt 0 (length (field 0 line))) t).1) lack is

passwd_fits : (line : List ℕ) (entry : Passwd) → has_byte 10 line ≡ false → passwd_in line ≡ Some entry → IsAccount entry
passwd_fits line entry lack is = line_by (length (fields_of line) == 7 && nat_lt 0 (length (field 0 line))) line entry refl lack is

module _ (user : List ℕ) where
  -- the user and the password field
  record Stands (hash : List ℕ) : Type 0 where
    name : IsPart user
    text : Lacks hash

  stands : (entry : Passwd) → Found IsAccount (λ (p : Passwd). bytes_eq p.name user) entry → Stands entry.password
  stands entry f = record { name = subst IsPart ((bytes_eq-Decides entry.name user).0 f.asked) f.fits.name; text = f.fits.password }

-- ---- shadow

record HasHash (entry : Shadow) : Type 0 where
  hash : Lacks entry.hash

shadow_by : (b : Bool) (line : List ℕ) (entry : Shadow) (made : Shadow) → has_byte 10 line ≡ false → made.hash ≡ field 1 line → cond b (Some made) None ≡ Some entry → HasHash entry
shadow_by false line entry made lack at is = absurd cc
shadow_by true line entry made lack at is = subst HasHash (some_same made entry is) (record { hash = subst Lacks (sym at) (field_lacks 1 line lack) })

shadow_fits : (line : List ℕ) (entry : Shadow) → has_byte 10 line ≡ false → shadow_entry_in line ≡ Some entry → HasHash entry
shadow_fits line entry lack is = shadow_by (length (fields_of line) == 9 && are_days line) line entry (record {
  name = field 0 line;
  hash = field 1 line;
  last_change = number_of_word (field 2 line);
  min = number_of_word (field 3 line);
  max = number_of_word (field 4 line);
  warn = number_of_word (field 5 line);
  inactive = number_of_word (field 6 line);
  expire = number_of_word (field 7 line);
  reserved = field 8 line;
}) lack refl is

by_shadow : (o : Option Shadow) (hash : List ℕ) → ((entry : Shadow) → o ≡ Some entry → HasHash entry) → hash_in (shadowed o) ≡ Some hash → Lacks hash
by_shadow None hash fits is = absurd cc
by_shadow (Some entry) hash fits is = subst Lacks (some_same entry.hash hash is) (fits entry refl).hash

by_shadows : (r : Result (List Shadow) DbFault) (user hash : List ℕ) → ((es : List Shadow) → r ≡ Ok es → AllByRecursion HasHash es) → hash_in (shadow_among user r) ≡ Some hash → Lacks hash
by_shadows (Err fault) user hash fit is = absurd cc
by_shadows (Ok es) user hash fit is = by_shadow (shadow_of user es) hash (λ entry e. (found_fits HasHash (λ (s : Shadow). bytes_eq s.name user) es entry (fit es refl) e).fits) is

shadow_lacks : (c : Content) (user hash : List ℕ) → hash_in (shadow_in user c) ≡ Some hash → Lacks hash
shadow_lacks content.Absent user hash is = absurd cc
shadow_lacks content.Unreadable user hash is = absurd cc
shadow_lacks (content.Holds text) user hash is = by_shadows (shadows_of text) user hash (λ es e. file_fits shadow_entry_in HasHash shadow_fits text es e) is

-- ---- the present hash

by_x : (x : Bool) (user field_ found : List ℕ) (c : Content) → Stands user field_ → hash_by x user field_ c ≡ Some found → Stands user found
by_x true user field_ found c s is = record { name = s.name; text = shadow_lacks c user found is }
by_x false user field_ found c s is = subst (Stands user) (some_same field_ found is) s

by_entry : (o : Option Passwd) (user found : List ℕ) (c : Content) → ((entry : Passwd) → o ≡ Some entry → Stands user entry.password) → entry_hash user o c ≡ Some found → Stands user found
by_entry None user found c s is = absurd cc
by_entry (Some entry) user found c s is = by_x (is_x entry.password) user entry.password found c (s entry refl) is

by_passwds : (r : Result (List Passwd) DbFault) (user found : List ℕ) (c : Content) → ((es : List Passwd) → r ≡ Ok es → AllByRecursion IsAccount es) → passwd_hash user (result_ok r) c ≡ Some found → Stands user found
by_passwds (Err fault) user found c fit is = absurd cc
by_passwds (Ok es) user found c fit is =
    by_entry (entry_of user es) user found c (λ entry e. stands user entry (found_fits IsAccount (λ (p : Passwd). bytes_eq p.name user) es entry (fit es refl) e)) is

by_content : (passwd : Content) (user found : List ℕ) (c : Content) → passwd_hash user (passwds_in passwd) c ≡ Some found → Stands user found
by_content content.Absent user found c is = absurd cc
by_content content.Unreadable user found c is = absurd cc
by_content (content.Holds text) user found c is = by_passwds (passwds_of text) user found c (λ es e. file_fits passwd_in IsAccount passwd_fits text es e) is

pub present_stands : (root : List ℕ) (files : List File) (user hash : List ℕ) → present_hash root files user ≡ Some hash → IsPart user × Lacks hash
present_stands root files user hash is =
    let s = by_content (account_text root (codes "/etc/passwd") files) user hash (account_text root (codes "/etc/shadow") files) is in
    (s.name, s.text)
