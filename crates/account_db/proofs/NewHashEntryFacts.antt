-- A file with a new hash is read as the same entries, except that the first entry of the user has this hash.
use Rattle.std.proofs.Common.{◌≡◌, ◌≢◌, ℕ, ◌^◌, ◌<◌, Bool, true, false, cond, eqb, List, [], ◌∷◌, ◌++◌, drop, slice_index_or, Option, Some, None, Ok, decimal, position, refl, sym, ap, ◌∙◌, subst}
use Rattle.std.specs.Char.{is_ascii_digit}
use Rattle.std.specs.List.{join_with_byte, onto_first, slice_split}
use Rattle.std.specs.Str.{bytes_eq}
use Rattle.std.proofs.lemmas.List.Splits.{join_with_byte-slice_split}
use Rattle.std.proofs.lemmas.Slice.Eq.{bytes_eq-Decides}
use Rattle.pam_base.specs.Bytes.{has_byte}
use Rattle.pam_base.specs.Lines.{lines_of}
use Rattle.account_db.specs.declared.shadow.Shadow.{Shadow}
use Rattle.account_db.specs.Entries.{entries_of, is_faulty, is_line_of, is_passed_over, unless_faulty}
use Rattle.account_db.specs.Parts.{field, fields_of}
use Rattle.pam_base.specs.Parts.{parts_of}
use Rattle.account_db.specs.Replace.{changed_entries, changed_line, changed_lines, renewed, with_hash}
use Rattle.account_db.specs.Shadow.{shadow_in, shadow_named, shadow_of, shadows_of}
use Rattle.account_db.proofs.AbsentByteFacts.{Lack, own_lack, other_lack, join_lack, first_lack, drop_lack, split_join, lines_from, lines_joined}
use Rattle.account_db.proofs.Faultless.{Fine, entries, read_back, read_on, from_fine, fine_from, entries_from}
use Rattle.account_db.proofs.Nine_fields.{decimal_lacks, are_its_days, is_its_number, shadow_from, from_renewed}

-- ---- the user's line

-- what begins with the first field of a line isn't skipped, if the line isn't
by_separator : (x : Bool) (b : ℕ) (ps : List (List ℕ)) (more : List ℕ) → is_passed_over (b ∷ []) ≡ false → is_passed_over (slice_index_or (cond x ([] ∷ ps) (onto_first b ps)) 0 [] ++ 58 ∷ more) ≡ false
by_separator true b ps more h = refl
by_separator false b [] more h = h
by_separator false b (p ∷ ps) more h = h

not_passed : (line more : List ℕ) → is_passed_over line ≡ false → is_passed_over (field 0 line ++ 58 ∷ more) ≡ false
unfolding parts_of
not_passed [] more h = absurd cc
not_passed (b ∷ bs) more h = by_separator (eqb b 58) b (slice_split (λ c. eqb c 58) bs) more h

module _ (user hash : List ℕ) (day : ℕ) (colon : has_byte 58 hash ≡ false) (newline : has_byte 10 hash ≡ false) (small : day < 10 ^ 9) where
  changed_lack : (byte : ℕ) (line : List ℕ) → eqb 58 byte ≡ false → has_byte byte hash ≡ false → is_ascii_digit byte ≡ false → has_byte byte line ≡ false → has_byte byte (changed_line hash day line) ≡ false
  unfolding changed_line
  changed_lack byte line other none digit h =
      let fields = other_lack byte 58 line h in
      join_lack byte 58 (field 0 line ∷ hash ∷ decimal day ∷ drop 3 (fields_of line)) other
      (first_lack byte (fields_of line) fields, (none, (decimal_lacks day small byte digit, drop_lack byte 3 (fields_of line) fields)))

  fields_changed : (line : List ℕ) → fields_of (changed_line hash day line) ≡ field 0 line ∷ hash ∷ decimal day ∷ drop 3 (fields_of line)
  unfolding changed_line
  fields_changed line =
      let own = own_lack 58 line in
      split_join 58 (field 0 line) (hash ∷ decimal day ∷ drop 3 (fields_of line))
      (first_lack 58 (fields_of line) own, (colon, (decimal_lacks day small 58 refl, drop_lack 58 3 (fields_of line) own)))

  line_renewed : (line : List ℕ) (s : Shadow) → shadow_in line ≡ Some s → shadow_in (changed_line hash day line) ≡ Some (renewed hash day s)
  line_renewed line s eq = ap shadow_from (fields_changed line) ∙ from_renewed hash (decimal day) day (are_its_days day small) (is_its_number day small) (fields_of line) s eq

  still_counts : (line : List ℕ) → is_passed_over line ≡ false → is_passed_over (changed_line hash day line) ≡ false
  unfolding changed_line
  still_counts line h = not_passed line (join_with_byte 58 (hash ∷ decimal day ∷ drop 3 (fields_of line))) h

-- ---- all lines, in terms of the form of an entry

module _ (form : List ℕ → Option Shadow) (user hash : List ℕ) (day : ℕ)
    (named : (line : List ℕ) (s : Shadow) → form line ≡ Some s → s.name ≡ field 0 line)
    (again : (line : List ℕ) (s : Shadow) → form line ≡ Some s → form (changed_line hash day line) ≡ Some (renewed hash day s))
    (counts : (line : List ℕ) → is_passed_over line ≡ false → is_passed_over (changed_line hash day line) ≡ false) where
  record After (lines : List (List ℕ)) : Type 0 where
    fine : Fine form (changed_lines user hash day lines)
    are : entries form (changed_lines user hash day lines) ≡ changed_entries user hash day (entries form lines)

  renewed_named : (s : Shadow) (name : List ℕ) (b : Bool) → s.name ≡ name → bytes_eq name user ≡ b → bytes_eq s.name user ≡ b
  renewed_named s name b e h = ap (λ (n : List ℕ). bytes_eq n user) e ∙ h

  step : (passed : Bool) (found : Option Shadow) (users : Bool) (line : List ℕ) (lines : List (List ℕ)) → is_passed_over line ≡ passed → form line ≡ found → bytes_eq (field 0 line) user ≡ users
      → Fine form (line ∷ lines) → After lines → After (line ∷ lines)
  step true found users line lines p f u fine after = record { fine = rw p (fine.0, after.fine); are = rw (p, p) after.are }
  step false None users line lines p f u fine after = let no : ◌≡◌ {A = Bool} true false = rw (p, f) at fine.0 in absurd cc
  step false (Some s) true line lines p f u fine after =
      let users = renewed_named s (field 0 line) true (named line s f) u in
      record {
        fine = rw (p, u, counts line p, again line s f) (refl, fine.1);
        are = rw (p, f, u, counts line p, again line s f, users) refl;
      }
  step false (Some s) false line lines p f u fine after =
      let users = renewed_named s (field 0 line) false (named line s f) u in
      record {
        fine = rw (p, u) (fine.0, after.fine);
        are = rw (p, u, p, f, users) (ap (λ (es : List Shadow). s ∷ es) after.are);
      }

  all_lines : (lines : List (List ℕ)) → Fine form lines → After lines
  all_lines [] h = record { fine = tt; are = refl }
  all_lines (line ∷ lines) h = step (is_passed_over line) (form line) (bytes_eq (field 0 line) user) line lines refl refl refl h (all_lines lines h.1)

-- ---- the text

module _ (user hash : List ℕ) (day : ℕ) (colon : has_byte 58 hash ≡ false) (newline : has_byte 10 hash ≡ false) (small : day < 10 ^ 9) where
  by_changed : (b : Bool) (line : List ℕ) (lines : List (List ℕ)) → Lack 10 (line ∷ lines) → Lack 10 (changed_lines user hash day lines)
      → Lack 10 (cond b (changed_line hash day line ∷ lines) (line ∷ changed_lines user hash day lines))
  by_changed true line lines h rest = (changed_lack user hash day colon newline small 10 line refl newline refl h.0, h.1)
  by_changed false line lines h rest = (h.0, rest)

  lines_lack : (lines : List (List ℕ)) → Lack 10 lines → Lack 10 (changed_lines user hash day lines)
  lines_lack [] h = tt
  lines_lack (line ∷ lines) h = by_changed (is_line_of user line) line lines h (lines_lack lines h.1)

  pub read_again : (text : List ℕ) (es : List Shadow) → shadows_of text ≡ Ok es → shadows_of (with_hash user hash day text) ≡ Ok (changed_entries user hash day es)
  unfolding entries_of with_hash parts_of
  read_again text es e =
      let ps = parts_of 10 text in
      let own : Lack 10 ps = own_lack 10 text in
      let Read : List (List ℕ) → List Shadow → Type 0 = λ ls found. unless_faulty shadow_in (position (is_faulty shadow_in) ls) ls ≡ Ok found in
      let lines : lines_of text ≡ lines_from ps = ap lines_of (sym (join_with_byte-slice_split 10 text)) ∙ lines_joined ps own in
      let back = read_back shadow_in (lines_from ps) es (subst (λ (ls : List (List ℕ)). Read ls es) lines e) in
      let after = all_lines shadow_in user hash day shadow_named (line_renewed user hash day colon newline small) (still_counts user hash day colon newline small) ps (from_fine shadow_in ps back.0) in
      let changed = changed_lines user hash day ps in
      let now : lines_of (join_with_byte 10 changed) ≡ lines_from changed = lines_joined changed (lines_lack ps own) in
      let are : entries shadow_in (lines_from changed) ≡ changed_entries user hash day es =
      entries_from shadow_in changed ∙ after.are ∙ ap (changed_entries user hash day) (sym (entries_from shadow_in ps) ∙ back.1) in
      subst (λ (ls : List (List ℕ)). Read ls (changed_entries user hash day es)) (sym now)
      (read_on shadow_in (lines_from changed) (fine_from shadow_in changed after.fine) ∙ ap (λ (x : List Shadow). Ok x) are)

-- ---- entries

module _ (user hash : List ℕ) (day : ℕ) where
  users_step : (b : Bool) (s e : Shadow) (es : List Shadow) → bytes_eq s.name user ≡ b → cond b (Some s) (shadow_of user es) ≡ Some e
      → (shadow_of user es ≡ Some e → shadow_of user (changed_entries user hash day es) ≡ Some (renewed hash day e))
      → shadow_of user (cond b (renewed hash day s ∷ es) (s ∷ changed_entries user hash day es)) ≡ Some (renewed hash day e)
  users_step true s e es is found rest = let same : s ≡ e = cc in rw is (ap (λ (x : Shadow). Some (renewed hash day x)) same)
  users_step false s e es is found rest = rw is (rest found)

  pub users_entry : (es : List Shadow) (e : Shadow) → shadow_of user es ≡ Some e → shadow_of user (changed_entries user hash day es) ≡ Some (renewed hash day e)
  users_entry [] e found = absurd cc
  users_entry (s ∷ es) e found = users_step (bytes_eq s.name user) s e es refl found (users_entry es e)

  differs : (b : Bool) (name other : List ℕ) → bytes_eq name other ≡ b → name ≡ user → other ≢ user → b ≡ false
  differs true name other e is apart = absurd (apart (sym ((bytes_eq-Decides name other).0 e) ∙ is))
  differs false name other e is apart = refl

  others_step : (b : Bool) (other : List ℕ) (s : Shadow) (es : List Shadow) → other ≢ user → bytes_eq s.name user ≡ b
      → shadow_of other (changed_entries user hash day es) ≡ shadow_of other es
      → shadow_of other (cond b (renewed hash day s ∷ es) (s ∷ changed_entries user hash day es)) ≡ cond (bytes_eq s.name other) (Some s) (shadow_of other es)
  others_step true other s es apart is rest =
      let none = differs (bytes_eq s.name other) s.name other refl ((bytes_eq-Decides s.name user).0 is) apart in
      rw none refl
  others_step false other s es apart is rest = ap (λ (o : Option Shadow). cond (bytes_eq s.name other) (Some s) o) rest

  pub others_entries : (other : List ℕ) (es : List Shadow) → other ≢ user → shadow_of other (changed_entries user hash day es) ≡ shadow_of other es
  others_entries other [] apart = refl
  others_entries other (s ∷ es) apart = others_step (bytes_eq s.name user) other s es apart refl (others_entries other es apart)
