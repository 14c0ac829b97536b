-- Who authenticate of pam_unix lets in.
use Rattle.std.proofs.Common.{◌≡◌, ◌⊎◌, inl, inr, ℕ, Bool, true, false, true≢false, not, ◌&&◌, ◌||◌, nat_lt, cond, if◌then◌else◌, List, [], ◌∷◌, length, Option, Some, None, Result, Ok, Err, codes, unwrap_or, refl, sym, ap, ◌∙◌, subst}
use Rattle.std.specs.Str.{bytes_eq}
use Rattle.std.proofs.lemmas.Bool.{and_parts, eqb-true, ltb-false}
use Rattle.pam_base.specs.declared.call.Func.{Func}
use Rattle.pam_base.specs.declared.call.Func.TheVariants.{Authenticate}
use Rattle.pam_base.specs.declared.code.Code.{Code}
use Rattle.pam_base.specs.declared.code.Code.TheVariants as returns
use Rattle.pam_base.specs.declared.item.ItemName.TheVariants.{User, AuthTok}
use Rattle.pam_base.specs.declared.style.Style.TheVariants.{EchoOff, EchoOn}
use Rattle.pam_outside.specs.Files.{File, file_at}
use Rattle.pam_outside.specs.Paths.{path_of}
use Rattle.conv_port.specs.Conv.{first_text, has_replies, ready_replies, starts_with_mark}
use Rattle.conv_port.specs.declared.conv.ConvFault.TheVariants as faults
use Rattle.pam_room.specs.item_store.specs.Items.{ItemTexts}
use Rattle.pam_room.specs.Call.{PlainCall, has_flag}
use Rattle.pam_room.specs.Module.{SeenRoom, Sight, answered}
use Rattle.pam_room.specs.Say.{AfterPrompt, asked_by, login_prompt, speak, token_asked, user_asked, user_or_ask}
use Rattle.account_db.specs.declared.fault.DbFault.{DbFault}
use Rattle.account_db.specs.declared.passwd.Passwd.{Passwd}
use Rattle.account_db.specs.declared.shadow.Shadow.{Shadow}
use Rattle.account_db.specs.Passwd.{entry_of, passwds_of}
use Rattle.account_db.specs.Shadow.{shadow_of, shadows_of}
use Rattle.module_acts.specs.declared.content.Content.{Content}
use Rattle.module_acts.specs.declared.content.Content.TheVariants as content
use Rattle.module_acts.specs.Accounts.{account_limit, nothing_known}
use Rattle.module_acts.specs.Act.{Act, Stage, answers, asks_user, content_seen, in_room, later, reads_file, sees_items}
use Rattle.module_acts.specs.Arguments.{has_argument}
use Rattle.module_acts.specs.Content.{content_of}
use Rattle.module_acts.specs.Steps.{answers_keeping, asks_token, requests_delay}
use Rattle.sha_crypt.specs.Hash.{crypted}
use Rattle.sha_crypt.specs.declared.setting.SettingFault.{SettingFault}
use Rattle.mod_unix.specs.declared.look.KnownPassword.{KnownPassword}
use Rattle.mod_unix.specs.declared.look.KnownPassword.TheVariants.{Unknown, Unavailable, Plain, Shadowed}
use Rattle.mod_unix.specs.Authenticate.{asks_password, authenticates, unless_open, first_pass_or_asks, delays, is_empty, is_open, is_success, judge_account, keeps_for_setcred, try_first, unless_success, verifies_token, with_first}
use Rattle.mod_unix.specs.Flags.{disallow_null_authtok}
use Rattle.mod_unix.specs.Look.{after_passwd, shadow_if_x, field_among, field_in, field_or_missing, is_x, looks, shadow_among, shadow_in, shadowed}
use Rattle.mod_unix.specs.Unix.{act_of_func}
use Rattle.mod_unix.specs.Verify.{hash_compared, hash_verified, is_locked, verified}
use Rattle.laws_module.specs.Password.{HasPassword, HashOf, InShadow, IsPassword, LetInHasPassword, NeedsNone}

-- ---- texts

same_bytes : (xs ys : List ℕ) → bytes_eq xs ys ≡ true → xs ≡ ys
same_bytes [] [] e = refl
same_bytes [] (y ∷ ys) e = absurd (true≢false (sym e))
same_bytes (x ∷ xs) [] e = absurd (true≢false (sym e))
same_bytes (x ∷ xs) (y ∷ ys) e =
    let p = and_parts _ _ e in
    let a : x ≡ y = eqb-true x y p.0 in
    let b : xs ≡ ys = same_bytes xs ys p.1 in
    cc

filled : (found : Option (List ℕ)) (text : List ℕ) → found ≡ Some text → found ≡ Some (unwrap_or found [])
filled found text is = is ∙ ap (λ (o : Option (List ℕ)). Some (unwrap_or o [])) (sym is)

-- ---- a token that is verified

compared : (same : Bool) (hash made : List ℕ) → bytes_eq made hash ≡ same → (if same then returns.Success else returns.AuthErr) ≡ returns.Success → made ≡ hash
compared true hash made is e = same_bytes made hash is
compared false hash made is e = absurd cc

hashed_so : (hash : List ℕ) (r : Result (List ℕ) SettingFault) → hash_compared hash r ≡ returns.Success → r ≡ Ok hash
hashed_so hash (Ok made) e = ap (λ (h : List ℕ). Ok h) (compared (bytes_eq made hash) hash made refl e)
hashed_so hash (Err fault) e = absurd cc

password_by : (locked long : Bool) (hash token : List ℕ) → is_locked hash ≡ locked → nat_lt 512 (length token) ≡ long → (if locked || long then returns.AuthErr else hash_compared hash (crypted hash token)) ≡ returns.Success → IsPassword hash (Some token)
password_by true long hash token l n e = absurd cc
password_by false true hash token l n e = absurd cc
password_by false false hash token l n e = record { token = token; token_is = refl; short = ltb-false 512 (length token) n; unlocked = l; hashed = hashed_so hash (crypted hash token) e }

password : (hash token : List ℕ) → hash_verified hash token ≡ returns.Success → IsPassword hash (Some token)
unfolding hash_verified
password hash token e = password_by (is_locked hash) (nat_lt 512 (length token)) hash token refl refl e

-- ---- one prompt: a reply is the item, and the user stays

record Filled (before : SeenRoom) (a : AfterPrompt) : Type 0 where
  token_is : a.room.items.auth_tok ≡ Some (unwrap_or a.room.items.auth_tok [])
  user_stays : a.room.items.user ≡ before.items.user

token_by : (has again : Bool) (text : List ℕ) (room before : SeenRoom) → room.items ≡ before.items
    → (asked_by AuthTok (if has then Ok (record { text = text } ∷ []) else if again then Err faults.Again else Err faults.Gone) room).refused ≡ false
    → Filled before (asked_by AuthTok (if has then Ok (record { text = text } ∷ []) else if again then Err faults.Again else Err faults.Gone) room)
token_by true again text room before same e = record { token_is = refl; user_stays = ap (λ (i : ItemTexts). i.user) same }
token_by false true text room before same e = absurd (true≢false e)
token_by false false text room before same e = absurd (true≢false e)

token_filled : (prompt : List ℕ) (room : SeenRoom) → (token_asked false prompt room).refused ≡ false → Filled room (token_asked false prompt room)
token_filled prompt room e =
    let messages = record { style = EchoOff; text = prompt } ∷ [] in
    token_by (has_replies room.conv messages) (room.conv.waits || starts_with_mark room.conv.offers) (first_text (ready_replies room.conv.offers)) (speak messages room).room room refl e

user_by : (has again : Bool) (text : List ℕ) (room : SeenRoom)
    → (asked_by User (if has then Ok (record { text = text } ∷ []) else if again then Err faults.Again else Err faults.Gone) room).refused ≡ false
    → (asked_by User (if has then Ok (record { text = text } ∷ []) else if again then Err faults.Again else Err faults.Gone) room).room.items.user ≡ Some text
user_by true again text room e = refl
user_by false true text room e = absurd (true≢false e)
user_by false false text room e = absurd (true≢false e)

user_or : (found : Option (List ℕ)) (room : SeenRoom) → room.items.user ≡ found → (user_or_ask found room).refused ≡ false → (user_or_ask found room).room.items.user ≡ Some (unwrap_or (user_or_ask found room).room.items.user [])
user_or (Some user) room is e = filled room.items.user user is
user_or None room is e =
    let messages = record { style = EchoOn; text = login_prompt room.items.user_prompt } ∷ [] in
    let text = first_text (ready_replies room.conv.offers) in
    filled (user_or_ask None room).room.items.user text (user_by (has_replies room.conv messages) (room.conv.waits || starts_with_mark room.conv.offers) text (speak messages room).room e)

-- ---- what is decided once the user's hash is known

module _ (call : PlainCall) (look : KnownPassword) where
  record TakesToken (found : Option (List ℕ)) : Type 0 where
    token : List ℕ
    token_is : found ≡ Some token
    verified_so : verified look token ≡ returns.Success

  record Judged (before after : ItemTexts) : Type 0 where
    user_stays : after.user ≡ before.user
    why : TakesToken after.auth_tok ⊎ (is_open call look ≡ true)

  kept : (token : List ℕ) (stage : Stage) → ((with_first look (Some token) keeps_for_setcred stage).code ≡ verified look token) × ((with_first look (Some token) keeps_for_setcred stage).room ≡ stage.room)
  unfolding keeps_for_setcred answers_keeping
  kept token stage = (refl, refl)

  let_by : (stage : Stage) → (unless_success true look keeps_for_setcred stage).room ≡ stage.room
  unfolding keeps_for_setcred answers_keeping
  let_by stage = refl

  unkept : (stage : Stage) → (with_first look None keeps_for_setcred stage).code ≡ returns.AuthErr
  unfolding keeps_for_setcred answers
  unkept stage = refl

  taken : (token : List ℕ) (before : ItemTexts) (stage : Stage) → stage.room.items.user ≡ before.user → stage.room.items.auth_tok ≡ Some token → (with_first look (Some token) keeps_for_setcred stage).code ≡ returns.Success
      → Judged before (with_first look (Some token) keeps_for_setcred stage).room.items
  taken token before stage stays is e =
      let k = kept token stage in
      record {
        user_stays = ap (λ (r : SeenRoom). r.items.user) k.1 ∙ stays;
        why = inl (record { token = token; token_is = ap (λ (r : SeenRoom). r.items.auth_tok) k.1 ∙ is; verified_so = sym k.0 ∙ e });
      }

  asked_so : (refused : Bool) (a : AfterPrompt) (stage : Stage) → a.refused ≡ refused → (a.refused ≡ false → Filled stage.room a)
      → (cond refused (answered returns.ConvErr a.room stage.sight) (with_first look (Some (unwrap_or a.room.items.auth_tok [])) keeps_for_setcred (in_room a.room stage))).code ≡ returns.Success
      → Judged stage.room.items (cond refused (answered returns.ConvErr a.room stage.sight) (with_first look (Some (unwrap_or a.room.items.auth_tok [])) keeps_for_setcred (in_room a.room stage))).room.items
  asked_so true a stage is fills e = absurd cc
  asked_so false a stage is fills e =
      let f = fills is in
      taken (unwrap_or a.room.items.auth_tok []) stage.room.items (in_room a.room stage) f.user_stays f.token_is e

  asks : (stage : Stage) → (asks_password look keeps_for_setcred stage).code ≡ returns.Success → Judged stage.room.items (asks_password look keeps_for_setcred stage).room.items
  unfolding asks_password asks_token
  asks stage e =
      let a = token_asked false (codes "Password: ") stage.room in
      asked_so a.refused a stage refl (token_filled (codes "Password: ") stage.room) e

  first : (found : Option (List ℕ)) (stage : Stage) → stage.room.items.auth_tok ≡ found → (with_first look found keeps_for_setcred stage).code ≡ returns.Success
      → Judged stage.room.items (with_first look found keeps_for_setcred stage).room.items
  first (Some token) stage is e = taken token stage.room.items stage refl is e
  first None stage is e = let u = unkept stage in absurd cc

  success : (code : Code) → is_success code ≡ true → code ≡ returns.Success
  success returns.Success e = refl
  success code e = absurd (true≢false (sym e))

  tried : (good : Bool) (token : List ℕ) (stage : Stage) → is_success (verified look token) ≡ good → stage.room.items.auth_tok ≡ Some token → (unless_success good look keeps_for_setcred stage).code ≡ returns.Success
      → Judged stage.room.items (unless_success good look keeps_for_setcred stage).room.items
  tried true token stage good is e =
      let k = let_by stage in
      record {
        user_stays = ap (λ (r : SeenRoom). r.items.user) k;
        why = inl (record { token = token; token_is = ap (λ (r : SeenRoom). r.items.auth_tok) k ∙ is; verified_so = success (verified look token) good });
      }
  tried false token stage good is e = asks stage e

  tries : (found : Option (List ℕ)) (stage : Stage) → stage.room.items.auth_tok ≡ found → (try_first look found keeps_for_setcred stage).code ≡ returns.Success
      → Judged stage.room.items (try_first look found keeps_for_setcred stage).room.items
  tries (Some token) stage is e = tried (is_success (verified look token)) token stage refl is e
  tries None stage is e = asks stage e

  passes : (given try : Bool) (stage : Stage) → (first_pass_or_asks given try look keeps_for_setcred stage).code ≡ returns.Success → Judged stage.room.items (first_pass_or_asks given try look keeps_for_setcred stage).room.items
  unfolding sees_items
  passes true try stage e = first stage.room.items.auth_tok stage refl e
  passes false true stage e = tries stage.room.items.auth_tok stage refl e
  passes false false stage e = asks stage e

  verifies : (stage : Stage) → (verifies_token call look keeps_for_setcred stage).code ≡ returns.Success → Judged stage.room.items (verifies_token call look keeps_for_setcred stage).room.items
  unfolding verifies_token
  verifies stage e = passes (has_argument (codes "use_first_pass") call.args) (has_argument (codes "try_first_pass") call.args) stage e

  delayed : (none : Bool) (stage : Stage) → (delays none (verifies_token call look keeps_for_setcred) stage).code ≡ returns.Success → Judged stage.room.items (delays none (verifies_token call look keeps_for_setcred) stage).room.items
  unfolding requests_delay
  delayed true stage e = verifies stage e
  delayed false stage e = verifies _ e

  opened : (free : Bool) (stage : Stage) → is_open call look ≡ free → (unless_open free call look keeps_for_setcred stage).code ≡ returns.Success → Judged stage.room.items (unless_open free call look keeps_for_setcred stage).room.items
  opened true stage is e = record { user_stays = ap (λ (r : SeenRoom). r.items.user) (let_by stage); why = inr is }
  opened false stage is e = delayed (has_argument (codes "nodelay") call.args) stage e

  judged : (stage : Stage) → (judge_account call look keeps_for_setcred stage).code ≡ returns.Success → Judged stage.room.items (judge_account call look keeps_for_setcred stage).room.items
  unfolding judge_account
  judged stage e = opened (is_open call look) stage refl e

-- ---- in terms of the hash

no_hash : (hash : List ℕ) → is_empty hash ≡ true → hash ≡ []
no_hash [] e = refl
no_hash (b ∷ bs) e = absurd (true≢false (sym e))

not_set : (b : Bool) → not b ≡ true → b ≡ false
not_set true e = absurd (true≢false (sym e))
not_set false e = refl

module _ (call : PlainCall) where
  needs_none : (hash : List ℕ) → (is_empty hash && has_argument (codes "nullok") call.args && not (has_flag call.flags disallow_null_authtok)) ≡ true → NeedsNone call hash
  needs_none hash e =
      let p = and_parts _ _ e in
      let q = and_parts _ _ p.0 in
      record { empty = no_hash hash q.0; nullok = q.1; allowed = not_set (has_flag call.flags disallow_null_authtok) p.1 }

  has_password : (hash : List ℕ) (found : Option (List ℕ)) (token : List ℕ) → found ≡ Some token → hash_verified hash token ≡ returns.Success → IsPassword hash found
  has_password hash found token is e = subst (IsPassword hash) (sym is) (password hash token e)

  -- what is known at the end, from a stage on
  record Ends (root : List ℕ) (files : List File) (user : List ℕ) (before after : ItemTexts) : Type 0 where
    user_stays : after.user ≡ before.user
    hash : List ℕ
    hash_is : HashOf root files user hash
    password_is : IsPassword hash after.auth_tok ⊎ NeedsNone call hash

  unknown : (found : Option (List ℕ)) → TakesToken call Unknown found ⊎ (is_open call Unknown ≡ true) → ⊥
  unknown found (inl t) = absurd (let v = t.verified_so in cc)
  unknown found (inr o) = true≢false (sym o)

  unavailable : (found : Option (List ℕ)) → TakesToken call Unavailable found ⊎ (is_open call Unavailable ≡ true) → ⊥
  unavailable found (inl t) = absurd (let v = t.verified_so in cc)
  unavailable found (inr o) = true≢false (sym o)

  plain : (hash : List ℕ) (found : Option (List ℕ)) → TakesToken call (Plain hash) found ⊎ (is_open call (Plain hash) ≡ true) → IsPassword hash found ⊎ NeedsNone call hash
  plain hash found (inl t) = inl (has_password hash found t.token t.token_is t.verified_so)
  plain hash found (inr o) = inr (needs_none hash o)

  in_shadow : (entry : Shadow) (found : Option (List ℕ)) → TakesToken call (Shadowed entry) found ⊎ (is_open call (Shadowed entry) ≡ true) → IsPassword entry.hash found ⊎ NeedsNone call entry.hash
  in_shadow entry found (inl t) = inl (has_password entry.hash found t.token t.token_is t.verified_so)
  in_shadow entry found (inr o) = inr (needs_none entry.hash o)

-- ---- the user's hash

holds_by : (b : Bool) (text old : List ℕ) → cond b content.Unreadable (content.Holds text) ≡ content.Holds old → Some text ≡ Some old
holds_by true text old e = absurd cc
holds_by false text old e = let same : text ≡ old = cc in ap (λ (t : List ℕ). Some t) same

holds : (failing : Bool) (limit : ℕ) (found : Option (List ℕ)) (old : List ℕ) → content_of failing limit found ≡ content.Holds old → found ≡ Some old
unfolding content_of
holds true limit found old e = absurd cc
holds false limit None old e = absurd cc
holds false limit (Some text) old e = holds_by (nat_lt limit (length text)) text old e

abbrev judged_by : PlainCall → KnownPassword → Act
judged_by call look = judge_account call look keeps_for_setcred

module _ (call : PlainCall) (user : List ℕ) where
  abbrev judges : KnownPassword → Act
  judges look = judge_account call look keeps_for_setcred

  abbrev Done : Sight → ItemTexts → ItemTexts → Type 0
  Done sight before after = Ends call sight.root sight.files user before after

  not_unknown : (sight : Sight) (stage : Stage) → (judges Unknown stage).code ≡ returns.Success → Done sight stage.room.items (judges Unknown stage).room.items
  not_unknown sight stage e = absurd (unknown call _ (judged call Unknown stage e).why)

  not_unavailable : (sight : Sight) (stage : Stage) → (judges Unavailable stage).code ≡ returns.Success → Done sight stage.room.items (judges Unavailable stage).room.items
  not_unavailable sight stage e = absurd (unavailable call _ (judged call Unavailable stage e).why)

  -- passwd was read, and has the user
  record Listed (sight : Sight) (field : List ℕ) : Type 0 where
    passwd : List ℕ
    passwd_is : file_at (path_of sight.root (codes "/etc/passwd")) sight.files ≡ Some passwd
    entries : List Passwd
    entries_are : passwds_of passwd ≡ Ok entries
    entry : Passwd
    entry_is : entry_of user entries ≡ Some entry
    field_is : entry.password ≡ field

  hash_by : (sight : Sight) (field hash : List ℕ) → Listed sight field → (field ≡ hash) ⊎ ((field ≡ codes "x") × InShadow sight.root sight.files user hash) → HashOf sight.root sight.files user hash
  hash_by sight field hash l (inl same) = record { passwd = l.passwd; passwd_is = l.passwd_is; entries = l.entries; entries_are = l.entries_are; entry = l.entry; entry_is = l.entry_is; hash_is = inl (l.field_is ∙ same) }
  hash_by sight field hash l (inr x) = record { passwd = l.passwd; passwd_is = l.passwd_is; entries = l.entries; entries_are = l.entries_are; entry = l.entry; entry_is = l.entry_is; hash_is = inr (l.field_is ∙ x.0, x.1) }

  module _ (sight : Sight) (field : List ℕ) (listed : Listed sight field) where
    plainly : (stage : Stage) → (judges (Plain field) stage).code ≡ returns.Success → Done sight stage.room.items (judges (Plain field) stage).room.items
    plainly stage e =
        let j = judged call (Plain field) stage e in
        record { user_stays = j.user_stays; hash = field; hash_is = hash_by sight field field listed (inl refl); password_is = plain call field _ j.why }

    module _ (is : field ≡ codes "x") (text : List ℕ) (text_is : file_at (path_of sight.root (codes "/etc/shadow")) sight.files ≡ Some text) where
      by_entry : (found : Option Shadow) (es : List Shadow) (stage : Stage) → shadows_of text ≡ Ok es → shadow_of user es ≡ found → (judges (shadowed found) stage).code ≡ returns.Success → Done sight stage.room.items (judges (shadowed found) stage).room.items
      by_entry None es stage are there e = not_unavailable sight stage e
      by_entry (Some entry) es stage are there e =
          let j = judged call (Shadowed entry) stage e in
          let s : InShadow sight.root sight.files user entry.hash = record { shadow = text; shadow_is = text_is; entries = es; entries_are = are; entry = entry; entry_is = there; hash_is = refl } in
          record { user_stays = j.user_stays; hash = entry.hash; hash_is = hash_by sight field entry.hash listed (inr (is, s)); password_is = in_shadow call entry _ j.why }

      by_entries : (r : Result (List Shadow) DbFault) (stage : Stage) → shadows_of text ≡ r → (judges (shadow_among user r) stage).code ≡ returns.Success → Done sight stage.room.items (judges (shadow_among user r) stage).room.items
      by_entries (Err fault) stage are e = not_unavailable sight stage e
      by_entries (Ok es) stage are e = by_entry (shadow_of user es) es stage are refl e

    by_content : (c : Content) (stage : Stage) → field ≡ codes "x" → ((text : List ℕ) → c ≡ content.Holds text → file_at (path_of sight.root (codes "/etc/shadow")) sight.files ≡ Some text)
        → (judges (shadow_in user c) stage).code ≡ returns.Success → Done sight stage.room.items (judges (shadow_in user c) stage).room.items
    by_content content.Absent stage is at e = not_unavailable sight stage e
    by_content content.Unreadable stage is at e = not_unavailable sight stage e
    by_content (content.Holds text) stage is at e = by_entries is text (at text refl) (shadows_of text) stage refl e

    by_password : (x : Bool) (stage : Stage) → is_x field ≡ x → stage.sight.root ≡ sight.root → stage.sight.files ≡ sight.files → (shadow_if_x x user field judges stage).code ≡ returns.Success
        → Done sight stage.room.items (shadow_if_x x user field judges stage).room.items
    unfolding reads_file
    by_password true stage is root files e =
        by_content (content_seen (codes "/etc/shadow") account_limit stage.sight) (record stage { sight = later stage.sight }) (same_bytes field (codes "x") is)
        (λ text h. ap (λ (r : List ℕ). file_at (path_of r (codes "/etc/shadow")) sight.files) (sym root)
        ∙ ap (file_at (path_of stage.sight.root (codes "/etc/shadow"))) (sym files)
        ∙ holds (stage.sight.failing 0) account_limit (file_at (path_of stage.sight.root (codes "/etc/shadow")) stage.sight.files) text h) e
    by_password false stage is root files e = plainly stage e

  -- from a stage at which passwd is to be read
  module _ (sight : Sight) where
    abbrev Now : Stage → Type 0
    Now stage = (stage.sight.root ≡ sight.root) × (stage.sight.files ≡ sight.files)

    entry_by : (found : Option Passwd) (es : List Passwd) (text : List ℕ) (stage : Stage) → file_at (path_of sight.root (codes "/etc/passwd")) sight.files ≡ Some text → passwds_of text ≡ Ok es → entry_of user es ≡ found → Now stage
        → (after_passwd user (field_or_missing found) judges stage).code ≡ returns.Success → Done sight stage.room.items (after_passwd user (field_or_missing found) judges stage).room.items
    entry_by None es text stage at are there now e = not_unknown sight stage e
    entry_by (Some entry) es text stage at are there now e =
        let l : Listed sight entry.password = record { passwd = text; passwd_is = at; entries = es; entries_are = are; entry = entry; entry_is = there; field_is = refl } in
        by_password sight entry.password l (is_x entry.password) stage refl now.0 now.1 e

    entries_by : (r : Result (List Passwd) DbFault) (text : List ℕ) (stage : Stage) → file_at (path_of sight.root (codes "/etc/passwd")) sight.files ≡ Some text → passwds_of text ≡ r → Now stage
        → (after_passwd user (field_among user r) judges stage).code ≡ returns.Success → Done sight stage.room.items (after_passwd user (field_among user r) judges stage).room.items
    entries_by (Err fault) text stage at are now e = not_unavailable sight stage e
    entries_by (Ok es) text stage at are now e = entry_by (entry_of user es) es text stage at are refl now e

    content_by : (c : Content) (stage : Stage) → ((text : List ℕ) → c ≡ content.Holds text → file_at (path_of sight.root (codes "/etc/passwd")) sight.files ≡ Some text) → Now stage
        → (after_passwd user (field_in user c) judges stage).code ≡ returns.Success → Done sight stage.room.items (after_passwd user (field_in user c) judges stage).room.items
    content_by content.Absent stage at now e = not_unavailable sight stage e
    content_by content.Unreadable stage at now e = not_unavailable sight stage e
    content_by (content.Holds text) stage at now e = entries_by (passwds_of text) text stage (at text refl) refl now e

  looked : (stage : Stage) → (looks user judges stage).code ≡ returns.Success → Done stage.sight stage.room.items (looks user judges stage).room.items
  unfolding looks reads_file
  looked stage e =
      content_by stage.sight (content_seen (codes "/etc/passwd") account_limit stage.sight) (record stage { sight = later stage.sight })
      (λ text h. holds (stage.sight.failing 0) account_limit (file_at (path_of stage.sight.root (codes "/etc/passwd")) stage.sight.files) text h) (refl, refl) e

-- ---- the user is asked for first

ends_well : (call : PlainCall) (root : List ℕ) (files : List File) (user : List ℕ) (before after : ItemTexts) → before.user ≡ Some user → Ends call root files user before after → HasPassword call root files after
ends_well call root files user before after is d = record { user = user; user_is = d.user_stays ∙ is; hash = d.hash; hash_is = d.hash_is; password = d.password_is }

by_asking : (call : PlainCall) (refused : Bool) (a : AfterPrompt) (stage : Stage) → a.refused ≡ refused → (a.refused ≡ false → a.room.items.user ≡ Some (unwrap_or a.room.items.user []))
    → (cond refused (answered returns.ConvErr a.room stage.sight) (looks (unwrap_or a.room.items.user []) (judged_by call) (in_room a.room stage))).code ≡ returns.Success
    → HasPassword call stage.sight.root stage.sight.files (cond refused (answered returns.ConvErr a.room stage.sight) (looks (unwrap_or a.room.items.user []) (judged_by call) (in_room a.room stage))).room.items
by_asking call true a stage is fills e = absurd cc
by_asking call false a stage is fills e =
    let user = unwrap_or a.room.items.user [] in
    ends_well call stage.sight.root stage.sight.files user a.room.items _ (fills is) (looked call user (in_room a.room stage) e)

asked_first : (call : PlainCall) (stage : Stage) → (authenticates call keeps_for_setcred stage).code ≡ returns.Success → HasPassword call stage.sight.root stage.sight.files (authenticates call keeps_for_setcred stage).room.items
unfolding authenticates asks_user
asked_first call stage e = by_asking call (user_asked stage.room).refused (user_asked stage.room) stage refl (user_or stage.room.items.user stage.room refl) e

by_function : (f : Func) (call : PlainCall) (stage : Stage) → f ≡ Authenticate → (act_of_func f call stage).code ≡ returns.Success → HasPassword call stage.sight.root stage.sight.files (act_of_func f call stage).room.items
by_function f call stage is e =
    let P : Func → Type 0 = λ x. (act_of_func x call stage).code ≡ returns.Success → HasPassword call stage.sight.root stage.sight.files (act_of_func x call stage).room.items in
    subst P (sym is) (asked_first call stage) e

pub let_in : LetInHasPassword
let_in call room held sight is e = by_function call.func call (record { room = room; held = held; known = nothing_known; sight = sight }) is e
