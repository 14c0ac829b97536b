-- After a change that succeeded the new token is the user's.
use Rattle.std.proofs.Common.{◌≡◌, ◌≢◌, inl, inr, ℕ, ◌^◌, ◌<◌, ◌≤◌, Bool, true, false, cond, List, [], ◌++◌, length, Option, Some, IfSome, Ok, is_ok, codes, unwrap_or, refl, sym, ap, ◌∙◌, subst, arith}
use Rattle.std.specs.List.{list_any}
use Rattle.std.proofs.lemmas.Bool.{le-ltb}
use Rattle.pam_base.specs.Bytes.{has_byte}
use Rattle.pam_base.specs.declared.call.Func.TheVariants.{ChAuthTok}
use Rattle.pam_base.specs.declared.call.Func.{Func}
use Rattle.pam_outside.specs.Files.{File, file_at}
use Rattle.pam_outside.specs.Time.{Time}
use Rattle.pam_room.specs.Call.{PlainCall, has_flag, prelim_check}
use Rattle.pam_room.specs.Module.{NamedData, Played, SeenRoom, Sight, answered}
use Rattle.pam_room.specs.Say.{AfterPrompt, user_asked}
use Rattle.account_db.specs.declared.shadow.Shadow.{Shadow}
use Rattle.account_db.specs.Replace.{changed_entries, renewed, with_hash}
use Rattle.account_db.specs.Shadow.{shadow_of, shadows_of}
use Rattle.module_acts.specs.Accounts.{nothing_known}
use Rattle.module_acts.specs.Act.{Stage, answers, asks_user, in_room}
use Rattle.sha_crypt.specs.Characters.{characters}
use Rattle.sha_crypt.specs.Hash.{crypted}
use Rattle.sha_crypt.specs.Setting.{is_forbidden, rounds_text}
use Rattle.mod_unix.specs.Aging.{day_of}
use Rattle.mod_unix.specs.Change.{change_by, changes_token}
use Rattle.mod_unix.specs.Look.{looks}
use Rattle.mod_unix.specs.NewHash.{hashed_token, made_hash, new_setting}
use Rattle.mod_unix.specs.Changed.{StaysOrIsChanged, TokenIsChanged, shadow_path}
use Rattle.mod_unix.specs.Unix.{act_of_func, unix_plays}
use Rattle.mod_unix.specs.Verify.{hash_verified}
use Rattle.mod_unix.proofs.Faultless.{made}
use Rattle.mod_unix.proofs.New_shadow.{others_stay, same_text, put_there, no_lock, made_ok, fits_so}
use Rattle.mod_unix.proofs.Second_pass.{Written, Ended, looked}
use Rattle.pam_base.specs.declared.code.Code.TheVariants as returns

module _ (read : (user hash : List ℕ) (day : ℕ) (text : List ℕ) (entries : List Shadow) → has_byte 58 hash ≡ false → has_byte 10 hash ≡ false → day < 10 ^ 9 → shadows_of text ≡ Ok entries → shadows_of (with_hash user hash day text) ≡ Ok (changed_entries user hash day entries))
    (users : (user hash : List ℕ) (day : ℕ) (entries : List Shadow) (entry : Shadow) → shadow_of user entries ≡ Some entry → shadow_of user (changed_entries user hash day entries) ≡ Some (renewed hash day entry))
    (others : (user hash : List ℕ) (day : ℕ) (other : List ℕ) (entries : List Shadow) → other ≢ user → shadow_of other (changed_entries user hash day entries) ≡ shadow_of other entries)
    (again : (setting key hash : List ℕ) → crypted setting key ≡ Ok hash → crypted hash key ≡ Ok hash)
    (fits : (setting key hash : List ℕ) → crypted setting key ≡ Ok hash → list_any is_forbidden hash ≡ false)
    (sha256 : (rounds : Option ℕ) (n number : ℕ) (key : List ℕ) → IfSome rounds (λ r. r ≤ 1000000) → is_ok (crypted (codes "$5$" ++ rounds_text rounds ++ characters n number) key) ≡ true)
    (sha512 : (rounds : Option ℕ) (n number : ℕ) (key : List ℕ) → IfSome rounds (λ r. r ≤ 1000000) → is_ok (crypted (codes "$6$" ++ rounds_text rounds ++ characters n number) key) ≡ true) where
  -- a new hash accepts its token
  record Takes (hash token : List ℕ) : Type 0 where
    colon : has_byte 58 hash ≡ false
    newline : has_byte 10 hash ≡ false
    verified : hash_verified hash token ≡ returns.Success

  takes : (args : List (List ℕ)) (word : ℕ) (token : List ℕ) → length token ≤ 512 → Takes (hashed_token args word token) token
  unfolding hashed_token hash_verified
  takes args word token short =
      let setting = new_setting args word in
      let hash = made_hash (crypted setting token) in
      let is : crypted setting token ≡ Ok hash = made_ok (crypted setting token) (made sha256 sha512 args word token) in
      let fit = fits_so hash (fits setting token hash is) in
      record {
        colon = fit.0;
        newline = fit.1;
        verified = rw (no_lock hash token hash (again setting token hash is), le-ltb 512 (length token) short, again setting token hash is, same_text hash) refl;
      }

  stands : (user root : List ℕ) (clock : Time) (before : List File) (room : SeenRoom) (after : List File) → clock.moment ≤ 1000000000000 → Written user root clock before room after → TokenIsChanged root user before room after
  stands user root clock before room after bound w =
      let hash = hashed_token w.args clock.word w.token in
      let day = day_of clock.moment in
      let t = takes w.args clock.word w.token w.short in
      let small : day < 10 ^ 9 = omega arith in
      record {
        token = w.token;
        token_is = w.token_is;
        old = w.old;
        old_is = w.old_is;
        entries = w.entries;
        entries_are = w.entries_are;
        new = with_hash user hash day w.old;
        new_is = ap (file_at (shadow_path root)) w.after_is ∙ put_there (shadow_path root) (with_hash user hash day w.old) before;
        changed = changed_entries user hash day w.entries;
        changed_are = read user hash day w.old w.entries t.colon t.newline small w.entries_are;
        entry = renewed hash day w.entry;
        entry_is = users user hash day w.entries w.entry w.entry_is;
        verified = t.verified;
        others = λ other distinct. others user hash day other w.entries distinct;
        files = λ path distinct. ap (file_at path) w.after_is ∙ others_stay (shadow_path root) path (with_hash user hash day w.old) before distinct;
      }

  ended : (call : PlainCall) (user : List ℕ) (stage : Stage) (p : Played) (sight : Sight) → stage.sight ≡ sight → sight.clock.moment ≤ 1000000000000 → user ≡ unwrap_or stage.room.items.user [] → Ended call user stage p → StaysOrIsChanged call sight p
  ended call user stage p sight same bound is (inl k) = inl (k.flag, k.files_are ∙ ap (λ (x : Sight). x.files) same)
  ended call user stage p sight same bound is (inr d) =
      let who : user ≡ unwrap_or p.room.items.user [] = is ∙ ap (λ (u : Option (List ℕ)). unwrap_or u []) (sym d.user_stays) in
      let W : Sight → Type 0 = λ x. Written user x.root x.clock x.files p.room p.files in
      let w = subst W same d.written in
      inr (subst (λ (u : List ℕ). TokenIsChanged sight.root u sight.files p.room p.files) who (stands user sight.root sight.clock sight.files p.room p.files bound w))

  by_asking : (asked : AfterPrompt) (refused : Bool) (call : PlainCall) (stage : Stage) → asked.refused ≡ refused → has_flag call.flags prelim_check ≡ false → stage.sight.clock.moment ≤ 1000000000000
      → (cond refused (answered returns.ConvErr asked.room stage.sight) (looks (unwrap_or asked.room.items.user []) (λ look. change_by call (unwrap_or asked.room.items.user []) look answers) (in_room asked.room stage))).code ≡ returns.Success
      → StaysOrIsChanged call stage.sight (cond refused (answered returns.ConvErr asked.room stage.sight) (looks (unwrap_or asked.room.items.user []) (λ look. change_by call (unwrap_or asked.room.items.user []) look answers) (in_room asked.room stage)))
  by_asking asked true call stage r distinct bound e = absurd cc
  by_asking asked false call stage r distinct bound e =
      let user = unwrap_or asked.room.items.user [] in
      let next = in_room asked.room stage in
      ended call user next (looks user (λ look. change_by call user look answers) next) stage.sight refl bound refl (looked call user distinct next e)

  asked_first : (call : PlainCall) (stage : Stage) → has_flag call.flags prelim_check ≡ false → stage.sight.clock.moment ≤ 1000000000000 → (changes_token call answers stage).code ≡ returns.Success → StaysOrIsChanged call stage.sight (changes_token call answers stage)
  unfolding changes_token asks_user
  asked_first call stage distinct bound e = by_asking (user_asked stage.room) (user_asked stage.room).refused call stage refl distinct bound e

  by_function : (f : Func) (call : PlainCall) (stage : Stage) → f ≡ ChAuthTok → has_flag call.flags prelim_check ≡ false → stage.sight.clock.moment ≤ 1000000000000 → (act_of_func f call stage).code ≡ returns.Success → StaysOrIsChanged call stage.sight (act_of_func f call stage)
  by_function f call stage is distinct bound e =
      let P : Func → Type 0 = λ x. (act_of_func x call stage).code ≡ returns.Success → StaysOrIsChanged call stage.sight (act_of_func x call stage) in
      subst P (sym is) (asked_first call stage distinct bound) e

  pub taken : (call : PlainCall) (room : SeenRoom) (held : List NamedData) (sight : Sight) → call.func ≡ ChAuthTok → has_flag call.flags prelim_check ≡ false → sight.clock.moment ≤ 1000000000000
      → (unix_plays call room held sight).code ≡ returns.Success → StaysOrIsChanged call sight (unix_plays call room held sight)
  taken call room held sight is distinct bound e = by_function call.func call (record { room = room; held = held; known = nothing_known; sight = sight }) is distinct bound e
