-- Whom pam_listfile lets in.
use Rattle.std.proofs.Common.{◌≡◌, ◌≢◌, ℕ, Bool, true, false, true≢false, if◌then◌else◌, List, [], ◌∷◌, Option, Some, None, codes, refl, sym, ap, ◌∙◌, subst}
use Rattle.std.specs.Option.{option_and_then}
use Rattle.pam_base.specs.declared.call.Func.{Func}
use Rattle.pam_base.specs.declared.call.Func.TheVariants.{Authenticate, SetCred, AcctMgmt, OpenSession, CloseSession, ChAuthTok}
use Rattle.pam_base.specs.declared.code.Code.TheVariants as returns
use Rattle.pam_outside.specs.Files.{file_at}
use Rattle.pam_outside.specs.Paths.{path_of}
use Rattle.pam_room.specs.Call.{value_among}
use Rattle.pam_room.specs.Module.{NamedData, SeenRoom, Sight}
use Rattle.pam_room.specs.Say.{user_asked}
use Rattle.module_acts.specs.declared.content.Content.{Content}
use Rattle.module_acts.specs.declared.content.Content.TheVariants as content
use Rattle.module_acts.specs.Accounts.{account_limit, nothing_known}
use Rattle.module_acts.specs.Act.{Stage, answers, content_seen, reads_file, reads_if, sees_items, unless_answered}
use Rattle.module_acts.specs.Content.{is_rooted}
use Rattle.mod_lists.specs.ListSettings.{PlainSettings, list_item_of, sense_of, settings_of, with_settings}
use Rattle.mod_lists.specs.Listfile.{at_once, file_verdict, checks_list, checks_listed_user, code_for_values, error_answer, is_listed}
use Rattle.mod_lists.specs.Listfile.{is_succeed, text_value, text_values, verdict}
use Rattle.laws_check.specs.Listfile.{AllowedAreNamed, IsNamed}
use Rattle.laws_check.proofs.UserLookupFacts.{holds, user_given}

error_by : (b : Bool) → b ≡ false → (if b then returns.Success else returns.ServiceErr) ≡ returns.Success → ⊥
error_by true b e = true≢false b
error_by false b e = absurd cc

not_conv : returns.ConvErr ≡ returns.Success → ⊥
not_conv e = absurd cc

listed_by : (b : Bool) → (if b then returns.Success else returns.AuthErr) ≡ returns.Success → b ≡ true
listed_by true e = refl
listed_by false e = absurd cc

module _ (args : List (List ℕ)) (strict : is_succeed (value_among (codes "onerr=") args) ≡ false) (file : List ℕ) (room : SeenRoom) (held : List NamedData)
    (sight : Sight) where
  abbrev start : Stage
  start = record { room = room; held = held; known = nothing_known; sight = sight }

  abbrev Done : Type 0
  Done = IsNamed sight.root sight.files room file

  abbrev asked_stage : Stage
  asked_stage = record { room = (user_asked room).room; held = held; known = nothing_known; sight = sight }

  no_error : error_answer args ≡ returns.Success → ⊥
  no_error e = error_by (is_succeed (value_among (codes "onerr=") args)) strict e

  -- the settings of such a line
  record Set (s : PlainSettings) : Type 0 where
    file_is : s.file ≡ file
    allows : (b : Bool) → verdict s.sense b ≡ (if b then returns.Success else returns.AuthErr)
    value : (text : List ℕ) → text_value s.item text ≡ text
    user_only : (user : List ℕ) → (checks_listed_user (error_answer args) args user (Some s) asked_stage).code
        ≡ (code_for_values (error_answer args) s (text_values s.item asked_stage.room.items.user) asked_stage).code

  module _ (s : PlainSettings) (set : Set s) where
    by_file : (user : List ℕ) (c : Content) → (user_asked room).room.items.user ≡ Some user
        → ((text : List ℕ) → c ≡ content.Holds text → file_at (path_of sight.root s.file) sight.files ≡ Some text)
        → file_verdict (error_answer args) s.sense (text_value s.item user ∷ []) c ≡ returns.Success → Done
    by_file user content.Absent u is e = absurd (no_error e)
    by_file user content.Unreadable u is e = absurd (no_error e)
    by_file user (content.Holds text) u is e =
        let wanted = text_value s.item user ∷ [] in
        let l : is_listed wanted text ≡ true = listed_by (is_listed wanted text) (sym (set.allows (is_listed wanted text)) ∙ e) in
        record {
          user = user;
          user_is = u;
          text = text;
          text_is = ap (λ (f : List ℕ). file_at (path_of sight.root f) sight.files) (sym set.file_is) ∙ is text refl;
          listed = ap (λ (v : List ℕ). is_listed (v ∷ []) text) (sym (set.value user)) ∙ l;
        }

    by_root : (b : Bool) (user : List ℕ) → (user_asked room).room.items.user ≡ Some user
        → (reads_if b s.file account_limit (λ c. answers (file_verdict (error_answer args) s.sense (text_value s.item user ∷ []) c)) asked_stage).code
        ≡ returns.Success → Done
    unfolding answers
    by_root true user u e =
        by_file user (content_seen s.file account_limit sight) u (λ text k. holds (sight.failing 0) account_limit
        (file_at (path_of sight.root s.file) sight.files) text k) e
    by_root false user u e = absurd (no_error e)

    by_text : (o : Option (List ℕ)) → (user_asked room).room.items.user ≡ o
        → (code_for_values (error_answer args) s (text_values s.item o) asked_stage).code ≡ returns.Success → Done
    unfolding reads_file answers
    by_text None u e = absurd (true≢false (sym (listed_by false (sym (set.allows false) ∙ e))))
    by_text (Some []) u e = absurd (true≢false (sym (listed_by false (sym (set.allows false) ∙ e))))
    by_text (Some (b ∷ bs)) u e = by_root (is_rooted s.file) (b ∷ bs) u e

    asked : (checks_list (error_answer args) args (Some s) start).code ≡ returns.Success → Done
    asked e =
        user_given returns.Success Done (λ user. checks_listed_user (error_answer args) args user (Some s)) start not_conv e
        (λ user is k. by_text (user_asked room).room.items.user refl (sym (set.user_only user) ∙ k))

  abbrev AreSet : Option PlainSettings → Type 0
  AreSet (Some s) = Set s
  AreSet None = Unit {0}

  are_set : AreSet (with_settings (option_and_then list_item_of (Some (codes "user"))) (option_and_then sense_of (Some (codes "allow"))) (Some file))
  unfolding sees_items
  are_set = record { file_is = refl; allows = λ b. refl; value = λ text. refl; user_only = λ user. refl }

  by_set : (o : Option PlainSettings) → AreSet o → (checks_list (error_answer args) args o start).code ≡ returns.Success → Done
  unfolding answers
  by_set (Some s) set e = asked s set e
  by_set None set e = absurd (no_error e)

  checked : value_among (codes "item=") args ≡ Some (codes "user") → value_among (codes "sense=") args ≡ Some (codes "allow")
      → value_among (codes "file=") args ≡ Some file
      → (checks_list (error_answer args) args (settings_of args) start).code ≡ returns.Success → Done
  checked i n f e =
      let is : settings_of args ≡ with_settings (option_and_then list_item_of (Some (codes "user"))) (option_and_then sense_of (Some (codes "allow")))
      (Some file) =
      ap (λ (o : Option (List ℕ)). with_settings (option_and_then list_item_of o) (option_and_then sense_of (value_among (codes "sense=") args))
      (value_among (codes "file=") args)) i
      ∙ ap (λ (o : Option (List ℕ)). with_settings (option_and_then list_item_of (Some (codes "user"))) (option_and_then sense_of o)
      (value_among (codes "file=") args)) n
      ∙ ap (λ (o : Option (List ℕ)). with_settings (option_and_then list_item_of (Some (codes "user")))
      (option_and_then sense_of (Some (codes "allow"))) o) f in
      by_set (settings_of args) (subst AreSet (sym is) are_set) e

  by_func : (f : Func) → f ≢ SetCred → value_among (codes "item=") args ≡ Some (codes "user") → value_among (codes "sense=") args ≡ Some (codes "allow")
      → value_among (codes "file=") args ≡ Some file
      → (unless_answered (at_once f) (checks_list (error_answer args) args (settings_of args)) start).code ≡ returns.Success → Done
  by_func Authenticate not i n f e = checked i n f e
  by_func AcctMgmt not i n f e = checked i n f e
  by_func SetCred not i n f e = absurd (not refl)
  by_func OpenSession not i n f e = checked i n f e
  by_func CloseSession not i n f e = checked i n f e
  by_func ChAuthTok not i n f e = checked i n f e

pub allowed_are_named : AllowedAreNamed
allowed_are_named call room held sight file n item sense there strict e = by_func call.args strict file room held sight call.func n item sense there e
