-- The functions of pam_unix that change no file, over other files that agree for the user.
use Rattle.std.proofs.Common.{◌≡◌, ◌≢◌, ℕ, Bool, true, false, List, [], ◌∷◌, Option, Some, None, codes, refl, sym, ap, ◌∙◌, subst}
use Rattle.pam_base.specs.Code.{number_of}
use Rattle.pam_base.specs.declared.call.Func.{Func}
use Rattle.pam_base.specs.declared.call.Func.TheVariants.{Authenticate, SetCred, AcctMgmt, OpenSession, CloseSession, ChAuthTok}
use Rattle.pam_base.specs.declared.code.Code.{Code}
use Rattle.pam_base.specs.declared.code.Code.TheVariants as returns
use Rattle.pam_outside.specs.Files.{File}
use Rattle.pam_room.specs.Call.{PlainCall}
use Rattle.pam_room.specs.Say.{user_asked}
use Rattle.module_acts.specs.Accounts.{nothing_known}
use Rattle.module_acts.specs.Act.{Act, Stage, answers}
use Rattle.module_acts.specs.Arguments.{has_argument}
use Rattle.module_acts.specs.Steps.{answers_keeping}
use Rattle.mod_unix.specs.declared.look.KnownPassword.{KnownPassword}
use Rattle.mod_unix.specs.declared.look.KnownPassword.TheVariants.{Unknown, Unavailable, Plain, Shadowed}
use Rattle.mod_unix.specs.Account.{account_by, checks_account}
use Rattle.mod_unix.specs.Aging.{aged, day_of}
use Rattle.mod_unix.specs.Authenticate.{asks_password, authenticates, unless_open, first_pass_or_asks, delays, is_open, is_success, judge_account, keeps_for_setcred, setcred_return, try_first, unless_success, verifies_token, with_first}
use Rattle.mod_unix.specs.Look.{looks}
use Rattle.mod_unix.specs.Unix.{act_of_func, kept_code}
use Rattle.mod_unix.specs.Verify.{verified}
use Rattle.laws_module.specs.Others.{AgreeFor, OthersDontMatter}
use Rattle.laws_module.specs.OwnEntry.{OthersDontMatterUnlessChanged}
use Rattle.laws_module.proofs.Steps.{Agrees, Alike as AlikeBy, Same, SameFrom, answering, asking, asking_token, delaying, keeping, looking, seeing_clock, seeing_data, seeing_items, with_files}

module _ (user : List ℕ) where
  abbrev R : List ℕ → ℕ → List File → List File → Type 0
  R root moment files others = AgreeFor user root files others

  abbrev Alike : Act → Type 0
  Alike act = AlikeBy R act

  -- ---- authenticate

  -- the code is kept for setcred
  abbrev keeps : Code → Act
  keeps code = answers_keeping (record { name = setcred_return; payload = number_of code ∷ [] }) code

  kept : (code : Code) → Alike (keeps code)
  kept code = keeping R (record { name = setcred_return; payload = number_of code ∷ [] }) code

  module _ (look : KnownPassword) where
    asked : Alike (asks_password look keeps_for_setcred)
    unfolding asks_password keeps_for_setcred
    asked = asking_token R false (codes "Password: ") (λ token. keeps (verified look token)) (λ token. kept (verified look token))

    first : (token : Option (List ℕ)) → Alike (with_first look token keeps_for_setcred)
    unfolding keeps_for_setcred
    first (Some token) = kept (verified look token)
    first None = answering R returns.AuthErr

    asked_unless : (done : Bool) → Alike (unless_success done look keeps_for_setcred)
    unfolding keeps_for_setcred
    asked_unless true = kept returns.Success
    asked_unless false = asked

    tried : (token : Option (List ℕ)) → Alike (try_first look token keeps_for_setcred)
    tried (Some token) = asked_unless (is_success (verified look token))
    tried None = asked

    passed : (given try : Bool) → Alike (first_pass_or_asks given try look keeps_for_setcred)
    passed true try = seeing_items R (λ items. with_first look items.auth_tok keeps_for_setcred) (λ items. first items.auth_tok)
    passed false true = seeing_items R (λ items. try_first look items.auth_tok keeps_for_setcred) (λ items. tried items.auth_tok)
    passed false false = asked

    module _ (call : PlainCall) where
      verifying : Alike (verifies_token call look keeps_for_setcred)
      unfolding verifies_token
      verifying = passed (has_argument (codes "use_first_pass") call.args) (has_argument (codes "try_first_pass") call.args)

      delayed : (none : Bool) → Alike (delays none (verifies_token call look keeps_for_setcred))
      delayed true = verifying
      delayed false = delaying R 2000000 (verifies_token call look keeps_for_setcred) verifying

      opened : (empty : Bool) → Alike (unless_open empty call look keeps_for_setcred)
      unfolding keeps_for_setcred
      opened true = kept returns.Success
      opened false = delayed (has_argument (codes "nodelay") call.args)

      judged : Alike (judge_account call look keeps_for_setcred)
      unfolding judge_account
      judged = opened (is_open call look)

  -- ---- acct_mgmt

  account_known : (look : KnownPassword) → Alike (account_by look answers)
  unfolding account_by
  account_known Unknown = answering R returns.UserUnknown
  account_known Unavailable = answering R returns.AuthinfoUnavail
  account_known (Plain hash) = answering R returns.Success
  account_known (Shadowed entry) =
      seeing_clock R (λ clock. answers (aged (day_of clock.moment) entry)) (λ clock. answering R (aged (day_of clock.moment) entry))

  -- ---- all five

  agrees : (root : List ℕ) (moment : ℕ) (files others : List File) → R root moment files others → AgreeFor user root files others
  agrees root moment files others r = r

  authenticating : (call : PlainCall) → Alike (looks user (λ look. judge_account call look keeps_for_setcred))
  authenticating call = looking R user agrees (λ look. judge_account call look keeps_for_setcred) (λ look. judged look call)

  checking : Alike (looks user (λ look. account_by look answers))
  checking = looking R user agrees (λ look. account_by look answers) account_known

  by_function : (f : Func) (call : PlainCall) → f ≢ ChAuthTok → (stage : Stage) (others : List File) → (user_asked stage.room).room.items.user ≡ Some user
      → Agrees R stage others → SameFrom R stage (act_of_func f call (with_files others stage)) (act_of_func f call stage)
  unfolding authenticates checks_account
  by_function Authenticate call not stage others is r =
      asking R user (λ name. looks name (λ look. judge_account call look keeps_for_setcred)) (authenticating call) stage others is r
  by_function SetCred call not stage others is r = seeing_data R (λ held. answers (kept_code held)) (λ held. answering R (kept_code held)) stage others r
  by_function AcctMgmt call not stage others is r = asking R user (λ name. looks name (λ look. account_by look answers)) checking stage others is r
  by_function OpenSession call not stage others is r = answering R returns.Success stage others r
  by_function CloseSession call not stage others is r = answering R returns.Success stage others r
  by_function ChAuthTok call not stage others is r = absurd (not refl)

pub others_dont_matter_unless_changed : OthersDontMatterUnlessChanged
others_dont_matter_unless_changed call room held sight others user not is agree =
    let s = by_function user call.func call not (record { room = room; held = held; known = nothing_known; sight = sight }) others is agree in
    record { rest = s.rest; agree = s.left }

authenticate_is : (f : Func) → f ≡ Authenticate → f ≢ ChAuthTok
authenticate_is f is other = let both : ◌≡◌ {A = Func} Authenticate ChAuthTok = sym is ∙ other in cc

pub others_dont_matter : OthersDontMatter
others_dont_matter call room held sight others user func is agree =
    (others_dont_matter_unless_changed call room held sight others user (authenticate_is call.func func) is agree).rest
