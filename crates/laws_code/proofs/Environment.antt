-- The codes of pam_env.
use Rattle.std.proofs.Common.{inl, inr, ℕ, Bool, true, false, List, [], ◌∷◌, Option, Some, None, codes, refl, cond}
use Rattle.pam_base.specs.declared.code.Code.{Code}
use Rattle.pam_base.specs.declared.code.Code.TheVariants as returns
use Rattle.pam_base.specs.declared.call.Func.{Func}
use Rattle.pam_base.specs.declared.call.Func.TheVariants.{Authenticate, SetCred, AcctMgmt, OpenSession, CloseSession, ChAuthTok}
use Rattle.pam_room.specs.Call.{value_among}
use Rattle.env_list.specs.Environment.{Variable}
use Rattle.account_db.specs.declared.passwd.Passwd.{Passwd}
use Rattle.module_acts.specs.Act.{Act, unless_answered}
use Rattle.mod_env.specs.declared.conf.EnvLine.{EnvLine}
use Rattle.mod_env.specs.declared.expand.Expansion.{Expansion}
use Rattle.mod_env.specs.declared.expand.Expansion.TheVariants.{TooLong, Puts}
use Rattle.mod_env.specs.Conf.{conf_of}
use Rattle.mod_env.specs.EnvFile.{assignments_of}
use Rattle.mod_env.specs.Expand.{asks_account, expansion_of}
use Rattle.mod_env.specs.Env.{at_once, sets_if_well_formed, puts_expansion, after_conf, puts_if_all_fit, sets_by_texts, finds_entry}
use Rattle.mod_env.specs.Env.{entry_in, env_plays, is_zero, looks_if, puts_all, puts_env, reads_first, reads_second, sees_env, sets_all}
use Rattle.mod_env.specs.Env.{sets_by, sets_variable, text_in}
use Rattle.laws_code.specs.Codes.{env_codes, env_sets}
use Rattle.laws_code.specs.Returns.{IsOneOf, ReturnsOf}
use Rattle.laws_code.proofs.ModuleCodeFacts.{Gives, answering, finding, reading, seeing_items}

module _ (P : Code → Type 0) where
  putting : (text : List ℕ) (act : Act) → Gives P act → Gives P (puts_env text act)
  unfolding puts_env
  putting text act rest stage = rest _

  seeing_env : (act : List Variable → Act) → ((env : List Variable) → Gives P (act env)) → Gives P (sees_env act)
  unfolding sees_env
  seeing_env act rest stage = rest stage.room.env stage

  put_all : (texts : List (List ℕ)) (act : Act) → Gives P act → Gives P (puts_all texts act)
  put_all [] act rest = rest
  put_all (text ∷ texts) act rest = putting text (puts_all texts act) (put_all texts act rest)

  either_act : (b : Bool) (x y : Act) → Gives P x → Gives P y → Gives P (cond b x y)
  either_act true x y p q = p
  either_act false x y p q = q

  of_user : (user : Option (List ℕ)) (act : Option Passwd → Act) → ((e : Option Passwd) → Gives P (act e)) → Gives P (finds_entry user act)
  of_user (Some user) act rest = finding P user (λ a. act (entry_in a)) (λ a. rest (entry_in a))
  of_user None act rest = rest None

  looked : (b : Bool) (act : Option Passwd → Act) → ((e : Option Passwd) → Gives P (act e)) → Gives P (looks_if b act)
  looked true act rest = seeing_items P _ (λ items. of_user items.user act rest)
  looked false act rest = rest None

  module _ (act : Bool → Act) (rest : (b : Bool) → Gives P (act b)) where
    expanded : (e : Expansion) → Gives P (puts_expansion e act)
    expanded (Puts text) = putting _ (act true) (rest true)
    expanded TooLong = rest false

    set_by : (entry : EnvLine) (account : Option Passwd) → Gives P (sets_by entry account act)
    unfolding sets_by
    set_by entry account = seeing_items P _ (λ items. seeing_env _ (λ env. expanded
        (expansion_of entry (record { items = items; env = env; entry = account }))))

    set_variable : (entry : EnvLine) → Gives P (sets_variable entry act)
    unfolding sets_variable
    set_variable entry = looked (asks_account entry) _ (set_by entry)

  set_all : (entries : List EnvLine) (act : Bool → Act) → ((b : Bool) → Gives P (act b)) → Gives P (sets_all entries act)
  set_all [] act rest = rest true
  set_all (entry ∷ entries) act rest = set_variable _ (λ fits. either_act fits (sets_all entries act) (act false) (set_all entries act rest) (rest false)) entry

module _ (P : Code → Type 0) (ends : P returns.Success) (long : P returns.BufErr) (failed : P returns.ServiceErr) where
  fitting : (assignments : List (List ℕ)) (b : Bool) → Gives P (puts_if_all_fit assignments b)
  fitting assignments true = put_all P assignments _ (answering P returns.Success ends)
  fitting assignments false = answering P returns.BufErr long

  entries_so : (entries : Option (List EnvLine)) (assignments : List (List ℕ)) → Gives P (sets_if_well_formed entries assignments)
  entries_so (Some entries) assignments = set_all P entries _ (fitting assignments)
  entries_so None assignments = answering P returns.ServiceErr failed

  texts_so : (conf : List ℕ) (env : Option (List ℕ)) → Gives P (sets_by_texts conf env)
  texts_so conf (Some env) = entries_so (conf_of conf) (assignments_of env)
  texts_so conf None = answering P returns.ServiceErr failed

  second : (b : Bool) (args : List (List ℕ)) (conf : List ℕ) → Gives P (reads_second b args conf)
  second true args conf = texts_so conf (Some [])
  second false args conf = reading P _ _ _ (λ c. texts_so conf (text_in c))

  first_so : (args : List (List ℕ)) (conf : Option (List ℕ)) → Gives P (after_conf args conf)
  first_so args (Some conf) = second (is_zero (value_among (codes "readenv=") args)) args conf
  first_so args None = answering P returns.ServiceErr failed

  first : (args : List (List ℕ)) → Gives P (reads_first args)
  first args = reading P _ _ _ (λ c. first_so args (text_in c))

by_function : (f : Func) (act : Act) → Gives (λ c. IsOneOf c env_sets) act → Gives (λ c. IsOneOf c (env_codes f)) (unless_answered (at_once f) act)
by_function Authenticate act rest = answering (λ c. IsOneOf c (returns.Ignore ∷ [])) returns.Ignore (inl refl)
by_function SetCred act rest = rest
by_function AcctMgmt act rest = answering (λ c. IsOneOf c (returns.ServiceErr ∷ [])) returns.ServiceErr (inl refl)
by_function OpenSession act rest = rest
by_function CloseSession act rest = answering (λ c. IsOneOf c (returns.Success ∷ [])) returns.Success (inl refl)
by_function ChAuthTok act rest = answering (λ c. IsOneOf c (returns.ServiceErr ∷ [])) returns.ServiceErr (inl refl)

pub environments : ReturnsOf env_plays env_codes
environments call room held sight =
    by_function call.func (reads_first call.args) (first (λ c. IsOneOf c env_sets) (inl refl) (inr (inl refl)) (inr (inr (inl refl))) call.args) _
