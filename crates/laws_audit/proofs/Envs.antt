-- pam_env(8) leaves each file as it was.
use Rattle.std.proofs.Common.{ℕ, Bool, true, false, cond, List, [], ◌∷◌, Option, Some, None, codes, unwrap_or}
use Rattle.pam_base.specs.declared.code.Code.TheVariants as returns
use Rattle.pam_room.specs.Call.{PlainCall, value_among}
use Rattle.pam_room.specs.env_list.specs.Environment.{Variable}
use Rattle.mod_unix.specs.module_acts.specs.account_db.specs.declared.passwd.Passwd.{Passwd}
use Rattle.mod_unix.specs.module_acts.specs.Act.{Act, answers}
use Rattle.mod_env.specs.declared.conf.EnvLine.{EnvLine}
use Rattle.mod_env.specs.declared.expand.Expansion.{Expansion}
use Rattle.mod_env.specs.declared.expand.Expansion.TheVariants.{TooLong, Puts}
use Rattle.mod_env.specs.Conf.{conf_of}
use Rattle.mod_env.specs.EnvFile.{assignments_of}
use Rattle.mod_env.specs.Expand.{asks_account, expansion_of}
use Rattle.mod_env.specs.Env.{at_once, sets_if_well_formed, puts_expansion, after_conf, puts_if_all_fit, sets_by_texts, finds_entry}
use Rattle.mod_env.specs.Env.{entry_in, env_act, env_limit, is_zero, looks_if, puts_all, puts_env, reads_first, reads_second}
use Rattle.mod_env.specs.Env.{sees_env, sets_all, sets_by, sets_variable, text_in}
use Rattle.laws_audit.proofs.Steps.{Leaves, answering, finding, reading, seeing_items, unless}

module _ (path : List ℕ) where
  abbrev Still : Act → Type 0
  Still act = Leaves path act

  seeing_env : (act : List Variable → Act) → ((env : List Variable) → Still (act env)) → Still (sees_env act)
  unfolding sees_env
  seeing_env act next stage = next stage.room.env stage

  putting : (text : List ℕ) (act : Act) → Still act → Still (puts_env text act)
  unfolding puts_env
  putting text act next stage = next _

  put_all : (texts : List (List ℕ)) (act : Act) → Still act → Still (puts_all texts act)
  put_all [] act next = next
  put_all (text ∷ texts) act next = putting text (puts_all texts act) (put_all texts act next)

  module _ (act : Bool → Act) (next : (fits : Bool) → Still (act fits)) where
    expanded : (e : Expansion) → Still (puts_expansion e act)
    expanded (Puts text) = putting text (act true) (next true)
    expanded TooLong = next false

    set_by : (entry : EnvLine) (account : Option Passwd) → Still (sets_by entry account act)
    unfolding sets_by
    set_by entry account =
        seeing_items path (λ items. sees_env (λ env. puts_expansion (expansion_of entry (record { items = items; env = env; entry = account })) act))
        (λ items. seeing_env (λ env. puts_expansion (expansion_of entry (record { items = items; env = env; entry = account })) act)
        (λ env. expanded (expansion_of entry (record { items = items; env = env; entry = account }))))

  module _ (act : Option Passwd → Act) (next : (account : Option Passwd) → Still (act account)) where
    by_name : (user : Option (List ℕ)) → Still (finds_entry user act)
    by_name (Some user) = finding path user (λ account. act (entry_in account)) (λ account. next (entry_in account))
    by_name None = next None

    looked : (asks : Bool) → Still (looks_if asks act)
    looked true = seeing_items path (λ items. finds_entry items.user act) (λ items. by_name items.user)
    looked false = next None

  set_one : (entry : EnvLine) (act : Bool → Act) → ((fits : Bool) → Still (act fits)) → Still (sets_variable entry act)
  unfolding sets_variable
  set_one entry act next = looked (λ account. sets_by entry account act) (λ account. set_by act next entry account) (asks_account entry)

  picked : (b : Bool) (x y : Act) → Still x → Still y → Still (cond b x y)
  picked true x y l r = l
  picked false x y l r = r

  set_all : (entries : List EnvLine) (act : Bool → Act) → ((fits : Bool) → Still (act fits)) → Still (sets_all entries act)
  set_all [] act next = next true
  set_all (entry ∷ entries) act next = set_one entry (λ fits. cond fits (sets_all entries act) (act false))
      (λ fits. picked fits (sets_all entries act) (act false) (set_all entries act next) (next false))

  fitted : (assignments : List (List ℕ)) (fits : Bool) → Still (puts_if_all_fit assignments fits)
  fitted assignments true = put_all assignments (answers returns.Success) (answering path returns.Success)
  fitted assignments false = answering path returns.BufErr

  entered : (entries : Option (List EnvLine)) (assignments : List (List ℕ)) → Still (sets_if_well_formed entries assignments)
  entered (Some entries) assignments = set_all entries (puts_if_all_fit assignments) (fitted assignments)
  entered None assignments = answering path returns.ServiceErr

  texts_set : (conf : List ℕ) (env : Option (List ℕ)) → Still (sets_by_texts conf env)
  texts_set conf (Some env) = entered (conf_of conf) (assignments_of env)
  texts_set conf None = answering path returns.ServiceErr

  second_read : (none : Bool) (args : List (List ℕ)) (conf : List ℕ) → Still (reads_second none args conf)
  second_read true args conf = texts_set conf (Some [])
  second_read false args conf =
      reading path (unwrap_or (value_among (codes "envfile=") args) (codes "/etc/environment")) env_limit (λ content. sets_by_texts conf (text_in content))
      (λ content. texts_set conf (text_in content))

  first_read : (args : List (List ℕ)) (conf : Option (List ℕ)) → Still (after_conf args conf)
  first_read args (Some conf) = second_read (is_zero (value_among (codes "readenv=") args)) args conf
  first_read args None = answering path returns.ServiceErr

  pub env_leaves : (call : PlainCall) → Still (env_act call)
  env_leaves call = unless path (at_once call.func) (reads_first call.args)
      (reading path (unwrap_or (value_among (codes "conffile=") call.args) (codes "/etc/security/pam_env.conf")) env_limit
      (λ content. after_conf call.args (text_in content)) (λ content. first_read call.args (text_in content)))
