-- Variables are set one by one.
use Rattle.std.proofs.Common.{◌≡◌, ◌<◌, ◌≤◌, ℕ, ◌-◌, Bool, true, false, cond, List, [], ◌∷◌, length, take, drop, get_or, Option, Some, None, refl, arith}
use Rattle.std.proofs.lemmas.List.{take_all}
use Rattle.env_list.specs.Environment.{Variable}
use Rattle.item_store.specs.Items.{ItemTexts}
use Rattle.pam_base.specs.declared.code.Code.{Code}
use Rattle.module_acts.specs.pam_room.specs.State.{Scene}
use Rattle.account_db.specs.declared.passwd.Passwd.{Passwd}
use Rattle.module_acts.specs.Accounts.{Known, account_in, known_passwds}
use Rattle.module_acts.specs.Act.{Act, Acts, reads_passwds, sees_items}
use Rattle.mod_env.specs.declared.conf.EnvLine.{EnvLine}
use Rattle.mod_env.specs.declared.expand.Expansion.{Expansion}
use Rattle.mod_env.specs.declared.expand.Expansion.TheVariants.{TooLong, Puts}
use Rattle.mod_env.specs.Env.{puts_expansion, finds_entry, entry_in, entry_known, looks_if, puts_all, puts_env, sees_env, sets_all, sets_by, sets_variable}
use Rattle.mod_env.specs.Expand.{Sources, asks_account, expansion_of}

pub first_of : {A : Type 0} (whole : List A) (x : A) → 1 ≤ length whole → x ≡ get_or whole 0 x → whole ≡ x ∷ take (length whole - 1) (drop 1 whole)
first_of [] x some is = absurd (omega (arith, some))
first_of (y ∷ ys) x some is = let all : take (length (y ∷ ys) - 1) ys ≡ ys = take_all _ ys (omega arith) in rw (← is, all) refl

-- what a value may name, in a scene
abbrev pub sources_in : Scene → Option Passwd → Sources
sources_in s account = record { items = s.room.transaction.items; env = s.room.transaction.env; entry = account }

module _ (items : (act : ItemTexts → Act) (known : Known) (s : Scene) (code : Code) (new : Scene) → Acts (act s.room.transaction.items) known s code new → Acts (sees_items act) known s code new)
    (env : (act : List Variable → Act) (known : Known) (s : Scene) (code : Code) (new : Scene) → Acts (act s.room.transaction.env) known s code new → Acts (sees_env act) known s code new)
    (entry : EnvLine) (account : Option Passwd) (known : Known) (s : Scene) (found : Expansion) where
  seen : (act : Bool → Act) (code : Code) (new : Scene) → found ≡ expansion_of entry (sources_in s account) → Acts (puts_expansion found act) known s code new → Acts (sets_by entry account act) known s code new
  unfolding sets_by
  seen act code new e a =
      items (λ texts. sees_env (λ variables. puts_expansion (expansion_of entry (record { items = texts; env = variables; entry = account })) act)) known s code new
      (env (λ variables. puts_expansion (expansion_of entry (record { items = s.room.transaction.items; env = variables; entry = account })) act) known s code new (rw (← e) a))

  pub too_long : found ≡ expansion_of entry (sources_in s account) → found ≡ TooLong
      → (act : Bool → Act) (code : Code) (end : Scene) → Acts (act false) known s code end → Acts (sets_by entry account act) known s code end
  too_long e f act code end a = seen act code end e (rw f a)

  pub puts : (text : List ℕ) → found ≡ expansion_of entry (sources_in s account) → found ≡ Puts text
      → (act : Bool → Act) (code : Code) (end : Scene) → Acts (puts_env text (act true)) known s code end → Acts (sets_by entry account act) known s code end
  puts text e f act code end a = seen act code end e (rw f a)

module _ (entry : EnvLine) (seen : Option Passwd) (known now : Known) (s mid : Scene)
    (look : (act : Option Passwd → Act) (code : Code) (end : Scene) → Acts (act seen) now mid code end → Acts (looks_if (asks_account entry) act) known s code end) where
  pub looked : (act : Bool → Act) (code : Code) (end : Scene) → Acts (sets_by entry seen act) now mid code end → Acts (sets_variable entry act) known s code end
  unfolding sets_variable
  looked act code end a = look (λ account. sets_by entry account act) code end a

module _ (entries rest after : List EnvLine) (entry : EnvLine) (first known now : Known) (old s new : Scene) (is : rest ≡ entry ∷ after)
    (told : (act : Bool → Act) (code : Code) (end : Scene) → Acts (sets_all rest act) known s code end → Acts (sets_all entries act) first old code end) where
  pub one_more : ((act : Bool → Act) (code : Code) (end : Scene) → Acts (act true) now new code end → Acts (sets_variable entry act) known s code end)
      → (act : Bool → Act) (code : Code) (end : Scene) → Acts (sets_all after act) now new code end → Acts (sets_all entries act) first old code end
  one_more set act code end a = told act code end (rw is (set (λ fits. cond fits (sets_all after act) (act false)) code end a))

  pub stopped : ((act : Bool → Act) (code : Code) (end : Scene) → Acts (act false) now new code end → Acts (sets_variable entry act) known s code end)
      → (act : Bool → Act) (code : Code) (end : Scene) → Acts (act false) now new code end → Acts (sets_all entries act) first old code end
  stopped set act code end a = told act code end (rw is (set (λ fits. cond fits (sets_all after act) (act false)) code end a))

module _ (found : Option (List ℕ)) where
  pub by_found : (user : List ℕ) (act : Option Passwd → Act) (known now : Known) (s mid : Scene) (code : Code) (end : Scene) → Some user ≡ found
      → ((act' : Option (List Passwd) → Act) → Acts (act' (known_passwds now)) now mid code end → Acts (reads_passwds act') known s code end)
      → Acts (act (entry_known found now)) now mid code end → Acts (finds_entry found act) known s code end
  by_found user act known now s mid code end e reads a = rw (← e) (reads (λ entries. act (entry_in (account_in user entries))) (rw (← e) at a))

  pub by_none : (act : Option Passwd → Act) (known : Known) (s : Scene) (code : Code) (end : Scene) → None ≡ found
      → Acts (act (entry_known found known)) known s code end → Acts (finds_entry found act) known s code end
  by_none act known s code end e a = rw (← e) (rw (← e) at a)

pub nothing_left : {A : Type 0} (xs : List A) → length xs < 1 → xs ≡ []
nothing_left [] few = refl
nothing_left (x ∷ xs) few = absurd (omega (arith, few))

pub puts_more : (rest after : List (List ℕ)) (text : List ℕ) (act : Act) (known : Known) (s : Scene) (code : Code) (end : Scene) → rest ≡ text ∷ after
    → Acts (puts_env text (puts_all after act)) known s code end → Acts (puts_all rest act) known s code end
puts_more rest after text act known s code end e a = rw e a
