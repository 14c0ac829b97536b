-- What authenticate keeps for setcred.
use Rattle.std.proofs.Common.{◌≡◌, ℕ, Bool, true, false, cond, List, [], ◌∷◌, Some, None, refl, ap, ◌∙◌, arith}
use Rattle.std.specs.Str.{bytes_eq}
use Rattle.pam_base.specs.Code.{number_of}
use Rattle.pam_base.specs.declared.code.Code.{Code}
use Rattle.pam_base.specs.declared.code.Code.TheVariants as c
use Rattle.data_cleanup.specs.Datum.{PlainDatum}
use Rattle.data_cleanup.specs.DataList.{data_named, payloads_of}
use Rattle.data_cleanup.specs.Sets.{Sets}
use Rattle.pam_room.specs.Module.{named_data}
use Rattle.pam_room.specs.Plain.{plain_transaction}
use Rattle.pam_room.specs.State.{PlainProcess}
use Rattle.pam_room.specs.Stays.{Stays}
use Rattle.pam_room.specs.declared.transaction.Transaction.{Transaction}
use Rattle.module_acts.specs.OnlyTalks.{OnlyTalks}
use Rattle.mod_unix.specs.Unix.{code_numbered, payload_named}

-- ---- data

by_name : (name : List ℕ) (d : PlainDatum) (ds : List PlainDatum) (payload : List ℕ) (same : Bool)
    → (payloads_of (data_named ds name) ≡ payload ∷ [] → payload_named name (named_data ds) ≡ Some payload)
    → payloads_of (cond same (d ∷ []) (data_named ds name)) ≡ payload ∷ [] → cond same (Some d.payload) (payload_named name (named_data ds)) ≡ Some payload
by_name name d ds payload true more e = let same : d.payload ≡ payload = cc in ap (λ (p : List ℕ). Some p) same
by_name name d ds payload false more e = more e

pub there : (name : List ℕ) (ds : List PlainDatum) (payload : List ℕ) → payloads_of (data_named ds name) ≡ payload ∷ [] → payload_named name (named_data ds) ≡ Some payload
there name [] payload e = absurd cc
there name (d ∷ ds) payload e = by_name name d ds payload (bytes_eq d.name name) (there name ds payload) e

none_by : (name : List ℕ) (d : PlainDatum) (ds : List PlainDatum) (same : Bool)
    → (data_named ds name ≡ [] → payload_named name (named_data ds) ≡ None)
    → cond same (d ∷ []) (data_named ds name) ≡ [] → cond same (Some d.payload) (payload_named name (named_data ds)) ≡ None
none_by name d ds true more e = absurd cc
none_by name d ds false more e = more e

pub missing : (name : List ℕ) (ds : List PlainDatum) → data_named ds name ≡ [] → payload_named name (named_data ds) ≡ None
missing name [] e = refl
missing name (d ∷ ds) e = none_by name d ds (bytes_eq d.name name) (missing name ds) e

-- ---- numbers

pub numbered : (code : Code) → code_numbered (number_of code) ≡ Some code
numbered c.Success = refl
numbered c.OpenErr = refl
numbered c.SymbolErr = refl
numbered c.ServiceErr = refl
numbered c.SystemErr = refl
numbered c.BufErr = refl
numbered c.PermDenied = refl
numbered c.AuthErr = refl
numbered c.CredInsufficient = refl
numbered c.AuthinfoUnavail = refl
numbered c.UserUnknown = refl
numbered c.MaxTries = refl
numbered c.NewAuthtokReqd = refl
numbered c.AcctExpired = refl
numbered c.SessionErr = refl
numbered c.CredUnavail = refl
numbered c.CredExpired = refl
numbered c.CredErr = refl
numbered c.NoModuleData = refl
numbered c.ConvErr = refl
numbered c.AuthtokErr = refl
numbered c.AuthtokRecoveryErr = refl
numbered c.AuthtokLockBusy = refl
numbered c.AuthtokDisableAging = refl
numbered c.TryAgain = refl
numbered c.Ignore = refl
numbered c.Abort = refl
numbered c.AuthtokExpired = refl
numbered c.ModuleUnknown = refl
numbered c.BadItem = refl
numbered c.ConvAgain = refl
numbered c.Incomplete = refl

-- ---- with real objects too

module _ (t u v : Transaction) (p q : PlainProcess) (talks : OnlyTalks t u) (others : v ≡ record u { datums = v.datums }) (handle : v.datums.handle ≡ u.datums.handle) (own : q ≡ record p { ledger = q.ledger }) where
  pub keeping_stays : Stays (plain_transaction t) (plain_transaction v) p q
  keeping_stays = record {
    handle = ap (λ (x : Transaction). x.handle) others ∙ ap (λ (x : Transaction). x.handle) talks.others;
    data_handle = handle ∙ ap (λ (x : Transaction). x.datums.handle) talks.others;
    service = ap (λ (x : Transaction). x.items.service) others ∙ talks.service;
    delay = let same : v.delay ≡ u.delay = ap (λ (x : Transaction). x.delay) others in omega (arith, talks.delay);
    said = (talks.said.0, ap (λ (x : Transaction). x.said) others ∙ talks.said.1);
    root = ap (λ (x : PlainProcess). x.root) own;
    caller = ap (λ (x : PlainProcess). x.caller) own;
  }

  pub keeping_serving : v.serving ≡ t.serving
  keeping_serving = ap (λ (x : Transaction). x.serving) others ∙ ap (λ (x : Transaction). x.serving) talks.others

  pub keeping_trail : v.trail ≡ t.trail
  keeping_trail = ap (λ (x : Transaction). x.trail) others ∙ ap (λ (x : Transaction). x.trail) talks.others

  pub keeping_sets : Sets u.serving u.datums p.ledger v.datums q.ledger → Sets t.serving t.datums p.ledger v.datums q.ledger
  keeping_sets sets =
      let serving : u.serving ≡ t.serving = ap (λ (x : Transaction). x.serving) talks.others in
      let datums : u.datums ≡ t.datums = ap (λ (x : Transaction). x.datums) talks.others in
      rw (serving, datums) at sets
