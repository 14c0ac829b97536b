-- A module that talks.
use Rattle.std.proofs.Common.{◌≡◌, ◌⊎◌, inl, inr, ℕ, List, [], ◌++◌, refl, sym, ap, ◌∙◌, append_assoc, arith}
use Rattle.std.proofs.lemmas.List.{append-nil}
use Rattle.conv_port.specs.declared.message.Message.{Message}
use Rattle.pam_room.specs.item_store.specs.Items.{ItemTexts}
use Rattle.pam_room.specs.data_cleanup.specs.Ledger.{PlainLedger}
use Rattle.pam_room.specs.data_cleanup.specs.Sets.{Sets}
use Rattle.pam_room.specs.declared.transaction.Transaction.{Transaction}
use Rattle.pam_room.specs.Plain.{plain_transaction}
use Rattle.pam_room.specs.State.{PlainProcess}
use Rattle.pam_room.specs.Stays.{Stays}
use Rattle.module_acts.specs.OnlyTalks.{OnlyTalks}
use Rattle.module_acts.specs.SetsNoData.{SetsNoData}

pub talks_nothing : (t : Transaction) → OnlyTalks t t
talks_nothing t = record { service = refl; delay = omega arith; said = ([], sym (append-nil t.said)); others = refl }

pub talks_more : (t u v : Transaction) → OnlyTalks t u → OnlyTalks u v → OnlyTalks t v
talks_more t u v s r = record {
  service = r.service ∙ s.service;
  delay = omega (arith, s.delay, r.delay);
  said = (s.said.0 ++ r.said.0, r.said.1 ∙ ap (λ (m : List Message). m ++ r.said.0) s.said.1 ∙ append_assoc t.said _ _);
  others = r.others ∙ ap (λ (x : Transaction). record x { items = v.items; delay = v.delay; said = v.said; put_off = v.put_off }) s.others;
}

pub talking_stays : (t u : Transaction) (process : PlainProcess) → OnlyTalks t u → Stays (plain_transaction t) (plain_transaction u) process process
talking_stays t u process s = record {
  handle = ap (λ (x : Transaction). x.handle) s.others;
  data_handle = ap (λ (x : Transaction). x.datums.handle) s.others;
  service = s.service;
  delay = s.delay;
  said = s.said;
  root = refl;
  caller = refl;
}

pub talking_others : (t u : Transaction) → OnlyTalks t u → (u.serving ≡ t.serving) × (u.trail ≡ t.trail) × (u.handle ≡ t.handle) × (u.datums ≡ t.datums)
talking_others t u s = (ap (λ (x : Transaction). x.serving) s.others, ap (λ (x : Transaction). x.trail) s.others, ap (λ (x : Transaction). x.handle) s.others, ap (λ (x : Transaction). x.datums) s.others)

pub talking_no_data : (t u : Transaction) → OnlyTalks t u → SetsNoData t u
talking_no_data t u s = record {
  stays = λ process. talking_stays t u process s;
  serving = (talking_others t u s).0;
  trail = (talking_others t u s).1;
  datums = (talking_others t u s).3;
}

pub nothing_set : (t : Transaction) → SetsNoData t t
nothing_set t = talking_no_data t t (talks_nothing t)

pub no_data_stays : (t u : Transaction) (process : PlainProcess) → SetsNoData t u → Stays (plain_transaction t) (plain_transaction u) process process
no_data_stays t u process s = s.stays process

pub no_data_sets : (t u : Transaction) (ledger : PlainLedger) → SetsNoData t u → Sets t.serving t.datums ledger u.datums ledger
no_data_sets t u ledger s = record {
  added = [];
  births = sym (append-nil ledger.births);
  each = tt;
  list = s.datums;
  filed = refl;
}

pub talking_sets : (t u : Transaction) (ledger : PlainLedger) → OnlyTalks t u → Sets t.serving t.datums ledger u.datums ledger
talking_sets t u ledger s = no_data_sets t u ledger (talking_no_data t u s)

-- what was shown was said
pub said_some : (old new more : List Message) → (new ≡ old) ⊎ (new ≡ old ++ more) → (said : List Message) × (new ≡ old ++ said)
said_some old new more (inl e) = ([], e ∙ sym (append-nil old))
said_some old new more (inr e) = (more, e)

pub spoken : (t u : Transaction) → (more : List Message) × (u.said ≡ t.said ++ more) → u ≡ record t { said = u.said; put_off = u.put_off } → OnlyTalks t u
spoken t u said others =
    let items : u.items ≡ t.items = ap (λ (x : Transaction). x.items) others in
    let delay : u.delay ≡ t.delay = ap (λ (x : Transaction). x.delay) others in
    record {
      service = ap (λ (i : ItemTexts). i.service) items;
      delay = omega (arith, delay);
      said = said;
      others = others ∙ ap (λ (i : ItemTexts). record t { items = i; said = u.said; put_off = u.put_off }) (sym items)
          ∙ ap (λ (d : ℕ). record t { items = u.items; delay = d; said = u.said; put_off = u.put_off }) (sym delay);
    }
