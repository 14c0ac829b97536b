-- Steps that see and set the environment, and a module that changes nothing else.
use Rattle.std.proofs.Common.{◌≡◌, ℕ, List, [], refl, sym, ap, ◌∙◌, arith}
use Rattle.std.proofs.lemmas.List.{append-nil}
use Rattle.pam_base.specs.declared.code.Code.{Code}
use Rattle.conv_port.specs.Conv.{ConvState}
use Rattle.env_list.specs.Environment.{Variable}
use Rattle.pam_outside.specs.Files.{VaultState}
use Rattle.pam_outside.specs.Time.{ClockState}
use Rattle.module_acts.specs.pam_room.specs.declared.process.Process.{Process}
use Rattle.module_acts.specs.pam_room.specs.declared.transaction.Transaction.{Transaction}
use Rattle.module_acts.specs.pam_room.specs.Plain.{plain_transaction}
use Rattle.module_acts.specs.pam_room.specs.State.{PlainProcess, Scene}
use Rattle.module_acts.specs.pam_room.specs.Stays.{Stays}
use Rattle.module_acts.specs.pam_room.specs.Module.{Played, with_played}
use Rattle.module_acts.specs.Accounts.{Known}
use Rattle.module_acts.specs.Act.{Act, Acts, stage_of, scene_at}
use Rattle.module_acts.specs.SetsNoData.{SetsNoData}
use Rattle.mod_env.specs.Env.{put_in, puts_env, sees_env}
use Rattle.mod_env.specs.Puts.{Puts}
use Rattle.module_acts.proofs.FileStepFacts.{carried}

pub seeing_env : (act : List Variable → Act) (known : Known) (s : Scene) (code : Code) (new : Scene) → Acts (act s.room.transaction.env) known s code new → Acts (sees_env act) known s code new
unfolding sees_env
seeing_env act known s code new a = carried (sees_env act) (act s.room.transaction.env) known known s s code new refl (λ p. refl) a

module _ (text : List ℕ) (act : Act) (known : Known) (t u : Transaction) (conv : ConvState) (vault : VaultState) (clock : ClockState) (process : Process) (code : Code) (new : Scene) (puts : Puts t u) where
  same_played : (p : Played) → with_played p (scene_at u conv vault clock process) ≡ with_played p (scene_at t conv vault clock process)
  same_played p =
      let datums = ap (λ (x : Transaction). x.datums) puts.others in
      let trail = ap (λ (x : Transaction). x.trail) puts.others in
      let handle = ap (λ (x : Transaction). x.handle) puts.others in
      let serving = ap (λ (x : Transaction). x.serving) puts.others in
      rw (datums, trail, handle, serving) refl

  same_stage : u.env ≡ put_in text t.env → puts_env text act (stage_of known (scene_at t conv vault clock process)) ≡ act (stage_of known (scene_at u conv vault clock process))
  unfolding puts_env
  same_stage e =
      let items = ap (λ (x : Transaction). x.items) puts.others in
      let datums = ap (λ (x : Transaction). x.datums) puts.others in
      let delay = ap (λ (x : Transaction). x.delay) puts.others in
      let said = ap (λ (x : Transaction). x.said) puts.others in
      let put_off = ap (λ (x : Transaction). x.put_off) puts.others in
      let handle = ap (λ (x : Transaction). x.handle) puts.others in
      let serving = ap (λ (x : Transaction). x.serving) puts.others in
      rw (items, datums, delay, said, put_off, handle, serving, e) refl

  pub putting_env : u.env ≡ put_in text t.env → Acts act known (scene_at u conv vault clock process) code new → Acts (puts_env text act) known (scene_at t conv vault clock process) code new
  putting_env e a = carried (puts_env text act) act known known _ _ code new (same_stage e) same_played a

pub puts_nothing : (t : Transaction) → Puts t t
puts_nothing t = record { others = refl }

pub puts_more : (t u v : Transaction) → Puts t u → Puts u v → Puts t v
puts_more t u v s r = record { others = r.others ∙ ap (λ (x : Transaction). record x { env = v.env }) s.others }

putting_stays : (t u : Transaction) (process : PlainProcess) → Puts t u → Stays (plain_transaction t) (plain_transaction u) process process
putting_stays t u process s = record {
  handle = ap (λ (x : Transaction). x.handle) s.others;
  data_handle = ap (λ (x : Transaction). x.datums.handle) s.others;
  service = ap (λ (x : Transaction). x.items.service) s.others;
  delay = let same : u.delay ≡ t.delay = ap (λ (x : Transaction). x.delay) s.others in omega arith;
  said = ([], ap (λ (x : Transaction). x.said) s.others ∙ sym (append-nil t.said));
  root = refl;
  caller = refl;
}

pub putting_no_data : (t u : Transaction) → Puts t u → SetsNoData t u
putting_no_data t u s = record {
  stays = λ process. putting_stays t u process s;
  serving = ap (λ (x : Transaction). x.serving) s.others;
  trail = ap (λ (x : Transaction). x.trail) s.others;
  datums = ap (λ (x : Transaction). x.datums) s.others;
}
