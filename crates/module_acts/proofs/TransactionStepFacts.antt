-- Steps of a module's definition, put before the rest of the definition.
use Rattle.std.proofs.Common.{◌≡◌, ℕ, max, ◌==◌, take, Bool, true, false, arith, List, [], ◌∷◌, ◌++◌, length, Some, unwrap_or, Result, Ok, Err, OnOk, is_ok, refl, sym, ap, ◌∙◌}
use Rattle.std.proofs.lemmas.List.{append-nil}
use Rattle.std.proofs.lemmas.Bool.Decides.{nat_tests}
use Rattle.pam_base.specs.declared.code.Code.{Code}
use Rattle.pam_base.specs.declared.code.Code.TheVariants.{ConvErr}
use Rattle.pam_base.specs.declared.fault.NoMemory.{NoMemory}
use Rattle.pam_base.specs.declared.fault.Refuse.{Refuse}
use Rattle.pam_base.specs.declared.fault.Refuse.TheVariants as refusals
use Rattle.pam_base.specs.declared.fault.ConvErr.{ConvErr as NoReply}
use Rattle.pam_base.specs.declared.item.ItemName.{ItemName}
use Rattle.pam_base.specs.declared.style.Style.{Style}
use Rattle.pam_room.specs.item_store.specs.Items.{ItemTexts, text_of, with_text}
use Rattle.conv_port.specs.Conv.{ConvState}
use Rattle.conv_port.specs.declared.conv.ConvFault.{ConvFault}
use Rattle.conv_port.specs.declared.message.Message.{Message}
use Rattle.conv_port.specs.declared.message.Reply.{Reply}
use Rattle.pam_room.specs.data_cleanup.specs.DataList.{PlainDataList, hold_all}
use Rattle.pam_room.specs.data_cleanup.specs.Ledger.{PlainLedger}
use Rattle.pam_room.specs.fail_delay.specs.Delay.{counted_request}
use Rattle.pam_outside.specs.Files.{VaultState}
use Rattle.pam_outside.specs.Time.{ClockState, Time, time_of}
use Rattle.pam_room.specs.declared.transaction.Transaction.{Transaction}
use Rattle.pam_room.specs.Plain.{plain_transaction}
use Rattle.pam_room.specs.State.{PlainProcess, PlainTransaction, Scene, room_of, scene_of}
use Rattle.pam_room.specs.Module.{HasSet, NamedData, Played, SeenRoom, births_of, named_data, seen_of, with_played}
use Rattle.pam_room.specs.Say.{AfterPrompt, Asks, Says, asked, speak, token_asked, token_of, user_asked}
use Rattle.module_acts.specs.Accounts.{Known}
use Rattle.module_acts.specs.Act.{Act, Acts, Reaches, Stage, answers, asks_user, in_room, shown, shows, stage_of}
use Rattle.module_acts.specs.Returns.{Returns, ReturnsWith, Follows, scene_of_parts}
use Rattle.module_acts.specs.Steps.{answers_keeping, asks_token, exchanges, requests_delay, sees_caller, sees_clock, sees_data, sets_item, with_replies}
use Rattle.module_acts.proofs.FileStepFacts.{carried}

pub answering : (code : Code) (known : Known) (s : Scene) → Acts (answers code) known s code s
unfolding answers
answering code known s = record { code_is = refl; scene_is = rw append-nil refl }

-- ---- seeing

module _ (known : Known) (s : Scene) (code : Code) (new : Scene) where
  pub seeing_data : (act : List NamedData → Act) → Acts (act (named_data s.room.transaction.datums.live)) known s code new → Acts (sees_data act) known s code new
  unfolding sees_data
  seeing_data act a = carried (sees_data act) (act (named_data s.room.transaction.datums.live)) known known s s code new refl (λ p. refl) a

  pub seeing_clock : (act : Time → Act) → Acts (act (time_of s.clock)) known s code new → Acts (sees_clock act) known s code new
  unfolding sees_clock
  seeing_clock act a = carried (sees_clock act) (act (time_of s.clock)) known known s s code new refl (λ p. refl) a

  pub seeing_caller : (act : ℕ → Act) → Acts (act s.process.caller) known s code new → Acts (sees_caller act) known s code new
  unfolding sees_caller
  seeing_caller act a = carried (sees_caller act) (act s.process.caller) known known s s code new refl (λ p. refl) a

-- ---- the room

-- what was asked for, by its parts
asked_is : (a : AfterPrompt) (refused : Bool) (room : SeenRoom) → (a.refused ≡ refused) × (room ≡ a.room) → a ≡ asked refused room
asked_is a refused room h = ap (λ (b : Bool). asked b a.room) h.0 ∙ ap (asked refused) (sym h.1)

module _ (t u : Transaction) (conv conv' : ConvState) (vault : VaultState) (clock : ClockState) (process : PlainProcess) (others : u ≡ record t { items = u.items; said = u.said; put_off = u.put_off }) where
  datums : u.datums ≡ t.datums
  datums = ap (λ (x : Transaction). x.datums) others

  same_played : (p : Played) → with_played p (scene_of_parts u conv' vault clock process) ≡ with_played p (scene_of_parts t conv vault clock process)
  same_played p =
      let trail = ap (λ (x : Transaction). x.trail) others in
      let handle = ap (λ (x : Transaction). x.handle) others in
      let serving = ap (λ (x : Transaction). x.serving) others in
      rw (datums, trail, handle, serving) refl

  pub asking_user : {T : Type 0} (r : Result T (Refuse NoReply)) → Asks r (user_asked (seen_of (room_of (plain_transaction t) conv))) (seen_of (room_of (plain_transaction u) conv'))
      → ReturnsWith r (unwrap_or u.items.user []) asks_user (scene_of_parts t conv vault clock process) (scene_of_parts u conv' vault clock process)
  unfolding asks_user answers
  asking_user (Ok done) h = λ act known code end rest.
      carried (asks_user act) (act (unwrap_or u.items.user [])) known known _ _ code end (rw (asked_is (user_asked (seen_of (room_of (plain_transaction t) conv))) false _ h, datums) refl) same_played rest
  asking_user (Err (refusals.Named e)) h = λ act known.
      carried (asks_user act) (answers ConvErr) known known _ _ ConvErr _ (rw (asked_is (user_asked (seen_of (room_of (plain_transaction t) conv))) true _ h) refl) same_played (answering ConvErr known _)
  asking_user (Err refusals.NoMemory) h = tt

  pub asking_token : {T : Type 0} (r : Result T (Refuse NoReply)) (old : Bool) (prompt : List ℕ) → Asks r (token_asked old prompt (seen_of (room_of (plain_transaction t) conv))) (seen_of (room_of (plain_transaction u) conv'))
      → ReturnsWith r (unwrap_or (text_of u.items (token_of old)) []) (asks_token old prompt) (scene_of_parts t conv vault clock process) (scene_of_parts u conv' vault clock process)
  unfolding asks_token answers
  asking_token (Ok done) old prompt h = λ act known code end rest.
      carried (asks_token old prompt act) (act (unwrap_or (text_of u.items (token_of old)) [])) known known _ _ code end (rw (asked_is (token_asked old prompt (seen_of (room_of (plain_transaction t) conv))) false _ h, datums) refl) same_played rest
  asking_token (Err (refusals.Named e)) old prompt h = λ act known.
      carried (asks_token old prompt act) (answers ConvErr) known known _ _ ConvErr _ (rw (asked_is (token_asked old prompt (seen_of (room_of (plain_transaction t) conv))) true _ h) refl) same_played (answering ConvErr known _)
  asking_token (Err refusals.NoMemory) old prompt h = tt

  replied : (answer : Result (List Reply) ConvFault) (room : SeenRoom) (act : List Reply → Act) (replies : List Reply) (stage : Stage) → answer ≡ Ok replies → with_replies answer room act stage ≡ act replies (in_room room stage)
  replied answer room act replies stage e = rw e refl

  none_replied : (answer : Result (List Reply) ConvFault) (room : SeenRoom) (act : List Reply → Act) (stage : Stage) → is_ok answer ≡ false → with_replies answer room act stage ≡ answers ConvErr (in_room room stage)
  unfolding answers
  none_replied (Ok replies) room act stage e = absurd cc
  none_replied (Err fault) room act stage e = refl

  in_this : (room : SeenRoom) (act : Act) (known : Known) → seen_of (room_of (plain_transaction u) conv') ≡ room → act (in_room room (stage_of known (scene_of_parts t conv vault clock process))) ≡ act (stage_of known (scene_of_parts u conv' vault clock process))
  in_this room act known e = rw (← e, datums) refl

  pub exchanging : (r : Result (List Reply) (Refuse NoReply)) (messages : List Message) → Says r (speak messages (seen_of (room_of (plain_transaction t) conv))) (seen_of (room_of (plain_transaction u) conv'))
      → Returns r (exchanges messages) (scene_of_parts t conv vault clock process) (scene_of_parts u conv' vault clock process)
  unfolding exchanges
  exchanging (Ok replies) messages h = λ act known code end rest.
      let spoken = speak messages (seen_of (room_of (plain_transaction t) conv)) in
      carried (exchanges messages act) (act replies) known known _ _ code end
      (replied spoken.answer spoken.room act replies (stage_of known (scene_of_parts t conv vault clock process)) h.0 ∙ in_this spoken.room (act replies) known h.1) same_played rest
  exchanging (Err (refusals.Named e)) messages h = λ act known.
      let spoken = speak messages (seen_of (room_of (plain_transaction t) conv)) in
      carried (exchanges messages act) (answers ConvErr) known known _ _ ConvErr _
      (none_replied spoken.answer spoken.room act (stage_of known (scene_of_parts t conv vault clock process)) h.0 ∙ in_this spoken.room (answers ConvErr) known h.1) same_played (answering ConvErr known _)
  exchanging (Err refusals.NoMemory) messages h = tt

  pub showing : {T : Type 0} (r : Result T NoMemory) (style : Style) (text : List ℕ) → OnOk r (seen_of (room_of (plain_transaction u) conv') ≡ shown style text (seen_of (room_of (plain_transaction t) conv)))
      → OnOk r (Reaches (shows style text) (scene_of_parts t conv vault clock process) (scene_of_parts u conv' vault clock process))
  unfolding shows
  showing (Ok done) style text e = λ act known code end rest. carried (shows style text act) act known known _ _ code end (rw (← e, datums) refl) same_played rest
  showing (Err none) style text e = tt

pub shown_empty : (style : Style) (text : List ℕ) (room : SeenRoom) → true ≡ (length text == 0) → room ≡ shown style text room
shown_empty style [] room e = refl
shown_empty style (b ∷ bs) room e = absurd (grind (arith, nat_tests))

pub shown_cut : (style : Style) (text cut : List ℕ) (room new : SeenRoom) → false ≡ (length text == 0) → cut ≡ take 512 text → new ≡ (speak (record { style = style; text = cut } ∷ []) room).room → new ≡ shown style text room
shown_cut style [] cut room new e s h = absurd (grind (arith, nat_tests))
shown_cut style (b ∷ bs) cut room new e s h = h ∙ ap (λ (t : List ℕ). (speak (record { style = style; text = t } ∷ []) room).room) s

pub with_items : (t u : Transaction) → u ≡ record t { said = u.said; put_off = u.put_off } → u ≡ record t { items = u.items; said = u.said; put_off = u.put_off }
with_items t u e = e ∙ ap (λ (i : ItemTexts). record t { items = i; said = u.said; put_off = u.put_off }) (sym (ap (λ (x : Transaction). x.items) e))

module _ (t u : Transaction) (conv : ConvState) (vault : VaultState) (clock : ClockState) (process : PlainProcess) where
  pub delaying : (micros delay : ℕ) → delay ≡ max (counted_request micros) t.delay → u ≡ record t { delay = delay } → Reaches (requests_delay micros) (scene_of_parts t conv vault clock process) (scene_of_parts u conv vault clock process)
  unfolding requests_delay
  delaying micros delay e n = λ act known code end rest.
      carried (requests_delay micros act) act known known _ _ code end (rw (n, e) refl) (λ p. rw n refl) rest

  pub setting : (item : ItemName) (text : List ℕ) → u ≡ record t { items = with_text t.items item (Some text) } → Reaches (sets_item item text) (scene_of_parts t conv vault clock process) (scene_of_parts u conv vault clock process)
  unfolding sets_item
  setting item text n = λ act known code end rest.
      carried (sets_item item text act) act known known _ _ code end (rw n refl) (λ p. rw n refl) rest

  pub keeping : (q : PlainProcess) (datum : NamedData) (code : Code) → t.datums.handle ≡ t.handle → u ≡ record t { datums = u.datums } → q ≡ record process { ledger = q.ledger }
      → HasSet t.serving (datum ∷ []) t.datums process.ledger u.datums q.ledger → Follows (answers_keeping datum code) (scene_of_parts t conv vault clock process) code (scene_of_parts u conv vault clock q)
  unfolding answers_keeping
  keeping q datum code same others own set =
      let births = births_of (length process.ledger.births) t.handle t.serving (datum ∷ []) in
      let list : u.datums ≡ hold_all t.datums births = set.list ∙ ap (λ n. hold_all t.datums (births_of (length process.ledger.births) n t.serving (datum ∷ []))) same in
      let ledger : q.ledger ≡ record process.ledger { births = process.ledger.births ++ births } = set.ledger ∙ ap (λ n. record process.ledger { births = process.ledger.births ++ births_of (length process.ledger.births) n t.serving (datum ∷ []) }) same in
      let after : plain_transaction u ≡ record (plain_transaction t) { datums = hold_all t.datums births } = ap plain_transaction others ∙ ap (λ (l : PlainDataList). record (plain_transaction t) { datums = l }) list in
      let later : q ≡ record process { ledger = record process.ledger { births = process.ledger.births ++ births } } = own ∙ ap (λ (l : PlainLedger). record process { ledger = l }) ledger in
      record {
        code_is = refl;
        scene_is = ap (λ (x : PlainTransaction). scene_of (room_of x conv) vault clock q) after ∙ ap (λ (x : PlainProcess). scene_of (room_of (record (plain_transaction t) { datums = hold_all t.datums births }) conv) vault clock x) later;
      }
