-- A step, written as a line, is read as itself.
use Rattle.std.proofs.Common.{◌≡◌, ℕ, suc, ◌-◌, ◌^◌, ◌<◌, ◌≤◌, Bool, true, false, ◌&&◌, not, List, [], ◌∷◌, ◌++◌, length, Some, None, Result, Ok, codes, decimal, nat_lt, nat_le, refl, sym, ap, ◌∙◌, arith, eqb, length-append}
use Rattle.std.proofs.Math.Seq.{take-append_seam, drop-append_seam}
use Rattle.std.proofs.lemmas.Bool.{lt-ltb, le-ltb, ltb-true, leb-true, ne_eqb, and_parts, not-true}
use Rattle.std.specs.List.{join_with_byte, list_all}
use Rattle.pam_base.specs.declared.call.AppCall.{AppCall}
use Rattle.pam_base.specs.declared.call.AppCall.TheVariants as calls
use Rattle.pam_base.specs.declared.call.Step.{Step}
use Rattle.pam_base.specs.declared.fault.ScriptKind.{ScriptKind}
use Rattle.pam_base.specs.declared.item.ItemName.{ItemName}
use Rattle.pam_base.specs.declared.item.ItemName.TheVariants as items
use Rattle.pam_base.specs.Bytes.{has_byte}
use Rattle.pam_base.specs.Item.{item_word, item_of_word}
use Rattle.pam_base.specs.Words.{words_of}
use Rattle.pam_base.specs.declared.call.CallName.TheVariants as names
use Rattle.pam_base.specs.declared.call.Func.TheVariants as funcs
use Rattle.script_lang.specs.declared.command.Command.{Command}
use Rattle.script_lang.specs.declared.command.Command.TheVariants as commands
use Rattle.script_lang.specs.declared.line.Line.{Line}
use Rattle.script_lang.specs.declared.line.Line.TheVariants as lines
use Rattle.script_lang.specs.Command.{command_of_word, word_of_call}
use Rattle.script_lang.specs.Line.{parsed, is_blank, line_of_command, without_return}
use Rattle.script_lang.specs.Number.{number_of_word}
use Rattle.pam_base.specs.ServiceName.{is_name_byte, is_service_name}
use Rattle.script_lang.specs.Written.{text_of_step, line_of, is_name, is_number, is_sound, is_writable, switch_word}
use Rattle.script_lang.proofs.Decimals.{decimal-space, number_of_word-decimal}
use Rattle.script_lang.proofs.Words.{words_of-word, words_of-alone, join-words_of, has_word}

-- ---- the words of a written line

-- none of the words has a space
are_plain : List (List ℕ) → Bool
are_plain words = list_all (λ word. not (has_byte 32 word)) words

lacks_space : (word : List ℕ) (rest : Bool) → (not (has_byte 32 word) && rest) ≡ true → (has_byte 32 word ≡ false) × (rest ≡ true)
lacks_space word rest e =
    let both = and_parts (not (has_byte 32 word)) rest e in
    (not-true (has_byte 32 word) both.0, both.1)

-- words before a text, which may be of many words
words_of-join : (words : List (List ℕ)) (text : List ℕ) → are_plain words ≡ true → words_of (join_with_byte 32 (words ++ text ∷ [])) ≡ words ++ words_of text
unfolding are_plain
words_of-join [] text e = refl
words_of-join (w ∷ []) text e = words_of-word w text (lacks_space w true e).0
words_of-join (w ∷ v ∷ ws) text e =
    let both = lacks_space w (are_plain (v ∷ ws)) e in
    words_of-word w (join_with_byte 32 (v ∷ ws ++ text ∷ [])) both.0 ∙ ap (λ (words : List (List ℕ)). w ∷ words) (words_of-join (v ∷ ws) text both.1)

-- ---- a line is read by its words

without_return-return : (text : List ℕ) → without_return (text ++ codes "\r") ≡ text
without_return-return text =
    let before : length (text ++ 13 ∷ []) - 1 ≡ length text = omega (arith, length-append text (13 ∷ [])) in
    rw (before, drop-append_seam, take-append_seam) refl

-- a line that isn't too long, isn't blank and begins with a command's word
read_by_words : (text word : List ℕ) (command : Command) (words : List (List ℕ)) → words_of text ≡ word ∷ words → command_of_word word ≡ Some command
    → is_blank text ≡ false → length text ≤ 512 → parsed (text ++ codes "\r") ≡ line_of_command (Some command) (word ∷ words)
read_by_words text word command words is named plain short =
    rw (without_return-return text, le-ltb 512 (length text) short, plain, is, named) refl

-- ---- the words of a written step have no spaces, and are read as what they were written for

name_byte : (b : ℕ) → is_name_byte b ≡ true → eqb b 32 ≡ false
name_byte b e = ne_eqb b 32 (λ is. let both : ◌≡◌ {A = Bool} true false = sym e ∙ ap is_name_byte is in cc)

name_bytes : (name : List ℕ) → list_all is_name_byte name ≡ true → has_byte 32 name ≡ false
name_bytes [] e = refl
name_bytes (b ∷ bs) e =
    let both = and_parts (is_name_byte b) (list_all is_name_byte bs) e in
    rw (name_byte b both.0) (name_bytes bs both.1)

service-space : (service : List ℕ) → is_service_name service ≡ true → has_byte 32 service ≡ false
service-space service e =
    let a = and_parts _ _ e in
    let b = and_parts _ _ a.0 in
    let c = and_parts _ _ b.0 in
    name_bytes service c.1

name-space : (name : List ℕ) → is_name name ≡ true → has_byte 32 name ≡ false
name-space name e = not-true (has_byte 32 name) (and_parts (nat_lt 0 (length name)) (not (has_byte 32 name)) e).1

item-space : (item : ItemName) → has_byte 32 (item_word item) ≡ false
item-space items.Service = refl
item-space items.User = refl
item-space items.Tty = refl
item-space items.Rhost = refl
item-space items.Conv = refl
item-space items.AuthTok = refl
item-space items.OldAuthTok = refl
item-space items.Ruser = refl
item-space items.UserPrompt = refl
item-space items.FailDelay = refl
item-space items.XDisplay = refl
item-space items.XAuthData = refl
item-space items.AuthTokType = refl

item_of_word-word : (item : ItemName) → item_of_word (item_word item) ≡ Some item
item_of_word-word items.Service = refl
item_of_word-word items.User = refl
item_of_word-word items.Tty = refl
item_of_word-word items.Rhost = refl
item_of_word-word items.Conv = refl
item_of_word-word items.AuthTok = refl
item_of_word-word items.OldAuthTok = refl
item_of_word-word items.Ruser = refl
item_of_word-word items.UserPrompt = refl
item_of_word-word items.FailDelay = refl
item_of_word-word items.XDisplay = refl
item_of_word-word items.XAuthData = refl
item_of_word-word items.AuthTokType = refl

-- ---- the calls that the commands make from such words

step : ℕ → AppCall → Result Line ScriptKind
step n call = Ok (lines.Step (record { number = n; call = call }))

module _ (h : List ℕ) (n : ℕ) (reads : number_of_word h ≡ Some n) where
  start : (service : List ℕ) → is_service_name service ≡ true
      → line_of_command (Some (commands.Call names.Start)) (codes "start" ∷ h ∷ service ∷ []) ≡ step n (calls.Start service None)
  unfolding step
  start service e = rw (reads, e) refl

  start_user : (service user : List ℕ) → is_service_name service ≡ true → nat_lt 0 (length user) ≡ true
      → line_of_command (Some (commands.Call names.Start)) (codes "start" ∷ h ∷ service ∷ user ∷ []) ≡ step n (calls.Start service (Some user))
  unfolding step
  start_user service user e some = rw (reads, e, some) refl

  end : (word : List ℕ) (status : ℕ) → number_of_word word ≡ Some status
      → line_of_command (Some (commands.Call names.End)) (codes "end" ∷ h ∷ word ∷ []) ≡ step n (calls.End status)
  unfolding step
  end word status e = rw (reads, e) refl

  set_item : (item : ItemName) → line_of_command (Some (commands.Call names.SetItem)) (codes "set_item" ∷ h ∷ item_word item ∷ []) ≡ step n (calls.SetItem item None)
  unfolding step
  set_item item = rw (reads, item_of_word-word item) refl

  set_item_text : (item : ItemName) (text : List ℕ)
      → line_of_command (Some (commands.Call names.SetItem)) (codes "set_item" ∷ h ∷ item_word item ∷ words_of text) ≡ step n (calls.SetItem item (Some text))
  unfolding step
  set_item_text item text =
      let wanted : nat_lt 2 (suc (suc (suc (length (words_of text))))) ≡ true = lt-ltb 2 _ (omega arith) in
      let some : nat_lt 3 (suc (suc (suc (length (words_of text))))) ≡ true = lt-ltb 3 _ (omega (arith, has_word text)) in
      rw (wanted, reads, item_of_word-word item, some, join-words_of text) refl

  get_item : (item : ItemName) → line_of_command (Some (commands.Call names.GetItem)) (codes "get_item" ∷ h ∷ item_word item ∷ []) ≡ step n (calls.GetItem item)
  unfolding step
  get_item item = rw (reads, item_of_word-word item) refl

  putenv : (text : List ℕ) → line_of_command (Some (commands.Call names.PutEnv)) (codes "putenv" ∷ h ∷ words_of text) ≡ step n (calls.PutEnv text)
  unfolding step
  putenv text =
      let some : nat_lt 2 (suc (suc (length (words_of text)))) ≡ true = lt-ltb 2 _ (omega (arith, has_word text)) in
      rw (reads, some, join-words_of text) refl

  reply : (text : List ℕ) → line_of_command (Some (commands.Call names.Reply)) (codes "reply" ∷ h ∷ words_of text) ≡ step n (calls.Reply text)
  unfolding step
  reply text =
      let some : nat_lt 2 (suc (suc (length (words_of text)))) ≡ true = lt-ltb 2 _ (omega (arith, has_word text)) in
      rw (reads, some, join-words_of text) refl

  getenv : (name : List ℕ) → nat_lt 0 (length name) ≡ true
      → line_of_command (Some (commands.Call names.GetEnv)) (codes "getenv" ∷ h ∷ name ∷ []) ≡ step n (calls.GetEnv name)
  unfolding step
  getenv name some = rw (reads, some) refl

  envlist : line_of_command (Some (commands.Call names.EnvList)) (codes "envlist" ∷ h ∷ []) ≡ step n calls.EnvList
  unfolding step
  envlist = rw reads refl

  fail_delay : (word : List ℕ) (micros : ℕ) → number_of_word word ≡ Some micros
      → line_of_command (Some (commands.Call names.FailDelay)) (codes "fail_delay" ∷ h ∷ word ∷ []) ≡ step n (calls.FailDelay micros)
  unfolding step
  fail_delay word micros e = rw (reads, e) refl

  delay : (on : Bool) → line_of_command (Some (commands.Call names.DelayFn)) (codes "delay" ∷ h ∷ switch_word on ∷ []) ≡ step n (calls.DelayFn on)
  unfolding step
  delay true = rw reads refl
  delay false = rw reads refl

  module _ (word : List ℕ) (flags : ℕ) (e : number_of_word word ≡ Some flags) where
    authenticate : line_of_command (Some (commands.Call (names.Run funcs.Authenticate))) (codes "authenticate" ∷ h ∷ word ∷ []) ≡ step n (calls.Authenticate flags)
    unfolding step
    authenticate = rw (reads, e) refl

    setcred : line_of_command (Some (commands.Call (names.Run funcs.SetCred))) (codes "setcred" ∷ h ∷ word ∷ []) ≡ step n (calls.SetCred flags)
    unfolding step
    setcred = rw (reads, e) refl

    acct_mgmt : line_of_command (Some (commands.Call (names.Run funcs.AcctMgmt))) (codes "acct_mgmt" ∷ h ∷ word ∷ []) ≡ step n (calls.AcctMgmt flags)
    unfolding step
    acct_mgmt = rw (reads, e) refl

    open_session : line_of_command (Some (commands.Call (names.Run funcs.OpenSession))) (codes "open_session" ∷ h ∷ word ∷ []) ≡ step n (calls.OpenSession flags)
    unfolding step
    open_session = rw (reads, e) refl

    close_session : line_of_command (Some (commands.Call (names.Run funcs.CloseSession))) (codes "close_session" ∷ h ∷ word ∷ []) ≡ step n (calls.CloseSession flags)
    unfolding step
    close_session = rw (reads, e) refl

    chauthtok : line_of_command (Some (commands.Call (names.Run funcs.ChAuthTok))) (codes "chauthtok" ∷ h ∷ word ∷ []) ≡ step n (calls.ChAuthTok flags)
    unfolding step
    chauthtok = rw (reads, e) refl

-- ---- the words of a written step

module _ (word : List ℕ) (n : ℕ) (plain : has_byte 32 word ≡ false) (small : n < 2 ^ 32) where
  two_words : are_plain (word ∷ decimal n ∷ []) ≡ true
  unfolding are_plain
  two_words = rw (plain, decimal-space n small) refl

  three_words : (third : List ℕ) → has_byte 32 third ≡ false → are_plain (word ∷ decimal n ∷ third ∷ []) ≡ true
  unfolding are_plain
  three_words third e = rw (plain, decimal-space n small, e) refl

  written_two : words_of (join_with_byte 32 (word ∷ decimal n ∷ [])) ≡ word ∷ decimal n ∷ []
  unfolding are_plain
  written_two = words_of-join (word ∷ []) (decimal n) (rw plain refl) ∙ ap (λ (words : List (List ℕ)). word ∷ words) (words_of-alone (decimal n) (decimal-space n small))

  written_text : (text : List ℕ) → words_of (join_with_byte 32 (word ∷ decimal n ∷ text ∷ [])) ≡ word ∷ decimal n ∷ words_of text
  written_text text = words_of-join (word ∷ decimal n ∷ []) text two_words

  written_three : (third : List ℕ) → has_byte 32 third ≡ false → words_of (join_with_byte 32 (word ∷ decimal n ∷ third ∷ [])) ≡ word ∷ decimal n ∷ third ∷ []
  written_three third e = written_text third ∙ ap (λ (words : List (List ℕ)). word ∷ decimal n ∷ words) (words_of-alone third e)

  written_four_text : (third text : List ℕ) → has_byte 32 third ≡ false
      → words_of (join_with_byte 32 (word ∷ decimal n ∷ third ∷ text ∷ [])) ≡ word ∷ decimal n ∷ third ∷ words_of text
  written_four_text third text e = words_of-join (word ∷ decimal n ∷ third ∷ []) text (three_words third e)

  written_four : (third fourth : List ℕ) → has_byte 32 third ≡ false → has_byte 32 fourth ≡ false
      → words_of (join_with_byte 32 (word ∷ decimal n ∷ third ∷ fourth ∷ [])) ≡ word ∷ decimal n ∷ third ∷ fourth ∷ []
  written_four third fourth e f = written_four_text third fourth e ∙ ap (λ (words : List (List ℕ)). word ∷ decimal n ∷ third ∷ words) (words_of-alone fourth f)

-- ---- the law

abbrev written : ℕ → AppCall → Step
written n call = record { number = n; call = call }

ReadsItself : ℕ → AppCall → Type 0
ReadsItself n call = length (text_of_step (written n call)) ≤ 512 → parsed (line_of (written n call)) ≡ Ok (lines.Step (written n call))

module _ (n : ℕ) (small : n < 2 ^ 32) where
  number-reads : number_of_word (decimal n) ≡ Some n
  number-reads = number_of_word-decimal n small

  -- by the words of the step's line, and the call that its command makes from them
  by_words : (call : AppCall) (command : Command) (words : List (List ℕ)) → words_of (text_of_step (written n call)) ≡ word_of_call call ∷ words
      → command_of_word (word_of_call call) ≡ Some command → is_blank (text_of_step (written n call)) ≡ false
      → line_of_command (Some command) (word_of_call call ∷ words) ≡ step n call → ReadsItself n call
  unfolding ReadsItself step
  by_words call command words is named plain makes short =
      read_by_words (text_of_step (written n call)) (word_of_call call) command words is named plain short ∙ makes

  reads_itself : (call : AppCall) → is_sound call ≡ true → ReadsItself n call
  reads_itself (calls.Start service None) e =
      by_words _ (commands.Call names.Start) _ (written_three (codes "start") n refl small service (service-space service e)) refl refl (start (decimal n) n number-reads service e)
  reads_itself (calls.Start service (Some user)) e =
      let both = and_parts (is_service_name service) (is_name user) e in
      by_words _ (commands.Call names.Start) _ (written_four (codes "start") n refl small service user (service-space service both.0) (name-space user both.1)) refl refl
      (start_user (decimal n) n number-reads service user both.0 (and_parts (nat_lt 0 (length user)) (not (has_byte 32 user)) both.1).0)
  reads_itself (calls.End status) e =
      let fits = ltb-true status (2 ^ 32) e in
      by_words _ (commands.Call names.End) _ (written_three (codes "end") n refl small (decimal status) (decimal-space status fits)) refl refl (end (decimal n) n number-reads (decimal status) status (number_of_word-decimal status fits))
  reads_itself (calls.Authenticate flags) e =
      let fits = ltb-true flags (2 ^ 32) e in
      by_words _ (commands.Call (names.Run funcs.Authenticate)) _ (written_three (codes "authenticate") n refl small (decimal flags) (decimal-space flags fits)) refl refl (authenticate (decimal n) n number-reads (decimal flags) flags (number_of_word-decimal flags fits))
  reads_itself (calls.SetCred flags) e =
      let fits = ltb-true flags (2 ^ 32) e in
      by_words _ (commands.Call (names.Run funcs.SetCred)) _ (written_three (codes "setcred") n refl small (decimal flags) (decimal-space flags fits)) refl refl (setcred (decimal n) n number-reads (decimal flags) flags (number_of_word-decimal flags fits))
  reads_itself (calls.AcctMgmt flags) e =
      let fits = ltb-true flags (2 ^ 32) e in
      by_words _ (commands.Call (names.Run funcs.AcctMgmt)) _ (written_three (codes "acct_mgmt") n refl small (decimal flags) (decimal-space flags fits)) refl refl (acct_mgmt (decimal n) n number-reads (decimal flags) flags (number_of_word-decimal flags fits))
  reads_itself (calls.OpenSession flags) e =
      let fits = ltb-true flags (2 ^ 32) e in
      by_words _ (commands.Call (names.Run funcs.OpenSession)) _ (written_three (codes "open_session") n refl small (decimal flags) (decimal-space flags fits)) refl refl (open_session (decimal n) n number-reads (decimal flags) flags (number_of_word-decimal flags fits))
  reads_itself (calls.CloseSession flags) e =
      let fits = ltb-true flags (2 ^ 32) e in
      by_words _ (commands.Call (names.Run funcs.CloseSession)) _ (written_three (codes "close_session") n refl small (decimal flags) (decimal-space flags fits)) refl refl (close_session (decimal n) n number-reads (decimal flags) flags (number_of_word-decimal flags fits))
  reads_itself (calls.ChAuthTok flags) e =
      let fits = ltb-true flags (2 ^ 32) e in
      by_words _ (commands.Call (names.Run funcs.ChAuthTok)) _ (written_three (codes "chauthtok") n refl small (decimal flags) (decimal-space flags fits)) refl refl (chauthtok (decimal n) n number-reads (decimal flags) flags (number_of_word-decimal flags fits))
  reads_itself (calls.FailDelay micros) e =
      let fits = ltb-true micros (2 ^ 32) e in
      by_words _ (commands.Call names.FailDelay) _ (written_three (codes "fail_delay") n refl small (decimal micros) (decimal-space micros fits)) refl refl (fail_delay (decimal n) n number-reads (decimal micros) micros (number_of_word-decimal micros fits))
  reads_itself (calls.SetItem item None) e =
      by_words _ (commands.Call names.SetItem) _ (written_three (codes "set_item") n refl small (item_word item) (item-space item)) refl refl (set_item (decimal n) n number-reads item)
  reads_itself (calls.SetItem item (Some text)) e =
      by_words _ (commands.Call names.SetItem) _ (written_four_text (codes "set_item") n refl small (item_word item) text (item-space item)) refl refl (set_item_text (decimal n) n number-reads item text)
  reads_itself (calls.GetItem item) e =
      by_words _ (commands.Call names.GetItem) _ (written_three (codes "get_item") n refl small (item_word item) (item-space item)) refl refl (get_item (decimal n) n number-reads item)
  reads_itself (calls.PutEnv text) e = by_words _ (commands.Call names.PutEnv) _ (written_text (codes "putenv") n refl small text) refl refl (putenv (decimal n) n number-reads text)
  reads_itself (calls.GetEnv name) e =
      by_words _ (commands.Call names.GetEnv) _ (written_three (codes "getenv") n refl small name (name-space name e)) refl refl
      (getenv (decimal n) n number-reads name (and_parts (nat_lt 0 (length name)) (not (has_byte 32 name)) e).0)
  reads_itself calls.EnvList e = by_words _ (commands.Call names.EnvList) _ (written_two (codes "envlist") n refl small) refl refl (envlist (decimal n) n number-reads)
  reads_itself (calls.DelayFn true) e = by_words _ (commands.Call names.DelayFn) _ (written_three (codes "delay") n refl small (codes "on") refl) refl refl (delay (decimal n) n number-reads true)
  reads_itself (calls.DelayFn false) e = by_words _ (commands.Call names.DelayFn) _ (written_three (codes "delay") n refl small (codes "off") refl) refl refl (delay (decimal n) n number-reads false)
  reads_itself (calls.Reply text) e = by_words _ (commands.Call names.Reply) _ (written_text (codes "reply") n refl small text) refl refl (reply (decimal n) n number-reads text)

pub written_is_read : (s : Step) → is_writable s ≡ true → parsed (line_of s) ≡ Ok (lines.Step s)
unfolding ReadsItself
written_is_read s e =
    let both = and_parts (is_number s.number && is_sound s.call) (nat_le (length (text_of_step s)) 512) e in
    let sound = and_parts (is_number s.number) (is_sound s.call) both.0 in
    reads_itself s.number (ltb-true s.number (2 ^ 32) sound.0) s.call sound.1 (leb-true (length (text_of_step s)) 512 both.1)
