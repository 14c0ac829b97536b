-- An exchange with a front end that sends nothing but replies.
use Rattle.std.proofs.Common.{◌≡◌, ◌≢◌, ℕ, ◌<◌, Bool, true, false, ◌&&◌, map, drop, Option, option_map, Some, None, is_some, Result, Ok, Err, List, [], ◌∷◌, ◌++◌, length, refl, sym, ap, ◌∙◌, append_assoc, length-append, arith}
use Rattle.std.proofs.lemmas.Bool.{eqb-true, le-leb, lt-leb}
use Rattle.std.proofs.lemmas.List.{append-nil, map-append}
use Rattle.std.specs.Bool.{IsTrue, ◌==◌}
use Rattle.std.specs.Io.KnownBytes.{Consumes}
use Rattle.conv_port.specs.declared.conv.ConvFault.TheVariants as faults
use Rattle.conv_port.specs.declared.message.Message.{Message}
use Rattle.conv_port.specs.declared.message.Reply.{Reply}
use Rattle.conv_port.specs.declared.offer.Offer.TheVariants.{Answer}
use Rattle.conv_port.specs.Conv.{ConvState, answer_to, has_replies, ready_replies, replies_from, state_after}
use Rattle.conv_port.specs.Message.{AreReplies, IsReply, prompt_count}
use Rattle.pam_base.specs.Style.{is_prompt}
use Rattle.front_conv.specs.declared.cause.Cause.{Cause}
use Rattle.front_conv.specs.declared.cause.Cause.TheVariants as causes
use Rattle.front_conv.specs.Front.{BreaksOff, IsOdd, Takes, TakesAll, TakesOne, declining, deferring, texts_of}
use Rattle.front_conv.specs.Spelled.{IsKept, IsSteady, is_modelled, source_of, loses_replies, only_from, only_in, texts_from, texts_in}
use Rattle.front_conv.proofs.ReplyBytesFacts.{first_only, only_taken, open_on, texts_taken}

-- ---- lists of replies

ready : (texts : List (List ℕ)) → ready_replies (map Answer texts) ≡ texts
ready [] = refl
ready (t ∷ ts) = ap (λ ys. t ∷ ys) (ready ts)

as_many_by : (b : Bool) (m : Message) (ms : List Message) (r : Reply) (rs : List Reply) → is_prompt m.style ≡ b → length (texts_of ms rs) ≡ prompt_count ms
    → length (texts_of (m ∷ ms) (r ∷ rs)) ≡ prompt_count (m ∷ ms)
as_many_by true m ms r rs e more = rw e (omega (arith, more))
as_many_by false m ms r rs e more = rw e (omega (arith, more))

as_many : (messages : List Message) (replies : List Reply) → AreReplies messages replies → length (texts_of messages replies) ≡ prompt_count messages
as_many [] [] are = refl
as_many [] (r ∷ rs) are = absurd are
as_many (m ∷ ms) [] are = absurd are
as_many (m ∷ ms) (r ∷ rs) are = as_many_by (is_prompt m.style) m ms r rs refl (as_many ms rs are.1)

same_by : (b : Bool) (m : Message) (ms : List Message) (r : Reply) (rs : List Reply) (more : List (List ℕ)) → is_prompt m.style ≡ b → IsReply m r
    → replies_from (texts_of ms rs ++ more) ms ≡ rs → replies_from (texts_of (m ∷ ms) (r ∷ rs) ++ more) (m ∷ ms) ≡ r ∷ rs
same_by true m ms r rs more e fits same = rw e (ap (λ ys. r ∷ ys) same)
same_by false m ms r rs more e fits same =
    let silent : r.text ≡ [] = fits.silent e in
    let one : ◌≡◌ {A = Reply} (record { text = [] }) r = ap (λ t. record { text = t }) (sym silent) in
    rw e (ap (λ (y : Reply). y ∷ replies_from (texts_of ms rs ++ more) ms) one ∙ ap (λ ys. r ∷ ys) same)

same_replies : (messages : List Message) (replies : List Reply) (more : List (List ℕ)) → AreReplies messages replies → replies_from (texts_of messages replies ++ more) messages ≡ replies
same_replies [] [] more are = refl
same_replies [] (r ∷ rs) more are = absurd are
same_replies (m ∷ ms) [] more are = absurd are
same_replies (m ∷ ms) (r ∷ rs) more are = same_by (is_prompt m.style) m ms r rs more refl are.0 (same_replies ms rs more are.1)

dropped : (used rest : List (List ℕ)) → drop (length used) (map Answer (used ++ rest)) ≡ map Answer rest
dropped [] rest = refl
dropped (t ∷ ts) rest = dropped ts rest

-- ---- a result by what the conversation held

has : (messages : List Message) (replies : List Reply) (rest offered : List (List ℕ)) (handed : List (List Message)) → AreReplies messages replies
    → has_replies (record { offers = map Answer ((texts_of messages replies ++ rest) ++ offered); waits = true; handed = handed }) messages ≡ true
has messages replies rest offered handed are =
    let n = as_many messages replies are in
    rw (ready ((texts_of messages replies ++ rest) ++ offered))
    (le-leb (prompt_count messages) (length ((texts_of messages replies ++ rest) ++ offered))
    (omega (arith, n, length-append (texts_of messages replies ++ rest) offered, length-append (texts_of messages replies) rest)))

pub all_came : (messages : List Message) (replies : List Reply) (texts rest offered : List (List ℕ)) (handed : List (List Message)) → AreReplies messages replies
    → texts ≡ texts_of messages replies ++ rest
    → (answer_to (record { offers = map Answer (texts ++ offered); waits = true; handed = handed }) messages ≡ Ok replies)
    × (◌≡◌ {A = ConvState} (record { offers = map Answer (rest ++ offered); waits = true; handed = handed ++ messages ∷ [] })
    (state_after (record { offers = map Answer (texts ++ offered); waits = true; handed = handed }) messages))
all_came messages replies texts rest offered handed are is =
    let used = texts_of messages replies in
    let enough = has messages replies rest offered handed are in
    let assoc : (used ++ rest) ++ offered ≡ used ++ (rest ++ offered) = append_assoc used rest offered in
    let same : replies_from (ready_replies (map Answer ((used ++ rest) ++ offered))) messages ≡ replies =
    ap (λ ys. replies_from ys messages) (ready ((used ++ rest) ++ offered) ∙ assoc) ∙ same_replies messages replies (rest ++ offered) are in
    let left : drop (prompt_count messages) (map Answer ((used ++ rest) ++ offered)) ≡ map Answer (rest ++ offered) =
    ap (λ n. drop n (map Answer ((used ++ rest) ++ offered))) (sym (as_many messages replies are))
    ∙ (ap (λ ys. drop (length used) (map Answer ys)) assoc ∙ dropped used (rest ++ offered)) in
    rw is (rw enough (ap Ok same, ap (λ os. record { offers = os; waits = true; handed = handed ++ messages ∷ [] }) (sym left)))

pub none_came : (messages : List Message) (texts offered : List (List ℕ)) (handed : List (List Message)) → offered ≡ [] → length texts < prompt_count messages
    → (answer_to (record { offers = map Answer (texts ++ offered); waits = true; handed = handed }) messages ≡ Err faults.Again)
    × (◌≡◌ {A = ConvState} (record { offers = map Answer (texts ++ offered); waits = true; handed = handed ++ messages ∷ [] })
    (state_after (record { offers = map Answer (texts ++ offered); waits = true; handed = handed }) messages))
none_came messages texts offered handed none few =
    let lacks : has_replies (record { offers = map Answer (texts ++ offered); waits = true; handed = handed }) messages ≡ false =
    rw (ready (texts ++ offered)) (lt-leb (prompt_count messages) (length (texts ++ offered)) (rw (none, append-nil texts) few)) in
    rw lacks (refl, refl)

-- ---- an exchange

pub texts_all : (messages : List Message) (replies : List Reply) (old new : Option (List ℕ)) → TakesAll messages replies old new → only_in old ≡ true
    → texts_in old ≡ texts_of messages replies ++ texts_in new
texts_all messages replies old new all only = texts_taken _ _ old new all.are_frames all.taken only

pub only_all : (messages : List Message) (replies : List Reply) (old new : Option (List ℕ)) → TakesAll messages replies old new → only_in old ≡ true → only_in new ≡ true
only_all messages replies old new all only = only_taken _ _ old new all.are_frames all.taken only

-- at the end of the input there is no other reply
at_end : (mid new : Option (List ℕ)) → TakesOne (Err causes.Ended) mid new → only_in mid ≡ true → texts_in mid ≡ []
at_end None new one only = absurd cc
at_end (Some xs) None one only = absurd one.2
at_end (Some xs) (Some ys) one only =
    let is : xs ≡ one.0 ++ [] = one.2 ∙ ap (λ y. one.0 ++ y) one.3 in
    ap (texts_from []) is ∙ open_on [] one.0 [] one.1

pub too_few : (messages : List Message) (old new : Option (List ℕ)) → BreaksOff causes.Ended messages old new → only_in old ≡ true → length (texts_in old) < prompt_count messages
too_few messages old new b only =
    let mid : only_in b.mid ≡ true = only_taken _ _ old b.mid b.before.are_frames b.before.taken only in
    let is : texts_in old ≡ b.before.texts = texts_taken _ _ old b.mid b.before.are_frames b.before.taken only ∙ (ap (λ ys. b.before.texts ++ ys) (at_end b.mid new b.last mid)
    ∙ append-nil b.before.texts) in
    rw is b.before.fewer

-- nothing else comes
differ : false ≡ true → ⊥
differ e = absurd cc

no_notice : (mid new : Option (List ℕ)) (bytes : List ℕ) → ((ys : List ℕ) → only_from [] (bytes ++ ys) ≡ false) → Consumes mid new bytes → only_in mid ≡ true → ⊥
no_notice None new bytes none taken only = absurd cc
no_notice (Some xs) None bytes none taken only = absurd taken
no_notice (Some xs) (Some ys) bytes none taken only = differ (sym (none ys) ∙ (ap (only_from []) (sym taken) ∙ only))

odd : (bytes ys : List ℕ) → IsOdd bytes → only_from [] (bytes ++ ys) ≡ false
odd bytes ys is = first_only bytes ys is.first ∙ ap (λ r. is_some r && only_from [] ys) is.no_reply

no_other : (cause : Cause) (mid new : Option (List ℕ)) → loses_replies cause ≡ false → cause ≢ causes.Unread → TakesOne (Err cause) mid new → only_in mid ≡ true → ⊥
no_other causes.NoMemory mid new l u one only = absurd cc
no_other causes.Unwritten mid new l u one only = absurd one
no_other causes.Declined mid new l u one only = no_notice mid new declining (λ ys. refl) one only
no_other causes.Later mid new l u one only = no_notice mid new deferring (λ ys. refl) one only
no_other causes.Ended mid new l u one only = absurd cc
no_other causes.Unread mid new l u one only = absurd (u refl)
no_other causes.Odd mid new l u one only = no_notice mid new one.0 (λ ys. odd one.0 ys one.1) one.2 only

breaks : (cause : Cause) (messages : List Message) (old new : Option (List ℕ)) → loses_replies cause ≡ false → cause ≢ causes.Unread → BreaksOff cause messages old new
    → only_in old ≡ true → ⊥
breaks cause messages old new l u b only = no_other cause b.mid new l u b.last (only_taken _ _ old b.mid b.before.are_frames b.before.taken only)

-- ---- the conversation

both : (a b : Bool) → (a && b) ≡ true → (a ≡ true) × (b ≡ true)
both true true e = (refl, refl)
both true false e = absurd cc
both false b e = absurd cc

wrong : (cause other : Cause) → ◌≡◌ {A = Result (List Reply) Cause} (Err cause) (Err other) → cause ≡ other
wrong cause other e = cc

module _ {F : Type 0} (tells : F → Bool) (incoming : F → Option (List ℕ)) where
  pub still : (messages : List Message) (replies : List Reply) (old new : F) → tells new ≡ tells old → TakesAll messages replies (incoming old) (incoming new)
      → IsTrue (is_modelled tells incoming old) → IsTrue (is_modelled tells incoming new)
  still messages replies old new same all modelled =
      let known = both (tells old) (only_in (incoming old)) modelled in
      rw (same ∙ known.0, only_all messages replies (incoming old) (incoming new) all known.1) refl

  -- no other frame comes, and nothing fails
  pub never : (cause : Cause) (messages : List Message) (old new : F) → loses_replies cause ≡ false → (IsTrue (tells old) → IsSteady (Err cause))
      → Takes (Err cause) messages (incoming old) (incoming new) → IsTrue (is_modelled tells incoming old) → ⊥
  never cause messages old new l steady taken modelled = by cause l (steady known.0) taken
    where
      known : (tells old ≡ true) × (only_in (incoming old) ≡ true)
      known = both (tells old) (only_in (incoming old)) modelled

      by : (c : Cause) → loses_replies c ≡ false → IsSteady (Err c) → Takes (Err c) messages (incoming old) (incoming new) → ⊥
      by causes.NoMemory l s t = absurd cc
      by causes.Unwritten l s t = s.written refl
      by causes.Declined l s t = breaks causes.Declined messages _ _ l (λ e. absurd cc) t known.1
      by causes.Later l s t = breaks causes.Later messages _ _ l (λ e. absurd cc) t known.1
      by causes.Ended l s t = absurd cc
      by causes.Unread l s t = s.read refl
      by causes.Odd l s t = breaks causes.Odd messages _ _ l (λ e. absurd cc) t known.1

  pub kept_on : (begun old new : F) (lost : Option F) → (IsTrue (is_modelled tells incoming old) → IsTrue (is_modelled tells incoming new))
      → IsKept tells incoming begun old lost → IsKept tells incoming begun new lost
  kept_on begun old new None step kept = λ m. step (kept m)
  kept_on begun old new (Some before) step kept = tt

  -- all replies came
  pub told_ok : (messages : List Message) (replies : List Reply) (begun front new : F) (lost : Option F) (offered : List (List ℕ)) (handed after : List (List Message)) → lost ≡ None
      → IsKept tells incoming begun front lost → AreReplies messages replies → TakesAll messages replies (incoming front) (incoming new) → after ≡ handed ++ messages ∷ []
      → IsTrue (is_modelled tells incoming begun)
      → (answer_to (record { offers = map Answer (texts_in (incoming (source_of lost front)) ++ offered); waits = true; handed = handed }) messages ≡ Ok replies)
      × (◌≡◌ {A = ConvState} (record { offers = map Answer (texts_in (incoming (source_of lost new)) ++ offered); waits = true; handed = after })
      (state_after (record { offers = map Answer (texts_in (incoming (source_of lost front)) ++ offered); waits = true; handed = handed }) messages))
  told_ok messages replies begun front new (Some before) offered handed after none kept are all added modelled = absurd cc
  told_ok messages replies begun front new None offered handed after none kept are all added modelled =
      let known = both (tells front) (only_in (incoming front)) (kept modelled) in
      rw added (all_came messages replies (texts_in (incoming front)) (texts_in (incoming new)) offered handed are (texts_all messages replies (incoming front) (incoming new) all known.1))

  -- the input ended
  pub told_ended : (messages : List Message) (begun front new : F) (lost : Option F) (offered : List (List ℕ)) (handed after : List (List Message)) → lost ≡ None
      → IsKept tells incoming begun front lost → offered ≡ [] → BreaksOff causes.Ended messages (incoming front) (incoming new) → after ≡ handed ++ messages ∷ []
      → IsTrue (is_modelled tells incoming begun)
      → (answer_to (record { offers = map Answer (texts_in (incoming (source_of lost front)) ++ offered); waits = true; handed = handed }) messages ≡ Err faults.Again)
      × (◌≡◌ {A = ConvState} (record { offers = map Answer (texts_in (incoming front) ++ offered); waits = true; handed = after })
      (state_after (record { offers = map Answer (texts_in (incoming (source_of lost front)) ++ offered); waits = true; handed = handed }) messages))
  told_ended messages begun front new (Some before) offered handed after none kept empty breaks_off added modelled = absurd cc
  told_ended messages begun front new None offered handed after none kept empty breaks_off added modelled =
      let known = both (tells front) (only_in (incoming front)) (kept modelled) in
      rw added (none_came messages (texts_in (incoming front)) offered handed empty (too_few messages (incoming front) (incoming new) breaks_off known.1))

  -- what can't happen with a modelled front end
  pub told_never : (A : Type 0) (cause : Cause) (messages : List Message) (begun front new : F) (lost : Option F) → lost ≡ None → IsKept tells incoming begun front lost
      → loses_replies cause ≡ false → (IsTrue (tells front) → IsSteady (Err cause)) → Takes (Err cause) messages (incoming front) (incoming new)
      → IsTrue (is_modelled tells incoming begun) → A
  told_never A cause messages begun front new (Some before) none kept l steady taken modelled = absurd cc
  told_never A cause messages begun front new None none kept l steady taken modelled = absurd (never cause messages front new l steady taken (kept modelled))

pub nothing : {A B : Type 0} (f : A → B) (o : Option A) (b : Bool) → b ≡ is_some o → b ≡ false → option_map f o ≡ None
nothing f None b p q = refl
nothing f (Some x) b p q = absurd (differ (sym q ∙ p))

pub added_one : {A B : Type 0} (f : A → B) (old mid new : List A) (x : A) (y : B) → new ≡ mid ++ x ∷ [] → mid ≡ old → f x ≡ y → map f new ≡ map f old ++ y ∷ []
added_one f old mid new x y p q r = ap (map f) (p ∙ ap (λ m. m ++ x ∷ []) q) ∙ (map-append f old (x ∷ []) ∙ ap (λ z. map f old ++ z ∷ []) r)

pub none_in : {A B : Type 0} (f : A → B) (items : List A) (n : ℕ) (b : Bool) → b ≡ (n == 0) → b ≡ true → n ≡ length items → map f items ≡ []
none_in f [] n b p q r = refl
none_in f (x ∷ xs) n b p q r = let zero : n ≡ 0 = eqb-true n 0 (sym p ∙ q) in absurd (first_of (omega (arith, zero, r), grind arith))
