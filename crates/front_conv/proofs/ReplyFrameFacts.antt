-- The messages of an exchange have their replies, one after another, each prompt's from a frame.
use Rattle.std.proofs.Common.{◌≡◌, ℕ, ◌+◌, Bool, true, false, Option, Result, Ok, Err, List, [], ◌∷◌, ◌++◌, length, refl, sym, subst, ap, ◌∙◌, append_assoc, length-append, arith}
use Rattle.std.specs.Io.KnownBytes.{Consumes}
use Rattle.std.proofs.KnownBytes.{Consumes-nil, Consumes-trans}
use Rattle.std.proofs.lemmas.List.{append-nil}
use Rattle.conv_port.specs.declared.message.Message.{Message}
use Rattle.conv_port.specs.declared.message.Reply.{Reply}
use Rattle.pam_base.specs.Style.{is_prompt}
use Rattle.conv_port.specs.Message.{AreReplies, IsReply, prompt_count}
use Rattle.front_conv.specs.declared.cause.Cause.{Cause}
use Rattle.front_conv.specs.declared.cause.Cause.TheVariants as causes
use Rattle.front_conv.specs.Front.{AreReplyFrames, BreaksOff, IsReplyFrame, Takes, TakesAll, TakesFor, TakesOne, texts_of}

-- some messages have their replies, and their frames were taken
pub record IsCollecting (messages rest : List Message) (done : List Reply) (from now : Option (List ℕ)) : Type 0 where
  pub replies : (more : List Reply) → AreReplies rest more → AreReplies messages (done ++ more)
  pub texts : List (List ℕ)
  pub texts_are : (more : List Reply) → texts_of messages (done ++ more) ≡ texts ++ texts_of rest more
  pub count : prompt_count messages ≡ length texts + prompt_count rest
  pub frames : List ℕ
  pub are_frames : AreReplyFrames texts frames
  pub taken : Consumes from now frames

pub begins : (messages : List Message) (from : Option (List ℕ)) → IsCollecting messages messages [] from from
begins messages from = record {
  replies = λ more all. all;
  texts = [];
  texts_are = λ more. refl;
  count = omega arith;
  frames = [];
  are_frames = refl;
  taken = Consumes-nil from;
}

one_frame_more : (texts : List (List ℕ)) (frames text frame : List ℕ) → AreReplyFrames texts frames → IsReplyFrame text frame
    → AreReplyFrames (texts ++ text ∷ []) (frames ++ frame)
one_frame_more [] frames text frame are is = (frame, [], rw are (sym (append-nil frame)), is, refl)
one_frame_more (t ∷ ts) frames text frame are is =
    (are.0, are.1 ++ frame, rw are.2 (append_assoc are.0 are.1 frame), are.3, one_frame_more ts are.1 text frame are.4 is)

by_prompt : (messages ms : List Message) (m : Message) (done : List Reply) (r : Reply) (from mid to : Option (List ℕ)) → is_prompt m.style ≡ true
    → IsCollecting messages (m ∷ ms) done from mid → IsReply m r → TakesOne (Ok r.text) mid to → IsCollecting messages ms (done ++ r ∷ []) from to
by_prompt messages ms m done r from mid to is c reply one = record {
  replies = λ more all. rw (append_assoc done (r ∷ []) more) (c.replies (r ∷ more) (reply, all));
  texts = c.texts ++ r.text ∷ [];
  texts_are = λ more.
      let e : texts_of messages (done ++ r ∷ more) ≡ c.texts ++ r.text ∷ texts_of ms more = rw is at (c.texts_are (r ∷ more)) in
      rw (append_assoc done (r ∷ []) more) (e ∙ sym (append_assoc c.texts (r.text ∷ []) (texts_of ms more)));
  count =
      let e : prompt_count messages ≡ length c.texts + (1 + prompt_count ms) = rw is at c.count in
      omega (arith, e, length-append c.texts (r.text ∷ []));
  frames = c.frames ++ one.0;
  are_frames = one_frame_more c.texts c.frames r.text one.0 c.are_frames one.1;
  taken = Consumes-trans from mid to c.frames one.0 c.taken one.2;
}

by_other : (messages ms : List Message) (m : Message) (done : List Reply) (r : Reply) (from mid to : Option (List ℕ)) → is_prompt m.style ≡ false
    → IsCollecting messages (m ∷ ms) done from mid → IsReply m r → to ≡ mid → IsCollecting messages ms (done ++ r ∷ []) from to
by_other messages ms m done r from mid to is c reply same = record {
  replies = λ more all. rw (append_assoc done (r ∷ []) more) (c.replies (r ∷ more) (reply, all));
  texts = c.texts;
  texts_are = λ more.
      let e : texts_of messages (done ++ r ∷ more) ≡ c.texts ++ texts_of ms more = rw is at (c.texts_are (r ∷ more)) in
      rw (append_assoc done (r ∷ []) more) e;
  count =
      let e : prompt_count messages ≡ length c.texts + (0 + prompt_count ms) = rw is at c.count in
      omega (arith, e);
  frames = c.frames;
  are_frames = c.are_frames;
  taken = rw same c.taken;
}

pub one_more : (messages ms : List Message) (m : Message) (done : List Reply) (r : Reply) (from mid to : Option (List ℕ))
    → IsCollecting messages (m ∷ ms) done from mid → IsReply m r → TakesFor (Ok r) m mid to → IsCollecting messages ms (done ++ r ∷ []) from to
one_more messages ms m done r from mid to c reply took = by (is_prompt m.style) refl
  where
    by : (b : Bool) → is_prompt m.style ≡ b → IsCollecting messages ms (done ++ r ∷ []) from to
    by true e = by_prompt messages ms m done r from mid to e c reply (took.prompt e)
    by false e = by_other messages ms m done r from mid to e c reply (took.other e).1

pub all_replies : (messages : List Message) (done : List Reply) (from now : Option (List ℕ)) → IsCollecting messages [] done from now → AreReplies messages done
all_replies messages done from now c = subst (AreReplies messages) (append-nil done) (c.replies [] tt)

pub all_taken : (messages : List Message) (done : List Reply) (from now : Option (List ℕ)) → IsCollecting messages [] done from now → TakesAll messages done from now
all_taken messages done from now c =
    let e : texts_of messages done ≡ c.texts = ap (texts_of messages) (sym (append-nil done)) ∙ c.texts_are [] ∙ append-nil c.texts in
    record {
      frames = c.frames;
      are_frames = rw e c.are_frames;
      taken = c.taken;
    }

-- a prompt got no reply
breaks : (messages ms : List Message) (m : Message) (done : List Reply) (from mid to : Option (List ℕ)) (cause : Cause) → is_prompt m.style ≡ true
    → IsCollecting messages (m ∷ ms) done from mid → TakesOne (Err cause) mid to → BreaksOff cause messages from to
breaks messages ms m done from mid to cause is c took = record {
  mid = mid;
  before = record {
    texts = c.texts;
    fewer = let e : prompt_count messages ≡ length c.texts + (1 + prompt_count ms) = rw is at c.count in omega (arith, e);
    frames = c.frames;
    are_frames = c.are_frames;
    taken = c.taken;
  };
  last = took;
}

failed : (r : Reply) (cause : Cause) → ◌≡◌ {A = Result Reply Cause} (Err cause) (Ok r) → ⊥
failed r cause e = absurd cc

pub broken_off : (messages ms : List Message) (m : Message) (done : List Reply) (from mid to : Option (List ℕ)) (cause : Cause)
    → IsCollecting messages (m ∷ ms) done from mid → TakesFor (Err cause) m mid to → Takes (Err cause) messages from to
broken_off messages ms m done from mid to cause c took = by (is_prompt m.style) refl
  where
    of : (cause : Cause) → is_prompt m.style ≡ true → TakesOne (Err cause) mid to → Takes (Err cause) messages from to
    of causes.NoMemory is one = tt
    of causes.Unwritten is one = absurd one
    of causes.Declined is one = breaks messages ms m done from mid to causes.Declined is c one
    of causes.Later is one = breaks messages ms m done from mid to causes.Later is c one
    of causes.Ended is one = breaks messages ms m done from mid to causes.Ended is c one
    of causes.Unread is one = breaks messages ms m done from mid to causes.Unread is c one
    of causes.Odd is one = breaks messages ms m done from mid to causes.Odd is c one

    by : (b : Bool) → is_prompt m.style ≡ b → Takes (Err cause) messages from to
    by true e = of cause e (took.prompt e)
    by false e = absurd (failed _ cause (took.other e).0)
