-- The messages of an exchange are shown and their replies read, one after another.
use Rattle.std.proofs.Common.{◌≡◌, ℕ, Bool, true, false, ◌&&◌, nat_lt, Option, Some, None, List, [], ◌∷◌, ◌++◌, length, refl, sym, subst, ◌∙◌, append_assoc}
use Rattle.std.specs.Prelude.{⊤}
use Rattle.std.specs.Io.KnownBytes.{Appends}
use Rattle.std.proofs.KnownBytes.{Appends-nil, Appends-trans}
use Rattle.std.proofs.lemmas.List.{append-nil}
use Rattle.conv_port.specs.declared.message.Message.{Message}
use Rattle.conv_port.specs.declared.message.Reply.{Reply}
use Rattle.pam_base.specs.Style.{is_prompt}
use Rattle.conv_port.specs.Message.{AreReplies, IsReply}
use Rattle.conv_port.specs.Terminal.{IsTyped, Types, all_shown, past_line, after_replies, has_lines, shown, typed_line, typed_replies}

-- what was typed gives the replies so far, and then those to the other messages
pub record IsTypedSoFar (messages rest : List Message) (done : List Reply) (bytes left : List ℕ) : Type 0 where
  pub replies : done ++ typed_replies rest left ≡ typed_replies messages bytes
  pub left_is : after_replies rest left ≡ after_replies messages bytes
  pub enough : has_lines rest left ≡ has_lines messages bytes

abbrev pub TypesSoFar : List Message → List Message → List Reply → Option (List ℕ) → Option (List ℕ) → Type 0
TypesSoFar messages rest done None now = ⊤
TypesSoFar messages rest done (Some bytes) None = ⊥
TypesSoFar messages rest done (Some bytes) (Some left) = IsTypedSoFar messages rest done bytes left

and_true : (b : Bool) → (b && true) ≡ true → b ≡ true
and_true true e = refl
and_true false e = absurd cc

only : (r s : Reply) → ◌≡◌ {A = List Reply} (r ∷ []) (s ∷ []) → r ≡ s
only r s e = cc

typed_more : (messages ms : List Message) (m : Message) (done : List Reply) (r : Reply) (bytes left after : List ℕ)
    → IsTypedSoFar messages (m ∷ ms) done bytes left → IsTyped (m ∷ []) (r ∷ []) left after → IsTypedSoFar messages ms (done ++ r ∷ []) bytes after
typed_more messages ms m done r bytes left after t one = by (is_prompt m.style) refl
  where
    by : (b : Bool) → is_prompt m.style ≡ b → IsTypedSoFar messages ms (done ++ r ∷ []) bytes after
    by true e =
        let is : r ≡ record { text = typed_line left } = only r _ (rw e at one.replies_are) in
        let after_is : after ≡ past_line left = rw e at one.left_is in
        let found : nat_lt 0 (length left) ≡ true = and_true _ (rw e at one.enough) in
        let replies : done ++ record { text = typed_line left } ∷ typed_replies ms (past_line left) ≡ typed_replies messages bytes = rw e at t.replies in
        let left_is : after_replies ms (past_line left) ≡ after_replies messages bytes = rw e at t.left_is in
        let enough : (nat_lt 0 (length left) && has_lines ms (past_line left)) ≡ has_lines messages bytes = rw e at t.enough in
        record {
          replies = append_assoc done (r ∷ []) (typed_replies ms after) ∙ rw (is, after_is) replies;
          left_is = rw after_is left_is;
          enough = rw after_is (rw found at enough);
        }
    by false e =
        let is : r ≡ record { text = [] } = only r _ (rw e at one.replies_are) in
        let after_is : after ≡ left = rw e at one.left_is in
        let replies : done ++ record { text = [] } ∷ typed_replies ms left ≡ typed_replies messages bytes = rw e at t.replies in
        let left_is : after_replies ms left ≡ after_replies messages bytes = rw e at t.left_is in
        let enough : has_lines ms left ≡ has_lines messages bytes = rw e at t.enough in
        record {
          replies = append_assoc done (r ∷ []) (typed_replies ms after) ∙ rw (is, after_is) replies;
          left_is = rw after_is left_is;
          enough = rw after_is enough;
        }

types_more : (messages ms : List Message) (m : Message) (done : List Reply) (r : Reply) (from mid to : Option (List ℕ))
    → TypesSoFar messages (m ∷ ms) done from mid → Types (m ∷ []) (r ∷ []) mid to → TypesSoFar messages ms (done ++ r ∷ []) from to
types_more messages ms m done r None mid to t one = tt
types_more messages ms m done r (Some bytes) None to t one = absurd t
types_more messages ms m done r (Some bytes) (Some left) None t one = absurd one
types_more messages ms m done r (Some bytes) (Some left) (Some after) t one = typed_more messages ms m done r bytes left after t one

types_none : (messages : List Message) (from : Option (List ℕ)) → TypesSoFar messages messages [] from from
types_none messages None = tt
types_none messages (Some bytes) = record { replies = refl; left_is = refl; enough = refl }

types_all : (messages : List Message) (done : List Reply) (from to : Option (List ℕ)) → TypesSoFar messages [] done from to → Types messages done from to
types_all messages done None to t = tt
types_all messages done (Some bytes) None t = absurd t
types_all messages done (Some bytes) (Some left) t = record { replies_are = sym (append-nil done) ∙ t.replies; left_is = t.left_is; enough = sym t.enough }

-- some messages of an exchange were shown and have their replies
pub record IsConversing (messages rest : List Message) (done : List Reply) (from to before now : Option (List ℕ)) : Type 0 where
  pub replies : (more : List Reply) → AreReplies rest more → AreReplies messages (done ++ more)
  pub typed : TypesSoFar messages rest done from to
  pub so_far : List ℕ
  pub appended : Appends before now so_far
  pub parts : so_far ++ all_shown rest ≡ all_shown messages

pub begins : (messages : List Message) (from before : Option (List ℕ)) → IsConversing messages messages [] from from before before
begins messages from before = record {
  replies = λ more all. all;
  typed = types_none messages from;
  so_far = [];
  appended = Appends-nil before;
  parts = refl;
}

pub one_more : (messages ms : List Message) (m : Message) (done : List Reply) (r : Reply) (from mid to before now after : Option (List ℕ))
    → IsConversing messages (m ∷ ms) done from mid before now → IsReply m r → Types (m ∷ []) (r ∷ []) mid to → Appends now after (shown m)
    → IsConversing messages ms (done ++ r ∷ []) from to before after
one_more messages ms m done r from mid to before now after c reply typed appended = record {
  replies = λ more all. rw (append_assoc done (r ∷ []) more) (c.replies (r ∷ more) (reply, all));
  typed = types_more messages ms m done r from mid to c.typed typed;
  so_far = c.so_far ++ shown m;
  appended = Appends-trans before now after c.so_far (shown m) c.appended appended;
  parts = append_assoc c.so_far (shown m) (all_shown ms) ∙ c.parts;
}

pub all_replies : (messages : List Message) (done : List Reply) (from to before now : Option (List ℕ))
    → IsConversing messages [] done from to before now → AreReplies messages done
all_replies messages done from to before now c = subst (AreReplies messages) (append-nil done) (c.replies [] tt)

pub all_typed : (messages : List Message) (done : List Reply) (from to before now : Option (List ℕ))
    → IsConversing messages [] done from to before now → Types messages done from to
all_typed messages done from to before now c = types_all messages done from to c.typed

pub all_are_shown : (messages : List Message) (done : List Reply) (from to before now : Option (List ℕ))
    → IsConversing messages [] done from to before now → Appends before now (all_shown messages)
all_are_shown messages done from to before now c = subst (Appends before now) (sym (append-nil c.so_far) ∙ c.parts) c.appended
