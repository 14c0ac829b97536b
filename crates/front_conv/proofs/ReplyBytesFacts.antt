-- The replies in bytes that begin with frames of replies.
use Rattle.std.proofs.Common.{◌≡◌, ◌≢◌, ℕ, true, false, ◌&&◌, Option, Some, None, is_some, List, [], ◌∷◌, ◌++◌, refl, sym, ap, ◌∙◌, append_assoc}
use Rattle.std.proofs.lemmas.List.{append-nil}
use Rattle.std.specs.Io.KnownBytes.{Consumes}
use Rattle.pam_wire.specs.declared.prefix.FirstFrame.{FirstFrame}
use Rattle.pam_wire.specs.declared.prefix.FirstFrame.TheVariants.{Open, OutOfRange, Whole}
use Rattle.pam_wire.specs.Laws.{Settles}
use Rattle.pam_wire.specs.Read.{first_frame_of, step_of}
use Rattle.pam_wire.proofs.BytePrefixFacts.{first_frame_settles}
use Rattle.front_conv.specs.Front.{AreReplyFrames, IsFirst, is_open, open_by, reply_in}
use Rattle.front_conv.specs.Spelled.{reply_then, only_from, only_in, texts_from, texts_in}

-- the beginning of what is incomplete is incomplete
out_of_range : (f : FirstFrame) → f ≡ Open → f ≡ OutOfRange → ⊥
out_of_range f p q = absurd cc

whole : (f : FirstFrame) (n : ℕ) → f ≡ Open → f ≡ Whole n → ⊥
whole f n p q = absurd cc

prefix_open : (p more : List ℕ) → first_frame_of (p ++ more) ≡ Open → first_frame_of p ≡ Open
prefix_open p more e = by (first_frame_of p) refl (first_frame_settles p more)
  where
    by : (f : FirstFrame) → first_frame_of p ≡ f → Settles f p more → first_frame_of p ≡ Open
    by Open is s = is
    by OutOfRange is s = absurd (out_of_range _ e s.1)
    by (Whole size) is s = absurd (whole _ size e s.2)

closed : (f : FirstFrame) → f ≢ Open → open_by f ≡ false
closed Open n = absurd (n refl)
closed OutOfRange n = refl
closed (Whole size) n = refl

opened : (part : List ℕ) (b : ℕ) (bs : List ℕ) → first_frame_of (part ++ b ∷ bs) ≡ Open → is_open (part ++ b ∷ []) ≡ true
opened part b bs e = rw (prefix_open (part ++ b ∷ []) bs (rw (append_assoc part (b ∷ []) bs) e)) refl

pub open_on : (part more rest : List ℕ) → first_frame_of (part ++ more) ≡ Open → texts_from part (more ++ rest) ≡ texts_from (part ++ more) rest
open_on part [] rest e = rw (append-nil part) refl
open_on part (b ∷ bs) rest e =
    let assoc : (part ++ b ∷ []) ++ bs ≡ part ++ b ∷ bs = append_assoc part (b ∷ []) bs in
    rw (opened part b bs e) (open_on (part ++ b ∷ []) bs rest (rw assoc e) ∙ ap (λ p. texts_from p rest) assoc)

pub only_on : (part more rest : List ℕ) → first_frame_of (part ++ more) ≡ Open → only_from part (more ++ rest) ≡ only_from (part ++ more) rest
only_on part [] rest e = rw (append-nil part) refl
only_on part (b ∷ bs) rest e =
    let assoc : (part ++ b ∷ []) ++ bs ≡ part ++ b ∷ bs = append_assoc part (b ∷ []) bs in
    rw (opened part b bs e) (only_on (part ++ b ∷ []) bs rest (rw assoc e) ∙ ap (λ p. only_from p rest) assoc)

-- it is known what comes first
texts_step : (front : List ℕ) (last : ℕ) (bytes rest : List ℕ) → bytes ≡ front ++ last ∷ [] → open_by (first_frame_of bytes) ≡ false
    → texts_from front (last ∷ rest) ≡ reply_then (reply_in (step_of bytes)) (texts_from [] rest)
texts_step front last bytes rest is shuts =
    let shut : open_by (first_frame_of (front ++ last ∷ [])) ≡ false = ap (λ b. open_by (first_frame_of b)) (sym is) ∙ shuts in
    rw shut (ap (λ b. reply_then (reply_in (step_of b)) (texts_from [] rest)) (sym is))

only_step : (front : List ℕ) (last : ℕ) (bytes rest : List ℕ) → bytes ≡ front ++ last ∷ [] → open_by (first_frame_of bytes) ≡ false
    → only_from front (last ∷ rest) ≡ (is_some (reply_in (step_of bytes)) && only_from [] rest)
only_step front last bytes rest is shuts =
    let shut : open_by (first_frame_of (front ++ last ∷ [])) ≡ false = ap (λ b. open_by (first_frame_of b)) (sym is) ∙ shuts in
    rw shut (ap (λ b. is_some (reply_in (step_of b)) && only_from [] rest) (sym is))

in_parts : (bytes rest : List ℕ) (f : IsFirst bytes) → bytes ++ rest ≡ f.front ++ f.last ∷ rest
in_parts bytes rest f = ap (λ b. b ++ rest) f.parts ∙ append_assoc f.front (f.last ∷ []) rest

pub first_on : (bytes rest : List ℕ) → IsFirst bytes → texts_from [] (bytes ++ rest) ≡ reply_then (reply_in (step_of bytes)) (texts_from [] rest)
first_on bytes rest f = ap (texts_from []) (in_parts bytes rest f) ∙ (open_on [] f.front (f.last ∷ rest) f.incomplete
    ∙ texts_step f.front f.last bytes rest f.parts (closed _ f.known))

pub first_only : (bytes rest : List ℕ) → IsFirst bytes → only_from [] (bytes ++ rest) ≡ (is_some (reply_in (step_of bytes)) && only_from [] rest)
first_only bytes rest f = ap (only_from []) (in_parts bytes rest f) ∙ (only_on [] f.front (f.last ∷ rest) f.incomplete
    ∙ only_step f.front f.last bytes rest f.parts (closed _ f.known))

-- frames of replies come first
pub all_on : (texts : List (List ℕ)) (frames rest : List ℕ) → AreReplyFrames texts frames → texts_from [] (frames ++ rest) ≡ texts ++ texts_from [] rest
all_on [] frames rest are = ap (λ f. texts_from [] (f ++ rest)) are
all_on (t ∷ ts) frames rest are =
    let parts : frames ++ rest ≡ are.0 ++ (are.1 ++ rest) = ap (λ f. f ++ rest) are.2 ∙ append_assoc are.0 are.1 rest in
    ap (texts_from []) parts ∙ (first_on are.0 (are.1 ++ rest) are.3.first
    ∙ (ap (λ r. reply_then r (texts_from [] (are.1 ++ rest))) are.3.reply_is ∙ ap (λ ys. t ∷ ys) (all_on ts are.1 rest are.4)))

pub all_only : (texts : List (List ℕ)) (frames rest : List ℕ) → AreReplyFrames texts frames → only_from [] (frames ++ rest) ≡ only_from [] rest
all_only [] frames rest are = ap (λ f. only_from [] (f ++ rest)) are
all_only (t ∷ ts) frames rest are =
    let parts : frames ++ rest ≡ are.0 ++ (are.1 ++ rest) = ap (λ f. f ++ rest) are.2 ∙ append_assoc are.0 are.1 rest in
    ap (only_from []) parts ∙ (first_only are.0 (are.1 ++ rest) are.3.first
    ∙ (ap (λ r. is_some r && only_from [] (are.1 ++ rest)) are.3.reply_is ∙ all_only ts are.1 rest are.4))

-- ---- known bytes

pub texts_taken : (texts : List (List ℕ)) (frames : List ℕ) (old new : Option (List ℕ)) → AreReplyFrames texts frames → Consumes old new frames → only_in old ≡ true
    → texts_in old ≡ texts ++ texts_in new
texts_taken texts frames None new are taken only = absurd cc
texts_taken texts frames (Some xs) None are taken only = absurd taken
texts_taken texts frames (Some xs) (Some ys) are taken only = ap (texts_from []) taken ∙ all_on texts frames ys are

pub only_taken : (texts : List (List ℕ)) (frames : List ℕ) (old new : Option (List ℕ)) → AreReplyFrames texts frames → Consumes old new frames → only_in old ≡ true
    → only_in new ≡ true
only_taken texts frames None new are taken only = absurd cc
only_taken texts frames (Some xs) None are taken only = absurd taken
only_taken texts frames (Some xs) (Some ys) are taken only = sym (all_only texts frames ys are) ∙ (ap (only_from []) (sym taken) ∙ only)

pub texts_spelled : (texts : List (List ℕ)) (bytes : List ℕ) → AreReplyFrames texts bytes → texts_from [] bytes ≡ texts
texts_spelled texts bytes are = ap (texts_from []) (sym (append-nil bytes)) ∙ (all_on texts bytes [] are ∙ append-nil texts)

pub only_spelled : (texts : List (List ℕ)) (bytes : List ℕ) → AreReplyFrames texts bytes → only_from [] bytes ≡ true
only_spelled texts bytes are = ap (only_from []) (sym (append-nil bytes)) ∙ all_only texts bytes [] are
