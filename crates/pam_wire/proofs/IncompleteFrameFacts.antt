-- When some bytes are an incomplete frame.
use Rattle.std.proofs.Common.{◌≡◌, ℕ, ◌+◌, ◌*◌, ◌-◌, ◌<◌, ◌≤◌, ◌/◌, ◌%◌, Bool, true, false, ◌||◌, cond, List, [], ◌∷◌, ◌++◌, length, take, drop, Option, Some, None, nat_lt, nat_le, refl, sym, ap, ◌∙◌, arith, length-append, append_assoc, replicate}
use Rattle.std.proofs.lemmas.Bool.{leb-false, ltb-false, lt-leb, le-ltb}
use Rattle.std.proofs.lemmas.List.{length-replicate}
use Rattle.std.proofs.lemmas.List.Elements.{All-head, All-tail}
use Rattle.std.specs.Int.{w16, from_be_bytes, to_be_bytes}
use Rattle.pam_base.specs.declared.call.Step.{Step}
use Rattle.pam_wire.specs.declared.prefix.FirstFrame.{FirstFrame}
use Rattle.pam_wire.specs.declared.prefix.FirstFrame.TheVariants.{Open, OutOfRange, Whole}
use Rattle.pam_wire.specs.declared.next.Next.{Next}
use Rattle.pam_wire.specs.declared.next.Next.TheVariants as next
use Rattle.pam_wire.specs.Frame.{AreBytes, sized, frame_of}
use Rattle.pam_wire.specs.Read.{first_frame_by, first_frame_of}
use Rattle.pam_wire.specs.Stream.{next_in, next_by, next_of, IsBody, IsOpen, AreFramesOf, HasNoFrame}
use Rattle.pam_wire.proofs.FrameBytesFacts.{two_back, said-size, in_range, frame-read}

abbrev zeros : ℕ → List ℕ
zeros n = replicate n 0

-- ---- an incomplete frame is the beginning of a frame

-- the length is `said`, and fewer bytes follow
record IsShort (said follow : ℕ) : Type 0 where
  low : 2 ≤ said
  high : said ≤ 580
  fewer : follow < said

short_by : (said follow : ℕ) (t u v : Bool) → nat_lt said 2 ≡ t → nat_lt 580 said ≡ u → nat_le said follow ≡ v → cond (t || u) OutOfRange (cond v (Whole (said + 2)) Open) ≡ Open → IsShort said follow
short_by said follow true u v h k l e = absurd cc
short_by said follow false true v h k l e = absurd cc
short_by said follow false false true h k l e = absurd cc
short_by said follow false false false h k l e = record { low = ltb-false said 2 h; high = ltb-false 580 said k; fewer = leb-false said follow l }

short_of : (said follow : ℕ) → first_frame_by said follow ≡ Open → IsShort said follow
short_of said follow e = short_by said follow _ _ _ refl refl refl e

-- bytes that begin with a length, with zeros after them
opened : (a b : ℕ) (more : List ℕ) (said : ℕ) → a < 256 → b < 256 → from_be_bytes w16 (a ∷ b ∷ []) ≡ said → IsShort said (length more) → IsOpen (a ∷ b ∷ more)
opened a b more said a' b' s is =
    let body = more ++ zeros (said - length more) in
    let size : length body ≡ said = omega (arith, length-append more (zeros (said - length more)), length-replicate {A = ℕ} (said - length more) 0, is.fewer) in
    let two : to_be_bytes w16 (length body) ≡ a ∷ b ∷ [] = ap (to_be_bytes w16) (size ∙ sym s) ∙ two_back a b a' b' in
    record {
      body = body;
      more = zeros (said - length more);
      body_is = (omega (arith, size, is.low), omega (arith, size, is.high));
      some = omega (arith, length-replicate {A = ℕ} (said - length more) 0, is.fewer);
      parts = ap (λ (t : List ℕ). t ++ body) two;
    }

-- a length of which only one byte has come
one_byte : (a b : ℕ) → a < 256 → b < 256 → 2 ≤ 256 * a + b → 256 * a + b ≤ 580 → IsOpen (a ∷ [])
one_byte a b a' b' low high =
    let said : from_be_bytes w16 (a ∷ b ∷ []) ≡ 256 * a + b = omega arith in
    let o = opened a b [] (256 * a + b) a' b' said (record { low = low; high = high; fewer = omega (arith, low) }) in
    record { body = o.body; more = b ∷ o.more; body_is = o.body_is; some = omega arith; parts = o.parts }

one_by : (a : ℕ) (t : Bool) → a < 256 → nat_lt 2 a ≡ t → cond t OutOfRange Open ≡ Open → IsOpen (a ∷ [])
one_by a true a' h e = absurd cc
one_by a false a' h e = let le = ltb-false 2 a h in one_byte a 2 a' (omega arith) (omega arith) (omega (arith, le))

pub front-open : (rest : List ℕ) → AreBytes rest → first_frame_of rest ≡ Open → IsOpen rest
front-open [] all e = record { body = 0 ∷ 0 ∷ []; more = sized (0 ∷ 0 ∷ []); body_is = (omega arith, omega arith); some = omega arith; parts = refl }
front-open (a ∷ []) all e = one_by a _ (All-head (λ b. b < 256) a [] all) refl e
front-open (a ∷ b ∷ more) all e =
    opened a b more _ (All-head (λ b. b < 256) a (b ∷ more) all) (All-head (λ b. b < 256) b more (All-tail (λ b. b < 256) a (b ∷ more) all)) refl (short_of _ (length more) e)

-- ---- the beginning of a frame is incomplete

first_byte : (body : List ℕ) → length body ≤ 580 → length body / 256 % 256 ≤ 2
first_byte body le = omega (arith, le)

parts_two : (rest body more : List ℕ) → IsBody body → 0 < length more → sized body ≡ rest ++ more → first_frame_of rest ≡ Open
parts_two [] body more is some e = refl
parts_two (a ∷ []) body more is some e =
    let first : length body / 256 % 256 ≡ a = ap (λ (l : List ℕ). first_of l) e in
    rw (le-ltb 2 a (omega (arith, first, first_byte body is.1))) refl
  where
    first_of : List ℕ → ℕ
    first_of [] = 0
    first_of (x ∷ xs) = x
parts_two (a ∷ b ∷ rest) body more is some e =
    let two : to_be_bytes w16 (length body) ≡ a ∷ b ∷ [] = ap (take 2) e in
    let the_rest : body ≡ rest ++ more = ap (drop 2) e in
    let size : length body ≡ length rest + length more = ap length the_rest ∙ length-append rest more in
    let said : from_be_bytes w16 (a ∷ b ∷ []) ≡ length body = ap (from_be_bytes w16) (sym two) ∙ said-size body is.1 in
    let less : nat_le (length body) (length rest) ≡ false = lt-leb (length body) (length rest) (omega (arith, size, some)) in
    ap (λ n. first_frame_by n (length rest)) said ∙ in_range (length body) (length rest) is.0 is.1 ∙ rw less refl

pub open-front : (rest : List ℕ) → IsOpen rest → first_frame_of rest ≡ Open
open-front rest o = parts_two rest o.body o.more o.body_is o.some o.parts

-- ---- if nothing more is read

next_open : (o : Option Step) (n : ℕ) → next_in o n ≡ next.Open → ⊥
next_open None n e = absurd cc
next_open (Some step) n e = absurd cc

front_by_next : (f : FirstFrame) (rest : List ℕ) → next_by f rest ≡ next.Open → f ≡ Open
front_by_next Open rest e = refl
front_by_next OutOfRange rest e = absurd cc
front_by_next (Whole n) rest e = absurd (next_open _ n e)

pub next-open : (rest : List ℕ) → AreBytes rest → next_of rest ≡ next.Open → IsOpen rest
next-open rest all e = front-open rest all (front_by_next (first_frame_of rest) rest e)

pub bad-not_open : (rest : List ℕ) → next_of rest ≡ next.Bad → IsOpen rest → ⊥
bad-not_open rest e o =
    let is : next_of rest ≡ next.Open = ap (λ (f : FirstFrame). next_by f rest) (open-front rest o) in
    let no : ◌≡◌ {A = Next} next.Open next.Bad = sym is ∙ e in
    absurd cc

not_frame : (rest : List ℕ) (step : Step) (more : List ℕ) (size : ℕ) → next_of rest ≡ next.Bad → next_of rest ≡ next.Frame step size → ⊥
not_frame rest step more size e f =
    let no : ◌≡◌ {A = Next} (next.Frame step size) next.Bad = sym f ∙ e in
    absurd cc

-- a frame at the beginning, as the frame of a step
pub one-read : (rest : List ℕ) (step : Step) (more : List ℕ) → AreFramesOf rest (step ∷ []) more → (size : ℕ) × (next_of rest ≡ next.Frame step size)
one-read rest step more is =
    let parts : rest ≡ frame_of step ++ more = is.parts ∙ append_assoc (frame_of step) [] more in
    (_, ap next_of parts ∙ frame-read step more is.framed.0)

pub bad-no_frame : (rest : List ℕ) → next_of rest ≡ next.Bad → HasNoFrame rest
bad-no_frame rest e = λ step more has is.
    let r = one-read rest step more is in
    not_frame rest step more r.0 e r.1
