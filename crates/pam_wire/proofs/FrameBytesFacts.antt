-- Bytes that begin with a frame: it is read as its step, and what is read is a frame.
use Rattle.std.proofs.Common.{◌≡◌, ℕ, zero, suc, ◌+◌, ◌-◌, ◌<◌, ◌≤◌, Bool, true, false, ◌&&◌, ◌||◌, cond, List, [], ◌∷◌, ◌++◌, length, take, drop, get_or, Option, Some, None, nat_lt, nat_le, codes, not, refl, sym, ap, subst, ◌∙◌, arith, length-append}
use Rattle.std.proofs.Math.Seq.{take-append_seam}
use Rattle.std.proofs.lemmas.Bool.{leb-true, le-leb, le-ltb, and_parts, and_from}
use Rattle.std.proofs.lemmas.List.{take-append-drop, length-take-le}
use Rattle.std.proofs.lemmas.List.Elements.{All-head, All-tail, All-take}
use Rattle.std.proofs.lemmas.Nat.{be_bytes_2, from_be_bytes-to_be_bytes_2}
use Rattle.std.specs.Int.{w16, from_be_bytes, to_be_bytes}
use Rattle.std.specs.List.{list_all}
use Rattle.std.specs.Str.{bytes_eq}
use Rattle.std.specs.Prelude.{option_map}
use Rattle.pam_base.specs.declared.call.AppCall.{AppCall}
use Rattle.pam_base.specs.declared.call.AppCall.TheVariants as calls
use Rattle.pam_base.specs.declared.call.Step.{Step}
use Rattle.pam_base.specs.ServiceName.{is_name_byte, is_service_name}
use Rattle.pam_wire.specs.declared.prefix.FirstFrame.{FirstFrame}
use Rattle.pam_wire.specs.declared.prefix.FirstFrame.TheVariants.{Open, OutOfRange, Whole}
use Rattle.pam_base.specs.declared.call.CallName.{CallName}
use Rattle.pam_wire.specs.declared.next.Next.{Next}
use Rattle.pam_wire.specs.declared.next.Next.TheVariants as next
use Rattle.pam_wire.specs.Frame.{AreBytes, value_bytes, rest_of, is_value, is_sound, has_frame, body_of, sized, frame_of}
use Rattle.pam_base.specs.Call.{name_of_call}
use Rattle.pam_wire.specs.Kind.{call_of_number}
use Rattle.pam_wire.specs.Read.{call_of_kind, step_with, step_in, first_frame_by, first_frame_of}
use Rattle.pam_wire.specs.Stream.{next_in, next_by, next_of, IsBody}
use Rattle.pam_wire.proofs.Rests.{mapped, call-written, call-read, kind-read, kind_number-read}

-- ---- what follows a length

pub step-read : (step : Step) → has_frame step ≡ true → step_in (body_of step) ≡ Some step
step-read step e =
    let both = and_parts (nat_le step.number 255) (is_sound step.call) e in
    rw (kind-read (name_of_call step.call), call-read step.call both.1) refl

record IsBodyOf (body : List ℕ) (step : Step) : Type 0 where
  body_is : body ≡ body_of step
  within : has_frame step ≡ true

step_by_kind : (number kind : ℕ) (rest : List ℕ) (o : Option CallName) (step : Step) → number < 256 → AreBytes rest → call_of_number kind ≡ o
    → option_map (step_with number) (call_of_kind o rest) ≡ Some step → IsBodyOf (number ∷ kind ∷ rest) step
step_by_kind number kind rest None step few all h e = absurd cc
step_by_kind number kind rest (Some k) step few all h e =
    let m = mapped (step_with number) (call_of_kind (Some k) rest) step e in
    let c = call-written k rest m.0 all m.1 in
    let n = kind_number-read kind k h in
    subst (λ s. IsBodyOf (number ∷ kind ∷ rest) s) m.2 (record {
      body_is = rw (c.kind_is, c.bytes, n) refl;
      within = and_from (nat_le number 255) (is_sound m.0) (le-leb number 255 (omega (arith, few))) c.within;
    })

step-written : (body : List ℕ) (step : Step) → AreBytes body → step_in body ≡ Some step → IsBodyOf body step
step-written [] step all e = absurd cc
step-written (b ∷ []) step all e = absurd cc
step-written (number ∷ kind ∷ rest) step all e =
    let the_rest = All-tail (λ b. b < 256) number (kind ∷ rest) all in
    step_by_kind number kind rest (call_of_number kind) step (All-head (λ b. b < 256) number (kind ∷ rest) all) (All-tail (λ b. b < 256) kind rest the_rest) refl e

-- ---- how long it is

value-size : (value : Option (List ℕ)) → is_value value ≡ true → length (value_bytes value) ≤ 513
value-size None e = omega arith
value-size (Some text) e = omega (arith, leb-true (length text) 512 e)

text-size : (text : List ℕ) → nat_le (length text) 512 ≡ true → length text ≤ 578
text-size text e = omega (arith, leb-true (length text) 512 e)

service-size : (service : List ℕ) → is_service_name service ≡ true → length service ≤ 64
service-size service e =
    let four = and_parts (nat_lt 0 (length service) && nat_le (length service) 64 && list_all is_name_byte service && not (bytes_eq service (codes "."))) (not (bytes_eq service (codes ".."))) e in
    let three = and_parts (nat_lt 0 (length service) && nat_le (length service) 64 && list_all is_name_byte service) (not (bytes_eq service (codes "."))) four.0 in
    let two = and_parts (nat_lt 0 (length service) && nat_le (length service) 64) (list_all is_name_byte service) three.0 in
    leb-true (length service) 64 (and_parts (nat_lt 0 (length service)) (nat_le (length service) 64) two.0).1

rest-size : (call : AppCall) → is_sound call ≡ true → length (rest_of call) ≤ 578
rest-size (calls.Start service user) e =
    let both = and_parts (is_service_name service) (is_value user) e in
    omega (arith, length-append service (value_bytes user), service-size service both.0, value-size user both.1)
rest-size (calls.End status) e = omega arith
rest-size (calls.Authenticate flags) e = omega arith
rest-size (calls.SetCred flags) e = omega arith
rest-size (calls.AcctMgmt flags) e = omega arith
rest-size (calls.OpenSession flags) e = omega arith
rest-size (calls.CloseSession flags) e = omega arith
rest-size (calls.ChAuthTok flags) e = omega arith
rest-size (calls.SetItem item value) e = omega (arith, value-size value e)
rest-size (calls.GetItem item) e = omega arith
rest-size (calls.PutEnv text) e = text-size text e
rest-size (calls.GetEnv name) e = text-size name (and_parts (nat_lt 0 (length name)) _ e).1
rest-size calls.EnvList e = omega arith
rest-size (calls.FailDelay micros) e = omega arith
rest-size (calls.DelayFn true) e = omega arith
rest-size (calls.DelayFn false) e = omega arith
rest-size (calls.Reply text) e = text-size text e

pub body-size : (step : Step) → has_frame step ≡ true → IsBody (body_of step)
body-size step e =
    let r = rest-size step.call (and_parts (nat_le step.number 255) (is_sound step.call) e).1 in
    (omega arith, omega (arith, r))

-- ---- lengths

pub in_range : (said follow : ℕ) → 2 ≤ said → said ≤ 580 → first_frame_by said follow ≡ cond (nat_le said follow) (Whole (said + 2)) Open
in_range said follow low high = rw (le-ltb said 2 low, le-ltb 580 said high) refl

-- the length before a body
pub said-size : (body : List ℕ) → length body ≤ 580 → from_be_bytes w16 (to_be_bytes w16 (length body)) ≡ length body
said-size body le = from_be_bytes-to_be_bytes_2 (length body) (omega (arith, le))

sized-front : (body more : List ℕ) → first_frame_of (sized body ++ more) ≡ first_frame_by (from_be_bytes w16 (to_be_bytes w16 (length body))) (length (body ++ more))
sized-front body more = refl

pub sized-whole : (body more : List ℕ) → IsBody body → first_frame_of (sized body ++ more) ≡ Whole (length body + 2)
sized-whole body more is =
    let fits : nat_le (length body) (length (body ++ more)) ≡ true = le-leb _ _ (omega (arith, length-append body more)) in
    sized-front body more ∙ ap (λ n. first_frame_by n (length (body ++ more))) (said-size body is.1) ∙ in_range (length body) (length (body ++ more)) is.0 is.1 ∙ rw fits refl

front-size : (body more : List ℕ) → take (length body + 2 - 2) (drop 2 (sized body ++ more)) ≡ body
front-size body more =
    let n : length body + 2 - 2 ≡ length body = omega arith in
    rw n (take-append_seam body more)

-- a frame at the beginning is read as its step
pub frame-read : (step : Step) (more : List ℕ) → has_frame step ≡ true → next_of (frame_of step ++ more) ≡ next.Frame step (length (body_of step) + 2)
frame-read step more e =
    let whole = sized-whole (body_of step) more (body-size step e) in
    ap (λ (f : FirstFrame). next_by f (frame_of step ++ more)) whole
    ∙ ap (λ (b : List ℕ). next_in (step_in b) (length (body_of step) + 2)) (front-size (body_of step) more)
    ∙ ap (λ (o : Option Step). next_in o (length (body_of step) + 2)) (step-read step e)

-- ---- and what is read first is a frame

pub record IsFrameOf (rest : List ℕ) (step : Step) (size : ℕ) : Type 0 where
  pub parts : rest ≡ frame_of step ++ drop size rest
  pub within : has_frame step ≡ true
  pub size_is : size ≡ length (frame_of step)
  pub fits : size ≤ length rest

-- depending on what the length says
record IsSaid (a b : ℕ) (more : List ℕ) (size : ℕ) : Type 0 where
  said : ℕ
  said_is : from_be_bytes w16 (a ∷ b ∷ []) ≡ said
  size_is : size ≡ suc (suc said)
  fits : said ≤ length more

abbrev whole_size : FirstFrame → ℕ
whole_size (Whole size) = size
whole_size f = 0

said_by : (a b : ℕ) (more : List ℕ) (size said : ℕ) (t u : Bool) → from_be_bytes w16 (a ∷ b ∷ []) ≡ said → (nat_lt said 2 || nat_lt 580 said) ≡ t → nat_le said (length more) ≡ u
    → cond t OutOfRange (cond u (Whole (said + 2)) Open) ≡ Whole size → IsSaid a b more size
said_by a b more size said true u s h k e = absurd cc
said_by a b more size said false true s h k e =
    let is : said + 2 ≡ size = ap whole_size e in
    record { said = said; said_is = s; size_is = omega (arith, is); fits = leb-true said (length more) k }
said_by a b more size said false false s h k e = absurd cc

said_of : (a b : ℕ) (more : List ℕ) (size : ℕ) → first_frame_of (a ∷ b ∷ more) ≡ Whole size → IsSaid a b more size
said_of a b more size e = said_by a b more size _ _ _ refl refl refl e

pub two_back : (a b : ℕ) → a < 256 → b < 256 → to_be_bytes w16 (from_be_bytes w16 (a ∷ b ∷ [])) ≡ a ∷ b ∷ []
two_back a b a' b' = be_bytes_2 (a ∷ b ∷ []) _ refl two refl
  where
    two : (i : ℕ) → get_or (a ∷ b ∷ []) i 0 < 256
    two zero = a'
    two (suc zero) = b'
    two (suc (suc i)) = omega arith

written_by : (a b : ℕ) (more : List ℕ) (step : Step) (said : ℕ) → a < 256 → b < 256 → AreBytes more → from_be_bytes w16 (a ∷ b ∷ []) ≡ said → said ≤ length more
    → step_in (take said more) ≡ Some step → IsFrameOf (a ∷ b ∷ more) step (suc (suc said))
written_by a b more step said a' b' all s fits e =
    let w = step-written (take said more) step (All-take (λ b. b < 256) said more all) e in
    let size : length (take said more) ≡ said = length-take-le said more fits in
    let two : to_be_bytes w16 said ≡ a ∷ b ∷ [] = ap (to_be_bytes w16) (sym s) ∙ two_back a b a' b' in
    let whole : frame_of step ≡ a ∷ b ∷ take said more = ap sized (sym w.body_is) ∙ ap (λ n. to_be_bytes w16 n ++ take said more) size ∙ ap (λ (t : List ℕ). t ++ take said more) two in
    record {
      parts = sym (ap (λ (f : List ℕ). f ++ drop said more) whole ∙ ap (λ (z : List ℕ). a ∷ b ∷ z) (take-append-drop said more));
      within = w.within;
      size_is = sym (ap length whole ∙ ap (λ n. suc (suc n)) size);
      fits = omega (arith, fits);
    }

whole-written : (rest : List ℕ) (step : Step) (size : ℕ) → AreBytes rest → first_frame_of rest ≡ Whole size → step_in (take (size - 2) (drop 2 rest)) ≡ Some step → IsFrameOf rest step size
whole-written [] step size all w e = absurd cc
whole-written (a ∷ []) step size all w e = one _ w
  where
    one : (t : Bool) → cond t OutOfRange Open ≡ Whole size → IsFrameOf (a ∷ []) step size
    one true w = absurd cc
    one false w = absurd cc
whole-written (a ∷ b ∷ more) step size all w e =
    let s = said_of a b more size w in
    let the_rest = All-tail (λ b. b < 256) a (b ∷ more) all in
    let n : size - 2 ≡ s.said = omega (arith, s.size_is) in
    let e' : step_in (take s.said more) ≡ Some step = rw n at e in
    let f = written_by a b more step s.said (All-head (λ b. b < 256) a (b ∷ more) all) (All-head (λ b. b < 256) b more the_rest) (All-tail (λ b. b < 256) b more the_rest) s.said_is s.fits e' in
    rw s.size_is f

abbrev step_or : Step → Next → Step
step_or other (next.Frame step size) = step
step_or other n = other

abbrev size_of : Next → ℕ
size_of (next.Frame step size) = size
size_of n = 0

pub same_step : (s t : Step) (m n : ℕ) → ◌≡◌ {A = Next} (next.Frame s m) (next.Frame t n) → s ≡ t
same_step s t m n e = ap (step_or s) e

in_by : (rest : List ℕ) (step : Step) (size n : ℕ) (o : Option Step) → AreBytes rest → first_frame_of rest ≡ Whole n → step_in (take (n - 2) (drop 2 rest)) ≡ o
    → next_in o n ≡ next.Frame step size → IsFrameOf rest step size
in_by rest step size n None all w h e = absurd cc
in_by rest step size n (Some s) all w h e =
    let n_is : n ≡ size = ap size_of e in
    let s_is : s ≡ step = ap (step_or s) e in
    subst (λ t. IsFrameOf rest t size) s_is (subst (λ z. IsFrameOf rest s z) n_is (whole-written rest s n all w h))

front_is : (rest : List ℕ) (step : Step) (size : ℕ) (f : FirstFrame) → AreBytes rest → first_frame_of rest ≡ f → next_by f rest ≡ next.Frame step size → IsFrameOf rest step size
front_is rest step size Open all w e = absurd cc
front_is rest step size OutOfRange all w e = absurd cc
front_is rest step size (Whole n) all w e = in_by rest step size n _ all w refl e

pub frame-written : (rest : List ℕ) (step : Step) (size : ℕ) → AreBytes rest → next_of rest ≡ next.Frame step size → IsFrameOf rest step size
frame-written rest step size all e = front_is rest step size (first_frame_of rest) all refl e

-- ---- a frame that is read is whole

whole_fits : (rest : List ℕ) (size : ℕ) → first_frame_of rest ≡ Whole size → size ≤ length rest
whole_fits [] size w = absurd cc
whole_fits (a ∷ []) size w = one _ w
  where
    one : (t : Bool) → cond t OutOfRange Open ≡ Whole size → size ≤ 1
    one true w = absurd cc
    one false w = absurd cc
whole_fits (a ∷ b ∷ more) size w = let s = said_of a b more size w in omega (arith, s.size_is, s.fits)

size_by : (o : Option Step) (n : ℕ) (step : Step) (size : ℕ) → next_in o n ≡ next.Frame step size → n ≡ size
size_by None n step size e = absurd cc
size_by (Some s) n step size e = ap size_of e

fits_by : (rest : List ℕ) (step : Step) (size : ℕ) (f : FirstFrame) → first_frame_of rest ≡ f → next_by f rest ≡ next.Frame step size → size ≤ length rest
fits_by rest step size Open w e = absurd cc
fits_by rest step size OutOfRange w e = absurd cc
fits_by rest step size (Whole n) w e = let is = size_by _ n step size e in omega (arith, is, whole_fits rest n w)

pub frame-fits : (rest : List ℕ) (step : Step) (size : ℕ) → next_of rest ≡ next.Frame step size → size ≤ length rest
frame-fits rest step size e = fits_by rest step size (first_frame_of rest) refl e
