-- The result of a step of a module: a value, or the end of the module (this project's own).
use Rattle.std.specs.Prelude.{Result, Ok, Err}
use Rattle.pam_base.specs.declared.code.Code.{Code}
use Rattle.pam_base.specs.declared.code.Code.TheVariants as codes
use Rattle.pam_base.specs.declared.fault.ConvErr.{ConvErr}
use Rattle.pam_base.specs.declared.fault.Refuse.{Refuse}
use Rattle.pam_base.specs.declared.fault.Refuse.TheVariants.{NoMemory, Named}
use Rattle.conv_port.specs.Conv.{ConvState}
use Rattle.pam_outside.specs.Files.{VaultState}
use Rattle.pam_outside.specs.Time.{ClockState}
use Rattle.pam_room.specs.State.{PlainProcess, Scene, room_of, scene_of}
use Rattle.pam_room.specs.Plain.{plain_transaction}
use Rattle.pam_room.specs.declared.transaction.Transaction.{Transaction}
use Rattle.module_acts.specs.Accounts.{Known, nothing_known}
use Rattle.module_acts.specs.Act.{Act, Acts, Yields, Reaches}

-- what a module gets, as a scene
abbrev pub scene_of_parts : Transaction → ConvState → VaultState → ClockState → PlainProcess → Scene
scene_of_parts transaction conv vault clock process =
    scene_of (room_of (plain_transaction transaction) conv) vault clock process

-- a code was returned and this was left, as a definition says
abbrev pub Follows : Act → Scene → Code → Scene → Type 0
Follows act old code new = Acts act nothing_known old code new

-- The conversation gave no reply, and CONV_ERR is the whole module's code, whatever was to be done
-- with the value. Nothing is stated if an allocation failed.
abbrev pub Ends : {A : Type 0} → Refuse ConvErr → ((A → Act) → Act) → Scene → Scene → Type 0
Ends {A} (Named e) step old new =
    (act : A → Act) (known : Known) → Acts (step act) known old codes.ConvErr new
Ends {A} NoMemory step old new = Unit {0}

-- a step gave its result's value, or it ended the whole
abbrev pub Returns : {A : Type 0} → Result A (Refuse ConvErr) → ((A → Act) → Act) → Scene → Scene
    → Type 0
Returns {A} (Ok value) step old new = Yields value step old new
Returns {A} (Err e) step old new = Ends e step old new

-- the same for a step whose value isn't its result
abbrev pub ReturnsWith : {T A : Type 0} → Result T (Refuse ConvErr) → A → ((A → Act) → Act) → Scene
    → Scene → Type 0
ReturnsWith {T} {A} (Ok done) value step old new = Yields value step old new
ReturnsWith {T} {A} (Err e) value step old new = Ends e step old new

-- A definition has ended: it returned a code, or CONV_ERR if the conversation gave no reply.
abbrev pub Finishes : Result Code (Refuse ConvErr) → Act → Scene → Scene → Type 0
Finishes (Ok code) act old new = Follows act old code new
Finishes (Err (Named e)) act old new = Follows act old codes.ConvErr new
Finishes (Err NoMemory) act old new = Unit {0}

-- ---- laws

module _ {A B : Type 0} (first : (A → Act) → Act) (next : A → (B → Act) → Act) where
  -- one step, and another after it
  pub then : (r : Result B (Refuse ConvErr)) (x : A) (a b c : Scene) → Yields x first a b
      → Returns r (next x) b c → Returns r (λ act. first (λ y. next y act)) a c
  then (Ok v) x a b c f n = λ act known code end rest. f (λ y. next y act) known code end
      (n act known code end rest)
  then (Err (Named e)) x a b c f n = λ act known. f (λ y. next y act) known codes.ConvErr c
      (n act known)
  then (Err NoMemory) x a b c f n = tt

  -- the first step ended it
  pub early : (e : Refuse ConvErr) (a b : Scene) → Ends e first a b
      → Ends e (λ act. first (λ y. next y act)) a b
  early (Named e) a b f = λ act known. f (λ y. next y act) known
  early NoMemory a b f = tt

module _ {B : Type 0} (step : Act → Act) (next : (B → Act) → Act) where
  -- a step without a value, and another after it
  pub then_on : (r : Result B (Refuse ConvErr)) (a b c : Scene) → Reaches step a b → Returns r next b c
      → Returns r (λ act. step (next act)) a c
  then_on (Ok v) a b c f n = λ act known code end rest. f (next act) known code end
      (n act known code end rest)
  then_on (Err (Named e)) a b c f n = λ act known. f (next act) known codes.ConvErr c (n act known)
  then_on (Err NoMemory) a b c f n = tt

module _ {A : Type 0} (first : (A → Act) → Act) (next : A → Act) where
  -- one step, and the end of the definition after it
  pub finished : (r : Result Code (Refuse ConvErr)) (x : A) (a b c : Scene) → Yields x first a b
      → Finishes r (next x) b c → Finishes r (first next) a c
  finished (Ok code) x a b c f n = f next nothing_known code c n
  finished (Err (Named e)) x a b c f n = f next nothing_known codes.ConvErr c n
  finished (Err NoMemory) x a b c f n = tt

  -- the first step ended it
  pub finished_early : (e : Refuse ConvErr) (a b : Scene) → Ends e first a b
      → Finishes (Err e) (first next) a b
  finished_early (Named e) a b f = f next nothing_known
  finished_early NoMemory a b f = tt
