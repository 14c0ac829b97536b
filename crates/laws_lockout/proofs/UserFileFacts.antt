-- What a list of calls does to a user's file, line by line.
use Rattle.std.proofs.Common.{◌≡◌, ◌≢◌, ◌<◌, ◌^◌, ℕ, List, [], ◌∷◌, ◌++◌, map, Option, unwrap_or, refl, ap, ◌∙◌, subst}
use Rattle.std.specs.List.{AllByRecursion}
use Rattle.pam_base.specs.declared.code.Code.{Code}
use Rattle.pam_base.specs.declared.call.Step.{Step}
use Rattle.pam_outside.specs.Files.{file_at}
use Rattle.item_store.specs.Items.{ItemTexts}
use Rattle.pam_room.specs.Call.{PlainCall}
use Rattle.pam_room.specs.Module.{NamedData, Player, SeenRoom, Sight}
use Rattle.pam_room.specs.State.{PlainWorld}
use Rattle.pam_library.specs.Plays.{AskedLine, LinesLead, StepAsks}
use Rattle.pam_library.specs.SideBySide.{Met}
use Rattle.pam_library.specs.Slots.{PlainSlot}
use Rattle.pam_library.specs.Step.{stepped}
use Rattle.mod_tally.specs.Faillock.{faillock_plays, new_failure}
use Rattle.mod_tally.specs.Recorded.{Deed, Does, Follow, IsWith, deeds_of}
use Rattle.mod_tally.specs.Tally.{IsFailure}
use Rattle.laws_audit.specs.Tallied.{CanRecordIf, FaillockAloneWrites, IsTallied, IsText, TalliedLine, calls_in, counted, line_in, passed_by}
use Rattle.laws_audit.proofs.FaillockLineFacts.{Led, lines_led}
use Rattle.laws_lockout.specs.Calls.{OnlyTheseWrite, StepsAsk}
use Rattle.laws_lockout.specs.Lockout.{CanWriteIf}
use Rattle.laws_lockout.proofs.Within.{WithinIf, both_hold}

-- ---- lines, and lines after them

split_at : {A : Type 0} (P : A → Type 0) (xs ys : List A) → AllByRecursion P (xs ++ ys) → AllByRecursion P xs × AllByRecursion P ys
split_at P [] ys all = (tt, all)
split_at P (x ∷ xs) ys all = let rest = split_at P xs ys all.1 in ((all.0, rest.0), rest.1)

lines_on : (xs ys : List TalliedLine) → map line_in (xs ++ ys) ≡ map line_in xs ++ map line_in ys
lines_on [] ys = refl
lines_on (x ∷ xs) ys = ap (λ (ls : List AskedLine). line_in x ∷ ls) (lines_on xs ys)

follow_on : (path : List ℕ) (xs ys : List TalliedLine) (before middle after : Option (List ℕ)) → Follow path before (calls_in xs) middle
    → Follow path middle (calls_in ys) after → Follow path before (calls_in (xs ++ ys)) after
follow_on path [] ys before middle after f g = subst (λ (o : Option (List ℕ)). Follow path o (calls_in ys) after) f g
follow_on path (counted a s ∷ xs) ys before middle after f g = (f.0, f.1, follow_on path xs ys _ middle after f.2 g)
follow_on path (passed_by a ∷ xs) ys before middle after f g = follow_on path xs ys before middle after f g

with_on : (interval : ℕ) (xs ys : List TalliedLine) → AllByRecursion (IsWith interval) (deeds_of (calls_in xs))
    → AllByRecursion (IsWith interval) (deeds_of (calls_in ys)) → AllByRecursion (IsWith interval) (deeds_of (calls_in (xs ++ ys)))
with_on interval [] ys f g = g
with_on interval (counted a s ∷ xs) ys f g = (f.0, with_on interval xs ys f.1 g)
with_on interval (passed_by a ∷ xs) ys f g = with_on interval xs ys f g

module _ (path : List ℕ) (players : List Player) (alone : FaillockAloneWrites path players)
    (one : (path : List ℕ) (call : PlainCall) (room : SeenRoom) (held : List NamedData) (sight : Sight)
    → (deed : Deed) × Does path call sight (faillock_plays call room held sight) deed)
    (writable : (moment : ℕ) (items : ItemTexts) → moment < 10 ^ 13 → IsText items.rhost → IsText items.tty → IsText items.service
    → unwrap_or items.service [] ≢ [] → IsFailure (new_failure moment items)) where
  abbrev pub LedBy : Option (List ℕ) → List AskedLine → Option (List ℕ) → Type 0
  LedBy before asked after = Led path players alone one writable before asked after

  joined : (before middle after : Option (List ℕ)) (some others : List AskedLine) → LedBy before some middle → LedBy middle others after
      → LedBy before (some ++ others) after
  joined before middle after some others l m = record {
    lines = l.lines ++ m.lines;
    lines_are = lines_on l.lines m.lines ∙ ap (λ (ls : List AskedLine). ls ++ map line_in m.lines) l.lines_are
        ∙ ap (λ (ls : List AskedLine). some ++ ls) m.lines_are;
    each = both_hold (IsTallied path players) l.lines m.lines l.each m.each;
    follow = follow_on path l.lines m.lines before middle after l.follow m.follow;
    with_one = λ interval can.
        let parts = split_at (CanRecordIf interval players) some others can in
        with_on interval l.lines m.lines (l.with_one interval parts.0) (m.with_one interval parts.1);
  }

  -- ---- calls

  module _ (number_of : Code → ℕ → ℕ)
      (asks : (players : List Player) (number_of : Code → ℕ → ℕ) (slots : List PlainSlot) (w : PlainWorld) (step : Step)
      → (asked : List AskedLine) × StepAsks players number_of slots w step asked)
      (leads : (players : List Player) (number_of : Code → ℕ → ℕ) (slots : List PlainSlot) (w : PlainWorld) (step : Step) (asked : List AskedLine)
      → StepAsks players number_of slots w step asked
      → LinesLead players w.vault.files asked (stepped players number_of slots w step).world.vault.files) where
    -- what some calls ran, and what it did to the file
    pub record CallsLead (slots : List PlainSlot) (steps : List Met) (before after : Option (List ℕ)) : Type 0 where
      pub asked : List AskedLine
      pub asked_are : StepsAsk players number_of slots steps asked
      pub led : LedBy before asked after

    pub calls_lead : (steps : List Met) (slots : List PlainSlot) (before after : Option (List ℕ)) → OnlyTheseWrite players number_of path slots before steps after
        → CallsLead slots steps before after
    calls_lead [] slots before after still = record {
      asked = [];
      asked_are = refl;
      led = record { lines = []; lines_are = refl; each = tt; follow = still; with_one = λ interval can. tt };
    }
    calls_lead (m ∷ steps) slots before after only =
        let s = stepped players number_of slots m.world m.step in
        let a = asks players number_of slots m.world m.step in
        let here : LedBy (file_at path m.world.vault.files) a.0 (file_at path s.world.vault.files) =
        lines_led path players alone one writable a.0 m.world.vault.files s.world.vault.files (leads players number_of slots m.world m.step a.0 a.1) in
        let rest = calls_lead steps s.slots (file_at path s.world.vault.files) after only.1 in
        record {
          asked = a.0 ++ rest.asked;
          asked_are = (a.0, rest.asked, refl, a.1, rest.asked_are);
          led = joined before (file_at path s.world.vault.files) after a.0 rest.asked
              (subst (λ (o : Option (List ℕ)). LedBy o a.0 (file_at path s.world.vault.files)) only.0 here) rest.led;
        }

-- ---- what the lines can record

pub can_record : (players : List Player) (interval : ℕ) (asked : List AskedLine) → AllByRecursion (WithinIf players interval) asked
    → AllByRecursion (CanWriteIf players) asked → AllByRecursion (CanRecordIf interval players) asked
can_record players interval [] within can = tt
can_record players interval (a ∷ asked) within can = (
  (λ p there same.
      let c = can.0 p there same in
      record { interval_is = within.0 p there same; moment = c.moment; rhost = c.rhost; tty = c.tty; service = c.service; named = c.named }),
  can_record players interval asked within.1 can.1,
)
