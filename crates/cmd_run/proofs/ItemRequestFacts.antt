-- The items that were found in a modelled text, and what they ask for.
use Rattle.std.proofs.Common.{◌≡◌, ◌+◌, ◌<◌, ◌⊎◌, inl, inr, ℕ, Bool, true, false, List, [], ◌∷◌, ◌++◌, length, length-append, take, drop}
use Rattle.std.proofs.Common.{Result, Ok, Err, refl, sym, ◌∙◌, ap, append_assoc, subst, cond, leb, arith}
use Rattle.std.proofs.lemmas.List.{append-nil}
use Rattle.std.proofs.lemmas.List.Elements.{All-take}
use Rattle.std.specs.Prelude.{All}
use Rattle.pam_base.specs.Code.{number_of}
use Rattle.pam_base.specs.Lines.{lines_of}
use Rattle.pam_base.specs.declared.code.Code.{Code}
use Rattle.pam_base.specs.declared.fault.Failed.{Failed}
use Rattle.pam_base.specs.declared.fault.ScriptKind.{ScriptKind}
use Rattle.pam_base.specs.declared.fault.ScriptKind.TheVariants.{TooManyLines}
use Rattle.pam_outside.specs.Streams.{SourceState}
use Rattle.script_lang.specs.declared.line.Line.{Line}
use Rattle.script_lang.specs.Line.{parsed}
use Rattle.record_reader.specs.declared.ending.Stop.{Stop}
use Rattle.record_reader.specs.declared.reader.NextItem.{NextItem}
use Rattle.record_reader.specs.declared.reader.NextItem.TheVariants.{Rest}
use Rattle.record_reader.specs.Cutting.{Keeps}
use Rattle.record_reader.specs.FirstItem.{IsItem}
use Rattle.record_reader.specs.Run.{ItemFails, ItemStep, Looks, Refuses}
use Rattle.record_reader.specs.Taking.{Finds}
use Rattle.record_reader.specs.Looked.{looked as looked_lines}
use Rattle.record_reader.specs.LineTurns.{Ending}
use Rattle.cmd_run.specs.Asked.{AreAccepted, Asking, FirstAsks, HasEndAmong, IsEnd, IsEndAmong, LeadsOn}
use Rattle.cmd_run.specs.Ends.{HasEnd, IsStatusOf, IsEndOfRun}
use Rattle.cmd_run.specs.Endings.{ending_status, stop_status}
use Rattle.cmd_run.specs.Reading.{read_as}
use Rattle.cmd_run.specs.Script.{line_asked}
use Rattle.cmd_run.specs.Serve.{Does}
use Rattle.cmd_run.specs.State.{RunState, Setting}

-- ---- what was found

module _ {Kind : Type 0} (looked : Looks) (refuses : Refuses) (asked : Asking Kind) where
  -- what is left of the text, before and after bytes were taken
  all_left : (found : Result NextItem Failed) (n : ℕ) (before held : List ℕ) (x y : SourceState) → Finds looked refuses found n before held x y
      → before ++ x.left ≡ held ++ y.left
  all_left found n before held x y f =
      ap (λ (l : List ℕ). before ++ l) f.source ∙ sym (append_assoc before f.got y.left) ∙ ap (λ (h : List ℕ). h ++ y.left) (sym f.held_is)

  one_asks : (n : ℕ) (text item : List ℕ) (followed : List (List ℕ)) → looked n text true ≡ item ∷ followed
      → All (λ b. b < 256) item → (number status : ℕ) → IsEnd (asked n item) number status → HasEndAmong looked asked n text number status
  one_asks n text item followed first bytes number status a =
      let same : n ≡ n + length {A = List ℕ} [] = omega arith in
      record {
        before = [];
        item = item;
        followed = followed;
        among = first;
        accepted = tt;
        asks = subst (λ (k : ℕ). IsEnd (asked k item) number status) same a;
        bytes = bytes;
      }

  module _ (found : Result NextItem Failed) (n item_size size : ℕ) (before held : List ℕ) (x y : SourceState) (is : IsItem looked n item_size size held)
      (finds : Finds looked refuses found n before held x y) where
    pub item_first : looked n (before ++ x.left) true ≡ take item_size held ∷ looked (n + 1) (drop size held ++ y.left) true
    item_first = ap (λ (t : List ℕ). looked n t true) (all_left found n before held x y finds) ∙ is.seen y.left true

    first_bytes : All (λ b. b < 256) held → All (λ b. b < 256) (take item_size held)
    first_bytes all = All-take (λ b. b < 256) item_size held all

    pub item_leads : All (λ b. b < 256) held → (line : Line) × (asked n (take item_size held) ≡ Ok line)
        → LeadsOn looked asked n (before ++ x.left) (n + 1) (drop size held ++ y.left)
    item_leads all a = record {
      items = take item_size held ∷ [];
      number = refl;
      accepted = (record { line = a.0; asks = a.1; bytes = first_bytes all }, tt);
      among = item_first;
    }

    pub item_asks : All (λ b. b < 256) held → (number status : ℕ) → IsEnd (asked n (take item_size held)) number status
        → HasEndAmong looked asked n (before ++ x.left) number status
    item_asks all number status a = one_asks n (before ++ x.left) (take item_size held) (looked (n + 1) (drop size held ++ y.left) true) item_first
        (first_bytes all) number status a

    pub item_asks_first : (number status : ℕ) → IsEnd (asked n (take item_size held)) number status
        → FirstAsks asked n (looked n (before ++ x.left) true) number status
    item_asks_first number status a = rw item_first a

  -- ---- the last item

  module _ (wrapped : List ℕ → List ℕ) (step : Setting → ItemStep RunState Kind) (fails : Setting → ItemFails RunState)
      (read_step : ItemStep (Unit {0}) Kind) (does : Does asked wrapped step fails read_step) (keeps : Keeps looked refuses read_step) (n : ℕ)
      (before held : List ℕ) (x y : SourceState) (finds : Finds looked refuses (Ok Rest) n before held x y) where
    -- what is refused in every state asks for nothing
    never_asked : (line : Line) → refuses n held → asked n held ≡ Ok line → ⊥
    never_asked line refused e = keeps.refused n held refused tt (tt, []) (does.reads n held ∙ ap (λ (r : Result Line Kind). read_as r) e)

    rest_by : (line : Line) → asked n held ≡ Ok line → (finds.ended.ended ≡ true) ⊎ refuses n held → looked n (before ++ x.left) true ≡ held ∷ []
    rest_by line e (inl end) =
        let all : held ++ y.left ≡ held = ap (λ (l : List ℕ). held ++ l) (finds.ended.at_end end) ∙ append-nil held in
        ap (λ (t : List ℕ). looked n t true) (all_left (Ok Rest) n before held x y finds ∙ all) ∙ ap (looked n held) (sym end) ∙ finds.ended.seen
    rest_by line e (inr over) = absurd (never_asked line over e)

    -- if the last item asks for something, the end of the text was reached
    pub rest_is : (line : Line) → asked n held ≡ Ok line → looked n (before ++ x.left) true ≡ held ∷ []
    rest_is line e = rest_by line e finds.ended.fits

    pub rest_asks : All (λ b. b < 256) held → (number status : ℕ) → IsEnd (asked n held) number status
        → HasEndAmong looked asked n (before ++ x.left) number status
    rest_asks all number status a = one_asks n (before ++ x.left) held [] (rest_is _ a) all number status a

    pub rest_asks_first : (number status : ℕ) → IsEnd (asked n held) number status → FirstAsks asked n (looked n (before ++ x.left) true) number status
    rest_asks_first number status a = rw (rest_is _ a) a

-- ---- many items

module _ {Kind : Type 0} (looked : Looks) (asked : Asking Kind) where
  accepted-append : (xs ys : List (List ℕ)) (n m : ℕ) → m ≡ n + length xs → AreAccepted asked n xs → AreAccepted asked m ys → AreAccepted asked n (xs ++ ys)
  accepted-append [] ys n m e a b =
      let same : m ≡ n = omega (arith, e) in
      subst (λ (k : ℕ). AreAccepted asked k ys) same b
  accepted-append (x ∷ xs) ys n m e a b = (a.0, accepted-append xs ys (n + 1) m (omega (arith, e)) a.1 b)

  pub leads_nowhere : (n : ℕ) (text : List ℕ) → LeadsOn looked asked n text n text
  leads_nowhere n text = record { items = []; number = omega arith; accepted = tt; among = refl }

  pub leads_on : (n m k : ℕ) (a b c : List ℕ) → LeadsOn looked asked n a m b → LeadsOn looked asked m b k c → LeadsOn looked asked n a k c
  leads_on n m k a b c x y = record {
    items = x.items ++ y.items;
    number = omega (arith, x.number, y.number, length-append x.items y.items);
    accepted = accepted-append x.items y.items n m x.number x.accepted y.accepted;
    among = x.among ∙ ap (λ (t : List (List ℕ)). x.items ++ t) y.among ∙ sym (append_assoc x.items y.items (looked k c true));
  }

  pub asks_before : (n m : ℕ) (a b : List ℕ) → LeadsOn looked asked n a m b → (number status : ℕ) → HasEndAmong looked asked m b number status
      → HasEndAmong looked asked n a number status
  asks_before n m a b l number status h =
      let same : m + length h.before ≡ n + length (l.items ++ h.before) = omega (arith, l.number, length-append l.items h.before) in
      record {
        before = l.items ++ h.before;
        item = h.item;
        followed = h.followed;
        among = l.among ∙ ap (λ (t : List (List ℕ)). l.items ++ t) h.among ∙ sym (append_assoc l.items h.before (h.item ∷ h.followed));
        accepted = accepted-append l.items h.before n m l.number l.accepted h.accepted;
        asks = subst (λ (k : ℕ). IsEnd (asked k h.item) number status) same h.asks;
        bytes = h.bytes;
      }

-- ---- the lines of a script

by_many : (many : Bool) (r : Result Line ScriptKind) (line : Line) → cond many (Err TooManyLines) r ≡ Ok line → r ≡ Ok line
by_many true r line e = absurd cc
by_many false r line e = e

pub as_parsed : (n : ℕ) (text : List ℕ) (line : Line) → line_asked n text ≡ Ok line → parsed text ≡ Ok line
as_parsed n text line e = by_many (leb 65536 n) (parsed text) line e

-- all lines of a text are looked at if the input ends after it
abbrev pub AllLooked : Type 0
AllLooked = (n : ℕ) (bytes : List ℕ) → looked_lines n bytes true ≡ lines_of bytes

pub by_line : AllLooked → (tells : Bool) (text : List ℕ) (number status : ℕ) → IsEndAmong looked_lines line_asked tells 0 text number status
    → IsEndOfRun tells text number status
by_line all tells text number status has told =
    let h : HasEndAmong looked_lines line_asked 0 text number status = has told in
    let there : HasEnd text number status = record {
      line = h.item;
      before = h.before;
      followed = h.followed;
      among = sym (all 0 text) ∙ h.among;
      asks = as_parsed _ h.item _ h.asks;
    } in
    inr there

-- ---- after the lines

pub by_ending : (tells : Bool) (text : List ℕ) (ending : Ending) (code : Code) → code ≡ ending_status ending → (number status : ℕ)
    → IsStatusOf code number status → IsEndOfRun tells text number status
by_ending tells text ending code e number status is told = inl (inl (ending, is ∙ ap number_of e))

pub by_stop : (tells : Bool) (text : List ℕ) (stop : Stop) (code : Code) → code ≡ stop_status stop → (number status : ℕ)
    → IsStatusOf code number status → IsEndOfRun tells text number status
by_stop tells text stop code e number status is told = inl (inr (stop, is ∙ ap number_of e))
