-- The slots of a list of conversations: one of its own kind first, and equal ones after it.
use Rattle.std.proofs.Common.{◌≡◌, refl, sym, ap, subst, ◌∙◌, ◌∷◌, [], ◌++◌, ◌+◌, ℕ, Bool, List, Option, Some, length, map, replicate, arith}
use Rattle.std.proofs.lemmas.List.{map-append, replicate_more, length_push}
use Rattle.system_objects.specs.Adapter.{Adapter}
use Rattle.cmd_check.specs.pam_library.specs.Slots.{PlainSlot}
use Rattle.shipped_modules.specs.Shipped.{shipped_players}
use Rattle.cmd_all.specs.ByCommand.{Around}
use Rattle.cmd_all.specs.Command.{Command}
use Rattle.frame_service.specs.Service.{served_wait}
use Rattle.frame_service.specs.Serving.{ServesFrames}
use Rattle.frame_service.specs.Streams.{ServesStreams, read_by, slots_over, unread, written_by}

module _ {B S : Type 0} (holds : B → S) (front other : S) where
  pub record FrontFirst (items : List B) (counter : ℕ) : Type 0 where
    pub number : length items ≡ counter
    pub others : ℕ
    pub one_more : counter ≡ others + 1
    pub slots : map holds items ≡ front ∷ replicate others other

  pub first : (old new : List B) (b : B) → old ≡ [] → new ≡ old ++ b ∷ [] → holds b ≡ front → FrontFirst new 1
  first old new b none pushed is = subst (λ items. FrontFirst items 1) (sym (pushed ∙ ap (λ bs. bs ++ b ∷ []) none))
      (record { number = refl; others = 0; one_more = refl; slots = ap (λ s. s ∷ []) is })

  pub more : (old new : List B) (b : B) (counter : ℕ) → new ≡ old ++ b ∷ [] → holds b ≡ other → FrontFirst old counter
      → FrontFirst new (counter + 1)
  more old new b counter pushed is f = subst (λ items. FrontFirst items (counter + 1)) (sym pushed) (record {
    number = length_push old b ∙ ap (λ n. n + 1) f.number;
    others = f.others + 1;
    one_more = ap (λ n. n + 1) f.one_more;
    slots = map-append holds old (b ∷ []) ∙ ap (λ s. map holds old ++ s ∷ []) is ∙ ap (λ ss. ss ++ other ∷ []) f.slots
        ∙ ap (λ ss. front ∷ ss) (replicate_more f.others other);
  })

  pub whole : (items : List B) (n counter : ℕ) → FrontFirst items counter → counter ≡ n + 1
      → map holds items ≡ front ∷ replicate n other
  whole items n counter f is = f.slots ∙ ap (λ m. front ∷ replicate m other) (same_others f.others n (sym f.one_more ∙ is))
    where
      same_others : (m n : ℕ) → m + 1 ≡ n + 1 → m ≡ n
      same_others m n same = grind arith

-- a run of frames with the slots of a front end, over two streams
module _ {R W : Type 0} (asked : Option Command) (status : ℕ) (gives : ℕ → ℕ) (tells : Bool) (world : Around) where
  abbrev With : List PlainSlot → Adapter R → Adapter R → Adapter W → Adapter W → Type 0
  With slots from read to written = ServesFrames asked status
      (record { players = shipped_players; slots = slots; gives = λ number. number ≡ served_wait; moments = λ n. Some (gives n); tells = tells }) world
      (read_by from read) (written_by to written)

  pub over : (slots : List PlainSlot) (incoming : Option (List ℕ)) (reader : R) (writer : W) (from read : Adapter R) (to written : Adapter W)
      → With slots from read to written → slots ≡ slots_over incoming → from ≡ unread reader → to ≡ unread writer
      → ServesStreams asked status reader incoming writer gives world
  over slots incoming reader writer from read to written served same begins opens = record {
    tells = tells;
    reader_after = read;
    writer_after = written;
    served = subst (λ o. With (slots_over incoming) (unread reader) read o written) opens
        (subst (λ s. With (slots_over incoming) s read to written) begins
        (subst (λ ss. With ss from read to written) same served));
  }
