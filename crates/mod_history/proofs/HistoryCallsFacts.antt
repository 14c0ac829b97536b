-- What a history has after a list of calls.
use Rattle.std.proofs.Common.{◌≡◌, ◌<◌, ℕ, Bool, true, false, ◌||◌, cond, List, [], ◌∷◌, Option, Some, refl, sym, ap, ◌∙◌, subst}
use Rattle.std.specs.List.{AllByRecursion}
use Rattle.std.specs.Str.{bytes_eq}
use Rattle.std.proofs.lemmas.Slice.Eq.{bytes_eq-Decides}
use Rattle.pam_outside.specs.Files.{file_at}
use Rattle.mod_unix.specs.Verify.{is_locked}
use Rattle.mod_history.specs.declared.history.Remembered.{Remembered}
use Rattle.mod_history.specs.History.{IsPart, history_text}
use Rattle.mod_history.specs.Renewal.{hashes_in, hashes_of, renewed, renewed_hashes}
use Rattle.mod_history.specs.Standing.{Deed, left, replaced, Does, Follow, Remembers, Served, KeepsHashes, deeds_of, is_renewed, kept_by, played, history_on_file}
use Rattle.mod_history.proofs.Fields.{Lacks, present_stands}
use Rattle.mod_history.proofs.Renewed.{others_stay, own_renewed, renewed_fits}
use Rattle.mod_history.proofs.WrittenHistoryFacts.{history_read}
use Rattle.mod_history.proofs.Wellformed.{some_same, history_fits}

-- an unlocked hash isn't empty
part_of : (hash : List ℕ) → Lacks hash → is_locked hash ≡ false → IsPart hash
part_of [] lacks e = absurd cc
part_of (b ∷ bs) lacks e = record { filled = refl; colons = lacks.colons; newlines = lacks.newlines }

either_false : (a b : Bool) → (a || b) ≡ false → (a ≡ false) × (b ≡ false)
either_false true b e = absurd cc
either_false false b e = (refl, e)

module _ (remember : ℕ) (some : 0 < remember) where
  -- one more call, and then others
  kept_first : (user : List ℕ) (d : Deed) (ds : List Deed) (hashes : List (List ℕ)) → kept_by remember user (d ∷ ds) hashes ≡ kept_by remember user ds (kept_by remember user (d ∷ []) hashes)
  kept_first user left ds hashes = refl
  kept_first user (replaced name hash) ds hashes = refl

  renewed_parts : (user : List ℕ) (d : Deed) (ds : List Deed) → is_renewed user (d ∷ ds) ≡ false → (is_renewed user (d ∷ []) ≡ false) × (is_renewed user ds ≡ false)
  renewed_parts user left ds e = (refl, e)
  renewed_parts user (replaced name hash) ds e =
      let parts = either_false (bytes_eq name user) (is_renewed user ds) e in
      (rw parts.0 refl, parts.1)

  -- depending on whether the renewed line is the user's
  hashes_by : (b : Bool) (user name hash : List ℕ) (history : List Remembered) → bytes_eq name user ≡ b
      → hashes_of user (renewed remember name hash history) ≡ cond b (renewed_hashes remember hash (hashes_of user history)) (hashes_of user history)
  hashes_by true user name hash history e =
      let is : name ≡ user = (bytes_eq-Decides name user).0 e in
      subst (λ (n : List ℕ). hashes_of n (renewed remember name hash history) ≡ renewed_hashes remember hash (hashes_of n history)) is (own_renewed remember name hash some history)
  hashes_by false user name hash history e = ap hashes_in (others_stay remember name hash user e history)

  after_one : (path : List ℕ) (s : Served) (d : Deed) (history : List Remembered) → Does path s.call s.room s.sight (played s) d → Remembers remember s → history_on_file (file_at path s.sight.files) ≡ Some history
      → KeepsHashes remember (d ∷ []) history (file_at path (played s).files)
  after_one path s left history does is stood = record { on_file = history; stands = ap history_on_file does ∙ stood; hashes = λ user. refl; others = λ user e. refl }
  after_one path s (replaced name hash) history does is stood =
      let found : does.on_file ≡ history = some_same does.on_file history (sym does.stood ∙ stood) in
      let fits = present_stands s.sight.root s.sight.files name hash does.hash_is in
      let well = renewed_fits remember name hash fits.0 (part_of hash fits.1) history (history_fits (file_at path s.sight.files) history stood) in
      record {
        on_file = renewed remember name hash history;
        stands = ap history_on_file does.stands
            ∙ ap (λ (n : ℕ). history_on_file (Some (history_text (renewed n name hash does.on_file)))) is
            ∙ ap (λ (h : List Remembered). history_on_file (Some (history_text (renewed remember name hash h)))) found
            ∙ history_read (renewed remember name hash history) well;
        hashes = λ user. hashes_by (bytes_eq name user) user name hash history refl;
        others = λ user e. others_stay remember name hash user (either_false (bytes_eq name user) false e).0 history;
      }

  pub calls_stand : (path : List ℕ) (calls : List Served) (before after : Option (List ℕ)) (history : List Remembered) → Follow path before calls after → AllByRecursion (Remembers remember) calls → history_on_file before ≡ Some history
      → KeepsHashes remember (deeds_of calls) history after
  calls_stand path [] before after history follow all stood = record { on_file = history; stands = ap history_on_file follow ∙ stood; hashes = λ user. refl; others = λ user e. refl }
  calls_stand path (s ∷ ss) before after history follow all stood =
      let one = after_one path s s.deed history follow.1 all.0 (ap history_on_file follow.0 ∙ stood) in
      let more = calls_stand path ss (file_at path (played s).files) after one.on_file follow.2 all.1 one.stands in
      record {
        on_file = more.on_file;
        stands = more.stands;
        hashes = λ user. more.hashes user ∙ ap (kept_by remember user (deeds_of ss)) (one.hashes user) ∙ sym (kept_first user s.deed (deeds_of ss) (hashes_of user history));
        others = λ user e. let parts = renewed_parts user s.deed (deeds_of ss) e in more.others user parts.1 ∙ one.others user parts.0;
      }
