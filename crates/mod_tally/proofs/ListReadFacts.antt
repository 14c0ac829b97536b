-- A list that is read one by one.
use Rattle.std.proofs.Common.{◌≡◌, List, [], ◌∷◌, ◌++◌, Option, Some, None, refl, sym, ap, ◌∙◌, append_assoc}
use Rattle.std.specs.Option.{option_map}
use Rattle.mod_tally.specs.Source.{put_before}

-- what is read from here on, after what was read
abbrev pub past_end : {A : Type 0} → List A → Option (List A) → Option (List A)
past_end front rest = option_map (λ more. front ++ more) rest

one_more : {A : Type 0} (front : List A) (x : A) (after : Option (List A)) → past_end front (put_before (Some x) after) ≡ past_end (front ++ x ∷ []) after
one_more front x None = refl
one_more front x (Some xs) = ap (λ l. Some l) (sym (append_assoc front (x ∷ []) xs))

pub gone_on : {A : Type 0} (front next : List A) (x : A) (here after whole : Option (List A)) → past_end front here ≡ whole → here ≡ put_before (Some x) after → next ≡ front ++ x ∷ [] → past_end next after ≡ whole
gone_on front next x here after whole e f g = rw g (sym (one_more front x after) ∙ ap (past_end front) (sym f) ∙ e)

pub none_ahead : {A : Type 0} (front : List A) (here whole : Option (List A)) → past_end front here ≡ whole → here ≡ None → None ≡ whole
none_ahead front here whole e f = ap (past_end front) (sym f) ∙ e
