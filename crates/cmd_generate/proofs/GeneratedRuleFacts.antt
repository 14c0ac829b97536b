-- The rules of each generated file, and of the service over them.
use Rattle.std.proofs.Common.{◌≡◌, ℕ, suc, zero, ◌+◌, ◌-◌, ◌*◌, ◌<◌, ◌≤◌, min, Bool, true, false, cond, ◌&&◌, nat_lt, List, [], ◌∷◌, ◌++◌}
use Rattle.std.proofs.Common.{length, map, refl, sym, ap, ◌∙◌, arith, append-nil, length-append}
use Rattle.std.specs.List.{AllByRecursion, filter, flat_map, range_with_len}
use Rattle.std.proofs.lemmas.List.{map-append}
use Rattle.std.proofs.lemmas.List.Concat.{flat_map-append}
use Rattle.random_config.specs.Files.{count_of, is_odd, substack_line, text_of}
use Rattle.random_config.specs.Line.{random_line, random_lines}
use Rattle.service_load.specs.declared.entry.RuleContent.{RuleContent}
use Rattle.cmd_generate.specs.RandomRules.{HoldsRules, contents_of, random_content, service_contents, substack_content}
use Rattle.cmd_generate.proofs.Lines.{random, random_reads, random_says, named, named_reads, named_holds}
use Rattle.cmd_generate.proofs.RuleLineFacts.{Ruled, contents_in, reads_as, text_in}

-- ---- generated lines

random_text : (seed : ℕ) (ns : List ℕ) → text_in (map (random seed) ns) ≡ flat_map (random_line seed) ns
random_text seed [] = refl
random_text seed (n ∷ ns) = ap (λ (z : List ℕ). z ++ text_in (map (random seed) ns)) (random_reads seed n)
    ∙ ap (λ (z : List ℕ). random_line seed n ++ z) (random_text seed ns)

random_contents : (seed : ℕ) (ns : List ℕ) → contents_in (map (random seed) ns) ≡ map (random_content seed) ns
random_contents seed [] = refl
random_contents seed (n ∷ ns) = ap (λ (z : RuleContent). z ∷ contents_in (map (random seed) ns)) (random_says seed n)
    ∙ ap (λ (z : List RuleContent). random_content seed n ∷ z) (random_contents seed ns)

random_count : (seed a n : ℕ) → length (map (random seed) (range_with_len a n)) ≡ n
random_count seed a zero = refl
random_count seed a (suc n) = ap suc (random_count seed (a + 1) n)

-- ---- lines that name files

abbrev AreFew : List ℕ → Type 0
AreFew ks = AllByRecursion (λ (k : ℕ). k < 1000) ks

abbrev namings : (ks : List ℕ) → AreFew ks → List Ruled
namings [] few = []
namings (k ∷ ks) few = named k few.0 ∷ namings ks few.1

names_text : (ks : List ℕ) (few : AreFew ks) → text_in (namings ks few) ≡ flat_map substack_line ks
names_text [] few = refl
names_text (k ∷ ks) few = ap (λ (z : List ℕ). z ++ text_in (namings ks few.1)) (named_reads k few.0)
    ∙ ap (λ (z : List ℕ). substack_line k ++ z) (names_text ks few.1)

names_say : (ks : List ℕ) (few : AreFew ks) → contents_in (namings ks few) ≡ map substack_content ks
names_say [] few = refl
names_say (k ∷ ks) few = ap (λ (z : RuleContent). z ∷ contents_in (namings ks few.1)) (named_holds k few.0)
    ∙ ap (λ (z : List RuleContent). substack_content k ∷ z) (names_say ks few.1)

names_count : (ks : List ℕ) (few : AreFew ks) → length (namings ks few) ≡ length ks
names_count [] few = refl
names_count (k ∷ ks) few = ap suc (names_count ks few.1)

range_few : (a n : ℕ) → a + n ≤ 1000 → AreFew (range_with_len a n)
range_few a zero l = tt
range_few a (suc n) l = (omega (arith, l), range_few (a + 1) n (omega (arith, l)))

by_kept : (b : Bool) (k : ℕ) (ks : List ℕ) → k < 1000 → AreFew ks → AreFew (cond b (k ∷ ks) ks)
by_kept true k ks one few = (one, few)
by_kept false k ks one few = few

kept_few : (p : ℕ → Bool) (ks : List ℕ) → AreFew ks → AreFew (filter p ks)
kept_few p [] few = tt
kept_few p (k ∷ ks) few = by_kept (p k) k (filter p ks) few.0 (kept_few p ks few.1)

range_count : (a n : ℕ) → length (range_with_len a n) ≡ n
range_count a zero = refl
range_count a (suc n) = ap suc (range_count (a + 1) n)

by_count : (b : Bool) (k : ℕ) (ks : List ℕ) (n : ℕ) → length ks ≤ n → length (cond b (k ∷ ks) ks) ≤ suc n
by_count true k ks n few = omega (arith, few)
by_count false k ks n few = omega (arith, few)

kept_count : (p : ℕ → Bool) (ks : List ℕ) → length (filter p ks) ≤ length ks
kept_count p [] = omega arith
kept_count p (k ∷ ks) = by_count (p k) k (filter p ks) (length ks) (kept_count p ks)

-- ---- a file

module _ (seed lines k : ℕ) (most : lines ≤ 4096) (last : k ≤ count_of lines) where
  count_few : count_of lines ≤ 128
  count_few = omega (arith, most)

  next_few : k + 1 < 1000
  next_few = omega (arith, last, count_few)

  abbrev after : Bool → List Ruled
  after true = named (k + 1) next_few ∷ []
  after false = []

  after_text : (b : Bool) → text_in (after b) ≡ cond b (substack_line (k + 1)) []
  after_text true = append-nil ((named (k + 1) next_few).text) ∙ named_reads (k + 1) next_few
  after_text false = refl

  after_says : (b : Bool) → contents_in (after b) ≡ cond b (substack_content (k + 1) ∷ []) []
  after_says true = ap (λ (z : RuleContent). z ∷ []) (named_holds (k + 1) next_few)
  after_says false = refl

  after_count : (b : Bool) → length (after b) ≤ 1
  after_count true = omega arith
  after_count false = omega arith

  abbrev before : ℕ
  before = 32 * (k - 1)

  abbrev number : ℕ
  number = min (32 * k) lines - 32 * (k - 1)

  abbrev leads_on : Bool
  leads_on = is_odd k && nat_lt k (count_of lines)

  abbrev random_lines_in : List Ruled
  random_lines_in = map (random seed) (range_with_len before number)

  abbrev all : List Ruled
  all = random_lines_in ++ after leads_on

  few_here : number ≤ 64
  few_here = omega arith

  pub holds_file : HoldsRules (text_of seed lines k) (contents_of seed lines k)
  holds_file = reads_as (text_of seed lines k) (contents_of seed lines k) all
      (sym (flat_map-append (λ (l : Ruled). l.text) random_lines_in (after leads_on)
      ∙ ap (λ (z : List ℕ). z ++ text_in (after leads_on)) (random_text seed (range_with_len before number))
      ∙ ap (λ (z : List ℕ). random_lines seed before number ++ z) (after_text leads_on)))
      (sym (map-append (λ (l : Ruled). l.content) random_lines_in (after leads_on)
      ∙ ap (λ (z : List RuleContent). z ++ contents_in (after leads_on)) (random_contents seed (range_with_len before number))
      ∙ ap (λ (z : List RuleContent). map (random_content seed) (range_with_len before number) ++ z) (after_says leads_on)))
      (omega (arith, length-append random_lines_in (after leads_on), random_count seed before number, after_count leads_on, few_here))

-- ---- the service

module _ (lines : ℕ) (most : lines ≤ 4096) where
  abbrev odd : List ℕ
  odd = filter is_odd (range_with_len 1 (count_of lines))

  odd_few : AreFew odd
  odd_few = kept_few is_odd (range_with_len 1 (count_of lines)) (range_few 1 (count_of lines) (omega (arith, most)))

  pub holds_service : HoldsRules (flat_map substack_line odd) (service_contents (count_of lines))
  holds_service = reads_as (flat_map substack_line odd) (service_contents (count_of lines)) (namings odd odd_few)
      (sym (names_text odd odd_few)) (sym (names_say odd odd_few))
      (omega (arith, names_count odd odd_few, kept_count is_odd (range_with_len 1 (count_of lines)), range_count 1 (count_of lines), most))
