-- What may be read where bounds are used is no more than what may be read without them.
--
--   fewer                 of those that pass two tests there are no more than of those that pass one
--   word_once             a word lies in at most one block
--   part_less, last_less, facets_less      level by level
--   sharp_less            the law
--   skipped_rows          rows that lie within bounds where no document does are of none of these
--   skipped_have_no_row   so a block that isn't read has none
--   files_divided         index files are divided so
use Rattle.std.proofs.Common.{◌≡◌, ℕ, zero, suc, ◌+◌, ◌<◌, ◌≤◌, ◌&&◌, ◌||◌, Bool, true, false, true≢false, cond, if◌then◌else◌, List, [], ◌∷◌, length, get_or, map, drop, Option, Some, None, refl, sym, ap, subst}
use Rattle.std.proofs.Common.{◌∙◌, arith, length-take, length-drop, get_or-take, get_or-drop}
use Rattle.std.specs.Prelude.{◌==◌, filter, nat_le, sum}
use Rattle.std.specs.List.{All, AllByRecursion, list_any, sum_by, zip}
use Rattle.std.specs.List.Sorted.{IsStrictlySortedBy}
use Rattle.std.specs.Ordering.{nat_cmp}
use Rattle.std.specs.declared.cmp.Ordering.TheVariants.{Less, Equal}
use Rattle.std.specs.Cmp.Lexicographic.{slice_cmp}
use Rattle.std.specs.Str.{bytes_eq}
use Rattle.std.proofs.lemmas.Bool.{and_from, and_parts, eqb-true, le-leb, or_left, or_parts, or_right}
use Rattle.std.proofs.lemmas.Cmp.{nat_list_cmp_total, tied_itself}
use Rattle.std.proofs.lemmas.List.Elements.{All-from_recursion}
use Rattle.std.proofs.lemmas.List.Sums.{sum-map, sum_by-cons}
use Rattle.std.proofs.lemmas.Map.Keys.{Less-from_sorted}
use Rattle.std.proofs.lemmas.Slice.Eq.{bytes_eq-Decides}
use Rattle.cs_base.proofs.MembersLemmas.{all_then}
use Rattle.cs_base.specs.declared.content.doc.Post.{Post}
use Rattle.cs_base.specs.declared.index.block.BlockHead.{BlockHead}
use Rattle.cs_base.specs.declared.index.plan.Plan.{Plan}
use Rattle.cs_base.specs.declared.index.plan.Plan.TheVariants.{Same, Narrow, Extend, Fresh}
use Rattle.cs_base.specs.declared.content.query.Query.{Query, out-Query}
use Rattle.cs_base.specs.declared.content.query.Part.{Part, out-Part}
use Rattle.cs_base.specs.declared.content.query.Chain.{Chain, out-Chain}
use Rattle.cs_base.specs.declared.content.query.Linked.{Linked, out-Linked}
use Rattle.cs_base.specs.declared.content.query.Atom.{Atom, map-Atom, out-Atom}
use Rattle.cs_base.specs.declared.content.query.Atom.TheOpen.{Atom-F}
use Rattle.cs_base.specs.declared.content.query.Atom.TheFolds.{fold_out-Atom, fold_out-Chain, fold_out-Linked, fold_out-Part}
use Rattle.cs_model.specs.Answers.{begins, hits, is_listed, parts_of}
use Rattle.cs_model.specs.Collection.{named}
use Rattle.cs_model.specs.Corpus.{Corpus}
use Rattle.cs_model.specs.Keys.{last_of}
use Rattle.cs_model_index.specs.FileRules.{is_joined, laid, word_size, words_end}
use Rattle.cs_model_index.specs.Sections.{contents_of, directory_at, header_of, image_of, vocabulary_at}
use Rattle.cs_model_index.specs.Layout.{entry_size}
use Rattle.cs_model_index.proofs.AcceptedLemmas.{is_sound}
use Rattle.cs_model_index.proofs.BoundsLemmas.{LieIn, blocks_lie}
use Rattle.cs_model_index.proofs.ReadBlocks.{rising_words}
use Rattle.cs_model_kept.specs.Due.{Division, atom_met, block_words, chain_met, due, linked_met, met_by, met_of_atom, met_of_chain, met_of_facets, met_of_last, met_of_linked, met_of_part, met_of_query, met_prefix, met_word, part_met, query_met}
use Rattle.cs_model_kept.specs.Sharp.{FilesAreDivided, IsDivided, SharpIsLess, SkippedHaveNoRow, has_hit, hits_before, lies_in, sharp, sharp_by, sharp_of, sharp_of_atom, sharp_of_chain, sharp_of_facets, sharp_of_last, sharp_of_linked, sharp_of_part, sharp_open}

-- ---- counting
fewer : {X : Type 0} (p q : X → Bool) (xs : List X) → length (filter (λ x. p x && q x) xs) ≤ length (filter p xs)
fewer p q [] = omega arith
fewer p q (x ∷ xs) = let rest = fewer p q xs in step (p x) (q x) x (filter (λ x. p x && q x) xs) (filter p xs) rest
  where
    step : {X : Type 0} (a b : Bool) (x : X) (l m : List X) → length l ≤ length m → length (cond (a && b) (x ∷ l) l) ≤ length (cond a (x ∷ m) m)
    step true true x l m le = omega (arith, le)
    step true false x l m le = omega (arith, le)
    step false b x l m le = le

sums_less : {X : Type 0} (f g : X → ℕ) → ((x : X) → f x ≤ g x) → (xs : List X) → sum_by f xs ≤ sum_by g xs
sums_less f g le [] = omega arith
sums_less f g le (x ∷ xs) =
    let rest = sums_less f g le xs in
    let here = le x in
    omega (arith, here, rest, sum_by-cons f x xs, sum_by-cons g x xs)

mapped_less : {X : Type 0} (f g : X → ℕ) → ((x : X) → f x ≤ g x) → (xs : List X) → sum (map f xs) ≤ sum (map g xs)
mapped_less f g le xs = let less = sums_less f g le xs in omega (arith, less, sum-map f xs, sum-map g xs)

-- ---- one word
record AnyAt {X : Type 0} (test : X → Bool) (xs : List X) : Type 0 where
  at : ℕ
  inside : at < length xs
  passes : (d : X) → test (get_or xs at d) ≡ true

any_at : {X : Type 0} (test : X → Bool) (xs : List X) → list_any test xs ≡ true → AnyAt test xs
any_at test [] e = absurd (true≢false (sym e))
any_at test (x ∷ xs) e =
    elim (test x) as (λ b. test x ≡ b → AnyAt test (x ∷ xs)) [
      | true ↦ λ here. record { at = 0; inside = omega arith; passes = λ d. here }
      | false ↦ λ other.
          let rest = any_at test xs (sym (ap (λ b. b || list_any test xs) other) ∙ e) in
          let inside = rest.inside in
          record { at = suc rest.at; inside = omega (arith, inside); passes = rest.passes }
    ] refl

-- the number of a word of a block
record Holds (v : Division) (w : List ℕ) (h : BlockHead) : Type 0 where
  at : ℕ
  from : h.lo ≤ at
  to : at < h.lo + h.words
  inside : at < length v.words
  is : get_or v.words at [] ≡ w

holds : (v : Division) (w : List ℕ) (h : BlockHead) → list_any (λ x. bytes_eq x w) (block_words v h) ≡ true → Holds v w h
holds v w h e =
    let a = any_at (λ x. bytes_eq x w) (block_words v h) e in
    let inside = a.inside in
    let l1 = length-take h.words (drop h.lo v.words) in
    let l2 = length-drop h.lo v.words in
    let place : a.at < h.words = omega (arith, inside, l1) in
    let there : get_or (block_words v h) a.at [] ≡ get_or v.words (h.lo + a.at) [] =
    get_or-take h.words (drop h.lo v.words) a.at [] place ∙ get_or-drop h.lo v.words a.at [] in
    record {
      at = h.lo + a.at;
      from = omega arith;
      to = omega (arith, place);
      inside = omega (arith, inside, l1, l2);
      is = sym there ∙ (bytes_eq-Decides (get_or (block_words v h) a.at []) w).0 (a.passes []);
    }

less_than_itself : (w : List ℕ) → slice_cmp nat_cmp w w ≡ Less → ⊥
less_than_itself w e = let same : slice_cmp nat_cmp w w ≡ Equal = tied_itself nat_list_cmp_total w in cc

-- no two numbers have one word
twice : (ws : List (List ℕ)) (w : List ℕ) (a b : ℕ) → IsStrictlySortedBy (slice_cmp nat_cmp) ws → a < b → b < length ws → get_or ws a [] ≡ w → get_or ws b [] ≡ w → ⊥
twice ws w a b up lt inside p q =
    let less : slice_cmp nat_cmp (get_or ws a []) (get_or ws b []) ≡ Less = Less-from_sorted (slice_cmp nat_cmp) ws a b [] up lt inside in
    less_than_itself w (subst (λ x. slice_cmp nat_cmp w x ≡ Less) q (subst (λ x. slice_cmp nat_cmp x (get_or ws b []) ≡ Less) p less))

module _ (v : Division) (up : IsStrictlySortedBy (slice_cmp nat_cmp) v.words) (w : List ℕ) where
  abbrev held : BlockHead → Bool
  held h = list_any (λ x. bytes_eq x w) (block_words v h)

  none_behind : (h : BlockHead) (hs : List BlockHead) → Holds v w h → ((k : ℕ) (d : BlockHead) → k < length hs → h.lo + h.words ≤ (get_or hs k d).lo) → length (filter held hs) ≤ 0
  none_behind h [] first apart = omega arith
  none_behind h (g ∷ hs) first apart =
      elim (held g) as (λ e. held g ≡ e → length (cond e (g ∷ filter held hs) (filter held hs)) ≤ 0) [
        | true ↦ λ e.
            let second = holds v w g e in
            let to = first.to in
            let from = second.from in
            let behind = apart 0 g (omega arith) in
            absurd (twice v.words w first.at second.at up (omega (arith, to, from, behind)) second.inside first.is second.is)
        | false ↦ λ e. none_behind h hs first (λ k d lt. apart (suc k) d (omega (arith, lt)))
      ] refl

  word_once : (hs : List BlockHead) → ((k l : ℕ) (d : BlockHead) → k < l → l < length hs → (get_or hs k d).lo + (get_or hs k d).words ≤ (get_or hs l d).lo) → length (filter held hs) ≤ 1
  word_once [] apart = omega arith
  word_once (h ∷ hs) apart =
      elim (held h) as (λ e. held h ≡ e → length (cond e (h ∷ filter held hs) (filter held hs)) ≤ 1) [
        | true ↦ λ e.
            let rest = none_behind h hs (holds v w h e) (λ k d lt. apart 0 (suc k) d (omega arith) (omega (arith, lt))) in
            omega (arith, rest)
        | false ↦ λ e. word_once hs (λ k l d lt inside. apart (suc k) (suc l) d (omega (arith, lt)) (omega (arith, inside)))
      ] refl

-- a word of a block is one of the index
any_of : (w : List ℕ) (ws : List (List ℕ)) (a : ℕ) → a < length ws → get_or ws a [] ≡ w → list_any (bytes_eq w) ws ≡ true
any_of w [] a lt e = absurd (omega (arith, lt))
any_of w (x ∷ ws) zero lt e = or_left _ _ ((bytes_eq-Decides w x).1 (sym e))
any_of w (x ∷ ws) (suc a) lt e = or_right (bytes_eq w x) _ (any_of w ws a (omega (arith, lt)) e)

none_held : (v : Division) (w : List ℕ) → list_any (bytes_eq w) v.words ≡ false → (hs : List BlockHead) → length (filter (λ h. list_any (λ x. bytes_eq x w) (block_words v h)) hs) ≤ 0
none_held v w e [] = omega arith
none_held v w e (h ∷ hs) =
    elim (list_any (λ x. bytes_eq x w) (block_words v h)) as (λ b. list_any (λ x. bytes_eq x w) (block_words v h) ≡ b
    → length (cond b (h ∷ filter (λ h. list_any (λ x. bytes_eq x w) (block_words v h)) hs) (filter (λ h. list_any (λ x. bytes_eq x w) (block_words v h)) hs)) ≤ 0) [
      | true ↦ λ f. let there = holds v w h f in absurd (true≢false (sym (any_of w v.words there.at there.inside there.is) ∙ e))
      | false ↦ λ f. none_held v w e hs
    ] refl

exact_less : (v : Division) → IsDivided v → (ds : List ℕ) (w : List ℕ) → sharp_of v ds (λ x. bytes_eq x w) ≤ met_word v w
exact_less v is ds w =
    let less = fewer (λ h. list_any (λ x. bytes_eq x w) (block_words v h)) (has_hit ds) v.heads in
    elim (list_any (bytes_eq w) v.words) as (λ e. list_any (bytes_eq w) v.words ≡ e → sharp_of v ds (λ x. bytes_eq x w) ≤ (if e then 1 else 0)) [
      | true ↦ λ e. let one = word_once v is.ascending w v.heads is.apart in omega (arith, less, one)
      | false ↦ λ e. let none = none_held v w e v.heads in omega (arith, less, none)
    ] refl

prefix_less : (v : Division) (ds : List ℕ) (p : List ℕ) → sharp_of v ds (begins p) ≤ met_prefix v p
prefix_less v ds p = fewer (λ h. list_any (begins p) (block_words v h)) (has_hit ds) v.heads

-- ---- level by level
module _ (v : Division) (is : IsDivided v) (ds : List ℕ) where
  -- those of an opened atom
  abbrev met_open : Atom-F Atom Chain Linked Part Query → ℕ
  met_open x = atom_met v (map-Atom Atom Chain Linked Part Query ℕ ℕ ℕ ℕ ℕ (met_of_atom v) (met_of_chain v) (met_of_linked v) (met_of_part v) (met_of_query v) x)

  open_less : (x : Atom-F Atom Chain Linked Part Query) (all : ℕ) → all ≡ met_open x → sharp_open v ds all x ≤ all
  open_less (Atom-F.Prefix p) all e = let less = prefix_less v ds p in omega (arith, less, e)
  open_less (Atom-F.Exact w) all e = let less = exact_less v is ds w in omega (arith, less, e)
  open_less (Atom-F.Join name inner) all e = omega arith

  atom_less : (a : Atom) → sharp_of_atom v ds a ≤ met_of_atom v a
  atom_less a = open_less (out-Atom a) (met_of_atom v a) (fold_out-Atom ℕ ℕ ℕ ℕ ℕ (atom_met v) chain_met linked_met part_met query_met a)

  linked_less : (l : Linked) → sharp_of_linked v ds l ≤ met_of_linked v l
  linked_less l =
      let own = fold_out-Linked ℕ ℕ ℕ ℕ ℕ (atom_met v) chain_met linked_met part_met query_met l in
      let less = atom_less (out-Linked l).atom in
      omega (arith, less, own)

  chain_less : (c : Chain) → sharp_of_chain v ds c ≤ met_of_chain v c
  chain_less c =
      let own : met_of_chain v c ≡ met_of_atom v (out-Chain c).first + sum (map (met_of_linked v) (out-Chain c).rest) =
      fold_out-Chain ℕ ℕ ℕ ℕ ℕ (atom_met v) chain_met linked_met part_met query_met c in
      let first = atom_less (out-Chain c).first in
      let rest = mapped_less (sharp_of_linked v ds) (met_of_linked v) linked_less (out-Chain c).rest in
      omega (arith, first, rest, own)

  pub part_less : (p : Part) → sharp_of_part v ds p ≤ met_of_part v p
  part_less p =
      let own : met_of_part v p ≡ sum (map (met_of_chain v) (out-Part p).chains) =
      fold_out-Part ℕ ℕ ℕ ℕ ℕ (atom_met v) chain_met linked_met part_met query_met p in
      let less = mapped_less (sharp_of_chain v ds) (met_of_chain v) chain_less (out-Part p).chains in
      omega (arith, less, own)

  pub last_less : (p : Option Part) → sharp_of_last v ds p ≤ met_of_last v p
  last_less None = omega arith
  last_less (Some p) = part_less p

  pub facets_less : (names : List (List ℕ)) → sharp_of_facets v ds names ≤ met_of_facets v names
  facets_less names = mapped_less (λ n. sharp_of v ds (begins (named n []))) (λ n. met_prefix v (named n [])) (λ n. prefix_less v ds (named n [])) names

by_less : (v : Division) → IsDivided v → (k : Corpus) (q : Query) (plan : Plan) → sharp_by v k q plan ≤ met_by v q plan
by_less v is k q Same = omega arith
by_less v is k q (Narrow cut) = omega arith
by_less v is k q Extend = last_less v is (hits_before k (parts_of k q)) (last_of (out-Query q).parts)
by_less v is k q Fresh = omega arith

pub sharp_less : SharpIsLess
unfolding sharp due
sharp_less v is k r plan titles =
    let facets = facets_less v is (hits k (parts_of k r.query)) r.facets in
    let parts = by_less v is k r.query plan in
    omega (arith, facets, parts)

-- ---- what isn't read
at_hit : (h : BlockHead) (d e : ℕ) (b listed : Bool) → e == d ≡ b → lies_in h d ≡ true → lies_in h e ≡ false → listed ≡ false → (b || listed) ≡ false
at_hit h d e true listed same lies not_here rest = absurd (true≢false (sym (ap (lies_in h) (eqb-true e d same) ∙ lies) ∙ not_here))
at_hit h d e false listed same lies not_here rest = rest

not_listed : (h : BlockHead) (d : ℕ) (ds : List ℕ) → lies_in h d ≡ true → list_any (lies_in h) ds ≡ false → is_listed ds d ≡ false
not_listed h d [] lies none = refl
not_listed h d (e ∷ ds) lies none =
    let p = or_parts (lies_in h e) (list_any (lies_in h) ds) none in
    at_hit h d e (e == d) (is_listed ds d) refl lies p.0 (not_listed h d ds lies p.1)

skipped_rows : (ds : List ℕ) (h : BlockHead) (rs : List Post) → has_hit ds h ≡ false → AllByRecursion (LieIn h.least h.greatest) rs → All (λ r. is_listed ds r.doc ≡ false) rs
unfolding has_hit
skipped_rows ds h rs none lie =
    All-from_recursion (λ r. is_listed ds r.doc ≡ false) rs (all_then (LieIn h.least h.greatest) (λ r. is_listed ds r.doc ≡ false)
    (λ r l. not_listed h r.doc ds (and_from (nat_le h.least r.doc) (nat_le r.doc h.greatest) (le-leb _ _ l.0) (le-leb _ _ l.1)) none) rs lie)

pub skipped_have_no_row : SkippedHaveNoRow
skipped_have_no_row accepted one b small whole ds =
    let pairs = zip (image_of b).heads (image_of b).blocks in
    All-from_recursion (λ p. has_hit ds p.0 ≡ false → All (λ r. is_listed ds r.doc ≡ false) p.1) pairs
    (all_then (λ p. AllByRecursion (LieIn p.0.least p.0.greatest) p.1) (λ p. has_hit ds p.0 ≡ false → All (λ r. is_listed ds r.doc ≡ false) p.1)
    (λ p lie none. skipped_rows ds p.0 p.1 none lie) pairs (blocks_lie accepted one b small whole))

-- ---- index files
module _ (e : ℕ) where
  abbrev Joined : ℕ → Option BlockHead → List BlockHead → Type 0
  Joined at last hs = AllByRecursion (λ i. is_joined i.last i.value ≡ true) (laid (λ h. e) at last hs)

  from_end : (at : ℕ) (last : Option BlockHead) (hs : List BlockHead) (j : ℕ) (d : BlockHead) → Joined at last hs → j < length hs → words_end last ≤ (get_or hs j d).lo
  unfolding laid
  from_end at last [] j d joined lt = absurd (omega (arith, lt))
  from_end at last (h ∷ hs) zero d joined lt = let here : h.lo ≡ words_end last = eqb-true _ _ (and_parts (h.lo == words_end last) (nat_le 1 h.words) joined.0).0 in omega (arith, here)
  from_end at last (h ∷ hs) (suc j) d joined lt =
      let here : h.lo ≡ words_end last = eqb-true _ _ (and_parts (h.lo == words_end last) (nat_le 1 h.words) joined.0).0 in
      let rest = from_end (at + e) (Some h) hs j d joined.1 (omega (arith, lt)) in
      omega (arith, here, rest)

  joined_apart : (at : ℕ) (last : Option BlockHead) (hs : List BlockHead) (k l : ℕ) (d : BlockHead) → Joined at last hs → k < l → l < length hs
      → (get_or hs k d).lo + (get_or hs k d).words ≤ (get_or hs l d).lo
  unfolding laid
  joined_apart at last [] k l d joined lt inside = absurd (omega (arith, inside))
  joined_apart at last (h ∷ hs) k zero d joined lt inside = absurd (omega (arith, lt))
  joined_apart at last (h ∷ hs) zero (suc l) d joined lt inside = from_end (at + e) (Some h) hs l d joined.1 (omega (arith, inside))
  joined_apart at last (h ∷ hs) (suc k) (suc l) d joined lt inside = joined_apart (at + e) (Some h) hs k l d joined.1 (omega (arith, lt)) (omega (arith, inside))

pub files_divided : FilesAreDivided
unfolding image_of
files_divided b small accepted =
    let r = contents_of b in
    let h = header_of b in
    let values = (is_sound b small accepted).hold.values in
    record {
      ascending = rising_words word_size vocabulary_at r.words values.ascend;
      apart = λ k l d lt inside. joined_apart (entry_size h.two) (directory_at h) None r.heads k l d values.joined lt inside;
    }
