-- The rows of a part in hits, and how many blocks are read for them.
--
--   in_hits, in_kept       posts in hits stand for the rows in hits
--   words_inside           so they do for an atom
--   sharp_met              how many blocks that hits reach hold the words that pass a test
--   prefix_sharp, exact_sharp, chain_sharp       those of a chain of one atom
--   join_sharp             a join is read as without hits
--   facet_sharp            those of a facet
--   hits_less, last_hits_less, facets_hit_less       they are no more than those that are met
--   inside_begins, inside_goes_on, inside_stops, inside_ends       links
--   lists_begin_inside, lists_go_on_inside, lists_end_inside       alternatives
use Rattle.std.proofs.Common.{◌≡◌, ℕ, ◌+◌, ◌<◌, ◌≤◌, ◌&&◌, Bool, true, false, cond, Option, Some, None, List, [], ◌∷◌, ◌++◌, length, get_or, map, take, drop}
use Rattle.std.proofs.Common.{drop-cons, add-one, refl, sym, ap, ap₂, subst, ◌∙◌, arith}
use Rattle.std.specs.Prelude.{All, IfOk, IfSome, Result, sum, filter, flat_map}
use Rattle.std.specs.List.{AllByRecursion, Contains, list_any}
use Rattle.std.specs.Str.{bytes_eq}
use Rattle.std.proofs.lemmas.List.{append-nil, map-append, take_more, take_all, drop_all}
use Rattle.std.proofs.lemmas.Grind.{flat_map-append}
use Rattle.std.proofs.lemmas.List.Elements.{All-append, All-filter, All-nil, recursion_from_All}
use Rattle.std.proofs.lemmas.Result.{IfOk-weaker}
use Rattle.std.specs.Ordering.{eq_by_cmp}
use Rattle.cs_base.specs.content.Orders.{by_row}
use Rattle.cs_base.specs.declared.content.doc.Base.{Base}
use Rattle.cs_base.specs.declared.content.doc.Base.TheVariants as base
use Rattle.cs_base.specs.declared.content.doc.Post.{Post}
use Rattle.cs_base.specs.declared.content.doc.Row.{Row}
use Rattle.cs_base.specs.declared.content.doc.Scored.{Scored}
use Rattle.cs_base.specs.declared.content.query.Atom.{Atom, out-Atom, out-roll-Atom}
use Rattle.cs_base.specs.declared.content.query.Atom.TheFolds.{fold_out-Chain, fold_out-Linked}
use Rattle.cs_base.specs.declared.content.query.Atom.TheOpen.{Atom-F}
use Rattle.cs_base.specs.declared.content.query.Atom.TheVariants.{Prefix, Exact, Join, rolls-Prefix, rolls-Exact, rolls-Join}
use Rattle.cs_base.specs.declared.content.query.Chain.{Chain, out-Chain}
use Rattle.cs_base.specs.declared.content.query.Linked.{Linked, out-Linked}
use Rattle.cs_base.specs.declared.content.query.Part.{Part, out-Part}
use Rattle.cs_base.specs.declared.content.query.Query.{Query}
use Rattle.cs_base.specs.declared.index.block.BlockHead.{BlockHead}
use Rattle.cs_base.proofs.ListsLemmas.{all_of, all_stay, any_through, filter_alike, filter_through, map_alike}
use Rattle.cs_base.proofs.MembersLemmas.{members_are}
use Rattle.cs_base.proofs.OrdersLemmas.{by_row_exact, by_row_total}
use Rattle.cs_file.specs.Indexes.{StandsFor, is_met}
use Rattle.cs_model.specs.Answers.{LinkedRows, PartRows, atom_rows, begins, chain_rows, chained, linked_rows, linked_to, part_rows, query_parts, rows_of_atom, rows_of_chain, rows_of_linked, rows_of_part, union_of}
use Rattle.cs_model.specs.Collection.{named}
use Rattle.cs_model.specs.Corpus.{Corpus}
use Rattle.cs_model_index.specs.Numbered.{row_of, rows_at}
use Rattle.cs_model_kept.specs.Due.{Division, atom_met, block_words, chain_met, linked_met, met_of_atom, met_of_chain, met_of_facets, met_of_last, met_of_linked, met_of_part, met_prefix, part_met, query_met}
use Rattle.cs_model_kept.specs.Sharp.{IsDivided, has_hit, sharp_of, sharp_of_atom, sharp_open}
use Rattle.cs_model_kept.proofs.SharpLemmas.{facets_less, part_less}
use Rattle.cs_vocab.specs.Ranges.{IsRange}
use Rattle.cs_rows.specs.IndexReading.{division, HasRows, IsRangeOf}
use Rattle.cs_rows.specs.Counting.{in_listed}
use Rattle.cs_rows.specs.Packing.{IsOrdered}
use Rattle.cs_rows.specs.Plain.{AreSharp, AreWordsOf}
use Rattle.cs_rows.specs.Restricting.{rows_where, restricted}
use Rattle.cs_rows.specs.Skipping.{Lists, hit_docs, hit_met, hit_of_atom, hit_of_chain, hit_of_facet, hit_of_facets, hit_of_last, hit_of_linked, hit_of_part, lists_doc}
use Rattle.cs_rows.specs.Sources.{HoldMet, IsSource, SourceView, met_in}
use Rattle.cs_rows.specs.Stocked.{IsPicked, IsStocked, Stock, corpus_in, base_posts, is_between, linked_posts}
use Rattle.cs_file.proofs.HeadsLemmas.{heads_rise}
use Rattle.cs_rows.proofs.AtomsLemmas.{picked_again}
use Rattle.cs_rows.proofs.EvaluationLemmas.{met_part-is, no_rows, nothing_chained}
use Rattle.cs_rows.proofs.FoldsLemmas.{linked_rows-is, part_rows-is}
use Rattle.cs_rows.proofs.RestrictLemmas.{chains_within, unions_within}
use Rattle.cs_rows.proofs.SkippingLemmas.{all_reach}
use Rattle.cs_rows.proofs.AlternativesLemmas.{of_members}
use Rattle.cs_rows.proofs.UnionLemmas.{linked, picked_words}
use Rattle.cs_rows.proofs.VocabLemmas.{rows_rise}

-- ---- rows in hits
pub in_kept : (s : Stock) (t : ℕ → Bool) (rows : List Row) (posts now : List Post) → HasRows s rows posts → now ≡ filter (λ p. t p.doc) posts
    → HasRows s (rows_where t rows) now
in_kept s t rows posts now has is = record {
  is = ap (rows_at s.words) is ∙ filter_through (row_of s.words) (λ r. t r.doc) posts ∙ ap (rows_where t) has.is;
  picked = picked_again s (λ p. t p.doc) posts now has.picked is;
}

-- by the documents that a base lists
pub kept_docs : (hits : Base) (posts : List Post) → base_posts hits posts ≡ filter (λ p. lists_doc hits p.doc) posts
kept_docs base.All posts = sym (all_stay posts)
kept_docs (base.Listed hs) posts = refl

-- the rows in listed documents are those in hits
lists_kept : (v : SourceView) (hits : Base) (listed : List Bool) → Lists v hits listed → (b : List ℕ) → StandsFor b v.index → (t : Post → Bool)
    → filter (in_listed listed) (filter t (v.stock b).posts) ≡ filter (λ p. lists_doc hits p.doc) (filter t (v.stock b).posts)
lists_kept v hits listed lists b stands t =
    let P : Post → Type 0 = λ p. in_listed listed p ≡ lists_doc hits p.doc in
    filter_alike (in_listed listed) (λ p. lists_doc hits p.doc) (filter t (v.stock b).posts)
    (recursion_from_All P (filter t (v.stock b).posts) (All-filter t P (v.stock b).posts (lists b stands)))

pub words_inside : {v : SourceView} {met : ℕ} {rows : Corpus → List Row} {lo hi : ℕ} {T E : Type 0} (asks : AreWordsOf v met rows lo hi) (hits : Base)
    (listed : List Bool) → Lists v hits listed → (posts : T → List Post) (r : Result T E) (b : List ℕ) → StandsFor b v.index
    → IfOk r (λ x. posts x ≡ filter (in_listed listed) (filter (is_between lo hi) (v.stock b).posts))
    → IfOk r (λ x. HasRows (v.stock b) (rows_where (lists_doc hits) (rows (corpus_in (v.stock b)))) (posts x))
words_inside {v = v} {rows = rows} {lo = lo} {hi = hi} asks hits listed lists posts r b stands h =
    IfOk-weaker r _ _ (λ x e. in_kept (v.stock b) (lists_doc hits) (rows (corpus_in (v.stock b))) (filter (is_between lo hi) (v.stock b).posts) (posts x)
    (asks.posts b stands) (e ∙ lists_kept v hits listed lists b stands (is_between lo hi))) h

-- ---- blocks
less_both : (p q r : BlockHead → Bool) (hs : List BlockHead) → AllByRecursion (λ h. p h ≡ true → q h ≡ true) hs
    → length (filter (λ h. p h && r h) hs) ≤ length (filter (λ h. q h && r h) hs)
less_both p q r [] h = omega arith
less_both p q r (x ∷ hs) h = one (p x) (q x) (r x) h.0 (less_both p q r hs h.1)
  where
    one : (a b c : Bool) → (a ≡ true → b ≡ true) → length (filter (λ h. p h && r h) hs) ≤ length (filter (λ h. q h && r h) hs)
        → length (cond (a && c) (x ∷ filter (λ h. p h && r h) hs) (filter (λ h. p h && r h) hs))
        ≤ length (cond (b && c) (x ∷ filter (λ h. q h && r h) hs) (filter (λ h. q h && r h) hs))
    one true true true h rest = omega (arith, rest)
    one true true false h rest = rest
    one true false c h rest = absurd (let e : false ≡ true = h refl in cc)
    one false true true h rest = omega (arith, rest)
    one false true false h rest = rest
    one false false c h rest = rest

pub sharp_met : (v : SourceView) (ds : List ℕ) (hs : List Scored) (lo hi : ℕ) (test : List ℕ → Bool) → ds ≡ hit_docs hs → HoldMet v lo hi test
    → hit_met v (base.Listed hs) lo hi ≤ sharp_of (division v.index) ds test
sharp_met v ds hs lo hi test same held =
    let d = division v.index in
    subst (λ xs. hit_met v (base.Listed hs) lo hi ≤ sharp_of d xs test) (sym same)
    (less_both (is_met (v.before lo) (v.before hi)) (λ h. list_any test (block_words d h)) (has_hit (hit_docs hs)) v.index.heads
    (recursion_from_All (λ h. is_met (v.before lo) (v.before hi) h ≡ true → list_any test (block_words d h) ≡ true) v.index.heads held))

module _ (d : Division) (ds : List ℕ) where
  opened : (a : Atom) (x : Atom-F _ _ _ _ _) → out-Atom a ≡ x → sharp_of_atom d ds a ≡ sharp_open d ds (met_of_atom d a) x
  opened a x e = ap (sharp_open d ds (met_of_atom d a)) e

  of_prefix : (a : Atom) (p : List ℕ) → a ≡ Prefix p → sharp_of_atom d ds a ≡ sharp_of d ds (begins p)
  of_prefix a p is = opened a (Atom-F.Prefix p) (ap out-Atom (is ∙ sym (rolls-Prefix p)) ∙ out-roll-Atom (Atom-F.Prefix p))

  of_exact : (a : Atom) (w : List ℕ) → a ≡ Exact w → sharp_of_atom d ds a ≡ sharp_of d ds (λ x. bytes_eq x w)
  of_exact a w is = opened a (Atom-F.Exact w) (ap out-Atom (is ∙ sym (rolls-Exact w)) ∙ out-roll-Atom (Atom-F.Exact w))

  of_join : (a : Atom) (name : List ℕ) (inner : Query) → a ≡ Join name inner → sharp_of_atom d ds a ≡ met_of_atom d a
  of_join a name inner is = opened a (Atom-F.Join name inner) (ap out-Atom (is ∙ sym (rolls-Join name inner)) ∙ out-roll-Atom (Atom-F.Join name inner))

-- a join is read as without hits
pub join_sharp : (d : Division) (b : Base) (a : Atom) (name : List ℕ) (inner : Query) → a ≡ Join name inner → hit_of_atom d b a ≡ met_of_atom d a
join_sharp d base.All a name inner is = refl
join_sharp d (base.Listed hs) a name inner is = of_join d (hit_docs hs) a name inner is

-- ---- plain parts
module _ (v : SourceView) (is : IsSource v) where
  pub prefix_sharp : (a : Atom) (p bytes : List ℕ) (lo hi : ℕ) → a ≡ Prefix p → bytes ≡ p → IsRange v.words bytes lo hi
      → met_in v lo hi ≤ met_of_atom (division v.index) a → AreSharp v (λ b. hit_of_atom (division v.index) b a) lo hi
  prefix_sharp a p bytes lo hi a_is same range few base.All = (let all = all_reach v lo hi in omega (arith, all, few))
  prefix_sharp a p bytes lo hi a_is same range few (base.Listed hs) =
      subst (λ n. hit_met v (base.Listed hs) lo hi ≤ n) (sym (of_prefix (division v.index) (hit_docs hs) a bytes (a_is ∙ ap Prefix (sym same))))
      (sharp_met v (hit_docs hs) hs lo hi (begins bytes) refl (is.prefix_held bytes lo hi range))

  pub exact_sharp : (a : Atom) (w bytes : List ℕ) (lo hi : ℕ) → a ≡ Exact w → bytes ≡ w → IsRangeOf v.words (λ x. bytes_eq x bytes) lo hi
      → met_in v lo hi ≤ met_of_atom (division v.index) a → AreSharp v (λ b. hit_of_atom (division v.index) b a) lo hi
  exact_sharp a w bytes lo hi a_is same span few base.All = (let all = all_reach v lo hi in omega (arith, all, few))
  exact_sharp a w bytes lo hi a_is same span few (base.Listed hs) =
      subst (λ n. hit_met v (base.Listed hs) lo hi ≤ n) (sym (of_exact (division v.index) (hit_docs hs) a bytes (a_is ∙ ap Exact (sym same))))
      (sharp_met v (hit_docs hs) hs lo hi (λ x. bytes_eq x bytes) refl (is.word_held bytes lo hi span))

pub chain_sharp : (v : SourceView) (c : Chain) (o : Option (ℕ × ℕ))
    → IfSome o (λ w. AreSharp v (λ b. hit_of_atom (division v.index) b (out-Chain c).first) w.0 w.1)
    → IfSome o (λ w. AreSharp v (λ b. hit_of_chain (division v.index) b c) w.0 w.1)
chain_sharp v c None h = h
chain_sharp v c (Some w) h = λ b. (let l = h b in omega (arith, l))

-- ---- level by level
module _ (d : Division) where
  linked_all : (l : Linked) → hit_of_linked d base.All l ≡ met_of_linked d l
  linked_all l = sym (fold_out-Linked ℕ ℕ ℕ ℕ ℕ (atom_met d) chain_met linked_met part_met query_met l)

  chain_all : (c : Chain) → hit_of_chain d base.All c ≡ met_of_chain d c
  chain_all c =
      ap (λ ls. met_of_atom d (out-Chain c).first + sum ls)
      (map_alike (hit_of_linked d base.All) (met_of_linked d) (out-Chain c).rest (all_of _ linked_all (out-Chain c).rest))
      ∙ sym (fold_out-Chain ℕ ℕ ℕ ℕ ℕ (atom_met d) chain_met linked_met part_met query_met c)

  part_all : (p : Part) → hit_of_part d base.All p ≡ met_of_part d p
  part_all p = ap sum (map_alike (hit_of_chain d base.All) (met_of_chain d) (out-Part p).chains (all_of _ chain_all (out-Part p).chains)) ∙ sym (met_part-is d p)

pub divided : (v : SourceView) → IsSource v → IsDivided (division v.index)
divided v is = record { ascending = is.index.ascending; apart = heads_rise v.index is.index }

pub hits_less : (v : SourceView) → IsSource v → (b : Base) (p : Part) → hit_of_part (division v.index) b p ≤ met_of_part (division v.index) p
hits_less v is base.All p = (let all = part_all (division v.index) p in omega (arith, all))
hits_less v is (base.Listed hs) p = part_less (division v.index) (divided v is) (hit_docs hs) p

pub last_hits_less : (v : SourceView) → IsSource v → (b : Base) (o : Option Part) → hit_of_last (division v.index) b o ≤ met_of_last (division v.index) o
last_hits_less v is b None = omega arith
last_hits_less v is b (Some p) = hits_less v is b p

-- ---- facets
pub facet_sharp : (v : SourceView) → IsSource v → (b : Base) (name : List ℕ) (lo hi : ℕ) → IsRange v.words (named name []) lo hi
    → hit_met v b lo hi ≤ hit_of_facet (division v.index) b name
facet_sharp v is base.All name lo hi range = (let all = all_reach v lo hi in let met = is.prefix_met (named name []) lo hi range in omega (arith, all, met))
facet_sharp v is (base.Listed hs) name lo hi range = sharp_met v (hit_docs hs) hs lo hi (begins (named name [])) refl (is.prefix_held (named name []) lo hi range)

pub facets_hit_less : (v : SourceView) → IsSource v → (b : Base) (names : List (List ℕ)) → hit_of_facets (division v.index) b names ≤ met_of_facets (division v.index) names
facets_hit_less v is base.All names =
    let d = division v.index in
    let same = ap sum (map_alike (hit_of_facet d base.All) (λ n. met_prefix d (named n [])) names (all_of _ (λ n. refl) names)) in
    omega (arith, same)
facets_hit_less v is (base.Listed hs) names =
    let d = division v.index in
    let same = ap sum (map_alike (hit_of_facet d (base.Listed hs)) (λ n. sharp_of d (hit_docs hs) (begins (named n []))) names (all_of _ (λ n. refl) names)) in
    let less = facets_less d (divided v is) (hit_docs hs) names in
    omega (arith, same, less)

-- ---- links
chain_rows-is : (k : Corpus) (c : Chain) → rows_of_chain k c ≡ chained (rows_of_atom k (out-Chain c).first) (map (rows_of_linked k) (out-Chain c).rest)
chain_rows-is k c = fold_out-Chain (List Row) (List Row) LinkedRows PartRows (List PartRows) (atom_rows k) chain_rows linked_rows part_rows query_parts c

module _ (s : Stock) (t : ℕ → Bool) (c : Chain) (links : List Linked) where
  abbrev kl : Corpus
  kl = corpus_in s

  pub record LinkedInside (i : ℕ) (found : List Post) : Type 0 where
    pub rows : rows_where t (rows_of_chain kl c) ≡ chained (rows_at s.words found) (map (restricted t) (map (rows_of_linked kl) (drop i links)))
    pub picked : IsPicked s found

  pub inside_begins : links ≡ (out-Chain c).rest → (found : List Post) → HasRows s (rows_where t (rows_of_atom kl (out-Chain c).first)) found
      → LinkedInside 0 found
  inside_begins are found has = record {
    rows = ap (rows_where t) (chain_rows-is kl c)
        ∙ chains_within t (rows_of_atom kl (out-Chain c).first) (map (rows_of_linked kl) (out-Chain c).rest)
        ∙ ap (λ x. chained x (map (restricted t) (map (rows_of_linked kl) (out-Chain c).rest))) (sym has.is)
        ∙ ap (λ ls. chained (rows_at s.words found) (map (restricted t) (map (rows_of_linked kl) ls))) (sym are);
    picked = has.picked;
  }

  pub inside_goes_on : (i : ℕ) (x : Linked) → i < length links → x ≡ get_or links i x → (found next now : List Post) → LinkedInside i found
      → HasRows s (rows_where t (rows_of_atom kl (out-Linked x).atom)) next → now ≡ linked_posts (out-Linked x).link found next → LinkedInside (i + 1) now
  inside_goes_on i x l at found next now so_far more are =
      let f : Linked → LinkedRows = λ y. restricted t (rows_of_linked kl y) in
      let link = (out-Linked x).link in
      let last = linked s link found next now more.picked are in
      let here : f x ≡ record { link = link; rows = rows_at s.words next } = ap (restricted t) (linked_rows-is kl x)
      ∙ ap (λ (rows : List Row). let r : LinkedRows = record { link = link; rows = rows } in r) (sym more.is) in
      let rest : drop i links ≡ x ∷ drop (i + 1) links = drop-cons links i x l ∙ ap (λ n. get_or links i x ∷ drop n links) (sym (add-one i))
      ∙ ap (λ y. y ∷ drop (i + 1) links) (sym at) in record {
        rows = so_far.rows ∙ ap (λ xs. chained (rows_at s.words found) (map (restricted t) (map (rows_of_linked kl) xs))) rest
            ∙ ap (λ y. chained (linked_to' y) (map (restricted t) (map (rows_of_linked kl) (drop (i + 1) links)))) here
            ∙ ap (λ rows. chained rows (map (restricted t) (map (rows_of_linked kl) (drop (i + 1) links)))) (sym last.0);
        picked = last.1;
      }
    where
      linked_to' : LinkedRows → List Row
      linked_to' y = linked_to y.link (rows_at s.words found) y.rows

  pub inside_ends : (i : ℕ) (found : List Post) → length links ≤ i → LinkedInside i found → HasRows s (rows_where t (rows_of_chain kl c)) found
  inside_ends i found l so_far = record {
    is = sym (so_far.rows ∙ ap (λ ls. chained (rows_at s.words found) (map (restricted t) (map (rows_of_linked kl) ls))) (drop_all i links l));
    picked = so_far.picked;
  }

  pub inside_stops : (i : ℕ) (found : List Post) → length found ≡ 0 → LinkedInside i found → HasRows s (rows_where t (rows_of_chain kl c)) found
  inside_stops i found none so_far =
      let empty = no_rows found none in
      let rest = map (restricted t) (map (rows_of_linked kl) (drop i links)) in
      record {
        is = ap (rows_at s.words) empty ∙ sym (nothing_chained rest) ∙ ap (λ ps. chained (rows_at s.words ps) rest) (sym empty) ∙ sym so_far.rows;
        picked = so_far.picked;
      }

-- ---- alternatives
module _ (s : Stock) (t : ℕ → Bool) (chains : List Chain) where
  abbrev ks : Corpus
  ks = corpus_in s

  abbrev chain_in : Chain → List Row
  chain_in c = rows_where t (rows_of_chain ks c)

  -- one list for each of them
  pub record ListsInside (i : ℕ) (posts : List Post) : Type 0 where
    pub rows : rows_at s.words posts ≡ flat_map (λ rows. rows) (map chain_in (take i chains))
    pub among : All (Contains s.posts) posts

  pub lists_begin_inside : (posts : List Post) → posts ≡ [] → ListsInside 0 posts
  lists_begin_inside posts is = record { rows = ap (rows_at s.words) is; among = subst (All (Contains s.posts)) (sym is) (All-nil (Contains s.posts)) }

  pub lists_go_on_inside : (i : ℕ) (x : Chain) → i < length chains → x ≡ get_or chains i x → (posts next now : List Post) → ListsInside i posts
      → HasRows s (rows_where t (rows_of_chain ks x)) next → now ≡ posts ++ next → ListsInside (i + 1) now
  lists_go_on_inside i x l at posts next now so_far more is =
      let taken : map chain_in (take (i + 1) chains) ≡ map chain_in (take i chains) ++ chain_in x ∷ [] =
      ap (map chain_in) (take_more chains i x l) ∙ map-append chain_in (take i chains) (get_or chains i x ∷ [])
      ∙ ap (λ y. map chain_in (take i chains) ++ chain_in y ∷ []) (sym at) in
      record {
        rows = ap (rows_at s.words) is ∙ map-append (row_of s.words) posts next ∙ ap₂ (λ a b. a ++ b) so_far.rows (more.is ∙ sym (append-nil (chain_in x)))
            ∙ sym (flat_map-append (λ rows. rows) (map chain_in (take i chains)) (chain_in x ∷ [])) ∙ ap (flat_map (λ rows. rows)) (sym taken);
        among = subst (All (Contains s.posts)) (sym is) (All-append (Contains s.posts) posts next so_far.among more.picked.among);
      }

  each_inside : (cs : List Chain) → map chain_in cs ≡ map (rows_where t) (map (rows_of_chain ks) cs)
  each_inside [] = refl
  each_inside (c ∷ cs) = ap (λ l. chain_in c ∷ l) (each_inside cs)

  pub lists_end_inside : IsStocked s → (p : Part) → chains ≡ (out-Part p).chains → (i : ℕ) (posts found : List Post) → length chains ≤ i
      → ListsInside i posts → IsOrdered posts found → HasRows s (rows_where t (rows_of_part ks p).rows) found
  lists_end_inside stocked p are i posts found l so_far o =
      let among = of_members (Contains s.posts) posts found o.among so_far.among in
      record {
        is = members_are by_row by_row_total by_row_exact (rows_at s.words found) (flat_map (λ rows. rows) (map chain_in (take i chains)))
            (rows_rise s.words stocked.words found (picked_words s found stocked among) o.sorted)
            (λ q.
            any_through (row_of s.words) (eq_by_cmp by_row q) found
            ∙ o.alike s.posts stocked.sorted so_far.among (λ p. eq_by_cmp by_row q (row_of s.words p))
            ∙ sym (any_through (row_of s.words) (eq_by_cmp by_row q) posts)
            ∙ ap (list_any (eq_by_cmp by_row q)) so_far.rows)
            ∙ ap (λ cs. union_of (map chain_in cs)) (take_all i chains l ∙ are) ∙ ap union_of (each_inside (out-Part p).chains)
            ∙ sym (unions_within t (map (rows_of_chain ks) (out-Part p).chains)) ∙ ap (rows_where t) (sym (ap (λ (r : PartRows). r.rows) (part_rows-is ks p)));
        picked = record { sorted = o.sorted; among = among };
      }
