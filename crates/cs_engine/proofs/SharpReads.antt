-- What is read over a store that stood, by the hits of the corpus.
--
--   by_hits          the blocks of the last part, by the hits of the parts before it
--   each_reached     each block of an index has a document
--   reads_sharp      what is read of an opened index
use Rattle.std.proofs.Common.{◌≡◌, ℕ, ◌+◌, ◌-◌, ◌<◌, ◌≤◌, ◌==◌, ◌&&◌, ◌||◌, Bool, true, false, true≢false, List, [], ◌∷◌, Option, Some, None, length, get_or, map, take, refl, sym, ap, subst, ◌∙◌, arith, length-take, replicate}
use Rattle.std.specs.Prelude.{filter, sum}
use Rattle.std.specs.FinMap.{keys}
use Rattle.std.specs.List.{list_any}
use Rattle.std.proofs.lemmas.Bool.{eqb-true, or_left, or_right}
use Rattle.std.proofs.lemmas.List.{get_or-replicate, length-map, take-map}
use Rattle.std.proofs.lemmas.List.Elements.{recursion_from_All}
use Rattle.cs_base.specs.declared.content.doc.Base.{Base}
use Rattle.cs_base.specs.declared.content.doc.Base.TheVariants as base
use Rattle.cs_base.specs.declared.content.doc.Post.{Post}
use Rattle.cs_base.specs.declared.content.query.Part.{Part}
use Rattle.cs_base.specs.declared.content.query.Query.{Query, out-Query}
use Rattle.cs_base.specs.declared.index.block.BlockHead.{BlockHead}
use Rattle.cs_base.specs.declared.index.plan.Plan.{Plan}
use Rattle.cs_base.specs.outside.Causes.{ReadsWithin}
use Rattle.cs_base.proofs.ListsLemmas.{all_of, all_stay, and_true, filter_alike, map_alike}
use Rattle.cs_file.specs.Indexes.{IndexView, IsIndex, StandsFor, block_posts}
use Rattle.cs_file.proofs.HeadsLemmas.{head_filled, head_shaped}
use Rattle.cs_file.proofs.PostsLemmas.{block_docs}
use Rattle.cs_file.proofs.StoodLemmas.{stood_block}
use Rattle.cs_model.specs.Answers.{PartRows, begins, hits, is_listed, parts_of, rows_of_part, scored}
use Rattle.cs_model.specs.Collection.{named}
use Rattle.cs_model.specs.Corpus.{Corpus}
use Rattle.cs_model.specs.Requests.{Request}
use Rattle.cs_model_kept.specs.Due.{Division, block_words}
use Rattle.cs_model_kept.specs.Entries.{base_of, scored_hits}
use Rattle.cs_model_kept.specs.KeptListLaws.{before_last}
use Rattle.cs_model_kept.specs.Sharp.{has_hit, hits_before, lies_in, sharp, sharp_by, sharp_of, sharp_of_facets, sharp_of_last}
use Rattle.cs_model_kept.proofs.EntryLemmas.{parts_read}
use Rattle.cs_model_index.specs.Sections.{file_corpus}
use Rattle.cs_rows.specs.IndexReading.{division, stock_of}
use Rattle.cs_rows.specs.Skipping.{hit_docs, hit_of_facet, hit_of_facets, hit_of_last, hit_reads}
use Rattle.cs_rows.specs.Stocked.{corpus_in, present_docs}
use Rattle.cs_rows.proofs.BoundedBlocks.{blocks_bounded}
use Rattle.cs_rows.proofs.HitsLemmas.{own_docs}
use Rattle.cs_engine.proofs.PlansLemmas.{first_parts}
use Rattle.cs_rows.proofs.OpenedLemmas.{opened_told}
use Rattle.cs_rows.proofs.PresentLemmas.{is_present}
use Rattle.cs_rows.proofs.StockLemmas.{stock_corpus}
use Rattle.cs_rows.proofs.WalkLemmas.{within_more}

-- ---- the last part
listed_last : (d : Division) (k : Corpus) (ps : List PartRows) (o : Option Part) → 1 ≤ length ps → hit_of_last d (base_of k ps) o ≤ sharp_of_last d (hits k ps) o
listed_last d k [] o some = absurd (omega (arith, some))
listed_last d k (p ∷ ps) None some = omega arith
listed_last d k (p ∷ ps) (Some x) some =
    let docs : hit_docs (scored_hits k (p ∷ ps)) ≡ hits k (p ∷ ps) = own_docs (scored (p ∷ ps)) (λ n. refl) (hits k (p ∷ ps)) in
    let same = ap (λ ds. sharp_of_last d ds (Some x)) docs in
    omega (arith, same)

pub by_hits : (d : Division) (k : Corpus) (q : Query) (b : Base) (o : Option Part) → 1 < length (out-Query q).parts → b ≡ base_of k (parts_of k (before_last q))
    → hit_of_last d b o ≤ sharp_of_last d (hits_before k (parts_of k q)) o
by_hits d k q b o several are =
    let ps = (out-Query q).parts in
    let n = length ps - 1 in
    let f : Part → PartRows = rows_of_part k in
    let done = map f (take n ps) in
    let first : parts_of k (before_last q) ≡ done = parts_read k (before_last q) ∙ ap (map f) (sym (first_parts q (take n ps) refl)) in
    let all = parts_read k q in
    let whole : take (length (parts_of k q) - 1) (parts_of k q) ≡ done = ap (λ (xs : List PartRows). take (length xs - 1) xs) all
    ∙ ap (λ m. take (m - 1) (map f ps)) (length-map ps f) ∙ take-map f n ps in
    let long : length done ≡ n = length-map (take n ps) f ∙ (let l = length-take n ps in omega (arith, l)) in
    let less = listed_last d k done o (omega (arith, long, several)) in
    let left = ap (λ (x : Base). hit_of_last d x o) (are ∙ ap (base_of k) first) in
    let right = ap (λ xs. sharp_of_last d (hits k xs) o) whole in
    omega (arith, less, left, right)

-- ---- facets
any_listed : (h : BlockHead) (ds : List ℕ) (d : ℕ) → is_listed ds d ≡ true → lies_in h d ≡ true → list_any (lies_in h) ds ≡ true
any_listed h [] d there lies = absurd (true≢false (sym there))
any_listed h (e ∷ ds) d there lies = elim (e == d) as (λ b. e == d ≡ b → (b || is_listed ds d) ≡ true → (lies_in h e || list_any (lies_in h) ds) ≡ true) [
  | true ↦ λ same rest. or_left _ _ (ap (lies_in h) (eqb-true e d same) ∙ lies)
  | false ↦ λ other rest. or_right (lies_in h e) _ (any_listed h ds d rest lies)
] refl there

module _ (b : List ℕ) (i : IndexView) (stands : StandsFor b i) (is : IsIndex i) where
  abbrev k : Corpus
  k = corpus_in (stock_of b)

  all_docs : hits k [] ≡ present_docs (replicate i.docs true)
  all_docs = all_stay (keys k.titles) ∙ sym (opened_told i is b stands).docs

  each_there : (d : ℕ) → d < i.docs → is_listed (hits k []) d ≡ true
  each_there d lt = ap (λ ds. is_listed ds d) all_docs ∙ is_present (replicate i.docs true) d ∙ get_or-replicate i.docs d true false lt

  -- each block has a document
  each_reached : (j : ℕ) (h : BlockHead) → j < length i.heads → has_hit (hits k []) (get_or i.heads j h) ≡ true
  unfolding has_hit
  each_reached j h lt =
      let head = get_or i.heads j h in
      let block = stood_block b i stands is j h lt in
      let posts = block_posts b j in
      let none : Post = record { doc = 0; word = 0; pos = 0; score = 0 } in
      let filled = head_filled i is j h lt in
      let shaped = (head_shaped i is j h lt).rows in
      let count = block.count in
      let some : 0 < length posts = omega (arith, filled, shaped, count) in
      let p = get_or posts 0 none in
      let lies = blocks_bounded b i stands j h lt 0 none some in
      let doc = block_docs head i.docs posts _ block 0 none some in
      any_listed head (hits k []) p.doc (each_there p.doc doc) lies

  all_met : (test : List ℕ → Bool) → sharp_of (division i) (hits k []) test ≡ length (filter (λ h. list_any test (block_words (division i) h)) i.heads)
  all_met test =
      let has : BlockHead → Bool = λ h. list_any test (block_words (division i) h) in
      ap length (filter_alike (λ h. has h && has_hit (hits k []) h) has i.heads
      (recursion_from_All (λ h. (has h && has_hit (hits k []) h) ≡ has h) i.heads
      (λ j h lt. ap (λ c. has (get_or i.heads j h) && c) (each_reached j h lt) ∙ and_true (has (get_or i.heads j h)))))

  facets_sharp : (ps : List PartRows) (names : List (List ℕ)) → hit_of_facets (division i) (base_of k ps) names ≡ sharp_of_facets (division i) (hits k ps) names
  facets_sharp [] names = ap sum (map_alike (hit_of_facet (division i) base.All) (λ n. sharp_of (division i) (hits k []) (begins (named n []))) names
      (all_of _ (λ n. sym (all_met (begins (named n [])))) names))
  facets_sharp (p ∷ ps) names =
      let docs : hit_docs (scored_hits k (p ∷ ps)) ≡ hits k (p ∷ ps) = own_docs (scored (p ∷ ps)) (λ n. refl) (hits k (p ∷ ps)) in
      ap sum (map_alike (hit_of_facet (division i) (base_of k (p ∷ ps))) (λ n. sharp_of (division i) (hits k (p ∷ ps)) (begins (named n []))) names
      (all_of _ (λ n. ap (λ ds. sharp_of (division i) ds (begins (named n []))) docs) names))

  -- ---- all that is read
  pub reads_sharp : (r : Request) (plan : Plan) (titles : ℕ) {before now : ℕ}
      → ReadsWithin (hit_reads (division i) k r plan titles) before now → ReadsWithin (sharp (division i) (file_corpus b) r plan titles) before now
  unfolding sharp
  reads_sharp r plan titles {before} {now} few =
      let facets = facets_sharp (parts_of k r.query) r.facets in
      subst (λ c. ReadsWithin (titles + sharp_of_facets (division i) (hits c (parts_of c r.query)) r.facets + sharp_by (division i) c r.query plan) before now)
      (stock_corpus b i stands is) (within_more few (omega (arith, facets)))
