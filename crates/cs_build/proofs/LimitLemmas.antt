-- The image of a collection's rows keeps the limits of index files.
--
--   on_ok         what holds of a result by three facts
--   doc_inside    a document that has a title
--   has_limits    the image
use Rattle.std.proofs.Common.{◌≡◌, ℕ, ◌+◌, ◌<◌, ◌≤◌, ◌^◌, true, false, true≢false, cond, List, [], ◌∷◌, ◌++◌, length, map, refl, sym, ◌∙◌, ap, subst, arith}
use Rattle.std.specs.Prelude.{Some, Result, Ok, Err, IfOk, OnOk, filter, flat_map}
use Rattle.std.specs.List.{All, AllByRecursion, list_any, enumerate_from}
use Rattle.std.specs.List.Sorted.{IsStrictlySortedBy}
use Rattle.std.specs.Option.{is_some}
use Rattle.std.specs.Ordering.{nat_cmp, eq_by_cmp}
use Rattle.std.specs.Cmp.Lexicographic.{slice_cmp}
use Rattle.std.specs.FinMap.{find, contains_key, get-from_entries}
use Rattle.std.specs.Str.{IsUtf8, bytes_eq}
use Rattle.std.proofs.lemmas.Bool.Decides.{nat_tests}
use Rattle.std.proofs.lemmas.Cmp.{nat_cmp_total, nat_list_cmp_total}
use Rattle.std.proofs.lemmas.List.Elements.{All-from_recursion, recursion_from_All, All-map}
use Rattle.std.proofs.lemmas.Map.Lookups.{exact_bytes}
use Rattle.cs_base.specs.content.Orders.{by_spot}
use Rattle.cs_base.specs.declared.content.doc.Post.{Post}
use Rattle.cs_base.specs.declared.content.doc.Row.{Row}
use Rattle.cs_base.specs.declared.content.limits.TheConstants.{MAX_DOCS, MAX_ROWS, MAX_WORDS, MAX_LINE_BYTES}
use Rattle.cs_base.specs.declared.content.scores.Weights.{Weights}
use Rattle.cs_base.proofs.MembersLemmas.{listing-rises}
use Rattle.cs_docs.proofs.TextLemmas.{All-members}
use Rattle.cs_model.specs.Corpus.{by_number, distinct_words}
use Rattle.cs_model.specs.Weights.{AreWeights}
use Rattle.cs_model_index.specs.BlockRules.{is_scored}
use Rattle.cs_model_index.specs.FileLaws.{HasLimits}
use Rattle.cs_model_index.specs.FileRules.{is_word}
use Rattle.cs_model_index.specs.Images.{Image, IsImage, block_of}
use Rattle.cs_model_index.specs.Layout.{title_bytes}
use Rattle.cs_model_index.specs.Numbered.{word_at, post_of, numbered, HasWord}
use Rattle.cs_model_index.specs.Partitions.{is_facet}
use Rattle.cs_model_index.specs.declared.limits.TheConstants.{MAX_TARGET}
use Rattle.cs_model_index.proofs.CorpusLemmas.{known_words}
use Rattle.cs_model_index.proofs.NumberedLemmas.{word_of_number}
use Rattle.cs_build.specs.Building.{corpus_of_rows}
use Rattle.cs_build.proofs.WritableLemmas.{rows_total}

pub on_ok : {T E : Type 0} (r : Result T E) (P Q : T → Type 0) (W : Type 0) (R : T → Type 0) → ((x : T) → P x → Q x → W → R x) → IfOk r P → IfOk r Q → OnOk r W → IfOk r R
on_ok (Ok x) P Q W R f p q w = f x p q w
on_ok (Err e) P Q W R f p q w = tt

found_below : (d n : ℕ) (ts : List (List ℕ)) → is_some (find nat_cmp d (enumerate_from n ts)) ≡ true → d < n + length ts
found_below d n [] h = absurd (true≢false (sym h))
found_below d n (t ∷ ts) h =
    elim (eq_by_cmp nat_cmp d n) as (λ b. eq_by_cmp nat_cmp d n ≡ b → is_some (cond b (Some t) (find nat_cmp d (enumerate_from (n + 1) ts))) ≡ true → d < n + length (t ∷ ts)) [
      | true ↦ λ e k. same d n e
      | false ↦ λ e k. let rest = found_below d (n + 1) ts k in omega (arith, rest)
    ] refl h
  where
    same : (d n : ℕ) → eq_by_cmp nat_cmp d n ≡ true → d < n + length (t ∷ ts)
    same d n e = let is : d ≡ n = grind (arith, nat_tests) in omega (arith, is)

pub doc_inside : (titles : List (List ℕ)) (d : ℕ) → contains_key (by_number titles) d ≡ true → d < length titles
doc_inside titles d h =
    let below : d < 0 + length titles = found_below d 0 titles (sym (ap is_some (get-from_entries nat_cmp_total (enumerate_from 0 titles) d)) ∙ h) in
    omega (arith, below)

module _ (ws : List (List ℕ)) (P : Post → Type 0) where
  block_keeps : (part : List (List ℕ)) (rows : List Row) → AllByRecursion (λ r. P (post_of ws r)) rows → AllByRecursion P (block_of ws rows part)
  block_keeps part [] h = tt
  block_keeps part (r ∷ rows) h = elim (list_any (bytes_eq r.word) part) as (λ b. AllByRecursion P (numbered ws (cond b (r ∷ filter (λ s. list_any (bytes_eq s.word) part) rows) (filter (λ s. list_any (bytes_eq s.word) part) rows)))) [
    | true ↦ (h.0, block_keeps part rows h.1)
    | false ↦ block_keeps part rows h.1
  ]

  both : (xs ys : List Post) → AllByRecursion P xs → AllByRecursion P ys → AllByRecursion P (xs ++ ys)
  both [] ys h k = k
  both (x ∷ xs) ys h k = (h.0, both xs ys h.1 k)

  pub blocks_keep : (parts : List (List (List ℕ))) (rows : List Row) → AllByRecursion (λ r. P (post_of ws r)) rows → AllByRecursion P (flat_map (λ block. block) (map (block_of ws rows) parts))
  blocks_keep [] rows h = tt
  blocks_keep (part ∷ parts) rows h = both (block_of ws rows part) (flat_map (λ block. block) (map (block_of ws rows) parts)) (block_keeps part rows h) (blocks_keep parts rows h)

scored_posts : (w : Weights) (ws : List (List ℕ)) (rows : List Row) → AllByRecursion (HasWord ws) rows → AllByRecursion (λ r. is_scored w (is_facet r.word) (post_of [] r) ≡ true) rows → AllByRecursion (λ r. is_scored w (is_facet (word_at ws (post_of ws r).word)) (post_of ws r) ≡ true) rows
scored_posts w ws [] k h = tt
scored_posts w ws (r ∷ rows) k h = (ap (λ v. is_scored w (is_facet v) (post_of [] r)) (word_of_number ws r.word k.0) ∙ h.0, scored_posts w ws rows k.1 h.1)

docs_inside : (titles : List (List ℕ)) (rows : List Row) → AllByRecursion (λ r. contains_key (by_number titles) r.doc ≡ true) rows → AllByRecursion (λ r. r.doc < length titles) rows
docs_inside titles [] h = tt
docs_inside titles (r ∷ rows) h = (doc_inside titles r.doc h.0, docs_inside titles rows h.1)

pub has_limits : (titles : List (List ℕ)) (rows : List Row) (target : ℕ) (w : Weights) (i : Image) → IsStrictlySortedBy by_spot rows → length rows ≤ MAX_ROWS → length titles ≤ MAX_DOCS → i.titles ≡ titles → length (distinct_words rows) ≤ MAX_WORDS → 1 ≤ target → target ≤ MAX_TARGET
    → AreWeights w → All IsUtf8 titles → All (λ t. length t ≤ MAX_LINE_BYTES) titles → length (title_bytes titles) < 2 ^ 32 → All (λ r. is_word r.word ≡ true) rows → All (λ r. is_scored w (is_facet r.word) (post_of [] r) ≡ true) rows → All (λ r. contains_key (by_number titles) r.doc ≡ true) rows
    → IsImage (corpus_of_rows titles rows) target w i → HasLimits i
has_limits titles rows target w i spots few_rows few_docs same few_words from to weights texts short few_bytes words scored docs is =
    let parts = is.runs in
    let ws : List (List ℕ) = flat_map (λ part. part) parts in
    let joined : ws ≡ distinct_words rows = is.parted.joined in
    let up : IsStrictlySortedBy (slice_cmp nat_cmp) ws = subst (IsStrictlySortedBy (slice_cmp nat_cmp)) (sym joined) (listing-rises (slice_cmp nat_cmp) (map (λ r. r.word) rows)) in
    let known : AllByRecursion (HasWord ws) rows = subst (λ x. AllByRecursion (HasWord x) rows) (sym joined) (known_words rows) in
    let blocks : List (List Post) = map (block_of ws rows) parts in
    let posts : List Post = flat_map (λ block. block) blocks in
    subst HasLimits (sym is.made) (record {
      few_docs = omega (arith, ap length same, few_docs);
      texts = subst (All IsUtf8) (sym same) texts;
      short = subst (All (λ t. length t ≤ MAX_LINE_BYTES)) (sym same) short;
      few_bytes = subst (λ ts. length (title_bytes ts) < 2 ^ 32) (sym same) few_bytes;
      few_words = omega (arith, ap length joined, few_words);
      words = subst (All (λ v. is_word v ≡ true)) (sym joined) (All-members (slice_cmp nat_cmp) nat_list_cmp_total exact_bytes (λ v. is_word v ≡ true) (map (λ r. r.word) rows) (All-map (λ v. is_word v ≡ true) (λ r. r.word) rows words));
      few_rows = omega (arith, rows_total ws up rows known spots parts refl, few_rows);
      known = subst (λ ts. All (λ p. p.doc < length ts) posts) (sym same) (All-from_recursion (λ p. p.doc < length titles) posts (blocks_keep ws (λ p. p.doc < length titles) parts rows (docs_inside titles rows (recursion_from_All (λ r. contains_key (by_number titles) r.doc ≡ true) rows docs))));
      scored = All-from_recursion (λ p. is_scored w (is_facet (word_at ws p.word)) p ≡ true) posts (blocks_keep ws (λ p. is_scored w (is_facet (word_at ws p.word)) p ≡ true) parts rows (scored_posts w ws rows known (recursion_from_All (λ r. is_scored w (is_facet r.word) (post_of [] r) ≡ true) rows scored)));
      weights = weights;
      target_from = from;
      target_to = to;
    })
