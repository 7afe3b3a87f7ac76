-- The image of documents and rows can be written, and where they keep the limits of a collection it is within those of files.
--
--   same_words       rows that are listed have the same words
--   rows_fewer       and there are at most as many of them
--   made_limits      the image is within the limits
use Rattle.std.proofs.Common.{◌≡◌, ℕ, ◌^◌, ◌<◌, ◌≤◌, Bool, true, ◌||◌, List, [], ◌∷◌, length, map, refl, sym, ap, subst, ◌∙◌, arith}
use Rattle.std.specs.List.{All, AllByRecursion, list_any, sum_by}
use Rattle.std.specs.Ordering.{nat_cmp, eq_by_cmp}
use Rattle.std.specs.Cmp.Lexicographic.{slice_cmp}
use Rattle.std.specs.FinMap.{contains_key}
use Rattle.std.specs.Str.{IsUtf8}
use Rattle.std.proofs.lemmas.Cmp.{nat_list_cmp_total}
use Rattle.std.proofs.lemmas.List.{length-map}
use Rattle.std.proofs.lemmas.List.Elements.{All-from_recursion, recursion_from_All, All-map}
use Rattle.std.proofs.lemmas.Map.Lookups.{exact_bytes}
use Rattle.cs_base.specs.content.Members.{members_in}
use Rattle.cs_base.specs.content.Orders.{by_row}
use Rattle.cs_base.specs.declared.content.doc.Doc.{Doc}
use Rattle.cs_base.specs.declared.content.doc.Row.{Row}
use Rattle.cs_base.specs.declared.content.limits.TheConstants.{MAX_DOCS, MAX_LINE_BYTES, MAX_ROWS, MAX_WORDS}
use Rattle.cs_base.specs.declared.content.scores.Weights.{Weights}
use Rattle.cs_base.proofs.MembersLemmas.{members-alike}
use Rattle.cs_base.proofs.OrdersLemmas.{by_row_total, by_row_exact}
use Rattle.cs_docs.proofs.TextLemmas.{All-members}
use Rattle.cs_model.specs.Corpus.{Corpus, distinct_words, title_of}
use Rattle.cs_model.specs.Weights.{AreWeights}
use Rattle.cs_model_index.specs.BlockRules.{is_scored}
use Rattle.cs_model_index.specs.FileLaws.{HasLimits}
use Rattle.cs_model_index.specs.FileRules.{is_word}
use Rattle.cs_model_index.specs.Images.{Image, image_posts}
use Rattle.cs_model_index.specs.Layout.{title_bytes}
use Rattle.cs_model_index.specs.Numbered.{post_of, word_at}
use Rattle.cs_model_index.specs.Partitions.{is_facet}
use Rattle.cs_model_index.proofs.CorpusSizes.{words_are, posts_few, posts_from, title_there}
use Rattle.cs_model_index.proofs.ImageLemmas.{one_list}
use Rattle.cs_model_index.proofs.Listings.{any_listed, listed_few}
use Rattle.cs_model_index.proofs.NumberedLemmas.{word_of_number}
use Rattle.cs_build.specs.Building.{corpus_from, KeepLimits}
use Rattle.cs_build.specs.BuildLaws.{Made, ImagesHaveLimits}

-- ---- rows
any_map : (p : List ℕ → Bool) (rows : List Row) → list_any p (map (λ r. r.word) rows) ≡ list_any (λ r. p r.word) rows
any_map p [] = refl
any_map p (r ∷ rows) = ap (λ b. p r.word || b) (any_map p rows)

pub same_words : (rows : List Row) → distinct_words (members_in by_row rows) ≡ distinct_words rows
same_words rows =
    members-alike (slice_cmp nat_cmp) nat_list_cmp_total exact_bytes (map (λ r. r.word) (members_in by_row rows)) (map (λ r. r.word) rows)
    (λ q. any_map (eq_by_cmp (slice_cmp nat_cmp) q) (members_in by_row rows) ∙ any_listed by_row by_row_total by_row_exact (λ r. eq_by_cmp (slice_cmp nat_cmp) q r.word) rows ∙ sym (any_map (eq_by_cmp (slice_cmp nat_cmp) q) rows))

pub rows_fewer : (rows : List Row) → length (members_in by_row rows) ≤ length rows
rows_fewer rows = listed_few by_row by_row_total by_row_exact rows

-- ---- the image
module _ (docs : List Doc) (rows : List Row) (target : ℕ) (w : Weights) (i : Image) (h : Made docs rows target w i) where
  abbrev from : Corpus
  from = corpus_from docs rows

  titles : i.titles ≡ map title_of docs
  titles = one_list i.titles (map title_of docs) h.image.titles

  words : i.words ≡ distinct_words rows
  words = words_are from target w i h.corpus h.image ∙ same_words rows

  aim : i.target ≡ target
  aim = ap (λ (j : Image). j.target) h.image.made

  scores : i.weights ≡ w
  scores = ap (λ (j : Image). j.weights) h.image.made

  docs_few : length i.titles ≤ MAX_DOCS
  docs_few = omega (arith, ap length titles, length-map docs title_of, h.few_docs)

  words_few : length i.words ≤ MAX_WORDS
  words_few = omega (arith, ap length words, h.few_words)

  rows_few : sum_by (λ block. length block) i.blocks ≤ MAX_ROWS
  rows_few = omega (arith, posts_few from target w i h.corpus h.image, rows_fewer rows, h.few_rows)

  bytes_few : length (title_bytes (map title_of docs)) < 2 ^ 32 → length (title_bytes i.titles) < 2 ^ 32
  bytes_few few = subst (λ ts. length (title_bytes ts) < 2 ^ 32) (sym titles) few

  all_words : (P : List ℕ → Type 0) → All (λ r. P r.word) rows → All P i.words
  all_words P all = subst (All P) (sym words) (All-members (slice_cmp nat_cmp) nat_list_cmp_total exact_bytes P (map (λ r. r.word) rows) (All-map P (λ r. r.word) rows all))

  known : AllByRecursion (λ p. p.doc < length i.titles) (image_posts i)
  known =
      posts_from from target w i h.corpus h.image (λ r. contains_key from.titles r.doc ≡ true) (λ p. p.doc < length i.titles)
      (λ r v e. title_there i.titles r.doc (ap (λ ts. contains_key ts r.doc) h.image.titles ∙ e))
      (recursion_from_All (λ r. contains_key from.titles r.doc ≡ true) (members_in by_row rows) h.corpus.of_docs)

  scored : All (λ r. is_scored w (is_facet r.word) (post_of [] r) ≡ true) rows → AllByRecursion (λ p. is_scored w (is_facet (word_at i.words p.word)) p ≡ true) (image_posts i)
  scored all =
      posts_from from target w i h.corpus h.image (λ r. is_scored w (is_facet r.word) (post_of [] r) ≡ true) (λ p. is_scored w (is_facet (word_at i.words p.word)) p ≡ true)
      (λ r known e. ap (λ v. is_scored w (is_facet v) (post_of i.words r)) (word_of_number i.words r.word known) ∙ e)
      (recursion_from_All (λ r. is_scored w (is_facet r.word) (post_of [] r) ≡ true) (members_in by_row rows) (All-members by_row by_row_total by_row_exact (λ r. is_scored w (is_facet r.word) (post_of [] r) ≡ true) rows all))

  within : KeepLimits w (map title_of docs) rows → HasLimits i
  within keep = record {
    few_docs = docs_few;
    texts = subst (All IsUtf8) (sym titles) keep.texts;
    short = subst (All (λ t. length t ≤ MAX_LINE_BYTES)) (sym titles) keep.short;
    few_bytes = bytes_few keep.few_bytes;
    few_words = words_few;
    words = all_words (λ v. is_word v ≡ true) keep.words;
    few_rows = rows_few;
    known = All-from_recursion (λ p. p.doc < length i.titles) (image_posts i) known;
    scored = subst (λ x. All (λ p. is_scored x (is_facet (word_at i.words p.word)) p ≡ true) (image_posts i)) (sym scores)
        (All-from_recursion (λ p. is_scored w (is_facet (word_at i.words p.word)) p ≡ true) (image_posts i) (scored keep.scored));
    weights = subst AreWeights (sym scores) keep.weights;
    target_from = omega (arith, aim, h.target_from);
    target_to = omega (arith, aim, h.target_to);
  }

pub made_limits : ImagesHaveLimits
made_limits docs rows target w i h keep = within docs rows target w i h keep
