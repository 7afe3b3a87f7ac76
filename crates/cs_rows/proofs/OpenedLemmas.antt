-- An opened index is a source.
--
--   opened_told      over the bytes of the index
--   opened_source    an index is a source
--   opened_title     a title
use Rattle.std.proofs.Common.{◌≡◌, ℕ, ◌<◌, Bool, ◌&&◌, true, List, [], length, get_or, sym, ap, subst, ◌∙◌, refl}
use Rattle.std.proofs.Common.{append-nil}
use Rattle.std.specs.Prelude.{All, filter}
use Rattle.std.specs.List.{list_any, range_with_len}
use Rattle.std.specs.Str.{IsUtf8, bytes_eq, is_utf8}
use Rattle.std.proofs.lemmas.Bool.{and_parts}
use Rattle.std.proofs.lemmas.Str.{IsUtf8-from_is_utf8}
use Rattle.std.proofs.lemmas.List.{length-replicate}
use Rattle.std.proofs.lemmas.List.Elements.{All-nil}
use Rattle.std.proofs.lemmas.List.Kept.{IsStrictlySortedBy-filter}
use Rattle.cs_base.specs.content.Orders.{by_place}
use Rattle.cs_base.specs.declared.content.doc.Post.{Post}
use Rattle.cs_base.proofs.MembersLemmas.{any_listed}
use Rattle.cs_file.specs.Indexes.{IndexView, IsIndex, StandsFor, title_in}
use Rattle.cs_file.proofs.PostsLemmas.{posts_between}
use Rattle.cs_file.proofs.StoodLemmas.{stood_count}
use Rattle.cs_model_index.specs.Images.{image_posts}
use Rattle.cs_model_index.specs.Sections.{image_of}
use Rattle.cs_tables.specs.WordCounts.{AreCountable}
use Rattle.cs_model.specs.Answers.{begins}
use Rattle.cs_rows.specs.Counting.{counted_rows}
use Rattle.cs_rows.specs.IndexReading.{by_post, stock_of}
use Rattle.cs_rows.specs.Sources.{IsIn, IsSource, IsTold, source_of}
use Rattle.cs_rows.specs.Stocked.{title_at}
use Rattle.cs_rows.proofs.AlikeLemmas.{any_filter}
use Rattle.cs_rows.proofs.AskedWords.{met_holds, prefix_met, word_met}
use Rattle.cs_rows.proofs.BoundedBlocks.{blocks_bounded}
use Rattle.cs_rows.proofs.CountingLemmas.{countable, whole_apart}
use Rattle.cs_rows.proofs.DistinctLemmas.{long_alike}
use Rattle.cs_rows.proofs.ListedLemmas.{keys_numbered}
use Rattle.cs_rows.proofs.PresentLemmas.{present_all}
use Rattle.cs_rows.proofs.ReplyLemmas.{titled}
use Rattle.cs_rows.proofs.StockLemmas.{by_post_exact, by_post_total, docs_are, stocked, words_are}

index_texts : (i : IndexView) → IsIndex i → All IsUtf8 i.words
index_texts i is = λ k d l. IsUtf8-from_is_utf8 (get_or i.words k d) (and_parts (is_utf8 (get_or i.words k d)) _ (is.words k d l)).0

module _ (i : IndexView) (is : IsIndex i) where
  module _ (b : List ℕ) (stands : StandsFor b i) where
    abbrev flat : List Post
    flat = image_posts (image_of b)

    flat_alike : (t : Post → Bool) → list_any t flat ≡ list_any t (stock_of b).posts
    flat_alike t = sym (any_listed by_post by_post_total by_post_exact t flat)

    flat_long : (t : Post → Bool) → length (filter t flat) ≡ length (filter t (stock_of b).posts)
    flat_long t =
        let posts = (stock_of b).posts in
        long_alike (filter t flat) (filter t posts) (whole_apart b i stands is t)
        (IsStrictlySortedBy-filter by_place t posts (stocked b i stands is).sorted)
        (λ u. any_filter u t flat ∙ flat_alike (λ x. t x && u x) ∙ sym (any_filter u t posts))

    pub opened_told : IsTold (source_of i) b
    opened_told = record {
      bytes = refl;
      stocked = stocked b i stands is;
      docs = present_all i.docs ∙ ap (range_with_len 0) (docs_are b i stands is) ∙ sym (keys_numbered (image_of b).titles);
      words = words_are b i stands is;
      count = stood_count b i stands;
      lie = λ k h lt. blocks_bounded b i stands k h lt;
      alike = λ t. ap (list_any t) (append-nil flat) ∙ flat_alike t;
      long = λ t. ap (λ ps. length (filter t ps)) (append-nil flat) ∙ flat_long t;
      run = λ lo hi first last met. posts_between b i stands is lo hi first last met;
      countable = λ first last lo hi listed up within.
          subst AreCountable (sym (append-nil (counted_rows (image_of b).blocks first last lo hi listed)))
          (countable b i stands is first last lo hi listed up within);
    }

  pub opened_source : IsSource (source_of i)
  opened_source = record {
    index = is;
    few_docs = is.few_docs;
    long = length-replicate i.docs true;
    few_words = is.few_words;
    ascending = is.ascending;
    texts = index_texts i is;
    held = All-nil (IsIn (source_of i));
    prefix_met = λ p lo hi range. prefix_met i is p lo hi range;
    word_met = λ w lo hi span short none. word_met i is w lo hi short none;
    prefix_held = λ p lo hi range. met_holds i is (begins p) lo hi range.holds range.within;
    word_held = λ w lo hi span. met_holds i is (λ x. bytes_eq x w) lo hi span.holds span.within;
    told = opened_told;
  }

-- the title that is read of the bytes is that of the stock
pub opened_title : (i : IndexView) → IsIndex i → (b : List ℕ) → StandsFor b i → (d : ℕ) → d < i.docs → title_in b d ≡ title_at (stock_of b).titles d
opened_title i is b stands d l = sym (titled (image_of b).titles d [] (subst (λ n. d < n) (docs_are b i stands is) l))
