-- What the posts are that are sought in a block.
--
--   passed             each of them passes the test
--   sought_ranged      they are in range
--   sought_stood       over bytes that stand for the index they are those of the block's posts that pass
--   decoded_sought, decoded_known      those of a block that was decoded, and its documents
use Rattle.std.proofs.Common.{◌≡◌, ℕ, ◌<◌, ◌≤◌, ◌&&◌, Bool, true, false, true≢false, List, length, get_or, Option, Some, sym, ap, subst, ◌∙◌, arith, inl, inr}
use Rattle.std.specs.Prelude.{All, filter, nat_le, nat_lt}
use Rattle.std.proofs.lemmas.Bool.{and_parts, cases_lt, ltb-true}
use Rattle.std.proofs.lemmas.List.{get_or_past}
use Rattle.std.proofs.lemmas.List.Elements.{All-filter, filter_passes}
use Rattle.cs_base.specs.declared.index.block.BlockHead.{BlockHead}
use Rattle.cs_base.specs.declared.content.doc.Post.{Post}
use Rattle.cs_base.specs.declared.content.scores.Weights.{Weights}
use Rattle.cs_block.specs.Sought.{HasSought, is_sought}
use Rattle.cs_model_index.specs.BlockRules.{IsBlock, is_scored, rows_read}
use Rattle.cs_file.specs.CallAnswers.{IsRanged}
use Rattle.cs_file.specs.Fetching.{CanBeJudged}
use Rattle.cs_file.specs.declared.fetching.PlacedBlock.{PlacedBlock}
use Rattle.cs_file.specs.Indexes.{IndexView, StandsFor, block_posts}
use Rattle.cs_file.proofs.FetchLemmas.{BlockRead, read_there}
use Rattle.cs_file.proofs.PostsLemmas.{block_docs, block_scored}
use Rattle.cs_file.proofs.HeaderWeightsLemmas.{one_reading}

-- what is listed is one of the list
listed_within : (listed : List Bool) (d : ℕ) → get_or listed d false ≡ true → d < length listed
listed_within listed d h = elim (cases_lt d (length listed)) [
  | inl lt ↦ lt
  | inr le ↦ absurd (true≢false (sym h ∙ get_or_past listed d false le))
]

module _ (lo hi : ℕ) (listed : List Bool) where
  pub passed : {w : Weights} {head : BlockHead} {read : List ℕ} {posts : List Post} → HasSought w head read lo hi listed posts
      → All (λ p. is_sought lo hi listed p ≡ true) posts
  passed {w} {head} {read} has = subst (All (λ p. is_sought lo hi listed p ≡ true)) (sym has.are) (filter_passes (is_sought lo hi listed) (rows_read head read))

  pub sought_ranged : (i : IndexView) {w : Weights} {head : BlockHead} {read : List ℕ} {posts : List Post} → w ≡ i.weights → length listed ≡ i.docs
      → hi ≤ length i.words → HasSought w head read lo hi listed posts → All (IsRanged i) posts
  sought_ranged i {w} {head} {read} {posts} own long within has = λ j d lt.
      let p = get_or posts j d in
      let both = and_parts (nat_le lo p.word && nat_lt p.word hi) (get_or listed p.doc false) (passed has j d lt) in
      let below = ltb-true p.word hi (and_parts (nat_le lo p.word) (nat_lt p.word hi) both.0).1 in
      let known = listed_within listed p.doc both.1 in
      record {
        doc = omega (arith, known, long);
        word = omega (arith, below, within);
        facet = head.facet;
        scored = subst (λ (x : Weights). is_scored x head.facet p ≡ true) own (has.scored j d lt);
      }

  pub sought_stood : {i : IndexView} {told : Option (List ℕ)} {k : ℕ} {placed : PlacedBlock} {read : List ℕ} {posts : List Post} → BlockRead i told k placed read
      → (b : List ℕ) → told ≡ Some b → StandsFor b i → HasSought placed.weights placed.head read lo hi listed posts → posts ≡ filter (is_sought lo hi listed) (block_posts b k)
  sought_stood h b t s has = has.are ∙ ap (filter (is_sought lo hi listed)) (read_there h b t s)

  pub decoded_sought : (placed : PlacedBlock) (read : List ℕ) (rows posts : List Post) → CanBeJudged placed (length read)
      → IsBlock placed.weights placed.head placed.docs rows read → posts ≡ filter (is_sought lo hi listed) rows → HasSought placed.weights placed.head read lo hi listed posts
  decoded_sought placed read rows posts can block are =
      let scored : Post → Type 0 = λ p. is_scored placed.weights placed.head.facet p ≡ true in
      let all = block_scored placed.weights placed.head placed.docs rows read block in
      record {
        are = are ∙ ap (filter (is_sought lo hi listed)) (sym (one_reading placed.weights can.weights placed.head placed.docs rows read can.few can.shaped block).1);
        scored = subst (All scored) (sym are) (All-filter (is_sought lo hi listed) scored rows all);
      }

-- the documents of a block that was decoded are listed or not
pub decoded_known : (w : Weights) (head : BlockHead) (docs : ℕ) (read : List ℕ) (listed : List Bool) (rows : List Post) → length listed ≡ docs
    → IsBlock w head docs rows read
    → All (λ p. p.doc < length listed) rows
decoded_known w head docs read listed rows long block = λ j d lt. let below = block_docs head docs rows read block j d lt in omega (arith, below, long)
