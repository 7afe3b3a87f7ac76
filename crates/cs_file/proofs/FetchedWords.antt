-- What the documents and words are that a fetch puts into columns.
--
--   words_even, words_known, docs_known     they are as many, and in range
--   doc_words_stood     over bytes that stand for the index they are those of the block's posts
use Rattle.std.proofs.Common.{◌≡◌, ℕ, ◌+◌, ◌<◌, ◌≤◌, List, length, map, Option, Some, sym, ap, subst, ◌∙◌, arith}
use Rattle.std.specs.Prelude.{All}
use Rattle.std.proofs.lemmas.List.{length-map}
use Rattle.std.proofs.lemmas.List.Elements.{All-map, All-weaker}
use Rattle.cs_base.specs.declared.index.block.BlockHead.{BlockHead}
use Rattle.cs_base.specs.declared.content.doc.Post.{Post}
use Rattle.cs_block.specs.DocWords.{HasDocWords, IsListable}
use Rattle.cs_model_index.specs.BlockRules.{rows_read}
use Rattle.cs_file.specs.CallAnswers.{AreOf}
use Rattle.cs_file.specs.declared.fetching.PlacedBlock.{PlacedBlock}
use Rattle.cs_file.specs.Indexes.{IndexView, StandsFor, block_posts}
use Rattle.cs_file.proofs.FetchLemmas.{BlockRead, read_there}
use Rattle.cs_file.proofs.HeadsLemmas.{head_within}

pub words_even : (head : BlockHead) (docs : ℕ) (bytes ds ws : List ℕ) → HasDocWords head docs bytes ds ws → length ws ≡ length ds
words_even head docs bytes ds ws h =
    let rows = rows_read head bytes in
    ap length h.words_are ∙ length-map rows (λ (p : Post). p.word) ∙ sym (ap length h.docs_are ∙ length-map rows (λ (p : Post). p.doc))

module _ {i : IndexView} {told : Option (List ℕ)} {k : ℕ} {placed : PlacedBlock} {read : List ℕ} (h : BlockRead i told k placed read) where
  known_rows : All (IsListable placed.head placed.docs) (rows_read placed.head read)
      → All (λ p. (p.doc < i.docs) × (p.word < length i.words)) (rows_read placed.head read)
  known_rows listable =
      let head = placed.head in
      let known : Post → Type 0 = λ p. (p.doc < i.docs) × (p.word < length i.words) in
      let all = head_within i h.stands.index k head h.stands.known in
      let within = subst (λ (x : BlockHead). x.lo + x.words ≤ length i.words) (sym (h.stands.head_is head)) all in
      let one : (p : Post) → IsListable head placed.docs p → known p
      = λ p l. (let below = l.word in (subst (λ n. p.doc < n) h.stands.docs_are l.doc, omega (arith, below, within))) in
      All-weaker (IsListable head placed.docs) known one (rows_read head read) listable

  pub docs_known : (ds ws : List ℕ) → HasDocWords placed.head placed.docs read ds ws → All (λ d. d < i.docs) ds
  docs_known ds ws added =
      let rows = rows_read placed.head read in
      subst (All (λ d. d < i.docs)) (sym added.docs_are) (All-map (λ d. d < i.docs) (λ (p : Post). p.doc) rows
      (All-weaker (λ p. (p.doc < i.docs) × (p.word < length i.words)) (λ p. p.doc < i.docs) (λ p l. l.0) rows (known_rows added.listable)))

  pub words_known : (ds ws : List ℕ) → HasDocWords placed.head placed.docs read ds ws → All (λ w. w < length i.words) ws
  words_known ds ws added =
      let rows = rows_read placed.head read in
      subst (All (λ w. w < length i.words)) (sym added.words_are) (All-map (λ w. w < length i.words) (λ (p : Post). p.word) rows
      (All-weaker (λ p. (p.doc < i.docs) × (p.word < length i.words)) (λ p. p.word < length i.words) (λ p l. l.1) rows (known_rows added.listable)))

  pub doc_words_stood : (b : List ℕ) (ds ws : List ℕ) → told ≡ Some b → StandsFor b i → HasDocWords placed.head placed.docs read ds ws
      → AreOf (block_posts b k) ds ws
  doc_words_stood b ds ws t s added =
      let all = read_there h b t s in
      (added.docs_are ∙ ap (map (λ (p : Post). p.doc)) all, added.words_are ∙ ap (map (λ (p : Post). p.word)) all)
