-- Parts that ask for the words from one number up to another.
--
--   found_between     the rows of the words that pass a test
--   prefix_words, exact_words      those of an atom
--   words_told        what is read of the words from one number up to another
--   facet_reads, join_reads     how much is read for the words of a facet, and for those of a join
--   listed_entry, listed_fits      the entry of one part more, by the rows in listed documents
use Rattle.std.proofs.Common.{◌≡◌, ℕ, ◌+◌, ◌-◌, ◌*◌, ◌<◌, ◌≤◌, ◌==◌, Bool, true, false, List, [], length, get_or, refl, sym}
use Rattle.std.proofs.Common.{ap, subst, ◌∙◌, arith}
use Rattle.std.specs.Prelude.{All, IfOk, Result, filter}
use Rattle.std.proofs.lemmas.Result.{IfOk-weaker}
use Rattle.std.specs.List.{list_any}
use Rattle.std.specs.Str.{bytes_eq}
use Rattle.cs_base.specs.declared.content.doc.Base.{Base}
use Rattle.cs_base.specs.declared.content.doc.Base.TheVariants as base
use Rattle.cs_base.specs.declared.content.doc.Post.{Post}
use Rattle.cs_base.specs.declared.content.doc.Row.{Row}
use Rattle.cs_base.specs.declared.content.query.Atom.{Atom}
use Rattle.cs_base.specs.declared.content.query.Atom.TheVariants.{Prefix, Exact, Join}
use Rattle.cs_base.specs.declared.content.query.Query.{Query}
use Rattle.cs_base.specs.outside.Causes.{ReadsWithin}
use Rattle.cs_base.proofs.ListsLemmas.{any_through}
use Rattle.cs_base.specs.declared.content.scores.TheConstants.{MAX_ROW_SCORE}
use Rattle.cs_file.specs.Indexes.{IndexView, StandsFor}
use Rattle.cs_model.specs.Answers.{begins, rows_of_atom}
use Rattle.cs_model.proofs.AnswersLemmas.{prefix_rows, exact_rows}
use Rattle.cs_model.specs.Collection.{named}
use Rattle.cs_model.specs.Corpus.{Corpus}
use Rattle.cs_model_kept.specs.Due.{met_of_atom, met_of_query, met_prefix}
use Rattle.cs_model_kept.proofs.DueLemmas.{met_exact_atom, met_prefix_atom}
use Rattle.cs_model_index.specs.Numbered.{rows_at}
use Rattle.cs_vocab.specs.Ranges.{IsRange}
use Rattle.cs_rows.specs.IndexReading.{division, AreWithin, HasRows, IsRangeOf}
use Rattle.cs_rows.specs.Counting.{AreListed, in_listed}
use Rattle.cs_rows.specs.Plain.{AreWordsOf}
use Rattle.cs_rows.specs.Steps.{entry_with, EntryFits, IsBaseOf, is_in_base}
use Rattle.cs_rows.specs.Sources.{IsSource, SourceView, met_in}
use Rattle.cs_rows.specs.Stocked.{HoldsBetween, corpus_in, is_between, base_posts}
use Rattle.cs_rows.proofs.EvaluationLemmas.{joined_reads}
use Rattle.cs_rows.proofs.OverSources.{listed_asked}
use Rattle.cs_rows.proofs.WalkLemmas.{within_more}
use Rattle.cs_rows.proofs.AtomsLemmas.{picked_between, span_rows, words_known}

-- ---- words
-- the rows of the words that pass a test
pub found_between : (b : List ℕ) (v : SourceView) → StandsFor b v.index → IsSource v → (test : List ℕ → Bool) (lo hi : ℕ) → HoldsBetween v.words test lo hi
    → (posts : List Post) → posts ≡ filter (is_between lo hi) (v.stock b).posts
    → HasRows (v.stock b) (filter (λ r. test r.word) (corpus_in (v.stock b)).rows) posts
found_between b v stands is test lo hi span posts are =
    let told = is.told b stands in
    let st = told.stocked in
    let s = v.stock b in
    let own = subst (λ ws. HoldsBetween ws test lo hi) told.words span in
    record {
      is = ap (λ ps. rows_at s.words ps) are ∙ span_rows s.words test lo hi s.posts own (words_known s s.posts st.known);
      picked = picked_between s (is_between lo hi) posts st are;
    }

-- ---- atoms
pub prefix_words : (v : SourceView) → IsSource v → (a : Atom) (p bytes : List ℕ) (lo hi : ℕ) → a ≡ Prefix p → bytes ≡ p → IsRange v.words bytes lo hi
    → AreWordsOf v (met_of_atom (division v.index) a) (λ k. rows_of_atom k a) lo hi
prefix_words v is a p bytes lo hi a_is same range = record {
  ordered = range.ordered;
  within = range.within;
  few = (let own = ap (met_of_atom (division v.index)) (a_is ∙ ap Prefix (sym same)) ∙ met_prefix_atom (division v.index) bytes in
      omega (arith, own, is.prefix_met bytes lo hi range));
  posts = λ b stands.
      let k = corpus_in (v.stock b) in
      subst (λ rows. HasRows (v.stock b) rows (filter (is_between lo hi) (v.stock b).posts))
      (sym (ap (rows_of_atom k) (a_is ∙ ap Prefix (sym same)) ∙ prefix_rows k bytes))
      (found_between b v stands is (begins bytes) lo hi range.holds (filter (is_between lo hi) (v.stock b).posts) refl);
}

pub exact_words : (v : SourceView) → IsSource v → (a : Atom) (w bytes : List ℕ) (lo hi : ℕ) → a ≡ Exact w → bytes ≡ w
    → IsRangeOf v.words (λ x. bytes_eq x bytes) lo hi → hi ≤ lo + 1 → (list_any (bytes_eq bytes) v.words ≡ false → lo ≡ hi)
    → AreWordsOf v (met_of_atom (division v.index) a) (λ k. rows_of_atom k a) lo hi
exact_words v is a w bytes lo hi a_is same span short none =
    let own : a ≡ Exact bytes = a_is ∙ ap Exact (sym same) in
    let met = is.word_met bytes lo hi span short none in
    let few : met_in v lo hi ≤ met_of_atom (division v.index) (Exact bytes) = (let e = met_exact_atom (division v.index) bytes in omega (arith, met, e)) in
    record {
      ordered = span.ordered;
      within = span.within;
      few = subst (λ x. met_in v lo hi ≤ met_of_atom (division v.index) x) (sym own) few;
      posts = λ b stands.
          let k = corpus_in (v.stock b) in
          subst (λ rows. HasRows (v.stock b) rows (filter (is_between lo hi) (v.stock b).posts)) (sym (ap (rows_of_atom k) own ∙ exact_rows k bytes))
          (found_between b v stands is (λ x. bytes_eq x bytes) lo hi span.holds (filter (is_between lo hi) (v.stock b).posts) refl);
    }

pub words_told : {v : SourceView} {met : ℕ} {rows : Corpus → List Row} {lo hi : ℕ} {T E : Type 0} (asks : AreWordsOf v met rows lo hi) (posts : T → List Post)
    (r : Result T E) (b : List ℕ) → StandsFor b v.index → IfOk r (λ x. posts x ≡ filter (is_between lo hi) (v.stock b).posts)
    → IfOk r (λ x. HasRows (v.stock b) (rows (corpus_in (v.stock b))) (posts x))
words_told {v = v} {rows = rows} asks posts r b stands h =
    IfOk-weaker r _ _ (λ x is. subst (HasRows (v.stock b) (rows (corpus_in (v.stock b)))) (sym is) (asks.posts b stands)) h

module _ (v : SourceView) (is : IsSource v) {lo hi before now : ℕ} where
  pub facet_reads : {p : List ℕ} → IsRange v.words p lo hi → ReadsWithin (met_in v lo hi) before now
      → ReadsWithin (met_prefix (division v.index) p) before now
  facet_reads {p} range reads = within_more reads (is.prefix_met p lo hi range)

module _ (v : SourceView) (is : IsSource v) {a : Atom} {name : List ℕ} {inner : Query} {lo hi before mid now : ℕ} where
  pub join_reads : a ≡ Join name inner → IsRange v.words (named name []) lo hi → ReadsWithin (met_of_query (division v.index) inner) before mid
      → ReadsWithin (met_in v lo hi) mid now → ReadsWithin (met_of_atom (division v.index) a) before now
  join_reads joins range query facet = joined_reads (division v.index) joins query (within_more facet (is.prefix_met (named name []) lo hi range))

-- ---- the entry
module _ (v : SourceView) (hits : Base) (listed : List Bool) (has : AreListed v.present hits listed) where
  pub listed_entry : (b : List ℕ) → StandsFor b v.index → IsSource v → (lo hi : ℕ) (rows : List Post)
      → rows ≡ filter (in_listed listed) (filter (is_between lo hi) (v.stock b).posts)
      → entry_with hits rows ≡ entry_with hits (base_posts hits (filter (is_between lo hi) (v.stock b).posts))
  listed_entry b stands is lo hi rows are = ap (entry_with hits) (are ∙ listed_asked b v stands is lo hi hits listed has)

module _ (i : IndexView) (present : List Bool) (long : length present ≡ i.docs) (hits : Base) (listed : List Bool) (has : AreListed present hits listed) where
  listed_base : (p : Post) (b : Base) → AreListed present b listed → p.doc < i.docs → in_listed listed p ≡ true → is_in_base b p ≡ true
  listed_base p base.All h lt passes = refl
  listed_base p (base.Listed hs) h lt passes =
      sym (any_through (λ h. h.doc) (λ d. d == p.doc) hs) ∙ sym (h.each p.doc (omega (arith, lt, long))) ∙ passes

  pub listed_fits : (rows : List Post) → AreWithin i rows → All (λ p. in_listed listed p ≡ true) rows → (n : ℕ) → IsBaseOf i.docs (MAX_ROW_SCORE * n) hits
      → EntryFits i true (n + 1) (record { base = hits; rows = rows })
  listed_fits rows w passed n fits = record {
    parts = λ e. omega arith;
    rows = w;
    base = (let e : n ≡ n + 1 - 1 = omega arith in subst (λ m. IsBaseOf i.docs (MAX_ROW_SCORE * m) hits) e fits);
    in_base = λ k d l. listed_base (get_or rows k d) hits has (w.within k d l).doc (passed k d l);
  }
