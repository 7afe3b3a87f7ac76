-- The table of a facet.
--
--   facet_counted        what is shown of the rows that are counted is the facet's table
--   bare_told            without a hit, or a word, facets are shown with none
use Rattle.std.proofs.Common.{◌≡◌, ◌∙◌, ◌⊎◌, ℕ, Bool, true, List, [], inl, inr, map, take, ap, refl, subst, sym}
use Rattle.std.specs.Prelude.{All, filter}
use Rattle.std.proofs.lemmas.List.Elements.{recursion_from_All}
use Rattle.cs_base.specs.declared.content.doc.Base.{Base}
use Rattle.cs_base.specs.declared.content.doc.Post.{Post}
use Rattle.cs_file.specs.Indexes.{StandsFor}
use Rattle.cs_base.proofs.ListsLemmas.{map_alike}
use Rattle.cs_base.proofs.MembersLemmas.{all_then}
use Rattle.cs_meet.specs.Filters.{keep_docs}
use Rattle.cs_model.specs.Answers.{begins}
use Rattle.cs_model.specs.Collection.{named}
use Rattle.cs_model.specs.Replies.{Shown, FacetShown}
use Rattle.cs_tables.specs.declared.tables.Completion.{Completion as Numbered}
use Rattle.cs_tables.specs.TableListings.{post_table}
use Rattle.cs_vocab.specs.Ranges.{IsRange}
use Rattle.cs_rows.specs.Counting.{AreListed, in_listed}
use Rattle.cs_rows.specs.Sources.{IsSource, SourceView, seen}
use Rattle.cs_rows.specs.Skipping.{bare_facet, lists_none}
use Rattle.cs_rows.specs.Stocked.{base_docs, facet_at, is_between, present_docs, shown_at}
use Rattle.cs_engine.specs.Asking.{HasNoWord}
use Rattle.cs_engine.proofs.AnsweringLemmas.{facet_told, words_as_shown}
use Rattle.cs_rows.proofs.CountingLemmas.{kept_listed}
use Rattle.cs_rows.proofs.JoinedWords.{none_between}
use Rattle.cs_rows.proofs.NoHitLemmas.{bare_is, bare_table, lists_no}
use Rattle.cs_rows.proofs.PlainParts.{found_between}
use Rattle.cs_rows.proofs.RowsInRange.{kept_within}
use Rattle.cs_rows.proofs.OverSources.{source_within}

module _ (b : List ℕ) (v : SourceView) (stands : StandsFor b v.index) (is : IsSource v) where
  -- the posts that a facet counts
  abbrev facet_posts : ℕ → ℕ → List Bool → List Post
  facet_posts lo hi listed = filter (in_listed listed) (filter (is_between lo hi) (v.stock b).posts)

  -- what is shown of them is the facet's table
  pub facet_counted : (base : Base) (cut : ℕ) (name copied prefix : List ℕ) (lo hi : ℕ) (listed : List Bool) (ws : List (List ℕ)) (first : List Numbered)
      (shown : List Shown) → copied ≡ name → prefix ≡ named name [] → IsRange v.words prefix lo hi → AreListed v.present base listed
      → ws ≡ v.words → first ≡ take cut (post_table (facet_posts lo hi listed)) → shown ≡ map (shown_at ws) first
      → ◌≡◌ {A = FacetShown} (record { name = copied; table = shown }) (facet_at (v.stock b) base cut name)
  facet_counted base cut name copied prefix lo hi listed ws first shown same prefix_is range has words first_is shown_is =
      let asked = filter (is_between lo hi) (v.stock b).posts in
      let within = kept_within (seen v) (is_between lo hi) (v.stock b).posts (source_within b v stands is) in
      let own = subst (λ p. IsRange v.words p lo hi) prefix_is range in
      let rows = found_between b v stands is (begins (named name [])) lo hi own.holds asked refl in
      let kept = kept_listed (seen v) v.present is.long base listed asked has within in
      let table_is = words_as_shown b v stands is (facet_posts lo hi listed)
      (kept_within (seen v) (in_listed listed) asked within) ws words cut first first_is shown shown_is in
      facet_told b v stands is base cut name copied asked (facet_posts lo hi listed) shown same rows kept table_is

  bare_one : (base : Base) (cut : ℕ) (name : List ℕ) → HasNoWord v.words name → bare_facet name ≡ facet_at (v.stock b) base cut name
  bare_one base cut name (lo, range) =
      let asked = filter (is_between lo lo) (v.stock b).posts in
      let none = none_between lo (v.stock b).posts in
      let rows = found_between b v stands is (begins (named name [])) lo lo range.holds asked refl in
      facet_told b v stands is base cut name name asked [] [] refl rows
      (sym (ap (λ ps. keep_docs ps (base_docs (present_docs v.present) base)) none)) (bare_table cut)

  no_word_told : (base : Base) (cut : ℕ) (names : List (List ℕ)) → All (HasNoWord v.words) names
      → map bare_facet names ≡ map (facet_at (v.stock b) base cut) names
  no_word_told base cut names none = map_alike bare_facet (facet_at (v.stock b) base cut) names
      (all_then (HasNoWord v.words) (λ n. bare_facet n ≡ facet_at (v.stock b) base cut n) (bare_one base cut) names
      (recursion_from_All (HasNoWord v.words) names none))

  -- without a hit, or a word, facets are shown with none
  pub bare_told : (base : Base) (cut : ℕ) (names : List (List ℕ)) → (lists_none base ≡ true) ⊎ All (HasNoWord v.words) names
      → map bare_facet names ≡ map (facet_at (v.stock b) base cut) names
  bare_told base cut names (inl none) =
      bare_is (v.stock b) cut names ∙ ap (λ (x : Base). map (facet_at (v.stock b) x cut) names) (sym (lists_no base none))
  bare_told base cut names (inr none) = no_word_told base cut names none
