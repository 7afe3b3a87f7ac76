-- Rows in columns, and their posts.
--
--   below_words       posts whose words are below a number
--   columns_are       columns whose words are numbered
--   numbers_are       the numbers are those of the rows' words
--   columns_many      as many rows as numbers stand in columns
--   posts_numbered    the posts are those of the rows
use Rattle.std.proofs.Common.{◌≡◌, ℕ, ◌<◌, List, [], ◌∷◌, length, map, refl, sym, ap, subst, ◌∙◌}
use Rattle.std.specs.List.{AllByRecursion}
use Rattle.std.specs.List.Sorted.{IsStrictlySortedBy}
use Rattle.std.specs.Ordering.{nat_cmp}
use Rattle.std.specs.Cmp.Lexicographic.{slice_cmp}
use Rattle.std.specs.List.{All}
use Rattle.std.proofs.lemmas.List.{length-map}
use Rattle.std.proofs.lemmas.List.Elements.{recursion_from_All}
use Rattle.cs_base.specs.content.Members.{members_in}
use Rattle.cs_base.specs.declared.content.doc.Post.{Post}
use Rattle.cs_base.specs.declared.content.doc.Row.{Row}
use Rattle.cs_base.proofs.MembersLemmas.{listing-rises}
use Rattle.cs_model_index.specs.Numbered.{numbered, row_of, rows_at, word_at}
use Rattle.cs_vocab.specs.Ranges.{AreNumbers, IsBelow}
use Rattle.cs_build.specs.RowColumns.{AreColumns, IsFormOf, posts_in}
use Rattle.cs_build.specs.declared.row_form.RowForm.{RowForm}
use Rattle.cs_build.proofs.PartLemmas.{numbered_posts}
use Rattle.cs_build.proofs.RowPosts.{posts_many, form_words}

words_below : (n : ℕ) (posts : List Post) → AllByRecursion (IsBelow n) (map (λ p. p.word) posts) → AllByRecursion (λ p. p.word < n) posts
words_below n [] h = tt
words_below n (p ∷ posts) h = (h.0, words_below n posts h.1)

pub below_words : (n : ℕ) (form : RowForm) (ns : List ℕ) → IsFormOf form ns → All (IsBelow n) ns → AllByRecursion (λ p. p.word < n) (posts_in form ns)
below_words n form ns h below = words_below n (posts_in form ns) (subst (AllByRecursion (IsBelow n)) (sym (form_words form ns h)) (recursion_from_All (IsBelow n) ns below))

module _ (ws : List (List ℕ)) where
  words_at : (posts : List Post) → map (λ r. r.word) (rows_at ws posts) ≡ map (word_at ws) (map (λ p. p.word) posts)
  words_at [] = refl
  words_at (p ∷ posts) = ap (λ l. word_at ws p.word ∷ l) (words_at posts)

  in_form : (ns : List ℕ) (form : RowForm) → IsFormOf form ns → map (λ r. r.word) (rows_at ws (posts_in form ns)) ≡ map (word_at ws) ns
  in_form ns form h = words_at (posts_in form ns) ∙ ap (map (word_at ws)) (form_words form ns h)

  pub columns_are : (ns : List ℕ) (form : RowForm) (all : List (List ℕ)) → IsFormOf form ns → AreNumbers ws ns all → ws ≡ members_in (slice_cmp nat_cmp) all → AreColumns ws ns form
  columns_are ns form all h n is = record { each = h; below = n.below; words = is ∙ ap (members_in (slice_cmp nat_cmp)) (sym (in_form ns form h ∙ n.told)) }

  module _ (ns : List ℕ) (form : RowForm) (h : AreColumns ws ns form) where
    pub numbers_are : AreNumbers ws ns (map (λ r. r.word) (rows_at ws (posts_in form ns)))
    numbers_are = record { told = sym (in_form ns form h.each); below = h.below }

    pub columns_many : length (rows_at ws (posts_in form ns)) ≡ length ns
    columns_many = length-map (posts_in form ns) (row_of ws) ∙ posts_many form ns h.each

    pub posts_numbered : numbered ws (rows_at ws (posts_in form ns)) ≡ posts_in form ns
    posts_numbered =
        let up : IsStrictlySortedBy (slice_cmp nat_cmp) ws = subst (IsStrictlySortedBy (slice_cmp nat_cmp)) (sym h.words) (listing-rises (slice_cmp nat_cmp) (map (λ (r : Row). r.word) (rows_at ws (posts_in form ns)))) in
        numbered_posts ws up (posts_in form ns) (below_words (length ws) form ns h.each h.below)
