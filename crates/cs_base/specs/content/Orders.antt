-- The orders in which rows and hits are listed, and the lists that keep them.
--
-- Source: this engine's own.
--
--   by_row            rows: document, position, word, each ascending; the score last, which these three determine in a
--                     collection
--   by_spot           rows: document, position, word, each ascending, which name a row of a collection
--   by_place          posts: document, position, number of the word, each ascending
--   by_rank           hits: score descending, then document ascending
--   by_doc            scored documents: document ascending
--   AreSorted posts   posts strictly ascend by document, position and word; no posts and one do
--   AreDocs docs      document numbers strictly ascend; none and one do
--   AreByDoc scored   scored documents strictly ascend by document; none and one do
--   docs_of posts     the documents of posts, ascending, each once; of no posts none
use Rattle.std.specs.Prelude.{ℕ, List, map}
use Rattle.std.specs.List.Sorted.{IsStrictlySortedBy}
use Rattle.std.specs.declared.cmp.Ordering.{Ordering}
use Rattle.std.specs.Ordering.{nat_cmp, then_cmp, on, flip_args}
use Rattle.std.specs.Cmp.Lexicographic.{slice_cmp}
use Rattle.cs_base.specs.declared.content.doc.Row.{Row}
use Rattle.cs_base.specs.declared.content.doc.Post.{Post}
use Rattle.cs_base.specs.declared.content.doc.Scored.{Scored}
use Rattle.cs_base.specs.content.Members.{members_in}

-- rows by document, position, word by bytes, and score; equal are those with all four the same
abbrev pub by_row : Row → Row → Ordering
by_row = then_cmp (on (λ r. r.doc) nat_cmp) (then_cmp (on (λ r. r.pos) nat_cmp) (then_cmp (on (λ r. r.word) (slice_cmp nat_cmp)) (on (λ r. r.score) nat_cmp)))

-- rows by document, position and word by bytes, which name a row of a collection; the score isn't compared
abbrev pub by_spot : Row → Row → Ordering
by_spot = then_cmp (on (λ r. r.doc) nat_cmp) (then_cmp (on (λ r. r.pos) nat_cmp) (on (λ r. r.word) (slice_cmp nat_cmp)))

-- posts by document, position and word, which name a post; the score isn't compared
abbrev pub by_place : Post → Post → Ordering
by_place = then_cmp (on (λ p. p.doc) nat_cmp) (then_cmp (on (λ p. p.pos) nat_cmp) (on (λ p. p.word) nat_cmp))

-- the greatest score first, and at equal scores the least document
abbrev pub by_rank : Scored → Scored → Ordering
by_rank = then_cmp (on (λ h. h.score) (flip_args nat_cmp)) (on (λ h. h.doc) nat_cmp)

-- scored documents by document alone
abbrev pub by_doc : Scored → Scored → Ordering
by_doc = on (λ h. h.doc) nat_cmp

-- each post comes before the next one by document, position and word; also of no posts
abbrev pub AreSorted : List Post → Type 0
AreSorted posts = IsStrictlySortedBy by_place posts

-- each document's number is less than the next one's; also of none
abbrev pub AreDocs : List ℕ → Type 0
AreDocs docs = IsStrictlySortedBy nat_cmp docs

-- each scored document's number is less than the next one's; also of none
abbrev pub AreByDoc : List Scored → Type 0
AreByDoc scored = IsStrictlySortedBy by_doc scored

-- the documents of posts in ascending order, each once; none where there is no post
abbrev pub docs_of : List Post → List ℕ
docs_of posts = members_in nat_cmp (map (λ p. p.doc) posts)
