-- Inputs on which each of the calls on columns may be run.
--
--   ArePosts posts      posts that strictly ascend, with documents and words in the limits
--   AreScored listed    scored documents that strictly ascend, none with a score above what a base keeps
--   IsFit inputs        posts, documents and scored documents are such
use Rattle.std.specs.Prelude.{◌≤◌, ◌<◌, ◌^◌, List, All}
use Rattle.cs_base.specs.content.Orders.{AreDocs, AreByDoc, AreSorted}
use Rattle.cs_base.specs.declared.content.doc.Post.{Post}
use Rattle.cs_base.specs.declared.content.doc.Scored.{Scored}
use Rattle.cs_base.specs.declared.content.limits.TheConstants.{MAX_DOCS, MAX_WORDS}
use Rattle.cs_rank.specs.DocScores.{IsBase}
use Rattle.timed.specs.declared.input.Inputs.{Inputs}

-- also no posts
pub record ArePosts (posts : List Post) : Type 0 where
  pub sorted : AreSorted posts
  pub docs : All (λ p. p.doc < MAX_DOCS) posts
  pub words : All (λ p. p.word < MAX_WORDS) posts

-- also none
pub record AreScored (listed : List Scored) : Type 0 where
  pub sorted : AreByDoc listed
  pub low : All (λ h. h.score ≤ 2 ^ 20) listed

-- the base is what the listed documents are
pub record IsFit (i : Inputs) : Type 0 where
  pub rows : ArePosts i.rows.posts
  pub other : ArePosts i.other.posts
  pub both : All (λ c. AreSorted c.posts) i.both.items
  pub docs : AreDocs i.docs.items
  pub listed : AreScored i.listed
  pub base : IsBase i.base
