-- Groups of neighbours of one document.
--
--   scored_row p       a row's document and score
--   with_greater h x   x, with the greater score of the two where it is of h's document
--   group h hs         h with the greatest score of those of its document directly behind it, and then the groups behind these
--   groups hs          all groups
use Rattle.std.specs.Prelude.{max, List, [], ◌∷◌, ◌==◌, if◌then◌else◌}
use Rattle.cs_base.specs.declared.content.doc.Post.{Post}
use Rattle.cs_base.specs.declared.content.doc.Scored.{Scored}

-- a row's document and score
abbrev pub scored_row : Post → Scored
scored_row p = record { doc = p.doc; score = p.score }

-- x, with the greater score of the two where they are neighbours of one document
abbrev pub with_greater : Scored → Scored → Scored
with_greater h x = if x.doc == h.doc then record { doc = x.doc; score = max h.score x.score } else x

-- h with the greatest score of its neighbours, and the groups behind
abbrev pub group : Scored → List Scored → List Scored
group h [] = h ∷ []
group h (x ∷ xs) = if x.doc == h.doc then group (record { doc = h.doc; score = max h.score x.score }) xs else h ∷ group x xs

-- all groups; of nothing there is none
abbrev pub groups : List Scored → List Scored
groups [] = []
groups (x ∷ xs) = group x xs
