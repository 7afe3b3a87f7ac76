-- Five rows of two documents and two words, as a test reads them.
--
--   sample        the words 24 and 20 in document 0, and 24, 20 and 20 in document 1
--   sample_base   what the word 20 gave both documents
use Rattle.std.specs.Prelude.{List, [], ◌∷◌}
use Rattle.cs_base.specs.declared.content.doc.Post.{Post}
use Rattle.cs_base.specs.declared.content.doc.Scored.{Scored}

-- by document, position and word
abbrev pub sample : List Post
sample =
    record { doc = 0; word = 24; pos = 1; score = 4 } ∷ record { doc = 0; word = 20; pos = 14; score = 1 } ∷ record { doc = 1; word = 24; pos = 12; score = 1 }
    ∷ record { doc = 1; word = 20; pos = 14; score = 1 } ∷ record { doc = 1; word = 20; pos = 17; score = 1 } ∷ []

-- by document
abbrev pub sample_base : List Scored
sample_base = record { doc = 0; score = 1 } ∷ record { doc = 1; score = 1 } ∷ []
