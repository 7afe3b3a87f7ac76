-- What the engine over an index is asked, and what its answers say.
--
-- Source: this engine's own.
--
--   HasNoWord ws n       none of the words is one of the facet of the name n
--   titles_read n q r    how many titles of an index with n documents may be read for a request: those of its documents that are shown, or as
--                        many as it asks where it is refused
--   filed_titles n q r   the same, where a reply comes with something else
--   titles_asked q r     how many titles are shown, whichever documents these are, or as many as it asks where it is refused
use Rattle.std.specs.Prelude.{ℕ, List, [], filter, length, nat_lt, Result, Ok, Err}
use Rattle.cs_file.specs.declared.fault.FetchFault.{FetchFault}
use Rattle.cs_model.specs.Collection.{named}
use Rattle.cs_model.specs.Replies.{Reply}
use Rattle.cs_model.specs.Requests.{Request}
use Rattle.cs_vocab.specs.Ranges.{IsRange}

-- the range of its words is empty
abbrev pub HasNoWord : List (List ℕ) → List ℕ → Type 0
HasNoWord ws name = (lo : ℕ) × IsRange ws (named name []) lo lo

-- none where no hit is shown; documents that aren't the index's have numbers behind its own
abbrev pub titles_read : ℕ → Request → Result Reply FetchFault → ℕ
titles_read n q (Ok r) = length (filter (λ h. nat_lt h.doc n) r.hits)
titles_read n q (Err e) = q.hits

-- the same of a reply with something else, as a note
abbrev pub filed_titles : {T : Type 0} → ℕ → Request → Result (Reply × T) FetchFault → ℕ
filed_titles n q (Ok r) = length (filter (λ h. nat_lt h.doc n) r.0.hits)
filed_titles n q (Err e) = q.hits

-- of an index alone these are all that are read
abbrev pub titles_asked : {T : Type 0} → Request → Result (Reply × T) FetchFault → ℕ
titles_asked q (Ok r) = length r.0.hits
titles_asked q (Err e) = q.hits
