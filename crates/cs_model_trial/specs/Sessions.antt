-- The queries that a trial types over its collection.
--
-- Source: this engine's own. What is typed is what one who searches types: a word letter by letter, then a second one behind it,
-- and then the first one alone again.
--
--   session_bounds n       the bounds of a session's draws: a document, and a place in its text
--   session_draws n s      the draws of session s of trial n, sessions counted from 0
--   text_word n d j        text word j of document d of trial n, both counted from 0
--   typed w                what stands there while a word is typed: its prefixes, the shortest first
--   typed_texts a b        the texts of a session over these two words
--   session_at n d j       the texts of the session over text word j of document d and the one behind it
--   session n s            the texts of session s of trial n
--   texts n                those of all sessions of trial n
--   plain_request text     what a text asks: its query, with the defaults and without facets
--   queries n              the queries of trial n
use Rattle.std.specs.Prelude.{ℕ, ◌+◌, ◌*◌, ◌%◌, List, [], ◌∷◌, ◌++◌, map, take, length, slice_index_or}
use Rattle.std.specs.List.{flat_map, range_with_len}
use Rattle.std.specs.Str.{chars}
use Rattle.cs_base.specs.declared.content.query.Query.{Query}
use Rattle.cs_model.specs.Grammar.{query_of}
use Rattle.cs_model.specs.KeyText.{norm}
use Rattle.cs_model.specs.Requests.{Request, by_default}
use Rattle.cs_model_trial.specs.declared.sizes.TheConstants.{TEXT_WORDS, SESSIONS, TYPED_LETTERS}
use Rattle.cs_model_trial.specs.Generator.{behind, draws, word, line_bounds, line_draws, text_of, line_count}

-- what is drawn for a session: a document of the collection, then the place of a text word
abbrev pub session_bounds : ℕ → List ℕ
session_bounds n = line_count n ∷ TEXT_WORDS ∷ []

-- the draws of a session of trial n; all lines and each session before it have taken theirs
unfoldable pub session_draws : ℕ → ℕ → List ℕ
session_draws n s = draws (session_bounds n) (behind (line_count n * length line_bounds + s * length (session_bounds n)) n)

-- a word of a document's text, the first at 0
abbrev pub text_word : ℕ → ℕ → ℕ → List ℕ
text_word n d j = word (slice_index_or (text_of (line_draws n d)) j 0)

-- the prefixes of a word with 1 to `TYPED_LETTERS` letters, which are bytes here
abbrev pub typed : List ℕ → List (List ℕ)
typed w = map (λ c. take c w) (range_with_len 1 TYPED_LETTERS)

-- the first word as it is typed, then the second one behind it and a space, which is 32, and then the first word alone
abbrev pub typed_texts : List ℕ → List ℕ → List (List ℕ)
typed_texts a b = typed a ++ map (λ w. a ++ 32 ∷ w) (typed b) ++ a ∷ []

-- the session of a text word and the one behind it, which behind the last is the first
abbrev pub session_at : ℕ → ℕ → ℕ → List (List ℕ)
session_at n d j = typed_texts (text_word n d j) (text_word n d ((j + 1) % TEXT_WORDS))

-- the texts of a session of trial n, in the order in which they are asked
unfoldable pub session : ℕ → ℕ → List (List ℕ)
session n s = let ds = session_draws n s in session_at n (slice_index_or ds 0 0) (slice_index_or ds 1 0)

-- the texts of all sessions of trial n, one session after the other
unfoldable pub texts : ℕ → List (List ℕ)
texts n = flat_map (session n) (range_with_len 0 SESSIONS)

-- what a text asks: the query of its key text, with the defaults and without facets
abbrev pub plain_request : List ℕ → Request
plain_request text = by_default (query_of (chars (norm text)))

-- the queries of trial n, in the order in which they are asked
abbrev pub queries : ℕ → List Query
queries n = map (λ text. (plain_request text).query) (texts n)
