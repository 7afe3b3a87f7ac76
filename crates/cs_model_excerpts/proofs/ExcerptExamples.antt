-- Worked excerpts of the three documents, and of made ones.
use Rattle.std.proofs.Common.{◌≡◌, ℕ, true, false, Bool, List, [], ◌∷◌, ◌++◌, map, refl, sym, ap, ◌∙◌, codes}
use Rattle.std.specs.Prelude.{Some, None, replicate}
use Rattle.std.specs.Char.{encode_utf8}
use Rattle.std.specs.Fmt.{digits}
use Rattle.std.specs.Str.{bytes_eq, chars}
use Rattle.json.specs.Print.{escape_byte}
use Rattle.caseless.proofs.Computing.{caseless}
use Rattle.ucd_category.proofs.Computing.{ucd_category}
use Rattle.unicode.specs.GeneralCategory.{general_category}
use Rattle.cs_base.specs.declared.content.doc.Doc.{Doc}
use Rattle.cs_base.specs.declared.content.query.Atom.{Prefix, Exact, out-Atom, out-roll-Atom}
use Rattle.cs_base.specs.declared.content.query.Atom.TheOpen.{Atom-F}
use Rattle.cs_base.specs.declared.content.query.Atom.TheVariants.{rolls-Prefix, rolls-Exact}
use Rattle.cs_base.specs.declared.content.query.Chain.{out-roll-Chain}
use Rattle.cs_base.specs.declared.content.query.Linked.{out-roll-Linked}
use Rattle.cs_base.specs.declared.content.query.Part.{out-roll-Part}
use Rattle.cs_base.specs.declared.content.query.Query.{out-roll-Query}
use Rattle.cs_base.specs.declared.content.query.Link.TheVariants.{Near, Phrase}
use Rattle.cs_base.specs.declared.content.query.Query.{Query}
use Rattle.cs_model.specs.Answers.{begins}
use Rattle.cs_model.specs.Grammar.{query_of}
use Rattle.cs_model.specs.KeyText.{norm}
use Rattle.cs_model.specs.Replies.{Reply}
use Rattle.cs_model.specs.Words.{cut, is_word_char, words}
use Rattle.cs_model_excerpts.specs.ExcerptReplies.{excerpted_text}
use Rattle.cs_model_excerpts.specs.Excerpts.{excerpt_of, own_excerpt, positive, textual}
use Rattle.cs_model_excerpts.specs.OwnWords.{either_marks, is_near_marked, linked_marks, part_marks}
use Rattle.cs_model_excerpts.specs.Runs.{covers, text_runs, shortest}
use lib.Utf8

-- ---- runs
-- the runs of three words: single words first
runs-three : text_runs 3 ≡ (0, 0) ∷ (1, 1) ∷ (2, 2) ∷ (0, 1) ∷ (1, 2) ∷ (0, 2) ∷ []
runs-three = refl

-- no words have no run
runs-none : text_runs 0 ≡ []
runs-none = refl

-- a shorter run goes before one that begins earlier
shortest-later : shortest ((true ∷ false ∷ false ∷ true ∷ []) ∷ (false ∷ false ∷ true ∷ false ∷ []) ∷ []) 4 ≡ Some (2, 3)
unfolding covers
shortest-later = refl

-- of two runs of one length the first counts
shortest-first : shortest ((true ∷ false ∷ true ∷ []) ∷ (false ∷ true ∷ false ∷ []) ∷ []) 3 ≡ Some (0, 1)
unfolding covers
shortest-first = refl

-- one word may serve two parts
shortest-both : shortest ((true ∷ true ∷ []) ∷ (false ∷ true ∷ []) ∷ []) 2 ≡ Some (1, 1)
unfolding covers
shortest-both = refl

-- where a part has no mark there is none
shortest-none : shortest ((true ∷ []) ∷ (false ∷ []) ∷ []) 1 ≡ None
unfolding covers
shortest-none = refl

-- ---- excerpts
out_prefix : (w : List ℕ) → out-Atom (Prefix w) ≡ Atom-F.Prefix w
out_prefix w = ap out-Atom (sym (rolls-Prefix w)) ∙ out-roll-Atom (Atom-F.Prefix w)

out_exact : (w : List ℕ) → out-Atom (Exact w) ≡ Atom-F.Exact w
out_exact w = ap out-Atom (sym (rolls-Exact w)) ∙ out-roll-Atom (Atom-F.Exact w)

ruleset levels = (out-roll-Query, out-roll-Part, out-roll-Chain, out-roll-Linked, out_prefix, out_exact, out-roll-Atom)

-- the words of a text that begin with a prefix, and that are an exact word
abbrev beginning : List ℕ → List (List ℕ) → List Bool
beginning p ws = either_marks (map (λ x. false) ws) (map (begins p) ws)

abbrev exactly : List ℕ → List (List ℕ) → List Bool
exactly w ws = map (λ x. bytes_eq x w) ws

-- an excerpt by the words of the text, and by the marks that the query's parts have of any words
shown : (q : Query) (doc : Doc) (ws : List (List ℕ)) (marks : List (List ℕ) → List (List Bool)) → words doc.text ≡ ws → ((v : List (List ℕ)) → map (part_marks v) (positive q) ≡ marks v) → own_excerpt q doc ≡ excerpt_of ws (textual (marks ws))
unfolding own_excerpt
shown q doc ws marks w m = ap (λ v. excerpt_of v (textual (map (part_marks v) (positive q)))) w ∙ ap (λ ms. excerpt_of ws (textual ms)) (m ws)

abbrev first : Doc
first = record { title = codes "Type less find more"; facets = codes "author=Bast;author=Weber;year=2006"; text = codes "autocompletion search with a succinct index"; line = 1 }

abbrev first_words : List (List ℕ)
first_words = codes "autocompletion" ∷ codes "search" ∷ codes "with" ∷ codes "a" ∷ codes "succinct" ∷ codes "index" ∷ []

words-first : words first.text ≡ first_words
unfolding words norm chars cut caseless is_word_char general_category ucd_category lib.Utf8.encode
words-first = refl

abbrev second : Doc
second = record { title = codes "The CompleteSearch engine"; facets = codes "author=Bast;year=2007"; text = codes "type ahead search and faceted search"; line = 2 }

abbrev second_words : List (List ℕ)
second_words = codes "type" ∷ codes "ahead" ∷ codes "search" ∷ codes "and" ∷ codes "faceted" ∷ codes "search" ∷ []

words-second : words second.text ≡ second_words
unfolding words norm chars cut caseless is_word_char general_category ucd_category lib.Utf8.encode
words-second = refl

abbrev third : Doc
third = record { title = codes "Typed lambda calculi"; facets = codes "author=Church;year=1940"; text = codes "types"; line = 3 }

words-third : words third.text ≡ codes "types" ∷ []
unfolding words norm chars cut caseless is_word_char general_category ucd_category lib.Utf8.encode
words-third = refl

-- two positive parts
abbrev two : List (List ℕ) → List (List Bool)
two v = beginning (codes "search") v ∷ beginning (codes "typ") v ∷ []

asked-two : (v : List (List ℕ)) → map (part_marks v) (positive (query_of (codes "search typ"))) ≡ two v
unfolding is_word_char encode_utf8
asked-two v = simp levels refl

-- the excerpt of the words of a text
run-title : excerpt_of first_words (textual (two first_words)) ≡ codes "[search]"
unfolding covers
run-title = refl

-- a part that only the title has isn't looked for in the text
excerpt-title : own_excerpt (query_of (codes "search typ")) first ≡ codes "[search]"
excerpt-title = shown (query_of (codes "search typ")) first first_words two words-first asked-two ∙ run-title

run-two : excerpt_of second_words (textual (two second_words)) ≡ codes "[type] ahead [search]"
unfolding covers
run-two = refl

-- the run from `type` to the first `search`
excerpt-two : own_excerpt (query_of (codes "search typ")) second ≡ codes "[type] ahead [search]"
excerpt-two = shown (query_of (codes "search typ")) second second_words two words-second asked-two ∙ run-two

abbrev letter : List (List ℕ) → List (List Bool)
letter v = beginning (codes "a") v ∷ []

asked-letter : (v : List (List ℕ)) → map (part_marks v) (positive (query_of (codes "a"))) ≡ letter v
unfolding is_word_char encode_utf8
asked-letter v = simp levels refl

run-letter : excerpt_of first_words (textual (letter first_words)) ≡ codes "[autocompletion]"
unfolding covers
run-letter = refl

-- the first word that begins with the letter
excerpt-letter : own_excerpt (query_of (codes "a")) first ≡ codes "[autocompletion]"
excerpt-letter = shown (query_of (codes "a")) first first_words letter words-first asked-letter ∙ run-letter

run-letter_again : excerpt_of second_words (textual (letter second_words)) ≡ codes "[ahead]"
unfolding covers
run-letter_again = refl

excerpt-letter_again : own_excerpt (query_of (codes "a")) second ≡ codes "[ahead]"
excerpt-letter_again = shown (query_of (codes "a")) second second_words letter words-second asked-letter ∙ run-letter_again

asked-title : (v : List (List ℕ)) → map (part_marks v) (positive (query_of (codes "lambda"))) ≡ beginning (codes "lambda") v ∷ []
unfolding is_word_char encode_utf8
asked-title v = simp levels refl

-- of a word that the title alone has nothing is shown
excerpt-none : own_excerpt (query_of (codes "lambda")) third ≡ []
excerpt-none = shown (query_of (codes "lambda")) third (codes "types" ∷ []) (λ v. beginning (codes "lambda") v ∷ []) words-third asked-title

abbrev typ : List (List ℕ) → List (List Bool)
typ v = beginning (codes "typ") v ∷ []

asked-excluded : (v : List (List ℕ)) → map (part_marks v) (positive (query_of (codes "typ -search"))) ≡ typ v
unfolding is_word_char encode_utf8
asked-excluded v = simp levels refl

run-excluded : excerpt_of (codes "types" ∷ []) (textual (typ (codes "types" ∷ []))) ≡ codes "[types]"
unfolding covers
run-excluded = refl

-- an excluded part isn't looked for
excerpt-excluded : own_excerpt (query_of (codes "typ -search")) third ≡ codes "[types]"
excerpt-excluded = shown (query_of (codes "typ -search")) third (codes "types" ∷ []) typ words-third asked-excluded ∙ run-excluded

-- a phrase, nearness and a join
abbrev tied : List (List ℕ) → List (List Bool)
tied v =
    either_marks (map (λ x. false) v) (linked_marks Phrase (map (begins (codes "type")) v) (map (begins (codes "ahead")) v))
    ∷ either_marks (map (λ x. false) v) (linked_marks Near (map (begins (codes "ahead")) v) (exactly (codes "search") v))
    ∷ either_marks (map (λ x. false) v) (map (λ x. false) v)
    ∷ []

asked-tied : (v : List (List ℕ)) → map (part_marks v) (positive (query_of (codes "type-ahead ahead..search$ author[search]"))) ≡ tied v
unfolding is_word_char encode_utf8
asked-tied v = simp levels refl

run-tied : excerpt_of second_words (textual (tied second_words)) ≡ codes "[ahead] [search]"
unfolding covers is_near_marked
run-tied = refl

-- a phrase is served by its last word, nearness by a word that is near enough, and a join by no word
excerpt-tied : own_excerpt (query_of (codes "type-ahead ahead..search$ author[search]")) second ≡ codes "[ahead] [search]"
excerpt-tied = shown (query_of (codes "type-ahead ahead..search$ author[search]")) second second_words tied words-second asked-tied ∙ run-tied

-- ---- long runs
-- a word that is served stands first and last, and 31 stand between
abbrev long_words : List (List ℕ)
long_words = codes "x" ∷ (replicate 31 (codes "y") ++ codes "z" ∷ [])

-- so the last one isn't shown
run-long : excerpt_of long_words (map (exactly (codes "x")) (long_words ∷ []) ++ map (exactly (codes "z")) (long_words ∷ [])) ≡ codes "[x] y y y y y y y y y y y y y y y y y y y y y y y y y y y y y y y"
unfolding covers
run-long = refl

-- ---- replies
-- two hits, of which one has no excerpt
abbrev two_hits : Reply
two_hits = record { completions = []; facets = []; hits = record { doc = 1; score = 5; title = codes "b" } ∷ record { doc = 0; score = 4; title = [] } ∷ []; total_completions = 0; total_hits = 2 }

-- a hit's excerpt stands between its number and its score, also where it is empty
text-two_hits : excerpted_text two_hits (codes "[type] ahead" ∷ [] ∷ []) ≡ codes "{\"completions\":[],\"facets\":{},\"hits\":[{\"doc\":1,\"excerpt\":\"[type] ahead\",\"score\":5,\"title\":\"b\"},{\"doc\":0,\"excerpt\":\"\",\"score\":4,\"title\":\"\"}],\"total\":{\"completions\":0,\"hits\":2}}"
unfolding excerpted_text escape_byte digits
text-two_hits = refl
