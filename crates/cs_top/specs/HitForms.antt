-- How the hits of a reply are shown: with their titles alone, or with an excerpt of each one's document too.
--
-- Source: this engine's own.
--
--   Excerpter                    which excerpt is shown of the document with a number, for a query
--   hit_excerpts x q hits        the excerpts of hits, in their order
--   text_with_excerpts x q r     the text of the reply r to the query q, each hit with its excerpt
--   excerpted_by x k p r         the text for the parameters p of which r is the first refusal: that of the reply where there is none
--   excerpted_answer x k p       the text that answers the parameters p over the corpus k: that of the reply, or the fault of the first
--                                refusal
--   IsExcerptedAnswer x k l t    t may be put for the line: that text or the memory text
--   where_there o f              what f says of a document, nothing where there is none
--   collection_excerpt b q d     the excerpt of document d of the collection b, for the query q
--   IsAnswerIn form b l t        t may be put for the line over the collection b, whose hits are shown in this form
--   IsReplyIn form t             t is the text of some reply whose hits are shown in this form
--
-- And by the documents at hand, None where hits are titled:
--
--   AtHand                       these documents
--   form_by docs                 the form in which hits are shown
--   own_excerpt_at docs q d      the excerpt of document d of them by its own words, for the query q
--   shown_reply docs q r         the text of the reply r to the query q
--   MayShow docs k l t           t may be put for the line over the corpus k
--   HaveFewWords docs            each of them has at most `MAX_DOC_WORDS` text words
--   AreDocumentsOf b docs        they are those of the collection b
use Rattle.std.specs.Prelude.{◌≡◌, ◌⊎◌, ℕ, ◌≤◌, List, [], map, length, All, Option, None, Some}
use Rattle.std.specs.List.{slice_get}
use Rattle.cs_base.specs.declared.content.doc.Doc.{Doc}
use Rattle.cs_base.specs.declared.content.limits.TheConstants.{MAX_DOC_WORDS}
use Rattle.cs_base.specs.declared.content.query.Query.{Query}
use Rattle.cs_model.specs.Collection.{documents}
use Rattle.cs_model.specs.Corpus.{Corpus, corpus}
use Rattle.cs_model.specs.Outputs.{IsAnswer, MayPut, memory_text}
use Rattle.cs_model.specs.Parameters.{RequestRefusal, refusal_text, request_of, request_refusal}
use Rattle.cs_model.specs.Replies.{HitShown, Reply, reply_text}
use Rattle.cs_model.specs.Requests.{reply_of}
use Rattle.cs_model.specs.Words.{words}
use Rattle.cs_model_excerpts.specs.ExcerptReplies.{excerpted_text}
use Rattle.cs_model_excerpts.specs.Excerpts.{excerpt, own_excerpt}
use Rattle.cs_indexing.specs.declared.words.HitForm.{HitForm}
use Rattle.cs_indexing.specs.declared.words.HitForm.TheVariants.{Titled, Excerpted}

-- ---- texts with excerpts
-- for the empty query, and of a document that isn't there, it may be the empty text
abbrev pub Excerpter : Type 0
Excerpter = Query → ℕ → List ℕ

-- one for each hit, by its document; without hits none
abbrev pub hit_excerpts : Excerpter → Query → List HitShown → List (List ℕ)
hit_excerpts x q hits = map (λ h. x q h.doc) hits

-- the text of a reply whose hits have these excerpts; without hits it has none
abbrev pub text_with_excerpts : Excerpter → Query → Reply → List ℕ
text_with_excerpts x q r = excerpted_text r (hit_excerpts x q r.hits)

-- the text that answers parameters with this first refusal, which is as without excerpts; where there is none, that of the reply
abbrev pub excerpted_by : Excerpter → Corpus → List ℕ → Option RequestRefusal → List ℕ
excerpted_by x k p None = text_with_excerpts x (request_of p).query (reply_of k (request_of p))
excerpted_by x k p (Some r) = refusal_text r

-- the text that answers a line, which for no parameters is the reply to the empty query
unfoldable pub excerpted_answer : Excerpter → Corpus → List ℕ → List ℕ
excerpted_answer x k p = excerpted_by x k p (request_refusal p)

-- an answer to a line: its text, or at any line the text of want of memory
abbrev pub IsExcerptedAnswer : Excerpter → Corpus → MayPut
IsExcerptedAnswer x k l t = (t ≡ excerpted_answer x k l) ⊎ (t ≡ memory_text)

-- ---- over a collection
-- nothing of no document
abbrev pub where_there : Option Doc → (Doc → List ℕ) → List ℕ
where_there None f = []
where_there (Some doc) f = f doc

-- the excerpt over the collection's corpus; nothing where it has no document with this number
abbrev pub collection_excerpt : List ℕ → Excerpter
collection_excerpt b q d = where_there (slice_get (documents b) d) (excerpt (corpus b) q d)

-- an answer to a line over the corpus of a collection, in the form in which its hits are shown
abbrev pub IsAnswerIn : HitForm → List ℕ → MayPut
IsAnswerIn Titled b = IsAnswer (corpus b)
IsAnswerIn Excerpted b = IsExcerptedAnswer (collection_excerpt b) (corpus b)

-- whatever the reply is, and whatever its excerpts are, of which each hit has one
abbrev pub IsReplyIn : HitForm → List ℕ → Type 0
IsReplyIn Titled t = (r : Reply) × (t ≡ reply_text r)
IsReplyIn Excerpted t = (r : Reply) × (xs : List (List ℕ)) × (length xs ≡ length r.hits) × (t ≡ excerpted_text r xs)

-- ---- by the documents at hand
-- None where hits are titled; else the documents by number
abbrev pub AtHand : Type 0
AtHand = Option (List Doc)

-- titled without documents, and excerpted where there is none among them
abbrev pub form_by : AtHand → HitForm
form_by None = Titled
form_by (Some docs) = Excerpted

-- nothing where there is no document with this number
abbrev pub own_excerpt_at : List Doc → Excerpter
own_excerpt_at docs q d = where_there (slice_get docs d) (own_excerpt q)

-- without documents that of titles alone
abbrev pub shown_reply : AtHand → Query → Reply → List ℕ
shown_reply None q r = reply_text r
shown_reply (Some docs) q r = text_with_excerpts (own_excerpt_at docs) q r

-- an answer to the line, without documents that of titles alone
abbrev pub MayShow : AtHand → Corpus → MayPut
MayShow None k = IsAnswer k
MayShow (Some docs) k = IsExcerptedAnswer (own_excerpt_at docs) k

-- so it is of each document of a collection that is accepted, and where there is none
abbrev pub HaveFewWords : AtHand → Type 0
HaveFewWords None = Unit {0}
HaveFewWords (Some docs) = All (λ d. length (words d.text) ≤ MAX_DOC_WORDS) docs

-- in their order; without documents nothing is said
abbrev pub AreDocumentsOf : List ℕ → AtHand → Type 0
AreDocumentsOf b None = Unit {0}
AreDocumentsOf b (Some docs) = docs ≡ documents b
