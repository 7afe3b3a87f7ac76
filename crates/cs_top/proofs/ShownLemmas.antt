-- Texts of lines, by the documents at hand for excerpts.
--
--   few_words, few_at                      documents of a collection that isn't refused have few words
--   own_at                                 the excerpt of a document that is lent
--   reply_in                               the text of a reply is one in its form
--   refused_shown, reply_shown, memory_shown     a refusal, a reply and want of memory as what may be shown for a line
--   excerpts_are_own                       the excerpts of a collection are told by its documents' own words
--   shown_in                               what may be shown with a collection's documents is an answer over it
use Rattle.std.proofs.Common.{◌≡◌, ◌≢◌, ◌∙◌, ◌≤◌, ℕ, List, [], ◌∷◌, inl, inr, refl, sym, ap, subst, map, length, arith}
use Rattle.std.specs.Prelude.{Option, Some, None}
use Rattle.std.specs.List.{slice_get}
use Rattle.std.specs.Option.{option_map}
use Rattle.std.proofs.lemmas.List.{length-map}
use Rattle.std.proofs.lemmas.List.Elements.{All-get_or, All-weaker}
use Rattle.std.proofs.lemmas.Option.{get_or_from_slice_get, slice_get-map, slice_get_within}
use Rattle.cs_base.specs.declared.content.doc.Doc.{Doc}
use Rattle.cs_base.specs.declared.content.limits.TheConstants.{MAX_DOC_WORDS}
use Rattle.cs_base.specs.declared.content.query.Query.{Query}
use Rattle.cs_docs.specs.FacetPieces.{CanBeListed}
use Rattle.cs_docs.specs.LinesRead.{doc_of_lent}
use Rattle.cs_docs.specs.declared.document.LentDoc.{LentDoc}
use Rattle.cs_docs.proofs.AcceptedCollections.{accepted_docs}
use Rattle.cs_http.specs.Refusing.{IsCause}
use Rattle.cs_json.specs.FaultTexts.{fault_text}
use Rattle.cs_json.specs.declared.fault.Fault.TheVariants as faults
use Rattle.cs_model.specs.Collection.{docs_refusal, documents, weights}
use Rattle.cs_model.specs.Corpus.{Corpus, corpus}
use Rattle.cs_model.specs.Faults.{bad_text, limit_text, param_text}
use Rattle.cs_model.specs.Outputs.{memory_text}
use Rattle.cs_model.specs.Parameters.{RequestRefusal, request_of, request_refusal}
use Rattle.cs_model.specs.Replies.{HitShown, Reply}
use Rattle.cs_model.specs.Requests.{Request, reply_of}
use Rattle.cs_model.specs.Words.{words}
use Rattle.cs_model_excerpts.specs.ExcerptReplies.{excerpted_text}
use Rattle.cs_model_excerpts.specs.Excerpts.{excerpt, own_excerpt}
use Rattle.cs_model_excerpts.proofs.OwnLemmas.{excerpts_own}
use Rattle.cs_model_excerpts.proofs.OwnRows.{corpora_have}
use Rattle.cs_query.specs.declared.request.ReqFault.{ReqFault}
use Rattle.cs_query.specs.declared.request.ReqFault.TheVariants as causes
use Rattle.cs_top.specs.HitForms.{AreDocumentsOf, AtHand, Excerpter, HaveFewWords, IsAnswerIn, IsReplyIn, MayShow, collection_excerpt, excerpted_answer, excerpted_by, text_with_excerpts, form_by, hit_excerpts, own_excerpt_at, shown_reply, where_there}
use Rattle.cs_top.proofs.LineTexts.{refused_text, request_text}

-- ---- documents
pub few_words : (b : List ℕ) (docs : List Doc) → docs_refusal b ≡ None → docs ≡ documents b → HaveFewWords (Some docs)
few_words b docs h is = All-weaker CanBeListed (λ d. length (words d.text) ≤ MAX_DOC_WORDS) (λ d c. let few = c.few in omega (arith, few)) docs (accepted_docs b docs h is)

module _ (docs : List LentDoc) (n : ℕ) where
  lent_at : (o : Option LentDoc) → slice_get docs n ≡ o → slice_get (map doc_of_lent docs) n ≡ option_map doc_of_lent o
  lent_at o is = slice_get-map doc_of_lent docs n ∙ ap (option_map doc_of_lent) is

  pub few_at : (d : LentDoc) → HaveFewWords (Some (map doc_of_lent docs)) → slice_get docs n ≡ Some d → length (words d.text.now) ≤ MAX_DOC_WORDS
  few_at d few is =
      let all = map doc_of_lent docs in
      let there : slice_get all n ≡ Some (doc_of_lent d) = lent_at (Some d) is in
      subst (λ (x : Doc). length (words x.text) ≤ MAX_DOC_WORDS) (get_or_from_slice_get all n (doc_of_lent d) (doc_of_lent d) there)
      (All-get_or (λ x. length (words x.text) ≤ MAX_DOC_WORDS) all n (doc_of_lent d) (slice_get_within all n (doc_of_lent d) there) few)

  pub own_at : (q : Query) (o : Option LentDoc) → slice_get docs n ≡ o → own_excerpt_at (map doc_of_lent docs) q n ≡ where_there (option_map doc_of_lent o) (own_excerpt q)
  own_at q o is = ap (λ x. where_there x (own_excerpt q)) (lent_at o is)

-- ---- replies
pub reply_in : (docs : AtHand) (q : Query) (r : Reply) → IsReplyIn (form_by docs) (shown_reply docs q r)
reply_in None q r = (r, refl)
reply_in (Some docs) q r = (r, hit_excerpts (own_excerpt_at docs) q r.hits, length-map r.hits (λ h. own_excerpt_at docs q h.doc), refl)

-- ---- lines
module _ (x : Excerpter) (k : Corpus) (p : List ℕ) where
  refused_excerpted : (e : ReqFault) → IsCause p e → e ≢ causes.Memory → excerpted_answer x k p ≡ fault_text (faults.Refused e)
  unfolding excerpted_answer fault_text bad_text limit_text param_text
  refused_excerpted (causes.BadParam which) h other = ap (excerpted_by x k p) h
  refused_excerpted (causes.Bad at) h other = ap (excerpted_by x k p) h
  refused_excerpted (causes.Limit at which) h other = ap (excerpted_by x k p) h
  refused_excerpted causes.Memory h other = absurd (other refl)

  request_excerpted : (r : Request) → request_refusal p ≡ None → r ≡ request_of p → excerpted_answer x k p ≡ text_with_excerpts x r.query (reply_of k r)
  unfolding excerpted_answer
  request_excerpted r accepted is = ap (excerpted_by x k p) accepted ∙ ap (λ (y : Request). text_with_excerpts x y.query (reply_of k y)) (sym is)

pub refused_shown : (docs : AtHand) (k : Corpus) (p : List ℕ) (e : ReqFault) → IsCause p e → e ≢ causes.Memory → MayShow docs k p (fault_text (faults.Refused e))
refused_shown None k p e cause other = inl (sym (refused_text k p e cause other))
refused_shown (Some docs) k p e cause other = inl (sym (refused_excerpted (own_excerpt_at docs) k p e cause other))

pub reply_shown : (docs : AtHand) (k : Corpus) (p : List ℕ) (r : Request) → request_refusal p ≡ None → r ≡ request_of p → MayShow docs k p (shown_reply docs r.query (reply_of k r))
reply_shown None k p r accepted is = inl (sym (request_text k p r accepted is))
reply_shown (Some docs) k p r accepted is = inl (sym (request_excerpted (own_excerpt_at docs) k p r accepted is))

pub memory_shown : (docs : AtHand) (k : Corpus) (p : List ℕ) → MayShow docs k p memory_text
memory_shown None k p = inr refl
memory_shown (Some docs) k p = inr refl

-- ---- over a collection
one_own : (b : List ℕ) (q : Query) (d : ℕ) (o : Option Doc) → slice_get (documents b) d ≡ o → where_there o (own_excerpt q) ≡ where_there o (excerpt (corpus b) q d)
one_own b q d None is = refl
one_own b q d (Some doc) is =
    sym (excerpts_own (corpus b) (weights b) d doc (corpora_have (weights b) (documents b) d doc (slice_get_within (documents b) d doc is) (sym (get_or_from_slice_get (documents b) d doc doc is))) q)

pub excerpts_are_own : (b : List ℕ) (q : Query) (d : ℕ) → own_excerpt_at (documents b) q d ≡ collection_excerpt b q d
excerpts_are_own b q d = one_own b q d (slice_get (documents b) d) refl

hits_alike : (x y : Excerpter) (q : Query) → ((d : ℕ) → x q d ≡ y q d) → (hits : List HitShown) → hit_excerpts x q hits ≡ hit_excerpts y q hits
hits_alike x y q same [] = refl
hits_alike x y q same (h ∷ hits) = ap (λ t. t ∷ hit_excerpts x q hits) (same h.doc) ∙ ap (λ ts. y q h.doc ∷ ts) (hits_alike x y q same hits)

texts_alike : (x y : Excerpter) → ((q : Query) (d : ℕ) → x q d ≡ y q d) → (k : Corpus) (p : List ℕ) (o : Option RequestRefusal) → excerpted_by x k p o ≡ excerpted_by y k p o
texts_alike x y same k p None = let r = reply_of k (request_of p) in ap (excerpted_text r) (hits_alike x y (request_of p).query (same (request_of p).query) r.hits)
texts_alike x y same k p (Some r) = refl

answers_alike : (x y : Excerpter) → ((q : Query) (d : ℕ) → x q d ≡ y q d) → (k : Corpus) (p : List ℕ) → excerpted_answer x k p ≡ excerpted_answer y k p
unfolding excerpted_answer
answers_alike x y same k p = texts_alike x y same k p (request_refusal p)

pub shown_in : (b : List ℕ) (docs : AtHand) → AreDocumentsOf b docs → (l t : List ℕ) → MayShow docs (corpus b) l t → IsAnswerIn (form_by docs) b l t
shown_in b None are l t h = h
shown_in b (Some docs) are l t (inl is) =
    inl (is ∙ ap (λ (ds : List Doc). excerpted_answer (own_excerpt_at ds) (corpus b) l) are ∙ answers_alike (own_excerpt_at (documents b)) (collection_excerpt b) (excerpts_are_own b) (corpus b) l)
shown_in b (Some docs) are l t (inr is) = inr is
