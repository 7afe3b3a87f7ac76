-- Worked lines of a live corpus.
use Rattle.std.proofs.Common.{◌≡◌, ℕ, ◌+◌, true, false, cond, List, [], ◌∷◌, ◌++◌, length, map, inl, refl, sym, ap, ◌∙◌, codes}
use Rattle.std.specs.Prelude.{Option, Some, None, flat_map, if◌then◌else◌, nat_le, nat_lt}
use Rattle.std.specs.Fmt.{digits}
use Rattle.std.specs.List.{enumerate_from}
use Rattle.std.specs.Ordering.{eq_by_cmp, nat_cmp}
use Rattle.std.specs.Cmp.Lexicographic.{slice_cmp}
use Rattle.std.specs.FinMap as finmap
use Rattle.std.specs.FinMap.{contains_key}
use Rattle.std.specs.Option.{is_some}
use Rattle.std.specs.Str.{chars, is_utf8}
use Rattle.std.proofs.lemmas.Cmp.{nat_cmp_total, nat_list_cmp_total}
use Rattle.caseless.proofs.Computing.{caseless}
use Rattle.json.specs.Print.{escape_byte}
use Rattle.ucd_category.proofs.Computing.{ucd_category}
use Rattle.unicode.specs.GeneralCategory.{general_category}
use Rattle.cs_base.proofs.OrdersLemmas.{by_row_total}
use Rattle.cs_base.specs.content.Orders.{by_row}
use Rattle.cs_base.specs.declared.content.doc.Doc.{Doc}
use Rattle.cs_base.specs.declared.content.doc.Row.{Row}
use Rattle.cs_model.proofs.AnswersExamples.{titles-are, titles-found, worked, worked_rows, worked_titles}
use Rattle.cs_model.proofs.ListedMembers.{listed, members-listed}
use Rattle.cs_base.specs.content.Members.{members_in}
use Rattle.cs_base.specs.declared.content.scores.TheConstants.{USUAL_WEIGHTS}
use Rattle.cs_base.specs.declared.content.scores.Weights.{Weights}
use Rattle.cs_base.specs.declared.content.limits.TheConstants.{MAX_DOCS, MAX_ROWS, MAX_WORDS}
use Rattle.cs_model.specs.Corpus.{Corpus, distinct_words, doc_rows}
use Rattle.cs_model.specs.First.{first_reason, unless}
use Rattle.cs_model.specs.Faults.{error_text}
use Rattle.cs_model.specs.KeyText.{norm}
use Rattle.cs_model.specs.Outputs.{memory_text, text}
use Rattle.cs_model.specs.Words.{cut, is_word_char, words}
use Rattle.cs_model_changes.specs.Changes.{added, deleted}
use Rattle.cs_model_live.specs.LiveLines.{absent_text, added_text, by_refusals, change_text, deleted_text, document_text, done, full_text, outcome, outcome_state, outcome_text, said}
use Rattle.cs_model_live.specs.LiveStates.{LiveState, before_changes, changed, full_refusal, met_rows}
use Rattle.cs_model_live.specs.Courses.{Course, failed, own}
use Rattle.cs_model_live.specs.LiveStates as live
use lib.Utf8

-- ---- texts
texts-doc : added_text 3 1 ≡ codes "{\"doc\":3,\"state\":1}"
unfolding added_text digits escape_byte
texts-doc = refl

texts-state : deleted_text 2 ≡ codes "{\"state\":2}"
unfolding deleted_text digits escape_byte
texts-state = refl

texts-change : change_text ≡ codes "{\"error\":\"change\"}"
unfolding error_text escape_byte
texts-change = refl

texts-absent : absent_text ≡ codes "{\"error\":\"no document\"}"
unfolding error_text escape_byte
texts-absent = refl

texts-full : full_text live.full_words ≡ codes "{\"error\":\"full\",\"which\":\"words\"}"
unfolding full_text escape_byte
texts-full = refl

-- ---- lines over any state
module _ (w : Weights) (k : Corpus) (s : LiveState) where
  -- nothing is added
  adds-nothing : outcome w k s (codes "add ") ≡ said change_text
  adds-nothing = refl

  -- a piece of facets without its sign, and one without a name
  adds-facet : outcome w k s (codes "add x\ty") ≡ said (codes "{\"error\":\"document\",\"rule\":\"bad facet\"}")
  unfolding document_text digits escape_byte is_utf8 words norm chars cut caseless is_word_char general_category ucd_category lib.Utf8.encode
  adds-facet = refl

  adds-name : outcome w k s (codes "add x\t1=y") ≡ said (codes "{\"error\":\"document\",\"rule\":\"bad facet name\"}")
  unfolding document_text digits escape_byte is_utf8 words norm chars cut caseless is_word_char general_category ucd_category lib.Utf8.encode
  adds-name = refl

  -- no number, and one of too many digits
  deletes-nothing : outcome w k s (codes "del x") ≡ said change_text
  deletes-nothing = refl

  deletes-long : outcome w k s (codes "del 00000002") ≡ said change_text
  deletes-long = refl

  -- without the space behind it a line asks
  asks-add : outcome w k s (codes "add") ≡ said (text s.corpus (codes "add"))
  asks-add = refl

-- ---- lines over the corpus of the three documents
abbrev row : ℕ → ℕ → ℕ → List ℕ → Row
row d p s w = record { doc = d; word = w; pos = p; score = s }

abbrev types : Doc
types = record { title = codes "types of types"; facets = []; text = []; line = 2 }

three : finmap.len worked_titles ≡ 3
three = finmap.len-entries worked_titles ∙ ap length titles-are

-- its rows and those of a further document
abbrev four_rows : List Row
four_rows = worked_rows ++ row 3 1 4 (codes "types") ∷ row 3 2 4 (codes "of") ∷ row 3 3 4 (codes "types") ∷ []

rows-four : met_rows USUAL_WEIGHTS worked (types ∷ []) ≡ listed by_row four_rows
unfolding words norm chars cut caseless is_word_char general_category ucd_category lib.Utf8.encode
rows-four =
    ap (λ n. members_in by_row (worked_rows ++ flat_map (doc_rows USUAL_WEIGHTS) (enumerate_from n (types ∷ [])))) three
    ∙ members-listed by_row by_row_total four_rows

abbrev by_words : List Row → List (List ℕ) → Option live.Full
by_words rs ws = first_reason (unless (nat_le (length rs) MAX_ROWS) live.full_rows ∷ unless (nat_le (length ws) MAX_WORDS) live.full_words ∷ [])

abbrev room_of : ℕ → List Row → Option live.Full
room_of n rs = first_reason (unless (nat_lt n MAX_DOCS) live.full_docs ∷ unless (nat_le (length rs) MAX_ROWS) live.full_rows ∷ unless (nat_le (length (distinct_words rs)) MAX_WORDS) live.full_words ∷ [])

room : full_refusal USUAL_WEIGHTS worked (before_changes worked) types ≡ None
room =
    ap (λ n. room_of (n + 0) (met_rows USUAL_WEIGHTS worked (types ∷ []))) three
    ∙ ap (room_of 3) rows-four
    ∙ ap (by_words (listed by_row four_rows)) (members-listed (slice_cmp nat_cmp) nat_list_cmp_total (map (λ r. r.word) (listed by_row four_rows)))

-- a document is added
adds-types : outcome USUAL_WEIGHTS worked (before_changes worked) (codes "add types of types") ≡ done (added types)
unfolding is_utf8 words norm chars cut caseless is_word_char general_category ucd_category lib.Utf8.encode
adds-types = ap (λ f. by_refusals None f types) room

abbrev one_more : LiveState
one_more = changed USUAL_WEIGHTS worked (before_changes worked) (added types)

there : contains_key one_more.corpus.titles 2 ≡ true
there =
    ap is_some (finmap.get-insert nat_cmp_total worked_titles (finmap.len worked_titles + 0) types.title 2)
    ∙ ap (λ n. is_some (cond (eq_by_cmp nat_cmp 2 (n + 0)) (Some types.title) (finmap.get worked_titles 2))) three
    ∙ ap is_some (titles-found 2)

-- a document is deleted
deletes-two : outcome USUAL_WEIGHTS worked one_more (codes "del 2") ≡ done (deleted 2)
deletes-two = ap (λ b. if b then done (deleted 2) else said absent_text) there

abbrev one_less : LiveState
one_less = changed USUAL_WEIGHTS worked one_more (deleted 2)

gone : contains_key one_less.corpus.titles 2 ≡ false
gone = ap is_some (finmap.get-remove nat_cmp_total one_more.corpus.titles 2 2)

-- it can't be deleted again
deletes-again : outcome USUAL_WEIGHTS worked one_less (codes "del 2") ≡ said absent_text
deletes-again = ap (λ b. if b then done (deleted 2) else said absent_text) gone

-- ---- a course
abbrev lines : List (List ℕ)
lines = codes "add types of types" ∷ codes "del 2" ∷ codes "del 2" ∷ codes "del 2" ∷ []

abbrev texts : List (List ℕ)
texts = codes "{\"doc\":3,\"state\":1}" ∷ memory_text ∷ codes "{\"state\":2}" ∷ codes "{\"error\":\"no document\"}" ∷ []

-- where memory runs out the state stays, and the line may come again
course-worked : Course USUAL_WEIGHTS worked (before_changes worked) lines texts one_less
course-worked = (
  one_more,
  own (sym (ap (outcome_text worked (before_changes worked)) adds-types ∙ ap (λ n. added_text (n + 0) 1) three ∙ texts-doc)) (sym (ap (outcome_state USUAL_WEIGHTS worked (before_changes worked)) adds-types)),
  (
    one_more,
    failed (inl refl) refl,
    (
      one_less,
      own (sym (ap (outcome_text worked one_more) deletes-two ∙ texts-state)) (sym (ap (outcome_state USUAL_WEIGHTS worked one_more) deletes-two)),
      (one_less, own (sym (ap (outcome_text worked one_less) deletes-again ∙ texts-absent)) (sym (ap (outcome_state USUAL_WEIGHTS worked one_less) deletes-again)), refl),
    ),
  ),
)
