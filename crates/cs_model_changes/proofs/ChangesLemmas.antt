-- What holds of a corpus under changes.
--
--   documents_changed   adding documents, one after the other, to a corpus of documents
--   additions_join      the law of additions
--   Numbered            the documents have numbers below the next one
--   all_numbered        changes leave it so
--   Away                a number is below the next one, and nothing of its document is there
--   stays_away          changes leave it so
--   deleted_are_gone    the law of deletions
use Rattle.std.proofs.Common.{◌≡◌, ℕ, ◌+◌, ◌<◌, ◌≤◌, ◌||◌, max, Bool, true, false, true≢false, not, cond, List, [], ◌∷◌, ◌++◌, map, length, length-append, append_assoc, refl, sym, ◌∙◌, ap, subst, arith, Option, Some, None}
use Rattle.std.specs.Prelude.{◌==◌, filter, fold}
use Rattle.std.specs.List.{list_any, enumerate_from}
use Rattle.std.specs.Option.{is_some}
use Rattle.std.specs.Ordering.{nat_cmp, eq_by_cmp}
use Rattle.std.specs.Cmp.{Equal-is, tied_itself}
use Rattle.std.specs.FinMap.{keys, from_entries, from_entries_push, get, get-insert, get-remove, insert, contains_key, contains_key-keys, find, nat_cmp-IsAntisymmetric}
use Rattle.std.proofs.lemmas.Bool.Decides.{nat_tests}
use Rattle.std.proofs.lemmas.Cmp.{nat_cmp_total}
use Rattle.std.proofs.lemmas.List.{map-append, length-map, append-nil}
use Rattle.std.proofs.lemmas.List.Folds.{list_any-append}
use Rattle.cs_base.proofs.MembersLemmas.{members-alike, is_member-listed, any_listed}
use Rattle.cs_base.proofs.OrdersLemmas.{by_row_total, by_row_exact}
use Rattle.cs_base.specs.content.Members.{members_in}
use Rattle.cs_base.specs.content.Orders.{by_row}
use Rattle.cs_base.specs.declared.content.doc.Doc.{Doc}
use Rattle.cs_base.specs.declared.content.doc.Row.{Row}
use Rattle.cs_base.specs.declared.content.scores.Weights.{Weights}
use Rattle.cs_base.specs.declared.content.scores.TheConstants.{BEHIND_TITLE}
use Rattle.cs_model.specs.Answers.{in_doc}
use Rattle.cs_model.specs.Collection.{facet_words}
use Rattle.cs_model.specs.Corpus.{Corpus, corpus_of, doc_rows, facet_rows, placed, rows_of, text_rows, title_of, title_rows, titles_of}
use Rattle.cs_model.specs.Words.{words}
use Rattle.cs_model_index.proofs.ImageLemmas.{titles_listed}
use Rattle.cs_model_changes.specs.Changes.{Change, added, deleted, Changing, applied, first_behind, started, now, IsGone}
use Rattle.cs_model_changes.specs.Joined.{joined}
use Rattle.cs_model_changes.proofs.JoinedLemmas.{all_rows, joined_are_corpora, numbered, rows_apart}

-- ---- additions
abbrev over : Weights → List Doc → Changing
over weights ds = record { corpus = corpus_of weights ds; next = length ds }

behind_from : (a : ℕ) (ts : List (List ℕ)) → max a (first_behind (map (λ e. e.0) (enumerate_from a ts))) ≡ a + length ts
behind_from a [] = omega arith
behind_from a (t ∷ ts) = omega (arith, behind_from (a + 1) ts)

first_next : (weights : Weights) (ds : List Doc) → started (corpus_of weights ds) ≡ over weights ds
first_next weights ds =
    let ts = map title_of ds in
    let behind : first_behind (keys (titles_of ds)) ≡ length ds =
    ap (λ es. first_behind (map (λ e. e.0) es)) (titles_listed ts) ∙ omega (arith, behind_from 0 ts, length-map ds title_of) in
    ap (λ n. let s : Changing = record { corpus = corpus_of weights ds; next = n } in s) behind

not_itself : (q a : ℕ) → a < q → eq_by_cmp nat_cmp q a ≡ false
not_itself q a h = grind (arith, nat_tests)

none_behind : (q a : ℕ) (ts : List (List ℕ)) → a + length ts ≤ q → find nat_cmp q (enumerate_from a ts) ≡ None
none_behind q a [] h = refl
none_behind q a (t ∷ ts) h =
    ap (λ b. cond b (Some t) (find nat_cmp q (enumerate_from (a + 1) ts))) (not_itself q a (omega (arith, h)))
    ∙ none_behind q (a + 1) ts (omega (arith, h))

added_title : (ds : List Doc) (doc : Doc) → insert (titles_of ds) (length ds) doc.title ≡ titles_of (ds ++ doc ∷ [])
added_title ds doc =
    let ts = map title_of ds in
    sym (ap (λ es. from_entries {R = nat_cmp} es)
    (ap (enumerate_from 0) (map-append title_of ds (doc ∷ []))
    ∙ numbered 0 ts (doc.title ∷ [])
    ∙ ap (λ n. enumerate_from 0 ts ++ (n, doc.title) ∷ []) (let e : 0 + length ts ≡ length ds = omega (arith, length-map ds title_of) in e))
    ∙ from_entries_push nat_cmp_total nat_cmp-IsAntisymmetric (enumerate_from 0 ts) (length ds) doc.title (none_behind (length ds) 0 ts (omega (arith, length-map ds title_of))))

added_rows : (weights : Weights) (ds : List Doc) (doc : Doc) → members_in by_row (rows_of weights ds ++ doc_rows weights (length ds, doc)) ≡ rows_of weights (ds ++ doc ∷ [])
added_rows weights ds doc =
    let own : List Row = doc_rows weights (length ds, doc) in
    members-alike by_row by_row_total by_row_exact (rows_of weights ds ++ own) (all_rows weights 0 (ds ++ doc ∷ [])) (λ q.
    let is : Row → Bool = eq_by_cmp by_row q in
    list_any-append is (rows_of weights ds) own
    ∙ ap (λ b. b || list_any is own) (is_member-listed by_row by_row_total (all_rows weights 0 ds) q)
    ∙ sym (list_any-append is (all_rows weights 0 ds) own)
    ∙ ap (λ l. list_any is (all_rows weights 0 ds ++ l)) (sym (append-nil own))
    ∙ ap (list_any is) (sym (rows_apart weights ds (doc ∷ []))))

one_added : (weights : Weights) (ds : List Doc) (doc : Doc) → applied weights (over weights ds) (added doc) ≡ over weights (ds ++ doc ∷ [])
one_added weights ds doc =
    let count : length ds + 1 ≡ length (ds ++ doc ∷ []) = omega (arith, length-append ds (doc ∷ [])) in
    λ i. record { corpus = record { titles = added_title ds doc i; rows = added_rows weights ds doc i }; next = count i }

pub documents_changed : (weights : Weights) (ds es : List Doc) → fold (applied weights) (over weights ds) (map added es) ≡ over weights (ds ++ es)
documents_changed weights ds [] = ap (over weights) (sym (append-nil ds))
documents_changed weights ds (e ∷ es) =
    ap (λ s. fold (applied weights) s (map added es)) (one_added weights ds e)
    ∙ documents_changed weights (ds ++ e ∷ []) es ∙ ap (over weights) (append_assoc ds (e ∷ []) es)

pub additions_join : (weights : Weights) (ds es : List Doc) → now weights (corpus_of weights ds) (map added es) ≡ joined (corpus_of weights ds) (corpus_of weights es)
additions_join weights ds es =
    ap (λ s. (fold (applied weights) s (map added es)).corpus) (first_next weights ds)
    ∙ ap (λ s. s.corpus) (documents_changed weights ds es) ∙ joined_are_corpora weights ds es

-- ---- numbers that were given
pub record Numbered (s : Changing) : Type 0 where
  pub below : (q : ℕ) → contains_key s.corpus.titles q ≡ true → q < s.next

below_first : (q : ℕ) (ns : List ℕ) → list_any (eq_by_cmp nat_cmp q) ns ≡ true → q < first_behind ns
below_first q [] h = absurd (true≢false (sym h))
below_first q (n ∷ ns) h =
    elim (eq_by_cmp nat_cmp q n) as (λ b. eq_by_cmp nat_cmp q n ≡ b → (b || list_any (eq_by_cmp nat_cmp q) ns) ≡ true → q < max (n + 1) (first_behind ns)) [
      | true ↦ λ e _. let same : q ≡ n = nat_cmp-IsAntisymmetric q n ((Equal-is (nat_cmp q n)).0 e) in omega arith
      | false ↦ λ _ r. omega (arith, below_first q ns r)
    ] refl h

start_numbered : (k : Corpus) → Numbered (started k)
start_numbered k = record { below = λ q h. below_first q (keys k.titles) (sym (contains_key-keys k.titles q) ∙ h) }

given_added : (weights : Weights) (s : Changing) (doc : Doc) → Numbered s → (q : ℕ) → contains_key (applied weights s (added doc)).corpus.titles q ≡ true → q < s.next + 1
given_added weights s doc h q there =
    elim (eq_by_cmp nat_cmp q s.next) as (λ b. eq_by_cmp nat_cmp q s.next ≡ b → is_some (cond b (Some doc.title) (get s.corpus.titles q)) ≡ true → q < s.next + 1) [
      | true ↦ λ e _. let same : q ≡ s.next = nat_cmp-IsAntisymmetric q s.next ((Equal-is (nat_cmp q s.next)).0 e) in omega arith
      | false ↦ λ _ r. omega (arith, h.below q r)
    ] refl (ap is_some (sym (get-insert nat_cmp_total s.corpus.titles s.next doc.title q)) ∙ there)

given_left : (weights : Weights) (s : Changing) (d : ℕ) → Numbered s → (q : ℕ) → contains_key (applied weights s (deleted d)).corpus.titles q ≡ true → q < s.next
given_left weights s d h q there =
    elim (eq_by_cmp nat_cmp q d) as (λ b. is_some (cond b None (get s.corpus.titles q)) ≡ true → q < s.next) [
      | true ↦ λ r. absurd (true≢false (sym r))
      | false ↦ λ r. h.below q r
    ] (ap is_some (sym (get-remove nat_cmp_total s.corpus.titles d q)) ∙ there)

numbered_after : (weights : Weights) (s : Changing) (c : Change) → Numbered s → Numbered (applied weights s c)
numbered_after weights s (added doc) h = record { below = given_added weights s doc h }
numbered_after weights s (deleted d) h = record { below = given_left weights s d h }

all_numbered : (weights : Weights) (s : Changing) (cs : List Change) → Numbered s → Numbered (fold (applied weights) s cs)
all_numbered weights s [] h = h
all_numbered weights s (c ∷ cs) h = all_numbered weights (applied weights s c) cs (numbered_after weights s c h)

-- ---- deletions
pub record Away (d : ℕ) (s : Changing) : Type 0 where
  pub below : d < s.next
  pub gone : IsGone d s.corpus

other_number : (d n : ℕ) → d < n → eq_by_cmp nat_cmp d n ≡ false
other_number d n h = grind (arith, nat_tests)

other_doc : (d n : ℕ) → d < n → (n == d) ≡ false
other_doc d n h = grind (arith, nat_tests)

none_through : {Y : Type 0} (f : Y → Row) (d n : ℕ) (ys : List Y) → ((y : Y) → (f y).doc ≡ n) → d < n → list_any (in_doc d) (map f ys) ≡ false
none_through f d n [] same h = refl
none_through f d n (y ∷ ys) same h =
    ap (λ m. (m == d) || list_any (in_doc d) (map f ys)) (same y)
    ∙ ap (λ b. b || list_any (in_doc d) (map f ys)) (other_doc d n h) ∙ none_through f d n ys same h

neither : (a b : Bool) → a ≡ false → b ≡ false → (a || b) ≡ false
neither true b h k = h
neither false b h k = k

others_rows : (weights : Weights) (d n : ℕ) (doc : Doc) → d < n → list_any (in_doc d) (doc_rows weights (n, doc)) ≡ false
others_rows weights d n doc h =
    list_any-append (in_doc d) (facet_rows weights n doc ++ title_rows weights n doc) (text_rows weights n doc)
    ∙ neither _ _
    (list_any-append (in_doc d) (facet_rows weights n doc) (title_rows weights n doc)
    ∙ neither _ _ (none_through (λ w. placed n weights.facet (0, w)) d n (facet_words doc.facets) (λ _. refl) h) (none_through (placed n weights.title) d n (enumerate_from 1 (words doc.title)) (λ _. refl) h))
    (none_through (placed n weights.text) d n (enumerate_from (length (words doc.title) + BEHIND_TITLE) (words doc.text)) (λ _. refl) h)

first_of_two : (a b : Bool) → (a || b) ≡ false → a ≡ false
first_of_two true b h = h
first_of_two false b h = refl

second_of_two : (a b : Bool) → (a || b) ≡ false → b ≡ false
second_of_two true b h = absurd (true≢false h)
second_of_two false b h = h

none_filtered : (t p : Row → Bool) (rows : List Row) → list_any t rows ≡ false → list_any t (filter p rows) ≡ false
none_filtered t p [] h = refl
none_filtered t p (r ∷ rows) h =
    let rest = none_filtered t p rows (second_of_two (t r) (list_any t rows) h) in
    elim (p r) as (λ b. list_any t (cond b (r ∷ filter p rows) (filter p rows)) ≡ false) [
      | true ↦ neither _ _ (first_of_two (t r) (list_any t rows) h) rest
      | false ↦ rest
    ]

none_left : (t : Row → Bool) (rows : List Row) → list_any t (filter (λ r. not (t r)) rows) ≡ false
none_left t [] = refl
none_left t (r ∷ rows) =
    elim (t r) as (λ b. t r ≡ b → list_any t (cond (not b) (r ∷ filter (λ r. not (t r)) rows) (filter (λ r. not (t r)) rows)) ≡ false) [
      | true ↦ λ _. none_left t rows
      | false ↦ λ e. neither _ _ e (none_left t rows)
    ] refl

goes : (weights : Weights) (s : Changing) (d : ℕ) → d < s.next → Away d (applied weights s (deleted d))
goes weights s d h = record {
  below = h;
  gone = record {
    titles = get-remove nat_cmp_total s.corpus.titles d d ∙ ap (λ b. cond b None (get s.corpus.titles d)) ((Equal-is (nat_cmp d d)).1 (tied_itself nat_cmp_total d));
    rows = none_left (in_doc d) s.corpus.rows;
  };
}

no_title : (b : Bool) (o : Option (List ℕ)) → o ≡ None → cond b None o ≡ None
no_title true o h = refl
no_title false o h = h

away_after : (weights : Weights) (d : ℕ) (s : Changing) (c : Change) → Away d s → Away d (applied weights s c)
away_after weights d s (added doc) h =
    let own = doc_rows weights (s.next, doc) in
    record {
      below = omega (arith, h.below);
      gone = record {
        titles = get-insert nat_cmp_total s.corpus.titles s.next doc.title d
            ∙ ap (λ b. cond b (Some doc.title) (get s.corpus.titles d)) (other_number d s.next h.below) ∙ h.gone.titles;
        rows = any_listed by_row by_row_total by_row_exact (in_doc d) (s.corpus.rows ++ own)
            ∙ list_any-append (in_doc d) s.corpus.rows own
            ∙ neither _ _ h.gone.rows (others_rows weights d s.next doc h.below);
      };
    }
away_after weights d s (deleted e) h = record {
  below = h.below;
  gone = record {
    titles = get-remove nat_cmp_total s.corpus.titles e d
        ∙ no_title (eq_by_cmp nat_cmp d e) (get s.corpus.titles d) h.gone.titles;
    rows = none_filtered (in_doc d) (λ r. not (in_doc e r)) s.corpus.rows h.gone.rows;
  };
}

stays_away : (weights : Weights) (d : ℕ) (s : Changing) (cs : List Change) → Away d s → Away d (fold (applied weights) s cs)
stays_away weights d s [] h = h
stays_away weights d s (c ∷ cs) h = stays_away weights d (applied weights s c) cs (away_after weights d s c h)

in_turn : (weights : Weights) (s : Changing) (before after : List Change) → fold (applied weights) s (before ++ after) ≡ fold (applied weights) (fold (applied weights) s before) after
in_turn weights s [] after = refl
in_turn weights s (c ∷ before) after = in_turn weights (applied weights s c) before after

pub deleted_are_gone : (weights : Weights) (k : Corpus) (before after : List Change) (d : ℕ) → contains_key (now weights k before).titles d ≡ true → IsGone d (now weights k (before ++ deleted d ∷ after))
deleted_are_gone weights k before after d there =
    let s = fold (applied weights) (started k) before in
    let given : d < s.next = (all_numbered weights (started k) before (start_numbered k)).below d there in
    subst (λ (x : Changing). IsGone d x.corpus) (sym (in_turn weights (started k) before (deleted d ∷ after))) (stays_away weights d (applied weights s (deleted d)) after (goes weights s d given)).gone
