-- The loops over parts, alternatives and links of a query.
--
--   is_join              the rows of a join
--   linked_reads, joined_reads, met_part-is, met_query-is      the blocks of a level by those of what it holds
--   entry_begins, entry_by_hits, entry_ends     the entry of the parts so far
--   hits_go_on, hits_end        their hits
--   no_rows, nothing_chained    behind no row there is none
--   chain_goes_on, chain_ends, chain_stops     the rows that the links so far lead to
--   linked_within        what is linked is in range
--   joined_rows, none_shared      the rows of a join, by those of its name; none where its inner query has no hit
--   docs_begin, docs_go_on, docs_end      the documents of the parts so far
use Rattle.std.proofs.Common.{◌≡◌, ℕ, ◌+◌, ◌<◌, ◌≤◌, ◌==◌, ◌&&◌, ◌||◌, Bool, true, false, cond, not, List, [], ◌∷◌, ◌++◌, length, map, take, drop, get_or, refl, sym, ap, ap₂}
use Rattle.std.proofs.Common.{subst, ◌∙◌, arith}
use Rattle.std.specs.Prelude.{filter, sum, fold}
use Rattle.cs_base.specs.outside.Causes.{ReadsWithin}
use Rattle.cs_base.specs.declared.content.query.Link.{Link}
use Rattle.cs_base.specs.declared.content.query.Link.TheVariants.{Phrase, Near}
use Rattle.cs_file.specs.Indexes.{IndexView}
use Rattle.cs_join.specs.Shared.{shares_word, shared}
use Rattle.cs_join.proofs.JoinLemmas.{joins_are_shared}
use Rattle.std.proofs.lemmas.List.{append-nil, append_assoc, take_all, drop_all, take_more, map-append}
use Rattle.std.specs.List.{list_any}
use Rattle.std.proofs.lemmas.List.Elements.{All-weaker, All-from_recursion}
use Rattle.std.proofs.lemmas.List.Sums.{fold-append}
use Rattle.cs_base.specs.declared.content.doc.Base.{Base}
use Rattle.cs_base.specs.declared.content.doc.Base.TheVariants as base
use Rattle.cs_base.specs.declared.content.doc.Post.{Post}
use Rattle.cs_base.specs.declared.content.doc.Row.{Row}
use Rattle.cs_base.specs.declared.content.query.Query.{Query, out-Query}
use Rattle.cs_base.specs.declared.content.query.Part.{Part, out-Part}
use Rattle.cs_base.specs.declared.content.query.Chain.{Chain}
use Rattle.cs_base.specs.declared.content.query.Linked.{Linked, out-Linked}
use Rattle.cs_base.specs.declared.content.query.Atom.{Atom, roll-Atom}
use Rattle.cs_base.specs.declared.content.query.Atom.TheVariants.{Join}
use Rattle.cs_base.specs.declared.content.query.Atom.TheOpen.{Atom-F}
use Rattle.cs_base.specs.declared.content.query.Atom.TheFolds.{fold-roll-Atom, fold_out-Linked, fold_out-Part, fold_out-Query}
use Rattle.cs_meet.specs.Filters.{stands_behind, is_near}
use Rattle.cs_model.specs.Answers.{PartRows, LinkedRows, atom_rows, chain_rows, chained, hits, linked_rows, part_rows, parts_of, query_parts, rows_of_atom}
use Rattle.cs_model.specs.Answers.{linked_to, rows_of_chain, rows_of_linked, rows_of_part, scored}
use Rattle.cs_model.specs.Collection.{named}
use Rattle.cs_model.specs.Corpus.{Corpus}
use Rattle.cs_model_kept.specs.Due.{Division, atom_met, chain_met, linked_met, part_met, query_met, met_of_atom, met_of_chain, met_of_linked, met_of_part, met_prefix}
use Rattle.cs_model_kept.specs.Due.{met_of_query}
use Rattle.cs_model_kept.specs.Entries.{EntryOf, base_of, entry, entry_at, entry_of}
use Rattle.cs_model_kept.specs.Entries as kept
use Rattle.cs_model_kept.proofs.EntryLemmas.{ends_more, extended_is, hits_are, listed_base, parts_read}
use Rattle.cs_rows.specs.IndexReading.{AreWithin, HasRows}
use Rattle.cs_rows.specs.Steps.{IsStep, docs_after, posts_hits}
use Rattle.cs_model_index.specs.Numbered.{rows_at}
use Rattle.cs_rows.specs.Stocked.{Stock, corpus_in, base_docs, base_hits, stock_docs, linked_posts, IsKnown, IsPicked, IsStocked}
use Rattle.cs_rows.proofs.AtomsLemmas.{picked_again}
use Rattle.cs_rows.proofs.RowsInRange.{kept_within}
use Rattle.cs_rows.proofs.FoldsLemmas.{part_rows-is}
use Rattle.cs_rows.proofs.HitsLemmas.{own_docs}
use Rattle.cs_rows.proofs.FoundLemmas.{is_excluded}
use Rattle.cs_rows.proofs.PartSteps.{AreHitsBehind, docs_more, hits_told, listed_told}
use Rattle.cs_rows.proofs.UnionLemmas.{one_more_link, picked_known}

-- ---- levels
module _ (k : Corpus) where
  pub is_join : (name : List ℕ) (inner : Query) → rows_of_atom k (Join name inner) ≡ atom_rows k (Atom-F.Join name (parts_of k inner))
  unfolding roll-Atom denote.Hole.Carrier.roll
  is_join name inner = fold-roll-Atom (List Row) (List Row) LinkedRows PartRows (List PartRows) (atom_rows k) chain_rows linked_rows part_rows query_parts
      (Atom-F.Join name inner)

module _ (v : Division) where
  met_linked-is : (l : Linked) → met_of_linked v l ≡ met_of_atom v (out-Linked l).atom
  met_linked-is l = fold_out-Linked ℕ ℕ ℕ ℕ ℕ (atom_met v) chain_met linked_met part_met query_met l

  pub linked_reads : (l : Linked) {before now : ℕ} → ReadsWithin (met_of_atom v (out-Linked l).atom) before now → ReadsWithin (met_of_linked v l) before now
  linked_reads l reads = record { later = reads.later; within = (let w = reads.within in let own = met_linked-is l in omega (arith, w, own)) }

  met_join : (name : List ℕ) (inner : Query) → met_of_atom v (Join name inner) ≡ met_prefix v (named name []) + met_of_query v inner
  unfolding roll-Atom denote.Hole.Carrier.roll
  met_join name inner = fold-roll-Atom ℕ ℕ ℕ ℕ ℕ (atom_met v) chain_met linked_met part_met query_met (Atom-F.Join name inner)

  pub joined_reads : {a : Atom} {name : List ℕ} {inner : Query} {before mid now : ℕ} → a ≡ Join name inner → ReadsWithin (met_of_query v inner) before mid
      → ReadsWithin (met_prefix v (named name [])) mid now → ReadsWithin (met_of_atom v a) before now
  joined_reads {name = name} {inner = inner} is query facet =
      let own = ap (met_of_atom v) is ∙ met_join name inner in record {
        later = (let x = query.later in let y = facet.later in omega (arith, x, y));
        within = (let x = query.within in let y = facet.within in omega (arith, x, y, own));
      }

  pub met_part-is : (p : Part) → met_of_part v p ≡ sum (map (met_of_chain v) (out-Part p).chains)
  met_part-is p = fold_out-Part ℕ ℕ ℕ ℕ ℕ (atom_met v) chain_met linked_met part_met query_met p

  pub met_query-is : (q : Query) → met_of_query v q ≡ sum (map (met_of_part v) (out-Query q).parts)
  met_query-is q = fold_out-Query ℕ ℕ ℕ ℕ ℕ (atom_met v) chain_met linked_met part_met query_met q

-- ---- parts
abbrev positive_by : List Part → Bool
positive_by ps = fold (λ before p. not (out-Part p).excluded) false ps

pub positive_more : (ps : List Part) (i : ℕ) (x : Part) → i < length ps → x ≡ get_or ps i x → positive_by (take (i + 1) ps) ≡ not (out-Part x).excluded
positive_more ps i x l at = ap positive_by (take_more ps i x l ∙ ap (λ y. take i ps ++ y ∷ []) (sym at))
    ∙ fold-append (λ before p. not (out-Part p).excluded) false (take i ps) (x ∷ [])

module _ (k : Corpus) where
  excluded_is : (p : Part) → (rows_of_part k p).excluded ≡ (out-Part p).excluded
  excluded_is p = ap (λ (r : PartRows). r.excluded) (part_rows-is k p)

  abbrev read : List Part → List PartRows
  read ps = map (rows_of_part k) ps

  read_more : (ps : List Part) (i : ℕ) (x : Part) → i < length ps → x ≡ get_or ps i x → read (take (i + 1) ps) ≡ read (take i ps) ++ rows_of_part k x ∷ []
  read_more ps i x l at = ap read (take_more ps i x l) ∙ map-append (rows_of_part k) (take i ps) (get_or ps i x ∷ [])
      ∙ ap (λ y. read (take i ps) ++ rows_of_part k y ∷ []) (sym at)

  -- whether the parts so far end in a positive one
  ends_from : (b : Bool) (done ps : List Part) → b ≡ kept.ends_positive (read done)
      → fold (λ before p. not (out-Part p).excluded) b ps ≡ kept.ends_positive (read (done ++ ps))
  ends_from b done [] is = is ∙ ap (λ l. kept.ends_positive (read l)) (sym (append-nil done))
  ends_from b done (p ∷ ps) is =
      ends_from (not (out-Part p).excluded) (done ++ p ∷ []) ps
      (ap not (sym (excluded_is p)) ∙ sym (ends_more (read done) (rows_of_part k p))
      ∙ ap kept.ends_positive (sym (map-append (rows_of_part k) done (p ∷ []))))
      ∙ ap (λ l. kept.ends_positive (read l)) (append_assoc done (p ∷ []) ps)

  pub ends_read : (ps : List Part) → positive_by ps ≡ kept.ends_positive (read ps)
  ends_read ps = ends_from false [] ps refl

-- the hits of parts by their entry
pub hits_by : (s : Stock) (ps : List PartRows) (positive : Bool) (e : EntryOf Post) → positive ≡ kept.ends_positive ps
    → entry_at s.words e ≡ entry (corpus_in s) ps → posts_hits positive e.base e.rows ≡ base_of (corpus_in s) ps
hits_by s ps positive e ends is = hits_told s.words positive e ∙ ap (λ b. kept.hits_of b (entry_at s.words e)) ends
    ∙ ap (kept.hits_of (kept.ends_positive ps)) is ∙ hits_are (corpus_in s) ps

-- and their documents
pub docs_by : (s : Stock) (ds : List ℕ) (ps : List PartRows) (b : Base) → ds ≡ stock_docs s → b ≡ base_of (corpus_in s) ps
    → base_docs ds b ≡ hits (corpus_in s) ps
docs_by s ds ps b same is =
    ap (map (λ h. h.doc)) (ap (λ xs. base_hits xs b) same ∙ listed_told s b ∙ ap (kept.listed (corpus_in s)) is ∙ listed_base (corpus_in s) ps)
    ∙ own_docs (scored ps) (λ d. refl) (hits (corpus_in s) ps)

module _ (s : Stock) (ps : List Part) where
  abbrev k : Corpus
  k = corpus_in s

  abbrev pub EntrySoFar : ℕ → EntryOf Post → Type 0
  EntrySoFar i e = entry_at s.words e ≡ entry k (map (rows_of_part k) (take i ps))

  pub entry_begins : (e : EntryOf Post) → e ≡ record { base = base.All; rows = [] } → EntrySoFar 0 e
  entry_begins e is = ap (entry_at s.words) is

  -- the hits of the parts so far
  abbrev pub HitsSoFar : ℕ → Base → Type 0
  HitsSoFar i hits = hits ≡ base_of k (map (rows_of_part k) (take i ps))

  pub entry_by_hits : (i : ℕ) (x : Part) → i < length ps → x ≡ get_or ps i x → (hits : Base) (e : EntryOf Post) → HitsSoFar i hits
      → IsStep s hits (rows_of_part k x) e → EntrySoFar (i + 1) e
  entry_by_hits i x l at hits e so_far step =
      let done = map (rows_of_part k) (take i ps) in
      let own : hits ≡ kept.hits_of (kept.ends_positive done) (entry k done) = so_far ∙ sym (hits_are k done) in
      step ∙ ap (λ b. kept.entry_after (kept.is_begun b) (kept.listed k b) (rows_of_part k x)) own
      ∙ sym (extended_is k done (rows_of_part k x)) ∙ ap (entry k) (sym (read_more k ps i x l at))

  pub hits_go_on : (i : ℕ) (x : Part) → i < length ps → x ≡ get_or ps i x → (was now : Base) → HitsSoFar i was → AreHitsBehind s was (rows_of_part k x) now
      → HitsSoFar (i + 1) now
  hits_go_on i x l at was now so_far behind =
      let done = map (rows_of_part k) (take i ps) in
      let p = rows_of_part k x in
      let all = map (rows_of_part k) (take (i + 1) ps) in
      behind.are ∙ hits_by s all (not p.excluded) behind.e (sym (ends_more done p) ∙ ap kept.ends_positive (sym (read_more k ps i x l at)))
      (entry_by_hits i x l at was behind.e so_far behind.step)

  pub hits_end : (q : Query) (i : ℕ) (hits : Base) → ps ≡ (out-Query q).parts → length ps ≤ i → HitsSoFar i hits → hits ≡ base_of k (parts_of k q)
  hits_end q i hits are l so_far = so_far ∙ ap (λ xs. base_of k (map (rows_of_part k) xs)) (take_all i ps l ∙ are) ∙ ap (base_of k) (sym (parts_read k q))

  pub entry_ends : (q : Query) (i : ℕ) (e : EntryOf Post) → ps ≡ (out-Query q).parts → length ps ≤ i → EntrySoFar i e → entry_at s.words e ≡ entry_of k q
  unfolding entry_of
  entry_ends q i e are l so_far = so_far ∙ ap (λ xs. entry k (map (rows_of_part k) xs)) (take_all i ps l ∙ are) ∙ ap (entry k) (sym (parts_read k q))

-- ---- links
pub no_rows : (rows : List Post) → length rows ≡ 0 → rows ≡ []
no_rows [] none = refl
no_rows (r ∷ rows) none = absurd (omega (arith, none))

nothing_linked : (link : Link) (rows : List Row) → linked_to link [] rows ≡ []
nothing_linked Phrase [] = refl
nothing_linked Phrase (r ∷ rows) = nothing_linked Phrase rows
nothing_linked Near [] = refl
nothing_linked Near (r ∷ rows) = nothing_linked Near rows

-- behind no row there is none
pub nothing_chained : (ls : List LinkedRows) → chained [] ls ≡ []
nothing_chained [] = refl
nothing_chained (l ∷ ls) = ap (λ x. chained x ls) (nothing_linked l.link l.rows) ∙ nothing_chained ls

module _ (s : Stock) (c : Chain) (links : List Linked) where
  abbrev kl : Corpus
  kl = corpus_in s

  pub record LinkedSoFar (i : ℕ) (found : List Post) : Type 0 where
    pub rows : rows_of_chain kl c ≡ chained (rows_at s.words found) (map (rows_of_linked kl) (drop i links))
    pub picked : IsPicked s found

  pub chain_goes_on : (i : ℕ) (x : Linked) → i < length links → x ≡ get_or links i x → (found next now : List Post) → LinkedSoFar i found
      → HasRows s (rows_of_atom kl (out-Linked x).atom) next → now ≡ linked_posts (out-Linked x).link found next → LinkedSoFar (i + 1) now
  chain_goes_on i x l at found next now so_far more are =
      let h = one_more_link s links i x (rows_of_chain kl c) found next now l at so_far.rows more.is more.picked are in
      record { rows = h.0; picked = h.1 }

  pub chain_ends : (i : ℕ) (found : List Post) → length links ≤ i → LinkedSoFar i found → HasRows s (rows_of_chain kl c) found
  chain_ends i found l so_far = record {
    is = sym (so_far.rows ∙ ap (λ ls. chained (rows_at s.words found) (map (rows_of_linked kl) ls)) (drop_all i links l));
    picked = so_far.picked;
  }

  pub chain_stops : (i : ℕ) (found : List Post) → length found ≡ 0 → LinkedSoFar i found → HasRows s (rows_of_chain kl c) found
  chain_stops i found none so_far =
      let empty = no_rows found none in
      let rest = map (rows_of_linked kl) (drop i links) in
      record {
        is = ap (rows_at s.words) empty ∙ sym (nothing_chained rest) ∙ ap (λ ps. chained (rows_at s.words ps) rest) (sym empty) ∙ sym so_far.rows;
        picked = so_far.picked;
      }

-- ---- what always holds
pub linked_within : (i : IndexView) (link : Link) (a b c : List Post) → AreWithin i b → c ≡ linked_posts link a b → AreWithin i c
linked_within i Phrase a b c w is = subst (AreWithin i) (sym is) (kept_within i (λ r. list_any (stands_behind r) a) b w)
linked_within i Near a b c w is = subst (AreWithin i) (sym is) (kept_within i (λ r. list_any (is_near r) a) b w)

-- ---- joins
pub joined_rows : (s : Stock) → IsStocked s → (a : Atom) (name : List ℕ) (inner : Query) → a ≡ Join name inner → (posts now : List Post) (docs : List ℕ)
    → HasRows s (atom_rows (corpus_in s) (Atom-F.Prefix (named name []))) posts
    → docs ≡ hits (corpus_in s) (parts_of (corpus_in s) inner) → now ≡ shared posts docs → HasRows s (rows_of_atom (corpus_in s) a) now
joined_rows s stocked a name inner is posts now docs has are now_is = record {
  is = ap (rows_at s.words) (now_is ∙ ap (shared posts) are)
      ∙ joins_are_shared (corpus_in s) name (parts_of (corpus_in s) inner) s.words posts stocked.words
      (All-weaker (IsKnown s) (λ p. p.word < length s.words) (λ p h. h.word) posts
      (All-from_recursion (IsKnown s) posts (picked_known s posts stocked has.picked.among))) has.is
      ∙ sym (is_join (corpus_in s) name inner) ∙ ap (rows_of_atom (corpus_in s)) (sym is);
  picked = picked_again s (shares_word docs posts) posts now has.picked now_is;
}

none_both : (b : Bool) → (b && false) ≡ false
none_both true = refl
none_both false = refl

none_alike : (r : Post) (rows : List Post) → shares_word [] rows r ≡ false
none_alike r [] = refl
none_alike r (x ∷ rows) = ap₂ (λ p q. p || q) (none_both (x.word == r.word)) (none_alike r rows)

none_kept : (all rows : List Post) → filter (shares_word [] all) rows ≡ []
none_kept all [] = refl
none_kept all (r ∷ rows) = ap (λ b. cond b (r ∷ filter (shares_word [] all) rows) (filter (shares_word [] all) rows)) (none_alike r all) ∙ none_kept all rows

-- with no hit no word is shared
pub none_shared : (posts : List Post) (docs : List ℕ) → length docs ≡ 0 → shared posts docs ≡ []
none_shared posts [] none = none_kept posts posts
none_shared posts (d ∷ docs) none = absurd (omega (arith, none))

pub entry_unrolled : (k : Corpus) (q : Query) → entry_of k q ≡ entry k (parts_of k q)
unfolding entry_of
entry_unrolled k q = refl

-- ---- the documents of hits
module _ (s : Stock) (ps : List Part) where
  abbrev kd : Corpus
  kd = corpus_in s

  abbrev pub DocsSoFar : List ℕ → ℕ → Base → Type 0
  DocsSoFar ds i b = base_docs ds b ≡ hits kd (map (rows_of_part kd) (take i ps))

  pub docs_begin : (ds : List ℕ) → ds ≡ stock_docs s → DocsSoFar ds 0 base.All
  docs_begin ds same = docs_by s ds [] base.All same refl

  pub docs_go_on : IsStocked s → (ds : List ℕ) → ds ≡ stock_docs s → (i : ℕ) (x : Part) → i < length ps → x ≡ get_or ps i x → (was now : Base) (posts : List Post)
      → DocsSoFar ds i was → HasRows s (rows_of_part kd x).rows posts → base_docs ds now ≡ docs_after ds was (out-Part x).excluded posts
      → DocsSoFar ds (i + 1) now
  docs_go_on stocked ds same i x l at was now posts so_far has is =
      let done = map (rows_of_part kd) (take i ps) in
      is ∙ docs_more s stocked ds same done (rows_of_part kd x) posts has was so_far (out-Part x).excluded (is_excluded s x)
      ∙ ap (hits kd) (sym (read_more kd ps i x l at))

  pub docs_end : (q : Query) (ds : List ℕ) (i : ℕ) (b : Base) → ps ≡ (out-Query q).parts → length ps ≤ i → DocsSoFar ds i b
      → base_docs ds b ≡ hits kd (parts_of kd q)
  docs_end q ds i b are l so_far = so_far ∙ ap (λ xs. hits kd (map (rows_of_part kd) xs)) (take_all i ps l ∙ are) ∙ ap (hits kd) (sym (parts_read kd q))
