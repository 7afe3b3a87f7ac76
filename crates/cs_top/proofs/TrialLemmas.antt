-- What a trial counts: one request more, and the summary of all.
--
--   IsOneMore                a reply counts for its plan
--   asked_none               how an engine stands before the first query
--   asked_more               and after one more
--   hits_told                the hits that a reply counts
--   take_queries             the queries of one request more
--   asked_queries, few_requests      requests of a trial ask its queries, and are few
--   ok_then                  what follows of a value that is there
--   told_is                  counts as the lines of a summary
--   summed                   the text of the summary
use Rattle.std.proofs.Common.{◌≡◌, ℕ, ◌+◌, ◌^◌, ◌<◌, ◌≤◌, Bool, List, [], ◌∷◌, ◌++◌, length, take, map, get_or, refl, sym, ◌∙◌, ap, subst, arith, add-one, add-zero}
use Rattle.std.specs.Prelude.{filter, sum, Result, Ok, Err, IfOk}
use Rattle.std.specs.List.{flat_map}
use Rattle.std.specs.FinMap as fin
use Rattle.std.proofs.Math.Seq.{take-suc}
use Rattle.std.proofs.lemmas.List.{length-append, length-map, map-append}
use Rattle.std.proofs.lemmas.List.Elements.{filter-append}
use Rattle.std.proofs.lemmas.List.Sums.{sum_by-append, sum_by-cons}
use Rattle.cs_base.specs.declared.content.query.Query.{Query}
use Rattle.cs_base.specs.declared.index.plan.Plan.{Plan}
use Rattle.cs_base.specs.declared.index.plan.Plan.TheVariants.{Same, Narrow, Extend, Fresh}
use Rattle.cs_base.specs.declared.content.scores.TheConstants.{USUAL_WEIGHTS}
use Rattle.cs_engine.specs.Keeping.{AreGood, EngineView, IsAfter, KeepsAnswers}
use Rattle.cs_engine.specs.declared.note.Note.{Note}
use Rattle.cs_file.specs.Indexes.{StandsFor}
use Rattle.cs_model.specs.Answers.{hits, parts_of}
use Rattle.cs_model.specs.Corpus.{Corpus}
use Rattle.cs_model.specs.Keys.{keys_of}
use Rattle.cs_model.specs.Replies.{Reply}
use Rattle.cs_model.specs.Requests.{Request, reply_of}
use Rattle.cs_model_index.specs.Images.{Image, IsImage}
use Rattle.cs_model_index.specs.Sections.{file_corpus}
use Rattle.cs_model_index.specs.declared.limits.TheConstants.{TARGET}
use Rattle.cs_model_kept.specs.Entries.{entry_of}
use Rattle.cs_model_kept.specs.KeptList.{KeptList, after, after_own, kept_at, kept_by, plan, plan_by, plans, is_same}
use Rattle.cs_model_kept.specs.declared.limits.TheConstants.{MAX_ENTRIES}
use Rattle.cs_model_kept.proofs.HeldLemmas.{numbers_plan_alike}
use Rattle.cs_model_trial.specs.Sessions.{plain_request, queries, texts}
use Rattle.cs_model_trial.specs.Summary.{IsSummary, counted, counts, hits_found, is_extend, is_fresh, is_narrow, summary, summary_line, trial_corpus, trial_plans}
use Rattle.cs_model_trial.proofs.TrialExamples.{texts-count}
use Rattle.cs_query.specs.RequestView.{asked}
use Rattle.cs_query.specs.declared.request.Request.{Request as Read}
use Rattle.cs_indexing.specs.Filed.{HasSizes}
use Rattle.cs_top.specs.Trial.{AddUp, AreFew, HasAsked, kept_after, sizes_of, with_one_reply}
use Rattle.cs_trial.specs.Told.{told}
use Rattle.cs_trial.specs.declared.counts.TrialCounts.{TrialCounts}

-- ---- one reply more
-- it counts for its plan
record IsOneMore (p : Plan) (n : ℕ) (c d : TrialCounts) : Type 0 where
  replies : d.replies ≡ c.replies + 1
  hits : d.hits ≡ c.hits + n
  same : d.same ≡ c.same + counted is_same (p ∷ [])
  narrow : d.narrow ≡ c.narrow + counted is_narrow (p ∷ [])
  extend : d.extend ≡ c.extend + counted is_extend (p ∷ [])
  fresh : d.fresh ≡ c.fresh + counted is_fresh (p ∷ [])

one_more : (p : Plan) (n : ℕ) (c : TrialCounts) → IsOneMore p n c (with_one_reply p n c)
one_more Same n c = record { replies = refl; hits = refl; same = refl; narrow = sym (add-zero c.narrow); extend = sym (add-zero c.extend); fresh = sym (add-zero c.fresh) }
one_more (Narrow cut) n c = record { replies = refl; hits = refl; same = sym (add-zero c.same); narrow = refl; extend = sym (add-zero c.extend); fresh = sym (add-zero c.fresh) }
one_more Extend n c = record { replies = refl; hits = refl; same = sym (add-zero c.same); narrow = sym (add-zero c.narrow); extend = refl; fresh = sym (add-zero c.fresh) }
one_more Fresh n c = record { replies = refl; hits = refl; same = sym (add-zero c.same); narrow = sym (add-zero c.narrow); extend = sym (add-zero c.extend); fresh = refl }

-- ---- plans and hits of one query more
sum_push : (ns : List ℕ) (n : ℕ) → sum (ns ++ n ∷ []) ≡ sum ns + n
sum_push ns n = let a = sum_by-append (λ (x : ℕ). x) ns (n ∷ []) in let b = sum_by-cons (λ (x : ℕ). x) n [] in omega (arith, a, b)

module _ (k : Corpus) where
  plans_push : (held : KeptList) (qs : List Query) (q : Query) → plans k MAX_ENTRIES held (qs ++ q ∷ []) ≡ plans k MAX_ENTRIES held qs ++ plan (kept_after k held qs) q ∷ []
  plans_push held [] q = refl
  plans_push held (p ∷ qs) q = ap (λ ps. plan held p ∷ ps) (plans_push (after_own held MAX_ENTRIES p k) qs q)

  kept_push : (held : KeptList) (qs : List Query) (q : Query) → kept_after k held (qs ++ q ∷ []) ≡ after_own (kept_after k held qs) MAX_ENTRIES q k
  kept_push held [] q = refl
  kept_push held (p ∷ qs) q = kept_push (after_own held MAX_ENTRIES p k) qs q

  hits_push : (qs : List Query) (q : Query) → hits_found k (qs ++ q ∷ []) ≡ hits_found k qs + length (hits k (parts_of k q))
  unfolding hits_found
  hits_push qs q =
      ap sum (map-append (λ q. length (hits k (parts_of k q))) qs (q ∷ [])) ∙ sum_push (map (λ q. length (hits k (parts_of k q))) qs) (length (hits k (parts_of k q)))

  module _ (qs : List Query) (q : Query) (p : Plan) (is : p ≡ plan (kept_after k [] qs) q) where
    counted_push : (test : Plan → Bool) → counted test (trial_plans k (qs ++ q ∷ [])) ≡ counted test (trial_plans k qs) + counted test (p ∷ [])
    unfolding trial_plans
    counted_push test =
        ap (counted test) (plans_push [] qs q ∙ ap (λ x. plans k MAX_ENTRIES [] qs ++ x ∷ []) (sym is))
        ∙ ap length (filter-append test (plans k MAX_ENTRIES [] qs) (p ∷ []))
        ∙ length-append (filter test (plans k MAX_ENTRIES [] qs)) (filter test (p ∷ []))

    added : (c d : TrialCounts) → IsOneMore p (length (hits k (parts_of k q))) c d → AddUp k qs c → AddUp k (qs ++ q ∷ []) d
    added c d more a = record {
      replies = let up = more.replies in let now = a.replies in let long = length-append qs (q ∷ []) in omega (arith, up, now, long);
      hits = more.hits ∙ ap (λ n. n + length (hits k (parts_of k q))) a.hits ∙ sym (hits_push qs q);
      same = more.same ∙ ap (λ n. n + counted is_same (p ∷ [])) a.same ∙ sym (counted_push is_same);
      narrow = more.narrow ∙ ap (λ n. n + counted is_narrow (p ∷ [])) a.narrow ∙ sym (counted_push is_narrow);
      extend = more.extend ∙ ap (λ n. n + counted is_extend (p ∷ [])) a.extend ∙ sym (counted_push is_extend);
      fresh = more.fresh ∙ ap (λ n. n + counted is_fresh (p ∷ [])) a.fresh ∙ sym (counted_push is_fresh);
    }

  add_more : (qs : List Query) (q : Query) (p : Plan) (c : TrialCounts) → p ≡ plan (kept_after k [] qs) q → AddUp k qs c → AddUp k (qs ++ q ∷ []) (with_one_reply p (length (hits k (parts_of k q))) c)
  add_more qs q p c is a = added qs q p is c (with_one_reply p (length (hits k (parts_of k q))) c) (one_more p (length (hits k (parts_of k q))) c) a

-- ---- how an engine stands
none_added : (k : Corpus) (c : TrialCounts) → AreFew 0 c → AddUp k [] c
unfolding hits_found trial_plans
none_added k c f = let a = f.replies in let b = f.hits in let s = f.same in let w = f.narrow in let e = f.extend in let r = f.fresh in
    record { replies = omega arith; hits = omega arith; same = omega arith; narrow = omega arith; extend = omega arith; fresh = omega arith }

pub asked_none : (b : List ℕ) (e : EngineView) (c : TrialCounts) → StandsFor b e.index → AreGood b e → e.answers.entries ≡ [] → e.answers.capacity ≡ MAX_ENTRIES → AreFew 0 c → HasAsked b [] e c
asked_none b e c stands good none room few = record {
  stands = stands;
  good = good;
  room = room;
  kept = ap (kept_at e.index.words) none;
  counts = none_added (file_corpus b) c few;
}

module _ (b : List ℕ) (qs : List Query) (q : Query) (old new : EngineView) (r : Reply × Note) (c : TrialCounts) (h : HasAsked b qs old c) (keeps : KeepsAnswers old.index q old.answers (Ok r) new.answers) where
  plan_is : r.1.plan ≡ plan (kept_after (file_corpus b) [] qs) q
  unfolding plan
  plan_is = keeps.1 ∙ sym (numbers_plan_alike old.index.words old.answers.entries (keys_of q)) ∙ ap (λ held. plan_by held (keys_of q)) h.kept

  left : IsAfter b q old (Ok r) new → kept_at new.index.words new.answers.entries ≡ kept_after (file_corpus b) [] (qs ++ q ∷ [])
  left is =
      let k = file_corpus b in
      let held = kept_after k [] qs in
      is.1
      ∙ ap (λ x. after x old.answers.capacity q r.1.kept k) h.kept
      ∙ ap (λ n. after held n q r.1.kept k) h.room
      ∙ ap (λ x. after held MAX_ENTRIES q x k) (is.0 ∙ ap (λ p. kept_by p (entry_of k q)) plan_is)
      ∙ sym (kept_push k [] qs q)

  -- after one query more
  pub asked_more : new.index ≡ old.index → AreGood b new → IsAfter b q old (Ok r) new → r.0.total_hits ≡ length (hits (file_corpus b) (parts_of (file_corpus b) q)) → HasAsked b (qs ++ q ∷ []) new (with_one_reply r.1.plan r.0.total_hits c)
  asked_more same good is total = record {
    stands = subst (StandsFor b) (sym same) h.stands;
    good = good;
    room = keeps.0 ∙ h.room;
    kept = left is;
    counts = subst (λ n. AddUp (file_corpus b) (qs ++ q ∷ []) (with_one_reply r.1.plan n c)) (sym total) (add_more (file_corpus b) qs q r.1.plan c plan_is h.counts);
  }

pub hits_told : (k : Corpus) (r : Request) → (reply_of k r).total_hits ≡ length (hits k (parts_of k r.query))
unfolding reply_of
hits_told k r = refl

-- ---- all requests
pub take_queries : (rs : List Read) (i : ℕ) (r : Read) → i < length rs → map (λ r. r.query) (take (i + 1) rs) ≡ map (λ r. r.query) (take i rs) ++ (get_or rs i r).query ∷ []
take_queries rs i r low = ap (λ n. map (λ r. r.query) (take n rs)) (add-one i) ∙ ap (map (λ r. r.query)) (take-suc rs i r low) ∙ map-append (λ r. r.query) (take i rs) (get_or rs i r ∷ [])

through : (rs : List Read) → map (λ r. r.query) rs ≡ map (λ x. x.query) (map asked rs)
through [] = refl
through (r ∷ rs) = ap (λ qs. r.query ∷ qs) (through rs)

typed : (ts : List (List ℕ)) → map (λ t. (plain_request t).query) ts ≡ map (λ x. x.query) (map plain_request ts)
typed [] = refl
typed (t ∷ ts) = ap (λ qs. (plain_request t).query ∷ qs) (typed ts)

pub asked_queries : (n : ℕ) (rs : List Read) → map asked rs ≡ map plain_request (texts n) → map (λ r. r.query) rs ≡ queries n
asked_queries n rs e = through rs ∙ ap (map (λ x. x.query)) e ∙ sym (typed (texts n))

pub few_requests : (n : ℕ) (rs : List Read) → map asked rs ≡ map plain_request (texts n) → length rs ≤ 2 ^ 16
few_requests n rs e =
    let same : length rs ≡ 260 = sym (length-map rs asked) ∙ ap length e ∙ length-map (texts n) plain_request ∙ texts-count n in
    omega (arith, same)

-- ---- the summary
pub ok_then : {T E : Type 0} (r : Result T E) {P Q : T → Type 0} → IfOk r P → ((x : T) → P x → Q x) → IfOk r Q
ok_then (Ok x) h f = f x h
ok_then (Err e) h f = tt

pub told_is : (n : ℕ) (k : Corpus) (c : TrialCounts) (documents rows blocks : ℕ) → sizes_of c ≡ (documents, rows, blocks) → HasSizes k documents rows → AddUp k (queries n) c → told c ≡ counts n k blocks
told_is n k c documents rows blocks sizes has a =
    let d : c.documents ≡ length (fin.keys k.titles) = ap (λ x. x.0) sizes ∙ has.documents in
    let r : c.rows ≡ length k.rows = ap (λ x. x.1) sizes ∙ has.rows in
    let b : c.blocks ≡ blocks = ap (λ x. x.2) sizes in
    rw (d, r, b, a.replies, a.hits, a.same, a.narrow, a.extend, a.fresh) refl

pub summed : (n : ℕ) (i : Image) (c : TrialCounts) (t : List ℕ) → IsImage (trial_corpus n) TARGET USUAL_WEIGHTS i → told c ≡ counts n (trial_corpus n) (length i.heads) → t ≡ flat_map summary_line (told c) → IsSummary n t
unfolding summary
summed n i c t is same text = record { image = i; indexed = is; told = text ∙ ap (flat_map summary_line) same }
