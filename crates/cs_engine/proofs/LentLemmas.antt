-- What is lent to a plan, and the reads that a plan leaves.
--
--   same_lent, extend_lent, narrow_lent      the entry that is lent is in range, and over the bytes the one that the plan speaks of
--   several_parts        a part more is one of several
--   narrow_typed         a prefix is being typed, and the rows that are lent are in range
--   refusal_right        a refusal over the bytes of the index
--   same_after           what is kept after a reply, whatever is held
--   err_due              the titles that may be read where there is no reply
use Rattle.std.proofs.Common.{◌≡◌, ℕ, ◌+◌, ◌≤◌, ◌<◌, List, length, refl, sym, ap, subst, ◌∙◌, arith, Option, Some, None, IsSome}
use Rattle.std.specs.Prelude.{filter, IfSome, Result, Ok, Err}
use Rattle.std.specs.Result.{IsErr}
use Rattle.cs_base.specs.declared.content.doc.Base.{Base}
use Rattle.cs_base.specs.declared.content.doc.Post.{Post}
use Rattle.cs_base.specs.declared.content.key.Keys.{Keys}
use Rattle.cs_base.specs.declared.content.query.Query.{Query, out-Query}
use Rattle.cs_base.specs.declared.index.plan.Plan.{Plan}
use Rattle.cs_base.specs.declared.index.plan.Plan.TheVariants.{Same, Narrow, Extend, Fresh}
use Rattle.cs_cache.specs.AnswerList.{AnswerList}
use Rattle.cs_file.specs.Indexes.{IndexView}
use Rattle.cs_model.specs.Answers.{begins}
use Rattle.cs_model.specs.Corpus.{Corpus}
use Rattle.cs_model.specs.Keys.{keys_of, last_prefix}
use Rattle.cs_model.specs.Refusals.{IsOfGrammar}
use Rattle.cs_model.specs.Replies.{Reply}
use Rattle.cs_model.specs.Requests.{Request}
use Rattle.cs_model_index.specs.Numbered.{word_at}
use Rattle.cs_model_kept.specs.Due.{Division, due, met_by, met_of_facets}
use Rattle.cs_model_kept.specs.Entries.{EntryOf}
use Rattle.cs_model_kept.specs.KeptList.{KeptOf, plan_by, used_entry}
use Rattle.cs_model_kept.specs.KeptListLaws.{before_last}
use Rattle.cs_engine.specs.Asking.{filed_titles}
use Rattle.cs_engine.specs.Keeping.{AnswersRight, AreGoodFor, EngineView, FitsQuery, HoldsGood, IsAfterFor, IsEntryOver, IsPlanned, engine_with}
use Rattle.cs_rows.specs.Steps.{entry_with}
use Rattle.cs_rows.specs.IndexReading.{AreWithin}
use Rattle.cs_rows.specs.Stocked.{Stock}
use Rattle.cs_file.specs.declared.fault.FetchFault.{FetchFault}
use Rattle.cs_engine.specs.declared.held.HeldRange.{HeldRange}
use Rattle.cs_engine.specs.declared.note.Note.{Note}
use Rattle.cs_engine.proofs.KeepingLemmas.{extend_fits, extend_told, narrow_fits, narrow_told, narrowed_fits, same_fits, same_told}
use Rattle.cs_engine.proofs.PlansLemmas.{Viewed, is_used, viewed}

-- ---- what is lent
module _ {i : IndexView} {held : KeptOf (EntryOf Post)} {q : Query} {keys : Keys} {by_plan : Plan} (g : IsOfGrammar q)
    (planned : IsPlanned i held q keys by_plan) (base : Base) (rows : List Post)
    (b : IfSome (used_entry held keys by_plan) (λ e. base ≡ e.1.base)) (r : IfSome (used_entry held keys by_plan) (λ e. rows ≡ e.1.rows)) where
  abbrev lent : EntryOf Post
  lent = entry_with base rows

  lent_by : (own : Plan) → by_plan ≡ own → ¬ (own ≡ Fresh) → Viewed (used_entry held (keys_of q) own) lent
  lent_by own same other =
      let v = viewed (used_entry held keys by_plan) (is_used g planned (λ f. other (sym same ∙ f))) base rows b r in
      record {
        kept = v.kept;
        found = ap (used_entry held (keys_of q)) (sym same) ∙ ap (λ k. used_entry held k by_plan) (sym planned.of_query) ∙ v.found;
        same = v.same;
      }

  plan_of : (own : Plan) → by_plan ≡ own → own ≡ plan_by held (keys_of q)
  plan_of own same = sym same ∙ planned.by_kept ∙ ap (plan_by held) planned.of_query

  pub same_lent : by_plan ≡ Same → FitsQuery i q lent × ((k : Corpus) → HoldsGood k i held → IsEntryOver k i q lent)
  same_lent same =
      let v = lent_by Same same (λ f. let no : Same ≡ Fresh = f in cc) in (
        subst (FitsQuery i q) v.same (same_fits i held planned.fit q g v.kept v.found),
        λ k good. subst (IsEntryOver k i q) v.same (same_told k i held good q g v.kept (plan_of Same same) v.found),
      )

  pub extend_lent : by_plan ≡ Extend → (1 ≤ length (out-Query q).parts) × FitsQuery i
      (before_last q) lent × ((k : Corpus) → HoldsGood k i held → IsEntryOver k i (before_last q) lent)
  extend_lent same =
      let v = lent_by Extend same (λ f. let no : Extend ≡ Fresh = f in cc) in
      let fits = extend_fits i held planned.fit q g v.kept v.found in (
        (let several = fits.0 in omega (arith, several)),
        subst (FitsQuery i (before_last q)) v.same fits.1,
        λ k good. subst (IsEntryOver k i (before_last q)) v.same (extend_told k i held good q g v.kept (plan_of Extend same) v.found),
      )

  pub several_parts : by_plan ≡ Extend → 1 < length (out-Query q).parts
  several_parts same =
      let v = lent_by Extend same (λ f. let no : Extend ≡ Fresh = f in cc) in
      (extend_fits i held planned.fit q g v.kept v.found).0

  not_fresh : (cut : ℕ) → ¬ (Narrow cut ≡ Fresh)
  not_fresh cut f = cc

  pub narrow_typed : (cut : ℕ) → by_plan ≡ Narrow cut → IsSome (last_prefix q) × AreWithin i rows
  narrow_typed cut same =
      let v = lent_by (Narrow cut) same (not_fresh cut) in
      let fits = narrow_fits i held planned.fit q g v.kept cut v.found in
      (fits.0, (subst (FitsQuery i q) v.same fits.1).rows)

  pub narrow_lent : (cut : ℕ) → by_plan ≡ Narrow cut → (e : EntryOf Post) → e.base ≡ base
      → IfSome (last_prefix q) (λ p. e.rows ≡ filter (λ post. begins p (word_at i.words post.word)) rows)
      → FitsQuery i q e × ((k : Corpus) → HoldsGood k i held → IsEntryOver k i q e)
  narrow_lent cut same e base_is rows_are = cases (last_prefix q) refl (narrow_typed cut same).0 rows_are
    where
      cases : (o : Option (List ℕ)) → last_prefix q ≡ o → IsSome o → IfSome o (λ p. e.rows ≡ filter (λ post. begins p (word_at i.words post.word)) rows)
          → FitsQuery i q e × ((k : Corpus) → HoldsGood k i held → IsEntryOver k i q e)
      cases None typed some h = absurd cc
      cases (Some p) typed some h =
          let v = lent_by (Narrow cut) same (not_fresh cut) in
          let keeps : Post → _ = λ post. begins p (word_at i.words post.word) in
          let fits = (narrow_fits i held planned.fit q g v.kept cut v.found).1 in
          let whole : entry_with v.kept.1.base (filter keeps v.kept.1.rows) ≡ e =
          ap (λ (x : EntryOf Post). entry_with x.base (filter keeps x.rows)) v.same ∙ ap (entry_with base) (sym h)
          ∙ ap (λ x. entry_with x e.rows) (sym base_is) in (
            subst (FitsQuery i q) whole (narrowed_fits i q keeps v.kept.1 fits),
            λ k good. subst (IsEntryOver k i q) whole (narrow_told k i held good q g v.kept cut (plan_of (Narrow cut) same) v.found p typed),
          )

-- ---- what may be read
pub due_is : (v : Division) (r : Request) (by_plan : Plan) (titles : ℕ) → due v r by_plan titles ≡ titles + met_of_facets v r.facets + met_by v r.query by_plan
unfolding due
due_is v r by_plan titles = refl

pub err_due : {T : Type 0} (n : ℕ) (q : Request) (r : Result (Reply × T) FetchFault) → IsErr r → filed_titles n q r ≡ q.hits
err_due n q (Ok r) h = absurd cc
err_due n q (Err e) h = refl

-- ---- refusals
pub refusal_right : {k : Corpus} {s : Stock} {r : Request} {old new : EngineView} (a : Result (Reply × Note) FetchFault) → IsErr a
    → AreGoodFor k s new → AnswersRight k s r old a new
refusal_right (Ok x) h good = absurd cc
refusal_right (Err e) h good = record { reply = tt; good = good; after = tt }

-- what is kept after a reply doesn't speak of what is held before it and behind it
pub same_after : (k : Corpus) (q : Query) (old : EngineView) (h : List HeldRange) (i : IndexView) (new : AnswerList) (l l' : List HeldRange)
    (a : Result (Reply × Note) FetchFault) → IsAfterFor k q (engine_with old.index old.answers h) a (engine_with i new l)
    → IsAfterFor k q old a (engine_with i new l')
same_after k q old h i new l l' (Ok r) after = after
same_after k q old h i new l l' (Err e) after = tt
