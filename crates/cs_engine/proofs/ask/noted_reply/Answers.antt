use Rattle.std.proofs.Common.{◌≡◌, ◌∙◌, ap, subst, sym, arith, length}
use Rattle.std.specs.Prelude.{IfOk, filter, nat_lt}
use Rattle.cs_base.specs.declared.content.doc.Base.{Base}
use Rattle.cs_model.specs.Requests.{reply_of}
use Rattle.cs_model_kept.specs.Due.{met_by}
use Rattle.cs_model_kept.specs.KeptList.{after, kept_at}
use Rattle.cs_model_kept.specs.Sharp.{sharp_by}
use Rattle.cs_query.specs.RequestView.{asked}
use Rattle.cs_rows.specs.IndexReading.{division}
use Rattle.cs_engine.specs.Asking.{filed_titles, titles_read}
use Rattle.cs_engine.specs.HeldRanges.{FitsRange, IsHeldOver}
use Rattle.cs_engine.specs.Keeping.{HoldsGood, IsKeptBehind, KeepsFitting, note_plan}
use Rattle.cs_rows.specs.Skipping.{hit_of_facets}
use Rattle.cs_rows.specs.Sources.{seen}
use Rattle.cs_rows.specs.Stocked.{corpus_in}
use Rattle.cs_engine.proofs.CountedRanges.{counted_fits, counted_held}
use Rattle.cs_rows.proofs.InsideLemmas.{facets_hit_less}
use Rattle.cs_engine.proofs.KeepingLemmas.{after_is, behind_fits, good_behind, is_note_plan, kept_behind, kept_is, was_had}
use Rattle.cs_engine.proofs.LentLemmas.{due_is, err_due, refusal_right}
use Rattle.cs_rows.proofs.WalkLemmas.{within_both, within_more}
use Rattle.cs_engine.proofs.ask.noted_reply.Goals as goal

pub show-shown-requires-clause-held : goal.show-shown-requires-clause-held
show-shown-requires-clause-held g c = c.find_by.ensures.held

-- ---- nothing is found
pub returns-in_err-found-clause-kept : goal.returns-in_err-found-clause-kept
returns-in_err-found-clause-kept g c = (c.requires.kept.0, c.find_by.ensures.held)

pub returns-in_err-found-clause-told : goal.returns-in_err-found-clause-told
returns-in_err-found-clause-told g c b is stands good =
    refusal_right c.from_residual-in_err-found.result c.from_residual-in_err-found.ensures.0
    (record { kept = good.kept; held = c.find_by.ensures.good b is stands good.held })

pub returns-in_err-found-clause-reads : goal.returns-in_err-found-clause-reads
returns-in_err-found-clause-reads g c =
    let i = seen (g.I.Source.view c.args.over.index.now) in
    let r = asked c.args.over.request.now in
    let plan = is_note_plan i r.query c.requires.limits.query c.args.answers.now c.in_ok-keys.keys c.in_ok-keys.ensures.ok c.look-plan.result c.look-plan.ensures in
    let same = ap (met_by (division (g.I.Source.view c.args.over.index.now).index) r.query) plan in
    let all = due_is (division (g.I.Source.view c.args.over.index.now).index) r (note_plan r.query c.args.answers.now)
    (filed_titles (g.I.Source.view c.args.over.index.now).index.docs r c.from_residual-in_err-found.result) in
    within_more c.find_by.ensures.reads (omega (arith, all, same))

-- ---- nothing is shown
pub returns-in_err-reply-clause-kept : goal.returns-in_err-reply-clause-kept
returns-in_err-reply-clause-kept g c =
    let fits = c.in_ok-found.ensures.fits in (
      c.requires.kept.0,
      counted_held (FitsRange (seen (g.I.Source.view c.args.over.index.now))) c.in_ok-found.found.hits c.in_ok-found.found.range _ _ c.hold_counted.ensures
          (counted_fits (seen (g.I.Source.view c.args.over.index.now)) c.in_ok-found.found.hits c.in_ok-found.found.range fits.range)
          c.show-shown.ensures.held,
    )

pub returns-in_err-reply-clause-told : goal.returns-in_err-reply-clause-told
returns-in_err-reply-clause-told g c b is stands good =
    let found = c.in_ok-found.ensures.told b is stands good.held good.kept in
    let over = c.find_by.ensures.good b is stands good.held in
    refusal_right c.from_residual-in_err-reply.result c.from_residual-in_err-reply.ensures.0
    (record {
      kept = good.kept;
      held = counted_held (IsHeldOver ((g.I.Source.view c.args.over.index.now).stock b)) c.in_ok-found.found.hits c.in_ok-found.found.range _ _
          c.hold_counted.ensures found.range
          (c.show-shown.ensures.good b (c.find_by.ensures.store.bytes ∙ is) stands over);
    })

pub returns-in_err-reply-clause-reads : goal.returns-in_err-reply-clause-reads
returns-in_err-reply-clause-reads g c =
    let i = seen (g.I.Source.view c.args.over.index.now) in
    let r = asked c.args.over.request.now in
    let plan = is_note_plan i r.query c.requires.limits.query c.args.answers.now c.in_ok-keys.keys c.in_ok-keys.ensures.ok c.look-plan.result c.look-plan.ensures in
    let same = ap (met_by (division (g.I.Source.view c.args.over.index.now).index) r.query) plan in
    let all = due_is (division (g.I.Source.view c.args.over.index.now).index) r (note_plan r.query c.args.answers.now)
    (filed_titles (g.I.Source.view c.args.over.index.now).index.docs r c.from_residual-in_err-reply.result) in
    let told = err_due (g.I.Source.view c.args.over.index.now).index.docs r c.from_residual-in_err-reply.result c.from_residual-in_err-reply.ensures.0 in
    let read = ap (titles_read (g.I.Source.view c.args.over.index.now).index.docs r) c.in_err-reply.was in
    let less = facets_hit_less (g.I.Source.view c.args.over.index.now) c.requires.opened.source c.in_ok-found.found.hits r.facets in
    within_both c.find_by.ensures.reads c.show-shown.ensures.reads (omega (arith, all, same, told, read, less))

-- ---- the reply
pub returns-clause-kept : goal.returns-clause-kept
returns-clause-kept g c =
    let i = seen (g.I.Source.view c.args.over.index.now) in
    let fits = c.in_ok-found.ensures.fits in (
      subst (KeepsFitting i) (sym c.put-kept.ensures.entries)
          (behind_fits i c.args.over.request.now.query c.requires.limits.query c.args.answers.now c.in_ok-keys.keys c.in_ok-keys.ensures.ok
          c.look-plan.result c.look-plan.ensures c.requires.kept.0 c.in_ok-found.found.own fits.own),
      counted_held (FitsRange i) c.in_ok-found.found.hits c.in_ok-found.found.range _ _ c.hold_counted.ensures
          (counted_fits i c.in_ok-found.found.hits c.in_ok-found.found.range fits.range) c.show-shown.ensures.held,
    )

pub returns-clause-told : goal.returns-clause-told
returns-clause-told g c b is stands good =
    let i = seen (g.I.Source.view c.args.over.index.now) in
    let k = corpus_in ((g.I.Source.view c.args.over.index.now).stock b) in
    let a = c.args.answers.now in
    let r = asked c.args.over.request.now in
    let q = r.query in
    let o = c.in_ok-found.found.own in
    let new = c.put-kept.new.answers in
    let found = c.in_ok-found.ensures.told b is stands good.held good.kept in
    let over = c.find_by.ensures.good b is stands good.held in
    let at = c.find_by.ensures.store.bytes ∙ is in
    let became = c.put-kept.ensures.became in
    let list : kept_at i.words new.entries ≡ after (kept_at i.words a.entries) a.capacity q c.put-kept.result k =
    ap (kept_at i.words) c.put-kept.ensures.entries
    ∙ after_is k i q c.requires.limits.query a c.in_ok-keys.keys c.in_ok-keys.ensures.ok c.look-plan.result c.look-plan.ensures o found.own
    ∙ ap (λ w. after (kept_at i.words a.entries) a.capacity q w k) (sym became) in record {
      reply = subst (λ x. IfOk x (λ y. y ≡ reply_of k r)) c.in_ok-reply.was (c.show-shown.ensures.told b at stands over found.table);
      good = record {
        kept = subst (HoldsGood k i) (sym c.put-kept.ensures.entries)
            (good_behind k i q c.requires.limits.query a c.in_ok-keys.keys c.in_ok-keys.ensures.ok c.look-plan.result c.look-plan.ensures good.kept
            o c.in_ok-found.ensures.had found.own);
        held = counted_held (IsHeldOver ((g.I.Source.view c.args.over.index.now).stock b)) c.in_ok-found.found.hits c.in_ok-found.found.range _ _
            c.hold_counted.ensures found.range
            (c.show-shown.ensures.good b at stands over);
      };
      after = (became ∙ kept_is k i q c.look-plan.result o c.in_ok-found.ensures.had found.large found.own, list);
    }

pub returns-clause-keeps : goal.returns-clause-keeps
returns-clause-keeps g c =
    let i = seen (g.I.Source.view c.args.over.index.now) in
    let a = c.args.answers.now in
    let q = c.args.over.request.now.query in
    let o = c.in_ok-found.found.own in
    let new = c.put-kept.new.answers in
    let became = c.put-kept.ensures.became in
    let had = was_had c.look-plan.result o c.in_ok-found.ensures.had in (
      c.put-kept.ensures.capacity,
      is_note_plan i q c.requires.limits.query a c.in_ok-keys.keys c.in_ok-keys.ensures.ok c.look-plan.result c.look-plan.ensures,
      (λ same. became ∙ had.0 same, λ was. had.1 (sym became ∙ was)),
      subst (λ w. IsKeptBehind i q w a new) (sym became)
          (kept_behind i q c.requires.limits.query a c.in_ok-keys.keys c.in_ok-keys.ensures.ok c.look-plan.result c.look-plan.ensures o c.in_ok-found.ensures.fits.own
          new c.put-kept.ensures.entries),
    )

pub returns-clause-reads : goal.returns-clause-reads
returns-clause-reads g c =
    let i = seen (g.I.Source.view c.args.over.index.now) in
    let r = asked c.args.over.request.now in
    let plan = is_note_plan i r.query c.requires.limits.query c.args.answers.now c.in_ok-keys.keys c.in_ok-keys.ensures.ok c.look-plan.result c.look-plan.ensures in
    let same = ap (met_by (division (g.I.Source.view c.args.over.index.now).index) r.query) plan in
    let all = due_is (division (g.I.Source.view c.args.over.index.now).index) r (note_plan r.query c.args.answers.now) (length (filter (λ h. nat_lt h.doc (g.I.Source.view c.args.over.index.now).index.docs) c.in_ok-reply.reply.hits)) in
    let read = ap (titles_read (g.I.Source.view c.args.over.index.now).index.docs r) c.in_ok-reply.was in
    let less = facets_hit_less (g.I.Source.view c.args.over.index.now) c.requires.opened.source c.in_ok-found.found.hits r.facets in
    within_both c.find_by.ensures.reads c.show-shown.ensures.reads (omega (arith, all, same, read, less))

-- ---- by the hits of the corpus
pub returns-in_err-found-clause-sharp : goal.returns-in_err-found-clause-sharp
returns-in_err-found-clause-sharp g c b is stands good =
    let v = g.I.Source.view c.args.over.index.now in
    let k = corpus_in (v.stock b) in
    let r = asked c.args.over.request.now in
    let plan = is_note_plan (seen v) r.query c.requires.limits.query c.args.answers.now c.in_ok-keys.keys c.in_ok-keys.ensures.ok c.look-plan.result
    c.look-plan.ensures in
    let same = ap (sharp_by (division v.index) k r.query) plan in
    within_more (c.find_by.ensures.sharp b is stands good.kept) (omega (arith, same))

pub returns-in_err-reply-clause-sharp : goal.returns-in_err-reply-clause-sharp
returns-in_err-reply-clause-sharp g c b is stands good =
    let v = g.I.Source.view c.args.over.index.now in
    let k = corpus_in (v.stock b) in
    let r = asked c.args.over.request.now in
    let plan = is_note_plan (seen v) r.query c.requires.limits.query c.args.answers.now c.in_ok-keys.keys c.in_ok-keys.ensures.ok c.look-plan.result
    c.look-plan.ensures in
    let same = ap (sharp_by (division v.index) k r.query) plan in
    let told = err_due (g.I.Source.view c.args.over.index.now).index.docs r c.from_residual-in_err-reply.result c.from_residual-in_err-reply.ensures.0 in
    let read = ap (titles_read (g.I.Source.view c.args.over.index.now).index.docs r) c.in_err-reply.was in
    let found = c.in_ok-found.ensures.told b is stands good.held good.kept in
    let facets = ap (λ (h : Base). hit_of_facets (division v.index) h r.facets) found.table.found.base in
    within_both (c.find_by.ensures.sharp b is stands good.kept) c.show-shown.ensures.reads (omega (arith, same, told, read, facets))

pub returns-clause-sharp : goal.returns-clause-sharp
returns-clause-sharp g c b is stands good =
    let v = g.I.Source.view c.args.over.index.now in
    let k = corpus_in (v.stock b) in
    let r = asked c.args.over.request.now in
    let plan = is_note_plan (seen v) r.query c.requires.limits.query c.args.answers.now c.in_ok-keys.keys c.in_ok-keys.ensures.ok c.look-plan.result
    c.look-plan.ensures in
    let same = ap (sharp_by (division v.index) k r.query) plan in
    let read = ap (titles_read (g.I.Source.view c.args.over.index.now).index.docs r) c.in_ok-reply.was in
    let found = c.in_ok-found.ensures.told b is stands good.held good.kept in
    let facets = ap (λ (h : Base). hit_of_facets (division v.index) h r.facets) found.table.found.base in
    within_both (c.find_by.ensures.sharp b is stands good.kept) c.show-shown.ensures.reads (omega (arith, same, read, facets))
