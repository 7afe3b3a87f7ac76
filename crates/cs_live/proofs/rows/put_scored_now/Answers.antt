use Rattle.std.proofs.Common.{◌∙◌, ap, length, map, get_or, subst, sym}
use Rattle.std.proofs.lemmas.List.{with_items_is}
use Rattle.cs_live.specs.States.{AreScoredNow}
use Rattle.cs_live.proofs.RowsInPlace.{whole_columns}
use Rattle.cs_live.proofs.rows.put_scored_now.Goals as goal

pub returns-then-whole : goal.returns-then-whole
returns-then-whole c =
    let s = c.args.shift.now in
    let p = c.args.present.now in
    let read = c.args.read.now in
    let same = with_items_is read.words c.renumber_words.new.words (c.renumber_words.auto.words ∙ ap length c.deref_mut.ensures.value ∙ sym read.words.ok.0) in
    let words = same ∙ c.renumber_words.ensures ∙ ap (map (λ w. get_or s w 0)) c.deref_mut.ensures.value in
    subst (λ ws. AreScoredNow s p read.docs.items read.words.items read.scores.items read.docs.items ws read.scores.items) (sym words)
    (whole_columns s p read.docs.items read.words.items read.scores.items (c.requires.whole c.if-whole.true))
