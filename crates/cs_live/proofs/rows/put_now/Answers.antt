use Rattle.std.proofs.Common.{◌∙◌, ◌<◌, ap, length, map, subst, sym}
use Rattle.std.specs.Prelude.{All}
use Rattle.std.proofs.lemmas.List.{with_items_is}
use Rattle.std.proofs.lemmas.List.Elements.{All-filter}
use Rattle.cs_base.specs.declared.content.doc.Post.{Post}
use Rattle.cs_rows.specs.Sources.{is_there}
use Rattle.cs_live.specs.States.{renumbered}
use Rattle.cs_live.proofs.rows.put_now.Goals as goal

pub renumber_rows-requires-clause-words : goal.renumber_rows-requires-clause-words
renumber_rows-requires-clause-words c =
    let known = λ (p : Post). p.word < length c.args.shift.now in
    subst (All known) (sym (c.deref_mut.ensures.value ∙ c.drop_gone.ensures)) (All-filter (is_there c.args.present.now) known c.args.posts.now.items c.requires.words)

pub returns : goal.returns
returns c =
    let posts = c.drop_gone.new.posts in
    with_items_is posts c.renumber_rows.new.posts (c.renumber_rows.auto.posts ∙ ap length c.deref_mut.ensures.value ∙ sym posts.ok.0)
    ∙ c.renumber_rows.ensures ∙ ap (map (renumbered c.args.shift.now)) (c.deref_mut.ensures.value ∙ c.drop_gone.ensures)
