use Rattle.std.proofs.Common.{◌≡◌, ◌∙◌, None, Some, refl, sym}
use Rattle.std.specs.List.{slice_get}
use Rattle.std.proofs.lemmas.Option.{slice_get_past, slice_get_read}
use Rattle.cs_top.proofs.ShownLemmas.{few_at, own_at}
use Rattle.cs_top.proofs.showing.excerpt_at.Goals as goal

pub lent_excerpt-requires : goal.lent_excerpt-requires
lent_excerpt-requires c =
    let docs = c.args.docs.now in
    let there : slice_get docs c.args.number ≡ Some c.in-Some.doc.now = slice_get_read docs _ c.args.number c.in-Some.doc.now refl c.in-Some.ensures.lookup.3.0 c.in-Some.ensures.lookup.1 in
    record { few = few_at docs c.args.number c.in-Some.doc.now c.requires.few there }

pub returns-in_ok-excerpt-in-Some : goal.returns-in_ok-excerpt-in-Some
returns-in_ok-excerpt-in-Some c =
    let docs = c.args.docs.now in
    let there : slice_get docs c.args.number ≡ Some c.in-Some.doc.now = slice_get_read docs _ c.args.number c.in-Some.doc.now refl c.in-Some.ensures.lookup.3.0 c.in-Some.ensures.lookup.1 in
    record { ok = c.in_ok-excerpt-in-Some.ensures.ok ∙ sym (own_at docs c.args.number c.args.query.now (Some c.in-Some.doc.now) there) }

pub returns-in-None : goal.returns-in-None
returns-in-None c =
    let docs = c.args.docs.now in
    record { ok = c.new.ensures ∙ sym (own_at docs c.args.number c.args.query.now None (slice_get_past docs c.args.number c.in-None.ensures.lookup.3)) }
