use Rattle.std.proofs.Common.{◌≡◌, ◌∙◌, ap, map, sym, subst}
use Rattle.std.specs.Prelude.{Some}
use Rattle.cs_model.specs.Collection.{documents, weights}
use Rattle.cs_model.specs.Corpus.{corpus}
use Rattle.cs_docs.specs.LinesRead.{doc_of_lent}
use Rattle.cs_indexing.specs.Filed.{IsFiled}
use Rattle.cs_indexing.specs.Met.{held_bytes, wrote}
use Rattle.cs_indexing.specs.Views.{ended}
use Rattle.cs_indexing.specs.declared.words.HitForm.{HitForm}
use Rattle.cs_top.specs.HitForms.{AreDocumentsOf, AtHand, form_by}
use Rattle.cs_top.specs.ScriptRuns.{AskEnds, AskTold, IsAskedOver}
use Rattle.cs_top.proofs.ask.ask.Goals as goal

pub returns-in-Titled-clause-ends : goal.returns-in-Titled-clause-ends
returns-in-Titled-clause-ends g c =
    let e = ended c.answer_over.result in
    let w = wrote g.O.Sink c.args.out.now c.answer_over.new.out in
    subst (λ (f : HitForm). AskEnds f e c.args.collection.now c.args.script.now w) (sym c.in-Titled.is)
    (subst (λ (docs : AtHand). AskEnds (form_by docs) e c.args.collection.now c.args.script.now w) c.titled-showing.ensures (c.answer_over.ensures.ends c.args.collection.now c.args.script.now))

pub returns-clause-ends : goal.returns-clause-ends
returns-clause-ends g c =
    let e = ended c.answer_over-in-Excerpted.result in
    let w = wrote g.O.Sink c.args.out.now c.answer_over-in-Excerpted.new.out in
    subst (λ (f : HitForm). AskEnds f e c.args.collection.now c.args.script.now w) (sym c.in-Excerpted.is)
    (subst (λ (docs : AtHand). AskEnds (form_by docs) e c.args.collection.now c.args.script.now w) c.excerpted-showing.ensures (c.answer_over-in-Excerpted.ensures.ends c.args.collection.now c.args.script.now))

-- the bytes that were read are those that the file has, the image is of their corpus, and the documents at hand are theirs
pub returns-in-Titled-clause-told : goal.returns-in-Titled-clause-told
returns-in-Titled-clause-told g c h held =
    let b = held_bytes h c.args.collection.now in
    let e = ended c.answer_over.result in
    let w = wrote g.O.Sink c.args.out.now c.answer_over.new.out in
    let still : g.F.Files.held c.prepare.new.files ≡ Some h = c.in_ok-bytes.ensures.reads.files ∙ held in
    let is : c.in_ok-bytes.bytes.items ≡ b = c.in_ok-bytes.ensures.bytes h held in
    let over : IsAskedOver h c.args.collection.now c.args.script.now c.titled-showing.result c.in_ok-bytes.image = record {
      ready = c.in_ok-bytes.ensures.ready h held;
      filed = subst (λ x. IsFiled (corpus x) (weights x) c.in_ok-bytes.image) is c.in_ok-bytes.ensures.filed;
      shown = subst (AreDocumentsOf b) (sym c.titled-showing.ensures) tt;
    } in
    subst (λ (f : HitForm). AskTold f e h c.args.collection.now c.args.script.now w) (sym c.in-Titled.is)
    (subst (λ (docs : AtHand). AskTold (form_by docs) e h c.args.collection.now c.args.script.now w) c.titled-showing.ensures (c.answer_over.ensures.told h still c.args.collection.now over))

pub returns-clause-told : goal.returns-clause-told
returns-clause-told g c h held =
    let b = held_bytes h c.args.collection.now in
    let e = ended c.answer_over-in-Excerpted.result in
    let w = wrote g.O.Sink c.args.out.now c.answer_over-in-Excerpted.new.out in
    let still : g.F.Files.held c.prepare.new.files ≡ Some h = c.in_ok-bytes.ensures.reads.files ∙ held in
    let is : c.in_ok-bytes.bytes.items ≡ b = c.in_ok-bytes.ensures.bytes h held in
    let docs : map doc_of_lent c.deref-in-Excerpted.result.now ≡ documents b = ap (map doc_of_lent) c.deref-in-Excerpted.ensures.value ∙ c.in_ok-documents-in-Excerpted.ensures.ok ∙ ap documents (c.deref.ensures.value ∙ is) in
    let over : IsAskedOver h c.args.collection.now c.args.script.now c.excerpted-showing.result c.in_ok-bytes.image = record {
      ready = c.in_ok-bytes.ensures.ready h held;
      filed = subst (λ x. IsFiled (corpus x) (weights x) c.in_ok-bytes.image) is c.in_ok-bytes.ensures.filed;
      shown = subst (AreDocumentsOf b) (sym c.excerpted-showing.ensures) docs;
    } in
    subst (λ (f : HitForm). AskTold f e h c.args.collection.now c.args.script.now w) (sym c.in-Excerpted.is)
    (subst (λ (docs : AtHand). AskTold (form_by docs) e h c.args.collection.now c.args.script.now w) c.excerpted-showing.ensures (c.answer_over-in-Excerpted.ensures.told h still c.args.collection.now over))
