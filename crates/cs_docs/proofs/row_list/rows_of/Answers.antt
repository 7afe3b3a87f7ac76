use Rattle.std.proofs.Common.{◌≡◌, ◌+◌, ◌<◌, ◌++◌, List, length, drop, get_or, sym, ap, subst, ◌∙◌, arith, length-append}
use Rattle.std.specs.List.{All}
use Rattle.std.proofs.lemmas.List.Elements.{All-get_or, All-append}
use Rattle.cs_base.specs.declared.content.doc.Row.{Row}
use Rattle.cs_docs.specs.Listing.{listed_rows, HasUtf8Word}
use Rattle.cs_docs.specs.FacetPieces.{CanBeListed}
use Rattle.cs_docs.proofs.AcceptedCollections.{accepted_docs, few_docs}
use Rattle.cs_docs.proofs.ListingLemmas.{last_rows, next_rows, rows_listed}
use Rattle.cs_docs.proofs.row_list.rows_of.Goals as goal

text_more : (rows new doc : List Row) → All HasUtf8Word rows → All HasUtf8Word doc → new ≡ rows ++ doc → All HasUtf8Word new
text_more rows new doc h g e = subst (All HasUtf8Word) (sym e) (All-append HasUtf8Word rows doc h g)

pub overflow_cast-number : goal.overflow_cast-number
overflow_cast-number c = omega (arith, ap length c.as_slice-doc-items.ensures, few_docs c.requires.read.0 c.args.docs.now c.requires.read.1 c.requires.read.2)

pub add_rows-requires : goal.add_rows-requires
add_rows-requires c =
    let docs = c.args.docs.now in
    let doc = c.doc-item.result in
    let l : c.loop-number.number < length docs = omega (arith, ap length c.as_slice-doc-items.ensures) in
    let e : doc ≡ get_or docs c.loop-number.number doc = c.doc-item.is ∙ ap (λ ds. get_or ds c.loop-number.number doc) c.as_slice-doc-items.ensures in
    subst CanBeListed (sym e) (All-get_or CanBeListed docs c.loop-number.number doc l (accepted_docs c.requires.read.0 docs c.requires.read.1 c.requires.read.2))

pub returns-then-len-gt-MAX_ROWS-clause-too_many : goal.returns-then-len-gt-MAX_ROWS-clause-too_many
returns-then-len-gt-MAX_ROWS-clause-too_many c =
    let docs = c.args.docs.now in
    let doc = c.doc-item.result in
    let l : c.loop-number.number < length docs = omega (arith, ap length c.as_slice-doc-items.ensures) in
    let e : doc ≡ get_or docs c.loop-number.number doc = c.doc-item.is ∙ ap (λ ds. get_or ds c.loop-number.number doc) c.as_slice-doc-items.ensures in
    let told : listed_rows c.args.weights 0 docs ≡ c.add_rows.new.rows.items ++ listed_rows c.args.weights (c.loop-number.number + 1) (drop (c.loop-number.number + 1) docs) =
    next_rows c.args.weights docs c.loop-number.number doc c.loop-number.rows.items c.add_rows.new.rows.items l e c.in_ok-add_rows.ensures.ok c.loop-number.invariant.told in
    λ _. omega (arith, ap length (sym told ∙ rows_listed c.args.weights docs), length-append c.add_rows.new.rows.items (listed_rows c.args.weights (c.loop-number.number + 1) (drop (c.loop-number.number + 1) docs)))

pub loop-number-preserved : goal.loop-number-preserved
loop-number-preserved c =
    let docs = c.args.docs.now in
    let doc = c.doc-item.result in
    let l : c.loop-number.number < length docs = omega (arith, ap length c.as_slice-doc-items.ensures) in
    let e : doc ≡ get_or docs c.loop-number.number doc = c.doc-item.is ∙ ap (λ ds. get_or ds c.loop-number.number doc) c.as_slice-doc-items.ensures in
    record { told = next_rows c.args.weights docs c.loop-number.number doc c.loop-number.rows.items c.add_rows.new.rows.items l e c.in_ok-add_rows.ensures.ok c.loop-number.invariant.told; few = omega arith; text = text_more c.loop-number.rows.items c.add_rows.new.rows.items _ c.loop-number.invariant.text c.in_ok-add_rows.ensures.utf8 c.in_ok-add_rows.ensures.ok }

pub returns-clause-ok : goal.returns-clause-ok
returns-clause-ok c = c.from_vec.ensures ∙ last_rows c.args.weights c.args.docs.now c.loop-number.number c.loop-number.rows.items (omega (arith, ap length c.as_slice-doc-items.ensures)) c.loop-number.invariant.told

pub returns-clause-few : goal.returns-clause-few
returns-clause-few c =
    omega (arith, ap length (last_rows c.args.weights c.args.docs.now c.loop-number.number c.loop-number.rows.items (omega (arith, ap length c.as_slice-doc-items.ensures)) c.loop-number.invariant.told), c.loop-number.invariant.few)
