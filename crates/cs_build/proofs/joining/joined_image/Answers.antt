use Rattle.std.proofs.Common.{◌≡◌, ◌<◌, ◌≤◌, List, length, map, refl, sym, subst, ap, ◌∙◌, arith}
use Rattle.std.specs.Prelude.{filter}
use Rattle.std.specs.List.{AllByRecursion, zip}
use Rattle.std.proofs.lemmas.List.{length-map}
use Rattle.std.proofs.lemmas.List.Elements.{All-weaker}
use Rattle.cs_base.specs.content.Orders.{by_row}
use Rattle.cs_base.specs.declared.content.doc.Post.{Post}
use Rattle.cs_base.specs.declared.content.doc.Row.{Row}
use Rattle.cs_base.specs.declared.content.limits.TheConstants.{MAX_DOCS, MAX_ROWS, MAX_WORDS}
use Rattle.cs_base.proofs.OrdersLemmas.{by_row_exact, by_row_total}
use Rattle.cs_cols.specs.declared.cols.Cols.{Cols}
use Rattle.cs_model.specs.Corpus.{Corpus, distinct_words}
use Rattle.cs_model_index.specs.Images.{Image, IsImage, count_in}
use Rattle.cs_model_index.specs.Numbered.{numbered, row_of, rows_at}
use Rattle.cs_model_index.proofs.Listings.{listed_few}
use Rattle.cs_build.specs.Building.{corpus_of_rows}
use Rattle.cs_build.specs.Joining.{joined_posts, joined_rows}
use Rattle.cs_build.specs.WordRuns.{AreParted, AreSpans, CountsRows, is_within, run_head}
use Rattle.cs_build.proofs.AssembleLemmas.{as_many, counted_kept, few_kept, image_made, inside_kept, rows_kept, spans_kept}
use Rattle.cs_build.proofs.JoiningLemmas.{all_numbered, docs_known, numbers_told, ordered_blocks, parted_listed, words_listed}
use Rattle.cs_build.proofs.LimitLemmas.{has_limits}
use Rattle.cs_build.proofs.WritableLemmas.{can_be_written}
use Rattle.cs_build.proofs.joining.joined_image.Goals as goal
use Rattle.cs_build.proofs.joining.joined_image.Goals.{In_ok-runs, In_ok-blocks-2}

abbrev posts : In_ok-runs → List Post
posts c = joined_posts c.args.a.now c.args.first.now c.args.b.now c.args.second.now

abbrev rows : In_ok-runs → List Row
rows c = rows_at c.args.words (posts c)

abbrev listed : In_ok-runs → List Row
listed c = joined_rows c.args.words c.args.a.now c.args.first.now c.args.b.now c.args.second.now

same_posts : (c : In_ok-runs) → numbered c.args.words (rows c) ≡ posts c
same_posts c = all_numbered c.args.words (posts c) c.requires.known c.requires.words

-- the runs are the partition of the words, by the rows as they come
parted : (c : In_ok-runs) → AreParted c.a.inside.target c.args.words (count_in (rows c)) c.in_ok-runs.runs.items
parted c = c.in_ok-runs.ensures (rows c) (numbers_told c.args.words (posts c) c.requires.known c.requires.words c.deref.result.now (c.deref.ensures.value ∙ c.in_ok-numbers.ensures))

-- and by the rows in order
parted_in_order : (c : In_ok-runs) → AreParted c.a.inside.target c.args.words (count_in (listed c)) c.in_ok-runs.runs.items
parted_in_order c = parted_listed c.args.words (posts c) c.requires.known c.requires.words c.requires.once c.a.inside.target c.in_ok-runs.runs.items (parted c)

few_rows : (c : In_ok-runs) → length (listed c) ≤ MAX_ROWS
few_rows c = omega (arith, listed_few by_row by_row_total by_row_exact (rows c), length-map (posts c) (row_of c.args.words), c.requires.few)

words : (c : In_ok-runs) → c.args.words ≡ distinct_words (listed c)
words c = words_listed c.args.words (posts c) c.requires.known c.requires.words

few_words : (c : In_ok-runs) → length (distinct_words (listed c)) ≤ MAX_WORDS
few_words c = omega (arith, ap length (words c), c.requires.few_words)

filled : (c : In_ok-blocks-2) → map (λ (b : Cols). b.posts) c.in_ok-blocks-2.blocks.items
    ≡ map (λ run. filter (is_within run) (numbered c.args.words (joined_rows c.args.words c.args.a.now c.args.first.now c.args.b.now c.args.second.now))) c.in_ok-runs.runs.items
filled c =
    let all = joined_posts c.args.a.now c.args.first.now c.args.b.now c.args.second.now in
    ordered_blocks c.args.words all c.requires.known c.requires.words c.requires.corpus.named c.in_ok-runs.runs.items c.in_ok-blocks.blocks.items c.in_ok-blocks-2.blocks.items
    (c.in_ok-blocks.ensures ∙ ap (map (λ run. filter (is_within run) all)) c.deref-2.ensures.value) c.in_ok-blocks-2.ensures

pub runs_of-requires-clause-below : goal.runs_of-requires-clause-below
runs_of-requires-clause-below c =
    let all = joined_posts c.args.a.now c.args.first.now c.args.b.now c.args.second.now in
    (numbers_told c.args.words all c.requires.known c.requires.words c.deref.result.now (c.deref.ensures.value ∙ c.in_ok-numbers.ensures)).below

pub runs_of-requires-clause-few : goal.runs_of-requires-clause-few
runs_of-requires-clause-few c =
    let all = joined_posts c.args.a.now c.args.first.now c.args.b.now c.args.second.now in
    omega (arith, ap length (c.deref.ensures.value ∙ c.in_ok-numbers.ensures), length-map all (λ (p : Post). p.word), c.requires.few)

pub blocks_of_both-requires-clause-docs : goal.blocks_of_both-requires-clause-docs
blocks_of_both-requires-clause-docs c =
    let all = joined_posts c.args.a.now c.args.first.now c.args.b.now c.args.second.now in
    let few = c.requires.few_docs in
    All-weaker (λ (p : Post). p.doc < length c.args.titles) (λ p. p.doc < MAX_DOCS) (λ p l. omega (arith, l, few)) all
    (docs_known c.args.words all c.requires.known c.requires.words c.args.titles c.requires.corpus)

pub blocks_of_both-requires-clause-spans : goal.blocks_of_both-requires-clause-spans
blocks_of_both-requires-clause-spans c =
    let r = (goal.at.blocks_of_both-requires-clause-spans c).In_ok-runs in
    subst (λ rs. AreSpans 0 rs c.len.result) (sym c.deref-2.ensures.value) (spans_kept c.args.words (rows r) (posts r) c.a.inside.target c.in_ok-runs.runs.items c.requires.words (same_posts r) (parted r) c.len.result c.len.ensures.value)

pub blocks_of_both-requires-clause-few : goal.blocks_of_both-requires-clause-few
blocks_of_both-requires-clause-few c =
    let r = (goal.at.blocks_of_both-requires-clause-few c).In_ok-runs in
    omega (arith, few_kept c.args.words (rows r) (posts r) c.a.inside.target c.in_ok-runs.runs.items c.requires.words (same_posts r) (parted r), ap length c.deref-2.ensures.value, c.len.ensures.value)

pub blocks_of_both-requires-clause-counted : goal.blocks_of_both-requires-clause-counted
blocks_of_both-requires-clause-counted c =
    let r = (goal.at.blocks_of_both-requires-clause-counted c).In_ok-runs in
    subst (AllByRecursion (CountsRows (posts r))) (sym c.deref-2.ensures.value) (counted_kept c.args.words (rows r) (posts r) c.a.inside.target c.in_ok-runs.runs.items c.requires.words (same_posts r) (parted r))

pub run_heads-requires-clause-each : goal.run_heads-requires-clause-each
run_heads-requires-clause-each c =
    let r = (goal.at.run_heads-requires-clause-each c).In_ok-runs in
    let b = filled (goal.at.run_heads-requires-clause-each c).In_ok-blocks-2 in
    ap length c.deref-3.ensures.value
    ∙ as_many c.args.words (listed r) (numbered c.args.words (listed r)) c.a.inside.target c.in_ok-runs.runs.items (words r) refl (parted_in_order r) c.in_ok-blocks-2.blocks.items b
    ∙ sym (ap length c.deref-4.ensures.value)

pub run_heads-requires-clause-inside : goal.run_heads-requires-clause-inside
run_heads-requires-clause-inside c =
    let r = (goal.at.run_heads-requires-clause-inside c).In_ok-runs in
    subst (AllByRecursion (λ run. run.lo < length c.args.words)) (sym c.deref-3.ensures.value)
    (inside_kept c.args.words (listed r) (numbered c.args.words (listed r)) c.a.inside.target c.in_ok-runs.runs.items (words r) refl (parted_in_order r))

pub run_heads-requires-clause-few : goal.run_heads-requires-clause-few
run_heads-requires-clause-few c =
    let r = (goal.at.run_heads-requires-clause-few c).In_ok-runs in
    let b = filled (goal.at.run_heads-requires-clause-few c).In_ok-blocks-2 in
    subst (AllByRecursion (λ b. length b.posts ≤ MAX_ROWS)) (sym c.deref-4.ensures.value)
    (rows_kept c.args.words (listed r) (numbered c.args.words (listed r)) c.a.inside.target c.in_ok-runs.runs.items (words r) refl (parted_in_order r) c.in_ok-blocks-2.blocks.items b MAX_ROWS (few_rows r))

pub returns-clause-ok : goal.returns-clause-ok
returns-clause-ok c =
    let r = (goal.at.returns-clause-ok c).In_ok-runs in
    let b = filled (goal.at.returns-clause-ok c).In_ok-blocks-2 in
    let held : List (List Post) = map (λ (b : Cols). b.posts) c.in_ok-blocks-2.blocks.items in
    let h : c.in_ok-heads.heads.items ≡ map (run_head c.args.words) (zip c.in_ok-runs.runs.items held) = rw (c.deref-3.ensures.value, c.deref-4.ensures.value) at c.in_ok-heads.ensures in
    let image : Image = record { titles = c.args.titles; words = c.args.words; heads = c.in_ok-heads.heads.items; blocks = held; target = c.a.inside.target; weights = c.a.inside.weights } in
    let corpus : Corpus = corpus_of_rows c.args.titles (listed r) in
    let made : IsImage corpus c.a.inside.target c.a.inside.weights image =
    image_made c.args.words (listed r) (numbered c.args.words (listed r)) c.a.inside.target c.in_ok-runs.runs.items (words r) refl (parted_in_order r) c.in_ok-blocks-2.blocks.items b c.in_ok-heads.heads.items c.args.titles c.a.inside.weights h in
    rw (c.from_vec.ensures, c.from_vec-2.ensures)
    (subst (λ w. IsImage corpus c.args.a.now.target w image) (ap (λ (i : Image). i.weights) c.a.view_is) (subst (λ t. IsImage corpus t c.a.inside.weights image) (ap (λ (i : Image). i.target) c.a.view_is) made))

pub returns-clause-writable : goal.returns-clause-writable
returns-clause-writable c = λ bytes.
    let r = (goal.at.returns-clause-writable c).In_ok-runs in
    can_be_written c.args.titles (listed r) c.args.a.now.target c.args.a.now.weights _ c.requires.corpus.named (few_rows r) c.requires.few_docs bytes refl (few_words r) c.requires.target (returns-clause-ok c)

pub returns-clause-limits : goal.returns-clause-limits
returns-clause-limits c = λ from k.
    let r = (goal.at.returns-clause-limits c).In_ok-runs in
    has_limits c.args.titles (listed r) c.args.a.now.target c.args.a.now.weights _ c.requires.corpus.named (few_rows r) c.requires.few_docs refl (few_words r) from c.requires.target k.weights k.texts k.short k.few_bytes k.words k.scored c.requires.corpus.of_docs (returns-clause-ok c)
