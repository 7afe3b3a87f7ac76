use Rattle.std.proofs.Common.{◌≡◌, true, List, ℕ, ◌++◌, map, Option, ap, subst}
use Rattle.cs_base.specs.outside.Outside.{GrewByPrefix}
use Rattle.cs_base.specs.declared.index.block.BlockHead.{BlockHead}
use Rattle.cs_base.specs.declared.content.scores.Weights.{Weights}
use Rattle.cs_base.proofs.GrewLemmas.{on_err}
use Rattle.cs_cols.specs.declared.cols.Cols.{Cols}
use Rattle.cs_model_index.specs.Images.{Image}
use Rattle.cs_model_index.specs.Layout.{file, file_in, header_bytes, header_of_image, vocabulary_bytes, offset_bytes, title_bytes, directory_bytes, blocks_bytes}
use Rattle.cs_file.specs.Putting.{HasPut}
use Rattle.cs_file.proofs.SinkPuts.{then_ok, then_err, put_on, fails_first, fails_on}
use Rattle.cs_file.proofs.writing.put_sections.Goals as goal

-- the sections of an image's file, by what was lent of it
whole : {i : Image} {ws titles : List (List ℕ)} {heads : List BlockHead} {blocks : List Cols} {target : ℕ} {w : Weights} {ts : List (List ℕ)}
    {hs : List BlockHead} {bs : List Cols}
    → let view : Image = record { titles = titles; words = ws; heads = heads; blocks = map (λ (b : Cols). b.posts) blocks; target = target; weights = w } in
    view ≡ i
    → ts ≡ titles → hs ≡ heads → bs ≡ blocks
    → header_bytes (header_of_image true i) ++ (vocabulary_bytes ws
    ++ (offset_bytes ts ++ (title_bytes ts ++ (directory_bytes true hs ++ blocks_bytes hs (map (λ (b : Cols). b.posts) bs))))) ≡ file i
unfolding file_in
whole {i} e f g h =
    rw (f, g, h) (ap (λ (k : Image). header_bytes (header_of_image true i)
    ++ (vocabulary_bytes k.words ++ (offset_bytes k.titles ++ (title_bytes k.titles ++ (directory_bytes true k.heads ++ blocks_bytes k.heads k.blocks))))) e)

-- a section whose put fails, and one that was put before it
fails : (w : Option (List ℕ)) (h : List ℕ) {u : Option (List ℕ)} {all b : List ℕ} → b ≡ all → GrewByPrefix w (h ++ b) u → GrewByPrefix w (h ++ all) u
fails w h {u} e g = subst (λ (x : List ℕ). GrewByPrefix w (h ++ x) u) e g

after : {w v u : Option (List ℕ)} {h k a : List ℕ} (b : List ℕ) → HasPut w h a v k → GrewByPrefix v (k ++ b) u → GrewByPrefix w (h ++ (a ++ b)) u
after {w} {v} {u} {h} {k} {a} b p g = fails_on w h a b v u k p g

then_put : {w v u : Option (List ℕ)} {h k m a b : List ℕ} → HasPut w h a v k → HasPut v k b u m → HasPut w h (a ++ b) u m
then_put {w} {v} {u} {h} {k} {m} {a} {b} p q = put_on w h a b v u k m p q

pub returns-in_err-put_header-clause-err : goal.returns-in_err-put_header-clause-err
returns-in_err-put_header-clause-err g c =
    let is = whole c.image.view_is c.as_slice-titles.ensures c.as_slice-heads.ensures c.as_slice-blocks.ensures in
    on_err c.from_residual.result _ (fails _ _ is (fails_first _ _ (header_bytes (header_of_image true c.args.image.now)) _ _ c.in_err-put_header.ensures.err))

pub returns-in_err-put_vocabulary-clause-err : goal.returns-in_err-put_vocabulary-clause-err
returns-in_err-put_vocabulary-clause-err g c =
    let is = whole c.image.view_is c.as_slice-titles.ensures c.as_slice-heads.ensures c.as_slice-blocks.ensures in
    on_err c.from_residual-in_err-put_vocabulary.result _
    (fails _ _ is (after _ c.in_ok-put_header.ensures.ok
    (fails_first _ _ (vocabulary_bytes c.image.inside.words) _ _ c.in_err-put_vocabulary.ensures.err)))

pub returns-in_err-put_offsets-clause-err : goal.returns-in_err-put_offsets-clause-err
returns-in_err-put_offsets-clause-err g c =
    let is = whole c.image.view_is c.as_slice-titles.ensures c.as_slice-heads.ensures c.as_slice-blocks.ensures in
    on_err c.from_residual-in_err-put_offsets.result _
    (fails _ _ is (after _ c.in_ok-put_header.ensures.ok (after _ c.in_ok-put_vocabulary.ensures.ok
    (fails_first _ _ (offset_bytes c.as_slice-titles.result.now) _ _ c.in_err-put_offsets.ensures.err))))

pub returns-in_err-put_titles-clause-err : goal.returns-in_err-put_titles-clause-err
returns-in_err-put_titles-clause-err g c =
    let is = whole c.image.view_is c.as_slice-titles.ensures c.as_slice-heads.ensures c.as_slice-blocks.ensures in
    on_err c.from_residual-in_err-put_titles.result _
    (fails _ _ is (after _ c.in_ok-put_header.ensures.ok (after _ c.in_ok-put_vocabulary.ensures.ok (after _ c.in_ok-put_offsets.ensures.ok
    (fails_first _ _ (title_bytes c.as_slice-titles.result.now) _ _ c.in_err-put_titles.ensures.err)))))

pub returns-in_err-put_directory-clause-err : goal.returns-in_err-put_directory-clause-err
returns-in_err-put_directory-clause-err g c =
    let is = whole c.image.view_is c.as_slice-titles.ensures c.as_slice-heads.ensures c.as_slice-blocks.ensures in
    on_err c.from_residual-in_err-put_directory.result _
    (fails _ _ is (after _ c.in_ok-put_header.ensures.ok (after _ c.in_ok-put_vocabulary.ensures.ok (after _ c.in_ok-put_offsets.ensures.ok
    (after _ c.in_ok-put_titles.ensures.ok (fails_first _ _ (directory_bytes true c.as_slice-heads.result.now) _ _ c.in_err-put_directory.ensures.err))))))

pub returns-clause-ok : goal.returns-clause-ok
returns-clause-ok g c =
    let is = whole c.image.view_is c.as_slice-titles.ensures c.as_slice-heads.ensures c.as_slice-blocks.ensures in
    let now = g.S.Sink.written c.put_blocks.new.out in
    let put = λ (b : List ℕ). HasPut (g.S.Sink.written c.args.out.now) c.args.held.now.items b now c.put_blocks.new.held.items in
    then_ok c.put_blocks.result _ _ (λ q. subst put is
    (then_put c.in_ok-put_header.ensures.ok (then_put c.in_ok-put_vocabulary.ensures.ok (then_put c.in_ok-put_offsets.ensures.ok
    (then_put c.in_ok-put_titles.ensures.ok (then_put c.in_ok-put_directory.ensures.ok q)))))) c.put_blocks.ensures.ok

pub returns-clause-err : goal.returns-clause-err
returns-clause-err g c =
    let is = whole c.image.view_is c.as_slice-titles.ensures c.as_slice-heads.ensures c.as_slice-blocks.ensures in
    then_err c.put_blocks.result _ _ (λ q. fails _ _ is
    (after _ c.in_ok-put_header.ensures.ok (after _ c.in_ok-put_vocabulary.ensures.ok (after _ c.in_ok-put_offsets.ensures.ok
    (after _ c.in_ok-put_titles.ensures.ok (after _ c.in_ok-put_directory.ensures.ok q)))))) c.put_blocks.ensures.err
