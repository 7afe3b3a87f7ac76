use Rattle.std.proofs.Common.{◌≡◌, sym, ap, subst, map, length, ◌∙◌, ℕ, List, Some, None, refl, arith}
use Rattle.std.specs.Prelude.{All}
use Rattle.std.specs.List.{sum_by}
use Rattle.cs_base.specs.declared.index.block.BlockHead.{BlockHead}
use Rattle.cs_model_index.specs.Blocks.{IsShaped}
use Rattle.cs_model_index.specs.Layout.{Header}
use Rattle.cs_file.specs.HeaderView.{seen_header}
use Rattle.cs_file.specs.Indexes.{ArePlaces, IndexView}
use Rattle.cs_file.specs.Opening.{Refuses, blocks_stage, directory_stage, header_stage, parts_stage, titles_stage, vocabulary_stage, HasHeads}
use Rattle.cs_file.specs.Opening.{HasVocabulary, parts_judged}
use Rattle.cs_file.specs.Parting.{bare}
use Rattle.cs_file.proofs.BareHeads.{heads_ruled, named_parts}
use Rattle.cs_file.proofs.OpeningStages.{in_header, in_vocabulary, in_titles, in_directory, in_blocks, in_parts, damaged_along, Kept, index_kept}
use Rattle.cs_file.proofs.OpeningStages.{shaped_heads, few_rows, AllRead, index_is, stands_for, fits_store}
use Rattle.cs_file.proofs.BlockParts.{heads_of_parts, parts_are}
use Rattle.cs_file.proofs.opening.open_index.Given as given
use Rattle.cs_file.proofs.opening.open_index.Goals as goal
use Rattle.cs_file.proofs.opening.open_index.Goals.{In_ok-parts, After-deref-3, After-blocks_at}

-- each section was read, and its stage finds nothing
record Passed (b : List ℕ) (h : Header) : Type 0 where
  read : AllRead b h
  header : header_stage b ≡ None
  vocabulary : vocabulary_stage b ≡ None
  titles : titles_stage b ≡ None
  directory : directory_stage b ≡ None
  blocks : blocks_stage b ≡ None

passed : (g : given.Over) (c : In_ok-parts g) (b : List ℕ) → g.S.Store.bytes c.args.store.now ≡ Some b → Passed b (seen_header c.in_ok-header.header)
passed g c b t =
    let t1 = c.in_ok-header.ensures.bytes ∙ t in
    let t2 = c.in_ok-words.ensures.bytes ∙ t1 in
    let t3 = c.in_ok-offsets.ensures.bytes ∙ t2 in
    let t4 = c.in_ok-named.ensures.bytes ∙ t3 in
    record {
      read = record {
        header = c.in_ok-header.ensures.small b t;
        vocabulary = c.in_ok-words.ensures.small b t1;
        offsets = c.in_ok-offsets.ensures.small b t2;
        titles = c.in_ok-offsets.ensures.texts b t2;
        directory = c.in_ok-named.ensures.small b t3;
        blocks = c.in_ok-parts.ensures.small b t4;
      };
      header = c.in_ok-header.ensures.exact b t;
      vocabulary = c.in_ok-words.ensures.exact b t1;
      titles = c.in_ok-offsets.ensures.exact b t2;
      directory = c.in_ok-named.ensures.exact b t3;
      blocks = c.in_ok-parts.ensures.exact b t4;
    }

-- rules 18 and 19, by what is kept of each block
parting : (g : given.Over) (c : After-deref-3 g) (b : List ℕ) → g.S.Store.bytes c.args.store.now ≡ Some b
    → parts_stage b ≡ parts_judged (seen_header c.in_ok-header.header) c.as_slice-2.result.now c.deref-2.result.now c.deref-3.result.now
parting g c b t =
    let t1 = c.in_ok-header.ensures.bytes ∙ t in
    let t3 = c.in_ok-offsets.ensures.bytes ∙ c.in_ok-words.ensures.bytes ∙ t1 in
    parts_are b (seen_header c.in_ok-header.header) c.as_slice-2.result.now c.deref-2.result.now c.deref-3.result.now (c.in_ok-header.ensures.told b t)
    (c.as_slice-2.ensures ∙ c.in_ok-words.ensures.words b t1) (c.deref-2.ensures.value ∙ c.in_ok-named.ensures.heads b t3)
    (c.deref-3.ensures.value ∙ c.in_ok-parts.ensures.parts b (c.in_ok-named.ensures.bytes ∙ t3))

-- what is kept, and that it goes by the rules of its sections
abbrev view : (g : given.Over) → After-blocks_at g → IndexView
view g c = record {
  docs = c.in_ok-header.header.docs;
  words = c.from_words.result;
  offsets = c.in_ok-offsets.offsets;
  heads = c.in_ok-heads.heads;
  target = c.in_ok-header.header.target;
  weights = c.weights_of.result;
  titles_at = c.titles_at.result;
  blocks_at = c.blocks_at.result;
}

kept : (g : given.Over) (c : After-blocks_at g) → Kept (seen_header c.in_ok-header.header) (view g c)
kept g c =
    let h = seen_header c.in_ok-header.header in
    let words = c.from_words.ensures in
    let ruled = heads_ruled (seen_header c.in_ok-header.header) c.in_ok-words.words c.in_ok-named.named.items c.in_ok-parts.parts.items c.in_ok-heads.heads
    (c.in_ok-parts.ensures.bare ∙ ap (map bare) c.deref.ensures.value) (c.in_ok-heads.ensures ∙ ap (map (λ p. p.head)) c.deref-4.ensures.value)
    (subst (λ ws. HasHeads (seen_header c.in_ok-header.header) ws c.in_ok-named.named.items) c.as_slice.ensures c.in_ok-named.ensures.ruled) in
    record {
      header = c.in_ok-header.ensures.ranges;
      words = subst (HasVocabulary h) (sym words) c.in_ok-words.ensures.ruled;
      offsets = c.in_ok-offsets.ensures.ruled;
      heads = subst (λ ws. HasHeads h ws c.in_ok-heads.heads) (sym words) ruled;
      docs = refl;
      target = refl;
      weights = c.weights_of.ensures;
      titles_place = c.titles_at.ensures.value;
      blocks_place = c.blocks_at.ensures.value;
    }

pub returns-in_err-header-clause-damaged : goal.returns-in_err-header-clause-damaged
returns-in_err-header-clause-damaged g c = λ b t. damaged_along b c.in_err-header.field-0.0 c.from_residual.result
    (in_header b c.in_err-header.field-0.0 (c.in_err-header.ensures.exact b t)) c.from_residual.ensures.1

pub returns-in_err-words-clause-damaged : goal.returns-in_err-words-clause-damaged
returns-in_err-words-clause-damaged g c = λ b t.
    let t1 = c.in_ok-header.ensures.bytes ∙ t in
    damaged_along b c.in_err-words.field-0.0 c.from_residual-in_err-words.result
    (in_vocabulary b c.in_err-words.field-0.0 (c.in_ok-header.ensures.exact b t) (c.in_err-words.ensures.exact b t1)) c.from_residual-in_err-words.ensures.1

pub returns-in_err-offsets-clause-damaged : goal.returns-in_err-offsets-clause-damaged
returns-in_err-offsets-clause-damaged g c = λ b t.
    let t1 = c.in_ok-header.ensures.bytes ∙ t in
    let t2 = c.in_ok-words.ensures.bytes ∙ t1 in
    damaged_along b c.in_err-offsets.field-0.0 c.from_residual-in_err-offsets.result
    (in_titles b c.in_err-offsets.field-0.0 (c.in_ok-header.ensures.exact b t) (c.in_ok-words.ensures.exact b t1) (c.in_err-offsets.ensures.exact b t2))
    c.from_residual-in_err-offsets.ensures.1

pub returns-in_err-named-clause-damaged : goal.returns-in_err-named-clause-damaged
returns-in_err-named-clause-damaged g c = λ b t.
    let t1 = c.in_ok-header.ensures.bytes ∙ t in
    let t2 = c.in_ok-words.ensures.bytes ∙ t1 in
    let t3 = c.in_ok-offsets.ensures.bytes ∙ t2 in
    damaged_along b c.in_err-named.field-0.0 c.from_residual-in_err-named.result
    (in_directory b c.in_err-named.field-0.0 (c.in_ok-header.ensures.exact b t) (c.in_ok-words.ensures.exact b t1) (c.in_ok-offsets.ensures.exact b t2)
    (c.in_err-named.ensures.exact b t3)) c.from_residual-in_err-named.ensures.1

pub returns-in_err-parts-clause-damaged : goal.returns-in_err-parts-clause-damaged
returns-in_err-parts-clause-damaged g c = λ b t.
    let t1 = c.in_ok-header.ensures.bytes ∙ t in
    let t2 = c.in_ok-words.ensures.bytes ∙ t1 in
    let t3 = c.in_ok-offsets.ensures.bytes ∙ t2 in
    let t4 = c.in_ok-named.ensures.bytes ∙ t3 in
    damaged_along b c.in_err-parts.field-0.0 c.from_residual-in_err-parts.result
    (in_blocks b c.in_err-parts.field-0.0 (c.in_ok-header.ensures.exact b t) (c.in_ok-words.ensures.exact b t1) (c.in_ok-offsets.ensures.exact b t2)
    (c.in_ok-named.ensures.exact b t3) (c.in_err-parts.ensures.exact b t4)) c.from_residual-in_err-parts.ensures.1

pub read_blocks-requires-clause-shaped : goal.read_blocks-requires-clause-shaped
read_blocks-requires-clause-shaped g c =
    subst (λ (hs : List BlockHead). All (λ x. IsShaped x x.len) hs) (sym c.deref.ensures.value)
    (shaped_heads (seen_header c.in_ok-header.header) c.in_ok-words.words c.in_ok-offsets.offsets c.in_ok-named.named.items c.in_ok-header.ensures.ranges
    c.in_ok-words.ensures.ruled c.in_ok-offsets.ensures.ruled
    (subst (λ ws. HasHeads (seen_header c.in_ok-header.header) ws c.in_ok-named.named.items) c.as_slice.ensures c.in_ok-named.ensures.ruled))

pub read_blocks-requires-clause-rows : goal.read_blocks-requires-clause-rows
read_blocks-requires-clause-rows g c = few_rows (seen_header c.in_ok-header.header) c.in_ok-words.words c.deref.result.now c.in_ok-header.ensures.ranges
    (subst (HasHeads (seen_header c.in_ok-header.header) c.in_ok-words.words) (sym c.deref.ensures.value)
    (subst (λ ws. HasHeads (seen_header c.in_ok-header.header) ws c.in_ok-named.named.items) c.as_slice.ensures c.in_ok-named.ensures.ruled))

pub judge_parts-requires-clause-count : goal.judge_parts-requires-clause-count
judge_parts-requires-clause-count g c =
    ap length c.deref-2.ensures.value ∙ named_parts c.in_ok-named.named.items c.in_ok-parts.parts.items (c.in_ok-parts.ensures.bare ∙ ap (map bare) c.deref.ensures.value)
    ∙ sym (ap length c.deref-3.ensures.value)

pub judge_parts-requires-clause-few : goal.judge_parts-requires-clause-few
judge_parts-requires-clause-few g c =
    let count = ap length c.deref-3.ensures.value ∙ sym (named_parts c.in_ok-named.named.items c.in_ok-parts.parts.items
    (c.in_ok-parts.ensures.bare ∙ ap (map bare) c.deref.ensures.value)) in
    let blocks = c.in_ok-named.ensures.ruled.count in
    let most = c.in_ok-header.ensures.ranges.blocks in
    let few = c.in_ok-header.ensures.ranges.words in
    omega (arith, count, blocks, most, few)

pub returns-in_err-judge_parts-clause-damaged : goal.returns-in_err-judge_parts-clause-damaged
returns-in_err-judge_parts-clause-damaged g c = λ b t.
    let from = goal.at.returns-in_err-judge_parts-clause-damaged g c in
    let p = passed g from.In_ok-parts b t in
    let refused = subst (λ o. Refuses o c.in_err-judge_parts.field-0.0) (sym (parting g from.After-deref-3 b t)) c.in_err-judge_parts.ensures.exact in
    damaged_along b c.in_err-judge_parts.field-0.0 c.from_residual-in_err-judge_parts.result
    (in_parts b c.in_err-judge_parts.field-0.0 p.header p.vocabulary p.titles p.directory p.blocks refused) c.from_residual-in_err-judge_parts.ensures.1

pub places_of-requires : goal.places_of-requires
places_of-requires g c =
    let lens : sum_by (λ h. h.len) c.as_slice-3.result.now ≡ sum_by (λ h. h.len) c.in_ok-heads.heads = ap (sum_by (λ h. h.len)) c.as_slice-3.ensures in
    let ruled = heads_ruled (seen_header c.in_ok-header.header) c.in_ok-words.words c.in_ok-named.named.items c.in_ok-parts.parts.items c.in_ok-heads.heads
    (c.in_ok-parts.ensures.bare ∙ ap (map bare) c.deref.ensures.value) (c.in_ok-heads.ensures ∙ ap (map (λ p. p.head)) c.deref-4.ensures.value)
    (subst (λ ws. HasHeads (seen_header c.in_ok-header.header) ws c.in_ok-named.named.items) c.as_slice.ensures c.in_ok-named.ensures.ruled) in
    let bytes = ruled.bytes in
    let few = c.in_ok-header.ensures.ranges.postings in
    omega (arith, lens, bytes, few)

pub invariant_of-result : goal.invariant_of-result
invariant_of-result g c =
    let all = (goal.at.invariant_of-result g c).After-blocks_at in
    record {
      index = index_kept (seen_header c.in_ok-header.header) (view g all) (kept g all);
      places = subst (λ hs. ArePlaces hs c.in_ok-places.places) c.as_slice-3.ensures c.in_ok-places.ensures;
    }

pub returns-clause-ok : goal.returns-clause-ok
returns-clause-ok g c = λ b t.
    let from = goal.at.returns-clause-ok g c in
    let p = passed g from.In_ok-parts b t in
    let t1 = c.in_ok-header.ensures.bytes ∙ t in
    let t2 = c.in_ok-words.ensures.bytes ∙ t1 in
    let h = seen_header c.in_ok-header.header in
    let i = view g from.After-blocks_at in
    let is = c.in_ok-header.ensures.told b t in
    let t3 = c.in_ok-offsets.ensures.bytes ∙ t2 in
    let heads = c.in_ok-heads.ensures ∙ ap (map (λ p. p.head)) (c.deref-4.ensures.value ∙ c.in_ok-parts.ensures.parts b (c.in_ok-named.ensures.bytes ∙ t3))
    ∙ heads_of_parts b in
    let own = index_is b h i is refl (c.from_words.ensures ∙ c.in_ok-words.ensures.words b t1) (c.in_ok-offsets.ensures.offsets b t2) heads refl c.weights_of.ensures c.titles_at.ensures.value c.blocks_at.ensures.value in
    stands_for b h i is p.read p.header p.vocabulary p.titles p.directory p.blocks (parting g from.After-deref-3 b t ∙ c.in_ok-judge_parts.ensures.exact) own

pub returns-clause-fits : goal.returns-clause-fits
returns-clause-fits g c =
    let all = (goal.at.returns-clause-fits g c).After-blocks_at in
    let same = c.in_ok-parts.ensures.bytes ∙ c.in_ok-named.ensures.bytes ∙ c.in_ok-offsets.ensures.bytes ∙ c.in_ok-words.ensures.bytes
    ∙ c.in_ok-header.ensures.bytes in
    λ b t. fits_store _ (seen_header c.in_ok-header.header) (view g all) c.in_ok-header.ensures.told (kept g all) b (sym same ∙ t)
