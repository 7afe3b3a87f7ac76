use Rattle.std.proofs.Common.{◌≡◌, ◌+◌, ◌*◌, ℕ, List, Option, Some, [], ◌∷◌, length, refl, sym, ap, subst, ◌∙◌, arith}
use Rattle.cs_base.specs.declared.index.block.Broken.{Broken}
use Rattle.cs_base.specs.outside.Outside.{part}
use Rattle.cs_model.specs.First.{first_reason}
use Rattle.cs_model_index.specs.FileRules.{tried}
use Rattle.cs_model_index.proofs.NumbersLemmas.{numbers_count}
use Rattle.cs_file.specs.HeaderView.{seen_header}
use Rattle.cs_file.specs.Opening.{Refuses, HasOffsets, bad_offset, bad_title, offsets_of, titles_stage}
use Rattle.cs_file.proofs.StagesLemmas.{judged_along, judges_by, none_of_all, two_first, two_last}
use Rattle.cs_file.proofs.TitleStageLemmas.{titles_is, offsets_are, has_offsets}
use Rattle.cs_file.proofs.titles.read_titles.Given as given
use Rattle.cs_file.proofs.titles.read_titles.Goals as goal
use Rattle.cs_file.proofs.titles.read_titles.Goals.{In_ok-offsets, After-bad_offset}

-- the offsets are those of the bytes
read : (g : given.Over) (c : In_ok-offsets g) (b : List ℕ) → g.S.Store.bytes c.args.store.now ≡ Some b → c.in_ok-offsets.offsets.items ≡ offsets_of b
read g c b t =
    let h = seen_header c.args.header.now in
    let at = c.deref.ensures.value ∙ c.in_ok-bytes.ensures.ok b t ∙ ap (λ n. part b n (4 * (h.docs + 1))) c.offsets_at.ensures.value in
    c.in_ok-offsets.ensures ∙ offsets_are b h c.deref.result.now (c.requires.told b t) at

-- rule 8, and the stage by it and rule 9
abbrev steps : (g : given.Over) → In_ok-offsets g → Option Broken
steps g c = tried 8 (bad_offset (seen_header c.args.header.now) c.in_ok-offsets.offsets.items)

stage : (g : given.Over) (c : In_ok-offsets g) (b : List ℕ) → g.S.Store.bytes c.args.store.now ≡ Some b
    → titles_stage b ≡ first_reason (steps g c ∷ tried 9 (bad_title b) ∷ [])
stage g c b t = titles_is b (seen_header c.args.header.now) c.in_ok-offsets.offsets.items (c.requires.told b t) (read g c b t)

found : (g : given.Over) (c : After-bad_offset g)
    → tried 8 c.bad_offset.result ≡ tried 8 (bad_offset (seen_header c.args.header.now) c.in_ok-offsets.offsets.items)
found g c = ap (tried 8) (c.bad_offset.ensures ∙ ap (bad_offset (seen_header c.args.header.now)) c.deref-2.ensures.value)

pub returns-in_err-bytes-clause-exact : goal.returns-in_err-bytes-clause-exact
returns-in_err-bytes-clause-exact g c = λ b t. judged_along _ _ c.from_residual.result (c.in_err-bytes.ensures.err _) c.from_residual.ensures.1

pub bad_offset-requires-clause-few : goal.bad_offset-requires-clause-few
bad_offset-requires-clause-few g c =
    let count = ap length c.deref-2.ensures.value ∙ ap length c.in_ok-offsets.ensures ∙ numbers_count (c.args.header.now.docs + 1) c.deref.result.now in
    let few = c.requires.ranges.docs in
    omega (arith, count, few)

pub returns-in_err-tried-clause-exact : goal.returns-in_err-tried-clause-exact
returns-in_err-tried-clause-exact g c = λ b t.
    let from = goal.at.returns-in_err-tried-clause-exact g c in
    let refused = subst (λ o. Refuses o c.in_err-tried.field-0.0) (found g from.After-bad_offset) c.in_err-tried.ensures.judged in
    judges_by _ _ c.from_residual-in_err-tried.result (stage g from.In_ok-offsets b t)
    (two_first (steps g from.In_ok-offsets) (tried 9 (bad_title b)) c.in_err-tried.field-0.0 c.from_residual-in_err-tried.result refused
    c.from_residual-in_err-tried.ensures.1)

pub judge_titles-requires-clause-ruled : goal.judge_titles-requires-clause-ruled
judge_titles-requires-clause-ruled g c =
    let fine = sym (found g (goal.at.judge_titles-requires-clause-ruled g c).After-bad_offset) ∙ c.in_ok-tried.ensures.judged in
    let h = seen_header c.args.header.now in
    subst (HasOffsets h) (sym c.deref-3.ensures.value) (has_offsets h c.in_ok-offsets.offsets.items c.deref.result.now c.in_ok-offsets.ensures fine)

pub judge_titles-requires-clause-offsets : goal.judge_titles-requires-clause-offsets
judge_titles-requires-clause-offsets g c = λ b s.
    c.deref-3.ensures.value ∙ read g (goal.at.judge_titles-requires-clause-offsets g c).In_ok-offsets b (sym c.in_ok-bytes.ensures.bytes ∙ s)

pub returns-in_err-judge_titles-clause-exact : goal.returns-in_err-judge_titles-clause-exact
returns-in_err-judge_titles-clause-exact g c = λ b t.
    let from = goal.at.returns-in_err-judge_titles-clause-exact g c in
    let fine = sym (found g from.After-bad_offset) ∙ c.in_ok-tried.ensures.judged in
    judges_by _ _ c.from_residual-in_err-judge_titles.result (stage g from.In_ok-offsets b t)
    (two_last (steps g from.In_ok-offsets) (tried 9 (bad_title b)) c.from_residual-in_err-judge_titles.result fine
    (judged_along _ _ c.from_residual-in_err-judge_titles.result (c.in_err-judge_titles.ensures.exact b (c.in_ok-bytes.ensures.bytes ∙ t))
    c.from_residual-in_err-judge_titles.ensures.1))

pub returns-clause-exact : goal.returns-clause-exact
returns-clause-exact g c = λ b t.
    let from = goal.at.returns-clause-exact g c in
    let fine = sym (found g from.After-bad_offset) ∙ c.in_ok-tried.ensures.judged in
    let last = tried 9 (bad_title b) in
    stage g from.In_ok-offsets b t ∙ none_of_all (steps g from.In_ok-offsets) (last ∷ []) fine
    (none_of_all last [] (c.in_ok-judge_titles.ensures.exact b (c.in_ok-bytes.ensures.bytes ∙ t)) refl)

pub returns-clause-offsets : goal.returns-clause-offsets
returns-clause-offsets g c = λ b t. c.from_vec.ensures ∙ read g (goal.at.returns-clause-offsets g c).In_ok-offsets b t

pub returns-clause-ruled : goal.returns-clause-ruled
returns-clause-ruled g c =
    let fine = sym (found g (goal.at.returns-clause-ruled g c).After-bad_offset) ∙ c.in_ok-tried.ensures.judged in
    let h = seen_header c.args.header.now in
    subst (HasOffsets h) (sym c.from_vec.ensures) (has_offsets h c.in_ok-offsets.offsets.items c.deref.result.now c.in_ok-offsets.ensures fine)
