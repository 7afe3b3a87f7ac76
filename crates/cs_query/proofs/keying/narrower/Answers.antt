use Rattle.std.proofs.Common.{◌≡◌, ℕ, List, ◌-◌, ◌≤◌, length, take, ap, sym, subst, ◌∙◌, arith, length-append, Some}
use Rattle.std.specs.Str.{IsCharBoundary}
use Rattle.cs_base.specs.declared.content.key.Narrower.{Narrower}
use Rattle.cs_base.specs.declared.content.query.Query.{Query}
use Rattle.cs_model.specs.Canonical.{canonical}
use Rattle.cs_model.specs.Keys.{last_prefix}
use Rattle.cs_model.proofs.KeyLemmas.{Shortened, shortened, prefix_short}
use Rattle.cs_query.specs.Printing.{Continues}
use Rattle.cs_query.proofs.keying.narrower.Goals as goal

cut_text : (q : Query) (text word rest : List ℕ) → last_prefix q ≡ Some word → text ≡ canonical q → Continues rest word → 1 ≤ length rest → Shortened q rest word (length text - (length word - length rest))
cut_text q text word rest h t c some = shortened q rest word c.more _ h c.same c.utf8 some (ap (λ l. length l - (length word - length rest)) t)

pub overflow_sub-end-2 : goal.overflow_sub-end-2
overflow_sub-end-2 c =
    let s = cut_text c.args.query.now c.args.text.now c.args.word.now c.args.rest.now c.requires.prefix c.requires.text c.requires.begins c.requires.some in
    omega (arith, s.fits, ap length c.requires.text)

pub range-requires-clause-end_boundary : goal.range-requires-clause-end_boundary
range-requires-clause-end_boundary c =
    let s = cut_text c.args.query.now c.args.text.now c.args.word.now c.args.rest.now c.requires.prefix c.requires.text c.requires.begins c.requires.some in
    subst (λ t. IsCharBoundary t (length c.args.text.now - (length c.args.word.now - length c.args.rest.now))) (sym c.requires.text) s.boundary

pub overflow_cast-result : goal.overflow_cast-result
overflow_cast-result c =
    let short = prefix_short c.args.query.now c.args.word.now c.requires.prefix in
    let behind = length-append c.args.rest.now c.requires.begins.more in
    omega (arith, short, ap length c.requires.text, c.requires.short, ap length c.requires.begins.same, behind)

pub returns : goal.returns
returns c =
    let n : ℕ = length c.args.text.now - (length c.args.word.now - length c.args.rest.now) in
    let s = cut_text c.args.query.now c.args.text.now c.args.word.now c.args.rest.now c.requires.prefix c.requires.text c.requires.begins c.requires.some in
    let all : n - 0 ≡ n = omega arith in
    let key = c.in_ok-key.ensures.ok ∙ c.in_ok-text.ensures.ok ∙ c.range.ensures.value ∙ ap (λ k. take k c.args.text.now) all ∙ ap (take n) c.requires.text ∙ s.same in
    ap (λ k. let r : Narrower = record { cut = length c.args.rest.now; key = k } in r) key
