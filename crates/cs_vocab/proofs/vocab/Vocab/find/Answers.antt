use Rattle.std.proofs.Common.{◌≡◌, ltb, [], true, false, true≢false, length, sym, ap, subst, ◌∙◌, arith}
use Rattle.std.specs.List.{list_any}
use Rattle.std.specs.List.Sorted.{IsStrictlySortedBy}
use Rattle.std.specs.Option.{is_some}
use Rattle.std.specs.Ordering.{nat_cmp}
use Rattle.std.specs.Cmp.Lexicographic.{slice_cmp}
use Rattle.std.specs.Str.{bytes_eq}
use Rattle.std.proofs.lemmas.Bool.Decides.{nat_tests}
use Rattle.std.proofs.lemmas.List.{get_or_default}
use Rattle.cs_vocab.proofs.RangesLemmas.{absent_from}
use Rattle.cs_vocab.proofs.vocab.Vocab.find.Goals as goal

pub returns-in_default-clause-absent : goal.returns-in_default-clause-absent
returns-in_default-clause-absent c =
    let ws = c.as_slice-words.result.now in
    let w = c.args.w.now in
    let n = c.first_from-n.result in
    let same : ws ≡ c.args.self.now = cc in
    let up : IsStrictlySortedBy (slice_cmp nat_cmp) ws = subst (IsStrictlySortedBy (slice_cmp nat_cmp)) (sym c.as_slice-words.ensures) c.self.invariant.0 in
    subst (λ v. list_any (bytes_eq w) v ≡ false) same
    (absent_from ws up w n c.first_from-n.ensures.split (λ l.
    ap (λ v. bytes_eq v w) (get_or_default ws n [] c.in-Some.word.now l ∙ sym c.in-Some.ensures.lookup.1 ∙ sym c.bytes.ensures.value) ∙ sym c.eq.ensures ∙ c.if-eq.false))

pub returns-in_default-2-clause-absent : goal.returns-in_default-2-clause-absent
returns-in_default-2-clause-absent c =
    let ws = c.as_slice-words.result.now in
    let w = c.args.w.now in
    let n = c.first_from-n.result in
    let same : ws ≡ c.args.self.now = cc in
    let up : IsStrictlySortedBy (slice_cmp nat_cmp) ws = subst (IsStrictlySortedBy (slice_cmp nat_cmp)) (sym c.as_slice-words.ensures) c.self.invariant.0 in
    let past : ltb n (length ws) ≡ false = sym c.get.ensures.lookup.0 ∙ ap is_some c.in_default.is in
    subst (λ v. list_any (bytes_eq w) v ≡ false) same
    (absent_from ws up w n c.first_from-n.ensures.split (λ l. let there : ltb n (length ws) ≡ true = grind (arith, nat_tests) in absurd (true≢false (sym there ∙ past))))
