use Rattle.std.proofs.Common.{◌≡◌, ◌+◌, ◌<◌, length, ap, arith, inl, inr}
use Rattle.cs_block.proofs.ListedRows.{IsNextRow, broken_doc, broken_word, listed_all, listing, lists_on, never_stuck}
use Rattle.cs_block.proofs.listing.list_rows.Goals as goal

pub loop-i-init : goal.loop-i-init
loop-i-init c = listing c.args.front.head.now c.args.front.docs c.args.front.gaps.now c.args.front.words.now c.args.row_docs.now c.args.row_words.now

pub returns-in_default-clause-broken : goal.returns-in_default-clause-broken
returns-in_default-clause-broken c =
    let s = c.loop-i in
    let head = c.args.front.head.now in
    let docs = c.args.front.docs in
    let gaps = c.args.front.gaps.now in
    let words = c.args.front.words.now in
    let more : s.i < head.rows = omega arith in
    elim c.in_default.ensures [
      | inl none ↦ absurd (never_stuck head docs gaps words s.i s.at s.before s.bad_word s.row_docs s.row_words c.requires.codes more none s.invariant)
      | inr late ↦ broken_doc head docs gaps words s.i s.at s.before late.0 late.1 s.bad_word s.row_docs s.row_words c.requires.codes more late.2
          late.3 s.invariant
    ]

pub loop-i-preserved : goal.loop-i-preserved
loop-i-preserved c =
    let s = c.loop-i in
    let head = c.args.front.head.now in
    let docs = c.args.front.docs in
    let gaps = c.args.front.gaps.now in
    let words = c.args.front.words.now in
    let found = c.in-Some in
    let here = found.ensures in
    let bad = c.keep-bad_word in
    let word = head.lo + c.half_at.result in
    let row : IsNextRow head docs gaps words s.i s.at s.before here.n found.next found.doc word
    = record { more = omega arith; gap = here.gap; sum = here.sum; below = here.below; word_is = ap (λ x. head.lo + x) c.half_at.ensures.value } in
    lists_on head docs gaps words s.i s.at s.before here.n found.next found.doc word s.bad_word bad.result s.row_docs s.row_words row bad.ensures
    (omega arith) (omega arith) s.invariant

pub returns-clause-broken : goal.returns-clause-broken
returns-clause-broken c =
    let s = c.loop-i in
    let head = c.args.front.head.now in
    broken_word head c.args.front.docs c.args.front.gaps.now c.args.front.words.now s.i s.at s.before s.bad_word c.or_rule.result s.row_docs s.row_words
    c.requires.codes (omega arith) c.or_rule.ensures s.invariant

pub returns-clause-listed : goal.returns-clause-listed
returns-clause-listed c =
    let s = c.loop-i in
    let head = c.args.front.head.now in
    let many_docs : length s.row_docs ≡ s.i = omega arith in
    let many_words : length s.row_words ≡ s.i = omega arith in
    listed_all head c.args.front.docs c.args.front.gaps.now c.args.front.words.now s.i s.at s.before s.bad_word c.or_rule.result s.row_docs s.row_words
    many_docs many_words c.or_rule.ensures s.invariant
