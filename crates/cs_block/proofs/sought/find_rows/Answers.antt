use Rattle.std.proofs.Common.{◌≡◌, ℕ, ◌+◌, ◌&&◌, Bool, false, ap, sym, subst, ◌∙◌, get_or, take}
use Rattle.std.specs.Prelude.{nat_le, nat_lt}
use Rattle.std.specs.Int.{from_bool}
use Rattle.cs_cols.specs.SpanPlaces.{places_where}
use Rattle.cs_cols.proofs.FoundPlaces.{found_all, found_on}
use Rattle.cs_block.specs.ColumnsView.{seen_columns}
use Rattle.cs_block.specs.Sought.{is_sought, passes, row_with}
use Rattle.cs_block.proofs.sought.find_rows.Goals as goal

pub returns-then-whole-clause-found : goal.returns-then-whole-clause-found
returns-then-whole-clause-found c =
    let row = row_with c.args.head.now (seen_columns c.args.columns.now) c.args.docs.now in
    let places = take c.find_listed.result c.find_listed.new.places in
    subst (λ (b : Bool). places ≡ places_where (λ i. passes b c.args.wanted.now.words.0 c.args.wanted.now.words.1 c.args.wanted.now.listed.now (row i)) c.args.span.0 c.args.span.1)
    (sym c.if-whole.true) c.find_listed.ensures.found

pub loop-i-preserved : goal.loop-i-preserved
loop-i-preserved c =
    let l = c.loop-i in
    let docs = c.args.docs.now in
    let listed = c.args.wanted.now.listed.now in
    let lo = c.args.wanted.now.words.0 in
    let hi = c.args.wanted.now.words.1 in
    let head = c.args.head.now in
    let t : ℕ → Bool = λ i. is_sought lo hi listed (row_with head (seen_columns c.args.columns.now) docs i) in
    let word_is : ℕ → Bool = λ x. (nat_le lo (head.lo + x) && nat_lt (head.lo + x) hi) && get_or listed (get_or docs l.i 0) false in
    let one = c.from-found.result in
    let count : one ≡ from_bool (t l.i) = c.from-found.ensures ∙ ap from_bool (c.are_sought.ensures ∙ ap word_is c.half_at.ensures.value) in
    let next = found_on t c.args.span.0 l.i l.found one l.places c.requires.span l.auto.i c.loop-i-test.true count
    l.invariant.found l.invariant.few l.invariant.len in
    record { found = next.0; few = next.1; len = next.2 }

pub returns-clause-found : goal.returns-clause-found
returns-clause-found c =
    let l = c.loop-i in
    let from = c.args.span.0 in
    let to = c.args.span.1 in
    let row = row_with c.args.head.now (seen_columns c.args.columns.now) c.args.docs.now in
    let test : Bool → ℕ → Bool = λ b i. passes b c.args.wanted.now.words.0 c.args.wanted.now.words.1 c.args.wanted.now.listed.now (row i) in
    let places = take l.found l.places in
    subst (λ (b : Bool). places ≡ places_where (test b) from to) (sym c.if-whole.false)
    (found_all (test false) from to l.i places c.requires.span c.loop-i-test.false l.auto.i-end l.invariant.found)
