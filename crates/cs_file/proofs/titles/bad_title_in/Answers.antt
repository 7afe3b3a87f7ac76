use Rattle.std.proofs.Common.{◌≡◌, ℕ, ◌+◌, Bool, false, List, [], get_or, Some, sym, ap, ◌∙◌, arith, below_more}
use Rattle.std.specs.Prelude.{not}
use Rattle.std.specs.Option.{option_map}
use Rattle.std.specs.Str.{is_utf8}
use Rattle.cs_file.specs.Opening.{bad_title_in, titles_cut}
use Rattle.cs_file.proofs.TitlePieces.{cut_count, cut_title, found_at, found_none}
use Rattle.cs_file.proofs.titles.bad_title_in.Goals as goal

-- the place of a title
abbrev place : ℕ → List ℕ → ℕ → ℕ
place first os i = first + get_or os i 0

abbrev is_bad : List ℕ → Bool
is_bad t = not (is_utf8 t)

pub loop-i-preserved : goal.loop-i-preserved
loop-i-preserved c =
    let os = c.args.offsets.now in
    let bytes = c.args.bytes.now in
    below_more (λ k. is_bad (get_or (titles_cut os bytes) k []) ≡ false) c.loop-i.i c.loop-i.invariant
    (ap is_bad (cut_title os bytes c.loop-i.i (omega arith)) ∙ ap not (sym c.is_text.ensures ∙ c.if-not-is_text.false))

pub returns-then-not-is_text : goal.returns-then-not-is_text
unfolding bad_title_in
returns-then-not-is_text c =
    let os = c.args.offsets.now in
    let bytes = c.args.bytes.now in
    let i = c.loop-i.i in
    let here = ap is_bad (cut_title os bytes i (omega arith)) ∙ ap not (sym c.is_text.ensures ∙ c.if-not-is_text.true) in
    ap (λ (n : ℕ). Some (c.args.first + n)) c.from.ensures
    ∙ sym (ap (option_map (place c.args.first os)) (found_at is_bad (titles_cut os bytes) i (omega (arith, cut_count os bytes)) c.loop-i.invariant here))

pub returns : goal.returns
unfolding bad_title_in
returns c =
    let os = c.args.offsets.now in
    let bytes = c.args.bytes.now in
    sym (ap (option_map (place c.args.first os)) (found_none is_bad (titles_cut os bytes) c.loop-i.i (omega (arith, cut_count os bytes)) c.loop-i.invariant))
