use Rattle.std.proofs.Common.{◌≡◌, ◌≤◌, ◌-◌, length, take, ap, sym, subst, ◌∙◌, arith}
use Rattle.cs_model.specs.Words.{cut}
use Rattle.std.specs.Str.{chars}
use Rattle.cs_text.proofs.CutLemmas.{cut-last_place, cut-some, some_chars}
use Rattle.cs_text.proofs.piece.cut.Goals as goal

value : (c : goal.After-range) → c.range.result.now ≡ cut (chars c.args.text.now)
value c =
    let end : c.floor_char_boundary-end.result - 0 ≡ c.floor_char_boundary-end.result = omega arith in
    c.range.ensures.value ∙ ap (λ n. take n c.args.text.now) end
    ∙ cut-last_place c.args.text.now c.floor_char_boundary-end.result c.utf8.text c.floor_char_boundary-end.ensures.bound c.floor_char_boundary-end.ensures.boundary c.floor_char_boundary-end.ensures.nearest

pub returns-clause-value : goal.returns-clause-value
returns-clause-value c = value c

pub returns-clause-some : goal.returns-clause-some
returns-clause-some c = λ h. subst (λ v. 1 ≤ length v) (sym (value c)) (cut-some (chars c.args.text.now) (some_chars c.args.text.now c.utf8.text h))
