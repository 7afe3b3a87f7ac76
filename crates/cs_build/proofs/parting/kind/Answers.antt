use Rattle.std.proofs.Common.{◌≡◌, ◌+◌, ◌-◌, length, length-drop, take, drop, sym, ap, ◌∙◌, arith}
use Rattle.std.specs.List.{position_or_len}
use Rattle.std.proofs.lemmas.List.{take_all}
use Rattle.cs_model.specs.Collection.{is_colon}
use Rattle.cs_build.proofs.KindLemmas.{kind_at}
use Rattle.cs_build.proofs.parting.kind.Goals as goal

pub returns : goal.returns
returns c =
    let word = c.args.word.now in
    let rest : take (length word - 1) (drop 1 word) ≡ drop 1 word = take_all (length word - 1) (drop 1 word) (omega (arith, length-drop 1 word)) in
    ap (λ n. take n word) (let e : 1 + c.colon_in.result ≡ c.colon_in.result + 1 = omega arith in e)
    ∙ kind_at word c.colon_in.result (sym c.if-not-begins_as_facet.ensures) (sym (c.colon_in.ensures.value ∙ ap (position_or_len is_colon) rest))
