use Rattle.std.proofs.Common.{◌-◌, sym, arith, drop, take, length, string_bytes, length-drop}
use Rattle.std.proofs.lemmas.Bool.{ltb-true}
use Rattle.std.proofs.lemmas.List.{take_all}
use Rattle.cs_more.proofs.JsonFields.{first_and_rest, first_joined}
use Rattle.cs_more.proofs.json_line.joined.Goals as goal

pub returns : goal.returns
returns c =
    let list = c.args.list.now in
    let rest = take (length list - 1) (drop 1 list) in
    let whole = take_all (length list - 1) (drop 1 list) (omega (arith, length-drop 1 list)) in
    record { ok = first_joined list rest c.in-Some.first.now c.in-Some-as_str.text.now (string_bytes c.in_ok-column.column) _ (first_and_rest list rest c.in-Some.first.now (ltb-true 0 (length list) (sym c.in-Some.ensures.item.0)) c.in-Some.ensures.item.1 whole) c.in-Some-as_str.ensures c.in_ok-column.ensures.ok c.in_ok-column-2.ensures.ok }
