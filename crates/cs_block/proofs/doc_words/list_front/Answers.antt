use Rattle.std.proofs.Common.{rules, ◌<◌, ◌^◌, arith, ◌∙◌}
use Rattle.std.proofs.lemmas.Option.{IfSome_then}
use Rattle.cs_block.proofs.ListedRows.{broken_code, cut_by, front_broken, front_listed, none_then}
use Rattle.cs_block.proofs.doc_words.list_front.Goals as goal

pub returns-then-are_listed-clause-listed : goal.returns-then-are_listed-clause-listed
returns-then-are_listed-clause-listed c =
    let head = c.args.head.now in
    let now = c.are_listed.new in
    let cut = cut_by head c.args.bytes.now _ _ _ c.split_at.ensures.front c.split_at.ensures.back c.split_at-2.ensures.front in
    let many_docs = c.are_listed.auto.row_docs ∙ c.requires.room_docs in
    let many_words = c.are_listed.auto.row_words ∙ c.requires.room_words in
    front_listed head c.args.docs c.args.bytes.now _ _ cut now.row_docs now.row_words many_docs many_words (c.are_listed.ensures c.if-are_listed.true)

pub overflow_cast-result : goal.overflow_cast-result
overflow_cast-result c =
    let within = c.in-Some.ensures.within in
    let least = c.requires.shaped.least in
    let small : c.args.head.now.len < 2 ^ 32 = search rules in
    omega (arith, within, least, small, c.split_at.ensures.front_len)

pub returns-in-Some-clause-broken : goal.returns-in-Some-clause-broken
returns-in-Some-clause-broken c =
    let head = c.args.head.now in
    let docs = c.args.docs in
    let cut = cut_by head c.args.bytes.now _ _ _ c.split_at.ensures.front c.split_at.ensures.back c.split_at-2.ensures.front in
    let breaks = broken_code head docs c.split_at.result.0.now c.split_at-2.result.0.now c.in-Some.at c.in-Some.ensures.value in
    front_broken head docs c.args.bytes.now _ _ cut _ breaks

pub returns-clause-broken : goal.returns-clause-broken
returns-clause-broken c =
    let head = c.args.head.now in
    let cut = cut_by head c.args.bytes.now _ _ _ c.split_at.ensures.front c.split_at.ensures.back c.split_at-2.ensures.front in
    IfSome_then c.list_rows.result c.list_rows.ensures.broken (front_broken head c.args.docs c.args.bytes.now _ _ cut)

pub returns-clause-listed : goal.returns-clause-listed
returns-clause-listed c =
    let head = c.args.head.now in
    let now = c.list_rows.new in
    let cut = cut_by head c.args.bytes.now _ _ _ c.split_at.ensures.front c.split_at.ensures.back c.split_at-2.ensures.front in
    let many_docs = c.list_rows.auto.row_docs ∙ c.are_listed.auto.row_docs ∙ c.requires.room_docs in
    let many_words = c.list_rows.auto.row_words ∙ c.are_listed.auto.row_words ∙ c.requires.room_words in
    none_then c.list_rows.result _ _ (front_listed head c.args.docs c.args.bytes.now _ _ cut now.row_docs now.row_words many_docs many_words)
    c.list_rows.ensures.listed
