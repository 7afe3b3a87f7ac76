use Rattle.std.proofs.Common.{◌≡◌, ◌+◌, ◌++◌, ◌<◌, chars, length, sym, subst, ◌∙◌}
use Rattle.std.specs.Prelude.{IfOk, OnOk}
use Rattle.cs_base.specs.declared.content.limits.TheConstants.{MAX_ROWS}
use Rattle.cs_model.specs.KeyText.{norm}
use Rattle.cs_model.specs.Words.{words, words_of}
use Rattle.cs_text.proofs.KeyBytesLemmas.{norm-key_bytes}
use Rattle.cs_vocab.specs.Gathering.{gathered}
use Rattle.cs_build.proofs.RowGatheringLemmas.{ascii_key, key_words}
use Rattle.cs_build.proofs.column_words.add_words.Goals.{After-as_bytes, After-as_bytes-then-is_ascii}
use Rattle.cs_build.proofs.column_words.add_words.Goals as goal

-- text that is its own key text
plain_words : (c : After-as_bytes) → words_of (chars c.as_bytes.result.now) ≡ words c.args.column.now
plain_words c =
    let column = c.args.column.now in
    key_words column c.as_bytes.result.now (c.as_bytes.ensures.value ∙ sym (norm-key_bytes column (sym c.is_plain_key.ensures ∙ c.if-is_plain_key.true)))

pub returns-then-is_plain_key-clause-ok : goal.returns-then-is_plain_key-clause-ok
returns-then-is_plain_key-clause-ok c =
    let same = plain_words (goal.at.returns-then-is_plain_key-clause-ok c).After-as_bytes in
    subst (λ ws. IfOk c.add_ascii.result (λ n. n ≡ length ws)) same c.add_ascii.ensures.ok

pub returns-then-is_plain_key-clause-words : goal.returns-then-is_plain_key-clause-words
returns-then-is_plain_key-clause-words c =
    let same = plain_words (goal.at.returns-then-is_plain_key-clause-words c).After-as_bytes in
    subst (λ ws. OnOk c.add_ascii.result (gathered c.add_ascii.new.gathering ≡ gathered c.args.gathering.now ++ ws)) same c.add_ascii.ensures.words

pub returns-then-is_plain_key-clause-too_many : goal.returns-then-is_plain_key-clause-too_many
returns-then-is_plain_key-clause-too_many c = λ told.
    let same = plain_words (goal.at.returns-then-is_plain_key-clause-too_many c).After-as_bytes in
    subst (λ ws. MAX_ROWS < length (gathered c.args.gathering.now) + length ws) same (c.add_ascii.ensures.too_many told)

-- ASCII text
key_is : (c : After-as_bytes-then-is_ascii) → c.as_bytes-then-is_ascii.result.now ≡ norm c.args.column.now
key_is c = c.as_bytes-then-is_ascii.ensures.value ∙ c.as_str.ensures ∙ c.in_ok-key.ensures.ok

pub add_ascii-requires-then-is_ascii-clause-ascii : goal.add_ascii-requires-then-is_ascii-clause-ascii
add_ascii-requires-then-is_ascii-clause-ascii c =
    ascii_key c.args.column.now c.as_bytes-then-is_ascii.result.now c.if-is_ascii.ensures.cases (key_is (goal.at.add_ascii-requires-then-is_ascii-clause-ascii c).After-as_bytes-then-is_ascii)

pub returns-then-is_ascii-clause-ok : goal.returns-then-is_ascii-clause-ok
returns-then-is_ascii-clause-ok c =
    let same = key_words c.args.column.now c.as_bytes-then-is_ascii.result.now (key_is (goal.at.returns-then-is_ascii-clause-ok c).After-as_bytes-then-is_ascii) in
    subst (λ ws. IfOk c.add_ascii-then-is_ascii.result (λ n. n ≡ length ws)) same c.add_ascii-then-is_ascii.ensures.ok

pub returns-then-is_ascii-clause-words : goal.returns-then-is_ascii-clause-words
returns-then-is_ascii-clause-words c =
    let same = key_words c.args.column.now c.as_bytes-then-is_ascii.result.now (key_is (goal.at.returns-then-is_ascii-clause-words c).After-as_bytes-then-is_ascii) in
    subst (λ ws. OnOk c.add_ascii-then-is_ascii.result (gathered c.add_ascii-then-is_ascii.new.gathering ≡ gathered c.args.gathering.now ++ ws)) same c.add_ascii-then-is_ascii.ensures.words

pub returns-then-is_ascii-clause-too_many : goal.returns-then-is_ascii-clause-too_many
returns-then-is_ascii-clause-too_many c = λ told.
    let same = key_words c.args.column.now c.as_bytes-then-is_ascii.result.now (key_is (goal.at.returns-then-is_ascii-clause-too_many c).After-as_bytes-then-is_ascii) in
    subst (λ ws. MAX_ROWS < length (gathered c.args.gathering.now) + length ws) same (c.add_ascii-then-is_ascii.ensures.too_many told)
