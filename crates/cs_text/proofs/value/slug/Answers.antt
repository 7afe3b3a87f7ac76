use Rattle.std.proofs.Common.{rules, ◌≡◌, true, false, length, sym, ap, ◌∙◌}
use Rattle.std.specs.Bool.{◌==◌}
use Rattle.std.specs.List.{join_with_byte, slice_split}
use Rattle.std.specs.Prelude.{Some}
use Rattle.std.specs.Str.{chars}
use Rattle.std.specs.String.{string_bytes, string_len}
use Rattle.cs_model.specs.KeyText.{norm}
use Rattle.cs_model.specs.Words.{words, words_of, is_gap, cut}
use Rattle.cs_text.specs.WordPieces.{is_small_word}
use Rattle.cs_text.proofs.WordPiecesLemmas.{AllSome-words_of_pieces}
use Rattle.cs_text.proofs.SlugLemmas.{slug_of-none, slug_of-some, slug-small_word}
use Rattle.cs_text.proofs.value.slug.Goals as goal

pub returns-then-is_small_word : goal.returns-then-is_small_word
returns-then-is_small_word c = record {
  ok = ap Some c.in_ok-own.ensures.ok ∙ sym (slug-small_word c.args.value.now (ap is_small_word (sym c.as_bytes.ensures.value) ∙ sym c.if-is_small_word.ensures));
}

pub returns-then-is_empty : goal.returns-then-is_empty
unfolding words
returns-then-is_empty c =
    let joined = c.in_ok-joined.ensures.ok ∙ ap (λ bs. join_with_byte 95 (words_of (chars bs))) (c.as_str.ensures.value ∙ c.in_ok-key.ensures.ok) in
    let counted : string_len c.in_ok-joined.joined ≡ length (string_bytes c.in_ok-joined.joined) = search rules in
    let none : (length (join_with_byte 95 (words_of (chars (norm c.args.value.now)))) == 0) ≡ true = ap (λ n. n == 0) (ap length (sym joined) ∙ sym counted) ∙ sym c.if-is_empty.ensures in
    record { ok = sym (slug_of-none (words_of (chars (norm c.args.value.now))) (AllSome-words_of_pieces (slice_split is_gap (chars (norm c.args.value.now)))) none) }

pub returns : goal.returns
unfolding words
returns c =
    let joined = c.in_ok-joined.ensures.ok ∙ ap (λ bs. join_with_byte 95 (words_of (chars bs))) (c.as_str.ensures.value ∙ c.in_ok-key.ensures.ok) in
    let counted : string_len c.in_ok-joined.joined ≡ length (string_bytes c.in_ok-joined.joined) = search rules in
    let some : (length (join_with_byte 95 (words_of (chars (norm c.args.value.now)))) == 0) ≡ false = ap (λ n. n == 0) (ap length (sym joined) ∙ sym counted) ∙ sym c.if-is_empty.ensures in
    let text = c.in_ok-text.ensures.ok ∙ c.cut.ensures.value ∙ ap (λ bs. cut (chars bs)) (c.as_str-2.ensures.value ∙ joined) in
    record { ok = ap Some text ∙ sym (slug_of-some (words_of (chars (norm c.args.value.now))) some) }
