use Rattle.std.proofs.Common.{rules, ◌≡◌, ◌≤◌, ◌++◌, ◌∷◌, [], length, sym, ap, ◌∙◌, append_assoc, arith}
use Rattle.std.specs.Str.{chars}
use Rattle.std.specs.Bool.{◌==◌}
use Rattle.std.specs.String.{string_bytes, string_len}
use Rattle.std.proofs.lemmas.Str.{encode_ascii}
use Rattle.cs_model.specs.Words.{cut}
use Rattle.cs_text.specs.WordPieces.{joined_with}
use Rattle.cs_text.proofs.CutLemmas.{some_chars}
use Rattle.cs_text.proofs.WordPiecesLemmas.{words_of_pieces-empty, words_of_pieces-some, some_length, nil_from_test}
use Rattle.cs_text.proofs.SlugLemmas.{joined_with-next}
use Rattle.cs_text.proofs.value.join_word.Goals.{then-not-is_empty+in_ok-push, else-not-is_empty}
use Rattle.cs_text.proofs.value.join_word.Goals as goal

pub returns-then-is_empty : goal.returns-then-is_empty
returns-then-is_empty c = record { ok = ap (joined_with (string_bytes c.args.joined.now)) (sym (words_of_pieces-empty c.args.piece.now (sym c.if-is_empty.ensures))) }

pub returns : goal.returns
returns c =
    let some : 1 ≤ length c.args.piece.now = some_length _ (sym c.if-is_empty.ensures) in
    let word = words_of_pieces-some (chars c.args.piece.now) (some_chars c.args.piece.now c.utf8.piece some) in
    let grown = c.in_ok-push_str.ensures.bytes ∙ ap (λ w. string_bytes c.if-not-is_empty.joined ++ w) c.cut.ensures.value in
    let old = string_bytes c.args.joined.now in
    let counted : string_len c.args.joined.now ≡ length old = search rules in
    let joined : string_bytes c.if-not-is_empty.joined ++ cut (chars c.args.piece.now) ≡ joined_with old (cut (chars c.args.piece.now) ∷ []) =
    elim c.if-not-is_empty.branch [
      | then-not-is_empty+in_ok-push w ↦ ap (λ s. string_bytes s ++ cut (chars c.args.piece.now)) w.joined-is ∙ ap (λ bs. bs ++ cut (chars c.args.piece.now)) (w.in_ok-push.ensures.bytes ∙ ap (λ e. old ++ e) (encode_ascii 95 (omega arith)))
          ∙ append_assoc old (95 ∷ []) (cut (chars c.args.piece.now)) ∙ sym (joined_with-next old (cut (chars c.args.piece.now)) (ap (λ n. n == 0) (sym counted) ∙ sym w.if-not-is_empty.ensures))
      | else-not-is_empty w ↦ ap (λ s. string_bytes s ++ cut (chars c.args.piece.now)) w.joined-is
          ∙ ap (λ bs. bs ++ cut (chars c.args.piece.now)) (nil_from_test old (ap (λ n. n == 0) (sym counted) ∙ sym w.if-not-is_empty.ensures))
          ∙ ap (λ bs. joined_with bs (cut (chars c.args.piece.now) ∷ [])) (sym (nil_from_test old (ap (λ n. n == 0) (sym counted) ∙ sym w.if-not-is_empty.ensures)))
    ] in
    record { ok = grown ∙ joined ∙ ap (joined_with old) (sym word) }
