use Rattle.std.proofs.Common.{◌≡◌, ◌≤◌, ◌++◌, ◌∷◌, [], length, sym, ap, ◌∙◌, append-nil}
use Rattle.std.specs.Str.{chars}
use Rattle.cs_text.specs.WordPieces.{words_of_pieces}
use Rattle.cs_text.proofs.CutLemmas.{some_chars}
use Rattle.cs_text.proofs.WordPiecesLemmas.{words_of_pieces-empty, words_of_pieces-some, some_length}
use Rattle.cs_text.proofs.piece.push_word.Goals as goal

pub returns-then-is_empty-clause-ok : goal.returns-then-is_empty-clause-ok
returns-then-is_empty-clause-ok c =
    let none : words_of_pieces (chars c.args.piece.now ∷ []) ≡ [] = words_of_pieces-empty c.args.piece.now (sym c.if-is_empty.ensures) in
    sym (append-nil c.args.words.now.items) ∙ ap (λ ws. c.args.words.now.items ++ ws) (sym none)

pub returns-clause-ok : goal.returns-clause-ok
returns-clause-ok c =
    let some : 1 ≤ length c.args.piece.now = some_length _ (sym c.if-is_empty.ensures) in
    let word = c.in_ok-word.ensures.ok ∙ c.as_bytes.ensures.value ∙ c.cut.ensures.value in
    c.in_ok-push.ensures.items ∙ ap (λ w. c.args.words.now.items ++ w ∷ []) word
    ∙ ap (λ ws. c.args.words.now.items ++ ws) (sym (words_of_pieces-some (chars c.args.piece.now) (some_chars c.args.piece.now c.utf8.piece some)))
