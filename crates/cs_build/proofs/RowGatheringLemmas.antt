-- Words that are gathered, and why they are not.
--
--   err_is        the error of a call that is handed on
--   key_words     the words of a text are those of its key text
--   ascii_key     the key text of ASCII text is ASCII
use Rattle.std.proofs.Common.{◌≡◌, ℕ, List, sym, ap, subst, ◌∙◌, chars}
use Rattle.std.specs.Prelude.{Result, Err}
use Rattle.std.specs.Result.{IsErrAnd, IsErrOf}
use Rattle.std.specs.Str.{IsAscii}
use Rattle.cs_model.specs.Ascii.{ascii_norm}
use Rattle.cs_model.specs.KeyText.{norm}
use Rattle.cs_model.specs.Words.{words, words_of}
use Rattle.cs_model.proofs.AsciiLemmas.{AllAscii-ascii_norm, IsAscii-from_AllAscii, norm-ascii}

pub err_is : {T S E : Type 0} (r : Result T E) (x w : E) → IsErrAnd r (λ e. e ≡ x) → IsErrOf r w → IsErrOf {T = S} (Err x) w
err_is r x w h k = ap Err (sym (subst (λ q. IsErrAnd q (λ e. e ≡ x)) k h))

pub key_words : (s key : List ℕ) → key ≡ norm s → words_of (chars key) ≡ words s
unfolding words
key_words s key e = ap (λ k. words_of (chars k)) e

pub ascii_key : (s key : List ℕ) → IsAscii s → key ≡ norm s → IsAscii key
ascii_key s key h e = subst IsAscii (sym (e ∙ norm-ascii s h)) (IsAscii-from_AllAscii (ascii_norm s) (AllAscii-ascii_norm s h))
