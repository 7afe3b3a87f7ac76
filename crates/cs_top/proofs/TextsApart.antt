-- That no text of a line is another one's.
--
--   memory_apart, replied_apart, refusal_apart   the texts of want of memory, of a reply and of a refusal are others than that of a failed
--                                                read
--   own_unread, changed_unread                   so are all own texts, and those of a changed index file
--   own_unchanged                                no own text is that of a changed index file
use Rattle.std.proofs.Common.{◌≡◌, ◌≢◌, ◌==◌, ◌++◌, ◌∷◌, ◌∙◌, [], zero, suc, ℕ, ◌/◌, ◌%◌, Bool, true, false, List, inl, inr, refl, sym, ap, arith, if◌then◌else◌, decimal}
use Rattle.std.specs.Prelude.{get_or}
use Rattle.std.specs.Fmt.{digits, digits_onto, digit_glyph}
use Rattle.serde_json.proofs.OnLiterals.{serde_json_on_literals}
use Rattle.cs_model.specs.Faults.{error_text, bad_text, limit_text, limit_word, param_text, changed_text}
use Rattle.cs_model.specs.Outputs.{IsChangedText, memory_text, read_text}
use Rattle.cs_model.specs.Parameters.{RequestRefusal, bad_param, bad_query, refusal_text}
use Rattle.cs_model.specs.Refusals.{Bad, Limit}
use Rattle.cs_model.specs.Replies.{Reply, reply_text}
use Rattle.cs_model_excerpts.specs.ExcerptReplies.{excerpted_text}
use Rattle.cs_indexing.specs.declared.words.HitForm.{HitForm}
use Rattle.cs_indexing.specs.declared.words.HitForm.TheVariants.{Titled, Excerpted}
use Rattle.cs_top.specs.HitForms.{IsReplyIn}
use Rattle.cs_top.specs.PutTexts.{IsOwnText}

-- two texts that are told apart by a number of each
apart : (f : List ℕ → ℕ) (t u : List ℕ) (a b : ℕ) → f t ≡ a → f u ≡ b → a ≢ b → t ≢ u
apart f t u a b p q other is = other (sym p ∙ ap f is ∙ q)

-- ---- by a byte near the front
abbrev byte : ℕ → List ℕ → ℕ
byte n t = get_or t n 0

read_bytes : (byte 2 read_text ≡ 101) × (byte 10 read_text ≡ 114)
unfolding error_text serde_json_on_literals
read_bytes = (refl, refl)

memory_bytes : (byte 2 memory_text ≡ 101) × (byte 10 memory_text ≡ 109)
unfolding error_text serde_json_on_literals
memory_bytes = (refl, refl)

reply_byte : (r : Reply) → byte 2 (reply_text r) ≡ 99
unfolding reply_text serde_json_on_literals
reply_byte r = refl

excerpted_byte : (r : Reply) (xs : List (List ℕ)) → byte 2 (excerpted_text r xs) ≡ 99
unfolding excerpted_text serde_json_on_literals
excerpted_byte r xs = refl

replied_byte : (form : HitForm) (t : List ℕ) → IsReplyIn form t → byte 2 t ≡ 99
replied_byte Titled t (r, is) = ap (byte 2) is ∙ reply_byte r
replied_byte Excerpted t (r, xs, each, is) = ap (byte 2) is ∙ excerpted_byte r xs

bad_byte : (at : ℕ) → byte 2 (bad_text at) ≡ 97
unfolding bad_text serde_json_on_literals
bad_byte at = refl

limit_byte : (at : ℕ) (which : List ℕ) → byte 2 (limit_text at which) ≡ 97
unfolding limit_text serde_json_on_literals
limit_byte at which = refl

changed_byte : (rule at : ℕ) → byte 2 (changed_text rule at) ≡ 97
unfolding changed_text serde_json_on_literals
changed_byte rule at = refl

param_bytes : (name : List ℕ) → (byte 2 (param_text name) ≡ 101) × (byte 10 (param_text name) ≡ 112)
unfolding param_text serde_json_on_literals
param_bytes name = (refl, refl)

-- ---- by the word behind a place, which ends at the first comma
abbrev behind : List ℕ → List ℕ
behind [] = []
behind (b ∷ bs) = if b == 44 then bs else behind bs

passed_by : (b : ℕ) (bs : List ℕ) → (b == 44) ≡ false → behind (b ∷ bs) ≡ behind bs
passed_by b bs e = rw e refl

digit_apart : (n : ℕ) → (digit_glyph false (n % 10) == 44) ≡ false
digit_apart n = grind arith

module _ (rest : List ℕ) where
  in_turn : (k n : ℕ) (b : Bool) (acc : List ℕ) → ((m : ℕ) (more : List ℕ) → behind (digits_onto k 10 false m more ++ rest) ≡ behind (more ++ rest))
      → behind ((if b then digit_glyph false (n % 10) ∷ acc else digits_onto k 10 false (n / 10) (digit_glyph false (n % 10) ∷ acc)) ++ rest) ≡ behind (acc ++ rest)
  in_turn k n true acc h = passed_by _ (acc ++ rest) (digit_apart n)
  in_turn k n false acc h = h (n / 10) (digit_glyph false (n % 10) ∷ acc) ∙ passed_by _ (acc ++ rest) (digit_apart n)

  behind_digits : (k n : ℕ) (acc : List ℕ) → behind (digits_onto k 10 false n acc ++ rest) ≡ behind (acc ++ rest)
  behind_digits zero n acc = refl
  behind_digits (suc k) n acc = in_turn k n (n / 10 == 0) acc (behind_digits k)

  behind_decimal : (n : ℕ) → behind (decimal n ++ rest) ≡ behind rest
  unfolding digits
  behind_decimal n = behind_digits 64 n []

-- the first byte of the word
abbrev word : List ℕ → ℕ
word t = byte 9 (behind t)

bad_word : (at : ℕ) → word (bad_text at) ≡ 98
unfolding bad_text serde_json_on_literals
bad_word at = ap (byte 9) (behind_decimal _ at)

limited_word : (at : ℕ) (which : List ℕ) → word (limit_text at which) ≡ 108
unfolding limit_text serde_json_on_literals
limited_word at which = ap (byte 9) (behind_decimal _ at)

changed_word : (rule at : ℕ) → word (changed_text rule at) ≡ 99
unfolding changed_text serde_json_on_literals
changed_word rule at = ap (byte 9) (behind_decimal _ at)

-- ---- from the text of a failed read
pub memory_apart : memory_text ≢ read_text
memory_apart = apart (byte 10) _ _ 109 114 memory_bytes.1 read_bytes.1 (λ e. omega (arith, e))

pub replied_apart : (form : HitForm) (t : List ℕ) → IsReplyIn form t → t ≢ read_text
replied_apart form t h = apart (byte 2) _ _ 99 101 (replied_byte form t h) read_bytes.0 (λ e. omega (arith, e))

pub refusal_apart : (r : RequestRefusal) → refusal_text r ≢ read_text
refusal_apart (bad_param name) = apart (byte 10) _ _ 112 114 (param_bytes name).1 read_bytes.1 (λ e. omega (arith, e))
refusal_apart (bad_query at Bad) = apart (byte 2) _ _ 97 101 (bad_byte at) read_bytes.0 (λ e. omega (arith, e))
refusal_apart (bad_query at (Limit which)) = apart (byte 2) _ _ 97 101 (limit_byte at (limit_word which)) read_bytes.0 (λ e. omega (arith, e))

pub own_unread : (form : HitForm) (t : List ℕ) → IsOwnText form t → t ≢ read_text
own_unread form t (inl h) e = replied_apart form t h e
own_unread form t (inr (inl (r, is))) e = refusal_apart r (sym is ∙ e)
own_unread form t (inr (inr is)) e = memory_apart (sym is ∙ e)

pub changed_unread : (t : List ℕ) → IsChangedText t → t ≢ read_text
changed_unread t (rule, at, is) e = apart (byte 2) _ _ 97 101 (changed_byte rule at) read_bytes.0 (λ e. omega (arith, e)) (sym is ∙ e)

-- ---- from that of a changed index file
refusal_unchanged : (r : RequestRefusal) (rule at : ℕ) → refusal_text r ≢ changed_text rule at
refusal_unchanged (bad_param name) rule at = apart (byte 2) _ _ 101 97 (param_bytes name).0 (changed_byte rule at) (λ e. omega (arith, e))
refusal_unchanged (bad_query place Bad) rule at = apart word _ _ 98 99 (bad_word place) (changed_word rule at) (λ e. omega (arith, e))
refusal_unchanged (bad_query place (Limit which)) rule at = apart word _ _ 108 99 (limited_word place (limit_word which)) (changed_word rule at) (λ e. omega (arith, e))

pub own_unchanged : (form : HitForm) (t : List ℕ) → IsOwnText form t → ¬ IsChangedText t
own_unchanged form t (inl h) (rule, at, e) = apart (byte 2) _ _ 99 97 (replied_byte form t h) (changed_byte rule at) (λ e. omega (arith, e)) e
own_unchanged form t (inr (inl (r, is))) (rule, at, e) = refusal_unchanged r rule at (sym is ∙ e)
own_unchanged form t (inr (inr is)) (rule, at, e) = apart (byte 2) _ _ 101 97 memory_bytes.0 (changed_byte rule at) (λ e. omega (arith, e)) (sym is ∙ e)
