-- Words of three syllables, and words in a row.
--
--   letters_ascii  letters are ASCII
--   pair_of        a syllable has two letters
--   word_form      a word has six letters
--   word_ascii     so it is ASCII
--   spaced_more    one more word behind some
use Rattle.std.proofs.Common.{◌≡◌, ℕ, ◌/◌, ◌%◌, ◌<◌, true, false, cond, List, [], ◌∷◌, ◌++◌, length, refl, sym, ap, ◌∙◌, append_assoc, length-append, arith}
use Rattle.std.specs.Prelude.{◌==◌, codes}
use Rattle.std.specs.List.{AllByRecursion}
use Rattle.std.specs.Str.{IsAscii}
use Rattle.std.proofs.lemmas.Bool.Decides.{nat_tests}
use Rattle.std.proofs.lemmas.List.Elements.{All-get_or, All-from_recursion}
use Rattle.cs_model.proofs.AsciiLemmas.{AllAscii, IsAscii-from_AllAscii}
use Rattle.cs_model_trial.specs.Generator.{syllable, word, spaced}
use Rattle.cs_trial.specs.Typed.{IsLetter}

-- two letters
unfoldable pub IsPair : List ℕ → Type 0
IsPair s = (length s ≡ 2) × AllByRecursion IsLetter s

abbrev table : List (List ℕ)
table =
    codes "ba" ∷ codes "be" ∷ codes "bi" ∷ codes "bo"
    ∷ codes "da" ∷ codes "de" ∷ codes "di" ∷ codes "do"
    ∷ codes "ka" ∷ codes "ke" ∷ codes "ki" ∷ codes "ko"
    ∷ codes "ta" ∷ codes "te" ∷ codes "ti" ∷ codes "to" ∷ []

all_pairs : AllByRecursion IsPair table
unfolding IsPair
all_pairs = search (arith)

pub pair_of : (n : ℕ) → n < 16 → IsPair (syllable n)
pair_of n h = All-get_or IsPair table n [] h (All-from_recursion IsPair table all_pairs)

pub all_append : {X : Type 0} (P : X → Type 0) (xs ys : List X) → AllByRecursion P xs → AllByRecursion P ys → AllByRecursion P (xs ++ ys)
all_append P [] ys h k = k
all_append P (x ∷ xs) ys h k = (h.0, all_append P xs ys h.1 k)

pub letters_ascii : (w : List ℕ) → AllByRecursion IsLetter w → AllAscii w
letters_ascii [] h = tt
letters_ascii (x ∷ w) h = (omega (arith, h.0), letters_ascii w h.1)

-- a word of the generator: six letters
pub record HasWordForm (w : List ℕ) : Type 0 where
  pub long : length w ≡ 6
  pub letters : AllByRecursion IsLetter w

pub word_form : (w : ℕ) → w < 4096 → HasWordForm (word w)
unfolding word IsPair
word_form w h =
    let a = pair_of (w / 256) (omega arith) in
    let b = pair_of (w / 16 % 16) (omega arith) in
    let c = pair_of (w % 16) (omega arith) in
    record {
      long = simp length-append (omega arith);
      letters = all_append IsLetter (syllable (w / 256) ++ syllable (w / 16 % 16)) (syllable (w % 16)) (all_append IsLetter (syllable (w / 256)) (syllable (w / 16 % 16)) a.1 b.1) c.1;
    }

pub word_ascii : (w : ℕ) → w < 4096 → IsAscii (word w)
word_ascii w h = IsAscii-from_AllAscii (word w) (letters_ascii (word w) (word_form w h).letters)

spaced_behind : (v : ℕ) (ws : List ℕ) (w : ℕ) → spaced (v ∷ ws ++ w ∷ []) ≡ spaced (v ∷ ws) ++ 32 ∷ word w
spaced_behind v [] w = refl
spaced_behind v (u ∷ ws) w = ap (λ s. word v ++ 32 ∷ s) (spaced_behind u ws w) ∙ sym (append_assoc (word v) (32 ∷ spaced (u ∷ ws)) (32 ∷ word w))

pub spaced_more : (ws : List ℕ) (n w : ℕ) → length ws ≡ n → spaced (ws ++ w ∷ []) ≡ (spaced ws ++ cond (n == 0) [] (32 ∷ [])) ++ word w
spaced_more [] n w h = (let e : (n == 0) ≡ true = grind (arith, nat_tests) in rw e refl)
spaced_more (v ∷ ws) n w h =
    let e : (n == 0) ≡ false = grind (arith, nat_tests) in
    spaced_behind v ws w ∙ rw e (sym (append_assoc (spaced (v ∷ ws)) (32 ∷ []) (word w)))
