-- The texts of a trial are typed ones.
--
--   texts_typed    each text of a trial is typed
--   typed_at       so is the text at a place
--   one_more       one more entry, seen as one more
use Rattle.std.proofs.Common.{◌≡◌, ℕ, zero, suc, ◌+◌, ◌*◌, ◌%◌, ◌<◌, ◌≤◌, List, [], ◌∷◌, ◌++◌, length, take, map, get_or, refl, sym, ap, ◌∙◌, subst, arith, inl, inr}
use Rattle.std.specs.List.{All, AllByRecursion, flat_map, range_with_len}
use Rattle.std.proofs.lemmas.List.{length-take, map-append, take_more}
use Rattle.std.proofs.lemmas.List.Elements.{All-get_or, All-from_recursion}
use Rattle.cs_model_trial.specs.Generator.{next_state, behind, drawn, line_count}
use Rattle.cs_model_trial.specs.Sessions.{text_word, typed_texts, session, texts}
use Rattle.cs_trial.specs.Typed.{IsLetter, AreLetters, IsTyped}
use Rattle.cs_trial.proofs.WordsLemmas.{HasWordForm, word_form, all_append}
use Rattle.cs_trial.proofs.TypingLemmas.{text_word_is, session_drawn}

letters_take : (k : ℕ) (w : List ℕ) → AllByRecursion IsLetter w → AllByRecursion IsLetter (take k w)
letters_take zero w h = tt
letters_take (suc k) [] h = tt
letters_take (suc k) (x ∷ w) h = (h.0, letters_take k w h.1)

whole : (w : List ℕ) → HasWordForm w → AreLetters w
whole w h = record { letters = h.letters; some = omega (arith, h.long); few = omega (arith, h.long) }

cut : (k : ℕ) (w : List ℕ) → HasWordForm w → 1 ≤ k → k ≤ 6 → AreLetters (take k w)
cut k w h some few = record {
  letters = letters_take k w h.letters;
  some = omega (arith, h.long, length-take k w, some, few);
  few = omega (arith, h.long, length-take k w, some, few);
}

first : (a : List ℕ) → HasWordForm a → (k : ℕ) → 1 ≤ k → k ≤ 6 → IsTyped (take k a)
first a g k some few = inl (cut k a g some few)

second : (a b : List ℕ) (k : ℕ) → HasWordForm a → HasWordForm b → 1 ≤ k → k ≤ 6 → IsTyped (a ++ 32 ∷ take k b)
second a b k g h some few = inr (a, take k b, whole a g, cut k b h some few, refl)

texts_of_two : (a b : List ℕ) → HasWordForm a → HasWordForm b → AllByRecursion IsTyped (typed_texts a b)
texts_of_two a b g h = (
  first a g 1 (omega arith) (omega arith),
  (
    first a g 2 (omega arith) (omega arith),
    (
      first a g 3 (omega arith) (omega arith),
      (
        first a g 4 (omega arith) (omega arith),
        (
          first a g 5 (omega arith) (omega arith),
          (
            first a g 6 (omega arith) (omega arith),
            (
              second a b 1 g h (omega arith) (omega arith),
              (
                second a b 2 g h (omega arith) (omega arith),
                (
                  second a b 3 g h (omega arith) (omega arith),
                  (
                    second a b 4 g h (omega arith) (omega arith),
                    (
                      second a b 5 g h (omega arith) (omega arith),
                      (
                        second a b 6 g h (omega arith) (omega arith),
                        (inl (whole a g), tt),
                      ),
                    ),
                  ),
                ),
              ),
            ),
          ),
        ),
      ),
    ),
  ),
)

text_word_form : (n d j : ℕ) → j < 12 → HasWordForm (text_word n d j)
text_word_form n d j h = subst HasWordForm (text_word_is n d j h) (word_form _ (omega arith))

session_typed : (n s : ℕ) → AllByRecursion IsTyped (session n s)
session_typed n s =
    let x = behind (line_count n * 16 + s * 2) n in
    let d = drawn (line_count n) x in
    let j = drawn 12 (next_state x) in
    subst (AllByRecursion IsTyped) (session_drawn n s x refl) (texts_of_two (text_word n d j) (text_word n d ((j + 1) % 12)) (text_word_form n d j (omega arith)) (text_word_form n d ((j + 1) % 12) (omega arith)))

all_flat : {X Y : Type 0} (P : Y → Type 0) (f : X → List Y) → ((x : X) → AllByRecursion P (f x)) → (xs : List X) → AllByRecursion P (flat_map f xs)
all_flat P f h [] = tt
all_flat P f h (x ∷ xs) = all_append P (f x) (flat_map f xs) (h x) (all_flat P f h xs)

pub texts_typed : (n : ℕ) → AllByRecursion IsTyped (texts n)
unfolding texts
texts_typed n = all_flat IsTyped (session n) (session_typed n) (range_with_len 0 20)

pub typed_at : (n : ℕ) (xs : List (List ℕ)) (i : ℕ) (text : List ℕ) → xs ≡ texts n → i < length xs → text ≡ get_or xs i text → IsTyped text
typed_at n xs i text same within is =
    subst IsTyped (sym is) (All-get_or IsTyped xs i text within (subst (All IsTyped) (sym same) (All-from_recursion IsTyped (texts n) (texts_typed n))))

-- one more entry, seen as one more
pub one_more : {A B C : Type 0} (f : A → C) (g : B → C) (done : List A) (x : A) (todo : List B) (i : ℕ) (y : B) → map f done ≡ map g (take i todo) → i < length todo → y ≡ get_or todo i y → f x ≡ g y → map f (done ++ x ∷ []) ≡ map g (take (i + 1) todo)
one_more f g done x todo i y told within is same =
    map-append f done (x ∷ []) ∙ ap (λ xs. xs ++ f x ∷ []) told ∙ ap (λ z. map g (take i todo) ++ z ∷ []) (same ∙ ap g is) ∙ sym (map-append g (take i todo) (get_or todo i y ∷ []))
    ∙ ap (map g) (sym (take_more todo i y within))
