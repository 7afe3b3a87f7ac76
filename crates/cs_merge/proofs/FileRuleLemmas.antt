-- What the rules of index files say of the image that is read.
--
--   words_accepted     its words have the form that collections have
--   target_few         its target is within the limits
use Rattle.std.proofs.Common.{◌≡◌, ℕ, ◌+◌, ◌^◌, ◌<◌, ◌≤◌, true, List, [], ◌∷◌, Option, Some, None}
use Rattle.std.specs.List.{All, AllByRecursion}
use Rattle.std.proofs.lemmas.List.Elements.{All-from_recursion}
use Rattle.cs_model_index.specs.FileRules.{IsIndexFile, is_word, laid, word_size}
use Rattle.cs_model_index.specs.Sections.{contents_of, image_of, vocabulary_at}
use Rattle.cs_model_index.specs.declared.limits.TheConstants.{MAX_TARGET}
use Rattle.cs_model_index.proofs.AcceptedLemmas.{is_sound}

-- what holds of each item holds of each value
each_value : {X : Type 0} (P : X → Type 0) (size : X → ℕ) (at : ℕ) (last : Option X) (xs : List X) → AllByRecursion (λ i. P i.value) (laid size at last xs) → AllByRecursion P xs
unfolding laid
each_value P size at last [] h = tt
each_value P size at last (x ∷ xs) h = (h.0, each_value P size (at + size x) (Some x) xs h.1)

pub words_accepted : (b : List ℕ) → All (λ x. x < 2 ^ 8) b → IsIndexFile b → All (λ w. is_word w ≡ true) (image_of b).words
unfolding image_of
words_accepted b bytes e =
    let words = (contents_of b).words in
    All-from_recursion (λ w. is_word w ≡ true) words (each_value (λ w. is_word w ≡ true) word_size vocabulary_at None words (is_sound b bytes e).hold.values.words)

pub target_few : (b : List ℕ) → All (λ x. x < 2 ^ 8) b → IsIndexFile b → (image_of b).target ≤ MAX_TARGET
unfolding image_of
target_few b bytes e = (is_sound b bytes e).hold.values.fields.target_to
