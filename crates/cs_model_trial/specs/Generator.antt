-- The collection that a trial makes from its number.
--
-- Source: the numbers are drawn by the linear congruential generator of D. E. Knuth's MMIX, modulo 2^64; what is drawn is this
-- engine's own.
--
--   next_state x         the state behind a state
--   behind n x           the state behind n draws from the state x
--   drawn m x            the number below m that is drawn from the state x
--   draws ms x           the numbers that are drawn one after the other, each below its own bound; of no bounds none
--   syllable n, word w   a syllable and a word by their numbers
--   line_bounds          the bounds of a line's draws, in their order
--   line_draws n i       the draws of line i of trial n, lines counted from 0
--   line_title, line_syllable, text_of  the numbers of its title words, of its facet and of its text words among the draws of a line
--   spaced ws            words with a space between each two, by their numbers; of no words nothing
--   trial_line ds        the line that draws give, with its LF
--   line_count n         how many lines trial n has
--   collection n         the collection of trial n
use Rattle.std.specs.Prelude.{ℕ, zero, suc, ◌+◌, ◌*◌, ◌/◌, ◌%◌, ◌^◌, List, [], ◌∷◌, ◌++◌, map, take, drop, length, replicate, slice_index_or, codes}
use Rattle.std.specs.List.{flat_map, join_with_byte, range_with_len}
use Rattle.cs_model_trial.specs.declared.sizes.TheConstants.{MULTIPLIER, INCREMENT, SYLLABLES, WORDS, LINES, TITLE_WORDS, TEXT_WORDS}

-- ---- draws
-- the state behind a state, below 2^64
abbrev pub next_state : ℕ → ℕ
next_state x = (x * MULTIPLIER + INCREMENT) % 2 ^ 64

-- the state behind so many draws; behind none the state itself
unfoldable pub behind : ℕ → ℕ → ℕ
behind zero x = x
behind (suc n) x = behind n (next_state x)

-- a draw below m from a state, by the next one without its low 33 bits; below 1 it is 0
abbrev pub drawn : ℕ → ℕ → ℕ
drawn m x = next_state x / 2 ^ 33 % m

-- draws one after the other, each below its own bound; of no bounds none
unfoldable pub draws : List ℕ → ℕ → List ℕ
draws [] x = []
draws (m ∷ ms) x = drawn m x ∷ draws ms (next_state x)

-- ---- words
-- a syllable by its number, from 0 to 15: a consonant of b, d, k, t, and a vowel of a, e, i, o
abbrev pub syllable : ℕ → List ℕ
syllable n = slice_index_or (
    codes "ba" ∷ codes "be" ∷ codes "bi" ∷ codes "bo"
    ∷ codes "da" ∷ codes "de" ∷ codes "di" ∷ codes "do"
    ∷ codes "ka" ∷ codes "ke" ∷ codes "ki" ∷ codes "ko"
    ∷ codes "ta" ∷ codes "te" ∷ codes "ti" ∷ codes "to" ∷ []) n []

-- a word by its number, below `WORDS`: a syllable for each of its three digits in base 16, that of word 0 being bababa
unfoldable pub word : ℕ → List ℕ
word w = syllable (w / 256) ++ syllable (w / 16 % 16) ++ syllable (w % 16)

-- ---- lines
-- what is drawn for a line, in this order: its title words, its facet's syllable, its text words
abbrev pub line_bounds : List ℕ
line_bounds = replicate TITLE_WORDS WORDS ++ SYLLABLES ∷ replicate TEXT_WORDS WORDS

-- the draws of a line of trial n, whose first state is n; each line before it has taken as many
unfoldable pub line_draws : ℕ → ℕ → List ℕ
line_draws n i = draws line_bounds (behind (i * length line_bounds) n)

-- the numbers of the title's words among a line's draws
abbrev pub line_title : List ℕ → List ℕ
line_title ds = take TITLE_WORDS ds

-- the number of the facet's syllable among a line's draws
abbrev pub line_syllable : List ℕ → ℕ
line_syllable ds = slice_index_or ds TITLE_WORDS 0

-- the numbers of the text's words among a line's draws
abbrev pub text_of : List ℕ → List ℕ
text_of ds = drop (TITLE_WORDS + 1) ds

-- words with a space, which is 32, between each two; of no words nothing
abbrev pub spaced : List ℕ → List ℕ
spaced ws = join_with_byte 32 (map word ws)

-- the line of its draws: title, facet and text, a TAB, which is 9, between each two, and LF, which is 10, at the end
abbrev pub trial_line : List ℕ → List ℕ
trial_line ds = spaced (line_title ds) ++ 9 ∷ codes "kind=" ++ syllable (line_syllable ds) ++ 9 ∷ spaced (text_of ds) ++ 10 ∷ []

-- how many lines trial n has; trial 0 would have none
abbrev pub line_count : ℕ → ℕ
line_count n = LINES * n

-- the collection of trial n, line by line; of trial 0 it would be empty
unfoldable pub collection : ℕ → List ℕ
collection n = flat_map (λ i. trial_line (line_draws n i)) (range_with_len 0 (line_count n))
