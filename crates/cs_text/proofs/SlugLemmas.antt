-- Words joined by `_`, one word after another, and the words that are their own slugs.
use Rattle.std.proofs.Common.{◌≡◌, ℕ, Bool, true, false, true≢false, List, [], ◌∷◌, ◌++◌, map, filter, length, nat_le, take, refl, sym, ap, ◌∙◌, ◌≤◌, arith, append-nil, append_assoc}
use Rattle.std.specs.Bool.{◌==◌}
use Rattle.std.specs.List.{All, join_with_byte, list_all}
use Rattle.std.specs.Prelude.{Some, None}
use Rattle.std.specs.Str.{chars}
use Rattle.std.proofs.lemmas.Bool.{and_parts, leb-true}
use Rattle.std.proofs.lemmas.Bool.Decides.{nat_tests}
use Rattle.std.proofs.lemmas.List.{take_all}
use Rattle.std.proofs.lemmas.List.Elements.{All-nil, All-cons}
use Rattle.std.proofs.lemmas.List.Splits.{slice_split_none}
use Rattle.std.proofs.lemmas.Str.{chars-IsAscii}
use Rattle.cs_base.specs.declared.content.limits.TheConstants.{MAX_PLAIN_WORD_BYTES}
use Rattle.cs_model.specs.Ascii.{is_ascii_gap}
use Rattle.cs_model.specs.Collection.{is_name_byte}
use Rattle.cs_model.specs.Words.{is_filled, cut, words, words_of, slug, slug_of}
use Rattle.cs_model.proofs.AsciiLemmas.{AllAscii-from_IsAscii, cut-ascii, words_of-ascii}
use Rattle.cs_text.specs.WordPieces.{is_small_word, words_of_pieces, joined_with}
use Rattle.cs_text.proofs.KeyBytesLemmas.{IsAscii-key_bytes, norm-key_bytes, key_bytes-name_bytes}
use Rattle.cs_text.proofs.WordPiecesLemmas.{AllSome, AllSome-words_of_pieces, words_of_pieces-append, words_of_pieces-some, none_length}

joined_with-none : (bs : List ℕ) → joined_with bs [] ≡ bs
joined_with-none bs = refl

pub joined_with-next : (bs w : List ℕ) → (length bs == 0) ≡ false → joined_with bs (w ∷ []) ≡ bs ++ (95 ∷ w)
joined_with-next [] w h = absurd (true≢false h)
joined_with-next (b ∷ bs) w h = refl

-- behind a word that is there there is a `_`
join-more : (u : List ℕ) (ws : List (List ℕ)) (w : List ℕ) → join_with_byte 95 (u ∷ ws) ++ (95 ∷ w) ≡ join_with_byte 95 (u ∷ (ws ++ w ∷ []))
join-more u [] w = refl
join-more u (v ∷ ws) w = append_assoc u (95 ∷ join_with_byte 95 (v ∷ ws)) (95 ∷ w) ∙ ap (λ bs. u ++ (95 ∷ bs)) (join-more v ws w)

-- one word more
joined_with-word : (ws : List (List ℕ)) (w : List ℕ) → AllSome ws → joined_with (join_with_byte 95 ws) (w ∷ []) ≡ join_with_byte 95 (ws ++ w ∷ [])
joined_with-word [] w h = refl
joined_with-word ([] ∷ ws) w h = absurd (omega (arith, h.0))
joined_with-word ((b ∷ v) ∷ []) w h = refl
joined_with-word ((b ∷ v) ∷ u ∷ ws) w h = join-more (b ∷ v) (u ∷ ws) w

joined_with-words_at : (b : Bool) (ws : List (List ℕ)) (p : List ℕ) → is_filled p ≡ b → AllSome ws → joined_with (join_with_byte 95 ws) (words_of_pieces (p ∷ [])) ≡ join_with_byte 95 (ws ++ words_of_pieces (p ∷ []))
joined_with-words_at true ws p is h = ap (joined_with (join_with_byte 95 ws)) (words_of_pieces-some p is) ∙ joined_with-word ws (cut p) h ∙ ap (λ vs. join_with_byte 95 (ws ++ vs)) (sym (words_of_pieces-some p is))
joined_with-words_at false ws p is h =
    let none : words_of_pieces (p ∷ []) ≡ [] = rw is in
    ap (joined_with (join_with_byte 95 ws)) none ∙ joined_with-none (join_with_byte 95 ws) ∙ ap (join_with_byte 95) (sym (append-nil ws)) ∙ ap (λ vs. join_with_byte 95 (ws ++ vs)) (sym none)

-- one piece more
pub joined_with-piece : (ps : List (List ℕ)) (p : List ℕ) → joined_with (join_with_byte 95 (words_of_pieces ps)) (words_of_pieces (p ∷ [])) ≡ join_with_byte 95 (words_of_pieces (ps ++ p ∷ []))
joined_with-piece ps p = joined_with-words_at (is_filled p) (words_of_pieces ps) p refl (AllSome-words_of_pieces ps) ∙ ap (join_with_byte 95) (sym (words_of_pieces-append ps (p ∷ [])))

-- ---- whether there is a word

pub slug_of-none : (ws : List (List ℕ)) → AllSome ws → (length (join_with_byte 95 ws) == 0) ≡ true → slug_of ws ≡ None
slug_of-none [] h e = refl
slug_of-none ([] ∷ ws) h e = absurd (omega (arith, h.0))
slug_of-none ((b ∷ v) ∷ []) h e = absurd (omega (arith, none_length (length (b ∷ v)) e))
slug_of-none ((b ∷ v) ∷ u ∷ ws) h e = absurd (omega (arith, none_length (length (b ∷ (v ++ 95 ∷ join_with_byte 95 (u ∷ ws)))) e))

pub slug_of-some : (ws : List (List ℕ)) → (length (join_with_byte 95 ws) == 0) ≡ false → slug_of ws ≡ Some (cut (chars (join_with_byte 95 ws)))
slug_of-some [] e = absurd (true≢false e)
slug_of-some (w ∷ ws) e = refl

-- ---- a word of small letters and digits

no_gap : (b : ℕ) → is_name_byte b ≡ true → is_ascii_gap b ≡ false
no_gap b h = grind (arith, nat_tests)

no_gaps : (bs : List ℕ) → list_all is_name_byte bs ≡ true → All (λ b. is_ascii_gap b ≡ false) bs
no_gaps [] h = All-nil (λ b. is_ascii_gap b ≡ false)
no_gaps (b ∷ bs) h =
    let both = and_parts (is_name_byte b) (list_all is_name_byte bs) h in
    All-cons (λ c. is_ascii_gap c ≡ false) b bs (no_gap b both.0) (no_gaps bs both.1)

-- such a word is its own slug
pub slug-small_word : (bs : List ℕ) → is_small_word bs ≡ true → slug bs ≡ Some bs
unfolding words
slug-small_word bs h =
    let filled = and_parts (is_filled bs) _ h in
    let short = and_parts (nat_le (length bs) MAX_PLAIN_WORD_BYTES) (list_all is_name_byte bs) filled.1 in
    let plain = key_bytes-name_bytes bs short.1 in
    let ascii = IsAscii-key_bytes bs plain in
    let below = AllAscii-from_IsAscii bs ascii in
    let within : length bs ≤ MAX_PLAIN_WORD_BYTES = leb-true (length bs) MAX_PLAIN_WORD_BYTES short.0 in
    let whole : take MAX_PLAIN_WORD_BYTES bs ≡ bs = take_all MAX_PLAIN_WORD_BYTES bs within in
    let one : words_of (chars bs) ≡ bs ∷ [] =
    ap words_of (chars-IsAscii bs ascii) ∙ words_of-ascii bs below
    ∙ ap (λ ps. map (take MAX_PLAIN_WORD_BYTES) (filter is_filled ps)) (slice_split_none is_ascii_gap bs (no_gaps bs short.1))
    ∙ rw (filled.0, whole) refl in
    ap (λ s. slug_of (words_of (chars s))) (norm-key_bytes bs plain) ∙ ap slug_of one ∙ ap Some (ap cut (chars-IsAscii bs ascii) ∙ cut-ascii bs below ∙ whole)
