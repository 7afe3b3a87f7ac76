-- The canonical text of what pieces are read as is their text.
--
--   word_spelled           a word is shown as it is
--   facet_bytes          the bytes of a facet's name, the colon and its value
--   Printed ps r         the reading r has the text of the pieces ps
--   printed              so has that of their steps
use Rattle.std.proofs.Common.{◌≡◌, ℕ, ◌≤◌, List, [], ◌∷◌, ◌++◌, map, length, refl, ap, ◌∙◌, sym, append_assoc, Bool, true, false, arith}
use Rattle.std.specs.Prelude.{◌==◌, if◌then◌else◌, encode_utf8_all, codes}
use Rattle.std.specs.Char.{encode_utf8}
use Rattle.std.specs.List.{list_all}
use Rattle.std.specs.Str.{chars}
use Rattle.std.proofs.lemmas.Bool.{and_parts, eqb-true}
use Rattle.std.proofs.lemmas.List.{append-nil}
use Rattle.std.proofs.lemmas.Str.{encodes-chars, chars_past_char}
use Rattle.cs_base.specs.declared.content.query.Link.TheVariants.{Phrase}
use Rattle.cs_base.specs.declared.content.query.Part.{Part}
use Rattle.cs_base.specs.declared.content.query.Atom.{Atom, Prefix, Exact}
use Rattle.cs_model.specs.declared.kinds.Level.{Level}
use Rattle.cs_model.specs.declared.kinds.Tie.{Tie}
use Rattle.cs_model.specs.declared.kinds.Tie.TheVariants.{Begins, Alternative, Linked as LinkedBy}
use Rattle.cs_model.specs.Words.{is_word_char}
use Rattle.cs_model.specs.Collection.{named}
use Rattle.cs_model.specs.Grammar.{Enter, Reading, reading, taken, leave, attached, join}
use Rattle.cs_model.specs.Canonical.{canonical_parts, canonical_atom, word_text}
use Rattle.cs_model.proofs.CanonicalLemmas.{prefix_shape, exact_shape}
use Rattle.cs_model.proofs.LastEntries.{is_none, Last, last_some}
use Rattle.cs_model.proofs.AttachedText.{HasChain, Takes, attached_text, attached_ready, join_text}
use Rattle.cs_model.proofs.Pieces.{Piece, Plain, Whole, Valued, WholeValued, Opens, Closes, step_of, IsWord, IsValue, fresh, linkable, TieFits, open_in, Well, between, told}
use Rattle.cs_model.proofs.SizeLemmas.{encodes-append}

-- ---- words
colon_alone : encode_utf8 58 ≡ 58 ∷ []
unfolding encode_utf8
colon_alone = refl

colon_no_letter : is_word_char 58 ≡ true → ⊥
unfolding is_word_char
colon_no_letter h = cc

shown_at : (b : Bool) (x : ℕ) (w : List ℕ) → (x == 58) ≡ b → IsWord (x ∷ w) → (if b then w else x ∷ w) ≡ x ∷ w
shown_at false x w e h = refl
shown_at true x w e h =
    let colon : x ≡ 58 = eqb-true x 58 e in
    let first : chars (x ∷ w) ≡ 58 ∷ chars w = chars_past_char (x ∷ w) w 58 h.utf8 (ap (λ y. y ∷ w) colon ∙ ap (λ l. l ++ w) (sym colon_alone)) in
    absurd (colon_no_letter ((and_parts (is_word_char 58) (list_all is_word_char (chars w)) (ap (list_all is_word_char) (sym first) ∙ h.letters)).0))

pub word_spelled : (w : List ℕ) → IsWord w → word_text w ≡ w
word_spelled [] h = refl
word_spelled (x ∷ w) h = shown_at (x == 58) x w refl h

-- ---- bytes
pub dollar_alone : encode_utf8 36 ≡ 36 ∷ []
unfolding encode_utf8
dollar_alone = refl

pub open_alone : encode_utf8 91 ≡ 91 ∷ []
unfolding encode_utf8
open_alone = refl

pub close_alone : encode_utf8 93 ≡ 93 ∷ []
unfolding encode_utf8
close_alone = refl

pub sign_behind : (xs : List ℕ) (c : ℕ) → encode_utf8 c ≡ c ∷ [] → encode_utf8_all (xs ++ c ∷ []) ≡ encode_utf8_all xs ++ c ∷ []
sign_behind xs c e = encodes-append xs (c ∷ []) ∙ ap (λ t. encode_utf8_all xs ++ (t ++ [])) e

pub between_bytes : (t : Tie) (f : Bool) → encode_utf8_all (between t f) ≡ between t f
unfolding encode_utf8
between_bytes (Begins true) true = refl
between_bytes (Begins false) true = refl
between_bytes (LinkedBy Phrase) f = refl
between_bytes t f = refl

pub facet_bytes : (n v : List ℕ) → IsWord n → IsValue v → encode_utf8_all (chars n ++ 58 ∷ chars v) ≡ n ++ 58 ∷ v
facet_bytes n v hn hv =
    encodes-append (chars n) (58 ∷ chars v)
    ∙ ap (λ t. t ++ (encode_utf8 58 ++ encode_utf8_all (chars v))) (encodes-chars n hn.utf8)
    ∙ ap (λ t. n ++ (encode_utf8 58 ++ t)) (encodes-chars v hv.utf8)
    ∙ ap (λ t. n ++ (t ++ v)) colon_alone

prefix_bytes : (w : List ℕ) → IsWord w → canonical_atom (Prefix w) ≡ encode_utf8_all (chars w)
prefix_bytes w h = prefix_shape w ∙ word_spelled w h ∙ sym (encodes-chars w h.utf8)

exact_bytes : (w : List ℕ) → IsWord w → canonical_atom (Exact w) ≡ encode_utf8_all (chars w ++ 36 ∷ [])
exact_bytes w h = exact_shape w ∙ ap (λ t. t ++ 36 ∷ []) (word_spelled w h ∙ sym (encodes-chars w h.utf8)) ∙ sym (sign_behind (chars w) 36 dollar_alone)

value_bytes : (n v : List ℕ) → IsWord n → IsValue v → canonical_atom (Prefix (named n v)) ≡ encode_utf8_all (chars n ++ 58 ∷ chars v)
value_bytes n v hn hv = prefix_shape (named n v) ∙ sym (facet_bytes n v hn hv)

exact_value_bytes : (n v : List ℕ) → IsWord n → IsValue v → canonical_atom (Exact (named n v)) ≡ encode_utf8_all ((chars n ++ 58 ∷ chars v) ++ 36 ∷ [])
exact_value_bytes n v hn hv = exact_shape (named n v) ∙ ap (λ t. t ++ 36 ∷ []) (sym (facet_bytes n v hn hv)) ∙ sym (sign_behind (chars n ++ 58 ∷ chars v) 36 dollar_alone)

-- ---- readings
-- the text of what stands before the brackets that are open, with these brackets
abbrev pub levels_text : List Level → List ℕ
levels_text [] = []
levels_text (l ∷ ls) = levels_text ls ++ (canonical_parts l.before ++ (between l.tie (is_none l.before) ++ (l.name ++ 91 ∷ [])))

abbrev pub LevelsTake : List Level → Type 0
LevelsTake [] = Unit {0}
LevelsTake (l ∷ ls) = Takes l.tie l.before × LevelsTake ls

pub record Printed (ps : List Piece) (r : Reading) : Type 0 where
  pub same : levels_text r.open_now ++ canonical_parts r.parts ≡ encode_utf8_all (told ps)
  pub none : is_none r.parts ≡ fresh ps
  pub ready : fresh ps ≡ false → Last HasChain r.parts
  pub levels : LevelsTake r.open_now
  pub deep : length r.open_now ≡ open_in ps

pub linked_behind : (ps : List Piece) → linkable ps ≡ true → fresh ps ≡ false
linked_behind [] h = cc
linked_behind (Opens t n ∷ ps) h = cc
linked_behind (p ∷ ps) h = refl

pub takes : (t : Tie) (ps : List Piece) (r : Reading) → Printed ps r → TieFits t ps → Takes t r.parts
takes (Begins e) ps r p h = tt
takes Alternative ps r p h = p.ready h
takes (LinkedBy l) ps r p h = p.ready (linked_behind ps h)

-- the bytes of what is told with more behind it
more_bytes : (t : Tie) (ps : List Piece) (r : Reading) (xs : List ℕ) → Printed ps r
    → (levels_text r.open_now ++ canonical_parts r.parts) ++ (between t (is_none r.parts) ++ encode_utf8_all xs) ≡ encode_utf8_all (told ps ++ (between t (fresh ps) ++ xs))
more_bytes t ps r xs p =
    ap (λ l. l ++ (between t (is_none r.parts) ++ encode_utf8_all xs)) p.same
    ∙ ap (λ b. encode_utf8_all (told ps) ++ (between t b ++ encode_utf8_all xs)) p.none
    ∙ ap (λ l. encode_utf8_all (told ps) ++ (l ++ encode_utf8_all xs)) (sym (between_bytes t (fresh ps)))
    ∙ ap (λ l. encode_utf8_all (told ps) ++ l) (sym (encodes-append (between t (fresh ps)) xs))
    ∙ sym (encodes-append (told ps) (between t (fresh ps) ++ xs))

leaf_text : (t : Tie) (a : Atom) (ps : List Piece) (r : Reading) (xs : List ℕ) → Printed ps r → TieFits t ps → canonical_atom a ≡ encode_utf8_all xs
    → levels_text r.open_now ++ canonical_parts (attached t a r.parts) ≡ encode_utf8_all (told ps ++ (between t (fresh ps) ++ xs))
leaf_text t a ps r xs p h e =
    ap (λ l. levels_text r.open_now ++ l) (attached_text t a r.parts (takes t ps r p h))
    ∙ ap (λ l. levels_text r.open_now ++ (canonical_parts r.parts ++ (between t (is_none r.parts) ++ l))) e
    ∙ sym (append_assoc (levels_text r.open_now) (canonical_parts r.parts) (between t (is_none r.parts) ++ encode_utf8_all xs))
    ∙ more_bytes t ps r xs p

-- an atom behind them, however it is told
record LeafPrinted (t : Tie) (a : Atom) (ps : List Piece) (r : Reading) (xs : List ℕ) : Type 0 where
  same : levels_text r.open_now ++ canonical_parts (attached t a r.parts) ≡ encode_utf8_all (told ps ++ (between t (fresh ps) ++ xs))
  none : is_none (attached t a r.parts) ≡ false
  ready : Last HasChain (attached t a r.parts)

leaf_printed : (t : Tie) (a : Atom) (ps : List Piece) (r : Reading) (xs : List ℕ) → Printed ps r → TieFits t ps → canonical_atom a ≡ encode_utf8_all xs → LeafPrinted t a ps r xs
leaf_printed t a ps r xs p h e =
    let ready : Last HasChain (attached t a r.parts) = attached_ready t a r.parts (takes t ps r p h) in
    record { same = leaf_text t a ps r xs p h e; none = last_some HasChain (attached t a r.parts) ready; ready = ready }

-- the join of a bracket that closes
regroup : (a b c n o p s : List ℕ) → a ++ (b ++ (c ++ (n ++ o ++ p ++ s))) ≡ a ++ (b ++ (c ++ (n ++ o))) ++ p ++ s
regroup a b c n o p s = simp append_assoc refl

close_text : (ps : List Piece) (parts : List Part) (l : Level) (ls : List Level) → Takes l.tie l.before
    → levels_text (l ∷ ls) ++ canonical_parts parts ≡ encode_utf8_all (told ps)
    → levels_text ls ++ canonical_parts (attached l.tie (join l.name parts) l.before) ≡ encode_utf8_all (told ps ++ 93 ∷ [])
close_text ps parts l ls h e =
    let x : List ℕ = levels_text ls in
    let y : List ℕ = canonical_parts l.before in
    let z : List ℕ = between l.tie (is_none l.before) in
    ap (λ t. x ++ t) (attached_text l.tie (join l.name parts) l.before h)
    ∙ ap (λ t. x ++ (y ++ (z ++ t))) (join_text l.name parts)
    ∙ regroup x y z l.name (codes "[") (canonical_parts parts) (codes "]")
    ∙ ap (λ t. t ++ 93 ∷ []) e
    ∙ sym (sign_behind (told ps) 93 close_alone)

close_printed : (ps : List Piece) (parts : List Part) (os : List Level) → Printed ps (record { parts = parts; open_now = os }) → 1 ≤ open_in ps → Printed (Closes ∷ ps) (leave parts os)
close_printed ps parts [] p h = absurd (omega (arith, p.deep, h))
close_printed ps parts (l ∷ ls) p h =
    let ready : Last HasChain (attached l.tie (join l.name parts) l.before) = attached_ready l.tie (join l.name parts) l.before p.levels.0 in
    record {
      same = close_text ps parts l ls p.levels.0 p.same;
      none = last_some HasChain (attached l.tie (join l.name parts) l.before) ready;
      ready = λ u. ready;
      levels = p.levels.1;
      deep = omega (arith, p.deep, h);
    }

open_printed : (t : Tie) (n : List ℕ) (ps : List Piece) (r : Reading) → Printed ps r → TieFits t ps → IsWord n → Printed (Opens t n ∷ ps) (taken (Enter t n) r)
open_printed t n ps r p h w =
    let name : n ++ 91 ∷ [] ≡ encode_utf8_all (chars n ++ 91 ∷ []) = ap (λ l. l ++ 91 ∷ []) (sym (encodes-chars n w.utf8)) ∙ sym (sign_behind (chars n) 91 open_alone) in
    record {
      same = append-nil (levels_text r.open_now ++ (canonical_parts r.parts ++ (between t (is_none r.parts) ++ (n ++ 91 ∷ []))))
          ∙ ap (λ l. levels_text r.open_now ++ (canonical_parts r.parts ++ (between t (is_none r.parts) ++ l))) name
          ∙ sym (append_assoc (levels_text r.open_now) (canonical_parts r.parts) (between t (is_none r.parts) ++ encode_utf8_all (chars n ++ 91 ∷ [])))
          ∙ more_bytes t ps r (chars n ++ 91 ∷ []) p;
      none = refl;
      ready = λ u. absurd (let no : true ≡ false = u in cc);
      levels = (takes t ps r p h, p.levels);
      deep = omega (arith, p.deep);
    }

pub printed : (ps : List Piece) → Well ps → Printed ps (reading (map step_of ps))
printed [] h = record { same = refl; none = refl; ready = λ u. absurd (let no : true ≡ false = u in cc); levels = tt; deep = refl }
printed (Plain t w ∷ ps) h =
    let p = printed ps h.1 in
    let l = leaf_printed t (Prefix w) ps (reading (map step_of ps)) (chars w) p h.0.0 (prefix_bytes w h.0.1) in
    record { same = l.same; none = l.none; ready = λ u. l.ready; levels = p.levels; deep = p.deep }
printed (Whole t w ∷ ps) h =
    let p = printed ps h.1 in
    let l = leaf_printed t (Exact w) ps (reading (map step_of ps)) (chars w ++ 36 ∷ []) p h.0.0 (exact_bytes w h.0.1) in
    record { same = l.same; none = l.none; ready = λ u. l.ready; levels = p.levels; deep = p.deep }
printed (Valued t n v ∷ ps) h =
    let p = printed ps h.1 in
    let l = leaf_printed t (Prefix (named n v)) ps (reading (map step_of ps)) (chars n ++ 58 ∷ chars v) p h.0.0 (value_bytes n v h.0.1.word h.0.2) in
    record { same = l.same; none = l.none; ready = λ u. l.ready; levels = p.levels; deep = p.deep }
printed (WholeValued t n v ∷ ps) h =
    let p = printed ps h.1 in
    let l = leaf_printed t (Exact (named n v)) ps (reading (map step_of ps)) ((chars n ++ 58 ∷ chars v) ++ 36 ∷ []) p h.0.0 (exact_value_bytes n v h.0.1.word h.0.2) in
    record { same = l.same; none = l.none; ready = λ u. l.ready; levels = p.levels; deep = p.deep }
printed (Opens t n ∷ ps) h = open_printed t n ps (reading (map step_of ps)) (printed ps h.1) h.0.0 h.0.1.word
printed (Closes ∷ ps) h = close_printed ps (reading (map step_of ps)).parts (reading (map step_of ps)).open_now (printed ps h.1) h.0
