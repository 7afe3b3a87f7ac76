-- The shorter words of the prefix that is being typed, one after the other.
--
--   last_link, last_part      the prefix at the end of a chain, and of a query
--   Narrowing q p rest ns     ns are the narrower keys of those words that are longer than rest, or as long
--   one_less, at_stop, at_end     the steps of the loop
--   continues                     rest is the beginning of the prefix, and is a word
use Rattle.std.proofs.Common.{◌≡◌, ℕ, suc, ◌-◌, ◌≤◌, List, [], ◌∷◌, ◌++◌, map, filter, length, refl, ap, ◌∙◌, sym, append_assoc, Bool, true, false, arith, Some}
use Rattle.std.specs.Prelude.{◌||◌, ◌==◌, encode_utf8_all}
use Rattle.std.specs.Char.{encode_utf8}
use Rattle.std.specs.List.{list_any, slice_get}
use Rattle.std.specs.Str.{chars, IsUtf8, all_scalars}
use Rattle.std.proofs.lemmas.Bool.{or_from, or_parts}
use Rattle.std.proofs.lemmas.List.{append-nil}
use Rattle.std.proofs.lemmas.Str.{encodes_same, encodes-chars, scalars-chars, chars-nil}
use Rattle.cs_base.specs.declared.content.key.Narrower.{Narrower}
use Rattle.cs_base.specs.declared.content.query.Query.{Query, out-Query}
use Rattle.cs_base.specs.declared.content.query.Part.{Part}
use Rattle.cs_base.specs.declared.content.query.Chain.{Chain, out-Chain}
use Rattle.cs_base.specs.declared.content.query.Linked.{Linked, out-Linked}
use Rattle.cs_base.specs.declared.content.query.Atom.{out-Atom}
use Rattle.cs_model.specs.Keys.{last_of, prefix_in, last_atom, chain_prefix, part_prefix, last_prefix, narrower, shorter, is_left, shorter_words}
use Rattle.cs_model.proofs.PieceTokens.{chars_some}
use Rattle.cs_model.proofs.SizeLemmas.{encodes-append}
use Rattle.cs_model.proofs.KeyLemmas.{left_more, left_stop, left_empty}
use Rattle.cs_model.specs.Collection.{is_colon}
use Rattle.cs_text.proofs.WordPiecesLemmas.{some_length, nil_from_test}
use Rattle.cs_text.proofs.SplitLemmas.{scalars_back}
use Rattle.cs_query.specs.Printing.{Continues}

-- ---- last entries
last_got : {X : Type 0} (xs : List X) → last_of xs ≡ slice_get xs (length xs - 1)
last_got [] = refl
last_got (x ∷ []) = let none : 0 ≡ length (x ∷ []) - 1 = omega arith in ap (slice_get (x ∷ [])) none
last_got (x ∷ y ∷ ys) = let more : suc (length (y ∷ ys) - 1) ≡ length (x ∷ y ∷ ys) - 1 = omega arith in last_got (y ∷ ys) ∙ ap (slice_get (x ∷ y ∷ ys)) more

pub last_link : (c : Chain) (items : List Linked) (l : Linked) → items ≡ (out-Chain c).rest → Some l ≡ slice_get items (length items - 1) → prefix_in (out-Atom (out-Linked l).atom) ≡ chain_prefix c
last_link c items l e v = ap (λ o. prefix_in (out-Atom (last_atom (out-Chain c).first o))) (v ∙ sym (last_got items) ∙ ap last_of e)

pub last_part : (q : Query) (items : List Part) (p : Part) → items ≡ (out-Query q).parts → Some p ≡ slice_get items (length items - 1) → part_prefix (Some p) ≡ last_prefix q
last_part q items p e v = ap part_prefix (v ∙ sym (last_got items) ∙ ap last_of e)

-- ---- the loop
pub record Narrowing (q : Query) (p rest : List ℕ) (ns : List Narrower) : Type 0 where
  pub cut : List ℕ
  pub split : chars p ≡ chars rest ++ cut
  pub plain : list_any is_colon cut ≡ false
  pub told : map (narrower q) (shorter_words p) ≡ ns ++ map (narrower q) (map encode_utf8_all (filter (is_left (chars p)) (shorter (chars rest))))

-- rest is next with the character c behind it
chars_less : (rest next : List ℕ) (c : ℕ) → rest ≡ next ++ encode_utf8 c → IsUtf8 rest → IsUtf8 next → chars rest ≡ chars next ++ c ∷ []
chars_less rest next c e u v =
    let last : encode_utf8_all (chars next ++ c ∷ []) ≡ next ++ encode_utf8 c =
    encodes-append (chars next) (c ∷ []) ∙ ap (λ l. encode_utf8_all (chars next) ++ l) (append-nil (encode_utf8 c)) ∙ ap (λ l. l ++ encode_utf8 c) (encodes-chars next v) in
    encodes_same (chars rest) (chars next ++ c ∷ []) (encodes-chars rest u ∙ e ∙ sym last)

split_less : (q : Query) (p rest next : List ℕ) (c : ℕ) (ns : List Narrower) (h : Narrowing q p rest ns) → chars rest ≡ chars next ++ c ∷ [] → chars p ≡ chars next ++ (c ∷ h.cut)
split_less q p rest next c ns h e = h.split ∙ ap (λ l. l ++ h.cut) e ∙ append_assoc (chars next) (c ∷ []) h.cut

pub continues : (q : Query) (p rest next : List ℕ) (c : ℕ) (ns : List Narrower) → Narrowing q p rest ns → rest ≡ next ++ encode_utf8 c → IsUtf8 p → IsUtf8 rest → IsUtf8 next → Continues next p
continues q p rest next c ns h e u ur un =
    let split : chars p ≡ chars next ++ (c ∷ h.cut) = split_less q p rest next c ns h (chars_less rest next c e ur un) in
    record {
      more = encode_utf8_all (c ∷ h.cut);
      utf8 = (c ∷ h.cut, (scalars_back (chars next) (c ∷ h.cut) (ap all_scalars (sym split) ∙ scalars-chars p u), refl));
      same = sym (encodes-chars p u) ∙ ap encode_utf8_all split ∙ encodes-append (chars next) (c ∷ h.cut) ∙ ap (λ l. l ++ encode_utf8_all (c ∷ h.cut)) (encodes-chars next un);
    }

pub one_less : (q : Query) (p rest next : List ℕ) (c : ℕ) (ns : List Narrower) (n : Narrower) → Narrowing q p rest ns → rest ≡ next ++ encode_utf8 c → IsUtf8 rest → IsUtf8 next
    → false ≡ ((c == 58) || (length next == 0)) → n ≡ narrower q next → Narrowing q p next (ns ++ n ∷ [])
one_less q p rest next c ns n h e ur un go is =
    let less : chars rest ≡ chars next ++ c ∷ [] = chars_less rest next c e ur un in
    let split : chars p ≡ chars next ++ (c ∷ h.cut) = split_less q p rest next c ns h less in
    let both = or_parts (c == 58) (length next == 0) (sym go) in
    let plain : list_any is_colon (c ∷ h.cut) ≡ false = or_from (c == 58) (list_any is_colon h.cut) both.0 h.plain in
    let same : encode_utf8_all (chars next) ≡ next = encodes-chars next un in
    let some : 1 ≤ length (chars next) = chars_some (chars next) (omega (arith, some_length (length next) both.1, ap length same)) in
    let behind : List Narrower = map (narrower q) (map encode_utf8_all (filter (is_left (chars p)) (shorter (chars next)))) in
    record {
      cut = c ∷ h.cut;
      split = split;
      plain = plain;
      told = h.told ∙ ap (λ l. ns ++ map (narrower q) (map encode_utf8_all l)) (ap (λ l. filter (is_left (chars p)) (shorter l)) less ∙ left_more (chars p) (chars next) (c ∷ h.cut) c split plain some)
          ∙ ap (λ w. ns ++ (narrower q w ∷ behind)) same ∙ ap (λ m. ns ++ (m ∷ behind)) (sym is) ∙ sym (append_assoc ns (n ∷ []) behind);
    }

-- nothing is left
none_more : (q : Query) (p rest : List ℕ) (ns : List Narrower) → Narrowing q p rest ns → filter (is_left (chars p)) (shorter (chars rest)) ≡ [] → ns ≡ map (narrower q) (shorter_words p)
none_more q p rest ns h e = sym (h.told ∙ ap (λ l. ns ++ map (narrower q) (map encode_utf8_all l)) e ∙ append-nil ns)

stop_at : (b : Bool) (q : Query) (p rest next : List ℕ) (c : ℕ) (ns : List Narrower) (h : Narrowing q p rest ns) → chars rest ≡ chars next ++ c ∷ [] → (c == 58) ≡ b
    → true ≡ (b || (length next == 0)) → filter (is_left (chars p)) (shorter (chars rest)) ≡ []
stop_at true q p rest next c ns h less is go =
    ap (λ l. filter (is_left (chars p)) (shorter l)) less ∙ left_stop (chars p) (chars next) (c ∷ h.cut) c (split_less q p rest next c ns h less) (ap (λ b. b || list_any is_colon h.cut) is)
stop_at false q p rest next c ns h less is go =
    ap (λ l. filter (is_left (chars p)) (shorter l)) (less ∙ ap (λ l. l ++ c ∷ []) (ap chars (nil_from_test next (sym go)) ∙ chars-nil)) ∙ left_empty (chars p) c

pub at_stop : (q : Query) (p rest next : List ℕ) (c : ℕ) (ns : List Narrower) → Narrowing q p rest ns → rest ≡ next ++ encode_utf8 c → IsUtf8 rest → IsUtf8 next
    → true ≡ ((c == 58) || (length next == 0)) → ns ≡ map (narrower q) (shorter_words p)
at_stop q p rest next c ns h e ur un go = none_more q p rest ns h (stop_at (c == 58) q p rest next c ns h (chars_less rest next c e ur un) refl go)

pub at_end : (q : Query) (p rest : List ℕ) (ns : List Narrower) → Narrowing q p rest ns → length rest ≡ 0 → ns ≡ map (narrower q) (shorter_words p)
at_end q p [] ns h e = none_more q p [] ns h (ap (λ l. filter (is_left (chars p)) (shorter l)) chars-nil)
at_end q p (x ∷ rest) ns h e = absurd (omega (arith, e))
