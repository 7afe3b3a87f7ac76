-- Values of lines, and strings joined.
use Rattle.std.proofs.Common.{◌≡◌, ℕ, List, [], ◌∷◌, ◌++◌, true, false, Bool, cond, Option, Some, None, refl, sym, ap, ◌∙◌, append_assoc, append-nil, arith, zero, suc, ◌+◌, ◌<◌, ◌≤◌, length, drop, get_or, length-append, length-drop}
use Rattle.std.proofs.lemmas.List.{drop_all}
use Rattle.serde_json.specs.View.{items_view, view}
use Rattle.serde_json.specs.declared.value.Value.{Value}
use Rattle.std.specs.Option.{option_map, option_and_then}
use Rattle.std.specs.List.{join_with_byte, starts_with}
use Rattle.std.specs.Str.{IsUtf8, is_utf8}
use Rattle.std.proofs.lemmas.Str.{IsUtf8-from_is_utf8, is_utf8-from_IsUtf8}
use Rattle.serde_json.specs.Data.{Data}
use Rattle.serde_json.specs.Find.{as_str}
use Rattle.serde_json.specs.Read.{read}
use Rattle.std.specs.Prelude.{◌==◌, nat_eq}
use Rattle.std.proofs.lemmas.Bool.{false≢true}
use Rattle.std.proofs.lemmas.Bool.Decides.{nat_tests}
use Rattle.cs_model_sources.specs.declared.flat.Flat.{Flat}
use Rattle.cs_base.specs.content.Bytes.{byte_order_mark, line_feed, semicolon}
use Rattle.cs_model.specs.Collection.{without_mark}
use Rattle.cs_base.specs.declared.content.limits.TheConstants.{MAX_COLLECTION_BYTES}
use Rattle.cs_model_sources.specs.JsonSources.{LineRead, bad, in_front, given, json_value, line_read, read_value, strings_of, with_line}
use Rattle.cs_more.specs.LineGiven.{OverflowsBy, behind_semicolons}

pub one_value : (l : List ℕ) (d : Data) → IsUtf8 l → read l ≡ Some d → Some d ≡ json_value l
unfolding json_value
one_value l d u r = let t = is_utf8-from_IsUtf8 l u in sym (ap (λ b. cond b (read l) None) t ∙ r)

pub no_value : (l : List ℕ) → (IsUtf8 l → read l ≡ None) → None ≡ json_value l
unfolding json_value
no_value l h = (elim (is_utf8 l) as (λ b. is_utf8 l ≡ b → None ≡ cond b (read l) None) [
  | true ↦ λ e. sym (h (IsUtf8-from_is_utf8 l e))
  | false ↦ λ e. refl
]) refl

-- ---- joined strings
join-more : (s : List ℕ) (ss : List (List ℕ)) → join_with_byte semicolon (s ∷ ss) ≡ s ++ behind_semicolons ss
join-more s [] = sym (append-nil s)
join-more s (t ∷ ss) = ap (λ x. s ++ (semicolon ∷ x)) (join-more t ss)

drop-next : {X : Type 0} (xs : List X) (i : ℕ) (x : X) → i < length xs → x ≡ get_or xs i x → drop i xs ≡ x ∷ drop (i + 1) xs
drop-next [] i x l e = absurd (omega arith)
drop-next (y ∷ ys) zero x l e = ap (λ z. z ∷ ys) (sym e)
drop-next (y ∷ ys) (suc i) x l e = let next : suc i + 1 ≡ suc (i + 1) = omega arith in drop-next ys i x (omega (arith, l)) e ∙ ap (λ n. x ∷ drop n (y ∷ ys)) (sym next)

abbrev pub Joins : List ℕ → List Value → Option (List ℕ)
Joins column vs = option_map (λ ss. column ++ behind_semicolons ss) (strings_of (items_view vs))

one_joined : (column text new : List ℕ) (o : Option (List (List ℕ))) → new ≡ (column ++ (semicolon ∷ [])) ++ text → option_map (λ ss. column ++ behind_semicolons ss) (option_map (λ ss. text ∷ ss) o) ≡ option_map (λ ss. new ++ behind_semicolons ss) o
one_joined column text new None e = refl
one_joined column text new (Some ss) e =
    ap Some (sym (append_assoc column (semicolon ∷ []) (text ++ behind_semicolons ss)) ∙ sym (append_assoc (column ++ (semicolon ∷ [])) text (behind_semicolons ss)) ∙ ap (λ x. x ++ behind_semicolons ss) (sym e))

-- one string more
pub joins_more : (whole : Option (List ℕ)) (column new text : List ℕ) (vs : List Value) (i : ℕ) (v : Value) → i < length vs → v ≡ get_or vs i v → Some text ≡ as_str (view v) → new ≡ (column ++ (semicolon ∷ [])) ++ text
    → whole ≡ Joins column (drop i vs) → whole ≡ Joins new (drop (i + 1) vs)
joins_more whole column new text vs i v l is t e w =
    w ∙ ap (Joins column) (drop-next vs i v l is)
    ∙ ap (λ o. option_map (λ ss. column ++ behind_semicolons ss) (option_and_then (λ s. option_map (λ ss. s ∷ ss) (strings_of (items_view (drop (i + 1) vs)))) o)) (sym t)
    ∙ one_joined column text new (strings_of (items_view (drop (i + 1) vs))) e

-- a value that is no string
pub joins_none : (whole : Option (List ℕ)) (column : List ℕ) (vs : List Value) (i : ℕ) (v : Value) → i < length vs → v ≡ get_or vs i v → None ≡ as_str (view v) → whole ≡ Joins column (drop i vs) → None ≡ whole
joins_none whole column vs i v l is t w =
    sym (w ∙ ap (Joins column) (drop-next vs i v l is)
    ∙ ap (λ o. option_map (λ ss. column ++ behind_semicolons ss) (option_and_then (λ s. option_map (λ ss. s ∷ ss) (strings_of (items_view (drop (i + 1) vs)))) o)) (sym t))

pub joins_all : (whole : Option (List ℕ)) (column : List ℕ) (vs : List Value) (i : ℕ) → length vs ≤ i → whole ≡ Joins column (drop i vs) → Some column ≡ whole
joins_all whole column vs i l w = sym (w ∙ ap (Joins column) (drop_all i vs l) ∙ ap Some (append-nil column))

-- ---- a line, by whether it has bytes
pub read_empty : (l : List ℕ) (b : Bool) → b ≡ (length l == 0) → b ≡ true → line_read l ≡ given (line_feed ∷ [])
unfolding line_read
read_empty [] b e t = refl
read_empty (x ∷ l) b e t = let some : (length (x ∷ l) == 0) ≡ false = grind (arith, nat_tests) in absurd (false≢true (sym some ∙ sym e ∙ t))

pub read_filled : (l : List ℕ) (b : Bool) (o : Option Data) → b ≡ (length l == 0) → b ≡ false → o ≡ json_value l → line_read l ≡ read_value o
unfolding line_read
read_filled [] b o e t v = absurd (false≢true (sym t ∙ e))
read_filled (x ∷ l) b o e t v = ap read_value (sym v)

-- ---- the first of a list
pub first_joined : (vs rest : List Value) (v : Value) (text column : List ℕ) (o : Option (List ℕ)) → vs ≡ v ∷ rest → Some text ≡ as_str (view v) → column ≡ text → o ≡ Joins column rest → o ≡ option_map (join_with_byte semicolon) (strings_of (items_view vs))
first_joined vs rest v text column o e t c j =
    j ∙ ap (λ x. Joins x rest) c ∙ one_first text (strings_of (items_view rest))
    ∙ ap (λ m. option_map (join_with_byte semicolon) (option_and_then (λ s. option_map (λ ss. s ∷ ss) (strings_of (items_view rest))) m)) t
    ∙ ap (λ x. option_map (join_with_byte semicolon) (strings_of (items_view x))) (sym e)
  where
    one_first : (text : List ℕ) (p : Option (List (List ℕ))) → option_map (λ ss. text ++ behind_semicolons ss) p ≡ option_map (join_with_byte semicolon) (option_map (λ ss. text ∷ ss) p)
    one_first text None = refl
    one_first text (Some ss) = ap Some (sym (join-more text ss))

pub first_and_rest : (vs rest : List Value) (v : Value) → 0 < length vs → v ≡ get_or vs 0 v → rest ≡ drop 1 vs → vs ≡ v ∷ rest
first_and_rest [] rest v l e r = absurd (omega arith)
first_and_rest (x ∷ vs) rest v l e r = ap (λ y. y ∷ vs) (sym e) ∙ ap (λ ys. v ∷ ys) (sym r)

-- ---- the lines that are left
unmarked_at : (h : Bool) (b : List ℕ) → length (cond h (drop (length byte_order_mark) b) b) ≤ length b
unmarked_at true b = omega (arith, length-drop (length byte_order_mark) b)
unmarked_at false b = omega arith

-- a source is no longer without its mark
pub unmarked : (b : List ℕ) → length (without_mark b) ≤ length b
unmarked b = unmarked_at (starts_with nat_eq b byte_order_mark) b

-- with one line there are too many bytes
pub too_long : (r : LineRead) (whole tail : Flat) (old : List ℕ) (n : ℕ) → OverflowsBy r old → whole ≡ in_front old (with_line n r tail) → MAX_COLLECTION_BYTES < length whole.tsv
too_long (given t) whole tail old n l w =
    let size : length whole.tsv ≡ length (old ++ (t ++ tail.tsv)) = ap (λ (f : Flat). length f.tsv) w in
    let parts : length (old ++ (t ++ tail.tsv)) ≡ length ((old ++ t) ++ tail.tsv) = ap length (sym (append_assoc old t tail.tsv)) in
    omega (arith, l, size, parts, length-append (old ++ t) tail.tsv)
too_long (bad why) whole tail old n l w = absurd l
