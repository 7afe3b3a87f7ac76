-- The pieces of a text that is cut at each character that passes a test, as lists of characters.
use Rattle.std.proofs.Common.{◌≡◌, ℕ, ◌<◌, Bool, true, false, true≢false, cond, List, [], ◌∷◌, ◌++◌, length, take, drop, refl, sym, ap, subst, ◌∙◌, arith, encode_utf8_all, append_assoc, take-append-drop}
use Rattle.std.specs.Char.{encode_utf8}
use Rattle.std.specs.Option.{MatchOption}
use Rattle.std.specs.Prelude.{Option, Some, None}
use Rattle.std.specs.declared.str.Split.{Split}
use Rattle.std.specs.Str.{chars, IsUtf8, NonePass, all_scalars}
use Rattle.std.specs.Str.Iter.{split_steps, split_text, split_has_more, split_pattern}
use Rattle.std.specs.Str.Pattern.{FindsBy}
use Rattle.std.specs.Fn.{AlwaysReturns, Called}
use denote.Param.Members.{Mut}
use Rattle.std.proofs.lemmas.Fn.{always_returns_same}
use Rattle.std.specs.List.{slice_split, All}
use Rattle.std.proofs.lemmas.Bool.{and_parts, and_from}
use Rattle.std.proofs.lemmas.Str.{chars-encodes, chars_from_encodes, cons_from_encodes, len_utf8_bounds}
use Rattle.std.proofs.lemmas.Iterator.{YieldsList}
use Rattle.std.proofs.lemmas.Iterator.Splits.{YieldsList-from_shown_while}
use Rattle.std.proofs.lemmas.List.Elements.{All-nil, All-cons}
use Rattle.std.proofs.lemmas.List.Splits.{slice_split_none, slice_split_at}

-- the characters after some that are known
record EndsWith (ds cs : List ℕ) (c : ℕ) (rest : List ℕ) : Type 0 where
  left : List ℕ
  is : ds ≡ cs ++ c ∷ left
  spelled : encode_utf8_all left ≡ rest

ends_with : (cs ds : List ℕ) (c : ℕ) (rest : List ℕ) → encode_utf8_all ds ≡ encode_utf8_all cs ++ (encode_utf8 c ++ rest) → EndsWith ds cs c rest
ends_with [] ds c rest e = let m = cons_from_encodes ds rest c e in record { left = m.0; is = m.1; spelled = m.2 }
ends_with (x ∷ cs) ds c rest e =
    let m = cons_from_encodes ds (encode_utf8_all cs ++ (encode_utf8 c ++ rest)) x (e ∙ append_assoc (encode_utf8 x) (encode_utf8_all cs) (encode_utf8 c ++ rest)) in
    let n = ends_with cs m.0 c rest m.2 in
    record { left = n.left; is = m.1 ∙ ap (λ es. x ∷ es) n.is; spelled = n.spelled }

scalars_front : (xs ys : List ℕ) → all_scalars (xs ++ ys) ≡ true → all_scalars xs ≡ true
scalars_front [] ys h = refl
scalars_front (x ∷ xs) ys h = let both = and_parts _ (all_scalars (xs ++ ys)) h in and_from _ (all_scalars xs) both.0 (scalars_front xs ys both.1)

pub scalars_back : (xs ys : List ℕ) → all_scalars (xs ++ ys) ≡ true → all_scalars ys ≡ true
scalars_back [] ys h = h
scalars_back (x ∷ xs) ys h = scalars_back xs ys (and_parts _ (all_scalars (xs ++ ys)) h).1

All-from_NonePass : (p : ℕ → Bool) (cs : List ℕ) → NonePass p cs → All (λ c. p c ≡ false) cs
All-from_NonePass p [] h = All-nil (λ c. p c ≡ false)
All-from_NonePass p (c ∷ cs) h = All-cons (λ c. p c ≡ false) c cs h.0 (All-from_NonePass p cs h.1)

-- the first piece of a text, and whether more is left
record FirstPiece (p : ℕ → Bool) (w x : List ℕ) (live : Bool) (rest : List ℕ) : Type 0 where
  utf8 : live ≡ true → IsUtf8 rest
  is : slice_split p (chars w) ≡ chars x ∷ cond live (slice_split p (chars rest)) []

first_piece : (p : ℕ → Bool) (w x : List ℕ) (live : Bool) (rest : List ℕ) (o : Option (ℕ × ℕ)) → IsUtf8 w → FindsBy p w o
    → MatchOption o ((x ≡ w) × (live ≡ false)) (λ q. 0 < q.1 → (x ≡ take q.0 w) × (live ≡ true) × (rest ≡ drop q.1 w)) → FirstPiece p w x live rest
first_piece p w x live rest None u f m =
    let spelled : f.0 ≡ chars w = chars_from_encodes f.0 w u f.1 in
    let all : All (λ c. p c ≡ false) (chars w) = subst (All (λ c. p c ≡ false)) spelled (All-from_NonePass p f.0 f.2) in
    record {
      utf8 = λ l. absurd (true≢false (sym l ∙ m.1));
      is = slice_split_none p (chars w) all ∙ ap (λ y. chars y ∷ []) (sym m.0) ∙ ap (λ b. chars x ∷ cond b (slice_split p (chars rest)) []) (sym m.1);
    }
first_piece p w x live rest (Some q) u f m =
    let cs : List ℕ = f.0.0 in
    let c : ℕ = f.1.0 in
    let hit : p c ≡ true = f.1.1 in
    let at = f.1.2 in
    let front : encode_utf8_all cs ≡ take q.0 w = f.0.1 in
    let later : 0 < q.1 = omega (arith, at.ends, len_utf8_bounds c) in
    let n = m later in
    let whole : encode_utf8_all u.0 ≡ encode_utf8_all cs ++ (encode_utf8 c ++ drop q.1 w) =
    u.1.1 ∙ sym (take-append-drop q.0 w) ∙ ap (λ v. v ++ drop q.0 w) (sym front) ∙ ap (λ v. encode_utf8_all cs ++ v) at.split in
    let e = ends_with cs u.0 c (drop q.1 w) whole in
    let all : all_scalars (cs ++ c ∷ e.left) ≡ true = subst (λ ds. all_scalars ds ≡ true) e.is u.1.0 in
    let left : all_scalars e.left ≡ true = (and_parts _ (all_scalars e.left) (scalars_back cs (c ∷ e.left) all)).1 in
    let rest_is : encode_utf8_all e.left ≡ rest = e.spelled ∙ sym n.2 in
    let x_is : chars x ≡ cs = ap chars (n.0 ∙ sym front) ∙ chars-encodes cs (scalars_front cs (c ∷ e.left) all) in
    let w_is : chars w ≡ cs ++ c ∷ e.left = ap chars (sym u.1.1) ∙ chars-encodes u.0 u.1.0 ∙ e.is in
    record {
      utf8 = λ l. (e.left, (left, rest_is));
      is = ap (slice_split p) w_is ∙ slice_split_at p cs c e.left (All-from_NonePass p cs f.0.2) hit
          ∙ ap (λ ys. ys ∷ slice_split p e.left) (sym x_is)
          ∙ ap (λ ys. chars x ∷ slice_split p ys) (sym (ap chars (sym rest_is) ∙ chars-encodes e.left left))
          ∙ ap (λ b. chars x ∷ cond b (slice_split p (chars rest)) []) (sym n.1);
    }

-- A text that is cut by a pattern, where M says which test a pattern matches by: the pieces are those of its characters.
-- The last four facts are the text's own and the call's clauses `text`, `has_more` and `pattern`.
YieldsList-from_str_split_by : {P : Type 0} {s : Split P} (M : P → (ℕ → Bool) → Type 0) (p : ℕ → Bool) (bs : List ℕ) → IsUtf8 bs → split_text s ≡ bs → split_has_more s ≡ true → M (split_pattern s) p
    → YieldsList (split_steps (λ a w r. (k : ℕ → Bool) → M a k → FindsBy k w r) (λ a b. (k : ℕ → Bool) → M a k → M b k)) (λ x. chars x.now) s (slice_split p (chars bs))
YieldsList-from_str_split_by {P} {s} M p bs u text more matches =
    let parts = λ (w : List ℕ). slice_split p (chars w) in
    let shown = λ (t : Split P). cond (split_has_more t) (parts (split_text t)) [] in
    let steps = split_steps (λ a w r. (k : ℕ → Bool) → M a k → FindsBy k w r) (λ a b. (k : ℕ → Bool) → M a k → M b k) in
    subst (YieldsList steps (λ x. chars x.now) s) (λ i. cond (more i) (parts (text i)) [])
    (YieldsList-from_shown_while steps (λ x. chars x.now) shown (λ t. M (split_pattern t) p × (split_has_more t ≡ true → IsUtf8 (split_text t)))
    (λ t v h k. ap (λ b. length (cond b (parts (split_text t)) [])) (sym k.0))
    (λ t x v h k.
    let found = k.1.1.1 in
    let m = first_piece p (split_text t) x.now (split_has_more v) (split_text v) found.0 (h.1 (sym k.0)) (found.1 p h.0) found.2 in (
      (k.1.0 p h.0, m.utf8),
      ap (λ b. cond b (parts (split_text t)) []) (sym k.0) ∙ m.is,
    ))
    s (matches, λ l. subst IsUtf8 (sym text) u))

-- the same, where the pattern is a function or a closure that computes the test p; the last fact is of its calls
pub YieldsList-from_str_split_at : {F : Type 0} {s : Split F} (g : Mut F (ℕ × Unit {0}) Bool) (p : ℕ → Bool) {f : F} (bs : List ℕ) → IsUtf8 bs → split_text s ≡ bs → split_has_more s ≡ true → split_pattern s ≡ f
    → ((x : ℕ) (b : Bool) (q : F) → Called g f (x, tt) b q → (q ≡ f) × (b ≡ p x))
    → YieldsList (split_steps (λ a w r. (k : ℕ → Bool) → AlwaysReturns g (λ x b. b ≡ k x.0) a → FindsBy k w r) (λ a b. (k : ℕ → Bool) → AlwaysReturns g (λ x r. r ≡ k x.0) a → AlwaysReturns g (λ x r. r ≡ k x.0) b))
    (λ x. chars x.now) s (slice_split p (chars bs))
YieldsList-from_str_split_at {F} {s} g p {f} bs u text more pattern tests =
    YieldsList-from_str_split_by (λ a k. AlwaysReturns g (λ x b. b ≡ k x.0) a) p bs u text more
    (subst (AlwaysReturns g (λ x b. b ≡ p x.0)) (sym pattern) (always_returns_same g (λ x b. b ≡ p x.0) f (λ x b q k. let m = tests x.0 b q k in (m.1, m.0))))
