-- The tokens of a reply, and the text that they are.
use Rattle.std.proofs.Common.{◌≡◌, ◌<◌, ◌+◌, ℕ, List, [], ◌∷◌, ◌++◌, codes, length, drop, get_or, ap, sym, ◌∙◌, arith, append_assoc}
use Rattle.std.specs.List.{zip}
use Rattle.std.proofs.lemmas.List.{drop_more}
use Rattle.std.proofs.lemmas.Slice.Zip.{get_or-zip, length-zip}
use Rattle.json.specs.Token.{Token, begin_object, key}
use Rattle.json.specs.Print.{print}
use Rattle.serde_json.specs.Data.{Data, object, no_members, member}
use Rattle.serde_json.specs.Written.{compact_text}
use Rattle.serde_json.proofs.Texts.{print-outline}
use Rattle.cs_model.specs.Replies.{HitShown, Reply, facet_members, table_data, total_data}
use Rattle.cs_json.specs.ReplyTokens.{data_tokens, before_hits, after_hits}

-- the reply with its hits as they are shown
abbrev pub reply_with : Reply → Data → Data
reply_with r hits =
    object (member (codes "completions") (table_data r.completions)
    (member (codes "facets") (object (facet_members r.facets))
    (member (codes "hits") hits
    (member (codes "total") (total_data r.total_completions r.total_hits) no_members))))

around : (a b c d : Token) (completions facets hits after : List Token)
    → ((a ∷ (b ∷ (completions ++ c ∷ (facets ++ d ∷ [])))) ++ hits) ++ after ≡ a ∷ (b ∷ (completions ++ c ∷ (facets ++ d ∷ (hits ++ after))))
around a b c d completions facets hits after = simp append_assoc

up_to : (old : List Token) (a b c d : Token) (completions facets : List Token)
    → (((((old ++ a ∷ []) ++ b ∷ []) ++ completions) ++ c ∷ []) ++ facets) ++ d ∷ [] ≡ old ++ (a ∷ (b ∷ (completions ++ c ∷ (facets ++ d ∷ []))))
up_to old a b c d completions facets = simp append_assoc

-- the tokens before the hits, one after the other
pub up_to_hits : (old : List Token) (r : Reply)
    → (((((old ++ begin_object ∷ []) ++ key (codes "completions") ∷ []) ++ data_tokens (table_data r.completions)) ++ key (codes "facets") ∷ []) ++ data_tokens (object (facet_members r.facets))) ++ key (codes "hits") ∷ [] ≡ old ++ before_hits r
up_to_hits old r =
    up_to old begin_object (key (codes "completions")) (key (codes "facets")) (key (codes "hits")) (data_tokens (table_data r.completions)) (data_tokens (object (facet_members r.facets)))

-- the tokens round the hits and those of the hits are the reply's
around_hits : (r : Reply) (hits : Data) → (before_hits r ++ data_tokens hits) ++ after_hits r ≡ data_tokens (reply_with r hits)
around_hits r hits =
    around begin_object (key (codes "completions")) (key (codes "facets")) (key (codes "hits"))
    (data_tokens (table_data r.completions)) (data_tokens (object (facet_members r.facets))) (data_tokens hits) (after_hits r)

-- so they are printed as the reply's text
pub print_around : (r : Reply) (hits : Data) (ts : List Token) → ts ≡ (before_hits r ++ data_tokens hits) ++ after_hits r → print ts ≡ compact_text (reply_with r hits)
print_around r hits ts e = ap print (e ∙ around_hits r hits) ∙ print-outline (reply_with r hits)

-- the pair at n and those behind it
pub zip_here : (hits : List HitShown) (excerpts : List (List ℕ)) (n : ℕ) (h : HitShown) (x : List ℕ) → n < length hits → n < length excerpts → h ≡ get_or hits n h → x ≡ get_or excerpts n x
    → drop n (zip hits excerpts) ≡ (h, x) ∷ drop (n + 1) (zip hits excerpts)
zip_here hits excerpts n h x l m a b =
    let pairs = zip hits excerpts in
    let within : n < length pairs = omega (arith, length-zip hits excerpts, l, m) in
    let both : get_or pairs n (h, x) ≡ (h, x) = get_or-zip hits excerpts n (h, x) l m ∙ ap (λ y. (y, get_or excerpts n x)) (sym a) ∙ ap (λ y. (h, y)) (sym b) in
    drop_more pairs n (h, x) within ∙ ap (λ p. p ∷ drop (n + 1) pairs) both
