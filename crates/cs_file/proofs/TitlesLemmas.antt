-- The titles of an opened index stand at their places among the bytes that stand for it, and are text.
--
--   all_laid         what holds of each item's value holds of each value
--   titles_start     the bytes of the titles are those from their place on
--   within_part      some of the first bytes from a place on
--   titles_count     there is one title less than there are offsets
--   stood_title      title d, and that it is UTF-8
use Rattle.std.proofs.Common.{◌≡◌, ℕ, zero, suc, ◌+◌, ◌-◌, ◌<◌, ◌≤◌, true, List, [], ◌∷◌, length, get_or, take, drop, Option, Some, None, refl, sym, ap}
use Rattle.std.proofs.Common.{subst, ◌∙◌, arith, drop-drop}
use Rattle.std.specs.List.{AllByRecursion}
use Rattle.std.specs.Option.{unwrap_or}
use Rattle.std.specs.Str.{is_utf8}
use Rattle.std.proofs.lemmas.List.{drop-take, take-take}
use Rattle.cs_base.specs.outside.Outside.{part}
use Rattle.cs_model_index.specs.FileRules.{laid, last_value}
use Rattle.cs_model_index.specs.Sections.{header_of, contents_of, offsets_len, titles_at, titles_in, image_of}
use Rattle.cs_model_index.specs.declared.limits.TheConstants.{HEADER_BYTES}
use Rattle.cs_file.specs.Indexes.{IndexView, IsIndex, StandsFor, titles_end, title_place, title_len, title_in}
use Rattle.cs_file.proofs.OffsetsLemmas.{title_at_index, spans}
use Rattle.cs_file.proofs.StoodLemmas.{stood}

pub all_laid : {X : Type 0} (P : X → Type 0) (size : X → ℕ) (at : ℕ) (last : Option X) (xs : List X) (k : ℕ) (d : X)
    → AllByRecursion (λ i. P i.value) (laid size at last xs) → k < length xs → P (get_or xs k d)
unfolding laid
all_laid P size at last [] k d h lt = absurd (omega arith)
all_laid P size at last (x ∷ xs) zero d h lt = h.0
all_laid P size at last (x ∷ xs) (suc k) d h lt = all_laid P size (at + size x) (Some x) xs k d h.1 (omega arith)

pub titles_start : (b : List ℕ) → (contents_of b).bytes.titles ≡ take (header_of b).titles_len (drop (titles_at (header_of b)) b)
titles_start b =
    let h = header_of b in
    let a = drop-drop h.vocabulary_len HEADER_BYTES b in
    let c = drop-drop (offsets_len h) (HEADER_BYTES + h.vocabulary_len) b in
    ap (λ (x : List ℕ). take h.titles_len (drop (offsets_len h) x)) a ∙ ap (λ (x : List ℕ). take h.titles_len x) c

image_titles : (b : List ℕ) → (image_of b).titles ≡ (contents_of b).titles
unfolding image_of
image_titles b = refl

-- some bytes within the first of others
pub within_part : (n from at len : ℕ) (b : List ℕ) → from + n ≤ len → take n (drop from (take len (drop at b))) ≡ part b (at + from) n
within_part n from at len b le =
    let e : from + (len - from) ≡ len = omega arith in
    ap (λ (x : ℕ). take n (drop from (take x (drop at b)))) (sym e) ∙ ap (take n) (drop-take from (len - from) (drop at b))
    ∙ take-take n (len - from) (drop from (drop at b)) (omega arith) ∙ ap (take n) (drop-drop from at b)

pub titles_count : (os bytes : List ℕ) → length (titles_in os bytes) ≡ length os - 1
titles_count [] bytes = refl
titles_count (o ∷ []) bytes = refl
titles_count (o ∷ p ∷ os) bytes = let rest = titles_count (p ∷ os) bytes in omega (arith, rest)

pub record StoodTitle (b : List ℕ) (i : IndexView) (d : ℕ) : Type 0 where
  pub bytes : title_in b d ≡ part b (title_place i d) (title_len i d)
  pub text : is_utf8 (title_in b d) ≡ true

pub stood_title : (b : List ℕ) (i : IndexView) → StandsFor b i → IsIndex i → (d : ℕ) → d < i.docs → StoodTitle b i d
stood_title b i s is d lt =
    let st = stood b i s in
    let sp = spans i is d lt in
    let r = contents_of b in
    let known = sp.known in
    let offsets : i.offsets ≡ r.offsets = st.offsets in
    let one : d + 1 ≡ suc d = omega arith in
    let end : titles_end i ≡ (header_of b).titles_len = ap (λ (os : List ℕ). unwrap_or (last_value os) 0) offsets ∙ st.hold.values.last_offset in
    let lt' : suc d < length r.offsets = subst (λ (os : List ℕ). suc d < length os) offsets known in
    let a = sp.onward in
    let c = sp.within in
    let n = title_len i d in
    let from = get_or i.offsets d 0 in
    let at_own : get_or r.titles d [] ≡ take n (drop from r.bytes.titles) =
    title_at_index r.offsets r.bytes.titles d lt'
    ∙ ap (λ (os : List ℕ). take (get_or os (suc d) 0 - get_or os d 0) (drop (get_or os d 0) r.bytes.titles)) (sym offsets)
    ∙ ap (λ (x : ℕ). take (get_or i.offsets x 0 - from) (drop from r.bytes.titles)) (sym one) in
    let there : get_or r.titles d [] ≡ part b (titles_at (header_of b) + from) n =
    at_own ∙ ap (λ (x : List ℕ). take n (drop from x)) (titles_start b)
    ∙ within_part n from (titles_at (header_of b)) (header_of b).titles_len b (omega (arith, a, c, end)) in
    let count : length r.titles ≡ length r.offsets - 1 = titles_count r.offsets r.bytes.titles in
    record {
      bytes = ap (λ (ts : List (List ℕ)). get_or ts d []) (image_titles b) ∙ there ∙ ap (λ (x : ℕ). part b (x + from) n) (sym st.titles_at);
      text = ap (λ (ts : List (List ℕ)). is_utf8 (get_or ts d [])) (image_titles b)
          ∙ all_laid (λ t. is_utf8 t ≡ true) (λ t. length t) (titles_at (header_of b)) None r.titles d [] st.hold.values.texts (omega (arith, count, lt'));
    }
