-- Rules 8 and 9: where titles begin, and the titles.
--
--   numbers_on, numbers_end        numbers that are read one by one
--   titles_is              the stage, by its two rules
--   offsets_are            the offsets, by the section's bytes
--   has_offsets            what rule 8 says of them
--   TitleTold, title_told  a title of bytes whose header is known
--   titles_begun, titles_on, title_refused, titles_done    the steps of reading the titles one by one
--   title_bytes_begun, title_bytes_on, title_bytes_all     and of their bytes
use Rattle.std.proofs.Common.{◌≡◌, ℕ, suc, ◌+◌, ◌-◌, ◌*◌, ◌<◌, ◌≤◌, Bool, true, false, List, [], ◌∷◌, ◌++◌, length, get_or, take, drop, Option, Some, None}
use Rattle.std.proofs.Common.{refl, sym, ap, subst, ◌∙◌, arith, length-take, length-drop, drop-drop}
use Rattle.std.specs.Str.{is_utf8}
use Rattle.std.proofs.lemmas.Bool.{eqb-true}
use Rattle.std.proofs.lemmas.Option.{unwrap_or-slice_get}
use Rattle.std.proofs.lemmas.List.{append-nil, append_assoc, get_or_default}
use Rattle.cs_base.specs.outside.Outside.{part}
use Rattle.cs_model.proofs.FirstLemmas.{unless_none}
use Rattle.cs_model.specs.First.{unless, first_reason}
use Rattle.cs_model_index.specs.FileRules.{laid, break_of, is_onward, tried}
use Rattle.cs_model_index.specs.Layout.{Header}
use Rattle.cs_model_index.specs.Sections.{number_at, numbers_in, header_of, contents_of, offsets_len, offsets_at, titles_at, titles_in}
use Rattle.cs_model_index.specs.declared.limits.TheConstants.{HEADER_BYTES, NUMBER_BYTES}
use Rattle.cs_model_index.proofs.NumbersLemmas.{numbers_count}
use Rattle.cs_file.specs.declared.fault.OpenFault.{OpenFault}
use Rattle.cs_file.specs.Opening.{AreBytes, Refuses, IsHeaderOf, HasOffsets, bad_offset, bad_title, offsets_of, file_titles, titles_stage}
use Rattle.cs_file.proofs.BytesLemmas.{no_bytes, more_bytes, bytes_at}
use Rattle.cs_file.proofs.LaidLemmas.{Rest, rest_start, rest_on, rest_broken, rest_end, all_hold, held_anywhere}
use Rattle.cs_file.proofs.OffsetsLemmas.{onward_zero, onward_next, onward_end, title_at_index}
use Rattle.cs_file.proofs.StagesLemmas.{or_parts, refuses_at, tried_none}
use Rattle.cs_file.proofs.TitlesLemmas.{titles_start, within_part, titles_count}

-- ---- numbers
first_number : (k at : ℕ) (bytes : List ℕ) → numbers_in (suc k) (drop at bytes) ≡ number_at bytes at ∷ numbers_in k (drop (at + 4) bytes)
unfolding numbers_in number_at
first_number k at bytes = ap (λ (x : List ℕ). number_at bytes at ∷ numbers_in k x) (drop-drop 4 at bytes)

pub numbers_on : (bytes : List ℕ) (count i x : ℕ) (ns now : List ℕ) → i < count → x ≡ number_at bytes (4 * i) → now ≡ ns ++ x ∷ []
    → ns ++ numbers_in (count - i) (drop (4 * i) bytes) ≡ numbers_in count bytes
    → now ++ numbers_in (count - (i + 1)) (drop (4 * (i + 1)) bytes) ≡ numbers_in count bytes
numbers_on bytes count i x ns now lt is added h =
    let left : count - i ≡ suc (count - (i + 1)) = omega arith in
    let next : 4 * i + 4 ≡ 4 * (i + 1) = omega arith in
    let rest = numbers_in (count - (i + 1)) (drop (4 * (i + 1)) bytes) in
    let here : numbers_in (count - i) (drop (4 * i) bytes) ≡ x ∷ rest =
    ap (λ (k : ℕ). numbers_in k (drop (4 * i) bytes)) left ∙ first_number (count - (i + 1)) (4 * i) bytes
    ∙ ap (λ (y : ℕ). y ∷ numbers_in (count - (i + 1)) (drop (4 * i + 4) bytes)) (sym is)
    ∙ ap (λ (n : ℕ). x ∷ numbers_in (count - (i + 1)) (drop n bytes)) next in
    ap (λ (y : List ℕ). y ++ rest) added ∙ append_assoc ns (x ∷ []) rest ∙ ap (λ (y : List ℕ). ns ++ y) (sym here) ∙ h

no_numbers : (bytes : List ℕ) → numbers_in 0 bytes ≡ []
unfolding numbers_in
no_numbers bytes = refl

pub numbers_end : (bytes : List ℕ) (count i : ℕ) (ns : List ℕ) → count ≤ i → ns ++ numbers_in (count - i) (drop (4 * i) bytes) ≡ numbers_in count bytes
    → ns ≡ numbers_in count bytes
numbers_end bytes count i ns le h =
    let none : count - i ≡ 0 = omega arith in
    sym (append-nil ns) ∙ ap (λ (x : List ℕ). ns ++ x) (sym (no_numbers (drop (4 * i) bytes)))
    ∙ ap (λ (k : ℕ). ns ++ numbers_in k (drop (4 * i) bytes)) (sym none) ∙ h

-- ---- the stage
own_stage : (b : List ℕ) → titles_stage b ≡ first_reason (tried 8 (bad_offset (header_of b) (offsets_of b)) ∷ tried 9 (bad_title b) ∷ [])
unfolding titles_stage bad_offset bad_title offsets_of file_titles
own_stage b = refl

pub titles_is : (b : List ℕ) (h : Header) (os : List ℕ) → IsHeaderOf b h → os ≡ offsets_of b
    → titles_stage b ≡ first_reason (tried 8 (bad_offset h os) ∷ tried 9 (bad_title b) ∷ [])
titles_is b h os is at =
    own_stage b ∙ ap (λ (x : Header). first_reason (tried 8 (bad_offset x (offsets_of b)) ∷ tried 9 (bad_title b) ∷ [])) is.numbers
    ∙ ap (λ (x : List ℕ). first_reason (tried 8 (bad_offset h x) ∷ tried 9 (bad_title b) ∷ [])) (sym at)

own_offsets : (b : List ℕ) → offsets_of b ≡ numbers_in ((header_of b).docs + 1) (part b (offsets_at (header_of b)) (offsets_len (header_of b)))
unfolding offsets_of
own_offsets b = ap (λ (x : List ℕ). numbers_in ((header_of b).docs + 1) (take (offsets_len (header_of b)) x))
    (drop-drop (header_of b).vocabulary_len HEADER_BYTES b)

pub offsets_are : (b : List ℕ) (h : Header) (bytes : List ℕ) → IsHeaderOf b h → bytes ≡ part b (offsets_at h) (offsets_len h)
    → numbers_in (h.docs + 1) bytes ≡ offsets_of b
offsets_are b h bytes is at = sym (own_offsets b ∙ ap (λ (x : Header). numbers_in (x.docs + 1) (part b (offsets_at x) (offsets_len x))) is.numbers
    ∙ ap (numbers_in (h.docs + 1)) (sym at))

pub has_offsets : (h : Header) (os bytes : List ℕ) → os ≡ numbers_in (h.docs + 1) bytes → tried 8 (bad_offset h os) ≡ None → HasOffsets h os
unfolding bad_offset
has_offsets h os bytes is fine =
    let p = or_parts _ _ (tried_none 8 _ fine) in
    record {
      count = ap length is ∙ numbers_count (h.docs + 1) bytes;
      onward = held_anywhere is_onward (λ o. NUMBER_BYTES) (λ o. NUMBER_BYTES) 0 (offsets_at h) None os
          ∙ all_hold (λ i. is_onward i.last i.value) (laid (λ o. NUMBER_BYTES) (offsets_at h) None os) p.0;
      end = eqb-true _ _ (unless_none _ _ p.1);
    }

-- ---- titles
own_titles : (b : List ℕ) → file_titles b ≡ titles_in (offsets_of b) (contents_of b).bytes.titles
unfolding file_titles offsets_of
own_titles b = refl

own_bad : (b : List ℕ) → bad_title b ≡ break_of (λ i. is_utf8 i.value) (laid (λ t. length t) (titles_at (header_of b)) None (file_titles b))
unfolding bad_title
own_bad b = refl

pub bad_is : (b : List ℕ) (h : Header) → IsHeaderOf b h
    → bad_title b ≡ break_of (λ i. is_utf8 i.value) (laid (λ t. length t) (titles_at h) None (file_titles b))
bad_is b h is = own_bad b ∙ ap (λ (x : Header). break_of (λ i. is_utf8 i.value) (laid (λ t. length t) (titles_at x) None (file_titles b))) is.numbers

-- title d, from `at` on
pub record TitleTold (b : List ℕ) (h : Header) (os : List ℕ) (d : ℕ) : Type 0 where
  pub known : d < length (file_titles b)
  pub title : get_or (file_titles b) d [] ≡ part b (titles_at h + get_or os d 0) (get_or os (d + 1) 0 - get_or os d 0)
  pub within : titles_at h + get_or os d 0 + (get_or os (d + 1) 0 - get_or os d 0) ≤ length b
  pub len : length (get_or (file_titles b) d []) ≡ get_or os (d + 1) 0 - get_or os d 0

-- where title d begins and ends among the titles
pub record TitleLies (h : Header) (os : List ℕ) (d : ℕ) : Type 0 where
  pub known : suc d < length os
  pub onward : get_or os d 0 ≤ get_or os (d + 1) 0
  pub end : get_or os (d + 1) 0 ≤ h.titles_len

pub title_lies : (h : Header) (os : List ℕ) (d : ℕ) → HasOffsets h os → d < h.docs → TitleLies h os d
title_lies h os d ruled lt =
    let count = ruled.count in
    let end = ruled.end in
    let known : suc d < length os = omega (arith, count) in
    let one : d + 1 ≡ suc d = omega arith in
    let last = onward_end 0 None os (suc d) ruled.onward known in
    record { known = known; onward = rw one (onward_next 0 None os d ruled.onward known); end = rw one (omega (arith, last, end)) }

pub title_told : (b : List ℕ) (h : Header) (os : List ℕ) (d : ℕ) → IsHeaderOf b h → os ≡ offsets_of b → HasOffsets h os → d < h.docs → TitleTold b h os d
title_told b h os d is at ruled lt =
    let lies = title_lies h os d ruled lt in
    let known = lies.known in
    let up = lies.onward in
    let end = lies.end in
    let from = get_or os d 0 in
    let n = get_or os (d + 1) 0 - from in
    let one : d + 1 ≡ suc d = omega arith in
    let bytes = (contents_of b).bytes.titles in
    let own : file_titles b ≡ titles_in os bytes = own_titles b ∙ ap (λ (x : List ℕ). titles_in x bytes) (sym at) in
    let start : bytes ≡ take h.titles_len (drop (titles_at h) b) = titles_start b ∙ ap (λ (x : Header). take x.titles_len (drop (titles_at x) b)) is.numbers in
    let title : get_or (file_titles b) d [] ≡ part b (titles_at h + from) n =
    ap (λ (ts : List (List ℕ)). get_or ts d []) own ∙ title_at_index os bytes d known ∙ ap (λ (k : ℕ). take (get_or os k 0 - from) (drop from bytes)) (sym one)
    ∙ ap (λ (x : List ℕ). take n (drop from x)) start ∙ within_part n from (titles_at h) h.titles_len b (omega (arith, up, end)) in
    let size = is.size in
    let within : titles_at h + from + n ≤ length b = omega (arith, up, end, size) in
    record {
      known = omega (arith, ap length own, titles_count os bytes, known);
      title = title;
      within = within;
      len = ap length title ∙ omega (arith, within, length-take n (drop (titles_at h + from) b), length-drop (titles_at h + from) b);
    }

abbrev pub RestOfTitles : List ℕ → Header → List ℕ → ℕ → Type 0
RestOfTitles b h os d = Rest (λ i. is_utf8 i.value) (λ t. length t) (titles_at h) (file_titles b) d (titles_at h + get_or os d 0)

pub titles_begun : (b : List ℕ) (h : Header) (os : List ℕ) → HasOffsets h os → RestOfTitles b h os 0
titles_begun b h os ruled =
    let count = ruled.count in
    let zero_is : get_or os 0 0 ≡ 0 = onward_zero 0 os ruled.onward (omega (arith, count)) in
    let first : titles_at h ≡ titles_at h + get_or os 0 0 = omega (arith, zero_is) in
    subst (λ (n : ℕ). Rest (λ i. is_utf8 i.value) (λ t. length t) (titles_at h) (file_titles b) 0 n) first
    (rest_start (λ i. is_utf8 i.value) (λ t. length t) (titles_at h) (file_titles b))

pub titles_on : (b : List ℕ) (h : Header) (os : List ℕ) (d at : ℕ) → TitleLies h os d → TitleTold b h os d
    → tried 9 (unless (is_utf8 (part b (titles_at h + get_or os d 0) (get_or os (d + 1) 0 - get_or os d 0))) at) ≡ None → RestOfTitles b h os d
    → RestOfTitles b h os (d + 1)
titles_on b h os d at lies told fine h' =
    let t = get_or (file_titles b) d [] in
    let up = lies.onward in
    let len = told.len in
    let next : titles_at h + get_or os (d + 1) 0 ≡ titles_at h + get_or os d 0 + length t = omega (arith, up, len) in
    rest_on (λ i. is_utf8 i.value) (λ t. length t) (titles_at h) (file_titles b) d (titles_at h + get_or os d 0) (titles_at h + get_or os (d + 1) 0) t
    told.known (get_or_default (file_titles b) d [] t told.known) next
    (ap is_utf8 told.title ∙ unless_none _ _ (tried_none 9 _ fine)) h'

refused_by : (u : Bool) (at there : ℕ) (o : Option ℕ) (e : OpenFault) → at ≡ there → (u ≡ false → Some there ≡ o) → Refuses (tried 9 (unless u at)) e
    → Refuses (tried 9 o) e
refused_by true at there o e same f h = refuses_at None (tried 9 o) e (λ x s. absurd cc) h
refused_by false at there o e same f h = subst (λ (x : Option ℕ). Refuses (tried 9 x) e) (ap Some same ∙ f refl) h

pub title_refused : (b : List ℕ) (h : Header) (os : List ℕ) (d at : ℕ) (e : OpenFault) → IsHeaderOf b h → TitleTold b h os d
    → at ≡ titles_at h + get_or os d 0 → RestOfTitles b h os d
    → Refuses (tried 9 (unless (is_utf8 (part b (titles_at h + get_or os d 0) (get_or os (d + 1) 0 - get_or os d 0))) at)) e → Refuses (tried 9 (bad_title b)) e
title_refused b h os d at e is told same rest refused =
    let t = get_or (file_titles b) d [] in
    refused_by (is_utf8 (part b (titles_at h + get_or os d 0) (get_or os (d + 1) 0 - get_or os d 0))) at (titles_at h + get_or os d 0) (bad_title b) e same
    (λ no. rest_broken (λ i. is_utf8 i.value) (λ t. length t) (titles_at h) (file_titles b) d (titles_at h + get_or os d 0) t told.known
    (get_or_default (file_titles b) d [] t told.known) (ap is_utf8 told.title ∙ no) rest ∙ sym (bad_is b h is)) refused

pub titles_done : (b : List ℕ) (h : Header) (os : List ℕ) (d : ℕ) → IsHeaderOf b h → os ≡ offsets_of b → HasOffsets h os → h.docs ≤ d → RestOfTitles b h os d
    → tried 9 (bad_title b) ≡ None
titles_done b h os d is at ruled le rest =
    let own : file_titles b ≡ titles_in os (contents_of b).bytes.titles = own_titles b
    ∙ ap (λ (x : List ℕ). titles_in x (contents_of b).bytes.titles) (sym at) in
    let count = ruled.count in
    let past : length (file_titles b) ≤ d = omega (arith, ap length own, titles_count os (contents_of b).bytes.titles, count) in
    ap (tried 9) (bad_is b h is ∙ sym (rest_end (λ i. is_utf8 i.value) (λ t. length t) (titles_at h) (file_titles b) d (titles_at h + get_or os d 0) past rest))

-- ---- the bytes of the titles
pub title_bytes_begun : (b : List ℕ) (h : Header) (os : List ℕ) → HasOffsets h os → AreBytes b (titles_at h) (get_or os 0 0)
title_bytes_begun b h os ruled =
    let count = ruled.count in
    let none : get_or os 0 0 ≡ 0 = onward_zero 0 os ruled.onward (omega (arith, count)) in
    bytes_at b (titles_at h) (titles_at h) 0 (get_or os 0 0) refl (sym none) (no_bytes b (titles_at h))

pub title_bytes_on : (b : List ℕ) (h : Header) (os : List ℕ) (d at : ℕ) → TitleLies h os d → at ≡ titles_at h + get_or os d 0
    → AreBytes b (titles_at h) (get_or os d 0) → AreBytes b at (get_or os (d + 1) 0 - get_or os d 0) → AreBytes b (titles_at h) (get_or os (d + 1) 0)
title_bytes_on b h os d at lies is first rest =
    let up = lies.onward in
    let n = get_or os (d + 1) 0 - get_or os d 0 in
    let sum : get_or os d 0 + n ≡ get_or os (d + 1) 0 = omega (arith, up) in
    bytes_at b (titles_at h) (titles_at h) (get_or os d 0 + n) (get_or os (d + 1) 0) refl sum
    (more_bytes b (titles_at h) (get_or os d 0) n first (bytes_at b at (titles_at h + get_or os d 0) n n is refl rest))

pub title_bytes_all : (b : List ℕ) (h : Header) (os : List ℕ) (d : ℕ) → HasOffsets h os → d ≡ h.docs → AreBytes b (titles_at h) (get_or os d 0)
    → AreBytes b (titles_at h) h.titles_len
title_bytes_all b h os d ruled done small =
    let count = ruled.count in
    let last : length os - 1 ≡ d = omega (arith, count, done) in
    let end : get_or os d 0 ≡ h.titles_len = ap (λ (n : ℕ). get_or os n 0) (sym last) ∙ sym (unwrap_or-slice_get os (length os - 1) 0) ∙ ruled.end in
    bytes_at b (titles_at h) (titles_at h) (get_or os d 0) h.titles_len refl end small
