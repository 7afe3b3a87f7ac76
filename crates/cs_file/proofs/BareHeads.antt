-- Heads, whatever their bounds are: rules 10 to 17 don't ask for these.
--
--   bare_by            heads with the bounds of rows are the same heads
--   named_bare         and so are those that the entries of a directory name
--   own_heads          the heads that are read are the named ones with the bounds of the rows
--   judged_alike       rules 10 to 12 say the same of the same heads
--   has_alike          and so does what they leave
--   named_parts, heads_ruled     the heads of parts, and what the rules leave of them
use Rattle.std.proofs.Common.{◌≡◌, ℕ, zero, suc, ◌+◌, ◌-◌, ◌&&◌, ◌==◌, Bool, cond, List, [], ◌∷◌, length, take, drop, map, Option, Some, None, refl, sym, ap, subst, ◌∙◌}
use Rattle.std.specs.Prelude.{All}
use Rattle.std.specs.List.{list_all, slice_get, sum_by}
use Rattle.std.specs.Option.{option_map, option_or}
use Rattle.std.proofs.lemmas.List.{length-map}
use Rattle.std.proofs.lemmas.List.Elements.{All-map, All-from_recursion, recursion_from_All}
use Rattle.std.proofs.lemmas.List.Folds.{list_all-map}
use Rattle.std.proofs.lemmas.List.Sums.{sum_by-cons}
use Rattle.std.proofs.lemmas.Option.{slice_get-map}
use Rattle.std.specs.List.{AllByRecursion}
use Rattle.cs_base.specs.declared.index.block.BlockHead.{BlockHead}
use Rattle.cs_model.specs.First.{first_reason, unless}
use Rattle.cs_model_index.specs.BlockBounds.{bounded}
use Rattle.cs_model_index.specs.BlockRules.{rows_read}
use Rattle.cs_model_index.specs.FileRules.{Placed, break_of, is_joined, is_of_one_kind, is_sized, laid, last_value, tried, words_end}
use Rattle.cs_model_index.specs.Layout.{Header, entry_size}
use Rattle.cs_model_index.specs.Numbered.{word_at}
use Rattle.cs_model_index.specs.Partitions.{is_facet}
use Rattle.cs_model_index.specs.Sections.{blocks_at, contents_of, directory_at, header_of, head_in, heads_by, heads_in}
use Rattle.cs_model_index.specs.declared.limits.TheConstants.{ENTRY_BYTES}
use Rattle.cs_file.specs.Opening.{HasHeads, bad_joint, bad_size, directory_judged, file_words, heads_of, named_heads, named_in}
use Rattle.cs_file.specs.Parting.{bare}
use Rattle.cs_file.specs.declared.part.BlockPart.{BlockPart}
use Rattle.cs_file.proofs.LaidLemmas.{break_cons}

-- ---- heads and their bounds
pub bare_by : (hs : List BlockHead) (bytes : List ℕ) → map bare (heads_by hs bytes) ≡ map bare hs
unfolding heads_by
bare_by [] bytes = refl
bare_by (h ∷ hs) bytes = ap (λ (x : List BlockHead). bare h ∷ x) (bare_by hs (drop h.len bytes))

by_bare : (hs : List BlockHead) (bytes : List ℕ) → heads_by (map bare hs) bytes ≡ heads_by hs bytes
unfolding heads_by rows_read
by_bare [] bytes = refl
by_bare (h ∷ hs) bytes = ap (λ (x : List BlockHead). bounded h (rows_read h (take h.len bytes)) ∷ x) (by_bare hs (drop h.len bytes))

pub named_bare : (two : Bool) (ws : List (List ℕ)) (k : ℕ) (bytes : List ℕ) → map bare (named_in two ws k bytes) ≡ heads_in (entry_size two) ws k bytes
unfolding named_in heads_in
named_bare two ws zero bytes = refl
named_bare two ws (suc k) bytes = ap (λ (x : List BlockHead). head_in ws bytes ∷ x) (named_bare two ws k (drop (entry_size two) bytes))

pub own_heads : (b : List ℕ) → heads_of b ≡ heads_by (named_heads b) (contents_of b).bytes.blocks
unfolding heads_of named_heads file_words
own_heads b =
    let h = header_of b in
    let blocks = (contents_of b).bytes.blocks in
    ap (λ (x : List BlockHead). heads_by x blocks) (sym (named_bare h.two (contents_of b).words h.blocks (contents_of b).bytes.directory))
    ∙ by_bare (named_in h.two (contents_of b).words h.blocks (contents_of b).bytes.directory) blocks

-- ---- tests that don't ask for bounds
-- of a head and of the one before it
abbrev Asks : (Option BlockHead → BlockHead → Bool) → Type 0
Asks holds = (last : Option BlockHead) (h : BlockHead) → holds (option_map bare last) (bare h) ≡ holds last h

breaks_bare : (holds : Option BlockHead → BlockHead → Bool) → Asks holds → (e at : ℕ) (last : Option BlockHead) (hs : List BlockHead)
    → break_of (λ i. holds i.last i.value) (laid (λ x. e) at (option_map bare last) (map bare hs)) ≡ break_of (λ i. holds i.last i.value) (laid (λ x. e) at last hs)
unfolding laid break_of
breaks_bare holds same e at last [] = refl
breaks_bare holds same e at last (h ∷ hs) =
    let test : Placed BlockHead → Bool = λ i. holds i.last i.value in
    break_cons test (record { value = bare h; last = option_map bare last; next = slice_get (map bare hs) 0; at = at }) (laid (λ x. e) (at + e) (Some (bare h)) (map bare hs))
    ∙ ap (λ (b : Bool). cond b (break_of test (laid (λ x. e) (at + e) (Some (bare h)) (map bare hs))) (Some at)) (same last h)
    ∙ ap (λ (o : Option ℕ). cond (holds last h) o (Some at)) (breaks_bare holds same e (at + e) (Some h) hs)
    ∙ sym (break_cons test (record { value = h; last = last; next = slice_get hs 0; at = at }) (laid (λ x. e) (at + e) (Some h) hs))

all_bare : (holds : Option BlockHead → BlockHead → Bool) → Asks holds → (e at : ℕ) (last : Option BlockHead) (hs : List BlockHead)
    → list_all (λ i. holds i.last i.value) (laid (λ x. e) at (option_map bare last) (map bare hs)) ≡ list_all (λ i. holds i.last i.value) (laid (λ x. e) at last hs)
unfolding laid
all_bare holds same e at last [] = refl
all_bare holds same e at last (h ∷ hs) =
    let test : Placed BlockHead → Bool = λ i. holds i.last i.value in
    ap (λ (b : Bool). b && list_all test (laid (λ x. e) (at + e) (Some (bare h)) (map bare hs))) (same last h)
    ∙ ap (λ (b : Bool). holds last h && b) (all_bare holds same e (at + e) (Some h) hs)

joined_asks : Asks is_joined
joined_asks None h = refl
joined_asks (Some g) h = refl

end_bare : (hs : List BlockHead) → words_end (last_value (map bare hs)) ≡ words_end (last_value hs)
end_bare hs =
    ap (λ (n : ℕ). words_end (slice_get (map bare hs) (n - 1))) (length-map hs bare) ∙ ap words_end (slice_get-map bare hs (length hs - 1))
    ∙ one (slice_get hs (length hs - 1))
  where
    one : (o : Option BlockHead) → words_end (option_map bare o) ≡ words_end o
    one None = refl
    one (Some h) = refl

sum_bare : (f : BlockHead → ℕ) → ((h : BlockHead) → f (bare h) ≡ f h) → (hs : List BlockHead) → sum_by f (map bare hs) ≡ sum_by f hs
sum_bare f same [] = refl
sum_bare f same (h ∷ hs) =
    sum_by-cons f (bare h) (map bare hs) ∙ ap (λ (n : ℕ). n + sum_by f (map bare hs)) (same h) ∙ ap (λ (n : ℕ). f h + n) (sum_bare f same hs) ∙ sym (sum_by-cons f h hs)

rows_bare : (hs : List BlockHead) → sum_by (λ h. h.rows) (map bare hs) ≡ sum_by (λ h. h.rows) hs
rows_bare hs = sum_bare (λ h. h.rows) (λ h. refl) hs

pub lens_bare : (hs : List BlockHead) → sum_by (λ h. h.len) (map bare hs) ≡ sum_by (λ h. h.len) hs
lens_bare hs = sum_bare (λ h. h.len) (λ h. refl) hs

-- ---- rules 10 to 12
joint_bare : (h : Header) (hs : List BlockHead) → bad_joint h (map bare hs) ≡ bad_joint h hs
unfolding bad_joint
joint_bare h hs =
    ap (λ (o : Option ℕ). option_or o (unless (words_end (last_value (map bare hs)) == h.words) (blocks_at h))) (breaks_bare is_joined joined_asks (entry_size h.two) (directory_at h) None hs)
    ∙ ap (λ (n : ℕ). option_or (break_of (λ i. is_joined i.last i.value) (laid (λ x. entry_size h.two) (directory_at h) None hs)) (unless (n == h.words) (blocks_at h))) (end_bare hs)

size_bare : (h : Header) (hs : List BlockHead) → bad_size h (map bare hs) ≡ bad_size h hs
unfolding bad_size
size_bare h hs =
    let found = break_of (λ i. is_sized i.value) (laid (λ x. entry_size h.two) (directory_at h) None hs) in
    ap (λ (o : Option ℕ). option_or o (unless (sum_by (λ h. h.rows) (map bare hs) == h.rows && sum_by (λ h. h.len) (map bare hs) == h.blocks_len) (blocks_at h)))
    (breaks_bare (λ last h. is_sized h) (λ last h. refl) (entry_size h.two) (directory_at h) None hs)
    ∙ ap (λ (n : ℕ). option_or found (unless (n == h.rows && sum_by (λ h. h.len) (map bare hs) == h.blocks_len) (blocks_at h))) (rows_bare hs)
    ∙ ap (λ (n : ℕ). option_or found (unless (sum_by (λ h. h.rows) hs == h.rows && n == h.blocks_len) (blocks_at h))) (lens_bare hs)

judged_bare : (h : Header) (ws : List (List ℕ)) (hs : List BlockHead) → directory_judged h ws (map bare hs) ≡ directory_judged h ws hs
unfolding directory_judged
judged_bare h ws hs =
    let kinds : List BlockHead → Option ℕ = λ gs. break_of (λ i. is_of_one_kind ws i.value) (laid (λ x. entry_size h.two) (directory_at h) None gs) in
    ap (λ (o : Option ℕ). first_reason (tried 10 o ∷ tried 11 (kinds (map bare hs)) ∷ tried 12 (bad_size h (map bare hs)) ∷ [])) (joint_bare h hs)
    ∙ ap (λ (o : Option ℕ). first_reason (tried 10 (bad_joint h hs) ∷ tried 11 o ∷ tried 12 (bad_size h (map bare hs)) ∷ []))
    (breaks_bare (λ last g. is_of_one_kind ws g) (λ last g. refl) (entry_size h.two) (directory_at h) None hs)
    ∙ ap (λ (o : Option ℕ). first_reason (tried 10 (bad_joint h hs) ∷ tried 11 (kinds hs) ∷ tried 12 o ∷ [])) (size_bare h hs)

pub judged_alike : (h : Header) (ws : List (List ℕ)) (hs gs : List BlockHead) → map bare hs ≡ map bare gs → directory_judged h ws hs ≡ directory_judged h ws gs
judged_alike h ws hs gs same = sym (judged_bare h ws hs) ∙ ap (directory_judged h ws) same ∙ judged_bare h ws gs

-- ---- what they leave
pub count_alike : (hs gs : List BlockHead) → map bare hs ≡ map bare gs → length hs ≡ length gs
count_alike hs gs same = sym (length-map hs bare) ∙ ap length same ∙ length-map gs bare

abbrev IsOfKind : List (List ℕ) → BlockHead → Type 0
IsOfKind ws h = h.facet ≡ is_facet (word_at ws h.lo)

kinds_of_bare : (ws : List (List ℕ)) (hs : List BlockHead) → AllByRecursion (IsOfKind ws) (map bare hs) → AllByRecursion (IsOfKind ws) hs
kinds_of_bare ws [] all = tt
kinds_of_bare ws (h ∷ hs) all = (all.0, kinds_of_bare ws hs all.1)

facets_alike : (ws : List (List ℕ)) (hs gs : List BlockHead) → map bare hs ≡ map bare gs → All (IsOfKind ws) gs → All (IsOfKind ws) hs
facets_alike ws hs gs same all =
    let bares : All (IsOfKind ws) (map bare gs) = All-map (IsOfKind ws) bare gs all in
    All-from_recursion (IsOfKind ws) hs (kinds_of_bare ws hs (recursion_from_All (IsOfKind ws) (map bare hs) (subst (All (IsOfKind ws)) (sym same) bares)))

pub has_alike : (h : Header) (ws : List (List ℕ)) (hs gs : List BlockHead) → map bare hs ≡ map bare gs → HasHeads h ws gs → HasHeads h ws hs
has_alike h ws hs gs same is = record {
  count = count_alike hs gs same ∙ is.count;
  joined = sym (all_bare is_joined joined_asks ENTRY_BYTES 0 None hs)
      ∙ ap (λ (x : List BlockHead). list_all (λ i. is_joined i.last i.value) (laid (λ g. ENTRY_BYTES) 0 None x)) same ∙ all_bare is_joined joined_asks ENTRY_BYTES 0 None gs ∙ is.joined;
  end = sym (end_bare hs) ∙ ap (λ (x : List BlockHead). words_end (last_value x)) same ∙ end_bare gs ∙ is.end;
  kinds = sym (list_all-map (is_of_one_kind ws) bare hs) ∙ ap (list_all (is_of_one_kind ws)) same ∙ list_all-map (is_of_one_kind ws) bare gs ∙ is.kinds;
  facets = facets_alike ws hs gs same is.facets;
  sized = sym (list_all-map is_sized bare hs) ∙ ap (list_all is_sized) same ∙ list_all-map is_sized bare gs ∙ is.sized;
  rows = sym (rows_bare hs) ∙ ap (sum_by (λ g. g.rows)) same ∙ rows_bare gs ∙ is.rows;
  bytes = sym (lens_bare hs) ∙ ap (sum_by (λ g. g.len)) same ∙ lens_bare gs ∙ is.bytes;
}

-- ---- the heads of parts
pub named_parts : (named : List BlockHead) (parts : List BlockPart) → map (λ p. bare p.head) parts ≡ map bare named → length named ≡ length parts
named_parts named parts same = sym (length-map named bare) ∙ ap length (sym same) ∙ length-map parts (λ p. bare p.head)

pub heads_ruled : (h : Header) (ws : List (List ℕ)) (named : List BlockHead) (parts : List BlockPart) (heads : List BlockHead)
    → map (λ p. bare p.head) parts ≡ map bare named → heads ≡ map (λ p. p.head) parts → HasHeads h ws named → HasHeads h ws heads
heads_ruled h ws named parts heads same are is = has_alike h ws heads named (ap (map bare) are ∙ over parts ∙ same) is
  where
    over : (parts : List BlockPart) → map bare (map (λ p. p.head) parts) ≡ map (λ p. bare p.head) parts
    over [] = refl
    over (p ∷ parts) = ap (λ (x : List BlockHead). bare p.head ∷ x) (over parts)
