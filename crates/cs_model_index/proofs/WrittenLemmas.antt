-- The file of an image that can be written is an index file, of which the image is read.
--
--   header_again      the numbers of a header
--   rules_kept        where each rule holds, none is broken
--   image_contents     what is to be read of an image's file
--   IsWritable        an image whose numbers have room, and which keeps the rules
--   file_again        what is read of the file, its rules and its image
use Rattle.std.proofs.Common.{◌≡◌, ℕ, ◌+◌, ◌*◌, ◌<◌, ◌^◌, Bool, true, List, [], ◌∷◌, ◌++◌, length, take, drop, Option, None, refl, sym, ap, subst, ◌∙◌, arith, length-append, ◌||◌, false, if◌then◌else◌, map}
use Rattle.std.specs.Prelude.{flat_map}
use Rattle.std.specs.List.{AllByRecursion}
use Rattle.std.specs.Option.{option_or}
use Rattle.std.specs.Str.{bytes_eq, is_utf8}
use Rattle.cs_base.specs.declared.index.block.Broken.{Broken}
use Rattle.std.proofs.lemmas.Bool.{and_from, le-leb, eq-eqb}
use Rattle.std.proofs.lemmas.Nat.{from_be_bytes-to_be_bytes_4}
use Rattle.cs_base.specs.declared.index.block.BlockHead.{BlockHead}
use Rattle.cs_model.specs.First.{unless, first_reason}
use Rattle.cs_model_index.specs.BlockLaws.{OneReading}
use Rattle.cs_model_index.specs.FileRules.{blocks_break, tried, field_breaks, is_word, follows, is_onward, is_joined, is_of_one_kind, is_sized, is_parted, file_rules, damage, IsIndexFile, is_bound}
use Rattle.cs_model_index.specs.Images.{Image}
use Rattle.cs_model_index.specs.Layout.{number_bytes, Header, MAGIC, MAGIC2, magic, entry_size, header_bytes, vocabulary_bytes, offsets_from, offset_bytes, title_bytes, directory_bytes, blocks_bytes, header_of_image, file_in}
use Rattle.cs_model_index.specs.Sections.{number_at, header_of, vocabulary_at, blocks_at, size_by, Sections, sections, vocabulary_in, numbers_in, titles_in, heads_in, heads_by, bounds_in, blocks_in, Contents, contents_by, contents_of, image_of}
use Rattle.cs_model_index.specs.declared.limits.TheConstants.{HEADER_BYTES}
use Rattle.cs_model.specs.Weights.{AreWeights}
use Rattle.cs_model_index.specs.WeightsField.{weights_of}
use Rattle.cs_model_index.proofs.WeightsFieldLemmas.{field_small, weights_again}
use Rattle.cs_model_index.proofs.AcceptedLemmas.{FieldsHold, ValuesHold, RulesHold, joined_sections, same_header}
use Rattle.cs_model_index.proofs.AgainLemmas.{break_none, HasLength, words_again, numbers_again, titles_again, offsets_count, HeadFits, unbounded, heads_again, AreBlocks, blocks_again, sections_again}

-- ---- the header
pub record HasRoom (h : Header) : Type 0 where
  pub vocabulary : h.vocabulary_len < 2 ^ 32
  pub titles : h.titles_len < 2 ^ 32
  pub blocks : h.blocks_len < 2 ^ 32

two_again : (two : Bool) → bytes_eq (magic two) MAGIC2 ≡ two
two_again true = refl
two_again false = refl

known_magic : (two : Bool) → (bytes_eq (magic two) MAGIC || bytes_eq (magic two) MAGIC2) ≡ true
known_magic true = refl
known_magic false = refl

pub header_again : (h : Header) (rest : List ℕ) → FieldsHold h → HasRoom h → header_of (header_bytes h ++ rest) ≡ h
unfolding header_bytes number_at
header_again h rest f room =
    let d = f.docs in let w = f.words in let r = f.rows in let b = f.blocks in let t = f.target_to in
    let weights : h.weights < 2 ^ 32 = field_small h.weights f.weights in
    same_header h _ _ _ _ _ _ _ _ _ _ (two_again h.two)
    (from_be_bytes-to_be_bytes_4 h.docs (omega (arith, d))) (from_be_bytes-to_be_bytes_4 h.words (omega (arith, w))) (from_be_bytes-to_be_bytes_4 h.rows (omega (arith, r))) (from_be_bytes-to_be_bytes_4 h.blocks (omega (arith, w, b)))
    (from_be_bytes-to_be_bytes_4 h.target (omega (arith, t))) (from_be_bytes-to_be_bytes_4 h.vocabulary_len room.vocabulary) (from_be_bytes-to_be_bytes_4 h.titles_len room.titles) (from_be_bytes-to_be_bytes_4 h.blocks_len room.blocks)
    (from_be_bytes-to_be_bytes_4 h.weights weights)

behind_header : (h : Header) (rest : List ℕ) → (drop HEADER_BYTES (header_bytes h ++ rest) ≡ rest) × (take 8 (header_bytes h ++ rest) ≡ magic h.two)
unfolding header_bytes
behind_header h rest = (refl, refl)

header_long : (h : Header) (rest : List ℕ) → length (header_bytes h ++ rest) ≡ HEADER_BYTES + length rest
unfolding header_bytes
header_long h rest = omega arith

-- ---- the rules
unless_holds : (b : Bool) (at : ℕ) → b ≡ true → unless b at ≡ None
unless_holds b at e = rw e refl

tried_holds : (n : ℕ) (o : Option ℕ) → o ≡ None → tried n o ≡ None
tried_holds n o e = rw e refl

or_none : (o p : Option ℕ) → o ≡ None → p ≡ None → option_or o p ≡ None
or_none o p a b = rw (a, b) refl

none_all : {R : Type 0} (rs : List (Option R)) → AllByRecursion (λ o. o ≡ None) rs → first_reason rs ≡ None
none_all [] h = refl
none_all (o ∷ rs) h = ap (λ x. first_reason (x ∷ rs)) h.0 ∙ none_all rs h.1

fields_kept : (h : Header) → FieldsHold h → first_reason (field_breaks h) ≡ None
fields_kept h f = none_all (field_breaks h) (
  unless_holds _ _ (le-leb _ _ f.docs),
  (
    unless_holds _ _ (le-leb _ _ f.words),
    (
      unless_holds _ _ (le-leb _ _ f.rows),
      (
        unless_holds _ _ (le-leb _ _ f.blocks),
        (
          unless_holds _ _ (and_from _ _ (le-leb _ _ f.target_from) (le-leb _ _ f.target_to)),
          (
            unless_holds _ _ f.weights,
            tt,
          ),
        ),
      ),
    ),
  ),
)

bound_holds : (two : Bool) (o : Option Broken) → (two ≡ true → o ≡ None) → (if two then o else None) ≡ None
bound_holds true o h = h refl
bound_holds false o h = refl

pub rules_kept : (b : List ℕ) (r : Contents) → RulesHold b r → first_reason (file_rules b r) ≡ None
rules_kept b r h =
    let v = h.values in
    none_all (file_rules b r) (
      tried_holds 1 _ (unless_holds _ _ (le-leb _ _ h.long)),
      (
        tried_holds 2 _ (unless_holds _ _ h.first),
        (
          tried_holds 3 _ (fields_kept r.header v.fields),
          (
            tried_holds 4 _ (unless_holds _ _ (eq-eqb _ _ h.size)),
            (
              tried_holds 5 _ h.words_stand,
              (
                tried_holds 6 _ (break_none (λ i. is_word i.value) _ v.words),
                (
                  tried_holds 7 _ (break_none (λ i. follows i.last i.value) _ v.ascend),
                  (
                    tried_holds 8 _ (or_none _ _ (break_none (λ i. is_onward i.last i.value) _ v.onward) (unless_holds _ _ (eq-eqb _ _ v.last_offset))),
                    (
                      tried_holds 9 _ (break_none (λ i. is_utf8 i.value) _ v.texts),
                      (
                        tried_holds 10 _ (or_none _ _ (break_none (λ i. is_joined i.last i.value) _ v.joined) (unless_holds _ _ (eq-eqb _ _ v.end))),
                        (
                          tried_holds 11 _ (break_none (λ i. is_of_one_kind r.words i.value) _ v.kinds),
                          (
                            tried_holds 12 _ (or_none _ _ (break_none (λ i. is_sized i.value) _ v.sized) (unless_holds _ _ (and_from _ _ (eq-eqb _ _ v.rows_sum) (eq-eqb _ _ v.bytes_sum)))),
                            (
                              h.blocks,
                              (
                                tried_holds 18 _ (break_none (is_parted r.header.target r.words) _ v.parted),
                                (
                                  bound_holds r.header.two _ (λ e. tried_holds 19 _ (break_none (λ i. is_bound i.value) _ (v.bounds e))),
                                  tt,
                                ),
                              ),
                            ),
                          ),
                        ),
                      ),
                    ),
                  ),
                ),
              ),
            ),
          ),
        ),
      ),
    )

-- ---- the file
-- the sections of an image's file
abbrev image_sections : Bool → Image → Sections
image_sections two i = record { vocabulary = vocabulary_bytes i.words; offsets = offset_bytes i.titles; titles = title_bytes i.titles; directory = directory_bytes two i.heads; blocks = blocks_bytes i.heads i.blocks }

-- what is to be read of an image's file
abbrev pub image_contents : Bool → Image → Contents
image_contents two i = record {
  header = header_of_image two i;
  bytes = image_sections two i;
  words = i.words;
  offsets = offsets_from 0 i.titles;
  titles = i.titles;
  heads = i.heads;
  bounds = bounds_in (entry_size two) (length i.blocks) (directory_bytes two i.heads);
  blocks = i.blocks;
}

-- what is asked of an image that is written
pub record IsWritable (two : Bool) (i : Image) : Type 0 where
  pub weights : AreWeights i.weights
  pub room : HasRoom (header_of_image two i)
  pub lengths : AllByRecursion HasLength i.words
  pub offsets : AllByRecursion (λ n. n < 2 ^ 32) (offsets_from 0 i.titles)
  pub heads : AllByRecursion (HeadFits i.words) i.heads
  pub one_each : length i.heads ≡ length i.blocks
  pub blocks : AreBlocks i.weights (length i.titles) i.heads i.blocks
  pub values : ValuesHold (image_contents two i)

numbers_len : (ns : List ℕ) → length (flat_map number_bytes ns) ≡ 4 * length ns
numbers_len [] = refl
numbers_len (n ∷ ns) = let rest = numbers_len ns in omega (arith, rest)

entries_len : (two : Bool) (heads : List BlockHead) → length (directory_bytes two heads) ≡ entry_size two * length heads
unfolding directory_bytes entry_size
entries_len true [] = refl
entries_len true (h ∷ hs) = let rest = entries_len true hs in omega (arith, rest)
entries_len false [] = refl
entries_len false (h ∷ hs) = let rest = entries_len false hs in omega (arith, rest)

offsets_long : (titles : List (List ℕ)) → length (offset_bytes titles) ≡ 4 * (length titles + 1)
unfolding offset_bytes
offsets_long titles = numbers_len (offsets_from 0 titles) ∙ ap (λ (n : ℕ). 4 * n) (offsets_count 0 titles)

directory_long : (two : Bool) (i : Image) → IsWritable two i → length (directory_bytes two i.heads) ≡ entry_size two * length i.blocks
directory_long two i is = entries_len two i.heads ∙ ap (λ (n : ℕ). entry_size two * n) is.one_each

same_contents : (h h' : Header) (s s' : Sections) (w w' : List (List ℕ)) (o o' : List ℕ) (t t' : List (List ℕ)) (g g' : List _) (n n' : List (ℕ × ℕ)) (b b' : List _) → h ≡ h' → s ≡ s' → w ≡ w' → o ≡ o' → t ≡ t' → g ≡ g' → n ≡ n' → b ≡ b'
    → let x : Contents = record { header = h; bytes = s; words = w; offsets = o; titles = t; heads = g; bounds = n; blocks = b } in let y : Contents = record { header = h'; bytes = s'; words = w'; offsets = o'; titles = t'; heads = g'; bounds = n'; blocks = b' } in x ≡ y
same_contents h h' s s' w w' o o' t t' g g' n n' b b' p q r u v x z y = rw (p, q, r, u, v, x, z, y) refl

pub contents_again : OneReading → (two : Bool) (i : Image) → IsWritable two i → contents_of (file_in two i) ≡ image_contents two i
unfolding file_in offset_bytes
contents_again law two i is =
    let h = header_of_image two i in
    let p = image_sections two i in
    let rest = joined_sections p in
    let b = header_bytes h ++ rest in
    let head : header_of b ≡ h = header_again h rest is.values.fields is.room in
    let many : length (offsets_from 0 i.titles) ≡ length i.titles + 1 = offsets_count 0 i.titles in
    let cut : sections h rest ≡ p = sections_again h p.vocabulary p.offsets p.titles p.directory p.blocks refl (offsets_long i.titles) refl (directory_long two i is) in
    let words : vocabulary_in (length i.words) p.vocabulary ≡ i.words = (words_again vocabulary_at i.words is.lengths).1 in
    let offsets : numbers_in (length i.titles + 1) p.offsets ≡ offsets_from 0 i.titles = ap (λ (n : ℕ). numbers_in n p.offsets) (sym many) ∙ numbers_again (offsets_from 0 i.titles) is.offsets in
    let raw : heads_in (entry_size two) (vocabulary_in (length i.words) p.vocabulary) (length i.blocks) p.directory ≡ map unbounded i.heads =
    ap (λ (ws : List (List ℕ)). heads_in (entry_size two) ws (length i.blocks) p.directory) words ∙ ap (λ (n : ℕ). heads_in (entry_size two) i.words n p.directory) (sym is.one_each) ∙ heads_again two i.words i.heads is.heads in
    let f = is.values.fields in
    let few : length i.titles < 2 ^ 32 = omega (arith, f.docs) in
    let blocks = blocks_again law i.weights is.weights (length i.titles) (blocks_at h) i.heads i.blocks few is.blocks in
    let heads : heads_by (heads_in (entry_size two) (vocabulary_in (length i.words) p.vocabulary) (length i.blocks) p.directory) p.blocks ≡ i.heads = ap (λ (hs : List BlockHead). heads_by hs p.blocks) raw ∙ blocks.2 in
    ap (λ (y : List ℕ). contents_by (header_of b) (sections (header_of b) y)) (behind_header h rest).0
    ∙ ap (λ (k : Header). contents_by k (sections k rest)) head
    ∙ ap (contents_by h) cut
    ∙ same_contents h h p p _ _ _ _ _ _ _ _ _ _ _ _ refl refl words offsets (ap (λ (os : List ℕ). titles_in os p.titles) offsets ∙ titles_again i.titles) heads refl (ap (λ (hs : List BlockHead). blocks_in hs p.blocks) heads ∙ blocks.1)

-- the law, for images that can be written
pub file_again : OneReading → (two : Bool) (i : Image) → IsWritable two i → IsIndexFile (file_in two i) × (image_of (file_in two i) ≡ i)
unfolding file_in offset_bytes damage image_of
file_again law two i is =
    let h = header_of_image two i in
    let p = image_sections two i in
    let rest = joined_sections p in
    let b = header_bytes h ++ rest in
    let contents : contents_of b ≡ image_contents two i = contents_again law two i is in
    let f = is.values.fields in
    let few : length i.titles < 2 ^ 32 = omega (arith, f.docs) in
    let long : length b ≡ HEADER_BYTES + length rest = header_long h rest in
    let l1 = length-append p.vocabulary (p.offsets ++ (p.titles ++ (p.directory ++ p.blocks))) in
    let l2 = length-append p.offsets (p.titles ++ (p.directory ++ p.blocks)) in
    let l3 = length-append p.titles (p.directory ++ p.blocks) in
    let l4 = length-append p.directory p.blocks in
    let size : length b ≡ size_by h = omega (arith, offsets_long i.titles, directory_long two i is, long, l1, l2, l3, l4) in
    let hold : RulesHold b (image_contents two i) = record {
      long = omega (arith, long);
      first = ap (λ (m : List ℕ). bytes_eq m MAGIC || bytes_eq m MAGIC2) (behind_header h rest).1 ∙ known_magic two;
      size = size;
      words_stand = (words_again vocabulary_at i.words is.lengths).0;
      blocks = subst (λ s. blocks_break s (length i.titles) (blocks_at h) i.heads p.blocks ≡ None) (sym (weights_again i.weights is.weights)) (blocks_again law i.weights is.weights (length i.titles) (blocks_at h) i.heads i.blocks few is.blocks).0;
      values = is.values;
    } in (
      ap (λ (r : Contents). first_reason (file_rules b r)) contents ∙ rules_kept b (image_contents two i) hold,
      ap (λ (r : Contents). let j : Image = record { titles = r.titles; words = r.words; heads = r.heads; blocks = r.blocks; target = r.header.target; weights = weights_of r.header.weights } in j) contents ∙ ap (λ s. let j : Image = record { titles = i.titles; words = i.words; heads = i.heads; blocks = i.blocks; target = i.target; weights = s } in j) (weights_again i.weights is.weights),
    )
