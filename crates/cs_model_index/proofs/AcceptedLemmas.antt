-- Where no rule is broken, the bytes are the file of the image that is read of them.
--
--   ValuesHold, RulesHold       what each rule says, of what is read and of the bytes
--   rules_hold          they hold of an index file
--   header_written      the numbers of the header, written again
--   sections_joined     the sections are the bytes behind the header
--   IsSound, is_sound   its rules, and how long its sections are; so it is where no rule is broken
--   accepted_are_files  the law, by the law of blocks
use Rattle.std.proofs.Common.{◌≡◌, ℕ, ◌+◌, ◌-◌, ◌*◌, ◌≤◌, ◌<◌, ◌^◌, ◌||◌, Bool, true, false, true≢false, if◌then◌else◌, List, [], ◌∷◌, ◌++◌, length, take, drop, Option, Some, None, refl, sym, ap, ◌∙◌, arith, length-take, length-drop, take-append-drop}
use Rattle.std.specs.Prelude.{flat_map}
use Rattle.std.specs.List.{All, AllByRecursion, sum_by, zip}
use Rattle.std.specs.Option.{option_or, unwrap_or}
use Rattle.std.specs.Str.{bytes_eq, is_utf8}
use Rattle.cs_base.specs.declared.index.block.Broken.{Broken}
use Rattle.std.proofs.lemmas.Bool.{and_parts, leb-true, eqb-true}
use Rattle.std.proofs.lemmas.Slice.Eq.{bytes_eq-Decides}
use Rattle.cs_base.specs.declared.content.limits.TheConstants.{MAX_DOCS, MAX_WORDS, MAX_ROWS}
use Rattle.cs_model.proofs.FirstLemmas.{none_first, none_rest, unless_none}
use Rattle.cs_model.specs.First.{first_reason}
use Rattle.cs_model_index.specs.WeightsField.{is_field, weights_of}
use Rattle.cs_model_index.proofs.WeightsFieldLemmas.{field_again, weights_fine}
use Rattle.cs_model_index.proofs.BlockUses.{BlocksAreRead, blocks_are_read}
use Rattle.cs_model_index.specs.FileLaws.{AcceptedAreFiles, FilesFollowBlocks}
use Rattle.cs_model_index.specs.FileRules.{laid, last_value, tried, field_breaks, words_break, is_word, follows, word_size, is_onward, words_end, is_joined, is_of_one_kind, is_sized, blocks_break, is_bound, is_parted, file_rules, damage, IsIndexFile}
use Rattle.cs_model_index.specs.Layout.{number_bytes, Header, MAGIC, MAGIC2, magic, entry_size, header_bytes, offset_bytes, header_of_image, file_in}
use Rattle.cs_model_index.specs.Sections.{number_at, header_of, offsets_len, directory_len, vocabulary_at, offsets_at, titles_at, directory_at, blocks_at, size_by, Sections, sections, Contents, contents_of, image_of}
use Rattle.cs_model_index.specs.declared.limits.TheConstants.{HEADER_BYTES, NUMBER_BYTES, MAX_TARGET}
use Rattle.cs_model_index.proofs.NumbersLemmas.{IsBytes, bytes_from_all, IsBytes-take, IsBytes-drop, number_back, numbers_written, entries_written, numbers_count, heads_count}
use Rattle.cs_model_index.proofs.SectionLemmas.{unbroken, words_written, titles_written, end_from, end_is, shapes, blocks_written}

-- ---- what the rules say
pub record FieldsHold (h : Header) : Type 0 where
  pub docs : h.docs ≤ MAX_DOCS
  pub words : h.words ≤ MAX_WORDS
  pub rows : h.rows ≤ MAX_ROWS
  pub blocks : h.blocks ≤ h.words
  pub target_from : 1 ≤ h.target
  pub target_to : h.target ≤ MAX_TARGET
  pub weights : is_field h.weights ≡ true

-- what the rules say of what is read
pub record ValuesHold (r : Contents) : Type 0 where
  pub fields : FieldsHold r.header
  pub words : AllByRecursion (λ i. is_word i.value ≡ true) (laid word_size vocabulary_at None r.words)
  pub ascend : AllByRecursion (λ i. follows i.last i.value ≡ true) (laid word_size vocabulary_at None r.words)
  pub onward : AllByRecursion (λ i. is_onward i.last i.value ≡ true) (laid (λ o. NUMBER_BYTES) (offsets_at r.header) None r.offsets)
  pub last_offset : unwrap_or (last_value r.offsets) 0 ≡ r.header.titles_len
  pub texts : AllByRecursion (λ i. is_utf8 i.value ≡ true) (laid (λ t. length t) (titles_at r.header) None r.titles)
  pub joined : AllByRecursion (λ i. is_joined i.last i.value ≡ true) (laid (λ h. entry_size r.header.two) (directory_at r.header) None r.heads)
  pub end : words_end (last_value r.heads) ≡ r.header.words
  pub kinds : AllByRecursion (λ i. is_of_one_kind r.words i.value ≡ true) (laid (λ h. entry_size r.header.two) (directory_at r.header) None r.heads)
  pub sized : AllByRecursion (λ i. is_sized i.value ≡ true) (laid (λ h. entry_size r.header.two) (directory_at r.header) None r.heads)
  pub rows_sum : sum_by (λ h. h.rows) r.heads ≡ r.header.rows
  pub bytes_sum : sum_by (λ h. h.len) r.heads ≡ r.header.blocks_len
  pub parted : AllByRecursion (λ i. is_parted r.header.target r.words i ≡ true) (laid (λ p. entry_size r.header.two) (directory_at r.header) None (zip r.heads r.blocks))
  pub bounds : r.header.two ≡ true → AllByRecursion (λ i. is_bound i.value ≡ true) (laid (λ p. entry_size r.header.two) (directory_at r.header) None (zip r.heads r.bounds))

-- and of the bytes
pub record RulesHold (b : List ℕ) (r : Contents) : Type 0 where
  pub long : HEADER_BYTES ≤ length b
  pub first : (bytes_eq (take 8 b) MAGIC || bytes_eq (take 8 b) MAGIC2) ≡ true
  pub size : length b ≡ size_by r.header
  pub words_stand : words_break r.header.words vocabulary_at r.bytes.vocabulary ≡ None
  pub blocks : blocks_break (weights_of r.header.weights) r.header.docs (blocks_at r.header) r.heads r.bytes.blocks ≡ None
  pub values : ValuesHold r

tried_none : (n : ℕ) (o : Option ℕ) → tried n o ≡ None → o ≡ None
tried_none n None e = refl
tried_none n (Some at) e = absurd cc

or_parts : (o p : Option ℕ) → option_or o p ≡ None → (o ≡ None) × (p ≡ None)
or_parts None p e = (refl, e)
or_parts (Some x) p e = absurd cc

all_none : {R : Type 0} (rs : List (Option R)) → first_reason rs ≡ None → AllByRecursion (λ o. o ≡ None) rs
all_none [] e = tt
all_none (o ∷ rs) e = (none_first o rs e, all_none rs (none_rest o rs e))

fields_hold : (h : Header) → first_reason (field_breaks h) ≡ None → FieldsHold h
fields_hold h e =
    let f = all_none (field_breaks h) e in
    let t = and_parts _ _ (unless_none _ _ f.1.1.1.1.0) in
    record {
      docs = leb-true _ _ (unless_none _ _ f.0);
      words = leb-true _ _ (unless_none _ _ f.1.0);
      rows = leb-true _ _ (unless_none _ _ f.1.1.0);
      blocks = leb-true _ _ (unless_none _ _ f.1.1.1.0);
      target_from = leb-true _ _ t.0;
      target_to = leb-true _ _ t.1;
      weights = unless_none _ _ f.1.1.1.1.1.0;
    }

in_two : (two : Bool) (o : Option Broken) → two ≡ true → (if two then o else None) ≡ None → o ≡ None
in_two true o e h = h
in_two false o e h = absurd (true≢false (sym e))

pub rules_hold : (b : List ℕ) (r : Contents) → first_reason (file_rules b r) ≡ None → RulesHold b r
rules_hold b r e =
    let f = all_none (file_rules b r) e in
    let r1 = tried_none 1 _ f.0 in
    let r2 = tried_none 2 _ f.1.0 in
    let r3 = tried_none 3 _ f.1.1.0 in
    let r4 = tried_none 4 _ f.1.1.1.0 in
    let g = f.1.1.1.1 in
    let r8 = or_parts _ _ (tried_none 8 _ g.1.1.1.0) in
    let r9 = tried_none 9 _ g.1.1.1.1.0 in
    let d = g.1.1.1.1.1 in
    let r10 = or_parts _ _ (tried_none 10 _ d.0) in
    let r11 = tried_none 11 _ d.1.0 in
    let r12 = or_parts _ _ (tried_none 12 _ d.1.1.0) in
    let sums = and_parts _ _ (unless_none _ _ r12.1) in
    record {
      long = leb-true _ _ (unless_none _ _ r1);
      first = unless_none _ _ r2;
      size = eqb-true _ _ (unless_none _ _ r4);
      words_stand = tried_none 5 _ g.0;
      blocks = d.1.1.1.0;
      values = record {
        fields = fields_hold r.header r3;
        words = unbroken (λ i. is_word i.value) _ (tried_none 6 _ g.1.0);
        ascend = unbroken (λ i. follows i.last i.value) _ (tried_none 7 _ g.1.1.0);
        onward = unbroken (λ i. is_onward i.last i.value) _ r8.0;
        last_offset = eqb-true _ _ (unless_none _ _ r8.1);
        texts = unbroken (λ i. is_utf8 i.value) _ r9;
        joined = unbroken (λ i. is_joined i.last i.value) _ r10.0;
        end = eqb-true _ _ (unless_none _ _ r10.1);
        kinds = unbroken (λ i. is_of_one_kind r.words i.value) _ r11;
        sized = unbroken (λ i. is_sized i.value) _ r12.0;
        rows_sum = eqb-true _ _ sums.0;
        bytes_sum = eqb-true _ _ sums.1;
        parted = unbroken (is_parted r.header.target r.words) _ (tried_none 18 _ d.1.1.1.1.0);
        bounds = λ e. unbroken (λ i. is_bound i.value) _ (tried_none 19 _ (in_two r.header.two _ e d.1.1.1.1.1.0));
      };
    }

-- ---- the header and the sections
magic_at : (m : List ℕ) (one two : Bool) → bytes_eq m MAGIC ≡ one → bytes_eq m MAGIC2 ≡ two → (one || two) ≡ true → m ≡ magic two
magic_at m one true e f h = (bytes_eq-Decides m MAGIC2).0 f
magic_at m true false e f h = (bytes_eq-Decides m MAGIC).0 e
magic_at m false false e f h = absurd (true≢false (sym h))

pub magic_is : (m : List ℕ) → (bytes_eq m MAGIC || bytes_eq m MAGIC2) ≡ true → m ≡ magic (bytes_eq m MAGIC2)
magic_is m h = magic_at m (bytes_eq m MAGIC) (bytes_eq m MAGIC2) refl refl h

pub header_written : (b : List ℕ) → IsBytes b → HEADER_BYTES ≤ length b → take 8 b ≡ magic (bytes_eq (take 8 b) MAGIC2) → header_bytes (header_of b) ++ drop HEADER_BYTES b ≡ b
unfolding header_bytes
header_written b fits le first =
    let z = number_back b 40 44 (number_at b 40) _ fits (omega (arith, le)) refl refl refl in
    let e = number_back b 36 40 _ _ fits (omega (arith, le)) refl refl z in
    let t = number_back b 32 36 _ _ fits (omega (arith, le)) refl refl e in
    let v = number_back b 28 32 _ _ fits (omega (arith, le)) refl refl t in
    let g = number_back b 24 28 _ _ fits (omega (arith, le)) refl refl v in
    let k = number_back b 20 24 _ _ fits (omega (arith, le)) refl refl g in
    let r = number_back b 16 20 _ _ fits (omega (arith, le)) refl refl k in
    let w = number_back b 12 16 _ _ fits (omega (arith, le)) refl refl r in
    let d = number_back b 8 12 _ _ fits (omega (arith, le)) refl refl w in
    sym (sym (take-append-drop 8 b) ∙ ap (λ (x : List ℕ). x ++ drop 8 b) first ∙ ap (λ (x : List ℕ). magic (bytes_eq (take 8 b) MAGIC2) ++ x) d)

-- sections, one behind the other
abbrev pub joined_sections : Sections → List ℕ
joined_sections s = s.vocabulary ++ (s.offsets ++ (s.titles ++ (s.directory ++ s.blocks)))

pub sections_joined : (h : Header) (rest : List ℕ) → joined_sections (sections h rest) ≡ rest
sections_joined h rest =
    let a = drop h.vocabulary_len rest in
    let b = drop (offsets_len h) a in
    let c = drop h.titles_len b in
    ap (λ (x : List ℕ). take h.vocabulary_len rest ++ (take (offsets_len h) a ++ (take h.titles_len b ++ x))) (take-append-drop (directory_len h) c)
    ∙ ap (λ (x : List ℕ). take h.vocabulary_len rest ++ (take (offsets_len h) a ++ x)) (take-append-drop h.titles_len b)
    ∙ ap (λ (x : List ℕ). take h.vocabulary_len rest ++ x) (take-append-drop (offsets_len h) a)
    ∙ take-append-drop h.vocabulary_len rest

pub same_header : (h : Header) (o : Bool) (a b c d e f g k z : ℕ) → o ≡ h.two → a ≡ h.docs → b ≡ h.words → c ≡ h.rows → d ≡ h.blocks → e ≡ h.target → f ≡ h.vocabulary_len → g ≡ h.titles_len → k ≡ h.blocks_len → z ≡ h.weights
    → let x : Header = record { two = o; docs = a; words = b; rows = c; blocks = d; target = e; vocabulary_len = f; titles_len = g; blocks_len = k; weights = z } in x ≡ h
same_header h o a b c d e f g k z l p q r s t u v w y = rw (l, p, q, r, s, t, u, v, w, y) refl

same_parts : (a b c d e f a' b' c' d' e' f' : List ℕ) → a ≡ a' → b ≡ b' → c ≡ c' → d ≡ d' → e ≡ e' → f ≡ f' → a ++ (b ++ (c ++ (d ++ (e ++ f)))) ≡ a' ++ (b' ++ (c' ++ (d' ++ (e' ++ f'))))
same_parts a b c d e f a' b' c' d' e' f' p q r s t u = rw (p, q, r, s, t, u) refl

-- ---- how long the sections are
pub record SectionsSized (h : Header) (s : Sections) : Type 0 where
  pub vocabulary : length s.vocabulary ≡ h.vocabulary_len
  pub offsets : length s.offsets ≡ 4 * (h.docs + 1)
  pub titles : length s.titles ≡ h.titles_len
  pub directory : length s.directory ≡ directory_len h
  pub blocks : length s.blocks ≡ h.blocks_len

pub sections_sized : (h : Header) (b : List ℕ) → HEADER_BYTES ≤ length b → length b ≡ size_by h → SectionsSized h (sections h (drop HEADER_BYTES b))
sections_sized h b long size =
    let rest = drop HEADER_BYTES b in
    let v = drop h.vocabulary_len rest in
    let o = drop (offsets_len h) v in
    let t = drop h.titles_len o in
    let l0 : length rest ≡ length b - 44 = length-drop HEADER_BYTES b in
    let l1 : length v ≡ length rest - h.vocabulary_len = length-drop h.vocabulary_len rest in
    let l2 : length o ≡ length v - 4 * (h.docs + 1) = length-drop (4 * (h.docs + 1)) v in
    let l3 : length t ≡ length o - h.titles_len = length-drop h.titles_len o in
    record {
      vocabulary = omega (arith, l0, size, length-take h.vocabulary_len rest);
      offsets = omega (arith, l0, l1, size, length-take (4 * (h.docs + 1)) v);
      titles = omega (arith, l0, l1, l2, size, length-take h.titles_len o);
      directory = omega (arith, l0, l1, l2, l3, size, length-take (directory_len h) t);
      blocks = omega (arith, l0, l1, l2, l3, size, length-drop (directory_len h) t);
    }

-- ---- what is known of a file that breaks no rule
-- the sections that are read number by number, or by blocks, are bytes
pub record AreSectionBytes (s : Sections) : Type 0 where
  pub offsets : IsBytes s.offsets
  pub directory : IsBytes s.directory
  pub blocks : IsBytes s.blocks

sections_bytes : (h : Header) (rest : List ℕ) → IsBytes rest → AreSectionBytes (sections h rest)
sections_bytes h rest all =
    let v = drop h.vocabulary_len rest in
    let o = drop (offsets_len h) v in
    let t = drop h.titles_len o in
    let behind_words = IsBytes-drop h.vocabulary_len rest all in
    let behind_titles = IsBytes-drop h.titles_len o (IsBytes-drop (offsets_len h) v behind_words) in
    record {
      offsets = IsBytes-take (offsets_len h) v behind_words;
      directory = IsBytes-take (directory_len h) t behind_titles;
      blocks = IsBytes-drop (directory_len h) t behind_titles;
    }

-- its rules, and its sections, which are as long as the header says
pub record IsSound (b : List ℕ) : Type 0 where
  pub hold : RulesHold b (contents_of b)
  pub sized : SectionsSized (header_of b) (sections (header_of b) (drop HEADER_BYTES b))
  pub bytes : AreSectionBytes (sections (header_of b) (drop HEADER_BYTES b))

pub is_sound : (b : List ℕ) → All (λ x. x < 2 ^ 8) b → IsIndexFile b → IsSound b
unfolding damage
is_sound b small e =
    let hold : RulesHold b (contents_of b) = rules_hold b (contents_of b) e in
    record {
      hold = hold;
      sized = sections_sized (header_of b) b hold.long hold.size;
      bytes = sections_bytes (header_of b) (drop HEADER_BYTES b) (IsBytes-drop HEADER_BYTES b (bytes_from_all b small));
    }

-- ---- the law
pub accepted_are_files : BlocksAreRead → AcceptedAreFiles
unfolding file_in image_of damage offset_bytes
accepted_are_files law b small e =
    let r = contents_of b in
    let h = header_of b in
    let s = sections h (drop HEADER_BYTES b) in
    let is = is_sound b small e in
    let hold = is.hold in
    let sized = is.sized in
    let f = hold.values.fields in
    let words = words_written h.words vocabulary_at s.vocabulary hold.words_stand in
    let many : length r.offsets ≡ h.docs + 1 = numbers_count (h.docs + 1) s.offsets in
    let offsets = numbers_written (h.docs + 1) s.offsets is.bytes.offsets sized.offsets in
    let titles = titles_written (offsets_at h) r.offsets s.titles (omega (arith, many)) hold.values.onward (hold.values.last_offset ∙ sym sized.titles) in
    let heads = entries_written h.two r.words h.blocks s.directory s.blocks (directory_at h) is.bytes.directory sized.directory hold.values.bounds in
    let end : end_from 0 r.heads ≡ h.words = sym (end_is r.heads) ∙ hold.values.end in
    let shaped = shapes (entry_size h.two) (directory_at h) None r.heads (length s.blocks) hold.values.joined hold.values.sized (omega (arith, end, f.words)) (hold.values.bytes_sum ∙ sym sized.blocks) in
    let blocks = blocks_written law (weights_of h.weights) (weights_fine h.weights f.weights) h.docs (blocks_at h) r.heads s.blocks (omega (arith, f.docs)) is.bytes.blocks shaped hold.blocks in
    let header : header_of_image h.two (image_of b) ≡ h = same_header h _ _ _ _ _ _ _ _ _ _ refl
    (omega (arith, titles.0, many)) words.count (blocks.2 ∙ hold.values.rows_sum) (blocks.0 ∙ heads_count (entry_size h.two) r.words h.blocks s.directory s.blocks) refl
    (ap length words.written ∙ sized.vocabulary) (ap length titles.2 ∙ sized.titles) (ap length blocks.1 ∙ sized.blocks) (field_again h.weights f.weights) in
    same_parts _ _ _ _ _ _ (header_bytes h) s.vocabulary s.offsets s.titles s.directory s.blocks
    (ap header_bytes header) words.written (ap (flat_map number_bytes) titles.1 ∙ offsets) titles.2 heads blocks.1
    ∙ ap (λ (x : List ℕ). header_bytes h ++ x) (sections_joined h (drop HEADER_BYTES b))
    ∙ header_written b (bytes_from_all b small) hold.long (magic_is (take 8 b) hold.first)

pub files_follow_blocks : FilesFollowBlocks
files_follow_blocks accepted one = accepted_are_files (blocks_are_read accepted one)
