-- Rules 18 and 19 of the blocks that an index reads, without their posts.
--
--   Places, places                       where the directory lies
--   part_made, part_at, parts_more       the parts of blocks, one by one
--   filled_at                            a block of some
--   Laid                                 what the code has of an index and of its directory
--   parting_broken, parts_judged         rules 18 and 19 by the parts, as by the blocks
--   judged_along                         an answer that passes a fault on
use Rattle.std.proofs.Common.{◌≡◌, ℕ, ◌+◌, ◌<◌, ◌≤◌, ◌^◌, ◌&&◌, Bool, true, cond, List, [], ◌∷◌, ◌++◌, length, get_or, map, take, Option, Some, None, Result, Ok, Err}
use Rattle.std.proofs.Common.{refl, sym, ap, subst, ◌∙◌, arith, inl, inr}
use Rattle.std.specs.Prelude.{All, IsErrAnd, count_by, ◌==◌}
use Rattle.std.specs.List.{AllByRecursion, list_all, list_any, range_with_len, slice_get, zip}
use Rattle.std.proofs.lemmas.Bool.{cases_order, eq-eqb, ne_eqb}
use Rattle.std.proofs.lemmas.List.{length-map, map-append, take_more}
use Rattle.std.proofs.lemmas.List.Elements.{recursion_from_All}
use Rattle.std.proofs.lemmas.Slice.Zip.{length-zip}
use Rattle.cs_base.proofs.MembersLemmas.{all_then}
use Rattle.cs_base.specs.declared.index.block.BlockHead.{BlockHead}
use Rattle.cs_base.specs.declared.index.block.Broken.{Broken}
use Rattle.cs_base.specs.declared.content.doc.Post.{Post}
use Rattle.cs_base.specs.declared.content.limits.TheConstants.{MAX_WORDS}
use Rattle.cs_cols.specs.declared.cols.Cols.{Cols}
use Rattle.cs_model.specs.First.{first_reason}
use Rattle.cs_model_index.specs.BlockBounds.{bounded, greatest_of, least_of}
use Rattle.cs_model_index.specs.BlockRules.{broken_at}
use Rattle.cs_model_index.specs.FileRules.{Block, Placed, break_of, has_rows, is_bound, is_parted, is_word, laid, tried}
use Rattle.cs_model_index.specs.Partitions.{is_light}
use Rattle.cs_model_index.proofs.AgainLemmas.{HasLength}
use Rattle.cs_model_index.proofs.TextLimits.{word_length, words_few}
use Rattle.cs_file.specs.declared.entries.Entries.{Entries}
use Rattle.cs_file.specs.declared.fault.FetchFault.{FetchFault}
use Rattle.cs_file.specs.declared.fault.FetchFault.TheVariants as fetches
use Rattle.cs_file.specs.declared.part.BlockPart.{BlockPart}
use Rattle.cs_file.specs.ImageSteps.{IsFilled, IsJudged, parts_break, block_parts}
use Rattle.cs_file.specs.Indexes.{IndexView, IsIndex}
use Rattle.cs_file.specs.Parting.{bounded_by, bounds_of, is_closed_by, keeps_part, part_by}
use Rattle.cs_file.specs.WholeImages.{IsChangeBy, directory_place, entry_bytes_of, has_bounds}
use Rattle.cs_file.proofs.BlockParts.{bound_pairs}
use Rattle.cs_file.proofs.FetchLemmas.{nothing}
use Rattle.cs_file.proofs.HeadsLemmas.{few_heads}
use Rattle.cs_file.proofs.LaidLemmas.{break_cons}
use Rattle.cs_file.proofs.MarkedNumbers.{any_posts, count_posts}
use Rattle.cs_file.proofs.PostingsLemmas.{bounded_docs}
use Rattle.cs_file.proofs.SectionSizes.{pair_at}

-- the place of the titles has few bits, and there are few blocks
pub record Places (i : IndexView) : Type 0 where
  pub titles : i.titles_at < 2 ^ 32
  pub blocks : length i.heads ≤ MAX_WORDS

pub places : (i : IndexView) → IsIndex i → Places i
places i is =
    let at = is.titles_place in
    let docs = is.few_docs in
    let words = is.few_words in
    let few = words_few i.words (all_then (λ w. is_word w ≡ true) HasLength word_length i.words (recursion_from_All (λ w. is_word w ≡ true) i.words is.words)) in
    record { titles = omega (arith, at, docs, words, few); blocks = omega (arith, few_heads i is, words) }

-- ---- the parts of blocks
-- what is known of a head and its rows makes their part
pub part_made : (head : BlockHead) (posts : List Post) (docs words : List ℕ) (p : BlockPart) → docs ≡ map (λ r. r.doc) posts → words ≡ map (λ r. r.word) posts
    → p.head ≡ bounded_by head docs → p.whole ≡ list_all (λ n. list_any (λ w. w == n) words) (range_with_len head.lo head.words)
    → p.first ≡ count_by (λ w. w == head.lo) words → p ≡ part_by (bounded head posts) posts
part_made head posts docs words p docs_are words_are h all f =
    let whole : p.whole ≡ list_all (λ n. list_any (λ post. post.word == n) posts) (range_with_len head.lo head.words) =
    all ∙ ap (λ (ws : List ℕ). list_all (λ n. list_any (λ w. w == n) ws) (range_with_len head.lo head.words)) words_are
    ∙ any_posts posts (range_with_len head.lo head.words) in
    let first : p.first ≡ count_by (λ post. post.word == head.lo) posts = f ∙ ap (count_by (λ w. w == head.lo)) words_are ∙ count_posts head.lo posts in
    same_part p (part_by (bounded head posts) posts) (h ∙ bounded_docs head posts docs docs_are) whole first
  where
    same_part : (p q : BlockPart) → p.head ≡ q.head → p.whole ≡ q.whole → p.first ≡ q.first → p ≡ q
    same_part p q a b c = rw (a, b, c) refl

pub parts_more : (pairs : List (BlockHead × List Post)) (k : ℕ) (d : BlockHead × List Post) (p : BlockPart) (parts now : List BlockPart) → k < length pairs
    → p ≡ part_by (bounded (get_or pairs k d).0 (get_or pairs k d).1) (get_or pairs k d).1 → now ≡ parts ++ p ∷ [] → parts ≡ block_parts (take k pairs)
    → now ≡ block_parts (take (k + 1) pairs)
parts_more pairs k d p parts now lt is added h =
    added ∙ ap (λ (x : BlockPart). parts ++ x ∷ []) is ∙ ap (λ (x : List BlockPart). x ++ block_parts (get_or pairs k d ∷ [])) h
    ∙ sym (map-append (λ (q : BlockHead × List Post). part_by (bounded q.0 q.1) q.1) (take k pairs) (get_or pairs k d ∷ [])) ∙ ap block_parts (sym (take_more pairs k d lt))

-- the same of a pair of them
pub part_at : {q : BlockHead × List Post} {head : BlockHead} {posts : List Post} {docs words : List ℕ} {p : BlockPart} → q ≡ (head, posts) → docs ≡ map (λ r. r.doc) posts
    → words ≡ map (λ r. r.word) posts → p.head ≡ bounded_by head docs
    → p.whole ≡ list_all (λ n. list_any (λ w. w == n) words) (range_with_len head.lo head.words) → p.first ≡ count_by (λ w. w == head.lo) words
    → p ≡ part_by (bounded q.0 q.1) q.1
part_at {q} {head} {posts} {docs} {words} {p} is docs_are words_are h all f =
    part_made head posts docs words p docs_are words_are h all f ∙ ap (λ (x : BlockHead × List Post). part_by (bounded x.0 x.1) x.1) (sym is)

pub filled_at : (hs : List BlockHead) (bs : List Cols) (k : ℕ) (x : Cols) → length bs ≡ length hs → k < length hs → x ≡ get_or bs k x
    → All IsFilled (zip hs (map (λ c. c.posts) bs)) → IsFilled (get_or hs k nothing, x.posts)
filled_at hs bs k x one lt is filled =
    let pair = pair_at hs bs k nothing x (sym one) lt is in
    subst IsFilled pair.at (filled k (nothing, x.posts) pair.inside)

-- ---- rules 18 and 19
same_test : (target : ℕ) (ws : List (List ℕ)) (q : Block) (last : Option Block) (at : ℕ) (pairs : List Block) → length q.1 ≡ q.0.rows
    → is_parted target ws (record { value = q; last = last; next = slice_get pairs 0; at = at })
    ≡ keeps_part target ws (part_by (bounded q.0 q.1) q.1) (slice_get (block_parts pairs) 0)
same_test target ws q last at [] len = ap (λ (n : ℕ). has_rows q && (is_light target q.0.words n && true)) len
same_test target ws q last at (r ∷ pairs) len =
    let closed : ℕ → Bool = λ n. is_closed_by target ws (record { head = record (bounded q.0 q.1) { rows = n }; whole = true; first = 0 }) (Some (part_by (bounded r.0 r.1) r.1)) in
    ap (λ (n : ℕ). has_rows q && (is_light target q.0.words n && closed n)) len

-- rule 18 by blocks, and by their parts
parting_same : (target : ℕ) (ws : List (List ℕ)) (e at : ℕ) (last : Option Block) (before : Option BlockPart) (pairs : List Block)
    → AllByRecursion (λ q. length q.1 ≡ q.0.rows) pairs
    → break_of (is_parted target ws) (laid (λ (q : Block). e) at last pairs)
    ≡ break_of (λ j. keeps_part target ws j.value j.next) (laid (λ (p : BlockPart). e) at before (block_parts pairs))
unfolding laid break_of
parting_same target ws e at last before [] fine = refl
parting_same target ws e at last before (q ∷ pairs) fine =
    let p : BlockPart = part_by (bounded q.0 q.1) q.1 in
    let i : Placed Block = record { value = q; last = last; next = slice_get pairs 0; at = at } in
    let j : Placed BlockPart = record { value = p; last = before; next = slice_get (block_parts pairs) 0; at = at } in
    break_cons (is_parted target ws) i (laid (λ (q : Block). e) (at + e) (Some q) pairs)
    ∙ ap (λ (b : Bool). cond b (break_of (is_parted target ws) (laid (λ (q : Block). e) (at + e) (Some q) pairs)) (Some at)) (same_test target ws q last at pairs fine.0)
    ∙ ap (λ (o : Option ℕ). cond (keeps_part target ws p (slice_get (block_parts pairs) 0)) o (Some at)) (parting_same target ws e (at + e) (Some q) (Some p) pairs fine.1)
    ∙ sym (break_cons (λ j. keeps_part target ws j.value j.next) j (laid (λ (p : BlockPart). e) (at + e) (Some p) (block_parts pairs)))

turned : (a b : ℕ) → (a == b) ≡ (b == a)
turned a b = elim (cases_order a b) [
  | inl same ↦ eq-eqb a b same ∙ sym (eq-eqb b a (sym same))
  | inr other ↦ ne_eqb a b (λ e. absurd (omega (arith, other, e))) ∙ sym (ne_eqb b a (λ e. absurd (omega (arith, other, e))))
]

-- rule 19 by blocks, and by the heads of their parts
bounds_same : (e at : ℕ) (last : Option Block) (before : Option (BlockHead × (ℕ × ℕ))) (hs : List BlockHead) (bs : List (List Post))
    → break_of (λ q. has_bounds q.value) (laid (λ (q : Block). e) at last (zip hs bs))
    ≡ break_of (λ j. is_bound j.value) (laid (λ (p : BlockHead × (ℕ × ℕ)). e) at before (bound_pairs (block_parts (zip hs bs)) hs))
unfolding laid break_of
bounds_same e at last before [] [] = refl
bounds_same e at last before [] (b ∷ bs) = refl
bounds_same e at last before (h ∷ hs) [] = refl
bounds_same e at last before (h ∷ hs) (b ∷ bs) =
    let q : Block = (h, b) in
    let p : BlockHead × (ℕ × ℕ) = (bounded h b, bounds_of h) in
    let pairs = bound_pairs (block_parts (zip hs bs)) hs in
    let i : Placed Block = record { value = q; last = last; next = slice_get (zip hs bs) 0; at = at } in
    let j : Placed (BlockHead × (ℕ × ℕ)) = record { value = p; last = before; next = slice_get pairs 0; at = at } in
    let one : has_bounds q ≡ is_bound p =
    ap (λ (x : Bool). x && (h.greatest == greatest_of b)) (turned h.least (least_of b))
    ∙ ap (λ (x : Bool). (least_of b == h.least) && x) (turned h.greatest (greatest_of b)) in
    break_cons (λ q. has_bounds q.value) i (laid (λ (q : Block). e) (at + e) (Some q) (zip hs bs))
    ∙ ap (λ (x : Bool). cond x (break_of (λ q. has_bounds q.value) (laid (λ (q : Block). e) (at + e) (Some q) (zip hs bs))) (Some at)) one
    ∙ ap (λ (o : Option ℕ). cond (is_bound p) o (Some at)) (bounds_same e (at + e) (Some q) (Some p) hs bs)
    ∙ sym (break_cons (λ j. is_bound j.value) j (laid (λ (p : BlockHead × (ℕ × ℕ)). e) (at + e) (Some p) pairs))

-- what the code has of an index and of its directory
pub record Laid (i : IndexView) (target : ℕ) (words : List (List ℕ)) (heads : List BlockHead) (entries : Entries) : Type 0 where
  pub target_is : target ≡ i.target
  pub words_are : words ≡ i.words
  pub heads_are : heads ≡ i.heads
  pub first_is : entries.first ≡ directory_place i
  pub size_is : entries.size ≡ entry_bytes_of i

some_first : (o p : Option Broken) (x : Broken) → o ≡ Some x → first_reason (o ∷ p ∷ []) ≡ Some x
some_first o p x e = rw e refl

none_first : (o p : Option Broken) → o ≡ None → first_reason (o ∷ p ∷ []) ≡ p
none_first o p e = ap (λ (x : Option Broken). first_reason (x ∷ p ∷ [])) e ∙ only p
  where
    only : (o : Option Broken) → first_reason (o ∷ []) ≡ o
    only None = refl
    only (Some x) = refl

parting_place : (target target' : ℕ) (ws ws' : List (List ℕ)) (e e' at at' : ℕ) (parts : List BlockPart) (pairs : List Block) → target ≡ target' → ws ≡ ws' → e ≡ e'
    → at ≡ at' → parts ≡ block_parts pairs → AllByRecursion (λ q. length q.1 ≡ q.0.rows) pairs
    → break_of (λ j. keeps_part target ws j.value j.next) (laid (λ (p : BlockPart). e) at None parts)
    ≡ break_of (is_parted target' ws') (laid (λ (q : Block). e') at' None pairs)
parting_place target target' ws ws' e e' at at' parts pairs p q r s t counts = rw (p, q, r, s, t) (sym (parting_same target' ws' e' at' None None pairs counts))

bounds_place : (e e' at at' : ℕ) (parts : List BlockPart) (hs hs' : List BlockHead) (bs : List (List Post)) → e ≡ e' → at ≡ at' → hs ≡ hs' → parts ≡ block_parts (zip hs' bs)
    → break_of (λ j. is_bound j.value) (laid (λ (p : BlockHead × (ℕ × ℕ)). e) at None (bound_pairs parts hs))
    ≡ break_of (λ q. has_bounds q.value) (laid (λ (q : Block). e') at' None (zip hs' bs))
bounds_place e e' at at' parts hs hs' bs p q r s = rw (p, q, r, s) (sym (bounds_same e' at' None None hs' bs))

abbrev items : IndexView → List (List Post) → List (Placed Block)
items i blocks = laid (λ p. entry_bytes_of i) (directory_place i) None (zip i.heads blocks)

module _ {i : IndexView} {target : ℕ} {words : List (List ℕ)} {heads : List BlockHead} {entries : Entries} (at : Laid i target words heads entries) (blocks : List (List Post))
    (filled : All IsFilled (zip i.heads blocks)) {parts : List BlockPart} (are : parts ≡ block_parts (zip heads blocks)) where
  own_parts : parts ≡ block_parts (zip i.heads blocks)
  own_parts = are ∙ ap (λ (hs : List BlockHead). block_parts (zip hs blocks)) at.heads_are

  parting : break_of (λ j. keeps_part target words j.value j.next) (laid (λ p. entries.size) entries.first None parts)
      ≡ break_of (is_parted i.target i.words) (items i blocks)
  parting = parting_place target i.target words i.words entries.size (entry_bytes_of i) entries.first (directory_place i) parts (zip i.heads blocks)
      at.target_is at.words_are at.size_is at.first_is own_parts
      (all_then IsFilled (λ q. length q.1 ≡ q.0.rows) (λ q f. f.count) (zip i.heads blocks) (recursion_from_All IsFilled (zip i.heads blocks) filled))

  bounds : break_of (λ j. is_bound j.value) (laid (λ p. entries.size) entries.first None (bound_pairs parts heads)) ≡ break_of (λ q. has_bounds q.value) (items i blocks)
  bounds = bounds_place entries.size (entry_bytes_of i) entries.first (directory_place i) parts heads i.heads blocks at.size_is at.first_is at.heads_are own_parts

  pub parting_broken : (p : Option ℕ) (e : FetchFault) → p ≡ break_of (λ j. keeps_part target words j.value j.next) (laid (λ p. entries.size) entries.first None parts)
      → IsChangeBy (tried 18 p) e → IsChangeBy (parts_break i blocks) e
  unfolding parts_break
  parting_broken p (fetches.Changed rule there) is h =
      some_first (tried 18 (break_of (is_parted i.target i.words) (items i blocks))) (tried 19 (break_of (λ q. has_bounds q.value) (items i blocks))) (broken_at rule there)
      (ap (tried 18) (sym (is ∙ parting)) ∙ h)
  parting_broken p fetches.Read is h = tt
  parting_broken p fetches.Memory is h = tt

  pub parts_judged : {T : Type 0} (p q : Option ℕ) (ps : List BlockPart) (r : Result T FetchFault) → ps ≡ parts
      → p ≡ break_of (λ j. keeps_part target words j.value j.next) (laid (λ p. entries.size) entries.first None parts) → tried 18 p ≡ None
      → q ≡ break_of (λ j. is_bound j.value) (laid (λ p. entries.size) entries.first None (bound_pairs ps heads))
      → IsJudged (tried 19 q) r → IsJudged (parts_break i blocks) r
  unfolding parts_break
  parts_judged p q ps r same is none last h =
      let found : tried 19 q ≡ first_reason
      (tried 18 (break_of (is_parted i.target i.words) (items i blocks)) ∷ tried 19 (break_of (λ q. has_bounds q.value) (items i blocks)) ∷ []) =
      ap (tried 19) (last ∙ ap (λ (xs : List BlockPart). break_of (λ j. is_bound j.value) (laid (λ p. entries.size) entries.first None (bound_pairs xs heads))) same ∙ bounds)
      ∙ sym (none_first (tried 18 (break_of (is_parted i.target i.words) (items i blocks))) (tried 19 (break_of (λ q. has_bounds q.value) (items i blocks)))
      (ap (tried 18) (sym (is ∙ parting)) ∙ none)) in
      subst (λ (o : Option Broken). IsJudged o r) found h

-- an answer that passes a fault on
pub judged_along : {T : Type 0} (o : Option Broken) (e : FetchFault) (r : Result T FetchFault) → IsChangeBy o e → IsErrAnd r (λ x. x ≡ e) → IsJudged o r
judged_along o e (Ok x) h is = absurd is
judged_along o e (Err x) h is = subst (IsChangeBy o) (sym is) h

-- as many parts as heads
pub parts_count : (hs : List BlockHead) (bs : List (List Post)) → length hs ≡ length bs → length (block_parts (zip hs bs)) ≡ length hs
parts_count hs bs one = omega (arith, length-map (zip hs bs) (λ (q : Block). part_by (bounded q.0 q.1) q.1), length-zip hs bs, one)
