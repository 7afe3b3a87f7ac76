-- A file that is opened: its stages one behind the other, and the index that is kept of it.
--
--   damage_is          the first broken rule is that of the first stage that finds one
--   in_header .. in_parts     the fault of each stage is the damage, where none before it finds one
--   damaged_along      an answer that passes a fault on
--   Kept, kept_view    what is known of what is kept
--   index_kept         it is what an opened index keeps
--   shaped_heads, few_rows        what reading the blocks needs of the heads
--   AllRead, read_whole           where all bytes were read, all are below 256
--   same_index, index_is, stands_for          over a store that tells it stands for the bytes
--   fits_store         and the blocks lie within them
use Rattle.std.proofs.Common.{◌≡◌, ℕ, ◌+◌, ◌*◌, ◌<◌, ◌≤◌, ◌^◌, Bool, true, false, List, [], ◌∷◌, ◌++◌, length, take, Option, Some, None, Result, Ok, Err, refl, sym, ap, subst}
use Rattle.std.proofs.Common.{◌∙◌, arith}
use Rattle.std.specs.Prelude.{All, IfErr}
use Rattle.std.specs.List.{sum_by}
use Rattle.std.specs.Result.{IsErrAnd}
use Rattle.std.proofs.lemmas.List.{take_all}
use Rattle.std.proofs.lemmas.List.Sums.{sum_by_more_le}
use Rattle.cs_base.specs.declared.index.block.BlockHead.{BlockHead}
use Rattle.cs_base.specs.declared.index.block.Broken.{Broken}
use Rattle.cs_base.specs.declared.content.limits.TheConstants.{MAX_ROWS}
use Rattle.cs_base.specs.declared.content.scores.Weights.{Weights}
use Rattle.cs_model.specs.Weights.{AreWeights}
use Rattle.cs_model.specs.First.{first_reason}
use Rattle.cs_model_index.specs.Blocks.{IsShaped}
use Rattle.cs_model_index.specs.FileRules.{header_rules, vocabulary_rules, title_rules, directory_rules, parting_rules, bound_rules, damage}
use Rattle.cs_model_index.specs.Layout.{Header, entry_size}
use Rattle.cs_model_index.specs.Sections.{header_of, contents_of, vocabulary_at, offsets_at, titles_at, directory_at, blocks_at, size_by}
use Rattle.cs_model_index.specs.WeightsField.{weights_of}
use Rattle.cs_model_index.specs.declared.limits.TheConstants.{HEADER_BYTES, NUMBER_BYTES}
use Rattle.cs_model_index.proofs.WeightsFieldLemmas.{weights_fine}
use Rattle.cs_file.specs.CallAnswers.{IsDamageOf}
use Rattle.cs_file.specs.declared.fault.OpenFault.{OpenFault}
use Rattle.cs_file.specs.declared.fault.OpenFault.TheVariants as opens
use Rattle.cs_file.specs.Indexes.{IndexView, IsIndex, index_in, StandsFor, HasAllBlocks}
use Rattle.cs_file.specs.Opening.{Refuses, AreBytes, IsHeader, IsHeaderOf, HasHeader, HasVocabulary, HasOffsets, HasHeads, header_stage, vocabulary_stage}
use Rattle.cs_file.specs.Opening.{titles_stage, directory_stage, blocks_stage, parts_stage, file_words, offsets_of, heads_of}
use Rattle.cs_file.proofs.BytesLemmas.{more_front, all_bytes}
use Rattle.cs_file.proofs.HeadsLemmas.{head_shaped}
use Rattle.cs_file.proofs.StagesLemmas.{refuses_first}

-- ---- the stages
joined : (rs qs : List (Option Broken)) → first_reason (rs ++ qs) ≡ first_reason (first_reason rs ∷ first_reason qs ∷ [])
joined [] qs = sym (only (first_reason qs))
  where
    only : (o : Option Broken) → first_reason (o ∷ []) ≡ o
    only None = refl
    only (Some x) = refl
joined (None ∷ rs) qs = joined rs qs
joined (Some x ∷ rs) qs = refl

one_more : (o : Option Broken) (rs : List (Option Broken)) → first_reason (o ∷ rs) ≡ first_reason (o ∷ first_reason rs ∷ [])
one_more o rs = joined (o ∷ []) rs ∙ ap (λ (x : Option Broken). first_reason (x ∷ first_reason rs ∷ [])) (only o)
  where
    only : (o : Option Broken) → first_reason (o ∷ []) ≡ o
    only None = refl
    only (Some x) = refl

behind : (o p : Option Broken) → o ≡ None → first_reason (o ∷ p ∷ []) ≡ p
behind o p e = ap (λ (x : Option Broken). first_reason (x ∷ p ∷ [])) e ∙ only p
  where
    only : (o : Option Broken) → first_reason (o ∷ []) ≡ o
    only None = refl
    only (Some x) = refl

-- two, the second behind the first
abbrev then : Option Broken → Option Broken → Option Broken
then o p = first_reason (o ∷ p ∷ [])

pub damage_is : (b : List ℕ) → damage b ≡ then (header_stage b)
    (then (vocabulary_stage b) (then (titles_stage b) (then (directory_stage b) (then (blocks_stage b) (parts_stage b)))))
unfolding damage header_stage vocabulary_stage titles_stage directory_stage blocks_stage parts_stage
damage_is b =
    let r = contents_of b in
    let x = blocks_stage b in
    let ps = parting_rules r ++ bound_rules r in
    let ds = directory_rules r in
    let ts = title_rules r in
    let vs = vocabulary_rules r in
    joined (header_rules b (header_of b)) (vs ++ (ts ++ (ds ++ (x ∷ ps))))
    ∙ ap (then (header_stage b)) (joined vs (ts ++ (ds ++ (x ∷ ps)))
    ∙ ap (then (vocabulary_stage b)) (joined ts (ds ++ (x ∷ ps))
    ∙ ap (then (titles_stage b)) (joined ds (x ∷ ps) ∙ ap (then (directory_stage b)) (one_more x ps))))

-- ---- faults
along : (b : List ℕ) (e : OpenFault) → Refuses (damage b) e → IsDamageOf b e
along b (opens.Damaged rule at) h = h
along b opens.Read h = tt
along b opens.Memory h = tt

-- where the stages before it found no broken rule, the rest is all
from_vocabulary : (b : List ℕ) → header_stage b ≡ None
    → damage b ≡ then (vocabulary_stage b) (then (titles_stage b) (then (directory_stage b) (then (blocks_stage b) (parts_stage b))))
from_vocabulary b p = damage_is b ∙ behind (header_stage b) _ p

from_titles : (b : List ℕ) → header_stage b ≡ None → vocabulary_stage b ≡ None
    → damage b ≡ then (titles_stage b) (then (directory_stage b) (then (blocks_stage b) (parts_stage b)))
from_titles b p q = from_vocabulary b p ∙ behind (vocabulary_stage b) _ q

from_directory : (b : List ℕ) → header_stage b ≡ None → vocabulary_stage b ≡ None → titles_stage b ≡ None
    → damage b ≡ then (directory_stage b) (then (blocks_stage b) (parts_stage b))
from_directory b p q r = from_titles b p q ∙ behind (titles_stage b) _ r

from_blocks : (b : List ℕ) → header_stage b ≡ None → vocabulary_stage b ≡ None → titles_stage b ≡ None → directory_stage b ≡ None
    → damage b ≡ then (blocks_stage b) (parts_stage b)
from_blocks b p q r s = from_directory b p q r ∙ behind (directory_stage b) _ s

from_parts : (b : List ℕ) → header_stage b ≡ None → vocabulary_stage b ≡ None → titles_stage b ≡ None → directory_stage b ≡ None → blocks_stage b ≡ None
    → damage b ≡ parts_stage b
from_parts b p q r s t = from_blocks b p q r s ∙ behind (blocks_stage b) _ t

-- the fault of the first of two
first_of : (b : List ℕ) (o p : Option Broken) (e : OpenFault) → damage b ≡ then o p → Refuses o e → IsDamageOf b e
first_of b o p e is h = along b e (subst (λ (x : Option Broken). Refuses x e) (sym is) (refuses_first o (p ∷ []) e h))

pub in_header : (b : List ℕ) (e : OpenFault) → Refuses (header_stage b) e → IsDamageOf b e
in_header b e h = first_of b (header_stage b) _ e (damage_is b) h

pub in_vocabulary : (b : List ℕ) (e : OpenFault) → header_stage b ≡ None → Refuses (vocabulary_stage b) e → IsDamageOf b e
in_vocabulary b e p h = first_of b (vocabulary_stage b) _ e (from_vocabulary b p) h

pub in_titles : (b : List ℕ) (e : OpenFault) → header_stage b ≡ None → vocabulary_stage b ≡ None → Refuses (titles_stage b) e → IsDamageOf b e
in_titles b e p q h = first_of b (titles_stage b) _ e (from_titles b p q) h

pub in_directory : (b : List ℕ) (e : OpenFault) → header_stage b ≡ None → vocabulary_stage b ≡ None → titles_stage b ≡ None → Refuses (directory_stage b) e
    → IsDamageOf b e
in_directory b e p q r h = first_of b (directory_stage b) _ e (from_directory b p q r) h

pub in_blocks : (b : List ℕ) (e : OpenFault) → header_stage b ≡ None → vocabulary_stage b ≡ None → titles_stage b ≡ None → directory_stage b ≡ None
    → Refuses (blocks_stage b) e → IsDamageOf b e
in_blocks b e p q r s h = first_of b (blocks_stage b) _ e (from_blocks b p q r s) h

pub in_parts : (b : List ℕ) (e : OpenFault) → header_stage b ≡ None → vocabulary_stage b ≡ None → titles_stage b ≡ None → directory_stage b ≡ None
    → blocks_stage b ≡ None → Refuses (parts_stage b) e → IsDamageOf b e
in_parts b e p q r s t h = along b e (subst (λ (x : Option Broken). Refuses x e) (sym (from_parts b p q r s t)) h)

pub damaged_along : {T : Type 0} (b : List ℕ) (e : OpenFault) (r : Result T OpenFault) → IsDamageOf b e → IsErrAnd r (λ x. x ≡ e) → IfErr r (IsDamageOf b)
damaged_along b e (Ok x) h is = tt
damaged_along b e (Err x) h is = subst (IsDamageOf b) (sym is) h

-- ---- what is kept
-- the parts of an index, each by the rules of its section; the blocks go with the sizes of their heads
pub record Kept (h : Header) (i : IndexView) : Type 0 where
  pub header : IsHeader h
  pub words : HasVocabulary h i.words
  pub offsets : HasOffsets h i.offsets
  pub heads : HasHeads h i.words i.heads
  pub docs : i.docs ≡ h.docs
  pub target : i.target ≡ h.target
  pub weights : i.weights ≡ weights_of h.weights
  pub titles_place : i.titles_at ≡ titles_at h
  pub blocks_place : i.blocks_at ≡ blocks_at h

all_lens : (i : IndexView) → sum_by (λ h. h.len) (take (length i.heads) i.heads) ≡ sum_by (λ h. h.len) i.heads
all_lens i = ap (sum_by (λ h. h.len)) (take_all (length i.heads) i.heads (omega arith))

-- of a directory
few_bytes : (two : Bool) (n : ℕ) → entry_size two * n ≤ 24 * n
unfolding entry_size
few_bytes true n = omega arith
few_bytes false n = omega arith

pub index_kept : (h : Header) (i : IndexView) → Kept h i → IsIndex i
index_kept h i k = record {
  few_docs = omega (arith, k.docs, k.header.docs);
  few_words = omega (arith, k.words.count, k.header.words);
  words = k.words.words;
  ascending = k.words.ascending;
  target_from = omega (arith, k.target, k.header.target_from);
  target_to = omega (arith, k.target, k.header.target_to);
  weights = subst AreWeights (sym k.weights) (weights_fine h.weights k.header.weights);
  offsets = omega (arith, k.offsets.count, k.docs);
  onward = k.offsets.onward;
  joined = k.heads.joined;
  end = k.heads.end ∙ sym k.words.count;
  kinds = k.heads.kinds;
  facets = k.heads.facets;
  sized = k.heads.sized;
  few_rows = omega (arith, k.heads.rows, k.header.rows);
  titles_place = omega (arith, k.titles_place, k.words.len, k.docs);
  blocks_place = (h.two, omega (arith, k.titles_place, k.blocks_place, k.offsets.end, ap (λ (n : ℕ). entry_size h.two * n) k.heads.count));
  small = omega (
    arith,
    k.blocks_place,
    few_bytes h.two h.blocks,
    k.header.docs,
    k.header.words,
    k.header.blocks,
    k.header.vocabulary,
    k.header.titles,
    k.header.postings,
    k.heads.bytes,
    all_lens i,
  );
}

-- ---- the heads
-- heads by the rules, as a part of an index
abbrev view_of : Header → List (List ℕ) → List ℕ → List BlockHead → IndexView
view_of h ws os hs = record {
  docs = h.docs;
  words = ws;
  offsets = os;
  heads = hs;
  target = h.target;
  weights = weights_of h.weights;
  titles_at = titles_at h;
  blocks_at = blocks_at h;
}

pub kept_view : (h : Header) (ws : List (List ℕ)) (os : List ℕ) (hs : List BlockHead) → IsHeader h → HasVocabulary h ws → HasOffsets h os → HasHeads h ws hs
    → Kept h (view_of h ws os hs)
kept_view h ws os hs a b c d = record {
  header = a;
  words = b;
  offsets = c;
  heads = d;
  docs = refl;
  target = refl;
  weights = refl;
  titles_place = refl;
  blocks_place = refl;
}

pub shaped_heads : (h : Header) (ws : List (List ℕ)) (os : List ℕ) (hs : List BlockHead) → IsHeader h → HasVocabulary h ws → HasOffsets h os
    → HasHeads h ws hs → All (λ x. IsShaped x x.len) hs
shaped_heads h ws os hs a b c d = head_shaped (view_of h ws os hs) (index_kept h (view_of h ws os hs) (kept_view h ws os hs a b c d))

pub few_rows : (h : Header) (ws : List (List ℕ)) (hs : List BlockHead) → IsHeader h → HasHeads h ws hs → All (λ x. x.rows ≤ MAX_ROWS) hs
few_rows h ws hs a d = λ k x lt.
    let one = sum_by_more_le (λ (y : BlockHead). y.rows) hs k x lt in
    let all = d.rows in
    let few = a.rows in
    omega (arith, one, all, few)

-- ---- the bytes
-- all of them were read
pub record AllRead (b : List ℕ) (h : Header) : Type 0 where
  pub header : AreBytes b 0 HEADER_BYTES
  pub vocabulary : AreBytes b vocabulary_at h.vocabulary_len
  pub offsets : AreBytes b (offsets_at h) (NUMBER_BYTES * (h.docs + 1))
  pub titles : AreBytes b (titles_at h) h.titles_len
  pub directory : AreBytes b (directory_at h) (entry_size h.two * h.blocks)
  pub blocks : AreBytes b (blocks_at h) h.blocks_len

pub read_whole : (b : List ℕ) (h : Header) → IsHeaderOf b h → AllRead b h → All (λ x. x < 2 ^ 8) b
read_whole b h is r =
    let one = more_front b HEADER_BYTES h.vocabulary_len r.header r.vocabulary in
    let two = more_front b (offsets_at h) (NUMBER_BYTES * (h.docs + 1)) one r.offsets in
    let three = more_front b (titles_at h) h.titles_len two r.titles in
    let four = more_front b (directory_at h) (entry_size h.two * h.blocks) three r.directory in
    all_bytes b (size_by h) is.size (more_front b (blocks_at h) h.blocks_len four r.blocks)

-- ---- the index of bytes
pub same_index : (docs docs' target target' t t' p p' : ℕ) (w w' : Weights) (ws ws' : List (List ℕ)) (os os' : List ℕ) (hs hs' : List BlockHead)
    → docs ≡ docs' → ws ≡ ws' → os ≡ os' → hs ≡ hs' → target ≡ target' → w ≡ w' → t ≡ t' → p ≡ p'
    → let x : IndexView = record { docs = docs; words = ws; offsets = os; heads = hs; target = target; weights = w; titles_at = t; blocks_at = p } in
    let y : IndexView = record { docs = docs'; words = ws'; offsets = os'; heads = hs'; target = target'; weights = w'; titles_at = t'; blocks_at = p' } in
    x ≡ y
same_index docs docs' target target' t t' p p' w w' ws ws' os os' hs hs' a b c d e f g h = rw (a, b, c, d, e, f, g, h) refl

pub index_is : (b : List ℕ) (h : Header) (i : IndexView) → IsHeaderOf b h → i.docs ≡ h.docs → i.words ≡ file_words b → i.offsets ≡ offsets_of b
    → i.heads ≡ heads_of b → i.target ≡ h.target → i.weights ≡ weights_of h.weights → i.titles_at ≡ titles_at h → i.blocks_at ≡ blocks_at h → i ≡ index_in b
unfolding index_in file_words offsets_of heads_of
index_is b h i is docs words offsets heads target weights titles blocks =
    let back : h ≡ header_of b = sym is.numbers in
    same_index i.docs (header_of b).docs i.target (header_of b).target i.titles_at (titles_at (header_of b)) i.blocks_at (blocks_at (header_of b))
    i.weights (weights_of (header_of b).weights) i.words _ i.offsets _ i.heads _
    (docs ∙ ap (λ (x : Header). x.docs) back) words offsets heads (target ∙ ap (λ (x : Header). x.target) back)
    (weights ∙ ap (λ (x : Header). weights_of x.weights) back) (titles ∙ ap titles_at back)
    (blocks ∙ ap blocks_at back)

pub stands_for : (b : List ℕ) (h : Header) (i : IndexView) → IsHeaderOf b h → AllRead b h → header_stage b ≡ None → vocabulary_stage b ≡ None
    → titles_stage b ≡ None → directory_stage b ≡ None → blocks_stage b ≡ None → parts_stage b ≡ None → i ≡ index_in b → StandsFor b i
stands_for b h i is read p q r s t u same = record {
  bytes = read_whole b h is read;
  accepted = from_parts b p q r s t ∙ u;
  index = same;
}

pub fits_store : (told : Option (List ℕ)) (h : Header) (i : IndexView) → HasHeader told h → Kept h i → HasAllBlocks told i
fits_store told h i has k = λ b t.
    let size = (has b t).size in
    let lens = all_lens i in
    let bytes = k.heads.bytes in
    let place = k.blocks_place in
    omega (arith, size, lens, bytes, place)
