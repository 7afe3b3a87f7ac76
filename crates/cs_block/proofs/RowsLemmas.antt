-- Rows that keep the rules, against rows that have a spelling.
--
--   sorted_from             rows each of which is behind the one before it ascend
--   writable_from           rows that have a spelling and ascend can be held by a block
--   HaveBytes w             each of three weights has a byte
--   spelling_from           rows that a block can hold and that keep the rules have a spelling, where each weight has a byte
--   ascending, have_words   what writing the columns asks of rows that a block can hold
use Rattle.std.proofs.Common.{◌≡◌, ℕ, ◌+◌, ◌^◌, ◌<◌, ◌≤◌, Bool, true, false, ltb, List, [], ◌∷◌, Option, Some, None, arith}
use Rattle.std.specs.Prelude.{All}
use Rattle.std.specs.List.{AllByRecursion}
use Rattle.std.specs.List.Sorted.{IsStrictlySortedBy}
use Rattle.std.specs.declared.cmp.Ordering.TheVariants.{Less}
use Rattle.std.proofs.lemmas.Bool.{and_parts, ltb-true}
use Rattle.std.proofs.lemmas.Bool.Decides.{nat_tests}
use Rattle.std.proofs.lemmas.List.Elements.{All-from_recursion, recursion_from_All}
use Rattle.cs_base.specs.content.Orders.{by_place}
use Rattle.cs_base.specs.declared.index.block.BlockHead.{BlockHead}
use Rattle.cs_base.specs.declared.content.doc.Post.{Post}
use Rattle.cs_base.specs.declared.content.scores.Weights.{Weights}
use Rattle.cs_base.proofs.OrdersLemmas.{by_place_total, Comes, comes-from_lt, comes_first, less-from_test}
use Rattle.cs_base.proofs.MembersLemmas.{all_then}
use Rattle.cs_model_index.specs.Blocks.{AreWritable}
use Rattle.cs_model_index.specs.BlockRules.{doc_before, is_after, is_scored, keeps, in_docs, in_kind}
use Rattle.cs_block.specs.BlockSpelling.{HasSpelling, IsAscending, HasWords}

-- ---- rows in order

sorted_behind : (p : Post) (rs : List Post) → keeps is_after (Some p) rs ≡ true → AllByRecursion (λ y. by_place p y ≡ Less) rs × IsStrictlySortedBy by_place rs
unfolding keeps IsStrictlySortedBy
sorted_behind p [] h = (tt, tt)
sorted_behind p (r ∷ rs) h =
    let q = and_parts (is_after (Some p) r) (keeps is_after (Some r) rs) h in
    let t = sorted_behind r rs q.1 in
    let less = less-from_test p r q.0 in
    ((less, all_then (λ y. by_place r y ≡ Less) (λ y. by_place p y ≡ Less) (λ z more. by_place_total.trans p r z less more) rs t.0), t)

pub sorted_from : (rs : List Post) → keeps is_after None rs ≡ true → IsStrictlySortedBy by_place rs
unfolding keeps IsStrictlySortedBy
sorted_from [] h = tt
sorted_from (r ∷ rs) h = sorted_behind r rs (and_parts true (keeps is_after (Some r) rs) h).1

-- ---- rows that a block can hold

words_of : (lo before : ℕ) (rs : List Post) → HasSpelling lo before rs → AllByRecursion (λ r. (lo ≤ r.word) × (r.word < lo + 2 ^ 16)) rs
unfolding HasSpelling
words_of lo before [] h = tt
words_of lo before (r ∷ rs) h = ((h.0.word_from, h.0.word_below), words_of lo r.doc rs h.1)

pub writable_from : (lo before : ℕ) (rs : List Post) → HasSpelling lo before rs → keeps is_after None rs ≡ true → AreWritable lo rs
writable_from lo before rs h e = record { sorted = sorted_from rs e; words = All-from_recursion _ rs (words_of lo before rs h) }

-- of a weight that is kept in a byte
pub record HaveBytes (w : Weights) : Type 0 where
  pub title : w.title < 256
  pub facet : w.facet < 256
  pub text : w.text < 256

scored_small : (w : Weights) (facet : Bool) (r : Post) → HaveBytes w → is_scored w facet r ≡ true → (r.pos < 2 ^ 32) × (r.score < 256)
scored_small w true r fits h = let facet = fits.facet in grind (arith, nat_tests)
scored_small w false r fits h = let title = fits.title in let text = fits.text in grind (arith, nat_tests)

onward_by : (p r : Post) → Comes p r → p.doc ≤ r.doc
onward_by p r h = grind arith

onward : (last : Option Post) (r : Post) → is_after last r ≡ true → doc_before last ≤ r.doc
onward None r h = omega arith
onward (Some p) r h = onward_by p r (comes-from_lt p r h)

spelling_by : (w : Weights) (head : BlockHead) (docs : ℕ) (last : Option Post) (rs : List Post) → HaveBytes w → docs < 2 ^ 32
    → AllByRecursion (λ r. (head.lo ≤ r.word) × (r.word < head.lo + 2 ^ 16)) rs
    → keeps (in_docs docs).holds last rs ≡ true → keeps (in_kind w head).holds last rs ≡ true → keeps is_after last rs ≡ true
    → HasSpelling head.lo (doc_before last) rs
unfolding keeps HasSpelling
spelling_by w head docs last [] fits few words d s o = tt
spelling_by w head docs last (r ∷ rs) fits few words d s o =
    let dp = and_parts (ltb r.doc docs) (keeps (in_docs docs).holds (Some r) rs) d in
    let sp = and_parts (is_scored w head.facet r) (keeps (in_kind w head).holds (Some r) rs) s in
    let op = and_parts (is_after last r) (keeps is_after (Some r) rs) o in
    let below : r.doc < docs = ltb-true r.doc docs dp.0 in
    let small = scored_small w head.facet r fits sp.0 in (
      record { onward = onward last r op.0; gap = omega arith; word_from = words.0.0; word_below = words.0.1; pos = small.0; score = small.1 },
      spelling_by w head docs (Some r) rs fits few words.1 dp.1 sp.1 op.1,
    )

pub spelling_from : (w : Weights) (head : BlockHead) (docs : ℕ) (rs : List Post) → HaveBytes w → docs < 2 ^ 32
    → All (λ r. (head.lo ≤ r.word) × (r.word < head.lo + 2 ^ 16)) rs
    → keeps (in_docs docs).holds None rs ≡ true → keeps (in_kind w head).holds None rs ≡ true → keeps is_after None rs ≡ true → HasSpelling head.lo 0 rs
spelling_from w head docs rs fits few words d s o = spelling_by w head docs None rs fits few (recursion_from_All _ rs words) d s o

-- ---- what writing asks

ascending_behind : (p : Post) (rs : List Post) → AllByRecursion (λ y. by_place p y ≡ Less) rs → IsStrictlySortedBy by_place rs → IsAscending p.doc rs
unfolding IsStrictlySortedBy IsAscending
ascending_behind p [] a h = tt
ascending_behind p (r ∷ rs) a h = (onward_by p r (comes_first p r a.0), ascending_behind r rs h.0 h.1)

pub ascending : (rs : List Post) → IsStrictlySortedBy by_place rs → IsAscending 0 rs
unfolding IsStrictlySortedBy IsAscending
ascending [] h = tt
ascending (r ∷ rs) h = (omega arith, ascending_behind r rs h.0 h.1)

have_words_by : (lo : ℕ) (rs : List Post) → AllByRecursion (λ r. (lo ≤ r.word) × (r.word < lo + 2 ^ 16)) rs → HasWords lo rs
unfolding HasWords
have_words_by lo [] h = tt
have_words_by lo (r ∷ rs) h = (h.0.0, h.0.1, have_words_by lo rs h.1)

pub have_words : (lo : ℕ) (rs : List Post) → All (λ r. (lo ≤ r.word) × (r.word < lo + 2 ^ 16)) rs → HasWords lo rs
have_words lo rs h = have_words_by lo rs (recursion_from_All _ rs h)
