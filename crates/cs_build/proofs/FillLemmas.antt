-- Posts go into the block of the run that has their word, and into no other.
--
--   IsOnly            one run of some has a word
--   only_place        the run of a word stands at the word's place
--   no_posts          blocks before there are posts
--   IsRoomy, roomy    the block that a post goes into has room for it
--   one_post          one post more
--   all_posts         the blocks in the end
--   can_next, taken_next         blocks take the first of some posts
--   can_front, can_behind, taken-append      blocks take posts one part after another
--   can_all           blocks without posts can take all posts of their runs
use Rattle.std.proofs.Common.{◌≡◌, ℕ, zero, suc, ◌+◌, ◌-◌, ◌<◌, ◌≤◌, ◌&&◌, true, false, cond, List, [], ◌∷◌, ◌++◌, length, map, take, drop, get_or, set, replicate, refl, sym, ◌∙◌, ap, subst, inl, inr, arith, append_assoc, append-nil, length-append, drop-cons, add-one}
use Rattle.std.specs.Prelude.{filter, nat_lt, nat_le}
use Rattle.std.specs.List.{AllByRecursion}
use Rattle.std.proofs.lemmas.Bool.{cases_lt}
use Rattle.std.proofs.lemmas.Bool.Decides.{nat_tests}
use Rattle.std.proofs.lemmas.List.{length-replicate, take_all}
use Rattle.std.proofs.lemmas.List.Elements.{filter-append}
use Rattle.cs_base.specs.declared.content.doc.Post.{Post}
use Rattle.cs_cols.specs.declared.cols.Cols.{Cols}
use Rattle.cs_build.specs.WordRuns.{has_word, AreSpans, run_places_from, is_within, CountsRows, IsPushed, CanTake, AreFilled, AreTaken}
use Rattle.cs_build.specs.declared.parting.Run.{Run}

-- ---- the run of a word
-- run number k has word number n, and no other has it
abbrev pub IsOnly : List Run → ℕ → ℕ → Type 0
IsOnly [] k n = ⊥
IsOnly (run ∷ runs) zero n = (has_word run n ≡ true) × AllByRecursion (λ r. has_word r n ≡ false) runs
IsOnly (run ∷ runs) (suc k) n = (has_word run n ≡ false) × IsOnly runs k n

has_not : (lo words n a : ℕ) → a ≡ lo → n < lo → (nat_le a n && nat_lt n (a + words)) ≡ false
has_not lo words n a e h = grind (arith, nat_tests)

has_not_past : (lo words n a : ℕ) → a ≡ lo → lo + words ≤ n → (nat_le a n && nat_lt n (a + words)) ≡ false
has_not_past lo words n a e h = grind (arith, nat_tests)

has_it : (lo words n a : ℕ) → a ≡ lo → lo ≤ n → n < lo + words → (nat_le a n && nat_lt n (a + words)) ≡ true
has_it lo words n a e h l = grind (arith, nat_tests)

-- runs that begin behind a word don't have it
none_before : (lo end n : ℕ) (runs : List Run) → AreSpans lo runs end → n < lo → AllByRecursion (λ r. has_word r n ≡ false) runs
none_before lo end n [] s h = tt
none_before lo end n (run ∷ runs) s h = (has_not lo run.words n run.lo s.0 h, none_before (lo + run.words) end n runs s.1 (omega (arith, h)))

pub record HasPlace (k lo : ℕ) (runs : List Run) (n : ℕ) : Type 0 where
  pub j : ℕ
  pub at : get_or (run_places_from k runs) (n - lo) 0 ≡ k + j
  pub only : IsOnly runs j n
  pub inside : j < length runs

get_behind : (m k i : ℕ) (xs : List ℕ) → m ≤ i → get_or (replicate m k ++ xs) i 0 ≡ get_or xs (i - m) 0
get_behind zero k i xs h = ap (λ j. get_or xs j 0) (omega arith)
get_behind (suc m) k zero xs h = absurd (omega arith)
get_behind (suc m) k (suc i) xs h = get_behind m k i xs (omega arith) ∙ ap (λ j. get_or xs j 0) (omega arith)

get_within : (m k i : ℕ) (xs : List ℕ) → i < m → get_or (replicate m k ++ xs) i 0 ≡ k
get_within zero k i xs h = absurd (omega arith)
get_within (suc m) k zero xs h = refl
get_within (suc m) k (suc i) xs h = get_within m k i xs (omega arith)

pub only_place : (k lo end n : ℕ) (runs : List Run) → AreSpans lo runs end → lo ≤ n → n < end → HasPlace k lo runs n
only_place k lo end n [] s h l = absurd (omega (arith, s, h, l))
only_place k lo end n (run ∷ runs) s h l =
    elim (cases_lt n (lo + run.words)) [
      | inl less ↦ record {
        j = 0;
        at = get_within run.words k (n - lo) (run_places_from (k + 1) runs) (omega (arith, less, h)) ∙ omega arith;
        only = (has_it lo run.words n run.lo s.0 h less, none_before (lo + run.words) end n runs s.1 less);
        inside = omega arith;
      }
      | inr more ↦
          let p = only_place (k + 1) (lo + run.words) end n runs s.1 more l in
          record {
            j = suc p.j;
            at = get_behind run.words k (n - lo) (run_places_from (k + 1) runs) (omega (arith, more)) ∙ ap (λ i. get_or (run_places_from (k + 1) runs) i 0) (omega (arith, more)) ∙ p.at ∙ omega arith;
            only = (has_not_past lo run.words n run.lo s.0 more, p.only);
            inside = omega (arith, p.inside);
          }
    ]

-- ---- the places
spans_on : (lo end : ℕ) (runs : List Run) → AreSpans lo runs end → lo ≤ end
spans_on lo end [] s = omega (arith, s)
spans_on lo end (run ∷ runs) s = let rest = spans_on (lo + run.words) end runs s.1 in omega (arith, rest)

pub places_many : (k lo end : ℕ) (runs : List Run) → AreSpans lo runs end → length (run_places_from k runs) + lo ≡ end
places_many k lo end [] s = omega (arith, s)
places_many k lo end (run ∷ runs) s =
    let rest = places_many (k + 1) (lo + run.words) end runs s.1 in
    omega (arith, rest, length-append (replicate run.words k) (run_places_from (k + 1) runs), length-replicate run.words k)

pub record NextPlaces (places : List ℕ) (i words : ℕ) (runs : List Run) : Type 0 where
  pub told : places ++ run_places_from i (drop i runs) ≡ run_places_from 0 runs
  pub spans : AreSpans (length places) (drop i runs) words

next_run : (runs : List Run) (i : ℕ) (d : Run) → i < length runs → drop i runs ≡ get_or runs i d ∷ drop (i + 1) runs
next_run runs i d l = drop-cons runs i d l ∙ ap (λ n. get_or runs i d ∷ drop n runs) (sym (add-one i))

pub next_span : (places : List ℕ) (i words : ℕ) (runs : List Run) (d : Run) → i < length runs → NextPlaces places i words runs → ((get_or runs i d).lo ≡ length places) × AreSpans (length places + (get_or runs i d).words) (drop (i + 1) runs) words
next_span places i words runs d l n = subst (λ rs. AreSpans (length places) rs words) (next_run runs i d l) n.spans

pub span_ends : (places : List ℕ) (i words : ℕ) (runs : List Run) (d : Run) → i < length runs → NextPlaces places i words runs → (get_or runs i d).lo + (get_or runs i d).words ≤ words
span_ends places i words runs d l n = let s = next_span places i words runs d l n in omega (arith, s.0, spans_on (length places + (get_or runs i d).words) words (drop (i + 1) runs) s.1)

pub next_places : (places new : List ℕ) (i words n len : ℕ) (runs : List Run) (d : Run) → i < length runs → n ≡ (get_or runs i d).lo + (get_or runs i d).words → len ≡ length places → new ≡ take n places ++ replicate (n - len) i → NextPlaces places i words runs → NextPlaces new (i + 1) words runs
next_places places new i words n len runs d l is many e p =
    let s = next_span places i words runs d l p in
    let run = get_or runs i d in
    let all : take n places ≡ places = take_all n places (omega (arith, is, s.0)) in
    let more : n - len ≡ run.words = omega (arith, is, many, s.0) in
    let told : new ≡ places ++ replicate run.words i = e ∙ ap (λ x. x ++ replicate (n - len) i) all ∙ ap (λ k. places ++ replicate k i) more in
    record {
      told = ap (λ x. x ++ run_places_from (i + 1) (drop (i + 1) runs)) told ∙ append_assoc places (replicate run.words i) (run_places_from (i + 1) (drop (i + 1) runs))
          ∙ ap (λ rs. places ++ run_places_from i rs) (sym (next_run runs i d l)) ∙ p.told;
      spans = subst (λ k. AreSpans k (drop (i + 1) runs) words) (sym (ap length told ∙ length-append places (replicate run.words i) ∙ ap (λ k. length places + k) (length-replicate run.words i))) s.1;
    }

-- the place of a word
pub record IsPlaced (runs : List Run) (n k : ℕ) : Type 0 where
  pub only : IsOnly runs k n
  pub inside : k < length runs

pub placed : (runs : List Run) (words n k : ℕ) → AreSpans 0 runs words → n < words → k ≡ get_or (run_places_from 0 runs) n 0 → IsPlaced runs n k
placed runs words n k s l e =
    let p = only_place 0 0 words n runs s (omega arith) l in
    let same : p.j ≡ k = omega (arith, p.at, e, ap (λ (m : ℕ). get_or (run_places_from 0 runs) m 0) (let z : n - 0 ≡ n = omega arith in z)) in
    record { only = subst (λ j. IsOnly runs j n) same p.only; inside = omega (arith, same, p.inside) }

-- ---- one post more
kept : (run : Run) (p : Post) (posts : List Post) → has_word run p.word ≡ true → filter (is_within run) (posts ++ p ∷ []) ≡ filter (is_within run) posts ++ p ∷ []
kept run p posts e = filter-append (is_within run) posts (p ∷ []) ∙ ap (λ b. filter (is_within run) posts ++ cond b (p ∷ []) []) e

left_out : (run : Run) (p : Post) (posts : List Post) → has_word run p.word ≡ false → filter (is_within run) (posts ++ p ∷ []) ≡ filter (is_within run) posts
left_out run p posts e = filter-append (is_within run) posts (p ∷ []) ∙ ap (λ b. filter (is_within run) posts ++ cond b (p ∷ []) []) e ∙ nil (filter (is_within run) posts)
  where
    nil : (xs : List Post) → xs ++ [] ≡ xs
    nil [] = refl
    nil (x ∷ xs) = ap (λ l. x ∷ l) (nil xs)

others_filled : (p : Post) (posts : List Post) (runs : List Run) (blocks : List Cols) → AllByRecursion (λ r. has_word r p.word ≡ false) runs → AreFilled posts runs blocks → AreFilled (posts ++ p ∷ []) runs blocks
others_filled p posts [] [] none f = tt
others_filled p posts [] (b ∷ blocks) none f = absurd f
others_filled p posts (run ∷ runs) [] none f = absurd f
others_filled p posts (run ∷ runs) (b ∷ blocks) none f = (f.0 ∙ sym (left_out run p posts none.0), f.1, others_filled p posts runs blocks none.1 f.2)

pub one_post : (p : Post) (posts : List Post) (runs : List Run) (blocks : List Cols) (k : ℕ) (d x : Cols) → IsOnly runs k p.word → AreFilled posts runs blocks
    → x.posts ≡ (get_or blocks k d).posts ++ p ∷ [] → (get_or blocks k d).room ≤ x.room + 1 → AreFilled (posts ++ p ∷ []) runs (set blocks k x)
one_post p posts [] blocks k d x o f e r = absurd o
one_post p posts (run ∷ runs) [] k d x o f e r = absurd f
one_post p posts (run ∷ runs) (b ∷ blocks) zero d x o f e r = (
  e ∙ ap (λ ps. ps ++ p ∷ []) f.0 ∙ sym (kept run p posts o.0),
  omega (arith, f.1, r, ap length e, length-append b.posts (p ∷ [])),
  others_filled p posts runs blocks o.1 f.2,
)
one_post p posts (run ∷ runs) (b ∷ blocks) (suc k) d x o f e r = (f.0 ∙ sym (left_out run p posts o.0), f.1, one_post p posts runs blocks k d x o.1 f.2 e r)

-- its block has room: the run has more rows than the block has posts
more_to_come : (run : Run) (p : Post) (posts rest all : List Post) → has_word run p.word ≡ true → all ≡ posts ++ p ∷ rest → length (filter (is_within run) posts) < length (filter (is_within run) all)
more_to_come run p posts rest all h e =
    let whole : filter (is_within run) all ≡ filter (is_within run) posts ++ p ∷ filter (is_within run) rest =
    ap (filter (is_within run)) e ∙ filter-append (is_within run) posts (p ∷ rest) ∙ ap (λ b. filter (is_within run) posts ++ cond b (p ∷ filter (is_within run) rest) (filter (is_within run) rest)) h in
    omega (arith, ap length whole, length-append (filter (is_within run) posts) (p ∷ filter (is_within run) rest))

pub roomy : (p : Post) (posts rest all : List Post) (runs : List Run) (blocks : List Cols) (k : ℕ) (d : Cols) → all ≡ posts ++ p ∷ rest → IsOnly runs k p.word → AllByRecursion (CountsRows all) runs → AreFilled posts runs blocks → 1 ≤ (get_or blocks k d).room
roomy p posts rest all [] blocks k d e o c f = absurd o
roomy p posts rest all (run ∷ runs) [] k d e o c f = absurd f
roomy p posts rest all (run ∷ runs) (b ∷ blocks) zero d e o c f =
    let m = more_to_come run p posts rest all o.0 e in
    omega (arith, m, c.0, f.1, ap length f.0)
roomy p posts rest all (run ∷ runs) (b ∷ blocks) (suc k) d e o c f = roomy p posts rest all runs blocks k d e o.1 c.1 f.2

-- ---- at the beginning and in the end
pub filled_many : (posts : List Post) (runs : List Run) (blocks : List Cols) → AreFilled posts runs blocks → length runs ≡ length blocks
filled_many posts [] [] f = refl
filled_many posts [] (b ∷ blocks) f = absurd f
filled_many posts (run ∷ runs) [] f = absurd f
filled_many posts (run ∷ runs) (b ∷ blocks) f = ap (λ n. suc n) (filled_many posts runs blocks f.2)

pub one_block : (posts : List Post) (runs : List Run) (blocks : List Cols) (run : Run) (b : Cols) → AreFilled posts runs blocks → b.posts ≡ filter (is_within run) posts → run.rows ≤ b.room + length b.posts → AreFilled posts (runs ++ run ∷ []) (blocks ++ b ∷ [])
one_block posts [] [] run b f e r = (e, r, tt)
one_block posts [] (c ∷ blocks) run b f e r = absurd f
one_block posts (s ∷ runs) [] run b f e r = absurd f
one_block posts (s ∷ runs) (c ∷ blocks) run b f e r = (f.0, f.1, one_block posts runs blocks run b f.2 e r)

pub all_posts : (posts : List Post) (runs : List Run) (blocks : List Cols) → AreFilled posts runs blocks → map (λ b. b.posts) blocks ≡ map (λ run. filter (is_within run) posts) runs
all_posts posts [] [] f = refl
all_posts posts [] (b ∷ blocks) f = absurd f
all_posts posts (run ∷ runs) [] f = absurd f
all_posts posts (run ∷ runs) (b ∷ blocks) f = ap (λ x. x ∷ map (λ b. b.posts) blocks) f.0 ∙ ap (λ l. filter (is_within run) posts ∷ l) (all_posts posts runs blocks f.2)

-- the place of a word that is read
place_at : (runs : List Run) (words n : ℕ) (places : List ℕ) → AreSpans 0 runs words → n < words → places ≡ run_places_from 0 runs → IsPlaced runs n (get_or places n 0)
place_at runs words n places s l e = placed runs words n (get_or places n 0) s l (ap (λ xs. get_or xs n 0) e)

-- ---- blocks that take posts
all-front : (n : ℕ) (ps qs : List Post) → AllByRecursion (λ p. p.word < n) (ps ++ qs) → AllByRecursion (λ p. p.word < n) ps
all-front n [] qs h = tt
all-front n (p ∷ ps) qs h = (h.0, all-front n ps qs h.1)

all-behind : (n : ℕ) (ps qs : List Post) → AllByRecursion (λ p. p.word < n) (ps ++ qs) → AllByRecursion (λ p. p.word < n) qs
all-behind n [] qs h = h
all-behind n (p ∷ ps) qs h = all-behind n ps qs h.1

-- the first of posts is taken, and then the others
module _ (places : List ℕ) (blocks : List Cols) (p : Post) (rest posts : List Post) (e : posts ≡ p ∷ rest) (first : CanTake places blocks posts) where
  can : CanTake places blocks (p ∷ rest)
  can = subst (CanTake places blocks) e first

  place : IsPlaced can.runs p.word (get_or places p.word 0)
  place = place_at can.runs can.words p.word places can.spans can.below.0 can.placed

  pub word_known : p.word < length places
  word_known = omega (arith, can.below.0, ap length can.placed, places_many 0 0 can.words can.runs can.spans)

  pub place_inside : get_or places p.word 0 < length blocks
  place_inside = omega (arith, place.inside, filled_many can.before can.runs blocks can.filled)

  pub place_roomy : (d : Cols) → 1 ≤ (get_or blocks (get_or places p.word 0) d).room
  place_roomy d = roomy p can.before (rest ++ can.behind) (can.before ++ (p ∷ rest ++ can.behind)) can.runs blocks (get_or places p.word 0) d refl place.only can.counted can.filled

  pub can_next : (new : List Cols) → IsPushed blocks (get_or places p.word 0) p new → CanTake places new rest
  can_next new x = record {
    runs = can.runs;
    words = can.words;
    spans = can.spans;
    placed = can.placed;
    below = can.below.1;
    before = can.before ++ p ∷ [];
    behind = can.behind;
    filled = subst (AreFilled (can.before ++ p ∷ []) can.runs) (sym x.set) (one_post p can.before can.runs blocks (get_or places p.word 0) x.block x.block place.only can.filled x.posts x.room);
    counted = subst (λ ps. AllByRecursion (CountsRows ps) can.runs) (sym (append_assoc can.before (p ∷ []) (rest ++ can.behind))) can.counted;
  }

  pub taken_next : (new end : List Cols) → IsPushed blocks (get_or places p.word 0) p new → AreTaken places rest new end → AreTaken places posts blocks end
  taken_next new end x more = subst (λ ps. AreTaken places ps blocks end) (sym e) (λ runs words before spans placed below filled.
      let place = place_at runs words p.word places spans below.0 placed in
      let one : AreFilled (before ++ p ∷ []) runs new = subst (AreFilled (before ++ p ∷ []) runs) (sym x.set) (one_post p before runs blocks (get_or places p.word 0) x.block x.block place.only filled x.posts x.room) in
      subst (λ ps. AreFilled ps runs end) (append_assoc before (p ∷ []) rest) (more runs words (before ++ p ∷ []) spans placed below.1 one))

pub none_taken : (places : List ℕ) (blocks : List Cols) → AreTaken places [] blocks blocks
none_taken places blocks = λ runs words before spans placed below filled. subst (λ ps. AreFilled ps runs blocks) (sym (append-nil before)) filled

-- posts that are taken one part after another
pub can_front : (places : List ℕ) (blocks : List Cols) (ps qs : List Post) → CanTake places blocks (ps ++ qs) → CanTake places blocks ps
can_front places blocks ps qs can = record {
  runs = can.runs;
  words = can.words;
  spans = can.spans;
  placed = can.placed;
  below = all-front can.words ps qs can.below;
  before = can.before;
  behind = qs ++ can.behind;
  filled = can.filled;
  counted = subst (λ x. AllByRecursion (CountsRows (can.before ++ x)) can.runs) (append_assoc ps qs can.behind) can.counted;
}

pub can_behind : (places : List ℕ) (blocks new : List Cols) (ps qs : List Post) → CanTake places blocks (ps ++ qs) → AreTaken places ps blocks new → CanTake places new qs
can_behind places blocks new ps qs can taken = record {
  runs = can.runs;
  words = can.words;
  spans = can.spans;
  placed = can.placed;
  below = all-behind can.words ps qs can.below;
  before = can.before ++ ps;
  behind = can.behind;
  filled = taken can.runs can.words can.before can.spans can.placed (all-front can.words ps qs can.below) can.filled;
  counted = subst (λ x. AllByRecursion (CountsRows x) can.runs) (ap (λ x. can.before ++ x) (append_assoc ps qs can.behind) ∙ sym (append_assoc can.before ps (qs ++ can.behind))) can.counted;
}

pub taken-append : (places : List ℕ) (blocks mid new : List Cols) (ps qs : List Post) → AreTaken places ps blocks mid → AreTaken places qs mid new → AreTaken places (ps ++ qs) blocks new
taken-append places blocks mid new ps qs a b = λ runs words before spans placed below filled.
    subst (λ x. AreFilled x runs new) (append_assoc before ps qs)
    (b runs words (before ++ ps) spans placed (all-behind words ps qs below) (a runs words before spans placed (all-front words ps qs below) filled))

-- blocks without posts, and blocks that took all posts of their runs
pub can_all : (places : List ℕ) (blocks : List Cols) (runs : List Run) (words : ℕ) (posts : List Post) → AreSpans 0 runs words → places ≡ run_places_from 0 runs → AreFilled [] runs blocks
    → AllByRecursion (λ p. p.word < words) posts → AllByRecursion (CountsRows posts) runs → CanTake places blocks posts
can_all places blocks runs words posts spans placed filled below counted = record {
  runs = runs;
  words = words;
  spans = spans;
  placed = placed;
  below = below;
  before = [];
  behind = [];
  filled = filled;
  counted = subst (λ x. AllByRecursion (CountsRows x) runs) (sym (append-nil posts)) counted;
}
