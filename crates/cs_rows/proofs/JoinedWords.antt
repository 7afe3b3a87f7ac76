-- Words of alternatives as one range.
--
--   joined_has         the words of two ranges as one
--   joined_met, joined_hit     how many blocks hold them, and how many that hits reach
--   WordsSoFar         the words of the first chains as one range
--   words_begin, words_go_on, words_end, sharp_end     before the first chain, behind one more, and behind the last
use Rattle.std.proofs.Common.{◌≡◌, ℕ, ◌+◌, ◌<◌, ◌≤◌, ◌&&◌, ◌||◌, Bool, true, false, true≢false, cond, List, [], ◌∷◌, ◌++◌, length, get_or, map, take}
use Rattle.std.proofs.Common.{refl, sym, ap, subst, ◌∙◌, arith, inl, inr, ◌⊎◌}
use Rattle.std.specs.Prelude.{All, filter, nat_le, nat_lt, sum}
use Rattle.std.specs.List.{AllByRecursion, Contains, list_any}
use Rattle.std.proofs.lemmas.Bool.Decides.{nat_tests}
use Rattle.std.proofs.lemmas.List.{map-append, take_all, take_more}
use Rattle.std.proofs.lemmas.List.Elements.{All-contains, All-contains_itself, All-from_recursion, All-weaker, Contains-append_left, Contains-append_right}
use Rattle.std.proofs.lemmas.List.Elements.{Contains-get_or, recursion_from_All}
use Rattle.std.proofs.lemmas.List.Folds.{list_any-append}
use Rattle.std.proofs.lemmas.List.Sums.{sum_by_push}
use Rattle.cs_base.specs.content.Orders.{AreSorted}
use Rattle.cs_base.specs.declared.content.doc.Base.{Base}
use Rattle.cs_base.specs.declared.content.doc.Post.{Post}
use Rattle.cs_base.specs.declared.content.query.Chain.{Chain}
use Rattle.cs_base.specs.declared.content.query.Part.{Part, out-Part}
use Rattle.cs_base.specs.declared.index.block.BlockHead.{BlockHead}
use Rattle.cs_file.specs.Indexes.{StandsFor, is_met}
use Rattle.cs_file.proofs.HeadsLemmas.{head_filled}
use Rattle.cs_model.specs.Answers.{rows_of_chain, rows_of_part}
use Rattle.cs_model_kept.specs.Due.{Division, met_of_chain, met_of_part}
use Rattle.cs_rows.specs.IndexReading.{division, HasRows}
use Rattle.cs_rows.specs.Packing.{IsOrdered}
use Rattle.cs_rows.specs.Plain.{AreJoined, AreSharp, AreWordsOf}
use Rattle.cs_rows.specs.Skipping.{hit_met, hit_of_chain, hit_of_part, may_hit}
use Rattle.cs_rows.specs.Sources.{IsSource, SourceView, met_in}
use Rattle.cs_rows.specs.Stocked.{corpus_in, is_between}
use Rattle.cs_rows.proofs.AlternativesLemmas.{ListsSoFar, lists_begin, lists_end, lists_go_on, ordered_none}
use Rattle.cs_rows.proofs.AskedWords.{empty_met}
use Rattle.cs_rows.proofs.AtomsLemmas.{picked_between}
use Rattle.cs_rows.proofs.EvaluationLemmas.{met_part-is}

-- ---- numbers
abbrev has : ℕ × ℕ → ℕ → Bool
has a n = nat_le a.0 n && nat_lt n a.1

inside_test : (lo hi l h n : ℕ) → (l ≡ h) ⊎ ((lo ≤ l) × (h ≤ hi))
    → (nat_le lo n && nat_lt n hi) ≡ ((nat_le lo n && nat_lt n hi) || (nat_le l n && nat_lt n h))
inside_test lo hi l h n (inl none) = grind (arith, nat_tests)
inside_test lo hi l h n (inr (from, to)) = grind (arith, nat_tests)

next_test : (x m y n : ℕ) → x ≤ m → m ≤ y → (nat_le x n && nat_lt n y) ≡ ((nat_le x n && nat_lt n m) || (nat_le m n && nat_lt n y))
next_test x m y n from to = grind (arith, nat_tests)

or_turned : (p q : Bool) → (p || q) ≡ (q || p)
or_turned true true = refl
or_turned true false = refl
or_turned false true = refl
or_turned false false = refl

joined_has : (a b w : ℕ × ℕ) → a.0 ≤ a.1 → b.0 ≤ b.1 → AreJoined a b w → (n : ℕ) → has w n ≡ (has a n || has b n)
joined_has a b w up_a up_b (inl (inside, same)) n = ap (λ x. has x n) same ∙ inside_test a.0 a.1 b.0 b.1 n inside
joined_has a b w up_a up_b (inr (inl (inside, same))) n =
    ap (λ x. has x n) same ∙ inside_test b.0 b.1 a.0 a.1 n inside ∙ or_turned (has b n) (has a n)
joined_has a b w up_a up_b (inr (inr (inl (ends, same)))) n =
    ap (λ x. has x n) same ∙ next_test a.0 a.1 b.1 n up_a (omega (arith, ends, up_b)) ∙ ap (λ m. has a n || (nat_le m n && nat_lt n b.1)) ends
joined_has a b w up_a up_b (inr (inr (inr (ends, same)))) n =
    ap (λ x. has x n) same ∙ next_test b.0 b.1 a.1 n up_b (omega (arith, ends, up_a)) ∙ ap (λ m. has b n || (nat_le m n && nat_lt n a.1)) ends
    ∙ or_turned (has b n) (has a n)

joined_up : (a b w : ℕ × ℕ) → a.0 ≤ a.1 → b.0 ≤ b.1 → AreJoined a b w → w.0 ≤ w.1
joined_up a b w up_a up_b (inl (inside, same)) = subst (λ (x : ℕ × ℕ). x.0 ≤ x.1) (sym same) up_a
joined_up a b w up_a up_b (inr (inl (inside, same))) = subst (λ (x : ℕ × ℕ). x.0 ≤ x.1) (sym same) up_b
joined_up a b w up_a up_b (inr (inr (inl (ends, same)))) = subst (λ (x : ℕ × ℕ). x.0 ≤ x.1) (sym same) (omega (arith, ends, up_a, up_b))
joined_up a b w up_a up_b (inr (inr (inr (ends, same)))) = subst (λ (x : ℕ × ℕ). x.0 ≤ x.1) (sym same) (omega (arith, ends, up_a, up_b))

joined_within : (most : ℕ) (a b w : ℕ × ℕ) → a.1 ≤ most → b.1 ≤ most → AreJoined a b w → w.1 ≤ most
joined_within most a b w le_a le_b (inl (inside, same)) = subst (λ (x : ℕ × ℕ). x.1 ≤ most) (sym same) le_a
joined_within most a b w le_a le_b (inr (inl (inside, same))) = subst (λ (x : ℕ × ℕ). x.1 ≤ most) (sym same) le_b
joined_within most a b w le_a le_b (inr (inr (inl (ends, same)))) = subst (λ (x : ℕ × ℕ). x.1 ≤ most) (sym same) le_b
joined_within most a b w le_a le_b (inr (inr (inr (ends, same)))) = subst (λ (x : ℕ × ℕ). x.1 ≤ most) (sym same) le_a

-- ---- blocks
count_either : {X : Type 0} (f g k : X → Bool) (xs : List X) → AllByRecursion (λ x. f x ≡ true → (g x || k x) ≡ true) xs
    → length (filter f xs) ≤ length (filter g xs) + length (filter k xs)
count_either f g k [] h = omega arith
count_either f g k (x ∷ xs) h = one (f x) (g x) (k x) h.0 (count_either f g k xs h.1)
  where
    one : (p q r : Bool) → (p ≡ true → (q || r) ≡ true) → length (filter f xs) ≤ length (filter g xs) + length (filter k xs)
        → length (cond p (x ∷ filter f xs) (filter f xs)) ≤ length (cond q (x ∷ filter g xs) (filter g xs)) + length (cond r (x ∷ filter k xs) (filter k xs))
    one true true true h rest = omega (arith, rest)
    one true true false h rest = omega (arith, rest)
    one true false true h rest = omega (arith, rest)
    one true false false h rest = absurd (true≢false (sym (h refl)))
    one false true true h rest = omega (arith, rest)
    one false true false h rest = omega (arith, rest)
    one false false true h rest = omega (arith, rest)
    one false false false h rest = rest

met_test : (x m y s e : ℕ) → s < e → (nat_lt x e && (nat_lt s y && nat_lt x y)) ≡ true
    → ((nat_lt x e && (nat_lt s m && nat_lt x m)) || (nat_lt m e && (nat_lt s y && nat_lt m y))) ≡ true
met_test x m y s e some met = grind (arith, nat_tests)

either_hit : (p q r s : Bool) → (p ≡ true → (q || r) ≡ true) → (p && s) ≡ true → ((q && s) || (r && s)) ≡ true
either_hit true true r true h e = refl
either_hit true false true true h e = refl
either_hit true false false true h e = absurd (true≢false (sym (h refl)))
either_hit true q r false h e = absurd (true≢false (sym e))
either_hit false q r s h e = absurd (true≢false (sym e))

module _ (v : SourceView) (is : IsSource v) where
  next_met : (x m y : ℕ) → All (λ h. is_met x y h ≡ true → (is_met x m h || is_met m y h) ≡ true) v.index.heads
  next_met x m y k d lt =
      let h = get_or v.index.heads k d in
      let filled = head_filled v.index is.index k d lt in
      met_test x m y h.lo (h.lo + h.words) (omega (arith, filled))

  next_in : (x m y : ℕ) → met_in v x y ≤ met_in v x m + met_in v m y
  next_in x m y =
      let X = v.before x in
      let M = v.before m in
      let Y = v.before y in
      count_either (is_met X Y) (is_met X M) (is_met M Y) v.index.heads
      (recursion_from_All (λ h. is_met X Y h ≡ true → (is_met X M h || is_met M Y h) ≡ true) v.index.heads (next_met X M Y))

  next_hit : (c : Base) (x m y : ℕ) → hit_met v c x y ≤ hit_met v c x m + hit_met v c m y
  next_hit c x m y =
      let X = v.before x in
      let M = v.before m in
      let Y = v.before y in
      count_either (λ h. is_met X Y h && may_hit c h) (λ h. is_met X M h && may_hit c h) (λ h. is_met M Y h && may_hit c h) v.index.heads
      (recursion_from_All (λ h. (is_met X Y h && may_hit c h) ≡ true → ((is_met X M h && may_hit c h) || (is_met M Y h && may_hit c h)) ≡ true) v.index.heads
      (λ k d lt.
      let h = get_or v.index.heads k d in
      either_hit (is_met X Y h) (is_met X M h) (is_met M Y h) (may_hit c h) (next_met X M Y k d lt)))

  -- of what is counted for ranges and for two of which one ends where the other begins
  joined_count : (count : ℕ → ℕ → ℕ) → ((x m y : ℕ) → count x y ≤ count x m + count m y) → (a b w : ℕ × ℕ) → AreJoined a b w
      → count w.0 w.1 ≤ count a.0 a.1 + count b.0 b.1
  joined_count count next a b w (inl (inside, same)) = (let e = ap (λ (x : ℕ × ℕ). count x.0 x.1) same in omega (arith, e))
  joined_count count next a b w (inr (inl (inside, same))) = (let e = ap (λ (x : ℕ × ℕ). count x.0 x.1) same in omega (arith, e))
  joined_count count next a b w (inr (inr (inl (ends, same)))) =
      let e = ap (λ (x : ℕ × ℕ). count x.0 x.1) same in
      let l = next a.0 a.1 b.1 in
      let m = ap (λ n. count n b.1) ends in
      omega (arith, e, l, m)
  joined_count count next a b w (inr (inr (inr (ends, same)))) =
      let e = ap (λ (x : ℕ × ℕ). count x.0 x.1) same in
      let l = next b.0 b.1 a.1 in
      let m = ap (λ n. count n a.1) ends in
      omega (arith, e, l, m)

  joined_met : (a b w : ℕ × ℕ) → AreJoined a b w → met_in v w.0 w.1 ≤ met_in v a.0 a.1 + met_in v b.0 b.1
  joined_met = joined_count (met_in v) next_in

  joined_hit : (c : Base) (a b w : ℕ × ℕ) → AreJoined a b w → hit_met v c w.0 w.1 ≤ hit_met v c a.0 a.1 + hit_met v c b.0 b.1
  joined_hit c = joined_count (hit_met v c) (next_hit c)

-- ---- rows
any_either : (t f g k : Post → Bool) (xs : List Post) → ((x : Post) → f x ≡ (g x || k x))
    → list_any t (filter f xs) ≡ (list_any t (filter g xs) || list_any t (filter k xs))
any_either t f g k [] h = refl
any_either t f g k (x ∷ xs) h = one (f x) (g x) (k x) (h x) (any_either t f g k xs h)
  where
    both : (u f g k : Bool) → f ≡ (g || k) → (u || f) ≡ ((u || g) || (u || k))
    both true f g k e = refl
    both false f g k e = e

    first : (u f g k : Bool) → f ≡ (g || k) → (u || f) ≡ ((u || g) || k)
    first true f g k e = refl
    first false f g k e = e

    second : (u f g k : Bool) → f ≡ (g || k) → (u || f) ≡ (g || (u || k))
    second true f true k e = refl
    second true f false k e = refl
    second false f g k e = e

    one : (p q r : Bool) → p ≡ (q || r) → list_any t (filter f xs) ≡ (list_any t (filter g xs) || list_any t (filter k xs))
        → list_any t (cond p (x ∷ filter f xs) (filter f xs)) ≡ (list_any t (cond q (x ∷ filter g xs) (filter g xs)) || list_any t (cond r (x ∷ filter k xs) (filter k xs)))
    one true true true h rest = both (t x) (list_any t (filter f xs)) (list_any t (filter g xs)) (list_any t (filter k xs)) rest
    one true true false h rest = first (t x) (list_any t (filter f xs)) (list_any t (filter g xs)) (list_any t (filter k xs)) rest
    one true false true h rest = second (t x) (list_any t (filter f xs)) (list_any t (filter g xs)) (list_any t (filter k xs)) rest
    one true false false h rest = absurd (true≢false h)
    one false true r h rest = absurd (true≢false (sym h))
    one false false true h rest = absurd (true≢false (sym h))
    one false false false h rest = rest

each_either : (P : Post → Type 0) (f g k : Post → Bool) → ((x : Post) → f x ≡ (g x || k x)) → (xs : List Post) → AllByRecursion P (filter g xs)
    → AllByRecursion P (filter k xs) → AllByRecursion P (filter f xs)
each_either P f g k h [] a b = tt
each_either P f g k h (x ∷ xs) a b = one (f x) (g x) (k x) (h x) a b (each_either P f g k h xs)
  where
    one : (p q r : Bool) → p ≡ (q || r) → AllByRecursion P (cond q (x ∷ filter g xs) (filter g xs))
        → AllByRecursion P (cond r (x ∷ filter k xs) (filter k xs))
        → (AllByRecursion P (filter g xs) → AllByRecursion P (filter k xs) → AllByRecursion P (filter f xs))
        → AllByRecursion P (cond p (x ∷ filter f xs) (filter f xs))
    one true true true h a b rest = (a.0, rest a.1 b.1)
    one true true false h a b rest = (a.0, rest a.1 b)
    one true false true h a b rest = (b.0, rest a b.1)
    one true false false h a b rest = absurd (true≢false h)
    one false true r h a b rest = absurd (true≢false (sym h))
    one false false true h a b rest = absurd (true≢false (sym h))
    one false false false h a b rest = rest a b

in_either : (f g k : Post → Bool) (xs : List Post) → ((x : Post) → f x ≡ (g x || k x)) → (rows : List Post) → All (Contains rows) (filter g xs)
    → All (Contains rows) (filter k xs) → All (Contains rows) (filter f xs)
in_either f g k xs h rows a b =
    All-from_recursion (Contains rows) (filter f xs)
    (each_either (Contains rows) f g k h xs (recursion_from_All (Contains rows) (filter g xs) a) (recursion_from_All (Contains rows) (filter k xs) b))

-- the rows of two ranges, where those of the first are among rows that are gathered
rows_joined : (all : List Post) (a b w : ℕ × ℕ) (rows : List Post) → AreSorted (filter (is_between w.0 w.1) all)
    → ((n : ℕ) → has w n ≡ (has a n || has b n)) → IsOrdered rows (filter (is_between a.0 a.1) all)
    → IsOrdered (rows ++ filter (is_between b.0 b.1) all) (filter (is_between w.0 w.1) all)
rows_joined all a b w rows up same o =
    let f = is_between w.0 w.1 in
    let g = is_between a.0 a.1 in
    let k = is_between b.0 b.1 in
    let more = filter k all in
    record {
      sorted = up;
      among = in_either f g k all (λ p. same p.word) (rows ++ more)
          (All-weaker (Contains rows) (Contains (rows ++ more)) (λ p h. Contains-append_left rows more p h) (filter g all) o.among)
          (All-weaker (Contains more) (Contains (rows ++ more)) (λ p h. Contains-append_right rows more p h) more (All-contains_itself more));
      alike = λ known up_known inside t.
          any_either t f g k all (λ p. same p.word)
          ∙ ap (λ x. x || list_any t more) (o.alike known up_known (in_front known inside) t)
          ∙ sym (list_any-append t rows more);
    }
  where
    in_front : (known : List Post) → All (Contains known) (rows ++ filter (is_between b.0 b.1) all) → All (Contains known) rows
    in_front known inside =
        let more = filter (is_between b.0 b.1) all in
        λ k e lt. All-contains (Contains known) (rows ++ more) (get_or rows k e) inside (Contains-append_left rows more (get_or rows k e) (Contains-get_or rows k e lt))

-- ---- no words
pub none_between : (n : ℕ) (posts : List Post) → filter (is_between n n) posts ≡ []
none_between n [] = refl
none_between n (p ∷ posts) = ap (λ e. cond e (p ∷ filter (is_between n n) posts) (filter (is_between n n) posts)) (none n p.word) ∙ none_between n posts
  where
    none : (n m : ℕ) → (nat_le n m && nat_lt m n) ≡ false
    none n m = grind (arith, nat_tests)

none_met : (c : BlockHead → Bool) (n : ℕ) (hs : List BlockHead) → length (filter (λ h. is_met n n h && c h) hs) ≤ 0
none_met c n [] = omega arith
none_met c n (h ∷ hs) =
    subst (λ e. length (cond (e && c h) (h ∷ filter (λ h. is_met n n h && c h) hs) (filter (λ h. is_met n n h && c h) hs)) ≤ 0) (sym (none n h.lo (h.lo + h.words)))
    (none_met c n hs)
  where
    none : (n s e : ℕ) → (nat_lt n e && (nat_lt s n && nat_lt n n)) ≡ false
    none n s e = grind (arith, nat_tests)

-- ---- the words of chains
module _ (v : SourceView) (chains : List Chain) where
  abbrev d : Division
  d = division v.index

  sum_more : (f : Chain → ℕ) (i : ℕ) (x : Chain) → i < length chains → x ≡ get_or chains i x
      → sum (map f (take (i + 1) chains)) ≡ sum (map f (take i chains)) + f x
  sum_more f i x l at =
      ap (λ cs. sum (map f cs)) (take_more chains i x l) ∙ ap sum (map-append f (take i chains) (get_or chains i x ∷ []))
      ∙ sum_by_push (λ n. n) (map f (take i chains)) (f (get_or chains i x)) ∙ ap (λ y. sum (map f (take i chains)) + f y) (sym at)

  -- in no more blocks than are counted for these chains
  pub record WordsSoFar (i : ℕ) (w : ℕ × ℕ) : Type 0 where
    pub ordered : w.0 ≤ w.1
    pub within : w.1 ≤ length v.words
    pub few : met_in v w.0 w.1 ≤ sum (map (met_of_chain d) (take i chains))
    pub sharp : (c : Base) → hit_met v c w.0 w.1 ≤ sum (map (hit_of_chain d c) (take i chains))
    pub posts : (b : List ℕ) → StandsFor b v.index
        → (rows : List Post) × ListsSoFar (v.stock b) chains i rows × IsOrdered rows (filter (is_between w.0 w.1) (v.stock b).posts)

module _ (v : SourceView) (is : IsSource v) (chains : List Chain) where
  pub words_begin : WordsSoFar v chains 0 (0, 0)
  words_begin = record {
    ordered = omega arith;
    within = omega arith;
    few = empty_met (v.before 0) (v.before 0) v.index.heads refl;
    sharp = λ c. none_met (may_hit c) (v.before 0) v.index.heads;
    posts = λ b stands. ([], lists_begin (v.stock b) chains [] refl, subst (IsOrdered []) (sym (none_between 0 (v.stock b).posts)) ordered_none);
  }

  pub words_go_on : (i : ℕ) (x : Chain) → i < length chains → x ≡ get_or chains i x → (a b w : ℕ × ℕ) → WordsSoFar v chains i a
      → AreWordsOf v (met_of_chain (division v.index) x) (λ k. rows_of_chain k x) b.0 b.1 → AreSharp v (λ c. hit_of_chain (division v.index) c x) b.0 b.1 → AreJoined a b w
      → WordsSoFar v chains (i + 1) w
  words_go_on i x l at a b w so_far asks sharp joined = record {
    ordered = joined_up a b w so_far.ordered asks.ordered joined;
    within = joined_within (length v.words) a b w so_far.within asks.within joined;
    few = (let met = joined_met v is a b w joined in
        let more = sum_more v chains (met_of_chain (division v.index)) i x l at in
        let f = so_far.few in
        let g = asks.few in
        omega (arith, met, more, f, g));
    sharp = λ c.
        (let met = joined_hit v is c a b w joined in
        let more = sum_more v chains (hit_of_chain (division v.index) c) i x l at in
        let f = so_far.sharp c in
        let g = sharp c in
        omega (arith, met, more, f, g));
    posts = λ p stands. step p stands (so_far.posts p stands);
  }
    where
      step : (p : List ℕ) → StandsFor p v.index
          → (rows : List Post) × ListsSoFar (v.stock p) chains i rows × IsOrdered rows (filter (is_between a.0 a.1) (v.stock p).posts)
          → (rows : List Post) × ListsSoFar (v.stock p) chains (i + 1) rows × IsOrdered rows (filter (is_between w.0 w.1) (v.stock p).posts)
      step p stands (rows, lists, o) =
          let s = v.stock p in
          let more = filter (is_between b.0 b.1) s.posts in
          let up = picked_between s (is_between w.0 w.1) (filter (is_between w.0 w.1) s.posts) (is.told p stands).stocked refl in (
            rows ++ more,
            lists_go_on s chains i x l at rows more (rows ++ more) lists (asks.posts p stands) refl,
            rows_joined s.posts a b w rows up.sorted (joined_has a b w so_far.ordered asks.ordered joined) o,
          )

  pub words_end : (p : Part) → chains ≡ (out-Part p).chains → (i : ℕ) → length chains ≤ i → (w : ℕ × ℕ) → WordsSoFar v chains i w
      → AreWordsOf v (met_of_part (division v.index) p) (λ k. (rows_of_part k p).rows) w.0 w.1
  words_end p are i l w so_far =
      let all : sum (map (met_of_chain (division v.index)) (take i chains)) ≡ met_of_part (division v.index) p =
      ap (λ cs. sum (map (met_of_chain (division v.index)) cs)) (take_all i chains l ∙ are) ∙ sym (met_part-is (division v.index) p) in
      record {
        ordered = so_far.ordered;
        within = so_far.within;
        few = (let f = so_far.few in omega (arith, f, all));
        posts = λ b stands. ended b stands (so_far.posts b stands);
      }
    where
      ended : (b : List ℕ) → StandsFor b v.index
          → (rows : List Post) × ListsSoFar (v.stock b) chains i rows × IsOrdered rows (filter (is_between w.0 w.1) (v.stock b).posts)
          → HasRows (v.stock b) (rows_of_part (corpus_in (v.stock b)) p).rows (filter (is_between w.0 w.1) (v.stock b).posts)
      ended b stands (rows, lists, o) =
          lists_end (v.stock b) chains (is.told b stands).stocked p are i rows (filter (is_between w.0 w.1) (v.stock b).posts) l lists o

  pub sharp_end : (p : Part) → chains ≡ (out-Part p).chains → (i : ℕ) → length chains ≤ i → (w : ℕ × ℕ) → WordsSoFar v chains i w
      → AreSharp v (λ c. hit_of_part (division v.index) c p) w.0 w.1
  sharp_end p are i l w so_far = λ c.
      (let f = so_far.sharp c in
      let all = ap (λ cs. sum (map (hit_of_chain (division v.index) c) cs)) (take_all i chains l ∙ are) in
      omega (arith, f, all))
