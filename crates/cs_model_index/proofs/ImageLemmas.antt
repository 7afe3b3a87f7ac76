-- A corpus has one image for a target: its titles by number are one list, and its words have one partition.
--
--   titles_listed     the entries of titles by number are the titles with their numbers
--   one_list          titles by number are those of one list
--   images_are_one    the law
use Rattle.std.proofs.Common.{◌≡◌, ℕ, ◌+◌, ◌<◌, ◌&&◌, Bool, true, false, List, [], ◌∷◌, T, map, refl, sym, ◌∙◌, ap, arith}
use Rattle.std.specs.List.{enumerate_from}
use Rattle.std.specs.Ordering.{nat_cmp, is_lt}
use Rattle.std.specs.FinMap.{entries, from_entries, from_sorted, is_sorted, nat_cmp-IsAntisymmetric, same_map, get-from_entries, get-from_sorted, entries-from_sorted}
use Rattle.std.specs.FinMap.Entries.{below_all}
use Rattle.std.proofs.lemmas.Bool.Decides.{nat_tests}
use Rattle.std.proofs.lemmas.Cmp.{nat_cmp_total}
use Rattle.cs_base.specs.declared.content.scores.Weights.{Weights}
use Rattle.cs_model.specs.Corpus.{Corpus, by_number, distinct_words}
use Rattle.cs_model_index.specs.Images.{Image, count_in, image_by, IsImage}
use Rattle.cs_model_index.proofs.PartitionLemmas.{partitions_are_one}

both : (a b : Bool) → T a → T b → T (a && b)
both true b p q = q
both false b p q = p

below : (a b : ℕ) → a < b → T (is_lt (nat_cmp a b))
below a b h = grind (arith, nat_tests)

later : (a b : ℕ) (ts : List (List ℕ)) → a < b → T (below_all nat_cmp a (enumerate_from b ts))
later a b [] h = tt
later a b (t ∷ ts) h = both _ _ (below a b h) (later a (b + 1) ts (omega arith))

rising : (a : ℕ) (ts : List (List ℕ)) → T (is_sorted nat_cmp (enumerate_from a ts))
rising a [] = tt
rising a (t ∷ ts) = both _ _ (later a (a + 1) ts (omega arith)) (rising (a + 1) ts)

pub titles_listed : (ts : List (List ℕ)) → entries (by_number ts) ≡ enumerate_from 0 ts
titles_listed ts =
    let es = enumerate_from 0 ts in
    let one : from_entries {R = nat_cmp} es ≡ from_sorted es = same_map nat_cmp_total nat_cmp-IsAntisymmetric _ _ (λ q. get-from_entries nat_cmp_total es q ∙ sym (get-from_sorted nat_cmp es q (rising 0 ts))) in
    ap entries one ∙ entries-from_sorted nat_cmp es (rising 0 ts)

listed_back : (a : ℕ) (ts : List (List ℕ)) → map (λ e. e.1) (enumerate_from a ts) ≡ ts
listed_back a [] = refl
listed_back a (t ∷ ts) = ap (λ l. t ∷ l) (listed_back (a + 1) ts)

pub one_list : (ts us : List (List ℕ)) → by_number ts ≡ by_number us → ts ≡ us
one_list ts us e =
    sym (listed_back 0 ts) ∙ ap (map (λ e. e.1)) (sym (titles_listed ts) ∙ ap entries e ∙ titles_listed us) ∙ listed_back 0 us

pub images_are_one : (k : Corpus) (target : ℕ) (weights : Weights) (i j : Image) → IsImage k target weights i → IsImage k target weights j → i ≡ j
images_are_one k target weights i j p q =
    let runs : p.runs ≡ q.runs = partitions_are_one target (count_in k.rows) (distinct_words k.rows) p.runs q.runs p.parted q.parted in
    let titles : i.titles ≡ j.titles = one_list i.titles j.titles (p.titles ∙ sym q.titles) in
    p.made ∙ ap (λ runs. image_by i.titles k.rows runs target weights) runs ∙ ap (λ titles. image_by titles k.rows q.runs target weights) titles ∙ sym q.made
