-- What is read of requests that are asked one after the other, also without blocks that no hit reaches.
--
--   none_more        a count behind none
--   due_both         what is due for requests behind requests
--   good_due         behind them the bytes still stand for the index, and what is kept is good
--   sum_by_list, sum_by_old, sum_by_count     the sum for equal requests, of an equal engine and by an equal count
--   sum_both         requests behind requests
use Rattle.std.proofs.Common.{◌≡◌, ℕ, ◌+◌, List, [], ◌∷◌, ◌++◌, sym, ◌∙◌, ap, subst, arith}
use Rattle.std.proofs.Math.Path.{path_j, subst_refl}
use Rattle.std.specs.Prelude.{Option, Some}
use Rattle.cs_engine.specs.Keeping.{AreGood, EngineView}
use Rattle.cs_file.specs.Indexes.{StandsFor}
use Rattle.cs_hub.specs.DueReads.{Answered, AreDue, sharp_sum}

pub none_more : (m n : ℕ) → m ≡ 0 → n ≡ m + n
none_more m n e = omega (arith, e)

abbrev pub due_both : (told : Option (List ℕ)) (xs ys : List Answered) (old mid new : EngineView) (m n : ℕ) → AreDue told xs old m mid → AreDue told ys mid n new
    → AreDue told (xs ++ ys) old (m + n) new
due_both told [] ys old mid new m n h k =
    subst (λ e. AreDue told ys e (m + n) new) h.1 (subst (λ i. AreDue told ys mid i new) (none_more m n h.0) k)
due_both told (x ∷ xs) ys old mid new m n h k =
    (h.0, h.1 + n, h.2, (let e : m + n ≡ h.0 + (h.1 + n) = omega (arith, h.3) in e), h.4, due_both told xs ys h.2 mid new h.1 n h.5 k)

pub good_due : (told : Option (List ℕ)) (xs : List Answered) (old : EngineView) (n : ℕ) (new : EngineView) → AreDue told xs old n new
    → (b : List ℕ) → told ≡ Some b → StandsFor b old.index → AreGood b old → StandsFor b new.index × AreGood b new
good_due told [] old n new h b is stands good = subst (λ (e : EngineView). StandsFor b e.index × AreGood b e) (sym h.1) (stands, good)
good_due told (x ∷ xs) old n new h b is stands good =
    good_due told xs h.2 h.1 new h.5 b is (subst (StandsFor b) (sym h.4.index) stands) (h.4.right b is stands good).good

module _ (told : Option (List ℕ)) (b : List ℕ) (new : EngineView) where
  pub sum_by_list : (old : EngineView) (n : ℕ) {xs ys : List Answered} (e : xs ≡ ys) (h : AreDue told xs old n new)
      → sharp_sum told b ys old n new (subst (λ l. AreDue told l old n new) e h) ≡ sharp_sum told b xs old n new h
  sum_by_list old n {xs} e h =
      path_j (λ ys p. sharp_sum told b ys old n new (subst (λ l. AreDue told l old n new) p h) ≡ sharp_sum told b xs old n new h)
      (ap (λ d. sharp_sum told b xs old n new d) (subst_refl (λ l. AreDue told l old n new) h)) e

  sum_by_old : (xs : List Answered) (n : ℕ) {old mid : EngineView} (e : old ≡ mid) (h : AreDue told xs old n new)
      → sharp_sum told b xs mid n new (subst (λ o. AreDue told xs o n new) e h) ≡ sharp_sum told b xs old n new h
  sum_by_old xs n {old} e h =
      path_j (λ mid p. sharp_sum told b xs mid n new (subst (λ o. AreDue told xs o n new) p h) ≡ sharp_sum told b xs old n new h)
      (ap (λ d. sharp_sum told b xs old n new d) (subst_refl (λ o. AreDue told xs o n new) h)) e

  sum_by_count : (xs : List Answered) (old : EngineView) {m n : ℕ} (e : m ≡ n) (h : AreDue told xs old m new)
      → sharp_sum told b xs old n new (subst (λ i. AreDue told xs old i new) e h) ≡ sharp_sum told b xs old m new h
  sum_by_count xs old {m} e h =
      path_j (λ n p. sharp_sum told b xs old n new (subst (λ i. AreDue told xs old i new) p h) ≡ sharp_sum told b xs old m new h)
      (ap (λ d. sharp_sum told b xs old m new d) (subst_refl (λ i. AreDue told xs old i new) h)) e

  pub sum_both : (xs ys : List Answered) (old mid : EngineView) (m n : ℕ) (h : AreDue told xs old m mid) (k : AreDue told ys mid n new)
      → sharp_sum told b (xs ++ ys) old (m + n) new (due_both told xs ys old mid new m n h k) ≡ sharp_sum told b xs old m mid h + sharp_sum told b ys mid n new k
  sum_both [] ys old mid m n h k =
      let e = none_more m n h.0 in
      let moved : sharp_sum told b ys old (m + n) new (due_both told [] ys old mid new m n h k) ≡ sharp_sum told b ys mid n new k =
      sum_by_old ys (m + n) h.1 (subst (λ i. AreDue told ys mid i new) e k) ∙ sum_by_count ys mid e k in
      let whole : sharp_sum told b ys mid n new k ≡ 0 + sharp_sum told b ys mid n new k = omega arith in
      moved ∙ whole
  sum_both (x ∷ xs) ys old mid m n h k =
      let rest = sum_both xs ys h.2 mid h.1 n h.5 k in
      omega (arith, rest)
