-- The text words that a part serves over a corpus.
use Rattle.std.proofs.Common.{◌≡◌, ◌<◌, ◌≤◌, ◌+◌, ◌-◌, ℕ, zero, suc, List, [], ◌∷◌, true, false, Bool, map, length, refl, sym, ap, subst, ◌∙◌, arith}
use Rattle.std.specs.Prelude.{◌&&◌, ◌||◌, nat_le, fold}
use Rattle.std.specs.List.{enumerate_from, flat_map, list_any}
use Rattle.std.specs.Str.{bytes_eq}
use Rattle.std.proofs.lemmas.List.Folds.{list_any-append}
use Rattle.cs_base.specs.declared.content.query.Link.{Link}
use Rattle.cs_base.proofs.MembersLemmas.{any_listed}
use Rattle.cs_base.proofs.OrdersLemmas.{by_row_total, by_row_exact}
use Rattle.cs_base.specs.content.Orders.{by_row}
use Rattle.cs_base.specs.declared.content.doc.Row.{Row}
use Rattle.cs_base.specs.declared.content.scores.TheConstants.{BEHIND_TITLE}
use Rattle.cs_base.specs.declared.content.query.Atom.{Atom, out-Atom, roll-Atom, roll-out-Atom}
use Rattle.cs_base.specs.declared.content.query.Atom.TheOpen.{Atom-F}
use Rattle.cs_base.specs.declared.content.query.Atom.TheVariants.{rolls-Prefix, rolls-Exact}
use Rattle.cs_model.proofs.AnswersLemmas.{exact_rows, join_rows, prefix_rows}
use Rattle.cs_base.specs.declared.content.query.Atom.TheFolds.{fold_out-Chain, fold_out-Linked, fold_out-Part}
use Rattle.cs_base.specs.declared.content.query.Chain.{Chain, out-Chain}
use Rattle.cs_base.specs.declared.content.query.Linked.{Linked, out-Linked}
use Rattle.cs_base.specs.declared.content.query.Part.{Part, out-Part}
use Rattle.cs_base.specs.declared.content.query.Query.{Query}
use Rattle.cs_model.specs.Answers.{PartRows, LinkedRows, atom_rows, begins, chained, chain_rows, is_shared, parts_of, linked_rows, linked_to, part_rows, query_parts, rows_of_atom, rows_of_linked, rows_of_chain, rows_of_part, union_of}
use Rattle.cs_model.specs.Collection.{named}
use Rattle.cs_model.specs.Corpus.{Corpus}
use Rattle.cs_model_excerpts.specs.Excerpts.{at}
use Rattle.cs_model_excerpts.specs.Runs.{has_mark_at}
use Rattle.cs_model_excerpts.specs.OwnWords.{atom_marks, chain_marks, either_marks, is_led, level_marks, linked_marks, part_marks, led_marks}
use Rattle.cs_model_excerpts.proofs.ServesLemmas.{HasText, Shown, and-false, join_shown, linked_shown, mark_at, no_marks, words_shown}

-- no text word begins as facet words do
abbrev pub AreText : List (List ℕ) → Type 0
AreText ws = (name : List ℕ) → map (begins (named name [])) ws ≡ map (λ x. false) ws

module _ (k : Corpus) where
  linked-is : (l : Linked) → rows_of_linked k l ≡ record { link = (out-Linked l).link; rows = rows_of_atom k (out-Linked l).atom }
  linked-is l = fold_out-Linked (List Row) (List Row) LinkedRows PartRows (List PartRows) (atom_rows k) chain_rows linked_rows part_rows query_parts l

  chain-is : (c : Chain) → rows_of_chain k c ≡ chained (rows_of_atom k (out-Chain c).first) (map (rows_of_linked k) (out-Chain c).rest)
  chain-is c = fold_out-Chain (List Row) (List Row) LinkedRows PartRows (List PartRows) (atom_rows k) chain_rows linked_rows part_rows query_parts c

  part-is : (p : Part) → (rows_of_part k p).rows ≡ union_of (map (rows_of_chain k) (out-Part p).chains)
  part-is p = ap (λ (r : PartRows). r.rows) (fold_out-Part (List Row) (List Row) LinkedRows PartRows (List PartRows) (atom_rows k) chain_rows linked_rows part_rows query_parts p)

-- ---- atoms and chains
module _ (k : Corpus) (d t : ℕ) (ws : List (List ℕ)) (has : HasText k d t ws) (text : AreText ws) where
  rolled_shown : (x : Atom-F Atom Chain Linked Part Query) → Shown d t (rows_of_atom k (roll-Atom x)) (level_marks ws x)
  rolled_shown (Atom-F.Prefix p) = subst (λ rows. Shown d t rows (map (begins p) ws)) (sym (ap (rows_of_atom k) (rolls-Prefix p) ∙ prefix_rows k p)) (words_shown k d t ws has (begins p))
  rolled_shown (Atom-F.Exact w) = subst (λ rows. Shown d t rows (map (λ x. bytes_eq x w) ws)) (sym (ap (rows_of_atom k) (rolls-Exact w) ∙ exact_rows k w)) (words_shown k d t ws has (λ x. bytes_eq x w))
  rolled_shown (Atom-F.Join n q) = subst (λ rows. Shown d t rows (map (λ x. false) ws)) (sym (join_rows k n q)) (join_shown k d t ws has (begins (named n [])) (is_shared k (parts_of k q)) (text n))

  atom_shown : (a : Atom) → Shown d t (rows_of_atom k a) (atom_marks ws a)
  atom_shown a = subst (λ b. Shown d t (rows_of_atom k b) (atom_marks ws a)) (roll-out-Atom a) (rolled_shown (out-Atom a))

  links_shown : (ls : List Linked) (x : List Row) (kept : List Bool) → Shown d t x kept → Shown d t (chained x (map (rows_of_linked k) ls)) (fold (led_marks ws) kept ls)
  links_shown [] x kept h = h
  links_shown (l ∷ ls) x kept h =
      let one : Shown d t (linked_to (rows_of_linked k l).link x (rows_of_linked k l).rows) (led_marks ws kept l) =
      subst (λ (r : LinkedRows). Shown d t (linked_to r.link x r.rows) (led_marks ws kept l)) (sym (linked-is k l)) (linked_shown (out-Linked l).link d t x (rows_of_atom k (out-Linked l).atom) kept (atom_marks ws (out-Linked l).atom) h (atom_shown (out-Linked l).atom)) in
      links_shown ls (linked_to (rows_of_linked k l).link x (rows_of_linked k l).rows) (led_marks ws kept l) one

  chain_shown : (c : Chain) → Shown d t (rows_of_chain k c) (chain_marks ws c)
  chain_shown c = subst (λ rows. Shown d t rows (chain_marks ws c)) (sym (chain-is k c)) (links_shown (out-Chain c).rest (rows_of_atom k (out-Chain c).first) (atom_marks ws (out-Chain c).first) (atom_shown (out-Chain c).first))

-- ---- lengths
pub mapped-length : {X Y : Type 0} (f : X → Y) (xs : List X) → length (map f xs) ≡ length xs
mapped-length f [] = refl
mapped-length f (x ∷ xs) = ap suc (mapped-length f xs)

length-enumerated : {X : Type 0} (n : ℕ) (xs : List X) → length (enumerate_from n xs) ≡ length xs
length-enumerated n [] = refl
length-enumerated n (x ∷ xs) = ap suc (length-enumerated (n + 1) xs)

or-false : (b : Bool) → (b || false) ≡ b
or-false true = refl
or-false false = refl

module _ (ws : List (List ℕ)) where
  level-length : (x : Atom-F Atom Chain Linked Part Query) → length (level_marks ws x) ≡ length ws
  level-length (Atom-F.Prefix p) = mapped-length (begins p) ws
  level-length (Atom-F.Exact w) = mapped-length (λ x. bytes_eq x w) ws
  level-length (Atom-F.Join n q) = mapped-length (λ x. false) ws

  linked-length : (link : Link) (kept next : List Bool) → length (linked_marks link kept next) ≡ length next
  linked-length link kept next = mapped-length (λ p. p.1 && is_led link kept p.0) (enumerate_from 0 next) ∙ length-enumerated 0 next

  links-length : (ls : List Linked) (kept : List Bool) → length kept ≡ length ws → length (fold (led_marks ws) kept ls) ≡ length ws
  links-length [] kept h = h
  links-length (l ∷ ls) kept h = links-length ls (led_marks ws kept l) (linked-length (out-Linked l).link kept (atom_marks ws (out-Linked l).atom) ∙ level-length (out-Atom (out-Linked l).atom))

  pub chain-length : (c : Chain) → length (chain_marks ws c) ≡ length ws
  chain-length c = links-length (out-Chain c).rest (atom_marks ws (out-Chain c).first) (level-length (out-Atom (out-Chain c).first))

  pub either-length : (a b : List Bool) → length (either_marks a b) ≡ length b
  either-length a b = mapped-length (λ p. p.1 || has_mark_at a p.0) (enumerate_from 0 b) ∙ length-enumerated 0 b

-- ---- alternatives
pub past : (a : List Bool) (j : ℕ) → length a ≤ j → has_mark_at a j ≡ false
past [] j l = refl
past (m ∷ a) zero l = absurd (omega (arith, l))
past (m ∷ a) (suc j) l = past a j (omega (arith, l))

marked_either : (a b : List Bool) (n j : ℕ) → length a ≤ n + length b → has_mark_at (map (λ p. p.1 || has_mark_at a p.0) (enumerate_from n b)) j ≡ (has_mark_at b j || has_mark_at a (n + j))
marked_either a [] n j l = sym (past a (n + j) (omega (arith, l)))
marked_either a (m ∷ b) n zero l = let same : n + 0 ≡ n = omega arith in ap (λ i. m || has_mark_at a i) (sym same)
marked_either a (m ∷ b) n (suc j) l = let same : n + 1 + j ≡ n + suc j = omega arith in marked_either a b (n + 1) j (omega (arith, l)) ∙ ap (λ i. has_mark_at b j || has_mark_at a i) same

either_at : (t : ℕ) (a b : List Bool) (p : ℕ) → length a ≡ length b → mark_at t (either_marks a b) p ≡ (mark_at t a p || mark_at t b p)
either_at t a b p e =
    let j = p - (t + BEHIND_TITLE) in
    let whole : 0 + j ≡ j = omega arith in
    ap (λ m. nat_le (t + BEHIND_TITLE) p && m) (marked_either a b 0 j (omega (arith, e)) ∙ ap (λ i. has_mark_at b j || has_mark_at a i) whole) ∙ spread (nat_le (t + BEHIND_TITLE) p) (has_mark_at b j) (has_mark_at a j)
  where
    spread : (c x y : Bool) → (c && (x || y)) ≡ ((c && y) || (c && x))
    spread true true true = refl
    spread true true false = refl
    spread true false true = refl
    spread true false false = refl
    spread false x y = refl

or_assoc : (a b c : Bool) → ((a || b) || c) ≡ (a || (b || c))
or_assoc true b c = refl
or_assoc false b c = refl

module _ (k : Corpus) (d t : ℕ) (ws : List (List ℕ)) (has : HasText k d t ws) (text : AreText ws) where
  chains_shown : (cs : List Chain) (ms : List Bool) (p : ℕ) → t < p → length ms ≡ length ws
      → mark_at t (fold (λ ms c. either_marks ms (chain_marks ws c)) ms cs) p ≡ (mark_at t ms p || list_any (at d p) (flat_map (λ rows. rows) (map (rows_of_chain k) cs)))
  chains_shown [] ms p l e = sym (or-false (mark_at t ms p))
  chains_shown (c ∷ cs) ms p l e =
      let both : length ms ≡ length (chain_marks ws c) = e ∙ sym (chain-length ws c) in
      chains_shown cs (either_marks ms (chain_marks ws c)) p l (either-length ws ms (chain_marks ws c) ∙ chain-length ws c)
      ∙ ap (λ b. b || list_any (at d p) (flat_map (λ rows. rows) (map (rows_of_chain k) cs))) (either_at t ms (chain_marks ws c) p both ∙ ap (λ b. mark_at t ms p || b) (sym (chain_shown k d t ws has text c p l)))
      ∙ or_assoc (mark_at t ms p) (list_any (at d p) (rows_of_chain k c)) _
      ∙ ap (λ b. mark_at t ms p || b) (sym (list_any-append (at d p) (rows_of_chain k c) (flat_map (λ rows. rows) (map (rows_of_chain k) cs))))

  pub part_shown : (part : Part) → Shown d t (rows_of_part k part).rows (part_marks ws part)
  part_shown part p l =
      let none : mark_at t (map (λ x. false) ws) p ≡ false = ap (λ b. nat_le (t + BEHIND_TITLE) p && b) (no_marks ws (p - (t + BEHIND_TITLE))) ∙ and-false (nat_le (t + BEHIND_TITLE) p) in
      ap (list_any (at d p)) (part-is k part) ∙ any_listed by_row by_row_total by_row_exact (at d p) (flat_map (λ rows. rows) (map (rows_of_chain k) (out-Part part).chains))
      ∙ sym (chains_shown (out-Part part).chains (map (λ x. false) ws) p l (mapped-length (λ x. false) ws) ∙ ap (λ b. b || list_any (at d p) (flat_map (λ rows. rows) (map (rows_of_chain k) (out-Part part).chains))) none)
