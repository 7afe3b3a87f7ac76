-- The canonical text of a query that ends in a prefix, with that prefix cut, and the shorter prefixes of a word.
--
--   on_last-append      the last entry of a longer list, changed
--   last_split          a list with a last entry
--   EndsIn              a text that ends in a word, and with other words in its place
--   query_ends          so does the text of a query whose last prefix is being typed
--   shortened           with that prefix cut, it is the query's text, cut
--   prefix_short        the prefix has at most one byte more than the query's text
--   shorter_push        the shorter prefixes of one character more
--   left_more, left_stop, left_empty     those of them that are words
use Rattle.std.proofs.Common.{◌≡◌, ℕ, ◌+◌, ◌-◌, ◌≤◌, List, [], ◌∷◌, ◌++◌, map, filter, length, take, drop, refl, ap, ◌∙◌, sym, subst, append_assoc, length-append, Bool, true, false, not, cond, arith, Option, Some, None}
use Rattle.std.specs.Prelude.{◌&&◌, ◌==◌, nat_lt, if◌then◌else◌, codes}
use Rattle.std.specs.List.{concat, join_with_byte, list_any}
use Rattle.std.specs.Str.{IsUtf8, IsCharBoundary}
use Rattle.std.proofs.Math.Seq.{take-append_seam, drop-append_seam}
use Rattle.std.proofs.lemmas.Bool.{and_right, or_right, lt-ltb}
use Rattle.std.proofs.lemmas.List.{append-nil, map-append}
use Rattle.std.proofs.lemmas.List.Elements.{filter-append}
use Rattle.std.proofs.lemmas.List.Folds.{list_any-append}
use Rattle.std.proofs.lemmas.Str.{IsCharBoundary-at_seam}
use Rattle.cs_base.specs.declared.content.query.Query.{Query, out-Query}
use Rattle.cs_base.specs.declared.content.query.Part.{Part, out-Part}
use Rattle.cs_base.specs.declared.content.query.Chain.{Chain, roll-Chain, out-Chain}
use Rattle.cs_base.specs.declared.content.query.Linked.{Linked, out-Linked}
use Rattle.cs_base.specs.declared.content.query.Atom.{Atom, Prefix, roll-Atom, out-Atom, roll-out-Atom}
use Rattle.cs_base.specs.declared.content.query.Atom.TheVariants.{rolls-Prefix}
use Rattle.cs_base.specs.declared.content.query.Atom.TheOpen.{Atom-F}
use Rattle.cs_model.specs.Grammar.{on_last, with_chains}
use Rattle.cs_model.specs.Canonical.{link_text, word_text, canonical, canonical_parts, canonical_part, canonical_chain, canonical_linked, canonical_atom}
use Rattle.cs_model.specs.Keys.{last_of, prefix_in, last_atom, chain_prefix, chains_prefix, part_prefix, last_prefix, relinked, ended_by, with_prefix, shorter, is_left}
use Rattle.cs_model.proofs.CanonicalLemmas.{query_shape, part_shape, chain_shape, linked_shape, prefix_shape}
use Rattle.cs_model.proofs.LastEntries.{is_none, sign_before, join_push, concat_push}
use Rattle.cs_model.proofs.AttachedText.{rolled_part, rolled_chain, rolled_linked, rolled_query, one_chain}
use Rattle.cs_model.specs.Collection.{is_colon}

-- ---- last entries
pub on_last-append : {X : Type 0} (f : X → X) (xs : List X) (x : X) → on_last f (xs ++ x ∷ []) ≡ xs ++ f x ∷ []
on_last-append f [] x = refl
on_last-append f (y ∷ []) x = refl
on_last-append f (y ∷ z ∷ xs) x = ap (λ l. y ∷ l) (on_last-append f (z ∷ xs) x)

pub last_split : {X : Type 0} (xs : List X) (x : X) → last_of xs ≡ Some x → (ys : List X) × (xs ≡ ys ++ x ∷ [])
last_split [] x h = cc
last_split (y ∷ []) x h = ([], ap (λ z. z ∷ []) (unsome y x h))
  where
    unsome : {Y : Type 0} (a b : Y) → Some a ≡ Some b → a ≡ b
    unsome a b e = cc
last_split (y ∷ z ∷ zs) x h = let r = last_split (z ∷ zs) x h in (y ∷ r.0, ap (λ l. y ∷ l) r.1)

-- a list that isn't empty has a last entry
has_last : {X : Type 0} (x : X) (xs : List X) → (y : X) × (last_of (x ∷ xs) ≡ Some y)
has_last x [] = (x, refl)
has_last x (y ∷ ys) = has_last y ys

-- ---- a text that ends in a word, and with other words in its place
record EndsIn (text : List ℕ) (other : List ℕ → List ℕ) (p : List ℕ) : Type 0 where
  front : List ℕ
  whole : text ≡ front ++ word_text p
  changed : (w : List ℕ) → other w ≡ front ++ word_text w

-- an atom with a prefix is that prefix
pub prefix_of : (z : Atom-F Atom Chain Linked Part Query) (p : List ℕ) → prefix_in z ≡ Some p → z ≡ Atom-F.Prefix p
prefix_of (Atom-F.Prefix r) p h = ap Atom-F.Prefix (unsome r p h)
  where
    unsome : (a b : List ℕ) → Some a ≡ Some b → a ≡ b
    unsome a b e = cc
prefix_of (Atom-F.Exact w) p h = absurd (let no : None ≡ Some p = h in cc)
prefix_of (Atom-F.Join n q) p h = absurd (let no : None ≡ Some p = h in cc)

atom_prefix : (a : Atom) (p : List ℕ) → prefix_in (out-Atom a) ≡ Some p → canonical_atom a ≡ word_text p
atom_prefix a p h = ap canonical_atom (sym (roll-out-Atom a) ∙ ap roll-Atom (prefix_of (out-Atom a) p h) ∙ rolls-Prefix p) ∙ prefix_shape p

first_ends : (a : Atom) (p : List ℕ) → prefix_in (out-Atom a) ≡ Some p → EndsIn (canonical_atom a ++ concat (map canonical_linked [])) (λ w. canonical_chain (ended_by w a [])) p
first_ends a p h = record {
  front = [];
  whole = append-nil (canonical_atom a) ∙ atom_prefix a p h;
  changed = λ w. one_chain (Prefix w) ∙ prefix_shape w;
}

linked_ends : (a : Atom) (ls ms : List Linked) (m : Linked) (p : List ℕ) → ls ≡ ms ++ m ∷ [] → prefix_in (out-Atom (out-Linked m).atom) ≡ Some p
    → EndsIn (canonical_atom a ++ concat (map canonical_linked ls)) (λ w. canonical_chain (roll-Chain (record { first = a; rest = on_last (relinked w) ls }))) p
linked_ends a ls ms m p e h =
    let x : List ℕ = canonical_atom a in
    let y : List ℕ = concat (map canonical_linked ms) in
    let z : List ℕ = link_text (out-Linked m).link in
    let parts : (t : List ℕ) → x ++ (y ++ (z ++ t)) ≡ x ++ y ++ z ++ t = λ t. simp append_assoc refl in
    record {
      front = x ++ y ++ z;
      whole = ap (λ l. x ++ concat (map canonical_linked l)) e ∙ ap (λ t. x ++ t) (concat_push canonical_linked ms m)
          ∙ ap (λ t. x ++ (y ++ t)) (linked_shape m) ∙ ap (λ t. x ++ (y ++ (z ++ t))) (atom_prefix (out-Linked m).atom p h) ∙ parts (word_text p);
      changed = λ w. rolled_chain a (on_last (relinked w) ls)
          ∙ ap (λ l. x ++ concat (map canonical_linked l)) (ap (on_last (relinked w)) e ∙ on_last-append (relinked w) ms m)
          ∙ ap (λ t. x ++ t) (concat_push canonical_linked ms (relinked w m))
          ∙ ap (λ t. x ++ (y ++ t)) (rolled_linked (out-Linked m).link (Prefix w)) ∙ ap (λ t. x ++ (y ++ (z ++ t))) (prefix_shape w) ∙ parts (word_text w);
    }

atoms_end : (a : Atom) (ls : List Linked) (p : List ℕ) → prefix_in (out-Atom (last_atom a (last_of ls))) ≡ Some p
    → EndsIn (canonical_atom a ++ concat (map canonical_linked ls)) (λ w. canonical_chain (ended_by w a ls)) p
atoms_end a [] p h = first_ends a p h
atoms_end a (l ∷ ls) p h =
    let m = has_last l ls in
    let s = last_split (l ∷ ls) m.0 m.1 in
    linked_ends a (l ∷ ls) s.0 m.0 p s.1 (ap (λ o. prefix_in (out-Atom (last_atom a o))) (sym m.1) ∙ h)

chain_ends : (c : Chain) (p : List ℕ) → chain_prefix c ≡ Some p → EndsIn (canonical_chain c) (λ w. canonical_chain (ended_by w (out-Chain c).first (out-Chain c).rest)) p
chain_ends c p h =
    let e = atoms_end (out-Chain c).first (out-Chain c).rest p h in
    record { front = e.front; whole = chain_shape c ∙ e.whole; changed = e.changed }

-- ---- parts
abbrev pub ending : List ℕ → Chain → Chain
ending w c = ended_by w (out-Chain c).first (out-Chain c).rest

-- chains of a part with one alternative, which ends in a prefix
pub record OneChain (excluded : Bool) (chains : List Chain) (p : List ℕ) : Type 0 where
  pub positive : excluded ≡ false
  pub chain : Chain
  pub one : chains ≡ chain ∷ []
  pub ends : chain_prefix chain ≡ Some p

pub one_chain_of : (e : Bool) (cs : List Chain) (p : List ℕ) → (if e then None else chains_prefix cs) ≡ Some p → OneChain e cs p
one_chain_of true cs p h = absurd (let no : None ≡ Some p = h in cc)
one_chain_of false [] p h = absurd (let no : None ≡ Some p = h in cc)
one_chain_of false (c ∷ []) p h = record { positive = refl; chain = c; one = refl; ends = h }
one_chain_of false (c ∷ d ∷ cs) p h = absurd (let no : None ≡ Some p = h in cc)

part_ends : (x : Part) (p : List ℕ) → part_prefix (Some x) ≡ Some p → EndsIn (canonical_part x) (λ w. canonical_part (with_chains (on_last (ending w)) x)) p
part_ends x p h =
    let o = one_chain_of (out-Part x).excluded (out-Part x).chains p h in
    let e = chain_ends o.chain p o.ends in
    let dash : Bool → List ℕ = λ b. if b then codes "-" else [] in
    record {
      front = e.front;
      whole = part_shape x ∙ ap (λ b. dash b ++ join_with_byte 124 (map canonical_chain (out-Part x).chains)) o.positive
          ∙ ap (λ cs. join_with_byte 124 (map canonical_chain cs)) o.one ∙ e.whole;
      changed = λ w. rolled_part (out-Part x).excluded (on_last (ending w) (out-Part x).chains)
          ∙ ap (λ b. dash b ++ join_with_byte 124 (map canonical_chain (on_last (ending w) (out-Part x).chains))) o.positive
          ∙ ap (λ cs. join_with_byte 124 (map canonical_chain (on_last (ending w) cs))) o.one ∙ e.changed w;
    }

-- ---- queries
-- the text of parts, the last of which may be another
last_part_text : (ps : List Part) (x : Part) → canonical_parts (ps ++ x ∷ []) ≡ canonical_parts ps ++ (sign_before 32 (is_none (map canonical_part ps)) ++ canonical_part x)
last_part_text ps x = ap (join_with_byte 32) (map-append canonical_part ps (x ∷ [])) ∙ join_push 32 (map canonical_part ps) (canonical_part x)

parts_end : (q : Query) (ps : List Part) (x : Part) (p : List ℕ) → (out-Query q).parts ≡ ps ++ x ∷ [] → part_prefix (Some x) ≡ Some p → EndsIn (canonical q) (λ w. canonical (with_prefix w q)) p
parts_end q ps x p is h =
    let e = part_ends x p h in
    let a : List ℕ = canonical_parts ps in
    let b : List ℕ = sign_before 32 (is_none (map canonical_part ps)) in
    let group : (t : List ℕ) → a ++ (b ++ (e.front ++ t)) ≡ a ++ b ++ e.front ++ t = λ t. simp append_assoc refl in
    record {
      front = a ++ b ++ e.front;
      whole = query_shape q ∙ ap canonical_parts is ∙ last_part_text ps x ∙ ap (λ t. a ++ (b ++ t)) e.whole ∙ group (word_text p);
      changed = λ w. rolled_query (on_last (with_chains (on_last (ending w))) (out-Query q).parts)
          ∙ ap canonical_parts (ap (on_last (with_chains (on_last (ending w)))) is ∙ on_last-append (with_chains (on_last (ending w))) ps x)
          ∙ last_part_text ps (with_chains (on_last (ending w)) x) ∙ ap (λ t. a ++ (b ++ t)) (e.changed w) ∙ group (word_text w);
    }

query_ends_at : (q : Query) (o : Option Part) (p : List ℕ) → last_of (out-Query q).parts ≡ o → part_prefix o ≡ Some p → EndsIn (canonical q) (λ w. canonical (with_prefix w q)) p
query_ends_at q None p e h = absurd (let no : None ≡ Some p = h in cc)
query_ends_at q (Some x) p e h = let s = last_split (out-Query q).parts x e in parts_end q s.0 x p s.1 h

query_ends : (q : Query) (p : List ℕ) → last_prefix q ≡ Some p → EndsIn (canonical q) (λ w. canonical (with_prefix w q)) p
query_ends q p h = query_ends_at q (last_of (out-Query q).parts) p refl h

-- ---- shorter words in a text
shown_more_at : (b : Bool) (x : ℕ) (w more : List ℕ) → (if b then (w ++ more) else (x ∷ (w ++ more))) ≡ (if b then w else (x ∷ w)) ++ more
shown_more_at true x w more = refl
shown_more_at false x w more = refl

shown_more : (w more : List ℕ) → 1 ≤ length w → word_text (w ++ more) ≡ word_text w ++ more
shown_more [] more h = absurd (omega (arith, h))
shown_more (x ∷ w) more h = shown_more_at (x == 58) x w more

-- the text of the query with the prefix w is the beginning of that of the query
within : (q : Query) (w p more : List ℕ) → p ≡ w ++ more → last_prefix q ≡ Some p → 1 ≤ length w → canonical q ≡ canonical (with_prefix w q) ++ more
within q w p more e h some =
    let i = query_ends q p h in
    i.whole ∙ ap (λ l. i.front ++ l) (ap word_text e ∙ shown_more w more some) ∙ sym (append_assoc i.front (word_text w) more) ∙ ap (λ l. l ++ more) (sym (i.changed w))

-- it is the query's text without as many bytes as the prefix is cut
pub record Shortened (q : Query) (w p : List ℕ) (n : ℕ) : Type 0 where
  pub fits : length p - length w ≤ length (canonical q)
  pub boundary : IsCharBoundary (canonical q) n
  pub same : take n (canonical q) ≡ canonical (with_prefix w q)

pub shortened : (q : Query) (w p more : List ℕ) (n : ℕ) → last_prefix q ≡ Some p → p ≡ w ++ more → IsUtf8 more → 1 ≤ length w → n ≡ length (canonical q) - (length p - length w)
    → Shortened q w p n
shortened q w p more n h is u some e =
    let text : List ℕ = canonical (with_prefix w q) in
    let whole : canonical q ≡ text ++ more = within q w p more is h some in
    let sum : length (canonical q) ≡ length text + length more = ap length whole ∙ length-append text more in
    let word : length p ≡ length w + length more = ap length is ∙ length-append w more in
    let at : n ≡ length text = omega (arith, e, sum, word) in
    record {
      fits = omega (arith, sum, word);
      boundary = subst (IsCharBoundary (canonical q)) (sym at) (IsCharBoundary-at_seam (canonical q) text more whole u);
      same = ap (λ k. take k (canonical q)) at ∙ ap (take (length text)) whole ∙ take-append_seam text more;
    }

-- the prefix has at most one byte more than the query's text
pub prefix_short : (q : Query) (p : List ℕ) → last_prefix q ≡ Some p → length p ≤ length (canonical q) + 1
prefix_short q p h = let e = query_ends q p h in omega (arith, ap length e.whole, length-append e.front (word_text p), shown_short p)
  where
    shown_at : (b : Bool) (x : ℕ) (w : List ℕ) → length (x ∷ w) ≤ length (if b then w else (x ∷ w)) + 1
    shown_at true x w = omega arith
    shown_at false x w = omega arith

    shown_short : (w : List ℕ) → length w ≤ length (word_text w) + 1
    shown_short [] = omega arith
    shown_short (x ∷ w) = shown_at (x == 58) x w

-- ---- shorter prefixes
pub shorter_push : (cs : List ℕ) (c : ℕ) → shorter (cs ++ c ∷ []) ≡ cs ∷ shorter cs
shorter_push [] c = refl
shorter_push (x ∷ cs) c = ap (λ l. map (λ w. x ∷ w) l ++ [] ∷ []) (shorter_push cs c)

map_cond : {X Y : Type 0} (f : X → Y) (x : X) (b : Bool) (ys : List Y) (xs : List X) → ys ≡ map f xs → cond b (f x ∷ ys) ys ≡ map f (cond b (x ∷ xs) xs)
map_cond f x true ys xs e = ap (λ l. f x ∷ l) e
map_cond f x false ys xs e = e

filter_map : {X Y : Type 0} (f : X → Y) (t : Y → Bool) (xs : List X) → filter t (map f xs) ≡ map f (filter (λ x. t (f x)) xs)
filter_map f t [] = refl
filter_map f t (x ∷ xs) = map_cond f x (t (f x)) _ _ (filter_map f t xs)

any_behind : (xs ys : List ℕ) → list_any is_colon ys ≡ true → list_any is_colon (xs ++ ys) ≡ true
any_behind xs ys h = list_any-append is_colon xs ys ∙ or_right (list_any is_colon xs) (list_any is_colon ys) h

dropped_first : {X : Type 0} (t : X → Bool) (x : X) (xs : List X) → t x ≡ false → filter t (x ∷ xs) ≡ filter t xs
dropped_first t x xs h = ap (λ b. cond b (x ∷ filter t xs) (filter t xs)) h

-- where a colon stands behind cs, none of its prefixes passes a test that wants none
none_passes : (cs rest : List ℕ) (t : List ℕ → Bool) → list_any is_colon rest ≡ true
    → ((w : List ℕ) → list_any is_colon (drop (length w) (cs ++ rest)) ≡ true → t w ≡ false) → filter t (shorter cs) ≡ []
none_passes [] rest t h f = refl
none_passes (x ∷ cs) rest t h f =
    filter-append t (map (λ w. x ∷ w) (shorter cs)) ([] ∷ [])
    ∙ ap (λ l. filter t (map (λ w. x ∷ w) (shorter cs)) ++ l) (dropped_first t [] [] (f [] (any_behind (x ∷ cs) rest h)))
    ∙ append-nil (filter t (map (λ w. x ∷ w) (shorter cs)))
    ∙ filter_map (λ w. x ∷ w) t (shorter cs)
    ∙ ap (map (λ w. x ∷ w)) (none_passes cs rest (λ w. t (x ∷ w)) h (λ w g. f (x ∷ w) g))

-- behind a colon that is cut off no word is left
pub left_none : (all cs rest : List ℕ) → all ≡ cs ++ rest → list_any is_colon rest ≡ true → filter (is_left all) (shorter cs) ≡ []
left_none all cs rest e h =
    none_passes cs rest (is_left all) h (λ w g. and_right (nat_lt 0 (length w)) _ (ap not (ap (λ l. list_any is_colon (drop (length w) l)) e ∙ g)))

kept_first : {X : Type 0} (t : X → Bool) (x : X) (xs : List X) → t x ≡ true → filter t (x ∷ xs) ≡ x ∷ filter t xs
kept_first t x xs h = ap (λ b. cond b (x ∷ filter t xs) (filter t xs)) h

-- one character less: a word is left, where that is no colon and none was cut off
pub left_more : (all cs rest : List ℕ) (c : ℕ) → all ≡ cs ++ rest → list_any is_colon rest ≡ false → 1 ≤ length cs
    → filter (is_left all) (shorter (cs ++ c ∷ [])) ≡ cs ∷ filter (is_left all) (shorter cs)
left_more all cs rest c e h some =
    let behind : drop (length cs) all ≡ rest = ap (drop (length cs)) e ∙ drop-append_seam cs rest in
    let left : is_left all cs ≡ true = ap (λ l. nat_lt 0 (length cs) && not (list_any is_colon l)) behind ∙ ap (λ b. nat_lt 0 (length cs) && not b) h ∙ ap (λ b. b && true) (lt-ltb 0 (length cs) some) in
    ap (filter (is_left all)) (shorter_push cs c) ∙ kept_first (is_left all) cs (shorter cs) left

-- and no word is left where that character is a colon
pub left_stop : (all cs rest : List ℕ) (c : ℕ) → all ≡ cs ++ rest → list_any is_colon rest ≡ true → filter (is_left all) (shorter (cs ++ c ∷ [])) ≡ []
left_stop all cs rest c e h =
    let behind : drop (length cs) all ≡ rest = ap (drop (length cs)) e ∙ drop-append_seam cs rest in
    let gone : is_left all cs ≡ false = and_right (nat_lt 0 (length cs)) _ (ap not (ap (list_any is_colon) behind ∙ h)) in
    ap (filter (is_left all)) (shorter_push cs c) ∙ dropped_first (is_left all) cs (shorter cs) gone ∙ left_none all cs rest e h

-- of one character no shorter word is left
pub left_empty : (all : List ℕ) (c : ℕ) → filter (is_left all) (shorter (c ∷ [])) ≡ []
left_empty all c = refl
