-- The entry of a query out of that of a query with a shorter prefix.
--
--   filter_within, filter_swap     filters of filters
--   members_filter     the listing of what a test keeps
--   Begins, shorter_begin     a text begins with its shorter prefixes
--   words_begin        a word begins with what it may have been before
--   begins_shorter     what begins with a word begins with its beginnings
--   Told               a chain's rows by those of the prefix at its end, whatever it is
--   chain_told         each chain that ends in a prefix has them so
--   part_told          the rows of a part out of those with a shorter prefix
--   entries_narrow     the law
use Rattle.std.proofs.Common.{◌≡◌, ℕ, ◌&&◌, Bool, true, false, List, [], ◌∷◌, ◌++◌, map, cond, refl, sym, ◌∙◌, ap, subst, Option, Some, None, if◌then◌else◌}
use Rattle.std.specs.Prelude.{filter, encode_utf8_all, nat_eq}
use Rattle.std.specs.List.{All, list_any}
use Rattle.std.specs.Ordering.{eq_by_cmp}
use Rattle.std.specs.Cmp.{Equal-is}
use Rattle.std.specs.Str.{IsUtf8, chars}
use Rattle.std.proofs.lemmas.List.{append-nil, map-append}
use Rattle.std.proofs.lemmas.List.Sums.{fold-append}
use Rattle.std.proofs.lemmas.List.Elements.{All-nil, All-push, All-map, All-weaker, All-filter, All-contains}
use Rattle.std.proofs.lemmas.List.Kept.{IsStrictlySortedBy-filter}
use Rattle.std.proofs.lemmas.Map.Views.{any-filter_same}
use Rattle.std.proofs.lemmas.Str.{encodes-chars}
use Rattle.cs_base.specs.content.Members.{members_in}
use Rattle.cs_base.specs.content.Orders.{by_row}
use Rattle.cs_base.specs.declared.content.doc.Base.{Base}
use Rattle.cs_base.specs.declared.content.doc.Base.TheVariants as base
use Rattle.cs_base.specs.declared.content.doc.Row.{Row}
use Rattle.cs_base.specs.declared.content.doc.Scored.{Scored}
use Rattle.cs_base.specs.declared.content.query.Link.{Link}
use Rattle.cs_base.specs.declared.content.query.Query.{Query, out-Query}
use Rattle.cs_base.specs.declared.content.query.Part.{Part, out-Part, roll-out-Part}
use Rattle.cs_base.specs.declared.content.query.Chain.{Chain, roll-Chain, out-Chain, roll-out-Chain}
use Rattle.cs_base.specs.declared.content.query.Linked.{Linked, out-Linked, roll-out-Linked}
use Rattle.cs_base.specs.declared.content.query.Atom.{Atom, Prefix, roll-Atom, out-Atom, roll-out-Atom}
use Rattle.cs_base.specs.declared.content.query.Atom.TheVariants.{rolls-Prefix}
use Rattle.cs_base.proofs.MembersLemmas.{members_are, is_member-listed, listing-rises}
use Rattle.cs_base.proofs.OrdersLemmas.{by_row_total, by_row_exact}
use Rattle.cs_base.proofs.ListsLemmas.{all_stay}
use Rattle.cs_model.specs.Answers.{PartRows, LinkedRows, begins, chained, is_linked, linked_to, parts_of, rows_of_atom, rows_of_chain, rows_of_linked, rows_of_part, union_of}
use Rattle.cs_model.specs.Corpus.{Corpus}
use Rattle.cs_model.specs.Grammar.{on_last, with_chains}
use Rattle.cs_model.specs.Keys.{last_of, prefix_in, last_atom, chain_prefix, part_prefix, relinked, ended_by, with_prefix, shorter, is_left, shorter_words}
use Rattle.cs_model.proofs.AnswersLemmas.{query_rolled, part_rolled, chain_rolled, linked_rolled, prefix_rows}
use Rattle.cs_model.proofs.KeyLemmas.{on_last-append, last_split, prefix_of, ending, one_chain_of}
use Rattle.cs_model.proofs.SizeLemmas.{encodes-append}
use Rattle.cs_model_kept.specs.Entries.{Entry, scored_hits, base_of, entry, entry_of, is_begun, is_hit, without, entry_after}
use Rattle.cs_model_kept.specs.KeptLaws.{EntriesNarrow}
use Rattle.cs_model_kept.proofs.EntryLemmas.{entry_more, parts_read}

-- ---- filters
pub filter_within : {X : Type 0} (p q : X → Bool) → ((x : X) → p x ≡ true → q x ≡ true) → (xs : List X) → filter p (filter q xs) ≡ filter p xs
filter_within p q h [] = refl
filter_within p q h (x ∷ xs) =
    elim (p x) as (λ b. p x ≡ b → filter p (cond (q x) (x ∷ filter q xs) (filter q xs)) ≡ cond b (x ∷ filter p xs) (filter p xs)) [
      | true ↦ λ e.
          ap (λ b. filter p (cond b (x ∷ filter q xs) (filter q xs))) (h x e)
          ∙ ap (λ b. cond b (x ∷ filter p (filter q xs)) (filter p (filter q xs))) e ∙ ap (λ l. x ∷ l) (filter_within p q h xs)
      | false ↦ λ e. passed (q x) e ∙ filter_within p q h xs
    ] refl
  where
    passed : (b : Bool) → p x ≡ false → filter p (cond b (x ∷ filter q xs) (filter q xs)) ≡ filter p (filter q xs)
    passed true e = ap (λ b. cond b (x ∷ filter p (filter q xs)) (filter p (filter q xs))) e
    passed false e = refl

pub filter_swap : {X : Type 0} (p q : X → Bool) (xs : List X) → filter p (filter q xs) ≡ filter q (filter p xs)
filter_swap p q [] = refl
filter_swap p q (x ∷ xs) =
    elim (p x) as (λ b. p x ≡ b → filter p (cond (q x) (x ∷ filter q xs) (filter q xs)) ≡ filter q (cond b (x ∷ filter p xs) (filter p xs))) [
      | true ↦ λ e. kept (q x) e ∙ ap (λ l. cond (q x) (x ∷ l) l) (filter_swap p q xs)
      | false ↦ λ e. passed (q x) e ∙ filter_swap p q xs
    ] refl
  where
    kept : (b : Bool) → p x ≡ true → filter p (cond b (x ∷ filter q xs) (filter q xs)) ≡ cond b (x ∷ filter p (filter q xs)) (filter p (filter q xs))
    kept true e = ap (λ b. cond b (x ∷ filter p (filter q xs)) (filter p (filter q xs))) e
    kept false e = refl

    passed : (b : Bool) → p x ≡ false → filter p (cond b (x ∷ filter q xs) (filter q xs)) ≡ filter p (filter q xs)
    passed true e = ap (λ b. cond b (x ∷ filter p (filter q xs)) (filter p (filter q xs))) e
    passed false e = refl

-- the rows that pass, listed, are those of the listing that pass
pub members_filter : (p : Row → Bool) (rows : List Row) → members_in by_row (filter p rows) ≡ filter p (members_in by_row rows)
members_filter p rows =
    let same : (q r : Row) → eq_by_cmp by_row q r ≡ true → p r ≡ p q = λ q r e. ap p (sym (by_row_exact q r ((Equal-is (by_row q r)).0 e))) in
    sym (members_are by_row by_row_total by_row_exact (filter p (members_in by_row rows)) (filter p rows)
    (IsStrictlySortedBy-filter by_row p (members_in by_row rows) (listing-rises by_row rows)) (λ q.
    any-filter_same (eq_by_cmp by_row q) p (p q) (same q) (members_in by_row rows)
    ∙ ap (λ b. p q && b) (is_member-listed by_row by_row_total rows q)
    ∙ sym (any-filter_same (eq_by_cmp by_row q) p (p q) (same q) rows)))

-- ---- words
abbrev pub Begins : List ℕ → List ℕ → Type 0
Begins p w = (more : List ℕ) × (p ≡ w ++ more)

pub shorter_begin : (cs : List ℕ) → All (Begins cs) (shorter cs)
shorter_begin [] = All-nil (Begins [])
shorter_begin (c ∷ cs) =
    All-push (Begins (c ∷ cs)) (map (λ w. c ∷ w) (shorter cs)) []
    (All-map (Begins (c ∷ cs)) (λ w. c ∷ w) (shorter cs) (All-weaker (Begins cs) (λ w. Begins (c ∷ cs) (c ∷ w)) (λ w h. (h.0, ap (λ l. c ∷ l) h.1)) (shorter cs) (shorter_begin cs)))
    (c ∷ cs, refl)

pub words_begin : (p : List ℕ) → IsUtf8 p → All (Begins p) (shorter_words p)
words_begin p u =
    let left = filter (is_left (chars p)) (shorter (chars p)) in
    All-map (Begins p) encode_utf8_all left
    (All-weaker (Begins (chars p)) (λ w. Begins p (encode_utf8_all w)) (λ w h. (encode_utf8_all h.0, sym (encodes-chars p u) ∙ ap encode_utf8_all h.1 ∙ encodes-append w h.0)) left
    (All-filter (is_left (chars p)) (Begins (chars p)) (shorter (chars p)) (shorter_begin (chars p))))

and_further : (b c d : Bool) → (c ≡ true → d ≡ true) → (b && c) ≡ true → (b && d) ≡ true
and_further true c d f h = f h
and_further false c d f h = h

begins_shorter : (w more x : List ℕ) → begins (w ++ more) x ≡ true → begins w x ≡ true
begins_shorter [] more x h = refl
begins_shorter (c ∷ w) more [] h = h
begins_shorter (c ∷ w) more (d ∷ x) h = and_further (nat_eq c d) (begins (w ++ more) x) (begins w x) (begins_shorter w more x) h

-- ---- chains
module _ (k : Corpus) where
  abbrev beginning : List ℕ → List Row
  beginning v = filter (λ r. begins v r.word) k.rows

  record Told (own : List Row) (other : List ℕ → List Row) (p : List ℕ) : Type 0 where
    keeps : Row → Bool
    same : own ≡ filter keeps (beginning p)
    changed : (v : List ℕ) → other v ≡ filter keeps (beginning v)

  atom_told : (a : Atom) (p : List ℕ) → prefix_in (out-Atom a) ≡ Some p → rows_of_atom k a ≡ beginning p
  atom_told a p h = ap (rows_of_atom k) (sym (roll-out-Atom a) ∙ ap roll-Atom (prefix_of (out-Atom a) p h) ∙ rolls-Prefix p) ∙ prefix_rows k p

  abbrev linked_all : Atom → List Linked → List Row
  linked_all a ls = chained (rows_of_atom k a) (map (rows_of_linked k) ls)

  linked_is : (l : Linked) → rows_of_linked k l ≡ record { link = (out-Linked l).link; rows = rows_of_atom k (out-Linked l).atom }
  linked_is l = ap (rows_of_linked k) (sym (roll-out-Linked l)) ∙ linked_rolled k (out-Linked l).link (out-Linked l).atom

  last_linked : (a : Atom) (ms : List Linked) (m : Linked) → linked_all a (ms ++ m ∷ []) ≡ linked_to (rows_of_linked k m).link (linked_all a ms) (rows_of_linked k m).rows
  last_linked a ms m =
      ap (chained (rows_of_atom k a)) (map-append (rows_of_linked k) ms (m ∷ []))
      ∙ fold-append (λ kept (l : LinkedRows). linked_to l.link kept l.rows) (rows_of_atom k a) (map (rows_of_linked k) ms) (rows_of_linked k m ∷ [])

  linked_told : (a : Atom) (ls ms : List Linked) (m : Linked) (p : List ℕ) → ls ≡ ms ++ m ∷ [] → prefix_in (out-Atom (out-Linked m).atom) ≡ Some p
      → Told (linked_all a ls) (λ v. rows_of_chain k (roll-Chain (record { first = a; rest = on_last (relinked v) ls }))) p
  linked_told a ls ms m p e h =
      let link : Link = (out-Linked m).link in
      let before : List Row = linked_all a ms in
      let to : LinkedRows → List Row = λ l. linked_to l.link before l.rows in
      record {
        keeps = λ r. list_any (is_linked link r) before;
        same = ap (linked_all a) e ∙ last_linked a ms m ∙ ap to (linked_is m) ∙ ap (linked_to link before) (atom_told (out-Linked m).atom p h);
        changed = λ v. chain_rolled k a (on_last (relinked v) ls)
            ∙ ap (linked_all a) (ap (on_last (relinked v)) e ∙ on_last-append (relinked v) ms m)
            ∙ last_linked a ms (relinked v m)
            ∙ ap to (linked_rolled k link (Prefix v)) ∙ ap (linked_to link before) (prefix_rows k v);
      }

  has_last : {X : Type 0} (x : X) (xs : List X) → (y : X) × (last_of (x ∷ xs) ≡ Some y)
  has_last x [] = (x, refl)
  has_last x (y ∷ ys) = has_last y ys

  atoms_told : (a : Atom) (ls : List Linked) (p : List ℕ) → prefix_in (out-Atom (last_atom a (last_of ls))) ≡ Some p
      → Told (linked_all a ls) (λ v. rows_of_chain k (ended_by v a ls)) p
  atoms_told a [] p h = record {
    keeps = λ r. true;
    same = atom_told a p h ∙ sym (all_stay (beginning p));
    changed = λ v. chain_rolled k (Prefix v) [] ∙ prefix_rows k v ∙ sym (all_stay (beginning v));
  }
  atoms_told a (l ∷ ls) p h =
      let m = has_last l ls in
      let s = last_split (l ∷ ls) m.0 m.1 in
      linked_told a (l ∷ ls) s.0 m.0 p s.1 (ap (λ o. prefix_in (out-Atom (last_atom a o))) (sym m.1) ∙ h)

  chain_told : (c : Chain) (p : List ℕ) → chain_prefix c ≡ Some p → Told (rows_of_chain k c) (λ v. rows_of_chain k (ending v c)) p
  chain_told c p h =
      let t = atoms_told (out-Chain c).first (out-Chain c).rest p h in
      record { keeps = t.keeps; same = ap (rows_of_chain k) (sym (roll-out-Chain c)) ∙ chain_rolled k (out-Chain c).first (out-Chain c).rest ∙ t.same; changed = t.changed }

  -- ---- parts
  abbrev read : Bool → List Row → PartRows
  read excluded rows = record { excluded = excluded; rows = rows }

  -- the part with another prefix has no other rows than those of which the part has those that begin with its own
  record Narrowed (own other : PartRows) (p : List ℕ) : Type 0 where
    positive : own.excluded ≡ false
    positive_too : other.excluded ≡ false
    rows : own.rows ≡ filter (λ r. begins p r.word) other.rows

  part_told : (x : Part) (p w more : List ℕ) → p ≡ w ++ more → part_prefix (Some x) ≡ Some p → Narrowed (rows_of_part k x) (rows_of_part k (with_chains (on_last (ending w)) x)) p
  part_told x p w more is h =
      let o = one_chain_of (out-Part x).excluded (out-Part x).chains p h in
      let t = chain_told o.chain p o.ends in
      let own : rows_of_part k x ≡ read false (members_in by_row (rows_of_chain k o.chain)) =
      ap (rows_of_part k) (sym (roll-out-Part x)) ∙ part_rolled k (out-Part x).excluded (out-Part x).chains
      ∙ ap (λ e. read e (union_of (map (rows_of_chain k) (out-Part x).chains))) o.positive
      ∙ ap (λ cs. read false (union_of (map (rows_of_chain k) cs))) o.one
      ∙ ap (λ rows. read false (members_in by_row rows)) (append-nil (rows_of_chain k o.chain)) in
      let other : rows_of_part k (with_chains (on_last (ending w)) x) ≡ read false (members_in by_row (rows_of_chain k (ending w o.chain))) =
      part_rolled k (out-Part x).excluded (on_last (ending w) (out-Part x).chains)
      ∙ ap (λ e. read e (union_of (map (rows_of_chain k) (on_last (ending w) (out-Part x).chains)))) o.positive
      ∙ ap (λ cs. read false (union_of (map (rows_of_chain k) (on_last (ending w) cs)))) o.one
      ∙ ap (λ rows. read false (members_in by_row rows)) (append-nil (rows_of_chain k (ending w o.chain))) in
      let of_p : Row → Bool = λ r. begins p r.word in
      let fewer : (r : Row) → of_p r ≡ true → begins w r.word ≡ true = λ r e. begins_shorter w more r.word (ap (λ v. begins v r.word) (sym is) ∙ e) in
      let both : rows_of_chain k o.chain ≡ filter of_p (rows_of_chain k (ending w o.chain)) =
      t.same ∙ ap (filter t.keeps) (sym (filter_within of_p (λ r. begins w r.word) fewer k.rows)) ∙ filter_swap t.keeps of_p (beginning w) ∙ ap (filter of_p) (sym (t.changed w)) in
      record {
        positive = ap (λ (y : PartRows). y.excluded) own;
        positive_too = ap (λ (y : PartRows). y.excluded) other;
        rows = ap (λ (y : PartRows). y.rows) own ∙ ap (members_in by_row) both ∙ members_filter of_p (rows_of_chain k (ending w o.chain)) ∙ ap (λ (y : PartRows). filter of_p y.rows) (sym other);
      }

  -- ---- entries
  after_positive : (begun : Bool) (hs : List Scored) (x : PartRows) → x.excluded ≡ false
      → entry_after begun hs x ≡ record { base = if begun then base.Listed hs else base.All; rows = filter (is_hit hs) x.rows }
  after_positive begun hs x e = ap (λ b. (let made : Base → List Row → Entry = λ b rows. record { base = b; rows = rows } in if b then made (base.Listed (without x.rows hs)) [] else made (if begun then base.Listed hs else base.All) (filter (is_hit hs) x.rows))) e

  abbrev Narrows : Entry → Entry → List ℕ → Type 0
  Narrows own other p = (own.rows ≡ filter (λ r. begins p r.word) other.rows) × (own.base ≡ other.base)

  entries_told : (done : List PartRows) (x y : PartRows) (p : List ℕ) → Narrowed x y p → Narrows (entry k (done ++ x ∷ [])) (entry k (done ++ y ∷ [])) p
  entries_told done x y p n =
      let hs = scored_hits k done in
      let own = entry_more k done x ∙ after_positive (is_begun (base_of k done)) hs x n.positive in
      let other = entry_more k done y ∙ after_positive (is_begun (base_of k done)) hs y n.positive_too in (
        ap (λ (e : Entry). e.rows) own ∙ ap (filter (is_hit hs)) n.rows ∙ filter_swap (is_hit hs) (λ r. begins p r.word) y.rows ∙ ap (λ (e : Entry). filter (λ r. begins p r.word) e.rows) (sym other),
        ap (λ (e : Entry). e.base) own ∙ ap (λ (e : Entry). e.base) (sym other),
      )

  parts_told : (q : Query) (ps : List Part) (x : Part) (p w more : List ℕ) → (out-Query q).parts ≡ ps ++ x ∷ [] → p ≡ w ++ more → part_prefix (Some x) ≡ Some p
      → Narrows (entry k (parts_of k q)) (entry k (parts_of k (with_prefix w q))) p
  parts_told q ps x p w more at is h =
      let change : Part → Part = with_chains (on_last (ending w)) in
      let done : List PartRows = map (rows_of_part k) ps in
      let own : parts_of k q ≡ done ++ rows_of_part k x ∷ [] = parts_read k q ∙ ap (map (rows_of_part k)) at ∙ map-append (rows_of_part k) ps (x ∷ []) in
      let other : parts_of k (with_prefix w q) ≡ done ++ rows_of_part k (change x) ∷ [] =
      query_rolled k (on_last change (out-Query q).parts)
      ∙ ap (map (rows_of_part k)) (ap (on_last change) at ∙ on_last-append change ps x) ∙ map-append (rows_of_part k) ps (change x ∷ []) in
      subst (λ own. Narrows (entry k own) (entry k (parts_of k (with_prefix w q))) p) (sym own)
      (subst (λ other. Narrows (entry k (done ++ rows_of_part k x ∷ [])) (entry k other) p) (sym other) (entries_told done (rows_of_part k x) (rows_of_part k (change x)) p (part_told x p w more is h)))

  query_told : (q : Query) (o : Option Part) (p w more : List ℕ) → last_of (out-Query q).parts ≡ o → p ≡ w ++ more → part_prefix o ≡ Some p
      → Narrows (entry k (parts_of k q)) (entry k (parts_of k (with_prefix w q))) p
  query_told q None p w more e is h = absurd (let no : None ≡ Some p = h in cc)
  query_told q (Some x) p w more e is h = let s = last_split (out-Query q).parts x e in parts_told q s.0 x p w more s.1 is h

pub entries_narrow : EntriesNarrow
unfolding entry_of
entries_narrow k q p w h u one =
    let b = All-contains (Begins p) (shorter_words p) w (words_begin p u) one in
    query_told k q (last_of (out-Query q).parts) p w b.0 refl b.1 h
