-- What a query's levels mean where these are written out, and the lists of a reply as listings that compute.
--
--   query_rolled, part_rolled, chain_rolled, linked_rolled     the rows of each by those of what it has
--   prefix_rows, exact_rows, join_rows     the rows of each atom
--   part_listed         the rows of a part as a listing that computes
--   counted rows w      a word of rows with its documents
--   table_listed rows   the table of rows
--   listed_reply        a reply whose lists are such listings
--   reply-listed        it is the reply
--   add_facet_parts, tables_of_queries     the laws of facets
use Rattle.std.proofs.Common.{◌≡◌, ℕ, List, [], ◌∷◌, ◌++◌, map, length, take, drop, refl, ap, ◌∙◌, sym, Bool, false}
use Rattle.std.specs.List.{flat_map}
use Rattle.std.specs.Cmp.{IsTotalOrder}
use Rattle.std.specs.Ordering.{nat_cmp}
use Rattle.std.proofs.lemmas.Cmp.{then_total, on_total, back_total, nat_cmp_total, nat_list_cmp_total}
use Rattle.std.proofs.lemmas.List.{map-append}
use Rattle.cs_base.specs.content.Orders.{by_row, by_rank}
use Rattle.cs_base.specs.declared.content.doc.Row.{Row}
use Rattle.cs_base.specs.declared.content.query.Link.{Link}
use Rattle.cs_base.specs.declared.content.query.Query.{Query, roll-Query, out-Query, roll-out-Query}
use Rattle.cs_base.specs.declared.content.query.Part.{Part, roll-Part}
use Rattle.cs_base.specs.declared.content.query.Chain.{Chain, roll-Chain}
use Rattle.cs_base.specs.declared.content.query.Linked.{Linked, roll-Linked}
use Rattle.cs_base.specs.declared.content.query.Atom.{Atom, Prefix, Exact, roll-Atom}
use Rattle.cs_base.specs.declared.content.query.Atom.TheVariants.{rolls-Prefix, rolls-Exact}
use Rattle.cs_base.specs.declared.content.query.Atom.TheOpen.{Atom-F}
use Rattle.cs_base.specs.declared.content.query.Atom.TheFolds.{fold-roll-Query, fold-roll-Part, fold-roll-Chain, fold-roll-Linked, fold-roll-Atom}
use Rattle.cs_base.proofs.OrdersLemmas.{by_row_total, by_rank_total}
use Rattle.cs_model.specs.Collection.{named}
use Rattle.cs_model.specs.Corpus.{Corpus}
use Rattle.cs_model.specs.Grammar.{chain_of, part_of}
use Rattle.cs_model.specs.Answers.{PartRows, LinkedRows, Completion, by_count, of_word, atom_rows, chained, chain_rows, linked_rows, part_rows, query_parts, union_of, rows_of_atom, rows_of_linked, rows_of_chain, rows_of_part, parts_of, hits, pairs, scored, ranked, completion_of, table_of, table, facet_part}
use Rattle.cs_model.specs.AnswersLaws.{AddFacetParts, AreTablesOfQueries}
use Rattle.cs_model.specs.Replies.{Reply, FacetShown}
use Rattle.cs_model.specs.Requests.{Request, shown_of, hit_shown, facet_shown, reply_to}
use Rattle.cs_model.proofs.ListedMembers.{listed, members-listed}

module _ (k : Corpus) where
  pub query_rolled : (ps : List Part) → parts_of k (roll-Query (record { parts = ps })) ≡ map (rows_of_part k) ps
  query_rolled ps = fold-roll-Query (List Row) (List Row) LinkedRows PartRows (List PartRows) (atom_rows k) chain_rows linked_rows part_rows query_parts (record { parts = ps })

  pub part_rolled : (e : Bool) (cs : List Chain) → rows_of_part k (roll-Part (record { excluded = e; chains = cs })) ≡ record { excluded = e; rows = union_of (map (rows_of_chain k) cs) }
  part_rolled e cs = fold-roll-Part (List Row) (List Row) LinkedRows PartRows (List PartRows) (atom_rows k) chain_rows linked_rows part_rows query_parts (record { excluded = e; chains = cs })

  pub chain_rolled : (a : Atom) (ls : List Linked) → rows_of_chain k (roll-Chain (record { first = a; rest = ls })) ≡ chained (rows_of_atom k a) (map (rows_of_linked k) ls)
  chain_rolled a ls = fold-roll-Chain (List Row) (List Row) LinkedRows PartRows (List PartRows) (atom_rows k) chain_rows linked_rows part_rows query_parts (record { first = a; rest = ls })

  pub linked_rolled : (l : Link) (a : Atom) → rows_of_linked k (roll-Linked (record { link = l; atom = a })) ≡ record { link = l; rows = rows_of_atom k a }
  linked_rolled l a = fold-roll-Linked (List Row) (List Row) LinkedRows PartRows (List PartRows) (atom_rows k) chain_rows linked_rows part_rows query_parts (record { link = l; atom = a })

  pub prefix_rows : (w : List ℕ) → rows_of_atom k (Prefix w) ≡ atom_rows k (Atom-F.Prefix w)
  prefix_rows w = ap (rows_of_atom k) (sym (rolls-Prefix w))
      ∙ fold-roll-Atom (List Row) (List Row) LinkedRows PartRows (List PartRows) (atom_rows k) chain_rows linked_rows part_rows query_parts (Atom-F.Prefix w)

  pub exact_rows : (w : List ℕ) → rows_of_atom k (Exact w) ≡ atom_rows k (Atom-F.Exact w)
  exact_rows w = ap (rows_of_atom k) (sym (rolls-Exact w))
      ∙ fold-roll-Atom (List Row) (List Row) LinkedRows PartRows (List PartRows) (atom_rows k) chain_rows linked_rows part_rows query_parts (Atom-F.Exact w)

  pub join_rows : (n : List ℕ) (q : Query) → rows_of_atom k (roll-Atom (Atom-F.Join n q)) ≡ atom_rows k (Atom-F.Join n (parts_of k q))
  join_rows n q = fold-roll-Atom (List Row) (List Row) LinkedRows PartRows (List PartRows) (atom_rows k) chain_rows linked_rows part_rows query_parts (Atom-F.Join n q)

-- ---- listings
pub by_count_total : IsTotalOrder by_count
by_count_total = then_total (on_total (λ c. c.docs) (back_total nat_cmp_total)) (on_total (λ c. c.word) nat_list_cmp_total)

abbrev pub union_listed : List (List Row) → List Row
union_listed chains = listed by_row (flat_map (λ rows. rows) chains)

union-listed : (chains : List (List Row)) → union_of chains ≡ union_listed chains
union-listed chains = members-listed by_row by_row_total (flat_map (λ rows. rows) chains)

pub part_listed : (k : Corpus) (e : Bool) (cs : List Chain) → rows_of_part k (roll-Part (record { excluded = e; chains = cs })) ≡ record { excluded = e; rows = union_listed (map (rows_of_chain k) cs) }
part_listed k e cs = part_rolled k e cs ∙ ap (λ rows. record { excluded = e; rows = rows }) (union-listed (map (rows_of_chain k) cs))

abbrev pub counted : List Row → List ℕ → Completion
counted rows w = record { docs = length (listed nat_cmp (map (λ r. r.doc) (of_word w rows))); word = w }

abbrev pub table_listed : List Row → List Completion
table_listed rows = listed by_count (map (λ r. counted rows r.word) rows)

counted-are : (rows rs : List Row) → map (λ r. completion_of rows r.word) rs ≡ map (λ r. counted rows r.word) rs
counted-are rows [] = refl
counted-are rows (r ∷ rs) =
    ap (λ n. (let c : Completion = record { docs = n; word = r.word } in c) ∷ map (λ x. completion_of rows x.word) rs) (ap length (members-listed nat_cmp nat_cmp_total (map (λ x. x.doc) (of_word r.word rows))))
    ∙ ap (λ cs. counted rows r.word ∷ cs) (counted-are rows rs)

pub table-listed : (rows : List Row) → table_of rows ≡ table_listed rows
table-listed rows = members-listed by_count by_count_total (map (λ r. completion_of rows r.word) rows) ∙ ap (listed by_count) (counted-are rows rows)

-- ---- replies
module _ (k : Corpus) (ps : List PartRows) where
  abbrev facet_rows : List ℕ → PartRows
  facet_rows n = record { excluded = false; rows = union_listed (atom_rows k (Atom-F.Prefix (named n [])) ∷ []) }

  abbrev facet_listed : ℕ → List ℕ → FacetShown
  facet_listed cut n = record { name = n; table = map shown_of (take cut (table_listed (pairs k (ps ++ facet_rows n ∷ [])))) }

  abbrev pub listed_reply : Request → Reply
  listed_reply r = record {
    completions = map shown_of (take r.completions (table_listed (pairs k ps)));
    facets = map (facet_listed r.completions) r.facets;
    hits = map (hit_shown k) (take r.hits (drop r.offset (listed by_rank (map (scored ps) (hits k ps)))));
    total_completions = length (table_listed (pairs k ps));
    total_hits = length (hits k ps);
  }

  facet-listed : (n : List ℕ) → facet_part k n ≡ facet_rows n
  facet-listed n = ap (λ rows. record { excluded = false; rows = rows }) (union-listed (atom_rows k (Atom-F.Prefix (named n [])) ∷ []))

  facets-listed : (cut : ℕ) (ns : List (List ℕ)) → map (facet_shown k ps cut) ns ≡ map (facet_listed cut) ns
  facets-listed cut [] = refl
  facets-listed cut (n ∷ ns) =
      ap (λ f. (let s : FacetShown = record { name = n; table = map shown_of (take cut (table k (ps ++ f ∷ []))) } in s) ∷ map (facet_shown k ps cut) ns) (facet-listed n)
      ∙ ap (λ t. (let s : FacetShown = record { name = n; table = map shown_of (take cut t) } in s) ∷ map (facet_shown k ps cut) ns) (table-listed (pairs k (ps ++ facet_rows n ∷ [])))
      ∙ ap (λ fs. facet_listed cut n ∷ fs) (facets-listed cut ns)

  pub reply-listed : (r : Request) → reply_to k ps r ≡ listed_reply r
  reply-listed r =
      ap (λ t. (let y : Reply = record {
        completions = map shown_of (take r.completions t);
        facets = map (facet_shown k ps r.completions) r.facets;
        hits = map (hit_shown k) (take r.hits (drop r.offset (ranked k ps)));
        total_completions = length t;
        total_hits = length (hits k ps);
      } in y)) (table-listed (pairs k ps))
      ∙ ap (λ fs. (let y : Reply = record {
        completions = map shown_of (take r.completions (table_listed (pairs k ps)));
        facets = fs;
        hits = map (hit_shown k) (take r.hits (drop r.offset (ranked k ps)));
        total_completions = length (table_listed (pairs k ps));
        total_hits = length (hits k ps);
      } in y)) (facets-listed r.completions r.facets)
      ∙ ap (λ hs. (let y : Reply = record {
        completions = map shown_of (take r.completions (table_listed (pairs k ps)));
        facets = map (facet_listed r.completions) r.facets;
        hits = map (hit_shown k) (take r.hits (drop r.offset hs));
        total_completions = length (table_listed (pairs k ps));
        total_hits = length (hits k ps);
      } in y)) (members-listed by_rank by_rank_total (map (scored ps) (hits k ps)))

-- ---- facets
-- the rows of the part that asks the facet words of a name
facet_part_rows : (k : Corpus) (n : List ℕ) → rows_of_part k (part_of false (Prefix (named n []))) ≡ facet_part k n
facet_part_rows k n =
    part_rolled k false (chain_of (Prefix (named n [])) ∷ [])
    ∙ ap (λ rows. record { excluded = false; rows = union_of (rows ∷ []) }) (chain_rolled k (Prefix (named n [])) [] ∙ prefix_rows k (named n []))

pub add_facet_parts : AddFacetParts
add_facet_parts k q n =
    query_rolled k ((out-Query q).parts ++ part_of false (Prefix (named n [])) ∷ [])
    ∙ map-append (rows_of_part k) (out-Query q).parts (part_of false (Prefix (named n [])) ∷ [])
    ∙ ap (λ p. map (rows_of_part k) (out-Query q).parts ++ p ∷ []) (facet_part_rows k n)
    ∙ ap (λ ps. ps ++ facet_part k n ∷ []) (sym (query_rolled k (out-Query q).parts) ∙ ap (parts_of k) (roll-out-Query q))

pub tables_of_queries : AreTablesOfQueries
tables_of_queries k q n = ap (table k) (sym (add_facet_parts k q n))
