-- The canonical text of a query, level by level.
--
--   query_shape, part_shape, chain_shape, linked_shape     the text of each by the texts of what it has
--   prefix_shape, exact_shape, join_shape                  the text of each atom
use Rattle.std.proofs.Common.{◌≡◌, ℕ, List, [], ◌++◌, map, ap, ◌∙◌, sym}
use Rattle.std.specs.Prelude.{if◌then◌else◌, codes}
use Rattle.std.specs.List.{concat, join_with_byte}
use Rattle.cs_base.specs.declared.content.query.Query.{Query, out-Query, roll-out-Query}
use Rattle.cs_base.specs.declared.content.query.Part.{Part, out-Part, roll-out-Part}
use Rattle.cs_base.specs.declared.content.query.Chain.{Chain, out-Chain, roll-out-Chain}
use Rattle.cs_base.specs.declared.content.query.Linked.{Linked, out-Linked, roll-out-Linked}
use Rattle.cs_base.specs.declared.content.query.Atom.{Prefix, Exact, roll-Atom}
use Rattle.cs_base.specs.declared.content.query.Atom.TheVariants.{rolls-Prefix, rolls-Exact}
use Rattle.cs_base.specs.declared.content.query.Atom.TheOpen.{Atom-F}
use Rattle.cs_base.specs.declared.content.query.Atom.TheFolds.{fold-roll-Query, fold-roll-Part, fold-roll-Chain, fold-roll-Linked, fold-roll-Atom}
use Rattle.cs_model.specs.Canonical.{Bytes, atom_text, chain_text, linked_text, part_text, query_text, link_text, canonical, canonical_parts, canonical_part, canonical_chain, canonical_linked, canonical_atom, word_text}

pub query_shape : (q : Query) → canonical q ≡ canonical_parts (out-Query q).parts
query_shape q = ap canonical (sym (roll-out-Query q)) ∙ fold-roll-Query Bytes Bytes Bytes Bytes Bytes atom_text chain_text linked_text part_text query_text (out-Query q)

pub part_shape : (p : Part) → canonical_part p ≡ (if (out-Part p).excluded then codes "-" else []) ++ join_with_byte 124 (map canonical_chain (out-Part p).chains)
part_shape p = ap canonical_part (sym (roll-out-Part p)) ∙ fold-roll-Part Bytes Bytes Bytes Bytes Bytes atom_text chain_text linked_text part_text query_text (out-Part p)

pub chain_shape : (c : Chain) → canonical_chain c ≡ canonical_atom (out-Chain c).first ++ concat (map canonical_linked (out-Chain c).rest)
chain_shape c = ap canonical_chain (sym (roll-out-Chain c)) ∙ fold-roll-Chain Bytes Bytes Bytes Bytes Bytes atom_text chain_text linked_text part_text query_text (out-Chain c)

pub linked_shape : (l : Linked) → canonical_linked l ≡ link_text (out-Linked l).link ++ canonical_atom (out-Linked l).atom
linked_shape l = ap canonical_linked (sym (roll-out-Linked l)) ∙ fold-roll-Linked Bytes Bytes Bytes Bytes Bytes atom_text chain_text linked_text part_text query_text (out-Linked l)

pub prefix_shape : (w : List ℕ) → canonical_atom (Prefix w) ≡ word_text w
prefix_shape w = ap canonical_atom (sym (rolls-Prefix w)) ∙ fold-roll-Atom Bytes Bytes Bytes Bytes Bytes atom_text chain_text linked_text part_text query_text (Atom-F.Prefix w)

pub exact_shape : (w : List ℕ) → canonical_atom (Exact w) ≡ word_text w ++ codes "$"
exact_shape w = ap canonical_atom (sym (rolls-Exact w)) ∙ fold-roll-Atom Bytes Bytes Bytes Bytes Bytes atom_text chain_text linked_text part_text query_text (Atom-F.Exact w)

pub join_shape : (n : List ℕ) (q : Query) → canonical_atom (roll-Atom (Atom-F.Join n q)) ≡ n ++ codes "[" ++ canonical q ++ codes "]"
join_shape n q = fold-roll-Atom Bytes Bytes Bytes Bytes Bytes atom_text chain_text linked_text part_text query_text (Atom-F.Join n q)
