-- The blocks that are met by what holds atoms, level by level.
--
--   met_query, met_part, met_chain, met_linked     by those of what each holds
--   met_prefix_atom, met_exact_atom, met_join_atom     those of each atom
use Rattle.std.proofs.Common.{◌≡◌, ℕ, ◌+◌, List, [], map, sym, ap, ◌∙◌, Bool}
use Rattle.std.specs.Prelude.{sum}
use Rattle.cs_base.specs.declared.content.query.Link.{Link}
use Rattle.cs_base.specs.declared.content.query.Query.{Query, roll-Query}
use Rattle.cs_base.specs.declared.content.query.Part.{Part, roll-Part}
use Rattle.cs_base.specs.declared.content.query.Chain.{Chain, roll-Chain}
use Rattle.cs_base.specs.declared.content.query.Linked.{Linked, roll-Linked}
use Rattle.cs_base.specs.declared.content.query.Atom.{Atom, Prefix, Exact, roll-Atom}
use Rattle.cs_base.specs.declared.content.query.Atom.TheVariants.{rolls-Prefix, rolls-Exact}
use Rattle.cs_base.specs.declared.content.query.Atom.TheOpen.{Atom-F}
use Rattle.cs_base.specs.declared.content.query.Atom.TheFolds.{fold-roll-Query, fold-roll-Part, fold-roll-Chain, fold-roll-Linked, fold-roll-Atom}
use Rattle.cs_model.specs.Collection.{named}
use Rattle.cs_model_kept.specs.Due.{Division, met_prefix, met_word, atom_met, chain_met, linked_met, part_met, query_met, met_of_atom, met_of_linked, met_of_chain, met_of_part, met_of_query}

module _ (v : Division) where
  pub met_query : (ps : List Part) → met_of_query v (roll-Query (record { parts = ps })) ≡ sum (map (met_of_part v) ps)
  met_query ps = fold-roll-Query ℕ ℕ ℕ ℕ ℕ (atom_met v) chain_met linked_met part_met query_met (record { parts = ps })

  pub met_part : (e : Bool) (cs : List Chain) → met_of_part v (roll-Part (record { excluded = e; chains = cs })) ≡ sum (map (met_of_chain v) cs)
  met_part e cs = fold-roll-Part ℕ ℕ ℕ ℕ ℕ (atom_met v) chain_met linked_met part_met query_met (record { excluded = e; chains = cs })

  pub met_chain : (a : Atom) (ls : List Linked) → met_of_chain v (roll-Chain (record { first = a; rest = ls })) ≡ met_of_atom v a + sum (map (met_of_linked v) ls)
  met_chain a ls = fold-roll-Chain ℕ ℕ ℕ ℕ ℕ (atom_met v) chain_met linked_met part_met query_met (record { first = a; rest = ls })

  pub met_linked : (l : Link) (a : Atom) → met_of_linked v (roll-Linked (record { link = l; atom = a })) ≡ met_of_atom v a
  met_linked l a = fold-roll-Linked ℕ ℕ ℕ ℕ ℕ (atom_met v) chain_met linked_met part_met query_met (record { link = l; atom = a })

  pub met_prefix_atom : (p : List ℕ) → met_of_atom v (Prefix p) ≡ met_prefix v p
  met_prefix_atom p = ap (met_of_atom v) (sym (rolls-Prefix p)) ∙ fold-roll-Atom ℕ ℕ ℕ ℕ ℕ (atom_met v) chain_met linked_met part_met query_met (Atom-F.Prefix p)

  pub met_exact_atom : (w : List ℕ) → met_of_atom v (Exact w) ≡ met_word v w
  met_exact_atom w = ap (met_of_atom v) (sym (rolls-Exact w)) ∙ fold-roll-Atom ℕ ℕ ℕ ℕ ℕ (atom_met v) chain_met linked_met part_met query_met (Atom-F.Exact w)

  pub met_join_atom : (n : List ℕ) (q : Query) → met_of_atom v (roll-Atom (Atom-F.Join n q)) ≡ met_prefix v (named n []) + met_of_query v q
  met_join_atom n q = fold-roll-Atom ℕ ℕ ℕ ℕ ℕ (atom_met v) chain_met linked_met part_met query_met (Atom-F.Join n q)
