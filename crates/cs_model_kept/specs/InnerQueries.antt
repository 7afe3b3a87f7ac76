-- The queries that stand within the brackets of a query.
--
-- Source: none of its own; what a bracket means is said in Grammar.
--
--   atoms_of c                   the atoms of the chain c, from the left
--   HasInner q inner             a join of the query q has the query inner in its bracket
--   InnerQueriesAreOfGrammar     the law that a query in a bracket of a query of the grammar is one itself
use Rattle.std.specs.Prelude.{ℕ, List, ◌∷◌, map}
use Rattle.std.specs.List.{Contains}
use Rattle.cs_base.specs.declared.content.query.Query.{Query, out-Query}
use Rattle.cs_base.specs.declared.content.query.Part.{Part, out-Part}
use Rattle.cs_base.specs.declared.content.query.Chain.{Chain, out-Chain}
use Rattle.cs_base.specs.declared.content.query.Linked.{out-Linked}
use Rattle.cs_base.specs.declared.content.query.Atom.{Atom, roll-Atom}
use Rattle.cs_base.specs.declared.content.query.Atom.TheOpen.{Atom-F}
use Rattle.cs_model.specs.Refusals.{IsOfGrammar}

-- the first atom of a chain and then those behind its links; where nothing is linked the first one alone
abbrev pub atoms_of : Chain → List Atom
atoms_of c = (out-Chain c).first ∷ map (λ l. (out-Linked l).atom) (out-Chain c).rest

-- some part of q, excluded or not, has a chain with an atom that is a join of this query; joins within that query aren't asked, and
-- the query without parts has none
pub record HasInner (q inner : Query) : Type 0 where
  pub part : Part
  pub chain : Chain
  pub name : List ℕ
  pub among_parts : Contains (out-Query q).parts part
  pub among_chains : Contains (out-Part part).chains chain
  pub among_atoms : Contains (atoms_of chain) (roll-Atom (Atom-F.Join name inner))

-- the query of what stands in a bracket, perhaps nothing, is one that an accepted text has; by the law again, so are those in its own
-- brackets
abbrev pub InnerQueriesAreOfGrammar : Type 0
InnerQueriesAreOfGrammar = (q inner : Query) → IsOfGrammar q → HasInner q inner → IsOfGrammar inner
