-- The queries in the brackets of worked texts.
--
--   inner-first, inner-linked     a join that begins a part, and one behind a link of an excluded part
--   inner-none                    the empty query has none
use Rattle.std.proofs.Common.{◌≡◌, List, [], ◌∷◌, ◌++◌, map, ap, ◌∙◌, sym, subst, arith, codes, true, false}
use Rattle.std.specs.Char.{encode_utf8}
use Rattle.std.specs.List.{Contains}
use Rattle.std.proofs.lemmas.List.Elements.{Contains-push}
use Rattle.cs_base.specs.declared.content.query.Link.TheVariants.{Phrase}
use Rattle.cs_base.specs.declared.content.query.Query.{Query, out-roll-Query}
use Rattle.cs_base.specs.declared.content.query.Part.{out-Part, out-roll-Part}
use Rattle.cs_base.specs.declared.content.query.Chain.{out-Chain, out-roll-Chain}
use Rattle.cs_base.specs.declared.content.query.Linked.{roll-Linked, out-Linked, out-roll-Linked}
use Rattle.cs_base.specs.declared.content.query.Atom.{Atom, Prefix}
use Rattle.cs_base.specs.declared.content.query.Atom.TheOpen.{Chain-F}
use Rattle.cs_model.specs.Words.{is_word_char}
use Rattle.cs_model.specs.Grammar.{on_last, chain_of, part_of, with_chains, with_link, join, query_of}
use Rattle.cs_model_kept.specs.InnerQueries.{atoms_of, HasInner}

-- an atom, and the join of the query `ir`
abbrev typed : Atom
typed = Prefix (codes "typ")

abbrev authors : Atom
authors = join (codes "author") (part_of false (Prefix (codes "ir")) ∷ [])

in_same : {X : Type 0} (xs ys : List X) (x : X) → xs ≡ ys → Contains ys x → Contains xs x
in_same xs ys x e h = subst (λ zs. Contains zs x) (sym e) h

-- the second of two parts; the bracket is left open
inner-first : HasInner (query_of (codes "typ author[ir")) (query_of (codes "ir"))
unfolding is_word_char encode_utf8
inner-first =
    let part = part_of false authors in
    let chain = chain_of authors in
    record {
      part = part;
      chain = chain;
      name = codes "author";
      among_parts = in_same _ (part_of false typed ∷ part ∷ []) part (ap (λ q. q.parts) (out-roll-Query (record { parts = part_of false typed ∷ part ∷ [] }))) (Contains-push (part_of false typed ∷ []) part);
      among_chains = in_same _ (chain ∷ []) chain (ap (λ p. p.chains) (out-roll-Part (record { excluded = false; chains = chain ∷ [] }))) (Contains-push [] chain);
      among_atoms = in_same (atoms_of chain) (authors ∷ []) authors (ap (λ (c : Chain-F _ _ _ _ _). c.first ∷ map (λ l. (out-Linked l).atom) c.rest) (out-roll-Chain (record { first = authors; rest = [] })))
          (Contains-push [] authors);
    }

-- an excluded part is a part, and a linked atom is one of its chain
inner-linked : HasInner (query_of (codes "-typ.author[ir]")) (query_of (codes "ir"))
unfolding is_word_char encode_utf8
inner-linked =
    let one = part_of true typed in
    let part = with_chains (on_last (with_link Phrase authors)) one in
    let chain = with_link Phrase authors (chain_of typed) in
    let linked = roll-Linked (record { link = Phrase; atom = authors }) in
    record {
      part = part;
      chain = chain;
      name = codes "author";
      among_parts = in_same _ (part ∷ []) part (ap (λ q. q.parts) (out-roll-Query (record { parts = part ∷ [] }))) (Contains-push [] part);
      among_chains = in_same _ (chain ∷ []) chain
          (ap (λ p. p.chains) (out-roll-Part (record { excluded = (out-Part one).excluded; chains = on_last (with_link Phrase authors) (out-Part one).chains }))
          ∙ ap (λ p. on_last (with_link Phrase authors) p.chains) (out-roll-Part (record { excluded = true; chains = chain_of typed ∷ [] }))) (Contains-push [] chain);
      among_atoms = in_same (atoms_of chain) (typed ∷ authors ∷ []) authors
          (ap (λ (c : Chain-F _ _ _ _ _). c.first ∷ map (λ l. (out-Linked l).atom) c.rest) (out-roll-Chain (record { first = (out-Chain (chain_of typed)).first; rest = (out-Chain (chain_of typed)).rest ++ linked ∷ [] }))
          ∙ ap (λ (c : Chain-F _ _ _ _ _). c.first ∷ map (λ l. (out-Linked l).atom) (c.rest ++ linked ∷ [])) (out-roll-Chain (record { first = typed; rest = [] }))
          ∙ ap (λ l. typed ∷ l.atom ∷ []) (out-roll-Linked (record { link = Phrase; atom = authors })))
          (Contains-push (typed ∷ []) authors);
    }

inner-none : (inner : Query) → HasInner (query_of []) inner → ⊥
inner-none inner h = let none = subst (λ ps. Contains ps h.part) (ap (λ q. q.parts) (out-roll-Query (record { parts = [] }))) h.among_parts in omega (arith, none.1)
