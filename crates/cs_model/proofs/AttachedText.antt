-- The canonical text of parts with one atom more.
--
--   HasChain p            the part has an alternative
--   Takes t ps            an atom with this tie may come behind these parts
--   attached_text         the text of the parts with the atom
--   attached_ready        they have a last part, with an alternative
use Rattle.std.proofs.Common.{◌≡◌, ℕ, List, [], ◌∷◌, ◌++◌, map, refl, ap, ◌∙◌, sym, subst, append_assoc, Bool, true, false}
use Rattle.std.specs.Prelude.{if◌then◌else◌, codes}
use Rattle.std.specs.List.{concat, join_with_byte}
use Rattle.std.proofs.lemmas.List.{append-nil, map-append}
use Rattle.cs_base.specs.declared.content.query.Link.{Link}
use Rattle.cs_base.specs.declared.content.query.Query.{roll-Query}
use Rattle.cs_base.specs.declared.content.query.Part.{Part, roll-Part, out-Part, out-roll-Part}
use Rattle.cs_base.specs.declared.content.query.Chain.{Chain, roll-Chain, out-Chain}
use Rattle.cs_base.specs.declared.content.query.Linked.{Linked, roll-Linked}
use Rattle.cs_base.specs.declared.content.query.Atom.{Atom}
use Rattle.cs_base.specs.declared.content.query.Atom.TheFolds.{fold-roll-Part, fold-roll-Chain, fold-roll-Linked, fold-roll-Query}
use Rattle.cs_model.specs.declared.kinds.Tie.{Tie}
use Rattle.cs_model.specs.declared.kinds.Tie.TheVariants.{Begins, Alternative, Linked as LinkedBy}
use Rattle.cs_model.specs.Grammar.{on_last, chain_of, part_of, with_link, with_chains, attached, join}
use Rattle.cs_model.specs.Canonical.{Bytes, atom_text, chain_text, linked_text, part_text, query_text, link_text, canonical, canonical_parts, canonical_part, canonical_chain, canonical_linked, canonical_atom}
use Rattle.cs_model.proofs.CanonicalLemmas.{part_shape, chain_shape, join_shape}
use Rattle.cs_model.proofs.LastEntries.{is_none, Last, last_push, last_changed, last_some, none_map, sign_before, join_push, join_last, concat_push}
use Rattle.cs_model.proofs.Pieces.{minus, space, between}

-- ---- rolled values
abbrev dash : Bool → Bytes
dash e = if e then codes "-" else []

dash_minus : (e : Bool) → dash e ≡ minus e
dash_minus true = refl
dash_minus false = refl

pub rolled_part : (e : Bool) (cs : List Chain) → canonical_part (roll-Part (record { excluded = e; chains = cs })) ≡ dash e ++ join_with_byte 124 (map canonical_chain cs)
rolled_part e cs = fold-roll-Part Bytes Bytes Bytes Bytes Bytes atom_text chain_text linked_text part_text query_text (record { excluded = e; chains = cs })

pub rolled_chain : (a : Atom) (ls : List Linked) → canonical_chain (roll-Chain (record { first = a; rest = ls })) ≡ canonical_atom a ++ concat (map canonical_linked ls)
rolled_chain a ls = fold-roll-Chain Bytes Bytes Bytes Bytes Bytes atom_text chain_text linked_text part_text query_text (record { first = a; rest = ls })

pub rolled_linked : (l : Link) (a : Atom) → canonical_linked (roll-Linked (record { link = l; atom = a })) ≡ link_text l ++ canonical_atom a
rolled_linked l a = fold-roll-Linked Bytes Bytes Bytes Bytes Bytes atom_text chain_text linked_text part_text query_text (record { link = l; atom = a })

pub rolled_query : (ps : List Part) → canonical (roll-Query (record { parts = ps })) ≡ canonical_parts ps
rolled_query ps = fold-roll-Query Bytes Bytes Bytes Bytes Bytes atom_text chain_text linked_text part_text query_text (record { parts = ps })

pub join_text : (n : List ℕ) (ps : List Part) → canonical_atom (join n ps) ≡ n ++ codes "[" ++ canonical_parts ps ++ codes "]"
join_text n ps = join_shape n (roll-Query (record { parts = ps })) ∙ ap (λ t. n ++ codes "[" ++ t ++ codes "]") (rolled_query ps)

-- ---- one atom more
pub one_chain : (a : Atom) → canonical_chain (chain_of a) ≡ canonical_atom a
one_chain a = rolled_chain a [] ∙ append-nil (canonical_atom a)

one_part : (e : Bool) (a : Atom) → canonical_part (part_of e a) ≡ minus e ++ canonical_atom a
one_part e a = rolled_part e (chain_of a ∷ []) ∙ ap (λ t. dash e ++ t) (one_chain a) ∙ ap (λ t. t ++ canonical_atom a) (dash_minus e)

linked_chain : (l : Link) (a : Atom) (c : Chain) → canonical_chain (with_link l a c) ≡ canonical_chain c ++ (link_text l ++ canonical_atom a)
linked_chain l a c =
    let first : Bytes = canonical_atom (out-Chain c).first in
    let rest : List Linked = (out-Chain c).rest in
    let one : Linked = roll-Linked (record { link = l; atom = a }) in
    rolled_chain (out-Chain c).first (rest ++ one ∷ [])
    ∙ ap (λ t. first ++ t) (concat_push canonical_linked rest one)
    ∙ ap (λ t. first ++ (concat (map canonical_linked rest) ++ t)) (rolled_linked l a)
    ∙ sym (append_assoc first (concat (map canonical_linked rest)) (link_text l ++ canonical_atom a))
    ∙ ap (λ t. t ++ (link_text l ++ canonical_atom a)) (sym (chain_shape c))

abbrev pub HasChain : Part → Type 0
HasChain p = Last (λ c. Unit {0}) (out-Part p).chains

-- a part whose alternatives have a longer text
longer_part : (p : Part) (f : List Chain → List Chain) (s : Bytes)
    → join_with_byte 124 (map canonical_chain (f (out-Part p).chains)) ≡ join_with_byte 124 (map canonical_chain (out-Part p).chains) ++ s
    → canonical_part (with_chains f p) ≡ canonical_part p ++ s
longer_part p f s e =
    let front : Bytes = dash (out-Part p).excluded in
    rolled_part (out-Part p).excluded (f (out-Part p).chains)
    ∙ ap (λ t. front ++ t) e
    ∙ sym (append_assoc front (join_with_byte 124 (map canonical_chain (out-Part p).chains)) s)
    ∙ ap (λ t. t ++ s) (sym (part_shape p))

alternative_part : (a : Atom) (p : Part) → HasChain p → canonical_part (with_chains (λ cs. cs ++ chain_of a ∷ []) p) ≡ canonical_part p ++ (124 ∷ canonical_atom a)
alternative_part a p h =
    let cs : List Chain = (out-Part p).chains in
    let some : is_none (map canonical_chain cs) ≡ false = none_map canonical_chain cs ∙ last_some (λ c. Unit {0}) cs h in
    longer_part p (λ cs. cs ++ chain_of a ∷ []) (124 ∷ canonical_atom a)
    (ap (join_with_byte 124) (map-append canonical_chain cs (chain_of a ∷ []))
    ∙ join_push 124 (map canonical_chain cs) (canonical_chain (chain_of a))
    ∙ ap (λ b. join_with_byte 124 (map canonical_chain cs) ++ (sign_before 124 b ++ canonical_chain (chain_of a))) some
    ∙ ap (λ t. join_with_byte 124 (map canonical_chain cs) ++ (124 ∷ t)) (one_chain a))

linked_part : (l : Link) (a : Atom) (p : Part) → HasChain p → canonical_part (with_chains (on_last (with_link l a)) p) ≡ canonical_part p ++ (link_text l ++ canonical_atom a)
linked_part l a p h =
    longer_part p (on_last (with_link l a)) (link_text l ++ canonical_atom a)
    (join_last 124 canonical_chain (with_link l a) (link_text l ++ canonical_atom a) (λ c. Unit {0}) (λ c u. linked_chain l a c) (out-Part p).chains h)

-- an atom that begins a part comes behind all parts, any other behind a part with an alternative
abbrev pub Takes : Tie → List Part → Type 0
Takes (Begins e) ps = Unit {0}
Takes Alternative ps = Last HasChain ps
Takes (LinkedBy l) ps = Last HasChain ps

sign_space : (b : Bool) → sign_before 32 b ≡ space b
sign_space true = refl
sign_space false = refl

pub attached_text : (t : Tie) (a : Atom) (ps : List Part) → Takes t ps → canonical_parts (attached t a ps) ≡ canonical_parts ps ++ (between t (is_none ps) ++ canonical_atom a)
attached_text (Begins e) a ps h =
    ap (join_with_byte 32) (map-append canonical_part ps (part_of e a ∷ []))
    ∙ join_push 32 (map canonical_part ps) (canonical_part (part_of e a))
    ∙ ap (λ s. canonical_parts ps ++ (s ++ canonical_part (part_of e a))) (ap (sign_before 32) (none_map canonical_part ps) ∙ sign_space (is_none ps))
    ∙ ap (λ s. canonical_parts ps ++ (space (is_none ps) ++ s)) (one_part e a)
    ∙ ap (λ s. canonical_parts ps ++ s) (sym (append_assoc (space (is_none ps)) (minus e) (canonical_atom a)))
attached_text Alternative a ps h =
    join_last 32 canonical_part (with_chains (λ cs. cs ++ chain_of a ∷ [])) (124 ∷ canonical_atom a) HasChain (alternative_part a) ps h
attached_text (LinkedBy l) a ps h =
    join_last 32 canonical_part (with_chains (on_last (with_link l a))) (link_text l ++ canonical_atom a) HasChain (linked_part l a) ps h

has_chain : (e : Bool) (cs : List Chain) → Last (λ c. Unit {0}) cs → HasChain (roll-Part (record { excluded = e; chains = cs }))
has_chain e cs h = subst (λ z. Last (λ c. Unit {0}) z.chains) (sym (out-roll-Part (record { excluded = e; chains = cs }))) h

pub attached_ready : (t : Tie) (a : Atom) (ps : List Part) → Takes t ps → Last HasChain (attached t a ps)
attached_ready (Begins e) a ps h = last_push HasChain ps (part_of e a) (has_chain e (chain_of a ∷ []) tt)
attached_ready Alternative a ps h = last_changed HasChain HasChain (with_chains (λ cs. cs ++ chain_of a ∷ []))
    (λ p k. has_chain (out-Part p).excluded ((out-Part p).chains ++ chain_of a ∷ []) (last_push (λ c. Unit {0}) (out-Part p).chains (chain_of a) tt)) ps h
attached_ready (LinkedBy l) a ps h = last_changed HasChain HasChain (with_chains (on_last (with_link l a)))
    (λ p k. has_chain (out-Part p).excluded (on_last (with_link l a) (out-Part p).chains) (last_changed (λ c. Unit {0}) (λ c. Unit {0}) (with_link l a) (λ c u. tt) (out-Part p).chains k)) ps h
