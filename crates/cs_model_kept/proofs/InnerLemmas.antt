-- A query in a bracket of a query of the grammar is a query of the grammar.
--
--   Sound a                         where the atom a is a join, its query is of the grammar
--   SoundChain, SoundPart           so are all atoms of a chain, and of a part
--   sound                           and of all parts that pieces within the limits are read as
--   inner_queries_are_of_grammar    the law
use Rattle.std.proofs.Common.{◌≡◌, ℕ, ◌≤◌, List, [], ◌∷◌, ◌++◌, Bool, map, refl, ap, ◌∙◌, sym, subst, arith}
use Rattle.std.specs.List.{All}
use Rattle.std.proofs.lemmas.List.{map-append}
use Rattle.std.proofs.lemmas.List.Elements.{All-nil, All-cons, All-head, All-tail, All-same, All-push, All-contains}
use Rattle.cs_base.specs.declared.content.limits.TheConstants.{MAX_QUERY_BYTES}
use Rattle.cs_base.specs.declared.content.query.Link.{Link}
use Rattle.cs_base.specs.declared.content.query.Query.{Query, roll-Query, out-Query, out-roll-Query}
use Rattle.cs_base.specs.declared.content.query.Part.{Part, out-Part, out-roll-Part}
use Rattle.cs_base.specs.declared.content.query.Chain.{Chain, out-Chain, out-roll-Chain}
use Rattle.cs_base.specs.declared.content.query.Linked.{Linked, roll-Linked, out-Linked, out-roll-Linked}
use Rattle.cs_base.specs.declared.content.query.Atom.{Atom, Prefix, Exact, roll-Atom, out-Atom, out-roll-Atom}
use Rattle.cs_base.specs.declared.content.query.Atom.TheOpen.{Atom-F, Part-F, Chain-F}
use Rattle.cs_model.specs.declared.kinds.Level.{Level}
use Rattle.cs_model.specs.declared.kinds.Tie.{Tie}
use Rattle.cs_model.specs.declared.kinds.Tie.TheVariants.{Begins, Alternative, Linked as LinkedBy}
use Rattle.cs_model.specs.Collection.{named}
use Rattle.cs_model.specs.Grammar.{on_last, chain_of, part_of, with_link, with_chains, attached, join, leave}
use Rattle.cs_model.specs.Refusals.{IsOfGrammar}
use Rattle.cs_model.proofs.Pieces.{Piece, Plain, Whole, Valued, WholeValued, Opens, Closes, Well}
use Rattle.cs_model.proofs.FineTokens.{Few, few_before}
use Rattle.cs_model.proofs.KeptPieces.{cost}
use Rattle.cs_model_kept.specs.InnerQueries.{atoms_of, InnerQueriesAreOfGrammar}
use Rattle.cs_model_kept.proofs.InnerPieces.{levels, cost_before, innermost}
use Rattle.cs_model_kept.proofs.ShorterQueries.{out-prefix, out-exact}
use Rattle.cs_model_kept.proofs.ShutPieces.{read, pieces_of}

-- ---- atoms
abbrev Sound : Atom → Type 0
Sound a = (name : List ℕ) (q : Query) → a ≡ roll-Atom (Atom-F.Join name q) → IsOfGrammar q

abbrev OpenAtom : Type 0
OpenAtom = Atom-F Atom Chain Linked Part Query

opened : (o : OpenAtom) (a : Atom) (name : List ℕ) (q : Query) → out-Atom a ≡ o → a ≡ roll-Atom (Atom-F.Join name q) → o ≡ Atom-F.Join name q
opened o a name q is e = sym is ∙ ap out-Atom e ∙ out-roll-Atom (Atom-F.Join name q)

prefix_sound : (w : List ℕ) → Sound (Prefix w)
prefix_sound w name q e = absurd (let no : Atom-F.Prefix w ≡ Atom-F.Join name q = opened (Atom-F.Prefix w) (Prefix w) name q (out-prefix w) e in cc)

exact_sound : (w : List ℕ) → Sound (Exact w)
exact_sound w name q e = absurd (let no : Atom-F.Exact w ≡ Atom-F.Join name q = opened (Atom-F.Exact w) (Exact w) name q (out-exact w) e in cc)

join_sound : (n : List ℕ) (ps : List Part) → IsOfGrammar (roll-Query (record { parts = ps })) → Sound (join n ps)
join_sound n ps g name q e =
    let own : Query = roll-Query (record { parts = ps }) in
    subst IsOfGrammar (same n name own q (opened (Atom-F.Join n own) (join n ps) name q (out-roll-Atom (Atom-F.Join n own)) e)) g
  where
    same : (n m : List ℕ) (q r : Query) → (let o : OpenAtom = Atom-F.Join n q in o) ≡ Atom-F.Join m r → q ≡ r
    same n m q r e = cc

-- ---- chains and parts
abbrev SoundChain : Chain → Type 0
SoundChain c = All Sound (atoms_of c)

abbrev SoundPart : Part → Type 0
SoundPart p = All SoundChain (out-Part p).chains

all_changed : {X : Type 0} (P : X → Type 0) (f : X → X) → ((x : X) → P x → P (f x)) → (xs : List X) → All P xs → All P (on_last f xs)
all_changed P f g [] h = h
all_changed P f g (x ∷ []) h = All-cons P (f x) [] (g x (All-head P x [] h)) (All-nil P)
all_changed P f g (x ∷ y ∷ ys) h = All-cons P x (on_last f (y ∷ ys)) (All-head P x (y ∷ ys) h) (all_changed P f g (y ∷ ys) (All-tail P x (y ∷ ys) h))

one_sound : (a : Atom) → Sound a → SoundChain (chain_of a)
one_sound a s =
    All-same Sound (atoms_of (chain_of a)) (a ∷ [])
    (ap (λ (c : Chain-F Atom Chain Linked Part Query). c.first ∷ map (λ l. (out-Linked l).atom) c.rest) (out-roll-Chain (record { first = a; rest = [] })))
    (All-cons Sound a [] s (All-nil Sound))

link_sound : (l : Link) (a : Atom) → Sound a → (c : Chain) → SoundChain c → SoundChain (with_link l a c)
link_sound l a s c h =
    let m : Linked = roll-Linked (record { link = l; atom = a }) in
    let rest : List Linked = (out-Chain c).rest in
    All-same Sound (atoms_of (with_link l a c)) (atoms_of c ++ a ∷ [])
    (ap (λ (x : Chain-F Atom Chain Linked Part Query). x.first ∷ map (λ l. (out-Linked l).atom) x.rest) (out-roll-Chain (record { first = (out-Chain c).first; rest = rest ++ m ∷ [] }))
    ∙ ap (λ more. (out-Chain c).first ∷ more) (map-append (λ l. (out-Linked l).atom) rest (m ∷ []))
    ∙ ap (λ x. atoms_of c ++ x.atom ∷ []) (out-roll-Linked (record { link = l; atom = a })))
    (All-push Sound (atoms_of c) a h s)

with_sound : (f : List Chain → List Chain) → ((cs : List Chain) → All SoundChain cs → All SoundChain (f cs)) → (p : Part) → SoundPart p → SoundPart (with_chains f p)
with_sound f g p h =
    All-same SoundChain (out-Part (with_chains f p)).chains (f (out-Part p).chains)
    (ap (λ (x : Part-F Atom Chain Linked Part Query). x.chains) (out-roll-Part (record { excluded = (out-Part p).excluded; chains = f (out-Part p).chains }))) (g (out-Part p).chains h)

part_sound : (e : Bool) (a : Atom) → Sound a → SoundPart (part_of e a)
part_sound e a s =
    All-same SoundChain (out-Part (part_of e a)).chains (chain_of a ∷ [])
    (ap (λ (x : Part-F Atom Chain Linked Part Query). x.chains) (out-roll-Part (record { excluded = e; chains = chain_of a ∷ [] }))) (All-cons SoundChain (chain_of a) [] (one_sound a s) (All-nil SoundChain))

attached_sound : (t : Tie) (a : Atom) (ps : List Part) → Sound a → All SoundPart ps → All SoundPart (attached t a ps)
attached_sound (Begins e) a ps s h = All-push SoundPart ps (part_of e a) h (part_sound e a s)
attached_sound Alternative a ps s h =
    all_changed SoundPart (with_chains (λ cs. cs ++ chain_of a ∷ [])) (with_sound (λ cs. cs ++ chain_of a ∷ []) (λ cs k. All-push SoundChain cs (chain_of a) k (one_sound a s))) ps h
attached_sound (LinkedBy l) a ps s h =
    all_changed SoundPart (with_chains (on_last (with_link l a))) (with_sound (on_last (with_link l a)) (all_changed SoundChain (with_link l a) (link_sound l a s))) ps h

-- ---- pieces
abbrev SoundLevels : List Level → Type 0
SoundLevels [] = Unit {0}
SoundLevels (l ∷ ls) = All SoundPart l.before × SoundLevels ls

leave_sound : (ps : List Part) (os : List Level) → IsOfGrammar (roll-Query (record { parts = ps })) → All SoundPart ps → SoundLevels os → All SoundPart (leave ps os).parts × SoundLevels (leave ps os).open_now
leave_sound ps [] g h k = (h, k)
leave_sound ps (l ∷ ls) g h k = (attached_sound l.tie (join l.name ps) l.before (join_sound l.name ps g) k.0, k.1)

record Within (ps : List Piece) : Type 0 where
  well : Well ps
  few : Few ps
  short : cost ps ≤ MAX_QUERY_BYTES

within_before : (p : Piece) (ps : List Piece) → Within (p ∷ ps) → Within ps
within_before p ps w = record { well = w.well.1; few = few_before p ps w.few; short = omega (arith, w.short, cost_before p ps) }

sound : (ps : List Piece) → Within ps → All SoundPart (read ps) × SoundLevels (levels ps)
sound [] w = (All-nil SoundPart, tt)
sound (Plain t v ∷ ps) w = let r = sound ps (within_before (Plain t v) ps w) in (attached_sound t (Prefix v) (read ps) (prefix_sound v) r.0, r.1)
sound (Whole t v ∷ ps) w = let r = sound ps (within_before (Whole t v) ps w) in (attached_sound t (Exact v) (read ps) (exact_sound v) r.0, r.1)
sound (Valued t n v ∷ ps) w = let r = sound ps (within_before (Valued t n v) ps w) in (attached_sound t (Prefix (named n v)) (read ps) (prefix_sound (named n v)) r.0, r.1)
sound (WholeValued t n v ∷ ps) w = let r = sound ps (within_before (WholeValued t n v) ps w) in (attached_sound t (Exact (named n v)) (read ps) (exact_sound (named n v)) r.0, r.1)
sound (Opens t n ∷ ps) w = let r = sound ps (within_before (Opens t n) ps w) in (All-nil SoundPart, (r.0, r.1))
sound (Closes ∷ ps) w =
    let b = within_before Closes ps w in
    let r = sound ps b in
    leave_sound (read ps) (levels ps) (innermost ps b.well b.few b.short w.well.0) r.0 r.1

-- ---- the law
pub inner_queries_are_of_grammar : InnerQueriesAreOfGrammar
inner_queries_are_of_grammar q inner g h =
    let r = pieces_of q g in
    let parts : (out-Query q).parts ≡ read r.0 = ap (λ x. (out-Query x).parts) (sym r.2) ∙ ap (λ x. x.parts) (out-roll-Query (record { parts = read r.0 })) in
    let all : All SoundPart (out-Query q).parts = All-same SoundPart (out-Query q).parts (read r.0) parts (sound r.0 (record { well = r.1.well; few = r.1.few; short = r.1.short })).0 in
    let chains : SoundPart h.part = All-contains SoundPart (out-Query q).parts h.part all h.among_parts in
    let atoms : SoundChain h.chain = All-contains SoundChain (out-Part h.part).chains h.chain chains h.among_chains in
    All-contains Sound (atoms_of h.chain) (roll-Atom (Atom-F.Join h.name inner)) atoms h.among_atoms h.name inner refl
