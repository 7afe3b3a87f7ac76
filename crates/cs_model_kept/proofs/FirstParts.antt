-- A query of the grammar stays one where its last part is dropped.
--
--   SplitAt ps        pieces, and those of them before the last part
--   Split ps          pieces that are read as no part, or such
--   Bracket ps        the innermost open bracket of pieces, and the pieces before it
--   Stacked ps        pieces with their split, and those before each open bracket with theirs
--   stacked           all that are well formed have such
--   first_parts_stay  the law
use Rattle.std.proofs.Common.{◌≡◌, ℕ, ◌-◌, ◌≤◌, List, [], ◌∷◌, ◌++◌, map, take, length, refl, sym, ◌∙◌, ap, subst, arith, append_assoc, length-append}
use Rattle.std.specs.Prelude.{encode_utf8_all}
use Rattle.cs_base.specs.declared.content.query.Part.{Part}
use Rattle.cs_base.specs.declared.content.query.Query.{Query, roll-Query, out-Query, out-roll-Query}
use Rattle.cs_base.specs.declared.content.query.Atom.{Atom, Prefix, Exact}
use Rattle.cs_base.proofs.ListsLemmas.{take_init}
use Rattle.cs_model.specs.declared.kinds.Level.{Level}
use Rattle.cs_model.specs.declared.kinds.Tie.{Tie}
use Rattle.cs_model.specs.declared.kinds.Tie.TheVariants.{Begins, Alternative, Linked as LinkedBy}
use Rattle.cs_model.specs.Collection.{named}
use Rattle.cs_model.specs.Grammar.{reading, leave, join, attached, on_last, part_of, chain_of, with_chains, with_link}
use Rattle.cs_model.specs.Refusals.{IsOfGrammar}
use Rattle.cs_model.proofs.LastEntries.{Last}
use Rattle.cs_model.proofs.AttachedText.{HasChain, Takes}
use Rattle.cs_model.proofs.Pieces.{Piece, Plain, Whole, Valued, WholeValued, Opens, Closes, step_of, fresh, before, spelled, open_in, Well, told}
use Rattle.cs_model.proofs.PieceText.{LevelsTake, printed, takes}
use Rattle.cs_model.proofs.FineTokens.{Few, few_before}
use Rattle.cs_model.proofs.KeptPieces.{cost}
use Rattle.cs_model.proofs.KeyLemmas.{on_last-append}
use Rattle.cs_model.proofs.SizeLemmas.{encodes-append}
use Rattle.cs_model_kept.proofs.ShutPieces.{Shut, read, pieces_of, of_pieces}

-- the brackets that are open behind pieces
abbrev levels : List Piece → List Level
levels ps = (reading (map step_of ps)).open_now

record SplitAt (ps : List Piece) : Type 0 where
  news : List Piece
  old : List Piece
  part : Part
  whole : ps ≡ news ++ old
  parts : read ps ≡ read old ++ part ∷ []
  same : levels ps ≡ levels old

data Split : List Piece → Type 0 where
  without : (ps : List Piece) → read ps ≡ [] → Split ps
  behind : (ps : List Piece) → SplitAt ps → Split ps

record Bracket (ps : List Piece) : Type 0 where
  tie : Tie
  name : List ℕ
  news : List Piece
  old : List Piece
  whole : ps ≡ news ++ old
  open_now : levels ps ≡ record { tie = tie; name = name; before = read old } ∷ levels old

data Stacked : List Piece → Type 0 where
  bottom : (ps : List Piece) → levels ps ≡ [] → Split ps → Stacked ps
  within : (ps : List Piece) (b : Bracket ps) → Split ps → Stacked b.old → Stacked ps

split_of : (ps : List Piece) → Stacked ps → Split ps
split_of _ (bottom ps e s) = s
split_of _ (within ps b s inner) = s

-- ---- an atom behind others
-- the last part goes on
goes_on : (f : Part → Part) (qs news base : List Piece) → qs ≡ news ++ base → read qs ≡ on_last f (read base) → levels qs ≡ levels base → Last HasChain (read base) → Split base → SplitAt qs
goes_on f qs news _ is parts open_now some (without base none) = absurd (subst (Last HasChain) none some)
goes_on f qs news _ is parts open_now some (behind base s) = record {
  news = news ++ s.news;
  old = s.old;
  part = f s.part;
  whole = is ∙ ap (λ l. news ++ l) s.whole ∙ sym (append_assoc news s.news s.old);
  parts = parts ∙ ap (on_last f) s.parts ∙ on_last-append f (read s.old) s.part;
  same = open_now ∙ s.same;
}

put : (t : Tie) (a : Atom) (qs news base : List Piece) → qs ≡ news ++ base → read qs ≡ attached t a (read base) → levels qs ≡ levels base → Takes t (read base) → Split base → SplitAt qs
put (Begins e) a qs news base is parts open_now fits s = record { news = news; old = base; part = part_of e a; whole = is; parts = parts; same = open_now }
put Alternative a qs news base is parts open_now fits s = goes_on (with_chains (λ cs. cs ++ chain_of a ∷ [])) qs news base is parts open_now fits s
put (LinkedBy l) a qs news base is parts open_now fits s = goes_on (with_chains (on_last (with_link l a))) qs news base is parts open_now fits s

-- an atom leaves the brackets as they are
leaf : (p : Piece) (t : Tie) (a : Atom) (ps : List Piece) → read (p ∷ ps) ≡ attached t a (read ps) → levels (p ∷ ps) ≡ levels ps → Takes t (read ps) → Stacked ps → Stacked (p ∷ ps)
leaf p t a _ parts open_now fits (bottom ps e s) = bottom (p ∷ ps) (open_now ∙ e) (behind (p ∷ ps) (put t a (p ∷ ps) (p ∷ []) ps refl parts open_now fits s))
leaf p t a _ parts open_now fits (within ps b s inner) =
    within (p ∷ ps) (record { tie = b.tie; name = b.name; news = p ∷ b.news; old = b.old; whole = ap (λ l. p ∷ l) b.whole; open_now = open_now ∙ b.open_now })
    (behind (p ∷ ps) (put t a (p ∷ ps) (p ∷ []) ps refl parts open_now fits s)) inner

-- ---- brackets
-- what is read behind a bracket that closes
closed_parts : (ps : List Piece) (b : Bracket ps) → read (Closes ∷ ps) ≡ attached b.tie (join b.name (read ps)) (read b.old)
closed_parts ps b = ap (λ os. (leave (read ps) os).parts) b.open_now

closed_levels : (ps : List Piece) (b : Bracket ps) → levels (Closes ∷ ps) ≡ levels b.old
closed_levels ps b = ap (λ os. (leave (read ps) os).open_now) b.open_now

outer : (qs news base : List Piece) → qs ≡ news ++ base → levels qs ≡ levels base → Split qs → Stacked base → Stacked qs
outer qs news _ is open_now s (bottom base e old) = bottom qs (open_now ∙ e) s
outer qs news _ is open_now s (within base b old inner) =
    within qs (record { tie = b.tie; name = b.name; news = news ++ b.news; old = b.old; whole = is ∙ ap (λ l. news ++ l) b.whole ∙ sym (append_assoc news b.news b.old); open_now = open_now ∙ b.open_now }) s inner

closes : (ps : List Piece) → Well ps → 1 ≤ open_in ps → Stacked ps → Stacked (Closes ∷ ps)
closes _ w deep (bottom ps e s) = absurd (omega (arith, deep, ap length (sym e), (printed ps w).deep))
closes _ w deep (within ps b s inner) =
    let fits : Takes b.tie (read b.old) = (subst LevelsTake b.open_now (printed ps w).levels).0 in
    let is : Closes ∷ ps ≡ (Closes ∷ b.news) ++ b.old = ap (λ l. Closes ∷ l) b.whole in
    outer (Closes ∷ ps) (Closes ∷ b.news) b.old is (closed_levels ps b)
    (behind (Closes ∷ ps) (put b.tie (join b.name (read ps)) (Closes ∷ ps) (Closes ∷ b.news) b.old is (closed_parts ps b) (closed_levels ps b) fits (split_of b.old inner))) inner

stacked : (ps : List Piece) → Well ps → Stacked ps
stacked [] w = bottom [] refl (without [] refl)
stacked (Plain t v ∷ ps) w = leaf (Plain t v) t (Prefix v) ps refl refl (takes t ps (reading (map step_of ps)) (printed ps w.1) w.0.0) (stacked ps w.1)
stacked (Whole t v ∷ ps) w = leaf (Whole t v) t (Exact v) ps refl refl (takes t ps (reading (map step_of ps)) (printed ps w.1) w.0.0) (stacked ps w.1)
stacked (Valued t n v ∷ ps) w = leaf (Valued t n v) t (Prefix (named n v)) ps refl refl (takes t ps (reading (map step_of ps)) (printed ps w.1) w.0.0) (stacked ps w.1)
stacked (WholeValued t n v ∷ ps) w = leaf (WholeValued t n v) t (Exact (named n v)) ps refl refl (takes t ps (reading (map step_of ps)) (printed ps w.1) w.0.0) (stacked ps w.1)
stacked (Opens t n ∷ ps) w = within (Opens t n ∷ ps) (record { tie = t; name = n; news = Opens t n ∷ []; old = ps; whole = refl; open_now = refl }) (without (Opens t n ∷ ps) refl) (stacked ps w.1)
stacked (Closes ∷ ps) w = closes ps w.1 w.0 (stacked ps w.1)

-- ---- the pieces before
well_rest : (news old : List Piece) → Well (news ++ old) → Well old
well_rest [] old w = w
well_rest (p ∷ news) old w = well_rest news old w.1

few_rest : (news old : List Piece) → Few (news ++ old) → Few old
few_rest [] old f = f
few_rest (p ∷ news) old f = few_rest news old (few_before p (news ++ old) f)

cost_rest : (news old : List Piece) → cost old ≤ cost (news ++ old)
cost_rest [] old = omega arith
cost_rest (p ∷ news) old =
    let rest = cost_rest news old in
    let more = before p (fresh (news ++ old)) ++ spelled p in
    omega (arith, rest, ap length (encodes-append (told (news ++ old)) more), length-append (encode_utf8_all (told (news ++ old))) (encode_utf8_all more))

abbrev query_by : List Part → Query
query_by ps = roll-Query (record { parts = ps })

abbrev first_parts : Query → Query
first_parts q = query_by (take (length (out-Query q).parts - 1) (out-Query q).parts)

old_shut : (ps : List Piece) → Shut ps → (s : SplitAt ps) → Shut s.old
old_shut ps h s =
    let well : Well s.old = well_rest s.news s.old (subst Well s.whole h.well) in
    record {
      well = well;
      shut = omega (arith, (printed s.old well).deep, ap length s.same, (printed ps h.well).deep, h.shut);
      few = few_rest s.news s.old (subst Few s.whole h.few);
      short = omega (arith, h.short, cost_rest s.news s.old, ap cost s.whole);
    }

split_stays : (ps : List Piece) → Shut ps → Split ps → IsOfGrammar (query_by (take (length (read ps) - 1) (read ps)))
split_stays _ h (without ps none) = subst (λ (l : List Part). IsOfGrammar (query_by l)) (none ∙ ap (λ (l : List Part). take (length l - 1) l) (sym none)) (of_pieces ps h)
split_stays _ h (behind ps s) =
    subst (λ (l : List Part). IsOfGrammar (query_by l)) (sym (ap (λ (l : List Part). take (length l - 1) l) s.parts ∙ take_init (read s.old) s.part)) (of_pieces s.old (old_shut ps h s))

pub first_parts_stay : (q : Query) → IsOfGrammar q → IsOfGrammar (roll-Query (record { parts = take (length (out-Query q).parts - 1) (out-Query q).parts }))
first_parts_stay q g =
    let r = pieces_of q g in
    subst (λ x. IsOfGrammar (first_parts x)) r.2
    (subst (λ (l : List Part). IsOfGrammar (query_by (take (length l - 1) l))) (ap (λ x. x.parts) (sym (out-roll-Query (record { parts = read r.0 })))) (split_stays r.0 r.1 (split_of r.0 (stacked r.0 r.1.well))))
