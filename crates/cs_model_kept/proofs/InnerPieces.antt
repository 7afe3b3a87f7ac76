-- What stands behind a bracket that is open, as pieces of their own.
--
--   Inside k ps     the pieces of ps behind an open bracket, in which k more are open
--   inside          there are such for each bracket that is open
--   innermost       what is read within the innermost bracket is a query of the grammar
use Rattle.std.proofs.Common.{◌≡◌, ℕ, zero, suc, ◌+◌, ◌≤◌, ◌<◌, List, [], ◌∷◌, ◌++◌, Bool, false, map, length, refl, ap, ◌∙◌, sym, subst, arith, length-append}
use Rattle.std.specs.Prelude.{encode_utf8_all}
use Rattle.cs_base.specs.declared.content.limits.TheConstants.{MAX_QUERY_BYTES}
use Rattle.cs_base.specs.declared.content.query.Part.{Part}
use Rattle.cs_base.specs.declared.content.query.Query.{roll-Query}
use Rattle.cs_base.specs.declared.content.query.Atom.{Atom, Prefix, Exact}
use Rattle.cs_model.specs.declared.kinds.Level.{Level}
use Rattle.cs_model.specs.declared.kinds.Tie.{Tie}
use Rattle.cs_model.specs.declared.kinds.Tie.TheVariants.{Begins, Alternative, Linked as LinkedBy}
use Rattle.cs_model.specs.Collection.{named}
use Rattle.cs_model.specs.Grammar.{Leaf, reading, taken, leave, attached}
use Rattle.cs_model.specs.Refusals.{IsOfGrammar, parts_in, atoms_in}
use Rattle.cs_model.proofs.Pieces.{Piece, Plain, Whole, Valued, WholeValued, Opens, Closes, step_of, fresh, linkable, TieFits, Fits, before, spelled, open_in, Well, told}
use Rattle.cs_model.proofs.PieceText.{printed}
use Rattle.cs_model.proofs.FineTokens.{Few}
use Rattle.cs_model.proofs.KeptPieces.{cost}
use Rattle.cs_model.proofs.SizeLemmas.{encodes-append}
use Rattle.cs_model_kept.proofs.ShutPieces.{Shut, read, of_pieces}

-- the brackets that are open behind pieces
abbrev pub levels : List Piece → List Level
levels ps = (reading (map step_of ps)).open_now

record Inside (k : ℕ) (ps : List Piece) : Type 0 where
  own : List Piece
  around : List Level
  well : Well own
  deep : open_in own ≡ k
  new : fresh ps ≡ fresh own
  ends : linkable ps ≡ linkable own
  parts : read ps ≡ read own
  open_now : levels ps ≡ levels own ++ around
  few_parts : parts_in (map step_of own) ≤ parts_in (map step_of ps)
  few_atoms : atoms_in (map step_of own) ≤ atoms_in (map step_of ps)
  short : cost own ≤ cost ps

-- ---- one piece more
one_cost : (p : Piece) (ps : List Piece) → cost (p ∷ ps) ≡ cost ps + length (encode_utf8_all (before p (fresh ps) ++ spelled p))
one_cost p ps =
    let more = before p (fresh ps) ++ spelled p in
    ap length (encodes-append (told ps) more) ∙ length-append (encode_utf8_all (told ps)) (encode_utf8_all more)

pub cost_before : (p : Piece) (ps : List Piece) → cost ps ≤ cost (p ∷ ps)
cost_before p ps = omega (arith, one_cost p ps)

both_longer : (p : Piece) (ps own : List Piece) → fresh ps ≡ fresh own → cost own ≤ cost ps → cost (p ∷ own) ≤ cost (p ∷ ps)
both_longer p ps own new le = omega (arith, le, one_cost p ps, one_cost p own, ap (λ f. length (encode_utf8_all (before p f ++ spelled p))) new)

tie_fits : (t : Tie) (k : ℕ) (ps : List Piece) (i : Inside k ps) → TieFits t ps → TieFits t i.own
tie_fits (Begins e) k ps i h = tt
tie_fits Alternative k ps i h = sym i.new ∙ h
tie_fits (LinkedBy l) k ps i h = sym i.ends ∙ h

-- an atom leaves the brackets as they are
leaf : (p : Piece) (t : Tie) (a : Atom) (l : Bool) → step_of p ≡ Leaf t a → ((qs : List Piece) → open_in (p ∷ qs) ≡ open_in qs) → ((qs : List Piece) → fresh (p ∷ qs) ≡ false)
    → ((qs : List Piece) → linkable (p ∷ qs) ≡ l) → (k : ℕ) (ps : List Piece) (i : Inside k ps) → Fits p i.own → Inside k (p ∷ ps)
leaf p t a l is opened behind linked k ps i fits =
    let r = reading (map step_of ps) in
    let o = reading (map step_of i.own) in
    record {
      own = p ∷ i.own;
      around = i.around;
      well = (fits, i.well);
      deep = opened i.own ∙ i.deep;
      new = behind ps ∙ sym (behind i.own);
      ends = linked ps ∙ sym (linked i.own);
      parts = ap (λ s. (taken s r).parts) is ∙ ap (attached t a) i.parts ∙ ap (λ s. (taken s o).parts) (sym is);
      open_now = ap (λ s. (taken s r).open_now) is ∙ i.open_now ∙ ap (λ s. (taken s o).open_now ++ i.around) (sym is);
      few_parts = omega (arith, i.few_parts, ap (λ s. parts_in (s ∷ map step_of ps)) is, ap (λ s. parts_in (s ∷ map step_of i.own)) is);
      few_atoms = omega (arith, i.few_atoms, ap (λ s. atoms_in (s ∷ map step_of ps)) is, ap (λ s. atoms_in (s ∷ map step_of i.own)) is);
      short = both_longer p ps i.own i.new i.short;
    }

-- behind a bracket that opens it is as at the start of a text
opens_here : (t : Tie) (n : List ℕ) (ps : List Piece) → Inside 0 (Opens t n ∷ ps)
opens_here t n ps = record {
  own = [];
  around = levels (Opens t n ∷ ps);
  well = tt;
  deep = refl;
  new = refl;
  ends = refl;
  parts = refl;
  open_now = refl;
  few_parts = omega arith;
  few_atoms = omega arith;
  short = omega arith;
}

opens_within : (t : Tie) (n : List ℕ) (k : ℕ) (ps : List Piece) (i : Inside k ps) → Fits (Opens t n) i.own → Inside (suc k) (Opens t n ∷ ps)
opens_within t n k ps i fits = record {
  own = Opens t n ∷ i.own;
  around = i.around;
  well = (fits, i.well);
  deep = omega (arith, i.deep);
  new = refl;
  ends = refl;
  parts = refl;
  open_now = ap (λ (qs : List Part). (record { tie = t; name = n; before = qs }) ∷ levels ps) i.parts ∙ ap (λ (os : List Level). (record { tie = t; name = n; before = read i.own }) ∷ os) i.open_now;
  few_parts = omega (arith, i.few_parts);
  few_atoms = omega (arith, i.few_atoms);
  short = both_longer (Opens t n) ps i.own i.new i.short;
}

leave_parts : (ps : List Part) (os around : List Level) → 1 ≤ length os → (leave ps (os ++ around)).parts ≡ (leave ps os).parts
leave_parts ps [] around h = absurd (omega (arith, h))
leave_parts ps (l ∷ ls) around h = refl

leave_levels : (ps : List Part) (os around : List Level) → 1 ≤ length os → (leave ps (os ++ around)).open_now ≡ (leave ps os).open_now ++ around
leave_levels ps [] around h = absurd (omega (arith, h))
leave_levels ps (l ∷ ls) around h = refl

closes : (k : ℕ) (ps : List Piece) → Inside (suc k) ps → Inside k (Closes ∷ ps)
closes k ps i =
    let some : 1 ≤ length (levels i.own) = omega (arith, (printed i.own i.well).deep, i.deep) in
    record {
      own = Closes ∷ i.own;
      around = i.around;
      well = (omega (arith, i.deep), i.well);
      deep = omega (arith, i.deep);
      new = refl;
      ends = refl;
      parts = ap (λ os. (leave (read ps) os).parts) i.open_now ∙ leave_parts (read ps) (levels i.own) i.around some ∙ ap (λ qs. (leave qs (levels i.own)).parts) i.parts;
      open_now = ap (λ os. (leave (read ps) os).open_now) i.open_now ∙ leave_levels (read ps) (levels i.own) i.around some ∙ ap (λ qs. (leave qs (levels i.own)).open_now ++ i.around) i.parts;
      few_parts = i.few_parts;
      few_atoms = i.few_atoms;
      short = both_longer Closes ps i.own i.new i.short;
    }

-- ---- all pieces
inside : (k : ℕ) (ps : List Piece) → Well ps → k < open_in ps → Inside k ps
inside k [] w h = absurd (omega (arith, h))
inside k (Plain t v ∷ ps) w h =
    let i = inside k ps w.1 h in
    leaf (Plain t v) t (Prefix v) _ refl (λ qs. refl) (λ qs. refl) (λ qs. refl) k ps i (tie_fits t k ps i w.0.0, w.0.1)
inside k (Whole t v ∷ ps) w h =
    let i = inside k ps w.1 h in
    leaf (Whole t v) t (Exact v) _ refl (λ qs. refl) (λ qs. refl) (λ qs. refl) k ps i (tie_fits t k ps i w.0.0, w.0.1)
inside k (Valued t n v ∷ ps) w h =
    let i = inside k ps w.1 h in
    leaf (Valued t n v) t (Prefix (named n v)) _ refl (λ qs. refl) (λ qs. refl) (λ qs. refl) k ps i (tie_fits t k ps i w.0.0, w.0.1, w.0.2)
inside k (WholeValued t n v ∷ ps) w h =
    let i = inside k ps w.1 h in
    leaf (WholeValued t n v) t (Exact (named n v)) _ refl (λ qs. refl) (λ qs. refl) (λ qs. refl) k ps i (tie_fits t k ps i w.0.0, w.0.1, w.0.2, w.0.3)
inside zero (Opens t n ∷ ps) w h = opens_here t n ps
inside (suc k) (Opens t n ∷ ps) w h =
    let i = inside k ps w.1 (omega (arith, h)) in
    opens_within t n k ps i (tie_fits t k ps i w.0.0, w.0.1, omega (arith, i.deep, h, w.0.2))
inside k (Closes ∷ ps) w h = closes k ps (inside (suc k) ps w.1 (omega (arith, h)))

pub innermost : (ps : List Piece) → Well ps → Few ps → cost ps ≤ MAX_QUERY_BYTES → 1 ≤ open_in ps → IsOfGrammar (roll-Query (record { parts = read ps }))
innermost ps w few le some =
    let i = inside 0 ps w (omega (arith, some)) in
    let own : Shut i.own = record {
      well = i.well;
      shut = i.deep;
      few = record { parts = omega (arith, few.parts, i.few_parts); atoms = omega (arith, few.atoms, i.few_atoms) };
      short = omega (arith, le, i.short);
    } in
    subst (λ (qs : List Part). IsOfGrammar (roll-Query (record { parts = qs }))) (sym i.parts) (of_pieces i.own own)
