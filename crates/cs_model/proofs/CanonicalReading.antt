-- The canonical text of a query of the grammar is read as that query.
--
--   Closed ps           pieces, and all brackets closed behind them
--   Canon bs            what is shown of an accepted text bs and of the canonical text of its query
--   read_again, different, short, no_longer, keep_counts     the laws
use Rattle.std.proofs.Common.{◌≡◌, ℕ, zero, suc, ◌+◌, ◌≤◌, List, [], ◌∷◌, ◌++◌, map, length, refl, ap, ◌∙◌, sym, subst, Bool, true, false, arith, length-append}
use Rattle.std.specs.Prelude.{encode_utf8_all}
use Rattle.std.specs.Str.{chars, IsUtf8, all_scalars}
use Rattle.std.proofs.lemmas.Bool.{and_from, and_parts}
use Rattle.std.proofs.lemmas.List.{take_all}
use Rattle.std.proofs.lemmas.Str.{chars-encodes, encodes-chars, scalars-chars}
use Rattle.cs_base.specs.declared.content.query.Link.TheVariants.{Phrase}
use Rattle.cs_base.specs.declared.content.query.Part.{Part}
use Rattle.cs_base.specs.declared.content.query.Query.{roll-Query}
use Rattle.cs_model.specs.declared.kinds.Level.{Level}
use Rattle.cs_model.specs.declared.kinds.Tie.{Tie}
use Rattle.cs_model.specs.declared.kinds.Tie.TheVariants.{Begins, Linked as LinkedBy}
use Rattle.cs_model.specs.Tokens.{tokens, size}
use Rattle.cs_model.specs.Grammar.{Reading, reading, steps, leave, all_closed, query_of}
use Rattle.cs_model.specs.Refusals.{IsAccepted, verdict, depth, parts_in, atoms_in}
use Rattle.cs_model.specs.Canonical.{canonical, canonical_parts}
use Rattle.cs_model.specs.CanonicalLaws.{AreReadAgain, AreDifferent, AreShort, AreNoLonger, KeepCounts}
use Rattle.cs_model.proofs.Pieces.{Piece, Plain, Whole, Valued, WholeValued, Opens, Closes, step_of, IsWord, IsValue, fresh, open_in, Well, between, told, toks}
use Rattle.cs_model.proofs.PieceTokens.{tokens_told, steps_toks}
use Rattle.cs_model.proofs.PieceText.{sign_behind, close_alone, levels_text, Printed, printed}
use Rattle.cs_model.proofs.AttachedText.{rolled_query}
use Rattle.cs_model.proofs.PassedTokens.{Passes, passes, kept_tokens}
use Rattle.cs_model.proofs.KeptPieces.{cost, pieced, deep_same}
use Rattle.cs_model.proofs.MaximalTokens.{size_after}
use Rattle.cs_model.proofs.FineTokens.{Fine, Few, fine_toks, fronts}

-- ---- brackets closed at the end
pub record Closed (ps all : List Piece) : Type 0 where
  pub well : Well all
  pub shut : open_in all ≡ 0
  pub bytes : cost all ≡ cost ps + open_in ps
  pub parts : parts_in (map step_of all) ≡ parts_in (map step_of ps)
  pub atoms : atoms_in (map step_of all) ≡ atoms_in (map step_of ps)
  pub read : reading (map step_of all) ≡ record { parts = all_closed (reading (map step_of ps)).parts (reading (map step_of ps)).open_now; open_now = [] }

none_open : (parts : List Part) (os : List Level) → length os ≡ 0 → record { parts = parts; open_now = os } ≡ (let r : Reading = record { parts = all_closed parts os; open_now = [] } in r)
none_open parts [] h = refl
none_open parts (l ∷ ls) h = absurd (omega (arith, h))

one_closed : (parts : List Part) (os : List Level) → 1 ≤ length os → all_closed (leave parts os).parts (leave parts os).open_now ≡ all_closed parts os
one_closed parts [] h = absurd (omega (arith, h))
one_closed parts (l ∷ ls) h = refl

close_cost : (ps : List Piece) → cost (Closes ∷ ps) ≡ cost ps + 1
close_cost ps = omega (arith, ap length (sign_behind (told ps) 93 close_alone), length-append (encode_utf8_all (told ps)) (93 ∷ []))

-- what is read where one bracket was closed first
shut_read : (ps all : List Piece) → Closed (Closes ∷ ps) all → 1 ≤ length (reading (map step_of ps)).open_now
    → reading (map step_of all) ≡ record { parts = all_closed (reading (map step_of ps)).parts (reading (map step_of ps)).open_now; open_now = [] }
shut_read ps all c deep = c.read ∙ ap (λ l. record { parts = l; open_now = [] }) (one_closed (reading (map step_of ps)).parts (reading (map step_of ps)).open_now deep)

pub all_shut : (d : ℕ) (ps : List Piece) → Well ps → open_in ps ≡ d → (all : List Piece) × Closed ps all
all_shut zero ps h e = (
  ps,
  record {
    well = h;
    shut = e;
    bytes = omega (arith, e);
    parts = refl;
    atoms = refl;
    read = none_open (reading (map step_of ps)).parts (reading (map step_of ps)).open_now ((printed ps h).deep ∙ e);
  },
)
all_shut (suc d) ps h e =
    let some : 1 ≤ open_in ps = omega (arith, e) in
    let r = all_shut d (Closes ∷ ps) (some, h) (omega (arith, e)) in
    let c = r.1 in
    let deep : 1 ≤ length (reading (map step_of ps)).open_now = omega (arith, some, (printed ps h).deep) in (
      r.0,
      record {
        well = c.well;
        shut = c.shut;
        bytes = omega (arith, c.bytes, close_cost ps, some);
        parts = c.parts;
        atoms = c.atoms;
        read = shut_read ps r.0 c deep;
      },
    )

-- ---- characters
scalars_append : (xs ys : List ℕ) → all_scalars xs ≡ true → all_scalars ys ≡ true → all_scalars (xs ++ ys) ≡ true
scalars_append [] ys h k = k
scalars_append (x ∷ xs) ys h k =
    and_from _ _ ((and_parts _ (all_scalars xs) h).0) (scalars_append xs ys ((and_parts _ (all_scalars xs) h).1) k)

between_scalars : (t : Tie) (f : Bool) → all_scalars (between t f) ≡ true
between_scalars (Begins true) true = refl
between_scalars (Begins false) true = refl
between_scalars (LinkedBy Phrase) f = refl
between_scalars t f = refl

word_scalars : (w : List ℕ) → IsWord w → all_scalars (chars w) ≡ true
word_scalars w h = scalars-chars w h.utf8

facet_scalars : (n v : List ℕ) → IsWord n → IsValue v → all_scalars (chars n ++ 58 ∷ chars v) ≡ true
facet_scalars n v h hv = scalars_append (chars n) (58 ∷ chars v) (word_scalars n h) (scalars-chars v hv.utf8)

atom_scalars : (t : Tie) (ps : List Piece) (xs : List ℕ) → all_scalars (told ps) ≡ true → all_scalars xs ≡ true → all_scalars (told ps ++ (between t (fresh ps) ++ xs)) ≡ true
atom_scalars t ps xs h k = scalars_append (told ps) (between t (fresh ps) ++ xs) h (scalars_append (between t (fresh ps)) xs (between_scalars t (fresh ps)) k)

pub told_scalars : (ps : List Piece) → Well ps → all_scalars (told ps) ≡ true
told_scalars [] h = refl
told_scalars (Plain t w ∷ ps) h = atom_scalars t ps (chars w) (told_scalars ps h.1) (word_scalars w h.0.1)
told_scalars (Whole t w ∷ ps) h = atom_scalars t ps (chars w ++ 36 ∷ []) (told_scalars ps h.1) (scalars_append (chars w) (36 ∷ []) (word_scalars w h.0.1) refl)
told_scalars (Valued t n v ∷ ps) h = atom_scalars t ps (chars n ++ 58 ∷ chars v) (told_scalars ps h.1) (facet_scalars n v h.0.1.word h.0.2)
told_scalars (WholeValued t n v ∷ ps) h = atom_scalars t ps ((chars n ++ 58 ∷ chars v) ++ 36 ∷ []) (told_scalars ps h.1)
    (scalars_append (chars n ++ 58 ∷ chars v) (36 ∷ []) (facet_scalars n v h.0.1.word h.0.2) refl)
told_scalars (Opens t n ∷ ps) h = atom_scalars t ps (chars n ++ 91 ∷ []) (told_scalars ps h.1) (scalars_append (chars n) (91 ∷ []) (word_scalars n h.0.1.word) refl)
told_scalars (Closes ∷ ps) h = scalars_append (told ps) (93 ∷ []) (told_scalars ps h.1) refl

-- ---- an accepted text
record Canon (bs : List ℕ) : Type 0 where
  utf8 : IsUtf8 (canonical (query_of (chars bs)))
  accepted : IsAccepted (chars (canonical (query_of (chars bs))))
  read : query_of (chars (canonical (query_of (chars bs)))) ≡ query_of (chars bs)
  bytes : length (canonical (query_of (chars bs))) ≤ length bs + depth (tokens (chars bs))
  parts : parts_in (steps (tokens (chars (canonical (query_of (chars bs)))))) ≡ parts_in (steps (tokens (chars bs)))
  atoms : atoms_in (steps (tokens (chars (canonical (query_of (chars bs)))))) ≡ atoms_in (steps (tokens (chars bs)))

-- the whole of an accepted text passes
pub whole_passes : (cs : List ℕ) → IsAccepted cs → Passes (tokens cs)
whole_passes cs a = passes (tokens cs) (ap (λ l. verdict (tokens l)) (sym (take_all (length cs) cs (omega arith))) ∙ a (length cs) (omega arith))

-- the text of a reading in which no bracket is open
shut_text : (r : Reading) (ps : List Piece) (parts : List Part) → Printed ps r → r ≡ record { parts = parts; open_now = [] } → canonical_parts parts ≡ encode_utf8_all (told ps)
shut_text r ps parts p e = ap (λ x. levels_text x.open_now ++ canonical_parts x.parts) (sym e) ∙ p.same

canon : (bs : List ℕ) → IsUtf8 bs → IsAccepted (chars bs) → Canon bs
canon bs u a =
    let cs : List ℕ = chars bs in
    let p = pieced (tokens cs) (kept_tokens cs (scalars-chars bs u) a) in
    let ps : List Piece = p.pieces in
    let shut = all_shut (open_in ps) ps p.well refl in
    let all : List Piece = shut.0 in
    let c = shut.1 in
    let whole = whole_passes cs a in
    let r : Reading = reading (map step_of ps) in
    let same_reading : r ≡ reading (steps (tokens cs)) = ap reading p.same in
    let closed_reading : reading (map step_of all) ≡ record { parts = all_closed (reading (steps (tokens cs))).parts (reading (steps (tokens cs))).open_now; open_now = [] } =
    c.read ∙ ap (λ x. record { parts = all_closed x.parts x.open_now; open_now = [] }) same_reading in
    -- the canonical text
    let text : canonical (query_of cs) ≡ encode_utf8_all (told all) =
    rolled_query (all_closed (reading (steps (tokens cs))).parts (reading (steps (tokens cs))).open_now)
    ∙ shut_text (reading (map step_of all)) all _ (printed all c.well) closed_reading in
    let same : chars (canonical (query_of cs)) ≡ told all = ap chars text ∙ chars-encodes (told all) (told_scalars all c.well) in
    let toked : tokens (chars (canonical (query_of cs))) ≡ toks all = ap tokens same ∙ tokens_told all c.well in
    let stepped : steps (tokens (chars (canonical (query_of cs)))) ≡ map step_of all = ap steps toked ∙ steps_toks all c.well in
    let source : size (tokens cs) ≡ length bs = omega (arith, size_after cs [], ap length (encodes-chars bs u)) in
    let short : cost all ≤ size (tokens cs) + depth (tokens cs) = omega (arith, c.bytes, p.small, deep_same (tokens cs) p) in
    let sized : size (toks all) ≡ cost all = ap size (sym (tokens_told all c.well)) ∙ omega (arith, size_after (told all) []) in
    let few : Few all = record { parts = omega (arith, c.parts, ap parts_in p.same, whole.parts); atoms = omega (arith, c.atoms, ap atoms_in p.same, whole.atoms) } in
    let fine = fine_toks all c.well few (omega (arith, sized, short, whole.small, c.shut)) in
    record {
      utf8 = (told all, (told_scalars all c.well, sym text));
      accepted = λ k le. fronts (chars (canonical (query_of cs))) [] (subst Fine (sym toked) fine) k;
      read = ap (λ ss. let x = reading ss in roll-Query (record { parts = all_closed x.parts x.open_now })) stepped
          ∙ ap (λ x. roll-Query (record { parts = all_closed x.parts x.open_now })) closed_reading;
      bytes = omega (arith, ap length text, short, source);
      parts = ap parts_in stepped ∙ c.parts ∙ ap parts_in p.same;
      atoms = ap atoms_in stepped ∙ c.atoms ∙ ap atoms_in p.same;
    }

-- ---- the laws
pub read_again : AreReadAgain
read_again q g =
    let c = canon g.text g.utf8 g.accepted in
    let back : query_of (chars g.text) ≡ q = sym g.read in
    subst (λ r. IsUtf8 (canonical r) × IsAccepted (chars (canonical r)) × (query_of (chars (canonical r)) ≡ r)) back (c.utf8, c.accepted, c.read)

pub different : AreDifferent
different q r gq gr e = sym (read_again q gq).2 ∙ ap (λ t. query_of (chars t)) e ∙ (read_again r gr).2

pub no_longer : AreNoLonger
no_longer bs u a = (canon bs u a).bytes

pub keep_counts : KeepCounts
keep_counts bs u a = let c = canon bs u a in (c.parts, c.atoms)

pub short : AreShort
short q g =
    let cs : List ℕ = chars g.text in
    let c = canon g.text g.utf8 g.accepted in
    let whole = whole_passes cs g.accepted in
    omega (arith, c.bytes, whole.small, size_after cs [], ap length (encodes-chars g.text g.utf8), ap (λ r. length (canonical r)) g.read)
