-- A query of the grammar as pieces in which no bracket is open.
--
--   Shut ps        pieces whose brackets are closed, within the limits
--   read ps        the parts of the query that they are read as
--   pieces_of      each query of the grammar is read from such
--   of_pieces      such are read as a query of the grammar
use Rattle.std.proofs.Common.{◌≡◌, ℕ, ◌≤◌, List, [], ◌∷◌, map, length, refl, ap, ◌∙◌, sym, subst, arith}
use Rattle.std.specs.Prelude.{encode_utf8_all}
use Rattle.std.specs.Str.{chars}
use Rattle.std.proofs.lemmas.Str.{chars-encodes, scalars-chars}
use Rattle.cs_base.specs.declared.content.limits.TheConstants.{MAX_QUERY_BYTES}
use Rattle.cs_base.specs.declared.content.query.Part.{Part}
use Rattle.cs_base.specs.declared.content.query.Query.{Query, roll-Query}
use Rattle.cs_model.specs.declared.kinds.Level.{Level}
use Rattle.cs_model.specs.Tokens.{tokens, size}
use Rattle.cs_model.specs.Grammar.{Reading, reading, steps, all_closed}
use Rattle.cs_model.specs.Refusals.{IsOfGrammar, parts_in, atoms_in}
use Rattle.cs_model.proofs.Pieces.{Piece, step_of, open_in, Well, told, toks}
use Rattle.cs_model.proofs.PieceTokens.{tokens_told, steps_toks}
use Rattle.cs_model.proofs.PieceText.{printed}
use Rattle.cs_model.proofs.PassedTokens.{kept_tokens}
use Rattle.cs_model.proofs.KeptPieces.{cost, pieced, deep_same}
use Rattle.cs_model.proofs.MaximalTokens.{size_after}
use Rattle.cs_model.proofs.FineTokens.{Fine, Few, fine_toks, fronts}
use Rattle.cs_model.proofs.CanonicalReading.{all_shut, told_scalars, whole_passes}

pub record Shut (ps : List Piece) : Type 0 where
  pub well : Well ps
  pub shut : open_in ps ≡ 0
  pub few : Few ps
  pub short : cost ps ≤ MAX_QUERY_BYTES

abbrev pub read : List Piece → List Part
read ps = (reading (map step_of ps)).parts

closed_none : (parts : List Part) (os : List Level) → length os ≡ 0 → all_closed parts os ≡ parts
closed_none parts [] h = refl
closed_none parts (l ∷ ls) h = absurd (omega (arith, h))

pub pieces_of : (q : Query) → IsOfGrammar q → (ps : List Piece) × Shut ps × (roll-Query (record { parts = read ps }) ≡ q)
pieces_of q g =
    let p = pieced (tokens (chars g.text)) (kept_tokens (chars g.text) (scalars-chars g.text g.utf8) g.accepted) in
    let s = all_shut (open_in p.pieces) p.pieces p.well refl in
    let c = s.1 in
    let whole = whole_passes (chars g.text) g.accepted in (
      s.0,
      record {
        well = c.well;
        shut = c.shut;
        few = record { parts = omega (arith, c.parts, ap parts_in p.same, whole.parts); atoms = omega (arith, c.atoms, ap atoms_in p.same, whole.atoms) };
        short = omega (arith, c.bytes, p.small, deep_same (tokens (chars g.text)) p, whole.small);
      },
      ap (λ (r : Reading). roll-Query (record { parts = r.parts })) c.read
          ∙ ap (λ (r : Reading). roll-Query (record { parts = all_closed r.parts r.open_now })) (ap reading p.same)
          ∙ sym g.read,
    )

pub of_pieces : (ps : List Piece) → Shut ps → IsOfGrammar (roll-Query (record { parts = read ps }))
of_pieces ps s =
    let text : List ℕ = encode_utf8_all (told ps) in
    let same : chars text ≡ told ps = chars-encodes (told ps) (told_scalars ps s.well) in
    let toked : tokens (chars text) ≡ toks ps = ap tokens same ∙ tokens_told ps s.well in
    let stepped : steps (tokens (chars text)) ≡ map step_of ps = ap steps toked ∙ steps_toks ps s.well in
    let sized : size (toks ps) ≡ cost ps = ap size (sym (tokens_told ps s.well)) ∙ omega (arith, size_after (told ps) []) in
    let fine = fine_toks ps s.well s.few (omega (arith, sized, s.short, s.shut)) in
    let r = reading (map step_of ps) in
    record {
      text = text;
      utf8 = (told ps, (told_scalars ps s.well, refl));
      accepted = λ k le. fronts (chars text) [] (subst Fine (sym toked) fine) k;
      read = ap (λ (parts : List Part). roll-Query (record { parts = parts })) (sym (closed_none r.parts r.open_now ((printed ps s.well).deep ∙ s.shut)))
          ∙ ap (λ ss. let x = reading ss in roll-Query (record { parts = all_closed x.parts x.open_now })) (sym stepped);
    }
