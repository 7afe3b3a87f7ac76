use Rattle.std.proofs.Common.{◌≡◌, ℕ, ◌+◌, ◌-◌, ◌<◌, ◌≤◌, List, None, length, get_or, take, drop, refl, sym, ap, subst, ◌∙◌, arith}
use Rattle.cs_model_index.specs.FileRules.{tried}
use Rattle.cs_model_index.specs.Layout.{Header}
use Rattle.cs_model_index.specs.Sections.{titles_at}
use Rattle.cs_file.specs.HeaderView.{seen_header}
use Rattle.cs_file.specs.Opening.{AreBytes, AreOnwardOffsets, HasOffsets, Refuses, bad_title_in, first_offset, last_offset, piece_in}
use Rattle.cs_file.proofs.OffsetsLemmas.{onward_end}
use Rattle.cs_file.proofs.StagesLemmas.{judged_along}
use Rattle.cs_file.proofs.TitlePieces.{IsPiece, all_onward, piece_bytes, piece_last, piece_of, piece_onward, piece_passed, piece_refused}
use Rattle.cs_file.proofs.TitleStageLemmas.{RestOfTitles, title_bytes_begun, title_bytes_all, titles_begun, titles_done}
use Rattle.cs_file.proofs.titles.judge_titles.Goals as goal

pub loop-doc-init : goal.loop-doc-init
loop-doc-init g c = record {
  few = omega arith;
  told = λ b t. titles_begun b (seen_header c.args.header.now) c.args.offsets.now c.requires.ruled;
  small = λ b t. title_bytes_begun b (seen_header c.args.header.now) c.args.offsets.now c.requires.ruled;
  same = refl;
  lent = refl;
  quiet = refl;
}

-- the offsets of the piece
abbrev cut : List ℕ → ℕ → ℕ → List ℕ
cut os d e = take (e + 1 - d) (drop d os)

-- its end among all titles
record Cut (h : Header) (os : List ℕ) (d e : ℕ) : Type 0 where
  piece : IsPiece os (cut os d e) d (e - d)
  onward : AreOnwardOffsets (cut os d e)
  last : last_offset (cut os d e) ≤ h.titles_len
  sum : d + (e - d) ≡ e

cut_of : (h : Header) (os : List ℕ) (d e : ℕ) → HasOffsets h os → d < e → e < length os → Cut h os d e
cut_of h os d e ruled lt within =
    let piece = piece_of os d e (omega arith) within in
    let sum : d + (e - d) ≡ e = omega arith in
    let last = piece_last os (cut os d e) d (e - d) piece ∙ ap (λ (k : ℕ). get_or os k 0) sum in
    let end = onward_end 0 None os e ruled.onward within in
    let all = ruled.end in
    record {
      piece = piece;
      onward = piece_onward os (cut os d e) d (e - d) (all_onward h os ruled) piece;
      last = omega (arith, last, end, all);
      sum = sum;
    }

pub judge_piece-requires-clause-onward : goal.judge_piece-requires-clause-onward
judge_piece-requires-clause-onward g c =
    (cut_of (seen_header c.args.header.now) c.args.offsets.now c.loop-doc.doc c.piece_end-end.result c.requires.ruled c.piece_end-end.ensures.some
    c.piece_end-end.ensures.within).onward

pub judge_piece-requires-clause-places : goal.judge_piece-requires-clause-places
judge_piece-requires-clause-places g c =
    let p = cut_of (seen_header c.args.header.now) c.args.offsets.now c.loop-doc.doc c.piece_end-end.result c.requires.ruled c.piece_end-end.ensures.some
    c.piece_end-end.ensures.within in
    let last = p.last in
    let r = c.requires.ranges in
    omega (arith, last, c.titles_at-first.ensures.value, r.titles, r.vocabulary, r.docs)

pub judge_piece-requires-clause-within : goal.judge_piece-requires-clause-within
judge_piece-requires-clause-within g c = λ b t.
    let p = cut_of (seen_header c.args.header.now) c.args.offsets.now c.loop-doc.doc c.piece_end-end.result c.requires.ruled c.piece_end-end.ensures.some
    c.piece_end-end.ensures.within in
    let last = p.last in
    let size = (c.requires.told b (sym c.loop-doc.invariant.same ∙ t)).size in
    omega (arith, last, size, c.titles_at-first.ensures.value)

pub returns-in_err-judge_piece-clause-exact : goal.returns-in_err-judge_piece-clause-exact
returns-in_err-judge_piece-clause-exact g c = λ b t.
    let h = seen_header c.args.header.now in
    let os = c.args.offsets.now in
    let d = c.loop-doc.doc in
    let e = c.piece_end-end.result in
    let ps = cut os d e in
    let p = cut_of h os d e c.requires.ruled c.piece_end-end.ensures.some c.piece_end-end.ensures.within in
    let fault = c.in_err-judge_piece.field-0.0 in
    let refused = subst (λ (n : ℕ). Refuses (tried 9 (bad_title_in n ps (piece_in b n ps))) fault) c.titles_at-first.ensures.value
    (c.in_err-judge_piece.ensures.exact b (c.loop-doc.invariant.same ∙ t)) in
    judged_along _ _ c.from_residual-in_err-judge_piece.result
    (piece_refused b h os ps d (e - d) (c.requires.told b t) (c.requires.offsets b t) c.requires.ruled p.piece fault (c.loop-doc.invariant.told b t) refused)
    c.from_residual-in_err-judge_piece.ensures.1

pub loop-doc-preserved : goal.loop-doc-preserved
loop-doc-preserved g c =
    let h = seen_header c.args.header.now in
    let os = c.args.offsets.now in
    let d = c.loop-doc.doc in
    let e = c.piece_end-end.result in
    let ps = cut os d e in
    let p = cut_of h os d e c.requires.ruled c.piece_end-end.ensures.some c.piece_end-end.ensures.within in
    let first = c.titles_at-first.ensures.value in
    let count = c.requires.ruled.count in
    record {
      few = omega (arith, count, c.piece_end-end.ensures.within);
      told = λ b t.
          let fine = ap (λ (n : ℕ). tried 9 (bad_title_in n ps (piece_in b n ps))) (sym first) ∙ c.in_ok-judge_piece.ensures.exact b (c.loop-doc.invariant.same ∙ t) in
          subst (RestOfTitles b h os) p.sum
          (piece_passed b h os ps d (e - d) (c.requires.told b t) (c.requires.offsets b t) c.requires.ruled p.piece fine (c.loop-doc.invariant.told b t));
      small = λ b t.
          let here = subst (λ (n : ℕ). AreBytes b (n + first_offset ps) (last_offset ps - first_offset ps)) first
          (c.in_ok-judge_piece.ensures.small b (c.loop-doc.invariant.same ∙ t)) in
          subst (λ (k : ℕ). AreBytes b (titles_at h) (get_or os k 0)) p.sum
          (piece_bytes b (titles_at h) os ps d (e - d) (all_onward h os c.requires.ruled) p.piece (c.loop-doc.invariant.small b t) here);
      same = c.in_ok-judge_piece.ensures.bytes ∙ c.loop-doc.invariant.same;
      lent = c.in_ok-judge_piece.ensures.lent ∙ c.loop-doc.invariant.lent;
      quiet = c.in_ok-judge_piece.ensures.caused.quiet refl ∙ c.loop-doc.invariant.quiet;
    }

pub returns-clause-exact : goal.returns-clause-exact
returns-clause-exact g c = λ b t. titles_done b (seen_header c.args.header.now) c.args.offsets.now c.loop-doc.doc (c.requires.told b t)
    (c.requires.offsets b t) c.requires.ruled c.loop-doc-test.false (c.loop-doc.invariant.told b t)

pub returns-clause-small : goal.returns-clause-small
returns-clause-small g c = λ b t. title_bytes_all b (seen_header c.args.header.now) c.args.offsets.now c.loop-doc.doc c.requires.ruled (omega arith)
    (c.loop-doc.invariant.small b t)
