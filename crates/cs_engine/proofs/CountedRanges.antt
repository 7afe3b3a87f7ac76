-- Counted words of a range that are held behind a reply.
--
--   counted_held         what holds of all where they are held
--   counted_fits         they are in the range of an index
use Rattle.std.proofs.Common.{◌≡◌, ◌≤◌, List, length, Option, Some, None, sym, subst}
use Rattle.std.specs.Prelude.{All, IfSome, MatchOption}
use Rattle.cs_base.specs.declared.content.doc.Base.{Base}
use Rattle.cs_base.specs.declared.content.scores.TheConstants.{MAX_ROW_SCORE}
use Rattle.cs_file.specs.Indexes.{IndexView}
use Rattle.cs_engine.specs.HeldRanges.{FitsRange, HoldsMore}
use Rattle.cs_rows.specs.Steps.{IsBaseOf}
use Rattle.cs_engine.specs.declared.finding.CountedWords.{CountedWords}
use Rattle.cs_engine.specs.declared.held.HeldRange.{HeldRange}
use Rattle.cs_engine.specs.declared.held.Holding.TheVariants as holding
use Rattle.cs_engine.proofs.RangeLemmas.{held_more}

-- the range with the hits that have its words
abbrev pub range_with : Base → CountedWords → HeldRange
range_with hits r = record { low = r.low; high = r.high; what = holding.Counted hits r.counts }

pub counted_held : (P : HeldRange → Type 0) (hits : Base) (o : Option CountedWords) (old new : List HeldRange)
    → MatchOption o (new ≡ old) (λ r. HoldsMore (range_with hits r) old new) → IfSome o (λ r. P (range_with hits r)) → All P old → All P new
counted_held P hits None old new same one all = subst (All P) (sym same) all
counted_held P hits (Some r) old new more one all = held_more P more one all

pub counted_fits : (i : IndexView) (hits : Base) (o : Option CountedWords)
    → IfSome o (λ r. (r.counts.high ≤ length i.words) × IsBaseOf i.docs MAX_ROW_SCORE hits) → IfSome o (λ r. FitsRange i (range_with hits r))
counted_fits i hits None has = tt
counted_fits i hits (Some r) has = (has.1, has.0)
