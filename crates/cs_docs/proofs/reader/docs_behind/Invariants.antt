use Rattle.std.proofs.Common.{◌≡◌, ◌+◌, ◌≤◌, ◌++◌, length, map}
use Rattle.std.specs.Str.Lines.{lines}
use Rattle.cs_base.specs.declared.content.limits.TheConstants.{MAX_COLLECTION_BYTES}
use Rattle.cs_docs.specs.LinesRead.{doc_of_lent, documents_from}
use Rattle.cs_docs.specs.FaultRefusals.{refusal_from}
use Rattle.cs_docs.proofs.reader.docs_behind.Given as goal

abbrev pub invariant-loop-rest : goal.invariant-loop-rest
invariant-loop-rest l = record {
  told : documents_from 0 (l.before + 1) (lines l.text) ≡ map doc_of_lent l.docs.items ++ documents_from (length l.docs.items) (l.number + 1) (lines l.rest);
  refused : refusal_from 0 (l.before + 1) (lines l.text) ≡ refusal_from (length l.docs.items) (l.number + 1) (lines l.rest);
  within : l.number + length l.rest ≤ MAX_COLLECTION_BYTES;
}

abbrev pub decreases-loop-rest : goal.decreases-loop-rest
decreases-loop-rest l = length l.rest
