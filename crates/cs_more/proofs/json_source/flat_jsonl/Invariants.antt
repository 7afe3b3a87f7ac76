use Rattle.std.proofs.Common.{◌≡◌, ◌≤◌, ◌+◌, length}
use Rattle.std.specs.Str.Lines.{lines}
use Rattle.cs_base.specs.declared.content.limits.TheConstants.{MAX_COLLECTION_BYTES}
use Rattle.cs_model_sources.specs.JsonSources.{in_front, flat_of_jsonl, lines_flat}
use Rattle.cs_more.proofs.json_source.flat_jsonl.Given as goal

abbrev pub invariant-loop-rest : goal.invariant-loop-rest
invariant-loop-rest l = record {
  whole : flat_of_jsonl l.source ≡ in_front l.tsv.items (lines_flat (l.line + 1) (lines l.rest));
  within : l.line + length l.rest ≤ MAX_COLLECTION_BYTES;
  few : length l.tsv.items ≤ MAX_COLLECTION_BYTES;
}

abbrev pub decreases-loop-rest : goal.decreases-loop-rest
decreases-loop-rest l = length l.rest
