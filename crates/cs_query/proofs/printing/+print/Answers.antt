use Rattle.cs_query.proofs.JoinedEntries.{parts_start, part_starts}
use Rattle.cs_query.proofs.printing.+print.Goals as goal

pub put_parts-loop-i-init : goal.put_parts-loop-i-init
put_parts-loop-i-init t c = parts_start c.args.parts.now c.args.out.now

pub put_part-loop-i-init : goal.put_part-loop-i-init
put_part-loop-i-init t c = part_starts c.args.part.now c.args.out.now c.put_minus.new.out c.as_slice-chain-items.result.now c.as_slice-chain-items.ensures c.in_ok-put_minus.ensures
