use Rattle.std.proofs.Common.{rules}
use Rattle.cs_hub.proofs.UnreadBytes.{open_none}
use Rattle.cs_hub.proofs.reading.Unread.new.Goals as goal

pub invariant_of-result : goal.invariant_of-result
invariant_of-result c = open_none c.new.result.items c.nothing.result (search rules) c.nothing.ensures.seen c.nothing.ensures.few
