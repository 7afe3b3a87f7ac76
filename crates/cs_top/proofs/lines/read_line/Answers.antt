use Rattle.std.proofs.Common.{◌≡◌, ap, ◌∙◌, arith, length, take, drop}
use Rattle.std.proofs.lemmas.List.{length-take}
use Rattle.std.specs.FinMap as map
use Rattle.cs_indexing.specs.Met.{held_bytes}
use Rattle.cs_indexing.proofs.SizedFiles.{held_size}
use Rattle.cs_top.proofs.WindowLemmas.{no_feed, window_line}
use Rattle.cs_top.proofs.lines.read_line.Goals as goal

pub returns-clause-line : goal.returns-clause-line
returns-clause-line g c h held =
    let b = held_bytes h c.args.file.name.now in
    let room = c.min-room.result in
    let len : length (take room c.args.buffer.now) ≡ room = omega (arith, length-take room c.args.buffer.now) in
    window_line b c.read_at.new.out (drop room c.args.buffer.now) c.args.at c.args.file.size room c.first_end-len.result.0 c.first_end-len.result.1
    (held_size (map.get h c.args.file.name.now) c.args.file.size (c.requires.size h held)) c.requires.within c.min-room.ensures
    (c.in_ok-read_at.ensures.ok h held ∙ ap (λ n. take n (drop c.args.at b)) len) c.first_end-len.ensures.len c.first_end-len.ensures.shows

pub returns-clause-one : goal.returns-clause-one
returns-clause-one g c =
    no_feed c.read_at.new.out (drop c.min-room.result c.args.buffer.now) c.first_end-len.result.0 c.first_end-len.result.1 c.first_end-len.ensures.len c.first_end-len.ensures.shows
