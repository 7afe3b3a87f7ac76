use Rattle.std.proofs.Common.{◌≡◌, ◌++◌, ℕ, List, length, take, drop, sym, ap, ◌∙◌, arith}
use Rattle.std.specs.FinMap as map
use Rattle.std.proofs.Math.Seq.{take-append_seam}
use Rattle.std.proofs.lemmas.List.{take_all}
use Rattle.cs_indexing.specs.Met.{held_bytes}
use Rattle.cs_indexing.proofs.SizedFiles.{held_size}
use Rattle.cs_indexing.proofs.files.read_all.Goals as goal

-- a buffer of a file's length holds the file once it was read
filled : (out b items : List ℕ) (n len : ℕ) → out ≡ take n (drop 0 b) → length b ≡ n → len ≡ n → take len (out ++ drop (length out) items) ≡ b
filled out b items n len read whole long =
    let same : out ≡ b = read ∙ take_all n b (omega (arith, whole)) in
    ap (λ x. take len (x ++ drop (length x) items)) same ∙ ap (λ m. take m (b ++ drop (length b) items)) (long ∙ sym whole) ∙ take-append_seam b (drop (length b) items)

pub returns-in-Ok-read_at-clause-ok : goal.returns-in-Ok-read_at-clause-ok
returns-in-Ok-read_at-clause-ok g c h held =
    let b = held_bytes h c.args.file.name.now in
    let size : length b ≡ c.args.file.size = held_size (map.get h c.args.file.name.now) c.args.file.size (c.requires h held) in
    let room : length c.deref_mut.result.now ≡ c.in-Ok.bytes.len = c.deref_mut.ensures.len in
    filled c.read_at.new.out b c.in-Ok.bytes.items (length c.deref_mut.result.now) c.in-Ok.bytes.len (c.in-Ok-read_at.ensures.ok h held) (omega (arith, size, room, c.in-Ok.ensures.len)) (omega (arith, room))
