use Rattle.std.proofs.Common.{◌≡◌, ◌∙◌, ap}
use Rattle.std.specs.Prelude.{Some}
use Rattle.cs_base.specs.outside.Outside.{file_bytes}
use Rattle.cs_indexing.specs.Met.{held_bytes}
use Rattle.cs_indexing.proofs.whole.open_held.Goals as goal

pub returns-in-Ok-clause-ok : goal.returns-in-Ok-clause-ok
returns-in-Ok-clause-ok g c h held =
    let told : file_bytes (g.F.Files.held c.new-store.result.files.now) c.new-store.result.name.now ≡ Some (held_bytes h c.args.index.name.now) =
    ap (λ n. file_bytes (g.F.Files.held c.new-store.result.files.now) n) c.new-store.ensures.name
    ∙ ap (λ f. file_bytes (g.F.Files.held f) c.args.index.name.now) c.new-store.ensures.files
    ∙ ap (λ x. file_bytes x c.args.index.name.now) held in
    c.in-Ok.ensures.ok (held_bytes h c.args.index.name.now) told
