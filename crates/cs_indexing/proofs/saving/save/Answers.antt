use Rattle.std.proofs.Common.{rules, refl, sym, subst}
use Rattle.cs_base.specs.outside.Outside.{empty_file}
use Rattle.cs_base.proofs.FileLemmas.{held_after, open_after, saved}
use Rattle.cs_model_index.specs.Layout.{file}
use Rattle.cs_indexing.specs.Build.{IsBegun}
use Rattle.cs_indexing.proofs.BuildLemmas.{begun_by, grown_all, made_or_not}
use Rattle.cs_indexing.proofs.saving.save.Goals as goal

pub returns-in_err-create-clause-err : goal.returns-in_err-create-clause-err
returns-in_err-create-clause-err g c =
    let all : IsBegun (g.F.Files.held c.args.files.now) c.args.name.now (file c.args.image.now) (g.F.Files.held c.create.new.self) = made_or_not _ _ _ _ c.in_err-create.ensures.err in
    search rules

pub put_image-requires-clause-is_held : goal.put_image-requires-clause-is_held
put_image-requires-clause-is_held g c = held_after _ _ _ (λ _. empty_file) c.in_ok-create.ensures.ok

pub put_image-requires-clause-unfinished : goal.put_image-requires-clause-unfinished
put_image-requires-clause-unfinished g c = open_after _ _ _ (λ _. empty_file) (λ _. refl) c.in_ok-create.ensures.ok

pub returns-in_err-put_image-clause-err : goal.returns-in_err-put_image-clause-err
returns-in_err-put_image-clause-err g c =
    let all : IsBegun (g.F.Files.held c.args.files.now) c.args.name.now (file c.args.image.now) (g.F.Files.held c.put_image.new.files) =
    begun_by _ _ _ _ _ c.in_ok-create.ensures.ok c.in_err-put_image.ensures.err c.put_image.ensures.others c.put_image.ensures.is_held c.put_image.ensures.unfinished in
    search rules

pub returns-in_err-finish-clause-err : goal.returns-in_err-finish-clause-err
returns-in_err-finish-clause-err g c =
    let all : IsBegun (g.F.Files.held c.args.files.now) c.args.name.now (file c.args.image.now) (g.F.Files.held c.finish.new.self) =
    subst (λ x. IsBegun (g.F.Files.held c.args.files.now) c.args.name.now (file c.args.image.now) x) (sym c.in_err-finish.ensures.err)
    (begun_by _ _ _ _ _ c.in_ok-create.ensures.ok (grown_all _ _ _ c.in_ok-put_image.ensures.ok) c.put_image.ensures.others c.put_image.ensures.is_held c.put_image.ensures.unfinished) in
    search rules

pub returns-clause-ok : goal.returns-clause-ok
returns-clause-ok g c = saved _ _ _ _ _ _ c.in_ok-create.ensures.ok c.in_ok-put_image.ensures.ok c.put_image.ensures.others c.in_ok-finish.ensures.ok
