use Rattle.std.proofs.Common.{◌∙◌, [], ap, refl, subst, sym}
use Rattle.cs_base.specs.outside.Outside.{file_bytes}
use Rattle.cs_file.specs.Indexes.{HasAllBlocks, StandsFor}
use Rattle.cs_indexing.specs.Met.{held_bytes}
use Rattle.cs_top.proofs.live.open_live.Goals as goal

pub returns-clause-ok : goal.returns-clause-ok
returns-clause-ok g c h held =
    let b = held_bytes h c.args.index.name.now in
    let stands : StandsFor b c.in_ok-index.index = c.in_ok-index.ensures.ok h held in
    record {
      told = ap (λ x. file_bytes x c.args.index.name.now) (c.in_ok-index.ensures.reads.files ∙ held);
      live = record {
        stands = subst (StandsFor b) (sym c.in_ok-live.ensures.index) stands;
        at = record {
          made = [];
          behind = c.in_ok-live.ensures.begins b stands;
          state = record { corpus = refl; changes = refl; additions = refl };
        };
        good = c.in_ok-live.ensures.good b;
      };
    }

pub returns-clause-fits : goal.returns-clause-fits
returns-clause-fits g c =
    subst (HasAllBlocks (file_bytes (g.F.Files.held c.open_held.new.files) c.args.index.name.now)) (sym c.in_ok-live.ensures.index) c.in_ok-index.ensures.fits
