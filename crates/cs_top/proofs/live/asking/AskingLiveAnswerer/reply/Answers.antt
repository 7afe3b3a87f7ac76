use Rattle.std.proofs.Common.{◌∙◌, ap, subst}
use Rattle.std.specs.Option.{ForSome}
use Rattle.cs_base.specs.outside.Outside.{file_bytes}
use Rattle.cs_file.specs.Indexes.{StandsFor}
use Rattle.cs_live.specs.Lives.{AreGoodNow}
use Rattle.cs_top.proofs.LiveOverLemmas.{still_now}
use Rattle.cs_top.proofs.live.asking.AskingLiveAnswerer.reply.Goals as goal

pub returns-in_err-reply-clause-still : goal.returns-in_err-reply-clause-still
returns-in_err-reply-clause-still g c k over =
    let l = c.args.self.now.live.now in
    let name = c.args.self.now.index.name.now in
    let new = c.ask.new.self in
    let good = subst (λ f. ForSome (file_bytes (g.F.Files.held f) name) (λ b. StandsFor b l.state.index → AreGoodNow b l → AreGoodNow b new)) c.new-store.ensures.files
    (subst (λ n. ForSome (file_bytes (g.F.Files.held c.new-store.result.files.now) n) (λ b. StandsFor b l.state.index → AreGoodNow b l → AreGoodNow b new)) c.new-store.ensures.name c.ask.ensures.good) in
    still_now l name (g.F.Files.held c.args.self.now.files.now) new (g.F.Files.held c.ask.new.store.files.now) c.ask.ensures.index
    (ap (λ x. x.1.0) c.ask.ensures.lent ∙ ap g.F.Files.held c.new-store.ensures.files) c.ask.ensures.behind good k over

pub returns-clause-still : goal.returns-clause-still
returns-clause-still g c k over =
    let l = c.args.self.now.live.now in
    let name = c.args.self.now.index.name.now in
    let new = c.ask.new.self in
    let good = subst (λ f. ForSome (file_bytes (g.F.Files.held f) name) (λ b. StandsFor b l.state.index → AreGoodNow b l → AreGoodNow b new)) c.new-store.ensures.files
    (subst (λ n. ForSome (file_bytes (g.F.Files.held c.new-store.result.files.now) n) (λ b. StandsFor b l.state.index → AreGoodNow b l → AreGoodNow b new)) c.new-store.ensures.name c.ask.ensures.good) in
    still_now l name (g.F.Files.held c.args.self.now.files.now) new (g.F.Files.held c.ask.new.store.files.now) c.ask.ensures.index
    (ap (λ x. x.1.0) c.ask.ensures.lent ∙ ap g.F.Files.held c.new-store.ensures.files) c.ask.ensures.behind good k over
