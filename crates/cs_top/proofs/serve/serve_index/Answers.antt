use Rattle.std.proofs.Common.{◌≡◌, ◌⊎◌, ◌∙◌, true, ap, inr, refl, subst}
use Rattle.std.specs.Prelude.{Some}
use Rattle.cs_base.specs.outside.Causes.{Rose}
use Rattle.cs_base.specs.outside.Outside.{Held}
use Rattle.cs_hub.specs.HubFollowing.{AreServed}
use Rattle.cs_model_index.specs.Sections.{file_corpus}
use Rattle.cs_indexing.specs.Met.{Listened, Wrote, held_bytes, listened, wrote}
use Rattle.cs_top.specs.Serve.{AreAnswered, IsServing}
use Rattle.cs_top.proofs.ServeEndings.{serving_by}
use Rattle.cs_top.proofs.serve.serve_index.Given as given
use Rattle.cs_top.proofs.serve.serve_index.Goals as goal
use Rattle.cs_top.proofs.serve.serve_index.Goals.{After-serve_file}

-- what was put, and what the hub told
abbrev w : (g : given.Over) → After-serve_file g → Wrote
w g c = wrote g.O.Sink c.args.out.now c.begin.new.out

abbrev net : (g : given.Over) → After-serve_file g → Listened
net g c = listened g.H.Hub c.args.hub.now c.serve_file.new.hub

-- it served, with this port and this room
serving : (g : given.Over) (c : After-serve_file g) → IsServing c.args.port.now c.args.conns.now (w g c) (net g c)
serving g c =
    let begun = c.in_ok-begin.ensures in
    let ends = c.serve_file.ensures.ends in
    serving_by c.args.port.now c.args.conns.now (w g c) (net g c) (g.H.Hub.send_faults c.begin.new.hub)
    begun.put (ends.port ∙ ap (λ s. s.port) begun.listening.state) (ends.room ∙ c.conns_of.ensures) begun.listening.sends c.serve_file.ensures.sends_later c.serve_file.ensures.unbroken

-- over files that hold h each opened connection was answered
answered : (g : given.Over) (c : After-serve_file g) (h : Held) → g.F.Files.held c.args.files.now ≡ Some h
    → AreAnswered h c.args.index.now (g.F.Files.faults c.args.files.now) (g.F.Files.faults c.serve_file.new.files) (net g c)
answered g c h held =
    let b = held_bytes h c.args.index.now in
    let engine = c.in_ok-engine.ensures in (
      engine.ready h held,
      subst (λ n. AreServed (file_corpus b) (g.H.Hub.state c.serve_file.new.hub) (g.H.Hub.talk c.serve_file.new.hub) n (g.F.Files.faults c.serve_file.new.files)) engine.reads.quiet
          (c.serve_file.ensures.served h (engine.reads.files ∙ held) (engine.stands h held) (engine.good b)),
    )

pub returns-in-Done-clause-told : goal.returns-in-Done-clause-told
returns-in-Done-clause-told g c h held = answered g (goal.at.returns-in-Done-clause-told g c).After-serve_file h held

pub returns-in-HubFailed-clause-told : goal.returns-in-HubFailed-clause-told
returns-in-HubFailed-clause-told g c h held =
    let met = (goal.at.returns-in-HubFailed-clause-told g c).After-serve_file in
    inr (
      serving g met,
      subst (λ n. Rose n (g.H.Hub.faults c.serve_file.new.hub)) c.in_ok-begin.ensures.quiet (c.in-HubFailed.ensures.ends.hub_failed refl),
      answered g met h held,
    )

pub returns-in-Done-clause-ends : goal.returns-in-Done-clause-ends
returns-in-Done-clause-ends g c =
    let over = c.in-Done.ensures.ends.done refl in
    let state = g.H.Hub.state c.serve_file.new.hub in (
      serving g (goal.at.returns-in-Done-clause-ends g c).After-serve_file,
      record { live = over.0; opened = subst (λ m. (state.opened ≡ m) ⊎ (state.over ≡ true)) c.conns_of.ensures over.1 },
    )

pub returns-in-HubFailed-clause-ends : goal.returns-in-HubFailed-clause-ends
returns-in-HubFailed-clause-ends g c =
    inr (
      serving g (goal.at.returns-in-HubFailed-clause-ends g c).After-serve_file,
      subst (λ n. Rose n (g.H.Hub.faults c.serve_file.new.hub)) c.in_ok-begin.ensures.quiet (c.in-HubFailed.ensures.ends.hub_failed refl),
      tt,
    )
