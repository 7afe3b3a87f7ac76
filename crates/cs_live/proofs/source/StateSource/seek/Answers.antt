use Rattle.std.proofs.Common.{Some, None, refl, subst}
use Rattle.std.proofs.lemmas.Option.{none-some, same_Some}
use Rattle.std.proofs.lemmas.Result.{IfOk-weaker}
use Rattle.cs_file.specs.BlockBytes.{HasFileBytes}
use Rattle.cs_live.proofs.FetchedLemmas.{fetched_ranged, fetched_sought, fetched_stood}
use Rattle.cs_live.proofs.source.StateSource.seek.Goals as goal

pub returns-clause-ranged : goal.returns-clause-ranged
returns-clause-ranged c = IfOk-weaker c.seek_now.result _ _ (λ x f e. fetched_ranged c.args.self.now c.seek_now.ensures.is (f e))
    (c.seek_now.ensures.sought None (λ b is. absurd (none-some b is)))

pub returns-clause-sought : goal.returns-clause-sought
returns-clause-sought c = IfOk-weaker c.seek_now.result _ _ (λ x f e. fetched_sought c.args.self.now c.seek_now.ensures.is (f e))
    (c.seek_now.ensures.sought None (λ b is. absurd (none-some b is)))

pub returns-clause-stood : goal.returns-clause-stood
returns-clause-stood c b stands file = IfOk-weaker c.seek_now.result _ _
    (λ x f e. fetched_stood c.args.self.now c.seek_now.ensures.is b refl stands c.requires.in_range (f e))
    (c.seek_now.ensures.sought (Some b) (λ y is. subst (λ x. HasFileBytes x c.args.from.now) (same_Some b y is) file))
