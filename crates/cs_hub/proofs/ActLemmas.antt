-- What an event does to the slots and to the set of live connections.
--
--   gone_at                               who is in a set with one connection fewer
--   acted_set, acted_as, acted_live       a slot that was set, and that the live connections are kept then
--   heeds_acted, heeds_lighter            a piece
--   greets_kept, greets_refused, greets_lighter   a connection that opened
--   ended_acted, ended_lighter            one that ended
--   shut_live, shut_same                  one that is closed at the end of all
--   piece_takes, ended_acts, acts_as      what an event does on its own connection
use Rattle.std.proofs.Common.{◌≡◌, ℕ, ◌+◌, ◌<◌, ◌≤◌, ◌==◌, Bool, true, false, not, ◌&&◌, ◌++◌, cond, List, length, slice_set, refl, sym, ◌∙◌, ap, subst, arith}
use Rattle.std.specs.Prelude.{Option, Some, None, is_some, replicate}
use Rattle.std.specs.Cmp.{unsigned_tied}
use Rattle.std.proofs.lemmas.Cmp.{nat_cmp_total}
use Rattle.std.specs.FinSet as set
use Rattle.std.proofs.lemmas.List.{set-set}
use Rattle.cs_base.specs.declared.content.limits.TheConstants.{MAX_CONNECTION_BYTES}
use Rattle.std.proofs.lemmas.Option.{same_Some}
use Rattle.cs_base.specs.declared.outside.hub.Event.{Event}
use Rattle.cs_base.specs.outside.Hub.{Listening, Conns, Talk}
use Rattle.cs_model.specs.Corpus.{Corpus}
use Rattle.cs_model_serving.specs.Connections.{Left}
use Rattle.cs_hub.specs.HubFollowing.{Lefts, left_at, HasLive}
use Rattle.cs_hub.specs.Rounds.{weight, to_come, Acted, ActsOn, Heeds, IsAdded, TakesPiece, closed_unless}
use Rattle.cs_hub.specs.Turns.{Received}
use Rattle.cs_hub.proofs.SpeakLemmas.{itself, by_conn}
use Rattle.cs_hub.proofs.ConnectionSlots.{set_at, unset_at, none_there, padded_at, set_weight, padded_weight, held_within}

in_gone : (s : Conns) (c d : ℕ) → set.contains (set.remove s c) d ≡ (not (d == c) && set.contains s d)
in_gone s c d = set.contains-remove nat_cmp_total s c d ∙ ap (λ b. not b && set.contains s d) (unsigned_tied d c)

gone_case : (a b : Bool) → (not a && b) ≡ cond a false b
gone_case true b = refl
gone_case false b = refl

pub gone_at : (s : Conns) (c d : ℕ) → set.contains (set.remove s c) d ≡ cond (d == c) false (set.contains s d)
gone_at s c d = in_gone s c d ∙ gone_case (d == c) (set.contains s d)

-- a value that is there already
there_at : (f : ℕ → Bool) (c d : ℕ) (b : Bool) → f c ≡ b → f d ≡ cond (d == c) b (f d)
there_at f c d b h =
    by_conn (λ d. f d ≡ cond (d == c) b (f d)) c d (h ∙ sym (ap (λ x. cond x b (f c)) (itself c))) (λ other. sym (ap (λ x. cond x b (f d)) other))

-- ---- one slot
acted_set : (core : Lefts) (c : ℕ) (x : Option Left) (s : Listening) → c < length core → set.contains s.live c ≡ true
    → Acted core (slice_set core c x) c x s (closed_unless (is_some x) c s)
acted_set core c (Some l) s h live = record { sets = λ d. set_at core c d (Some l) h; live = λ d. there_at (set.contains s.live) c d true live; same = refl }
acted_set core c None s h live = record { sets = λ d. set_at core c d None h; live = λ d. gone_at s.live c d; same = refl }

acted_as : (core core' now : Lefts) (c : ℕ) (x : Option Left) (s s' t : Listening) → now ≡ core' → t ≡ s' → Acted core core' c x s s' → Acted core now c x s t
acted_as core core' now c x s s' t e f h = subst (λ k. Acted core k c x s t) (sym e) (subst (λ u. Acted core core' c x s u) (sym f) h)

pub acted_live : (core core' : Lefts) (c : ℕ) (x : Option Left) (s s' : Listening)
    → ((d : ℕ) → (d == c) ≡ false → is_some (left_at core d) ≡ set.contains s.live d) → Acted core core' c x s s' → HasLive core' s'
acted_live core core' c x s s' h a =
    λ d. ap is_some (a.sets d) ∙ by_conn (λ d. is_some (cond (d == c) x (left_at core d)) ≡ cond (d == c) (is_some x) (set.contains s.live d)) c d
    (ap (λ b. is_some (cond b x (left_at core c))) (itself c) ∙ sym (ap (λ b. cond b (is_some x) (set.contains s.live c)) (itself c)))
    (λ other. ap (λ b. is_some (cond b x (left_at core d))) other ∙ h d other ∙ sym (ap (λ b. cond b (is_some x) (set.contains s.live d)) other))
    ∙ sym (a.live d)

-- ---- a piece
pub heeds_acted : (core core1 core' : Lefts) (c : ℕ) (lent kept : Option Left) (s s1 s' : Listening) → core1 ≡ slice_set core c lent
    → core' ≡ slice_set core1 c kept
    → s1 ≡ s → s' ≡ closed_unless (is_some kept) c s1
    → c < length core → set.contains s.live c ≡ true → Acted core core' c kept s s'
heeds_acted core core1 core' c lent kept s s1 s' e f g i h live =
    acted_as core (slice_set core c kept) core' c kept s (closed_unless (is_some kept) c s) s' (f ∙ ap (λ k. slice_set k c kept) e ∙ set-set core c lent kept)
    (i ∙ ap (closed_unless (is_some kept) c) g) (acted_set core c kept s h live)

pub heeds_lighter : (Over : Corpus → Type 0) (core core' : Lefts) (c : ℕ) (old : Left) (piece : List ℕ) (kept : Option Left) (m n : ℕ)
    (talk talk' : Option Talk) → core' ≡ slice_set core c kept → left_at core c ≡ Some old → old.taken < MAX_CONNECTION_BYTES → 0 < length piece
    → Received Over c old piece kept m n talk talk' → weight core' < weight core
heeds_lighter Over core core' c old piece (Some l) m n talk talk' e was room some r =
    let w = set_weight core c (Some l) (held_within core c (ap is_some was)) in
    omega (arith, w, ap weight e, ap to_come was, room, some, r.1, r.2)
heeds_lighter Over core core' c old piece None m n talk talk' e was room some r =
    let w = set_weight core c None (held_within core c (ap is_some was)) in
    omega (arith, w, ap weight e, ap to_come was, room)

-- ---- a connection that opens
pub greets_kept : (core core' : Lefts) (c : ℕ) (l : Left) (s : Listening) → IsAdded core c l core' → set.contains s.live c ≡ true
    → Acted core core' c (Some l) s s
greets_kept core core' c l s a live = record {
  sets = λ d. ap (λ k. left_at k d) a.1 ∙ set_at (core ++ replicate a.0 None) c d (Some l) a.2 ∙ ap (cond (d == c) (Some l)) (padded_at core a.0 d);
  live = λ d. there_at (set.contains s.live) c d true live;
  same = refl;
}

pub greets_refused : (core core' : Lefts) (c : ℕ) (s s' : Listening) → core' ≡ core → left_at core c ≡ None
    → s' ≡ record s { live = set.remove s.live c } → Acted core core' c None s s'
greets_refused core core' c s s' e none f = record {
  sets = λ d. ap (λ k. left_at k d) e ∙ none_there core c d none;
  live = λ d. ap (λ (t : Listening). set.contains t.live d) f ∙ gone_at s.live c d;
  same = f ∙ ap (λ (t : Listening). let u : Listening = record s { live = t.live } in u) (sym f);
}

pub greets_lighter : (core core' : Lefts) (c : ℕ) (l : Left) → IsAdded core c l core' → weight core' ≤ weight core + (MAX_CONNECTION_BYTES + 1)
greets_lighter core core' c l a =
    let w = set_weight (core ++ replicate a.0 None) c (Some l) a.2 in
    let p = padded_weight core a.0 in
    omega (arith, w, p, ap weight a.1)

-- ---- a connection that ended
pub ended_acted : (core core' : Lefts) (c : ℕ) (s : Listening) → core' ≡ slice_set core c None → set.contains s.live c ≡ false → Acted core core' c None s s
ended_acted core core' c s e gone =
    record { sets = λ d. ap (λ k. left_at k d) e ∙ unset_at core c d; live = λ d. there_at (set.contains s.live) c d false gone; same = refl }

came_at : (x : Option Left) → is_some x ≡ true → 0 < to_come x
came_at (Some l) h = omega arith
came_at None h = absurd cc

pub ended_lighter : (core core' : Lefts) (c : ℕ) → core' ≡ slice_set core c None → is_some (left_at core c) ≡ true → weight core' < weight core
ended_lighter core core' c e held =
    let w = set_weight core c None (held_within core c held) in
    let p = came_at (left_at core c) held in
    omega (arith, w, p, ap weight e)

-- ---- the end of all
pub shut_live : (core core' : Lefts) (c : ℕ) (s s' : Listening) → HasLive core s → is_some (left_at core c) ≡ true → core' ≡ slice_set core c None
    → s' ≡ record s { live = set.remove s.live c } → HasLive core' s'
shut_live core core' c s s' h held e f =
    acted_live core core' c None s s' (λ d other. h d)
    (acted_as core (slice_set core c None) core' c None s (closed_unless false c s) s' e f
    (acted_set core c None s (held_within core c held) (sym (h c) ∙ held)))

pub shut_same : (s0 s s' : Listening) (x : Conns) → s ≡ record s0 { live = s.live } → s' ≡ record s { live = x } → s' ≡ record s0 { live = s'.live }
shut_same s0 s s' x e f =
    f ∙ ap (λ (t : Listening). let u : Listening = record t { live = x } in u) e
    ∙ ap (λ (t : Listening). let u : Listening = record s0 { live = t.live } in u) (sym f)

-- ---- the event's own connection
takes_by : (Over : Corpus → Type 0) (c : ℕ) (l : Left) (piece : List ℕ) (kept : Option Left) (l' : Left) (m n : ℕ) (talk talk' : Option Talk)
    → Received Over c l piece kept m n talk talk' → kept ≡ Some l' → TakesPiece l piece l'
takes_by Over c l piece (Some x) l' m n talk talk' r is =
    subst (TakesPiece l piece) (same_Some x l' is) (record { taken = r.1; room = r.2; rest = r.3 })
takes_by Over c l piece None l' m n talk talk' r is = absurd cc

pub piece_takes : (Over : Corpus → Type 0) (core core' : Lefts) (c : ℕ) (piece : List ℕ) (s s' : Listening) (m n : ℕ) (talk talk' : Option Talk)
    → Heeds Over core core' c piece s s' m n talk talk' → (l l' : Left) → left_at core c ≡ Some l → left_at core' c ≡ Some l' → TakesPiece l piece l'
piece_takes Over core core' c piece s s' m n talk talk' h l l' was is =
    subst (λ x. TakesPiece x piece l') (same_Some h.old l (sym h.was ∙ was))
    (takes_by Over c h.old piece h.kept l' m n talk talk' h.received
    (sym (h.acted.sets c ∙ ap (λ b. cond b h.kept (left_at core c)) (itself c)) ∙ is))

pub ended_acts : (core core' : Lefts) (c : ℕ) → core' ≡ slice_set core c None → left_at core' c ≡ None
ended_acts core core' c e = ap (λ k. left_at k c) e ∙ unset_at core c c ∙ ap (λ b. cond b None (left_at core c)) (itself c)

pub acts_as : (event e : Event) (core core' : Lefts) (piece : List ℕ) (s s' : Listening) (talk talk' : Option Talk) → event ≡ e
    → ActsOn e core core' piece s s' talk talk' → ActsOn event core core' piece s s' talk talk'
acts_as event e core core' piece s s' talk talk' is h = subst (λ (v : Event). ActsOn v core core' piece s s' talk talk') (sym is) h
