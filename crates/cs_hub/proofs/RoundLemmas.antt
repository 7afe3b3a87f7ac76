-- Rounds of the loop.
--
--   before_step                what is live before the step of an event
--   came_one                   one event more
--   ServedBy, goes_on, served_by       what is served so far, after one more round, and at the end
--   at_start                   before the first round
--   beside_start, beside_both  how the core stands beside the hub
--   CountsRounds, counts_start, counts_next   what is counted from round to round
--   none_live                  where nothing is kept, nothing is live
use Rattle.std.proofs.Common.{◌≡◌, ℕ, ◌+◌, ◌*◌, ◌<◌, ◌≤◌, Bool, true, false, ◌||◌, cond, [], ◌∷◌, length, refl, sym, ◌∙◌, ap, subst, arith, length-append}
use Rattle.std.specs.Prelude.{Option, Some, None, is_some}
use Rattle.std.specs.Option.{option_map}
use Rattle.std.specs.Ordering.{nat_cmp}
use Rattle.std.specs.FinSet as set
use Rattle.std.proofs.lemmas.Option.{same_Some}
use Rattle.cs_base.specs.declared.content.limits.TheConstants.{MAX_CONNECTION_BYTES}
use Rattle.cs_base.specs.declared.outside.hub.Event.{Event}
use Rattle.cs_base.specs.declared.outside.hub.Event.TheVariants.{Opened, Piece, Ended, Over}
use Rattle.cs_base.specs.outside.Hub.{Came, Talk, Listening, IsOrderly, Happens, hears, listens}
use Rattle.cs_model.specs.Corpus.{Corpus}
use Rattle.cs_model_serving.specs.Connections.{Left}
use Rattle.cs_hub.specs.Streams.{RoseBy}
use Rattle.cs_hub.specs.HubFollowing.{Lefts, left_at, HasLive, HasLiveBut, Follows, AreServed}
use Rattle.cs_hub.specs.declared.rounds.Round.TheVariants.{Goes}
use Rattle.cs_hub.specs.Rounds.{KeepsCame, StaysBeside, StaysServed, Went, came_by, still, weight}
use Rattle.cs_hub.proofs.SpeakLemmas.{breaks_both, breaks_none, itself, in_after, rose_both, rose_none}
use Rattle.cs_hub.proofs.ActLemmas.{gone_at}
use Rattle.cs_hub.proofs.FollowLemmas.{starts}

not_live : (b : Bool) → (b ≡ true → ⊥) → b ≡ false
not_live true h = absurd (h refl)
not_live false h = refl

nothing : (o : Option Left) → is_some o ≡ false → o ≡ None
nothing None h = refl
nothing (Some l) h = absurd cc

-- before its step the core's connections are the live ones but for the event's own
pub before_step : (core : Lefts) (s s' : Listening) (talk : Option Talk) (room : ℕ) (e : Event) → HasLive core s → IsOrderly s talk → Happens s room e s'
    → HasLiveBut core s' e
before_step core s s' talk room (Opened c) h o p =
    let closed : set.contains s.live c ≡ false = not_live (set.contains s.live c) (λ live. absurd (omega (arith, o.live c live, p.1))) in
    subst (λ x. HasLiveBut core x (Opened c)) (sym p.3) (
      in_after s.live c c ∙ ap (λ b. b || set.contains s.live c) (itself c),
      nothing (left_at core c) (h c ∙ closed),
      λ d other. h d ∙ sym (in_after s.live c d ∙ ap (λ b. b || set.contains s.live d) other),
    )
before_step core s s' talk room (Piece c n) h o p = subst (λ x. HasLiveBut core x (Piece c n)) (sym p.4) (p.1, h)
before_step core s s' talk room (Ended c) h o p = subst (λ x. HasLiveBut core x (Ended c)) (sym p.2) (
  gone_at s.live c c ∙ ap (λ b. cond b false (set.contains s.live c)) (itself c),
  h c ∙ p.1,
  λ d other. h d ∙ sym (gone_at s.live c d ∙ ap (λ b. cond b false (set.contains s.live d)) other),
)
before_step core s s' talk room Over h o p = subst (λ x. HasLiveBut core x Over) (sym p) h

-- ---- events
came_as : (talk talk' : Option Talk) → KeepsCame talk talk' → came_by talk' ≡ came_by talk
came_as None None h = refl
came_as None (Some u) h = absurd cc
came_as (Some t) None h = absurd cc
came_as (Some t) (Some u) h = ap length (same_Some u.came t.came h)

came_after : (e : Came) (talk talk' : Option Talk) → talk' ≡ option_map (hears e) talk → came_by talk' ≤ came_by talk + 1
came_after e None talk' h = omega (arith, ap came_by h)
came_after e (Some t) talk' h = omega (arith, ap came_by h, length-append t.came (e ∷ []))

pub came_one : (e : Came) (talk mid talk' : Option Talk) → mid ≡ option_map (hears e) talk → KeepsCame mid talk' → came_by talk' ≤ came_by talk + 1
came_one e talk mid talk' h k = let a = came_after e talk mid h in let b = came_as mid talk' k in omega (arith, a, b)

-- ---- what is served
-- so far, with what the core keeps
pub record ServedBy (k : Corpus) (core : Lefts) (s : Listening) (talk : Option Talk) (before now : ℕ) : Type 0 where
  pub failed : ℕ
  pub follows : Follows k core s talk failed
  pub rose : RoseBy failed before now

pub goes_on : (k : Corpus) (core core' : Lefts) (s s' : Listening) (talk talk' : Option Talk) (m n o : ℕ) → ServedBy k core s talk m n
    → StaysServed k core core' s s' talk talk' n o → ServedBy k core' s' talk' m o
goes_on k core core' s s' talk talk' m n o h f =
    let x = f h.failed h.follows in
    record { failed = h.failed + x.0; follows = x.1; rose = rose_both h.failed x.0 m n o h.rose x.2 }

pub served_by : (k : Corpus) (core : Lefts) (s : Listening) (talk : Option Talk) (m n : ℕ) → ServedBy k core s talk m n → AreServed k s talk m n
served_by k core s talk m n h = record { core = core; failed = h.failed; follows = h.follows; rose = h.rose }

-- ---- the end
pub none_live : (core : Lefts) (s : Listening) → HasLive core s → ((d : ℕ) → left_at core d ≡ None) → (d : ℕ) → set.contains s.live d ≡ false
none_live core s h none = λ d. sym (h d) ∙ ap is_some (none d)

-- ---- the start
pub at_start : (k : Corpus) (core : Lefts) (s : Listening) (talk : Option Talk) (port conns m : ℕ) → core ≡ [] → s ≡ listens port conns → IsOrderly s talk
    → ServedBy k core s talk m m
at_start k core s talk port conns m none e o =
    subst (λ x. ServedBy k x s talk m m) (sym none) (record { failed = 0; follows = starts k s talk port conns e o; rose = rose_none m m (omega arith) })

start_live : (core : Lefts) (s : Listening) (port conns : ℕ) → core ≡ [] → s ≡ listens port conns → HasLive core s
start_live core s port conns none e =
    subst (λ x. HasLive x s) (sym none) (λ d. sym (ap (λ (y : Listening). set.contains y.live d) e ∙ set.contains-empty nat_cmp d))

start_still : (core : Lefts) (conns : ℕ) → core ≡ [] → still conns 0 core ≡ conns * (MAX_CONNECTION_BYTES + 2)
start_still core conns none = let w = ap weight none in omega (arith, w)

-- less is left to come, by the numbers that the loop keeps
less_left : (conns opened count room was : ℕ) (core core' : Lefts) → room ≡ conns → was ≡ opened → still room count core' < still room was core
    → still conns count core' < still conns opened core
less_left conns opened count room was core core' e f h =
    subst (λ i. still i count core' < still i opened core) e (subst (λ i. still room count core' < still room i core) f h)

-- ---- the core beside the hub
module _ {H : Type 0} {stands : H → Listening} {tells : H → Option Talk} where
  pub beside_start : {send_fails : H → ℕ} {conns : ℕ} (core : Lefts) (port : ℕ) (x : H) → core ≡ [] → stands x ≡ listens port conns
      → IsOrderly (stands x) (tells x) → StaysBeside stands tells send_fails conns core x x
  beside_start {send_fails} {conns} core port x none is orderly = record {
    live = start_live core (stands x) port conns none is;
    orderly = orderly;
    port = refl;
    room = ap (λ (y : Listening). y.conns) is;
    breaks = breaks_none (send_fails x) (tells x);
  }

  pub beside_both : {send_fails : H → ℕ} {conns : ℕ} {core core' : Lefts} {x y z : H} → StaysBeside stands tells send_fails conns core x y
      → StaysBeside stands tells send_fails conns core' y z → StaysBeside stands tells send_fails conns core' x z
  beside_both {send_fails} {x = x} {y = y} {z = z} h k = record {
    live = k.live;
    orderly = k.orderly;
    port = k.port ∙ h.port;
    room = k.room;
    breaks = breaks_both (send_fails x) (send_fails y) (send_fails z) (tells x) (tells y) (tells z) h.breaks k.breaks;
  }

-- ---- rounds so far
-- so many connections were opened, no more than there is room for; neither Over nor a failure came, and there were so few events
pub record CountsRounds {H : Type 0} (stands : H → Listening) (tells : H → Option Talk) (fails : H → ℕ) (conns count : ℕ) (core : Lefts)
    (old now : H) : Type 0 where
  pub opened : (stands now).opened ≡ count
  pub most : count ≤ conns
  pub going : (stands now).over ≡ false
  pub quiet : fails now ≡ fails old
  pub events : came_by (tells now) + still conns count core ≤ came_by (tells old) + conns * (MAX_CONNECTION_BYTES + 2)

module _ {H : Type 0} {stands : H → Listening} {tells : H → Option Talk} {fails : H → ℕ} {conns : ℕ} where
  pub counts_start : (core : Lefts) (port : ℕ) (x : H) → core ≡ [] → stands x ≡ listens port conns → CountsRounds stands tells fails conns 0 core x x
  counts_start core port x none is = record {
    opened = ap (λ (y : Listening). y.opened) is;
    most = omega arith;
    going = ap (λ (y : Listening). y.over) is;
    quiet = refl;
    events = let z = start_still core conns none in omega (arith, z);
  }

  pub counts_next : {opened n : ℕ} {core core' : Lefts} {x : H} (y z : H) → CountsRounds stands tells fails conns opened core x y → (stands y).conns ≡ conns
      → Went (Goes n) (stands y) (stands z) (tells y) (tells z) (fails y) (fails z) core core' → CountsRounds stands tells fails conns n core' x z
  counts_next {opened} {n} {core} {core'} y z h room went = record {
    opened = went.0;
    most = omega (arith, went.3, room);
    going = went.4 ∙ h.going;
    quiet = went.1 ∙ h.quiet;
    events = let less = less_left conns opened n (stands y).conns (stands y).opened core core' room h.opened went.2 in
        omega (arith, less, went.5, h.events);
  }
