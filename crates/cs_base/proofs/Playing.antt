-- What a hub that plays a script keeps: the event that comes may come, what came is of opened connections, and it is in order.
use Rattle.std.proofs.Common.{◌≡◌, ◌≢◌, ℕ, zero, suc, ◌+◌, ◌-◌, ◌<◌, ◌≤◌, Bool, true, false, not, ◌&&◌, List, [], ◌∷◌, ◌++◌, length, take, drop, refl, sym, ◌∙◌, ap, subst, cond, arith}
use Rattle.std.specs.Prelude.{Some, All, nat_lt, Result, Ok, Err, OnOk, OnErr}
use Rattle.std.specs.Result.{is_err}
use Rattle.std.specs.List.{position_or_len}
use Rattle.std.specs.FinSet as set
use Rattle.std.proofs.lemmas.Bool.Decides.{nat_tests}
use Rattle.std.proofs.lemmas.List.{map-append}
use Rattle.std.proofs.Math.Seq.{take-append_seam}
use Rattle.std.proofs.lemmas.List.Elements.{All-append, All-map}
use Rattle.cs_base.specs.outside.Hub.{Listening, Talk, IsOrderly, IsNotOf, Happens, came_of, sent_on}
use Rattle.cs_base.specs.outside.ScriptedHub.{ScriptState, is_lawful, playable, comes, left_behind, becomes, played}
use Rattle.cs_base.specs.outside.ScriptParts.{Connected, connected_of, behind_event, IsKept, HeadIs, came_as, came_in, is_over}
use Rattle.cs_base.specs.declared.outside.hub.Event.{Event}
use Rattle.cs_base.specs.declared.outside.hub.Event.TheVariants.{Opened, Piece, Ended, Over}
use Rattle.cs_base.specs.declared.outside.connections.Connection.{Connection}
use Rattle.cs_base.specs.declared.outside.script.Scripted.{Scripted}
use Rattle.cs_base.specs.declared.outside.script.Scripted.TheVariants.{Opened as Opens, Piece as Gives, Ended as Ends}
use Rattle.cs_base.specs.declared.outside.script_hub.Heard.{Heard}
use Rattle.cs_base.proofs.Connected.{isnt_live, isnt_broken, nothing_sent}
use Rattle.cs_base.proofs.Scripts.{left_out}

-- what was pushed and popped again is as it was
pub popped : (came pushed now : List Heard) (h : Heard) (n m : ℕ) → pushed ≡ came ++ h ∷ [] → now ≡ take (m - 1) pushed → m ≡ n + 1 → n ≡ length came → now ≡ came
popped came pushed now h n m is rest more len =
    rest ∙ ap (λ xs. take (m - 1) xs) is ∙ ap (λ k. take k (came ++ h ∷ [])) (omega (arith, more, len)) ∙ take-append_seam came (h ∷ [])

-- what an Err says
pub on_err : {T E P : Type 0} (r : Result T E) → is_err r ≡ true → OnErr r P → P
on_err (Ok x) h p = cc
on_err (Err e) h p = p

-- what an Ok says
pub on_ok : {T E P : Type 0} (r : Result T E) → false ≡ is_err r → OnOk r P → P
on_ok (Ok x) h p = p
on_ok (Err e) h p = cc

-- ---- the event that comes

-- what is left of a script begins with a lawful event
pub lawful_head : (p : Scripted → Bool) (es : List Scripted) → HeadIs (λ e. p e ≡ true) (drop (position_or_len p es) es)
lawful_head p [] = tt
lawful_head p (e ∷ es) =
    elim (p e) as (λ b. p e ≡ b → HeadIs (λ e. p e ≡ true) (drop (position_or_len p (e ∷ es)) (e ∷ es))) [
      | true ↦ λ is. subst (HeadIs (λ e. p e ≡ true)) (ap (λ b. drop (cond (not b) (1 + position_or_len p es) 0) (e ∷ es)) (sym is)) is
      | false ↦ λ is. subst (HeadIs (λ e. p e ≡ true)) (sym (left_out p e es (sym is))) (lawful_head p es)
    ] refl

not_over : (s : Listening) (e : Scripted) (es : List Scripted) → (s.over ≡ true → e ∷ es ≡ []) → s.over ≡ false
not_over s e es h = elim s.over as (λ b. s.over ≡ b → b ≡ false) [ true ↦ λ is. cc (h is) | false ↦ λ _. refl ] refl

both_true : (a b : Bool) → (a && b) ≡ true → (a ≡ true) × (b ≡ true)
both_true true b h = (refl, h)
both_true false b h = cc

-- a lawful event happens
pub happens : (s : Listening) (room : ℕ) (es : List Scripted) → 0 < room → (s.over ≡ true → es ≡ []) → HeadIs (λ e. is_lawful s e ≡ true) es
    → Happens s room (comes s room es).event (becomes (comes s room es).event s)
happens s room [] r o h = refl
happens s room (Opens ∷ es) r o h = (not_over s Opens es o, refl, grind (arith, nat_tests), refl)
happens s room (Gives c bytes ∷ es) r o h =
    let lawful = both_true (nat_lt 0 (length bytes)) (set.contains s.live c) h in
    let some : 0 < length bytes = grind (arith, nat_tests, lawful.0) in
    (not_over s (Gives c bytes) es o, lawful.1, omega arith, omega arith, refl)
happens s room (Ends c ∷ es) r o h = (not_over s (Ends c) es o, h, refl)

-- where an event opens a connection, it is the next one
opens_next : (s : Listening) (room c : ℕ) (es : List Scripted) → Opened c ≡ (comes s room es).event → c ≡ s.opened
opens_next s room c [] e = cc
opens_next s room c (Opens ∷ es) e = cc
opens_next s room c (Gives d bytes ∷ es) e = cc
opens_next s room c (Ends d ∷ es) e = cc

pub event_of : (e : Event) (buffer : List ℕ) → (came_of e buffer).event ≡ e
event_of (Opened c) buffer = refl
event_of (Piece c n) buffer = refl
event_of (Ended c) buffer = refl
event_of Over buffer = refl

-- ---- what is kept

pub opened_live : (xs : List Connection) (c : ℕ) → set.contains (connected_of xs).live c ≡ true → c < length xs
opened_live xs c is =
    elim (nat_lt c (length xs)) as (λ b. nat_lt c (length xs) ≡ b → c < length xs) [
      | true ↦ λ h. grind (arith, nat_tests)
      | false ↦ λ h. let past : length xs ≤ c = grind (arith, nat_tests) in let no = isnt_live xs c past in cc
    ] refl

-- a live connection isn't one that wasn't opened
apart : (xs : List Connection) (c d : ℕ) → set.contains (connected_of xs).live d ≡ true → length xs ≤ c → d ≢ c
apart xs c d is past same = absurd (omega (arith, opened_live xs d is, same))

abbrev pub hub_in : ℕ → ℕ → Bool → Connected → Listening
hub_in port conns over x = record { port = port; conns = conns; opened = x.opened; live = x.live; over = over }

abbrev pub state_of : ℕ → ℕ → Bool → Connected → List Heard → List Scripted → List ℕ → List ℕ → ℕ → ℕ → ScriptState
state_of port conns over x came left nexts sends f sf = record {
  hub = hub_in port conns over x;
  talk = record { came = came_in came; sent = x.sent; broken = x.broken };
  left = left;
  next_calls = nexts;
  send_calls = sends;
  faults = f;
  send_faults = sf;
}

one : {X : Type 0} (P : X → Type 0) (x : X) → P x → All P (x ∷ [])
one P x p zero d lt = p
one P x p (suc k) d lt = absurd (omega (arith, lt))

-- where nothing came and all isn't over
pub nothing_kept : (left : List Scripted) (opened : ℕ) (came : List Heard) → came ≡ [] → IsKept false left opened came
nothing_kept left opened came is = subst (IsKept false left opened) (sym is) (record { done = λ full. cc; fresh = λ c past k d lt. absurd (omega (arith, lt)) })

none_playable : (s : Listening) (left : List Scripted) → left ≡ [] → playable s left ≡ []
none_playable s left e = ap (playable s) e

same_sent : (e : Event) (x : Connected) → (behind_event e x).sent ≡ x.sent
same_sent (Opened c) x = refl
same_sent (Piece c n) x = refl
same_sent (Ended c) x = refl
same_sent Over x = refl

same_broken : (e : Event) (x : Connected) → (behind_event e x).broken ≡ x.broken
same_broken (Opened c) x = refl
same_broken (Piece c n) x = refl
same_broken (Ended c) x = refl
same_broken Over x = refl

module _ (port conns room : ℕ) (over : Bool) (xs : List Connection) where
  abbrev hub : Listening
  hub = hub_in port conns over (connected_of xs)

  seen_at : (es : List Scripted) → (over ≡ true → es ≡ [])
      → hub_in port conns (is_over (comes hub room es).event) (behind_event (comes hub room es).event (connected_of xs)) ≡ becomes (comes hub room es).event hub
  seen_at [] done = refl
  seen_at (Opens ∷ es) done = ap (λ o. becomes (Opened (length xs)) (hub_in port conns o (connected_of xs))) (sym (not_over hub Opens es done))
  seen_at (Gives c bytes ∷ es) done = ap (λ o. hub_in port conns o (connected_of xs)) (sym (not_over hub (Gives c bytes) es done))
  seen_at (Ends c ∷ es) done = ap (λ o. becomes (Ended c) (hub_in port conns o (connected_of xs))) (sym (not_over hub (Ends c) es done))

  -- what every hub tells behind an event that comes
  pub seen : (es : List Scripted) (e : Event) (x : Connected) → e ≡ (comes hub room es).event → (over ≡ true → es ≡ []) → x ≡ behind_event e (connected_of xs)
      → hub_in port conns (is_over e) x ≡ becomes (comes hub room es).event hub
  seen es e x so done is =
      ap (hub_in port conns (is_over e)) is ∙ subst (λ v. hub_in port conns (is_over v) (behind_event v (connected_of xs)) ≡ becomes (comes hub room es).event hub) (sym so) (seen_at es done)

  none_at : (es : List Scripted) → is_over (comes hub room es).event ≡ true → left_behind room es ≡ []
  none_at [] h = refl
  none_at (Opens ∷ es) h = cc
  none_at (Gives c bytes ∷ es) h = cc
  none_at (Ends c ∷ es) h = cc

  not_of_at : (es : List Scripted) → HeadIs (λ e. is_lawful hub e ≡ true) es → (c : ℕ) → (behind_event (comes hub room es).event (connected_of xs)).opened ≤ c → IsNotOf c (comes hub room es).event
  not_of_at [] h c past = tt
  not_of_at (Opens ∷ es) h c past = λ same. absurd (omega (arith, past, same))
  not_of_at (Gives d bytes ∷ es) h c past = apart xs c d (both_true (nat_lt 0 (length bytes)) (set.contains (connected_of xs).live d) h).1 past
  not_of_at (Ends d ∷ es) h c past = apart xs c d h past

  opens_more : (e : Event) → length xs ≤ (behind_event e (connected_of xs)).opened
  opens_more (Opened c) = omega arith
  opens_more (Piece c n) = omega arith
  opens_more (Ended c) = omega arith
  opens_more Over = omega arith

  kept_at : (es left : List Scripted) (e : Event) (came : List Heard) (h : Heard) → IsKept over left (length xs) came → HeadIs (λ e. is_lawful hub e ≡ true) es
      → e ≡ (comes hub room es).event → h.event ≡ e → IsKept (is_over e) (left_behind room es) (behind_event e (connected_of xs)).opened (came ++ h ∷ [])
  kept_at es left e came h was lawful so noted = record {
    done = λ at_end. none_at es (ap is_over (sym so) ∙ at_end);
    fresh = λ c past.
        All-append (λ (g : Heard). IsNotOf c g.event) came (h ∷ []) (was.fresh c (omega (arith, opens_more e, past)))
        (one (λ (g : Heard). IsNotOf c g.event) h (subst (IsNotOf c) (sym (noted ∙ so)) (not_of_at es lawful c (subst (λ v. (behind_event v (connected_of xs)).opened ≤ c) so past))));
  }

  -- what is kept behind an event that comes
  pub kept : (left left' : List Scripted) (e : Event) (x : Connected) (came came' : List Heard) (h : Heard) (over' : Bool) → IsKept over left (length xs) came
      → e ≡ (comes hub room (playable hub left)).event → x ≡ behind_event e (connected_of xs) → left' ≡ left_behind room (playable hub left) → h.event ≡ e → came' ≡ came ++ h ∷ [] → over' ≡ is_over e
      → IsKept over' left' x.opened came'
  kept left left' e x came came' h over' was so changed is noted pushed at_end =
      subst (λ o. IsKept o left' x.opened came') (sym at_end) (
      subst (λ l. IsKept (is_over e) l x.opened came') (sym is) (
      subst (λ y. IsKept (is_over e) (left_behind room (playable hub left)) y.opened came') (sym changed) (
      subst (λ hs. IsKept (is_over e) (left_behind room (playable hub left)) (behind_event e (connected_of xs)).opened hs) (sym pushed)
      (kept_at (playable hub left) left e came h was (lawful_head (is_lawful hub) left) so noted))))

  -- such a hub behind an event that comes
  pub played_so : (left left' : List Scripted) (e : Event) (x : Connected) (came came' : List Heard) (h : Heard) (over' : Bool) (buffer nexts sends : List ℕ) (f sf : ℕ) → IsKept over left (length xs) came
      → came_of e buffer ≡ comes hub room (playable hub left) → x ≡ behind_event e (connected_of xs) → left' ≡ left_behind room (playable hub left) → came_as h ≡ came_of e buffer → came' ≡ came ++ h ∷ [] → over' ≡ is_over e
      → state_of port conns over' x came' left' nexts sends f sf ≡ played room (state_of port conns over (connected_of xs) came left nexts sends f sf)
  played_so left left' e x came came' h over' buffer nexts sends f sf was so changed is noted pushed at_end =
      let event : e ≡ (comes hub room (playable hub left)).event = sym (event_of e buffer) ∙ ap (λ v. v.event) so in
      let hubs : hub_in port conns over' x ≡ becomes (comes hub room (playable hub left)).event hub =
      ap (λ o. hub_in port conns o x) at_end ∙ seen (playable hub left) e x event (λ full. none_playable hub left (was.done full)) changed in
      let told : came_in came' ≡ came_in came ++ comes hub room (playable hub left) ∷ [] = ap came_in pushed ∙ map-append came_as came (h ∷ []) ∙ ap (λ v. came_in came ++ v ∷ []) (noted ∙ so) in
      let sent : x.sent ≡ (connected_of xs).sent = ap (λ y. y.sent) changed ∙ same_sent e (connected_of xs) in
      let broken : x.broken ≡ (connected_of xs).broken = ap (λ y. y.broken) changed ∙ same_broken e (connected_of xs) in
      λ i. record {
        hub = hubs i;
        talk = record { came = told i; sent = sent i; broken = broken i };
        left = is i;
        next_calls = nexts;
        send_calls = sends;
        faults = f;
        send_faults = sf;
      }

  -- an event that comes happens
  pub came_happens : (left : List Scripted) (e : Event) (x : Connected) (came : List Heard) (over' : Bool) → 0 < room → IsKept over left (length xs) came
      → e ≡ (comes hub room (playable hub left)).event → x ≡ behind_event e (connected_of xs) → over' ≡ is_over e → Happens hub room e (hub_in port conns over' x)
  came_happens left e x came over' some was so changed at_end =
      let done : over ≡ true → playable hub left ≡ [] = λ full. none_playable hub left (was.done full) in
      subst (λ t. Happens hub room e t) (sym (ap (λ o. hub_in port conns o x) at_end ∙ seen (playable hub left) e x so done changed))
      (subst (λ v. Happens hub room v (becomes (comes hub room (playable hub left)).event hub)) (sym so) (happens hub room (playable hub left) some done (lawful_head (is_lawful hub) left)))

-- ---- in order

some_is : (t u : Talk) → Some t ≡ Some u → t ≡ u
some_is t u e = cc

abbrev IsFresh : ℕ → Talk → Type 0
IsFresh opened t = (c : ℕ) → opened ≤ c → All (λ e. IsNotOf c e.event) t.came × (sent_on t c ≡ []) × (set.contains t.broken c ≡ false)

abbrev pub IsInOrder : ScriptState → Type 0
IsInOrder s = IsOrderly s.hub (Some s.talk)

-- such a hub is in order
pub orderly : (port conns : ℕ) (over : Bool) (xs : List Connection) (left : List Scripted) (came : List Heard) → IsKept over left (length xs) came
    → IsOrderly (hub_in port conns over (connected_of xs)) (Some (record { came = came_in came; sent = (connected_of xs).sent; broken = (connected_of xs).broken }))
orderly port conns over xs left came kept = record {
  live = λ c is. opened_live xs c is;
  fresh = λ t e. subst (IsFresh (length xs)) (some_is (record { came = came_in came; sent = (connected_of xs).sent; broken = (connected_of xs).broken }) t e)
      (λ c past. (All-map (λ e. IsNotOf c e.event) came_as came (kept.fresh c past), sym (nothing_sent xs c past), isnt_broken xs c past));
}
