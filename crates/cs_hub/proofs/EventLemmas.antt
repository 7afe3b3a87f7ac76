-- After each event the core follows the hub.
--
--   bytes_that_came-push, ended_on-push      what came on one connection, with one event more
--   sum_at, sum_new                   sums over connections, of which one has another value
--   piece_stays, opened_stays, ended_stays, over_stays      the core follows the hub after each event
--   silent_before     what came on a connection that wasn't opened
--   at_event                          it does where the event is known to be this one
--   others_by, piece_others, opened_others, ended_others    the others stay as they are
--   came_spoke, piece_came, opened_came     no event came
use Rattle.std.proofs.Common.{◌≡◌, inl, inr, ℕ, suc, ◌+◌, ◌<◌, ◌≤◌, ◌==◌, Bool, true, false, ◌||◌, cond, List, [], ◌∷◌, ◌++◌, take, refl, sym, ◌∙◌, ap}
use Rattle.std.proofs.Common.{subst, arith, append_assoc, append-nil}
use Prim.Native.Nat.{zero}
use Rattle.std.specs.Prelude.{Option, Some, None, is_some, All, ◌≢◌, slice_set}
use Rattle.std.specs.Option.{ForSome, option_map}
use Rattle.std.specs.FinSet as set
use Rattle.std.proofs.lemmas.Option.{same_Some}
use Rattle.std.proofs.lemmas.List.Elements.{All-head, All-tail}
use Rattle.std.proofs.lemmas.Bool.Decides.{nat_tests, Decides-eqb}
use Rattle.std.proofs.Math.Seq.{take-length}
use Rattle.cs_base.specs.declared.outside.hub.Event.{Event}
use Rattle.cs_base.specs.declared.outside.hub.Event.TheVariants.{Opened, Piece, Ended, Over}
use Rattle.cs_base.specs.outside.Hub.{Came, Talk, Listening, IsOrderly, IsNotOf, sent_on, came_of, hears}
use Rattle.cs_model.specs.Corpus.{Corpus}
use Rattle.cs_model_serving.specs.Responses.{Response, memory_bytes}
use Rattle.cs_model_serving.specs.Connections.{Left, StandsLive, reads, changes}
use Rattle.cs_model_serving.proofs.CountLemmas.{reads-append, changes-append}
use Rattle.cs_hub.specs.Streams.{bytes_at, bytes_that_came, ended_at, ended_on, sum_below}
use Rattle.cs_hub.specs.HubFollowing.{Lefts, left_at, HasLive, HasLiveBut, IsWhole, IsRight, AreRight, StaysRight, IsOther, LeavesOthers}
use Rattle.cs_hub.specs.Rounds.{Acted, Greets, Heeds, KeepsCame}
use Rattle.cs_hub.specs.Speaking.{Did, Spoke, SaidOn}
use Rattle.cs_hub.proofs.SpeakLemmas.{itself, by_conn, same_conn, spoke_nothing, rose_none}
use Rattle.cs_hub.proofs.ActLemmas.{acted_live, ended_acted}
use Rattle.cs_hub.proofs.RightLemmas.{Advances, after_piece, right_as, fresh_right, refused_right, cut_right, let_go, or_true, or_false}

-- ---- what came on one connection, with one event more
pub bytes_that_came-push : (c : ℕ) (es : List Came) (e : Came) → bytes_that_came c (es ++ e ∷ []) ≡ bytes_that_came c es ++ bytes_at c e.event e.bytes
bytes_that_came-push c [] e = append-nil (bytes_at c e.event e.bytes)
bytes_that_came-push c (x ∷ es) e = ap (λ l. bytes_at c x.event x.bytes ++ l) (bytes_that_came-push c es e)
    ∙ sym (append_assoc (bytes_at c x.event x.bytes) (bytes_that_came c es) (bytes_at c e.event e.bytes))

or_assoc : (a b c : Bool) → (a || (b || c)) ≡ ((a || b) || c)
or_assoc true b c = refl
or_assoc false b c = refl

pub ended_on-push : (c : ℕ) (es : List Came) (e : Came) → ended_on c (es ++ e ∷ []) ≡ (ended_on c es || ended_at c e.event)
ended_on-push c [] e = or_false (ended_at c e.event)
ended_on-push c (x ∷ es) e = ap (λ b. ended_at c x.event || b) (ended_on-push c es e) ∙ or_assoc (ended_at c x.event) (ended_on c es) (ended_at c e.event)

-- ---- sums over connections
sum_same : (n c : ℕ) (f g : ℕ → ℕ) → ((d : ℕ) → (d == c) ≡ false → g d ≡ f d) → n ≤ c → sum_below n g ≡ sum_below n f
sum_same zero c f g same h = refl
sum_same (suc n) c f g same h =
    let s = sum_same n c f g same (omega (arith, h)) in
    let e = same n (let b : (n == c) ≡ false = grind (arith, nat_tests) in b) in
    omega (arith, s, e)

-- one of them has at most so much more
pub sum_at : (n c r : ℕ) (f g : ℕ → ℕ) → ((d : ℕ) → (d == c) ≡ false → g d ≡ f d) → g c ≤ f c + r → sum_below n g ≤ sum_below n f + r
sum_at zero c r f g same h = omega arith
sum_at (suc n) c r f g same h =
    elim (n == c) as (λ b. (n == c) ≡ b → sum_below n g + g n ≤ (sum_below n f + f n) + r) [
      | true ↦ λ e. let is = same_conn n c e in let s = sum_same n c f g same (omega (arith, is)) in let x : g n ≤ f n + r =
          subst (λ i. g i ≤ f i + r) (sym is) h in omega (arith, s, x)
      | false ↦ λ e. let s = sum_at n c r f g same h in let x = same n e in omega (arith, s, x)
    ] refl

-- one more connection, which has none
pub sum_new : (n m c : ℕ) (f g : ℕ → ℕ) → ((d : ℕ) → (d == c) ≡ false → g d ≡ f d) → g c ≡ 0 → c ≡ n → m ≡ n + 1 → sum_below m g ≤ sum_below n f
sum_new n m c f g same none is next =
    let s = sum_same n c f g same (omega (arith, is)) in
    let x : g n ≡ 0 = subst (λ i. g i ≡ 0) is none in
    let e : sum_below m g ≡ sum_below n g + g n = ap (λ i. sum_below i g) (let y : m ≡ suc n = omega (arith, next) in y) in
    omega (arith, s, x, e)

-- ---- talks that may not be told
lift : (P : Talk → Type 0) (c : ℕ) (more : List ℕ) (fails : Bool) (e : Came) (talk0 talk talk' : Option Talk) → talk ≡ option_map (hears e) talk0
    → Spoke c more fails talk talk' → ((t u : Talk) → talk0 ≡ Some t → Did c more fails (hears e t) u → P u) → ForSome talk' P
lift P c more fails e None None None is s f = λ u at. absurd cc
lift P c more fails e None None (Some v) is s f = absurd s
lift P c more fails e None (Some t) talk' is s f = absurd cc
lift P c more fails e (Some t0) None talk' is s f = absurd cc
lift P c more fails e (Some t0) (Some t) None is s f = absurd s
lift P c more fails e (Some t0) (Some t) (Some v) is s f =
    λ u at. subst P (same_Some v u at) (f t0 v refl (subst (λ x. Did c more fails x v) (same_Some t (hears e t0) is) s))

-- the responses by connection, where those of one are others
abbrev pub with_own : ℕ → List Response → (ℕ → List Response) → ℕ → List Response
with_own c own sent d = cond (d == c) own (sent d)

own_at : (c : ℕ) (own : List Response) (sent : ℕ → List Response) → with_own c own sent c ≡ own
own_at c own sent = ap (λ b. cond b own (sent c)) (itself c)

other_at : (c d : ℕ) (own : List Response) (sent : ℕ → List Response) → (d == c) ≡ false → with_own c own sent d ≡ sent d
other_at c d own sent h = ap (λ b. cond b own (sent d)) h

-- the event is of connection c alone, and opens no other
pub record IsOf (c : ℕ) (e : Came) (s0 s : Listening) : Type 0 where
  pub silent : (d : ℕ) → (d == c) ≡ false → (bytes_at d e.event e.bytes ≡ []) × (ended_at d e.event ≡ false)
  pub opened : (d : ℕ) → d < s.opened → (d == c) ≡ false → d < s0.opened
  pub over : s.over ≡ s0.over

-- how a connection stands by what a hub tells
abbrev pub RightAt : Corpus → Lefts → Listening → Talk → (ℕ → List Response) → ℕ → Type 0
RightAt k core s t sent d = IsRight k (bytes_that_came d t.came) (sent_on t d) (set.contains t.broken d) (ended_on d t.came || s.over) (left_at core d) (sent d)

module _ (k : Corpus) (core core' : Lefts) (c : ℕ) (x : Option Left) (s0 s s' : Listening) (t0 u : Talk) (e : Came) (more : List ℕ) (fails : Bool)
    (sent : ℕ → List Response) (own : List Response)
    (acted : Acted core core' c x s s') (did : Did c more fails (hears e t0) u) (own_event : IsOf c e s0 s)
    (before : (d : ℕ) → d < s0.opened → RightAt k core s0 t0 sent d)
    (here : c < s.opened → IsRight k (bytes_that_came c t0.came ++ bytes_at c e.event e.bytes) (sent_on t0 c ++ more) (fails || set.contains t0.broken c)
    ((ended_on c t0.came || ended_at c e.event) || s.over) x own) where
  over_is : s'.over ≡ s.over
  over_is = ap (λ (y : Listening). y.over) acted.same

  opened_is : s'.opened ≡ s.opened
  opened_is = ap (λ (y : Listening). y.opened) acted.same

  at_own : c < s.opened → RightAt k core' s' u (with_own c own sent) c
  at_own less =
      subst (λ l. IsRight k (bytes_that_came c u.came) (sent_on u c) (set.contains u.broken c) (ended_on c u.came || s'.over) (left_at core' c) l)
      (sym (own_at c own sent))
      (right_as k _ (bytes_that_came c u.came) _ (sent_on u c) _ (set.contains u.broken c) _ (ended_on c u.came || s'.over) x (left_at core' c) own
      (ap (bytes_that_came c) did.came ∙ bytes_that_came-push c t0.came e) did.own did.whole
      (ap (λ l. ended_on c l || s'.over) did.came ∙ ap (λ b. b || s'.over) (ended_on-push c t0.came e)
      ∙ ap (λ b. (ended_on c t0.came || ended_at c e.event) || b) over_is)
      (acted.sets c ∙ ap (λ b. cond b x (left_at core c)) (itself c)) (here less))

  at_other : (d : ℕ) → (d == c) ≡ false → d < s.opened → RightAt k core' s' u (with_own c own sent) d
  at_other d other less =
      subst (λ l. IsRight k (bytes_that_came d u.came) (sent_on u d) (set.contains u.broken d) (ended_on d u.came || s'.over) (left_at core' d) l)
      (sym (other_at c d own sent other))
      (right_as k (bytes_that_came d t0.came) (bytes_that_came d u.came) (sent_on t0 d) (sent_on u d) (set.contains t0.broken d) (set.contains u.broken d)
      (ended_on d t0.came || s0.over) (ended_on d u.came || s'.over) (left_at core d) (left_at core' d) (sent d)
      (ap (bytes_that_came d) did.came ∙ bytes_that_came-push d t0.came e ∙ ap (λ l. bytes_that_came d t0.came ++ l) (own_event.silent d other).0
      ∙ append-nil (bytes_that_came d t0.came))
      (did.others d other).0 (did.others d other).1
      (ap (λ l. ended_on d l || s'.over) did.came ∙ ap (λ b. b || s'.over)
      (ended_on-push d t0.came e ∙ ap (λ b. ended_on d t0.came || b) (own_event.silent d other).1 ∙ or_false (ended_on d t0.came))
      ∙ ap (λ b. ended_on d t0.came || b) (over_is ∙ own_event.over))
      (acted.sets d ∙ ap (λ b. cond b x (left_at core d)) other) (before d (own_event.opened d less other)))

  pub all_right : (m : ℕ) → sum_below s.opened (λ d. reads (with_own c own sent d)) ≤ m → AreRight k core' s' u m
  all_right m few = record {
    sent = with_own c own sent;
    right = λ d less. by_conn (λ d. d < s.opened → RightAt k core' s' u (with_own c own sent) d) c d at_own (at_other d) (subst (λ n. d < n) opened_is less);
    few = subst (λ n. sum_below n (λ d. reads (with_own c own sent d)) ≤ m) (sym opened_is) few;
  }

-- ---- a piece
live_of : (k : Corpus) (b s : List ℕ) (broken ended : Bool) (x : Option Left) (l : Left) (sent : List Response) → x ≡ Some l → IsRight k b s broken ended x sent
    → StandsLive k b s broken l sent × (ended ≡ false)
live_of k b s broken ended x l sent e h = let y : IsRight k b s broken ended (Some l) sent = subst (λ z. IsRight k b s broken ended z sent) e h in
    (y.stands, y.cause)

-- the connection after it
piece_here : (k : Corpus) (b s piece : List ℕ) (broken ended : Bool) (x : Option Left) (old : Left) (kept : Option Left) (fails : Bool) (more : List ℕ)
    (sent later : List Response) → x ≡ Some old → IsRight k b s broken ended x sent → Advances k old piece kept fails more later → changes later ≡ 0
    → IsRight k (b ++ piece) (s ++ more) (fails || broken) ended kept (sent ++ later)
piece_here k b s piece broken ended x old kept fails more sent later e h advances none =
    let l = live_of k b s broken ended x old sent e h in
    let so = advances b s ended sent (subst (λ y. StandsLive k b s y old sent) l.0.whole l.0) l.1 in
    let is : IsRight k (b ++ piece) (s ++ more) fails ended kept (sent ++ later) = record {
      stands = so.0;
      unchanged = let a = changes-append sent later in omega (arith, a, h.unchanged, none);
      cause = so.1;
    } in
    subst (λ y. IsRight k (b ++ piece) (s ++ more) y ended kept (sent ++ later)) (sym (ap (λ y. fails || y) l.0.whole ∙ or_false fails)) is

pub piece_stays : (Told : Corpus → Type 0) (k : Corpus) → Told k
    → (core core' : Lefts) (c n : ℕ) (piece : List ℕ) (s s' : Listening) (m o : ℕ) (talk talk' : Option Talk) → HasLiveBut core s (Piece c n)
    → IsWhole (Piece c n) piece → Heeds Told core core' c piece s s' m o talk talk' → (IsOrderly s talk → IsOrderly s' talk')
    → StaysRight k core core' (Piece c n) piece s s' talk talk' m o
piece_stays Told k over core core' c n piece s s' m o talk talk' but whole d orderly = record {
  stays = λ s0 talk0 room i h e.
      let p = e.happens in
      let w = after_piece Told c d.old piece d.kept m o talk talk' d.received in
      let x = w.1.counted k over in
      let bytes : bytes_at c (Piece c n) (take n piece) ≡ piece =
      ap (λ b. cond b (take n piece) []) (itself c) ∙ ap (λ j. take j piece) (sym whole.0) ∙ take-length piece in (
        reads x.sent,
        record {
          live = acted_live core core' c d.kept s s' (λ q other. but.1 q) d.acted;
          orderly = orderly e.orderly;
          right = lift (λ u. AreRight k core' s' u (i + reads x.sent)) c w.1.more w.0 (came_of (Piece c n) piece) talk0 talk talk' e.came w.1.spoke
              (λ t0 u at did.
              let a = h.right t0 at in
              all_right k core core' c d.kept s0 s s' t0 u (came_of (Piece c n) piece) w.1.more w.0 a.sent (a.sent c ++ x.sent) d.acted did
              (record {
                silent = λ q other. (ap (λ b. cond b (take n piece) []) other, refl);
                opened = λ q less other. subst (λ (y : Listening). q < y.opened) p.4 less;
                over = ap (λ (y : Listening). y.over) p.4;
              })
              a.right
              (λ less.
              right_as k (bytes_that_came c t0.came ++ piece) _ (sent_on t0 c ++ w.1.more) (sent_on t0 c ++ w.1.more) (w.0 || set.contains t0.broken c)
              (w.0 || set.contains t0.broken c) (ended_on c t0.came || s0.over) _ d.kept d.kept (a.sent c ++ x.sent)
              (ap (λ l. bytes_that_came c t0.came ++ l) bytes) refl refl
              (ap (λ b. b || s.over) (or_false (ended_on c t0.came)) ∙ ap (λ (y : Listening). ended_on c t0.came || y.over) p.4) refl
              (piece_here k (bytes_that_came c t0.came) (sent_on t0 c) piece (set.contains t0.broken c) (ended_on c t0.came || s0.over) (left_at core c) d.old
              d.kept w.0 w.1.more (a.sent c) x.sent d.was (a.right c (subst (λ (y : Listening). c < y.opened) p.4 less)) x.meets x.unchanged))
              (i + reads x.sent)
              (let q = sum_at s.opened c (reads x.sent) (λ d. reads (a.sent d)) (λ d. reads (with_own c (a.sent c ++ x.sent) a.sent d))
              (λ d other. ap reads (other_at c d (a.sent c ++ x.sent) a.sent other))
              (let z = reads-append (a.sent c) x.sent in omega (arith, z, ap reads (own_at c (a.sent c ++ x.sent) a.sent))) in
              let f : sum_below s.opened (λ d. reads (a.sent d)) ≤ i =
              subst (λ (y : Listening). sum_below y.opened (λ d. reads (a.sent d)) ≤ i) (sym p.4) a.few in
              omega (arith, q, f)));
        },
        x.rose,
      );
}

-- ---- a connection that opens
unequal : (c d : ℕ) → d ≢ c → (c == d) ≡ false
unequal c d h = elim (c == d) as (λ b. (b ≡ true → c ≡ d) → b ≡ false) [ true ↦ λ f. absurd (h (sym (f refl))) | false ↦ λ f. refl ] (Decides-eqb c d).0

silent_one : (c : ℕ) (e : Event) (bytes : List ℕ) → IsNotOf c e → (bytes_at c e bytes ≡ []) × (ended_at c e ≡ false)
silent_one c (Opened d) bytes h = (refl, refl)
silent_one c (Piece d n) bytes h = (ap (λ b. cond b bytes []) (unequal c d h), refl)
silent_one c (Ended d) bytes h = (refl, unequal c d h)
silent_one c Over bytes h = (refl, refl)

pub silent_before : (c : ℕ) (es : List Came) → All (λ e. IsNotOf c e.event) es → (bytes_that_came c es ≡ []) × (ended_on c es ≡ false)
silent_before c [] h = (refl, refl)
silent_before c (e ∷ es) h =
    let one = silent_one c e.event e.bytes (All-head (λ (e : Came). IsNotOf c e.event) e es h) in
    let more = silent_before c es (All-tail (λ (e : Came). IsNotOf c e.event) e es h) in
    (ap (λ l. l ++ bytes_that_came c es) one.0 ∙ more.0, ap (λ b. b || ended_on c es) one.1 ∙ more.1)

below_next : (d c n m : ℕ) → m ≡ n + 1 → d < m → (d == c) ≡ false → c ≡ n → d < n
below_next d c n m e less other is = grind (arith, nat_tests)

-- what was sent on it, and how it stands
pub record Greeted (c : ℕ) (x : Option Left) (core core' : Lefts) (s s' : Listening) (talk talk' : Option Talk) : Type 0 where
  pub more : List ℕ
  pub fails : Bool
  pub spoke : Spoke c more fails talk talk'
  pub acted : Acted core core' c x s s'
  pub stands : (k : Corpus) → IsRight k [] more fails false x []

greeted_none : (core core' : Lefts) (c : ℕ) (s s' : Listening) (talk talk' : Option Talk) → Acted core core' c None s s' → (whole : Bool)
    → SaidOn c memory_bytes whole talk talk' → (x : Option Left) × Greeted c x core core' s s' talk talk'
greeted_none core core' c s s' talk talk' a true g =
    (None, record { more = memory_bytes; fails = false; spoke = g; acted = a; stands = λ k. refused_right k false })
greeted_none core core' c s s' talk talk' a false g =
    (None, record { more = take g.0 memory_bytes; fails = true; spoke = g.1; acted = a; stands = λ k. cut_right k g.0 false })

pub greeted : (core core' : Lefts) (c : ℕ) (s s' : Listening) (talk talk' : Option Talk) → Greets core core' c s s' talk talk' → (x : Option Left)
    × Greeted c x core core' s s' talk talk'
greeted core core' c s s' talk talk' (inl g) = (
  Some (record { taken = 0; unread = [] }),
  record {
    more = [];
    fails = false;
    spoke = subst (Spoke c [] false talk) (sym g.1) (spoke_nothing c talk);
    acted = g.0;
    stands = λ k. fresh_right k;
  },
)
greeted core core' c s s' talk talk' (inr g) = greeted_none core core' c s s' talk talk' g.0 g.1.0 g.1.1

or_false_is : (a b : Bool) → b ≡ false → (a || b) ≡ a
or_false_is a b h = ap (λ x. a || x) h ∙ or_false a

pub opened_stays : (k : Corpus) (core core' : Lefts) (c : ℕ) (piece : List ℕ) (s s' : Listening) (m : ℕ) (talk talk' : Option Talk)
    → HasLiveBut core s (Opened c) → Greets core core' c s s' talk talk' → (IsOrderly s talk → IsOrderly s' talk')
    → StaysRight k core core' (Opened c) piece s s' talk talk' m m
opened_stays k core core' c piece s s' m talk talk' but greets orderly = record {
  stays = λ s0 talk0 room i h e.
      let p = e.happens in
      let g = greeted core core' c s s' talk talk' greets in (
        0,
        record {
          live = acted_live core core' c g.0 s s' but.2 g.1.acted;
          orderly = orderly e.orderly;
          right = lift (λ u. AreRight k core' s' u (i + 0)) c g.1.more g.1.fails (came_of (Opened c) piece) talk0 talk talk' e.came g.1.spoke (λ t0 u at did.
              let a = h.right t0 at in
              let fresh = h.orderly.fresh t0 at c (let l : s0.opened ≤ c = omega (arith, p.1) in l) in
              let silent = silent_before c t0.came fresh.0 in
              all_right k core core' c g.0 s0 s s' t0 u (came_of (Opened c) piece) g.1.more g.1.fails a.sent [] g.1.acted did
              (record {
                silent = λ q other. (refl, refl);
                opened = λ q less other. below_next q c s0.opened s.opened (ap (λ (y : Listening). y.opened) p.3) less other p.1;
                over = ap (λ (y : Listening). y.over) p.3;
              })
              a.right
              (λ less.
              right_as k [] _ g.1.more _ g.1.fails _ false _ g.0 g.0 []
              (append-nil (bytes_that_came c t0.came) ∙ silent.0) (ap (λ l. l ++ g.1.more) fresh.1) (or_false_is g.1.fails (set.contains t0.broken c) fresh.2)
              (ap (λ b. (b || false) || s.over) silent.1 ∙ ap (λ (y : Listening). y.over) p.3 ∙ p.0) refl (g.1.stands k))
              (i + 0)
              (let q = sum_new s0.opened s.opened c (λ d. reads (a.sent d)) (λ d. reads (with_own c [] a.sent d))
              (λ d other. ap reads (other_at c d [] a.sent other)) (ap reads (own_at c [] a.sent)) p.1 (ap (λ (y : Listening). y.opened) p.3) in
              let f = a.few in
              omega (arith, q, f)));
        },
        rose_none m m (omega arith),
      );
}

-- ---- a connection that ended
pub ended_stays : (k : Corpus) (core core' : Lefts) (c : ℕ) (piece : List ℕ) (s : Listening) (m : ℕ) (talk : Option Talk) → HasLiveBut core s (Ended c)
    → core' ≡ slice_set core c None → StaysRight k core core' (Ended c) piece s s talk talk m m
ended_stays k core core' c piece s m talk but sets = record {
  stays = λ s0 talk0 room i h e.
      let p = e.happens in
      let acted = ended_acted core core' c s sets but.0 in (
        0,
        record {
          live = acted_live core core' c None s s but.2 acted;
          orderly = e.orderly;
          right = lift (λ u. AreRight k core' s u (i + 0)) c [] false (came_of (Ended c) piece) talk0 talk talk e.came (spoke_nothing c talk) (λ t0 u at did.
              let a = h.right t0 at in
              all_right k core core' c None s0 s s t0 u (came_of (Ended c) piece) [] false a.sent (a.sent c) acted did
              (record {
                silent = λ q other. (refl, other);
                opened = λ q less other. subst (λ (y : Listening). q < y.opened) p.2 less;
                over = ap (λ (y : Listening). y.over) p.2;
              })
              a.right
              (λ less.
              right_as k (bytes_that_came c t0.came) _ (sent_on t0 c) _ (set.contains t0.broken c) _ true _ None None (a.sent c)
              (append-nil (bytes_that_came c t0.came)) (append-nil (sent_on t0 c)) refl
              (ap (λ b. (ended_on c t0.came || b) || s.over) (itself c) ∙ ap (λ b. b || s.over) (or_true (ended_on c t0.came))) refl
              (let_go k (bytes_that_came c t0.came) (sent_on t0 c) (set.contains t0.broken c) (ended_on c t0.came || s0.over) (left_at core c) (a.sent c)
              (a.right c (subst (λ (y : Listening). c < y.opened) p.2 less))))
              (i + 0)
              (let q = sum_at s.opened c 0 (λ d. reads (a.sent d)) (λ d. reads (with_own c (a.sent c) a.sent d))
              (λ d other. ap reads (other_at c d (a.sent c) a.sent other)) (omega (arith, ap reads (own_at c (a.sent c) a.sent))) in
              let f : sum_below s.opened (λ d. reads (a.sent d)) ≤ i =
              subst (λ (y : Listening). sum_below y.opened (λ d. reads (a.sent d)) ≤ i) (sym p.2) a.few in
              omega (arith, q, f)));
        },
        rose_none m m (omega arith),
      );
}

-- ---- the end of all
over_right : (k : Corpus) (core core' : Lefts) (s0 s s' : Listening) (t0 u : Talk) (piece : List ℕ) (i : ℕ) → AreRight k core s0 t0 i
    → Did 0 [] false (hears (came_of Over piece) t0) u → ((d : ℕ) → (sent_on u d ≡ sent_on t0 d) × (set.contains u.broken d ≡ set.contains t0.broken d))
    → s ≡ record s0 { over = true } → s' ≡ record s { live = s'.live } → ((d : ℕ) → left_at core' d ≡ None) → AreRight k core' s' u (i + 0)
over_right k core core' s0 s s' t0 u piece i a did same p q none =
    let e = came_of Over piece in
    let opened : s'.opened ≡ s0.opened = ap (λ (y : Listening). y.opened) q ∙ ap (λ (y : Listening). y.opened) p in
    let over : s'.over ≡ true = ap (λ (y : Listening). y.over) q ∙ ap (λ (y : Listening). y.over) p in
    record {
      sent = a.sent;
      right = λ d less.
          right_as k (bytes_that_came d t0.came) (bytes_that_came d u.came) (sent_on t0 d) (sent_on u d) (set.contains t0.broken d) (set.contains u.broken d)
          true (ended_on d u.came || s'.over) None (left_at core' d) (a.sent d)
          (ap (bytes_that_came d) did.came ∙ bytes_that_came-push d t0.came e ∙ append-nil (bytes_that_came d t0.came)) (same d).0 (same d).1
          (ap (λ b. ended_on d u.came || b) over ∙ or_true (ended_on d u.came)) (none d)
          (let_go k (bytes_that_came d t0.came) (sent_on t0 d) (set.contains t0.broken d) (ended_on d t0.came || s0.over) (left_at core d) (a.sent d)
          (a.right d (subst (λ n. d < n) opened less)));
      few = let f = a.few in let g = ap (λ n. sum_below n (λ d. reads (a.sent d))) opened in omega (arith, f, g);
    }

-- nothing was sent on any connection
still_told : (t u : Talk) → Did 0 [] false t u → (d : ℕ) → (sent_on u d ≡ sent_on t d) × (set.contains u.broken d ≡ set.contains t.broken d)
still_told t u did d =
    by_conn (λ d. (sent_on u d ≡ sent_on t d) × (set.contains u.broken d ≡ set.contains t.broken d)) 0 d (did.own ∙ append-nil (sent_on t 0), did.whole)
    (did.others d)

pub over_stays : (k : Corpus) (core core' : Lefts) (piece : List ℕ) (s s' : Listening) (m : ℕ) (talk talk' : Option Talk) → talk' ≡ talk
    → s' ≡ record s { live = s'.live } → ((d : ℕ) → left_at core' d ≡ None) → HasLive core' s' → (IsOrderly s talk → IsOrderly s' talk')
    → StaysRight k core core' Over piece s s' talk talk' m m
over_stays k core core' piece s s' m talk talk' same q none live orderly = record {
  stays = λ s0 talk0 room i h e. (
    0,
    record {
      live = live;
      orderly = orderly e.orderly;
      right = lift (λ u. AreRight k core' s' u (i + 0)) 0 [] false (came_of Over piece) talk0 talk talk' e.came
          (subst (Spoke 0 [] false talk) (sym same) (spoke_nothing 0 talk)) (λ t0 u at did.
          over_right k core core' s0 s s' t0 u piece i (h.right t0 at) did (still_told (hears (came_of Over piece) t0) u did) e.happens q none);
    },
    rose_none m m (omega arith),
  );
}

-- ---- any event
pub at_event : (k : Corpus) (core core' : Lefts) (event e : Event) (piece : List ℕ) (s s' : Listening) (talk talk' : Option Talk) (m n : ℕ) → event ≡ e
    → HasLiveBut core s event → IsWhole event piece
    → (HasLiveBut core s e → IsWhole e piece → StaysRight k core core' e piece s s' talk talk' m n)
    → StaysRight k core core' event piece s s' talk talk' m n
at_event k core core' event e piece s s' talk talk' m n is but whole h =
    subst (λ (v : Event). StaysRight k core core' v piece s s' talk talk' m n) (sym is)
    (h (subst (HasLiveBut core s) is but) (subst (λ (v : Event). IsWhole v piece) is whole))

-- ---- other connections
spoke_others : (c : ℕ) (more : List ℕ) (fails : Bool) (talk talk' : Option Talk) → Spoke c more fails talk talk'
    → ForSome talk (λ t. ForSome talk' (λ u. (d : ℕ) → (d == c) ≡ false → (sent_on u d ≡ sent_on t d) × (set.contains u.broken d ≡ set.contains t.broken d)))
spoke_others c more fails None talk' h = λ t at. absurd cc
spoke_others c more fails (Some x) None h = absurd h
spoke_others c more fails (Some x) (Some y) h = λ t at u at' d other.
    subst (λ v. (sent_on u d ≡ sent_on v d) × (set.contains u.broken d ≡ set.contains v.broken d)) (same_Some x t at)
    (subst (λ v. (sent_on v d ≡ sent_on x d) × (set.contains v.broken d ≡ set.contains x.broken d)) (same_Some y u at') (h.others d other))

pub others_by : (event : Event) (core core' : Lefts) (c : ℕ) (x : Option Left) (s s' : Listening) (talk talk' : Option Talk) (more : List ℕ) (fails : Bool)
    → ((d : ℕ) → IsOther event d → (d == c) ≡ false) → Spoke c more fails talk talk' → Acted core core' c x s s' → LeavesOthers event core core' s s' talk talk'
others_by event core core' c x s s' talk talk' more fails is f a = record {
  left = λ d o. a.sets d ∙ ap (λ b. cond b x (left_at core d)) (is d o);
  live = λ d o. a.live d ∙ ap (λ b. cond b (is_some x) (set.contains s.live d)) (is d o);
  sent = λ t at u at' d o. spoke_others c more fails talk talk' f t at u at' d (is d o);
}

pub piece_others : (Told : Corpus → Type 0) (core core' : Lefts) (c n : ℕ) (piece : List ℕ) (s s' : Listening) (m o : ℕ) (talk talk' : Option Talk)
    → Heeds Told core core' c piece s s' m o talk talk' → LeavesOthers (Piece c n) core core' s s' talk talk'
piece_others Told core core' c n piece s s' m o talk talk' d =
    let w = after_piece Told c d.old piece d.kept m o talk talk' d.received in
    others_by (Piece c n) core core' c d.kept s s' talk talk' w.1.more w.0 (λ q o. o) w.1.spoke d.acted

pub opened_others : (core core' : Lefts) (c : ℕ) (s s' : Listening) (talk talk' : Option Talk) → Greets core core' c s s' talk talk'
    → LeavesOthers (Opened c) core core' s s' talk talk'
opened_others core core' c s s' talk talk' greets =
    let g = greeted core core' c s s' talk talk' greets in
    others_by (Opened c) core core' c g.0 s s' talk talk' g.1.more g.1.fails (λ q o. o) g.1.spoke g.1.acted

pub ended_others : (core core' : Lefts) (c : ℕ) (s : Listening) (talk : Option Talk) → Acted core core' c None s s
    → LeavesOthers (Ended c) core core' s s talk talk
ended_others core core' c s talk a = others_by (Ended c) core core' c None s s talk talk [] false (λ q o. o) (spoke_nothing c talk) a

-- ---- events
pub came_spoke : (c : ℕ) (more : List ℕ) (fails : Bool) (talk talk' : Option Talk) → Spoke c more fails talk talk' → KeepsCame talk talk'
came_spoke c more fails None None h = refl
came_spoke c more fails None (Some u) h = absurd h
came_spoke c more fails (Some t) None h = absurd h
came_spoke c more fails (Some t) (Some u) h = ap Some h.came

pub piece_came : (Told : Corpus → Type 0) (core core' : Lefts) (c : ℕ) (piece : List ℕ) (s s' : Listening) (m o : ℕ) (talk talk' : Option Talk)
    → Heeds Told core core' c piece s s' m o talk talk' → KeepsCame talk talk'
piece_came Told core core' c piece s s' m o talk talk' d = let w = after_piece Told c d.old piece d.kept m o talk talk' d.received in
    came_spoke c w.1.more w.0 talk talk' w.1.spoke

pub opened_came : (core core' : Lefts) (c : ℕ) (s s' : Listening) (talk talk' : Option Talk) → Greets core core' c s s' talk talk' → KeepsCame talk talk'
opened_came core core' c s s' talk talk' greets = let g = greeted core core' c s s' talk talk' greets in came_spoke c g.1.more g.1.fails talk talk' g.1.spoke
