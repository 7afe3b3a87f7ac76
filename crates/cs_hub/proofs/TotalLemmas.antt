-- What all events together ask, event by event.
--
--   conn_both, conn_own, conn_other, all_tagged     the answers of one connection, and of all
--   failures_both               how many answers are failed reads
--   asked_none, all_none, opened_none, asked_starved     a connection on which nothing was asked
--   asked_as, all_as            the same by equal parts
--   piece_asked, piece_all      a piece on a connection that is kept
--   still_at, opened_kept, opened_starved     the other events
--   next_at                     one event, of a hub that tells what came
--   was_told                    a talk before an event
--   asks_next                   one event, of any hub
--   asks_none, asks_start       before the first event
--   asks_as, asks_round         where no event came, and a round
use Rattle.std.proofs.Common.{◌≡◌, ◌⊎◌, inl, inr, ℕ, suc, ◌+◌, ◌-◌, ◌≤◌, ◌==◌, Bool, true, false, ◌||◌, cond, List, [], ◌∷◌, ◌++◌, map, length, take, refl, sym}
use Rattle.std.proofs.Common.{◌∙◌, ap, ap₂, subst, arith, append_assoc, append-nil, length-append}
use Rattle.std.specs.Prelude.{Option, Some, None, is_some}
use Rattle.std.specs.Option.{option_map}
use Rattle.std.specs.FinSet as set
use Rattle.std.proofs.lemmas.Option.{same_Some}
use Rattle.std.proofs.lemmas.List.{map-append, take_all}
use Rattle.std.proofs.lemmas.List.Elements.{All-append, All-nil}
use Rattle.std.proofs.Math.Seq.{take-length}
use Rattle.cs_base.specs.declared.content.limits.TheConstants.{MAX_CONNECTION_BYTES}
use Rattle.cs_base.specs.declared.outside.hub.Event.{Event}
use Rattle.cs_base.specs.declared.outside.hub.Event.TheVariants.{Opened, Piece, Ended, Over}
use Rattle.cs_base.specs.outside.Causes.{ReadsWithin}
use Rattle.cs_base.specs.outside.Hub.{Came, Talk, Listening, IsOrderly, came_of, hears, listens, sent_on}
use Rattle.cs_engine.specs.Keeping.{EngineView}
use Rattle.cs_model.specs.Requests.{Request}
use Rattle.cs_model_serving.specs.Connections.{Left}
use Rattle.cs_model_serving.specs.Responses.{Response, all_bytes, memory_bytes, too_long}
use Rattle.cs_model_serving.proofs.FrameLemmas.{frame-nil, take_both}
use Rattle.cs_hub.specs.DueReads.{Answered, AnswersWithin, AreDue, AreResponsesBy, HasMemory, IsTextBy, IsWholeBy, SentAt, SentBefore, SentBy, bytes_behind}
use Rattle.cs_hub.specs.DueReads.{bytes_to_answer, goes_on, heads_on, is_want, read_failures, requests_of, requests_on, requests_to}
use Rattle.cs_hub.specs.HubFollowing.{Lefts, left_at, HasLiveBut, IsOther, IsWhole, LeavesOthers}
use Rattle.cs_base.specs.outside.Hub.{Happens}
use Rattle.cs_hub.specs.Rounds.{ActsOn, Greets, KeepsCame, TakesPiece}
use Rattle.cs_hub.specs.Streams.{RoseBy, bytes_at, bytes_that_came}
use Rattle.cs_hub.specs.Totals.{AsksInAll, AsksSoFar, HasAskedAll, HasAskedOn, StaysAsked, all_answers, by_conn, came_within}
use Rattle.cs_hub.proofs.AskedLemmas.{asked_both, enough_both, memory_both, requests_both, reads_both, some_starved}
use Rattle.cs_hub.proofs.ByLemmas.{are_both, by_behind, memory_part}
use Rattle.cs_hub.proofs.EventLemmas.{bytes_that_came-push, silent_before}
use Rattle.cs_hub.proofs.ServedLemmas.{bytes_both}
use Rattle.cs_hub.proofs.SharpSums.{due_both, good_due, sum_both, sum_by_list}
use Rattle.cs_hub.proofs.SpeakLemmas.{by_conn as by_case, itself, rose_both, rose_none}
use Rattle.cs_hub.proofs.UnreadHeads.{heads-more, requests-none}

-- ---- answers by connection
-- of one connection
abbrev pub tagged : ℕ → List Answered → List (ℕ × Answered)
tagged c ys = map (λ y. (c, y)) ys

cond_both : (t : Bool) (x : Answered) (xs ys : List Answered) → cond t (x ∷ xs ++ ys) (xs ++ ys) ≡ cond t (x ∷ xs) xs ++ ys
cond_both true x xs ys = refl
cond_both false x xs ys = refl

pub conn_both : (c : ℕ) (xs ys : List (ℕ × Answered)) → by_conn c (xs ++ ys) ≡ by_conn c xs ++ by_conn c ys
conn_both c [] ys = refl
conn_both c (x ∷ xs) ys =
    ap (λ l. cond (c == x.0) (x.1 ∷ l) l) (conn_both c xs ys) ∙ cond_both (c == x.0) x.1 (by_conn c xs) (by_conn c ys)

pub conn_own : (c : ℕ) (ys : List Answered) → by_conn c (tagged c ys) ≡ ys
conn_own c [] = refl
conn_own c (y ∷ ys) = ap (λ b. cond b (y ∷ by_conn c (tagged c ys)) (by_conn c (tagged c ys))) (itself c) ∙ ap (λ l. y ∷ l) (conn_own c ys)

pub conn_other : (c d : ℕ) (ys : List Answered) → (d == c) ≡ false → by_conn d (tagged c ys) ≡ []
conn_other c d [] other = refl
conn_other c d (y ∷ ys) other = ap (λ b. cond b (y ∷ by_conn d (tagged c ys)) (by_conn d (tagged c ys))) other ∙ conn_other c d ys other

pub all_tagged : (c : ℕ) (ys : List Answered) → all_answers (tagged c ys) ≡ ys
all_tagged c [] = refl
all_tagged c (y ∷ ys) = ap (λ l. y ∷ l) (all_tagged c ys)

-- ---- answers of all
pub failures_both : (xs ys : List Answered) → read_failures (xs ++ ys) ≡ read_failures xs + read_failures ys
failures_both [] ys = omega arith
failures_both (x ∷ xs) ys = let e = failures_both xs ys in omega (arith, e)

-- ---- one connection
none_heads : heads_on [] ≡ []
none_heads = heads-more [] frame-nil

pub asked_none : (broken : Bool) → HasAskedOn [] [] broken []
asked_none broken = record {
  later = [];
  cut = requests-none;
  sent = [];
  part = [];
  bytes = refl;
  by = memory_part (heads_on []) [] [] (0, refl);
  enough = omega arith;
  all = inl (All-nil (λ (a : Answered). is_want a.1 ≡ false), sym (ap length requests-none));
}

pub all_none : HasAskedAll [] [] [] (record { taken = 0; unread = [] })
all_none = record {
  taken = refl;
  room = omega arith;
  rest = λ more. sym (ap (λ l. l ++ heads_on more) none_heads);
  asked = requests-none;
  memory = All-nil (λ (a : Answered). is_want a.1 ≡ false);
  sent = [];
  bytes = refl;
  by = (none_heads, refl);
}

-- no bytes ask nothing
pub opened_none : (s : List ℕ) (broken : Bool) (xs : List Answered) → HasAskedOn [] s broken xs → xs ≡ []
opened_none s broken [] h = refl
opened_none s broken (x ∷ xs) h = absurd (let e = ap length (sym requests-none ∙ h.cut) in omega (arith, e))

pub asked_as : (b b' s s' : List ℕ) (p p' : Bool) (xs xs' : List Answered) → b' ≡ b → s' ≡ s → p' ≡ p → xs' ≡ xs → HasAskedOn b s p xs → HasAskedOn b' s' p' xs'
asked_as b b' s s' p p' xs xs' eb es ep ex h =
    subst (λ y. HasAskedOn b' s' p' y) (sym ex) (subst (λ y. HasAskedOn b' s' y xs) (sym ep)
    (subst (λ y. HasAskedOn b' y p xs) (sym es) (subst (λ y. HasAskedOn y s p xs) (sym eb) h)))

pub all_as : (b b' s s' : List ℕ) (xs xs' : List Answered) (l l' : Left) → b' ≡ b → s' ≡ s → xs' ≡ xs → l' ≡ l → HasAskedAll b s xs l → HasAskedAll b' s' xs' l'
all_as b b' s s' xs xs' l l' eb es ex el h =
    subst (λ y. HasAskedAll b' s' xs' y) (sym el) (subst (λ y. HasAskedAll b' s' y l) (sym ex)
    (subst (λ y. HasAskedAll b' y xs l) (sym es) (subst (λ y. HasAskedAll y s xs l) (sym eb) h)))

-- want of memory was told before anything came
pub asked_starved : (s : List ℕ) (broken : Bool) → IsTextBy [] [] s → HasAskedOn [] s broken []
asked_starved s broken h = record {
  later = [];
  cut = requests-none;
  sent = [];
  part = s;
  bytes = refl;
  by = subst (λ l. IsTextBy l [] s) (sym none_heads) h;
  enough = omega arith;
  all = inl (All-nil (λ (a : Answered). is_want a.1 ≡ false), sym (ap length requests-none));
}

-- ---- a piece
each_of : (rs : List Response) (hs : List (List ℕ)) (xs : List Answered) → AreResponsesBy rs hs xs → length hs ≡ length rs
each_of [] hs xs a = ap length a.0
each_of (r ∷ rs) [] xs a = absurd a
each_of (r ∷ rs) (h ∷ hs) xs a = ap suc (each_of rs hs a.1 a.4)

module _ (b s : List ℕ) (xs : List Answered) (l : Left) (h : HasAskedAll b s xs l) (piece : List ℕ) where
  -- the bytes of the piece that count, and those that are to be answered
  abbrev counted : List ℕ
  counted = take (MAX_CONNECTION_BYTES - l.taken) piece

  abbrev left : List ℕ
  left = l.unread ++ counted

  heads_are : heads_on (b ++ counted) ≡ heads_on b ++ heads_on left
  heads_are = h.rest counted

  within : take MAX_CONNECTION_BYTES (b ++ piece) ≡ b ++ counted
  within =
      take_both MAX_CONNECTION_BYTES b piece
      ∙ ap₂ (λ x y. x ++ take (MAX_CONNECTION_BYTES - y) piece) (take_all MAX_CONNECTION_BYTES b (omega (arith, h.taken, h.room))) (sym h.taken)

  requests_are : requests_on (b ++ counted) ≡ requests_of xs ++ requests_on left
  requests_are = ap requests_to heads_are ∙ asked_both (heads_on b) (heads_on left) ∙ ap (λ l. l ++ requests_on left) h.asked

  module _ (c : ℕ) (goes broken broken' : Bool) (ys : List Answered) (later : List Request) (t u : Talk)
      (cut : requests_on left ≡ requests_of ys ++ later) (a : SentBefore c goes left (Some t) (Some u) ys) (was : sent_on t c ≡ s) where
    broke : (a.fails ≡ true) ⊎ (a.part ≡ memory_bytes) → (set.contains u.broken c ≡ true) ⊎ (a.part ≡ memory_bytes)
    broke (inl e) = inl (a.spoke.whole ∙ ap (λ x. x || set.contains t.broken c) e)
    broke (inr e) = inr e

    last_of : (zs : List Answered) (b' : List ℕ)
        → (HasMemory zs × (length zs ≡ length (requests_on b'))) ⊎ (a.fails ≡ true) ⊎ (a.part ≡ memory_bytes)
        → (HasMemory zs × (length zs ≡ length (requests_on b'))) ⊎ (set.contains u.broken c ≡ true) ⊎ (a.part ≡ memory_bytes)
    last_of zs b' (inl e) = inl e
    last_of zs b' (inr e) = inr (broke e)

    counted_asked : HasAskedOn (b ++ counted) (sent_on u c) (set.contains u.broken c) (xs ++ ys)
    counted_asked = record {
      later = later;
      cut = requests_are ∙ ap (λ x. requests_of xs ++ x) cut ∙ sym (append_assoc (requests_of xs) (requests_of ys) later)
          ∙ ap (λ x. x ++ later) (sym (requests_both xs ys));
      sent = h.sent ++ a.sent;
      part = a.part;
      bytes = a.spoke.own ∙ ap (λ x. x ++ (all_bytes a.sent ++ a.part)) (was ∙ h.bytes)
          ∙ sym (append_assoc (all_bytes h.sent) (all_bytes a.sent) a.part) ∙ ap (λ x. x ++ a.part) (sym (bytes_both h.sent a.sent));
      by = subst (λ x. SentBy (h.sent ++ a.sent) x (xs ++ ys) a.part) (sym heads_are)
          (by_behind h.sent a.sent (heads_on b) (heads_on left) xs ys a.part h.by a.by);
      enough = enough_both (heads_on b) (heads_on left) (heads_on (b ++ counted)) xs ys (length h.sent) (length a.sent) (length (h.sent ++ a.sent))
          heads_are h.asked (each_of h.sent (heads_on b) xs h.by) (length-append h.sent a.sent) a.enough;
      all = last_of (xs ++ ys) (b ++ counted)
          (memory_both xs ys (b ++ counted) left ((a.fails ≡ true) ⊎ (a.part ≡ memory_bytes)) requests_are h.memory a.all);
    }

    pub piece_asked : HasAskedOn (take MAX_CONNECTION_BYTES (b ++ piece)) (sent_on u c) (set.contains u.broken c) (xs ++ ys)
    piece_asked = subst (λ x. HasAskedOn x (sent_on u c) (set.contains u.broken c) (xs ++ ys)) (sym within) counted_asked

    pub piece_all : (l' : Left) → TakesPiece l piece l' → IsWholeBy a.sent (heads_on left) ys a.part a.fails → later ≡ [] → HasMemory ys
        → HasAskedAll (b ++ piece) (sent_on u c) (xs ++ ys) l'
    piece_all l' takes whole none memory =
        let full : counted ≡ piece = take_all (MAX_CONNECTION_BYTES - l.taken) piece (omega (arith, takes.taken, takes.room)) in
        let all : b ++ counted ≡ b ++ piece = ap (λ x. b ++ x) full in
        let heads : heads_on (b ++ piece) ≡ heads_on b ++ heads_on left = ap heads_on (sym all) ∙ heads_are in
        record {
          taken = omega (arith, takes.taken, h.taken, length-append b piece);
          room = takes.room;
          rest = λ more. ap heads_on (append_assoc b piece more) ∙ h.rest (piece ++ more)
              ∙ ap (λ x. heads_on b ++ heads_on x) (sym (append_assoc l.unread piece more) ∙ ap (λ x. (l.unread ++ x) ++ more) (sym full))
              ∙ ap (λ x. heads_on b ++ x) (takes.rest more) ∙ sym (append_assoc (heads_on b) (heads_on left) (heads_on (l'.unread ++ more)))
              ∙ ap (λ x. x ++ heads_on (l'.unread ++ more)) (sym heads);
          asked = ap requests_on (sym all) ∙ requests_are ∙ ap (λ x. requests_of xs ++ x) (cut ∙ ap (λ x. requests_of ys ++ x) none ∙ append-nil (requests_of ys))
              ∙ sym (requests_both xs ys);
          memory = All-append (λ (a : Answered). is_want a.1 ≡ false) xs ys h.memory memory;
          sent = h.sent ++ a.sent;
          bytes = a.spoke.own ∙ ap₂ (λ x y. x ++ (all_bytes a.sent ++ y)) (was ∙ h.bytes) whole.1
              ∙ ap (λ x. all_bytes h.sent ++ x) (append-nil (all_bytes a.sent)) ∙ sym (bytes_both h.sent a.sent);
          by = subst (λ x. AreResponsesBy (h.sent ++ a.sent) x (xs ++ ys)) (sym heads)
              (are_both h.sent a.sent (heads_on b) (heads_on left) xs ys h.by whole.0);
        }

-- ---- one event, where the hub tells what came
-- each connection was asked so, and each that is kept
abbrev Each : Talk → List (ℕ × Answered) → Type 0
Each t asked = (c : ℕ) → HasAskedOn (came_within c t.came) (sent_on t c) (set.contains t.broken c) (by_conn c asked)

abbrev Live : Lefts → Talk → List (ℕ × Answered) → Type 0
Live core t asked = (c : ℕ) (l : Left) → left_at core c ≡ Some l → HasAskedAll (bytes_that_came c t.came) (sent_on t c) (by_conn c asked) l

-- the same of one connection
record AtConn (core : Lefts) (t : Talk) (asked : List (ℕ × Answered)) (c : ℕ) : Type 0 where
  pub each : HasAskedOn (came_within c t.came) (sent_on t c) (set.contains t.broken c) (by_conn c asked)
  pub live : (l : Left) → left_at core c ≡ Some l → HasAskedAll (bytes_that_came c t.came) (sent_on t c) (by_conn c asked) l

-- the connection of an event; Over has none
abbrev conn_of : Event → ℕ
conn_of (Opened c) = c
conn_of (Piece c n) = c
conn_of (Ended c) = c
conn_of Over = 0

-- where nothing was answered
asked_nothing : (asked : List (ℕ × Answered)) (k d : ℕ) (ys : List Answered) → ys ≡ [] → by_conn d (asked ++ tagged k ys) ≡ by_conn d asked
asked_nothing asked k d ys none = ap (λ y. by_conn d (asked ++ tagged k y)) none ∙ ap (by_conn d) (append-nil asked)

asked_other : (asked : List (ℕ × Answered)) (c d : ℕ) (ys : List Answered) → (d == c) ≡ false → by_conn d (asked ++ tagged c ys) ≡ by_conn d asked
asked_other asked c d ys other =
    conn_both d asked (tagged c ys) ∙ ap (λ l. by_conn d asked ++ l) (conn_other c d ys other) ∙ append-nil (by_conn d asked)

asked_own : (asked : List (ℕ × Answered)) (c : ℕ) (ys : List Answered) → by_conn c (asked ++ tagged c ys) ≡ by_conn c asked ++ ys
asked_own asked c ys = conn_both c asked (tagged c ys) ∙ ap (λ l. by_conn c asked ++ l) (conn_own c ys)

still_kept : (x y : Option Left) → (x ≡ y) ⊎ (x ≡ None) → (l : Left) → x ≡ Some l → y ≡ Some l
still_kept x y (inl is) l kept = sym is ∙ kept
still_kept x y (inr none) l kept = absurd (let wrong : None ≡ Some l = sym none ∙ kept in cc)

module _ (core core' : Lefts) (t0 u : Talk) (e : Came) (asked asked' : List (ℕ × Answered)) (came : u.came ≡ t0.came ++ e ∷ []) (each : Each t0 asked)
    (live : Live core t0 asked) where
  bytes_next : (d : ℕ) → bytes_that_came d u.came ≡ bytes_that_came d t0.came ++ bytes_at d e.event e.bytes
  bytes_next d = ap (bytes_that_came d) came ∙ bytes_that_came-push d t0.came e

  bytes_same : (d : ℕ) → bytes_at d e.event e.bytes ≡ [] → bytes_that_came d u.came ≡ bytes_that_came d t0.came
  bytes_same d none = bytes_next d ∙ ap (λ l. bytes_that_came d t0.came ++ l) none ∙ append-nil (bytes_that_came d t0.came)

  -- nothing came on it or was sent, and what is kept of it is kept still, or nothing
  still_at : (d : ℕ) → bytes_at d e.event e.bytes ≡ [] → sent_on u d ≡ sent_on t0 d → set.contains u.broken d ≡ set.contains t0.broken d
      → by_conn d asked' ≡ by_conn d asked → (left_at core' d ≡ left_at core d) ⊎ (left_at core' d ≡ None) → AtConn core' u asked' d
  still_at d none sent broke same left = record {
    each = asked_as (came_within d t0.came) (came_within d u.came) (sent_on t0 d) (sent_on u d) (set.contains t0.broken d) (set.contains u.broken d)
        (by_conn d asked) (by_conn d asked') (ap (take MAX_CONNECTION_BYTES) (bytes_same d none)) sent broke same (each d);
    live = λ l kept. all_as (bytes_that_came d t0.came) (bytes_that_came d u.came) (sent_on t0 d) (sent_on u d) (by_conn d asked) (by_conn d asked') l l
        (bytes_same d none) sent same refl (live d l (still_kept (left_at core' d) (left_at core d) left l kept));
  }

  -- a connection that opened, on which nothing came before
  module _ (c : ℕ) (same : by_conn c asked' ≡ by_conn c asked) (silent : bytes_that_came c t0.came ≡ []) (unsent : sent_on t0 c ≡ [])
      (none : bytes_at c e.event e.bytes ≡ []) where
    unasked : by_conn c asked' ≡ []
    unasked =
        same ∙ opened_none (sent_on t0 c) (set.contains t0.broken c) (by_conn c asked)
        (subst (λ b. HasAskedOn b (sent_on t0 c) (set.contains t0.broken c) (by_conn c asked)) (ap (take MAX_CONNECTION_BYTES) silent) (each c))

    no_bytes : bytes_that_came c u.came ≡ []
    no_bytes = bytes_same c none ∙ silent

    opened_kept : sent_on u c ≡ sent_on t0 c → left_at core' c ≡ Some (record { taken = 0; unread = [] }) → AtConn core' u asked' c
    opened_kept still is = record {
      each = asked_as [] (came_within c u.came) [] (sent_on u c) (set.contains u.broken c) (set.contains u.broken c) [] (by_conn c asked')
          (ap (take MAX_CONNECTION_BYTES) no_bytes) (still ∙ unsent) refl unasked (asked_none (set.contains u.broken c));
      live = λ l kept. all_as [] (bytes_that_came c u.came) [] (sent_on u c) [] (by_conn c asked') (record { taken = 0; unread = [] }) l no_bytes
          (still ∙ unsent) unasked (same_Some l (record { taken = 0; unread = [] }) (sym kept ∙ is)) all_none;
    }

    opened_starved : (part : List ℕ) → sent_on u c ≡ sent_on t0 c ++ part → IsTextBy [] [] part → left_at core' c ≡ None → AtConn core' u asked' c
    opened_starved part sent text gone = record {
      each = asked_as [] (came_within c u.came) part (sent_on u c) (set.contains u.broken c) (set.contains u.broken c) [] (by_conn c asked')
          (ap (take MAX_CONNECTION_BYTES) no_bytes) (sent ∙ ap (λ l. l ++ part) unsent) refl unasked (asked_starved part (set.contains u.broken c) text);
      live = λ l kept. absurd (let wrong : None ≡ Some l = sym gone ∙ kept in cc);
    }

-- ---- each event
-- what a step tells of a hub that tells what came
record Stepped (event : Event) (piece : List ℕ) (core core' : Lefts) (s s' : Listening) (t u : Talk) (ys : List Answered) (later : List Request) : Type 0 where
  others : (d : ℕ) → IsOther event d → left_at core' d ≡ left_at core d
  unsent : (d : ℕ) → IsOther event d → (sent_on u d ≡ sent_on t d) × (set.contains u.broken d ≡ set.contains t.broken d)
  acts : ActsOn event core core' piece s s' (Some t) (Some u)
  sent : SentAt event (goes_on core' event) (bytes_to_answer core event piece) (Some t) (Some u) ys
  cut : requests_on (bytes_to_answer core event piece) ≡ requests_of ys ++ later
  whole : goes_on core' event ≡ true → (later ≡ []) × HasMemory ys
  over : event ≡ Over → (c : ℕ) → left_at core' c ≡ None

same_talk : (t u : Talk) → Some u ≡ Some t → u ≡ t
same_talk t u e = same_Some u t e

module _ (core core' : Lefts) (piece : List ℕ) (s s' : Listening) (t0 u : Talk) (asked : List (ℕ × Answered)) (ys : List Answered) (later : List Request)
    (each : Each t0 asked) (live : Live core t0 asked) where
  after : ℕ → List (ℕ × Answered)
  after c = asked ++ tagged c ys

  -- of another connection
  other_at : (event : Event) (c d : ℕ) → Stepped event piece core core' s s' (hears (came_of event piece) t0) u ys later
      → u.came ≡ t0.came ++ came_of event piece ∷ [] → IsOther event d → (d == c) ≡ false
      → bytes_at d (came_of event piece).event (came_of event piece).bytes ≡ [] → AtConn core' u (asked ++ tagged c ys) d
  other_at event c d h came is other none =
      still_at core core' t0 u (came_of event piece) asked (asked ++ tagged c ys) came each live d none (h.unsent d is).0 (h.unsent d is).1
      (asked_other asked c d ys other) (inl (h.others d is))

  piece_at : (c n : ℕ) (x : Option Left) → left_at core c ≡ x → is_some x ≡ true → length piece ≡ n
      → Stepped (Piece c n) piece core core' s s' (hears (came_of (Piece c n) piece) t0) u ys later
      → u.came ≡ t0.came ++ came_of (Piece c n) piece ∷ [] → AtConn core' u (asked ++ tagged c ys) c
  piece_at c n None was held size h came = absurd cc
  piece_at c n (Some l) was held size h came =
      let e = came_of (Piece c n) piece in
      let b = bytes_that_came c t0.came in
      let xs = by_conn c asked in
      let is = live c l was in
      let bytes : bytes_that_came c u.came ≡ b ++ piece =
      bytes_next core core' t0 u e asked (asked ++ tagged c ys) came each live c
      ∙ ap (λ z. b ++ cond z (take n piece) []) (itself c) ∙ ap (λ j. b ++ take j piece) (sym size) ∙ ap (λ z. b ++ z) (take-length piece) in
      let goes = is_some (left_at core' c) in
      let cut : requests_on (bytes_behind (Some l) piece) ≡ requests_of ys ++ later =
      subst (λ y. requests_on (bytes_behind y piece) ≡ requests_of ys ++ later) was h.cut in
      let sent : SentBefore c goes (bytes_behind (Some l) piece) (Some (hears e t0)) (Some u) ys =
      subst (λ y. SentBefore c goes (bytes_behind y piece) (Some (hears e t0)) (Some u) ys) was h.sent in
      record {
        each = asked_as (take MAX_CONNECTION_BYTES (b ++ piece)) (came_within c u.came) (sent_on u c) (sent_on u c) (set.contains u.broken c)
            (set.contains u.broken c) (xs ++ ys) (by_conn c (asked ++ tagged c ys)) (ap (take MAX_CONNECTION_BYTES) bytes) refl refl (asked_own asked c ys)
            (piece_asked b (sent_on t0 c) xs l is piece c goes false false ys later (hears e t0) u cut sent refl);
        live = λ l' kept.
            let on : goes ≡ true = ap is_some kept in
            all_as (b ++ piece) (bytes_that_came c u.came) (sent_on u c) (sent_on u c) (xs ++ ys) (by_conn c (asked ++ tagged c ys)) l' l' bytes refl
            (asked_own asked c ys) refl
            (piece_all b (sent_on t0 c) xs l is piece c goes false false ys later (hears e t0) u cut sent refl l' (h.acts l l' was kept) (sent.whole on)
            (h.whole on).0 (h.whole on).1);
      }

  opened_at : (c : ℕ) → ys ≡ [] → bytes_that_came c t0.came ≡ [] → sent_on t0 c ≡ []
      → Greets core core' c s s' (Some (hears (came_of (Opened c) piece) t0)) (Some u) → u.came ≡ t0.came ++ came_of (Opened c) piece ∷ []
      → AtConn core' u (asked ++ tagged c ys) c
  opened_at c none silent unsent (inl g) came =
      opened_kept core core' t0 u (came_of (Opened c) piece) asked (asked ++ tagged c ys) came each live c (asked_nothing asked c c ys none) silent unsent refl
      (ap (λ (t : Talk). sent_on t c) (same_talk (hears (came_of (Opened c) piece) t0) u g.1))
      (g.0.sets c ∙ ap (λ b. cond b (Some (record { taken = 0; unread = [] })) (left_at core c)) (itself c))
  opened_at c none silent unsent (inr g) came =
      let said = some_starved c too_long (Some (hears (came_of (Opened c) piece) t0)) (Some u) g.1 in
      opened_starved core core' t0 u (came_of (Opened c) piece) asked (asked ++ tagged c ys) came each live c (asked_nothing asked c c ys none) silent unsent
      refl said.0 said.2.own said.3 (g.0.sets c ∙ ap (λ b. cond b None (left_at core c)) (itself c))

  -- whatever the event is
  next_at : (event : Event) (s0 : Listening) (room : ℕ) → IsOrderly s0 (Some t0) → Happens s0 room event s → HasLiveBut core s event → IsWhole event piece
      → Stepped event piece core core' s s' (hears (came_of event piece) t0) u ys later → u.came ≡ t0.came ++ came_of event piece ∷ [] → (d : ℕ)
      → AtConn core' u (asked ++ tagged (conn_of event) ys) d
  next_at (Opened c) s0 room orderly happens but whole h came d =
      let fresh = orderly.fresh t0 refl c (let l : s0.opened ≤ c = omega (arith, happens.1) in l) in
      by_case (AtConn core' u (asked ++ tagged c ys)) c d
      (opened_at c h.sent (silent_before c t0.came fresh.0).0 fresh.1 h.acts came)
      (λ other. other_at (Opened c) c d h came other other refl)
  next_at (Piece c n) s0 room orderly happens but whole h came d =
      by_case (AtConn core' u (asked ++ tagged c ys)) c d
      (piece_at c n (left_at core c) refl (but.1 c ∙ but.0) whole.0 h came)
      (λ other. other_at (Piece c n) c d h came other other (ap (λ b. cond b (take n piece) []) other))
  next_at (Ended c) s0 room orderly happens but whole h came d =
      by_case (AtConn core' u (asked ++ tagged c ys)) c d
      (let same = same_talk (hears (came_of (Ended c) piece) t0) u h.acts.1 in
      still_at core core' t0 u (came_of (Ended c) piece) asked (asked ++ tagged c ys) came each live c refl (ap (λ (t : Talk). sent_on t c) same)
      (ap (λ (t : Talk). set.contains t.broken c) same) (asked_nothing asked c c ys h.sent) (inr h.acts.0))
      (λ other. other_at (Ended c) c d h came other other refl)
  next_at Over s0 room orderly happens but whole h came d =
      let same = same_talk (hears (came_of Over piece) t0) u h.acts in
      still_at core core' t0 u (came_of Over piece) asked (asked ++ tagged 0 ys) came each live d refl (ap (λ (t : Talk). sent_on t d) same)
      (ap (λ (t : Talk). set.contains t.broken d) same) (asked_nothing asked 0 d ys h.sent) (inr (h.over refl d))

-- ---- any hub
-- what was told before
record WasTold (e : Came) (talk0 talk1 : Option Talk) (u : Talk) : Type 0 where
  t0 : Talk
  before : talk0 ≡ Some t0
  heard : talk1 ≡ Some (hears e t0)
  came : u.came ≡ t0.came ++ e ∷ []

came_after : (t : Talk) (talk2 : Option Talk) (u : Talk) → KeepsCame (Some t) talk2 → talk2 ≡ Some u → u.came ≡ t.came
came_after t talk2 u keeps at = same_Some u.came t.came (ap (option_map (λ (x : Talk). x.came)) (sym at) ∙ keeps)

was_told : (e : Came) (talk0 talk1 talk2 : Option Talk) (u : Talk) → talk1 ≡ option_map (hears e) talk0 → KeepsCame talk1 talk2 → talk2 ≡ Some u
    → WasTold e talk0 talk1 u
was_told e None talk1 talk2 u is keeps at =
    absurd (let wrong : Some u.came ≡ None = ap (option_map (λ (x : Talk). x.came)) (sym at) ∙ keeps ∙ ap (option_map (λ (x : Talk). x.came)) is in cc)
was_told e (Some t) talk1 talk2 u is keeps at = record {
  t0 = t;
  before = refl;
  heard = is;
  came = came_after (hears e t) talk2 u (subst (λ x. KeepsCame x talk2) is keeps) at;
}

answers_both : (xs : List (ℕ × Answered)) (c : ℕ) (ys : List Answered) → all_answers (xs ++ tagged c ys) ≡ all_answers xs ++ ys
answers_both xs c ys = map-append (λ x. x.1) xs (tagged c ys) ∙ ap (λ l. all_answers xs ++ l) (all_tagged c ys)

-- what one event of a hub and its step tell
pub record StepTold (told : Option (List ℕ)) (event : Event) (piece : List ℕ) (core core' : Lefts) (s0 s s' : Listening) (talk0 talk1 talk2 : Option Talk)
    (old new : EngineView) (before now failed failed' : ℕ) : Type 0 where
  pub room : ℕ
  pub orderly : IsOrderly s0 talk0
  pub happens : Happens s0 room event s
  pub but : HasLiveBut core s event
  pub whole : IsWhole event piece
  pub heard : talk1 ≡ option_map (hears (came_of event piece)) talk0
  pub came : KeepsCame talk1 talk2
  pub others : LeavesOthers event core core' s s' talk1 talk2
  pub over : event ≡ Over → (c : ℕ) → left_at core' c ≡ None
  pub acts : ActsOn event core core' piece s s' talk1 talk2
  pub answers : AnswersWithin told (goes_on core' event) (requests_on (bytes_to_answer core event piece)) old new before now failed failed'
      (SentAt event (goes_on core' event) (bytes_to_answer core event piece) talk1 talk2)

module _ (told : Option (List ℕ)) (event : Event) (piece : List ℕ) (core core' : Lefts) (s0 s s' : Listening) (talk0 talk1 talk2 : Option Talk)
    (old new : EngineView) (before now failed failed' : ℕ)
    (h : StepTold told event piece core core' s0 s s' talk0 talk1 talk2 old new before now failed failed') where
  stepped : (t u : Talk) → talk1 ≡ Some t → talk2 ≡ Some u → Stepped event piece core core' s s' t u h.answers.answered h.answers.later
  stepped t u is at = record {
    others = h.others.left;
    unsent = h.others.sent t is u at;
    acts = subst (λ x. ActsOn event core core' piece s s' x (Some u)) is (subst (λ x. ActsOn event core core' piece s s' talk1 x) at h.acts);
    sent = subst (λ x. SentAt event (goes_on core' event) (bytes_to_answer core event piece) x (Some u) h.answers.answered) is
        (subst (λ x. SentAt event (goes_on core' event) (bytes_to_answer core event piece) talk1 x h.answers.answered) at h.answers.sent);
    cut = h.answers.cut;
    whole = h.answers.all;
    over = h.over;
  }

  at_conn : (first : EngineView) (m n : ℕ) (a : AsksSoFar told core first old m before n failed talk0) (u : Talk) → talk2 ≡ Some u → (d : ℕ)
      → AtConn core' u (a.all.asked ++ tagged (conn_of event) h.answers.answered) d
  at_conn first m n a u at d =
      let t = was_told (came_of event piece) talk0 talk1 talk2 u h.heard h.came at in
      next_at core core' piece s s' t.t0 u a.all.asked h.answers.answered h.answers.later (a.all.each t.t0 t.before) (a.live t.t0 t.before) event s0 h.room
      (subst (IsOrderly s0) t.before h.orderly) h.happens h.but h.whole (stepped (hears (came_of event piece) t.t0) u t.heard at) t.came d

  pub asks_next : (first : EngineView) (m n : ℕ) → AsksSoFar told core first old m before n failed talk0
      → AsksSoFar told core' first new m now n failed' talk2
  asks_next first m n a =
      let ys = h.answers.answered in
      let c = conn_of event in
      record {
        all = record {
          asked = a.all.asked ++ tagged c ys;
          n = a.all.n + h.answers.n;
          are_due = subst (λ l. AreDue told l first (a.all.n + h.answers.n) new) (sym (answers_both a.all.asked c ys))
              (due_both told (all_answers a.all.asked) ys first old new a.all.n h.answers.n a.all.are_due h.answers.are_due);
          reads = reads_both a.all.n h.answers.n m before now a.all.reads h.answers.reads;
          sharp = λ b is stands good.
              let mid = good_due told (all_answers a.all.asked) first a.all.n old a.all.are_due b is stands good in
              let both = due_both told (all_answers a.all.asked) ys first old new a.all.n h.answers.n a.all.are_due h.answers.are_due in
              let sum = sum_by_list told b new first (a.all.n + h.answers.n) (sym (answers_both a.all.asked c ys)) both
              ∙ sum_both told b new (all_answers a.all.asked) ys first old a.all.n h.answers.n a.all.are_due h.answers.are_due in
              subst (λ i. ReadsWithin i m now) (sym sum) (reads_both _ _ m before now (a.all.sharp b is stands good) (h.answers.sharp b is mid.0 mid.1));
          rose = subst (λ i. RoseBy i n failed')
              (sym (ap read_failures (answers_both a.all.asked c ys) ∙ failures_both (all_answers a.all.asked) ys))
              (rose_both (read_failures (all_answers a.all.asked)) (read_failures ys) n failed failed' a.all.rose h.answers.rose);
          each = λ u at d. (at_conn first m n a u at d).each;
        };
        live = λ u at d. (at_conn first m n a u at d).live;
      }

-- ---- the start, and where nothing came
bytes_at_start : (s : Listening) (talk : Option Talk) (port conns : ℕ) → s ≡ listens port conns → IsOrderly s talk → (t : Talk) → talk ≡ Some t → (c : ℕ)
    → (bytes_that_came c t.came ≡ []) × (sent_on t c ≡ [])
bytes_at_start s talk port conns e o t at c =
    let fresh = o.fresh t at c (let l : s.opened ≤ c = omega (arith, ap (λ (y : Listening). y.opened) e) in l) in
    ((silent_before c t.came fresh.0).0, fresh.1)

pub asks_none : (told : Option (List ℕ)) (e : EngineView) (m n : ℕ) (s : Listening) (talk : Option Talk) (port conns : ℕ) → s ≡ listens port conns
    → IsOrderly s talk → AsksInAll told e e m m n n talk
asks_none told e m n s talk port conns is orderly = record {
  asked = [];
  n = 0;
  are_due = (refl, refl);
  reads = record { later = omega arith; within = omega arith };
  sharp = λ b is stands good. record { later = omega arith; within = omega arith };
  rose = rose_none n n (omega arith);
  each = λ t at c.
      let none = bytes_at_start s talk port conns is orderly t at c in
      asked_as [] (came_within c t.came) [] (sent_on t c) (set.contains t.broken c) (set.contains t.broken c) [] [] (ap (take MAX_CONNECTION_BYTES) none.0)
      none.1 refl refl (asked_none (set.contains t.broken c));
}

none_kept : (core : Lefts) (c : ℕ) → core ≡ [] → left_at core c ≡ None
none_kept core c e = ap (λ k. left_at k c) e

pub asks_start : (told : Option (List ℕ)) (core : Lefts) (e : EngineView) (m n : ℕ) (s : Listening) (talk : Option Talk) (port conns : ℕ) → core ≡ []
    → s ≡ listens port conns → IsOrderly s talk → AsksSoFar told core e e m m n n talk
asks_start told core e m n s talk port conns none is orderly = record {
  all = asks_none told e m n s talk port conns is orderly;
  live = λ t at c l kept. absurd (let wrong : None ≡ Some l = sym (none_kept core c none) ∙ kept in cc);
}

-- by equal parts, where no event came
pub asks_as : (told : Option (List ℕ)) (core core' : Lefts) (first e : EngineView) (m before n failed : ℕ) (talk talk' : Option Talk) → core' ≡ core
    → talk' ≡ talk → AsksSoFar told core first e m before n failed talk → AsksSoFar told core' first e m before n failed talk'
asks_as told core core' first e m before n failed talk talk' is same a =
    subst (λ x. AsksSoFar told x first e m before n failed talk') (sym is) (subst (λ x. AsksSoFar told core first e m before n failed x) (sym same) a)

-- a round, where the store still tells the same
pub asks_round : {told told' : Option (List ℕ)} {core core' : Lefts} {first old new : EngineView} {m before now n failed failed' : ℕ} {talk talk' : Option Talk}
    → told' ≡ told → AsksSoFar told core first old m before n failed talk → StaysAsked told' core core' old new before now failed failed' talk talk'
    → AsksSoFar told core' first new m now n failed' talk'
asks_round {told} {told'} {core} {core'} {first} {old} {new} {m} {before} {now} {n} {failed} {failed'} {talk} {talk'} same a stays =
    subst (λ x. AsksSoFar x core' first new m now n failed' talk') same
    (stays first m n (subst (λ x. AsksSoFar x core first old m before n failed talk) (sym same) a))
