-- The turns of a piece, one after the other.
--
--   along_start, along_next, along_hold, along_stop    the way through the bytes
--   calm_none, calm_both                               what the hub keeps
--   stays_none, stays_both                             what is kept of what answers requests
--   leaves_none, leaves_both                           what is kept of an engine and its store
--   received, stopped                                  a piece, by whether the connection goes on
use Rattle.std.proofs.Common.{◌≡◌, inl, inr, ℕ, ◌+◌, ◌-◌, Bool, false, List, [], ◌∷◌, ◌++◌, length, take, drop, refl, sym, ◌∙◌, ap, subst}
use Rattle.std.proofs.Common.{append_assoc, append-nil, arith}
use Rattle.std.specs.Prelude.{Option, Some, None, All}
use Rattle.std.proofs.lemmas.List.{length-take}
use Rattle.cs_base.specs.declared.content.limits.TheConstants.{MAX_CONNECTION_BYTES}
use Rattle.std.specs.List.{AllZip}
use Rattle.cs_base.specs.outside.Hub.{Listening, Talk}
use Rattle.std.proofs.lemmas.List.Elements.{All-append, All-cons}
use Rattle.cs_model.specs.Corpus.{Corpus}
use Rattle.cs_model_serving.specs.Responses.{Response, response_bytes, all_bytes}
use Rattle.cs_model_serving.specs.Connections.{Served, Left, MayReplace, serve, waits, answers_on}
use Rattle.cs_model_serving.specs.ServingLaws.{answers_before}
use Rattle.cs_model_serving.proofs.ServeLemmas.{serve-more}
use Rattle.cs_engine.specs.Keeping.{EngineView}
use Rattle.cs_hub.specs.Asked.{LeavesIndex, StaysAnswering}
use Rattle.cs_hub.specs.DueReads.{IsRest}
use Rattle.cs_hub.specs.Speaking.{Calm, IsEnded}
use Rattle.cs_hub.specs.Turns.{IsOne, IsAlong, Along, GoesOn, KeepsBelow, KeepsUnread, HoldsOn, Holds, Stops, Received}
use Rattle.cs_hub.proofs.SpeakLemmas.{breaks_both, breaks_none, rose_none, spoke_nothing, says_both}
use Rattle.cs_hub.proofs.ServedLemmas.{all_nil, zip_both, bytes_both, ended_behind}

pub along_start : (Over : Corpus → Type 0) (c : ℕ) (b : List ℕ) (m : ℕ) (talk : Option Talk) → Along Over c b b m m talk talk
along_start Over c b m talk = record {
  more = [];
  spoke = spoke_nothing c talk;
  counted = λ k over. record {
    sent = [];
    meets = record { first = []; each = tt; bytes = refl; going = all_nil (λ r. r.closes ≡ false); joined = refl };
    unchanged = refl;
    rose = rose_none m m (omega arith);
  };
}

regroup : (xs : List Response) (r : Response) (s : Served) → answers_before xs (answers_on r s) ≡ answers_before (xs ++ r ∷ []) s
regroup xs r s =
    ap (λ (l : List Response). let y : Served = record { responses = l; rest = s.rest; done = s.done } in y) (sym (append_assoc xs (r ∷ []) s.responses))

one_more : (k : Corpus) (b left later : List ℕ) (x y : List ℕ) (xs ys : List Response) → IsAlong k b left x xs → IsOne k left later y ys
    → IsAlong k b later (x ++ y) (xs ++ ys)
one_more k b left later x y xs ys h o = record {
  first = h.first ++ o.right ∷ [];
  each = subst (λ l. AllZip MayReplace (h.first ++ o.right ∷ []) (xs ++ l)) (sym o.is) (zip_both h.first (o.right ∷ []) xs (o.r ∷ []) h.each (o.replaces, tt));
  bytes = subst (λ l. x ++ y ≡ all_bytes (xs ++ l)) (sym o.is) (subst (λ l. x ++ l ≡ all_bytes (xs ++ o.r ∷ [])) (sym o.bytes)
      (ap (λ l. l ++ response_bytes o.r) h.bytes ∙ ap (λ l. all_bytes xs ++ l) (sym (append-nil (response_bytes o.r))) ∙ sym (bytes_both xs (o.r ∷ []))));
  going = subst (λ l. All (λ r. r.closes ≡ false) (xs ++ l)) (sym o.is)
      (All-append (λ r. r.closes ≡ false) xs (o.r ∷ []) h.going (All-cons (λ r. r.closes ≡ false) o.r [] o.going (all_nil (λ r. r.closes ≡ false))));
  joined = h.joined ∙ ap (answers_before h.first) o.joined ∙ regroup h.first o.right (serve k later);
}

pub along_next : (Over Later : Corpus → Type 0) (c used : ℕ) (b unread rest unread' left : List ℕ) (m n o : ℕ) (talk mid talk' : Option Talk)
    → ((k : Corpus) → Over k → Later k) → left ≡ drop used rest
    → Along Over c b (unread ++ rest) m n talk mid → GoesOn Later c used unread rest unread' n o mid talk'
    → Along Over c b (unread' ++ left) m o talk talk'
along_next Over Later c used b unread rest unread' left m n o talk mid talk' still is h s =
    subst (λ u. Along Over c b (u ++ left) m o talk talk') (sym s.emptied) (subst (λ l. Along Over c b l m o talk talk') (sym is)
    (says_both Over Later c false (λ k more sent. IsAlong k b (unread ++ rest) more sent) (λ k more sent. IsOne k (unread ++ rest) (drop used rest) more sent)
    (λ k more sent. IsAlong k b (drop used rest) more sent) m n o talk mid talk' still
    (λ k x y xs ys. one_more k b (unread ++ rest) (drop used rest) x y xs ys) h s.says))

all_held : (k : Corpus) (b left unread' more : List ℕ) (sent : List Response) → serve k left ≡ waits left → unread' ≡ left → IsAlong k b left more sent
    → HoldsOn k b unread' more sent
all_held k b left unread' more sent waiting kept h =
    let all : serve k b ≡ answers_before h.first (waits left) = h.joined ∙ ap (answers_before h.first) waiting in
    record {
      served = record {
        each = subst (λ l. AllZip MayReplace l sent) (sym (ap (λ (a : Served). a.responses) all ∙ append-nil h.first)) h.each;
        bytes = h.bytes;
      };
      going = ap (λ (a : Served). a.done) all;
      rest = kept ∙ sym (ap (λ (a : Served). a.rest) all);
    }

pub along_hold : (Over : Corpus → Type 0) (c : ℕ) (b unread rest unread' : List ℕ) (m n o : ℕ) (talk mid talk' : Option Talk)
    → Along Over c b (unread ++ rest) m n talk mid → KeepsUnread unread rest unread' n o mid talk' → Holds Over c b unread' m o talk talk'
along_hold Over c b unread rest unread' m n o talk mid talk' h s =
    subst (λ i. Holds Over c b unread' m i talk talk') (sym s.same) (subst (λ t. Holds Over c b unread' m n talk t) (sym s.untold) (record {
      more = h.more;
      spoke = h.spoke;
      counted = λ k over. let x = h.counted k over in record {
        sent = x.sent;
        meets = all_held k b (unread ++ rest) unread' h.more x.sent (serve-more k (unread ++ rest) s.waits) s.kept x.meets;
        unchanged = x.unchanged;
        rose = x.rose;
      };
    }))

all_stopped : (k : Corpus) (b left : List ℕ) (fails : Bool) (x y : List ℕ) (xs ys : List Response) → IsAlong k b left x xs → IsEnded (serve k left) y fails ys
    → IsEnded (serve k b) (x ++ y) fails (xs ++ ys)
all_stopped k b left fails x y xs ys h e =
    subst (λ a. IsEnded a (x ++ y) fails (xs ++ ys)) (sym h.joined)
    (ended_behind h.first (serve k left) fails x y xs ys (record { each = h.each; bytes = h.bytes }) h.going e)

pub along_stop : (Over Later : Corpus → Type 0) (c : ℕ) (b left : List ℕ) (m n o : ℕ) (talk mid talk' : Option Talk) → ((k : Corpus) → Over k → Later k)
    → Along Over c b left m n talk mid → Stops Later c left n o mid talk' → Stops Over c b m o talk talk'
along_stop Over Later c b left m n o talk mid talk' still h s = (
  s.0,
  says_both Over Later c s.0 (λ k more sent. IsAlong k b left more sent) (λ k more sent. IsEnded (serve k left) more s.0 sent)
      (λ k more sent. IsEnded (serve k b) more s.0 sent) m n o talk mid talk' still
      (λ k x y xs ys. all_stopped k b left s.0 x y xs ys) h s.1,
)

-- ---- what the hub keeps
pub calm_none : {H : Type 0} {stands : H → Listening} {tells : H → Option Talk} {fails send_fails : H → ℕ} (x : H) → Calm stands tells fails send_fails x x
calm_none {tells = tells} {send_fails = send_fails} x =
    record { state = refl; faults = refl; breaks = breaks_none (send_fails x) (tells x); orderly = λ h. h }

pub calm_both : {H : Type 0} {stands : H → Listening} {tells : H → Option Talk} {fails send_fails : H → ℕ} {x y z : H}
    → Calm stands tells fails send_fails x y → Calm stands tells fails send_fails y z → Calm stands tells fails send_fails x z
calm_both {tells = tells} {send_fails = send_fails} {x = x} {y = y} {z = z} h k = record {
  state = k.state ∙ h.state;
  faults = k.faults ∙ h.faults;
  breaks = breaks_both (send_fails x) (send_fails y) (send_fails z) (tells x) (tells y) (tells z) h.breaks k.breaks;
  orderly = λ o. k.orderly (h.orderly o);
}

-- ---- what is kept of what answers requests
pub stays_none : {A L : Type 0} {over : A → Corpus → Type 0} {lends : A → L} {fails : A → ℕ} (x : A) → StaysAnswering over lends fails x x
stays_none x = record { still = λ k h. h; lent = refl; later = omega arith }

pub stays_both : {A L : Type 0} {over : A → Corpus → Type 0} {lends : A → L} {fails : A → ℕ} {x y z : A} → StaysAnswering over lends fails x y
    → StaysAnswering over lends fails y z → StaysAnswering over lends fails x z
stays_both h k = record { still = λ c o. k.still c (h.still c o); lent = k.lent ∙ h.lent; later = omega (arith, h.later, k.later) }

pub leaves_none : {S L : Type 0} {tells : S → Option (List ℕ)} {lends : S → L} {fails : S → ℕ} (e : EngineView) (x : S) → LeavesIndex tells lends fails e e x x
leaves_none e x = record { index = refl; capacity = refl; bytes = refl; lent = refl; later = omega arith }

pub leaves_both : {S L : Type 0} {tells : S → Option (List ℕ)} {lends : S → L} {fails : S → ℕ} {d e f : EngineView} {x y z : S}
    → LeavesIndex tells lends fails d e x y → LeavesIndex tells lends fails e f y z → LeavesIndex tells lends fails d f x z
leaves_both h k = record {
  index = k.index ∙ h.index;
  capacity = k.capacity ∙ h.capacity;
  bytes = k.bytes ∙ h.bytes;
  lent = k.lent ∙ h.lent;
  later = omega (arith, h.later, k.later);
}

-- ---- the limit
-- it goes on, and by how many bytes were taken it is kept
received_from : (Over : Corpus → Type 0) (c taken : ℕ) (unread piece counted unread' : List ℕ) (kept : Option Left) (m n : ℕ) (talk talk' : Option Talk)
    → counted ≡ take (MAX_CONNECTION_BYTES - taken) piece → KeepsBelow (taken + length counted) unread' kept
    → Holds Over c (unread ++ counted) unread' m n talk talk' → IsRest (unread ++ counted) unread'
    → Received Over c (record { taken = taken; unread = unread }) piece kept m n talk talk'
received_from Over c taken unread piece counted unread' (Some l) m n talk talk' e k h rest = (
  subst (λ u. Holds Over c (unread ++ take (MAX_CONNECTION_BYTES - taken) piece) u m n talk talk') (sym (ap (λ (x : Left). x.unread) k.1))
      (subst (λ x. Holds Over c (unread ++ x) unread' m n talk talk') e h),
  let size = length-take (MAX_CONNECTION_BYTES - taken) piece in omega (arith, k.0, ap length e, ap (λ (x : Left). x.taken) k.1, size),
  omega (arith, k.0, ap (λ (x : Left). x.taken) k.1),
  subst (λ u. IsRest (unread ++ take (MAX_CONNECTION_BYTES - taken) piece) u) (sym (ap (λ (x : Left). x.unread) k.1))
      (subst (λ x. IsRest (unread ++ x) unread') e rest),
)
received_from Over c taken unread piece counted unread' None m n talk talk' e k h rest = inr (
  unread',
  subst (λ x. Holds Over c (unread ++ x) unread' m n talk talk') e h,
  let size = length-take (MAX_CONNECTION_BYTES - taken) piece in omega (arith, k, ap length e, size),
)

pub received : (Over : Corpus → Type 0) (c : ℕ) (old : Left) (taken : ℕ) (unread piece counted unread' : List ℕ) (kept : Option Left) (m n : ℕ)
    (talk talk' : Option Talk) → record { taken = taken; unread = unread } ≡ old → counted ≡ take (MAX_CONNECTION_BYTES - taken) piece
    → KeepsBelow (taken + length counted) unread' kept → Holds Over c (unread ++ counted) unread' m n talk talk' → IsRest (unread ++ counted) unread'
    → Received Over c old piece kept m n talk talk'
received Over c old taken unread piece counted unread' kept m n talk talk' is e k h rest =
    subst (λ (l : Left). Received Over c l piece kept m n talk talk') is
    (received_from Over c taken unread piece counted unread' kept m n talk talk' e k h rest)

-- it is to be closed
pub stopped : (Over : Corpus → Type 0) (c : ℕ) (old : Left) (taken : ℕ) (unread piece counted : List ℕ) (m n : ℕ) (talk talk' : Option Talk)
    → record { taken = taken; unread = unread } ≡ old → counted ≡ take (MAX_CONNECTION_BYTES - taken) piece
    → Stops Over c (unread ++ counted) m n talk talk' → Received Over c old piece None m n talk talk'
stopped Over c old taken unread piece counted m n talk talk' is e h =
    subst (λ (l : Left). Received Over c l piece None m n talk talk') is (inl (subst (λ x. Stops Over c (unread ++ x) m n talk talk') e h))
