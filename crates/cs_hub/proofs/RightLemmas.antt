-- How one connection stands after an event of its own.
--
--   right_as           the same by equal parts
--   after_piece        a live connection after a piece
--   fresh_right        one that opened
--   refused_right, cut_right      one that opened and was told want of memory
--   let_go             one that isn't kept any more
use Rattle.std.proofs.Common.{◌≡◌, inl, inr, ℕ, ◌+◌, ◌-◌, ◌<◌, ◌≤◌, Bool, true, false, ◌||◌, List, [], ◌++◌, length, take, drop, refl, sym, ◌∙◌, ap, subst}
use Rattle.std.proofs.Common.{arith, length-append}
use Rattle.std.specs.Prelude.{Option, Some, None, nat_le, All}
use Rattle.std.proofs.lemmas.Bool.Decides.{nat_tests}
use Rattle.std.proofs.lemmas.List.{take-append-drop}
use Rattle.cs_base.specs.declared.content.limits.TheConstants.{MAX_CONNECTION_BYTES}
use Rattle.cs_base.specs.outside.Hub.{Talk}
use Rattle.cs_model.specs.Corpus.{Corpus}
use Rattle.cs_model_serving.specs.Responses.{Response, memory_bytes}
use Rattle.cs_model_serving.specs.Connections.{Served, Left, serve, answers, is_finished, IsAnswered, IsStopped, IsFair, StandsLive, StandsShut, StandsBy}
use Rattle.cs_model_serving.specs.Connections.{waits}
use Rattle.cs_model_serving.specs.ServingLaws.{answers_before}
use Rattle.cs_model_serving.proofs.FrameLemmas.{take_both, frame-nil}
use Rattle.cs_model_serving.proofs.ServeLemmas.{serve-goes_on, serve-more}
use Rattle.cs_hub.specs.HubFollowing.{HasCause, IsRight}
use Rattle.cs_hub.specs.Speaking.{IsServed, IsCutShort, IsMet, IsEnded, Says}
use Rattle.cs_hub.specs.Turns.{HoldsOn, Received}
use Rattle.cs_hub.proofs.ServedLemmas.{all_nil, zip_going, served_both, ended_behind, plain}

-- ---- booleans
first_false : (a b : Bool) → (a || b) ≡ false → a ≡ false
first_false false b h = refl
first_false true b h = h

not_le : (n m : ℕ) → m < n → nat_le n m ≡ false
not_le n m h = grind (arith, nat_tests)

is_le : (n m : ℕ) → n ≤ m → nat_le n m ≡ true
is_le n m h = grind (arith, nat_tests)

pub or_true : (a : Bool) → (a || true) ≡ true
or_true true = refl
or_true false = refl

pub or_false : (a : Bool) → (a || false) ≡ a
or_false true = refl
or_false false = refl

-- ---- by the words of connections
answered_of : (k : Corpus) (b s : List ℕ) (sent : List Response) → IsServed (answers k b).responses s sent → IsAnswered k b s sent
answered_of k b s sent h = record { each = h.each; bytes = h.bytes }

served_of : (k : Corpus) (b s : List ℕ) (sent : List Response) → IsAnswered k b s sent → IsServed (answers k b).responses s sent
served_of k b s sent h = record { each = h.each; bytes = h.bytes }

stopped_of : (k : Corpus) (b s : List ℕ) (sent : List Response) → IsCutShort (answers k b).responses s sent → IsStopped k b s sent
stopped_of k b s sent h = record { first = h.first; later = h.later; cut = h.cut; each = h.each; going = h.going; bytes = h.bytes }

fair_of : (k : Corpus) (b s : List ℕ) (sent : List Response) → IsMet (answers k b).responses s sent → IsFair k b s sent
fair_of k b s sent (inl h) = inl (answered_of k b s sent h)
fair_of k b s sent (inr h) = inr (stopped_of k b s sent h)

finished_by : (k : Corpus) (b : List ℕ) → (answers k b).done ≡ true → is_finished k b ≡ true
finished_by k b e = ap (λ x. x || nat_le MAX_CONNECTION_BYTES (length b)) e

-- the connection stands right with these responses, and has a cause where it isn't kept
abbrev pub StandsSo : Corpus → List ℕ → List ℕ → Bool → Bool → Option Left → List Response → Type 0
StandsSo k b s broken ended left sent = StandsBy k b s broken left sent × HasCause k b s broken ended left sent

ended_so : (k : Corpus) (b s : List ℕ) (fails ended : Bool) (sent : List Response) → IsEnded (answers k b) s fails sent → StandsSo k b s fails ended None sent
ended_so k b s false ended sent (inl h) = (inl (answered_of k b s sent h.0), inr (inl (finished_by k b h.1)))
ended_so k b s false ended sent (inr h) = (inr (stopped_of k b s sent h), inr (inr (inl (stopped_of k b s sent h))))
ended_so k b s true ended sent h = ((h.0, fair_of k b (s ++ h.0) sent h.1), inr (inr (inr refl)))

pub right_as : (k : Corpus) (b b' s s' : List ℕ) (p p' q q' : Bool) (x x' : Option Left) (sent : List Response) → b' ≡ b → s' ≡ s → p' ≡ p → q' ≡ q → x' ≡ x
    → IsRight k b s p q x sent → IsRight k b' s' p' q' x' sent
right_as k b b' s s' p p' q q' x x' sent eb es ep eq ex h =
    subst (λ y. IsRight k b' s' p' q' y sent) (sym ex)
    (subst (λ y. IsRight k b' s' p' y x sent) (sym eq)
    (subst (λ y. IsRight k b' s' y q x sent) (sym ep) (subst (λ y. IsRight k b' y p q x sent) (sym es) (subst (λ y. IsRight k y s p q x sent) (sym eb) h))))

-- ---- a piece on a live connection
module _ (k : Corpus) (b s piece : List ℕ) (ended : Bool) (old : Left) (sent : List Response) (h : StandsLive k b s false old sent)
    (going : ended ≡ false) where
  undone : (answers k b).done ≡ false
  undone = first_false (answers k b).done (nat_le MAX_CONNECTION_BYTES (length b)) h.unfinished

  run : Served
  run = serve k (old.unread ++ take (MAX_CONNECTION_BYTES - old.taken) piece)

  all_of : (n : ℕ) → (serve k (take MAX_CONNECTION_BYTES b)).done ≡ false → n ≡ length b
      → serve k (take MAX_CONNECTION_BYTES (b ++ piece)) ≡ answers_before (serve k (take MAX_CONNECTION_BYTES b)).responses
      (serve k ((serve k (take MAX_CONNECTION_BYTES b)).rest ++ take (MAX_CONNECTION_BYTES - n) piece))
  all_of n d e =
      ap (serve k) (take_both MAX_CONNECTION_BYTES b piece ∙ ap (λ i. take MAX_CONNECTION_BYTES b ++ take (MAX_CONNECTION_BYTES - i) piece) (sym e))
      ∙ serve-goes_on k (take MAX_CONNECTION_BYTES b) (take (MAX_CONNECTION_BYTES - n) piece) d

  all : answers k (b ++ piece) ≡ answers_before (answers k b).responses run
  unfolding run answers
  all = all_of old.taken undone h.taken ∙ ap (λ (u : List ℕ).
      answers_before (answers k b).responses (serve k (u ++ take (MAX_CONNECTION_BYTES - old.taken) piece))) (sym h.unread)

  stays_open : All (λ r. r.closes ≡ false) sent
  unfolding answers
  stays_open = zip_going (answers k b).responses sent h.answered.each ((plain k (take MAX_CONNECTION_BYTES b)).going undone)

  served_all : (more : List ℕ) (later : List Response) → IsServed run.responses more later
      → IsServed (answers k (b ++ piece)).responses (s ++ more) (sent ++ later)
  served_all more later r =
      subst (λ a. IsServed a.responses (s ++ more) (sent ++ later)) (sym all)
      (served_both (answers k b).responses run.responses s more sent later (served_of k b s sent h.answered) r)

  pub kept_after : (l : Left) (more : List ℕ) (later : List Response)
      → HoldsOn k (old.unread ++ take (MAX_CONNECTION_BYTES - old.taken) piece) l.unread more later → l.taken ≡ old.taken + length piece
      → l.taken < MAX_CONNECTION_BYTES
      → StandsSo k (b ++ piece) (s ++ more) false ended (Some l) (sent ++ later)
  unfolding run
  kept_after l more later r t room = (
    record {
      whole = refl;
      unfinished = ap (λ a. a.done || nat_le MAX_CONNECTION_BYTES (length (b ++ piece))) all
          ∙ ap (λ x. x || nat_le MAX_CONNECTION_BYTES (length (b ++ piece))) r.going
          ∙ not_le MAX_CONNECTION_BYTES (length (b ++ piece)) (omega (arith, room, t, h.taken, length-append b piece));
      answered = answered_of k (b ++ piece) (s ++ more) (sent ++ later) (served_all more later r.served);
      taken = omega (arith, t, h.taken, length-append b piece);
      unread = r.rest ∙ ap (λ a. a.rest) (sym all);
    },
    going,
  )

  pub full_after : (unread more : List ℕ) (later : List Response) → HoldsOn k (old.unread ++ take (MAX_CONNECTION_BYTES - old.taken) piece) unread more later
      → MAX_CONNECTION_BYTES ≤ old.taken + length piece → StandsSo k (b ++ piece) (s ++ more) false ended None (sent ++ later)
  unfolding run
  full_after unread more later r full = (
    inl (answered_of k (b ++ piece) (s ++ more) (sent ++ later) (served_all more later r.served)),
    inr (inl (ap (λ x. (answers k (b ++ piece)).done || x)
        (is_le MAX_CONNECTION_BYTES (length (b ++ piece)) (omega (arith, full, h.taken, length-append b piece))) ∙ or_true (answers k (b ++ piece)).done)),
  )

  pub ended_after : (fails : Bool) (more : List ℕ) (later : List Response)
      → IsEnded (serve k (old.unread ++ take (MAX_CONNECTION_BYTES - old.taken) piece)) more fails later
      → StandsSo k (b ++ piece) (s ++ more) fails ended None (sent ++ later)
  unfolding run
  ended_after fails more later r =
      ended_so k (b ++ piece) (s ++ more) fails ended (sent ++ later)
      (subst (λ a. IsEnded a (s ++ more) fails (sent ++ later)) (sym all)
      (ended_behind (answers k b).responses run fails s more sent later (served_of k b s sent h.answered) stays_open r))

-- what a piece does to a live connection, whatever came before
abbrev pub Advances : Corpus → Left → List ℕ → Option Left → Bool → List ℕ → List Response → Type 0
Advances k old piece kept fails more later = (b s : List ℕ) (ended : Bool) (sent : List Response) → StandsLive k b s false old sent → ended ≡ false
    → StandsSo k (b ++ piece) (s ++ more) fails ended kept (sent ++ later)

says_as : (Over : Corpus → Type 0) (c : ℕ) (fails : Bool) (P Q : Corpus → List ℕ → List Response → Type 0) (m n : ℕ) (talk talk' : Option Talk)
    → ((k : Corpus) (more : List ℕ) (sent : List Response) → P k more sent → Q k more sent) → Says Over c fails P m n talk talk'
    → Says Over c fails Q m n talk talk'
says_as Over c fails P Q m n talk talk' f h = record {
  more = h.more;
  spoke = h.spoke;
  counted = λ k over. let x = h.counted k over in record { sent = x.sent; meets = f k h.more x.sent x.meets; unchanged = x.unchanged; rose = x.rose };
}

pub after_piece : (Over : Corpus → Type 0) (c : ℕ) (old : Left) (piece : List ℕ) (kept : Option Left) (m n : ℕ) (talk talk' : Option Talk)
    → Received Over c old piece kept m n talk talk'
    → (fails : Bool) × Says Over c fails (λ k more later. Advances k old piece kept fails more later) m n talk talk'
after_piece Over c old piece (Some l) m n talk talk' r = (
  false,
  says_as Over c false _ (λ k more later. Advances k old piece (Some l) false more later) m n talk talk'
      (λ k more later x b s ended sent live going. kept_after k b s piece ended old sent live going l more later x r.1 r.2) r.0,
)
after_piece Over c old piece None m n talk talk' (inl r) = (
  r.0,
  says_as Over c r.0 _ (λ k more later. Advances k old piece None r.0 more later) m n talk talk'
      (λ k more later x b s ended sent live going. ended_after k b s piece ended old sent live going r.0 more later x) r.1,
)
after_piece Over c old piece None m n talk talk' (inr r) = (
  false,
  says_as Over c false _ (λ k more later. Advances k old piece None false more later) m n talk talk'
      (λ k more later x b s ended sent live going. full_after k b s piece ended old sent live going r.0 more later x r.2) r.1,
)

-- ---- the other events
answers_none : (k : Corpus) → answers k [] ≡ waits []
unfolding answers
answers_none k = serve-more k [] frame-nil

-- a connection on which nothing came
pub fresh_right : (k : Corpus) → IsRight k [] [] false false (Some (record { taken = 0; unread = [] })) []
fresh_right k = record {
  stands = record {
    whole = refl;
    unfinished = ap (λ a. a.done || nat_le MAX_CONNECTION_BYTES 0) (answers_none k) ∙ not_le MAX_CONNECTION_BYTES 0 (omega arith);
    answered = answered_of k [] [] [] (subst (λ a. IsServed a.responses [] []) (sym (answers_none k)) (record { each = tt; bytes = refl }));
    taken = refl;
    unread = ap (λ a. a.rest) (sym (answers_none k));
  };
  unchanged = refl;
  cause = refl;
}

stopped_none : (k : Corpus) → IsStopped k [] memory_bytes []
stopped_none k = record { first = []; later = (answers k []).responses; cut = refl; each = tt; going = all_nil (λ r. r.closes ≡ false); bytes = refl }

pub refused_right : (k : Corpus) (ended : Bool) → IsRight k [] memory_bytes false ended None []
refused_right k ended = record { stands = inr (stopped_none k); unchanged = refl; cause = inr (inr (inl (stopped_none k))) }

pub cut_right : (k : Corpus) (count : ℕ) (ended : Bool) → IsRight k [] (take count memory_bytes) true ended None []
cut_right k count ended = record {
  stands = (drop count memory_bytes, inr (subst (λ l. IsStopped k [] l []) (sym (take-append-drop count memory_bytes)) (stopped_none k)));
  unchanged = refl;
  cause = inr (inr (inr refl));
}

shut_of : (k : Corpus) (b s : List ℕ) (broken : Bool) (l : Left) (sent : List Response) → StandsLive k b s broken l sent → StandsShut k b s broken sent
shut_of k b s broken l sent h = subst (λ x. StandsShut k b s x sent) (sym h.whole) (inl h.answered)

-- a connection that isn't kept any more, since it ended or Over came
pub let_go : (k : Corpus) (b s : List ℕ) (broken ended : Bool) (x : Option Left) (sent : List Response) → IsRight k b s broken ended x sent
    → IsRight k b s broken true None sent
let_go k b s broken ended (Some l) sent h = record { stands = shut_of k b s broken l sent h.stands; unchanged = h.unchanged; cause = inl refl }
let_go k b s broken ended None sent h = record { stands = h.stands; unchanged = h.unchanged; cause = inl refl }
