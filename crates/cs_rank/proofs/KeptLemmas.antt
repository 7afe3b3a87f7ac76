-- How the bounded list goes on standing for the best of all that was offered.
--
--   let_go            one that isn't before the worst of enough better ones
--   all_let_go        each of a span that isn't before it
--   none_taken        of no more entries nothing changes
--   takes_more        a span and one entry more
--   span_taken        the first entries and the span behind them
--   kept_too          one more that is kept
--   pruned            what is cut to the room
--   full_from_last    what is cut to the room knows its worst
use Rattle.std.proofs.Common.{◌≡◌, ℕ, true, false, List, [], ◌∷◌, ◌++◌, ◌+◌, ◌-◌, ◌<◌, ◌≤◌, All, length, take, drop, get_or, append_assoc, append-nil, take-add, refl, sym, ◌∙◌, ap, subst, true≢false, arith}
use Rattle.std.specs.Prelude.{Option, Some, None, MatchOption}
use Rattle.std.proofs.lemmas.List.{take_more}
use Rattle.std.proofs.lemmas.List.Elements.{All-head, All-tail}
use Rattle.std.proofs.lemmas.Bool.{not-true, not-false}
use Rattle.std.specs.List.Sorted.{IsStrictlySortedBy}
use Rattle.std.specs.Ordering.{is_lt, is_gt}
use Rattle.std.specs.declared.cmp.Ordering.{Ordering}
use Rattle.std.specs.declared.cmp.Ordering.TheVariants.{Less, Equal, Greater}
use Rattle.cs_base.specs.content.Members.{members_in}
use Rattle.cs_base.specs.content.Orders.{by_rank}
use Rattle.cs_base.specs.declared.content.doc.Scored.{Scored}
use Rattle.cs_base.proofs.OrdersLemmas.{by_rank_total, by_rank_exact}
use Rattle.cs_base.proofs.MembersLemmas.{listed_itself, listing-rises}
use Rattle.cs_rank.specs.Kept.{IsFull, HasBest, Takes, TakesAll, is_behind}
use Rattle.cs_rank.proofs.ScorePlaces.{place, pushed, take-placed, unmoved, still_full, take_rises, take_again, full_at_last}

-- the first n of the listing with one more, by the first n of the listing
more_alike : (room : ℕ) (s : Scored) (seen kept : List Scored) → take room (members_in by_rank seen) ≡ take room (members_in by_rank kept) → take room (members_in by_rank (seen ++ s ∷ [])) ≡ take room (place by_rank s (members_in by_rank kept))
more_alike room s seen kept e =
    ap (take room) (pushed by_rank by_rank_total by_rank_exact seen s)
    ∙ take-placed by_rank room s (members_in by_rank seen)
    ∙ ap (λ l. take room (place by_rank s l)) e
    ∙ sym (take-placed by_rank room s (members_in by_rank kept))

not_greater : (o : Ordering) → is_lt o ≡ true → is_gt o ≡ false
not_greater Less e = refl
not_greater Equal e = refl
not_greater Greater e = sym e

pub let_go : (room : ℕ) (s : Scored) (seen kept : List Scored) (worst : Option Scored) → is_behind s worst ≡ true → HasBest seen room kept worst → HasBest (seen ++ s ∷ []) room kept worst
let_go room s seen kept None e h = absurd (true≢false (sym e))
let_go room s seen kept (Some w) e h = record {
  same = more_alike room s seen kept h.same ∙ unmoved by_rank by_rank_total room s w (members_in by_rank kept) h.full (not-true _ e);
  full = h.full;
}

-- a span of these
pub all_let_go : (room : ℕ) (span seen kept : List Scored) (worst : Option Scored) → All (λ s. is_behind s worst ≡ true) span → HasBest seen room kept worst → HasBest (seen ++ span) room kept worst
all_let_go room [] seen kept worst all h = subst (λ xs. HasBest xs room kept worst) (sym (append-nil seen)) h
all_let_go room (s ∷ span) seen kept worst all h =
    subst (λ xs. HasBest xs room kept worst) (append_assoc seen (s ∷ []) span)
    (all_let_go room span (seen ++ s ∷ []) kept worst (All-tail (λ s. is_behind s worst ≡ true) s span all) (let_go room s seen kept worst (All-head (λ s. is_behind s worst ≡ true) s span all) h))

-- of no more entries nothing changes
pub none_taken : (room : ℕ) (kept : List Scored) (worst : Option Scored) → TakesAll [] room kept worst kept worst
none_taken room kept worst seen h = subst (λ xs. HasBest xs room kept worst) (sym (append-nil seen)) h

-- a span and one entry more
pub takes_more : (room i : ℕ) (span first kept now : List Scored) (worst last after : Option Scored) (d : Scored) → i < length span → TakesAll (take i span) room first worst kept last
    → Takes (get_or span i d) room kept last now after → TakesAll (take (i + 1) span) room first worst now after
takes_more room i span first kept now worst last after d lt all one seen h =
    subst (λ xs. HasBest xs room now after) (append_assoc seen (take i span) (get_or span i d ∷ []) ∙ ap (λ xs. seen ++ xs) (sym (take_more span i d lt)))
    (one (seen ++ take i span) (all seen h))

-- the first entries and the span behind them
pub span_taken : (room from to : ℕ) (first scored kept now : List Scored) (last after : Option Scored) → from ≤ to → HasBest (first ++ take from scored) room kept last
    → TakesAll (take (to - from) (drop from scored)) room kept last now after → HasBest (first ++ take to scored) room now after
span_taken room from to first scored kept now last after up h all =
    subst (λ xs. HasBest xs room now after)
    (append_assoc first (take from scored) (take (to - from) (drop from scored)) ∙ ap (λ xs. first ++ xs) (sym (take-add from (to - from) scored) ∙ ap (λ n. take n scored) (let n : from + (to - from) ≡ to = omega arith in n)))
    (all (first ++ take from scored) h)

full_too : (room : ℕ) (s : Scored) (kept : List Scored) (worst : Option Scored) → is_behind s worst ≡ false → MatchOption worst (Unit {0}) (λ w. IsFull by_rank room w (members_in by_rank kept)) → MatchOption worst (Unit {0}) (λ w. IsFull by_rank room w (members_in by_rank (kept ++ s ∷ [])))
full_too room s kept None e h = tt
full_too room s kept (Some w) e h =
    subst (IsFull by_rank room w) (sym (pushed by_rank by_rank_total by_rank_exact kept s)) (still_full by_rank room s w (members_in by_rank kept) h (not_greater _ (not-false _ e)))

pub kept_too : (room : ℕ) (s : Scored) (seen kept : List Scored) (worst : Option Scored) → is_behind s worst ≡ false → HasBest seen room kept worst → HasBest (seen ++ s ∷ []) room (kept ++ s ∷ []) worst
kept_too room s seen kept worst e h = record {
  same = more_alike room s seen kept h.same ∙ ap (take room) (sym (pushed by_rank by_rank_total by_rank_exact kept s));
  full = full_too room s kept worst e h.full;
}

-- the first so many of a listing are their own listing
pub itself : (room : ℕ) (kept : List Scored) → take room (members_in by_rank kept) ≡ members_in by_rank (take room (members_in by_rank kept))
itself room kept = listed_itself by_rank by_rank_total by_rank_exact _ (take_rises by_rank room _ (listing-rises by_rank kept))

full_of : (room : ℕ) (now : List Scored) (worst : Option Scored) → now ≡ members_in by_rank now → MatchOption worst (Unit {0}) (λ w. IsFull by_rank room w now) → MatchOption worst (Unit {0}) (λ w. IsFull by_rank room w (members_in by_rank now))
full_of room now None e h = tt
full_of room now (Some w) e h = subst (IsFull by_rank room w) e h

pub pruned : (room : ℕ) (seen kept now : List Scored) (was worst : Option Scored) → now ≡ take room (members_in by_rank kept) → MatchOption worst (Unit {0}) (λ w. IsFull by_rank room w now) → HasBest seen room kept was → HasBest seen room now worst
pruned room seen kept now was worst e full h =
    let own : now ≡ members_in by_rank now = e ∙ itself room kept ∙ ap (members_in by_rank) (sym e) in
    record {
      same = h.same ∙ sym (take_again by_rank room (members_in by_rank kept)) ∙ ap (take room) (sym e) ∙ ap (take room) own;
      full = full_of room now worst own full;
    }

-- the last of exactly so many in order is the worst of so many
pub full_from_last : (room : ℕ) (kept now : List Scored) (last : Option Scored) → now ≡ take room (members_in by_rank kept) → MatchOption last (Unit {0}) (λ w. (length now ≡ room) × (0 < room) × (w ≡ get_or now (room - 1) w)) → MatchOption last (Unit {0}) (λ w. IsFull by_rank room w now)
full_from_last room kept now None e h = tt
full_from_last room kept now (Some w) e h =
    full_at_last by_rank by_rank_total room now w (subst (IsStrictlySortedBy by_rank) (sym e) (take_rises by_rank room _ (listing-rises by_rank kept))) h.0 h.1 h.2
