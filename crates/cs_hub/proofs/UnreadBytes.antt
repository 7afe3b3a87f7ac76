-- Unread bytes, and what was seen of them.
--
--   seen_count   as many bytes were seen as there are
--   open_none, open_more     no bytes are unread, or those in which no head ended
--   span_of, span_front      where a head lies among unread bytes and those that came
use Rattle.std.proofs.Common.{◌≡◌, ℕ, ◌+◌, ◌-◌, ◌<◌, ◌≤◌, List, [], ◌++◌, length, take, sym, ap, subst, arith, length-append}
use Rattle.std.proofs.lemmas.List.{length-take-le}
use Rattle.cs_base.specs.declared.content.limits.TheConstants.{MAX_HEAD_BYTES}
use Rattle.cs_http.specs.declared.framing.Seen.{Seen}
use Rattle.cs_http.specs.declared.framing.Look.TheVariants.{Head, More}
use Rattle.cs_http.specs.Looking.{IsSeen, seen_of, look_of}
use Rattle.cs_http.proofs.LookLemmas.{look_more}
use Rattle.cs_model_serving.proofs.FrameLemmas.{frame-within}
use Rattle.cs_hub.specs.Turns.{IsOpen}
use Rattle.cs_hub.proofs.TurnLemmas.{Span, found_head}

pub seen_count : (b : List ℕ) (s : Seen) → IsSeen b s → s.count ≡ length b
unfolding seen_of
seen_count b s h = ap (λ (x : Seen). x.count) h.seen

pub open_of : (b : List ℕ) (s : Seen) → IsSeen b s → s.count < MAX_HEAD_BYTES → IsOpen b s
open_of b s h few = record { is_seen = h; count = seen_count b s h; few = few }

pub open_none : (b : List ℕ) (s : Seen) → b ≡ [] → IsSeen [] s → s.count < MAX_HEAD_BYTES → IsOpen b s
open_none b s e h few = open_of b s (subst (λ l. IsSeen l s) (sym e) h) few

-- what looking found where more bytes may come
pub open_more : (b : List ℕ) (s : Seen) → More s ≡ look_of b → s.count < MAX_HEAD_BYTES → IsOpen b s
open_more b s e few = open_of b s (look_more b s e) few

-- ---- where a head lies among unread bytes and those that came
pub span_of : (u r : List ℕ) (held skip end : ℕ) → Head skip end ≡ look_of (u ++ r) → (length u < end) × (end ≤ length u + length r) → held ≡ length u
    → Span u r skip end (end - held)
span_of u r held skip end found placed e =
    let at = found_head (u ++ r) skip end found in
    let w = (frame-within (u ++ r) skip end at).0 in
    record {
      found = at;
      front = let h = w.text in omega (arith, h);
      total = omega (arith, placed.0, e);
      within = omega (arith, placed.1, e);
      some = omega (arith, placed.0, e);
    }

pub span_front : (u r : List ℕ) (skip end used : ℕ) → Span u r skip end used → skip ≤ length (u ++ take used r)
span_front u r skip end used h = omega (arith, h.front, h.total, length-append u (take used r), length-take-le used r h.within)
