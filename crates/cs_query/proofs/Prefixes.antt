-- The prefixes of a text, read from the left.
--
--   HasRead cs i r      the reader r stands behind i characters of cs, and none of them is refused
--   one_more, at_stop, at_end     the steps of the loop
use Rattle.std.proofs.Common.{◌≡◌, ℕ, ◌<◌, ◌≤◌, ◌+◌, List, [], length, take, get_or, refl, ap, ◌∙◌, sym, arith, Some, None, Err}
use Rattle.std.proofs.lemmas.List.{get_or_default, take_more, take_all, length-take, length-reverse}
use Rattle.std.proofs.lemmas.List.Sums.{fold_push}
use borrow.Author.Count.{below_more}
use Rattle.cs_base.specs.declared.content.query.Query.{Query}
use Rattle.cs_model.proofs.RefusalLemmas.{AcceptedTo, take_take}
use Rattle.cs_model.specs.Tokens.{Token, with_next, tokens, size}
use Rattle.cs_model.specs.Grammar.{reading, steps, query_of, query_of_tokens}
use Rattle.cs_model.specs.Refusals.{verdict, depth, place_of, QueryRefusal, Bad, Limit, IsAccepted, IsRefused}
use Rattle.cs_query.specs.declared.fault.Stop.{Stop}
use Rattle.cs_query.specs.declared.fault.Stop.TheVariants as stops
use Rattle.cs_query.specs.declared.reader.Tail.{Tail}
use Rattle.cs_query.specs.declared.reader.Tail.TheVariants as tails
use Rattle.cs_query.specs.declared.reader.Reader.{Reader}
use Rattle.cs_query.specs.Following.{StandsBehind, StandsBehindAll, JudgesTokens, IsAnswerTo, fault_at, held, settled}
use Rattle.cs_query.proofs.Verdicts.{within_all}
use Rattle.cs_model.proofs.SizeLemmas.{size_next, place_more}
use Rattle.std.specs.Char.{encode_utf8}

-- ---- tokens
tokens_more : (cs : List ℕ) (i : ℕ) → i < length cs → tokens (take (i + 1) cs) ≡ with_next (get_or cs i 0) (tokens (take i cs))
tokens_more cs i h = ap tokens (take_more cs i 0 h) ∙ fold_push (λ ts x. with_next x ts) [] (take i cs) (get_or cs i 0)

-- ---- the verdict behind which a reader stands
-- the tail's own atom opens no bracket
depth_held : (t : Tail) (rest : List Token) → depth (held t rest) ≡ length (reading (steps (settled t rest))).open_now
depth_held tails.Start rest = refl
depth_held (tails.Gap n) rest = refl
depth_held (tails.Run s r) rest = refl
depth_held (tails.Word t w) rest = refl
depth_held (tails.Value t n v) rest = refl
depth_held tails.Dollar rest = refl
depth_held tails.Bar rest = refl
depth_held tails.Open rest = refl
depth_held tails.Close rest = refl

followed : (rest : List Token) (r : Reader) → StandsBehind rest r → verdict (held r.tail rest) ≡ None
followed rest r f =
    let deep : depth (held r.tail rest) ≡ length r.gathered.open_now = depth_held r.tail rest ∙ ap (λ x. length x.open_now) f.stands.built ∙ length-reverse r.gathered.open_now in
    within_all (held r.tail rest) f.fine (omega (arith, f.stands.left)) f.short (omega (arith, f.stands.begun, f.stands.few)) (omega (arith, f.stands.atoms, f.stands.some)) (omega (arith, deep, f.stands.shallow))

followed_all : (ts : List Token) (r : Reader) → StandsBehindAll ts r → verdict ts ≡ None
followed_all ts r f = ap verdict f.1 ∙ followed f.0 r f.2

-- ---- prefixes
accepted_front : (cs : List ℕ) (i : ℕ) → AcceptedTo cs i → IsAccepted (take i cs)
accepted_front cs i h k within =
    let short : k ≤ i = omega (arith, length-take i cs) in
    ap (λ x. verdict (tokens x)) (take_take k i cs short) ∙ h k short

accepted_more : (cs : List ℕ) (i : ℕ) → AcceptedTo cs i → verdict (tokens (take (i + 1) cs)) ≡ None → AcceptedTo cs (i + 1)
accepted_more cs i h e k within =
    let P : ℕ → Type 0 = λ k. verdict (tokens (take k cs)) ≡ None in
    below_more P (i + 1) (λ k lt. h k (omega arith)) e k (omega arith)

-- the reader stands behind i characters of cs, at the byte `at`
pub record HasRead (cs : List ℕ) (i at : ℕ) (r : Reader) : Type 0 where
  pub follows : StandsBehindAll (tokens (take i cs)) r
  pub accepted : AcceptedTo cs i
  pub place : at ≡ place_of cs i
  pub bytes : size (tokens (take i cs)) ≡ at

-- x is the next character
next_tokens : (cs : List ℕ) (i at x : ℕ) (r : Reader) (h : HasRead cs i at r) → i < length cs → x ≡ get_or cs i 0 → tokens (take (i + 1) cs) ≡ with_next x (held r.tail h.follows.0)
next_tokens cs i at x r h within same = tokens_more cs i within ∙ ap (λ y. with_next y (tokens (take i cs))) (sym same) ∙ ap (with_next x) h.follows.1

-- x comes at place i
abbrev ComesAt : List ℕ → ℕ → ℕ → Type 0
ComesAt cs i x = (i < length cs) × (x ≡ get_or cs i x)

stands_at : (cs : List ℕ) (i x : ℕ) → ComesAt cs i x → x ≡ get_or cs i 0
stands_at cs i x t = t.1 ∙ sym (get_or_default cs i 0 x t.0)

pub one_more : (cs : List ℕ) (i at x : ℕ) (r next : Reader) (h : HasRead cs i at r) → ComesAt cs i x
    → StandsBehindAll (with_next x (held r.tail h.follows.0)) next → HasRead cs (i + 1) (at + length (encode_utf8 x)) next
one_more cs i at x r next h t f =
    let within : i < length cs = t.0 in
    let same : x ≡ get_or cs i 0 = stands_at cs i x t in
    let follows : StandsBehindAll (tokens (take (i + 1) cs)) next = (f.0, next_tokens cs i at x r h within same ∙ f.1, f.2) in
    let long : length (encode_utf8 x) ≡ length (encode_utf8 (get_or cs i 0)) = ap (λ y. length (encode_utf8 y)) same in
    record {
      follows = follows;
      accepted = accepted_more cs i h.accepted (followed_all _ next follows);
      place = omega (arith, h.place, place_more cs i within, long);
      bytes = ap size (tokens_more cs i within) ∙ size_next (get_or cs i 0) (tokens (take i cs)) ∙ omega (arith, h.bytes, long);
    }

at_fault : (cs : List ℕ) (i at x : ℕ) (r : Reader) (fault : QueryRefusal) (h : HasRead cs i at r) → ComesAt cs i x
    → verdict (with_next x (held r.tail h.follows.0)) ≡ Some fault → IsRefused cs at fault
at_fault cs i at x r fault h t v = record {
  count = i;
  within = t.0;
  place = h.place;
  before = accepted_front cs i h.accepted;
  here = ap verdict (next_tokens cs i at x r h t.0 (stands_at cs i x t)) ∙ v;
}

pub at_stop : (cs : List ℕ) (i at x : ℕ) (r : Reader) (s : Stop) (h : HasRead cs i at r) → ComesAt cs i x
    → JudgesTokens (with_next x (held r.tail h.follows.0)) (Err s) → IsAnswerTo cs (Err (fault_at at s))
at_stop cs i at x r stops.Bad h t v = at_fault cs i at x r Bad h t v
at_stop cs i at x r (stops.Limit which) h t v = at_fault cs i at x r (Limit which) h t v
at_stop cs i at x r stops.Memory h t v = tt

pub at_end : (cs : List ℕ) (i at : ℕ) (r : Reader) (q : Query) → length cs ≤ i → HasRead cs i at r
    → ((rest : List Token) → StandsBehind rest r → q ≡ query_of_tokens (held r.tail rest)) → IsAccepted cs × (q ≡ query_of cs)
at_end cs i at r q done h told =
    let all : take i cs ≡ cs = take_all i cs done in
    (λ k within. h.accepted k (omega arith), told h.follows.0 h.follows.2 ∙ ap query_of_tokens (sym h.follows.1) ∙ ap query_of all)
