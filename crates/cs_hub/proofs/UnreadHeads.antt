-- The heads of unread bytes, and what they ask.
--
--   heads-framed      the heads are those that framing finds, one behind the other
--   heads-served      what is served of bytes is the responses to these heads, and maybe that to a head that is too long
--   heads-more, heads-long, heads-head, heads-goes_on, heads-closes    the heads, by what framing found
--   heads-goes_behind   the heads of bytes with any behind them
--   requests-none     no bytes ask nothing
use Rattle.std.proofs.Common.{◌≡◌, ◌⊎◌, inl, inr, ℕ, suc, ◌<◌, ◌≤◌, Bool, true, false, cond, List, [], ◌∷◌, ◌++◌, map, length, drop, slice_range, refl, sym}
use Rattle.std.proofs.Common.{◌∙◌, ◌-◌, ap, ap₂, subst, take, arith, length-drop}
use Rattle.std.proofs.lemmas.List.{take-append-le, drop-append-le}
use Prim.Native.Nat.{zero}
use Rattle.cs_model.specs.Corpus.{Corpus}
use Rattle.cs_model_serving.specs.declared.framed.Framed.{Framed}
use Rattle.cs_model_serving.specs.declared.framed.Framed.TheVariants.{Head, More, TooLong}
use Rattle.cs_model_serving.specs.Connections.{Served, answered, answered_by, serve, serve_heads, framed}
use Rattle.cs_model_serving.specs.Framing.{frame}
use Rattle.cs_model_serving.specs.Heads.{Judgement, refused, asks, judge}
use Rattle.cs_model_serving.specs.Responses.{Response, response_to, to_judgement, too_long}
use Rattle.cs_model_serving.proofs.FrameLemmas.{frame-head, frame-nil, frame-within}
use Rattle.cs_hub.specs.DueReads.{closes_behind, heads_among, heads_framed, heads_on, requests_on, requests_to}

-- ---- the number of heads
-- two ways to go on that agree on fewer bytes
abbrev Agree : List ℕ → (List ℕ → List (List ℕ)) → (List ℕ → List (List ℕ)) → Type 0
Agree b later other = (rest : List ℕ) → length rest < length b → later rest ≡ other rest

framed_same : (b : List ℕ) (f : Framed) (later other : List ℕ → List (List ℕ)) → frame b ≡ f → Agree b later other
    → heads_framed b f later ≡ heads_framed b f other
framed_same b (Head skip end) later other h agree =
    let w = (frame-within b skip end h).0 in
    ap (λ l. slice_range b skip end ∷ cond (closes_behind (judge (slice_range b skip end))) [] l)
    (agree (drop end b) (omega (arith, w.text, w.within, length-drop end b)))
framed_same b More later other h agree = refl
framed_same b TooLong later other h agree = refl

none_among : (n : ℕ) (b : List ℕ) → length b ≤ 0 → heads_among n b ≡ []
none_among zero b h = refl
none_among (suc n) [] h = ap (λ f. heads_framed [] f (heads_among n)) frame-nil
none_among (suc n) (c ∷ b) h = absurd (omega arith)

abbrev Enough : ℕ → Type 0
Enough n = (m : ℕ) (b : List ℕ) → length b ≤ n → length b ≤ m → heads_among n b ≡ heads_among m b

enough : (n : ℕ) → Enough n
enough zero m b p q = sym (none_among m b p)
enough (suc n) zero b p q = none_among (suc n) b q
enough (suc n) (suc m) b p q =
    framed_same b (frame b) (heads_among n) (heads_among m) refl (λ rest less. enough n m rest (omega (arith, less, p)) (omega (arith, less, q)))

pub heads-framed : (b : List ℕ) → heads_on b ≡ heads_framed b (frame b) heads_on
unfolding heads_on
heads-framed [] = sym (ap (λ f. heads_framed [] f (λ b. heads_among (length b) b)) frame-nil)
heads-framed (c ∷ b) =
    framed_same (c ∷ b) (frame (c ∷ b)) (heads_among (length b)) (λ rest. heads_among (length rest) rest) refl
    (λ rest less. enough (length b) (length rest) rest (omega (arith, less)) (omega arith))

-- ---- the heads, by what framing found
pub heads-more : (b : List ℕ) → frame b ≡ More → heads_on b ≡ []
heads-more b h = heads-framed b ∙ ap (λ f. heads_framed b f heads_on) h

pub heads-long : (b : List ℕ) → frame b ≡ TooLong → heads_on b ≡ []
heads-long b h = heads-framed b ∙ ap (λ f. heads_framed b f heads_on) h

pub requests-none : requests_on [] ≡ []
requests-none = ap requests_to (heads-more [] frame-nil)

pub heads-head : (b : List ℕ) (skip end : ℕ) → frame b ≡ Head skip end → (later : List (List ℕ)) × (heads_on b ≡ slice_range b skip end ∷ later)
heads-head b skip end h =
    (cond (closes_behind (judge (slice_range b skip end))) [] (heads_on (drop end b)), heads-framed b ∙ ap (λ f. heads_framed b f heads_on) h)

heads-by : (b : List ℕ) (skip end : ℕ) (closes : Bool) → frame b ≡ Head skip end → closes_behind (judge (slice_range b skip end)) ≡ closes
    → heads_on b ≡ slice_range b skip end ∷ cond closes [] (heads_on (drop end b))
heads-by b skip end closes h is =
    heads-framed b ∙ ap (λ f. heads_framed b f heads_on) h ∙ ap (λ x. slice_range b skip end ∷ cond x [] (heads_on (drop end b))) is

pub heads-goes_on : (b : List ℕ) (skip end : ℕ) → frame b ≡ Head skip end → closes_behind (judge (slice_range b skip end)) ≡ false
    → heads_on b ≡ slice_range b skip end ∷ heads_on (drop end b)
heads-goes_on b skip end h is = heads-by b skip end false h is

-- with any bytes behind
pub heads-goes_behind : (b more : List ℕ) (skip end : ℕ) → frame b ≡ Head skip end → closes_behind (judge (slice_range b skip end)) ≡ false
    → heads_on (b ++ more) ≡ slice_range b skip end ∷ heads_on (drop end b ++ more)
heads-goes_behind b more skip end h is =
    let w = (frame-within b skip end h).0 in
    let range : slice_range (b ++ more) skip end ≡ slice_range b skip end =
    ap (take (end - skip)) (drop-append-le skip b more (omega (arith, w.text, w.within)))
    ∙ take-append-le (end - skip) (drop skip b) more (omega (arith, w.text, w.within, length-drop skip b)) in
    heads-goes_on (b ++ more) skip end (frame-head b more skip end h) (subst (λ x. closes_behind (judge x) ≡ false) (sym range) is)
    ∙ ap₂ (λ x rest. x ∷ heads_on rest) range (drop-append-le end b more w.within)

pub heads-closes : (b : List ℕ) (skip end : ℕ) → frame b ≡ Head skip end → closes_behind (judge (slice_range b skip end)) ≡ true
    → heads_on b ≡ slice_range b skip end ∷ []
heads-closes b skip end h is = heads-by b skip end true h is

-- ---- what is served
pub closes_by : (k : Corpus) (j : Judgement) → (to_judgement k j).closes ≡ closes_behind j
closes_by k (refused r) = refl
closes_by k (asks p close) = refl

pub closes_as : (k : Corpus) (h : List ℕ) → (response_to k h).closes ≡ closes_behind (judge h)
unfolding response_to
closes_as k h = closes_by k (judge h)

-- the responses are those to the heads, and behind them maybe that to a head that is too long
abbrev pub AreFor : Corpus → List Response → List (List ℕ) → Type 0
AreFor k rs hs = (later : List Response) × (rs ≡ map (response_to k) hs ++ later) × ((later ≡ []) ⊎ (later ≡ too_long ∷ []))

one_head : (k : Corpus) (h rest : List ℕ) (close : Bool) (later : List ℕ → Served) (heads : List ℕ → List (List ℕ))
    → AreFor k (later rest).responses (heads rest) → AreFor k (answered_by close (response_to k h) rest later).responses (h ∷ cond close [] (heads rest))
one_head k h rest true later heads ih = ([], refl, inl refl)
one_head k h rest false later heads ih = (ih.0, ap (λ l. response_to k h ∷ l) ih.1, ih.2)

found_head : (k : Corpus) (b : List ℕ) (f : Framed) (later : List ℕ → Served) (heads : List ℕ → List (List ℕ))
    → ((rest : List ℕ) → AreFor k (later rest).responses (heads rest)) → AreFor k (framed k b f later).responses (heads_framed b f heads)
found_head k b (Head skip end) later heads ih =
    let h = slice_range b skip end in
    subst (λ close. AreFor k (answered (response_to k h) (drop end b) later).responses (h ∷ cond close [] (heads (drop end b)))) (closes_as k h)
    (one_head k h (drop end b) (response_to k h).closes later heads (ih (drop end b)))
found_head k b More later heads ih = ([], refl, inl refl)
found_head k b TooLong later heads ih = (too_long ∷ [], refl, inr refl)

served_among : (k : Corpus) (n : ℕ) (b : List ℕ) → AreFor k (serve_heads k n b).responses (heads_among n b)
served_among k zero b = ([], refl, inl refl)
served_among k (suc n) b = found_head k b (frame b) (serve_heads k n) (heads_among n) (λ rest. served_among k n rest)

pub heads-served : (k : Corpus) (b : List ℕ) → AreFor k (serve k b).responses (heads_on b)
unfolding serve heads_on
heads-served k b = served_among k (length b) b
