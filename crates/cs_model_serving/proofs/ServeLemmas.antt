-- Laws of what is served.
--
--   serve-framed      unread bytes are served head by head
--   serve-more, serve-too_long, serve-head    the same by what framing found
--   serve-goes_on     while the connection goes on, more bytes are served behind those that aren't read
--   serve-stays       once it is closed, more bytes have no response
--   serve-waits       while it goes on, no head ends in the bytes that aren't read
--   serve-rest        the bytes that aren't read are the last ones
--   answers-prefix    the answers to some first bytes are the first answers to all
use Rattle.std.proofs.Common.{◌≡◌, ℕ, suc, ◌-◌, ◌<◌, ◌≤◌, Bool, true, false, List, [], ◌∷◌, ◌++◌, length, take, drop, append_assoc, append-nil, refl, sym, ◌∙◌, ap, ap₂, subst, arith, length-drop, take-append-drop, slice_range}
use Prim.Native.Nat.{zero}
use Rattle.std.proofs.lemmas.List.{take-append-le, drop-append-le}
use Rattle.cs_base.specs.declared.content.limits.TheConstants.{MAX_CONNECTION_BYTES}
use Rattle.cs_model.specs.Corpus.{Corpus}
use Rattle.cs_model_serving.specs.declared.framed.Framed.{Framed}
use Rattle.cs_model_serving.specs.declared.framed.Framed.TheVariants.{Head, More, TooLong}
use Rattle.cs_model_serving.specs.Framing.{frame}
use Rattle.cs_model_serving.specs.Responses.{Response, response_to, too_long}
use Rattle.cs_model_serving.specs.Connections.{Served, waits, ends, answers_on, answered_by, answered, framed, serve_heads, serve, answers}
use Rattle.cs_model_serving.specs.ServingLaws.{answers_before}
use Rattle.cs_model_serving.proofs.FrameLemmas.{take_both, frame-head, frame-too_long, frame-within, frame-nil}

-- ---- the number of heads
-- two ways to go on that agree on fewer bytes
abbrev Agree : List ℕ → (List ℕ → Served) → (List ℕ → Served) → Type 0
Agree b later other = (rest : List ℕ) → length rest < length b → later rest ≡ other rest

answered-same : (close : Bool) (r : Response) (rest : List ℕ) (later other : List ℕ → Served) → later rest ≡ other rest → answered_by close r rest later ≡ answered_by close r rest other
answered-same true r rest later other h = refl
answered-same false r rest later other h = ap (answers_on r) h

framed-same : (k : Corpus) (b : List ℕ) (f : Framed) (later other : List ℕ → Served) → frame b ≡ f → Agree b later other → framed k b f later ≡ framed k b f other
framed-same k b (Head skip end) later other h agree =
    let w = (frame-within b skip end h).0 in
    answered-same _ _ (drop end b) later other (agree (drop end b) (omega (arith, w.text, w.within, length-drop end b)))
framed-same k b More later other h agree = refl
framed-same k b TooLong later other h agree = refl

none_served : (k : Corpus) (n : ℕ) (b : List ℕ) → length b ≤ 0 → serve_heads k n b ≡ waits b
none_served k zero b h = refl
none_served k (suc n) [] h = ap (λ f. framed k [] f (serve_heads k n)) frame-nil
none_served k (suc n) (c ∷ b) h = absurd (omega arith)

abbrev Enough : Corpus → ℕ → Type 0
Enough k n = (m : ℕ) (b : List ℕ) → length b ≤ n → length b ≤ m → serve_heads k n b ≡ serve_heads k m b

enough : (k : Corpus) (n : ℕ) → Enough k n
enough k zero m b p q = sym (none_served k m b p)
enough k (suc n) zero b p q = none_served k (suc n) b q
enough k (suc n) (suc m) b p q = framed-same k b (frame b) (serve_heads k n) (serve_heads k m) refl (λ rest less. enough k n m rest (omega (arith, less, p)) (omega (arith, less, q)))

pub serve-framed : (k : Corpus) (b : List ℕ) → serve k b ≡ framed k b (frame b) (serve k)
unfolding serve
serve-framed k [] = sym (ap (λ f. framed k [] f (λ b. serve_heads k (length b) b)) frame-nil)
serve-framed k (c ∷ b) =
    framed-same k (c ∷ b) (frame (c ∷ b)) (serve_heads k (length b)) (λ rest. serve_heads k (length rest) rest) refl
    (λ rest less. enough k (length b) (length rest) rest (omega (arith, less)) (omega arith))

pub serve-more : (k : Corpus) (b : List ℕ) → frame b ≡ More → serve k b ≡ waits b
serve-more k b h = serve-framed k b ∙ ap (λ f. framed k b f (serve k)) h

pub serve-too_long : (k : Corpus) (b : List ℕ) → frame b ≡ TooLong → serve k b ≡ ends too_long b
serve-too_long k b h = serve-framed k b ∙ ap (λ f. framed k b f (serve k)) h

pub serve-head : (k : Corpus) (b : List ℕ) (skip end : ℕ) → frame b ≡ Head skip end → serve k b ≡ answered (response_to k (slice_range b skip end)) (drop end b) (serve k)
serve-head k b skip end h = serve-framed k b ∙ ap (λ f. framed k b f (serve k)) h

-- with more bytes behind
range-more : (b more : List ℕ) (skip end : ℕ) → skip < end → end ≤ length b → slice_range (b ++ more) skip end ≡ slice_range b skip end
range-more b more skip end p q =
    ap (take (end - skip)) (drop-append-le skip b more (omega (arith, p, q)))
    ∙ take-append-le (end - skip) (drop skip b) more (omega (arith, p, q, length-drop skip b))

serve-head_more : (k : Corpus) (b more : List ℕ) (skip end : ℕ) → frame b ≡ Head skip end → serve k (b ++ more) ≡ answered (response_to k (slice_range b skip end)) (drop end b ++ more) (serve k)
serve-head_more k b more skip end h =
    let w = (frame-within b skip end h).0 in
    serve-head k (b ++ more) skip end (frame-head b more skip end h)
    ∙ ap₂ (λ r rest. answered r rest (serve k)) (ap (response_to k) (range-more b more skip end w.text w.within)) (drop-append-le end b more w.within)

-- ---- going on
abbrev GoesOn : Corpus → List ℕ → List ℕ → Type 0
GoesOn k b more = (serve k b).done ≡ false → serve k (b ++ more) ≡ answers_before (serve k b).responses (serve k ((serve k b).rest ++ more))

-- the same of what is served, given apart
abbrev GoesOnAs : Corpus → List ℕ → List ℕ → Served → Type 0
GoesOnAs k b more s = s.done ≡ false → serve k (b ++ more) ≡ answers_before s.responses (serve k (s.rest ++ more))

goes_on_answered : (k : Corpus) (b more rest : List ℕ) (close : Bool) (r : Response) → serve k (b ++ more) ≡ answered_by close r (rest ++ more) (serve k) → GoesOn k rest more → GoesOnAs k b more (answered_by close r rest (serve k))
goes_on_answered k b more rest true r is on h = absurd (cc)
goes_on_answered k b more rest false r is on h = is ∙ ap (answers_on r) (on h)

goes_on_by : (k : Corpus) (b more : List ℕ) (f : Framed) → frame b ≡ f → ((rest : List ℕ) → length rest < length b → GoesOn k rest more) → GoesOnAs k b more (framed k b f (serve k))
goes_on_by k b more (Head skip end) h ih =
    let w = (frame-within b skip end h).0 in
    goes_on_answered k b more (drop end b) _ (response_to k (slice_range b skip end)) (serve-head_more k b more skip end h) (ih (drop end b) (omega (arith, w.text, w.within, length-drop end b)))
goes_on_by k b more More h ih = λ e. refl
goes_on_by k b more TooLong h ih = λ e. absurd (cc)

goes_on_in : (k : Corpus) (n : ℕ) (b more : List ℕ) → length b ≤ n → GoesOn k b more
goes_on_in k zero [] more h = subst (GoesOnAs k [] more) (sym (serve-more k [] frame-nil)) (λ e. refl)
goes_on_in k zero (c ∷ b) more h = absurd (omega arith)
goes_on_in k (suc n) b more h = subst (GoesOnAs k b more) (sym (serve-framed k b)) (goes_on_by k b more (frame b) refl (λ rest less. goes_on_in k n rest more (omega (arith, less, h))))

pub serve-goes_on : (k : Corpus) (b more : List ℕ) → (serve k b).done ≡ false → serve k (b ++ more) ≡ answers_before (serve k b).responses (serve k ((serve k b).rest ++ more))
serve-goes_on k b more = goes_on_in k (length b) b more (omega arith)

-- ---- closed
pub record Closed (k : Corpus) (b more : List ℕ) (s : Served) : Type 0 where
  pub responses : (serve k (b ++ more)).responses ≡ s.responses
  pub done : (serve k (b ++ more)).done ≡ true

abbrev StaysAs : Corpus → List ℕ → List ℕ → Served → Type 0
StaysAs k b more s = s.done ≡ true → Closed k b more s

stays_answered : (k : Corpus) (b more rest : List ℕ) (close : Bool) (r : Response) → serve k (b ++ more) ≡ answered_by close r (rest ++ more) (serve k) → StaysAs k rest more (serve k rest) → StaysAs k b more (answered_by close r rest (serve k))
stays_answered k b more rest true r is on h = record { responses = ap (λ s. s.responses) is; done = ap (λ s. s.done) is }
stays_answered k b more rest false r is on h =
    let later = on h in
    record { responses = ap (λ s. s.responses) is ∙ ap (λ rs. r ∷ rs) later.responses; done = ap (λ s. s.done) is ∙ later.done }

stays_by : (k : Corpus) (b more : List ℕ) (f : Framed) → frame b ≡ f → ((rest : List ℕ) → length rest < length b → StaysAs k rest more (serve k rest)) → StaysAs k b more (framed k b f (serve k))
stays_by k b more (Head skip end) h ih =
    let w = (frame-within b skip end h).0 in
    stays_answered k b more (drop end b) _ (response_to k (slice_range b skip end)) (serve-head_more k b more skip end h) (ih (drop end b) (omega (arith, w.text, w.within, length-drop end b)))
stays_by k b more More h ih = λ e. absurd (cc)
stays_by k b more TooLong h ih = λ e.
    let is = serve-too_long k (b ++ more) (frame-too_long b more h) in
    record { responses = ap (λ s. s.responses) is; done = ap (λ s. s.done) is }

stays_in : (k : Corpus) (n : ℕ) (b more : List ℕ) → length b ≤ n → StaysAs k b more (serve k b)
stays_in k zero [] more h = subst (StaysAs k [] more) (sym (serve-more k [] frame-nil)) (λ e. absurd (cc))
stays_in k zero (c ∷ b) more h = absurd (omega arith)
stays_in k (suc n) b more h = subst (StaysAs k b more) (sym (serve-framed k b)) (stays_by k b more (frame b) refl (λ rest less. stays_in k n rest more (omega (arith, less, h))))

pub serve-stays : (k : Corpus) (b more : List ℕ) → (serve k b).done ≡ true → Closed k b more (serve k b)
serve-stays k b more = stays_in k (length b) b more (omega arith)

-- ---- what isn't read
abbrev WaitsAs : Served → Type 0
WaitsAs s = s.done ≡ false → frame s.rest ≡ More

waits_answered : (k : Corpus) (rest : List ℕ) (close : Bool) (r : Response) → WaitsAs (serve k rest) → WaitsAs (answered_by close r rest (serve k))
waits_answered k rest true r on h = absurd (cc)
waits_answered k rest false r on h = on h

waits_by : (k : Corpus) (b : List ℕ) (f : Framed) → frame b ≡ f → ((rest : List ℕ) → length rest < length b → WaitsAs (serve k rest)) → WaitsAs (framed k b f (serve k))
waits_by k b (Head skip end) h ih =
    let w = (frame-within b skip end h).0 in
    waits_answered k (drop end b) _ (response_to k (slice_range b skip end)) (ih (drop end b) (omega (arith, w.text, w.within, length-drop end b)))
waits_by k b More h ih = λ e. h
waits_by k b TooLong h ih = λ e. absurd (cc)

waits_in : (k : Corpus) (n : ℕ) (b : List ℕ) → length b ≤ n → WaitsAs (serve k b)
waits_in k zero [] h = subst WaitsAs (sym (serve-more k [] frame-nil)) (λ e. frame-nil)
waits_in k zero (c ∷ b) h = absurd (omega arith)
waits_in k (suc n) b h = subst WaitsAs (sym (serve-framed k b)) (waits_by k b (frame b) refl (λ rest less. waits_in k n rest (omega (arith, less, h))))

pub serve-waits : (k : Corpus) (b : List ℕ) → (serve k b).done ≡ false → frame (serve k b).rest ≡ More
serve-waits k b = waits_in k (length b) b (omega arith)

-- the bytes that aren't read are the last of all
pub record IsEnd (b rest : List ℕ) : Type 0 where
  pub read : List ℕ
  pub is : b ≡ read ++ rest

end_answered : (k : Corpus) (b rest : List ℕ) (close : Bool) (r : Response) → IsEnd b rest → IsEnd rest (serve k rest).rest → IsEnd b (answered_by close r rest (serve k)).rest
end_answered k b rest true r here on = here
end_answered k b rest false r here on = record {
  read = here.read ++ on.read;
  is = here.is ∙ ap (λ l. here.read ++ l) on.is ∙ sym (append_assoc here.read on.read (serve k rest).rest);
}

end_by : (k : Corpus) (b : List ℕ) (f : Framed) → frame b ≡ f → ((rest : List ℕ) → length rest < length b → IsEnd rest (serve k rest).rest) → IsEnd b (framed k b f (serve k)).rest
end_by k b (Head skip end) h ih =
    let w = (frame-within b skip end h).0 in
    end_answered k b (drop end b) _ (response_to k (slice_range b skip end)) (record { read = take end b; is = sym (take-append-drop end b) }) (ih (drop end b) (omega (arith, w.text, w.within, length-drop end b)))
end_by k b More h ih = record { read = []; is = refl }
end_by k b TooLong h ih = record { read = []; is = refl }

end_in : (k : Corpus) (n : ℕ) (b : List ℕ) → length b ≤ n → IsEnd b (serve k b).rest
end_in k zero [] h = subst (λ s. IsEnd [] s.rest) (sym (serve-more k [] frame-nil)) (record { read = []; is = refl })
end_in k zero (c ∷ b) h = absurd (omega arith)
end_in k (suc n) b h = subst (λ s. IsEnd b s.rest) (sym (serve-framed k b)) (end_by k b (frame b) refl (λ rest less. end_in k n rest (omega (arith, less, h))))

pub serve-rest : (k : Corpus) (b : List ℕ) → IsEnd b (serve k b).rest
serve-rest k b = end_in k (length b) b (omega arith)

-- ---- prefixes
pub record IsStart (first all : List Response) : Type 0 where
  pub later : List Response
  pub is : all ≡ first ++ later

start_by : (k : Corpus) (b more : List ℕ) (t : Bool) → (serve k b).done ≡ t → IsStart (serve k b).responses (serve k (b ++ more)).responses
start_by k b more true h = record { later = []; is = (serve-stays k b more h).responses ∙ sym (append-nil (serve k b).responses) }
start_by k b more false h = record {
  later = (serve k ((serve k b).rest ++ more)).responses;
  is = ap (λ s. s.responses) (serve-goes_on k b more h);
}

pub serve-prefix : (k : Corpus) (b more : List ℕ) → IsStart (serve k b).responses (serve k (b ++ more)).responses
serve-prefix k b more = start_by k b more (serve k b).done refl

pub answers-prefix : (k : Corpus) (x y : List ℕ) → IsStart (answers k x).responses (answers k (x ++ y)).responses
unfolding answers
answers-prefix k x y =
    subst (λ l. IsStart (serve k (take MAX_CONNECTION_BYTES x)).responses (serve k l).responses) (sym (take_both MAX_CONNECTION_BYTES x y))
    (serve-prefix k (take MAX_CONNECTION_BYTES x) (take (MAX_CONNECTION_BYTES - length x) y))
