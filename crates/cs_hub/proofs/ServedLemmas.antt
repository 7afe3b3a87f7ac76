-- What is served, and responses in its place.
--
--   all_nil                      a fact of each of none
--   zip_both, zip_same           responses in the places of lists; each in its own
--   zip_going                    what stands in the place of responses that close nothing closes nothing
--   served_both, cut_behind, met_behind, ended_behind     responses behind some first ones
--   plain                        no response that is served says Read or Changed, and while the connection goes on none closes it
use Rattle.std.proofs.Common.{◌≡◌, inl, inr, ℕ, suc, ◌+◌, Bool, true, false, List, [], ◌∷◌, ◌++◌, length, drop, slice_range, append_assoc, refl, sym, ◌∙◌, ap}
use Rattle.std.proofs.Common.{ap₂, subst, arith}
use Prim.Native.Nat.{zero}
use Rattle.std.specs.Prelude.{All, cond}
use Rattle.std.specs.List.{AllZip}
use Rattle.std.proofs.lemmas.List.Elements.{All-append, All-cons, All-head, All-tail}
use Rattle.std.proofs.lemmas.List.Sums.{sum_by-cons}
use Rattle.std.proofs.lemmas.Grind.{flat_map-append}
use Rattle.cs_model.specs.Corpus.{Corpus}
use Rattle.cs_model_serving.specs.declared.framed.Framed.{Framed}
use Rattle.cs_model_serving.specs.declared.framed.Framed.TheVariants.{Head, More, TooLong}
use Rattle.cs_model_serving.specs.Framing.{frame}
use Rattle.cs_model_serving.specs.Responses.{Response, response_bytes, response_to, all_bytes, memory_bytes}
use Rattle.cs_model_serving.specs.Connections.{Served, waits, answered_by, framed, serve_heads, serve, MayReplace, says_read, says_changed, reads, changes}
use Rattle.cs_model_serving.specs.ServingLaws.{answers_before}
use Rattle.cs_model_serving.proofs.CountLemmas.{answer_counts}
use Rattle.cs_hub.specs.Speaking.{IsServed, IsCutShort, IsMet, IsEnded}

pub all_nil : (P : Response → Type 0) → All P []
all_nil P = λ k d less. absurd (omega (arith, less))

-- ---- in the places of lists
pub zip_both : (ps qs xs ys : List Response) → AllZip MayReplace ps xs → AllZip MayReplace qs ys → AllZip MayReplace (ps ++ qs) (xs ++ ys)
zip_both [] qs [] ys h k = k
zip_both [] qs (x ∷ xs) ys h k = absurd h
zip_both (p ∷ ps) qs [] ys h k = absurd h
zip_both (p ∷ ps) qs (x ∷ xs) ys h k = (h.0, zip_both ps qs xs ys h.1 k)

pub zip_same : (rs : List Response) → AllZip MayReplace rs rs
zip_same [] = tt
zip_same (r ∷ rs) = (inl refl, zip_same rs)

-- a response in the place of another one closes the connection where that does
pub same_closing : (r s : Response) → MayReplace r s → s.closes ≡ r.closes
same_closing r s (inl e) = ap (λ (x : Response). x.closes) e
same_closing r s (inr h) = elim h.1 [ inl e ↦ ap (λ (x : Response). x.closes) e | inr e ↦ ap (λ (x : Response). x.closes) e.2 ]

pub zip_going : (rs sent : List Response) → AllZip MayReplace rs sent → All (λ r. r.closes ≡ false) rs → All (λ r. r.closes ≡ false) sent
zip_going [] [] h g = all_nil (λ r. r.closes ≡ false)
zip_going [] (s ∷ sent) h g = absurd h
zip_going (r ∷ rs) [] h g = absurd h
zip_going (r ∷ rs) (s ∷ sent) h g =
    All-cons (λ r. r.closes ≡ false) s sent (same_closing r s h.0 ∙ All-head (λ r. r.closes ≡ false) r rs g)
    (zip_going rs sent h.1 (All-tail (λ r. r.closes ≡ false) r rs g))

pub bytes_both : (xs ys : List Response) → all_bytes (xs ++ ys) ≡ all_bytes xs ++ all_bytes ys
bytes_both xs ys = flat_map-append response_bytes xs ys

-- ---- behind some first ones
pub served_both : (ps qs : List Response) (x y : List ℕ) (xs ys : List Response) → IsServed ps x xs → IsServed qs y ys → IsServed (ps ++ qs) (x ++ y) (xs ++ ys)
served_both ps qs x y xs ys h k = record {
  each = zip_both ps qs xs ys h.each k.each;
  bytes = ap₂ (λ a b. a ++ b) h.bytes k.bytes ∙ sym (bytes_both xs ys);
}

pub cut_behind : (ps qs : List Response) (x y : List ℕ) (xs ys : List Response) → IsServed ps x xs → All (λ r. r.closes ≡ false) xs → IsCutShort qs y ys
    → IsCutShort (ps ++ qs) (x ++ y) (xs ++ ys)
cut_behind ps qs x y xs ys h going k = record {
  first = ps ++ k.first;
  later = k.later;
  cut = ap (λ l. ps ++ l) k.cut ∙ sym (append_assoc ps k.first k.later);
  each = zip_both ps k.first xs ys h.each k.each;
  going = All-append (λ r. r.closes ≡ false) xs ys going k.going;
  bytes = ap₂ (λ a b. a ++ b) h.bytes k.bytes ∙ sym (append_assoc (all_bytes xs) (all_bytes ys) memory_bytes)
      ∙ ap (λ l. l ++ memory_bytes) (sym (bytes_both xs ys));
}

pub met_behind : (ps qs : List Response) (x y : List ℕ) (xs ys : List Response) → IsServed ps x xs → All (λ r. r.closes ≡ false) xs → IsMet qs y ys
    → IsMet (ps ++ qs) (x ++ y) (xs ++ ys)
met_behind ps qs x y xs ys h going (inl k) = inl (served_both ps qs x y xs ys h k)
met_behind ps qs x y xs ys h going (inr k) = inr (cut_behind ps qs x y xs ys h going k)

pub ended_behind : (ps : List Response) (a : Served) (fails : Bool) (x y : List ℕ) (xs ys : List Response) → IsServed ps x xs → All (λ r. r.closes ≡ false) xs
    → IsEnded a y fails ys → IsEnded (answers_before ps a) (x ++ y) fails (xs ++ ys)
ended_behind ps a false x y xs ys h going (inl k) = inl (served_both ps a.responses x y xs ys h k.0, k.1)
ended_behind ps a false x y xs ys h going (inr k) = inr (cut_behind ps a.responses x y xs ys h going k)
ended_behind ps a true x y xs ys h going k =
    (k.0, subst (λ l. IsMet (ps ++ a.responses) l (xs ++ ys)) (sym (append_assoc x y k.0)) (met_behind ps a.responses x (y ++ k.0) xs ys h going k.1))

-- ---- what is served says neither
pub record IsPlain (s : Served) : Type 0 where
  pub reads : reads s.responses ≡ 0
  pub changes : changes s.responses ≡ 0
  pub going : s.done ≡ false → All (λ r. r.closes ≡ false) s.responses

waits_plain : (b : List ℕ) → IsPlain (waits b)
waits_plain b = record { reads = refl; changes = refl; going = λ e. all_nil (λ r. r.closes ≡ false) }

-- how many of a response and others
pub reads_cons : (r : Response) (rs : List Response) → reads (r ∷ rs) ≡ cond (says_read r) 1 0 + reads rs
reads_cons r rs = sum_by-cons (λ r. cond (says_read r) 1 0) r rs

pub changes_cons : (r : Response) (rs : List Response) → changes (r ∷ rs) ≡ cond (says_changed r) 1 0 + changes rs
changes_cons r rs = sum_by-cons (λ r. cond (says_changed r) 1 0) r rs

none_more : (n : ℕ) (b : Bool) (m : ℕ) → n ≡ cond b 1 0 + m → b ≡ false → m ≡ 0 → n ≡ 0
none_more n true m h e z = absurd cc
none_more n false m h e z = omega (arith, h, z)

answered_plain : (close : Bool) (r : Response) (rest : List ℕ) (later : List ℕ → Served) → r.closes ≡ close → says_read r ≡ false → says_changed r ≡ false
    → IsPlain (later rest) → IsPlain (answered_by close r rest later)
answered_plain true r rest later closes read changed h = record {
  reads = none_more (reads (r ∷ [])) (says_read r) (reads []) (reads_cons r []) read refl;
  changes = none_more (changes (r ∷ [])) (says_changed r) (changes []) (changes_cons r []) changed refl;
  going = λ e. absurd cc;
}
answered_plain false r rest later closes read changed h = record {
  reads = none_more (reads (r ∷ (later rest).responses)) (says_read r) (reads (later rest).responses) (reads_cons r (later rest).responses) read h.reads;
  changes = none_more (changes (r ∷ (later rest).responses)) (says_changed r) (changes (later rest).responses) (changes_cons r (later rest).responses)
      changed h.changes;
  going = λ e. All-cons (λ r. r.closes ≡ false) r (later rest).responses closes (h.going e);
}

framed_plain : (k : Corpus) (b : List ℕ) (f : Framed) (later : List ℕ → Served) → ((rest : List ℕ) → IsPlain (later rest)) → IsPlain (framed k b f later)
framed_plain k b (Head skip end) later h =
    let r = response_to k (slice_range b skip end) in
    let counts = answer_counts k (slice_range b skip end) in
    answered_plain r.closes r (drop end b) later refl counts.0 counts.1 (h (drop end b))
framed_plain k b More later h = waits_plain b
framed_plain k b TooLong later h = record { reads = refl; changes = refl; going = λ e. absurd cc }

heads_plain : (k : Corpus) (n : ℕ) (b : List ℕ) → IsPlain (serve_heads k n b)
heads_plain k zero b = waits_plain b
heads_plain k (suc n) b = framed_plain k b (frame b) (serve_heads k n) (heads_plain k n)

pub plain : (k : Corpus) (b : List ℕ) → IsPlain (serve k b)
unfolding serve
plain k b = heads_plain k (length b) b
