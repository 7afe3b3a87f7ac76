-- What one turn does.
--
--   starves           want of memory, whatever was to be served
--   one_goes          a response was sent, and the connection goes on
--   one_stops         a response was sent, or not whole, and the connection is to be closed
--   delivered_by      a response was sent, whole or not
--   Replied                  the response to a head was sent, or memory ran out
--   replied_goes, replied_stops      what a turn did by it
--   found_head, found_more, found_long    what looking found, as framing
--   head_bytes        the bytes of a head, some of which were unread
--   Span              where a head lies among unread bytes and those that came
--   turned_head, turned_long, turned_held     a turn, by what looking found
use Rattle.std.proofs.Common.{ap₂, ◌≡◌, ◌⊎◌, inl, inr, ℕ, ◌+◌, ◌-◌, ◌<◌, ◌≤◌, Bool, true, false, List, [], ◌∷◌, ◌++◌, length, take, drop, slice_range}
use Rattle.std.proofs.Common.{append_assoc, append-nil, refl, sym, ◌∙◌, ap, subst, arith, length-append, length-drop}
use Rattle.std.specs.Prelude.{Option, cond, not, ◌&&◌, Result, Ok, Err, IfOk}
use Rattle.std.specs.List.{AllZip}
use Rattle.std.proofs.lemmas.List.{take-append-drop, take-append-le, drop-append-le, length-take-le}
use Rattle.std.proofs.Math.Seq.{drop-append-add}
use Rattle.cs_base.specs.outside.Hub.{Talk}
use Rattle.cs_base.specs.declared.memory.Memory.{Memory}
use Rattle.cs_http.specs.declared.framing.Seen.{Seen}
use Rattle.cs_http.specs.declared.framing.Look.TheVariants.{Head, More, TooLong}
use Rattle.cs_http.specs.Looking.{look_by, look_of}
use Rattle.cs_model.specs.Corpus.{Corpus}
use Rattle.cs_model_serving.specs.declared.framed.Framed.{Framed}
use Rattle.cs_model_serving.specs.declared.framed.Framed.TheVariants as framed
use Rattle.cs_model_serving.specs.Framing.{frame}
use Rattle.cs_model_serving.specs.Responses.{Response, response_to, response_bytes, all_bytes, memory_bytes, too_long}
use Rattle.cs_model_serving.proofs.ServeLemmas.{serve-head, serve-too_long}
use Rattle.cs_model_serving.specs.Connections.{Served, serve, answered, answered_by, MayReplace, says_read, says_changed, reads, changes}
use Rattle.cs_hub.specs.declared.reading.HeadTurn.{HeadTurn}
use Rattle.cs_hub.specs.declared.reading.HeadTurn.TheVariants.{Next, Holds, Stops as Closes}
use Rattle.cs_hub.specs.declared.answer.Answer.{Answer}
use Rattle.cs_hub.specs.Responding.{response}
use Rattle.cs_hub.specs.Streams.{RoseBy}
use Rattle.cs_hub.specs.Speaking.{SaidOn, Spoke, Starved, IsCutShort, IsEnded, Says}
use Rattle.cs_hub.specs.Turns.{IsGiven, Delivered, IsSent, IsOne, HoldsBytes, IsTurnedAway, Stops, Turned}
use Rattle.cs_hub.proofs.SpeakLemmas.{rose_none}
use Rattle.cs_hub.proofs.ServedLemmas.{all_nil, zip_same, same_closing, plain, reads_cons, changes_cons}

-- ---- want of memory
cut_none : (rs : List Response) → IsCutShort rs memory_bytes []
cut_none rs = record { first = []; later = rs; cut = refl; each = tt; going = all_nil (λ r. r.closes ≡ false); bytes = refl }

starves_by : (Over : Corpus → Type 0) (c : ℕ) (b : List ℕ) (whole : Bool) (m n : ℕ) (talk talk' : Option Talk) → m ≤ n → SaidOn c memory_bytes whole talk talk'
    → Stops Over c b m n talk talk'
starves_by Over c b true m n talk talk' later said = (
  false,
  record {
    more = memory_bytes;
    spoke = said;
    counted = λ k over. record { sent = []; meets = inr (cut_none (serve k b).responses); unchanged = refl; rose = rose_none m n later };
  },
)
starves_by Over c b false m n talk talk' later said = (
  true,
  record {
    more = take said.0 memory_bytes;
    spoke = said.1;
    counted = λ k over. record {
      sent = [];
      meets = (
        drop said.0 memory_bytes,
        inr (subst (λ l. IsCutShort (serve k b).responses l []) (sym (take-append-drop said.0 memory_bytes)) (cut_none (serve k b).responses)),
      );
      unchanged = refl;
      rose = rose_none m n later;
    };
  },
)

pub starves : (Over : Corpus → Type 0) (c : ℕ) (b : List ℕ) (m n : ℕ) (talk talk' : Option Talk) → m ≤ n → Starved c talk talk' → Stops Over c b m n talk talk'
starves Over c b m n talk talk' later s = starves_by Over c b s.0 m n talk talk' later s.1

-- ---- one response
-- the first that is served, and the others
tail_of : (close : Bool) (q : Response) (rest : List ℕ) (later : List ℕ → Served) → (others : List Response)
    × ((answered_by close q rest later).responses ≡ q ∷ others)
tail_of true q rest later = ([], refl)
tail_of false q rest later = ((later rest).responses, refl)

none_in : (n m : ℕ) (b : Bool) → n ≡ 0 → n ≡ cond b 1 0 + m → m ≡ 0
none_in n m true h e = omega (arith, h, e)
none_in n m false h e = omega (arith, h, e)

module _ (Over : Corpus → Type 0) (c : ℕ) (b rest : List ℕ) (right : Corpus → Response) (served : (k : Corpus) → serve k b ≡ answered (right k) rest (serve k))
    (r : Response) (m n : ℕ) (talk talk' : Option Talk) (later : m ≤ n) (given : IsGiven Over right r m n) where
  -- by whether the response closes the connection
  closing : (k : Corpus) → Over k → (close : Bool) → r.closes ≡ close → serve k b ≡ answered_by close (right k) rest (serve k)
  closing k over close is = served k ∙ ap (λ x. answered_by x (right k) rest (serve k)) (sym (same_closing (right k) r (given k over).replaces) ∙ is)

  pub one_goes : Delivered c r true talk talk' → Says Over c false (λ k more sent. IsOne k b rest more sent) m n talk talk'
  one_goes d = record {
    more = response_bytes r;
    spoke = d.1;
    counted = λ k over. record {
      sent = r ∷ [];
      meets = record { right = right k; r = r; is = refl; bytes = refl; replaces = (given k over).replaces; going = d.0; joined = closing k over false d.0 };
      unchanged = (given k over).unchanged;
      rose = (given k over).rose;
    };
  }

  -- the response closes the connection
  one_closes : r.closes ≡ true → (k : Corpus) → Over k → IsEnded (serve k b) (response_bytes r) false (r ∷ [])
  one_closes is k over =
      subst (λ a. IsEnded a (response_bytes r) false (r ∷ [])) (sym (closing k over true is))
      (inl (record { each = ((given k over).replaces, tt); bytes = sym (append-nil (response_bytes r)) }, refl))

  -- the others that would have been sent behind one that was cut off
  others : (k : Corpus) → (l : List Response) × ((serve k b).responses ≡ right k ∷ l)
  others k = let t = tail_of (right k).closes (right k) rest (serve k) in (t.0, ap (λ (a : Served). a.responses) (served k) ∙ t.1)

  none_read : (k : Corpus) → reads (others k).0 ≡ 0
  none_read k =
      none_in (reads (right k ∷ (others k).0)) (reads (others k).0) (says_read (right k)) (sym (ap reads (others k).1) ∙ (plain k b).reads)
      (reads_cons (right k) (others k).0)

  none_changed : (k : Corpus) → changes (others k).0 ≡ 0
  none_changed k =
      none_in (changes (right k ∷ (others k).0)) (changes (others k).0) (says_changed (right k)) (sym (ap changes (others k).1) ∙ (plain k b).changes)
      (changes_cons (right k) (others k).0)

  same_reads : (k : Corpus) → reads (r ∷ []) ≡ reads (r ∷ (others k).0)
  same_reads k = let x = reads_cons r [] in let y = reads_cons r (others k).0 in let z = none_read k in omega (arith, x, y, z)

  same_changes : (k : Corpus) → changes (r ∷ (others k).0) ≡ changes (r ∷ [])
  same_changes k = let x = changes_cons r [] in let y = changes_cons r (others k).0 in let z = none_changed k in omega (arith, x, y, z)

  one_cut : (count : ℕ) (k : Corpus) → Over k → IsEnded (serve k b) (take count (response_bytes r)) true (r ∷ (others k).0)
  one_cut count k over = (
    drop count (response_bytes r) ++ all_bytes (others k).0,
    inl (record {
      each = subst (λ l. AllZip MayReplace l (r ∷ (others k).0)) (sym (others k).1) ((given k over).replaces, zip_same (others k).0);
      bytes = sym (append_assoc (take count (response_bytes r)) (drop count (response_bytes r)) (all_bytes (others k).0))
          ∙ ap (λ l. l ++ all_bytes (others k).0) (take-append-drop count (response_bytes r));
    }),
  )

  pub one_stops : Delivered c r false talk talk' → Stops Over c b m n talk talk'
  unfolding one_closes one_cut same_reads same_changes
  one_stops (inl d) = (
    false,
    record {
      more = response_bytes r;
      spoke = d.1;
      counted = λ k over. record { sent = r ∷ []; meets = one_closes d.0 k over; unchanged = (given k over).unchanged; rose = (given k over).rose };
    },
  )
  one_stops (inr (inl d)) = (
    true,
    record {
      more = take d.0 (response_bytes r);
      spoke = d.1;
      counted = λ k over. record {
        sent = r ∷ (others k).0;
        meets = one_cut d.0 k over;
        unchanged = same_changes k ∙ (given k over).unchanged;
        rose = subst (λ i. RoseBy i m n) (same_reads k) (given k over).rose;
      };
    },
  )
  one_stops (inr (inr s)) = starves Over c b m n talk talk' later s

-- ---- what was sent
closes_so : (c : ℕ) (r : Response) (close : Bool) (talk talk' : Option Talk) → r.closes ≡ close → Spoke c (response_bytes r) false talk talk'
    → Delivered c r (not close) talk talk'
closes_so c r true talk talk' is h = inl (is, h)
closes_so c r false talk talk' is h = (is, h)

-- a response goes on where it was sent whole and doesn't close the connection
pub delivered_by : (c : ℕ) (r : Response) (text : List ℕ) (whole : Bool) (talk talk' : Option Talk) → text ≡ response_bytes r → SaidOn c text whole talk talk'
    → Delivered c r (whole && not r.closes) talk talk'
delivered_by c r text true talk talk' is h = closes_so c r r.closes talk talk' refl (subst (λ t. Spoke c t false talk talk') is h)
delivered_by c r text false talk talk' is h = inr (inl (h.0, subst (λ t. Spoke c (take h.0 t) true talk talk') is h.1))

-- ---- the response to a head
-- the response was the one given for a head; or memory ran out before there was one
abbrev pub Replied : (Corpus → Type 0) → ℕ → (Corpus → Response) → Bool → ℕ → ℕ → Option Talk → Option Talk → Type 0
Replied Over c right goes before now talk talk' =
    ((r : Response) × IsGiven Over right r before now × Delivered c r goes talk talk')
    ⊎ ((goes ≡ false) × Starved c talk talk')

pub replied_goes : (Over : Corpus → Type 0) (c : ℕ) (b rest : List ℕ) (right : Corpus → Response) (goes : Bool) (m n : ℕ) (talk talk' : Option Talk)
    → ((k : Corpus) → serve k b ≡ answered (right k) rest (serve k)) → m ≤ n → goes ≡ true
    → Replied Over c right goes m n talk talk' → Says Over c false (λ k more sent. IsOne k b rest more sent) m n talk talk'
replied_goes Over c b rest right true m n talk talk' served later is (inl h) = one_goes Over c b rest right served h.0 m n talk talk' later h.1 h.2
replied_goes Over c b rest right true m n talk talk' served later is (inr h) = absurd (let x : true ≡ false = h.0 in cc)
replied_goes Over c b rest right false m n talk talk' served later is h = absurd cc

pub replied_stops : (Over : Corpus → Type 0) (c : ℕ) (b rest : List ℕ) (right : Corpus → Response) (goes : Bool) (m n : ℕ) (talk talk' : Option Talk)
    → ((k : Corpus) → serve k b ≡ answered (right k) rest (serve k)) → m ≤ n → goes ≡ false
    → Replied Over c right goes m n talk talk' → Stops Over c b m n talk talk'
replied_stops Over c b rest right true m n talk talk' served later is h = absurd cc
replied_stops Over c b rest right false m n talk talk' served later is (inl h) = one_stops Over c b rest right served h.0 m n talk talk' later h.1 h.2
replied_stops Over c b rest right false m n talk talk' served later is (inr h) = starves Over c b m n talk talk' later h.1

-- no head ends
given_long : (Over : Corpus → Type 0) (m : ℕ) → IsGiven Over (λ k. too_long) too_long m m
given_long Over m = λ k over. record { replaces = inl refl; unchanged = refl; rose = rose_none m m (omega arith) }

long_by : (Over : Corpus → Type 0) (c : ℕ) (b : List ℕ) (goes : Bool) (m : ℕ) (talk talk' : Option Talk)
    → ((k : Corpus) → serve k b ≡ answered too_long b (serve k)) → Delivered c too_long goes talk talk' → Stops Over c b m m talk talk'
long_by Over c b true m talk talk' served d = absurd (let x : true ≡ false = d.0 in cc)
long_by Over c b false m talk talk' served d = one_stops Over c b b (λ k. too_long) served too_long m m talk talk' (omega arith) (given_long Over m) d

pub refused_stops : (Over : Corpus → Type 0) (c : ℕ) (b : List ℕ) (m : ℕ) (talk talk' : Option Talk)
    → ((k : Corpus) → serve k b ≡ answered too_long b (serve k)) → ((goes : Bool) × Delivered c too_long goes talk talk') ⊎ Starved c talk talk'
    → Stops Over c b m m talk talk'
refused_stops Over c b m talk talk' served (inl d) = long_by Over c b d.0 m talk talk' served d.1
refused_stops Over c b m talk talk' served (inr s) = starves Over c b m m talk talk' (omega arith) s

-- ---- what was found
head_by : (b : List ℕ) (skip end : ℕ) (f : Framed) → Head skip end ≡ look_by b f → f ≡ framed.Head skip end
head_by b skip end (framed.Head s e) h = cc
head_by b skip end framed.More h = absurd cc
head_by b skip end framed.TooLong h = absurd cc

pub found_head : (b : List ℕ) (skip end : ℕ) → Head skip end ≡ look_of b → frame b ≡ framed.Head skip end
found_head b skip end h = head_by b skip end (frame b) h

more_by : (b : List ℕ) (s : Seen) (f : Framed) → More s ≡ look_by b f → f ≡ framed.More
more_by b s (framed.Head i e) h = absurd cc
more_by b s framed.More h = refl
more_by b s framed.TooLong h = absurd cc

pub found_more : (b : List ℕ) (s : Seen) → More s ≡ look_of b → frame b ≡ framed.More
found_more b s h = more_by b s (frame b) h

long_of : (b : List ℕ) (f : Framed) → TooLong ≡ look_by b f → f ≡ framed.TooLong
long_of b (framed.Head i e) h = absurd cc
long_of b framed.More h = absurd cc
long_of b framed.TooLong h = refl

pub found_long : (b : List ℕ) → TooLong ≡ look_of b → frame b ≡ framed.TooLong
found_long b h = long_of b (frame b) h

-- ---- the bytes of a head
range-front : (a more : List ℕ) (skip n : ℕ) → n ≡ length a → skip ≤ n → slice_range (a ++ more) skip n ≡ slice_range a skip n
range-front a more skip n e h =
    ap (take (n - skip)) (drop-append-le skip a more (omega (arith, e, h)))
    ∙ take-append-le (n - skip) (drop skip a) more (omega (arith, e, h, length-drop skip a))

-- of these some were unread, and so many came with the piece
pub head_bytes : (u r : List ℕ) (skip end used : ℕ) → length u + used ≡ end → used ≤ length r → skip ≤ end
    → slice_range (u ++ take used r) skip (length (u ++ take used r)) ≡ slice_range (u ++ r) skip end
head_bytes u r skip end used e h less =
    let n : length (u ++ take used r) ≡ end = omega (arith, length-append u (take used r), length-take-le used r h, e) in
    ap (slice_range (u ++ take used r) skip) n
    ∙ sym (range-front (u ++ take used r) (drop used r) skip end (sym n) less)
    ∙ ap (λ l. slice_range l skip end) (append_assoc u (take used r) (drop used r) ∙ ap (λ l. u ++ l) (take-append-drop used r))

pub behind_head : (u r : List ℕ) (end used : ℕ) → length u + used ≡ end → drop end (u ++ r) ≡ drop used r
behind_head u r end used e = ap (λ n. drop n (u ++ r)) (sym e) ∙ drop-append-add u r used

-- ---- a reply
pub replied_by : (Over : Corpus → Type 0) (c : ℕ) (head other : List ℕ) (reply : Result Answer Memory) (goes : Bool) (m n : ℕ) (talk talk' : Option Talk)
    → head ≡ other → IfOk reply (λ a. IsGiven Over (λ k. response_to k head) (response a) m n) → IsSent c reply goes talk talk'
    → Replied Over c (λ k. response_to k other) goes m n talk talk'
replied_by Over c head other (Ok a) goes m n talk talk' e h sent = inl (response a, subst (λ l. IsGiven Over (λ k. response_to k l) (response a) m n) e h, sent)
replied_by Over c head other (Err x) goes m n talk talk' e h sent = inr sent

-- ---- turns
-- a head ends behind so many of these bytes, and lies behind so many of empty lines
pub record Span (u r : List ℕ) (skip end used : ℕ) : Type 0 where
  pub found : frame (u ++ r) ≡ framed.Head skip end
  pub front : skip ≤ end
  pub total : length u + used ≡ end
  pub within : used ≤ length r
  pub some : 0 < used

served_by : (k : Corpus) (u r : List ℕ) (skip end used : ℕ) → Span u r skip end used
    → serve k (u ++ r) ≡ answered (response_to k (slice_range (u ++ take used r) skip (length (u ++ take used r)))) (drop used r) (serve k)
served_by k u r skip end used s =
    serve-head k (u ++ r) skip end s.found
    ∙ ap₂ (λ h l. answered (response_to k h) l (serve k)) (sym (head_bytes u r skip end used s.total s.within s.front)) (behind_head u r end used s.total)

pub turned_head : (Over : Corpus → Type 0) (c : ℕ) (u r u' : List ℕ) (skip end used : ℕ) (goes : Bool) (turn : HeadTurn) (m n : ℕ) (talk talk' : Option Talk)
    → turn ≡ cond goes (Next used) Closes → Span u r skip end used → m ≤ n → (goes ≡ true → u' ≡ [])
    → Replied Over c (λ k. response_to k (slice_range (u ++ take used r) skip (length (u ++ take used r)))) goes m n talk talk'
    → Turned Over c u r turn u' m n talk talk'
turned_head Over c u r u' skip end used true turn m n talk talk' is s later emptied h =
    subst (λ x. Turned Over c u r x u' m n talk talk') (sym is) (record {
      some = s.some;
      within = s.within;
      emptied = emptied refl;
      says = replied_goes Over c (u ++ r) (drop used r) (λ k. response_to k (slice_range (u ++ take used r) skip (length (u ++ take used r)))) true m n talk talk'
          (λ k. served_by k u r skip end used s) later refl h;
    })
turned_head Over c u r u' skip end used false turn m n talk talk' is s later emptied h =
    subst (λ x. Turned Over c u r x u' m n talk talk') (sym is)
    (replied_stops Over c (u ++ r) (drop used r) (λ k. response_to k (slice_range (u ++ take used r) skip (length (u ++ take used r)))) false m n talk talk'
    (λ k. served_by k u r skip end used s) later refl h)

pub turned_long : (Over : Corpus → Type 0) (c : ℕ) (b : List ℕ) (m : ℕ) (talk talk' : Option Talk) → frame b ≡ framed.TooLong → IsTurnedAway c talk talk'
    → Stops Over c b m m talk talk'
turned_long Over c b m talk talk' f h = refused_stops Over c b m talk talk' (λ k. serve-too_long k b f) h

pub turned_held : (Over : Corpus → Type 0) (c : ℕ) (u r u' : List ℕ) (turn : HeadTurn) (m : ℕ) (talk talk' : Option Talk) → frame (u ++ r) ≡ framed.More
    → HoldsBytes c u r turn u' talk talk' → Turned Over c u r turn u' m m talk talk'
turned_held Over c u r u' (Next i) m talk talk' f h = absurd h
turned_held Over c u r u' Holds m talk talk' f h = record { waits = f; kept = h.0; untold = h.1; same = refl }
turned_held Over c u r u' Closes m talk talk' f h = starves Over c (u ++ r) m m talk talk' (omega arith) h
