-- What a hub tells of one connection after sends on it, and counts that rise.
--
--   itself, same_conn, by_conn, differs   one connection, or another
--   did_nothing, did_send, did_cut, did_both      what single sends do, and one change after another
--   spoke_nothing, spoke_by, spoke_both   the same of talks that may not be told
--   rose_none, rose_both, rose_one        counts
--   breaks_none, breaks_both, breaks_by, breaks_sent, breaks_failed, breaks_heard, breaks_as     which connections broke
--   none_broken                           none did since nothing was opened
--   says_both                             what is said after what was said
use Rattle.std.proofs.Common.{◌≡◌, ℕ, ◌+◌, ◌≤◌, ◌==◌, Bool, true, false, ◌||◌, cond, List, [], ◌++◌, refl, sym, ◌∙◌, ap, subst, append_assoc, append-nil, arith}
use Rattle.std.specs.Prelude.{Option, Some, None}
use Rattle.std.specs.Option.{ForSome, unwrap_or, option_map}
use Rattle.std.specs.Cmp.{unsigned_tied}
use Rattle.std.proofs.lemmas.Cmp.{nat_cmp_total}
use Rattle.std.proofs.lemmas.Bool.Decides.{Decides-eqb}
use Rattle.std.proofs.lemmas.Option.{same_Some}
use Rattle.std.specs.FinMap as map
use Rattle.std.specs.FinSet as set
use Rattle.cs_base.specs.outside.Causes.{Rose}
use Rattle.cs_base.specs.outside.Hub.{Came, Talk, Conns, IsOrderly, Listening, listens, sent_on, sends, breaks, hears}
use Rattle.cs_model.specs.Corpus.{Corpus}
use Rattle.cs_model_serving.specs.Responses.{Response}
use Rattle.cs_model_serving.specs.Connections.{reads}
use Rattle.cs_model_serving.proofs.CountLemmas.{reads-append, changes-append}
use Rattle.cs_hub.specs.Streams.{RoseBy}
use Rattle.cs_hub.specs.Speaking.{AreUnbroken, BreaksBy, Did, Spoke, IsCounted, Says}

-- ---- connections
pub itself : (c : ℕ) → (c == c) ≡ true
itself c = (Decides-eqb c c).1 refl

pub same_conn : (d c : ℕ) → (d == c) ≡ true → d ≡ c
same_conn d c h = (Decides-eqb d c).0 h

-- two cases: the connection itself, or another
pub by_conn : (P : ℕ → Type 0) (c d : ℕ) → P c → ((d == c) ≡ false → P d) → P d
by_conn P c d own other =
    elim (d == c) as (λ b. (d == c) ≡ b → P d) [ true ↦ λ e. subst P (sym (same_conn d c e)) own | false ↦ λ e. other e ] refl

pub differs : (d c : ℕ) → (d == c) ≡ false → d ≡ c → ⊥
differs d c h e = let x : true ≡ false = sym ((Decides-eqb d c).1 e) ∙ h in absurd cc

-- ---- one send
pick : (b : Bool) (x : List ℕ) (o : Option (List ℕ)) → unwrap_or (cond b (Some x) o) [] ≡ cond b x (unwrap_or o [])
pick true x o = refl
pick false x o = refl

sent_after : (t : Talk) (c : ℕ) (b : List ℕ) (d : ℕ) → sent_on (sends c b t) d ≡ cond (d == c) (sent_on t c ++ b) (sent_on t d)
sent_after t c b d =
    ap (λ o. unwrap_or o []) (map.get-insert nat_cmp_total t.sent c (sent_on t c ++ b) d
    ∙ ap (λ x. cond x (Some (sent_on t c ++ b)) (map.get t.sent d)) (unsigned_tied d c))
    ∙ pick (d == c) (sent_on t c ++ b) (map.get t.sent d)

-- who is in a set with one connection more
pub in_after : (s : Conns) (c d : ℕ) → set.contains (set.insert s c) d ≡ ((d == c) || set.contains s d)
in_after s c d = set.contains-insert nat_cmp_total s c d ∙ ap (λ b. b || set.contains s d) (unsigned_tied d c)

pub did_nothing : (c : ℕ) (t : Talk) → Did c [] false t t
did_nothing c t = record { came = refl; own = sym (append-nil (sent_on t c)); whole = refl; others = λ d other. (refl, refl) }

pub did_send : (c : ℕ) (b : List ℕ) (t : Talk) → Did c b false t (sends c b t)
did_send c b t = record {
  came = refl;
  own = sent_after t c b c ∙ ap (λ x. cond x (sent_on t c ++ b) (sent_on t c)) (itself c);
  whole = refl;
  others = λ d other. (sent_after t c b d ∙ ap (λ x. cond x (sent_on t c ++ b) (sent_on t d)) other, refl);
}

did_break : (c : ℕ) (t : Talk) → Did c [] true t (breaks c t)
did_break c t = record {
  came = refl;
  own = sym (append-nil (sent_on t c));
  whole = in_after t.broken c c ∙ ap (λ x. x || set.contains t.broken c) (itself c);
  others = λ d other. (refl, in_after t.broken c d ∙ ap (λ x. x || set.contains t.broken d) other);
}

-- one after the other, where the first one didn't fail
pub did_both : (c : ℕ) (x y : List ℕ) (fails : Bool) (t u v : Talk) → Did c x false t u → Did c y fails u v → Did c (x ++ y) fails t v
did_both c x y fails t u v h k = record {
  came = k.came ∙ h.came;
  own = k.own ∙ ap (λ l. l ++ y) h.own ∙ append_assoc (sent_on t c) x y;
  whole = k.whole ∙ ap (λ b. fails || b) h.whole;
  others = λ d other. ((k.others d other).0 ∙ (h.others d other).0, (k.others d other).1 ∙ (h.others d other).1);
}

pub did_cut : (c : ℕ) (cut : List ℕ) (t : Talk) → Did c cut true t (breaks c (sends c cut t))
did_cut c cut t =
    subst (λ l. Did c l true t (breaks c (sends c cut t))) (append-nil cut)
    (did_both c cut [] true t (sends c cut t) (breaks c (sends c cut t)) (did_send c cut t) (did_break c (sends c cut t)))

-- ---- talks that may not be told
pub spoke_nothing : (c : ℕ) (talk : Option Talk) → Spoke c [] false talk talk
spoke_nothing c None = tt
spoke_nothing c (Some t) = did_nothing c t

pub spoke_by : (c : ℕ) (more : List ℕ) (fails : Bool) (f : Talk → Talk) (talk talk' : Option Talk) → ((t : Talk) → Did c more fails t (f t))
    → talk' ≡ option_map f talk → Spoke c more fails talk talk'
spoke_by c more fails f None talk' h e = subst (Spoke c more fails None) (sym e) tt
spoke_by c more fails f (Some t) talk' h e = subst (Spoke c more fails (Some t)) (sym e) (h t)

pub spoke_both : (c : ℕ) (x y : List ℕ) (fails : Bool) (talk mid talk' : Option Talk) → Spoke c x false talk mid → Spoke c y fails mid talk'
    → Spoke c (x ++ y) fails talk talk'
spoke_both c x y fails None None None h k = tt
spoke_both c x y fails None None (Some v) h k = absurd k
spoke_both c x y fails None (Some u) talk' h k = absurd h
spoke_both c x y fails (Some t) None talk' h k = absurd h
spoke_both c x y fails (Some t) (Some u) None h k = absurd k
spoke_both c x y fails (Some t) (Some u) (Some v) h k = did_both c x y fails t u v h k

-- ---- counts
pub rose_none : (m n : ℕ) → m ≤ n → RoseBy 0 m n
rose_none m n h = omega (arith, h)

pub rose_both : (a b m n o : ℕ) → RoseBy a m n → RoseBy b n o → RoseBy (a + b) m o
rose_both a b m n o h k = omega (arith, h, k)

pub rose_one : (m n : ℕ) → Rose m n → RoseBy 1 m n
rose_one m n h = omega (arith, h)

-- a count that rose later has risen by as much from before
pub rose_from : (a l m n : ℕ) → l ≤ m → RoseBy a m n → RoseBy a l n
rose_from a l m n h k = omega (arith, h, k)

pub rose_on : (a m n o : ℕ) → RoseBy a m n → n ≤ o → RoseBy a m o
rose_on a m n o h k = omega (arith, h, k)

-- ---- what broke
pub breaks_none : (n : ℕ) (talk : Option Talk) → BreaksBy n n talk talk
breaks_none n talk = record { later = omega arith; unbroken = λ calm. refl }

-- a count that didn't rise over both didn't over either
calm_first : (m n o : ℕ) → n ≤ o → (Rose m o → ⊥) → Rose m n → ⊥
calm_first m n o h calm rose = calm (let x : Rose m o = omega (arith, h, rose) in x)

calm_then : (m n o : ℕ) → m ≤ n → (Rose m o → ⊥) → Rose n o → ⊥
calm_then m n o h calm rose = calm (let x : Rose m o = omega (arith, h, rose) in x)

pub breaks_both : (m n o : ℕ) (talk mid talk' : Option Talk) → BreaksBy m n talk mid → BreaksBy n o mid talk' → BreaksBy m o talk talk'
breaks_both m n o talk mid talk' h k = record {
  later = omega (arith, h.later, k.later);
  unbroken = λ calm. k.unbroken (calm_then m n o h.later calm) ∙ h.unbroken (calm_first m n o k.later calm);
}

-- by a change of the talk that breaks none
pub breaks_by : (m n : ℕ) (f : Talk → Talk) (talk talk' : Option Talk) → n ≡ m → ((t : Talk) → (f t).broken ≡ t.broken) → talk' ≡ option_map f talk
    → BreaksBy m n talk talk'
breaks_by m n f None talk' e same is = record { later = omega (arith, e); unbroken = λ calm. ap (option_map (λ t. t.broken)) is }
breaks_by m n f (Some t) talk' e same is = record { later = omega (arith, e); unbroken = λ calm. ap (option_map (λ t. t.broken)) is ∙ ap Some (same t) }

pub breaks_sent : (c m n : ℕ) (b : List ℕ) (talk talk' : Option Talk) → n ≡ m → talk' ≡ option_map (sends c b) talk → BreaksBy m n talk talk'
breaks_sent c m n b talk talk' e is = breaks_by m n (sends c b) talk talk' e (λ t. refl) is

pub breaks_heard : (e : Came) (m n : ℕ) (talk talk' : Option Talk) → n ≡ m → talk' ≡ option_map (hears e) talk → BreaksBy m n talk talk'
breaks_heard e m n talk talk' same is = breaks_by m n (hears e) talk talk' same (λ t. refl) is

pub breaks_failed : (m n : ℕ) (talk talk' : Option Talk) → m ≤ n → Rose m n → BreaksBy m n talk talk'
breaks_failed m n talk talk' later rose = record { later = later; unbroken = λ calm. absurd (calm rose) }

-- nothing was sent behind it
pub breaks_as : (m n o : ℕ) (talk mid talk' : Option Talk) → o ≡ n → talk' ≡ mid → BreaksBy m n talk mid → BreaksBy m o talk talk'
breaks_as m n o talk mid talk' e is h = subst (λ i. BreaksBy m i talk talk') (sym e) (subst (BreaksBy m n talk) (sym is) h)

unbroken_as : (talk : Option Talk) (u : Talk) → option_map (λ t. t.broken) (Some u) ≡ option_map (λ t. t.broken) talk → ForSome talk AreUnbroken → AreUnbroken u
unbroken_as None u is h = absurd cc
unbroken_as (Some t) u is h = λ c. ap (λ b. set.contains b c) (same_Some u.broken t.broken is) ∙ h t refl c

-- where nothing was opened none was broken
fresh_unbroken : (s : Listening) (talk : Option Talk) (port conns : ℕ) → s ≡ listens port conns → IsOrderly s talk → ForSome talk AreUnbroken
fresh_unbroken s talk port conns e o = λ t at c. (o.fresh t at c (let l : s.opened ≤ c = omega (arith, ap (λ (y : Listening). y.opened) e) in l)).2

pub none_broken : (m n port conns : ℕ) (s : Listening) (talk talk' : Option Talk) → s ≡ listens port conns → IsOrderly s talk → BreaksBy m n talk talk'
    → (Rose m n → ⊥) → ForSome talk' AreUnbroken
none_broken m n port conns s talk talk' e o h calm =
    λ u at. unbroken_as talk u (ap (option_map (λ t. t.broken)) (sym at) ∙ h.unbroken calm) (fresh_unbroken s talk port conns e o)

-- ---- what is said
counted_both : (P Q R : List Response → Type 0) (m n o : ℕ) → ((xs ys : List Response) → P xs → Q ys → R (xs ++ ys)) → IsCounted P m n → IsCounted Q n o
    → IsCounted R m o
counted_both P Q R m n o join h k = record {
  sent = h.sent ++ k.sent;
  meets = join h.sent k.sent h.meets k.meets;
  unchanged = let e = changes-append h.sent k.sent in omega (arith, e, h.unchanged, k.unchanged);
  rose = subst (λ a. RoseBy a m o) (sym (reads-append h.sent k.sent)) (rose_both (reads h.sent) (reads k.sent) m n o h.rose k.rose);
}

-- more is said behind what was said, where those that were answered over still are
pub says_both : (Over Later : Corpus → Type 0) (c : ℕ) (fails : Bool) (P Q R : Corpus → List ℕ → List Response → Type 0) (m n o : ℕ)
    (talk mid talk' : Option Talk)
    → ((k : Corpus) → Over k → Later k) → ((k : Corpus) (x y : List ℕ) (xs ys : List Response) → P k x xs → Q k y ys → R k (x ++ y) (xs ++ ys))
    → Says Over c false P m n talk mid → Says Later c fails Q n o mid talk' → Says Over c fails R m o talk talk'
says_both Over Later c fails P Q R m n o talk mid talk' still join h s = record {
  more = h.more ++ s.more;
  spoke = spoke_both c h.more s.more fails talk mid talk' h.spoke s.spoke;
  counted = λ k over. counted_both (P k h.more) (Q k s.more) (R k (h.more ++ s.more)) m n o (join k h.more s.more) (h.counted k over)
      (s.counted k (still k over));
}
