-- Behind a space a text goes on as a text of its own, where no bracket is open.
--
--   FromWord us         the oldest of the tokens us is a word
--   after_over          behind such tokens, what stands before a gap doesn't change the tokens
--   steps_over          nor their steps
--   Starts ss           the oldest of the steps ss begins a part
--   lifted P r          the reading r, with the parts P before all others
--   Lifted ss           the steps ss are read so behind the parts P
--   separate            the law
use Rattle.std.proofs.Common.{◌≡◌, ℕ, ◌+◌, List, [], ◌∷◌, ◌++◌, length, refl, ap, ◌∙◌, sym, append_assoc, false, arith}
use Rattle.std.specs.Char.{encode_utf8}
use Rattle.std.proofs.lemmas.List.{append-nil}
use Rattle.cs_base.specs.declared.content.query.Query.{out-Query, out-roll-Query}
use Rattle.cs_base.specs.declared.content.query.Part.{Part}
use Rattle.cs_base.specs.declared.content.query.Atom.{Atom, Prefix, Exact}
use Rattle.cs_model.specs.declared.kinds.Class.{Class}
use Rattle.cs_model.specs.declared.kinds.Class.TheVariants as c
use Rattle.cs_model.specs.declared.kinds.Level.{Level}
use Rattle.cs_model.specs.declared.kinds.Tie.{Tie}
use Rattle.cs_model.specs.declared.kinds.Tie.TheVariants.{Begins, Alternative, Linked}
use Rattle.cs_model.specs.Collection.{named}
use Rattle.cs_model.specs.Words.{is_word_char}
use Rattle.cs_model.specs.Tokens.{Token, Word, Value, Run, Gap, Dollar, Bar, Colon, Open, Close, class_of, grown, with_next, tokens_after, tokens}
use Rattle.cs_model.specs.Grammar.{Step, Leaf, Enter, Leave, spot, run_tie, tie, steps, on_last, attached, join, Reading, closed, leave, taken, reading, all_closed, query_of}
use Rattle.cs_model.specs.GrammarLaws.{SpacesSeparate}
use Rattle.cs_model.proofs.LastEntries.{is_none}
use Rattle.cs_model.proofs.PieceTokens.{after-append, letter}

-- ---- tokens
abbrev FromWord : List Token → Type 0
FromWord [] = ⊥
FromWord (Word w ∷ []) = Unit {0}
FromWord (t ∷ []) = ⊥
FromWord (t ∷ u ∷ us) = FromWord (u ∷ us)

module _ (m : ℕ) (bs : List Token) where
  grown_over : (k : Class) (x : List ℕ) (us : List Token) → FromWord us → (grown k x (us ++ Gap m ∷ bs) ≡ grown k x us ++ Gap m ∷ bs) × FromWord (grown k x us)
  grown_over k x [] h = absurd h
  grown_over c.Letter x (Word w ∷ us) h = (refl, h)
  grown_over c.Letter x (Value v ∷ us) h = (refl, h)
  grown_over c.Letter x (t ∷ us) h = (refl, h)
  grown_over c.Dot x (Run r ∷ us) h = (refl, h)
  grown_over c.Dot x (t ∷ us) h = (refl, h)
  grown_over c.Joiner x (Value v ∷ us) h = (refl, h)
  grown_over c.Joiner x (Run r ∷ us) h = (refl, h)
  grown_over c.Joiner x (t ∷ us) h = (refl, h)
  grown_over c.Other x (Gap n ∷ us) h = (refl, h)
  grown_over c.Other x (t ∷ us) h = (refl, h)
  grown_over k x (t ∷ us) h = (refl, h)

  after_over : (ds : List ℕ) (us : List Token) → FromWord us → (tokens_after (us ++ Gap m ∷ bs) ds ≡ tokens_after us ds ++ Gap m ∷ bs) × FromWord (tokens_after us ds)
  after_over [] us h = (refl, h)
  after_over (x ∷ ds) us h =
      let g = grown_over (class_of x) (encode_utf8 x) us h in
      let r = after_over ds (with_next x us) g.1 in
      (ap (λ ts. tokens_after ts ds) g.0 ∙ r.0, r.1)

  -- ---- steps
  spot_over : (us : List Token) → spot (us ++ Gap m ∷ bs) ≡ spot us
  spot_over [] = refl
  spot_over (Word w ∷ us) = refl
  spot_over (Value v ∷ us) = refl
  spot_over (Run r ∷ us) = refl
  spot_over (Gap n ∷ us) = refl
  spot_over (Dollar ∷ us) = refl
  spot_over (Bar ∷ us) = refl
  spot_over (Colon ∷ us) = refl
  spot_over (Open ∷ us) = refl
  spot_over (Close ∷ us) = refl

  tie_over : (us : List Token) → tie (us ++ Gap m ∷ bs) ≡ tie us
  tie_over [] = refl
  tie_over (Run r ∷ us) = ap (λ s. run_tie s r) (spot_over us)
  tie_over (t ∷ us) = refl

  one_over : (f : Tie → Step) (us : List Token) → steps (us ++ Gap m ∷ bs) ≡ steps us ++ steps bs
      → f (tie (us ++ Gap m ∷ bs)) ∷ steps (us ++ Gap m ∷ bs) ≡ f (tie us) ∷ (steps us ++ steps bs)
  one_over f us e = ap (λ t. f t ∷ steps (us ++ Gap m ∷ bs)) (tie_over us) ∙ ap (λ ss. f (tie us) ∷ ss) e

  steps_over : (us : List Token) → steps (us ++ Gap m ∷ bs) ≡ steps us ++ steps bs
  steps_over [] = refl
  steps_over (Word w ∷ us) = one_over (λ t. Leaf t (Prefix w)) us (steps_over us)
  steps_over (Dollar ∷ Word w ∷ us) = one_over (λ t. Leaf t (Exact w)) us (steps_over us)
  steps_over (Value v ∷ Colon ∷ Word n ∷ us) = one_over (λ t. Leaf t (Prefix (named n v))) us (steps_over us)
  steps_over (Dollar ∷ Value v ∷ Colon ∷ Word n ∷ us) = one_over (λ t. Leaf t (Exact (named n v))) us (steps_over us)
  steps_over (Open ∷ Word n ∷ us) = one_over (λ t. Enter t n) us (steps_over us)
  steps_over (Close ∷ us) = ap (λ ss. Leave ∷ ss) (steps_over us)
  steps_over (t ∷ us) = steps_over us

abbrev BeginsPart : Step → Type 0
BeginsPart (Leaf (Begins e) a) = Unit {0}
BeginsPart (Enter (Begins e) n) = Unit {0}
BeginsPart s = ⊥

abbrev Starts : List Step → Type 0
Starts [] = ⊥
Starts (s ∷ []) = BeginsPart s
Starts (s ∷ t ∷ ss) = Starts (t ∷ ss)

starts_more : (s : Step) (ss : List Step) → Starts ss → Starts (s ∷ ss)
starts_more s [] h = absurd h
starts_more s (t ∷ ss) h = h

steps_start : (us : List Token) → FromWord us → Starts (steps us)
steps_start [] h = absurd h
steps_start (Word w ∷ []) h = tt
steps_start (Word w ∷ u ∷ us) h = starts_more (Leaf (tie (u ∷ us)) (Prefix w)) (steps (u ∷ us)) (steps_start (u ∷ us) h)
steps_start (Dollar ∷ Word w ∷ []) h = tt
steps_start (Dollar ∷ Word w ∷ u ∷ us) h = starts_more (Leaf (tie (u ∷ us)) (Exact w)) (steps (u ∷ us)) (steps_start (u ∷ us) h)
steps_start (Value v ∷ Colon ∷ Word n ∷ []) h = tt
steps_start (Value v ∷ Colon ∷ Word n ∷ u ∷ us) h = starts_more (Leaf (tie (u ∷ us)) (Prefix (named n v))) (steps (u ∷ us)) (steps_start (u ∷ us) h)
steps_start (Dollar ∷ Value v ∷ Colon ∷ Word n ∷ []) h = tt
steps_start (Dollar ∷ Value v ∷ Colon ∷ Word n ∷ u ∷ us) h = starts_more (Leaf (tie (u ∷ us)) (Exact (named n v))) (steps (u ∷ us)) (steps_start (u ∷ us) h)
steps_start (Open ∷ Word n ∷ []) h = tt
steps_start (Open ∷ Word n ∷ u ∷ us) h = starts_more (Enter (tie (u ∷ us)) n) (steps (u ∷ us)) (steps_start (u ∷ us) h)
steps_start (Close ∷ u ∷ us) h = starts_more Leave (steps (u ∷ us)) (steps_start (u ∷ us) h)
steps_start (t ∷ []) h = absurd h
steps_start (t ∷ u ∷ us) h = steps_start (u ∷ us) h

-- ---- readings
-- the list has an entry where no bracket is open
abbrev Filled : List Part → List Level → Type 0
Filled ps [] = is_none ps ≡ false
Filled ps (l ∷ ls) = Unit {0}

-- what begins a part needs none before it, and any other atom needs one
abbrev Needs : Tie → Type 0 → Type 0
Needs (Begins e) T = Unit {0}
Needs t T = T

abbrev LevelsNeed : List Level → Type 0
LevelsNeed [] = Unit {0}
LevelsNeed (l ∷ ls) = Needs l.tie (Filled l.before ls) × LevelsNeed ls

has_needs : (t : Tie) (T : Type 0) → T → Needs t T
has_needs (Begins e) T h = tt
has_needs Alternative T h = h
has_needs (Linked l) T h = h

module _ {X : Type 0} where
  push_some : (xs : List X) (x : X) → is_none (xs ++ x ∷ []) ≡ false
  push_some [] x = refl
  push_some (y ∷ xs) x = refl

  on_last_some : (f : X → X) (xs : List X) → is_none (on_last f xs) ≡ is_none xs
  on_last_some f [] = refl
  on_last_some f (x ∷ []) = refl
  on_last_some f (x ∷ y ∷ ys) = refl

  on_last_over : (f : X → X) (ps xs : List X) → is_none xs ≡ false → ps ++ on_last f xs ≡ on_last f (ps ++ xs)
  on_last_over f [] xs h = refl
  on_last_over f (p ∷ []) [] h = cc
  on_last_over f (p ∷ []) (x ∷ xs) h = refl
  on_last_over f (p ∷ q ∷ ps) xs h = ap (λ l. p ∷ l) (on_last_over f (q ∷ ps) xs h)

module _ (P : List Part) where
  abbrev lift_parts : List Part → List Level → List Part
  lift_parts ps [] = P ++ ps
  lift_parts ps (l ∷ ls) = ps

  abbrev lift_levels : List Level → List Level
  lift_levels [] = []
  lift_levels (l ∷ ls) = (record { tie = l.tie; name = l.name; before = lift_parts l.before ls }) ∷ lift_levels ls

  abbrev lifted : Reading → Reading
  lifted r = record { parts = lift_parts r.parts r.open_now; open_now = lift_levels r.open_now }

  attached_lift : (t : Tie) (a : Atom) (ps : List Part) (ls : List Level) → Needs t (Filled ps ls) → attached t a (lift_parts ps ls) ≡ lift_parts (attached t a ps) ls
  attached_lift t a ps (l ∷ ls) h = refl
  attached_lift (Begins e) a ps [] h = append_assoc P ps _
  attached_lift Alternative a ps [] h = sym (on_last_over _ P ps h)
  attached_lift (Linked l) a ps [] h = sym (on_last_over _ P ps h)

  attached_filled : (t : Tie) (a : Atom) (ps : List Part) (ls : List Level) → Needs t (Filled ps ls) → Filled (attached t a ps) ls
  attached_filled t a ps (l ∷ ls) h = tt
  attached_filled (Begins e) a ps [] h = push_some ps _
  attached_filled Alternative a ps [] h = on_last_some _ ps ∙ h
  attached_filled (Linked l) a ps [] h = on_last_some _ ps ∙ h

  -- an atom may be attached here, and each join behind its bracket
  record CanGoOn (r : Reading) : Type 0 where
    filled : Filled r.parts r.open_now
    levels : LevelsNeed r.open_now

  leave_lift : (ps : List Part) (ls : List Level) → LevelsNeed ls → leave (lift_parts ps ls) (lift_levels ls) ≡ lifted (leave ps ls)
  leave_lift ps [] h = refl
  leave_lift ps (l ∷ ls) h = ap (λ qs. record { parts = qs; open_now = lift_levels ls }) (attached_lift l.tie (join l.name ps) l.before ls h.0)

  leave_kept : (ps : List Part) (ls : List Level) → Filled ps ls → LevelsNeed ls → CanGoOn (leave ps ls)
  leave_kept ps [] f h = record { filled = f; levels = tt }
  leave_kept ps (l ∷ ls) f h = record { filled = attached_filled l.tie (join l.name ps) l.before ls h.0; levels = h.1 }

  taken_lift : (s : Step) (r : Reading) → CanGoOn r → taken s (lifted r) ≡ lifted (taken s r)
  taken_lift (Leaf t a) r k = ap (λ qs. record { parts = qs; open_now = lift_levels r.open_now }) (attached_lift t a r.parts r.open_now (has_needs t _ k.filled))
  taken_lift (Enter t n) r k = refl
  taken_lift Leave r k = leave_lift r.parts r.open_now k.levels

  taken_kept : (s : Step) (r : Reading) → CanGoOn r → CanGoOn (taken s r)
  taken_kept (Leaf t a) r k = record { filled = attached_filled t a r.parts r.open_now (has_needs t _ k.filled); levels = k.levels }
  taken_kept (Enter t n) r k = record { filled = tt; levels = (has_needs t _ k.filled, k.levels) }
  taken_kept Leave r k = leave_kept r.parts r.open_now k.filled k.levels

  closed_lift : (ps : List Part) (ls : List Level) → LevelsNeed ls → all_closed (lift_parts ps ls) (lift_levels ls) ≡ P ++ all_closed ps ls
  closed_lift ps [] h = refl
  closed_lift ps (l ∷ ls) h = ap (λ qs. all_closed qs (lift_levels ls)) (attached_lift l.tie (join l.name ps) l.before ls h.0) ∙ closed_lift (closed ps l) ls h.1

  module _ (qs : List Step) (none : reading qs ≡ record { parts = P; open_now = [] }) where
    record Lifted (ss : List Step) : Type 0 where
      same : reading (ss ++ qs) ≡ lifted (reading ss)
      kept : CanGoOn (reading ss)

    lifted_steps : (ss : List Step) → Starts ss → Lifted ss
    lifted_steps [] h = absurd h
    lifted_steps (Leaf (Begins e) a ∷ []) h = record { same = ap (taken (Leaf (Begins e) a)) none; kept = record { filled = refl; levels = tt } }
    lifted_steps (Enter (Begins e) n ∷ []) h = record {
      same = ap (taken (Enter (Begins e) n)) none ∙ ap (λ ps. record { parts = []; open_now = (record { tie = Begins e; name = n; before = ps }) ∷ [] }) (sym (append-nil P));
      kept = record { filled = tt; levels = (tt, tt) };
    }
    lifted_steps (s ∷ []) h = absurd h
    lifted_steps (s ∷ t ∷ ss) h =
        let r = lifted_steps (t ∷ ss) h in
        record { same = ap (taken s) r.same ∙ taken_lift s (reading (t ∷ ss)) r.kept; kept = taken_kept s (reading (t ∷ ss)) r.kept }

-- ---- the law
-- behind a space stands a gap, and it is no step
record Spaced (ts : List Token) : Type 0 where
  size : ℕ
  rest : List Token
  gap : with_next 32 ts ≡ Gap size ∷ rest
  same : steps rest ≡ steps ts

spaced : (ts : List Token) → Spaced ts
unfolding is_word_char encode_utf8
spaced (Gap n ∷ ts) = record { size = n + 1; rest = ts; gap = refl; same = refl }
spaced ts = record { size = 1; rest = ts; gap = refl; same = refl }

-- the query of the steps
query_parts_of : (cs : List ℕ) (r : Reading) → reading (steps (tokens cs)) ≡ r → (out-Query (query_of cs)).parts ≡ all_closed r.parts r.open_now
query_parts_of cs r e = ap (λ q. q.parts) (out-roll-Query (record { parts = all_closed (reading (steps (tokens cs))).parts (reading (steps (tokens cs))).open_now })) ∙ ap (λ x. all_closed x.parts x.open_now) e

shut : (r : Reading) → length r.open_now ≡ 0 → r ≡ record { parts = r.parts; open_now = [] }
shut r h = ap (λ ls. record { parts = r.parts; open_now = ls }) (no_length r.open_now h)
  where
    no_length : (ls : List Level) → length ls ≡ 0 → ls ≡ []
    no_length [] e = refl
    no_length (l ∷ ls) e = absurd (omega (arith, e))

pub separate : SpacesSeparate
separate cs ds x none word =
    let ts = tokens cs in
    let P = (reading (steps ts)).parts in
    let s = spaced ts in
    let us : List Token = Word (encode_utf8 x) ∷ [] in
    let w = encode_utf8 x in
    let first : (bs : List Token) → with_next x (Gap s.size ∷ bs) ≡ Word w ∷ Gap s.size ∷ bs = λ bs. ap (λ k. grown k w (Gap s.size ∷ bs)) (letter x word) in
    let alone : tokens (x ∷ ds) ≡ tokens_after us ds = ap (λ k. tokens_after (grown k w []) ds) (letter x word) in
    let over = after_over s.size s.rest ds us tt in
    let toked : tokens (cs ++ 32 ∷ x ∷ ds) ≡ tokens_after us ds ++ Gap s.size ∷ s.rest =
    after-append [] cs (32 ∷ x ∷ ds) ∙ ap (λ vs. tokens_after (with_next x vs) ds) s.gap ∙ ap (λ vs. tokens_after vs ds) (first s.rest) ∙ over.0 in
    let stepped : steps (tokens (cs ++ 32 ∷ x ∷ ds)) ≡ steps (tokens_after us ds) ++ steps ts =
    ap steps toked ∙ steps_over s.size s.rest (tokens_after us ds) ∙ ap (λ ss. steps (tokens_after us ds) ++ ss) s.same in
    let before : reading (steps ts) ≡ record { parts = P; open_now = [] } = shut (reading (steps ts)) none in
    let r = lifted_steps P (steps ts) before (steps (tokens_after us ds)) (steps_start (tokens_after us ds) over.1) in
    let behind : Reading = reading (steps (tokens_after us ds)) in
    query_parts_of (cs ++ 32 ∷ x ∷ ds) (lifted P behind) (ap reading stepped ∙ r.same)
    ∙ closed_lift P behind.parts behind.open_now r.kept.levels
    ∙ ap (λ ps. ps ++ all_closed behind.parts behind.open_now) (sym (query_parts_of cs (record { parts = P; open_now = [] }) before))
    ∙ ap (λ ps. (out-Query (query_of cs)).parts ++ ps) (sym (query_parts_of (x ∷ ds) behind (ap (λ vs. reading (steps vs)) alone)))
