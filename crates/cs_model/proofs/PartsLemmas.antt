-- How many parts stand at the top of a query, and that each has an alternative.
--
--   parts_within     the parts within the innermost bracket, and those that the open brackets will leave, are among the parts that begin
--   few_parts        a query of the grammar has at most so many parts
--   have_chains      each of them has an alternative
use Rattle.std.proofs.Common.{◌≡◌, ℕ, suc, ◌≤◌, ◌+◌, List, [], ◌∷◌, ◌++◌, Bool, length, refl, ap, ◌∙◌, sym, subst, arith, length-append, None}
use Rattle.std.specs.List.{AllByRecursion}
use Rattle.std.specs.Str.{chars}
use Rattle.std.proofs.lemmas.List.{take_all}
use Rattle.cs_base.specs.declared.content.query.Query.{Query, out-Query, out-roll-Query}
use Rattle.cs_base.specs.declared.content.query.Part.{Part, out-Part, out-roll-Part}
use Rattle.cs_base.specs.declared.content.query.Chain.{Chain}
use Rattle.cs_base.specs.declared.content.query.Atom.{Atom}
use Rattle.cs_base.specs.declared.content.limits.TheConstants.{MAX_PARTS}
use Rattle.cs_model.specs.declared.kinds.Level.{Level}
use Rattle.cs_model.specs.declared.kinds.Tie.{Tie}
use Rattle.cs_model.specs.declared.kinds.Tie.TheVariants.{Begins, Alternative, Linked}
use Rattle.cs_model.specs.Tokens.{Token, tokens}
use Rattle.cs_model.specs.Grammar.{Step, Leaf, Enter, Leave, steps, reading, on_last, chain_of, part_of, with_link, with_chains, attached, join, closed, leave, all_closed}
use Rattle.cs_model.specs.GrammarLaws.{PartsHaveChains}
use Rattle.cs_model.proofs.PassedTokens.{passes}
use Rattle.cs_model.specs.Refusals.{begins_part, parts_in, verdict, IsOfGrammar}

on_last-length : {X : Type 0} (f : X → X) (xs : List X) → length (on_last f xs) ≡ length xs
on_last-length f [] = refl
on_last-length f (x ∷ []) = refl
on_last-length f (x ∷ y ∷ ys) = ap (λ n. suc n) (on_last-length f (y ∷ ys))

-- an atom adds a part where its tie begins one
attached-length : (t : Tie) (a : Atom) (ps : List Part) → length (attached t a ps) ≡ length ps + begins_part t
attached-length (Begins excluded) a ps = length-append ps _
attached-length Alternative a ps = on_last-length _ ps ∙ omega arith
attached-length (Linked l) a ps = on_last-length _ ps ∙ omega arith

-- the parts that stand before open brackets, and those that their joins begin
left_by : List Level → ℕ
left_by [] = 0
left_by (l ∷ ls) = length l.before + begins_part l.tie + left_by ls

leave-length : (ps : List Part) (ls : List Level) → length (leave ps ls).parts + left_by (leave ps ls).open_now ≤ length ps + left_by ls
unfolding left_by
leave-length ps [] = omega arith
leave-length ps (l ∷ ls) = omega (arith, attached-length l.tie (join l.name ps) l.before)

parts_within : (ss : List Step) → length (reading ss).parts + left_by (reading ss).open_now ≤ parts_in ss
unfolding left_by
parts_within [] = omega arith
parts_within (Leaf t a ∷ ss) = omega (arith, parts_within ss, attached-length t a (reading ss).parts)
parts_within (Enter t n ∷ ss) = omega (arith, parts_within ss)
parts_within (Leave ∷ ss) = omega (arith, parts_within ss, leave-length (reading ss).parts (reading ss).open_now)

all_closed-length : (ps : List Part) (ls : List Level) → length (all_closed ps ls) ≤ length ps + left_by ls
unfolding left_by
all_closed-length ps [] = omega arith
all_closed-length ps (l ∷ ls) = omega (arith, all_closed-length (closed ps l) ls, attached-length l.tie (join l.name ps) l.before)

-- where the newest character isn't refused, few parts have begun
verdict_parts : (ts : List Token) → verdict ts ≡ None → parts_in (steps ts) ≤ MAX_PARTS
verdict_parts ts h = (passes ts h).parts

pub few_parts : (q : Query) → IsOfGrammar q → length (out-Query q).parts ≤ MAX_PARTS
few_parts q g =
    let cs = chars g.text in
    let ss = steps (tokens cs) in
    let r = reading ss in
    let last : verdict (tokens cs) ≡ None = ap (λ l. verdict (tokens l)) (sym (take_all (length cs) cs (omega arith))) ∙ g.accepted (length cs) (omega arith) in
    let few : length (all_closed r.parts r.open_now) ≤ MAX_PARTS = omega (arith, all_closed-length r.parts r.open_now, parts_within ss, verdict_parts (tokens cs) last) in
    let same : (out-Query q).parts ≡ all_closed r.parts r.open_now = ap (λ x. (out-Query x).parts) g.read ∙ ap (λ x. x.parts) (out-roll-Query (record { parts = all_closed r.parts r.open_now })) in
    omega (arith, few, ap length same)

-- ---- alternatives
abbrev HasChains : Part → Type 0
HasChains p = 1 ≤ length (out-Part p).chains

module _ {X : Type 0} (P : X → Type 0) where
  all_push : (xs : List X) (x : X) → AllByRecursion P xs → P x → AllByRecursion P (xs ++ x ∷ [])
  all_push [] x h p = (p, tt)
  all_push (y ∷ xs) x h p = (h.0, all_push xs x h.1 p)

  all_changed : (f : X → X) → ((x : X) → P x → P (f x)) → (xs : List X) → AllByRecursion P xs → AllByRecursion P (on_last f xs)
  all_changed f g [] h = tt
  all_changed f g (x ∷ []) h = (g x h.0, tt)
  all_changed f g (x ∷ y ∷ ys) h = (h.0, all_changed f g (y ∷ ys) h.1)

one_chain : (excluded : Bool) (a : Atom) → HasChains (part_of excluded a)
one_chain excluded a = let is = ap (λ p. length p.chains) (out-roll-Part (record { excluded = excluded; chains = chain_of a ∷ [] })) in omega (arith, is)

-- a part whose chains are no fewer
more_chains : (f : List Chain → List Chain) → ((cs : List Chain) → length cs ≤ length (f cs)) → (p : Part) → HasChains p → HasChains (with_chains f p)
more_chains f more p h =
    let is = ap (λ q. length q.chains) (out-roll-Part (record { excluded = (out-Part p).excluded; chains = f (out-Part p).chains })) in
    omega (arith, h, is, more (out-Part p).chains)

attached_chains : (t : Tie) (a : Atom) (ps : List Part) → AllByRecursion HasChains ps → AllByRecursion HasChains (attached t a ps)
attached_chains (Begins excluded) a ps h = all_push HasChains ps (part_of excluded a) h (one_chain excluded a)
attached_chains Alternative a ps h =
    all_changed HasChains _ (more_chains (λ cs. cs ++ chain_of a ∷ []) (λ cs. omega (arith, length-append cs (chain_of a ∷ [])))) ps h
attached_chains (Linked l) a ps h = all_changed HasChains _ (more_chains (on_last (with_link l a)) (λ cs. omega (arith, on_last-length (with_link l a) cs))) ps h

-- those before each open bracket
abbrev LevelsHave : List Level → Type 0
LevelsHave [] = Unit {0}
LevelsHave (l ∷ ls) = AllByRecursion HasChains l.before × LevelsHave ls

leave_chains : (ps : List Part) (ls : List Level) → AllByRecursion HasChains ps → LevelsHave ls → AllByRecursion HasChains (leave ps ls).parts × LevelsHave (leave ps ls).open_now
leave_chains ps [] h k = (h, k)
leave_chains ps (l ∷ ls) h k = (attached_chains l.tie (join l.name ps) l.before k.0, k.1)

reading_chains : (ss : List Step) → AllByRecursion HasChains (reading ss).parts × LevelsHave (reading ss).open_now
reading_chains [] = (tt, tt)
reading_chains (Leaf t a ∷ ss) = let r = reading_chains ss in (attached_chains t a (reading ss).parts r.0, r.1)
reading_chains (Enter t n ∷ ss) = let r = reading_chains ss in (tt, (r.0, r.1))
reading_chains (Leave ∷ ss) = let r = reading_chains ss in leave_chains (reading ss).parts (reading ss).open_now r.0 r.1

all_closed_chains : (ps : List Part) (ls : List Level) → AllByRecursion HasChains ps → LevelsHave ls → AllByRecursion HasChains (all_closed ps ls)
all_closed_chains ps [] h k = h
all_closed_chains ps (l ∷ ls) h k = all_closed_chains (closed ps l) ls (attached_chains l.tie (join l.name ps) l.before k.0) k.1

pub have_chains : PartsHaveChains
have_chains q g =
    let ss = steps (tokens (chars g.text)) in
    let r = reading ss in
    let same : (out-Query q).parts ≡ all_closed r.parts r.open_now = ap (λ x. (out-Query x).parts) g.read ∙ ap (λ x. x.parts) (out-roll-Query (record { parts = all_closed r.parts r.open_now })) in
    subst (AllByRecursion HasChains) (sym same) (all_closed_chains r.parts r.open_now (reading_chains ss).0 (reading_chains ss).1)
