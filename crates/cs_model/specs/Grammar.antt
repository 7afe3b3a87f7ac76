-- What the tokens of a key text mean. Lists of tokens and of steps have the newest first, so "the last tokens" are the first
-- of the list.
--
-- Source: the signs are this engine's own. What prefixes, facets and joins ask is that of the two papers by Bast and Weber
-- (Answers).
--
--   spot ts                   where a run directly behind the tokens ts stands; behind none at the front
--   front_tie r, link_tie r   how an atom directly behind the run r is tied, where r stands at the front, and behind an atom
--   run_tie spot r            how it is tied where the run stands at this spot
--   tie ts                    how an atom that begins directly behind the tokens ts is tied to what stands before; behind
--                             none it begins a part
--   Step                      a Leaf, which is an atom with its tie; Enter and Leave, a bracket that opens or closes
--   steps ts                  the atoms of the tokens, each with its tie, and the brackets that open and close; of no tokens
--                             none
--   on_last f xs              xs with f of its last entry in that entry's place; of no entry none
--   chain_of a, part_of e a   the chain of the atom a alone; the part of it alone, excluded where e is true
--   with_link l a c           the chain c with the atom a behind the link l
--   with_chains f p           the part p with f of its chains
--   attached t a ps           the parts ps with the atom a, so tied; without a part an alternative or a link adds nothing
--   join n ps                 the join of the name n with the query of the parts ps
--   Reading                   the parts within the brackets that are open, and these brackets
--   closed ps l               the parts around the bracket l, with the join whose query has the parts ps
--   leave ps ls               the reading behind a closing bracket; where none is open, the same
--   taken s r                 the reading r with one step more
--   reading ss                the reading behind the steps ss; behind none it has no part and no bracket
--   all_closed ps ls          the parts ps with each of the brackets ls closed; where none is open ps
--   query_of_tokens ts        the query of the tokens ts; of none the empty query
--   query_of cs               the query of the characters cs, each open bracket closed at the end; of none the empty query
use Rattle.std.specs.Prelude.{ℕ, List, [], ◌∷◌, ◌++◌, Bool, false, ◌&&◌, ◌==◌, fold, if◌then◌else◌}
use Rattle.cs_base.specs.content.Bytes.{dash, dot}
use Rattle.cs_base.specs.declared.content.query.Link.{Link}
use Rattle.cs_base.specs.declared.content.query.Link.TheVariants.{Phrase, Near}
use Rattle.cs_base.specs.declared.content.query.Query.{Query, roll-Query}
use Rattle.cs_base.specs.declared.content.query.Part.{Part, roll-Part, out-Part}
use Rattle.cs_base.specs.declared.content.query.Chain.{Chain, roll-Chain, out-Chain}
use Rattle.cs_base.specs.declared.content.query.Linked.{roll-Linked}
use Rattle.cs_base.specs.declared.content.query.Atom.{Atom, Prefix, Exact, roll-Atom}
use Rattle.cs_base.specs.declared.content.query.Atom.TheOpen.{Atom-F}
use Rattle.cs_model.specs.declared.kinds.Level.{Level}
use Rattle.cs_model.specs.declared.kinds.Tie.{Tie}
use Rattle.cs_model.specs.declared.kinds.Tie.TheVariants.{Begins, Alternative, Linked as LinkedBy}
use Rattle.cs_model.specs.declared.kinds.Spot.{Spot}
use Rattle.cs_model.specs.declared.kinds.Spot.TheVariants.{Front, BehindAtom, Elsewhere}
use Rattle.cs_model.specs.Collection.{named}
use Rattle.cs_model.specs.Tokens.{Token, Word, Value, Run, Gap, Dollar, Bar, Colon, Open, Close, tokens}

-- ---- how an atom is tied to what stands before it
-- where a run directly behind these tokens stands; behind none, at the start of the text, it stands at the front
abbrev pub spot : List Token → Spot
spot [] = Front
spot (Gap n ∷ ts) = Front
spot (Open ∷ ts) = Front
spot (Word w ∷ ts) = BehindAtom
spot (Dollar ∷ ts) = BehindAtom
spot (Close ∷ ts) = BehindAtom
spot _ = Elsewhere

-- at the front a run that is exactly - excludes, and any other means nothing
abbrev pub front_tie : List ℕ → Tie
front_tie (x ∷ []) = Begins (x == dash)
front_tie _ = Begins false

-- behind an atom one character is a phrase, two dots are nearness, and any other run separates
abbrev pub link_tie : List ℕ → Tie
link_tie (x ∷ []) = LinkedBy Phrase
link_tie (x ∷ y ∷ []) = if (x == dot) && (y == dot) then LinkedBy Near else Begins false
link_tie _ = Begins false

-- the tie of an atom directly behind a run; where the run stands elsewhere, it separates
abbrev pub run_tie : Spot → List ℕ → Tie
run_tie Front r = front_tie r
run_tie BehindAtom r = link_tie r
run_tie Elsewhere r = Begins false

-- the tie of an atom that begins directly behind these tokens; behind none it begins a part
abbrev pub tie : List Token → Tie
tie (Bar ∷ ts) = Alternative
tie (Run r ∷ ts) = run_tie (spot ts) r
tie _ = Begins false

-- ---- the steps
-- an atom with its tie, a bracket that opens behind a name, or one that closes
pub data Step : Type 0 where
  Leaf : Tie → Atom → Step
  Enter : Tie → List ℕ → Step
  Leave : Step

-- the steps of the tokens; an atom is a word, or a name, a colon and a value, either with a dollar or not, and other tokens
-- only tie
abbrev pub steps : List Token → List Step
steps (Word w ∷ ts) = Leaf (tie ts) (Prefix w) ∷ steps ts
steps (Dollar ∷ Word w ∷ ts) = Leaf (tie ts) (Exact w) ∷ steps ts
steps (Value v ∷ Colon ∷ Word n ∷ ts) = Leaf (tie ts) (Prefix (named n v)) ∷ steps ts
steps (Dollar ∷ Value v ∷ Colon ∷ Word n ∷ ts) = Leaf (tie ts) (Exact (named n v)) ∷ steps ts
steps (Open ∷ Word n ∷ ts) = Enter (tie ts) n ∷ steps ts
steps (Close ∷ ts) = Leave ∷ steps ts
steps (t ∷ ts) = steps ts
steps [] = []

-- ---- the query of the steps
-- the list with its last entry changed; the empty list stays empty
abbrev pub on_last : {X : Type 0} → (X → X) → List X → List X
on_last f [] = []
on_last f (x ∷ []) = f x ∷ []
on_last f (x ∷ y ∷ ys) = x ∷ on_last f (y ∷ ys)

-- the chain of one atom, without a link
abbrev pub chain_of : Atom → Chain
chain_of a = roll-Chain (record { first = a; rest = [] })

-- the part of one atom, excluded or positive
abbrev pub part_of : Bool → Atom → Part
part_of excluded a = roll-Part (record { excluded = excluded; chains = chain_of a ∷ [] })

-- a chain with one atom more, behind this link
abbrev pub with_link : Link → Atom → Chain → Chain
with_link l a c = roll-Chain (record { first = (out-Chain c).first; rest = (out-Chain c).rest ++ roll-Linked (record { link = l; atom = a }) ∷ [] })

-- a part with its chains changed, and excluded as it was
abbrev pub with_chains : (List Chain → List Chain) → Part → Part
with_chains f p = roll-Part (record { excluded = (out-Part p).excluded; chains = f (out-Part p).chains })

-- the parts with one atom more, which begins a part or an alternative of the last one, or goes on with its last chain;
-- without a part an alternative or a link adds nothing
abbrev pub attached : Tie → Atom → List Part → List Part
attached (Begins excluded) a ps = ps ++ part_of excluded a ∷ []
attached Alternative a ps = on_last (with_chains (λ cs. cs ++ chain_of a ∷ [])) ps
attached (LinkedBy l) a ps = on_last (with_chains (on_last (with_link l a))) ps

-- a join as an atom; its query is empty where there is no part
abbrev pub join : List ℕ → List Part → Atom
join name ps = roll-Atom (Atom-F.Join name (roll-Query (record { parts = ps })))

-- the parts within the brackets that are open now, and these brackets, innermost first
pub record Reading : Type 0 where
  pub parts : List Part
  pub open_now : List Level

-- the parts around a bracket with its join, whose query is empty where no part stands within
abbrev pub closed : List Part → Level → List Part
closed ps l = attached l.tie (join l.name ps) l.before

-- the reading behind a closing bracket; where none is open it is as before
abbrev pub leave : List Part → List Level → Reading
leave ps [] = record { parts = ps; open_now = [] }
leave ps (l ∷ ls) = record { parts = closed ps l; open_now = ls }

-- the reading behind one step more; within a bracket that opens there is no part yet
abbrev pub taken : Step → Reading → Reading
taken (Leaf t a) r = record { parts = attached t a r.parts; open_now = r.open_now }
taken (Enter t n) r = record { parts = []; open_now = (record { tie = t; name = n; before = r.parts }) ∷ r.open_now }
taken Leave r = leave r.parts r.open_now

-- the reading behind all steps; behind none there is no part and no bracket
abbrev pub reading : List Step → Reading
reading [] = record { parts = []; open_now = [] }
reading (s ∷ ss) = taken s (reading ss)

-- the parts once each open bracket is closed, innermost first; where none is open they stay
abbrev pub all_closed : List Part → List Level → List Part
all_closed ps ls = fold closed ps ls

-- the query that tokens mean, brackets closed at the end; of no tokens the empty query
abbrev pub query_of_tokens : List Token → Query
query_of_tokens ts = let r = reading (steps ts) in roll-Query (record { parts = all_closed r.parts r.open_now })

-- the query that a text's characters mean; of the empty text the empty query
abbrev pub query_of : List ℕ → Query
query_of cs = query_of_tokens (tokens cs)
