-- The entries that an engine keeps, which of them serves a query, and the list after a query.
--
-- Source: Bast and Weber, "Type less, find more: fast autocompletion search with a succinct index" (SIGIR 2006), for answering a
-- query from the kept result of the one before; that the entry used longest ago is the first to go is this engine's own.
--
--   KeptOf E              entries, each told by an E, with their keys, the one used last in front
--   KeptList              the same with entries of the corpus
--   kept_at ws held       entries told by the numbers of their words, as entries of the corpus
--   IsOwn k e             the key of e is that of a query of the grammar, whose entry over the corpus k stands beside it
--   GoodFor k held        the keys differ, and each has its own entry
--   is_held held key      some entry has this key; of no entry none has
--   found held key        the first entry of this key, with it; None where none has it
--   extend_or_fresh held keys     the plan where neither the query itself nor one with a shorter prefix is held
--   narrow_or held keys n     the plan where the query itself isn't held, by the first key of a shorter prefix that is, if any
--   plan_by held keys     the plan of a query by its keys: Same, else Narrow, else Extend, else Fresh
--   plan held q           the plan of a query; Fresh where nothing is held
--   used_key keys plan    the key of the entry that a plan uses; None for Fresh
--   used_entry held keys plan     the entry that a plan uses, with its key; None for Fresh, and where it isn't held
--   to_front held key     the entry of this key in front of the others, whose order stays; without one the list as it is
--   put_in_front room kept e held     the list with the entry e in front, where it is kept, and at most room entries
--   after held room q kept k      the list after the query q, by what became of the query's own entry
--   is_same plan          whether the plan is Same, so that the query's own entry is held
--   kept_fresh e          what becomes of an entry that wasn't had: too large, or kept
--   kept_by plan e        what becomes of a query's own entry e
--   after_own held room q k       the list after the query q, whose own entry is kept where its kept_entry_size allows
--   plans k room held qs  the plans of the queries qs, asked one after the other from the list held on
use Rattle.std.specs.Prelude.{◌≡◌, ℕ, Bool, true, false, not, nat_lt, if◌then◌else◌, List, [], ◌∷◌, ◌++◌, ◌==◌, map, filter, find, take, Option, Some, None}
use Rattle.std.specs.List.{All, IsDistinct, list_any}
use Rattle.std.specs.Option.{option_map, option_and_then}
use Rattle.std.specs.Str.{bytes_eq}
use Rattle.cs_base.specs.declared.content.doc.Post.{Post}
use Rattle.cs_base.specs.declared.content.key.Keys.{Keys}
use Rattle.cs_base.specs.declared.content.key.Narrower.{Narrower}
use Rattle.cs_base.specs.declared.index.plan.Plan.{Plan}
use Rattle.cs_base.specs.declared.index.plan.Plan.TheVariants.{Same, Narrow, Extend, Fresh}
use Rattle.cs_base.specs.declared.index.plan.Kept.{Kept}
use Rattle.cs_base.specs.declared.index.plan.Kept.TheVariants as kept
use Rattle.cs_base.specs.declared.content.query.Query.{Query}
use Rattle.cs_model.specs.Canonical.{canonical}
use Rattle.cs_model.specs.Corpus.{Corpus}
use Rattle.cs_model.specs.Keys.{keys_of}
use Rattle.cs_model.specs.Refusals.{IsOfGrammar}
use Rattle.cs_model_kept.specs.declared.limits.TheConstants.{MAX_ENTRY_SIZE}
use Rattle.cs_model_kept.specs.Entries.{Entry, EntryOf, entry_at, entry_of, kept_entry_size}

-- entries under the keys of their queries, each told by an E, the one used last in front; there may be none
abbrev pub KeptOf : Type 0 → Type 0
KeptOf E = List (List ℕ × E)

-- the same with entries of the corpus; there may be none
abbrev pub KeptList : Type 0
KeptList = KeptOf Entry

-- the entries whose rows are told by the numbers of their words, under the same keys; of none none
abbrev pub kept_at : List (List ℕ) → KeptOf (EntryOf Post) → KeptList
kept_at ws held = map (λ e. (e.0, entry_at ws e.1)) held

-- the key is that of a query of the grammar, and the entry that query's own
pub record IsOwn (k : Corpus) (e : List ℕ × Entry) : Type 0 where
  pub query : Query
  pub of_grammar : IsOfGrammar query
  pub key : e.0 ≡ canonical query
  pub entry : e.1 ≡ entry_of k query

-- no two keys are equal, and each stands with its own entry; the list without entries is good for each corpus
pub record GoodFor (k : Corpus) (held : KeptList) : Type 0 where
  pub different : IsDistinct bytes_eq (map (λ e. e.0) held)
  pub own : All (IsOwn k) held

-- the key of the entry that a plan uses, for Narrow that of the shorter prefix with so many bytes; None for Fresh
abbrev pub used_key : Keys → Plan → Option (List ℕ)
used_key keys Same = Some keys.same
used_key keys (Narrow cut) = option_map (λ n. n.key) (find (λ n. n.cut == cut) keys.narrow)
used_key keys Extend = keys.extend
used_key keys Fresh = None

module _ {E : Type 0} where
  -- ---- which entry serves
  -- some entry has this key; where nothing is kept none has
  abbrev pub is_held : KeptOf E → List ℕ → Bool
  is_held held key = list_any (λ e. bytes_eq e.0 key) held

  -- the first entry of this key, with it; None where none has it
  abbrev pub found : KeptOf E → List ℕ → Option (List ℕ × E)
  found held key = find (λ e. bytes_eq e.0 key) held

  -- Extend where the key of the query without its last part is held; a query of one part has none
  abbrev pub extend_or_fresh : KeptOf E → Option (List ℕ) → Plan
  extend_or_fresh held None = Fresh
  extend_or_fresh held (Some key) = if is_held held key then Extend else Fresh

  -- Narrow with this shorter prefix, which is held; where none is, as without one
  abbrev pub narrow_or : KeptOf E → Keys → Option Narrower → Plan
  narrow_or held keys (Some n) = Narrow n.cut
  narrow_or held keys None = extend_or_fresh held keys.extend

  -- the plan of a query with these keys: Same, else Narrow with the longest shorter prefix that is held, else Extend, else Fresh
  abbrev pub plan_by : KeptOf E → Keys → Plan
  plan_by held keys = if is_held held keys.same then Same else narrow_or held keys (find (λ n. is_held held n.key) keys.narrow)

  -- the entry of the key that a plan uses; None for Fresh, and where none has that key
  abbrev pub used_entry : KeptOf E → Keys → Plan → Option (List ℕ × E)
  used_entry held keys by_plan = option_and_then (found held) (used_key keys by_plan)

  -- ---- the list after a query
  -- the entry of this key in front, the others behind it in their order; where none has it, as without a key, the list itself
  abbrev pub to_front : KeptOf E → Option (List ℕ) → KeptOf E
  to_front held None = held
  to_front held (Some key) = filter (λ e. bytes_eq e.0 key) held ++ filter (λ e. not (bytes_eq e.0 key)) held

  -- the list with one entry more in front, where that is kept, cut to so many; else the list itself
  abbrev pub put_in_front : ℕ → Kept → List ℕ × E → KeptOf E → KeptOf E
  put_in_front room kept.Kept e held = take room (e ∷ held)
  put_in_front room kept.Had e held = held
  put_in_front room kept.TooLarge e held = held

-- ---- queries and their entries
-- the plan of a query; Fresh where nothing is kept
unfoldable pub plan : KeptList → Query → Plan
plan held q = plan_by held (keys_of q)

-- the list after a query over the corpus: the entry that its plan used comes to the front, and then its own where it is kept
unfoldable pub after : KeptList → ℕ → Query → Kept → Corpus → KeptList
after held room q kept k = put_in_front room kept (canonical q, entry_of k q) (to_front held (used_key (keys_of q) (plan held q)))

-- the plan is Same; Narrow, Extend and Fresh aren't
abbrev pub is_same : Plan → Bool
is_same Same = true
is_same _ = false

-- an entry that wasn't had is kept, unless its size is above `MAX_ENTRY_SIZE`
abbrev pub kept_fresh : {R : Type 0} → EntryOf R → Kept
kept_fresh e = if nat_lt MAX_ENTRY_SIZE (kept_entry_size e) then kept.TooLarge else kept.Kept

-- what becomes of a query's own entry: it was had where the plan is Same, and else it is kept where its size is at most
-- `MAX_ENTRY_SIZE`
abbrev pub kept_by : Plan → Entry → Kept
kept_by Same e = kept.Had
kept_by (Narrow cut) e = kept_fresh e
kept_by Extend e = kept_fresh e
kept_by Fresh e = kept_fresh e

-- the list after a query of which nothing is known but the corpus: its own entry is kept as its size allows
abbrev pub after_own : KeptList → ℕ → Query → Corpus → KeptList
after_own held room q k = after held room q (kept_by (plan held q) (entry_of k q)) k

-- the plans of queries that are asked one after the other; of no queries none
abbrev pub plans : Corpus → ℕ → KeptList → List Query → List Plan
plans k room held [] = []
plans k room held (q ∷ qs) = plan held q ∷ plans k room (after_own held room q k) qs
