-- What holds of lists of kept entries.
--
-- Source: none of its own; these are laws about KeptList.
--
--   FrontsStayGood      a list that is good stays so where one of its entries comes to the front
--   ListsStayGood       and after a query of the grammar, whose own entry isn't put in a second time
--   HeldAreOwn          each key of a good list is that of a query of the grammar, whose entry is found under it
--   before_last q       the query without its last part
--   Finds k held q plan r     by the key that a plan uses for the query q, a list holds the entry of the query r
--   Serves k held q plan      what a plan goes on from: the entry of the query itself, of one with a shorter prefix, or of the parts
--                       before the last
--   PlansServe          the law that each plan goes on from such an entry
--   ShorterAreOfGrammar, FirstPartsAreOfGrammar     the queries whose keys are looked for are queries of the grammar
--   PlansAreHeld        each plan but Fresh uses an entry that is held
--   FrontsPlanAlike     a plan stays as it is where an entry comes to the front
--   FrontsUseAlike      and so does the entry that it uses
--   OthersAreNew        where a plan isn't Same no entry has the query's own key, an entry in front or not
--   NumbersPlanAlike    the plan over entries told by the numbers of their words is the plan over those of the corpus
--   NumbersUseAlike, NumbersFrontAlike, NumbersPutAlike, NumbersKeepAlike      and so are the entry that a plan uses, the list with
--                       an entry in front, the list with one entry more, and what becomes of that one
use Rattle.std.specs.Prelude.{◌≡◌, ℕ, ◌-◌, ◌<◌, true, false, List, length, take, Option, Some, IsSome}
use Rattle.std.specs.List.{Contains}
use Rattle.std.specs.Option.{option_map}
use Rattle.std.specs.Str.{IsUtf8}
use Rattle.cs_base.specs.declared.content.doc.Post.{Post}
use Rattle.cs_base.specs.declared.content.key.Keys.{Keys}
use Rattle.cs_base.specs.declared.index.plan.Kept.{Kept}
use Rattle.cs_base.specs.declared.index.plan.Kept.TheVariants as kept
use Rattle.cs_base.specs.declared.index.plan.Plan.{Plan}
use Rattle.cs_base.specs.declared.index.plan.Plan.TheVariants.{Same, Narrow, Extend, Fresh}
use Rattle.cs_base.specs.declared.content.query.Query.{Query, roll-Query, out-Query}
use Rattle.cs_base.specs.declared.content.query.Part.{Part}
use Rattle.cs_model.specs.Canonical.{canonical}
use Rattle.cs_model.specs.Corpus.{Corpus}
use Rattle.cs_model.specs.Keys.{keys_of, last_prefix, shorter_words, with_prefix}
use Rattle.cs_model.specs.Refusals.{IsOfGrammar}
use Rattle.cs_model_kept.specs.Entries.{EntryOf, entry_at, entry_of}
use Rattle.cs_model_kept.specs.KeptLaws.{followed}
use Rattle.cs_model_kept.specs.KeptList.{KeptOf, KeptList, GoodFor, is_held, found, kept_at, kept_fresh, plan, plan_by, put_in_front, used_entry, used_key, to_front, after}

-- over each corpus, whichever key it is
abbrev pub FrontsStayGood : Type 0
FrontsStayGood = (k : Corpus) (held : KeptList) (key : Option (List ℕ)) → GoodFor k held → GoodFor k (to_front held key)

-- with room for any number of entries, and whatever becomes of the query's own entry, which is kept only where it wasn't had
abbrev pub ListsStayGood : Type 0
ListsStayGood = (k : Corpus) (held : KeptList) (room : ℕ) (q : Query) (was : Kept) → GoodFor k held → IsOfGrammar q
    → (was ≡ kept.Kept → ¬ (plan held q ≡ Same)) → GoodFor k (after held room q was k)

-- what a list holds under a key is that query's own entry, and no other's
abbrev pub HeldAreOwn : Type 0
HeldAreOwn = (k : Corpus) (held : KeptList) (key : List ℕ) → GoodFor k held → is_held held key ≡ true
    → (q : Query) × IsOfGrammar q × (key ≡ canonical q) × (found held key ≡ Some (key, entry_of k q))

-- ---- what a plan goes on from
-- the query without its last part; of one part, and of none, the empty query
abbrev pub before_last : Query → Query
before_last q = roll-Query (record { parts = take (length (out-Query q).parts - 1) (out-Query q).parts })

-- the key that the plan uses is that of the query r, and what is found under it is the entry of r
pub record Finds (k : Corpus) (held : KeptList) (q : Query) (by_plan : Plan) (r : Query) : Type 0 where
  pub of_grammar : IsOfGrammar r
  pub key : used_key (keys_of q) by_plan ≡ Some (canonical r)
  pub entry : found held (canonical r) ≡ Some (canonical r, entry_of k r)

-- Same goes on from the query's own entry; Narrow from that of the query with a word of so many bytes in the place of the prefix p,
-- which p may have been before; Extend from that of the parts before a last one; Fresh from none
abbrev pub Serves : Corpus → KeptList → Query → Plan → Type 0
Serves k held q Same = Finds k held q Same q
Serves k held q (Narrow cut) =
    (p : List ℕ) × (w : List ℕ) × (last_prefix q ≡ Some p) × IsUtf8 p × Contains (shorter_words p) w × (length w ≡ cut) × Finds k held q (Narrow cut) (with_prefix w q)
Serves k held q Extend = (p : Part) × (q ≡ followed (before_last q) p) × (1 < length (out-Query q).parts) × Finds k held q Extend (before_last q)
Serves k held q Fresh = Unit {0}

-- by each list that is good, for each query of the grammar
abbrev pub PlansServe : Type 0
PlansServe = (k : Corpus) (held : KeptList) (q : Query) → GoodFor k held → IsOfGrammar q → Serves k held q (plan held q)

-- with each word that the prefix may have been before; and the prefix is a text
abbrev pub ShorterAreOfGrammar : Type 0
ShorterAreOfGrammar = (q : Query) (p w : List ℕ) → IsOfGrammar q → last_prefix q ≡ Some p → Contains (shorter_words p) w → IsOfGrammar (with_prefix w q) × IsUtf8 p

-- without the last part, of which there may be none
abbrev pub FirstPartsAreOfGrammar : Type 0
FirstPartsAreOfGrammar = (q : Query) → IsOfGrammar q → IsOfGrammar (before_last q)

-- over each list, whatever its entries are
abbrev pub PlansAreHeld : Type 0
PlansAreHeld = (held : KeptOf (EntryOf Post)) (q : Query) → IsOfGrammar q → ¬ (plan_by held (keys_of q) ≡ Fresh) → IsSome (used_entry held (keys_of q) (plan_by held (keys_of q)))

-- ---- fronts
-- whichever key it is, and by any keys
abbrev pub FrontsPlanAlike : Type 0
FrontsPlanAlike = (held : KeptOf (EntryOf Post)) (key : Option (List ℕ)) (keys : Keys) → plan_by (to_front held key) keys ≡ plan_by held keys

-- by any plan, also one of another list
abbrev pub FrontsUseAlike : Type 0
FrontsUseAlike = (held : KeptOf (EntryOf Post)) (key : Option (List ℕ)) (keys : Keys) (by_plan : Plan) → used_entry (to_front held key) keys by_plan ≡ used_entry held keys by_plan

-- whichever key comes to the front, also none
abbrev pub OthersAreNew : Type 0
OthersAreNew = (held : KeptOf (EntryOf Post)) (key : Option (List ℕ)) (keys : Keys) → ¬ (plan_by held keys ≡ Same) → is_held (to_front held key) keys.same ≡ false

-- ---- entries by numbers of words
-- by any words, for any list
abbrev pub NumbersPlanAlike : Type 0
NumbersPlanAlike = (ws : List (List ℕ)) (held : KeptOf (EntryOf Post)) (keys : Keys) → plan_by (kept_at ws held) keys ≡ plan_by held keys

-- the same entry, its rows told by the words themselves; None for both at once
abbrev pub NumbersUseAlike : Type 0
NumbersUseAlike = (ws : List (List ℕ)) (held : KeptOf (EntryOf Post)) (keys : Keys) (by_plan : Plan) → used_entry (kept_at ws held) keys by_plan ≡ option_map (λ e. (e.0, entry_at ws e.1)) (used_entry held keys by_plan)

-- whichever key it is
abbrev pub NumbersFrontAlike : Type 0
NumbersFrontAlike = (ws : List (List ℕ)) (held : KeptOf (EntryOf Post)) (key : Option (List ℕ)) → to_front (kept_at ws held) key ≡ kept_at ws (to_front held key)

-- with room for any number of entries
abbrev pub NumbersPutAlike : Type 0
NumbersPutAlike = (ws : List (List ℕ)) (held : KeptOf (EntryOf Post)) (room : ℕ) (was : Kept) (key : List ℕ) (e : EntryOf Post) → put_in_front room was (key, entry_at ws e) (kept_at ws held) ≡ kept_at ws (put_in_front room was (key, e) held)

-- a row for each post, so the sizes are equal
abbrev pub NumbersKeepAlike : Type 0
NumbersKeepAlike = (ws : List (List ℕ)) (e : EntryOf Post) → kept_fresh (entry_at ws e) ≡ kept_fresh e
