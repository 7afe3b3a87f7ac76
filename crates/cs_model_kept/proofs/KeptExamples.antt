-- Plans and lists of kept entries for worked queries, over any corpus: the definitions computed.
--
--   asked text        a query by its text
--   own text          a query's key with its entry
--   keys-..           the keys of queries
--   planned           the plan of a query by its keys
--   listed_after      the list after it by its keys
--   Goes, AllGo       the plan of a query and the list after it, and of queries in turn
use Rattle.std.proofs.Common.{◌≡◌, ℕ, List, [], ◌∷◌, map, refl, ap, ◌∙◌, Some, None, codes}
use Rattle.std.specs.Char.{encode_utf8}
use Rattle.std.specs.Str.{chars}
use Rattle.cs_base.specs.declared.content.key.Keys.{Keys}
use Rattle.cs_base.specs.declared.content.query.Query.{Query, out-roll-Query}
use Rattle.cs_base.specs.declared.content.query.Part.{out-roll-Part}
use Rattle.cs_base.specs.declared.content.query.Chain.{out-roll-Chain}
use Rattle.cs_model.specs.Words.{is_word_char}
use Rattle.cs_model.specs.Corpus.{Corpus}
use Rattle.cs_model.specs.Grammar.{query_of}
use Rattle.cs_model.specs.Keys.{keys_of}
use Rattle.cs_model.proofs.CanonicalLemmas.{prefix_shape, exact_shape}
use Rattle.cs_model.proofs.AttachedText.{rolled_query, rolled_part, rolled_chain, rolled_linked}
use Rattle.cs_base.specs.declared.index.plan.Plan.{Plan}
use Rattle.cs_base.specs.declared.index.plan.Plan.TheVariants.{Same, Narrow, Extend, Fresh}
use Rattle.cs_base.specs.declared.index.plan.Kept.{Kept}
use Rattle.cs_base.specs.declared.index.plan.Kept.TheVariants as kept
use Rattle.cs_model_kept.proofs.ShorterQueries.{out-prefix, out-exact}
use Rattle.cs_model_kept.specs.declared.limits.TheConstants.{MAX_ENTRIES}
use Rattle.cs_model_kept.specs.Entries.{Entry, entry_of}
use Rattle.cs_model_kept.specs.KeptList.{KeptList, plan, plan_by, after, to_front, used_key, put_in_front}

abbrev asked : List ℕ → Query
asked text = query_of text

-- ---- keys
keys-t : keys_of (asked (codes "t")) ≡ record { same = codes "t"; narrow = []; extend = None }
unfolding is_word_char chars encode_utf8
keys-t = simp (out-roll-Query, out-roll-Part, out-roll-Chain, out-prefix, rolled_query, rolled_part, rolled_chain, prefix_shape) refl

keys-ty : keys_of (asked (codes "ty")) ≡ record { same = codes "ty"; narrow = record { cut = 1; key = codes "t" } ∷ []; extend = None }
unfolding is_word_char chars encode_utf8
keys-ty = simp (out-roll-Query, out-roll-Part, out-roll-Chain, out-prefix, rolled_query, rolled_part, rolled_chain, prefix_shape) refl

keys-typ : keys_of (asked (codes "typ")) ≡ record { same = codes "typ"; narrow = record { cut = 2; key = codes "ty" } ∷ record { cut = 1; key = codes "t" } ∷ []; extend = None }
unfolding is_word_char chars encode_utf8
keys-typ = simp (out-roll-Query, out-roll-Part, out-roll-Chain, out-prefix, rolled_query, rolled_part, rolled_chain, prefix_shape) refl

keys-types : keys_of (asked (codes "types")) ≡ record { same = codes "types"; narrow = record { cut = 4; key = codes "type" } ∷ record { cut = 3; key = codes "typ" } ∷ record { cut = 2; key = codes "ty" } ∷ record { cut = 1; key = codes "t" } ∷ []; extend = None }
unfolding is_word_char chars encode_utf8
keys-types = simp (out-roll-Query, out-roll-Part, out-roll-Chain, out-prefix, rolled_query, rolled_part, rolled_chain, prefix_shape) refl

keys-typ_s : keys_of (asked (codes "typ s")) ≡ record { same = codes "typ s"; narrow = []; extend = Some (codes "typ") }
unfolding is_word_char chars encode_utf8
keys-typ_s = simp (out-roll-Query, out-roll-Part, out-roll-Chain, out-prefix, rolled_query, rolled_part, rolled_chain, prefix_shape) refl

keys-typ_se : keys_of (asked (codes "typ se")) ≡ record { same = codes "typ se"; narrow = record { cut = 1; key = codes "typ s" } ∷ []; extend = Some (codes "typ") }
unfolding is_word_char chars encode_utf8
keys-typ_se = simp (out-roll-Query, out-roll-Part, out-roll-Chain, out-prefix, rolled_query, rolled_part, rolled_chain, prefix_shape) refl

-- behind an exact word no prefix is being typed
keys-exact : keys_of (asked (codes "type$")) ≡ record { same = codes "type$"; narrow = []; extend = None }
unfolding is_word_char chars encode_utf8
keys-exact = simp (out-roll-Query, out-roll-Part, out-roll-Chain, out-exact, rolled_query, rolled_part, rolled_chain, exact_shape) refl

-- a phrase ends in a prefix, and either sign of it gives the same keys
keys-dot : keys_of (asked (codes "type.ahead")) ≡ record { same = codes "type.ahead"; narrow = record { cut = 4; key = codes "type.ahea" } ∷ record { cut = 3; key = codes "type.ahe" } ∷ record { cut = 2; key = codes "type.ah" } ∷ record { cut = 1; key = codes "type.a" } ∷ []; extend = None }
unfolding is_word_char chars encode_utf8
keys-dot = simp (out-roll-Query, out-roll-Part, out-roll-Chain, out-prefix, rolled_query, rolled_part, rolled_chain, rolled_linked, prefix_shape) refl

keys-dash : keys_of (asked (codes "type-ahead")) ≡ record { same = codes "type.ahead"; narrow = record { cut = 4; key = codes "type.ahea" } ∷ record { cut = 3; key = codes "type.ahe" } ∷ record { cut = 2; key = codes "type.ah" } ∷ record { cut = 1; key = codes "type.a" } ∷ []; extend = None }
unfolding is_word_char chars encode_utf8
keys-dash = simp (out-roll-Query, out-roll-Part, out-roll-Chain, out-prefix, rolled_query, rolled_part, rolled_chain, rolled_linked, prefix_shape) refl

-- of two alternatives none is being typed
keys-typed_a : keys_of (asked (codes "typed|a")) ≡ record { same = codes "typed|a"; narrow = []; extend = None }
unfolding is_word_char chars encode_utf8
keys-typed_a = simp (out-roll-Query, out-roll-Part, rolled_query, rolled_part, rolled_chain, prefix_shape) refl

keys-typed_ahead : keys_of (asked (codes "typed|ahead")) ≡ record { same = codes "typed|ahead"; narrow = []; extend = None }
unfolding is_word_char chars encode_utf8
keys-typed_ahead = simp (out-roll-Query, out-roll-Part, rolled_query, rolled_part, rolled_chain, prefix_shape) refl

-- an excluded part is no prefix that is being typed
keys-excluded : keys_of (asked (codes "-search")) ≡ record { same = codes "-search"; narrow = []; extend = None }
unfolding is_word_char chars encode_utf8
keys-excluded = simp (out-roll-Query, out-roll-Part, rolled_query, rolled_part, rolled_chain, prefix_shape) refl

keys-behind_excluded : keys_of (asked (codes "-search typ")) ≡ record { same = codes "-search typ"; narrow = record { cut = 2; key = codes "-search ty" } ∷ record { cut = 1; key = codes "-search t" } ∷ []; extend = Some (codes "-search") }
unfolding is_word_char chars encode_utf8
keys-behind_excluded = simp (out-roll-Query, out-roll-Part, out-roll-Chain, out-prefix, rolled_query, rolled_part, rolled_chain, prefix_shape) refl

-- ---- by keys
module _ (k : Corpus) where
  own : List ℕ → List ℕ × Entry
  own text = (text, entry_of k (asked text))

  planned : (held : KeptList) (q : Query) (keys : Keys) → keys_of q ≡ keys → plan held q ≡ plan_by held keys
  unfolding plan
  planned held q keys e = ap (plan_by held) e

  listed_after : (held : KeptList) (room : ℕ) (q : Query) (was : Kept) (keys : Keys) → keys_of q ≡ keys
      → after held room q was k ≡ put_in_front room was (keys.same, entry_of k q) (to_front held (used_key keys (plan_by held keys)))
  unfolding plan after
  listed_after held room q was keys e = ap (λ (x : Keys). put_in_front room was (x.same, entry_of k q) (to_front held (used_key x (plan_by held x)))) e

  -- the entries of these queries
  abbrev held : List (List ℕ) → KeptList
  held texts = map own texts

  -- Of the query of this text, over these entries: its plan, and the entries after it.
  record Goes (room : ℕ) (before : List (List ℕ)) (text : List ℕ) (p : Plan) (was : Kept) (next : List (List ℕ)) : Type 0 where
    plans : plan (held before) (asked text) ≡ p
    lists : after (held before) room (asked text) was k ≡ held next

  goes : {room : ℕ} {before : List (List ℕ)} {text : List ℕ} {p : Plan} {was : Kept} {next : List (List ℕ)} {keys : Keys} → keys_of (asked text) ≡ keys → plan_by (held before) keys ≡ p
      → put_in_front room was (keys.same, entry_of k (asked text)) (to_front (held before) (used_key keys (plan_by (held before) keys))) ≡ held next → Goes room before text p was next
  goes {room} {before} {text} {p} {was} {next} {keys} e is put = record {
    plans = planned (held before) (asked text) keys e ∙ is;
    lists = listed_after (held before) room (asked text) was keys e ∙ put;
  }

  -- a text, its query's plan, what becomes of its entry, and whose entries are kept then
  abbrev Turn : Type 0
  Turn = List ℕ × Plan × Kept × List (List ℕ)

  AllGo : ℕ → List (List ℕ) → List Turn → Type 0
  AllGo room before [] = Unit {0}
  AllGo room before (t ∷ ts) = Goes room before t.0 t.1 t.2 t.3 × AllGo room t.3 ts

  -- ---- letter by letter
  -- with room for all
  abbrev letters : List Turn
  letters =
      -- nothing is kept yet
      (codes "t", Fresh, kept.Kept, codes "t" ∷ [])
      -- with one letter more, from what the first one gave
      ∷ (codes "ty", Narrow 1, kept.Kept, codes "ty" ∷ codes "t" ∷ [])
      -- from the longest shorter prefix that is kept
      ∷ (codes "typ", Narrow 2, kept.Kept, codes "typ" ∷ codes "ty" ∷ codes "t" ∷ [])
      -- a second part goes on from the first one, which comes to the front
      ∷ (codes "typ s", Extend, kept.Kept, codes "typ s" ∷ codes "typ" ∷ codes "ty" ∷ codes "t" ∷ [])
      ∷ (codes "typ se", Narrow 1, kept.Kept, codes "typ se" ∷ codes "typ s" ∷ codes "typ" ∷ codes "ty" ∷ codes "t" ∷ [])
      -- the query itself is kept, so the entry comes to the front and none is put there
      ∷ (codes "typ", Same, kept.Had, codes "typ" ∷ codes "typ se" ∷ codes "typ s" ∷ codes "ty" ∷ codes "t" ∷ [])
      ∷ []

  letters-go : AllGo MAX_ENTRIES [] letters
  unfolding own AllGo
  letters-go = (goes keys-t refl refl, (goes keys-ty refl refl, (goes keys-typ refl refl, (goes keys-typ_s refl refl, (goes keys-typ_se refl refl, (goes keys-typ refl refl, tt))))))

  -- with room for two
  abbrev letters-of_two : List Turn
  letters-of_two =
      (codes "t", Fresh, kept.Kept, codes "t" ∷ [])
      ∷ (codes "ty", Narrow 1, kept.Kept, codes "ty" ∷ codes "t" ∷ [])
      ∷ (codes "typ", Narrow 2, kept.Kept, codes "typ" ∷ codes "ty" ∷ [])
      ∷ (codes "typ s", Extend, kept.Kept, codes "typ s" ∷ codes "typ" ∷ [])
      ∷ (codes "typ se", Narrow 1, kept.Kept, codes "typ se" ∷ codes "typ s" ∷ [])
      -- it was dropped, and the shorter ones too
      ∷ (codes "typ", Fresh, kept.Kept, codes "typ" ∷ codes "typ se" ∷ [])
      ∷ []

  letters-of_two-go : AllGo 2 [] letters-of_two
  unfolding own AllGo
  letters-of_two-go = (goes keys-t refl refl, (goes keys-ty refl refl, (goes keys-typ refl refl, (goes keys-typ_s refl refl, (goes keys-typ_se refl refl, (goes keys-typ refl refl, tt))))))

  -- ---- other queries
  -- two letters more, whose entry is too large and isn't put in
  longer : Goes MAX_ENTRIES (codes "typ" ∷ []) (codes "types") (Narrow 3) kept.TooLarge (codes "typ" ∷ [])
  unfolding own
  longer = goes keys-types refl refl

  -- an exact word goes on from no prefix
  plan-exact : plan (own (codes "typ") ∷ []) (asked (codes "type$")) ≡ Fresh
  unfolding own
  plan-exact = planned (own (codes "typ") ∷ []) (asked (codes "type$")) _ keys-exact

  -- two texts of one query
  plan-dash : plan (own (codes "type.ahead") ∷ []) (asked (codes "type-ahead")) ≡ Same
  unfolding own
  plan-dash = planned (own (codes "type.ahead") ∷ []) (asked (codes "type-ahead")) _ keys-dash

  -- a letter more in one of two alternatives
  plan-alternatives : plan (own (codes "typed|a") ∷ []) (asked (codes "typed|ahead")) ≡ Fresh
  unfolding own
  plan-alternatives = planned (own (codes "typed|a") ∷ []) (asked (codes "typed|ahead")) _ keys-typed_ahead

  plan-first_alternatives : plan [] (asked (codes "typed|a")) ≡ Fresh
  unfolding own
  plan-first_alternatives = planned [] (asked (codes "typed|a")) _ keys-typed_a

  -- a part behind an excluded one goes on from what that one left
  behind_excluded : Goes MAX_ENTRIES (codes "-search" ∷ []) (codes "-search typ") Extend kept.Kept (codes "-search typ" ∷ codes "-search" ∷ [])
  unfolding own
  behind_excluded = goes keys-behind_excluded refl refl
