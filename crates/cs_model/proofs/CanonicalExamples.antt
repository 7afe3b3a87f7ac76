-- Canonical texts and keys of worked queries: the definitions computed.
use Rattle.std.proofs.Common.{◌≡◌, ℕ, List, [], ◌∷◌, refl, ap, sym, ◌∙◌, Some, None, codes}
use Rattle.std.specs.Char.{encode_utf8}
use Rattle.std.specs.Str.{chars}
use Rattle.cs_base.specs.declared.content.query.Query.{out-roll-Query}
use Rattle.cs_base.specs.declared.content.query.Part.{out-roll-Part}
use Rattle.cs_base.specs.declared.content.query.Chain.{out-roll-Chain}
use Rattle.cs_base.specs.declared.content.query.Atom.{Prefix, Exact, out-Atom, out-roll-Atom}
use Rattle.cs_base.specs.declared.content.query.Atom.TheVariants.{rolls-Prefix, rolls-Exact}
use Rattle.cs_base.specs.declared.content.query.Atom.TheOpen.{Atom-F}
use Rattle.cs_model.specs.Words.{is_word_char}
use Rattle.cs_model.specs.Grammar.{query_of}
use Rattle.cs_model.specs.Canonical.{canonical}
use Rattle.cs_model.specs.Keys.{shorter_words, keys_of}
use Rattle.cs_model.proofs.CanonicalLemmas.{prefix_shape, exact_shape, join_shape}
use Rattle.cs_model.proofs.AttachedText.{rolled_query, rolled_part, rolled_chain, rolled_linked}

-- ---- canonical texts
-- a dash between words is a phrase, which is told by a dot
canonical-dash : canonical (query_of (codes "type-ahead")) ≡ codes "type.ahead"
unfolding is_word_char encode_utf8
canonical-dash = simp (rolled_query, rolled_part, rolled_chain, rolled_linked, prefix_shape, out-roll-Part, out-roll-Chain) refl

-- the bar before a closing bracket is dropped
canonical-join : canonical (query_of (codes "-k[a|]-b")) ≡ codes "-k[a].b"
unfolding is_word_char encode_utf8
canonical-join = simp (rolled_query, rolled_part, rolled_chain, rolled_linked, prefix_shape, join_shape, out-roll-Part, out-roll-Chain) refl

-- one space stands between two parts, and none at the ends
canonical-spaces : canonical (query_of (codes "  search,  -typ ")) ≡ codes "search -typ"
unfolding is_word_char encode_utf8
canonical-spaces = simp (rolled_query, rolled_part, rolled_chain, prefix_shape) refl

-- an open bracket is closed, and a facet is told without its leading colon
canonical-open : canonical (query_of (codes "k[year:2006$ a..b")) ≡ codes "k[year:2006$ a..b]"
unfolding is_word_char encode_utf8
canonical-open = simp (rolled_query, rolled_part, rolled_chain, rolled_linked, prefix_shape, exact_shape, join_shape, out-roll-Part, out-roll-Chain) refl

-- ---- keys
-- what the atoms are, seen as one level
out-prefix : (w : List ℕ) → out-Atom (Prefix w) ≡ Atom-F.Prefix w
out-prefix w = ap out-Atom (sym (rolls-Prefix w)) ∙ out-roll-Atom (Atom-F.Prefix w)

out-exact : (w : List ℕ) → out-Atom (Exact w) ≡ Atom-F.Exact w
out-exact w = ap out-Atom (sym (rolls-Exact w)) ∙ out-roll-Atom (Atom-F.Exact w)

-- the query itself, with shorter prefixes at its end, and without its last part
keys-two_parts : keys_of (query_of (codes "search typ")) ≡ record {
  same = codes "search typ";
  narrow = record { cut = 2; key = codes "search ty" } ∷ record { cut = 1; key = codes "search t" } ∷ [];
  extend = Some (codes "search");
}
unfolding is_word_char chars encode_utf8
keys-two_parts = simp (out-roll-Query, out-roll-Part, out-roll-Chain, out-prefix, rolled_query, rolled_part, rolled_chain, prefix_shape) refl

-- behind an exact word no prefix is being typed, and one part has none before it
keys-exact : keys_of (query_of (codes "typ$")) ≡ record { same = codes "typ$"; narrow = []; extend = None }
unfolding is_word_char chars encode_utf8
keys-exact = simp (out-roll-Query, out-roll-Part, out-roll-Chain, out-exact, rolled_query, rolled_part, rolled_chain, exact_shape) refl

-- ---- shorter words
-- a word keeps a character
shorter_word : shorter_words (codes "typ") ≡ codes "ty" ∷ codes "t" ∷ []
unfolding chars encode_utf8
shorter_word = refl

-- a facet's word keeps its name, and its value may be empty
shorter_value : shorter_words (codes ":k:ab") ≡ codes ":k:a" ∷ codes ":k:" ∷ []
unfolding chars encode_utf8
shorter_value = refl

-- and then there is no shorter one
shortest_value : shorter_words (codes ":k:") ≡ []
unfolding chars encode_utf8
shortest_value = refl
