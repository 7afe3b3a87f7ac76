-- Entries over the corpus of three documents: the definitions computed.
--
--   listed_at h s     a document with a score, as a base lists it
--   entry-..          the entries of queries
--   size-..           their sizes
use Rattle.std.proofs.Common.{◌≡◌, ℕ, [], ◌∷◌, refl, ap, codes}
use Rattle.std.specs.Char.{encode_utf8}
use Rattle.cs_base.specs.declared.content.doc.Base.TheVariants as base
use Rattle.cs_base.specs.declared.content.doc.Scored.{Scored}
use Rattle.cs_base.specs.declared.index.plan.Kept.TheVariants as kept
use Rattle.cs_base.specs.declared.index.plan.Plan.TheVariants.{Fresh}
use Rattle.cs_model.specs.Words.{is_word_char}
use Rattle.cs_model.specs.Grammar.{query_of}
use Rattle.cs_model.proofs.AnswersExamples.{row, worked, titles-are, typ_rows}
use Rattle.cs_model.proofs.AnswersLemmas.{query_rolled, part_listed, chain_rolled, prefix_rows}
use Rattle.cs_model_kept.specs.Entries.{entry_of, kept_entry_size}
use Rattle.cs_model_kept.specs.KeptList.{kept_by}

abbrev listed_at : ℕ → ℕ → Scored
listed_at d s = record { doc = d; score = s }

-- before the first part every document is there, and the rows are those of the part
entry-one : entry_of worked (query_of (codes "typ")) ≡ record { base = base.All; rows = typ_rows }
unfolding entry_of is_word_char encode_utf8
entry-one = simp (query_rolled, part_listed, chain_rolled, prefix_rows, titles-are) refl

-- the base is of the part before, with its scores
entry-two : entry_of worked (query_of (codes "search typ")) ≡ record {
  base = base.Listed (listed_at 0 1 ∷ listed_at 1 1 ∷ []);
  rows = row 0 1 4 (codes "type") ∷ row 1 12 1 (codes "type") ∷ [];
}
unfolding entry_of is_word_char encode_utf8
entry-two = simp (query_rolled, part_listed, chain_rolled, prefix_rows, titles-are) refl

-- behind an excluded part there are no rows, and the base is what that part left
entry-excluded : entry_of worked (query_of (codes "-search")) ≡ record { base = base.Listed (listed_at 2 0 ∷ []); rows = [] }
unfolding entry_of is_word_char encode_utf8
entry-excluded = simp (query_rolled, part_listed, chain_rolled, prefix_rows, titles-are) refl

-- and a part behind it goes on from there
entry-behind_excluded : entry_of worked (query_of (codes "-search typ")) ≡ record {
  base = base.Listed (listed_at 2 0 ∷ []);
  rows = row 2 1 4 (codes "typed") ∷ row 2 12 1 (codes "types") ∷ [];
}
unfolding entry_of is_word_char encode_utf8
entry-behind_excluded = simp (query_rolled, part_listed, chain_rolled, prefix_rows, titles-are) refl

-- the empty query has no part, so nothing is listed
entry-empty : entry_of worked (query_of []) ≡ record { base = base.All; rows = [] }
unfolding entry_of
entry-empty = simp query_rolled refl

-- rows and listed documents are counted together, and All lists none
size-one : kept_entry_size (entry_of worked (query_of (codes "typ"))) ≡ 4
size-one = ap kept_entry_size entry-one

size-two : kept_entry_size (entry_of worked (query_of (codes "search typ"))) ≡ 4
size-two = ap kept_entry_size entry-two

-- so it is kept
kept-two : kept_by Fresh (entry_of worked (query_of (codes "search typ"))) ≡ kept.Kept
kept-two = ap (kept_by Fresh) entry-two
