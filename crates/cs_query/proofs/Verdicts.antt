-- The verdict on the newest character, limit by limit.
--
--   over_query, over_word, over_parts, over_atoms, over_depth    the limit that it is over
--   over_room                                                    the answer where a text would be longer than a query may be
--   within_all                                                   it is over none
--   dollar_fine                                                  a dollar may stand behind a value that isn't empty
use Rattle.std.proofs.Common.{◌≡◌, ◌≢◌, ℕ, ◌+◌, ◌<◌, ◌≤◌, List, [], ◌∷◌, length, refl, sym, subst, false, Some, None, Result, Ok, Err}
use Rattle.std.proofs.lemmas.Bool.{lt-leb, le-leb}
use Rattle.std.specs.Prelude.{IsErr, IsErrAnd}
use Rattle.cs_base.specs.declared.content.limits.TheConstants.{MAX_PLAIN_WORD_BYTES, MAX_QUERY_BYTES, MAX_PARTS, MAX_ATOMS, MAX_DEPTH}
use Rattle.cs_base.specs.declared.content.query.Which.TheVariants as limits
use Rattle.cs_model.specs.Tokens.{Token, Value, Dollar, size}
use Rattle.cs_model.specs.Grammar.{steps}
use Rattle.cs_model.specs.Refusals.{refused, verdict, parts_in, atoms_in, depth, newest, Limit}
use Rattle.cs_query.specs.declared.fault.Stop.{Stop}
use Rattle.cs_query.specs.declared.fault.Stop.TheVariants as stops
use Rattle.cs_query.specs.declared.reader.Reader.{Reader}
use Rattle.cs_query.specs.Following.{JudgesTokens}

pub over_query : (ts : List Token) → refused ts ≡ false → MAX_QUERY_BYTES < size ts + depth ts → verdict ts ≡ Some (Limit limits.Query)
over_query ts r h = rw (r, lt-leb (size ts + depth ts) MAX_QUERY_BYTES h) refl

pub over_room : (ts : List Token) (r : Result Reader Stop) → IsErr r → IsErrAnd r (λ e. e ≡ stops.Limit limits.Query) → refused ts ≡ false → MAX_QUERY_BYTES < size ts + depth ts → JudgesTokens ts r
over_room ts (Ok x) h is fine over = absurd cc
over_room ts (Err e) h is fine over = subst (λ e. JudgesTokens ts (Err e)) (sym is) (over_query ts fine over)

pub over_word : (ts : List Token) → refused ts ≡ false → size ts + depth ts ≤ MAX_QUERY_BYTES → MAX_PLAIN_WORD_BYTES < newest ts → verdict ts ≡ Some (Limit limits.Word)
over_word ts r q h = rw (r, le-leb (size ts + depth ts) MAX_QUERY_BYTES q, lt-leb (newest ts) MAX_PLAIN_WORD_BYTES h) refl

pub over_parts : (ts : List Token) → refused ts ≡ false → size ts + depth ts ≤ MAX_QUERY_BYTES → newest ts ≤ MAX_PLAIN_WORD_BYTES → MAX_PARTS < parts_in (steps ts)
    → verdict ts ≡ Some (Limit limits.Parts)
over_parts ts r q w h = rw (r, le-leb (size ts + depth ts) MAX_QUERY_BYTES q, le-leb (newest ts) MAX_PLAIN_WORD_BYTES w, lt-leb (parts_in (steps ts)) MAX_PARTS h) refl

pub over_atoms : (ts : List Token) → refused ts ≡ false → size ts + depth ts ≤ MAX_QUERY_BYTES → newest ts ≤ MAX_PLAIN_WORD_BYTES → parts_in (steps ts) ≤ MAX_PARTS
    → MAX_ATOMS < atoms_in (steps ts) → verdict ts ≡ Some (Limit limits.Atoms)
over_atoms ts r q w p h = rw (r, le-leb (size ts + depth ts) MAX_QUERY_BYTES q, le-leb (newest ts) MAX_PLAIN_WORD_BYTES w, le-leb (parts_in (steps ts)) MAX_PARTS p, lt-leb (atoms_in (steps ts)) MAX_ATOMS h) refl

pub over_depth : (ts : List Token) → refused ts ≡ false → size ts + depth ts ≤ MAX_QUERY_BYTES → newest ts ≤ MAX_PLAIN_WORD_BYTES → parts_in (steps ts) ≤ MAX_PARTS
    → atoms_in (steps ts) ≤ MAX_ATOMS → MAX_DEPTH < depth ts → verdict ts ≡ Some (Limit limits.Depth)
over_depth ts r q w p a h = rw (r, le-leb (size ts + depth ts) MAX_QUERY_BYTES q, le-leb (newest ts) MAX_PLAIN_WORD_BYTES w, le-leb (parts_in (steps ts)) MAX_PARTS p, le-leb (atoms_in (steps ts)) MAX_ATOMS a, lt-leb (depth ts) MAX_DEPTH h) refl

pub within_all : (ts : List Token) → refused ts ≡ false → size ts + depth ts ≤ MAX_QUERY_BYTES → newest ts ≤ MAX_PLAIN_WORD_BYTES → parts_in (steps ts) ≤ MAX_PARTS
    → atoms_in (steps ts) ≤ MAX_ATOMS → depth ts ≤ MAX_DEPTH → verdict ts ≡ None
within_all ts r q w p a h = rw (r, le-leb (size ts + depth ts) MAX_QUERY_BYTES q, le-leb (newest ts) MAX_PLAIN_WORD_BYTES w, le-leb (parts_in (steps ts)) MAX_PARTS p, le-leb (atoms_in (steps ts)) MAX_ATOMS a, le-leb (depth ts) MAX_DEPTH h) refl

pub dollar_fine : (v : List ℕ) (ts : List Token) → length v ≢ 0 → refused (Dollar ∷ Value v ∷ ts) ≡ false
dollar_fine [] ts h = absurd (h refl)
dollar_fine (x ∷ v) ts h = refl
