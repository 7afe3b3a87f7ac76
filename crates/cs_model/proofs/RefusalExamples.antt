-- The first refusal of worked key texts: the definitions computed.
use Rattle.std.proofs.Common.{◌≡◌, ◌<◌, ℕ, List, [], ◌∷◌, map, take, refl, arith, Option, Some, None, codes}
use Rattle.std.specs.Prelude.{replicate}
use Rattle.std.specs.Char.{encode_utf8}
use Rattle.cs_base.specs.declared.content.query.Which.TheVariants as limits
use Rattle.cs_model.specs.Words.{is_word_char}
use Rattle.cs_model.specs.Tokens.{Token, Word, Open, Gap}
use Rattle.cs_model.specs.Refusals.{QueryRefusal, Bad, Limit, IsAccepted}
use Rattle.cs_model.specs.FirstRefusal.{first_refusal}
use Rattle.cs_model.proofs.FineTokens.{fronts}
use Rattle.cs_model.proofs.PassedTokens.{passes}
use Rattle.cs_model.proofs.RefusalLemmas.{refused_is_first}

-- ---- by the grammar
-- key texts, each with its first refusal
abbrev by_grammar : List (List ℕ × Option (ℕ × QueryRefusal))
by_grammar =
    -- a colon behind a word that is no name
    (codes "10:30", Some (2, Bad))
    -- a bar at the front
    ∷ (codes "|", Some (0, Bad))
    -- a bar behind a bar
    ∷ (codes "a||b", Some (2, Bad))
    -- a gap behind a bar
    ∷ (codes "a| b", Some (2, Bad))
    -- a word behind a dollar
    ∷ (codes "a$b", Some (2, Bad))
    -- a dollar behind a dollar
    ∷ (codes "a$$", Some (2, Bad))
    -- a dollar behind an empty value
    ∷ (codes "author:$", Some (7, Bad))
    -- a closing bracket where none is open
    ∷ (codes "k[a]]", Some (4, Bad))
    -- a bar at the end may go on
    ∷ (codes "graph|", None)
    -- a bar may stand behind an empty value
    ∷ (codes "k:|", None)
    ∷ []

refused_by_grammar : map (λ c. first_refusal c.0) by_grammar ≡ map (λ c. c.1) by_grammar
unfolding is_word_char encode_utf8
refused_by_grammar = refl

-- ---- by a limit
-- the same at the limits and behind them
abbrev by_limit : List (List ℕ × Option (ℕ × QueryRefusal))
by_limit =
    -- a word of 121 letters
    (replicate 121 97, Some (120, Limit limits.Word))
    -- sixteen parts, and a dash behind them
    ∷ (codes "a a a a a a a a a a a a a a a a -", None)
    -- a seventeenth, which is counted at its first atom
    ∷ (codes "a a a a a a a a a a a a a a a a -a", Some (33, Limit limits.Parts))
    -- a thirty-third atom
    ∷ (codes "a|a|a|a|a|a|a|a|a|a|a|a|a|a|a|a|a|a|a|a|a|a|a|a|a|a|a|a|a|a|a|a|a", Some (64, Limit limits.Atoms))
    -- three brackets that are open
    ∷ (codes "a[b[c[d", None)
    -- a fourth
    ∷ (codes "a[b[c[d[e", Some (7, Limit limits.Depth))
    ∷ []

refused_by_limit : map (λ c. first_refusal c.0) by_limit ≡ map (λ c. c.1) by_limit
unfolding is_word_char encode_utf8
refused_by_limit = refl

-- a text of 1,024 bytes with an open bracket
abbrev long : List ℕ
long = 97 ∷ 91 ∷ replicate 1022 32

long_accepted : IsAccepted (take 1023 long)
unfolding is_word_char encode_utf8
long_accepted k le =
    let word : List Token = Word (97 ∷ []) ∷ [] in
    let bracket : List Token = Open ∷ word in
    let gap : List Token = Gap 1021 ∷ bracket in
    fronts (take 1023 long) [] (passes gap refl, (passes bracket refl, (passes word refl, tt))) k

-- where an open bracket counts as one byte more
first-long : first_refusal long ≡ Some (1023, Limit limits.Query)
unfolding is_word_char encode_utf8
first-long = (refused_is_first long 1023 (Limit limits.Query)).0 (record { count = 1023; within = let lt : 1023 < 1024 = omega arith in lt; place = refl; before = long_accepted; here = refl })
