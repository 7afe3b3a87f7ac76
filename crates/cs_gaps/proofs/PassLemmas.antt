-- The steps of the loops, that of reading and those of writing.
use Rattle.std.proofs.Common.{◌≡◌, ℕ, zero, suc, ◌+◌, ◌-◌, ◌*◌, ◌/◌, ◌%◌, ◌^◌, ◌<◌, ◌≤◌, Bool, true, false, not, ◌&&◌, cond, ltb, eqb, List, [], ◌∷◌, ◌++◌, length, get_or, set, take, drop, refl, sym, ap, ◌∙◌, append_assoc, arith, inl, inr}
use Rattle.std.proofs.lemmas.Bool.{cases_lt, lt-ltb, le-ltb, ne_eqb}
use Rattle.std.proofs.lemmas.Bool.Decides.{nat_tests}
use Rattle.std.proofs.lemmas.List.{drop_more, drop_all, take_more_set, length-set, take_rest, get_or-drop}
use Rattle.std.proofs.lemmas.Nat.{mul-le, div_below}
use Rattle.std.proofs.Math.Bool.{and-false}
use Rattle.std.proofs.Math.Nat.{pow-suc, pow-le-pow_right, mul_assoc, mul-add, mul_comm}
use Rattle.cs_gaps.specs.declared.gap.Gap.{Gap}
use Rattle.cs_gaps.specs.declared.gap.Gap.TheVariants.{Is, Cut, Long, Big}
use Rattle.cs_base.specs.index.GapCode.{code_in, code, looked_at, value_of}
use Rattle.cs_gaps.specs.Reading.{gap_at, moved, at_last_byte}
use Rattle.cs_gaps.proofs.CodesLemmas.{onto, last, read_in, capped, gap_read}

-- what was read before: a sum n, the weight of the next byte, and so many bytes
abbrev pub with_front : ℕ → ℕ → ℕ → Gap → Gap
with_front n weight i (Is m next) = Is (n + weight * m) (i + next)
with_front n weight i Cut = Cut
with_front n weight i Long = Long
with_front n weight i Big = Big

pub record HasRead (rest : List ℕ) (n weight i : ℕ) : Type 0 where
  pub told : capped (with_front n weight i (read_in (5 - i) (eqb i 0) (drop i rest))) ≡ gap_at rest
  pub weighs : weight ≡ 128 ^ i
  pub below : n < weight
  pub few : i ≤ 4

pub weight_fits : (weight i : ℕ) → weight ≡ 128 ^ i → i ≤ 4 → weight ≤ 268435456
weight_fits weight i e le = rw e (pow-le-pow_right {n = 128} (omega arith) le)

pub product_fits : (b weight i : ℕ) → b < 256 → weight ≡ 128 ^ i → i ≤ 4 → b * weight ≤ 256 * 268435456
product_fits b weight i lt e le = mul-le b weight 256 268435456 (omega arith) (weight_fits weight i e le)

at_front : (r : Gap) → with_front 0 1 0 r ≡ r
at_front (Is m next) = ap (λ (x : ℕ). Is x (0 + next)) (omega arith) ∙ ap (λ (x : ℕ). Is m x) (omega arith)
at_front Cut = refl
at_front Long = refl
at_front Big = refl

pub begun : (rest : List ℕ) → HasRead rest 0 1 0
begun rest = record { told = ap capped (at_front (read_in 5 true rest)) ∙ gap_read rest; weighs = refl; below = omega arith; few = omega arith }

unrolled : (rest : List ℕ) (i : ℕ) → i < length rest → i ≤ 4
    → read_in (5 - i) (eqb i 0) (drop i rest) ≡ cond (ltb (get_or rest i 0) 128) (last (eqb i 0) (get_or rest i 0)) (onto (get_or rest i 0) (read_in (4 - i) false (drop (i + 1) rest)))
unfolding read_in
unrolled rest i lt le =
    let k : 5 - i ≡ suc (4 - i) = omega arith in
    rw (k, drop_more rest i 0 lt) refl

same_test : (i : ℕ) → not (eqb i 0) ≡ ltb 1 (i + 1)
same_test zero = refl
same_test (suc i) = grind (arith, nat_tests)

one_more : (t : Bool) (n w i b : ℕ) → capped (with_front n w i (cond t Long (Is b 1))) ≡ cond t Long (cond (ltb (n + b * w) (2 ^ 32)) (Is (n + b * w) (i + 1)) Big)
one_more true n w i b = refl
one_more false n w i b = rw (mul_comm w b) refl

pub ends : (rest : List ℕ) (n w i b : ℕ) → b ≡ get_or rest i 0 → i < length rest → b < 128 → HasRead rest n w i → at_last_byte b (i + 1) (n + b * w) (i + 1) ≡ gap_at rest
ends rest n w i b e lt small h =
    let one = unrolled rest i lt h.few in
    let front : capped (with_front n w i (read_in (5 - i) (eqb i 0) (drop i rest))) ≡ at_last_byte b (i + 1) (n + b * w) (i + 1) =
    rw (one, ← e, lt-ltb b 128 small, same_test i) (one_more (eqb b 0 && ltb 1 (i + 1)) n w i b) in
    sym front ∙ h.told

sums : (n w d m : ℕ) → n + w * (d + 128 * m) ≡ n + d * w + w * 128 * m
sums n w d m = rw (mul-add w d (128 * m), mul_comm w d, ← mul_assoc w 128 m) (omega arith)

onto_front : (n w i b d : ℕ) (r : Gap) → b % 128 ≡ d → with_front n w i (onto b r) ≡ with_front (n + d * w) (w * 128) (i + 1) r
onto_front n w i b d (Is m next) e = rw e (ap (λ (x : ℕ). Is x (i + (next + 1))) (sums n w d m) ∙ ap (λ (x : ℕ). Is (n + d * w + w * 128 * m) x) (omega arith))
onto_front n w i b d Cut e = refl
onto_front n w i b d Long e = refl
onto_front n w i b d Big e = refl

topped : (rest : List ℕ) (n w i b : ℕ) → b ≡ get_or rest i 0 → i < length rest → 128 ≤ b → b < 256 → HasRead rest n w i
    → capped (with_front (n + (b - 128) * w) (w * 128) (i + 1) (read_in (4 - i) false (drop (i + 1) rest))) ≡ gap_at rest
topped rest n w i b e lt large byte h =
    let one = unrolled rest i lt h.few in
    let front : capped (with_front n w i (read_in (5 - i) (eqb i 0) (drop i rest))) ≡ capped (with_front (n + (b - 128) * w) (w * 128) (i + 1) (read_in (4 - i) false (drop (i + 1) rest))) =
    rw (one, ← e, le-ltb b 128 large) (ap capped (onto_front n w i b (b - 128) (read_in (4 - i) false (drop (i + 1) rest)) (omega arith))) in
    sym front ∙ h.told

pub too_big : (rest : List ℕ) (n w i b : ℕ) → b ≡ get_or rest i 0 → i < length rest → 128 ≤ b → b < 256 → i ≡ 4 → HasRead rest n w i → Big ≡ gap_at rest
unfolding read_in
too_big rest n w i b e lt large byte four h =
    let k : 4 - i ≡ 0 = omega arith in
    rw k at (topped rest n w i b e lt large byte h)

pub goes_on : (rest : List ℕ) (n w i b : ℕ) → b ≡ get_or rest i 0 → i < length rest → 128 ≤ b → b < 256 → (i ≡ 4 → ⊥) → HasRead rest n w i → HasRead rest (n + (b - 128) * w) (w * 128) (i + 1)
goes_on rest n w i b e lt large byte not_four h =
    let k : 4 - i ≡ 5 - (i + 1) = omega arith in
    let f : false ≡ eqb (i + 1) 0 = sym (ne_eqb (i + 1) 0 (λ z. omega arith)) in
    let t = topped rest n w i b e lt large byte h in
    let m : (b - 128) * w ≤ 127 * w = mul-le (b - 128) w 127 w (omega arith) (omega arith) in
    record {
      told = rw (k, f) at t;
      weighs = rw h.weighs (sym (pow-suc 128 i) ∙ ap (λ x. 128 ^ x) (omega arith));
      below = omega (arith, h.below);
      few = omega (arith, h.few);
    }

pub cut : (rest : List ℕ) (n w i : ℕ) → length rest ≤ i → HasRead rest n w i → Cut ≡ gap_at rest
unfolding read_in
cut rest n w i le h =
    let few = h.few in
    let k : 5 - i ≡ suc (4 - i) = omega arith in
    rw (k, drop_all i rest le) at h.told

both : (t u : Bool) (at n next : ℕ) → moved at (cond t Long (cond u (Is n next) Big)) ≡ cond t Long (cond u (Is n (at + next)) Big)
both true u at n next = refl
both false true at n next = refl
both false false at n next = refl

pub moved_ended : (at b len n next : ℕ) → moved at (at_last_byte b len n next) ≡ at_last_byte b len n (at + next)
moved_ended at b len n next = both (eqb b 0 && ltb 1 len) (ltb n (2 ^ 32)) at n next

-- ---- a code of one byte

pub one_byte : (bytes : List ℕ) (at b : ℕ) → b ≡ get_or bytes at 0 → at < length bytes → b < 128 → Is b (at + 1) ≡ moved at (gap_at (drop at bytes))
unfolding gap_at looked_at value_of
one_byte bytes at b is lt small =
    let big : b < 2 ^ 32 = omega arith in
    let value : b % 128 + 128 * 0 ≡ b = omega arith in
    rw (drop_more bytes at 0 lt, ← is, lt-ltb b 128 small, lt-ltb b 128 small, and-false (eqb b 0), value, lt-ltb b (2 ^ 32) big) refl

-- ---- writing

pub record HasPut (n : ℕ) (text : List ℕ) (len left : ℕ) : Type 0 where
  pub told : code n ≡ take len text ++ code_in (4 - len) left
  pub below : left < 128 ^ (5 - len)
  pub few : len ≤ 4
  pub room : length text ≡ 5

pub put_begun : (n : ℕ) (text : List ℕ) → n < 2 ^ 32 → length text ≡ 5 → HasPut n text 0 n
unfolding code
put_begun n text lt room = record { told = refl; below = omega arith; few = omega arith; room = room }

pub puts : (n : ℕ) (text : List ℕ) (len left : ℕ) → 128 ≤ left → HasPut n text len left → HasPut n (set text len (left % 128 + 128)) (len + 1) (left / 128)
unfolding code_in
puts n text len left large h =
    let few = h.few in
    let room = h.room in
    let more : len < 4 = elim (cases_lt len 4) [
      | inl lt ↦ lt
      | inr le ↦
          (let four : 5 - len ≡ 1 = omega arith in
          let low : left < 128 ^ 1 = rw four at h.below in absurd (omega arith))
    ] in
    let k : 4 - len ≡ suc (4 - (len + 1)) = omega arith in
    let j : 5 - len ≡ suc (5 - (len + 1)) = omega arith in
    let told = rw (k, le-ltb left 128 large) at h.told in
    let below = rw (j, pow-suc 128 (5 - (len + 1))) at h.below in
    record {
      told = told ∙ rw (take_more_set text len (left % 128 + 128) (omega arith)) (sym (append_assoc (take len text) ((left % 128 + 128) ∷ []) (code_in (4 - (len + 1)) (left / 128))));
      below = div_below left 128 (128 ^ (5 - (len + 1))) (omega arith) below;
      few = omega arith;
      room = length-set text len (left % 128 + 128) ∙ room;
    }

small_code : (k n : ℕ) → n < 128 → code_in k n ≡ n ∷ []
unfolding code_in
small_code zero n lt = refl
small_code (suc k) n lt = rw (lt-ltb n 128 lt) refl

-- a number below 128 is its own code
pub short_code : (n : ℕ) → n < 128 → code n ≡ n ∷ []
unfolding code
short_code n lt = small_code 4 n lt

pub put_done : (n : ℕ) (text : List ℕ) (len left : ℕ) → left < 128 → HasPut n text len left → take (len + 1) (set text len left) ≡ code n
put_done n text len left small h =
    let few = h.few in
    let room = h.room in
    take_more_set text len left (omega arith) ∙ ap (λ (x : List ℕ). take len text ++ x) (sym (small_code (4 - len) left small)) ∙ sym h.told

pub rest_fits : (bytes : List ℕ) (at i : ℕ) → ((k : ℕ) → get_or bytes k 0 < 256) → get_or (take (length bytes - at) (drop at bytes)) i 0 < 256
rest_fits bytes at i h = rw (take_rest bytes at, get_or-drop) (h (at + i))

pub ended_here : (r : Gap) (bytes : List ℕ) (at i n w b f : ℕ) → r ≡ at_last_byte b (i + 1) (n + f * w) (at + i + 1) → f ≡ b → b ≡ get_or (take (length bytes - at) (drop at bytes)) i 0
    → i < length (take (length bytes - at) (drop at bytes)) → b < 128 → HasRead (take (length bytes - at) (drop at bytes)) n w i → r ≡ moved at (gap_at (drop at bytes))
ended_here r bytes at i n w b f is same read lt small h =
    let e = ends _ n w i b read lt small h in
    let place : at + i + 1 ≡ at + (i + 1) = omega arith in
    is ∙ ap (λ (x : ℕ). at_last_byte b (i + 1) (n + x * w) (at + i + 1)) same ∙ ap (λ (x : ℕ). at_last_byte b (i + 1) (n + b * w) x) place
    ∙ sym (moved_ended at b (i + 1) (n + b * w) (i + 1)) ∙ ap (moved at) (e ∙ ap gap_at (take_rest bytes at))

-- ---- pushing the bytes of a code one by one

-- behind `first`, of so many bytes, stand the first bytes of the code of n; `left` is still to be written, in at most more + 1 bytes
pub record HasPushed (n : ℕ) (first now : List ℕ) (before len left : ℕ) : Type 0 where
  pub more : ℕ
  pub told : now ++ code_in more left ≡ first ++ code n
  pub below : left < 128 ^ (suc more)
  pub few : len + more ≡ before + 4

pub push_begun : (n : ℕ) (first : List ℕ) (len : ℕ) → n < 2 ^ 32 → HasPushed n first first len len n
unfolding code
push_begun n first len lt = record { more = 4; told = refl; below = omega arith; few = refl }

pushes_in : (n : ℕ) (first now : List ℕ) (before len left more : ℕ) → 128 ≤ left → now ++ code_in more left ≡ first ++ code n → left < 128 ^ (suc more) → len + more ≡ before + 4
    → HasPushed n first (now ++ (left % 128 + 128) ∷ []) before (len + 1) (left / 128)
unfolding code_in
pushes_in n first now before len left zero large told below few = absurd (omega arith)
pushes_in n first now before len left (suc more) large told below few =
    record {
      more = more;
      told = append_assoc now ((left % 128 + 128) ∷ []) (code_in more (left / 128)) ∙ rw (le-ltb left 128 large) at told;
      below = div_below left 128 (128 ^ (suc more)) (omega arith) (rw (pow-suc 128 (suc more)) at below);
      few = omega arith;
    }

pub pushes : (n : ℕ) (first now : List ℕ) (before len left : ℕ) → 128 ≤ left → HasPushed n first now before len left
    → HasPushed n first (now ++ (left % 128 + 128) ∷ []) before (len + 1) (left / 128)
pushes n first now before len left large h = pushes_in n first now before len left h.more large h.told h.below h.few

pub push_done : (n : ℕ) (first now : List ℕ) (before len left : ℕ) → left < 128 → HasPushed n first now before len left → now ++ left ∷ [] ≡ first ++ code n
push_done n first now before len left small h = ap (λ (x : List ℕ). now ++ x) (sym (small_code h.more left small)) ∙ h.told
