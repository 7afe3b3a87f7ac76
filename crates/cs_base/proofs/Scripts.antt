-- Scripts: events that are left out, and what is left of a piece.
use Rattle.std.proofs.Common.{◌≡◌, ℕ, suc, ◌+◌, ◌<◌, ◌≤◌, Bool, false, not, List, [], ◌∷◌, length, drop, cond, refl, sym, ◌∙◌, ap, arith, drop-drop}
use Rattle.std.specs.List.{position_or_len, prefix_len}
use Rattle.std.proofs.lemmas.Bool.Decides.{nat_tests}
use Rattle.cs_base.specs.outside.ScriptParts.{without_given, given_at, left_from, HeadIs}
use Rattle.cs_base.specs.declared.outside.script.Script.{Script}
use Rattle.cs_base.specs.declared.outside.script.Scripted.{Scripted}
use Rattle.cs_base.specs.declared.outside.script.Scripted.TheVariants.{Opened as Opens, Piece as Gives, Ended as Ends}

-- the list from its first lawful event on, by a test p
abbrev from_first : (Scripted → Bool) → List Scripted → List Scripted
from_first p es = drop (position_or_len p es) es

pub left_out : (p : Scripted → Bool) (e : Scripted) (es : List Scripted) → false ≡ p e → from_first p (e ∷ es) ≡ from_first p es
left_out p e es h =
    let n = prefix_len (λ x. not (p x)) es in
    let next : 1 + n ≡ suc n = omega arith in
    ap (λ b. drop (cond (not b) (1 + n) 0) (e ∷ es)) (sym h) ∙ ap (λ m. drop m (e ∷ es)) next

-- an event that isn't lawful is left out, with what is left of it
cut_left_out : (p : Scripted → Bool) (n : ℕ) (e : Scripted) (es : List Scripted) → HeadIs (λ x. false ≡ p x) (without_given n (e ∷ es)) → from_first p (without_given n (e ∷ es)) ≡ from_first p es
cut_left_out p n Opens es h = left_out p Opens es h
cut_left_out p n (Gives c bytes) es h = left_out p (Gives c (drop n bytes)) es h
cut_left_out p n (Ends c) es h = left_out p (Ends c) es h

-- nothing is cut off
cut_none : (es : List Scripted) → without_given 0 es ≡ es
cut_none [] = refl
cut_none (Opens ∷ es) = refl
cut_none (Gives c bytes ∷ es) = refl
cut_none (Ends c ∷ es) = refl

-- the search goes on behind an event that isn't lawful
pub goes_on : (p : Scripted → Bool) (s : Script) (place : ℕ) → s.place ≤ place → place < length s.events.items → HeadIs (λ x. false ≡ p x) (left_from s place)
    → from_first p (left_from s (place + 1)) ≡ from_first p (left_from s place)
goes_on p s place from within h =
    let whole : given_at s (place + 1) ≡ 0 = grind (arith, nat_tests) in
    elim (drop place s.events.items) as (λ es. drop place s.events.items ≡ es → drop (place + 1) s.events.items ≡ drop 1 es → HeadIs (λ x. false ≡ p x) (without_given (given_at s place) es) → from_first p (left_from s (place + 1)) ≡ from_first p (without_given (given_at s place) es)) [
      | [] ↦ λ is next _. ap (from_first p) (ap (λ n. without_given n (drop (place + 1) s.events.items)) whole ∙ cut_none (drop (place + 1) s.events.items) ∙ next)
      | e ∷ es ↦ λ is next at_head. ap (from_first p) (ap (λ n. without_given n (drop (place + 1) s.events.items)) whole ∙ cut_none (drop (place + 1) s.events.items) ∙ next) ∙ sym (cut_left_out p (given_at s place) e es at_head)
    ] refl (ap (λ n. drop n s.events.items) (omega arith) ∙ sym (drop-drop 1 place s.events.items)) h
