-- The place of a name in a list of what is known of names.
use Rattle.std.proofs.Common.{◌≡◌, ℕ, zero, suc, ◌<◌, true, false, Bool, List, [], ◌∷◌, ◌++◌, length, get_or, set, cond, refl, sym, ◌∙◌, ap, subst, arith}
use Rattle.std.specs.Prelude.{Option, Some, None}
use Rattle.std.specs.Str.{bytes_eq}
use Rattle.std.specs.String.{string_bytes}
use Rattle.cs_base.proofs.NameMaps.{same_name, name_itself}
use Rattle.cs_system.specs.Known.{content_of, IsKnownAt}
use Rattle.cs_system.specs.declared.known.Known.{Known}

module _ {C : Type 0} where
  -- none before i has the name
  abbrev pub NoneBefore : List (Known C) → List ℕ → ℕ → Type 0
  NoneBefore ks n i = (k : ℕ) (d : Known C) → k < i → bytes_eq (string_bytes (get_or ks k d).name) n ≡ false

  pub found_place : (ks : List (Known C)) (n : List ℕ) (i : ℕ) (d : Known C) → i < length ks → NoneBefore ks n i → bytes_eq (string_bytes (get_or ks i d).name) n ≡ true → IsKnownAt ks n i
  found_place [] n i d l before at_i = absurd (omega arith)
  found_place (k ∷ ks) n zero d l before at_i =
      record {
        within = l;
        found = λ e. ap (λ b. cond b (Some k.content) (content_of ks n)) at_i;
        named = λ e. same_name (string_bytes k.name) n at_i;
        writes = λ g same. ap (λ b. cond b (Some g.content) (content_of ks n)) (subst (λ x. bytes_eq x n ≡ true) (sym same) (name_itself n));
      }
  found_place (k ∷ ks) n (suc i) d l before at_i =
      let rest = found_place ks n i d (omega arith) (λ j e h. before (suc j) e (omega (arith, h))) at_i in
      let other : bytes_eq (string_bytes k.name) n ≡ false = before 0 k (omega arith) in
      record {
        within = l;
        found = λ e. ap (λ b. cond b (Some k.content) (content_of ks n)) other ∙ rest.found e;
        named = λ e. rest.named e;
        writes = λ g same. ap (λ b. cond b (Some k.content) (content_of (set ks i g) n)) other ∙ rest.writes g same;
      }

  pub no_place : (ks : List (Known C)) (n : List ℕ) → NoneBefore ks n (length ks) → content_of ks n ≡ None
  no_place [] n before = refl
  no_place (k ∷ ks) n before =
      let other : bytes_eq (string_bytes k.name) n ≡ false = before 0 k (omega arith) in
      ap (λ b. cond b (Some k.content) (content_of ks n)) other ∙ no_place ks n (λ j e h. before (suc j) e (omega (arith, h)))

  some_none : (c : C) → Some c ≡ None → ⊥
  some_none c e = cc e

  push_case : (b : Bool) (c v : C) (r s : Option C) → cond b (Some c) r ≡ None → (r ≡ None → s ≡ Some v) → cond b (Some c) s ≡ Some v
  push_case true c v r s none step = absurd (some_none c none)
  push_case false c v r s none step = step none

  -- what is put at the end under a new name is known of it
  pub pushed : (ks : List (Known C)) (k : Known C) (n : List ℕ) → content_of ks n ≡ None → string_bytes k.name ≡ n → content_of (ks ++ k ∷ []) n ≡ Some k.content
  pushed [] k n none same = ap (λ b. cond b (Some k.content) None) (subst (λ x. bytes_eq x n ≡ true) (sym same) (name_itself n))
  pushed (j ∷ ks) k n none same =
      push_case (bytes_eq (string_bytes j.name) n) j.content k.content (content_of ks n) (content_of (ks ++ k ∷ []) n) none (λ h. pushed ks k n h same)
