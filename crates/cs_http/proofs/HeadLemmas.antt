-- The judgement of a head, from the tests of its parts.
--
--   judged_none       bytes that are no head
--   judged_body       a head with a body
--   judged_path       another path
--   judged_method     another method
--   judged_asks       what is asked
--   any_at            a test of fields at their places
--   same_text, other_text    what `!=` of two texts says
use Rattle.std.proofs.Common.{◌≡◌, ℕ, Bool, true, false, not, ◌||◌, List, [], ◌∷◌, map, take, refl, sym, ap, ◌∙◌, codes}
use Rattle.std.specs.List.{list_any}
use Rattle.std.specs.Str.{bytes_eq}
use Rattle.httparse.specs.Grammar.{RequestHead}
use Rattle.httparse.specs.Spans.{header_bytes, AreFieldsAt}
use Rattle.httparse.specs.declared.spans.HeaderSpan.{HeaderSpan}
use Rattle.cs_model_serving.specs.HeadReader.{IsHead, IsNoHead}
use Rattle.cs_model_serving.specs.Heads.{NameValue, fields_of, has_body, closes, path_of, params_of, not_head, with_body, other_path, other_method, Judgement, refused, asks, judged_by, judged_head, judge}
use Rattle.cs_model_serving.proofs.ReaderLemmas.{head_is_read, none_is_read}
use Rattle.cs_model.specs.First.{unless, first_reason}

pub judged_none : (bytes : List ℕ) → IsNoHead bytes → judge bytes ≡ refused not_head
unfolding judge
judged_none bytes none = ap judged_head (none_is_read bytes none)

-- by three tests
abbrev by_tests : RequestHead → Bool → Bool → Bool → Judgement
by_tests h body path method =
    judged_by h (first_reason (unless (not body) with_body ∷ unless path (other_path (closes h)) ∷ unless method (other_method (closes h)) ∷ []))

abbrev has_path : RequestHead → Bool
has_path h = bytes_eq (path_of h.target) (codes "/search")

abbrev has_method : RequestHead → Bool
has_method h = bytes_eq h.method (codes "GET")

judged_tests : (bytes : List ℕ) (h : RequestHead) → IsHead bytes h → judge bytes ≡ by_tests h (has_body h) (has_path h) (has_method h)
unfolding judge
judged_tests bytes h is = ap judged_head (head_is_read bytes h is)

pub judged_body : (bytes : List ℕ) (h : RequestHead) → IsHead bytes h → has_body h ≡ true → judge bytes ≡ refused with_body
judged_body bytes h is body = judged_tests bytes h is ∙ ap (λ t. by_tests h t (has_path h) (has_method h)) body

pub judged_path : (bytes : List ℕ) (h : RequestHead) (close : Bool) → IsHead bytes h → has_body h ≡ false → has_path h ≡ false → close ≡ closes h → judge bytes ≡ refused (other_path close)
judged_path bytes h close is body path e =
    judged_tests bytes h is ∙ (λ i. by_tests h (body i) (path i) (has_method h)) ∙ ap (λ t. refused (other_path t)) (sym e)

pub judged_method : (bytes : List ℕ) (h : RequestHead) (close : Bool) → IsHead bytes h → has_body h ≡ false → has_path h ≡ true → has_method h ≡ false → close ≡ closes h
    → judge bytes ≡ refused (other_method close)
judged_method bytes h close is body path method e =
    judged_tests bytes h is ∙ (λ i. by_tests h (body i) (path i) (method i)) ∙ ap (λ t. refused (other_method t)) (sym e)

pub judged_asks : (bytes : List ℕ) (h : RequestHead) (params : List ℕ) (close : Bool) → IsHead bytes h → has_body h ≡ false → has_path h ≡ true → has_method h ≡ true → close ≡ closes h
    → params ≡ params_of h.target → judge bytes ≡ asks params close
judged_asks bytes h params close is body path method e f =
    judged_tests bytes h is ∙ (λ i. by_tests h (body i) (path i) (method i)) ∙ (λ i. asks (sym f i) (sym e i))

-- ---- fields
any-map : {X Y : Type 0} (f : X → Y) (test : Y → Bool) (xs : List X) → list_any (λ x. test (f x)) xs ≡ list_any test (map f xs)
any-map f test [] = refl
any-map f test (x ∷ xs) = ap (λ b. test (f x) || b) (any-map f test xs)

pub any_at : (test : NameValue → Bool) (bytes : List ℕ) (spans : List HeaderSpan) (count : ℕ) (h : RequestHead) → AreFieldsAt bytes spans count h.fields
    → list_any (λ x. test (header_bytes bytes x)) (take count spans) ≡ list_any test (fields_of h)
any_at test bytes spans count h are = any-map (header_bytes bytes) test (take count spans) ∙ ap (list_any test) are

-- ---- texts
not_true : (t r : Bool) → r ≡ not t → r ≡ true → t ≡ false
not_true true r e h = (cc)
not_true false r e h = refl

not_false : (t r : Bool) → r ≡ not t → r ≡ false → t ≡ true
not_false true r e h = refl
not_false false r e h = (cc)

pub same_text : (a b x y : List ℕ) (r : Bool) → r ≡ not (bytes_eq a b) → r ≡ false → a ≡ x → b ≡ y → bytes_eq x y ≡ true
same_text a b x y r is low e f = (λ i. bytes_eq (sym e i) (sym f i)) ∙ not_false (bytes_eq a b) r is low

pub other_text : (a b x y : List ℕ) (r : Bool) → r ≡ not (bytes_eq a b) → r ≡ true → a ≡ x → b ≡ y → bytes_eq x y ≡ false
other_text a b x y r is high e f = (λ i. bytes_eq (sym e i) (sym f i)) ∙ not_true (bytes_eq a b) r is high
