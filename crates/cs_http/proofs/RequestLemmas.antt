-- The order in which parameters are refused, and the request of accepted ones.
--
--   refused-h, refused-c, refused-o, refused-f    the first refusal, where those before it are accepted
--   refused-q                                     the refusal where the query's alone is left
--   handed_on                                     what holds of an error, where it is handed on
--   cause_by, cause_query                         a fault of one parameter as the first refusal
--   nothing_refused                               there is no refusal, where each is accepted
--   request_is                                    the request, field by field
--   holds                                         what an accepted request keeps
use Rattle.std.proofs.Common.{◌≡◌, ℕ, ◌≤◌, Bool, true, false, List, length, refl, sym, ap, ◌∙◌, subst, arith}
use Rattle.std.specs.Prelude.{Option, None, Some, codes, nat_le, ◌==◌, filter, Result, Ok, Err, IfErr}
use Rattle.std.specs.Result.{IsErrAnd}
use Rattle.std.specs.Option.{option_map}
use Rattle.std.specs.List.{list_all, slice_split}
use Rattle.std.specs.List.Sorted.{IsStrictlySortedBy}
use Rattle.std.specs.Ordering.{nat_cmp}
use Rattle.std.specs.Cmp.Lexicographic.{slice_cmp}
use Rattle.std.specs.Str.{chars}
use Rattle.std.proofs.lemmas.Bool.{and_parts}
use Rattle.std.proofs.lemmas.Bool.Decides.{nat_tests}
use Rattle.cs_base.specs.declared.content.query.Query.{Query}
use Rattle.cs_base.specs.declared.content.limits.TheConstants.{MAX_COUNT_DIGITS, MAX_SHOWN, MAX_OFFSET, MAX_FACETS, DEFAULT_HITS, DEFAULT_COMPLETIONS}
use Rattle.cs_base.proofs.MembersLemmas.{listing-rises}
use Rattle.cs_model.specs.Collection.{has_name_form}
use Rattle.cs_model.specs.Words.{is_filled}
use Rattle.cs_model.specs.FirstRefusal.{first_refusal}
use Rattle.cs_model.specs.Grammar.{query_of}
use Rattle.cs_model.specs.Digits.{has_digits, number_of}
use Rattle.cs_model.specs.Parameters.{parameter, is_count, count_of, are_facets, facet_names, bad_param, refused_at, asked_text, request_refusal, request_of, HoldsLimits}
use Rattle.cs_model.specs.Refusals.{QueryRefusal, IsOfGrammar}
use Rattle.cs_model.proofs.FirstLemmas.{first-one}
use Rattle.cs_model.proofs.PartsLemmas.{few_parts}
use Rattle.cs_query.specs.ParamNames.{param_name}
use Rattle.cs_query.specs.declared.request.Param.{Param}
use Rattle.cs_query.specs.declared.request.ReqFault.{ReqFault}
use Rattle.cs_query.specs.declared.request.ReqFault.TheVariants as faults
use Rattle.cs_http.specs.Refusing.{IsCause, IsRefusedBy, IsQueryCause}

-- what holds of an error holds of it where it is handed on
pub handed_on : {T E : Type 0} (r : Result T E) (x : E) (Q : E → Type 0) → IsErrAnd r (λ e. e ≡ x) → Q x → IfErr r Q
handed_on (Ok v) x Q h q = tt
handed_on (Err e) x Q h q = subst Q (sym h) q

module _ (p : List ℕ) where
  abbrev pub HitsTaken : Type 0
  HitsTaken = is_count MAX_SHOWN (parameter (codes "h") p) ≡ true

  abbrev pub CompletionsTaken : Type 0
  CompletionsTaken = is_count MAX_SHOWN (parameter (codes "c") p) ≡ true

  abbrev pub OffsetTaken : Type 0
  OffsetTaken = is_count MAX_OFFSET (parameter (codes "o") p) ≡ true

  abbrev pub FacetsTaken : Type 0
  FacetsTaken = are_facets (parameter (codes "f") p) ≡ true

  pub refused-h : is_count MAX_SHOWN (parameter (codes "h") p) ≡ false → request_refusal p ≡ Some (bad_param (codes "h"))
  unfolding request_refusal
  refused-h h = rw h refl

  pub refused-c : HitsTaken → is_count MAX_SHOWN (parameter (codes "c") p) ≡ false → request_refusal p ≡ Some (bad_param (codes "c"))
  unfolding request_refusal
  refused-c h c = rw (h, c) refl

  pub refused-o : HitsTaken → CompletionsTaken → is_count MAX_OFFSET (parameter (codes "o") p) ≡ false → request_refusal p ≡ Some (bad_param (codes "o"))
  unfolding request_refusal
  refused-o h c o = rw (h, c, o) refl

  pub refused-f : HitsTaken → CompletionsTaken → OffsetTaken → are_facets (parameter (codes "f") p) ≡ false → request_refusal p ≡ Some (bad_param (codes "f"))
  unfolding request_refusal
  refused-f h c o f = rw (h, c, o, f) refl

  pub refused-q : HitsTaken → CompletionsTaken → OffsetTaken → FacetsTaken → request_refusal p ≡ option_map refused_at (first_refusal (chars (asked_text p)))
  unfolding request_refusal
  refused-q h c o f = rw (h, c, o, f) (first-one (option_map refused_at (first_refusal (chars (asked_text p)))))

  pub cause_by : (which : Param) (b : Bool) (e : ReqFault) → IsRefusedBy which b e → (b ≡ false → request_refusal p ≡ Some (bad_param (param_name which))) → IsCause p e
  cause_by which b (faults.BadParam other) r h = h r.1 ∙ ap (λ w. Some (bad_param (param_name w))) (sym r.0)
  cause_by which b (faults.Bad at) r h = absurd r
  cause_by which b (faults.Limit at l) r h = absurd r
  cause_by which b faults.Memory r h = tt

  pub cause_query : (r : Option (ℕ × QueryRefusal)) (e : ReqFault) → IsQueryCause r e → request_refusal p ≡ option_map refused_at r → IsCause p e
  cause_query r (faults.BadParam which) q h = absurd q
  cause_query r (faults.Bad at) q h = h ∙ ap (option_map refused_at) q
  cause_query r (faults.Limit at which) q h = h ∙ ap (option_map refused_at) q
  cause_query r faults.Memory q h = tt

  pub nothing_refused : HitsTaken → CompletionsTaken → OffsetTaken → FacetsTaken → first_refusal (chars (asked_text p)) ≡ None → request_refusal p ≡ None
  nothing_refused h c o f q = refused-q h c o f ∙ ap (option_map refused_at) q

  pub request_is : (q : Query) (h c o : ℕ) (f : List (List ℕ)) → q ≡ query_of (chars (asked_text p)) → h ≡ count_of DEFAULT_HITS (parameter (codes "h") p)
      → c ≡ count_of DEFAULT_COMPLETIONS (parameter (codes "c") p) → o ≡ count_of 0 (parameter (codes "o") p) → f ≡ facet_names (parameter (codes "f") p)
      → record { query = q; hits = h; completions = c; offset = o; facets = f } ≡ request_of p
  unfolding request_of
  request_is q h c o f eq eh ec eo ef = rw (eq, eh, ec, eo, ef) refl

-- an accepted count is at most so much, its default too
count-within : (default most : ℕ) (v : Option (List ℕ)) → default ≤ most → is_count most v ≡ true → count_of default v ≤ most
count-within default most None d h = d
count-within default most (Some v) d h =
    let few : nat_le (number_of v) most ≡ true = (and_parts (has_digits MAX_COUNT_DIGITS v) (nat_le (number_of v) most) h).1 in
    grind (arith, nat_tests)

facets-rise : (v : Option (List ℕ)) → IsStrictlySortedBy (slice_cmp nat_cmp) (facet_names v)
unfolding IsStrictlySortedBy
facets-rise None = tt
facets-rise (Some v) = listing-rises (slice_cmp nat_cmp) (filter is_filled (slice_split (λ b. b == 44) v))

facets-named : (v : Option (List ℕ)) → are_facets v ≡ true → list_all has_name_form (facet_names v) ≡ true
facets-named v h = (and_parts (list_all has_name_form (facet_names v)) (nat_le (length (facet_names v)) MAX_FACETS) h).0

facets-few : (v : Option (List ℕ)) → are_facets v ≡ true → length (facet_names v) ≤ MAX_FACETS
facets-few v h =
    let few : nat_le (length (facet_names v)) MAX_FACETS ≡ true = (and_parts (list_all has_name_form (facet_names v)) (nat_le (length (facet_names v)) MAX_FACETS) h).1 in
    grind (arith, nat_tests)

-- what an accepted request keeps
pub holds : (p : List ℕ) (q : Query) (h c o : ℕ) (f : List (List ℕ)) → IsOfGrammar q → HitsTaken p → CompletionsTaken p → OffsetTaken p → FacetsTaken p
    → h ≡ count_of DEFAULT_HITS (parameter (codes "h") p) → c ≡ count_of DEFAULT_COMPLETIONS (parameter (codes "c") p) → o ≡ count_of 0 (parameter (codes "o") p)
    → f ≡ facet_names (parameter (codes "f") p) → HoldsLimits (record { query = q; hits = h; completions = c; offset = o; facets = f })
holds p q h c o f g th tc to tf eh ec eo ef = record {
  query = g;
  parts = few_parts q g;
  hits = omega (arith, eh, count-within DEFAULT_HITS MAX_SHOWN (parameter (codes "h") p) (omega arith) th);
  completions = omega (arith, ec, count-within DEFAULT_COMPLETIONS MAX_SHOWN (parameter (codes "c") p) (omega arith) tc);
  offset = omega (arith, eo, count-within 0 MAX_OFFSET (parameter (codes "o") p) (omega arith) to);
  names = subst (λ x. list_all has_name_form x ≡ true) (sym ef) (facets-named (parameter (codes "f") p) tf);
  facets = subst (IsStrictlySortedBy (slice_cmp nat_cmp)) (sym ef) (facets-rise (parameter (codes "f") p));
  few = subst (λ x. length x ≤ MAX_FACETS) (sym ef) (facets-few (parameter (codes "f") p) tf);
}
