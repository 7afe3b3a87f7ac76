-- The rows of a part in some documents.
--
--   links_within, chains_within, unions_within
use Rattle.std.proofs.Common.{◌≡◌, ℕ, ◌==◌, ◌&&◌, ◌||◌, Bool, true, false, List, [], ◌∷◌, ◌++◌, map, refl, sym, ap, ap₂, ◌∙◌}
use Rattle.std.specs.Prelude.{filter, flat_map}
use Rattle.std.specs.List.{list_any}
use Rattle.std.proofs.lemmas.Bool.{eqb-true}
use Rattle.std.proofs.lemmas.List.Elements.{filter-append}
use Rattle.cs_base.specs.content.Members.{members_in}
use Rattle.cs_base.specs.content.Orders.{by_row}
use Rattle.cs_base.specs.declared.content.doc.Row.{Row}
use Rattle.cs_base.specs.declared.content.query.Link.{Link}
use Rattle.cs_base.specs.declared.content.query.Link.TheVariants.{Phrase, Near}
use Rattle.cs_base.proofs.ListsLemmas.{all_of, filter_alike, filter_twice}
use Rattle.cs_model.specs.Answers.{chained, is_linked, linked_to}
use Rattle.cs_model_kept.proofs.NarrowLemmas.{members_filter}
use Rattle.cs_rows.specs.Restricting.{ChainsStayWithin, LinksStayWithin, UnionsStayWithin, rows_where, restricted}
use Rattle.cs_rows.proofs.AlikeLemmas.{any_filter}

and_after : (a : Bool) → (true && a) ≡ a
and_after a = refl

and_gone : (a : Bool) → (a && false) ≡ false
and_gone true = refl
and_gone false = refl

and_stays : (a : Bool) → (a && true) ≡ a
and_stays true = refl
and_stays false = refl

-- linked rows share their document
same_doc : (link : Link) (r x : Row) → is_linked link r x ≡ ((x.doc == r.doc) && is_linked link r x)
same_doc Phrase r x = again (x.doc == r.doc) _
  where
    again : (a b : Bool) → (a && b) ≡ (a && (a && b))
    again true b = refl
    again false b = refl
same_doc Near r x = again (x.doc == r.doc) _
  where
    again : (a b : Bool) → (a && b) ≡ (a && (a && b))
    again true b = refl
    again false b = refl

-- of a row in the documents each row that it is linked to is in them too
in_too : (t : ℕ → Bool) (link : Link) (r x : Row) → t r.doc ≡ true → (t x.doc && is_linked link r x) ≡ is_linked link r x
in_too t link r x here =
    elim (x.doc == r.doc) as (λ b. x.doc == r.doc ≡ b → (t x.doc && is_linked link r x) ≡ is_linked link r x) [
      | true ↦ λ e. ap (λ b. b && is_linked link r x) (ap t (eqb-true x.doc r.doc e) ∙ here)
      | false ↦ λ e.
          let none : is_linked link r x ≡ false = same_doc link r x ∙ ap (λ b. b && is_linked link r x) e in
          ap (λ b. t x.doc && b) none ∙ and_gone (t x.doc) ∙ sym none
    ] refl

any_too : (t : ℕ → Bool) (link : Link) (r : Row) (xs : List Row) → t r.doc ≡ true → list_any (λ x. t x.doc && is_linked link r x) xs ≡ list_any (is_linked link r) xs
any_too t link r [] here = refl
any_too t link r (x ∷ xs) here = ap₂ (λ a b. a || b) (in_too t link r x here) (any_too t link r xs here)

one_row : (t : ℕ → Bool) (link : Link) (xs : List Row) (r : Row)
    → (list_any (is_linked link r) xs && t r.doc) ≡ (t r.doc && list_any (is_linked link r) (filter (λ (r : Row). t r.doc) xs))
one_row t link xs r =
    elim (t r.doc) as (λ b. t r.doc ≡ b → (list_any (is_linked link r) xs && b) ≡ (b && list_any (is_linked link r) (filter (λ (r : Row). t r.doc) xs))) [
      | true ↦ λ e. and_stays (list_any (is_linked link r) xs) ∙ sym (any_too t link r xs e) ∙ sym (any_filter (is_linked link r) (λ (r : Row). t r.doc) xs)
      | false ↦ λ e. and_gone (list_any (is_linked link r) xs)
    ] refl

pub links_within : LinksStayWithin
links_within t link x rows =
    sym (filter_twice (λ r. list_any (is_linked link r) x) (λ (r : Row). t r.doc) rows)
    ∙ filter_alike (λ r. list_any (is_linked link r) x && t r.doc) (λ r. t r.doc && list_any (is_linked link r) (filter (λ (r : Row). t r.doc) x)) rows
    (all_of _ (λ r. one_row t link x r) rows)
    ∙ filter_twice (λ (r : Row). t r.doc) (λ r. list_any (is_linked link r) (filter (λ (r : Row). t r.doc) x)) rows

pub chains_within : ChainsStayWithin
chains_within t x [] = refl
chains_within t x (l ∷ ls) = chains_within t (linked_to l.link x l.rows) ls
    ∙ ap (λ y. chained y (map (restricted t) ls)) (links_within t l.link x l.rows)

flat_within : (t : ℕ → Bool) (chains : List (List Row)) → filter (λ (r : Row). t r.doc) (flat_map (λ rows. rows) chains) ≡ flat_map (λ rows. rows) (map (rows_where t) chains)
flat_within t [] = refl
flat_within t (c ∷ chains) = filter-append (λ (r : Row). t r.doc) c (flat_map (λ rows. rows) chains) ∙ ap (λ l. filter (λ (r : Row). t r.doc) c ++ l) (flat_within t chains)

pub unions_within : UnionsStayWithin
unions_within t chains = sym (members_filter (λ (r : Row). t r.doc) (flat_map (λ rows. rows) chains)) ∙ ap (members_in by_row) (flat_within t chains)
