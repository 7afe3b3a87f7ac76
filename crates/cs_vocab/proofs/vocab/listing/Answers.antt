use Rattle.std.proofs.Common.{◌≡◌, length, sym, ap, subst, ◌∙◌, arith}
use Rattle.std.specs.List.Sorted.{IsStrictlySortedBy}
use Rattle.std.specs.Ordering.{nat_cmp}
use Rattle.std.specs.Cmp.Lexicographic.{slice_cmp}
use Rattle.std.specs.Str.{bytes_eq}
use Rattle.std.proofs.lemmas.Cmp.{nat_list_cmp_total}
use Rattle.std.proofs.lemmas.Grind.{common_steps}
use Rattle.std.proofs.lemmas.Map.Lookups.{exact_bytes}
use Rattle.cs_base.specs.contracts.content.word.WordOrd.TheImpl.Laws.{matches_eq-law}
use Rattle.cs_base.specs.content.Members.{members_in}
use Rattle.cs_base.proofs.MembersLemmas.{listing-rises, sorted_members}
use Rattle.cs_vocab.proofs.vocab.listing.Goals as goal

pub invariant_of-vocab : goal.invariant_of-vocab
invariant_of-vocab c =
    let all : c.loop-place.sorted.items ≡ c.args.gathered.now = grind (arith, common_steps) in
    let copied : c.from_vec.result ≡ c.dedup.new.self.items = grind (arith, common_steps) in
    let listed : c.from_vec.result ≡ members_in (slice_cmp nat_cmp) c.args.gathered.now = copied
    ∙ sorted_members nat_list_cmp_total exact_bytes bytes_eq matches_eq-law c.loop-place.sorted.items c.sort.new.self.items
    c.dedup.new.self.items c.in_ok-sort.ensures.permutation c.in_ok-sort.ensures.sorted c.dedup.ensures.filtered
    ∙ ap (members_in (slice_cmp nat_cmp)) all in (
      subst (IsStrictlySortedBy (slice_cmp nat_cmp)) (sym listed) (listing-rises (slice_cmp nat_cmp) c.args.gathered.now),
      omega (
        arith,
        ap length copied,
        ap length all,
        c.in_ok-sort.ensures.len,
        c.dedup.ensures.bound,
        c.dedup.new.self.ok,
        c.sort.new.self.ok,
        c.loop-place.sorted.ok,
        c.requires.few,
      ),
    )

pub returns : goal.returns
returns c =
    let all : c.loop-place.sorted.items ≡ c.args.gathered.now = grind (arith, common_steps) in
    let copied : c.from_vec.result ≡ c.dedup.new.self.items = grind (arith, common_steps) in
    record {
      ok = copied
          ∙ sorted_members nat_list_cmp_total exact_bytes bytes_eq matches_eq-law c.loop-place.sorted.items c.sort.new.self.items
          c.dedup.new.self.items c.in_ok-sort.ensures.permutation c.in_ok-sort.ensures.sorted c.dedup.ensures.filtered
          ∙ ap (members_in (slice_cmp nat_cmp)) all;
    }
