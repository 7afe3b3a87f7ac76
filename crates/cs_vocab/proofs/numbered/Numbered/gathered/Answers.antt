use Rattle.std.proofs.Common.{◌≡◌, ℕ, List, length, map, slice_index, sym, ap, subst, ◌∙◌}
use Rattle.std.specs.Ordering.{nat_cmp}
use Rattle.std.specs.Cmp.Lexicographic.{slice_cmp}
use Rattle.std.proofs.lemmas.List.{with_items_is}
use Rattle.cs_base.specs.content.Members.{members_in}
use Rattle.cs_vocab.specs.Gathering.{gathered}
use Rattle.cs_vocab.specs.Ranges.{AreNumbers}
use Rattle.cs_vocab.proofs.GatheringLemmas.{indices_are}
use Rattle.cs_vocab.proofs.WordNumberLemmas.{through_numbers}
use Rattle.cs_vocab.proofs.numbered.Numbered.gathered.Goals as goal

pub returns-clause-words : goal.returns-clause-words
returns-clause-words c = c.in_ok-words.ensures.ok ∙ ap (members_in (slice_cmp nat_cmp)) c.as_slice.ensures.value ∙ c.requires.is.members

pub returns-clause-numbers : goal.returns-clause-numbers
returns-clause-numbers c =
    let known = c.in_ok-known.known.items in
    let g = c.args.gathering in
    let ws = c.in_ok-words.words in
    let numbers : AreNumbers ws known g.words.items = subst (AreNumbers ws known) c.as_slice-2.ensures.value c.in_ok-known.ensures in
    let taken : AreNumbers g.words.items g.indices.items (gathered g) = indices_are g c.requires.is in
    let same = with_items_is g.indices c.look_up.new.indices (c.look_up.auto.indices ∙ ap length c.deref_mut.ensures.value ∙ sym g.indices.ok.0) in
    let is : c.from_vec.result ≡ map (slice_index known) g.indices.items = c.from_vec.ensures ∙ same ∙ c.look_up.ensures
    ∙ ap (λ (r : List ℕ). map (slice_index r) c.deref_mut.result.now) c.as_slice-4.ensures.value ∙ ap (λ (p : List ℕ). map (slice_index known) p) c.deref_mut.ensures.value in
    subst (λ (ns : List ℕ). AreNumbers ws ns (gathered g)) (sym is) (through_numbers ws g.words.items known numbers g.indices.items (gathered g) taken)
