-- A core that follows a hub.
--
--   starts        before anything was opened the core of no slots follows it
--   served_none   nothing was served then, and no count rose
--   right_same    what a step keeps, by other names of the counts
--   IsGoodOver        an engine over bytes that stand for its index, where what it keeps is good, with their corpus
--   over_same     it is so by other names of the bytes and the engine
--   good_after    what is kept of answers is good after it was answered from
use Rattle.std.proofs.Common.{◌≡◌, ℕ, ◌+◌, ◌-◌, ◌^◌, ◌≤◌, List, [], refl, sym, ◌∙◌, ap, subst, arith}
use Rattle.std.specs.Prelude.{Option, Some, min}
use Rattle.std.specs.Ordering.{nat_cmp}
use Rattle.std.specs.FinSet as set
use Rattle.std.proofs.lemmas.Option.{same_Some}
use Rattle.cs_base.specs.declared.outside.hub.Event.{Event}
use Rattle.cs_base.specs.outside.Hub.{Talk, Listening, IsOrderly, listens}
use Rattle.cs_engine.specs.Keeping.{AreGood, EngineView}
use Rattle.cs_file.specs.Indexes.{StandsFor}
use Rattle.cs_model.specs.Corpus.{Corpus}
use Rattle.cs_model_index.specs.Sections.{file_corpus}
use Rattle.cs_model_serving.specs.Connections.{reads}
use Rattle.cs_hub.specs.Streams.{sum_below}
use Rattle.cs_hub.specs.HubFollowing.{Follows, AreServed, Lefts, StaysRight}

pub starts : (k : Corpus) (s : Listening) (talk : Option Talk) (port conns : ℕ) → s ≡ listens port conns → IsOrderly s talk → Follows k [] s talk 0
starts k s talk port conns e o = record {
  live = λ d. sym (ap (λ (y : Listening). set.contains y.live d) e ∙ set.contains-empty nat_cmp d);
  orderly = o;
  right = λ t at. record {
    sent = λ c. [];
    right = λ c less. absurd (omega (arith, less, ap (λ (y : Listening). y.opened) e));
    few = let none : sum_below s.opened (λ c. reads []) ≡ 0 = ap (λ (y : Listening). sum_below y.opened (λ c. reads [])) e in omega (arith, none);
  };
}

pub served_none : (k : Corpus) (s : Listening) (talk : Option Talk) (port conns n : ℕ) → s ≡ listens port conns → IsOrderly s talk → AreServed k s talk n n
served_none k s talk port conns n e o =
    record { core = []; failed = 0; follows = starts k s talk port conns e o; rose = let l : min (n + 0) (2 ^ 64 - 1) ≤ n = omega arith in l }

-- by other names of the counts
pub right_same : (k : Corpus) (core core' : Lefts) (event : Event) (piece : List ℕ) (s s' : Listening) (talk talk' : Option Talk) (m m' n n' : ℕ) → m ≡ m'
    → n ≡ n' → StaysRight k core core' event piece s s' talk talk' m n → StaysRight k core core' event piece s s' talk talk' m' n'
right_same k core core' event piece s s' talk talk' m m' n n' e f h =
    subst (λ x. StaysRight k core core' event piece s s' talk talk' x n') e (subst (λ x. StaysRight k core core' event piece s s' talk talk' m x) f h)

abbrev pub IsGoodOver : Option (List ℕ) → EngineView → Corpus → Type 0
IsGoodOver told e k = (x : List ℕ) × (told ≡ Some x) × StandsFor x e.index × AreGood x e × (k ≡ file_corpus x)

pub over_same : (told told' : Option (List ℕ)) (b : List ℕ) (e e' : EngineView) → told' ≡ told → e' ≡ e
    → told ≡ Some b → StandsFor b e.index → AreGood b e → IsGoodOver told' e' (file_corpus b)
over_same told told' b e e' same own is stands good =
    (b, same ∙ is, subst (λ x. StandsFor b x.index) (sym own) stands, subst (AreGood b) (sym own) good, refl)

-- what an engine that was answered over these bytes keeps is good after it as well
pub good_after : (told told' : Option (List ℕ)) (b : List ℕ) (e : EngineView) → told ≡ Some b → told' ≡ told → IsGoodOver told' e (file_corpus b) → AreGood b e
good_after told told' b e is same h = subst (λ l. AreGood l e) (same_Some h.0 b (sym h.1 ∙ same ∙ is)) h.3
