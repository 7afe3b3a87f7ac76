-- What follows of a run of `serve` by how it ended.
--
--   serving_by           a hub that served, by what it was when it began
--   failed_after_line    one that put its line whole, over an out that tells and didn't fail, failed by the hub alone
--   same_each            where no response says Read or Changed, each is the answer in whose place it stands
--   exact_one            so one connection was sent exactly what answers its bytes
--   exact_all            and each of them, where the files' count didn't rise
--   served_all           also those on which a send might fail, where none did
--   ran_by               a whole run
use Rattle.std.proofs.Common.{◌≡◌, ℕ, ◌+◌, ◌<◌, ◌≤◌, suc, zero, Bool, true, false, not, cond, ltb, List, [], ◌∷◌, ◌++◌, append-nil, inl, inr, refl, sym, subst, ◌∙◌, ap, arith}
use Rattle.std.proofs.lemmas.Bool.Decides.{nat_tests}
use Rattle.std.proofs.lemmas.List.{append_cancel_left}
use Rattle.std.proofs.lemmas.Slice.Eq.{bytes_eq-Decides}
use Rattle.std.specs.Prelude.{Option, Some, None}
use Rattle.std.specs.List.{AllZip}
use Rattle.std.specs.Option.{ForSome, option_map, unwrap_or}
use Rattle.cs_base.specs.outside.Causes.{Rose}
use Rattle.cs_base.specs.outside.Hub.{Listening, Talk, sent_on}
use Rattle.cs_base.specs.outside.Outside.{Grew, Held}
use Rattle.cs_hub.specs.HubFollowing.{AreServed, left_at}
use Rattle.cs_hub.specs.Speaking.{AreUnbroken}
use Rattle.cs_hub.specs.Streams.{RoseBy, bytes_that_came, sum_below}
use Rattle.cs_hub.proofs.ServedLemmas.{changes_cons, reads_cons}
use Rattle.cs_model.specs.Corpus.{Corpus}
use Rattle.cs_model.specs.Digits.{number_of}
use Rattle.cs_model_index.specs.Sections.{file_corpus}
use Rattle.cs_model_serving.specs.Connections.{IsFair, Left, MayReplace, StandsBy, answers, changes, says_changed, says_read, reads}
use Rattle.cs_model_serving.specs.Responses.{Response, all_bytes, index_changed, memory_bytes, read_failed}
use Rattle.cs_indexing.specs.CommandLine.{Ending, failed}
use Rattle.cs_indexing.specs.Met.{Listened, Met, Wrote, held_bytes}
use Rattle.cs_top.specs.Serve.{AreAnswered, AreExact, FailsBehind, HasToldPort, IsExact, IsServing, ServeCaused, ServeEnds, ServeFailed, ServeRan, ServeTold, ServesAll, serving_line}

pub serving_by : (p n : List ℕ) (w : Wrote) (net : Listened) (mid : ℕ) → HasToldPort p w → net.new.state.port ≡ number_of p → net.new.state.conns ≡ number_of n → mid ≡ net.old.send_faults → mid ≤ net.new.send_faults → ((Rose mid net.new.send_faults → ⊥) → ForSome net.new.talk AreUnbroken)
    → IsServing p n w net
serving_by p n w net mid put port conns sends later unbroken = record {
  put = put;
  port = port;
  conns = conns;
  sends = omega (arith, sends, later);
  unbroken = λ calm. unbroken (λ rose. calm (subst (λ x. Rose x net.new.send_faults) sends rose));
}

pub failed_after_line : (p n : List ℕ) (w : Wrote) (net : Listened) (P : Type 0) (b : List ℕ) → w.old ≡ Some b → Grew w.old (serving_line p) w.new → ¬ Rose w.before w.now → ServeFailed p n w net P
    → IsServing p n w net × Rose net.old.faults net.new.faults × P
failed_after_line p n w net P b told line calm (inr after) = after
failed_after_line p n w net P b told line calm (inl (inr begun)) = absurd (calm begun.1)
failed_after_line p n w net P b told line calm (inl (inl untouched)) =
    let grown : Some b ≡ Some (b ++ serving_line p) = sym told ∙ sym untouched.0.put ∙ line ∙ ap (option_map (λ x. x ++ serving_line p)) told in
    let empty : serving_line p ≡ [] = append_cancel_left b (serving_line p) [] (sym (ap (λ o. unwrap_or o []) grown) ∙ sym (append-nil b)) in
    absurd cc

-- ---- responses in the places of answers
flip : (x : Bool) → x ≡ false → not x ≡ false → ⊥
flip true a b = absurd cc
flip false a b = absurd cc

read_is : (closes : Bool) → says_read (read_failed closes) ≡ true
read_is closes = (bytes_eq-Decides (read_failed closes).body (read_failed closes).body).1 refl

itself : (r s : Response) → MayReplace r s → says_read s ≡ false → says_changed s ≡ false → s ≡ r
itself r s (inl e) a b = e
itself r s (inr (ok, inl e)) a b = let wrong : true ≡ false = sym (read_is r.closes) ∙ ap says_read (sym e) ∙ a in absurd cc
itself r s (inr (ok, inr (rule, at, e))) a b = absurd (flip (says_read (index_changed rule at r.closes)) (ap says_read (sym e) ∙ a) (ap says_changed (sym e) ∙ b))

parted : (b : Bool) (n m : ℕ) → n ≡ cond b 1 0 + m → n ≡ 0 → (b ≡ false) × (m ≡ 0)
parted true n m e none = absurd (omega (arith, e, none))
parted false n m e none = (refl, omega (arith, e, none))

same_each : (rs ss : List Response) → AllZip MayReplace rs ss → reads ss ≡ 0 → changes ss ≡ 0 → ss ≡ rs
same_each [] [] z a b = refl
same_each [] (s ∷ ss) z a b = absurd z
same_each (r ∷ rs) [] z a b = absurd z
same_each (r ∷ rs) (s ∷ ss) z a b =
    let x = parted (says_read s) _ (reads ss) (reads_cons s ss) a in
    let y = parted (says_changed s) _ (changes ss) (changes_cons s ss) b in
    ap (λ t. t ∷ ss) (itself r s z.0 x.0 y.0) ∙ ap (λ ts. r ∷ ts) (same_each rs ss z.1 x.1 y.1)

module _ (k : Corpus) (b s : List ℕ) (sent : List Response) (a : reads sent ≡ 0) (c : changes sent ≡ 0) where
  exact_fair : IsFair k b s sent → IsExact k b s
  exact_fair (inl h) = inl (h.bytes ∙ ap all_bytes (same_each (answers k b).responses sent h.each a c))
  exact_fair (inr h) = inr (h.first, h.later, h.cut, h.bytes ∙ ap (λ rs. all_bytes rs ++ memory_bytes) (same_each h.first sent h.each a c))

  exact_one : (left : Option Left) → StandsBy k b s false left sent → IsExact k b s
  exact_one (Some left) h = exact_fair (inl h.answered)
  exact_one None h = exact_fair h

-- ---- counts
none_rose : (n before now : ℕ) → RoseBy n before now → ¬ Rose before now → n ≡ 0
none_rose zero before now r calm = refl
none_rose (suc n) before now r calm = absurd (calm (omega (arith, r)))

none_by : (n : ℕ) (f : ℕ → ℕ) (c : ℕ) (t : Bool) → ltb c n ≡ t → c < n + 1 → f n ≡ 0 → (c < n → f c ≡ 0) → f c ≡ 0
none_by n f c true e low last below = below (grind (arith, nat_tests))
none_by n f c false e low last below = let same : c ≡ n = grind (arith, nat_tests) in ap f same ∙ last

each_none : (n : ℕ) (f : ℕ → ℕ) (c : ℕ) → c < n → sum_below n f ≡ 0 → f c ≡ 0
each_none zero f c low none = absurd (omega (arith, low))
each_none (suc n) f c low none = none_by n f c (ltb c n) refl (omega (arith, low)) (omega (arith, none)) (λ lower. each_none n f c lower (omega (arith, none)))

exact_all : (k : Corpus) (s : Listening) (talk : Option Talk) (before now : ℕ) → AreServed k s talk before now → ¬ Rose before now → ForSome talk (λ t. AreExact k s t)
exact_all k s talk before now h calm t told c opened whole =
    let right = h.follows.right t told in
    let none : sum_below s.opened (λ d. reads (right.sent d)) ≡ 0 = let few = right.few in let n = none_rose h.failed before now h.rose calm in omega (arith, few, n) in
    let one = right.right c opened in
    exact_one k (bytes_that_came c t.came) (sent_on t c) (right.sent c) (each_none s.opened (λ d. reads (right.sent d)) c opened none) one.unchanged (left_at h.core c)
    (subst (λ x. StandsBy k (bytes_that_came c t.came) (sent_on t c) x (left_at h.core c) (right.sent c)) whole one.stands)

pub served_all : (h : Held) (i p n : List ℕ) (before now : ℕ) (w : Wrote) (net : Listened) → IsServing p n w net → AreAnswered h i before now net → ¬ Rose before now → ¬ Rose net.old.send_faults net.new.send_faults → ServesAll h i net
served_all h i p n before now w net serving right calm sent t told c opened =
    exact_all (file_corpus (held_bytes h i)) net.new.state net.new.talk before now right.1 calm t told c opened (serving.unbroken sent t told c)

-- ---- a whole run
module _ (i p n : List ℕ) {H : Type 0} (m : Met H) where
  behind : (e : Ending) → ServeEnds e i p n m.out m.net → ForSome m.held (λ h. ServeTold e h i p n m.files_before m.files_now m.out m.net) → e ≡ failed
      → FailsBehind p n m.out m.net (ForSome m.held (λ h. AreAnswered h i m.files_before m.files_now m.net))
  behind e ends told is b out line calm =
      let first = failed_after_line p n m.out m.net (Unit {0}) b out line calm (subst (λ x. ServeEnds x i p n m.out m.net) is ends) in
      (first.0, first.1, λ h held. (failed_after_line p n m.out m.net (AreAnswered h i m.files_before m.files_now m.net) b out line calm (subst (λ x. ServeTold x h i p n m.files_before m.files_now m.out m.net) is (told h held))).2)

  pub ran_by : (e : Ending) → ServeEnds e i p n m.out m.net → ForSome m.held (λ h. ServeTold e h i p n m.files_before m.files_now m.out m.net)
      → ServeCaused e m.files_before m.files_now m.out.before m.out.now m.net.old.faults m.net.new.faults → m.held_now ≡ m.held → ServeRan e i p n m
  ran_by e ends told caused files = record {
    ends = ends;
    told = told;
    behind = behind e ends told;
    exact = λ is calm h held.
        exact_all (file_corpus (held_bytes h i)) m.net.new.state m.net.new.talk m.files_before m.files_now (subst (λ x. ServeTold x h i p n m.files_before m.files_now m.out m.net) is (told h held)).1 calm;
    caused = caused;
    files = files;
  }
