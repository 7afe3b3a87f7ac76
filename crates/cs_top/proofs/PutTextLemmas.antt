-- Which texts are put over any files: for a line, for some lines and one more, and where a script ends.
--
--   IsApart own, own_apart   texts that lines may have of their own, and those of a form
--   puts_none, puts_more     for no lines, and for one more; `puts_none_of` and the like of any such texts
--   puts_cut, nothing_put    where the script ends at a line, or before the first one
--   puts_some_of             of any lines
--   line_puts, line_cuts     a line whose answer was put, and one whose answer wasn't put whole; `puts_line_of` and `cuts_line_of` of any such texts
use Rattle.std.proofs.Common.{◌≡◌, ◌≢◌, ◌⊎◌, ℕ, List, [], ◌∷◌, ◌++◌, Contains, inl, inr, refl, sym, ◌∙◌, ap, subst}
use Rattle.std.specs.Prelude.{Option, Result, Ok, Err, IfOk, IfErr, OnOk, OnErr}
use Rattle.std.proofs.lemmas.List.Elements.{All-nil, All-push, Contains-append_left, Contains-push}
use Rattle.cs_base.specs.outside.Causes.{Rose}
use Rattle.cs_base.specs.outside.Outside.{Grew, GrewByPrefix}
use Rattle.cs_base.proofs.GrewLemmas.{grew_none, grew_twice, grew_begun, grew_then_begun}
use Rattle.cs_model.specs.Outputs.{IsChangedText, memory_text, put_of, read_text}
use Rattle.cs_model.proofs.OutputLemmas.{put_of-push}
use Rattle.cs_indexing.specs.CommandLine.{CausedBy, Ending, done, usage, refused, damaged, absent, failed, no_memory, script_refused, changed, merge_refused}
use Rattle.cs_indexing.specs.Met.{Wrote}
use Rattle.cs_indexing.specs.Views.{of_script, stop_ending}
use Rattle.cs_indexing.specs.declared.unread.ScriptStop.{ScriptStop}
use Rattle.cs_indexing.specs.declared.unread.ScriptStop.TheVariants as scripts
use Rattle.cs_indexing.specs.declared.words.HitForm.{HitForm}
use Rattle.cs_top.specs.Answering.{came_of_answer, line_bytes, worst}
use Rattle.cs_top.specs.PutTexts.{CutsLine, CutsLineOf, EndsBy, EndsOf, HasTextBy, IsOwnText, IsTextOf, OwnText, PutsLine, PutsLineOf, PutsTexts, PutsTextsOf, TextOf, TextsOf}
use Rattle.cs_top.specs.declared.script.WhatCame.{WhatCame}
use Rattle.cs_top.specs.declared.script.WhatCame.TheVariants.{Answered, Read, Changed}
use Rattle.cs_top.specs.declared.script.answers.Answer.{Answer}
use Rattle.cs_top.proofs.TallyLemmas.{read_first}
use Rattle.cs_top.proofs.TextsApart.{memory_apart, changed_unread, own_unread, own_unchanged}

-- ---- texts that lines may have of their own
-- want of memory has one, and none is that of a failed read or of a changed index file
pub record IsApart (own : OwnText) : Type 0 where
  pub memory : own memory_text
  pub unread : (t : List ℕ) → own t → t ≢ read_text
  pub unchanged : (t : List ℕ) → own t → ¬ IsChangedText t

pub own_apart : (form : HitForm) → IsApart (IsOwnText form)
own_apart form = record { memory = inr (inr refl); unread = own_unread form; unchanged = own_unchanged form }

-- ---- one text, by what came of its line
module _ (own : OwnText) (apart : IsApart own) where
  line_text : (came : WhatCame) (t : List ℕ) → TextOf own came t → IsTextOf own t
  line_text Answered t h = inl h
  line_text Read t h = inr (inl h)
  line_text Changed t (inl h) = inr (inr h)
  line_text Changed t (inr h) = inl (subst own (sym h) apart.memory)

  text_unread : (came : WhatCame) (t : List ℕ) → came ≢ Read → TextOf own came t → t ≢ read_text
  text_unread Answered t other h = apart.unread t h
  text_unread Read t other h = absurd (other refl)
  text_unread Changed t other (inl h) = changed_unread t h
  text_unread Changed t other (inr h) = λ e. memory_apart (sym h ∙ e)

  text_unchanged : (came : WhatCame) (t : List ℕ) → came ≡ Answered → TextOf own came t → ¬ IsChangedText t
  text_unchanged Answered t is h = apart.unchanged t h
  text_unchanged Read t is h = absurd cc
  text_unchanged Changed t is h = absurd cc

-- ---- what came of some lines and of one more
both_answered : (a b : WhatCame) → worst a b ≡ Answered → (a ≡ Answered) × (b ≡ Answered)
both_answered Answered b e = (refl, e)
both_answered Read b e = absurd cc
both_answered Changed Answered e = absurd cc
both_answered Changed Read e = absurd cc
both_answered Changed Changed e = absurd cc

which_changed : (a b : WhatCame) → worst a b ≡ Changed → (a ≡ Changed) ⊎ (b ≡ Changed)
which_changed Answered b e = inr e
which_changed Read b e = absurd cc
which_changed Changed b e = inl refl

as_answered : (a : WhatCame) → worst a Answered ≡ a
as_answered Answered = refl
as_answered Read = refl
as_answered Changed = refl

-- ---- the texts of some lines
module _ (own : OwnText) where
  texts_none : TextsOf own Answered []
  texts_none = record { each = All-nil (IsTextOf own); unread = λ h. All-nil (λ t. t ≢ read_text); unchanged = λ h. All-nil (λ t. ¬ IsChangedText t); changed = λ e. absurd cc }

  a_change : (ts : List (List ℕ)) (t : List ℕ) (came met : WhatCame) → TextsOf own came ts → TextOf own met t → (came ≡ Changed) ⊎ (met ≡ Changed) → (u : List ℕ) × Contains (ts ++ t ∷ []) u × (IsChangedText u ⊎ (u ≡ memory_text))
  a_change ts t came met h by (inl is) = let x = h.changed is in (x.0, Contains-append_left ts (t ∷ []) x.0 x.1, x.2)
  a_change ts t came Changed h by (inr is) = (t, Contains-push ts t, by)
  a_change ts t came Answered h by (inr is) = absurd cc
  a_change ts t came Read h by (inr is) = absurd cc

  pub puts_none_of : (w : Option (List ℕ)) → PutsTextsOf own Answered w w
  puts_none_of w = ([], texts_none, grew_none w)

  -- any lines were answered
  pub puts_some_of : (came : WhatCame) (w : Wrote) → PutsTextsOf own came w.old w.new → EndsOf own failed w
  puts_some_of came w (ts, h, g) = (ts, h.each, grew_begun w.old (put_of ts) w.new g, λ low. g)

  -- nothing was put
  pub nothing_put_of : (w : Wrote) → w.new ≡ w.old → EndsOf own failed w
  nothing_put_of w same = puts_some_of Answered w (subst (λ x. PutsTextsOf own Answered w.old x) (sym same) (puts_none_of w.old))

  module _ (apart : IsApart own) where
    texts_more : (ts : List (List ℕ)) (t : List ℕ) (came met : WhatCame) → TextsOf own came ts → TextOf own met t → TextsOf own (worst came met) (ts ++ t ∷ [])
    texts_more ts t came met h by = record {
      each = All-push (IsTextOf own) ts t h.each (line_text own apart met t by);
      unread = λ other. let both = read_first came met other in All-push (λ u. u ≢ read_text) ts t (h.unread both.0) (text_unread own apart met t both.1 by);
      unchanged = λ is. let both = both_answered came met is in All-push (λ u. ¬ IsChangedText u) ts t (h.unchanged both.0) (text_unchanged own apart met t both.1 by);
      changed = λ is. a_change ts t came met h by (which_changed came met is);
    }

    pub puts_more_of : (came met : WhatCame) (old now new : Option (List ℕ)) → PutsTextsOf own came old now → PutsLineOf own met now new → PutsTextsOf own (worst came met) old new
    puts_more_of came met old now new (ts, h, g) (inl (is, same)) =
        let stays : came ≡ worst came met = sym (as_answered came) ∙ ap (worst came) (sym is) in
        subst (λ c. PutsTextsOf own c old new) stays (ts, h, subst (λ w. Grew old (put_of ts) w) (sym same) g)
    puts_more_of came met old now new (ts, h, g) (inr (t, by, more)) =
        (ts ++ t ∷ [], texts_more ts t came met h by, subst (λ b. Grew old b new) (sym (put_of-push ts t)) (grew_twice old (put_of ts) (t ++ 10 ∷ []) now new g more))

    module _ (came : WhatCame) (old now : Option (List ℕ)) (first last : ℕ) (new : Option (List ℕ)) where
      -- at a line, from what was put before it
      pub puts_cut_of : (e : Ending) → PutsTextsOf own came old now → CutsLineOf own e (record { old = now; new = new; before = first; now = last }) → EndsOf own e (record { old = old; new = new; before = first; now = last })
      puts_cut_of (script_refused f) (ts, h, g) same = (ts, h.each, subst (λ w. Grew old (put_of ts) w) (sym same) g)
      puts_cut_of failed p (inl same) = puts_some_of came (record { old = old; new = new; before = first; now = last }) (subst (λ w. PutsTextsOf own came old w) (sym same) p)
      puts_cut_of failed (ts, h, g) (inr (rose, (met, t, by, begun))) =
          let some : GrewByPrefix old (put_of (ts ++ t ∷ [])) new = subst (λ b. GrewByPrefix old b new) (sym (put_of-push ts t)) (grew_then_begun old (put_of ts) (t ++ 10 ∷ []) now new g begun) in
          (ts ++ t ∷ [], All-push (IsTextOf own) ts t h.each (line_text own apart met t by), some, λ low. absurd (low rose))
      puts_cut_of done p cut = absurd cut
      puts_cut_of usage p cut = absurd cut
      puts_cut_of (refused r) p cut = absurd cut
      puts_cut_of (damaged rule at) p cut = absurd cut
      puts_cut_of (absent name) p cut = absurd cut
      puts_cut_of no_memory p cut = absurd cut
      puts_cut_of changed p cut = absurd cut
      puts_cut_of (merge_refused r) p cut = absurd cut

-- ---- the same by the form in which hits are shown
pub puts_none : (form : HitForm) (w : Option (List ℕ)) → PutsTexts form Answered w w
puts_none form = puts_none_of (IsOwnText form)

pub puts_more : (form : HitForm) (came met : WhatCame) (old now new : Option (List ℕ)) → PutsTexts form came old now → PutsLine form met now new → PutsTexts form (worst came met) old new
puts_more form = puts_more_of (IsOwnText form) (own_apart form)

pub nothing_put : (form : HitForm) (w : Wrote) → w.new ≡ w.old → EndsBy form failed w
nothing_put form = nothing_put_of (IsOwnText form)

pub puts_cut : (form : HitForm) (came : WhatCame) (old now : Option (List ℕ)) (first last : ℕ) (new : Option (List ℕ)) (e : Ending) → PutsTexts form came old now → CutsLine form e (record { old = now; new = new; before = first; now = last })
    → EndsBy form e (record { old = old; new = new; before = first; now = last })
puts_cut form = puts_cut_of (IsOwnText form) (own_apart form)

-- ---- one line
-- a line whose text was put, and one whose text wasn't put whole
module _ (own : OwnText) (came : WhatCame) (bytes t : List ℕ) (is : bytes ≡ t ++ 10 ∷ []) (by : TextOf own came t) where
  pub puts_line_of : {E : Type 0} (r : Result WhatCame E) (old new : Option (List ℕ)) → OnOk r (Grew old bytes new) → IfOk r (λ c. c ≡ came) → IfOk r (λ x. PutsLineOf own x old new)
  puts_line_of (Ok x) old new g same = subst (λ y. PutsLineOf own y old new) (sym same) (inr (t, by, subst (λ b. Grew old b new) is g))
  puts_line_of (Err e) old new g same = tt

  pub cuts_line_of : (r : Result WhatCame ScriptStop) (w : Wrote) → OnErr r (GrewByPrefix w.old bytes w.new) → IfErr r (λ s. s ≡ scripts.Failed) → IfErr r (λ s. CausedBy (stop_ending (of_script s)) w.before w.now)
      → IfErr r (λ s. CutsLineOf own (stop_ending (of_script s)) w)
  cuts_line_of (Ok x) w g same cause = tt
  cuts_line_of (Err s) w g same cause =
      let rose : Rose w.before w.now = (subst (λ x. CausedBy (stop_ending (of_script x)) w.before w.now) same cause).0 in
      subst (λ x. CutsLineOf own (stop_ending (of_script x)) w) (sym same) (inr (rose, (came, t, by, subst (λ b. GrewByPrefix w.old b w.new) is g)))

module _ (form : HitForm) (a : Answer) (h : HasTextBy form a) where
  pub line_puts : {E : Type 0} (r : Result WhatCame E) (old new : Option (List ℕ)) → OnOk r (Grew old (line_bytes a) new) → IfOk r (λ c. c ≡ came_of_answer a) → IfOk r (λ came. PutsLine form came old new)
  line_puts = puts_line_of (IsOwnText form) (came_of_answer a) (line_bytes a) h.0 h.1 h.2

  pub line_cuts : (r : Result WhatCame ScriptStop) (w : Wrote) → OnErr r (GrewByPrefix w.old (line_bytes a) w.new) → IfErr r (λ s. s ≡ scripts.Failed) → IfErr r (λ s. CausedBy (stop_ending (of_script s)) w.before w.now)
      → IfErr r (λ s. CutsLine form (stop_ending (of_script s)) w)
  line_cuts = cuts_line_of (IsOwnText form) (came_of_answer a) (line_bytes a) h.0 h.1 h.2
