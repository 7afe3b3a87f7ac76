-- An index under changes over its file: what a request leaves of it, and what it answers.
--
--   leaves_none, comes_leaves     where nothing was asked, and behind parameters of which this came
--   standing_so, comes_so         the same by other names
--   ask_leaves                    behind a request
--   reply_now, still_now          its reply, and what is answered over behind it
--   over_same                     over files that hold the same
use Rattle.std.proofs.Common.{◌≡◌, ℕ, List, inl, inr, refl, sym, ◌∙◌, ap, subst}
use Rattle.std.specs.Prelude.{Option}
use Rattle.std.specs.Option.{ForSome}
use Rattle.cs_base.specs.outside.Outside.{Held, file_bytes}
use Rattle.cs_file.specs.Indexes.{IndexView, StandsFor}
use Rattle.cs_hub.specs.Outcomes.{ComesOf}
use Rattle.cs_hub.specs.declared.outcomes.RequestOutcome.{RequestOutcome}
use Rattle.cs_hub.specs.declared.outcomes.RequestOutcome.TheVariants as outcomes
use Rattle.cs_live.specs.Lives.{AreGoodNow, IsBehind, LiveView}
use Rattle.cs_model.specs.Corpus.{Corpus}
use Rattle.cs_model.specs.Replies.{Reply}
use Rattle.cs_model.specs.Requests.{Request, reply_of}
use Rattle.cs_model_changes.specs.Changes.{Change, now}
use Rattle.cs_model_index.specs.Sections.{file_corpus}
use Rattle.cs_model_live.specs.Courses.{IsChanged}
use Rattle.cs_model_live.specs.LiveStates.{LiveState}
use Rattle.cs_top.specs.LiveAnswering.{AnswersNow, LeavesLive, LiveLeaves, LiveOver, LiveStanding, live_standing}

pub leaves_none : (s : LiveStanding) → LeavesLive s s
leaves_none s = record { stays = record { index = refl; files = refl }; over = λ b e h. h }

pub standing_so : (l l' : LiveView) (name name' : List ℕ) (held held' : Option Held) → l ≡ l' → name ≡ name' → held ≡ held' → live_standing l name held ≡ live_standing l' name' held'
standing_so l l' name name' held held' a b c = ap (λ x. live_standing x name held) a ∙ ap (λ x. live_standing l' x held) b ∙ ap (live_standing l' name') c

pub comes_so : (p : List ℕ) (o : RequestOutcome) (s t t' : LiveStanding) → t ≡ t' → ComesOf LiveLeaves p s o t → ComesOf LiveLeaves p s o t'
comes_so p o s t t' e h = subst (ComesOf LiveLeaves p s o) e h

pub comes_leaves : (p : List ℕ) (o : RequestOutcome) (s t : LiveStanding) → ComesOf LiveLeaves p s o t → LeavesLive s t
comes_leaves p (outcomes.Refused e) s t h = subst (LeavesLive s) (sym h.2) (leaves_none s)
comes_leaves p (outcomes.Replied q r) s t h = h.2
comes_leaves p outcomes.Read s t h = h.1
comes_leaves p (outcomes.Changed rule at) s t h = h.1
comes_leaves p outcomes.Memory s t (inl e) = subst (LeavesLive s) (sym e) (leaves_none s)
comes_leaves p outcomes.Memory s t (inr h) = h.1

module _ (l : LiveView) (name : List ℕ) (held : Option Held) where
  -- ---- a request
  module _ (new : LiveView) (held' : Option Held) (index : new.state.index ≡ l.state.index) (files : held' ≡ held)
      (behind : (b : List ℕ) (cs : List Change) → StandsFor b l.state.index → IsBehind b cs l → IsBehind b cs new)
      (good : ForSome (file_bytes held name) (λ b. StandsFor b l.state.index → AreGoodNow b l → AreGoodNow b new)) where
    over : (b : List ℕ) (s : LiveState) → LiveOver l name held b s → LiveOver new name held' b s
    over b s h = record {
      told = ap (λ x. file_bytes x name) files ∙ h.told;
      live = record {
        stands = subst (StandsFor b) (sym index) h.live.stands;
        at = record {
          made = h.live.at.made;
          behind = behind b h.live.at.made h.live.stands h.live.at.behind;
          state = subst (λ (i : IndexView). IsChanged i.weights (file_corpus b) h.live.at.made s) (sym index) h.live.at.state;
        };
        good = good b h.told h.live.stands h.live.good;
      };
    }

    pub ask_leaves : LeavesLive (live_standing l name held) (live_standing new name held')
    ask_leaves = record { stays = record { index = index; files = files }; over = over }

    pub still_now : (k : Corpus) → AnswersNow l name held k → AnswersNow new name held' k
    still_now k (b, s, h, is) = (b, s, over b s h, is)

  -- ---- its reply
  pub reply_now : (k : Corpus) (q : Request) → AnswersNow l name held k → (r : Reply)
      → ForSome (file_bytes held name) (λ b. StandsFor b l.state.index → AreGoodNow b l → (cs : List Change) → IsBehind b cs l → r ≡ reply_of (now l.state.index.weights (file_corpus b) cs) q)
      → r ≡ reply_of k q
  reply_now k q (b, s, h, is) r ok = ok b h.told h.live.stands h.live.good h.live.at.made h.live.at.behind ∙ ap (λ x. reply_of x q) (sym (is ∙ h.live.at.state.corpus))

  -- ---- over files that hold the same
  pub over_same : (held' : Option Held) → held' ≡ held → (b : List ℕ) (s : LiveState) → LiveOver l name held b s → LiveOver l name held' b s
  over_same held' files b s h = subst (λ x. LiveOver l name x b s) (sym files) h
