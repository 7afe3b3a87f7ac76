-- What was sent is by the answers, from one head to all those of a step.
--
--   memory_part                 some first bytes of the memory response stand for any
--   whole_part                  a whole text
--   by_same                     a response by answers, where the right one is the same
--   are_one, are_both           the response to one head, and those to heads behind heads
--   by_behind, by_all           bytes behind responses, and none behind them
use Rattle.std.proofs.Common.{◌≡◌, ℕ, Bool, List, [], ◌∷◌, ◌++◌, length, refl, sym, ◌∙◌, ap, subst, arith, append_assoc, append-nil, inr}
use Rattle.std.proofs.lemmas.List.{take_all}
use Rattle.cs_model.specs.Corpus.{Corpus}
use Rattle.cs_model_serving.specs.Responses.{Response, memory_bytes}
use Rattle.cs_hub.specs.DueReads.{Answered, AreResponsesBy, IsBy, IsPartOf, IsResponseBy, IsTextBy, SentBy}

pub memory_part : (hs : List (List ℕ)) (xs : List Answered) (part : List ℕ) → IsPartOf memory_bytes part → IsTextBy hs xs part
memory_part [] xs part h = inr h
memory_part (x ∷ hs) xs part h = inr h

pub whole_part : (text : List ℕ) → IsPartOf text text
whole_part text = (length text, sym (take_all (length text) text (omega arith)))

pub by_same : (right other : Corpus → Response) (close : Bool) (xs : List Answered) (r : Response) → ((k : Corpus) → right k ≡ other k)
    → IsBy right close xs r → IsBy other close xs r
by_same right other close [] r same h = λ k. h k ∙ same k
by_same right other close (a ∷ xs) r same h = h

pub are_one : (r : Response) (h : List ℕ) (xs : List Answered) → IsResponseBy h xs r → AreResponsesBy (r ∷ []) (h ∷ []) xs
are_one r h xs by = (xs, [], sym (append-nil xs), by, (refl, refl))

pub are_both : (rs ss : List Response) (hs ks : List (List ℕ)) (xs ys : List Answered) → AreResponsesBy rs hs xs → AreResponsesBy ss ks ys
    → AreResponsesBy (rs ++ ss) (hs ++ ks) (xs ++ ys)
are_both [] ss hs ks xs ys a b = subst (λ l. AreResponsesBy ss (l ++ ks) (xs ++ ys)) (sym a.0) (subst (λ l. AreResponsesBy ss ks (l ++ ys)) (sym a.1) b)
are_both (r ∷ rs) ss [] ks xs ys a b = absurd a
are_both (r ∷ rs) ss (h ∷ hs) ks xs ys a b =
    (a.0, a.1 ++ ys, ap (λ l. l ++ ys) a.2 ∙ append_assoc a.0 a.1 ys, a.3, are_both rs ss hs ks a.1 ys a.4 b)

pub by_behind : (rs ss : List Response) (hs left : List (List ℕ)) (xs ys : List Answered) (part : List ℕ) → AreResponsesBy rs hs xs → SentBy ss left ys part
    → SentBy (rs ++ ss) (hs ++ left) (xs ++ ys) part
by_behind [] ss hs left xs ys part a b =
    subst (λ l. SentBy ss (l ++ left) (xs ++ ys) part) (sym a.0) (subst (λ l. SentBy ss left (l ++ ys) part) (sym a.1) b)
by_behind (r ∷ rs) ss [] left xs ys part a b = absurd a
by_behind (r ∷ rs) ss (h ∷ hs) left xs ys part a b =
    (a.0, a.1 ++ ys, ap (λ l. l ++ ys) a.2 ∙ append_assoc a.0 a.1 ys, a.3, by_behind rs ss hs left a.1 ys part a.4 b)

pub by_all : (rs : List Response) (hs : List (List ℕ)) (xs : List Answered) → AreResponsesBy rs hs xs → SentBy rs hs xs []
by_all [] hs xs a = memory_part hs xs [] (0, refl)
by_all (r ∷ rs) [] xs a = absurd a
by_all (r ∷ rs) (h ∷ hs) xs a = (a.0, a.1, a.2, a.3, by_all rs hs a.1 a.4)
