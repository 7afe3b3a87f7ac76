-- A write of one name: what it leaves of the other names, and what of the bytes of its own.
use Rattle.std.proofs.Common.{◌≡◌, ◌⊎◌, inl, inr, ℕ, false, true, List, ◌++◌, cond, refl, sym, ◌∙◌, ap, subst}
use Rattle.std.specs.Prelude.{Option, Some, None, Result, Ok, Err, OnOk, OnErr, take}
use Rattle.std.specs.Option.{option_map, is_some, ForSome}
use Rattle.std.specs.FinMap.{get, insert}
use Rattle.std.proofs.lemmas.Option.{none-some, same_Some}
use Rattle.cs_base.specs.outside.Outside.{File, Held, Sets, Grew, bytes_of, file_bytes, appended, finished, empty_file, whole_file, but_for, is_file_finished}
use Rattle.cs_base.proofs.NameMaps.{get_after, name_itself, overwritten}

-- what a name holds behind a write of it
pub get_itself : (h : Held) (n : List ℕ) (f : File) → get (insert h n f) n ≡ Some f
get_itself h n f = get_after h n f n ∙ ap (λ b. cond b (Some f) (get h n)) (name_itself n)

-- a name is held behind a write of it
pub held_after : (old new : Option Held) (n : List ℕ) (f : Option File → File) → Sets old n f new → ForSome new (λ h. is_some (get h n) ≡ true)
held_after None new n f e h is = absurd (none-some h (sym e ∙ is))
held_after (Some h0) new n f e h is =
    subst (λ x. is_some (get x n) ≡ true) (same_Some _ _ (sym e ∙ is)) (ap (λ o. is_some o) (get_itself h0 n (f (get h0 n))))

-- a name holds no finished file behind a write of one that isn't finished
pub open_after : (old new : Option Held) (n : List ℕ) (f : Option File → File) → ((o : Option File) → (f o).finished ≡ false) → Sets old n f new
    → ForSome new (λ h. is_file_finished (get h n) ≡ false)
open_after None new n f u e h is = absurd (none-some h (sym e ∙ is))
open_after (Some h0) new n f u e h is =
    subst (λ x. is_file_finished (get x n) ≡ false) (same_Some _ _ (sym e ∙ is)) (ap (λ o. is_file_finished o) (get_itself h0 n (f (get h0 n))) ∙ u (get h0 n))

-- a file that is appended to grows
pub grew : (old new : Option Held) (n b : List ℕ) → Sets old n (appended b) new → Grew (file_bytes old n) b (file_bytes new n)
grew None new n b e = ap (λ o. file_bytes o n) e
grew (Some h) new n b e = ap (λ o. file_bytes o n) e ∙ ap (λ f. Some (bytes_of f)) (get_itself h n (appended b (get h n)))

-- a write of a name leaves the others
pub others_after : (old new : Option Held) (n : List ℕ) (f : Option File → File) → Sets old n f new → but_for n new ≡ but_for n old
others_after None new n f e = ap (but_for n) e
others_after (Some h) new n f e = ap (but_for n) e ∙ ap (λ m. Some m) (overwritten h n (f (get h n)) empty_file)

-- a file that is made, grows by b and is finished holds b
pub saved : (old made grown new : Option Held) (n b : List ℕ) → Sets old n (λ _. empty_file) made → Grew (file_bytes made n) b (file_bytes grown n)
    → but_for n grown ≡ but_for n made → Sets grown n finished new → Sets old n (λ _. whole_file b) new
saved None made None new n b m g o f = f
saved None made (Some k) new n b m g o f = absurd (none-some _ (sym (ap (but_for n) m) ∙ sym o))
saved (Some h) made None new n b m g o f = absurd (none-some _ (o ∙ ap (but_for n) m))
saved (Some h) made (Some k) new n b m g o f =
    let bytes : bytes_of (get k n) ≡ b = same_Some _ _ (g ∙ ap (λ x. option_map (λ w. w ++ b) (file_bytes x n)) m ∙ ap (λ x. Some (bytes_of x ++ b)) (get_itself h n empty_file)) in
    let rest : insert k n empty_file ≡ insert h n empty_file = same_Some _ _ (o ∙ ap (but_for n) m) ∙ overwritten h n empty_file empty_file in
    f ∙ ap (λ m. Some m) (ap (λ x. insert k n (whole_file x)) bytes
    ∙ sym (overwritten k n empty_file (whole_file b)) ∙ ap (λ m. insert m n (whole_file b)) rest ∙ overwritten h n empty_file (whole_file b))

-- a call that creates, appends or finishes, whichever way it ends
module _ (old new : Option Held) (n : List ℕ) where
  pub others_made : {T E : Type 0} (r : Result T E) → OnOk r (Sets old n (λ _. empty_file) new) → OnErr r ((new ≡ old) ⊎ Sets old n (λ _. empty_file) new) → but_for n new ≡ but_for n old
  others_made (Ok x) ok err = others_after old new n (λ _. empty_file) ok
  others_made (Err y) ok (inl e) = ap (but_for n) e
  others_made (Err y) ok (inr e) = others_after old new n (λ _. empty_file) e

  pub others_finished : {T E : Type 0} (r : Result T E) → OnOk r (Sets old n finished new) → OnErr r (new ≡ old) → but_for n new ≡ but_for n old
  others_finished (Ok x) ok err = others_after old new n finished ok
  others_finished (Err y) ok err = ap (but_for n) err

  module _ (b : List ℕ) where
    pub held_appended : {T E : Type 0} (r : Result T E) → OnOk r (Sets old n (appended b) new) → OnErr r ((k : ℕ) × Sets old n (appended (take k b)) new) → ForSome new (λ h. is_some (get h n) ≡ true)
    held_appended (Ok x) ok err = held_after old new n (appended b) ok
    held_appended (Err y) ok err = held_after old new n (appended (take err.0 b)) err.1

    pub open_appended : {T E : Type 0} (r : Result T E) → OnOk r (Sets old n (appended b) new) → OnErr r ((k : ℕ) × Sets old n (appended (take k b)) new) → ForSome new (λ h. is_file_finished (get h n) ≡ false)
    open_appended (Ok x) ok err = open_after old new n (appended b) (λ _. refl) ok
    open_appended (Err y) ok err = open_after old new n (appended (take err.0 b)) (λ _. refl) err.1

    pub others_appended : {T E : Type 0} (r : Result T E) → OnOk r (Sets old n (appended b) new) → OnErr r ((k : ℕ) × Sets old n (appended (take k b)) new) → but_for n new ≡ but_for n old
    others_appended (Ok x) ok err = others_after old new n (appended b) ok
    others_appended (Err y) ok err = others_after old new n (appended (take err.0 b)) err.1
