-- A file that is made and written, whichever way the writing ends.
--
--   begun_by     a name was made and holds some first ones of the bytes, whole or not
--   grown_all    bytes that were added whole are some first ones of them
--   made_or_not  a name that should be made is as it was or holds nothing
--   cut_by       so it stands at the ending of a stop of the writing
use Rattle.std.proofs.Common.{◌≡◌, ◌⊎◌, inl, inr, ℕ, Bool, true, false, List, ◌++◌, cond, sym, ◌∙◌, ap, refl, arith}
use Rattle.std.specs.Prelude.{Option, Some, None, length, take}
use Rattle.std.specs.Option.{option_map, is_some, ForSome}
use Rattle.std.specs.FinMap.{get, insert}
use Rattle.std.proofs.lemmas.List.{take_all}
use Rattle.std.proofs.lemmas.Option.{none-some, same_Some}
use Rattle.cs_base.specs.outside.Outside.{File, Held, Sets, Grew, GrewByPrefix, bytes_of, file_bytes, empty_file, but_for, is_file_finished}
use Rattle.std.specs.Str.{bytes_eq}
use Rattle.cs_base.proofs.NameMaps.{get_after, overwritten, same, same_name}
use Rattle.cs_base.proofs.FileLemmas.{get_itself}
use Rattle.cs_model_index.specs.Images.{Image}
use Rattle.cs_model_index.specs.Layout.{file}
use Rattle.cs_indexing.specs.Build.{BuildWrites, IsBegun}
use Rattle.cs_indexing.specs.Views.{IsDevice, stop_ending}
use Rattle.cs_indexing.specs.declared.ending.RunStop.{RunStop}
use Rattle.cs_indexing.specs.declared.ending.RunStop.TheVariants as stops

-- what is held under a name that is held
held_is : (o : Option File) → is_some o ≡ true → (f : File) × (o ≡ Some f)
held_is None e = absurd cc
held_is (Some f) e = (f, refl)

twice : (b : Bool) (x y z : Option File) → cond b x (cond b y z) ≡ cond b x z
twice true x y z = refl
twice false x y z = refl

-- a map in which a name holds a file, and in which all other names are as in another
put_back : (k : Held) (n : List ℕ) (f : File) → get k n ≡ Some f → k ≡ insert (insert k n empty_file) n f
put_back k n f e = same k _ (λ q. sym (get_after (insert k n empty_file) n f q ∙ ap (λ x. cond (bytes_eq q n) (Some f) x) (get_after k n empty_file q) ∙ there q (bytes_eq q n) refl))
  where
    there : (q : List ℕ) (b : Bool) → bytes_eq q n ≡ b → cond b (Some f) (cond b (Some empty_file) (get k q)) ≡ get k q
    there q true t = sym (ap (get k) (same_name q n t) ∙ e)
    there q false t = refl

-- it is begun
pub begun_by : (old made grown : Option Held) (n b : List ℕ) → Sets old n (λ _. empty_file) made → GrewByPrefix (file_bytes made n) b (file_bytes grown n) → but_for n grown ≡ but_for n made
    → ForSome grown (λ h. is_some (get h n) ≡ true) → ForSome grown (λ h. is_file_finished (get h n) ≡ false) → IsBegun old n b grown
begun_by None made None n b m g o h u = inl refl
begun_by None made (Some k) n b m g o h u = absurd (none-some _ (sym (ap (but_for n) m) ∙ sym o))
begun_by (Some h0) made None n b m g o h u = absurd (none-some _ (o ∙ ap (but_for n) m))
begun_by (Some h0) made (Some k) n b m g o h u =
    let f = held_is (get k n) (h k refl) in
    let bytes : bytes_of (get k n) ≡ take g.0 b = same_Some _ _ (g.1 ∙ ap (λ x. option_map (λ w. w ++ take g.0 b) (file_bytes x n)) m ∙ ap (λ x. Some (bytes_of x ++ take g.0 b)) (get_itself h0 n empty_file)) in
    let rest : insert k n empty_file ≡ insert h0 n empty_file = same_Some _ _ (o ∙ ap (but_for n) m) ∙ overwritten h0 n empty_file empty_file in
    inr (f.0, g.0, sym (ap bytes_of f.1) ∙ bytes, sym (ap is_file_finished f.1) ∙ u k refl, ap (λ x. Some x) (put_back k n f.0 f.1 ∙ ap (λ x. insert x n f.0) rest ∙ overwritten h0 n empty_file f.0))

-- a name that should be made
pub made_or_not : (old new : Option Held) (n b : List ℕ) → (new ≡ old) ⊎ Sets old n (λ _. empty_file) new → IsBegun old n b new
made_or_not old new n b (inl e) = inl e
made_or_not old new n b (inr e) = inr (empty_file, 0, refl, refl, e)

-- bytes that were added whole are some first ones of them
pub grown_all : (old : Option (List ℕ)) (b : List ℕ) (new : Option (List ℕ)) → Grew old b new → GrewByPrefix old b new
grown_all old b new e = (length b, e ∙ ap (λ x. option_map (λ w. w ++ x) old) (sym (take_all (length b) b (omega arith))))

-- a run stops so only where a call failed or memory ran out
pub cut_by : (s : RunStop) (h : Held) (i : List ℕ) (x : Image) (now : Option Held) → IsDevice s → IsBegun (Some h) i (file x) now → BuildWrites (stop_ending s) h i x now
cut_by stops.Failed h i x now kind is = is
cut_by stops.Memory h i x now kind is = is
cut_by stops.Usage h i x now kind is = absurd kind
cut_by (stops.Collection f) h i x now kind is = absurd kind
cut_by (stops.Absent n) h i x now kind is = absurd kind
cut_by (stops.Script f) h i x now kind is = absurd kind
cut_by (stops.Damaged rule at) h i x now kind is = absurd kind
cut_by stops.Changed h i x now kind is = absurd kind
cut_by (stops.Merge f) h i x now kind is = absurd kind
