-- The place of a name in a list of files.
use Rattle.std.proofs.Common.{◌≡◌, ℕ, zero, suc, ◌<◌, true, false, List, [], ◌∷◌, length, get_or, cond, refl, sym, ◌∙◌, ap, subst, arith}
use Rattle.std.specs.Prelude.{Some, None, map, ◌++◌}
use Rattle.std.specs.Ordering.{nat_cmp}
use Rattle.std.specs.Cmp.Lexicographic.{slice_cmp}
use Rattle.std.specs.Str.{bytes_eq}
use Rattle.std.specs.FinMap.{get, insert}
use Rattle.std.specs.FinMap as fin
use Rattle.std.proofs.lemmas.Cmp.{nat_list_cmp_total}
use Rattle.cs_base.specs.outside.HeldFiles.{named_file, file_of, held_in, IsPlaceOf}
use Rattle.cs_base.specs.declared.outside.mem_files.MemFile.{MemFile}
use Rattle.cs_base.proofs.NameMaps.{get_after, overwritten, swapped, same_name, name_itself, name_sym}

-- none before i has the name
abbrev pub NoneBefore : List MemFile → List ℕ → ℕ → Type 0
NoneBefore fs n i = (k : ℕ) (d : MemFile) → k < i → bytes_eq (get_or fs k d).name n ≡ false

pub found_place : (fs : List MemFile) (n : List ℕ) (i : ℕ) (d : MemFile) → i < length fs → NoneBefore fs n i → bytes_eq (get_or fs i d).name n ≡ true → IsPlaceOf fs n i
found_place [] n i d l before at_i = absurd (omega arith)
found_place (f ∷ fs) n zero d l before at_i =
    let is : f.name ≡ n = same_name f.name n at_i in
    record {
      within = l;
      found = λ e. get_after (held_in fs) f.name (file_of f) n ∙ ap (λ b. cond b (Some (file_of f)) (get (held_in fs) n)) (subst (λ x. bytes_eq n x ≡ true) (sym is) (name_itself n));
      named = λ e. is;
      writes = λ g same. ap (λ x. insert (held_in fs) x (file_of g)) same ∙ sym (ap (λ x. insert (insert (held_in fs) x (file_of f)) n (file_of g)) is ∙ overwritten (held_in fs) n (file_of f) (file_of g));
    }
found_place (f ∷ fs) n (suc i) d l before at_i =
    let rest = found_place fs n i d (omega arith) (λ k e h. before (suc k) e (omega (arith, h))) at_i in
    let other : bytes_eq f.name n ≡ false = before 0 f (omega arith) in
    let other' : bytes_eq n f.name ≡ false = name_sym n f.name ∙ other in
    record {
      within = l;
      found = λ e. get_after (held_in fs) f.name (file_of f) n ∙ ap (λ b. cond b (Some (file_of f)) (get (held_in fs) n)) other' ∙ rest.found e;
      named = λ e. rest.named e;
      writes = λ g same. ap (λ m. insert m f.name (file_of f)) (rest.writes g same) ∙ swapped (held_in fs) n f.name (file_of g) (file_of f) other';
    }

pub no_place : (fs : List MemFile) (n : List ℕ) → NoneBefore fs n (length fs) → get (held_in fs) n ≡ None
no_place [] n before = fin.get-empty (slice_cmp nat_cmp) n
no_place (f ∷ fs) n before =
    let other : bytes_eq f.name n ≡ false = before 0 f (omega arith) in
    let other' : bytes_eq n f.name ≡ false = name_sym n f.name ∙ other in
    get_after (held_in fs) f.name (file_of f) n ∙ ap (λ b. cond b (Some (file_of f)) (get (held_in fs) n)) other'
    ∙ no_place fs n (λ k e h. before (suc k) e (omega (arith, h)))

entries_push : (fs : List MemFile) (f : MemFile) → map named_file (fs ++ f ∷ []) ≡ map named_file fs ++ named_file f ∷ []
entries_push [] f = refl
entries_push (g ∷ fs) f = ap (λ es. named_file g ∷ es) (entries_push fs f)

-- a file whose name is new goes to the end
pub pushed : (fs : List MemFile) (f : MemFile) → get (held_in fs) f.name ≡ None → held_in (fs ++ f ∷ []) ≡ insert (held_in fs) f.name (file_of f)
pushed fs f none =
    ap (λ es. fin.from_entries {R = slice_cmp nat_cmp} es) (entries_push fs f)
    ∙ fin.from_entries_push nat_list_cmp_total (fin.slice_cmp-IsAntisymmetric fin.nat_cmp-IsAntisymmetric) (map named_file fs) f.name (file_of f)
    (sym (fin.get-from_entries nat_list_cmp_total _ _) ∙ none)
