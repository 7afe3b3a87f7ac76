-- What a reader has left, one record after the other.
use Rattle.std.proofs.Common.{◌≡◌, ℕ, zero, suc, ◌+◌, ◌<◌, ◌≤◌, Bool, true, false, cond, ◌==◌, List, [], ◌∷◌, ◌++◌, length, Some, None, Option, refl, sym, ap, ◌∙◌, arith, inl, append_assoc, length-append}
use Rattle.csv.specs.Machine.{Read, next_record, step, is_end, ends_at_end, after_end, in_field, start_field, start_record, fields_after, field_after}
use Rattle.std.specs.Prelude.{is_some}
use Rattle.std.specs.Borrow.{Bor}
use Rattle.csv.specs.Reading.{NextIs, ReadRecord, ReadsNext, default_config, pending_of, records, records_from, records_next, took_first}
use Rattle.csv.specs.declared.reader.Reader.{Reader}
use Rattle.csv.specs.declared.parser.Config.{Config}
use Rattle.csv.specs.declared.parser.Terminator.{Terminator}
use Rattle.csv.specs.declared.parser.Terminator.TheVariants as term
use Rattle.csv.specs.declared.parser.State.{State}
use Rattle.csv.specs.declared.parser.State.TheVariants as st
use Rattle.csv.specs.declared.parser.Action.{Action}
use Rattle.csv.specs.declared.parser.Action.TheVariants as act
use Rattle.std.specs.Prelude.{codes}
use Rattle.std.specs.List.{flat_map}
use Rattle.cs_model_sources.specs.Translated.{translated}
use Rattle.cs_model_sources.specs.CsvSources.{column, document_line, field_in}
use Rattle.cs_more.specs.declared.header.HeaderColumns.{HeaderColumns}
use Rattle.cs_more.specs.RecordsLeft.{StandsBetween, bytes_left, record_line, records_left, records_behind}

-- a step that ends the record leaves a state between records
record Good (p : State × Action) : Type 0 where
  holds : is_end p.1 ≡ true → ends_at_end p.0 ≡ false

good_if : (b : Bool) (x y : State × Action) → Good x → Good y → Good (cond b x y)
good_if true x y g h = g
good_if false x y g h = h

between_if : (b : Bool) → ends_at_end (cond b st.AfterCr st.StartRecord) ≡ false
between_if true = refl
between_if false = refl

good_end : (t : Terminator) (c : ℕ) → Good (after_end t c, act.EndRecord)
good_end term.CRLF c = record { holds = λ _. between_if (c == 13) }
good_end (term.Any t) c = record { holds = λ _. refl }

other : (s : State) (a : Action) → is_end a ≡ false → Good (s, a)
other s a h = record { holds = λ k. let bad : false ≡ true = sym h ∙ k in cc }

good_field : (cfg : Config) (c : ℕ) → Good (in_field cfg c)
good_field cfg c =
    good_if _ _ _ (other st.StartField act.EndField refl) (good_if _ _ _ (good_end cfg.terminator c) (other st.InField act.Copy refl))

good_start : (cfg : Config) (c : ℕ) → Good (start_field cfg c)
good_start cfg c = good_if _ _ _ (other st.InQuoted act.Skip refl) (good_field cfg c)

good_record : (cfg : Config) (c : ℕ) → Good (start_record cfg c)
good_record cfg c = good_if _ _ _ (other st.StartRecord act.Skip refl) (good_if _ _ _ (other st.InComment act.Skip refl) (good_start cfg c))

good_step : (cfg : Config) (s : State) (c : ℕ) → Good (step cfg s c)
good_step cfg st.StartRecord c = good_record cfg c
good_step cfg st.StartField c = good_start cfg c
good_step cfg st.InField c = good_field cfg c
good_step cfg st.InQuoted c = good_if _ _ _ (other st.AfterQuote act.Skip refl) (good_if _ _ _ (other st.InEscape act.Skip refl) (other st.InQuoted act.Copy refl))
good_step cfg st.InEscape c = other st.InQuoted act.Copy refl
good_step cfg st.AfterQuote c = good_if _ _ _ (other st.InQuoted act.Copy refl) (good_field cfg c)
good_step cfg st.InComment c = good_if _ _ _ (other st.StartRecord act.Skip refl) (other st.InComment act.Skip refl)
good_step cfg st.AfterCr c = good_if _ _ _ (other st.StartRecord act.Skip refl) (good_record cfg c)

-- a record that was read ends between records and took a byte
pub record Takes (rest : List ℕ) (w : Read) : Type 0 where
  pub between : ends_at_end w.1 ≡ false
  pub shorter : length w.2 ≤ length rest

at_end : (b : Bool) (w v : Read) → v.1 ≡ st.StartRecord → v.2 ≡ [] → cond b (Some v) None ≡ Some w → Takes [] w
at_end true w v e f h =
    let same : v ≡ w = cc in
    record { between = ap (λ (x : Read). ends_at_end x.1) (sym same) ∙ ap ends_at_end e; shorter = omega (arith, ap (λ (x : Read). length x.2) (sym same) ∙ ap length f) }
at_end false w v e f h = (cc)

takes_at : (b : Bool) (cfg : Config) (s : State) (f : List (List ℕ)) (p : List ℕ) (c : ℕ) (rest : List ℕ) (w : Read) → is_end (step cfg s c).1 ≡ b
    → next_record cfg s f p (c ∷ rest) ≡ Some w
    → (next_record cfg (step cfg s c).0 (fields_after (step cfg s c).1 f p) (field_after (step cfg s c).1 c p) rest ≡ Some w → Takes rest w) → Takes rest w
unfolding next_record
takes_at true cfg s f p c rest w is h later =
    let h' : Some (fields_after (step cfg s c).1 f p, (step cfg s c).0, rest) ≡ Some w = rw is at h in
    let v : Read = (fields_after (step cfg s c).1 f p, (step cfg s c).0, rest) in
    let same : v ≡ w = cc in
    record { between = ap (λ (x : Read). ends_at_end x.1) (sym same) ∙ (good_step cfg s c).holds is; shorter = omega (arith, ap (λ (x : Read). length x.2) (sym same)) }
takes_at false cfg s f p c rest w is h later = later (rw is at h)

longer : (d : ℕ) (more : List ℕ) (w : Read) → Takes more w → Takes (d ∷ more) w
longer d more w t = record { between = t.between; shorter = omega (arith, t.shorter) }

pub takes : (cfg : Config) (s : State) (f : List (List ℕ)) (p : List ℕ) (c : ℕ) (rest : List ℕ) (w : Read) → next_record cfg s f p (c ∷ rest) ≡ Some w → Takes rest w
unfolding next_record
takes cfg s f p c [] w h = takes_at _ cfg s f p c [] w refl h (λ h'. at_end (ends_at_end (step cfg s c).0) w (fields_after (step cfg s c).1 f p ++ (field_after (step cfg s c).1 c p ∷ []), st.StartRecord, []) refl refl h')
takes cfg s f p c (d ∷ more) w h = takes_at _ cfg s f p c (d ∷ more) w refl h (λ h'. longer d more w (takes cfg (step cfg s c).0 (fields_after (step cfg s c).1 f p) (field_after (step cfg s c).1 c p) d more w h'))

none_left : (cfg : Config) (s : State) (w : Read) → ends_at_end s ≡ false → next_record cfg s [] [] [] ≡ Some w → ⊥
unfolding next_record
none_left cfg s w e h = let h' : None ≡ Some w = rw e at h in cc

-- between records a record is read of a byte or more, and fewer bytes are left
pub taken : (s : State) (xs : List ℕ) (w : Read) → ends_at_end s ≡ false → next_record default_config s [] [] xs ≡ Some w → (ends_at_end w.1 ≡ false) × (length w.2 < length xs)
taken s [] w e h = absurd (none_left default_config s w e h)
taken s (c ∷ rest) w e h = let t = takes default_config s [] [] c rest w h in (t.between, omega (arith, t.shorter))

-- more turns than bytes give no further record
same_turns : (m n : ℕ) (s : State) (xs : List ℕ) → ends_at_end s ≡ false → length xs < m → length xs < n → records_from default_config m s xs ≡ records_from default_config n s xs
unfolding records_from
same_turns zero n s xs e l k = absurd (omega arith)
same_turns (suc m) zero s xs e l k = absurd (omega arith)
same_turns (suc m) (suc n) s xs e l k = (elim (next_record default_config s [] [] xs) as (λ o. next_record default_config s [] [] xs ≡ o → records_next (records_from default_config m) o ≡ records_next (records_from default_config n) o) [
  | None ↦ λ h. refl
  | Some w ↦ λ h. let t = taken s xs w e h in ap (λ rest. w.0 ∷ rest) (same_turns m n w.1 w.2 t.0 (omega (arith, t.1, l)) (omega (arith, t.1, k)))
]) refl

-- where no record is read, none is left
pub rows-none : (s : State) (xs : List ℕ) → next_record default_config s [] [] xs ≡ None → records_behind s (Some xs) ≡ []
unfolding records_from
rows-none s xs h = let next : length xs + 1 ≡ suc (length xs) = omega arith in ap (λ n. records_from default_config n s xs) next ∙ ap (records_next (records_from default_config (length xs))) h

-- where one is read, it is the first one left
pub rows-some : (s : State) (xs : List ℕ) (w : Read) → ends_at_end s ≡ false → next_record default_config s [] [] xs ≡ Some w → records_behind s (Some xs) ≡ w.0 ∷ records_behind w.1 (Some w.2)
unfolding records_from
rows-some s xs w e h =
    let t = taken s xs w e h in
    let next : length xs + 1 ≡ suc (length xs) = omega arith in
    ap (λ n. records_from default_config n s xs) next ∙ ap (records_next (records_from default_config (length xs))) h ∙ ap (λ rest. w.0 ∷ rest) (same_turns (length xs) (length w.2 + 1) w.1 w.2 t.0 t.1 (omega arith))

-- ---- a read of a reader
pub record Reads (a b : Reader (Bor (List ℕ))) (found : Bool) (f : List (List ℕ)) : Type 0 where
  pub left : records_left a ≡ cond found (f ∷ records_left b) []
  pub stands : found ≡ true → StandsBetween b

one_read : (o : Option Read) (f : List (List ℕ)) (t : State) (ys : List ℕ) → NextIs o true f t ys → (w : Read) × (o ≡ Some w) × (f ≡ w.0) × (t ≡ w.1) × (ys ≡ w.2)
one_read None f t ys n = cc n
one_read (Some w) f t ys n = (w, refl, n.1, n.2, n.3)

none_read : (o : Option Read) (f : List (List ℕ)) (t : State) (ys : List ℕ) → NextIs o false f t ys → o ≡ None
none_read None f t ys n = refl
none_read (Some w) f t ys n = cc n.0

read_of : (s t : State) (x y : Option (List ℕ)) (found : Bool) (f : List (List ℕ)) → ends_at_end s ≡ false → is_some x ≡ true → ReadsNext default_config s x y found f t
    → (records_behind s x ≡ cond found (f ∷ records_behind t y) []) × (found ≡ true → (ends_at_end t ≡ false) × (is_some y ≡ true))
read_of s t None y found f e k r = cc
read_of s t (Some xs) None found f e k r = absurd r
read_of s t (Some xs) (Some ys) true f e k r =
    let n = one_read (next_record default_config s [] [] xs) f t ys r in
    let w = n.0 in
    let c = taken s xs w e n.1 in
    let left : records_behind t (Some ys) ≡ records_behind w.1 (Some w.2) = ap (λ q. records_behind q (Some ys)) n.3 ∙ ap (λ zs. records_behind w.1 (Some zs)) n.4 in
    (rows-some s xs w e n.1 ∙ ap (λ x. x ∷ records_behind w.1 (Some w.2)) (sym n.2) ∙ ap (λ more. f ∷ more) (sym left), λ h. (ap ends_at_end n.3 ∙ c.0, refl))
read_of s t (Some xs) (Some ys) false f e k r = (rows-none s xs (none_read (next_record default_config s [] [] xs) f t ys r), λ h. cc)

pub row_read : (a b : Reader (Bor (List ℕ))) (found : Bool) (f : List (List ℕ)) → StandsBetween a → ReadRecord (λ (s : Bor (List ℕ)). Some s.now) a b found f → took_first b ≡ true → b.flexible ≡ a.flexible → Reads a b found f
row_read a b found f s r first alike =
    let p = read_of a.state b.state (bytes_left a) (pending_of (Some b.rdr.now) b) found f s.between s.known (rw s.config at r.0) in
    let same : bytes_left b ≡ pending_of (Some b.rdr.now) b = rw r.1 refl in
    record {
      left = rw same p.0;
      stands = λ h. record { trim = r.3 ∙ s.trim; flexible = alike ∙ s.flexible; ready = inl first; config = r.2 ∙ s.config; between = (p.1 h).0; known = rw same (p.1 h).1 };
    }

-- a reader that has just been made
pub rows-fresh : (rdr : Reader (Bor (List ℕ))) (xs : List ℕ) → rdr.state ≡ st.StartRecord → bytes_left rdr ≡ Some xs → records_left rdr ≡ records default_config xs
rows-fresh rdr xs s k = rw (s, k) refl

-- ---- the loop over records
-- one record more
pub line_more : (c : HeaderColumns) (whole old new : List ℕ) (row : List (List ℕ)) (left before : List (List (List ℕ))) → before ≡ row ∷ left → new ≡ old ++ record_line c row
    → whole ≡ old ++ flat_map (record_line c) before → whole ≡ new ++ flat_map (record_line c) left
line_more c whole old new row left before b n w =
    w ∙ ap (λ rs. old ++ flat_map (record_line c) rs) b ∙ sym (append_assoc old (record_line c row) (flat_map (record_line c) left)) ∙ ap (λ xs. xs ++ flat_map (record_line c) left) (sym n)

-- with one record there are too many bytes
pub line_too_long : (c : HeaderColumns) (most : ℕ) (whole old : List ℕ) (row : List (List ℕ)) (left before : List (List (List ℕ))) → before ≡ row ∷ left
    → whole ≡ old ++ flat_map (record_line c) before → most < length (old ++ record_line c row) → most < length whole
line_too_long c most whole old row left before b w l =
    let is = line_more c whole old (old ++ record_line c row) row left before b refl w in
    let size = length-append (old ++ record_line c row) (flat_map (record_line c) left) in
    omega (arith, ap length is, size, l)

-- the columns of a header
pub lines_same : (names : List (List ℕ)) (c : HeaderColumns) (rows : List (List (List ℕ))) → c.title ≡ column (codes "title") names → c.facets ≡ column (codes "facets") names → c.text ≡ column (codes "text") names
    → flat_map (record_line c) rows ≡ flat_map (document_line names) rows
unfolding record_line document_line
lines_same names c [] t f x = refl
lines_same names c (r ∷ rs) t f x =
    ap (λ p. translated (field_in r p) (field_in r c.facets) (field_in r c.text) ++ flat_map (record_line c) rs) t
    ∙ ap (λ p. translated (field_in r (column (codes "title") names)) (field_in r p) (field_in r c.text) ++ flat_map (record_line c) rs) f
    ∙ ap (λ p. translated (field_in r (column (codes "title") names)) (field_in r (column (codes "facets") names)) (field_in r p) ++ flat_map (record_line c) rs) x
    ∙ ap (λ ls. document_line names r ++ ls) (lines_same names c rs t f x)

pub line_of_fields : (c : HeaderColumns) (r : List (List ℕ)) (t f x : List ℕ) → t ≡ field_in r c.title → f ≡ field_in r c.facets → x ≡ field_in r c.text → translated t f x ≡ record_line c r
unfolding record_line
line_of_fields c r t f x e g h = rw (e, g, h) refl
