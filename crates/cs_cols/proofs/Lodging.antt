-- `lodge` and `dislodge` at a call, for a column of unsigned numbers of a width. Assumes `Logic`.
--
--   Kind, number, byte            a width, with the laws of its numbers; the two that columns have
--   Column, column-laws           a column that lies in memory of another's, and its laws
--   Lodges, at_lodge, lodge_goes, lodge_gives      `lodge` of an empty column, what it is handed, and what a caller has of it
--   Dislodges, at_dislodge, dislodge_goes, dislodge_gives      the same of `dislodge`, which leaves the room
use Rattle.std.proofs.Common.{◌≡◌, ℕ, ◌+◌, ◌-◌, ◌*◌, ◌^◌, ◌<◌, ◌≤◌, List, [], ◌∷◌, refl, sym, ap, ◌∙◌, arith, Vec}
use lib.Dec.{lit<}
use seplogic.Ra.Ura.{Ura}
use mir.Syntax.{Ty, Width, w8, w32, w64, ty_int, ty_array}
use mir.Val.{Val, vint, vptr, bytes}
use base.Fraction.{full_share}
use base.Logic.{SProp, ent, ex, guard, emp, never, id⊢}
use base.Fml.{ftrue, fsep, flft, froom}
use prog.Memory.{Memory}
use prog.Routine.{Routine}
use contract.Monad.{Fun, fact, fact_i}
use contract.BorrowLft.{◌⊑◌, ⊑_refl}
use types.Logic.{Logic, sem}
use types.Kit.{‵, raw, ◌⊛◌, some, later, ◌$◌, ◌∵◌, !, qed, move, keep, use0, use1, use2, drop, split, split3, join, pick, fsplit, fjoin, feq_l, feq_i, flt_l, flt_i, rewrite, check, show, await, updating, now, done}
use denote.Exit.{no, left}
use denote.RattleType.{RattleType}
use denote.Builtin.{usize}
use denote.Plain.{UInt}
use denote.Array.{Array}
use denote.Memory.{part_at}
use denote.Param.{param}
use denote.Param.Laws.{Laws, of_field}
use denote.Param.Shared.{copy_shared}
use denote.RawPtr.{block_ptr, null_ptr, room_for, in_a_block}
use denote.Steps.{only, nothing, heard}
use denote.Struct.Field.{u8-field, u32-field}
use denote.Struct.Laws.{u8-laws, u8-copy, u32-laws, u32-copy}
use denote.Triple.Spec.{triple_of}
use denote.Triple.Statement.{Contract}
use Rattle.std_alloc.specs.Vec.Ownership.{lodged}
use Rattle.std_alloc.specs.declared.vec.lodged.Lodged.{Lodged}
use Rattle.std_alloc.specs.contracts.vec.Vec as V
use Rattle.std_alloc.specs.contracts.vec.lodged.Lodged as L
use Rattle.std_alloc.specs.contracts.vec.lodged.LodgedAllocator.TheImpl.{ghosts}
use Rattle.std_alloc.specs.contracts.vec.lodge as LG
use Rattle.std_alloc.specs.contracts.vec.lodged.Vec+T+Lodged.dislodge as DL
use Rattle.std_alloc.proofs.vec.Vec.TheLaws as vec_laws
use Rattle.std_alloc.proofs.vec.lodged.Lodged.TheLaws as lodged-laws
use Rattle.std_alloc.proofs.VecSteps.El.{El, no_al}
use Rattle.std_alloc.proofs.VecSteps.Rows.{all_room, empty}
use Rattle.std_alloc.proofs.VecSteps.Opens.{blk_out, blk_in}

-- a width, with the laws of its numbers
pub record Kind : Type 2 where
  pub width : Width
  pub laws : Laws (UInt width)

abbrev pub number : Kind
number = record { width = w32; laws = of_field u32-field u32-laws refl (copy_shared u32-field u32-copy) }

abbrev pub byte : Kind
byte = record { width = w8; laws = of_field u8-field u8-laws refl (copy_shared u8-field u8-copy) }

module _ (k : Kind) where
  abbrev pub Column : RattleType
  Column = V.the_row (UInt k.width) L.the_row ghosts

  abbrev pub column-laws : Laws Column
  column-laws = vec_laws.the_row_laws (UInt k.width) L.the_row ghosts k.laws lodged-laws.the_row_laws

  abbrev E : El
  E = record { row = UInt k.width; laws = k.laws; al = no_al }

  abbrev pub entries : ℕ → Ty
  entries n = ty_array (ty_int k.width) n

module _ (k : Kind) {M : Type 1} {𝓤 : Ura M} (𝓛 : Logic 𝓤) (b o c : ℕ) (pos : 0 < c) where
  open 𝓛 use {H}

  -- room for c entries is a column of none
  of_room : c * bytes k.width < 2 ^ 63 → ent 𝓤 (H.room (entries k c) b o) (sem 𝓛 (lodged (UInt k.width) (block_ptr b o) 0 c []))
  of_room fit =
      let same : c ≡ c - 0 = omega arith in
      let start : o ≡ o + 0 * bytes k.width = omega arith in
      qed 𝓛 (‵ (froom (entries k c) b o) ∷ []) ∵
      rewrite ! 0 (λ (z : ℕ × ℕ). ‵ (froom (entries k z.0) b z.1)) {x = (c - 0, o + 0 * bytes k.width)} (λ i. (same i, start i)) refl $ nothing ! $ move ! (1 ∷ 0 ∷ []) $
      use0 𝓛 (‵ (part_at (Array (UInt k.width) 0) full_share [] b o)) (empty (E k) 𝓛 [] b o refl) $ blk_in (E k) ! tt b o 0 c [] pos $ flt_i ! (c * bytes k.width) (2 ^ 63) fit $ fjoin ! $ done !

  -- a column is room
  to_room : (n : ℕ) (xs : List ℕ) → n ≤ c → ent 𝓤 (sem 𝓛 (lodged (UInt k.width) (block_ptr b o) n c xs)) (H.room (entries k c) b o)
  to_room n xs le =
      qed 𝓛 (‵ (lodged (UInt k.width) (block_ptr b o) n c xs) ∷ []) ∵ fsplit ! $ drop ! $ blk_out (E k) ! tt b o n c xs pos $ keep ! (0 ∷ 1 ∷ []) $
      use2 𝓛 (‵ (froom (entries k c) b o)) (all_room (E k) 𝓛 b o n c xs le) $ done !

module _ (k : Kind) {M : Type 1} {𝓤 : Ura M} (𝓛 : Logic 𝓤) (at_mem : Memory → SProp 𝓤) (run : Routine → Fun 𝓤) where
  open 𝓛 use {H}

  abbrev pub Lodges : Contract 𝓤
  Lodges = triple_of 𝓛 (LG.signature (UInt k.width)) (LG.spec (UInt k.width) 𝓛 at_mem run)

  abbrev pub Dislodges : Contract 𝓤
  Dislodges = triple_of 𝓛 (DL.signature (UInt k.width)) (DL.spec (UInt k.width) 𝓛 at_mem run)

  module _ (b o c : ℕ) where
    abbrev pub at_lodge : Lodges.Ghost
    at_lodge = ((([], tt), (full_share, tt), tt, (block_ptr b o, (0, (c, tt))), (vptr b o ∷ [], (vint w64 0 ∷ [], (vint w64 c ∷ [], tt)))), [])

    abbrev pub IsLodged : Vec ℕ Lodged → Type 0
    IsLodged r = (r.items ≡ []) × (r.len ≡ 0) × (r.cap ≡ c) × (r.ptr ≡ block_ptr b o)

    pub lodge_goes : 0 < c → c < 2 ^ 63 → c * bytes k.width < 2 ^ 63 → ent 𝓤 (H.room (entries k c) b o) (Lodges.pre at_lodge)
    lodge_goes pos small fit =
        let Asked : Type 0 = (0 ≡ 0) × (0 ≤ c) × (c < 2 ^ 63) in
        qed 𝓛 (‵ (froom (entries k c) b o) ∷ []) ∵ use1 𝓛 (‵ (lodged (UInt k.width) (block_ptr b o) 0 c [])) (of_room k 𝓛 b o c pos fit) $
        use0 𝓛 (raw (fact 𝓤 Asked)) (fact_i 𝓤 Asked (emp 𝓤) (refl, omega arith, small)) $ join ! $
        use0 𝓛 (raw (fact 𝓤 ([] ⊑ []))) (fact_i 𝓤 ([] ⊑ []) (emp 𝓤) (⊑_refl [])) $ join ! $
        nothing ! $ flt_i ! c (2 ^ 64) (omega arith) $ feq_i ! (List Val) (vint w64 c ∷ []) (vint w64 c ∷ []) refl $ fjoin ! $ fjoin ! $
        flt_i ! 0 (2 ^ 64) (lit< tt) $ feq_i ! (List Val) (vint w64 0 ∷ []) (vint w64 0 ∷ []) refl $ fjoin ! $ fjoin ! $
        feq_i ! (List Val) (vptr b o ∷ []) (vptr b o ∷ []) refl $ fjoin ! $ nothing ! $ use0 𝓛 (‵ (flft [] full_share)) (𝓛.lfts.lft-nil full_share) $ join ! $ join ! $ done !

    pub lodge_gives : (v : Val) → ent 𝓤 (Lodges.post at_lodge v) (H.⇛ (ex 𝓤 (λ (r : Vec ℕ Lodged). guard 𝓤 (IsLodged r) (sem 𝓛 ((Column k).own_val r (v ∷ []))))))
    lodge_gives v =
        qed 𝓛 (raw (Lodges.post at_lodge v) ∷ []) ∵ updating ! $
        use1 𝓛 (later (some (λ (r : Vec ℕ Lodged). ((‵ (flft [] full_share) ⊛ ‵ ftrue) ⊛ ‵ ((Column k).own_val r (v ∷ [])))
        ⊛ some (λ (ws : Unit {0} × (Unit {0} × (Unit {0} × Unit {0}))). ‵ (fsep ftrue (fsep ftrue (fsep ftrue ftrue))) ⊛ raw (fact 𝓤 (IsLodged r)))))) (id⊢ 𝓤 _) $ await ! tt $ pick ! (λ r.
        split ! $ move ! (1 ∷ []) $ pick ! (λ ws. split ! $ drop ! $ heard ! (IsLodged r) (λ is. split ! $ drop ! $ now ! $
        show ! (λ (z : Vec ℕ Lodged). guard 𝓤 (IsLodged z) (sem 𝓛 ((Column k).own_val z (v ∷ [])))) r $ check ! is $ done !)))

  nowhere : (d : Vec ℕ Lodged) → ent 𝓤 (sem 𝓛 (lodged (UInt k.width) null_ptr d.len d.cap d.items)) (never 𝓤)
  nowhere d = qed 𝓛 (‵ (lodged (UInt k.width) null_ptr d.len d.cap d.items) ∷ []) ∵ fsplit ! $ drop ! $ done !

  module _ (d : Vec ℕ Lodged) (u : Val) where
    abbrev pub at_dislodge : Dislodges.Ghost
    at_dislodge = ((([], tt), (full_share, tt), tt, (d, tt), (u ∷ [], tt)), tt)

    pub dislodge_goes : ent 𝓤 (sem 𝓛 ((Column k).own_val d (u ∷ []))) (Dislodges.pre at_dislodge)
    dislodge_goes =
        qed 𝓛 (‵ ((Column k).own_val d (u ∷ [])) ∷ []) ∵ nothing ! $ use0 𝓛 (raw (fact 𝓤 ([] ⊑ []))) (fact_i 𝓤 ([] ⊑ []) (emp 𝓤) (⊑_refl [])) $ join ! $
        nothing ! $ move ! (2 ∷ 0 ∷ []) $ fjoin ! $ nothing ! $ use0 𝓛 (‵ (flft [] full_share)) (𝓛.lfts.lft-nil full_share) $ join ! $ join ! $ done !

    pub dislodge_gives : 0 < d.cap → (v : Val) → ent 𝓤 (Dislodges.post at_dislodge v) (H.⇛ (guard 𝓤 ((v ≡ vint w64 d.len) × (d.len < 2 ^ 64)) (sem 𝓛 (room_for (entries k d.cap) d.ptr))))
    dislodge_gives pos v =
        qed 𝓛 (raw (Dislodges.post at_dislodge v) ∷ []) ∵ updating ! $
        use1 𝓛 (later (some (λ (r : ℕ). ((‵ (flft [] full_share) ⊛ ‵ ftrue) ⊛ ‵ (usize.own_val r (v ∷ [])))
        ⊛ some (λ (ws : Unit {0} × Unit {0}). ‵ (fsep (left ((V.the_row (param 0 (UInt k.width)) L.the_row ghosts).exit no) d ws.0) ftrue) ⊛ raw (fact 𝓤 (r ≡ d.len)) ⊛ ‵ (lodged (UInt k.width) d.ptr d.len d.cap d.items))))) (id⊢ 𝓤 _) $ await ! tt $ pick ! (λ r.
        split ! $ move ! (1 ∷ []) $ pick ! (λ ws. split3 ! $ drop ! $ heard ! (r ≡ d.len) (λ is. move ! (1 ∷ []) $ split ! $ drop ! $ fsplit ! $ feq_l ! (λ e. flt_l ! (λ f. now ! $
        check ! (ap only e ∙ ap (vint w64) is, omega arith) $
        in_a_block ! d.ptr (λ p. lodged (UInt k.width) p d.len d.cap d.items) (nowhere d) (λ b o at.
        use1 𝓛 (‵ (froom (entries k d.cap) b o)) (to_room k 𝓛 b o d.cap pos d.len d.items d.ok.1) $
        rewrite ! 0 (λ p. ‵ (room_for (entries k d.cap) p)) (sym at) refl $ done !))))))
