-- `house_numbers` hands the room to `lodge`. Assumes `Logic`.
use Rattle.std.proofs.Common.{◌≡◌, ℕ, ◌*◌, ◌^◌, ◌<◌, List, [], ◌∷◌, ◌++◌, refl, sym, ap, ◌∙◌, subst, arith, Vec}
use seplogic.Ra.Ura.{Ura}
use mir.Syntax.{Callee, a_type, seq, assign, place, rv_opd, copy, return, w64}
use mir.Val.{Val, vint, vptr}
use base.Logic.{SProp, never, id⊢}
use prog.Memory.{Memory}
use prog.Routine.{Routine}
use prog.Wp.{WpFn, Tables}
use contract.Monad.{Fun}
use contract.Running.{tables, tables_of}
use sound.WpLaws.{fm_of}
use types.Logic.{Logic}
use types.Kit.{‵, raw, some, later, given, prop, at_ret, ◌$◌, !, move, drop, use1, pick, learn, fsplit, fjoin, feq_l, flt_l, regoal, rewrite, suffices, await, done}
use types.Run.{enter, returns, first, blocks, exec, of_opd, lit, and_then, no_more}
use types.ByLocal.{alloc_all, pass_all, free_all, look_at, get, sets, lands_last, env}
use denote.Exit.{yes}
use denote.Builtin.{u32, usize}
use denote.Param.{layouts}
use denote.RawPtr.{RawPtr, ptr_val, room_for, in_a_block}
use denote.Signature.{plain}
use denote.Steps.{only, nothing}
use denote.Triple.Call.{calls_at_last}
use denote.Triple.Walked.{says, Stays, walk_of, ends_at}
use Rattle.std.proofs.alloc.Calls.{Goes-blank}
use Rattle.std_alloc.specs.declared.vec.lodged.Lodged.{Lodged}
use Rattle.std_alloc.specs.contracts.vec.lodge.Key.{name as callee_name}
use Rattle.std_alloc.proofs.vec.lodge.Met as callee
use Rattle.cs_cols.proofs.Walks.{Good, none, tells, none_had, dropped, begins, AsCaller, by_walk}
use Rattle.cs_cols.proofs.Lodging.{number, Column, column-laws, entries, Lodges, at_lodge, IsLodged, lodge_goes, lodge_gives}
use Rattle.cs_cols.specs.contracts.rooms.NumberRoom as Room
use Rattle.cs_cols.specs.contracts.rooms.house_numbers as F
use Rattle.cs_cols.specs.contracts.rooms.house_numbers.Key.{name as #self}
use Rattle.cs_cols.proofs.rooms.house_numbers.Statement as stated
use Rattle.cs_cols.proofs.rooms.house_numbers.Code as code

abbrev key : Callee
key = callee_name (layouts (a_type ∷ []) (u32, tt))

abbrev stayed : Stays F.ended.signature.params F.ended.kept
stayed = (dropped RawPtr, (dropped usize, (dropped Room.the_row, tt)))

module _ {M : Type 1} {𝓤 : Ura M} (𝓛 : Logic 𝓤) (at_mem : Memory → SProp 𝓤) (run : Routine → Fun 𝓤) where
  walks : AsCaller 𝓛 F.ended stayed (F.clauses 𝓛 at_mem run) key (Lodges number 𝓛 at_mem run) code.function
  walks C Λ framed called z =
      let p = z.0.3.0 in
      let n = z.0.3.1.0 in
      let room = z.0.3.1.1.0 in
      let Asked = (room.ptr ≡ p) × (room.cap ≡ n) × (0 < n) × (n * 4 < 2 ^ 63) in
      let vss = z.0.4 in
      let held = F.clauses 𝓛 at_mem run in
      let Post = (walk_of 𝓛 F.ended stayed held).post z in
      begins 𝓛 F.ended stayed held z Asked (id⊢ 𝓤 _) (λ asked.
      fsplit ! $ feq_l ! (λ is₀. fsplit ! $ fsplit ! $ feq_l ! (λ is₁. flt_l ! (λ fits. fsplit ! $ fsplit ! $ none_had ! vss.1.1.0 (λ is₂. move ! (1 ∷ []) $ drop ! $
      rewrite ! 0 (λ k. ‵ (room_for (entries number k) room.ptr)) asked.1 refl $
      rewrite ! 0 (λ r. ‵ (room_for (entries number n) r)) asked.0 refl $ in_a_block ! p (λ r. room_for (entries number n) r) (id⊢ 𝓤 (never 𝓤)) (λ b o at.
      let y = at_lodge number 𝓛 at_mem run b o n in
      let small : n < 2 ^ 63 = let few = asked.3 in omega arith in
      let fit : n * 4 < 2 ^ 63 = let few = asked.3 in omega arith in
      regoal ! (λ (us : List Val). prop (WpFn 𝓤 𝓛.H C Λ code.function (us ++ (vss.1.0 ++ (vss.1.1.0 ++ []))) Post)) (is₀ ∙ ap (λ r. ptr_val r ∷ []) at) refl $
      regoal ! (λ (us : List Val). prop (WpFn 𝓤 𝓛.H C Λ code.function ((vptr b o ∷ []) ++ (us ++ (vss.1.1.0 ++ []))) Post)) is₁ refl $
      regoal ! (λ (us : List Val). prop (WpFn 𝓤 𝓛.H C Λ code.function ((vptr b o ∷ []) ++ ((vint w64 n ∷ []) ++ (us ++ []))) Post)) is₂ refl $
      enter ! C Λ code.function (vptr b o ∷ vint w64 n ∷ none ∷ []) Post $ alloc_all ! (λ l. pass_all ! refl ((tt, tt), ((tt, record { fits = fits }), ((tt, tt), tt))) $
      first ! $ blocks ! $ use1 𝓛 (raw ((Lodges number 𝓛 at_mem run).pre y)) (lodge_goes number 𝓛 at_mem run b o n asked.2 small fit) $
      calls_at_last ! framed (Lodges number 𝓛 at_mem run) called y (and_then ! (get ! refl) (and_then ! (lit ! tt) (and_then ! (get ! refl) (no_more !)))) (λ v.
      use1 𝓛 (later (some (λ (r : Vec ℕ Lodged). given (IsLodged number 𝓛 at_mem run b o n r) (‵ ((Column number).own_val r (v ∷ [])))))) (lodge_gives number 𝓛 at_mem run b o n v) $
      await ! tt $ pick ! (λ r. learn ! (λ is. tells ! (Column number) (column-laws number) r (v ∷ []) (λ u same good.
      let fine : Good (Column number) v = subst (Good (Column number)) (sym (ap only same)) good in
      rewrite ! 0 (λ t. ‵ ((Column number).own_val r (t ∷ []))) (sym (ap only same)) refl $ lands_last ! refl fine $
      exec ! C Λ (env (code.function).locals l) (seq (assign (place 0 []) (rv_opd (copy (place 4 [])))) return) (at_ret (env (code.function).locals l) Post) $
      sets ! (of_opd ! (get ! refl)) refl fine $
      returns ! (look_at ! 0 refl) $ free_all ! refl $
      suffices ! _ (ends_at 𝓛 F.ended stayed held z v r (tt, (tt, (tt, tt))) (tt, (tt, (tt, tt)))) $ says ! (is.0, is.1, is.2, is.3 ∙ sym at) $
      nothing ! $ nothing ! $ fjoin ! $ nothing ! $ fjoin ! $ nothing ! $ fjoin ! $ move ! (2 ∷ 0 ∷ 1 ∷ []) $ done !)))))))))))

pub house_numbers_spec : {M : Type 1} → stated.statement M
unfolding tables_of
house_numbers_spec 𝓤 𝓛 𝓜 𝓡 wired =
    let 𝓣 : Tables 𝓤 𝓛.H = tables_of 𝓤 𝓛.H 𝓜 (tables 𝓤 𝓛.H 𝓜 𝓡 𝓡.env) in
    by_walk 𝓛 F.ended stayed (F.clauses 𝓛 𝓜.mem 𝓡.returns)
    (Goes-blank 𝓛 0 (plain (λ _. RawPtr)) yes (λ κs x f. tt), (Goes-blank 𝓛 0 (plain (λ _. usize)) yes (λ κs x f. tt), (Goes-blank 𝓛 0 (plain (λ _. Room.the_row)) yes (λ κs x f. tt), tt)))
    #self code.function 𝓣 (code.unfolded 𝓤 𝓛.H 𝓜 𝓡 wired)
    (walks 𝓛 𝓜.mem 𝓡.returns 𝓣.C 𝓣.Λ (fm_of 𝓤 𝓛.H 𝓛.laws 𝓣)
    (callee.met 𝓤 𝓛 𝓜 𝓡 (code.calls-std_alloc::vec::lodge 𝓡.env wired) u32 number.laws))
