-- `vacate_bytes` takes the room from `dislodge`. Assumes `Logic`.
use Rattle.std.proofs.Common.{◌≡◌, ◌^◌, ◌<◌, List, [], ◌∷◌, ◌++◌, refl}
use seplogic.Ra.Ura.{Ura}
use mir.Syntax.{Callee, a_type, w64}
use mir.Val.{Val, vint}
use base.Logic.{SProp, id⊢}
use prog.Memory.{Memory}
use prog.Routine.{Routine}
use prog.Wp.{WpFn, Tables}
use contract.Monad.{Fun}
use contract.Running.{tables, tables_of}
use sound.WpLaws.{fm_of}
use types.Logic.{Logic}
use types.Kit.{‵, raw, later, given, prop, ◌$◌, !, move, drop, use1, learn, fsplit, fjoin, regoal, suffices, await, done}
use types.Part.{agg}
use types.Run.{enter, returns, of_opd, and_then, no_more}
use types.ByLocal.{alloc_all, pass_all, free_all, look_at, get, sets, lands_as}
use denote.Exit.{yes}
use denote.Builtin.{u8}
use denote.Param.{layouts}
use denote.RawPtr.{room_for}
use denote.Signature.{plain}
use denote.Steps.{nothing}
use denote.Triple.Call.{calls_at}
use denote.Triple.Walked.{says, Stays, walk_of, ends_at}
use Rattle.std.proofs.alloc.Calls.{Goes-blank}
use Rattle.std_alloc.specs.contracts.vec.lodged.Vec+T+Lodged.dislodge.Key.{name as callee_name}
use Rattle.std_alloc.proofs.vec.lodged.Vec+T+Lodged.dislodge.Met as callee
use Rattle.cs_cols.proofs.Walks.{none, tells, none_made, dropped, begins, AsCaller, by_walk}
use Rattle.cs_cols.proofs.Lodging.{byte, Column, column-laws, entries, Dislodges, at_dislodge, dislodge_goes, dislodge_gives}
use Rattle.cs_cols.specs.contracts.rooms.ByteRoom as Room
use Rattle.cs_cols.specs.contracts.rooms.vacate_bytes as F
use Rattle.cs_cols.specs.contracts.rooms.vacate_bytes.Key.{name as #self}
use Rattle.cs_cols.proofs.rooms.vacate_bytes.Statement as stated
use Rattle.cs_cols.proofs.rooms.vacate_bytes.Code as code

abbrev key : Callee
key = callee_name (layouts (a_type ∷ []) (u8, tt))

abbrev stayed : Stays F.ended.signature.params F.ended.kept
stayed = (dropped (Column byte), tt)

module _ {M : Type 1} {𝓤 : Ura M} (𝓛 : Logic 𝓤) (at_mem : Memory → SProp 𝓤) (run : Routine → Fun 𝓤) where
  walks : AsCaller 𝓛 F.ended stayed (F.clauses 𝓛 at_mem run) key (Dislodges byte 𝓛 at_mem run) code.function
  walks C Λ framed called z =
      let vss = z.0.4 in
      let v = z.0.3.0 in
      let r : (Room.the_row).Denot = record { ptr = v.ptr; cap = v.cap } in
      let Asked = 0 < v.cap in
      let held = F.clauses 𝓛 at_mem run in
      let Post = (walk_of 𝓛 F.ended stayed held).post z in
      begins 𝓛 F.ended stayed held z Asked (id⊢ 𝓤 _) (λ asked.
      fsplit ! $ tells ! (Column byte) (column-laws byte) v vss.0 (λ u is good. move ! (1 ∷ []) $ drop ! $
      let y = at_dislodge byte 𝓛 at_mem run v u in
      regoal ! (λ (us : List Val). prop (WpFn 𝓤 𝓛.H C Λ code.function (us ++ []) Post)) is refl $
      enter ! C Λ code.function (u ∷ []) Post $ alloc_all ! (λ l. pass_all ! refl (good, tt) $
      sets ! (of_opd ! (get ! refl)) refl good $ use1 𝓛 (raw ((Dislodges byte 𝓛 at_mem run).pre y)) (dislodge_goes byte 𝓛 at_mem run v u) $
      calls_at ! framed (Dislodges byte 𝓛 at_mem run) called y (and_then ! (get ! refl) (no_more !)) (λ t.
      use1 𝓛 (later (given ((t ≡ vint w64 v.len) × (v.len < 2 ^ 64)) (‵ (room_for (entries byte v.cap) v.ptr)))) (dislodge_gives byte 𝓛 at_mem run v u asked t) $ await ! tt $ learn ! (λ got.
      lands_as ! got.0 refl (tt, record { fits = got.1 }) $
      sets ! (agg ! (no_more !)) refl (tt, tt) $
      none_made ! $ fjoin ! $
      returns ! (look_at ! 0 refl) $ free_all ! refl $
      suffices ! _ (ends_at 𝓛 F.ended stayed held z none r (tt, tt) (tt, tt)) $ says ! (refl, refl) $
      nothing ! $ nothing ! $ fjoin ! $ move ! (2 ∷ 0 ∷ 1 ∷ []) $ done !)))))

pub vacate_bytes_spec : {M : Type 1} → stated.statement M
unfolding tables_of
vacate_bytes_spec 𝓤 𝓛 𝓜 𝓡 wired =
    let 𝓣 : Tables 𝓤 𝓛.H = tables_of 𝓤 𝓛.H 𝓜 (tables 𝓤 𝓛.H 𝓜 𝓡 𝓡.env) in
    by_walk 𝓛 F.ended stayed (F.clauses 𝓛 𝓜.mem 𝓡.returns)
    (Goes-blank 𝓛 0 (plain (λ _. Column byte)) yes (λ κs x f. tt), tt)
    #self code.function 𝓣 (code.unfolded 𝓤 𝓛.H 𝓜 𝓡 wired)
    (walks 𝓛 𝓜.mem 𝓡.returns 𝓣.C 𝓣.Λ (fm_of 𝓤 𝓛.H 𝓛.laws 𝓣)
    (callee.met 𝓤 𝓛 𝓜 𝓡 (code.calls-std_alloc::vec::lodged::Vec+T+Lodged::dislodge 𝓡.env wired) u8 byte.laws))
