-- `and` makes a value without bytes, and picks its items.
use Rattle.std.proofs.Common.{List, [], ◌∷◌, ◌++◌, refl}
use mir.Syntax.{Fn, a_type, dcons, dnil}
use mir.Val.{Val, vptr}
use mir.MapTy.{inst_fn}
use base.Logic.{SProp, ent}
use prog.Wp.{WpFn, Tables}
use contract.Running.{tables, tables_of}
use sound.WpLaws.{WpFn-mono}
use types.Kit.{‵, raw, ◌⊛◌, prop, ◌$◌, ◌∵◌, !, qed, move, keep, drop, split, fsplit, fjoin, feq_l, regoal, suffices, done}
use types.Part.{agg}
use types.Run.{enter, returns, and_then, no_more}
use types.ByLocal.{alloc_all, pass_all, free_all, look_at, get, sets}
use denote.Exit.{yes}
use denote.RattleType.{owns}
use denote.Builtin.{RefOf}
use denote.Laws.{Is}
use denote.Param.{param, bounded}
use denote.Signature.{plain, types_at}
use denote.Steps.{nothing, owned}
use denote.Struct.Laws.{makes}
use denote.Triple.Clauses.{Clauses, Ended, closing}
use denote.Triple.Entry.{alive}
use denote.Triple.Spec.{triple_of}
use denote.Triple.Table.{entered}
use denote.Triple.Walked.{says, Stays, stay_dropped, walk_of, ends_at, walk_Meets, Goes-dropped}
use Rattle.std.specs.contracts.marker.PhantomData as Mark
use Rattle.dali_system.proofs.Walks.{none, one, one_made}
use Rattle.dali_system.specs.contracts.past.Past as Past
use Rattle.dali_system.specs.contracts.past.Past.and as F
use Rattle.dali_system.specs.contracts.past.Past.and.Key.{name as #self}
use Rattle.dali_system.proofs.past.Past.and.Statement as stated
use Rattle.dali_system.proofs.past.Past.and.Code as code

pub and_spec : {M : Type 1} → stated.statement M
unfolding tables_of
and_spec 𝓤 𝓛 𝓜 𝓡 wired T X LT LX g d met =
    let 𝓣 : Tables 𝓤 𝓛.H = tables_of 𝓤 𝓛.H 𝓜 (tables 𝓤 𝓛.H 𝓜 𝓡 𝓡.env) in
    let En : Ended = F.ended T X g d in
    let args = bounded (a_type ∷ a_type ∷ []) (T, (X, tt)) (dcons d dnil) in
    let function : Fn = inst_fn args code.function in
    let own = RefOf (0 ∷ []) tt (plain (λ _. Past.the_row (param 0 T))) (λ _. tt) in
    let given = RefOf (1 ∷ []) tt (plain (λ _. param 1 X)) (λ _. tt) in
    let stayed : Stays En.signature.params En.kept = (stay_dropped own yes, (stay_dropped given yes, tt)) in
    let held : Clauses 𝓤 En = F.clauses T X g d 𝓛 𝓜.mem 𝓡.returns in
    let walks : (z : (walk_of 𝓛 En stayed held).Ghost) → ent 𝓤 ((walk_of 𝓛 En stayed held).pre z) (WpFn 𝓤 𝓛.H 𝓣.C 𝓣.Λ function ((walk_of 𝓛 En stayed held).args z) ((walk_of 𝓛 En stayed held).post z)) = λ z.
    let Post : Val → SProp 𝓤 = (walk_of 𝓛 En stayed held).post z in
    let toks : SProp 𝓤 = alive 𝓛 En.signature z.0.0 z.0.1 in
    let a = z.0.3 in
    let vss = z.0.4 in
    let made : (Past.the_row (param 0 T)).Denot = record { of = record {}; items = a.0.now.items ++ g.shown a.1.0.now ∷ [] } in
    let p : Val = vptr a.0.ref_ptr.0 a.0.ref_ptr.1 in
    let q : Val = vptr a.1.0.ref_ptr.0 a.1.0.ref_ptr.1 in
    qed 𝓛 ((raw toks ⊛ ‵ (owns (types_at En.signature.params z.0.0) a vss)) ∷ raw ((held z.0.0 a).requires z.1) ∷ []) ∵
    keep ! (0 ∷ []) $ split ! $ move ! (1 ∷ []) $
    fsplit ! $ fsplit ! $ feq_l ! (λ is₀. drop ! $ fsplit ! $ fsplit ! $ feq_l ! (λ is₁. drop ! $ drop ! $
    regoal ! (λ (us : List Val). prop (WpFn 𝓤 𝓛.H 𝓣.C 𝓣.Λ function (us ++ (vss.1.0 ++ [])) Post)) is₀ refl $
    regoal ! (λ (us : List Val). prop (WpFn 𝓤 𝓛.H 𝓣.C 𝓣.Λ function ((p ∷ []) ++ (us ++ [])) Post)) is₁ refl $
    enter ! 𝓣.C 𝓣.Λ function (p ∷ q ∷ []) Post $ alloc_all ! (λ l. pass_all ! refl ((tt, tt), ((tt, tt), tt)) $
    sets ! (agg ! (no_more !)) refl (tt, tt) $
    sets ! (agg ! (and_then ! (get ! refl) (no_more !))) refl (tt, (tt, tt)) $
    nothing ! $ owned ! (Mark.the_row (param 0 T)) (Is (Mark.the_row (param 0 T))) (makes (Mark.the_type (param 0 T)) tt 𝓛) (record {}) (none ∷ []) (tt, (refl, tt)) $
    one_made ! (Mark.the_row (param 0 T)) (record {}) none $ fjoin ! $
    returns ! (look_at ! 0 refl) $ free_all ! refl $
    suffices ! _ (ends_at 𝓛 En stayed held z (one none) made (tt, (tt, tt)) (tt, (tt, tt))) $ says ! refl $
    nothing ! $ nothing ! $ fjoin ! $ nothing ! $ fjoin ! $ move ! (2 ∷ 0 ∷ 1 ∷ []) $ done !))) in
    entered 𝓤 𝓛.H (triple_of 𝓛 En.signature (closing 𝓛 En held)) 𝓣.C 𝓣.Λ (#self args) function (code.unfolded 𝓤 𝓛.H 𝓜 𝓡 wired (T, (X, tt)) d)
    (walk_Meets 𝓛 En stayed (Goes-dropped 𝓛 4 own yes (λ κs x f. refl), (Goes-dropped 𝓛 4 given yes (λ κs x f. refl), tt)) held
    (WpFn 𝓤 𝓛.H 𝓣.C 𝓣.Λ function) (WpFn-mono 𝓤 𝓛.H 𝓛.laws 𝓣 function) walks)
