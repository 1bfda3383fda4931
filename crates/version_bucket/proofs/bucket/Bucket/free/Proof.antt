-- `free` hands the block back whole, with the right to free it. Assumes `Logic`.
use Rattle.std.proofs.Common.{ℕ, ◌+◌, ◌-◌, List, [], ◌∷◌, ◌++◌, length, refl, ap, sym, subst, ◌∙◌, arith, lit<, w64}
use mir.Syntax.{ty_unit}
use mir.Val.{Val, vint, vptr, vunit, has_ty, WT}
use lib.Dec.{T}
use base.Logic.{SProp, emp, never, id⊢}
use base.Fml.{ftrue, froom}
use prog.Wp.{Env, WpFn}
use contract.Monad.{fact, fact_i}
use contract.Running.{tables}
use types.Kit.{‵, raw, ◌⊛◌, some, later, prop, at_ret, ◌$◌, ◌∵◌, !, qed, by, move, keep, drop, use0, use1, use2, split, join, pick, rewrite, regoal, fsplit, fjoin, feq_i, feq_l, await}
use types.Part.{whole, sub}
use types.Run.{stop, fld, lit, unit_lit, of_opd, no_more, and_then, first, blocks, exec, returns, enter}
use types.ByLocal.{alloc_all, pass_all, free_all, look_at, get, get_in, sets, lands_last, env}
use denote.Exit.{yes}
use denote.RattleType.{owns}
use denote.Builtin.{RefOf, unit, usize}
use denote.Plain.{uint_Makes}
use denote.RawPtr.{Ptr, block_ptr, in_a_block}
use denote.Signature.{plain, types_at}
use denote.Steps.{nothing, owned, only}
use denote.Triple.Entry.{alive}
use denote.Triple.Call.{calls_at_last}
use denote.Triple.Clauses.{lasts}
use denote.Triple.Spec.{triple_of}
use denote.Triple.Table.{framed}
use denote.Triple.Walked.{Stays, stay_dropped, walk_of, Goes-dropped}
use Rattle.std.proofs.raw_atomic.Walks.{proved_at, leaves}
use Rattle.std.specs.Allocator.{HasLayout}
use Rattle.std.specs.contracts.alloc.Global as global
use Rattle.std.specs.contracts.impls.GlobalAllocator.deallocate as g
use Rattle.std.proofs.impls.GlobalAllocator.deallocate.Met.{met}
use Rattle.version_bucket.specs.Memory.{bytes_type, bucket_owns}
use Rattle.version_bucket.proofs.Bytes.{big_lit, bucket_val, bucket_told, to_room}
use Rattle.version_bucket.specs.contracts.bucket.Bucket as bucket
use Rattle.version_bucket.specs.contracts.bucket.Bucket.free as f
use Rattle.version_bucket.proofs.bucket.Bucket.free.Statement.{statement}
use Rattle.version_bucket.proofs.bucket.Bucket.free.Code as code

abbrev stayed : Stays f.ended.signature.params f.ended.kept
stayed = (stay_dropped (plain (λ _. bucket.the_row)) yes, (stay_dropped (RefOf (0 ∷ []) tt (plain (λ _. global.the_row)) (λ _. tt)) yes, tt))

pub free_spec : {M : Type 1} → statement M
free_spec 𝓤 𝓛 𝓜 𝓡 wired =
    let c = f.clauses 𝓛 𝓜.mem 𝓡.returns in
    let H = 𝓛.H in
    let 𝓣 = tables 𝓤 H 𝓜 𝓡 𝓡.env in
    proved_at 𝓛 f.ended stayed c 𝓜 𝓡 (Goes-dropped 𝓛 1 (plain (λ _. bucket.the_row)) yes (λ κs x f. refl), (Goes-dropped 𝓛 1 (RefOf (0 ∷ []) tt (plain (λ _. global.the_row)) (λ _. tt)) yes (λ κs x f. refl), tt)) f.Key.name code.function (code.unfolded 𝓤 H 𝓜 𝓡 wired) (λ z are.
    let a = z.0.3 in let x = a.0 in let κ = z.0.0.0 in let q = z.0.1.0 in
    let Post : Val → SProp 𝓤 = (walk_of 𝓛 f.ended stayed c).post z in
    qed 𝓛 ((raw (alive 𝓛 f.signature z.0.0 z.0.1) ⊛ ‵ (owns (types_at f.signature.params z.0.0) a z.0.4)) ∷ ‵ ftrue ∷ []) ∵
    split ! $ move ! (1 ∷ []) $ fsplit ! $ fsplit ! $ drop ! $
    in_a_block ! x.start (λ p. bucket_owns p x.bytes) (id⊢ 𝓤 (never 𝓤)) (λ b o at. fsplit ! $ move ! (1 ∷ []) $ fsplit ! $
    -- [the room; the token; the bytes; the `&`; ..]
    move ! (3 ∷ []) $ fsplit ! $ fsplit ! $ drop ! $ move ! (1 ∷ []) $ drop ! $ move ! (3 ∷ 1 ∷ []) $
    let n = length x.bytes in let all = x.fits in
    use2 𝓛 (‵ (froom (bytes_type (n + (65536 - n))) b o)) (to_room 𝓛 x.bytes (65536 - n) b o) $
    rewrite ! 0 (λ (k : ℕ). ‵ (froom (bytes_type k) b o)) {x = 65536} {y = n + (65536 - n)} (omega (arith, all)) refl $
    -- [the block; the `&`; the token; the lifetime; ..]
    let r = a.1.0 in let Bytes = bytes_type 65536 in
    let G = triple_of 𝓛 g.signature (g.spec 𝓛 𝓜.mem 𝓡.returns) in
    let y : G.Ghost = ((z.0.0, z.0.1, tt, (r, (block_ptr b o, (65536, (1, tt)))), (vptr r.ref_ptr.0 r.ref_ptr.1 ∷ [], (vptr b o ∷ [], (vint w64 65536 ∷ [], (vint w64 1 ∷ [], tt))))), Bytes) in
    regoal ! (λ (us : List Val). prop (WpFn 𝓤 H 𝓣.C 𝓣.Λ code.function us Post)) (λ i. (bucket_told x.start z.0.4.0 are.0.0 ∙ ap (λ (p : Ptr). bucket_val p ∷ []) at) i ++ (are.1.0.0 i ++ [])) refl $
    enter ! 𝓣.C 𝓣.Λ code.function (bucket_val (block_ptr b o) ∷ vptr r.ref_ptr.0 r.ref_ptr.1 ∷ []) Post $
    alloc_all ! (λ l. pass_all ! refl ((tt, (tt, tt)), ((tt, tt), tt)) $ let En : Env 𝓤 H = env (code.function).locals l in
    sets ! (of_opd ! (get_in ! (fld ! refl (stop !)) (sub ! 0 refl (whole !)))) refl (tt, tt) $ first ! $ blocks ! $
    move ! (0 ∷ 2 ∷ []) $ fjoin ! $ use0 𝓛 (raw (fact 𝓤 (HasLayout Bytes 65536 1))) (fact_i 𝓤 (HasLayout Bytes 65536 1) (emp 𝓤) (refl, refl)) $ join ! $
    nothing ! $ owned ! usize _ (uint_Makes 𝓛 w64) 1 _ (refl, lit< tt) $ fjoin ! $ owned ! usize _ (uint_Makes 𝓛 w64) 65536 _ (refl, lit< tt) $ fjoin ! $
    feq_i ! (List Val) (vptr b o ∷ []) (vptr b o ∷ []) refl $ fjoin ! $ move ! (2 ∷ []) $ feq_i ! (List Val) (vptr r.ref_ptr.0 r.ref_ptr.1 ∷ []) _ refl $ fjoin ! $ fjoin ! $
    move ! (2 ∷ 0 ∷ []) $ join ! $ join ! $ use1 𝓛 (raw (G.pre y)) (id⊢ 𝓤 _) $
    calls_at_last ! (framed 𝓤 H 𝓜 𝓣) G (met 𝓤 𝓛 𝓜 𝓡 (code.calls-std::impls::GlobalAllocator::deallocate 𝓡.env wired)) y
    (and_then ! (get ! refl) (and_then ! (get ! refl) (and_then ! (big_lit ! (record { fits = lit< tt })) (and_then ! (lit ! tt) (no_more !))))) (λ v.
    use1 𝓛 (later (some (λ (u : Unit {0}). ((raw (alive 𝓛 g.signature z.0.0 z.0.1) ⊛ ‵ (unit.own_val u (v ∷ []))) ⊛ some (λ (ws : Unit {0} × (Unit {0} × (Unit {0} × (Unit {0} × Unit {0})))). ‵ (lasts g.ended z.0.0 y.0.3 ws) ⊛ ‵ ftrue))))) (id⊢ 𝓤 _) $
    await ! tt $ pick ! (λ u. split ! $ split ! $ move ! (1 ∷ []) $ feq_l ! (λ is_unit. move ! (1 ∷ []) $ drop ! $
    lands_last ! refl (subst (λ (w : Val). T (has_ty ty_unit w) × WT w) (sym (ap only is_unit)) (tt, tt)) $ exec ! 𝓣.C 𝓣.Λ En code.Mir.t-3 (at_ret En Post) $
    sets ! (of_opd ! (unit_lit !)) refl (tt, tt) $ returns ! (look_at ! 0 refl) $ free_all ! refl $
    feq_i ! (List Val) (vunit ∷ []) (vunit ∷ []) refl $ nothing ! $ nothing ! $ nothing ! $ fjoin ! $ nothing ! $ fjoin ! $ keep ! (3 ∷ 0 ∷ 2 ∷ 1 ∷ []) $
    by ! (leaves 𝓛 f.ended stayed c z vunit tt (tt, (tt, tt)) (tt, (tt, tt)))))))))
