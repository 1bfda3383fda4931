-- `take` owns the new block as a bucket with no byte. Assumes `Logic`.
use Rattle.std.proofs.Common.{◌≡◌, ℕ, ◌+◌, List, [], ◌∷◌, ◌++◌, refl, ap, ◌∙◌, arith, lit<, lit≤, w64, Bool, true, false, Ok, Err}
use lib.Dec.{T}
use seplogic.Ra.Ura.{Ura}
use mir.Syntax.{Ty, Body}
use mir.Val.{Val, vint, vptr, vstruct, vnil, of_list, has_ty, WT}
use base.Logic.{SProp, ent, sep, ex, guard, emp, never, id⊢, fst∗}
use base.Fml.{Fml, ftrue, fsep, froom}
use prog.Wp.{Env, Wp, WpFn, after_seq, at_return}
use types.Logic.{Logic, sem}
use contract.Monad.{fact, fact_i}
use contract.Running.{tables}
use types.Kit.{Item, Goal, Seq, ‵, raw, ◌⊛◌, some, given, later, prop, any_q, at_ret, ◌$◌, ◌∵◌, !, qed, by, move, keep, drop, use0, use1, use2, split, join, learn, pick, rewrite, regoal, fsplit, fpick, fjoin, feq_i, feq_l, check, show, await, done}
use types.Kit.{Post as After}
use types.Part.{whole, agg}
use types.Match.{live, vrt, in_variant}
use types.Run.{stop, fld, lit, of_opd, no_more, and_then, first, switches_on, exec, returns, enter}
use types.ByLocal.{alloc_all, pass_all, free_all, look_at, get, get_in, get_tag, sets, sets_last, lands_as, env}
use denote.Exit.{yes}
use denote.RattleType.{RattleType, owns}
use denote.Builtin.{RefOf, usize}
use denote.Laws.{Is}
use denote.Param.{layout}
use denote.Plain.{uint_Makes}
use denote.RawPtr.{Ptr, RawPtr, block_ptr, null_ptr, in_a_block, ptr_val, room_for}
use denote.Signature.{plain, types_at}
use denote.Steps.{nothing, owned, only}
use denote.Struct.Struct.{Struct, Struct-Makes}
use denote.Struct.Declared as Declared
use denote.Triple.Entry.{alive}
use denote.Triple.Call.{calls_at}
use denote.Triple.Clauses.{lasts}
use denote.Triple.Spec.{triple_of}
use denote.Triple.Table.{framed}
use denote.Triple.Walked.{Stays, stay_dropped, walk_of, Goes-dropped}
use Rattle.std.proofs.ResultValues.{ok_of, err_of}
use Rattle.std.proofs.VecSteps.Shapes.{head, arm_body}
use Rattle.std.proofs.raw_atomic.Walks.{proved_at, leaves}
use Rattle.std.specs.Allocator.{HasLayout, block_if_ok}
use Rattle.std.specs.contracts.alloc.AllocError as AE
use Rattle.std.specs.contracts.alloc.Global as global
use Rattle.std.specs.contracts.result.Result as RS
use Rattle.std.specs.contracts.impls.GlobalAllocator.allocate as g
use Rattle.std.proofs.impls.GlobalAllocator.allocate.Met.{met}
use Rattle.version_bucket.specs.Memory.{bytes_type, may_free}
use Rattle.version_bucket.proofs.Bytes.{big_lit, bucket_val, bucket_own, bucket_made}
use Rattle.version_bucket.specs.contracts.bucket.Bucket as bucket
use Rattle.version_bucket.specs.contracts.bucket.Bucket.take as f
use Rattle.version_bucket.proofs.bucket.Bucket.take.Statement.{statement}
use Rattle.version_bucket.proofs.bucket.Bucket.take.Code as code

abbrev stayed : Stays f.ended.signature.params f.ended.kept
stayed = (stay_dropped (RefOf (0 ∷ []) tt (plain (λ _. global.the_row)) (λ _. tt)) yes, tt)

abbrev Answer : RattleType
Answer = RS.the_row RawPtr AE.the_row

abbrev answer_val : Bool → ℕ → ℕ → Val
answer_val true b o = live 0 (of_list (vptr b o ∷ []))
answer_val false b o = live 1 (of_list (vstruct vnil ∷ []))

typed : (y : Bool) (b o : ℕ) → T (has_ty (layout Answer) (answer_val y b o)) × WT (answer_val y b o)
typed true b o = (tt, (record { fits = lit< tt }, (tt, tt)))
typed false b o = (tt, (record { fits = lit< tt }, (tt, tt)))

abbrev Bytes : Ty
Bytes = bytes_type 65536

-- what comes with the answer
abbrev got : Bool → ℕ → ℕ → Fml
got true b o = fsep (froom Bytes b o) (may_free Bytes (block_ptr b o))
got false b o = ftrue

module _ {M : Type 1} {𝓤 : Ura M} (𝓛 : Logic 𝓤) where
  Answered : Val → SProp 𝓤
  Answered v = ex 𝓤 (λ (c : Bool × (ℕ × ℕ)). guard 𝓤 (v ≡ answer_val c.0 c.1.0 c.1.1) (sem 𝓛 (got c.0 c.1.0 c.1.1)))

  answered : (v : Val) (r : Answer.Denot) → ent 𝓤 (sep 𝓤 (sem 𝓛 (Answer.own_val r (v ∷ []))) (sem 𝓛 (block_if_ok may_free Bytes r))) (Answered v)
  unfolding Answered
  answered v (Ok r) =
      qed 𝓛 (‵ (Answer.own_val (Ok r) (v ∷ [])) ∷ ‵ (fsep (room_for Bytes r) (may_free Bytes r)) ∷ []) ∵
      fpick ! (λ us. fsplit ! $ feq_l ! (λ e. fpick ! (λ vss. fsplit ! $ feq_l ! (λ e'. fsplit ! $ feq_l ! (λ e''. drop ! $
      in_a_block ! r (λ z. fsep (room_for Bytes z) (may_free Bytes z)) (fst∗ 𝓤 (never 𝓤) (sem 𝓛 (may_free Bytes null_ptr))) (λ b o at.
      show ! (λ (c : Bool × (ℕ × ℕ)). guard 𝓤 (v ≡ answer_val c.0 c.1.0 c.1.1) (sem 𝓛 (got c.0 c.1.0 c.1.1))) (true, (b, o)) $
      check ! (ap only e ∙ ap (λ (ws : List Val). live 0 (of_list ws)) (e' ∙ ap (λ (ws : List Val). ws ++ []) (e'' ∙ ap (λ (z : Ptr). ptr_val z ∷ []) at))) $ done !))))))
  answered v (Err n) =
      qed 𝓛 (‵ (Answer.own_val (Err n) (v ∷ [])) ∷ ‵ ftrue ∷ []) ∵
      fpick ! (λ us. fsplit ! $ feq_l ! (λ e. fpick ! (λ vss. fsplit ! $ feq_l ! (λ e'. fsplit ! $ fpick ! (λ none. fsplit ! $ feq_l ! (λ e''. keep ! [] $
      show ! (λ (c : Bool × (ℕ × ℕ)). guard 𝓤 (v ≡ answer_val c.0 c.1.0 c.1.1) (sem 𝓛 (got c.0 c.1.0 c.1.1))) (false, (0, 0)) $
      check ! (ap only e ∙ ap (λ (ws : List Val). live 1 (of_list ws)) (e' ∙ ap (λ (ws : List Val). ws ++ []) e'')) $ done !))))))

module _ {M : Type 1} {𝓤 : Ura M} {𝓛 : Logic 𝓤} {K : Type 0} {Γ : List (Item 𝓤)} {G : Goal 𝓤 𝓛.H} where
  answers_at : (v : Val) (y : Bool) (b o : ℕ) → K → v ≡ answer_val y b o
      → ((b o : ℕ) → v ≡ answer_val true b o → Seq K 𝓛 (‵ (froom Bytes b o) ∷ ‵ (may_free Bytes (block_ptr b o)) ∷ Γ) G) → (v ≡ answer_val false 0 0 → Seq K 𝓛 Γ G) → Seq K 𝓛 (‵ (got y b o) ∷ Γ) G
  answers_at v true b o t e ok none = fsplit t $ ok b o e
  answers_at v false b o t e ok none = drop t $ none e

  -- the two cases of the answer
  answers : K → (v : Val) → ((b o : ℕ) → v ≡ answer_val true b o → Seq K 𝓛 (‵ (froom Bytes b o) ∷ ‵ (may_free Bytes (block_ptr b o)) ∷ Γ) G) → (v ≡ answer_val false 0 0 → Seq K 𝓛 Γ G) → Seq K 𝓛 (raw (Answered 𝓛 v) ∷ Γ) G
  unfolding Answered
  answers t v ok none =
      use1 𝓛 (some (λ (c : Bool × (ℕ × ℕ)). given (v ≡ answer_val c.0 c.1.0 c.1.1) (‵ (got c.0 c.1.0 c.1.1)))) (id⊢ 𝓤 (Answered 𝓛 v)) $
      pick t (λ c. learn t (λ e. answers_at v c.0 c.1.0 c.1.1 t e ok none))

pub take_spec : {M : Type 1} → statement M
take_spec 𝓤 𝓛 𝓜 𝓡 wired =
    let c = f.clauses 𝓛 𝓜.mem 𝓡.returns in
    let H = 𝓛.H in
    let 𝓣 = tables 𝓤 H 𝓜 𝓡 𝓡.env in
    proved_at 𝓛 f.ended stayed c 𝓜 𝓡 (Goes-dropped 𝓛 1 (RefOf (0 ∷ []) tt (plain (λ _. global.the_row)) (λ _. tt)) yes (λ κs x f. refl), tt) f.Key.name code.function (code.unfolded 𝓤 H 𝓜 𝓡 wired) (λ z are.
    let a = z.0.3 in let r = a.0 in
    let Post : Val → SProp 𝓤 = (walk_of 𝓛 f.ended stayed c).post z in
    let Out : RattleType = RS.the_row bucket.the_row AE.the_row in
    let G = triple_of 𝓛 g.signature (g.spec 𝓛 𝓜.mem 𝓡.returns) in
    let y : G.Ghost = ((z.0.0, z.0.1, tt, (r, (65536, (1, tt))), (vptr r.ref_ptr.0 r.ref_ptr.1 ∷ [], (vint w64 65536 ∷ [], (vint w64 1 ∷ [], tt)))), Bytes) in
    let both : Body = head (code.Mir.t-2) in
    qed 𝓛 ((raw (alive 𝓛 f.signature z.0.0 z.0.1) ⊛ ‵ (owns (types_at f.signature.params z.0.0) a z.0.4)) ∷ ‵ ftrue ∷ []) ∵
    split ! $ move ! (1 ∷ []) $ fsplit ! $ fsplit ! $ drop ! $ move ! (1 ∷ []) $ drop ! $
    -- [the `&`; the lifetime; ..]
    regoal ! (λ (us : List Val). prop (WpFn 𝓤 H 𝓣.C 𝓣.Λ code.function us Post)) (λ i. are.0.0 i ++ []) refl $
    enter ! 𝓣.C 𝓣.Λ code.function (vptr r.ref_ptr.0 r.ref_ptr.1 ∷ []) Post $
    alloc_all ! (λ l. pass_all ! refl ((tt, tt), tt) $ let En : Env 𝓤 H = env (code.function).locals l in
    let Then : After 𝓤 H = any_q (after_seq 𝓤 H (Wp 𝓤 H 𝓣.C 𝓣.Λ En code.Mir.t-3 (at_return 𝓤 H En Post)) (at_return 𝓤 H En Post)) in
    use0 𝓛 (raw (fact 𝓤 (HasLayout Bytes 65536 1))) (fact_i 𝓤 (HasLayout Bytes 65536 1) (emp 𝓤) (refl, refl)) $
    nothing ! $ owned ! usize _ (uint_Makes 𝓛 w64) 1 _ (refl, lit< tt) $ fjoin ! $ owned ! usize _ (uint_Makes 𝓛 w64) 65536 _ (refl, lit< tt) $ fjoin ! $
    move ! (2 ∷ []) $ feq_i ! (List Val) (vptr r.ref_ptr.0 r.ref_ptr.1 ∷ []) _ refl $ fjoin ! $ fjoin ! $
    move ! (2 ∷ 0 ∷ []) $ join ! $ join ! $ use1 𝓛 (raw (G.pre y)) (id⊢ 𝓤 _) $
    calls_at ! (framed 𝓤 H 𝓜 𝓣) G (met 𝓤 𝓛 𝓜 𝓡 (code.calls-std::impls::GlobalAllocator::allocate 𝓡.env wired)) y
    (and_then ! (get ! refl) (and_then ! (big_lit ! (record { fits = lit< tt })) (and_then ! (lit ! tt) (no_more !)))) (λ v.
    use1 𝓛 (later (some (λ (u : Answer.Denot). (raw (alive 𝓛 g.signature z.0.0 z.0.1) ⊛ ‵ (Answer.own_val u (v ∷ []))) ⊛ some (λ (ws : Unit {0} × (Unit {0} × (Unit {0} × Unit {0}))). ‵ (lasts g.ended z.0.0 y.0.3 ws) ⊛ ‵ (block_if_ok may_free Bytes u))))) (id⊢ 𝓤 _) $
    await ! tt $ pick ! (λ u. split ! $ split ! $ move ! (2 ∷ []) $ pick ! (λ ws. split ! $ drop ! $ move ! (2 ∷ 0 ∷ []) $
    use2 𝓛 (raw (Answered 𝓛 v)) (answered 𝓛 v u) $ answers ! v
    (λ b o e.
    let p : Ptr = block_ptr b o in let x : (bucket.the_row).Denot = record { start = p; bytes = []; fits = lit≤ tt } in
    let made : Val = live 0 (of_list (bucket_val p ∷ [])) in let good : T (has_ty (layout Out) made) × WT made = (tt, (record { fits = lit< tt }, ((tt, tt), tt))) in
    lands_as ! e refl (typed true b o) $ first ! $ switches_on ! (get_tag ! (vrt ! refl (fld ! refl (stop !))) (whole !)) $ exec ! 𝓣.C 𝓣.Λ En (arm_body 0 both) Then $
    sets ! (of_opd ! (get_in ! (vrt ! refl (fld ! refl (stop !))) (in_variant ! 0 0 refl refl (whole !)))) refl (tt, tt) $
    sets ! (agg ! (and_then ! (get ! refl) (no_more !))) refl (tt, (tt, tt)) $
    sets_last ! (agg ! (and_then ! (lit ! tt) (and_then ! (get ! refl) (no_more !)))) refl good $
    exec ! 𝓣.C 𝓣.Λ En code.Mir.t-3 (at_ret En Post) $ sets ! (of_opd ! (get ! refl)) refl good $ returns ! (look_at ! 0 refl) $ free_all ! refl $
    -- [the room; the right to free it; the lifetime; ..]
    rewrite ! 0 (λ (k : ℕ). ‵ (froom Bytes b k)) {x = o + 0} {y = o} (omega arith) refl $ fjoin ! $ nothing ! $ fjoin ! $
    use0 𝓛 (‵ (bucket_own p (bucket_val p ∷ []))) (bucket_made 𝓛 p) $ fjoin ! $
    use1 𝓛 (‵ (Out.own_val (Ok x) (made ∷ []))) (ok_of 𝓛 bucket.the_row AE.the_row x (bucket_val p)) $
    use0 𝓛 (raw (fact 𝓤 (x.bytes ≡ []))) (fact_i 𝓤 (x.bytes ≡ []) (emp 𝓤) refl) $ nothing ! $ nothing ! $ fjoin ! $ keep ! (3 ∷ 0 ∷ 2 ∷ 1 ∷ []) $
    by ! (leaves 𝓛 f.ended stayed c z made (Ok x) (tt, tt) (tt, tt)))
    (λ e.
    let Refusal : RattleType = Struct (Declared.shape AE.the_type) in let none : Val = live 1 (of_list (vstruct vnil ∷ [])) in
    let good : T (has_ty (layout Out) none) × WT none = (tt, (record { fits = lit< tt }, (tt, tt))) in
    lands_as ! e refl (typed false 0 0) $ first ! $ switches_on ! (get_tag ! (vrt ! refl (fld ! refl (stop !))) (whole !)) $ exec ! 𝓣.C 𝓣.Λ En (arm_body 1 both) Then $
    sets ! (of_opd ! (get_in ! (vrt ! refl (fld ! refl (stop !))) (in_variant ! 1 0 refl refl (whole !)))) refl (tt, tt) $
    sets_last ! (agg ! (and_then ! (lit ! tt) (and_then ! (get ! refl) (no_more !)))) refl good $
    exec ! 𝓣.C 𝓣.Λ En code.Mir.t-3 (at_ret En Post) $ sets ! (of_opd ! (get ! refl)) refl good $ returns ! (look_at ! 0 refl) $ free_all ! refl $
    owned ! Refusal (Is Refusal) (Struct-Makes 𝓛 (Declared.shape AE.the_type) tt) tt (vstruct vnil ∷ []) (tt, (refl, tt)) $
    use1 𝓛 (‵ (Out.own_val (Err (record {})) (none ∷ []))) (err_of 𝓛 bucket.the_row AE.the_row (record {}) (vstruct vnil)) $
    use0 𝓛 (raw (fact 𝓤 (Unit {0}))) (fact_i 𝓤 (Unit {0}) (emp 𝓤) tt) $ nothing ! $ nothing ! $ fjoin ! $ keep ! (3 ∷ 0 ∷ 2 ∷ 1 ∷ []) $
    by ! (leaves 𝓛 f.ended stayed c z none (Err (record {})) (tt, tt) (tt, tt))))))))
