-- `read` shows a run of the bytes that a `&` to the bucket reaches. Assumes `Logic`.
use Rattle.std.proofs.Common.{◌≡◌, ℕ, ◌+◌, ◌*◌, ◌^◌, ◌≤◌, List, [], ◌∷◌, ◌++◌, length, take, refl, ap, sym, subst, arith, length-take, length-drop, drop as drop_l}
use seplogic.Ra.Ura.{Ura}
use mir.Syntax.{w64}
use mir.Val.{Val, vint, vptr}
use base.Logic.{SProp, ent, sep, emp, never, id⊢}
use base.Fml.{Lft, ftrue, fhide, flft}
use prog.Wp.{Env, WpFn}
use types.Logic.{Logic, sem}
use contract.Monad.{fact, fact_i}
use contract.Running.{tables}
use types.Kit.{‵, raw, ◌⊛◌, prop, at_ret, ◌$◌, ◌∵◌, !, qed, by, move, keep, drop, use0, use1, split, join, regoal, fsplit, fjoin, feq_i, flt_i, done}
use types.Part.{agg}
use types.Run.{stop, fld, look, load, of_opd, bin, no_more, and_then, first, blocks, exec, returns, enter}
use types.ByLocal.{alloc_all, pass_all, free_all, look_at, get, through, sets, sets_last, is, env}
use denote.Exit.{yes}
use denote.RattleType.{RattleType, RowLaws, owns}
use denote.Builtin.{RefOf, u8, usize}
use denote.Memory.{hidden_shr}
use denote.Opens.{shr_dup, hide, unhide}
use denote.RawPtr.{Ptr, RawPtr, InBlock, block_of, count_of, in_a_block, ptr_row_laws}
use denote.Signature.{plain, types_at}
use denote.Slice.{elements_shared, slice_val}
use denote.Steps.{heard, nothing}
use denote.Struct.Struct.{Struct, Struct-row_laws}
use denote.Struct.Owning.{shape}
use denote.Struct.Lending.{lent_out}
use denote.Triple.Entry.{alive}
use denote.Triple.Walked.{Stays, stay_dropped, walk_of, Goes-dropped}
use Rattle.std.proofs.Words.{pointer_in, pointer_out}
use Rattle.std.proofs.raw_atomic.Walks.{proved_at, leaves}
use Rattle.version_bucket.specs.Memory.{bucket_lends}
use Rattle.version_bucket.proofs.Bytes.{run_seen}
use Rattle.version_bucket.specs.contracts.bucket.Bucket as bucket
use Rattle.version_bucket.specs.contracts.bucket.Bucket.read as f
use Rattle.version_bucket.proofs.bucket.Bucket.read.Statement.{statement}
use Rattle.version_bucket.proofs.bucket.Bucket.read.Code as code

abbrev Word : RattleType
Word = Struct (shape bucket.the_type)

-- the field, from a `&` to it
shows_start : {M : Type 1} {𝓤 : Ura M} (𝓛 : Logic 𝓤) (κ : Lft) (p : Ptr) (b o : ℕ)
    → ent 𝓤 (sem 𝓛 (hidden_shr Word κ (p, tt) b o)) (sep 𝓤 (sem 𝓛 (hidden_shr RawPtr κ p b (o + 0))) (sem 𝓛 (hidden_shr Word κ (p, tt) b o)))
shows_start 𝓛 κ p b o =
    let laws : RowLaws Word = Struct-row_laws (shape bucket.the_type) (ptr_row_laws, tt) in
    qed 𝓛 (‵ (hidden_shr Word κ (p, tt) b o) ∷ []) ∵ shr_dup ! Word laws (p, tt) b o κ $ unhide ! $ fsplit ! $ fsplit ! $ hide ! $ keep ! (0 ∷ 3 ∷ []) $ done !

abbrev stayed : Stays f.ended.signature.params f.ended.kept
stayed = (stay_dropped (RefOf (0 ∷ []) tt (plain (λ _. bucket.the_row)) (λ _. tt)) yes, (stay_dropped (plain (λ _. usize)) yes, (stay_dropped (plain (λ _. usize)) yes, tt)))

pub read_spec : {M : Type 1} → statement M
read_spec 𝓤 𝓛 𝓜 𝓡 wired =
    let c = f.clauses 𝓛 𝓜.mem 𝓡.returns in
    let H = 𝓛.H in
    let 𝓣 = tables 𝓤 H 𝓜 𝓡 𝓡.env in
    proved_at 𝓛 f.ended stayed c 𝓜 𝓡
    (Goes-dropped 𝓛 1 (RefOf (0 ∷ []) tt (plain (λ _. bucket.the_row)) (λ _. tt)) yes (λ κs x f. refl), (Goes-dropped 𝓛 1 (plain (λ _. usize)) yes (λ κs x f. refl), (Goes-dropped 𝓛 1 (plain (λ _. usize)) yes (λ κs x f. refl), tt)))
    f.Key.name code.function (code.unfolded 𝓤 H 𝓜 𝓡 wired) (λ z are.
    let a = z.0.3 in let r = a.0 in let d = r.now in let at = a.1.0 in let len = a.1.1.0 in let κ = z.0.0.0 in let q = z.0.1.0 in
    let rb = r.ref_ptr.0 in let ro = r.ref_ptr.1 in let xs : List ℕ = take len (drop_l at d.bytes) in
    let Post : Val → SProp 𝓤 = (walk_of 𝓛 f.ended stayed c).post z in
    let CallInputs : Type 0 = at + len ≤ length d.bytes in
    qed 𝓛 ((raw (alive 𝓛 f.signature z.0.0 z.0.1) ⊛ ‵ (owns (types_at f.signature.params z.0.0) a z.0.4)) ∷ raw (fact 𝓤 CallInputs) ∷ []) ∵
    move ! (1 ∷ []) $ heard ! CallInputs (λ asked. split ! $ move ! (1 ∷ []) $ fsplit ! $ fsplit ! $ drop ! $ move ! (1 ∷ []) $ drop ! $
    -- [the `&`; the lifetime]
    let small = d.fits in let long : length xs ≡ len = omega (arith, length-take len (drop_l at d.bytes), length-drop at d.bytes) in
    use1 𝓛 (‵ (hidden_shr Word κ (d.start, tt) rb ro) ⊛ ‵ (fhide (bucket.the_lent d d.start κ))) (lent_out 𝓛 bucket.struct bucket.the_codes bucket.the_heap bucket.the_lent κ d rb ro) $ split ! $
    move ! (1 ∷ []) $ unhide ! $ in_a_block ! d.start (λ p. bucket_lends p d.bytes κ) (id⊢ 𝓤 (never 𝓤)) (λ b o lies.
    use1 𝓛 (‵ (elements_shared u8 xs b (at + o) κ)) (run_seen 𝓛 κ d.bytes at len b o) $ hide ! $ move ! (2 ∷ []) $ use1 𝓛 (‵ (flft κ q) ⊛ ‵ ftrue) (id⊢ 𝓤 _) $ split ! $ move ! (3 ∷ 0 ∷ []) $
    -- [a `&` to the field; the token; nothing; the bytes]
    regoal ! (λ (us : List Val). prop (WpFn 𝓤 H 𝓣.C 𝓣.Λ code.function us Post)) (λ i. are.0.0 i ++ (are.1.0.0 i ++ (are.1.1.0.0 i ++ []))) refl $
    enter ! 𝓣.C 𝓣.Λ code.function (vptr rb ro ∷ vint w64 at ∷ vint w64 len ∷ []) Post $
    alloc_all ! (λ l. pass_all ! refl ((tt, tt), ((tt, record { fits = are.1.0.1 }), ((tt, record { fits = are.1.1.0.1 }), tt))) $ let En : Env 𝓤 H = env (code.function).locals l in
    let inb : InBlock d.start = subst InBlock (sym lies) tt in
    first ! $ blocks ! $ pointer_in ! tt d.start inb rb (ro + 0) (shows_start 𝓛 κ d.start rb ro) (λ q'.
    sets ! (is ! (of_opd ! (load ! (through ! refl (fld ! refl (stop !))) (look ! 1 refl))) (ap (λ (p : Ptr). vptr (block_of p) (count_of p)) lies)) refl (tt, tt) $ pointer_out ! tt d.start inb rb (ro + 0) $
    sets ! (bin ! (get ! refl) (get ! refl) tt) refl (tt, tt) $
    let place : ℕ × ℕ = (b, at + o) in
    sets_last ! (agg ! (and_then ! (get ! refl) (and_then ! (get ! refl) (no_more !)))) refl (tt, (tt, (record { fits = are.1.1.0.1 }, tt))) $
    exec ! 𝓣.C 𝓣.Λ En code.Mir.t-2 (at_ret En Post) $ sets ! (of_opd ! (get ! refl)) refl (tt, (tt, (record { fits = are.1.1.0.1 }, tt))) $
    returns ! (look_at ! 0 refl) $ free_all ! refl $ move ! (3 ∷ []) $
    flt_i ! (length xs * 1) (2 ^ 63) (omega arith) $ flt_i ! (length xs) (2 ^ 64) (omega arith) $ fjoin ! $
    feq_i ! (List Val) (slice_val place len ∷ []) (slice_val place (length xs) ∷ []) (ap (λ k. slice_val place k ∷ []) (sym long)) $ fjoin ! $ fjoin ! $
    -- [the slice; the token; ..]
    nothing ! $ move ! (2 ∷ 0 ∷ []) $ join ! $
    use0 𝓛 (raw (fact 𝓤 (xs ≡ xs))) (fact_i 𝓤 (xs ≡ xs) (emp 𝓤) refl) $ nothing ! $ nothing ! $ fjoin ! $ nothing ! $ fjoin ! $ nothing ! $ fjoin ! $ keep ! (2 ∷ 0 ∷ 3 ∷ 1 ∷ []) $
    by ! (leaves 𝓛 f.ended stayed c z (slice_val place len) (record { ref_ptr = place; now = xs }) (tt, (tt, (tt, tt))) (tt, (tt, (tt, tt)))))))))
