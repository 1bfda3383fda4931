-- `write` copies the piece byte by byte into the room behind the bytes that are there. Assumes `Logic`.
use Rattle.std.proofs.Common.{◌≡◌, ℕ, zero, suc, ◌+◌, ◌-◌, ◌^◌, ◌<◌, ◌≤◌, List, [], ◌∷◌, ◌++◌, length, take, get_or, refl, ap, sym, ◌∙◌, arith, lit<, ltb→lt, nltb→le, w8, w64, length-take, length-append, take-suc, take_all}
use mathlib.Core.WellFounded.InvImage
use lib.WfN.{lt-wf_rel}
use base.Fraction.{full_share}
use seplogic.Ra.Ura.{Ura}
use mir.Syntax.{ty_int}
use mir.Val.{Val, vint, vptr, vunit}
use base.Logic.{SProp, emp, never, id⊢}
use base.Fml.{Share, ftrue, fat, froom, fhide, flft, fobs, fobor, fauth}
use prog.Wp.{Env, Out, Wp, WpFn, Tables, at_return, after_seq, after_block, after_turn}
use types.Logic.{Logic}
use contract.Monad.{fact, fact_i}
use contract.Running.{tables, tables_of}
use types.Kit.{Item, Sq, split3, any_q, runs, ‵, raw, ◌⊛◌, prop, at_ret, ◌$◌, ◌∵◌, !, qed, by, move, keep, drop, use0, use1, use2, split, join, group, rewrite, regoal, fsplit, fsplit3, fjoin, fjoin3, feq_i}
use types.Part.{whole, sub, look_in}
use types.Run.{stop, fld, hop, from, look, load, addr, lit, unit_lit, of_opd, bin, init, assigns, first, blocks, branches, skips, jumps, exec, returns, enter, loops, again, Below, well_typed}
use types.ByLocal.{alloc_all, pass_all, free_all, look_at, look_in_at, get, get_in, through, sets, sets_last, env, holding, forget_but, take_at, give_at}
use denote.Exit.{yes}
use denote.RattleType.{owns}
use denote.Builtin.{SliceRefOf, u8, usize}
use denote.Copied.{uint_Copied}
use denote.Index.{row, others, takes, puts_back, place_byte, looks_slice, shuts_slice, place}
use denote.Laws.{shows}
use denote.Memory.{cell_at, mem, part_at, shares}
use denote.Opens.{Shut}
use denote.Struct.Struct.{Struct}
use denote.Struct.Owning.{shape}
use types.SemTy.{Body as Borrowed}
use denote.Plain.{uint_in, uint_out}
use denote.RawPtr.{Ptr, block_ptr, in_a_block}
use denote.Signature.{plain, types_at}
use denote.Slice.{elements_shared, slice_val}
use denote.Steps.{heard, nothing, opens, closes, peeks}
use denote.Triple.Entry.{alive}
use denote.Triple.Walked.{Stays, stay_dropped, stay_ref, walk_of, Goes-dropped, Goes-ref}
use Rattle.std.proofs.VecSteps.Shapes.{after}
use Rattle.std.proofs.raw_atomic.Walks.{proved_at, leaves}
use Rattle.version_bucket.specs.Memory.{bytes_type, may_free, bucket_owns}
use Rattle.version_bucket.proofs.Bytes.{joined, one_more, room_parts}
use Rattle.version_bucket.specs.contracts.bucket.Bucket as bucket
use Rattle.version_bucket.proofs.bucket.Bucket.TheLaws.{lowers}
use Rattle.version_bucket.specs.contracts.bucket.Bucket.write as f
use Rattle.version_bucket.proofs.bucket.Bucket.write.Statement.{statement}
use Rattle.version_bucket.proofs.bucket.Bucket.write.Code as code

-- the loop: the n bytes xs at (sb, so), of which the walk has the share p, are copied to (b, dst). F is what it does not touch
module _ {M : Type 1} {𝓤 : Ura M} (𝓛 : Logic 𝓤) (𝓣 : Tables 𝓤 𝓛.H) (F : Item 𝓤) (Post : Val → SProp 𝓤) (rb ro at sb so b dst n : ℕ) (p : Share) (xs : List ℕ) (fits : n < 2 ^ 64) (long : length xs ≡ n) (l : ℕ → ℕ) where
  open 𝓛 use {H}

  abbrev En : Env 𝓤 H
  En = env (code.function).locals l

  abbrev Left : Type 0
  Left = (i : ℕ) × (i ≤ n)

  abbrev Nearer : Left → Left → Type 0
  Nearer t u = n - t.0 < n - u.0

  -- the piece, what was copied of it, and the room that is left
  abbrev Now : Left → List (Item 𝓤)
  Now t = ‵ (row u8 p xs sb so) ∷ ‵ (row u8 full_share (take t.0 xs) b dst) ∷ ‵ (froom (bytes_type (n - t.0)) b (t.0 + dst)) ∷ F
      ∷ holding 𝓛 En ((1, vptr rb ro) ∷ (2, vint w64 at) ∷ (3, slice_val (sb, so) n) ∷ (4, vint w64 n) ∷ (5, vptr sb so) ∷ (6, vptr b dst) ∷ (7, vint w64 t.0) ∷ [])

  abbrev Turned : Left → Out → SProp 𝓤
  Turned t = after_turn 𝓤 H (Below 𝓛 Nearer Now t) (after_block 𝓤 H (after_block 𝓤 H (after_seq 𝓤 H (Wp 𝓤 H 𝓣.C 𝓣.Λ En code.Mir.t-4 (at_return 𝓤 H En Post)) (at_return 𝓤 H En Post))))

  -- the walk from the loop to the end
  abbrev Ends : Type 1
  Ends = Sq 𝓛 (‵ (row u8 p xs sb so) ∷ ‵ (row u8 full_share xs b dst) ∷ F ∷ holding 𝓛 En []) (runs 𝓣.C 𝓣.Λ En code.Mir.t-4 (at_ret En Post))

  turns : Ends → (t : Left) → Sq 𝓛 (Now t) (runs 𝓣.C 𝓣.Λ En code.Mir.turn-1 (any_q (Turned t)))
  unfolding after_turn
  turns ends t =
      let i : ℕ = t.0 in let le = t.1 in
      sets ! (bin ! (get ! refl) (get ! refl) tt) refl (tt, tt) $ first ! $ branches ! (get ! refl)
      (λ less. let h : i < n = ltb→lt i n less in let inside : i < length xs = omega arith in let x : ℕ = get_or xs i 0 in let rest = others (shares u8) p xs i sb so in
      let counted = length-take i xs in let written : i + dst ≡ length (take i xs) + dst = omega arith in
      let left : n - i ≡ suc (n - suc i) = omega arith in let next : i + dst + 1 ≡ suc i + dst = omega arith in let one : i + 1 ≡ suc i = omega arith in let more : i + 1 < 2 ^ 64 = omega arith in
      skips ! $ exec ! 𝓣.C 𝓣.Λ En (after 2 code.Mir.turn-1) (any_q (Turned t)) $
      sets ! (bin ! (get ! refl) (get ! refl) tt) refl (tt, tt) $ sets ! (bin ! (get ! refl) (get ! refl) tt) refl (tt, tt) $
      use1 𝓛 (‵ (part_at u8 p x sb (place 1 so i)) ⊛ ‵ rest) (takes (shares u8) p 𝓛 xs i 0 sb so inside) $ split ! $
      rewrite ! 0 (λ (k : ℕ). ‵ (part_at u8 p x sb k)) (place_byte so i) refl $ use1 𝓛 (‵ (fat p (ty_int w8) sb (i + so) (vint w8 x))) (uint_out 𝓛 p w8 x sb (i + so)) $ well_typed ! (λ good.
      -- [the byte; the others; what was copied; the room; ..]
      sets ! (of_opd ! (load ! (through ! refl (stop !)) (look ! 0 refl))) refl good $
      use1 𝓛 (‵ (part_at u8 p x sb (i + so))) (uint_in 𝓛 p w8 x sb (i + so)) $ rewrite ! 0 (λ (k : ℕ). ‵ (part_at u8 p x sb k)) (sym (place_byte so i)) refl $
      use2 𝓛 (‵ (row u8 p xs sb so)) (puts_back (shares u8) p 𝓛 xs i 0 sb so inside) $ move ! (2 ∷ []) $
      rewrite ! 0 (λ (k : ℕ). ‵ (froom (bytes_type k) b (i + dst))) left refl $
      use1 𝓛 (‵ (froom (ty_int w8) b (i + dst)) ⊛ ‵ (froom (bytes_type (n - suc i)) b (i + dst + 1))) (𝓛.laws.room_uncons (ty_int w8) (n - suc i) b (i + dst)) $ split ! $
      assigns ! (of_opd ! (get ! refl)) (through ! refl (stop !)) (init ! 0 refl good) $
      sets_last ! (bin ! (get ! refl) (lit ! tt) (record { fits = more })) refl (tt, record { fits = more }) $
      -- [the new byte; the room; the piece; what was copied; ..]
      use1 𝓛 (‵ (part_at u8 full_share x b (i + dst))) (uint_in 𝓛 full_share w8 x b (i + dst)) $ move ! (3 ∷ 0 ∷ []) $
      use2 𝓛 (‵ (row u8 full_share (take i xs ++ x ∷ []) b dst)) (one_more 𝓛 (take i xs) x b dst (i + dst) written) $
      rewrite ! 0 (λ (ys : List ℕ). ‵ (row u8 full_share ys b dst)) (sym (take-suc xs i 0 inside)) refl $
      rewrite ! 1 (λ (k : ℕ). ‵ (froom (bytes_type (n - suc i)) b k)) next refl $ move ! (2 ∷ 0 ∷ 1 ∷ []) $
      forget_but ! En (1 ∷ 2 ∷ 3 ∷ 4 ∷ 5 ∷ 6 ∷ 7 ∷ []) refl $ take_at ! 7 $ rewrite ! 0 (λ (k : ℕ). ‵ (fat full_share (ty_int w64) (l 7) zero (vint w64 k))) one refl $ give_at ! 7 $
      again ! Nearer Now t (suc i, omega arith) (omega arith)))
      (λ over. let ge : n ≤ i = nltb→le i n over in let all : take i xs ≡ xs = take_all i xs (omega arith) in
      jumps ! $ exec ! 𝓣.C 𝓣.Λ En code.Mir.t-4 (at_ret En Post) $ rewrite ! 1 (λ (ys : List ℕ). ‵ (row u8 full_share ys b dst)) all refl $
      move ! (2 ∷ []) $ drop ! $ forget_but ! En [] refl $ ends)

abbrev stayed : Stays f.ended.signature.params f.ended.kept
stayed = (stay_ref (0 ∷ []) tt (plain (λ _. bucket.the_row)), (stay_dropped (plain (λ _. usize)) yes, (stay_dropped (SliceRefOf (1 ∷ []) tt (plain (λ _. u8)) (λ _. tt)) yes, tt)))

pub write_spec : {M : Type 1} → statement M
unfolding tables_of
write_spec 𝓤 𝓛 𝓜 𝓡 wired =
    let c = f.clauses 𝓛 𝓜.mem 𝓡.returns in
    let H = 𝓛.H in
    let 𝓣 : Tables 𝓤 H = tables_of 𝓤 H 𝓜 (tables 𝓤 H 𝓜 𝓡 𝓡.env) in
    proved_at 𝓛 f.ended stayed c 𝓜 𝓡
    (Goes-ref 𝓛 2 0 tt (plain (λ _. bucket.the_row)), (Goes-dropped 𝓛 2 (plain (λ _. usize)) yes (λ κs x f. refl), (Goes-dropped 𝓛 2 (SliceRefOf (1 ∷ []) tt (plain (λ _. u8)) (λ _. tt)) yes (λ κs x f. refl), tt)))
    f.Key.name code.function (code.unfolded 𝓤 H 𝓜 𝓡 wired) (λ z are.
    let a = z.0.3 in let r = a.0 in let d = r.now in let at = a.1.0 in let piece = a.1.1.0 in let xs : List ℕ = piece.now in let n = length xs in
    let κ₀ = z.0.0.0 in let κ₁ = z.0.0.1.0 in let q₀ = z.0.1.0 in let q₁ = z.0.1.1.0 in
    let rb = r.ref_ptr.0 in let ro = r.ref_ptr.1 in let sb = piece.ref_ptr.0 in let so = piece.ref_ptr.1 in
    let Post : Val → SProp 𝓤 = (walk_of 𝓛 f.ended stayed c).post z in
    let CallInputs : Type 0 = (at ≡ length d.bytes) × (at + n ≤ 65536) in
    let fn : n < 2 ^ 64 = are.1.1.0.0.1.0 in
    qed 𝓛 ((raw (alive 𝓛 f.signature z.0.0 z.0.1) ⊛ ‵ (owns (types_at f.signature.params z.0.0) a z.0.4)) ∷ raw (fact 𝓤 CallInputs) ∷ []) ∵
    move ! (1 ∷ []) $ heard ! CallInputs (λ asked. split ! $ move ! (1 ∷ []) $ fsplit ! $ fsplit3 ! $ drop ! $ move ! (2 ∷ []) $ fsplit ! $ drop ! $ fsplit ! $ fsplit ! $ drop ! $
    move ! (4 ∷ []) $ use1 𝓛 (‵ (flft κ₀ q₀) ⊛ ‵ (flft κ₁ q₁) ⊛ ‵ ftrue) (id⊢ 𝓤 _) $ split3 ! $ keep ! (5 ∷ 6 ∷ 0 ∷ 3 ∷ 1 ∷ []) $
    regoal ! (λ (us : List Val). prop (WpFn 𝓤 H 𝓣.C 𝓣.Λ code.function us Post)) (λ i. are.0.0 i ++ (are.1.0.0 i ++ (are.1.1.0.0.0 i ++ []))) refl $
    enter ! 𝓣.C 𝓣.Λ code.function (vptr rb ro ∷ vint w64 at ∷ slice_val (sb, so) n ∷ []) Post $
    alloc_all ! (λ l. pass_all ! refl ((tt, tt), ((tt, record { fits = are.1.0.1 }), ((tt, (tt, (record { fits = fn }, tt))), tt))) $ let En : Env 𝓤 H = env (code.function).locals l in
    opens ! tt bucket.the_row rb ro (λ us. move ! (1 ∷ []) $ peeks ! bucket.the_row _ (shows 𝓛 bucket.the_row) d us (λ is. fsplit ! $ move ! (1 ∷ []) $
    in_a_block ! d.start (λ p. bucket_owns p d.bytes) (id⊢ 𝓤 (never 𝓤)) (λ b o e. fsplit ! $ move ! (1 ∷ []) $ fsplit ! $
    let word = lowers.val_is d us is ∙ ap (λ (p : Ptr). lowers.lowered (record d { start = p }) ∷ []) e in
    let Cell = λ (ws : List Val). ‵ (cell_at full_share (bucket.the_row).mir ws rb ro) in
    rewrite ! 4 Cell word refl $ move ! (8 ∷ 9 ∷ []) $ looks_slice ! tt u8 (uint_Copied 𝓛 w8) xs sb so (λ p.
    -- [the piece; the way back, in two entries; the room; the right to free; the bytes; the fields; the bucket's cell; the open borrow, in three]
    let m = 65536 - (at + n) in let dst = at + o in let long = asked.0 in let fits = asked.1 in let count = length-append d.bytes xs in
    let Block = bytes_type 65536 in
    rewrite ! 3 (λ (k : ℕ × ℕ). ‵ (froom (bytes_type k.0) b k.1)) {x = (n + m, dst)} {y = (65536 - length d.bytes, o + length d.bytes)} (let e₀ : 65536 - length d.bytes ≡ n + m = omega (arith, long, fits) in let e₁ : o + length d.bytes ≡ dst = omega (arith, long) in λ i. (e₀ i, e₁ i)) refl $
    move ! (3 ∷ []) $ use1 𝓛 (‵ (froom (bytes_type n) b dst) ⊛ ‵ (froom (bytes_type m) b (n + dst))) (room_parts 𝓛 n m b dst) $ split ! $
    sets ! (of_opd ! (get_in ! (fld ! refl (stop !)) (sub ! 1 refl (whole !)))) refl (tt, record { fits = fn }) $
    sets ! (addr ! (from ! (fld ! refl (hop ! (look_in_at ! 3 (sub ! 0 refl (whole !))) (stop !))))) refl (tt, tt) $ first ! $ blocks ! $
    sets ! (of_opd ! (load ! (through ! refl (fld ! refl (stop !))) (look_in ! 8 (sub ! 0 refl (whole !))))) refl (tt, tt) $
    sets ! (bin ! (get ! refl) (get ! refl) tt) refl (tt, tt) $ sets ! (of_opd ! (lit ! tt)) refl (tt, record { fits = lit< tt }) $
    forget_but ! En (1 ∷ 2 ∷ 3 ∷ 4 ∷ 5 ∷ 6 ∷ 7 ∷ []) refl $
    let Fields = (Struct (shape bucket.the_type)).own_val (d.start, tt) us in
    let F : Item 𝓤 = ‵ (froom (bytes_type m) b (n + dst)) ⊛ Shut 𝓛 κ₁ q₁ (row u8 p xs sb so) ⊛ ‵ (fhide (elements_shared u8 xs sb so κ₁)) ⊛ ‵ (may_free Block (block_ptr b o)) ⊛ ‵ (row u8 full_share d.bytes b o) ⊛ ‵ Fields
    ⊛ Cell (lowers.lowered (record d { start = block_ptr b o }) ∷ []) ⊛ ‵ (fobor κ₀ q₀ (Borrowed (mem bucket.the_row) rb ro r.ghost_name)) ⊛ ‵ (fobs r.ghost_name ((bucket.the_row).coded.code d)) ⊛ ‵ (fauth r.ghost_name ((bucket.the_row).coded.code d)) in
    let all = d.bytes ++ xs in let new : (bucket.the_row).Denot = record { start = d.start; bytes = all; fits = omega (arith, count, long, fits) } in
    move ! (1 ∷ 3 ∷ 4 ∷ 5 ∷ 6 ∷ 7 ∷ 8 ∷ 9 ∷ 10 ∷ 11 ∷ []) $ group ! 10 $ use1 𝓛 F (id⊢ 𝓤 _) $ move ! (2 ∷ 1 ∷ 0 ∷ []) $
    rewrite ! 1 (λ (k : ℕ × ℕ). ‵ (froom (bytes_type k.0) b k.1)) {x = (n - 0, 0 + dst)} {y = (n, dst)} (let e₀ : n ≡ n - 0 = omega arith in let e₁ : dst ≡ 0 + dst = omega arith in λ i. (e₀ i, e₁ i)) refl $
    nothing ! $ move ! (1 ∷ 0 ∷ []) $ blocks ! $
    loops ! 𝓣 (Nearer 𝓛 𝓣 F Post rb ro at sb so b dst n p xs fn refl l) (InvImage.wf (λ (t : Left 𝓛 𝓣 F Post rb ro at sb so b dst n p xs fn refl l). n - t.0) lt-wf_rel.wf) (Now 𝓛 𝓣 F Post rb ro at sb so b dst n p xs fn refl l)
    (turns 𝓛 𝓣 F Post rb ro at sb so b dst n p xs fn refl l (
    move ! (2 ∷ []) $ split ! $ move ! (1 ∷ []) $ split ! $ move ! (1 ∷ []) $ split ! $ move ! (1 ∷ []) $ split ! $ move ! (1 ∷ []) $ split ! $ move ! (1 ∷ []) $ split ! $ move ! (1 ∷ []) $ split ! $ move ! (1 ∷ []) $ split ! $ move ! (1 ∷ []) $ split ! $
    -- [the open borrow's last two entries; its first; the cell; the fields; the bytes; the right to free; the slice; the way back; the room; the piece; its copy]
    move ! (10 ∷ 8 ∷ []) $ shuts_slice ! tt u8 p xs sb so $ move ! (6 ∷ 10 ∷ []) $ use2 𝓛 (‵ (row u8 full_share all b o)) (joined 𝓛 d.bytes xs b o dst (ap (λ k. k + o) long)) $
    rewrite ! 9 (λ (k : ℕ × ℕ). ‵ (froom (bytes_type k.0) b k.1)) {x = (65536 - length all, o + length all)} {y = (m, n + dst)} (let e₀ : m ≡ 65536 - length all = omega (arith, count, long, fits) in let e₁ : n + dst ≡ o + length all = omega (arith, count, long) in λ i. (e₀ i, e₁ i)) refl $
    move ! (9 ∷ 7 ∷ []) $ fjoin ! $ move ! (1 ∷ 0 ∷ []) $ fjoin ! $ rewrite ! 0 (λ (k : Ptr). ‵ (bucket_owns k all)) (sym e) refl $ rewrite ! 5 Cell (sym word) refl $
    move ! (6 ∷ 0 ∷ []) $ fjoin ! $ move ! (5 ∷ 0 ∷ 4 ∷ 2 ∷ 3 ∷ []) $ closes ! tt bucket.the_row new us rb ro $
    sets ! (of_opd ! (unit_lit !)) refl (tt, tt) $ returns ! (look_at ! 0 refl) $ free_all ! refl $
    feq_i ! (List Val) z.0.4.0 (vptr rb ro ∷ []) are.0.0 $ fjoin3 ! $ nothing ! $ nothing ! $ fjoin ! $ nothing ! $ fjoin ! $ move ! (1 ∷ 0 ∷ []) $ fjoin ! $
    nothing ! $ move ! (3 ∷ 0 ∷ []) $ join ! $ move ! (2 ∷ 0 ∷ []) $ join ! $ feq_i ! (List Val) (vunit ∷ []) (vunit ∷ []) refl $
    use0 𝓛 (raw (fact 𝓤 (all ≡ d.bytes ++ xs))) (fact_i 𝓤 (all ≡ d.bytes ++ xs) (emp 𝓤) refl) $ keep ! (2 ∷ 3 ∷ 1 ∷ 0 ∷ []) $
    by ! (leaves 𝓛 f.ended stayed c z vunit tt (new, (tt, (tt, tt))) (tt, (tt, (tt, tt)))))) (0, omega arith))))))))
