-- What the four walks share: the machine value of a bucket, and its bytes as cells and as room. Assumes `Logic`.
use Rattle.std.proofs.Common.{◌≡◌, ℕ, zero, suc, ◌+◌, List, [], ◌∷◌, ◌++◌, length, refl, subst, ◌∙◌, arith, lit<, w8}
use base.Fraction.{full_share}
use seplogic.Ra.Ura.{Ura}
use mir.Syntax.{Width, int_big, ty_ptr, ty_int}
use mir.Val.{Val, vint, vstruct, vcons, vnil, of_list, has_ty, WT, Fits}
use base.Logic.{ent, sep, emp, via, guard_i, id⊢, snd∗, mono_r}
use base.Fml.{Lft, Fml, ftrue, fat, froom}
use types.Logic.{Logic, sem}
use types.Kit.{Item, ‵, ◌⊛◌, ◌$◌, ◌∵◌, !, qed, by, move, drop, use0, use1, use2, split, fsplit, fjoin, rewrite, frame, done}
use types.Run.{Opd, forget}
use prog.Wp.{Env}
use lib.Dec.{T}
use denote.Builtin.{u8}
use denote.Index.{row}
use denote.Memory.{part_at, shared_of}
use denote.Slice.{elements_shared}
use denote.Steps.{nothing}
use lib.ListN.{take}
use lib.ListN.{drop as drop_l}
use denote.Plain.{uint_out}
use denote.RawPtr.{Ptr, RawPtr, block_ptr, null_ptr, ptr_val}
use denote.Shadow.{shadow, makes_shadow}
use denote.Struct.Struct.{Struct}
use Rattle.version_bucket.specs.Memory.{bytes_type}

abbrev pub bucket_val : Ptr → Val
bucket_val p = vstruct (vcons (ptr_val p) vnil)

-- the one field of a bucket, with what it owns
abbrev pub bucket_own : Ptr → List Val → Fml
bucket_own p = (Struct (record { name = []; args = []; types = []; fields = RawPtr ∷ [] })).own_val (p, tt)

pub bucket_told : (p : Ptr) (vs : List Val) → shadow (bucket_own p vs) → vs ≡ bucket_val p ∷ []
bucket_told p vs s = s.1.0 ∙ (λ i. vstruct (of_list (s.1.1.0 i ++ [])) ∷ [])

pub bucket_made : {M : Type 1} {𝓤 : Ura M} (𝓛 : Logic 𝓤) (p : Ptr) → ent 𝓤 (emp 𝓤) (sem 𝓛 (bucket_own p (bucket_val p ∷ [])))
bucket_made 𝓛 p = makes_shadow 𝓛 (bucket_own p (bucket_val p ∷ [])) (λ _. (tt, (tt, tt))) ((ptr_val p ∷ [], tt), (refl, (refl, tt)))

pub ptr_typed : (p : Ptr) → T (has_ty ty_ptr (ptr_val p)) × WT (ptr_val p)
ptr_typed (block_ptr b o) = (tt, tt)
ptr_typed null_ptr = (tt, record { fits = lit< tt })

module _ {M : Type 1} {𝓤 : Ura M} {𝓛 : Logic 𝓤} {K : Type 0} {Γ : List (Item 𝓤)} {E : Env 𝓤 𝓛.H} where
  -- a constant of more than 16 bits
  pub big_lit : K → {w : Width} {n : ℕ} → Fits w n → Opd K 𝓛 Γ E (int_big w n) (vint w n)
  big_lit t {w} {n} f = record { go = λ Kt h. via 𝓤 (Kt (vint w n)) h (guard_i 𝓤 (Fits w n) (Kt (vint w n)) f) }

module _ {M : Type 1} {𝓤 : Ura M} (𝓛 : Logic 𝓤) where
  -- bytes that are given up leave room for as many more
  pub to_room : (bytes : List ℕ) (n b o : ℕ) → ent 𝓤 (sep 𝓤 (sem 𝓛 (row u8 full_share bytes b o)) (sem 𝓛 (froom (bytes_type n) b (o + length bytes)))) (sem 𝓛 (froom (bytes_type (length bytes + n)) b o))
  to_room [] n b o =
      qed 𝓛 (‵ ftrue ∷ ‵ (froom (bytes_type n) b (o + 0)) ∷ []) ∵ drop ! $
      rewrite ! 0 (λ (k : ℕ). ‵ (froom (bytes_type n) b k)) {x = o} {y = o + 0} (omega arith) refl $
      rewrite ! 0 (λ (k : ℕ). ‵ (froom (bytes_type k) b o)) {x = 0 + n} {y = n} (omega arith) refl $ done !
  to_room (x ∷ xs) n b o =
      qed 𝓛 (‵ (row u8 full_share (x ∷ xs) b o) ∷ ‵ (froom (bytes_type n) b (o + suc (length xs))) ∷ []) ∵ fsplit ! $
      use1 𝓛 (‵ (fat full_share (ty_int w8) b o (vint w8 x))) (uint_out 𝓛 full_share w8 x b o) $ forget ! 0 refl $
      rewrite ! 2 (λ (k : ℕ). ‵ (froom (bytes_type n) b k)) {x = o + 1 + length xs} {y = o + suc (length xs)} (omega arith) refl $ move ! (1 ∷ 2 ∷ []) $
      use2 𝓛 (‵ (froom (bytes_type (length xs + n)) b (o + 1))) (to_room xs n b (o + 1)) $ move ! (1 ∷ []) $
      use2 𝓛 (‵ (froom (bytes_type (suc (length xs + n))) b o)) (𝓛.laws.room_cons (ty_int w8) (length xs + n) b o) $
      rewrite ! 0 (λ (k : ℕ). ‵ (froom (bytes_type k) b o)) {x = suc (length xs) + n} {y = suc (length xs + n)} (omega arith) refl $ done !

  -- of the bytes that a `&` reaches, those from one on, and the first ones
  from_on : (κ : Lft) (bytes : List ℕ) (i b o at : ℕ) → at ≡ i + o → ent 𝓤 (sem 𝓛 (elements_shared u8 bytes b o κ)) (sem 𝓛 (elements_shared u8 (drop_l i bytes) b at κ))
  from_on κ bytes zero b o at e = let same : o ≡ at = omega arith in subst (λ (k : ℕ). ent 𝓤 (sem 𝓛 (elements_shared u8 bytes b o κ)) (sem 𝓛 (elements_shared u8 bytes b k κ))) same (id⊢ 𝓤 _)
  from_on κ [] (suc i) b o at e = id⊢ 𝓤 _
  from_on κ (x ∷ xs) (suc i) b o at e =
      via 𝓤 (sem 𝓛 (elements_shared u8 xs b (o + 1) κ)) (snd∗ 𝓤 (sem 𝓛 (shared_of u8 x b o κ)) (sem 𝓛 (elements_shared u8 xs b (o + 1) κ))) (from_on κ xs i b (o + 1) at (omega arith))

  up_to : (κ : Lft) (bytes : List ℕ) (n b o : ℕ) → ent 𝓤 (sem 𝓛 (elements_shared u8 bytes b o κ)) (sem 𝓛 (elements_shared u8 (take n bytes) b o κ))
  up_to κ bytes zero b o = qed 𝓛 (‵ (elements_shared u8 bytes b o κ) ∷ []) ∵ drop ! $ nothing ! $ done !
  up_to κ [] (suc n) b o = id⊢ 𝓤 _
  up_to κ (x ∷ xs) (suc n) b o = mono_r 𝓤 (sem 𝓛 (shared_of u8 x b o κ)) (up_to κ xs n b (o + 1))

  pub run_seen : (κ : Lft) (bytes : List ℕ) (i n b o : ℕ) → ent 𝓤 (sem 𝓛 (elements_shared u8 bytes b o κ)) (sem 𝓛 (elements_shared u8 (take n (drop_l i bytes)) b (i + o) κ))
  run_seen κ bytes i n b o = via 𝓤 (sem 𝓛 (elements_shared u8 (drop_l i bytes) b (i + o) κ)) (from_on κ bytes i b o (i + o) refl) (up_to κ (drop_l i bytes) n b (i + o))

  -- bytes side by side, one more byte, and room in two parts
  pub joined : (bytes more : List ℕ) (b o at : ℕ) → at ≡ length bytes + o → ent 𝓤 (sep 𝓤 (sem 𝓛 (row u8 full_share bytes b o)) (sem 𝓛 (row u8 full_share more b at))) (sem 𝓛 (row u8 full_share (bytes ++ more) b o))
  joined [] more b o at e = qed 𝓛 (‵ ftrue ∷ ‵ (row u8 full_share more b at) ∷ []) ∵ drop ! $ rewrite ! 0 (λ (k : ℕ). ‵ (row u8 full_share more b k)) {x = o} {y = at} (omega arith) refl $ done !
  joined (x ∷ xs) more b o at e =
      qed 𝓛 (‵ (row u8 full_share (x ∷ xs) b o) ∷ ‵ (row u8 full_share more b at) ∷ []) ∵ fsplit ! $ frame ! $ by ! (joined xs more b (o + 1) at (omega arith))

  pub one_more : (bytes : List ℕ) (x b o at : ℕ) → at ≡ length bytes + o → ent 𝓤 (sep 𝓤 (sem 𝓛 (row u8 full_share bytes b o)) (sem 𝓛 (part_at u8 full_share x b at))) (sem 𝓛 (row u8 full_share (bytes ++ x ∷ []) b o))
  one_more bytes x b o at e =
      qed 𝓛 (‵ (row u8 full_share bytes b o) ∷ ‵ (part_at u8 full_share x b at) ∷ []) ∵ move ! (1 ∷ []) $ nothing ! $ move ! (1 ∷ 0 ∷ []) $ fjoin ! $ move ! (1 ∷ 0 ∷ []) $ by ! (joined bytes (x ∷ []) b o at e)

  pub room_parts : (n m b o : ℕ) → ent 𝓤 (sem 𝓛 (froom (bytes_type (n + m)) b o)) (sep 𝓤 (sem 𝓛 (froom (bytes_type n) b o)) (sem 𝓛 (froom (bytes_type m) b (n + o))))
  room_parts zero m b o =
      qed 𝓛 (‵ (froom (bytes_type (0 + m)) b o) ∷ []) ∵ rewrite ! 0 (λ (k : ℕ × ℕ). ‵ (froom (bytes_type k.0) b k.1)) {x = (m, 0 + o)} {y = (0 + m, o)} (let e : 0 + m ≡ m = omega arith in let e' : o ≡ 0 + o = omega arith in λ i. (e i, e' i)) refl $
      use0 𝓛 (‵ (froom (bytes_type 0) b o)) (𝓛.laws.room_nil (ty_int w8) b o) $ done !
  room_parts (suc n) m b o =
      let e : suc n + m ≡ suc (n + m) = omega arith in let e' : n + (o + 1) ≡ suc n + o = omega arith in
      qed 𝓛 (‵ (froom (bytes_type (suc n + m)) b o) ∷ []) ∵ rewrite ! 0 (λ (k : ℕ). ‵ (froom (bytes_type k) b o)) e refl $
      use1 𝓛 (‵ (froom (ty_int w8) b o) ⊛ ‵ (froom (bytes_type (n + m)) b (o + 1))) (𝓛.laws.room_uncons (ty_int w8) (n + m) b o) $ split ! $ move ! (1 ∷ []) $
      use1 𝓛 (‵ (froom (bytes_type n) b (o + 1)) ⊛ ‵ (froom (bytes_type m) b (n + (o + 1)))) (room_parts n m b (o + 1)) $ split ! $
      rewrite ! 1 (λ (k : ℕ). ‵ (froom (bytes_type m) b k)) e' refl $ move ! (2 ∷ 0 ∷ []) $
      use2 𝓛 (‵ (froom (bytes_type (suc n)) b o)) (𝓛.laws.room_cons (ty_int w8) n b o) $ done !
