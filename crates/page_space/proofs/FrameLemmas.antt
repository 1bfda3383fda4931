-- Frames as their pages, marks and free list make them.
use Rattle.std.proofs.Common.{◌≡◌, ◌≢◌, ℕ, zero, suc, ◌+◌, ◌<◌, ◌≤◌, Bool, true, false, Option, Some, None, List, [], ◌∷◌, ◌++◌, length, get_or, set, refl, sym, ap, subst, ◌∙◌, arith}
use Rattle.std.specs.Prelude.{IfSome, IsSome, All, AllPairs, drop, is_some}
use Rattle.std.proofs.lemmas.List.{length-set, get_or-set_same, get_or-set_other, get_or_append_left, get_or_at, get_or_default, length_push}
use Rattle.std.proofs.lemmas.List.Elements.{All-nil, All-cons, All-tail, All-push}
use Rattle.std.proofs.lemmas.List.Quantifiers.{all_pairs_push}
use Rattle.page_image.specs.Page.{PageContents}
use Rattle.page_space.specs.Frames.{Frames, IsTaken, page_at}
use Rattle.page_space.specs.Free.{HasFree, free_in}
use Rattle.page_space.specs.Held.{PageBox, frames_of, Keeps}

pub length-frames_of : (pages : List PageBox) (taken : List Bool) → length taken ≡ length pages → length (frames_of pages taken) ≡ length pages
length-frames_of [] taken same = refl
length-frames_of (p ∷ pages) [] same = absurd (omega arith)
length-frames_of (p ∷ pages) (t ∷ taken) same = omega (arith, length-frames_of pages taken (omega arith))

-- A taken page is marked so.
pub marked : (pages : List PageBox) (taken : List Bool) (i : ℕ) → IsTaken (frames_of pages taken) i → (i < length pages) × (i < length taken) × (get_or taken i false ≡ true)
marked [] taken i some = absurd (never some)
  where
    never : false ≡ true → ⊥
    never e = cc
marked (p ∷ pages) [] i some = absurd (never some)
  where
    never : false ≡ true → ⊥
    never e = cc
marked (p ∷ pages) (true ∷ taken) zero some = (omega arith, omega arith, refl)
marked (p ∷ pages) (false ∷ taken) zero some = absurd (never some)
  where
    never : false ≡ true → ⊥
    never e = cc
marked (p ∷ pages) (t ∷ taken) (suc i) some = let rest = marked pages taken i some in (omega (arith, rest.0), omega (arith, rest.1), rest.2)

pub page_at-marked : (pages : List PageBox) (taken : List Bool) (i : ℕ) (d : PageBox) → i < length pages → get_or taken i false ≡ true → page_at (frames_of pages taken) i ≡ Some (get_or pages i d).value
page_at-marked [] taken i d within mark = absurd (omega arith)
page_at-marked (p ∷ pages) [] i d within mark = cc
page_at-marked (p ∷ pages) (true ∷ taken) zero d within mark = refl
page_at-marked (p ∷ pages) (false ∷ taken) zero d within mark = cc
page_at-marked (p ∷ pages) (t ∷ taken) (suc i) d within mark = page_at-marked pages taken i d (omega arith) mark

pub page_at-free : (pages : List PageBox) (taken : List Bool) (i : ℕ) → get_or taken i true ≡ false → page_at (frames_of pages taken) i ≡ None
page_at-free [] taken i mark = refl
page_at-free (p ∷ pages) [] i mark = refl
page_at-free (p ∷ pages) (true ∷ taken) zero mark = cc
page_at-free (p ∷ pages) (false ∷ taken) zero mark = refl
page_at-free (p ∷ pages) (t ∷ taken) (suc i) mark = page_at-free pages taken i mark

-- the frames after a write of a page and its mark
pub frames_of-take : (pages : List PageBox) (taken : List Bool) (i : ℕ) (x : PageBox) → i < length pages → i < length taken → frames_of (set pages i x) (set taken i true) ≡ set (frames_of pages taken) i (Some x.value)
frames_of-take [] taken i x within marks = absurd (omega arith)
frames_of-take (p ∷ pages) [] i x within marks = absurd (omega arith)
frames_of-take (p ∷ pages) (t ∷ taken) zero x within marks = refl
frames_of-take (p ∷ pages) (t ∷ taken) (suc i) x within marks = ap (λ (r : Frames). page_at (frames_of (p ∷ pages) (t ∷ taken)) 0 ∷ r) (frames_of-take pages taken i x (omega arith) (omega arith))

pub frames_of-give : (pages : List PageBox) (taken : List Bool) (i : ℕ) → i < length pages → i < length taken → frames_of pages (set taken i false) ≡ set (frames_of pages taken) i None
frames_of-give [] taken i within marks = absurd (omega arith)
frames_of-give (p ∷ pages) [] i within marks = absurd (omega arith)
frames_of-give (p ∷ pages) (t ∷ taken) zero within marks = refl
frames_of-give (p ∷ pages) (t ∷ taken) (suc i) within marks = ap (λ (r : Frames). page_at (frames_of (p ∷ pages) (t ∷ taken)) 0 ∷ r) (frames_of-give pages taken i (omega arith) (omega arith))

pub frames_of-write : (pages : List PageBox) (taken : List Bool) (i : ℕ) (x : PageBox) → i < length pages → get_or taken i false ≡ true → frames_of (set pages i x) taken ≡ set (frames_of pages taken) i (Some x.value)
frames_of-write [] taken i x within mark = absurd (omega arith)
frames_of-write (p ∷ pages) [] i x within mark = cc
frames_of-write (p ∷ pages) (true ∷ taken) zero x within mark = refl
frames_of-write (p ∷ pages) (false ∷ taken) zero x within mark = cc
frames_of-write (p ∷ pages) (t ∷ taken) (suc i) x within mark = ap (λ (r : Frames). page_at (frames_of (p ∷ pages) (t ∷ taken)) 0 ∷ r) (frames_of-write pages taken i x (omega arith) mark)

pub frames_of-push : (pages : List PageBox) (taken : List Bool) (x : PageBox) → length taken ≡ length pages → frames_of (pages ++ x ∷ []) (taken ++ true ∷ []) ≡ frames_of pages taken ++ Some x.value ∷ []
frames_of-push [] [] x same = refl
frames_of-push [] (t ∷ taken) x same = absurd (omega arith)
frames_of-push (p ∷ pages) [] x same = absurd (omega arith)
frames_of-push (p ∷ pages) (t ∷ taken) x same = ap (λ (r : Frames). page_at (frames_of (p ∷ pages) (t ∷ taken)) 0 ∷ r) (frames_of-push pages taken x (omega arith))

-- the count of free pages
pub free_in-take : (taken : List Bool) (i : ℕ) → get_or taken i true ≡ false → free_in (set taken i true) + 1 ≡ free_in taken
free_in-take [] i mark = cc
free_in-take (true ∷ taken) zero mark = cc
free_in-take (false ∷ taken) zero mark = omega arith
free_in-take (true ∷ taken) (suc i) mark = free_in-take taken i mark
free_in-take (false ∷ taken) (suc i) mark = omega (arith, free_in-take taken i mark)

pub free_in-give : (taken : List Bool) (i : ℕ) → get_or taken i false ≡ true → free_in (set taken i false) ≡ free_in taken + 1
free_in-give [] i mark = cc
free_in-give (true ∷ taken) zero mark = omega arith
free_in-give (false ∷ taken) zero mark = cc
free_in-give (true ∷ taken) (suc i) mark = free_in-give taken i mark
free_in-give (false ∷ taken) (suc i) mark = omega (arith, free_in-give taken i mark)

pub free_in-le : (taken : List Bool) → free_in taken ≤ length taken
free_in-le [] = omega arith
free_in-le (true ∷ taken) = omega (arith, free_in-le taken)
free_in-le (false ∷ taken) = omega (arith, free_in-le taken)

pub free_in-push : (taken : List Bool) → free_in (taken ++ true ∷ []) ≡ free_in taken
free_in-push [] = refl
free_in-push (true ∷ taken) = free_in-push taken
free_in-push (false ∷ taken) = ap suc (free_in-push taken)

-- Where none is free, all are taken.
pub all_taken : (pages : List PageBox) (taken : List Bool) → length taken ≡ length pages → free_in taken ≡ 0 → All IsSome (frames_of pages taken)
all_taken [] taken same none = All-nil IsSome
all_taken (p ∷ pages) [] same none = absurd (omega arith)
all_taken (p ∷ pages) (true ∷ taken) same none = All-cons IsSome (Some p.value) (frames_of pages taken) refl (all_taken pages taken (omega arith) none)
all_taken (p ∷ pages) (false ∷ taken) same none = absurd (omega arith)

pub none_free : (pages : List PageBox) (taken : List Bool) → length taken ≡ length pages → All IsSome (frames_of pages taken) → free_in taken ≡ 0
none_free [] [] same all = refl
none_free [] (t ∷ taken) same all = absurd (omega arith)
none_free (p ∷ pages) [] same all = absurd (omega arith)
none_free (p ∷ pages) (true ∷ taken) same all = none_free pages taken (omega arith) (All-tail IsSome (Some p.value) (frames_of pages taken) all)
none_free (p ∷ pages) (false ∷ taken) same all = absurd (never (all 0 None (omega arith)))
  where
    never : false ≡ true → ⊥
    never e = cc

-- what a mark that is false says of its place
within_marks : (taken : List Bool) (i : ℕ) → get_or taken i true ≡ false → i < length taken
within_marks [] i mark = cc
within_marks (t ∷ taken) zero mark = omega arith
within_marks (t ∷ taken) (suc i) mark = omega (arith, within_marks taken i mark)

-- the free list without its last page, which is taken
pub keeps-take : (pages : List PageBox) (taken : List Bool) (free rest : List ℕ) (capacity capacity' : ℕ) (page : ℕ) (x : PageBox) → Keeps pages taken free capacity → free ≡ rest ++ page ∷ [] → capacity ≤ capacity' → Keeps (set pages page x) (set taken page true) rest capacity'
keeps-take pages taken free rest capacity capacity' page x k is grows =
    let count : length free ≡ length rest + 1 = ap (λ (l : List ℕ). length l) is ∙ length_push rest page in
    let last : get_or free (length rest) 0 ≡ page = ap (λ (l : List ℕ). get_or l (length rest) 0) is ∙ get_or_at rest page [] 0 (length rest) refl in
    let mark : get_or taken page true ≡ false = subst (λ (p : ℕ). get_or taken p true ≡ false) last (k.are_free (length rest) 0 (omega arith)) in
    let early : (j d : ℕ) → j < length rest → get_or free j d ≡ get_or rest j d = λ j d lt. ap (λ (l : List ℕ). get_or l j d) is ∙ get_or_append_left rest (page ∷ []) d j lt in
    let last' : (d : ℕ) → get_or free (length rest) d ≡ page = λ d. ap (λ (l : List ℕ). get_or l (length rest) d) is ∙ get_or_at rest page [] d (length rest) refl in
    record {
      same = omega (arith, k.same, length-set taken page true, length-set pages page x);
      are_free = λ j d lt.
          let other : get_or rest j d ≢ page = λ e. k.once j (length rest) d lt (omega arith) (early j d lt ∙ e ∙ sym (last' d)) in
          get_or-set_other taken page (get_or rest j d) true true other ∙ ap (λ p. get_or taken p true) (sym (early j d lt)) ∙ k.are_free j d (omega arith);
      once = λ i j d lt h e. k.once i j d lt (omega arith) (early i d (omega arith) ∙ e ∙ sym (early j d h));
      all = omega (arith, k.all, free_in-take taken page mark);
      room = omega (arith, k.room, length-set pages page x);
      few = omega (arith, k.few, length-set pages page x);
    }

-- the mark of the last page of the free list
pub last_is_free : (pages : List PageBox) (taken : List Bool) (free rest : List ℕ) (capacity : ℕ) (page : ℕ) → Keeps pages taken free capacity → free ≡ rest ++ page ∷ [] → (get_or taken page true ≡ false) × (page < length pages) × (page < length taken)
last_is_free pages taken free rest capacity page k is =
    let count : length free ≡ length rest + 1 = ap (λ (l : List ℕ). length l) is ∙ length_push rest page in
    let last : get_or free (length rest) 0 ≡ page = ap (λ (l : List ℕ). get_or l (length rest) 0) is ∙ get_or_at rest page [] 0 (length rest) refl in
    let mark : get_or taken page true ≡ false = subst (λ (p : ℕ). get_or taken p true ≡ false) last (k.are_free (length rest) 0 (omega arith)) in
    (mark, omega (arith, within_marks taken page mark, k.same), within_marks taken page mark)

-- the free list with a page more, which was taken
pub keeps-give : (pages : List PageBox) (taken : List Bool) (free : List ℕ) (capacity capacity' : ℕ) (page : ℕ) → Keeps pages taken free capacity → page < length taken → get_or taken page false ≡ true → capacity ≤ capacity' → Keeps pages (set taken page false) (free ++ page ∷ []) capacity'
keeps-give pages taken free capacity capacity' page k within mark grows =
    let was : get_or taken page true ≡ true = get_or_default taken page true false within ∙ mark in
    let other : (j d : ℕ) → j < length free → get_or free j d ≢ page = λ j d lt e. never (sym (k.are_free j d lt) ∙ ap (λ p. get_or taken p true) e ∙ was) in
    record {
      same = length-set taken page false ∙ k.same;
      are_free = All-push (λ p. get_or (set taken page false) p true ≡ false) free page
          (λ j d lt. get_or-set_other taken page (get_or free j d) false true (other j d lt) ∙ k.are_free j d lt)
          (get_or-set_same taken page false true within);
      once = all_pairs_push (λ p q. p ≢ q) free page k.once other;
      all = length_push free page ∙ ap (λ n. n + 1) k.all ∙ sym (free_in-give taken page mark);
      room = omega (arith, k.room);
      few = k.few;
    }
  where
    never : false ≡ true → ⊥
    never e = cc

-- the free list has room for a page that is taken
pub free_has_room : (pages : List PageBox) (taken : List Bool) (free : List ℕ) (capacity : ℕ) (page : ℕ) → Keeps pages taken free capacity → get_or taken page false ≡ true → page < length taken → length free < capacity
free_has_room pages taken free capacity page k mark within =
    omega (arith, k.all, k.room, k.same, free_in-give taken page mark, free_in-le (set taken page false), length-set taken page false)

pub is_taken-marked : (pages : List PageBox) (taken : List Bool) (i : ℕ) → i < length pages → get_or taken i false ≡ true → IsTaken (frames_of pages taken) i
is_taken-marked [] taken i within mark = absurd (omega arith)
is_taken-marked (p ∷ pages) [] i within mark = cc
is_taken-marked (p ∷ pages) (true ∷ taken) zero within mark = refl
is_taken-marked (p ∷ pages) (false ∷ taken) zero within mark = cc
is_taken-marked (p ∷ pages) (t ∷ taken) (suc i) within mark = is_taken-marked pages taken i (omega arith) mark

-- one page more, which is taken, where none is free
pub keeps-push : (pages : List PageBox) (taken : List Bool) (free : List ℕ) (capacity capacity' : ℕ) (x : PageBox) → Keeps pages taken free capacity → free_in taken ≡ 0 → length pages < 16777216 → length pages + 1 ≤ capacity' → Keeps (pages ++ x ∷ []) (taken ++ true ∷ []) free capacity'
keeps-push pages taken free capacity capacity' x k none fewer room = record {
  same = omega (arith, k.same, length_push pages x, length_push taken true);
  are_free = λ j d lt. absurd (omega (arith, k.all));
  once = λ i j d lt h. absurd (omega (arith, k.all));
  all = k.all ∙ sym (free_in-push taken);
  room = omega (arith, length_push pages x);
  few = omega (arith, length_push pages x);
}

-- The free list was empty.
pub free_was_empty : (pages : List PageBox) (taken : List Bool) (free : List ℕ) (capacity : ℕ) → Keeps pages taken free capacity → length free ≡ 0 → All IsSome (frames_of pages taken)
free_was_empty pages taken free capacity k none = all_taken pages taken k.same (omega (arith, k.all))

-- one page more, taken or free
pub frames_of-one_more : (pages : List PageBox) (taken : List Bool) (x : PageBox) (shown : Option PageContents) → length taken ≡ length pages → IfSome shown (λ p. x.value ≡ p) → frames_of (pages ++ x ∷ []) (taken ++ is_some shown ∷ []) ≡ frames_of pages taken ++ shown ∷ []
frames_of-one_more [] [] x None same is = refl
frames_of-one_more [] [] x (Some p) same is = ap (λ (q : PageContents). Some q ∷ []) is
frames_of-one_more [] (t ∷ taken) x shown same is = absurd (omega arith)
frames_of-one_more (p ∷ pages) [] x shown same is = absurd (omega arith)
frames_of-one_more (p ∷ pages) (t ∷ taken) x shown same is = ap (λ (r : Frames). page_at (frames_of (p ∷ pages) (t ∷ taken)) 0 ∷ r) (frames_of-one_more pages taken x shown (omega arith) is)

-- The pages that came so far are in their blocks.
pub record Boxed (shown : Frames) (pages : List PageBox) (taken : List Bool) : Type 0 where
  pub same : length taken ≡ length pages
  pub frames : frames_of pages taken ≡ shown

pub boxed_next : (shown : Frames) (page : Option PageContents) (pages : List PageBox) (taken : List Bool) (x : PageBox) → Boxed shown pages taken → IfSome page (λ p. x.value ≡ p) → Boxed (shown ++ page ∷ []) (pages ++ x ∷ []) (taken ++ is_some page ∷ [])
boxed_next shown page pages taken x b is = record {
  same = omega (arith, b.same, length_push pages x, length_push taken (is_some page));
  frames = frames_of-one_more pages taken x page b.same is ∙ ap (λ (r : Frames). r ++ page ∷ []) b.frames;
}

pub keeps-boxed : (shown : Frames) (pages : List PageBox) (taken : List Bool) (free : List ℕ) (capacity : ℕ) → Boxed shown pages taken → length shown ≤ 16777216 → HasFree taken free → length taken ≤ capacity → Keeps pages taken free capacity
keeps-boxed shown pages taken free capacity b few f room = record {
  same = b.same;
  are_free = f.are_free;
  once = f.once;
  all = f.all;
  room = omega (arith, b.same, room);
  few = omega (arith, few, length-frames_of pages taken b.same, ap (λ (f : Frames). length f) b.frames);
}

-- the free pages from a place on, the lowest last
pub record FreeFrom (taken : List Bool) (at : ℕ) (free : List ℕ) : Type 0 where
  pub are_free : All (λ page. get_or taken page true ≡ false) free
  pub above : All (λ page. at ≤ page) free
  pub once : AllPairs (λ p q. p ≢ q) free
  pub all : length free ≡ free_in (drop at taken)

free_in-none : (taken : List Bool) (at : ℕ) → length taken ≤ at → free_in (drop at taken) ≡ 0
free_in-none [] zero h = refl
free_in-none [] (suc at) h = refl
free_in-none (t ∷ taken) zero h = absurd (omega arith)
free_in-none (t ∷ taken) (suc at) h = free_in-none taken at (omega arith)

free_in-free : (taken : List Bool) (at : ℕ) → get_or taken at true ≡ false → free_in (drop at taken) ≡ free_in (drop (suc at) taken) + 1
free_in-free [] at mark = cc
free_in-free (true ∷ taken) zero mark = cc
free_in-free (false ∷ taken) zero mark = omega arith
free_in-free (t ∷ taken) (suc at) mark = free_in-free taken at mark

free_in-taken : (taken : List Bool) (at : ℕ) → get_or taken at false ≡ true → free_in (drop at taken) ≡ free_in (drop (suc at) taken)
free_in-taken [] at mark = cc
free_in-taken (true ∷ taken) zero mark = refl
free_in-taken (false ∷ taken) zero mark = cc
free_in-taken (t ∷ taken) (suc at) mark = free_in-taken taken at mark

pub free_from-none : (taken : List Bool) (at : ℕ) → length taken ≤ at → FreeFrom taken at []
free_from-none taken at all = record {
  are_free = λ j d lt. absurd (omega arith);
  above = λ j d lt. absurd (omega arith);
  once = λ i j d lt h. absurd (omega arith);
  all = sym (free_in-none taken at all);
}

pub free_from-push : (taken : List Bool) (at page : ℕ) (free : List ℕ) → FreeFrom taken at free → at ≡ suc page → get_or taken page true ≡ false → FreeFrom taken page (free ++ page ∷ [])
free_from-push taken at page free f next mark = record {
  are_free = All-push (λ p. get_or taken p true ≡ false) free page f.are_free mark;
  above = All-push (λ p. page ≤ p) free page (λ j d lt. omega (arith, f.above j d lt, next)) (omega arith);
  once = all_pairs_push (λ p q. p ≢ q) free page f.once (λ j d lt e. absurd (omega (arith, f.above j d lt, next, e)));
  all = omega (arith, length_push free page, f.all, free_in-free taken page mark, ap (λ (k : ℕ). free_in (drop k taken)) next);
}

pub free_from-skip : (taken : List Bool) (at page : ℕ) (free : List ℕ) → FreeFrom taken at free → at ≡ suc page → get_or taken page false ≡ true → FreeFrom taken page free
free_from-skip taken at page free f next mark = record {
  are_free = f.are_free;
  above = λ j d lt. omega (arith, f.above j d lt, next);
  once = f.once;
  all = omega (arith, f.all, free_in-taken taken page mark, ap (λ (k : ℕ). free_in (drop k taken)) next);
}

pub free_from-all : (taken : List Bool) (at : ℕ) (free : List ℕ) → FreeFrom taken at free → at ≡ 0 → HasFree taken free
free_from-all taken at free f none = record {
  are_free = f.are_free;
  once = f.once;
  all = f.all ∙ ap (λ (k : ℕ). free_in (drop k taken)) none;
}

-- a place without a page
pub not_there : (o : Option PageContents) → (IsSome o → ⊥) → None ≡ o
not_there None none = refl
not_there (Some p) none = absurd (none refl)
