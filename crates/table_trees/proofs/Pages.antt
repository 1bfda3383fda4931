-- How often pages are among some, and how a change of pages keeps that.
use Rattle.std.proofs.Common.{◌≡◌, ◌≢◌, ℕ, zero, suc, ◌+◌, ◌<◌, ◌≤◌, ◌==◌, ◌⊎◌, inl, inr, Bool, true, false, if◌then◌else◌, Option, Some, None, List, [], ◌∷◌, ◌++◌, refl, sym, ap, ◌∙◌, arith, eq-eqb}
use Rattle.std.specs.Prelude.{AllPairs, Contains, is_some}
use Rattle.std.proofs.lemmas.Bool.{eqb-true}
use Rattle.std.proofs.lemmas.List.Sums.{sum_by-append, sum_by-cons}
use Rattle.common_lemmas.proofs.Booleans.{by_test}
use Rattle.page_image.specs.Page.{PageContents}
use Rattle.page_space.specs.Frames.{Frames, IsTaken, page_at}
use Rattle.btree_inplace.specs.Trees.{AreApart, Exchanges}
use Rattle.table_trees.specs.Pages.{AreOwn, Rearranges, copies, times_taken}

pub none_or_some : (n : ℕ) → (n ≡ 0) ⊎ (0 < n)
none_or_some zero = inl refl
none_or_some (suc n) = inr (omega arith)

-- 1 for what is true
abbrev pub one_if : Bool → ℕ
one_if b = if b then 1 else 0

-- ---- how often a page is among some

pub copies-append : (page : ℕ) (xs ys : List ℕ) → copies page (xs ++ ys) ≡ copies page xs + copies page ys
copies-append page xs ys = sum_by-append (λ p. one_if (p == page)) xs ys

copies-own : (page p : ℕ) (xs : List ℕ) → (p == page) ≡ true → copies page (p ∷ xs) ≡ suc (copies page xs)
copies-own page p xs t =
    let e : copies page (p ∷ xs) ≡ one_if (p == page) + copies page xs = sum_by-cons (λ q. one_if (q == page)) p xs in
    let f : one_if (p == page) ≡ 1 = ap one_if t in
    omega (arith, e, f)

copies-other : (page p : ℕ) (xs : List ℕ) → (p == page) ≡ false → copies page (p ∷ xs) ≡ copies page xs
copies-other page p xs t =
    let e : copies page (p ∷ xs) ≡ one_if (p == page) + copies page xs = sum_by-cons (λ q. one_if (q == page)) p xs in
    let f : one_if (p == page) ≡ 0 = ap one_if t in
    omega (arith, e, f)

pub there : (xs : List ℕ) (page : ℕ) → Contains xs page → 0 < copies page xs
there [] page h = absurd (omega (arith, h.1))
there (x ∷ xs) page (zero, lt, e) = omega (arith, copies-own page x xs (eq-eqb x page e))
there (x ∷ xs) page (suc k, lt, e) =
    by_test (x == page)
    (λ t. omega (arith, copies-own page x xs t))
    (λ t. omega (arith, copies-other page x xs t, there xs page (k, omega arith, e)))

pub contained : (xs : List ℕ) (page : ℕ) → 0 < copies page xs → Contains xs page
contained [] page h = absurd (omega (arith, h))
contained (x ∷ xs) page h =
    by_test (x == page)
    (λ t. (0, omega arith, eqb-true x page t))
    (λ t.
    let rest : Contains xs page = contained xs page (omega (arith, copies-other page x xs t, h)) in
    (suc rest.0, omega (arith, rest.1), rest.2))

pub none_there : (xs : List ℕ) (page : ℕ) → ¬ Contains xs page → copies page xs ≡ 0
none_there xs page gone = elim (none_or_some (copies page xs)) [
  | inl e ↦ e
  | inr h ↦ absurd (gone (contained xs page h))
]

not_there : (xs : List ℕ) (page : ℕ) → copies page xs ≡ 0 → ¬ Contains xs page
not_there xs page none h = omega (arith, none, there xs page h)

pub once : (xs : List ℕ) → AllPairs (λ p q. p ≢ q) xs → (page : ℕ) → copies page xs ≤ 1
once [] differ page = omega arith
once (x ∷ xs) differ page =
    by_test (x == page)
    (λ t.
    let rest : copies page xs ≡ 0 =
    none_there xs page (λ h. differ 0 (suc h.0) page (omega arith) (omega (arith, h.1)) (eqb-true x page t ∙ sym h.2)) in
    omega (arith, copies-own page x xs t, rest))
    (λ t. omega (arith, copies-other page x xs t, once xs (λ i j d lt le. differ (suc i) (suc j) d (omega arith) (omega arith)) page))

-- ---- whether a page is taken

pub taken_once : (frames : Frames) (p : ℕ) → IsTaken frames p → times_taken frames p ≡ 1
taken_once frames p taken = ap one_if taken

at_most_once : (frames : Frames) (p : ℕ) → times_taken frames p ≤ 1
at_most_once frames p = by_test (is_some (page_at frames p))
    (λ t. let e : times_taken frames p ≡ 1 = ap one_if t in omega (arith, e))
    (λ t. let e : times_taken frames p ≡ 0 = ap one_if t in omega (arith, e))

pub free_never : (frames : Frames) (p : ℕ) → page_at frames p ≡ None → times_taken frames p ≡ 0
free_never frames p free = ap (λ (o : Option PageContents). one_if (is_some o)) free

never_none : (o : Option PageContents) → one_if (is_some o) ≡ 0 → o ≡ None
never_none None e = refl
never_none (Some x) e = absurd (omega (arith, e))

never_free : (frames : Frames) (p : ℕ) → times_taken frames p ≡ 0 → page_at frames p ≡ None
never_free frames p e = never_none (page_at frames p) e

-- ---- a change of pages

pub rearranged : (old new : Frames) (before after : List ℕ) → Exchanges old new before after → AreOwn old before → AreOwn new after → Rearranges old new before after
rearranged old new before after e was is = record {
  balance = λ p. elim (none_or_some (copies p after)) [
    | inl gone ↦ elim (none_or_some (copies p before)) [
      | inl none ↦
          let same : times_taken new p ≡ times_taken old p = ap (λ (o : Option PageContents). one_if (is_some o)) (e.others p (not_there before p none) (not_there after p gone)) in
          omega (arith, gone, none, same)
      | inr some ↦
          let left : times_taken new p ≡ 0 = free_never new p (e.given_back p (contained before p some) (not_there after p gone)) in
          omega (arith, gone, some, left, was p, at_most_once old p)
    ]
    | inr some_after ↦ elim (e.taken p (contained after p some_after)) [
      | inl in_before ↦ omega (arith, some_after, there before p in_before, was p, is p, at_most_once old p, at_most_once new p)
      | inr free ↦ omega (arith, some_after, free_never old p free, was p, is p, at_most_once new p)
    ]
  ];
  others = λ p none gone. e.others p (not_there before p none) (not_there after p gone);
}

pub exchanged : (old new : Frames) (before after : List ℕ) → Rearranges old new before after → AreOwn old before → Exchanges old new before after
exchanged old new before after r was = record {
  taken = λ p h. elim (none_or_some (copies p before)) [
    | inl none ↦ inr (never_free old p (omega (arith, none, there after p h, r.balance p, at_most_once new p)))
    | inr some ↦ inl (contained before p some)
  ];
  given_back = λ p h gone. never_free new p (omega (arith, there before p h, none_there after p gone, r.balance p, at_most_once old p));
  others = λ p gone none. r.others p (none_there before p gone) (none_there after p none);
}

pub still_own : (old new : Frames) (before after : List ℕ) → Rearranges old new before after → AreOwn old before → AreOwn new after
still_own old new before after r was p = omega (arith, r.balance p, was p)

pub apart : (frames : Frames) (xs before : List ℕ) → ((p : ℕ) → copies p xs + copies p before ≤ times_taken frames p) → AreApart xs before
apart frames xs before bound p h k = omega (arith, there xs p h, there before p k, bound p, at_most_once frames p)

-- a change beside other pages
pub beside : (old new : Frames) (before after all_before all_after : List ℕ) (rest : ℕ → ℕ) → Rearranges old new before after → ((p : ℕ) → copies p all_before ≡ copies p before + rest p) → ((p : ℕ) → copies p all_after ≡ copies p after + rest p)
    → Rearranges old new all_before all_after
beside old new before after all_before all_after rest r was is = record {
  balance = λ p. omega (arith, r.balance p, was p, is p);
  others = λ p none gone. r.others p (omega (arith, was p, none)) (omega (arith, is p, gone));
}

-- one change and another
pub rearranged_twice : (first second third : Frames) (a b c : List ℕ) → Rearranges first second a b → Rearranges second third b c → Rearranges first third a c
rearranged_twice first second third a b c r s = record {
  balance = λ p. omega (arith, r.balance p, s.balance p);
  others = λ p none gone. elim (none_or_some (copies p b)) [
    | inl not ↦ s.others p not gone ∙ r.others p none not
    | inr some ↦
        never_free third p (omega (arith, none, gone, some, r.balance p, s.balance p, at_most_once second p))
        ∙ sym (never_free first p (omega (arith, none, gone, some, r.balance p, s.balance p, at_most_once second p)))
  ];
}

pub unchanged : (frames : Frames) (pages : List ℕ) → Rearranges frames frames pages pages
unchanged frames pages = record { balance = λ p. refl; others = λ p none gone. refl }

pub nothing_own : (frames : Frames) → AreOwn frames []
nothing_own frames p = omega arith
