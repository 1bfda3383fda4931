-- Pages that are exchanged for others, one change after another.
use Rattle.std.proofs.Common.{◌≡◌, ℕ, ◌+◌, ◌<◌, ◌≤◌, inl, inr, true, false, Option, None, List, refl, sym, subst, ◌∙◌, arith}
use Rattle.std.specs.Prelude.{Contains, IsSome}
use Rattle.std.proofs.lemmas.Bool.{cases_lt}
use Rattle.page_image.specs.Page.{PageContents}
use Rattle.page_space.specs.Frames.{Frames, IsTaken, page_at}
use Rattle.btree_inplace.specs.Alterations.{Swaps, copies}
use Rattle.btree_inplace.specs.Trees.{Exchanges, Stay}
use Rattle.btree_inplace.proofs.Counting.{Contains-copies, copies-Contains}

pub swaps_none : (frames : Frames) (list : List ℕ) → ((p : ℕ) → copies p list ≤ 1) → Swaps frames frames list list
swaps_none frames list all_once = record {
  once = all_once;
  taken = λ p h. inl h;
  given_back = λ p h none. absurd (omega arith);
  others = λ p h none. refl;
}

pub swaps_then : (a b c : Frames) (first second third : List ℕ) → Swaps a b first second → Swaps b c second third → Swaps a c first third
swaps_then a b c first second third s t = record {
  once = t.once;
  taken = λ p h. elim (cases_lt 0 (copies p first)) [
    | inl was ↦ inl was
    | inr none ↦ inr (elim (cases_lt 0 (copies p second)) [
      | inl between ↦ elim (s.taken p between) [
        | inl there ↦ absurd (omega arith)
        | inr free ↦ free
      ]
      | inr not ↦ elim (t.taken p h) [
        | inl there ↦ absurd (omega arith)
        | inr free ↦ sym (s.others p (omega arith) (omega arith)) ∙ free
      ]
    ])
  ];
  given_back = λ p h none. elim (cases_lt 0 (copies p second)) [
    | inl between ↦ t.given_back p between none
    | inr not ↦ t.others p (omega arith) none ∙ s.given_back p h (omega arith)
  ];
  others = λ p h none. elim (cases_lt 0 (copies p second)) [
    | inl between ↦ elim (s.taken p between) [
      | inl there ↦ absurd (omega arith)
      | inr free ↦ t.given_back p between none ∙ sym free
    ]
    | inr not ↦ t.others p (omega arith) none ∙ s.others p h (omega arith)
  ];
}

not_there : (list : List ℕ) (p : ℕ) → ¬ Contains list p → copies p list ≡ 0
not_there list p not = elim (cases_lt 0 (copies p list)) [
  | inl there ↦ absurd (not (Contains-copies list p there))
  | inr none ↦ omega arith
]

pub swaps-exchanges : (old new : Frames) (before after : List ℕ) → Swaps old new before after → Exchanges old new before after
swaps-exchanges old new before after s = record {
  taken = λ p h. elim (s.taken p (copies-Contains after p h)) [
    | inl there ↦ inl (Contains-copies before p there)
    | inr free ↦ inr free
  ];
  given_back = λ p h not. s.given_back p (copies-Contains before p h) (not_there after p not);
  others = λ p h not. s.others p (not_there before p h) (not_there after p not);
}

-- where a page is taken, and one that is free
pub taken_not_free : (frames : Frames) (p : ℕ) → IsTaken frames p → page_at frames p ≡ None → ⊥
taken_not_free frames p taken free = never (subst (λ (o : Option PageContents). IsSome o) free taken)
  where
    never : false ≡ true → ⊥
    never e = cc

-- An exchange among some of the pages is one of all of them, where the others are taken.
pub swaps_within : (old new : Frames) (part part' before after : List ℕ) (rest : ℕ → ℕ) → Swaps old new part part' → ((p : ℕ) → copies p before ≡ rest p + copies p part) → ((p : ℕ) → copies p after ≡ rest p + copies p part') → ((p : ℕ) → copies p before ≤ 1) → ((p : ℕ) → 0 < copies p before → IsTaken old p) → Swaps old new before after
swaps_within old new part part' before after rest s was now all_once all_taken = record {
  once = λ p. elim (cases_lt 0 (copies p part')) [
    | inl some ↦ elim (s.taken p some) [
      | inl there ↦ omega (arith, was p, now p, all_once p, s.once p)
      | inr free ↦ elim (cases_lt 0 (copies p before)) [
        | inl held ↦ absurd (taken_not_free old p (all_taken p held) free)
        | inr not ↦ omega (arith, was p, now p, s.once p)
      ]
    ]
    | inr none ↦ omega (arith, was p, now p, all_once p)
  ];
  taken = λ p h. elim (cases_lt 0 (copies p before)) [
    | inl held ↦ inl held
    | inr not ↦ elim (s.taken p (omega (arith, was p, now p))) [
      | inl there ↦ absurd (omega (arith, was p))
      | inr free ↦ inr free
    ]
  ];
  given_back = λ p h none. s.given_back p (omega (arith, was p, now p)) (omega (arith, now p));
  others = λ p h none. s.others p (omega (arith, was p)) (omega (arith, now p));
}

-- Pages that are taken and not among those exchanged stay.
pub swaps_stay : (old new : Frames) (before after list : List ℕ) → Swaps old new before after → ((p : ℕ) → 0 < copies p list → copies p before ≡ 0) → ((p : ℕ) → 0 < copies p list → IsTaken old p) → Stay old new list
swaps_stay old new before after list s not all_taken p there =
    let here = copies-Contains list p there in
    s.others p (not p here) (elim (cases_lt 0 (copies p after)) [
      | inl some ↦ elim (s.taken p some) [
        | inl was ↦ absurd (omega (arith, not p here))
        | inr free ↦ absurd (taken_not_free old p (all_taken p here) free)
      ]
      | inr none ↦ omega arith
    ])
