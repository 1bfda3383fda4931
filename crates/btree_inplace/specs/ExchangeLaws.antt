-- Laws of exchanged pages: one exchange behind another is one.
use Rattle.std.proofs.Common.{ℕ, suc, ◌⊎◌, inl, inr, List, [], ◌∷◌, sym, ◌∙◌, arith}
use Rattle.std.specs.Prelude.{Contains}
use Rattle.std.proofs.lemmas.Bool.{cases_eq}
use Rattle.std.proofs.lemmas.Map.Made.{Contains-tail}
use Rattle.page_space.specs.Frames.{Frames}
use Rattle.btree_inplace.specs.Trees.{Exchanges}

-- a page is one of a list, or it is not
member : (xs : List ℕ) (p : ℕ) → Contains xs p ⊎ (¬ Contains xs p)
member [] p = inr (λ c. absurd (omega (arith, c.1)))
member (x ∷ xs) p =
    elim (cases_eq x p) [
      | inl same ↦ inl (0, omega arith, same)
      | inr other ↦ elim (member xs p) [
        | inl c ↦ inl (suc c.0, omega (arith, c.1), c.2)
        | inr n ↦ inr (λ c. n (Contains-tail x xs p other c))
      ]
    ]

-- one change behind another
pub exchanges_then : (a b c : Frames) (first second third : List ℕ) → Exchanges a b first second → Exchanges b c second third → Exchanges a c first third
exchanges_then a b c first second third s t = record {
  taken = λ p h. elim (member first p) [
    | inl was ↦ inl was
    | inr none ↦ inr (elim (member second p) [
      | inl between ↦ elim (s.taken p between) [
        | inl there ↦ absurd (none there)
        | inr free ↦ free
      ]
      | inr not ↦ elim (t.taken p h) [
        | inl there ↦ absurd (not there)
        | inr free ↦ sym (s.others p none not) ∙ free
      ]
    ])
  ];
  given_back = λ p h none. elim (member second p) [
    | inl between ↦ t.given_back p between none
    | inr not ↦ t.others p not none ∙ s.given_back p h not
  ];
  others = λ p h none. elim (member second p) [
    | inl between ↦ elim (s.taken p between) [
      | inl there ↦ absurd (h there)
      | inr free ↦ t.given_back p between none ∙ sym free
    ]
    | inr not ↦ t.others p not none ∙ s.others p h not
  ];
}
