-- Changes of records of which only a front stands there.
use Rattle.std.proofs.Common.{◌≡◌, ℕ, zero, suc, ◌+◌, ◌-◌, ◌*◌, ◌^◌, ◌<◌, ◌≤◌, Bool, true, false, ltb, leb, eqb, ◌&&◌, cond, List, [], ◌∷◌, ◌++◌, refl, sym, ap, subst, ◌∙◌, arith, ◌⊎◌, inl, inr}
use Rattle.std.specs.Prelude.{◌||◌}
use Rattle.std.specs.Int.{w16, w32, to_le_bytes}
use Rattle.std.proofs.lemmas.Bool.{cases_Bool, cases_lt, and_parts, and_from, eqb-true, eq-eqb, leb-true, le-leb, or_right}
use Rattle.log_record.specs.EntryCuts.{end_cut, number_cut, bookmark_cut, values_cut, record_none, record_low, record_cut, copied_bookmark_none, copied_after_cut, copied_none, copied_cut, put_none, put_cut, add_none, add_cut, drop_none, drop_cut}
use Rattle.log_record.proofs.CutLaws.{Then}
use Rattle.log_record.proofs.CutSteps.{Decides, decides_end, decides_number16, decides_number32}
use Rattle.log_record.proofs.CutCases.{decides_case8, decides_case16}
use Rattle.log_record.proofs.CutFields.{BookmarkThen, decides_bookmark}
use Rattle.log_record.proofs.CutValues.{Values, decides_values, few_values, many_values}

pub or_cases : (a b : Bool) → (a || b) ≡ true → (a ≡ true) ⊎ (b ≡ true)
or_cases true b h = inl refl
or_cases false b h = inr h

pub not_equal : (a b : ℕ) → (a ≡ b → ⊥) → eqb a b ≡ false
not_equal a b differs =
    elim (cases_Bool (eqb a b)) [
      | inl is ↦ absurd (differs (eqb-true _ _ is))
      | inr is ↦ is
    ]

-- ---- records

abbrev pub RecordSpelled : List ℕ → Type 0
RecordSpelled bytes = Then (to_le_bytes w16) (λ n. ltb n (2 ^ 16)) (λ n. Values n 0) bytes

pub record_none_is : (missing : ℕ) → record_none missing ≡ true → (missing ≡ 2) ⊎ (8 ≤ missing)
record_none_is missing h =
    elim (or_cases (eqb missing 2) (leb 8 missing) h) [
      | inl two ↦ inl (eqb-true _ _ two)
      | inr many ↦ inr (leb-true _ _ many)
    ]

pub record_none_two : record_none 2 ≡ true
record_none_two = refl

pub record_none_many : (missing : ℕ) → 8 ≤ missing → record_none missing ≡ true
record_none_many missing le = or_right (eqb missing 2) (leb 8 missing) (le-leb _ _ le)

record Count (a missing : ℕ) : Type 0 where
  high : ℕ
  left : ℕ
  small : high < 256
  counted : missing ≡ 1 + left
  goes_on : values_cut (a + 256 * high) 0 [] left ≡ true

positive : (n : ℕ) → eqb n 0 ≡ false → 1 ≤ n
positive zero h = absurd cc
positive (suc n) h = omega arith

low_some : (a missing : ℕ) → record_low a missing ≡ true → Count a missing
low_some a missing h =
    elim (cases_Bool (eqb missing 1)) [
      | inl one ↦
          let zero_low : a ≡ 0 = eqb-true _ _ (sym (ap (λ b. cond b (eqb a 0) (leb (1 + 6 * cond (eqb a 0) 256 a) missing)) one) ∙ h) in
          let none : values_cut (a + 256 * 0) 0 [] 0 ≡ true = subst (λ n. values_cut (n + 256 * 0) 0 [] 0 ≡ true) (sym zero_low) refl in
          record { high = 0; left = 0; small = omega arith; counted = eqb-true _ _ one; goes_on = none }
      | inr more ↦ from (sym (ap (λ b. cond b (eqb a 0) (leb (1 + 6 * cond (eqb a 0) 256 a) missing)) more) ∙ h)
    ] where
      from : leb (1 + 6 * cond (eqb a 0) 256 a) missing ≡ true → Count a missing
      from h =
          elim (cases_Bool (eqb a 0)) [
            | inl none ↦
                let zero_low : a ≡ 0 = eqb-true _ _ none in
                let le : 1 + 6 * 256 ≤ missing = leb-true _ _ (sym (ap (λ b. leb (1 + 6 * cond b 256 a) missing) none) ∙ h) in
                record { high = 1; left = missing - 1; small = omega arith; counted = omega (arith, le); goes_on = many_values (a + 256 * 1) 0 (missing - 1) (omega arith) (omega (arith, le, zero_low)) }
            | inr some ↦
                let le : 1 + 6 * a ≤ missing = leb-true _ _ (sym (ap (λ b. leb (1 + 6 * cond b 256 a) missing) some) ∙ h) in
                let one : 1 ≤ a = positive a some in
                record { high = 0; left = missing - 1; small = omega arith; counted = omega (arith, le); goes_on = many_values (a + 256 * 0) 0 (missing - 1) (omega (arith, one)) (omega (arith, le)) }
          ]

low_of : (a h left : ℕ) → values_cut (a + 256 * h) 0 [] left ≡ true → record_low a (1 + left) ≡ true
low_of a h left is =
    elim (few_values (a + 256 * h) 0 left is) [
      | inl none ↦
          let zero_low : a ≡ 0 = omega (arith, none.0) in
          let one : 1 + left ≡ 1 = omega (arith, none.1) in
          ap (λ b. cond b (eqb a 0) (leb (1 + 6 * cond (eqb a 0) 256 a) (1 + left))) (eq-eqb _ _ one) ∙ eq-eqb _ _ zero_low
      | inr many ↦
          let more : eqb (1 + left) 1 ≡ false = not_equal (1 + left) 1 (λ e. omega (arith, e, many.0, many.1)) in
          ap (λ b. cond b (eqb a 0) (leb (1 + 6 * cond (eqb a 0) 256 a) (1 + left))) more ∙ enough many.0 many.1
    ] where
      enough : 1 ≤ a + 256 * h → 6 * (a + 256 * h) ≤ left → leb (1 + 6 * cond (eqb a 0) 256 a) (1 + left) ≡ true
      enough one le =
          elim (cases_Bool (eqb a 0)) [
            | inl none ↦
                let zero_low : a ≡ 0 = eqb-true _ _ none in
                let fits : 1 + 6 * 256 ≤ 1 + left = omega (arith, one, le, zero_low) in
                ap (λ b. leb (1 + 6 * cond b 256 a) (1 + left)) none ∙ le-leb _ _ fits
            | inr some ↦
                let fits : 1 + 6 * a ≤ 1 + left = omega (arith, le) in
                ap (λ b. leb (1 + 6 * cond b 256 a) (1 + left)) some ∙ le-leb _ _ fits
          ]

pub decides_record : Decides record_cut RecordSpelled
decides_record =
    decides_case16 (λ n. values_cut n 0) (λ n. Values n 0) record_none record_low (λ n small. decides_values n 0 (omega arith))
    (λ missing few h. elim (record_none_is missing h) [
      | inl two ↦ (0, 0, omega arith, two, refl)
      | inr many ↦ (1, missing - 2, omega arith, omega (arith, many), many_values 1 0 (missing - 2) (omega arith) (omega (arith, many)))
    ])
    (λ n left few small h. elim (few_values n 0 left h) [
      | inl none ↦ ap (λ k. record_none (2 + k)) none.1
      | inr many ↦ record_none_many (2 + left) (omega (arith, many.0, many.1))
    ])
    (λ a missing few small h. let c = low_some a missing h in (c.high, c.left, c.small, c.counted, c.goes_on))
    (λ a h left few small high is. low_of a h left is)

-- ---- copied records

pub decides_never : Decides (λ bytes missing. false) (λ bytes. ⊥)
decides_never = record { sound = λ bytes missing b few h. absurd (false_true h); complete = λ bytes missing b few e. absurd e.whole } where
  false_true : false ≡ true → ⊥
  false_true h = absurd cc

abbrev pub CopiedAfter : ℕ → List ℕ → Type 0
CopiedAfter zero bytes = RecordSpelled bytes
CopiedAfter (suc zero) bytes = BookmarkThen RecordSpelled bytes
CopiedAfter (suc (suc n)) bytes = ⊥

abbrev pub CopiedThen : List ℕ → Type 0
CopiedThen bytes = Then (λ n. n ∷ []) (λ n. ltb n 256) CopiedAfter bytes

decides_copied_bookmark : Decides (bookmark_cut copied_bookmark_none record_cut) (BookmarkThen RecordSpelled)
decides_copied_bookmark =
    decides_bookmark copied_bookmark_none record_cut RecordSpelled decides_record
    (λ missing h.
    let le : 5 ≤ missing = leb-true _ _ h in
    elim (cases_lt missing 260) [
      | inl few ↦ record { size = missing - 4; left = 2; least = omega (arith, le); most = omega (arith, few); counted = omega (arith, le); goes_on = refl }
      | inr many ↦ record { size = 1; left = missing - 3; least = omega arith; most = omega arith; counted = omega (arith, le); goes_on = record_none_many (missing - 3) (omega (arith, many)) }
    ])
    (λ size left least most h. elim (record_none_is left h) [
      | inl two ↦ le-leb 5 (2 + (size + left)) (omega (arith, least, two))
      | inr many ↦ le-leb 5 (2 + (size + left)) (omega (arith, many))
    ])

decides_copied_after : (n : ℕ) → Decides (copied_after_cut n) (CopiedAfter n)
decides_copied_after zero = decides_record
decides_copied_after (suc zero) = decides_copied_bookmark
decides_copied_after (suc (suc n)) = decides_never

copied_none_is : (missing : ℕ) → copied_none missing ≡ true → (missing ≡ 3) ⊎ (6 ≤ missing)
copied_none_is missing h =
    elim (or_cases (eqb missing 3) (leb 6 missing) h) [
      | inl three ↦ inl (eqb-true _ _ three)
      | inr many ↦ inr (leb-true _ _ many)
    ]

copied_none_many : (missing : ℕ) → 6 ≤ missing → copied_none missing ≡ true
copied_none_many missing le = or_right (eqb missing 3) (leb 6 missing) (le-leb _ _ le)

copied_of : (n left : ℕ) → copied_after_cut n [] left ≡ true → copied_none (1 + left) ≡ true
copied_of zero left h = elim (record_none_is left h) [
  | inl two ↦ ap (λ k. copied_none (1 + k)) two
  | inr many ↦ copied_none_many (1 + left) (omega (arith, many))
]
copied_of (suc zero) left h = let le : 5 ≤ left = leb-true _ _ h in copied_none_many (1 + left) (omega (arith, le))
copied_of (suc (suc n)) left h = absurd cc

pub decides_copied : Decides copied_cut CopiedThen
decides_copied =
    decides_case8 copied_after_cut CopiedAfter copied_none (λ n small. decides_copied_after n)
    (λ missing few h. elim (copied_none_is missing h) [
      | inl three ↦ (0, 2, omega arith, three, refl)
      | inr many ↦ (1, missing - 1, omega arith, omega (arith, many), le-leb 5 (missing - 1) (omega (arith, many)))
    ])
    (λ n left few small h. copied_of n left h)

-- ---- puts, adds, drops and holds

abbrev pub Number32 : (List ℕ → Type 0) → List ℕ → Type 0
Number32 Rest bytes = Then (to_le_bytes w32) (λ n. ltb n (2 ^ 32)) (λ n. Rest) bytes

abbrev pub Number16 : (List ℕ → Type 0) → List ℕ → Type 0
Number16 Rest bytes = Then (to_le_bytes w16) (λ n. ltb n (2 ^ 16)) (λ n. Rest) bytes

abbrev pub Nothing : List ℕ → Type 0
Nothing bytes = bytes ≡ []

copied_least : (left : ℕ) → copied_none left ≡ true → 3 ≤ left
copied_least left h = elim (copied_none_is left h) [
  | inl three ↦ omega (arith, three)
  | inr many ↦ omega (arith, many)
]

pub decides_put : Decides put_cut (Number32 (BookmarkThen CopiedThen))
decides_put =
    decides_number32 (bookmark_cut put_none copied_cut) (BookmarkThen CopiedThen) (decides_bookmark put_none copied_cut CopiedThen decides_copied
    (λ missing h.
    let le : 6 ≤ missing = leb-true _ _ h in
    elim (cases_lt missing 261) [
      | inl few ↦ record { size = missing - 5; left = 3; least = omega (arith, le); most = omega (arith, few); counted = omega (arith, le); goes_on = refl }
      | inr many ↦ record { size = 1; left = missing - 3; least = omega arith; most = omega arith; counted = omega (arith, le); goes_on = copied_none_many (missing - 3) (omega (arith, many)) }
    ])
    (λ size left least most h. le-leb 6 (2 + (size + left)) (omega (arith, least, copied_least left h))))

pub decides_add : Decides add_cut (Number32 (BookmarkThen (Number16 (Number32 Nothing))))
decides_add =
    decides_number32 (bookmark_cut add_none (number_cut w16 (number_cut w32 end_cut))) (BookmarkThen (Number16 (Number32 Nothing)))
    (decides_bookmark add_none (number_cut w16 (number_cut w32 end_cut)) (Number16 (Number32 Nothing)) (decides_number16 (number_cut w32 end_cut) (Number32 Nothing) (decides_number32 end_cut Nothing decides_end))
    (λ missing h.
    let p = and_parts (leb 9 missing) (leb missing 263) h in
    let least : 9 ≤ missing = leb-true _ _ p.0 in
    let most : missing ≤ 263 = leb-true _ _ p.1 in
    record { size = missing - 8; left = 6; least = omega (arith, least); most = omega (arith, most); counted = omega (arith, least); goes_on = refl })
    (λ size left least most h.
    let six : left ≡ 6 = tail_is left h in
    and_from (leb 9 (2 + (size + left))) (leb (2 + (size + left)) 263) (le-leb _ _ (omega (arith, least, six))) (le-leb _ _ (omega (arith, most, six)))))
  where
    tail_is : (left : ℕ) → number_cut w16 (number_cut w32 end_cut) [] left ≡ true → left ≡ 6
    tail_is left h =
        let a = and_parts (leb 2 left) (number_cut w32 end_cut [] (left - 2)) h in
        let b = and_parts (leb 4 (left - 2)) (end_cut [] (left - 2 - 4)) a.1 in
        let two : 2 ≤ left = leb-true _ _ a.0 in
        let four : 4 ≤ left - 2 = leb-true _ _ b.0 in
        let none : left - 2 - 4 ≡ 0 = eqb-true _ _ b.1 in
        omega (arith, two, four, none)

pub decides_drop : Decides drop_cut (Number32 (BookmarkThen Nothing))
decides_drop =
    decides_number32 (bookmark_cut drop_none end_cut) (BookmarkThen Nothing) (decides_bookmark drop_none end_cut Nothing decides_end
    (λ missing h.
    let p = and_parts (leb 3 missing) (leb missing 257) h in
    let least : 3 ≤ missing = leb-true _ _ p.0 in
    let most : missing ≤ 257 = leb-true _ _ p.1 in
    record { size = missing - 2; left = 0; least = omega (arith, least); most = omega (arith, most); counted = omega (arith, least); goes_on = refl })
    (λ size left least most h.
    let none : left ≡ 0 = eqb-true _ _ h in
    and_from (leb 3 (2 + (size + left))) (leb (2 + (size + left)) 257) (le-leb _ _ (omega (arith, least, none))) (le-leb _ _ (omega (arith, most, none)))))
