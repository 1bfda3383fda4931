-- What stands behind the length of an entry, where only a front of it is there.
use Rattle.std.proofs.Common.{◌≡◌, ℕ, ◌+◌, ◌-◌, ◌*◌, ◌/◌, ◌^◌, ◌<◌, ◌≤◌, Bool, true, false, ltb, leb, eqb, ◌&&◌, cond, List, [], ◌∷◌, ◌++◌, length, refl, sym, ap, ◌∙◌, arith, ◌⊎◌, inl, inr}
use Rattle.std.specs.Prelude.{◌||◌}
use Rattle.std.specs.Int.{w16, w32}
use Rattle.std.proofs.lemmas.Bool.{cases_Bool, cases_lt, and_parts, eqb-true, eq-eqb, leb-true, le-leb, or_right, or_left}
use Rattle.common_lemmas.proofs.Booleans.{impossible}
use Rattle.log_record.specs.EntryCuts.{end_cut, byte_cut, number_cut, bookmark_cut, put_none, put_cut, add_none, add_cut, drop_none, drop_cut, copied_cut, name_cut, within, column_cut, segments_cut, small_cut, index_flags_cut, index_cut, step_cut, schema_none, schema_cut, kind_cut, rest_none, rest_cut}
use Rattle.log_record.proofs.CutLaws.{Then}
use Rattle.log_record.proofs.CutSteps.{Decides, FilledParts, Where, decides_where, decides_end, decides_number16, decides_number32, filled_from, filled_parts}
use Rattle.log_record.proofs.CutCases.{decides_case8}
use Rattle.log_record.proofs.CutFields.{BookmarkThen}
use Rattle.log_record.proofs.CutChanges.{CopiedThen, Number16, Number32, Nothing, decides_never, decides_put, decides_add, decides_drop, or_cases}
use Rattle.log_record.proofs.CutSchemas.{ColumnSpelled, IndexSpelled, NameSpelled, Small, decides_column, decides_index, decides_name, decides_small, within_is, within_from}

-- ---- one of several numbers

pub data Case (n k : ℕ) (Here Others : List ℕ → Type 0) (bytes : List ℕ) : Type 0 where
  here : n ≡ k → Here bytes → Case n k Here Others bytes
  other : (n ≡ k → ⊥) → Others bytes → Case n k Here Others bytes

pub decides_of : (n k : ℕ) (test others : List ℕ → ℕ → Bool) (Here Others : List ℕ → Type 0) → Decides test Here → Decides others Others → Decides (λ bytes missing. cond (eqb n k) (test bytes missing) (others bytes missing)) (Case n k Here Others)
decides_of n k test others Here Others d o = by (cases_Bool (eqb n k)) where
  differs : eqb n k ≡ false → n ≡ k → ⊥
  differs no_eq is = true_false (sym (eq-eqb _ _ is) ∙ no_eq) where
    true_false : true ≡ false → ⊥
    true_false h = absurd cc

  whole_here : (bytes : List ℕ) → n ≡ k → Case n k Here Others bytes → Here bytes
  whole_here bytes is (here e h) = h
  whole_here bytes is (other e h) = absurd (e is)

  whole_other : (bytes : List ℕ) → (n ≡ k → ⊥) → Case n k Here Others bytes → Others bytes
  whole_other bytes not (here e h) = absurd (not e)
  whole_other bytes not (other e h) = h

  by : (eqb n k ≡ true) ⊎ (eqb n k ≡ false) → Decides (λ bytes missing. cond (eqb n k) (test bytes missing) (others bytes missing)) (Case n k Here Others)
  by (inl is) = record {
    sound = λ bytes missing b few h.
        let e = d.sound bytes missing b few (sym (ap (λ t. cond t (test bytes missing) (others bytes missing)) is) ∙ h) in
        record { more = e.more; many = e.many; whole = here (eqb-true _ _ is) e.whole };
    complete = λ bytes missing b few e.
        ap (λ t. cond t (test bytes missing) (others bytes missing)) is ∙ d.complete bytes missing b few (record { more = e.more; many = e.many; whole = whole_here (bytes ++ e.more) (eqb-true _ _ is) e.whole });
  }
  by (inr is) = record {
    sound = λ bytes missing b few h.
        let e = o.sound bytes missing b few (sym (ap (λ t. cond t (test bytes missing) (others bytes missing)) is) ∙ h) in
        record { more = e.more; many = e.many; whole = other (differs is) e.whole };
    complete = λ bytes missing b few e.
        ap (λ t. cond t (test bytes missing) (others bytes missing)) is ∙ o.complete bytes missing b few (record { more = e.more; many = e.many; whole = whole_other (bytes ++ e.more) (differs is) e.whole });
  }

-- the test that is asked
inputs_of : {P : Type 0} (n k : ℕ) (test others : Bool) → cond (eqb n k) test others ≡ true → (test ≡ true → P) → (others ≡ true → P) → P
inputs_of {P = P} n k test others h this next =
    elim (cases_Bool (eqb n k)) [
      | inl is ↦ this (sym (ap (λ b. cond b test others) is) ∙ h)
      | inr is ↦ next (sym (ap (λ b. cond b test others) is) ∙ h)
    ]

-- ---- how many bytes

end_is : (left : ℕ) → end_cut [] left ≡ true → left ≡ 0
end_is left h = eqb-true _ _ h

number32_is : (test : List ℕ → ℕ → Bool) (left : ℕ) → number_cut w32 test [] left ≡ true → FilledParts 4 test left
number32_is test left h = filled_parts 4 test left h

number16_is : (test : List ℕ → ℕ → Bool) (left : ℕ) → number_cut w16 test [] left ≡ true → FilledParts 2 test left
number16_is test left h = filled_parts 2 test left h

byte_is : (passes : ℕ → Bool) (test : List ℕ → ℕ → Bool) (left : ℕ) → byte_cut passes test [] left ≡ true → FilledParts 1 test left
byte_is passes test left h = filled_parts 1 test left h

small_is : (lo hi : ℕ) (test : List ℕ → ℕ → Bool) (left : ℕ) → small_cut lo hi test [] left ≡ true → (4 ≤ left) × (test [] (left - 4) ≡ true)
small_is lo hi test left h =
    let a = byte_is (within lo hi) (byte_cut (within 0 0) (byte_cut (within 0 0) (byte_cut (within 0 0) test))) left h in
    let b = byte_is (within 0 0) (byte_cut (within 0 0) (byte_cut (within 0 0) test)) (left - 1) a.goes_on in
    let c = byte_is (within 0 0) (byte_cut (within 0 0) test) (left - 1 - 1) b.goes_on in
    let d = byte_is (within 0 0) test (left - 1 - 1 - 1) c.goes_on in
    let same : left - 1 - 1 - 1 - 1 ≡ left - 4 = omega arith in
    (omega (arith, a.counted, b.counted, c.counted, d.counted), sym (ap (test []) same) ∙ d.goes_on)

small_from : (lo hi : ℕ) (test : List ℕ → ℕ → Bool) (left : ℕ) → test [] left ≡ true → small_cut lo hi test [] (4 + left) ≡ true
small_from lo hi test left h =
    filled_from 1 (byte_cut (within 0 0) (byte_cut (within 0 0) (byte_cut (within 0 0) test))) (4 + left) (3 + left) (omega arith)
    (filled_from 1 (byte_cut (within 0 0) (byte_cut (within 0 0) test)) (3 + left) (2 + left) (omega arith)
    (filled_from 1 (byte_cut (within 0 0) test) (2 + left) (1 + left) (omega arith)
    (filled_from 1 test (1 + left) left refl h)))

index_bounds : (left : ℕ) → index_cut [] left ≡ true → (14 ≤ left) × (left ≤ 1607)
index_bounds left h =
    let a = small_is 0 0 (number_cut w32 (index_flags_cut segments_cut)) left h in
    let b = number32_is (index_flags_cut segments_cut) (left - 4) a.1 in
    let c = byte_is (within 0 255) (byte_cut (within 0 3) segments_cut) (left - 4 - 4) b.goes_on in
    let d = byte_is (within 0 3) segments_cut (left - 4 - 4 - 1) c.goes_on in
    let e = within_is 4 1597 (left - 4 - 4 - 1 - 1) d.goes_on in
    (omega (arith, a.0, b.counted, c.counted, d.counted, e.0), omega (arith, a.0, b.counted, c.counted, d.counted, e.1))

index_any : (left : ℕ) → 14 ≤ left → left ≤ 1607 → index_cut [] left ≡ true
index_any left l h =
    let flags : index_flags_cut segments_cut [] (left - 8) ≡ true =
    filled_from 1 (byte_cut (within 0 3) segments_cut) (left - 8) (left - 9) (omega (arith, l)) (filled_from 1 segments_cut (left - 9) (left - 10) (omega (arith, l)) (within_from 4 1597 (left - 10) (omega (arith, l)) (omega (arith, h)))) in
    let order : number_cut w32 (index_flags_cut segments_cut) [] (left - 4) ≡ true = filled_from 4 (index_flags_cut segments_cut) (left - 4) (left - 8) (omega (arith, l)) flags in
    let same : 4 + (left - 4) ≡ left = omega (arith, l) in
    sym (ap (index_cut []) same) ∙ small_from 0 0 (number_cut w32 (index_flags_cut segments_cut)) (left - 4) order

-- ---- schema changes

abbrev pub StepSpelled : ℕ → List ℕ → Type 0
StepSpelled kind bytes =
    Case kind 1 (Number32 NameSpelled)
    (Case kind 2 (Number32 Nothing)
    (Case kind 3 (Number32 (Number16 ColumnSpelled))
    (Case kind 4 (Number32 (Number16 Nothing))
    (Case kind 5 (Number32 (Number16 IndexSpelled))
    (Case kind 6 (Number32 (Number16 Nothing)) (λ bs. ⊥)))))) bytes

decides_id : Decides (number_cut w32 (number_cut w16 end_cut)) (Number32 (Number16 Nothing))
decides_id = decides_number32 (number_cut w16 end_cut) (Number16 Nothing) (decides_number16 end_cut Nothing decides_end)

decides_step : (kind : ℕ) → Decides (step_cut kind) (StepSpelled kind)
decides_step kind =
    let after6 = decides_of kind 6 (number_cut w32 (number_cut w16 end_cut)) (λ bytes missing. false) (Number32 (Number16 Nothing)) (λ bs. ⊥) decides_id decides_never in
    let after5 = decides_of kind 5 (number_cut w32 (number_cut w16 index_cut)) _ (Number32 (Number16 IndexSpelled)) _ (decides_number32 (number_cut w16 index_cut) (Number16 IndexSpelled) (decides_number16 index_cut IndexSpelled decides_index)) after6 in
    let after4 = decides_of kind 4 (number_cut w32 (number_cut w16 end_cut)) _ (Number32 (Number16 Nothing)) _ decides_id after5 in
    let after3 = decides_of kind 3 (number_cut w32 (number_cut w16 column_cut)) _ (Number32 (Number16 ColumnSpelled)) _ (decides_number32 (number_cut w16 column_cut) (Number16 ColumnSpelled) (decides_number16 column_cut ColumnSpelled decides_column)) after4 in
    let after2 = decides_of kind 2 (number_cut w32 end_cut) _ (Number32 Nothing) _ (decides_number32 end_cut Nothing decides_end) after3 in
    decides_of kind 1 (number_cut w32 name_cut) _ (Number32 NameSpelled) _ (decides_number32 name_cut NameSpelled decides_name) after2

abbrev StepBounds : ℕ → Type 0
StepBounds left = (left ≡ 4) ⊎ ((6 ≤ left) × (left ≤ 1613))

id_bounds : (left : ℕ) → number_cut w32 (number_cut w16 end_cut) [] left ≡ true → StepBounds left
id_bounds left t =
    let a = number32_is (number_cut w16 end_cut) left t in
    let b = number16_is end_cut (left - 4) a.goes_on in
    let none = end_is (left - 4 - 2) b.goes_on in
    inr (omega (arith, a.counted, b.counted), omega (arith, a.counted, b.counted, none))

new_index_bounds : (left : ℕ) → number_cut w32 (number_cut w16 index_cut) [] left ≡ true → StepBounds left
new_index_bounds left t =
    let a = number32_is (number_cut w16 index_cut) left t in
    let b = number16_is index_cut (left - 4) a.goes_on in
    let i = index_bounds (left - 4 - 2) b.goes_on in
    inr (omega (arith, a.counted, b.counted), omega (arith, a.counted, b.counted, i.1))

new_column_bounds : (left : ℕ) → number_cut w32 (number_cut w16 column_cut) [] left ≡ true → StepBounds left
new_column_bounds left t =
    let a = number32_is (number_cut w16 column_cut) left t in
    let b = number16_is column_cut (left - 4) a.goes_on in
    let c = byte_is (within 1 13) (byte_cut (within 0 15) name_cut) (left - 4 - 2) b.goes_on in
    let d = byte_is (within 0 15) name_cut (left - 4 - 2 - 1) c.goes_on in
    let e = within_is 2 65 (left - 4 - 2 - 1 - 1) d.goes_on in
    inr (omega (arith, a.counted, b.counted), omega (arith, a.counted, b.counted, c.counted, d.counted, e.1))

no_table_bounds : (left : ℕ) → number_cut w32 end_cut [] left ≡ true → StepBounds left
no_table_bounds left t = let a = number32_is end_cut left t in let none = end_is (left - 4) a.goes_on in inl (omega (arith, a.counted, none))

new_table_bounds : (left : ℕ) → number_cut w32 name_cut [] left ≡ true → StepBounds left
new_table_bounds left t = let a = number32_is name_cut left t in let e = within_is 2 65 (left - 4) a.goes_on in inr (omega (arith, a.counted, e.0), omega (arith, a.counted, e.1))

step_bounds : (kind left : ℕ) → step_cut kind [] left ≡ true → StepBounds left
step_bounds kind left h =
    inputs_of kind 1 (number_cut w32 name_cut [] left) _ h (λ t. new_table_bounds left t) (λ h2.
    inputs_of kind 2 (number_cut w32 end_cut [] left) _ h2 (λ t. no_table_bounds left t) (λ h3.
    inputs_of kind 3 (number_cut w32 (number_cut w16 column_cut) [] left) _ h3 (λ t. new_column_bounds left t) (λ h4.
    inputs_of kind 4 (number_cut w32 (number_cut w16 end_cut) [] left) _ h4 (λ t. id_bounds left t) (λ h5.
    inputs_of kind 5 (number_cut w32 (number_cut w16 index_cut) [] left) _ h5 (λ t. new_index_bounds left t) (λ h6.
    inputs_of kind 6 (number_cut w32 (number_cut w16 end_cut) [] left) false h6 (λ t. id_bounds left t) (λ t. impossible t))))))

abbrev pub SchemaSpelled : List ℕ → Type 0
SchemaSpelled bytes = Then (λ n. n ∷ []) (λ n. ltb n 256) StepSpelled bytes

schema_none_is : (missing : ℕ) → schema_none missing ≡ true → (missing ≡ 5) ⊎ ((7 ≤ missing) × (missing ≤ 1614))
schema_none_is missing h =
    elim (or_cases (eqb missing 5) (within 7 1614 missing) h) [
      | inl five ↦ inl (eqb-true _ _ five)
      | inr more ↦ inr (within_is 7 1614 missing more)
    ]

schema_many : (missing : ℕ) → 7 ≤ missing → missing ≤ 1614 → schema_none missing ≡ true
schema_many missing l h = or_right (eqb missing 5) (within 7 1614 missing) (within_from 7 1614 missing l h)

schema_of : (left : ℕ) → StepBounds left → schema_none (1 + left) ≡ true
schema_of left (inl four) = or_left (eqb (1 + left) 5) (within 7 1614 (1 + left)) (eq-eqb (1 + left) 5 (omega (arith, four)))
schema_of left (inr more) = schema_many (1 + left) (omega (arith, more.0)) (omega (arith, more.1))

pub decides_schema : Decides schema_cut SchemaSpelled
decides_schema =
    decides_case8 step_cut StepSpelled schema_none (λ n small. decides_step n)
    (λ missing few h. elim (schema_none_is missing h) [
      | inl five ↦ (2, missing - 1, omega arith, omega (arith, five), filled_from 4 end_cut (missing - 1) 0 (omega (arith, five)) refl)
      | inr p ↦ elim (cases_lt missing 71) [
        | inl short ↦ (1, missing - 1, omega arith, omega (arith, p.0), filled_from 4 name_cut (missing - 1) (missing - 5) (omega (arith, p.0)) (within_from 2 65 (missing - 5) (omega (arith, p.0)) (omega (arith, short))))
        | inr long ↦ (5, missing - 1, omega arith, omega (arith, p.0), filled_from 4 (number_cut w16 index_cut) (missing - 1) (missing - 5) (omega (arith, p.0)) (filled_from 2 index_cut (missing - 5) (missing - 7) (omega (arith, long)) (index_any (missing - 7) (omega (arith, long)) (omega (arith, p.1)))))
      ]
    ])
    (λ n left few small h. schema_of left (step_bounds n left h))

-- ---- entries

abbrev pub KindSpelled : ℕ → List ℕ → Type 0
KindSpelled tag bytes =
    Case tag 3 (Number32 Nothing)
    (Case tag 4 (Number32 Nothing)
    (Case tag 7 (Number32 (BookmarkThen CopiedThen))
    (Case tag 8 (Number32 (BookmarkThen Nothing))
    (Case tag 9 (Number32 (BookmarkThen (Number16 (Number32 Nothing))))
    (Case tag 10 (Number32 (BookmarkThen Nothing))
    (Case tag 15 SchemaSpelled (Where (within 1 14 tag) Nothing))))))) bytes

decides_kind : (tag : ℕ) → Decides (kind_cut tag) (KindSpelled tag)
decides_kind tag =
    let table = decides_number32 end_cut Nothing decides_end in
    let after15 = decides_of tag 15 schema_cut (λ bytes missing. within 1 14 tag && end_cut bytes missing) SchemaSpelled (Where (within 1 14 tag) Nothing) decides_schema (decides_where (within 1 14 tag) end_cut Nothing (λ h. decides_end)) in
    let after10 = decides_of tag 10 drop_cut _ (Number32 (BookmarkThen Nothing)) _ decides_drop after15 in
    let after9 = decides_of tag 9 add_cut _ (Number32 (BookmarkThen (Number16 (Number32 Nothing)))) _ decides_add after10 in
    let after8 = decides_of tag 8 drop_cut _ (Number32 (BookmarkThen Nothing)) _ decides_drop after9 in
    let after7 = decides_of tag 7 put_cut _ (Number32 (BookmarkThen CopiedThen)) _ decides_put after8 in
    let after4 = decides_of tag 4 (number_cut w32 end_cut) _ (Number32 Nothing) _ table after7 in
    decides_of tag 3 (number_cut w32 end_cut) _ (Number32 Nothing) _ table after4

-- how many bytes the fields of an entry may have
abbrev FieldsLeft : ℕ → Type 0
FieldsLeft left = (left ≡ 0) ⊎ (((4 ≤ left) × (left ≤ 5)) ⊎ (7 ≤ left))

of_table : (left : ℕ) → number_cut w32 end_cut [] left ≡ true → FieldsLeft left
of_table left t =
    let a = number32_is end_cut left t in
    let none = end_is (left - 4) a.goes_on in
    inr (inl (omega (arith, a.counted), omega (arith, a.counted, none)))

of_bookmark : (none : ℕ → Bool) (test : List ℕ → ℕ → Bool) (left : ℕ) → ((n : ℕ) → none n ≡ true → 3 ≤ n) → number_cut w32 (bookmark_cut none test) [] left ≡ true → FieldsLeft left
of_bookmark none test left least t =
    let a = number32_is (bookmark_cut none test) left t in
    inr (inr (omega (arith, a.counted, least (left - 4) a.goes_on)))

of_schema : (left : ℕ) → schema_none left ≡ true → FieldsLeft left
of_schema left t =
    elim (schema_none_is left t) [
      | inl five ↦ inr (inl (omega (arith, five), omega (arith, five)))
      | inr more ↦ inr (inr more.0)
    ]

put_least : (n : ℕ) → put_none n ≡ true → 3 ≤ n
put_least n h = let le : 6 ≤ n = leb-true _ _ h in omega (arith, le)

drop_least : (n : ℕ) → drop_none n ≡ true → 3 ≤ n
drop_least n h = leb-true _ _ (and_parts (leb 3 n) (leb n 257) h).0

add_least : (n : ℕ) → add_none n ≡ true → 3 ≤ n
add_least n h = let le : 9 ≤ n = leb-true _ _ (and_parts (leb 9 n) (leb n 263) h).0 in omega (arith, le)

kind_bounds : (tag left : ℕ) → kind_cut tag [] left ≡ true → FieldsLeft left
kind_bounds tag left h =
    inputs_of tag 3 (number_cut w32 end_cut [] left) _ h (λ t. of_table left t) (λ h4.
    inputs_of tag 4 (number_cut w32 end_cut [] left) _ h4 (λ t. of_table left t) (λ h7.
    inputs_of tag 7 (put_cut [] left) _ h7 (λ t. of_bookmark put_none copied_cut left put_least t) (λ h8.
    inputs_of tag 8 (drop_cut [] left) _ h8 (λ t. of_bookmark drop_none end_cut left drop_least t) (λ h9.
    inputs_of tag 9 (add_cut [] left) _ h9 (λ t. of_bookmark add_none (number_cut w16 (number_cut w32 end_cut)) left add_least t) (λ h10.
    inputs_of tag 10 (drop_cut [] left) _ h10 (λ t. of_bookmark drop_none end_cut left drop_least t) (λ h15.
    inputs_of tag 15 (schema_cut [] left) (within 1 14 tag && end_cut [] left) h15 (λ t. of_schema left t) (λ t. inl (end_is left (and_parts (within 1 14 tag) (end_cut [] left) t).1))))))))

abbrev pub RestSpelled : List ℕ → Type 0
RestSpelled bytes = Then (λ n. n ∷ []) (λ n. ltb n 256) (λ tag. Small 1 99 (KindSpelled tag)) bytes

rest_none_is : (missing : ℕ) → rest_none missing ≡ true → (missing ≡ 5) ⊎ (((9 ≤ missing) × (missing ≤ 10)) ⊎ (12 ≤ missing))
rest_none_is missing h =
    elim (or_cases (eqb missing 5) (within 9 10 missing || leb 12 missing) h) [
      | inl five ↦ inl (eqb-true _ _ five)
      | inr more ↦ elim (or_cases (within 9 10 missing) (leb 12 missing) more) [
        | inl few ↦ inr (inl (within_is 9 10 missing few))
        | inr many ↦ inr (inr (leb-true _ _ many))
      ]
    ]

rest_of : (left : ℕ) → FieldsLeft left → rest_none (1 + (4 + left)) ≡ true
rest_of left (inl none) = or_left (eqb (1 + (4 + left)) 5) (within 9 10 (1 + (4 + left)) || leb 12 (1 + (4 + left))) (eq-eqb (1 + (4 + left)) 5 (omega (arith, none)))
rest_of left (inr (inl few)) =
    or_right (eqb (1 + (4 + left)) 5) (within 9 10 (1 + (4 + left)) || leb 12 (1 + (4 + left)))
    (or_left (within 9 10 (1 + (4 + left))) (leb 12 (1 + (4 + left))) (within_from 9 10 (1 + (4 + left)) (omega (arith, few.0)) (omega (arith, few.1))))
rest_of left (inr (inr many)) =
    or_right (eqb (1 + (4 + left)) 5) (within 9 10 (1 + (4 + left)) || leb 12 (1 + (4 + left)))
    (or_right (within 9 10 (1 + (4 + left))) (leb 12 (1 + (4 + left))) (le-leb 12 (1 + (4 + left)) (omega (arith, many))))

pub decides_rest : Decides rest_cut RestSpelled
decides_rest =
    decides_case8 (λ tag. small_cut 1 99 (kind_cut tag)) (λ tag. Small 1 99 (KindSpelled tag)) rest_none
    (λ tag small. decides_small 1 99 (omega arith) (omega arith) (kind_cut tag) (KindSpelled tag) (decides_kind tag))
    (λ missing few h. elim (rest_none_is missing h) [
      | inl five ↦ (1, 4, omega arith, five, refl)
      | inr (inl some) ↦ elim (cases_lt missing 10) [
        | inl nine ↦ (3, 8, omega arith, omega (arith, some.0, nine), refl)
        | inr ten ↦ (15, 9, omega arith, omega (arith, some.1, ten), small_from 1 99 (kind_cut 15) 5 refl)
      ]
      | inr (inr many) ↦ elim (cases_lt missing 1620) [
        | inl short ↦ (15, 4 + (missing - 5), omega arith, omega (arith, many), small_from 1 99 (kind_cut 15) (missing - 5) (schema_many (missing - 5) (omega (arith, many)) (omega (arith, short))))
        | inr long ↦ (7, 4 + (missing - 5), omega arith, omega (arith, many), small_from 1 99 (kind_cut 7) (missing - 5) (filled_from 4 (bookmark_cut put_none copied_cut) (missing - 5) (missing - 9) (omega (arith, long)) (le-leb 6 (missing - 9) (omega (arith, long)))))
      ]
    ])
    (λ n left few small h.
    let p = small_is 1 99 (kind_cut n) left h in
    let same : 1 + (4 + (left - 4)) ≡ 1 + left = omega (arith, p.0) in
    sym (ap rest_none same) ∙ rest_of (left - 4) (kind_bounds n (left - 4) p.1))
