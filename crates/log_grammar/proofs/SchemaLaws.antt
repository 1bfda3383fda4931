-- The laws of schema changes.
use Rattle.std.proofs.Common.{◌≡◌, ℕ, zero, suc, ◌^◌, ◌<◌, ◌≤◌, Bool, true, false, cond, ltb, eqb, ◌&&◌, List, [], ◌∷◌, ◌++◌, length, Option, Some, None, refl, sym, ap, subst, ◌∙◌, arith, inl, inr}
use Rattle.std.specs.Prelude.{not}
use Rattle.std.specs.Int.{w16, w32, to_le_bytes}
use Rattle.std.specs.List.{flat_map, list_all}
use Rattle.std.proofs.lemmas.Bool.{cases_lt, and_parts, and_from, eqb-true, eq-eqb, ltb-true, lt-ltb, not-true}
use Rattle.jet_base.specs.Ids.{index_id}
use Rattle.jet_base.specs.declared.words.ColType.{ColType}
use Rattle.jet_base.specs.declared.words.ColType.TheVariants.{Bit, UnsignedByte, Short, UnsignedShort, Long, UnsignedLong, LongLong, Currency, Guid, Binary, Text, LongBinary, LongText}
use Rattle.column_set.specs.declared.columns.Column.{Column}
use Rattle.column_set.specs.NumberReading.{◌>>=◌, number_at, bind_some, some_is, Takes}
use Rattle.index_derive.specs.declared.rules.Condition.{Condition}
use Rattle.index_derive.specs.declared.rules.IndexFlags.{IndexFlags}
use Rattle.index_derive.specs.declared.rules.IndexRule.{IndexRule}
use Rattle.index_derive.specs.declared.rules.Segment.{Segment}
use Rattle.log_grammar.specs.EntryBytes.{bool_byte, number_of_bits, type_number, column_flags, column_bytes, column_fits, index_flags, segment_bytes, segment_fits, condition_bytes, condition_fits, index_bytes, index_fits, name_bytes, name_fits}
use Rattle.log_grammar.specs.EntryReading.{both, changed, tested, many_at, byte_at, name_at, flagged_at, type_of, type_at, bit, column_of, column_at, segment_of, segment_at, segments_at, condition_of, condition_at, conditions_at, flags_of, index_head_at, index_of, index_at}
use Rattle.log_grammar.proofs.FieldLaws.{name_laws, flagged_laws}
use Rattle.log_grammar.proofs.Fits.{index_parts}
use Rattle.log_grammar.proofs.Laws.{Laws, both_laws, changed_laws, tested_laws, many_laws, laws16, laws32, byte_laws}

-- ---- types

type_again : (type : ColType) → type_of (type_number type) ≡ Some type
type_again Bit = refl
type_again UnsignedByte = refl
type_again Short = refl
type_again UnsignedShort = refl
type_again Long = refl
type_again UnsignedLong = refl
type_again LongLong = refl
type_again Currency = refl
type_again Guid = refl
type_again Binary = refl
type_again Text = refl
type_again LongBinary = refl
type_again LongText = refl

-- a number that is one of a list, or none of the tests holds
next_type : (n k : ℕ) (type found : ColType) (rest : Option ColType) → type_number type ≡ k → (rest ≡ Some found → n ≡ type_number found) → cond (eqb n k) (Some type) rest ≡ Some found → n ≡ type_number found
next_type n k type found rest is next e = step (eqb n k) refl e where
  step : (b : Bool) → eqb n k ≡ b → cond b (Some type) rest ≡ Some found → n ≡ type_number found
  step true test here = eqb-true n k test ∙ sym is ∙ ap type_number (some_is type found here)
  step false test here = next here

type_is : (n : ℕ) (type : ColType) → type_of n ≡ Some type → n ≡ type_number type
type_is n type =
    next_type n 1 Bit type _ refl (next_type n 2 UnsignedByte type _ refl (next_type n 3 Short type _ refl (next_type n 4 UnsignedShort type _ refl (next_type n 5 Long type _ refl
    (next_type n 6 UnsignedLong type _ refl (next_type n 7 LongLong type _ refl (next_type n 8 Currency type _ refl (next_type n 9 Guid type _ refl (next_type n 10 Binary type _ refl
    (next_type n 11 Text type _ refl (next_type n 12 LongBinary type _ refl (next_type n 13 LongText type None refl (λ e. absurd cc)))))))))))))

type_laws : Laws (λ type. type_number type ∷ []) (λ type. true) type_at
unfolding type_at
type_laws = record {
  again = λ type rest h. ap (λ (o : Option ColType). o >>= λ t. Some (t, rest)) (type_again type);
  takes = λ bytes x fits e.
      let a = bind_some (byte_at bytes) (λ byte. type_of byte.0 >>= λ t. Some (t, byte.1)) x e in
      let b = bind_some (type_of a.0.0) (λ t. Some (t, a.0.1)) x a.2 in
      let t = byte_laws.takes bytes a.0 fits a.1 in
      let made : Takes bytes (type_number b.0 ∷ []) a.0.1 × (true ≡ true) = (subst (λ n. Takes bytes (n ∷ []) a.0.1) (type_is a.0.0 b.0 b.1) t.0, refl) in
      subst (λ (y : ColType × List ℕ). Takes bytes (type_number y.0 ∷ []) y.1 × (true ≡ true)) (some_is (b.0, a.0.1) x b.2) made;
}

-- ---- bits

bit_small : (b : Bool) → bool_byte b ≤ 1
bit_small true = omega arith
bit_small false = omega arith

bit_is : (b : Bool) → eqb (bool_byte b) 1 ≡ b
bit_is true = refl
bit_is false = refl

bit_from : (a b : Bool) → bool_byte a ≡ bool_byte b → a ≡ b
bit_from true true e = refl
bit_from false false e = refl
bit_from true false e = absurd (omega (arith, e))
bit_from false true e = absurd (omega (arith, e))

-- flags of one number are the same
same_bits : (xs ys : List Bool) → length xs ≡ length ys → number_of_bits xs ≡ number_of_bits ys → xs ≡ ys
same_bits [] [] l e = refl
same_bits [] (y ∷ ys) l e = absurd (omega (arith, l))
same_bits (x ∷ xs) [] l e = absurd (omega (arith, l))
same_bits (x ∷ xs) (y ∷ ys) l e =
    let first : bool_byte x ≡ bool_byte y = omega (arith, e, bit_small x, bit_small y) in
    let others : number_of_bits xs ≡ number_of_bits ys = omega (arith, e, bit_small x, bit_small y) in
    let shorter : length xs ≡ length ys = omega (arith, l) in
    λ i. bit_from x y first i ∷ same_bits xs ys shorter others i

-- the numbers below n
abbrev below : ℕ → List ℕ
below zero = []
below (suc n) = n ∷ below n

each_below : (p : ℕ → Bool) (n k : ℕ) → list_all p (below n) ≡ true → k < n → p k ≡ true
each_below p zero k h lt = absurd (omega arith)
each_below p (suc n) k h lt =
    let a = and_parts (p n) (list_all p (below n)) h in
    elim (cases_lt k n) [
      | inl less ↦ each_below p n k a.1 less
      | inr more ↦ let is : n ≡ k = omega arith in subst (λ j. p j ≡ true) is a.0
    ]

abbrev column_bits : ℕ → List Bool
column_bits flags = bit 1 flags ∷ bit 2 flags ∷ bit 4 flags ∷ bit 8 flags ∷ []

column_number : (flags : ℕ) → flags < 16 → number_of_bits (column_bits flags) ≡ flags
column_number flags lt = eqb-true _ _ (each_below (λ n. eqb (number_of_bits (column_bits n)) n) 16 flags refl lt)

index_number : (flags : ℕ) → flags < 1024 → index_flags (flags_of flags) ≡ flags
index_number flags lt = eqb-true _ _ (each_below (λ n. eqb (index_flags (flags_of n)) n) 1024 flags refl lt)

column_flags_small : (column : Column) → column_flags column < 16
column_flags_small column = omega (arith, bit_small column.tagged, bit_small column.multi, bit_small column.not_null, bit_small column.escrow)

index_flags_small : (flags : IndexFlags) → index_flags flags < 1024
index_flags_small flags = omega (arith, bit_small flags.primary, bit_small flags.unique, bit_small flags.disallownull, bit_small flags.ignorenull, bit_small flags.ignoreanynull, bit_small flags.ignorefirstnull, bit_small flags.sortnullshigh, bit_small flags.crossproduct, bit_small flags.disallowtruncation, bit_small flags.tuples)

abbrev index_bits : IndexFlags → List Bool
index_bits flags = flags.primary ∷ flags.unique ∷ flags.disallownull ∷ flags.ignorenull ∷ flags.ignoreanynull ∷ flags.ignorefirstnull ∷ flags.sortnullshigh ∷ flags.crossproduct ∷ flags.disallowtruncation ∷ flags.tuples ∷ []

abbrev head_of : List Bool → Bool
head_of [] = false
head_of (b ∷ bs) = b

abbrev tail_of : List Bool → List Bool
tail_of [] = []
tail_of (b ∷ bs) = bs

abbrev flags_from : List Bool → IndexFlags
flags_from bits =
    let b1 = tail_of bits in let b2 = tail_of b1 in let b3 = tail_of b2 in let b4 = tail_of b3 in let b5 = tail_of b4 in let b6 = tail_of b5 in let b7 = tail_of b6 in let b8 = tail_of b7 in let b9 = tail_of b8 in
    record { primary = head_of bits; unique = head_of b1; disallownull = head_of b2; ignorenull = head_of b3; ignoreanynull = head_of b4; ignorefirstnull = head_of b5; sortnullshigh = head_of b6; crossproduct = head_of b7; disallowtruncation = head_of b8; tuples = head_of b9 }

flags_again : (flags : IndexFlags) → flags_of (index_flags flags) ≡ flags
flags_again flags = ap flags_from (same_bits (index_bits (flags_of (index_flags flags))) (index_bits flags) refl (index_number (index_flags flags) (index_flags_small flags)))

pub index_flags_laws : Laws (λ flags. to_le_bytes w16 (index_flags flags)) (λ flags. true) (changed flags_of (tested (λ n. ltb n 1024) (number_at w16)))
index_flags_laws = changed_laws {A = ℕ} {B = IndexFlags} (to_le_bytes w16) (λ n. ltb n (2 ^ 16) && ltb n 1024) (tested (λ n. ltb n 1024) (number_at w16)) (λ flags. to_le_bytes w16 (index_flags flags)) (λ flags. true) flags_of index_flags (tested_laws (λ n. ltb n 1024) (to_le_bytes w16) (λ n. ltb n (2 ^ 16)) (number_at w16) laws16) (record {
  back = λ flags h. flags_again flags;
  back_fits = λ flags h. let lt = index_flags_small flags in and_from (ltb (index_flags flags) (2 ^ 16)) (ltb (index_flags flags) 1024) (lt-ltb _ _ (omega (arith, lt))) (lt-ltb _ _ lt);
  back_writes = λ flags h. refl;
  writes = λ n h. ap (to_le_bytes w16) (index_number n (ltb-true _ _ (and_parts (ltb n (2 ^ 16)) (ltb n 1024) h).1));
  fits = λ n h. refl;
})

-- ---- columns

column_again : (column : Column) → column.version ≡ false → column.auto ≡ false → column_of column.id.0 (column.kind, (column_flags column, column.name)) ≡ column
column_again column v a =
    let bits = column_bits (column_flags column) in
    let same : bits ≡ column.tagged ∷ column.multi ∷ column.not_null ∷ column.escrow ∷ [] = same_bits bits (column.tagged ∷ column.multi ∷ column.not_null ∷ column.escrow ∷ []) refl (column_number (column_flags column) (column_flags_small column)) in
    λ i. record { id = column.id; name = column.name; kind = column.kind; tagged = head_of (same i); multi = head_of (tail_of (same i)); not_null = head_of (tail_of (tail_of (same i))); escrow = head_of (tail_of (tail_of (tail_of (same i)))); version = sym v i; auto = sym a i }

pub record ColumnParts (column : Column) : Type 0 where
  pub id : ltb column.id.0 (2 ^ 16) ≡ true
  pub name : name_fits column.name ≡ true
  pub version : column.version ≡ false
  pub auto : column.auto ≡ false

column_parts : (column : Column) → column_fits column ≡ true → ColumnParts column
column_parts column h =
    let a = and_parts (ltb column.id.0 (2 ^ 16)) (name_fits column.name && (not column.version && not column.auto)) h in
    let b = and_parts (name_fits column.name) (not column.version && not column.auto) a.1 in
    let c = and_parts (not column.version) (not column.auto) b.1 in
    record { id = a.0; name = b.0; version = not-true _ c.0; auto = not-true _ c.1 }

abbrev flags4 : List ℕ → Option (ℕ × List ℕ)
flags4 bytes = tested (λ flags. ltb flags 16) byte_at bytes

parts_laws : Laws (λ (p : ColType × (ℕ × List ℕ)). (type_number p.0 ∷ []) ++ ((p.1.0 ∷ []) ++ name_bytes p.1.1)) (λ p. true && ((ltb p.1.0 256 && ltb p.1.0 16) && name_fits p.1.1)) (both type_at (λ kind. both flags4 (λ flags. name_at)))
parts_laws =
    both_laws (λ type. type_number type ∷ []) (λ type. true) type_at (λ type (p : ℕ × List ℕ). (p.0 ∷ []) ++ name_bytes p.1) (λ type p. (ltb p.0 256 && ltb p.0 16) && name_fits p.1) (λ kind. both flags4 (λ flags. name_at)) type_laws
    (λ type. both_laws (λ n. n ∷ []) (λ n. ltb n 256 && ltb n 16) flags4 (λ n name. name_bytes name) (λ n name. name_fits name) (λ n. name_at) (tested_laws (λ n. ltb n 16) (λ n. n ∷ []) (λ n. ltb n 256) byte_at byte_laws) (λ n. name_laws))

-- the columns of this number
pub column_laws : (id : ℕ) → ltb id (2 ^ 16) ≡ true → Laws column_bytes (λ column. column_fits column && eqb column.id.0 id) (column_at id)
unfolding column_at
column_laws id small = changed_laws {A = ColType × (ℕ × List ℕ)} {B = Column} (λ p. (type_number p.0 ∷ []) ++ ((p.1.0 ∷ []) ++ name_bytes p.1.1)) (λ p. true && ((ltb p.1.0 256 && ltb p.1.0 16) && name_fits p.1.1)) (both type_at (λ kind. both flags4 (λ flags. name_at)))
    column_bytes (λ column. column_fits column && eqb column.id.0 id) (column_of id) (λ column. (column.kind, (column_flags column, column.name))) parts_laws (record {
      back = λ column h.
          let a = and_parts (column_fits column) (eqb column.id.0 id) h in
          let p = column_parts column a.0 in
          ap (λ n. column_of n (column.kind, (column_flags column, column.name))) (sym (eqb-true _ _ a.1)) ∙ column_again column p.version p.auto;
      back_fits = λ column h.
          let p = column_parts column (and_parts (column_fits column) (eqb column.id.0 id) h).0 in
          let lt = column_flags_small column in
          and_from (ltb (column_flags column) 256 && ltb (column_flags column) 16) (name_fits column.name) (and_from (ltb (column_flags column) 256) (ltb (column_flags column) 16) (lt-ltb _ _ (omega (arith, lt))) (lt-ltb _ _ lt)) p.name;
      back_writes = λ column h. refl;
      writes = λ p h.
          let a = and_parts (ltb p.1.0 256 && ltb p.1.0 16) (name_fits p.1.1) h in
          let b = and_parts (ltb p.1.0 256) (ltb p.1.0 16) a.0 in
          ap (λ n. type_number p.0 ∷ n ∷ name_bytes p.1.1) (column_number p.1.0 (ltb-true _ _ b.1));
      fits = λ p h.
          let a = and_parts (ltb p.1.0 256 && ltb p.1.0 16) (name_fits p.1.1) h in
          and_from (column_fits (column_of id p)) (eqb id id) (and_from (ltb id (2 ^ 16)) (name_fits p.1.1 && true) small (and_from (name_fits p.1.1) true a.1 refl)) (eq-eqb id id refl);
    })

-- ---- indexes

pub segment_laws : Laws segment_bytes segment_fits segment_at
unfolding segment_at
segment_laws = changed_laws {A = ℕ × Bool} {B = Segment} (λ p. to_le_bytes w16 p.0 ++ (bool_byte p.1 ∷ [])) (λ p. ltb p.0 (2 ^ 16) && true) flagged_at segment_bytes segment_fits segment_of (λ s. (s.column.0, s.descending)) flagged_laws (record {
  back = λ s h. refl;
  back_fits = λ s h. and_from (ltb s.column.0 (2 ^ 16)) true h refl;
  back_writes = λ s h. refl;
  writes = λ p h. refl;
  fits = λ p h. (and_parts (ltb p.0 (2 ^ 16)) true h).0;
})

pub condition_laws : Laws condition_bytes condition_fits condition_at
unfolding condition_at
condition_laws = changed_laws {A = ℕ × Bool} {B = Condition} (λ p. to_le_bytes w16 p.0 ++ (bool_byte p.1 ∷ [])) (λ p. ltb p.0 (2 ^ 16) && true) flagged_at condition_bytes condition_fits condition_of (λ s. (s.column.0, s.must_be_null)) flagged_laws (record {
  back = λ s h. refl;
  back_fits = λ s h. and_from (ltb s.column.0 (2 ^ 16)) true h refl;
  back_writes = λ s h. refl;
  writes = λ p h. refl;
  fits = λ p h. (and_parts (ltb p.0 (2 ^ 16)) true h).0;
})

-- a list behind its count
list_laws : {A : Type 0} (w : A → List ℕ) (f : A → Bool) (r : List ℕ → Option (A × List ℕ)) → Laws w f r
    → Laws (λ (xs : List A). length xs ∷ flat_map w xs) (λ xs. ltb (length xs) 256 && list_all f xs) (changed (λ (x : ℕ × List A). x.1) (both byte_at (many_at r)))
list_laws {A = A} w f r laws = changed_laws {A = ℕ × List A} {B = List A} (λ p. (p.0 ∷ []) ++ flat_map w p.1) (λ p. ltb p.0 256 && (eqb (length p.1) p.0 && list_all f p.1)) (both byte_at (many_at r))
    (λ xs. length xs ∷ flat_map w xs) (λ xs. ltb (length xs) 256 && list_all f xs) (λ p. p.1) (λ xs. (length xs, xs))
    (both_laws (λ n. n ∷ []) (λ n. ltb n 256) byte_at (λ n. flat_map w) (λ n xs. eqb (length xs) n && list_all f xs) (many_at r) byte_laws (λ n. many_laws w f r laws n)) (record {
      back = λ xs h. refl;
      back_fits = λ xs h.
          let a = and_parts (ltb (length xs) 256) (list_all f xs) h in
          and_from (ltb (length xs) 256) (eqb (length xs) (length xs) && list_all f xs) a.0 (and_from (eqb (length xs) (length xs)) (list_all f xs) (eq-eqb (length xs) (length xs) refl) a.1);
      back_writes = λ xs h. refl;
      writes = λ p h.
          let a = and_parts (ltb p.0 256) (eqb (length p.1) p.0 && list_all f p.1) h in
          let b = and_parts (eqb (length p.1) p.0) (list_all f p.1) a.1 in
          ap (λ n. n ∷ flat_map w p.1) (eqb-true _ _ b.0);
      fits = λ p h.
          let a = and_parts (ltb p.0 256) (eqb (length p.1) p.0 && list_all f p.1) h in
          let b = and_parts (eqb (length p.1) p.0) (list_all f p.1) a.1 in
          and_from (ltb (length p.1) 256) (list_all f p.1) (ap (λ n. ltb n 256) (eqb-true _ _ b.0) ∙ a.0) b.1;
    })

abbrev segments_bytes : List Segment → List ℕ
segments_bytes xs = length xs ∷ flat_map segment_bytes xs

abbrev segments_fit : List Segment → Bool
segments_fit xs = ltb (length xs) 256 && list_all segment_fits xs

abbrev conditions_bytes : List Condition → List ℕ
conditions_bytes xs = length xs ∷ flat_map condition_bytes xs

abbrev conditions_fit : List Condition → Bool
conditions_fit xs = ltb (length xs) 256 && list_all condition_fits xs

pub segments_laws : Laws segments_bytes segments_fit segments_at
unfolding segments_at
segments_laws = list_laws segment_bytes segment_fits segment_at segment_laws

pub conditions_laws : Laws conditions_bytes conditions_fit conditions_at
unfolding conditions_at
conditions_laws = list_laws condition_bytes condition_fits condition_at condition_laws

abbrev head_bytes : ℕ × IndexFlags → List ℕ
head_bytes p = to_le_bytes w32 0 ++ (to_le_bytes w32 p.0 ++ to_le_bytes w16 (index_flags p.1))

abbrev head_fits : ℕ × IndexFlags → Bool
head_fits p = ltb p.0 (2 ^ 32)

abbrev root_at : List ℕ → Option (ℕ × List ℕ)
root_at bytes = tested (λ root. eqb root 0) (number_at w32) bytes

abbrev index_flags_at : List ℕ → Option (IndexFlags × List ℕ)
index_flags_at bytes = changed flags_of (tested (λ n. ltb n 1024) (number_at w16)) bytes

head_laws : Laws head_bytes head_fits index_head_at
unfolding index_head_at
head_laws = changed_laws {A = ℕ × (ℕ × IndexFlags)} {B = ℕ × IndexFlags} (λ p. to_le_bytes w32 p.0 ++ (to_le_bytes w32 p.1.0 ++ to_le_bytes w16 (index_flags p.1.1))) (λ p. (ltb p.0 (2 ^ 32) && eqb p.0 0) && (ltb p.1.0 (2 ^ 32) && true))
    (both root_at (λ root. both (number_at w32) (λ order. index_flags_at))) head_bytes head_fits (λ p. p.1) (λ p. (0, p))
    (both_laws (to_le_bytes w32) (λ n. ltb n (2 ^ 32) && eqb n 0) root_at (λ root (p : ℕ × IndexFlags). to_le_bytes w32 p.0 ++ to_le_bytes w16 (index_flags p.1)) (λ root p. ltb p.0 (2 ^ 32) && true) (λ root. both (number_at w32) (λ order. index_flags_at))
    (tested_laws (λ root. eqb root 0) (to_le_bytes w32) (λ n. ltb n (2 ^ 32)) (number_at w32) laws32)
    (λ root. both_laws (to_le_bytes w32) (λ n. ltb n (2 ^ 32)) (number_at w32) (λ order flags. to_le_bytes w16 (index_flags flags)) (λ order flags. true) (λ order. index_flags_at) laws32 (λ order. index_flags_laws))) (record {
      back = λ p h. refl;
      back_fits = λ p h. and_from (ltb p.0 (2 ^ 32)) true h refl;
      back_writes = λ p h. refl;
      writes = λ p h.
          let a = and_parts (ltb p.0 (2 ^ 32) && eqb p.0 0) (ltb p.1.0 (2 ^ 32) && true) h in
          let b = and_parts (ltb p.0 (2 ^ 32)) (eqb p.0 0) a.0 in
          ap (λ n. to_le_bytes w32 n ++ (to_le_bytes w32 p.1.0 ++ to_le_bytes w16 (index_flags p.1.1))) (sym (eqb-true _ _ b.1));
      fits = λ p h.
          let a = and_parts (ltb p.0 (2 ^ 32) && eqb p.0 0) (ltb p.1.0 (2 ^ 32) && true) h in
          (and_parts (ltb p.1.0 (2 ^ 32)) true a.1).0;
    })

abbrev IndexData : Type 0
IndexData = (ℕ × IndexFlags) × (List Segment × (List Condition × List ℕ))

abbrev data_bytes : IndexData → List ℕ
data_bytes x = head_bytes x.0 ++ (segments_bytes x.1.0 ++ (conditions_bytes x.1.1.0 ++ name_bytes x.1.1.1))

abbrev data_fits : IndexData → Bool
data_fits x = head_fits x.0 && (segments_fit x.1.0 && (conditions_fit x.1.1.0 && name_fits x.1.1.1))

data_laws : Laws data_bytes data_fits (both index_head_at (λ head. both segments_at (λ segments. both conditions_at (λ conditions. name_at))))
data_laws =
    both_laws head_bytes head_fits index_head_at (λ head (p : List Segment × (List Condition × List ℕ)). segments_bytes p.0 ++ (conditions_bytes p.1.0 ++ name_bytes p.1.1)) (λ head p. segments_fit p.0 && (conditions_fit p.1.0 && name_fits p.1.1)) (λ head. both segments_at (λ segments. both conditions_at (λ conditions. name_at))) head_laws
    (λ head. both_laws segments_bytes segments_fit segments_at (λ s (p : List Condition × List ℕ). conditions_bytes p.0 ++ name_bytes p.1) (λ s p. conditions_fit p.0 && name_fits p.1) (λ s. both conditions_at (λ conditions. name_at)) segments_laws
    (λ s. both_laws conditions_bytes conditions_fit conditions_at (λ c. name_bytes) (λ c. name_fits) (λ c. name_at) conditions_laws (λ c. name_laws)))

-- the indexes of this number
pub index_laws : (id : ℕ) → ltb id (2 ^ 16) ≡ true → Laws index_bytes (λ index. index_fits index && eqb index.id.0 id) (index_at id)
unfolding index_at index_bytes
index_laws id small = changed_laws {A = IndexData} {B = IndexRule} data_bytes data_fits (both index_head_at (λ head. both segments_at (λ segments. both conditions_at (λ conditions. name_at))))
    index_bytes (λ index. index_fits index && eqb index.id.0 id) (index_of id) (λ index. ((index.order, index.flags), (index.segments, (index.conditions, index.name)))) data_laws (record {
      back = λ index h.
          let a = and_parts (index_fits index) (eqb index.id.0 id) h in
          let most = eqb-true _ _ (index_parts index a.0).key_most in
          let number = eqb-true _ _ a.1 in
          λ i. record { id = index_id (sym number i); name = index.name; order = index.order; segments = index.segments; flags = index.flags; conditions = index.conditions; key_most = sym most i };
      back_fits = λ index h.
          let p = index_parts index (and_parts (index_fits index) (eqb index.id.0 id) h).0 in
          and_from (ltb index.order (2 ^ 32)) (segments_fit index.segments && (conditions_fit index.conditions && name_fits index.name)) (lt-ltb _ _ p.order)
          (and_from (segments_fit index.segments) (conditions_fit index.conditions && name_fits index.name) (and_from (ltb (length index.segments) 256) (list_all segment_fits index.segments) (lt-ltb _ _ p.segment_count) p.segments)
          (and_from (conditions_fit index.conditions) (name_fits index.name) (and_from (ltb (length index.conditions) 256) (list_all condition_fits index.conditions) (lt-ltb _ _ p.condition_count) p.conditions) p.name));
      back_writes = λ index h. refl;
      writes = λ x h. refl;
      fits = λ x h.
          let a = and_parts (head_fits x.0) (segments_fit x.1.0 && (conditions_fit x.1.1.0 && name_fits x.1.1.1)) h in
          let b = and_parts (segments_fit x.1.0) (conditions_fit x.1.1.0 && name_fits x.1.1.1) a.1 in
          let c = and_parts (conditions_fit x.1.1.0) (name_fits x.1.1.1) b.1 in
          and_from (index_fits (index_of id x)) (eqb id id)
          (and_from (ltb id (2 ^ 16)) (ltb x.0.0 (2 ^ 32) && (segments_fit x.1.0 && (conditions_fit x.1.1.0 && (name_fits x.1.1.1 && true)))) small
          (and_from (ltb x.0.0 (2 ^ 32)) (segments_fit x.1.0 && (conditions_fit x.1.1.0 && (name_fits x.1.1.1 && true))) a.0
          (and_from (segments_fit x.1.0) (conditions_fit x.1.1.0 && (name_fits x.1.1.1 && true)) b.0
          (and_from (conditions_fit x.1.1.0) (name_fits x.1.1.1 && true) c.0 (and_from (name_fits x.1.1.1) true c.1 refl)))))
          (eq-eqb id id refl);
    })
