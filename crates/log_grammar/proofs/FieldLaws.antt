-- The laws of the fields.
use Rattle.std.proofs.Common.{◌≡◌, ℕ, zero, suc, ◌^◌, ◌≤◌, Bool, true, false, ltb, leb, eqb, ◌&&◌, List, [], ◌∷◌, ◌++◌, length, Option, Some, None, refl, sym, ap, subst, ◌∙◌, append_assoc, arith}
use Rattle.std.specs.Int.{w16, w32, to_le_bytes}
use Rattle.std.specs.List.{flat_map, list_all}
use Rattle.std.proofs.lemmas.Bool.{and_parts, and_from, eqb-true, eq-eqb, lt-ltb, leb-true}
use Rattle.std.proofs.lemmas.List.Concat.{flat_map-cons}
use Rattle.column_set.specs.Record.{is_record}
use Rattle.column_set.specs.RecordValues.{RecordFields}
use Rattle.column_set.specs.Rows.{record_values_in_order}
use Rattle.column_set.specs.NumberReading.{◌>>=◌, number_at, IsBytes, bind_some, some_is, Takes, Takes-then}
use Rattle.log_grammar.specs.EntryBytes.{bool_byte, bookmark_bytes, bookmark_fits, copied_bytes, copied_fits, name_bytes, name_fits, record_bytes, record_fits, value_bytes, value_fits, values_bytes}
use Rattle.log_grammar.specs.EntryReading.{both, changed, tested, byte_at, bytes_at, bookmark_at, name_at, flag_of, flag_at, flagged_at, copied_after, copied_at, value_at, next_at, values_at, grouped, record_at}
use Rattle.log_grammar.proofs.Grouping.{do_not_fall, in_order-grouped, grouped-in_order, is_record-grouped, values_in_order}
use Rattle.log_grammar.proofs.Laws.{Laws, both_laws, changed_laws, tested_laws, laws16, laws32, byte_laws, bytes_laws}
use Rattle.log_grammar.proofs.Values.{record_parts}

-- ---- bookmarks and names

-- what stands behind a length that it has
length_fits : (text : List ℕ) → eqb (length text) (length text) ≡ true
length_fits text = eq-eqb (length text) (length text) refl

pub bookmark_laws : Laws bookmark_bytes bookmark_fits bookmark_at
unfolding bookmark_at
bookmark_laws =
    let small : ℕ → Bool = λ n. leb 1 n && leb n 255 in
    let parts = both_laws (to_le_bytes w16) (λ n. ltb n (2 ^ 16) && small n) (tested small (number_at w16)) (λ n text. text) (λ n text. eqb (length text) n) bytes_at (tested_laws small (to_le_bytes w16) (λ n. ltb n (2 ^ 16)) (number_at w16) laws16) bytes_laws in
    changed_laws {A = ℕ × List ℕ} {B = List ℕ} (λ p. to_le_bytes w16 p.0 ++ p.1) (λ p. (ltb p.0 (2 ^ 16) && small p.0) && eqb (length p.1) p.0) (both (tested small (number_at w16)) bytes_at) bookmark_bytes bookmark_fits (λ p. p.1) (λ text. (length text, text)) parts (record {
      back = λ text h. refl;
      back_fits = λ text h.
          let most : length text ≤ 255 = leb-true _ _ (and_parts (leb 1 (length text)) (leb (length text) 255) h).1 in
          and_from (ltb (length text) (2 ^ 16) && small (length text)) (eqb (length text) (length text)) (and_from (ltb (length text) (2 ^ 16)) (small (length text)) (lt-ltb _ _ (omega arith)) h) (length_fits text);
      back_writes = λ text h. refl;
      writes = λ p h.
          let a = and_parts (ltb p.0 (2 ^ 16) && small p.0) (eqb (length p.1) p.0) h in
          ap (λ (n : ℕ). to_le_bytes w16 n ++ p.1) (eqb-true _ _ a.1);
      fits = λ p h.
          let a = and_parts (ltb p.0 (2 ^ 16) && small p.0) (eqb (length p.1) p.0) h in
          ap small (eqb-true _ _ a.1) ∙ (and_parts (ltb p.0 (2 ^ 16)) (small p.0) a.0).1;
    })

pub name_laws : Laws name_bytes name_fits name_at
unfolding name_at
name_laws =
    let small : ℕ → Bool = λ n. leb 1 n && leb n 64 in
    let parts = both_laws (λ n. n ∷ []) (λ n. ltb n 256 && small n) (tested small byte_at) (λ n text. text) (λ n text. eqb (length text) n) bytes_at (tested_laws small (λ n. n ∷ []) (λ n. ltb n 256) byte_at byte_laws) bytes_laws in
    changed_laws {A = ℕ × List ℕ} {B = List ℕ} (λ p. (p.0 ∷ []) ++ p.1) (λ p. (ltb p.0 256 && small p.0) && eqb (length p.1) p.0) (both (tested small byte_at) bytes_at) name_bytes name_fits (λ p. p.1) (λ text. (length text, text)) parts (record {
      back = λ text h. refl;
      back_fits = λ text h.
          let most : length text ≤ 64 = leb-true _ _ (and_parts (leb 1 (length text)) (leb (length text) 64) h).1 in
          and_from (ltb (length text) 256 && small (length text)) (eqb (length text) (length text)) (and_from (ltb (length text) 256) (small (length text)) (lt-ltb _ _ (omega arith)) h) (length_fits text);
      back_writes = λ text h. refl;
      writes = λ p h.
          let a = and_parts (ltb p.0 256 && small p.0) (eqb (length p.1) p.0) h in
          ap (λ (n : ℕ). n ∷ p.1) (eqb-true _ _ a.1);
      fits = λ p h.
          let a = and_parts (ltb p.0 256 && small p.0) (eqb (length p.1) p.0) h in
          ap small (eqb-true _ _ a.1) ∙ (and_parts (ltb p.0 256) (small p.0) a.0).1;
    })

-- ---- flags

flag_is : (n : ℕ) (flag : Bool) → flag_of n ≡ Some flag → n ≡ bool_byte flag
flag_is zero flag e = ap bool_byte (some_is false flag e)
flag_is (suc zero) flag e = ap bool_byte (some_is true flag e)
flag_is (suc (suc n)) flag e = absurd cc

flag_again : (flag : Bool) → flag_of (bool_byte flag) ≡ Some flag
flag_again false = refl
flag_again true = refl

pub flag_laws : Laws (λ flag. bool_byte flag ∷ []) (λ flag. true) flag_at
unfolding flag_at
flag_laws = record {
  again = λ flag rest h. ap (λ (o : Option Bool). o >>= λ f. Some (f, rest)) (flag_again flag);
  takes = λ bytes x fits e.
      let a = bind_some (byte_at bytes) (λ byte. flag_of byte.0 >>= λ flag. Some (flag, byte.1)) x e in
      let b = bind_some (flag_of a.0.0) (λ flag. Some (flag, a.0.1)) x a.2 in
      let t = byte_laws.takes bytes a.0 fits a.1 in
      let made : Takes bytes (bool_byte b.0 ∷ []) a.0.1 × (true ≡ true) = (subst (λ n. Takes bytes (n ∷ []) a.0.1) (flag_is a.0.0 b.0 b.1) t.0, refl) in
      subst (λ (y : Bool × List ℕ). Takes bytes (bool_byte y.0 ∷ []) y.1 × (true ≡ true)) (some_is (b.0, a.0.1) x b.2) made;
}

pub flagged_laws : Laws (λ (p : ℕ × Bool). to_le_bytes w16 p.0 ++ (bool_byte p.1 ∷ [])) (λ p. ltb p.0 (2 ^ 16) && true) flagged_at
unfolding flagged_at
flagged_laws = both_laws (to_le_bytes w16) (λ n. ltb n (2 ^ 16)) (number_at w16) (λ n flag. bool_byte flag ∷ []) (λ n flag. true) (λ n. flag_at) laws16 (λ n. flag_laws)

copied_again : (copied : Option (List ℕ)) (rest : List ℕ) → copied_fits copied ≡ true → copied_at (copied_bytes copied ++ rest) ≡ Some (copied, rest)
unfolding copied_at flag_at
copied_again None rest h = refl
copied_again (Some bookmark) rest h = ap (λ (o : Option (List ℕ × List ℕ)). o >>= λ b. Some (Some b.0, b.1)) (bookmark_laws.again bookmark rest h)

copied_take : (flag : Bool) (bytes after : List ℕ) (x : Option (List ℕ) × List ℕ) → Takes bytes (bool_byte flag ∷ []) after → copied_after flag after ≡ Some x → Takes bytes (copied_bytes x.0) x.1 × (copied_fits x.0 ≡ true)
copied_take false bytes after x t e = subst (λ (y : Option (List ℕ) × List ℕ). Takes bytes (copied_bytes y.0) y.1 × (copied_fits y.0 ≡ true)) (some_is (None, after) x e) (t, refl)
copied_take true bytes after x t e =
    let b = bind_some (bookmark_at after) (λ bookmark. Some (Some bookmark.0, bookmark.1)) x e in
    let s = bookmark_laws.takes after b.0 t.rest_fits b.1 in
    let taken = Takes-then bytes (1 ∷ []) after (bookmark_bytes b.0.0) b.0.1 t s.0 in
    subst (λ (y : Option (List ℕ) × List ℕ). Takes bytes (copied_bytes y.0) y.1 × (copied_fits y.0 ≡ true)) (some_is (Some b.0.0, b.0.1) x b.2) (taken, s.1)

pub copied_laws : Laws copied_bytes copied_fits copied_at
unfolding copied_at
copied_laws = record {
  again = copied_again;
  takes = λ bytes x fits e.
      let a = bind_some (flag_at bytes) (λ flag. copied_after flag.0 flag.1) x e in
      let t = flag_laws.takes bytes a.0 fits a.1 in
      copied_take a.0.0 bytes a.0.1 x t.0 a.2;
}

-- ---- values

pub value_laws : Laws value_bytes value_fits value_at
unfolding value_at
value_laws = record {
  again = λ value rest h.
      let p = and_parts (ltb value.0 (2 ^ 16)) (ltb (length value.1) (2 ^ 32)) h in
      let size = to_le_bytes w32 (length value.1) in
      let regrouped : value_bytes value ++ rest ≡ to_le_bytes w16 value.0 ++ (size ++ (value.1 ++ rest)) =
      append_assoc (to_le_bytes w16 value.0) (size ++ value.1) rest ∙ ap (λ (t : List ℕ). to_le_bytes w16 value.0 ++ t) (append_assoc size value.1 rest) in
      ap value_at regrouped
      ∙ ap (λ (o : Option (ℕ × List ℕ)). o >>= λ column. number_at w32 column.1 >>= λ n. bytes_at n.0 n.1 >>= λ v. Some ((column.0, v.0), v.1)) (laws16.again value.0 (size ++ (value.1 ++ rest)) p.0)
      ∙ ap (λ (o : Option (ℕ × List ℕ)). o >>= λ n. bytes_at n.0 n.1 >>= λ v. Some ((value.0, v.0), v.1)) (laws32.again (length value.1) (value.1 ++ rest) p.1)
      ∙ ap (λ (o : Option (List ℕ × List ℕ)). o >>= λ v. Some ((value.0, v.0), v.1)) ((bytes_laws (length value.1)).again value.1 rest (length_fits value.1));
  takes = λ bytes x fits e.
      let a = bind_some (number_at w16 bytes) (λ column. number_at w32 column.1 >>= λ n. bytes_at n.0 n.1 >>= λ v. Some ((column.0, v.0), v.1)) x e in
      let b = bind_some (number_at w32 a.0.1) (λ n. bytes_at n.0 n.1 >>= λ v. Some ((a.0.0, v.0), v.1)) x a.2 in
      let c = bind_some (bytes_at b.0.0 b.0.1) (λ v. Some ((a.0.0, v.0), v.1)) x b.2 in
      let t0 = laws16.takes bytes a.0 fits a.1 in
      let t1 = laws32.takes a.0.1 b.0 t0.0.rest_fits b.1 in
      let t2 = (bytes_laws b.0.0).takes b.0.1 c.0 t1.0.rest_fits c.1 in
      let size : length c.0.0 ≡ b.0.0 = eqb-true _ _ t2.1 in
      let inner = Takes-then a.0.1 (to_le_bytes w32 b.0.0) b.0.1 c.0.0 c.0.1 t1.0 t2.0 in
      let whole = Takes-then bytes (to_le_bytes w16 a.0.0) a.0.1 (to_le_bytes w32 b.0.0 ++ c.0.0) c.0.1 t0.0 inner in
      let made : Takes bytes (value_bytes (a.0.0, c.0.0)) c.0.1 × (value_fits (a.0.0, c.0.0) ≡ true) =
      (subst (λ n. Takes bytes (to_le_bytes w16 a.0.0 ++ (to_le_bytes w32 n ++ c.0.0)) c.0.1) (sym size) whole, and_from (ltb a.0.0 (2 ^ 16)) (ltb (length c.0.0) (2 ^ 32)) t0.1 (ap (λ n. ltb n (2 ^ 32)) size ∙ t1.1)) in
      subst (λ (y : (ℕ × List ℕ) × List ℕ). Takes bytes (value_bytes y.0) y.1 × (value_fits y.0 ≡ true)) (some_is ((a.0.0, c.0.0), c.0.1) x c.2) made;
}

next_laws : (least : ℕ) → Laws value_bytes (λ value. value_fits value && leb least value.0) (next_at least)
unfolding next_at
next_laws least = tested_laws (λ value. leb least value.0) value_bytes value_fits value_at value_laws

values_again : (least : ℕ) (values : List (ℕ × List ℕ)) (rest : List ℕ) → do_not_fall least values ≡ true → list_all value_fits values ≡ true → values_at least (length values) (flat_map value_bytes values ++ rest) ≡ Some (values, rest)
unfolding values_at
values_again least [] rest order fits = refl
values_again least (value ∷ values) rest order fits =
    let o = and_parts (leb least value.0) (do_not_fall value.0 values) order in
    let f = and_parts (value_fits value) (list_all value_fits values) fits in
    let regrouped : flat_map value_bytes (value ∷ values) ++ rest ≡ value_bytes value ++ (flat_map value_bytes values ++ rest) = ap (λ (x : List ℕ). x ++ rest) (flat_map-cons value_bytes value values) ∙ append_assoc (value_bytes value) (flat_map value_bytes values) rest in
    ap (values_at least (suc (length values))) regrouped
    ∙ ap (λ (r : Option ((ℕ × List ℕ) × List ℕ)). r >>= λ first. values_at first.0.0 (length values) first.1 >>= λ others. Some (first.0 ∷ others.0, others.1)) ((next_laws least).again value (flat_map value_bytes values ++ rest) (and_from (value_fits value) (leb least value.0) f.0 o.0))
    ∙ ap (λ (r : Option (List (ℕ × List ℕ) × List ℕ)). r >>= λ others. Some (value ∷ others.0, others.1)) (values_again value.0 values rest o.1 f.1)

record TakesValues (least n : ℕ) (bytes : List ℕ) (values : List (ℕ × List ℕ)) (rest : List ℕ) : Type 0 where
  taken : Takes bytes (flat_map value_bytes values) rest
  count : length values ≡ n
  order : do_not_fall least values ≡ true
  fits : list_all value_fits values ≡ true

values_take : (least n : ℕ) (bytes : List ℕ) (x : List (ℕ × List ℕ) × List ℕ) → IsBytes bytes → values_at least n bytes ≡ Some x → TakesValues least n bytes x.0 x.1
unfolding values_at
values_take least zero bytes x fits e =
    subst (λ (y : List (ℕ × List ℕ) × List ℕ). TakesValues least 0 bytes y.0 y.1) (some_is ([], bytes) x e) (record { taken = record { parts = refl; rest_fits = fits }; count = refl; order = refl; fits = refl })
values_take least (suc n) bytes x fits e =
    let a = bind_some (next_at least bytes) (λ first. values_at first.0.0 n first.1 >>= λ others. Some (first.0 ∷ others.0, others.1)) x e in
    let b = bind_some (values_at a.0.0.0 n a.0.1) (λ others. Some (a.0.0 ∷ others.0, others.1)) x a.2 in
    let first = (next_laws least).takes bytes a.0 fits a.1 in
    let second = values_take a.0.0.0 n a.0.1 b.0 first.0.rest_fits b.1 in
    let p = and_parts (value_fits a.0.0) (leb least a.0.0.0) first.1 in
    let taken = Takes-then bytes (value_bytes a.0.0) a.0.1 (flat_map value_bytes b.0.0) b.0.1 first.0 second.taken in
    let made : TakesValues least (suc n) bytes (a.0.0 ∷ b.0.0) b.0.1 = record {
      taken = rw flat_map-cons taken;
      count = ap suc second.count;
      order = and_from (leb least a.0.0.0) (do_not_fall a.0.0.0 b.0.0) p.1 second.order;
      fits = and_from (value_fits a.0.0) (list_all value_fits b.0.0) p.0 second.fits;
    } in
    subst (λ (y : List (ℕ × List ℕ) × List ℕ). TakesValues least (suc n) bytes y.0 y.1) (some_is (a.0.0 ∷ b.0.0, b.0.1) x b.2) made

abbrev counted : ℕ → Option (List (ℕ × List ℕ) × List ℕ) → Option ((ℕ × List (ℕ × List ℕ)) × List ℕ)
counted n o = o >>= λ v. Some ((n, v.0), v.1)

abbrev remade : Option ((ℕ × List (ℕ × List ℕ)) × List ℕ) → Option (RecordFields × List ℕ)
remade o = o >>= λ x. Some (grouped x.0.1, x.1)

pub record_laws : Laws record_bytes record_fits record_at
unfolding record_at
record_laws = record {
  again = λ fields rest h.
      let p = record_parts fields h in
      let values = record_values_in_order fields in
      ap record_at (append_assoc (to_le_bytes w16 (length values)) (flat_map value_bytes values) rest)
      ∙ ap (λ (o : Option (ℕ × List ℕ)). remade (o >>= λ n. counted n.0 (values_at 0 n.0 n.1))) (laws16.again (length values) (flat_map value_bytes values ++ rest) (lt-ltb _ _ p.count))
      ∙ ap (λ (o : Option (List (ℕ × List ℕ) × List ℕ)). remade (counted (length values) o)) (values_again 0 values rest (values_in_order fields p.formed) p.values)
      ∙ ap (λ (f : RecordFields). Some (f, rest)) (grouped-in_order fields p.formed);
  takes = λ bytes x fits e.
      let z = bind_some (both (number_at w16) (values_at 0) bytes) (λ a. Some (grouped a.0.1, a.1)) x e in
      let a = bind_some (number_at w16 bytes) (λ n. values_at 0 n.0 n.1 >>= λ v. Some ((n.0, v.0), v.1)) z.0 z.1 in
      let b = bind_some (values_at 0 a.0.0 a.0.1) (λ v. Some ((a.0.0, v.0), v.1)) z.0 a.2 in
      let t0 = laws16.takes bytes a.0 fits a.1 in
      let t1 = values_take 0 a.0.0 a.0.1 b.0 t0.0.rest_fits b.1 in
      let taken = Takes-then bytes (to_le_bytes w16 a.0.0) a.0.1 (flat_map value_bytes b.0.0) b.0.1 t0.0 t1.taken in
      let counted : Takes bytes (values_bytes b.0.0) b.0.1 = subst (λ n. Takes bytes (to_le_bytes w16 n ++ flat_map value_bytes b.0.0) b.0.1) (sym t1.count) taken in
      let same = in_order-grouped b.0.0 in
      let count : ltb (length b.0.0) (2 ^ 16) ≡ true = ap (λ n. ltb n (2 ^ 16)) t1.count ∙ t0.1 in
      let made : Takes bytes (record_bytes (grouped b.0.0)) b.0.1 × (record_fits (grouped b.0.0) ≡ true) = (
        subst (λ v. Takes bytes (values_bytes v) b.0.1) (sym same) counted,
        and_from (is_record (grouped b.0.0)) (ltb (length (record_values_in_order (grouped b.0.0))) (2 ^ 16) && list_all value_fits (record_values_in_order (grouped b.0.0))) (is_record-grouped b.0.0 t1.order)
            (subst (λ (v : List (ℕ × List ℕ)). (ltb (length v) (2 ^ 16) && list_all value_fits v) ≡ true) (sym same) (and_from (ltb (length b.0.0) (2 ^ 16)) (list_all value_fits b.0.0) count t1.fits)),
      ) in
      let is : (grouped b.0.0, b.0.1) ≡ x = some_is (grouped b.0.0, b.0.1) x (ap (λ (y : (ℕ × List (ℕ × List ℕ)) × List ℕ). Some (grouped y.0.1, y.1)) (some_is ((a.0.0, b.0.0), b.0.1) z.0 b.2) ∙ z.2) in
      subst (λ (y : RecordFields × List ℕ). Takes bytes (record_bytes y.0) y.1 × (record_fits y.0 ≡ true)) is made;
}
