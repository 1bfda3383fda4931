-- A field that is read is the field that was written, and what was written is read again.
use Rattle.std.proofs.Common.{◌≡◌, ℕ, zero, suc, ◌+◌, ◌^◌, ◌<◌, ◌≤◌, true, false, cond, ltb, leb, eqb, ◌&&◌, ◌||◌, List, [], ◌∷◌, ◌++◌, length, take, drop, Some, None, refl, sym, ap, subst, ◌∙◌, append_assoc, arith}
use Rattle.std.specs.Int.{Width, w16, w32, w64, byte_len, from_le_bytes, to_le_bytes}
use Rattle.std.proofs.lemmas.Bool.{ltb-true, ltb-false, le-ltb, lt-ltb, le-leb, leb-true, and_parts, and_from, eqb-true, or_parts}
use Rattle.std.proofs.lemmas.List.{take_at, drop_at, take-append-drop, length-append, length-drop, length-take}
use Rattle.column_set.specs.declared.rows.RowValue.{RowValue}
use Rattle.column_set.specs.declared.rows.RowValue.TheVariants.{Here, Apart}
use Rattle.column_set.specs.Rows.{value_fits_row, room_in_row, value_bytes}
use Rattle.column_set.specs.NumberReading.{◌>>=◌, number_at, IsBytes, IsBytes-drop, bind_some, guard_some, passed_some, some_is, Takes, Takes-then, wide16, wide32, wide64, number_takes, number_again}
use Rattle.column_set.specs.RowReading.{form_at, here_at, apart_at, body_at, value_at}

-- ---- the parts of a value

abbrev form_of : RowValue → ℕ
form_of (Here bytes) = 0
form_of (Apart entry place size) = 1

abbrev body_of : RowValue → List ℕ
body_of (Here bytes) = bytes
body_of (Apart entry place size) = to_le_bytes w64 entry ++ to_le_bytes w32 place ++ to_le_bytes w32 size

value_bytes-parts : (column : ℕ) (value : RowValue) → value_bytes (column, value) ≡ to_le_bytes w16 column ++ (form_of value ∷ to_le_bytes w16 (room_in_row value)) ++ body_of value
value_bytes-parts column (Here bytes) = refl
value_bytes-parts column (Apart entry place size) = refl

-- what was read behind a form and a count
record TakesBody (form n : ℕ) (bytes : List ℕ) (value : RowValue) (rest : List ℕ) : Type 0 where
  is_form : form ≡ form_of value
  is_count : n ≡ room_in_row value
  taken : Takes bytes (body_of value) rest
  value_fits : value_fits_row value ≡ true

here_takes : (n : ℕ) (bytes : List ℕ) (x : RowValue × List ℕ) → IsBytes bytes → here_at n bytes ≡ Some x → TakesBody 0 n bytes x.0 x.1
unfolding here_at
here_takes n bytes x fits e =
    let g = guard_some (ltb 255 n || ltb (length bytes) n) (Here (take n bytes), drop n bytes) x e in
    let t = or_parts (ltb 255 n) (ltb (length bytes) n) g.0 in
    let short : n ≤ 255 = ltb-false _ _ t.0 in
    let long : n ≤ length bytes = ltb-false _ _ t.1 in
    let len : length (take n bytes) ≡ n = omega (arith, length-take n bytes) in
    let made : TakesBody 0 n bytes (Here (take n bytes)) (drop n bytes) = record {
      is_form = refl;
      is_count = sym len;
      taken = record { parts = sym (take-append-drop n bytes); rest_fits = IsBytes-drop n bytes fits };
      value_fits = le-leb _ _ (omega arith);
    } in
    subst (λ (y : RowValue × List ℕ). TakesBody 0 n bytes y.0 y.1) g.1 made

apart_takes : (bytes : List ℕ) (x : RowValue × List ℕ) → IsBytes bytes → apart_at bytes ≡ Some x → TakesBody 1 16 bytes x.0 x.1
unfolding apart_at
apart_takes bytes x fits e =
    let last = λ (entry place : ℕ) (y : ℕ × List ℕ). cond (ltb y.0 256 || ltb 1048576 y.0) None (Some (Apart entry place y.0, y.1)) in
    let a = bind_some (number_at w64 bytes) (λ entry. number_at w32 entry.1 >>= λ place. number_at w32 place.1 >>= last entry.0 place.0) x e in
    let b = bind_some (number_at w32 a.0.1) (λ place. number_at w32 place.1 >>= last a.0.0 place.0) x a.2 in
    let c = bind_some (number_at w32 b.0.1) (last a.0.0 b.0.0) x b.2 in
    let g = guard_some (ltb c.0.0 256 || ltb 1048576 c.0.0) (Apart a.0.0 b.0.0 c.0.0, c.0.1) x c.2 in
    let t = or_parts (ltb c.0.0 256) (ltb 1048576 c.0.0) g.0 in
    let t0 = number_takes w64 (2 ^ 64) wide64 bytes a.0.0 a.0.1 fits a.1 in
    let t1 = number_takes w32 (2 ^ 32) wide32 a.0.1 b.0.0 b.0.1 t0.0.rest_fits b.1 in
    let t2 = number_takes w32 (2 ^ 32) wide32 b.0.1 c.0.0 c.0.1 t1.0.rest_fits c.1 in
    let least : 256 ≤ c.0.0 = ltb-false _ _ t.0 in
    let most : c.0.0 ≤ 1048576 = ltb-false _ _ t.1 in
    let two = Takes-then bytes (to_le_bytes w64 a.0.0) a.0.1 (to_le_bytes w32 b.0.0) b.0.1 t0.0 t1.0 in
    let three = Takes-then bytes (to_le_bytes w64 a.0.0 ++ to_le_bytes w32 b.0.0) b.0.1 (to_le_bytes w32 c.0.0) c.0.1 two t2.0 in
    let made : TakesBody 1 16 bytes (Apart a.0.0 b.0.0 c.0.0) c.0.1 = record {
      is_form = refl;
      is_count = refl;
      taken = three;
      value_fits = and_from _ _ (and_from _ _ (and_from _ _ (lt-ltb a.0.0 (2 ^ 64) t0.1) (lt-ltb b.0.0 (2 ^ 32) t1.1)) (le-leb 256 c.0.0 least)) (le-leb c.0.0 1048576 most);
    } in
    subst (λ (y : RowValue × List ℕ). TakesBody 1 16 bytes y.0 y.1) g.1 made

body_takes : (form n : ℕ) (bytes : List ℕ) (x : RowValue × List ℕ) → IsBytes bytes → body_at form n bytes ≡ Some x → TakesBody form n bytes x.0 x.1
unfolding body_at
body_takes zero n bytes x fits e = here_takes n bytes x fits e
body_takes (suc zero) n bytes x fits e =
    let g = passed_some (eqb n 16) (apart_at bytes) x e in
    let is : n ≡ 16 = eqb-true n 16 g.0 in
    subst (λ (k : ℕ). TakesBody 1 k bytes x.0 x.1) (sym is) (apart_takes bytes x fits g.1)
body_takes (suc (suc form)) n bytes x fits e = absurd cc

form_takes : (bytes : List ℕ) (form : ℕ) (rest : List ℕ) → IsBytes bytes → form_at bytes ≡ Some (form, rest) → Takes bytes (form ∷ []) rest
form_takes [] form rest fits e = absurd cc
form_takes (b ∷ bytes) form rest fits e =
    let is = some_is (b, bytes) (form, rest) e in
    subst (λ (y : ℕ × List ℕ). Takes (b ∷ bytes) (y.0 ∷ []) y.1) is (record { parts = refl; rest_fits = λ i. fits (suc i) })

pub record TakesValue (bytes : List ℕ) (value : ℕ × RowValue) (rest : List ℕ) : Type 0 where
  pub taken : Takes bytes (value_bytes value) rest
  pub column_fits : value.0 < 2 ^ 16
  pub value_fits : value_fits_row value.1 ≡ true

pub value_takes : (bytes : List ℕ) (x : (ℕ × RowValue) × List ℕ) → IsBytes bytes → value_at bytes ≡ Some x → TakesValue bytes x.0 x.1
unfolding value_at
value_takes bytes x fits e =
    let a = bind_some (number_at w16 bytes) (λ column. form_at column.1 >>= λ form. number_at w16 form.1 >>= λ n. body_at form.0 n.0 n.1 >>= λ body. Some ((column.0, body.0), body.1)) x e in
    let b = bind_some (form_at a.0.1) (λ form. number_at w16 form.1 >>= λ n. body_at form.0 n.0 n.1 >>= λ body. Some ((a.0.0, body.0), body.1)) x a.2 in
    let c = bind_some (number_at w16 b.0.1) (λ n. body_at b.0.0 n.0 n.1 >>= λ body. Some ((a.0.0, body.0), body.1)) x b.2 in
    let d = bind_some (body_at b.0.0 c.0.0 c.0.1) (λ body. Some ((a.0.0, body.0), body.1)) x c.2 in
    let t0 = number_takes w16 (2 ^ 16) wide16 bytes a.0.0 a.0.1 fits a.1 in
    let t1 = form_takes a.0.1 b.0.0 b.0.1 t0.0.rest_fits b.1 in
    let t2 = number_takes w16 (2 ^ 16) wide16 b.0.1 c.0.0 c.0.1 t1.rest_fits c.1 in
    let t3 = body_takes b.0.0 c.0.0 c.0.1 d.0 t2.0.rest_fits d.1 in
    let value = d.0.0 in
    let head = Takes-then a.0.1 (b.0.0 ∷ []) b.0.1 (to_le_bytes w16 c.0.0) c.0.1 t1 t2.0 in
    let front = Takes-then bytes (to_le_bytes w16 a.0.0) a.0.1 (b.0.0 ∷ to_le_bytes w16 c.0.0) c.0.1 t0.0 head in
    let whole = Takes-then bytes (to_le_bytes w16 a.0.0 ++ (b.0.0 ∷ to_le_bytes w16 c.0.0)) c.0.1 (body_of value) d.0.1 front t3.taken in
    let spelled : to_le_bytes w16 a.0.0 ++ (b.0.0 ∷ to_le_bytes w16 c.0.0) ++ body_of value ≡ value_bytes (a.0.0, value) =
    ap (λ (form : ℕ). to_le_bytes w16 a.0.0 ++ (form ∷ to_le_bytes w16 c.0.0) ++ body_of value) t3.is_form
    ∙ ap (λ (n : ℕ). to_le_bytes w16 a.0.0 ++ (form_of value ∷ to_le_bytes w16 n) ++ body_of value) t3.is_count
    ∙ sym (value_bytes-parts a.0.0 value) in
    let made : TakesValue bytes (a.0.0, value) d.0.1 = record {
      taken = subst (λ (text : List ℕ). Takes bytes text d.0.1) spelled whole;
      column_fits = t0.1;
      value_fits = t3.value_fits;
    } in
    subst (λ (y : (ℕ × RowValue) × List ℕ). TakesValue bytes y.0 y.1) (some_is ((a.0.0, value), d.0.1) x d.2) made

-- ---- what was written is read again

here_again : (text rest : List ℕ) → length text ≤ 255 → here_at (length text) (text ++ rest) ≡ Some (Here text, rest)
unfolding here_at
here_again text rest le =
    let short : ltb 255 (length text) ≡ false = le-ltb _ _ le in
    let long : ltb (length (text ++ rest)) (length text) ≡ false = le-ltb _ _ (omega (arith, length-append text rest)) in
    rw (short, long, take_at text rest (length text) refl, drop_at text rest (length text) refl) refl

apart_again : (entry place size : ℕ) (rest : List ℕ) → entry < 2 ^ 64 → place < 2 ^ 32 → 256 ≤ size → size ≤ 1048576 → apart_at (to_le_bytes w64 entry ++ (to_le_bytes w32 place ++ (to_le_bytes w32 size ++ rest))) ≡ Some (Apart entry place size, rest)
unfolding apart_at
apart_again entry place size rest a b least most =
    let low : ltb size 256 ≡ false = le-ltb _ _ least in
    let high : ltb 1048576 size ≡ false = le-ltb _ _ most in
    rw (number_again w64 (2 ^ 64) wide64 entry (to_le_bytes w32 place ++ (to_le_bytes w32 size ++ rest)) a, number_again w32 (2 ^ 32) wide32 place (to_le_bytes w32 size ++ rest) b, number_again w32 (2 ^ 32) wide32 size rest (omega arith), low, high) refl

body_again : (value : RowValue) (rest : List ℕ) → value_fits_row value ≡ true → body_at (form_of value) (room_in_row value) (body_of value ++ rest) ≡ Some (value, rest)
unfolding body_at
body_again (Here text) rest fits = here_again text rest (leb-true _ _ fits)
body_again (Apart entry place size) rest fits =
    let a = and_parts (ltb entry (2 ^ 64) && ltb place (2 ^ 32) && leb 256 size) (leb size 1048576) fits in
    let b = and_parts (ltb entry (2 ^ 64) && ltb place (2 ^ 32)) (leb 256 size) a.0 in
    let c = and_parts (ltb entry (2 ^ 64)) (ltb place (2 ^ 32)) b.0 in
    apart_again entry place size rest (ltb-true _ _ c.0) (ltb-true _ _ c.1) (leb-true _ _ b.1) (leb-true _ _ a.1)

room_is_small : (value : RowValue) → value_fits_row value ≡ true → room_in_row value < 2 ^ 16
room_is_small (Here text) fits = let le : length text ≤ 255 = leb-true _ _ fits in omega arith
room_is_small (Apart entry place size) fits = omega arith

pub value_again : (value : ℕ × RowValue) (rest : List ℕ) → value.0 < 2 ^ 16 → value_fits_row value.1 ≡ true → value_at (value_bytes value ++ rest) ≡ Some (value, rest)
unfolding value_at
value_again value rest lt fits =
    let column = value.0 in
    let count = to_le_bytes w16 (room_in_row value.1) in
    let regrouped : value_bytes value ++ rest ≡ to_le_bytes w16 column ++ (form_of value.1 ∷ (count ++ (body_of value.1 ++ rest))) =
    ap (λ (t : List ℕ). t ++ rest) (value_bytes-parts column value.1)
    ∙ append_assoc (to_le_bytes w16 column ++ (form_of value.1 ∷ count)) (body_of value.1) rest
    ∙ append_assoc (to_le_bytes w16 column) (form_of value.1 ∷ count) (body_of value.1 ++ rest) in
    ap value_at regrouped ∙ rw (number_again w16 (2 ^ 16) wide16 column (form_of value.1 ∷ (count ++ (body_of value.1 ++ rest))) lt, number_again w16 (2 ^ 16) wide16 (room_in_row value.1) (body_of value.1 ++ rest) (room_is_small value.1 fits), body_again value.1 rest fits) refl

-- ---- what is left behind a field

number_rest : (w : Width) (bytes : List ℕ) (x : ℕ × List ℕ) → number_at w bytes ≡ Some x → length x.1 + byte_len w ≡ length bytes
number_rest w bytes x e =
    let g = guard_some (ltb (length bytes) (byte_len w)) (from_le_bytes w (take (byte_len w) bytes), drop (byte_len w) bytes) x e in
    let long : byte_len w ≤ length bytes = ltb-false _ _ g.0 in
    let rest-is : length (drop (byte_len w) bytes) ≡ length x.1 = ap (λ (p : ℕ × List ℕ). length p.1) g.1 in
    omega (arith, length-drop (byte_len w) bytes)

form_rest : (bytes : List ℕ) (x : ℕ × List ℕ) → form_at bytes ≡ Some x → length x.1 ≤ length bytes
form_rest [] x e = absurd cc
form_rest (b ∷ bytes) x e = let rest-is : length bytes ≡ length x.1 = ap (λ (p : ℕ × List ℕ). length p.1) (some_is (b, bytes) x e) in omega arith

body_rest : (form n : ℕ) (bytes : List ℕ) (x : RowValue × List ℕ) → body_at form n bytes ≡ Some x → length x.1 ≤ length bytes
unfolding body_at here_at apart_at
body_rest zero n bytes x e =
    let g = guard_some (ltb 255 n || ltb (length bytes) n) (Here (take n bytes), drop n bytes) x e in
    let rest-is : length (drop n bytes) ≡ length x.1 = ap (λ (p : RowValue × List ℕ). length p.1) g.1 in
    omega (arith, length-drop n bytes)
body_rest (suc zero) n bytes x e =
    let last = λ (entry place : ℕ) (y : ℕ × List ℕ). cond (ltb y.0 256 || ltb 1048576 y.0) None (Some (Apart entry place y.0, y.1)) in
    let p = passed_some (eqb n 16) (apart_at bytes) x e in
    let a = bind_some (number_at w64 bytes) (λ entry. number_at w32 entry.1 >>= λ place. number_at w32 place.1 >>= last entry.0 place.0) x p.1 in
    let b = bind_some (number_at w32 a.0.1) (λ place. number_at w32 place.1 >>= last a.0.0 place.0) x a.2 in
    let c = bind_some (number_at w32 b.0.1) (last a.0.0 b.0.0) x b.2 in
    let g = guard_some (ltb c.0.0 256 || ltb 1048576 c.0.0) (Apart a.0.0 b.0.0 c.0.0, c.0.1) x c.2 in
    let rest-is : length c.0.1 ≡ length x.1 = ap (λ (p : RowValue × List ℕ). length p.1) g.1 in
    omega (arith, number_rest w64 bytes a.0 a.1, number_rest w32 a.0.1 b.0 b.1, number_rest w32 b.0.1 c.0 c.1)
body_rest (suc (suc form)) n bytes x e = absurd cc

pub value_rest : (bytes : List ℕ) (x : (ℕ × RowValue) × List ℕ) → value_at bytes ≡ Some x → length x.1 < length bytes
unfolding value_at
value_rest bytes x e =
    let a = bind_some (number_at w16 bytes) (λ column. form_at column.1 >>= λ form. number_at w16 form.1 >>= λ n. body_at form.0 n.0 n.1 >>= λ body. Some ((column.0, body.0), body.1)) x e in
    let b = bind_some (form_at a.0.1) (λ form. number_at w16 form.1 >>= λ n. body_at form.0 n.0 n.1 >>= λ body. Some ((a.0.0, body.0), body.1)) x a.2 in
    let c = bind_some (number_at w16 b.0.1) (λ n. body_at b.0.0 n.0 n.1 >>= λ body. Some ((a.0.0, body.0), body.1)) x b.2 in
    let d = bind_some (body_at b.0.0 c.0.0 c.0.1) (λ body. Some ((a.0.0, body.0), body.1)) x c.2 in
    let rest-is : length d.0.1 ≡ length x.1 = ap (λ (p : (ℕ × RowValue) × List ℕ). length p.1) (some_is ((a.0.0, d.0.0), d.0.1) x d.2) in
    omega (arith, number_rest w16 bytes a.0 a.1, form_rest a.0.1 b.0 b.1, number_rest w16 b.0.1 c.0 c.1, body_rest b.0.0 c.0.0 c.0.1 d.0 d.1)
