-- Names, columns and indexes, field by field and as they are written.
use Rattle.std.proofs.Common.{◌≡◌, ℕ, zero, suc, ◌+◌, ◌-◌, ◌*◌, ◌/◌, ◌%◌, ◌^◌, ◌<◌, ◌≤◌, Bool, true, false, ltb, eqb, ◌&&◌, List, [], ◌∷◌, ◌++◌, length, refl, sym, ap, subst, ◌∙◌, append-nil, append_assoc, arith}
use Rattle.std.specs.Prelude.{not}
use Rattle.std.specs.Int.{w16, w32, to_le_bytes}
use Rattle.std.specs.List.{flat_map, list_all}
use Rattle.std.proofs.lemmas.Bool.{and_parts, and_from, eqb-true, eq-eqb, ltb-true, lt-ltb}
use Rattle.std.proofs.lemmas.List.Concat.{flat_map-cons}
use Rattle.jet_base.specs.Ids.{column_id, index_id}
use Rattle.jet_base.specs.declared.words.ColType.{ColType}
use Rattle.jet_base.specs.declared.words.ColType.TheVariants.{Bit, UnsignedByte, Short, UnsignedShort, Long, UnsignedLong, LongLong, Currency, Guid, Binary, Text, LongBinary, LongText}
use Rattle.column_set.specs.declared.columns.Column.{Column}
use Rattle.index_derive.specs.declared.rules.Condition.{Condition}
use Rattle.index_derive.specs.declared.rules.IndexFlags.{IndexFlags}
use Rattle.index_derive.specs.declared.rules.IndexRule.{IndexRule}
use Rattle.index_derive.specs.declared.rules.Segment.{Segment}
use Rattle.log_grammar.specs.EntryBytes.{bool_byte, number_of_bits, type_number, column_flags, column_bytes, column_fits, index_flags, segment_bytes, segment_fits, condition_bytes, condition_fits, index_bytes, index_fits, name_bytes, name_fits}
use Rattle.log_record.specs.EntryCuts.{name_size, within}
use Rattle.log_record.proofs.CutCases.{bytes_of_two}
use Rattle.log_record.proofs.CutChanges.{Number32}
use Rattle.log_record.proofs.CutFields.{ByteThen}
use Rattle.log_record.proofs.CutSchemas.{ColumnSpelled, Counted, IndexSpelled, NameSpelled, Pairs, Small, within_is, within_from}
use Rattle.log_record.proofs.CutValues.{spelled}
use Rattle.log_grammar.proofs.Fits.{index_parts}

-- ---- names

pub record IsName (bytes : List ℕ) : Type 0 where
  pub name : List ℕ
  pub fits : name_fits name ≡ true
  pub written : bytes ≡ name_bytes name

pub name_of : (bytes : List ℕ) → NameSpelled bytes → IsName bytes
name_of bytes c =
    let t = c.goes_on.rest in
    let size : c.first ≡ length t.first = sym (eqb-true _ _ t.first_fits) in
    let own : c.behind ≡ t.first = t.parts ∙ ap (λ (r : List ℕ). t.first ++ r) t.goes_on ∙ append-nil t.first in
    record { name = t.first; fits = subst (λ n. name_size n ≡ true) size c.goes_on.holds_true; written = c.parts ∙ (λ k. size k ∷ own k) }

pub name_then : (name bytes : List ℕ) → name_fits name ≡ true → bytes ≡ name_bytes name → NameSpelled bytes
name_then name bytes fits written =
    let most : length name ≤ 64 = (within_is 1 64 (length name) fits).1 in
    record {
      first = length name;
      behind = name;
      first_fits = lt-ltb _ _ (omega (arith, most));
      parts = written;
      goes_on = record { holds_true = fits; rest = record { first = name; behind = []; first_fits = eq-eqb (length name) (length name) refl; parts = sym (append-nil name); goes_on = refl } };
    }

-- ---- bytes within bounds

pub record IsByte (lo hi : ℕ) (Rest : List ℕ → Type 0) (bytes : List ℕ) : Type 0 where
  pub byte : ℕ
  pub behind : List ℕ
  pub least : lo ≤ byte
  pub most : byte ≤ hi
  pub small : byte < 256
  pub written : bytes ≡ byte ∷ behind
  pub rest : Rest behind

pub byte_of : (lo hi : ℕ) (Rest : List ℕ → Type 0) (bytes : List ℕ) → ByteThen (within lo hi) Rest bytes → IsByte lo hi Rest bytes
byte_of lo hi Rest bytes b =
    let p = within_is lo hi b.first b.goes_on.holds_true in
    record { byte = b.first; behind = b.behind; least = p.0; most = p.1; small = ltb-true _ _ b.first_fits; written = b.parts; rest = b.goes_on.rest }

pub byte_then : (lo hi : ℕ) (Rest : List ℕ → Type 0) (bytes : List ℕ) → hi < 256 → (byte : ℕ) (behind : List ℕ) → lo ≤ byte → byte ≤ hi → bytes ≡ byte ∷ behind → Rest behind → ByteThen (within lo hi) Rest bytes
byte_then lo hi Rest bytes lt byte behind l h written rest = record { first = byte; behind = behind; first_fits = lt-ltb byte 256 (omega (arith, h, lt)); parts = written; goes_on = record { holds_true = within_from lo hi byte l h; rest = rest } }

pub record IsSmall (lo hi : ℕ) (Rest : List ℕ → Type 0) (bytes : List ℕ) : Type 0 where
  pub number : ℕ
  pub behind : List ℕ
  pub least : lo ≤ number
  pub most : number ≤ hi
  pub written : bytes ≡ to_le_bytes w32 number ++ behind
  pub rest : Rest behind

pub small_of : (lo hi : ℕ) (Rest : List ℕ → Type 0) (bytes : List ℕ) → Small lo hi Rest bytes → IsSmall lo hi Rest bytes
small_of lo hi Rest bytes s =
    let a = byte_of lo hi (ByteThen (within 0 0) (ByteThen (within 0 0) (ByteThen (within 0 0) Rest))) bytes s in
    let b = byte_of 0 0 (ByteThen (within 0 0) (ByteThen (within 0 0) Rest)) a.behind a.rest in
    let c = byte_of 0 0 (ByteThen (within 0 0) Rest) b.behind b.rest in
    let d = byte_of 0 0 Rest c.behind c.rest in
    let own : to_le_bytes w32 a.byte ≡ a.byte ∷ b.byte ∷ c.byte ∷ d.byte ∷ [] = spelled a.byte b.byte c.byte d.byte a.byte a.small b.small c.small d.small (omega (arith, b.most, c.most, d.most)) in
    record {
      number = a.byte;
      behind = d.behind;
      least = a.least;
      most = a.most;
      written = a.written ∙ ap (λ (t : List ℕ). a.byte ∷ t) (b.written ∙ ap (λ (t : List ℕ). b.byte ∷ t) (c.written ∙ ap (λ (t : List ℕ). c.byte ∷ t) d.written)) ∙ sym (ap (λ (t : List ℕ). t ++ d.behind) own);
      rest = d.rest;
    }

pub small_then : (lo hi : ℕ) (Rest : List ℕ → Type 0) (bytes : List ℕ) → hi < 256 → (number : ℕ) (behind : List ℕ) → lo ≤ number → number ≤ hi → bytes ≡ to_le_bytes w32 number ++ behind → Rest behind → Small lo hi Rest bytes
small_then lo hi Rest bytes lt number behind l h written rest =
    let own : to_le_bytes w32 number ≡ number ∷ 0 ∷ 0 ∷ 0 ∷ [] = spelled number 0 0 0 number (omega (arith, h, lt)) (omega arith) (omega arith) (omega arith) (omega arith) in
    byte_then lo hi (ByteThen (within 0 0) (ByteThen (within 0 0) (ByteThen (within 0 0) Rest))) bytes lt number (0 ∷ 0 ∷ 0 ∷ behind) l h (written ∙ ap (λ (t : List ℕ). t ++ behind) own)
    (byte_then 0 0 (ByteThen (within 0 0) (ByteThen (within 0 0) Rest)) (0 ∷ 0 ∷ 0 ∷ behind) (omega arith) 0 (0 ∷ 0 ∷ behind) (omega arith) (omega arith) refl
    (byte_then 0 0 (ByteThen (within 0 0) Rest) (0 ∷ 0 ∷ behind) (omega arith) 0 (0 ∷ behind) (omega arith) (omega arith) refl
    (byte_then 0 0 Rest (0 ∷ behind) (omega arith) 0 behind (omega arith) (omega arith) refl rest)))

-- ---- flags

Bits : ℕ → ℕ → Type 0
Bits zero n = n ≡ 0
Bits (suc k) n = (bit : Bool) × (others : ℕ) × (n ≡ bool_byte bit + 2 * others) × Bits k others

weight : ℕ → ℕ
weight zero = 1
weight (suc k) = 2 * weight k

odd : (n : ℕ) → n < 2 → (bit : Bool) × (bool_byte bit ≡ n)
odd zero lt = (false, refl)
odd (suc zero) lt = (true, refl)
odd (suc (suc n)) lt = absurd (omega (arith, lt))

bits : (k n : ℕ) → n < weight k → Bits k n
unfolding Bits weight
bits zero n lt = omega (arith, lt)
bits (suc k) n lt =
    let b = odd (n % 2) (omega arith) in
    (b.0, n / 2, omega (arith, b.1), bits k (n / 2) (omega (arith, lt)))

bool_small : (b : Bool) → bool_byte b ≤ 1
bool_small true = omega arith
bool_small false = omega arith

record ColumnBits (n : ℕ) : Type 0 where
  tagged : Bool
  multi : Bool
  not_null : Bool
  escrow : Bool
  is : n ≡ number_of_bits (tagged ∷ multi ∷ not_null ∷ escrow ∷ [])

column_bits : (n : ℕ) → n ≤ 15 → ColumnBits n
unfolding Bits weight
column_bits n le =
    let a = bits 4 n (omega (arith, le)) in
    let b = a.3 in
    let c = b.3 in
    let d = c.3 in
    record { tagged = a.0; multi = b.0; not_null = c.0; escrow = d.0; is = omega (arith, a.2, b.2, c.2, d.2, d.3) }

record IndexBits (n : ℕ) : Type 0 where
  flags : IndexFlags
  is : n ≡ index_flags flags

index_bits : (n : ℕ) → n ≤ 1023 → IndexBits n
unfolding Bits weight
index_bits n le =
    let a = bits 10 n (omega (arith, le)) in
    let b = a.3 in
    let c = b.3 in
    let d = c.3 in
    let e = d.3 in
    let f = e.3 in
    let g = f.3 in
    let h = g.3 in
    let i = h.3 in
    let j = i.3 in
    let flags : IndexFlags = record { primary = a.0; unique = b.0; disallownull = c.0; ignorenull = d.0; ignoreanynull = e.0; ignorefirstnull = f.0; sortnullshigh = g.0; crossproduct = h.0; disallowtruncation = i.0; tuples = j.0 } in
    record { flags = flags; is = omega (arith, a.2, b.2, c.2, d.2, e.2, f.2, g.2, h.2, i.2, j.2, j.3) }

-- ---- columns

type_from : (n : ℕ) → 1 ≤ n → n ≤ 13 → (type : ColType) × (type_number type ≡ n)
type_from zero l h = absurd (omega (arith, l))
type_from (suc zero) l h = (Bit, refl)
type_from (suc (suc zero)) l h = (UnsignedByte, refl)
type_from (suc (suc (suc zero))) l h = (Short, refl)
type_from (suc (suc (suc (suc zero)))) l h = (UnsignedShort, refl)
type_from (suc (suc (suc (suc (suc zero))))) l h = (Long, refl)
type_from (suc (suc (suc (suc (suc (suc zero)))))) l h = (UnsignedLong, refl)
type_from (suc (suc (suc (suc (suc (suc (suc zero))))))) l h = (LongLong, refl)
type_from (suc (suc (suc (suc (suc (suc (suc (suc zero)))))))) l h = (Currency, refl)
type_from (suc (suc (suc (suc (suc (suc (suc (suc (suc zero))))))))) l h = (Guid, refl)
type_from (suc (suc (suc (suc (suc (suc (suc (suc (suc (suc zero)))))))))) l h = (Binary, refl)
type_from (suc (suc (suc (suc (suc (suc (suc (suc (suc (suc (suc zero))))))))))) l h = (Text, refl)
type_from (suc (suc (suc (suc (suc (suc (suc (suc (suc (suc (suc (suc zero)))))))))))) l h = (LongBinary, refl)
type_from (suc (suc (suc (suc (suc (suc (suc (suc (suc (suc (suc (suc (suc zero))))))))))))) l h = (LongText, refl)
type_from (suc (suc (suc (suc (suc (suc (suc (suc (suc (suc (suc (suc (suc (suc n)))))))))))))) l h = absurd (omega (arith, h))

type_bounds : (type : ColType) → (1 ≤ type_number type) × (type_number type ≤ 13)
type_bounds Bit = (omega arith, omega arith)
type_bounds UnsignedByte = (omega arith, omega arith)
type_bounds Short = (omega arith, omega arith)
type_bounds UnsignedShort = (omega arith, omega arith)
type_bounds Long = (omega arith, omega arith)
type_bounds UnsignedLong = (omega arith, omega arith)
type_bounds LongLong = (omega arith, omega arith)
type_bounds Currency = (omega arith, omega arith)
type_bounds Guid = (omega arith, omega arith)
type_bounds Binary = (omega arith, omega arith)
type_bounds Text = (omega arith, omega arith)
type_bounds LongBinary = (omega arith, omega arith)
type_bounds LongText = (omega arith, omega arith)

pub record IsColumn (id : ℕ) (bytes : List ℕ) : Type 0 where
  pub column : Column
  pub id_is : column.id.0 ≡ id
  pub fits : column_fits column ≡ true
  pub written : bytes ≡ column_bytes column

pub column_from : (id : ℕ) (bytes : List ℕ) → ltb id (2 ^ 16) ≡ true → ColumnSpelled bytes → IsColumn id bytes
column_from id bytes small c =
    let a = byte_of 1 13 (ByteThen (within 0 15) NameSpelled) bytes c in
    let b = byte_of 0 15 NameSpelled a.behind a.rest in
    let n = name_of b.behind b.rest in
    let t = type_from a.byte a.least a.most in
    let f = column_bits b.byte b.most in
    let column : Column = record { id = column_id id; name = n.name; kind = t.0; tagged = f.tagged; multi = f.multi; not_null = f.not_null; escrow = f.escrow; version = false; auto = false } in
    record {
      column = column;
      id_is = refl;
      fits = and_from (ltb id (2 ^ 16)) (name_fits n.name && (not false && not false)) small (and_from (name_fits n.name) (not false && not false) n.fits refl);
      written = a.written ∙ (λ k. sym t.1 k ∷ (b.written ∙ (λ j. f.is j ∷ n.written j)) k);
    }

pub column_then : (column : Column) (bytes : List ℕ) → column_fits column ≡ true → bytes ≡ column_bytes column → ColumnSpelled bytes
column_then column bytes fits written =
    let a = and_parts (ltb column.id.0 (2 ^ 16)) (name_fits column.name && (not column.version && not column.auto)) fits in
    let n = and_parts (name_fits column.name) (not column.version && not column.auto) a.1 in
    let t = type_bounds column.kind in
    byte_then 1 13 (ByteThen (within 0 15) NameSpelled) bytes (omega arith) (type_number column.kind) (column_flags column ∷ name_bytes column.name) t.0 t.1 written
    (byte_then 0 15 NameSpelled (column_flags column ∷ name_bytes column.name) (omega arith) (column_flags column) (name_bytes column.name) (omega arith) (omega (arith, bool_small column.tagged, bool_small column.multi, bool_small column.not_null, bool_small column.escrow)) refl
    (name_then column.name (name_bytes column.name) n.0 refl))

-- ---- segments and conditions

flag_from : (n : ℕ) → n ≤ 1 → (flag : Bool) × (bool_byte flag ≡ n)
flag_from n le = odd n (omega (arith, le))

pub record IsMany {A : Type 0} (write : A → List ℕ) (fits : A → Bool) (n : ℕ) (Rest : List ℕ → Type 0) (bytes : List ℕ) : Type 0 where
  pub items : List A
  pub count : length items ≡ n
  pub all_fit : list_all fits items ≡ true
  pub behind : List ℕ
  pub written : bytes ≡ flat_map write items ++ behind
  pub rest : Rest behind

pub pairs_of : {A : Type 0} (write : A → List ℕ) (fits : A → Bool) (make : ℕ → Bool → A) → ((c : ℕ) (f : Bool) → write (make c f) ≡ to_le_bytes w16 c ++ (bool_byte f ∷ [])) → ((c : ℕ) (f : Bool) → fits (make c f) ≡ ltb c (2 ^ 16))
    → (n : ℕ) (Rest : List ℕ → Type 0) (bytes : List ℕ) → Pairs n Rest bytes → IsMany write fits n Rest bytes
pairs_of write fits make writes fit zero Rest bytes p = record { items = []; count = refl; all_fit = refl; behind = bytes; written = refl; rest = p }
pairs_of {A = A} write fits make writes fit (suc n) Rest bytes p =
    let b = byte_of 0 1 (Pairs n Rest) p.behind p.goes_on in
    let f = flag_from b.byte b.most in
    let r = pairs_of write fits make writes fit n Rest b.behind b.rest in
    let item : A = make p.first f.0 in
    let own : to_le_bytes w16 p.first ++ (b.byte ∷ b.behind) ≡ write item ++ b.behind =
    ap (λ (k : ℕ). to_le_bytes w16 p.first ++ (k ∷ b.behind)) (sym f.1) ∙ sym (append_assoc (to_le_bytes w16 p.first) (bool_byte f.0 ∷ []) b.behind) ∙ ap (λ (t : List ℕ). t ++ b.behind) (sym (writes p.first f.0)) in
    record {
      items = item ∷ r.items;
      count = ap suc r.count;
      all_fit = and_from (fits item) (list_all fits r.items) (fit p.first f.0 ∙ p.first_fits) r.all_fit;
      behind = r.behind;
      written = p.parts ∙ ap (λ (t : List ℕ). to_le_bytes w16 p.first ++ t) b.written ∙ own ∙ ap (λ (t : List ℕ). write item ++ t) r.written ∙ sym (append_assoc (write item) (flat_map write r.items) r.behind) ∙ ap (λ (t : List ℕ). t ++ r.behind) (sym (flat_map-cons write item r.items));
      rest = r.rest;
    }

pub pairs_then : {A : Type 0} (write : A → List ℕ) (fits : A → Bool) (column : A → ℕ) (flag : A → Bool) → ((a : A) → write a ≡ to_le_bytes w16 (column a) ++ (bool_byte (flag a) ∷ [])) → ((a : A) → fits a ≡ ltb (column a) (2 ^ 16))
    → (items : List A) (Rest : List ℕ → Type 0) (bytes behind : List ℕ) → list_all fits items ≡ true → bytes ≡ flat_map write items ++ behind → Rest behind → Pairs (length items) Rest bytes
pairs_then write fits column flag writes fit [] Rest bytes behind all written rest = subst Rest (sym written) rest
pairs_then write fits column flag writes fit (item ∷ items) Rest bytes behind all written rest =
    let p = and_parts (fits item) (list_all fits items) all in
    let next = flat_map write items ++ behind in
    let own : flat_map write (item ∷ items) ++ behind ≡ to_le_bytes w16 (column item) ++ (bool_byte (flag item) ∷ next) =
    ap (λ (t : List ℕ). t ++ behind) (flat_map-cons write item items) ∙ append_assoc (write item) (flat_map write items) behind ∙ ap (λ (t : List ℕ). t ++ next) (writes item) ∙ append_assoc (to_le_bytes w16 (column item)) (bool_byte (flag item) ∷ []) next in
    record {
      first = column item;
      behind = bool_byte (flag item) ∷ next;
      first_fits = sym (fit item) ∙ p.0;
      parts = written ∙ own;
      goes_on = byte_then 0 1 (Pairs (length items) Rest) (bool_byte (flag item) ∷ next) (omega arith) (bool_byte (flag item)) next (omega arith) (bool_small (flag item)) refl (pairs_then write fits column flag writes fit items Rest next behind p.1 refl rest);
    }

-- ---- indexes

pub record IsIndex (id : ℕ) (bytes : List ℕ) : Type 0 where
  pub index : IndexRule
  pub id_is : index.id.0 ≡ id
  pub fits : index_fits index ≡ true
  pub written : bytes ≡ index_bytes index

make_segment : ℕ → Bool → Segment
make_segment column flag = record { column = column_id column; descending = flag }

make_condition : ℕ → Bool → Condition
make_condition column flag = record { column = column_id column; must_be_null = flag }

pub index_from : (id : ℕ) (bytes : List ℕ) → ltb id (2 ^ 16) ≡ true → IndexSpelled bytes → IsIndex id bytes
unfolding index_bytes make_segment make_condition
index_from id bytes small x =
    let Last = Counted (Counted NameSpelled) in
    let r = small_of 0 0 (Number32 (ByteThen (within 0 255) (ByteThen (within 0 3) Last))) bytes x in
    let o = r.rest in
    let a = byte_of 0 255 (ByteThen (within 0 3) Last) o.behind o.goes_on in
    let h = byte_of 0 3 Last a.behind a.rest in
    let f = index_bits (a.byte + 256 * h.byte) (omega (arith, a.most, h.most)) in
    let s = pairs_of segment_bytes segment_fits make_segment (λ c g. refl) (λ c g. refl) h.rest.first (Counted NameSpelled) h.rest.behind h.rest.goes_on in
    let c = pairs_of condition_bytes condition_fits make_condition (λ k g. refl) (λ k g. refl) s.rest.first NameSpelled s.rest.behind s.rest.goes_on in
    let n = name_of c.behind c.rest in
    let index : IndexRule = record { id = index_id id; name = n.name; order = o.first; segments = s.items; flags = f.flags; conditions = c.items; key_most = 255 } in
    let root_is : r.number ≡ 0 = omega (arith, r.most) in
    let flag_bytes : a.byte ∷ h.byte ∷ [] ≡ to_le_bytes w16 (index_flags f.flags) = sym (bytes_of_two a.byte h.byte a.small h.small) ∙ ap (to_le_bytes w16) f.is in
    let names : c.behind ≡ name_bytes n.name = n.written in
    let conditions : s.behind ≡ (length c.items ∷ flat_map condition_bytes c.items) ++ name_bytes n.name = s.rest.parts ∙ (λ k. sym c.count k ∷ (c.written ∙ ap (λ (t : List ℕ). flat_map condition_bytes c.items ++ t) names) k) in
    let segments : h.behind ≡ (length s.items ∷ flat_map segment_bytes s.items) ++ ((length c.items ∷ flat_map condition_bytes c.items) ++ name_bytes n.name) = h.rest.parts ∙ (λ k. sym s.count k ∷ (s.written ∙ ap (λ (t : List ℕ). flat_map segment_bytes s.items ++ t) conditions) k) in
    let tail = (length s.items ∷ flat_map segment_bytes s.items) ++ ((length c.items ∷ flat_map condition_bytes c.items) ++ name_bytes n.name) in
    let flags : o.behind ≡ to_le_bytes w16 (index_flags f.flags) ++ tail = a.written ∙ ap (λ (t : List ℕ). a.byte ∷ t) h.written ∙ (λ k. flag_bytes k ++ segments k) in
    let all : bytes ≡ to_le_bytes w32 0 ++ (to_le_bytes w32 o.first ++ (to_le_bytes w16 (index_flags f.flags) ++ tail)) = r.written ∙ (λ k. to_le_bytes w32 (root_is k) ++ (o.parts ∙ ap (λ (t : List ℕ). to_le_bytes w32 o.first ++ t) flags) k) in
    record {
      index = index;
      id_is = refl;
      fits = and_from (ltb id (2 ^ 16)) (ltb o.first (2 ^ 32) && ((ltb (length s.items) 256 && list_all segment_fits s.items) && ((ltb (length c.items) 256 && list_all condition_fits c.items) && (name_fits n.name && eqb 255 255)))) small
          (and_from (ltb o.first (2 ^ 32)) ((ltb (length s.items) 256 && list_all segment_fits s.items) && ((ltb (length c.items) 256 && list_all condition_fits c.items) && (name_fits n.name && eqb 255 255))) o.first_fits
          (and_from (ltb (length s.items) 256 && list_all segment_fits s.items) ((ltb (length c.items) 256 && list_all condition_fits c.items) && (name_fits n.name && eqb 255 255))
          (and_from (ltb (length s.items) 256) (list_all segment_fits s.items) (ap (λ k. ltb k 256) s.count ∙ h.rest.first_fits) s.all_fit)
          (and_from (ltb (length c.items) 256 && list_all condition_fits c.items) (name_fits n.name && eqb 255 255)
          (and_from (ltb (length c.items) 256) (list_all condition_fits c.items) (ap (λ k. ltb k 256) c.count ∙ s.rest.first_fits) c.all_fit)
          (and_from (name_fits n.name) (eqb 255 255) n.fits refl))));
      written = all ∙ sym (ap (λ (t : List ℕ). to_le_bytes w32 0 ++ t) (append_assoc (to_le_bytes w32 o.first) (to_le_bytes w16 (index_flags f.flags)) tail)) ∙ sym (append_assoc (to_le_bytes w32 0) (to_le_bytes w32 o.first ++ to_le_bytes w16 (index_flags f.flags)) tail);
    }

index_flags_small : (f : IndexFlags) → index_flags f ≤ 1023
index_flags_small f = omega (arith, bool_small f.primary, bool_small f.unique, bool_small f.disallownull, bool_small f.ignorenull, bool_small f.ignoreanynull, bool_small f.ignorefirstnull, bool_small f.sortnullshigh, bool_small f.crossproduct, bool_small f.disallowtruncation, bool_small f.tuples)

pub index_then : (index : IndexRule) (bytes : List ℕ) → index_fits index ≡ true → bytes ≡ index_bytes index → IndexSpelled bytes
unfolding index_bytes
index_then index bytes fits written =
    let p = index_parts index fits in
    let flags = index_flags index.flags in
    let small : flags ≤ 1023 = index_flags_small index.flags in
    let Last = Counted (Counted NameSpelled) in
    let names = name_bytes index.name in
    let conditions = flat_map condition_bytes index.conditions ++ names in
    let segments = flat_map segment_bytes index.segments ++ (length index.conditions ∷ conditions) in
    let tail = length index.segments ∷ segments in
    let split : flags % 256 + 256 * (flags / 256) ≡ flags = omega arith in
    let flag_bytes : to_le_bytes w16 flags ≡ flags % 256 ∷ flags / 256 ∷ [] = sym (ap (to_le_bytes w16) split) ∙ bytes_of_two (flags % 256) (flags / 256) (omega arith) (omega (arith, small)) in
    let whole : bytes ≡ to_le_bytes w32 0 ++ (to_le_bytes w32 index.order ++ (to_le_bytes w16 flags ++ tail)) = written ∙ append_assoc (to_le_bytes w32 0) (to_le_bytes w32 index.order ++ to_le_bytes w16 flags) tail ∙ ap (λ (t : List ℕ). to_le_bytes w32 0 ++ t) (append_assoc (to_le_bytes w32 index.order) (to_le_bytes w16 flags) tail) in
    let behind_order = flags % 256 ∷ flags / 256 ∷ tail in
    small_then 0 0 (Number32 (ByteThen (within 0 255) (ByteThen (within 0 3) Last))) bytes (omega arith) 0 (to_le_bytes w32 index.order ++ (to_le_bytes w16 flags ++ tail)) (omega arith) (omega arith) whole (record {
      first = index.order;
      behind = behind_order;
      first_fits = lt-ltb _ _ p.order;
      parts = ap (λ (t : List ℕ). to_le_bytes w32 index.order ++ (t ++ tail)) flag_bytes;
      goes_on = byte_then 0 255 (ByteThen (within 0 3) Last) behind_order (omega arith) (flags % 256) (flags / 256 ∷ tail) (omega arith) (omega arith) refl
          (byte_then 0 3 Last (flags / 256 ∷ tail) (omega arith) (flags / 256) tail (omega arith) (omega (arith, small)) refl (record {
            first = length index.segments;
            behind = segments;
            first_fits = lt-ltb _ _ p.segment_count;
            parts = refl;
            goes_on = pairs_then segment_bytes segment_fits (λ s. s.column.0) (λ s. s.descending) (λ s. refl) (λ s. refl) index.segments (Counted NameSpelled) segments (length index.conditions ∷ conditions) p.segments refl (record {
              first = length index.conditions;
              behind = conditions;
              first_fits = lt-ltb _ _ p.condition_count;
              parts = refl;
              goes_on = pairs_then condition_bytes condition_fits (λ s. s.column.0) (λ s. s.must_be_null) (λ s. refl) (λ s. refl) index.conditions NameSpelled conditions names p.conditions refl (name_then index.name names p.name refl);
            });
          }));
    })
