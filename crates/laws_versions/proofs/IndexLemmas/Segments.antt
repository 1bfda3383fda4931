-- How long the segment of a column is can be told from its bytes, whatever follows: no segment of a column begins another.
use Rattle.std.proofs.Common.{◌≡◌, ℕ, suc, Bool, true, false, cond, List, [], ◌∷◌, ◌++◌, map, reverse, length, take, drop, Option, Some, None, refl, sym, ap, ◌∙◌, ◌==◌, take_at, drop_at}
use Rattle.std.proofs.lemmas.List.{length-reverse, length-map}
use Rattle.jet_base.specs.declared.words.ColType.{ColType}
use Rattle.jet_base.specs.declared.words.ColType.TheVariants.{Bit, UnsignedByte, Short, UnsignedShort, Long, UnsignedLong, LongLong, Currency, Guid, Binary, Text, LongBinary, LongText}
use Rattle.jet_base.specs.ColumnType.{fixed_width}
use Rattle.key_normal.specs.KeyBytes.{folded, with_top_bit_turned, in_groups, value_bytes, in_direction, segment_bytes}

-- ---- how many bytes a value has in a key

-- groups go on where a count is 9
abbrev groups_count : Bool → List ℕ → ℕ
groups_count descending (a ∷ b ∷ c ∷ d ∷ e ∷ f ∷ g ∷ h ∷ count ∷ rest) =
    cond (count == in_direction descending 9) (suc (suc (suc (suc (suc (suc (suc (suc (suc (groups_count descending rest)))))))))) 9
groups_count descending _ = 0

nine : (descending : Bool) → (in_direction descending 9 == in_direction descending 9) ≡ true
nine true = refl
nine false = refl

count-groups : (descending : Bool) (value rest : List ℕ) → groups_count descending (map (in_direction descending) (in_groups value) ++ rest) ≡ length (map (in_direction descending) (in_groups value))
count-groups descending (a ∷ b ∷ c ∷ d ∷ e ∷ f ∷ g ∷ h ∷ next ∷ more) rest =
    let behind = map (in_direction descending) (in_groups (next ∷ more)) in
    ap (λ t. cond t (suc (suc (suc (suc (suc (suc (suc (suc (suc (groups_count descending (behind ++ rest))))))))))) 9) (nine descending)
    ∙ ap (λ n. suc (suc (suc (suc (suc (suc (suc (suc (suc n))))))))) (count-groups descending (next ∷ more) rest)
count-groups true [] rest = refl
count-groups false [] rest = refl
count-groups true (a ∷ []) rest = refl
count-groups false (a ∷ []) rest = refl
count-groups true (a ∷ b ∷ []) rest = refl
count-groups false (a ∷ b ∷ []) rest = refl
count-groups true (a ∷ b ∷ c ∷ []) rest = refl
count-groups false (a ∷ b ∷ c ∷ []) rest = refl
count-groups true (a ∷ b ∷ c ∷ d ∷ []) rest = refl
count-groups false (a ∷ b ∷ c ∷ d ∷ []) rest = refl
count-groups true (a ∷ b ∷ c ∷ d ∷ e ∷ []) rest = refl
count-groups false (a ∷ b ∷ c ∷ d ∷ e ∷ []) rest = refl
count-groups true (a ∷ b ∷ c ∷ d ∷ e ∷ f ∷ []) rest = refl
count-groups false (a ∷ b ∷ c ∷ d ∷ e ∷ f ∷ []) rest = refl
count-groups true (a ∷ b ∷ c ∷ d ∷ e ∷ f ∷ g ∷ []) rest = refl
count-groups false (a ∷ b ∷ c ∷ d ∷ e ∷ f ∷ g ∷ []) rest = refl
count-groups true (a ∷ b ∷ c ∷ d ∷ e ∷ f ∷ g ∷ h ∷ []) rest = refl
count-groups false (a ∷ b ∷ c ∷ d ∷ e ∷ f ∷ g ∷ h ∷ []) rest = refl

-- a value of a type with a width has so many bytes
abbrev pub FitsWidth : Option ℕ → List ℕ → Type 0
FitsWidth None value = Unit {0}
FitsWidth (Some width) value = length value ≡ width

abbrev value_count : Option ℕ → Bool → List ℕ → ℕ
value_count None descending bytes = groups_count descending bytes
value_count (Some width) descending bytes = width

length-turned : (bytes : List ℕ) → length (with_top_bit_turned bytes) ≡ length bytes
length-turned [] = refl
length-turned (byte ∷ bytes) = refl

straight : (descending : Bool) (value : List ℕ) (width : ℕ) → length value ≡ width → width ≡ length (map (in_direction descending) value)
straight descending value width h = sym (length-map value (in_direction descending) ∙ h)

reversed : (descending : Bool) (value : List ℕ) (width : ℕ) → length value ≡ width → width ≡ length (map (in_direction descending) (reverse value))
reversed descending value width h = straight descending (reverse value) width (length-reverse value ∙ h)

signed : (descending : Bool) (value : List ℕ) (width : ℕ) → length value ≡ width → width ≡ length (map (in_direction descending) (with_top_bit_turned (reverse value)))
signed descending value width h = straight descending (with_top_bit_turned (reverse value)) width (length-turned (reverse value) ∙ length-reverse value ∙ h)

count-value : (kind : ColType) (descending : Bool) (value rest : List ℕ) → FitsWidth (fixed_width kind) value
    → value_count (fixed_width kind) descending (map (in_direction descending) (value_bytes kind value) ++ rest) ≡ length (map (in_direction descending) (value_bytes kind value))
count-value Bit descending value rest h = straight descending value 1 h
count-value UnsignedByte descending value rest h = straight descending value 1 h
count-value Short descending value rest h = signed descending value 2 h
count-value UnsignedShort descending value rest h = reversed descending value 2 h
count-value Long descending value rest h = signed descending value 4 h
count-value UnsignedLong descending value rest h = reversed descending value 4 h
count-value LongLong descending value rest h = signed descending value 8 h
count-value Currency descending value rest h = signed descending value 8 h
count-value Guid descending value rest h = straight descending value 16 h
count-value Binary descending value rest h = count-groups descending value rest
count-value Text descending value rest h = count-groups descending (folded value) rest
count-value LongBinary descending value rest h = count-groups descending value rest
count-value LongText descending value rest h = count-groups descending (folded value) rest

-- ---- segments

abbrev segment_count : ColType → Bool → List ℕ → ℕ
segment_count kind descending [] = 0
segment_count kind descending (first ∷ bytes) = cond (first == in_direction descending 127) (suc (value_count (fixed_width kind) descending bytes)) 1

-- a value or NULL of the type
abbrev pub IsOfType : ColType → Option (List ℕ) → Type 0
IsOfType kind None = Unit {0}
IsOfType kind (Some value) = FitsWidth (fixed_width kind) value

value_first : (descending : Bool) → (in_direction descending 127 == in_direction descending 127) ≡ true
value_first true = refl
value_first false = refl

count-segment : (kind : ColType) (value : Option (List ℕ)) (descending nulls_high : Bool) (rest : List ℕ) → IsOfType kind value
    → segment_count kind descending (segment_bytes kind value descending nulls_high ++ rest) ≡ length (segment_bytes kind value descending nulls_high)
count-segment kind None true true rest h = refl
count-segment kind None true false rest h = refl
count-segment kind None false true rest h = refl
count-segment kind None false false rest h = refl
count-segment kind (Some []) true nulls_high rest h = refl
count-segment kind (Some []) false nulls_high rest h = refl
count-segment kind (Some (byte ∷ bytes)) descending nulls_high rest h =
    let behind = map (in_direction descending) (value_bytes kind (byte ∷ bytes)) in
    ap (λ t. cond t (suc (value_count (fixed_width kind) descending (behind ++ rest))) 1) (value_first descending)
    ∙ ap suc (count-value kind descending (byte ∷ bytes) rest h)

-- two lists that begin with parts of one length
pub same_parts : {X : Type 0} (xs ys one other : List X) → length xs ≡ length ys → xs ++ one ≡ ys ++ other → (xs ≡ ys) × (one ≡ other)
same_parts xs ys one other long e = (
  sym (take_at xs one (length xs) refl) ∙ ap (take (length xs)) e ∙ take_at ys other (length xs) (sym long),
  sym (drop_at xs one (length xs) refl) ∙ ap (drop (length xs)) e ∙ drop_at ys other (length xs) (sym long),
)

pub same_segments : (kind : ColType) (x y : Option (List ℕ)) (descending nulls_high : Bool) (one other : List ℕ) → IsOfType kind x → IsOfType kind y
    → segment_bytes kind x descending nulls_high ++ one ≡ segment_bytes kind y descending nulls_high ++ other
    → (segment_bytes kind x descending nulls_high ≡ segment_bytes kind y descending nulls_high) × (one ≡ other)
same_segments kind x y descending nulls_high one other h k e =
    same_parts (segment_bytes kind x descending nulls_high) (segment_bytes kind y descending nulls_high) one other
    (sym (count-segment kind x descending nulls_high one h) ∙ ap (segment_count kind descending) e ∙ count-segment kind y descending nulls_high other k) e
