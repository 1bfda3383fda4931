-- What is read of the head of a long value.
use Rattle.std.proofs.Common.{◌≡◌, ℕ, ◌-◌, Bool, true, false, cond, List, [], ◌∷◌, length, take, drop, Option, Some, None, refl, sym, ap, ◌∙◌, arith}
use Rattle.std.specs.Prelude.{◌==◌, ◌||◌, not, bytes_eq}
use Rattle.std.proofs.lemmas.List.{length-drop, length-take}
use Rattle.byteorder.specs.Endian.{big_bytes, little_number}
use Rattle.byteorder.specs.Numbers.{length-bytes_high_first}
use Rattle.common_lemmas.proofs.Booleans.{by_test, impossible}
use Rattle.common_lemmas.proofs.Numbers.{equal_bytes, same_bytes}
use Rattle.image_contents.proofs.CountedHeads.{key_is}
use Rattle.image_contents.proofs.WholeHeads.{key_behind}
use Rattle.image_contents.specs.ValueCounts.{counted_finding, finding_with_id, first_finding, first_of, head_count, head_finding, head_id}
use Rattle.image_findings.specs.Images.{Finding}
use Rattle.image_findings.specs.Images.Finding.{Long}
use Rattle.image_findings.specs.ValueFindings.{entry_in, place_in}
use Rattle.long_value.specs.ChangedValues.{itself, same_key}
use Rattle.long_value.specs.Shown.{id_of, is_head}
use Rattle.long_value.specs.Values.{chunk_key, order}
use Rattle.std.specs.Ordering.{is_eq}
use Rattle.page_image.specs.Page.{Node}

-- ---- its key

head_long : (n : Node) → is_head n ≡ true → length n.key ≡ 16
head_long n t =
    let four : length (drop 12 n.key) ≡ 4 = ap (λ (l : List ℕ). length l) (same_key (drop 12 n.key) (big_bytes 4 0) t) ∙ length-bytes_high_first 4 0 in
    omega (arith, length-drop 12 n.key, four)

no_id : (n : Node) → is_head n ≡ false → None ≡ head_id n
no_id n f = ap (λ b. cond b (Some (id_of n)) None) (sym f)

pub no_long : (n : Node) (front : List ℕ) → front ≡ id_of n → (length front ≡ 12 → ⊥) → None ≡ head_id n
no_long n front is other = no_id n (by_test (is_head n) (λ t. absurd (other (ap (λ (l : List ℕ). length l) is ∙ full t))) (λ f. f))
  where
    full : is_head n ≡ true → length (id_of n) ≡ 12
    full t = omega (arith, length-take 12 n.key, head_long n t)

pub no_first : (n : Node) (front : List ℕ) (b : Bool) → front ≡ id_of n → b ≡ bytes_eq n.key (chunk_key front 0) → b ≡ false → None ≡ head_id n
no_first n front b is told f = no_id n (by_test (is_head n) (λ t. impossible (sym f ∙ told ∙ equal_bytes n.key (chunk_key front 0) (key_is n t ∙ ap (λ (l : List ℕ). chunk_key l 0) (sym is)))) (λ g. g))

pub own_id : (n : Node) (front id : List ℕ) (b : Bool) → front ≡ id_of n → length front ≡ 12 → b ≡ bytes_eq n.key (chunk_key front 0) → b ≡ true → id ≡ front → Some id ≡ head_id n
own_id n front id b is long told t own =
    let key : n.key ≡ chunk_key front 0 = same_bytes n.key (chunk_key front 0) (sym told ∙ t) in
    let first : is_head n ≡ true = ap (λ (k : List ℕ). is_eq (order (drop 12 k) (big_bytes 4 0))) key ∙ ap (λ (l : List ℕ). is_eq (order l (big_bytes 4 0))) (key_behind front 0 long) ∙ itself (big_bytes 4 0) in
    ap (λ (l : List ℕ). Some l) (own ∙ is) ∙ ap (λ b. cond b (Some (id_of n)) None) (sym first)

-- ---- its count

pub front_read : (bytes : List ℕ) → little_number 4 (take 4 bytes) ≡ little_number 4 bytes
front_read [] = refl
front_read (a ∷ []) = refl
front_read (a ∷ b ∷ []) = refl
front_read (a ∷ b ∷ c ∷ []) = refl
front_read (a ∷ b ∷ c ∷ d ∷ bytes) = refl

-- ---- its finding

pub other_count : (wanted : List ℕ → ℕ) (n : Node) (id : List ℕ) (have more entry place told_have told_more : ℕ) (b : Bool) → Some id ≡ head_id n → have ≡ little_number 4 (take 4 n.data) → more ≡ wanted id → b ≡ ((have == 0) || not (have == more)) → b ≡ true
    → entry ≡ entry_in id → place ≡ place_in id → told_have ≡ have → told_more ≡ more → Some (Long entry place told_have told_more) ≡ head_finding wanted n
other_count wanted n id have more entry place told_have told_more b own counts wants is t of-entry of-place of-have of-more =
    (λ i. Some (Long (of-entry i) (of-place i) (of-have i) (of-more i)))
    ∙ sym (ap (λ b. cond b (Some (Long (entry_in id) (place_in id) have more)) None) (sym is ∙ t))
    ∙ (λ i. counted_finding (counts i) (wants i) id)
    ∙ ap (λ (k : ℕ). counted_finding k (wanted id) id) (front_read n.data)
    ∙ ap (finding_with_id wanted (head_count n)) own

pub own_count : (wanted : List ℕ → ℕ) (n : Node) (id : List ℕ) (have more : ℕ) (b : Bool) → Some id ≡ head_id n → have ≡ little_number 4 (take 4 n.data) → more ≡ wanted id → b ≡ ((have == 0) || not (have == more)) → b ≡ false → None ≡ head_finding wanted n
own_count wanted n id have more b own counts wants is f =
    sym (ap (λ b. cond b (Some (Long (entry_in id) (place_in id) have more)) None) (sym is ∙ f))
    ∙ (λ i. counted_finding (counts i) (wants i) id)
    ∙ ap (λ (k : ℕ). counted_finding k (wanted id) id) (front_read n.data)
    ∙ ap (finding_with_id wanted (head_count n)) own

pub no_count : (wanted : List ℕ → ℕ) (n : Node) → None ≡ head_id n → None ≡ head_finding wanted n
no_count wanted n none = ap (finding_with_id wanted (head_count n)) none

-- ---- the first of some nodes

pub found_first : (wanted : List ℕ → ℕ) (walk rest : List Node) (n : Node) (found : Finding) (total : Option Finding) → walk ≡ n ∷ rest → Some found ≡ head_finding wanted n → first_finding wanted walk ≡ total → Some found ≡ total
found_first wanted walk rest n found total is own leads = ap (λ (o : Option Finding). first_of o (first_finding wanted rest)) own ∙ sym (ap (first_finding wanted) is) ∙ leads

pub found_later : (wanted : List ℕ → ℕ) (walk rest : List Node) (n : Node) (total : Option Finding) → walk ≡ n ∷ rest → None ≡ head_finding wanted n → first_finding wanted walk ≡ total → first_finding wanted rest ≡ total
found_later wanted walk rest n total is none leads = ap (λ (o : Option Finding). first_of o (first_finding wanted rest)) none ∙ sym (ap (first_finding wanted) is) ∙ leads

pub none_found : (wanted : List ℕ → ℕ) (walk : List Node) (total : Option Finding) → walk ≡ [] → first_finding wanted walk ≡ total → None ≡ total
none_found wanted walk total none leads = sym (ap (first_finding wanted) none) ∙ leads
