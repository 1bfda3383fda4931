-- A key, one column after the other.
use Rattle.std.proofs.Common.{◌≡◌, ℕ, ◌<◌, suc, zero, Bool, Option, List, [], ◌∷◌, ◌++◌, length, get_or, take, map, refl, sym, ap, ◌∙◌, arith, append_assoc, min}
use Rattle.std.proofs.lemmas.List.{append-nil}
use Rattle.key_normal.specs.KeyBytes.{KeyColumn, key_bytes, segment_bytes}

pub key_more : {P V : Type 0} (f : P → KeyColumn) (g : V → Option (List ℕ)) (high : Bool) (ps : List P) (vs : List V) (n : ℕ) (p : P) (v : V)
    → n < length ps → n < length vs → p ≡ get_or ps n p → v ≡ get_or vs n v
    → key_bytes (map f (take (suc n) ps)) high (map g (take (suc n) vs)) ≡ key_bytes (map f (take n ps)) high (map g (take n vs)) ++ segment_bytes (f p).kind (g v) (f p).descending high
key_more f g high [] vs n p v h k d e = absurd (omega arith)
key_more f g high (q ∷ ps) [] n p v h k d e = absurd (omega arith)
key_more f g high (q ∷ ps) (w ∷ vs) zero p v h k d e =
    append-nil (segment_bytes (f q).kind (g w) (f q).descending high) ∙ (λ i. segment_bytes (f (sym d i)).kind (g (sym e i)) (f (sym d i)).descending high)
key_more f g high (q ∷ ps) (w ∷ vs) (suc n) p v h k d e =
    let first = segment_bytes (f q).kind (g w) (f q).descending high in
    ap (λ r. first ++ r) (key_more f g high ps vs n p v (omega arith) (omega arith) d e)
    ∙ sym (append_assoc first (key_bytes (map f (take n ps)) high (map g (take n vs))) (segment_bytes (f p).kind (g v) (f p).descending high))

pub key_all : {P V : Type 0} (f : P → KeyColumn) (g : V → Option (List ℕ)) (high : Bool) (ps : List P) (vs : List V) (n : ℕ) → n ≡ min (length ps) (length vs)
    → key_bytes (map f (take n ps)) high (map g (take n vs)) ≡ key_bytes (map f ps) high (map g vs)
key_all f g high [] vs zero h = refl
key_all f g high [] vs (suc n) h = refl
key_all f g high (p ∷ ps) [] zero h = refl
key_all f g high (p ∷ ps) [] (suc n) h = refl
key_all f g high (p ∷ ps) (v ∷ vs) zero h = absurd (omega arith)
key_all f g high (p ∷ ps) (v ∷ vs) (suc n) h = ap (λ r. segment_bytes (f p).kind (g v) (f p).descending high ++ r) (key_all f g high ps vs n (omega arith))
