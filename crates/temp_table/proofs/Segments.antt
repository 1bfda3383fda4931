-- A row's key, one column after the other.
use Rattle.std.proofs.Common.{◌≡◌, ℕ, ◌<◌, suc, zero, Option, List, [], ◌∷◌, ◌++◌, length, get_or, take, map, refl, sym, ap, ◌∙◌, arith, append_assoc, min}
use Rattle.std.proofs.lemmas.List.{append-nil}
use Rattle.temp_table.specs.declared.columns.TempColumn.{TempColumn}
use Rattle.temp_table.specs.TempRows.{key_segments, own_segment}

pub more : {V : Type 0} (g : V → Option (List ℕ)) (cs : List TempColumn) (vs : List V) (n : ℕ) (c : TempColumn) (v : V)
    → n < length cs → n < length vs → c ≡ get_or cs n c → v ≡ get_or vs n v
    → key_segments (take (suc n) cs) (map g (take (suc n) vs)) ≡ key_segments (take n cs) (map g (take n vs)) ++ own_segment c (g v)
more g [] vs n c v h k d e = absurd (omega arith)
more g (q ∷ cs) [] n c v h k d e = absurd (omega arith)
more g (q ∷ cs) (w ∷ vs) zero c v h k d e = append-nil (own_segment q (g w)) ∙ (λ i. own_segment (sym d i) (g (sym e i)))
more g (q ∷ cs) (w ∷ vs) (suc n) c v h k d e =
    let first = own_segment q (g w) in
    ap (λ r. first ++ r) (more g cs vs n c v (omega arith) (omega arith) d e)
    ∙ sym (append_assoc first (key_segments (take n cs) (map g (take n vs))) (own_segment c (g v)))

pub all : {V : Type 0} (g : V → Option (List ℕ)) (cs : List TempColumn) (vs : List V) (n : ℕ) → n ≡ min (length cs) (length vs)
    → key_segments (take n cs) (map g (take n vs)) ≡ key_segments cs (map g vs)
all g [] vs zero h = refl
all g [] vs (suc n) h = refl
all g (c ∷ cs) [] zero h = refl
all g (c ∷ cs) [] (suc n) h = refl
all g (c ∷ cs) (v ∷ vs) zero h = absurd (omega arith)
all g (c ∷ cs) (v ∷ vs) (suc n) h = ap (λ r. own_segment c (g v) ++ r) (all g cs vs n (omega arith))
