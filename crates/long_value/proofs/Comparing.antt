-- The bytes of a value against others, chunk by chunk.
use Rattle.std.proofs.Common.{◌≡◌, ℕ, ◌+◌, ◌*◌, ◌≤◌, true, List, ◌++◌, length, take, sym, ap, ◌∙◌, arith}
use Rattle.std.specs.Prelude.{bytes_eq}
use Rattle.std.proofs.lemmas.List.{take_all}
use Rattle.std.proofs.lemmas.Slice.Eq.{bytes_eq-Decides}
use Rattle.std.proofs.Math.Seq.{take-add}
use Rattle.long_value.specs.Values.{chunk_count, chunk_of}

pub more_same : (a b chunk other : List ℕ) (k : ℕ) → take (1024 * k) a ≡ take (1024 * k) b → chunk ≡ chunk_of a k → other ≡ chunk_of b k → chunk ≡ other → take (1024 * (k + 1)) a ≡ take (1024 * (k + 1)) b
more_same a b chunk other k same first second equal =
    let one : 1024 * (k + 1) ≡ 1024 * k + 1024 = omega arith in
    ap (λ n. take n a) one
    ∙ take-add (1024 * k) 1024 a
    ∙ ap (λ (x : List ℕ). x ++ chunk_of a k) same
    ∙ ap (λ (x : List ℕ). take (1024 * k) b ++ x) (sym first ∙ equal ∙ second)
    ∙ sym (take-add (1024 * k) 1024 b)
    ∙ ap (λ n. take n b) (sym one)

pub all_same : (a b : List ℕ) (k : ℕ) → take (1024 * k) a ≡ take (1024 * k) b → length a ≡ length b → length b ≤ 1024 * k → bytes_eq a b ≡ true
all_same a b k same equal past =
    (bytes_eq-Decides a b).1 (sym (take_all (1024 * k) a (omega (arith, equal, past))) ∙ same ∙ take_all (1024 * k) b past)

pub past_all : (size k : ℕ) → chunk_count size ≤ k → size ≤ 1024 * k
past_all size k le = omega arith
