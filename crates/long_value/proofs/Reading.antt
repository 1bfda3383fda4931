-- The first bytes of a value, chunk by chunk.
use Rattle.std.proofs.Common.{◌≡◌, ℕ, ◌⊎◌, inl, inr, ◌+◌, ◌-◌, ◌*◌, ◌<◌, ◌≤◌, List, ◌++◌, length, take, drop, min, sym, ap, ◌∙◌, arith}
use Rattle.std.proofs.lemmas.List.{drop-drop, length-take-le, length-drop, length-take, append_assoc, take_all, take-take}
use Rattle.std.proofs.Math.Seq.{drop-append-add, take-add, take-append_seam}
use Rattle.long_value.specs.Values.{chunk_of}
use Rattle.long_value.specs.Stores.{read_upto}

-- how many bytes the first k chunks have, of so many
abbrev pub bytes_done : ℕ → ℕ → ℕ
bytes_done k wanted = min (1024 * k) wanted

pub last_chunk : (bytes : List ℕ) (start : ℕ) → length bytes ≤ start + 1024 → take (length bytes - start) (drop start bytes) ≡ take 1024 (drop start bytes)
last_chunk bytes start le =
    let long = length-drop start bytes in
    take_all (length bytes - start) (drop start bytes) (omega (arith, long)) ∙ sym (take_all 1024 (drop start bytes) (omega (arith, long)))

pub one_more : (bytes into : List ℕ) (start end : ℕ) → start ≤ end → end ≤ start + 1024 → end ≤ length bytes → end ≤ length into
    → take start (read_upto start bytes into) ++ (take (end - start) (take 1024 (drop start bytes)) ++ drop end (read_upto start bytes into)) ≡ read_upto end bytes into
one_more bytes into start end rises short within room =
    ap (λ x. x ++ (take (end - start) (take 1024 (drop start bytes)) ++ drop end (read_upto start bytes into))) front
    ∙ ap (λ x. take start bytes ++ (x ++ drop end (read_upto start bytes into))) middle
    ∙ ap (λ x. take start bytes ++ (take (end - start) (drop start bytes) ++ x)) back
    ∙ joined
  where
    long : length (take start bytes) ≡ start
    long = length-take-le start bytes (omega arith)

    front : take start (read_upto start bytes into) ≡ take start bytes
    front = ap (λ n. take n (read_upto start bytes into)) (sym long) ∙ take-append_seam (take start bytes) (drop start into)

    middle : take (end - start) (take 1024 (drop start bytes)) ≡ take (end - start) (drop start bytes)
    middle = take-take (end - start) 1024 (drop start bytes) (omega arith)

    back : drop end (read_upto start bytes into) ≡ drop end into
    back =
        ap (λ n. drop n (read_upto start bytes into)) (omega (arith, long))
        ∙ drop-append-add (take start bytes) (drop start into) (end - start)
        ∙ drop-drop (end - start) start into
        ∙ ap (λ n. drop n into) (omega arith)

    joined : take start bytes ++ (take (end - start) (drop start bytes) ++ drop end into) ≡ read_upto end bytes into
    joined =
        sym (append_assoc (take start bytes) (take (end - start) (drop start bytes)) (drop end into))
        ∙ ap (λ x. x ++ drop end into) (sym (take-add start (end - start) bytes) ∙ ap (λ n. take n bytes) (omega arith))

pub enough : (bytes : List ℕ) (k n : ℕ) → n ≤ 1024 → 1024 * k + n ≤ length bytes → n ≤ length (chunk_of bytes k)
enough bytes k n few within = omega (arith, length-take 1024 (drop (1024 * k) bytes), length-drop (1024 * k) bytes)

pub end_done : (k end wanted : ℕ) → ((wanted < k * 1024 + 1024) × (end ≡ wanted)) ⊎ ((k * 1024 + 1024 ≤ wanted) × (end ≡ k * 1024 + 1024)) → end ≡ bytes_done (k + 1) wanted
end_done k end wanted (inl w) = omega (arith, w.0, w.1)
end_done k end wanted (inr w) = omega (arith, w.0, w.1)

pub read_on : (bytes into now chunk new : List ℕ) (k end wanted : ℕ) → now ≡ read_upto (bytes_done k wanted) bytes into → chunk ≡ chunk_of bytes k → 1024 * k < wanted → wanted ≤ length bytes → wanted ≤ length into → end ≡ bytes_done (k + 1) wanted
    → new ≡ take (k * 1024) now ++ (take (end - k * 1024) chunk ++ drop end now) → new ≡ read_upto (bytes_done (k + 1) wanted) bytes into
read_on bytes into now chunk new k end wanted was part lt long room done is =
    let start : k * 1024 ≡ 1024 * k = omega arith in
    let first : bytes_done k wanted ≡ 1024 * k = omega (arith, lt) in
    let now_is : now ≡ read_upto (1024 * k) bytes into = was ∙ ap (λ n. read_upto n bytes into) first in
    is
    ∙ ap (λ s. take s now ++ (take (end - s) chunk ++ drop end now)) start
    ∙ ap (λ x. take (1024 * k) x ++ (take (end - 1024 * k) chunk ++ drop end x)) now_is
    ∙ ap (λ x. take (1024 * k) (read_upto (1024 * k) bytes into) ++ (take (end - 1024 * k) x ++ drop end (read_upto (1024 * k) bytes into))) part
    ∙ one_more bytes into (1024 * k) end (omega (arith, done, lt)) (omega (arith, done)) (omega (arith, done, long)) (omega (arith, done, room))
    ∙ ap (λ n. read_upto n bytes into) done
