-- What the front of a file says of the file.
use Rattle.std.proofs.Common.{◌≡◌, ⊎_elim, ℕ, ◌+◌, ◌-◌, ◌<◌, ◌≤◌, min, List, Bool, ◌&&◌, Some, None, if◌then◌else◌, eqb, leb, length, get_or, take, drop, sym, ◌∙◌, ap, arith, length-take, codes}
use Rattle.std.proofs.lemmas.Bool.{cases_lt, le-leb, lt-leb}
use Rattle.std.proofs.lemmas.List.{get_or-take, drop-take, take-take, take_min}
use Rattle.byteorder.specs.Endian.{little_number}
use Rattle.byteorder.specs.Numbers.{little_from-take}
use Rattle.checkpoint.specs.Contents.{Contents, contents_in, number_at, has_head, file_of}
use Rattle.std.specs.Str.{bytes_eq}
use Rattle.jet_volume.specs.declared.files.File.{File}
use Rattle.jet_volume.specs.Image.{is_file}
use Rattle.checkpoint.specs.Opening.{has_open_gate, shown_number}

pub length_front : (k m : ℕ) (bytes : List ℕ) → k ≤ m → leb k (length (take m bytes)) ≡ leb k (length bytes)
length_front k m bytes within = ⊎_elim
    (λ (short : length bytes < k). lt-leb k (length (take m bytes)) (omega (arith, length-take m bytes, short)) ∙ sym (lt-leb k (length bytes) short))
    (λ (long : k ≤ length bytes). le-leb k (length (take m bytes)) (omega (arith, length-take m bytes, long, within)) ∙ sym (le-leb k (length bytes) long))
    (cases_lt (length bytes) k)

pub number_front : (n at m : ℕ) (bytes : List ℕ) → at + n ≤ m → number_at n at (take m bytes) ≡ number_at n at bytes
unfolding number_at
number_front n at m bytes within =
    let split : m ≡ at + (m - at) = omega (arith, within) in
    ap (λ k. little_number n (drop at (take k bytes))) split
    ∙ ap (λ (l : List ℕ). little_number n l) (drop-take at (m - at) bytes)
    ∙ little_from-take 0 n (m - at) (drop at bytes) (omega (arith, within))

pub gate_front : (bytes : List ℕ) → has_open_gate (take 18 bytes) ≡ has_open_gate bytes
gate_front bytes =
    ap (λ b. b && eqb (get_or (take 18 bytes) 0 0) 1) (length_front 2 18 bytes (omega arith))
    ∙ ap (λ k. leb 2 (length bytes) && eqb k 1) (get_or-take 18 bytes 0 0 (omega arith))

pub shown_front : (bytes : List ℕ) → shown_number (take 18 bytes) ≡ shown_number bytes
shown_front bytes =
    ap (λ b. if b then Some (number_at 8 10 (take 18 bytes)) else None) (length_front 18 18 bytes (omega arith))
    ∙ ap (λ k. if leb 18 (length bytes) then Some k else None) (number_front 8 10 18 bytes (omega arith))

-- the front that a read gives
pub front_is : (m n : ℕ) (into bytes : List ℕ) → n ≡ min m (length bytes - 0) → take n into ≡ take n bytes → take n into ≡ take m bytes
front_is m n into bytes count read =
    let same : n ≡ min m (length bytes) = omega (arith, count) in
    read ∙ ap (λ k. take k bytes) same ∙ take_min m bytes

and_same : (a b x y : Bool) → a ≡ b → x ≡ y → (a && x) ≡ (b && y)
and_same a b x y first second = ap (λ k. k && x) first ∙ ap (λ k. b && k) second

mark_front : (bytes : List ℕ) → take 5 (drop 1 (take 54 bytes)) ≡ take 5 (drop 1 bytes)
mark_front bytes = ap (λ (l : List ℕ). take 5 l) (drop-take 1 53 bytes) ∙ take-take 5 53 (drop 1 bytes) (omega arith)

pub head_front : (file : File) (bytes : List ℕ) → has_head file (take 54 bytes) ≡ has_head file bytes
unfolding has_head
head_front file bytes =
    let at : (n k : ℕ) → k + n ≤ 54 → number_at n k (take 54 bytes) ≡ number_at n k bytes = λ n k within. number_front n k 54 bytes within in
    and_same _ _ _ _ (length_front 54 54 bytes (omega arith))
    (and_same _ _ _ _ (ap (λ (l : List ℕ). bytes_eq l (codes "JETCK")) (mark_front bytes))
    (and_same _ _ _ _ (ap (λ k. eqb k 1) (at 4 6 (omega arith)))
    (and_same _ _ _ _ (ap (λ k. leb 1 k) (at 8 10 (omega arith)))
    (and_same _ _ _ _ (ap (λ k. is_file file (file_of k)) (at 8 10 (omega arith)))
    (and_same _ _ _ _ (ap (λ k. leb 1 k) (at 8 26 (omega arith)))
    (and_same _ _ _ _ (ap (λ k. leb k 1048575) (at 4 34 (omega arith))) (ap (λ k. leb k 16777216) (at 4 50 (omega arith)))))))))

pub says_front : (bytes slots live : List ℕ) → record (contents_in (take 54 bytes)) { slots = slots; live = live } ≡ record (contents_in bytes) { slots = slots; live = live }
says_front bytes slots live =
    let at : (n k : ℕ) → k + n ≤ 54 → number_at n k (take 54 bytes) ≡ number_at n k bytes = λ n k within. number_front n k 54 bytes within in
    let with_all : ℕ → ℕ → ℕ → ℕ → ℕ → ℕ → Contents = λ number entries generation offset position root.
    record { number = number; entries = entries; start = record { generation = generation; offset = offset; position = position }; catalog_root = root; slots = slots; live = live } in
    let front = take 54 bytes in
    ap (λ k. with_all k (number_at 8 18 front) (number_at 8 26 front) (number_at 4 34 front) (number_at 8 38 front) (number_at 4 46 front)) (at 8 10 (omega arith))
    ∙ ap (λ k. with_all (number_at 8 10 bytes) k (number_at 8 26 front) (number_at 4 34 front) (number_at 8 38 front) (number_at 4 46 front)) (at 8 18 (omega arith))
    ∙ ap (λ k. with_all (number_at 8 10 bytes) (number_at 8 18 bytes) k (number_at 4 34 front) (number_at 8 38 front) (number_at 4 46 front)) (at 8 26 (omega arith))
    ∙ ap (λ k. with_all (number_at 8 10 bytes) (number_at 8 18 bytes) (number_at 8 26 bytes) k (number_at 8 38 front) (number_at 4 46 front)) (at 4 34 (omega arith))
    ∙ ap (λ k. with_all (number_at 8 10 bytes) (number_at 8 18 bytes) (number_at 8 26 bytes) (number_at 4 34 bytes) k (number_at 4 46 front)) (at 8 38 (omega arith))
    ∙ ap (λ k. with_all (number_at 8 10 bytes) (number_at 8 18 bytes) (number_at 8 26 bytes) (number_at 4 34 bytes) (number_at 8 38 bytes) k) (at 4 46 (omega arith))
