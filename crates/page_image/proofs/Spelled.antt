-- A page's bytes after an edit of its nodes.
use Rattle.std.proofs.Common.{◌≡◌, Bool, ℕ, suc, ◌+◌, ◌-◌, ◌<◌, ◌≤◌, List, [], ◌∷◌, ◌++◌, length, take, drop, replicate, set, slice_range, refl, sym, ap, ◌∙◌, subst, arith, append_assoc, length-append, add-one}
use Rattle.std.specs.Prelude.{◌↔◌, IsTrue, bytes_eq, sum_by, insert, remove}
use Rattle.std.proofs.lemmas.Slice.Eq.{bytes_eq-Decides}
use Rattle.std.specs.List.{flat_map}
use Rattle.std.proofs.lemmas.List.{take_at, drop_at, drop-drop, drop-take, length-take-le, drop-append-le, take-append-drop, drop-replicate, drop_all, take_all, length-take, length-drop, drop_more, set_split, length-replicate, replicate-append-replicate}
use Rattle.std.proofs.lemmas.List.Concat.{flat_map-append}
use Rattle.byteorder.specs.Endian.{little_bytes}
use Rattle.page_image.specs.Page.{Node, PageContents, IsPage, no_node, node_at, node_bytes, node_size, with_extent, page_size, page_head, page_body, page_front, node_area, page_bytes, xor_of_words}
use Rattle.std.proofs.lemmas.List.Elements.{All-take, All-drop}
use Rattle.std.proofs.lemmas.List.Sums.{sum_by-append, sum_by_more}
use Rattle.common_lemmas.proofs.Edits.{sum-insert, sum-remove, sum-set}
use Rattle.page_image.proofs.Nodes.{IsSmall, drop-page_bytes, small_nodes, length-nodes, length-node_bytes}

-- the front of bytes that are a page's but for the checksum
pub record IsFront (front : List ℕ) (p : PageContents) : Type 0 where
  pub long : length front ≡ 32
  pub head : drop 8 front ≡ page_head p

abbrev pub front_of : List ℕ → PageContents → List ℕ
front_of bytes p = take 8 bytes ++ page_head p

length-page_head : (p : PageContents) → length (page_head p) ≡ 24
unfolding page_head
length-page_head p = refl

pub body-parts : (p : PageContents) → page_body p ≡ page_head p ++ node_area p.nodes
unfolding page_body
body-parts p = refl

begins : (bytes : List ℕ) (p : PageContents) → drop 8 bytes ≡ page_body p → 8 ≤ length bytes
begins bytes p body =
    let long : length (drop 8 bytes) ≡ length (page_head p) + length (node_area p.nodes) = ap (λ (x : List ℕ). length x) (body ∙ body-parts p) ∙ length-append (page_head p) (node_area p.nodes) in
    omega (arith, long, length-page_head p, length-drop 8 bytes)

pub is_front : (bytes : List ℕ) (p : PageContents) → drop 8 bytes ≡ page_body p → IsFront (front_of bytes p) p
is_front bytes p body =
    let first : length (take 8 bytes) ≡ 8 = length-take-le 8 bytes (begins bytes p body) in
    record {
      long = omega (arith, length-append (take 8 bytes) (page_head p), first, length-page_head p);
      head = drop_at (take 8 bytes) (page_head p) 8 first;
    }

pub has_front : (bytes : List ℕ) (p : PageContents) → drop 8 bytes ≡ page_body p → bytes ≡ front_of bytes p ++ node_area p.nodes
has_front bytes p body =
    sym (take-append-drop 8 bytes)
    ∙ ap (λ (x : List ℕ). take 8 bytes ++ x) (body ∙ body-parts p)
    ∙ sym (append_assoc (take 8 bytes) (page_head p) (node_area p.nodes))

pub headed : (front : List ℕ) (p : PageContents) (nodes : List Node) (bytes : List ℕ) → IsFront front p → bytes ≡ front ++ node_area nodes → drop 8 bytes ≡ page_head p ++ node_area nodes
headed front p nodes bytes is e =
    ap (drop 8) e ∙ drop-append-le 8 front (node_area nodes) (omega (arith, is.long)) ∙ ap (λ (x : List ℕ). x ++ node_area nodes) is.head

-- The head with another count of nodes is the head of a page with as many nodes.
pub recounted : (p q : PageContents) (bytes : List ℕ) (count : ℕ) → q.number ≡ p.number → q.kind ≡ p.kind → length bytes ≡ 4096 → drop 8 bytes ≡ page_head p ++ node_area q.nodes → count ≡ length q.nodes → drop 8 (take 14 bytes ++ (little_bytes 2 count ++ drop 16 bytes)) ≡ page_body q
unfolding page_body page_head
recounted p q bytes count number kind whole edited all =
    let first : drop 8 (take 14 bytes ++ (little_bytes 2 count ++ drop 16 bytes)) ≡ drop 8 (take 14 bytes) ++ (little_bytes 2 count ++ drop 16 bytes) = drop-append-le 8 (take 14 bytes) (little_bytes 2 count ++ drop 16 bytes) (omega (arith, length-take-le 14 bytes (omega arith))) in
    let six : drop 8 (take 14 bytes) ≡ take 6 (drop 8 bytes) = drop-take 8 6 bytes in
    let rest : drop 16 bytes ≡ drop 8 (drop 8 bytes) = sym (drop-drop 8 8 bytes) in
    first ∙ rw (six, rest, edited, all, number, kind) refl

-- With the checksum the bytes are the page's.
pub with_checksum : (p : PageContents) (bytes sealed : List ℕ) → drop 8 bytes ≡ page_body p → sealed ≡ little_bytes 8 (xor_of_words 511 (drop 8 bytes)) ++ drop 8 bytes → sealed ≡ page_bytes p
unfolding page_bytes page_body page_front
with_checksum p bytes sealed body is = is ∙ ap (λ (x : List ℕ). little_bytes 8 (xor_of_words 511 x) ++ x) body

-- as many bytes behind the first eight as there are
pub all_behind : (xs : List ℕ) (n : ℕ) → length xs ≤ 8 + n → take n (drop 8 xs) ≡ drop 8 xs
all_behind xs n h = take_all n (drop 8 xs) (omega (arith, length-drop 8 xs))

by_body : (p : PageContents) → page_bytes p ≡ little_bytes 8 (xor_of_words 511 (page_body p)) ++ page_body p
unfolding page_bytes page_body page_front
by_body p = refl

-- Pages have the same bytes where those behind the checksum are the same.
pub same_pages : (p q : PageContents) (xs ys : List ℕ) (r : Bool) → drop 8 xs ≡ page_body p → drop 8 ys ≡ page_body q → r ≡ bytes_eq (drop 8 xs) (drop 8 ys) → IsTrue r ↔ (page_bytes p ≡ page_bytes q)
same_pages p q xs ys r own other is = (
  λ t. by_body p ∙ ap (λ (x : List ℕ). little_bytes 8 (xor_of_words 511 x) ++ x) (sym own ∙ (bytes_eq-Decides (drop 8 xs) (drop 8 ys)).0 (sym is ∙ t) ∙ other) ∙ sym (by_body q),
  λ e. is ∙ (bytes_eq-Decides (drop 8 xs) (drop 8 ys)).1 (own ∙ sym (drop-page_bytes p) ∙ ap (drop 8) e ∙ drop-page_bytes q ∙ sym other),
)

-- a list that is taken apart at two places, with another part put in at the first
pub put_in : (a y z new bytes : List ℕ) (at end size : ℕ) → bytes ≡ a ++ (y ++ z) → length a ≡ at → at + length y ≡ end → take at bytes ++ (new ++ (slice_range bytes at end ++ drop (end + size) bytes)) ≡ a ++ (new ++ (y ++ drop size z))
put_in a y z new bytes at end size is from to =
    let first : take at bytes ≡ a = ap (take at) is ∙ take_at a (y ++ z) at from in
    let rest : drop at bytes ≡ y ++ z = ap (drop at) is ∙ drop_at a (y ++ z) at from in
    let width : length y ≡ end - at = omega arith in
    let middle : slice_range bytes at end ≡ y = ap (take (end - at)) rest ∙ take_at y z (end - at) width in
    let last : drop (end + size) bytes ≡ drop size z =
    ap (λ n. drop n bytes) (omega arith)
    ∙ sym (drop-drop (length y + size) at bytes) ∙ ap (drop (length y + size)) rest
    ∙ sym (drop-drop size (length y) (y ++ z)) ∙ ap (drop size) (drop_at y z (length y) refl) in
    rw (first, middle, last) refl

-- the nodes before a place, those from it on, and the zeros
pub area-split : (front : List ℕ) (p : PageContents) (i : ℕ) → front ++ node_area p.nodes ≡ (front ++ flat_map node_bytes (take i p.nodes)) ++ (flat_map node_bytes (drop i p.nodes) ++ replicate (4096 - page_size p.nodes) 0)
area-split front p i =
    let whole : flat_map node_bytes p.nodes ≡ flat_map node_bytes (take i p.nodes) ++ flat_map node_bytes (drop i p.nodes) = sym (ap (flat_map node_bytes) (take-append-drop i p.nodes)) ∙ flat_map-append node_bytes (take i p.nodes) (drop i p.nodes) in
    rw whole (simp append_assoc)

pub length-before : (front : List ℕ) (p : PageContents) (i : ℕ) → length front ≡ 32 → IsPage p → length (front ++ flat_map node_bytes (take i p.nodes)) ≡ page_size (take i p.nodes)
length-before front p i long page =
    omega (arith, length-append front (flat_map node_bytes (take i p.nodes)), long, length-nodes (take i p.nodes) (All-take IsSmall i p.nodes (small_nodes p page)))

-- the nodes with another among them
pub node_area-insert : (nodes : List Node) (i : ℕ) (n : Node) → node_area (insert nodes i n) ≡ flat_map node_bytes (take i nodes) ++ (node_bytes n ++ (flat_map node_bytes (drop i nodes) ++ drop (node_size n) (replicate (4096 - page_size nodes) 0)))
node_area-insert nodes i n =
    let parts : flat_map node_bytes (insert nodes i n) ≡ flat_map node_bytes (take i nodes) ++ (node_bytes n ++ flat_map node_bytes (drop i nodes)) = flat_map-append node_bytes (take i nodes) (n ∷ drop i nodes) in
    let less : 4096 - page_size (insert nodes i n) ≡ 4096 - page_size nodes - node_size n = omega (arith, sum-insert node_size nodes i n) in
    let zeros : drop (node_size n) (replicate {A = ℕ} (4096 - page_size nodes) 0) ≡ replicate (4096 - page_size nodes - node_size n) 0 = drop-replicate (node_size n) (4096 - page_size nodes) 0 in
    rw (parts, less, zeros) (simp append_assoc)

-- a page's bytes with a node put in
pub inserted_bytes : (front : List ℕ) (p : PageContents) (i : ℕ) (n : Node) (bytes new : List ℕ) (at end size : ℕ) → length front ≡ 32 → IsPage p → bytes ≡ front ++ node_area p.nodes → at ≡ page_size (take i p.nodes) → end ≡ page_size p.nodes → size ≡ node_size n → new ≡ take at bytes ++ (node_bytes n ++ (slice_range bytes at end ++ drop (end + size) bytes)) → new ≡ front ++ node_area (insert p.nodes i n)
inserted_bytes front p i n bytes new at end size long page spelled at_is end_is size_is new_is =
    let before = front ++ flat_map node_bytes (take i p.nodes) in
    let after = flat_map node_bytes (drop i p.nodes) in
    let zeros = replicate {A = ℕ} (4096 - page_size p.nodes) 0 in
    let small = small_nodes p page in
    let sums : sum_by node_size (take i p.nodes) + sum_by node_size (drop i p.nodes) ≡ sum_by node_size p.nodes = sym (sum_by-append node_size (take i p.nodes) (drop i p.nodes)) ∙ ap (sum_by node_size) (take-append-drop i p.nodes) in
    let width : at + length after ≡ end = omega (arith, length-nodes (drop i p.nodes) (All-drop IsSmall i p.nodes small)) in
    new_is
    ∙ put_in before after zeros (node_bytes n) bytes at end size (spelled ∙ area-split front p i) (length-before front p i long page ∙ sym at_is) width
    ∙ append_assoc front (flat_map node_bytes (take i p.nodes)) (node_bytes n ++ (after ++ drop size zeros))
    ∙ ap (λ (k : ℕ). front ++ (flat_map node_bytes (take i p.nodes) ++ (node_bytes n ++ (after ++ drop k zeros)))) size_is
    ∙ ap (λ (x : List ℕ). front ++ x) (sym (node_area-insert p.nodes i n))

-- zeros with a number and a kind are the body of an empty page
pub zeros_with_head : (number kind : ℕ) (bytes buf : List ℕ) → bytes ≡ replicate 4096 0 → buf ≡ little_bytes 4 number ++ drop 4 (take 4 (drop 8 bytes)) → drop 8 (set (take 8 bytes ++ (buf ++ drop 4 (drop 8 bytes))) 12 kind) ≡ page_head (record { number = number; kind = kind; nodes = [] }) ++ node_area []
unfolding page_head
zeros_with_head number kind bytes buf blank written = rw (written, blank) refl

-- a list that loses a part in the middle, with zeros where it ends
pub take_out : (a n y z bytes : List ℕ) (at end size : ℕ) → bytes ≡ a ++ (n ++ (y ++ z)) → length a ≡ at → length n ≡ size → at + size + length y ≡ end → take at bytes ++ (slice_range bytes (at + size) end ++ (replicate size 0 ++ drop end bytes)) ≡ a ++ (y ++ (replicate size 0 ++ z))
take_out a n y z bytes at end size is from wide to =
    let first : take at bytes ≡ a = ap (take at) is ∙ take_at a (n ++ (y ++ z)) at from in
    let rest : drop at bytes ≡ n ++ (y ++ z) = ap (drop at) is ∙ drop_at a (n ++ (y ++ z)) at from in
    let behind : drop (at + size) bytes ≡ y ++ z = sym (drop-drop size at bytes) ∙ ap (drop size) rest ∙ drop_at n (y ++ z) size wide in
    let width : length y ≡ end - (at + size) = omega arith in
    let middle : slice_range bytes (at + size) end ≡ y = ap (take (end - (at + size))) behind ∙ take_at y z (end - (at + size)) width in
    let last : drop end bytes ≡ z = ap (λ k. drop k bytes) (sym to) ∙ sym (drop-drop (length y) (at + size) bytes) ∙ ap (drop (length y)) behind ∙ drop_at y z (length y) refl in
    rw (first, middle, last) refl

-- a list with its part in the middle written over
pub put_over : (a n m y bytes : List ℕ) (at size : ℕ) → bytes ≡ a ++ (n ++ y) → length a ≡ at → length n ≡ size → take at bytes ++ (m ++ drop size (drop at bytes)) ≡ a ++ (m ++ y)
put_over a n m y bytes at size is from wide =
    let first : take at bytes ≡ a = ap (take at) is ∙ take_at a (n ++ y) at from in
    let rest : drop size (drop at bytes) ≡ y = ap (λ x. drop size (drop at x)) is ∙ ap (drop size) (drop_at a (n ++ y) at from) ∙ drop_at n y size wide in
    rw (first, rest) refl

-- the nodes before node i, node i, those behind it, and the zeros
pub area-around : (front : List ℕ) (p : PageContents) (i : ℕ) → i < length p.nodes → front ++ node_area p.nodes ≡ (front ++ flat_map node_bytes (take i p.nodes)) ++ (node_bytes (node_at p.nodes i) ++ (flat_map node_bytes (drop (i + 1) p.nodes) ++ replicate (4096 - page_size p.nodes) 0))
area-around front p i h =
    area-split front p i
    ∙ ap (λ (x : List Node). (front ++ flat_map node_bytes (take i p.nodes)) ++ (flat_map node_bytes x ++ replicate (4096 - page_size p.nodes) 0)) (drop_more p.nodes i no_node h)
    ∙ ap (λ (x : List ℕ). (front ++ flat_map node_bytes (take i p.nodes)) ++ x) (append_assoc (node_bytes (node_at p.nodes i)) (flat_map node_bytes (drop (i + 1) p.nodes)) (replicate (4096 - page_size p.nodes) 0))

pub node_area-set : (nodes : List Node) (i : ℕ) (n : Node) → i < length nodes → node_area (set nodes i n) ≡ flat_map node_bytes (take i nodes) ++ (node_bytes n ++ (flat_map node_bytes (drop (i + 1) nodes) ++ replicate (4096 - page_size (set nodes i n)) 0))
node_area-set nodes i n h =
    let parts : flat_map node_bytes (set nodes i n) ≡ flat_map node_bytes (take i nodes) ++ (node_bytes n ++ flat_map node_bytes (drop (suc i) nodes)) = ap (flat_map node_bytes) (set_split nodes i n h) ∙ flat_map-append node_bytes (take i nodes) (n ∷ drop (suc i) nodes) in
    let zeros = replicate {A = ℕ} (4096 - page_size (set nodes i n)) 0 in
    ap (λ (x : List ℕ). x ++ zeros) parts ∙ simp (append_assoc, add-one)

pub node_area-remove : (nodes : List Node) (i : ℕ) → i < length nodes → page_size nodes ≤ 4096 → node_area (remove nodes i) ≡ flat_map node_bytes (take i nodes) ++ (flat_map node_bytes (drop (i + 1) nodes) ++ (replicate (node_size (node_at nodes i)) 0 ++ replicate (4096 - page_size nodes) 0))
node_area-remove nodes i h room =
    let parts : flat_map node_bytes (remove nodes i) ≡ flat_map node_bytes (take i nodes) ++ flat_map node_bytes (drop (suc i) nodes) = flat_map-append node_bytes (take i nodes) (drop (suc i) nodes) in
    let more : 4096 - page_size (remove nodes i) ≡ node_size (node_at nodes i) + (4096 - page_size nodes) = omega (arith, sum-remove node_size nodes i no_node h) in
    let zeros : replicate {A = ℕ} (node_size (node_at nodes i)) 0 ++ replicate (4096 - page_size nodes) 0 ≡ replicate (node_size (node_at nodes i) + (4096 - page_size nodes)) 0 = replicate-append-replicate (node_size (node_at nodes i)) (4096 - page_size nodes) 0 in
    rw (parts, more, zeros) (simp (append_assoc, add-one))

width_behind : (p : PageContents) (i : ℕ) → IsPage p → i < length p.nodes → page_size (take i p.nodes) + node_size (node_at p.nodes i) + length (flat_map node_bytes (drop (i + 1) p.nodes)) ≡ page_size p.nodes
width_behind p i page h =
    let sums : sum_by node_size (take (i + 1) p.nodes) + sum_by node_size (drop (i + 1) p.nodes) ≡ sum_by node_size p.nodes = sym (sum_by-append node_size (take (i + 1) p.nodes) (drop (i + 1) p.nodes)) ∙ ap (sum_by node_size) (take-append-drop (i + 1) p.nodes) in
    omega (arith, sums, sum_by_more node_size p.nodes i no_node h, length-nodes (drop (i + 1) p.nodes) (All-drop IsSmall (i + 1) p.nodes (small_nodes p page)))

-- a page's bytes with a node taken out
pub removed_bytes : (front : List ℕ) (p : PageContents) (i : ℕ) (bytes new : List ℕ) (at end size : ℕ) → length front ≡ 32 → IsPage p → i < length p.nodes → bytes ≡ front ++ node_area p.nodes → at ≡ page_size (take i p.nodes) → end ≡ page_size p.nodes → size ≡ node_size (node_at p.nodes i) → new ≡ take at bytes ++ (slice_range bytes (at + size) end ++ (replicate size 0 ++ drop end bytes)) → new ≡ front ++ node_area (remove p.nodes i)
removed_bytes front p i bytes new at end size long page h spelled at_is end_is size_is new_is =
    let before = front ++ flat_map node_bytes (take i p.nodes) in
    let n = node_at p.nodes i in
    let after = flat_map node_bytes (drop (i + 1) p.nodes) in
    let zeros = replicate {A = ℕ} (4096 - page_size p.nodes) 0 in
    let small : IsSmall n = small_nodes p page i no_node h in
    new_is
    ∙ take_out before (node_bytes n) after zeros bytes at end size (spelled ∙ area-around front p i h) (length-before front p i long page ∙ sym at_is) (length-node_bytes n small.fits ∙ sym size_is)
    (omega (arith, width_behind p i page h))
    ∙ append_assoc front (flat_map node_bytes (take i p.nodes)) (after ++ (replicate size 0 ++ zeros))
    ∙ ap (λ (k : ℕ). front ++ (flat_map node_bytes (take i p.nodes) ++ (after ++ (replicate k 0 ++ zeros)))) size_is
    ∙ ap (λ (x : List ℕ). front ++ x) (sym (node_area-remove p.nodes i h page.size))

-- a page's bytes with a node written over
pub replaced_bytes : (front : List ℕ) (p : PageContents) (i : ℕ) (n : Node) (bytes written : List ℕ) (at size : ℕ) → length front ≡ 32 → IsPage p → i < length p.nodes → bytes ≡ front ++ node_area p.nodes → at ≡ page_size (take i p.nodes) → size ≡ node_size (node_at p.nodes i) → node_size n ≡ node_size (node_at p.nodes i) → written ≡ node_bytes n → take at bytes ++ (written ++ drop size (drop at bytes)) ≡ front ++ node_area (set p.nodes i n)
replaced_bytes front p i n bytes written at size long page h spelled at_is size_is same written_is =
    let before = front ++ flat_map node_bytes (take i p.nodes) in
    let after = flat_map node_bytes (drop (i + 1) p.nodes) in
    let small : IsSmall (node_at p.nodes i) = small_nodes p page i no_node h in
    let room : page_size (set p.nodes i n) ≡ page_size p.nodes = omega (arith, same, sum-set node_size p.nodes i n no_node h) in
    put_over before (node_bytes (node_at p.nodes i)) written (after ++ replicate (4096 - page_size p.nodes) 0) bytes at size (spelled ∙ area-around front p i h) (length-before front p i long page ∙ sym at_is) (length-node_bytes (node_at p.nodes i) small.fits ∙ sym size_is)
    ∙ ap (λ (x : List ℕ). before ++ (x ++ (after ++ replicate (4096 - page_size p.nodes) 0))) written_is
    ∙ append_assoc front (flat_map node_bytes (take i p.nodes)) (node_bytes n ++ (after ++ replicate (4096 - page_size p.nodes) 0))
    ∙ ap (λ (k : ℕ). front ++ (flat_map node_bytes (take i p.nodes) ++ (node_bytes n ++ (after ++ replicate (4096 - k) 0)))) (sym room)
    ∙ ap (λ (x : List ℕ). front ++ x) (sym (node_area-set p.nodes i n h))

-- more zeros in the middle, for zeros at the end
pub zeros-grow : (a y bytes new : List ℕ) (at end old count : ℕ) → old < count → end + count ≤ 4096 + old → bytes ≡ a ++ (replicate old 0 ++ (y ++ replicate (4096 - end) 0)) → length a ≡ at → at + old + length y ≡ end → new ≡ take at bytes ++ (replicate (count - old) 0 ++ (slice_range bytes at end ++ drop (end + (count - old)) bytes)) → new ≡ a ++ (replicate count 0 ++ (y ++ replicate (4096 + old - (end + count)) 0))
zeros-grow a y bytes new at end old count grows room is from to new_is =
    let part = replicate {A = ℕ} old 0 ++ y in
    let zeros = replicate {A = ℕ} (4096 - end) 0 in
    let regrouped : bytes ≡ a ++ (part ++ zeros) = is ∙ ap (λ (x : List ℕ). a ++ x) (sym (append_assoc (replicate old 0) y zeros)) in
    let width : at + length part ≡ end = omega (arith, length-append (replicate {A = ℕ} old 0) y, length-replicate {A = ℕ} old 0) in
    let more : replicate {A = ℕ} (count - old) 0 ++ replicate old 0 ≡ replicate count 0 = replicate-append-replicate (count - old) old 0 ∙ ap (λ k. replicate k 0) (omega arith) in
    let less : drop (count - old) zeros ≡ replicate (4096 + old - (end + count)) 0 = drop-replicate (count - old) (4096 - end) 0 ∙ ap (λ k. replicate k 0) (omega arith) in
    new_is
    ∙ put_in a part zeros (replicate (count - old) 0) bytes at end (count - old) regrouped from width
    ∙ ap (λ (x : List ℕ). a ++ (replicate (count - old) 0 ++ (part ++ x))) less
    ∙ ap (λ (x : List ℕ). a ++ x) (ap (λ (x : List ℕ). replicate (count - old) 0 ++ x) (append_assoc (replicate old 0) y (replicate (4096 + old - (end + count)) 0)) ∙ sym (append_assoc (replicate (count - old) 0) (replicate old 0) (y ++ replicate (4096 + old - (end + count)) 0)) ∙ ap (λ (x : List ℕ). x ++ (y ++ replicate (4096 + old - (end + count)) 0)) more)

-- fewer zeros in the middle, for zeros at the end
pub zeros-shrink : (a y bytes new : List ℕ) (at end old count : ℕ) → count ≤ old → end ≤ 4096 → bytes ≡ a ++ (replicate old 0 ++ (y ++ replicate (4096 - end) 0)) → length a ≡ at → at + old + length y ≡ end → new ≡ take at bytes ++ (slice_range bytes (at + (old - count)) end ++ (replicate (old - count) 0 ++ drop end bytes)) → new ≡ a ++ (replicate count 0 ++ (y ++ replicate (4096 + old - (end + count)) 0))
zeros-shrink a y bytes new at end old count shrinks within is from to new_is =
    let part = replicate {A = ℕ} count 0 ++ y in
    let zeros = replicate {A = ℕ} (4096 - end) 0 in
    let split : replicate {A = ℕ} old 0 ≡ replicate (old - count) 0 ++ replicate count 0 = ap (λ k. replicate k 0) (omega arith) ∙ sym (replicate-append-replicate (old - count) count 0) in
    let regrouped : bytes ≡ a ++ (replicate (old - count) 0 ++ (part ++ zeros)) = is ∙ ap (λ (x : List ℕ). a ++ (x ++ (y ++ zeros))) split ∙ simp append_assoc in
    let width : at + (old - count) + length part ≡ end = omega (arith, length-append (replicate {A = ℕ} count 0) y, length-replicate {A = ℕ} count 0) in
    let more : replicate {A = ℕ} (old - count) 0 ++ zeros ≡ replicate (4096 + old - (end + count)) 0 = replicate-append-replicate (old - count) (4096 - end) 0 ∙ ap (λ k. replicate k 0) (omega arith) in
    new_is
    ∙ take_out a (replicate (old - count) 0) part zeros bytes at end (old - count) regrouped from (length-replicate {A = ℕ} (old - count) 0) width
    ∙ ap (λ (x : List ℕ). a ++ (part ++ x)) more
    ∙ simp append_assoc

-- a node's bytes up to the zeros behind its data, and the zeros
node_bytes-spare : (n : Node) (rest : List ℕ) → node_bytes n ++ rest ≡ (little_bytes 2 (length n.key) ++ little_bytes 2 (length n.data)) ++ (little_bytes 2 n.extent ++ ((n.key ++ n.data) ++ (replicate (n.extent - length n.data) 0 ++ rest)))
unfolding node_bytes
node_bytes-spare n rest = simp append_assoc

-- What `resize_zeros` promises of bytes.
abbrev pub Resizes : List ℕ → List ℕ → ℕ → ℕ → ℕ → ℕ → Type 0
Resizes bytes resized at end old new = (a y : List ℕ) → bytes ≡ a ++ (replicate old 0 ++ (y ++ replicate (4096 - end) 0)) → length a ≡ at → at + old + length y ≡ end → resized ≡ a ++ (replicate new 0 ++ (y ++ replicate (4096 + old - (end + new)) 0))

-- a page's bytes with another extent of a node
pub extent_bytes : (front : List ℕ) (p : PageContents) (i extent : ℕ) (bytes resized buf : List ℕ) (at spare end two : ℕ) → length front ≡ 32 → IsPage p → i < length p.nodes → length (node_at p.nodes i).data ≤ extent → bytes ≡ front ++ node_area p.nodes → at ≡ page_size (take i p.nodes) → spare ≡ at + 6 + length (node_at p.nodes i).key + length (node_at p.nodes i).data → end ≡ page_size p.nodes → two ≡ 2 → (was : ℕ) → was ≡ (node_at p.nodes i).extent - length (node_at p.nodes i).data → (count : ℕ) → count ≡ extent - length (node_at p.nodes i).data → Resizes bytes resized spare end was count → buf ≡ little_bytes 2 extent ++ drop 2 (take two (drop (at + 4) resized)) → take (at + 4) resized ++ (buf ++ drop two (drop (at + 4) resized)) ≡ front ++ node_area (with_extent p.nodes i extent)
extent_bytes front p i extent bytes resized buf at spare end two long page h fits spelled at_is spare_is end_is two_is was was_is count count_is clause buf_is =
    let resize : Resizes bytes resized spare end ((node_at p.nodes i).extent - length (node_at p.nodes i).data) (extent - length (node_at p.nodes i).data) =
    subst (λ (k : ℕ). Resizes bytes resized spare end k (extent - length (node_at p.nodes i).data)) was_is (subst (λ (k : ℕ). Resizes bytes resized spare end was k) count_is clause) in
    let n = node_at p.nodes i in
    let m : Node = record n { extent = extent } in
    let before = front ++ flat_map node_bytes (take i p.nodes) in
    let after = flat_map node_bytes (drop (i + 1) p.nodes) in
    let head = little_bytes 2 (length n.key) ++ little_bytes 2 (length n.data) in
    let small : IsSmall n = small_nodes p page i no_node h in
    let zeros = replicate {A = ℕ} (4096 - page_size p.nodes) 0 in
    let old : List ℕ = replicate (n.extent - length n.data) 0 in
    let new : List ℕ = replicate (extent - length n.data) 0 in
    let rest : List ℕ = replicate (4096 + (n.extent - length n.data) - (end + (extent - length n.data))) 0 in
    let a = before ++ (head ++ (little_bytes 2 n.extent ++ (n.key ++ n.data))) in
    let is : bytes ≡ a ++ (old ++ (after ++ replicate (4096 - end) 0)) =
    spelled ∙ area-around front p i h ∙ ap (λ (x : List ℕ). before ++ x) (node_bytes-spare n (after ++ zeros)) ∙ regroup before head (little_bytes 2 n.extent) (n.key ++ n.data) (old ++ (after ++ zeros))
    ∙ ap (λ k. a ++ (old ++ (after ++ replicate (4096 - k) 0))) (sym end_is) in
    let far : length a ≡ spare = omega (arith, length-append before (head ++ (little_bytes 2 n.extent ++ (n.key ++ n.data))), length-before front p i long page, length-append n.key n.data) in
    let to : spare + (n.extent - length n.data) + length after ≡ end = omega (arith, width_behind p i page h, small.fits) in
    let now : resized ≡ (before ++ head) ++ (little_bytes 2 n.extent ++ ((n.key ++ n.data) ++ (new ++ (after ++ rest)))) =
    resize a after is far to ∙ sym (regroup before head (little_bytes 2 n.extent) (n.key ++ n.data) (new ++ (after ++ rest))) ∙ sym (append_assoc before head (little_bytes 2 n.extent ++ ((n.key ++ n.data) ++ (new ++ (after ++ rest))))) in
    let written : buf ≡ little_bytes 2 extent = buf_is ∙ ap (λ (x : List ℕ). little_bytes 2 extent ++ x) (drop_all 2 (take two (drop (at + 4) resized)) (omega (arith, length-take two (drop (at + 4) resized)))) in
    let from : length (before ++ head) ≡ at + 4 = omega (arith, length-append before head, length-before front p i long page) in
    let last : rest ≡ replicate (4096 - page_size (with_extent p.nodes i extent)) 0 = ap (λ k. replicate k 0) (omega (arith, sum-set node_size p.nodes i m no_node h, small.fits)) in
    put_over (before ++ head) (little_bytes 2 n.extent) buf ((n.key ++ n.data) ++ (new ++ (after ++ rest))) resized (at + 4) two now from (sym two_is)
    ∙ append_assoc before head (buf ++ ((n.key ++ n.data) ++ (new ++ (after ++ rest))))
    ∙ ap (λ (x : List ℕ). before ++ (head ++ (x ++ ((n.key ++ n.data) ++ (new ++ (after ++ rest)))))) written
    ∙ ap (λ (x : List ℕ). before ++ x) (sym (node_bytes-spare m (after ++ rest)))
    ∙ append_assoc front (flat_map node_bytes (take i p.nodes)) (node_bytes m ++ (after ++ rest))
    ∙ ap (λ (x : List ℕ). front ++ (flat_map node_bytes (take i p.nodes) ++ (node_bytes m ++ (after ++ x)))) last
    ∙ ap (λ (x : List ℕ). front ++ x) (sym (node_area-set p.nodes i m h))
  where
    regroup : (b h e k r : List ℕ) → b ++ (h ++ (e ++ (k ++ r))) ≡ (b ++ (h ++ (e ++ k))) ++ r
    regroup b h e k r = simp append_assoc

-- a page's bytes without its nodes from a place on
pub kept_bytes : (front : List ℕ) (p : PageContents) (i : ℕ) (bytes filled : List ℕ) (start size : ℕ) → length front ≡ 32 → IsPage p → bytes ≡ front ++ node_area p.nodes → start ≡ page_size (take i p.nodes) → start + size ≡ page_size p.nodes → filled ≡ replicate size 0 → take start bytes ++ (filled ++ drop size (drop start bytes)) ≡ front ++ node_area (take i p.nodes)
kept_bytes front p i bytes filled start size long page spelled start_is size_is filled_is =
    let before = front ++ flat_map node_bytes (take i p.nodes) in
    let after = flat_map node_bytes (drop i p.nodes) in
    let zeros = replicate {A = ℕ} (4096 - page_size p.nodes) 0 in
    let sums : sum_by node_size (take i p.nodes) + sum_by node_size (drop i p.nodes) ≡ sum_by node_size p.nodes = sym (sum_by-append node_size (take i p.nodes) (drop i p.nodes)) ∙ ap (sum_by node_size) (take-append-drop i p.nodes) in
    let width : length after ≡ size = omega (arith, length-nodes (drop i p.nodes) (All-drop IsSmall i p.nodes (small_nodes p page))) in
    let all : replicate {A = ℕ} size 0 ++ zeros ≡ replicate (4096 - page_size (take i p.nodes)) 0 = replicate-append-replicate size (4096 - page_size p.nodes) 0 ∙ ap (λ k. replicate k 0) (omega (arith, page.size)) in
    put_over before after filled zeros bytes start size (spelled ∙ area-split front p i) (length-before front p i long page ∙ sym start_is) width
    ∙ ap (λ (x : List ℕ). before ++ (x ++ zeros)) filled_is ∙ ap (λ (x : List ℕ). before ++ x) all
    ∙ append_assoc front (flat_map node_bytes (take i p.nodes)) (replicate (4096 - page_size (take i p.nodes)) 0)

-- an empty page's bytes with the nodes of another one from a place on
pub moved_bytes : (front to : List ℕ) (p q : PageContents) (i : ℕ) (bytes other copied : List ℕ) (start size wide : ℕ) → length front ≡ 32 → length to ≡ 32 → IsPage p → q.nodes ≡ [] → bytes ≡ front ++ node_area p.nodes → other ≡ to ++ node_area q.nodes → start ≡ page_size (take i p.nodes) → start + size ≡ page_size p.nodes → wide ≡ size → copied ≡ take size (drop start bytes) → take 32 other ++ (copied ++ drop wide (drop 32 other)) ≡ to ++ node_area (drop i p.nodes)
moved_bytes front to p q i bytes other copied start size wide long long_to page empty spelled is start_is size_is wide_is copied_is =
    let after = flat_map node_bytes (drop i p.nodes) in
    let sums : sum_by node_size (take i p.nodes) + sum_by node_size (drop i p.nodes) ≡ sum_by node_size p.nodes = sym (sum_by-append node_size (take i p.nodes) (drop i p.nodes)) ∙ ap (sum_by node_size) (take-append-drop i p.nodes) in
    let width : length after ≡ size = omega (arith, length-nodes (drop i p.nodes) (All-drop IsSmall i p.nodes (small_nodes p page))) in
    let cut : copied ≡ after = copied_is ∙ ap (λ (x : List ℕ). take size (drop start x)) (spelled ∙ area-split front p i) ∙ ap (take size) (drop_at (front ++ flat_map node_bytes (take i p.nodes)) (after ++ replicate (4096 - page_size p.nodes) 0) start (length-before front p i long page ∙ sym start_is)) ∙ take_at after (replicate (4096 - page_size p.nodes) 0) size width in
    let first : take 32 other ≡ to = ap (take 32) is ∙ take_at to (node_area q.nodes) 32 long_to in
    let none : page_size q.nodes ≡ 32 = ap page_size empty in
    let zeros : node_area q.nodes ≡ replicate (4096 - page_size q.nodes) 0 = ap (λ (ns : List Node). flat_map node_bytes ns ++ replicate (4096 - page_size q.nodes) 0) empty in
    let rest : drop wide (drop 32 other) ≡ replicate (4096 - page_size (drop i p.nodes)) 0 =
    ap (λ (x : List ℕ). drop wide (drop 32 x)) is ∙ ap (drop wide) (drop_at to (node_area q.nodes) 32 long_to) ∙ ap (drop wide) zeros
    ∙ drop-replicate wide (4096 - page_size q.nodes) 0 ∙ ap (λ k. replicate k 0) (omega arith) in
    rw (first, rest, cut) refl
