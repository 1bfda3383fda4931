-- Keys: which are the same, and how they lie to each other.
use Rattle.std.proofs.Common.{◌≡◌, ◌≢◌, ℕ, suc, ◌+◌, ◌<◌, true, false, List, [], ◌++◌, length, take, refl, sym, ap, subst, ◌∙◌, true≢false, arith}
use Rattle.std.proofs.lemmas.List.{append_cancel_left}
use Rattle.std.proofs.Math.Seq.{take-append_seam}
use Rattle.std.specs.declared.cmp.Ordering.{Ordering}
use Rattle.std.specs.declared.cmp.Ordering.TheVariants.{Less, Equal, Greater}
use Rattle.std.specs.Ordering.{is_eq, is_lt, ordering_reverse}
use Rattle.std.specs.Cmp.Lexicographic.{nat_list_cmp_total}
use Rattle.common_lemmas.proofs.Orders.{is_equal, is_less}
use Rattle.common_lemmas.proofs.Booleans.{by_test}
use Rattle.byteorder.specs.Endian.{big_bytes, big_number}
use Rattle.byteorder.specs.Numbers.{big_number-reads_back}
use Rattle.long_value.specs.Values.{chunk_key, order}
use Rattle.long_value.specs.ChangedValues.{differ, itself, same_key}

-- ---- equal keys

pub differing : (a b : List ℕ) → is_eq (order a b) ≡ false → a ≢ b
differing a b f e = true≢false (sym (itself a) ∙ ap (λ k. is_eq (order a k)) e ∙ f)

-- ---- the order

turned : (a b : List ℕ) → order a b ≡ ordering_reverse (order b a)
turned = nat_list_cmp_total.antisymm

lt_unequal : (r : Ordering) → is_lt r ≡ true → is_eq r ≡ false
lt_unequal Less e = refl
lt_unequal Equal e = absurd (true≢false (sym e))
lt_unequal Greater e = refl

pub lower_differs : (a b key : List ℕ) → is_lt (order a b) ≡ true → is_eq (order b key) ≡ true → is_eq (order a key) ≡ false
lower_differs a b key lt is = subst (λ k. is_eq (order a k) ≡ false) (same_key b key is) (lt_unequal (order a b) lt)

flip_by : (r : Ordering) → is_lt r ≡ true → is_lt (ordering_reverse r) ≡ false
flip_by Less e = refl
flip_by Equal e = refl
flip_by Greater e = absurd (true≢false (sym e))

pub not_above : (a b : List ℕ) → is_lt (order a b) ≡ true → is_lt (order b a) ≡ false
not_above a b lt = ap is_lt (turned b a) ∙ flip_by (order a b) lt

unflip_by : (r : Ordering) → is_lt r ≡ false → is_eq r ≡ false → is_lt (ordering_reverse r) ≡ true
unflip_by Less e f = absurd (true≢false e)
unflip_by Equal e f = absurd (true≢false f)
unflip_by Greater e f = refl

pub lower : (a b : List ℕ) → is_lt (order a b) ≡ false → is_eq (order a b) ≡ false → is_lt (order b a) ≡ true
lower a b ge apart = ap is_lt (turned b a) ∙ unflip_by (order a b) ge apart

-- b, not above m, is below what m is below
pub between : (b m a : List ℕ) → is_lt (order m b) ≡ false → is_lt (order m a) ≡ true → is_lt (order b a) ≡ true
between b m a ge lt =
    by_test (is_eq (order m b))
    (λ t. ap is_lt (sym (nat_list_cmp_total.congr m b a (is_equal (order m b) t))) ∙ lt)
    (λ t. ap is_lt (nat_list_cmp_total.trans b m a (is_less (order b m) (lower m b ge t)) (is_less (order m a) lt)))

-- ---- the keys of chunks

pub other_value : (id other : List ℕ) (a b : ℕ) → length id ≡ 12 → length other ≡ 12 → id ≢ other → is_eq (order (chunk_key id a) (chunk_key other b)) ≡ false
other_value id other a b long long' n = differ (chunk_key id a) (chunk_key other b) (λ e. n (same e))
  where
    same : chunk_key id a ≡ chunk_key other b → id ≡ other
    same e =
        sym (take-append_seam id (big_bytes 4 a))
        ∙ ap (λ k. take k (chunk_key id a)) (long ∙ sym long')
        ∙ ap (take (length other)) e
        ∙ take-append_seam other (big_bytes 4 b)

pub number_back : (a : ℕ) → a < 4294967296 → big_number 4 (big_bytes 4 a ++ []) ≡ a
number_back a lt = big_number-reads_back 4 a [] lt

pub other_chunk : (id : List ℕ) (a b : ℕ) → a < 4294967296 → b < 4294967296 → a ≢ b → is_eq (order (chunk_key id a) (chunk_key id b)) ≡ false
other_chunk id a b low low' n =
    differ (chunk_key id a) (chunk_key id b) (λ e. n (sym (number_back a low) ∙ ap (λ x. big_number 4 (x ++ [])) (append_cancel_left id (big_bytes 4 a) (big_bytes 4 b) e) ∙ number_back b low'))

pub next_key : (id : List ℕ) (k : ℕ) → chunk_key id (k + 1) ≡ chunk_key id (suc k)
next_key id k = let same : k + 1 ≡ suc k = omega arith in ap (chunk_key id) same
