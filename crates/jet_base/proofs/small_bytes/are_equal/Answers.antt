use Rattle.std.proofs.Common.{◌≡◌, ℕ, ◌-◌, ◌≤◌, Bool, false, List, ◌++◌, length, take, sym, ap, subst, ◌∙◌, arith, length-take}
use Rattle.std.specs.Prelude.{bytes_eq, replicate}
use Rattle.std.specs.Bool.{Decides}
use Rattle.std.specs.Cmp.{unsigned_Decides}
use mathlib.Core.Bool.{false≢true}
use Rattle.std.proofs.lemmas.Bool.Decides.{Decides-like, same_from_decides}
use Rattle.std.proofs.lemmas.List.{take-append-drop, take-take}
use Rattle.std.proofs.lemmas.Slice.Eq.{bytes_eq-Decides, slice_eq-Decides}
use Rattle.jet_base.specs.SmallBytes.{IsInPlace}
use Rattle.jet_base.proofs.small_bytes.are_equal.Goals as goal

-- the bytes in place are the string's, and zeros
whole : (count : ℕ) (bytes : List ℕ) → IsInPlace count bytes → bytes ≡ take count bytes ++ replicate (22 - count) 0
whole count bytes h = sym (take-append-drop count bytes) ∙ ap (λ (x : List ℕ). take count bytes ++ x) h.zeros

-- so all of them are equal where the strings are
all_equal : (count : ℕ) (a b : List ℕ) → IsInPlace count a → IsInPlace count b → take count a ≡ take count b → a ≡ b
all_equal count a b h k e = whole count a h ∙ (ap (λ (x : List ℕ). x ++ replicate (22 - count) 0) e ∙ sym (whole count b k))

alike : (count : ℕ) (a b : List ℕ) (r : Bool) → Decides r (a ≡ b) → IsInPlace count a → IsInPlace count b → r ≡ bytes_eq (take count a) (take count b)
alike count a b r d h k =
    same_from_decides r (bytes_eq (take count a) (take count b)) (Decides-like r (λ (e : a ≡ b). ap (take count) e) (all_equal count a b h k) d) (bytes_eq-Decides (take count a) (take count b))

differ : (xs ys : List ℕ) → (xs ≡ ys → ⊥) → false ≡ bytes_eq xs ys
differ xs ys unequal = same_from_decides false (bytes_eq xs ys) ((λ e. absurd (false≢true e)), (λ e. absurd (unequal e))) (bytes_eq-Decides xs ys)

counts : (m n : ℕ) (a b : List ℕ) → IsInPlace m a → IsInPlace n b → take m a ≡ take n b → m ≡ n
counts m n a b h k e = omega (arith, ap length e, length-take m a, length-take n b, h.all, h.within, k.all, k.within)

pub returns-then-count-other_count : goal.returns-then-count-other_count
returns-then-count-other_count c =
    differ (take c.args.count c.args.bytes.now) (take c.args.other_count c.args.other_bytes.now) (λ e. c.if-count-other_count.true (counts c.args.count c.args.other_count c.args.bytes.now c.args.other_bytes.now c.requires.own c.requires.other e))

pub returns-then-not-have_same_front : goal.returns-then-not-have_same_front
returns-then-not-have_same_front c =
    let other : IsInPlace c.args.count c.args.other_bytes.now = subst (λ (n : ℕ). IsInPlace n c.args.other_bytes.now) (sym c.if-count-other_count.false) c.requires.other in
    differ (take c.args.count c.args.bytes.now) (take c.args.other_count c.args.other_bytes.now) (λ e.
    let same : take c.args.count c.args.bytes.now ≡ take c.args.count c.args.other_bytes.now = e ∙ ap (λ (n : ℕ). take n c.args.other_bytes.now) (sym c.if-count-other_count.false) in
    let all = all_equal c.args.count c.args.bytes.now c.args.other_bytes.now c.requires.own other same in
    false≢true (sym c.if-not-have_same_front.true ∙ c.have_same_front.ensures.1 (ap (take 8) all)))

-- a short string ends within the front
pub returns-then-count-le-WORD_BYTES : goal.returns-then-count-le-WORD_BYTES
returns-then-count-le-WORD_BYTES c =
    let front : take 8 c.args.bytes.now ≡ take 8 c.args.other_bytes.now = c.have_same_front.ensures.0 c.if-not-have_same_front.false in
    let short : c.args.count ≤ 8 = c.if-count-le-WORD_BYTES.true in
    let own : take c.args.count c.args.bytes.now ≡ take c.args.count c.args.other_bytes.now =
    sym (take-take c.args.count 8 c.args.bytes.now short) ∙ ap (take c.args.count) front ∙ take-take c.args.count 8 c.args.other_bytes.now short in
    sym ((bytes_eq-Decides (take c.args.count c.args.bytes.now) (take c.args.other_count c.args.other_bytes.now)).1 (own ∙ ap (λ (n : ℕ). take n c.args.other_bytes.now) c.if-count-other_count.false))

pub returns : goal.returns
returns c =
    let other : IsInPlace c.args.count c.args.other_bytes.now = subst (λ (n : ℕ). IsInPlace n c.args.other_bytes.now) (sym c.if-count-other_count.false) c.requires.other in
    alike c.args.count c.args.bytes.now c.args.other_bytes.now c.eq.result (slice_eq-Decides unsigned_Decides c.args.bytes.now c.args.other_bytes.now c.eq.result c.eq.ensures) c.requires.own other
    ∙ ap (λ (n : ℕ). bytes_eq (take c.args.count c.args.bytes.now) (take n c.args.other_bytes.now)) c.if-count-other_count.false
