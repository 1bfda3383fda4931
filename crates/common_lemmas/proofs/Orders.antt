-- What an order tells, and the order of byte strings.
use Rattle.std.proofs.Common.{◌≡◌, ℕ, Bool, true, ◌&&◌, ◌||◌, List, [], ◌∷◌, refl, sym, ap, ◌∙◌}
use Rattle.std.specs.Ordering.{nat_cmp, is_eq, is_lt, ordering_reverse, ordering_then}
use Rattle.std.specs.declared.cmp.Ordering.{Ordering}
use Rattle.std.specs.declared.cmp.Ordering.TheVariants.{Less, Equal, Greater}
use Rattle.std.specs.Cmp.Lexicographic.{slice_cmp}
use Rattle.std.proofs.lemmas.Cmp.{nat_list_cmp_total}

not_itself : (r : Ordering) → r ≡ ordering_reverse r → r ≡ Less → ⊥
not_itself Less e l = cc
not_itself Equal e l = cc
not_itself Greater e l = cc

not_both : (r : Ordering) → ordering_reverse r ≡ Less → r ≡ Less → ⊥
not_both Less e l = cc
not_both Equal e l = cc
not_both Greater e l = cc

pub less-irreflexive : (a : List ℕ) → ¬ (slice_cmp nat_cmp a a ≡ Less)
less-irreflexive a h = not_itself (slice_cmp nat_cmp a a) (nat_list_cmp_total.antisymm a a) h

pub less-asymmetric : (a b : List ℕ) → slice_cmp nat_cmp a b ≡ Less → ¬ (slice_cmp nat_cmp b a ≡ Less)
less-asymmetric a b h back = not_both (slice_cmp nat_cmp a b) (sym (nat_list_cmp_total.antisymm b a) ∙ back) h

-- no string is below the empty one
pub none_less : (a : List ℕ) → ¬ (slice_cmp nat_cmp a [] ≡ Less)
none_less [] h = cc
none_less (x ∷ xs) h = cc

-- ---- what a test of an order tells

pub is_less : (r : Ordering) → is_lt r ≡ true → r ≡ Less
is_less Less e = refl
is_less Equal e = cc
is_less Greater e = cc

pub is_equal : (r : Ordering) → is_eq r ≡ true → r ≡ Equal
is_equal Less e = cc
is_equal Equal e = refl
is_equal Greater e = cc

pub less_then : (r q : Ordering) → (is_lt r || (is_eq r && is_lt q)) ≡ is_lt (ordering_then r q)
less_then Less q = refl
less_then Equal q = refl
less_then Greater q = refl
