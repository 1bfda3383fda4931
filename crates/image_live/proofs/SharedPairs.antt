-- The loop over spans in order, pair by pair.
use Rattle.std.proofs.Common.{◌≡◌, ℕ, zero, suc, ◌+◌, ◌-◌, ◌<◌, ◌≤◌, Bool, true, false, ◌&&◌, cond, List, [], ◌∷◌, drop, length, Option, Some, None, refl, sym, ap, ◌∙◌, arith}
use Rattle.std.specs.Prelude.{not, ◌==◌, ◌||◌, nat_lt, bytes_eq, slice_get}
use Rattle.std.proofs.lemmas.Bool.Decides.{nat_tests}
use Rattle.image_findings.specs.LiveFindings.{are_apart}
use Rattle.version_cleanup.specs.LiveSessions.{LiveState}
use Rattle.version_store.specs.HeldChanges.{HeldChange}
use Rattle.image_live.specs.KeySpans.{Span, apart_at, first_shared, follows}
use Rattle.image_live.proofs.Places.{left_at}

two_left : (l : List Span) (place : ℕ) (s next : Span) → slice_get l place ≡ Some s → slice_get l (suc place) ≡ Some next → drop place l ≡ s ∷ next ∷ drop (suc (suc place)) l
two_left l place s next at behind = left_at l place s at ∙ ap (λ (m : List Span). s ∷ m) (left_at l (suc place) next behind)

few_left : (l : List Span) (place : ℕ) → length l ≤ suc place → length (drop place l) ≤ 1
few_left [] zero le = omega arith
few_left [] (suc place) le = omega arith
few_left (s ∷ l) zero le = le
few_left (s ∷ l) (suc place) le = few_left l place (omega (arith, le))

module _ (sessions : List LiveState) (held : List HeldChange) where
  abbrev shared_from : List Span → ℕ → Option (List ℕ)
  shared_from l place = first_shared sessions held (drop place l)

  abbrev is_shared : Span → Span → Bool
  is_shared s next = bytes_eq s.key next.key && not (follows sessions held s next)

  pair : (l : List Span) (place : ℕ) (s next : Span) → slice_get l place ≡ Some s → slice_get l (suc place) ≡ Some next → shared_from l place ≡ cond (is_shared s next) (Some next.key) (shared_from l (suc place))
  pair l place s next at behind =
      ap (first_shared sessions held) (two_left l place s next at behind) ∙ ap (λ (m : List Span). cond (is_shared s next) (Some next.key) (first_shared sessions held m)) (sym (left_at l (suc place) next behind))

  none_of_few : (l : List Span) → length l ≤ 1 → first_shared sessions held l ≡ None
  none_of_few [] le = refl
  none_of_few (s ∷ []) le = refl
  none_of_few (s ∷ next ∷ l) le = absurd (omega (arith, le))

  pub goes : (l : List Span) (next more : ℕ) (s x : Span) (total : Option (List ℕ)) → 1 ≤ next → more ≡ next + 1 → slice_get l (next - 1) ≡ Some s → slice_get l next ≡ Some x → is_shared s x ≡ false → shared_from l (next - 1) ≡ total → shared_from l (more - 1) ≡ total
  goes l next more s x total le is at behind apart all =
      let step : more - 1 ≡ suc (next - 1) = omega (arith, le, is) in
      let here : suc (next - 1) ≡ next = omega (arith, le) in
      ap (shared_from l) step
      ∙ sym (pair l (next - 1) s x at (ap (slice_get l) here ∙ behind) ∙ ap (λ b. cond b (Some x.key) (shared_from l (suc (next - 1)))) apart)
      ∙ all

  pub finds : (l : List Span) (next : ℕ) (s x : Span) (total : Option (List ℕ)) → 1 ≤ next → slice_get l (next - 1) ≡ Some s → slice_get l next ≡ Some x → is_shared s x ≡ true → shared_from l (next - 1) ≡ total → Some x.key ≡ total
  finds l next s x total le at behind shared all =
      let here : suc (next - 1) ≡ next = omega (arith, le) in
      sym (pair l (next - 1) s x at (ap (slice_get l) here ∙ behind) ∙ ap (λ b. cond b (Some x.key) (shared_from l (suc (next - 1)))) shared) ∙ all

  pub ends : (l : List Span) (next : ℕ) (total : Option (List ℕ)) → 1 ≤ next → length l ≤ next → shared_from l (next - 1) ≡ total → None ≡ total
  ends l next total le end all = sym (none_of_few (drop (next - 1) l) (few_left l (next - 1) (omega (arith, le, end)))) ∙ all

  -- ---- one follows another

  not_less : (a b : ℕ) → b ≤ a → nat_lt a b ≡ false
  not_less a b le = grind (arith, nat_tests)

  is_less : (a b : ℕ) → a < b → nat_lt a b ≡ true
  is_less a b lt = grind (arith, nat_tests)

  same_number : (a b : ℕ) → a ≡ b → (a == b) ≡ true
  same_number a b e = grind (arith, nat_tests)

  not_same : (a b : ℕ) → a < b → (a == b - 1) ≡ false → (suc a == b) ≡ false
  not_same a b lt e = grind (arith, nat_tests)

  pub follows_not : (s next : Span) → next.begins ≤ s.ends → false ≡ follows sessions held s next
  follows_not s next le = sym (ap (λ b. b && ((suc s.ends == next.begins) || apart_at sessions held s.ends (next.begins - 1))) (not_less s.ends next.begins le))

  pub follows_there : (s next : Span) → s.ends < next.begins → s.ends ≡ next.begins - 1 → true ≡ follows sessions held s next
  follows_there s next lt e =
      sym (ap (λ b. b && ((suc s.ends == next.begins) || apart_at sessions held s.ends (next.begins - 1))) (is_less s.ends next.begins lt)
      ∙ ap (λ b. b || apart_at sessions held s.ends (next.begins - 1)) (same_number (suc s.ends) next.begins (omega (arith, lt, e))))

  pub follows_apart : (s next : Span) (x h : HeldChange) (result : Bool) → s.ends < next.begins → (s.ends == next.begins - 1) ≡ false → slice_get held s.ends ≡ Some x → slice_get held (next.begins - 1) ≡ Some h → result ≡ are_apart sessions x h → result ≡ follows sessions held s next
  follows_apart s next x h result lt other at behind told =
      told
      ∙ sym (ap (λ b. b && ((suc s.ends == next.begins) || apart_at sessions held s.ends (next.begins - 1))) (is_less s.ends next.begins lt)
      ∙ ap (λ b. b || apart_at sessions held s.ends (next.begins - 1)) (not_same s.ends next.begins lt other)
      ∙ ap (λ (o : Option HeldChange). elim o [ Some y ↦ elim (slice_get held (next.begins - 1)) [ Some z ↦ are_apart sessions y z | None ↦ false ] | None ↦ false ]) at
      ∙ ap (λ (o : Option HeldChange). elim o [ Some z ↦ are_apart sessions x z | None ↦ false ]) behind)
