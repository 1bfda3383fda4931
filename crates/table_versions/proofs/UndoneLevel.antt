-- A level whose open changes are undone one by one.
use Rattle.std.proofs.Common.{◌≡◌, ℕ, ◌<◌, suc, Bool, true, false, ◌||◌, cond, List, [], ◌∷◌, refl, sym, ap, subst, ◌∙◌, arith}
use Rattle.std.specs.List.{list_any}
use Rattle.common_lemmas.proofs.Booleans.{impossible}
use Rattle.laws_engine.specs.HeldRecords.{HeldRecord, as_undone, undone_change}
use Rattle.laws_engine.specs.VersionedTables.{LeavesUndone, VersionedTables, last_undone, with_last_undone}

-- how many pass
abbrev pub left_in : (HeldRecord → Bool) → List HeldRecord → ℕ
left_in test [] = 0
left_in test (x ∷ held) = cond (test x) (suc (left_in test held)) (left_in test held)

-- where none passes, nothing is undone
pub last_none : (test : HeldRecord → Bool) (held : List HeldRecord) → list_any test held ≡ false → last_undone test held ≡ held
last_none test [] e = refl
last_none test (x ∷ held) e = by (test x) (list_any test held) refl refl e
  where
    by : (a b : Bool) → test x ≡ a → list_any test held ≡ b → (a || b) ≡ false → cond (list_any test held) (x ∷ last_undone test held) (undone_change test x ∷ held) ≡ x ∷ held
    by true b f g e = impossible (sym e)
    by false true f g e = impossible (sym e)
    by false false f g e = (λ i. cond (g i) (x ∷ last_undone test held) (cond (f i) (as_undone x) x ∷ held))

one_fewer : (test : HeldRecord → Bool) → LeavesUndone test → (held : List HeldRecord) → list_any test held ≡ true → suc (left_in test (last_undone test held)) ≡ left_in test held
one_fewer test leaves [] e = impossible e
one_fewer test leaves (x ∷ held) e = by (test x) (list_any test held) refl refl e (one_fewer test leaves held)
  where
    head : (b : Bool) (n : ℕ) (m : ℕ) → suc m ≡ n → suc (cond b (suc m) m) ≡ cond b (suc n) n
    head true n m e = ap suc e
    head false n m e = e

    by : (a b : Bool) → test x ≡ a → list_any test held ≡ b → (a || b) ≡ true → (list_any test held ≡ true → suc (left_in test (last_undone test held)) ≡ left_in test held)
        → suc (left_in test (cond (list_any test held) (x ∷ last_undone test held) (undone_change test x ∷ held))) ≡ left_in test (x ∷ held)
    by a true f g e rest =
        ap (λ b. suc (left_in test (cond b (x ∷ last_undone test held) (undone_change test x ∷ held)))) g
        ∙ head (test x) (left_in test held) (left_in test (last_undone test held)) (rest g)
    by true false f g e rest =
        ap (λ b. suc (left_in test (cond b (x ∷ last_undone test held) (undone_change test x ∷ held)))) g
        ∙ ap (λ b. suc (left_in test (cond b (as_undone x) x ∷ held))) f
        ∙ ap (λ b. suc (cond b (suc (left_in test held)) (left_in test held))) (leaves x)
        ∙ sym (ap (λ b. cond b (suc (left_in test held)) (left_in test held)) f)
    by false false f g e rest = impossible e

-- how many steps are left at most
abbrev pub steps_left : Bool → (HeldRecord → Bool) → VersionedTables → ℕ
steps_left more test store = cond more (suc (left_in test store.held)) (left_in test store.held)

pub fewer_steps : (test : HeldRecord → Bool) → LeavesUndone test → (more : Bool) (store : VersionedTables) → more ≡ list_any test store.held → steps_left more test (with_last_undone test store) < steps_left true test store
fewer_steps test leaves true store is = let one = one_fewer test leaves store.held (sym is) in omega (arith, one)
fewer_steps test leaves false store is = subst (λ (held : List HeldRecord). left_in test held < suc (left_in test store.held)) (sym (last_none test store.held (sym is))) (omega arith)

pub none_left_then : (test : HeldRecord → Bool) (store : VersionedTables) → list_any test store.held ≡ false → list_any test (with_last_undone test store).held ≡ false
none_left_then test store e = ap (list_any test) (last_none test store.held e) ∙ e
