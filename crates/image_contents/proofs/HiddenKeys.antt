-- Bookmarks that are numbers of entries.
use Rattle.std.proofs.Common.{◌≡◌, ℕ, ◌==◌, Bool, true, false, ◌&&◌, List, [], ◌∷◌, length, reverse, sym, ap, ◌∙◌, arith}
use Rattle.std.specs.Prelude.{nat_le}
use Rattle.std.proofs.lemmas.Bool.{eq-eqb, eqb-true}
use Rattle.byteorder.specs.Endian.{big_number}
use Rattle.common_lemmas.proofs.Booleans.{by_test}
use Rattle.image_findings.specs.RowFindings.{is_hidden_key}
use Rattle.jet_base.specs.ColumnType.{from_little_endian}

-- a number of eight bytes, the highest first, is the one that they write from the last
big_is : (b : List ℕ) → length b ≡ 8 → big_number 8 b ≡ from_little_endian (reverse b)
big_is [] e = absurd (omega (arith, e))
big_is (b0 ∷ []) e = absurd (omega (arith, e))
big_is (b0 ∷ b1 ∷ []) e = absurd (omega (arith, e))
big_is (b0 ∷ b1 ∷ b2 ∷ []) e = absurd (omega (arith, e))
big_is (b0 ∷ b1 ∷ b2 ∷ b3 ∷ []) e = absurd (omega (arith, e))
big_is (b0 ∷ b1 ∷ b2 ∷ b3 ∷ b4 ∷ []) e = absurd (omega (arith, e))
big_is (b0 ∷ b1 ∷ b2 ∷ b3 ∷ b4 ∷ b5 ∷ []) e = absurd (omega (arith, e))
big_is (b0 ∷ b1 ∷ b2 ∷ b3 ∷ b4 ∷ b5 ∷ b6 ∷ []) e = absurd (omega (arith, e))
big_is (b0 ∷ b1 ∷ b2 ∷ b3 ∷ b4 ∷ b5 ∷ b6 ∷ b7 ∷ []) e = omega arith
big_is (b0 ∷ b1 ∷ b2 ∷ b3 ∷ b4 ∷ b5 ∷ b6 ∷ b7 ∷ b8 ∷ rest) e = absurd (omega (arith, e))

abbrev is_given : ℕ → ℕ → Bool
is_given number entry = nat_le 1 entry && nat_le entry number

pub of_eight : (number : ℕ) (b : List ℕ) (entry : ℕ) (made : Bool) → length b ≡ 8 → entry ≡ big_number 8 b → made ≡ (nat_le 1 entry && nat_le entry number) → made ≡ is_hidden_key number b
of_eight number b entry made e is told =
    told ∙ ap (is_given number) (is ∙ big_is b e) ∙ sym (ap (λ t. t && is_given number (from_little_endian (reverse b))) (eq-eqb (length b) 8 e))

pub not_eight : (number : ℕ) (b : List ℕ) → (length b ≡ 8 → ⊥) → false ≡ is_hidden_key number b
not_eight number b other = by_test (length b == 8) (λ t. absurd (other (eqb-true (length b) 8 t))) (λ f. sym (ap (λ t. t && is_given number (from_little_endian (reverse b))) f))
