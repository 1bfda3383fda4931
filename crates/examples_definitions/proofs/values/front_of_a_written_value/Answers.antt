use Rattle.std.proofs.Common.{◌≡◌, ℕ, zero, suc, min, List, ◌∷◌, take, replicate, refl, sym, ap, ◌∙◌, arith}
use Rattle.std.proofs.Math.Seq.{take-nil}
use Rattle.std.proofs.lemmas.List.{take-map}
use Rattle.jet_base.specs.declared.words.ColType.{ColType}
use Rattle.jet_base.specs.declared.words.ColType.TheVariants.{Bit}
use Rattle.jet_base.specs.declared.words.Given.{Given}
use Rattle.jet_base.specs.declared.words.Given.TheVariants.{Null, Number, Bytes, Fill}
use Rattle.jet_base.specs.Given.{given_front, given_bytes, as_stored, as_bit}
use Rattle.examples_definitions.proofs.values.front_of_a_written_value.Goals as goal

stored-front : (kind : ColType) (n : ℕ) (bytes : List ℕ) → as_stored kind (take n bytes) ≡ take n (as_stored kind bytes)
stored-front Bit n bytes = sym (take-map as_bit n bytes)
stored-front _ n bytes = refl

repeated-front : (n count byte : ℕ) → replicate (min n count) byte ≡ take n (replicate count byte)
repeated-front zero count byte = let e : min 0 count ≡ 0 = omega arith in ap (λ k. replicate k byte) e
repeated-front (suc n) zero byte = let e : min (suc n) 0 ≡ 0 = omega arith in ap (λ k. replicate k byte) e
repeated-front (suc n) (suc count) byte =
    let e : min (suc n) (suc count) ≡ suc (min n count) = omega arith in
    ap (λ k. replicate k byte) e ∙ ap (λ r. byte ∷ r) (repeated-front n count byte)

front : (n : ℕ) (kind : ColType) (value : Given) → given_front n kind value ≡ take n (given_bytes kind value)
front n kind Null = sym (take-nil n)
front n kind (Number m) = refl
front n kind (Bytes bytes) = stored-front kind n bytes
front n kind (Fill count byte) = ap (as_stored kind) (repeated-front n count byte) ∙ stored-front kind n (replicate count byte)

pub returns : goal.returns
returns c n kind value = front n kind value
