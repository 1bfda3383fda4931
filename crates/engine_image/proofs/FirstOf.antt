-- What is found first of the tables of an image, by the place of a table.
use Rattle.std.proofs.Common.{◌≡◌, ◌<◌, ℕ, zero, suc, List, [], ◌∷◌, length, Option, Some, None, refl, sym, ap, subst, ◌∙◌, arith}
use Rattle.std.specs.Prelude.{map, slice_get, Result}
use Rattle.std.specs.Option.{option_or}
use Rattle.common_lemmas.proofs.Options.{some_apart}
use Rattle.image_findings.specs.Images.{Finding, ImageContents, first_of}
use Rattle.image_findings.specs.TableContents.{TableContents}
use Rattle.engine_image.specs.Checks.{finding_of_some, table_finding}
use Rattle.engine_image.specs.FoundFaults.{Refuses, Tells, finding_told}
use Rattle.engine_image.specs.declared.checks.TableCheck.{TableCheck}
use Rattle.engine_image.specs.declared.fault.ImageFault.{ImageFault}
use Rattle.engine_image.specs.declared.fault.ImageFault.TheVariants as fault

abbrev pub found_in : TableCheck → ImageContents → List TableContents → ℕ → Option Finding
found_in check image ts place = finding_of_some check image (slice_get ts place)

abbrev pub first_in : TableCheck → ImageContents → List TableContents → Option Finding
first_in check image ts = first_of (map (table_finding check image) ts)

pub none_of_all : (check : TableCheck) (image : ImageContents) (ts : List TableContents) → ((k : ℕ) → k < length ts → found_in check image ts k ≡ None) → first_in check image ts ≡ None
none_of_all check image [] h = refl
none_of_all check image (t ∷ ts) h = ap (λ (o : Option Finding). option_or o (first_in check image ts)) (h 0 (omega arith)) ∙ none_of_all check image ts (λ k lt. h (suc k) (omega (arith, lt)))

first_some : (check : TableCheck) (image : ImageContents) (ts : List TableContents) (place : ℕ) (x : Finding) → ((k : ℕ) → k < place → found_in check image ts k ≡ None) → found_in check image ts place ≡ Some x → first_in check image ts ≡ Some x
first_some check image [] place x below is = absurd (some_apart x (sym is))
first_some check image (t ∷ ts) zero x below is = ap (λ (o : Option Finding). option_or o (first_in check image ts)) is
first_some check image (t ∷ ts) (suc place) x below is =
    ap (λ (o : Option Finding). option_or o (first_in check image ts)) (below 0 (omega arith)) ∙ first_some check image ts place x (λ k lt. below (suc k) (omega (arith, lt))) is

pub first_refuses : (check : TableCheck) (image : ImageContents) (ts : List TableContents) (place : ℕ) (why : ImageFault) → ((k : ℕ) → k < place → found_in check image ts k ≡ None) → Refuses (found_in check image ts place) why → Refuses (first_in check image ts) why
first_refuses check image ts place (fault.NotSound found) below is = first_some check image ts place (finding_told found) below is
first_refuses check image ts place fault.OutOfMemory below is = tt

-- ---- two findings in turn

pub first_stays : (a b : Option Finding) (why : ImageFault) → Refuses a why → Refuses (option_or a b) why
first_stays a b (fault.NotSound found) h = ap (λ (o : Option Finding). option_or o b) h
first_stays a b fault.OutOfMemory h = tt

pub then_found : (a b : Option Finding) (why : ImageFault) → a ≡ None → Refuses b why → Refuses (option_or a b) why
then_found a b why none h = subst (λ (o : Option Finding). Refuses (option_or o b) why) (sym none) h

pub then_none : (a b : Option Finding) → a ≡ None → b ≡ None → option_or a b ≡ None
then_none a b none h = ap (λ (o : Option Finding). option_or o b) none ∙ h

pub refuses_same : (a b : Option Finding) (why : ImageFault) → a ≡ b → Refuses a why → Refuses b why
refuses_same a b why e h = subst (λ (o : Option Finding). Refuses o why) e h

pub tells_then : {X : Type 0} (a b : Option Finding) (r : Result X ImageFault) → a ≡ None → Tells b r → Tells (option_or a b) r
tells_then a b r none h = subst (λ (o : Option Finding). Tells (option_or o b) r) (sym none) h

pub tells_same : {X : Type 0} (a b : Option Finding) (r : Result X ImageFault) → a ≡ b → Tells a r → Tells b r
tells_same a b r e h = subst (λ (o : Option Finding). Tells o r) e h

-- what refuses the first part of an image is what is found first of the whole
pub refuses_found : (a b : Option Finding) (why : ImageFault) → ((found : Finding) → a ≡ Some found → b ≡ Some found) → Refuses a why → Refuses b why
refuses_found a b (fault.NotSound found) same h = same (finding_told found) h
refuses_found a b fault.OutOfMemory same h = tt
