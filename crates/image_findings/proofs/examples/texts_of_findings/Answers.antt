use Rattle.std.proofs.Common.{refl}
use Rattle.std.specs.Fmt.{digits}
use Rattle.image_findings.proofs.examples.texts_of_findings.Goals as goal

pub returns-clause-pages : goal.returns-clause-pages
unfolding digits
returns-clause-pages c = refl

pub returns-clause-tree : goal.returns-clause-tree
unfolding digits
returns-clause-tree c = refl

pub returns-clause-catalog : goal.returns-clause-catalog
unfolding digits
returns-clause-catalog c = refl

pub returns-clause-row : goal.returns-clause-row
unfolding digits
returns-clause-row c = refl

pub returns-clause-live : goal.returns-clause-live
unfolding digits
returns-clause-live c = refl

pub returns-clause-index : goal.returns-clause-index
unfolding digits
returns-clause-index c = refl

pub returns-clause-unique : goal.returns-clause-unique
unfolding digits
returns-clause-unique c = refl

pub returns-clause-long : goal.returns-clause-long
unfolding digits
returns-clause-long c = refl
