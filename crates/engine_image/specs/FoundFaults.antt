-- What refuses an image, and what a check tells of what is found first.
use Rattle.std.specs.Prelude.{◌≡◌, Option, Some, None, Result, Ok, Err, if◌then◌else◌}
use Rattle.image_contents.specs.ValueFaults as values
use Rattle.image_findings.specs.Images.{Finding}
use Rattle.image_findings.specs.Images.Finding.{Pages, Tree, Catalog, Row, Live, Index, Unique}
use Rattle.engine_image.specs.declared.fault.Finding.{Finding as Told}
use Rattle.engine_image.specs.declared.fault.Finding.TheVariants as told
use Rattle.engine_image.specs.declared.fault.ImageFault.{ImageFault}
use Rattle.engine_image.specs.declared.fault.ImageFault.TheVariants as fault

abbrev pub finding_told : Told → Finding
finding_told (told.Pages page) = Pages page
finding_told (told.Tree root page) = Tree root page
finding_told told.Catalog = Catalog
finding_told (told.Row table bookmark) = Row table bookmark
finding_told told.Live = Live
finding_told (told.Index table index key is_stored) = Index table index key (if is_stored then 1 else 0) (if is_stored then 0 else 1)
finding_told (told.Unique table index key) = Unique table index key
finding_told (told.Long value) = values.finding_of value

-- It is what is found first. Want of memory tells nothing.
abbrev pub Refuses : Option Finding → ImageFault → Type 0
Refuses first (fault.NotSound found) = first ≡ Some (finding_told found)
Refuses first fault.OutOfMemory = Unit {0}

-- Nothing is found, or it is told what is found first.
abbrev pub Tells : {X : Type 0} → Option Finding → Result X ImageFault → Type 0
Tells first (Ok x) = first ≡ None
Tells first (Err why) = Refuses first why
