-- The finding that a fault of a long value is.
use Rattle.image_contents.specs.declared.values.fault.ValueFault.{ValueFault}
use Rattle.image_findings.specs.Images.{Finding}
use Rattle.image_findings.specs.Images.Finding.{Long}

abbrev pub finding_of : ValueFault → Finding
finding_of fault = Long fault.entry fault.place fault.have fault.wanted
