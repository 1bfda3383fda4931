-- What opens the definitions where an example computes: `unfolding computing` under an answer's signature.
use Rattle.std.specs.Fmt.{digits}

unfoldable pub computing : Unit {0}
unfolding digits
computing = tt
