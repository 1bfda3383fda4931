use Rattle.std.proofs.Common.{◌≡◌, drop}
use Rattle.script_words.specs.Words.{number_from}
use Rattle.script_words.proofs.numbers.digits_up_to.Given as goal

-- the number so far and the digits behind it stand for what all of them do
abbrev pub invariant-loop-digit : goal.invariant-loop-digit
invariant-loop-digit l = number_from l.number (drop l.digit-index l.digits) ≡ number_from 0 l.digits
