use Rattle.std.proofs.Common.{refl, sym, arith}
use Rattle.std.proofs.lemmas.Grind.{common_steps}
use Rattle.script_words.specs.Words.{hex_bytes_of}
use Rattle.script_words.proofs.HexPairs.{hex_pair_next, hex_pair_bad, hex_odd, hex_end}
use Rattle.script_words.proofs.texts.hex_bytes.Goals as goal

pub loop-rest-preserved : goal.loop-rest-preserved
loop-rest-preserved c =
    hex_pair_next c.loop-rest.bytes.items _ c.loop-rest.rest.now _ c.in-Some.byte (hex_bytes_of c.args.digits.now)
    c.in-len2-up.len_at_least (sym c.in-Some.ensures) c.loop-rest.invariant c.in_ok-push-in-Some.ensures.items refl

pub returns-then-not-is_empty : goal.returns-then-not-is_empty
returns-then-not-is_empty c = hex_odd c.loop-rest.bytes.items c.loop-rest.rest.now (hex_bytes_of c.args.digits.now) (grind (arith, common_steps)) c.in_default.len_below c.loop-rest.invariant

pub returns : goal.returns
returns c = hex_end c.loop-rest.bytes.items c.loop-rest.rest.now (hex_bytes_of c.args.digits.now) (grind (arith, common_steps)) c.loop-rest.invariant

pub returns-in-None : goal.returns-in-None
returns-in-None c = hex_pair_bad c.loop-rest.bytes.items c.loop-rest.rest.now (hex_bytes_of c.args.digits.now) c.in-len2-up.len_at_least (sym c.in-None.ensures) c.loop-rest.invariant
