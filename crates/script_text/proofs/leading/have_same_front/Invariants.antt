use Rattle.std.proofs.Common.{◌≡◌, take}
use Rattle.script_text.proofs.leading.have_same_front.Given as goal

-- the bytes so far are the same
abbrev pub invariant-loop-i : goal.invariant-loop-i
invariant-loop-i l = take l.i l.text ≡ take l.i l.word
