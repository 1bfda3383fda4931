use Rattle.std.proofs.Common.{◌≡◌, drop}
use Rattle.std.specs.Prelude.{◌&&◌}
use Rattle.std.specs.Char.{is_ascii_graphic}
use Rattle.std.specs.List.{list_all}
use Rattle.script_words.proofs.texts.are_graphic.Given as goal

-- the bytes so far and those that are left are graphic exactly where all are
abbrev pub invariant-loop-byte : goal.invariant-loop-byte
invariant-loop-byte l = (l.graphic && list_all is_ascii_graphic (drop l.byte-index l.bytes)) ≡ list_all is_ascii_graphic l.bytes
