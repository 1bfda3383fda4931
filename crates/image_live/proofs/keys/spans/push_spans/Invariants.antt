use Rattle.std.proofs.Common.{◌≡◌, ◌++◌, map, take}
use Rattle.image_live.specs.KeySpans.{span_of}
use Rattle.image_live.proofs.keys.spans.push_spans.Given as goal

-- So far the spans are those of the keys that were passed.
abbrev pub invariant-loop-key : goal.invariant-loop-key
invariant-loop-key l = l.spans.items ≡ l.initial.spans.items ++ map (span_of l.lifetime.bookmark.now l.lifetime.begins l.lifetime.ends) (take l.key-index l.keys)
