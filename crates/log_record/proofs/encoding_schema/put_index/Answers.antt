use Rattle.std.proofs.Common.{◌++◌, ◌∷◌, length, ap, ◌∙◌}
use Rattle.std.specs.List.{flat_map}
use Rattle.log_grammar.specs.EntryBytes.{index_bytes, segment_bytes, condition_bytes}
use Rattle.log_record.proofs.Appends.{four_appended}
use Rattle.log_record.proofs.encoding_schema.put_index.Goals as goal

pub returns-clause-items : goal.returns-clause-items
unfolding index_bytes
returns-clause-items c =
    four_appended c.args.bytes.now.items _ _ _ _ c.put_index_head.new.bytes.items c.put_segments.new.bytes.items c.put_conditions.new.bytes.items c.put_name.new.bytes.items
    c.put_index_head.ensures.items
    (c.put_segments.ensures.items ∙ ap (λ s. c.put_index_head.new.bytes.items ++ (length s ∷ flat_map segment_bytes s)) c.as_slice.ensures)
    (c.put_conditions.ensures.items ∙ ap (λ s. c.put_segments.new.bytes.items ++ (length s ∷ flat_map condition_bytes s)) c.as_slice-2.ensures)
    c.put_name.ensures.items
