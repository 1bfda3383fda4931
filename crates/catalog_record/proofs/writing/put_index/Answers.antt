-- The rooms of the parts of an index: 10 bytes for its head, three for each column and each condition, and 65 for its name.
use Rattle.std.proofs.Common.{◌≡◌, length, refl, ap, arith}
use Rattle.log_grammar.specs.EntryBytes.{condition_bytes, segment_bytes}
use Rattle.log_grammar.proofs.Fits.{index_parts}
use Rattle.catalog_record.proofs.Rooms.{head_length, list_length}
use Rattle.catalog_record.proofs.writing.put_index.Goals as goal

pub put_conditions-requires-clause-room : goal.put_conditions-requires-clause-room
put_conditions-requires-clause-room c =
    let p = index_parts c.args.index.now c.requires.fits in
    let head : length c.put_u16.new.data.items ≡ 10 = head_length _ _ _ c.args.data.now.items c.put_u32.new.data.items c.put_u32-2.new.data.items c.put_u16.new.data.items c.requires.empty c.put_u32.ensures c.put_u32-2.ensures c.put_u16.ensures refl refl refl in
    let behind = list_length segment_bytes (λ s. refl) c.put_u16.new.data.items c.put_segments.new.data.items c.as_slice.result.now c.put_segments.ensures in
    omega (arith, head, behind, p.segment_count, p.condition_count, ap length c.as_slice.ensures, ap length c.as_slice-2.ensures)

pub put_name-requires-clause-room : goal.put_name-requires-clause-room
put_name-requires-clause-room c =
    let p = index_parts c.args.index.now c.requires.fits in
    let head : length c.put_u16.new.data.items ≡ 10 = head_length _ _ _ c.args.data.now.items c.put_u32.new.data.items c.put_u32-2.new.data.items c.put_u16.new.data.items c.requires.empty c.put_u32.ensures c.put_u32-2.ensures c.put_u16.ensures refl refl refl in
    let segments = list_length segment_bytes (λ s. refl) c.put_u16.new.data.items c.put_segments.new.data.items c.as_slice.result.now c.put_segments.ensures in
    let conditions = list_length condition_bytes (λ s. refl) c.put_segments.new.data.items c.put_conditions.new.data.items c.as_slice-2.result.now c.put_conditions.ensures in
    omega (arith, head, segments, conditions, p.segment_count, p.condition_count, ap length c.as_slice.ensures, ap length c.as_slice-2.ensures)
