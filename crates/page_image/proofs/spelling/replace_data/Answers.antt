-- The lengths, the key, the new data, and zeros.
use Rattle.std.proofs.Common.{◌≡◌, ◌-◌, ℕ, List, length, take, drop, replicate, ap, sym, ◌∙◌, arith}
use Rattle.page_image.specs.Page.{node_size}
use Rattle.page_image.proofs.Nodes.{length-node_bytes, node_bytes-replace}
use Rattle.page_image.proofs.spelling.replace_data.Goals as goal

pub returns : goal.returns
returns c n old key fits =
    let kept : c.split_at_mut-place.result.0.now ≡ take (length n.key) (drop 6 c.args.node.now) =
    c.split_at_mut-place.ensures.front ∙ ap (λ (k : ℕ). take k c.split_at_mut-head.result.1.now) (sym key) ∙ ap (take (length n.key)) c.split_at_mut-head.ensures.back in
    let whole : length c.args.node.now ≡ node_size n = ap (λ (x : List ℕ). length x) old ∙ length-node_bytes n fits in
    let spare : length c.split_at_mut-data_part.result.1.now ≡ n.extent - length c.args.data.now =
    omega (arith, whole, key, c.split_at_mut-head.ensures.back_len, c.split_at_mut-place.ensures.back_len, c.split_at_mut-data_part.ensures.back_len) in
    node_bytes-replace c.args.node.now n c.args.data.now c.split_at_mut-head.result.0.now c.split_at_mut-place.result.0.now c.copy_from_slice.new.self c.fill.new.self c.write_u16.new.buf
    old c.split_at_mut-head.ensures.front kept c.write_u16.ensures c.copy_from_slice.ensures.after (c.fill.ensures.after (λ y e. e) ∙ ap (λ k. replicate k 0) spare)
