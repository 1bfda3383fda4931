use Rattle.std.proofs.Common.{◌≡◌, ◌+◌, ◌-◌, ℕ, List, Some, take, drop, length, ◌∙◌, ap, arith, length-take}
use Rattle.jet_io.proofs.Known.{copies_front}
use Rattle.jet_io.proofs.memory.MemSourceSource.read.Goals as goal

pub returns-clause-bytes : goal.returns-clause-bytes
returns-clause-bytes c =
    let count = c.min-count.result in
    let next = c.args.self.now.next in
    let is : c.copy_from_slice.new.self ≡ take count (drop next c.args.self.now.bytes.items) =
    c.copy_from_slice.ensures.after ∙ ap (λ (l : List ℕ). take (next + count - next) (drop next l)) c.deref.ensures.value ∙ ap (λ n. take n (drop next c.args.self.now.bytes.items)) (omega arith) in
    let long : length c.copy_from_slice.new.self ≡ count = c.copy_from_slice.ensures.len ∙ omega (arith, length-take count c.args.into.now) in
    ap (λ (l : List ℕ). Some l) (copies_front c.copy_from_slice.new.self _ c.args.self.now.bytes.items next count is long)
