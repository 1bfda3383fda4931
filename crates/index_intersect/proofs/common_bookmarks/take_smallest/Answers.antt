use Rattle.std.proofs.Common.{◌≡◌, ◌+◌, ◌<◌, ◌%◌, ◌&&◌, length, ap, sym, subst, ◌∙◌, refl, arith}
use Rattle.std.specs.List.{list_all}
use Rattle.std.proofs.Math.Nat.{mod-lt}
use Rattle.std.proofs.lemmas.List.{get_or-set_same, length-set}
use Rattle.index_intersect.specs.Walks.{bookmarks_ahead, has, will_read}
use Rattle.index_intersect.proofs.Turns.{all_removed, all_set, fewer_left}
use Rattle.index_intersect.proofs.common_bookmarks.take_smallest.Goals as goal

pub loop-all-init : goal.loop-all-init
loop-all-init g c = record { bound = c.requires; told = λ b. refl }

pub loop-all-smaller : goal.loop-all-smaller
loop-all-smaller g c =
    let es = g.W.View.entries c.args.view.now in
    let fewer = rw c.if-branch.true at c.in_ok-read_next.ensures.fewer in
    fewer_left (λ part. length (bookmarks_ahead es part.walk)) c.loop-all.all.items c.loop-all.turn c.read_next.new.self c.index_mut.result.now c.loop-all.invariant.bound
    (fewer ∙ ap (λ part. length (bookmarks_ahead es part.walk)) c.index_mut.ensures.value)

pub loop-all-preserved : goal.loop-all-preserved
loop-all-preserved g c =
    let all = c.loop-all.all.items in
    let turn = c.loop-all.turn in
    let new = c.read_next.new.self in
    let count : c.len.result ≡ length all = omega (arith, c.len.ensures, c.loop-all.all.ok.0) in
    let next : (turn + 1) % c.len.result < c.len.result = mod-lt (turn + 1) (omega (arith, count, c.loop-all.invariant.bound)) in
    record {
      bound = subst (λ n. (turn + 1) % c.len.result < n) (count ∙ sym (length-set all turn new)) next;
      told = λ b.
          let read = rw c.if-branch.true at c.in_ok-read_next.ensures.read in
          all_set (will_read (g.W.View.entries c.args.view.now) b) all turn new c.index_mut.result.now c.loop-all.invariant.bound
          (read b ∙ ap (will_read (g.W.View.entries c.args.view.now) b) c.index_mut.ensures.value)
          ∙ c.loop-all.invariant.told b;
    }

pub returns : goal.returns
returns g c = λ b.
    let is_read = will_read (g.W.View.entries c.args.view.now) b in
    let ended = rw c.if-branch.false at c.in_ok-read_next.ensures.ended in
    let taken = c.remove.ensures.value ∙ get_or-set_same c.loop-all.all.items c.loop-all.turn c.read_next.new.self c.remove.result c.loop-all.invariant.bound in
    (λ i. has (taken i).read b && list_all is_read (c.remove.ensures.items i))
    ∙ all_removed is_read c.loop-all.all.items c.loop-all.turn c.read_next.new.self c.index_mut.result.now (has c.read_next.new.self.read b) c.loop-all.invariant.bound
    (ended b ∙ ap is_read c.index_mut.ensures.value)
    ∙ c.loop-all.invariant.told b
