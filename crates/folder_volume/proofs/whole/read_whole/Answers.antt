use Rattle.std.proofs.Common.{◌≡◌, ◌<◌, ◌≤◌, ◌+◌, ◌-◌, ◌^◌, ℕ, List, length, take, drop, ◌∙◌, ap, subst, arith}
use Rattle.folder_volume.proofs.Pieces.{reads_more, part_within}
use Rattle.folder_volume.proofs.OpenFiles.{same_then_same}
use Rattle.folder_volume.proofs.whole.read_whole.Goals as goal

pub loop-got-preserved : goal.loop-got-preserved
loop-got-preserved g c =
    let piece = c.read_at.new.into in
    let count = c.in_ok-count.count in
    let got = c.loop-got.got in
    let into = c.loop-got.into in
    let from : c.in-Some.from ≡ c.args.at + got = omega (arith, c.in-Some.ensures) in
    let few : count ≤ length piece = omega (arith, c.in_ok-count.ensures.within, c.read_at.auto.into) in
    let before : g.D.Folder.tells → g.D.Folder.bytes_at c.loop-got.folder (g.D.Folder.path_of c.loop-got.handle) ≡ g.D.Folder.bytes_at c.args.folder.now (g.D.Folder.path_of c.args.handle.now) =
    λ tells. ap (g.D.Folder.bytes_at c.loop-got.folder) (c.loop-got.invariant.path tells) ∙ (c.loop-got.invariant.files tells).bytes (g.D.Folder.path_of c.args.handle.now) in
    record {
      within = part_within got count (length into - got) into piece c.loop-got.invariant.within few;
      path = λ tells. c.read_at.ensures.path tells ∙ c.loop-got.invariant.path tells;
      bytes = λ tells. reads_more got count (length into - got) c.args.at into piece (g.D.Folder.bytes_at c.args.folder.now (g.D.Folder.path_of c.args.handle.now))
          c.loop-got.invariant.within few (c.loop-got.invariant.bytes tells)
          (subst (λ k. take count piece ≡ take count (drop k (g.D.Folder.bytes_at c.args.folder.now (g.D.Folder.path_of c.args.handle.now)))) from
          (subst (λ (l : List ℕ). take count piece ≡ take count (drop c.in-Some.from l)) (before tells) (c.in_ok-count.ensures.bytes tells)));
      files = λ tells. same_then_same g.D.Folder.bytes_at g.D.Folder.is_synced g.D.Folder.is_listed c.args.folder.now c.loop-got.folder c.read_at.new.self
          (c.loop-got.invariant.files tells) (c.in_ok-count.ensures.files tells);
      fits = λ tells. let read : c.in-Some.from + count < 2 ^ 64 = c.in_ok-count.ensures.fits tells in omega (arith, from, read);
      failures = c.in_ok-count.ensures.failures ∙ c.loop-got.invariant.failures;
    }
