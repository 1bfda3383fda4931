use Rattle.std.proofs.Common.{◌≡◌, ℕ, ◌+◌, ◌∷◌, ◌++◌, List, length, refl, ◌∙◌, ap, subst}
use Rattle.checkpoint.proofs.Pieces.{OnOk_both}
use Rattle.byteorder.specs.Endian.{little_bytes}
use Rattle.jet_volume.specs.Image.{file_bytes}
use Rattle.jet_volume.specs.Crash.{CrashLeaves}
use Rattle.checkpoint.specs.Contents.{bytes_behind_gate, file_of}
use Rattle.checkpoint.specs.Shape.{contents_with}
use Rattle.checkpoint.specs.Steps.{SaysOpenly}
use Rattle.checkpoint.proofs.Files.{file_closes, file_rests, file_opens, rest_stands}
use Rattle.checkpoint.proofs.rest.write_file.Goals as goal

pub returns-in_err-close_gate-clause-each : goal.returns-in_err-close_gate-clause-each
returns-in_err-close_gate-clause-each g c tells =
    file_closes g.V.Volume.moment g.V.Volume.left_at c.args.volume.now c.close_gate.new.volume c.file_of-file.result (file_of c.args.head.number)
    (contents_with c.args.head c.args.slots.now c.args.live.now) c.file_of-file.ensures (c.close_gate.ensures.each tells)

pub returns-in_err-write_rest-clause-each : goal.returns-in_err-write_rest-clause-each
returns-in_err-write_rest-clause-each g c tells =
    file_rests g.V.Volume.moment g.V.Volume.left_at c.args.volume.now c.close_gate.new.volume c.write_rest.new.volume c.file_of-file.result (file_of c.args.head.number)
    (contents_with c.args.head c.args.slots.now c.args.live.now) (file_bytes c.file_of-file.result (g.V.Volume.seen c.close_gate.new.volume)) c.file_of-file.ensures
    (c.in_ok-close_gate.ensures.closed tells) c.in_ok-close_gate.ensures.durable (c.close_gate.ensures.each tells) c.write_rest.ensures.each

pub returns-clause-each : goal.returns-clause-each
returns-clause-each g c tells =
    let contents = contents_with c.args.head c.args.slots.now c.args.live.now in
    let head_is = c.write_head.ensures.value c.args.slots.now c.args.live.now refl in
    let shut = c.in_ok-close_gate.ensures.closed tells in
    let rest : List ℕ = c.args.slots.now ++ (little_bytes 4 (length c.args.live.now) ++ c.args.live.now) in
    let body_is : c.write_head.new.into ++ rest ≡ bytes_behind_gate contents = ap (λ (l : List ℕ). l ++ rest) head_is in
    let stands = rest_stands (file_bytes c.file_of-file.result (g.V.Volume.seen c.close_gate.new.volume)) (file_bytes c.file_of-file.result (g.V.Volume.seen c.write_rest.new.volume))
    (c.write_head.new.into ++ rest) (58 + length c.args.slots.now + length c.args.live.now) shut.some (c.in_ok-write_rest.ensures.written tells) in
    let rest_is : file_bytes c.file_of-file.result (g.V.Volume.seen c.write_rest.new.volume) ≡ stands.0 ∷ (bytes_behind_gate contents ++ stands.1) =
    stands.2 ∙ ap (λ (b : List ℕ). stands.0 ∷ (b ++ stands.1)) body_is in
    file_opens g.V.Volume.moment g.V.Volume.left_at c.args.volume.now c.close_gate.new.volume c.write_rest.new.volume c.open_gate.new.volume c.file_of-file.result (file_of c.args.head.number) contents
    (file_bytes c.file_of-file.result (g.V.Volume.seen c.close_gate.new.volume)) stands.0 stands.1 (file_bytes c.file_of-file.result (g.V.Volume.seen c.write_rest.new.volume)) c.file_of-file.ensures
    shut c.in_ok-close_gate.ensures.durable (c.close_gate.ensures.each tells) c.write_rest.ensures.each c.in_ok-write_rest.ensures.durable rest_is c.open_gate.ensures.each

pub returns-clause-written : goal.returns-clause-written
returns-clause-written g c =
    OnOk_both c.open_gate.result c.open_gate.ensures.opened c.open_gate.ensures.durable
    (λ opened durable tells.
    let contents = contents_with c.args.head c.args.slots.now c.args.live.now in
    let head_is = c.write_head.ensures.value c.args.slots.now c.args.live.now refl in
    let shut = c.in_ok-close_gate.ensures.closed tells in
    let rest : List ℕ = c.args.slots.now ++ (little_bytes 4 (length c.args.live.now) ++ c.args.live.now) in
    let body_is : c.write_head.new.into ++ rest ≡ bytes_behind_gate contents = ap (λ (l : List ℕ). l ++ rest) head_is in
    let stands = rest_stands (file_bytes c.file_of-file.result (g.V.Volume.seen c.close_gate.new.volume)) (file_bytes c.file_of-file.result (g.V.Volume.seen c.write_rest.new.volume))
    (c.write_head.new.into ++ rest) (58 + length c.args.slots.now + length c.args.live.now) shut.some (c.in_ok-write_rest.ensures.written tells) in
    let rest_is : file_bytes c.file_of-file.result (g.V.Volume.seen c.write_rest.new.volume) ≡ stands.0 ∷ (bytes_behind_gate contents ++ stands.1) =
    stands.2 ∙ ap (λ (b : List ℕ). stands.0 ∷ (b ++ stands.1)) body_is in
    subst (λ f. CrashLeaves g.V.Volume.moment g.V.Volume.left_at c.open_gate.new.volume (λ files. SaysOpenly contents (file_bytes f files))) c.file_of-file.ensures
    (λ files left. (stands.1, durable files left ∙ opened tells stands.0 (bytes_behind_gate contents ++ stands.1) rest_is)))
