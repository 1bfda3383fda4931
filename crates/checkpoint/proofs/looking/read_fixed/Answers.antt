use Rattle.std.proofs.Common.{◌≡◌, List, [], ℕ, take, sym, ◌∙◌, ap, arith}
use Rattle.jet_volume.specs.Image.{file_bytes}
use Rattle.checkpoint.specs.Contents.{Contents, contents_in, has_head, number_at}
use Rattle.checkpoint.proofs.Fronts.{front_is, head_front, number_front, says_front}
use Rattle.checkpoint.proofs.looking.read_fixed.Goals as goal

pub returns-then-not-has_head-clause-fixed : goal.returns-then-not-has_head-clause-fixed
returns-then-not-has_head-clause-fixed g c tells =
    let bytes = file_bytes c.args.file (g.V.Volume.seen c.args.volume.now) in
    let front : take c.in_ok-count.count c.read.new.into ≡ take 54 bytes =
    front_is 54 c.in_ok-count.count c.read.new.into bytes (c.in_ok-count.ensures.count tells) (c.in_ok-count.ensures.bytes tells) in
    sym (head_front c.args.file bytes) ∙ ap (λ (l : List ℕ). has_head c.args.file l) (sym front) ∙ sym c.has_head.ensures.value ∙ c.if-not-has_head.true

pub returns-clause-fixed : goal.returns-clause-fixed
returns-clause-fixed g c tells =
    let bytes = file_bytes c.args.file (g.V.Volume.seen c.args.volume.now) in
    let front : take c.in_ok-count.count c.read.new.into ≡ take 54 bytes =
    front_is 54 c.in_ok-count.count c.read.new.into bytes (c.in_ok-count.ensures.count tells) (c.in_ok-count.ensures.bytes tells) in
    record {
      head = sym (head_front c.args.file bytes) ∙ ap (λ (l : List ℕ). has_head c.args.file l) (sym front) ∙ sym c.has_head.ensures.value ∙ c.if-not-has_head.false;
      count = c.u32_at.ensures ∙ ap (λ (l : List ℕ). number_at 4 50 l) front ∙ number_front 4 50 54 bytes (omega arith);
      says = λ slots live. c.head_in.ensures slots live ∙ ap (λ (l : List ℕ). record (contents_in l) { slots = slots; live = live }) front ∙ says_front bytes slots live;
    }

pub returns-clause-bounds : goal.returns-clause-bounds
returns-clause-bounds g c =
    let says = c.head_in.ensures [] [] in (
      omega (arith, ap (λ (k : Contents). k.number) says, c.has_head.ensures.number c.if-not-has_head.false),
      omega (arith, ap (λ (k : Contents). k.start.generation) says, c.has_head.ensures.generation c.if-not-has_head.false),
      omega (arith, ap (λ (k : Contents). k.start.offset) says, c.has_head.ensures.offset c.if-not-has_head.false),
      omega (arith, c.u32_at.ensures, c.has_head.ensures.pages c.if-not-has_head.false),
    )
