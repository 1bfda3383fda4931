use Rattle.std.proofs.Common.{◌≡◌, ℕ, ◌+◌, ◌-◌, ◌<◌, ◌++◌, ◌∷◌, true, List, length, take, drop, get_or, sym, ap, subst, ◌∙◌, arith, length-drop, take_all}
use Rattle.std.specs.Prelude.{◌==◌}
use Rattle.script_text.specs.Parser.{result_with}
use Rattle.esentutl.proofs.ScriptText.{cut_at, lines_parsed}
use Rattle.esentutl.proofs.unparsed.Unparsed.parse_lines.Goals as goal

pub returns-in_ok-feed-in-Some-clause-read : goal.returns-in_ok-feed-in-Some-clause-read
returns-in_ok-feed-in-Some-clause-read c = λ rest.
    let bytes = c.as_slice-bytes.result.now in
    let first : ℕ = length bytes - c.args.count in
    let end : ℕ = first + c.in-Some.place in
    let last = drop first bytes in
    let whole : take (length bytes - first) last ≡ last = take_all (length bytes - first) last (omega (arith, length-drop first bytes)) in
    let cut : bytes ≡ take end bytes ++ 10 ∷ drop (end + 1) bytes =
    cut_at bytes first c.in-Some.place (subst (λ (l : List ℕ). c.in-Some.place < length l) whole c.in-Some.ensures.0.high) (subst (λ (l : List ℕ). (get_or l c.in-Some.place 0 == 10) ≡ true) whole c.in-Some.ensures.1) in
    ap (λ (l : List ℕ). result_with c.feed.new.self (l ++ rest)) (c.consume.ensures ∙ ap (drop (end + 1)) (sym c.as_slice-bytes.ensures))
    ∙ lines_parsed c.args.parser.now c.feed.new.self bytes end cut c.in_ok-feed-in-Some.ensures.read rest
    ∙ ap (λ (l : List ℕ). result_with c.args.parser.now (l ++ rest)) c.as_slice-bytes.ensures
