use Rattle.std.proofs.Common.{◌≡◌, ℕ, List, ◌++◌, OnOk, subst}
use Rattle.std.specs.Prelude.{codes, if◌then◌else◌}
use Rattle.image_findings.specs.FindingTexts.{have_want_text, key_digits}
use Rattle.tool_integrity.specs.IntegrityLines.{index_text}
use Rattle.tool_integrity.proofs.Joining.{behind_index, ended}
use Rattle.tool_integrity.proofs.findings.append_entry.Goals as goal

pub returns : goal.returns
returns c =
    let text : List ℕ = c.args.text.now.items in
    let end : List ℕ = c.append_counts.new.text.items in
    let first : List ℕ = codes "integrity index " in
    let second : List ℕ = index_text c.args.table.now c.args.index.now in
    let third : List ℕ = key_digits c.args.key.now in
    let whole : ℕ → ℕ → Type 0 = λ have want. OnOk c.append_counts.result (end ≡ text ++ (first ++ (c.args.table.now ++ (codes " " ++ (c.args.index.now ++ (codes " " ++ (third ++ have_want_text have want))))))) in
    let have = c.counts_of_entry-have.result.0 in
    let want = c.counts_of_entry-have.result.1 in
    let counts : List ℕ = have_want_text have want in
    let told : whole have want =
    subst (λ (t : List ℕ). OnOk c.append_counts.result (end ≡ text ++ (first ++ t))) (behind_index c.args.table.now c.args.index.now (third ++ counts))
    (ended c.append_counts.result text c.append.new.text.items end first (second ++ (third ++ counts)) c.in_ok-append.ensures
    (ended c.append_counts.result c.append.new.text.items c.append_index.new.text.items end second (third ++ counts) c.in_ok-append_index.ensures
    (ended c.append_counts.result c.append_index.new.text.items c.append_key.new.text.items end third counts c.in_ok-append_key.ensures
    c.append_counts.ensures))) in
    subst (λ (n : ℕ). whole n (if c.args.is_stored then 0 else 1)) c.counts_of_entry-have.ensures.have (subst (λ (n : ℕ). whole have n) c.counts_of_entry-have.ensures.want told)
