use Rattle.std.proofs.Common.{◌≡◌, [], ◌∷◌, ◌++◌, ◌∙◌, ap, sym, append_assoc, codes, ℕ, List}
use Rattle.std.proofs.lemmas.List.{append-nil}
use Rattle.jet_base.specs.JetName.{jet_name}
use Rattle.jet_base.specs.declared.replies.Jet.TheVariants as jet
use Rattle.session_local.specs.declared.reply.Reply.{Reply}
use Rattle.session_local.specs.declared.reply.Value.TheVariants as value
use Rattle.session_local.specs.declared.request.Request.{Request}
use Rattle.session_local.specs.Answer.{answered_by}
use Rattle.script_transcript.specs.TranscriptLine.{answer_behind_head, call_name, shown_text}
use Rattle.script_transcript.proofs.transcript.append_answer.Goals as goal

-- two words with a space before each and the end of the line, as a line has them
two_words : (name reply : List ℕ) → 32 ∷ name ++ 32 ∷ reply ++ 10 ∷ [] ≡ codes " " ++ name ++ codes " " ++ reply ++ [] ++ (10 ∷ [])
two_words name reply = sym (ap (λ (words : List ℕ). 32 ∷ (words ++ 10 ∷ [])) (append-nil (name ++ 32 ∷ [] ++ reply) ∙ append_assoc name (32 ∷ []) reply))

-- what stands behind the head where a call succeeded and shows nothing
plain_answer : (request : Request) (reply : Reply) (buffer : List ℕ) → reply.jet ≡ jet.Success → reply.value ≡ value.Nothing
    → 32 ∷ call_name request ++ 32 ∷ jet_name jet.Success ++ 10 ∷ [] ≡ answer_behind_head request (answered_by reply buffer)
unfolding shown_text
plain_answer request reply buffer success nothing = rw (success, nothing) (two_words (call_name request) (jet_name jet.Success))

pub returns-in-Nothing-clause-items : goal.returns-in-Nothing-clause-items
returns-in-Nothing-clause-items c =
    c.append_front.ensures.items
    ∙ ap (λ (answer : List ℕ). c.args.text.now.items ++ answer)
    (c.line_of-line.ensures.answer ∙ plain_answer c.args.request.now c.args.reply.now c.args.bytes.now c.in-Success.is c.in-Nothing.is)
