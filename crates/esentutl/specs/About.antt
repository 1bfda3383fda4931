-- What the program tells of itself.
use Rattle.std.specs.Prelude.{◌≡◌, ℕ, ◌<◌, ◌⊎◌, List, [], ◌∷◌, codes, length, take, Option}
use Rattle.std.specs.Io.KnownBytes.{append_known}
use Rattle.script_text.specs.ScriptRun.{text_of}
use Rattle.esentutl.specs.declared.words.Topic.{Topic}
use Rattle.esentutl.specs.declared.words.Topic.TheVariants as topic

abbrev pub help_text : List ℕ
help_text = text_of (
    codes "Usage:"
    ∷ codes "  esentutl VOLUME run ordered [versions N] [depth N]   runs a script of session calls, one reply a line"
    ∷ codes "  esentutl VOLUME /r                                   recovers the volume, and tells what it holds"
    ∷ codes "  esentutl VOLUME /g                                   tells whether the volume is consistent, or what is found first"
    ∷ codes "  esentutl VOLUME /mh                                  tells whether the database was closed, and what it recovers to"
    ∷ codes "  esentutl VOLUME /mk                                  tells the checkpoint that stands"
    ∷ codes "  esentutl VOLUME /ml                                  tells the log entries behind that checkpoint"
    ∷ codes "  esentutl VOLUME /ms                                  tells the pages of the database, and of each of its trees"
    ∷ codes "  esentutl --help                                      prints this text"
    ∷ codes "  esentutl --version                                   prints the name and the file format written"
    ∷ []
    ∷ codes "VOLUME names a database in the files VOLUME.edb, VOLUME0.chk, VOLUME1.chk and VOLUME.log, which are made if need be."
    ∷ codes "The volume - is in memory, and is gone at the end."
    ∷ codes "/g, /mh, /mk, /ml and /ms only look at the volume: they write nothing to it, and read no script."
    ∷ codes "The script is read from standard input, behind the opening of the volume, and checked before its first line runs."
    ∷ codes "versions N: the limit of the version store's span, 4,096 to 67,108,864 bytes; without it 4,194,304."
    ∷ codes "depth N: where so many bytes of log stand behind a checkpoint, the next one follows, 1 to 4,194,304; without it 1,048,576."
    ∷ []
    ∷ codes "Example:"
    ∷ codes "  ./esentutl - run ordered < examples/first-table.script"
    ∷ []
    ∷ codes "Exit status:"
    ∷ codes "  0  every line ran, or what was asked for was done and printed"
    ∷ codes "  1  the words are of no form above"
    ∷ codes "  2  a line is outside the grammar, and the first one is named; or the script has more than 16,777,216 bytes"
    ∷ codes "  3  the volume is refused, and the reason is named"
    ∷ codes "  4  the volume could not be read or written"
    ∷ codes "  5  the script could not be read"
    ∷ codes "  6  the output could not be written"
    ∷ codes "  7  out of memory, outside a line of the script"
    ∷ codes "  8  /g: the volume is not consistent, and what is found first is named"
    ∷ []
    ∷ codes "docs/SCRIPT.md describes scripts, replies and statuses, docs/FILES.md the files."
    ∷ [])

abbrev pub version_text : List ℕ
version_text = text_of (
    codes "esentutl, the tool of the database engine Loheviwun"
    ∷ codes "file format written: 1"
    ∷ [])

abbrev pub text_about : Topic → List ℕ
text_about topic.Help = help_text
text_about topic.Version = version_text

-- The sink took all of a text and the status is 0, or it took a front and failed and the status is 6.
abbrev pub Tells : Option (List ℕ) → Option (List ℕ) → ℕ → ℕ → List ℕ → ℕ → Type 0
Tells before after faults_before faults_after text status =
    ((status ≡ 0) × (after ≡ append_known before text) × (faults_after ≡ faults_before))
    ⊎ ((status ≡ 6) × (n : ℕ) × (n < length text) × (after ≡ append_known before (take n text)) × (faults_before < faults_after))
