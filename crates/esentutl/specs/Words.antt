-- The words that the program is called with, and the lines that it prints beside a transcript.
use Rattle.std.specs.Prelude.{ℕ, Bool, true, false, ◌&&◌, List, [], ◌∷◌, ◌++◌, map, codes, decimal, bytes_eq, String, string_bytes, Option, Some, None, if◌then◌else◌}
use Rattle.script_words.specs.Words.{number_within}
use Rattle.esentutl.specs.declared.words.Form.{Form}
use Rattle.esentutl.specs.declared.words.Form.TheVariants as form
use Rattle.esentutl.specs.declared.words.Inspection.{Inspection}
use Rattle.esentutl.specs.declared.words.Inspection.TheVariants as inspection
use Rattle.esentutl.specs.declared.words.Topic.TheVariants as topic

-- ---- what a run is asked with, in bytes

-- the limit of the version store's span, and the depth of the log, where no word names one
abbrev pub default_span_limit : ℕ
default_span_limit = 4194304

abbrev pub default_depth : ℕ
default_depth = 1048576

-- a run with these numbers, if each of the words that name them stands for one
abbrev pub run_with : Option ℕ → Option ℕ → Form
run_with (Some limit) (Some depth) = form.OrderedRun (record { span_limit = limit; depth = depth })
run_with _ _ = form.Unknown

-- what may stand behind the limit: nothing, or `depth` and how many bytes of the log may stand behind a checkpoint, 1 to 4,194,304
abbrev pub form_of_depth : Option ℕ → List (List ℕ) → Form
form_of_depth limit [] = run_with limit (Some default_depth)
form_of_depth limit (name ∷ number ∷ []) = if bytes_eq name (codes "depth") then run_with limit (number_within 1 4194304 number) else form.Unknown
form_of_depth limit _ = form.Unknown

-- The options of an ordered run: `versions` and the limit of the version store's span, from 4,096 to 67,108,864 bytes, or not; then
-- `depth` or not. Numbers are decimal, without a sign or a leading zero.
abbrev pub form_of_options : List (List ℕ) → Form
form_of_options (name ∷ number ∷ options) =
    if bytes_eq name (codes "versions") then form_of_depth (number_within 4096 67108864 number) options else form_of_depth (Some default_span_limit) (name ∷ number ∷ options)
form_of_options options = form_of_depth (Some default_span_limit) options

-- ---- the form

-- whether the first word names a volume in memory, which is gone at the end
abbrev pub is_in_memory : List ℕ → Bool
is_in_memory volume = bytes_eq volume (codes "-")

-- what the word asks to be told of a volume: `/mh` its header, `/mk` its checkpoint, `/ml` its log, `/ms` its space, `/g` its integrity
abbrev pub inspection_of : List ℕ → Option Inspection
inspection_of mode =
    if bytes_eq mode (codes "/mh") then Some inspection.Header
    else (if bytes_eq mode (codes "/mk") then Some inspection.Checkpoint
    else (if bytes_eq mode (codes "/ml") then Some inspection.Log
    else (if bytes_eq mode (codes "/ms") then Some inspection.Space
    else (if bytes_eq mode (codes "/g") then Some inspection.Integrity else None))))

abbrev pub form_of_mode : List ℕ → Form
form_of_mode mode =
    if bytes_eq mode (codes "/r") then form.Recovery else (elim (inspection_of mode) [ Some asked ↦ form.Inspection asked | None ↦ form.Unknown ])

-- `--help` and `--version` alone are forms of their own. The first word of any other form names a volume. `/r`: recover it. `/mh`, `/mk`,
-- `/ml`, `/ms` and `/g`: look at it. `run` and `ordered`, then options: run the script of the standard input in its order.
abbrev pub form_of : List (List ℕ) → Form
form_of (word ∷ []) =
    if bytes_eq word (codes "--help") then form.About topic.Help
    else (if bytes_eq word (codes "--version") then form.About topic.Version else form.Unknown)
form_of (volume ∷ mode ∷ []) = form_of_mode mode
form_of (volume ∷ mode ∷ order ∷ options) =
    if bytes_eq mode (codes "run") && bytes_eq order (codes "ordered") then form_of_options options else form.Unknown
form_of _ = form.Unknown

-- whether the words name a volume
abbrev pub has_volume : Form → Bool
has_volume (form.OrderedRun options) = true
has_volume form.Recovery = true
has_volume (form.Inspection asked) = true
has_volume (form.About about) = false
has_volume form.Unknown = false

abbrev pub words_of : {A : Type 0} → List (String A) → List (List ℕ)
words_of words = map string_bytes words

-- ---- lines

-- why the status is not 0
abbrev pub last_line : List ℕ → List ℕ
last_line text = codes "esentutl: " ++ text ++ 10 ∷ []

abbrev pub bad_line : ℕ → List ℕ
bad_line number = last_line (codes "script line " ++ decimal number)

-- what a volume recovers to: its number of log entries, and how many tables it has
abbrev pub recovered_line : ℕ → ℕ → List ℕ
recovered_line number tables = codes "recovered number " ++ decimal number ++ codes " tables " ++ decimal tables ++ 10 ∷ []
