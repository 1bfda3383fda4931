-- What the code does at a cursor is what the definitions say.
use Rattle.std.proofs.Common.{◌≡◌, ℕ, zero, suc, ◌+◌, ◌-◌, ◌<◌, ◌≤◌, ◌==◌, Bool, true, false, cond, not, ◌&&◌, ◌||◌, map, nat_le, List, [], ◌∷◌, ◌++◌, length, filter, find, fold, take, get_or, Option, Some, None, Result, Ok, Err, refl, sym, ap, ◌∙◌, is_some, is_none, slice_get, unwrap_or, if◌then◌else◌, arith}
use Rattle.std.specs.Prelude.{bytes_eq}
use Rattle.std.specs.List.{list_all, position}
use Rattle.std.proofs.Math.ListN.{set}
use Rattle.std.proofs.lemmas.List.{take_more}
use Rattle.std.proofs.lemmas.Bool.{and_parts}
use Rattle.jet_base.specs.declared.replies.Jet.{Jet}
use Rattle.jet_base.specs.declared.replies.Jet.TheVariants as jet
use Rattle.jet_base.specs.declared.ids.CursorId.{CursorId}
use Rattle.jet_base.specs.declared.words.Given.{Given}
use Rattle.jet_base.specs.declared.memory.OutOfMemory.{OutOfMemory}
use Rattle.jet_base.specs.declared.words.Prepare.{Prepare}
use Rattle.jet_base.specs.declared.words.Prepare.TheVariants as prepare
use Rattle.jet_base.specs.Given.{given_fits}
use Rattle.column_set.specs.declared.columns.Column.{Column}
use Rattle.column_set.specs.RecordValues.{RecordFields, with_values, values_of, value_fits, column_named, record_size, stands_in}
use Rattle.index_derive.specs.declared.rules.IndexRule.{IndexRule}
use Rattle.index_derive.specs.declared.rules.Segment.{Segment}
use Rattle.index_derive.specs.declared.rules.Schema.{Schema}
use Rattle.cursor_nav.specs.Navigation.{MadeKey, CursorState, Navigated}
use Rattle.cursor_nav.specs.MakingKeys.{begun_key, segment_kind, with_segment, key_made, key_made_in as made_in, segment_made as made_of, has_short_keys as is_short, rule_of_cursor}
use Rattle.record_edit.specs.Buffer.{Buffer}
use Rattle.record_edit.specs.SetColumn.{refusal_in_column, named_refusal, named_after, fields_after}
use Rattle.session_local.specs.declared.request.Request.{Request}
use Rattle.session_local.specs.declared.request.Request.TheVariants as call
use Rattle.session_local.specs.declared.prepared.Prepared.{Prepared}
use Rattle.session_local.specs.Preparing.{update_of}
use Rattle.session_local.specs.Local.{OpenCursor, PreparedUpdate}
use Rattle.session_local.specs.RecordCalls.{with_sums_at_zero}
use Rattle.session_local.specs.Changing.{Changed, cursor_if, with_key, key_made_at, new_update, update_prepared_at, value_set_at, value_set_on, value_set_in, changed_by, changed_to, changed_unless, refused_by, cursor_after, local_after, change_at, ChangesTo, ChangesBy}
use Rattle.session_local.specs.SessionSide.{HeldState, label_of, are_distinct}
use Rattle.session_local.specs.Holding.{begun_with_cursors}
use Rattle.session_local.specs.WellFormed.{has_short_keys, is_well_formed_schema, is_well_formed_cursor, is_well_formed_update}
use Rattle.session_local.specs.FormedLaws.{schema_parts}
use Rattle.session_local.specs.FoundLaws.{by_number, labelled, values_of-counted, values_of-fit}
use Rattle.session_local.proofs.Distinct.{found-position, set-position}
use Rattle.common_lemmas.proofs.Found.{all_found}
use Rattle.common_lemmas.proofs.Lists.{all_at}
use Rattle.session_local.proofs.Kept.{schema_of_cursor, update_of_cursor, record_parts}

-- ---- MakeKey

short_found : (indexes : List IndexRule) (test : IndexRule → Bool) (found : Option IndexRule) → list_all has_short_keys indexes ≡ true → find test indexes ≡ found → is_short found ≡ true
short_found indexes test None all e = refl
short_found indexes test (Some rule) all e = all_found has_short_keys test indexes rule all e

-- the keys of the current index are short
pub short_rule : (cursor : CursorState) (schema : Schema) → is_well_formed_schema schema ≡ true → is_short (rule_of_cursor cursor schema) ≡ true
short_rule cursor schema h = short_found schema.indexes (λ rule. rule.id.0 == cursor.index) (rule_of_cursor cursor schema) (schema_parts schema h).short refl

segment_after : (c : OpenCursor) (rule : IndexRule) (key : MadeKey) (value : Given) (segment : Option Segment) → cursor_after c (with_key c (made_of c.cursor c.schema.columns rule key value segment)) ≡ record c { cursor = (made_of c.cursor c.schema.columns rule key value segment).cursor }
segment_after c rule key value None = refl
segment_after c rule key value (Some segment) =
    let type = segment_kind c.schema.columns segment in
    let after = record c.cursor { key = Some (with_segment rule type segment value key) } in
    elim (given_fits type value) as (λ b. cursor_after c (with_key c (if b then record { jet = jet.Success; cursor = after } else record { jet = jet.InvalidBufferSize; cursor = c.cursor }))
    ≡ record c { cursor = Navigated.cursor (if b then record { jet = jet.Success; cursor = after } else record { jet = jet.InvalidBufferSize; cursor = c.cursor }) }) [ true ↦ refl | false ↦ refl ]

rule_after : (c : OpenCursor) (fresh : Bool) (value : Given) (rule : Option IndexRule) → cursor_after c (with_key c (made_in c.cursor c.schema.columns fresh value rule)) ≡ record c { cursor = (made_in c.cursor c.schema.columns fresh value rule).cursor }
rule_after c fresh value None = refl
rule_after c fresh value (Some rule) =
    let key = begun_key fresh c.cursor.key in
    let segment = slice_get rule.segments key.segments in
    elim (not fresh && is_none c.cursor.key) as (λ b. cursor_after c (with_key c (if b then record { jet = jet.KeyNotMade; cursor = c.cursor } else made_of c.cursor c.schema.columns rule key value segment))
    ≡ record c { cursor = Navigated.cursor (if b then record { jet = jet.KeyNotMade; cursor = c.cursor } else made_of c.cursor c.schema.columns rule key value segment) }) [ true ↦ refl | false ↦ segment_after c rule key value segment ]

-- a refusal leaves the cursor
pub key_after : (c : OpenCursor) (fresh : Bool) (value : Given) → cursor_after c (key_made_at c fresh value) ≡ record c { cursor = (key_made c.cursor c.schema fresh value).cursor }
unfolding key_made
key_after c fresh value = rule_after c fresh value (rule_of_cursor c.cursor c.schema)

-- ---- the sums of a new record

abbrev pub with_zero : Column → RecordFields → RecordFields
with_zero column fields = if column.escrow then with_values fields column.id.0 ((0 ∷ 0 ∷ 0 ∷ 0 ∷ []) ∷ []) else fields

sums_push : (columns : List Column) (column : Column) (fields : RecordFields) → with_sums_at_zero (columns ++ column ∷ []) fields ≡ with_zero column (with_sums_at_zero columns fields)
sums_push [] column fields = elim column.escrow as (λ b. fold (λ made c. with_values made c.id.0 ((0 ∷ 0 ∷ 0 ∷ 0 ∷ []) ∷ [])) fields (cond b (column ∷ []) []) ≡ (if b then with_values fields column.id.0 ((0 ∷ 0 ∷ 0 ∷ 0 ∷ []) ∷ []) else fields)) [ true ↦ refl | false ↦ refl ]
sums_push (x ∷ xs) column fields =
    elim x.escrow as (λ b. fold (λ made c. with_values made c.id.0 ((0 ∷ 0 ∷ 0 ∷ 0 ∷ []) ∷ [])) fields (cond b (x ∷ filter (λ c. c.escrow) (xs ++ column ∷ [])) (filter (λ c. c.escrow) (xs ++ column ∷ [])))
    ≡ with_zero column (fold (λ made c. with_values made c.id.0 ((0 ∷ 0 ∷ 0 ∷ 0 ∷ []) ∷ [])) fields (cond b (x ∷ filter (λ c. c.escrow) xs) (filter (λ c. c.escrow) xs)))) [
      | true ↦ sums_push xs column (with_values fields x.id.0 ((0 ∷ 0 ∷ 0 ∷ 0 ∷ []) ∷ []))
      | false ↦ sums_push xs column fields
    ]

pub sums_more : (columns : List Column) (i : ℕ) (d : Column) → i < length columns → with_sums_at_zero (take (i + 1) columns) [] ≡ with_zero (get_or columns i d) (with_sums_at_zero (take i columns) [])
sums_more columns i d within = ap (λ cs. with_sums_at_zero cs []) (take_more columns i d within) ∙ sums_push (take i columns) (get_or columns i d) []

-- ---- values of the prepared update

pub record IsCopied (c : OpenCursor) (update : PreparedUpdate) : Type 0 where
  pub stand : list_all (stands_in c.schema.columns) update.values ≡ true
  pub small : record_size update.values ≤ 1700

pub copied : (c : OpenCursor) (update : PreparedUpdate) → is_well_formed_cursor c ≡ true → c.prepared ≡ Some update → IsCopied c update
copied c update h is =
    let fit : is_well_formed_update c.schema.columns (Some update) ≡ true = rw is at (update_of_cursor c h) in
    let parts = record_parts c.schema.columns update.values fit in
    record { stand = parts.0; small = parts.1 }

pub copied_count : (c : OpenCursor) (update : PreparedUpdate) (id : ℕ) → is_well_formed_cursor c ≡ true → c.prepared ≡ Some update → length (values_of update.values id) ≤ 1700
copied_count c update id h is =
    let small = (copied c update h is).small in let most = values_of-counted update.values id in omega (arith, small, most)

-- one of the values of a column fits its type
pub copied_value_fits : (c : OpenCursor) (update : PreparedUpdate) (name : List ℕ) (column : Column) (place : ℕ) (value : List ℕ) → is_well_formed_cursor c ≡ true → c.prepared ≡ Some update → column_named c.schema.columns name ≡ Some column → slice_get (values_of update.values column.id.0) place ≡ Some value → value_fits column.kind value ≡ true
copied_value_fits c update name column place value h is named found =
    let its = by_number (λ o. bytes_eq o.name name) c.schema.columns column (schema_parts c.schema (schema_of_cursor c h)).distinct named in
    let fit = values_of-fit c.schema.columns update.values column.id.0 column (copied c update h is).stand its in
    let each = (and_parts (column.multi || nat_le (length (values_of update.values column.id.0)) 1) (list_all (value_fits column.kind) (values_of update.values column.id.0)) fit).1 in
    all_at (value_fits column.kind) (values_of update.values column.id.0) place value each found

pub no_value_at_0 : (sequence : ℕ) (values : List (List ℕ)) (value : List ℕ) → (if sequence == 0 then None else slice_get values (sequence - 1)) ≡ Some value → slice_get values (sequence - 1) ≡ Some value
no_value_at_0 sequence values value found =
    elim (sequence == 0) as (λ b. (if b then None else slice_get values (sequence - 1)) ≡ Some value → slice_get values (sequence - 1) ≡ Some value) [ true ↦ λ h. cc | false ↦ λ h. h ] found

-- ---- the other calls

pub no_change : (c : OpenCursor) (request : Request)
    → ((cursor : CursorId) (fresh : Bool) (value : Given) → request ≡ call.MakeKey cursor fresh value → ⊥)
    → ((cursor : CursorId) → request ≡ call.RemoveIndexRange cursor → ⊥)
    → ((cursor : CursorId) (how : Prepare) → request ≡ call.PrepareUpdate cursor how → ⊥)
    → ((cursor : CursorId) (column : List ℕ) (sequence : ℕ) (value : Given) → request ≡ call.SetColumn cursor column sequence value → ⊥)
    → changed_by c request ≡ changed_to c
no_change c (call.MakeKey cursor fresh value) makes removes prepares sets = absurd (makes cursor fresh value refl)
no_change c (call.RemoveIndexRange cursor) makes removes prepares sets = absurd (removes cursor refl)
no_change c (call.PrepareUpdate cursor how) makes removes prepares sets = absurd (prepares cursor how refl)
no_change c (call.SetColumn cursor column sequence value) makes removes prepares sets = absurd (sets cursor column sequence value refl)
no_change c _ makes removes prepares sets = refl

-- ---- a value that is set

pub value_missing : (c : OpenCursor) (update : PreparedUpdate) (name : List ℕ) (sequence : ℕ) (value : Given) → column_named c.schema.columns name ≡ None → value_set_at (record c { prepared = Some update }) name sequence value ≡ refused_by jet.ColumnNotFound
value_missing c update name sequence value named = ap (λ (o : Option Column). value_set_in (record c { prepared = Some update }) update sequence value o) named

pub value_set_as : (c : OpenCursor) (update : PreparedUpdate) (name : List ℕ) (sequence : ℕ) (value : Given) (column : Column) (reply : Option Jet) → column_named c.schema.columns name ≡ Some column → refusal_in_column column sequence value update.values ≡ reply → value_set_at (record c { prepared = Some update }) name sequence value ≡ changed_unless reply (record c { prepared = Some (record update { values = fields_after column sequence value update.values }) })
value_set_as c update name sequence value column reply named refused =
    ap (λ (o : Option Column). value_set_in (record c { prepared = Some update }) update sequence value o) named
    ∙ ap (λ (r : Option Jet). changed_unless r (record c { prepared = Some (record update { values = fields_after column sequence value update.values }) })) refused

abbrev pub found_refusal : Option Column → ℕ → Given → Buffer → Option Jet
found_refusal found sequence value buffer = elim found [ None ↦ Some jet.ColumnNotFound | Some column ↦ refusal_in_column column sequence value buffer.fields ]

abbrev pub found_after : Option Column → ℕ → Given → Buffer → Buffer
found_after found sequence value buffer = elim found [ None ↦ buffer | Some column ↦ record buffer { fields = fields_after column sequence value buffer.fields } ]

some-is : (a b : Jet) → Some a ≡ Some b → a ≡ b
some-is a b same = cc

-- what a value that is set in the column that was found leaves
set_found : (o : OpenCursor) (old : Prepared) (new : Buffer) (name : List ℕ) (sequence : ℕ) (value : Given) (found : Option Column) → column_named o.schema.columns name ≡ found → found_refusal found sequence value old.buffer ≡ None → new ≡ found_after found sequence value old.buffer → ChangesTo (record o { prepared = Some (update_of old) }) (value_set_at (record o { prepared = Some (update_of old) }) name sequence value) (Ok jet.Success) (record o { prepared = Some (update_of (record old { buffer = new })) })
set_found o old new name sequence value None here none after = cc
set_found o old new name sequence value (Some column) here none after =
    let done = value_set_as o (update_of old) name sequence value column None here none in (
      ap (λ (ch : Changed). ch.jet) (sym done),
      ap (λ (b : Buffer). record o { prepared = Some (update_of (record old { buffer = b })) }) after
          ∙ ap (λ (ch : Changed). cursor_after (record o { prepared = Some (update_of old) }) ch) (sym done),
    )

pub set_ok : (o : OpenCursor) (old : Prepared) (new : Buffer) (name : List ℕ) (sequence : ℕ) (value : Given) → o.schema.columns ≡ old.buffer.columns → named_refusal old.buffer name sequence value ≡ None → new ≡ named_after old.buffer name sequence value → ChangesTo (record o { prepared = Some (update_of old) }) (value_set_at (record o { prepared = Some (update_of old) }) name sequence value) (Ok jet.Success) (record o { prepared = Some (update_of (record old { buffer = new })) })
set_ok o old new name sequence value same none after = set_found o old new name sequence value (column_named old.buffer.columns name) (ap (λ cs. column_named cs name) same) none after

-- a value that is refused in the column that was found leaves all
found_refused : (o : OpenCursor) (old : Prepared) (new : Buffer) (name : List ℕ) (sequence : ℕ) (value : Given) (reply : Jet) (found : Option Column) → column_named o.schema.columns name ≡ found → found_refusal found sequence value old.buffer ≡ Some reply → new ≡ old.buffer → ChangesTo (record o { prepared = Some (update_of old) }) (value_set_at (record o { prepared = Some (update_of old) }) name sequence value) (Ok reply) (record o { prepared = Some (update_of (record old { buffer = new })) })
found_refused o old new name sequence value reply None here refused after =
    let done = value_missing o (update_of old) name sequence value here in (
      sym (some-is _ _ refused) ∙ ap (λ (ch : Changed). ch.jet) (sym done),
      ap (λ (b : Buffer). record o { prepared = Some (update_of (record old { buffer = b })) }) after
          ∙ ap (λ (ch : Changed). cursor_after (record o { prepared = Some (update_of old) }) ch) (sym done),
    )
found_refused o old new name sequence value reply (Some column) here refused after =
    let done = value_set_as o (update_of old) name sequence value column (Some reply) here refused in (
      ap (λ (ch : Changed). ch.jet) (sym done),
      ap (λ (b : Buffer). record o { prepared = Some (update_of (record old { buffer = b })) }) after
          ∙ ap (λ (ch : Changed). cursor_after (record o { prepared = Some (update_of old) }) ch) (sym done),
    )

pub set_refused : (o : OpenCursor) (old : Prepared) (new : Buffer) (name : List ℕ) (sequence : ℕ) (value : Given) (reply : Jet) → o.schema.columns ≡ old.buffer.columns → named_refusal old.buffer name sequence value ≡ Some reply → new ≡ old.buffer → ChangesTo (record o { prepared = Some (update_of old) }) (value_set_at (record o { prepared = Some (update_of old) }) name sequence value) (Ok reply) (record o { prepared = Some (update_of (record old { buffer = new })) })
set_refused o old new name sequence value reply same refused after = found_refused o old new name sequence value reply (column_named old.buffer.columns name) (ap (λ cs. column_named cs name) same) refused after

-- ---- labels

abbrev pub HasLabel : ℕ → Option OpenCursor → Type 0
HasLabel label None = Unit {0}
HasLabel label (Some c) = c.label ≡ label

label-cursor_if : (reply : Jet) (c : OpenCursor) → HasLabel c.label (cursor_if reply c)
label-cursor_if jet.Success c = refl
label-cursor_if _ c = tt

label-unless : (reply : Option Jet) (c : OpenCursor) → HasLabel c.label (changed_unless reply c).cursor
label-unless None c = refl
label-unless (Some reply) c = tt

label-if : (b : Bool) (reply : Jet) (c : OpenCursor) → HasLabel c.label (Changed.cursor (if b then refused_by reply else changed_to c))
label-if true reply c = tt
label-if false reply c = refl

label-prepared : (c : OpenCursor) (how : Prepare) → HasLabel c.label (update_prepared_at c how).cursor
label-prepared c prepare.Insert = label-if (is_some c.prepared) jet.AlreadyPrepared (record c { prepared = Some (new_update c) })
label-prepared c prepare.Cancel = label-if (is_none c.prepared) jet.UpdateNotPrepared (record c { prepared = None })
label-prepared c prepare.InsertCopy = refl
label-prepared c prepare.Replace = refl

label-set_in : (c : OpenCursor) (update : PreparedUpdate) (sequence : ℕ) (value : Given) (column : Option Column) → HasLabel c.label (value_set_in c update sequence value column).cursor
label-set_in c update sequence value None = tt
label-set_in c update sequence value (Some column) = label-unless (refusal_in_column column sequence value update.values) (record c { prepared = Some (record update { values = fields_after column sequence value update.values }) })

label-set_on : (c : OpenCursor) (name : List ℕ) (sequence : ℕ) (value : Given) (update : Option PreparedUpdate) → HasLabel c.label (value_set_on c name sequence value update).cursor
label-set_on c name sequence value None = tt
label-set_on c name sequence value (Some update) = label-set_in c update sequence value (column_named c.schema.columns name)

-- a change keeps the label
pub label-changed : (c : OpenCursor) (request : Request) → HasLabel c.label (changed_by c request).cursor
label-changed c (call.MakeKey cursor fresh value) = label-cursor_if (key_made c.cursor c.schema fresh value).jet (record c { cursor = (key_made c.cursor c.schema fresh value).cursor })
label-changed c (call.RemoveIndexRange cursor) = refl
label-changed c (call.PrepareUpdate cursor how) = label-prepared c how
label-changed c (call.SetColumn cursor column sequence value) = label-set_on c column sequence value c.prepared
label-changed c _ = refl

label-after : (c : OpenCursor) (new : Option OpenCursor) → HasLabel c.label new → (unwrap_or new c).label ≡ c.label
label-after c None has = refl
label-after c (Some new) has = has

pub label-changed_to : (old new : OpenCursor) (change : Changed) (result : Result Jet OutOfMemory) → HasLabel old.label change.cursor → ChangesTo old change result new → new.label ≡ old.label
label-changed_to old new change (Ok reply) has does = ap (λ (c : OpenCursor). c.label) does.1 ∙ label-after old change.cursor has
label-changed_to old new change (Err e) has does = ap (λ (c : OpenCursor). c.label) does

-- ---- a cursor in its place

set_same : (cursors : List OpenCursor) (at : ℕ) (c : OpenCursor) → c ≡ get_or cursors at c → set cursors at c ≡ cursors
set_same [] at c is = refl
set_same (x ∷ xs) zero c is = ap (λ o. o ∷ xs) is
set_same (x ∷ xs) (suc at) c is = ap (λ cs. x ∷ cs) (set_same xs at c is)

put_after : (label : ℕ) (cursors : List OpenCursor) (at : ℕ) (c : OpenCursor) (new : Option OpenCursor) → are_distinct (map label_of cursors) ≡ true → position (λ o. o.label == label) cursors ≡ Some at → c ≡ get_or cursors at c → c.label ≡ label → HasLabel c.label new → set cursors at (unwrap_or new c) ≡ (local_after (begun_with_cursors cursors) new).cursors
put_after label cursors at c None distinct place is named has = set_same cursors at c is
put_after label cursors at c (Some new) distinct place is named has = set-position label cursors at new distinct place (has ∙ named)

-- what the code did at the place of a label
pub changed_in_place : (held : HeldState) (label at : ℕ) (c new : OpenCursor) (request : Request) (result : Result Jet OutOfMemory) → are_distinct (map label_of held.cursors) ≡ true → position (λ o. o.label == label) held.cursors ≡ Some at → c ≡ get_or held.cursors at c → ChangesTo c (changed_by c request) result new → ChangesBy held (change_at (find (λ o. o.label == label) held.cursors) request) result (record held { cursors = set held.cursors at new })
changed_in_place held label at c new request (Ok reply) distinct place is does =
    let found : find (λ o. o.label == label) held.cursors ≡ Some c = found-position (λ o. o.label == label) held.cursors at c place is in
    let done = put_after label held.cursors at c (changed_by c request).cursor distinct place is (labelled label held.cursors c found) (label-changed c request) in
    rw found (does.0, rw does.1 (ap (λ cs. record held { cursors = cs }) done))
changed_in_place held label at c new request (Err e) distinct place is does =
    rw does (ap (λ cs. record held { cursors = cs }) (set_same held.cursors at c is))

-- the cursor at the place of a label is well formed
pub well_formed_at : (cursors : List OpenCursor) (label at : ℕ) (c : OpenCursor) → list_all is_well_formed_cursor cursors ≡ true → position (λ o. o.label == label) cursors ≡ Some at → c ≡ get_or cursors at c → is_well_formed_cursor c ≡ true
well_formed_at cursors label at c all place is = all_found is_well_formed_cursor (λ o. o.label == label) cursors c all (found-position (λ o. o.label == label) cursors at c place is)
