-- The readers of the parts of an object are right for their formats.
use Rattle.std.proofs.Common.{ℕ, Bool, false, List, [], length, map}
use Rattle.rt_words.specs.Format.{Format, where_true, any, within}
use Rattle.rt_words.specs.Format as format
use Rattle.rt_words.specs.Reading as formats
use Rattle.rt_words.proofs.Right.{Right, right_nothing, right_byte, right_word, right_block, right_name, right_then, right_each, right_times, right_passing}
use Rattle.rt_modes.proofs.ModeReads.{right_mode}
use Rattle.rt_modes.specs.Spelling.{mode_format}
use Rattle.rt_modes.specs.declared.mode.Field.{Field}
use Rattle.rt_modes.specs.declared.mode.RecordDef.{RecordDef}
use Rattle.rt_object.specs.declared.object.Brick.{Brick}
use Rattle.rt_object.specs.declared.object.BrickKind.TheVariants.{Own, Ent, Ext, Svc}
use Rattle.rt_object.specs.declared.object.Content.TheVariants as content
use Rattle.rt_object.specs.declared.object.External.TheVariants as external
use Rattle.rt_object.specs.declared.object.Relocated.TheVariants as relocated
use Rattle.rt_object.specs.declared.object.Relocation.{Relocation}
use Rattle.rt_object.specs.declared.object.Supplied.TheVariants as supplied
use Rattle.rt_object.specs.declared.object.Target.TheVariants as target
use Rattle.rt_object.specs.Grammar.{is_new, is_proc_code, is_value_code, size_of, is_within_most, is_size, is_place, is_taken, kind_of, sort_in, called_of, named_of, below, is_rrerr, may_be}
use Rattle.rt_object.specs.Grammar as spec
use Rattle.rt_object.proofs.Beginning.{right_beginning}
use Rattle.rt_object.specs.Reading as reads
use Rattle.rt_object.specs.declared.tag.Called.{Called}
use Rattle.rt_object.specs.declared.tag.Kind.{Kind}
use Rattle.rt_object.specs.declared.tag.Named.{Named}
use Rattle.rt_object.specs.declared.tag.Sort.{Sort}
use Rattle.rt_object.specs.declared.tag.Called.TheVariants as callees
use Rattle.rt_object.specs.declared.tag.Kind.TheVariants as kinds
use Rattle.rt_object.specs.declared.tag.Named.TheVariants as namings
use Rattle.rt_object.specs.declared.tag.Sort.TheVariants as sorts

-- a format, of whose meaning a value is made
right_made : {A B : Type 0} (p : formats.Reader A) (P : Format A) (f : A → B) → Right p P → Right (formats.◌>>=◌ p (λ x. formats.nothing (f x))) (format.◌>>=◌ P (λ x. format.nothing (f x)))
right_made p P f g = right_then p (λ x. formats.nothing (f x)) P (λ x. format.nothing (f x)) g (λ x. right_nothing (f x))

right_any : Right (formats.word any) (format.word any)
right_any = right_word any

-- ---- records

right_field : (records : ℕ) (labels : Bool) (before : List Field) → Right (reads.field_reader records labels before) (spec.field_format records labels before)
unfolding reads.field_reader
right_field records labels before = right_then (formats.passing (is_new (map (λ f. f.name) before)) formats.name) _ (format.passing (is_new (map (λ f. f.name) before)) format.name) _ (right_passing (is_new (map (λ f. f.name) before)) formats.name format.name right_name)
    (λ new. right_made (formats.passing (may_be labels) (reads.mode_in records)) (format.passing (may_be labels) (mode_format records)) (λ mode. record { name = new; mode = mode }) (right_passing (may_be labels) (reads.mode_in records) (mode_format records) (right_mode records)))

right_fields : (records : ℕ) (labels : Bool) → Right (reads.fields_reader records labels) (spec.fields_format records labels)
unfolding reads.fields_reader
right_fields records labels = right_then (formats.word any) _ (format.word any) _ right_any (λ count. right_each (reads.field_reader records labels) (spec.field_format records labels) (right_field records labels) count [])

pub right_record : (records : ℕ) (before : List RecordDef) → Right (reads.record_reader records before) (spec.record_format records before)
unfolding reads.record_reader
right_record records before = right_then (formats.passing (is_new (map (λ r. r.name) before)) formats.name) _ (format.passing (is_new (map (λ r. r.name) before)) format.name) _ (right_passing (is_new (map (λ r. r.name) before)) formats.name format.name right_name)
    (λ new. right_made (reads.fields_reader records false) (spec.fields_format records false) (λ fields. record { name = new; fields = fields }) (right_fields records false))

-- ---- strings

right_string : Right reads.string_reader spec.string_format
unfolding reads.string_reader
right_string = right_then (formats.word (within 0 8191)) formats.block (format.word (within 0 8191)) format.block (right_word (within 0 8191)) right_block

pub right_strings : Right reads.strings_reader spec.strings_format
unfolding reads.strings_reader
right_strings = right_then (formats.word any) _ (format.word any) _ right_any (λ count. right_times reads.string_reader spec.string_format right_string count [])

-- ---- code

right_code : Right reads.code_reader spec.code_format
unfolding reads.code_reader reads.code_of
right_code = right_then (formats.word (within 0 16383)) _ (format.word (within 0 16383)) _ (right_word (within 0 16383))
    (λ count. right_then (formats.times (formats.word any) count []) _ (format.times (format.word any) count []) _ (right_times (formats.word any) (format.word any) right_any count [])
    (λ words. right_made (formats.times (formats.byte (within 0 2)) count []) (format.times (format.byte (within 0 2)) count []) (λ marks. (words, marks)) (right_times (formats.byte (within 0 2)) (format.byte (within 0 2)) (right_byte (within 0 2)) count [])))

-- ---- bricks

module _ (records : List RecordDef) (strings bricks : ℕ) where
  right_mode_here : Right (reads.mode records strings bricks) (spec.mode records strings bricks)
  right_mode_here = right_mode (length records)

  right_named : (n : Named) → Right (reads.named_reader records strings bricks n) (spec.named_format records strings bricks n)
  unfolding reads.named_reader
  right_named namings.Brick = right_made (formats.word (below bricks)) (format.word (below bricks)) relocated.Brick (right_word (below bricks))
  right_named namings.String = right_made (formats.word (below strings)) (format.word (below strings)) relocated.String (right_word (below strings))
  right_named namings.Support = right_made (formats.word (within 1 32)) (format.word (within 1 32)) relocated.Support (right_word (within 1 32))

  right_relocation : (step places : ℕ) (before : List Relocation) → Right (reads.relocation_reader records strings bricks step places before) (spec.relocation_format records strings bricks step places before)
  unfolding reads.relocation_reader
  right_relocation step places before = right_then (formats.word (where_true (is_place step places before))) _ (format.word (where_true (is_place step places before))) _ (right_word (where_true (is_place step places before)))
      (λ place. right_then (formats.byte named_of) _ (format.byte named_of) _ (right_byte named_of)
      (λ kind. right_then (reads.named_reader records strings bricks kind) _ (spec.named_format records strings bricks kind) _ (right_named kind)
      (λ of. right_made (formats.word any) (format.word any) (λ offset. record { place = place; of = of; offset = offset }) right_any)))

  right_relocations : (step places : ℕ) → Right (reads.relocations_reader records strings bricks step places) (spec.relocations_format records strings bricks step places)
  unfolding reads.relocations_reader
  right_relocations step places = right_then (formats.word any) _ (format.word any) _ right_any
      (λ count. right_each (reads.relocation_reader records strings bricks step places) (spec.relocation_format records strings bricks step places) (right_relocation step places) count [])

  right_called : (k : Called) → Right (reads.called_reader records strings bricks k) (spec.called_format records strings bricks k)
  unfolding reads.called_reader
  right_called callees.Brick = right_made (formats.word (below bricks)) (format.word (below bricks)) target.Brick (right_word (below bricks))
  right_called callees.Mode = right_made (reads.beginning is_value_code (reads.mode records strings bricks)) (spec.beginning is_value_code (spec.mode records strings bricks)) target.Mode (right_beginning is_value_code (reads.mode records strings bricks) (spec.mode records strings bricks) right_mode_here)
  right_called callees.Error = right_nothing target.Error

  right_call : Right (reads.call_reader records strings bricks) (spec.call_format records strings bricks)
  unfolding reads.call_reader
  right_call = right_then (formats.word any) _ (format.word any) _ right_any
      (λ depth. right_then (formats.word any) _ (format.word any) _ right_any
      (λ args. right_then (formats.byte called_of) _ (format.byte called_of) _ (right_byte called_of)
      (λ called. right_made (reads.called_reader records strings bricks called) (spec.called_format records strings bricks called) (λ target. record { depth = depth; args = args; target = target }) (right_called called))))

  right_proc_mode : Right (reads.beginning is_proc_code (reads.mode records strings bricks)) (spec.beginning is_proc_code (spec.mode records strings bricks))
  right_proc_mode = right_beginning is_proc_code (reads.mode records strings bricks) (spec.mode records strings bricks) right_mode_here

  right_calls : Right (reads.calls_reader records strings bricks) (spec.calls_format records strings bricks)
  unfolding reads.calls_reader
  right_calls = right_then (formats.word any) _ (format.word any) _ right_any (λ count. right_times (reads.call_reader records strings bricks) (spec.call_format records strings bricks) right_call count [])

  right_body : Right (reads.body_reader records strings bricks) (spec.body_format records strings bricks)
  unfolding reads.body_reader
  right_body = right_then reads.code_reader _ spec.code_format _ right_code
      (λ code. right_made (reads.relocations_reader records strings bricks 1 (length code.0)) (spec.relocations_format records strings bricks 1 (length code.0)) (λ relocations. (code, relocations)) (right_relocations 1 (length code.0)))

  right_proc : Right (reads.proc_reader records strings bricks) (spec.proc_format records strings bricks)
  unfolding reads.proc_reader
  right_proc = right_then (reads.beginning is_proc_code (reads.mode records strings bricks)) _ (spec.beginning is_proc_code (spec.mode records strings bricks)) _ right_proc_mode
      (λ m. right_then (formats.word any) _ (format.word any) _ right_any
      (λ items. right_then (formats.word any) _ (format.word any) _ right_any
      (λ locals. right_then (formats.word any) _ (format.word any) _ right_any
      (λ deep. right_then (reads.calls_reader records strings bricks) _ (spec.calls_format records strings bricks) _ right_calls
      (λ calls. right_made (reads.body_reader records strings bricks) (spec.body_format records strings bricks)
      (λ body. record { mode = m; items = items; locals = locals; deep = deep; calls = calls; words = body.0.0; marks = body.0.1; relocations = body.1 }) right_body)))))

  right_data_fields : (labels : Bool) → Right (reads.data_fields records strings bricks labels) (spec.data_fields records strings bricks labels)
  unfolding reads.data_fields
  right_data_fields labels = right_passing (λ fields. is_within_most (size_of records fields)) (reads.fields_reader (length records) labels) (spec.fields_format (length records) labels) (right_fields (length records) labels)

  right_data_bytes : (fields : List Field) → Right (reads.data_bytes records strings bricks fields) (spec.data_bytes records strings bricks fields)
  unfolding reads.data_bytes
  right_data_bytes fields = right_then (formats.word (where_true (is_size (size_of records fields)))) formats.block (format.word (where_true (is_size (size_of records fields)))) format.block (right_word (where_true (is_size (size_of records fields)))) right_block

  right_data : Right (reads.data_reader records strings bricks) (spec.data_format records strings bricks)
  unfolding reads.data_reader
  right_data = right_then (reads.data_fields records strings bricks false) _ (spec.data_fields records strings bricks false) _ (right_data_fields false)
      (λ fields. right_then (reads.data_bytes records strings bricks fields) _ (spec.data_bytes records strings bricks fields) _ (right_data_bytes fields)
      (λ bytes. right_made (reads.relocations_reader records strings bricks 2 (length bytes)) (spec.relocations_format records strings bricks 2 (length bytes)) (λ relocations. record { fields = fields; bytes = bytes; relocations = relocations }) (right_relocations 2 (length bytes))))

  right_content : (sort : Sort) → Right (reads.content_reader records strings bricks sort) (spec.content_format records strings bricks sort)
  unfolding reads.content_reader
  right_content sorts.Proc = right_made (reads.proc_reader records strings bricks) (spec.proc_format records strings bricks) content.Proc right_proc
  right_content sorts.Data = right_made (reads.data_reader records strings bricks) (spec.data_format records strings bricks) content.Data right_data
  right_content sorts.Stack = right_made (formats.word (within 1 28672)) (format.word (within 1 28672)) content.Stack (right_word (within 1 28672))

  right_external : (sort : Sort) → Right (reads.external_reader records strings bricks sort) (spec.external_format records strings bricks sort)
  unfolding reads.external_reader
  right_external sorts.Proc = right_made (reads.beginning is_proc_code (reads.mode records strings bricks)) (spec.beginning is_proc_code (spec.mode records strings bricks)) external.Proc right_proc_mode
  right_external sorts.Data = right_made (reads.data_fields records strings bricks false) (spec.data_fields records strings bricks false) external.Data (right_data_fields false)
  right_external sorts.Stack = right_nothing external.Stack

  right_supplied_data : (n : List ℕ) → Right (formats.◌>>=◌ (reads.data_fields records strings bricks (is_rrerr n)) (λ x. formats.nothing (supplied.Data x))) (format.◌>>=◌ (spec.data_fields records strings bricks (is_rrerr n)) (λ x. format.nothing (supplied.Data x)))
  right_supplied_data n = right_made (reads.data_fields records strings bricks (is_rrerr n)) (spec.data_fields records strings bricks (is_rrerr n)) supplied.Data (right_data_fields (is_rrerr n))

  right_supplied : (n : List ℕ) (sort : Sort) → Right (reads.supplied_reader records strings bricks n sort) (spec.supplied_format records strings bricks n sort)
  unfolding reads.supplied_reader
  right_supplied n sorts.Proc = right_made (reads.beginning is_proc_code (reads.mode records strings bricks)) (spec.beginning is_proc_code (spec.mode records strings bricks)) supplied.Proc right_proc_mode
  right_supplied n sorts.Data = right_supplied_data n
  right_supplied n sorts.Stack = right_supplied_data n

  right_kind : (kind : Kind) (sort : Sort) (n : List ℕ) → Right (reads.kind_reader records strings bricks kind sort n) (spec.kind_format records strings bricks kind sort n)
  unfolding reads.kind_reader
  right_kind kinds.Own sort n = right_made (reads.content_reader records strings bricks sort) (spec.content_format records strings bricks sort) Own (right_content sort)
  right_kind kinds.Ent sort n = right_made (reads.content_reader records strings bricks sort) (spec.content_format records strings bricks sort) Ent (right_content sort)
  right_kind kinds.Ext sort n = right_made (reads.external_reader records strings bricks sort) (spec.external_format records strings bricks sort) Ext (right_external sort)
  right_kind kinds.Svc sort n = right_made (reads.supplied_reader records strings bricks n sort) (spec.supplied_format records strings bricks n sort) Svc (right_supplied n sort)

  right_brick : (before : List Brick) → Right (reads.brick_reader records strings bricks before) (spec.brick_format records strings bricks before)
  unfolding reads.brick_reader
  right_brick before = right_then (formats.byte kind_of) _ (format.byte kind_of) _ (right_byte kind_of)
      (λ kind. right_then (formats.byte (sort_in kind)) _ (format.byte (sort_in kind)) _ (right_byte (sort_in kind))
      (λ sort. right_then (formats.passing (is_new (map (λ b. b.name) before)) formats.name) _ (format.passing (is_new (map (λ b. b.name) before)) format.name) _ (right_passing (is_new (map (λ b. b.name) before)) formats.name format.name right_name)
      (λ new. right_made (reads.kind_reader records strings bricks kind sort new) (spec.kind_format records strings bricks kind sort new) (λ holds. record { name = new; kind = holds }) (right_kind kind sort new))))

pub right_bricks : (records : List RecordDef) (strings : ℕ) → Right (reads.bricks_reader records strings) (spec.bricks_format records strings)
unfolding reads.bricks_reader
right_bricks records strings = right_then (formats.word any) _ (format.word any) _ right_any (λ count. right_each (reads.brick_reader records strings count) (spec.brick_format records strings count) (right_brick records strings count) count [])

pub right_taken : (bricks : List Brick) → Right (reads.taken_reader bricks) (spec.taken_format bricks)
unfolding reads.taken_reader reads.taken_number
right_taken bricks = right_then (formats.word any) _ (format.word any) _ right_any
    (λ count. right_each (λ before. formats.word (where_true (is_taken bricks before))) (λ before. format.word (where_true (is_taken bricks before))) (λ before. right_word (where_true (is_taken bricks before))) count [])
