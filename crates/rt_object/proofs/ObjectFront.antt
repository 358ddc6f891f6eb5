-- An object is read back whatever follows it.
use Rattle.std.proofs.Common.{ℕ, Bool, false, List, [], ◌∷◌, ◌++◌, length, map, codes}
use Rattle.rt_words.specs.Format.{Format, nothing, byte, word, block, tag, name, where_true, any, within, ◌>>=◌, each, times, passing}
use Rattle.rt_modes.specs.Spelling.{mode_format}
use Rattle.rt_words.specs.FormatLaws.{IsReadBack}
use Rattle.rt_words.proofs.Front.{front_nothing, front_byte, front_word, front_block, front_tag, front_name, front_then, front_each, front_times, front_passing}
use Rattle.rt_object.proofs.ModeFront.{front_mode, some_code}
use Rattle.rt_modes.specs.declared.mode.Field.{Field}
use Rattle.rt_modes.specs.declared.mode.RecordDef.{RecordDef}
use Rattle.rt_object.specs.declared.object.Brick.{Brick}
use Rattle.rt_object.specs.declared.object.BrickKind.TheVariants.{Own, Ent, Ext, Svc}
use Rattle.rt_object.specs.declared.object.Content.TheVariants as content
use Rattle.rt_object.specs.declared.object.External.TheVariants as external
use Rattle.rt_object.specs.declared.object.Relocated.TheVariants as relocated
use Rattle.rt_object.specs.declared.object.Relocation.{Relocation}
use Rattle.rt_object.specs.declared.object.Supplied.TheVariants as supplied
use Rattle.rt_object.specs.declared.object.Target.TheVariants as target
use Rattle.rt_object.specs.Grammar.{is_new, is_proc_code, is_value_code, size_of, is_within_most, is_size, is_place, is_taken, kind_of, sort_in, called_of, named_of, below, is_rrerr, may_be}
use Rattle.rt_object.specs.Grammar as spec
use Rattle.rt_object.proofs.Beginning.{front_beginning}
use Rattle.rt_object.specs.declared.tag.Called.{Called}
use Rattle.rt_object.specs.declared.tag.Kind.{Kind}
use Rattle.rt_object.specs.declared.tag.Named.{Named}
use Rattle.rt_object.specs.declared.tag.Sort.{Sort}
use Rattle.rt_object.specs.declared.tag.Called.TheVariants as callees
use Rattle.rt_object.specs.declared.tag.Kind.TheVariants as kinds
use Rattle.rt_object.specs.declared.tag.Named.TheVariants as namings
use Rattle.rt_object.specs.declared.tag.Sort.TheVariants as sorts

front_made : {A B : Type 0} (P : Format A) (f : A → B) → IsReadBack P → IsReadBack (P >>= (λ x. nothing (f x)))
front_made P f g = front_then P (λ x. nothing (f x)) g (λ x. front_nothing (f x))

front_any : IsReadBack (word any)
front_any = front_word any

front_field : (records : ℕ) (labels : Bool) (before : List Field) → IsReadBack (spec.field_format records labels before)
front_field records labels before = front_then (passing (is_new (map (λ (f : Field). f.name) before)) name) _ (front_passing (is_new (map (λ (f : Field). f.name) before)) name front_name)
    (λ new. front_made (passing (may_be labels) (mode_format records)) (λ mode. record { name = new; mode = mode }) (front_passing (may_be labels) (mode_format records) (front_mode records)))

front_fields : (records : ℕ) (labels : Bool) → IsReadBack (spec.fields_format records labels)
front_fields records labels = front_then (word any) _ front_any (λ count. front_each (spec.field_format records labels) (front_field records labels) count [])

front_record : (records : ℕ) (before : List RecordDef) → IsReadBack (spec.record_format records before)
front_record records before = front_then (passing (is_new (map (λ (r : RecordDef). r.name) before)) name) _ (front_passing (is_new (map (λ (r : RecordDef). r.name) before)) name front_name)
    (λ new. front_made (spec.fields_format records false) (λ fields. record { name = new; fields = fields }) (front_fields records false))

front_string : IsReadBack spec.string_format
front_string = front_then (word (within 0 8191)) block (front_word (within 0 8191)) front_block

front_strings : IsReadBack spec.strings_format
front_strings = front_then (word any) _ front_any (λ count. front_times (spec.string_format) front_string count [])

front_code : IsReadBack spec.code_format
front_code = front_then (word (within 0 16383)) _ (front_word (within 0 16383))
    (λ count. front_then (times (word any) count []) _ (front_times (word any) front_any count [])
    (λ words. front_made (times (byte (within 0 2)) count []) (λ marks. (words, marks)) (front_times (byte (within 0 2)) (front_byte (within 0 2)) count [])))

module _ (records : List RecordDef) (strings bricks : ℕ) where
  front_mode_here : IsReadBack (spec.mode records strings bricks)
  front_mode_here = front_mode (length records)

  front_named : (n : Named) → IsReadBack (spec.named_format records strings bricks n)
  front_named namings.Brick = front_made (word (below bricks)) relocated.Brick (front_word (below bricks))
  front_named namings.String = front_made (word (below strings)) relocated.String (front_word (below strings))
  front_named namings.Support = front_made (word (within 1 32)) relocated.Support (front_word (within 1 32))

  front_relocation : (step places : ℕ) (before : List Relocation) → IsReadBack (spec.relocation_format records strings bricks step places before)
  front_relocation step places before = front_then (word (where_true (is_place step places before))) _ (front_word (where_true (is_place step places before)))
      (λ place. front_then (byte named_of) _ (front_byte named_of)
      (λ kind. front_then (spec.named_format records strings bricks kind) _ (front_named kind)
      (λ of. front_made (word any) (λ offset. record { place = place; of = of; offset = offset }) front_any)))

  front_relocations : (step places : ℕ) → IsReadBack (spec.relocations_format records strings bricks step places)
  front_relocations step places = front_then (word any) _ front_any (λ count. front_each (spec.relocation_format records strings bricks step places) (front_relocation step places) count [])

  front_called : (c : Called) → IsReadBack (spec.called_format records strings bricks c)
  front_called callees.Brick = front_made (word (below bricks)) target.Brick (front_word (below bricks))
  front_called callees.Mode = front_made (spec.beginning is_value_code (spec.mode records strings bricks)) target.Mode (front_beginning is_value_code (spec.mode records strings bricks) front_mode_here (some_code (length records)))
  front_called callees.Error = front_nothing target.Error

  front_call : IsReadBack (spec.call_format records strings bricks)
  front_call = front_then (word any) _ front_any
      (λ depth. front_then (word any) _ front_any
      (λ args. front_then (byte called_of) _ (front_byte called_of)
      (λ called. front_made (spec.called_format records strings bricks called) (λ target. record { depth = depth; args = args; target = target }) (front_called called))))

  front_proc_mode : IsReadBack (spec.beginning is_proc_code (spec.mode records strings bricks))
  front_proc_mode = front_beginning is_proc_code (spec.mode records strings bricks) front_mode_here (some_code (length records))

  front_calls : IsReadBack (spec.calls_format records strings bricks)
  front_calls = front_then (word any) _ front_any (λ count. front_times (spec.call_format records strings bricks) front_call count [])

  front_body : IsReadBack (spec.body_format records strings bricks)
  front_body = front_then spec.code_format _ front_code (λ code. front_made (spec.relocations_format records strings bricks 1 (length code.0)) (λ relocations. (code, relocations)) (front_relocations 1 (length code.0)))

  front_proc : IsReadBack (spec.proc_format records strings bricks)
  front_proc = front_then (spec.beginning is_proc_code (spec.mode records strings bricks)) _ front_proc_mode
      (λ m. front_then (word any) _ front_any
      (λ items. front_then (word any) _ front_any
      (λ locals. front_then (word any) _ front_any
      (λ deep. front_then (spec.calls_format records strings bricks) _ front_calls
      (λ calls. front_made (spec.body_format records strings bricks)
      (λ body. record { mode = m; items = items; locals = locals; deep = deep; calls = calls; words = body.0.0; marks = body.0.1; relocations = body.1 }) front_body)))))

  front_data_fields : (labels : Bool) → IsReadBack (spec.data_fields records strings bricks labels)
  front_data_fields labels = front_passing (λ fields. is_within_most (size_of records fields)) (spec.fields_format (length records) labels) (front_fields (length records) labels)

  front_data_bytes : (fields : List Field) → IsReadBack (spec.data_bytes records strings bricks fields)
  front_data_bytes fields = front_then (word (where_true (is_size (size_of records fields)))) block (front_word (where_true (is_size (size_of records fields)))) front_block

  front_data : IsReadBack (spec.data_format records strings bricks)
  front_data = front_then (spec.data_fields records strings bricks false) _ (front_data_fields false)
      (λ fields. front_then (spec.data_bytes records strings bricks fields) _ (front_data_bytes fields)
      (λ bytes. front_made (spec.relocations_format records strings bricks 2 (length bytes)) (λ relocations. record { fields = fields; bytes = bytes; relocations = relocations }) (front_relocations 2 (length bytes))))

  front_content : (sort : Sort) → IsReadBack (spec.content_format records strings bricks sort)
  front_content sorts.Proc = front_made (spec.proc_format records strings bricks) content.Proc front_proc
  front_content sorts.Data = front_made (spec.data_format records strings bricks) content.Data front_data
  front_content sorts.Stack = front_made (word (within 1 28672)) content.Stack (front_word (within 1 28672))

  front_external : (sort : Sort) → IsReadBack (spec.external_format records strings bricks sort)
  front_external sorts.Proc = front_made (spec.beginning is_proc_code (spec.mode records strings bricks)) external.Proc front_proc_mode
  front_external sorts.Data = front_made (spec.data_fields records strings bricks false) external.Data (front_data_fields false)
  front_external sorts.Stack = front_nothing external.Stack

  front_supplied : (n : List ℕ) (sort : Sort) → IsReadBack (spec.supplied_format records strings bricks n sort)
  front_supplied n sorts.Proc = front_made (spec.beginning is_proc_code (spec.mode records strings bricks)) supplied.Proc front_proc_mode
  front_supplied n sorts.Data = front_made (spec.data_fields records strings bricks (is_rrerr n)) supplied.Data (front_data_fields (is_rrerr n))
  front_supplied n sorts.Stack = front_made (spec.data_fields records strings bricks (is_rrerr n)) supplied.Data (front_data_fields (is_rrerr n))

  front_kind : (kind : Kind) (sort : Sort) (n : List ℕ) → IsReadBack (spec.kind_format records strings bricks kind sort n)
  front_kind kinds.Own sort n = front_made (spec.content_format records strings bricks sort) Own (front_content sort)
  front_kind kinds.Ent sort n = front_made (spec.content_format records strings bricks sort) Ent (front_content sort)
  front_kind kinds.Ext sort n = front_made (spec.external_format records strings bricks sort) Ext (front_external sort)
  front_kind kinds.Svc sort n = front_made (spec.supplied_format records strings bricks n sort) Svc (front_supplied n sort)

  front_brick : (before : List Brick) → IsReadBack (spec.brick_format records strings bricks before)
  front_brick before = front_then (byte kind_of) _ (front_byte kind_of)
      (λ kind. front_then (byte (sort_in kind)) _ (front_byte (sort_in kind))
      (λ sort. front_then (passing (is_new (map (λ (b : Brick). b.name) before)) name) _ (front_passing (is_new (map (λ (b : Brick). b.name) before)) name front_name)
      (λ new. front_made (spec.kind_format records strings bricks kind sort new) (λ holds. record { name = new; kind = holds }) (front_kind kind sort new))))

front_bricks : (records : List RecordDef) (strings : ℕ) → IsReadBack (spec.bricks_format records strings)
front_bricks records strings = front_then (word any) _ front_any (λ count. front_each (spec.brick_format records strings count) (front_brick records strings count) count [])

front_taken : (bricks : List Brick) → IsReadBack (spec.taken_format bricks)
front_taken bricks = front_then (word any) _ front_any (λ count. front_each (λ before. word (where_true (is_taken bricks before))) (λ before. front_word (where_true (is_taken bricks before))) count [])

front_all_records : IsReadBack (word any >>= (λ count. each (spec.record_format count) count []))
front_all_records = front_then (word any) _ front_any (λ count. front_each (spec.record_format count) (front_record count) count [])

front_records : IsReadBack spec.records_format
front_records = record { back = λ l r records f. let k = front_all_records.back l r records f.0 in (k.0, k.1, λ s. (k.2 s, f.1)) }

pub front_object : IsReadBack spec.object_format
front_object = front_then (tag (codes "RTO" ++ 1 ∷ [])) _ (front_tag (codes "RTO" ++ 1 ∷ []))
    (λ magic. front_then name _ front_name
    (λ title. front_then spec.records_format _ front_records
    (λ records. front_then spec.strings_format _ front_strings
    (λ strings. front_then (spec.bricks_format records (length strings)) _ (front_bricks records (length strings))
    (λ bricks. front_made (spec.taken_format bricks) (λ taken. record { title = title; records = record { records = records }; strings = strings; bricks = bricks; taken = taken }) (front_taken bricks))))))
