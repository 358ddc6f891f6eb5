-- What is refused of an object lies within its bytes.
use Rattle.std.proofs.Common.{ℕ, Bool, false, List, [], ◌∷◌, ◌++◌, length, map, codes}
use Rattle.rt_words.specs.Format.{Format, nothing, byte, word, block, tag, name, where_true, any, within, ◌>>=◌, each, times, passing}
use Rattle.rt_modes.specs.Spelling.{mode_format}
use Rattle.std.proofs.Common.{inl, inr, take, arith}
use Rattle.rt_words.proofs.Within.{Within, in_nothing, in_byte, in_word, in_block, in_tag, in_name, in_then, in_each, in_times, in_passing}
use Rattle.rt_modes.proofs.Within.{in_mode}
use Rattle.rt_modes.specs.declared.mode.Field.{Field}
use Rattle.rt_modes.specs.declared.mode.RecordDef.{RecordDef}
use Rattle.rt_object.specs.declared.object.Brick.{Brick}
use Rattle.rt_object.specs.declared.object.BrickKind.TheVariants.{Own, Ent, Ext, Svc}
use Rattle.rt_object.specs.declared.object.Content.TheVariants as content
use Rattle.rt_object.specs.declared.object.External.TheVariants as external
use Rattle.rt_object.specs.declared.object.Relocated.TheVariants as relocated
use Rattle.rt_object.specs.declared.object.Relocation.{Relocation}
use Rattle.rt_object.specs.declared.object.Supplied.TheVariants as supplied
use Rattle.rt_object.specs.declared.object.Target.TheVariants as target
use Rattle.rt_object.specs.Grammar.{is_new, is_proc_code, is_value_code, size_of, is_within_most, is_size, is_place, is_taken, kind_of, sort_in, called_of, named_of, below, is_rrerr, may_be}
use Rattle.rt_object.specs.Grammar as spec
use Rattle.rt_object.proofs.Beginning.{in_beginning}
use Rattle.rt_object.specs.declared.tag.Called.{Called}
use Rattle.rt_object.specs.declared.tag.Kind.{Kind}
use Rattle.rt_object.specs.declared.tag.Named.{Named}
use Rattle.rt_object.specs.declared.tag.Sort.{Sort}
use Rattle.rt_object.specs.declared.tag.Called.TheVariants as callees
use Rattle.rt_object.specs.declared.tag.Kind.TheVariants as kinds
use Rattle.rt_object.specs.declared.tag.Named.TheVariants as namings
use Rattle.rt_object.specs.declared.tag.Sort.TheVariants as sorts

in_made : {A B : Type 0} (P : Format A) (f : A → B) → Within P → Within (P >>= (λ x. nothing (f x)))
in_made P f g = in_then P (λ x. nothing (f x)) g (λ x. in_nothing (f x))

in_any : Within (word any)
in_any = in_word any

in_field : (records : ℕ) (labels : Bool) (before : List Field) → Within (spec.field_format records labels before)
in_field records labels before = in_then (passing (is_new (map (λ (f : Field). f.name) before)) name) _ (in_passing (is_new (map (λ (f : Field). f.name) before)) name in_name)
    (λ new. in_made (passing (may_be labels) (mode_format records)) (λ mode. record { name = new; mode = mode }) (in_passing (may_be labels) (mode_format records) (in_mode records)))

in_fields : (records : ℕ) (labels : Bool) → Within (spec.fields_format records labels)
in_fields records labels = in_then (word any) _ in_any (λ count. in_each (spec.field_format records labels) (in_field records labels) count [])

in_record : (records : ℕ) (before : List RecordDef) → Within (spec.record_format records before)
in_record records before = in_then (passing (is_new (map (λ (r : RecordDef). r.name) before)) name) _ (in_passing (is_new (map (λ (r : RecordDef). r.name) before)) name in_name)
    (λ new. in_made (spec.fields_format records false) (λ fields. record { name = new; fields = fields }) (in_fields records false))

in_string : Within spec.string_format
in_string = in_then (word (within 0 8191)) block (in_word (within 0 8191)) in_block

in_strings : Within spec.strings_format
in_strings = in_then (word any) _ in_any (λ count. in_times (spec.string_format) count [] in_string)

in_code : Within spec.code_format
in_code = in_then (word (within 0 16383)) _ (in_word (within 0 16383))
    (λ count. in_then (times (word any) count []) _ (in_times (word any) count [] in_any)
    (λ words. in_made (times (byte (within 0 2)) count []) (λ marks. (words, marks)) (in_times (byte (within 0 2)) count [] (in_byte (within 0 2)))))

module _ (records : List RecordDef) (strings bricks : ℕ) where
  in_mode_here : Within (spec.mode records strings bricks)
  in_mode_here = in_mode (length records)

  in_named : (n : Named) → Within (spec.named_format records strings bricks n)
  in_named namings.Brick = in_made (word (below bricks)) relocated.Brick (in_word (below bricks))
  in_named namings.String = in_made (word (below strings)) relocated.String (in_word (below strings))
  in_named namings.Support = in_made (word (within 1 32)) relocated.Support (in_word (within 1 32))

  in_relocation : (step places : ℕ) (before : List Relocation) → Within (spec.relocation_format records strings bricks step places before)
  in_relocation step places before = in_then (word (where_true (is_place step places before))) _ (in_word (where_true (is_place step places before)))
      (λ place. in_then (byte named_of) _ (in_byte named_of)
      (λ kind. in_then (spec.named_format records strings bricks kind) _ (in_named kind)
      (λ of. in_made (word any) (λ offset. record { place = place; of = of; offset = offset }) in_any)))

  in_relocations : (step places : ℕ) → Within (spec.relocations_format records strings bricks step places)
  in_relocations step places = in_then (word any) _ in_any (λ count. in_each (spec.relocation_format records strings bricks step places) (in_relocation step places) count [])

  in_called : (c : Called) → Within (spec.called_format records strings bricks c)
  in_called callees.Brick = in_made (word (below bricks)) target.Brick (in_word (below bricks))
  in_called callees.Mode = in_made (spec.beginning is_value_code (spec.mode records strings bricks)) target.Mode (in_beginning is_value_code (spec.mode records strings bricks) in_mode_here)
  in_called callees.Error = in_nothing target.Error

  in_call : Within (spec.call_format records strings bricks)
  in_call = in_then (word any) _ in_any
      (λ depth. in_then (word any) _ in_any
      (λ args. in_then (byte called_of) _ (in_byte called_of)
      (λ called. in_made (spec.called_format records strings bricks called) (λ target. record { depth = depth; args = args; target = target }) (in_called called))))

  in_proc_mode : Within (spec.beginning is_proc_code (spec.mode records strings bricks))
  in_proc_mode = in_beginning is_proc_code (spec.mode records strings bricks) in_mode_here

  in_calls : Within (spec.calls_format records strings bricks)
  in_calls = in_then (word any) _ in_any (λ count. in_times (spec.call_format records strings bricks) count [] in_call)

  in_body : Within (spec.body_format records strings bricks)
  in_body = in_then spec.code_format _ in_code (λ code. in_made (spec.relocations_format records strings bricks 1 (length code.0)) (λ relocations. (code, relocations)) (in_relocations 1 (length code.0)))

  in_proc : Within (spec.proc_format records strings bricks)
  in_proc = in_then (spec.beginning is_proc_code (spec.mode records strings bricks)) _ in_proc_mode
      (λ m. in_then (word any) _ in_any
      (λ items. in_then (word any) _ in_any
      (λ locals. in_then (word any) _ in_any
      (λ deep. in_then (spec.calls_format records strings bricks) _ in_calls
      (λ calls. in_made (spec.body_format records strings bricks)
      (λ body. record { mode = m; items = items; locals = locals; deep = deep; calls = calls; words = body.0.0; marks = body.0.1; relocations = body.1 }) in_body)))))

  in_data_fields : (labels : Bool) → Within (spec.data_fields records strings bricks labels)
  in_data_fields labels = in_passing (λ fields. is_within_most (size_of records fields)) (spec.fields_format (length records) labels) (in_fields (length records) labels)

  in_data_bytes : (fields : List Field) → Within (spec.data_bytes records strings bricks fields)
  in_data_bytes fields = in_then (word (where_true (is_size (size_of records fields)))) block (in_word (where_true (is_size (size_of records fields)))) in_block

  in_data : Within (spec.data_format records strings bricks)
  in_data = in_then (spec.data_fields records strings bricks false) _ (in_data_fields false)
      (λ fields. in_then (spec.data_bytes records strings bricks fields) _ (in_data_bytes fields)
      (λ bytes. in_made (spec.relocations_format records strings bricks 2 (length bytes)) (λ relocations. record { fields = fields; bytes = bytes; relocations = relocations }) (in_relocations 2 (length bytes))))

  in_content : (sort : Sort) → Within (spec.content_format records strings bricks sort)
  in_content sorts.Proc = in_made (spec.proc_format records strings bricks) content.Proc in_proc
  in_content sorts.Data = in_made (spec.data_format records strings bricks) content.Data in_data
  in_content sorts.Stack = in_made (word (within 1 28672)) content.Stack (in_word (within 1 28672))

  in_external : (sort : Sort) → Within (spec.external_format records strings bricks sort)
  in_external sorts.Proc = in_made (spec.beginning is_proc_code (spec.mode records strings bricks)) external.Proc in_proc_mode
  in_external sorts.Data = in_made (spec.data_fields records strings bricks false) external.Data (in_data_fields false)
  in_external sorts.Stack = in_nothing external.Stack

  in_supplied : (n : List ℕ) (sort : Sort) → Within (spec.supplied_format records strings bricks n sort)
  in_supplied n sorts.Proc = in_made (spec.beginning is_proc_code (spec.mode records strings bricks)) supplied.Proc in_proc_mode
  in_supplied n sorts.Data = in_made (spec.data_fields records strings bricks (is_rrerr n)) supplied.Data (in_data_fields (is_rrerr n))
  in_supplied n sorts.Stack = in_made (spec.data_fields records strings bricks (is_rrerr n)) supplied.Data (in_data_fields (is_rrerr n))

  in_kind : (kind : Kind) (sort : Sort) (n : List ℕ) → Within (spec.kind_format records strings bricks kind sort n)
  in_kind kinds.Own sort n = in_made (spec.content_format records strings bricks sort) Own (in_content sort)
  in_kind kinds.Ent sort n = in_made (spec.content_format records strings bricks sort) Ent (in_content sort)
  in_kind kinds.Ext sort n = in_made (spec.external_format records strings bricks sort) Ext (in_external sort)
  in_kind kinds.Svc sort n = in_made (spec.supplied_format records strings bricks n sort) Svc (in_supplied n sort)

  in_brick : (before : List Brick) → Within (spec.brick_format records strings bricks before)
  in_brick before = in_then (byte kind_of) _ (in_byte kind_of)
      (λ kind. in_then (byte (sort_in kind)) _ (in_byte (sort_in kind))
      (λ sort. in_then (passing (is_new (map (λ (b : Brick). b.name) before)) name) _ (in_passing (is_new (map (λ (b : Brick). b.name) before)) name in_name)
      (λ new. in_made (spec.kind_format records strings bricks kind sort new) (λ holds. record { name = new; kind = holds }) (in_kind kind sort new))))

in_bricks : (records : List RecordDef) (strings : ℕ) → Within (spec.bricks_format records strings)
in_bricks records strings = in_then (word any) _ in_any (λ count. in_each (spec.brick_format records strings count) (in_brick records strings count) count [])

in_taken : (bricks : List Brick) → Within (spec.taken_format bricks)
in_taken bricks = in_then (word any) _ in_any (λ count. in_each (λ before. word (where_true (is_taken bricks before))) (λ before. in_word (where_true (is_taken bricks before))) count [])

in_all_records : Within (word any >>= (λ count. each (spec.record_format count) count []))
in_all_records = in_then (word any) _ in_any (λ count. in_each (spec.record_format count) (in_record count) count [])

in_front_records : (k : ℕ) → Within (spec.front_records k)
in_front_records k = in_then (word any) _ in_any (λ count. in_each (spec.record_format count) (in_record count) k [])

in_records : Within spec.records_format
in_records = record {
  left = λ l r records f. in_all_records.left l r records f.0;
  field = λ l n f. elim f [ inl k ↦ in_all_records.field l n k | inr (r, records, k, fits, bad, (m, front, e)) ↦ let one = (in_front_records k).left l m (take k records) front in omega arith ];
}

pub in_object : Within spec.object_format
in_object = in_then (tag (codes "RTO" ++ 1 ∷ [])) _ (in_tag (codes "RTO" ++ 1 ∷ []))
    (λ magic. in_then name _ in_name
    (λ title. in_then spec.records_format _ in_records
    (λ records. in_then spec.strings_format _ in_strings
    (λ strings. in_then (spec.bricks_format records (length strings)) _ (in_bricks records (length strings))
    (λ bricks. in_made (spec.taken_format bricks) (λ taken. record { title = title; records = record { records = records }; strings = strings; bricks = bricks; taken = taken }) (in_taken bricks))))))
