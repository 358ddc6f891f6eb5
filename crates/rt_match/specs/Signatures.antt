-- What the bricks of objects say of themselves to others.
use Rattle.std.specs.Prelude.{ℕ, List, map}
use Rattle.rt_modes.specs.FullMode.{FullMode, FullData, FullStack}
use Rattle.rt_modes.specs.declared.mode.Field.{Field}
use Rattle.rt_modes.specs.declared.mode.Mode.{Mode}
use Rattle.rt_modes.specs.declared.mode.ModeTable.{ModeTable}
use Rattle.rt_object.specs.declared.object.Brick.{Brick}
use Rattle.rt_object.specs.declared.object.BrickKind.{BrickKind}
use Rattle.rt_object.specs.declared.object.BrickKind.TheVariants as kind
use Rattle.rt_object.specs.declared.object.Content.{Content}
use Rattle.rt_object.specs.declared.object.Content.TheVariants as content
use Rattle.rt_object.specs.declared.object.External.{External}
use Rattle.rt_object.specs.declared.object.External.TheVariants as external
use Rattle.rt_object.specs.declared.object.ObjectParts.{ObjectParts}
use Rattle.rt_object.specs.declared.object.Supplied.{Supplied}
use Rattle.rt_object.specs.declared.object.Supplied.TheVariants as supplied
use Rattle.rt_match.specs.Matching as matching
use Rattle.rt_match.specs.Matching.{Kind, Sort, Signature, System}

-- what a brick is, with that of which its full mode is made
pub data Form : Type 0 where
  Proc : Mode → Form
  Data : List Field → Form
  Stack : Form

abbrev pub content_form : Content → Form
content_form (content.Proc p) = Proc p.mode
content_form (content.Data d) = Data d.fields
content_form (content.Stack n) = Stack

abbrev pub external_form : External → Form
external_form (external.Proc m) = Proc m
external_form (external.Data fs) = Data fs
external_form external.Stack = Stack

abbrev pub supplied_form : Supplied → Form
supplied_form (supplied.Proc m) = Proc m
supplied_form (supplied.Data fs) = Data fs

abbrev pub form_of : BrickKind → Form
form_of (kind.Own c) = content_form c
form_of (kind.Ent c) = content_form c
form_of (kind.Ext e) = external_form e
form_of (kind.Svc s) = supplied_form s

abbrev pub whose : BrickKind → Kind
whose (kind.Own c) = matching.Own
whose (kind.Ent c) = matching.Ent
whose (kind.Ext e) = matching.Ext
whose (kind.Svc s) = matching.Svc

abbrev pub sort_of : Form → Sort
sort_of (Proc m) = matching.Proc
sort_of (Data fs) = matching.Data
sort_of Stack = matching.Stack

-- the full mode, over the records of the module
abbrev pub full_mode : ModeTable → Form → List ℕ
full_mode t (Proc m) = FullMode t m
full_mode t (Data fs) = FullData t fs
full_mode t Stack = FullStack

abbrev pub signature : ModeTable → Brick → Signature
signature t b = record { kind = whose b.kind; sort = sort_of (form_of b.kind); name = b.name; mode = full_mode t (form_of b.kind) }

abbrev pub signatures : ObjectParts → List Signature
signatures o = map (signature o.records) o.bricks

-- the system of these objects
abbrev pub system_of : List ObjectParts → System
system_of objects = map signatures objects
