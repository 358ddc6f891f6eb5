-- What stands in the code of a linked system: the support code, the words by which tasks enter, and the procedures.
use Rattle.std.specs.Prelude.{◌≡◌, ℕ, ◌<◌, List, [], ◌∷◌, map, Some, slice_get}
use Rattle.rt_words.specs.Word.{wrap_add}
use Rattle.rt_tree.specs.Stored.{System}
use Rattle.rt_system.specs.declared.parts.Task.{Task}
use Rattle.rt_image.specs.declared.image.ImageParts.{ImageParts}
use Rattle.rt_image.specs.declared.map.Map.{Map}
use Rattle.rt_object.specs.declared.object.Brick.{Brick}
use Rattle.rt_object.specs.declared.object.Content.TheVariants as content
use Rattle.rt_object.specs.declared.object.ObjectParts.{ObjectParts}
use Rattle.rt_object.specs.declared.object.ProcContent.{ProcContent}
use Rattle.rt_graph.specs.Calls.{brick, numbered, content_of}
use Rattle.rt_templates.specs.declared.line.Line.{Line}
use Rattle.rt_templates.specs.Supported.{all_lines}
use Rattle.rt_link.specs.Named.{relocated_word}
use Rattle.rt_link.specs.Relocated.{patched}
use Rattle.rt_lower.specs.declared.layouts.Layouts.{Layouts}
use Rattle.pdp_symbolic.specs.Machine.{Stands}
use Rattle.rt_follows.specs.Whole.{Whole, Home}
use Rattle.rt_follows.specs.Held.{Marked, CodeAt, layout}
use Rattle.rt_imaged.specs.Laws.{Landed}
use Rattle.rt_imaged.specs.Closed.{EntriesStand}
use Rattle.rt_imaged.specs.Laid.{HaveWords}
use Rattle.rt_imaged.specs.Whole.{whole_of, source_tasks, IsSystem}

-- marks stand at the words of code, from an address on
abbrev pub MarksAt : Whole → ℕ → List ℕ → Type 0
MarksAt w a [] = Unit {0}
MarksAt w a (m ∷ ms) = (w.marks a ≡ m) × MarksAt w (wrap_add a 2) ms

-- a line without a hole, as rt_follows has it
abbrev pub marked : Line → Marked
marked l = record { instr = l.instr; mark = l.mark }

-- the words by which tasks enter their roots stand in the code
abbrev pub EntriesDoStand : Type 0
EntriesDoStand =
    Landed → (ps : System) (ls : List Layouts) (objects : List ObjectParts) (tasks : List Task) (image : ImageParts) (map : Map) (s : IsSystem ps ls objects tasks image map) → EntriesStand (whole_of ps ls objects s.linked.known image) image (source_tasks tasks s.linked.known.roots)

-- so does the support code, from address 0 on
abbrev pub SupportDoesStand : Type 0
SupportDoesStand =
    Landed → (ps : System) (ls : List Layouts) (objects : List ObjectParts) (tasks : List Task) (image : ImageParts) (mapped : Map) (s : IsSystem ps ls objects tasks image mapped) (h : Home) → CodeAt (whole_of ps ls objects s.linked.known image) h 0 (map marked all_lines)

-- the words of a procedure with its relocations applied stand at its entry, and so do its marks
pub record ProcStands (w : Whole) (h : Home) (word_of : List ℕ) (marks : List ℕ) (m b : ℕ) : Type 0 where
  pub small : w.entry (brick m b) < 65536
  pub words : Stands (layout w h) (w.entry (brick m b)) word_of
  pub marks_are : MarksAt w (w.entry (brick m b)) marks

abbrev pub ProcsDoStand : Type 0
ProcsDoStand =
    Landed → (ps : System) (ls : List Layouts) (objects : List ObjectParts) (tasks : List Task) (image : ImageParts) (mapped : Map) (s : IsSystem ps ls objects tasks image mapped) (h : Home) (m b : ℕ) (o : ObjectParts) (d : Brick) (p : ProcContent)
    → numbered objects m ≡ Some o → slice_get o.bricks b ≡ Some d → content_of d.kind ≡ Some (content.Proc p)
    → let known = s.linked.known in ProcStands (whole_of ps ls objects known image) h (patched (relocated_word objects known.stacks known.bindings.of m) p.relocations p.words) p.marks m b

-- each procedure of an object of a tree has a word of code
abbrev pub TheyHaveWords : Type 0
TheyHaveWords = (ps : System) (ls : List Layouts) (objects : List ObjectParts) (tasks : List Task) (image : ImageParts) (map : Map) → IsSystem ps ls objects tasks image map → HaveWords objects
