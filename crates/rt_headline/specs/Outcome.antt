-- What `go` makes of the files: a system that it accepts, with its trees and its tasks; or the first refusal in the order of the system's
-- text, the ticks, each module in its turn, and the verdict on the whole.
use Rattle.std.specs.Prelude.{◌≡◌, ℕ, false, List, [], ◌∷◌, Option}
use Rattle.rt_tree_nodes.specs.declared.brick.ModuleParts.{ModuleParts}
use Rattle.rt_check.specs.Texts.{IsTree}
use Rattle.rt_object.specs.declared.object.ObjectParts.{ObjectParts}
use Rattle.rt_object.specs.Ranges.{HasObjectRanges}
use Rattle.rt_compile.specs.Objects.{IsObjectOf}
use Rattle.rt_outside.specs.Files.{Files}
use Rattle.rt_system.specs.declared.parts.Entry.{Entry}
use Rattle.rt_system.specs.declared.parts.Entry.TheVariants as entry
use Rattle.rt_system.specs.declared.parts.SystemParts.{SystemParts}
use Rattle.rt_system.specs.Library.{library_text}
use Rattle.rt_report.specs.declared.fault.FaultLine.{FaultLine}
use Rattle.rt_link.specs.declared.judged.Judged.{Judged}
use Rattle.rt_link.specs.Verdict.{IsJudged}
use Rattle.rt_meaning.specs.declared.begin.SourceTask.{SourceTask}
use Rattle.rt_accept.specs.Reading.{IsFile, HasSystem, RefusesSystem, HasTicks, RefusesTicks}
use Rattle.rt_accept.specs.Systems.{HaveEntries, RefusesEntries, IsReadAmong}
use Rattle.rt_accept.specs.Verdicts.{RefusesVerdict}
use Rattle.rt_imaging.specs.Imaging.{AreTasksOf}
use Rattle.rt_headline.specs.Go.{Go}

-- ---- systems

-- a system that is accepted: what its text says, the gaps of its ticks, the typed trees of its modules, the objects that these are
-- compiled to, and its tasks
pub record System : Type 0 where
  pub parts : SystemParts
  pub gaps : List ℕ
  pub trees : List ModuleParts
  pub objects : List ObjectParts
  pub tasks : List SourceTask

module _ (files : Option Files) where
  -- the text of a module: its file's, or the library's
  abbrev pub IsTextOf : Entry → List ℕ → Type 0
  IsTextOf (entry.Module file) text = IsFile files file text
  IsTextOf (entry.Object file) text = ⊥
  IsTextOf entry.Library text = text ≡ library_text

  -- a module: the typed tree of its text, and the object of this tree
  pub record IsModule (e : Entry) (tree : ModuleParts) (o : ObjectParts) : Type 0 where
    pub text : List ℕ
    pub is_text : IsTextOf e text
    pub is_tree : IsTree text tree
    pub object : IsObjectOf tree o
    pub ranges : HasObjectRanges o

  -- the modules of the lines, one by one
  abbrev pub AreModules : List Entry → List ModuleParts → List ObjectParts → Type 0
  AreModules [] [] [] = Unit {0}
  AreModules (e ∷ es) (t ∷ ts) (o ∷ os) = IsModule e t o × AreModules es ts os
  AreModules _ _ _ = ⊥

  -- the system is accepted: its text, in which no object stands, since one has no source meaning; its ticks; each of its modules; and it
  -- passes all tests of the verdict
  pub record Accepts (g : Go) (a : System) : Type 0 where
    pub system : HasSystem files false g.system a.parts
    pub ticks : HasTicks files g.ticks a.gaps
    pub modules : AreModules a.parts.entries a.trees a.objects
    pub known : Judged
    pub judged : IsJudged a.objects a.parts.tasks known
    pub tasks : AreTasksOf a.objects a.parts.tasks a.tasks

  -- the first refusal
  pub data Refuses (g : Go) : FaultLine → Type 0 where
    in_text : {f : FaultLine} → RefusesSystem files false g.system f → Refuses g f
    in_ticks : {s : SystemParts} {f : FaultLine} → HasSystem files false g.system s → RefusesTicks files g.ticks f → Refuses g f
    in_module : {s : SystemParts} {gaps : List ℕ} {f : FaultLine} → HasSystem files false g.system s → HasTicks files g.ticks gaps → RefusesEntries files s.entries f → Refuses g f
    in_verdict : {s : SystemParts} {gaps : List ℕ} {objects : List ObjectParts} {f : FaultLine} → HasSystem files false g.system s → HasTicks files g.ticks gaps → HaveEntries files s.entries objects → RefusesVerdict s objects f → Refuses g f

  -- the file of this name is read in its turn, those before it being accepted
  pub data IsInTurn (g : Go) : List ℕ → Type 0 where
    text : IsInTurn g g.system
    ticks : {s : SystemParts} → HasSystem files false g.system s → IsInTurn g g.ticks
    line : {s : SystemParts} {gaps file : List ℕ} → HasSystem files false g.system s → HasTicks files g.ticks gaps → IsReadAmong files s.entries file → IsInTurn g file
