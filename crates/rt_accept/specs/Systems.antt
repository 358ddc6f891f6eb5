-- The modules of a system, read or compiled in the order of their lines.
use Rattle.std.specs.Prelude.{◌≡◌, ℕ, List, [], ◌∷◌, ◌++◌, codes, true, Option, Some}
use Rattle.rt_compile.specs.declared.fault.CompileFault.{CompileFault}
use Rattle.rt_compile.specs.Texts.{IsObjectOfText, IsFault}
use Rattle.rt_object.specs.declared.object.ObjectParts.{ObjectParts}
use Rattle.rt_outside.specs.Files.{Files}
use Rattle.rt_report.specs.declared.fault.FaultLine.{FaultLine}
use Rattle.rt_system.specs.declared.parts.Entry.{Entry}
use Rattle.rt_system.specs.declared.parts.Entry.TheVariants as entry
use Rattle.rt_system.specs.declared.parts.SystemParts.{SystemParts}
use Rattle.rt_system.specs.Library.{library_text}
use Rattle.rt_accept.specs.Faulting.{IsForItsCode, line_of}
use Rattle.rt_accept.specs.Reading.{HasModule, RefusesModule, HasObject, RefusesObject, HasSystem, RefusesSystem}

-- ---- lines

-- the file that is read for a line; for the library none is
abbrev pub IsFileOf : Entry → List ℕ → Type 0
IsFileOf (entry.Module file) name = name ≡ file
IsFileOf (entry.Object file) name = name ≡ file
IsFileOf entry.Library name = ⊥

-- how the file of the library is printed
abbrev pub library_name : List ℕ
library_name = codes "LIBRARY"

-- what is compiled of the library's text
abbrev pub IsLibrary : ObjectParts → Type 0
IsLibrary o = IsObjectOfText library_text o

-- the library's text has a fault with this line
pub record RefusesLibrary (f : FaultLine) : Type 0 where
  pub why : CompileFault
  pub fault : IsFault library_text why
  pub code : IsForItsCode library_text why
  pub line : line_of library_name why ≡ Some f

module _ (files : Option Files) where
  -- the object that a line stands for
  abbrev pub HasEntry : Entry → ObjectParts → Type 0
  HasEntry (entry.Module file) o = HasModule files file o
  HasEntry (entry.Object file) o = HasObject files file o
  HasEntry entry.Library o = IsLibrary o

  abbrev pub RefusesEntry : Entry → FaultLine → Type 0
  RefusesEntry (entry.Module file) f = RefusesModule files file f
  RefusesEntry (entry.Object file) f = RefusesObject files file f
  RefusesEntry entry.Library f = RefusesLibrary f

  -- ---- lines in their order

  -- these are the objects of the lines: one of each, in their order
  abbrev pub HaveEntries : List Entry → List ObjectParts → Type 0
  HaveEntries [] [] = Unit {0}
  HaveEntries [] (o ∷ os) = ⊥
  HaveEntries (e ∷ es) [] = ⊥
  HaveEntries (e ∷ es) (o ∷ os) = HasEntry e o × HaveEntries es os

  -- it is the turn of line e: it stands among the lines, and all before it have objects
  pub record IsTurnOf (entries : List Entry) (e : Entry) : Type 0 where
    pub before : List Entry
    pub after : List Entry
    pub lines : entries ≡ before ++ e ∷ after
    pub objects : List ObjectParts
    pub have : HaveEntries before objects

  -- the first line that isn't accepted is refused by this fault
  pub record RefusesEntries (entries : List Entry) (f : FaultLine) : Type 0 where
    pub entry : Entry
    pub turn : IsTurnOf entries entry
    pub refused : RefusesEntry entry f

  -- the file of this name is read for a line in its turn
  pub record IsReadAmong (entries : List Entry) (name : List ℕ) : Type 0 where
    pub entry : Entry
    pub turn : IsTurnOf entries entry
    pub file : IsFileOf entry name

  -- the object of a line was added behind the others
  pub record IsAdded (e : Entry) (old new : List ObjectParts) : Type 0 where
    pub object : ObjectParts
    pub has : HasEntry e object
    pub all : new ≡ old ++ object ∷ []

-- ---- whole systems

module _ (files : Option Files) (name : List ℕ) where
  -- what is read of a system: its text, and the objects of its lines
  pub record HasModules (s : SystemParts) (objects : List ObjectParts) : Type 0 where
    pub has_system : HasSystem files true name s
    pub have : HaveEntries files s.entries objects

  -- the text of the system is refused, or the first of its lines that isn't accepted
  pub data RefusesModules : FaultLine → Type 0 where
    in_text : {f : FaultLine} → RefusesSystem files true name f → RefusesModules f
    in_line : {s : SystemParts} {f : FaultLine} → HasSystem files true name s → RefusesEntries files s.entries f → RefusesModules f

  -- a file that is read in its turn: the text, and where it is a system the files of its lines
  pub data IsInTurn : List ℕ → Type 0 where
    text : IsInTurn name
    line : {s : SystemParts} {file : List ℕ} → HasSystem files true name s → IsReadAmong files s.entries file → IsInTurn file
