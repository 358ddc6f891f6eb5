-- What a file that is read is taken for, and why one isn't.
use Rattle.std.specs.Prelude.{◌≡◌, ℕ, ◌≤◌, Bool, List, length, Option, Some}
use Rattle.rt_compile.specs.declared.fault.CompileFault.{CompileFault}
use Rattle.rt_compile.specs.Texts.{IsObjectOfText, IsFault}
use Rattle.rt_image.specs.declared.image.ImageParts.{ImageParts}
use Rattle.rt_image.specs.Grammar.{IsImage, IsNoImage}
use Rattle.rt_object.specs.declared.object.ObjectParts.{ObjectParts}
use Rattle.rt_object.specs.Grammar.{IsObject, IsNoObject, IsOfVersion}
use Rattle.rt_outside.specs.declared.store.StoreError.{StoreError}
use Rattle.rt_outside.specs.declared.store.StoreError.TheVariants as error
use Rattle.rt_outside.specs.Files.{Files, WhereTold, IsTold, Has, Lacks, HasTooLong, longest}
use Rattle.rt_report.specs.declared.fault.FaultLine.{FaultLine}
use Rattle.rt_report.specs.declared.fault.FaultLine.TheVariants as fault
use Rattle.rt_report.specs.declared.fault.FileKind.{FileKind}
use Rattle.rt_report.specs.declared.fault.FileKind.TheVariants as kind
use Rattle.rt_system.specs.declared.parts.SystemParts.{SystemParts}
use Rattle.rt_system.specs.Systems.{IsSystem, IsBadSystemLine, IsObjectLine}
use Rattle.rt_system.specs.Ticks.{IsTicks, IsBadTickLine}
use Rattle.rt_words.specs.Causes.{Rose}
use Rattle.rt_accept.specs.Faulting.{IsForItsCode, line_of}
use Rattle.rt_accept.specs.declared.reading.Unaccepted.{Unaccepted}
use Rattle.rt_accept.specs.declared.reading.Unaccepted.TheVariants.{Memory, Refused, Failed}

module _ (files : Option Files) where
  -- the name's file has these bytes, where the files are told, and they are few enough to be read
  pub record IsFile (name bytes : List ℕ) : Type 0 where
    pub has : WhereTold files (Has name bytes)
    pub short : length bytes ≤ longest

  -- a file isn't there, or is too long to be read as this
  pub data IsNoFile (k : FileKind) (name : List ℕ) : FaultLine → Type 0 where
    missing : IsTold files (Lacks name) → IsNoFile k name (fault.Unread name)
    too_long : WhereTold files (HasTooLong name) → IsNoFile k name (fault.TooLong k name)

  -- ---- images

  pub record HasImage (name : List ℕ) (image : ImageParts) : Type 0 where
    pub bytes : List ℕ
    pub file : IsFile name bytes
    pub is_image : IsImage bytes image

  pub data RefusesImage (name : List ℕ) : FaultLine → Type 0 where
    no_file : {f : FaultLine} → IsNoFile kind.Image name f → RefusesImage name f
    no_image : {bytes : List ℕ} {at : ℕ} → IsFile name bytes → IsNoImage bytes at → RefusesImage name (fault.BadImage name at)

  -- ---- objects

  pub record HasObject (name : List ℕ) (object : ObjectParts) : Type 0 where
    pub bytes : List ℕ
    pub file : IsFile name bytes
    pub is_object : IsObject bytes object

  pub data RefusesObject (name : List ℕ) : FaultLine → Type 0 where
    no_file : {f : FaultLine} → IsNoFile kind.Object name f → RefusesObject name f
    no_object : {bytes : List ℕ} {at : ℕ} → IsFile name bytes → IsNoObject bytes at → RefusesObject name (fault.BadObject name at)
    other_version : {bytes : List ℕ} {v : ℕ} → IsFile name bytes → IsOfVersion bytes v → RefusesObject name (fault.ObjectVersion name v)

  -- ---- modules

  -- a file is the text of a module that has this object
  pub record HasModule (name : List ℕ) (object : ObjectParts) : Type 0 where
    pub bytes : List ℕ
    pub file : IsFile name bytes
    pub compiled : IsObjectOfText bytes object

  pub data RefusesModule (name : List ℕ) : FaultLine → Type 0 where
    no_file : {f : FaultLine} → IsNoFile kind.Module name f → RefusesModule name f
    no_module : {bytes : List ℕ} {f : FaultLine} (why : CompileFault) → IsFile name bytes → IsFault bytes why → IsForItsCode bytes why → line_of name why ≡ Some f → RefusesModule name f

  -- ---- system texts, in which OBJECT lines are taken or refused

  pub record HasSystem (objects : Bool) (name : List ℕ) (s : SystemParts) : Type 0 where
    pub bytes : List ℕ
    pub file : IsFile name bytes
    pub is_system : IsSystem objects bytes s

  pub data RefusesSystem (objects : Bool) (name : List ℕ) : FaultLine → Type 0 where
    no_file : {f : FaultLine} → IsNoFile kind.Lines name f → RefusesSystem objects name f
    bad_line : {bytes : List ℕ} {n : ℕ} → IsFile name bytes → IsBadSystemLine objects bytes n → RefusesSystem objects name (fault.BadLine name n)
    object_line : {bytes : List ℕ} {n : ℕ} → IsFile name bytes → IsObjectLine objects bytes n → RefusesSystem objects name (fault.ObjectLine name n)

  -- ---- tick texts

  pub record HasTicks (name gaps : List ℕ) : Type 0 where
    pub bytes : List ℕ
    pub file : IsFile name bytes
    pub are_ticks : IsTicks bytes gaps

  pub data RefusesTicks (name : List ℕ) : FaultLine → Type 0 where
    no_file : {f : FaultLine} → IsNoFile kind.Lines name f → RefusesTicks name f
    bad_line : {bytes : List ℕ} {n : ℕ} → IsFile name bytes → IsBadTickLine bytes n → RefusesTicks name (fault.BadLine name n)

-- why a file isn't accepted: by a fault that refuses it, or since its own read failed, which its count shows
abbrev pub IsUnaccepted : (FaultLine → Type 0) → List ℕ → (List ℕ → ℕ) → (List ℕ → ℕ) → Unaccepted → Type 0
IsUnaccepted Refuses name reads reads_after Memory = Unit {0}
IsUnaccepted Refuses name reads reads_after (Refused f) = Refuses f
IsUnaccepted Refuses name reads reads_after (Failed f) = (f ≡ fault.Unread name) × Rose (reads name) (reads_after name)

-- the same of several files: by a fault that refuses one, or since the read of one failed in its turn
abbrev pub IsDeclined : (List ℕ → Type 0) → (FaultLine → Type 0) → (List ℕ → ℕ) → (List ℕ → ℕ) → Unaccepted → Type 0
IsDeclined IsInTurn Refuses reads reads_after Memory = Unit {0}
IsDeclined IsInTurn Refuses reads reads_after (Refused f) = Refuses f
IsDeclined IsInTurn Refuses reads reads_after (Failed f) = (name : List ℕ) × (f ≡ fault.Unread name) × IsInTurn name × Rose (reads name) (reads_after name)

-- this fault, unless memory was wanted
abbrev pub IsRefusedBy : FaultLine → Unaccepted → Type 0
IsRefusedBy f Memory = Unit {0}
IsRefusedBy f (Refused g) = g ≡ f
IsRefusedBy f (Failed g) = ⊥

abbrev pub HasFailedBy : FaultLine → Unaccepted → Type 0
HasFailedBy f Memory = Unit {0}
HasFailedBy f (Refused g) = ⊥
HasFailedBy f (Failed g) = g ≡ f

-- what is made of an error of the store
abbrev pub IsUnread : FileKind → List ℕ → StoreError → Unaccepted → Type 0
IsUnread k name error.Missing u = IsRefusedBy (fault.Unread name) u
IsUnread k name error.TooLong u = IsRefusedBy (fault.TooLong k name) u
IsUnread k name error.Failed u = HasFailedBy (fault.Unread name) u
IsUnread k name error.Memory u = u ≡ Memory
