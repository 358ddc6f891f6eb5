-- Laws of matching, which the definitions alone give.
use Rattle.std.specs.Prelude.{◌≡◌, ℕ, zero, suc, List, Option, Some, None, slice_get}
use Rattle.std.specs.List.{AllByRecursion}
use Rattle.rt_object.specs.declared.object.ObjectParts.{ObjectParts}
use Rattle.rt_object.specs.Ranges.{HasObjectRanges}
use Rattle.rt_match.specs.Matching.{Signature, System, HasBrick, IsEntry, IsSupplied, AreAlike, Ext, Svc, Match, Fails, IsBound, AreBound}
use Rattle.rt_match.specs.Signatures.{system_of}
use Rattle.rt_match.specs.declared.bindings.Bound.{Bound}
use Rattle.rt_match.specs.declared.bindings.Bound.TheVariants as bound
use Rattle.rt_match.specs.declared.fault.MatchFault.{MatchFault}
use Rattle.rt_match.specs.declared.fault.MatchFault.TheVariants as fault

abbrev pub at_place : {A : Type 0} → Option (List A) → ℕ → Option A
at_place None b = None
at_place (Some xs) b = slice_get xs b

-- the binding of brick b of module m
abbrev pub binding_of : List (List Bound) → ℕ → ℕ → Option Bound
binding_of of zero b = None
binding_of of (suc m) b = at_place (slice_get of m) b

-- Each brick has a binding.
abbrev pub AllHaveOne : Type 0
AllHaveOne = (sys : System) (of : List (List Bound)) (m b : ℕ) (s : Signature) → AreBound sys of → HasBrick sys m b s → (to : Bound) × (binding_of of m b ≡ Some to) × IsBound sys s to

-- Where modules match, an EXT brick is bound to an ENT brick of its name, sort and full mode.
abbrev pub ExtsAreEntries : Type 0
ExtsAreEntries = (sys : System) (of : List (List Bound)) (m b : ℕ) (s : Signature) → Match sys → AreBound sys of → HasBrick sys m b s → s.kind ≡ Ext
    → (n c : ℕ) × (e : Signature) × (binding_of of m b ≡ Some (bound.Brick n c)) × IsEntry sys n c e × (e.name ≡ s.name) × AreAlike s e

-- Where modules match, an SVC brick is bound to what is supplied by its name, of its sort and full mode.
abbrev pub SvcsAreSupplied : Type 0
SvcsAreSupplied = (sys : System) (of : List (List Bound)) (m b : ℕ) (s : Signature) → Match sys → AreBound sys of → HasBrick sys m b s → s.kind ≡ Svc
    → (k : ℕ) × (e : Signature) × (binding_of of m b ≡ Some (bound.Supplied k)) × IsSupplied k e × (e.name ≡ s.name) × AreAlike s e

-- What a binding names is there, and is an ENT brick: none leads to an EXT or SVC brick.
abbrev pub LeadToEntries : Type 0
LeadToEntries = (sys : System) (of : List (List Bound)) (m b n c : ℕ) → AreBound sys of → binding_of of m b ≡ Some (bound.Brick n c) → (e : Signature) × IsEntry sys n c e

-- Where modules match there is one table of bindings.
abbrev pub HaveOneTable : Type 0
HaveOneTable = (sys : System) (of other : List (List Bound)) → Match sys → AreBound sys of → AreBound sys other → of ≡ other

-- ---- the verdict is one

-- a fault of the modules
abbrev pub IsRefusal : MatchFault → Type 0
IsRefusal fault.Memory = ⊥
IsRefusal _ = Unit {0}

-- Modules that match have no fault.
abbrev pub NeverBoth : Type 0
NeverBoth = (sys : System) (f : MatchFault) → Match sys → IsRefusal f → Fails sys f → ⊥

-- Modules have at most one fault.
abbrev pub HaveOneFault : Type 0
HaveOneFault = (sys : System) (f g : MatchFault) → IsRefusal f → IsRefusal g → Fails sys f → Fails sys g → f ≡ g

-- The fault of a brick of objects that differs shows two texts that differ.
abbrev pub DifferencesShow : Type 0
DifferencesShow = (objects : List ObjectParts) (m : ℕ) (name wanted found : List ℕ) → AllByRecursion HasObjectRanges objects → Fails (system_of objects) (fault.Mismatch m name wanted found) → wanted ≡ found → ⊥
