-- What is known while the bricks of a system are walked, by module and declaration.
use Rattle.std.specs.Prelude.{◌≡◌, ℕ, suc, Bool, true, false, ◌&&◌, not, is_some, List, Option, Some, None, option_map, length}
use Rattle.std.specs.BTreeMap.{BTreeMap, get_by}
use Rattle.std.specs.Cmp.Lexicographic.{slice_cmp}
use Rattle.std.specs.Ordering.{nat_cmp}
use denote.Ref.{Bor}
use Rattle.rt_object.specs.declared.object.Brick.{Brick}
use Rattle.rt_object.specs.declared.object.BrickKind.{BrickKind}
use Rattle.rt_object.specs.declared.object.BrickKind.TheVariants as kind
use Rattle.rt_modes.specs.Bricks.{number_of, name_of, text_of, is_of, supplied_by}
use Rattle.rt_modes.specs.declared.supplied.Supplied.{Supplied}
use Rattle.rt_match.specs.declared.bindings.Bound.{Bound}
use Rattle.rt_match.specs.declared.bindings.Bound.TheVariants as bound
use Rattle.rt_match.specs.declared.entries.Entry.{Entry}
use Rattle.rt_match.specs.Matching.{Signature, System, module_of, Before, IsEntry, Duplicates, Lacks, Differs, IsUnsupplied, Never, AsksFor, AreAlike, IsBound, Correspond, supplied_signature}

-- ---- the map of names

-- a map from names to ENT bricks
abbrev pub Names : Type 0
Names = BTreeMap (Bor (List ℕ)) Entry

-- the ENT brick that the map has for a name
abbrev pub entry_in : Names → List ℕ → Option Entry
entry_in map name = get_by (λ k. slice_cmp nat_cmp name k.now) map

module _ (sys : System) where
  -- no brick before brick b of module m is a case of a test
  abbrev pub Clear : (ℕ → ℕ → Signature → Type 0) → ℕ → ℕ → Type 0
  Clear Case m b = (n c : ℕ) (t : Signature) → Before n c m b → Case n c t → ⊥

  -- an ENT brick of a name
  abbrev pub IsNamed : List ℕ → ℕ → ℕ → Signature → Type 0
  IsNamed name n c t = IsEntry sys n c t × (t.name ≡ name)

  -- the map has an ENT brick of a name that stands before brick b of module m
  pub record IsNoted (e : Entry) (name : List ℕ) (m b : ℕ) : Type 0 where
    pub signature : Signature
    pub is : IsEntry sys e.module e.brick signature
    pub named : signature.name ≡ name
    pub before : Before e.module e.brick m b

  -- the map has just the ENT bricks that stand before brick b of module m, of which no two have one name
  pub record Noted (map : Names) (m b : ℕ) : Type 0 where
    pub found : (name : List ℕ) (e : Entry) → entry_in map name ≡ Some e → IsNoted e name m b
    pub none : (name : List ℕ) → entry_in map name ≡ None → Clear (IsNamed name) m b
    pub clear : Clear (Duplicates sys) m b

  -- the map has just the ENT bricks of the system, of which no two have one name
  abbrev pub Known : Names → Type 0
  Known map = Noted map (suc (length sys)) 0

-- ---- what is tested of a brick of an object

abbrev pub is_ent : BrickKind → Bool
is_ent (kind.Ent c) = true
is_ent _ = false

abbrev pub is_ext : BrickKind → Bool
is_ext (kind.Ext e) = true
is_ext _ = false

-- an EXT brick for which the map has none
abbrev pub is_missing : Names → Brick → Bool
is_missing map b = is_ext b.kind && not (is_some (entry_in map b.name))

abbrev pub bound_by : BrickKind → Names → List ℕ → Option Bound
bound_by (kind.Own c) map name = Some bound.Own
bound_by (kind.Ent c) map name = Some bound.Own
bound_by (kind.Ext e) map name = option_map (λ f. bound.Brick f.module f.brick) (entry_in map name)
bound_by (kind.Svc s) map name = option_map (λ b. bound.Supplied (number_of b)) (supplied_by name)

-- to what a brick is bound, as far as it is known
abbrev pub binding : Names → Brick → Option Bound
binding map b = bound_by b.kind map b.name

-- ---- what is found of a brick that asks for another

-- what was made of comparing s with e: nothing where they are alike, else e's full mode
abbrev pub Compared : Signature → Signature → Option (List ℕ) → Type 0
Compared s e None = AreAlike s e
Compared s e (Some text) = (AreAlike s e → ⊥) × (text ≡ e.mode)

-- s asks for e, from which it differs, and this is e's full mode
pub record IsUnlike (sys : System) (s : Signature) (text : List ℕ) : Type 0 where
  pub other : Signature
  pub to : Bound
  pub asks : AsksFor sys s other to
  pub differ : AreAlike s other → ⊥
  pub its : text ≡ other.mode

-- all for which s asks is like it
abbrev pub IsAlike : System → Signature → Type 0
IsAlike sys s = (e : Signature) (to : Bound) → AsksFor sys s e to → AreAlike s e

-- a supplied brick as others see it
abbrev pub supplied_as : Supplied → Signature
supplied_as s = supplied_signature (number_of s) (is_of (name_of s) (text_of s))

-- no test but the last has a case
pub record Bindable (sys : System) : Type 0 where
  pub entries : Never sys (Lacks sys)
  pub alike : Never sys (Differs sys)

-- these are the bindings of module m, and no brick up to its end isn't supplied
pub record Binds (sys : System) (m : ℕ) (of : List Bound) : Type 0 where
  pub bound : (ss : List Signature) → module_of sys m ≡ Some ss → Correspond (IsBound sys) ss of
  pub clear : Clear sys (IsUnsupplied sys) (suc m) 0
