-- Which modules match, and to what their bricks are bound. A system is the list of its modules, each of which is here what its
-- bricks say of themselves to others.
use Rattle.std.specs.Prelude.{◌≡◌, ◌⊎◌, ◌<◌, ℕ, zero, suc, nat_le, if◌then◌else◌, List, [], ◌∷◌, Option, Some, None, option_map, slice_get}
use Rattle.rt_modes.specs.Bricks.{SuppliedBrick, brick_numbered}
use Rattle.rt_match.specs.declared.bindings.Bound.{Bound}
use Rattle.rt_match.specs.declared.bindings.Bound.TheVariants as bound
use Rattle.rt_match.specs.declared.fault.MatchFault.{MatchFault}
use Rattle.rt_match.specs.declared.fault.MatchFault.TheVariants as fault

-- whose a brick is
pub data Kind : Type 0 where
  Own : Kind
  Ent : Kind
  Ext : Kind
  Svc : Kind

pub data Sort : Type 0 where
  Proc : Sort
  Data : Sort
  Stack : Sort

-- what a brick says of itself: its full mode is a text
pub record Signature : Type 0 where
  pub kind : Kind
  pub sort : Sort
  pub name : List ℕ
  pub mode : List ℕ

abbrev pub System : Type 0
System = List (List Signature)

-- modules count from 1
abbrev pub module_of : System → ℕ → Option (List Signature)
module_of sys zero = None
module_of sys (suc m) = slice_get sys m

-- Two bricks have the same sort and full mode.
pub record AreAlike (s e : Signature) : Type 0 where
  pub sort : s.sort ≡ e.sort
  pub mode : s.mode ≡ e.mode

-- ---- what is supplied

-- the procedures have the numbers up to 10
abbrev pub supplied_sort : ℕ → Sort
supplied_sort k = if nat_le k 10 then Proc else Data

-- a supplied brick, as if it were an ENT brick of the supervisor
abbrev pub supplied_signature : ℕ → SuppliedBrick → Signature
supplied_signature k b = record { kind = Ent; sort = supplied_sort k; name = b.name; mode = b.text }

-- e is what is supplied by the number k
abbrev pub IsSupplied : ℕ → Signature → Type 0
IsSupplied k e = option_map (supplied_signature k) (brick_numbered k) ≡ Some e

-- ---- bricks by module and declaration

-- brick b of module n stands before brick c of module m: by module, and in a module by declaration
abbrev pub Before : ℕ → ℕ → ℕ → ℕ → Type 0
Before n b m c = (n < m) ⊎ ((n ≡ m) × (b < c))

module _ (sys : System) where
  -- s is brick b of module m
  pub record HasBrick (m b : ℕ) (s : Signature) : Type 0 where
    pub bricks : List Signature
    pub of : module_of sys m ≡ Some bricks
    pub at : slice_get bricks b ≡ Some s

  -- e is brick b of module m, an ENT brick
  pub record IsEntry (m b : ℕ) (e : Signature) : Type 0 where
    pub is : HasBrick m b e
    pub kind : e.kind ≡ Ent

  -- s asks for e, to which it is bound so: an EXT brick asks for an ENT brick of its name, an SVC brick for the supplied brick
  -- of its name.
  pub data AsksFor (s : Signature) : Signature → Bound → Type 0 where
    entry : {n c : ℕ} {e : Signature} → s.kind ≡ Ext → IsEntry n c e → e.name ≡ s.name → AsksFor s e (bound.Brick n c)
    supplied : {k : ℕ} {e : Signature} → s.kind ≡ Svc → IsSupplied k e → e.name ≡ s.name → AsksFor s e (bound.Supplied k)

  -- nothing is there for which s asks
  abbrev pub AsksInVain : Signature → Type 0
  AsksInVain s = (e : Signature) (to : Bound) → AsksFor s e to → ⊥

  -- ---- the four tests, of brick b of module m, which is s

  -- an ENT brick whose name an earlier ENT brick has
  pub record Duplicates (m b : ℕ) (s : Signature) : Type 0 where
    pub second : IsEntry m b s
    pub earlier : (n c : ℕ) × (e : Signature) × IsEntry n c e × Before n c m b × (e.name ≡ s.name)

  -- an EXT brick whose name no ENT brick has
  pub record Lacks (m b : ℕ) (s : Signature) : Type 0 where
    pub is : HasBrick m b s
    pub kind : s.kind ≡ Ext
    pub in_vain : AsksInVain s

  -- a brick that asks for e, from which it differs in sort or full mode
  pub record DiffersFrom (m b : ℕ) (s e : Signature) : Type 0 where
    pub is : HasBrick m b s
    pub to : Bound
    pub asks : AsksFor s e to
    pub differ : AreAlike s e → ⊥

  abbrev pub Differs : ℕ → ℕ → Signature → Type 0
  Differs m b s = (e : Signature) × DiffersFrom m b s e

  -- an SVC brick whose name isn't supplied
  pub record IsUnsupplied (m b : ℕ) (s : Signature) : Type 0 where
    pub is : HasBrick m b s
    pub kind : s.kind ≡ Svc
    pub in_vain : AsksInVain s

  -- ---- the verdict

  -- no brick is a case of a test
  abbrev pub Never : (ℕ → ℕ → Signature → Type 0) → Type 0
  Never Case = (m b : ℕ) (s : Signature) → Case m b s → ⊥

  -- brick b of module m is the first case of a test
  pub record IsFirst (Case : ℕ → ℕ → Signature → Type 0) (m b : ℕ) (s : Signature) : Type 0 where
    pub is : Case m b s
    pub first : (n c : ℕ) (t : Signature) → Before n c m b → Case n c t → ⊥

  -- the first case of a test is a brick of this module and name
  pub record FirstIn (Case : ℕ → ℕ → Signature → Type 0) (m : ℕ) (name : List ℕ) : Type 0 where
    pub brick : ℕ
    pub signature : Signature
    pub first : IsFirst Case m brick signature
    pub named : name ≡ signature.name

  -- the same of a brick that differs, with its full mode and that of what was found
  pub record FirstDiffering (m : ℕ) (name wanted found : List ℕ) : Type 0 where
    pub brick : ℕ
    pub signature : Signature
    pub first : IsFirst Differs m brick signature
    pub named : name ≡ signature.name
    pub own : wanted ≡ signature.mode
    pub other : Signature
    pub from : DiffersFrom m brick signature other
    pub its : found ≡ other.mode

  -- the tests in their order: a fault is the first case of the first test that has one
  abbrev pub Fails : MatchFault → Type 0
  Fails fault.Memory = Unit {0}
  Fails (fault.Duplicate name) = (m : ℕ) × FirstIn Duplicates m name
  Fails (fault.Missing m name) = Never Duplicates × FirstIn Lacks m name
  Fails (fault.Mismatch m name wanted found) = Never Duplicates × Never Lacks × FirstDiffering m name wanted found
  Fails (fault.NotSupplied m name) = Never Duplicates × Never Lacks × Never Differs × FirstIn IsUnsupplied m name

  -- no test has a case
  pub record Match : Type 0 where
    pub one_entry : Never Duplicates
    pub entries : Never Lacks
    pub alike : Never Differs
    pub supplied : Never IsUnsupplied

  -- ---- the bindings

  -- s is bound so: an own or ENT brick to itself, each other one to that for which it asks
  pub data IsBound (s : Signature) : Bound → Type 0 where
    own : s.kind ≡ Own → IsBound s bound.Own
    ent : s.kind ≡ Ent → IsBound s bound.Own
    asks : {e : Signature} {to : Bound} → AsksFor s e to → IsBound s to

-- two lists of one length, whose elements are related, each to that at its place
pub data Correspond {A B : Type 0} (R : A → B → Type 0) : List A → List B → Type 0 where
  none : Correspond R [] []
  one : {x : A} {y : B} {xs : List A} {ys : List B} → R x y → Correspond R xs ys → Correspond R (x ∷ xs) (y ∷ ys)

-- the bindings of all bricks
abbrev pub AreBound : System → List (List Bound) → Type 0
AreBound sys of = Correspond (Correspond (IsBound sys)) sys of
