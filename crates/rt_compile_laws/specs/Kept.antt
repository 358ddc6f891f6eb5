-- What an object keeps of its ranges: all but names, modes, records, points, and the values of words and offsets.
use Rattle.std.specs.Prelude.{◌≡◌, ℕ, ◌*◌, ◌<◌, ◌≤◌, List, length, map, Some, slice_get}
use Rattle.std.specs.List.{AllByRecursion}
use Rattle.rt_object.specs.declared.object.Brick.{Brick}
use Rattle.rt_object.specs.declared.object.BrickKind.{BrickKind}
use Rattle.rt_object.specs.declared.object.BrickKind.TheVariants.{Own, Ent}
use Rattle.rt_object.specs.declared.object.Content.{Content}
use Rattle.rt_object.specs.declared.object.Content.TheVariants as content
use Rattle.rt_object.specs.declared.object.DataContent.{DataContent}
use Rattle.rt_object.specs.declared.object.ObjectParts.{ObjectParts}
use Rattle.rt_object.specs.declared.object.ProcContent.{ProcContent}
use Rattle.rt_object.specs.declared.object.Relocation.{Relocation}
use Rattle.rt_object.specs.Ranges.{IsByte, IsCounted, IsNamed, IsWord, Rise}
use Rattle.rt_tree_nodes.specs.declared.brick.ModuleParts.{ModuleParts}
use Rattle.rt_check.specs.Texts.{IsTree}
use Rattle.rt_compile.specs.Objects.{IsObjectOf}

-- an own or ENT brick holds it
abbrev pub Holds : Content → BrickKind → Type 0
Holds c (Own x) = x ≡ c
Holds c (Ent x) = x ≡ c
Holds c _ = ⊥

-- Relocations in a part of so many places, of which each is a multiple of step: no two at one place, each behind the one before it.
pub record AreInPlace (step places : ℕ) (rs : List Relocation) : Type 0 where
  pub rise : Rise (map (λ r. r.place) rs)
  pub inside : AllByRecursion (λ r. (r.place < places) × ((k : ℕ) × (r.place ≡ step * k))) rs

-- A procedure has at most 16,383 words, with a mark for each, and numbers of items, locals and depth that are words.
pub record ProcIsLow (q : ProcContent) : Type 0 where
  pub items : IsWord q.items
  pub locals : IsWord q.locals
  pub deep : IsWord q.deep
  pub words : length q.words ≤ 16383
  pub marks : length q.marks ≡ length q.words
  pub each_mark : AllByRecursion (λ m. m ≤ 2) q.marks
  pub count : IsCounted q.relocations
  pub in_place : AreInPlace 1 (length q.words) q.relocations

-- The addresses in a data brick are in place, and name strings and bricks of the object.
pub record DataIsLow (strings bricks : ℕ) (d : DataContent) : Type 0 where
  pub in_place : AreInPlace 2 (length d.bytes) d.relocations
  pub named : AllByRecursion (λ r. IsNamed strings bricks r.of) d.relocations

-- P holds of the bricks of the object of each text.
abbrev pub OfEachBrick : (ObjectParts → BrickKind → Type 0) → Type 0
OfEachBrick P = (text : List ℕ) (p : ModuleParts) (o : ObjectParts) (k : ℕ) (b : Brick) → IsTree text p → IsObjectOf p o → slice_get o.bricks k ≡ Some b → P o b.kind

abbrev pub ProceduresAreLow : Type 0
ProceduresAreLow = OfEachBrick (λ o kind. (q : ProcContent) → Holds (content.Proc q) kind → ProcIsLow q)

abbrev pub DataAreLow : Type 0
DataAreLow = OfEachBrick (λ o kind. (d : DataContent) → Holds (content.Data d) kind → DataIsLow (length o.strings) (length o.bricks) d)

-- own and ENT stacks have 1 to 28,672 words
abbrev pub StacksAreLow : Type 0
StacksAreLow = OfEachBrick (λ o kind. (n : ℕ) → Holds (content.Stack n) kind → (1 ≤ n) × (n ≤ 28672))

-- strings have at most 8,191 bytes
abbrev pub StringsAreLow : Type 0
StringsAreLow = (text : List ℕ) (p : ModuleParts) (o : ObjectParts) → IsTree text p → IsObjectOf p o → AllByRecursion (λ s. (length s ≤ 8191) × AllByRecursion IsByte s) o.strings
