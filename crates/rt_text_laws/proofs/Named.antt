-- The items of a tree's data bricks have names, and these differ.
use Rattle.std.proofs.Common.{◌≡◌, ◌≢◌, ℕ, ◌+◌, Bool, true, false, List, [], ◌∷◌, ◌++◌, length, map, Option, Some, None, if◌then◌else◌, refl, sym, ap, ◌∙◌, subst}
use Rattle.std.specs.List.{AllByRecursion}
use Rattle.std.specs.Str.{bytes_eq}
use Rattle.rt_pieces.specs.declared.item.Item.{Item}
use Rattle.rt_grammar.specs.declared.at.Ident.{Ident}
use Rattle.rt_bricks.specs.declared.tree.DataItem.{DataItem}
use Rattle.rt_bricks.specs.declared.tree.DataLine.{DataLine}
use Rattle.rt_bricks.specs.declared.tree.Declaration.{Declaration}
use Rattle.rt_bricks.specs.declared.tree.Declaration.TheVariants as declares
use Rattle.rt_bricks.specs.declared.tree.Fields.{Fields}
use Rattle.rt_bricks.specs.declared.tree.Module.{Module}
use Rattle.rt_bricks.specs.Derives.{Derives}
use Rattle.rt_modes.specs.declared.mode.Field.{Field}
use Rattle.rt_tree_nodes.specs.declared.brick.Brick.{Brick}
use Rattle.rt_tree_nodes.specs.declared.brick.BrickSort.{BrickSort}
use Rattle.rt_tree_nodes.specs.declared.brick.BrickSort.TheVariants as brick_sort
use Rattle.rt_check_faults.specs.declared.fault.CheckFault.TheVariants as fault
use Rattle.rt_check_declared.specs.Written.{Names, written}
use Rattle.rt_check_declared.specs.declared.site.Site.TheVariants as site
use Rattle.rt_check_declared.specs.Names.{Named, Known, find, is_there, twice, items_of, idents, fields_names, lines_names, names_in, names_from, names, name_faults, records_in}
use Rattle.rt_check_declared.specs.Names.{bricks_in as brick_count}
use Rattle.rt_check_declared.specs.declared.names.Declared.{Declared}
use Rattle.rt_check_declared.specs.declared.bricks.Heading.{Heading}
use Rattle.rt_check_declared.specs.declared.bricks.Sort.{Sort}
use Rattle.rt_check_declared.specs.declared.bricks.Sort.TheVariants as sort
use Rattle.rt_check_declared.specs.declared.parts.Given.{Given}
use Rattle.rt_check_declared.specs.declared.parts.Given.TheVariants as given
use Rattle.rt_check_declared.specs.declared.parts.Line.{Line}
use Rattle.rt_check_declared.specs.declared.parts.Part.{Part}
use Rattle.rt_check_declared.specs.Bricks.{import_kind, imported_procedure, imported_stack, variable, bricks_in, bricks}
use Rattle.rt_check_declared.specs.Parts.{line_by, part, recovers, imported_line, parts, item_parts}
use Rattle.rt_check_declared.specs.Totals.{with_field, all_fields}
use Rattle.rt_check_module.specs.declared.filling.Filling.{Filling}
use Rattle.rt_check_module.specs.Faults.{in_names}
use Rattle.rt_check_module.specs.Tree.{or_none, sort_by, filled, modes_seen, fillings, tree}
use Rattle.rt_bricks_laws.specs.Spelled.{IsSpelledName, IsSpelled}
use Rattle.rt_bricks_laws.specs.SpelledDeclarations.{IdentSpelled, FieldsSpelled, ItemSpelled, LineSpelled, DeclarationSpelled}
use Rattle.rt_bricks_laws.proofs.AllLists.{no_some, all_joined, all_left, all_mapped, all_get}
use Rattle.rt_bricks_laws.proofs.SpelledDeclarations.{declarations_are_spelled}
use Rattle.rt_check_module_laws.specs.Modules.{IsFaultless}
use Rattle.rt_check_module_laws.proofs.Apart.{IsNot, AreApart, apart_right, one_place}
use Rattle.rt_check_module_laws.proofs.Known.{text_same, find_first, find_next, find_nothing}
use Rattle.rt_check_module_laws.proofs.Records.{nothing_in}
use Rattle.rt_text_laws.specs.Trees.{AreNamed, EachData}

-- ---- names of a module differ

abbrev name_of : Named → List ℕ
name_of m = m.name

found_before : (ks xs : Known) (n : List ℕ) (d : Declared) → find ks n ≡ Some d → find (ks ++ xs) n ≡ Some d
found_before [] xs n d e = no_some d (sym (find_nothing n) ∙ e)
found_before (k ∷ ks) xs n d e = by_test (bytes_eq n k.0) refl (found_before ks xs n d) where
  by_test : (t : Bool) → bytes_eq n k.0 ≡ t → (find ks n ≡ Some d → find (ks ++ xs) n ≡ Some d) → find (k ∷ (ks ++ xs)) n ≡ Some d
  by_test true q go = find_first k (ks ++ xs) n q ∙ sym (find_first k ks n q) ∙ e
  by_test false q go = find_next k (ks ++ xs) n q ∙ go (sym (find_next k ks n q) ∙ e)

found_last : (ks : Known) (n : List ℕ) (d : Declared) → find ks n ≡ None → find (ks ++ (n, d) ∷ []) n ≡ Some d
found_last [] n d e = find_first (n, d) [] n (text_same n n refl)
found_last (k ∷ ks) n d e = by_test (bytes_eq n k.0) refl (found_last ks n d) where
  by_test : (t : Bool) → bytes_eq n k.0 ≡ t → (find ks n ≡ None → find (ks ++ (n, d) ∷ []) n ≡ Some d) → find (k ∷ (ks ++ (n, d) ∷ [])) n ≡ Some d
  by_test true q go = no_some k.1 (sym e ∙ find_first k ks n q)
  by_test false q go = find_next k (ks ++ (n, d) ∷ []) n q ∙ go (sym (find_next k ks n q) ∙ e)

-- the first is new, and the others are no faults behind it
first_new : (known : Known) (m : Named) (ms : List Named) → twice known (m ∷ ms) ≡ [] → (find known m.name ≡ None) × (twice (known ++ (m.name, m.is) ∷ []) ms ≡ [])
unfolding twice
first_new known m ms e = by_find (find known m.name) refl e where
  by_find : (o : Option Declared) → find known m.name ≡ o
      → (if is_there o then fault.DeclaredTwice m.at ∷ twice known ms else twice (if is_there o then known else known ++ (m.name, m.is) ∷ []) ms) ≡ [] → (find known m.name ≡ None) × (twice (known ++ (m.name, m.is) ∷ []) ms ≡ [])
  by_find None q h = (q, h)
  by_find (Some d) q h = absurd cc

none_known : (known : Known) (ms : List Named) (n : List ℕ) (d : Declared) → find known n ≡ Some d → twice known ms ≡ [] → AllByRecursion (IsNot name_of n) ms
none_known known [] n d e h = tt
none_known known (m ∷ ms) n d e h =
    let new = first_new known m ms h in
    ((λ same. no_some d (sym new.0 ∙ ap (find known) same ∙ e)), none_known (known ++ (m.name, m.is) ∷ []) ms n d (found_before known ((m.name, m.is) ∷ []) n d e) new.1)

names_apart : (known : Known) (ms : List Named) → twice known ms ≡ [] → AreApart name_of ms
names_apart known [] h = tt
names_apart known (m ∷ ms) h =
    let new = first_new known m ms h in
    (none_known (known ++ (m.name, m.is) ∷ []) ms m.name m.is (found_last known m.name m.is new.0) new.1, names_apart (known ++ (m.name, m.is) ∷ []) ms new.1)

apart_left : (xs ys : List Named) → AreApart name_of (xs ++ ys) → AreApart name_of xs
apart_left [] ys h = tt
apart_left (x ∷ xs) ys h = (all_left (IsNot name_of x.name) xs ys h.0, apart_left xs ys h.1)

-- ---- the items that a brick declares

abbrev part_name : Part → List ℕ
part_name p = p.name

abbrev PartNamed : Part → Type 0
PartNamed p = IsSpelledName p.name

-- parts have the names of these, one by one
abbrev SameNames : List Named → List Part → Type 0
SameNames [] [] = Unit {0}
SameNames (m ∷ ms) (p ∷ ps) = (m.name ≡ p.name) × SameNames ms ps
SameNames _ _ = ⊥

same_joined : (ms ns : List Named) (ps qs : List Part) → SameNames ms ps → SameNames ns qs → SameNames (ms ++ ns) (ps ++ qs)
same_joined [] ns [] qs h k = k
same_joined (m ∷ ms) ns (p ∷ ps) qs h k = (h.0, same_joined ms ns ps qs h.1 k)
same_joined [] ns (p ∷ ps) qs h k = absurd h
same_joined (m ∷ ms) ns [] qs h k = absurd h

line_same : (b k : ℕ) (l : Line) (ids : List Ident) → SameNames (items_of b k ids) (map (part l) ids)
line_same b k l [] = tt
line_same b k l (i ∷ ids) = (refl, line_same b (k + 1) l ids)

not_parts : (n : List ℕ) (ms : List Named) (ps : List Part) → SameNames ms ps → AllByRecursion (IsNot name_of n) ms → AllByRecursion (IsNot part_name n) ps
not_parts n [] [] h k = tt
not_parts n (m ∷ ms) (p ∷ ps) h k = ((λ e. k.0 (h.0 ∙ e)), not_parts n ms ps h.1 k.1)
not_parts n [] (p ∷ ps) h k = absurd h
not_parts n (m ∷ ms) [] h k = absurd h

parts_apart : (ms : List Named) (ps : List Part) → SameNames ms ps → AreApart name_of ms → AreApart part_name ps
parts_apart [] [] h k = tt
parts_apart (m ∷ ms) (p ∷ ps) h k = (subst (λ (n : List ℕ). AllByRecursion (IsNot part_name n) ps) h.0 (not_parts m.name ms ps h.1 k.0), parts_apart ms ps h.1 k.1)
parts_apart [] (p ∷ ps) h k = absurd h
parts_apart (m ∷ ms) [] h k = absurd h

parts_named : (l : Line) (ids : List Ident) → AllByRecursion IdentSpelled ids → AllByRecursion PartNamed (map (part l) ids)
parts_named l [] h = tt
parts_named l (i ∷ ids) h = (h.0, parts_named l ids h.1)

idents_spelled : (is : List DataItem) → AllByRecursion ItemSpelled is → AllByRecursion IdentSpelled (idents is)
idents_spelled [] h = tt
idents_spelled (i ∷ is) h = (h.0, idents_spelled is h.1)

-- ---- bricks as they are declared

-- the items of data are named
abbrev SortNamed : Sort → Type 0
SortNamed (sort.Items ps) = AllByRecursion PartNamed ps × AreApart part_name ps
SortNamed _ = Unit {0}

abbrev HeadingNamed : Heading → Type 0
HeadingNamed h = SortNamed h.sort

module _ (seen : Names) where
  items_same : (b k : ℕ) (ls : List DataLine) → SameNames (lines_names b k ls) (item_parts seen ls)
  items_same b k [] = tt
  items_same b k (l ∷ ls) =
      let read : Line = line_by (written seen l.mode site.Item) in
      same_joined (items_of b k (idents l.items)) (lines_names b (k + length l.items) ls) (map (part read) (idents l.items)) (item_parts seen ls) (line_same b k read (idents l.items)) (items_same b (k + length l.items) ls)

  fields_same : (b k : ℕ) (erl : Bool) (gs : List Fields) → SameNames (fields_names b k gs) (parts seen erl gs)
  fields_same b k erl [] = tt
  fields_same b k erl (g ∷ gs) =
      let read : Line = imported_line seen erl g in
      same_joined (items_of b k g.names) (fields_names b (k + length g.names) gs) (map (part read) g.names) (parts seen erl gs) (line_same b k read g.names) (fields_same b (k + length g.names) erl gs)

  items_named : (ls : List DataLine) → AllByRecursion LineSpelled ls → AllByRecursion PartNamed (item_parts seen ls)
  items_named [] h = tt
  items_named (l ∷ ls) h =
      let read : Line = line_by (written seen l.mode site.Item) in
      all_joined PartNamed (map (part read) (idents l.items)) (item_parts seen ls) (parts_named read (idents l.items) (idents_spelled l.items h.0)) (items_named ls h.1)

  imported_named : (erl : Bool) (gs : List Fields) → AllByRecursion FieldsSpelled gs → AllByRecursion PartNamed (parts seen erl gs)
  imported_named erl [] h = tt
  imported_named erl (g ∷ gs) h =
      let read : Line = imported_line seen erl g in
      all_joined PartNamed (map (part read) g.names) (parts seen erl gs) (parts_named read g.names h.0) (imported_named erl gs h.1)

  -- a declaration behind so many records and bricks
  one_named : (r b : ℕ) (d : Declaration) → DeclarationSpelled d → AreApart name_of (names_in r b d) → AllByRecursion HeadingNamed (bricks_in seen d)
  one_named r b (declares.Record x) h a = tt
  one_named r b (declares.Data d) h a = ((items_named d.lines h, parts_apart (lines_names b 0 d.lines) (item_parts seen d.lines) (items_same b 0 d.lines) a.1), tt)
  one_named r b (declares.Stack s) h a = (tt, tt)
  one_named r b (declares.Procedure p) h a = (tt, tt)
  one_named r b (declares.ImportedProcedures p) h a = all_mapped HeadingNamed (imported_procedure (import_kind p.import) (variable seen p.mode)) p.names (λ i. tt)
  one_named r b (declares.ImportedData d) h a =
      let erl : Bool = recovers d.import d.name.name in
      ((imported_named erl d.lines h, parts_apart (fields_names b 0 d.lines) (parts seen erl d.lines) (fields_same b 0 erl d.lines) a.1), tt)
  one_named r b (declares.ImportedStacks s) h a = all_mapped HeadingNamed imported_stack s.names (λ i. tt)

  headings_named : (r b : ℕ) (ds : List Declaration) → AllByRecursion DeclarationSpelled ds → AreApart name_of (names_from r b ds) → AllByRecursion HeadingNamed (bricks seen ds)
  headings_named r b [] h a = tt
  headings_named r b (d ∷ ds) h a =
      let more : List Named = names_from (r + records_in d) (b + brick_count d) ds in
      all_joined HeadingNamed (bricks_in seen d) (bricks seen ds) (one_named r b d h.0 (apart_left (names_in r b d) more a)) (headings_named (r + records_in d) (b + brick_count d) ds h.1 (apart_right name_of (names_in r b d) more a))

-- ---- bricks of the tree

abbrev field_name : Field → List ℕ
field_name f = f.name

record FieldsNamed (fs : List Field) : Type 0 where
  names : AllByRecursion (λ f. IsSpelledName f.name) fs
  apart : AreApart field_name fs

no_fields : FieldsNamed []
no_fields = record { names = tt; apart = tt }

-- where the modes of all are known, they are those of the parts
with_one : (p : Part) (ps : List Part) (g : Given) (o : Option (List Field)) → (AllByRecursion PartNamed ps → FieldsNamed (or_none o)) → ((n : List ℕ) → AllByRecursion (IsNot part_name n) ps → AllByRecursion (IsNot field_name n) (or_none o))
    → IsSpelledName p.name → AllByRecursion PartNamed ps → AllByRecursion (IsNot part_name p.name) ps → FieldsNamed (or_none (with_field p.name g o))
with_one p ps given.Unknown o go apart h k a = no_fields
with_one p ps (given.Mode m) None go apart h k a = no_fields
with_one p ps (given.Mode m) (Some fs) go apart h k a = let z = go k in record { names = (h, z.names); apart = (apart p.name a, z.apart) }

not_with : (n : List ℕ) (p : Part) (g : Given) (o : Option (List Field)) → p.name ≢ n → AllByRecursion (IsNot field_name n) (or_none o) → AllByRecursion (IsNot field_name n) (or_none (with_field p.name g o))
not_with n p given.Unknown o h k = tt
not_with n p (given.Mode m) None h k = tt
not_with n p (given.Mode m) (Some fs) h k = (h, k)

not_fields : (ps : List Part) (n : List ℕ) → AllByRecursion (IsNot part_name n) ps → AllByRecursion (IsNot field_name n) (or_none (all_fields ps))
not_fields [] n h = tt
not_fields (p ∷ ps) n h = not_with n p p.has (all_fields ps) h.0 (not_fields ps n h.1)

all_named : (ps : List Part) → AllByRecursion PartNamed ps → AreApart part_name ps → FieldsNamed (or_none (all_fields ps))
all_named [] h a = no_fields
all_named (p ∷ ps) h a = with_one p ps p.has (all_fields ps) (λ k. all_named ps k a.1) (not_fields ps) h.0 h.1 a.0

abbrev DataNamed : BrickSort → Type 0
DataNamed (brick_sort.Data fs ss) = FieldsNamed fs
DataNamed _ = Unit {0}

abbrev BrickNamed : Brick → Type 0
BrickNamed b = DataNamed b.sort

sort_named : (x : Sort) (f : Filling) → SortNamed x → DataNamed (sort_by x f)
sort_named (sort.Procedure (given.Mode m)) f h = tt
sort_named (sort.Procedure given.Unknown) f h = tt
sort_named (sort.Items ps) f h = all_named ps h.0 h.1
sort_named (sort.Stack n) f h = tt

bricks_named : (hs : List Heading) (fs : List Filling) → AllByRecursion HeadingNamed hs → AllByRecursion BrickNamed (filled hs fs)
bricks_named [] fs h = tt
bricks_named (x ∷ hs) [] h = tt
bricks_named (x ∷ hs) (f ∷ fs) h = (sort_named x.sort f h.0, bricks_named hs fs h.1)

pub items_are_named : (items : List Item) (m : Module) → AllByRecursion IsSpelled items → Derives items m → IsFaultless m.declarations → EachData (tree m) (λ d xs. AreNamed xs)
items_are_named items m spelled derived fine b d fs ss at is =
    let ds : List Declaration = m.declarations in
    let none : name_faults ds ≡ [] = nothing_in (name_faults ds) (λ g k. fine g (in_names k)) in
    let headed = headings_named (modes_seen ds) 0 0 ds (declarations_are_spelled items m spelled derived) (names_apart [] (names ds) none) in
    let here : FieldsNamed fs = subst DataNamed is (all_get BrickNamed (tree m).bricks b d (bricks_named (bricks (modes_seen ds) ds) (fillings ds) headed) at) in
    record { names = here.names; apart = λ i j f g e k same. one_place field_name fs i j f g here.apart e k same }
