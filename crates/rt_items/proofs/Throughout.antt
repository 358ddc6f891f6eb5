-- What holds of the meaning of each piece holds of each item, whatever LETs do.
use Rattle.std.proofs.Common.{ℕ, ◌+◌, Bool, true, false, List, [], ◌∷◌, ◌++◌, length, Option, Some, None, Result, Ok, Err, subst}
use Rattle.std.specs.Prelude.{nat_le, if◌then◌else◌}
use Rattle.std.specs.List.{AllByRecursion}
use Rattle.std.specs.Str.{bytes_eq}
use Rattle.rt_pieces.specs.declared.fault.TextFault.{TextFault}
use Rattle.rt_pieces.specs.declared.fault.TextFault.TheVariants.{BadLet, TooManyItems}
use Rattle.rt_pieces.specs.declared.item.Item.{Item}
use Rattle.rt_pieces.specs.declared.item.ItemKind.{ItemKind}
use Rattle.rt_pieces.specs.declared.item.ItemKind.TheVariants as kind
use Rattle.rt_pieces.specs.Cutting.{Piece, End, Clean, Stops}
use Rattle.rt_items.specs.Lets.{with_let, or_itself, replaced, items_at, is_semicolon, is_equal, name_of, Reading, with_items, at_end, Declared, LetText, with_text, text_goes_on, text_piece, let_text, declares, behind_equal, behind_name, if_named, named_by, declaration, Expands, ended, spoiled, item, too_many, declared, undeclared}
use Rattle.rt_items.specs.Meaning.{Meant, meaning}
use Rattle.rt_items.specs.Texts.{Lets}

pub all_append : {A : Type 0} (P : A → Type 0) (xs ys : List A) → AllByRecursion P xs → AllByRecursion P ys → AllByRecursion P (xs ++ ys)
all_append P [] ys h k = k
all_append P (x ∷ xs) ys h k = (h.0, all_append P xs ys h.1 k)

-- It holds of the item that a piece means, where it means one.
abbrev pub MeantSo : (ItemKind → Type 0) → Meant → Type 0
MeantSo K (Ok k) = K k
MeantSo K (Err f) = Unit {0}

-- K holds of what a piece means of which H holds.
module _ (K : ItemKind → Type 0) (H : Piece → Type 0) (means : (lets : Lets) (p : Piece) → H p → MeantSo K (meaning lets p)) where
  abbrev Pieces : List Piece → Type 0
  Pieces ps = AllByRecursion H ps

  -- ---- the texts of LETs

  abbrev Kinds : List ItemKind → Type 0
  Kinds ks = AllByRecursion K ks

  abbrev AnyKinds : Option (List ItemKind) → Type 0
  AnyKinds None = Unit {0}
  AnyKinds (Some ks) = Kinds ks

  abbrev LetsSo : Lets → Type 0
  LetsSo lets = (q : List ℕ) → AnyKinds (lets q)

  or_itself_so : (k : ItemKind) (o : Option (List ItemKind)) → K k → AnyKinds o → Kinds (or_itself k o)
  or_itself_so k None h g = (h, tt)
  or_itself_so k (Some ks) h g = g

  replaced_so : (lets : Lets) (k : ItemKind) → LetsSo lets → K k → Kinds (replaced lets k)
  replaced_so lets (kind.Name s) known h = or_itself_so (kind.Name s) (lets s) h (known s)
  replaced_so lets (kind.Word w) known h = (h, tt)
  replaced_so lets (kind.Number n) known h = (h, tt)
  replaced_so lets (kind.Text s) known h = (h, tt)
  replaced_so lets (kind.Mark m) known h = (h, tt)

  with_let_by : (t : Bool) (text : List ItemKind) (o : Option (List ItemKind)) → Kinds text → AnyKinds o → AnyKinds (if t then Some text else o)
  with_let_by true text o h k = h
  with_let_by false text o h k = k

  with_let_so : (name : List ℕ) (text : List ItemKind) (lets : Lets) → LetsSo lets → Kinds text → LetsSo (with_let name text lets)
  with_let_so name text lets known h q = with_let_by (bytes_eq q name) text (lets q) h (known q)

  -- a LET's text and what is behind it
  abbrev TextSo : LetText → Type 0
  TextSo (Ok x) = Kinds x.0 × Pieces x.1
  TextSo (Err f) = Unit {0}

  with_text_so : (text : List ItemKind) (r : LetText) → Kinds text → TextSo r → TextSo (with_text text r)
  with_text_so text (Ok x) h k = (all_append K text x.0 h k.0, k.1)
  with_text_so text (Err f) h k = tt

  text_test : (t : Bool) (x y : LetText) → TextSo x → TextSo y → TextSo (if t then x else y)
  text_test true x y h k = h
  text_test false x y h k = k

  text_piece_so : (lets : Lets) (more : ℕ → LetText) (count n : ℕ) (rest : List Piece) (m : Meant) → LetsSo lets → Pieces rest → ((k : ℕ) → TextSo (more k)) → MeantSo K m → TextSo (text_piece lets more count n rest m)
  text_piece_so lets more count n rest (Err f) known ps go h = tt
  text_piece_so lets more count n rest (Ok k) known ps go h =
      let new = replaced lets k in
      text_test (is_semicolon k) (Ok ([], rest)) (text_goes_on more count n new) (tt, ps)
      (text_test (nat_le (count + length new) 65535) (with_text new (more (count + length new))) (Err (TooManyItems n)) (with_text_so new (more (count + length new)) (replaced_so lets k known h) (go (count + length new))) tt)

  let_text_so : (lets : Lets) (e : End) (n : ℕ) (ps : List Piece) → LetsSo lets → Pieces ps → (count : ℕ) → TextSo (let_text lets e n ps count)
  unfolding let_text
  let_text_so lets e n [] known h count = tt
  let_text_so lets e n (p ∷ ps) known h count =
      text_piece_so lets (let_text lets e n ps) count p.line ps (meaning lets p) known h.1 (let_text_so lets e n ps known h.1) (means lets p h.0)

  -- what a LET declares
  abbrev DeclaredSo : Result Declared TextFault → Type 0
  DeclaredSo (Ok d) = Kinds d.text × Pieces d.rest
  DeclaredSo (Err f) = Unit {0}

  declares_so : (name : List ℕ) (r : LetText) → TextSo r → DeclaredSo (declares name r)
  declares_so name (Ok x) h = h
  declares_so name (Err f) h = tt

  declared_test : (t : Bool) (x y : Result Declared TextFault) → DeclaredSo x → DeclaredSo y → DeclaredSo (if t then x else y)
  declared_test true x y h k = h
  declared_test false x y h k = k

  behind_equal_so : (lets : Lets) (e : End) (n : ℕ) (name : List ℕ) (ps : List Piece) (m : Meant) → LetsSo lets → Pieces ps → DeclaredSo (behind_equal lets e n name ps m)
  behind_equal_so lets e n name ps (Err f) known h = tt
  behind_equal_so lets e n name ps (Ok k) known h =
      declared_test (is_equal k) (declares name (let_text lets e n ps 0)) (Err (BadLet n)) (declares_so name (let_text lets e n ps 0) (let_text_so lets e n ps known h 0)) tt

  behind_name_so : (lets : Lets) (e : End) (n : ℕ) (name : List ℕ) (ps : List Piece) → LetsSo lets → Pieces ps → DeclaredSo (behind_name lets e n name ps)
  behind_name_so lets e n name [] known h = tt
  behind_name_so lets e n name (p ∷ ps) known h = behind_equal_so lets e n name ps (meaning lets p) known h.1

  if_named_so : (lets : Lets) (e : End) (n : ℕ) (ps : List Piece) (name : Option (List ℕ)) → LetsSo lets → Pieces ps → DeclaredSo (if_named lets e n ps name)
  if_named_so lets e n ps (Some name) known h = behind_name_so lets e n name ps known h
  if_named_so lets e n ps None known h = tt

  named_by_so : (lets : Lets) (e : End) (n : ℕ) (ps : List Piece) (m : Meant) → LetsSo lets → Pieces ps → DeclaredSo (named_by lets e n ps m)
  named_by_so lets e n ps (Ok k) known h = if_named_so lets e n ps (name_of k) known h
  named_by_so lets e n ps (Err f) known h = tt

  declaration_so : (lets : Lets) (e : End) (n : ℕ) (ps : List Piece) → LetsSo lets → Pieces ps → DeclaredSo (declaration lets e n ps)
  declaration_so lets e n [] known h = tt
  declaration_so lets e n (p ∷ ps) known h = named_by_so lets e n ps (meaning lets p) known h.1

  -- ---- the whole list

  abbrev pub ItemSo : Item → Type 0
  ItemSo i = K i.kind

  abbrev pub ReadingSo : Reading → Type 0
  ReadingSo (Ok items) = AllByRecursion ItemSo items
  ReadingSo (Err f) = Unit {0}

  items_so : (n from to : ℕ) (ks : List ItemKind) → Kinds ks → AllByRecursion ItemSo (items_at n from to ks)
  items_so n from to [] h = tt
  items_so n from to (k ∷ ks) h = (h.0, items_so n from to ks h.1)

  with_items_so : (items : List Item) (r : Reading) → AllByRecursion ItemSo items → ReadingSo r → ReadingSo (with_items items r)
  with_items_so items (Ok others) h k = all_append ItemSo items others h k
  with_items_so items (Err f) h k = tt

  end_so : (e : End) → ReadingSo (at_end e)
  end_so Clean = tt
  end_so (Stops f) = tt

  expanded : {e : End} {lets : Lets} {count : ℕ} {ps : List Piece} {r : Reading} → Expands e lets count ps r → LetsSo lets → Pieces ps → ReadingSo r
  expanded {e = e} ended known h = end_so e
  expanded (spoiled is) known h = tt
  expanded (item {lets = lets} {p = p} {r = r} k is plain few more) known h =
      with_items_so (items_at p.line p.from p.to (replaced lets k)) r
      (items_so p.line p.from p.to (replaced lets k) (replaced_so lets k known (subst (MeantSo K) is (means lets p h.0)))) (expanded more known h.1)
  expanded (too_many k is plain many) known h = tt
  expanded {e = e} (declared {lets = lets} {p = p} {ps = ps} k d is word says more) known h =
      let g = subst DeclaredSo says (declaration_so lets e p.line ps known h.1) in
      expanded more (with_let_so d.name d.text lets known g.0) g.1
  expanded (undeclared k is word says) known h = tt

  pub items_are_so : {e : End} {count : ℕ} {ps : List Piece} {r : Reading} → Expands e (λ q. None) count ps r → Pieces ps → ReadingSo r
  items_are_so expands h = expanded expands (λ q. tt) h
