-- The roots and stacks of tasks, as they are looked for.
use Rattle.std.proofs.Common.{◌≡◌, ℕ, zero, suc, ◌+◌, ◌<◌, ◌⊎◌, inl, inr, ◌||◌, if◌then◌else◌, Bool, true, false, List, [], ◌∷◌, take, Option, Some, None, option_map, slice_get, refl, sym, ap, ◌∙◌, subst, arith}
use Rattle.std.specs.Str.{bytes_eq}
use Rattle.std.proofs.lemmas.Slice.Eq.{bytes_eq-Decides}
use Rattle.rt_modes.specs.declared.mode.Mode.{Mode, out-Mode}
use Rattle.rt_modes.specs.declared.mode.Mode.TheOpen.{Mode-F}
use Rattle.rt_tree_nodes.specs.declared.store.Proc.{Proc}
use Rattle.rt_object.specs.declared.object.Brick.{Brick}
use Rattle.rt_object.specs.declared.object.BrickKind.{BrickKind}
use Rattle.rt_object.specs.declared.object.BrickKind.TheVariants.{Own, Ent, Ext, Svc}
use Rattle.rt_object.specs.declared.object.Content.{Content}
use Rattle.rt_object.specs.declared.object.Content.TheVariants as content
use Rattle.rt_object.specs.declared.object.ObjectParts.{ObjectParts}
use Rattle.rt_object.specs.declared.object.ProcContent.{ProcContent}
use Rattle.rt_system.specs.declared.parts.Task.{Task}
use Rattle.rt_digraph.proofs.Lists.{no_element, some_is}
use Rattle.rt_graph.specs.Calls.{brick, numbered}
use Rattle.rt_graph.specs.Reach.{Earlier}
use Rattle.rt_graph.specs.Scans.{ent_content, ent_of, or_else, entry_in, entry_from, entry_named, is_int_layer, is_root_layer, is_root_mode, root_in, root_named, stack_in, stack_named, has_stack, good_with, good_root}
use Rattle.rt_graph.specs.Tasks.{IsIntLayer, IsRootLayer, IsRootMode, IsEntry, IsFirstEntry, IsRootNamed, IsStackNamed, IsStackBefore, IsGood, IsBad}
use Rattle.rt_graph.proofs.Rows.{order_or}

-- ---- one brick

ent_is : (name : List ℕ) (d : Brick) (c : Content) → ent_of name d ≡ Some c → (d.name ≡ name) × (d.kind ≡ Ent c)
ent_is name d c e = by (bytes_eq d.name name) refl e
  where
    kind : (k : BrickKind) → ent_content k ≡ Some c → k ≡ Ent c
    kind (Own x) f = absurd cc
    kind (Ent x) f = ap (λ (y : Content). Ent y) (some_is x c f)
    kind (Ext x) f = absurd cc
    kind (Svc x) f = absurd cc

    by : (b : Bool) → bytes_eq d.name name ≡ b → (if b then ent_content d.kind else None) ≡ Some c → (d.name ≡ name) × (d.kind ≡ Ent c)
    by true q f = ((bytes_eq-Decides d.name name).0 q, kind d.kind f)
    by false q f = absurd cc

ent_to : (name : List ℕ) (d : Brick) (c : Content) → d.name ≡ name → d.kind ≡ Ent c → ent_of name d ≡ Some c
ent_to name d c e f = ap (λ (b : Bool). if b then ent_content d.kind else None) ((bytes_eq-Decides d.name name).1 e) ∙ ap ent_content f

-- ---- bricks of a module

record IsInModule (name : List ℕ) (m b : ℕ) (ds : List Brick) (f : Proc) (c : Content) : Type 0 where
  number : ℕ
  found : Brick
  at : slice_get ds number ≡ Some found
  of : f.«module» ≡ m
  place : f.brick ≡ b + number
  is : ent_of name found ≡ Some c
  first : (j : ℕ) (d : Brick) → j < number → slice_get ds j ≡ Some d → ent_of name d ≡ None

abbrev NoneIn : List ℕ → List Brick → Type 0
NoneIn name ds = (j : ℕ) (d : Brick) → slice_get ds j ≡ Some d → ent_of name d ≡ None

entry_in_is : (name : List ℕ) (m b : ℕ) (ds : List Brick) (f : Proc) (c : Content) → entry_in name m b ds ≡ Some (f, c) → IsInModule name m b ds f c
entry_in_is name m b [] f c e = absurd cc
entry_in_is name m b (d ∷ ds) f c e = by (ent_of name d) refl e (entry_in_is name m (suc b) ds f c)
  where
    by : (o : Option Content) → ent_of name d ≡ o → or_else (option_map (λ x. (brick m b, x)) o) (entry_in name m (suc b) ds) ≡ Some (f, c) → (entry_in name m (suc b) ds ≡ Some (f, c) → IsInModule name m (suc b) ds f c) → IsInModule name m b (d ∷ ds) f c
    by (Some x) q h rest =
        let same : (brick m b, x) ≡ (f, c) = some_is (brick m b, x) (f, c) h in record {
          number = 0;
          found = d;
          at = refl;
          of = ap (λ (p : Proc × Content). p.0.«module») (sym same);
          place = ap (λ (p : Proc × Content). p.0.brick) (sym same) ∙ (let z : b ≡ b + 0 = omega arith in z);
          is = q ∙ ap (λ (p : Proc × Content). Some p.1) same;
          first = λ j e less. absurd (omega arith);
        }
    by None q h rest =
        let g = rest h in record {
          number = suc g.number;
          found = g.found;
          at = g.at;
          of = g.of;
          place = g.place ∙ (let z : suc b + g.number ≡ b + suc g.number = omega arith in z);
          is = g.is;
          first = earlier q g.number g.first;
        }
      where
        earlier : ent_of name d ≡ None → (n : ℕ) → ((j : ℕ) (x : Brick) → j < n → slice_get ds j ≡ Some x → ent_of name x ≡ None) → (j : ℕ) (x : Brick) → j < suc n → slice_get (d ∷ ds) j ≡ Some x → ent_of name x ≡ None
        earlier q n first zero x less at = ap (ent_of name) (sym (some_is d x at)) ∙ q
        earlier q n first (suc j) x less at = first j x (omega arith) at

entry_in_none : (name : List ℕ) (m b : ℕ) (ds : List Brick) → entry_in name m b ds ≡ None → NoneIn name ds
entry_in_none name m b [] e = λ j d at. absurd (no_element j d at)
entry_in_none name m b (x ∷ ds) e = by (ent_of name x) refl e (entry_in_none name m (suc b) ds)
  where
    by : (o : Option Content) → ent_of name x ≡ o → or_else (option_map (λ y. (brick m b, y)) o) (entry_in name m (suc b) ds) ≡ None → (entry_in name m (suc b) ds ≡ None → NoneIn name ds) → NoneIn name (x ∷ ds)
    by (Some y) q h rest = absurd cc
    by None q h rest = each
      where
        each : NoneIn name (x ∷ ds)
        each zero d at = ap (ent_of name) (sym (some_is x d at)) ∙ q
        each (suc j) d at = rest h j d at

-- ---- modules

record IsInModules (name : List ℕ) (m : ℕ) (os : List ObjectParts) (f : Proc) (c : Content) : Type 0 where
  number : ℕ
  object : ObjectParts
  at : slice_get os number ≡ Some object
  in_it : IsInModule name (m + number) 0 object.bricks f c
  first : (k : ℕ) (o : ObjectParts) → k < number → slice_get os k ≡ Some o → NoneIn name o.bricks

entry_from_is : (name : List ℕ) (m : ℕ) (os : List ObjectParts) (f : Proc) (c : Content) → entry_from name m os ≡ Some (f, c) → IsInModules name m os f c
entry_from_is name m [] f c e = absurd cc
entry_from_is name m (o ∷ os) f c e = by (entry_in name m 0 o.bricks) refl e (entry_from_is name (suc m) os f c)
  where
    earlier : entry_in name m 0 o.bricks ≡ None → (n : ℕ) → ((k : ℕ) (x : ObjectParts) → k < n → slice_get os k ≡ Some x → NoneIn name x.bricks) → (k : ℕ) (x : ObjectParts) → k < suc n → slice_get (o ∷ os) k ≡ Some x → NoneIn name x.bricks
    earlier q n first zero x less at = subst (λ (y : ObjectParts). NoneIn name y.bricks) (some_is o x at) (entry_in_none name m 0 o.bricks q)
    earlier q n first (suc k) x less at = first k x (omega arith) at

    by : (r : Option (Proc × Content)) → entry_in name m 0 o.bricks ≡ r → or_else r (entry_from name (suc m) os) ≡ Some (f, c) → (entry_from name (suc m) os ≡ Some (f, c) → IsInModules name (suc m) os f c) → IsInModules name m (o ∷ os) f c
    by (Some r) q h rest = record {
      number = 0;
      object = o;
      at = refl;
      in_it = subst (λ (k : ℕ). IsInModule name k 0 o.bricks f c) (let z : m ≡ m + 0 = omega arith in z) (entry_in_is name m 0 o.bricks f c (q ∙ h));
      first = λ k x less. absurd (omega arith);
    }
    by None q h rest =
        let g = rest h in record {
          number = suc g.number;
          object = g.object;
          at = g.at;
          in_it = subst (λ (k : ℕ). IsInModule name k 0 g.object.bricks f c) (let z : suc m + g.number ≡ m + suc g.number = omega arith in z) g.in_it;
          first = earlier q g.number g.first;
        }

entry_from_none : (name : List ℕ) (m : ℕ) (os : List ObjectParts) → entry_from name m os ≡ None → (k : ℕ) (o : ObjectParts) → slice_get os k ≡ Some o → NoneIn name o.bricks
entry_from_none name m [] e = λ k o at. absurd (no_element k o at)
entry_from_none name m (x ∷ os) e = by (entry_in name m 0 x.bricks) refl e (entry_from_none name (suc m) os)
  where
    by : (r : Option (Proc × Content)) → entry_in name m 0 x.bricks ≡ r → or_else r (entry_from name (suc m) os) ≡ None → (entry_from name (suc m) os ≡ None → (k : ℕ) (o : ObjectParts) → slice_get os k ≡ Some o → NoneIn name o.bricks) → (k : ℕ) (o : ObjectParts) → slice_get (x ∷ os) k ≡ Some o → NoneIn name o.bricks
    by (Some r) q h rest = absurd cc
    by None q h rest = each
      where
        each : (k : ℕ) (o : ObjectParts) → slice_get (x ∷ os) k ≡ Some o → NoneIn name o.bricks
        each zero o at = subst (λ (y : ObjectParts). NoneIn name y.bricks) (some_is x o at) (entry_in_none name m 0 x.bricks q)
        each (suc k) o at = rest h k o at

module _ (objects : List ObjectParts) where
  module_number : (m : ℕ) (o : ObjectParts) → numbered objects m ≡ Some o → (k : ℕ) × (m ≡ suc k) × (slice_get objects k ≡ Some o)
  module_number zero o e = absurd cc
  module_number (suc m) o e = (m, refl, e)

  none_is : (name : List ℕ) → ((k : ℕ) (o : ObjectParts) → slice_get objects k ≡ Some o → NoneIn name o.bricks) → (g : Proc) (d : Content) → IsEntry objects name g d → ⊥
  none_is name none g d e =
      let m = module_number g.«module» e.object e.of in
      let a : ent_of name e.found ≡ Some d = ent_to name e.found d e.named e.ent in
      let b : ent_of name e.found ≡ None = none m.0 e.object m.2 g.brick e.found e.at in cc

  pub entry_is : (name : List ℕ) (f : Proc) (c : Content) → entry_named objects name ≡ Some (f, c) → IsFirstEntry objects name f c
  entry_is name f c e =
      let g = entry_from_is name 1 objects f c e in
      let i = g.in_it in
      let k = ent_is name i.found c i.is in
      let of : f.«module» ≡ suc g.number = i.of ∙ (let z : 1 + g.number ≡ suc g.number = omega arith in z) in
      let place : f.brick ≡ i.number = i.place ∙ (let z : 0 + i.number ≡ i.number = omega arith in z) in record {
        entry = record {
          object = g.object;
          of = subst (λ (m : ℕ). numbered objects m ≡ Some g.object) (sym of) g.at;
          found = i.found;
          at = subst (λ (b : ℕ). slice_get g.object.bricks b ≡ Some i.found) (sym place) i.at;
          named = k.0;
          ent = k.1;
        };
        first = λ h d earlier entry. none_before h d earlier entry g.number g.object g.at of i.number place g.first i.first;
      }
    where
      none_before : (h : Proc) (d : Content) → Earlier h f → IsEntry objects name h d → (k : ℕ) (o : ObjectParts) → slice_get objects k ≡ Some o → f.«module» ≡ suc k → (n : ℕ) → f.brick ≡ n
          → ((j : ℕ) (x : ObjectParts) → j < k → slice_get objects j ≡ Some x → NoneIn name x.bricks) → ((j : ℕ) (x : Brick) → j < n → slice_get o.bricks j ≡ Some x → ent_of name x ≡ None) → ⊥
      none_before h d earlier entry k o at of n place modules bricks =
          let m = module_number h.«module» entry.object entry.of in
          let a : ent_of name entry.found ≡ Some d = ent_to name entry.found d entry.named entry.ent in
          elim earlier [
            | inl less ↦ (let b : ent_of name entry.found ≡ None = modules m.0 entry.object (let e = m.1 in omega arith) m.2 h.brick entry.found entry.at in cc)
            | inr same ↦ (
                let is : m.0 ≡ k = (let e = m.1 in let s = same.0 in omega arith) in
                let one : entry.object ≡ o = some_is entry.object o (sym m.2 ∙ subst (λ (j : ℕ). slice_get objects j ≡ Some o) (sym is) at) in
                let b : ent_of name entry.found ≡ None = bricks h.brick entry.found (let l = same.1 in omega arith) (subst (λ (y : ObjectParts). slice_get y.bricks h.brick ≡ Some entry.found) one entry.at) in cc)
          ]

  pub entry_none : (name : List ℕ) → entry_named objects name ≡ None → (g : Proc) (d : Content) → IsEntry objects name g d → ⊥
  entry_none name e = none_is name (entry_from_none name 1 objects e)

  procs_or : (f g : Proc) → (f ≡ g) ⊎ (Earlier f g ⊎ Earlier g f)
  procs_or f g = elim (order_or f.«module» g.«module») [
    | inr less ↦ elim less [ inl l ↦ inr (inl (inl l)) | inr l ↦ inr (inr (inl l)) ]
    | inl same ↦ elim (order_or f.brick g.brick) [
      | inl e ↦ inl (ap (λ (k : ℕ). brick k f.brick) same ∙ ap (λ (k : ℕ). brick g.«module» k) e)
      | inr less ↦ elim less [ inl l ↦ inr (inl (inr (same, l))) | inr l ↦ inr (inr (inr (sym same, l))) ]
    ]
  ]

  same_content : (name : List ℕ) (f g : Proc) (c d : Content) → f ≡ g → IsEntry objects name f c → IsEntry objects name g d → c ≡ d
  same_content name f g c d e h k =
      let k2 : IsEntry objects name f d = subst (λ (x : Proc). IsEntry objects name x d) (sym e) k in
      let o : h.object ≡ k2.object = some_is h.object k2.object (sym h.of ∙ k2.of) in
      let b : h.found ≡ k2.found = some_is h.found k2.found (sym h.at ∙ ap (λ (x : ObjectParts). slice_get x.bricks f.brick) o ∙ k2.at) in
      let kinds : Ent c ≡ Ent d = sym h.ent ∙ ap (λ (x : Brick). x.kind) b ∙ k2.ent in cc

  -- there is one first
  pub one_first : (name : List ℕ) (f g : Proc) (c d : Content) → IsFirstEntry objects name f c → IsFirstEntry objects name g d → (f ≡ g) × (c ≡ d)
  one_first name f g c d h k = elim (procs_or f g) [
    | inl e ↦ (e, same_content name f g c d e h.entry k.entry)
    | inr less ↦ elim less [ inl l ↦ absurd (k.first f c l h.entry) | inr l ↦ absurd (h.first g d l k.entry) ]
  ]

  pub entry_to : (name : List ℕ) (f : Proc) (c : Content) → IsFirstEntry objects name f c → entry_named objects name ≡ Some (f, c)
  entry_to name f c h = by (entry_named objects name) refl
    where
      by : (o : Option (Proc × Content)) → entry_named objects name ≡ o → entry_named objects name ≡ Some (f, c)
      by None q = absurd (entry_none name q f c h.entry)
      by (Some (g, d)) q =
          let s = one_first name g f d c (entry_is name g d q) h in
          q ∙ ap (λ (x : Proc). Some (x, d)) s.0 ∙ ap (λ (x : Content). Some (f, x)) s.1

  -- ---- roots and stacks

  root_mode_is : (m : Mode) → is_root_mode m ≡ true → IsRootMode m
  root_mode_is m e = by (out-Mode m) e
    where
      int : (l : Mode-F Mode) → is_int_layer l ≡ true → IsIntLayer l
      int Mode-F.Int g = tt
      int Mode-F.Byte g = absurd cc
      int Mode-F.Frac g = absurd cc
      int Mode-F.Label g = absurd cc
      int (Mode-F.Ref a) g = absurd cc
      int (Mode-F.RefArray a) g = absurd cc
      int (Mode-F.Array n a) g = absurd cc
      int (Mode-F.Record r) g = absurd cc
      int (Mode-F.Proc ps r) g = absurd cc

      by : (l : Mode-F Mode) → is_root_layer l ≡ true → IsRootLayer l
      by (Mode-F.Proc [] None) g = tt
      by (Mode-F.Proc [] (Some r)) g = int (out-Mode r) g
      by (Mode-F.Proc (p ∷ ps) r) g = absurd cc
      by Mode-F.Int g = absurd cc
      by Mode-F.Byte g = absurd cc
      by Mode-F.Frac g = absurd cc
      by Mode-F.Label g = absurd cc
      by (Mode-F.Ref a) g = absurd cc
      by (Mode-F.RefArray a) g = absurd cc
      by (Mode-F.Array n a) g = absurd cc
      by (Mode-F.Record r) g = absurd cc

  root_mode_to : (m : Mode) → IsRootMode m → is_root_mode m ≡ true
  root_mode_to m e = by (out-Mode m) e
    where
      int : (l : Mode-F Mode) → IsIntLayer l → is_int_layer l ≡ true
      int Mode-F.Int g = refl
      int Mode-F.Byte g = absurd g
      int Mode-F.Frac g = absurd g
      int Mode-F.Label g = absurd g
      int (Mode-F.Ref a) g = absurd g
      int (Mode-F.RefArray a) g = absurd g
      int (Mode-F.Array n a) g = absurd g
      int (Mode-F.Record r) g = absurd g
      int (Mode-F.Proc ps r) g = absurd g

      by : (l : Mode-F Mode) → IsRootLayer l → is_root_layer l ≡ true
      by (Mode-F.Proc [] None) g = refl
      by (Mode-F.Proc [] (Some r)) g = int (out-Mode r) g
      by (Mode-F.Proc (p ∷ ps) r) g = absurd g
      by Mode-F.Int g = absurd g
      by Mode-F.Byte g = absurd g
      by Mode-F.Frac g = absurd g
      by Mode-F.Label g = absurd g
      by (Mode-F.Ref a) g = absurd g
      by (Mode-F.RefArray a) g = absurd g
      by (Mode-F.Array n a) g = absurd g
      by (Mode-F.Record r) g = absurd g

  pub root_is : (name : List ℕ) (f : Proc) → root_named objects name ≡ Some f → IsRootNamed objects name f
  root_is name f e = by (entry_named objects name) refl e
    where
      test : (g : Proc) (p : ProcContent) → entry_named objects name ≡ Some (g, content.Proc p) → (b : Bool) → is_root_mode p.mode ≡ b → (if b then Some g else None) ≡ Some f → IsRootNamed objects name f
      test g p q true r h = subst (IsRootNamed objects name) (some_is g f h) (record { body = p; entry = entry_is name g (content.Proc p) q; mode = root_mode_is p.mode r })
      test g p q false r h = absurd cc

      by : (o : Option (Proc × Content)) → entry_named objects name ≡ o → root_in o ≡ Some f → IsRootNamed objects name f
      by None q h = absurd cc
      by (Some (g, content.Proc p)) q h = test g p q (is_root_mode p.mode) refl h
      by (Some (g, content.Data d)) q h = absurd cc
      by (Some (g, content.Stack n)) q h = absurd cc

  pub root_to : (name : List ℕ) (f : Proc) → IsRootNamed objects name f → root_named objects name ≡ Some f
  root_to name f h = ap root_in (entry_to name f (content.Proc h.body) h.entry) ∙ ap (λ (b : Bool). if b then Some f else None) (root_mode_to h.body.mode h.mode)

  pub stack_is : (name : List ℕ) (n : ℕ) → stack_named objects name ≡ Some n → IsStackNamed objects name n
  stack_is name n e = by (entry_named objects name) refl e
    where
      by : (o : Option (Proc × Content)) → entry_named objects name ≡ o → stack_in o ≡ Some n → IsStackNamed objects name n
      by None q h = absurd cc
      by (Some (g, content.Proc p)) q h = absurd cc
      by (Some (g, content.Data d)) q h = absurd cc
      by (Some (g, content.Stack k)) q h = (g, entry_is name g (content.Stack n) (q ∙ ap (λ (x : ℕ). Some (g, content.Stack x)) (some_is k n h)))

  pub stack_to : (name : List ℕ) (n : ℕ) → IsStackNamed objects name n → stack_named objects name ≡ Some n
  stack_to name n h = ap stack_in (entry_to name h.0 (content.Stack n) h.1)

  -- ---- good tasks

  before_is : (tasks : List Task) (i : ℕ) (name : List ℕ) → has_stack name (take i tasks) ≡ true → IsStackBefore objects tasks i name
  before_is [] zero name e = absurd (let f : false ≡ true = e in cc)
  before_is [] (suc i) name e = absurd (let f : false ≡ true = e in cc)
  before_is (t ∷ tasks) zero name e = absurd (let f : false ≡ true = e in cc)
  before_is (t ∷ tasks) (suc i) name e = by (bytes_eq t.stack name) refl e (before_is tasks i name)
    where
      by : (b : Bool) → bytes_eq t.stack name ≡ b → (b || has_stack name (take i tasks)) ≡ true → (has_stack name (take i tasks) ≡ true → IsStackBefore objects tasks i name) → IsStackBefore objects (t ∷ tasks) (suc i) name
      by true q h rest = (0, t, omega arith, refl, (bytes_eq-Decides t.stack name).0 q)
      by false q h rest = let g = rest h in (suc g.0, g.1, (let l = g.2 in omega arith), g.3, g.4)

  before_to : (tasks : List Task) (i j : ℕ) (t : Task) (name : List ℕ) → j < i → slice_get tasks j ≡ Some t → t.stack ≡ name → has_stack name (take i tasks) ≡ true
  before_to [] i j t name l e h = absurd (no_element j t e)
  before_to (x ∷ tasks) zero j t name l e h = absurd (omega arith)
  before_to (x ∷ tasks) (suc i) zero t name l e h = ap (λ (b : Bool). b || has_stack name (take i tasks)) ((bytes_eq-Decides x.stack name).1 (ap (λ (y : Task). y.stack) (some_is x t e) ∙ h))
  before_to (x ∷ tasks) (suc i) (suc j) t name l e h = by (bytes_eq x.stack name) (before_to tasks i j t name (omega arith) e h)
    where
      by : (b : Bool) → has_stack name (take i tasks) ≡ true → (b || has_stack name (take i tasks)) ≡ true
      by true g = refl
      by false g = g

  pub good_is : (tasks : List Task) (i : ℕ) (t : Task) (f : Proc) → good_root objects (take i tasks) t ≡ Some f → (words : ℕ) × IsGood objects tasks i t f words
  good_is tasks i t f e = by (stack_named objects t.stack) refl (has_stack t.stack (take i tasks)) refl e
    where
      by : (o : Option ℕ) → stack_named objects t.stack ≡ o → (b : Bool) → has_stack t.stack (take i tasks) ≡ b → good_with o b (root_named objects t.root) ≡ Some f → (words : ℕ) × IsGood objects tasks i t f words
      by None q b r h = absurd cc
      by (Some n) q true r h = absurd cc
      by (Some n) q false r h = (
        n,
        record {
          root = root_is t.root f h;
          stack = stack_is t.stack n q;
          own = λ g. absurd (let k = before_to tasks i g.0 g.1 t.stack g.2 g.3 g.4 in let z : true ≡ false = sym k ∙ r in cc);
        },
      )

  pub good_to : (tasks : List Task) (i : ℕ) (t : Task) (f : Proc) (words : ℕ) → IsGood objects tasks i t f words → good_root objects (take i tasks) t ≡ Some f
  good_to tasks i t f words g =
      ap (λ (o : Option ℕ). good_with o (has_stack t.stack (take i tasks)) (root_named objects t.root)) (stack_to t.stack words g.stack)
      ∙ by (has_stack t.stack (take i tasks)) refl
    where
      by : (b : Bool) → has_stack t.stack (take i tasks) ≡ b → good_with (Some words) b (root_named objects t.root) ≡ Some f
      by true q = absurd (g.own (before_is tasks i t.stack q))
      by false q = root_to t.root f g.root

  pub bad_is : (tasks : List Task) (i : ℕ) (t : Task) → good_root objects (take i tasks) t ≡ None → IsBad objects tasks i t
  bad_is tasks i t e f words g = let h = good_to tasks i t f words g in absurd cc
