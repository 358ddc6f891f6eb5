-- What the names of a module stand for is there in the tree.
use Rattle.std.proofs.Common.{◌≡◌, ◌≢◌, ℕ, zero, suc, ◌<◌, ◌&&◌, ◌||◌, Bool, true, false, List, [], ◌∷◌, length, map, Option, Some, None, if◌then◌else◌, option_map, refl, sym, ap, ◌∙◌, subst, arith}
use Rattle.std.specs.Prelude.{codes, slice_get}
use Rattle.std.specs.List.{AllByRecursion}
use Rattle.std.specs.Str.{bytes_eq}
use Rattle.rt_modes.specs.declared.mode.Field.{Field}
use Rattle.rt_modes.specs.declared.mode.Mode.{Mode, out-Mode}
use Rattle.rt_modes.specs.declared.mode.Mode.TheOpen.{Mode-F}
use Rattle.rt_tree_nodes.specs.declared.brick.Kind.{Kind}
use Rattle.rt_tree_nodes.specs.Scopes.{Layer, Scope, Face, with, passes, face, faces, proc_of, fields_of, items_of, errors_of, streams_of, is_svc, is_int_layer, is_byte_layer, is_label_layer, takes, gives, is_error_data, is_stream_data, field_at}
use Rattle.rt_tree_nodes.specs.Scopes as face_tests
use Rattle.rt_tree_nodes.specs.Typing.{Private, kept, item_found}
use Rattle.rt_exprs.specs.declared.scope.Meaning.{Meaning}
use Rattle.rt_exprs.specs.declared.scope.Meaning.TheVariants as meaning
use Rattle.rt_tree.specs.Statements.{Sight as Seen}
use Rattle.rt_exprs_laws.specs.Agreeing.{IsThere, IsItem, IsValue}
use Rattle.rt_exprs.specs.Sights.{Names as Level}
use Rattle.rt_check_declared.specs.declared.names.Declared.{Declared}
use Rattle.rt_check_declared.specs.declared.names.Declared.TheVariants as what
use Rattle.rt_check_declared.specs.Names.{Known}
use Rattle.rt_check_declared.specs.declared.bricks.Heading.{Heading}
use Rattle.rt_check_declared.specs.declared.bricks.Sort.{Sort}
use Rattle.rt_check_declared.specs.declared.bricks.Sort.TheVariants as sort
use Rattle.rt_check_declared.specs.declared.parts.Given.{Given}
use Rattle.rt_check_declared.specs.declared.parts.Given.TheVariants as given
use Rattle.rt_check_declared.specs.declared.parts.Part.{Part}
use Rattle.rt_check_declared.specs.Totals.{all_fields}
use Rattle.rt_check_module.specs.declared.supplied.Own.{Own}
use Rattle.rt_check_module.specs.Levels.{is_errors, is_streams, own_by, own_of, error_item, stream_item, brick_by, brick_in, other_item, item_with, given_as, item_by, part_in, item_in, means, with_one, with_all, module_names}
use Rattle.rt_check_bodies_laws.specs.Held.{LevelHolds, LabelSeen}
use Rattle.rt_check_bodies_laws.proofs.Holding.{declared_holds}
use Rattle.rt_check_module.specs.declared.filling.Filling.{Filling}
use Rattle.rt_check_module.specs.Tree.{filled, or_none}
use Rattle.rt_check_module.specs.Tree.{brick_by as tree_brick}
use Rattle.rt_bricks_laws.proofs.AllLists.{right_of, some_is, no_some, all_get}
use Rattle.rt_check_module_laws.proofs.Parts.{PartHas, GivenHas, AreFields, are_fields}
use Rattle.rt_check_module_laws.proofs.Own.{Found, Errors, Streams, errors, streams, same_errors, same_streams, errors_found, streams_found}

-- ---- what must hold of headings

-- LABEL aside, the mode is that of an item
abbrev pub ItemGood : List ℕ → Mode → Type 0
ItemGood n m = is_label_layer (out-Mode m) ≡ false → IsItem m

abbrev pub ItemPlain : List ℕ → Mode → Type 0
ItemPlain n m = IsItem m

-- The modes of procedures are values, those of items may be items; LABEL stands in SVC data alone.
abbrev pub SortGood : Bool → Sort → Type 0
SortGood svc (sort.Procedure (given.Mode m)) = IsValue m
SortGood svc (sort.Procedure given.Unknown) = ⊥
SortGood svc (sort.Items ps) = AllByRecursion (PartHas ItemGood) ps × (svc ≡ false → AllByRecursion (PartHas ItemPlain) ps)
SortGood svc (sort.Stack n) = Unit {0}

abbrev pub HeadingGood : Heading → Type 0
HeadingGood h = SortGood (is_svc h.kind) h.sort

-- ---- the bricks of the tree

pub brick_there : (hs : List Heading) (fs : List Filling) (b : ℕ) (h : Heading) → length fs ≡ length hs → slice_get hs b ≡ Some h → (f : Filling) × (slice_get (faces (filled hs fs)) b ≡ Some (face (tree_brick h f)))
brick_there [] fs b h l e = no_some h e
brick_there (k ∷ ks) [] b h l e = absurd (omega (arith, l))
brick_there (k ∷ ks) (f ∷ fs) zero h l e = (f, ap (λ (x : Heading). Some (face (tree_brick x f))) (some_is k h e))
brick_there (k ∷ ks) (f ∷ fs) (suc b) h l e = brick_there ks fs b h (omega (arith, l)) e

no_brick : (hs : List Heading) (b : ℕ) → (o : Option Heading) → slice_get hs b ≡ o → slice_get (map own_of hs) b ≡ option_map own_of o
no_brick [] b None e = refl
no_brick [] b (Some h) e = no_some h e
no_brick (k ∷ ks) zero None e = no_some k (sym e)
no_brick (k ∷ ks) zero (Some h) e = ap (λ (x : Heading). Some (own_of x)) (some_is k h e)
no_brick (k ∷ ks) (suc b) o e = no_brick ks b o e

short : {A : Type 0} (xs : List A) (k : ℕ) (x : A) → slice_get xs k ≡ Some x → k < length xs
short [] k x e = no_some x e
short (y ∷ ys) zero x e = omega arith
short (y ∷ ys) (suc k) x e = let h = short ys k x e in omega (arith, h)

field_short : (fs : List Field) (k : ℕ) (m : Mode) → field_at fs k ≡ Some m → k < length fs
field_short fs k m e = by_field (slice_get fs k) refl e where
  by_field : (o : Option Field) → slice_get fs k ≡ o → option_map (λ (f : Field). f.mode) o ≡ Some m → k < length fs
  by_field None q h = no_some m h
  by_field (Some f) q h = short fs k f q

int_no_label : (l : Layer) → is_int_layer l ≡ true → is_label_layer l ≡ false
int_no_label Mode-F.Label e = absurd cc
int_no_label Mode-F.Byte e = refl
int_no_label Mode-F.Int e = refl
int_no_label Mode-F.Frac e = refl
int_no_label (Mode-F.Ref m) e = refl
int_no_label (Mode-F.RefArray m) e = refl
int_no_label (Mode-F.Array n m) e = refl
int_no_label (Mode-F.Record r) e = refl
int_no_label (Mode-F.Proc ms r) e = refl

takes_no_label : (test : Layer → Bool) (l : Layer) → takes test l ≡ true → is_label_layer l ≡ false
takes_no_label test (Mode-F.Proc ms r) e = refl
takes_no_label test _ e = absurd cc

gives_no_label : (test : Layer → Bool) (l : Layer) → gives test l ≡ true → is_label_layer l ≡ false
gives_no_label test (Mode-F.Proc ms r) e = refl
gives_no_label test _ e = absurd cc

-- a mode that is found there passes the test
found_passes : (test : Layer → Bool) (fs : List Field) (k : ℕ) (m : Mode) → Found test fs k → field_at fs k ≡ Some m → test (out-Mode m) ≡ true
found_passes test fs k m f e = subst (λ (n : Mode). test (out-Mode n) ≡ true) (some_is f.mode m (sym f.is ∙ e)) f.passed

not_itself : {P : Type 0} (k : ℕ) → k ≢ k → P
not_itself k h = absurd (h refl)

module _ (c : Scope) (errors_are : c.errors ≡ errors_of c.bricks) (streams_are : c.streams ≡ streams_of c.bricks) where
  -- ---- procedures, data and stacks

  pub meaning_there : (b : ℕ) (k : Kind) (n : List ℕ) (s : Sort) (f : Filling) → slice_get c.bricks b ≡ Some (face (tree_brick (record { kind = k; name = n; sort = s }) f))
      → SortGood (is_svc k) s → IsThere c (brick_by b s)
  meaning_there b k n (sort.Procedure (given.Mode m)) f e good = (ap (λ (o : Option Face). with o proc_of) e, good)
  meaning_there b k n (sort.Procedure given.Unknown) f e good = absurd good
  meaning_there b k n (sort.Items ps) f e good = tt
  meaning_there b k n (sort.Stack w) f e good = tt

  -- ---- items

  module _ (b : ℕ) (k : Kind) (n : List ℕ) (ps : List Part) (f : Filling) where
    abbrev h : Heading
    h = record { kind = k; name = n; sort = sort.Items ps }

    abbrev d : Face
    d = face (tree_brick h f)

    module _ (there : slice_get c.bricks b ≡ Some d) (z : AreFields ItemGood ps) (plain : is_svc k ≡ false → AllByRecursion (PartHas ItemPlain) ps) where
      errors_same : face_tests.is_errors d ≡ is_errors h
      errors_same = ap (λ (o : Option (List Field)). is_svc k && (bytes_eq n (codes "RRERR") && passes is_error_data (Some (or_none o)))) z.is ∙ sym (ap (λ (o : Option (List Field)). is_svc k && (bytes_eq n (codes "RRERR") && passes is_error_data o)) z.is)

      streams_same : face_tests.is_streams d ≡ is_streams h
      streams_same = ap (λ (o : Option (List Field)). is_svc k && (bytes_eq n (codes "RRSIO") && passes is_stream_data (Some (or_none o)))) z.is ∙ sym (ap (λ (o : Option (List Field)). is_svc k && (bytes_eq n (codes "RRSIO") && passes is_stream_data o)) z.is)

      error_fields : is_errors h ≡ true → Errors z.fields
      error_fields e =
          let passing : Bool = passes is_error_data (all_fields ps) in
          errors z.fields (sym (ap (λ (o : Option (List Field)). passes is_error_data o) z.is) ∙ right_of (bytes_eq n (codes "RRERR")) passing (right_of (is_svc k) (bytes_eq n (codes "RRERR") && passing) e))

      stream_fields : is_streams h ≡ true → Streams z.fields
      stream_fields e =
          let passing : Bool = passes is_stream_data (all_fields ps) in
          streams z.fields (sym (ap (λ (o : Option (List Field)). passes is_stream_data o) z.is) ∙ right_of (bytes_eq n (codes "RRSIO")) passing (right_of (is_svc k) (bytes_eq n (codes "RRSIO") && passing) e))

      error_there : (j : ℕ) (m : Mode) → is_errors h ≡ true → field_at z.fields j ≡ Some m → j < 3 → with c.errors (λ fs. field_at fs j) ≡ Some m
      error_there j m e at l =
          let g = errors_found c.bricks b d there (errors_same ∙ e) in
          ap (λ (o : Option (List Field)). with o (λ fs. field_at fs j)) (errors_are ∙ g.1) ∙ same_errors g.0 z.fields j g.2 (error_fields e) l ∙ at

      stream_there : (j : ℕ) (m : Mode) → is_streams h ≡ true → field_at z.fields j ≡ Some m → j < 2 → with c.streams (λ fs. field_at fs j) ≡ Some m
      stream_there j m e at l =
          let g = streams_found c.bricks b d there (streams_same ∙ e) in
          ap (λ (o : Option (List Field)). with o (λ fs. field_at fs j)) (streams_are ∙ g.1) ∙ same_streams g.0 z.fields j g.2 (stream_fields e) l ∙ at

      own_error : (j : ℕ) (m : Mode) → is_errors h ≡ true → field_at z.fields j ≡ Some m → (is_label_layer (out-Mode m) ≡ false → IsItem m) → IsThere c (meaning.Svc (error_item j) m)
      own_error zero m e at good = λ no. not_itself 0 no
      own_error (suc zero) m e at good = λ no. (error_there 1 m e at (omega arith), good (int_no_label (out-Mode m) (found_passes is_int_layer z.fields 1 m (error_fields e).number at)))
      own_error (suc (suc zero)) m e at good = λ no. (error_there 2 m e at (omega arith), good (takes_no_label is_int_layer (out-Mode m) (found_passes (takes is_int_layer) z.fields 2 m (error_fields e).procedure at)))
      own_error (suc (suc (suc j))) m e at good = absurd (let long = field_short z.fields (suc (suc (suc j))) m at in omega (arith, long, (error_fields e).count))

      own_stream : (j : ℕ) (m : Mode) → is_streams h ≡ true → field_at z.fields j ≡ Some m → (is_label_layer (out-Mode m) ≡ false → IsItem m) → IsThere c (meaning.Svc (stream_item j) m)
      own_stream zero m e at good = λ no. (stream_there 0 m e at (omega arith), good (gives_no_label is_byte_layer (out-Mode m) (found_passes (gives is_byte_layer) z.fields 0 m (stream_fields e).input at)))
      own_stream (suc zero) m e at good = λ no. (stream_there 1 m e at (omega arith), good (takes_no_label is_byte_layer (out-Mode m) (found_passes (takes is_byte_layer) z.fields 1 m (stream_fields e).output at)))
      own_stream (suc (suc j)) m e at good = absurd (let long = field_short z.fields (suc (suc j)) m at in omega (arith, long, (stream_fields e).count))

      -- an item that isn't the task's own
      shared_item : (j : ℕ) (m : Mode) → is_errors h ≡ false → is_streams h ≡ false → field_at z.fields j ≡ Some m → item_found c.bricks b j ≡ Some (kept (is_svc k) m)
      shared_item j m e s at =
          let none : face_tests.is_errors d || face_tests.is_streams d ≡ false = ap (λ (t : Bool). t || face_tests.is_streams d) (errors_same ∙ e) ∙ streams_same ∙ s in
          let items : items_of d ≡ Some z.fields = ap (λ (t : Bool). if t then None else fields_of d) none ∙ ap (λ (o : Option (List Field)). Some (or_none o)) z.is in
          ap (λ (o : Option Face). with o (λ x. with (items_of x) (λ fs. option_map (kept (is_svc x.kind)) (field_at fs j)))) there
          ∙ ap (λ (o : Option (List Field)). with o (λ fs. option_map (kept (is_svc k)) (field_at fs j))) items ∙ ap (option_map (kept (is_svc k))) at

      -- an item of SVC data, which is ERL where its mode is LABEL
      other_there : (j : ℕ) (m : Mode) → is_svc k ≡ true → item_found c.bricks b j ≡ Some (kept (is_svc k) m) → (is_label_layer (out-Mode m) ≡ false → IsItem m) → IsThere c (other_item b j m (out-Mode m))
      other_there j m q e good = by_layer (out-Mode m) refl where
        here : item_found c.bricks b j ≡ Some (Private m)
        here = e ∙ ap (λ (t : Bool). Some (kept t m)) q

        plain_there : (l : Layer) → out-Mode m ≡ l → is_label_layer l ≡ false → (item_found c.bricks b j ≡ Some (Private m)) × IsItem m
        plain_there l o f = (here, good (ap is_label_layer o ∙ f))

        by_layer : (l : Layer) → out-Mode m ≡ l → IsThere c (other_item b j m l)
        by_layer Mode-F.Label o = λ no. not_itself 0 no
        by_layer Mode-F.Byte o = plain_there Mode-F.Byte o refl
        by_layer Mode-F.Int o = plain_there Mode-F.Int o refl
        by_layer Mode-F.Frac o = plain_there Mode-F.Frac o refl
        by_layer (Mode-F.Ref x) o = plain_there (Mode-F.Ref x) o refl
        by_layer (Mode-F.RefArray x) o = plain_there (Mode-F.RefArray x) o refl
        by_layer (Mode-F.Array i x) o = plain_there (Mode-F.Array i x) o refl
        by_layer (Mode-F.Record r) o = plain_there (Mode-F.Record r) o refl
        by_layer (Mode-F.Proc xs r) o = plain_there (Mode-F.Proc xs r) o refl

      kept_there : (j : ℕ) (p : Part) (m : Mode) (t : Bool) → is_svc k ≡ t → slice_get ps j ≡ Some p → p.has ≡ given.Mode m → item_found c.bricks b j ≡ Some (kept (is_svc k) m) → (is_label_layer (out-Mode m) ≡ false → IsItem m)
          → IsThere c (if t then other_item b j m (out-Mode m) else meaning.Item b j m)
      kept_there j p m true q e h found good = other_there j m q found good
      kept_there j p m false q e h found good = (found ∙ ap (λ (t : Bool). Some (kept t m)) q, subst (GivenHas ItemPlain p.name) h (all_get (PartHas ItemPlain) ps j p (plain q) e))

      moded : (j : ℕ) (p : Part) (m : Mode) → slice_get ps j ≡ Some p → p.has ≡ given.Mode m → (is_label_layer (out-Mode m) ≡ false → IsItem m) → IsThere c (item_with k (Some (own_by (is_errors h) (is_streams h))) b j m)
      moded j p m e q good = by_own (is_errors h) (is_streams h) refl refl where
        at : field_at z.fields j ≡ Some m
        at = z.at j p m e q

        by_own : (t s : Bool) → is_errors h ≡ t → is_streams h ≡ s → IsThere c (item_with k (Some (own_by t s)) b j m)
        by_own true s x y = own_error j m x at good
        by_own false true x y = own_stream j m y at good
        by_own false false x y = kept_there j p m (is_svc k) refl e q (shared_item j m x y at) good

      parts_there : (j : ℕ) (o : Option Part) → slice_get ps j ≡ o → AllByRecursion (PartHas ItemGood) ps → IsThere c (item_by k (Some (own_of h)) b j o)
      parts_there j None e g = tt
      parts_there j (Some p) e g = by_given p.has refl (all_get (PartHas ItemGood) ps j p g e) where
        by_given : (x : Given) → p.has ≡ x → GivenHas ItemGood p.name x → IsThere c (given_as k (Some (own_of h)) b j x)
        by_given given.Unknown q w = tt
        by_given (given.Mode m) q w = moded j p m e q w

  pub item_there : (b j : ℕ) (k : Kind) (n : List ℕ) (s : Sort) (f : Filling) → slice_get c.bricks b ≡ Some (face (tree_brick (record { kind = k; name = n; sort = s }) f))
      → SortGood (is_svc k) s → IsThere c (item_in (Some (own_of (record { kind = k; name = n; sort = s }))) b j (Some (record { kind = k; name = n; sort = s })))
  item_there b j k n (sort.Procedure g) f e good = tt
  item_there b j k n (sort.Stack w) f e good = tt
  item_there b j k n (sort.Items ps) f e good = parts_there b k n ps f e (are_fields ItemGood ps good.0) good.1 j (slice_get ps j) refl good.0

  -- ---- all names

  module _ (hs : List Heading) (fs : List Filling) (as_many : length fs ≡ length hs) (bricks_are : c.bricks ≡ faces (filled hs fs)) (good : AllByRecursion HeadingGood hs) where
    at_brick : (b : ℕ) (h : Heading) → slice_get hs b ≡ Some h → (f : Filling) × (slice_get c.bricks b ≡ Some (face (tree_brick h f)))
    at_brick b h e = let r = brick_there hs fs b h as_many e in (r.0, ap (λ (x : List Face). slice_get x b) bricks_are ∙ r.1)

    brick_means : (b : ℕ) (o : Option Heading) → slice_get hs b ≡ o → IsThere c (brick_in b o)
    brick_means b None e = tt
    brick_means b (Some h) e = let r = at_brick b h e in meaning_there b h.kind h.name h.sort r.0 r.1 (all_get HeadingGood hs b h good e)

    item_means : (b j : ℕ) (o : Option Heading) → slice_get hs b ≡ o → IsThere c (item_in (option_map own_of o) b j o)
    item_means b j None e = tt
    item_means b j (Some h) e = let r = at_brick b h e in item_there b j h.kind h.name h.sort r.0 r.1 (all_get HeadingGood hs b h good e)

    pub means_there : (d : Declared) → IsThere c (means (map own_of hs) hs d)
    means_there (what.Record r) = tt
    means_there (what.Brick b) = brick_means b (slice_get hs b) refl
    means_there (what.Item b j) = subst (λ (o : Option (Option Own)). IsThere c (item_in o b j (slice_get hs b))) (sym (no_brick hs b (slice_get hs b) refl)) (item_means b j (slice_get hs b) refl)

    -- a name of the module is no label
    abbrev NoLabel : Meaning → Type 0
    NoLabel (meaning.Label l) = ⊥
    NoLabel _ = Unit {0}

    unlabelled : (seen : Seen) (m : Meaning) → NoLabel m → LabelSeen seen m
    unlabelled seen (meaning.Label l) h = absurd h
    unlabelled seen (meaning.Mode r) h = tt
    unlabelled seen (meaning.Proc i m) h = tt
    unlabelled seen (meaning.Data i) h = tt
    unlabelled seen (meaning.Stack i) h = tt
    unlabelled seen (meaning.Item b i m) h = tt
    unlabelled seen (meaning.SvcItem b i m) h = tt
    unlabelled seen (meaning.Svc i m) h = tt
    unlabelled seen (meaning.Local i m) h = tt
    unlabelled seen (meaning.Loop i) h = tt
    unlabelled seen meaning.UnknownProc h = tt
    unlabelled seen meaning.Unknown h = tt

    brick_no_label : (b : ℕ) (o : Option Heading) → NoLabel (brick_in b o)
    brick_no_label b None = tt
    brick_no_label b (Some h) = by_sort h.sort where
      by_sort : (s : Sort) → NoLabel (brick_by b s)
      by_sort (sort.Procedure (given.Mode m)) = tt
      by_sort (sort.Procedure given.Unknown) = tt
      by_sort (sort.Items ps) = tt
      by_sort (sort.Stack n) = tt

    other_no_label : (b j : ℕ) (m : Mode) (l : Layer) → NoLabel (other_item b j m l)
    other_no_label b j m Mode-F.Label = tt
    other_no_label b j m Mode-F.Byte = tt
    other_no_label b j m Mode-F.Int = tt
    other_no_label b j m Mode-F.Frac = tt
    other_no_label b j m (Mode-F.Ref x) = tt
    other_no_label b j m (Mode-F.RefArray x) = tt
    other_no_label b j m (Mode-F.Array i x) = tt
    other_no_label b j m (Mode-F.Record r) = tt
    other_no_label b j m (Mode-F.Proc xs r) = tt

    shared_no_label : (t : Bool) (b j : ℕ) (m : Mode) → NoLabel (if t then other_item b j m (out-Mode m) else meaning.Item b j m)
    shared_no_label true b j m = other_no_label b j m (out-Mode m)
    shared_no_label false b j m = tt

    with_no_label : (k : Kind) (o : Option (Option Own)) (b j : ℕ) (m : Mode) → NoLabel (item_with k o b j m)
    with_no_label k (Some (Some o)) b j m = tt
    with_no_label k (Some None) b j m = shared_no_label (is_svc k) b j m
    with_no_label k None b j m = shared_no_label (is_svc k) b j m

    given_no_label : (k : Kind) (o : Option (Option Own)) (b j : ℕ) (g : Given) → NoLabel (given_as k o b j g)
    given_no_label k o b j given.Unknown = tt
    given_no_label k o b j (given.Mode m) = with_no_label k o b j m

    part_no_label : (k : Kind) (o : Option (Option Own)) (b j : ℕ) (p : Option Part) → NoLabel (item_by k o b j p)
    part_no_label k o b j None = tt
    part_no_label k o b j (Some p) = given_no_label k o b j p.has

    item_no_label : (o : Option (Option Own)) (b j : ℕ) (x : Option Heading) → NoLabel (item_in o b j x)
    item_no_label o b j None = tt
    item_no_label o b j (Some h) = part_no_label h.kind o b j (part_in h.sort j)

    means_no_label : (d : Declared) → NoLabel (means (map own_of hs) hs d)
    means_no_label (what.Record r) = tt
    means_no_label (what.Brick b) = brick_no_label b (slice_get hs b)
    means_no_label (what.Item b j) = item_no_label (slice_get (map own_of hs) b) b j (slice_get hs b)

    all_hold : (seen : Seen) (l : Level) (ks : Known) → LevelHolds c seen l → LevelHolds c seen (with_all (map own_of hs) hs l ks)
    all_hold seen l [] g = g
    all_hold seen l (x ∷ ks) g =
        all_hold seen (with_one (map own_of hs) hs l x) ks
        (declared_holds c seen x.0 (means (map own_of hs) hs x.1) l g (means_there x.1, unlabelled seen (means (map own_of hs) hs x.1) (means_no_label x.1)))

    pub names_hold : (seen : Seen) (ks : Known) → LevelHolds c seen (module_names hs ks)
    names_hold seen ks = all_hold seen [] ks tt
