-- What an object keeps of its ranges.
use Rattle.std.proofs.Common.{◌≡◌, ℕ, zero, suc, ◌+◌, ◌*◌, ◌<◌, ◌≤◌, true, List, [], ◌∷◌, ◌++◌, length, map, Option, Some, None, option_map, slice_get, nat_le, arith, refl, sym, ap, ◌∙◌, subst}
use Rattle.std.specs.List.{AllByRecursion}
use Rattle.std.proofs.lemmas.Bool.Decides.{nat_tests}
use Rattle.rt_bricks_laws.proofs.AllLists.{some_is, no_some, left_of, right_of, all_so, all_get}
use Rattle.rt_modes.specs.declared.mode.Field.{Field}
use Rattle.rt_modes.specs.declared.mode.Mode.{Mode}
use Rattle.rt_tree_nodes.specs.declared.brick.Brick.{Brick}
use Rattle.rt_tree_nodes.specs.declared.brick.BrickSort.{BrickSort}
use Rattle.rt_tree_nodes.specs.declared.brick.BrickSort.TheVariants as sort
use Rattle.rt_tree_nodes.specs.declared.brick.DataStart.{DataStart}
use Rattle.rt_tree_nodes.specs.declared.brick.Kind.{Kind}
use Rattle.rt_tree_nodes.specs.declared.brick.Kind.TheVariants as kind
use Rattle.rt_tree_nodes.specs.declared.brick.ModuleParts.{ModuleParts}
use Rattle.rt_tree_nodes.specs.declared.brick.ProcBody.{ProcBody}
use Rattle.rt_tree_nodes.specs.Scopes.{scope_of, with}
use Rattle.rt_tree.specs.Modules.{is_here, words_fit, sort_fits, every_node_fits}
use Rattle.rt_meaning_laws.proofs.Nodes.{brick_fit, short}
use Rattle.rt_tree.specs.Within.{Within, SortWithin, ProcWithin, parameters_of}
use Rattle.rt_object.specs.declared.object.Brick.{Brick as Compiled}
use Rattle.rt_object.specs.declared.object.BrickKind.{BrickKind}
use Rattle.rt_object.specs.declared.object.BrickKind.TheVariants as whose
use Rattle.rt_object.specs.declared.object.Content.{Content}
use Rattle.rt_object.specs.declared.object.Content.TheVariants as content
use Rattle.rt_object.specs.declared.object.DataContent.{DataContent}
use Rattle.rt_object.specs.declared.object.ObjectParts.{ObjectParts}
use Rattle.rt_object.specs.declared.object.ProcContent.{ProcContent}
use Rattle.rt_object.specs.declared.object.Relocation.{Relocation}
use Rattle.rt_object.specs.declared.object.Supplied.{Supplied}
use Rattle.rt_object.specs.Ranges.{IsByte}
use Rattle.rt_object.specs.Ranges as object
use Rattle.rt_icode.specs.declared.ins.Ins.{Ins}
use Rattle.rt_icode.specs.declared.procedure.IProc.{IProc}
use Rattle.rt_frames.specs.declared.frame.Frame.{Frame}
use Rattle.rt_frames.specs.Frames.{frame, frame_in, body_frame}
use Rattle.rt_lower.specs.declared.layouts.Layouts.{Layouts}
use Rattle.rt_lower.specs.Code.{procedure, procedures, procedure_by, intermediate}
use Rattle.rt_templates.specs.declared.code.ProcCode.{ProcCode}
use Rattle.rt_templates.specs.Expanded.{code_of}
use Rattle.rt_templates_laws.specs.Laws.{Rise, CodeWeighs, CodeIsMarked, MarksAreSmall, PlacesRise, IsSmall}
use Rattle.rt_compile.specs.Data.{data_of}
use Rattle.rt_compile.specs.DataLaws.{IsDataBrick, PlacesAreWithin, PlacesAreNamed}
use Rattle.rt_compile.specs.Objects.{procedure_of, items_of, named, content_by, kind_by, code_by, brick, bricks, external_of, supplied_of, AreShort, IsObjectWith}
use Rattle.rt_text_laws.specs.Trees.{ItemsAreFew, TreesPromise}
use Rattle.rt_compile_laws.specs.Kept.{Holds, ProcIsLow, DataIsLow, ProceduresAreLow, DataAreLow, StacksAreLow, StringsAreLow}

-- ---- relocations that rise

above : (low high : ℕ) (rs : List Relocation) (j n : ℕ) → Rise low high rs → slice_get (map (λ (r : Relocation). r.place) rs) j ≡ Some n → low ≤ n
above low high [] j n h e = no_some n e
above low high (r ∷ rs) zero n h e = subst (λ (x : ℕ). low ≤ x) (some_is r.place n e) h.0
above low high (r ∷ rs) (suc j) n h e = let more = above (r.place + 1) high rs j n h.2 e in let first = h.0 in omega (arith, more, first)

rising : (low high : ℕ) (rs : List Relocation) → Rise low high rs → object.Rise (map (λ (r : Relocation). r.place) rs)
rising low high [] h i j m n less a b = no_some m a
rising low high (r ∷ rs) h zero zero m n less a b = absurd (omega (arith, less))
rising low high (r ∷ rs) h zero (suc j) m n less a b = let more = above (r.place + 1) high rs j n h.2 b in let same = some_is r.place m a in omega (arith, more, same)
rising low high (r ∷ rs) h (suc i) zero m n less a b = absurd (omega (arith, less))
rising low high (r ∷ rs) h (suc i) (suc j) m n less a b = let below : i < j = omega (arith, less) in rising (r.place + 1) high rs h.2 i j m n below a b

all_inside : (low high : ℕ) (rs : List Relocation) → Rise low high rs → AllByRecursion (λ (r : Relocation). (r.place < high) × ((k : ℕ) × (r.place ≡ 1 * k))) rs
all_inside low high [] h = tt
all_inside low high (r ∷ rs) h = let once : r.place ≡ 1 * r.place = omega arith in ((h.1, (r.place, once)), all_inside (r.place + 1) high rs h.2)

so_many : (low high : ℕ) (rs : List Relocation) → low ≤ high → Rise low high rs → low + length rs ≤ high
so_many low high [] l h = omega (arith, l)
so_many low high (r ∷ rs) l h =
    let less = h.1 in
    let first = h.0 in
    let next : r.place + 1 ≤ high = omega (arith, less) in
    let more = so_many (r.place + 1) high rs next h.2 in
    omega (arith, more, first)

-- a part without places has none
fewer : (high : ℕ) (rs : List Relocation) → Rise 1 high rs → length rs ≤ high
fewer high [] h = omega arith
fewer high (r ∷ rs) h = let less = h.1 in let first = h.0 in let low : 1 ≤ high = omega (arith, less, first) in let more = so_many 1 high (r ∷ rs) low h in omega (arith, more)

-- ---- what a brick of the object is made of

module _ (l : Layouts) (p : ModuleParts) where
  made_at : (bs : List Compiled) (ds : List Brick) (n k : ℕ) (c : Compiled) → map Some bs ≡ bricks l p n ds → slice_get bs k ≡ Some c → (d : Brick) × (slice_get ds k ≡ Some d) × (brick l p (n + k) d ≡ Some c)
  made_at [] ds n k c e g = no_some c g
  made_at (b ∷ bs) [] n k c e g = absurd cc
  made_at (b ∷ bs) (d ∷ ds) n zero c e g =
      let first : Some b ≡ brick l p n d = cc in
      let here : n ≡ n + 0 = omega arith in
      (d, refl, subst (λ (i : ℕ). brick l p i d ≡ Some c) here (sym first ∙ ap (λ (x : Compiled). Some x) (some_is b c g)))
  made_at (b ∷ bs) (d ∷ ds) n (suc k) c e g =
      let rest : map Some bs ≡ bricks l p (n + 1) ds = cc in
      let m = made_at bs ds (n + 1) k c rest g in
      let here : (n + 1) + k ≡ n + suc k = omega arith in
      (m.0, m.1, subst (λ (i : ℕ). brick l p i m.0 ≡ Some c) here m.2)

  named_left : (name : List ℕ) (o : Option BrickKind) (c : Compiled) → option_map (named name) o ≡ Some c → o ≡ Some c.kind
  named_left name None c e = no_some c e
  named_left name (Some k) c e = ap (λ (x : Compiled). Some x.kind) (some_is (named name k) c e)

  kept : (f : Content → BrickKind) (x : Content) → ((y : Content) → Holds x (f y) → y ≡ x) → (o : Option Content) (k : BrickKind) → option_map f o ≡ Some k → Holds x k → o ≡ Some x
  kept f x same None k e h = no_some k e
  kept f x same (Some y) k e h = ap (λ (z : Content). Some z) (same y (subst (Holds x) (sym (some_is (f y) k e)) h))

  none_supplied : (x : Content) (o : Option Supplied) (k : BrickKind) → option_map whose.Svc o ≡ Some k → Holds x k → ⊥
  none_supplied x None k e h = no_some k e
  none_supplied x (Some s) k e h = subst (Holds x) (sym (some_is (whose.Svc s) k e)) h

  by_kind : (n : ℕ) (k : Kind) (s : BrickSort) (code : Option ProcCode) (whole : BrickKind) (x : Content) → kind_by l p n k s code ≡ Some whole → Holds x whole → content_by l p n s code ≡ Some x
  by_kind n kind.Own s code whole x e h = kept whose.Own x (λ y g. g) (content_by l p n s code) whole e h
  by_kind n kind.Ent s code whole x e h = kept whose.Ent x (λ y g. g) (content_by l p n s code) whole e h
  by_kind n kind.Ext s code whole x e h = absurd (subst (Holds x) (sym (some_is (whose.Ext (external_of s)) whole e)) h)
  by_kind n kind.Svc s code whole x e h = absurd (none_supplied x (supplied_of s) whole e h)

  here_by : (n : ℕ) (k : Kind) (s : BrickSort) (code : Option ProcCode) (whole : BrickKind) (x : Content) → kind_by l p n k s code ≡ Some whole → Holds x whole → is_here k ≡ true
  here_by n kind.Own s code whole x e h = refl
  here_by n kind.Ent s code whole x e h = refl
  here_by n kind.Ext s code whole x e h = absurd (subst (Holds x) (sym (some_is (whose.Ext (external_of s)) whole e)) h)
  here_by n kind.Svc s code whole x e h = absurd (none_supplied x (supplied_of s) whole e h)

  -- what brick k holds is made of the brick at its place, an own or ENT one
  content_at : (o : ObjectParts) (k : ℕ) (c : Compiled) (x : Content) → IsObjectWith l p o → slice_get o.bricks k ≡ Some c → Holds x c.kind → (d : Brick) × (slice_get p.bricks k ≡ Some d) × (content_by l p k d.sort (code_by l p k d d.sort) ≡ Some x) × (is_here d.kind ≡ true)
  content_at o k c x w at h =
      let m = made_at o.bricks p.bricks 0 k c w.bricks at in
      let d = m.0 in
      let here : 0 + k ≡ k = omega arith in
      let made : brick l p k d ≡ Some c = subst (λ (i : ℕ). brick l p i d ≡ Some c) here m.2 in
      let left = named_left d.name (kind_by l p k d.kind d.sort (code_by l p k d d.sort)) c made in
      (d, m.1, by_kind k d.kind d.sort (code_by l p k d d.sort) c.kind x left h, here_by k d.kind d.sort (code_by l p k d d.sort) c.kind x left h)

  -- ---- procedures

  record IsMade (k : ℕ) (q : ProcContent) : Type 0 where
    brick_is : Brick
    mode : Mode
    body : ProcBody
    at : slice_get p.bricks k ≡ Some brick_is
    sort_is : brick_is.sort ≡ sort.Proc mode (Some body)
    is : procedure_of mode body.items (body_frame p (parameters_of mode) body) (code_of (procedure l p k brick_is mode body).code) ≡ q

  framed : (m : Mode) (b : ProcBody) (c : ProcCode) (o : Option Frame) (f : Frame) (q : ProcContent) → o ≡ Some f → option_map (λ g. content.Proc (procedure_of m b.items g c)) o ≡ Some (content.Proc q) → procedure_of m b.items f c ≡ q
  framed m b c None f q e g = no_some f e
  framed m b c (Some x) f q e g =
      let same = some_is x f e in
      let whole : content.Proc (procedure_of m b.items x c) ≡ content.Proc q = some_is (content.Proc (procedure_of m b.items x c)) (content.Proc q) g in
      let inner : procedure_of m b.items x c ≡ q = cc in
      ap (λ (y : Frame). procedure_of m b.items y c) (sym same) ∙ inner

  made_of : (k : ℕ) (d : Brick) (q : ProcContent) (s : BrickSort) → slice_get p.bricks k ≡ Some d → d.sort ≡ s → content_by l p k s (code_by l p k d s) ≡ Some (content.Proc q) → IsMade k q
  made_of k d q (sort.Proc m (Some b)) at is e =
      let its : frame p k ≡ Some (body_frame p (parameters_of m) b) = ap (λ (o : Option Brick). with o (λ (x : Brick). frame_in p x.sort)) at ∙ ap (frame_in p) is in
      record { brick_is = d; mode = m; body = b; at = at; sort_is = is; is = framed m b (code_of (procedure l p k d m b).code) (frame p k) (body_frame p (parameters_of m) b) q its e }
  made_of k d q (sort.Proc m None) at is e = no_some (content.Proc q) e
  made_of k d q (sort.Data fs ss) at is e = absurd cc
  made_of k d q (sort.Stack n) at is e = absurd cc

  -- ---- data

  record IsLaid (k : ℕ) (x : DataContent) : Type 0 where
    fields : List Field
    starts : List DataStart
    of : IsDataBrick p fields starts
    is : items_of fields (data_of l (scope_of p) fields starts) ≡ x

  no_frame : (f : Frame → ProcContent) (o : Option Frame) (x : DataContent) → option_map (λ g. content.Proc (f g)) o ≡ Some (content.Data x) → ⊥
  no_frame f None x e = no_some (content.Data x) e
  no_frame f (Some g) x e = absurd cc

  laid_of : (k : ℕ) (d : Brick) (x : DataContent) (s : BrickSort) → slice_get p.bricks k ≡ Some d → is_here d.kind ≡ true → d.sort ≡ s → content_by l p k s (code_by l p k d s) ≡ Some (content.Data x) → IsLaid k x
  laid_of k d x (sort.Proc m (Some b)) at here is e = absurd (no_frame (λ g. procedure_of m b.items g (code_of (procedure l p k d m b).code)) (frame p k) x e)
  laid_of k d x (sort.Proc m None) at here is e = no_some (content.Data x) e
  laid_of k d x (sort.Data fs ss) at here is e =
      let whole : content.Data (items_of fs (data_of l (scope_of p) fs ss)) ≡ content.Data x = some_is (content.Data (items_of fs (data_of l (scope_of p) fs ss))) (content.Data x) e in
      record { fields = fs; starts = ss; of = record { number = k; brick = d; there = at; here = here; sort_is = is }; is = cc }
  laid_of k d x (sort.Stack n) at here is e = absurd cc

  as_many : (bs : List Compiled) (ds : List Brick) (n : ℕ) → map Some bs ≡ bricks l p n ds → length bs ≡ length ds
  as_many [] [] n e = refl
  as_many [] (d ∷ ds) n e = absurd cc
  as_many (b ∷ bs) [] n e = absurd cc
  as_many (b ∷ bs) (d ∷ ds) n e = let rest : map Some bs ≡ bricks l p (n + 1) ds = cc in ap suc (as_many bs ds (n + 1) rest)

  -- ---- the code of procedures

  behind : (xs ys : List IProc) (i : IProc) → (n : ℕ) × (slice_get ys n ≡ Some i) → (n : ℕ) × (slice_get (xs ++ ys) n ≡ Some i)
  behind [] ys i h = h
  behind (x ∷ xs) ys i h = let r = behind xs ys i h in (suc r.0, r.1)

  there : (ds : List Brick) (n k : ℕ) (d : Brick) (m : Mode) (b : ProcBody) → slice_get ds k ≡ Some d → d.sort ≡ sort.Proc m (Some b) → (j : ℕ) × (slice_get (procedures l p n ds) j ≡ Some (procedure l p (n + k) d m b))
  there [] n k d m b at is = no_some d at
  there (x ∷ ds) n zero d m b at is =
      let same = some_is x d at in
      let sorted : x.sort ≡ sort.Proc m (Some b) = ap (λ (y : Brick). y.sort) same ∙ is in
      let here : n ≡ n + 0 = omega arith in
      let made : slice_get (procedure_by l p n x x.sort ++ procedures l p (n + 1) ds) 0 ≡ Some (procedure l p n x m b) = ap (λ (s : BrickSort). slice_get (procedure_by l p n x s ++ procedures l p (n + 1) ds) 0) sorted in
      (0, made ∙ ap (λ (y : Brick). Some (procedure l p n y m b)) same ∙ ap (λ (i : ℕ). Some (procedure l p i d m b)) here)
  there (x ∷ ds) n (suc k) d m b at is =
      let r = there ds (n + 1) k d m b at is in
      let here : (n + 1) + k ≡ n + suc k = omega arith in
      let found : slice_get (procedures l p (n + 1) ds) r.0 ≡ Some (procedure l p (n + suc k) d m b) = r.1 ∙ ap (λ (i : ℕ). Some (procedure l p i d m b)) here in
      behind (procedure_by l p n x x.sort) (procedures l p (n + 1) ds) (procedure l p (n + suc k) d m b) (r.0, found)

-- the laws of templates that are cited
pub record Coding : Type 0 where
  pub weighs : CodeWeighs
  pub marked : CodeIsMarked
  pub small : MarksAreSmall
  pub rise : PlacesRise

low_proc : Coding → (l : Layouts) (p : ModuleParts) (k : ℕ) (q : ProcContent) → AreShort (intermediate l p) → Within p → ItemsAreFew p → IsMade l p k q → ProcIsLow q
low_proc laws l p k q short within few h = subst ProcIsLow h.is (record {
  items = few k h.brick_is h.mode h.body h.at h.sort_is;
  locals = kept_in.locals;
  deep = kept_in.depth;
  words = words;
  marks = laws.marked its;
  each_mark = all_so IsSmall (λ n. n ≤ 2) (code_of its).marks (λ n s. omega (arith, s)) (laws.small its);
  count = count;
  in_place = record { rise = rising 1 (length (code_of its).words) (code_of its).relocations (laws.rise its); inside = all_inside 1 (length (code_of its).words) (code_of its).relocations (laws.rise its) };
}) where
  its : List Ins
  its = (procedure l p k h.brick_is h.mode h.body).code

  kept_in : ProcWithin p (parameters_of h.mode) h.body
  kept_in = subst (SortWithin p) h.sort_is (all_get (λ (b : Brick). SortWithin p b.sort) p.bricks k h.brick_is within h.at)

  words : length (code_of its).words ≤ 16383
  words = let here : 0 + k ≡ k = omega arith in let j = there l p p.bricks 0 k h.brick_is h.mode h.body h.at h.sort_is in subst (λ (n : ℕ). n ≤ 16383) (sym (laws.weighs its)) (short j.0 (procedure l p k h.brick_is h.mode h.body) (j.1 ∙ ap (λ (i : ℕ). Some (procedure l p i h.brick_is h.mode h.body)) here))

  count : length (code_of its).relocations ≤ 65535
  count = let less = fewer (length (code_of its).words) (code_of its).relocations (laws.rise its) in omega (arith, less, words)

pub procedures_are_low : Coding → TreesPromise → ProceduresAreLow
procedures_are_low laws trees text p o k b t of at q holds =
    let has = trees text p t in
    let x = content_at of.layouts p o k b (content.Proc q) of.object at holds in
    low_proc laws of.layouts p k q of.object.short has.procedures_are_within has.items_are_few (made_of of.layouts p k x.0 q x.0.sort x.1 refl x.2)

low_data : PlacesAreWithin → PlacesAreNamed → (l : Layouts) (p : ModuleParts) (k : ℕ) (x : DataContent) → every_node_fits p ≡ true → IsLaid l p k x → DataIsLow (length p.strings) (length p.bricks) x
low_data within named l p k x fits h =
    let w = within l (scope_of p) h.fields h.starts in
    subst (DataIsLow (length p.strings) (length p.bricks)) h.is (record { in_place = record { rise = w.rise; inside = w.inside }; named = named l p h.fields h.starts fits h.of })

pub data_are_low : PlacesAreWithin → PlacesAreNamed → TreesPromise → DataAreLow
data_are_low within named trees text p o k b t of at d holds =
    let has = trees text p t in
    let x = content_at of.layouts p o k b (content.Data d) of.object at holds in
    let low = low_data within named of.layouts p k d has.nodes_fit (laid_of of.layouts p k x.0 d x.0.sort x.1 x.3 refl x.2) in
    let strings : length p.strings ≡ length o.strings = ap length (sym of.object.strings) in
    let many : length p.bricks ≡ length o.bricks = sym (as_many of.layouts p o.bricks p.bricks 0 of.object.bricks) in
    subst (λ (n : ℕ). DataIsLow (length o.strings) n d) many (subst (λ (n : ℕ). DataIsLow n (length p.bricks) d) strings low)

-- ---- stacks and strings

within : (a b : ℕ) → nat_le a b ≡ true → a ≤ b
within a b h = grind (arith, nat_tests)

own_words : (k : Kind) (n : ℕ) → is_here k ≡ true → words_fit k n ≡ true → (1 ≤ n) × (n ≤ 28672)
own_words kind.Own n here h = (within 1 n (left_of (nat_le 1 n) (nat_le n 28672) h), within n 28672 (right_of (nat_le 1 n) (nat_le n 28672) h))
own_words kind.Ent n here h = (within 1 n (left_of (nat_le 1 n) (nat_le n 28672) h), within n 28672 (right_of (nat_le 1 n) (nat_le n 28672) h))
own_words kind.Ext n here h = absurd cc
own_words kind.Svc n here h = absurd cc

module _ (l : Layouts) (p : ModuleParts) (fits : every_node_fits p ≡ true) where
  stack_of : (k : ℕ) (d : Brick) (n : ℕ) (s : BrickSort) → slice_get p.bricks k ≡ Some d → is_here d.kind ≡ true → d.sort ≡ s → content_by l p k s (code_by l p k d s) ≡ Some (content.Stack n) → (1 ≤ n) × (n ≤ 28672)
  stack_of k d n (sort.Proc m (Some b)) at here is e = absurd (none_of (frame p k) e) where
    none_of : (o : Option Frame) → option_map (λ g. content.Proc (procedure_of m b.items g (code_of (procedure l p k d m b).code))) o ≡ Some (content.Stack n) → ⊥
    none_of None e = no_some (content.Stack n) e
    none_of (Some g) e = absurd cc
  stack_of k d n (sort.Proc m None) at here is e = no_some (content.Stack n) e
  stack_of k d n (sort.Data fs ss) at here is e = absurd cc
  stack_of k d n (sort.Stack m) at here is e =
      let whole : content.Stack m ≡ content.Stack n = some_is (content.Stack m) (content.Stack n) e in
      let same : m ≡ n = cc in
      let words : words_fit d.kind m ≡ true = ap (λ (s : BrickSort). sort_fits (scope_of p) d.kind d.name s) (sym is) ∙ brick_fit p fits k d at in
      subst (λ (w : ℕ). (1 ≤ w) × (w ≤ 28672)) same (own_words d.kind m here words)

pub stacks_are_low : TreesPromise → StacksAreLow
stacks_are_low trees text p o k b t of at n holds =
    let x = content_at of.layouts p o k b (content.Stack n) of.object at holds in
    stack_of of.layouts p (trees text p t).nodes_fit k x.0 n x.0.sort x.1 x.3 refl x.2

pub strings_are_low : TreesPromise → StringsAreLow
strings_are_low trees text p o t of =
    let has = trees text p t in
    subst (AllByRecursion (λ (s : List ℕ). (length s ≤ 8191) × AllByRecursion IsByte s)) (sym of.object.strings) (from_each p.strings (λ k s e. (short p has.nodes_fit k s e, has.numbers_fit.bytes k s e))) where
      from_each : (ss : List (List ℕ)) → ((k : ℕ) (s : List ℕ) → slice_get ss k ≡ Some s → (length s ≤ 8191) × AllByRecursion IsByte s) → AllByRecursion (λ (s : List ℕ). (length s ≤ 8191) × AllByRecursion IsByte s) ss
      from_each [] h = tt
      from_each (s ∷ ss) h = (h 0 s refl, from_each ss (λ k x e. h (suc k) x e))
