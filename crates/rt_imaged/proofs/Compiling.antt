-- What the object of a tree has of each of its procedures.
use Rattle.std.proofs.Common.{true, ◌≡◌, ℕ, zero, suc, ◌≤◌, List, [], ◌∷◌, length, Option, Some, None, option_map, slice_get, refl, sym, ap, ◌∙◌, subst, arith, length-append}
use Rattle.std.proofs.lemmas.Option.{slice_get_within}
use Rattle.rt_modes.specs.declared.mode.Mode.{Mode}
use Rattle.rt_tree_nodes.specs.declared.brick.Brick.{Brick}
use Rattle.rt_tree_nodes.specs.declared.brick.BrickSort.{BrickSort}
use Rattle.rt_tree_nodes.specs.declared.brick.BrickSort.TheVariants as sort
use Rattle.rt_tree_nodes.specs.declared.brick.Kind.{Kind}
use Rattle.rt_tree_nodes.specs.declared.brick.Kind.TheVariants as kind
use Rattle.rt_tree_nodes.specs.declared.brick.ModuleParts.{ModuleParts}
use Rattle.rt_tree_nodes.specs.declared.brick.ProcBody.{ProcBody}
use Rattle.rt_tree_nodes.specs.declared.store.Proc.{Proc}
use Rattle.rt_tree_nodes.specs.Scopes.{scope_of}
use Rattle.rt_tree.specs.Modules.{is_here}
use Rattle.rt_tree.specs.Stored.{System}
use Rattle.rt_sizes.proofs.Layers.{some_is}
use Rattle.rt_system.specs.declared.parts.Task.{Task}
use Rattle.rt_image.specs.declared.image.ImageParts.{ImageParts}
use Rattle.rt_image.specs.declared.map.Map.{Map}
use Rattle.rt_object.specs.declared.object.Brick.{Brick as Compiled}
use Rattle.rt_object.specs.declared.object.BrickKind.{BrickKind}
use Rattle.rt_object.specs.declared.object.BrickKind.TheVariants as whose
use Rattle.rt_object.specs.declared.object.Content.{Content}
use Rattle.rt_object.specs.declared.object.Content.TheVariants as content
use Rattle.rt_object.specs.declared.object.ObjectParts.{ObjectParts}
use Rattle.rt_object.specs.declared.object.ProcContent.{ProcContent}
use Rattle.rt_frames.specs.declared.frame.Frame.{Frame}
use Rattle.rt_frames.specs.Frames.{frame}
use Rattle.rt_graph.specs.Calls.{numbered, content_of, content_at}
use Rattle.rt_lower.specs.declared.layouts.Layouts.{Layouts}
use Rattle.pdp_code.specs.Code.{words_of}
use Rattle.rt_templates.specs.declared.code.ProcCode.{ProcCode}
use Rattle.rt_templates.specs.declared.line.Line.{Line}
use Rattle.rt_templates.specs.Lines as lines
use Rattle.rt_templates.specs.Expanded as expanded
use Rattle.rt_compile.specs.Data.{data_of}
use Rattle.rt_compile.specs.Objects as objects
use Rattle.rt_compile.specs.Objects.{procedure_of}
use Rattle.rt_link.specs.Room.{bricks_in}
use Rattle.rt_imaged.specs.Coded.{TheyHaveWords}
use Rattle.rt_imaged.specs.Compiled.{lowered, ProcsAreCompiled, ProcsAreBuilt}
use Rattle.rt_imaged.specs.Whole.{IsSystem}
use Rattle.rt_imaged.proofs.Resolving.{there_is}
use Rattle.rt_imaged.proofs.Seated.{proc_lies}
use Rattle.rt_imaged.proofs.Trees.{its_brick}
use Rattle.rt_imaged.proofs.Tasks.{bricks_long, map_long}

-- ---- from a tree's procedure to what its object holds

mapped_left : {A B : Type 0} (f : A → B) (q : Option A) (y : B) → option_map f q ≡ Some y → (x : A) × (q ≡ Some x) × (f x ≡ y)
mapped_left f None y e = absurd cc
mapped_left f (Some x) y e = (x, refl, some_is (f x) y e)

module _ (l : Layouts) (p : ModuleParts) (k : ℕ) (d : Brick) where
  -- the content of an own or ENT brick
  here_left : (w : Kind) (s : BrickSort) (c : Compiled) → is_here w ≡ true → option_map (objects.named d.name) (objects.kind_by l p k w s (objects.code_by l p k d s)) ≡ Some c
      → (x : Content) × (objects.content_by l p k s (objects.code_by l p k d s) ≡ Some x) × (content_of c.kind ≡ Some x)
  here_left kind.Own s c here e =
      let a = mapped_left (objects.named d.name) (option_map whose.Own (objects.content_by l p k s (objects.code_by l p k d s))) c e in
      let b = mapped_left whose.Own (objects.content_by l p k s (objects.code_by l p k d s)) a.0 a.1 in
      (b.0, b.1, ap (λ (z : Compiled). content_of z.kind) (sym a.2) ∙ ap content_of (sym b.2))
  here_left kind.Ent s c here e =
      let a = mapped_left (objects.named d.name) (option_map whose.Ent (objects.content_by l p k s (objects.code_by l p k d s))) c e in
      let b = mapped_left whose.Ent (objects.content_by l p k s (objects.code_by l p k d s)) a.0 a.1 in
      (b.0, b.1, ap (λ (z : Compiled). content_of z.kind) (sym a.2) ∙ ap content_of (sym b.2))
  here_left kind.Ext s c here e = absurd cc
  here_left kind.Svc s c here e = absurd cc

  pub record Holds (mode : Mode) (some_body : Option ProcBody) (x : Content) : Type 0 where
    pub body : ProcBody
    pub has_body : some_body ≡ Some body
    pub its_frame : Frame
    pub framed : frame p k ≡ Some its_frame
    pub is : content.Proc (procedure_of mode body.items its_frame (expanded.code_of (lowered l p k mode body))) ≡ x

  body_left : (mode : Mode) (body : Option ProcBody) (x : Content) → objects.content_by l p k (sort.Proc mode body) (objects.code_by l p k d (sort.Proc mode body)) ≡ Some x → Holds mode body x
  body_left mode None x e = absurd cc
  body_left mode (Some b) x e =
      let a = mapped_left (λ (f : Frame). content.Proc (procedure_of mode b.items f (expanded.code_of (lowered l p k mode b)))) (frame p k) x e in
      record { body = b; has_body = refl; its_frame = a.0; framed = a.1; is = a.2 }

  -- what holds a procedure is an own or ENT one
  sort_left : (s : BrickSort) (c : Option ProcCode) (x : ProcContent) → objects.content_by l p k s c ≡ Some (content.Proc x) → (mode : Mode) × (body : Option ProcBody) × (s ≡ sort.Proc mode body)
  sort_left (sort.Proc mode body) c x e = (mode, body, refl)
  sort_left (sort.Data fs ss) c x e = absurd (let bad : content.Data (objects.items_of fs (data_of l (scope_of p) fs ss)) ≡ content.Proc x = some_is (content.Data (objects.items_of fs (data_of l (scope_of p) fs ss))) (content.Proc x) e in cc)
  sort_left (sort.Stack n) c x e = absurd (let bad : content.Stack n ≡ content.Proc x = some_is (content.Stack n) (content.Proc x) e in cc)

  outside : (c : Compiled) (q : BrickKind) (x : Content) → objects.named d.name q ≡ c → content_of q ≡ None → content_of c.kind ≡ Some x → ⊥
  outside c q x is none e = let bad : None ≡ Some x = sym none ∙ ap (λ (z : Compiled). content_of z.kind) is ∙ e in cc

  proc_left : (w : Kind) (s : BrickSort) (c : Compiled) (x : ProcContent) → option_map (objects.named d.name) (objects.kind_by l p k w s (objects.code_by l p k d s)) ≡ Some c → content_of c.kind ≡ Some (content.Proc x)
      → (is_here w ≡ true) × (mode : Mode) × (body : Option ProcBody) × (s ≡ sort.Proc mode body)
  proc_left kind.Own s c x e h = let a = here_left kind.Own s c refl e in let same : a.0 ≡ content.Proc x = some_is a.0 (content.Proc x) (sym a.2 ∙ h) in let r = sort_left s (objects.code_by l p k d s) x (a.1 ∙ ap (λ (z : Content). Some z) same) in (refl, r.0, r.1, r.2)
  proc_left kind.Ent s c x e h = let a = here_left kind.Ent s c refl e in let same : a.0 ≡ content.Proc x = some_is a.0 (content.Proc x) (sym a.2 ∙ h) in let r = sort_left s (objects.code_by l p k d s) x (a.1 ∙ ap (λ (z : Content). Some z) same) in (refl, r.0, r.1, r.2)
  proc_left kind.Ext s c x e h = absurd (outside c (whose.Ext (objects.external_of s)) (content.Proc x) (some_is (objects.named d.name (whose.Ext (objects.external_of s))) c e) refl h)
  proc_left kind.Svc s c x e h =
      let a = mapped_left (objects.named d.name) (option_map whose.Svc (objects.supplied_of s)) c e in
      let b = mapped_left whose.Svc (objects.supplied_of s) a.0 a.1 in
      absurd (outside c a.0 (content.Proc x) a.2 (ap content_of (sym b.2)) h)

-- ---- the procedures of a system

pub procs_are_compiled : ProcsAreCompiled
procs_are_compiled ps ls os tasks image mapped s zero b p d mode body has here is = absurd (let e = has.of in none_at e)
  where
    none_at : {A : Type 0} → None ≡ Some p → A
    none_at e = absurd cc
procs_are_compiled ps ls os tasks image mapped s (suc i) b p d mode body has here is =
    let less = slice_get_within ps i p has.of in
    let longs = s.layouts in
    let sames = s.same in
    let l = there_is ls i (omega arith) in
    let o = there_is os i (omega arith) in
    let tree = s.trees i p l.0 o.0 has.of l.1 o.1 in
    let c = its_brick l.0 p o.0 b d tree.object.bricks has.at in
    let x = here_left l.0 p b d d.kind d.sort c.0 here c.2 in
    let y = body_left l.0 p b d mode body x.0 (subst (λ (z : BrickSort). objects.content_by l.0 p b z (objects.code_by l.0 p b d z) ≡ Some x.0) is x.1) in
    record {
      body = y.body;
      has_body = y.has_body;
      layouts = l.0;
      at = l.1;
      right = tree.right;
      object = o.0;
      of = o.1;
      its = c.0;
      there = c.1;
      its_frame = y.its_frame;
      framed = y.framed;
      holds = x.2 ∙ ap (λ (z : Content). Some z) (sym y.is);
    }

pub procs_are_built : ProcsAreBuilt
procs_are_built laws ps ls os tasks image mapped s h m b p d mode body has here is =
    let c = procs_are_compiled ps ls os tasks image mapped s m b p d mode body has here is in
    (c, proc_lies laws ps ls os tasks image mapped s h m b c.object c.its (procedure_of mode c.body.items c.its_frame (expanded.code_of (lowered c.layouts p b mode c.body))) c.of c.there c.holds)

-- ---- each has a word

abbrev IsSome : List Line → Type 0
IsSome [] = ⊥
IsSome (l ∷ ls) = Unit {0}

some_words : (ls : List Line) → IsSome ls → 1 ≤ length (lines.words ls)
some_words [] h = absurd h
some_words (l ∷ ls) h = let a = length-append (words_of l.instr) (lines.words ls) in omega arith

-- the code begins with the frame
has_word : (l : Layouts) (p : ModuleParts) (b : ℕ) (mode : Mode) (body : ProcBody) → 1 ≤ length (expanded.code_of (lowered l p b mode body)).words
has_word l p b mode body = some_words (expanded.lines_of (lowered l p b mode body)) tt

words_in : Content → List ℕ
words_in (content.Proc x) = x.words
words_in _ = []

words_same : (c x : ProcContent) → content.Proc c ≡ content.Proc x → c.words ≡ x.words
unfolding words_in
words_same c x e = ap words_in e

held_left : (os : List ObjectParts) (i b : ℕ) (c : Content) (q : Option ObjectParts) → content_at (slice_get (bricks_in q) b) ≡ Some c → (o : ObjectParts) × (q ≡ Some o) × (its : Compiled) × (slice_get o.bricks b ≡ Some its) × (content_of its.kind ≡ Some c)
held_left os i b c None e = absurd cc
held_left os i b c (Some o) e = by (slice_get o.bricks b) refl e
  where
    by : (r : Option Compiled) → slice_get o.bricks b ≡ r → content_at r ≡ Some c → (u : ObjectParts) × (Some o ≡ Some u) × (its : Compiled) × (slice_get u.bricks b ≡ Some its) × (content_of its.kind ≡ Some c)
    by None at h = absurd cc
    by (Some d) at h = (o, refl, d, at, h)

module _ (ps : System) (ls : List Layouts) (os : List ObjectParts) (tasks : List Task) (image : ImageParts) (mapped : Map) (s : IsSystem ps ls os tasks image mapped) where
  words_of_brick : (i b : ℕ) (o : ObjectParts) (its : Compiled) (x : ProcContent) → slice_get os i ≡ Some o → slice_get o.bricks b ≡ Some its → content_of its.kind ≡ Some (content.Proc x) → 1 ≤ length x.words
  words_of_brick i b o its x at there holds =
      let less = slice_get_within os i o at in
      let longs = s.layouts in
      let sames = s.same in
      let p = there_is ps i (omega arith) in
      let l = there_is ls i (omega arith) in
      let tree = s.trees i p.0 l.0 o p.1 l.1 at in
      let in_bricks = slice_get_within o.bricks b its there in
      let many : length o.bricks ≡ length p.0.bricks = sym (map_long (λ (c : Compiled). Some c) o.bricks) ∙ ap length tree.object.bricks ∙ bricks_long l.0 p.0 0 p.0.bricks in
      let d = there_is p.0.bricks b (omega arith) in
      let c = its_brick l.0 p.0 o b d.0 tree.object.bricks d.1 in
      let same : c.0 ≡ its = some_is c.0 its (sym c.1 ∙ there) in
      let made : content_of c.0.kind ≡ Some (content.Proc x) = ap (λ (z : Compiled). content_of z.kind) same ∙ holds in
      let left = proc_left l.0 p.0 b d.0 d.0.kind d.0.sort c.0 x c.2 made in
      let y = here_left l.0 p.0 b d.0 d.0.kind d.0.sort c.0 left.0 c.2 in
      let z = body_left l.0 p.0 b d.0 left.1 left.2 y.0 (subst (λ (q : BrickSort). objects.content_by l.0 p.0 b q (objects.code_by l.0 p.0 b d.0 q) ≡ Some y.0) left.3 y.1) in
      let all : content.Proc (procedure_of left.1 z.body.items z.its_frame (expanded.code_of (lowered l.0 p.0 b left.1 z.body))) ≡ content.Proc x = z.is ∙ some_is y.0 (content.Proc x) (sym y.2 ∙ made) in
      let its_words = expanded.code_of (lowered l.0 p.0 b left.1 z.body) in
      subst (λ (q : List ℕ). 1 ≤ length q) (words_same (procedure_of left.1 z.body.items z.its_frame its_words) x all) (has_word l.0 p.0 b left.1 z.body)

  have_by : (f : Proc) (x : ProcContent) (m : ℕ) → content_at (slice_get (bricks_in (numbered os m)) f.brick) ≡ Some (content.Proc x) → 1 ≤ length x.words
  have_by f x zero e = absurd cc
  have_by f x (suc i) e =
      let h = held_left os i f.brick (content.Proc x) (slice_get os i) e in
      words_of_brick i f.brick h.0 h.2 x h.1 h.3 h.4

pub they_have_words : TheyHaveWords
they_have_words ps ls os tasks image mapped s f x e = have_by ps ls os tasks image mapped s f x f.module e
