-- What is left of each procedure that is reached, from its module and the linker's needs.
use Rattle.std.proofs.Common.{true, false, Bool, ◌≡◌, ℕ, zero, suc, ◌+◌, ◌-◌, ◌<◌, ◌≤◌, List, [], ◌∷◌, ◌++◌, length, map, codes, Option, Some, None, slice_get, if◌then◌else◌, refl, sym, ap, ◌∙◌, subst, arith}
use Rattle.std.specs.Prelude.{slice_index_or}
use Rattle.std.specs.List.{AllByRecursion, Contains}
use Rattle.rt_modes.specs.declared.mode.Mode.{Mode}
use Rattle.rt_modes.specs.declared.mode.Mode.TheVariants as mode
use Rattle.rt_modes.specs.declared.mode.Mode.TheOpen.{Mode-F}
use Rattle.rt_modes.specs.declared.mode.ModeTable.{ModeTable}
use Rattle.rt_tree_nodes.specs.declared.brick.Brick.{Brick}
use Rattle.rt_tree_nodes.specs.declared.brick.BrickSort.{BrickSort}
use Rattle.rt_tree_nodes.specs.declared.brick.BrickSort.TheVariants as sort
use Rattle.rt_tree_nodes.specs.declared.brick.Kind.{Kind}
use Rattle.rt_tree_nodes.specs.declared.brick.Kind.TheVariants as kind
use Rattle.rt_tree_nodes.specs.declared.brick.ModuleParts.{ModuleParts}
use Rattle.rt_tree_nodes.specs.declared.brick.ProcBody.{ProcBody}
use Rattle.rt_tree_nodes.specs.declared.store.Datum.TheVariants.{Word}
use Rattle.rt_tree_nodes.specs.declared.store.Location.{Location}
use Rattle.rt_tree_nodes.specs.declared.store.Location.TheVariants.{Shared}
use Rattle.rt_tree_nodes.specs.declared.store.Origin.{Origin}
use Rattle.rt_tree_nodes.specs.declared.store.Origin.TheVariants as origin
use Rattle.rt_tree_nodes.specs.declared.store.Proc.{Proc}
use Rattle.rt_tree_nodes.specs.Scopes.{fields_of, is_svc, with}
use Rattle.rt_tree_nodes.specs.Typing.{signature_by}
use Rattle.rt_tree.specs.Depth.{sequence_recovers}
use Rattle.rt_tree.specs.Modules.{is_here}
use Rattle.rt_tree.specs.Opened.{FullModesOpen}
use Rattle.rt_tree.specs.Stored.{System, HasBrick, StandsAt, in_brick, in_text, int, brick}
use Rattle.rt_tree.specs.Within.{Within, SortWithin, ProcWithin, parameters_by, parameters_of, tree_of}
use Rattle.rt_sizes.proofs.Layers.{some_is}
use Rattle.rt_resolve.specs.Matching.{no_records, int_taken}
use Rattle.rt_resolve.specs.Systems.{world}
use Rattle.rt_work_state.specs.Stores.{supplied}
use Rattle.rt_meaning_laws.specs.Grounds.{Sound}
use Rattle.rt_meaning_laws.specs.Laws.{ModulesMakeSystems}
use Rattle.rt_meaning_laws.specs.Levels.{of_supplied}
use Rattle.rt_meaning_laws.specs.Modules.{ModulesFit}
use Rattle.rt_meaning_laws.specs.Systems.{SystemFits, site_of, at_start}
use Rattle.rt_meaning_laws.specs.Work.{MayCall}
use Rattle.rt_meaning_laws.proofs.Entering.{first_counts}
use Rattle.rt_meaning_laws.proofs.Errors.{erp_full, int_taken_stands}
use Rattle.rt_meaning_laws.proofs.Modes.{words_stand, int_is_word, out_int, out_proc}
use Rattle.rt_meaning_laws.proofs.Nodes.{proc_opens}
use Rattle.rt_meaning_laws.proofs.Soundness.{sound}
use Rattle.rt_object.specs.declared.object.Brick.{Brick as Compiled}
use Rattle.rt_object.specs.declared.object.BrickKind.{BrickKind}
use Rattle.rt_object.specs.declared.object.BrickKind.TheVariants as whose
use Rattle.rt_object.specs.declared.object.Call.{Call}
use Rattle.rt_object.specs.declared.object.Content.{Content}
use Rattle.rt_object.specs.declared.object.Content.TheVariants as content
use Rattle.rt_object.specs.declared.object.ObjectParts.{ObjectParts}
use Rattle.rt_object.specs.declared.object.ProcContent.{ProcContent}
use Rattle.rt_object.specs.declared.object.Relocated.TheVariants.{Brick as Named}
use Rattle.rt_object.specs.Ranges.{HasObjectRanges, HasBrickRanges, HasKindRanges, HasContentRanges}
use Rattle.rt_match.specs.declared.bindings.Bound.{Bound}
use Rattle.rt_system.specs.declared.parts.Task.{Task}
use Rattle.rt_image.specs.declared.image.ImageParts.{ImageParts}
use Rattle.rt_image.specs.declared.map.Map.{Map}
use Rattle.rt_digraph.specs.Walks.{Has, next}
use Rattle.rt_graph.specs.Calls as graph
use Rattle.rt_graph.specs.Calls.{HasBody, Calls, at_point, in_service, body_in, content_of, content_at, proc_at}
use Rattle.rt_graph.specs.Laws.{PointsFit, DepthsFit, ServicesFit, NeedsSome}
use Rattle.rt_graph.specs.Needs.{kept, HasNeed}
use Rattle.rt_graph.specs.Scans.{told_need}
use Rattle.rt_frames.specs.Frames as frames
use Rattle.rt_frames.specs.Frames.{body_frame, frame_in}
use Rattle.rt_frames.specs.declared.frame.CallPoint.{CallPoint}
use Rattle.rt_frames.specs.declared.frame.Frame.{Frame}
use Rattle.rt_frames.specs.declared.frame.Target.{Target}
use Rattle.rt_frames.specs.declared.frame.Target.TheVariants as target
use Rattle.rt_frames_laws.specs.Laws.{plain_tree, tree_in}
use Rattle.rt_frames_laws.proofs.Frames.{all_plain}
use Rattle.rt_icode.specs.declared.ins.Fixed.{Fixed}
use Rattle.rt_icode.specs.declared.ins.Ins.TheVariants as ins
use Rattle.rt_icode.specs.declared.procedure.IProc.{IProc}
use Rattle.rt_icode.specs.Within.{IsWithin}
use Rattle.rt_icode_meaning.specs.Lowered as lowered
use Rattle.rt_icode_meaning.specs.Lowered.{FrameFits, held_by}
use Rattle.rt_icode_meaning.specs.Move.{within_fields}
use Rattle.rt_icode_meaning.specs.Typed.{IsFixed, ArgsFit}
use Rattle.rt_lower.specs.declared.layouts.Layouts.{Layouts}
use Rattle.rt_lower.specs.Layouts.{AreLayouts}
use Rattle.rt_lower.specs.Code.{procedure, procedure_by, procedures, intermediate}
use Rattle.rt_lower_laws.specs.Laws.{CodeIsWithin}
use Rattle.rt_lower_meaning.specs.Laws.{LoweringKeeps, NothingRecovers}
use Rattle.rt_lower_meaning.proofs.Between.{arguments_fit}
use Rattle.rt_lower_meaning.proofs.Bounded.{body_plain}
use Rattle.rt_lower_meaning.proofs.Standing.{each_is}
use Rattle.rt_templates.specs.Expanded as expanded
use Rattle.rt_compile.specs.Objects.{call_of, target_of, procedure_of}
use Rattle.rt_link.specs.declared.judged.Judged.{Judged}
use Rattle.rt_link.specs.Named.{named_address}
use Rattle.rt_bases.specs.Bases.{base_of}
use Rattle.rt_follows.specs.Whole.{Whole}
use Rattle.rt_support_meaning.specs.Support.{AllReport}
use Rattle.rt_imaged.specs.Bound.{BindAlike}
use Rattle.rt_imaged.specs.Compiled as compiled
use Rattle.rt_imaged.specs.Whole.{need_in, layouts_at, whole_of, IsSystem}
use Rattle.rt_imaged.proofs.Compiling.{procs_are_compiled}
use Rattle.rt_bound.specs.Laws.{BindingsLead, ItemsTell}
use Rattle.rt_bound.specs.Leads.{ProcsLead}
use Rattle.rt_bound.proofs.Alike.{face_left, data_left, svc_nowhere}
use Rattle.rt_bound.proofs.Binding.{bound_alike}
use Rattle.rt_bound.proofs.Leads.{procs_are_led}
use Rattle.rt_bound.proofs.Together.{items_tell}
use Rattle.rt_seam.specs.Seam.{ProcOwed}
use Rattle.rt_owed.specs.Owed.{ModulesStay, IsOwed, SystemsAreOwed}
use Rattle.rt_owed.proofs.Candidates.{candidate_is, leads_same, may_call}
use Rattle.rt_owed.proofs.Names.{SeqNames, seq_names, IsGood, AllGood, good_at, seq_good, code_taken}
use Rattle.rt_owed.proofs.Needs.{ranges_at, is_in, has_in, Needed, needed}

-- ---- a procedure's code is within, among that of its module

left_all : {A : Type 0} (P : A → Type 0) (xs ys : List A) → AllByRecursion P (xs ++ ys) → AllByRecursion P xs
left_all P [] ys h = tt
left_all P (x ∷ xs) ys h = (h.0, left_all P xs ys h.1)

right_all : {A : Type 0} (P : A → Type 0) (xs ys : List A) → AllByRecursion P (xs ++ ys) → AllByRecursion P ys
right_all P [] ys h = h
right_all P (x ∷ xs) ys h = right_all P xs ys h.1

pub procedure_among : (P : IProc → Type 0) (l : Layouts) (p : ModuleParts) (k : ℕ) (ds : List Brick) (j : ℕ) (d : Brick) (m : Mode) (b : ProcBody) → AllByRecursion P (procedures l p k ds) → slice_get ds j ≡ Some d → d.sort ≡ sort.Proc m (Some b) → P (procedure l p (k + j) d m b)
procedure_among P l p k [] j d m b all at is = absurd cc
procedure_among P l p k (x ∷ ds) zero d m b all at is =
    let same : x ≡ d = some_is x d at in
    let first = left_all P (procedure_by l p k x x.sort) (procedures l p (k + 1) ds) all in
    let one = subst (λ (z : Brick). AllByRecursion P (procedure_by l p k z z.sort)) same first in
    let here : k ≡ k + 0 = omega arith in
    subst (λ (n : ℕ). P (procedure l p n d m b)) here (subst (λ (z : BrickSort). AllByRecursion P (procedure_by l p k d z)) is one).0
procedure_among P l p k (x ∷ ds) (suc j) d m b all at is =
    let next : k + 1 + j ≡ k + suc j = omega arith in
    subst (λ (n : ℕ). P (procedure l p n d m b)) next (procedure_among P l p (k + 1) ds j d m b (right_all P (procedure_by l p k x x.sort) (procedures l p (k + 1) ds) all) at is)

-- ---- data that a module names

-- a fixed place is one of the brick to which the brick leads that it names
within_are : (o : Origin) (path ks : List ℕ) → (more : List ℕ) × (within_fields (Shared o path) ks ≡ Shared o more)
within_are o path [] = (path, refl)
within_are o path (k ∷ ks) = within_are o (path ++ k ∷ []) ks

-- where that lies is a brick
stands_in : (ps : System) {l : Location} {t : ModeTable} {m : Mode} (n c : ℕ) (path : List ℕ) → StandsAt ps l t m → l ≡ Shared (origin.Brick n c) path → (q : ModuleParts) × (e : Brick) × HasBrick ps n c q e
stands_in ps n c path (in_brick {m = m} {b = b} {j = j} {path = ks} {p = q} {d = e} h is so f a) same =
    let place = one same in
    (q, e, subst (λ (k : ℕ). HasBrick ps n k q e) place.1 (subst (λ (k : ℕ). HasBrick ps k b q e) place.0 h))
  where
    one : Shared (origin.Brick m b) (j ∷ ks) ≡ Shared (origin.Brick n c) path → (m ≡ n) × (b ≡ c)
    one e = (cc, cc)
stands_in ps n c path (in_text {m = i} {k = k} {path = ks} of g a) same = absurd (no_text same)
  where
    no_text : Shared (origin.Text i k) ks ≡ Shared (origin.Brick n c) path → ⊥
    no_text e = cc

-- ---- the items of a procedure of an object are few

items_few : (o : ObjectParts) (b : ℕ) (c : ProcContent) → HasObjectRanges o → proc_at o.bricks b ≡ Some c → c.items < 65536
items_few o b c r e = by (slice_get o.bricks b) refl e
  where
    in_content : (x : Content) → HasContentRanges o.records.records (length o.strings) (length o.bricks) x → body_in (Some x) ≡ Some c → c.items < 65536
    in_content (content.Proc q) h e = subst (λ (z : ProcContent). z.items < 65536) (some_is q c e) h.items
    in_content (content.Data q) h e = absurd cc
    in_content (content.Stack n) h e = absurd cc

    in_kind : (k : BrickKind) (name : List ℕ) → HasKindRanges o.records.records (length o.strings) (length o.bricks) name k → body_in (content_of k) ≡ Some c → c.items < 65536
    in_kind (whose.Own x) name h e = in_content x h e
    in_kind (whose.Ent x) name h e = in_content x h e
    in_kind (whose.Ext x) name h e = absurd cc
    in_kind (whose.Svc x) name h e = absurd cc

    by : (q : Option Compiled) → slice_get o.bricks b ≡ q → body_in (content_at q) ≡ Some c → c.items < 65536
    by None at e = absurd cc
    by (Some x) at e = in_kind x.kind x.name (each_is (HasBrickRanges o.records.records (length o.strings) (length o.bricks)) o.bricks b x r.each_brick at).kind e

-- ---- one procedure of a system that fits

module _ (ps : System) (fits : SystemFits ps) (m b : ℕ) (p : ModuleParts) (d : Brick) (mode : Mode) (body : ProcBody) (has : HasBrick ps m b p d) (here : is_here d.kind ≡ true) (sorted : d.sort ≡ sort.Proc mode (Some body)) where
  is_frame : frames.frame p b ≡ Some (body_frame p (parameters_of mode) body)
  is_frame = ap (λ (o : Option Brick). with o (λ y. frame_in p y.sort)) has.at ∙ ap (frame_in p) sorted

  is_tree : plain_tree p b ≡ Some (tree_of p body)
  is_tree = ap (λ (o : Option Brick). with o (λ y. tree_in p y.sort)) has.at ∙ ap (tree_in p) sorted

  locals_enough : parameters_of mode ≤ length body.locals
  locals_enough =
      let r = proc_opens p (fits.nodes m has.of) b d mode (Some body) has.at sorted in
      let f = fits.bodies has here mode body r.0 r.1 sorted r.2 in
      let many = first_counts r.0 body.locals f.1.firsts in
      let same : parameters_of mode ≡ length r.0 = ap (λ (z : Mode-F Mode). parameters_by (signature_by z)) r.2 in
      omega (arith, many, same)

  names : SeqNames p (tree_of p body)
  names =
      let r = proc_opens p (fits.nodes m has.of) b d mode (Some body) has.at sorted in
      let f = fits.bodies has here mode body r.0 r.1 sorted r.2 in
      let x = site_of p body r.1 f.0 in
      seq_names x (at_start x r.0) (tree_of p body) f.1.fits

  -- what is called at a point of its frame
  point_good : (c : CallPoint) → Contains (body_frame p (parameters_of mode) body).calls c → IsGood p c.target
  point_good c h =
      let plain = all_plain p b (body_frame p (parameters_of mode) body) (tree_of p body) (fits.nodes m has.of) is_frame is_tree in
      good_at p (body_frame p (parameters_of mode) body).calls c (subst (AllGood p) (sym plain.calls) (seq_good p (tree_of p body) names)) h

  proc_within : Within p → ProcWithin p (parameters_of mode) body
  proc_within h = subst (λ (z : BrickSort). SortWithin p z) sorted (each_is (λ (x : Brick). SortWithin p x.sort) p.bricks b d h has.at)

-- a call point of a frame is a call of the object
call_there : (cs : List CallPoint) (c : CallPoint) → Contains cs c → Has (map call_of cs) (call_of c)
call_there cs c (k, less, is) = at cs k less is
  where
    at : (ys : List CallPoint) (j : ℕ) → j < length ys → slice_index_or ys j c ≡ c → Has (map call_of ys) (call_of c)
    at [] j l e = absurd (omega arith)
    at (y ∷ ys) zero l e = (0, ap (λ (z : CallPoint). Some (call_of z)) e)
    at (y ∷ ys) (suc j) l e = let h = at ys j (omega arith) e in (suc h.0, h.1)

kept_is : (t : Target) → kept (target_of t) ≡ held_by t
kept_is (target.Brick b) = refl
kept_is (target.Variable m) = refl
kept_is target.Error = refl

least_need : (o : Option ℕ) → 1 ≤ need_in o
least_need None = omega arith
least_need (Some n) = omega arith

depth_left : (n cl cd l e : ℕ) → cl ≡ l → cd ≡ e → 2 + cl + cd ≤ n → 2 + l + e ≤ n
depth_left n cl cd l e a b h = omega (arith, a, b, h)

-- the numbers of a frame: what is left of a need behind the link, the return and the locals
size_left : (n locals deep : ℕ) → 2 + locals + deep ≤ n → (deep ≤ n - (2 + locals)) × (n ≡ 2 + locals + (n - (2 + locals)))
size_left n locals deep h = (omega arith, omega arith)

call_left : (n locals depth kept_words held args its need : ℕ) → kept_words ≡ held → need ≡ its → 2 + locals + (depth + kept_words + args + its) ≤ n → depth + held + args + need ≤ n - (2 + locals)
call_left n locals depth kept_words held args its need a b h = omega (arith, a, b, h)

needs_left : (n own locals size need : ℕ) (recovers : Bool) → locals ≡ own + (if recovers then 4 else 0) → n ≡ 2 + locals + size → need ≡ n → own + (2 + size) ≤ need
needs_left n own locals size need true a b c = omega (arith, a, b, c)
needs_left n own locals size need false a b c = omega (arith, a, b, c)

module _ (opens : FullModesOpen) (lead_laws : BindingsLead) (points : PointsFit) (depths : DepthsFit) (services : ServicesFit) (some : NeedsSome) (code_within : CodeIsWithin) (keeps : LoweringKeeps) (nothing : NothingRecovers) (systems : ModulesMakeSystems)
    (ps : System) (ls : List Layouts) (os : List ObjectParts) (tasks : List Task) (image : ImageParts) (mapped : Map) (s : IsSystem ps ls os tasks image mapped) (fit : ModulesFit ps) (stay : ModulesStay ps) where
  abbrev known : Judged
  known = s.linked.known

  abbrev of : List (List Bound)
  of = known.bindings.of

  abbrev w : Whole
  w = whole_of ps ls os known image

  fits : SystemFits ps
  fits = systems ps fit

  so : Sound ps
  so = sound ps fits

  tell : ItemsTell ps
  tell = items_tell ps fit

  bind : BindAlike ps os known.stacks of
  bind = bound_alike opens lead_laws ps ls os tasks image mapped s tell

  leads : ProcsLead ps of
  leads = procs_are_led opens lead_laws ps ls os tasks image mapped s tell

  -- ---- needs and reach

  need_is : (g : Proc) → Has known.order.procs g → Needed os tasks of known.roots known.order.procs known.needs s.linked.judged.deep s.object_ranges points services g
  need_is g h = needed os tasks of known.roots known.order.procs known.needs s.linked.judged.deep s.object_ranges points services some g h

  -- what a procedure of the order calls is in the order too
  calls_on : (f g : Proc) → Has known.order.procs f → Calls os of f g → Has known.order.procs g
  calls_on f g h c = let order = s.linked.judged.deep.ordered.is_order.order in order.all g (next (order.reached f h) c)

  -- ---- what may be told of an error

  takes_word : (f : Proc) → MayCall ps (codes "PROC(INT)") f → (k : ℕ) → k < 65536 → ArgsFit ps f (Word k ∷ [])
  takes_word f may k less =
      arguments_fit ps fits so no_records of_supplied int_taken (mode.Int ∷ []) None f (Word k ∷ []) (out_proc (mode.Int ∷ []) None) (int_taken_stands no_records)
      (subst (λ (t : List ℕ). MayCall ps t f) (sym (erp_full no_records)) may) ((int out_int less, words_stand no_records mode.Int (int_is_word mode.Int out_int)), tt)

  has_room : (f : Proc) → Has known.order.procs f → graph.IsCandidate os of (codes "PROC(INT)") f → (k : ℕ) → 4 ≤ k → k ≤ 7 → w.reached (supplied k) ≡ true → w.needs 0 f + 2 ≤ w.needs 0 (supplied k)
  has_room f its candidate k low high on =
      let mine = need_is f its in
      let other = need_is (supplied k) (has_in known.order.procs (supplied k) on) in
      let less = services os of k f mine.need other.need (low, high) candidate other.has mine.has in
      let a : w.needs 0 f ≡ mine.need = mine.is in
      let b : w.needs 0 (supplied k) ≡ other.need = other.is in
      omega (arith, less, a, b)

  all_report : AllReport w
  all_report n low high on f h =
      let may = so.candidates (codes "PROC(INT)") f h in
      let candidate = candidate_is opens ps ls os tasks image mapped s tell fits leads (codes "PROC(INT)") f h in
      let its = calls_on (supplied n) f (has_in known.order.procs (supplied n) on) (in_service (low, high) candidate) in
      record {
        is = may.0;
        reached = is_in known.order.procs f its.0 its.1;
        takes = λ k less. takes_word f may k less;
        room = λ k some_k few_k on_k. has_room f its candidate k some_k few_k on_k;
      }

  -- ---- a procedure

  module _ (m b : ℕ) (p : ModuleParts) (d : Brick) (mode : Mode) (body : ProcBody) (l : Layouts) (has : HasBrick ps m b p d) (here : is_here d.kind ≡ true) (sorted : d.sort ≡ sort.Proc mode (Some body)) (at : layouts_at ls m ≡ Some l) (on : w.reached (brick m b) ≡ true) where
    abbrev its_frame : Frame
    its_frame = body_frame p (parameters_of mode) body

    -- what the object has of it, besides its code
    record IsThere : Type 0 where
      pub object : ObjectParts
      pub content : ProcContent
      pub has_body : HasBody os (brick m b) object content
      pub locals : content.locals ≡ its_frame.locals
      pub deep : content.deep ≡ its_frame.deep
      pub calls : content.calls ≡ map call_of its_frame.calls
      pub items : content.items ≡ body.items
      pub right : AreLayouts p l

    is_there : IsThere
    is_there =
        let c = procs_are_compiled ps ls os tasks image mapped s m b p d mode (Some body) has here sorted in
        let same : c.its_frame ≡ its_frame = some_is c.its_frame its_frame (sym c.framed ∙ is_frame ps fits m b p d mode body has here sorted) in
        let body_is : c.body ≡ body = some_is c.body body (sym c.has_body) in
        let layouts_are : c.layouts ≡ l = some_is c.layouts l (sym c.at ∙ at) in
        record {
          object = c.object;
          content = procedure_of mode c.body.items c.its_frame (expanded.code_of (compiled.lowered c.layouts p b mode c.body));
          has_body = record { of = c.of; is = ap (λ (z : Option Compiled). body_in (content_at z)) c.there ∙ ap body_in c.holds };
          locals = ap (λ (f : Frame). f.locals) same;
          deep = ap (λ (f : Frame). f.deep) same;
          calls = ap (λ (f : Frame). map call_of f.calls) same;
          items = ap (λ (x : ProcBody). x.items) body_is;
          right = subst (AreLayouts p) layouts_are c.right;
        }

    there : Has known.order.procs (brick m b)
    there = has_in known.order.procs (brick m b) on

    its_need : ℕ
    its_need = (need_is (brick m b) there).need

    its_has : HasNeed os of (brick m b) its_need
    unfolding its_need
    its_has = (need_is (brick m b) there).has

    told : w.needs 0 (brick m b) ≡ its_need
    unfolding its_need
    told = (need_is (brick m b) there).is

    -- its need behind the link, the return and the locals
    its_size : ℕ
    its_size = its_need - (2 + its_frame.locals)

    fits_in : (its_frame.deep ≤ its_size) × (its_need ≡ 2 + its_frame.locals + its_size)
    unfolding its_size
    fits_in =
        let x = is_there in
        size_left its_need its_frame.locals its_frame.deep (depth_left its_need x.content.locals x.content.deep its_frame.locals its_frame.deep x.locals x.deep (depths os of (brick m b) x.object x.content its_need x.has_body its_has))

    call_fits : (c : CallPoint) (g : Proc) → Contains its_frame.calls c → lowered.MayCall ps p ((world ps).env m) c.target g → (w.reached g ≡ true) × (c.depth + held_by c.target + c.args + w.needs 0 g ≤ its_size)
    unfolding its_size
    call_fits c g h may =
        let x = is_there in
        let may_too = may_call opens ps ls os tasks image mapped s tell fits leads m p x.object c.target g has.of x.has_body.of (point_good ps fits m b p d mode body has here sorted c h) may in
        let called : Has x.content.calls (call_of c) = subst (λ (cs : List Call). Has cs (call_of c)) (sym x.calls) (call_there its_frame.calls c h) in
        let its = calls_on (brick m b) g there (at_point (call_of c) x.has_body called may_too) in
        let theirs = need_is g its in
        let point = points os of (brick m b) g x.object x.content (call_of c) theirs.need its_need x.has_body called may_too its_has theirs.has in (
          is_in known.order.procs g its.0 its.1,
          call_left its_need its_frame.locals c.depth (kept (target_of c.target)) (held_by c.target) c.args theirs.need (w.needs 0 g) (kept_is c.target) theirs.is (subst (λ (z : ℕ). 2 + z + (c.depth + kept (target_of c.target) + c.args + theirs.need) ≤ its_need) x.locals point),
        )

    frame_fits : FrameFits ps p ((world ps).env m) (w.needs 0) w.reached its_frame its_size
    frame_fits = record { deep = fits_in.0; least = λ g. least_need (told_need known.order.procs known.needs g); calls = λ c g h may. call_fits c g h may }

    -- where the data lie that it names
    fixed_is : (f : Fixed) (v : Mode) → IsFixed ps p ((world ps).env m) f v → named_address os known.stacks of m (Named f.brick) ≡ base_of os known.stacks (origin.Brick (((world ps).env m).leads f.brick).module (((world ps).env m).leads f.brick).brick)
    fixed_is f v h =
        let x = face_left opens ps tell p.bricks f.brick h.face h.at in
        let its = data_left opens ps tell x.0.sort h.fields (ap fields_of x.2 ∙ h.has) in
        let to = ((world ps).env m).leads f.brick in
        let place = within_are (origin.Brick to.module to.brick) (f.item ∷ []) f.fields in
        let q = stands_in ps to.module to.brick place.0 h.leads.at place.1 in
        let has_it : HasBrick ps m f.brick p x.0 = record { of = has.of; at = x.1 } in
        let plain = by_kind x.0.kind (λ svc. svc_nowhere opens ps tell m f.brick to.module to.brick p q.0 x.0 q.1 has_it svc q.2 refl) in
        let led = bind.data_leads m f.brick p x.0 h.fields its.0 has_it its.1 plain in
        led.address ∙ ap (λ (z : Proc). base_of os known.stacks (origin.Brick z.module z.brick)) (sym led.leads ∙ sym (leads_same opens ps ls os tasks image mapped s tell fits leads m p f.brick has.of))
      where
        by_kind : (k : Kind) → (k ≡ kind.Svc → ⊥) → is_svc k ≡ false
        by_kind kind.Own no_svc = refl
        by_kind kind.Ent no_svc = refl
        by_kind kind.Ext no_svc = refl
        by_kind kind.Svc no_svc = absurd (no_svc refl)

    owed : ProcOwed w (named_address os known.stacks of m) l m b p d mode body
    owed =
        let x = is_there in
        let stays = stay.within m p has.of in
        let few = items_few x.object b x.content (ranges_at os s.object_ranges m x.object x.has_body.of) x.has_body.is in
        let plain = body_plain p (parameters_of mode) body (proc_within ps fits m b p d mode body has here sorted stays) (subst (λ (z : ℕ). z < 65536) x.items few) (stay.steady m b p d mode body has sorted) in
        let named = names ps fits m b p d mode body has here sorted in
        let all = code_within p (intermediate l p) (fits.nodes m has.of) stays (record { layouts = l; right = x.right; code = refl }) in
        let zero_first : 0 + b ≡ b = omega arith in
        record {
          size = its_size;
          locals = locals_enough ps fits m b p d mode body has here sorted;
          lowers = keeps l p b body mode x.right plain;
          within = subst (λ (k : ℕ). IsWithin (procedure l p k d mode body)) zero_first (procedure_among IsWithin l p 0 p.bricks b d mode body all has.at sorted);
          no_recovery = nothing l b (parameters_of mode) (length body.locals - parameters_of mode) (tree_of p body);
          routines = λ k r e. code_taken p l b (parameters_of mode) (length body.locals - parameters_of mode) (tree_of p body) k (ins.Routine r) named e;
          invoked = λ k r n gives e. code_taken p l b (parameters_of mode) (length body.locals - parameters_of mode) (tree_of p body) k (ins.Invoke r n gives) named e;
          frame = frame_fits;
          needs = needs_left its_need (length body.locals - parameters_of mode) its_frame.locals its_size (w.needs 0 (brick m b)) (sequence_recovers (tree_of p body)) refl fits_in.1 told;
          fixed = fixed_is;
        }

  is_owed : IsOwed w ls os known.stacks of
  is_owed = record { reports = all_report; procs = λ m b p d mode body l has here sorted at on. owed m b p d mode body l has here sorted at on }

pub systems_are_owed : FullModesOpen → PointsFit → DepthsFit → ServicesFit → NeedsSome → CodeIsWithin → LoweringKeeps → NothingRecovers → ModulesMakeSystems → SystemsAreOwed
systems_are_owed opens points depths services some code_within keeps nothing systems lead_laws ps ls os tasks image mapped s fit stay = is_owed opens lead_laws points depths services some code_within keeps nothing systems ps ls os tasks image mapped s fit stay
