-- The linker and the meaning bind each brick to the same.
use Rattle.std.proofs.Common.{true, false, Bool, ◌≡◌, ℕ, zero, suc, ◌<◌, ◌≤◌, nat_le, List, [], ◌∷◌, Option, Some, None, if◌then◌else◌, slice_get, refl, sym, ap, ◌∙◌, subst, arith}
use Rattle.rt_modes.specs.declared.mode.Field.{Field}
use Rattle.rt_modes.specs.declared.mode.Mode.{Mode}
use Rattle.rt_modes.specs.Bricks.{brick_numbered}
use Rattle.rt_tree_nodes.specs.declared.brick.Brick.{Brick}
use Rattle.rt_tree_nodes.specs.declared.brick.BrickSort.{BrickSort}
use Rattle.rt_tree_nodes.specs.declared.brick.BrickSort.TheVariants as sort
use Rattle.rt_tree_nodes.specs.declared.brick.DataStart.{DataStart}
use Rattle.rt_tree_nodes.specs.declared.brick.Kind.{Kind}
use Rattle.rt_tree_nodes.specs.declared.brick.Kind.TheVariants as kind
use Rattle.rt_tree_nodes.specs.declared.brick.ModuleParts.{ModuleParts}
use Rattle.rt_tree_nodes.specs.declared.brick.ProcBody.{ProcBody}
use Rattle.rt_tree_nodes.specs.declared.store.Origin.TheVariants.{Brick as AtBrick}
use Rattle.rt_tree_nodes.specs.declared.store.Proc.{Proc}
use Rattle.rt_tree_nodes.specs.Scopes.{faces, face, sort_of, proc_in, proc_of, proc_mode, is_svc}
use Rattle.rt_tree.specs.Modules.{is_here}
use Rattle.rt_tree.specs.Opened.{FullModesOpen}
use Rattle.rt_tree.specs.Stored.{System, HasBrick, itself, entry, supplied, module_of, brick}
use Rattle.rt_resolve.specs.Matching.{SortSame}
use Rattle.rt_resolve.specs.Starting.{home_of, lead}
use Rattle.rt_object.specs.declared.object.Brick.{Brick as Compiled}
use Rattle.rt_object.specs.declared.object.Content.{Content}
use Rattle.rt_object.specs.declared.object.Content.TheVariants as content
use Rattle.rt_object.specs.declared.object.ObjectParts.{ObjectParts}
use Rattle.rt_object.specs.declared.object.ProcContent.{ProcContent}
use Rattle.rt_object.specs.declared.object.DataContent.{DataContent}
use Rattle.rt_match.specs.Matching as matching
use Rattle.rt_match.specs.Matching.{Signature, IsBound, Match, AreBound, supplied_sort}
use Rattle.rt_match.specs.Laws.{at_place, binding_of}
use Rattle.rt_match.specs.declared.bindings.Bound.{Bound}
use Rattle.rt_match.specs.declared.bindings.Bound.TheVariants as bound_to
use Rattle.rt_match.specs.Signatures as sigs
use Rattle.rt_match.specs.Signatures.{content_form, sort_of as form_sort, full_mode, system_of}
use Rattle.rt_graph.specs.Calls.{numbered, bound_in, content_at, content_of}
use Rattle.rt_system.specs.declared.parts.Task.{Task}
use Rattle.rt_image.specs.declared.image.ImageParts.{ImageParts}
use Rattle.rt_image.specs.declared.map.Map.{Map}
use Rattle.rt_lower.specs.declared.layouts.Layouts.{Layouts}
use Rattle.rt_link.specs.Addresses.{nth_at, code_at, data_at, module_code_at, address_by, stack_address, brick_address}
use Rattle.rt_link.specs.Named.{routine_address, supplied_address, bound_address}
use Rattle.rt_link.specs.Room.{bricks_in, held, code_bytes, module_code, code_start, code_end, room}
use Rattle.rt_bases.specs.Bases.{base_of}
use Rattle.rt_bases.proofs.Lying.{within}
use Rattle.rt_bases.proofs.Supporting.{supports_are_inside}
use Rattle.rt_imaged.specs.Whole.{entry_in, entry_by, entry_of, IsSystem}
use Rattle.rt_imaged.specs.Bound.{DataLead, BindAlike}
use Rattle.rt_bound.specs.Signed.{tree_kind, tree_form, tree_signature}
use Rattle.rt_bound.specs.Laws.{BindingsLead, ItemsTell, BricksAreBoundAlike}
use Rattle.rt_bound.proofs.Signing.{same_signatures, compiles, signed_brick}
use Rattle.rt_bound.proofs.Matching.{is_ent, sort_same, there, in_it, numbered_proc}
use Rattle.rt_bound.proofs.Alike.{data_same, lead_is, own_alike, linked_alike}

-- ---- bindings by number

same_place : (o : Option (List Bound)) (b : ℕ) → bound_in o b ≡ at_place o b
same_place None b = refl
same_place (Some xs) b = refl

pub same_binding : (of : List (List Bound)) (m b : ℕ) → bound_in (numbered of m) b ≡ binding_of of m b
same_binding of zero b = refl
same_binding of (suc m) b = same_place (slice_get of m) b

-- what isn't EXT or SVC is bound to itself
own_to : (sys : matching.System) {s : Signature} {to : Bound} → IsBound sys s to → (s.kind ≡ matching.Ext → ⊥) → (s.kind ≡ matching.Svc → ⊥) → to ≡ bound_to.Own
own_to sys (matching.own k) a b = refl
own_to sys (matching.ent k) a b = refl
own_to sys (matching.asks (matching.entry k e n)) a b = absurd (a k)
own_to sys (matching.asks (matching.supplied k e n)) a b = absurd (b k)

no_ext : (k : Kind) → is_here k ≡ true → tree_kind k ≡ matching.Ext → ⊥
no_ext kind.Own h e = cc
no_ext kind.Ent h e = cc
no_ext kind.Ext h e = cc
no_ext kind.Svc h e = cc

no_svc : (k : Kind) → is_here k ≡ true → tree_kind k ≡ matching.Svc → ⊥
no_svc kind.Own h e = cc
no_svc kind.Ent h e = cc
no_svc kind.Ext h e = cc
no_svc kind.Svc h e = cc

-- ---- procedures

proc_at : (bs : List Brick) (k : ℕ) (v : Mode) → proc_mode (faces bs) k ≡ Some v → (d : Brick) × (slice_get bs k ≡ Some d) × (proc_of (face d) ≡ Some v)
proc_at [] k v e = absurd cc
proc_at (d ∷ bs) zero v e = (d, refl, e)
proc_at (d ∷ bs) (suc k) v e = proc_at bs k v e

abbrev IsProc : BrickSort → Type 0
IsProc z = (v : Mode) × (body : Option ProcBody) × (z ≡ sort.Proc v body)

proc_left : (z : BrickSort) (v : Mode) → proc_in (sort_of z) ≡ Some v → IsProc z
proc_left (sort.Proc m body) v e = (m, body, refl)
proc_left (sort.Data fs ss) v e = absurd cc
proc_left (sort.Stack n) v e = absurd cc

same_proc : (x y : BrickSort) → IsProc x → form_sort (tree_form x) ≡ form_sort (tree_form y) → IsProc y
same_proc x (sort.Proc m body) p e = (m, body, refl)
same_proc x (sort.Data fs ss) p e = absurd (let bad : matching.Proc ≡ matching.Data = ap (λ (z : BrickSort). form_sort (tree_form z)) (sym p.2) ∙ e in cc)
same_proc x (sort.Stack n) p e = absurd (let bad : matching.Proc ≡ matching.Stack = ap (λ (z : BrickSort). form_sort (tree_form z)) (sym p.2) ∙ e in cc)

proc_content : (x : Content) (v : Mode) → content_form x ≡ sigs.Proc v → (y : ProcContent) × (x ≡ content.Proc y)
proc_content (content.Proc y) v e = (y, refl)
proc_content (content.Data y) v e = absurd cc
proc_content (content.Stack n) v e = absurd cc

data_content : (x : Content) (fs : List Field) → content_form x ≡ sigs.Data fs → (y : DataContent) × (x ≡ content.Data y)
data_content (content.Data y) fs e = (y, refl)
data_content (content.Proc y) fs e = absurd cc
data_content (content.Stack n) fs e = absurd cc

-- ---- the addresses of entries

less_or_zero : (b : Bool) (x : ℕ) → x < 65536 → (if b then x else 0) < 65536
less_or_zero true x l = l
less_or_zero false x l = omega arith

module _ (opens : FullModesOpen) (lead_laws : BindingsLead) (ps : System) (ls : List Layouts) (os : List ObjectParts) (tasks : List Task) (image : ImageParts) (mapped : Map) (s : IsSystem ps ls os tasks image mapped) (tell : ItemsTell ps) where
  abbrev stacks : List Proc
  stacks = s.linked.known.stacks

  abbrev of : List (List Bound)
  of = s.linked.known.bindings.of

  small : code_end os stacks ≤ 57344
  small = let r : room os stacks ≤ 57344 = s.linked.judged.room in omega arith

  in_brick : (i b : ℕ) (o : ObjectParts) (q : Option Compiled) → slice_get os i ≡ Some o → slice_get o.bricks b ≡ q → entry_in (content_at q) (nth_at code_bytes o.bricks (module_code_at os stacks (suc i)) b) < 65536
  in_brick i b o None at e = omega arith
  in_brick i b o (Some c) at e = by_content (content_of c.kind)
    where
      code_small : nth_at code_bytes o.bricks (module_code_at os stacks (suc i)) b < 65536
      code_small =
          let first = within code_bytes o.bricks (module_code_at os stacks (suc i)) b c e in
          let all = within module_code os (code_start os stacks) i o at in
          let top = small in
          omega arith

      by_content : (x : Option Content) → entry_in x (nth_at code_bytes o.bricks (module_code_at os stacks (suc i)) b) < 65536
      by_content None = omega arith
      by_content (Some (content.Proc y)) = code_small
      by_content (Some (content.Data y)) = omega arith
      by_content (Some (content.Stack n)) = omega arith

  in_object : (i b : ℕ) (q : Option ObjectParts) → slice_get os i ≡ q → entry_in (content_at (slice_get (bricks_in q) b)) (nth_at code_bytes (bricks_in q) (module_code_at os stacks (suc i)) b) < 65536
  in_object i b None e = omega arith
  in_object i b (Some o) e = in_brick i b o (slice_get o.bricks b) e refl

  entry_small : (m b : ℕ) → entry_by os stacks (brick m b) m < 65536
  entry_small zero b =
      let top = small in
      let one = supports_are_inside os stacks b in
      less_or_zero (nat_le b 10) (routine_address b) (omega arith)
  entry_small (suc i) b = in_object i b (slice_get os i) refl

  -- ---- what a brick of an object holds

  holds : (m b : ℕ) (p : ModuleParts) (d : Brick) → HasBrick ps m b p d → is_here d.kind ≡ true → (x : Content) × (held os (brick m b) ≡ Some x) × (content_form x ≡ tree_form d.sort)
  holds m b p d h here =
      let k = compiles ps ls os tasks image mapped s m p h.of in
      let c = signed_brick k.layouts p k.object b d k.is h.at in
      let x = c.holds here in
      (x.0, ap (λ (z : Option ObjectParts). content_at (slice_get (bricks_in z) b)) k.its ∙ ap content_at c.at ∙ x.1, x.2)

  entry_at : (m b : ℕ) (p : ModuleParts) (y : ProcContent) → module_of ps m ≡ Some p → held os (brick m b) ≡ Some (content.Proc y) → entry_of os stacks (brick m b) ≡ code_at os stacks (brick m b)
  entry_at zero b p y e h = absurd cc
  entry_at (suc i) b p y e h = ap (λ (z : Option Content). entry_in z (code_at os stacks (brick (suc i) b))) h

  proc_address : (m b : ℕ) (p : ModuleParts) (d : Brick) → HasBrick ps m b p d → is_here d.kind ≡ true → IsProc d.sort → brick_address os stacks (brick m b) ≡ entry_of os stacks (brick m b)
  proc_address m b p d h here v =
      let x = holds m b p d h here in
      let y = proc_content x.0 v.0 (x.2 ∙ ap tree_form v.2) in
      let f = brick m b in
      let its : held os f ≡ Some (content.Proc y.0) = x.1 ∙ ap (λ (z : Content). Some z) y.1 in
      ap (λ (z : Option Content). address_by z (code_at os stacks f) (data_at os stacks f) (stack_address os stacks f)) its ∙ sym (entry_at m b p y.0 h.of its)

  data_address : (m b : ℕ) (p : ModuleParts) (d : Brick) (fs : List Field) (ss : List DataStart) → HasBrick ps m b p d → is_here d.kind ≡ true → d.sort ≡ sort.Data fs ss → brick_address os stacks (brick m b) ≡ base_of os stacks (AtBrick m b)
  data_address m b p d fs ss h here is =
      let x = holds m b p d h here in
      let y = data_content x.0 fs (x.2 ∙ ap tree_form is) in
      let f = brick m b in
      let its : held os f ≡ Some (content.Data y.0) = x.1 ∙ ap (λ (z : Content). Some z) y.1 in
      ap (λ (z : Option Content). address_by z (code_at os stacks f) (data_at os stacks f) (stack_address os stacks f)) its

  -- ---- bindings

  bindings : AreBound (system_of os) of
  bindings = s.linked.judged.deep.ordered.rooted.matched.bound

  matches : Match (system_of os)
  matches = s.linked.judged.deep.ordered.rooted.matched.match

  pub bound_here : (m b : ℕ) (p : ModuleParts) (d : Brick) → HasBrick ps m b p d → is_here d.kind ≡ true → bound_in (numbered of m) b ≡ Some bound_to.Own
  bound_here m b p d h here =
      let x = lead_laws.all (system_of os) of m b (tree_signature p d) bindings ((same_signatures ps ls os tasks image mapped s).of_trees m b p d h) in
      let own = own_to (system_of os) x.2 (no_ext d.kind here) (no_svc d.kind here) in
      same_binding of m b ∙ x.1 ∙ ap (λ (z : Bound). Some z) own

  address_here : (m b : ℕ) (p : ModuleParts) (d : Brick) → HasBrick ps m b p d → is_here d.kind ≡ true → bound_address os stacks of m b (bound_in (numbered of m) b) ≡ brick_address os stacks (brick m b)
  address_here m b p d h here = ap (bound_address os stacks of m b) (bound_here m b p d h here)

  -- an EXT brick is bound to an ENT brick of its name and sort
  record Found (m b : ℕ) (p : ModuleParts) (d : Brick) : Type 0 where
    pub home : ℕ
    pub number : ℕ
    pub owner : ModuleParts
    pub its : Brick
    pub has : HasBrick ps home number owner its
    pub ent : its.kind ≡ kind.Ent
    pub name : its.name ≡ d.name
    pub sorts : form_sort (tree_form d.sort) ≡ form_sort (tree_form its.sort)
    pub same : SortSame p.modes owner.modes d.sort its.sort
    pub address : bound_address os stacks of m b (bound_in (numbered of m) b) ≡ brick_address os stacks (brick home number)

  found : (m b : ℕ) (p : ModuleParts) (d : Brick) → HasBrick ps m b p d → d.kind ≡ kind.Ext → Found m b p d
  found m b p d h e =
      let sg = same_signatures ps ls os tasks image mapped s in
      let x = lead_laws.entries (system_of os) of m b (tree_signature p d) matches bindings (sg.of_trees m b p d h) (ap tree_kind e) in
      let g = sg.of_objects x.0 x.1 x.2 x.4.is in
      let k : tree_kind g.brick.kind ≡ matching.Ent = ap (λ (z : Signature). z.kind) g.is ∙ x.4.kind in
      let sorts : form_sort (tree_form d.sort) ≡ form_sort (tree_form g.brick.sort) = x.6.sort ∙ ap (λ (z : Signature). z.sort) (sym g.is) in
      let modes : full_mode p.modes (tree_form d.sort) ≡ full_mode g.parts.modes (tree_form g.brick.sort) = x.6.mode ∙ ap (λ (z : Signature). z.mode) (sym g.is) in
      record {
        home = x.0;
        number = x.1;
        owner = g.parts;
        its = g.brick;
        has = g.has;
        ent = is_ent g.brick.kind k;
        name = ap (λ (z : Signature). z.name) g.is ∙ x.5;
        sorts = sorts;
        same = sort_same p.modes g.parts.modes d.sort g.brick.sort sorts modes;
        address = ap (bound_address os stacks of m b) (same_binding of m b ∙ x.3);
      }

  proc_here : (m b : ℕ) (p : ModuleParts) (d : Brick) → HasBrick ps m b p d → is_here d.kind ≡ true → IsProc d.sort → bound_address os stacks of m b (bound_in (numbered of m) b) ≡ entry_of os stacks (lead (home_of ps m p) b)
  proc_here m b p d h here v =
      address_here m b p d h here ∙ proc_address m b p d h here v ∙ ap (entry_of os stacks) (sym (lead_is opens ps tell m b p d (brick m b) h (itself h here)))

  proc_ext : (m b : ℕ) (p : ModuleParts) (d : Brick) → HasBrick ps m b p d → d.kind ≡ kind.Ext → IsProc d.sort → bound_address os stacks of m b (bound_in (numbered of m) b) ≡ entry_of os stacks (lead (home_of ps m p) b)
  proc_ext m b p d h e v =
      let x = found m b p d h e in
      x.address ∙ proc_address x.home x.number x.owner x.its x.has (ap is_here x.ent) (same_proc d.sort x.its.sort v x.sorts)
      ∙ ap (entry_of os stacks) (sym (lead_is opens ps tell m b p d (brick x.home x.number) h (entry h e x.has x.ent x.name)))

  -- what is supplied has no tree: its entry is its address
  proc_svc : (m b : ℕ) (p : ModuleParts) (d : Brick) → HasBrick ps m b p d → d.kind ≡ kind.Svc → IsProc d.sort → bound_address os stacks of m b (bound_in (numbered of m) b) ≡ entry_of os stacks (lead (home_of ps m p) b)
  proc_svc m b p d h e v =
      let sg = same_signatures ps ls os tasks image mapped s in
      let x = lead_laws.supplied (system_of os) of m b (tree_signature p d) matches bindings (sg.of_trees m b p d h) (ap tree_kind e) in
      let i = in_it x.0 (brick_numbered x.0) x.1 x.3 in
      let sorts : supplied_sort x.0 ≡ matching.Proc = sym i.0 ∙ sym x.5.sort ∙ ap (λ (z : BrickSort). form_sort (tree_form z)) v.2 in
      let r = numbered_proc x.0 d.name (there x.0 (brick_numbered x.0) x.1 refl x.3) sorts (sym x.4 ∙ i.1) in
      let address : bound_address os stacks of m b (bound_in (numbered of m) b) ≡ supplied_address x.0 = ap (bound_address os stacks of m b) (same_binding of m b ∙ x.2) in
      let leads : lead (home_of ps m p) b ≡ brick 0 (suc r.0) = lead_is opens ps tell m b p d (brick 0 (suc r.0)) h (supplied h e r.3) in
      address ∙ ap supplied_address r.2 ∙ sym (ap (entry_of os stacks) leads)

  proc_bound : (m b : ℕ) (p : ModuleParts) (d : Brick) → HasBrick ps m b p d → IsProc d.sort → bound_address os stacks of m b (bound_in (numbered of m) b) ≡ entry_of os stacks (lead (home_of ps m p) b)
  proc_bound m b p d h v = by_kind d.kind refl
    where
      by_kind : (w : Kind) → d.kind ≡ w → bound_address os stacks of m b (bound_in (numbered of m) b) ≡ entry_of os stacks (lead (home_of ps m p) b)
      by_kind kind.Own e = proc_here m b p d h (ap is_here e) v
      by_kind kind.Ent e = proc_here m b p d h (ap is_here e) v
      by_kind kind.Ext e = proc_ext m b p d h e v
      by_kind kind.Svc e = proc_svc m b p d h e v

  data_lead : (m b : ℕ) (p : ModuleParts) (d : Brick) (fs : List Field) (ss : List DataStart) → HasBrick ps m b p d → d.sort ≡ sort.Data fs ss → is_svc d.kind ≡ false → DataLead ps os stacks of m b p fs
  data_lead m b p d fs ss h is svc = by_kind d.kind refl
    where
      data_here : is_here d.kind ≡ true → DataLead ps os stacks of m b p fs
      data_here here =
          record {
            home = m;
            number = b;
            owner = p;
            its = d;
            items = fs;
            starts = ss;
            leads = lead_is opens ps tell m b p d (brick m b) h (itself h here);
            has = h;
            here = here;
            sort_is = is;
            alike = own_alike opens ps tell m b p d fs ss h is svc;
            address = address_here m b p d h here ∙ data_address m b p d fs ss h here is;
          }

      data_ext : d.kind ≡ kind.Ext → DataLead ps os stacks of m b p fs
      data_ext e =
          let x = found m b p d h e in
          let g = data_same p.modes x.owner.modes fs ss x.its.sort (subst (λ (z : BrickSort). SortSame p.modes x.owner.modes z x.its.sort) is x.same) in
          let here : is_here x.its.kind ≡ true = ap is_here x.ent in
          record {
            home = x.home;
            number = x.number;
            owner = x.owner;
            its = x.its;
            items = g.0;
            starts = g.1;
            leads = lead_is opens ps tell m b p d (brick x.home x.number) h (entry h e x.has x.ent x.name);
            has = x.has;
            here = here;
            sort_is = g.2;
            alike = linked_alike opens ps tell m b x.home x.number p x.owner d x.its fs g.0 ss g.1 h is svc x.has g.2 (ap is_svc x.ent) g.3;
            address = x.address ∙ data_address x.home x.number x.owner x.its g.0 g.1 x.has here g.2;
          }

      by_kind : (w : Kind) → d.kind ≡ w → DataLead ps os stacks of m b p fs
      by_kind kind.Own e = data_here (ap is_here e)
      by_kind kind.Ent e = data_here (ap is_here e)
      by_kind kind.Ext e = data_ext e
      by_kind kind.Svc e = absurd (let bad : true ≡ false = ap is_svc (sym e) ∙ svc in cc)

  pub bound_alike : BindAlike ps os stacks of
  bound_alike = record {
    procs = λ m b p v e h. (let x = proc_at p.bricks b v h in proc_bound m b p x.0 (record { of = e; at = x.1 }) (proc_left x.0.sort v x.2));
    entries = λ f. entry_small f.«module» f.brick;
    data_leads = λ m b p d fs ss h is svc. data_lead m b p d fs ss h is svc;
  }

pub bricks_are_bound_alike : FullModesOpen → BricksAreBoundAlike
bricks_are_bound_alike opens lead_laws ps ls os tasks image mapped s tell = bound_alike opens lead_laws ps ls os tasks image mapped s tell
