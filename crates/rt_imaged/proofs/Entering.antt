-- What stands in the code of a linked system.
use Rattle.std.proofs.Common.{◌≡◌, ◌⊎◌, inl, inr, ℕ, zero, suc, ◌+◌, ◌*◌, ◌<◌, List, [], ◌∷◌, ◌++◌, length, map, take, Option, Some, None, slice_get, slice_set, refl, sym, ap, ◌∙◌, subst, arith, length-append}
use Rattle.std.specs.List.{AllByRecursion, flat_map, sum_by}
use Rattle.std.proofs.lemmas.List.{length-set}
use Rattle.std.proofs.lemmas.List.Sums.{sum_by-cons}
use Rattle.rt_tree_nodes.specs.declared.store.Proc.{Proc}
use Rattle.rt_system.specs.declared.parts.Task.{Task}
use Rattle.rt_image.specs.declared.image.ImageTask.{ImageTask}
use Rattle.rt_object.specs.Ranges.{HasBrickRanges, HasObjectRanges, HasKindRanges}
use Rattle.rt_object.specs.declared.object.Brick.{Brick}
use Rattle.rt_object.specs.declared.object.BrickKind.{BrickKind}
use Rattle.rt_object.specs.declared.object.BrickKind.TheVariants as whose
use Rattle.rt_object.specs.declared.object.Content.{Content}
use Rattle.rt_object.specs.declared.object.Content.TheVariants as content
use Rattle.rt_object.specs.declared.object.ObjectParts.{ObjectParts}
use Rattle.rt_object.specs.declared.object.ProcContent.{ProcContent}
use Rattle.rt_object.specs.declared.object.Relocation.{Relocation}
use Rattle.rt_modes.specs.declared.mode.RecordDef.{RecordDef}
use Rattle.rt_match.specs.declared.bindings.Bound.{Bound}
use Rattle.rt_graph.specs.Calls.{brick, numbered, content_at, content_of}
use Rattle.pdp_code.specs.Code.{more_words, words_of}
use Rattle.rt_templates.specs.declared.line.Line.{Line}
use Rattle.rt_templates.specs.Lines as lines
use Rattle.rt_link.specs.Addresses.{address_by, entry_at, code_at, data_at, stack_address, brick_address}
use Rattle.rt_link.specs.Imaged.{entering, entries_marks, image_task, image_tasks, marks_in, brick_marks, module_marks, modules_marks, words_in, brick_words, modules_words, root_entering}
use Rattle.rt_link.specs.Named.{relocated_word}
use Rattle.rt_link.specs.Relocated.{patched}
use Rattle.rt_link.specs.Room.{bricks_in, held, code_in, code_bytes, module_code}
use Rattle.rt_sizes.proofs.Layers.{some_is}
use Rattle.rt_imaged.specs.Whole.{entry_in, entry_by}
use Rattle.rt_imaged.proofs.Parts.{StandsIn, in_front, behind, before, inside, moved, part_stands, all_long}
use Rattle.rt_imaged.proofs.Coded.{whole}

-- ---- sums and lists

pub doubled : {A : Type 0} (f g : A → ℕ) → ((x : A) → f x ≡ 2 * g x) → (xs : List A) → sum_by f xs ≡ 2 * sum_by g xs
doubled f g each [] = refl
doubled f g each (x ∷ xs) = let a = sum_by-cons f x xs in let b = sum_by-cons g x xs in let c = each x in let d = doubled f g each xs in omega arith

pub same_sums : {A : Type 0} (f g : A → ℕ) (xs : List A) (k : ℕ) → ((i : ℕ) (x : A) → slice_get xs i ≡ Some x → f x ≡ g x) → sum_by f (take k xs) ≡ sum_by g (take k xs)
same_sums f g [] zero each = refl
same_sums f g [] (suc k) each = refl
same_sums f g (x ∷ xs) zero each = refl
same_sums f g (x ∷ xs) (suc k) each =
    let a = sum_by-cons f x (take k xs) in let b = sum_by-cons g x (take k xs) in let c = each 0 x refl in let d = same_sums f g xs k (λ i y e. each (suc i) y e) in omega arith

three_each : {A : Type 0} (xs : List A) (k : ℕ) (x : A) → slice_get xs k ≡ Some x → sum_by (λ (y : A). 3) (take k xs) ≡ 3 * k
three_each [] k x e = absurd cc
three_each (y ∷ xs) zero x e = refl
three_each {A} (y ∷ xs) (suc k) x e = let more = sum_by-cons (λ (z : A). 3) y (take k xs) in let rest = three_each xs k x e in omega arith

three_all : {A : Type 0} (xs : List A) → sum_by (λ (y : A). 3) xs ≡ 3 * length xs
three_all [] = refl
three_all {A} (y ∷ xs) = let more = sum_by-cons (λ (z : A). 3) y xs in let rest = three_all xs in omega arith

zeros_long : (xs : List ℕ) → length {A = ℕ} (map (λ _. 0) xs) ≡ length xs
zeros_long [] = refl
zeros_long (x ∷ xs) = ap suc (zeros_long xs)

pub lines_long : (ls : List Line) → length (lines.marks ls) ≡ length (lines.words ls)
lines_long [] = refl
lines_long (l ∷ ls) =
    let rest = lines_long ls in
    let here : length (l.mark ∷ map (λ (x : ℕ). 0) (more_words l.instr)) ≡ length (words_of l.instr) = ap suc (zeros_long (more_words l.instr)) in
    let a = length-append (l.mark ∷ map (λ (x : ℕ). 0) (more_words l.instr)) (lines.marks ls) in
    let b = length-append (words_of l.instr) (lines.words ls) in
    (let q : length ((l.mark ∷ map (λ (x : ℕ). 0) (more_words l.instr)) ++ lines.marks ls) ≡ length (words_of l.instr ++ lines.words ls) = omega arith in q)

one_of : (k n : ℕ) → k < suc n → (k < n) ⊎ (k ≡ n)
one_of zero zero l = inr refl
one_of zero (suc n) l = inl (omega arith)
one_of (suc k) zero l = absurd (omega arith)
one_of (suc k) (suc n) l = by (one_of k n (omega arith))
  where
    by : (k < n) ⊎ (k ≡ n) → (suc k < suc n) ⊎ (suc k ≡ suc n)
    by (inl a) = inl (omega arith)
    by (inr a) = inr (ap suc a)

-- ---- the marks of entries

enter_marks : List ℕ
enter_marks = lines.marks (entering 0)

marks_long : (n : ℕ) → length (entries_marks n) ≡ 3 * n
marks_long zero = refl
marks_long (suc n) = let rest = marks_long n in let a : length (entries_marks n ++ lines.marks (entering 0)) ≡ length (entries_marks n) + 3 = length-append (entries_marks n) (lines.marks (entering 0)) in omega arith

marks_at : (n k : ℕ) → k < n → StandsIn (entries_marks n) (3 * k) (lines.marks (entering 0))
marks_at zero k less = absurd (omega arith)
marks_at (suc n) k less = by (λ l. marks_at n k l) (one_of k n less)
  where
    by : ((k < n) → StandsIn (entries_marks n) (3 * k) (lines.marks (entering 0))) → (k < n) ⊎ (k ≡ n) → StandsIn (entries_marks n ++ lines.marks (entering 0)) (3 * k) (lines.marks (entering 0))
    by go (inl a) = before (entries_marks n) (lines.marks (entering 0)) (3 * k) (lines.marks (entering 0)) (go a)
    by go (inr e) =
        let long = marks_long n in
        moved (entries_marks n ++ lines.marks (entering 0)) (length (entries_marks n) + 0) (3 * k) (lines.marks (entering 0)) (omega arith)
        (behind (entries_marks n) (lines.marks (entering 0)) 0 (lines.marks (entering 0)) (whole (lines.marks (entering 0))))

-- ---- procedures

abbrev pub count_in : Option Content → ℕ
count_in (Some (content.Proc p)) = length p.words
count_in _ = 0

abbrev pub count_of : Brick → ℕ
count_of d = count_in (content_of d.kind)

abbrev pub count_all : ObjectParts → ℕ
count_all o = sum_by count_of o.bricks

bytes_in : (c : Option Content) → code_in c ≡ 2 * count_in c
bytes_in None = refl
bytes_in (Some (content.Proc p)) = refl
bytes_in (Some (content.Data d)) = refl
bytes_in (Some (content.Stack n)) = refl

pub bytes_of : (d : Brick) → code_bytes d ≡ 2 * count_of d
bytes_of d = bytes_in (content_of d.kind)

pub bytes_all : (o : ObjectParts) → module_code o ≡ 2 * count_all o
bytes_all o = doubled code_bytes count_of bytes_of o.bricks

pub patched_long : (word : Relocation → ℕ) (rs : List Relocation) (ws : List ℕ) → length (patched word rs ws) ≡ length ws
patched_long word [] ws = refl
patched_long word (r ∷ rs) ws = patched_long word rs (slice_set ws r.place (word r)) ∙ length-set ws r.place (word r)

-- marks of what is in its ranges are as many as its words
marked_in : (records : List RecordDef) (strings bricks : ℕ) (name : List ℕ) (k : BrickKind) → HasKindRanges records strings bricks name k → length (marks_in (content_of k)) ≡ count_in (content_of k)
marked_in records strings bricks name (whose.Own (content.Proc p)) h = h.marks
marked_in records strings bricks name (whose.Own (content.Data d)) h = refl
marked_in records strings bricks name (whose.Own (content.Stack n)) h = refl
marked_in records strings bricks name (whose.Ent (content.Proc p)) h = h.marks
marked_in records strings bricks name (whose.Ent (content.Data d)) h = refl
marked_in records strings bricks name (whose.Ent (content.Stack n)) h = refl
marked_in records strings bricks name (whose.Ext e) h = refl
marked_in records strings bricks name (whose.Svc v) h = refl

each_is : {A : Type 0} (P : A → Type 0) (xs : List A) (k : ℕ) (x : A) → AllByRecursion P xs → slice_get xs k ≡ Some x → P x
each_is P [] k x h at = absurd cc
each_is P (y ∷ xs) zero x h at = let is : y ≡ x = cc in subst P is h.0
each_is P (y ∷ xs) (suc k) x h at = each_is P xs k x h.1 at

abbrev marks_of : Brick → ℕ
marks_of d = length (brick_marks d)

brick_marked : (o : ObjectParts) → HasObjectRanges o → (i : ℕ) (d : Brick) → slice_get o.bricks i ≡ Some d → marks_of d ≡ count_of d
brick_marked o h i d at = marked_in o.records.records (length o.strings) (length o.bricks) d.name d.kind (each_is (HasBrickRanges o.records.records (length o.strings) (length o.bricks)) o.bricks i d h.each_brick at).kind

take_long : {A : Type 0} (xs : List A) → take (length xs) xs ≡ xs
take_long [] = refl
take_long (x ∷ xs) = ap (λ z. x ∷ z) (take_long xs)

module_marked : (o : ObjectParts) → HasObjectRanges o → length (module_marks o) ≡ count_all o
module_marked o h =
    all_long brick_marks marks_of (λ d. refl) o.bricks ∙ ap (sum_by marks_of) (sym (take_long o.bricks)) ∙ same_sums marks_of count_of o.bricks (length o.bricks) (brick_marked o h) ∙ ap (sum_by count_of) (take_long o.bricks)

module _ (objects : List ObjectParts) (ranges : (i : ℕ) (o : ObjectParts) → slice_get objects i ≡ Some o → HasObjectRanges o) where
  -- the marks of a procedure, among those of all modules
  pub marks_there : (k b : ℕ) (o : ObjectParts) (d : Brick) → slice_get objects k ≡ Some o → slice_get o.bricks b ≡ Some d → StandsIn (modules_marks objects) (sum_by count_all (take k objects) + sum_by count_of (take b o.bricks)) (brick_marks d)
  marks_there k b o d of at =
      let h = part_stands module_marks (λ (x : ObjectParts). length (module_marks x)) (λ x. refl) objects k o of in
      let g = part_stands brick_marks marks_of (λ x. refl) o.bricks b d at in
      let one = same_sums (λ (x : ObjectParts). length (module_marks x)) count_all objects k (λ i x e. module_marked x (ranges i x e)) in
      let two = same_sums marks_of count_of o.bricks b (brick_marked o (ranges k o of)) in
      moved (modules_marks objects) (sum_by (λ (x : ObjectParts). length (module_marks x)) (take k objects) + sum_by marks_of (take b o.bricks)) (sum_by count_all (take k objects) + sum_by count_of (take b o.bricks)) (brick_marks d) (omega arith)
      (inside (modules_marks objects) (sum_by (λ (x : ObjectParts). length (module_marks x)) (take k objects)) (module_marks o) (sum_by marks_of (take b o.bricks)) (brick_marks d) h g)

module _ (objects : List ObjectParts) (stacks : List Proc) (of : List (List Bound)) where
  content_long : (m : ℕ) (c : Option Content) → length (words_in objects stacks of m c) ≡ count_in c
  content_long m None = refl
  content_long m (Some (content.Proc p)) = patched_long (relocated_word objects stacks of m) p.relocations p.words
  content_long m (Some (content.Data d)) = refl
  content_long m (Some (content.Stack n)) = refl

  brick_long : (m : ℕ) (d : Brick) → length (brick_words objects stacks of m d) ≡ count_of d
  brick_long m d = content_long m (content_of d.kind)

  abbrev in_module : ℕ → ObjectParts → List ℕ
  in_module m o = flat_map (brick_words objects stacks of m) o.bricks

  module_long : (m : ℕ) (o : ObjectParts) → length (in_module m o) ≡ count_all o
  module_long m o = all_long (brick_words objects stacks of m) count_of (brick_long m) o.bricks

  modules_stand : (m : ℕ) (os : List ObjectParts) (k : ℕ) (o : ObjectParts) → slice_get os k ≡ Some o → StandsIn (modules_words objects stacks of m os) (sum_by count_all (take k os)) (in_module (m + k) o)
  modules_stand m [] k o e = absurd cc
  modules_stand m (p ∷ os) zero o e =
      let is : p ≡ o = cc in
      let number : m ≡ m + zero = omega arith in
      subst (λ (n : ℕ). StandsIn (modules_words objects stacks of m (p ∷ os)) 0 (in_module n o)) number
      (subst (λ (z : ObjectParts). StandsIn (modules_words objects stacks of m (p ∷ os)) 0 (in_module m z)) is (in_front (in_module m p) (modules_words objects stacks of (suc m) os)))
  modules_stand m (p ∷ os) (suc k) o e =
      let rest = modules_stand (suc m) os k o e in
      let number : suc m + k ≡ m + suc k = omega arith in
      let more : sum_by count_all (p ∷ take k os) ≡ count_all p + sum_by count_all (take k os) = sum_by-cons count_all p (take k os) in
      let first = module_long m p in
      let place : length (in_module m p) + sum_by count_all (take k os) ≡ sum_by count_all (p ∷ take k os) = omega arith in
      subst (λ (n : ℕ). StandsIn (modules_words objects stacks of m (p ∷ os)) (sum_by count_all (p ∷ take k os)) (in_module n o)) number
      (moved (modules_words objects stacks of m (p ∷ os)) (length (in_module m p) + sum_by count_all (take k os)) (sum_by count_all (p ∷ take k os)) (in_module (suc m + k) o) place
      (behind (in_module m p) (modules_words objects stacks of (suc m) os) (sum_by count_all (take k os)) (in_module (suc m + k) o) rest))

  -- the words of a procedure, among those of all modules
  pub words_there : (k b : ℕ) (o : ObjectParts) (d : Brick) → slice_get objects k ≡ Some o → slice_get o.bricks b ≡ Some d → StandsIn (modules_words objects stacks of 1 objects) (sum_by count_all (take k objects) + sum_by count_of (take b o.bricks)) (brick_words objects stacks of (suc k) d)
  words_there k b o d e at =
      let h = modules_stand 1 objects k o e in
      let number : 1 + k ≡ suc k = omega arith in
      let here = subst (λ (n : ℕ). StandsIn (modules_words objects stacks of 1 objects) (sum_by count_all (take k objects)) (in_module n o)) number h in
      inside (modules_words objects stacks of 1 objects) (sum_by count_all (take k objects)) (in_module (suc k) o) (sum_by count_of (take b o.bricks)) (brick_words objects stacks of (suc k) d) here (part_stands (brick_words objects stacks of (suc k)) count_of (brick_long (suc k)) o.bricks b d at)

  -- ---- behind any support code

  module _ (support : List Line) (roots : List Proc) where
    abbrev pub entry_words : List ℕ
    entry_words = flat_map (λ f. lines.words (root_entering objects stacks of f)) roots

    abbrev pub code_with : List ℕ
    code_with = lines.words support ++ (entry_words ++ modules_words objects stacks of 1 objects)

    abbrev pub marks_with : ℕ → List ℕ
    marks_with n = lines.marks support ++ (entries_marks n ++ modules_marks objects)

    pub support_words : StandsIn code_with 0 (lines.words support)
    support_words = in_front (lines.words support) (entry_words ++ modules_words objects stacks of 1 objects)

    pub support_marks : (n : ℕ) → StandsIn (marks_with n) 0 (lines.marks support)
    support_marks n = in_front (lines.marks support) (entries_marks n ++ modules_marks objects)

    pub entry_stands : (k : ℕ) (f : Proc) → slice_get roots k ≡ Some f → StandsIn code_with (length (lines.words support) + 3 * k) (lines.words (root_entering objects stacks of f))
    entry_stands k f at =
        let h = part_stands (λ (g : Proc). lines.words (root_entering objects stacks of g)) (λ (g : Proc). 3) (λ g. refl) roots k f at in
        let here = moved entry_words (sum_by (λ (g : Proc). 3) (take k roots)) (3 * k) (lines.words (root_entering objects stacks of f)) (three_each roots k f at) h in
        behind (lines.words support) (entry_words ++ modules_words objects stacks of 1 objects) (3 * k) (lines.words (root_entering objects stacks of f))
        (before entry_words (modules_words objects stacks of 1 objects) (3 * k) (lines.words (root_entering objects stacks of f)) here)

    pub entry_marked : (n k : ℕ) → k < n → StandsIn (marks_with n) (length (lines.words support) + 3 * k) (lines.marks (entering 0))
    entry_marked n k less =
        let long = lines_long support in
        moved (marks_with n) (length (lines.marks support) + 3 * k) (length (lines.words support) + 3 * k) (lines.marks (entering 0)) (omega arith)
        (behind (lines.marks support) (entries_marks n ++ modules_marks objects) (3 * k) (lines.marks (entering 0)) (before (entries_marks n) (modules_marks objects) (3 * k) (lines.marks (entering 0)) (marks_at n k less)))

    pub proc_stands : (k b : ℕ) (o : ObjectParts) (d : Brick) → slice_get objects k ≡ Some o → slice_get o.bricks b ≡ Some d
        → StandsIn code_with (length (lines.words support) + (3 * length roots + (sum_by count_all (take k objects) + sum_by count_of (take b o.bricks)))) (brick_words objects stacks of (suc k) d)
    proc_stands k b o d e at =
        let h = words_there k b o d e at in
        let long = all_long (λ (g : Proc). lines.words (root_entering objects stacks of g)) (λ (g : Proc). 3) (λ g. refl) roots ∙ three_all roots in
        let place = sum_by count_all (take k objects) + sum_by count_of (take b o.bricks) in
        let ws = brick_words objects stacks of (suc k) d in
        let rest = behind entry_words (modules_words objects stacks of 1 objects) place ws h in
        behind (lines.words support) (entry_words ++ modules_words objects stacks of 1 objects) (3 * length roots + place) ws
        (moved (entry_words ++ modules_words objects stacks of 1 objects) (length entry_words + place) (3 * length roots + place) ws (ap (λ (n : ℕ). n + place) long) rest)

    pub proc_marked : ((i : ℕ) (o : ObjectParts) → slice_get objects i ≡ Some o → HasObjectRanges o) → (n k b : ℕ) (o : ObjectParts) (d : Brick) → slice_get objects k ≡ Some o → slice_get o.bricks b ≡ Some d
        → StandsIn (marks_with n) (length (lines.words support) + (3 * n + (sum_by count_all (take k objects) + sum_by count_of (take b o.bricks)))) (brick_marks d)
    proc_marked ranges n k b o d e at =
        let h = marks_there objects ranges k b o d e at in
        let place = sum_by count_all (take k objects) + sum_by count_of (take b o.bricks) in
        let rest = behind (entries_marks n) (modules_marks objects) place (brick_marks d) h in
        let inner = moved (entries_marks n ++ modules_marks objects) (length (entries_marks n) + place) (3 * n + place) (brick_marks d) (ap (λ (z : ℕ). z + place) (marks_long n)) rest in
        moved (marks_with n) (length (lines.marks support) + (3 * n + place)) (length (lines.words support) + (3 * n + place)) (brick_marks d) (ap (λ (z : ℕ). z + (3 * n + place)) (lines_long support))
        (behind (lines.marks support) (entries_marks n ++ modules_marks objects) (3 * n + place) (brick_marks d) inner)

-- ---- entries

pub entries_of : (objects : List ObjectParts) (n : ℕ) (ts : List Task) (fs : List Proc) (k : ℕ) (t : ImageTask) → slice_get (image_tasks objects n ts fs) k ≡ Some t → t.entry ≡ entry_at (n + k)
entries_of objects n [] fs k t e = absurd cc
entries_of objects n (x ∷ ts) [] k t e = absurd cc
entries_of objects n (x ∷ ts) (f ∷ fs) zero t e =
    let number : n ≡ n + zero = omega arith in
    let is : entry_at n ≡ t.entry = ap (λ (z : ImageTask). z.entry) (some_is (image_task objects n x f) t e) in
    sym is ∙ ap entry_at number
entries_of objects n (x ∷ ts) (f ∷ fs) (suc k) t e = let number : suc n + k ≡ n + suc k = omega arith in entries_of objects (suc n) ts fs k t e ∙ ap entry_at number

module _ (objects : List ObjectParts) (stacks : List Proc) where
  none_held : (b : ℕ) (c : ProcContent) → content_at (slice_get (bricks_in None) b) ≡ Some (content.Proc c) → ⊥
  none_held b c e = cc

  -- the entry of a procedure that an object has is the address of its brick
  pub entry_is : (f : Proc) (c : ProcContent) (m : ℕ) → f.module ≡ m → held objects f ≡ Some (content.Proc c) → (entry_by objects stacks f m ≡ code_at objects stacks f) × (entry_by objects stacks f m ≡ brick_address objects stacks f)
  entry_is f c zero z e = absurd (none_held f.brick c (subst (λ (n : ℕ). content_at (slice_get (bricks_in (numbered objects n)) f.brick) ≡ Some (content.Proc c)) z e))
  entry_is f c (suc m) z e =
      let a : entry_in (held objects f) (code_at objects stacks f) ≡ code_at objects stacks f = ap (λ (q : Option Content). entry_in q (code_at objects stacks f)) e in
      let b : brick_address objects stacks f ≡ code_at objects stacks f = ap (λ (q : Option Content). address_by q (code_at objects stacks f) (data_at objects stacks f) (stack_address objects stacks f)) e in
      (a, a ∙ sym b)

  pub held_is : (f : Proc) (o : ObjectParts) (d : Brick) (c : Content) → numbered objects f.module ≡ Some o → slice_get o.bricks f.brick ≡ Some d → content_of d.kind ≡ Some c → held objects f ≡ Some c
  held_is f o d c of at is = ap (λ (z : Option ObjectParts). content_at (slice_get (bricks_in z) f.brick)) of ∙ ap content_at at ∙ is
