-- Support code, entries and procedures stand in the code of an accepted system.
use Rattle.std.proofs.Common.{◌≡◌, ℕ, zero, suc, ◌+◌, ◌-◌, ◌*◌, ◌<◌, ◌≤◌, List, [], ◌∷◌, length, map, take, Option, Some, slice_get, refl, sym, ap, ◌∙◌, subst, arith}
use Rattle.std.specs.List.{sum_by}
use Rattle.std.proofs.lemmas.Option.{slice_get_within}
use Rattle.rt_tree.specs.Stored.{System}
use Rattle.rt_tree_nodes.specs.declared.store.Proc.{Proc}
use Rattle.rt_system.specs.declared.parts.Task.{Task}
use Rattle.rt_image.specs.declared.image.ImageParts.{ImageParts}
use Rattle.rt_image.specs.declared.image.ImageTask.{ImageTask}
use Rattle.rt_image.specs.declared.map.Map.{Map}
use Rattle.rt_object.specs.Ranges.{HasObjectRanges}
use Rattle.rt_object.specs.declared.object.Brick.{Brick}
use Rattle.rt_object.specs.declared.object.Content.{Content}
use Rattle.rt_object.specs.declared.object.Content.TheVariants as content
use Rattle.rt_object.specs.declared.object.ObjectParts.{ObjectParts}
use Rattle.rt_object.specs.declared.object.ProcContent.{ProcContent}
use Rattle.rt_match.specs.declared.bindings.Bound.{Bound}
use Rattle.rt_graph.specs.Calls.{brick, numbered, content_of}
use Rattle.rt_graph.specs.Tasks.{IsRootNamed}
use Rattle.rt_lower.specs.declared.layouts.Layouts.{Layouts}
use Rattle.rt_link.specs.Addresses.{entry_at, nth_at, module_code_at, code_at, brick_address}
use Rattle.rt_link.specs.Imaged.{entering, marks_in, brick_marks, words_in, brick_words}
use Rattle.rt_link.specs.Named.{relocated_word}
use Rattle.rt_link.specs.Relocated.{patched}
use Rattle.rt_link.specs.Room.{bricks_in, support_bytes, code_bytes, module_code}
use Rattle.rt_templates.specs.declared.line.Line.{Line}
use Rattle.rt_templates.specs.Lines as lines
use Rattle.rt_templates.specs.Supported.{all_lines}
use Rattle.rt_meaning.specs.declared.begin.SourceTask.{SourceTask}
use Rattle.rt_meaning.specs.Roots.{root_of}
use Rattle.pdp_code.specs.declared.instruction.Operand.TheVariants.{Absolute}
use Rattle.pdp_code.specs.declared.instruction.Reg.TheVariants.{Pc}
use Rattle.pdp_code.specs.declared.instruction.Instr.TheVariants.{Call, Trap}
use Rattle.rt_follows.specs.Whole.{Whole, Home}
use Rattle.rt_follows.specs.Held.{CodeAt, layout, shown}
use Rattle.pdp_symbolic.specs.Machine as Machine
use Rattle.rt_faithful.specs.Faithful.{home_of}
use Rattle.rt_sizes.proofs.Layers.{some_is}
use Rattle.rt_imaged.specs.Coded.{marked, MarksAt, EntriesDoStand, SupportDoesStand, ProcStands, ProcsDoStand}
use Rattle.rt_imaged.specs.Laws.{Landed}
use Rattle.rt_imaged.specs.Whole.{source_tasks, whole_of, IsSystem}
use Rattle.rt_imaged.proofs.Coded.{words_stand, marks_stand, lines_stand}
use Rattle.rt_imaged.proofs.Entering.{doubled, count_of, count_all, bytes_of, bytes_all, code_with, marks_with, support_words, support_marks, entry_stands, entry_marked, proc_stands, proc_marked, entries_of, entry_is, held_is}
use Rattle.rt_imaged.proofs.Fitting.{all_at}
use Rattle.rt_imaged.proofs.Parts.{StandsIn}
use Rattle.rt_imaged.proofs.Rooming.{source_left}
use Rattle.rt_imaged.proofs.Sitting.{laid_of}

support_size : ℕ
support_size = length (lines.words all_lines)

support_twice : support_bytes ≡ 2 * support_size
unfolding support_bytes support_size
support_twice = refl

module _ (laws : Landed) (ps : System) (ls : List Layouts) (objects : List ObjectParts) (tasks : List Task) (image : ImageParts) (mapped : Map) (s : IsSystem ps ls objects tasks image mapped) where
  abbrev stacks : List Proc
  stacks = s.linked.known.stacks

  abbrev roots : List Proc
  roots = s.linked.known.roots

  abbrev w : Whole
  w = whole_of ps ls objects s.linked.known image

  ends : w.code_end ≡ 2 * length image.code
  ends = sym (laid_of laws ps ls objects tasks image mapped s).code

  many_roots : length roots ≡ length tasks
  many_roots = s.linked.judged.deep.ordered.rooted.are_roots.one_each

  many_stacks : length stacks ≡ length tasks
  many_stacks = ap length s.linked.judged.stacks ∙ (laws.stacks objects tasks roots s.linked.judged.deep.ordered.rooted.are_roots).one_each

  abbrev of : List (List Bound)
  of = s.linked.known.bindings.of

  code_is : image.code ≡ code_with objects stacks of all_lines roots
  code_is = ap (λ (i : ImageParts). i.code) s.linked.is_image

  marks_are : image.marks ≡ marks_with objects stacks of all_lines roots (length tasks)
  marks_are = ap (λ (i : ImageParts). i.marks) s.linked.is_image

  in_code : (n : ℕ) (ws : List ℕ) → StandsIn (code_with objects stacks of all_lines roots) n ws → StandsIn image.code n ws
  in_code n ws h = subst (λ (xs : List ℕ). StandsIn xs n ws) (sym code_is) h

  in_marks : (n : ℕ) (ms : List ℕ) → StandsIn (marks_with objects stacks of all_lines roots (length tasks)) n ms → StandsIn image.marks n ms
  in_marks n ms h = subst (λ (xs : List ℕ). StandsIn xs n ms) (sym marks_are) h

  lines_at : (h : Home) (ms : List Line) (n : ℕ) → StandsIn image.code n (lines.words ms) → StandsIn image.marks n (lines.marks ms) → CodeAt w h (2 * n) (map marked ms)
  lines_at h ms n f g = lines_stand w h image (λ a. refl) (λ a. refl) ends s.image_ranges ms n f g

  pub support_stands : (h : Home) → CodeAt w h 0 (map marked all_lines)
  support_stands h = lines_at h all_lines 0 (in_code 0 (lines.words all_lines) (support_words objects stacks of all_lines roots)) (in_marks 0 (lines.marks all_lines) (support_marks objects stacks of all_lines roots (length tasks)))

  entry_at_size : (k : ℕ) (f : Proc) → slice_get roots k ≡ Some f → StandsIn (code_with objects stacks of all_lines roots) (support_size + 3 * k) (lines.words (entering (brick_address objects stacks f)))
  unfolding support_size
  entry_at_size k f at = entry_stands objects stacks of all_lines roots k f at

  marks_at_size : (k : ℕ) → k < length tasks → StandsIn (marks_with objects stacks of all_lines roots (length tasks)) (support_size + 3 * k) (lines.marks (entering 0))
  unfolding support_size
  marks_at_size k less = entry_marked objects stacks of all_lines roots (length tasks) k less

  -- task k, counted from 0
  entry_lies : (h : Home) (k : ℕ) (f : Proc) → slice_get roots k ≡ Some f → CodeAt w h (entry_at (0 + k)) (shown (Call Pc (Absolute (brick_address objects stacks f))) ∷ shown (Trap 11) ∷ [])
  entry_lies h k f at =
      let less = slice_get_within roots k f at in
      let many = many_roots in
      let words = in_code (support_size + 3 * k) (lines.words (entering (brick_address objects stacks f))) (entry_at_size k f at) in
      let marks = in_marks (support_size + 3 * k) (lines.marks (entering 0)) (marks_at_size k (omega arith)) in
      let twice = support_twice in
      let place : 2 * (support_size + 3 * k) ≡ entry_at (0 + k) = omega arith in
      subst (λ (a : ℕ). CodeAt w h a (shown (Call Pc (Absolute (brick_address objects stacks f))) ∷ shown (Trap 11) ∷ [])) place
      (lines_at h (entering (brick_address objects stacks f)) (support_size + 3 * k) words marks)

  -- the entry of a root
  root_entry : (name : List ℕ) (f : Proc) → IsRootNamed objects name f → w.entry f ≡ brick_address objects stacks f
  root_entry name f h =
      let it = h.entry.entry in
      (entry_is objects stacks f h.body f.module refl (held_is objects stacks f it.object it.found (content.Proc h.body) it.of it.at (ap content_of it.ent))).1

  pub enters : (i : ℕ) (t : ImageTask) (x : SourceTask) → 1 ≤ i → slice_get image.tasks (i - 1) ≡ Some t → slice_get (source_tasks tasks roots) (i - 1) ≡ Some x → CodeAt w (home_of image i) t.entry (shown (Call Pc (Absolute (w.entry (root_of x)))) ∷ shown (Trap 11) ∷ [])
  enters i t x some at has =
      let k = i - 1 in
      let h = home_of image i in
      let src = source_left tasks roots k x has in
      let f = src.1 in
      let good = s.linked.judged.deep.ordered.rooted.are_roots.each k src.0 src.2 in
      let same : good.0 ≡ f = some_is good.0 f (sym good.3 ∙ src.3) in
      let is_root : IsRootNamed objects src.0.root f = subst (λ (z : Proc). IsRootNamed objects src.0.root z) same good.2.root in
      let entry : w.entry f ≡ brick_address objects stacks f = root_entry src.0.root f is_root in
      let place : t.entry ≡ entry_at (0 + k) = entries_of objects 0 tasks stacks k t (ap (λ (z : ImageParts). slice_get z.tasks k) (sym s.linked.is_image) ∙ at) in
      subst (λ (z : SourceTask). CodeAt w h t.entry (shown (Call Pc (Absolute (w.entry (root_of z)))) ∷ shown (Trap 11) ∷ [])) src.4
      (subst (λ (a : ℕ). CodeAt w h a (shown (Call Pc (Absolute (w.entry f))) ∷ shown (Trap 11) ∷ [])) (sym place)
      (subst (λ (a : ℕ). CodeAt w h (entry_at (0 + k)) (shown (Call Pc (Absolute a)) ∷ shown (Trap 11) ∷ [])) (sym entry) (entry_lies h k f src.3)))

  -- ---- procedures

  abbrev behind_support : ℕ → ℕ → ObjectParts → ℕ
  behind_support k b o = 3 * length roots + (sum_by count_all (take k objects) + sum_by count_of (take b o.bricks))

  words_at_size : (k b : ℕ) (o : ObjectParts) (d : Brick) → slice_get objects k ≡ Some o → slice_get o.bricks b ≡ Some d → StandsIn (code_with objects stacks of all_lines roots) (support_size + behind_support k b o) (brick_words objects stacks of (suc k) d)
  unfolding support_size
  words_at_size k b o d e at = proc_stands objects stacks of all_lines roots k b o d e at

  ranges_at : (i : ℕ) (o : ObjectParts) → slice_get objects i ≡ Some o → HasObjectRanges o
  ranges_at i o e = all_at HasObjectRanges objects s.object_ranges i o e

  marks_at_place : (k b : ℕ) (o : ObjectParts) (d : Brick) → slice_get objects k ≡ Some o → slice_get o.bricks b ≡ Some d → StandsIn (marks_with objects stacks of all_lines roots (length tasks)) (support_size + (3 * length tasks + (sum_by count_all (take k objects) + sum_by count_of (take b o.bricks)))) (brick_marks d)
  unfolding support_size
  marks_at_place k b o d e at = proc_marked objects stacks of all_lines roots ranges_at (length tasks) k b o d e at

  proc_place : (k b : ℕ) (o : ObjectParts) → slice_get objects k ≡ Some o → code_at objects stacks (brick (suc k) b) ≡ 2 * (support_size + behind_support k b o)
  proc_place k b o e =
      let here : code_at objects stacks (brick (suc k) b) ≡ nth_at code_bytes o.bricks (module_code_at objects stacks (suc k)) b = ap (λ (z : Option ObjectParts). nth_at code_bytes (bricks_in z) (module_code_at objects stacks (suc k)) b) e in
      let one = doubled module_code count_all bytes_all (take k objects) in
      let two = doubled code_bytes count_of bytes_of (take b o.bricks) in
      let twice = support_twice in
      let a = many_roots in
      let c = many_stacks in
      omega arith

  pub proc_lies : (h : Home) (m b : ℕ) (o : ObjectParts) (d : Brick) (p : ProcContent) → numbered objects m ≡ Some o → slice_get o.bricks b ≡ Some d → content_of d.kind ≡ Some (content.Proc p)
      → ProcStands w h (patched (relocated_word objects stacks of m) p.relocations p.words) p.marks m b
  proc_lies h zero b o d p e at is = absurd cc
  proc_lies h (suc k) b o d p e at is =
      let n = support_size + behind_support k b o in
      let first : StandsIn image.code n (brick_words objects stacks of (suc k) d) = in_code n (brick_words objects stacks of (suc k) d) (words_at_size k b o d e at) in
      let words : StandsIn image.code n (patched (relocated_word objects stacks of (suc k)) p.relocations p.words) =
      subst (λ (c : Option Content). StandsIn image.code n (words_in objects stacks of (suc k) c)) is first in
      let second = in_marks (support_size + (3 * length tasks + (sum_by count_all (take k objects) + sum_by count_of (take b o.bricks)))) (brick_marks d) (marks_at_place k b o d e at) in
      let third : StandsIn image.marks n (brick_marks d) = subst (λ (z : ℕ). StandsIn image.marks (support_size + (3 * z + (sum_by count_all (take k objects) + sum_by count_of (take b o.bricks)))) (brick_marks d)) (sym many_roots) second in
      let marks : StandsIn image.marks n p.marks = subst (λ (c : Option Content). StandsIn image.marks n (marks_in c)) is third in
      let entry : w.entry (brick (suc k) b) ≡ 2 * n = (entry_is objects stacks (brick (suc k) b) p (suc k) refl (held_is objects stacks (brick (suc k) b) o d (content.Proc p) e at is)).0 ∙ proc_place k b o e in
      let fits = first.within in
      let few = s.image_ranges.code in
      record {
        small = omega arith;
        words = subst (λ (a : ℕ). Machine.Stands (layout w h) a (patched (relocated_word objects stacks of (suc k)) p.relocations p.words)) (sym entry) (words_stand w h image (λ a. refl) (λ a. refl) ends s.image_ranges (patched (relocated_word objects stacks of (suc k)) p.relocations p.words) n words);
        marks_are = subst (λ (a : ℕ). MarksAt w a p.marks) (sym entry) (marks_stand w h image (λ a. refl) (λ a. refl) ends s.image_ranges p.marks n marks);
      }

pub entries_do_stand : EntriesDoStand
entries_do_stand laws ps ls objects tasks image mapped s i t x some at has = enters laws ps ls objects tasks image mapped s i t x some at has

pub support_does_stand : SupportDoesStand
support_does_stand laws ps ls objects tasks image mapped s h = support_stands laws ps ls objects tasks image mapped s h

pub procs_do_stand : ProcsDoStand
procs_do_stand laws ps ls objects tasks image mapped s h m b o d p e at is = proc_lies laws ps ls objects tasks image mapped s h m b o d p e at is
