-- Where the parts of an image lie.
use Rattle.std.proofs.Common.{◌≡◌, ℕ, zero, suc, ◌+◌, ◌*◌, ◌<◌, List, [], ◌∷◌, length, take, Some, refl, sym, ap, ◌∙◌, arith}
use Rattle.std.specs.Prelude.{slice_get}
use Rattle.std.specs.List.{sum_by}
use Rattle.std.proofs.lemmas.List.Sums.{sum_by-cons}
use Rattle.rt_tree_nodes.specs.declared.store.Proc.{Proc}
use Rattle.rt_image.specs.Memory.{block_from}
use Rattle.rt_object.specs.declared.object.Content.{Content}
use Rattle.rt_object.specs.declared.object.Content.TheVariants as content
use Rattle.rt_object.specs.declared.object.ObjectParts.{ObjectParts}
use Rattle.rt_match.specs.declared.bindings.Bound.{Bound}
use Rattle.rt_system.specs.declared.parts.Task.{Task}
use Rattle.rt_graph.specs.Calls.{content_of, content_at}
use Rattle.rt_graph.specs.Tasks.{IsFirstEntry, IsEntry}
use Rattle.rt_link.specs.Room.{bricks_in, held, task_bytes, code_end, data_end}
use Rattle.rt_link.specs.Addresses.{block_at}
use Rattle.rt_link.specs.Imaged.{image_code, image_bytes, image_tasks, AreStackBricks}
use Rattle.rt_link.specs.ImageLaws.{LiesAsLaid}
use Rattle.rt_link.proofs.Long.{code_long, bytes_long}

-- the blocks of tasks, one behind another
blocks_from : (objects : List ObjectParts) (k : ℕ) (ts : List Task) (fs : List Proc) (n a : ℕ) → length fs ≡ length ts → n < length fs → block_from (image_tasks objects k ts fs) n a ≡ a + sum_by (task_bytes objects) (take n fs)
blocks_from objects k ts [] n a e h = absurd (omega arith)
blocks_from objects k [] (f ∷ fs) n a e h = absurd (omega arith)
blocks_from objects k (t ∷ ts) (f ∷ fs) zero a e h = omega arith
blocks_from objects k (t ∷ ts) (f ∷ fs) (suc n) a e h =
    let rest = blocks_from objects (suc k) ts fs n (a + task_bytes objects f) (omega arith) (omega arith) in
    let more = sum_by-cons (task_bytes objects) f (take n fs) in
    rest ∙ (let sum : a + task_bytes objects f + sum_by (task_bytes objects) (take n fs) ≡ a + sum_by (task_bytes objects) (f ∷ take n fs) = omega arith in sum)

pub lies_as_laid : (objects : List ObjectParts) (of : List (List Bound)) (tasks : List Task) (roots stacks : List Proc) → length stacks ≡ length tasks → length roots ≡ length tasks → LiesAsLaid objects of tasks roots stacks
lies_as_laid objects of tasks roots stacks one_each rooted =
    let code : 2 * length (image_code objects stacks of roots) ≡ code_end objects stacks = code_long objects stacks of roots (rooted ∙ sym one_each) in
    let long = bytes_long objects stacks of in
    let ends : 2 * length (image_code objects stacks of roots) + length (image_bytes objects stacks of) ≡ data_end objects stacks = omega arith in
    let blocks : (n : ℕ) → n < length stacks → block_from (image_tasks objects 0 tasks stacks) n (2 * length (image_code objects stacks of roots) + length (image_bytes objects stacks of)) ≡ block_at objects stacks n = λ n h.
    blocks_from objects 0 tasks stacks n (2 * length (image_code objects stacks of roots) + length (image_bytes objects stacks of)) one_each h ∙ ap (λ (a : ℕ). a + sum_by (task_bytes objects) (take n stacks)) ends in
    record {
      code = code;
      bytes = ends;
      blocks = blocks;
      bricks = λ n h. ap (λ (a : ℕ). a + 16) (blocks n h);
    }

-- what an entry holds
entry_held : (objects : List ObjectParts) (name : List ℕ) (f : Proc) (c : Content) → IsEntry objects name f c → held objects f ≡ Some c
entry_held objects name f c is =
    ap (λ o. content_at (slice_get (bricks_in o) f.brick)) is.of ∙ ap content_at is.at ∙ ap content_of is.ent

pub entries_are : (objects : List ObjectParts) (stacks : List Proc) → ((i : ℕ) (f : Proc) → slice_get stacks i ≡ Some f → (name : List ℕ) × (n : ℕ) × IsFirstEntry objects name f (content.Stack n)) → AreStackBricks objects stacks
entries_are objects [] h = tt
entries_are objects (f ∷ fs) h =
    let first = h 0 f refl in
    ((first.1, entry_held objects first.0 f (content.Stack first.1) first.2.entry), entries_are objects fs (λ i g e. h (suc i) g e))
