-- The parts of a system lie one after another.
use Rattle.std.proofs.Common.{◌≡◌, ℕ, zero, suc, ◌+◌, ◌*◌, ◌%◌, ◌<◌, ◌≤◌, List, [], ◌∷◌, ◌++◌, length, map, get_or, Option, Some, None, refl, sym, ap, ◌∙◌, subst, arith}
use Rattle.std.specs.Prelude.{slice_get}
use Rattle.std.specs.List.{AllByRecursion, sum_by, flat_map, range_with_len}
use Rattle.std.proofs.lemmas.List.{take_all}
use Rattle.std.proofs.lemmas.List.Elements.{All-from_recursion}
use Rattle.std.proofs.lemmas.List.Sums.{sum_by_more}
use Rattle.std.proofs.lemmas.Option.{get_or_from_slice_get}
use Rattle.rt_digraph.proofs.Lists.{get_there}
use Rattle.rt_tree_nodes.specs.declared.store.Proc.{Proc}
use Rattle.rt_object.specs.declared.object.Content.{Content}
use Rattle.rt_object.specs.declared.object.Content.TheVariants as content
use Rattle.rt_object.specs.declared.object.ObjectParts.{ObjectParts}
use Rattle.rt_graph.specs.Calls.{brick, content_at}
use Rattle.rt_link.specs.Room.{bricks_in, strings_in, bricks_of, strings_of, held, code_in, data_in, code_bytes, data_bytes, string_bytes, module_code, module_bytes, support_bytes, task_bytes, stack_words, code_start, code_end, data_end, room}
use Rattle.rt_link.specs.Addresses.{nth_at, module_code_at, module_bytes_at, module_data_at, block_at}
use Rattle.rt_link.specs.Parts as parts
use Rattle.rt_link.specs.Parts.{Part, Support, Entry, Code, String, Bytes, Block, Stack, string_in, words_at, first_numbers, module_numbers, codes_of, data_of, task_parts, address, size, Lie, FillRoom}
use Rattle.rt_link.proofs.Summed.{support_is}

-- where the next of some parts begins
next_at : {A : Type 0} (f : A → ℕ) (xs : List A) (first k : ℕ) (x : A) → slice_get xs k ≡ Some x → k < length xs → nth_at f xs first (k + 1) ≡ nth_at f xs first k + f x
next_at f xs first k x there within =
    let more = sum_by_more f xs k x within in
    let at : f (get_or xs k x) ≡ f x = ap f (get_or_from_slice_get xs k x x there) in
    omega arith

last_at : {A : Type 0} (f : A → ℕ) (xs : List A) (first k : ℕ) → length xs ≤ k → nth_at f xs first k ≡ first + sum_by f xs
last_at f xs first k past = ap (λ ys. first + sum_by f ys) (take_all k xs past)

module _ (objects : List ObjectParts) (stacks : List Proc) where
  joined : (ps qs : List Part) (a b c : ℕ) → Lie objects stacks ps a b → Lie objects stacks qs b c → Lie objects stacks (ps ++ qs) a c
  joined [] qs a b c e h = subst (λ n. Lie objects stacks qs n c) (sym e) h
  joined (p ∷ ps) qs a b c e h = (e.0, joined ps qs (a + size objects stacks p) b c e.1 h)

  moved : (ps : List Part) (a b from to : ℕ) → a ≡ from → b ≡ to → Lie objects stacks ps a b → Lie objects stacks ps from to
  moved ps a b from to e f h = subst (λ n. Lie objects stacks ps from n) f (subst (λ n. Lie objects stacks ps n b) e h)

  -- a part for each of some things
  each_lies : {A : Type 0} (P : ℕ → Part) (f : A → ℕ) (xs : List A) (first : ℕ) → ((k : ℕ) → address objects stacks (P k) ≡ nth_at f xs first k) → ((k : ℕ) (x : A) → slice_get xs k ≡ Some x → size objects stacks (P k) ≡ f x)
      → (n k : ℕ) → k + n ≡ length xs → Lie objects stacks (map P (range_with_len k n)) (nth_at f xs first k) (first + sum_by f xs)
  each_lies P f xs first at sized zero k e = last_at f xs first k (omega arith)
  each_lies P f xs first at sized (suc n) k e =
      let there = get_there xs k (omega arith) in
      let step : nth_at f xs first (k + 1) ≡ nth_at f xs first k + size objects stacks (P k) = next_at f xs first k there.0 there.1 (omega arith) ∙ ap (λ s. nth_at f xs first k + s) (sym (sized k there.0 there.1)) in
      let rest = each_lies P f xs first at sized n (k + 1) (omega arith) in
      (at k, subst (λ a. Lie objects stacks (map P (range_with_len (k + 1) n)) a (first + sum_by f xs)) step rest)

  -- some parts for each of some things, which are numbered from shift on
  all_lie : {A : Type 0} (F : ℕ → List Part) (f : A → ℕ) (xs : List A) (first shift : ℕ)
      → ((k m : ℕ) (x : A) → m ≡ k + shift → slice_get xs k ≡ Some x → Lie objects stacks (F m) (nth_at f xs first k) (nth_at f xs first k + f x)) → (n k m : ℕ) → m ≡ k + shift → k + n ≡ length xs
      → Lie objects stacks (flat_map F (range_with_len m n)) (nth_at f xs first k) (first + sum_by f xs)
  all_lie F f xs first shift each zero k m at e = last_at f xs first k (omega arith)
  all_lie F f xs first shift each (suc n) k m at e =
      let there = get_there xs k (omega arith) in
      let step = next_at f xs first k there.0 there.1 (omega arith) in
      let rest = all_lie F f xs first shift each n (k + 1) (m + 1) (omega arith) (omega arith) in
      joined (F m) (flat_map F (range_with_len (m + 1) n)) (nth_at f xs first k) (nth_at f xs first k + f there.0) (first + sum_by f xs) (each k m there.0 at there.1)
      (subst (λ a. Lie objects stacks (flat_map F (range_with_len (m + 1) n)) a (first + sum_by f xs)) step rest)

  entries_lie : (n k : ℕ) → Lie objects stacks (map Entry (range_with_len k n)) (support_bytes + 6 * k) (support_bytes + 6 * (k + n))
  entries_lie zero k = omega arith
  entries_lie (suc n) k =
      let from : support_bytes + 6 * (k + 1) ≡ support_bytes + 6 * k + 6 = omega arith in
      let to : support_bytes + 6 * (k + 1 + n) ≡ support_bytes + 6 * (k + suc n) = omega arith in
      (refl, moved (map Entry (range_with_len (k + 1) n)) (support_bytes + 6 * (k + 1)) (support_bytes + 6 * (k + 1 + n)) (support_bytes + 6 * k + 6) (support_bytes + 6 * (k + suc n)) from to (entries_lie n (k + 1)))

  codes_lie : (i : ℕ) (o : ObjectParts) → slice_get objects i ≡ Some o → Lie objects stacks (codes_of objects (suc i)) (module_code_at objects stacks (suc i)) (module_code_at objects stacks (suc i) + module_code o)
  codes_lie i o e =
      let xs = bricks_of objects (suc i) in
      let first = module_code_at objects stacks (suc i) in
      let from : nth_at code_bytes xs first 0 ≡ first = omega arith in
      let to : first + sum_by code_bytes xs ≡ first + module_code o = ap (λ p. first + sum_by code_bytes (bricks_in p)) e in
      moved (codes_of objects (suc i)) (nth_at code_bytes xs first 0) (first + sum_by code_bytes xs) first (first + module_code o) from to
      (each_lies (Code (suc i)) code_bytes xs first (λ k. refl) (λ k x there. ap (λ d. code_in (content_at d)) there) (length xs) 0 (omega arith))

  data_lie : (i : ℕ) (o : ObjectParts) → slice_get objects i ≡ Some o → Lie objects stacks (data_of objects (suc i)) (module_bytes_at objects stacks (suc i)) (module_bytes_at objects stacks (suc i) + module_bytes o)
  data_lie i o e =
      let xs = bricks_of objects (suc i) in
      let ss = strings_of objects (suc i) in
      let first = module_bytes_at objects stacks (suc i) in
      let middle = module_data_at objects stacks (suc i) in
      let from : nth_at string_bytes ss first 0 ≡ first = omega arith in
      let between : nth_at data_bytes xs middle 0 ≡ middle = omega arith in
      let to : middle + sum_by data_bytes xs ≡ first + module_bytes o = ap (λ p. first + sum_by string_bytes (strings_in p) + sum_by data_bytes (bricks_in p)) e ∙ (let sum : first + sum_by string_bytes o.strings + sum_by data_bytes o.bricks ≡ first + module_bytes o = omega arith in sum) in
      joined (map (String (suc i)) (first_numbers ss)) (map (Bytes (suc i)) (first_numbers xs)) first middle (first + module_bytes o)
      (moved (map (String (suc i)) (first_numbers ss)) (nth_at string_bytes ss first 0) middle first middle from refl
      (each_lies (String (suc i)) string_bytes ss first (λ k. refl) (λ k s there. ap string_in there) (length ss) 0 (omega arith)))
      (moved (map (Bytes (suc i)) (first_numbers xs)) (nth_at data_bytes xs middle 0) (middle + sum_by data_bytes xs) middle (first + module_bytes o) between to
      (each_lies (Bytes (suc i)) data_bytes xs middle (λ k. refl) (λ k x there. ap (λ d. data_in (content_at d)) there) (length xs) 0 (omega arith)))

  task_lies : (n : ℕ) (f : Proc) → slice_get stacks n ≡ Some f → Lie objects stacks (task_parts n) (block_at objects stacks n) (block_at objects stacks n + task_bytes objects f)
  task_lies n f e =
      let words : words_at objects (slice_get stacks n) ≡ stack_words objects f = ap (words_at objects) e in
      (refl, (refl, omega arith))

  in_order : Lie objects stacks (parts.parts objects stacks) 0 (room objects stacks)
  in_order =
      let support : 0 + support_bytes ≡ support_bytes + 6 * 0 = omega arith in
      let start = code_start objects stacks in
      let end = code_end objects stacks in
      let behind = data_end objects stacks in
      let entries : Lie objects stacks (map Entry (first_numbers stacks)) (0 + support_bytes) start =
      moved (map Entry (first_numbers stacks)) (support_bytes + 6 * 0) (support_bytes + 6 * (0 + length stacks)) (0 + support_bytes) start (sym support) (omega arith) (entries_lie (length stacks) 0) in
      let codes : Lie objects stacks (flat_map (codes_of objects) (module_numbers objects)) start end =
      moved (flat_map (codes_of objects) (module_numbers objects)) (nth_at module_code objects start 0) end start end (omega arith) refl
      (all_lie (codes_of objects) module_code objects start 1 (λ k m o at there. let same : m ≡ suc k = omega arith in subst (λ (j : ℕ). Lie objects stacks (codes_of objects j) (nth_at module_code objects start k) (nth_at module_code objects start k + module_code o)) (sym same) (codes_lie k o there)) (length objects) 0 1 (omega arith) (omega arith)) in
      let datas : Lie objects stacks (flat_map (data_of objects) (module_numbers objects)) end behind =
      moved (flat_map (data_of objects) (module_numbers objects)) (nth_at module_bytes objects end 0) behind end behind (omega arith) refl
      (all_lie (data_of objects) module_bytes objects end 1 (λ k m o at there. let same : m ≡ suc k = omega arith in subst (λ (j : ℕ). Lie objects stacks (data_of objects j) (nth_at module_bytes objects end k) (nth_at module_bytes objects end k + module_bytes o)) (sym same) (data_lie k o there)) (length objects) 0 1 (omega arith) (omega arith)) in
      let tasks : Lie objects stacks (flat_map task_parts (first_numbers stacks)) behind (room objects stacks) =
      moved (flat_map task_parts (first_numbers stacks)) (nth_at (task_bytes objects) stacks behind 0) (room objects stacks) behind (room objects stacks) (omega arith) refl
      (all_lie task_parts (task_bytes objects) stacks behind 0 (λ k m f at there. let same : m ≡ k = omega arith in subst (λ (j : ℕ). Lie objects stacks (task_parts j) (nth_at (task_bytes objects) stacks behind k) (nth_at (task_bytes objects) stacks behind k + task_bytes objects f)) (sym same) (task_lies k f there)) (length stacks) 0 0 (omega arith) (omega arith)) in (
        refl,
        joined (map Entry (first_numbers stacks)) (flat_map (codes_of objects) (module_numbers objects) ++ (flat_map (data_of objects) (module_numbers objects) ++ flat_map task_parts (first_numbers stacks))) (0 + support_bytes) start (room objects stacks) entries
            (joined (flat_map (codes_of objects) (module_numbers objects)) (flat_map (data_of objects) (module_numbers objects) ++ flat_map task_parts (first_numbers stacks)) start end (room objects stacks) codes
            (joined (flat_map (data_of objects) (module_numbers objects)) (flat_map task_parts (first_numbers stacks)) end behind (room objects stacks) datas tasks)),
      )

  -- ---- even sizes

  code_even : (c : Option Content) → code_in c % 2 ≡ 0
  code_even None = refl
  code_even (Some (content.Proc p)) = omega arith
  code_even (Some (content.Data d)) = refl
  code_even (Some (content.Stack n)) = refl

  data_even : (c : Option Content) → data_in c % 2 ≡ 0
  data_even None = refl
  data_even (Some (content.Proc p)) = refl
  data_even (Some (content.Data d)) = omega arith
  data_even (Some (content.Stack n)) = refl

  string_even : (s : Option (List ℕ)) → string_in s % 2 ≡ 0
  string_even None = refl
  string_even (Some s) = omega arith

  size_even : (p : Part) → size objects stacks p % 2 ≡ 0
  size_even Support = ap (λ n. n % 2) support_is
  size_even (Entry n) = refl
  size_even (Code m b) = code_even (held objects (brick m b))
  size_even (String m k) = string_even (slice_get (strings_of objects m) k)
  size_even (Bytes m b) = data_even (held objects (brick m b))
  size_even (Block n) = refl
  size_even (Stack n) = omega arith

  all_even : (ps : List Part) (a b : ℕ) → Lie objects stacks ps a b → a % 2 ≡ 0 → AllByRecursion (λ p. address objects stacks p % 2 ≡ 0) ps
  all_even [] a b h e = tt
  all_even (p ∷ ps) a b h e =
      let s = size_even p in
      (ap (λ n. n % 2) h.0 ∙ e, all_even ps (a + size objects stacks p) b h.1 (omega arith))

  forward : (ps : List Part) (a b : ℕ) → Lie objects stacks ps a b → a ≤ b
  forward [] a b h = omega arith
  forward (p ∷ ps) a b h = let rest = forward ps (a + size objects stacks p) b h.1 in omega arith

  all_inside : (ps : List Part) (a b : ℕ) → Lie objects stacks ps a b → AllByRecursion (λ p. address objects stacks p + size objects stacks p ≤ b) ps
  all_inside [] a b h = tt
  all_inside (p ∷ ps) a b h =
      let at = h.0 in
      let rest = forward ps (a + size objects stacks p) b h.1 in
      (omega arith, all_inside ps (a + size objects stacks p) b h.1)

  pub fill_room : FillRoom objects stacks
  fill_room =
      let ps = parts.parts objects stacks in
      let end = room objects stacks in
      record {
        order = in_order;
        even = All-from_recursion (λ p. address objects stacks p % 2 ≡ 0) ps (all_even ps 0 end in_order refl);
        inside = All-from_recursion (λ p. address objects stacks p + size objects stacks p ≤ end) ps (all_inside ps 0 end in_order);
      }
