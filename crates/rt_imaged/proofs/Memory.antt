-- Where data bricks and strings stand in the memory of an image.
use Rattle.std.proofs.Common.{◌≡◌, ℕ, zero, suc, ◌+◌, ◌*◌, ◌%◌, ◌==◌, Bool, true, false, if◌then◌else◌, List, [], ◌∷◌, ◌++◌, length, take, Option, Some, None, slice_get, refl, sym, ap, ◌∙◌, subst, arith, length-append}
use Rattle.std.specs.List.{flat_map, sum_by}
use Rattle.std.proofs.lemmas.Bool.Decides.{nat_tests}
use Rattle.std.proofs.lemmas.List.Sums.{sum_by-cons}
use Rattle.rt_words.specs.Bytes.{word_bytes}
use Rattle.rt_tree_nodes.specs.declared.store.Proc.{Proc}
use Rattle.rt_sizes.specs.Sizes as sizes
use Rattle.rt_image.specs.declared.image.ImageParts.{ImageParts}
use Rattle.rt_image.specs.Memory.{words_bytes, memory_bytes, tasks_bytes}
use Rattle.rt_object.specs.declared.object.Brick.{Brick}
use Rattle.rt_object.specs.declared.object.Content.{Content}
use Rattle.rt_object.specs.declared.object.Content.TheVariants as content
use Rattle.rt_object.specs.declared.object.ObjectParts.{ObjectParts}
use Rattle.rt_match.specs.declared.bindings.Bound.{Bound}
use Rattle.rt_graph.specs.Calls.{brick, numbered, content_of}
use Rattle.rt_link.specs.Addresses.{module_bytes_at, data_at, string_at}
use Rattle.rt_link.specs.Imaged as image
use Rattle.rt_link.specs.Imaged.{string_data, strings_data, brick_data, modules_data, image_bytes}
use Rattle.rt_link.specs.Named.{relocated_word}
use Rattle.rt_link.specs.Relocated.{padded}
use Rattle.rt_link.specs.Room as room
use Rattle.rt_link.specs.Room.{bricks_in, strings_in, data_bytes, string_bytes, module_strings, module_bytes, code_end}
use Rattle.rt_started.proofs.Viewing.{patched_length}
use Rattle.rt_imaged.proofs.Parts.{StandsIn, in_front, behind, before, inside, moved, part_stands, all_long}

padded_by : (xs : List ℕ) (b : Bool) → (length xs % 2 == 0) ≡ b → length (if b then xs else xs ++ 0 ∷ []) ≡ sizes.even (length xs)
padded_by xs true e = let q : length xs % 2 ≡ 0 = grind (arith, nat_tests) in omega arith
padded_by xs false e = let q : length xs % 2 ≡ 1 = grind (arith, nat_tests) in let l = length-append xs (0 ∷ []) in omega arith

pub padded_long : (xs : List ℕ) → length (padded xs) ≡ sizes.even (length xs)
padded_long xs = padded_by xs (length xs % 2 == 0) refl

pub string_long : (s : List ℕ) → length (string_data s) ≡ string_bytes s
string_long s = length-append (word_bytes (length s)) (padded s) ∙ ap (λ (n : ℕ). 2 + n) (padded_long s)

words_long : (ws : List ℕ) → length (words_bytes ws) ≡ 2 * length ws
words_long [] = refl
words_long (w ∷ ws) = let l = length-append (word_bytes w) (words_bytes ws) in let rest = words_long ws in omega arith

module _ (objects : List ObjectParts) (stacks : List Proc) (of : List (List Bound)) where
  content_long : (m : ℕ) (c : Option Content) → length (image.data_in objects stacks of m c) ≡ room.data_in c
  content_long m None = refl
  content_long m (Some (content.Proc p)) = refl
  content_long m (Some (content.Data d)) = patched_length (relocated_word objects stacks of m) d.relocations (padded d.bytes) ∙ padded_long d.bytes
  content_long m (Some (content.Stack n)) = refl

  pub brick_long : (m : ℕ) (d : Brick) → length (brick_data objects stacks of m d) ≡ data_bytes d
  brick_long m d = content_long m (content_of d.kind)

  module_long : (m : ℕ) (o : ObjectParts) → length (image.module_data objects stacks of m o) ≡ module_bytes o
  module_long m o =
      let a = all_long string_data string_bytes string_long o.strings in
      let b = all_long (brick_data objects stacks of m) data_bytes (brick_long m) o.bricks in
      let l = length-append (strings_data o.strings) (flat_map (brick_data objects stacks of m) o.bricks) in omega arith

  modules_stand : (m : ℕ) (os : List ObjectParts) (k : ℕ) (o : ObjectParts) → slice_get os k ≡ Some o → StandsIn (modules_data objects stacks of m os) (sum_by module_bytes (take k os)) (image.module_data objects stacks of (m + k) o)
  modules_stand m [] k o e = absurd cc
  modules_stand m (p ∷ os) zero o e =
      let is : p ≡ o = cc in
      let number : m ≡ m + zero = omega arith in
      subst (λ (n : ℕ). StandsIn (modules_data objects stacks of m (p ∷ os)) 0 (image.module_data objects stacks of n o)) number
      (subst (λ (z : ObjectParts). StandsIn (modules_data objects stacks of m (p ∷ os)) 0 (image.module_data objects stacks of m z)) is (in_front (image.module_data objects stacks of m p) (modules_data objects stacks of (suc m) os)))
  modules_stand m (p ∷ os) (suc k) o e =
      let rest = modules_stand (suc m) os k o e in
      let number : suc m + k ≡ m + suc k = omega arith in
      let more : sum_by module_bytes (p ∷ take k os) ≡ module_bytes p + sum_by module_bytes (take k os) = sum_by-cons module_bytes p (take k os) in
      let first = module_long m p in
      let place : length (image.module_data objects stacks of m p) + sum_by module_bytes (take k os) ≡ sum_by module_bytes (p ∷ take k os) = omega arith in
      subst (λ (n : ℕ). StandsIn (modules_data objects stacks of m (p ∷ os)) (sum_by module_bytes (p ∷ take k os)) (image.module_data objects stacks of n o)) number
      (moved (modules_data objects stacks of m (p ∷ os)) (length (image.module_data objects stacks of m p) + sum_by module_bytes (take k os)) (sum_by module_bytes (p ∷ take k os)) (image.module_data objects stacks of (suc m + k) o) place
      (behind (image.module_data objects stacks of m p) (modules_data objects stacks of (suc m) os) (sum_by module_bytes (take k os)) (image.module_data objects stacks of (suc m + k) o) rest))

  module _ (i : ImageParts) (bytes : i.bytes ≡ image_bytes objects stacks of) (code : 2 * length i.code ≡ code_end objects stacks) where
    bytes_stand : StandsIn (memory_bytes i) (code_end objects stacks) (image_bytes objects stacks of)
    bytes_stand =
        let first = words_long i.code in
        let h : StandsIn (memory_bytes i) (length (words_bytes i.code) + 0) i.bytes = behind (words_bytes i.code) (i.bytes ++ tasks_bytes i.tasks) 0 i.bytes (in_front i.bytes (tasks_bytes i.tasks)) in
        moved (memory_bytes i) (length (words_bytes i.code) + 0) (code_end objects stacks) (image_bytes objects stacks of) (omega arith) (subst (λ (xs : List ℕ). StandsIn (memory_bytes i) (length (words_bytes i.code) + 0) xs) bytes h)

    module_stands : (m : ℕ) (o : ObjectParts) → numbered objects m ≡ Some o → StandsIn (memory_bytes i) (module_bytes_at objects stacks m) (image.module_data objects stacks of m o)
    module_stands zero o e = absurd cc
    module_stands (suc k) o e =
        let h = modules_stand 1 objects k o e in
        let number : 1 + k ≡ suc k = omega arith in
        subst (λ (n : ℕ). StandsIn (memory_bytes i) (module_bytes_at objects stacks (suc k)) (image.module_data objects stacks of n o)) number
        (inside (memory_bytes i) (code_end objects stacks) (image_bytes objects stacks of) (sum_by module_bytes (take k objects)) (image.module_data objects stacks of (1 + k) o) bytes_stand h)

    pub string_stands : (m k : ℕ) (o : ObjectParts) (s : List ℕ) → numbered objects m ≡ Some o → slice_get o.strings k ≡ Some s → StandsIn (memory_bytes i) (string_at objects stacks m k) (string_data s)
    string_stands m k o s e at =
        let h = part_stands string_data string_bytes string_long o.strings k s at in
        let in_module : StandsIn (image.module_data objects stacks of m o) (sum_by string_bytes (take k o.strings)) (string_data s) = before (strings_data o.strings) (flat_map (brick_data objects stacks of m) o.bricks) (sum_by string_bytes (take k o.strings)) (string_data s) h in
        let place : module_bytes_at objects stacks m + sum_by string_bytes (take k o.strings) ≡ string_at objects stacks m k = ap (λ (x : Option ObjectParts). module_bytes_at objects stacks m + sum_by string_bytes (take k (strings_in x))) (sym e) in
        moved (memory_bytes i) (module_bytes_at objects stacks m + sum_by string_bytes (take k o.strings)) (string_at objects stacks m k) (string_data s) place
        (inside (memory_bytes i) (module_bytes_at objects stacks m) (image.module_data objects stacks of m o) (sum_by string_bytes (take k o.strings)) (string_data s) (module_stands m o e) in_module)

    pub data_stands : (m b : ℕ) (o : ObjectParts) (d : Brick) → numbered objects m ≡ Some o → slice_get o.bricks b ≡ Some d → StandsIn (memory_bytes i) (data_at objects stacks (brick m b)) (brick_data objects stacks of m d)
    data_stands m b o d e at =
        let h = part_stands (brick_data objects stacks of m) data_bytes (brick_long m) o.bricks b d at in
        let long = all_long string_data string_bytes string_long o.strings in
        let in_module : StandsIn (image.module_data objects stacks of m o) (length (strings_data o.strings) + sum_by data_bytes (take b o.bricks)) (brick_data objects stacks of m d) =
        behind (strings_data o.strings) (flat_map (brick_data objects stacks of m) o.bricks) (sum_by data_bytes (take b o.bricks)) (brick_data objects stacks of m d) h in
        let all = inside (memory_bytes i) (module_bytes_at objects stacks m) (image.module_data objects stacks of m o) (length (strings_data o.strings) + sum_by data_bytes (take b o.bricks)) (brick_data objects stacks of m d) (module_stands m o e) in_module in
        let place : data_at objects stacks (brick m b) ≡ module_bytes_at objects stacks m + module_strings o + sum_by data_bytes (take b o.bricks) =
        ap (λ (x : Option ObjectParts). module_bytes_at objects stacks m + sum_by string_bytes (strings_in x) + sum_by data_bytes (take b (bricks_in x))) e in
        moved (memory_bytes i) (module_bytes_at objects stacks m + (length (strings_data o.strings) + sum_by data_bytes (take b o.bricks))) (data_at objects stacks (brick m b)) (brick_data objects stacks of m d) (omega arith) all
