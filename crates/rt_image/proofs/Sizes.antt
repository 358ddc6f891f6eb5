-- How much of the memory tasks take.
use Rattle.std.proofs.Common.{◌≡◌, ℕ, ◌+◌, ◌<◌, List, [], ◌∷◌, ◌++◌, length, sum, map, take, get_or, ap, sym, arith}
use Rattle.std.proofs.lemmas.List.{take_more}
use Rattle.std.proofs.lemmas.List.Sums.{sum-map, sum_by-append, sum_by-cons}
use Rattle.rt_image.specs.declared.image.ImageTask.{ImageTask}
use Rattle.rt_image.specs.Ranges.{task_size}

abbrev pub size_of : List ImageTask → ℕ
size_of ts = sum (map task_size ts)

pub size_append : (xs ys : List ImageTask) → size_of (xs ++ ys) ≡ size_of xs + size_of ys
size_append xs ys =
    let a = sum-map task_size (xs ++ ys) in
    let b = sum_by-append task_size xs ys in
    let c = sum-map task_size xs in
    let d = sum-map task_size ys in
    omega arith

pub size_cons : (x : ImageTask) (xs : List ImageTask) → size_of (x ∷ xs) ≡ task_size x + size_of xs
size_cons x xs =
    let a = sum-map task_size (x ∷ xs) in
    let b = sum_by-cons task_size x xs in
    let c = sum-map task_size xs in
    omega arith

-- a task more
pub size_more : (ts : List ImageTask) (i : ℕ) (t : ImageTask) → i < length ts → t ≡ get_or ts i t → size_of (take (i + 1) ts) ≡ size_of (take i ts) + task_size t
size_more ts i t within at =
    let e = size_append (take i ts) (get_or ts i t ∷ []) in
    let one = size_cons (get_or ts i t) [] in
    let f : task_size (get_or ts i t) ≡ task_size t = ap task_size (sym at) in
    let g : size_of (take (i + 1) ts) ≡ size_of (take i ts ++ get_or ts i t ∷ []) = ap size_of (take_more ts i t within) in
    omega arith
