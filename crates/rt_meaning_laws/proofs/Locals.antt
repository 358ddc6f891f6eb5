-- Locals that fit still do after one becomes a value.
use Rattle.std.proofs.Common.{◌≡◌, ◌≢◌, ℕ, zero, suc, ◌<◌, ◌==◌, ◌||◌, Bool, true, false, List, [], ◌∷◌, Option, Some, None, length, slice_get, slice_set, option_map, refl, sym, ap, ◌∙◌, subst, arith}
use Rattle.std.proofs.lemmas.Bool.Decides.{nat_tests}
use Rattle.rt_modes.specs.declared.mode.Mode.{Mode, out-Mode}
use Rattle.rt_modes.specs.declared.mode.Mode.TheVariants as mode
use Rattle.rt_tree_nodes.specs.declared.brick.Local.{Local}
use Rattle.rt_tree_nodes.specs.declared.store.Datum.{Datum}
use Rattle.rt_tree_nodes.specs.declared.store.Datum.TheVariants.{Word}
use Rattle.rt_tree_nodes.proofs.Same.{out_same}
use Rattle.rt_tree.specs.Stored.{System}
use Rattle.rt_work_state.specs.Stores.{datum_in}
use Rattle.rt_work_state.specs.Items as task
use Rattle.rt_meaning_laws.specs.Slots.{IsInt, IsOf}
use Rattle.rt_meaning_laws.specs.Trees.{Started, Within, and_local, Site, table, mode_of_local, local_mode, IsLoop}
use Rattle.rt_meaning_laws.specs.Work.{LocalsFit}
use Rattle.rt_meaning_laws.proofs.Modes.{out_int, int_is_word, is_a_word}

pub set_length : {A : Type 0} (xs : List A) (i : ℕ) (y : A) → length (slice_set xs i y) ≡ length xs
set_length [] i y = refl
set_length (x ∷ xs) zero y = refl
set_length (x ∷ xs) (suc i) y = ap suc (set_length xs i y)

pub get_other : {A : Type 0} (xs : List A) (i j : ℕ) (y : A) → i ≢ j → slice_get (slice_set xs i y) j ≡ slice_get xs j
get_other [] i j y h = refl
get_other (x ∷ xs) zero zero y h = absurd (h refl)
get_other (x ∷ xs) zero (suc j) y h = refl
get_other (x ∷ xs) (suc i) zero y h = refl
get_other (x ∷ xs) (suc i) (suc j) y h = get_other xs i j y (λ e. h (ap suc e))

pub get_set : {A : Type 0} (xs : List A) (i : ℕ) (x y : A) → slice_get xs i ≡ Some x → slice_get (slice_set xs i y) i ≡ Some y
get_set [] i x y e = absurd cc
get_set (z ∷ xs) zero x y e = refl
get_set (z ∷ xs) (suc i) x y e = get_set xs i x y e

-- lists of one length have elements at the same numbers
pub there : {A B : Type 0} (xs : List A) (ys : List B) (i : ℕ) (x : A) → length ys ≡ length xs → slice_get xs i ≡ Some x → (y : B) × (slice_get ys i ≡ Some y)
there [] ys i x h e = absurd cc
there (z ∷ xs) [] i x h e = absurd (grind arith)
there (z ∷ xs) (y ∷ ys) zero x h e = (y, refl)
there (z ∷ xs) (y ∷ ys) (suc i) x h e = there xs ys i x (grind arith) e

local_there : (x : Site) (o : Option Local) (m : Mode) → option_map mode_of_local o ≡ Some m → (y : Local) × (o ≡ Some y)
local_there x None m e = absurd cc
local_there x (Some y) m e = (y, refl)

either : (a b : Bool) → a || b ≡ true → a ≡ false → b ≡ true
either true b e h = absurd cc
either false b e h = e

or_right : (a b : Bool) → b ≡ true → a || b ≡ true
or_right true b e = refl
or_right false b e = e

-- the mode of a loop's own local
pub loop_mode : (x : Site) (i : ℕ) (m : Mode) → IsLoop x i → IsInt m → local_mode x i ≡ Some m
loop_mode x i m h e =
    let same : mode.Int ≡ m = out_same mode.Int m (out_int ∙ sym e) in
    ap (λ (o : Option Local). option_map mode_of_local o) h ∙ ap (λ (y : Mode). Some y) same

pub within_self : (s : Started) → Within s s
within_self s i e = e

pub within_all : (a b c : Started) → Within a b → Within b c → Within a c
within_all a b c h k i e = k i (h i e)

pub within_more : (s : Started) (i : ℕ) → Within s (and_local s i)
within_more s i j e = or_right (j == i) (s j) e

module _ (ps : System) (x : Site) where
  pub weaker : (s k : Started) (ls : List Datum) → LocalsFit ps x s ls → Within k s → LocalsFit ps x k ls
  weaker s k ls l w = record { count = l.count; started = λ i m e h. l.started i m e (w i h); loops = l.loops }

  -- what is got of the local that became a value, or of another
  got : (ls : List Datum) (i j : ℕ) (d : Datum) (c : Bool) → (j == i) ≡ c → (P : Datum → Type 0) → (y : Datum) → slice_get ls i ≡ Some y → (j ≡ i → P d) → (c ≡ false → P (task.local ls j)) → P (task.local (slice_set ls i d) j)
  got ls i j d true e P y h now old =
      let same : j ≡ i = grind (arith, nat_tests) in
      subst (λ (z : Option Datum). P (datum_in z)) (sym (ap (λ (k : ℕ). slice_get (slice_set ls i d) k) same ∙ get_set ls i y d h)) (now same)
  got ls i j d false e P y h now old =
      let apart : i ≢ j = λ q. grind (arith, nat_tests) in
      subst (λ (z : Option Datum). P (datum_in z)) (sym (get_other ls i j d apart)) (old refl)

  pub set_local : (s : Started) (i : ℕ) (m : Mode) (d : Datum) (ls : List Datum) → LocalsFit ps x s ls → local_mode x i ≡ Some m → IsOf ps (table x) m d → LocalsFit ps x (and_local s i) (slice_set ls i d)
  set_local s i m d ls l e h =
      let of = local_there x (slice_get x.locals i) m e in
      let y = there x.locals ls i of.0 l.count of.1 in
      record {
        count = set_length ls i d ∙ l.count;
        started = λ j n g b. got ls i j d (j == i) refl (λ z. IsOf ps (table x) n z) y.0 y.1
            (λ q. let same : Some m ≡ Some n = sym e ∙ ap (λ (k : ℕ). local_mode x k) (sym q) ∙ g in let is : m ≡ n = cc in subst (λ (z : Mode). IsOf ps (table x) z d) is h)
            (λ c. l.started j n g (either (j == i) (s j) b c));
        loops = λ j g. got ls i j d (j == i) refl (λ z. (n : ℕ) × (z ≡ Word n) × (n < 65536)) y.0 y.1
            (λ q. let same : Some m ≡ Some mode.Int = sym e ∙ ap (λ (k : ℕ). local_mode x k) (sym q) ∙ loop_mode x j mode.Int g out_int in let is : m ≡ mode.Int = cc in is_a_word h.0 (int_is_word m (ap out-Mode is ∙ out_int)))
            (λ c. l.loops j g);
      }
