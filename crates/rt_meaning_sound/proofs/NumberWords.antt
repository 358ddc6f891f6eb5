-- The numbers of a start of data, layer by layer.
use Rattle.std.proofs.Common.{◌≡◌, ℕ, zero, suc, ◌<◌, List, [], ◌∷◌, map, refl, sym, subst}
use Rattle.std.specs.Prelude.{replicate}
use Rattle.std.specs.List.{AllByRecursion, Contains}
use Rattle.std.proofs.lemmas.List.Elements.{All-from_recursion}
use Rattle.rt_modes.specs.FullMode.{joined}
use Rattle.rt_tree_nodes.specs.declared.brick.DataStart.{DataStart, out-DataStart, map-DataStart, the_lemmas}
use Rattle.rt_tree_nodes.specs.declared.brick.DataStart.TheFolds.{fold_out-DataStart}
use Rattle.rt_tree_nodes.specs.declared.brick.DataStart.TheOpen.{DataStart-F}
use Rattle.rt_tree_nodes.specs.declared.brick.DataStart.TheVariants as start
use Rattle.rt_bricks_laws.proofs.AllLists.{all_joined}
use Rattle.rt_meaning_laws.specs.Starting.{one_number, numbers_in}

abbrev pub IsWord : ℕ → Type 0
IsWord n = n < 65536

-- each number in a start is a word
abbrev pub AreWords : DataStart → Type 0
AreWords x = AllByRecursion IsWord (numbers_in x)

numbers_at : (x : DataStart) (l : DataStart-F DataStart) → out-DataStart x ≡ l → numbers_in x ≡ one_number (map-DataStart DataStart (List ℕ) numbers_in l)
numbers_at x l o = rw (fold_out-DataStart, o) refl

at_layer : (x : DataStart) (l : DataStart-F DataStart) → out-DataStart x ≡ l → AllByRecursion IsWord (one_number (map-DataStart DataStart (List ℕ) numbers_in l)) → AreWords x
at_layer x l o h = subst (AllByRecursion IsWord) (sym (numbers_at x l o)) h

pub all_words : (xs : List DataStart) → AllByRecursion AreWords xs → AllByRecursion IsWord (joined (map numbers_in xs))
all_words [] h = tt
all_words (x ∷ xs) h = all_joined IsWord (numbers_in x) (joined (map numbers_in xs)) h.0 (all_words xs h.1)

pub a_number : (n : ℕ) → IsWord n → AreWords (start.Number n)
a_number n h = let o : out-DataStart (start.Number n) ≡ DataStart-F.Number n = search the_lemmas in at_layer (start.Number n) (DataStart-F.Number n) o (h, tt)

pub a_text : (k : ℕ) → AreWords (start.Text k)
a_text k = let o : out-DataStart (start.Text k) ≡ DataStart-F.Text k = search the_lemmas in at_layer (start.Text k) (DataStart-F.Text k) o tt

pub a_procedure : (b : ℕ) → AreWords (start.Proc b)
a_procedure b = let o : out-DataStart (start.Proc b) ≡ DataStart-F.Proc b = search the_lemmas in at_layer (start.Proc b) (DataStart-F.Proc b) o tt

pub a_place : (b i : ℕ) (path : List ℕ) → AreWords (start.Place b i path)
a_place b i path = let o : out-DataStart (start.Place b i path) ≡ DataStart-F.Place b i path = search the_lemmas in at_layer (start.Place b i path) (DataStart-F.Place b i path) o tt

pub a_list : (xs : List DataStart) → AllByRecursion AreWords xs → AreWords (start.List xs)
a_list xs h = let o : out-DataStart (start.List xs) ≡ DataStart-F.List xs = search the_lemmas in at_layer (start.List xs) (DataStart-F.List xs) o (all_words xs h)

-- ---- lists

pub all_copies : {A : Type 0} (P : A → Type 0) (n : ℕ) (x : A) → P x → AllByRecursion P (replicate n x)
all_copies P zero x h = tt
all_copies P (suc n) x h = (h, all_copies P n x h)

-- what holds of each element holds of one that the list contains
pub of_one : {A : Type 0} (P : A → Type 0) (xs : List A) (x : A) → AllByRecursion P xs → Contains xs x → P x
of_one P xs x h c = subst P c.2 (All-from_recursion P xs h c.0 x c.1)
