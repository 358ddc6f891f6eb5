-- How much bricks, strings and modules take at most, and sums as they are made.
use Rattle.std.proofs.Common.{◌≡◌, ℕ, ◌+◌, ◌<◌, ◌≤◌, List, [], ◌∷◌, length, take, get_or, refl, sym, ap, ◌∙◌, subst, arith}
use Rattle.std.specs.List.{All, AllByRecursion, sum_by}
use Rattle.std.proofs.lemmas.List.Elements.{All-from_recursion}
use Rattle.std.proofs.lemmas.List.Sums.{sum_by_more, sum_by_more_le, sum_by-le, sum_by-take-le}
use Rattle.rt_object.specs.Ranges.{HasObjectRanges, HasBrickRanges, HasKindRanges, IsByte}
use Rattle.rt_object.specs.declared.object.BrickKind.{BrickKind}
use Rattle.rt_object.specs.declared.object.BrickKind.TheVariants.{Own, Ent, Ext, Svc}
use Rattle.rt_object.specs.declared.object.Content.TheVariants as content
use Rattle.rt_modes.specs.declared.mode.RecordDef.{RecordDef}
use Rattle.rt_object.specs.declared.object.ObjectParts.{ObjectParts}
use Rattle.rt_graph.specs.Calls.{content_of}
use Rattle.rt_link.specs.Room.{code_in, data_in, code_bytes, data_bytes, string_bytes, module_code, module_strings, module_data, support_bytes}

-- the support code has 115 words
pub support_is : support_bytes ≡ 230
unfolding support_bytes
support_is = refl

-- one element more
pub sum_more : {A : Type 0} (f : A → ℕ) (xs : List A) (i : ℕ) (x : A) → i < length xs → x ≡ get_or xs i x → sum_by f (take (i + 1) xs) ≡ sum_by f (take i xs) + f x
sum_more f xs i x h is = sum_by_more f xs i x h ∙ ap (λ y. sum_by f (take i xs) + f y) (sym is)

pub sum_within : {A : Type 0} (f : A → ℕ) (xs : List A) (i : ℕ) (x : A) → i < length xs → x ≡ get_or xs i x → sum_by f (take i xs) + f x ≤ sum_by f xs
sum_within f xs i x h is = subst (λ y. sum_by f (take i xs) + f y ≤ sum_by f xs) (sym is) (sum_by_more_le f xs i x h)

pub all_so : {A : Type 0} (P Q : A → Type 0) (xs : List A) → AllByRecursion P xs → ((x : A) → P x → Q x) → AllByRecursion Q xs
all_so P Q [] h go = tt
all_so P Q (x ∷ xs) h go = (go x h.0, all_so P Q xs h.1 go)

each_small : {A : Type 0} (P : A → Type 0) (f : A → ℕ) (xs : List A) → AllByRecursion P xs → ((x : A) → P x → f x ≤ 57344) → All (λ x. f x ≤ 57344) xs
each_small P f xs h go = All-from_recursion (λ x. f x ≤ 57344) xs (all_so P (λ x. f x ≤ 57344) xs h go)

-- what an element takes
pub small_at : {A : Type 0} (f : A → ℕ) (xs : List A) (i : ℕ) (x : A) → All (λ y. f y ≤ 57344) xs → i < length xs → x ≡ get_or xs i x → f x ≤ 57344
small_at f xs i x all h is = subst (λ y. f y ≤ 57344) (sym is) (all i x h)

sum_small : {A : Type 0} (f : A → ℕ) (xs : List A) → All (λ x. f x ≤ 57344) xs → length xs ≤ 65535 → sum_by f xs ≤ 3758039040
sum_small f xs all few = let h = sum_by-le f 57344 xs all in omega arith

module _ (records : List RecordDef) (strings bricks : ℕ) where
  code_fits : (name : List ℕ) (k : BrickKind) → HasKindRanges records strings bricks name k → code_in (content_of k) ≤ 57344
  code_fits name (Own (content.Proc p)) h = let w = h.words in omega arith
  code_fits name (Own (content.Data d)) h = omega arith
  code_fits name (Own (content.Stack n)) h = omega arith
  code_fits name (Ent (content.Proc p)) h = let w = h.words in omega arith
  code_fits name (Ent (content.Data d)) h = omega arith
  code_fits name (Ent (content.Stack n)) h = omega arith
  code_fits name (Ext e) h = omega arith
  code_fits name (Svc s) h = omega arith

  data_fits : (name : List ℕ) (k : BrickKind) → HasKindRanges records strings bricks name k → data_in (content_of k) ≤ 57344
  data_fits name (Own (content.Proc p)) h = omega arith
  data_fits name (Own (content.Data d)) h = let s = h.size.1 in omega arith
  data_fits name (Own (content.Stack n)) h = omega arith
  data_fits name (Ent (content.Proc p)) h = omega arith
  data_fits name (Ent (content.Data d)) h = let s = h.size.1 in omega arith
  data_fits name (Ent (content.Stack n)) h = omega arith
  data_fits name (Ext e) h = omega arith
  data_fits name (Svc s) h = omega arith

module _ (o : ObjectParts) (h : HasObjectRanges o) where
  pub code_small : All (λ b. code_bytes b ≤ 57344) o.bricks
  code_small = each_small (HasBrickRanges o.records.records (length o.strings) (length o.bricks)) code_bytes o.bricks h.each_brick (λ b r. code_fits o.records.records (length o.strings) (length o.bricks) b.name b.kind r.kind)

  pub data_small : All (λ b. data_bytes b ≤ 57344) o.bricks
  data_small = each_small (HasBrickRanges o.records.records (length o.strings) (length o.bricks)) data_bytes o.bricks h.each_brick (λ b r. data_fits o.records.records (length o.strings) (length o.bricks) b.name b.kind r.kind)

  pub strings_small : All (λ s. string_bytes s ≤ 57344) o.strings
  strings_small = each_small (λ s. (length s ≤ 8191) × AllByRecursion IsByte s) string_bytes o.strings h.each_string (λ s r. let l = r.0 in omega arith)

  pub code_most : module_code o ≤ 3758039040
  code_most = sum_small code_bytes o.bricks code_small h.bricks

  pub data_most : module_data o ≤ 3758039040
  data_most = sum_small data_bytes o.bricks data_small h.bricks

  pub strings_most : module_strings o ≤ 3758039040
  strings_most = sum_small string_bytes o.strings strings_small h.strings

-- ---- sums of slices as they are read

pub sum_room : {A : Type 0} (f : A → ℕ) (xs ys : List A) (i : ℕ) (x : A) (most : ℕ) → xs ≡ ys → sum_by f ys ≤ most → i < length xs → x ≡ get_or xs i x → sum_by f (take i xs) + f x ≤ most
sum_room f xs ys i x most e small h is =
    let within = sum_within f xs i x h is in
    let same : sum_by f xs ≡ sum_by f ys = ap (sum_by f) e in
    omega arith

pub sum_end : {A : Type 0} (f : A → ℕ) (xs ys : List A) (i most : ℕ) → xs ≡ ys → sum_by f ys ≤ most → sum_by f (take i xs) ≤ most
sum_end f xs ys i most e small =
    let within = sum_by-take-le f xs i in
    let same : sum_by f xs ≡ sum_by f ys = ap (sum_by f) e in
    omega arith
