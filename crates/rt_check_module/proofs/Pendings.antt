-- What is still to be made, step by step.
use Rattle.std.proofs.Common.{Result, Ok, Err, OnOk, ◌≡◌, ℕ, zero, suc, ◌+◌, ◌-◌, ◌<◌, List, [], ◌∷◌, ◌++◌, Some, None, length, map, take, drop, get_or, slice_get, reverse, arith, refl, sym, ap, ◌∙◌, append_assoc}
use Rattle.std.specs.Prelude.{replicate}
use Rattle.std.proofs.Math.Numerals.{add-one}
use Rattle.std.proofs.lemmas.Grind.{take_at_read, replicate_next}
use Rattle.std.proofs.lemmas.List.{reverse-append, take_at, drop_at}
use Rattle.rt_modes.specs.declared.mode.Field.{Field}
use Rattle.rt_modes.specs.declared.mode.Mode.{Mode, out-Mode}
use Rattle.rt_modes.specs.declared.mode.RecordDef.{RecordDef}
use Rattle.rt_words.specs.declared.memory.Memory.{Memory}
use Rattle.rt_tree_nodes.specs.declared.brick.DataStart.{DataStart}
use Rattle.rt_tree_nodes.specs.declared.brick.DataStart.TheVariants as start
use Rattle.rt_check_module.specs.declared.unwritten.Pending.{Pending}
use Rattle.rt_check_module.specs.declared.unwritten.Pending.TheVariants as pending
use Rattle.rt_check_module.specs.Defaults as spec
use Rattle.rt_check_module.specs.Pending.{step, finish, Makes, Plans}

-- ---- the last of a list comes first

pub last_made : (made new : List DataStart) (s : DataStart) → new ≡ made ++ s ∷ [] → reverse new ≡ s ∷ reverse made
last_made made new s e = ap reverse e ∙ reverse-append made (s ∷ [])

last_first : (records : List RecordDef) (ps : List Pending) (p : Pending) (made : List DataStart) → finish records (ps ++ p ∷ []) made ≡ finish records ps (step records p made)
last_first records [] p made = refl
last_first records (q ∷ ps) p made = ap (step records q) (last_first records ps p made)

-- what is on top of a stack is next
pub goes_on : (records : List RecordDef) (ps new : List Pending) (p : Pending) (made : List DataStart) → ps ≡ new ++ p ∷ [] → finish records ps made ≡ finish records new (step records p made)
goes_on records ps new p made e = ap (λ (x : List Pending). finish records x made) e ∙ last_first records new p made

-- a stack with one more
pub plans_one : (before after : List Pending) (p : Pending) (value : List RecordDef → DataStart) → after ≡ before ++ p ∷ [] → Makes p value → Plans before after value
plans_one before after p value e makes records made = goes_on records after before p made e ∙ ap (finish records before) (makes records made)

-- ---- so many that were made last

abbrev pub Taken : List DataStart → List DataStart → ℕ → List DataStart → Type 0
Taken before made n parts = (parts ≡ take n before) × (reverse made ≡ drop n before)

one_taken : (before rest : List DataStart) (n : ℕ) (s : DataStart) → drop n before ≡ s ∷ rest → (take (suc n) before ≡ take n before ++ s ∷ []) × (drop (suc n) before ≡ rest)
one_taken [] rest zero s e = absurd cc
one_taken [] rest (suc n) s e = absurd cc
one_taken (x ∷ before) rest zero s e = (ap first e, ap tail e)
  where
    first : List DataStart → List DataStart
    first [] = []
    first (y ∷ ys) = y ∷ []

    tail : List DataStart → List DataStart
    tail [] = []
    tail (y ∷ ys) = ys
one_taken (x ∷ before) rest (suc n) s e = let is = one_taken before rest n s e in (ap (λ (y : List DataStart). x ∷ y) is.0, is.1)

none_taken : (before : List DataStart) (n : ℕ) → drop n before ≡ [] → (take (suc n) before ≡ take n before) × (drop (suc n) before ≡ [])
none_taken [] zero e = (refl, refl)
none_taken [] (suc n) e = (refl, refl)
none_taken (x ∷ before) zero e = absurd cc
none_taken (x ∷ before) (suc n) e = let is = none_taken before n e in (ap (λ (y : List DataStart). x ∷ y) is.0, is.1)

pub takes_one : (before made new parts more : List DataStart) (n : ℕ) (s : DataStart) → Taken before made n parts → made ≡ new ++ s ∷ [] → more ≡ parts ++ s ∷ [] → Taken before new (n + 1) more
takes_one before made new parts more n s taken e is =
    let one = one_taken before (reverse new) n s (sym taken.1 ∙ last_made new made s e) in
    let next : suc n ≡ n + 1 = sym (add-one n) in
    (is ∙ ap (λ (x : List DataStart). x ++ s ∷ []) taken.0 ∙ sym one.0 ∙ ap (λ (k : ℕ). take k before) next, sym one.1 ∙ ap (λ (k : ℕ). drop k before) next)

pub takes_none : (before made new parts more : List DataStart) (n : ℕ) → Taken before made n parts → made ≡ [] → new ≡ [] → more ≡ parts → Taken before new (n + 1) more
takes_none before made new parts more n taken e left is =
    let none = none_taken before n (sym taken.1 ∙ ap reverse e) in
    let next : suc n ≡ n + 1 = sym (add-one n) in
    (is ∙ taken.0 ∙ sym none.0 ∙ ap (λ (k : ℕ). take k before) next, ap reverse left ∙ sym none.1 ∙ ap (λ (k : ℕ). drop k before) next)

-- ---- parts of a list, from the first on

-- of so many parts these stand on the stack
abbrev pub Planned : List Pending → List Pending → ℕ → (List RecordDef → List DataStart) → Type 0
Planned before after n values = (records : List RecordDef) (made : List DataStart) → finish records after made ≡ finish records before (step records (pending.Parts n) (values records ++ made))

pub planned_none : (before after : List Pending) (n : ℕ) → after ≡ before ++ pending.Parts n ∷ [] → Planned before after n (λ records. [])
planned_none before after n e records made = goes_on records after before (pending.Parts n) made e

pub planned_one : (before after more : List Pending) (n : ℕ) (values next : List RecordDef → List DataStart) (value : List RecordDef → DataStart)
    → Planned before after n values → Plans after more value → ((records : List RecordDef) → next records ≡ values records ++ value records ∷ []) → Planned before more n next
planned_one before after more n values next value planned plans is records made =
    plans records made ∙ planned records (value records ∷ made)
    ∙ ap (λ (x : List DataStart). finish records before (step records (pending.Parts n) x)) (sym (append_assoc (values records) (value records ∷ []) made) ∙ ap (λ (x : List DataStart). x ++ made) (sym (is records)))

pub planned_all : (before after : List Pending) (n : ℕ) (values : List RecordDef → List DataStart) → Planned before after n values → ((records : List RecordDef) → length (values records) ≡ n) → Plans before after (λ records. start.List (values records))
planned_all before after n values planned long records made =
    planned records made
    ∙ ap (finish records before) (ap (λ (x : List DataStart). start.List x ∷ drop n (values records ++ made)) (take_at (values records) made n (long records)) ∙ ap (λ (x : List DataStart). start.List (values records) ∷ x) (drop_at (values records) made n (long records)))

-- ---- the elements of an array, the fields of a record

abbrev pub element_of : ℕ → Mode → List RecordDef → DataStart
element_of levels m records = spec.element_made (spec.record_made records levels) (out-Mode m)

abbrev pub start_of : ℕ → Mode → List RecordDef → DataStart
start_of levels m records = spec.default_by (spec.record_made records levels) (out-Mode m)

abbrev pub elements_of : ℕ → Mode → ℕ → List RecordDef → List DataStart
elements_of levels m n records = replicate n (element_of levels m records)

abbrev pub fields_of : ℕ → List Field → List RecordDef → List DataStart
fields_of levels fs records = map (λ f. start_of levels f.mode records) fs

-- the start of a mode that is no array
pub plans_single : (before after : List Pending) (levels : ℕ) (m : Mode) (p : Pending) (r : Result Unit Memory) → ((made : ℕ → DataStart) → spec.element_made made (out-Mode m) ≡ spec.default_by made (out-Mode m)) → Makes p (element_of levels m)
    → OnOk r (after ≡ before ++ p ∷ []) → OnOk r (Plans before after (start_of levels m))
plans_single before after levels m p (Ok u) same makes e =
    λ records made. plans_one before after p (element_of levels m) e makes records made ∙ ap (λ (s : DataStart). finish records before (s ∷ made)) (same (spec.record_made records levels))
plans_single before after levels m p (Err f) same makes e = tt

pub one_element : (before after more : List Pending) (levels i n : ℕ) (m : Mode) (p : Pending) → Planned before after n (elements_of levels m i) → Makes p (element_of levels m) → more ≡ after ++ p ∷ [] → Planned before more n (elements_of levels m (i + 1))
one_element before after more levels i n m p planned makes e =
    planned_one before after more n (elements_of levels m i) (elements_of levels m (i + 1)) (element_of levels m) planned (plans_one after more p (element_of levels m) e makes) (λ records. replicate_next i (element_of levels m records))

pub one_field : (before after more : List Pending) (levels i n : ℕ) (fs : List Field) (f : Field) → i < length fs → f ≡ get_or fs i f → Planned before after n (fields_of levels (take i fs)) → Plans after more (start_of levels f.mode)
    → Planned before more n (fields_of levels (take (i + 1) fs))
one_field before after more levels i n fs f h is planned plans =
    planned_one before after more n (fields_of levels (take i fs)) (fields_of levels (take (i + 1) fs)) (start_of levels f.mode) planned plans next
  where
    parts : take (i + 1) fs ≡ take i fs ++ f ∷ []
    parts = (take_at_read fs i f h).1 ∙ ap (λ (g : Field). take i fs ++ g ∷ []) (sym is)

    next : (records : List RecordDef) → fields_of levels (take (i + 1) fs) records ≡ fields_of levels (take i fs) records ++ start_of levels f.mode records ∷ []
    next records = ap (λ (x : List Field). fields_of levels x records) parts ∙ mapped (take i fs)
      where
        mapped : (xs : List Field) → fields_of levels (xs ++ f ∷ []) records ≡ fields_of levels xs records ++ start_of levels f.mode records ∷ []
        mapped [] = refl
        mapped (x ∷ xs) = ap (λ (y : List DataStart). start_of levels x.mode records ∷ y) (mapped xs)

-- ---- a record, one level further in

module _ (records : List RecordDef) where
  abbrev made_of : ℕ → List Field → DataStart
  made_of levels fs = start.List (fields_of levels fs records)

  none_further : (levels r : ℕ) → levels ≡ 0 → spec.record_made records levels r ≡ start.Number 0
  unfolding spec.record_made
  none_further levels r e = ap (λ (k : ℕ). spec.record_made records k r) e

  none_there : (levels r : ℕ) → slice_get records r ≡ None → spec.record_made records levels r ≡ start.Number 0
  unfolding spec.record_made
  none_there zero r e = refl
  none_there (suc levels) r e = ap (spec.fields_made (spec.record_made records levels)) e

  one_less : (levels : ℕ) → suc levels - 1 ≡ levels
  one_less levels = omega arith

  next : (levels r : ℕ) (d : RecordDef) → slice_get records r ≡ Some d → spec.record_made records (suc levels) r ≡ made_of levels d.fields
  unfolding spec.record_made
  next levels r d e = ap (spec.fields_made (spec.record_made records levels)) e

  pub made_next : (levels r : ℕ) (d : RecordDef) → (levels ≡ 0 → ⊥) → slice_get records r ≡ Some d → spec.record_made records levels r ≡ made_of (levels - 1) d.fields
  made_next zero r d h e = absurd (h refl)
  made_next (suc levels) r d h e = next levels r d e ∙ ap (λ (x : ℕ). made_of x d.fields) (sym (one_less levels))

  -- a start that was made at once
  made_at_once : (ps : List Pending) (made new : List DataStart) (levels r : ℕ) → spec.record_made records levels r ≡ start.Number 0 → new ≡ made ++ start.Number 0 ∷ [] → finish records ps (reverse new) ≡ finish records ps (spec.record_made records levels r ∷ reverse made)
  made_at_once ps made new levels r is e = ap (finish records ps) (last_made made new (start.Number 0) e ∙ ap (λ (s : DataStart). s ∷ reverse made) (sym is))

  pub made_no_further : (ps : List Pending) (made new : List DataStart) (levels r : ℕ) (x : Result Unit Memory) → levels ≡ 0 → OnOk x (new ≡ made ++ start.Number 0 ∷ [])
      → OnOk x (finish records ps (reverse new) ≡ finish records ps (spec.record_made records levels r ∷ reverse made))
  made_no_further ps made new levels r (Ok u) none e = made_at_once ps made new levels r (none_further levels r none) e
  made_no_further ps made new levels r (Err f) none e = tt

  pub made_nothing : (ps : List Pending) (made new : List DataStart) (levels r : ℕ) (x : Result Unit Memory) → slice_get records r ≡ None → OnOk x (new ≡ made ++ start.Number 0 ∷ [])
      → OnOk x (finish records ps (reverse new) ≡ finish records ps (spec.record_made records levels r ∷ reverse made))
  made_nothing ps made new levels r (Ok u) none e = made_at_once ps made new levels r (none_there levels r none) e
  made_nothing ps made new levels r (Err f) none e = tt

  -- its fields, where they were planned
  pub fields_next : (ps new : List Pending) (made : List DataStart) (levels r : ℕ) (d : RecordDef) (fs : List Field) (x : Result Unit Memory) → (levels ≡ 0 → ⊥) → slice_get records r ≡ Some d → fs ≡ d.fields
      → OnOk x (Plans ps new (λ rs. start.List (fields_of (levels - 1) fs rs))) → OnOk x (finish records new (reverse made) ≡ finish records ps (spec.record_made records levels r ∷ reverse made))
  fields_next ps new made levels r d fs (Ok u) more found same plans =
      plans records (reverse made) ∙ ap (λ (s : DataStart). finish records ps (s ∷ reverse made)) (ap (made_of (levels - 1)) same ∙ sym (made_next levels r d more found))
  fields_next ps new made levels r d fs (Err f) more found same plans = tt
