-- One more part of a list, one more field of a part.
use Rattle.std.proofs.Common.{◌≡◌, ℕ, ◌+◌, ◌<◌, ◌≤◌, ◌&&◌, Bool, true, false, List, ◌∷◌, ◌++◌, Option, length, map, take, drop, get_or, refl, sym, ap, ◌∙◌, append_assoc}
use Rattle.std.specs.Prelude.{replicate}
use Rattle.std.proofs.lemmas.List.{drop_all, append-nil}
use Rattle.rt_bricks.specs.declared.tree.Start.{Start}
use Rattle.rt_modes.specs.declared.mode.Field.{Field}
use Rattle.rt_modes.specs.declared.mode.Mode.{Mode}
use Rattle.rt_check_faults.specs.declared.fault.CheckFault.{CheckFault}
use Rattle.rt_modes.specs.declared.mode.RecordDef.{RecordDef}
use Rattle.rt_tree_nodes.specs.declared.brick.DataStart.{DataStart}
use Rattle.rt_check_declared.specs.Written.{Names}
use Rattle.rt_check_declared.proofs.RecordSteps.{drop_next, more_faults}
use Rattle.rt_check_module.specs.Starts.{Written, copies, each_fits, starts_field, all_fit, fields_fit, in_each, in_all, in_fields, all_unknown, each_made, all_made, fields_made, written}
use Rattle.rt_check_module.proofs.Lists.{copies_seen}
use Rattle.rt_check_declared.specs.Verdicts.{with_faults}

and_three : (a b c : Bool) → (a && b) && c ≡ a && (b && c)
and_three true b c = refl
and_three false b c = refl

and_true : (a : Bool) → a && true ≡ a
and_true true = refl
and_true false = refl

-- the next of some, and what is tested of it
pub fit_step : (f g n rest t : Bool) → g ≡ f && n → f && (n && rest) ≡ t → g && rest ≡ t
fit_step f g n rest t is kept = ap (λ (x : Bool). x && rest) is ∙ and_three f n rest ∙ kept

pub noted_step : (o p t : Option CheckFault) (fs gs : List CheckFault) → p ≡ with_faults o fs → with_faults o (fs ++ gs) ≡ t → with_faults p gs ≡ t
noted_step o p t fs gs is kept = ap (λ (x : Option CheckFault). with_faults x gs) is ∙ more_faults o fs gs ∙ kept

abbrev pub privates : Written → Mode → List CheckFault
privates w = w.private

-- ---- fields of one part

module _ (w : Written) (fs : List Field) (i : ℕ) (f : Field) (h : i < length fs) (e : f ≡ get_or fs i f) where
  pub field_fits : (a b n t : Bool) → n ≡ starts_field w f.mode → b ≡ a && n → a && all_fit w (drop i fs) ≡ t → b && all_fit w (drop (i + 1) fs) ≡ t
  field_fits a b n t is both kept =
      fit_step a b (starts_field w f.mode) (all_fit w (drop (i + 1) fs)) t (both ∙ ap (λ (x : Bool). a && x) is) (sym (ap (λ (x : List Field). a && all_fit w x) (drop_next fs i f h e)) ∙ kept)

  pub field_noted : (o p t : Option CheckFault) → p ≡ with_faults o (w.private f.mode) → with_faults o (in_all privates w (drop i fs)) ≡ t → with_faults p (in_all privates w (drop (i + 1) fs)) ≡ t
  field_noted o p t is kept =
      noted_step o p t (w.private f.mode) (in_all privates w (drop (i + 1) fs)) is (sym (ap (λ (x : List Field). with_faults o (in_all privates w x)) (drop_next fs i f h e)) ∙ kept)

abbrev pub uses : Written → Mode → List ℕ
uses w = w.used

-- what was found before, and the next of some
pub found_step : {A : Type 0} (a b next rest t : List A) → b ≡ a ++ next → a ++ (next ++ rest) ≡ t → b ++ rest ≡ t
found_step a b next rest t is kept = ap (λ x. x ++ rest) is ∙ append_assoc a next rest ∙ kept

module _ (w : Written) (fs : List Field) (i : ℕ) (f : Field) (h : i < length fs) (e : f ≡ get_or fs i f) where
  pub field_used : (a b t : List ℕ) → b ≡ a ++ w.used f.mode → a ++ in_all uses w (drop i fs) ≡ t → b ++ in_all uses w (drop (i + 1) fs) ≡ t
  field_used a b t is kept = found_step a b (w.used f.mode) (in_all uses w (drop (i + 1) fs)) t is (sym (ap (λ (x : List Field). a ++ in_all uses w x) (drop_next fs i f h e)) ∙ kept)

-- ---- parts

module _ (records : List RecordDef) (names : Names) (strings : List ℕ) (ps : List Start) (i : ℕ) (p : Start) (h : i < length ps) (e : p ≡ get_or ps i p) where
  abbrev all_written : Start → Written
  all_written = written records names strings

  abbrev later : List Written
  later = map (all_written) (drop (i + 1) ps)

  pub next_part : map (all_written) (drop i ps) ≡ all_written p ∷ later
  next_part = ap (map (all_written)) (drop_next ps i p h e)

  pub part_unknown : (o q t : Option CheckFault) → q ≡ with_faults o (all_written p).unknown → with_faults o (all_unknown (map (all_written) (drop i ps))) ≡ t → with_faults q (all_unknown later) ≡ t
  part_unknown o q t is kept = noted_step o q t (all_written p).unknown (all_unknown later) is (sym (ap (λ (x : List Written). with_faults o (all_unknown x)) next_part) ∙ kept)

  pub part_fits : (m : Mode) (a b n t : Bool) → n ≡ (all_written p).fits m → b ≡ a && n → a && each_fits (map (all_written) (drop i ps)) m ≡ t → b && each_fits later m ≡ t
  part_fits m a b n t is both kept =
      fit_step a b ((all_written p).fits m) (each_fits later m) t (both ∙ ap (λ (x : Bool). a && x) is) (sym (ap (λ (x : List Written). a && each_fits x m) next_part) ∙ kept)

  pub part_noted : (m : Mode) (o q t : Option CheckFault) → q ≡ with_faults o ((all_written p).private m) → with_faults o (in_each privates (map (all_written) (drop i ps)) m) ≡ t → with_faults q (in_each privates later m) ≡ t
  part_noted m o q t is kept =
      noted_step o q t ((all_written p).private m) (in_each privates later m) is (sym (ap (λ (x : List Written). with_faults o (in_each privates x m)) next_part) ∙ kept)

  pub part_used : (m : Mode) (a b t : List ℕ) → b ≡ a ++ (all_written p).used m → a ++ in_each uses (map all_written (drop i ps)) m ≡ t → b ++ in_each uses later m ≡ t
  part_used m a b t is kept = found_step a b ((all_written p).used m) (in_each uses later m) t is (sym (ap (λ (x : List Written). a ++ in_each uses x m) next_part) ∙ kept)

  -- a part stands for as many elements as its copies
  pub part_made : (m : Mode) (a b t : List DataStart) (c : ℕ) → c ≡ copies p → b ≡ a ++ replicate c ((all_written p).made m) → a ++ each_made (map all_written (drop i ps)) m ≡ t → b ++ each_made later m ≡ t
  part_made m a b t c many is kept =
      let now : b ≡ a ++ replicate (all_written p).copies ((all_written p).made m) = is ∙ ap (λ (n : ℕ). a ++ replicate n ((all_written p).made m)) (many ∙ sym (copies_seen records names strings p)) in
      found_step a b (replicate (all_written p).copies ((all_written p).made m)) (each_made later m) t now (sym (ap (λ (x : List Written). a ++ each_made x m) next_part) ∙ kept)

  -- a part takes as many fields as its copies
  module _ (left these rest : List Field) (first : these ≡ take (copies p) left) (behind : rest ≡ drop (copies p) left) where
    first_fields : take (all_written p).copies left ≡ these
    first_fields = ap (λ (c : ℕ). take c left) (copies_seen records names strings p) ∙ sym first

    other_fields : drop (all_written p).copies left ≡ rest
    other_fields = ap (λ (c : ℕ). drop c left) (copies_seen records names strings p) ∙ sym behind

    pub fields_fit_next : fields_fit (map (all_written) (drop i ps)) left ≡ all_fit (all_written p) these && fields_fit later rest
    fields_fit_next =
        ap (λ (x : List Written). fields_fit x left) next_part ∙ ap (λ (x : List Field). all_fit (all_written p) x && fields_fit later (drop (all_written p).copies left)) first_fields
        ∙ ap (λ (x : List Field). all_fit (all_written p) these && fields_fit later x) other_fields

    pub in_fields_next : {A : Type 0} (find_in : Written → Mode → List A) → in_fields find_in (map (all_written) (drop i ps)) left ≡ in_all find_in (all_written p) these ++ in_fields find_in later rest
    in_fields_next {A} find_in =
        ap (λ (x : List Written). in_fields find_in x left) next_part ∙ ap (λ (x : List Field). in_all find_in (all_written p) x ++ in_fields find_in later (drop (all_written p).copies left)) first_fields
        ∙ ap (λ (x : List Field). in_all find_in (all_written p) these ++ in_fields find_in later x) other_fields

    -- behind the last of these fields
    pub part_fields_fit : (j : ℕ) (a b t : Bool) → length these ≤ j → b && all_fit (all_written p) (drop j these) ≡ a && all_fit (all_written p) these → a && fields_fit (map (all_written) (drop i ps)) left ≡ t → b && fields_fit later rest ≡ t
    part_fields_fit j a b t last is kept =
        let now : b ≡ a && all_fit (all_written p) these = sym (and_true b) ∙ sym (ap (λ (x : List Field). b && all_fit (all_written p) x) (drop_all j these last)) ∙ is in
        fit_step a b (all_fit (all_written p) these) (fields_fit later rest) t now (sym (ap (λ (x : Bool). a && x) fields_fit_next) ∙ kept)

    pub part_fields_noted : (j : ℕ) (o q t : Option CheckFault) → length these ≤ j → with_faults q (in_all privates (all_written p) (drop j these)) ≡ with_faults o (in_all privates (all_written p) these)
        → with_faults o (in_fields privates (map (all_written) (drop i ps)) left) ≡ t → with_faults q (in_fields privates later rest) ≡ t
    unfolding with_faults
    part_fields_noted j o q t last is kept =
        let now : q ≡ with_faults o (in_all privates (all_written p) these) = sym (ap (λ (x : List Field). with_faults q (in_all privates (all_written p) x)) (drop_all j these last)) ∙ is in
        noted_step o q t (in_all privates (all_written p) these) (in_fields privates later rest) now (sym (ap (with_faults o) (in_fields_next privates)) ∙ kept)

    pub part_fields_used : (j : ℕ) (a b t : List ℕ) → length these ≤ j → b ++ in_all uses (all_written p) (drop j these) ≡ a ++ in_all uses (all_written p) these → a ++ in_fields uses (map all_written (drop i ps)) left ≡ t
        → b ++ in_fields uses later rest ≡ t
    part_fields_used j a b t last is kept =
        let now : b ≡ a ++ in_all uses (all_written p) these = sym (append-nil b) ∙ sym (ap (λ (x : List Field). b ++ in_all uses (all_written p) x) (drop_all j these last)) ∙ is in
        found_step a b (in_all uses (all_written p) these) (in_fields uses later rest) t now (sym (ap (λ (x : List ℕ). a ++ x) (in_fields_next uses)) ∙ kept)

    fields_made_next : fields_made (map all_written (drop i ps)) left ≡ all_made (all_written p) these ++ fields_made later rest
    fields_made_next =
        ap (λ (x : List Written). fields_made x left) next_part ∙ ap (λ (x : List Field). all_made (all_written p) x ++ fields_made later (drop (all_written p).copies left)) first_fields
        ∙ ap (λ (x : List Field). all_made (all_written p) these ++ fields_made later x) other_fields

    pub part_fields_made : (j : ℕ) (a b t : List DataStart) → length these ≤ j → b ++ all_made (all_written p) (drop j these) ≡ a ++ all_made (all_written p) these → a ++ fields_made (map all_written (drop i ps)) left ≡ t
        → b ++ fields_made later rest ≡ t
    part_fields_made j a b t last is kept =
        let now : b ≡ a ++ all_made (all_written p) these = sym (append-nil b) ∙ sym (ap (λ (x : List Field). b ++ all_made (all_written p) x) (drop_all j these last)) ∙ is in
        found_step a b (all_made (all_written p) these) (fields_made later rest) t now (sym (ap (λ (x : List DataStart). a ++ x) fields_made_next) ∙ kept)
