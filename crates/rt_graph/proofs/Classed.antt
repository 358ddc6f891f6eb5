-- The candidates of a full mode by classes.
use Rattle.std.proofs.Common.{◌≡◌, ℕ, zero, suc, ◌+◌, if◌then◌else◌, Bool, true, false, List, [], ◌∷◌, length, Option, Some, None, slice_get, refl, sym, ap, ◌∙◌, arith}
use Rattle.std.proofs.lemmas.Option.{slice_get_within}
use Rattle.rt_tree_nodes.specs.declared.store.Proc.{Proc}
use Rattle.rt_object.specs.declared.object.ObjectParts.{ObjectParts}
use Rattle.rt_match.specs.declared.bindings.Bound.{Bound}
use Rattle.rt_digraph.proofs.Lists.{no_element, some_is, get_there}
use Rattle.rt_graph.specs.Calls.{IsCandidate, IsProcedure}
use Rattle.rt_graph.specs.Numbers.{all_bricks, place, full_mode}
use Rattle.rt_digraph.specs.Alone.{is_marked}
use Rattle.rt_graph.specs.Classes.{mark_all, text_of, texts_of, taken_texts, ClassMap, class_in, AreClasses, IsToldOf}
use Rattle.rt_graph.proofs.Procedures.{full_to, full_from, procedure_row}
use Rattle.rt_graph.proofs.Marks.{none, marked_taken, taken_marked}

module _ (objects : List ObjectParts) where
  texts_get : (ms : List Bool) (k : ℕ) (fs : List Proc) (i : ℕ) (f : Proc) → slice_get fs i ≡ Some f → slice_get (texts_of objects ms k fs) i ≡ Some (text_of objects ms (k + i) f)
  texts_get ms k [] i f e = absurd (no_element i f e)
  texts_get ms k (g ∷ fs) zero f e =
      ap (λ (x : Proc). Some (text_of objects ms k x)) (some_is g f e) ∙ ap (λ (j : ℕ). Some (text_of objects ms j f)) (let z : k ≡ k + 0 = omega arith in z)
  texts_get ms k (g ∷ fs) (suc i) f e = texts_get ms (suc k) fs i f e ∙ ap (λ (j : ℕ). Some (text_of objects ms j f)) (let z : suc k + i ≡ k + suc i = omega arith in z)

  texts_long : (ms : List Bool) (k : ℕ) (fs : List Proc) → length (texts_of objects ms k fs) ≡ length fs
  texts_long ms k [] = refl
  texts_long ms k (g ∷ fs) = ap suc (texts_long ms (suc k) fs)

module _ (objects : List ObjectParts) (of : List (List Bound)) where
  abbrev marks : List Bool
  marks = mark_all objects of (none objects of)

  pub all_texts_long : length (taken_texts objects of) ≡ length (all_bricks objects)
  all_texts_long = texts_long objects marks 0 (all_bricks objects)

  text_at : (n : ℕ) (f : Proc) → slice_get (all_bricks objects) n ≡ Some f → slice_get (taken_texts objects of) n ≡ Some (text_of objects marks n f)
  text_at n f e = texts_get objects marks 0 (all_bricks objects) n f e ∙ ap (λ (j : ℕ). Some (text_of objects marks j f)) (let z : 0 + n ≡ n = omega arith in z)

  pub candidate_text : (t : List ℕ) (f : Proc) → IsCandidate objects of t f → slice_get (taken_texts objects of) (place objects f) ≡ Some (Some t)
  candidate_text t f c =
      let p : IsProcedure objects f = (t, c.mode) in
      text_at (place objects f) f (procedure_row objects f p)
      ∙ ap (λ (b : Bool). Some (if b then full_mode objects f else None)) (taken_marked objects of f c.taken p)
      ∙ ap (λ (o : Option (List ℕ)). Some o) (full_to objects f t c.mode)

  pub text_candidate : (n : ℕ) (t : List ℕ) (f : Proc) → slice_get (all_bricks objects) n ≡ Some f → slice_get (taken_texts objects of) n ≡ Some (Some t) → IsCandidate objects of t f
  text_candidate n t f at e = by (is_marked marks n) refl (some_is (text_of objects marks n f) (Some t) (sym (text_at n f at) ∙ e))
    where
      by : (b : Bool) → is_marked marks n ≡ b → (if b then full_mode objects f else None) ≡ Some t → IsCandidate objects of t f
      by true q g = record { taken = marked_taken objects of n f at q; mode = full_from objects f t g }
      by false q g = absurd cc

  -- ---- by classes

  module _ (map : ClassMap) (class_of : List (Option ℕ)) (count : ℕ) (classes : AreClasses (taken_texts objects of) map class_of count) where
    pub candidate_class : (t : List ℕ) (f : Proc) → IsCandidate objects of t f → (c : ℕ) × (class_in map t ≡ Some c) × (slice_get class_of (place objects f) ≡ Some (Some c))
    candidate_class t f h =
        let e = classes.each (place objects f) (Some t) (candidate_text t f h) in
        let told : IsToldOf map (Some t) e.0 = e.2 in
        (told.0, told.1, e.1 ∙ ap (λ (o : Option ℕ). Some o) told.2)

    pub class_candidate : (n : ℕ) (t : List ℕ) (f : Proc) (c : ℕ) → slice_get (all_bricks objects) n ≡ Some f → slice_get class_of n ≡ Some (Some c) → class_in map t ≡ Some c → IsCandidate objects of t f
    class_candidate n t f c at e here =
        let l = slice_get_within class_of n (Some c) e in
        let size : length class_of ≡ length (taken_texts objects of) = classes.size in
        let x = get_there (taken_texts objects of) n (omega arith) in
        let told = classes.each n x.0 x.1 in
        by x.0 x.1 told.0 told.1 told.2
      where
        by : (x : Option (List ℕ)) → slice_get (taken_texts objects of) n ≡ Some x → (d : Option ℕ) → slice_get class_of n ≡ Some d → IsToldOf map x d → IsCandidate objects of t f
        by None q d r h = absurd (let s : Some c ≡ d = some_is (Some c) d (sym e ∙ r) in let g : d ≡ None = h in cc)
        by (Some u) q d r h =
            let s : Some c ≡ d = some_is (Some c) d (sym e ∙ r) in
            let is : c ≡ h.0 = some_is c h.0 (s ∙ h.2) in
            let same : t ≡ u = classes.apart.one t u c here (h.1 ∙ ap (λ (k : ℕ). Some k) (sym is)) in
            text_candidate n t f at (q ∙ ap (λ (v : List ℕ). Some (Some v)) (sym same))

    -- a brick of a class is there
    pub class_there : (n c : ℕ) → slice_get class_of n ≡ Some (Some c) → (f : Proc) × (slice_get (all_bricks objects) n ≡ Some f)
    class_there n c e =
        let l = slice_get_within class_of n (Some c) e in
        let size : length class_of ≡ length (taken_texts objects of) = classes.size in
        let long = all_texts_long in
        get_there (all_bricks objects) n (omega arith)
