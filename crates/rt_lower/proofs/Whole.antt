-- What is written of a procedure becomes its code.
use Rattle.std.proofs.Common.{◌≡◌, ℕ, ◌+◌, List, [], ◌∷◌, ◌++◌, length, refl, sym, ap, ◌∙◌, subst, append_assoc, arith, length-append}
use Rattle.std.proofs.Math.Path.{fun_ext}
use Rattle.rt_tree_nodes.specs.Tree.{Seq}
use Rattle.rt_icode.specs.declared.ins.Ins.{Ins}
use Rattle.rt_icode.specs.declared.ins.Ins.TheVariants as ins
use Rattle.rt_lower.specs.declared.draft.Draft.{Draft}
use Rattle.rt_lower.specs.declared.layouts.Layouts.{Layouts}
use Rattle.rt_lower.specs.Layouts.{number}
use Rattle.rt_lower.specs.Code as code
use Rattle.rt_lower.specs.Code.{Leads, leads_in, code_behind}
use Rattle.rt_lower.specs.Drafts.{put, sequence, place_in, lead_in, laid_from, laid_out}
use Rattle.rt_lower.proofs.Laying.{HasFrom, has_at, Always, puts, thens}
use Rattle.rt_lower.proofs.Drafted.{sequence_drafts}
use Rattle.rt_lower.proofs.Labelled.{sequence_labels}

abbrev pub empty : Draft
empty = record { code = []; places = []; labels = [] }

entry_at : (pre ps : List ℕ) (p : ℕ) → place_in (pre ++ p ∷ ps) (length pre) ≡ p
entry_at [] ps p = refl
entry_at (x ∷ pre) ps p = entry_at pre ps p

-- a list of places has those that are in it
has_own : (pre ps : List ℕ) → HasFrom (place_in (pre ++ ps)) (length pre) ps
has_own pre [] = tt
has_own pre (p ∷ ps) =
    let e : (pre ++ p ∷ []) ++ ps ≡ pre ++ p ∷ ps = append_assoc pre (p ∷ []) ps in (
      entry_at pre ps p,
      has_at (place_in (pre ++ p ∷ ps)) (length (pre ++ p ∷ [])) (length pre + 1) ps (omega (arith, length-append pre (p ∷ [])))
          (subst (λ qs. HasFrom (place_in qs) (length (pre ++ p ∷ [])) ps) e (has_own (pre ++ p ∷ []) ps)),
    )

module _ (l : Layouts) where
  pub written : (enter : Ins) (q : Seq) → laid_out (put (ins.Leave ∷ []) (sequence l q (put (enter ∷ []) empty))) ≡ code_behind l enter q
  written enter q =
      let x = put (enter ∷ []) empty in
      let y = sequence l q x in
      let z = put (ins.Leave ∷ []) y in
      let body = λ (L : Leads). code.sequence l L 1 q in
      let behind = thens x y z Always Always Always body (λ L. ins.Leave ∷ []) (sequence_drafts l q x) (puts (ins.Leave ∷ []) y) (λ E p. tt) (λ E p. tt) in
      let all = thens empty x z Always Always Always (λ L. enter ∷ []) (λ L. body L ++ ins.Leave ∷ []) (puts (enter ∷ []) empty) behind (λ E p. tt) (λ E p. tt) in
      let leads : lead_in z.labels ≡ leads_in l q = fun_ext (λ k. ap number (sequence_labels l k q x)) in
      ap (λ ps. laid_from (place_in z.places) (lead_in z.labels) 0 ps) all.code
      ∙ all.right (place_in z.places) (lead_in z.labels) (subst (λ ps. HasFrom (place_in ps) 0 all.ps) (sym all.places) (has_own [] all.ps)) tt
      ∙ ap (λ L. enter ∷ (code.sequence l L 1 q ++ ins.Leave ∷ [])) leads
