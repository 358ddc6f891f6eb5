-- Calls: of a brick, of a value, and of what ERP holds.
use Rattle.std.proofs.Common.{◌≡◌, inr, ℕ, suc, ◌+◌, ◌<◌, Bool, true, false, List, [], ◌∷◌, length, Option, Some, None, refl, sym, ap, ◌∙◌, subst, arith}
use Rattle.std.specs.Prelude.{nat_lt, codes}
use Rattle.std.specs.List.{Contains}
use Rattle.rt_modes.specs.declared.mode.Mode.{Mode, out-Mode}
use Rattle.rt_modes.specs.declared.mode.Mode.TheOpen.{Mode-F}
use Rattle.rt_modes.specs.declared.mode.Mode.TheVariants as mode
use Rattle.rt_modes.specs.FullMode.{FullMode}
use Rattle.rt_tree_nodes.specs.declared.store.Proc.{Proc}
use Rattle.rt_tree_nodes.specs.declared.store.Datum.{Datum}
use Rattle.rt_tree_nodes.specs.declared.store.Datum.TheVariants.{Word, Procedure}
use Rattle.rt_tree_nodes.specs.Scopes.{faces, proc_mode}
use Rattle.rt_tree_nodes.specs.Typing.{is_value}
use Rattle.rt_tree.specs.Stored.{IsCandidate}
use Rattle.rt_tree.specs.FullModes.{MayStand}
use Rattle.rt_work_state.specs.Items.{Item, Enter, EnterBy, Report, Stand, Calls}
use Rattle.rt_work_state.specs.Stores.{erp}
use Rattle.rt_work.specs.Task.{next, taken, left, found, proc_on, share_then}
use Rattle.rt_work.specs.declared.numbers.Share.{Share}
use Rattle.rt_work.specs.declared.numbers.Share.TheVariants.{Gives, Fails}
use Rattle.rt_work.specs.Numbers.{divided}
use Rattle.rt_meaning.specs.Step.{on_values}
use Rattle.rt_meaning_laws.specs.Slots.{AreOf}
use Rattle.rt_meaning_laws.specs.Slots as slots
use Rattle.rt_meaning_laws.specs.Trees.{table}
use Rattle.rt_meaning_laws.specs.Work as work
use Rattle.rt_resolve.specs.Matching.{int_taken}
use Rattle.rt_meaning_laws.proofs.Modes.{out_int, out_proc, int_is_number, number_is}
use Rattle.rt_meaning_laws.proofs.Numbers.{ShareBelow}
use Rattle.rt_meaning_laws.proofs.Errors.{int_taken_stands, erp_full}
use Rattle.rt_frames.specs.declared.frame.Target.TheVariants as target
use Rattle.rt_frames.specs.Points.{point}
use Rattle.rt_icode.specs.declared.ins.Division.{Division}
use Rattle.rt_icode.specs.declared.ins.OwnItem.TheVariants as own
use Rattle.rt_icode.specs.declared.ins.Width.TheVariants as width
use Rattle.rt_icode.specs.declared.ins.Ins.TheVariants as ins
use Rattle.rt_icode_meaning.specs.Move.{Silent, Invokes, invoke, invoke_under, invoke_by, shared, division_by, move}
use Rattle.rt_icode_meaning.specs.Typed.{AnswerOf, AreWords, IsOneWord}
use Rattle.rt_icode_meaning.specs.Lowered.{kept_of, is_there}
use Rattle.rt_lower_meaning.specs.Setting.{Setting, Runs, Stands}
use Rattle.rt_lower_meaning.proofs.Layers.{by_procedure, own_wide}
use Rattle.rt_lower_meaning.proofs.Pushed.{pushed, left_pushed, taken_pushed, enough}
use Rattle.rt_lower_meaning.proofs.Spans.{Spans}
use Rattle.rt_lower_meaning.proofs.Steps.{one_word, onward, silent, loads, invokes}

-- what a call leaves where its result is kept or not
pub words_pushed : (ds us : List Datum) → AreWords (pushed ds us) → AreWords us
words_pushed [] us w = w
words_pushed (d ∷ ds) us w = (words_pushed ds (d ∷ us) w).1

-- whether a procedure gives a result
abbrev pub gives_some : Option Mode → Bool
gives_some None = false
gives_some (Some m) = true

module _ (s : Setting) (h : Stands s) where
  -- what is shown of a call: for each result of its mode, what comes after it, where it is kept and where it isn't
  abbrev pub Back : ℕ → ℕ → Bool → Option Mode → List Datum → List Datum → List Datum → List Item → Type 0
  Back k to gives o us vs ks rest = (r : Option Datum) → AnswerOf s.system (table s.site) o r → Runs s k to (on_values (kept_of gives r) us) ks (next s.env rest (on_values r vs) ks)

  some_there : (gives : Bool) (o : Option Mode) (r : Option Datum) → (gives ≡ true → gives_some o ≡ true) → AnswerOf s.system (table s.site) o r → gives ≡ true → is_there r ≡ true
  some_there gives None None g a e = g e
  some_there gives None (Some d) g a e = absurd a
  some_there gives (Some m) None g a e = absurd a
  some_there gives (Some m) (Some d) g a e = refl

  answer_word : (o : Option Mode) (r : Option Datum) → AnswerOf s.system (table s.site) o r → (d : Datum) → r ≡ Some d → IsOneWord d
  answer_word None None a d e = absurd cc
  answer_word None (Some x) a d e = absurd a
  answer_word (Some m) None a d e = absurd a
  answer_word (Some m) (Some x) a d e = let same : x ≡ d = cc in subst IsOneWord same (one_word a.0)

  -- a brick
  pub enter_runs : (b n : ℕ) (gives : Bool) (k pc to : ℕ) (us vs ks ds : List Datum) (rest : List Item) (w : Mode) (ws : List Mode) (o : Option Mode) → Spans s.code pc (ins.Invoke b n gives ∷ []) to → proc_mode (faces s.site.parts.bricks) b ≡ Some w → n ≡ length ds
      → out-Mode w ≡ Mode-F.Proc ws o → MayStand (table s.site) w → work.MayCall s.system (FullMode (table s.site) w) (s.env.leads b) → AreOf s.system (table s.site) ws ds → Contains s.calls (point (length us) n (target.Brick b))
      → (gives ≡ true → gives_some o ≡ true) → Back k to gives o us vs ks rest → Runs s k pc (pushed ds us) ks (next s.env (Enter b n ∷ rest) (pushed ds vs) ks)
  enter_runs b n gives k pc to us vs ks ds rest w ws o sp pm e ow st may are at g back =
      let p = h.points (point (length us) n (target.Brick b)) (s.env.leads b) at refl in
      let fit = h.arguments w ws o (s.env.leads b) ds ow st may are in
      let args : taken n [] (pushed ds vs) ≡ ds = ap (λ m. taken m [] (pushed ds vs)) e ∙ taken_pushed ds vs in
      let others : left n (pushed ds vs) ≡ vs = ap (λ m. left m (pushed ds vs)) e ∙ left_pushed ds vs in
      let args_here : taken n [] (pushed ds us) ≡ ds = ap (λ m. taken m [] (pushed ds us)) e ∙ taken_pushed ds us in
      let others_here : left n (pushed ds us) ≡ us = ap (λ m. left m (pushed ds us)) e ∙ left_pushed ds us in
      let many : nat_lt (length (pushed ds us)) n ≡ false = ap (λ m. nat_lt (length (pushed ds us)) m) e ∙ enough ds us in
      let mv : move s.env (ins.Invoke b n gives) pc (pushed ds us) ks ≡ Invokes (s.env.leads b) ds (length us) gives (pc + 1) us ks =
      ap (λ c. invoke c (s.env.leads b) n gives pc (pushed ds us) ks) many ∙ ap (λ xs. Invokes (s.env.leads b) xs (length (left n (pushed ds us))) gives (pc + 1) (left n (pushed ds us)) ks) args_here ∙ ap (λ xs. Invokes (s.env.leads b) ds (length xs) gives (pc + 1) xs ks) others_here in
      subst (λ xs. Runs s k pc (pushed ds us) ks (Calls (s.env.leads b) xs rest (left n (pushed ds vs)) ks)) (sym args)
      (subst (λ xs. Runs s k pc (pushed ds us) ks (Calls (s.env.leads b) ds rest xs ks)) (sym others)
      (invokes s h k pc to (ins.Invoke b n gives) (pushed ds us) ks us (s.env.leads b) ds (length us) gives rest vs ks sp mv (words_pushed ds us) (w, pm) fit p.0 (let room = p.1 in omega (arith, room, e)) (λ r is.
      let a = h.results w ws o (s.env.leads b) r ow st may is in
      (some_there gives o r g a, answer_word o r a, back r a))))

  -- a value
  pub enter_by_runs : (m : Mode) (n : ℕ) (gives : Bool) (k pc to : ℕ) (us vs ks ds : List Datum) (g : Proc) (rest : List Item) (w : Mode) (ws : List Mode) (o : Option Mode) → Spans s.code pc (ins.InvokeBy n gives ∷ []) to → n ≡ length ds
      → out-Mode w ≡ Mode-F.Proc ws o → MayStand (table s.site) w → IsCandidate s.system (FullMode (table s.site) w) g → m ≡ w → AreOf s.system (table s.site) ws ds → Contains s.calls (point (length us) n (target.Variable m))
      → (gives ≡ true → gives_some o ≡ true) → Back k to gives o us vs ks rest → Runs s k pc (pushed ds (Procedure g ∷ us)) ks (next s.env (EnterBy n ∷ rest) (pushed ds (Procedure g ∷ vs)) ks)
  enter_by_runs m n gives k pc to us vs ks ds g rest w ws o sp e ow st is same are at giv back =
      let p = h.points (point (length us) n (target.Variable m)) g at (subst (λ x. IsCandidate s.system (FullMode (table s.site) x) g) (sym same) is) in
      let may = h.sound.candidates (FullMode (table s.site) w) g is in
      let fit = h.arguments w ws o g ds ow st may are in
      let args : taken n [] (pushed ds (Procedure g ∷ vs)) ≡ ds = ap (λ i. taken i [] (pushed ds (Procedure g ∷ vs))) e ∙ taken_pushed ds (Procedure g ∷ vs) in
      let others : left n (pushed ds (Procedure g ∷ vs)) ≡ Procedure g ∷ vs = ap (λ i. left i (pushed ds (Procedure g ∷ vs))) e ∙ left_pushed ds (Procedure g ∷ vs) in
      let args_here : taken n [] (pushed ds (Procedure g ∷ us)) ≡ ds = ap (λ i. taken i [] (pushed ds (Procedure g ∷ us))) e ∙ taken_pushed ds (Procedure g ∷ us) in
      let others_here : left n (pushed ds (Procedure g ∷ us)) ≡ Procedure g ∷ us = ap (λ i. left i (pushed ds (Procedure g ∷ us))) e ∙ left_pushed ds (Procedure g ∷ us) in
      let many : nat_lt (length (pushed ds (Procedure g ∷ us))) n ≡ false = ap (λ i. nat_lt (length (pushed ds (Procedure g ∷ us))) i) e ∙ enough ds (Procedure g ∷ us) in
      let mv : move s.env (ins.InvokeBy n gives) pc (pushed ds (Procedure g ∷ us)) ks ≡ Invokes g ds (suc (length us)) gives (pc + 1) us ks =
      ap (λ c. invoke_by c n gives pc (pushed ds (Procedure g ∷ us)) ks) many ∙ ap (λ xs. invoke_under xs gives pc (taken n [] (pushed ds (Procedure g ∷ us))) ks) others_here ∙ ap (λ xs. Invokes g xs (suc (length us)) gives (pc + 1) us ks) args_here in
      subst (λ xs. Runs s k pc (pushed ds (Procedure g ∷ us)) ks (found (proc_on xs) (λ f zs. Calls f (taken n [] (pushed ds (Procedure g ∷ vs))) rest zs ks))) (sym others)
      (subst (λ xs. Runs s k pc (pushed ds (Procedure g ∷ us)) ks (Calls g xs rest vs ks)) (sym args)
      (invokes s h k pc to (ins.InvokeBy n gives) (pushed ds (Procedure g ∷ us)) ks us g ds (suc (length us)) gives rest vs ks sp mv (λ q. (words_pushed ds (Procedure g ∷ us) q).1) tt fit p.0 (let room = p.1 in omega (arith, room, e)) (λ r ix.
      let a = h.results w ws o g r ow st may ix in
      (some_there gives o r giv a, answer_word o r a, back r a))))

  -- ---- divisions

  -- a division that may fail: the quotient, or the error's report and 0
  pub divide_runs : (d : Division) (v : Share) (k pc to : ℕ) (us vs ks : List Datum) (a b : ℕ) (rest : List Item) → divided (division_by d) a b ≡ v → ShareBelow v → Spans s.code pc (ins.DivideOr d ∷ ins.LoadOwn own.Erp ∷ ins.Report ∷ []) to → Contains s.calls (point (length us) 1 target.Error)
      → ((n : ℕ) → n < 65536 → Runs s k to (Word n ∷ us) ks (next s.env rest (Word n ∷ vs) ks)) → Runs s k pc (Word b ∷ Word a ∷ us) ks (share_then v rest (λ xs zs. next s.env rest xs zs) vs ks)
  divide_runs d (Gives n) k pc to us vs ks a b rest e below sp at go =
      let far : pc + 3 ≡ to = let x = sp.1.1.1 in omega (arith, x) in
      silent s h k pc to (ins.DivideOr d) (Word b ∷ Word a ∷ us) ks (Word n ∷ us) ks _ sp.0 (ap (λ x. shared x pc us ks) e ∙ ap (λ x. Silent x (Word n ∷ us) ks) far) (λ w. (below, w.1.1)) (λ o. o) tt (go n below)
  divide_runs d (Fails n) k pc to us vs ks a b rest e below sp at go =
      onward s h k pc (pc + 1) (ins.DivideOr d) (Word b ∷ Word a ∷ us) ks (Word n ∷ us) ks _ (sp.0, refl) (ap (λ x. shared x pc us ks) e) (λ w. (below, w.1.1)) (λ o. o) tt
      (loads s h k (pc + 1) (pc + 1 + 1) (ins.LoadOwn own.Erp) (Word n ∷ us) ks (Word n ∷ us) width.Word erp int_taken (Report n ∷ Stand 0 ∷ rest) vs ks (sp.1.0, refl) refl (λ w. w) tt
      (inr (int_taken_stands (table s.site), erp_is)) (own_wide erp_is) (ap is_value (out_proc (mode.Int ∷ []) None))
      (λ f is. by_procedure s.system (table s.site) (λ z. Runs s k (pc + 1 + 1) (z ∷ Word n ∷ us) ks (next s.env (Report n ∷ Stand 0 ∷ rest) (z ∷ vs) ks)) int_taken (mode.Int ∷ []) None f is (out_proc (mode.Int ∷ []) None) (λ g st can.
      let full : IsCandidate s.system (codes "PROC(INT)") g = subst (λ x. IsCandidate s.system x g) (erp_full (table s.site)) can in
      let p = h.points (point (length us) 1 target.Error) g at full in
      let may = h.sound.candidates (FullMode (table s.site) int_taken) g can in
      let are : AreOf s.system (table s.site) (mode.Int ∷ []) (Word n ∷ []) = (number_is s.system (table s.site) mode.Int n (int_is_number mode.Int out_int) below, tt) in
      let fit = h.arguments int_taken (mode.Int ∷ []) None g (Word n ∷ []) (out_proc (mode.Int ∷ []) None) st may are in
      invokes s h k (pc + 1 + 1) to ins.Report (Procedure g ∷ Word n ∷ us) ks (Word 0 ∷ us) g (Word n ∷ []) (length us) false (Stand 0 ∷ rest) vs ks (sp.1.1.0, sp.1.1.1) refl (λ w. (omega arith, w.1.1)) tt fit p.0 (let room = p.1 in omega (arith, room)) (λ r ix.
      let an = h.results int_taken (mode.Int ∷ []) None g r (out_proc (mode.Int ∷ []) None) st may ix in
      ((λ q. absurd cc), answer_word None r an, none_back r an)))))
    where
      erp_is : slots.IsOwn (table s.site) 2 int_taken
      erp_is = slots.erp (out_proc (mode.Int ∷ []) None) (erp_full (table s.site))

      none_back : (r : Option Datum) → AnswerOf s.system (table s.site) None r → Runs s k to (on_values (kept_of false r) (Word 0 ∷ us)) ks (next s.env (Stand 0 ∷ rest) (on_values r vs) ks)
      none_back None an = go 0 (omega arith)
      none_back (Some d) an = absurd an
