-- Calls from compiled code: what is called runs, and the caller goes on with the result.
use Rattle.std.proofs.Common.{◌≡◌, ℕ, zero, suc, ◌+◌, ◌*◌, ◌<◌, ◌≤◌, Bool, true, false, List, [], ◌∷◌, ◌++◌, length, drop, refl, sym, ap, ◌∙◌, subst, arith, Option, Some, None}
use Rattle.std.specs.Prelude.{slice_index}
use Rattle.rt_words.specs.Word.{wrap_add}
use Rattle.rt_words.specs.Operators.{wrap_mul}
use Rattle.rt_tree_nodes.specs.declared.store.Proc.{Proc}
use Rattle.rt_tree_nodes.specs.declared.store.Datum.{Datum}
use Rattle.rt_tree.specs.Stored.{System}
use Rattle.rt_work_state.specs.Items.{Item, Next, Reads, Writes, Calls, Returns, Jumps, Leaps, Asks, Recovers, Errors, Lacks}
use Rattle.rt_work.specs.Task.{taken, left}
use Rattle.rt_meaning.specs.Step.{leapt, on_values}
use Rattle.rt_meaning_laws.specs.Work.{IsProcedure}
use Rattle.rt_meaning_laws.specs.Work as work
use Rattle.rt_icode.specs.declared.ins.Ins.{Ins}
use Rattle.rt_icode.specs.Weights.{words_of as weight_of, unmarked_of, kept_words}
use Rattle.rt_icode_meaning.specs.Move.{Invokes}
use Rattle.rt_icode_meaning.specs.Typed.{ArgsFit, ResultFits, to_module, to_supplied}
use Rattle.rt_icode_meaning.specs.Lowered.{Agrees, is_there, kept_of}
use Rattle.rt_templates.specs.Lines.{push}
use Rattle.rt_templates.specs.Calls.{drop_words, kept as kept_lines}
use Rattle.pdp_code.specs.declared.instruction.Reg.TheVariants.{R0, Sp}
use Rattle.pdp_code.specs.declared.instruction.Operand.TheVariants.{Register, Immediate}
use Rattle.pdp_code.specs.declared.instruction.SumOp.TheVariants.{Add}
use Rattle.pdp_code.specs.declared.instruction.Instr.TheVariants.{Sum}
use Rattle.pdp_symbolic.specs.Machine.{Machine}
use Rattle.pdp_symbolic.specs.Acts.{flagged_sum}
use Rattle.rt_follows.specs.Whole.{Whole, meaning, word_of, words_of, pushed}
use Rattle.rt_follows.specs.Runs.{AnswerIn}
use Rattle.rt_follows.proofs.Step.{stays, quietly}
use Rattle.rt_template_meaning.specs.Lines.{LinesAt}
use Rattle.rt_template_meaning.specs.Picture.{proc_of, env_of, place, Follows}
use Rattle.rt_template_meaning.proofs.Opening.{Running, Here, Goes, doing, few, fits, room, further}
use Rattle.rt_call_meaning.proofs.Words.{drop_past, joined_long}

-- ---- what is called

-- what takes arguments is a procedure
pub is_procedure : (ps : System) (f : Proc) (args : List Datum) → ArgsFit ps f args → IsProcedure ps f
is_procedure ps _ args (to_module has here so opens are) = work.of_module has here so
is_procedure ps _ args (to_supplied is opens are) = work.of_supplied is

-- an answer is in R0 as long as R0 stays
pub answer_moves : (w : Whole) (y : Machine) (v : Option Datum) → AnswerIn w y v → (x : Machine) → x.r0 ≡ y.r0 → AnswerIn w x v
answer_moves w y None a x e = tt
answer_moves w y (Some d) a x e = e ∙ a

-- ---- lists

no_words : (xs ys : List ℕ) → length xs ≡ 0 → xs ++ ys ≡ ys
no_words [] ys e = refl
no_words (x ∷ xs) ys e = absurd (omega (arith, e))

pub dropped : (n : ℕ) (xs ys : List ℕ) → length xs ≡ n → drop n (xs ++ ys) ≡ ys
dropped n xs ys e = let f : n ≡ length xs + 0 = omega (arith, e) in ap (λ i. drop i (xs ++ ys)) f ∙ drop_past xs ys 0

-- the arguments as they were pushed
pub pushed_so : (w : Whole) (n : ℕ) (acc us : List Datum) (below : List ℕ) → n ≤ length us → pushed w acc (words_of w us ++ below) ≡ pushed w (taken n acc us) (words_of w (left n us) ++ below)
pushed_so w zero acc us below h = refl
pushed_so w (suc n) acc [] below h = absurd (omega (arith, h))
pushed_so w (suc n) acc (d ∷ us) below h = pushed_so w n (d ∷ acc) us below (omega (arith, h))

pub taken_long : (n : ℕ) (acc us : List Datum) → n ≤ length us → length (taken n acc us) ≡ n + length acc
taken_long zero acc us h = omega arith
taken_long (suc n) acc [] h = absurd (omega (arith, h))
taken_long (suc n) acc (d ∷ us) h = let e = taken_long n (d ∷ acc) us (omega (arith, h)) in omega (arith, e)

pub left_long : (n : ℕ) (us : List Datum) → n ≤ length us → n + length (left n us) ≡ length us
left_long zero us h = omega arith
left_long (suc n) [] h = absurd (omega (arith, h))
left_long (suc n) (d ∷ us) h = let e = left_long n us (omega (arith, h)) in omega (arith, e)

pub under_at : (w : Whole) (n : ℕ) (us vs : List Datum) (d : Datum) (below : List ℕ) → n ≤ length us → left n us ≡ d ∷ vs → slice_index (words_of w us ++ below) n ≡ word_of w d
under_at w zero us vs d below h e = ap (λ (z : List Datum). slice_index (words_of w z ++ below) 0) e
under_at w (suc n) [] vs d below h e = absurd (omega (arith, h))
under_at w (suc n) (x ∷ us) vs d below h e = under_at w n us vs d below (omega (arith, h)) e

-- ---- the source's call

-- the source calls g with these arguments next, and the code goes on so with its result
pub record CallsNext (r : Running) (k pc : ℕ) (g : Proc) (args : List Datum) (under : ℕ) (gives : Bool) (us ks : List Datum) (z : Next) : Type 0 where
  pub todo : List Item
  pub vs : List Datum
  pub ls : List Datum
  pub is : z ≡ Calls g args todo vs ls
  pub fits : ArgsFit r.w.ps g args
  pub reached : r.w.reached g ≡ true
  pub room : under + length args + r.w.needs 0 g ≤ r.b.size
  pub on : (v : Option Datum) → ResultFits r.w.ps g v → (gives ≡ true → is_there v ≡ true) × (length (on_values (kept_of gives v) us) ≤ r.b.size) × Follows r.w r.b k (pc + 1) (on_values (kept_of gives v) us) ks todo (on_values v vs) ls

pub calls_next : (r : Running) (k pc : ℕ) (g : Proc) (args : List Datum) (under : ℕ) (gives : Bool) (us ks : List Datum) (z : Next) (todo : List Item) (vs ls : List Datum)
    → Agrees r.w.ps r.b.parts (env_of r.w r.b) (proc_of r.b) (λ l. leapt ((meaning r.w).code (proc_of r.b)) l) (r.w.needs 0) r.w.reached r.b.size pc (Invokes g args under gives (pc + 1) us ks) z todo vs ls (Follows r.w r.b k) → CallsNext r k pc g args under gives us ks z
calls_next r k pc g args under gives us ks (Calls f xs todo2 vs2 ls2) todo vs ls a =
    record { todo = todo2; vs = vs2; ls = ls2; is = ap (λ y. Calls y xs todo2 vs2 ls2) (sym a.0) ∙ ap (λ y. Calls g y todo2 vs2 ls2) (sym a.1); fits = a.2; reached = a.3; room = a.4; on = a.5 }
calls_next r k pc g args under gives us ks (Returns v) todo vs ls a = absurd a
calls_next r k pc g args under gives us ks (Reads l todo2 vs2 ls2) todo vs ls a = absurd a
calls_next r k pc g args under gives us ks (Writes l e todo2 vs2 ls2) todo vs ls a = absurd a
calls_next r k pc g args under gives us ks (Jumps todo2 vs2 ls2) todo vs ls a = absurd a
calls_next r k pc g args under gives us ks (Leaps l ls2) todo vs ls a = absurd a
calls_next r k pc g args under gives us ks (Asks x todo2) todo vs ls a = absurd a
calls_next r k pc g args under gives us ks (Recovers l todo2 vs2 ls2) todo vs ls a = absurd a
calls_next r k pc g args under gives us ks (Errors x) todo vs ls a = absurd a
calls_next r k pc g args under gives us ks Lacks todo vs ls a = absurd a

-- ---- behind the call

module _ {r : Running} {i : Ins} {n k pc : ℕ} {ks : List Datum} {u : Machine} {q : ℕ} {frame : List ℕ} (s : Here r i n k pc ks u q frame) (words : ℕ) (weight : weight_of i ≡ words) (us : List Datum) (todo : List Item) (vs ls own : List Datum) where
  -- the result is kept, if it is wanted
  pub keeps : (gives : Bool) (v : Option Datum) → (gives ≡ true → is_there v ≡ true) → (at : ℕ) → LinesAt r.w r.h r.at at (kept_lines gives) → wrap_add at (2 * kept_words gives) ≡ wrap_add (place r.w r.b pc) (2 * words) → Follows r.w r.b k (pc + 1) (on_values (kept_of gives v) us) ks todo vs ls
      → (y : Machine) → AnswerIn r.w y v → y.r5 ≡ u.r5 → (p : ℕ) → p + kept_words gives ≤ unmarked_of i → at < 65536 → (j : ℕ) → j < n → Goes r j p (record y { pc = at; stack = words_of r.w us ++ frame }) todo vs ls own
  keeps true None e at code ends follows y answer r5 p made small j less = let z : is_there None ≡ true = e refl in absurd cc
  keeps false v e at code ends follows y answer r5 p made small j less =
      further s us words todo vs ls weight follows (let z : at ≡ wrap_add at (2 * 0) = omega (arith, small) in z ∙ ends) r5 refl (omega (arith, made)) j less
  keeps true (Some d) e at code ends follows y answer r5 p made small zero less =
      λ m x. stays r.w r.h p (record y { pc = at; stack = words_of r.w us ++ frame }) (doing r todo vs ls) r.cs own m (let f = few s in omega (arith, f, made)) x
  keeps true (Some d) e at code ends follows y answer r5 p made small (suc j) less =
      quietly r.w r.lays r.h r.sits (push (Register R0)) (record y { pc = at; stack = words_of r.w us ++ frame }) (doing r todo vs ls) r.cs own j p tt code.0 code.1 (let f = few s in omega (arith, f, made))
      (λ m x. (
        room s us (fits r.w r.b k (pc + 1) (d ∷ us) ks todo vs ls follows),
        (refl, refl, further s (d ∷ us) words todo vs ls weight follows ends r5 (ap (λ z. z ∷ (words_of r.w us ++ frame)) answer) (omega (arith, made)) j (omega (arith, less))),
      ))

  -- so many words are taken off first
  pub drops : (c : ℕ) (xs : List ℕ) → length xs ≡ c → (gives : Bool) (v : Option Datum) → (gives ≡ true → is_there v ≡ true) → (at : ℕ) → LinesAt r.w r.h r.at at (drop_words c ++ kept_lines gives) → wrap_add at (4 + 2 * kept_words gives) ≡ wrap_add (place r.w r.b pc) (2 * words)
      → Follows r.w r.b k (pc + 1) (on_values (kept_of gives v) us) ks todo vs ls → (y : Machine) → AnswerIn r.w y v → y.r5 ≡ u.r5 → (p : ℕ) → p + (1 + kept_words gives) ≤ unmarked_of i → (j : ℕ) → j < n → Goes r j p (record y { pc = at; stack = xs ++ (words_of r.w us ++ frame) }) todo vs ls own
  drops c xs count gives v e at code ends follows y answer r5 p made zero less =
      λ m x. stays r.w r.h p (record y { pc = at; stack = xs ++ (words_of r.w us ++ frame) }) (doing r todo vs ls) r.cs own m (let f = few s in omega (arith, f, made)) x
  drops c xs count gives v e at code ends follows y answer r5 p made (suc j) less =
      let two : wrap_add (wrap_add (wrap_add at 2) 2) (2 * kept_words gives) ≡ wrap_add at (4 + 2 * kept_words gives) = omega arith in
      let cut : drop c (xs ++ (words_of r.w us ++ frame)) ≡ words_of r.w us ++ frame = dropped c xs (words_of r.w us ++ frame) count in
      let size = joined_long xs (words_of r.w us ++ frame) in
      quietly r.w r.lays r.h r.sits (Sum Add (Immediate (wrap_mul 2 c)) (Register Sp)) (record y { pc = at; stack = xs ++ (words_of r.w us ++ frame) }) (doing r todo vs ls) r.cs own j p tt code.0 code.1 (let f = few s in omega (arith, f, made))
      (λ m x.
      let full = x.task.full in
      let high = r.sits.top in (
        c,
        omega (arith, full, size, count, high),
        omega (arith, size, count),
        (
          refl,
          refl,
          subst (λ (z : List ℕ). Goes r j (suc p) (record (flagged_sum (record y { pc = wrap_add (wrap_add at 2) 2 }) y.sp (wrap_mul 2 c)) { sp = wrap_add y.sp (wrap_mul 2 c); stack = z }) todo vs ls own) (sym cut)
              (keeps gives v e (wrap_add (wrap_add at 2) 2) code.2 (two ∙ ends) follows (record (flagged_sum (record y { pc = wrap_add (wrap_add at 2) 2 }) y.sp (wrap_mul 2 c)) { sp = wrap_add y.sp (wrap_mul 2 c) }) (answer_moves r.w y v answer (record (flagged_sum (record y { pc = wrap_add (wrap_add at 2) 2 }) y.sp (wrap_mul 2 c)) { sp = wrap_add y.sp (wrap_mul 2 c) }) refl) r5 (suc p) (omega (arith, made)) (omega arith) j (omega (arith, less))),
        ),
      ))
