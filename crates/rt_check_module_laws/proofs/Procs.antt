-- Procedures of other modules are declared with a PROC mode.
use Rattle.std.proofs.Common.{◌≡◌, ℕ, Bool, true, false, List, [], map, Option, Some, None, refl, ap, ◌∙◌}
use Rattle.std.specs.List.{AllByRecursion}
use Rattle.rt_pieces.specs.declared.item.Item.{Item}
use Rattle.rt_grammar.specs.declared.at.At.{At}
use Rattle.rt_grammar.specs.Parts.{Part}
use Rattle.rt_syntax_exprs.specs.declared.limits.Context.{Context}
use Rattle.rt_syntax_exprs.specs.declared.tree.WrittenMode.{WrittenMode, out-WrittenMode, map-WrittenMode}
use Rattle.rt_syntax_exprs.specs.declared.tree.WrittenMode as written_lemmas
use Rattle.rt_syntax_exprs.specs.declared.tree.WrittenMode.TheFolds.{fold_out-WrittenMode}
use Rattle.rt_syntax_exprs.specs.declared.tree.WrittenMode.TheOpen.{WrittenMode-F}
use Rattle.rt_syntax_exprs.specs.declared.tree.WrittenMode.TheVariants as modes_written
use Rattle.rt_syntax_exprs.specs.Modes as lines
use Rattle.rt_syntax.specs.Derives.{language_limits, in_list}
use Rattle.rt_bricks.specs.declared.tree.Declaration.{Declaration}
use Rattle.rt_bricks.specs.declared.tree.Declaration.TheVariants as declares
use Rattle.rt_bricks.specs.declared.tree.Module.{Module}
use Rattle.rt_bricks.specs.Derives.{Derives}
use Rattle.rt_modes.specs.declared.mode.Mode.{Mode}
use Rattle.rt_modes.specs.declared.mode.Mode.TheVariants as mode
use Rattle.rt_check_declared.specs.declared.site.Site.{Site}
use Rattle.rt_check_declared.specs.Verdicts.{Verdict, fit, unfit, ◌>>=◌, both, all_from}
use Rattle.rt_check_declared.specs.Written.{Names, Anywhere, argument, optional, judge, judged}
use Rattle.rt_bricks_laws.proofs.Yields.{Yields, it, behind, thn}
use Rattle.rt_bricks_laws.proofs.Declarations.{Bricks, each_declared}

abbrev pub is_proc : WrittenMode-F WrittenMode → Bool
is_proc (WrittenMode-F.Proc ws r at) = true
is_proc _ = false

abbrev pub ModeIsProc : Declaration → Type 0
ModeIsProc (declares.ImportedProcedures x) = is_proc (out-WrittenMode x.mode) ≡ true
ModeIsProc _ = Unit {0}

proc_made : (ws : List WrittenMode) (r : Option WrittenMode) (at : At) → is_proc (out-WrittenMode (modes_written.Proc ws r at)) ≡ true
proc_made ws None at = let o : out-WrittenMode (modes_written.Proc ws None at) ≡ WrittenMode-F.Proc ws None at = search written_lemmas.the_lemmas in ap is_proc o
proc_made ws (Some w) at = let o : out-WrittenMode (modes_written.Proc ws (Some w) at) ≡ WrittenMode-F.Proc ws (Some w) at = search written_lemmas.the_lemmas in ap is_proc o

proc_yields : (c : Context) (levels parentheses : ℕ) (inner : ℕ → ℕ → Part WrittenMode) → Yields (lines.procedure c levels parentheses inner) (λ w. is_proc (out-WrittenMode w) ≡ true)
proc_yields c levels parentheses inner = behind (λ at. behind (λ _. behind (λ _. behind (λ ws. behind (λ _. behind (λ r. it (proc_made ws r at)))))))

bricks_proc : (c : Context) → Bricks c ModeIsProc
bricks_proc c = record {
  record_mode = behind (λ at. behind (λ _. behind (λ n. behind (λ _. behind (λ fs. behind (λ _. behind (λ _. it tt)))))));
  data_brick = λ x. behind (λ _. behind (λ n. behind (λ _. behind (λ ls. behind (λ _. behind (λ _. it tt))))));
  stack_brick = λ x. behind (λ _. behind (λ n. behind (λ words. behind (λ _. it tt))));
  result_first = λ x at. behind (λ r. behind (λ n. behind (λ fs. behind (λ b. it tt))));
  name_first = λ x at. behind (λ n. behind (λ fs. behind (λ r. behind (λ b. it tt))));
  imported_procedures = λ from at. thn (proc_yields c c.limits.modes c.limits.parentheses (lines.inside c c.limits.modes)) (λ md h. behind (λ ns. behind (λ _. it h)));
  imported_data = λ from at. behind (λ _. behind (λ n. behind (λ _. behind (λ ls. behind (λ _. behind (λ _. it tt))))));
  imported_stacks = λ at. behind (λ _. behind (λ ns. behind (λ _. it tt)));
}

pub modes_are_proc : (items : List Item) (m : Module) → Derives items m → AllByRecursion ModeIsProc m.declarations
modes_are_proc items m derived = each_declared ModeIsProc items (bricks_proc (in_list items language_limits)) m derived

-- ---- which mode it is

pub record IsProc (m : Mode) : Type 0 where
  pub parameters : List Mode
  pub result : Option Mode
  pub is : m ≡ mode.Proc parameters result

module _ (names : Names) where
  same_mode : (m n : Mode) → fit m ≡ fit n → n ≡ m
  same_mode m n e = cc

  proc_by : (x : Verdict (List Mode × Option Mode)) (m : Mode) → (x >>= λ y. fit (mode.Proc y.0 y.1)) ≡ fit m → IsProc m
  proc_by (fit y) m e = record { parameters = y.0; result = y.1; is = same_mode (mode.Proc y.0 y.1) m e }
  proc_by (unfit f fs) m e = absurd cc

  pub written_proc : (w : WrittenMode) (place : Site) (m : Mode) → is_proc (out-WrittenMode w) ≡ true → judged names w place ≡ fit m → IsProc m
  written_proc w place m p e = by_layer (out-WrittenMode w) refl p where
    at : (l : WrittenMode-F WrittenMode) → out-WrittenMode w ≡ l → judge names (map-WrittenMode WrittenMode Anywhere (judged names) l) place ≡ fit m
    at l o = ap (λ (f : Anywhere). f place) (let q : judge names (map-WrittenMode WrittenMode Anywhere (judged names) l) ≡ judged names w = rw (fold_out-WrittenMode, o) refl in q) ∙ e

    by_layer : (l : WrittenMode-F WrittenMode) → out-WrittenMode w ≡ l → is_proc l ≡ true → IsProc m
    by_layer (WrittenMode-F.Proc ws None a) o p = proc_by (both (all_from (fit []) (map argument (map (judged names) ws))) (optional None)) m (at (WrittenMode-F.Proc ws None a) o)
    by_layer (WrittenMode-F.Proc ws (Some r) a) o p = proc_by (both (all_from (fit []) (map argument (map (judged names) ws))) (optional (Some (judged names r)))) m (at (WrittenMode-F.Proc ws (Some r) a) o)
    by_layer (WrittenMode-F.Name i) o p = absurd cc
    by_layer (WrittenMode-F.Basic b a) o p = absurd cc
    by_layer (WrittenMode-F.Array n k a) o p = absurd cc
    by_layer (WrittenMode-F.Ref k a) o p = absurd cc
    by_layer (WrittenMode-F.RefArray k a) o p = absurd cc
