-- The mode that is written where a name stands may be that of a local.
use Rattle.std.proofs.Common.{◌≡◌, ℕ, Bool, true, false, List, Ok, if◌then◌else◌, refl, ap, subst}
use Rattle.rt_grammar.specs.declared.at.At.{At}
use Rattle.rt_grammar.specs.declared.at.Ident.{Ident}
use Rattle.rt_syntax_exprs.specs.declared.tree.WrittenMode.{WrittenMode}
use Rattle.rt_modes.specs.declared.mode.Mode.{Mode, out-Mode}
use Rattle.rt_tree_nodes.specs.declared.brick.Local.TheVariants as made
use Rattle.rt_exprs.specs.declared.scope.Meaning.{Meaning}
use Rattle.rt_exprs.specs.declared.scope.Meaning.TheVariants as meaning
use Rattle.rt_exprs.specs.Names.{find}
use Rattle.rt_check_faults.specs.Outcomes.{Outcome, ◌>>=◌}
use Rattle.rt_tree.specs.Modules.{local_stands}
use Rattle.rt_check_declared.specs.declared.site.Site.TheVariants as site
use Rattle.rt_check_declared.specs.declared.written.Resolved.TheVariants as resolved
use Rattle.rt_check_declared.specs.Verdicts as verdict
use Rattle.rt_check_declared.specs.Verdicts.{Verdict, fit, unfit, outcome}
use Rattle.rt_check_declared.specs.Written.{judged, length_fits, counted}
use Rattle.rt_check_bodies.specs.declared.tally.Tally.{Tally}
use Rattle.rt_exprs.specs.Sights.{Names, Sight, declared, with_name}
use Rattle.rt_check_bodies.specs.Sights.{variable_by, mode_in}
use Rattle.rt_check_bodies.specs.Statements.{labels_of}
use Rattle.rt_bricks_laws.specs.Shallow.{shallow}
use Rattle.rt_check_bodies_laws.specs.Standing.{AreRecords}
use Rattle.rt_check_bodies_laws.proofs.Each.{found_each, declared_each, one_more_each, all_labels_each}
use Rattle.rt_check_bodies_laws.proofs.Shallow.{written_stands}
use Rattle.rt_check_bodies_laws.specs.Named.{IsRecord, LevelNames, NamesRecords}

ok_mode : (a b : Mode) (o : Outcome Mode) → o ≡ Ok a → o ≡ Ok b → a ≡ b
ok_mode a b o e h = cc

-- ---- what is judged fit

record JudgedFit (v : Verdict Mode) (m : Mode) : Type 0 where
  is : v ≡ fit m
  long : length_fits (out-Mode m) ≡ true

by_length : (at : At) (k m : Mode) (b : Bool) → length_fits (out-Mode k) ≡ b → variable_by at (if b then resolved.Mode k else resolved.BadLength) ≡ Ok m → JudgedFit (fit k) m
by_length at k m true l e = let same : k ≡ m = ok_mode k m (Ok k) refl e in record { is = ap (λ (z : Mode). fit z) same; long = subst (λ (z : Mode). length_fits (out-Mode z) ≡ true) same l }
by_length at k m false l e = absurd cc

by_verdict : (at : At) (v : Verdict Mode) (m : Mode) → (outcome (verdict.◌>>=◌ v (λ k. fit (counted k))) >>= variable_by at) ≡ Ok m → JudgedFit v m
by_verdict at (fit k) m e = by_length at k m (length_fits (out-Mode k)) refl e
by_verdict at (unfit f fs) m e = absurd cc

module _ (n : ℕ) where
  are_records : (s : Sight) → NamesRecords n s → AreRecords n (find s)
  are_records s h w r e = found_each (IsRecord n) w s.levels (meaning.Mode r) h e

  -- the mode of a parameter or a local may stand
  pub mode_stands : (s : Sight) (at : At) (w : WrittenMode) (m : Mode) → NamesRecords n s → shallow w 100 8 ≡ true → mode_in s at w ≡ Ok m → local_stands n (made.Variable m) ≡ true
  mode_stands s at w m h l e =
      let j = by_verdict at (judged (find s) w site.Variable) m e in
      (written_stands (find s) n (are_records s h) w site.Variable m j.is).may 100 8 l j.long

  -- ---- more names

  pub declared_names : (w : List ℕ) (m : Meaning) (l : Names) → LevelNames n l → IsRecord n m → LevelNames n (declared w m l)
  declared_names w m l h e = declared_each (IsRecord n) w m l h e

  pub one_more_name : (s : Sight) (w : List ℕ) (m : Meaning) → NamesRecords n s → IsRecord n m → NamesRecords n (with_name w m s)
  one_more_name s w m h e = one_more_each (IsRecord n) s w m h e

  pub all_labels_named : (l : Names) (nss : List (List Ident)) (t : Tally) → LevelNames n l → LevelNames n (labels_of l nss t).0
  all_labels_named l nss t h = all_labels_each (IsRecord n) (λ k. tt) l nss t h
