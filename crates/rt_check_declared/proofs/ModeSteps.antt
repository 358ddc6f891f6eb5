-- One more mode of a list.
use Rattle.std.proofs.Common.{◌≡◌, ℕ, ◌+◌, ◌<◌, List, length, map, drop, get_or, refl, add-one}
use Rattle.std.proofs.Math.Seq.{drop-cons}
use Rattle.rt_modes.specs.declared.mode.Mode.{Mode}
use Rattle.rt_syntax_exprs.specs.declared.tree.WrittenMode.{WrittenMode}
use Rattle.rt_check_declared.specs.declared.site.Site.TheVariants as site
use Rattle.rt_check_declared.specs.Verdicts.{Verdict, after, all_from}
use Rattle.rt_check_declared.specs.Written.{Names, argument, judged}

pub one_more : (names : Names) (xs : List WrittenMode) (i : ℕ) (x : WrittenMode) (v : Verdict (List Mode)) → i < length xs → x ≡ get_or xs i x
    → all_from (after v (judged names x site.Argument)) (map argument (map (judged names) (drop (i + 1) xs))) ≡ all_from v (map argument (map (judged names) (drop i xs)))
one_more names xs i x v h e = rw (add-one, drop-cons xs i x, ← e) refl
