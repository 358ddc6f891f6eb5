-- The routines of quotients and remainders serve, as code calls them.
use Rattle.std.proofs.Common.{◌≡◌, ℕ, suc, ◌+◌, List, ◌∷◌, length, map, drop, sym, ap, ◌∙◌, subst, arith}
use Rattle.rt_tree_nodes.specs.declared.operators.Op2.{Op2}
use Rattle.rt_tree_nodes.specs.declared.operators.Op2.TheVariants as two
use Rattle.rt_tree_nodes.specs.declared.store.Datum.{Datum}
use Rattle.rt_work.specs.declared.numbers.Share.{Share}
use Rattle.rt_work.specs.declared.numbers.Share.TheVariants.{Gives, Fails}
use Rattle.rt_work.specs.Numbers.{divided}
use Rattle.rt_meaning.specs.Step.{Act}
use Rattle.pdp_symbolic.specs.Machine.{Machine}
use Rattle.rt_templates.specs.Supported.{quotient, remainder}
use Rattle.rt_follows.specs.Whole.{Whole, Home, Lays, Sits}
use Rattle.rt_follows.specs.Held.{CodeAt}
use Rattle.rt_follows.specs.Runs.{Tracks, SharesOut, Divides}
use Rattle.rt_support_meaning.specs.Support.{marked, support_code, SupportAt}
use Rattle.rt_follows.specs.Runs.{Serves, HasDividend}
use Rattle.rt_support_meaning.proofs.Pieces.{code_drop, code_take}
use Rattle.rt_support_meaning.proofs.Divisions.{started, quotient_serves, remainder_serves}

shares_long : (s : Share) (rest : List ℕ) (v : Machine) → SharesOut s rest v → length v.stack ≡ suc (length rest)
shares_long (Gives x) rest v h = ap length h.0
shares_long (Fails n) rest v h = ap length h.0

tail_is : (x y : ℕ) (xs ys : List ℕ) → x ∷ xs ≡ y ∷ ys → xs ≡ ys
tail_is x y xs ys e = cc

head_is : (x y : ℕ) (xs ys : List ℕ) → x ∷ xs ≡ y ∷ ys → x ≡ y
head_is x y xs ys e = cc

-- what comes of a division is the same however its operands are taken off the stack
shares_so : (o : Op2) (back : ℕ) (stack rest : List ℕ) (x : ℕ) (u v : Machine) → stack ≡ x ∷ rest → SharesOut (divided o x u.r1) rest v → Divides o back stack u v
shares_so o back stack rest x u v is h y ys e =
    let same : x ∷ rest ≡ y ∷ ys = sym is ∙ e in
    subst (λ (z : List ℕ). SharesOut (divided o y u.r1) z v) (tail_is x y rest ys same) (subst (λ z. SharesOut (divided o z u.r1) rest v) (head_is x y rest ys same) h)

module _ (w : Whole) (lays : Lays w) (h : Home) (sits : Sits w h) (support : SupportAt w h) (k : ℕ) where
  quotients : CodeAt w h 126 (map marked quotient)
  quotients = code_take w h 7 126 (drop 47 support_code) (code_drop w h 47 0 support_code support.code)

  remainders : CodeAt w h 144 (map marked remainder)
  remainders = code_take w h 15 144 (drop 54 support_code) (code_drop w h 54 0 support_code support.code)

  from_entry : (p : ℕ) (u : Machine) (q back x : ℕ) (stack rest : List ℕ) (a : Act) (cs : List Act) (own : List Datum) → u.pc ≡ p → u.stack ≡ back ∷ stack → stack ≡ x ∷ rest → Tracks w h k q (started p u back x rest) a cs own → Tracks w h k q u a cs own
  from_entry p u q back x stack rest a cs own pc has is t =
      subst (λ (s : List ℕ). Tracks w h k q (record u { stack = s }) a cs own) (sym (has ∙ ap (λ s. back ∷ s) is))
      (subst (λ z. Tracks w h k q (record u { pc = z; stack = back ∷ x ∷ rest }) a cs own) (sym pc) t)

  pub quotient_routine_serves : Serves w h k 13 11 HasDividend (Divides two.Divide)
  quotient_routine_serves u q back stack a cs own pc has dividend room goes =
      let x : ℕ = dividend.0 in
      let rest : List ℕ = dividend.1 in
      let is : stack ≡ x ∷ rest = dividend.2 in
      from_entry 126 u q back x stack rest a cs own (pc ∙ support.entries 13 (omega arith) (omega arith)) has is
      (quotient_serves w lays h sits quotients remainders k u back x rest a cs own (q + 11) room q (omega arith)
      (λ j r v less few at r5 shares. goes j r v less few at (shares_long (divided two.Divide x u.r1) rest v shares ∙ sym (ap length is)) r5 (shares_so two.Divide back stack rest x u v is shares)))

  pub remainder_routine_serves : Serves w h k 14 11 HasDividend (Divides two.Mod)
  remainder_routine_serves u q back stack a cs own pc has dividend room goes =
      let x : ℕ = dividend.0 in
      let rest : List ℕ = dividend.1 in
      let is : stack ≡ x ∷ rest = dividend.2 in
      from_entry 144 u q back x stack rest a cs own (pc ∙ support.entries 14 (omega arith) (omega arith)) has is
      (remainder_serves w lays h sits quotients remainders k u back x rest a cs own (q + 11) room q (omega arith)
      (λ j r v less few at r5 shares. goes j r v less few at (shares_long (divided two.Mod x u.r1) rest v shares ∙ sym (ap length is)) r5 (shares_so two.Mod back stack rest x u v is shares)))
