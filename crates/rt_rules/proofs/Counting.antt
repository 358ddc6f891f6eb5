-- Delays are counted down row by row.
use Rattle.std.proofs.Common.{◌≡◌, ℕ, zero, suc, ◌+◌, ◌-◌, ◌<◌, ◌≤◌, Bool, true, false, List, [], ◌∷◌, ◌++◌, length, get_or, set, take, drop, refl, sym, ◌∙◌, ap, subst, arith, if◌then◌else◌}
use Rattle.std.proofs.lemmas.List.{drop_all, take_all, append-nil}
use Rattle.rt_rules.specs.declared.task.TaskRow.{TaskRow}
use Rattle.rt_rules.specs.Roster.{Roster, no_row, row, IsTask}
use Rattle.rt_rules.specs.Rules.{is_due, counted, stamp_after, counted_rows, stamp_after_rows, count_down}
use Rattle.rt_rules.specs.Code.{count_task}
use Rattle.rt_rules.proofs.Rows.{length-with_row}

-- the rows of a roster are counted down before row `at`
pub record Counting (old now : Roster) (at : ℕ) : Type 0 where
  pub rows : take at now.tasks ++ counted_rows now.stamp (drop at now.tasks) ≡ counted_rows old.stamp old.tasks
  pub stamps : stamp_after_rows now.stamp (drop at now.tasks) ≡ stamp_after_rows old.stamp old.tasks
  pub same : length now.tasks ≡ length old.tasks
  pub room : now.stamp ≤ old.stamp + at
  pub flags : now.flags ≡ old.flags
  pub owners : now.owners ≡ old.owners
  pub clock : now.clock ≡ old.clock

rows_step : (at : ℕ) (ts : List TaskRow) (stamp : ℕ) → at < length ts → take at ts ++ counted_rows stamp (drop at ts) ≡ take (suc at) (set ts at (counted stamp (get_or ts at no_row))) ++ counted_rows (stamp_after stamp (get_or ts at no_row)) (drop (suc at) (set ts at (counted stamp (get_or ts at no_row))))
rows_step at [] stamp h = absurd (omega arith)
rows_step zero (t ∷ ts) stamp h = refl
rows_step (suc at) (t ∷ ts) stamp h = ap (λ rs. t ∷ rs) (rows_step at ts stamp (omega arith))

stamps_step : (at : ℕ) (ts : List TaskRow) (stamp : ℕ) → at < length ts → stamp_after_rows stamp (drop at ts) ≡ stamp_after_rows (stamp_after stamp (get_or ts at no_row)) (drop (suc at) (set ts at (counted stamp (get_or ts at no_row))))
stamps_step at [] stamp h = absurd (omega arith)
stamps_step zero (t ∷ ts) stamp h = refl
stamps_step (suc at) (t ∷ ts) stamp h = stamps_step at ts stamp (omega arith)

stamp_up : (stamp : ℕ) (b : Bool) → (if b then stamp + 1 else stamp) ≤ stamp + 1
stamp_up stamp true = omega arith
stamp_up stamp false = omega arith

-- task i is counted down
pub counting_step : (old now : Roster) (i : ℕ) → Counting old now (i - 1) → IsTask now i → Counting old (count_task now i) i
counting_step old now i c h =
    let at = i - 1 in
    let next : suc at ≡ i = omega arith in
    let counts : Counting old (count_task now i) (suc at) = record {
      rows = sym (rows_step at now.tasks now.stamp (omega arith)) ∙ c.rows;
      stamps = sym (stamps_step at now.tasks now.stamp (omega arith)) ∙ c.stamps;
      same = length-with_row now i _ ∙ c.same;
      room = let up = stamp_up now.stamp (is_due (row now i).state) in omega (arith, c.room);
      flags = c.flags;
      owners = c.owners;
      clock = c.clock;
    } in
    subst (λ k. Counting old (count_task now i) k) next counts

pub counting_none : (r : Roster) → Counting r r 0
counting_none r =
    record {
      rows = refl;
      stamps = refl;
      same = refl;
      room = omega arith;
      flags = refl;
      owners = refl;
      clock = refl;
    }

made : List TaskRow → List Bool → List ℕ → ℕ → ℕ → Roster
made t f o c s = record { tasks = t; flags = f; owners = o; clock = c; stamp = s }

same_made : (t u : List TaskRow) (f g : List Bool) (o p : List ℕ) (c d s z : ℕ) → t ≡ u → f ≡ g → o ≡ p → c ≡ d → s ≡ z → made t f o c s ≡ made u g p d z
same_made t u f g o p c d s z a b e h k = cc

roster_from : (a b : Roster) → a.tasks ≡ b.tasks → a.flags ≡ b.flags → a.owners ≡ b.owners → a.clock ≡ b.clock → a.stamp ≡ b.stamp → a ≡ b
unfolding made
roster_from a b t f o c s = same_made _ _ _ _ _ _ _ _ _ _ t f o c s

-- all rows are counted down
pub counting_all : (old now : Roster) (n : ℕ) → Counting old now n → length now.tasks ≤ n → now ≡ count_down old
counting_all old now n c h =
    let rest : drop n now.tasks ≡ [] = drop_all n now.tasks h in
    let front : take n now.tasks ≡ now.tasks = take_all n now.tasks h in
    roster_from now (count_down old)
    (sym (append-nil now.tasks) ∙ (ap (λ ts. ts ++ []) (sym front) ∙ (ap (λ ts. take n now.tasks ++ counted_rows now.stamp ts) (sym rest) ∙ c.rows)))
    c.flags c.owners c.clock
    (ap (λ ts. stamp_after_rows now.stamp ts) (sym rest) ∙ c.stamps)
