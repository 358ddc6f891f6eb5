-- Parts one behind the other.
use Rattle.std.proofs.Common.{◌≡◌, List, [], map, ap, subst, ◌∙◌}
use Rattle.rt_grammar.specs.declared.at.Ident.{Ident}
use Rattle.rt_bricks.specs.declared.tree.ProcedureBrick.{ProcedureBrick}
use Rattle.rt_syntax.specs.declared.tree.Stmt.{Stmt}
use Rattle.rt_tree_nodes.specs.declared.statement.Body.{Body as BodyMade}
use Rattle.rt_tree_nodes.specs.declared.statement.Labelled.{Labelled}
use Rattle.rt_check_bodies.specs.declared.tally.Tally.{Tally}
use Rattle.rt_check_bodies.specs.Parts.{Part, Gave, ◌>>=◌}
use Rattle.rt_exprs.specs.Sights.{Names, Sight, within}
use Rattle.rt_check_bodies.specs.declared.answer.Answer.{Answer}
use Rattle.rt_check_bodies.specs.Statements.{line, labels_of, labels_at, own_labels, in_order, sequence}
use Rattle.rt_check_bodies.specs.Procedures.{head_in, Opens, closed_body, body_in, nothing_yet}
use Rattle.rt_check_bodies.proofs.Lines.{all_labels}

-- what a part gave is what the next one goes on with
pub bind_is : {A B : Type 0} (p : Part A) (f : A → Part B) (x : A) (t u : Tally) → Gave x t (p u) → f x t ≡ (p >>= f) u
bind_is p f x t u g = λ i. f (g.0 i) (g.1 i)

pub pair_is : {A : Type 0} (x : A) (t : Tally) (p : A × Tally) → Gave x t p → (x, t) ≡ p
pair_is x t p g = λ i. (g.0 i, g.1 i)

pub sequence_is : (r : Answer) (s inside : Sight) (xs : List Stmt) (made : List Labelled) (empty l : Names) (t0 t1 t2 : Tally)
    → empty ≡ [] → Gave l t1 (labels_of empty (map own_labels xs) t0) → inside ≡ within l s
    → Gave made t2 (in_order inside t0.labels [] (map (line r) xs) t1) → Gave made t2 (sequence s (map (line r) xs) t0)
sequence_is r s inside xs made empty l t0 t1 t2 e g n h =
    let labels : Gave l t1 (labels_of [] (map labels_at (map (line r) xs)) t0) =
    subst (λ (nss : List (List Ident)). Gave l t1 (labels_of [] nss t0)) (all_labels r xs) (subst (λ (m : Names). Gave l t1 (labels_of m (map own_labels xs) t0)) e g) in
    subst (λ (y : List Labelled × Tally). Gave made t2 y)
    (ap (λ (z : Sight). in_order z t0.labels [] (map (line r) xs) t1) n ∙ bind_is (labels_of [] (map labels_at (map (line r) xs))) (λ m. in_order (within m s) t0.labels [] (map (line r) xs)) l t1 t0 labels)
    h

pub body_in_is : (s inside : Sight) (b : ProcedureBrick) (r : Answer) (t0 t1 : Tally) → Opens inside r t1 s (head_in s b t0) → closed_body r b inside t1 ≡ body_in s b t0
body_in_is s inside b r t0 t1 h = λ i. closed_body (h.1 i) b (h.0 i) (h.2 i)

pub whole_is : (s : Sight) (b : ProcedureBrick) (made : BodyMade) (t t0 : Tally) → Gave made t (body_in s b t0) → t0 ≡ nothing_yet → (made, t) ≡ body_in s b nothing_yet
whole_is s b made t t0 g e = pair_is made t (body_in s b t0) g ∙ ap (body_in s b) e
