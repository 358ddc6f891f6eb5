-- Texts in parts.
use Rattle.std.proofs.Common.{◌≡◌, ℕ, zero, suc, ◌+◌, ◌*◌, ◌-◌, ◌<◌, ◌≤◌, List, [], ◌∷◌, ◌++◌, length, Some, None, refl, sym, ap, subst, ◌∙◌, arith, length-append, append_assoc, zero-add}
use Rattle.std.proofs.lemmas.List.{append-nil, map-append}
use Rattle.rt_pieces.specs.declared.item.Item.{Item}
use Rattle.rt_items.specs.declared.rope.Join.{Join}
use Rattle.rt_items.specs.Lets.{items_at}
use Rattle.std.specs.List.{slice_get}
use Rattle.rt_pieces.specs.declared.item.ItemKind.TheVariants as kind
use Rattle.rt_items.specs.declared.rope.Node.{Node}
use Rattle.rt_items.specs.declared.rope.Node.TheVariants as node
use Rattle.rt_items.specs.Ropes.{Kinds, nth_text, node_text, grown, IsBuilt, AreBuilt, Keeps, rest_text, steps_left, one_number}

-- ---- a text stays

nth_kept : (ts us : List Kinds) (i : ℕ) → 1 ≤ length (nth_text ts i) → nth_text (ts ++ us) i ≡ nth_text ts i
nth_kept [] us i h = absurd (omega arith)
nth_kept (t ∷ ts) us zero h = refl
nth_kept (t ∷ ts) us (suc i) h = nth_kept ts us i h

nth_last : (ts : List Kinds) (t : Kinds) → nth_text (ts ++ t ∷ []) (length ts) ≡ t
nth_last [] t = refl
nth_last (s ∷ ts) t = nth_last ts t

grown_kept : (done : List Kinds) (ns : List Node) (i : ℕ) → 1 ≤ length (nth_text done i) → nth_text (grown done ns) i ≡ nth_text done i
grown_kept done [] i h = refl
grown_kept done (n ∷ ns) i h =
    let same : nth_text (done ++ node_text done n ∷ []) i ≡ nth_text done i = nth_kept done (node_text done n ∷ []) i h in
    grown_kept (done ++ node_text done n ∷ []) ns i (subst (λ (t : Kinds). 1 ≤ length t) (sym same) h) ∙ same

-- ---- one node more

pub grown_more : (done : List Kinds) (ns : List Node) (n : Node) → grown done (ns ++ n ∷ []) ≡ grown done ns ++ node_text (grown done ns) n ∷ []
grown_more done [] n = refl
grown_more done (m ∷ ns) n = grown_more (done ++ node_text done m ∷ []) ns n

pub built_more : (done : List Kinds) (ns : List Node) (n : Node) → AreBuilt done ns → IsBuilt (grown done ns) n → AreBuilt done (ns ++ n ∷ [])
built_more done [] n h is = (is, tt)
built_more done (m ∷ ns) n h is = (h.0, built_more (done ++ node_text done m ∷ []) ns n h.1 is)

grown_length : (done : List Kinds) (ns : List Node) → length (grown done ns) ≡ length done + length ns
grown_length done [] = omega arith
grown_length done (n ∷ ns) = omega (arith, grown_length (done ++ node_text done n ∷ []) ns, length-append done (node_text done n ∷ []))

pub all_length : (ns : List Node) → length (grown [] ns) ≡ length ns
all_length ns = omega (arith, grown_length [] ns)

-- ---- the node of a number

not_empty : (done : List Kinds) (n : Node) → IsBuilt done n → 1 ≤ length (node_text done n)
not_empty done (node.Run run) h = h
not_empty done (node.Join join) h = omega (arith, length-append (nth_text done join.left) (nth_text done join.right))

abbrev IsLater : List Kinds → List Kinds → Type 0
IsLater done whole = (i : ℕ) → 1 ≤ length (nth_text done i) → nth_text whole i ≡ nth_text done i

text_later : (done whole : List Kinds) (n : Node) → IsLater done whole → IsBuilt done n → node_text whole n ≡ node_text done n
text_later done whole (node.Run run) later h = refl
text_later done whole (node.Join join) later h =
    ap (λ (t : Kinds). t ++ nth_text whole join.right) (later join.left h.0) ∙ ap (λ (t : Kinds). nth_text done join.left ++ t) (later join.right h.1)

built_later : (done whole : List Kinds) (n : Node) → IsLater done whole → IsBuilt done n → IsBuilt whole n
built_later done whole (node.Run run) later h = h
built_later done whole (node.Join join) later h =
    let left = later join.left h.0 in
    let right = later join.right h.1 in (
      subst (λ (t : Kinds). 1 ≤ length t) (sym left) h.0,
      subst (λ (t : Kinds). 1 ≤ length t) (sym right) h.1,
      h.2 ∙ ap (λ (t : Kinds). length t + length (nth_text done join.right)) (sym left) ∙ ap (λ (t : Kinds). length (nth_text whole join.left) + length t) (sym right),
    )

abbrev IsNode : List Kinds → ℕ → Node → Type 0
IsNode whole i n = (nth_text whole i ≡ node_text whole n) × IsBuilt whole n

node_behind : (done : List Kinds) (ns : List Node) (i : ℕ) (n : Node) → AreBuilt done ns → slice_get ns i ≡ Some n → IsNode (grown done ns) (length done + i) n
node_behind done [] i n h is = absurd cc
node_behind done (m ∷ ns) zero n h is =
    let same : m ≡ n = cc in
    let longer : List Kinds = done ++ node_text done m ∷ [] in
    let whole : List Kinds = grown longer ns in
    let later : IsLater done whole = λ j some. grown_kept done (m ∷ ns) j some in
    let some : 1 ≤ length (node_text done m) = not_empty done m h.0 in
    let there : nth_text longer (length done) ≡ node_text done m = nth_last done (node_text done m) in
    let kept : nth_text whole (length done) ≡ nth_text longer (length done) = grown_kept longer ns (length done) (subst (λ (t : Kinds). 1 ≤ length t) (sym there) some) in
    let place : length done + 0 ≡ length done = omega arith in
    subst (λ (x : Node). IsNode whole (length done + 0) x) same
    (ap (nth_text whole) place ∙ kept ∙ there ∙ sym (text_later done whole m later h.0), built_later done whole m later h.0)
node_behind done (m ∷ ns) (suc i) n h is =
    let longer : List Kinds = done ++ node_text done m ∷ [] in
    let place : length longer + i ≡ length done + suc i = omega (arith, length-append done (node_text done m ∷ [])) in
    subst (λ (j : ℕ). IsNode (grown longer ns) j n) place (node_behind longer ns i n h.1 is)

pub node_is : (ns : List Node) (i : ℕ) (n : Node) → AreBuilt [] ns → slice_get ns i ≡ Some n → IsNode (grown [] ns) i n
node_is ns i n h is = subst (λ (j : ℕ). IsNode (grown [] ns) j n) (zero-add i) (node_behind [] ns i n h is)

nth_past : (ts : List Kinds) (i : ℕ) → length ts ≤ i → nth_text ts i ≡ []
nth_past [] i h = refl
nth_past (t ∷ ts) zero h = absurd (omega arith)
nth_past (t ∷ ts) (suc i) h = nth_past ts i (omega arith)

get_past : (ns : List Node) (i : ℕ) → slice_get ns i ≡ None → length ns ≤ i
get_past [] i h = omega arith
get_past (n ∷ ns) zero h = absurd cc
get_past (n ∷ ns) (suc i) h = let later = get_past ns i h in omega arith

pub none_is : (ns : List Node) (i : ℕ) → slice_get ns i ≡ None → nth_text (grown [] ns) i ≡ []
none_is ns i h = nth_past (grown [] ns) i (let past = get_past ns i h in omega (arith, all_length ns))

-- ---- writing out

pub rest_more : (texts : List Kinds) (is : List ℕ) (i : ℕ) → rest_text texts (is ++ i ∷ []) ≡ nth_text texts i ++ rest_text texts is
rest_more texts [] i = sym (append-nil (nth_text texts i))
rest_more texts (j ∷ is) i = ap (λ (t : Kinds). t ++ nth_text texts j) (rest_more texts is i) ∙ append_assoc (nth_text texts i) (rest_text texts is) (nth_text texts j)

pub steps_more : (texts : List Kinds) (is : List ℕ) (i : ℕ) → steps_left texts (is ++ i ∷ []) ≡ steps_left texts is + (2 * length (nth_text texts i) - 2 + 1)
steps_more texts [] i = refl
steps_more texts (j ∷ is) i = omega (arith, steps_more texts is i)

module _ (texts : List Kinds) (rest new : List ℕ) (at : ℕ) (is : rest ≡ new ++ at ∷ []) where
  steps_are : steps_left texts rest ≡ steps_left texts new + (2 * length (nth_text texts at) - 2 + 1)
  steps_are = ap (steps_left texts) is ∙ steps_more texts new at

  rest_are : rest_text texts rest ≡ nth_text texts at ++ rest_text texts new
  rest_are = ap (rest_text texts) is ∙ rest_more texts new at

  pub fewer : steps_left texts new < steps_left texts rest
  fewer = omega (arith, steps_are)

  both : ℕ → ℕ → List ℕ
  both left right = (new ++ right ∷ []) ++ left ∷ []

  pub fewer_joined : (left right : ℕ) (last : List ℕ) → last ≡ (new ++ right ∷ []) ++ left ∷ [] → nth_text texts at ≡ nth_text texts left ++ nth_text texts right → 1 ≤ length (nth_text texts left) → 1 ≤ length (nth_text texts right) → steps_left texts last < steps_left texts rest
  fewer_joined left right last last-is text some more =
      omega (arith, steps_are, ap (steps_left texts) last-is, steps_more texts (new ++ right ∷ []) left, steps_more texts new right, ap length text, length-append (nth_text texts left) (nth_text texts right), some, more)

  module _ (n from to : ℕ) (out whole : List Item) (so_far : out ++ items_at n from to (rest_text texts rest) ≡ whole) where
    pub goes_none : nth_text texts at ≡ [] → out ++ items_at n from to (rest_text texts new) ≡ whole
    goes_none none = ap (λ (t : Kinds). out ++ items_at n from to t) (sym (rest_are ∙ ap (λ (t : Kinds). t ++ rest_text texts new) none)) ∙ so_far

    pub goes_run : (run : Kinds) (more : List Item) → nth_text texts at ≡ run → more ≡ out ++ items_at n from to run → more ++ items_at n from to (rest_text texts new) ≡ whole
    goes_run run more text more-is =
        ap (λ (t : List Item). t ++ items_at n from to (rest_text texts new)) more-is ∙ append_assoc out (items_at n from to run) (items_at n from to (rest_text texts new))
        ∙ ap (λ (t : List Item). out ++ t) (sym (map-append _ run (rest_text texts new))) ∙ ap (λ (t : Kinds). out ++ items_at n from to t) (sym (rest_are ∙ ap (λ (t : Kinds). t ++ rest_text texts new) text)) ∙ so_far

    pub goes_joined : (left right : ℕ) (last : List ℕ) → last ≡ (new ++ right ∷ []) ++ left ∷ [] → nth_text texts at ≡ nth_text texts left ++ nth_text texts right → out ++ items_at n from to (rest_text texts last) ≡ whole
    goes_joined left right last last-is text =
        ap (λ (t : Kinds). out ++ items_at n from to t)
        (ap (rest_text texts) last-is ∙ rest_more texts (new ++ right ∷ []) left ∙ ap (λ (t : Kinds). nth_text texts left ++ t) (rest_more texts new right)
        ∙ sym (append_assoc (nth_text texts left) (nth_text texts right) (rest_text texts new)) ∙ ap (λ (t : Kinds). t ++ rest_text texts new) (sym text) ∙ sym rest_are)
        ∙ so_far

-- ---- a node that was found

module _ (ns : List Node) (i : ℕ) (built : AreBuilt [] ns) where
  pub size_some : (n : Node) (size : ℕ) → Some n ≡ slice_get ns i → ((done : List Kinds) → IsBuilt done n → size ≡ length (node_text done n)) → size ≡ length (nth_text (grown [] ns) i)
  size_some n size found is = let at = node_is ns i n built (sym found) in is (grown [] ns) at.1 ∙ ap length (sym at.0)

  pub run_text : (run : Kinds) → Some (node.Run run) ≡ slice_get ns i → nth_text (grown [] ns) i ≡ run
  run_text run found = (node_is ns i (node.Run run) built (sym found)).0

  pub join_text : (join : Join) → Some (node.Join join) ≡ slice_get ns i → nth_text (grown [] ns) i ≡ nth_text (grown [] ns) join.left ++ nth_text (grown [] ns) join.right
  join_text join found = (node_is ns i (node.Join join) built (sym found)).0

  pub join_some : (join : Join) → Some (node.Join join) ≡ slice_get ns i → (1 ≤ length (nth_text (grown [] ns) join.left)) × (1 ≤ length (nth_text (grown [] ns) join.right))
  join_some join found = let built = (node_is ns i (node.Join join) built (sym found)).1 in (built.0, built.1)

  no_number : (ks : Kinds) → 2 ≤ length ks → None ≡ one_number ks
  no_number [] h = absurd (omega arith)
  no_number (k ∷ []) h = absurd (omega arith)
  no_number (kind.Word w ∷ l ∷ ks) h = refl
  no_number (kind.Name s ∷ l ∷ ks) h = refl
  no_number (kind.Number v ∷ l ∷ ks) h = refl
  no_number (kind.Text s ∷ l ∷ ks) h = refl
  no_number (kind.Mark m ∷ l ∷ ks) h = refl

  pub join_number : (join : Join) → Some (node.Join join) ≡ slice_get ns i → None ≡ one_number (nth_text (grown [] ns) i)
  join_number join found =
      let some = join_some join found in
      no_number (nth_text (grown [] ns) i) (omega (arith, ap length (join_text join found), length-append (nth_text (grown [] ns) join.left) (nth_text (grown [] ns) join.right), some.0, some.1))

-- ---- one text more

module _ (old new : List Kinds) (text : Kinds) (is : new ≡ old ++ text ∷ []) where
  pub there : (at : ℕ) → at ≡ length old → nth_text new at ≡ text
  there at at-is = ap (nth_text new) at-is ∙ ap (λ (t : List Kinds). nth_text t (length old)) is ∙ nth_last old text

  pub keeps_more : Keeps old new
  keeps_more i some = ap (λ (t : List Kinds). nth_text t i) is ∙ nth_kept old (text ∷ []) i some
