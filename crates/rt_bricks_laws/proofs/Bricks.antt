-- How many items a procedure has at least, and that each procedure of a module has them.
use Rattle.std.proofs.Common.{◌≡◌, ℕ, ◌+◌, ◌-◌, ◌<◌, ◌≤◌, min, Bool, List, [], ◌∷◌, length, map, Option, Some, None, inl, inr, refl, sym, ap, ◌∙◌, subst, arith}
use Rattle.std.specs.List.{AllByRecursion}
use Rattle.rt_pieces.specs.declared.item.Item.{Item}
use Rattle.rt_pieces.specs.declared.item.Mark.TheVariants as m
use Rattle.rt_pieces.specs.declared.item.Word.TheVariants as w
use Rattle.rt_grammar.specs.declared.at.At.{At}
use Rattle.rt_grammar.specs.declared.at.Ident.{Ident}
use Rattle.rt_grammar.specs.Parts.{Part, nothing, ◌>>=◌, either, optional, Turns, stop, turn, push, mark}
use Rattle.rt_grammar.proofs.Tails.{Tail-length}
use Rattle.rt_syntax_exprs.specs.declared.limits.Context.{Context}
use Rattle.rt_syntax_exprs.specs.declared.tree.WrittenMode.{WrittenMode}
use Rattle.rt_syntax_exprs.specs.Tables.{begins_result}
use Rattle.rt_syntax.specs.declared.tree.Body.{Body}
use Rattle.rt_bricks.specs.declared.fields.Collected.{Collected}
use Rattle.rt_bricks.specs.declared.fields.Field.{Field}
use Rattle.rt_bricks.specs.declared.tree.Declaration.{Declaration}
use Rattle.rt_bricks.specs.declared.tree.Declaration.TheVariants as d
use Rattle.rt_bricks.specs.declared.tree.Fields.{Fields}
use Rattle.rt_bricks.specs.declared.tree.Import.{Import}
use Rattle.rt_bricks.specs.declared.tree.Module.{Module}
use Rattle.rt_bricks.specs.declared.tree.ProcedureBrick.{ProcedureBrick}
use Rattle.rt_bricks.specs.Declarations as line
use Rattle.rt_bricks.specs.Derives.{Derives}
use Rattle.rt_bricks.specs.Modules as modules
use Rattle.rt_bricks.proofs.DeclarationLines.{good_declaration}
use Rattle.rt_syntax.specs.Derives.{language_limits, in_list}
use Rattle.rt_bricks_laws.specs.Counts.{listed, names, in_fields, in_result, in_body, in_procedure}
use Rattle.rt_bricks_laws.specs.Counted.{Counted, ProceduresAreCounted}
use Rattle.rt_bricks_laws.proofs.Lists.{listed_push, last_more}
use Rattle.rt_bricks_laws.proofs.Parts.{Counts, done, one_item, thn, thn_from, counted_as, or_else, maybe, turned, turned_up, begun, opened, a_word, a_mark, a_number, a_place, an_ident}
use Rattle.rt_bricks_laws.proofs.Modes.{written_counts}
use Rattle.rt_bricks_laws.proofs.Statements.{body_counted}

-- ---- fields

abbrev in_all : List Fields → ℕ
in_all gs = listed (map in_fields gs)

collected : Collected → ℕ
collected x = in_all (line.all_fields x)

-- a field and the comma before it
in_field : Field → ℕ
in_field f = 2 + in_result f.mode

one_more : (x : Collected) (m : Option WrittenMode) (n : Ident) (at : At) → collected (line.with_name x m n at) ≤ collected x + in_field (record { mode = m; name = n; at = at })
unfolding collected in_field
one_more x None n at =
    let more : names (push x.last.names n) ≤ names x.last.names + 2 = listed_push (λ _. 1) x.last.names n in
    last_more in_fields x.before x.last (record { mode = x.last.mode; names = push x.last.names n; at = x.last.at }) 2 (omega arith)
one_more x (Some w) n at = listed_push in_fields (push x.before x.last) (record { mode = w; names = n ∷ []; at = at })

module _ (c : Context) (mode : Part WrittenMode) (h : Counts 0 mode (λ _. 1)) where
  first_counts : Counts 0 (line.first_field c mode) collected
  unfolding collected
  first_counts = thn (a_place c.total) (λ at. thn h (λ md. thn (an_ident c.total) (λ n. done (omega arith))))

  next_counts : Counts 0 (mark m.Comma >>= λ _. line.next_field c mode) in_field
  unfolding in_field
  next_counts = thn (a_mark _) (λ _. thn (a_place c.total) (λ at. thn {f = in_result} (maybe h (λ w. omega arith) (omega arith)) (λ md. thn (an_ident c.total) (λ n. done (omega arith)))))

  fields_count : (n : ℕ) → Counts 0 (line.fields_up_to c n mode) in_all
  unfolding collected
  fields_count n = thn first_counts (λ first. thn_from (turned_up line.with_field _ collected in_field next_counts (λ x f. one_more x f.mode f.name f.at) (n - 1) first (omega arith)) (λ all. done (omega arith)))

pub parameters_count : (c : Context) → Counts 0 (line.parameters c) (λ fs. 2 + in_all fs)
parameters_count c = thn (opened c.limits.parentheses (a_mark _)) (λ _. thn (or_else (fields_count c _ (written_counts c (c.limits.modes - 1) (c.limits.parentheses - 1)) c.limits.parameters) (done (omega arith))) (λ fs.
    thn (a_mark _) (λ _. done (omega arith))))

pub answer_counts : (c : Context) → Counts 0 (line.answer c) (λ _. 1)
answer_counts c = begun begins_result (written_counts c (c.limits.modes - 1) c.limits.parentheses)

pub any_answer_counts : (c : Context) → Counts 0 (optional (line.answer c)) in_result
any_answer_counts c = maybe (answer_counts c) (λ w. omega arith) (omega arith)

-- ---- a procedure

-- the item at which so many are left
abbrev item_at : ℕ → ℕ → ℕ
item_at total left = min (total - left) 65535

-- From n items on, up to ENDPROC: n items and more are passed, and so many are left.
record Closes (total n : ℕ) (x : Body × At) : Type 0 where
  left : ℕ
  some : 0 < left
  is : x.1.item ≡ item_at total left
  items : 1 + in_body x.0 + left ≤ n

closes : (c : Context) (l r : List Item) (x : Body × At) → (line.closing c).Fits l r x → Closes c.total (length l) x
closes c l r x (m, u, semi, (n, b, fits, (n2, at, (same, is), (o, v, (i, e, k), (q, w, (j, f, kk), (ends, made)))))) =
    let h = (a_mark _).counts l m u semi in
    let g = (body_counted c).counts m n b fits in
    let some = ap length e in
    let here = ap length same in
    record {
      left = length n;
      some = omega arith;
      is = ap (λ (y : Body × At). y.1.item) made ∙ ap (λ (y : At). y.item) is;
      items = let z = ap (λ (y : Body × At). in_body y.0) made in omega arith;
    }

-- From n items on, those of PROC to ENDPROC are passed.
abbrev Encloses : ℕ → ℕ → ProcedureBrick → Type 0
Encloses total n b = (left : ℕ) × (0 < left) × (b.ends.item ≡ item_at total left) × (in_procedure b + left ≤ 2 + n)

opens_at : (c : Context) (l r : List Item) (at : At) → (line.opens c).Fits l r at → (at.item ≡ item_at c.total (length l)) × (1 + length r ≤ length l)
opens_at c l r at (m, a, (same, is), (n, u, proc, (ends, made))) =
    let h = (opened c.limits.modes (a_word w.Proc)).counts m n u proc in
    let here = ap length same in
    let there = ap length ends in
    (ap (λ (y : At). y.item) (made ∙ is), omega arith)

-- what is read behind PROC
abbrev Behind : ℕ → ℕ → At → Declaration → Type 0
Behind total n at (d.Procedure b) = (b.opens ≡ at) × Encloses total n b
Behind total n at _ = ⊥

result_first : (c : Context) (x : At × Bool) (at : At) (l r : List Item) (y : Declaration) → (line.result_first c x at).Fits l r y → Behind c.total (length l) at y
result_first c x at l r y (m, a, answer, (n, name, named, (o, fs, fields, (p, b, closing, (ends, made))))) =
    let h1 = (answer_counts c).counts l m a answer in
    let h2 = (an_ident c.total).counts m n name named in
    let h3 = (parameters_count c).counts n o fs fields in
    let h4 = closes c o p b closing in
    let h = h4.items in
    subst (Behind c.total (length l) at) (sym made) (refl, (h4.left, h4.some, h4.is, omega arith))

name_first : (c : Context) (x : At × Bool) (at : At) (l r : List Item) (y : Declaration) → (line.name_first c x at).Fits l r y → Behind c.total (length l) at y
name_first c x at l r y (n, name, named, (o, fs, fields, (m, a, answer, (p, b, closing, (ends, made))))) =
    let h1 = (any_answer_counts c).counts o m a answer in
    let h2 = (an_ident c.total).counts l n name named in
    let h3 = (parameters_count c).counts n o fs fields in
    let h4 = closes c m p b closing in
    let h = h4.items in
    subst (Behind c.total (length l) at) (sym made) (refl, (h4.left, h4.some, h4.is, omega arith))

pub own_counts : (c : Context) → Counts 0 (line.own c) (λ _. 0)
own_counts c = thn (a_place c.total) (λ at. thn {f = λ _. 0} (or_else (thn (a_word _) (λ _. done (omega arith))) (done (omega arith))) (λ e. done (omega arith)))

-- all that precedes the list's end lies within the whole
counted_by : (total n m : ℕ) (at : At) (y : Declaration) → total < 65536 → n ≤ total → at.item ≡ item_at total n → 1 + m ≤ n → Behind total m at y → Counted total y
counted_by total n m at (d.Procedure b) few within is passed (opens, (left, some, ends, items)) =
    let at_opens : b.opens.item ≡ item_at total n = ap (λ (z : At). z.item) opens ∙ is in
    record { items = omega arith; there = omega arith }
counted_by total n m at (d.Record x) few within is passed h = absurd h
counted_by total n m at (d.Data x) few within is passed h = absurd h
counted_by total n m at (d.Stack x) few within is passed h = absurd h
counted_by total n m at (d.ImportedProcedures x) few within is passed h = absurd h
counted_by total n m at (d.ImportedData x) few within is passed h = absurd h
counted_by total n m at (d.ImportedStacks x) few within is passed h = absurd h

own_line : (c : Context) (q : At × Bool → At → Part Declaration) → ((x : At × Bool) (at : At) (l r : List Item) (y : Declaration) → (q x at).Fits l r y → Behind c.total (length l) at y)
    → c.total < 65536 → (l r : List Item) (y : Declaration) → length l ≤ c.total → (line.own c >>= λ x. line.opens c >>= λ at. q x at).Fits l r y → Counted c.total y
own_line c q h few l r y within (m, x, own, (n, at, proc, rest)) =
    let before = (own_counts c).counts l m x own in
    let opens = opens_at c m n at proc in
    counted_by c.total (length m) (length n) at y few (omega arith) opens.0 opens.1 (h x at n r y rest)

-- ---- what is no procedure

record Other (p : Part Declaration) : Type 0 where
  other : (l r : List Item) (y : Declaration) (total : ℕ) → p.Fits l r y → Counted total y

plain : (y : Declaration) → ((total : ℕ) → Counted total y) → Other (nothing y)
plain y h = record { other = λ l r z total (same, is). subst (Counted total) (sym is) (h total) }

behind : {A : Type 0} {p : Part A} {q : A → Part Declaration} → ((a : A) → Other (q a)) → Other (p >>= q)
behind h = record { other = λ l r y total (m, a, fits, rest). (h a).other m r y total rest }

or : {p q : Part Declaration} → Other p → Other q → Other (either p q)
or h k = record { other = λ l r y total. elim [ inl x ↦ h.other l r y total x | inr x ↦ k.other l r y total x ] }

no_record : (c : Context) → Other (line.record_mode c)
no_record c = behind (λ at. behind (λ _. behind (λ n. behind (λ _. behind (λ fs. behind (λ _. behind (λ _. plain _ (λ t. tt))))))))

no_data : (c : Context) (x : At × Bool) → Other (line.data_brick c x)
no_data c x = behind (λ _. behind (λ n. behind (λ _. behind (λ ls. behind (λ _. behind (λ _. plain _ (λ t. tt)))))))

no_stack : (c : Context) (x : At × Bool) → Other (line.stack_brick c x)
no_stack c x = behind (λ _. behind (λ n. behind (λ words. behind (λ _. plain _ (λ t. tt)))))

no_procedures : (c : Context) (from : Import) (at : At) → Other (line.imported_procedures c from at)
no_procedures c from at = behind (λ md. behind (λ ns. behind (λ _. plain _ (λ t. tt))))

no_imported : (c : Context) (from : Import) (at : At) → Other (line.imported_data c from at)
no_imported c from at = behind (λ _. behind (λ n. behind (λ _. behind (λ ls. behind (λ _. behind (λ _. plain _ (λ t. tt)))))))

no_stacks : (c : Context) (at : At) → Other (line.imported_stacks c at)
no_stacks c at = behind (λ _. behind (λ ns. behind (λ _. plain _ (λ t. tt))))

no_external : (c : Context) → Other (line.external_bricks c)
no_external c = or (behind (λ at. no_procedures c _ at)) (or (behind (λ at. no_imported c _ at)) (behind (λ at. no_stacks c at)))

no_service : (c : Context) → Other (line.service_bricks c)
no_service c = or (behind (λ at. no_procedures c _ at)) (behind (λ at. no_imported c _ at))

-- ---- the module

module _ (c : Context) (few : c.total < 65536) where
  own_counted : (l r : List Item) (y : Declaration) → length l ≤ c.total → (line.own_brick c).Fits l r y → Counted c.total y
  own_counted l r y within (inl (m, x, own, rest)) = (no_data c x).other m r y c.total rest
  own_counted l r y within (inr (inl (m, x, own, rest))) = (no_stack c x).other m r y c.total rest
  own_counted l r y within (inr (inr (inl fits))) = own_line c (line.result_first c) (result_first c) few l r y within fits
  own_counted l r y within (inr (inr (inr fits))) = own_line c (line.name_first c) (name_first c) few l r y within fits

  declaration_counted : (l r : List Item) (y : Declaration) → length l ≤ c.total → (line.declaration c).Fits l r y → Counted c.total y
  declaration_counted l r y within (inl fits) = (no_record c).other l r y c.total fits
  declaration_counted l r y within (inr (inl fits)) = (no_external c).other l r y c.total fits
  declaration_counted l r y within (inr (inr (inl fits))) = (no_service c).other l r y c.total fits
  declaration_counted l r y within (inr (inr (inr fits))) = own_counted l r y within fits

  all_counted : {xs ys : List Declaration} {l r : List Item} → length l ≤ c.total → AllByRecursion (Counted c.total) xs → Turns push (line.declaration c) xs l r ys → AllByRecursion (Counted c.total) ys
  all_counted within h stop = h
  all_counted within h (turn {a = xs} {b = y} {l = l} {m = m} fits more) =
      let less = Tail-length ((good_declaration c).tails l m y fits) in
      all_counted (omega arith) (one_behind xs y h (declaration_counted l m y within fits)) more
    where
      one_behind : (xs : List Declaration) (y : Declaration) → AllByRecursion (Counted c.total) xs → Counted c.total y → AllByRecursion (Counted c.total) (push xs y)
      one_behind [] y h k = (k, tt)
      one_behind (x ∷ xs) y h k = (h.0, one_behind xs y h.1 k)

-- ---- what stands before the declarations

pub semicolon_counts : Counts 0 modules.to_semicolon (λ _. 0)
semicolon_counts = thn {f = λ _. 0} (turned _ _ (λ _. 0) (λ _. 1) one_item (λ a b. omega arith) (omega arith)) (λ _. counted_as (a_mark _) (λ _. omega arith))

numbers_count : Counts 0 modules.numbers (λ _. 0)
numbers_count = thn a_number (λ _. turned _ _ (λ _. 0) (λ _. 1) (thn (a_mark _) (λ _. thn a_number (λ _. done (omega arith)))) (λ a b. omega arith) (omega arith))

option_counts : (c : Context) → Counts 0 (modules.option c) (λ _. 0)
option_counts c = thn (a_word _) (λ _. thn (opened c.limits.parentheses (a_mark _)) (λ _. thn numbers_count (λ _. thn (a_mark _) (λ _. counted_as semicolon_counts (λ _. omega arith)))))

pub options_count : (c : Context) → Counts 0 (modules.skipped (modules.option c)) (λ _. 0)
options_count c = turned _ _ (λ _. 0) (λ _. 0) (option_counts c) (λ a b. omega arith) (omega arith)

pub procedures_counted : ProceduresAreCounted
unfolding Derives
procedures_counted items it few (m0, at, (same, place), (m1, u, title, (m2, n, named, (m3, v, semi, (m4, z, opts, (m5, ds, all, (ends, is))))))) =
    let c : Context = in_list items language_limits in
    let h1 = (a_word w.Title).counts m0 m1 u title in
    let h2 = (an_ident c.total).counts m1 m2 n named in
    let h3 = semicolon_counts.counts m2 m3 v semi in
    let h4 = (options_count c).counts m3 m4 z opts in
    let here = ap length same in
    subst (λ (y : Module). AllByRecursion (Counted c.total) y.declarations) (sym is) (all_counted c few (omega arith) tt all)
