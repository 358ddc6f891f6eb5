-- The strings of a module rise.
use Rattle.std.proofs.Common.{◌≡◌, ℕ, ◌-◌, ◌<◌, ◌≤◌, Bool, List, [], ◌∷◌, length, inl, inr, refl, sym, subst, arith}
use Rattle.std.specs.List.{AllByRecursion}
use Rattle.rt_pieces.specs.declared.item.Item.{Item}
use Rattle.rt_grammar.specs.declared.at.At.{At}
use Rattle.rt_grammar.specs.Parts.{Part, push}
use Rattle.rt_grammar.proofs.Tails.{Tail, all, Tail-length}
use Rattle.rt_syntax_exprs.specs.declared.limits.Context.{Context}
use Rattle.rt_syntax.specs.Derives.{language_limits, in_list}
use Rattle.rt_bricks.specs.declared.tree.Declaration.{Declaration}
use Rattle.rt_bricks.specs.declared.tree.Import.{Import}
use Rattle.rt_bricks.specs.Declarations as line
use Rattle.rt_bricks.specs.Derives.{Derives}
use Rattle.rt_bricks.specs.Modules as modules
use Rattle.rt_bricks.proofs.DeclarationLines.{good_declaration}
use Rattle.rt_syntax.specs.Strings.{Texts, in_body}
use Rattle.rt_bricks_laws.proofs.Parts.{Counts, done, thn as counts_then, opened, a_word, a_mark, a_place, an_ident}
use Rattle.rt_bricks_laws.proofs.Bricks.{own_counts, parameters_count, answer_counts, any_answer_counts, semicolon_counts, options_count}
use Rattle.rt_bricks_laws.specs.Strings.{Rise, in_declaration, in_declarations, StringsRise, IsItemText, StringsAreItems, StringsAreShort}
use Rattle.rt_bricks_laws.proofs.Yields.{Yields}
use Rattle.rt_bricks_laws.proofs.Yields as y
use Rattle.rt_bricks_laws.proofs.Strings.{Strung, it, thn, behind, wider, turned, short_texts}
use Rattle.rt_bricks_laws.proofs.StringBodies.{derived_body_rises}
use Rattle.rt_bricks_laws.proofs.StringStarts.{lines_rise}

-- ---- declarations that hold no strings

abbrev Quiet : Declaration → Type 0
Quiet x = (found : Texts) → in_declaration x found ≡ found

quiet_record : (c : Context) → Yields (line.record_mode c) Quiet
quiet_record c = y.behind (λ at. y.behind (λ _. y.behind (λ n. y.behind (λ _. y.behind (λ fs. y.behind (λ _. y.behind (λ _. y.it (λ found. refl))))))))

quiet_stack : (c : Context) (x : At × Bool) → Yields (line.stack_brick c x) Quiet
quiet_stack c x = y.behind (λ _. y.behind (λ n. y.behind (λ words. y.behind (λ _. y.it (λ found. refl)))))

quiet_procedures : (c : Context) (from : Import) (at : At) → Yields (line.imported_procedures c from at) Quiet
quiet_procedures c from at = y.behind (λ md. y.behind (λ ns. y.behind (λ _. y.it (λ found. refl))))

quiet_imported : (c : Context) (from : Import) (at : At) → Yields (line.imported_data c from at) Quiet
quiet_imported c from at = y.behind (λ _. y.behind (λ n. y.behind (λ _. y.behind (λ ls. y.behind (λ _. y.behind (λ _. y.it (λ found. refl)))))))

quiet_stacks : (c : Context) (at : At) → Yields (line.imported_stacks c at) Quiet
quiet_stacks c at = y.behind (λ _. y.behind (λ ns. y.behind (λ _. y.it (λ found. refl))))

quiet_external : (c : Context) → Yields (line.external_bricks c) Quiet
quiet_external c = y.or_else (y.behind (λ at. quiet_procedures c _ at)) (y.or_else (y.behind (λ at. quiet_imported c _ at)) (y.behind (λ at. quiet_stacks c at)))

quiet_service : (c : Context) → Yields (line.service_bricks c) Quiet
quiet_service c = y.or_else (y.behind (λ at. quiet_procedures c _ at)) (y.behind (λ at. quiet_imported c _ at))

-- ---- bricks that hold some

module _ (c : Context) (few : c.total < 65536) where
  data_rises : (x : At × Bool) (found : Texts) → Strung c.total (line.data_brick c x) found (λ b. in_declaration b found)
  data_rises x found = behind (a_word _) (λ _. behind (an_ident c.total) (λ n. behind (a_mark _) (λ _. thn (lines_rise c few found) (λ ls. behind (a_word _) (λ _. behind (a_mark _) (λ _. it refl))))))

  closing_rises : (found : Texts) → Strung c.total (line.closing c) found (λ x. in_body x.0 found)
  closing_rises found = behind (a_mark _) (λ _. thn (derived_body_rises c few found) (λ b. behind (a_place c.total) (λ at. behind (a_word _) (λ _. behind (a_mark _) (λ _. it refl)))))

  result_first_rises : (x : At × Bool) (at : At) (found : Texts) → Strung c.total (line.result_first c x at) found (λ b. in_declaration b found)
  result_first_rises x at found = behind (answer_counts c) (λ r. behind (an_ident c.total) (λ n. behind (parameters_count c) (λ fs. thn (closing_rises found) (λ b. it refl))))

  name_first_rises : (x : At × Bool) (at : At) (found : Texts) → Strung c.total (line.name_first c x at) found (λ b. in_declaration b found)
  name_first_rises x at found = behind (an_ident c.total) (λ n. behind (parameters_count c) (λ fs. behind (any_answer_counts c) (λ r. thn (closing_rises found) (λ b. it refl))))

  opens_counts : Counts 0 (line.opens c) (λ _. 1)
  opens_counts = counts_then (a_place c.total) (λ at. counts_then (opened c.limits.modes (a_word _)) (λ _. done (omega arith)))

  -- ---- the lines

  record Rises (l r : List Item) (x : Declaration) : Type 0 where
    rise : (found : Texts) → length l ≤ c.total → Rise 0 (c.total - length l) found → Rise 0 (c.total - length r) (in_declaration x found)
    theirs : (items : List Item) → length items ≡ c.total → (found : Texts) → Tail items l → AllByRecursion (IsItemText items) found → AllByRecursion (IsItemText items) (in_declaration x found)

  -- a declaration without strings
  quiet_rises : (l r : List Item) (x : Declaration) → length r ≤ length l → Quiet x → Rises l r x
  quiet_rises l r x less quiet = record {
    rise = λ found within rise. subst (Rise 0 (c.total - length r)) (sym (quiet found)) (wider 0 (c.total - length l) (c.total - length r) found (omega arith) rise);
    theirs = λ items n found from known. subst (AllByRecursion (IsItemText items)) (sym (quiet found)) known;
  }

  own_line : (l r : List Item) (x : Declaration) (p : Part Declaration) → p.Fits l r x → ((found : Texts) → Strung c.total p found (λ b. in_declaration b found)) → Rises l r x
  own_line l r x p fits h = record {
    rise = λ found within rise. (h found).strung l r x within fits rise;
    theirs = λ items n found from known. (h found).theirs items n l r x from fits known;
  }

  own_rises : (l r : List Item) (x : Declaration) → length r ≤ length l → (line.own_brick c).Fits l r x → Rises l r x
  own_rises l r x less (inl fits) = own_line l r x _ fits (λ found. behind (own_counts c) (λ o. data_rises o found))
  own_rises l r x less (inr (inl (m, o, own, rest))) = quiet_rises l r x less ((quiet_stack c o).yields m r x rest)
  own_rises l r x less (inr (inr (inl fits))) = own_line l r x _ fits (λ found. behind (own_counts c) (λ o. behind opens_counts (λ at. result_first_rises o at found)))
  own_rises l r x less (inr (inr (inr fits))) = own_line l r x _ fits (λ found. behind (own_counts c) (λ o. behind opens_counts (λ at. name_first_rises o at found)))

  declaration_by : (l r : List Item) (x : Declaration) → length r ≤ length l → (line.declaration c).Fits l r x → Rises l r x
  declaration_by l r x less (inl fits) = quiet_rises l r x less ((quiet_record c).yields l r x fits)
  declaration_by l r x less (inr (inl fits)) = quiet_rises l r x less ((quiet_external c).yields l r x fits)
  declaration_by l r x less (inr (inr (inl fits))) = quiet_rises l r x less ((quiet_service c).yields l r x fits)
  declaration_by l r x less (inr (inr (inr fits))) = own_rises l r x less fits

  declaration_rises : (found : Texts) → Strung c.total (line.declaration c) found (λ x. in_declaration x found)
  declaration_rises found = record {
    tails = (good_declaration c).tails;
    strung = λ l r x within fits rise. (declaration_by l r x (Tail-length ((good_declaration c).tails l r x fits)) fits).rise found within rise;
    theirs = λ items n l r x from fits known. (declaration_by l r x (Tail-length ((good_declaration c).tails l r x fits)) fits).theirs items n found from known;
  }

  declarations_push : (ds : List Declaration) (x : Declaration) (found : Texts) → in_declarations (push ds x) found ≡ in_declaration x (in_declarations ds found)
  declarations_push [] x found = refl
  declarations_push (z ∷ zs) x found = declarations_push zs x (in_declaration z found)

  module_rises : Strung c.total (modules.module_of c) [] (λ x. in_declarations x.declarations [])
  module_rises = behind (a_place c.total) (λ at. behind (a_word _) (λ _. behind (an_ident c.total) (λ n. behind semicolon_counts (λ _. behind (options_count c) (λ _.
      thn (turned c.total push _ (λ ds. in_declarations ds []) in_declaration declaration_rises (λ ds x. declarations_push ds x []) refl) (λ ds. it refl))))))

pub strings_rise : StringsRise
unfolding Derives
strings_rise items x few derived =
    let c : Context = in_list items language_limits in
    let none : 0 ≤ length items - length items = omega arith in
    let all : length items - 0 ≡ length items = omega arith in
    subst (λ (n : ℕ). Rise 0 n (in_declarations x.declarations [])) all ((module_rises c few).strung items [] x (omega arith) derived none)

pub strings_are_items : StringsAreItems
unfolding Derives
strings_are_items items x few derived = (module_rises (in_list items language_limits) few).theirs items refl items [] x all derived tt

pub strings_are_short : StringsAreShort
strings_are_short items x few range derived = short_texts items (in_declarations x.declarations []) range (strings_are_items items x few derived)
