-- A text put into the table.
use Rattle.std.proofs.Common.{◌≡◌, ℕ, Bool, true, false, cond, List, [], ◌∷◌, Option, Some, None, length, ◌≤◌, refl, sym, ap, subst, ◌∙◌}
use Rattle.std.specs.Global.{Vec}
use Rattle.std.specs.Str.{bytes_eq}
use Rattle.std.specs.declared.cmp.Ordering.{Ordering}
use Rattle.std.specs.declared.cmp.Ordering.TheVariants.{Less, Equal, Greater}
use Rattle.std.specs.Ordering.{nat_cmp, is_eq, match_ordering}
use Rattle.std.specs.Cmp.Lexicographic.{slice_cmp}
use Rattle.std.specs.Map.{lookup}
use Rattle.std.specs.BTreeMap.{insert_entry, is_at}
use Rattle.std.proofs.lemmas.Map.Text.{is_eq-slice_cmp}
use Rattle.std.proofs.lemmas.Map.Lookups.{exact_bytes}
use Rattle.std.specs.Option.{option_map}
use Rattle.rt_items.specs.Lets.{with_let}
use Rattle.rt_items.specs.Texts.{Lets}
use Rattle.rt_items.specs.Ropes.{Kinds, text_at, Keeps, IsRoot}
use Rattle.rt_items.specs.Table.{name_in, with_root, IsNamed}

abbrev Entries : Type 0
Entries = List (Vec ℕ × Option ℕ)

abbrev at : List ℕ → Entries → Option (Option ℕ)
at q entries = lookup (is_at (λ (k : Vec ℕ). slice_cmp nat_cmp q k.items)) entries

abbrev into : Entries → Vec ℕ → Option ℕ → Entries
into entries key text = insert_entry (λ (x y : Vec ℕ). slice_cmp nat_cmp x.items y.items) entries key text

same_test : (q name : List ℕ) → is_eq (slice_cmp nat_cmp q name) ≡ bytes_eq q name
same_test q name = is_eq-slice_cmp q name

module _ (q : List ℕ) (key : Vec ℕ) (text : Option ℕ) where
  twice : (t : Bool) (old : Option (Option ℕ)) (next : Option (Option ℕ)) → cond t (Some text) next ≡ cond t (Some text) (cond t old next)
  twice true old next = refl
  twice false old next = refl

  by_order : (e : Vec ℕ × Option ℕ) (es : Entries) → at q (into es key text) ≡ cond (bytes_eq q key.items) (Some text) (at q es) → (o : Ordering) → slice_cmp nat_cmp key.items e.0.items ≡ o
      → at q (match_ordering o ((key, text) ∷ e ∷ es) ((e.0, text) ∷ es) (e ∷ into es key text)) ≡ cond (bytes_eq q key.items) (Some text) (at q (e ∷ es))
  by_order e es later Less is = ap (λ (t : Bool). cond t (Some text) (at q (e ∷ es))) (same_test q key.items)
  by_order e es later Equal is =
      let same : key.items ≡ e.0.items = exact_bytes key.items e.0.items is in
      let test : is_eq (slice_cmp nat_cmp q e.0.items) ≡ bytes_eq q key.items = same_test q e.0.items ∙ ap (bytes_eq q) (sym same) in
      ap (λ (t : Bool). cond t (Some text) (at q es)) test ∙ twice (bytes_eq q key.items) (Some e.1) (at q es) ∙ ap (λ (t : Bool). cond (bytes_eq q key.items) (Some text) (cond t (Some e.1) (at q es))) (sym test)
  by_order e es later Greater is = ap (λ (t : Option (Option ℕ)). cond (is_eq (slice_cmp nat_cmp q e.0.items)) (Some e.1) t) later ∙ apart (bytes_eq q key.items) refl
    where
      apart : (t : Bool) → bytes_eq q key.items ≡ t → cond (is_eq (slice_cmp nat_cmp q e.0.items)) (Some e.1) (cond t (Some text) (at q es)) ≡ cond t (Some text) (cond (is_eq (slice_cmp nat_cmp q e.0.items)) (Some e.1) (at q es))
      apart false h = refl
      apart true h =
          let same : q ≡ key.items = equal_bytes q key.items h in
          let greater : slice_cmp nat_cmp q e.0.items ≡ Greater = ap (λ (t : List ℕ). slice_cmp nat_cmp t e.0.items) same ∙ is in
          ap (λ (o : Ordering). cond (is_eq o) (Some e.1) (Some text)) greater
        where
          equal_bytes : (a b : List ℕ) → bytes_eq a b ≡ true → a ≡ b
          equal_bytes a b h = exact_bytes a b (by_eq (slice_cmp nat_cmp a b) (same_test a b ∙ h))
            where
              by_eq : (o : Ordering) → is_eq o ≡ true → o ≡ Equal
              by_eq Less h = absurd cc
              by_eq Equal h = refl
              by_eq Greater h = absurd cc

  inserted : (entries : Entries) → at q (into entries key text) ≡ cond (bytes_eq q key.items) (Some text) (at q entries)
  inserted [] = ap (λ (t : Bool). cond t (Some text) None) (same_test q key.items)
  inserted (e ∷ es) = by_order e es (inserted es) (slice_cmp nat_cmp key.items e.0.items) refl

pub put_is : (name : List ℕ) (key : Vec ℕ) (text : Option ℕ) (old new : Entries) → key.items ≡ name → new ≡ into old key text → (q : List ℕ) → at q new ≡ cond (bytes_eq q name) (Some text) (at q old)
put_is name key text old new is now q = ap (at q) now ∙ inserted q key text old ∙ ap (λ (t : List ℕ). cond (bytes_eq q t) (Some text) (at q old)) is

-- ---- the texts stay

module _ (old new : List Kinds) (keeps : Keeps old new) where
  pub text_kept : (root : Option ℕ) → IsRoot old root → text_at new root ≡ text_at old root
  text_kept None h = refl
  text_kept (Some i) h = keeps i h

  pub root_kept : (root : Option ℕ) → IsRoot old root → IsRoot new root
  root_kept None h = tt
  root_kept (Some i) h = subst (λ (t : Kinds). 1 ≤ length t) (sym (keeps i h)) h

  pub named_kept : (found : Option (Option ℕ)) → IsNamed old found → IsNamed new found
  named_kept None h = tt
  named_kept (Some root) h = root_kept root h

  pub lets_kept : (found : Option (Option ℕ)) → IsNamed old found → option_map (text_at new) found ≡ option_map (text_at old) found
  lets_kept None h = refl
  lets_kept (Some root) h = ap (λ (t : Kinds). let some : Option Kinds = Some t in some) (text_kept root h)

pub keeps_both : (a b c : List Kinds) → Keeps a b → Keeps b c → Keeps a c
keeps_both a b c first next i some = next i (subst (λ (t : Kinds). 1 ≤ length t) (sym (first i some)) some) ∙ first i some

-- ---- a name more

module _ (name key : List ℕ) (root : Option ℕ) (old new : Entries) (is : key ≡ name) (now : (q : List ℕ) → name_in new q ≡ with_root key root old q) where
  pub named_put : (texts : List Kinds) → IsRoot texts root → ((q : List ℕ) → IsNamed texts (name_in old q)) → (q : List ℕ) → IsNamed texts (name_in new q)
  named_put texts h others q = subst (λ (t : Option (Option ℕ)). IsNamed texts t) (sym (now q)) (by_name (bytes_eq q key))
    where
      by_name : (t : Bool) → IsNamed texts (cond t (Some root) (name_in old q))
      by_name true = h
      by_name false = others q

  pub lets_put : (texts : List Kinds) (text : Kinds) (lets : Lets) → text_at texts root ≡ text → ((q : List ℕ) → option_map (text_at texts) (name_in old q) ≡ lets q) → (q : List ℕ) → option_map (text_at texts) (name_in new q) ≡ with_let name text lets q
  lets_put texts text lets text-is others q = ap (option_map (text_at texts)) (now q) ∙ by_name (bytes_eq q key) ∙ ap (λ (t : List ℕ). with_let t text lets q) is
    where
      by_name : (t : Bool) → option_map (text_at texts) (cond t (Some root) (name_in old q)) ≡ cond t (Some text) (lets q)
      by_name true = ap (λ (t : Kinds). let some : Option Kinds = Some t in some) text-is
      by_name false = others q
