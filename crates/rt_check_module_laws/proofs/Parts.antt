-- Items that are declared, as the fields of a data brick.
use Rattle.std.proofs.Common.{◌≡◌, ℕ, zero, suc, List, [], ◌∷◌, map, Some, refl, sym, ap, ◌∙◌, subst}
use Rattle.std.specs.Prelude.{slice_get}
use Rattle.std.specs.List.{AllByRecursion}
use Rattle.rt_grammar.specs.declared.at.Ident.{Ident}
use Rattle.rt_modes.specs.declared.mode.Field.{Field}
use Rattle.rt_modes.specs.declared.mode.Mode.{Mode}
use Rattle.rt_tree_nodes.specs.Scopes.{field_at}
use Rattle.rt_check_declared.specs.declared.written.Resolved.{Resolved}
use Rattle.rt_check_declared.specs.declared.written.Resolved.TheVariants as resolved
use Rattle.rt_check_declared.specs.Verdicts.{Verdict, fit, unfit}
use Rattle.rt_check_declared.specs.Fields.{faults_by}
use Rattle.rt_check_declared.specs.declared.parts.Given.{Given}
use Rattle.rt_check_declared.specs.declared.parts.Given.TheVariants as given
use Rattle.rt_check_declared.specs.declared.parts.Part.{Part}
use Rattle.rt_check_declared.specs.Parts.{line_by, part}
use Rattle.rt_check_declared.specs.Totals.{with_field, all_fields}
use Rattle.rt_bricks_laws.proofs.AllLists.{some_is, no_some, all_mapped, unmapped_nothing}

module _ (P : List ℕ → Mode → Type 0) where
  abbrev pub GivenHas : List ℕ → Given → Type 0
  GivenHas n (given.Mode m) = P n m
  GivenHas n given.Unknown = ⊥

  -- an item is declared with a mode of which this holds
  abbrev pub PartHas : Part → Type 0
  PartHas p = GivenHas p.name p.has

  abbrev pub FieldHas : Field → Type 0
  FieldHas f = P f.name f.mode

  -- the fields that items are
  pub record AreFields (ps : List Part) : Type 0 where
    pub fields : List Field
    pub is : all_fields ps ≡ Some fields
    pub has : AllByRecursion FieldHas fields
    pub at : (j : ℕ) (p : Part) (m : Mode) → slice_get ps j ≡ Some p → p.has ≡ given.Mode m → field_at fields j ≡ Some m

  given_is : (a b : Mode) (g : Given) → g ≡ given.Mode a → g ≡ given.Mode b → a ≡ b
  given_is a b g e h = cc

  more_fields : (p : Part) (ps : List Part) → PartHas p → AreFields ps → AreFields (p ∷ ps)
  more_fields p ps h z = by_given p.has refl h where
    by_given : (g : Given) → p.has ≡ g → GivenHas p.name g → AreFields (p ∷ ps)
    by_given given.Unknown e h = absurd h
    by_given (given.Mode m) e h = record {
      fields = record { name = p.name; mode = m } ∷ z.fields;
      is = ap (λ (g : Given). with_field p.name g (all_fields ps)) e ∙ ap (with_field p.name (given.Mode m)) z.is;
      has = (h, z.has);
      at = found;
    } where
      found : (j : ℕ) (q : Part) (n : Mode) → slice_get (p ∷ ps) j ≡ Some q → q.has ≡ given.Mode n → field_at (record { name = p.name; mode = m } ∷ z.fields) j ≡ Some n
      found zero q n a b = ap (λ (k : Mode). Some k) (given_is m n p.has e (ap (λ (k : Part). k.has) (some_is p q a) ∙ b))
      found (suc j) q n a b = z.at j q n a b

  pub are_fields : (ps : List Part) → AllByRecursion PartHas ps → AreFields ps
  are_fields [] h = record { fields = []; is = refl; has = tt; at = λ j p m e q. no_some p e }
  are_fields (p ∷ ps) h = more_fields p ps h.0 (are_fields ps h.1)

  -- ---- what a line declares, where no fault stands in it

  pub line_has : (v : Verdict Resolved) (ids : List Ident) → faults_by v ids ≡ [] → ((m : Mode) → v ≡ fit (resolved.Mode m) → (n : List ℕ) → P n m) → AllByRecursion PartHas (map (part (line_by v)) ids)
  line_has (fit (resolved.Mode m)) ids e h = all_mapped PartHas (part (line_by (fit (resolved.Mode m)))) ids (λ i. h m refl i.name)
  line_has (fit resolved.BadLength) ids e h = subst (λ (is : List Ident). AllByRecursion PartHas (map (part (line_by (fit resolved.BadLength))) is)) (sym (unmapped_nothing _ ids e)) tt
  line_has (unfit f fs) ids e h = absurd cc
