-- Sizes in numbers, and what is kept of them.
use Rattle.std.proofs.Common.{◌≡◌, ℕ, zero, suc, ◌+◌, ◌*◌, List, [], ◌∷◌, Option, Some, None, option_map, map, refl, sym, ◌∙◌}
use Rattle.rt_modes.specs.declared.mode.Field.{Field}
use Rattle.rt_modes.specs.declared.mode.Mode.{Mode, out-Mode, roll-Mode, map-Mode, the_lemmas}
use Rattle.rt_modes.specs.declared.mode.Mode.TheFolds.{ind-Mode, fold_out-Mode}
use Rattle.rt_modes.specs.declared.mode.Mode.TheOpen.{Mode-F}
use Rattle.rt_sizes.specs.declared.size.Size.{Size}
use Rattle.rt_sizes.specs.Sizes.{even, and_then, Table, within, fields_of, size_layer, size, field_begins, field_end, fields_end, record_layer}
use Rattle.rt_sizes.specs.Capped as kept
use Rattle.rt_sizes.specs.Capped.{counted, elements, behind, rounded, size_in, size_of}

pub out_roll : (l : Mode-F Mode) → out-Mode (roll-Mode l) ≡ l
out_roll l = search the_lemmas

-- ---- one level

pub size_at : (f : ℕ → Option ℕ) (m : Mode) (l : Mode-F Mode) → out-Mode m ≡ l → size f m ≡ size_layer f (map-Mode Mode (Option ℕ) (size f) l)
size_at f m l o = rw (fold_out-Mode, o) refl

pub kept_at : (s : List (Option Size)) (m : Mode) (l : Mode-F Mode) → out-Mode m ≡ l → size_of s m ≡ kept.size_layer s (map-Mode Mode (Option Size) (size_of s) l)
kept_at s m l o = rw (fold_out-Mode, o) refl

pub some_is : {A : Type 0} (x y : A) → Some x ≡ Some y → x ≡ y
some_is x y e = cc

-- ---- more sizes tell no less

pub more_mapped : {A B : Type 0} (op : A → B) (a b : Option A) → ((x : A) → a ≡ Some x → b ≡ Some x) → (y : B) → option_map op a ≡ Some y → option_map op b ≡ Some y
more_mapped op None b h y e = absurd cc
more_mapped op (Some x) b h y e = rw (h x refl) e

pub more_then : {A B : Type 0} (a b : Option A) (go go_more : A → Option B) (y : B) → ((x : A) → a ≡ Some x → b ≡ Some x) → ((x : A) → go x ≡ Some y → go_more x ≡ Some y) → and_then a go ≡ Some y → and_then b go_more ≡ Some y
more_then None b go go_more y h i e = absurd cc
more_then (Some x) b go go_more y h i e = rw (h x refl) (i x e)

module _ (f g : ℕ → Option ℕ) (up : (k n : ℕ) → f k ≡ Some n → g k ≡ Some n) where
  abbrev More : Mode → Type 0
  More m = (n : ℕ) → size f m ≡ Some n → size g m ≡ Some n

  abbrev MorePair : Type 0
  MorePair = (m : Mode) × More m

  more_level : (m : Mode) (y : Mode-F MorePair) → out-Mode m ≡ map-Mode MorePair Mode (λ e. e.0) y → More m
  more_level m Mode-F.Byte o n e = size_at g m Mode-F.Byte o ∙ sym (size_at f m Mode-F.Byte o) ∙ e
  more_level m Mode-F.Int o n e = size_at g m Mode-F.Int o ∙ sym (size_at f m Mode-F.Int o) ∙ e
  more_level m Mode-F.Frac o n e = size_at g m Mode-F.Frac o ∙ sym (size_at f m Mode-F.Frac o) ∙ e
  more_level m Mode-F.Label o n e = size_at g m Mode-F.Label o ∙ sym (size_at f m Mode-F.Label o) ∙ e
  more_level m (Mode-F.Ref a) o n e = size_at g m (Mode-F.Ref a.0) o ∙ sym (size_at f m (Mode-F.Ref a.0) o) ∙ e
  more_level m (Mode-F.RefArray a) o n e = size_at g m (Mode-F.RefArray a.0) o ∙ sym (size_at f m (Mode-F.RefArray a.0) o) ∙ e
  more_level m (Mode-F.Array k a) o n e = size_at g m (Mode-F.Array k a.0) o ∙ more_mapped (λ x. even (2 + k * x)) (size f a.0) (size g a.0) a.1 n (sym (size_at f m (Mode-F.Array k a.0) o) ∙ e)
  more_level m (Mode-F.Record r) o n e = size_at g m (Mode-F.Record r) o ∙ up r n (sym (size_at f m (Mode-F.Record r) o) ∙ e)
  more_level m (Mode-F.Proc ps None) o n e =
      size_at g m (Mode-F.Proc (map (λ (e : MorePair). e.0) ps) None) o ∙ sym (size_at f m (Mode-F.Proc (map (λ (e : MorePair). e.0) ps) None) o) ∙ e
  more_level m (Mode-F.Proc ps (Some r)) o n e =
      size_at g m (Mode-F.Proc (map (λ (e : MorePair). e.0) ps) (Some r.0)) o ∙ sym (size_at f m (Mode-F.Proc (map (λ (e : MorePair). e.0) ps) (Some r.0)) o) ∙ e

  pub more_size : (m : Mode) → More m
  more_size = ind-Mode More (λ x y is. more_level (roll-Mode x) y (out_roll x ∙ sym is))

  pub more_field_end : (field : Field) (n e : ℕ) → field_end f field n ≡ Some e → field_end g field n ≡ Some e
  more_field_end field n e is = more_mapped (λ x. field_begins f field n + x) (size f field.mode) (size g field.mode) (more_size field.mode) e is

  pub more_fields_end : (fs : List Field) (n e : ℕ) → fields_end f fs n ≡ Some e → fields_end g fs n ≡ Some e
  more_fields_end [] n e is = is
  more_fields_end (field ∷ fs) n e is =
      more_then (field_end f field n) (field_end g field n) (fields_end f fs) (fields_end g fs) e (more_field_end field n) (λ x. more_fields_end fs x e) is

  pub more_record : (o : Option (List Field)) (n : ℕ) → record_layer f o ≡ Some n → record_layer g o ≡ Some n
  more_record None n e = absurd cc
  more_record (Some fs) n e = more_mapped even (fields_end f fs 0) (fields_end g fs 0) (more_fields_end fs 0) n e

pub deeper : (t : Table) (d k n : ℕ) → within t d k ≡ Some n → within t (suc d) k ≡ Some n
unfolding within
deeper t zero k n e = absurd cc
deeper t (suc d) k n e = more_record (within t d) (within t (suc d)) (deeper t d) (fields_of t k) n e
