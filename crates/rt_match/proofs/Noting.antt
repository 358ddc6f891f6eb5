-- The map of names, brick by brick.
use Rattle.std.proofs.Common.{◌≡◌, ℕ, suc, Bool, true, false, not, is_some, List, [], length, Option, Some, None, refl, sym, ap, ◌∙◌, subst, inr, cond, arith}
use Rattle.std.specs.BTreeMap.{is_at}
use Rattle.std.specs.Cmp.Lexicographic.{slice_cmp}
use Rattle.std.specs.Map.{lookup}
use Rattle.std.specs.Ordering.{nat_cmp}
use Rattle.std.specs.Str.{bytes_eq}
use Rattle.std.proofs.lemmas.Slice.Eq.{bytes_eq-Decides}
use Rattle.rt_modes.specs.declared.mode.ModeTable.{ModeTable}
use Rattle.rt_object.specs.declared.object.Brick.{Brick}
use Rattle.rt_match.specs.declared.entries.Entry.{Entry}
use Rattle.rt_match.specs.Matching as matching
use Rattle.rt_match.specs.Matching.{Kind, Signature, System, module_of, HasBrick, IsEntry, Duplicates, IsFirst, FirstIn}
use Rattle.rt_match.specs.Signatures.{signature}
use Rattle.rt_match.specs.Walking.{Names, entry_in, is_ent, Clear, IsNamed, IsNoted, Noted}
use Rattle.rt_match.proofs.Walking.{before_step, before_turn, has_one, clear_start, clear_step, clear_turn}
use Rattle.rt_match.proofs.Whose.{ent_whose, ent_not}

named_is : (sys : System) (name : List ℕ) (m b : ℕ) (s : Signature) → IsNamed sys name m b s → HasBrick sys m b s
named_is sys name m b s h = h.0.is

twice_is : (sys : System) (m b : ℕ) (s : Signature) → Duplicates sys m b s → HasBrick sys m b s
twice_is sys m b s h = h.second.is

-- what is noted of an entry holds further on
module _ (sys : System) (e : Entry) (name : List ℕ) (m b : ℕ) (h : IsNoted sys e name m b) where
  noted_step : IsNoted sys e name m (suc b)
  noted_step = record { signature = h.signature; is = h.is; named = h.named; before = before_step e.module e.brick m b h.before }

  noted_further : IsNoted sys e name (suc m) 0
  noted_further = record { signature = h.signature; is = h.is; named = h.named; before = before_turn e.module e.brick m b h.before }

pub noted_start : (sys : System) (map : Names) → map.entries ≡ [] → Noted sys map 1 0
noted_start sys map h = record {
  found = λ name e f. let g : entry_in map name ≡ None = ap (lookup (is_at (λ k. slice_cmp nat_cmp name k.now))) h in absurd cc;
  none = λ name f. clear_start sys (IsNamed sys name) (named_is sys name);
  clear = clear_start sys (Duplicates sys) (twice_is sys);
}

module _ (sys : System) (map : Names) (m b : ℕ) (old : Noted sys map m b) where
  -- a brick that is no ENT brick
  pub noted_other : (s : Signature) → HasBrick sys m b s → (s.kind ≡ matching.Ent → ⊥) → Noted sys map m (suc b)
  noted_other s is other = record {
    found = λ name e f. noted_step sys e name m b (old.found name e f);
    none = λ name f. clear_step sys (IsNamed sys name) (named_is sys name) m b (old.none name f) (λ t case. no_entry t case.0);
    clear = clear_step sys (Duplicates sys) (twice_is sys) m b old.clear (λ t case. no_entry t case.second);
  }
    where
      no_entry : (t : Signature) → IsEntry sys m b t → ⊥
      no_entry t e = other (ap (λ (x : Signature). x.kind) (has_one sys m b s t is e.is) ∙ e.kind)

  -- an ENT brick of a new name
  pub noted_new : (new : Names) (e : Entry) (s : Signature) → HasBrick sys m b s → s.kind ≡ matching.Ent → e.module ≡ m → e.brick ≡ b → entry_in map s.name ≡ None
      → ((n : List ℕ) → entry_in new n ≡ cond (bytes_eq s.name n) (Some e) (entry_in map n)) → Noted sys new m (suc b)
  noted_new new e s is ent em eb none_yet updates = record {
    found = λ name f h. found_by name f (bytes_eq s.name name) refl (sym (updates name) ∙ h);
    none = λ name h. none_by name (bytes_eq s.name name) refl (sym (updates name) ∙ h);
    clear = clear_step sys (Duplicates sys) (twice_is sys) m b old.clear (λ t d. twice t d);
  }
    where
      found_by : (name : List ℕ) (f : Entry) (q : Bool) → bytes_eq s.name name ≡ q → cond q (Some e) (entry_in map name) ≡ Some f → IsNoted sys f name m (suc b)
      found_by name f true same h =
          let ef : e ≡ f = cc in
          let fm : f.module ≡ m = ap (λ (x : Entry). x.module) (sym ef) ∙ em in
          let fb : f.brick ≡ b = ap (λ (x : Entry). x.brick) (sym ef) ∙ eb in
          record {
            signature = s;
            is = record {
              is = subst (λ (x : ℕ). HasBrick sys x f.brick s) (sym fm) (subst (λ (y : ℕ). HasBrick sys m y s) (sym fb) is);
              kind = ent;
            };
            named = (bytes_eq-Decides s.name name).0 same;
            before = inr (fm, omega arith);
          }
      found_by name f false apart h = noted_step sys f name m b (old.found name f h)

      none_by : (name : List ℕ) (q : Bool) → bytes_eq s.name name ≡ q → cond q (Some e) (entry_in map name) ≡ None → Clear sys (IsNamed sys name) m (suc b)
      none_by name true same h = absurd cc
      none_by name false apart h = clear_step sys (IsNamed sys name) (named_is sys name) m b (old.none name h) (λ t case.
          let st : s ≡ t = has_one sys m b s t is case.0.is in
          let equal : s.name ≡ name = ap (λ (x : Signature). x.name) st ∙ case.1 in
          let yes : bytes_eq s.name name ≡ true = (bytes_eq-Decides s.name name).1 equal in
          absurd cc)

      twice : (t : Signature) → Duplicates sys m b t → ⊥
      twice t d =
          let st : s ≡ t = has_one sys m b s t is d.second.is in
          let same : d.earlier.2.name ≡ s.name = d.earlier.5 ∙ ap (λ (x : Signature). x.name) (sym st) in
          old.none s.name none_yet d.earlier.0 d.earlier.1 d.earlier.2 d.earlier.4 (d.earlier.3, same)

  pub noted_turn : (ss : List Signature) → module_of sys m ≡ Some ss → b ≡ length ss → Noted sys map (suc m) 0
  noted_turn ss of end = record {
    found = λ name e f. noted_further sys e name m b (old.found name e f);
    none = λ name f. clear_turn sys (IsNamed sys name) (named_is sys name) m ss of (subst (λ (x : ℕ). Clear sys (IsNamed sys name) m x) end (old.none name f));
    clear = clear_turn sys (Duplicates sys) (twice_is sys) m ss of (subst (λ (x : ℕ). Clear sys (Duplicates sys) m x) end old.clear);
  }

  -- an ENT brick of a name that is noted
  pub first_duplicate : (e : Entry) (s : Signature) → HasBrick sys m b s → s.kind ≡ matching.Ent → entry_in map s.name ≡ Some e → IsFirst sys (Duplicates sys) m b s
  first_duplicate e s is ent h = let x : IsNoted sys e s.name m b = old.found s.name e h in record {
    is = record {
      second = record { is = is; kind = ent };
      earlier = (e.module, e.brick, x.signature, x.is, x.before, x.named);
    };
    first = old.clear;
  }

-- ---- bricks as the code comes to them

some_of : (o : Option Entry) (q : Bool) → q ≡ not (is_some o) → q ≡ false → (e : Entry) × (o ≡ Some e)
some_of None q e f = absurd cc
some_of (Some x) q e f = (x, refl)

none_of : (o : Option Entry) (q : Bool) → q ≡ not (is_some o) → q ≡ true → o ≡ None
none_of None q e f = refl
none_of (Some x) q e f = absurd cc

module _ (sys : System) (map : Names) (m b : ℕ) (old : Noted sys map m b) (t : ModeTable) (x : Brick) (has : HasBrick sys m b (signature t x)) where
  -- the name, as it is looked for, and whether it is new
  module _ (ent : is_ent x.kind ≡ true) (n : List ℕ) (is_name : n ≡ x.name) (q : Bool) (new_name : q ≡ not (is_some (entry_in map n))) where
    is_new : q ≡ not (is_some (entry_in map x.name))
    is_new = new_name ∙ ap (λ (y : List ℕ). not (is_some (entry_in map y))) is_name

    pub duplicate_here : q ≡ false → (name : List ℕ) → name ≡ x.name → (k : ℕ) × FirstIn sys (Duplicates sys) k name
    duplicate_here f name same =
        let y = some_of (entry_in map x.name) q is_new f in
        (m, record { brick = b; signature = signature t x; first = first_duplicate sys map m b old y.0 (signature t x) has (ent_whose x.kind ent) y.1; named = same })

    pub noted_entry : q ≡ true → (new : Names) (e : Entry) → e.module ≡ m → e.brick ≡ b → ((k : List ℕ) → entry_in new k ≡ cond (bytes_eq n k) (Some e) (entry_in map k)) → Noted sys new m (suc b)
    noted_entry f new entry em eb updates =
        noted_new sys map m b old new entry (signature t x) has (ent_whose x.kind ent) em eb (none_of (entry_in map x.name) q is_new f)
        (λ k. updates k ∙ ap (λ (y : List ℕ). cond (bytes_eq y k) (Some entry) (entry_in map k)) is_name)

  pub noted_brick : is_ent x.kind ≡ false → Noted sys map m (suc b)
  noted_brick other = noted_other sys map m b old (signature t x) has (ent_not x.kind other)
