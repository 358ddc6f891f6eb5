-- What a store holds after one more file.
use Rattle.std.proofs.Common.{◌≡◌, ℕ, ◌+◌, ◌==◌, List, [], ◌∷◌, ◌++◌, length, true, false, if◌then◌else◌, Option, Some, None, All, refl, sym, ap, ◌∙◌, subst, arith}
use Rattle.std.specs.Option.{option_to_list}
use Rattle.std.specs.Str.{bytes_eq}
use Rattle.std.proofs.lemmas.Bool.Decides.{nat_tests}
use Rattle.rt_outside.specs.declared.shelf.Place.{Place}
use Rattle.rt_outside.specs.Held.{first_of}
use Rattle.rt_outside.specs.Places.{file_at, kept, IsPlace, HasNoName}
use Rattle.rt_outside.proofs.Kept.{kept-push, kept-append, file_at-new, first_of-unnamed}

-- the files of a store: the one without a name, those with one, and those given
abbrev pub all_files : List ℕ → Option Place → List Place → List (List ℕ × List ℕ) → List (List ℕ × List ℕ)
all_files log unnamed named given = kept log (option_to_list unnamed) ++ (kept log named ++ given)

-- the new file where a name is its own, and else the file that was there
abbrev pub Replaces : List ℕ → List ℕ → List (List ℕ × List ℕ) → List (List ℕ × List ℕ) → List ℕ → Type 0
Replaces name bytes before now other = first_of now other ≡ (if bytes_eq name other then Some bytes else first_of before other)

module _ (log : List ℕ) (unnamed : Option Place) (named : List Place) (given : List (List ℕ × List ℕ))
    (no_name : All HasNoName (option_to_list unnamed)) where
  abbrev rest : List (List ℕ × List ℕ)
  rest = kept log named ++ given

  without_name : (bytes other : List ℕ) → Replaces [] bytes (all_files log unnamed named given) (([], bytes) ∷ rest) other
  without_name bytes [] = refl
  without_name bytes (c ∷ other) = sym (first_of-unnamed log unnamed rest c other no_name)

  with_name : (c : ℕ) (name bytes other : List ℕ) → Replaces (c ∷ name) bytes (all_files log unnamed named given) (kept log (option_to_list unnamed) ++ ((c ∷ name, bytes) ∷ rest)) other
  with_name c name bytes [] =
      elim unnamed as (λ u. Replaces (c ∷ name) bytes (kept log (option_to_list u) ++ rest) (kept log (option_to_list u) ++ ((c ∷ name, bytes) ∷ rest)) []) [ None ↦ refl | Some p ↦ refl ]
  with_name c name bytes (d ∷ other) =
      first_of-unnamed log unnamed ((c ∷ name, bytes) ∷ rest) d other no_name
      ∙ ap (λ old. if bytes_eq (c ∷ name) (d ∷ other) then Some bytes else old) (sym (first_of-unnamed log unnamed rest d other no_name))

  module _ (name bytes : List ℕ) (p : Place) (unnamed_place : All (IsPlace (length log)) (option_to_list unnamed)) (named_place : All (IsPlace (length log)) named)
      (from : p.from ≡ length log) (middle : p.middle ≡ length log + length name) (to : p.to ≡ length log + length name + length bytes) where
    puts_unnamed : name ≡ [] → (other : List ℕ) → Replaces name bytes (all_files log unnamed named given) (all_files (log ++ (name ++ bytes)) (Some p) named given) other
    puts_unnamed none other =
        let new : file_at (log ++ (name ++ bytes)) p ≡ (name, bytes) = file_at-new log name bytes p from middle to in
        let old : kept (log ++ (name ++ bytes)) named ≡ kept log named = kept-append log (name ++ bytes) named named_place in
        let now : all_files (log ++ (name ++ bytes)) (Some p) named given ≡ (name, bytes) ∷ rest =
        ap (λ file. file ∷ (kept (log ++ (name ++ bytes)) named ++ given)) new ∙ ap (λ files. (name, bytes) ∷ (files ++ given)) old in
        let fresh : Replaces name bytes (all_files log unnamed named given) ((name, bytes) ∷ rest) other =
        subst (λ n. Replaces n bytes (all_files log unnamed named given) ((n, bytes) ∷ rest) other) (sym none) (without_name bytes other) in
        ap (λ files. first_of files other) now ∙ fresh

    puts_named : (c : ℕ) (tail : List ℕ) → name ≡ c ∷ tail → (other : List ℕ)
        → Replaces name bytes (all_files log unnamed named given) (all_files (log ++ (name ++ bytes)) unnamed (named ++ p ∷ []) given) other
    puts_named c tail some other =
        let grown : List ℕ = log ++ (name ++ bytes) in
        let new : file_at grown p ≡ (name, bytes) = file_at-new log name bytes p from middle to in
        let old : kept grown named ≡ kept log named = kept-append log (name ++ bytes) named named_place in
        let apart : kept grown (option_to_list unnamed) ≡ kept log (option_to_list unnamed) = kept-append log (name ++ bytes) (option_to_list unnamed) unnamed_place in
        let more : kept grown (named ++ p ∷ []) ≡ (name, bytes) ∷ kept log named =
        kept-push grown named p ∙ ap (λ file. file ∷ kept grown named) new ∙ ap (λ files. (name, bytes) ∷ files) old in
        let now : all_files grown unnamed (named ++ p ∷ []) given ≡ kept log (option_to_list unnamed) ++ ((name, bytes) ∷ rest) =
        ap (λ files. files ++ (kept grown (named ++ p ∷ []) ++ given)) apart ∙ ap (λ files. kept log (option_to_list unnamed) ++ (files ++ given)) more in
        let fresh : Replaces name bytes (all_files log unnamed named given) (kept log (option_to_list unnamed) ++ ((name, bytes) ∷ rest)) other =
        subst (λ n. Replaces n bytes (all_files log unnamed named given) (kept log (option_to_list unnamed) ++ ((n, bytes) ∷ rest)) other) (sym some) (with_name c tail bytes other) in
        ap (λ files. first_of files other) now ∙ fresh

    -- the same, where the length tells whether there is a name
    module _ (grown : List ℕ) (is : grown ≡ log ++ (name ++ bytes)) where
      pub puts_short : true ≡ (length name == 0) → (other : List ℕ) → Replaces name bytes (all_files log unnamed named given) (all_files grown (Some p) named given) other
      puts_short short other = subst (λ l. Replaces name bytes (all_files log unnamed named given) (all_files l (Some p) named given) other) (sym is) (puts_unnamed (empty name short) other) where
        empty : (l : List ℕ) → true ≡ (length l == 0) → l ≡ []
        empty [] e = refl
        empty (x ∷ l) e = grind (arith, nat_tests)

      pub puts_long : false ≡ (length name == 0) → (other : List ℕ) → Replaces name bytes (all_files log unnamed named given) (all_files grown unnamed (named ++ p ∷ []) given) other
      puts_long long other =
          let split = some name long in
          subst (λ l. Replaces name bytes (all_files log unnamed named given) (all_files l unnamed (named ++ p ∷ []) given) other) (sym is) (puts_named split.0 split.1 split.2 other) where
            some : (l : List ℕ) → false ≡ (length l == 0) → (c : ℕ) × (tail : List ℕ) × (l ≡ c ∷ tail)
            some [] e = grind (arith, nat_tests)
            some (x ∷ l) e = (x, l, refl)
