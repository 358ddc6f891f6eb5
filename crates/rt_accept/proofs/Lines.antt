-- The lines of systems, one after another.
use Rattle.std.proofs.Common.{◌≡◌, ℕ, zero, suc, ◌+◌, ◌<◌, ◌≤◌, List, [], ◌∷◌, ◌++◌, length, take, drop, get_or, Option, Result, IfErr, refl, sym, ap, ◌∙◌, subst, arith}
use Rattle.std.proofs.lemmas.List.{take_more, drop_more, take-append-drop}
use Rattle.std.specs.List.{AllByRecursion}
use Rattle.std.specs.Str.{IsAscii}
use Rattle.rt_object.specs.declared.object.ObjectParts.{ObjectParts}
use Rattle.rt_outside.specs.Files.{Files}
use Rattle.rt_system.specs.Fields.{IsFileByte}
use Rattle.rt_system.specs.declared.parts.Entry.{Entry}
use Rattle.rt_system.specs.declared.parts.Entry.TheVariants as entry
use Rattle.rt_accept.specs.Reading.{IsDeclined}
use Rattle.rt_accept.specs.declared.reading.Unaccepted.{Unaccepted}
use Rattle.rt_accept.specs.Systems.{IsFileOf, RefusesLibrary, HasEntry, RefusesEntry, HaveEntries, IsTurnOf, RefusesEntries, IsReadAmong, IsAdded}
use Rattle.rt_accept.proofs.Declined.{err_on, among}

-- the bytes of a file's name are ASCII
pub ascii : (bs : List ℕ) → AllByRecursion IsFileByte bs → IsAscii bs
ascii [] h i = omega arith
ascii (b ∷ bs) h zero = omega (arith, h.0.1)
ascii (b ∷ bs) h (suc i) = ascii bs h.1 i

module _ (files : Option Files) where
  -- the library isn't accepted
  pub library_declined : (e : Entry) (reads : List ℕ → ℕ) (r : Result ObjectParts Unaccepted) → e ≡ entry.Library → IfErr r (IsDeclined (IsFileOf entry.Library) RefusesLibrary reads reads) → IfErr r (IsDeclined (IsFileOf e) (RefusesEntry files e) reads reads)
  library_declined e reads r is h =
      subst (λ d. IfErr r (IsDeclined (IsFileOf d) (RefusesEntry files d) reads reads)) (sym is)
      (err_on (IsDeclined (IsFileOf entry.Library) RefusesLibrary reads reads) (IsDeclined (IsFileOf entry.Library) (RefusesEntry files entry.Library) reads reads) r
      (λ u k. among (IsFileOf entry.Library) (RefusesEntry files entry.Library) reads reads (IsFileOf entry.Library) RefusesLibrary reads u (λ name. omega arith) (λ name t. t) (λ f g. g) k) h)

  pub as_many : (es : List Entry) (os : List ObjectParts) → HaveEntries files es os → length os ≡ length es
  as_many [] [] h = refl
  as_many [] (o ∷ os) h = absurd h
  as_many (e ∷ es) [] h = absurd h
  as_many (e ∷ es) (o ∷ os) h = ap suc (as_many es os h.1)

  one_more : (es : List Entry) (os : List ObjectParts) (e : Entry) (o : ObjectParts) → HaveEntries files es os → HasEntry files e o → HaveEntries files (es ++ e ∷ []) (os ++ o ∷ [])
  one_more [] [] e o h k = (k, tt)
  one_more [] (p ∷ os) e o h k = absurd h
  one_more (d ∷ es) [] e o h k = absurd h
  one_more (d ∷ es) (p ∷ os) e o h k = (h.0, one_more es os e o h.1 k)

  -- the line behind those that were read
  pub added : (es : List Entry) (i : ℕ) (e : Entry) (old new : List ObjectParts) → i < length es → e ≡ get_or es i e → HaveEntries files (take i es) old → IsAdded files e old new → HaveEntries files (take (i + 1) es) new
  added es i e old new l q h k =
      let more : take (i + 1) es ≡ take i es ++ e ∷ [] = take_more es i e l ∙ ap (λ d. take i es ++ d ∷ []) (sym q) in
      subst (λ ds. HaveEntries files ds new) (sym more) (subst (HaveEntries files (take i es ++ e ∷ [])) (sym k.all) (one_more (take i es) old e k.object h k.has))

  -- it is its turn
  turn : (es : List Entry) (i : ℕ) (e : Entry) (os : List ObjectParts) → i < length es → e ≡ get_or es i e → HaveEntries files (take i es) os → IsTurnOf files es e
  turn es i e os l q h = record {
    before = take i es;
    after = drop (i + 1) es;
    lines = sym (take-append-drop i es) ∙ ap (λ ds. take i es ++ ds) (drop_more es i e l ∙ ap (λ d. d ∷ drop (i + 1) es) (sym q));
    objects = os;
    have = h;
  }

  -- it isn't accepted
  pub line_declined : (es : List Entry) (i : ℕ) (e : Entry) (os : List ObjectParts) (later : Option Files) (reads between now : List ℕ → ℕ) (u : Unaccepted) → i < length es → e ≡ get_or es i e → HaveEntries files (take i es) os → later ≡ files → ((name : List ℕ) → reads name ≤ between name) → IsDeclined (IsFileOf e) (RefusesEntry later e) between now u → IsDeclined (IsReadAmong files es) (RefusesEntries files es) reads now u
  line_declined es i e os later reads between now u l q h same r k =
      let t = turn es i e os l q h in
      among (IsReadAmong files es) (RefusesEntries files es) reads now (IsFileOf e) (RefusesEntry files e) between u r
      (λ name f. record { entry = e; turn = t; file = f })
      (λ f g. record { entry = e; turn = t; refused = g })
      (subst (λ fs. IsDeclined (IsFileOf e) (RefusesEntry fs e) between now u) same k)
