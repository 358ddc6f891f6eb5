-- Systems with all their modules.
use Rattle.std.proofs.Common.{◌≡◌, ℕ, ◌≤◌, true, List, length, Option, ap, subst, arith}
use Rattle.rt_object.specs.declared.object.ObjectParts.{ObjectParts}
use Rattle.rt_outside.specs.Files.{Files}
use Rattle.rt_system.specs.declared.parts.Entry.{Entry}
use Rattle.rt_system.specs.declared.parts.SystemParts.{SystemParts}
use Rattle.rt_accept.specs.Reading.{HasSystem, RefusesSystem, IsUnaccepted, IsDeclined}
use Rattle.rt_accept.specs.declared.reading.Unaccepted.{Unaccepted}
use Rattle.rt_accept.specs.Systems.{HaveEntries, RefusesEntries, IsReadAmong, RefusesModules, in_text, in_line, IsInTurn, text, line}
use Rattle.rt_accept.proofs.Declined.{one_file, among}
use Rattle.rt_accept.proofs.Lines.{as_many}

module _ (files : Option Files) (name : List ℕ) where
  -- the text isn't accepted
  pub text_declined : (reads now : List ℕ → ℕ) (u : Unaccepted) → IsUnaccepted (RefusesSystem files true name) name reads now u → IsDeclined (IsInTurn files name) (RefusesModules files name) reads now u
  text_declined reads now u h = one_file (IsInTurn files name) (RefusesModules files name) reads now (RefusesSystem files true name) name u text (λ f k. in_text k) h

  module _ (later : Option Files) (s : SystemParts) (entries : List Entry) (same : later ≡ files) (lent : entries ≡ s.entries) (has : HasSystem files true name s) where
    -- a line isn't accepted
    pub lines_declined : (reads between now : List ℕ → ℕ) (u : Unaccepted) → ((file : List ℕ) → reads file ≤ between file) → IsDeclined (IsReadAmong later entries) (RefusesEntries later entries) between now u → IsDeclined (IsInTurn files name) (RefusesModules files name) reads now u
    lines_declined reads between now u r h =
        among (IsInTurn files name) (RefusesModules files name) reads now (IsReadAmong files s.entries) (RefusesEntries files s.entries) between u r
        (λ file k. line has k)
        (λ f k. in_line has k)
        (subst (λ es. IsDeclined (IsReadAmong files es) (RefusesEntries files es) between now u) lent (subst (λ fs. IsDeclined (IsReadAmong fs entries) (RefusesEntries fs entries) between now u) same h))

    -- there are no more objects than lines
    pub few : (objects : List ObjectParts) → HaveEntries later entries objects → length s.entries ≤ 64 → length objects ≤ 64
    few objects h l =
        let many : length objects ≡ length entries = as_many later entries objects h in
        let these : length entries ≡ length s.entries = ap length lent in
        omega (arith, many, these, l)
