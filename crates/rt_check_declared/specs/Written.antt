-- Which mode is written, and which faults stand in what is written (BS 5904, modes).
use Rattle.std.specs.Prelude.{ℕ, ◌&&◌, nat_le, Bool, true, if◌then◌else◌, List, [], map, Option, Some, None}
use Rattle.rt_grammar.specs.declared.at.At.{At}
use Rattle.rt_syntax_exprs.specs.declared.tree.BasicMode.{BasicMode}
use Rattle.rt_syntax_exprs.specs.declared.tree.BasicMode.TheVariants as basic_mode
use Rattle.rt_syntax_exprs.specs.declared.tree.WrittenMode.{WrittenMode}
use Rattle.rt_syntax_exprs.specs.declared.tree.WrittenMode.TheFolds.{fold-WrittenMode}
use Rattle.rt_syntax_exprs.specs.declared.tree.WrittenMode.TheOpen.{WrittenMode-F}
use Rattle.rt_modes.specs.declared.mode.Mode.{Mode, out-Mode}
use Rattle.rt_modes.specs.declared.mode.Mode.TheOpen.{Mode-F}
use Rattle.rt_modes.specs.declared.mode.Mode.TheVariants as mode
use Rattle.rt_check_faults.specs.declared.fault.CheckFault.TheVariants as fault
use Rattle.rt_exprs.specs.declared.scope.Meaning.{Meaning}
use Rattle.rt_exprs.specs.declared.scope.Meaning.TheVariants as meaning
use Rattle.rt_check_declared.specs.declared.written.Resolved.{Resolved}
use Rattle.rt_check_declared.specs.declared.written.Resolved.TheVariants as resolved
use Rattle.rt_check_declared.specs.declared.site.Site.{Site}
use Rattle.rt_check_declared.specs.declared.site.Site.TheVariants as site
use Rattle.rt_check_declared.specs.Verdicts.{Verdict, fit, unfit, ◌>>=◌, both, all_from}

-- what names stand for
abbrev pub Names : Type 0
Names = List ℕ → Option Meaning

-- a mode at any place
abbrev pub Anywhere : Type 0
Anywhere = Site → Verdict Mode

-- A record is the mode of a field, of an item, of elements, or of what a REF leads to.
abbrev pub record_at : At → ℕ → Anywhere
record_at at r site.Item = fit (mode.Record r)
record_at at r site.Inside = fit (mode.Record r)
record_at at r site.Variable = unfit (fault.LeftOut 3 at) []
record_at at r site.Argument = unfit (fault.LeftOut 3 at) []

-- a name that is declared, but no MODE, is unknown as a mode
abbrev pub named : At → Option Meaning → Anywhere
named at (Some (meaning.Mode r)) place = record_at at r place
named at _ place = unfit (fault.UnknownName at) []

abbrev pub basic : At → BasicMode → Verdict Mode
basic at basic_mode.Byte = fit mode.Byte
basic at basic_mode.Int = fit mode.Int
basic at basic_mode.Frac = fit mode.Frac
basic at basic_mode.Label = unfit (fault.LeftOut 1 at) []

-- An array is the mode of a field or of an item.
abbrev pub array_at : At → ℕ → Mode → Anywhere
array_at at n m site.Item = fit (mode.Array n m)
array_at at n m site.Variable = unfit (fault.LeftOut 3 at) []
array_at at n m site.Inside = unfit (fault.LeftOut 4 at) []
array_at at n m site.Argument = unfit (fault.LeftOut 4 at) []

abbrev pub argument : Anywhere → Verdict Mode
argument f = f site.Argument

abbrev pub optional : Option Anywhere → Verdict (Option Mode)
optional None = fit None
optional (Some f) = f site.Argument >>= λ m. fit (Some m)

-- a PROC, by its parameters and its result
abbrev pub procedure : Verdict (List Mode) → Verdict (Option Mode) → Verdict Mode
procedure ps r = both ps r >>= λ x. fit (mode.Proc x.0 x.1)

module _ (names : Names) where
  abbrev pub judge : WrittenMode-F Anywhere → Anywhere
  judge (WrittenMode-F.Name i) place = named i.at (names i.name) place
  judge (WrittenMode-F.Basic b at) place = basic at b
  judge (WrittenMode-F.Array n f at) place = f site.Inside >>= λ m. array_at at n m place
  judge (WrittenMode-F.Ref f at) place = f site.Inside >>= λ m. fit (mode.Ref m)
  judge (WrittenMode-F.RefArray f at) place = f site.Inside >>= λ m. fit (mode.RefArray m)
  judge (WrittenMode-F.Proc fs r at) place = procedure (all_from (fit []) (map argument fs)) (optional r)

  -- the mode that is written at a place, its length aside
  abbrev pub judged : WrittenMode → Anywhere
  judged = fold-WrittenMode Anywhere judge

-- An array has 1 to 8,191 elements.
abbrev pub length_fits : Mode-F Mode → Bool
length_fits (Mode-F.Array n m) = nat_le 1 n && nat_le n 8191
length_fits _ = true

abbrev pub counted : Mode → Resolved
counted m = if length_fits (out-Mode m) then resolved.Mode m else resolved.BadLength

-- the mode that is written, or that it is an array whose length is out of range
abbrev pub written : Names → WrittenMode → Site → Verdict Resolved
written names w place = judged names w place >>= λ m. fit (counted m)
