-- What a name stands for, and the string that begins at an item.
use Rattle.std.specs.Prelude.{ℕ, ◌==◌, true, List, [], ◌∷◌, Option, Some, None, Ok, Err, position}
use Rattle.std.specs.Str.{bytes_eq}
use Rattle.std.specs.Map.{lookup}
use Rattle.rt_grammar.specs.declared.at.At.{At}
use Rattle.rt_check_faults.specs.declared.fault.CheckFault.TheVariants as fault
use Rattle.rt_exprs.specs.declared.scope.Meaning.{Meaning}
use Rattle.rt_exprs.specs.Sights.{Names, Sight}
use Rattle.rt_exprs.specs.Operands.{Judged, text, or_else}
use Rattle.rt_check_faults.specs.Outcomes.{Outcome}

-- the meaning of a name in the innermost level that has it
unfoldable pub find_in : List Names → List ℕ → Option Meaning
find_in [] name = None
find_in (level ∷ levels) name = or_else (lookup (bytes_eq name) level) (find_in levels name)

abbrev pub find : Sight → List ℕ → Option Meaning
find s name = find_in s.levels name

-- A string that begins at an item: its number is its place among the module's strings.
abbrev pub text_by : At → Option ℕ → Outcome Judged
text_by at None = Err (fault.WrongMode at)
text_by at (Some n) = Ok (record { found = record { at = at; is = text n }; known = true })

abbrev pub text_at : Sight → At → Outcome Judged
text_at s at = text_by at (position (λ x. x == at.item) s.strings)
